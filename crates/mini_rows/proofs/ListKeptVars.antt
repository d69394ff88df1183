-- A `var` that goes into the head of the `for` after it is kept: its names are hoisted from there as well.
use Rattle.std.specs.Prelude.{ℕ, ◌+◌, ◌≤◌, ◌≡◌, refl, Bool, false, List, [], ◌++◌, Option}
use Rattle.std.proofs.Common.{ap, ◌∙◌, sym, subst, arith, append_assoc}
use Rattle.std.proofs.lemmas.List.{append-nil}
use Rattle.mini_model.specs.declared.kind.VariableDeclarationKind.TheVariants.{Var}
use Rattle.mini_model.specs.declared.name.Name.{Name}
use Rattle.mini_model.specs.declared.name.SymbolId.{SymbolId}
use Rattle.mini_model.specs.declared.place.Position.TheVariants.{StatementList}
use Rattle.mini_model.specs.Tree.{Tree, Trees, none, ◌▸◌, absent, listed}
use Rattle.mini_model.specs.Paths.{append}
use Rattle.mini_laws.specs.declared.names.Use.{Use}
use Rattle.mini_laws.specs.declared.names.Use.TheVariants.{Read}
use Rattle.mini_laws.specs.declared.names.Declared.{Declared}
use Rattle.mini_laws.specs.declared.names.Declared.TheVariants as declared
use Rattle.mini_laws.specs.declared.names.Targets.{Targets}
use Rattle.mini_laws.specs.DeclaredNames.{names_of, body_names}
use Rattle.mini_laws.specs.Resolved.{Environment}
use Rattle.mini_laws.specs.Symbols.{declared as declared_in, times}
use Rattle.mini_laws.specs.Early.{own_declarations, declarations}
use Rattle.mini_laws.proofs.Changes.{times_both}
use Rattle.mini_laws.specs.Value.{Variable}
use Rattle.mini_laws.specs.Bodies.{Around, Body}
use Rattle.mini_kept.specs.Carried.{numbers, all_numbers}
use Rattle.mini_kept.specs.Frames.{Frame}
use Rattle.mini_kept.specs.KeepsNames.{count_of}
use Rattle.mini_kept.proofs.Below.{both_counts}
use Rattle.mini_kept.proofs.Unplaced.{as_body, own_both}
use Rattle.mini_rows.specs.Lists.{Row68Free, Row68Init}
use Rattle.mini_rows.specs.Arranged.{KeptAt}
use Rattle.mini_rows.specs.Sketches.{AsWholeItem, AsValue}
use Rattle.mini_rows.proofs.Arranging.{Any, sum_all}
use Rattle.mini_rows.proofs.ArrangedNames.{ScopedAs, symbol_times, number_times, InnerIf, inner_local, Once, Aimed}
use Rattle.mini_rows.proofs.ArrangedBodies.{HasBodies, HasFrames, Declares, FixedBy, fixed_local}
use Rattle.mini_rows.proofs.ListKeptStretch.{NamesStretched, Stretched, stretch_kept}
use Rattle.mini_rows.proofs.ListKeptDeclarations.{over, names_one as declarations_named, stretched_one as declarations_stretched}
use Rattle.mini_rows.proofs.ListKeptHeads.{nothing_there, Seat, Loop, seated, rest, inner_down, inner_up, fixed_down, fixed_up, declares_down, declares_up, frames_down, frames_up, bodies_down, bodies_up, numbers_beside, aimed_down, aimed_up, Unlexical, once_down, once_up, scoped_down, scoped_up, symbols_beside, seated_symbols, hoisted_beside, seated_body, seated_as_body, seated_port, seated_calm}
use Rattle.mini_rows.proofs.StatementUses.{same_symbols}

-- ---- a `var`

abbrev var : Trees → Tree
var ds = over Var (listed ds)

var_unlexical : (ds : Trees) → Unlexical (var ds)
unfolding names_of declarations
var_unlexical ds = record { names = refl; nowhere = λ p. refl }

absent_unlexical : Unlexical absent
unfolding names_of declarations
absent_unlexical = record { names = refl; nowhere = λ p. refl }

var_body : (ds : Trees) → body_names (var ds) ≡ names_of declared.Hoisted (var ds)
unfolding body_names names_of
var_body ds = refl

var_as_body : (o : Bool) (ds : Trees) → as_body o (var ds) ≡ own_declarations false [] (names_of declared.Hoisted (var ds))
unfolding names_of
var_as_body o ds = refl

-- its symbols are hoisted, however its names are used around
var_symbols : (u : Use) (x : Option SymbolId) (ds : Trees) → times x (declared_in u (var ds)) ≡ times x (declared_in Read (var ds))
var_symbols u x ds = ap (times x) (same_symbols (var ds) refl u Read)

-- ---- what was declared before the loop and in its head, and is declared there now

record Merges (ds : Trees) (d j : Tree) : Type 0 where
  unlexical : Unlexical d
  written : Unlexical j
  hoisted : names_of declared.Hoisted j ≡ names_of declared.Hoisted (var ds) ++ names_of declared.Hoisted d
  inner : (x : Bool) → InnerIf x AsValue (var ds) → InnerIf x AsValue d → InnerIf x AsValue j
  inner_back : (x : Bool) → InnerIf x AsValue j → InnerIf x AsValue (var ds) × InnerIf x AsValue d
  fixed : (x : Variable) (k : ℕ) → FixedBy x k AsValue (var ds) → FixedBy x k AsValue d → FixedBy x k AsValue j
  fixed_back : (x : Variable) (k : ℕ) → FixedBy x k AsValue j → FixedBy x k AsValue (var ds) × FixedBy x k AsValue d
  declares : (xs : List Name) → Declares xs AsValue (var ds) → Declares xs AsValue d → Declares xs AsValue j
  frames : (fs : List Frame) → HasFrames fs AsValue (var ds) → HasFrames fs AsValue d → HasFrames fs AsValue j
  bodies : (bs : List Body) (r : Around) → HasBodies bs r AsValue (var ds) → HasBodies bs r AsValue d → HasBodies bs r AsValue j
  targets : (g : Targets) → Aimed g AsValue (var ds) → Aimed g AsValue d → Aimed g AsValue j
  scoped : (env : Environment) → ScopedAs Read env AsValue (var ds) → ScopedAs Read env AsValue d → ScopedAs Read env AsValue j
  once : Once AsValue (var ds) → Once AsValue d → Once AsValue j
  numbers : (k : ℕ) → number_times k AsValue j ≤ number_times k AsValue (var ds) + number_times k AsValue d
  symbols : (x : Option SymbolId) → symbol_times Read x AsValue j ≤ symbol_times Read x AsValue (var ds) + symbol_times Read x AsValue d

free_merges : (ds : Trees) → Merges ds absent (var ds)
unfolding names_of
free_merges ds = record {
  unlexical = absent_unlexical;
  written = var_unlexical ds;
  hoisted = sym (append-nil (names_of declared.Hoisted (var ds)));
  inner = λ x p q. p;
  inner_back = λ x p. (p, nothing_there Any (InnerIf x) (inner_local x));
  fixed = λ x k p q. p;
  fixed_back = λ x k p. (p, nothing_there Any (FixedBy x k) (fixed_local x k));
  declares = λ xs p q. p;
  frames = λ fs p q. p;
  bodies = λ bs r p q. p;
  targets = λ g p q. p;
  scoped = λ env p q. p;
  once = λ p q. p;
  numbers = λ k. omega arith;
  symbols = λ x. omega arith;
}

module _ (ds es : Trees) where
  of_both : Stretched (var ds ▸ (var es ▸ none)) (var (append ds es) ▸ none)
  of_both = declarations_stretched Var ds es

  names_both : NamesStretched (var ds ▸ (var es ▸ none)) (var (append ds es) ▸ none)
  names_both = declarations_named Var ds es

  both_merge : Merges ds (var es) (var (append ds es))
  both_merge = record {
    unlexical = var_unlexical es;
    written = var_unlexical (append ds es);
    hoisted = sym (append-nil (names_of declared.Hoisted (var (append ds es)))) ∙ names_both.names declared.Hoisted ∙ ap (λ r. names_of declared.Hoisted (var ds) ++ r) (append-nil (names_of declared.Hoisted (var es)));
    inner = λ x p q. (of_both.inner x (p, (q, tt))).0;
    inner_back = λ x p. let r = of_both.inner_back x (p, tt) in (r.0, r.1.0);
    fixed = λ x k p q. (of_both.fixed x k (p, (q, tt))).0;
    fixed_back = λ x k p. let r = of_both.fixed_back x k (p, tt) in (r.0, r.1.0);
    declares = λ xs p q. (of_both.declares xs (p, (q, tt))).0;
    frames = λ fs p q. (of_both.frames fs (p, (q, tt))).0;
    bodies = λ bs r p q. (of_both.bodies bs r (p, (q, tt))).0;
    targets = λ g p q. (of_both.targets g (p, (q, tt))).0;
    scoped = λ env p q. (names_both.scoped env (p, (q, tt))).0;
    once = λ p q. (names_both.once (p, (q, tt))).0;
    numbers = λ k. omega (arith, of_both.numbers k);
    symbols = λ x. omega (arith, names_both.symbols Read x);
  }

-- ---- the declaration before, and the loop

module _ (u v w : Tree) (ds : Trees) (d j : Tree) (m : Merges ds d j) where
  abbrev s : Seat
  s = Loop u v w

  abbrev two : Trees
  two = var ds ▸ (seated s d ▸ none)

  abbrev one : Trees
  one = seated s j ▸ none

  hoists_same : names_of declared.Hoisted (seated s j) ≡ names_of declared.Hoisted (var ds) ++ names_of declared.Hoisted (seated s d)
  unfolding names_of hoisted_beside
  hoists_same = ap (λ r. r ++ hoisted_beside s) m.hoisted ∙ append_assoc (names_of declared.Hoisted (var ds)) (names_of declared.Hoisted d) (hoisted_beside s)

  names_same : (k : Declared) → names_of k (seated s j) ++ [] ≡ names_of k (var ds) ++ (names_of k (seated s d) ++ [])
  unfolding names_of
  names_same declared.Bound = refl
  names_same declared.Lexical = refl
  names_same declared.Hoisted = append-nil (names_of declared.Hoisted (seated s j)) ∙ hoists_same ∙ ap (λ r. names_of declared.Hoisted (var ds) ++ r) (sym (append-nil (names_of declared.Hoisted (seated s d))))

  body_same : body_names (seated s j) ++ [] ≡ body_names (var ds) ++ (body_names (seated s d) ++ [])
  body_same =
      append-nil (body_names (seated s j)) ∙ seated_body s j ∙ hoists_same
      ∙ (λ i. sym (var_body ds) i ++ sym (append-nil (body_names (seated s d)) ∙ seated_body s d) i)

  as_body_same : (o : Bool) → as_body o (seated s j) ++ [] ≡ as_body o (var ds) ++ (as_body o (seated s d) ++ [])
  as_body_same o =
      append-nil (as_body o (seated s j)) ∙ seated_as_body o s j ∙ ap (own_declarations false []) hoists_same
      ∙ own_both false (names_of declared.Hoisted (var ds)) (names_of declared.Hoisted (seated s d))
      ∙ (λ i. sym (var_as_body o ds) i ++ sym (append-nil (as_body o (seated s d)) ∙ seated_as_body o s d) i)

  symbols_one : (k : Use) (x : Option SymbolId) → sum_all (symbol_times k x) AsWholeItem one ≤ sum_all (symbol_times k x) AsWholeItem two
  symbols_one k x =
      let beside = symbols_beside k s in
      let of_joined = ap (times x) (seated_symbols k s j m.written) in
      let of_first = ap (times x) (seated_symbols k s d m.unlexical) in
      omega (arith, of_joined, of_first, times_both x (declared_in Read j) beside, times_both x (declared_in Read d) beside, var_symbols k x ds, m.symbols x)

  numbers_one : (k : ℕ) → sum_all (number_times k) AsWholeItem one ≤ sum_all (number_times k) AsWholeItem two
  numbers_one k =
      let is = λ (t : Tree). ap (count_of k) (numbers_beside s t) in
      let both = λ (t : Tree). both_counts k (numbers t) (all_numbers (rest s)) in
      omega (arith, is j, is d, both j, both d, m.numbers k)

  names_one : NamesStretched two one
  names_one = record {
    names = names_same;
    body = body_same;
    as_body = as_body_same;
    ports = λ k. ap (λ r. r ++ []) (seated_port k s j ∙ sym (seated_port k s d));
    scoped = λ env a. let (y, r) = scoped_down env s d m.unlexical a.1.0 in (scoped_up env s j m.written (m.scoped env a.0 y) r, tt);
    symbols = symbols_one;
    once = λ a. let (y, r) = once_down s d m.unlexical a.1.0 in (once_up s j m.written (m.once a.0 y) r, tt);
  }

  stretched_one : Stretched two one
  stretched_one = record {
    named = λ strict k f. names_one;
    calm = λ strict k f. (seated_calm s j, tt);
    inner = λ x a. let (y, r) = inner_down x s d a.1.0 in (inner_up x s j (m.inner x a.0 y) r, tt);
    inner_back = λ x a. let (y, r) = inner_down x s j a.0 in let (p, q) = m.inner_back x y in (p, (inner_up x s d q r, tt));
    fixed = λ x k a. let (y, r) = fixed_down x k s d a.1.0 in (fixed_up x k s j (m.fixed x k a.0 y) r, tt);
    fixed_back = λ x k a. let (y, r) = fixed_down x k s j a.0 in let (p, q) = m.fixed_back x k y in (p, (fixed_up x k s d q r, tt));
    declares = λ xs a. let (y, r) = declares_down xs s d a.1.0 in (declares_up xs s j (m.declares xs a.0 y) r, tt);
    frames = λ fs a. let (y, r) = frames_down fs s d a.1.0 in (frames_up fs s j (m.frames fs a.0 y) r, tt);
    bodies = λ bs k a. let (y, r) = bodies_down bs k s d a.1.0 in (bodies_up bs k s j (m.bodies bs k a.0 y) r, tt);
    targets = λ g a. let (y, r) = aimed_down g s d a.1.0 in (aimed_up g s j (m.targets g a.0 y) r, tt);
    numbers = numbers_one;
  }

  loop_kept : (before after : Trees) (n t : Tree) (a b : Trees) → a ≡ two → b ≡ one → n ≡ listed (append before (append a after)) → t ≡ listed (append before (append b after)) → KeptAt StatementList n t
  loop_kept before after n t a b p q f g =
      subst (λ x. KeptAt StatementList x t) (sym (f ∙ ap (λ ts. listed (append before (append ts after))) p))
      (subst (KeptAt StatementList (listed (append before (append two after)))) (sym (g ∙ ap (λ ts. listed (append before (append ts after))) q)) (stretch_kept before after two one stretched_one))

-- ---- rows

-- `var a; for (; b; c) d` and `for (var a; b; c) d` in a list
pub free_kept : (before after : Trees) (n w : Tree) (a b : Trees) → Row68Free a b → n ≡ listed (append before (append a after)) → w ≡ listed (append before (append b after)) → KeptAt StatementList n w
free_kept before after n w a b r f g = loop_kept r.test r.update r.body r.ds absent (var r.ds) (free_merges r.ds) before after n w a b r.shape r.written f g

-- `var a; for (var b; c; d) e` and `for (var a, b; c; d) e`
pub init_kept : (before after : Trees) (n w : Tree) (a b : Trees) → Row68Init a b → n ≡ listed (append before (append a after)) → w ≡ listed (append before (append b after)) → KeptAt StatementList n w
init_kept before after n w a b r f g = loop_kept r.test r.update r.body r.ds (var r.es) (var (append r.ds r.es)) (both_merge r.ds r.es) before after n w a b r.shape r.written f g

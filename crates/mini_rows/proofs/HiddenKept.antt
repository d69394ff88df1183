-- The declaration of a name that goes, with a loop after it that hides its names first and reads that name, and what is written for them with
-- a constant in its place: what they have.
use Rattle.std.specs.Prelude.{ℕ, ◌+◌, ◌≡◌, refl, Bool, true, false, List, [], ◌∷◌, ◌++◌, Option}
use Rattle.std.proofs.Common.{ap, ◌∙◌, sym, subst, subst₂, arith, inl, inr}
use Rattle.mini_model.specs.declared.kind.VariableDeclarationKind.{VariableDeclarationKind}
use Rattle.mini_model.specs.declared.name.Name.{Name}
use Rattle.mini_model.specs.declared.name.SymbolId.{SymbolId}
use Rattle.mini_model.specs.declared.shape.Shape.TheVariants as shape
use Rattle.mini_model.specs.Tree.{Tree, Trees, none, ◌▸◌, absent, shape_of, identifier, is_absent}
use Rattle.mini_laws.specs.declared.names.Binding.{Binding}
use Rattle.mini_laws.specs.declared.names.Declared.TheVariants as declared
use Rattle.mini_laws.specs.declared.names.Targets.{Targets}
use Rattle.mini_laws.specs.declared.names.Use.TheVariants.{Read}
use Rattle.mini_laws.specs.DeclaredNames.{lexical_names, names_of, body_names, has_inner}
use Rattle.mini_laws.specs.Early.{declarations, own_declarations, scope_declarations, early_names, all_early_names, clashing}
use Rattle.mini_laws.specs.Naming.{is_lexical}
use Rattle.mini_laws.specs.Resolved.{Environment}
use Rattle.mini_laws.specs.Scopes.{use_of, scopes_by, lexical_scope, at_or_empty}
use Rattle.mini_laws.specs.Scoped.{Scoped, AllScoped, Unmentioned}
use Rattle.mini_laws.specs.Symbols.{declared as declared_in, declared_from, symbols_in, times}
use Rattle.mini_laws.specs.Bodies.{Body, Around}
use Rattle.mini_laws.specs.Value.{Variable}
use Rattle.mini_laws.proofs.Changes.{times_both}
use Rattle.mini_kept.specs.Frames.{Frame}
use Rattle.mini_kept.specs.Loosely.{symbol}
use Rattle.mini_kept.proofs.Anywhere.{once_anywhere}
use Rattle.mini_kept.proofs.Below.{both_empty, empty_both}
use Rattle.mini_kept.proofs.Unplaced.{as_body}
use Rattle.mini_terms.specs.Reading.{is_plain_part}
use Rattle.mini_rows.specs.Lists.{declaration, for_loop, Each, EachIn, EachOf, each_loop}
use Rattle.mini_rows.specs.Declarations.{declarator}
use Rattle.mini_rows.specs.Sketches.{Asked, AsWholeItem, AsValue, Leap}
use Rattle.mini_rows.specs.Unused.{names, any_names, declared_among, declared_left, put_first, is_closed, reads_head, reads_hidden, takes}
use Rattle.mini_rows.proofs.Arranging.{All, Any, Local}
use Rattle.mini_rows.proofs.ArrangedNames.{ScopedAs, scoped_local, symbol_times, symbols_summed, number_times, numbers_summed, InnerIf, inner_local, Once, once_local, HasTarget, Aimed, aimed_local}
use Rattle.mini_rows.proofs.ArrangedBodies.{HasBodies, bodies_local, HasFrames, frames_local, Declares, declares_local, FixedBy, fixed_local}
use Rattle.mini_rows.proofs.ArrangedValues.{is_value}
use Rattle.mini_rows.proofs.DeclaredKept.{Named, unmentioned_left, scoped_both, symbols_both, numbers_both, inner_both, once_both, targets_both, frames_both, bodies_both, declares_both, fixed_both, inner_back, fixed_back, named_names, named_declares}
use Rattle.mini_rows.proofs.HeadKept.{head_leaves, head_names, head_declares}
use Rattle.mini_rows.proofs.HiddenHeads.{closed_scoped, Hidden, hidden, Taken, taken}
use Rattle.mini_rows.proofs.HiddenMeaning.{hidden_unnamed}
use Rattle.mini_rows.proofs.ListKeptBegun.{through, inner_seat, fixed_seat, declares_seat, frames_seat, bodies_seat, targets_seat, seat_numbers, summed_through}
use Rattle.mini_rows.proofs.ListKeptHeads.{Loop, seated}
use Rattle.mini_rows.proofs.ListKeptKeys as keys
use Rattle.mini_rows.proofs.ListKeptSpots as spots
use Rattle.mini_rows.proofs.ListKeptValues.{Opens}
use Rattle.mini_rows.proofs.OpeningKept.{plain_value, led_value, found_value}
use Rattle.mini_rows.proofs.SingleUse.{Step, led, Well, swapped, taken as taken_out, swapped_sum, path, found, swapped_back, both_there, plain_there}
use Rattle.mini_rows.proofs.UnusedKept.{LeavesThere, NamesThere, DeclaresThere}
use Rattle.mini_rows.proofs.UnusedNames.{unmentioned}

-- ---- a loop with an expression in it that is evaluated in the scope of the loop's names

-- from which names to which
record OpensIn (env inner : Environment) (hold : Tree → Tree) (e d : Tree) : Type 1 where
  Beside : Type 0
  down : Scoped Read env (hold e) → Scoped Read inner e × Beside
  up : Scoped Read inner d → Beside → Scoped Read env (hold d)

record Hides (hold : Tree → Tree) : Type 1 where
  inner : (b : Bool) (e d : Tree) → Opens (InnerIf b) hold e d
  fixed : (z : Variable) (j : ℕ) (e d : Tree) → Opens (FixedBy z j) hold e d
  declares : (xs : List Name) (e d : Tree) → Opens (Declares xs) hold e d
  frames : (fs : List Frame) (e d : Tree) → Opens (HasFrames fs) hold e d
  bodies : (bs : List Body) (r : Around) (e d : Tree) → Opens (HasBodies bs r) hold e d
  targets : (g : Targets) (e d : Tree) → Opens (Aimed g) hold e d
  once : (e d : Tree) → Opens Once hold e d
  within : Environment → Environment
  scoped : (env : Environment) (e d : Tree) → is_absent e ≡ is_absent d → OpensIn env (within env) hold e d
  symbols : (z : Option SymbolId) → (n : ℕ) × ((e : Tree) → symbol_times Read z AsWholeItem (hold e) ≡ symbol_times Read z AsValue e + n)
  numbers : (m : ℕ) → (n : ℕ) × ((e : Tree) → number_times m AsWholeItem (hold e) ≡ number_times m AsValue e + n)
  named : (e d : Tree) → is_value (shape_of e) ≡ true → is_value (shape_of d) ≡ true → Named (hold e) (hold d)

-- ---- a `for` over a declaration

module _ (K : VariableDeclarationKind) (id : Tree) (ds : Trees) (u v w : Tree) where
  abbrev heads : Tree → Tree
  heads t = declaration K (declarator id t ▸ ds)

  abbrev loops : Tree → Tree
  loops t = for_loop (heads t) u v w

  abbrev beside : Trees
  beside = u ▸ (v ▸ (w ▸ none))

  -- its names

  own_names : (p : List ℕ) (e d : Tree) → declarations declared.Lexical true p (heads d) ≡ declarations declared.Lexical true p (heads e)
  unfolding declarations
  own_names p e d = refl

  own_lexical : (e d : Tree) → lexical_names (heads d) ≡ lexical_names (heads e)
  unfolding names_of
  own_lexical e d = refl

  own_hoisted : (e d : Tree) → names_of declared.Hoisted (loops d) ≡ names_of declared.Hoisted (loops e)
  unfolding names_of
  own_hoisted e d = refl

  -- a declaration stands in its head as an expression does
  inside : (Q : Asked → Tree → Type 0) → ((t : Tree) → Q AsValue t → Q AsWholeItem t) → ((t : Tree) → Q AsWholeItem t → Q AsValue t) → (e d : Tree) → Opens Q (seated (Loop u v w)) (heads e) (heads d) → Opens Q heads e d → Opens Q loops e d
  inside Q f g e d o i = through Q f g heads (seated (Loop u v w)) e d o i

  -- what is declared twice

  own_clashes : List (List ℕ)
  own_clashes = clashing [] (declarations declared.Lexical true (0 ∷ []) (heads absent) ++ declarations declared.Hoisted false (3 ∷ []) w)

  beside_clashes : List (List ℕ)
  beside_clashes = all_early_names [] 1 beside

  early_is : (e : Tree) → early_names [] (loops e) ≡ own_clashes ++ (early_names (0 ∷ []) (heads e) ++ beside_clashes)
  unfolding early_names scope_declarations own_clashes beside_clashes
  early_is e = ap (λ ns. clashing [] (ns ++ declarations declared.Hoisted false (3 ∷ []) w) ++ (early_names (0 ∷ []) (heads e) ++ all_early_names [] 1 beside)) (own_names (0 ∷ []) absent e)

  once_for : (e d : Tree) → Opens Once loops e d
  once_for e d =
      let o = spots.once_first K id ds e d in
      record {
        Beside = (own_clashes ≡ []) × ((beside_clashes ≡ []) × o.Beside);
        down = λ q.
            let (a, b) = empty_both own_clashes (early_names (0 ∷ []) (heads e) ++ beside_clashes) (sym (early_is e) ∙ q) in
            let (c, f) = empty_both (early_names (0 ∷ []) (heads e)) beside_clashes b in
            let (v, r) = o.down (once_anywhere (0 ∷ []) [] (heads e) c) in
            (v, (a, (f, r)));
        up = λ q r. early_is d ∙ both_empty own_clashes (early_names (0 ∷ []) (heads d) ++ beside_clashes) r.0 (both_empty (early_names (0 ∷ []) (heads d)) beside_clashes (once_anywhere [] (0 ∷ []) (heads d) (o.up q r.1.1)) r.1.0);
      }

  -- its scope

  abbrev scope : List Binding
  scope = lexical_scope (lexical_names (heads absent))

  scope_is : (e : Tree) → lexical_scope (lexical_names (heads e)) ≡ scope
  scope_is e = ap lexical_scope (own_lexical absent e)

  abbrev Behind : List Binding → Environment → Type 0
  Behind bs env = AllScoped (at_or_empty (bs ∷ [])) (use_of shape.ForStatement Read) 1 (env ++ bs) beside

  scoped_down : (env : Environment) (e : Tree) → Scoped Read env (loops e) → Scoped Read (env ++ scope) (heads e) × Behind scope env
  unfolding Scoped scopes_by
  scoped_down env e q = let a = subst (λ bs. AllScoped (at_or_empty (bs ∷ [])) (use_of shape.ForStatement Read) 0 env (heads e ▸ beside)) (scope_is e) q.1 in (a.0, a.1)

  scoped_up : (env : Environment) (e : Tree) → Scoped Read (env ++ scope) (heads e) → Behind scope env → Scoped Read env (loops e)
  unfolding Scoped scopes_by
  scoped_up env e q r = (tt, subst (λ bs. AllScoped (at_or_empty (bs ∷ [])) (use_of shape.ForStatement Read) 0 env (heads e ▸ beside)) (sym (scope_is e)) (q, r))

  scoped_for : (env : Environment) (e d : Tree) → is_absent e ≡ is_absent d → OpensIn env (env ++ scope) loops e d
  scoped_for env e d same =
      let o = spots.scoped_first K id ds e d same (env ++ scope) in
      record {
        Beside = o.Beside × Behind scope env;
        down = λ q.
            let (a, b) = scoped_down env e q in
            let (v, r) = o.down a in
            (v, (r, b));
        up = λ q r. scoped_up env d (o.up q r.0) r.1;
      }

  symbols_beside : List (Option SymbolId)
  symbols_beside = declared_from (at_or_empty (scope ∷ [])) (use_of shape.ForStatement Read) 1 beside

  symbols_are : (z : Option SymbolId) (e : Tree) → times z (declared_in Read (loops e)) ≡ times z (symbols_in scope) + (times z (declared_in Read (heads e)) + times z symbols_beside)
  unfolding declared_in scopes_by symbols_beside
  symbols_are z e =
      let rest = declared_from (at_or_empty (scope ∷ [])) (use_of shape.ForStatement Read) 1 beside in
      ap (λ bs. times z (declared_from (at_or_empty (bs ∷ [])) (use_of shape.ForStatement Read) 0 (heads e ▸ beside))) (scope_is e) ∙ omega (arith, times_both z (symbols_in scope) (declared_in Read (heads e) ++ rest), times_both z (declared_in Read (heads e)) rest)

  symbols_for : (z : Option SymbolId) → (n : ℕ) × ((e : Tree) → symbol_times Read z AsWholeItem (loops e) ≡ symbol_times Read z AsValue e + n)
  symbols_for z =
      let (n, is) = spots.symbols_first K id ds Read z in
      (times z (symbols_in scope) + n + times z symbols_beside, λ e. omega (arith, symbols_are z e, is e))

  numbers_for : (m : ℕ) → (n : ℕ) × ((e : Tree) → number_times m AsWholeItem (loops e) ≡ number_times m AsValue e + n)
  numbers_for m = let (n, is) = seat_numbers m (Loop u v w) in summed_through (number_times m) heads (seated (Loop u v w)) n (λ e. is (heads e) tt) (spots.numbers_first K id ds m)

  named_for : (e d : Tree) → Named (loops e) (loops d)
  unfolding body_names names_of
  named_for e d =
      record {
        lexical = refl;
        still_none = refl;
        hoisted = own_hoisted e d;
        declares = as_statement false e d;
        names = refl;
        left = refl;
        declares_there = as_statement true e d;
      }
    where
      as_statement : (o : Bool) (e d : Tree) → as_body o (loops d) ≡ as_body o (loops e)
      as_statement o e d = ap (own_declarations false []) (own_hoisted e d)

  for_hides : Hides loops
  for_hides = record {
    inner = λ b e d. inside (InnerIf b) (λ t r. r) (λ t r. r) e d (inner_seat (Loop u v w) (heads e) (heads d) b) (spots.inner_first K id ds e d b);
    fixed = λ z j e d. inside (FixedBy z j) (λ t r. r) (λ t r. r) e d (fixed_seat (Loop u v w) (heads e) (heads d) z j) (spots.fixed_first K id ds e d z j);
    declares = λ xs e d. inside (Declares xs) (λ t r. r) (λ t r. r) e d (declares_seat (Loop u v w) (heads e) (heads d) xs) (spots.declares_first K id ds e d xs);
    frames = λ fs e d. inside (HasFrames fs) (λ t r. r) (λ t r. r) e d (frames_seat (Loop u v w) (heads e) (heads d) fs) (spots.frames_first K id ds e d fs);
    bodies = λ bs r e d. inside (HasBodies bs r) (λ t r. r) (λ t r. r) e d (bodies_seat (Loop u v w) (heads e) (heads d) bs r) (spots.bodies_first K id ds e d bs r);
    targets = λ g e d. inside (Aimed g) (λ t r. r) (λ t r. r) e d (targets_seat (Loop u v w) (heads e) (heads d) g) (spots.targets_first K id ds e d g);
    once = once_for;
    within = λ env. env ++ scope;
    scoped = scoped_for;
    symbols = symbols_for;
    numbers = numbers_for;
    named = λ e d p q. named_for e d;
  }

-- ---- a loop over keys or values

module _ (c : Each) (l w : Tree) where
  abbrev loops_over : Tree → Tree
  loops_over t = each_loop c l t w

  scoped_over : (env : Environment) (e d : Tree) → OpensIn env ((env ++ keys.scope l w) ++ []) loops_over e d
  unfolding Scoped scopes_by
  scoped_over env e d = record {
    Beside = keys.ScopedBeside l w env;
    down = λ q. let s = spots.to_in c l e w env q in (s.1.1.0, (s.1.0, s.1.1.1));
    up = λ q r. spots.of_in c l d w env (tt, (r.0, (q, r.1)));
  }

  no_lexical : (t : Tree) → names_of declared.Lexical (loops_over t) ≡ []
  unfolding names_of
  no_lexical t = by c
    where
      by : (c : Each) → names_of declared.Lexical (each_loop c l t w) ≡ []
      by EachIn = refl
      by EachOf = refl

  over_body : (t : Tree) → body_names (loops_over t) ≡ names_of declared.Hoisted (loops_over t)
  unfolding body_names names_of
  over_body t = by c
    where
      by : (c : Each) → body_names (each_loop c l t w) ≡ names_of declared.Hoisted (each_loop c l t w)
      by EachIn = refl
      by EachOf = refl

  named_over : (e d : Tree) → is_value (shape_of e) ≡ true → is_value (shape_of d) ≡ true → Named (loops_over e) (loops_over d)
  named_over e d p q =
      let same = spots.same_loop c l w e d p q in
      record { lexical = no_lexical e; still_none = no_lexical d; hoisted = same.names declared.Hoisted; declares = same.as_body false; names = over_body e; left = over_body d; declares_there = same.as_body true }

  over_hides : Hides loops_over
  over_hides = record {
    inner = λ b e d. spots.inner_loop c l w e d b;
    fixed = λ z j e d. spots.fixed_loop c l w e d z j;
    declares = λ xs e d. spots.declares_loop c l w e d xs;
    frames = λ fs e d. spots.frames_loop c l w e d fs;
    bodies = λ bs r e d. spots.bodies_loop c l w e d bs r;
    targets = λ g e d. spots.targets_loop c l w e d g;
    once = λ e d. spots.once_loop c l w e d;
    within = λ env. (env ++ keys.scope l w) ++ [];
    scoped = λ env e d same. scoped_over env e d;
    symbols = spots.symbols_loop c l w Read;
    numbers = spots.numbers_loop c l w;
    named = named_over;
  }

-- ---- the two statements

module _ (K : VariableDeclarationKind) (x : Name) (k : ℕ) (e : x.symbol ≡ symbol k) (first : Trees) (init : Tree) (plain : is_plain_part init ≡ true) (whole : is_closed init ≡ true) (f : any_names x first ≡ false) (hold : Tree → Tree) (o : Hides hold) (ss : List Step) (well : Well AsValue ss) (r : Name) where
  abbrev value : Tree
  value = found ss (identifier r)

  abbrev put : Tree
  put = led ss init

  abbrev earlier : Trees
  earlier = declared_among K x first init none ▸ (hold value ▸ none)

  abbrev later : Trees
  later = declared_left K first ▸ (hold put ▸ none)

  named_here : Named (hold value) (hold put)
  named_here = o.named value put (found_value ss well (identifier r) refl) (led_value ss well init (plain_value init plain))

  moved : (J : Leap → Type 0) (Q : Asked → Tree → Type 0) → Local J Q → (Q AsWholeItem (declared_among K x first init none) → Q AsWholeItem (declared_left K first) × Q AsValue init) → Opens Q hold value put → All Q AsWholeItem earlier → All Q AsWholeItem later
  moved J Q n both opens a =
      let (p, q) = both a.0 in
      let (v, b) = opens.down a.1.0 in
      (p, (opens.up (swapped J Q n AsValue ss well (identifier r) init (λ z. q) v) b, tt))

  moved_back : (Q : Asked → Tree → Type 0) → Local Any Q → Q AsValue (identifier r) → (Q AsWholeItem (declared_left K first) → Q AsValue init → Q AsWholeItem (declared_among K x first init none)) → Opens Q hold put value → All Q AsWholeItem later → All Q AsWholeItem earlier
  moved_back Q n at both opens a =
      let (v, b) = opens.down a.1.0 in
      (both a.0 (taken_out Any Q n AsValue ss well init v), (opens.up (swapped_back Any Q n AsValue ss well init (identifier r) (λ z. at) v) b, tt))

  module _ (free : names x (hold put) ≡ false) where
    hides_leaves : LeavesThere x earlier later
    unfolding Unmentioned has_inner
    hides_leaves = record {
      inner = λ b. moved Any (InnerIf b) (inner_local b) (inner_both K x init first b) (o.inner b value put);
      inner_back = λ b. moved_back (InnerIf b) (inner_local b) refl (inner_back K x init first b) (o.inner b put value);
      scoped = λ env a.
          let (p, q) = scoped_both K x init first env a.0 in
          let opens = o.scoped env value put (both_there ss init r (plain_there init plain)) in
          let inner = o.within env in
          let (v, b) = opens.down a.1.0 in
          (p, (opens.up (swapped Any (ScopedAs Read inner) (scoped_local Read inner) AsValue ss well (identifier r) init (λ z. closed_scoped init whole inner) v) b, tt));
      unmentioned = (unmentioned_left K x k e first f, (unmentioned x k e (hold put) free, tt));
      symbols = λ z.
          let parts = symbols_both K x init first z in
          let same = swapped_sum (symbol_times Read z) (symbols_summed Read z) AsValue ss well (identifier r) init in
          let (n, is) = o.symbols z in
          omega (arith, parts, same, is value, is put);
      numbered = λ m.
          let parts = numbers_both K x init first m in
          let same = swapped_sum (number_times m) (numbers_summed m) AsValue ss well (identifier r) init in
          let (n, is) = o.numbers m in
          omega (arith, parts, same, is value, is put);
      once = moved Any Once once_local (once_both K x init first) (o.once value put);
      targets = λ h. moved (HasTarget h) (Aimed h) (aimed_local h) (targets_both K x init first h) (o.targets h value put);
      framed = λ all. moved Any (HasFrames all) (frames_local all) (frames_both K x init first all) (o.frames all value put);
      bodied = λ all a. moved Any (HasBodies all a) (bodies_local all a) (bodies_both K x init first all a) (o.bodies all a value put);
      fixed = λ z j. moved Any (FixedBy z j) (fixed_local z j) (fixed_both K x init first z j) (o.fixed z j value put);
      fixed_back = λ z j n. moved_back (FixedBy z j) (fixed_local z j) (omega arith) (fixed_back K x init first z j n) (o.fixed z j put value);
      declares = λ all. moved Any (Declares all) (declares_local all) (declares_both K x init first all) (o.declares all value put);
    }

    hides_names : is_lexical K ≡ true → NamesThere x earlier later
    hides_names n = named_names K x first init f (hold value) (hold put) free named_here n

    hides_declares : DeclaresThere x earlier later
    hides_declares = named_declares K x first init f (hold value) (hold put) free named_here

-- ---- along a path

module _ (K : VariableDeclarationKind) (x : Name) (k : ℕ) (e : x.symbol ≡ symbol k) (first : Trees) (init head : Tree) (plain : is_plain_part init ≡ true) (i : names x init ≡ false) (f : any_names x first ≡ false) where
  abbrev Written : (P : Trees → Trees → Type 0) → Tree → Tree → Type 0
  Written P h w = P (declared_among K x first init none ▸ (h ▸ none)) (declared_left K first ▸ (w ▸ none))

  -- both loops, with what reads the name, or has the constant, in a place
  record Held : Type 1 where
    hold : Tree → Tree
    hides : Hides hold
    steps : List Step
    well : Well AsValue steps
    read : Name
    is : head ≡ hold (found steps (identifier read))
    puts : put_first x init head ≡ hold (led steps init)

  held : reads_hidden x head ≡ true → Held
  held once = by (hidden x head once)
    where
      by : Hidden x head → Held
      by (inl t) =
          let p = path x false t.value t.once in
          let loops = λ (u : Tree). for_loop (declaration t.kind (declarator t.binds u ▸ t.last)) t.test t.update t.body in
          record { hold = loops; hides = for_hides t.kind t.binds t.last t.test t.update t.body; steps = p.steps; well = p.well; read = p.read; is = t.is ∙ ap loops p.is; puts = t.puts init ∙ ap loops (p.puts init) }
      by (inr t) =
          let p = path x false t.value t.once in
          let loops = λ (u : Tree). each_loop t.kind t.left u t.body in
          record { hold = loops; hides = over_hides t.kind t.left t.body; steps = p.steps; well = p.well; read = p.read; is = t.is ∙ ap loops p.is; puts = t.puts init ∙ ap loops (p.puts init) }

  module _ (whole : is_closed init ≡ true) (once : reads_hidden x head ≡ true) where
    there : Held
    there = held once

    free : names x (there.hold (led there.steps init)) ≡ false
    free = sym (ap (names x) there.puts) ∙ hidden_unnamed x head once init i

    hidden_leaves : Written (LeavesThere x) head (put_first x init head)
    hidden_leaves = subst₂ (Written (LeavesThere x)) (sym there.is) (sym there.puts) (hides_leaves K x k e first init plain whole f there.hold there.hides there.steps there.well there.read free)

    hidden_names : is_lexical K ≡ true → Written (NamesThere x) head (put_first x init head)
    hidden_names n = subst₂ (Written (NamesThere x)) (sym there.is) (sym there.puts) (hides_names K x k e first init plain whole f there.hold there.hides there.steps there.well there.read free n)

    hidden_declares : Written (DeclaresThere x) head (put_first x init head)
    hidden_declares = subst₂ (Written (DeclaresThere x)) (sym there.is) (sym there.puts) (hides_declares K x k e first init plain whole f there.hold there.hides there.steps there.well there.read free)

  -- ---- whatever head it is

  module _ (t : takes x init head ≡ true) where
    by_head : (P : Trees → Trees → Type 0) → ((reads_head x head ≡ true) → Written P head (put_first x init head)) → (is_closed init ≡ true → reads_hidden x head ≡ true → Written P head (put_first x init head)) → Written P head (put_first x init head)
    by_head P g h = by (taken x init head t)
      where
        by : Taken x init head → Written P head (put_first x init head)
        by (inl (o, p)) = g o
        by (inr (c, (o, p))) = h c o

    pub taken_leaves : Written (LeavesThere x) head (put_first x init head)
    taken_leaves = by_head (LeavesThere x) (λ o. head_leaves K x k e first init head plain o i f) hidden_leaves

    pub taken_names : is_lexical K ≡ true → Written (NamesThere x) head (put_first x init head)
    taken_names n = by_head (NamesThere x) (λ o. head_names K x k e first init head plain o i f n) (λ c o. hidden_names c o n)

    pub taken_declares : Written (DeclaresThere x) head (put_first x init head)
    taken_declares = by_head (DeclaresThere x) (λ o. head_declares K x k e first init head plain o i f) hidden_declares

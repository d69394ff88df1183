-- A statement that isn't scoped, and the block of it, have the same in them.
use Rattle.std.specs.Prelude.{ℕ, zero, suc, ◌≤◌, ◌≡◌, refl, ◌||◌, Bool, true, false, List, [], ◌∷◌, ◌++◌, Contains, None, if◌then◌else◌}
use Rattle.std.proofs.Common.{ap, ◌∙◌, sym, subst, arith}
use Rattle.std.proofs.lemmas.List.{append-nil}
use Rattle.mini_model.specs.declared.kind.VariableDeclarationKind.TheVariants.{Var}
use Rattle.mini_model.specs.declared.name.Name.{Name}
use Rattle.mini_model.specs.declared.shape.Shape.{Shape}
use Rattle.mini_model.specs.declared.shape.Shape.TheVariants as shape
use Rattle.mini_model.specs.Tree.{Tree, Trees, node, none, ◌▸◌, listed}
use Rattle.mini_laws.specs.declared.names.Use.{Use}
use Rattle.mini_laws.specs.declared.names.Use.TheVariants.{Read, Alone}
use Rattle.mini_laws.specs.declared.names.Declared.{Declared}
use Rattle.mini_laws.specs.declared.names.Declared.TheVariants as declared
use Rattle.mini_laws.specs.declared.names.Place.TheVariants as place
use Rattle.mini_laws.specs.declared.names.Targets.{Targets}
use Rattle.mini_laws.specs.DeclaredNames.{bound_place, lexical_place, names_by, names_of, first_names, all_names, is_statement_list, body_names, all_body_names, with_names, has_inner}
use Rattle.mini_laws.specs.Scopes.{scopes_by, lexical_scope, opened}
use Rattle.mini_laws.specs.Resolved.{Environment, own_symbol, or_else, symbol_of}
use Rattle.mini_laws.specs.Scoped.{NamesScoped, OwnScoped, Scoped, AllScoped}
use Rattle.mini_laws.specs.Symbols.{symbols_in, declared as declared_in, times}
use Rattle.mini_laws.specs.Edits.{Kept}
use Rattle.mini_laws.specs.Early.{Path, scope_declarations, clashing, early_names, targets_of, early_jumps, body_declarations, in_body, own_declarations, holds_statements, clashes_any}
use Rattle.mini_laws.specs.Value.{Variable, choose, is_in}
use Rattle.mini_laws.specs.Naming.{summary}
use Rattle.mini_laws.specs.State.{Fixed, Writable, Constant, KeepsOld}
use Rattle.mini_laws.specs.Fixity.{stricter, fixed_by}
use Rattle.mini_laws.specs.Bodies.{Around, bodies}
use Rattle.mini_kept.specs.AlikeBodies.{BodiesKept}
use Rattle.mini_kept.specs.Carried.{numbers}
use Rattle.mini_kept.specs.Declaring.{declared as declared_names}
use Rattle.mini_kept.specs.Frames.{frames, FramesKept}
use Rattle.mini_kept.specs.KeepsNames.{unplaced, count_of}
use Rattle.mini_kept.proofs.Unplaced.{own_both, as_statement, as_body, all_as_body, body_is as declarations_as_body, free_same}
use Rattle.mini_kept.proofs.FrameLists.{same_frames}
use Rattle.mini_kept.proofs.Anywhere.{once_anywhere, targets_anywhere}
use Rattle.mini_kept.proofs.Below.{empty_both, both_empty}
use Rattle.mini_kept.proofs.BodyLists.{kept_itself}
use Rattle.mini_rows.specs.Lists.{block, is_unscoped_shape, is_unscoped, is_declarator_shape}
use Rattle.mini_rows.proofs.StatementUses.{unscoped_undeclaring, same_scopes, same_use, same_symbols}

-- around a statement that stands in another
abbrev pub quiet : Around → Around
quiet a = record a { constructs = false; is_assigned = false }

-- as a branch or a body one may stand for the other: all is kept that the statement around has to keep
pub record Inside (x y : Tree) : Type 0 where
  pub kept : Kept x y
  pub scoped : (env : Environment) → Scoped Alone env x → Scoped Alone env y
  pub numbers : (k : ℕ) → count_of k (numbers y) ≤ count_of k (numbers x)
  pub once : (q : Path) → early_names q x ≡ [] → early_names q y ≡ []
  pub targets : (a : Targets) (q : Path) → early_jumps a q x ≡ [] → early_jumps a q y ≡ []
  pub bodies : (a : Around) → BodiesKept (bodies (quiet a) x) (bodies (quiet a) y)
  pub frames : FramesKept (frames None x) (frames None y)
  pub fixed : (z : Variable) → fixed_by x z ≡ fixed_by y z
  pub declared : (z : Name) → Contains (declared_names y) z → Contains (declared_names x) z

-- ---- what the shapes of such statements say of names: all but the names of `var`s stay in them, and it is one whether they
-- stand alone or in a list

record Open (h : Shape) : Type 0 where
  bound : bound_place h ≡ place.Nowhere
  lexical : lexical_place h ≡ place.Nowhere
  statements : is_statement_list h ≡ false
  holds : holds_statements h ≡ false

open_shape : (h : Shape) → is_unscoped_shape h ≡ true → Open h
open_shape shape.ExpressionStatement e = record { bound = refl; lexical = refl; statements = refl; holds = refl }
open_shape shape.EmptyStatement e = record { bound = refl; lexical = refl; statements = refl; holds = refl }
open_shape shape.DebuggerStatement e = record { bound = refl; lexical = refl; statements = refl; holds = refl }
open_shape shape.BlockStatement e = record { bound = refl; lexical = refl; statements = refl; holds = refl }
open_shape shape.LabeledStatement e = record { bound = refl; lexical = refl; statements = refl; holds = refl }
open_shape shape.BreakStatement e = record { bound = refl; lexical = refl; statements = refl; holds = refl }
open_shape shape.ContinueStatement e = record { bound = refl; lexical = refl; statements = refl; holds = refl }
open_shape shape.ReturnStatement e = record { bound = refl; lexical = refl; statements = refl; holds = refl }
open_shape shape.ThrowStatement e = record { bound = refl; lexical = refl; statements = refl; holds = refl }
open_shape shape.IfStatement e = record { bound = refl; lexical = refl; statements = refl; holds = refl }
open_shape shape.SwitchStatement e = record { bound = refl; lexical = refl; statements = refl; holds = refl }
open_shape shape.TryStatement e = record { bound = refl; lexical = refl; statements = refl; holds = refl }
open_shape shape.WhileStatement e = record { bound = refl; lexical = refl; statements = refl; holds = refl }
open_shape shape.DoWhileStatement e = record { bound = refl; lexical = refl; statements = refl; holds = refl }
open_shape shape.ForStatement e = record { bound = refl; lexical = refl; statements = refl; holds = refl }
open_shape shape.ForInStatement e = record { bound = refl; lexical = refl; statements = refl; holds = refl }
open_shape shape.ForOfStatement e = record { bound = refl; lexical = refl; statements = refl; holds = refl }
open_shape (shape.VariableDeclaration Var) e = record { bound = refl; lexical = refl; statements = refl; holds = refl }
open_shape h e = absurd (cc e)

-- ---- names

no_bound : (c : Tree) → is_unscoped c ≡ true → names_of declared.Bound c ≡ []
unfolding names_of
no_bound (node h xs n ts) e = ap (λ p. names_by p xs (first_names ts) (all_names declared.Bound ts) (all_names declared.Bound ts)) (open_shape h e).bound

pub no_lexical : (c : Tree) → is_unscoped c ≡ true → names_of declared.Lexical c ≡ []
unfolding names_of
no_lexical (node h xs n ts) e = ap (λ p. names_by p xs (first_names ts) (all_names declared.Bound ts) (all_names declared.Lexical ts)) (open_shape h e).lexical

block_names : (d : Declared) (c : Tree) → is_unscoped c ≡ true → names_of d (block (c ▸ none)) ≡ names_of d c
unfolding names_of
block_names declared.Bound c e = sym (no_bound c e)
block_names declared.Lexical c e = sym (no_lexical c e)
block_names declared.Hoisted c e = append-nil (names_of declared.Hoisted c ++ []) ∙ append-nil (names_of declared.Hoisted c)

body_is : (c : Tree) → is_unscoped c ≡ true → body_names c ≡ names_of declared.Lexical c ++ names_of declared.Hoisted c
unfolding body_names
body_is (node h xs n ts) e = ap (λ b. if b then all_body_names ts else names_of declared.Lexical (node h xs n ts) ++ names_of declared.Hoisted (node h xs n ts)) (open_shape h e).statements

block_body : (c : Tree) → is_unscoped c ≡ true → body_names (block (c ▸ none)) ≡ body_names c
block_body c e = body_is (block (c ▸ none)) refl ∙ (λ k. block_names declared.Lexical c e k ++ block_names declared.Hoisted c e k) ∙ sym (body_is c e)

or_nothing : (b : Bool) → (b || false) ≡ b
or_nothing true = refl
or_nothing false = refl

block_inner : (c : Tree) → has_inner (block (c ▸ none)) ≡ has_inner c
unfolding has_inner
block_inner c = or_nothing (has_inner c || false) ∙ or_nothing (has_inner c)

-- no scope's names stand in the block
block_scope : (u : Use) (c : Tree) → is_unscoped c ≡ true → (i : ℕ) → opened u shape.BlockStatement (listed (c ▸ none) ▸ none) i ≡ []
unfolding scopes_by names_of with_names
block_scope u c e zero = ap (λ xs. lexical_scope (xs ++ [])) (no_lexical c e)
block_scope u c e (suc i) = refl

-- ---- symbols

block_symbols : (c : Tree) → is_unscoped c ≡ true → (u : Use) → declared_in u (block (c ▸ none)) ≡ declared_in u c
unfolding declared_in scopes_by
block_symbols c e u =
    ap (λ bs. symbols_in bs ++ ((declared_in Read c ++ []) ++ [])) (block_scope u c e 0)
    ∙ append-nil (declared_in Read c ++ []) ∙ append-nil (declared_in Read c) ∙ same_symbols c e Read u

-- a name that isn't hoisted is found in any scope
symbol_is : (s : List ℕ) (env : Environment) → symbol_of Alone s env ≡ symbol_of Read s env
symbol_is s [] = refl
symbol_is s (b ∷ env) = ap (λ o. or_else o (own_symbol Read s b)) (symbol_is s env)

names_scoped : (env : Environment) (xs : List Name) → NamesScoped Alone env xs ≡ NamesScoped Read env xs
names_scoped env [] = refl
names_scoped env (x ∷ xs) = λ k. (x.symbol ≡ symbol_is x.spelling env k) × names_scoped env xs k

own_scoped : (h : Shape) → is_declarator_shape h ≡ false → (env : Environment) (xs : List Name) (ts : Trees) → OwnScoped Alone env h xs ts ≡ OwnScoped Read env h xs ts
own_scoped shape.VariableDeclarator e env xs ts = absurd (cc e)
own_scoped h e env xs ts = names_scoped env xs

pub same_scoped : (c : Tree) → is_unscoped c ≡ true → (env : Environment) → Scoped Alone env c ≡ Scoped Read env c
unfolding Scoped
same_scoped (node h xs n ts) e env = λ k. own_scoped h (unscoped_undeclaring h e) env xs ts k × AllScoped (λ j. same_scopes Alone Read h e ts j k) (λ j. same_use Alone Read refl refl h j e k) 0 env ts

block_scoped : (c : Tree) → is_unscoped c ≡ true → (env : Environment) → Scoped Alone env (block (c ▸ none)) ≡ (Unit {0} × ((Unit {0} × (Scoped Alone env c × Unit {0})) × Unit {0}))
unfolding Scoped scopes_by
block_scoped c e env =
    ap (λ bs. Unit {0} × ((Unit {0} × (Scoped Read ((env ++ bs) ++ []) c × Unit {0})) × Unit {0})) (block_scope Alone c e 0)
    ∙ ap (λ r. Unit {0} × ((Unit {0} × (Scoped Read r c × Unit {0})) × Unit {0})) (append-nil (env ++ []) ∙ append-nil env)
    ∙ ap (λ S. Unit {0} × ((Unit {0} × (S × Unit {0})) × Unit {0})) (sym (same_scoped c e env))

-- ---- numbers, bodies, frames, what a write does

twice_nil : {A : Type 0} (xs : List A) → (xs ++ []) ++ [] ≡ xs
twice_nil xs = append-nil (xs ++ []) ∙ append-nil xs

block_numbers : (c : Tree) → numbers (block (c ▸ none)) ≡ numbers c
unfolding numbers
block_numbers c = twice_nil (numbers c)

block_bodies : (a : Around) (c : Tree) → bodies (quiet a) (block (c ▸ none)) ≡ bodies (quiet a) c
block_bodies a c = twice_nil (bodies (quiet a) c)

block_frames : (c : Tree) → frames None (block (c ▸ none)) ≡ frames None c
block_frames c = twice_nil (frames None c)

block_declared : (c : Tree) → declared_names (block (c ▸ none)) ≡ declared_names c
block_declared c = twice_nil (declared_names c)

pub no_choice : (b : Bool) → choose b Writable Writable ≡ Writable
no_choice true = refl
no_choice false = refl

stricter_none : (f : Fixed) → stricter f Writable ≡ f
stricter_none Writable = refl
stricter_none KeepsOld = refl
stricter_none Constant = refl

block_fixed : (c : Tree) (z : Variable) → fixed_by (block (c ▸ none)) z ≡ fixed_by c z
block_fixed c z =
    ap (λ f. stricter f (stricter (fixed_by (listed (c ▸ none)) z) Writable)) (no_choice (is_in z (summary (listed (c ▸ none))).lets))
    ∙ stricter_none (fixed_by (listed (c ▸ none)) z)
    ∙ ap (λ f. stricter f (stricter (fixed_by c z) Writable)) (no_choice (is_in z (summary c).lets))
    ∙ stricter_none (fixed_by c z)

-- ---- early errors

block_once : (c : Tree) (q : Path) → early_names q (block (c ▸ none)) ≡ [] → early_names q c ≡ []
unfolding early_names scope_declarations
block_once c q e =
    let (own, below) = empty_both (clashing [] (in_body false q (listed (c ▸ none) ▸ none) 0)) (early_names (q ++ 0 ∷ []) (listed (c ▸ none)) ++ []) e in
    let (list, end) = empty_both (early_names (q ++ 0 ∷ []) (listed (c ▸ none))) [] below in
    let (one, last) = empty_both (early_names ((q ++ 0 ∷ []) ++ 0 ∷ []) c) [] list in
    once_anywhere ((q ++ 0 ∷ []) ++ 0 ∷ []) q c one

-- names of `var` alone don't clash
never_any : (x : Name) (ys : List Name) → clashes_any (record { spelling = x.spelling; is_lexical = false; at = [] }) (own_declarations false [] ys) ≡ false
never_any x [] = refl
never_any x (y ∷ ys) = never_any x ys

pub hoisted_free : (ys xs : List Name) → clashing (own_declarations false [] ys) (own_declarations false [] xs) ≡ []
hoisted_free ys [] = refl
hoisted_free ys (x ∷ xs) =
    ap (λ b. if b then [] ∷ clashing (own_declarations false [] ys ++ own_declarations false [] (x ∷ [])) (own_declarations false [] xs) else clashing (own_declarations false [] ys ++ own_declarations false [] (x ∷ [])) (own_declarations false [] xs)) (never_any x ys)
    ∙ ap (λ ds. clashing ds (own_declarations false [] xs)) (sym (own_both false ys (x ∷ [])))
    ∙ hoisted_free (ys ++ x ∷ []) xs

pub as_hoisted : (c : Tree) → is_unscoped c ≡ true → as_body false c ≡ own_declarations false [] (names_of declared.Hoisted c)
as_hoisted (node h xs n ts) e =
    ap (λ b. if b then all_as_body false ts else as_statement false (node h xs n ts)) (open_shape h e).holds
    ∙ ap (λ ns. own_declarations true [] ns ++ own_declarations false [] (names_of declared.Hoisted (node h xs n ts))) (no_lexical (node h xs n ts) e)

in_block_once : (c : Tree) → is_unscoped c ≡ true → (q : Path) → early_names q c ≡ [] → early_names q (block (c ▸ none)) ≡ []
unfolding early_names scope_declarations
in_block_once c h q e =
    let none_clash = free_same (own_declarations false [] (names_of declared.Hoisted c)) (in_body false q (listed (c ▸ none) ▸ none) 0) (body_same (q ++ 0 ∷ [])) (hoisted_free [] (names_of declared.Hoisted c)) in
    both_empty (clashing [] (in_body false q (listed (c ▸ none) ▸ none) 0)) (early_names (q ++ 0 ∷ []) (listed (c ▸ none)) ++ []) none_clash
    (both_empty (early_names (q ++ 0 ∷ []) (listed (c ▸ none))) [] (both_empty (early_names ((q ++ 0 ∷ []) ++ 0 ∷ []) c) [] (once_anywhere q ((q ++ 0 ∷ []) ++ 0 ∷ []) c e) refl) refl)
  where
    unplaced_own : (xs : List Name) → unplaced (own_declarations false [] xs) ≡ own_declarations false [] xs
    unplaced_own [] = refl
    unplaced_own (x ∷ xs) = ap (λ r. record { spelling = x.spelling; is_lexical = false; at = [] } ∷ r) (unplaced_own xs)

    body_same : (p : Path) → unplaced (body_declarations false p (listed (c ▸ none))) ≡ unplaced (own_declarations false [] (names_of declared.Hoisted c))
    body_same p = declarations_as_body false p (listed (c ▸ none)) ∙ append-nil (as_body false c) ∙ as_hoisted c h ∙ sym (unplaced_own (names_of declared.Hoisted c))

block_targets : (c : Tree) (a : Targets) (q : Path) → early_jumps a q (block (c ▸ none)) ≡ [] → early_jumps a q c ≡ []
unfolding early_jumps targets_of
block_targets c a q e =
    let (list, end) = empty_both (early_jumps a (q ++ 0 ∷ []) (listed (c ▸ none))) [] e in
    let (one, last) = empty_both (early_jumps a ((q ++ 0 ∷ []) ++ 0 ∷ []) c) [] list in
    targets_anywhere a ((q ++ 0 ∷ []) ++ 0 ∷ []) q c one

in_block_targets : (c : Tree) (a : Targets) (q : Path) → early_jumps a q c ≡ [] → early_jumps a q (block (c ▸ none)) ≡ []
unfolding early_jumps targets_of
in_block_targets c a q e = both_empty (early_jumps a (q ++ 0 ∷ []) (listed (c ▸ none))) [] (both_empty (early_jumps a ((q ++ 0 ∷ []) ++ 0 ∷ []) c) [] (targets_anywhere a q ((q ++ 0 ∷ []) ++ 0 ∷ []) c e) refl) refl

-- ---- all of it

cast : {A B : Type 0} → A ≡ B → A → B
cast e a = subst (λ X. X) e a

pub unwrapped_inside : (c : Tree) → is_unscoped c ≡ true → Inside (block (c ▸ none)) c
unwrapped_inside c e = record {
  kept = record { names = λ d. sym (block_names d c e); body = sym (block_body c e); inner = sym (block_inner c); symbols = λ u x. omega (arith, ap (times x) (block_symbols c e u)) };
  scoped = λ env r. (cast (block_scoped c e env) r).1.0.1.0;
  numbers = λ k. omega (arith, ap (count_of k) (block_numbers c));
  once = block_once c;
  targets = block_targets c;
  bodies = λ a. subst (BodiesKept (bodies (quiet a) (block (c ▸ none)))) (block_bodies a c) (kept_itself (bodies (quiet a) (block (c ▸ none))));
  frames = same_frames (frames None (block (c ▸ none))) (frames None c) (block_frames c);
  fixed = block_fixed c;
  declared = λ z k. subst (λ xs. Contains xs z) (sym (block_declared c)) k;
}

pub wrapped_inside : (c : Tree) → is_unscoped c ≡ true → Inside c (block (c ▸ none))
wrapped_inside c e = record {
  kept = record { names = λ d. block_names d c e; body = block_body c e; inner = block_inner c; symbols = λ u x. omega (arith, ap (times x) (block_symbols c e u)) };
  scoped = λ env r. cast (sym (block_scoped c e env)) (tt, ((tt, (r, tt)), tt));
  numbers = λ k. omega (arith, ap (count_of k) (block_numbers c));
  once = in_block_once c e;
  targets = in_block_targets c;
  bodies = λ a. subst (λ bs. BodiesKept bs (bodies (quiet a) (block (c ▸ none)))) (block_bodies a c) (kept_itself (bodies (quiet a) (block (c ▸ none))));
  frames = same_frames (frames None c) (frames None (block (c ▸ none))) (sym (block_frames c));
  fixed = λ z. sym (block_fixed c z);
  declared = λ z k. subst (λ xs. Contains xs z) (block_declared c) k;
}

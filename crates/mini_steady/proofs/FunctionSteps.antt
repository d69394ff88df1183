-- What is done in the body of a function is done in the function.
use Rattle.std.proofs.Common.{◌≡◌, ℕ, Bool, true, false, List, [], refl, sym, ap, ◌∙◌, subst, subst₂, arith}
use Rattle.std.proofs.lemmas.Bool.{eqb-true, false≢true}
use Rattle.mini_kept.specs.Without.{Assured, BodySets}
use Rattle.mini_model.specs.declared.place.Position.{Position}
use Rattle.mini_model.specs.declared.place.Position.TheVariants.{Expr, Stmt, Method, Elsewhere}
use Rattle.mini_model.specs.declared.shape.Shape.TheVariants as shape
use Rattle.mini_model.specs.Tree.{Tree, Trees, node, none, ◌▸◌, count, children, child_or_absent}
use Rattle.mini_kept.specs.KeepsFrames.{function_over}
use Rattle.mini_node.specs.Children.{part, number_of, with_child}
use Rattle.mini_node.specs.Lends.{with_children}
use Rattle.mini_rows.specs.Steady.{Begun, nothing_begun, own_rows, OwnRows, ReadsMore, OwnStep, OwnFunctionRow, OwnFunction}
use Rattle.mini_tree.specs.Rule.{Moves, Applied}
use Rattle.mini_tree.proofs.Reaching.{moves_once, moves_trans}
use Rattle.mini_steady.specs.Chains.{Several, once, again}
use Rattle.mini_steady.specs.Functions.{is_function, AppliedInFunction, Rests, holds_function}
use Rattle.mini_steady.specs.Declarations.{declared_in, begun_by}
use Rattle.mini_steady.specs.Own.{KeepsEach, rows_there, OwnWalked}
use Rattle.mini_steady.specs.declared.code.BodyCode.{BodyCode}
use Rattle.mini_steady.proofs.Declaring.{all_known, several_known}

abbrev body_of : Tree → Tree
body_of t = part t 2

module _ (F : OwnRows) (keeps : KeepsEach F) (wide : ReadsMore F) (S : BodySets) (d g : Bool) (ds : List (List ℕ)) (k : ℕ) (name ps : Tree) where
  step_in : (t u : Tree) → OwnStep (own_rows F t (S k)) nothing_begun Elsewhere t u → OwnFunctionRow F S (function_over d g ds k name ps t) (function_over d g ds k name ps u)
  step_in t u s = record { is_declaration = d; is_generator = g; directives = ds; number = k; name = name; parameters = ps; before = t; after = u; step = s; shape = refl; written = refl }

  walked_in : (t u : Tree) (b : Bool) → OwnWalked (own_rows F t (S k)) nothing_begun Elsewhere t u b → AppliedInFunction F S (function_over d g ds k name ps t) (function_over d g ds k name ps u) b
  walked_in t u true m = several_known F keeps wide (S k) Elsewhere (OwnFunctionRow F S) (function_over d g ds k name ps) step_in t u m
  walked_in t u false (e, rests) = (ap (function_over d g ds k name ps) e, λ w r. rests r.after (subst (λ z. OwnStep (own_rows F z (S k)) nothing_begun Elsewhere z r.after) (sym (ap body_of r.shape)) (subst (λ n. OwnStep (own_rows F r.before (S n)) nothing_begun Elsewhere r.before r.after) (sym (ap number_of r.shape)) r.step)))

-- a function has three parts

three : (ts : Trees) → count ts ≡ 3 → ts ≡ child_or_absent ts 0 ▸ (child_or_absent ts 1 ▸ (child_or_absent ts 2 ▸ none))
three none e = absurd (omega (arith, e))
three (a ▸ none) e = absurd (omega (arith, e))
three (a ▸ (b ▸ none)) e = absurd (omega (arith, e))
three (a ▸ (b ▸ (c ▸ none))) e = refl
three (a ▸ (b ▸ (c ▸ (d ▸ ts)))) e = absurd (omega (arith, e))

record IsFunction (t : Tree) : Type 0 where
  is_declaration : Bool
  is_generator : Bool
  directives : List (List ℕ)
  is : t ≡ function_over is_declaration is_generator directives (number_of t) (part t 0) (part t 1) (part t 2)

function_is : (t : Tree) → is_function t ≡ true → IsFunction t
function_is (node (shape.Function d g ds) [] n ts) e = record { is_declaration = d; is_generator = g; directives = ds; is = ap (node (shape.Function d g ds) [] n) (three ts (eqb-true (count ts) 3 e)) }
function_is t e = absurd (false≢true e)

pub walked_function : (F : OwnRows) → KeepsEach F → ReadsMore F → (S : BodySets) (t u x : Tree) (c : BodyCode) (ts : Trees) (b : Bool) → is_function t ≡ true → c.number ≡ number_of t → c.declared.items ≡ declared_in (part t 2) → begun_by c ≡ nothing_begun → ts ≡ children t → x ≡ child_or_absent ts 2 → OwnWalked (rows_there F S c) (begun_by c) Elsewhere x u b → AppliedInFunction F S t (with_children t (with_child ts 2 u)) b
walked_function F keeps wide S t u x c ts b f e d z these child m =
    let G = function_is t f in
    let there = subst (λ z. OwnWalked (rows_there F S c) (begun_by c) Elsewhere z u b) (child ∙ ap (λ vs. child_or_absent vs 2) these) m in
    let inside = subst₂ (λ (K : Begun → Assured) (L : Begun). OwnWalked (λ M. F (K M)) L Elsewhere (part t 2) u b) (all_known S c (number_of t) (part t 2) e d) z there in
    subst (λ vs. AppliedInFunction F S t (with_children t (with_child vs 2 u)) b) (sym these)
    (subst (λ z. AppliedInFunction F S z (with_children z (with_child (children z) 2 u)) b) (sym G.is)
    (walked_in F keeps wide S G.is_declaration G.is_generator G.directives (number_of t) (part t 0) (part t 1) (part t 2) u b inside))

-- ---- as steps of the rule, where a function may stand

module _ (F : OwnRows) (S : BodySets) (p : Position) (read : (t u : Tree) → OwnFunctionRow F S t u → OwnFunction F S p t u) (told : (t u : Tree) → OwnFunction F S p t u → OwnFunctionRow F S t u) where
  moves : (t u : Tree) → Several (OwnFunctionRow F S) t u → Moves (OwnFunction F S) p t u
  moves _ _ (once t u r) = moves_once (OwnFunction F S) p t u (read t u r)
  moves _ _ (again t u v m r) = moves_trans (OwnFunction F S) (moves t u m) (moves_once (OwnFunction F S) p u v (read u v r))

  at_place : (t u : Tree) (b : Bool) → AppliedInFunction F S t u b → Applied (OwnFunction F S) (Rests F S) p t u b
  at_place t u true m = moves t u m
  at_place t u false (e, f) = (e, λ w r. f w (told t w r))

pub applied : (F : OwnRows) (S : BodySets) (p : Position) (t u : Tree) (b : Bool) → holds_function p ≡ true → AppliedInFunction F S t u b → Applied (OwnFunction F S) (Rests F S) p t u b
applied F S (Stmt s) t u b e a = at_place F S (Stmt s) (λ t u r. r) (λ t u r. r) t u b a
applied F S (Expr s) t u b e a = at_place F S (Expr s) (λ t u r. r) (λ t u r. r) t u b a
applied F S Method t u b e a = at_place F S Method (λ t u r. r) (λ t u r. r) t u b a
applied F S Elsewhere t u b e a = at_place F S Elsewhere (λ t u r. r) (λ t u r. r) t u b a
applied F S p t u b e a = absurd (false≢true e)

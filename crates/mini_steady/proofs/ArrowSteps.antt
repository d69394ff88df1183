-- What is done in the body of an arrow function is done in the arrow function.
use Rattle.std.proofs.Common.{◌≡◌, ℕ, Bool, true, false, List, [], refl, sym, ap, ◌∙◌, subst, subst₂, arith}
use Rattle.std.proofs.lemmas.Bool.{eqb-true, false≢true}
use Rattle.mini_kept.specs.Without.{Assured, BodySets}
use Rattle.mini_model.specs.declared.place.Position.{Position}
use Rattle.mini_model.specs.declared.place.Position.TheVariants.{Expr, Elsewhere}
use Rattle.mini_model.specs.declared.shape.Shape.TheVariants as shape
use Rattle.mini_model.specs.Tree.{Tree, Trees, node, none, ◌▸◌, count, children, child_or_absent, shape_of}
use Rattle.mini_model.specs.Position.{argument_seat, child_position}
use Rattle.mini_node.specs.Children.{part, number_of, with_child}
use Rattle.mini_node.specs.Lends.{with_children}
use Rattle.mini_rows.specs.OwnArrows.{arrow_over, OwnArrow, OwnArrowRow}
use Rattle.mini_rows.specs.Steady.{Begun, nothing_begun, own_rows, OwnRows, ReadsMore, OwnStep}
use Rattle.mini_tree.specs.Rule.{Moves, Applied}
use Rattle.mini_tree.proofs.Reaching.{moves_once, moves_trans}
use Rattle.mini_steady.specs.Arrows.{is_arrow, AppliedInArrow, ArrowRests, holds_arrow}
use Rattle.mini_steady.specs.Chains.{Several, once, again}
use Rattle.mini_steady.specs.Declarations.{declared_in, begun_by}
use Rattle.mini_steady.specs.Own.{KeepsEach, rows_there, OwnWalked}
use Rattle.mini_steady.specs.declared.code.BodyCode.{BodyCode}
use Rattle.mini_steady.proofs.Declaring.{all_known, several_known}

abbrev place : Position
place = Expr argument_seat

module _ (F : OwnRows) (keeps : KeepsEach F) (wide : ReadsMore F) (S : BodySets) (ds : List (List ℕ)) (k : ℕ) (ps : Tree) where
  step_in : (t u : Tree) → OwnStep (own_rows F t (S k)) nothing_begun place t u → OwnArrowRow F S (arrow_over ds k ps t) (arrow_over ds k ps u)
  step_in t u s = record { directives = ds; number = k; parameters = ps; before = t; after = u; step = s; shape = refl; written = refl }

  walked_in : (t u : Tree) (b : Bool) → OwnWalked (own_rows F t (S k)) nothing_begun place t u b → AppliedInArrow F S (arrow_over ds k ps t) (arrow_over ds k ps u) b
  walked_in t u true m = several_known F keeps wide (S k) place (OwnArrowRow F S) (arrow_over ds k ps) step_in t u m
  walked_in t u false (e, rests) = (ap (arrow_over ds k ps) e, λ w r. rests r.after (subst (λ z. OwnStep (own_rows F z (S k)) nothing_begun place z r.after) (sym (ap (λ z. part z 1) r.shape)) (subst (λ n. OwnStep (own_rows F r.before (S n)) nothing_begun place r.before r.after) (sym (ap number_of r.shape)) r.step)))

-- an arrow function has two parts

two : (ts : Trees) → count ts ≡ 2 → ts ≡ child_or_absent ts 0 ▸ (child_or_absent ts 1 ▸ none)
two none e = absurd (omega (arith, e))
two (a ▸ none) e = absurd (omega (arith, e))
two (a ▸ (b ▸ none)) e = refl
two (a ▸ (b ▸ (c ▸ ts))) e = absurd (omega (arith, e))

record IsArrow (t : Tree) : Type 0 where
  directives : List (List ℕ)
  is : t ≡ arrow_over directives (number_of t) (part t 0) (part t 1)

arrow_is : (t : Tree) → is_arrow t ≡ true → IsArrow t
arrow_is (node (shape.ArrowFunctionExpression ds) [] n ts) e = record { directives = ds; is = ap (node (shape.ArrowFunctionExpression ds) [] n) (two ts (eqb-true (count ts) 2 e)) }
arrow_is t e = absurd (false≢true e)

-- where its body stands
pub stands_there : (t : Tree) → is_arrow t ≡ true → child_position (shape_of t) Elsewhere 2 1 ≡ place
stands_there t e = let A = arrow_is t e in ap (λ z. child_position (shape_of z) Elsewhere 2 1) A.is

pub walked_arrow : (F : OwnRows) → KeepsEach F → ReadsMore F → (S : BodySets) (t u x : Tree) (p : Position) (c : BodyCode) (ts : Trees) (b : Bool) → is_arrow t ≡ true → p ≡ place → c.number ≡ number_of t → c.declared.items ≡ declared_in (part t 1) → begun_by c ≡ nothing_begun → ts ≡ children t → x ≡ child_or_absent ts 1 → OwnWalked (rows_there F S c) (begun_by c) p x u b → AppliedInArrow F S t (with_children t (with_child ts 1 u)) b
walked_arrow F keeps wide S t u x p c ts b f stands e d z these child m =
    let A = arrow_is t f in
    let placed = subst (λ q. OwnWalked (rows_there F S c) (begun_by c) q x u b) stands m in
    let there = subst (λ z. OwnWalked (rows_there F S c) (begun_by c) place z u b) (child ∙ ap (λ vs. child_or_absent vs 1) these) placed in
    let inside = subst₂ (λ (K : Begun → Assured) (L : Begun). OwnWalked (λ M. F (K M)) L place (part t 1) u b) (all_known S c (number_of t) (part t 1) e d) z there in
    subst (λ vs. AppliedInArrow F S t (with_children t (with_child vs 1 u)) b) (sym these)
    (subst (λ z. AppliedInArrow F S z (with_children z (with_child (children z) 1 u)) b) (sym A.is)
    (walked_in F keeps wide S A.directives (number_of t) (part t 0) (part t 1) u b inside))

-- ---- as steps of the rule, where an expression stands

module _ (F : OwnRows) (S : BodySets) where
  moves : (p : Position) (t u : Tree) → ((t u : Tree) → OwnArrowRow F S t u → OwnArrow F S p t u) → Several (OwnArrowRow F S) t u → Moves (OwnArrow F S) p t u
  moves p _ _ read (once t u r) = moves_once (OwnArrow F S) p t u (read t u r)
  moves p _ _ read (again t u v m r) = moves_trans (OwnArrow F S) (moves p t u read m) (moves_once (OwnArrow F S) p u v (read u v r))

pub arrow_applied : (F : OwnRows) (S : BodySets) (p : Position) (t u : Tree) (b : Bool) → holds_arrow p ≡ true → AppliedInArrow F S t u b → Applied (OwnArrow F S) (ArrowRests F S) p t u b
arrow_applied F S (Expr s) t u true e m = moves F S (Expr s) t u (λ t u r. r) m
arrow_applied F S (Expr s) t u false e (same, f) = (same, λ w r. f w r)
arrow_applied F S p t u b e a = absurd (false≢true e)

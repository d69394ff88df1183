-- Operands that are joined to the left: one at a time, and what comes of it.
use Rattle.std.proofs.Common.{◌≡◌, ℕ, zero, suc, Bool, true, false, refl, sym, ap, subst, ◌∙◌}
use Rattle.std.specs.Prelude.{if◌then◌else◌}
use Rattle.mini_model.specs.declared.operator.LogicalOperator.{LogicalOperator}
use Rattle.mini_model.specs.Tree.{Tree, Trees, node, none, ◌▸◌, absent, child_or_absent, logical}
use Rattle.mini_node.specs.Children.{part}
use Rattle.mini_node.specs.Kinds.{is_logical}
use Rattle.mini_laws.specs.State.{State, Environment}
use Rattle.mini_laws.specs.Naming.{summary}
use Rattle.mini_rows.proofs.ChoiceMeaning.{rotated_value, left_value}
use Rattle.mini_rows.proofs.ChoiceRuns.{value, Tells, by_value, logical_tells}
use Rattle.mini_rows.proofs.SpellMeaning.{tree_same}
use Rattle.mini_choices.specs.JoinWithLeftAssociativeOp.{joined_left, each_joined_left, JoinedSame, JoinedToTheLeft}
use Rattle.mini_choices.proofs.Spines.{logical_kind_is, logical_itself, absent_ends}

pub left_below : (o : LogicalOperator) (a t : Tree) → is_logical o t ≡ true → joined_left o a t ≡ joined_left o (joined_left o a (part t 0)) (part t 1)
left_below o a t e =
    let l = part t 0 in
    let r = part t 1 in
    ap (joined_left o a) (logical_kind_is o t e) ∙ ap (λ b. if b then each_joined_left o a (l ▸ r ▸ none) else logical o a (logical o l r)) (logical_itself o l r)

pub left_there : (o : LogicalOperator) (a t : Tree) → is_logical o t ≡ false → joined_left o a t ≡ logical o a t
left_there o a (node h xs n ts) e = ap (λ b. if b then each_joined_left o a ts else logical o a (node h xs n ts)) e

-- so what is joined in two steps is joined
pub left_joined : (o : LogicalOperator) (a t l r j : Tree) → is_logical o t ≡ true → l ≡ part t 0 → r ≡ part t 1 → j ≡ joined_left o a l → joined_left o j r ≡ joined_left o a t
left_joined o a t l r j e first second is = ap (λ x. joined_left o x r) (is ∙ ap (joined_left o a) first) ∙ ap (joined_left o (joined_left o a (part t 0))) second ∙ sym (left_below o a t e)

record Joins (o : LogicalOperator) (t : Tree) : Type 0 where
  same : (a : Tree) (e : Environment) (s : State) → value e (logical o a t) s ≡ value e (joined_left o a t) s
  is : (a : Tree) → is_logical o (joined_left o a t) ≡ true
  right : (a : Tree) → is_logical o (part (joined_left o a t) 1) ≡ false

ends : (o : LogicalOperator) (t : Tree) → is_logical o t ≡ false → Joins o t
ends o t e = record {
  same = λ a env s. ap (λ x. value env x s) (sym (left_there o a t e));
  is = λ a. ap (is_logical o) (left_there o a t e) ∙ logical_itself o a t;
  right = λ a. ap (λ x. is_logical o (part x 1)) (left_there o a t e) ∙ e;
}

goes_on : (o : LogicalOperator) (t : Tree) → is_logical o t ≡ true → Joins o (part t 0) → Joins o (part t 1) → Joins o t
goes_on o t e first second = record {
  same = λ a env s.
      ap (λ x. value env (logical o a x) s) (logical_kind_is o t e)
      ∙ rotated_value o a (part t 0) (part t 1) env s
      ∙ left_value o (logical o a (part t 0)) (joined_left o a (part t 0)) (part t 1) env (first.same a env) s
      ∙ second.same (joined_left o a (part t 0)) env s
      ∙ sym (ap (λ x. value env x s) (left_below o a t e));
  is = λ a. ap (is_logical o) (left_below o a t e) ∙ second.is (joined_left o a (part t 0));
  right = λ a. ap (λ x. is_logical o (part x 1)) (left_below o a t e) ∙ second.right (joined_left o a (part t 0));
}

by_kind : (o : LogicalOperator) (t : Tree) → Joins o (part t 0) → Joins o (part t 1) → Joins o t
by_kind o t first second = go (is_logical o t) refl
  where
    go : (b : Bool) → is_logical o t ≡ b → Joins o t
    go true e = goes_on o t e first second
    go false e = ends o t e

mutual
  joins : (o : LogicalOperator) (t : Tree) → Joins o t
  joins o (node h xs n ts) = by_kind o (node h xs n ts) (each_joins o ts 0) (each_joins o ts 1)

  each_joins : (o : LogicalOperator) (ts : Trees) (i : ℕ) → Joins o (child_or_absent ts i)
  each_joins o none i = ends o absent (absent_ends o)
  each_joins o (t ▸ ts) zero = joins o t
  each_joins o (t ▸ ts) (suc i) = each_joins o ts i

pub joined_same : JoinedSame
joined_same s o a b =
    let it = joins o b in
    let made : Tree = joined_left o a b in
    let is : made ≡ logical o (part made 0) (part made 1) = logical_kind_is o made (it.is a) in
    tree_same s (logical o a b) made (by_value (logical o a b) made (logical_tells o a b) (subst Tells (sym is) (logical_tells o (part made 0) (part made 1))) (sym (ap summary is)) (λ e z. it.same a e z))

pub joined_to_the_left : JoinedToTheLeft
joined_to_the_left o a b = let it = joins o b in (it.is a, it.right a)

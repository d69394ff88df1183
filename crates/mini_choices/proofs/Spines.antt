-- The operands that an operator joins: the first of them, and a tree before it.
use Rattle.std.proofs.Common.{◌≡◌, ◌+◌, ◌<◌, ◌≤◌, Bool, true, false, true≢false, refl, sym, ap, ◌∙◌, arith}
use Rattle.std.specs.Prelude.{if◌then◌else◌}
use Rattle.mini_model.specs.declared.operator.LogicalOperator.{LogicalOperator}
use Rattle.mini_model.specs.declared.operator.LogicalOperator.TheVariants.{Or, And, Coalesce}
use Rattle.mini_model.specs.declared.shape.Shape.TheVariants as shape
use Rattle.mini_model.specs.Tree.{Tree, Trees, node, none, ◌▸◌, absent, children, child_or_absent, count, logical, node_count, node_counts}
use Rattle.mini_node.specs.Children.{part}
use Rattle.mini_node.specs.Kinds.{is_logical}
use Rattle.mini_node.specs.Made.{and_is, or_is, coalesce_is}
use Rattle.mini_rows.specs.Choices.{is_grouped, joined}
use Rattle.mini_choices.specs.SubstituteRotateLogicalExpression.{leftmost, leftmost_in, rotated_over, rotated_over_in}

pub logical_kind_is : (o : LogicalOperator) (t : Tree) → is_logical o t ≡ true → t ≡ logical o (part t 0) (part t 1)
logical_kind_is Or t e = or_is t e
logical_kind_is And t e = and_is t e
logical_kind_is Coalesce t e = coalesce_is t e

-- ---- step by step

in_first : (o : LogicalOperator) (ts : Trees) → leftmost_in o ts ≡ leftmost o (child_or_absent ts 0)
in_first Or none = refl
in_first And none = refl
in_first Coalesce none = refl
in_first o (t ▸ ts) = refl

over_first : (o : LogicalOperator) (a : Tree) (ts : Trees) → rotated_over_in o a ts ≡ rotated_over o a (child_or_absent ts 0)
over_first Or a none = refl
over_first And a none = refl
over_first Coalesce a none = refl
over_first o a (t ▸ ts) = refl

pub leftmost_below : (o : LogicalOperator) (t : Tree) → is_logical o t ≡ true → leftmost o t ≡ leftmost o (part t 0)
leftmost_below o (node h xs n ts) e = ap (λ b. if b then leftmost_in o ts else node h xs n ts) e ∙ in_first o ts

pub leftmost_there : (o : LogicalOperator) (t : Tree) → is_logical o t ≡ false → leftmost o t ≡ t
leftmost_there o (node h xs n ts) e = ap (λ b. if b then leftmost_in o ts else node h xs n ts) e

pub over_below : (o : LogicalOperator) (a t : Tree) → is_logical o t ≡ true → rotated_over o a t ≡ logical o (rotated_over o a (part t 0)) (part t 1)
over_below o a (node h xs n ts) e = ap (λ b. if b then logical o (rotated_over_in o a ts) (child_or_absent ts 1) else logical o a (node h xs n ts)) e ∙ ap (λ x. logical o x (child_or_absent ts 1)) (over_first o a ts)

pub over_there : (o : LogicalOperator) (a t : Tree) → is_logical o t ≡ false → rotated_over o a t ≡ logical o a t
over_there o a (node h xs n ts) e = ap (λ b. if b then logical o (rotated_over_in o a ts) (child_or_absent ts 1) else logical o a (node h xs n ts)) e

pub first_within : (t a b : Tree) → count (children t) ≡ 2 → (1 < count (children t) → node_count a + node_count b ≤ node_counts (children t)) → node_count a < node_count t
first_within (node h xs n ts) a b e f = omega (arith, f (omega (arith, e)))

-- ---- they are what the operator joins to the first of them

pub record Spine (o : LogicalOperator) (t : Tree) : Type 0 where
  pub others : Trees
  pub is : t ≡ joined o (leftmost o t) others
  pub over : (a : Tree) → rotated_over o a t ≡ joined o (logical o a (leftmost o t)) others

ends : (o : LogicalOperator) (t : Tree) → is_logical o t ≡ false → Spine o t
ends o t e = record {
  others = none;
  is = sym (leftmost_there o t e);
  over = λ a. over_there o a t e ∙ ap (logical o a) (sym (leftmost_there o t e));
}

goes_on : (o : LogicalOperator) (t : Tree) → is_logical o t ≡ true → Spine o (part t 0) → Spine o t
goes_on o t e below = record {
  others = part t 1 ▸ below.others;
  is = logical_kind_is o t e ∙ ap (λ x. logical o x (part t 1)) (below.is ∙ ap (λ x. joined o x below.others) (sym (leftmost_below o t e)));
  over = λ a. over_below o a t e ∙ ap (λ x. logical o x (part t 1)) (below.over a ∙ ap (λ x. joined o (logical o a x) below.others) (sym (leftmost_below o t e)));
}

by_kind : (o : LogicalOperator) (t : Tree) → Spine o (part t 0) → Spine o t
by_kind o t below = go (is_logical o t) refl
  where
    go : (b : Bool) → is_logical o t ≡ b → Spine o t
    go true e = goes_on o t e below
    go false e = ends o t e

pub absent_ends : (o : LogicalOperator) → is_logical o absent ≡ false
absent_ends Or = refl
absent_ends And = refl
absent_ends Coalesce = refl

mutual
  pub spine_of : (o : LogicalOperator) (t : Tree) → Spine o t
  spine_of o (node h xs n ts) = by_kind o (node h xs n ts) (spine_in o ts)

  spine_in : (o : LogicalOperator) (ts : Trees) → Spine o (child_or_absent ts 0)
  spine_in o none = ends o absent (absent_ends o)
  spine_in o (t ▸ ts) = spine_of o t

-- ---- and what it joins to one begins with that one

not_logical : (o : LogicalOperator) (t : Tree) → is_grouped o t ≡ false → is_logical o t ≡ false
not_logical Or (node (shape.LogicalExpression Or) xs n ts) e = absurd (true≢false e)
not_logical And (node (shape.LogicalExpression And) xs n ts) e = absurd (true≢false e)
not_logical Coalesce (node (shape.LogicalExpression Coalesce) xs n ts) e = absurd (true≢false e)
not_logical Or (node h xs n ts) e = refl
not_logical And (node h xs n ts) e = refl
not_logical Coalesce (node h xs n ts) e = refl

pub logical_itself : (o : LogicalOperator) (a b : Tree) → is_logical o (logical o a b) ≡ true
logical_itself Or a b = refl
logical_itself And a b = refl
logical_itself Coalesce a b = refl

pub leftmost_joined : (o : LogicalOperator) (b : Tree) (cs : Trees) → is_grouped o b ≡ false → leftmost o (joined o b cs) ≡ b
leftmost_joined o b none e = leftmost_there o b (not_logical o b e)
leftmost_joined o b (c ▸ cs) e = leftmost_below o (logical o (joined o b cs) c) (logical_itself o (joined o b cs) c) ∙ leftmost_joined o b cs e

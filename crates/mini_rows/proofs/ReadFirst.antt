-- Where what is evaluated first of a tree leaves the model, so does the tree.
use Rattle.std.proofs.Common.{◌≡◌, Bool, true, false, refl, ap, subst, true≢false}
use Rattle.std.specs.Prelude.{not}
use Rattle.std.proofs.lemmas.Bool.{and_parts, false≢true}
use Rattle.mini_model.specs.declared.operator.LogicalOperator.TheVariants.{Or, And, Coalesce}
use Rattle.mini_model.specs.declared.operator.UnaryOperator.TheVariants.{LogicalNot, UnaryPlus, UnaryNegation, BitwiseNot, Void}
use Rattle.mini_model.specs.declared.shape.Shape.TheVariants as shape
use Rattle.mini_model.specs.Tree.{Tree, node, none, ◌▸◌}
use Rattle.mini_laws.specs.State.{State, Stop, Completion, out, either, Environment}
use Rattle.mini_laws.specs.Demand.{Want, Val, Test, Unused, As, Callee}
use Rattle.mini_laws.specs.Step.{step, means, meaning}
use Rattle.mini_node.proofs.Equality.{tree_same}
use Rattle.mini_rows.specs.Members.{begins_at}
use Rattle.mini_rows.specs.Unused.{is_childless}

not_leaf : (b : Bool) → not b ≡ true → b ≡ false
not_leaf true e = absurd (false≢true e)
not_leaf false e = refl

gone_then : {A B : Type 0} (y : Completion A) (f : A → State → Completion B) (g : Stop → State → Completion B) → y ≡ out → either y f g ≡ out
unfolding either
gone_then y f g h = ap (λ y. either y f g) h

module _ (e : Environment) (o : Tree) (s : State) (gone : (w : Want) → means e o (As w) tt s ≡ out) where
  mutual
    unfolding means meaning step

    pub first_gone : (t : Tree) → begins_at o t ≡ true → (w : Want) → means e t (As w) tt s ≡ out
    first_gone (node h ys n none) b w = subst (λ t. means e t (As w) tt s ≡ out) (tree_same o (node h ys n none) b) (gone w)
    first_gone (node (shape.UnaryExpression LogicalNot) ys n (t ▸ ts)) b w = gone_then _ _ _ (first_gone t b Test)
    first_gone (node (shape.UnaryExpression UnaryPlus) ys n (t ▸ ts)) b w = gone_then _ _ _ (first_gone t b Val)
    first_gone (node (shape.UnaryExpression UnaryNegation) ys n (t ▸ ts)) b w = gone_then _ _ _ (first_gone t b Val)
    first_gone (node (shape.UnaryExpression BitwiseNot) ys n (t ▸ ts)) b w = gone_then _ _ _ (first_gone t b Val)
    first_gone (node (shape.UnaryExpression Void) ys n (t ▸ ts)) b w = gone_then _ _ _ (first_gone t b Val)
    first_gone (node (shape.BinaryExpression p) ys n (t ▸ ts)) b w = gone_then _ _ _ (first_gone t b Val)
    first_gone (node (shape.LogicalExpression And) ys n (t ▸ ts)) b Val = gone_then _ _ _ (first_gone t b Val)
    first_gone (node (shape.LogicalExpression And) ys n (t ▸ ts)) b Test = gone_then _ _ _ (first_gone t b Test)
    first_gone (node (shape.LogicalExpression And) ys n (t ▸ ts)) b Unused = gone_then _ _ _ (first_gone t b Test)
    first_gone (node (shape.LogicalExpression Or) ys n (t ▸ ts)) b Val = gone_then _ _ _ (first_gone t b Val)
    first_gone (node (shape.LogicalExpression Or) ys n (t ▸ ts)) b Test = gone_then _ _ _ (first_gone t b Test)
    first_gone (node (shape.LogicalExpression Or) ys n (t ▸ ts)) b Unused = gone_then _ _ _ (first_gone t b Test)
    first_gone (node (shape.LogicalExpression Coalesce) ys n (t ▸ ts)) b Val = gone_then _ _ _ (first_gone t b Val)
    first_gone (node (shape.LogicalExpression Coalesce) ys n (t ▸ ts)) b Test = gone_then _ _ _ (first_gone t b Val)
    first_gone (node (shape.LogicalExpression Coalesce) ys n (t ▸ ts)) b Unused = gone_then _ _ _ (first_gone t b Val)
    first_gone (node shape.ConditionalExpression ys n (t ▸ ts)) b w = gone_then _ _ _ (first_gone t b Test)
    first_gone (node (shape.CallExpression i) ys n (t ▸ ts)) b w = let (leaf, c) = and_parts (not (is_childless t)) (begins_at o t) b in gone_then _ _ _ (called_gone t (not_leaf (is_childless t) leaf) c)
    first_gone (node shape.NewExpression ys n (t ▸ ts)) b w = gone_then _ _ _ (first_gone t b Val)
    first_gone (node (shape.StaticMemberExpression i) ys n (t ▸ ts)) b w = gone_then _ _ _ (first_gone t b Val)
    first_gone (node (shape.ComputedMemberExpression i) ys n (t ▸ ts)) b w = gone_then _ _ _ (first_gone t b Val)
    first_gone (node shape.ChainExpression ys n (t ▸ ts)) b w = gone_then _ _ _ (first_gone t (and_parts (not (is_childless t)) (begins_at o t) b).1 w)
    first_gone (node h ys n (t ▸ ts)) b w = absurd (false≢true b)

    called_gone : (t : Tree) → is_childless t ≡ false → begins_at o t ≡ true → means e t Callee tt s ≡ out
    called_gone (node h ys n none) l b = absurd (true≢false l)
    called_gone (node (shape.UnaryExpression LogicalNot) ys n (t ▸ ts)) l b = gone_then _ _ _ (first_gone t b Test)
    called_gone (node (shape.UnaryExpression UnaryPlus) ys n (t ▸ ts)) l b = gone_then _ _ _ (first_gone t b Val)
    called_gone (node (shape.UnaryExpression UnaryNegation) ys n (t ▸ ts)) l b = gone_then _ _ _ (first_gone t b Val)
    called_gone (node (shape.UnaryExpression BitwiseNot) ys n (t ▸ ts)) l b = gone_then _ _ _ (first_gone t b Val)
    called_gone (node (shape.UnaryExpression Void) ys n (t ▸ ts)) l b = gone_then _ _ _ (first_gone t b Val)
    called_gone (node (shape.BinaryExpression p) ys n (t ▸ ts)) l b = gone_then _ _ _ (first_gone t b Val)
    called_gone (node (shape.LogicalExpression And) ys n (t ▸ ts)) l b = gone_then _ _ _ (first_gone t b Val)
    called_gone (node (shape.LogicalExpression Or) ys n (t ▸ ts)) l b = gone_then _ _ _ (first_gone t b Val)
    called_gone (node (shape.LogicalExpression Coalesce) ys n (t ▸ ts)) l b = gone_then _ _ _ (first_gone t b Val)
    called_gone (node shape.ConditionalExpression ys n (t ▸ ts)) l b = gone_then _ _ _ (first_gone t b Test)
    called_gone (node (shape.CallExpression i) ys n (t ▸ ts)) l b = let (leaf, c) = and_parts (not (is_childless t)) (begins_at o t) b in gone_then _ _ _ (called_gone t (not_leaf (is_childless t) leaf) c)
    called_gone (node shape.NewExpression ys n (t ▸ ts)) l b = gone_then _ _ _ (first_gone t b Val)
    called_gone (node (shape.StaticMemberExpression i) ys n (t ▸ ts)) l b = gone_then _ _ _ (first_gone t b Val)
    called_gone (node (shape.ComputedMemberExpression i) ys n (t ▸ ts)) l b = gone_then _ _ _ (first_gone t b Val)
    called_gone (node shape.ChainExpression ys n (t ▸ ts)) l b = let (leaf, c) = and_parts (not (is_childless t)) (begins_at o t) b in gone_then _ _ _ (called_gone t (not_leaf (is_childless t) leaf) c)
    called_gone (node h ys n (t ▸ ts)) l b = absurd (false≢true b)

-- A callee that has no effect weighs something.
use Rattle.std.proofs.Common.{◌≤◌, Bool, true, ◌∷◌, refl, sym, true≢false, ◌≡◌, arith}
use Rattle.mini_model.specs.declared.place.Position.TheVariants.{Expr}
use Rattle.mini_model.specs.declared.shape.Shape.TheVariants as shape
use Rattle.mini_model.specs.Tree.{Tree, node}
use Rattle.mini_model.specs.Position.{callee_seat}
use Rattle.mini_model.specs.Weight.{weight}
use Rattle.mini_terms.specs.Effects.{ef}
use Rattle.mini_terms.specs.Reading.{is_plain_part}
use Rattle.mini_rows.proofs.FoldWeights.{two}

pub callee_heavy : (asked : Bool) (f : Tree) → is_plain_part f ≡ true → ef asked f ≡ true → 2 ≤ weight (Expr callee_seat) f
callee_heavy asked (node shape.Identifier (x ∷ xs) n ts) i h = two callee_seat (node shape.Identifier (x ∷ xs) n ts) refl
callee_heavy asked (node shape.ThisExpression xs n ts) i h = two callee_seat (node shape.ThisExpression xs n ts) refl
callee_heavy asked (node shape.SequenceExpression xs n ts) i h = omega arith
callee_heavy asked (node (shape.NumericLiteral m) xs n ts) i h = two callee_seat (node (shape.NumericLiteral m) xs n ts) refl
callee_heavy asked (node (shape.StringLiteral t) xs n ts) i h = two callee_seat (node (shape.StringLiteral t) xs n ts) refl
callee_heavy asked (node (shape.BooleanLiteral b) xs n ts) i h = two callee_seat (node (shape.BooleanLiteral b) xs n ts) refl
callee_heavy asked (node shape.NullLiteral xs n ts) i h = two callee_seat (node shape.NullLiteral xs n ts) refl
callee_heavy asked (node (shape.BigIntLiteral m) xs n ts) i h = two callee_seat (node (shape.BigIntLiteral m) xs n ts) refl
callee_heavy asked (node (shape.UnaryExpression o) xs n ts) i h = two callee_seat (node (shape.UnaryExpression o) xs n ts) refl
callee_heavy asked (node (shape.BinaryExpression o) xs n ts) i h = two callee_seat (node (shape.BinaryExpression o) xs n ts) refl
callee_heavy asked (node (shape.LogicalExpression o) xs n ts) i h = two callee_seat (node (shape.LogicalExpression o) xs n ts) refl
callee_heavy asked (node shape.ConditionalExpression xs n ts) i h = two callee_seat (node shape.ConditionalExpression xs n ts) refl
callee_heavy asked (node shape.TemplateLiteral xs n ts) i h = two callee_seat (node shape.TemplateLiteral xs n ts) refl
callee_heavy asked (node shape.Listed xs n ts) i h = absurd (true≢false (sym i))
callee_heavy asked (node h xs n ts) i g = absurd (true≢false (sym g))

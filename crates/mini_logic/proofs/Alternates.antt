-- Whether an `if` has an `else`, by its children.
use Rattle.std.proofs.Common.{◌≡◌, ◌≤◌, ◌<◌, Bool, true, false, refl, ap, arith}
use Rattle.std.specs.Prelude.{not}
use Rattle.std.proofs.lemmas.Bool.{false≢true}
use Rattle.mini_model.specs.declared.shape.Shape.{Shape}
use Rattle.mini_model.specs.declared.shape.Shape.TheVariants as shape
use Rattle.mini_model.specs.Tree.{Tree, Trees, node, none, ◌▸◌, shape_of, children, count, is_absent}
use Rattle.mini_node.specs.Children.{part}
use Rattle.mini_rows.specs.Branches.{has_else}
use Rattle.mini_logic.specs.Negating.{has_one}

abbrev is_if : Shape → Bool
is_if shape.IfStatement = true
is_if _ = false

pub has_else_three : (t : Tree) → shape_of t ≡ shape.IfStatement → 2 < count (children t) → has_else t ≡ not (is_absent (part t 2))
has_else_three (node shape.IfStatement xs n none) s h = absurd (omega (arith, h))
has_else_three (node shape.IfStatement xs n (a ▸ none)) s h = absurd (omega (arith, h))
has_else_three (node shape.IfStatement xs n (a ▸ (b ▸ none))) s h = absurd (omega (arith, h))
has_else_three (node shape.IfStatement xs n (a ▸ (b ▸ (c ▸ ts)))) s h = refl
has_else_three t s h = absurd (false≢true (ap is_if s))

pub has_else_fewer : (t : Tree) → count (children t) ≤ 2 → has_else t ≡ false
has_else_fewer (node shape.IfStatement xs n none) h = refl
has_else_fewer (node shape.IfStatement xs n (a ▸ none)) h = refl
has_else_fewer (node shape.IfStatement xs n (a ▸ (b ▸ none))) h = refl
has_else_fewer (node shape.IfStatement xs n (a ▸ (b ▸ (c ▸ ts)))) h = absurd (omega (arith, h))
has_else_fewer (node g xs n ts) h = refl

pub one_counted : (ts : Trees) → has_one ts ≡ true → 0 < count ts
one_counted (t ▸ none) h = omega arith
one_counted ts h = absurd (false≢true h)

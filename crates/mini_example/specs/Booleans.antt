-- `true` becomes `!0`, and `false` becomes `!1`, wherever an expression stands.
use Rattle.std.specs.Prelude.{◌≡◌, refl, Bool, true, false, Option, Some, None}
use Rattle.mini_model.specs.declared.place.Position.{Position}
use Rattle.mini_model.specs.declared.place.Position.TheVariants.{Expr}
use Rattle.mini_model.specs.Tree.{Tree}
use Rattle.mini_node.specs.Kinds.{boolean}
use Rattle.mini_rows.specs.Spellings.{negated_digit, void_zero, Row65}
use Rattle.mini_rows.specs.Spellings as spelled

-- what the rule makes
abbrev pub Gives : Position → Tree → Tree → Type 0
Gives (Expr s) n w = Row65 n w
Gives _ n w = ⊥

-- and where it has nothing to do
abbrev pub Rests : Position → Tree → Type 0
Rests (Expr s) n = (w : Tree) → Row65 n w → ⊥
Rests _ n = Unit {0}

-- what a boolean is written as
abbrev pub written : Option Bool → Option Tree
written (Some b) = Some (negated_digit b)
written None = None

abbrev pub shortened : Tree → Option Tree
shortened t = written (boolean t)

example-true : shortened (spelled.boolean true) ≡ Some (negated_digit true)
example-true = refl

example-void : shortened void_zero ≡ None
example-void = refl

-- What one call of a rewrite comes to, by the rows that it has.
use Rattle.std.specs.Prelude.{◌<◌, ◌^◌, Bool}
use Rattle.mini_model.specs.declared.place.Position.{Position}
use Rattle.mini_model.specs.Tree.{Tree}
use Rattle.mini_model.specs.Weight.{weight}
use Rattle.mini_tree.specs.Rule.{Applied}

abbrev pub Relation : Type 1
Relation = Position → Tree → Tree → Type 0

-- none of the rows reads the node in its place, as far as its weight fits 64 bits
abbrev pub Unread : Relation → Position → Tree → Type 0
Unread R p n = weight p n < 2 ^ 64 → (w : Tree) → R p n w → ⊥

-- one or more steps of the rows, at the node or below it; or none, and then none of them reads it
abbrev pub Called : Relation → Position → Tree → Tree → Bool → Type 0
Called R = Applied R (Unread R)

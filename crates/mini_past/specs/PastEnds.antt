-- 71 past steady names of a `var` further inside a body: what is known at the end of a way, by the
-- nodes above it.
use Rattle.std.specs.Prelude.{◌&&◌, not, nat_lt, ℕ, Bool, true}
use Rattle.mini_model.specs.declared.place.Position.{Position}
use Rattle.mini_model.specs.Tree.{Tree, Trees, none, ◌▸◌}
use Rattle.mini_kept.specs.Without.{Assured, BodySets}
use Rattle.mini_laws.proofs.Lighter.{any_step_lighter}
use Rattle.mini_node.specs.Children.{number_of}
use Rattle.mini_rows.specs.declared.inside.Way.TheVariants as way
use Rattle.mini_rows.specs.Inside.{EndsLighten}
use Rattle.mini_rows.specs.PastInside.{is_let_around, known_below, past_ends, PastInside}
use Rattle.mini_rows.specs.Steady.{all_bindings}
use Rattle.mini_rows.specs.Switches.{Liberties}
use Rattle.mini_rows.proofs.PastInsideLawful.{past_inside_lighter, past_inside_lightens}
use Rattle.mini_tree.specs.Rule.{IsLighter}
use Rattle.mini_inside.specs.Further.{HereWalked, RestsAt}

-- the first of them holds the body, with its number, and the others stand in it
abbrev pub holder_number : Trees → ℕ
holder_number none = 0
holder_number (o ▸ a) = number_of o

abbrev pub nodes_below : Trees → Trees
nodes_below none = none
nodes_below (o ▸ a) = a

-- the symbol is declared before the place in one of some nodes, and nothing else in them declares
-- it
abbrev pub begun_below : ℕ → Trees → Bool
begun_below k a = is_let_around k true a && not (nat_lt 1 (all_bindings k a))

abbrev pub known_at : BodySets → Trees → Assured
known_at S a = known_below (nodes_below a) (S (holder_number a))

-- a `var` in no list, and one that a `for` begins with, lose names, one after another; or none
-- does, and then no row reads one
abbrev pub OneWalked : BodySets → Liberties → Trees → Tree → Tree → Bool → Type 0
OneWalked S W a t u c = HereWalked (past_ends S W) a way.Held t u c × HereWalked (past_ends S W) a way.Head t u c

-- no such row reads it
abbrev pub RestsPastInside : BodySets → Liberties → Position → Tree → Type 0
RestsPastInside S W = RestsAt (past_ends S W)

-- what is written is lighter, and makes the whole lighter
pub past_ends_lighten : (S : BodySets) (W : Liberties) → EndsLighten (past_ends S W)
past_ends_lighten S W = past_inside_lighter S W

pub past_inside_steps_lighter : (S : BodySets) (W : Liberties) → IsLighter (PastInside S W)
past_inside_steps_lighter S W = any_step_lighter (PastInside S W) (past_inside_lightens S W)

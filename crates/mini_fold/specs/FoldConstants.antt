-- The rewrites 1 and 3: a unary or binary expression over constants becomes the literal of its
-- value, where that is lighter, and 9, so does the length of a text that is known. Where nothing
-- does, two operands may be one (4 and 8).
use Rattle.std.specs.Prelude.{◌≡◌, ℕ, ◌<◌, ◌-◌, ◌^◌, nat_le, Bool, ◌&&◌, List, Option, Some, None, if◌then◌else◌}
use Rattle.mini_model.specs.declared.place.Position.{Position}
use Rattle.mini_model.specs.declared.place.Position.TheVariants.{Expr}
use Rattle.mini_model.specs.declared.seat.Seat.{Seat}
use Rattle.mini_model.specs.Tree.{Tree}
use Rattle.mini_model.specs.Weight.{weight, capped}
use Rattle.mini_node.specs.Children.{part}
use Rattle.mini_laws.specs.Value.{Value, String, choose}
use Rattle.mini_terms.specs.Calculated.{free_value, calculated}
use Rattle.mini_terms.specs.Folds.{is_effect_free}
use Rattle.mini_terms.specs.Parts.{suits, leaves_nothing}
use Rattle.mini_rows.specs.Constants.{least_gain, ConstantContracts}
use Rattle.mini_fold.specs.FoldStaticMember.{asks_length, count_of}
use Rattle.mini_fold.specs.JoinConstants.{literal_of, joined_written}

abbrev pub is_lighter : Seat → Tree → Tree → Bool
is_lighter s w t = nat_le (least_gain w) (capped (weight (Expr s) t) - capped (weight (Expr s) w))

-- the literal may stand in its place, and is lighter
abbrev pub replaces : Seat → Tree → Tree → Bool
replaces s t w = leaves_nothing t && (suits s w && is_lighter s w t)

abbrev pub written_by : Seat → Tree → Option Tree → Option Tree
written_by s t (Some w) = if replaces s t w then Some w else None
written_by s t None = None

-- the literal of an expression in its seat
abbrev pub literal_written : Seat → Tree → Option Tree
literal_written s t = written_by s t (literal_of (calculated t))

abbrev pub first_written : Option Tree → Option Tree → Option Tree
first_written (Some w) o = Some w
first_written None o = o

abbrev pub text_in : Option Value → Option (List ℕ)
text_in (Some (String u)) = Some u
text_in c = None

-- the text of an effect-free expression
abbrev pub known_text : Tree → Option (List ℕ)
known_text t = choose (is_effect_free t) (text_in (free_value t)) None

-- the length of such a text
abbrev pub length_of : Seat → Tree → Option Tree
length_of s t = if asks_length s t then count_of (known_text (part t 0)) else None

abbrev pub shortens : Seat → Tree → Tree → Bool
shortens s t w = leaves_nothing t && is_lighter s w t

abbrev pub shortened_by : Seat → Tree → Option Tree → Option Tree
shortened_by s t (Some w) = if shortens s t w then Some w else None
shortened_by s t None = None

abbrev pub length_written : Seat → Tree → Option Tree
length_written s t = shortened_by s t (length_of s t)

-- where its literal isn't written
abbrev pub other_written : Seat → Tree → Option Tree
other_written s t = first_written (length_written s t) (joined_written t)

-- what is written for an expression in its seat
abbrev pub written : Seat → Tree → Option Tree
written s t = first_written (literal_written s t) (other_written s t)

-- what the rule makes
abbrev pub Gives : Position → Tree → Tree → Type 0
Gives = ConstantContracts

-- no row makes a lighter expression of it, if its weight fits 64 bits
abbrev pub Rests : Position → Tree → Type 0
Rests p n = weight p n < 2 ^ 64 → (w : Tree) → ConstantContracts p n w → ⊥

-- what is written is what a row says, and lighter
abbrev pub WrittenIsRow : Type 0
WrittenIsRow = (s : Seat) (n w : Tree) → written s n ≡ Some w → ConstantContracts (Expr s) n w

-- and where nothing is written the rule rests
abbrev pub UnwrittenRests : Type 0
UnwrittenRests = (s : Seat) (n : Tree) → written s n ≡ None → Rests (Expr s) n

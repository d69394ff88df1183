-- The rewrite 9: the length of a text that is written out becomes its number.
use Rattle.std.specs.Prelude.{ℕ, Bool, false, not, nat_le, ◌&&◌, List, length, pos, codes, Option, Some, None, if◌then◌else◌}
use Rattle.mini_model.specs.Numerals.{max_safe_integer}
use Rattle.mini_model.specs.declared.seat.Seat.{Seat}
use Rattle.mini_model.specs.declared.shape.Shape.{Shape}
use Rattle.mini_model.specs.declared.shape.Shape.TheVariants as shape
use Rattle.mini_model.specs.Tree.{Tree, shape_of}
use Rattle.mini_model.specs.Weight.{same_text}
use Rattle.mini_kept.specs.Placed.{is_chain_seat}
use Rattle.mini_node.specs.Children.{is_bare, part}
use Rattle.mini_node.specs.Kinds.{is_computed_member, is_static_member, string}
use Rattle.mini_terms.specs.Parts.{takes_numbers}
use Rattle.mini_terms.specs.Reading.{is_unguarded}
use Rattle.mini_rows.specs.Spellings.{numeral}

abbrev pub names_length : Shape → Bool
names_length (shape.IdentifierName s) = same_text s (codes "length")
names_length h = false

abbrev pub is_length_key : Tree → Bool
is_length_key t = is_bare t 0 && names_length (shape_of t)

-- a number may stand in the seat of a member
abbrev pub takes_length : Seat → Bool
takes_length s = is_unguarded s.guard && (takes_numbers s && not (is_chain_seat s))

-- `a.length`, where a number may stand
abbrev pub asks_length : Seat → Tree → Bool
asks_length s t = is_static_member t && (is_length_key (part t 1) && takes_length s)

-- the number of units, where it is one that a program may write
abbrev pub count_of : Option (List ℕ) → Option Tree
count_of (Some u) = if nat_le (length u) max_safe_integer then Some (numeral (pos (length u))) else None
count_of None = None

-- what is written for an expression
abbrev pub written : Seat → Tree → Option Tree
written s t = if asks_length s t then count_of (string (part t 0)) else None

-- the text `length`
abbrev pub says_length : Option (List ℕ) → Bool
says_length (Some u) = same_text u (codes "length")
says_length None = false

-- `a["length"]`, where a number may stand
abbrev pub asks_computed : Seat → Tree → Bool
asks_computed s t = is_computed_member t && (says_length (string (part t 1)) && takes_length s)

-- what is written for an expression in brackets
abbrev pub computed_written : Seat → Tree → Option Tree
computed_written s t = if asks_computed s t then count_of (string (part t 0)) else None

-- 51 and 52 of object literals, `substitute_object_property`: of each property a key in brackets
-- loses them, a text becomes a name or a number, and `x: x` becomes `x`.
use Rattle.std.specs.Prelude.{◌≡◌, ℕ, Bool, true, false, not, ◌&&◌, ◌||◌, nat_le, List, [], ◌∷◌, Option, Some, None, is_some, if◌then◌else◌, ℤ, pos}
use Rattle.mini_model.specs.Texts.{is_identifier_name}
use Rattle.mini_model.specs.Numerals.{max_safe_integer}
use Rattle.mini_model.specs.declared.kind.PropertyKind.TheVariants.{Init}
use Rattle.mini_model.specs.declared.name.Name.{Name}
use Rattle.mini_model.specs.declared.place.Position.{Position}
use Rattle.mini_model.specs.declared.place.Position.TheVariants.{Expr}
use Rattle.mini_model.specs.declared.seat.Seat.{Seat}
use Rattle.mini_model.specs.declared.shape.Shape.{Shape}
use Rattle.mini_model.specs.declared.shape.Shape.TheVariants as shape
use Rattle.mini_model.specs.Tree.{Tree, Trees, node, none, ◌▸◌, shape_of, children}
use Rattle.mini_model.specs.Weight.{same_text}
use Rattle.mini_node.specs.Children.{part, is_bare, names_of}
use Rattle.mini_node.specs.Kinds.{carried, string, is_identifier, is_listed}
use Rattle.mini_rows.specs.Spellings.{numeral}
use Rattle.mini_rows.specs.SpellKeys.{object_literal, property, is_proto, KeyRow, KeyContracts}
use Rattle.mini_tree.specs.Rule as rule
use Rattle.mini_syntax.specs.ConvertToDottedProperties.{number_of_text, as_name}

-- A property that is no shorthand

abbrev pub is_open_shape : Shape → Bool
is_open_shape (shape.ObjectProperty kind is_method false false) = true
is_open_shape _ = false

-- `k: v`, `k() {}`, `get k() {}`
abbrev pub is_open : Tree → Bool
is_open t = is_open_shape (shape_of t) && is_bare t 2

abbrev pub is_bracketed_shape : Shape → Bool
is_bracketed_shape (shape.ObjectProperty kind is_method false true) = true
is_bracketed_shape _ = false

-- `[k]: v`, `[k]() {}`, `get [k]() {}`
abbrev pub is_bracketed : Tree → Bool
is_bracketed t = is_bracketed_shape (shape_of t) && is_bare t 2

abbrev pub is_plain_shape : Shape → Bool
is_plain_shape (shape.ObjectProperty Init false is_shorthand is_computed) = true
is_plain_shape _ = false

-- no method, no getter and no setter: `__proto__` would set the prototype
abbrev pub is_plain : Tree → Bool
is_plain t = is_plain_shape (shape_of t)

abbrev pub opened_shape : Shape → Shape
opened_shape (shape.ObjectProperty kind is_method is_shorthand is_computed) = shape.ObjectProperty kind is_method is_shorthand false
opened_shape _ = shape.Absent

-- with another key, which stands in no brackets
abbrev pub with_key : Tree → Tree → Tree
with_key t k = node (opened_shape (shape_of t)) [] 0 (k ▸ part t 1 ▸ none)

-- Brackets that go

abbrev pub is_whole : ℤ → Bool
is_whole (pos n) = nat_le n max_safe_integer
is_whole n = false

abbrev pub is_literal_key_by : Bool → Shape → Tree → Bool
is_literal_key_by plain (shape.StringLiteral s) k = is_bare k 0 && not (plain && is_proto s)
is_literal_key_by plain (shape.NumericLiteral n) k = is_bare k 0 && is_whole n
is_literal_key_by plain _ k = false

-- a text, or a safe whole number from 0; in a plain property not `__proto__`
abbrev pub is_literal_key : Bool → Tree → Bool
is_literal_key plain k = is_literal_key_by plain (shape_of k) k

-- `["x"]: v` and `[1]: v`
abbrev pub drops_brackets : Tree → Bool
drops_brackets t = is_bracketed t && is_literal_key (is_plain t) (part t 0)

abbrev pub unbracketed : Tree → Tree
unbracketed t = if drops_brackets t then with_key t (part t 0) else t

-- A text that becomes a name or a number

abbrev pub is_key_text : Bool → Option (List ℕ) → Bool
is_key_text plain (Some s) = is_identifier_name s && not (plain && is_proto s)
is_key_text plain None = false

-- `"x": v`
abbrev pub names_key : Tree → Bool
names_key t = is_open t && is_key_text (is_plain t) (string (part t 0))

abbrev pub whole_of : Option ℤ → Option ℤ
whole_of (Some (pos n)) = Some (pos n)
whole_of _ = None

-- `"1": v`: the number
abbrev pub key_number : Tree → Option ℤ
key_number t = if is_open t then whole_of (number_of_text (string (part t 0))) else None

abbrev pub named : Tree → Tree
named t = with_key t (as_name (part t 0))

abbrev pub numbered : ℤ → Tree → Tree
numbered n t = with_key t (numeral n)

abbrev pub respelled_by : Bool → Option ℤ → Tree → Tree
respelled_by true n t = named t
respelled_by false (Some n) t = numbered n t
respelled_by false None t = t

abbrev pub respelled : Tree → Tree
respelled t = respelled_by (names_key t) (key_number t) t

abbrev pub respells : Tree → Bool
respells t = names_key t || is_some (key_number t)

-- A name that is its own value

abbrev pub key_in : Shape → Option (List ℕ)
key_in (shape.IdentifierName s) = Some s
key_in _ = None

abbrev pub key_name : Tree → Option (List ℕ)
key_name k = carried (key_in (shape_of k)) (is_bare k 0)

abbrev pub spells : Option (List ℕ) → List Name → Bool
spells (Some s) (x ∷ []) = same_text s x.spelling && not (is_proto s)
spells _ _ = false

abbrev pub is_plain_open_shape : Shape → Bool
is_plain_open_shape (shape.ObjectProperty Init false false false) = true
is_plain_open_shape _ = false

-- `k: v`
abbrev pub is_plain_open : Tree → Bool
is_plain_open t = is_plain_open_shape (shape_of t) && is_bare t 2

-- `x: x`
abbrev pub is_doubled : Tree → Bool
is_doubled t = is_plain_open t && (is_identifier (part t 1) && spells (key_name (part t 0)) (names_of (part t 1)))

abbrev pub shortened : Tree → Tree
shortened t = if is_doubled t then property true false (part t 0) (part t 1) else t

-- All of a property

abbrev pub turned : Tree → Tree
turned t = shortened (respelled (unbracketed t))

-- whether it changes
abbrev pub turns : Tree → Bool
turns t = (drops_brackets t || respells (unbracketed t)) || is_doubled (respelled (unbracketed t))

-- Of a literal

abbrev pub all_turned : Trees → Trees
all_turned none = none
all_turned (t ▸ ts) = turned t ▸ all_turned ts

abbrev pub any_turns : Trees → Bool
any_turns none = false
any_turns (t ▸ ts) = turns t || any_turns ts

abbrev pub is_object_shape : Shape → Bool
is_object_shape shape.ObjectExpression = true
is_object_shape _ = false

abbrev pub is_object_literal : Tree → Bool
is_object_literal t = is_object_shape (shape_of t) && (is_bare t 1 && is_listed (part t 0))

abbrev pub properties : Tree → Trees
properties t = children (part t 0)

abbrev pub written : Tree → Tree
written t = if is_object_literal t then object_literal (all_turned (properties t)) else t

-- whether it changes
abbrev pub is_written : Tree → Bool
is_written t = is_object_literal t && any_turns (properties t)

-- what the rule makes
abbrev pub Gives : Position → Tree → Tree → Type 0
Gives = KeyContracts

-- no row reads it as anything
abbrev pub Rests : Position → Tree → Type 0
Rests p n = (w : Tree) → KeyRow p n w → ⊥

-- what is written is reached by steps of the rows, at least one
abbrev pub WrittenIsReached : Type 0
WrittenIsReached = (s : Seat) (n : Tree) → is_written n ≡ true → rule.Moves KeyContracts (Expr s) n (written n)

-- and where nothing is written the literal is as it was, and no row reads it
abbrev pub UnwrittenRests : Type 0
UnwrittenRests = (s : Seat) (n : Tree) → is_written n ≡ false → (written n ≡ n) × Rests (Expr s) n

-- Rows on the keys of object literals, as equations. The node is the literal, and one property of
-- it changes.
use Rattle.std.specs.Prelude.{◌≡◌, ◌<◌, ◌⊎◌, ℕ, Bool, true, false, List, [], codes, pos}
use Rattle.std.specs.Fmt.{signed_decimal}
use Rattle.mini_model.specs.Texts.{is_identifier_name}
use Rattle.mini_model.specs.Numerals.{IsSafe}
use Rattle.mini_model.specs.declared.kind.PropertyKind.{PropertyKind}
use Rattle.mini_model.specs.declared.kind.PropertyKind.TheVariants.{Init}
use Rattle.mini_model.specs.declared.name.Name.{Name}
use Rattle.mini_model.specs.declared.place.Position.{Position}
use Rattle.mini_model.specs.declared.place.Position.TheVariants.{Expr}
use Rattle.mini_model.specs.declared.shape.Shape.TheVariants as shape
use Rattle.mini_model.specs.Paths.{append}
use Rattle.mini_model.specs.Tree.{Tree, Trees, node, none, ◌▸◌, listed, identifier}
use Rattle.mini_model.specs.Weight.{same_text, weight}
use Rattle.mini_rows.specs.Spellings.{numeral, text, key}

-- `{ a: b, c }`
abbrev pub object_literal : Trees → Tree
object_literal ps = node shape.ObjectExpression [] 0 (listed ps ▸ none)

-- `k: v`; shorthand, or with its key in brackets
abbrev pub property : Bool → Bool → Tree → Tree → Tree
property is_shorthand is_computed k v = node (shape.ObjectProperty Init false is_shorthand is_computed) [] 0 (k ▸ v ▸ none)

-- `__proto__: v` sets the prototype, and neither `["__proto__"]: v` nor the shorthand does
-- (ECMA-262, "__proto__ Property Names in Object Initializers")
abbrev pub is_proto : List ℕ → Bool
is_proto s = same_text s (codes "__proto__")

-- 51: `x: x` becomes `x`
pub record Row51 (n w : Tree) : Type 0 where
  pub name : Name
  pub other : is_proto name.spelling ≡ false
  pub shape : n ≡ property false false (key name.spelling) (identifier name)
  pub written : w ≡ property true false (key name.spelling) (identifier name)

-- 52, of a name: `"x": v` becomes `x: v`
pub record Row52Name (n w : Tree) : Type 0 where
  pub name : List ℕ
  pub value : Tree
  pub is_name : is_identifier_name name ≡ true
  pub other : is_proto name ≡ false
  pub shape : n ≡ property false false (text name) value
  pub written : w ≡ property false false (key name) value

-- 52, of the text of a number: `"1": v` becomes `1: v`
pub record Row52Number (n w : Tree) : Type 0 where
  pub number : ℕ
  pub value : Tree
  pub is_safe : IsSafe (pos number)
  pub shape : n ≡ property false false (text (signed_decimal (pos number))) value
  pub written : w ≡ property false false (numeral (pos number)) value

-- 52, of a text in brackets: `["x"]: v` becomes `"x": v`
pub record Row52Text (n w : Tree) : Type 0 where
  pub name : List ℕ
  pub value : Tree
  pub other : is_proto name ≡ false
  pub shape : n ≡ property false true (text name) value
  pub written : w ≡ property false false (text name) value

-- 52, of a number in brackets: `[1]: v` becomes `1: v`
pub record Row52Numeral (n w : Tree) : Type 0 where
  pub number : ℕ
  pub value : Tree
  pub is_safe : IsSafe (pos number)
  pub shape : n ≡ property false true (numeral (pos number)) value
  pub written : w ≡ property false false (numeral (pos number)) value

-- the key of a function: the text of a name or of a number, or a text or a number in brackets. None
-- sets a prototype
pub data KeyForm : Type 0 where
  a_name : List ℕ → KeyForm
  a_whole : ℕ → KeyForm
  a_text_in_brackets : List ℕ → KeyForm
  a_whole_in_brackets : ℕ → KeyForm

abbrev pub IsSpelled : KeyForm → Type 0
IsSpelled (a_name s) = is_identifier_name s ≡ true
IsSpelled (a_whole n) = IsSafe (pos n)
IsSpelled (a_text_in_brackets s) = Unit {0}
IsSpelled (a_whole_in_brackets n) = IsSafe (pos n)

-- whether it stands in brackets; what is read, and what is written
abbrev pub is_bracketed_form : KeyForm → Bool
is_bracketed_form (a_name s) = false
is_bracketed_form (a_whole n) = false
is_bracketed_form (a_text_in_brackets s) = true
is_bracketed_form (a_whole_in_brackets n) = true

abbrev pub read_key : KeyForm → Tree
read_key (a_name s) = text s
read_key (a_whole n) = text (signed_decimal (pos n))
read_key (a_text_in_brackets s) = text s
read_key (a_whole_in_brackets n) = numeral (pos n)

abbrev pub written_key : KeyForm → Tree
written_key (a_name s) = key s
written_key (a_whole n) = numeral (pos n)
written_key (a_text_in_brackets s) = text s
written_key (a_whole_in_brackets n) = numeral (pos n)

-- `k() {}`, `get k() {}`, `set k(a) {}`
abbrev pub function_property : PropertyKind → Bool → Bool → Tree → Tree → Tree
function_property kind is_method is_computed k v = node (shape.ObjectProperty kind is_method false is_computed) [] 0 (k ▸ v ▸ none)

-- a method, a getter or a setter
abbrev pub is_function_kind : PropertyKind → Bool → Bool
is_function_kind Init is_method = is_method
is_function_kind kind is_method = true

-- 52, of a function: `"x"() {}` becomes `x() {}`, `"1"() {}` becomes `1() {}`, `["x"]() {}` becomes
-- `"x"() {}` and `[1]() {}` becomes `1() {}`
pub record Row52Function (n w : Tree) : Type 0 where
  pub kind : PropertyKind
  pub is_method : Bool
  pub form : KeyForm
  pub value : Tree
  pub is_function : is_function_kind kind is_method ≡ true
  pub is_spelled : IsSpelled form
  pub shape : n ≡ function_property kind is_method (is_bracketed_form form) (read_key form) value
  pub written : w ≡ function_property kind is_method false (written_key form) value

-- of one property
abbrev pub PropertyRow : Tree → Tree → Type 0
PropertyRow n w = Row51 n w ⊎ (Row52Name n w ⊎ (Row52Number n w ⊎ (Row52Text n w ⊎ (Row52Numeral n w ⊎ Row52Function n w))))

-- of the literal that has it
pub record RowInObject (n w : Tree) : Type 0 where
  pub before : Trees
  pub from : Tree
  pub to : Tree
  pub after : Trees
  pub row : PropertyRow from to
  pub shape : n ≡ object_literal (append before (from ▸ after))
  pub written : w ≡ object_literal (append before (to ▸ after))

-- a row on a key reads n as w at this place
abbrev pub KeyRow : Position → Tree → Tree → Type 0
KeyRow (Expr s) n w = RowInObject n w
KeyRow _ n w = ⊥

-- what it writes, where it weighs less
pub record KeyContracts (p : Position) (n w : Tree) : Type 0 where
  pub row : KeyRow p n w
  pub lighter : weight p w < weight p n

-- which is everywhere
abbrev pub KeysLighter : Type 0
KeysLighter = (p : Position) (n w : Tree) → KeyRow p n w → weight p w < weight p n

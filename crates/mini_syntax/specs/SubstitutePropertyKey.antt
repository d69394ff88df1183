-- 52 of patterns and classes, `substitute_property_key`: of a property of a pattern, a method or a
-- field a text becomes the name or the number that it writes; and a text or a whole number in
-- brackets loses them, but of a parameter. With 53, of a key that is the name assigned to.
use Rattle.std.specs.Prelude.{◌≡◌, Bool, true, false, not, ◌&&◌, ◌||◌, [], Option, Some, None, is_some, if◌then◌else◌, ℤ}
use Rattle.mini_model.specs.declared.place.Position.{Position}
use Rattle.mini_model.specs.declared.place.Position.TheVariants.{Elsewhere}
use Rattle.mini_model.specs.declared.shape.Shape.{Shape}
use Rattle.mini_model.specs.declared.shape.Shape.TheVariants as shape
use Rattle.mini_model.specs.Tree.{Tree, node, none, ◌▸◌, shape_of}
use Rattle.mini_node.specs.Children.{part, is_bare}
use Rattle.mini_node.specs.Kinds.{string}
use Rattle.mini_rows.specs.Spellings.{numeral}
use Rattle.mini_rows.specs.KeyHolders.{stays_in_brackets, HeldKeyRow, HeldKeyContracts}
use Rattle.mini_syntax.specs.CompressAssignmentTargetProperty.{is_doubled, compressed}
use Rattle.mini_syntax.specs.ConvertToDottedProperties.{is_name_text, number_of_text, as_name}
use Rattle.mini_syntax.specs.Forms.{is_inner, bracketed_key}
use Rattle.mini_syntax.specs.SubstituteBindingProperty.{declares_brackets, declared_bare}
use Rattle.mini_syntax.specs.SubstituteObjectProperty.{is_literal_key, whole_of}
use Rattle.mini_syntax.specs.declared.rewrites.substitute_property_key.ClassPropertyKeyParent.{ClassPropertyKeyParent}
use Rattle.mini_syntax.specs.declared.rewrites.substitute_property_key.ClassPropertyKeyParentType.{ClassPropertyKeyParentType}
use Rattle.mini_syntax.specs.declared.rewrites.substitute_property_key.ClassPropertyKeyParentType.TheVariants.{MethodDefinition, PropertyDefinition}

abbrev pub is_holder_shape : Shape → Bool
is_holder_shape (shape.BindingProperty false false) = true
is_holder_shape (shape.AssignmentTargetPropertyProperty false) = true
is_holder_shape (shape.MethodDefinition kind false is_static) = true
is_holder_shape (shape.PropertyDefinition false is_static) = true
is_holder_shape _ = false

-- what has a key without brackets, other than in an object literal, and is no shorthand
abbrev pub is_holder : Tree → Bool
is_holder t = is_holder_shape (shape_of t) && is_bare t 2

-- Of a key

-- it is the text of a name, or of a number from 0
abbrev pub names_key : Tree → Bool
names_key k = is_name_text (string k)

abbrev pub key_number : Tree → Option ℤ
key_number k = whole_of (number_of_text (string k))

abbrev pub respelled_by : Bool → Option ℤ → Tree → Tree
respelled_by true n k = as_name k
respelled_by false (Some n) k = numeral n
respelled_by false None k = k

abbrev pub respelled : Tree → Tree
respelled k = respelled_by (names_key k) (key_number k) k

abbrev pub respells : Tree → Bool
respells k = names_key k || is_some (key_number k)

-- Of what has it

abbrev pub with_key : Tree → Tree → Tree
with_key t k = node (shape_of t) [] 0 (k ▸ part t 1 ▸ none)

abbrev pub spelled : Tree → Tree
spelled t = if is_holder t then with_key t (respelled (part t 0)) else t

-- whether it is spelled otherwise
abbrev pub is_spelled : Tree → Bool
is_spelled t = is_holder t && respells (part t 0)

-- Brackets that go

abbrev pub is_member_shape : Shape → Bool
is_member_shape (shape.AssignmentTargetPropertyProperty true) = true
is_member_shape (shape.MethodDefinition kind true is_static) = true
is_member_shape (shape.PropertyDefinition true is_static) = true
is_member_shape _ = false

-- a key in brackets: of a property that is assigned to, a method or a field
abbrev pub is_bracketed : Tree → Bool
is_bracketed t = is_member_shape (shape_of t) && is_bare t 2

-- of what a key is in a class
abbrev pub is_method : ClassPropertyKeyParentType → Bool
is_method MethodDefinition = true
is_method PropertyDefinition = false

-- of a method or a field
abbrev pub is_static_member : Shape → Bool
is_static_member (shape.MethodDefinition kind is_computed is_static) = is_static
is_static_member (shape.PropertyDefinition is_computed is_static) = is_static
is_static_member _ = false

abbrev pub parent_of : Shape → Option ClassPropertyKeyParent
parent_of (shape.MethodDefinition kind is_computed is_static) = Some (record { kind = MethodDefinition; is_static = is_static })
parent_of (shape.PropertyDefinition is_computed is_static) = Some (record { kind = PropertyDefinition; is_static = is_static })
parent_of _ = None

-- whether the brackets of a text stay
abbrev pub keeps : Shape → Shape → Bool
keeps (shape.MethodDefinition kind is_computed is_static) (shape.StringLiteral s) = stays_in_brackets true is_static s
keeps (shape.PropertyDefinition is_computed is_static) (shape.StringLiteral s) = stays_in_brackets false is_static s
keeps _ _ = false

-- a text, or a safe whole number from 0
abbrev pub drops_brackets : Tree → Bool
drops_brackets t = is_bracketed t && (is_inner (part t 0) && (is_literal_key false (bracketed_key t) && not (keeps (shape_of t) (shape_of (bracketed_key t)))))

abbrev pub bare_shape : Shape → Shape
bare_shape (shape.AssignmentTargetPropertyProperty is_computed) = shape.AssignmentTargetPropertyProperty false
bare_shape (shape.MethodDefinition kind is_computed is_static) = shape.MethodDefinition kind false is_static
bare_shape (shape.PropertyDefinition is_computed is_static) = shape.PropertyDefinition false is_static
bare_shape _ = shape.Absent

abbrev pub bare : Tree → Tree
bare t = node (bare_shape (shape_of t)) [] 0 (bracketed_key t ▸ part t 1 ▸ none)

abbrev pub unbracketed : Tree → Tree
unbracketed t = if drops_brackets t then bare t else t

abbrev pub held_written : Tree → Tree
held_written t = if drops_brackets t then bare t else spelled t

-- whether it changes
abbrev pub is_held_written : Tree → Bool
is_held_written t = drops_brackets t || is_spelled t

-- Of all, among them what declares a pattern

abbrev pub key_written : Tree → Tree
key_written t = if declares_brackets t then declared_bare t else held_written t

abbrev pub is_key_written : Tree → Bool
is_key_written t = declares_brackets t || is_held_written t

-- of what is assigned to: the shorthand, or the key alone
abbrev pub target_written : Tree → Tree
target_written t = if is_doubled t then compressed t else held_written t

abbrev pub is_target_written : Tree → Bool
is_target_written t = is_doubled t || is_held_written t

-- and of a key that is the name assigned to

abbrev pub written : Tree → Tree
written t = if is_doubled t then compressed t else key_written t

abbrev pub is_written : Tree → Bool
is_written t = is_doubled t || is_key_written t

-- what the rule makes
abbrev pub Gives : Position → Tree → Tree → Type 0
Gives = HeldKeyContracts

-- no row reads it as anything
abbrev pub Rests : Position → Tree → Type 0
Rests p n = (w : Tree) → HeldKeyRow p n w → ⊥

-- what is written is what the row says
abbrev pub WrittenIsRow : Type 0
WrittenIsRow = (n : Tree) → is_written n ≡ true → HeldKeyRow Elsewhere n (written n)

-- and where nothing is written it is as it was, and no row reads it
abbrev pub UnwrittenRests : Type 0
UnwrittenRests = (p : Position) (n : Tree) → is_written n ≡ false → (written n ≡ n) × Rests p n

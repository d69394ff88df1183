-- What is read of a shape whose key may lose its brackets.
use Rattle.std.proofs.Common.{◌≡◌, false, List, refl, sym, ap, ◌∙◌}
use Rattle.std.proofs.lemmas.Bool.{false≢true}
use Rattle.mini_model.specs.declared.name.Name.{Name}
use Rattle.mini_model.specs.declared.shape.Shape.{Shape}
use Rattle.mini_model.specs.declared.shape.Shape.TheVariants as shape
use Rattle.mini_model.specs.Tree.{is_absent_shape}
use Rattle.mini_accept.specs.WellShaped.{is_function_body_shape, is_reference_shape, spelling_by}
use Rattle.mini_laws.specs.Early.{is_pattern_shape, label_by}
use Rattle.mini_kept.specs.Frames.{has_key, unbracketed}
use Rattle.mini_kept.specs.KeepsShapes.{is_default}

-- what doesn't read whether there are brackets
pub same_by : {A : Type 0} (f : Shape → A) → ((h : Shape) → f (unbracketed h) ≡ f h) → (h g : Shape) → unbracketed h ≡ unbracketed g → f h ≡ f g
same_by f k h g e = sym (k h) ∙ ap f e ∙ k g

pub absent_plain : (h : Shape) → is_absent_shape (unbracketed h) ≡ is_absent_shape h
absent_plain (shape.BindingProperty s c) = refl
absent_plain (shape.AssignmentTargetPropertyProperty c) = refl
absent_plain shape.AssignmentTargetPropertyIdentifier = refl
absent_plain (shape.MethodDefinition k c s) = refl
absent_plain (shape.PropertyDefinition c s) = refl
absent_plain h = refl

pub body_plain : (h : Shape) → is_function_body_shape (unbracketed h) ≡ is_function_body_shape h
body_plain (shape.BindingProperty s c) = refl
body_plain (shape.AssignmentTargetPropertyProperty c) = refl
body_plain shape.AssignmentTargetPropertyIdentifier = refl
body_plain (shape.MethodDefinition k c s) = refl
body_plain (shape.PropertyDefinition c s) = refl
body_plain h = refl

pub reference_plain : (h : Shape) → is_reference_shape (unbracketed h) ≡ is_reference_shape h
reference_plain (shape.BindingProperty s c) = refl
reference_plain (shape.AssignmentTargetPropertyProperty c) = refl
reference_plain shape.AssignmentTargetPropertyIdentifier = refl
reference_plain (shape.MethodDefinition k c s) = refl
reference_plain (shape.PropertyDefinition c s) = refl
reference_plain h = refl

pub spelling_plain : (xs : List Name) (h : Shape) → spelling_by (unbracketed h) xs ≡ spelling_by h xs
spelling_plain xs (shape.BindingProperty s c) = refl
spelling_plain xs (shape.AssignmentTargetPropertyProperty c) = refl
spelling_plain xs shape.AssignmentTargetPropertyIdentifier = refl
spelling_plain xs (shape.MethodDefinition k c s) = refl
spelling_plain xs (shape.PropertyDefinition c s) = refl
spelling_plain xs h = refl

pub default_plain : (h : Shape) → is_default (unbracketed h) ≡ is_default h
default_plain (shape.BindingProperty s c) = refl
default_plain (shape.AssignmentTargetPropertyProperty c) = refl
default_plain shape.AssignmentTargetPropertyIdentifier = refl
default_plain (shape.MethodDefinition k c s) = refl
default_plain (shape.PropertyDefinition c s) = refl
default_plain h = refl

pub pattern_plain : (h : Shape) → is_pattern_shape (unbracketed h) ≡ is_pattern_shape h
pattern_plain (shape.BindingProperty s c) = refl
pattern_plain (shape.AssignmentTargetPropertyProperty c) = refl
pattern_plain shape.AssignmentTargetPropertyIdentifier = refl
pattern_plain (shape.MethodDefinition k c s) = refl
pattern_plain (shape.PropertyDefinition c s) = refl
pattern_plain h = refl

pub label_plain : (h : Shape) → label_by (unbracketed h) ≡ label_by h
label_plain (shape.BindingProperty s c) = refl
label_plain (shape.AssignmentTargetPropertyProperty c) = refl
label_plain shape.AssignmentTargetPropertyIdentifier = refl
label_plain (shape.MethodDefinition k c s) = refl
label_plain (shape.PropertyDefinition c s) = refl
label_plain h = refl

-- a shape without a key is the same

keyless : (h : Shape) → has_key h ≡ false → unbracketed h ≡ h
keyless (shape.BindingProperty s c) e = absurd (false≢true (sym e))
keyless (shape.AssignmentTargetPropertyProperty c) e = absurd (false≢true (sym e))
keyless shape.AssignmentTargetPropertyIdentifier e = absurd (false≢true (sym e))
keyless (shape.MethodDefinition k c s) e = absurd (false≢true (sym e))
keyless (shape.PropertyDefinition c s) e = absurd (false≢true (sym e))
keyless h e = refl

key_plain : (h : Shape) → has_key (unbracketed h) ≡ has_key h
key_plain (shape.BindingProperty s c) = refl
key_plain (shape.AssignmentTargetPropertyProperty c) = refl
key_plain shape.AssignmentTargetPropertyIdentifier = refl
key_plain (shape.MethodDefinition k c s) = refl
key_plain (shape.PropertyDefinition c s) = refl
key_plain h = refl

pub same_shape : (h g : Shape) → has_key h ≡ false → unbracketed h ≡ unbracketed g → h ≡ g
same_shape h g e q = sym (keyless h e) ∙ q ∙ keyless g (same_by has_key key_plain g h (sym q) ∙ e)

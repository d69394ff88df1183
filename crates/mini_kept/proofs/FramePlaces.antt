-- What stands in a frame holds no statement and no expression of a body: the slots of its parts are those of names, keys,
-- patterns, members and inner expressions alone.
use Rattle.std.specs.Prelude.{ℕ, zero, suc, ◌≡◌, refl, ◌⊎◌, ◌||◌, ◌&&◌, not, Bool, true, false, List, [], ◌∷◌, Option, Some, None, pos, negsuc, if◌then◌else◌}
use Rattle.std.proofs.Common.{ap, ◌∙◌, sym, subst, inl, inr}
use Rattle.std.proofs.lemmas.Bool.{false≢true}
use Rattle.std.proofs.Math.Dec.{eqb-suc-zero}
use Rattle.mini_model.specs.declared.kind.MetaPropertyKind.{MetaPropertyKind}
use Rattle.mini_model.specs.declared.kind.MetaPropertyKind.TheVariants.{NewTarget, ImportMeta}
use Rattle.mini_model.specs.declared.kind.PropertyKind.{PropertyKind}
use Rattle.mini_model.specs.declared.kind.PropertyKind.TheVariants as property
use Rattle.mini_model.specs.declared.place.Position.{Position}
use Rattle.mini_model.specs.declared.place.Position.TheVariants.{StatementList, BodyList}
use Rattle.mini_model.specs.declared.shape.Shape.{Shape}
use Rattle.mini_model.specs.declared.shape.Shape.TheVariants as shape
use Rattle.mini_accept.specs.WellShaped.{in_module, in_body, nested, Class, a_program, a_statement, a_class_body, a_class_member, a_method, an_object_property, a_binding, a_label, a_private_name, an_inner, an_inner_argument, a_super, a_key, a_private_or_key, an_inner_key, a_tagged_template, a_word, a_pattern, a_pattern_element, a_pattern_property, a_pattern_rest, a_parameter, an_element_target, a_named_target, a_target_name, a_target_element, a_target_property, a_target_rest, an_import, a_module_name, a_string, an_export, an_exported_name, an_exported_declaration, a_default_export, Slot, one, one_or_absent, many, many_or_holes, many_and_rest, many_or_holes_and_rest, quasis, Filling, refused, these, each, each_or_last, pieces, is_text, none_if, value_class, class_of, filling, filling_by, slots_of, has_its_number}
use Rattle.mini_kept.proofs.Bools.{left, right, or_second}
use Rattle.mini_kept.specs.Standing.{is_method_slot}
use Rattle.mini_kept.specs.Frames.{Showing, Whole, Named, Hidden, showing, is_port, property_below}
use Rattle.mini_kept.specs.KeepsFrames.{is_in_body, is_body_slot, is_keyed_slot}

-- ---- what is said of each slot of a filling, from an index on

abbrev SlotsAre : (ℕ → Slot → Type 0) → ℕ → List Slot → Type 0
SlotsAre Q i [] = Unit {0}
SlotsAre Q i (s ∷ ss) = Q i s × SlotsAre Q (suc i) ss

abbrev pub Are : (ℕ → Slot → Type 0) → ℕ → Filling → Type 0
Are Q i refused = Unit {0}
Are Q i (these ss) = SlotsAre Q i ss
Are Q i (each s) = (j : ℕ) → Q j s
Are Q i (each_or_last s r) = (j : ℕ) → Q j s × Q j r
Are Q i (pieces g) = Unit {0}

slots_all : (Q : ℕ → Slot → Type 0) → ((i : ℕ) (s : Slot) → Q i s) → (i : ℕ) (ss : List Slot) → SlotsAre Q i ss
slots_all Q f i [] = tt
slots_all Q f i (s ∷ ss) = (f i s, slots_all Q f (suc i) ss)

are_all : (Q : ℕ → Slot → Type 0) → ((i : ℕ) (s : Slot) → Q i s) → (i : ℕ) (g : Filling) → Are Q i g
are_all Q f i refused = tt
are_all Q f i (these ss) = slots_all Q f i ss
are_all Q f i (each s) = λ j. f j s
are_all Q f i (each_or_last s r) = λ j. (f j s, f j r)
are_all Q f i (pieces g) = tt

-- ---- parts

abbrev is_part : Class → Bool
is_part a_class_body = true
is_part a_class_member = true
is_part a_method = true
is_part a_binding = true
is_part a_label = true
is_part a_private_name = true
is_part (an_inner c) = true
is_part an_inner_argument = true
is_part a_super = true
is_part (a_private_or_key computed) = true
is_part (an_inner_key computed) = true
is_part a_tagged_template = true
is_part (a_word w) = true
is_part a_pattern = true
is_part a_pattern_element = true
is_part a_pattern_property = true
is_part a_pattern_rest = true
is_part a_parameter = true
is_part an_element_target = true
is_part a_named_target = true
is_part a_target_name = true
is_part a_target_element = true
is_part a_target_property = true
is_part a_target_rest = true
is_part an_import = true
is_part a_module_name = true
is_part a_string = true
is_part an_export = true
is_part an_exported_name = true
is_part c = false

abbrev pub is_part_slot : Slot → Bool
is_part_slot (one c) = is_part c
is_part_slot (one_or_absent c) = is_part c
is_part_slot (many c) = is_part c
is_part_slot (many_or_holes c) = is_part c
is_part_slot (many_and_rest c rest) = is_part c && is_part rest
is_part_slot (many_or_holes_and_rest c rest) = is_part c && is_part rest
is_part_slot (quasis g) = true

-- of a declaration that is exported
abbrev pub is_declared_slot : Slot → Bool
is_declared_slot (one_or_absent an_exported_declaration) = true
is_declared_slot (one a_default_export) = true
is_declared_slot s = false

abbrev pub shows_right : Showing → Slot → Bool
shows_right Whole s = is_part_slot s
shows_right Named s = is_declared_slot s
shows_right Hidden s = true

abbrev show_right : (ℕ → Showing) → ℕ → List Slot → Bool
show_right σ i [] = true
show_right σ i (s ∷ ss) = shows_right (σ i) s && show_right σ (suc i) ss

abbrev right_by : (ℕ → Showing) → Option (List Slot) → Bool
right_by σ None = true
right_by σ (Some ss) = show_right σ 0 ss

abbrev whole : ℕ → Showing
whole i = Whole

-- the classes of parts
data Part : Class → Type 0 where
  the_class_body : Part a_class_body
  the_class_member : Part a_class_member
  the_method : Part a_method
  the_binding : Part a_binding
  the_label : Part a_label
  the_private_name : Part a_private_name
  the_inner : (c : Class) → Part (an_inner c)
  the_inner_argument : Part an_inner_argument
  the_super : Part a_super
  the_private_or_key : (computed : Bool) → Part (a_private_or_key computed)
  the_inner_key : (computed : Bool) → Part (an_inner_key computed)
  the_tagged_template : Part a_tagged_template
  the_word : (w : List ℕ) → Part (a_word w)
  the_pattern : Part a_pattern
  the_pattern_element : Part a_pattern_element
  the_pattern_property : Part a_pattern_property
  the_pattern_rest : Part a_pattern_rest
  the_parameter : Part a_parameter
  the_element_target : Part an_element_target
  the_named_target : Part a_named_target
  the_target_name : Part a_target_name
  the_target_element : Part a_target_element
  the_target_property : Part a_target_property
  the_target_rest : Part a_target_rest
  the_import : Part an_import
  the_module_name : Part a_module_name
  the_string : Part a_string
  the_export : Part an_export
  the_exported_name : Part an_exported_name

part : (c : Class) → (is_part c ≡ false) ⊎ Part c
part a_class_body = inr the_class_body
part a_class_member = inr the_class_member
part a_method = inr the_method
part a_binding = inr the_binding
part a_label = inr the_label
part a_private_name = inr the_private_name
part (an_inner c) = inr (the_inner c)
part an_inner_argument = inr the_inner_argument
part a_super = inr the_super
part (a_private_or_key computed) = inr (the_private_or_key computed)
part (an_inner_key computed) = inr (the_inner_key computed)
part a_tagged_template = inr the_tagged_template
part (a_word w) = inr (the_word w)
part a_pattern = inr the_pattern
part a_pattern_element = inr the_pattern_element
part a_pattern_property = inr the_pattern_property
part a_pattern_rest = inr the_pattern_rest
part a_parameter = inr the_parameter
part an_element_target = inr the_element_target
part a_named_target = inr the_named_target
part a_target_name = inr the_target_name
part a_target_element = inr the_target_element
part a_target_property = inr the_target_property
part a_target_rest = inr the_target_rest
part an_import = inr the_import
part a_module_name = inr the_module_name
part a_string = inr the_string
part an_export = inr the_export
part an_exported_name = inr the_exported_name
part c = inl refl

-- the children of a part are parts, unless it has a number

abbrev has_parts : Bool → Class → Shape → Bool
has_parts strict c h = not (has_its_number c h 0) || right_by whole (slots_of strict c h)

part_rows : (c : Class) → Part c → (strict : Bool) (h : Shape) → has_parts strict c h ≡ true
part_rows _ the_method strict shape.Absent = refl
part_rows _ (the_private_or_key true) strict shape.Absent = refl
part_rows _ (the_private_or_key false) strict shape.Absent = refl
part_rows _ (the_inner_key true) strict shape.Absent = refl
part_rows _ (the_inner_key false) strict shape.Absent = refl
part_rows _ (the_word w) strict (shape.IdentifierName s) = by (is_text s w)
  where
    by : (b : Bool) → right_by whole (none_if (not b) (Some [])) ≡ true
    by true = refl
    by false = refl
part_rows c a strict (shape.NumericLiteral (pos n)) = refl
part_rows c a strict (shape.NumericLiteral (negsuc n)) = refl
part_rows c a strict h = refl

part_checked : (strict : Bool) (c : Class) (h : Shape) → (not (is_part c) || has_parts strict c h) ≡ true
part_checked strict c h = by (part c)
  where
    by : (is_part c ≡ false) ⊎ Part c → (not (is_part c) || has_parts strict c h) ≡ true
    by (inl e) = ap (λ b. not b || has_parts strict c h) e
    by (inr a) = or_second (not (is_part c)) (has_parts strict c h) (part_rows c a strict h)

-- so are those of a node with an outline, where they stand whole

pub data Outlined : Shape → Type 0 where
  of_function : (d g : Bool) (ds : List (List ℕ)) → Outlined (shape.Function d g ds)
  of_arrow : (ds : List (List ℕ)) → Outlined (shape.ArrowFunctionExpression ds)
  of_class : (d : Bool) → Outlined (shape.Class d)
  of_static_block : Outlined shape.StaticBlock
  of_inner : Outlined shape.InnerExpression
  of_reg_exp : (pattern flags : List ℕ) → Outlined (shape.RegExpLiteral pattern flags)
  of_private_in : Outlined shape.PrivateInExpression
  of_super_call : Outlined shape.SuperCallExpression
  of_super_static : Outlined shape.SuperStaticMemberExpression
  of_super_computed : Outlined shape.SuperComputedMemberExpression
  of_private_field : (optional : Bool) → Outlined (shape.PrivateFieldExpression optional)
  of_tagged : Outlined shape.TaggedTemplateExpression
  of_meta : (k : MetaPropertyKind) → Outlined (shape.MetaProperty k)
  of_import_call : Outlined shape.ImportExpression
  of_object_pattern : Outlined shape.ObjectPattern
  of_array_pattern : Outlined shape.ArrayPattern
  of_object_target : Outlined shape.ObjectAssignmentTarget
  of_array_target : Outlined shape.ArrayAssignmentTarget
  of_assignment : Outlined shape.AssignmentPattern
  of_import : Outlined shape.ImportDeclaration
  of_export : Outlined shape.ExportNamedDeclaration
  of_default : Outlined shape.ExportDefaultDeclaration
  of_all : Outlined shape.ExportAllDeclaration

own_checked : (strict : Bool) (c : Class) (h : Shape) → Outlined h → right_by (showing h) (slots_of strict c h) ≡ true
own_checked strict a_method _ (of_function true g ds) = refl
own_checked true (a_statement in_module) _ (of_function true g ds) = refl
own_checked true (a_statement in_body) _ (of_function true g ds) = refl
own_checked true (a_statement nested) _ (of_function true g ds) = refl
own_checked false (a_statement in_module) _ (of_function true g ds) = refl
own_checked false (a_statement in_body) _ (of_function true g ds) = refl
own_checked false (a_statement nested) _ (of_function true g ds) = refl
own_checked strict (a_key true) _ (of_function true g ds) = refl
own_checked strict (a_key false) _ (of_function true g ds) = refl
own_checked strict (a_private_or_key true) _ (of_function true g ds) = refl
own_checked strict (a_private_or_key false) _ (of_function true g ds) = refl
own_checked strict (an_inner_key true) _ (of_function true g ds) = refl
own_checked strict (an_inner_key false) _ (of_function true g ds) = refl
own_checked strict c _ (of_function true g ds) = refl
own_checked strict c _ (of_function false g ds) = refl
own_checked strict c _ (of_class true) = refl
own_checked strict c _ (of_class false) = refl
own_checked strict c _ (of_private_field true) = refl
own_checked strict c _ (of_private_field false) = refl
own_checked strict c _ (of_meta NewTarget) = refl
own_checked strict c _ (of_meta ImportMeta) = refl
own_checked strict c h o = refl

-- ---- what the children of a node fill

implied : (a b : Bool) → (not a || b) ≡ true → a ≡ true → b ≡ true
implied true b e f = e
implied false b e f = absurd (cc f)

slots_right : (σ : ℕ → Showing) (i : ℕ) (ss : List Slot) → show_right σ i ss ≡ true → SlotsAre (λ j s. shows_right (σ j) s ≡ true) i ss
slots_right σ i [] e = tt
slots_right σ i (s ∷ ss) e = (left (shows_right (σ i) s) (show_right σ (suc i) ss) e, slots_right σ (suc i) ss (right (shows_right (σ i) s) (show_right σ (suc i) ss) e))

filled_right : (σ : ℕ → Showing) (o : Option (List Slot)) → right_by σ o ≡ true → Are (λ j s. shows_right (σ j) s ≡ true) 0 (filling_by o)
filled_right σ None e = tt
filled_right σ (Some ss) e = slots_right σ 0 ss e

-- of a node with an outline
own_of : (strict : Bool) (c : Class) (h : Shape) → Outlined h → Are (λ j s. shows_right (showing h j) s ≡ true) 0 (filling_by (slots_of strict c h))
own_of strict c h o = filled_right (showing h) (slots_of strict c h) (own_checked strict c h o)

pub own_right : (strict : Bool) (s : Slot) (h : Shape) → Outlined h → Are (λ j r. shows_right (showing h j) r ≡ true) 0 (filling strict s h)
own_right strict (one c) h o = own_of strict c h o
own_right strict (one_or_absent c) _ of_static_block = own_of strict c shape.StaticBlock of_static_block
own_right strict (one_or_absent c) h o = own_of strict c h o
own_right strict s _ of_static_block = tt
own_right strict s h o = tt

-- of a part that has no number
part_of : (strict : Bool) (c : Class) (h : Shape) → is_part c ≡ true → has_its_number c h 0 ≡ true → Are (λ j s. is_part_slot s ≡ true) 0 (filling_by (slots_of strict c h))
part_of strict c h q z = filled_right whole (slots_of strict c h) (implied (has_its_number c h 0) (right_by whole (slots_of strict c h)) (implied (is_part c) (not (has_its_number c h 0) || right_by whole (slots_of strict c h)) (part_checked strict c h) q) z)

pub part_right : (strict : Bool) (s : Slot) (h : Shape) → is_part_slot s ≡ true → has_its_number (class_of s) h 0 ≡ true → Are (λ j r. is_part_slot r ≡ true) 0 (filling strict s h)
part_right strict (one c) h q z = part_of strict c h q z
part_right strict (one_or_absent c) shape.Absent q z = tt
part_right strict (one_or_absent c) h q z = part_of strict c h q z
part_right strict (many c) shape.Listed q z = λ j. q
part_right strict (many_or_holes c) shape.Listed q z = λ j. q
part_right strict (many_and_rest c rest) shape.Listed q z = λ j. (left (is_part c) (is_part rest) q, right (is_part c) (is_part rest) q)
part_right strict (many_or_holes_and_rest c rest) shape.Listed q z = λ j. (left (is_part c) (is_part rest) q, right (is_part c) (is_part rest) q)
part_right strict (quasis g) shape.Listed q z = tt
part_right strict s h q z = tt

-- a part is no statement and no expression of a body

part_apart : (c : Class) → (not (is_part c) || not (is_in_body c)) ≡ true
part_apart (a_key true) = refl
part_apart (a_key false) = refl
part_apart c = refl

denied : (b : Bool) → not b ≡ true → b ≡ true → ⊥
denied true e f = cc e
denied false e f = cc f

class_apart : (c : Class) → is_part c ≡ true → is_in_body c ≡ true → ⊥
class_apart c e f = denied (is_in_body c) (implied (is_part c) (not (is_in_body c)) (part_apart c) e) f

pub slot_apart : (p : Position) (s : Slot) → is_part_slot s ≡ true → is_body_slot p s ≡ true → ⊥
slot_apart p (one c) e f = class_apart c e f
slot_apart p (one_or_absent c) e f = class_apart c e f
slot_apart StatementList (many (a_statement d)) e f = cc e
slot_apart BodyList (many (a_statement d)) e f = cc e
slot_apart p s e f = cc f

-- nor is the value of a method one
pub no_method : (p : Position) (s : Slot) → is_body_slot p s ≡ true → is_method_slot s ≡ false
no_method p (one a_method) e = absurd (cc e)
no_method p (one c) e = refl
no_method p s e = refl

pub no_keyed_method : (s : Slot) → is_keyed_slot s ≡ true → is_method_slot s ≡ false
no_keyed_method (one a_method) e = absurd (cc e)
no_keyed_method (one c) e = refl
no_keyed_method s e = refl

-- ---- a program

abbrev pub AProgram : Bool → Slot → Bool → List (List ℕ) → Type 0
AProgram strict s m ds = (filling strict s (shape.Program m ds) ≡ refused) ⊎ (filling strict s (shape.Program m ds) ≡ these (many (a_statement (if m then in_module else in_body)) ∷ []))

program_in : (strict : Bool) (c : Class) (m : Bool) (ds : List (List ℕ)) → AProgram strict (one c) m ds
program_in strict a_program m ds = inr refl
program_in true (a_statement in_module) m ds = inl refl
program_in true (a_statement in_body) m ds = inl refl
program_in true (a_statement nested) m ds = inl refl
program_in false (a_statement in_module) m ds = inl refl
program_in false (a_statement in_body) m ds = inl refl
program_in false (a_statement nested) m ds = inl refl
program_in strict (a_key true) m ds = inl refl
program_in strict (a_key false) m ds = inl refl
program_in strict (a_private_or_key true) m ds = inl refl
program_in strict (a_private_or_key false) m ds = inl refl
program_in strict (an_inner_key true) m ds = inl refl
program_in strict (an_inner_key false) m ds = inl refl
program_in strict c m ds = inl refl

pub program_filling : (strict : Bool) (s : Slot) (m : Bool) (ds : List (List ℕ)) → AProgram strict s m ds
program_filling strict (one c) m ds = program_in strict c m ds
program_filling strict (one_or_absent c) m ds = program_in strict c m ds
program_filling strict s m ds = inl refl

-- it is no part of a frame

program_part : (strict : Bool) (c : Class) (m : Bool) (ds : List (List ℕ)) → is_part c ≡ true → filling_by (slots_of strict c (shape.Program m ds)) ≡ refused
program_part strict a_program m ds q = absurd (cc q)
program_part strict (a_statement d) m ds q = absurd (cc q)
program_part strict (a_key computed) m ds q = absurd (cc q)
program_part strict (a_private_or_key true) m ds q = refl
program_part strict (a_private_or_key false) m ds q = refl
program_part strict (an_inner_key true) m ds q = refl
program_part strict (an_inner_key false) m ds q = refl
program_part strict c m ds q = refl

pub program_apart : (strict : Bool) (s : Slot) (m : Bool) (ds : List (List ℕ)) → is_part_slot s ≡ true → filling strict s (shape.Program m ds) ≡ refused
program_apart strict (one c) m ds q = program_part strict c m ds q
program_apart strict (one_or_absent c) m ds q = program_part strict c m ds q
program_apart strict s m ds q = refl

-- ---- functions of an object literal

abbrev is_property : Shape → Bool
is_property (shape.ObjectProperty k m s c) = true
is_property h = false

no_property : (h : Shape) (i : ℕ) → is_property h ≡ false → property_below h i ≡ None
no_property (shape.ObjectProperty k m s c) i e = absurd (cc e)
no_property h zero e = refl
no_property h (suc i) e = refl

abbrev AProperty : Bool → Slot → PropertyKind → Bool → Bool → Bool → Type 0
AProperty strict s k m sh computed = (filling strict s (shape.ObjectProperty k m sh computed) ≡ refused) ⊎ (filling strict s (shape.ObjectProperty k m sh computed) ≡ these (one (a_key computed) ∷ (one (value_class k m) ∷ [])))

property_in : (strict : Bool) (c : Class) (k : PropertyKind) (m sh computed : Bool) → AProperty strict (one c) k m sh computed
property_in strict an_object_property k m sh computed = inr refl
property_in true (a_statement in_module) k m sh computed = inl refl
property_in true (a_statement in_body) k m sh computed = inl refl
property_in true (a_statement nested) k m sh computed = inl refl
property_in false (a_statement in_module) k m sh computed = inl refl
property_in false (a_statement in_body) k m sh computed = inl refl
property_in false (a_statement nested) k m sh computed = inl refl
property_in strict (a_key true) k m sh computed = inl refl
property_in strict (a_key false) k m sh computed = inl refl
property_in strict (a_private_or_key true) k m sh computed = inl refl
property_in strict (a_private_or_key false) k m sh computed = inl refl
property_in strict (an_inner_key true) k m sh computed = inl refl
property_in strict (an_inner_key false) k m sh computed = inl refl
property_in strict c k m sh computed = inl refl

property_filling : (strict : Bool) (s : Slot) (k : PropertyKind) (m sh computed : Bool) → AProperty strict s k m sh computed
property_filling strict (one c) k m sh computed = property_in strict c k m sh computed
property_filling strict (one_or_absent c) k m sh computed = property_in strict c k m sh computed
property_filling strict s k m sh computed = inl refl

-- a function there has no kind of property, unless its slot is that of a method
abbrev pub Plain : (ℕ → Option PropertyKind) → ℕ → Slot → Type 0
Plain kind i s = is_method_slot s ≡ false → kind i ≡ None

key_plain : (k : PropertyKind) (m sh computed : Bool) → property_below (shape.ObjectProperty k m sh computed) 0 ≡ None
key_plain property.Init false sh computed = refl
key_plain k m sh computed = refl

value_plain : (k : PropertyKind) (m sh computed : Bool) → Plain (property_below (shape.ObjectProperty k m sh computed)) 1 (one (value_class k m))
value_plain property.Init false sh computed = λ e. refl
value_plain property.Init true sh computed = λ e. absurd (cc e)
value_plain property.Get true sh computed = λ e. absurd (cc e)
value_plain property.Get false sh computed = λ e. absurd (cc e)
value_plain property.Set true sh computed = λ e. absurd (cc e)
value_plain property.Set false sh computed = λ e. absurd (cc e)

property_plain : (strict : Bool) (s : Slot) (k : PropertyKind) (m sh computed : Bool) → AProperty strict s k m sh computed → Are (Plain (property_below (shape.ObjectProperty k m sh computed))) 0 (filling strict s (shape.ObjectProperty k m sh computed))
property_plain strict s k m sh computed (inl f) = subst (Are (Plain (property_below (shape.ObjectProperty k m sh computed))) 0) (sym f) tt
property_plain strict s k m sh computed (inr f) = subst (Are (Plain (property_below (shape.ObjectProperty k m sh computed))) 0) (sym f) ((λ e. key_plain k m sh computed), (value_plain k m sh computed, tt))

pub plain_right : (strict : Bool) (s : Slot) (h : Shape) → Are (Plain (property_below h)) 0 (filling strict s h)
plain_right strict s (shape.ObjectProperty k m sh computed) = property_plain strict s k m sh computed (property_filling strict s k m sh computed)
plain_right strict s h = are_all (Plain (property_below h)) (λ i r e. no_property h i refl) 0 (filling strict s h)

-- ---- numbers and outlines

pub numbered_outline : (c : Class) (h : Shape) (n : ℕ) → has_its_number c h (suc n) ≡ true → Outlined h
numbered_outline c (shape.Function d g ds) n e = of_function d g ds
numbered_outline c (shape.ArrowFunctionExpression ds) n e = of_arrow ds
numbered_outline c (shape.Class d) n e = of_class d
numbered_outline c shape.StaticBlock n e = of_static_block
numbered_outline c shape.InnerExpression n e = of_inner
numbered_outline c (shape.RegExpLiteral pattern flags) n e = of_reg_exp pattern flags
numbered_outline c shape.PrivateInExpression n e = of_private_in
numbered_outline c shape.SuperCallExpression n e = of_super_call
numbered_outline c shape.SuperStaticMemberExpression n e = of_super_static
numbered_outline c shape.SuperComputedMemberExpression n e = of_super_computed
numbered_outline c (shape.PrivateFieldExpression optional) n e = of_private_field optional
numbered_outline c shape.TaggedTemplateExpression n e = of_tagged
numbered_outline c (shape.MetaProperty k) n e = of_meta k
numbered_outline c shape.ImportExpression n e = of_import_call
numbered_outline c shape.ObjectPattern n e = of_object_pattern
numbered_outline c shape.ArrayPattern n e = of_array_pattern
numbered_outline c shape.ObjectAssignmentTarget n e = of_object_target
numbered_outline c shape.ArrayAssignmentTarget n e = of_array_target
numbered_outline c shape.AssignmentPattern n e = of_assignment
numbered_outline c h n e = absurd (false≢true (sym (eqb-suc-zero n) ∙ e))

pub port_outline : (m : Bool) (h : Shape) → is_port m h ≡ true → Outlined h
port_outline m shape.ImportDeclaration e = of_import
port_outline m shape.ExportNamedDeclaration e = of_export
port_outline m shape.ExportDefaultDeclaration e = of_default
port_outline m shape.ExportAllDeclaration e = of_all
port_outline m (shape.Function d g ds) e = of_function d g ds
port_outline m h e = absurd (cc e)

-- A static block and an inner expression stand below a node that evaluates none of its children, as a class or the value of a field: in a
-- well-shaped program a step at one is a step in the innermost such node.
use Rattle.std.specs.Prelude.{ℕ, zero, suc, ◌≡◌, refl, ◌⊎◌, Bool, true, false, ◌&&◌, ◌||◌, not, List, [], ◌∷◌, Option, Some, None, if◌then◌else◌, pos, negsuc}
use Rattle.std.proofs.Common.{ap, sym, ◌∙◌, inl, inr, true≢false}
use Rattle.std.proofs.lemmas.Bool.{and_parts}
use Rattle.mini_model.specs.declared.name.Name.{Name}
use Rattle.mini_model.specs.declared.kind.MetaPropertyKind.TheVariants.{NewTarget, ImportMeta}
use Rattle.mini_model.specs.declared.operator.AssignmentOperator.TheVariants.{Assign}
use Rattle.mini_model.specs.declared.place.Position.{Position}
use Rattle.mini_model.specs.declared.place.Position.TheVariants.{Elsewhere}
use Rattle.mini_model.specs.declared.shape.Shape.{Shape}
use Rattle.mini_model.specs.declared.shape.Shape.TheVariants as shape
use Rattle.mini_model.specs.Tree.{Tree, Trees, node, none, ◌▸◌, count, shape_of, first_or_absent}
use Rattle.mini_model.specs.Position.{child_position}
use Rattle.mini_model.specs.Rewriting.{Step, here, inside, StepIn, first, later}
use Rattle.mini_accept.specs.WellShaped.{Tagging, untagged, tagged, Depth, in_module, in_body, nested, Class, a_program, a_statement, a_block, a_case, a_catch, an_init, a_loop_left, a_declarator, a_pattern, a_pattern_element, a_pattern_property, a_pattern_rest, a_parameter, a_binding, a_label, a_private_name, a_function_body, an_arrow_body, a_class_body, a_class_member, a_method, an_expression, a_link, a_chain, an_argument, an_inner_argument, an_inner, a_super, an_object_property, a_key, a_private_or_key, an_inner_key, a_tagged_template, a_target, a_simple_target, an_element_target, a_member_target, a_named_target, a_target_name, a_target_element, a_target_property, a_target_rest, an_import, a_module_name, a_string, an_export, an_exported_name, an_exported_declaration, a_default_export, a_word, Slot, one, one_or_absent, many, many_or_holes, many_and_rest, many_or_holes_and_rest, quasis, is_text, is_init, expression_slots, is_optional, none_if, unchained_slots, is_chained, member_slots, pattern_target_slots, pattern_slots, variable_slots, function_slots, or_else, module_slots, in_depth, is_sloppy_function, statement_slots, key_slots, private_or_key_slots, inner_slots, word_slots, slots_of, is_strict_in, is_whole, is_quasi, are_quasis, Filling, refused, these, each, each_or_last, pieces, filling_by, filling, class_of, is_last, fits, fill, IsWellShaped}
use Rattle.mini_laws.specs.Bodies.{Around, below, outermost}
use Rattle.mini_kept.specs.Standing.{is_asked_whole, Stands}
use Rattle.mini_kept.proofs.BodyPlaces.{ChildrenStand, children_stand, inner_stands}
use Rattle.mini_kept.proofs.BodySteps.{one_of, whole_stands}
use Rattle.mini_kept.proofs.Bools.{right}
use Rattle.mini_rows.specs.Steady.{has_body}

-- ---- shapes

-- the nodes that are rewritten
abbrev pub is_part : Shape → Bool
is_part shape.StaticBlock = true
is_part shape.InnerExpression = true
is_part h = false

-- those that evaluate no child but a declared class its name
abbrev pub is_inert : Shape → Bool
is_inert (shape.Class d) = true
is_inert shape.ClassBody = true
is_inert (shape.MethodDefinition k computed is_static) = true
is_inert (shape.PropertyDefinition computed is_static) = true
is_inert shape.PrivateInExpression = true
is_inert shape.SuperCallExpression = true
is_inert shape.SuperComputedMemberExpression = true
is_inert (shape.PrivateFieldExpression optional) = true
is_inert shape.TaggedTemplateExpression = true
is_inert shape.ImportExpression = true
is_inert shape.AssignmentPattern = true
is_inert (shape.BindingProperty shorthand computed) = true
is_inert shape.RestElement = true
is_inert shape.ArrayAssignmentTarget = true
is_inert (shape.AssignmentTargetPropertyProperty computed) = true
is_inert h = false

abbrev pub asks_first : Shape → Bool
asks_first (shape.Class d) = true
asks_first h = false

-- ---- slots: those that no such part fills, nor what stands between it and the node around, and those that one may

abbrev is_plain : Class → Bool
is_plain a_class_member = false
is_plain (an_inner c) = false
is_plain an_inner_argument = false
is_plain (a_private_or_key computed) = false
is_plain (an_inner_key computed) = false
is_plain a_tagged_template = false
is_plain an_element_target = false
is_plain a_target_element = false
is_plain c = true

-- an inner expression holds what fills a plain slot
abbrev is_sound : Class → Bool
is_sound (an_inner c) = is_plain c
is_sound c = true

abbrev by_class : (Class → Bool) → Slot → Bool
by_class f (one c) = f c
by_class f (one_or_absent c) = f c
by_class f (many c) = f c
by_class f (many_or_holes c) = f c
by_class f (many_and_rest c rest) = f c && f rest
by_class f (many_or_holes_and_rest c rest) = f c && f rest
by_class f (quasis g) = true

abbrev plain_slot : Slot → Bool
plain_slot = by_class is_plain

abbrev sound_slot : Slot → Bool
sound_slot = by_class is_sound

abbrev all_by : (Slot → Bool) → List Slot → Bool
all_by f [] = true
all_by f (s ∷ ss) = f s && all_by f ss

abbrev filled_by : (Slot → Bool) → Filling → Bool
filled_by f refused = true
filled_by f (these ss) = all_by f ss
filled_by f (each s) = f s
filled_by f (each_or_last s l) = f s && f l
filled_by f (pieces g) = true

-- the slots of an inert node are sound; of a part, which fills no plain slot, they are plain; and so are those of any other node that fills a
-- plain slot; what fills another has no body
abbrev told_by : Bool → Shape → Bool → Bool → Bool
told_by b h plain sound = if is_inert h then sound else (if is_part h then (not b && plain) else (if b then plain else (not (has_body h) && sound)))

abbrev told : Bool → Shape → Option (List Slot) → Bool
told b h None = true
told b h (Some ss) = told_by b h (all_by plain_slot ss) (all_by sound_slot ss)

abbrev told_in : Bool → Shape → Filling → Bool
told_in b h refused = true
told_in b h g = told_by b h (filled_by plain_slot g) (filled_by sound_slot g)

-- ---- the slots of each shape

told_if : (b n : Bool) (h : Shape) (o : Option (List Slot)) → told b h o ≡ true → told b h (none_if n o) ≡ true
told_if b true h o e = refl
told_if b false h o e = e

told_or : (b : Bool) (h : Shape) (o u : Option (List Slot)) → told b h o ≡ true → told b h u ≡ true → told b h (or_else o u) ≡ true
told_or b h None u e f = f
told_or b h (Some ss) u e f = e

expression_told : (k : Class) (h : Shape) → is_plain k ≡ true → told true h (expression_slots k h) ≡ true
expression_told k (shape.Function true g ds) e = refl
expression_told k (shape.Function false g ds) e = refl
expression_told k (shape.Class true) e = refl
expression_told k (shape.Class false) e = refl
expression_told k (shape.AssignmentExpression Assign) e = refl
expression_told k (shape.AssignmentExpression o) e = refl
expression_told k (shape.CallExpression b) e = ap (λ c. c && true) e
expression_told k (shape.StaticMemberExpression b) e = ap (λ c. c && true) e
expression_told k (shape.ComputedMemberExpression b) e = ap (λ c. c && true) e
expression_told k (shape.PrivateFieldExpression b) e = ap (λ c. c && true) e
expression_told k (shape.YieldExpression true) e = refl
expression_told k (shape.YieldExpression false) e = refl
expression_told k (shape.MetaProperty NewTarget) e = refl
expression_told k (shape.MetaProperty ImportMeta) e = refl
expression_told k h e = refl

unchained_told : (h : Shape) → told true h (unchained_slots h) ≡ true
unchained_told h = told_if true (is_optional h) h (expression_slots an_expression h) (expression_told an_expression h refl)

member_told : (h : Shape) → told true h (member_slots h) ≡ true
member_told (shape.StaticMemberExpression true) = refl
member_told (shape.StaticMemberExpression false) = refl
member_told (shape.ComputedMemberExpression true) = refl
member_told (shape.ComputedMemberExpression false) = refl
member_told (shape.PrivateFieldExpression true) = refl
member_told (shape.PrivateFieldExpression false) = refl
member_told h = refl

-- in a plain slot or in one that a part may fill
target_told : (b : Bool) (h : Shape) → told b h (pattern_target_slots h) ≡ true
target_told true shape.Identifier = refl
target_told true h = refl
target_told false shape.Identifier = refl
target_told false h = refl

pattern_told : (h : Shape) → told true h (pattern_slots h) ≡ true
pattern_told shape.BindingIdentifier = refl
pattern_told h = refl

variable_told : (h : Shape) → told true h (variable_slots h) ≡ true
variable_told (shape.VariableDeclaration k) = refl
variable_told h = refl

function_told : (h : Shape) → told true h (function_slots (one a_binding) h) ≡ true
function_told (shape.Function true g ds) = refl
function_told (shape.Function false g ds) = refl
function_told (shape.Class true) = refl
function_told (shape.Class false) = refl
function_told h = refl

default_told : (h : Shape) → told true h (function_slots (one_or_absent a_binding) h) ≡ true
default_told (shape.Function true g ds) = refl
default_told (shape.Function false g ds) = refl
default_told (shape.Class true) = refl
default_told (shape.Class false) = refl
default_told h = refl

module_told : (d : Depth) (h : Shape) → told true h (in_depth d (module_slots h)) ≡ true
module_told in_module shape.ImportDeclaration = refl
module_told in_module h = refl
module_told in_body h = refl
module_told nested h = refl

declared_told : (strict : Bool) (d : Depth) (h : Shape) → told true h (none_if (is_sloppy_function strict d h) (or_else (variable_slots h) (or_else (function_slots (one a_binding) h) (in_depth d (module_slots h))))) ≡ true
declared_told strict d h =
    told_if true (is_sloppy_function strict d h) h (or_else (variable_slots h) (or_else (function_slots (one a_binding) h) (in_depth d (module_slots h))))
    (told_or true h (variable_slots h) (or_else (function_slots (one a_binding) h) (in_depth d (module_slots h))) (variable_told h) (told_or true h (function_slots (one a_binding) h) (in_depth d (module_slots h)) (function_told h) (module_told d h)))

statement_told : (strict : Bool) (d : Depth) (h : Shape) → told true h (statement_slots strict d h) ≡ true
statement_told strict d shape.EmptyStatement = refl
statement_told strict d shape.DebuggerStatement = refl
statement_told strict d shape.ExpressionStatement = refl
statement_told strict d shape.BlockStatement = refl
statement_told strict d shape.LabeledStatement = refl
statement_told strict d shape.BreakStatement = refl
statement_told strict d shape.ContinueStatement = refl
statement_told strict d shape.ReturnStatement = refl
statement_told strict d shape.ThrowStatement = refl
statement_told strict d shape.IfStatement = refl
statement_told strict d shape.SwitchStatement = refl
statement_told strict d shape.TryStatement = refl
statement_told strict d shape.WhileStatement = refl
statement_told strict d shape.DoWhileStatement = refl
statement_told strict d shape.ForStatement = refl
statement_told strict d shape.ForInStatement = refl
statement_told strict d shape.ForOfStatement = refl
statement_told strict d h = declared_told strict d h

key_told : (b : Bool) (h : Shape) → told b h (key_slots h) ≡ true
key_told true (shape.NumericLiteral (pos n)) = refl
key_told true (shape.NumericLiteral (negsuc n)) = refl
key_told true h = refl
key_told false (shape.NumericLiteral (pos n)) = refl
key_told false (shape.NumericLiteral (negsuc n)) = refl
key_told false h = refl

private_or_key_told : (h : Shape) → told false h (private_or_key_slots h) ≡ true
private_or_key_told (shape.PrivateIdentifier s) = refl
private_or_key_told h = key_told false h

inner_told : (c : Class) (h : Shape) → is_plain c ≡ true → told false h (inner_slots c h) ≡ true
inner_told c shape.InnerExpression e = ap (λ b. b && true) e
inner_told c h e = refl

word_told : (w : List ℕ) (h : Shape) → told true h (word_slots w h) ≡ true
word_told w (shape.IdentifierName s) = told_if true (not (is_text s w)) (shape.IdentifierName s) (Some []) refl
word_told w h = refl

chosen_plain : (b : Bool) → is_plain (if b then a_method else an_expression) ≡ true
chosen_plain true = refl
chosen_plain false = refl

slots_told : (strict : Bool) (c : Class) (h : Shape) → is_sound c ≡ true → told (is_plain c) h (slots_of strict c h) ≡ true
slots_told strict a_program (shape.Program m ds) e = refl
slots_told strict (a_statement d) h e = statement_told strict d h
slots_told strict a_block shape.BlockStatement e = refl
slots_told strict a_case shape.SwitchCase e = refl
slots_told strict a_catch shape.CatchClause e = refl
slots_told strict an_init h e = told_or true h (variable_slots h) (unchained_slots h) (variable_told h) (unchained_told h)
slots_told strict (a_loop_left b) h e = told_or true h (variable_slots h) (or_else (pattern_target_slots h) (member_slots h)) (variable_told h) (told_or true h (pattern_target_slots h) (member_slots h) (target_told true h) (member_told h))
slots_told strict a_declarator shape.VariableDeclarator e = refl
slots_told strict a_parameter shape.AssignmentPattern e = refl
slots_told strict a_parameter h e = pattern_told h
slots_told strict a_function_body shape.FunctionBody e = refl
slots_told strict an_arrow_body shape.FunctionBody e = refl
slots_told strict an_arrow_body h e = unchained_told h
slots_told strict a_class_body shape.ClassBody e = refl
slots_told strict a_class_member shape.StaticBlock e = refl
slots_told strict a_method (shape.Function false g ds) e = refl
slots_told strict a_binding shape.BindingIdentifier e = refl
slots_told strict a_label (shape.IdentifierName s) e = refl
slots_told strict a_private_name (shape.PrivateIdentifier s) e = refl
slots_told strict (a_word w) h e = word_told w h
slots_told strict an_expression h e = unchained_told h
slots_told strict a_link h e = expression_told a_link h refl
slots_told strict a_chain h e = told_if true (not (is_chained h)) h (expression_slots a_link h) (expression_told a_link h refl)
slots_told strict an_argument shape.SpreadElement e = refl
slots_told strict an_argument h e = unchained_told h
slots_told strict an_inner_argument shape.SpreadElement e = refl
slots_told strict an_inner_argument h e = inner_told an_expression h refl
slots_told strict (an_inner c) h e = inner_told c h e
slots_told strict a_super shape.Super e = refl
slots_told strict an_object_property shape.SpreadElement e = refl
slots_told strict an_object_property (shape.ObjectProperty k is_method shorthand computed) e = ap (λ b. b && true) (chosen_plain (is_method || not (is_init k)))
slots_told strict (a_key true) h e = unchained_told h
slots_told strict (a_key false) h e = key_told true h
slots_told strict (a_private_or_key true) h e = inner_told an_expression h refl
slots_told strict (a_private_or_key false) h e = private_or_key_told h
slots_told strict (an_inner_key true) h e = inner_told an_expression h refl
slots_told strict (an_inner_key false) h e = key_told false h
slots_told strict a_tagged_template shape.TemplateLiteral e = refl
slots_told strict a_pattern h e = pattern_told h
slots_told strict a_pattern_element shape.AssignmentPattern e = refl
slots_told strict a_pattern_element h e = pattern_told h
slots_told strict a_pattern_property (shape.BindingProperty shorthand computed) e = refl
slots_told strict a_pattern_rest shape.RestElement e = refl
slots_told strict a_target h e = told_or true h (pattern_target_slots h) (member_slots h) (target_told true h) (member_told h)
slots_told strict a_simple_target shape.Identifier e = refl
slots_told strict a_simple_target h e = member_told h
slots_told strict an_element_target h e = told_or false h (pattern_target_slots h) (inner_slots a_member_target h) (target_told false h) (inner_told a_member_target h refl)
slots_told strict a_member_target h e = member_told h
slots_told strict a_target_element shape.AssignmentPattern e = refl
slots_told strict a_target_element h e = told_or false h (pattern_target_slots h) (inner_slots a_member_target h) (target_told false h) (inner_told a_member_target h refl)
slots_told strict a_target_property shape.AssignmentTargetPropertyIdentifier e = refl
slots_told strict a_named_target shape.Identifier e = refl
slots_told strict a_target_name shape.Identifier e = refl
slots_told strict a_target_rest shape.RestElement e = refl
slots_told strict an_import shape.ImportSpecifier e = refl
slots_told strict a_module_name (shape.IdentifierName s) e = refl
slots_told strict a_string (shape.StringLiteral s) e = refl
slots_told strict an_export shape.ExportSpecifier e = refl
slots_told strict an_exported_name shape.Identifier e = refl
slots_told strict an_exported_declaration h e = told_or true h (variable_slots h) (function_slots (one a_binding) h) (variable_told h) (function_told h)
slots_told strict a_default_export h e = told_or true h (function_slots (one_or_absent a_binding) h) (unchained_slots h) (default_told h) (unchained_told h)
slots_told strict c h e = refl

filled_told : (b : Bool) (h : Shape) (o : Option (List Slot)) → told b h o ≡ true → told_in b h (filling_by o) ≡ true
filled_told b h None e = refl
filled_told b h (Some ss) e = e

if_same : (b : Bool) → (if b then true else true) ≡ true
if_same true = refl
if_same false = refl

if_sound : (b s : Bool) → s ≡ true → (if b then b else s) ≡ true
if_sound true s e = refl
if_sound false s e = e

filling_told : (strict : Bool) (s : Slot) (h : Shape) → sound_slot s ≡ true → told_in (plain_slot s) h (filling strict s h) ≡ true
filling_told strict (one c) h e = filled_told (is_plain c) h (slots_of strict c h) (slots_told strict c h e)
filling_told strict (one_or_absent c) shape.Absent e = if_same (is_plain c)
filling_told strict (one_or_absent c) h e = filled_told (is_plain c) h (slots_of strict c h) (slots_told strict c h e)
filling_told strict (many c) shape.Listed e = if_sound (is_plain c) (is_sound c) e
filling_told strict (many_or_holes c) shape.Listed e = if_sound (is_plain c) (is_sound c) e
filling_told strict (many_and_rest c rest) shape.Listed e = if_sound (is_plain c && is_plain rest) (is_sound c && is_sound rest) e
filling_told strict (many_or_holes_and_rest c rest) shape.Listed e = if_sound (is_plain c && is_plain rest) (is_sound c && is_sound rest) e
filling_told strict (quasis g) shape.Listed e = refl
filling_told strict s h e = refl

-- ---- what is plain is sound

plain_sound : (c : Class) → is_plain c ≡ true → is_sound c ≡ true
plain_sound (an_inner c) e = absurd (true≢false (sym e))
plain_sound c e = refl

and_on : (a b c d : Bool) → (a ≡ true → c ≡ true) → (b ≡ true → d ≡ true) → (a && b) ≡ true → (c && d) ≡ true
and_on a b c d f g e = let (x, y) = and_parts a b e in ap (λ i. i && d) (f x) ∙ g y

plain_is_sound : (s : Slot) → plain_slot s ≡ true → sound_slot s ≡ true
plain_is_sound (one c) e = plain_sound c e
plain_is_sound (one_or_absent c) e = plain_sound c e
plain_is_sound (many c) e = plain_sound c e
plain_is_sound (many_or_holes c) e = plain_sound c e
plain_is_sound (many_and_rest c rest) e = and_on (is_plain c) (is_plain rest) (is_sound c) (is_sound rest) (plain_sound c) (plain_sound rest) e
plain_is_sound (many_or_holes_and_rest c rest) e = and_on (is_plain c) (is_plain rest) (is_sound c) (is_sound rest) (plain_sound c) (plain_sound rest) e
plain_is_sound (quasis g) e = refl

all_sound : (ss : List Slot) → all_by plain_slot ss ≡ true → all_by sound_slot ss ≡ true
all_sound [] e = refl
all_sound (s ∷ ss) e = and_on (plain_slot s) (all_by plain_slot ss) (sound_slot s) (all_by sound_slot ss) (plain_is_sound s) (all_sound ss) e

filled_sound : (g : Filling) → filled_by plain_slot g ≡ true → filled_by sound_slot g ≡ true
filled_sound refused e = refl
filled_sound (these ss) e = all_sound ss e
filled_sound (each s) e = plain_is_sound s e
filled_sound (each_or_last s l) e = and_on (plain_slot s) (plain_slot l) (sound_slot s) (sound_slot l) (plain_is_sound s) (plain_is_sound l) e
filled_sound (pieces g) e = refl

-- so the children of a node in a sound slot fill sound slots
sound_by : (i q b k plain sound : Bool) → (if i then sound else (if q then (not b && plain) else (if b then plain else (not k && sound)))) ≡ true → (plain ≡ true → sound ≡ true) → sound ≡ true
sound_by true q b k plain sound e f = e
sound_by false true b k plain sound e f = f (and_parts (not b) plain e).1
sound_by false false true k plain sound e f = f e
sound_by false false false k plain sound e f = (and_parts (not k) sound e).1

sound_below : (b : Bool) (h : Shape) (g : Filling) → told_in b h g ≡ true → filled_by sound_slot g ≡ true
sound_below b h refused e = refl
sound_below b h (these ss) e = sound_by (is_inert h) (is_part h) b (has_body h) (filled_by plain_slot (these ss)) (filled_by sound_slot (these ss)) e (filled_sound (these ss))
sound_below b h (each s) e = sound_by (is_inert h) (is_part h) b (has_body h) (filled_by plain_slot (each s)) (filled_by sound_slot (each s)) e (filled_sound (each s))
sound_below b h (each_or_last s l) e = sound_by (is_inert h) (is_part h) b (has_body h) (filled_by plain_slot (each_or_last s l)) (filled_by sound_slot (each_or_last s l)) e (filled_sound (each_or_last s l))
sound_below b h (pieces g) e = refl

-- a node over slots that aren't plain is inert, or fills no plain slot and has no body
decided : (i q b k plain sound : Bool) → (if i then sound else (if q then (not b && plain) else (if b then plain else (not k && sound)))) ≡ true → plain ≡ false → (i ≡ true) ⊎ ((b ≡ false) × (k ≡ false))
decided true q b k plain sound e f = inl refl
decided false true b k plain sound e f = absurd (true≢false (sym (and_parts (not b) plain e).1 ∙ f))
decided false false true k plain sound e f = absurd (true≢false (sym e ∙ f))
decided false false false true plain sound e f = absurd (true≢false (sym e))
decided false false false false plain sound e f = inr (refl, refl)

-- and so of its filling
decide : (b : Bool) (h : Shape) (g : Filling) → told_in b h g ≡ true → filled_by plain_slot g ≡ false → (is_inert h ≡ true) ⊎ ((b ≡ false) × (has_body h ≡ false))
decide b h refused e f = absurd (true≢false f)
decide b h (these ss) e f = decided (is_inert h) (is_part h) b (has_body h) (filled_by plain_slot (these ss)) (filled_by sound_slot (these ss)) e f
decide b h (each s) e f = decided (is_inert h) (is_part h) b (has_body h) (filled_by plain_slot (each s)) (filled_by sound_slot (each s)) e f
decide b h (each_or_last s l) e f = decided (is_inert h) (is_part h) b (has_body h) (filled_by plain_slot (each_or_last s l)) (filled_by sound_slot (each_or_last s l)) e f
decide b h (pieces g) e f = absurd (true≢false f)

-- a part fills no plain slot
never_plain : (b plain : Bool) → (not b && plain) ≡ true → b ≡ false
never_plain true plain e = absurd (true≢false (sym e))
never_plain false plain e = refl

part_told : (b : Bool) (h : Shape) (plain sound : Bool) → is_part h ≡ true → told_by b h plain sound ≡ true → b ≡ false
part_told b shape.StaticBlock plain sound q e = never_plain b plain e
part_told b shape.InnerExpression plain sound q e = never_plain b plain e
part_told b h plain sound q e = absurd (true≢false (sym q))

part_fills : (strict b : Bool) (h : Shape) (g : Filling) (ts : Trees) → is_part h ≡ true → told_in b h g ≡ true → fill strict g ts ≡ true → b ≡ false
part_fills strict b h refused ts q e f = absurd (true≢false (sym f))
part_fills strict b h (these ss) ts q e f = part_told b h (filled_by plain_slot (these ss)) (filled_by sound_slot (these ss)) q e
part_fills strict b h (each s) ts q e f = part_told b h (filled_by plain_slot (each s)) (filled_by sound_slot (each s)) q e
part_fills strict b h (each_or_last s l) ts q e f = part_told b h (filled_by plain_slot (each_or_last s l)) (filled_by sound_slot (each_or_last s l)) q e
part_fills strict b h (pieces g) ts q e f = part_told b h (filled_by plain_slot (pieces g)) (filled_by sound_slot (pieces g)) q e

no_part_piece : (g : Tagging) (last : Bool) (h : Shape) (xs : List Name) (n : ℕ) (ts : Trees) → is_quasi g last (node h xs n ts) ≡ true → is_part h ≡ false
no_part_piece untagged last shape.StaticBlock [] n none e = absurd (true≢false (sym e))
no_part_piece tagged last shape.StaticBlock [] n none e = absurd (true≢false (sym e))
no_part_piece g last shape.StaticBlock [] n (t ▸ ts) e = absurd (true≢false (sym e))
no_part_piece g last shape.StaticBlock (x ∷ xs) n ts e = absurd (true≢false (sym e))
no_part_piece untagged last shape.InnerExpression [] n none e = absurd (true≢false (sym e))
no_part_piece tagged last shape.InnerExpression [] n none e = absurd (true≢false (sym e))
no_part_piece g last shape.InnerExpression [] n (t ▸ ts) e = absurd (true≢false (sym e))
no_part_piece g last shape.InnerExpression (x ∷ xs) n ts e = absurd (true≢false (sym e))
no_part_piece g last h xs n ts e = refl

-- ---- the name of a declared class fills a plain slot

abbrev first_plain : Filling → Bool
first_plain (these (s ∷ ss)) = plain_slot s
first_plain (each s) = plain_slot s
first_plain (each_or_last s l) = plain_slot s && plain_slot l
first_plain g = true

class_in : (strict : Bool) (c : Class) (d : Bool) → first_plain (filling_by (slots_of strict c (shape.Class d))) ≡ true
class_in true (a_statement in_module) true = refl
class_in true (a_statement in_module) false = refl
class_in true (a_statement in_body) true = refl
class_in true (a_statement in_body) false = refl
class_in true (a_statement nested) true = refl
class_in true (a_statement nested) false = refl
class_in false (a_statement in_module) true = refl
class_in false (a_statement in_module) false = refl
class_in false (a_statement in_body) true = refl
class_in false (a_statement in_body) false = refl
class_in false (a_statement nested) true = refl
class_in false (a_statement nested) false = refl
class_in strict (a_key true) true = refl
class_in strict (a_key true) false = refl
class_in strict (a_key false) true = refl
class_in strict (a_key false) false = refl
class_in strict (a_private_or_key true) true = refl
class_in strict (a_private_or_key true) false = refl
class_in strict (a_private_or_key false) true = refl
class_in strict (a_private_or_key false) false = refl
class_in strict (an_inner_key true) true = refl
class_in strict (an_inner_key true) false = refl
class_in strict (an_inner_key false) true = refl
class_in strict (an_inner_key false) false = refl
class_in strict c true = refl
class_in strict c false = refl

class_first : (strict : Bool) (s : Slot) (d : Bool) → first_plain (filling strict s (shape.Class d)) ≡ true
class_first strict (one c) d = class_in strict c d
class_first strict (one_or_absent c) d = class_in strict c d
class_first strict s d = refl

asked_first : (strict : Bool) (s : Slot) (h : Shape) → asks_first h ≡ true → first_plain (filling strict s h) ≡ true
asked_first strict s (shape.Class d) q = class_first strict s d
asked_first strict s h q = absurd (true≢false (sym q))

-- ---- a part below such a node, with nothing between that has a body

mutual
  pub data Bare (O : Position → Tree → Tree → Type 0) : Position → Tree → Tree → Type 0 where
    bare_here : (p : Position) (n w : Tree) → O p n w → (shape_of n ≡ shape.InnerExpression → is_asked_whole p ≡ true) → Bare O p n w
    bare_inside : (p : Position) (h : Shape) (xs : List Name) (n : ℕ) (ts us : Trees) → has_body h ≡ false → BareIn O (child_position h p (count ts)) ts us → Bare O p (node h xs n ts) (node h xs n us)

  pub data BareIn (O : Position → Tree → Tree → Type 0) : (ℕ → Position) → Trees → Trees → Type 0 where
    bare_first : (π : ℕ → Position) (t u : Tree) (ts : Trees) → Bare O (π zero) t u → BareIn O π (t ▸ ts) (u ▸ ts)
    bare_later : (π : ℕ → Position) (t : Tree) (ts us : Trees) → BareIn O (λ i. π (suc i)) ts us → BareIn O π (t ▸ ts) (t ▸ us)

pub data Innermost (O : Position → Tree → Tree → Type 0) : Position → Tree → Tree → Type 0 where
  innermost : (p : Position) (h : Shape) (xs : List Name) (n : ℕ) (ts us : Trees) → is_inert h ≡ true → (asks_first h ≡ true → first_or_absent ts ≡ first_or_absent us) → BareIn O (child_position h p (count ts)) ts us → Innermost O p (node h xs n ts) (node h xs n us)

-- ---- a step at a part in a tree that fills a slot

and_first : (a b : Bool) → a ≡ false → (a && b) ≡ false
and_first true b e = absurd (true≢false e)
and_first false b e = refl

and_second : (a b : Bool) → b ≡ false → (a && b) ≡ false
and_second true b e = e
and_second false b e = refl

module _ (O : Position → Tree → Tree → Type 0) (parts : (p : Position) (n w : Tree) → O p n w → is_part (shape_of n) ≡ true) where
  abbrev Found : Bool → Position → Tree → Tree → Type 0
  Found b p t u = Step (Innermost O) p t u ⊎ ((b ≡ false) × Bare O p t u)

  abbrev FoundIn : Filling → (ℕ → Position) → Trees → Trees → Type 0
  FoundIn g π ts us = StepIn (Innermost O) π ts us ⊎ ((filled_by plain_slot g ≡ false) × (first_plain g ≡ true → first_or_absent ts ≡ first_or_absent us) × BareIn O π ts us)

  no_child : {π : ℕ → Position} {us : Trees} → StepIn O π none us → ⊥
  no_child s = elim s [ ]

  no_piece : (g : Tagging) (last : Bool) {p : Position} {t u : Tree} → is_quasi g last t ≡ true → Step O p t u → ⊥
  no_piece g last e (here p (node h xs n ts) w r) = true≢false (sym (parts p (node h xs n ts) w r) ∙ no_part_piece g last h xs n ts e)
  no_piece g last e (inside p h [] n none us s) = no_child s
  no_piece g last e (inside p h [] n (t ▸ ts) us s) = true≢false (sym e)
  no_piece g last e (inside p h (x ∷ xs) n ts us s) = true≢false (sym e)

  no_pieces : (g : Tagging) {π : ℕ → Position} {ts us : Trees} → are_quasis g ts ≡ true → StepIn O π ts us → ⊥
  no_pieces g e (first π t u none s) = no_piece g true e s
  no_pieces g e (first π t u (v ▸ ts) s) = no_piece g false (and_parts (is_quasi g false t) (are_quasis g (v ▸ ts)) e).0 s
  no_pieces g e (later π t none us s) = no_child s
  no_pieces g e (later π t (v ▸ ts) us s) = no_pieces g (and_parts (is_quasi g false t) (are_quasis g (v ▸ ts)) e).1 s

  first_found : (π : ℕ → Position) (t u : Tree) (ts : Trees) (g : Filling) (b : Bool) → (b ≡ false → filled_by plain_slot g ≡ false) → (b ≡ false → first_plain g ≡ false) → Found b (π zero) t u → FoundIn g π (t ▸ ts) (u ▸ ts)
  first_found π t u ts g b f k (inl s) = inl (first π t u ts s)
  first_found π t u ts g b f k (inr (q, s)) = inr (f q, λ e. absurd (true≢false (sym e ∙ k q)), bare_first π t u ts s)

  later_found : (π : ℕ → Position) (t : Tree) (ts us : Trees) (g r : Filling) → (filled_by plain_slot r ≡ false → filled_by plain_slot g ≡ false) → FoundIn r (λ i. π (suc i)) ts us → FoundIn g π (t ▸ ts) (t ▸ us)
  later_found π t ts us g r f (inl s) = inl (later π t ts us s)
  later_found π t ts us g r f (inr (q, k, s)) = inr (f q, λ e. refl, bare_later π t ts us s)

  inside_found : (b strict : Bool) (s : Slot) (p : Position) (h : Shape) (xs : List Name) (n : ℕ) (ts us : Trees) → told_in b h (filling strict s h) ≡ true → FoundIn (filling strict s h) (child_position h p (count ts)) ts us → Found b p (node h xs n ts) (node h xs n us)
  inside_found b strict s p h xs n ts us c (inl st) = inl (inside p h xs n ts us st)
  inside_found b strict s p h xs n ts us c (inr (q, k, st)) = by (decide b h (filling strict s h) c q)
    where
      by : (is_inert h ≡ true) ⊎ ((b ≡ false) × (has_body h ≡ false)) → Found b p (node h xs n ts) (node h xs n us)
      by (inl i) = inl (here p (node h xs n ts) (node h xs n us) (innermost p h xs n ts us i (λ a. k (asked_first strict s h a)) st))
      by (inr (x, y)) = inr (x, bare_inside p h xs n ts us y st)

  part_at : (strict : Bool) (s : Slot) → sound_slot s ≡ true → (a : Around) (p : Position) (t w : Tree) → Stands s p a → fits strict s t ≡ true → O p t w → Found (plain_slot s) p t w
  part_at strict s c a p (node h xs n ts) w z e r =
      let f = right (is_whole (class_of s) h xs n ts) (fill (is_strict_in strict h) (filling strict s h) ts) e in
      inr (part_fills (is_strict_in strict h) (plain_slot s) h (filling strict s h) ts (parts p (node h xs n ts) w r) (filling_told strict s h c) f, bare_here p (node h xs n ts) w r (λ q. inner_stands strict s h xs n ts q e p z.whole))

  item_found : (strict : Bool) (s l : Slot) (π : ℕ → Position) (t u : Tree) (ts : Trees) → (fits strict s t ≡ true → Found (plain_slot s) (π 0) t u) → (fits strict l t ≡ true → Found (plain_slot l) (π 0) t u) → (fits strict s t ≡ true) ⊎ (fits strict l t ≡ true) → FoundIn (each_or_last s l) π (t ▸ ts) (u ▸ ts)
  item_found strict s l π t u ts x y (inl f) = first_found π t u ts (each_or_last s l) (plain_slot s) (and_first (plain_slot s) (plain_slot l)) (and_first (plain_slot s) (plain_slot l)) (x f)
  item_found strict s l π t u ts x y (inr f) = first_found π t u ts (each_or_last s l) (plain_slot l) (and_second (plain_slot s) (plain_slot l)) (and_second (plain_slot s) (plain_slot l)) (y f)

  mutual
    part_step : (strict : Bool) (s : Slot) → sound_slot s ≡ true → (a : Around) {p : Position} {t u : Tree} → Stands s p a → fits strict s t ≡ true → Step O p t u → Found (plain_slot s) p t u
    part_step strict s c a z e (here p t w r) = part_at strict s c a p t w z e r
    part_step strict s c a z e (inside p h xs n ts us st) =
        let f = right (is_whole (class_of s) h xs n ts) (fill (is_strict_in strict h) (filling strict s h) ts) e in
        let k = filling_told strict s h c in
        inside_found (plain_slot s) strict s p h xs n ts us k (part_steps (is_strict_in strict h) (filling strict s h) (sound_below (plain_slot s) h (filling strict s h) k) (below a h ts) 0 (children_stand strict s h p (count ts) a ts z) f st)

    part_steps : (strict : Bool) (g : Filling) → filled_by sound_slot g ≡ true → (α : ℕ → Around) (i : ℕ) {π : ℕ → Position} {ts us : Trees} → ChildrenStand π α i g → fill strict g ts ≡ true → StepIn O π ts us → FoundIn g π ts us
    part_steps strict refused c α i z e st = absurd (true≢false (sym e))
    part_steps strict (pieces g) c α i z e (first π t u ts st) = absurd (no_pieces g e (first π t u ts st))
    part_steps strict (pieces g) c α i z e (later π t ts us st) = absurd (no_pieces g e (later π t ts us st))
    part_steps strict (these []) c α i z e (first π t u ts st) = absurd (true≢false (sym e))
    part_steps strict (these []) c α i z e (later π t ts us st) = absurd (true≢false (sym e))
    part_steps strict (these (s ∷ ss)) c α i z e (first π t u ts st) =
        first_found π t u ts (these (s ∷ ss)) (plain_slot s) (and_first (plain_slot s) (all_by plain_slot ss)) (λ q. q) (part_step strict s (and_parts (sound_slot s) (all_by sound_slot ss) c).0 (α i) z.0 (and_parts (fits strict s t) (fill strict (these ss) ts) e).0 st)
    part_steps strict (these (s ∷ ss)) c α i z e (later π t ts us st) =
        later_found π t ts us (these (s ∷ ss)) (these ss) (and_second (plain_slot s) (all_by plain_slot ss)) (part_steps strict (these ss) (and_parts (sound_slot s) (all_by sound_slot ss) c).1 α (suc i) z.1 (and_parts (fits strict s t) (fill strict (these ss) ts) e).1 st)
    part_steps strict (each s) c α i z e (first π t u ts st) =
        first_found π t u ts (each s) (plain_slot s) (λ q. q) (λ q. q) (part_step strict s c (α i) (z 0 i) (and_parts (fits strict s t) (fill strict (each s) ts) e).0 st)
    part_steps strict (each s) c α i z e (later π t ts us st) =
        later_found π t ts us (each s) (each s) (λ q. q) (part_steps strict (each s) c α (suc i) (λ j k. z (suc j) k) (and_parts (fits strict s t) (fill strict (each s) ts) e).1 st)
    part_steps strict (each_or_last s l) c α i z e (first π t u ts st) =
        let (x, y) = and_parts (sound_slot s) (sound_slot l) c in
        item_found strict s l π t u ts (λ f. part_step strict s x (α i) (z 0 i).0 f st) (λ f. part_step strict l y (α i) (z 0 i).1 f st) (one_of strict s l (is_last ts) t (and_parts (fits strict s t || (is_last ts && fits strict l t)) (fill strict (each_or_last s l) ts) e).0)
    part_steps strict (each_or_last s l) c α i z e (later π t ts us st) =
        later_found π t ts us (each_or_last s l) (each_or_last s l) (λ q. q) (part_steps strict (each_or_last s l) c α (suc i) (λ j k. z (suc j) k) (and_parts (fits strict s t || (is_last ts && fits strict l t)) (fill strict (each_or_last s l) ts) e).1 st)

  -- so in a program
  pub step_innermost : (t u : Tree) → Step O Elsewhere t u → IsWellShaped t → Step (Innermost O) Elsewhere t u
  step_innermost t u s e = by (part_step false (one a_program) refl outermost whole_stands e s)
    where
      by : Found true Elsewhere t u → Step (Innermost O) Elsewhere t u
      by (inl x) = x
      by (inr x) = absurd (true≢false x.0)

-- The places of the children of a node go with their slots, where its own does: expressions stand where expressions may, and a list
-- where statements stand is one of statements.
use Rattle.std.specs.Prelude.{ℕ, zero, suc, ◌≡◌, refl, ◌⊎◌, ◌&&◌, ◌||◌, not, Bool, true, false, List, [], ◌∷◌, Option, Some, None}
use Rattle.std.proofs.Common.{ap, sym, ◌∙◌, subst, inl, inr}
use Rattle.std.proofs.lemmas.Bool.{false≢true}
use Rattle.mini_model.specs.declared.kind.MethodDefinitionKind.{MethodDefinitionKind}
use Rattle.mini_model.specs.declared.kind.PropertyKind.{PropertyKind}
use Rattle.mini_model.specs.declared.kind.PropertyKind.TheVariants as property
use Rattle.mini_model.specs.declared.name.Name.{Name}
use Rattle.mini_model.specs.declared.operator.AssignmentOperator.{AssignmentOperator}
use Rattle.mini_model.specs.declared.operator.AssignmentOperator.TheVariants.{Assign}
use Rattle.mini_model.specs.declared.operator.BinaryOperator.{BinaryOperator}
use Rattle.mini_model.specs.declared.operator.LogicalOperator.{LogicalOperator}
use Rattle.mini_model.specs.declared.operator.UnaryOperator.{UnaryOperator}
use Rattle.mini_model.specs.declared.place.Position.{Position}
use Rattle.mini_model.specs.declared.place.Position.TheVariants.{Expr, StatementList, BodyList, ArgumentList, SequenceList, TemplateList}
use Rattle.mini_model.specs.declared.seat.Seat.{Seat}
use Rattle.mini_model.specs.declared.shape.Shape.{Shape}
use Rattle.mini_model.specs.declared.shape.Shape.TheVariants as shape
use Rattle.mini_model.specs.Tree.{Trees, node}
use Rattle.mini_model.specs.Position.{argument_seat, whole_seat, part_seat, written_key_position, value_position, item_position, child_position}
use Rattle.mini_accept.specs.WellShaped.{Depth, in_module, in_body, nested, Class, a_statement, a_class_member, a_pattern_element, a_pattern_property, a_target_element, a_target_property, an_init, an_arrow_body, an_expression, a_link, an_argument, an_inner_argument, an_inner, an_object_property, a_key, a_private_or_key, an_inner_key, a_default_export, an_element_target, a_member_target, Slot, one, one_or_absent, many, many_or_holes, many_and_rest, many_or_holes_and_rest, quasis, none_if, in_depth, is_sloppy_function, value_class, expression_slots, statement_slots, slots_of, Filling, refused, these, each, each_or_last, pieces, filling, filling_by, is_whole, fits, fill}
use Rattle.mini_kept.specs.Placed.{is_statement_list, is_expression_class, is_chain_class, is_chain_seat, fits_seat, fits_place}
use Rattle.mini_kept.specs.KeepsFrames.{is_body_slot}
use Rattle.mini_kept.proofs.Bools.{left, right, both}
use Rattle.mini_kept.proofs.Expressions.{refused_here}

-- ---- children

-- the slots of some children go with their places, by a test of a place and a slot

abbrev SlotsPlaced : (Position → Slot → Bool) → (ℕ → Position) → List Slot → Type 0
SlotsPlaced v π [] = Unit {0}
SlotsPlaced v π (s ∷ ss) = (v (π 0) s ≡ true) × SlotsPlaced v (λ j. π (suc j)) ss

abbrev pub PlacedBy : (Position → Slot → Bool) → (ℕ → Position) → Filling → Type 0
PlacedBy v π refused = Unit {0}
PlacedBy v π (these ss) = SlotsPlaced v π ss
PlacedBy v π (each s) = (j : ℕ) → v (π j) s ≡ true
PlacedBy v π (each_or_last s r) = (j : ℕ) → (v (π j) s ≡ true) × (v (π j) r ≡ true)
PlacedBy v π (pieces g) = Unit {0}

abbrev pub Placed : (ℕ → Position) → Filling → Type 0
Placed = PlacedBy fits_place

-- any slot goes with any place

abbrev pub anywhere : Position → Slot → Bool
anywhere p s = true

slots_anywhere : (π : ℕ → Position) (ss : List Slot) → SlotsPlaced anywhere π ss
slots_anywhere π [] = tt
slots_anywhere π (s ∷ ss) = (refl, slots_anywhere (λ j. π (suc j)) ss)

pub all_anywhere : (π : ℕ → Position) (g : Filling) → PlacedBy anywhere π g
all_anywhere π refused = tt
all_anywhere π (these ss) = slots_anywhere π ss
all_anywhere π (each s) = λ j. refl
all_anywhere π (each_or_last s r) = λ j. (refl, refl)
all_anywhere π (pieces g) = tt

abbrev are_placed : (ℕ → Position) → List Slot → Bool
are_placed π [] = true
are_placed π (s ∷ ss) = fits_place (π 0) s && are_placed (λ j. π (suc j)) ss

abbrev placed_by : (ℕ → Position) → Option (List Slot) → Bool
placed_by π None = true
placed_by π (Some ss) = are_placed π ss

slots_placed : (π : ℕ → Position) (ss : List Slot) → are_placed π ss ≡ true → SlotsPlaced fits_place π ss
slots_placed π [] e = tt
slots_placed π (s ∷ ss) e = (left (fits_place (π 0) s) (are_placed (λ j. π (suc j)) ss) e, slots_placed (λ j. π (suc j)) ss (right (fits_place (π 0) s) (are_placed (λ j. π (suc j)) ss) e))

filled_placed : (π : ℕ → Position) (o : Option (List Slot)) → placed_by π o ≡ true → Placed π (filling_by o)
filled_placed π None e = tt
filled_placed π (Some ss) e = slots_placed π ss e

-- ---- where neither an expression stands, nor a list

abbrev is_free : Position → Bool
is_free (Expr s) = false
is_free ArgumentList = false
is_free (SequenceList s) = false
is_free TemplateList = false
is_free StatementList = false
is_free BodyList = false
is_free p = true

one_fits : (p : Position) (c : Class) → (not (is_free p) || fits_place p (one c)) ≡ true
one_fits (Expr s) c = refl
one_fits p c = refl

part_fits : (p : Position) (c : Class) → (not (is_free p) || fits_place p (one_or_absent c)) ≡ true
part_fits (Expr s) c = refl
part_fits p c = refl

free_fits : (p : Position) (s : Slot) → (not (is_free p) || fits_place p s) ≡ true
free_fits p (one c) = one_fits p c
free_fits p (one_or_absent c) = part_fits p c
free_fits StatementList s = refl
free_fits p s = refl

slots_free : (π : ℕ → Position) → ((i : ℕ) → is_free (π i) ≡ true) → (ss : List Slot) → SlotsPlaced fits_place π ss
slots_free π f [] = tt
slots_free π f (s ∷ ss) = (subst (λ b. (not b || fits_place (π 0) s) ≡ true) (f 0) (free_fits (π 0) s), slots_free (λ j. π (suc j)) (λ j. f (suc j)) ss)

filled_free : (π : ℕ → Position) → ((i : ℕ) → is_free (π i) ≡ true) → (o : Option (List Slot)) → Placed π (filling_by o)
filled_free π f None = tt
filled_free π f (Some ss) = slots_free π f ss

-- the nodes that have one as a child, but for an inner expression, which hands its place on

data Holder : Shape → Type 0 where
  of_program : (m : Bool) (ds : List (List ℕ)) → Holder (shape.Program m ds)
  of_expression : Holder shape.ExpressionStatement
  of_block : Holder shape.BlockStatement
  of_return : Holder shape.ReturnStatement
  of_throw : Holder shape.ThrowStatement
  of_if : Holder shape.IfStatement
  of_switch : Holder shape.SwitchStatement
  of_case : Holder shape.SwitchCase
  of_while : Holder shape.WhileStatement
  of_do_while : Holder shape.DoWhileStatement
  of_for : Holder shape.ForStatement
  of_for_in : Holder shape.ForInStatement
  of_for_of : Holder shape.ForOfStatement
  of_declarator : Holder shape.VariableDeclarator
  of_arrow : (ds : List (List ℕ)) → Holder (shape.ArrowFunctionExpression ds)
  of_function_body : Holder shape.FunctionBody
  of_class : (d : Bool) → Holder (shape.Class d)
  of_method : (k : MethodDefinitionKind) (computed b : Bool) → Holder (shape.MethodDefinition k computed b)
  of_field : (computed b : Bool) → Holder (shape.PropertyDefinition computed b)
  of_static_block : Holder shape.StaticBlock
  of_default : Holder shape.ExportDefaultDeclaration
  of_array : Holder shape.ArrayExpression
  of_property : (k : PropertyKind) (is_method shorthand computed : Bool) → Holder (shape.ObjectProperty k is_method shorthand computed)
  of_spread : Holder shape.SpreadElement
  of_unary : (o : UnaryOperator) → Holder (shape.UnaryExpression o)
  of_binary : (o : BinaryOperator) → Holder (shape.BinaryExpression o)
  of_private_in : Holder shape.PrivateInExpression
  of_logical : (o : LogicalOperator) → Holder (shape.LogicalExpression o)
  of_assignment : (o : AssignmentOperator) → Holder (shape.AssignmentExpression o)
  of_conditional : Holder shape.ConditionalExpression
  of_sequence : Holder shape.SequenceExpression
  of_call : (b : Bool) → Holder (shape.CallExpression b)
  of_super_call : Holder shape.SuperCallExpression
  of_new : Holder shape.NewExpression
  of_static_member : (b : Bool) → Holder (shape.StaticMemberExpression b)
  of_computed_member : (b : Bool) → Holder (shape.ComputedMemberExpression b)
  of_private_field : (b : Bool) → Holder (shape.PrivateFieldExpression b)
  of_super_computed : Holder shape.SuperComputedMemberExpression
  of_chain : Holder shape.ChainExpression
  of_yield : (b : Bool) → Holder (shape.YieldExpression b)
  of_template : Holder shape.TemplateLiteral
  of_tagged : Holder shape.TaggedTemplateExpression
  of_import_call : Holder shape.ImportExpression
  of_binding : (shorthand computed : Bool) → Holder (shape.BindingProperty shorthand computed)
  of_default_value : Holder shape.AssignmentPattern
  of_target_property : (computed : Bool) → Holder (shape.AssignmentTargetPropertyProperty computed)

abbrev holds_none : Shape → Bool
holds_none shape.Listed = false
holds_none shape.InnerExpression = false
holds_none (shape.Program m ds) = false
holds_none shape.ExpressionStatement = false
holds_none shape.BlockStatement = false
holds_none shape.ReturnStatement = false
holds_none shape.ThrowStatement = false
holds_none shape.IfStatement = false
holds_none shape.SwitchStatement = false
holds_none shape.SwitchCase = false
holds_none shape.WhileStatement = false
holds_none shape.DoWhileStatement = false
holds_none shape.ForStatement = false
holds_none shape.ForInStatement = false
holds_none shape.ForOfStatement = false
holds_none shape.VariableDeclarator = false
holds_none (shape.ArrowFunctionExpression ds) = false
holds_none shape.FunctionBody = false
holds_none (shape.Class d) = false
holds_none (shape.MethodDefinition k computed b) = false
holds_none (shape.PropertyDefinition computed b) = false
holds_none shape.StaticBlock = false
holds_none shape.ExportDefaultDeclaration = false
holds_none shape.ArrayExpression = false
holds_none (shape.ObjectProperty k is_method shorthand computed) = false
holds_none shape.SpreadElement = false
holds_none (shape.UnaryExpression o) = false
holds_none (shape.BinaryExpression o) = false
holds_none shape.PrivateInExpression = false
holds_none (shape.LogicalExpression o) = false
holds_none (shape.AssignmentExpression o) = false
holds_none shape.ConditionalExpression = false
holds_none shape.SequenceExpression = false
holds_none (shape.CallExpression b) = false
holds_none shape.SuperCallExpression = false
holds_none shape.NewExpression = false
holds_none (shape.StaticMemberExpression b) = false
holds_none (shape.ComputedMemberExpression b) = false
holds_none (shape.PrivateFieldExpression b) = false
holds_none shape.SuperComputedMemberExpression = false
holds_none shape.ChainExpression = false
holds_none (shape.YieldExpression b) = false
holds_none shape.TemplateLiteral = false
holds_none shape.TaggedTemplateExpression = false
holds_none shape.ImportExpression = false
holds_none (shape.BindingProperty shorthand computed) = false
holds_none shape.AssignmentPattern = false
holds_none (shape.AssignmentTargetPropertyProperty computed) = false
holds_none h = true

cases : (h : Shape) → (h ≡ shape.Listed) ⊎ (h ≡ shape.InnerExpression) ⊎ Holder h ⊎ (holds_none h ≡ true)
cases shape.Listed = inl refl
cases shape.InnerExpression = inr (inl refl)
cases (shape.Program m ds) = inr (inr (inl (of_program m ds)))
cases shape.ExpressionStatement = inr (inr (inl of_expression))
cases shape.BlockStatement = inr (inr (inl of_block))
cases shape.ReturnStatement = inr (inr (inl of_return))
cases shape.ThrowStatement = inr (inr (inl of_throw))
cases shape.IfStatement = inr (inr (inl of_if))
cases shape.SwitchStatement = inr (inr (inl of_switch))
cases shape.SwitchCase = inr (inr (inl of_case))
cases shape.WhileStatement = inr (inr (inl of_while))
cases shape.DoWhileStatement = inr (inr (inl of_do_while))
cases shape.ForStatement = inr (inr (inl of_for))
cases shape.ForInStatement = inr (inr (inl of_for_in))
cases shape.ForOfStatement = inr (inr (inl of_for_of))
cases shape.VariableDeclarator = inr (inr (inl of_declarator))
cases (shape.ArrowFunctionExpression ds) = inr (inr (inl (of_arrow ds)))
cases shape.FunctionBody = inr (inr (inl of_function_body))
cases (shape.Class d) = inr (inr (inl (of_class d)))
cases (shape.MethodDefinition k computed b) = inr (inr (inl (of_method k computed b)))
cases (shape.PropertyDefinition computed b) = inr (inr (inl (of_field computed b)))
cases shape.StaticBlock = inr (inr (inl of_static_block))
cases shape.ExportDefaultDeclaration = inr (inr (inl of_default))
cases shape.ArrayExpression = inr (inr (inl of_array))
cases (shape.ObjectProperty k is_method shorthand computed) = inr (inr (inl (of_property k is_method shorthand computed)))
cases shape.SpreadElement = inr (inr (inl of_spread))
cases (shape.UnaryExpression o) = inr (inr (inl (of_unary o)))
cases (shape.BinaryExpression o) = inr (inr (inl (of_binary o)))
cases shape.PrivateInExpression = inr (inr (inl of_private_in))
cases (shape.LogicalExpression o) = inr (inr (inl (of_logical o)))
cases (shape.AssignmentExpression o) = inr (inr (inl (of_assignment o)))
cases shape.ConditionalExpression = inr (inr (inl of_conditional))
cases shape.SequenceExpression = inr (inr (inl of_sequence))
cases (shape.CallExpression b) = inr (inr (inl (of_call b)))
cases shape.SuperCallExpression = inr (inr (inl of_super_call))
cases shape.NewExpression = inr (inr (inl of_new))
cases (shape.StaticMemberExpression b) = inr (inr (inl (of_static_member b)))
cases (shape.ComputedMemberExpression b) = inr (inr (inl (of_computed_member b)))
cases (shape.PrivateFieldExpression b) = inr (inr (inl (of_private_field b)))
cases shape.SuperComputedMemberExpression = inr (inr (inl of_super_computed))
cases shape.ChainExpression = inr (inr (inl of_chain))
cases (shape.YieldExpression b) = inr (inr (inl (of_yield b)))
cases shape.TemplateLiteral = inr (inr (inl of_template))
cases shape.TaggedTemplateExpression = inr (inr (inl of_tagged))
cases shape.ImportExpression = inr (inr (inl of_import_call))
cases (shape.BindingProperty shorthand computed) = inr (inr (inl (of_binding shorthand computed)))
cases shape.AssignmentPattern = inr (inr (inl of_default_value))
cases (shape.AssignmentTargetPropertyProperty computed) = inr (inr (inl (of_target_property computed)))
cases h = inr (inr (inr refl))

none_held : (h : Shape) (p : Position) (m i : ℕ) → (not (holds_none h) || is_free (child_position h p m i)) ≡ true
none_held shape.LabeledStatement p m zero = refl
none_held shape.LabeledStatement p m (suc i) = refl
none_held (shape.Function d g ds) p m zero = refl
none_held (shape.Function d g ds) p m (suc zero) = refl
none_held (shape.Function d g ds) p m (suc (suc i)) = refl
none_held shape.ImportDeclaration p m zero = refl
none_held shape.ImportDeclaration p m (suc i) = refl
none_held shape.ExportNamedDeclaration p m zero = refl
none_held shape.ExportNamedDeclaration p m (suc zero) = refl
none_held shape.ExportNamedDeclaration p m (suc (suc i)) = refl
none_held shape.AssignmentTargetPropertyIdentifier p m zero = refl
none_held shape.AssignmentTargetPropertyIdentifier p m (suc i) = refl
none_held h p m i = refl

free_below : (h : Shape) (p : Position) (m : ℕ) → holds_none h ≡ true → (i : ℕ) → is_free (child_position h p m i) ≡ true
free_below h p m e i = subst (λ b. (not b || is_free (child_position h p m i)) ≡ true) e (none_held h p m i)

-- ---- the children of those

no_statement : (π : ℕ → Position) (b : Bool) (d : Depth) → placed_by π (none_if b (in_depth d None)) ≡ true
no_statement π true d = refl
no_statement π false in_module = refl
no_statement π false in_body = refl
no_statement π false nested = refl

statement_placed : (strict : Bool) (d : Depth) (h : Shape) (p : Position) (m : ℕ) → Holder h → placed_by (child_position h p m) (statement_slots strict d h) ≡ true
statement_placed true in_module _ p m (of_class true) = refl
statement_placed true in_module _ p m (of_class false) = refl
statement_placed true in_module h p m o = refl
statement_placed true in_body _ p m (of_class true) = refl
statement_placed true in_body _ p m (of_class false) = refl
statement_placed true in_body h p m o = refl
statement_placed true nested _ p m (of_class true) = refl
statement_placed true nested _ p m (of_class false) = refl
statement_placed true nested h p m o = refl
statement_placed false in_module _ p m (of_class true) = refl
statement_placed false in_module _ p m (of_class false) = refl
statement_placed false in_module h p m o = refl
statement_placed false in_body _ p m (of_class true) = refl
statement_placed false in_body _ p m (of_class false) = refl
statement_placed false in_body h p m o = refl
statement_placed false nested _ p m (of_class true) = refl
statement_placed false nested _ p m (of_class false) = refl
statement_placed false nested h p m o = refl

-- a key, in brackets or not, and the value of a property

key_fits : (shorthand computed : Bool) → fits_place (written_key_position shorthand computed) (one (a_key computed)) ≡ true
key_fits true computed = refl
key_fits false true = refl
key_fits false false = refl

value_fits : (k : PropertyKind) (is_method : Bool) → fits_place (value_position k is_method) (one (value_class k is_method)) ≡ true
value_fits property.Init true = refl
value_fits property.Init false = refl
value_fits k true = refl
value_fits k false = refl

property_placed : (k : PropertyKind) (is_method shorthand computed : Bool) (p : Position) (m : ℕ) → placed_by (child_position (shape.ObjectProperty k is_method shorthand computed) p m) (Some (one (a_key computed) ∷ (one (value_class k is_method) ∷ []))) ≡ true
property_placed k is_method shorthand computed p m =
    both (fits_place (written_key_position shorthand computed) (one (a_key computed))) (fits_place (value_position k is_method) (one (value_class k is_method)) && true)
    (key_fits shorthand computed) (both (fits_place (value_position k is_method) (one (value_class k is_method))) true (value_fits k is_method) refl)

binding_placed : (shorthand computed : Bool) (p : Position) (m : ℕ) → placed_by (child_position (shape.BindingProperty shorthand computed) p m) (Some (one (an_inner_key computed) ∷ (one a_pattern_element ∷ []))) ≡ true
binding_placed true computed p m = refl
binding_placed false true p m = refl
binding_placed false false p m = refl

-- what `=` assigns to may be a pattern, and what another operator does no pattern
assigned_placed : (k : Class) (o : AssignmentOperator) (p : Position) (m : ℕ) → placed_by (child_position (shape.AssignmentExpression o) p m) (expression_slots k (shape.AssignmentExpression o)) ≡ true
assigned_placed k Assign p m = refl
assigned_placed k o p m = refl

holder_placed : (strict : Bool) (c : Class) (h : Shape) (p : Position) (m : ℕ) → Holder h → placed_by (child_position h p m) (slots_of strict c h) ≡ true
holder_placed strict (a_statement d) h p m o = statement_placed strict d h p m o
holder_placed strict (a_key false) _ p m of_block = refl
holder_placed strict (a_key false) h p m o = refl
holder_placed strict (a_private_or_key true) _ p m of_block = refl
holder_placed strict (a_private_or_key true) h p m o = refl
holder_placed strict (a_private_or_key false) _ p m of_block = refl
holder_placed strict (a_private_or_key false) h p m o = refl
holder_placed strict (an_inner_key true) _ p m of_block = refl
holder_placed strict (an_inner_key true) h p m o = refl
holder_placed strict (an_inner_key false) _ p m of_block = refl
holder_placed strict (an_inner_key false) h p m o = refl
holder_placed strict an_object_property _ p m (of_property k is_method shorthand computed) = property_placed k is_method shorthand computed p m
holder_placed strict a_pattern_property _ p m (of_binding shorthand computed) = binding_placed shorthand computed p m
holder_placed strict a_target_property _ p m (of_target_property true) = refl
holder_placed strict a_target_property _ p m (of_target_property false) = refl
holder_placed strict a_class_member _ p m (of_method k true b) = refl
holder_placed strict a_class_member _ p m (of_method k false b) = refl
holder_placed strict a_class_member _ p m (of_field true b) = refl
holder_placed strict a_class_member _ p m (of_field false b) = refl
holder_placed strict an_expression _ p m (of_assignment o) = assigned_placed an_expression o p m
holder_placed strict an_init _ p m (of_assignment o) = assigned_placed an_expression o p m
holder_placed strict an_arrow_body _ p m (of_assignment o) = assigned_placed an_expression o p m
holder_placed strict a_link _ p m (of_assignment o) = assigned_placed a_link o p m
holder_placed strict an_argument _ p m (of_assignment o) = assigned_placed an_expression o p m
holder_placed strict (a_key true) _ p m (of_assignment o) = assigned_placed an_expression o p m
holder_placed strict a_default_export _ p m (of_assignment o) = assigned_placed an_expression o p m
holder_placed strict c _ p m (of_call true) = refl
holder_placed strict c _ p m (of_call false) = refl
holder_placed strict c _ p m (of_static_member true) = refl
holder_placed strict c _ p m (of_static_member false) = refl
holder_placed strict c _ p m (of_computed_member true) = refl
holder_placed strict c _ p m (of_computed_member false) = refl
holder_placed strict c _ p m (of_private_field true) = refl
holder_placed strict c _ p m (of_private_field false) = refl
holder_placed strict c _ p m (of_yield true) = refl
holder_placed strict c _ p m (of_yield false) = refl
holder_placed strict c _ p m (of_class true) = refl
holder_placed strict c _ p m (of_class false) = refl
holder_placed strict c h p m o = refl

-- ---- the child of an inner expression

inner_at : (p : Position) (c : Class) → fits_place p (one (an_inner c)) ≡ fits_place p (one c)
inner_at (Expr s) c = refl
inner_at p c = refl

plain_at : (p : Position) → fits_place p (one an_expression) ≡ true
plain_at (Expr s) = refl
plain_at p = refl

-- no target stands there
member_at : (p : Position) (c : Class) → ((q : Seat) → fits_seat q c ≡ false) → is_expression_class c ≡ false → fits_place p (one c) ≡ true → fits_place p (one a_member_target) ≡ true
member_at (Expr q) c e f v = absurd (false≢true (sym (e q) ∙ v))
member_at ArgumentList c e f v = absurd (false≢true (sym f ∙ v))
member_at (SequenceList s) c e f v = absurd (false≢true (sym f ∙ v))
member_at TemplateList c e f v = absurd (false≢true (sym f ∙ v))
member_at p c e f v = refl

alone : (b : Bool) → b ≡ true → (b && true) ≡ true
alone b e = both b true e refl

inner_placed : (strict : Bool) (c : Class) (p : Position) (m : ℕ) → fits_place p (one c) ≡ true → placed_by (child_position shape.InnerExpression p m) (slots_of strict c shape.InnerExpression) ≡ true
inner_placed strict (a_statement d) p m v = no_statement (child_position shape.InnerExpression p m) (is_sloppy_function strict d shape.InnerExpression) d
inner_placed strict (an_inner c) p m v = alone (fits_place p (one c)) (sym (inner_at p c) ∙ v)
inner_placed strict an_inner_argument p m v = alone (fits_place p (one an_expression)) (plain_at p)
inner_placed strict (a_private_or_key true) p m v = alone (fits_place p (one an_expression)) (plain_at p)
inner_placed strict (a_private_or_key false) p m v = refl
inner_placed strict (an_inner_key true) p m v = alone (fits_place p (one an_expression)) (plain_at p)
inner_placed strict (an_inner_key false) p m v = refl
inner_placed strict an_element_target p m v = alone (fits_place p (one a_member_target)) (member_at p an_element_target (λ q. refl) refl v)
inner_placed strict a_target_element p m v = alone (fits_place p (one a_member_target)) (member_at p a_target_element (λ q. refl) refl v)
inner_placed strict (a_key true) p m v = refl
inner_placed strict (a_key false) p m v = refl
inner_placed strict c p m v = refl

-- ---- the children of any node

abbrev AreRight : Bool → Class → Position → ℕ → Shape → Type 0
AreRight strict c p m h = Placed (child_position h p m) (filling_by (slots_of strict c h))

one_placed : (strict : Bool) (c : Class) (h : Shape) (p : Position) (m : ℕ) → filling strict (one c) shape.Listed ≡ refused → fits_place p (one c) ≡ true → AreRight strict c p m h
one_placed strict c h p m q v = by (cases h)
  where
    by : (h ≡ shape.Listed) ⊎ (h ≡ shape.InnerExpression) ⊎ Holder h ⊎ (holds_none h ≡ true) → AreRight strict c p m h
    by (inl e) = subst (AreRight strict c p m) (sym e) (subst (Placed (child_position shape.Listed p m)) (sym q) tt)
    by (inr (inl e)) = subst (AreRight strict c p m) (sym e) (filled_placed (child_position shape.InnerExpression p m) (slots_of strict c shape.InnerExpression) (inner_placed strict c p m v))
    by (inr (inr (inl o))) = filled_placed (child_position h p m) (slots_of strict c h) (holder_placed strict c h p m o)
    by (inr (inr (inr e))) = filled_free (child_position h p m) (λ i. free_below h p m e i) (slots_of strict c h)

-- no list stands where one node does
no_list : (strict : Bool) (c : Class) → filling strict (one c) shape.Listed ≡ refused
no_list true (a_statement in_module) = refl
no_list true (a_statement in_body) = refl
no_list true (a_statement nested) = refl
no_list false (a_statement in_module) = refl
no_list false (a_statement in_body) = refl
no_list false (a_statement nested) = refl
no_list strict (a_key true) = refl
no_list strict (a_key false) = refl
no_list strict (a_private_or_key true) = refl
no_list strict (a_private_or_key false) = refl
no_list strict (an_inner_key true) = refl
no_list strict (an_inner_key false) = refl
no_list strict c = refl

-- the place of an absent part is that of the part
absent_at : (p : Position) (c : Class) → fits_place p (one_or_absent c) ≡ fits_place p (one c)
absent_at (Expr s) c = refl
absent_at p c = refl

in_seat : (q : Seat) (c : Class) → is_expression_class c ≡ true → fits_seat q c ≡ true
in_seat q c e = ap (λ b. b || (is_chain_class c && is_chain_seat q)) e

item_fits : (p : Position) (c : Class) (m j : ℕ) → fits_place p (many c) ≡ true → fits_place (item_position p m j) (one c) ≡ true
item_fits ArgumentList c m j e = in_seat argument_seat c e
item_fits (SequenceList s) c m j e = in_seat (part_seat s m j) c e
item_fits TemplateList c m j e = in_seat whole_seat c e
item_fits p c m j e = refl

hole_fits : (p : Position) (c : Class) (m j : ℕ) → fits_place p (many_or_holes c) ≡ true → fits_place (item_position p m j) (one_or_absent c) ≡ true
hole_fits ArgumentList c m j e = in_seat argument_seat c e
hole_fits (SequenceList s) c m j e = in_seat (part_seat s m j) c e
hole_fits TemplateList c m j e = in_seat whole_seat c e
hole_fits p c m j e = refl

rest_fits : (p : Position) (c rest : Class) (m j : ℕ) → fits_place p (many_and_rest c rest) ≡ true → (fits_place (item_position p m j) (one c) ≡ true) × (fits_place (item_position p m j) (one rest) ≡ true)
rest_fits ArgumentList c rest m j e = (in_seat argument_seat c (left (is_expression_class c) (is_expression_class rest) e), in_seat argument_seat rest (right (is_expression_class c) (is_expression_class rest) e))
rest_fits (SequenceList s) c rest m j e = (in_seat (part_seat s m j) c (left (is_expression_class c) (is_expression_class rest) e), in_seat (part_seat s m j) rest (right (is_expression_class c) (is_expression_class rest) e))
rest_fits TemplateList c rest m j e = (in_seat whole_seat c (left (is_expression_class c) (is_expression_class rest) e), in_seat whole_seat rest (right (is_expression_class c) (is_expression_class rest) e))
rest_fits p c rest m j e = (refl, refl)

holed_rest_fits : (p : Position) (c rest : Class) (m j : ℕ) → fits_place p (many_or_holes_and_rest c rest) ≡ true → (fits_place (item_position p m j) (one_or_absent c) ≡ true) × (fits_place (item_position p m j) (one rest) ≡ true)
holed_rest_fits ArgumentList c rest m j e = (in_seat argument_seat c (left (is_expression_class c) (is_expression_class rest) e), in_seat argument_seat rest (right (is_expression_class c) (is_expression_class rest) e))
holed_rest_fits (SequenceList s) c rest m j e = (in_seat (part_seat s m j) c (left (is_expression_class c) (is_expression_class rest) e), in_seat (part_seat s m j) rest (right (is_expression_class c) (is_expression_class rest) e))
holed_rest_fits TemplateList c rest m j e = (in_seat whole_seat c (left (is_expression_class c) (is_expression_class rest) e), in_seat whole_seat rest (right (is_expression_class c) (is_expression_class rest) e))
holed_rest_fits p c rest m j e = (refl, refl)

pub placed_below : (strict : Bool) (s : Slot) (h : Shape) (p : Position) (m : ℕ) → fits_place p s ≡ true → Placed (child_position h p m) (filling strict s h)
placed_below strict (one c) h p m v = one_placed strict c h p m (no_list strict c) v
placed_below strict (one_or_absent c) shape.Absent p m v = tt
placed_below strict (one_or_absent c) h p m v = one_placed strict c h p m (no_list strict c) (sym (absent_at p c) ∙ v)
placed_below strict (many c) shape.Listed p m v = λ j. item_fits p c m j v
placed_below strict (many_or_holes c) shape.Listed p m v = λ j. hole_fits p c m j v
placed_below strict (many_and_rest c rest) shape.Listed p m v = λ j. rest_fits p c rest m j v
placed_below strict (many_or_holes_and_rest c rest) shape.Listed p m v = λ j. holed_rest_fits p c rest m j v
placed_below strict (quasis g) shape.Listed p m v = tt
placed_below strict s h p m v = tt

-- ---- a list where statements stand

abbrev AreStatements : Bool → Slot → Trees → Type 0
AreStatements strict s ts = (d : Depth) × (s ≡ many (a_statement d)) × (fill strict (each (one (a_statement d))) ts ≡ true)

pub statements_slot : (strict : Bool) (s : Slot) (xs : List Name) (n : ℕ) (ts : Trees) → fits_place StatementList s ≡ true → fits strict s (node shape.Listed xs n ts) ≡ true → AreStatements strict s ts
statements_slot strict (one c) xs n ts k e = absurd (refused_here strict (one c) shape.Listed xs n ts (no_list strict c) e)
statements_slot strict (one_or_absent c) xs n ts k e = absurd (refused_here strict (one_or_absent c) shape.Listed xs n ts (no_list strict c) e)
statements_slot strict (many (a_statement d)) xs n ts k e = (d, refl, right (is_whole (a_statement d) shape.Listed xs n ts) (fill strict (each (one (a_statement d))) ts) e)
statements_slot strict s xs n ts k e = absurd (cc k)

pub listed_body_slot : (strict : Bool) (s : Slot) (xs : List Name) (n : ℕ) (ts : Trees) → fits_place StatementList s ≡ true → fits strict s (node shape.Listed xs n ts) ≡ true → is_body_slot StatementList s ≡ true
listed_body_slot strict s xs n ts k e = let (d, q, f) = statements_slot strict s xs n ts k e in subst (λ r. is_body_slot StatementList r ≡ true) (sym q) refl

-- where it isn't one, nothing else takes a list's place
pub statements_place : (p : Position) (d : Depth) → is_body_slot p (many (a_statement d)) ≡ true → is_statement_list p ≡ true
statements_place StatementList d e = refl
statements_place BodyList d e = refl
statements_place p d e = absurd (cc e)

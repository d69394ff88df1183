-- What the slot of a node tells of its place, the slot of each of its children tells of the child's.
use Rattle.std.specs.Prelude.{ℕ, zero, suc, ◌+◌, ◌≡◌, refl, ◌⊎◌, ◌||◌, ◌&&◌, not, Bool, true, false, List, [], ◌∷◌, Option, Some, None}
use Rattle.std.proofs.Common.{ap, ◌∙◌, sym, subst, inl, inr, arith}
use Rattle.std.proofs.lemmas.Bool.{false≢true}
use Rattle.mini_model.specs.declared.kind.MethodDefinitionKind.{MethodDefinitionKind}
use Rattle.mini_model.specs.declared.kind.MethodDefinitionKind.TheVariants as method
use Rattle.mini_model.specs.declared.kind.PropertyKind.TheVariants as property
use Rattle.mini_model.specs.declared.name.Name.{Name}
use Rattle.mini_model.specs.declared.operator.LogicalOperator.{LogicalOperator}
use Rattle.mini_model.specs.declared.operator.UnaryOperator.{UnaryOperator}
use Rattle.mini_model.specs.declared.place.Position.{Position}
use Rattle.mini_model.specs.declared.place.Position.TheVariants.{Expr, StatementList, BodyList, ArgumentList, SequenceList, TemplateList}
use Rattle.mini_model.specs.declared.shape.Shape.{Shape}
use Rattle.mini_model.specs.declared.shape.Shape.TheVariants as shape
use Rattle.mini_model.specs.Tree.{Trees, node}
use Rattle.mini_model.specs.Position.{child_position, item_position, key_position}
use Rattle.mini_accept.specs.WellShaped.{Depth, in_module, in_body, nested, Class, a_statement, a_class_member, a_method, an_expression, a_member_target, an_inner, an_inner_argument, a_key, a_private_or_key, an_inner_key, an_element_target, a_target_element, Slot, one, one_or_absent, many, many_or_holes, many_and_rest, many_or_holes_and_rest, quasis, Filling, refused, these, each, each_or_last, pieces, filling, filling_by, statement_slots, slots_of, fits}
use Rattle.mini_laws.specs.Bodies.{Around, constructs_below, is_assigned_below, below}
use Rattle.mini_kept.proofs.Bools.{left, right, or_second}
use Rattle.mini_kept.proofs.Expressions.{refused_here}
use Rattle.mini_kept.specs.Standing.{takes_inner, is_asked_whole, are_asked_whole, stands_whole, is_unseated, Stands}

-- ---- shapes whose children are asked whole, and those that have no list that isn't

abbrev asks_whole : Shape → Bool
asks_whole (shape.Program m ds) = false
asks_whole shape.Listed = false
asks_whole shape.InnerExpression = false
asks_whole shape.ExpressionStatement = false
asks_whole shape.BlockStatement = false
asks_whole shape.LabeledStatement = false
asks_whole shape.IfStatement = false
asks_whole shape.SwitchCase = false
asks_whole shape.WhileStatement = false
asks_whole shape.DoWhileStatement = false
asks_whole shape.ForStatement = false
asks_whole shape.ForInStatement = false
asks_whole shape.ForOfStatement = false
asks_whole shape.FunctionBody = false
asks_whole shape.StaticBlock = false
asks_whole shape.ArrayExpression = false
asks_whole (shape.UnaryExpression o) = false
asks_whole (shape.LogicalExpression o) = false
asks_whole shape.ConditionalExpression = false
asks_whole shape.SequenceExpression = false
asks_whole (shape.CallExpression b) = false
asks_whole shape.SuperCallExpression = false
asks_whole shape.NewExpression = false
asks_whole shape.TemplateLiteral = false
asks_whole h = true

abbrev lists_whole : Shape → Bool
lists_whole (shape.Program m ds) = false
lists_whole shape.Listed = false
lists_whole shape.InnerExpression = false
lists_whole shape.BlockStatement = false
lists_whole shape.SwitchCase = false
lists_whole shape.FunctionBody = false
lists_whole shape.StaticBlock = false
lists_whole shape.SequenceExpression = false
lists_whole h = true

-- ---- the places of their children

asked_whole : (h : Shape) (p : Position) (m i : ℕ) → (not (asks_whole h) || is_asked_whole (child_position h p m i)) ≡ true
asked_whole (shape.MethodDefinition k true b) p m zero = refl
asked_whole (shape.MethodDefinition k false b) p m zero = refl
asked_whole (shape.PropertyDefinition true b) p m zero = refl
asked_whole (shape.PropertyDefinition false b) p m zero = refl
asked_whole (shape.ObjectProperty k e true b) p m zero = refl
asked_whole (shape.ObjectProperty k e false true) p m zero = refl
asked_whole (shape.ObjectProperty k e false false) p m zero = refl
asked_whole (shape.ObjectProperty property.Init true s b) p m (suc i) = refl
asked_whole (shape.ObjectProperty property.Init false s b) p m (suc i) = refl
asked_whole (shape.ObjectProperty k true s b) p m (suc i) = refl
asked_whole (shape.ObjectProperty k false s b) p m (suc i) = refl
asked_whole (shape.BindingProperty true b) p m zero = refl
asked_whole (shape.BindingProperty false true) p m zero = refl
asked_whole (shape.BindingProperty false false) p m zero = refl
asked_whole (shape.AssignmentTargetPropertyProperty true) p m zero = refl
asked_whole (shape.AssignmentTargetPropertyProperty false) p m zero = refl
asked_whole h p m zero = refl
asked_whole h p m (suc zero) = refl
asked_whole h p m (suc (suc zero)) = refl
asked_whole h p m (suc (suc (suc i))) = refl

listed_whole : (h : Shape) (p : Position) (m i : ℕ) → (not (lists_whole h) || are_asked_whole (child_position h p m i)) ≡ true
listed_whole (shape.MethodDefinition k true b) p m zero = refl
listed_whole (shape.MethodDefinition k false b) p m zero = refl
listed_whole (shape.PropertyDefinition true b) p m zero = refl
listed_whole (shape.PropertyDefinition false b) p m zero = refl
listed_whole (shape.ObjectProperty k e true b) p m zero = refl
listed_whole (shape.ObjectProperty k e false true) p m zero = refl
listed_whole (shape.ObjectProperty k e false false) p m zero = refl
listed_whole (shape.ObjectProperty property.Init true s b) p m (suc i) = refl
listed_whole (shape.ObjectProperty property.Init false s b) p m (suc i) = refl
listed_whole (shape.ObjectProperty k true s b) p m (suc i) = refl
listed_whole (shape.ObjectProperty k false s b) p m (suc i) = refl
listed_whole (shape.BindingProperty true b) p m zero = refl
listed_whole (shape.BindingProperty false true) p m zero = refl
listed_whole (shape.BindingProperty false false) p m zero = refl
listed_whole (shape.AssignmentTargetPropertyProperty true) p m zero = refl
listed_whole (shape.AssignmentTargetPropertyProperty false) p m zero = refl
listed_whole h p m zero = refl
listed_whole h p m (suc zero) = refl
listed_whole h p m (suc (suc zero)) = refl
listed_whole h p m (suc (suc (suc i))) = refl

items_whole : (p : Position) (m i : ℕ) → are_asked_whole p ≡ true → is_asked_whole (item_position p m i) ≡ true
items_whole StatementList m i e = absurd (false≢true e)
items_whole BodyList m i e = absurd (false≢true e)
items_whole (SequenceList s) m i e = absurd (false≢true e)
items_whole p m i e = refl

-- ---- which of their children may be inner expressions

-- where those are, or the items of a list are, asked whole
abbrev is_right : Bool → Bool → Slot → Bool
is_right o l (one c) = o || not (takes_inner c)
is_right o l (one_or_absent c) = o || not (takes_inner c)
is_right o l (many c) = l || not (takes_inner c)
is_right o l (many_or_holes c) = l || not (takes_inner c)
is_right o l (many_and_rest c rest) = l || not (takes_inner c || takes_inner rest)
is_right o l (many_or_holes_and_rest c rest) = l || not (takes_inner c || takes_inner rest)
is_right o l (quasis g) = true

abbrev are_right : Bool → Bool → List Slot → Bool
are_right o l [] = true
are_right o l (s ∷ ss) = is_right o l s && are_right o l ss

abbrev right_by : Bool → Bool → Option (List Slot) → Bool
right_by o l None = true
right_by o l (Some ss) = are_right o l ss

is_all_right : (s : Slot) → is_right true true s ≡ true
is_all_right (one c) = refl
is_all_right (one_or_absent c) = refl
is_all_right (many c) = refl
is_all_right (many_or_holes c) = refl
is_all_right (many_and_rest c rest) = refl
is_all_right (many_or_holes_and_rest c rest) = refl
is_all_right (quasis g) = refl

are_all_right : (ss : List Slot) → are_right true true ss ≡ true
are_all_right [] = refl
are_all_right (s ∷ ss) = ap (λ b. b && are_right true true ss) (is_all_right s) ∙ are_all_right ss

all_right : (o : Option (List Slot)) → right_by true true o ≡ true
all_right None = refl
all_right (Some ss) = are_all_right ss

-- the shapes with children that may be inner expressions: but for those there is nothing to look at in a slot
data Asking : Shape → Type 0 where
  of_program : (m : Bool) (ds : List (List ℕ)) → Asking (shape.Program m ds)
  of_listed : Asking shape.Listed
  of_statement : Asking shape.ExpressionStatement
  of_block : Asking shape.BlockStatement
  of_labeled : Asking shape.LabeledStatement
  of_if : Asking shape.IfStatement
  of_case : Asking shape.SwitchCase
  of_while : Asking shape.WhileStatement
  of_do_while : Asking shape.DoWhileStatement
  of_for : Asking shape.ForStatement
  of_for_in : Asking shape.ForInStatement
  of_for_of : Asking shape.ForOfStatement
  of_body : Asking shape.FunctionBody
  of_static_block : Asking shape.StaticBlock
  of_array : Asking shape.ArrayExpression
  of_unary : (o : UnaryOperator) → Asking (shape.UnaryExpression o)
  of_logical : (o : LogicalOperator) → Asking (shape.LogicalExpression o)
  of_conditional : Asking shape.ConditionalExpression
  of_sequence : Asking shape.SequenceExpression
  of_call : (b : Bool) → Asking (shape.CallExpression b)
  of_super_call : Asking shape.SuperCallExpression
  of_new : Asking shape.NewExpression
  of_template : Asking shape.TemplateLiteral

-- an inner expression has a place of its own below
abbrev is_free : Shape → Bool
is_free shape.InnerExpression = true
is_free h = asks_whole h && lists_whole h

asking : (h : Shape) → (is_free h ≡ true) ⊎ Asking h
asking (shape.Program m ds) = inr (of_program m ds)
asking shape.Listed = inr of_listed
asking shape.ExpressionStatement = inr of_statement
asking shape.BlockStatement = inr of_block
asking shape.LabeledStatement = inr of_labeled
asking shape.IfStatement = inr of_if
asking shape.SwitchCase = inr of_case
asking shape.WhileStatement = inr of_while
asking shape.DoWhileStatement = inr of_do_while
asking shape.ForStatement = inr of_for
asking shape.ForInStatement = inr of_for_in
asking shape.ForOfStatement = inr of_for_of
asking shape.FunctionBody = inr of_body
asking shape.StaticBlock = inr of_static_block
asking shape.ArrayExpression = inr of_array
asking (shape.UnaryExpression o) = inr (of_unary o)
asking (shape.LogicalExpression o) = inr (of_logical o)
asking shape.ConditionalExpression = inr of_conditional
asking shape.SequenceExpression = inr of_sequence
asking (shape.CallExpression b) = inr (of_call b)
asking shape.SuperCallExpression = inr of_super_call
asking shape.NewExpression = inr of_new
asking shape.TemplateLiteral = inr of_template
asking h = inl refl

-- as statements
statement_right : (h : Shape) → Asking h → (strict : Bool) (d : Depth) → right_by (asks_whole h) (lists_whole h) (statement_slots strict d h) ≡ true
statement_right _ of_listed true in_module = refl
statement_right h a true in_module = refl
statement_right _ of_listed true in_body = refl
statement_right h a true in_body = refl
statement_right _ of_listed true nested = refl
statement_right h a true nested = refl
statement_right _ of_listed false in_module = refl
statement_right h a false in_module = refl
statement_right _ of_listed false in_body = refl
statement_right h a false in_body = refl
statement_right _ of_listed false nested = refl
statement_right h a false nested = refl

-- a call is no link outside a chain where it is optional
call_right : (b strict : Bool) (c : Class) → right_by false true (slots_of strict c (shape.CallExpression b)) ≡ true
call_right true strict a_method = refl
call_right b strict (a_statement d) = statement_right (shape.CallExpression b) (of_call b) strict d
call_right b strict (a_key true) = refl
call_right b strict (a_key false) = refl
call_right b strict (a_private_or_key true) = refl
call_right b strict (a_private_or_key false) = refl
call_right b strict (an_inner_key true) = refl
call_right b strict (an_inner_key false) = refl
call_right b strict c = refl

asked_right : (h : Shape) → Asking h → (strict : Bool) (c : Class) → right_by (asks_whole h) (lists_whole h) (slots_of strict c h) ≡ true
asked_right _ (of_call b) strict c = call_right b strict c
asked_right h a strict (a_statement d) = statement_right h a strict d
asked_right h a strict (a_key true) = refl
asked_right h a strict (a_key false) = refl
asked_right h a strict (a_private_or_key true) = refl
asked_right h a strict (a_private_or_key false) = refl
asked_right h a strict (an_inner_key true) = refl
asked_right h a strict (an_inner_key false) = refl
asked_right h a strict c = refl

-- the slots of any shape, but of an inner expression, are right
abbrev is_checked : Bool → Class → Shape → Bool
is_checked strict c h = is_free h || right_by (asks_whole h) (lists_whole h) (slots_of strict c h)

checked : (strict : Bool) (c : Class) (h : Shape) → is_checked strict c h ≡ true
checked strict c h = by (asking h)
  where
    by : (is_free h ≡ true) ⊎ Asking h → is_checked strict c h ≡ true
    by (inl e) = ap (λ b. b || right_by (asks_whole h) (lists_whole h) (slots_of strict c h)) e
    by (inr a) = or_second (is_free h) (right_by (asks_whole h) (lists_whole h) (slots_of strict c h)) (asked_right h a strict c)

right_by_both : (o l : Bool) (slots : Option (List Slot)) → ((o && l) || right_by o l slots) ≡ true → right_by o l slots ≡ true
right_by_both true true slots e = all_right slots
right_by_both true false slots e = e
right_by_both false l slots e = e

-- ---- what children fill

abbrev SlotsStand : (ℕ → Position) → (ℕ → Around) → ℕ → List Slot → Type 0
SlotsStand π α i [] = Unit {0}
SlotsStand π α i (s ∷ ss) = Stands s (π 0) (α i) × SlotsStand (λ j. π (suc j)) α (suc i) ss

abbrev pub ChildrenStand : (ℕ → Position) → (ℕ → Around) → ℕ → Filling → Type 0
ChildrenStand π α i refused = Unit {0}
ChildrenStand π α i (these ss) = SlotsStand π α i ss
ChildrenStand π α i (each s) = (j k : ℕ) → Stands s (π j) (α k)
ChildrenStand π α i (each_or_last s r) = (j k : ℕ) → Stands s (π j) (α k) × Stands r (π j) (α k)
ChildrenStand π α i (pieces g) = Unit {0}

-- what a pattern assigns to stands where no expression does

item_unseated : (p : Position) (m i : ℕ) → is_unseated p ≡ true → is_unseated (item_position p m i) ≡ true
item_unseated (Expr s) m i e = absurd (false≢true e)
item_unseated ArgumentList m i e = absurd (false≢true e)
item_unseated (SequenceList s) m i e = absurd (false≢true e)
item_unseated TemplateList m i e = absurd (false≢true e)
item_unseated p m i e = refl

pub assigned_below : (a : Around) (h : Shape) (p : Position) (m i : ℕ) → (a.is_assigned ≡ true → is_unseated p ≡ true) → is_assigned_below a h i ≡ true → is_unseated (child_position h p m i) ≡ true
assigned_below a shape.ObjectAssignmentTarget p m i f e = refl
assigned_below a shape.ArrayAssignmentTarget p m i f e = refl
assigned_below a shape.Listed p m i f e = item_unseated p m i (f e)
assigned_below a shape.RestElement p m i f e = refl
assigned_below a shape.AssignmentPattern p m zero f e = refl
assigned_below a (shape.AssignmentTargetPropertyProperty is_computed) p m (suc i) f e = refl
assigned_below a h p m i f e = absurd (false≢true e)

abbrev pub Unseats : (ℕ → Position) → (ℕ → Around) → ℕ → Type 0
Unseats π α i = (j : ℕ) → (α (i + j)).is_assigned ≡ true → is_unseated (π j) ≡ true

pub unseats_first : (π : ℕ → Position) (α : ℕ → Around) (i : ℕ) → Unseats π α i → (α i).is_assigned ≡ true → is_unseated (π 0) ≡ true
unseats_first π α i u = let same : i + 0 ≡ i = omega arith in subst (λ k. (α k).is_assigned ≡ true → is_unseated (π 0) ≡ true) same (u 0)

pub unseats_later : (π : ℕ → Position) (α : ℕ → Around) (i : ℕ) → Unseats π α i → Unseats (λ j. π (suc j)) α (suc i)
unseats_later π α i u = λ j. let same : i + suc j ≡ suc i + j = omega arith in subst (λ k. (α k).is_assigned ≡ true → is_unseated (π (suc j)) ≡ true) same (u (suc j))

pub unseats_all : (π : ℕ → Position) (α : ℕ → Around) → ((i : ℕ) → (α i).is_assigned ≡ true → is_unseated (π i) ≡ true) → Unseats π α 0
unseats_all π α u = λ j. let same : j ≡ 0 + j = omega arith in subst (λ k. (α k).is_assigned ≡ true → is_unseated (π j) ≡ true) same (u j)

turned : (o b c : Bool) → (not o || b) ≡ true → (o || c) ≡ true → (c || b) ≡ true
turned true true false e f = refl
turned true false false e f = absurd (false≢true e)
turned o b true e f = refl
turned false b false e f = absurd (false≢true f)

slot_whole : (o l : Bool) (s : Slot) (p : Position) → (not o || is_asked_whole p) ≡ true → (not l || are_asked_whole p) ≡ true → is_right o l s ≡ true → stands_whole s p ≡ true
slot_whole o l (one c) p f g e = turned o (is_asked_whole p) (not (takes_inner c)) f e
slot_whole o l (one_or_absent c) p f g e = turned o (is_asked_whole p) (not (takes_inner c)) f e
slot_whole o l (many c) p f g e = turned l (are_asked_whole p) (not (takes_inner c)) g e
slot_whole o l (many_or_holes c) p f g e = turned l (are_asked_whole p) (not (takes_inner c)) g e
slot_whole o l (many_and_rest c rest) p f g e = turned l (are_asked_whole p) (not (takes_inner c || takes_inner rest)) g e
slot_whole o l (many_or_holes_and_rest c rest) p f g e = turned l (are_asked_whole p) (not (takes_inner c || takes_inner rest)) g e
slot_whole o l (quasis g') p f g e = refl

slots_stand : (π : ℕ → Position) (α : ℕ → Around) (o l : Bool) → ((i : ℕ) → (not o || is_asked_whole (π i)) ≡ true) → ((i : ℕ) → (not l || are_asked_whole (π i)) ≡ true) → ((i : ℕ) → (α i).constructs ≡ false) → (i : ℕ) → Unseats π α i → (ss : List Slot) → are_right o l ss ≡ true → SlotsStand π α i ss
slots_stand π α o l f g k i u [] e = tt
slots_stand π α o l f g k i u (s ∷ ss) e = (
  record { whole = slot_whole o l s (π 0) (f 0) (g 0) (left (is_right o l s) (are_right o l ss) e); assigned = unseats_first π α i u; function = λ q. k i },
  slots_stand (λ j. π (suc j)) α o l (λ j. f (suc j)) (λ j. g (suc j)) k (suc i) (unseats_later π α i u) ss (right (is_right o l s) (are_right o l ss) e),
)

filled_stand : (π : ℕ → Position) (α : ℕ → Around) (o l : Bool) → ((i : ℕ) → (not o || is_asked_whole (π i)) ≡ true) → ((i : ℕ) → (not l || are_asked_whole (π i)) ≡ true) → ((i : ℕ) → (α i).constructs ≡ false) → Unseats π α 0 → (slots : Option (List Slot)) → right_by o l slots ≡ true → ChildrenStand π α 0 (filling_by slots)
filled_stand π α o l f g k u None e = tt
filled_stand π α o l f g k u (Some ss) e = slots_stand π α o l f g k 0 u ss e

-- ---- an inner expression

abbrev Inner : Bool → Slot → Position → Type 0
Inner strict s p = (is_asked_whole p ≡ true) × ((c : Class) × (filling strict s shape.InnerExpression ≡ these (one c ∷ [])))

inner_in : (strict : Bool) (k : Class) (p : Position) → stands_whole (one k) p ≡ true → (filling strict (one k) shape.InnerExpression ≡ refused) ⊎ Inner strict (one k) p
inner_in strict (an_inner c) p z = inr (z, (c, refl))
inner_in strict an_inner_argument p z = inr (z, (an_expression, refl))
inner_in strict (a_private_or_key true) p z = inr (z, (an_expression, refl))
inner_in strict (a_private_or_key false) p z = inl refl
inner_in strict (an_inner_key true) p z = inr (z, (an_expression, refl))
inner_in strict (an_inner_key false) p z = inl refl
inner_in strict an_element_target p z = inr (z, (a_member_target, refl))
inner_in strict a_target_element p z = inr (z, (a_member_target, refl))
inner_in true (a_statement in_module) p z = inl refl
inner_in true (a_statement in_body) p z = inl refl
inner_in true (a_statement nested) p z = inl refl
inner_in false (a_statement in_module) p z = inl refl
inner_in false (a_statement in_body) p z = inl refl
inner_in false (a_statement nested) p z = inl refl
inner_in strict (a_key true) p z = inl refl
inner_in strict (a_key false) p z = inl refl
inner_in strict k p z = inl refl

inner_filling : (strict : Bool) (s : Slot) (p : Position) → stands_whole s p ≡ true → (filling strict s shape.InnerExpression ≡ refused) ⊎ Inner strict s p
inner_filling strict (one k) p z = inner_in strict k p z
inner_filling strict (one_or_absent k) p z = inner_in strict k p z
inner_filling strict s p z = inl refl

pub inner_stands : (strict : Bool) (s : Slot) (h : Shape) (xs : List Name) (n : ℕ) (ts : Trees) → h ≡ shape.InnerExpression → fits strict s (node h xs n ts) ≡ true → (p : Position) → stands_whole s p ≡ true → is_asked_whole p ≡ true
inner_stands strict s h xs n ts q e p z = by (inner_filling strict s p z)
  where
    by : (filling strict s shape.InnerExpression ≡ refused) ⊎ Inner strict s p → is_asked_whole p ≡ true
    by (inl f) = absurd (refused_here strict s shape.InnerExpression xs n ts f (subst (λ x. fits strict s (node x xs n ts) ≡ true) q e))
    by (inr i) = i.0

below_inner : (a : Around) (ts : Trees) (strict : Bool) (s : Slot) (p : Position) (m : ℕ) → (filling strict s shape.InnerExpression ≡ refused) ⊎ Inner strict s p → ChildrenStand (child_position shape.InnerExpression p m) (below a shape.InnerExpression ts) 0 (filling strict s shape.InnerExpression)
below_inner a ts strict s p m (inl f) = subst (ChildrenStand (child_position shape.InnerExpression p m) (below a shape.InnerExpression ts) 0) (sym f) tt
below_inner a ts strict s p m (inr i) =
    subst (ChildrenStand (child_position shape.InnerExpression p m) (below a shape.InnerExpression ts) 0) (sym i.1.1) (record { whole = also (not (takes_inner i.1.0)) (is_asked_whole p) i.0; assigned = λ q. absurd (false≢true q); function = λ q. refl }, tt)
  where
    also : (b c : Bool) → c ≡ true → (b || c) ≡ true
    also true c e = refl
    also false c e = e

-- ---- a method

abbrev AMethod : Bool → Slot → MethodDefinitionKind → Bool → Bool → Type 0
AMethod strict s k computed b = (filling strict s (shape.MethodDefinition k computed b) ≡ refused) ⊎ (filling strict s (shape.MethodDefinition k computed b) ≡ these (one (a_private_or_key computed) ∷ (one a_method ∷ [])))

method_in : (strict : Bool) (c : Class) (k : MethodDefinitionKind) (computed b : Bool) → AMethod strict (one c) k computed b
method_in strict a_class_member k computed b = inr refl
method_in true (a_statement in_module) k computed b = inl refl
method_in true (a_statement in_body) k computed b = inl refl
method_in true (a_statement nested) k computed b = inl refl
method_in false (a_statement in_module) k computed b = inl refl
method_in false (a_statement in_body) k computed b = inl refl
method_in false (a_statement nested) k computed b = inl refl
method_in strict (a_key true) k computed b = inl refl
method_in strict (a_key false) k computed b = inl refl
method_in strict (a_private_or_key true) k computed b = inl refl
method_in strict (a_private_or_key false) k computed b = inl refl
method_in strict (an_inner_key true) k computed b = inl refl
method_in strict (an_inner_key false) k computed b = inl refl
method_in strict c k computed b = inl refl

method_filling : (strict : Bool) (s : Slot) (k : MethodDefinitionKind) (computed b : Bool) → AMethod strict s k computed b
method_filling strict (one c) k computed b = method_in strict c k computed b
method_filling strict (one_or_absent c) k computed b = method_in strict c k computed b
method_filling strict s k computed b = inl refl

key_whole : (computed : Bool) (p : Position) → stands_whole (one (a_private_or_key computed)) (key_position computed) ≡ true
key_whole true p = refl
key_whole false p = refl

key_constructs : (a : Around) (k : MethodDefinitionKind) (computed b : Bool) → constructs_below a (shape.MethodDefinition k computed b) 0 ≡ false
key_constructs a method.Constructor computed b = refl
key_constructs a k computed b = refl

below_method : (a : Around) (ts : Trees) (strict : Bool) (s : Slot) (k : MethodDefinitionKind) (computed b : Bool) (p : Position) (m : ℕ) → AMethod strict s k computed b → ChildrenStand (child_position (shape.MethodDefinition k computed b) p m) (below a (shape.MethodDefinition k computed b) ts) 0 (filling strict s (shape.MethodDefinition k computed b))
below_method a ts strict s k computed b p m (inl f) = subst (ChildrenStand (child_position (shape.MethodDefinition k computed b) p m) (below a (shape.MethodDefinition k computed b) ts) 0) (sym f) tt
below_method a ts strict s k computed b p m (inr f) =
    subst (ChildrenStand (child_position (shape.MethodDefinition k computed b) p m) (below a (shape.MethodDefinition k computed b) ts) 0) (sym f) (
      record { whole = key_whole computed p; assigned = λ q. absurd (false≢true q); function = λ q. key_constructs a k computed b },
      (record { whole = refl; assigned = λ q. absurd (false≢true q); function = λ q. absurd (cc q) }, tt),
    )

-- ---- any node

one_stands : (a : Around) (ts : Trees) (strict : Bool) (c : Class) (h : Shape) (p : Position) (m : ℕ) → is_checked strict c h ≡ ((asks_whole h && lists_whole h) || right_by (asks_whole h) (lists_whole h) (slots_of strict c h)) → ((i : ℕ) → constructs_below a h i ≡ false) → (a.is_assigned ≡ true → is_unseated p ≡ true) → ChildrenStand (child_position h p m) (below a h ts) 0 (filling_by (slots_of strict c h))
one_stands a ts strict c h p m q k u =
    filled_stand (child_position h p m) (below a h ts) (asks_whole h) (lists_whole h) (asked_whole h p m) (listed_whole h p m) k
    (unseats_all (child_position h p m) (below a h ts) (λ i. assigned_below a h p m i u)) (slots_of strict c h) (right_by_both (asks_whole h) (lists_whole h) (slots_of strict c h) (sym q ∙ checked strict c h))

item_stands : (p : Position) (c : Class) (b : Bool) (a : Around) (m j k : ℕ) (ts : Trees) → (takes_inner c ≡ true → b ≡ true) → (not b || are_asked_whole p) ≡ true → (a.is_assigned ≡ true → is_unseated p ≡ true) → Stands (one c) (item_position p m j) (below a shape.Listed ts k)
item_stands p c b a m j k ts f z u = record { whole = by (takes_inner c) (are_asked_whole p) f z (λ e. items_whole p m j e); assigned = λ q. item_unseated p m j (u q); function = λ q. refl }
  where
    by : (t w : Bool) → (t ≡ true → b ≡ true) → (not b || w) ≡ true → (w ≡ true → is_asked_whole (item_position p m j) ≡ true) → (not t || is_asked_whole (item_position p m j)) ≡ true
    by false w f z g = refl
    by true w f z g = g (subst (λ x. (not x || w) ≡ true) (f refl) z)

first_takes : (a b : Bool) → a ≡ true → (a || b) ≡ true
first_takes true b e = refl
first_takes false b e = absurd (false≢true e)

hole_stands : (s : Class) (p : Position) (a : Around) → Stands (one s) p a → a.constructs ≡ false → Stands (one_or_absent s) p a
hole_stands s p a z k = record { whole = z.whole; assigned = z.assigned; function = λ q. k }

pub children_stand : (strict : Bool) (s : Slot) (h : Shape) (p : Position) (m : ℕ) (a : Around) (ts : Trees) → Stands s p a → ChildrenStand (child_position h p m) (below a h ts) 0 (filling strict s h)
children_stand strict (one c) (shape.MethodDefinition k computed b) p m a ts z = below_method a ts strict (one c) k computed b p m (method_filling strict (one c) k computed b)
children_stand strict (one c) shape.InnerExpression p m a ts z = below_inner a ts strict (one c) p m (inner_filling strict (one c) p z.whole)
children_stand strict (one c) h p m a ts z = one_stands a ts strict c h p m refl (λ i. refl) z.assigned
children_stand strict (one_or_absent c) shape.Absent p m a ts z = tt
children_stand strict (one_or_absent c) (shape.MethodDefinition k computed b) p m a ts z = below_method a ts strict (one_or_absent c) k computed b p m (method_filling strict (one_or_absent c) k computed b)
children_stand strict (one_or_absent c) shape.InnerExpression p m a ts z = below_inner a ts strict (one_or_absent c) p m (inner_filling strict (one_or_absent c) p z.whole)
children_stand strict (one_or_absent c) h p m a ts z = one_stands a ts strict c h p m refl (λ i. refl) z.assigned
children_stand strict (many c) shape.Listed p m a ts z = λ j k. item_stands p c (takes_inner c) a m j k ts (λ e. e) z.whole z.assigned
children_stand strict (many_or_holes c) shape.Listed p m a ts z = λ j k. hole_stands c (item_position p m j) (below a shape.Listed ts k) (item_stands p c (takes_inner c) a m j k ts (λ e. e) z.whole z.assigned) refl
children_stand strict (many_and_rest c rest) shape.Listed p m a ts z = λ j k.
    (item_stands p c (takes_inner c || takes_inner rest) a m j k ts (first_takes (takes_inner c) (takes_inner rest)) z.whole z.assigned, item_stands p rest (takes_inner c || takes_inner rest) a m j k ts (or_second (takes_inner c) (takes_inner rest)) z.whole z.assigned)
children_stand strict (many_or_holes_and_rest c rest) shape.Listed p m a ts z = λ j k.
    (hole_stands c (item_position p m j) (below a shape.Listed ts k) (item_stands p c (takes_inner c || takes_inner rest) a m j k ts (first_takes (takes_inner c) (takes_inner rest)) z.whole z.assigned) refl, item_stands p rest (takes_inner c || takes_inner rest) a m j k ts (or_second (takes_inner c) (takes_inner rest)) z.whole z.assigned)
children_stand strict (quasis g) shape.Listed p m a ts z = tt
children_stand strict s h p m a ts z = tt

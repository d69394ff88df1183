-- Each shape that may stand in the head of a loop, where something is assigned to, or in a pattern comes back, where
-- smaller trees do.
use Rattle.std.proofs.Common.{◌≡◌, ℕ, suc, ◌+◌, ◌≤◌, arith, [], ◌∷◌, refl, ap, Bool, true, false, ◌&&◌, ◌||◌}
use Rattle.std.specs.Prelude.{Some, not, codes}
use Rattle.std.proofs.lemmas.Bool.{and_parts, or_left, or_right, false≢true, true≢false}
use Rattle.serde_json.specs.Data.{Data, array}
use Rattle.mini_model.specs.declared.kind.VariableDeclarationKind.{VariableDeclarationKind}
use Rattle.mini_model.specs.declared.kind.VariableDeclarationKind.TheVariants as variable
use Rattle.mini_model.specs.declared.shape.Shape.{Shape}
use Rattle.mini_model.specs.declared.shape.Shape.TheVariants as shape
use Rattle.mini_model.specs.Tree.{Tree, node, Trees, none, ◌▸◌, is_absent, children, node_count}
use Rattle.mini_accept.specs.WellShaped as shaped
use Rattle.mini_accept.specs.WellShaped.{Class, these, each, filling_by}
use Rattle.mini_accept.specs.Places.{at}
use Rattle.mini_accept.specs.Fields.{is_there, is_given}
use Rattle.mini_accept.specs.Standing.{stands_as}
use Rattle.mini_accept.specs.Expressions.{is_link}
use Rattle.mini_writer.specs.Objects as objects
use Rattle.mini_writer.specs.Written.{tree_data, trees_data, node_data}
use Rattle.mini_writer.proofs.Units.{has_units}
use Rattle.mini_writer.proofs.Fitting.{Fit, Filled, NodeFits, node_fits, fit_more, with_one, with_two, with_list, and_false}
use Rattle.mini_writer.proofs.Slots.{Back}
use Rattle.mini_writer.proofs.Statements as statement
use Rattle.mini_writer.proofs.Statements.{Comes}
use Rattle.mini_writer.proofs.AcceptedMembers as member
use Rattle.mini_writer.proofs.Patterns as pattern
use Rattle.mini_writer.proofs.Functions as function

abbrev pub is_inner_shape : Shape → Bool
is_inner_shape shape.InnerExpression = true
is_inner_shape h = false

module _ (k : ℕ) (back : Back k) (strict : Bool) where
  -- ---- the heads of loops

  -- a declarator that has no initializer
  not_initialized : (t : Tree) → Fit k strict (shaped.one shaped.a_declarator) t → not (shaped.is_initialized t) ≡ true → not (is_given (codes "init") (tree_data t)) ≡ true
  not_initialized (node shape.VariableDeclarator xs n ts) f =
      with_two k strict (shaped.one shaped.a_pattern) (shaped.one_or_absent shaped.an_expression) (λ us. not (shaped.is_initialized (node shape.VariableDeclarator xs n us)) ≡ true → not (is_given (codes "init") (node_data shape.VariableDeclarator xs (trees_data us))) ≡ true)
      (λ a b x y e. ap (λ d. not (is_there (Some d))) (function.absent_data b (absent_so (is_absent b) e))) ts (node_fits k strict shaped.a_declarator shape.VariableDeclarator xs n ts (fit_more k (suc k) strict (shaped.one shaped.a_declarator) (node shape.VariableDeclarator xs n ts) (omega arith) f)).filled
    where
      absent_so : (b : Bool) → not (not b) ≡ true → b ≡ true
      absent_so true e = refl
      absent_so false e = e
  not_initialized (node h xs n ts) f = λ e. absurd (and_false _ f.fits)

  head_moves : (a b p q : Bool) → (not a || (b && p)) ≡ true → (not a ≡ true → not q ≡ true) → ((b && p) || not q) ≡ true
  head_moves true b p q e f = or_left (b && p) (not q) e
  head_moves false b p q e f = or_right (b && p) (not q) (f refl)

  head_of : (enumerates : Bool) (v : VariableDeclarationKind) (l : ℕ) (ts : Trees) → shaped.is_head_by enumerates v ts ≡ true → Filled k strict (each (shaped.one shaped.a_declarator)) ts → Comes k strict (shaped.a_loop_left enumerates) (shape.VariableDeclaration v) (node shape.Listed [] l ts ▸ none)
  head_of enumerates v l none e w = absurd (false≢true e)
  head_of enumerates v l (t ▸ u ▸ ts) e w = absurd (false≢true e)
  head_of enumerates v l (t ▸ none) e w =
      let (first, rest) = and_parts (shaped.fits strict (shaped.one shaped.a_declarator) t) true w.fills in
      let (unit, units) = and_parts (has_units t) true w.units in
      let small : node_count t + 0 ≤ k = w.small in
      let fit : Fit k strict (shaped.one shaped.a_declarator) t = record { fits = first; units = unit; small = omega arith } in
      statement.variable_of k back strict (shaped.a_loop_left enumerates) v l (t ▸ none) (stands v (not_initialized t fit) e) refl w
    where
      stands : (o : VariableDeclarationKind) → (not (shaped.is_initialized t) ≡ true → not (is_given (codes "init") (tree_data t)) ≡ true) → shaped.is_head_by enumerates o (t ▸ none) ≡ true → stands_as (shaped.a_loop_left enumerates) (objects.variable_declaration o (array (trees_data (t ▸ none)))) ≡ true
      stands variable.Var f e = head_moves (shaped.is_initialized t) enumerates true (is_given (codes "init") (tree_data t)) e f
      stands variable.Let f e = head_moves (shaped.is_initialized t) enumerates false (is_given (codes "init") (tree_data t)) e f
      stands variable.Const f e = head_moves (shaped.is_initialized t) enumerates false (is_given (codes "init") (tree_data t)) e f

  loop_head : (enumerates : Bool) (v : VariableDeclarationKind) (ts : Trees) → Filled k strict (these (shaped.many shaped.a_declarator ∷ [])) ts → shaped.is_head_by enumerates v (children (shaped.first_item ts)) ≡ true → Comes k strict (shaped.a_loop_left enumerates) (shape.VariableDeclaration v) ts
  loop_head enumerates v = with_one k strict (shaped.many shaped.a_declarator) (λ us. shaped.is_head_by enumerates v (children (shaped.first_item us)) ≡ true → Comes k strict (shaped.a_loop_left enumerates) (shape.VariableDeclaration v) us)
      (λ a. with_list k strict (shaped.many shaped.a_declarator) (λ u. shaped.is_head_by enumerates v (children (shaped.first_item (u ▸ none))) ≡ true → Comes k strict (shaped.a_loop_left enumerates) (shape.VariableDeclaration v) (u ▸ none)) refl
      (λ l us w e. head_of enumerates v l us e w) a)

  -- ---- what is assigned to

  member_comes : (c : Class) → is_link (at c) ≡ false → ((computed : Bool) (base key : Data) → stands_as c (objects.member_expression computed false base key) ≡ true) → (h : Shape) (ts : Trees) → Filled k (shaped.is_strict_in strict h) (filling_by (shaped.member_slots h)) ts → Comes k strict c h ts
  member_comes c link stands (shape.StaticMemberExpression false) ts w = member.static_member k back strict c false link false refl (stands false) ts w
  member_comes c link stands (shape.ComputedMemberExpression false) ts w = member.computed_member k back strict c false link false refl (stands true) ts w
  member_comes c link stands (shape.PrivateFieldExpression false) ts w = member.private_field k back strict c false link false refl (stands false) ts w
  member_comes c link stands shape.SuperStaticMemberExpression ts w = member.super_static k back strict c (stands false) ts w
  member_comes c link stands shape.SuperComputedMemberExpression ts w = member.super_computed k back strict c (stands true) ts w
  member_comes c link stands h ts w = absurd (false≢true w.fills)

  pub loop_left_comes : (enumerates : Bool) (h : Shape) (ts : Trees) → NodeFits k strict (shaped.a_loop_left enumerates) h [] ts → Comes k strict (shaped.a_loop_left enumerates) h ts
  loop_left_comes enumerates (shape.VariableDeclaration v) ts w = loop_head enumerates v ts w.filled w.parts
  loop_left_comes enumerates shape.Identifier ts w = absurd (false≢true w.names)
  loop_left_comes enumerates shape.ObjectAssignmentTarget ts w = pattern.object_target k back strict (shaped.a_loop_left enumerates) refl (λ d. refl) ts w.filled
  loop_left_comes enumerates shape.ArrayAssignmentTarget ts w = pattern.array_target k back strict (shaped.a_loop_left enumerates) refl (λ d. refl) ts w.filled
  loop_left_comes enumerates h ts w = member_comes (shaped.a_loop_left enumerates) refl (λ computed base key. refl) h ts (record { fills = w.filled.fills; units = w.filled.units; small = w.filled.small })

  pub target_comes : (h : Shape) (ts : Trees) → NodeFits k strict shaped.a_target h [] ts → Comes k strict shaped.a_target h ts
  target_comes shape.Identifier ts w = absurd (false≢true w.names)
  target_comes shape.ObjectAssignmentTarget ts w = pattern.object_target k back strict shaped.a_target refl (λ d. refl) ts w.filled
  target_comes shape.ArrayAssignmentTarget ts w = pattern.array_target k back strict shaped.a_target refl (λ d. refl) ts w.filled
  target_comes h ts w = member_comes shaped.a_target refl (λ computed base key. refl) h ts (record { fills = w.filled.fills; units = w.filled.units; small = w.filled.small })

  pub simple_target_comes : (h : Shape) (ts : Trees) → NodeFits k strict shaped.a_simple_target h [] ts → Comes k strict shaped.a_simple_target h ts
  simple_target_comes shape.Identifier ts w = absurd (false≢true w.names)
  simple_target_comes h ts w = member_comes shaped.a_simple_target refl (λ computed base key. refl) h ts (record { fills = w.filled.fills; units = w.filled.units; small = w.filled.small })

  pub member_target_comes : (h : Shape) (ts : Trees) → NodeFits k strict shaped.a_member_target h [] ts → Comes k strict shaped.a_member_target h ts
  member_target_comes h ts w = member_comes shaped.a_member_target refl (λ computed base key. refl) h ts w.filled

  pub element_target_comes : (h : Shape) (ts : Trees) → is_inner_shape h ≡ false → NodeFits k strict shaped.an_element_target h [] ts → Comes k strict shaped.an_element_target h ts
  element_target_comes shape.Identifier ts e w = absurd (false≢true w.names)
  element_target_comes shape.ObjectAssignmentTarget ts e w = pattern.object_target k back strict shaped.an_element_target refl (λ d. refl) ts w.filled
  element_target_comes shape.ArrayAssignmentTarget ts e w = pattern.array_target k back strict shaped.an_element_target refl (λ d. refl) ts w.filled
  element_target_comes shape.InnerExpression ts e w = absurd (true≢false e)
  element_target_comes h ts e w = absurd (false≢true w.filled.fills)

  pub target_element_comes : (h : Shape) (ts : Trees) → is_inner_shape h ≡ false → NodeFits k strict shaped.a_target_element h [] ts → Comes k strict shaped.a_target_element h ts
  target_element_comes shape.Identifier ts e w = absurd (false≢true w.names)
  target_element_comes shape.AssignmentPattern ts e w = pattern.target_default k back strict ts w.filled
  target_element_comes shape.ObjectAssignmentTarget ts e w = pattern.object_target k back strict shaped.a_target_element refl (λ d. refl) ts w.filled
  target_element_comes shape.ArrayAssignmentTarget ts e w = pattern.array_target k back strict shaped.a_target_element refl (λ d. refl) ts w.filled
  target_element_comes shape.InnerExpression ts e w = absurd (true≢false e)
  target_element_comes h ts e w = absurd (false≢true w.filled.fills)

  pub target_property_comes : (h : Shape) (ts : Trees) → NodeFits k strict shaped.a_target_property h [] ts → Comes k strict shaped.a_target_property h ts
  target_property_comes shape.AssignmentTargetPropertyIdentifier ts w = pattern.named_property k back strict ts w.filled w.parts
  target_property_comes (shape.AssignmentTargetPropertyProperty computed) ts w = pattern.keyed_property k back strict computed ts w.filled
  target_property_comes h ts w = absurd (false≢true w.filled.fills)

  pub named_target_comes : (h : Shape) (ts : Trees) → NodeFits k strict shaped.a_named_target h [] ts → Comes k strict shaped.a_named_target h ts
  named_target_comes shape.Identifier ts w = absurd (false≢true w.names)
  named_target_comes shape.AssignmentPattern ts w = pattern.named_default k back strict ts w.filled
  named_target_comes h ts w = absurd (false≢true w.filled.fills)

  pub target_name_comes : (h : Shape) (ts : Trees) → NodeFits k strict shaped.a_target_name h [] ts → Comes k strict shaped.a_target_name h ts
  target_name_comes shape.Identifier ts w = absurd (false≢true w.names)
  target_name_comes h ts w = absurd (false≢true w.filled.fills)

  pub target_rest_comes : (h : Shape) (ts : Trees) → NodeFits k strict shaped.a_target_rest h [] ts → Comes k strict shaped.a_target_rest h ts
  target_rest_comes shape.RestElement ts w = pattern.rest_target k back strict ts w.filled
  target_rest_comes h ts w = absurd (false≢true w.filled.fills)

  -- ---- patterns

  pub pattern_comes : (h : Shape) (ts : Trees) → NodeFits k strict shaped.a_pattern h [] ts → Comes k strict shaped.a_pattern h ts
  pattern_comes shape.BindingIdentifier ts w = absurd (false≢true w.names)
  pattern_comes shape.ObjectPattern ts w = pattern.object_pattern k back strict shaped.a_pattern refl (λ d. refl) ts w.filled
  pattern_comes shape.ArrayPattern ts w = pattern.array_pattern k back strict shaped.a_pattern refl (λ d. refl) ts w.filled
  pattern_comes h ts w = absurd (false≢true w.filled.fills)

  pub pattern_element_comes : (h : Shape) (ts : Trees) → NodeFits k strict shaped.a_pattern_element h [] ts → Comes k strict shaped.a_pattern_element h ts
  pattern_element_comes shape.BindingIdentifier ts w = absurd (false≢true w.names)
  pattern_element_comes shape.AssignmentPattern ts w = pattern.element_default k back strict ts w.filled
  pattern_element_comes shape.ObjectPattern ts w = pattern.object_pattern k back strict shaped.a_pattern_element refl (λ d. refl) ts w.filled
  pattern_element_comes shape.ArrayPattern ts w = pattern.array_pattern k back strict shaped.a_pattern_element refl (λ d. refl) ts w.filled
  pattern_element_comes h ts w = absurd (false≢true w.filled.fills)

  pub parameter_comes : (h : Shape) (ts : Trees) → NodeFits k strict shaped.a_parameter h [] ts → Comes k strict shaped.a_parameter h ts
  parameter_comes shape.BindingIdentifier ts w = absurd (false≢true w.names)
  parameter_comes shape.AssignmentPattern ts w = pattern.parameter_default k back strict ts w.filled
  parameter_comes shape.ObjectPattern ts w = pattern.object_pattern k back strict shaped.a_parameter refl (λ d. refl) ts w.filled
  parameter_comes shape.ArrayPattern ts w = pattern.array_pattern k back strict shaped.a_parameter refl (λ d. refl) ts w.filled
  parameter_comes h ts w = absurd (false≢true w.filled.fills)

  pub pattern_property_comes : (h : Shape) (ts : Trees) → NodeFits k strict shaped.a_pattern_property h [] ts → Comes k strict shaped.a_pattern_property h ts
  pattern_property_comes (shape.BindingProperty shorthand computed) ts w = pattern.binding_property k back strict shorthand computed ts w.filled w.parts
  pattern_property_comes h ts w = absurd (false≢true w.filled.fills)

  pub pattern_rest_comes : (h : Shape) (ts : Trees) → NodeFits k strict shaped.a_pattern_rest h [] ts → Comes k strict shaped.a_pattern_rest h ts
  pattern_rest_comes shape.RestElement ts w = pattern.pattern_rest k back strict ts w.filled
  pattern_rest_comes h ts w = absurd (false≢true w.filled.fills)

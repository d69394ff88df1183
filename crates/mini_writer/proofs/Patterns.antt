-- Patterns come back, where smaller trees do: those that a declaration binds, and those that are assigned to.
use Rattle.std.proofs.Common.{◌≡◌, ℕ, suc, List, [], ◌∷◌, refl, Bool, true, false, ◌&&◌, ◌||◌}
use Rattle.std.specs.Prelude.{not, codes, if◌then◌else◌}
use Rattle.serde_json.specs.Data.{Data, array}
use Rattle.mini_model.specs.declared.kind.PropertyKind.TheVariants.{Init}
use Rattle.mini_model.specs.declared.shape.Shape.TheVariants as shape
use Rattle.mini_model.specs.Tree.{Tree, Trees, none, ◌▸◌}
use Rattle.mini_accept.specs.WellShaped as shaped
use Rattle.mini_accept.specs.WellShaped.{Class, these, repeats_key}
use Rattle.mini_accept.specs.declared.kind.Kind.TheVariants as kind
use Rattle.mini_accept.specs.Places.{at, field}
use Rattle.mini_accept.specs.Fields.{has_type}
use Rattle.mini_accept.specs.Standing.{stands_as}
use Rattle.mini_accept.specs.Plans as plans
use Rattle.mini_accept.specs.Plans.{Part, one, tree_at, inner_at}
use Rattle.mini_accept.specs.Expressions as table
use Rattle.mini_accept.specs.Patterns.{is_binding}
use Rattle.mini_writer.specs.Objects as objects
use Rattle.mini_writer.specs.Written.{tree_data, trees_data}
use Rattle.mini_writer.proofs.Read.{ChildBack, no_children, ◌&◌, plain_back}
use Rattle.mini_writer.proofs.Fitting.{Filled, with_one, with_two, with_list}
use Rattle.mini_writer.proofs.Slots.{Back, Rested, child_back, rest_back, holes_rest_back, fit_stands}
use Rattle.mini_writer.proofs.Entry.{require_is, then_is, else_is}
use Rattle.mini_writer.proofs.Statements.{Comes}
use Rattle.mini_writer.proofs.Keys.{fit_named}
use Rattle.mini_writer.proofs.Properties.{repeats_element, pattern_key}

-- a part by a test, as a child by it
chosen : (k : ℕ) (strict : Bool) (d : Data) (b : Bool) (x y : Part) (ts : Trees) → ChildBack k strict d (one (if b then x else y)) ts → ChildBack k strict d (if b then one x else one y) ts
chosen k strict d true x y ts c = c
chosen k strict d false x y ts c = c

shorthand_holds : (s o q : Bool) → (not s || (o && q)) ≡ true → (r : Bool) → (s ≡ true → o ≡ true → q ≡ true → r ≡ true) → (not s || (o && r)) ≡ true
shorthand_holds true true q e r f = f refl refl e
shorthand_holds true false q e r f = e
shorthand_holds false o q e r f = refl

module _ (k : ℕ) (back : Back k) (strict : Bool) where
  -- what is assigned to in a pattern
  target : (key : List ℕ) (d : Data) (c : Class) (a : Tree) → ChildBack (suc (suc k)) strict d (one (if has_type (codes "MemberExpression") (tree_data a) then inner_at (field key) (at shaped.a_member_target) else tree_at (field key) (at c))) (a ▸ none)
      → ChildBack (suc (suc k)) strict d (if has_type (codes "MemberExpression") (tree_data a) then plans.inner key shaped.a_member_target else plans.child key c) (a ▸ none)
  target key d c a x = chosen (suc (suc k)) strict d (has_type (codes "MemberExpression") (tree_data a)) _ _ (a ▸ none) x

  binding_rest : (d : Data) → Rested k back strict d shaped.a_pattern_property shaped.a_pattern_rest (plans.each shaped.a_pattern_property)
  binding_rest d = record { one_apart = refl; rest_apart = refl; reads = λ last e s. refl; rest_reads = λ e s. refl; inner_type = refl; type = refl; is_rest = λ t f. (fit_stands k back strict shaped.a_pattern_rest t refl f).stands }

  binding_elements : (d : Data) → Rested k back strict d shaped.a_pattern_element shaped.a_pattern_rest (plans.each shaped.a_pattern_element)
  binding_elements d = record { one_apart = refl; rest_apart = refl; reads = λ last e s. refl; rest_reads = λ e s. refl; inner_type = refl; type = refl; is_rest = λ t f. (fit_stands k back strict shaped.a_pattern_rest t refl f).stands }

  target_rest : (d : Data) → Rested k back strict d shaped.a_target_property shaped.a_target_rest (plans.each shaped.a_target_property)
  target_rest d = record { one_apart = refl; rest_apart = refl; reads = λ last e s. refl; rest_reads = λ e s. refl; inner_type = refl; type = refl; is_rest = λ t f. (fit_stands k back strict shaped.a_target_rest t refl f).stands }

  target_elements : (d : Data) → Rested k back strict d shaped.a_target_element shaped.a_target_rest (plans.target_part shaped.a_target_element)
  target_elements d = record { one_apart = refl; rest_apart = refl; reads = λ last e s. refl; rest_reads = λ e s. refl; inner_type = refl; type = refl; is_rest = λ t f. (fit_stands k back strict shaped.a_target_rest t refl f).stands }

  -- ---- what a declaration binds

  module _ (c : Class) (binds : is_binding (at c) ≡ true) where
    pub object_pattern : ((d : Data) → stands_as c (objects.object_pattern d) ≡ true) → (ts : Trees) → Filled k strict (these (shaped.many_and_rest shaped.a_pattern_property shaped.a_pattern_rest ∷ [])) ts → Comes k strict c shape.ObjectPattern ts
    object_pattern stands = with_one k strict (shaped.many_and_rest shaped.a_pattern_property shaped.a_pattern_rest) (Comes k strict c shape.ObjectPattern)
        (λ a. with_list k strict (shaped.many_and_rest shaped.a_pattern_property shaped.a_pattern_rest) (λ u. Comes k strict c shape.ObjectPattern (u ▸ none)) refl
        (λ l ts w m n. plain_back (suc (suc k)) strict c _ kind.ObjectPattern shape.ObjectPattern _ m _ refl (stands (array (trees_data ts))) refl (then_is (is_binding (at c)) _ _ _ binds refl)
        (rest_back k back strict _ shaped.a_pattern_property shaped.a_pattern_rest (plans.each shaped.a_pattern_property) (codes "properties") l ts (binding_rest _) refl w & no_children) n) a)

    pub array_pattern : ((d : Data) → stands_as c (objects.array_pattern d) ≡ true) → (ts : Trees) → Filled k strict (these (shaped.many_or_holes_and_rest shaped.a_pattern_element shaped.a_pattern_rest ∷ [])) ts → Comes k strict c shape.ArrayPattern ts
    array_pattern stands = with_one k strict (shaped.many_or_holes_and_rest shaped.a_pattern_element shaped.a_pattern_rest) (Comes k strict c shape.ArrayPattern)
        (λ a. with_list k strict (shaped.many_or_holes_and_rest shaped.a_pattern_element shaped.a_pattern_rest) (λ u. Comes k strict c shape.ArrayPattern (u ▸ none)) refl
        (λ l ts w m n. plain_back (suc (suc k)) strict c _ kind.ArrayPattern shape.ArrayPattern _ m _ refl (stands (array (trees_data ts))) refl (then_is (is_binding (at c)) _ _ _ binds refl)
        (holes_rest_back k back strict _ shaped.a_pattern_element shaped.a_pattern_rest (plans.each shaped.a_pattern_element) (codes "elements") l ts (binding_elements _) refl w & no_children) n) a)

  -- a name or pattern with a default, as an element or a parameter
  pub element_default : (ts : Trees) → Filled k strict (these (shaped.one shaped.a_pattern ∷ shaped.one (shaped.an_inner shaped.an_expression) ∷ [])) ts → Comes k strict shaped.a_pattern_element shape.AssignmentPattern ts
  element_default = with_two k strict (shaped.one shaped.a_pattern) (shaped.one (shaped.an_inner shaped.an_expression)) (Comes k strict shaped.a_pattern_element shape.AssignmentPattern)
      (λ a b f g m n. plain_back (suc (suc k)) strict shaped.a_pattern_element _ kind.AssignmentPattern shape.AssignmentPattern _ m _ refl refl refl refl
      (child_back k back strict _ shaped.a_pattern a refl f (codes "left") refl & child_back k back strict _ (shaped.an_inner shaped.an_expression) b refl g (codes "right") refl & no_children) n)

  pub parameter_default : (ts : Trees) → Filled k strict (these (shaped.one shaped.a_pattern ∷ shaped.one (shaped.an_inner shaped.an_expression) ∷ [])) ts → Comes k strict shaped.a_parameter shape.AssignmentPattern ts
  parameter_default = with_two k strict (shaped.one shaped.a_pattern) (shaped.one (shaped.an_inner shaped.an_expression)) (Comes k strict shaped.a_parameter shape.AssignmentPattern)
      (λ a b f g m n. plain_back (suc (suc k)) strict shaped.a_parameter _ kind.AssignmentPattern shape.AssignmentPattern _ m _ refl refl refl refl
      (child_back k back strict _ shaped.a_pattern a refl f (codes "left") refl & child_back k back strict _ (shaped.an_inner shaped.an_expression) b refl g (codes "right") refl & no_children) n)

  pub pattern_rest : (ts : Trees) → Filled k strict (these (shaped.one shaped.a_pattern ∷ [])) ts → Comes k strict shaped.a_pattern_rest shape.RestElement ts
  pattern_rest = with_one k strict (shaped.one shaped.a_pattern) (Comes k strict shaped.a_pattern_rest shape.RestElement)
      (λ a f m n. plain_back (suc (suc k)) strict shaped.a_pattern_rest _ kind.RestElement shape.RestElement _ m _ refl refl refl refl
      (child_back k back strict _ shaped.a_pattern a refl f (codes "argument") refl & no_children) n)

  pub binding_property : (shorthand computed : Bool) (ts : Trees) → Filled k strict (these (shaped.one (shaped.an_inner_key computed) ∷ shaped.one shaped.a_pattern_element ∷ [])) ts → (not shorthand || (not computed && repeats_key ts)) ≡ true → Comes k strict shaped.a_pattern_property (shape.BindingProperty shorthand computed) ts
  binding_property shorthand computed = with_two k strict (shaped.one (shaped.an_inner_key computed)) (shaped.one shaped.a_pattern_element) (λ ts. (not shorthand || (not computed && repeats_key ts)) ≡ true → Comes k strict shaped.a_pattern_property (shape.BindingProperty shorthand computed) ts)
      (λ a b f g e m n. plain_back (suc (suc k)) strict shaped.a_pattern_property (objects.property Init false shorthand computed (tree_data a) (tree_data b)) kind.Property (shape.BindingProperty shorthand computed) _ m _ refl refl refl
      (require_is (not shorthand || (not computed && table.is_name_with_default (table.identifier_text (tree_data a)) (tree_data b))) _ _
      (shorthand_holds shorthand (not computed) _ e _ (λ s o same. repeats_element k strict shaped.a_pattern_element shaped.a_pattern refl a b (fit_named k strict (shaped.one (shaped.an_inner_key computed)) a f) g same)) refl)
      (pattern_key k back strict computed _ a f refl & child_back k back strict _ shaped.a_pattern_element b refl g (codes "value") refl & no_children) n)

  -- ---- what is assigned to

  module _ (c : Class) (binds : is_binding (at c) ≡ false) where
    pub object_target : ((d : Data) → stands_as c (objects.object_pattern d) ≡ true) → (ts : Trees) → Filled k strict (these (shaped.many_and_rest shaped.a_target_property shaped.a_target_rest ∷ [])) ts → Comes k strict c shape.ObjectAssignmentTarget ts
    object_target stands = with_one k strict (shaped.many_and_rest shaped.a_target_property shaped.a_target_rest) (Comes k strict c shape.ObjectAssignmentTarget)
        (λ a. with_list k strict (shaped.many_and_rest shaped.a_target_property shaped.a_target_rest) (λ u. Comes k strict c shape.ObjectAssignmentTarget (u ▸ none)) refl
        (λ l ts w m n. plain_back (suc (suc k)) strict c _ kind.ObjectPattern shape.ObjectAssignmentTarget _ m _ refl (stands (array (trees_data ts))) refl (else_is (is_binding (at c)) _ _ _ binds refl)
        (rest_back k back strict _ shaped.a_target_property shaped.a_target_rest (plans.each shaped.a_target_property) (codes "properties") l ts (target_rest _) refl w & no_children) n) a)

    pub array_target : ((d : Data) → stands_as c (objects.array_pattern d) ≡ true) → (ts : Trees) → Filled k strict (these (shaped.many_or_holes_and_rest shaped.a_target_element shaped.a_target_rest ∷ [])) ts → Comes k strict c shape.ArrayAssignmentTarget ts
    array_target stands = with_one k strict (shaped.many_or_holes_and_rest shaped.a_target_element shaped.a_target_rest) (Comes k strict c shape.ArrayAssignmentTarget)
        (λ a. with_list k strict (shaped.many_or_holes_and_rest shaped.a_target_element shaped.a_target_rest) (λ u. Comes k strict c shape.ArrayAssignmentTarget (u ▸ none)) refl
        (λ l ts w m n. plain_back (suc (suc k)) strict c _ kind.ArrayPattern shape.ArrayAssignmentTarget _ m _ refl (stands (array (trees_data ts))) refl (else_is (is_binding (at c)) _ _ _ binds refl)
        (holes_rest_back k back strict _ shaped.a_target_element shaped.a_target_rest (plans.target_part shaped.a_target_element) (codes "elements") l ts (target_elements _) refl w & no_children) n) a)

  pub target_default : (ts : Trees) → Filled k strict (these (shaped.one shaped.an_element_target ∷ shaped.one (shaped.an_inner shaped.an_expression) ∷ [])) ts → Comes k strict shaped.a_target_element shape.AssignmentPattern ts
  target_default = with_two k strict (shaped.one shaped.an_element_target) (shaped.one (shaped.an_inner shaped.an_expression)) (Comes k strict shaped.a_target_element shape.AssignmentPattern)
      (λ a b f g m n. plain_back (suc (suc k)) strict shaped.a_target_element _ kind.AssignmentPattern shape.AssignmentPattern _ m _ refl refl refl refl
      (target (codes "left") _ shaped.an_element_target a (child_back k back strict _ shaped.an_element_target a refl f (codes "left") refl) & child_back k back strict _ (shaped.an_inner shaped.an_expression) b refl g (codes "right") refl & no_children) n)

  pub named_default : (ts : Trees) → Filled k strict (these (shaped.one shaped.a_target_name ∷ shaped.one (shaped.an_inner shaped.an_expression) ∷ [])) ts → Comes k strict shaped.a_named_target shape.AssignmentPattern ts
  named_default = with_two k strict (shaped.one shaped.a_target_name) (shaped.one (shaped.an_inner shaped.an_expression)) (Comes k strict shaped.a_named_target shape.AssignmentPattern)
      (λ a b f g m n. plain_back (suc (suc k)) strict shaped.a_named_target _ kind.AssignmentPattern shape.AssignmentPattern _ m _ refl refl refl refl
      (child_back k back strict _ shaped.a_target_name a refl f (codes "left") refl & child_back k back strict _ (shaped.an_inner shaped.an_expression) b refl g (codes "right") refl & no_children) n)

  pub rest_target : (ts : Trees) → Filled k strict (these (shaped.one shaped.an_element_target ∷ [])) ts → Comes k strict shaped.a_target_rest shape.RestElement ts
  rest_target = with_one k strict (shaped.one shaped.an_element_target) (Comes k strict shaped.a_target_rest shape.RestElement)
      (λ a f m n. plain_back (suc (suc k)) strict shaped.a_target_rest _ kind.RestElement shape.RestElement _ m _ refl refl refl refl
      (target (codes "argument") _ shaped.an_element_target a (child_back k back strict _ shaped.an_element_target a refl f (codes "argument") refl) & no_children) n)

  pub named_property : (ts : Trees) → Filled k strict (these (shaped.one shaped.a_label ∷ shaped.one shaped.a_named_target ∷ [])) ts → repeats_key ts ≡ true → Comes k strict shaped.a_target_property shape.AssignmentTargetPropertyIdentifier ts
  named_property = with_two k strict (shaped.one shaped.a_label) (shaped.one shaped.a_named_target) (λ ts. repeats_key ts ≡ true → Comes k strict shaped.a_target_property shape.AssignmentTargetPropertyIdentifier ts)
      (λ a b f g e m n. plain_back (suc (suc k)) strict shaped.a_target_property (objects.property Init false true false (tree_data a) (tree_data b)) kind.Property shape.AssignmentTargetPropertyIdentifier _ m _ refl refl refl
      (require_is (table.is_name_with_default (table.identifier_text (tree_data a)) (tree_data b)) _ _ (repeats_element k strict shaped.a_named_target shaped.a_target_name refl a b (fit_named k strict (shaped.one shaped.a_label) a f) g e) refl)
      (child_back k back strict _ shaped.a_label a refl f (codes "key") refl & child_back k back strict _ shaped.a_named_target b refl g (codes "value") refl & no_children) n)

  pub keyed_property : (computed : Bool) (ts : Trees) → Filled k strict (these (shaped.one (shaped.an_inner_key computed) ∷ shaped.one shaped.a_target_element ∷ [])) ts → Comes k strict shaped.a_target_property (shape.AssignmentTargetPropertyProperty computed) ts
  keyed_property computed = with_two k strict (shaped.one (shaped.an_inner_key computed)) (shaped.one shaped.a_target_element) (Comes k strict shaped.a_target_property (shape.AssignmentTargetPropertyProperty computed))
      (λ a b f g m n. plain_back (suc (suc k)) strict shaped.a_target_property (objects.property Init false false computed (tree_data a) (tree_data b)) kind.Property (shape.AssignmentTargetPropertyProperty computed) _ m _ refl refl refl refl
      (pattern_key k back strict computed _ a f refl & target (codes "value") _ shaped.a_target_element b (child_back k back strict _ shaped.a_target_element b refl g (codes "value") refl) & no_children) n)

-- The plans of patterns.
use Rattle.std.proofs.Common.{◌≡◌, ℕ, List, [], ◌∷◌, refl, ap, sym, ◌∙◌, subst, Bool, true, false, ◌&&◌, ◌||◌}
use Rattle.std.specs.Prelude.{Option, Some, None, not, codes, if◌then◌else◌}
use Rattle.std.proofs.lemmas.Bool.{and_parts, false≢true}
use Rattle.serde_json.specs.Data.{Data, Items}
use Rattle.serde_json.specs.Find.{get}
use Rattle.mini_model.specs.Texts.{units_of}
use Rattle.mini_model.specs.declared.shape.Shape.TheVariants as shape
use Rattle.mini_model.specs.Tree.{Tree}
use Rattle.mini_accept.specs.WellShaped as shaped
use Rattle.mini_accept.specs.WellShaped.{in_module, Slot, is_init}
use Rattle.mini_accept.specs.Places.{Step, Place, at}
use Rattle.mini_accept.specs.Fields.{◌>>=◌, is_there_with, flag_at, has_type, child_has_type, is_one_of}
use Rattle.mini_accept.specs.Plans.{tree_at, inner_at, ItemPart, Child, child, inner, inner_key, target_part, target, node_of, parts_from, list, list_child, each, or_rest, or_hole}
use Rattle.mini_accept.specs.Words.{word_at, property_kinds}
use Rattle.mini_accept.specs.Expressions.{repeats_key, is_same_name, is_name_with_default}
use Rattle.mini_accept.specs.Patterns as pattern
use Rattle.mini_accept.proofs.Fitting.{KnownBelow, Spelled, Named, NamedBefore, PartFits, AllFitOrLast, ChildFits}
use Rattle.mini_accept.proofs.Gathered.{WholeIf}
use Rattle.mini_accept.proofs.Types.{Typed, typed_has, types_at}
use Rattle.mini_accept.proofs.Wholes.{bind_whole, require_whole, list_whole, inner_fits, if_fits, absent_or, rest_fit, holes_fit, whole_at}
use Rattle.mini_accept.proofs.Pieces.{repeated, object_property}

-- ---- parts

child_fits : (s : Slot) (b : Bool) (x y : Child) → ChildFits s x → ChildFits s y → ChildFits s (if b then x else y)
child_fits s true x y f g = f
child_fits s false x y f g = g

-- the parts of patterns
abbrev bound_part : ItemPart
bound_part = or_rest (each shaped.a_pattern_property) shaped.a_pattern_rest

abbrev assigned_part : ItemPart
assigned_part = or_rest (each shaped.a_target_property) shaped.a_target_rest

abbrev bound_item : ItemPart
bound_item = or_hole (or_rest (each shaped.a_pattern_element) shaped.a_pattern_rest)

abbrev assigned_item : ItemPart
assigned_item = or_hole (or_rest (target_part shaped.a_target_element) shaped.a_target_rest)

bound_properties : (ds : Items) → AllFitOrLast (shaped.one shaped.a_pattern_property) (shaped.one shaped.a_pattern_rest) (parts_from bound_part (codes "properties") 0 ds)
bound_properties ds = rest_fit (shaped.one shaped.a_pattern_property) (shaped.one shaped.a_pattern_rest) (each shaped.a_pattern_property) shaped.a_pattern_rest (codes "properties") 0 ds (λ last d q s t h. h) (λ q s t h. h)

assigned_properties : (ds : Items) → AllFitOrLast (shaped.one shaped.a_target_property) (shaped.one shaped.a_target_rest) (parts_from assigned_part (codes "properties") 0 ds)
assigned_properties ds = rest_fit (shaped.one shaped.a_target_property) (shaped.one shaped.a_target_rest) (each shaped.a_target_property) shaped.a_target_rest (codes "properties") 0 ds (λ last d q s t h. h) (λ q s t h. h)

bound_elements : (ds : Items) → AllFitOrLast (shaped.one_or_absent shaped.a_pattern_element) (shaped.one shaped.a_pattern_rest) (parts_from bound_item (codes "elements") 0 ds)
bound_elements ds = holes_fit shaped.a_pattern_element (shaped.one shaped.a_pattern_rest) (each shaped.a_pattern_element) shaped.a_pattern_rest (codes "elements") 0 ds (λ last d q s t h. absent_or s shaped.a_pattern_element t h) (λ q s t h. h)

-- a member that is assigned to is an inner expression
assigned_element : (last : Bool) (d : Data) (q : Step) → PartFits (shaped.one_or_absent shaped.a_target_element) (target_part shaped.a_target_element last d q)
assigned_element last d q = if_fits (shaped.one_or_absent shaped.a_target_element) (has_type (codes "MemberExpression") d) (inner_at q (at shaped.a_member_target)) (tree_at q (at shaped.a_target_element))
    (λ y s n t h. inner_fits n _ h) (λ n s t h. absent_or s shaped.a_target_element t h)

assigned_elements : (ds : Items) → AllFitOrLast (shaped.one_or_absent shaped.a_target_element) (shaped.one shaped.a_target_rest) (parts_from assigned_item (codes "elements") 0 ds)
assigned_elements ds = holes_fit shaped.a_target_element (shaped.one shaped.a_target_rest) (target_part shaped.a_target_element) shaped.a_target_rest (codes "elements") 0 ds assigned_element (λ q s t h. h)

target_fits : (key : List ℕ) (d : Data) → ChildFits (shaped.one shaped.an_element_target) (target key shaped.an_element_target d)
target_fits key d = child_fits (shaped.one shaped.an_element_target) (child_has_type key (codes "MemberExpression") d) (inner key shaped.a_member_target) (child key shaped.an_element_target) (λ s n t h. inner_fits n _ h) (λ s t h. h)

element_fits : (key : List ℕ) (d : Data) → ChildFits (shaped.one shaped.a_target_element) (target key shaped.a_target_element d)
element_fits key d = child_fits (shaped.one shaped.a_target_element) (child_has_type key (codes "MemberExpression") d) (inner key shaped.a_member_target) (child key shaped.a_target_element) (λ s n t h. inner_fits n _ h) (λ s t h. h)

key_fits : (computed : Bool) → ChildFits (shaped.one (shaped.an_inner_key computed)) (inner_key computed (shaped.an_inner_key false))
key_fits true = λ s n t h. inner_fits n _ h
key_fits false = λ s t h. h

-- ---- objects and arrays

-- a pattern is no name, with a default or without
module _ (d : Data) (name : has_type (codes "Identifier") d ≡ false) where
  unnamed : (s : List ℕ) → is_same_name (Some s) d ≡ true → ⊥
  unnamed s e = cc (name, e)

  unnamed_before : has_type (codes "AssignmentPattern") d ≡ false → (s : List ℕ) → is_name_with_default (Some s) d ≡ true → ⊥
  unnamed_before default s e = cc (default, name, e)

module _ (strict : Bool) (d : Data) where
  bound_object : (p : Place) → ((ds : Items) → WholeIf strict p d (node_of shape.ObjectPattern (list bound_part (codes "properties") ds ∷ []))) → WholeIf strict p d (list_child bound_part (codes "properties") d >>= (λ x. node_of shape.ObjectPattern (x ∷ [])))
  bound_object p f = list_whole strict p d bound_part (codes "properties") (λ x. node_of shape.ObjectPattern (x ∷ [])) f

  assigned_object : (p : Place) → ((ds : Items) → WholeIf strict p d (node_of shape.ObjectAssignmentTarget (list assigned_part (codes "properties") ds ∷ []))) → WholeIf strict p d (list_child assigned_part (codes "properties") d >>= (λ x. node_of shape.ObjectAssignmentTarget (x ∷ [])))
  assigned_object p f = list_whole strict p d assigned_part (codes "properties") (λ x. node_of shape.ObjectAssignmentTarget (x ∷ [])) f

  bound_array : (p : Place) → ((ds : Items) → WholeIf strict p d (node_of shape.ArrayPattern (list bound_item (codes "elements") ds ∷ []))) → WholeIf strict p d (list_child bound_item (codes "elements") d >>= (λ x. node_of shape.ArrayPattern (x ∷ [])))
  bound_array p f = list_whole strict p d bound_item (codes "elements") (λ x. node_of shape.ArrayPattern (x ∷ [])) f

  assigned_array : (p : Place) → ((ds : Items) → WholeIf strict p d (node_of shape.ArrayAssignmentTarget (list assigned_item (codes "elements") ds ∷ []))) → WholeIf strict p d (list_child assigned_item (codes "elements") d >>= (λ x. node_of shape.ArrayAssignmentTarget (x ∷ [])))
  assigned_array p f = list_whole strict p d assigned_item (codes "elements") (λ x. node_of shape.ArrayAssignmentTarget (x ∷ [])) f

  pub object_pattern : (p : Place) → Typed d (codes "ObjectPattern") → is_one_of (types_at p) (codes "ObjectPattern") ≡ true → WholeIf strict p d (pattern.object_pattern p d)
  object_pattern (at shaped.a_pattern) typed e = bound_object (at shaped.a_pattern) (λ ds. whole_at strict (at shaped.a_pattern) shaped.a_pattern d shape.ObjectPattern [] (list bound_part (codes "properties") ds ∷ []) (λ t h. h) (λ n h. h) refl refl (λ w. refl) (bound_properties ds, tt) (λ w n s f. absurd (unnamed d (typed_has d (codes "ObjectPattern") (codes "Identifier") typed) s f)))
  object_pattern (at shaped.a_pattern_element) typed e = bound_object (at shaped.a_pattern_element) (λ ds. whole_at strict (at shaped.a_pattern_element) shaped.a_pattern_element d shape.ObjectPattern [] (list bound_part (codes "properties") ds ∷ []) (λ t h. h) (λ n h. h) refl refl (λ w. refl) (bound_properties ds, tt) (λ w n s f. absurd (unnamed_before d (typed_has d (codes "ObjectPattern") (codes "Identifier") typed) (typed_has d (codes "ObjectPattern") (codes "AssignmentPattern") typed) s f)))
  object_pattern (at shaped.a_parameter) typed e = bound_object (at shaped.a_parameter) (λ ds. whole_at strict (at shaped.a_parameter) shaped.a_parameter d shape.ObjectPattern [] (list bound_part (codes "properties") ds ∷ []) (λ t h. h) (λ n h. h) refl refl (λ w. refl) (bound_properties ds, tt) (λ w n. tt))
  object_pattern (at (shaped.a_loop_left enumerates)) typed e = assigned_object (at (shaped.a_loop_left enumerates)) (λ ds. whole_at strict (at (shaped.a_loop_left enumerates)) (shaped.a_loop_left enumerates) d shape.ObjectAssignmentTarget [] (list assigned_part (codes "properties") ds ∷ []) (λ t h. h) (λ n h. h) refl refl (λ w. refl) (assigned_properties ds, tt) (λ w n. tt))
  object_pattern (at shaped.a_target) typed e = assigned_object (at shaped.a_target) (λ ds. whole_at strict (at shaped.a_target) shaped.a_target d shape.ObjectAssignmentTarget [] (list assigned_part (codes "properties") ds ∷ []) (λ t h. h) (λ n h. h) refl refl (λ w. refl) (assigned_properties ds, tt) (λ w n. tt))
  object_pattern (at shaped.an_element_target) typed e = assigned_object (at shaped.an_element_target) (λ ds. whole_at strict (at shaped.an_element_target) shaped.an_element_target d shape.ObjectAssignmentTarget [] (list assigned_part (codes "properties") ds ∷ []) (λ t h. h) (λ n h. h) refl refl (λ w. refl) (assigned_properties ds, tt) (λ w n. tt))
  object_pattern (at shaped.a_target_element) typed e = assigned_object (at shaped.a_target_element) (λ ds. whole_at strict (at shaped.a_target_element) shaped.a_target_element d shape.ObjectAssignmentTarget [] (list assigned_part (codes "properties") ds ∷ []) (λ t h. h) (λ n h. h) refl refl (λ w. refl) (assigned_properties ds, tt) (λ w n. tt))
  object_pattern (at (shaped.a_statement in_module)) typed e = absurd (false≢true e)
  object_pattern (at (shaped.a_key true)) typed e = absurd (false≢true e)
  object_pattern p typed e = absurd (false≢true e)

  pub array_pattern : (p : Place) → Typed d (codes "ArrayPattern") → is_one_of (types_at p) (codes "ArrayPattern") ≡ true → WholeIf strict p d (pattern.array_pattern p d)
  array_pattern (at shaped.a_pattern) typed e = bound_array (at shaped.a_pattern) (λ ds. whole_at strict (at shaped.a_pattern) shaped.a_pattern d shape.ArrayPattern [] (list bound_item (codes "elements") ds ∷ []) (λ t h. h) (λ n h. h) refl refl (λ w. refl) (bound_elements ds, tt) (λ w n s f. absurd (unnamed d (typed_has d (codes "ArrayPattern") (codes "Identifier") typed) s f)))
  array_pattern (at shaped.a_pattern_element) typed e = bound_array (at shaped.a_pattern_element) (λ ds. whole_at strict (at shaped.a_pattern_element) shaped.a_pattern_element d shape.ArrayPattern [] (list bound_item (codes "elements") ds ∷ []) (λ t h. h) (λ n h. h) refl refl (λ w. refl) (bound_elements ds, tt) (λ w n s f. absurd (unnamed_before d (typed_has d (codes "ArrayPattern") (codes "Identifier") typed) (typed_has d (codes "ArrayPattern") (codes "AssignmentPattern") typed) s f)))
  array_pattern (at shaped.a_parameter) typed e = bound_array (at shaped.a_parameter) (λ ds. whole_at strict (at shaped.a_parameter) shaped.a_parameter d shape.ArrayPattern [] (list bound_item (codes "elements") ds ∷ []) (λ t h. h) (λ n h. h) refl refl (λ w. refl) (bound_elements ds, tt) (λ w n. tt))
  array_pattern (at (shaped.a_loop_left enumerates)) typed e = assigned_array (at (shaped.a_loop_left enumerates)) (λ ds. whole_at strict (at (shaped.a_loop_left enumerates)) (shaped.a_loop_left enumerates) d shape.ArrayAssignmentTarget [] (list assigned_item (codes "elements") ds ∷ []) (λ t h. h) (λ n h. h) refl refl (λ w. refl) (assigned_elements ds, tt) (λ w n. tt))
  array_pattern (at shaped.a_target) typed e = assigned_array (at shaped.a_target) (λ ds. whole_at strict (at shaped.a_target) shaped.a_target d shape.ArrayAssignmentTarget [] (list assigned_item (codes "elements") ds ∷ []) (λ t h. h) (λ n h. h) refl refl (λ w. refl) (assigned_elements ds, tt) (λ w n. tt))
  array_pattern (at shaped.an_element_target) typed e = assigned_array (at shaped.an_element_target) (λ ds. whole_at strict (at shaped.an_element_target) shaped.an_element_target d shape.ArrayAssignmentTarget [] (list assigned_item (codes "elements") ds ∷ []) (λ t h. h) (λ n h. h) refl refl (λ w. refl) (assigned_elements ds, tt) (λ w n. tt))
  array_pattern (at shaped.a_target_element) typed e = assigned_array (at shaped.a_target_element) (λ ds. whole_at strict (at shaped.a_target_element) shaped.a_target_element d shape.ArrayAssignmentTarget [] (list assigned_item (codes "elements") ds ∷ []) (λ t h. h) (λ n h. h) refl refl (λ w. refl) (assigned_elements ds, tt) (λ w n. tt))
  array_pattern (at (shaped.a_statement in_module)) typed e = absurd (false≢true e)
  array_pattern (at (shaped.a_key true)) typed e = absurd (false≢true e)
  array_pattern p typed e = absurd (false≢true e)

-- ---- defaults and rests

-- a name before its default
before_default : (strict : Bool) (d : Data) (o : Option Data) (t : Tree) → has_type (codes "AssignmentPattern") d ≡ true → get (codes "left") d ≡ o → ((e : Data) → o ≡ Some e → Named e t) → (s : List ℕ) → is_name_with_default (Some s) d ≡ true → shaped.spelling t ≡ Some (units_of s)
before_default strict d o t typed is known s e =
    let there : is_there_with (is_same_name (Some s)) (get (codes "left") d) ≡ true = sym (ap (λ b. if b then is_there_with (is_same_name (Some s)) (get (codes "left") d) else is_same_name (Some s) d) typed) ∙ e in
    by_left o (sym (ap (is_there_with (is_same_name (Some s))) is) ∙ there) known
  where
    by_left : (v : Option Data) → is_there_with (is_same_name (Some s)) v ≡ true → ((e : Data) → v ≡ Some e → Named e t) → shaped.spelling t ≡ Some (units_of s)
    by_left None f g = absurd (false≢true f)
    by_left (Some x) f g = g x refl s f

bound_name : (strict : Bool) (o : Option Data) (t : Tree) → KnownBelow strict (at shaped.a_pattern) o t → (e : Data) → o ≡ Some e → Named e t
bound_name strict o t k d e = (subst (λ v. KnownBelow strict (at shaped.a_pattern) v t) e k).1

assigned_name : (strict : Bool) (o : Option Data) (t : Tree) → KnownBelow strict (at shaped.a_target_name) o t → (e : Data) → o ≡ Some e → Named e t
assigned_name strict o t k d e = (subst (λ v. KnownBelow strict (at shaped.a_target_name) v t) e k).1

module _ (strict : Bool) (d : Data) where
  pub default : (p : Place) → Typed d (codes "AssignmentPattern") → is_one_of (types_at p) (codes "AssignmentPattern") ≡ true → WholeIf strict p d (pattern.default p d)
  default (at shaped.a_pattern_element) typed e = whole_at strict (at shaped.a_pattern_element) shaped.a_pattern_element d shape.AssignmentPattern [] _ (λ t h. h) (λ n h. h) refl refl (λ w. refl) (λ s t h. h, (λ s n t h. inner_fits n _ h, tt))
      (λ w n. before_default strict d (get (codes "left") d) w.0.0 (typed_has d (codes "AssignmentPattern") (codes "AssignmentPattern") typed) refl (bound_name strict (get (codes "left") d) w.0.0 w.0.1))
  default (at shaped.a_parameter) typed e = whole_at strict (at shaped.a_parameter) shaped.a_parameter d shape.AssignmentPattern [] _ (λ t h. h) (λ n h. h) refl refl (λ w. refl) (λ s t h. h, (λ s n t h. inner_fits n _ h, tt)) (λ w n. tt)
  default (at shaped.a_target_element) typed e = whole_at strict (at shaped.a_target_element) shaped.a_target_element d shape.AssignmentPattern [] (target (codes "left") shaped.an_element_target d ∷ inner (codes "right") shaped.an_expression ∷ []) (λ t h. h) (λ n h. h) refl refl (λ w. refl)
      (target_fits (codes "left") d, (λ s n t h. inner_fits n _ h, tt)) (λ w n. tt)
  default (at shaped.a_named_target) typed e = whole_at strict (at shaped.a_named_target) shaped.a_named_target d shape.AssignmentPattern [] _ (λ t h. h) (λ n h. h) refl refl (λ w. refl) (λ s t h. h, (λ s n t h. inner_fits n _ h, tt))
      (λ w n. before_default strict d (get (codes "left") d) w.0.0 (typed_has d (codes "AssignmentPattern") (codes "AssignmentPattern") typed) refl (assigned_name strict (get (codes "left") d) w.0.0 w.0.1))
  default (at (shaped.a_statement in_module)) typed e = absurd (false≢true e)
  default (at (shaped.a_key true)) typed e = absurd (false≢true e)
  default p typed e = absurd (false≢true e)

  pub rest : (p : Place) → is_one_of (types_at p) (codes "RestElement") ≡ true → WholeIf strict p d (pattern.rest p d)
  rest (at shaped.a_pattern_rest) e = whole_at strict (at shaped.a_pattern_rest) shaped.a_pattern_rest d shape.RestElement [] _ (λ t h. h) (λ n h. h) refl refl (λ w. refl) (λ s t h. h, tt) (λ w n. tt)
  rest (at shaped.a_target_rest) e = whole_at strict (at shaped.a_target_rest) shaped.a_target_rest d shape.RestElement [] (target (codes "argument") shaped.an_element_target d ∷ []) (λ t h. h) (λ n h. h) refl refl (λ w. refl) (target_fits (codes "argument") d, tt) (λ w n. tt)
  rest (at (shaped.a_statement in_module)) e = absurd (false≢true e)
  rest (at (shaped.a_key true)) e = absurd (false≢true e)
  rest p e = absurd (false≢true e)

-- ---- properties

inner_spelled : (strict : Bool) (o : Option Data) (t : Tree) → KnownBelow strict (at (shaped.an_inner_key false)) o t → (d : Data) → o ≡ Some d → Spelled d t
inner_spelled strict o t k d e = (subst (λ v. KnownBelow strict (at (shaped.an_inner_key false)) v t) e k).1

label_spelled : (strict : Bool) (o : Option Data) (t : Tree) → KnownBelow strict (at shaped.a_label) o t → (d : Data) → o ≡ Some d → Spelled d t
label_spelled strict o t k d e = (subst (λ v. KnownBelow strict (at shaped.a_label) v t) e k).1

element_named : (strict : Bool) (o : Option Data) (t : Tree) → KnownBelow strict (at shaped.a_pattern_element) o t → (d : Data) → o ≡ Some d → NamedBefore d t
element_named strict o t k d e = (subst (λ v. KnownBelow strict (at shaped.a_pattern_element) v t) e k).1

target_named : (strict : Bool) (o : Option Data) (t : Tree) → KnownBelow strict (at shaped.a_named_target) o t → (d : Data) → o ≡ Some d → NamedBefore d t
target_named strict o t k d e = (subst (λ v. KnownBelow strict (at shaped.a_named_target) v t) e k).1

module _ (strict : Bool) (d : Data) where
  -- a shorthand property repeats its key, and has no brackets
  bound_property : (shorthand computed : Bool) → (not shorthand || (not computed && repeats_key d)) ≡ true → WholeIf strict (at shaped.a_pattern_property) d (pattern.binding_property shorthand computed)
  bound_property false computed e = whole_at strict (at shaped.a_pattern_property) shaped.a_pattern_property d (shape.BindingProperty false computed) [] (inner_key computed (shaped.an_inner_key false) ∷ child (codes "value") shaped.a_pattern_element ∷ []) (λ t h. h) (λ n h. h) refl refl (λ w. refl)
      (key_fits computed, (λ s t h. h, tt)) (λ w n. tt)
  bound_property true true e = absurd (false≢true e)
  bound_property true false e = whole_at strict (at shaped.a_pattern_property) shaped.a_pattern_property d (shape.BindingProperty true false) [] _ (λ t h. h) (λ n h. h) refl refl
      (λ w. repeated (get (codes "key") d) (get (codes "value") d) w.0.0 w.1.0.0 (inner_spelled strict (get (codes "key") d) w.0.0 w.0.1) (element_named strict (get (codes "value") d) w.1.0.0 w.1.0.1) e) (λ s t h. h, (λ s t h. h, tt)) (λ w n. tt)

  assigned_property : (shorthand computed : Bool) → (not shorthand || (not computed && repeats_key d)) ≡ true → WholeIf strict (at shaped.a_target_property) d (pattern.target_property shorthand computed d)
  assigned_property false computed e = whole_at strict (at shaped.a_target_property) shaped.a_target_property d (shape.AssignmentTargetPropertyProperty computed) [] (inner_key computed (shaped.an_inner_key false) ∷ target (codes "value") shaped.a_target_element d ∷ []) (λ t h. h) (λ n h. h) refl refl (λ w. refl)
      (key_fits computed, (element_fits (codes "value") d, tt)) (λ w n. tt)
  assigned_property true true e = absurd (false≢true e)
  assigned_property true false e = whole_at strict (at shaped.a_target_property) shaped.a_target_property d shape.AssignmentTargetPropertyIdentifier [] _ (λ t h. h) (λ n h. h) refl refl
      (λ w. repeated (get (codes "key") d) (get (codes "value") d) w.0.0 w.1.0.0 (label_spelled strict (get (codes "key") d) w.0.0 w.0.1) (target_named strict (get (codes "value") d) w.1.0.0 w.1.0.1) e) (λ s t h. h, (λ s t h. h, tt)) (λ w n. tt)

  property_by : (p : Place) (binds : Bool) → ((shorthand computed : Bool) → (not shorthand || (not computed && repeats_key d)) ≡ true → WholeIf strict p d (if binds then pattern.binding_property shorthand computed else pattern.target_property shorthand computed d)) → WholeIf strict p d (pattern.pattern_property binds d)
  property_by p binds f = bind_whole strict p d (word_at property_kinds (codes "kind") d) _ (λ k is. bind_whole strict p d (flag_at (codes "method") d) _ (λ is_method m. bind_whole strict p d (flag_at (codes "shorthand") d) _ (λ shorthand s. bind_whole strict p d (flag_at (codes "computed") d) _ (λ computed c.
      require_whole strict p d (is_init k && (not is_method && (not shorthand || (not computed && repeats_key d)))) _ (λ e.
      f shorthand computed (and_parts (not is_method) _ (and_parts (is_init k) (not is_method && (not shorthand || (not computed && repeats_key d))) e).1).1)))))

  pub property : (p : Place) → is_one_of (types_at p) (codes "Property") ≡ true → WholeIf strict p d (pattern.property p d)
  property (at shaped.a_pattern_property) e = property_by (at shaped.a_pattern_property) true bound_property
  property (at shaped.a_target_property) e = property_by (at shaped.a_target_property) false assigned_property
  property (at shaped.an_object_property) e = object_property strict d
  property (at (shaped.a_statement in_module)) e = absurd (false≢true e)
  property (at (shaped.a_key true)) e = absurd (false≢true e)
  property p e = absurd (false≢true e)

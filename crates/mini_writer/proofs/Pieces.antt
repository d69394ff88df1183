-- The plans of templates, of numbers with a minus before them, and of patterns weigh little.
use Rattle.std.proofs.Common.{◌≡◌, ℕ, zero, suc, ◌+◌, ◌-◌, ◌*◌, ◌≤◌, List, [], ◌∷◌, length, refl, ap, sym, ◌∙◌, codes, Bool, true, false, arith}
use Rattle.std.specs.Prelude.{Option, Some, None, option_and_then, if◌then◌else◌, Ok, ℤ}
use Rattle.std.specs.Fmt.{signed_decimal}
use Rattle.serde_json.specs.Data.{Data}
use Rattle.serde_json.specs.Find.{get}
use Rattle.mini_model.specs.declared.operator.UnaryOperator.{UnaryOperator}
use Rattle.mini_model.specs.declared.operator.UnaryOperator.TheVariants.{UnaryNegation}
use Rattle.mini_model.specs.declared.shape.Shape.{Shape}
use Rattle.mini_model.specs.declared.shape.Shape.TheVariants as shape
use Rattle.mini_model.specs.Paths.{append}
use Rattle.mini_model.specs.Tree.{Tree, Trees, none, ◌▸◌, listed, count}
use Rattle.mini_model.specs.declared.place.Position.{Position}
use Rattle.mini_model.specs.Weight.{Outline, outlines, own_weight}
use Rattle.mini_accept.specs.WellShaped as shaped
use Rattle.mini_accept.specs.WellShaped.{Tagging, tagged, untagged}
use Rattle.mini_accept.specs.Places.{Step, field, step_text, Place, at}
use Rattle.mini_accept.specs.Fields.{units_at, flag_at, list_at}
use Rattle.mini_accept.specs.Literals.{with_minus}
use Rattle.mini_accept.specs.Standing.{is_unread}
use Rattle.mini_accept.specs.Words.{word_at, property_kinds, unary_operators}
use Rattle.mini_accept.specs.Plans.{Part, checked, Child, one, many, node_of, child, inner, each, or_hole, or_rest, parts_from, target_part, target}
use Rattle.mini_accept.specs.Expressions as expression
use Rattle.mini_accept.specs.Expressions.{minus_below, unary_plan}
use Rattle.mini_accept.specs.Patterns as pattern
use Rattle.mini_accept.specs.Accept.{Reader, below_by, read_below, read_child, read_children}
use Rattle.mini_accept.proofs.Results.{bind_ok, under_ok}
use Rattle.mini_writer.proofs.Amounts.{amount, found, some_amount, amount_at, amounts_below}
use Rattle.mini_writer.proofs.Loads.{load, loads}
use Rattle.mini_writer.proofs.Written.{own_light, wordy, text_light}
use Rattle.mini_writer.proofs.AcceptedLists.{IsLight, spares, ChildAt, trees_same, outline_count, list_read}
use Rattle.mini_writer.proofs.Plans.{Holds, LightIf, node_bound, plain, leaf_light, bind_light, require_light, either_light, either_at, inner_key_at, target_at, each_item, hole_item, rest_item, target_item, IsItemPart, list_is_at, list_light}
use Rattle.mini_writer.proofs.SizedBodies.{units_within}
use Rattle.mini_writer.proofs.Literals.{safe_light, minus_safe}

-- ---- a number with a minus before it

minus_is : (o : UnaryOperator) (d : Data) (z : ℤ) → minus_below o d ≡ Some z → option_and_then with_minus (get (codes "argument") d) ≡ Some z
minus_is UnaryNegation d z e = e
minus_is o d z e = absurd (cc e)

-- what was read is there, and is no form that isn't read
below_read : (r : Reader) → IsLight r → (strict : Bool) (p : Place) (n : ℕ) (s : Step) (o : Option Data) (x : Tree × ℕ) → below_by r strict p n s o ≡ Ok x → (d : Data) × (o ≡ Some d) × (is_unread strict p d ≡ false)
below_read r light strict p n s None x e = absurd (cc e)
below_read r light strict p n s (Some d) x e = (d, refl, (light.whole strict p n d x (under_ok (step_text s) (r strict p n d) x e)).0)

abbrev minus_child : Child
minus_child = one (checked (field (codes "argument")) (at shaped.an_expression))

minus_bound : (d : Data) (z : ℤ) → option_and_then with_minus (get (codes "argument") d) ≡ Some z → (r : Reader) → IsLight r → (strict : Bool) (n : ℕ) (y : Trees × ℕ) → read_children r strict d n (minus_child ∷ []) ≡ Ok y
    → 2 * length (signed_decimal z) ≤ 18 + (found (get (codes "argument") d) - 28)
minus_bound d z e r light strict n y read =
    let (a, first, after) = bind_ok (read_child r strict d n minus_child) _ y read in
    let (x, below, same) = bind_ok (read_below r strict n d (field (codes "argument")) (at shaped.an_expression)) _ a first in
    let (b, there, is) = below_read r light strict (at shaped.an_expression) n (field (codes "argument")) (get (codes "argument") d) x below in
    let minus : with_minus b ≡ Some z = sym (ap (option_and_then with_minus) there) ∙ e in
    let worth : found (get (codes "argument") d) ≡ amount b = ap found there in
    omega (arith, safe_light z (minus_safe strict b z is minus), worth, some_amount b)

unary_by : (d : Data) (o : UnaryOperator) (m : Option ℤ) → minus_below o d ≡ m → LightIf d 0 (unary_plan o m)
unary_by d o None e = plain d (codes "argument" ∷ []) (shape.UnaryExpression o) _ (refl, tt) refl (λ os. refl)
unary_by d o (Some z) e = record {
  holds = λ r light strict n y read. node_bound d (codes "argument" ∷ []) 0 (record { shape = shape.NumericLiteral z; names = []; children = minus_child ∷ [] }) (refl, tt) refl r light strict n y read
      (omega (arith, minus_bound d z (minus_is o d z e) r light strict n y read));
}

pub unary : (d : Data) → LightIf d 0 (expression.unary d)
unary d = bind_light d 0 (word_at unary_operators (codes "operator") d) _ (λ o x. require_light d 0 _ _ (unary_by d o (minus_below o d) refl))

-- ---- templates

two_lists : (d : Data) (ts us vs : Trees) (m n : ℕ) → ts ≡ listed us ▸ listed vs ▸ none → ((π : Position) → load π (listed us) + 6 * count us + m ≤ 6 + found (get (codes "quasis") d))
    → ((π : Position) → load π (listed vs) + 6 * count vs + n ≤ 6 + found (get (codes "expressions") d))
    → (π : Position) (ω : ℕ → Position) → own_weight π shape.TemplateLiteral [] (outlines ts) + loads ω ts + 3 * 0 + 0 + 15 ≤ amount d
two_lists d ts us vs m n e small others π ω =
    let os = outlines (listed us ▸ listed vs ▸ none) in
    rw e (omega (
      arith,
      own_light (40 + 6 * count vs) π shape.TemplateLiteral [] os (omega (arith, text_light shape.TemplateLiteral [] π os, outline_count vs)),
      small (ω zero),
      others (ω (suc zero)),
      amounts_below (codes "quasis" ∷ codes "expressions" ∷ []) d ((refl, tt), (tt, tt)),
    ))

joined : (a b c y us vs : Trees) → y ≡ append a b → b ≡ append c none → a ≡ listed us ▸ none → c ≡ listed vs ▸ none → y ≡ listed us ▸ listed vs ▸ none
joined a b c y us vs p q e f = p ∙ rw (e, q, f) refl

lists_light : (d : Data) (xs zs : List Part) → ChildAt d (codes "quasis") (many xs) → ChildAt d (codes "expressions") (many zs) → Holds d 0 (record { shape = shape.TemplateLiteral; names = []; children = many xs ∷ many zs ∷ [] })
lists_light d xs zs p q r light strict n y read π ω =
    let (a, first, after) = bind_ok (read_child r strict d n (many xs)) _ y read in
    let (b, rest, same) = bind_ok (read_children r strict d a.1 (many zs ∷ [])) _ y after in
    let (c, second, end) = bind_ok (read_child r strict d a.1 (many zs)) _ b rest in
    let (us, first_is, small) = list_read r light strict d (codes "quasis") n xs a p first in
    let (vs, second_is, others) = list_read r light strict d (codes "expressions") a.1 zs c q second in
    let whole = joined a.0 b.0 c.0 y.0 us vs (trees_same (append a.0 b.0, b.1) y same) (trees_same (append c.0 none, c.1) b end) first_is second_is in
    two_lists d y.0 us vs (spares d xs) (spares d zs) whole small others π ω

quasi_item : (g : Tagging) → IsItemPart (expression.quasi_part g)
quasi_item g last a s = refl

piece_item : (g : Tagging) → IsItemPart (expression.piece_part g)
piece_item tagged last a s = refl
piece_item untagged last a s = refl

lists_if : (d : Data) (xs zs : List Part) → ChildAt d (codes "quasis") (many xs) → ChildAt d (codes "expressions") (many zs) → LightIf d 0 (node_of shape.TemplateLiteral (many xs ∷ many zs ∷ []))
lists_if d xs zs p q = record { holds = lists_light d xs zs p q }

pub template : (g : Tagging) (d : Data) → LightIf d 0 (expression.template g d)
template g d = bind_light d 0 (list_at (codes "quasis") d) _ (λ qs a. bind_light d 0 (list_at (codes "expressions") d) _ (λ es b. require_light d 0 _ _
    (lists_if d (parts_from (expression.quasi_part g) (codes "quasis") 0 qs) (parts_from (expression.piece_part g) (codes "expressions") 0 es)
    (list_is_at d (expression.quasi_part g) (codes "quasis") qs (quasi_item g) a) (list_is_at d (expression.piece_part g) (codes "expressions") es (piece_item g) b))))

pub quasi : (g : Tagging) (d : Data) → LightIf d 0 (expression.quasi g d)
quasi g d = bind_light d 0 (flag_at (codes "tail") d) _ (λ tail x. bind_light d 0 (get (codes "value") d) _ (λ v y. bind_light d 0 (units_at (codes "raw") v) _ (λ raw z. bind_light d 0 (option_and_then expression.cooked_by (get (codes "cooked") v)) _ (λ c w. require_light d 0 _ _
    (leaf_light d (codes "value" ∷ []) (shape.TemplateElement tail raw c) [] refl (λ π os. omega (arith, units_within (codes "raw") v raw z, amount_at (codes "raw") v, ap found y)))))))

-- ---- patterns

module _ (d : Data) where
  properties : (h : Shape) → ((os : List Outline) → wordy h os ≡ 0) → (c : Child) → ChildAt d (codes "properties") c → LightIf d 0 (node_of h (c ∷ []))
  properties h bare c there = plain d (codes "properties" ∷ []) h (c ∷ []) (there, tt) refl bare

  elements : (h : Shape) → ((os : List Outline) → wordy h os ≡ 0) → (c : Child) → ChildAt d (codes "elements") c → LightIf d 0 (node_of h (c ∷ []))
  elements h bare c there = plain d (codes "elements" ∷ []) h (c ∷ []) (there, tt) refl bare

  pub object_pattern : (p : Place) → LightIf d 0 (pattern.object_pattern p d)
  object_pattern p = either_light d 0 (pattern.is_binding p) _ _
      (list_light d 0 (or_rest (each shaped.a_pattern_property) shaped.a_pattern_rest) (codes "properties") _ (rest_item (each shaped.a_pattern_property) shaped.a_pattern_rest (each_item shaped.a_pattern_property)) (properties shape.ObjectPattern (λ os. refl)))
      (list_light d 0 (or_rest (each shaped.a_target_property) shaped.a_target_rest) (codes "properties") _ (rest_item (each shaped.a_target_property) shaped.a_target_rest (each_item shaped.a_target_property)) (properties shape.ObjectAssignmentTarget (λ os. refl)))

  pub array_pattern : (p : Place) → LightIf d 0 (pattern.array_pattern p d)
  array_pattern p = either_light d 0 (pattern.is_binding p) _ _
      (list_light d 0 (or_hole (or_rest (each shaped.a_pattern_element) shaped.a_pattern_rest)) (codes "elements") _
      (hole_item (or_rest (each shaped.a_pattern_element) shaped.a_pattern_rest) (rest_item (each shaped.a_pattern_element) shaped.a_pattern_rest (each_item shaped.a_pattern_element))) (elements shape.ArrayPattern (λ os. refl)))
      (list_light d 0 (or_hole (or_rest (target_part shaped.a_target_element) shaped.a_target_rest)) (codes "elements") _
      (hole_item (or_rest (target_part shaped.a_target_element) shaped.a_target_rest) (rest_item (target_part shaped.a_target_element) shaped.a_target_rest (target_item shaped.a_target_element))) (elements shape.ArrayAssignmentTarget (λ os. refl)))

  key_and_value : (h : Shape) (x y : Child) → ChildAt d (codes "key") x → ChildAt d (codes "value") y → ((os : List Outline) → wordy h os ≡ 0) → LightIf d 0 (node_of h (x ∷ y ∷ []))
  key_and_value h x y p q bare = plain d (codes "key" ∷ codes "value" ∷ []) h (x ∷ y ∷ []) (p, (q, tt)) refl bare

  binding_property : (shorthand computed : Bool) → LightIf d 0 (pattern.binding_property shorthand computed)
  binding_property shorthand computed = key_and_value (shape.BindingProperty shorthand computed) _ _ (inner_key_at d computed (shaped.an_inner_key false)) refl (λ os. refl)

  target_property : (shorthand computed : Bool) → LightIf d 0 (pattern.target_property shorthand computed d)
  target_property true computed = key_and_value shape.AssignmentTargetPropertyIdentifier _ _ refl refl (λ os. refl)
  target_property false computed = key_and_value (shape.AssignmentTargetPropertyProperty computed) _ _ (inner_key_at d computed (shaped.an_inner_key false)) (target_at d (codes "value") shaped.a_target_element) (λ os. refl)

  pub pattern_property : (binds : Bool) → LightIf d 0 (pattern.pattern_property binds d)
  pattern_property binds =
      bind_light d 0 (word_at property_kinds (codes "kind") d) _ (λ k x. bind_light d 0 (flag_at (codes "method") d) _ (λ is_method y. bind_light d 0 (flag_at (codes "shorthand") d) _ (λ shorthand z. bind_light d 0 (flag_at (codes "computed") d) _
      (λ computed w. require_light d 0 _ _ (either_light d 0 binds _ _ (binding_property shorthand computed) (target_property shorthand computed))))))

  pub rest : (p : Place) → LightIf d 0 (pattern.rest p d)
  rest p = plain d (codes "argument" ∷ []) shape.RestElement _ (either_at d (codes "argument") (pattern.is_binding p) (child (codes "argument") shaped.a_pattern) (target (codes "argument") shaped.an_element_target d) refl (target_at d (codes "argument") shaped.an_element_target), tt) refl (λ os. refl)

  left_at : (p : Place) → ChildAt d (codes "left") (if pattern.is_binding p then child (codes "left") shaped.a_pattern else target (codes "left") shaped.an_element_target d)
  left_at p = either_at d (codes "left") (pattern.is_binding p) (child (codes "left") shaped.a_pattern) (target (codes "left") shaped.an_element_target d) refl (target_at d (codes "left") shaped.an_element_target)

  default_left_at : (p : Place) → ChildAt d (codes "left") (pattern.default_left p d)
  default_left_at (at shaped.a_named_target) = refl
  default_left_at p = left_at p

  pub default : (p : Place) → LightIf d 0 (pattern.default p d)
  default p = plain d (codes "left" ∷ codes "right" ∷ []) shape.AssignmentPattern (pattern.default_left p d ∷ inner (codes "right") shaped.an_expression ∷ []) (default_left_at p, (refl, tt)) refl (λ os. refl)

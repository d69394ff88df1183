-- What the rewrites of spellings write is what a row says, and where they write nothing no row reads the expression.
use Rattle.std.proofs.Common.{◌≡◌, ℕ, zero, Bool, true, false, List, [], ◌∷◌, Option, Some, None, refl, sym, ap, subst, ◌∙◌, inl, inr, suc}
use Rattle.std.specs.Prelude.{◌⊎◌, ◌&&◌, nat_le, length, is_none, codes, ℤ, if◌then◌else◌, pos, negsuc}
use Rattle.std.specs.Fmt.{signed_decimal}
use Rattle.std.proofs.lemmas.Bool.{and_parts}
use Rattle.mini_model.specs.Texts.{is_identifier_name}
use Rattle.mini_model.specs.Numerals.{IsSafe, safe_number}
use Rattle.mini_model.proofs.Safe.{text_of_number, number_of_text}
use Rattle.mini_model.specs.declared.name.Name.{Name}
use Rattle.mini_model.specs.declared.name.SymbolId.{SymbolId}
use Rattle.mini_model.specs.declared.operator.AssignmentOperator.{AssignmentOperator}
use Rattle.mini_model.specs.declared.operator.BinaryOperator.{BinaryOperator}
use Rattle.mini_model.specs.declared.operator.BinaryOperator.TheVariants.{Equality, Inequality}
use Rattle.mini_model.specs.declared.operator.UnaryOperator.{UnaryOperator}
use Rattle.mini_model.specs.declared.operator.UnaryOperator.TheVariants.{Typeof}
use Rattle.mini_model.specs.declared.operator.UpdateOperator.{UpdateOperator}
use Rattle.mini_model.specs.declared.place.Position.TheVariants.{Expr}
use Rattle.mini_model.specs.declared.seat.Seat.{Seat}
use Rattle.mini_model.specs.declared.shape.Shape.TheVariants as shape
use Rattle.mini_model.specs.Tree.{Tree, shape_of, node, none, ◌▸◌, absent, identifier, unresolved, unary, null_literal}
use Rattle.mini_model.specs.Position.{is_equality}
use Rattle.mini_node.specs.Children.{part}
use Rattle.mini_node.specs.Kinds.{boolean as boolean_of, string, unary_operator, binary_operator, assignment_operator, number}
use Rattle.mini_node.specs.Made.{boolean_is, string_is, unary_is, binary_is, assignment_is, number_is}
use Rattle.mini_rows.specs.Spellings.{numeral, text, template, Row19, key, boolean, binary, assignment, update, computed_member, static_member, yields, void_zero, negated_digit, IsLoose, plain, Row65, Row33, Row33Assigned, Row33Updated, Row58Left, Row58Right, Row54, Row60Yield, ordered, strict_operator, typeof_name, Row55, Row55Value, SpellingRow, ShortBoolean, DottedMember, DottedTarget, DottedUpdate, LooseLeft, LooseRight, SwappedEquality, BareYield, OrderedTypeof, PlainTemplate, ComparedWithVoid, Stepped, Row36, amount, subtracts, steps}
use Rattle.mini_syntax.specs.Forms.{first_of, is_undefined, is_plain, is_text_template}
use Rattle.mini_syntax.specs.SubstituteBoolean as substituted
use Rattle.mini_syntax.specs.ConvertToDottedProperties as dotted
use Rattle.mini_syntax.specs.ConvertToDottedProperties.{turned, is_name_text, named_member, numbered_member, as_name, update_operator}
use Rattle.mini_syntax.specs.MinimizeAssignmentToUpdateExpression as stepping
use Rattle.mini_syntax.specs.SubstituteLooseEqualsUndefined as loose
use Rattle.mini_syntax.specs.SubstituteSwapBinaryExpressions as swap
use Rattle.mini_syntax.specs.SubstituteTemplateLiteral as templates
use Rattle.mini_syntax.specs.SubstituteTypeofUndefined as typeof
use Rattle.mini_syntax.specs.SubstituteTypeofValue as by_value
use Rattle.mini_syntax.specs.SubstituteTypeofValue.{is_typeof, is_undefined_text}
use Rattle.mini_terms.specs.Reading.{is_typed_by_value}
use Rattle.mini_syntax.specs.SubstituteYieldExpression as yielding
use Rattle.mini_syntax.specs.Spelled as law
use Rattle.mini_syntax.specs.Spelled.{equality_written, written}
use Rattle.mini_syntax.proofs.FormsAre.{same_texts, void_zero_is, undefined_is, undefined_passes, template_told, plain_is, plain_passes, ready_is, ready_passes}
use Rattle.mini_model.specs.declared.operator.UpdateOperator.TheVariants.{Decrement, Increment}
use Rattle.mini_model.specs.declared.operator.AssignmentOperator.TheVariants.{Subtraction}

some_is : {A : Type 0} (x y : A) → Some x ≡ Some y → x ≡ y
some_is x y e = cc e

-- 65

pub boolean_follows : (t w : Tree) → substituted.written t ≡ Some w → Row65 t w
boolean_follows t w e = go (boolean_of t) refl e
  where
    go : (o : Option Bool) → boolean_of t ≡ o → substituted.digit_of o ≡ Some w → Row65 t w
    go (Some b) h e = record { value = b; shape = boolean_is t b h; written = sym (some_is (negated_digit b) w e) }
    go None h e = absurd (cc e)

-- 33

named_follows : (t : Tree) (b : Bool) → named_member t ≡ Some b → Row33 t (dotted.dotted b t)
named_follows (node (shape.ComputedMemberExpression c) [] zero (o ▸ k ▸ none)) b e = go (string k) refl e
  where
    named : (s : List ℕ) → string k ≡ Some s → (y : Bool) → is_identifier_name s ≡ y → (if y then Some c else None) ≡ Some b → Row33 (computed_member c o k) (static_member b o (as_name k))
    named s h true y e = inl (record {
      is_optional = c;
      object = o;
      name = s;
      is_name = y;
      shape = ap (computed_member c o) (string_is k s h);
      written = ap (λ x. static_member x o (as_name k)) (sym (some_is c b e)) ∙ ap (λ x. static_member c o (as_name x)) (string_is k s h);
    })
    named s h false y e = absurd (cc e)

    go : (x : Option (List ℕ)) → string k ≡ x → (if is_name_text x then Some c else None) ≡ Some b → Row33 (computed_member c o k) (static_member b o (as_name k))
    go (Some s) h e = named s h (is_identifier_name s) refl e
    go None h e = absurd (cc e)
named_follows t b e = absurd (cc e)

numbered_follows : (t : Tree) (n : ℤ) → numbered_member t ≡ Some n → Row33 t (dotted.numbered n t)
numbered_follows (node (shape.ComputedMemberExpression false) [] zero (o ▸ k ▸ none)) n e = go (string k) refl e
  where
    go : (x : Option (List ℕ)) → string k ≡ x → dotted.number_of_text x ≡ Some n → Row33 (computed_member false o k) (computed_member false o (numeral n))
    go (Some s) h e =
        let (safe, spelled) = text_of_number s n e in
        inr (record { object = o; number = n; is_safe = safe; shape = ap (computed_member false o) (string_is k s h ∙ ap text spelled); written = refl })
    go None h e = absurd (cc e)
numbered_follows t n e = absurd (cc e)

pub turned_follows : (t w : Tree) → turned t ≡ Some w → Row33 t w
turned_follows t w e = go (named_member t) (numbered_member t) refl refl e
  where
    go : (b : Option Bool) (n : Option ℤ) → named_member t ≡ b → numbered_member t ≡ n → dotted.turned_by b n t ≡ Some w → Row33 t w
    go (Some b) n h k e = subst (Row33 t) (some_is (dotted.dotted b t) w e) (named_follows t b h)
    go None (Some n) h k e = subst (Row33 t) (some_is (dotted.numbered n t) w e) (numbered_follows t n k)
    go None None h k e = absurd (cc e)

abbrev by_text : Tree → List ℕ → Tree
by_text o s = computed_member false o (text s)

number_misses : (o : Tree) (n : ℤ) → IsSafe n → turned (by_text o (signed_decimal n)) ≡ None → ⊥
number_misses o n safe e = go (is_identifier_name (signed_decimal n)) refl
  where
    step : (c : Bool) → is_identifier_name (signed_decimal n) ≡ c → turned (by_text o (signed_decimal n)) ≡ dotted.turned_by (if c then Some false else None) (Some n) (by_text o (signed_decimal n))
    step c h = ap (λ b. dotted.turned_by (if b then Some false else None) (safe_number (signed_decimal n)) (by_text o (signed_decimal n))) h ∙ ap (λ x. dotted.turned_by (if c then Some false else None) x (by_text o (signed_decimal n))) (number_of_text (signed_decimal n) n (safe, refl))

    go : (c : Bool) → is_identifier_name (signed_decimal n) ≡ c → ⊥
    go true h = absurd (cc (sym (step true h) ∙ e))
    go false h = absurd (cc (sym (step false h) ∙ e))

pub turned_misses : (t w : Tree) → Row33 t w → turned t ≡ None → ⊥
turned_misses t w (inl r) e =
    let named : turned (computed_member r.is_optional r.object (text r.name)) ≡ Some (static_member r.is_optional r.object (key r.name)) = ap (λ c. dotted.turned_by (if c then Some r.is_optional else None) (numbered_member (computed_member r.is_optional r.object (text r.name))) (computed_member r.is_optional r.object (text r.name))) r.is_name in
    absurd (cc (sym named ∙ sym (ap turned r.shape) ∙ e))
turned_misses t w (inr r) e = number_misses r.object r.number r.is_safe (sym (ap turned r.shape) ∙ e)

module _ (t : Tree) where
  pub assigned_follows : (w : Tree) → dotted.assigned t ≡ Some w → Row33Assigned t w
  assigned_follows w e = go (assignment_operator t) (turned (part t 0)) refl refl e
    where
      go : (o : Option AssignmentOperator) (m : Option Tree) → assignment_operator t ≡ o → turned (part t 0) ≡ m → dotted.assigned_by o m t ≡ Some w → Row33Assigned t w
      go (Some o) (Some m) h k e = record { operator = o; target = part t 0; turned = m; value = part t 1; member = turned_follows (part t 0) m k; shape = assignment_is t o h; written = sym (some_is (assignment o m (part t 1)) w e) }
      go (Some o) None h k e = absurd (cc e)
      go None m h k e = absurd (cc e)

update_is : (t : Tree) (o : UpdateOperator) (l : Bool) → update_operator t ≡ Some (o, l) → t ≡ update o l (part t 0)
update_is (node (shape.UpdateExpression p m) [] zero (a ▸ none)) o l e = ap (λ x. update x.0 x.1 a) (some_is (p, m) (o, l) e)
update_is t o l e = absurd (cc e)

pub updated_follows : (t w : Tree) → dotted.updated t ≡ Some w → Row33Updated t w
updated_follows t w e = go (update_operator t) (turned (part t 0)) refl refl e
  where
    go : (o : Option (UpdateOperator × Bool)) (m : Option Tree) → update_operator t ≡ o → turned (part t 0) ≡ m → dotted.updated_by o m ≡ Some w → Row33Updated t w
    go (Some (o, l)) (Some m) h k e = record { operator = o; is_prefix = l; target = part t 0; turned = m; member = turned_follows (part t 0) m k; shape = update_is t o l h; written = sym (some_is (update o l m) w e) }
    go (Some o) None h k e = absurd (cc e)
    go None m h k e = absurd (cc e)

-- 58

loose_follows : (o : BinaryOperator) → loose.is_loose o ≡ true → IsLoose o
loose_follows Equality e = inl refl
loose_follows Inequality e = inr refl
loose_follows o e = absurd (cc e)

loose_passes : (o : BinaryOperator) → IsLoose o → loose.is_loose o ≡ true
loose_passes o (inl h) = ap loose.is_loose h
loose_passes o (inr h) = ap loose.is_loose h

loose_is : (t : Tree) (o : BinaryOperator) → loose.loose_operator t ≡ Some o → (t ≡ binary o (part t 0) (part t 1)) × IsLoose o
loose_is t o e = go (binary_operator t) refl e
  where
    by : (p : BinaryOperator) → binary_operator t ≡ Some p → (c : Bool) → loose.is_loose p ≡ c → (if c then Some p else None) ≡ Some o → (t ≡ binary o (part t 0) (part t 1)) × IsLoose o
    by p h true l e = let same = some_is p o e in (binary_is t p h ∙ ap (λ q. binary q (part t 0) (part t 1)) same, subst IsLoose same (loose_follows p l))
    by p h false l e = absurd (cc e)

    go : (x : Option BinaryOperator) → binary_operator t ≡ x → loose.loose_in x ≡ Some o → (t ≡ binary o (part t 0) (part t 1)) × IsLoose o
    go (Some p) h e = by p h (loose.is_loose p) refl e
    go None h e = absurd (cc e)

pub loose_row : (t w : Tree) → loose.written t ≡ Some w → Row58Left t w ⊎ Row58Right t w
loose_row t w e = go (loose.loose_operator t) refl e
  where
    by : (o : BinaryOperator) → loose.loose_operator t ≡ Some o → (a b : Bool) → is_undefined (part t 0) ≡ a → is_undefined (part t 1) ≡ b → (if a then Some (binary o null_literal (part t 1)) else (if b then Some (binary o (part t 0) null_literal) else None)) ≡ Some w → Row58Left t w ⊎ Row58Right t w
    by o h true b f g e = inl (record { operator = o; left = part t 0; right = part t 1; loose = (loose_is t o h).1; undefined = undefined_is (part t 0) f; shape = (loose_is t o h).0; written = sym (some_is (binary o null_literal (part t 1)) w e) })
    by o h false true f g e = inr (record { operator = o; left = part t 0; right = part t 1; loose = (loose_is t o h).1; undefined = undefined_is (part t 1) g; shape = (loose_is t o h).0; written = sym (some_is (binary o (part t 0) null_literal) w e) })
    by o h false false f g e = absurd (cc e)

    go : (x : Option BinaryOperator) → loose.loose_operator t ≡ x → loose.written_by x (part t 0) (part t 1) ≡ Some w → Row58Left t w ⊎ Row58Right t w
    go (Some o) h e = by o h (is_undefined (part t 0)) (is_undefined (part t 1)) refl refl e
    go None h e = absurd (cc e)

-- where nothing is written, neither side is undefined
pub unwritten_sides : (o : BinaryOperator) (a b : Tree) → IsLoose o → loose.written (binary o a b) ≡ None → (is_undefined a ≡ false) × (is_undefined b ≡ false)
unwritten_sides o a b l e = go (is_undefined a) (is_undefined b) refl refl
  where
    step : loose.written (binary o a b) ≡ loose.written_by (Some o) a b
    step = ap (λ c. loose.written_by (if c then Some o else None) a b) (loose_passes o l)

    go : (x y : Bool) → is_undefined a ≡ x → is_undefined b ≡ y → (is_undefined a ≡ false) × (is_undefined b ≡ false)
    go true y f g = absurd (cc (sym (ap (λ c. if c then Some (binary o null_literal b) else (if is_undefined b then Some (binary o a null_literal) else None)) f) ∙ sym step ∙ e))
    go false true f g = absurd (cc (sym (ap (λ c. if c then Some (binary o null_literal b) else (if is_undefined b then Some (binary o a null_literal) else None)) f ∙ ap (λ c. if c then Some (binary o a null_literal) else None) g) ∙ sym step ∙ e))
    go false false f g = (f, g)

-- 54

pub swap_row : (t w : Tree) → swap.written t ≡ Some w → Row54 t w
swap_row t w e = go (binary_operator t) refl e
  where
    by : (o : BinaryOperator) → binary_operator t ≡ Some o → (c : Bool) → (is_equality o && (is_plain (part t 0) && swap.is_ready (part t 1))) ≡ c → swap.written_by (if c then Some o else None) (part t 0) (part t 1) ≡ Some w → Row54 t w
    by o h true f e =
        let (equality, sides) = and_parts (is_equality o) (is_plain (part t 0) && swap.is_ready (part t 1)) f in
        let (left, right) = and_parts (is_plain (part t 0)) (swap.is_ready (part t 1)) sides in
        let form = plain_is (part t 0) left in
        record {
          operator = o;
          left = form.0;
          right = part t 1;
          equality = equality;
          ready = (ready_is (part t 1) right).0;
          outer = (ready_is (part t 1) right).1;
          shape = binary_is t o h ∙ ap (λ a. binary o a (part t 1)) form.1;
          written = sym (some_is (binary o (part t 1) (part t 0)) w e) ∙ ap (binary o (part t 1)) form.1;
        }
    by o h false f e = absurd (cc e)

    go : (x : Option BinaryOperator) → binary_operator t ≡ x → swap.written_by (swap.swapped_in x (part t 0) (part t 1)) (part t 0) (part t 1) ≡ Some w → Row54 t w
    go (Some o) h e = by o h (is_equality o && (is_plain (part t 0) && swap.is_ready (part t 1))) refl e
    go None h e = absurd (cc e)

pub swap_misses : (t w : Tree) → Row54 t w → swap.written t ≡ None → ⊥
swap_misses t w r e =
    let swaps : (is_equality r.operator && (is_plain (plain r.left) && swap.is_ready r.right)) ≡ true = ap (λ c. c && (is_plain (plain r.left) && swap.is_ready r.right)) r.equality ∙ ap (λ c. c && swap.is_ready r.right) (plain_passes r.left) ∙ ready_passes r.right r.ready r.outer in
    let step : swap.written (binary r.operator (plain r.left) r.right) ≡ Some (binary r.operator r.right (plain r.left)) = ap (λ c. swap.written_by (if c then Some r.operator else None) (plain r.left) r.right) swaps in
    absurd (cc (sym step ∙ sym (ap swap.written r.shape) ∙ e))

-- 55

abbrev named : List ℕ → Option SymbolId → Name
named s o = record { spelling = s; symbol = o }

no_symbol : (o : Option SymbolId) → is_none o ≡ true → o ≡ None
no_symbol None e = refl
no_symbol (Some i) e = absurd (cc e)

unresolved_is : (t : Tree) → typeof.is_unresolved t ≡ true → (s : List ℕ) × (t ≡ identifier (unresolved s))
unresolved_is (node shape.Identifier (x ∷ []) zero none) e = (x.spelling, ap (λ o. identifier (named x.spelling o)) (no_symbol x.symbol e))
unresolved_is t e = absurd (cc e)

typeof_name_is : (t : Tree) → typeof.is_typeof_name t ≡ true → (s : List ℕ) × (t ≡ typeof_name s)
typeof_name_is t e = let (over, operand) = and_parts (is_typeof (unary_operator t)) (typeof.is_unresolved (part t 0)) e in go (unary_operator t) refl over (unresolved_is (part t 0) operand)
  where
    go : (o : Option UnaryOperator) → unary_operator t ≡ o → is_typeof o ≡ true → (s : List ℕ) × (part t 0 ≡ identifier (unresolved s)) → (s : List ℕ) × (t ≡ typeof_name s)
    go (Some Typeof) h v (s, is) = (s, unary_is t Typeof h ∙ ap (unary Typeof) is)
    go (Some o) h v z = absurd (cc v)
    go None h v z = absurd (cc v)

undefined_text_is : (t : Tree) (o : Option (List ℕ)) → string t ≡ o → is_undefined_text o ≡ true → t ≡ text (codes "undefined")
undefined_text_is t (Some s) h e = string_is t s h ∙ ap text (same_texts s (codes "undefined") e)
undefined_text_is t None h e = absurd (cc e)

-- `typeof` of what it reads by its value
typeof_value_is : (t : Tree) → by_value.is_typeof_value t ≡ true → (t ≡ unary Typeof (part t 0)) × (is_typed_by_value (part t 0) ≡ true)
typeof_value_is t e = let (over, operand) = and_parts (is_typeof (unary_operator t)) (is_typed_by_value (part t 0)) e in go (unary_operator t) refl over operand
  where
    go : (o : Option UnaryOperator) → unary_operator t ≡ o → is_typeof o ≡ true → is_typed_by_value (part t 0) ≡ true → (t ≡ unary Typeof (part t 0)) × (is_typed_by_value (part t 0) ≡ true)
    go (Some Typeof) h v k = (unary_is t Typeof h, k)
    go (Some o) h v k = absurd (cc v)
    go None h v k = absurd (cc v)

pub value_row : (t w : Tree) → by_value.written t ≡ Some w → Row55Value t w
value_row t w e = go (binary_operator t) refl (by_value.is_typeof_value (part t 0) && is_undefined_text (string (part t 1))) refl e
  where
    by : (o : BinaryOperator) → binary_operator t ≡ Some o → (by_value.is_typeof_value (part t 0) && is_undefined_text (string (part t 1))) ≡ true → (c : Bool) → is_equality o ≡ c → by_value.written_by (if c then Some (strict_operator o) else None) (part (part t 0) 0) ≡ Some w → Row55Value t w
    by o h f true k e =
        let (typed, name) = and_parts (by_value.is_typeof_value (part t 0)) (is_undefined_text (string (part t 1))) f in
        let x = typeof_value_is (part t 0) typed in
        record {
          operator = o;
          operand = part (part t 0) 0;
          equality = k;
          value = x.1;
          shape = binary_is t o h ∙ ap (λ a. binary o a (part t 1)) x.0 ∙ ap (binary o (unary Typeof (part (part t 0) 0))) (undefined_text_is (part t 1) (string (part t 1)) refl name);
          written = sym (some_is (binary (strict_operator o) (part (part t 0) 0) void_zero) w e);
        }
    by o h f false k e = absurd (cc e)

    go : (x : Option BinaryOperator) → binary_operator t ≡ x → (b : Bool) → (by_value.is_typeof_value (part t 0) && is_undefined_text (string (part t 1))) ≡ b → by_value.written_by (by_value.strict_in x b) (part (part t 0) 0) ≡ Some w → Row55Value t w
    go (Some o) h true f e = by o h f (is_equality o) refl e
    go (Some o) h false f e = absurd (cc e)
    go None h b f e = absurd (cc e)

order_row : (t w : Tree) (o : BinaryOperator) → typeof.order t ≡ Some o → binary o (part t 0) (text (codes "u")) ≡ w → Row55 t w
order_row t w p e made = go (binary_operator t) refl (typeof.is_typeof_name (part t 0) && is_undefined_text (string (part t 1))) refl e
  where
    by : (o : BinaryOperator) → binary_operator t ≡ Some o → (typeof.is_typeof_name (part t 0) && is_undefined_text (string (part t 1))) ≡ true → (c : Bool) → is_equality o ≡ c → (if c then Some (ordered o) else None) ≡ Some p → Row55 t w
    by o h f true k e =
        let (typed, name) = and_parts (typeof.is_typeof_name (part t 0)) (is_undefined_text (string (part t 1))) f in
        let x = typeof_name_is (part t 0) typed in
        record {
          operator = o;
          name = x.0;
          equality = k;
          shape = binary_is t o h ∙ ap (λ a. binary o a (part t 1)) x.1 ∙ ap (binary o (typeof_name x.0)) (undefined_text_is (part t 1) (string (part t 1)) refl name);
          written = sym made ∙ ap (λ q. binary q (part t 0) (text (codes "u"))) (sym (some_is (ordered o) p e)) ∙ ap (λ a. binary (ordered o) a (text (codes "u"))) x.1;
        }
    by o h f false k e = absurd (cc e)

    go : (x : Option BinaryOperator) → binary_operator t ≡ x → (b : Bool) → (typeof.is_typeof_name (part t 0) && is_undefined_text (string (part t 1))) ≡ b → typeof.order_in x b ≡ Some p → Row55 t w
    go (Some o) h true f e = by o h f (is_equality o) refl e
    go (Some o) h false f e = absurd (cc e)
    go None h b f e = absurd (cc e)

pub typeof_row : (t w : Tree) → typeof.written t ≡ Some w → Row55 t w ⊎ Row55Value t w
typeof_row t w e = go (typeof.order t) refl e
  where
    go : (x : Option BinaryOperator) → typeof.order t ≡ x → typeof.written_by x (part t 0) (by_value.written t) ≡ Some w → Row55 t w ⊎ Row55Value t w
    go (Some o) h e = inl (order_row t w o h (some_is (binary o (part t 0) (text (codes "u"))) w e))
    go None h e = inr (value_row t w e)

pub typeof_misses : (t w : Tree) → Row55 t w → typeof.written t ≡ None → ⊥
typeof_misses t w r e =
    let long : Tree = binary r.operator (typeof_name r.name) (text (codes "undefined")) in
    let step : typeof.written long ≡ Some (binary (ordered r.operator) (typeof_name r.name) (text (codes "u"))) = ap (λ c. typeof.written_by (if c then Some (ordered r.operator) else None) (typeof_name r.name) (by_value.written long)) r.equality in
    absurd (cc (sym step ∙ sym (ap typeof.written r.shape) ∙ e))

-- where nothing is written, nothing is written of what is read by its value
no_value : (t : Tree) → typeof.written t ≡ None → by_value.written t ≡ None
no_value t e = go (typeof.order t) e
  where
    go : (x : Option BinaryOperator) → typeof.written_by x (part t 0) (by_value.written t) ≡ None → by_value.written t ≡ None
    go (Some o) e = absurd (cc e)
    go None e = e

pub value_unwritten : (t w : Tree) → Row55Value t w → by_value.written t ≡ None → ⊥
value_unwritten t w r e =
    let long : Tree = binary r.operator (unary Typeof r.operand) (text (codes "undefined")) in
    let step : by_value.written long ≡ Some (binary (strict_operator r.operator) r.operand void_zero) = ap (λ b. by_value.written_by (by_value.strict_in (Some r.operator) (b && true)) r.operand) r.value ∙ ap (λ c. by_value.written_by (if c then Some (strict_operator r.operator) else None) r.operand) r.equality in
    absurd (cc (sym step ∙ sym (ap by_value.written r.shape) ∙ e))

pub value_misses : (t w : Tree) → Row55Value t w → typeof.written t ≡ None → ⊥
value_misses t w r e = value_unwritten t w r (no_value t e)

-- 36

amount_is : (o : UpdateOperator) (t : Tree) → stepping.step_in (number t) ≡ Some o → t ≡ amount o
amount_is o t e = go (number t) refl e
  where
    go : (n : Option ℤ) → number t ≡ n → stepping.step_in n ≡ Some o → t ≡ amount o
    go (Some (pos (suc zero))) h e = number_is t (pos 1) h ∙ ap amount {x = Decrement} {y = o} (cc e)
    go (Some (negsuc zero)) h e = number_is t (negsuc 0) h ∙ ap amount {x = Increment} {y = o} (cc e)
    go n h e = absurd (cc e)

subtracts_is : (o : UpdateOperator) (t : Tree) → stepping.step_of t ≡ Some o → t ≡ subtracts o (part t 0)
subtracts_is o t e = go (assignment_operator t) refl e
  where
    go : (a : Option AssignmentOperator) → assignment_operator t ≡ a → (if stepping.is_subtraction a then stepping.step_in (number (part t 1)) else None) ≡ Some o → t ≡ subtracts o (part t 0)
    go (Some Subtraction) h e = assignment_is t Subtraction h ∙ ap (assignment Subtraction (part t 0)) (amount_is o (part t 1) e)
    go a h e = absurd (cc e)

pub step_row : (n w : Tree) → stepping.written n ≡ Some w → Row36 n w
step_row n w e = go (stepping.step_of n) refl e
  where
    go : (x : Option UpdateOperator) → stepping.step_of n ≡ x → stepping.written_by x n ≡ Some w → Row36 n w
    go (Some o) h e = record { operator = o; target = part n 0; shape = subtracts_is o n h; written = sym (some_is (steps o (part n 0)) w e) }
    go None h e = absurd (cc e)

pub step_misses : (n w : Tree) → Row36 n w → stepping.written n ≡ None → ⊥
step_misses n w r e = by r.operator (sym (ap stepping.written r.shape) ∙ e)
  where
    by : (o : UpdateOperator) → stepping.written (subtracts o r.target) ≡ None → ⊥
    by Decrement e = absurd (cc e)
    by Increment e = absurd (cc e)

-- 60

yield_is : (t : Tree) → yielding.yields_void_zero t ≡ true → t ≡ yields void_zero
yield_is (node (shape.YieldExpression false) [] zero (a ▸ none)) e = ap yields (void_zero_is a e)
yield_is t e = absurd (cc e)

pub yield_row : (t w : Tree) → yielding.written t ≡ Some w → Row60Yield t w
yield_row t w e = go (yielding.yields_void_zero t) refl e
  where
    go : (c : Bool) → yielding.yields_void_zero t ≡ c → (if c then Some (yields absent) else None) ≡ Some w → Row60Yield t w
    go true h e = record { shape = yield_is t h; written = sym (some_is (yields absent) w e) }
    go false h e = absurd (cc e)

-- 19

pub template_row : (t w : Tree) → templates.written t ≡ Some w → Row19 t w
template_row t w e = go (is_text_template t) refl e
  where
    over : (l : Bool) (raw s : List ℕ) → t ≡ template l raw s → (c : Bool) → nat_le (length s) (length raw) ≡ c → (if c then Some (text s) else None) ≡ Some w → Row19 t w
    over l raw s is true h e = record { is_tail = l; raw = raw; content = s; shorter = h; shape = is; written = sym (some_is (text s) w e) }
    over l raw s is false h e = absurd (cc e)

    told : (l : Bool) × ((raw : List ℕ) × ((s : List ℕ) × (t ≡ template l raw s))) → templates.piece_text (shape_of (part (part t 0) 0)) ≡ Some w → Row19 t w
    told (l, (raw, (s, is))) e = over l raw s is (nat_le (length s) (length raw)) refl (sym (ap (λ x. templates.piece_text (shape_of (part (part x 0) 0))) is) ∙ e)

    go : (b : Bool) → is_text_template t ≡ b → (if b then templates.piece_text (shape_of (part (part t 0) 0)) else None) ≡ Some w → Row19 t w
    go true h e = told (template_told t h) e
    go false h e = absurd (cc e)

pub template_misses : (l : Bool) (raw s : List ℕ) → nat_le (length s) (length raw) ≡ true → templates.written (template l raw s) ≡ None → ⊥
template_misses l raw s h e = absurd (cc (sym (ap (λ b. if b then Some (text s) else None) h) ∙ e))

-- all

first_is : {A : Type 0} (a b : Option A) (x : A) → first_of a b ≡ Some x → (a ≡ Some x) ⊎ (b ≡ Some x)
first_is (Some y) b x e = inl e
first_is None b x e = inr e

none_first : {A : Type 0} (a b : Option A) → first_of a b ≡ None → (a ≡ None) × (b ≡ None)
none_first None b e = (refl, e)
none_first (Some y) b e = absurd (cc e)

of_assignment : (s : Seat) (n w : Tree) → (stepping.written n ≡ Some w) ⊎ (dotted.assigned n ≡ Some w) → SpellingRow (Expr s) n w
of_assignment s n w (inl e) = Stepped (step_row n w e)
of_assignment s n w (inr e) = DottedTarget (assigned_follows n w e)

of_loose : (s : Seat) (n w : Tree) → Row58Left n w ⊎ Row58Right n w → SpellingRow (Expr s) n w
of_loose s n w (inl r) = LooseLeft r
of_loose s n w (inr r) = LooseRight r

of_equality : (s : Seat) (n w : Tree) → (loose.written n ≡ Some w) ⊎ (swap.written n ≡ Some w) → SpellingRow (Expr s) n w
of_equality s n w (inl e) = of_loose s n w (loose_row n w e)
of_equality s n w (inr e) = SwappedEquality (swap_row n w e)

of_typeof : (s : Seat) (n w : Tree) → Row55 n w ⊎ Row55Value n w → SpellingRow (Expr s) n w
of_typeof s n w (inl r) = OrderedTypeof r
of_typeof s n w (inr r) = ComparedWithVoid r

of_binary : (s : Seat) (n w : Tree) → (typeof.written n ≡ Some w) ⊎ (equality_written n ≡ Some w) → SpellingRow (Expr s) n w
of_binary s n w (inl e) = of_typeof s n w (typeof_row n w e)
of_binary s n w (inr e) = of_equality s n w (first_is (loose.written n) (swap.written n) w e)

pub written_is_row : law.WrittenIsRow
written_is_row s (node (shape.BooleanLiteral b) xs n ts) w e = ShortBoolean (boolean_follows (node (shape.BooleanLiteral b) xs n ts) w e)
written_is_row s (node (shape.ComputedMemberExpression o) xs n ts) w e = DottedMember (turned_follows (node (shape.ComputedMemberExpression o) xs n ts) w e)
written_is_row s (node (shape.AssignmentExpression o) xs n ts) w e = of_assignment s (node (shape.AssignmentExpression o) xs n ts) w (first_is (stepping.written (node (shape.AssignmentExpression o) xs n ts)) (dotted.assigned (node (shape.AssignmentExpression o) xs n ts)) w e)
written_is_row s (node (shape.UpdateExpression o l) xs n ts) w e = DottedUpdate (updated_follows (node (shape.UpdateExpression o l) xs n ts) w e)
written_is_row s (node (shape.BinaryExpression o) xs n ts) w e = of_binary s (node (shape.BinaryExpression o) xs n ts) w (first_is (typeof.written (node (shape.BinaryExpression o) xs n ts)) (equality_written (node (shape.BinaryExpression o) xs n ts)) w e)
written_is_row s (node (shape.YieldExpression d) xs n ts) w e = BareYield (yield_row (node (shape.YieldExpression d) xs n ts) w e)
written_is_row s (node shape.TemplateLiteral xs n ts) w e = PlainTemplate (template_row (node shape.TemplateLiteral xs n ts) w e)
written_is_row s (node h xs n ts) w e = absurd (cc e)

-- what is written for a node whose form is told
unwritten : (n m : Tree) → n ≡ m → written n ≡ None → written m ≡ None
unwritten n m e h = sym (ap written e) ∙ h

assigned_misses : (n w : Tree) → Row33Assigned n w → written n ≡ None → ⊥
assigned_misses n w r e = let long : Tree = assignment r.operator r.target r.value in go (turned r.target) refl (none_first (stepping.written long) (dotted.written long) (unwritten n long r.shape e)).1
  where
    go : (m : Option Tree) → turned r.target ≡ m → dotted.assigned_by (Some r.operator) (turned r.target) (assignment r.operator r.target r.value) ≡ None → ⊥
    go None h e = turned_misses r.target r.turned r.member h
    go (Some m) h e = absurd (cc (sym (ap (λ x. dotted.assigned_by (Some r.operator) x (assignment r.operator r.target r.value)) h) ∙ e))

updated_misses : (n w : Tree) → Row33Updated n w → written n ≡ None → ⊥
updated_misses n w r e = go (turned r.target) refl (unwritten n (update r.operator r.is_prefix r.target) r.shape e)
  where
    go : (m : Option Tree) → turned r.target ≡ m → dotted.updated_by (Some (r.operator, r.is_prefix)) (turned r.target) ≡ None → ⊥
    go None h e = turned_misses r.target r.turned r.member h
    go (Some m) h e = absurd (cc (sym (ap (dotted.updated_by (Some (r.operator, r.is_prefix))) h) ∙ e))

sides_of : (o : BinaryOperator) (a b : Tree) → written (binary o a b) ≡ None → (loose.written (binary o a b) ≡ None) × (swap.written (binary o a b) ≡ None)
sides_of o a b e = none_first (loose.written (binary o a b)) (swap.written (binary o a b)) (none_first (typeof.written (binary o a b)) (equality_written (binary o a b)) e).1

member_misses : (n w : Tree) → Row33 n w → written n ≡ None → ⊥
member_misses n w (inl r) e = turned_misses (computed_member r.is_optional r.object (text r.name)) w (subst (λ x. Row33 x w) r.shape (inl r)) (unwritten n (computed_member r.is_optional r.object (text r.name)) r.shape e)
member_misses n w (inr r) e = turned_misses (computed_member false r.object (text (signed_decimal r.number))) w (subst (λ x. Row33 x w) r.shape (inr r)) (unwritten n (computed_member false r.object (text (signed_decimal r.number))) r.shape e)

pub unwritten_rests : law.UnwrittenRests
unwritten_rests s n e w (ShortBoolean r) = absurd (cc (unwritten n (boolean r.value) r.shape e))
unwritten_rests s n e w (DottedMember r) = member_misses n w r e
unwritten_rests s n e w (DottedTarget r) = assigned_misses n w r e
unwritten_rests s n e w (DottedUpdate r) = updated_misses n w r e
unwritten_rests s n e w (LooseLeft r) =
    let sides = sides_of r.operator r.left r.right (unwritten n (binary r.operator r.left r.right) r.shape e) in
    absurd (cc (sym (undefined_passes r.left r.undefined) ∙ (unwritten_sides r.operator r.left r.right r.loose sides.0).0))
unwritten_rests s n e w (LooseRight r) =
    let sides = sides_of r.operator r.left r.right (unwritten n (binary r.operator r.left r.right) r.shape e) in
    absurd (cc (sym (undefined_passes r.right r.undefined) ∙ (unwritten_sides r.operator r.left r.right r.loose sides.0).1))
unwritten_rests s n e w (SwappedEquality r) =
    let sides = sides_of r.operator (plain r.left) r.right (unwritten n (binary r.operator (plain r.left) r.right) r.shape e) in
    swap_misses (binary r.operator (plain r.left) r.right) w (subst (λ x. Row54 x w) r.shape r) sides.1
unwritten_rests s n e w (BareYield r) = absurd (cc (unwritten n (yields void_zero) r.shape e))
unwritten_rests s n e w (OrderedTypeof r) =
    let long : Tree = binary r.operator (typeof_name r.name) (text (codes "undefined")) in
    typeof_misses long w (subst (λ x. Row55 x w) r.shape r) (none_first (typeof.written long) (equality_written long) (unwritten n long r.shape e)).0
unwritten_rests s n e w (PlainTemplate r) = template_misses r.is_tail r.raw r.content r.shorter (unwritten n (template r.is_tail r.raw r.content) r.shape e)
unwritten_rests s n e w (ComparedWithVoid r) =
    let long : Tree = binary r.operator (unary Typeof r.operand) (text (codes "undefined")) in
    value_misses long w (subst (λ x. Row55Value x w) r.shape r) (none_first (typeof.written long) (equality_written long) (unwritten n long r.shape e)).0
unwritten_rests s n e w (Stepped r) = let long : Tree = subtracts r.operator r.target in step_misses long w (subst (λ x. Row36 x w) r.shape r) (none_first (stepping.written long) (dotted.written long) (unwritten n long r.shape e)).0

pub rests_settle : law.RestsSettle
rests_settle p n w r c = r w c.row

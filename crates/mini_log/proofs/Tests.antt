-- A tree is what a test of a log's rows says that it is.
use Rattle.std.proofs.Common.{◌≡◌, refl, sym, ap, ◌∙◌, inl, inr}
use Rattle.std.specs.Prelude.{ℕ, zero, suc, ◌⊎◌, Bool, true, false, not, ◌&&◌, ◌||◌, nat_eq, length, List, [], ◌∷◌, codes, Option, Some, None, option_map, is_none, ℤ, pos}
use Rattle.std.proofs.lemmas.Bool.{and_parts, eqb-true, false≢true}
use Rattle.std.proofs.lemmas.Option.{none-some, same_Some}
use Rattle.mini_model.specs.declared.name.Name.{Name}
use Rattle.mini_model.specs.declared.name.SymbolId.{SymbolId}
use Rattle.mini_model.specs.declared.operator.AssignmentOperator.{AssignmentOperator}
use Rattle.mini_model.specs.declared.operator.AssignmentOperator.TheVariants as assigning
use Rattle.mini_model.specs.declared.operator.UnaryOperator.{UnaryOperator}
use Rattle.mini_model.specs.declared.operator.UnaryOperator.TheVariants.{Typeof, Void}
use Rattle.mini_model.specs.declared.shape.Shape.TheVariants as shape
use Rattle.mini_model.specs.Tree.{Tree, Trees, node, none, ◌▸◌, leaf, count, shape_of, children, child_or_absent, identifier, unresolved, unary, listed}
use Rattle.mini_model.specs.Weight.{outline, outlines, nth_items, first_is_zero, is_zero_number, same_text}
use Rattle.mini_node.specs.Children.{part, names_of}
use Rattle.mini_node.specs.Kinds.{number, string, unary_operator, numeric_literal, string_literal}
use Rattle.mini_node.specs.Made.{number_is, string_is, unary_is}
use Rattle.mini_rows.specs.Spellings.{void_zero, IsUndefined, PlainForm, a_number, a_text, a_boolean, a_null, a_big_int, a_template, a_void, plain, is_awkward_left, is_inner}
use Rattle.mini_log.specs.Terms.{when, is_void, is_typeof, is_assign, is_text, is_zero_value, is_void_zero, is_spelled, is_unresolved, is_undefined_name, is_undefined, is_literal, is_cooked, is_list_of, is_text_template, is_plain, items_by, is_zero_shape, is_awkward_by, is_ready}

-- what is written, where something is
pub whenever : (b : Bool) (v w : Tree) → when b v ≡ Some w → (b ≡ true) × (w ≡ v)
whenever true v w e = (refl, sym (same_Some v w e))
whenever false v w e = absurd (none-some w e)

pub mapped : {A B : Type 0} (f : A → B) (o : Option A) (y : B) → option_map f o ≡ Some y → (x : A) × ((o ≡ Some x) × (f x ≡ y))
mapped f None y e = absurd (none-some y e)
mapped f (Some x) y e = (x, (refl, same_Some (f x) y e))

pub not_true : (b : Bool) → not b ≡ true → b ≡ false
not_true false e = refl
not_true true e = absurd (false≢true e)

pub either_true : (a b : Bool) → a || b ≡ true → (a ≡ true) ⊎ (b ≡ true)
either_true true b e = inl refl
either_true false b e = inr e

-- ---- texts and operators

pub same_texts : (s r : List ℕ) → same_text s r ≡ true → s ≡ r
same_texts [] [] e = refl
same_texts [] (d ∷ r) e = absurd (cc e)
same_texts (c ∷ s) [] e = absurd (cc e)
same_texts (c ∷ s) (d ∷ r) e =
    let (first, rest) = and_parts (nat_eq c d) (same_text s r) e in
    let one : c ≡ d = eqb-true c d first in
    ap (λ x. x ∷ s) one ∙ ap (λ x. d ∷ x) (same_texts s r rest)

pub text_is : (t : Tree) (r : List ℕ) → is_text r (string t) ≡ true → t ≡ string_literal r
text_is t r e = go (string t) refl e
  where
    go : (o : Option (List ℕ)) → string t ≡ o → is_text r o ≡ true → t ≡ string_literal r
    go (Some s) h e = string_is t s h ∙ ap string_literal (same_texts s r e)
    go None h e = absurd (false≢true e)

pub void_is : (t : Tree) → is_void (unary_operator t) ≡ true → t ≡ unary Void (part t 0)
void_is t e = go (unary_operator t) refl e
  where
    go : (o : Option UnaryOperator) → unary_operator t ≡ o → is_void o ≡ true → t ≡ unary Void (part t 0)
    go (Some Void) h e = unary_is t Void h
    go (Some o) h e = absurd (false≢true e)
    go None h e = absurd (false≢true e)

pub typeof_is : (t : Tree) → is_typeof (unary_operator t) ≡ true → t ≡ unary Typeof (part t 0)
typeof_is t e = go (unary_operator t) refl e
  where
    go : (o : Option UnaryOperator) → unary_operator t ≡ o → is_typeof o ≡ true → t ≡ unary Typeof (part t 0)
    go (Some Typeof) h e = unary_is t Typeof h
    go (Some o) h e = absurd (false≢true e)
    go None h e = absurd (false≢true e)

pub assign_is : (o : Option AssignmentOperator) → is_assign o ≡ true → o ≡ Some assigning.Assign
assign_is (Some assigning.Assign) e = refl
assign_is (Some o) e = absurd (false≢true e)
assign_is None e = absurd (false≢true e)

-- ---- undefined

zero_is : (t : Tree) → is_zero_value (number t) ≡ true → t ≡ numeric_literal (pos 0)
zero_is t e = go (number t) refl e
  where
    zero_number : (n : ℤ) → is_zero_number n ≡ true → n ≡ pos 0
    zero_number (pos zero) e = refl
    zero_number n e = absurd (cc e)

    go : (o : Option ℤ) → number t ≡ o → is_zero_value o ≡ true → t ≡ numeric_literal (pos 0)
    go (Some n) h e = number_is t n h ∙ ap numeric_literal (zero_number n e)
    go None h e = absurd (false≢true e)

pub void_zero_is : (t : Tree) → is_void_zero t ≡ true → t ≡ void_zero
void_zero_is t e =
    let (over, operand) = and_parts (is_void (unary_operator t)) (is_zero_value (number (part t 0))) e in
    void_is t over ∙ ap (unary Void) (zero_is (part t 0) operand)

abbrev named : List ℕ → Option SymbolId → Name
named s o = record { spelling = s; symbol = o }

no_symbol : (o : Option SymbolId) → is_none o ≡ true → o ≡ None
no_symbol None e = refl
no_symbol (Some i) e = absurd (false≢true e)

pub unresolved_is : (t : Tree) → is_unresolved t ≡ true → (s : List ℕ) × ((t ≡ identifier (unresolved s)) × ((r : List ℕ) → is_spelled r (names_of t) ≡ true → s ≡ r))
unresolved_is (node shape.Identifier (x ∷ []) zero none) e = (x.spelling, (ap (λ o. identifier (named x.spelling o)) (no_symbol x.symbol e), λ r f. same_texts x.spelling r f))
unresolved_is t e = absurd (false≢true e)

pub undefined_is : (t : Tree) → is_undefined t ≡ true → IsUndefined t
undefined_is t e = go (either_true (is_undefined_name t) (is_void_zero t) e)
  where
    go : (is_undefined_name t ≡ true) ⊎ (is_void_zero t ≡ true) → IsUndefined t
    go (inl h) =
        let (free, spelled) = and_parts (is_unresolved t) (is_spelled (codes "undefined") (names_of t)) h in
        let (s, (is, named)) = unresolved_is t free in
        inl (is ∙ ap (λ r. identifier (unresolved r)) (named (codes "undefined") spelled))
    go (inr h) = inr (void_zero_is t h)

-- ---- Plain

literal_is : (t : Tree) → is_literal t ≡ true → (f : PlainForm) × (t ≡ plain f)
literal_is (node (shape.NumericLiteral n) [] zero none) e = (a_number n, refl)
literal_is (node (shape.StringLiteral s) [] zero none) e = (a_text s, refl)
literal_is (node (shape.BooleanLiteral b) [] zero none) e = (a_boolean b, refl)
literal_is (node shape.NullLiteral [] zero none) e = (a_null, refl)
literal_is (node (shape.BigIntLiteral n) [] zero none) e = (a_big_int n, refl)
literal_is t e = absurd (false≢true e)

cooked_is : (t : Tree) → is_cooked t ≡ true → (l : Bool) × ((raw : List ℕ) × ((s : List ℕ) × (t ≡ leaf (shape.TemplateElement l raw (Some s)))))
cooked_is (node (shape.TemplateElement l raw (Some s)) [] zero none) e = (l, (raw, (s, refl)))
cooked_is t e = absurd (false≢true e)

one_item : (t : Tree) → is_list_of 1 t ≡ true → t ≡ listed (part t 0 ▸ none)
one_item (node shape.Listed [] zero (a ▸ none)) e = refl
one_item t e = absurd (false≢true e)

no_item : (t : Tree) → is_list_of 0 t ≡ true → t ≡ listed none
no_item (node shape.Listed [] zero none) e = refl
no_item t e = absurd (false≢true e)

abbrev template_over : Tree → Tree → Tree
template_over a b = node shape.TemplateLiteral [] 0 (a ▸ b ▸ none)

pub record Told (t : Tree) : Type 0 where
  pub is_tail : Bool
  pub raw : List ℕ
  pub cooked : List ℕ
  pub is : t ≡ plain (a_template is_tail raw cooked)
  pub piece : shape_of (part (part t 0) 0) ≡ shape.TemplateElement is_tail raw (Some cooked)

pub template_told : (t : Tree) → is_text_template t ≡ true → Told t
template_told (node shape.TemplateLiteral [] zero (a ▸ b ▸ none)) e =
    let (one, rest) = and_parts (is_list_of 1 a) (is_list_of 0 b && is_cooked (part a 0)) e in
    let (nothing, cooked) = and_parts (is_list_of 0 b) (is_cooked (part a 0)) rest in
    let (l, (raw, (s, is))) = cooked_is (part a 0) cooked in
    record {
      is_tail = l;
      raw = raw;
      cooked = s;
      is = ap (λ x. template_over x b) (one_item a one ∙ ap (λ x. listed (x ▸ none)) is) ∙ ap (template_over (listed (leaf (shape.TemplateElement l raw (Some s)) ▸ none))) (no_item b nothing);
      piece = ap shape_of is;
    }
template_told t e = absurd (false≢true e)

pub plain_is : (t : Tree) → is_plain t ≡ true → (f : PlainForm) × (t ≡ plain f)
plain_is t e = go (either_true (is_literal t) (is_text_template t || is_void_zero t) e)
  where
    go' : (is_text_template t ≡ true) ⊎ (is_void_zero t ≡ true) → (f : PlainForm) × (t ≡ plain f)
    go' (inl h) = let told = template_told t h in (a_template told.is_tail told.raw told.cooked, told.is)
    go' (inr h) = (a_void, void_zero_is t h)

    go : (is_literal t ≡ true) ⊎ (is_text_template t || is_void_zero t ≡ true) → (f : PlainForm) × (t ≡ plain f)
    go (inl h) = literal_is t h
    go (inr h) = go' (either_true (is_text_template t) (is_void_zero t) h)

-- ---- what is awkward on the left of an equality

abbrev items : Tree → ℕ
items t = items_by (shape_of t) (children t)

outlines_count : (ts : Trees) → length (outlines ts) ≡ count ts
outlines_count none = refl
outlines_count (t ▸ ts) = ap suc (outlines_count ts)

items_are : (t : Tree) → (outline t).items ≡ items t
items_are (node shape.Listed xs n ts) = outlines_count ts
items_are (node h xs n ts) = refl

nth_are : (ts : Trees) (i : ℕ) → nth_items (outlines ts) i ≡ items (child_or_absent ts i)
nth_are none i = refl
nth_are (t ▸ ts) zero = items_are t
nth_are (t ▸ ts) (suc i) = nth_are ts i

zero_shape : (t : Tree) → (outline t).is_zero ≡ is_zero_shape (shape_of t)
zero_shape (node (shape.NumericLiteral m) xs n ts) = refl
zero_shape (node h xs n ts) = refl

first_is : (ts : Trees) → first_is_zero (outlines ts) ≡ is_zero_shape (shape_of (child_or_absent ts 0))
first_is none = refl
first_is (t ▸ ts) = zero_shape t

or_none : (b : Bool) → (b || false) || false ≡ b
or_none true = refl
or_none false = refl

awkward_is : (t : Tree) → is_awkward_left t || is_inner t ≡ is_awkward_by (shape_of t) t
awkward_is (node shape.TemplateLiteral xs n ts) = or_none (nat_eq (nth_items (outlines ts) 1) 0) ∙ ap (λ k. nat_eq k 0) (nth_are ts 1)
awkward_is (node (shape.UnaryExpression Void) xs n ts) = or_none (first_is_zero (outlines ts)) ∙ first_is ts
awkward_is (node h xs n ts) = refl

both_false : (a b c : Bool) → a || b ≡ c → not c ≡ true → (a ≡ false) × (b ≡ false)
both_false true b c e f = absurd (cc (ap not e ∙ f))
both_false false true c e f = absurd (cc (ap not e ∙ f))
both_false false false c e f = (refl, refl)

pub ready_is : (t : Tree) → is_ready t ≡ true → (is_awkward_left t ≡ false) × (is_inner t ≡ false)
ready_is t e = both_false (is_awkward_left t) (is_inner t) (is_awkward_by (shape_of t) t) (awkward_is t) e

-- What a form is made of, where a test says that it is there, and that each form passes its test.
use Rattle.std.proofs.Common.{◌≡◌, ℕ, zero, suc, Bool, true, false, List, [], ◌∷◌, Option, Some, None, refl, sym, ap, ◌∙◌, inl, inr, length}
use Rattle.std.specs.Prelude.{◌⊎◌, ◌&&◌, ◌||◌, not, nat_eq, codes, ℤ, pos, is_none}
use Rattle.std.proofs.lemmas.Bool.{and_parts, eqb-true}
use Rattle.mini_model.specs.declared.name.Name.{Name}
use Rattle.mini_model.specs.declared.name.SymbolId.{SymbolId}
use Rattle.mini_model.specs.declared.operator.UnaryOperator.{UnaryOperator}
use Rattle.mini_model.specs.declared.operator.UnaryOperator.TheVariants.{Void}
use Rattle.mini_model.specs.declared.shape.Shape.TheVariants as shape
use Rattle.mini_model.specs.Tree.{Tree, Trees, node, none, ◌▸◌, leaf, count, shape_of, child_or_absent, unary, identifier, unresolved, listed}
use Rattle.mini_model.specs.Weight.{outline, outlines, nth_items, first_is_zero, is_zero_number, same_text}
use Rattle.mini_node.specs.Children.{part}
use Rattle.mini_node.specs.Kinds.{number, unary_operator}
use Rattle.mini_node.specs.Made.{number_is, unary_is}
use Rattle.mini_rows.specs.Spellings.{numeral, void_zero, IsUndefined, PlainForm, a_number, a_text, a_boolean, a_null, a_big_int, a_template, a_void, plain, is_awkward_left, is_inner}
use Rattle.mini_syntax.specs.Forms.{is_zero_value, is_zero, is_void, is_void_zero, is_undefined_name, is_global_undefined, is_undefined, is_literal, is_cooked, is_list_of, is_text_template, is_plain}
use Rattle.mini_syntax.specs.SubstituteSwapBinaryExpressions.{items, is_zero_shape, is_awkward_by, is_ready}

-- either holds
pub either_true : (a b : Bool) → a || b ≡ true → (a ≡ true) ⊎ (b ≡ true)
either_true true b e = inl refl
either_true false b e = inr e

pub same_texts : (s r : List ℕ) → same_text s r ≡ true → s ≡ r
same_texts [] [] e = refl
same_texts [] (d ∷ r) e = absurd (cc e)
same_texts (c ∷ s) [] e = absurd (cc e)
same_texts (c ∷ s) (d ∷ r) e =
    let (first, rest) = and_parts (nat_eq c d) (same_text s r) e in
    let one : c ≡ d = eqb-true c d first in
    ap (λ x. x ∷ s) one ∙ ap (λ x. d ∷ x) (same_texts s r rest)

-- `0`, `void 0`

zero_is : (t : Tree) → is_zero t ≡ true → t ≡ numeral (pos 0)
zero_is t e = go (number t) refl e
  where
    zero_number : (n : ℤ) → is_zero_number n ≡ true → n ≡ pos 0
    zero_number (pos zero) e = refl
    zero_number n e = absurd (cc e)

    go : (o : Option ℤ) → number t ≡ o → is_zero_value o ≡ true → t ≡ numeral (pos 0)
    go (Some n) h e = number_is t n h ∙ ap numeral (zero_number n e)
    go None h e = absurd (cc e)

pub void_zero_is : (t : Tree) → is_void_zero t ≡ true → t ≡ void_zero
void_zero_is t e = let (over, operand) = and_parts (is_void (unary_operator t)) (is_zero (part t 0)) e in go (unary_operator t) refl over operand
  where
    go : (o : Option UnaryOperator) → unary_operator t ≡ o → is_void o ≡ true → is_zero (part t 0) ≡ true → t ≡ void_zero
    go (Some Void) h v z = unary_is t Void h ∙ ap (unary Void) (zero_is (part t 0) z)
    go (Some o) h v z = absurd (cc v)
    go None h v z = absurd (cc v)

-- `undefined`

no_symbol : (o : Option SymbolId) → is_none o ≡ true → o ≡ None
no_symbol None e = refl
no_symbol (Some i) e = absurd (cc e)

abbrev named : List ℕ → Option SymbolId → Name
named s o = record { spelling = s; symbol = o }

name_is : (x : Name) → is_undefined_name (x ∷ []) ≡ true → x ≡ unresolved (codes "undefined")
name_is x e =
    let (free, spelled) = and_parts (is_none x.symbol) (same_text x.spelling (codes "undefined")) e in
    ap (λ s. named s x.symbol) (same_texts x.spelling (codes "undefined") spelled) ∙ ap (named (codes "undefined")) (no_symbol x.symbol free)

pub global_undefined_is : (t : Tree) → is_global_undefined t ≡ true → t ≡ identifier (unresolved (codes "undefined"))
global_undefined_is (node shape.Identifier (x ∷ []) zero none) e = ap identifier (name_is x e)
global_undefined_is t e = absurd (cc e)

pub undefined_is : (t : Tree) → is_undefined t ≡ true → IsUndefined t
undefined_is t e = go (either_true (is_void_zero t) (is_global_undefined t) e)
  where
    go : (is_void_zero t ≡ true) ⊎ (is_global_undefined t ≡ true) → IsUndefined t
    go (inl h) = inr (void_zero_is t h)
    go (inr h) = inl (global_undefined_is t h)

pub undefined_passes : (t : Tree) → IsUndefined t → is_undefined t ≡ true
undefined_passes t (inl h) = ap is_undefined h
undefined_passes t (inr h) = ap is_undefined h

-- values that are written out

literal_is : (t : Tree) → is_literal t ≡ true → (f : PlainForm) × (t ≡ plain f)
literal_is (node (shape.NumericLiteral n) [] zero none) e = (a_number n, refl)
literal_is (node (shape.StringLiteral s) [] zero none) e = (a_text s, refl)
literal_is (node (shape.BooleanLiteral b) [] zero none) e = (a_boolean b, refl)
literal_is (node shape.NullLiteral [] zero none) e = (a_null, refl)
literal_is (node (shape.BigIntLiteral n) [] zero none) e = (a_big_int n, refl)
literal_is t e = absurd (cc e)

cooked_is : (t : Tree) → is_cooked t ≡ true → (l : Bool) × ((raw : List ℕ) × ((s : List ℕ) × (t ≡ leaf (shape.TemplateElement l raw (Some s)))))
cooked_is (node (shape.TemplateElement l raw (Some s)) [] zero none) e = (l, (raw, (s, refl)))
cooked_is (node (shape.TemplateElement l raw None) xs n ts) e = absurd (cc e)
cooked_is t e = absurd (cc e)

pub one_item : (t : Tree) → is_list_of 1 t ≡ true → t ≡ listed (part t 0 ▸ none)
one_item (node shape.Listed [] zero (a ▸ none)) e = refl
one_item t e = absurd (cc e)

no_item : (t : Tree) → is_list_of 0 t ≡ true → t ≡ listed none
no_item (node shape.Listed [] zero none) e = refl
no_item t e = absurd (cc e)

abbrev template_over : Tree → Tree → Tree
template_over a b = node shape.TemplateLiteral [] 0 (a ▸ b ▸ none)

pub template_told : (t : Tree) → is_text_template t ≡ true → (l : Bool) × ((raw : List ℕ) × ((s : List ℕ) × (t ≡ plain (a_template l raw s))))
template_told (node shape.TemplateLiteral [] zero (a ▸ b ▸ none)) e =
    let (one, rest) = and_parts (is_list_of 1 a) (is_list_of 0 b && is_cooked (part a 0)) e in
    let (nothing, cooked) = and_parts (is_list_of 0 b) (is_cooked (part a 0)) rest in
    let piece = cooked_is (part a 0) cooked in
    (piece.0, (piece.1.0, (piece.1.1.0, ap (λ x. template_over x b) (one_item a one ∙ ap (λ x. listed (x ▸ none)) piece.1.1.1) ∙ ap (template_over (listed (leaf (shape.TemplateElement piece.0 piece.1.0 (Some piece.1.1.0)) ▸ none))) (no_item b nothing))))
template_told t e = absurd (cc e)

template_is : (t : Tree) → is_text_template t ≡ true → (f : PlainForm) × (t ≡ plain f)
template_is t e = let (l, (raw, (s, is))) = template_told t e in (a_template l raw s, is)

pub plain_is : (t : Tree) → is_plain t ≡ true → (f : PlainForm) × (t ≡ plain f)
plain_is t e = go (either_true (is_literal t) (is_text_template t || is_void_zero t) e)
  where
    go' : (is_text_template t ≡ true) ⊎ (is_void_zero t ≡ true) → (f : PlainForm) × (t ≡ plain f)
    go' (inl h) = template_is t h
    go' (inr h) = (a_void, void_zero_is t h)

    go : (is_literal t ≡ true) ⊎ (is_text_template t || is_void_zero t ≡ true) → (f : PlainForm) × (t ≡ plain f)
    go (inl h) = literal_is t h
    go (inr h) = go' (either_true (is_text_template t) (is_void_zero t) h)

pub plain_passes : (f : PlainForm) → is_plain (plain f) ≡ true
plain_passes (a_number n) = refl
plain_passes (a_text s) = refl
plain_passes (a_boolean b) = refl
plain_passes a_null = refl
plain_passes (a_big_int n) = refl
plain_passes (a_template l raw s) = refl
plain_passes a_void = refl

-- what is awkward on the left of an equality

outlines_count : (ts : Trees) → length (outlines ts) ≡ count ts
outlines_count none = refl
outlines_count (t ▸ ts) = ap suc (outlines_count ts)

items_are : (t : Tree) → (outline t).items ≡ items t
items_are (node shape.Listed xs n ts) = outlines_count ts
items_are (node h xs n ts) = refl

nth_are : (ts : Trees) (i : ℕ) → nth_items (outlines ts) i ≡ items (child_or_absent ts i)
nth_are none i = refl
nth_are (t ▸ ts) zero = items_are t
nth_are (t ▸ ts) (suc i) = nth_are ts i

zero_shape : (t : Tree) → (outline t).is_zero ≡ is_zero_shape (shape_of t)
zero_shape (node (shape.NumericLiteral m) xs n ts) = refl
zero_shape (node h xs n ts) = refl

first_is : (ts : Trees) → first_is_zero (outlines ts) ≡ is_zero_shape (shape_of (child_or_absent ts 0))
first_is none = refl
first_is (t ▸ ts) = zero_shape t

or_none : (b : Bool) → (b || false) || false ≡ b
or_none true = refl
or_none false = refl

awkward_is : (t : Tree) → is_awkward_left t || is_inner t ≡ is_awkward_by (shape_of t) t
awkward_is (node shape.TemplateLiteral xs n ts) = or_none (nat_eq (nth_items (outlines ts) 1) 0) ∙ ap (λ k. nat_eq k 0) (nth_are ts 1)
awkward_is (node (shape.UnaryExpression Void) xs n ts) = or_none (first_is_zero (outlines ts)) ∙ first_is ts
awkward_is (node h xs n ts) = refl

both_false : (a b c : Bool) → a || b ≡ c → not c ≡ true → (a ≡ false) × (b ≡ false)
both_false true b c e f = absurd (cc (ap not e ∙ f))
both_false false true c e f = absurd (cc (ap not e ∙ f))
both_false false false c e f = (refl, refl)

pub ready_is : (t : Tree) → is_ready t ≡ true → (is_awkward_left t ≡ false) × (is_inner t ≡ false)
ready_is t e = both_false (is_awkward_left t) (is_inner t) (is_awkward_by (shape_of t) t) (awkward_is t) e

pub ready_passes : (t : Tree) → is_awkward_left t ≡ false → is_inner t ≡ false → is_ready t ≡ true
ready_passes t e f = ap not (sym (awkward_is t) ∙ ap (λ a. a || is_inner t) e ∙ f)

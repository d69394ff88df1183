-- Terms of a node by its shape and its children.
use Rattle.std.proofs.Common.{◌≡◌, Bool, true, false, refl, arith}
use Rattle.mini_model.specs.declared.operator.UnaryOperator.TheVariants.{Void}
use Rattle.mini_model.specs.declared.seat.Guard.{Guard}
use Rattle.mini_model.specs.declared.shape.Shape.{Shape}
use Rattle.mini_model.specs.declared.shape.Shape.TheVariants as shape
use Rattle.mini_model.specs.Tree.{Tree, Trees, node, none, ◌▸◌, children, count, shape_of}
use Rattle.mini_node.specs.Children.{part, names_of}
use Rattle.mini_laws.specs.Naming.{kinds}
use Rattle.mini_terms.specs.Exact.{int32_by, is_int32_or_uint32, is_over_zero, is_text_alone, undefined_by, is_expression_undefined, asks_guard, is_guarded}
use Rattle.mini_terms.specs.Kind.{each_kind}
use Rattle.mini_terms.specs.Plain.{is_zero, has_no_items, is_literal, plain}

pub int32_is : (t : Tree) → is_int32_or_uint32 t ≡ int32_by (shape_of t) (each_kind (children t))
int32_is (node h xs n ts) = refl

pub undefined_is : (t : Tree) → is_expression_undefined t ≡ undefined_by (shape_of t) (kinds (names_of t)) (children t)
undefined_is (node h xs n ts) = refl

pub guarded_is : (g : Guard) (t : Tree) → is_guarded g t ≡ asks_guard g (shape_of t) (names_of t)
guarded_is g (node h xs n ts) = refl

-- whether a value is written out, by shape
abbrev pub literal_by : Shape → Trees → Bool
literal_by (shape.UnaryExpression Void) ts = is_over_zero ts
literal_by shape.TemplateLiteral ts = is_text_alone ts
literal_by h ts = is_literal h

pub plain_is : (t : Tree) → plain t ≡ literal_by (shape_of t) (children t)
plain_is (node (shape.UnaryExpression Void) xs n none) = refl
plain_is (node (shape.UnaryExpression Void) xs n (a ▸ none)) = refl
plain_is (node (shape.UnaryExpression Void) xs n (a ▸ (b ▸ ts))) = refl
plain_is (node shape.TemplateLiteral xs n none) = refl
plain_is (node shape.TemplateLiteral xs n (a ▸ none)) = refl
plain_is (node shape.TemplateLiteral xs n (a ▸ (b ▸ none))) = refl
plain_is (node shape.TemplateLiteral xs n (a ▸ (b ▸ (c ▸ ts)))) = refl
plain_is (node h xs n ts) = refl

-- ---- children

pub void_is : (t : Tree) → count (children t) ≡ 1 → is_over_zero (children t) ≡ is_zero (part t 0)
void_is (node h xs n none) e = absurd (omega (arith, e))
void_is (node h xs n (a ▸ none)) e = refl
void_is (node h xs n (a ▸ (b ▸ ts))) e = absurd (omega (arith, e))

pub void_not : (t : Tree) → (count (children t) ≡ 1 → ⊥) → is_over_zero (children t) ≡ false
void_not (node h xs n none) e = refl
void_not (node h xs n (a ▸ none)) e = absurd (e refl)
void_not (node h xs n (a ▸ (b ▸ ts))) e = refl

pub text_is : (t : Tree) → count (children t) ≡ 2 → is_text_alone (children t) ≡ has_no_items (part t 1)
text_is (node h xs n none) e = absurd (omega (arith, e))
text_is (node h xs n (a ▸ none)) e = absurd (omega (arith, e))
text_is (node h xs n (a ▸ (b ▸ none))) e = refl
text_is (node h xs n (a ▸ (b ▸ (c ▸ ts)))) e = absurd (omega (arith, e))

pub text_not : (t : Tree) → (count (children t) ≡ 2 → ⊥) → is_text_alone (children t) ≡ false
text_not (node h xs n none) e = refl
text_not (node h xs n (a ▸ none)) e = refl
text_not (node h xs n (a ▸ (b ▸ none))) e = absurd (e refl)
text_not (node h xs n (a ▸ (b ▸ (c ▸ ts)))) e = refl

pub items_none : (t : Tree) → count (children t) ≡ 0 → has_no_items t ≡ true
items_none (node h xs n none) e = refl
items_none (node h xs n (a ▸ ts)) e = absurd (omega (arith, e))

pub items_some : (t : Tree) → (count (children t) ≡ 0 → ⊥) → has_no_items t ≡ false
items_some (node h xs n none) e = absurd (e refl)
items_some (node h xs n (a ▸ ts)) e = refl

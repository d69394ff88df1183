-- What is calculated of an expression is its constant.
use Rattle.std.proofs.Common.{◌≡◌, ℕ, ℤ, zero, suc, Bool, true, false, Option, Some, None, refl, sym, ap, subst, ◌∙◌}
use Rattle.std.specs.Prelude.{◌&&◌}
use Rattle.std.proofs.lemmas.Bool.{and_parts}
use Rattle.mini_model.specs.declared.operator.BinaryOperator.{BinaryOperator}
use Rattle.mini_model.specs.declared.operator.LogicalOperator.{LogicalOperator}
use Rattle.mini_model.specs.declared.operator.UnaryOperator.{UnaryOperator}
use Rattle.mini_model.specs.declared.operator.UnaryOperator.TheVariants as unary_operator
use Rattle.mini_model.specs.declared.shape.Shape.TheVariants as shape
use Rattle.mini_model.specs.Tree.{Tree, Trees, node, none, ◌▸◌, children, count, child_or_absent, unary, logical, conditional}
use Rattle.mini_node.specs.Children.{part}
use Rattle.mini_node.specs.Kinds.{binary, sequence, unary_operator as its_unary_operator, binary_operator as its_binary_operator, logical_operator as its_logical_operator, is_conditional, is_sequence}
use Rattle.mini_node.specs.Made.{unary_is, binary_is, logical_is, conditional_is, sequence_is}
use Rattle.mini_laws.specs.Value.{Value, choose}
use Rattle.mini_laws.specs.Conversion.{Made, makes, raises, outside, is_safe, to_number}
use Rattle.mini_laws.specs.Expressions.{first_kind}
use Rattle.mini_laws.specs.Naming.{NameKind, UndefinedName, kinds}
use Rattle.mini_laws.specs.Operators.{of_number}
use Rattle.mini_terms.specs.Const.{made, name_const, of_operand, unary_const, binary_const, logical_const, conditional_const, last_const, const, each_const}
use Rattle.mini_terms.specs.Folds.{is_effect_free}
use Rattle.mini_terms.specs.Calculated.{undefined_if, leaf_value, as_number, over_number, calculated_unary, unary_value, calculated_by, calculated_over, last_value, chosen_by, chosen_over, or_else, value_within, operand_depth, free_value, calculated, CalculatedIsConst}
use Rattle.mini_terms.specs.Kind.{is_undefined_name}
use Rattle.mini_terms.specs.Reading.{stands, is_plain_part}
use Rattle.mini_terms.specs.Templates.{template, is_template, template_value}
use Rattle.mini_terms.proofs.Joined.{template_is, template_of}

nothing : {A : Type 0} {a : A} {B : Type 0} → None ≡ Some a → B
nothing e = cc e

-- ---- what is known of an expression whose value is calculated

pub record Constant (t : Tree) (v : Value) : Type 0 where
  pub constant : const t ≡ Some v
  pub plain : is_plain_part t ≡ true

pub undefined_const : (k : NameKind) (v : Value) → undefined_if (is_undefined_name k) ≡ Some v → name_const k ≡ Some v
undefined_const UndefinedName v e = e
undefined_const k v e = nothing e

leaf_is : (t : Tree) (v : Value) → leaf_value t ≡ Some v → Constant t v
leaf_is (node shape.Identifier xs n ts) v e = record { constant = undefined_const (first_kind (kinds xs)) v e; plain = refl }
leaf_is (node (shape.NumericLiteral m) xs n ts) v e = record { constant = e; plain = refl }
leaf_is (node (shape.StringLiteral s) xs n ts) v e = record { constant = e; plain = refl }
leaf_is (node (shape.BooleanLiteral b) xs n ts) v e = record { constant = e; plain = refl }
leaf_is (node shape.NullLiteral xs n ts) v e = record { constant = e; plain = refl }
leaf_is t v e = nothing e

-- `+`, `-` and `~`

checked : (b : Bool) (c : Option Value) (v : Value) → choose b c None ≡ Some v → c ≡ Some v
checked true c v e = e
checked false c v e = nothing e

pub numbered : (o : UnaryOperator) (m : Made ℤ) (v : Value) → over_number o (made m) ≡ Some v → made (of_operand o m) ≡ Some v
numbered o (makes n) v e = checked (is_safe n) (made (of_number o n)) v e
numbered o raises v e = nothing e
numbered o outside v e = nothing e

pub undeleted : (c : Option ℤ) (v : Value) → over_number unary_operator.Delete c ≡ Some v → None ≡ Some v
undeleted (Some n) v e = checked (is_safe n) None v e
undeleted None v e = e

module _ (a : Tree) (v : Value) where
  over_constant : (o : UnaryOperator) (u : Value) → Constant a u → calculated_unary o u ≡ Some v → Constant (unary o a) v
  over_constant unary_operator.Void u l e = record { constant = e; plain = refl }
  over_constant unary_operator.LogicalNot u l e = record { constant = ap (unary_const unary_operator.LogicalNot) l.constant ∙ e; plain = l.plain }
  over_constant unary_operator.Typeof u l e = record { constant = ap (unary_const unary_operator.Typeof) l.constant ∙ e; plain = refl }
  over_constant unary_operator.UnaryPlus u l e = record { constant = ap (unary_const unary_operator.UnaryPlus) l.constant ∙ numbered unary_operator.UnaryPlus (to_number u) v e; plain = refl }
  over_constant unary_operator.UnaryNegation u l e = record { constant = ap (unary_const unary_operator.UnaryNegation) l.constant ∙ numbered unary_operator.UnaryNegation (to_number u) v e; plain = refl }
  over_constant unary_operator.BitwiseNot u l e = record { constant = ap (unary_const unary_operator.BitwiseNot) l.constant ∙ numbered unary_operator.BitwiseNot (to_number u) v e; plain = refl }
  over_constant unary_operator.Delete u l e = nothing (undeleted (as_number u) v e)

  of_operand_value : (is_free : Bool) (o : UnaryOperator) (c : Option Value) → ((u : Value) → c ≡ Some u → Constant a u) → unary_value is_free o c ≡ Some v → Constant (unary o a) v
  of_operand_value true unary_operator.Void c h e = record { constant = e; plain = refl }
  of_operand_value true o (Some u) h e = over_constant o u (h u refl) e
  of_operand_value true o None h e = nothing e
  of_operand_value false o (Some u) h e = over_constant o u (h u refl) e
  of_operand_value false o None h e = nothing e

-- of operators over constants
binary_of : (o : BinaryOperator) (a b : Tree) (v : Value) (c d : Option Value) → ((u : Value) → c ≡ Some u → const a ≡ Some u) → ((u : Value) → d ≡ Some u → const b ≡ Some u) → binary_const o c d ≡ Some v → const (binary o a b) ≡ Some v
binary_of o a b v (Some x) (Some y) h k e = ap (λ c. binary_const o c (const b)) (h x refl) ∙ ap (binary_const o (Some x)) (k y refl) ∙ e
binary_of o a b v (Some x) None h k e = nothing e
binary_of o a b v None d h k e = nothing e

logical_of : (o : LogicalOperator) (a b : Tree) (v : Value) (c d : Option Value) → ((u : Value) → c ≡ Some u → const a ≡ Some u) → ((u : Value) → d ≡ Some u → const b ≡ Some u) → logical_const o c d ≡ Some v → const (logical o a b) ≡ Some v
logical_of o a b v (Some x) (Some y) h k e = ap (λ c. logical_const o c (const b)) (h x refl) ∙ ap (logical_const o (Some x)) (k y refl) ∙ e
logical_of o a b v (Some x) None h k e = nothing e
logical_of o a b v None d h k e = nothing e

conditional_of : (a b c : Tree) (v : Value) (x y z : Option Value) → ((u : Value) → x ≡ Some u → const a ≡ Some u) → ((u : Value) → y ≡ Some u → const b ≡ Some u) → ((u : Value) → z ≡ Some u → const c ≡ Some u) → conditional_const x y z ≡ Some v → const (conditional a b c) ≡ Some v
conditional_of a b c v (Some x) (Some y) (Some z) h k l e = ap (λ r. conditional_const r (const b) (const c)) (h x refl) ∙ ap (λ r. conditional_const (Some x) r (const c)) (k y refl) ∙ ap (conditional_const (Some x) (Some y)) (l z refl) ∙ e
conditional_of a b c v (Some x) (Some y) None h k l e = nothing e
conditional_of a b c v (Some x) None z h k l e = nothing e
conditional_of a b c v None y z h k l e = nothing e

-- a sequence's is that of its last part
last_is : (t : Tree) (ts : Trees) → last_const (each_const (t ▸ ts)) ≡ const (child_or_absent (t ▸ ts) (count ts))
last_is t none = refl
last_is t (u ▸ us) = last_is u us

sequence_of : (f : Tree → Option Value) → ((a : Tree) (u : Value) → f a ≡ Some u → const a ≡ Some u) → (ts : Trees) (v : Value) → last_value f ts ≡ Some v → const (sequence ts) ≡ Some v
sequence_of f h none v e = nothing e
sequence_of f h (t ▸ ts) v e = last_is t ts ∙ h (child_or_absent (t ▸ ts) (count ts)) v e

-- ---- all

-- a unary or binary operator over operands of these values
pub data Form (is_free : Bool) (f : Tree → Option Value) (t : Tree) (v : Value) : Type 0 where
  of_unary : (o : UnaryOperator) → t ≡ unary o (part t 0) → unary_value is_free o (f (part t 0)) ≡ Some v → Form is_free f t v
  of_binary : (o : BinaryOperator) → t ≡ binary o (part t 0) (part t 1) → binary_const o (f (part t 0)) (f (part t 1)) ≡ Some v → Form is_free f t v

pub form : (is_free : Bool) (f : Tree → Option Value) (t : Tree) (v : Value) → calculated_over is_free f t ≡ Some v → Form is_free f t v
form is_free f t v e = go (its_unary_operator t) (its_binary_operator t) refl refl e
  where
    go : (o : Option UnaryOperator) (p : Option BinaryOperator) → its_unary_operator t ≡ o → its_binary_operator t ≡ p → calculated_by is_free f o p t ≡ Some v → Form is_free f t v
    go (Some o) p h k e = of_unary o (unary_is t o h) e
    go None (Some o) h k e = of_binary o (binary_is t o k) e
    go None None h k e = nothing e

-- a choice between operands of these values, a sequence that ends in one, or a template with some
pub data Choice (is_free : Bool) (f : Tree → Option Value) (t : Tree) (v : Value) : Type 0 where
  of_logical : (o : LogicalOperator) → t ≡ logical o (part t 0) (part t 1) → logical_const o (f (part t 0)) (f (part t 1)) ≡ Some v → Choice is_free f t v
  of_conditional : t ≡ conditional (part t 0) (part t 1) (part t 2) → conditional_const (f (part t 0)) (f (part t 1)) (f (part t 2)) ≡ Some v → Choice is_free f t v
  of_sequence : is_free ≡ true → t ≡ sequence (children (part t 0)) → last_value f (children (part t 0)) ≡ Some v → Choice is_free f t v
  of_template : t ≡ template (children (part t 0)) (children (part t 1)) → template_value f t ≡ Some v → Choice is_free f t v

pub choice : (is_free : Bool) (f : Tree → Option Value) (t : Tree) (v : Value) → chosen_over is_free f t ≡ Some v → Choice is_free f t v
choice is_free f t v e = go (its_logical_operator t) (is_conditional t) (is_free && is_sequence t) (is_template t) refl refl refl refl e
  where
    go : (o : Option LogicalOperator) (b c d : Bool) → its_logical_operator t ≡ o → is_conditional t ≡ b → is_free && is_sequence t ≡ c → is_template t ≡ d → chosen_by f o b c d t ≡ Some v → Choice is_free f t v
    go (Some o) b c d h k l m e = of_logical o (logical_is t o h) e
    go None true c d h k l m e = of_conditional (conditional_is t k) e
    go None false true d h k l m e = let (free, listed) = and_parts is_free (is_sequence t) l in of_sequence free (sequence_is t listed) e
    go None false false true h k l m e = of_template (template_is t m) e
    go None false false false h k l m e = nothing e

-- What holds of literals, and of an operator where it holds of its operands, holds of each value that is calculated.
module _ (P : Tree → Value → Type 0) (is_free : Bool) (leaves : (t : Tree) (v : Value) → leaf_value t ≡ Some v → P t v) (operators : (f : Tree → Option Value) → ((a : Tree) (u : Value) → f a ≡ Some u → P a u) → (t : Tree) (v : Value) → Form is_free f t v → P t v) (choices : (f : Tree → Option Value) → ((a : Tree) (u : Value) → f a ≡ Some u → P a u) → (t : Tree) (v : Value) → Choice is_free f t v → P t v) where
  last : (f : Tree → Option Value) → ((a : Tree) (u : Value) → f a ≡ Some u → P a u) → (t : Tree) (v : Value) (c : Option Value) → chosen_over is_free f t ≡ c → or_else c (leaf_value t) ≡ Some v → P t v
  last f h t v (Some u) k e = choices f h t v (choice is_free f t v (k ∙ e))
  last f h t v None k e = leaves t v e

  further : (f : Tree → Option Value) → ((a : Tree) (u : Value) → f a ≡ Some u → P a u) → (t : Tree) (v : Value) (c : Option Value) → calculated_over is_free f t ≡ c → or_else c (or_else (chosen_over is_free f t) (leaf_value t)) ≡ Some v → P t v
  further f h t v (Some u) k e = operators f h t v (form is_free f t v (k ∙ e))
  further f h t v None k e = last f h t v (chosen_over is_free f t) refl e

  pub within : (k : ℕ) (t : Tree) (v : Value) → value_within is_free k t ≡ Some v → P t v
  within zero t v e = leaves t v e
  within (suc k) t v e = further (value_within is_free k) (within k) t v (calculated_over is_free (value_within is_free k) t) refl e

module _ (is_free : Bool) (f : Tree → Option Value) (h : (a : Tree) (u : Value) → f a ≡ Some u → Constant a u) (t : Tree) (v : Value) where
  its_const : (a : Tree) (u : Value) → f a ≡ Some u → const a ≡ Some u
  its_const a u e = (h a u e).constant

  operated : Form is_free f t v → Constant t v
  operated (of_unary o is e) = subst (λ x. Constant x v) (sym is) (of_operand_value (part t 0) v is_free o (f (part t 0)) (h (part t 0)) e)
  operated (of_binary o is e) = subst (λ x. Constant x v) (sym is) (record { constant = binary_of o (part t 0) (part t 1) v (f (part t 0)) (f (part t 1)) (its_const (part t 0)) (its_const (part t 1)) e; plain = refl })

  chosen : Choice is_free f t v → Constant t v
  chosen (of_logical o is e) = subst (λ x. Constant x v) (sym is) (record { constant = logical_of o (part t 0) (part t 1) v (f (part t 0)) (f (part t 1)) (its_const (part t 0)) (its_const (part t 1)) e; plain = refl })
  chosen (of_conditional is e) = subst (λ x. Constant x v) (sym is) (record { constant = conditional_of (part t 0) (part t 1) (part t 2) v (f (part t 0)) (f (part t 1)) (f (part t 2)) (its_const (part t 0)) (its_const (part t 1)) (its_const (part t 2)) e; plain = refl })
  chosen (of_template is e) = subst (λ x. Constant x v) (sym is) (record { constant = template_of f its_const (children (part t 0)) (children (part t 1)) v e; plain = refl })
  chosen (of_sequence free is e) = subst (λ x. Constant x v) (sym is) (record { constant = sequence_of f its_const (children (part t 0)) v e; plain = refl })

pub free_is_constant : (t : Tree) (v : Value) → free_value t ≡ Some v → Constant t v
free_is_constant t v e = within Constant true leaf_is (operated true) (chosen true) operand_depth t v e

-- an effect-free operator whose value is calculated
pub record Calculated (t : Tree) (v : Value) : Type 0 where
  pub made_of : Form true free_value t v
  pub free : is_effect_free t ≡ true

pub calculated_is : (t : Tree) (v : Value) → calculated t ≡ Some v → Calculated t v
calculated_is t v e = go (is_effect_free t) refl e
  where
    go : (b : Bool) → is_effect_free t ≡ b → choose b (calculated_over true free_value t) None ≡ Some v → Calculated t v
    go true h e = record { made_of = form true free_value t v e; free = h }
    go false h e = nothing e

pub calculated_is_constant : (t : Tree) (v : Value) → calculated t ≡ Some v → Constant t v
calculated_is_constant t v e = operated true free_value free_is_constant t v (calculated_is t v e).made_of

standing : (t : Tree) (v : Value) → Form true free_value t v → stands t ≡ true
standing t v (of_unary o is e) = ap stands is
standing t v (of_binary o is e) = ap stands is

pub calculated_stands : (t : Tree) (v : Value) → calculated t ≡ Some v → stands t ≡ true
calculated_stands t v e = standing t v (calculated_is t v e).made_of

pub calculated_is_const : CalculatedIsConst
calculated_is_const t v e = ((calculated_is_constant t v e).constant, (calculated_is t v e).free)

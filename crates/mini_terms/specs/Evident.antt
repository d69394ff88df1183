-- The truth of an expression for which no text has to be made: what is evident of its constant is
-- the constant itself, but of a text only whether it has units.
use Rattle.std.specs.Prelude.{ℕ, ℤ, zero, suc, pos, nat_eq, Bool, true, false, not, ◌&&◌, ◌||◌, List, [], ◌∷◌, Option, Some, None, if◌then◌else◌}
use Rattle.mini_model.specs.declared.operator.BinaryOperator.{BinaryOperator}
use Rattle.mini_model.specs.declared.operator.BinaryOperator.TheVariants as binary
use Rattle.mini_model.specs.declared.operator.LogicalOperator.{LogicalOperator}
use Rattle.mini_model.specs.declared.operator.LogicalOperator.TheVariants.{Or, And, Coalesce}
use Rattle.mini_model.specs.declared.operator.UnaryOperator.{UnaryOperator}
use Rattle.mini_model.specs.declared.operator.UnaryOperator.TheVariants as unary
use Rattle.mini_model.specs.declared.shape.Shape.{Shape}
use Rattle.mini_model.specs.declared.shape.Shape.TheVariants as shape
use Rattle.mini_model.specs.Tree.{Tree, Trees, node, none, ◌▸◌, children, count, shape_of, child_or_absent}
use Rattle.mini_node.specs.Kinds.{is_listed}
use Rattle.mini_laws.specs.Value.{Value, Boolean, Number, String, choose, truth}
use Rattle.mini_laws.specs.Conversion.{to_number}
use Rattle.mini_laws.specs.Naming.{NameKind, kinds}
use Rattle.mini_laws.specs.Expressions.{first_kind}
use Rattle.mini_laws.specs.Operators.{of_numbers}
use Rattle.mini_terms.specs.Const.{made, over_number}
pub use Rattle.mini_terms.specs.declared.evident.Evidence.{Evidence}
use Rattle.mini_terms.specs.declared.evident.Evidence.TheVariants as evident
use Rattle.mini_terms.specs.Kind.{Kind, IsObject, is_undefined_name, kind}

-- Conversions

-- ECMA-262, "ToBoolean"
abbrev pub counts : Evidence → Bool
counts evident.Undefined = false
counts evident.Null = false
counts (evident.Boolean b) = b
counts (evident.Number n) = truth (Number n)
counts (evident.Text b n) = b

abbrev pub is_text : Evidence → Bool
is_text (evident.Text b n) = true
is_text x = false

abbrev pub is_nullish : Evidence → Bool
is_nullish evident.Undefined = true
is_nullish evident.Null = true
is_nullish x = false

-- whether its text has units (ECMA-262, "ToString"): that of all but a text has
abbrev pub has_units : Evidence → Bool
has_units (evident.Text b n) = b
has_units x = true

-- its number, where that is whole and evident (ECMA-262, "ToNumber"): of a text that is written out
-- it is
abbrev pub number_of : Evidence → Option ℤ
number_of evident.Undefined = None
number_of evident.Null = Some (pos 0)
number_of (evident.Boolean true) = Some (pos 1)
number_of (evident.Boolean false) = Some (pos 0)
number_of (evident.Number n) = Some n
number_of (evident.Text b n) = n

-- of a text that is written out, and of one that is made
abbrev pub text_evidence : List ℕ → Evidence
text_evidence s = evident.Text (truth (String s)) (made (to_number (String s)))

abbrev pub made_text : Bool → Evidence
made_text b = evident.Text b None

-- of a number or a boolean
abbrev pub shown : Option Value → Option Evidence
shown (Some (Number n)) = Some (evident.Number n)
shown (Some (Boolean b)) = Some (evident.Boolean b)
shown v = None

-- Operators

abbrev pub undefined_if : Bool → Option Evidence
undefined_if true = Some evident.Undefined
undefined_if false = None

-- `void a` is undefined whatever a is; no type is an empty text
abbrev pub unary_evidence : UnaryOperator → Option Evidence → Option Evidence
unary_evidence unary.Void c = Some evident.Undefined
unary_evidence unary.LogicalNot (Some x) = Some (evident.Boolean (not (counts x)))
unary_evidence unary.Typeof (Some x) = Some (made_text true)
unary_evidence o (Some x) = shown (over_number o (number_of x))
unary_evidence o None = None

-- an operator of two numbers, but for equality
abbrev pub over_numbers : BinaryOperator → Option ℤ → Option ℤ → Option Value
over_numbers o (Some m) (Some n) = made (of_numbers o m n)
over_numbers o _ _ = None

-- two texts are ordered by their units
abbrev pub is_order : BinaryOperator → Bool
is_order binary.LessThan = true
is_order binary.GreaterThan = true
is_order binary.LessEqualThan = true
is_order binary.GreaterEqualThan = true
is_order o = false

abbrev pub numbers_evidence : BinaryOperator → Evidence → Evidence → Option Evidence
numbers_evidence o x y = if is_order o && (is_text x && is_text y) then None else shown (over_numbers o (number_of x) (number_of y))

-- the text of a sum has units where that of a side has some
abbrev pub sum_evidence : Evidence → Evidence → Option Evidence
sum_evidence x y = if is_text x || is_text y then Some (made_text (has_units x || has_units y)) else numbers_evidence binary.Addition x y

abbrev pub both_evidence : BinaryOperator → Evidence → Evidence → Option Evidence
both_evidence binary.Addition x y = sum_evidence x y
both_evidence o x y = numbers_evidence o x y

abbrev pub binary_evidence : BinaryOperator → Option Evidence → Option Evidence → Option Evidence
binary_evidence o (Some x) (Some y) = both_evidence o x y
binary_evidence o _ _ = None

abbrev pub decided : LogicalOperator → Evidence → Evidence → Evidence
decided And x y = choose (counts x) y x
decided Or x y = choose (counts x) x y
decided Coalesce x y = choose (is_nullish x) y x

abbrev pub logical_evidence : LogicalOperator → Option Evidence → Option Evidence → Option Evidence
logical_evidence o (Some x) (Some y) = Some (decided o x y)
logical_evidence o _ _ = None

abbrev pub conditional_evidence : Option Evidence → Option Evidence → Option Evidence → Option Evidence
conditional_evidence (Some x) (Some y) (Some z) = Some (choose (counts x) y z)
conditional_evidence _ _ _ = None

-- Templates

-- whether a piece of a template's text has units, where it cooks
abbrev pub units_in : Shape → Option Bool
units_in (shape.TemplateElement is_tail raw (Some cooked)) = Some (truth (String cooked))
units_in h = None

abbrev pub units_of : Option Evidence → Option Bool
units_of (Some x) = Some (has_units x)
units_of None = None

-- of two, which are both known
abbrev pub either : Option Bool → Option Bool → Option Bool
either (Some b) (Some c) = Some (b || c)
either _ _ = None

-- where nothing stands behind it
abbrev pub alone : Trees → Option Bool → Option Bool
alone none b = b
alone (q ▸ qs) b = None

-- whether pieces of text, with these values between them, have units
abbrev pub units_between : Trees → List (Option Evidence) → Option Bool
units_between none cs = None
units_between (q ▸ qs) [] = alone qs (units_in (shape_of q))
units_between (q ▸ qs) (c ∷ cs) = either (units_in (shape_of q)) (either (units_of c) (units_between qs cs))

abbrev pub text_if : Option Bool → Option Evidence
text_if (Some b) = Some (made_text b)
text_if None = None

abbrev pub nth_items : List (List (Option Evidence)) → ℕ → List (Option Evidence)
nth_items [] i = []
nth_items (cs ∷ css) zero = cs
nth_items (cs ∷ css) (suc i) = nth_items css i

-- the lists of a template
abbrev pub are_lists : Trees → Bool
are_lists ts = nat_eq (count ts) 2 && (is_listed (child_or_absent ts 0) && is_listed (child_or_absent ts 1))

abbrev pub template_evidence : Trees → List (List (Option Evidence)) → Option Evidence
template_evidence ts css = if are_lists ts then text_if (units_between (children (child_or_absent ts 0)) (nth_items css 1)) else None

-- All

abbrev pub nth_evidence : List (Option Evidence) → ℕ → Option Evidence
nth_evidence [] i = None
nth_evidence (c ∷ cs) zero = c
nth_evidence (c ∷ cs) (suc i) = nth_evidence cs i

abbrev pub last_evidence : List (Option Evidence) → Option Evidence
last_evidence [] = None
last_evidence (c ∷ []) = c
last_evidence (c ∷ (d ∷ cs)) = last_evidence (d ∷ cs)

-- by what is evident of the children, that of a list being that of its last item, and of their
-- items
abbrev pub evidence_by : Shape → List NameKind → Trees → List (Option Evidence) → List (List (Option Evidence)) → Option Evidence
evidence_by shape.Listed xs ts cs css = last_evidence cs
evidence_by shape.Identifier xs ts cs css = undefined_if (is_undefined_name (first_kind xs))
evidence_by (shape.NumericLiteral n) xs ts cs css = Some (evident.Number n)
evidence_by (shape.StringLiteral s) xs ts cs css = Some (text_evidence s)
evidence_by (shape.BooleanLiteral b) xs ts cs css = Some (evident.Boolean b)
evidence_by shape.NullLiteral xs ts cs css = Some evident.Null
evidence_by (shape.UnaryExpression o) xs ts cs css = unary_evidence o (nth_evidence cs 0)
evidence_by (shape.BinaryExpression o) xs ts cs css = binary_evidence o (nth_evidence cs 0) (nth_evidence cs 1)
evidence_by (shape.LogicalExpression o) xs ts cs css = logical_evidence o (nth_evidence cs 0) (nth_evidence cs 1)
evidence_by shape.ConditionalExpression xs ts cs css = conditional_evidence (nth_evidence cs 0) (nth_evidence cs 1) (nth_evidence cs 2)
evidence_by shape.SequenceExpression xs ts cs css = nth_evidence cs 0
evidence_by shape.TemplateLiteral xs ts cs css = template_evidence ts css
evidence_by _ xs ts cs css = None

abbrev mutual
  -- what is evident of the constant of an expression
  pub evidence : Tree → Option Evidence
  evidence (node h xs n ts) = evidence_by h (kinds xs) ts (each_evidence ts) (each_items ts)

  pub each_evidence : Trees → List (Option Evidence)
  each_evidence none = []
  each_evidence (t ▸ ts) = evidence t ∷ each_evidence ts

  pub items_in : Tree → List (Option Evidence)
  items_in (node h xs n ts) = each_evidence ts

  pub each_items : Trees → List (List (Option Evidence))
  each_items none = []
  each_items (t ▸ ts) = items_in t ∷ each_items ts

abbrev pub truth_by : Option Evidence → Kind → Option Bool
truth_by (Some x) k = Some (counts x)
truth_by None IsObject = Some true
truth_by None k = None

-- and true where the Kind is Object
abbrev pub evident_truth : Tree → Option Bool
evident_truth t = truth_by (evidence t) (kind t)

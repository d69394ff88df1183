-- The constant of an expression as it is calculated, whatever the expression does besides: its
-- Const, of a number only where that is safe, and of a template whose lists are those of pieces and
-- of parts.
use Rattle.std.specs.Prelude.{◌≡◌, ℕ, zero, suc, pos, nat_le, Bool, true, ◌&&◌, List, [], ◌∷◌, length, codes, Option, Some, None, if◌then◌else◌}
use Rattle.mini_model.specs.Numerals.{max_safe_integer}
use Rattle.mini_model.specs.declared.shape.Shape.{Shape}
use Rattle.mini_model.specs.declared.shape.Shape.TheVariants as shape
use Rattle.mini_model.specs.Tree.{Tree, Trees, node, none, ◌▸◌, children, shape_of, child_or_absent}
use Rattle.mini_model.specs.Weight.{same_text}
use Rattle.mini_laws.specs.Value.{Value, Null, Boolean, Number, String, truth}
use Rattle.mini_laws.specs.Naming.{NameKind, kinds}
use Rattle.mini_laws.specs.State.{State, Environment}
use Rattle.mini_laws.specs.Demand.{Val, As}
use Rattle.mini_laws.specs.Step.{means}
use Rattle.mini_laws.specs.Expressions.{first_kind}
use Rattle.mini_terms.specs.Calculated.{undefined_if, unary_value}
use Rattle.mini_terms.specs.Const.{binary_const, logical_const, conditional_const, text_of, nth_const, last_const, const, Agrees}
use Rattle.mini_terms.specs.Evident.{are_lists}
use Rattle.mini_terms.specs.Kind.{is_undefined_name, kind}
use Rattle.mini_terms.specs.Templates.{cooked_in, joined_text, last_text, text_value}
use Rattle.mini_terms.specs.Sound.{Gives}
use Rattle.mini_terms.specs.Truth.{truth_by}

-- `length` of a text, where it is a number that a program may write
abbrev pub length_of : List ℕ → List ℕ → Option Value
length_of s k = if same_text k (codes "length") && nat_le (length s) max_safe_integer then Some (Number (pos (length s))) else None

abbrev pub member_constant : Option Value → Option Value → Option Value
member_constant (Some (String s)) (Some (String k)) = length_of s k
member_constant _ _ = None

-- pieces of text, with these values between them
abbrev pub text_round : Trees → List (Option Value) → Option (List ℕ)
text_round none cs = None
text_round (p ▸ ps) [] = last_text ps (cooked_in (shape_of p))
text_round (p ▸ ps) (c ∷ cs) = joined_text (cooked_in (shape_of p)) (joined_text (text_of c) (text_round ps cs))

abbrev pub nth_constants : List (List (Option Value)) → ℕ → List (Option Value)
nth_constants [] i = []
nth_constants (cs ∷ css) zero = cs
nth_constants (cs ∷ css) (suc i) = nth_constants css i

abbrev pub template_constant : Trees → List (List (Option Value)) → Option Value
template_constant ts css = if are_lists ts then text_value (text_round (children (child_or_absent ts 0)) (nth_constants css 1)) else None

-- by the constants of the children, that of a list being that of its last item, and of their items
abbrev pub constant_by : Shape → List NameKind → Trees → List (Option Value) → List (List (Option Value)) → Option Value
constant_by shape.Listed xs ts cs css = last_const cs
constant_by shape.InnerExpression xs ts cs css = nth_const cs 0
constant_by shape.Identifier xs ts cs css = undefined_if (is_undefined_name (first_kind xs))
constant_by (shape.IdentifierName s) xs ts cs css = Some (String s)
constant_by (shape.NumericLiteral n) xs ts cs css = Some (Number n)
constant_by (shape.StringLiteral s) xs ts cs css = Some (String s)
constant_by (shape.BooleanLiteral b) xs ts cs css = Some (Boolean b)
constant_by shape.NullLiteral xs ts cs css = Some Null
constant_by (shape.UnaryExpression o) xs ts cs css = unary_value true o (nth_const cs 0)
constant_by (shape.BinaryExpression o) xs ts cs css = binary_const o (nth_const cs 0) (nth_const cs 1)
constant_by (shape.LogicalExpression o) xs ts cs css = logical_const o (nth_const cs 0) (nth_const cs 1)
constant_by shape.ConditionalExpression xs ts cs css = conditional_const (nth_const cs 0) (nth_const cs 1) (nth_const cs 2)
constant_by shape.SequenceExpression xs ts cs css = nth_const cs 0
constant_by (shape.StaticMemberExpression is_optional) xs ts cs css = member_constant (nth_const cs 0) (nth_const cs 1)
constant_by (shape.ComputedMemberExpression is_optional) xs ts cs css = member_constant (nth_const cs 0) (nth_const cs 1)
constant_by shape.TemplateLiteral xs ts cs css = template_constant ts css
constant_by _ xs ts cs css = None

abbrev mutual
  pub constant : Tree → Option Value
  constant (node h xs n ts) = constant_by h (kinds xs) ts (each_constant ts) (each_constants ts)

  pub each_constant : Trees → List (Option Value)
  each_constant none = []
  each_constant (t ▸ ts) = constant t ∷ each_constant ts

  pub constants_in : Tree → List (Option Value)
  constants_in (node h xs n ts) = each_constant ts

  pub each_constants : Trees → List (List (Option Value))
  each_constants none = []
  each_constants (t ▸ ts) = constants_in t ∷ each_constants ts

-- whether it counts as true, by that
abbrev pub constant_truth : Tree → Option Bool
constant_truth t = truth_by (constant t) (kind t)

-- what is calculated is the Const
abbrev pub ConstantIsConst : Type 0
ConstantIsConst = (t : Tree) (v : Value) → constant t ≡ Some v → const t ≡ Some v

-- each value that it has counts as that
abbrev pub ConstantTruth : Type 0
ConstantTruth = (t : Tree) (e : Environment) (s : State) → Gives (λ v. Agrees (constant_truth t) (truth v)) (means e t (As Val) tt s)

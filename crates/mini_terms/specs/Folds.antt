-- What goes of an expression where this is known of a part of it.
use Rattle.std.specs.Prelude.{◌≡◌, Bool, true, false, not, ◌&&◌, Option, Some, None}
use Rattle.mini_model.specs.declared.operator.LogicalOperator.{LogicalOperator}
use Rattle.mini_model.specs.declared.operator.LogicalOperator.TheVariants.{Or, And, Coalesce}
use Rattle.mini_model.specs.Tree.{Tree, logical, expression_statement, empty_statement}
use Rattle.mini_laws.specs.Value.{VariableSet}
use Rattle.mini_laws.specs.State.{Environment}
use Rattle.mini_laws.specs.Demand.{Tail, Stat}
use Rattle.mini_laws.specs.Same.{Same}
use Rattle.mini_terms.specs.Kind.{Kind, Undetermined, is_nullish_kind, common, kind}
use Rattle.mini_terms.specs.Effects.{ef}
use Rattle.mini_terms.specs.Evident.{evident_truth}
use Rattle.mini_terms.specs.Reading.{SameWanted}

-- wherever it stands: `this` may be asked of the world
abbrev pub is_effect_free : Tree → Bool
is_effect_free t = ef true t

abbrev pub is_true : Option Bool → Bool
is_true (Some b) = b
is_true None = false

abbrev pub is_false : Option Bool → Bool
is_false (Some b) = not b
is_false None = false

abbrev pub is_known : Kind → Bool
is_known Undetermined = false
is_known k = true

-- both values are of one Kind, which is known
abbrev pub has_one_kind : Tree → Tree → Bool
has_one_kind a b = is_known (common (kind a) (kind b))

-- the right side is evaluated after this left one
abbrev pub goes_on : LogicalOperator → Tree → Bool
goes_on And a = is_true (evident_truth a)
goes_on Or a = is_false (evident_truth a)
goes_on Coalesce a = is_nullish_kind (kind a)

-- it is never evaluated after this one
abbrev pub stops : LogicalOperator → Tree → Bool
stops And a = is_false (evident_truth a)
stops Or a = is_true (evident_truth a)
stops Coalesce a = is_known (kind a) && not (is_nullish_kind (kind a))

-- `a && b` means b, where a is effect-free and known to be true; so do `a || b` with a known to be
-- false, and `a ?? b` with a known to be undefined or null
abbrev pub GoesOnSame : Type 0
GoesOnSame = (o : LogicalOperator) (a b : Tree) → goes_on o a ≡ true → is_effect_free a ≡ true → SameWanted (logical o a b) b

-- and a, where the right side is never evaluated
abbrev pub StopsSame : Type 0
StopsSame = (o : LogicalOperator) (a b : Tree) → stops o a ≡ true → SameWanted (logical o a b) a

-- an effect-free expression statement does nothing
abbrev pub DoesNothing : Type 0
DoesNothing = (a : Tree) → is_effect_free a ≡ true → (e : Environment) (D X : VariableSet) (t : Option Tail) → Same e D X (Stat t) (expression_statement a) empty_statement

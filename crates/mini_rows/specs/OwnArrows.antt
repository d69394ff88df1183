-- Rows in the own code of an arrow function, whose body is a block or an expression; and in that of
-- a function, whichever it is.
use Rattle.std.specs.Prelude.{◌≡◌, ◌⊎◌, ℕ, Bool, List, []}
use Rattle.mini_model.specs.declared.place.Position.{Position}
use Rattle.mini_model.specs.declared.place.Position.TheVariants.{Expr}
use Rattle.mini_model.specs.declared.shape.Shape.{Shape}
use Rattle.mini_model.specs.declared.shape.Shape.TheVariants as shape
use Rattle.mini_model.specs.Tree.{Tree, node, none, ◌▸◌}
use Rattle.mini_model.specs.Position.{argument_seat}
use Rattle.mini_laws.specs.Value.{VariableSet}
use Rattle.mini_laws.specs.Weights.{Lightens}
use Rattle.mini_kept.specs.Loosely.{LawfulUnder}
use Rattle.mini_kept.specs.Without.{Assured, BodySets}
use Rattle.mini_rows.specs.Steady.{nothing_begun, own_rows, KeepsOwn, OwnRows, OwnStep, OwnFunction, SteadyRow, LexicalRows}

-- an arrow function with its parameters and its body
abbrev pub arrow_over : List (List ℕ) → ℕ → Tree → Tree → Tree
arrow_over directives n parameters body = node (shape.ArrowFunctionExpression directives) [] n (parameters ▸ (body ▸ none))

-- its body takes a step by a row of F, over what S says of the body with its number
pub record OwnArrowRow (F : OwnRows) (S : BodySets) (n w : Tree) : Type 0 where
  pub directives : List (List ℕ)
  pub number : ℕ
  pub parameters : Tree
  pub before : Tree
  pub after : Tree
  pub step : OwnStep (own_rows F before (S number)) nothing_begun (Expr argument_seat) before after
  pub shape : n ≡ arrow_over directives number parameters before
  pub written : w ≡ arrow_over directives number parameters after

-- it is an expression
abbrev pub OwnArrow : OwnRows → BodySets → Position → Tree → Tree → Type 0
OwnArrow F S (Expr s) n w = OwnArrowRow F S n w
OwnArrow F S _ n w = ⊥

-- in the own code of either
abbrev pub OwnCode : OwnRows → BodySets → Position → Tree → Tree → Type 0
OwnCode F S p n w = OwnFunction F S p n w ⊎ OwnArrow F S p n w

-- ---- the laws

-- what is written there keeps all that a program has to keep, whichever functions and classes may
-- lose their own name and whichever variables can be written
abbrev pub OwnCodeIsLawful : OwnRows → Type 0
OwnCodeIsLawful F = ((V : Assured) → KeepsOwn V (F V)) → (K : Shape → Bool) (W : VariableSet) (S : BodySets) → LawfulUnder K W S (OwnCode F S)

-- and is lighter
abbrev pub OwnCodeLightens : OwnRows → Type 0
OwnCodeLightens F = ((V : Assured) → KeepsOwn V (F V)) → (S : BodySets) → Lightens (OwnCode F S)

-- so of 38 of members, and of 80 and 84 with lexical names
abbrev pub SteadyCode : BodySets → Position → Tree → Tree → Type 0
SteadyCode = OwnCode SteadyRow

abbrev pub LexicalCode : BodySets → Position → Tree → Tree → Type 0
LexicalCode = OwnCode LexicalRows

abbrev pub SteadyCodeIsLawful : Type 0
SteadyCodeIsLawful = (K : Shape → Bool) (W : VariableSet) (S : BodySets) → LawfulUnder K W S (SteadyCode S)

abbrev pub SteadyCodeLightens : Type 0
SteadyCodeLightens = (S : BodySets) → Lightens (SteadyCode S)

abbrev pub LexicalCodeIsLawful : Type 0
LexicalCodeIsLawful = (K : Shape → Bool) (W : VariableSet) (S : BodySets) → LawfulUnder K W S (LexicalCode S)

abbrev pub LexicalCodeLightens : Type 0
LexicalCodeLightens = (S : BodySets) → Lightens (LexicalCode S)

-- Rows in the own code of a static block, and of an inner expression: the value of a field, a key
-- in brackets or a default in a pattern, what a class extends, an argument of `super()`, and their
-- like, which the world evaluates (ECMA-262, "ClassDefinitionEvaluation", "BindingInitialization",
-- "DestructuringAssignmentEvaluation").
use Rattle.std.specs.Prelude.{◌≡◌, ◌⊎◌, ℕ, Bool, []}
use Rattle.mini_model.specs.declared.place.Position.{Position}
use Rattle.mini_model.specs.declared.place.Position.TheVariants.{StatementList}
use Rattle.mini_model.specs.declared.shape.Shape.{Shape}
use Rattle.mini_model.specs.declared.shape.Shape.TheVariants as shape
use Rattle.mini_model.specs.Tree.{Tree, node, none, ◌▸◌}
use Rattle.mini_laws.specs.Value.{VariableSet}
use Rattle.mini_laws.specs.Weights.{Lightens}
use Rattle.mini_kept.specs.KeepsFrames.{KeepsPlaces}
use Rattle.mini_kept.specs.Rooted.{LawfulRooted}
use Rattle.mini_kept.specs.Without.{Assured, BodySets}
use Rattle.mini_rows.specs.Steady.{nothing_begun, own_rows, KeepsOwn, OwnRows, OwnStep, SteadyRow, LexicalRows}

-- a static block over its list of statements
abbrev pub block_over : ℕ → Tree → Tree
block_over n list = node shape.StaticBlock [] n (list ▸ none)

-- that takes a step by a row of F, over what S says of the body with the block's number:
-- `class A { static { const x = a(); x.k || (x.k = b); } }` becomes
-- `class A { static { const x = a(); x.k ||= b; } }`
pub record OwnBlockRow (F : OwnRows) (S : BodySets) (n w : Tree) : Type 0 where
  pub number : ℕ
  pub before : Tree
  pub after : Tree
  pub step : OwnStep (own_rows F before (S number)) nothing_begun StatementList before after
  pub shape : n ≡ block_over number before
  pub written : w ≡ block_over number after

-- an inner expression over what it holds, which stands in its place
abbrev pub inner_over : ℕ → Tree → Tree
inner_over n value = node shape.InnerExpression [] n (value ▸ none)

-- that takes one: `class A { y = this.k || (this.k = b); }` becomes `class A { y = this.k ||= b; }`
pub record OwnInnerRow (F : OwnRows) (S : BodySets) (p : Position) (n w : Tree) : Type 0 where
  pub number : ℕ
  pub before : Tree
  pub after : Tree
  pub step : OwnStep (own_rows F before (S number)) nothing_begun p before after
  pub shape : n ≡ inner_over number before
  pub written : w ≡ inner_over number after

-- either, wherever it stands
abbrev pub OwnPart : OwnRows → BodySets → Position → Tree → Tree → Type 0
OwnPart F S p n w = OwnBlockRow F S n w ⊎ OwnInnerRow F S p n w

-- ---- the laws

-- What is written there keeps all that a program has to keep, whichever functions and classes may
-- lose their own name and whichever variables can be written, where rows of F leave imports,
-- exports and functions where they stand
abbrev pub OwnPartsAreLawful : OwnRows → Type 0
OwnPartsAreLawful F = ((V : Assured) → KeepsOwn V (F V)) → ((V : Assured) → KeepsPlaces (F V)) → (K : Shape → Bool) (W : VariableSet) (S : BodySets) → LawfulRooted K W S (OwnPart F S)

-- and is lighter
abbrev pub OwnPartsLighten : OwnRows → Type 0
OwnPartsLighten F = ((V : Assured) → KeepsOwn V (F V)) → (S : BodySets) → Lightens (OwnPart F S)

-- so of rows of members, and of 80 and 84 with lexical names
abbrev pub SteadyPart : BodySets → Position → Tree → Tree → Type 0
SteadyPart = OwnPart SteadyRow

abbrev pub LexicalPart : BodySets → Position → Tree → Tree → Type 0
LexicalPart = OwnPart LexicalRows

abbrev pub SteadyPartsAreLawful : Type 0
SteadyPartsAreLawful = (K : Shape → Bool) (W : VariableSet) (S : BodySets) → LawfulRooted K W S (SteadyPart S)

abbrev pub SteadyPartsLighten : Type 0
SteadyPartsLighten = (S : BodySets) → Lightens (SteadyPart S)

abbrev pub LexicalPartsAreLawful : Type 0
LexicalPartsAreLawful = (K : Shape → Bool) (W : VariableSet) (S : BodySets) → LawfulRooted K W S (LexicalPart S)

abbrev pub LexicalPartsLighten : Type 0
LexicalPartsLighten = (S : BodySets) → Lightens (LexicalPart S)

-- Row 71 past steady names in the body of an arrow function.
use Rattle.std.specs.Prelude.{◌≡◌, ℕ, Bool, List}
use Rattle.mini_model.specs.declared.place.Position.{Position}
use Rattle.mini_model.specs.declared.place.Position.TheVariants.{Expr}
use Rattle.mini_model.specs.declared.shape.Shape.{Shape}
use Rattle.mini_model.specs.Tree.{Tree, Trees, listed}
use Rattle.mini_laws.specs.Weights.{Lightens}
use Rattle.mini_kept.specs.Loosely.{LawfulUnder}
use Rattle.mini_kept.specs.Without.{BodySets}
use Rattle.mini_rows.specs.Past.{PastRow}
use Rattle.mini_rows.specs.Switches.{Liberties}
use Rattle.mini_rows.specs.Unused.{arrow_with}

-- an arrow function with such statements: `g => { let x = a(); return g(x); }` becomes
-- `g => { ; return g(a()); }`. Its parameters are read like what stands before the declaration
pub record PastArrowRow (S : BodySets) (W : Liberties) (n w : Tree) : Type 0 where
  pub directives : List (List ℕ)
  pub number : ℕ
  pub parameters : Trees
  pub before : Trees
  pub after : Trees
  pub row : PastRow (S number) W (listed parameters) before after
  pub shape : n ≡ arrow_with directives number parameters before
  pub written : w ≡ arrow_with directives number parameters after

-- as an expression, as which it stands
abbrev pub PastArrow : BodySets → Liberties → Position → Tree → Tree → Type 0
PastArrow S W (Expr s) n w = PastArrowRow S W n w
PastArrow S W _ n w = ⊥

-- ---- the laws

-- it makes the whole lighter
abbrev pub PastArrowLightens : Type 0
PastArrowLightens = (S : BodySets) (W : Liberties) → Lightens (PastArrow S W)

-- and it drops a name that nothing mentions, where S says what is known of each body and the
-- variables W can be written, whichever functions and classes may lose their own name
abbrev pub PastArrowIsLawful : Type 0
PastArrowIsLawful = (K : Shape → Bool) (W : Liberties) (S : BodySets) → LawfulUnder K W.writable S (PastArrow S W)

-- Row 71 past steady names in the statements of a module.
use Rattle.std.specs.Prelude.{◌≡◌, ℕ, Bool, true, List}
use Rattle.mini_model.specs.declared.place.Position.{Position}
use Rattle.mini_model.specs.declared.place.Position.TheVariants.{Elsewhere}
use Rattle.mini_model.specs.declared.shape.Shape.{Shape}
use Rattle.mini_model.specs.Tree.{Tree, Trees, none, listed, program}
use Rattle.mini_laws.specs.Weights.{Lightens}
use Rattle.mini_kept.specs.Rooted.{LawfulRooted}
use Rattle.mini_kept.specs.Without.{BodySets}
use Rattle.mini_rows.specs.Past.{PastRow}
use Rattle.mini_rows.specs.Switches.{Liberties}

-- a module with such statements: `const y = a(); const x = b(); c(y, x);` becomes
-- `const y = a(); ; c(y, b());`. What it exports is mentioned once more or declared where it is
-- exported, so that it stays. The body is known by the number that a program has, which is none
pub record PastModuleRow (S : BodySets) (W : Liberties) (n w : Tree) : Type 0 where
  pub directives : List (List ℕ)
  pub before : Trees
  pub after : Trees
  pub row : PastRow (S 0) W (listed none) before after
  pub shape : n ≡ program true directives before
  pub written : w ≡ program true directives after

-- it is a root
abbrev pub PastModule : BodySets → Liberties → Position → Tree → Tree → Type 0
PastModule S W Elsewhere n w = PastModuleRow S W n w
PastModule S W _ n w = ⊥

-- ---- the laws

-- it makes the whole lighter
abbrev pub PastModuleLightens : Type 0
PastModuleLightens = (S : BodySets) (W : Liberties) → Lightens (PastModule S W)

-- and the program is kept but for a name that nothing mentions, where S says what is known of its
-- body and the variables W can be written, whichever functions and classes may lose their own name
abbrev pub PastModuleIsLawful : Type 0
PastModuleIsLawful = (K : Shape → Bool) (W : Liberties) (S : BodySets) → LawfulRooted K W.writable S (PastModule S W)

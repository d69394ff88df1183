-- Row 71 past steady names in a static block.
use Rattle.std.specs.Prelude.{◌≡◌, ℕ, Bool}
use Rattle.mini_model.specs.declared.place.Position.{Position}
use Rattle.mini_model.specs.declared.place.Position.TheVariants.{Elsewhere}
use Rattle.mini_model.specs.declared.shape.Shape.{Shape}
use Rattle.mini_model.specs.Tree.{Tree, Trees, none, listed}
use Rattle.mini_laws.specs.Weights.{Lightens}
use Rattle.mini_kept.specs.Rooted.{LawfulRooted}
use Rattle.mini_kept.specs.Without.{BodySets}
use Rattle.mini_rows.specs.Past.{PastRow}
use Rattle.mini_rows.specs.Switches.{Liberties}
use Rattle.mini_rows.specs.Unused.{static_block}

-- a static block with such statements: `class A { static { const y = a(), x = b(); c(y, x); } }`
-- becomes `class A { static { const y = a(); c(y, b()); } }`, over what S says of the body with the
-- block's number
pub record PastStaticRow (S : BodySets) (W : Liberties) (n w : Tree) : Type 0 where
  pub number : ℕ
  pub before : Trees
  pub after : Trees
  pub row : PastRow (S number) W (listed none) before after
  pub shape : n ≡ static_block number before
  pub written : w ≡ static_block number after

-- it stands in a class
abbrev pub PastStatic : BodySets → Liberties → Position → Tree → Tree → Type 0
PastStatic S W Elsewhere n w = PastStaticRow S W n w
PastStatic S W _ n w = ⊥

-- ---- the laws

-- it makes the whole lighter
abbrev pub PastStaticLightens : Type 0
PastStaticLightens = (S : BodySets) (W : Liberties) → Lightens (PastStatic S W)

-- and a program with it is kept but for a name that nothing mentions, where S says what is known of
-- each body and the variables W can be written, whichever functions and classes may lose their own
-- name
abbrev pub PastStaticIsLawful : Type 0
PastStaticIsLawful = (K : Shape → Bool) (W : Liberties) (S : BodySets) → LawfulRooted K W.writable S (PastStatic S W)

-- Rows of the head of a `for`, as equations: each is a shape and what is written in its place.
use Rattle.std.specs.Prelude.{◌≡◌, ◌⊎◌, Bool, true, ◌&&◌}
use Rattle.mini_model.specs.Tree.{Tree, absent}
use Rattle.mini_terms.specs.Folds.{is_effect_free}
use Rattle.mini_terms.specs.Parts.{leaves_nothing, weighs}
use Rattle.mini_terms.specs.Reading.{is_plain_part}
use Rattle.mini_rows.specs.Lists.{for_loop}

-- its value is asked by nobody, and it does nothing: it is effect-free, leaves nothing behind, and
-- a parent reads no more of it than that it is there
abbrev pub is_idle : Tree → Bool
is_idle t = is_effect_free t && (leaves_nothing t && (weighs t && is_plain_part t))

-- 22, of what a `for` begins with: `for (0; a; b) c` becomes `for (; a; b) c`
pub record Row22Init (n w : Tree) : Type 0 where
  pub init : Tree
  pub test : Tree
  pub update : Tree
  pub body : Tree
  pub idle : is_idle init ≡ true
  pub shape : n ≡ for_loop init test update body
  pub written : w ≡ for_loop absent test update body

-- 22, of what it does after each turn: `for (; a; i) c` becomes `for (; a;) c`
pub record Row22Update (n w : Tree) : Type 0 where
  pub init : Tree
  pub test : Tree
  pub update : Tree
  pub body : Tree
  pub idle : is_idle update ≡ true
  pub shape : n ≡ for_loop init test update body
  pub written : w ≡ for_loop init test absent body

-- a row of the head of a `for` reads n as w
abbrev pub ForPartRow : Tree → Tree → Type 0
ForPartRow n w = Row22Init n w ⊎ Row22Update n w

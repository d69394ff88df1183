-- What the tables tell of a body: which names are steady in it, that is no reference writes them,
-- and they aren't foreign to it; which of these it begins with; which names it doesn't share; and
-- whether it has a `this` that it needn't ask for. In
--
--     function f(x, y) { let z = 1; var v = 2; return () => x + z + v; }
--
-- x and y are steady in f and in the arrow, and z and v in f alone, as the arrow may be called
-- before z is declared and before v has its value. With `y = 2` in it the arrow writes y, which
-- then is steady in no body. Both begin with x and y, and f with v, which is undefined then.
-- Neither shares y.
use Rattle.std.specs.Prelude.{ℕ, ◌≡◌, ◌<◌, nat_lt, Bool, false, not, ◌&&◌, length}
use Rattle.std.specs.List.{list_any}
use Rattle.mini_model.specs.Tree.{Tree}
use Rattle.mini_laws.specs.Foreign.{is_foreign, is_write, lexical_variables}
use Rattle.mini_context.specs.Facts.{Facts, Looked, Told, foreign, is_assigned, shares}
use Rattle.mini_context.specs.Asking.{asks_as}
use Rattle.mini_laws.specs.Bodies.{bodies_in}
use Rattle.mini_laws.specs.Mentions.{is_among, program_mentions}
use Rattle.mini_laws.specs.Shared.{is_shared}
use Rattle.mini_context.specs.Tables.{mark_at, named}

abbrev pub is_steady : Facts → ℕ → ℕ → Bool
is_steady f s b = not (is_assigned f s) && not (foreign f s b)

-- the tables have no room for the symbol
abbrev pub is_past : Facts → ℕ → Bool
is_past f s = not (nat_lt s (length f.reads))

-- it is initialised as the body begins: of a lexical name that is never told
abbrev pub is_initial : Facts → ℕ → ℕ → Bool
is_initial f s b = is_steady f s b && not (mark_at f.lexical s)

-- no event of the body shows it
abbrev pub is_unshared : Facts → ℕ → ℕ → Bool
is_unshared f s b = not (shares f s b)

-- a body with this number doesn't ask the world for `this`
abbrev pub has_this : Facts → ℕ → Bool
has_this f b = not (mark_at f.asking b)

-- ---- laws

-- the tables tell of the program what is steady
abbrev pub SteadyTells : Type 0
SteadyTells = (f : Facts) (n : ℕ) (t : Tree) → Looked f n t → (s b : ℕ) → s < n → is_steady f s b ≡ (not (list_any (is_write (named s)) (program_mentions t)) && not (is_foreign t b (named s)))

-- and all of it
pub record TellsBodies (f : Facts) (n : ℕ) (t : Tree) : Type 0 where
  pub steady : (s b : ℕ) → s < n → is_steady f s b ≡ (not (list_any (is_write (named s)) (program_mentions t)) && not (is_foreign t b (named s)))
  pub unshared : (s b : ℕ) → s < n → is_unshared f s b ≡ not (is_shared t b (named s))
  pub initial : (s b : ℕ) → s < n → is_initial f s b ≡ ((not (list_any (is_write (named s)) (program_mentions t)) && not (is_foreign t b (named s))) && not (is_among (named s) (lexical_variables false t)))
  pub has_this : (b : ℕ) → has_this f b ≡ not (list_any (asks_as b) (bodies_in t))

abbrev pub BodiesTold : Type 0
BodiesTold = (f : Facts) (n : ℕ) (t : Tree) → Told f n t → TellsBodies f n t

-- Rows of what has no effect where a body has its `this`, as equations: each is a shape and what is
-- written in its place, with the JavaScript before and after. V says what is known of the body in
-- which it stands.
use Rattle.std.specs.Prelude.{◌≡◌, ◌⊎◌, ◌&&◌, Bool, true, false, nat_le}
use Rattle.mini_model.specs.declared.seat.Seat.{Seat}
use Rattle.mini_model.specs.Tree.{Tree, Trees, none, ◌▸◌, count, absent, expression_statement, empty_statement}
use Rattle.mini_model.specs.Paths.{append}
use Rattle.mini_terms.specs.Effects.{ef}
use Rattle.mini_terms.specs.Parts.{leaves_nothing, weighs}
use Rattle.mini_terms.specs.Reading.{is_plain_part}
use Rattle.mini_kept.specs.Without.{Assured}
use Rattle.mini_rows.specs.Lists.{for_loop, sequence}
use Rattle.mini_rows.specs.Sequences.{takes_alone, stays_alone}

-- it has no effect where `this` has none, so where the world isn't asked for it (ECMA-262,
-- "ResolveThisBinding"), and leaves nothing behind
abbrev pub is_still : Tree → Bool
is_still t = ef false t && (leaves_nothing t && weighs t)

-- ---- 22

-- `this;` becomes `;`
pub record Row22This (V : Assured) (n w : Tree) : Type 0 where
  pub expression : Tree
  pub kept : V.has_this ≡ true
  pub still : is_still expression ≡ true
  pub shape : n ≡ expression_statement expression
  pub written : w ≡ empty_statement

-- of the head of a `for`, a parent reads no more of it than that it is there
abbrev pub is_still_part : Tree → Bool
is_still_part t = is_still t && is_plain_part t

-- `for (this; a; b) c` becomes `for (; a; b) c`
pub record Row22InitThis (V : Assured) (n w : Tree) : Type 0 where
  pub init : Tree
  pub test : Tree
  pub update : Tree
  pub body : Tree
  pub kept : V.has_this ≡ true
  pub still : is_still_part init ≡ true
  pub shape : n ≡ for_loop init test update body
  pub written : w ≡ for_loop absent test update body

-- `for (; a; this) c` becomes `for (; a;) c`
pub record Row22UpdateThis (V : Assured) (n w : Tree) : Type 0 where
  pub init : Tree
  pub test : Tree
  pub update : Tree
  pub body : Tree
  pub kept : V.has_this ≡ true
  pub still : is_still_part update ≡ true
  pub shape : n ≡ for_loop init test update body
  pub written : w ≡ for_loop init test absent body

-- ---- 21

-- `a(), this, b()` becomes `a(), b()`
pub record Row21This (V : Assured) (n w : Tree) : Type 0 where
  pub before : Trees
  pub idle : Tree
  pub next : Tree
  pub after : Trees
  pub kept : V.has_this ≡ true
  pub still : is_still idle ≡ true
  pub several : nat_le 2 (count (append before (next ▸ after))) ≡ true
  pub shape : n ≡ sequence (append before (idle ▸ (next ▸ after)))
  pub written : w ≡ sequence (append before (next ▸ after))

-- and where one part is left: `this, a()` becomes `a()`, and `(this, a)()` becomes `a()`
pub record Row21AloneThis (V : Assured) (s : Seat) (n w : Tree) : Type 0 where
  pub idle : Tree
  pub last : Tree
  pub kept : V.has_this ≡ true
  pub still : is_still idle ≡ true
  pub seated : takes_alone s ≡ true
  pub stays : stays_alone s last ≡ true
  pub shape : n ≡ sequence (idle ▸ (last ▸ none))
  pub written : w ≡ last

-- ---- all

-- a row reads n as w in this seat
abbrev pub IdleRow : Assured → Seat → Tree → Tree → Type 0
IdleRow V s n w = Row21This V n w ⊎ Row21AloneThis V s n w

-- and a statement
abbrev pub IdleStatement : Assured → Tree → Tree → Type 0
IdleStatement V n w = Row22This V n w ⊎ (Row22InitThis V n w ⊎ Row22UpdateThis V n w)

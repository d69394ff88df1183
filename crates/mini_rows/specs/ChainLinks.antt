-- The rows of optional chains by what stands before their `?.`: a chain of its own, or a value that
-- is known not to end it (ECMA-262, "Optional Chains").
use Rattle.std.specs.Prelude.{◌≡◌, ◌⊎◌, Bool, true, false, not, ◌&&◌, ◌||◌, List, [], ◌∷◌}
use Rattle.mini_model.specs.declared.seat.Seat.{Seat}
use Rattle.mini_model.specs.declared.shape.Shape.{Shape}
use Rattle.mini_model.specs.declared.shape.Shape.TheVariants as shape
use Rattle.mini_model.specs.Tree.{Tree, shape_of}
use Rattle.mini_terms.specs.Folds.{is_known}
use Rattle.mini_terms.specs.Kind.{is_nullish_kind, kind}
use Rattle.mini_terms.specs.Parts.{is_link}
use Rattle.mini_terms.specs.Reading.{is_plain_part, stands_by}
use Rattle.mini_rows.specs.Chains.{is_calm, Link, linked, is_calm_link, chain}

-- each value of it is known to be neither undefined nor null
abbrev pub is_there : Tree → Bool
is_there t = is_known (kind t) && not (is_nullish_kind (kind t))

-- where it is called its value is what is called, with no `this`: what is read by its value alone,
-- a function, a class or a BigInt
abbrev pub is_lone_by : Shape → Bool
is_lone_by (shape.Function false is_generator directives) = true
is_lone_by (shape.Class false) = true
is_lone_by (shape.BigIntLiteral n) = true
is_lone_by h = stands_by h

abbrev pub is_lone : Tree → Bool
is_lone t = is_lone_by (shape_of t)

-- ---- links, optional or not

pub data Marked : Type 0 where
  marked : Bool → Link → Marked

-- links over what stands before them, the last one first
abbrev pub links_over : List Marked → Tree → Tree
links_over [] t = t
links_over (marked o l ∷ ms) t = linked o l (links_over ms t)

-- of none a part ends a chain
abbrev pub are_calm_over : List Marked → Bool
are_calm_over [] = true
are_calm_over (marked o l ∷ ms) = is_calm_link l && are_calm_over ms

-- one of them is optional
abbrev pub has_mark : List Marked → Bool
has_mark [] = false
has_mark (marked o l ∷ ms) = o || has_mark ms

-- a chain as long as a link is optional
abbrev pub chain_if : Bool → Tree → Tree
chain_if true t = chain t
chain_if false t = t

-- ---- rows

-- 64: `(a?.b)?.c` becomes `a?.b?.c`, since the outer `?.` ends where the inner one does; whatever
-- links stand outside of it
pub record Row64 (n w : Tree) : Type 0 where
  pub others : List Marked
  pub link : Link
  pub inner : Tree
  pub held : is_link (shape_of inner) ≡ true
  pub calm : is_calm_link link ≡ true
  pub calm_others : are_calm_over others ≡ true
  pub shape : n ≡ chain (links_over others (linked true link (chain inner)))
  pub written : w ≡ chain (links_over others (linked true link inner))

-- 11: `[1]?.length` becomes `[1].length`, and `(() => {})?.().a?.b` becomes `(() => {})().a?.b`:
-- what stands before the first `?.` is no undefined and no null. The chain goes with the last `?.`,
-- but as the callee of `new`, where a call would have parentheses too
pub record Row11 (s : Seat) (n w : Tree) : Type 0 where
  pub others : List Marked
  pub link : Link
  pub base : Tree
  pub known : is_there base ≡ true
  pub plain : is_plain_part base ≡ true
  pub value : is_lone base ≡ true
  pub calm_base : is_calm base ≡ true
  pub calm : is_calm_link link ≡ true
  pub calm_others : are_calm_over others ≡ true
  pub called : s.new_callee ≡ false
  pub shape : n ≡ chain (links_over others (linked true link base))
  pub written : w ≡ chain_if (has_mark others) (links_over others (linked false link base))

abbrev pub ChainRow : Seat → Tree → Tree → Type 0
ChainRow s n w = Row64 n w ⊎ Row11 s n w

-- `last_expression_in_sequence`, `pop_expression_from_sequence` and `has_negated_result`: the last
-- expression of a sequence, which may end in a sequence in turn.
use Rattle.std.specs.Prelude.{◌≡◌, refl, ℕ, Bool, true, false, not, ◌&&◌, ◌==◌, Option, Some, None, if◌then◌else◌}
use Rattle.mini_model.specs.Tree.{Tree, Trees, node, none, ◌▸◌, absent, empty_statement, children, count, negation}
use Rattle.mini_model.specs.Terms.{has_negated_result}
use Rattle.mini_node.specs.Children.{part, with_child, without}
use Rattle.mini_node.specs.Kinds.{sequence, is_sequence, is_negation}

-- ---- the end

-- the last part of a sequence, however many sequences it ends in; an empty one, and any other
-- expression, is its own end
abbrev mutual
  pub end_of : Tree → Tree
  end_of (node h xs n ts) = if is_sequence (node h xs n ts) then end_below (node h xs n ts) ts else node h xs n ts

  pub end_below : Tree → Trees → Tree
  end_below d none = d
  end_below d (t ▸ ts) = end_inside d t

  pub end_inside : Tree → Tree → Tree
  end_inside d (node h xs n us) = last_end d us

  -- that of the last of them, and d where there is none
  pub last_end : Tree → Trees → Tree
  last_end d none = d
  last_end d (u ▸ none) = end_of u
  last_end d (u ▸ (v ▸ us)) = last_end d (v ▸ us)

-- a sequence of one part at least
abbrev pub has_parts : Tree → Bool
has_parts t = is_sequence t && not (count (children (part t 0)) == 0)

abbrev pub last_expression : Tree → Option Tree
last_expression t = if has_parts t then Some (end_of t) else None

-- whether an expression, or the end of a sequence, is a `!`
abbrev pub ends_in_negation : Tree → Bool
ends_in_negation t = has_negated_result (end_of t)

-- ---- what is left without it

-- a sequence that becomes empty goes
abbrev pub kept_sequence : Trees → Trees
kept_sequence none = none
kept_sequence (t ▸ ts) = sequence (t ▸ ts) ▸ none

abbrev mutual
  pub parts_left : Trees → Trees
  parts_left none = none
  parts_left (u ▸ none) = last_left u
  parts_left (u ▸ (v ▸ us)) = u ▸ parts_left (v ▸ us)

  -- of the last part
  pub last_left : Tree → Trees
  last_left (node h xs n ts) = if is_sequence (node h xs n ts) then kept_sequence (left_below ts) else none

  pub left_below : Trees → Trees
  left_below none = none
  left_below (t ▸ ts) = left_inside t

  pub left_inside : Tree → Trees
  left_inside (node h xs n us) = parts_left us

-- its end is no empty sequence
abbrev pub has_end : Tree → Bool
has_end t = is_sequence t && not (is_sequence (end_of t))

abbrev pub popped : Tree → Option Tree
popped t = if has_end t then Some (end_of t) else None

abbrev pub left_of : Tree → Tree
left_of t = if has_end t then sequence (parts_left (children (part t 0))) else t

-- ---- the end without its `!`

-- a `!`, or a sequence of two parts at least whose last part is one, or such a sequence
abbrev mutual
  pub ends_in_not : Tree → Bool
  ends_in_not (node h xs n ts) = if is_sequence (node h xs n ts) then ends_below ts else is_negation (node h xs n ts)

  pub ends_below : Trees → Bool
  ends_below none = false
  ends_below (t ▸ ts) = ends_inside t

  pub ends_inside : Tree → Bool
  ends_inside (node h xs n none) = false
  ends_inside (node h xs n (u ▸ us)) = last_ends us

  -- the last of them does, and there is one
  pub last_ends : Trees → Bool
  last_ends none = false
  last_ends (u ▸ none) = ends_in_not u
  last_ends (u ▸ (v ▸ us)) = last_ends (v ▸ us)

-- without that `!`
abbrev mutual
  pub end_bared : Tree → Tree
  end_bared (node h xs n ts) = if is_sequence (node h xs n ts) then node h xs n (bared_below ts) else part (node h xs n ts) 0

  pub bared_below : Trees → Trees
  bared_below none = none
  bared_below (t ▸ ts) = bared_inside t ▸ ts

  pub bared_inside : Tree → Tree
  bared_inside (node h xs n us) = node h xs n (last_bared us)

  pub last_bared : Trees → Trees
  last_bared none = none
  last_bared (u ▸ none) = end_bared u ▸ none
  last_bared (u ▸ (v ▸ us)) = u ▸ last_bared (v ▸ us)

-- ---- of parts in order

-- they end in no empty sequence
abbrev pub have_end : Trees → Bool
have_end us = not (is_sequence (last_end (sequence none) us))

-- with what is left of the part at a place
abbrev pub put_back : Trees → ℕ → Trees → Trees
put_back us i none = without us i
put_back us i (t ▸ ts) = with_child us i (sequence (t ▸ ts))

-- ---- examples

abbrev a : Tree
a = absent

abbrev b : Tree
b = empty_statement

abbrev c : Tree
c = negation absent

-- of `a, (b, c)` it is c
inner_end : end_of (sequence (a ▸ sequence (b ▸ c ▸ none) ▸ none)) ≡ c
inner_end = refl

-- and `a, (b)` is left
inner_left : left_of (sequence (a ▸ sequence (b ▸ c ▸ none) ▸ none)) ≡ sequence (a ▸ sequence (b ▸ none) ▸ none)
inner_left = refl

-- of `a, (b)` b, and a is left
emptied : left_of (sequence (a ▸ sequence (b ▸ none) ▸ none)) ≡ sequence (a ▸ none)
emptied = refl

-- a trailing empty sequence is given itself, and is not taken out
empty_end : last_expression (sequence (a ▸ sequence none ▸ none)) ≡ Some (sequence none)
empty_end = refl

not_popped : popped (sequence (a ▸ sequence none ▸ none)) ≡ None
not_popped = refl

-- `a, !b` ends in a negation
negated_end : ends_in_negation (sequence (a ▸ c ▸ none)) ≡ true
negated_end = refl

-- and without it that is `a, b`
bared_end : end_bared (sequence (a ▸ negation b ▸ none)) ≡ sequence (a ▸ b ▸ none)
bared_end = refl

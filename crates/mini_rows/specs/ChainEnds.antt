-- The rows of optional chains whose first `?.` stands over what is known to be null or undefined:
-- each ends there (ECMA-262, "Optional Chains").
use Rattle.std.specs.Prelude.{◌≡◌, ◌⊎◌, ◌&&◌, Bool, true, false, List, [], ◌∷◌}
use Rattle.mini_model.specs.Tree.{Tree, Trees, none, ◌▸◌, listed}
use Rattle.mini_terms.specs.Folds.{is_effect_free}
use Rattle.mini_terms.specs.Kind.{is_nullish_kind, kind}
use Rattle.mini_terms.specs.Reading.{stands}
use Rattle.mini_rows.specs.Lists.{sequence, encloses}
use Rattle.mini_rows.specs.Spellings.{void_zero}
use Rattle.mini_rows.specs.Chains.{is_calm, Link, a_member, a_computed, a_call, linked, is_calm_link, chain}
use Rattle.mini_rows.specs.ChainLinks.{Marked, marked, links_over, are_calm_over}

-- what is known of each value of it: it is undefined, or it is null
abbrev pub is_nothing : Tree → Bool
is_nothing t = is_nullish_kind (kind t)

-- what stands in a link besides what is before it: a property's name, a key, or the list of
-- arguments
abbrev pub key_of : Link → Tree
key_of (a_member k) = k
key_of (a_computed k) = k
key_of (a_call ts) = listed ts

abbrev pub keys_over : List Marked → Trees
keys_over [] = none
keys_over (marked o l ∷ ms) = key_of l ▸ keys_over ms

-- each takes along the names in it that can't be written
abbrev pub enclose : Trees → Bool
enclose none = true
enclose (t ▸ ts) = encloses false t && enclose ts

-- 10: `null?.a.b`, `undefined?.a(function () {})` and `(b ? void 0 : undefined)?.a` become
-- `void 0`, since the chain ends at its first `?.`, and what stands before that has no effect;
-- where what goes takes along the names in it that can't be written
pub record Row10 (n w : Tree) : Type 0 where
  pub others : List Marked
  pub link : Link
  pub base : Tree
  pub known : is_nothing base ≡ true
  pub idle : is_effect_free base ≡ true
  pub calm : is_calm_link link ≡ true
  pub calm_others : are_calm_over others ≡ true
  pub dropped : encloses false (links_over others (linked true link base)) ≡ true
  pub shape : n ≡ chain (links_over others (linked true link base))
  pub written : w ≡ void_zero

-- 10: `(void f())?.a.b.c.d` becomes `void f(), void 0`, where what stands before the first `?.` has
-- an effect: it stays, and ends no chain around it; where what goes in the links takes along such
-- names
pub record Row10Then (n w : Tree) : Type 0 where
  pub others : List Marked
  pub link : Link
  pub base : Tree
  pub known : is_nothing base ≡ true
  pub acts : is_effect_free base ≡ false
  pub value : stands base ≡ true
  pub calm_base : is_calm base ≡ true
  pub calm : is_calm_link link ≡ true
  pub calm_others : are_calm_over others ≡ true
  pub dropped : enclose (key_of link ▸ keys_over others) ≡ true
  pub shape : n ≡ chain (links_over others (linked true link base))
  pub written : w ≡ sequence (base ▸ void_zero ▸ none)

abbrev pub EndRow : Tree → Tree → Type 0
EndRow n w = Row10 n w ⊎ Row10Then n w

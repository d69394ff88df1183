-- How deep nodes nest, and how deep a row may put them.
use Rattle.std.specs.Prelude.{◌≡◌, ◌≤◌, ℕ, zero, suc, Bool, true, false, ◌&&◌}
use Rattle.mini_model.specs.Tree.{Tree, Trees, node, none, ◌▸◌}

-- it nests at most so many nodes deep, itself and lists among them: `a` one, `-a` two, `{ a; }`
-- four
unfoldable mutual
  pub is_shallow : ℕ → Tree → Bool
  is_shallow zero t = false
  is_shallow (suc levels) (node h xs n ts) = are_shallow levels ts

  pub are_shallow : ℕ → Trees → Bool
  are_shallow levels none = true
  are_shallow levels (t ▸ ts) = is_shallow levels t && are_shallow levels ts

-- What a row puts deeper than it stood, and may put deeper once more, nests at most 500 nodes deep:
-- else a program of many statements in one list would become an expression as deep as the list is
-- long, which nobody has the stack to read
abbrev pub may_sink : Tree → Bool
may_sink = is_shallow 500

abbrev pub may_all_sink : Trees → Bool
may_all_sink = are_shallow 500

-- so do `a || b` and `a && b`, by their sides
abbrev pub may_join : Tree → Tree → Bool
may_join a b = is_shallow 499 a && is_shallow 499 b

-- r may be put in the place of something in t: what is written then nests at most 500 nodes deep
abbrev pub fits_in : Tree → Tree → Bool
fits_in r t = is_shallow 250 r && is_shallow 250 t

-- What a row writes of some trees nests no deeper than these do; or no more than one node deeper;
-- where that is less than 504 nodes, it may nest 503 deep
abbrev pub NoDeeper : (Trees → Trees → Type 0) → Type 0
NoDeeper R = (a b : Trees) → R a b → (k : ℕ) → 503 ≤ k → are_shallow k a ≡ true → are_shallow k b ≡ true

abbrev pub DeeperByOne : (Trees → Trees → Type 0) → Type 0
DeeperByOne R = (a b : Trees) → R a b → (k : ℕ) → 503 ≤ k → are_shallow k a ≡ true → are_shallow (suc k) b ≡ true

-- of one node
abbrev pub NodeNoDeeper : (Tree → Tree → Type 0) → Type 0
NodeNoDeeper R = (n w : Tree) → R n w → (k : ℕ) → 503 ≤ k → is_shallow k n ≡ true → is_shallow k w ≡ true

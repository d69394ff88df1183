-- How often names stand in a tree, by buckets of their symbols and of their spellings, and tables
-- that count no fewer.
use Rattle.std.specs.Prelude.{ℕ, ◌+◌, ◌*◌, ◌%◌, ◌<◌, ◌≤◌, ◌≡◌, ◌||◌, nat_eq, Bool, true, false, List, [], ◌∷◌, length, slice_index, Option, Some, None}
use Rattle.mini_model.specs.declared.name.Name.{Name}
use Rattle.mini_model.specs.declared.name.SymbolId.{SymbolId}
use Rattle.mini_model.specs.Tree.{Tree, Trees, node, none, ◌▸◌}
use Rattle.mini_model.specs.Weight.{same_text}
use Rattle.mini_unused.specs.SubstituteNext.{reads_in}
use Rattle.mini_rows.specs.Unused.{takes}
use Rattle.mini_unused.specs.declared.tallies.Tallies.{Tallies}

abbrev pub hash_from : ℕ → List ℕ → ℕ
hash_from h [] = h
hash_from h (u ∷ us) = hash_from ((h * 31 + u) % 4294967296) us

unfoldable pub hash_of : List ℕ → ℕ
hash_of s = hash_from 0 s

abbrev pub number_of : Option SymbolId → ℕ
number_of None = 0
number_of (Some s) = s.0

-- by its symbol, or by its spelling, in which of so many buckets a name is
unfoldable pub bucket : Bool → ℕ → Name → ℕ
bucket true n x = number_of x.symbol % n
bucket false n x = hash_of x.spelling % n

abbrev pub one_if : Bool → ℕ
one_if true = 1
one_if false = 0

-- how many names in a bucket stand in a tree, by the bucket of each name
abbrev pub own_tally : (Name → ℕ) → ℕ → List Name → ℕ
own_tally f b [] = 0
own_tally f b (x ∷ xs) = one_if (nat_eq (f x) b) + own_tally f b xs

abbrev mutual
  pub tally : (Name → ℕ) → ℕ → Tree → ℕ
  tally f b (node h xs n ts) = own_tally f b xs + tallies f b ts

  pub tallies : (Name → ℕ) → ℕ → Trees → ℕ
  tallies f b none = 0
  tallies f b (t ▸ ts) = tally f b t + tallies f b ts

-- so many were counted; an entry that has reached the greatest number tells nothing
pub record Counted (n : ℕ → ℕ) (old new : List ℕ) : Type 0 where
  pub buckets : length new ≡ length old
  pub each : (b : ℕ) → b < length old → slice_index new b < 255 → slice_index old b + n b ≤ slice_index new b

-- a table counts no fewer than stand in two trees
abbrev pub Covers : Bool → List ℕ → Tree → Tree → Type 0
Covers by_symbol counts o l =
    (b : ℕ) → b < length counts → slice_index counts b < 255 → tally (bucket by_symbol (length counts)) b o + tally (bucket by_symbol (length counts)) b l ≤ slice_index counts b

-- both tables do
pub record Tallied (c : Tallies) (o l : Tree) : Type 0 where
  pub symbols : Covers true c.by_symbol.items o l
  pub spellings : Covers false c.by_spelling.items o l

-- a name's bucket has at most so many
abbrev pub HasFew : Bool → List ℕ → Name → ℕ → Type 0
HasFew by_symbol counts x k = (bucket by_symbol (length counts) x < length counts) × (slice_index counts (bucket by_symbol (length counts) x) ≤ k)

pub record IsRare (c : Tallies) (x : Name) (k : ℕ) : Type 0 where
  pub symbols : HasFew true c.by_symbol.items x k
  pub spellings : HasFew false c.by_spelling.items x k

-- one name, which is there
abbrev pub AreRare : Tallies → List Name → ℕ → Type 0
AreRare c (x ∷ []) k = IsRare c x k
AreRare c xs k = ⊥

-- the first of some names has the spelling of this one
abbrev pub is_spelled : Name → List Name → Bool
is_spelled x [] = false
is_spelled x (y ∷ ys) = same_text x.spelling y.spelling

-- a name in a tree has the spelling
abbrev mutual
  pub is_spelled_in : Name → Tree → Bool
  is_spelled_in x (node h ys n ts) = is_spelled x ys || is_any_spelled x ts

  pub is_any_spelled : Name → Trees → Bool
  is_any_spelled x none = false
  is_any_spelled x (t ▸ ts) = is_spelled_in x t || is_any_spelled x ts

-- and a statement reads it, with its spelling, after parts that pass the initializer: so it and its
-- declaration are the only ones in its buckets
abbrev pub AreRead : Tallies → List Name → Tree → Tree → Type 0
AreRead c (x ∷ []) r t = IsRare c x 2 × (takes x r t ≡ true) × (1 ≤ tally (bucket false (length c.by_spelling.items)) (bucket false (length c.by_spelling.items) x) t)
AreRead c xs r t = ⊥

-- or an initializer does
abbrev pub AreReadIn : Tallies → List Name → Tree → Tree → Type 0
AreReadIn c (x ∷ []) r v = IsRare c x 2 × (reads_in x r v ≡ true) × (1 ≤ tally (bucket false (length c.by_spelling.items)) (bucket false (length c.by_spelling.items) x) v)
AreReadIn c xs r v = ⊥

-- at most two names are in its buckets, and one with its spelling stands in a tree
abbrev pub IsRareIn : Tallies → Name → Tree → Type 0
IsRareIn c x t = IsRare c x 2 × (1 ≤ tally (bucket false (length c.by_spelling.items)) (bucket false (length c.by_spelling.items) x) t)

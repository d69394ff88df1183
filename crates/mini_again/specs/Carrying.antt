-- A program whose numbers and symbols stand for others, in lists, is read again.
use Rattle.std.specs.Prelude.{◌≡◌, ℕ, ◌<◌, ◌≤◌, List, [], ◌∷◌, map, length, Contains, Option, Some, None}
use Rattle.mini_model.specs.declared.name.Name.{Name}
use Rattle.mini_model.specs.declared.name.SymbolId.{SymbolId}
use Rattle.mini_model.specs.declared.place.Position.{Position}
use Rattle.mini_model.specs.Tree.{Tree, Trees, node, none, ◌▸◌}
use Rattle.mini_laws.specs.Renaming.{TellsApart}
use Rattle.mini_laws.specs.Writable.{writable_in}
use Rattle.mini_kept.specs.Carried.{carried}
use Rattle.mini_rows.specs.Redex.{HasNoRedex}
use Rattle.mini_rows.specs.Switches.{Switches}
use Rattle.mini_again.specs.Again.{Renaming, again}

-- no number stands twice in a list
abbrev pub HasNoRepeat : List ℕ → Type 0
HasNoRepeat [] = Unit {0}
HasNoRepeat (k ∷ ks) = (Contains ks k → ⊥) × HasNoRepeat ks

-- the numbers of symbols as symbols
abbrev pub as_symbols : List ℕ → List (Option SymbolId)
as_symbols ns = map (λ n. Some (record { 0 = n })) ns

-- each symbol of a name is below a bound
abbrev pub IsBelow : ℕ → Option SymbolId → Type 0
IsBelow s None = Unit {0}
IsBelow s (Some k) = k.0 < s

abbrev pub AreBelow : ℕ → List Name → Type 0
AreBelow s [] = Unit {0}
AreBelow s (x ∷ xs) = IsBelow s x.symbol × AreBelow s xs

-- the symbols of a tree are below s, and its numbers are at most n
abbrev mutual
  pub IsWithin : ℕ → ℕ → Tree → Type 0
  IsWithin s n (node h xs k ts) = AreBelow s xs × (k ≤ n) × AreWithin s n ts

  pub AreWithin : ℕ → ℕ → Trees → Type 0
  AreWithin s n none = Unit {0}
  AreWithin s n (t ▸ ts) = IsWithin s n t × AreWithin s n ts

-- what carries such trees in lists without repeats is a renaming, which tells numbers apart, too
abbrev pub CarriedIsAgain : Type 0
CarriedIsAgain =
    (kept symbols : List ℕ) → HasNoRepeat (0 ∷ kept) → HasNoRepeat symbols
    → (ρ : Renaming) × TellsApart ρ.number × ((t : Tree) → IsWithin (length symbols) (length kept) t → carried (0 ∷ kept) (as_symbols symbols) t ≡ again ρ t)

-- nothing is left to rewrite in such a tree if nothing is left in what is carried
abbrev pub CarriedLeavesNothing : Type 0
CarriedLeavesNothing =
    (kept symbols : List ℕ) → HasNoRepeat (0 ∷ kept) → HasNoRepeat symbols → (t : Tree) → IsWithin (length symbols) (length kept) t → (o : Switches) (p : Position)
    → HasNoRedex o (writable_in (carried (0 ∷ kept) (as_symbols symbols) t)) p (carried (0 ∷ kept) (as_symbols symbols) t) → HasNoRedex o (writable_in t) p t

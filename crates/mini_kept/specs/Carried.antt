-- A program with the numbers and symbols of another: a number stands for a place in a list of
-- numbers, a symbol for a place in a list of symbols.
use Rattle.std.specs.Prelude.{ℕ, zero, suc, ◌≡◌, List, [], ◌∷◌, ◌++◌, Option, Some, None}
use Rattle.mini_model.specs.declared.name.SymbolId.{SymbolId}
use Rattle.mini_model.specs.Tree.{Tree, Trees, node, none, ◌▸◌}
use Rattle.mini_laws.specs.Symbols.{renamed}

-- the tree with other numbers
unfoldable mutual
  pub renumbered : (ℕ → ℕ) → Tree → Tree
  renumbered f (node h xs n ts) = node h xs (f n) (all_renumbered f ts)

  pub all_renumbered : (ℕ → ℕ) → Trees → Trees
  all_renumbered f none = none
  all_renumbered f (t ▸ ts) = renumbered f t ▸ all_renumbered f ts

-- the numbers above 0 of a tree, in preorder
abbrev pub with_number : ℕ → List ℕ → List ℕ
with_number zero ns = ns
with_number (suc n) ns = suc n ∷ ns

unfoldable mutual
  pub numbers : Tree → List ℕ
  numbers (node h xs n ts) = with_number n (all_numbers ts)

  pub all_numbers : Trees → List ℕ
  all_numbers none = []
  all_numbers (t ▸ ts) = numbers t ++ all_numbers ts

abbrev pub number_of : Tree → ℕ
number_of (node h xs n ts) = n

-- the number at a place; 0 past the end
abbrev pub number_at : List ℕ → ℕ → ℕ
number_at [] n = 0
number_at (k ∷ ks) zero = k
number_at (k ∷ ks) (suc n) = number_at ks n

-- the numbers of symbols
abbrev pub symbol_numbers : List (Option SymbolId) → List ℕ
symbol_numbers [] = []
symbol_numbers (None ∷ ss) = symbol_numbers ss
symbol_numbers (Some s ∷ ss) = s.0 ∷ symbol_numbers ss

-- the tree with the numbers and symbols that stand at those places
abbrev pub carried : List ℕ → List (Option SymbolId) → Tree → Tree
carried kept symbols t = renumbered (number_at kept) (renamed symbols t)

-- two trees that differ in their numbers alone: of two nodes both have one above 0, or neither
abbrev pub BothNumbered : ℕ → ℕ → Type 0
BothNumbered zero zero = Unit {0}
BothNumbered (suc n) (suc m) = Unit {0}
BothNumbered n m = ⊥

abbrev mutual
  pub NumberedAlike : Tree → Tree → Type 0
  NumberedAlike (node h xs n ts) (node h' xs' n' ts') = (h ≡ h') × (xs ≡ xs') × BothNumbered n n' × AllNumberedAlike ts ts'

  pub AllNumberedAlike : Trees → Trees → Type 0
  AllNumberedAlike none none = Unit {0}
  AllNumberedAlike none (u ▸ us) = ⊥
  AllNumberedAlike (t ▸ ts) none = ⊥
  AllNumberedAlike (t ▸ ts) (u ▸ us) = NumberedAlike t u × AllNumberedAlike ts us

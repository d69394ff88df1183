-- The same names in another order, or once in place of twice; and declarations of which no more
-- clash.
use Rattle.std.specs.Prelude.{ℕ, ◌+◌, ◌≤◌, ◌≡◌, Bool, true, false, ◌&&◌, ◌||◌, List, [], ◌∷◌, Option, Some, None, if◌then◌else◌}
use Rattle.mini_model.specs.declared.name.Name.{Name}
use Rattle.mini_model.specs.declared.name.SymbolId.{SymbolId}
use Rattle.mini_model.specs.Weight.{same_text}
use Rattle.mini_accept.specs.WellShaped.{is_same_flag}
use Rattle.mini_laws.specs.declared.names.Declaration.{Declaration}
use Rattle.mini_laws.specs.Symbols.{is_same}

-- ---- names

abbrev pub is_name : Name → Name → Bool
is_name x y = same_text x.spelling y.spelling && is_same x.symbol y.symbol

abbrev pub is_among : List Name → Name → Bool
is_among [] y = false
is_among (x ∷ xs) y = is_name x y || is_among xs y

-- each name of one list is one of the other
abbrev pub SameNames : List Name → List Name → Type 0
SameNames xs ys = (x : Name) → is_among xs x ≡ is_among ys x

-- the symbol of the first name with a spelling, if there is one
abbrev pub first_symbol : List ℕ → List Name → Option (Option SymbolId)
first_symbol s [] = None
first_symbol s (x ∷ xs) = if same_text x.spelling s then Some x.symbol else first_symbol s xs

-- a scope of these names is one of those: it has the first name of each spelling
abbrev pub SameScope : List Name → List Name → Type 0
SameScope xs ys = (s : List ℕ) → first_symbol s xs ≡ first_symbol s ys

-- ---- declarations

-- how often a spelling is declared as a lexical name (true), or like `var`
abbrev pub counted : Bool → List ℕ → List Declaration → ℕ
counted l s [] = 0
counted l s (d ∷ ds) = (if is_same_flag l d.is_lexical && same_text d.spelling s then 1 else 0) + counted l s ds

-- no spelling is declared more often as a lexical name here than there, or here alone like `var`
abbrev pub NoMoreClash : List Declaration → List Declaration → Type 0
NoMoreClash es ds = (s : List ℕ) → (counted true s es ≤ counted true s ds) × (counted false s ds ≡ 0 → counted false s es ≡ 0)

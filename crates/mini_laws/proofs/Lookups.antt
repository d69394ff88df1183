-- The symbol of a name in an environment without one of its names.
use Rattle.std.specs.Prelude.{ℕ, ◌≡◌, refl, Bool, true, false, List, [], ◌∷◌, ◌++◌, Option, Some, None, if◌then◌else◌}
use Rattle.std.proofs.Common.{ap, ◌∙◌, sym}
use Rattle.mini_model.specs.declared.name.SymbolId.{SymbolId}
use Rattle.mini_laws.specs.declared.names.Use.{Use}
use Rattle.mini_laws.specs.declared.names.Binding.{Binding}
use Rattle.mini_laws.specs.Resolved.{Environment, or_else, is_for, own_symbol, symbol_of}

pub or_none : (x : Option SymbolId) → or_else x None ≡ x
or_none None = refl
or_none (Some x) = refl

or_or : (x y z : Option SymbolId) → or_else (or_else x y) z ≡ or_else x (or_else y z)
or_or None y z = refl
or_or (Some x) y z = refl

pub symbol_of_both : (u : Use) (s : List ℕ) (xs ys : Environment) → symbol_of u s (xs ++ ys) ≡ or_else (symbol_of u s ys) (symbol_of u s xs)
symbol_of_both u s [] ys = sym (or_none (symbol_of u s ys))
symbol_of_both u s (x ∷ xs) ys = ap (λ r. or_else r (own_symbol u s x)) (symbol_of_both u s xs ys) ∙ or_or (symbol_of u s ys) (symbol_of u s xs) (own_symbol u s x)

-- a binding whose symbol isn't the one that is found has given nothing
without : (found outer inner own : Option SymbolId) (y : Option SymbolId) → (own ≡ y → ⊥) → (p : Bool) → found ≡ or_else (or_else inner (if p then own else None)) outer → (own ≡ found → ⊥) → found ≡ or_else inner outer
without found outer (Some z) own y n p e d = e
without found outer None own y n false e d = e
without found outer None None y n true e d = e
without found outer None (Some w) y n true e d = absurd (d (sym e))

pub symbol_without : (u : Use) (s : List ℕ) (outer inner : Environment) (b : Binding) (found : Option SymbolId) → found ≡ symbol_of u s (outer ++ b ∷ inner) → (b.name.symbol ≡ found → ⊥) → found ≡ symbol_of u s (outer ++ inner)
symbol_without u s outer inner b found e d =
    without found (symbol_of u s outer) (symbol_of u s inner) b.name.symbol found d (is_for u s b) (e ∙ symbol_of_both u s outer (b ∷ inner)) d
    ∙ sym (symbol_of_both u s outer inner)

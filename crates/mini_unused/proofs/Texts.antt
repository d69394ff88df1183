-- Texts that differ.
use Rattle.std.proofs.Common.{◌≡◌, ℕ, Bool, true, false, List, refl, sym, ◌∙◌, true≢false}
use Rattle.mini_model.specs.Weight.{same_text}
use Rattle.mini_kept.proofs.SameScopes.{same_texts}

-- where equal texts would pass a test, those that don't pass it differ
pub texts_apart : (s r : List ℕ) (b : Bool) → (s ≡ r → b ≡ true) → b ≡ false → false ≡ same_text s r
texts_apart s r b f e = by (same_text s r) (same_texts s r)
  where
    by : (c : Bool) → (c ≡ true → s ≡ r) → false ≡ c
    by true g = absurd (true≢false (sym (f (g refl)) ∙ e))
    by false g = refl

-- Brackets round a key go again.
use Rattle.std.specs.Prelude.{ℕ, map}
use Rattle.std.proofs.Common.{subst₂}
use Rattle.mini_laws.specs.Renaming.{rename_name}
use Rattle.mini_model.specs.Tree.{Tree, node, ◌▸◌}
use Rattle.mini_rows.specs.KeyHolders.{Bares, bares_key, bares_within, PlainKey, a_word, a_count, IsPlainKey, bracketed, plain}
use Rattle.mini_again.specs.Again.{Renaming, again, all_again, other_number}
use Rattle.mini_again.proofs.ModelPathsAgain.{append_again}

bare : (ρ : Renaming) (n : ℕ) (k : PlainKey) (v : Tree) → IsPlainKey k → Bares (again ρ (bracketed n k v)) (again ρ (plain k v))
bare ρ n (a_word s) v e = bares_key (ρ.number n) (a_word s) (again ρ v) e
bare ρ n (a_count m) v e = bares_key (ρ.number n) (a_count m) (again ρ v) e

pub bares_again : (ρ : Renaming) (t u : Tree) → Bares t u → Bares (again ρ t) (again ρ u)
bares_again ρ t u (bares_key n k v e) = bare ρ n k v e
bares_again ρ t u (bares_within h xs n before after t' u' e b) =
    subst₂ (λ ts us. Bares (node h (map (rename_name ρ.symbol) xs) (other_number ρ n) ts) (node h (map (rename_name ρ.symbol) xs) (other_number ρ n) us)) (append_again ρ before (t' ▸ after)) (append_again ρ before (u' ▸ after))
    (bares_within h (map (rename_name ρ.symbol) xs) (other_number ρ n) (all_again ρ before) (all_again ρ after) (again ρ t') (again ρ u') e (bares_again ρ t' u' b))

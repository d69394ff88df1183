-- What renamed names tell by their spelling and by whether a scope declares them.
use Rattle.mini_again.proofs.Names.{none_again}
use Rattle.mini_again.specs.Again.{Renaming}
use Rattle.mini_laws.specs.Naming.{kinds}
use Rattle.mini_laws.specs.Renaming.{rename_name}
use Rattle.mini_model.specs.declared.name.Name.{Name}
use Rattle.std.specs.Prelude.{List, [], map, refl, ◌∷◌, ◌≡◌}

pub kinds_again : (ρ : Renaming) (xs : List Name) → kinds (map (rename_name ρ.symbol) xs) ≡ kinds xs
kinds_again ρ [] = refl
kinds_again ρ (x ∷ xs) = simp (none_again ρ x.symbol, kinds_again ρ xs)

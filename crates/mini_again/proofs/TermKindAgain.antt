-- An expression that is read again has the Kind of the expression.
use Rattle.mini_again.proofs.LawNamingAgain.{kinds_again}
use Rattle.mini_again.specs.Again.{Renaming, again, all_again}
use Rattle.mini_model.specs.Tree.{Tree, Trees, node, none, ◌▸◌}
use Rattle.mini_terms.specs.Kind.{each_kind, kind}
use Rattle.std.specs.Prelude.{refl, ◌≡◌}

mutual
  pub each_kind_again : (ρ : Renaming) (ts : Trees) → each_kind (all_again ρ ts) ≡ each_kind ts
  each_kind_again ρ none = refl
  each_kind_again ρ (t ▸ ts) = simp (kind_again ρ t, each_kind_again ρ ts)

  pub kind_again : (ρ : Renaming) (t : Tree) → kind (again ρ t) ≡ kind t
  kind_again ρ (node h xs n ts) = simp (kinds_again ρ xs, each_kind_again ρ ts)

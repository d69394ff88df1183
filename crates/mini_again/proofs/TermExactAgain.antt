-- Where an expression is read as a reference, of one that is read again.
use Rattle.mini_again.proofs.LawScopeListAgain.{is_eval_again}
use Rattle.mini_again.proofs.Names.{some_again}
use Rattle.mini_again.specs.Again.{Renaming, again}
use Rattle.mini_laws.specs.Renaming.{rename_name}
use Rattle.mini_model.specs.Tree.{Tree, node}
use Rattle.mini_model.specs.declared.name.Name.{Name}
use Rattle.mini_model.specs.declared.seat.Guard.{Guard}
use Rattle.mini_model.specs.declared.shape.Shape.{Shape}
use Rattle.mini_terms.specs.Exact.{asks_guard, is_guarded, is_unresolved}
use Rattle.std.specs.Prelude.{List, [], map, refl, ◌∷◌, ◌≡◌}
use Rattle.mini_model.specs.declared.seat.Guard.TheVariants as guard

pub is_unresolved_again : (ρ : Renaming) (xs : List Name) → is_unresolved (map (rename_name ρ.symbol) xs) ≡ is_unresolved xs
is_unresolved_again ρ [] = refl
is_unresolved_again ρ (x ∷ xs) = simp (some_again ρ x.symbol)

pub asks_guard_again : (ρ : Renaming) (guard : Guard) (h : Shape) (xs : List Name) → asks_guard guard h (map (rename_name ρ.symbol) xs) ≡ asks_guard guard h xs
asks_guard_again ρ guard.None h xs = refl
asks_guard_again ρ guard.Callee h xs = simp (is_eval_again ρ xs)
asks_guard_again ρ guard.Delete h xs = refl
asks_guard_again ρ guard.Typeof h xs = simp (is_unresolved_again ρ xs)

pub is_guarded_again : (ρ : Renaming) (g : Guard) (t : Tree) → is_guarded g (again ρ t) ≡ is_guarded g t
is_guarded_again ρ g (node h xs n ts) = simp (asks_guard_again ρ g h xs)

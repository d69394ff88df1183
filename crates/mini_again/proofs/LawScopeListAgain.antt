-- A direct eval stands in a tree that is read again where it stands in the tree.
use Rattle.mini_again.specs.Again.{Renaming, again, all_again}
use Rattle.mini_laws.specs.Renaming.{rename_name}
use Rattle.mini_laws.specs.ScopeList.{any_has_eval, calls_eval, has_eval, is_eval, is_eval_call, is_eval_callee}
use Rattle.mini_model.specs.Tree.{Tree, Trees, node, none, ◌▸◌}
use Rattle.mini_model.specs.declared.name.Name.{Name}
use Rattle.mini_model.specs.declared.shape.Shape.{Shape}
use Rattle.std.specs.Prelude.{List, [], false, map, refl, ◌∷◌, ◌≡◌}
use Rattle.mini_model.specs.declared.shape.Shape.TheVariants as shape

pub is_eval_again : (ρ : Renaming) (xs : List Name) → is_eval (map (rename_name ρ.symbol) xs) ≡ is_eval xs
is_eval_again ρ [] = refl
is_eval_again ρ (x ∷ xs) = refl

pub is_eval_callee_again : (ρ : Renaming) (t : Tree) → is_eval_callee (again ρ t) ≡ is_eval_callee t
is_eval_callee_again ρ (node shape.Identifier xs n ts) = simp (is_eval_again ρ xs)
is_eval_callee_again ρ t = refl

pub calls_eval_again : (ρ : Renaming) (ts : Trees) → calls_eval (all_again ρ ts) ≡ calls_eval ts
calls_eval_again ρ none = refl
calls_eval_again ρ (t ▸ ts) = simp (is_eval_callee_again ρ t)

pub is_eval_call_again : (ρ : Renaming) (h : Shape) (ts : Trees) → is_eval_call h (all_again ρ ts) ≡ is_eval_call h ts
is_eval_call_again ρ (shape.CallExpression false) ts = simp (calls_eval_again ρ ts)
is_eval_call_again ρ h ts = refl

mutual
  unfolding any_has_eval has_eval

  pub any_has_eval_again : (ρ : Renaming) (ts : Trees) → any_has_eval (all_again ρ ts) ≡ any_has_eval ts
  any_has_eval_again ρ none = refl
  any_has_eval_again ρ (t ▸ ts) = simp (has_eval_again ρ t, any_has_eval_again ρ ts)

  pub has_eval_again : (ρ : Renaming) (t : Tree) → has_eval (again ρ t) ≡ has_eval t
  has_eval_again ρ (node h xs n ts) = simp (is_eval_call_again ρ h ts, any_has_eval_again ρ ts)

-- A template whose parts have the values that they have again has its text again.
use Rattle.mini_again.proofs.ModelTreeAgain.{shape_of_again}
use Rattle.mini_again.specs.Again.{Renaming, again, all_again}
use Rattle.mini_laws.specs.Value.{Value}
use Rattle.mini_model.specs.Tree.{Tree, Trees, none, shape_of, ◌▸◌}
use Rattle.mini_terms.specs.Templates.{cooked_in, last_text, text_between}
use Rattle.std.specs.Prelude.{List, Option, refl, ℕ, ◌≡◌}

pub last_text_again : (ρ : Renaming) (ts : Trees) (o : Option (List ℕ)) → last_text (all_again ρ ts) o ≡ last_text ts o
last_text_again ρ none o = refl
last_text_again ρ (t ▸ ts) o = refl

pub text_between_again : (ρ : Renaming) (f : Tree → Option Value) → ((t : Tree) → f (again ρ t) ≡ f t) → (ts us : Trees) → text_between f (all_again ρ ts) (all_again ρ us) ≡ text_between f ts us
text_between_again ρ f e none ts = refl
text_between_again ρ f e (p ▸ ps) none = simp (shape_of_again ρ p, last_text_again ρ ps (cooked_in (shape_of p)))
text_between_again ρ f e (p ▸ ps) (t ▸ ts) = simp (shape_of_again ρ p, e t, text_between_again ρ f e ps ts)

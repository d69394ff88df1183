-- Names that are imported, bound by patterns and lexical, of a tree that is read again.
use Rattle.mini_again.proofs.LawDeclaredNamesAgain.{all_names_again, first_names_again, names_of_again}
use Rattle.mini_again.specs.Again.{Renaming, again, all_again, other_number}
use Rattle.mini_laws.specs.DeclaredNames.{names_of}
use Rattle.mini_laws.specs.Foreign.{all_imported_names, all_lexical_variables, all_pattern_names, all_switched, ended_by, imported_by, imported_names, is_body_by, lexical_variables, own_lexical, own_pattern_names, own_switched, pattern_names, switched}
use Rattle.mini_laws.specs.Renaming.{rename_name}
use Rattle.mini_model.specs.Tree.{Tree, Trees, node, none, ◌▸◌}
use Rattle.mini_model.specs.declared.kind.VariableDeclarationKind.TheVariants.{Var}
use Rattle.mini_model.specs.declared.name.Name.{Name}
use Rattle.mini_model.specs.declared.shape.Shape.{Shape}
use Rattle.std.proofs.lemmas.List.{map-append}
use Rattle.std.specs.Prelude.{Bool, List, map, refl, suc, true, ℕ, ◌≡◌}
use Rattle.mini_laws.specs.declared.names.Declared.TheVariants as declared
use Rattle.mini_model.specs.declared.shape.Shape.TheVariants as shape

pub imported_by_again : (ρ : Renaming) (h : Shape) (lexical below : List Name) → imported_by h (map (rename_name ρ.symbol) lexical) (map (rename_name ρ.symbol) below) ≡ map (rename_name ρ.symbol) (imported_by h lexical below)
imported_by_again ρ (shape.Program is_module ds) lexical below = refl
imported_by_again ρ shape.Listed lexical below = refl
imported_by_again ρ shape.ImportDeclaration lexical below = refl
imported_by_again ρ h lexical below = refl

mutual
  unfolding all_imported_names imported_names

  pub all_imported_names_again : (ρ : Renaming) (ts : Trees) → all_imported_names (all_again ρ ts) ≡ map (rename_name ρ.symbol) (all_imported_names ts)
  all_imported_names_again ρ none = refl
  all_imported_names_again ρ (t ▸ ts) = simp (imported_names_again ρ t, all_imported_names_again ρ ts, map-append)

  pub imported_names_again : (ρ : Renaming) (t : Tree) → imported_names (again ρ t) ≡ map (rename_name ρ.symbol) (imported_names t)
  imported_names_again ρ (node h xs n ts) = simp (names_of_again ρ declared.Lexical (node h xs n ts), all_imported_names_again ρ ts, imported_by_again ρ h (names_of declared.Lexical (node h xs n ts)) (all_imported_names ts))

pub own_lexical_again : (ρ : Renaming) (b : Bool) (h : Shape) (ts : Trees) → own_lexical b h (all_again ρ ts) ≡ map (rename_name ρ.symbol) (own_lexical b h ts)
own_lexical_again ρ b (shape.VariableDeclaration Var) ts = refl
own_lexical_again ρ b (shape.VariableDeclaration k) ts = simp (all_names_again ρ declared.Bound ts)
own_lexical_again ρ true (shape.Function true g ds) ts = refl
own_lexical_again ρ b (shape.Function declaration g ds) ts = simp (first_names_again ρ ts)
own_lexical_again ρ b (shape.Class declaration) (id ▸ super_class ▸ body ▸ again ▸ ts) = simp (names_of_again ρ declared.Bound id, names_of_again ρ declared.Bound again, map-append)
own_lexical_again ρ b shape.CatchClause ts = simp (first_names_again ρ ts)
own_lexical_again ρ b shape.ImportDeclaration ts = simp (all_names_again ρ declared.Bound ts)
own_lexical_again ρ b h ts = refl

mutual
  unfolding all_lexical_variables lexical_variables

  pub all_lexical_variables_again : (ρ : Renaming) (b : Bool) (ts : Trees) → all_lexical_variables b (all_again ρ ts) ≡ map (rename_name ρ.symbol) (all_lexical_variables b ts)
  all_lexical_variables_again ρ b none = refl
  all_lexical_variables_again ρ b (t ▸ ts) = simp (lexical_variables_again ρ b t, all_lexical_variables_again ρ b ts, map-append)

  pub lexical_variables_again : (ρ : Renaming) (b : Bool) (t : Tree) → lexical_variables b (again ρ t) ≡ map (rename_name ρ.symbol) (lexical_variables b t)
  lexical_variables_again ρ b (node h xs n ts) = simp (own_lexical_again ρ b h ts, all_lexical_variables_again ρ (is_body_by h b) ts, map-append)

pub own_pattern_names_again : (ρ : Renaming) (h : Shape) (n : ℕ) (ts : Trees) → own_pattern_names h (other_number ρ n) (all_again ρ ts) ≡ map (rename_name ρ.symbol) (own_pattern_names h n ts)
own_pattern_names_again ρ shape.ObjectPattern n ts = simp (all_names_again ρ declared.Bound ts)
own_pattern_names_again ρ shape.ArrayPattern n ts = simp (all_names_again ρ declared.Bound ts)
own_pattern_names_again ρ shape.AssignmentPattern (suc n) ts = simp (all_names_again ρ declared.Bound ts)
own_pattern_names_again ρ h n ts = refl

mutual
  unfolding all_pattern_names pattern_names

  pub all_pattern_names_again : (ρ : Renaming) (ts : Trees) → all_pattern_names (all_again ρ ts) ≡ map (rename_name ρ.symbol) (all_pattern_names ts)
  all_pattern_names_again ρ none = refl
  all_pattern_names_again ρ (t ▸ ts) = simp (pattern_names_again ρ t, all_pattern_names_again ρ ts, map-append)

  pub pattern_names_again : (ρ : Renaming) (t : Tree) → pattern_names (again ρ t) ≡ map (rename_name ρ.symbol) (pattern_names t)
  pattern_names_again ρ (node h xs n ts) = simp (own_pattern_names_again ρ h n ts, all_pattern_names_again ρ ts, map-append)

pub own_switched_again : (ρ : Renaming) (h : Shape) (ts : Trees) → own_switched h (all_again ρ ts) ≡ map (rename_name ρ.symbol) (own_switched h ts)
own_switched_again ρ shape.SwitchStatement ts = simp (all_names_again ρ declared.Lexical ts)
own_switched_again ρ h ts = refl

mutual
  unfolding all_switched switched

  pub all_switched_again : (ρ : Renaming) (ts : Trees) → all_switched (all_again ρ ts) ≡ map (rename_name ρ.symbol) (all_switched ts)
  all_switched_again ρ none = refl
  all_switched_again ρ (t ▸ ts) = simp (switched_again ρ t, all_switched_again ρ ts, map-append)

  pub switched_again : (ρ : Renaming) (t : Tree) → switched (again ρ t) ≡ map (rename_name ρ.symbol) (switched t)
  switched_again ρ (node h xs n ts) = simp (own_switched_again ρ h ts, all_switched_again ρ ts, map-append)

pub ended_by_again : (ρ : Renaming) (h : Shape) (ts : Trees) → ended_by h (all_again ρ ts) ≡ map (rename_name ρ.symbol) (ended_by h ts)
ended_by_again ρ shape.VariableDeclarator ts = simp (first_names_again ρ ts)
ended_by_again ρ (shape.Function true g ds) ts = simp (first_names_again ρ ts)
ended_by_again ρ (shape.Class true) ts = simp (first_names_again ρ ts)
ended_by_again ρ shape.CatchClause ts = simp (first_names_again ρ ts)
ended_by_again ρ h ts = refl

-- Declarations that no run comes to, of a tree that is read again.
use Rattle.mini_again.proofs.LawDeclaredNamesAgain.{names_of_again}
use Rattle.mini_again.proofs.ListsAgain.{encloses_again, is_terminated_again}
use Rattle.mini_again.proofs.ModelPathsAgain.{append_again}
use Rattle.mini_again.proofs.ModelTreeAgain.{child_or_absent_again, children_again, count_again, shape_of_again}
use Rattle.mini_again.proofs.ModelWeightAgain.{weight_again}
use Rattle.mini_again.specs.Again.{Renaming, again, all_again}
use Rattle.mini_laws.specs.DeclaredNames.{names_of}
use Rattle.mini_laws.specs.Renaming.{rename_name}
use Rattle.mini_model.specs.Tree.{Tree, Trees, child_or_absent, children, listed, node, none, shape_of, ◌▸◌}
use Rattle.mini_model.specs.declared.kind.VariableDeclarationKind.{VariableDeclarationKind}
use Rattle.mini_model.specs.declared.kind.VariableDeclarationKind.TheVariants.{Const}
use Rattle.mini_model.specs.declared.name.Name.{Name}
use Rattle.mini_model.specs.declared.place.Position.TheVariants.{StatementList, Stmt}
use Rattle.mini_rows.specs.DeadLexicals.{By_all, By_default, By_first, By_name, Giving, Never, Nothing, Row77Lexical, all_give, declarators, declared_with, faded, first_gives, gives, gives_by, giving_of, goes_whole, initializer, is_single, kind_left}
use Rattle.std.proofs.Common.{ap}
use Rattle.std.specs.Prelude.{Bool, List, [], false, map, refl, ◌∷◌, ◌≡◌}
use Rattle.mini_laws.specs.declared.names.Declared.TheVariants as declared
use Rattle.mini_model.specs.declared.seat.StmtSeat.TheVariants as stmt_seat
use Rattle.mini_model.specs.declared.shape.Shape.TheVariants as shape

pub initializer_again : (ρ : Renaming) (k : VariableDeclarationKind) → again ρ (initializer k) ≡ initializer k
initializer_again ρ Const = refl
initializer_again ρ k = refl

pub declarators_again : (ρ : Renaming) (k : VariableDeclarationKind) (xs : List Name) → declarators k (map (rename_name ρ.symbol) xs) ≡ all_again ρ (declarators k xs)
declarators_again ρ k [] = refl
declarators_again ρ k (x ∷ xs) = simp (initializer_again ρ k, declarators_again ρ k xs)

pub declared_with_again : (ρ : Renaming) (k : VariableDeclarationKind) (xs : List Name) → declared_with k (map (rename_name ρ.symbol) xs) ≡ all_again ρ (declared_with k xs)
declared_with_again ρ k [] = refl
declared_with_again ρ k (x ∷ xs) = simp (declarators_again ρ k (x ∷ xs))

pub is_single_again : (ρ : Renaming) (xs : List Name) → is_single (map (rename_name ρ.symbol) xs) ≡ is_single xs
is_single_again ρ (x ∷ []) = refl
is_single_again ρ xs = refl

pub gives_by_again : (ρ : Renaming) (g : Giving) (xs : List Name) (ts : Trees) (all first : Bool) → gives_by g (map (rename_name ρ.symbol) xs) (all_again ρ ts) all first ≡ gives_by g xs ts all first
gives_by_again ρ By_name xs ts all first = simp (is_single_again ρ xs)
gives_by_again ρ By_all xs ts all first = refl
gives_by_again ρ By_first xs ts all first = refl
gives_by_again ρ By_default xs ts all first = simp (count_again ρ ts, child_or_absent_again ρ ts 1, shape_of_again ρ (child_or_absent ts 1))
gives_by_again ρ Never xs ts all first = refl
gives_by_again ρ Nothing xs ts all first = refl

mutual
  pub all_give_again : (ρ : Renaming) (ts : Trees) → all_give (all_again ρ ts) ≡ all_give ts
  all_give_again ρ none = refl
  all_give_again ρ (t ▸ ts) = simp (gives_again ρ t, all_give_again ρ ts)

  pub first_gives_again : (ρ : Renaming) (ts : Trees) → first_gives (all_again ρ ts) ≡ first_gives ts
  first_gives_again ρ none = refl
  first_gives_again ρ (t ▸ ts) = simp (gives_again ρ t)

  pub gives_again : (ρ : Renaming) (t : Tree) → gives (again ρ t) ≡ gives t
  gives_again ρ (node h xs n ts) = simp (all_give_again ρ ts, first_gives_again ρ ts, gives_by_again ρ (giving_of h) xs ts (all_give ts) (first_gives ts))

pub goes_whole_again : (ρ : Renaming) (t : Tree) → goes_whole (again ρ t) ≡ goes_whole t
goes_whole_again ρ (node (shape.VariableDeclaration k) xs n ts) = simp (count_again ρ ts, child_or_absent_again ρ ts 0, encloses_again ρ false (child_or_absent ts 0))
goes_whole_again ρ t = simp (encloses_again ρ false t)

pub row77_lexical_again : (ρ : Renaming) (a b : Trees) → Row77Lexical a b → Row77Lexical (all_again ρ a) (all_again ρ b)
row77_lexical_again ρ a b r = record {
  first = again ρ r.first;
  between = all_again ρ r.between;
  gone = again ρ r.gone;
  terminated = simp (is_terminated_again ρ r.first) r.terminated;
  fades = simp (shape_of_again ρ r.gone, children_again ρ r.gone, first_gives_again ρ (children r.gone), goes_whole_again ρ r.gone) r.fades;
  lighter = simp (shape_of_again ρ r.gone, names_of_again ρ declared.Lexical r.gone, declared_with_again ρ (kind_left (shape_of r.gone)) (names_of declared.Lexical r.gone), weight_again ρ StatementList (listed (faded r.gone)), weight_again ρ (Stmt stmt_seat.List) r.gone) r.lighter;
  shape = simp (← (append_again ρ r.between (r.gone ▸ none))) at (ap (all_again ρ) r.shape);
  written = simp (← (shape_of_again ρ r.gone)) at (simp (← (names_of_again ρ declared.Lexical r.gone), ← (declared_with_again ρ (kind_left (shape_of r.gone)) (names_of declared.Lexical r.gone)), ← (append_again ρ r.between (faded r.gone))) at (ap (all_again ρ) r.written));
}

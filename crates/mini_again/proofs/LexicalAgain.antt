-- Rows of lexical names that no event shows read a node that is read again.
use Rattle.mini_again.proofs.CasesAgain.{breaks_out_again}
use Rattle.mini_again.proofs.ListsAgain.{declares_nothing_again}
use Rattle.mini_again.proofs.LoopsAgain.{again_leaving, again_tested, also_again, goes_by_again, is_tested_again, is_there_again, leaves_by_again, may_leap_again, runs_on_again, test_of_again}
use Rattle.mini_again.proofs.ModelPathsAgain.{append_again}
use Rattle.mini_again.proofs.ModelTreeAgain.{shape_of_again}
use Rattle.mini_again.proofs.Names.{if_all_again, names_with_others}
use Rattle.mini_again.proofs.SpellingsAgain.{plain_again}
use Rattle.mini_again.proofs.UnusedAgain.{names_again}
use Rattle.mini_again.specs.Again.{Renaming, again, all_again, with_others_in}
use Rattle.mini_laws.specs.Renaming.{rename_name, rename_symbol}
use Rattle.mini_laws.specs.Value.{VariableSet}
use Rattle.mini_model.specs.Paths.{append}
use Rattle.mini_model.specs.Tree.{Tree, Trees, listed, node, none, ◌▸◌}
use Rattle.mini_model.specs.declared.name.Name.{Name}
use Rattle.mini_model.specs.declared.name.SymbolId.{SymbolId}
use Rattle.mini_model.specs.declared.place.Position.{Position}
use Rattle.mini_model.specs.declared.place.Position.TheVariants.{Stmt}
use Rattle.mini_rows.specs.Cases.{bare_break}
use Rattle.mini_rows.specs.Lexical.{LexicalRow, LexicalStatement, Row80Lexical, Row84Lexical, all_bind_only, all_pass, are_held, binds_only, first_binds_only, is_of, is_of_by, is_of_outside}
use Rattle.mini_rows.specs.Loops.{goes_by, runs_on}
use Rattle.std.proofs.Common.{ap, inl, inr, ◌∙◌}
use Rattle.std.proofs.Math.Path.{fun_ext}
use Rattle.std.specs.Prelude.{Bool, List, None, Option, Some, [], map, refl, ◌∷◌, ◌≡◌}

pub all_pass_again : (ρ : Renaming) (P : (Name → Bool)) (xs : List Name) → all_pass P (map (rename_name ρ.symbol) xs) ≡ all_pass (names_with_others ρ P) xs
all_pass_again ρ P [] = refl
all_pass_again ρ P (x ∷ xs) = simp (all_pass_again ρ P xs)

mutual
  pub all_bind_only_again : (ρ : Renaming) (P : (Name → Bool)) (ts : Trees) → all_bind_only P (all_again ρ ts) ≡ all_bind_only (names_with_others ρ P) ts
  all_bind_only_again ρ P none = refl
  all_bind_only_again ρ P (t ▸ ts) = simp (binds_only_again ρ P t, all_bind_only_again ρ P ts)

  pub binds_only_again : (ρ : Renaming) (P : (Name → Bool)) (t : Tree) → binds_only P (again ρ t) ≡ binds_only (names_with_others ρ P) t
  binds_only_again ρ P (node h xs n ts) = simp (all_pass_again ρ P xs, all_bind_only_again ρ P ts, first_binds_only_again ρ P ts)

  pub first_binds_only_again : (ρ : Renaming) (P : (Name → Bool)) (ts : Trees) → first_binds_only P (all_again ρ ts) ≡ first_binds_only (names_with_others ρ P) ts
  first_binds_only_again ρ P none = refl
  first_binds_only_again ρ P (t ▸ ts) = simp (binds_only_again ρ P t)

pub are_held_again : (ρ : Renaming) (P : (Name → Bool)) (ts : Trees) → are_held P (all_again ρ ts) ≡ are_held (names_with_others ρ P) ts
are_held_again ρ P none = refl
are_held_again ρ P (t ▸ ts) = simp (shape_of_again ρ t, binds_only_again ρ P t, are_held_again ρ P ts)

pub is_of_by_again : (ρ : Renaming) (V : VariableSet) (s : Option SymbolId) → is_of_by V (rename_symbol ρ.symbol s) ≡ is_of_by (with_others_in ρ V) s
is_of_by_again ρ V None = refl
is_of_by_again ρ V (Some s) = refl

pub is_of_again : (ρ : Renaming) (V : VariableSet) (x : Name) → is_of V (rename_name ρ.symbol x) ≡ is_of (with_others_in ρ V) x
is_of_again ρ V x = simp (is_of_by_again ρ V x.symbol)

pub row80_lexical_again : (ρ : Renaming) (V : VariableSet) (n w : Tree) → Row80Lexical (with_others_in ρ V) n w → Row80Lexical V (again ρ n) (again ρ w)
row80_lexical_again ρ V n w r = record {
  discriminant = again ρ r.discriminant;
  test = r.test;
  statements = all_again ρ r.statements;
  is_ended = r.is_ended;
  value = simp (declares_nothing_again ρ r.discriminant) r.value;
  held = are_held_again ρ (is_of V) r.statements ∙ ap (λ P. are_held P r.statements) (fun_ext (is_of_again ρ V)) ∙ r.held;
  stays = simp (breaks_out_again ρ (listed r.statements)) r.stays;
  shape = simp (plain_again ρ r.test, ← (if_all_again ρ r.is_ended (append r.statements (bare_break ▸ none)) r.statements), ← (append_again ρ r.statements (bare_break ▸ none))) at (ap (again ρ) r.shape);
  written = simp (plain_again ρ r.test) at (ap (again ρ) r.written);
}

pub is_of_outside_again : (ρ : Renaming) (V : VariableSet) (x : Tree) (y : Name) → is_of_outside V (again ρ x) (rename_name ρ.symbol y) ≡ is_of_outside (with_others_in ρ V) x y
is_of_outside_again ρ V x y = simp (is_of_again ρ V y, names_again ρ y x)

pub row84_lexical_again : (ρ : Renaming) (V : VariableSet) (n w : Tree) → Row84Lexical (with_others_in ρ V) n w → Row84Lexical V (again ρ n) (again ρ w)
row84_lexical_again ρ V n w r = record {
  init = again ρ r.init;
  test = again_tested ρ r.test;
  update = again ρ r.update;
  leaving = again_leaving ρ r.leaving;
  x = again ρ r.x;
  others = all_again ρ r.others;
  asked = simp (is_there_again ρ r.x, may_leap_again ρ r.x) r.asked;
  tested = simp (is_tested_again ρ r.test) r.tested;
  loose = simp (runs_on_again ρ r.leaving, shape_of_again ρ (runs_on r.leaving)) r.loose;
  held = are_held_again ρ (is_of_outside V (again ρ r.x)) r.others ∙ ap (λ P. are_held P r.others) (fun_ext (is_of_outside_again ρ V r.x)) ∙ r.held;
  shape = simp (← (test_of_again ρ r.test), ← (leaves_by_again ρ r.leaving r.x)) at (ap (again ρ) r.shape);
  written = simp (← (goes_by_again ρ r.leaving r.x), ← (also_again ρ r.test (goes_by r.leaving r.x)), ← (runs_on_again ρ r.leaving)) at (ap (again ρ) r.written);
}

pub lexical_statement_again : (ρ : Renaming) (V : VariableSet) (n w : Tree) → LexicalStatement (with_others_in ρ V) n w → LexicalStatement V (again ρ n) (again ρ w)
lexical_statement_again ρ V n w (inl r) = inl (row80_lexical_again ρ V n w r)
lexical_statement_again ρ V n w (inr r) = inr (row84_lexical_again ρ V n w r)

pub lexical_row_again : (ρ : Renaming) (V : VariableSet) (p : Position) (n w : Tree) → LexicalRow (with_others_in ρ V) p n w → LexicalRow V p (again ρ n) (again ρ w)
lexical_row_again ρ V (Stmt q) n w r = lexical_statement_again ρ V n w r
lexical_row_again ρ V p1 n w r = absurd r

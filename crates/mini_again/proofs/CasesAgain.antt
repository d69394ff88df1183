-- Rows of switches with one case read a node that is read again.
use Rattle.mini_again.proofs.ListsAgain.{are_unscoped_again, declares_nothing_again}
use Rattle.mini_again.proofs.ModelPathsAgain.{append_again}
use Rattle.mini_again.proofs.ModelTreeAgain.{child_or_absent_again, shape_of_again}
use Rattle.mini_again.proofs.Names.{if_all_again}
use Rattle.mini_again.proofs.SpellingsAgain.{plain_again}
use Rattle.mini_again.specs.Again.{Renaming, again, all_again}
use Rattle.mini_model.specs.Paths.{append}
use Rattle.mini_model.specs.Tree.{Tree, Trees, child_or_absent, listed, node, none, ◌▸◌}
use Rattle.mini_model.specs.declared.shape.Shape.{Shape}
use Rattle.mini_rows.specs.Cases.{OneCaseRow, Row80Case, Row80Default, Row80Scoped, any_breaks_out, bare_break, breaks_out}
use Rattle.std.proofs.Common.{ap, inl, inr}
use Rattle.std.specs.Prelude.{refl, suc, ℕ, ◌≡◌}

mutual
  pub any_breaks_out_again : (ρ : Renaming) (h : Shape) (i : ℕ) (ts : Trees) → any_breaks_out h i (all_again ρ ts) ≡ any_breaks_out h i ts
  any_breaks_out_again ρ h i none = refl
  any_breaks_out_again ρ h i (t ▸ ts) = simp (breaks_out_again ρ t, any_breaks_out_again ρ h (suc i) ts)

  pub breaks_out_again : (ρ : Renaming) (t : Tree) → breaks_out (again ρ t) ≡ breaks_out t
  breaks_out_again ρ (node h xs n ts) = simp (child_or_absent_again ρ ts 0, shape_of_again ρ (child_or_absent ts 0), any_breaks_out_again ρ h 0 ts)

pub row80_case_again : (ρ : Renaming) (n w : Tree) → Row80Case n w → Row80Case (again ρ n) (again ρ w)
row80_case_again ρ n w r = record {
  discriminant = again ρ r.discriminant;
  test = r.test;
  statements = all_again ρ r.statements;
  is_ended = r.is_ended;
  value = simp (declares_nothing_again ρ r.discriminant) r.value;
  unscoped = simp (are_unscoped_again ρ r.statements) r.unscoped;
  stays = simp (breaks_out_again ρ (listed r.statements)) r.stays;
  shape = simp (plain_again ρ r.test, ← (if_all_again ρ r.is_ended (append r.statements (bare_break ▸ none)) r.statements), ← (append_again ρ r.statements (bare_break ▸ none))) at (ap (again ρ) r.shape);
  written = simp (plain_again ρ r.test) at (ap (again ρ) r.written);
}

pub row80_default_again : (ρ : Renaming) (n w : Tree) → Row80Default n w → Row80Default (again ρ n) (again ρ w)
row80_default_again ρ n w r = record {
  discriminant = again ρ r.discriminant;
  statements = all_again ρ r.statements;
  is_ended = r.is_ended;
  value = simp (declares_nothing_again ρ r.discriminant) r.value;
  unscoped = simp (are_unscoped_again ρ r.statements) r.unscoped;
  stays = simp (breaks_out_again ρ (listed r.statements)) r.stays;
  shape = simp (← (if_all_again ρ r.is_ended (append r.statements (bare_break ▸ none)) r.statements), ← (append_again ρ r.statements (bare_break ▸ none))) at (ap (again ρ) r.shape);
  written = ap (again ρ) r.written;
}

pub row80_scoped_again : (ρ : Renaming) (n w : Tree) → Row80Scoped n w → Row80Scoped (again ρ n) (again ρ w)
row80_scoped_again ρ n w r = record {
  discriminant = again ρ r.discriminant;
  statements = all_again ρ r.statements;
  is_ended = r.is_ended;
  value = simp (declares_nothing_again ρ r.discriminant) r.value;
  scoped = simp (are_unscoped_again ρ r.statements) r.scoped;
  stays = simp (breaks_out_again ρ (listed r.statements)) r.stays;
  shape = simp (← (if_all_again ρ r.is_ended (append r.statements (bare_break ▸ none)) r.statements), ← (append_again ρ r.statements (bare_break ▸ none))) at (ap (again ρ) r.shape);
  written = ap (again ρ) r.written;
}

pub one_case_row_again : (ρ : Renaming) (n w : Tree) → OneCaseRow n w → OneCaseRow (again ρ n) (again ρ w)
one_case_row_again ρ n w (inl r) = inl (row80_case_again ρ n w r)
one_case_row_again ρ n w (inr (inl r)) = inr (inl (row80_default_again ρ n w r))
one_case_row_again ρ n w (inr (inr r)) = inr (inr (row80_scoped_again ρ n w r))

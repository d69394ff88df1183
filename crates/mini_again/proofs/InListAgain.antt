-- Statements of a list that is read again.
use Rattle.std.specs.Prelude.{◌≡◌, ◌⊎◌, false}
use Rattle.std.proofs.Common.{ap, inl, inr}
use Rattle.mini_model.specs.Paths.{append}
use Rattle.mini_model.specs.Tree.{Tree, Trees, absent, is_absent}
use Rattle.mini_rows.specs.Lists.{InList, AtEnd}
use Rattle.mini_again.specs.Again.{Renaming, again, all_again}
use Rattle.mini_again.proofs.ModelPathsAgain.{append_again}
use Rattle.mini_again.proofs.ModelTreeAgain.{is_absent_again}

pub in_list_again : (ρ : Renaming) {R Q : Trees → Trees → Type 0} → ((ts us : Trees) → R ts us → Q (all_again ρ ts) (all_again ρ us)) → (n w : Tree) → InList R n w → InList Q (again ρ n) (again ρ w)
in_list_again ρ again_row n w r = record {
  before = all_again ρ r.before;
  read = all_again ρ r.read;
  put = all_again ρ r.put;
  after = all_again ρ r.after;
  row = again_row r.read r.put r.row;
  shape = simp (← (append_again ρ r.read r.after), ← (append_again ρ r.before (append r.read r.after))) at (ap (again ρ) r.shape);
  written = simp (← (append_again ρ r.put r.after), ← (append_again ρ r.before (append r.put r.after))) at (ap (again ρ) r.written);
}

pub at_end_again : (ρ : Renaming) {R Q : Trees → Trees → Type 0} → ((ts us : Trees) → R ts us → Q (all_again ρ ts) (all_again ρ us)) → (n w : Tree) → AtEnd R n w → AtEnd Q (again ρ n) (again ρ w)
at_end_again ρ again_row n w r = record {
  before = all_again ρ r.before;
  read = all_again ρ r.read;
  put = all_again ρ r.put;
  row = again_row r.read r.put r.row;
  shape = simp (← (append_again ρ r.before r.read)) at (ap (again ρ) r.shape);
  written = simp (← (append_again ρ r.before r.put)) at (ap (again ρ) r.written);
}

pub absent_or_not : (ρ : Renaming) (t : Tree) → (t ≡ absent) ⊎ (is_absent t ≡ false) → (again ρ t ≡ absent) ⊎ (is_absent (again ρ t) ≡ false)
absent_or_not ρ t (inl e) = inl (ap (again ρ) e)
absent_or_not ρ t (inr e) = inr (simp (is_absent_again ρ t) e)

pub of_either : {A B C D : Type 0} → (A → C) → (B → D) → A ⊎ B → C ⊎ D
of_either f g (inl x) = inl (f x)
of_either f g (inr x) = inr (g x)

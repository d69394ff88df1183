-- Rows that turn a test read a node that is read again.
use Rattle.mini_again.proofs.BranchesAgain.{has_else_again}
use Rattle.mini_again.proofs.ModelTreeAgain.{shape_of_again}
use Rattle.mini_again.specs.Again.{Renaming, again, all_again}
use Rattle.mini_model.specs.Tree.{Tree, Trees, none, shape_of, ◌▸◌}
use Rattle.mini_model.specs.declared.place.Position.{Position}
use Rattle.mini_model.specs.declared.place.Position.TheVariants.{Expr, Stmt}
use Rattle.mini_model.specs.declared.shape.Shape.{Shape}
use Rattle.mini_rows.specs.Turns.{HoldsOther, KeepsBraces, Row40Unequal, Row83Swapped, TurnRow, chooses_by, one_chooses}
use Rattle.std.proofs.Common.{ap, inl, inr}
use Rattle.std.specs.Prelude.{refl, ◌≡◌}
use Rattle.mini_model.specs.declared.shape.Shape.TheVariants as shape

pub chooses_by_again : (ρ : Renaming) (h : Shape) (t : Tree) → chooses_by h (again ρ t) ≡ chooses_by h t
chooses_by_again ρ shape.IfStatement t = simp (has_else_again ρ t)
chooses_by_again ρ shape.Listed t = refl
chooses_by_again ρ _ t = refl

pub one_chooses_again : (ρ : Renaming) (ts : Trees) → one_chooses (all_again ρ ts) ≡ one_chooses ts
one_chooses_again ρ (t ▸ none) = simp (shape_of_again ρ t, chooses_by_again ρ (shape_of t) t)
one_chooses_again ρ _ = refl

pub holds_other_again : (ρ : Renaming) (t : Tree) → HoldsOther t → HoldsOther (again ρ t)
holds_other_again ρ t r = record {
  statements = all_again ρ r.statements;
  is = ap (again ρ) r.is;
  other = simp (one_chooses_again ρ r.statements) r.other;
}

pub keeps_braces_again : (ρ : Renaming) (t : Tree) → KeepsBraces t → KeepsBraces (again ρ t)
keeps_braces_again ρ t (inl r) = inl (simp (shape_of_again ρ t) r)
keeps_braces_again ρ t (inr r) = inr (holds_other_again ρ t r)

pub row40_unequal_again : (ρ : Renaming) (n w : Tree) → Row40Unequal n w → Row40Unequal (again ρ n) (again ρ w)
row40_unequal_again ρ n w r = record {
  is_strict = r.is_strict;
  a = again ρ r.a;
  b = again ρ r.b;
  c = again ρ r.c;
  d = again ρ r.d;
  shape = ap (again ρ) r.shape;
  written = ap (again ρ) r.written;
}

pub row83_swapped_again : (ρ : Renaming) (n w : Tree) → Row83Swapped n w → Row83Swapped (again ρ n) (again ρ w)
row83_swapped_again ρ n w r = record {
  a = again ρ r.a;
  s = again ρ r.s;
  u = again ρ r.u;
  other = simp (shape_of_again ρ r.s) r.other;
  braces = keeps_braces_again ρ r.s r.braces;
  unchained = simp (shape_of_again ρ r.u) r.unchained;
  shape = ap (again ρ) r.shape;
  written = ap (again ρ) r.written;
}

pub turn_row_again : (ρ : Renaming) (p : Position) (n w : Tree) → TurnRow p n w → TurnRow p (again ρ n) (again ρ w)
turn_row_again ρ (Expr s) n w r = row40_unequal_again ρ n w r
turn_row_again ρ (Stmt q) n w r = row83_swapped_again ρ n w r
turn_row_again ρ p0 n w r = absurd r

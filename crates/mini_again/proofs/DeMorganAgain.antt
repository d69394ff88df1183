-- De Morgan's laws read a node that is read again.
use Rattle.mini_again.proofs.ModelPathsAgain.{append_again}
use Rattle.mini_again.proofs.ModelTreeAgain.{shape_of_again}
use Rattle.mini_again.proofs.NegationsAgain.{lightest_again}
use Rattle.mini_again.proofs.NodeChildrenAgain.{is_bare_again}
use Rattle.mini_again.specs.Again.{Renaming, again, all_again}
use Rattle.mini_model.specs.Position.{left_operand_seat, statement_expression_seat}
use Rattle.mini_model.specs.Terms.{turned}
use Rattle.mini_model.specs.Tree.{Tree, Trees, logical, none, ◌▸◌}
use Rattle.mini_model.specs.declared.place.Position.{Position}
use Rattle.mini_model.specs.declared.place.Position.TheVariants.{Expr, Stmt}
use Rattle.mini_rows.specs.DeMorgan.{Alone, Begins, DeMorganRow, Row50, Row50Part, Turns, VoidPlace, ended, turned_logical, void_of}
use Rattle.std.proofs.Common.{ap}
use Rattle.std.specs.Prelude.{refl, ◌≡◌}

abbrev pub again_void_place : Renaming → VoidPlace → VoidPlace
again_void_place ρ Alone = Alone
again_void_place ρ (Begins a0 a1 a2) = Begins (again ρ a0) (again ρ a1) (again ρ a2)
again_void_place ρ (Turns a0 a1 a2) = Turns (again ρ a0) (again ρ a1) (again ρ a2)

pub ended_again : (ρ : Renaming) (ts : Trees) (x : Tree) → ended (all_again ρ ts) (again ρ x) ≡ again ρ (ended ts x)
ended_again ρ none x = refl
ended_again ρ (p ▸ ps) x = simp (append_again ρ ps (x ▸ none))

pub void_of_again : (ρ : Renaming) (v : VoidPlace) (x : Tree) → void_of (again_void_place ρ v) (again ρ x) ≡ again ρ (void_of v x)
void_of_again ρ Alone x = refl
void_of_again ρ (Begins test update body) x = refl
void_of_again ρ (Turns init test body) x = refl

pub row50_again : (ρ : Renaming) (n w : Tree) → Row50 n w → Row50 (again ρ n) (again ρ w)
row50_again ρ n w r = record {
  place = again_void_place ρ r.place;
  before = all_again ρ r.before;
  operator = r.operator;
  a = again ρ r.a;
  b = again ρ r.b;
  tells = r.tells;
  apart = simp (shape_of_again ρ r.b, is_bare_again ρ r.b 2) r.apart;
  shape = simp (← (ended_again ρ r.before (logical r.operator r.a r.b)), ← (void_of_again ρ r.place (ended r.before (logical r.operator r.a r.b)))) at (ap (again ρ) r.shape);
  written = simp (← (lightest_again ρ (left_operand_seat (turned r.operator) statement_expression_seat) r.a), ← (ended_again ρ r.before (turned_logical r.operator r.a r.b)), ← (void_of_again ρ r.place (ended r.before (turned_logical r.operator r.a r.b)))) at (ap (again ρ) r.written);
}

pub row50_part_again : (ρ : Renaming) (n w : Tree) → Row50Part n w → Row50Part (again ρ n) (again ρ w)
row50_part_again ρ n w r = record {
  before = all_again ρ r.before;
  operator = r.operator;
  a = again ρ r.a;
  b = again ρ r.b;
  next = again ρ r.next;
  after = all_again ρ r.after;
  tells = r.tells;
  apart = simp (shape_of_again ρ r.b, is_bare_again ρ r.b 2) r.apart;
  shape = simp (← (append_again ρ r.before (logical r.operator r.a r.b ▸ (r.next ▸ r.after)))) at (ap (again ρ) r.shape);
  written = simp (← (lightest_again ρ (left_operand_seat (turned r.operator) statement_expression_seat) r.a), ← (append_again ρ r.before (turned_logical r.operator r.a r.b ▸ (r.next ▸ r.after)))) at (ap (again ρ) r.written);
}

pub de_morgan_row_again : (ρ : Renaming) (p : Position) (n w : Tree) → DeMorganRow p n w → DeMorganRow p (again ρ n) (again ρ w)
de_morgan_row_again ρ (Stmt q) n w r = row50_again ρ n w r
de_morgan_row_again ρ (Expr s) n w r = row50_part_again ρ n w r
de_morgan_row_again ρ p0 n w r = absurd r

-- Rows on what is known of an expression read a node that is read again.
use Rattle.mini_again.proofs.ForPartsAgain.{for_part_row_again}
use Rattle.mini_again.proofs.ListsAgain.{encloses_again}
use Rattle.mini_again.proofs.ModelTreeAgain.{child_or_absent_again, children_again, shape_of_again}
use Rattle.mini_again.proofs.NodeChildrenAgain.{is_bare_again, names_of_again}
use Rattle.mini_again.proofs.NodeKindsAgain.{is_named_leaf_again}
use Rattle.mini_again.proofs.TermEffectsAgain.{ef_again}
use Rattle.mini_again.proofs.TermFoldsAgain.{goes_on_again, stops_again}
use Rattle.mini_again.proofs.TermKindAgain.{kind_again}
use Rattle.mini_again.proofs.TermPartsAgain.{is_number_again, leaves_nothing_again, weighs_again}
use Rattle.mini_again.proofs.TermReadingAgain.{is_item_again, is_plain_part_again, stands_again}
use Rattle.mini_again.specs.Again.{Renaming, again}
use Rattle.mini_laws.specs.Renaming.{rename_name}
use Rattle.mini_model.specs.Tree.{Tree, children}
use Rattle.mini_model.specs.declared.name.Name.{Name}
use Rattle.mini_model.specs.declared.operator.LogicalOperator.{LogicalOperator}
use Rattle.mini_model.specs.declared.operator.LogicalOperator.TheVariants.{And}
use Rattle.mini_model.specs.declared.place.Position.{Position}
use Rattle.mini_model.specs.declared.place.Position.TheVariants.{Expr, Stmt}
use Rattle.mini_model.specs.declared.seat.Seat.{Seat}
use Rattle.mini_node.specs.Children.{names_of, part}
use Rattle.mini_rows.specs.Folding.{FoldingRow, Row12, Row13, Row22, Row28, Row49Idle, Row9, is_spelled, names_exports}
use Rattle.std.proofs.Common.{ap, inl, inr}
use Rattle.std.specs.Prelude.{List, [], codes, false, map, refl, true, ℕ, ◌∷◌, ◌≡◌}

pub is_spelled_again : (ρ : Renaming) (xs : List Name) (s : List ℕ) → is_spelled (map (rename_name ρ.symbol) xs) s ≡ is_spelled xs s
is_spelled_again ρ [] s = refl
is_spelled_again ρ (x ∷ xs) s = refl

pub names_exports_again : (ρ : Renaming) (o : LogicalOperator) (b : Tree) → names_exports o (again ρ b) ≡ names_exports o b
names_exports_again ρ And b = simp (shape_of_again ρ b, is_bare_again ρ b 2, children_again ρ b, child_or_absent_again ρ (children b) 0, shape_of_again ρ (part b 0), is_bare_again ρ (part b 0) 2, children_again ρ (part b 0), child_or_absent_again ρ (children (part b 0)) 0, shape_of_again ρ (part (part b 0) 0), is_named_leaf_again ρ (part (part b 0) 0), names_of_again ρ (part (part b 0) 0), is_spelled_again ρ (names_of (part (part b 0) 0)) (codes "module"), child_or_absent_again ρ (children (part b 0)) 1, shape_of_again ρ (part (part b 0) 1))
names_exports_again ρ o b = refl

pub row12_again : (ρ : Renaming) (s : Seat) (n w : Tree) → Row12 s n w → Row12 s (again ρ n) (again ρ w)
row12_again ρ s n w r = record {
  operator = r.operator;
  left = again ρ r.left;
  right = again ρ r.right;
  known = simp (stops_again ρ r.operator r.left) r.known;
  nameless = simp (names_exports_again ρ r.operator r.right) r.nameless;
  dropped = simp (encloses_again ρ false r.right) r.dropped;
  heavy = simp (weighs_again ρ r.right) r.heavy;
  stays = simp (is_plain_part_again ρ r.left, is_item_again ρ r.left, stands_again ρ r.left, is_number_again ρ r.left) r.stays;
  shape = ap (again ρ) r.shape;
  written = ap (again ρ) r.written;
}

pub row13_again : (ρ : Renaming) (s : Seat) (n w : Tree) → Row13 s n w → Row13 s (again ρ n) (again ρ w)
row13_again ρ s n w r = record {
  operator = r.operator;
  left = again ρ r.left;
  right = again ρ r.right;
  known = simp (goes_on_again ρ r.operator r.left) r.known;
  effect_free = simp (ef_again ρ true r.left) r.effect_free;
  dropped = simp (leaves_nothing_again ρ r.left) r.dropped;
  heavy = simp (weighs_again ρ r.left) r.heavy;
  stays = simp (is_plain_part_again ρ r.right, is_item_again ρ r.right, stands_again ρ r.right, is_number_again ρ r.right) r.stays;
  shape = ap (again ρ) r.shape;
  written = ap (again ρ) r.written;
}

pub row22_again : (ρ : Renaming) (n w : Tree) → Row22 n w → Row22 (again ρ n) (again ρ w)
row22_again ρ n w r = record {
  expression = again ρ r.expression;
  effect_free = simp (ef_again ρ true r.expression) r.effect_free;
  dropped = simp (leaves_nothing_again ρ r.expression) r.dropped;
  shape = ap (again ρ) r.shape;
  written = ap (again ρ) r.written;
}

pub row28_again : (ρ : Renaming) (n w : Tree) → Row28 n w → Row28 (again ρ n) (again ρ w)
row28_again ρ n w r = record {
  operator = r.operator;
  loose = r.loose;
  left = again ρ r.left;
  right = again ρ r.right;
  loosens = r.loosens;
  alike = simp (kind_again ρ r.left, kind_again ρ r.right) r.alike;
  shape = ap (again ρ) r.shape;
  written = ap (again ρ) r.written;
}

pub row49_idle_again : (ρ : Renaming) (s : Seat) (n w : Tree) → Row49Idle s n w → Row49Idle s (again ρ n) (again ρ w)
row49_idle_again ρ s n w r = record {
  test = again ρ r.test;
  branch = again ρ r.branch;
  effect_free = simp (ef_again ρ true r.test) r.effect_free;
  dropped = simp (leaves_nothing_again ρ r.test) r.dropped;
  heavy = simp (weighs_again ρ r.test) r.heavy;
  stays = simp (is_plain_part_again ρ r.branch, is_item_again ρ r.branch, stands_again ρ r.branch, is_number_again ρ r.branch) r.stays;
  shape = ap (again ρ) r.shape;
  written = ap (again ρ) r.written;
}

pub row9_again : (ρ : Renaming) (s : Seat) (n w : Tree) → Row9 s n w → Row9 s (again ρ n) (again ρ w)
row9_again ρ s n w r = record {
  units = r.units;
  unguarded = r.unguarded;
  unsigned = r.unsigned;
  unchained = r.unchained;
  small = r.small;
  shape = ap (again ρ) r.shape;
  written = ap (again ρ) r.written;
}

pub folding_row_again : (ρ : Renaming) (p : Position) (n w : Tree) → FoldingRow p n w → FoldingRow p (again ρ n) (again ρ w)
folding_row_again ρ (Expr s) n w (inl r) = inl (row13_again ρ s n w r)
folding_row_again ρ (Expr s) n w (inr (inl r)) = inr (inl (row12_again ρ s n w r))
folding_row_again ρ (Expr s) n w (inr (inr (inl r))) = inr (inr (inl (row28_again ρ n w r)))
folding_row_again ρ (Expr s) n w (inr (inr (inr (inl r)))) = inr (inr (inr (inl (row49_idle_again ρ s n w r))))
folding_row_again ρ (Expr s) n w (inr (inr (inr (inr r)))) = inr (inr (inr (inr (row9_again ρ s n w r))))
folding_row_again ρ (Stmt q) n w (inl r) = inl (row22_again ρ n w r)
folding_row_again ρ (Stmt q) n w (inr r) = inr (for_part_row_again ρ n w r)
folding_row_again ρ p0 n w r = absurd r

-- Rows of templates read a node that is read again.
use Rattle.mini_again.proofs.ModelPathsAgain.{append_again}
use Rattle.mini_again.proofs.ModelTreeAgain.{count_again}
use Rattle.mini_again.proofs.TermCalculatedAgain.{value_within_again}
use Rattle.mini_again.proofs.TermEffectsAgain.{ef_again}
use Rattle.mini_again.proofs.TermKindAgain.{kind_again}
use Rattle.mini_again.proofs.TermPartsAgain.{leaves_nothing_again}
use Rattle.mini_again.specs.Again.{Renaming, again, all_again}
use Rattle.mini_model.specs.Tree.{Tree, none, ◌▸◌}
use Rattle.mini_model.specs.declared.operator.BinaryOperator.TheVariants.{Addition}
use Rattle.mini_model.specs.declared.place.Position.{Position}
use Rattle.mini_model.specs.declared.place.Position.TheVariants.{Expr}
use Rattle.mini_rows.specs.Spellings.{binary}
use Rattle.mini_rows.specs.Templates.{Piece, Row18, Row5, Row5After, Row5Before, Row5Both, Row6, TemplateRow, pair, piece, pieces, spelled}
use Rattle.mini_terms.specs.Calculated.{operand_depth}
use Rattle.std.proofs.Common.{ap, inl, inr}
use Rattle.std.specs.Prelude.{List, [], false, refl, true, ◌∷◌, ◌≡◌}

pub pieces_again : (ρ : Renaming) (p : List Piece) → all_again ρ (pieces p) ≡ pieces p
pieces_again ρ [] = refl
pieces_again ρ (p ∷ ps) = simp (pieces_again ρ ps)

pub row18_again : (ρ : Renaming) (n w : Tree) → Row18 n w → Row18 (again ρ n) (again ρ w)
row18_again ρ n w r = record {
  before = r.before;
  first = r.first;
  second = r.second;
  after = r.after;
  earlier = all_again ρ r.earlier;
  part = again ρ r.part;
  later = all_again ρ r.later;
  text = r.text;
  starts = simp (count_again ρ r.earlier) r.starts;
  ends = simp (count_again ρ r.later) r.ends;
  known = simp (value_within_again ρ false operand_depth r.part) r.known;
  dropped = simp (leaves_nothing_again ρ r.part) r.dropped;
  shape = simp (pieces_again ρ r.before, pieces_again ρ r.after, ← (append_again ρ (pieces r.before) (piece r.first ▸ (piece r.second ▸ pieces r.after))), ← (append_again ρ r.earlier (r.part ▸ r.later))) at (ap (again ρ) r.shape);
  written = simp (pieces_again ρ r.before, pieces_again ρ r.after, ← (append_again ρ (pieces r.before) (piece (pair (pair r.first (spelled r.text)) r.second) ▸ pieces r.after)), ← (append_again ρ r.earlier r.later)) at (ap (again ρ) r.written);
}

pub row5_after_again : (ρ : Renaming) (n w : Tree) → Row5After n w → Row5After (again ρ n) (again ρ w)
row5_after_again ρ n w r = record {
  before = r.before;
  last = r.last;
  earlier = all_again ρ r.earlier;
  tail = again ρ r.tail;
  text = r.text;
  starts = simp (count_again ρ r.earlier) r.starts;
  known = simp (value_within_again ρ false operand_depth r.tail) r.known;
  dropped = simp (leaves_nothing_again ρ r.tail) r.dropped;
  shape = simp (pieces_again ρ r.before, ← (append_again ρ (pieces r.before) (piece r.last ▸ none))) at (ap (again ρ) r.shape);
  written = simp (pieces_again ρ r.before, ← (append_again ρ (pieces r.before) (piece (pair r.last (spelled r.text)) ▸ none))) at (ap (again ρ) r.written);
}

pub row5_before_again : (ρ : Renaming) (n w : Tree) → Row5Before n w → Row5Before (again ρ n) (again ρ w)
row5_before_again ρ n w r = record {
  head = again ρ r.head;
  text = r.text;
  first = r.first;
  after = r.after;
  later = all_again ρ r.later;
  ends = simp (count_again ρ r.later) r.ends;
  known = simp (value_within_again ρ false operand_depth r.head) r.known;
  dropped = simp (leaves_nothing_again ρ r.head) r.dropped;
  shape = simp (pieces_again ρ r.after) at (ap (again ρ) r.shape);
  written = simp (pieces_again ρ r.after) at (ap (again ρ) r.written);
}

pub row5_both_again : (ρ : Renaming) (n w : Tree) → Row5Both n w → Row5Both (again ρ n) (again ρ w)
row5_both_again ρ n w r = record {
  before = r.before;
  last = r.last;
  earlier = all_again ρ r.earlier;
  first = r.first;
  after = r.after;
  later = all_again ρ r.later;
  starts = simp (count_again ρ r.earlier) r.starts;
  ends = simp (count_again ρ r.later) r.ends;
  shape = simp (pieces_again ρ r.before, ← (append_again ρ (pieces r.before) (piece r.last ▸ none)), pieces_again ρ r.after) at (ap (again ρ) r.shape);
  written = simp (pieces_again ρ r.before, pieces_again ρ r.after, ← (append_again ρ (pieces r.before) (piece (pair r.last r.first) ▸ pieces r.after)), ← (append_again ρ r.earlier r.later)) at (ap (again ρ) r.written);
}

pub row5_again : (ρ : Renaming) (n w : Tree) → Row5 n w → Row5 (again ρ n) (again ρ w)
row5_again ρ n w (inl r) = inl (row5_both_again ρ n w r)
row5_again ρ n w (inr (inl r)) = inr (inl (row5_after_again ρ n w r))
row5_again ρ n w (inr (inr r)) = inr (inr (row5_before_again ρ n w r))

pub row6_again : (ρ : Renaming) (n w : Tree) → Row6 n w → Row6 (again ρ n) (again ρ w)
row6_again ρ n w r = record {
  left = again ρ r.left;
  inner = again ρ r.inner;
  tail = again ρ r.tail;
  joined = again ρ r.joined;
  known = simp (kind_again ρ r.inner) r.known;
  effect_free = simp (ef_again ρ true r.tail) r.effect_free;
  settled = simp (kind_again ρ r.left, value_within_again ρ false operand_depth r.tail) r.settled;
  sum = row5_again ρ (binary Addition r.inner r.tail) r.joined r.sum;
  shape = ap (again ρ) r.shape;
  written = ap (again ρ) r.written;
}

pub template_row_again : (ρ : Renaming) (p : Position) (n w : Tree) → TemplateRow p n w → TemplateRow p (again ρ n) (again ρ w)
template_row_again ρ (Expr s) n w (inl r) = inl (row18_again ρ n w r)
template_row_again ρ (Expr s) n w (inr (inl r)) = inr (inl (row5_again ρ n w r))
template_row_again ρ (Expr s) n w (inr (inr r)) = inr (inr (row6_again ρ n w r))
template_row_again ρ p0 n w r = absurd r

-- Rows on templates ask less.
use Rattle.std.specs.Prelude.{refl, List, [], ◌∷◌}
use Rattle.std.proofs.Common.{inl, inr, sym, subst}
use Rattle.mini_model.specs.declared.operator.BinaryOperator.TheVariants.{Addition}
use Rattle.mini_model.specs.declared.place.Position.{Position}
use Rattle.mini_model.specs.declared.place.Position.TheVariants.{Expr}
use Rattle.mini_model.specs.declared.seat.Seat.{Seat}
use Rattle.mini_model.specs.Paths.{append}
use Rattle.mini_model.specs.Tree.{Tree, Trees, none, ◌▸◌, listed}
use Rattle.mini_rows.specs.Sketches.{AList, Binary, Template, Piece as PieceHead, Asked, AsValue, AsHeld}
use Rattle.mini_rows.specs.Spellings.{binary}
use Rattle.mini_rows.specs.Templates.{Piece, piece, pieces, template, pair, spelled, Row18, Row5, Row6, TemplateRow, TemplateContracts}
use Rattle.mini_rows.proofs.Arranging.{All, all_of, of_all, first_all, second_all, both_all, Any}
use Rattle.mini_less.specs.Families.{LessAt, TemplatesReadLess}
use Rattle.mini_less.proofs.LessRows.{reads_less_by}
use Rattle.mini_less.proofs.Made.{ByParts}
use Rattle.mini_less.proofs.Nodes.{binary_parts, a_binary, made_under}

module _ (Q : Asked → Tree → Type 0) (l : ByParts Q) where
  -- what stands between the pieces
  held : (texts parts : Trees) → Q AsValue (template texts parts) → All Q AsHeld parts
  held texts parts y = all_of Any Q AsHeld 0 parts (l.down AList refl AsHeld parts tt (l.down Template refl AsValue (listed texts ▸ listed parts ▸ none) tt y).1.0)

  a_piece : (p : Piece) → Q AsHeld (piece p)
  a_piece p = l.up (PieceHead p.is_tail p.raw p.cooked) refl AsHeld none tt tt

  all_pieces : (ps : List Piece) → All Q AsHeld (pieces ps)
  all_pieces [] = tt
  all_pieces (p ∷ ps) = (a_piece p, all_pieces ps)

  a_template : (texts parts : Trees) → All Q AsHeld texts → All Q AsHeld parts → Q AsValue (template texts parts)
  a_template texts parts x y = l.up Template refl AsValue (listed texts ▸ listed parts ▸ none) tt (l.up AList refl AsHeld texts tt (of_all Any Q AsHeld 0 texts x), (l.up AList refl AsHeld parts tt (of_all Any Q AsHeld 0 parts y), tt))

  joined_pieces : (before : List Piece) (p : Piece) (after : List Piece) → All Q AsHeld (append (pieces before) (piece p ▸ pieces after))
  joined_pieces before p after = both_all Any Q AsHeld (pieces before) (piece p ▸ pieces after) (all_pieces before) (a_piece p, all_pieces after)

  inlined : (n w : Tree) → Row18 n w → Q AsValue n → Q AsValue w
  inlined n w r y =
      let parts = held (append (pieces r.before) (piece r.first ▸ (piece r.second ▸ pieces r.after))) (append r.earlier (r.part ▸ r.later)) (subst (Q AsValue) r.shape y) in
      let p = pair (pair r.first (spelled r.text)) r.second in
      subst (Q AsValue) (sym r.written) (a_template (append (pieces r.before) (piece p ▸ pieces r.after)) (append r.earlier r.later) (joined_pieces r.before p r.after)
      (both_all Any Q AsHeld r.earlier r.later (first_all Any Q AsHeld r.earlier (r.part ▸ r.later) parts) (second_all Any Q AsHeld r.earlier (r.part ▸ r.later) parts).1))

  summed : (n w : Tree) → Row5 n w → Q AsValue n → Q AsValue w
  summed n w (inl r) y =
      let (a, b) = binary_parts Q l Addition (template (append (pieces r.before) (piece r.last ▸ none)) r.earlier) (template (piece r.first ▸ pieces r.after) r.later) (subst (Q AsValue) r.shape y) in
      let p = pair r.last r.first in
      subst (Q AsValue) (sym r.written) (a_template (append (pieces r.before) (piece p ▸ pieces r.after)) (append r.earlier r.later) (joined_pieces r.before p r.after)
      (both_all Any Q AsHeld r.earlier r.later (held (append (pieces r.before) (piece r.last ▸ none)) r.earlier a) (held (piece r.first ▸ pieces r.after) r.later b)))
  summed n w (inr (inl r)) y =
      let (a, b) = binary_parts Q l Addition (template (append (pieces r.before) (piece r.last ▸ none)) r.earlier) r.tail (subst (Q AsValue) r.shape y) in
      let p = pair r.last (spelled r.text) in
      subst (Q AsValue) (sym r.written) (a_template (append (pieces r.before) (piece p ▸ none)) r.earlier (joined_pieces r.before p []) (held (append (pieces r.before) (piece r.last ▸ none)) r.earlier a))
  summed n w (inr (inr r)) y =
      let (a, b) = binary_parts Q l Addition r.head (template (piece r.first ▸ pieces r.after) r.later) (subst (Q AsValue) r.shape y) in
      let p = pair (spelled r.text) r.first in
      subst (Q AsValue) (sym r.written) (a_template (piece p ▸ pieces r.after) r.later (a_piece p, all_pieces r.after) (held (piece r.first ▸ pieces r.after) r.later b))

  nested : (n w : Tree) → Row6 n w → Q AsValue n → Q AsValue w
  nested n w r y =
      let (a, b) = binary_parts Q l Addition (binary Addition r.left r.inner) r.tail (subst (Q AsValue) r.shape y) in
      let (c, d) = binary_parts Q l Addition r.left r.inner a in
      subst (Q AsValue) (sym r.written) (a_binary Q l Addition r.left r.joined c (summed (binary Addition r.inner r.tail) r.joined r.sum (a_binary Q l Addition r.inner r.tail d b)))

module _ (q : Seat) (n w : Tree) where
  row_here : TemplateRow (Expr q) n w → LessAt (Expr q) n w
  row_here (inl r) = made_under q n w Template (listed (append (pieces r.before) (piece r.first ▸ (piece r.second ▸ pieces r.after))) ▸ listed (append r.earlier (r.part ▸ r.later)) ▸ none) refl r.shape tt Template (listed (append (pieces r.before) (piece (pair (pair r.first (spelled r.text)) r.second) ▸ pieces r.after)) ▸ listed (append r.earlier r.later) ▸ none) refl r.written (λ strict x k Q l y. inlined Q l n w r y)
  row_here (inr (inl (inl r))) = made_under q n w (Binary Addition) (template (append (pieces r.before) (piece r.last ▸ none)) r.earlier ▸ template (piece r.first ▸ pieces r.after) r.later ▸ none) refl r.shape tt Template (listed (append (pieces r.before) (piece (pair r.last r.first) ▸ pieces r.after)) ▸ listed (append r.earlier r.later) ▸ none) refl r.written (λ strict x k Q l y. summed Q l n w (inl r) y)
  row_here (inr (inl (inr (inl r)))) = made_under q n w (Binary Addition) (template (append (pieces r.before) (piece r.last ▸ none)) r.earlier ▸ r.tail ▸ none) refl r.shape tt Template (listed (append (pieces r.before) (piece (pair r.last (spelled r.text)) ▸ none)) ▸ listed r.earlier ▸ none) refl r.written (λ strict x k Q l y. summed Q l n w (inr (inl r)) y)
  row_here (inr (inl (inr (inr r)))) = made_under q n w (Binary Addition) (r.head ▸ template (piece r.first ▸ pieces r.after) r.later ▸ none) refl r.shape tt Template (listed (piece (pair (spelled r.text) r.first) ▸ pieces r.after) ▸ listed r.later ▸ none) refl r.written (λ strict x k Q l y. summed Q l n w (inr (inr r)) y)
  row_here (inr (inr r)) = made_under q n w (Binary Addition) (binary Addition r.left r.inner ▸ r.tail ▸ none) refl r.shape tt (Binary Addition) (r.left ▸ r.joined ▸ none) refl r.written (λ strict x k Q l y. nested Q l n w r y)

row_less : (p : Position) (n w : Tree) → TemplateRow p n w → LessAt p n w
row_less (Expr q) n w r = row_here q n w r
row_less p n w r = absurd r

pub templates_read_less : TemplatesReadLess
templates_read_less = reads_less_by TemplateContracts (λ p n w c. row_less p n w c.row)

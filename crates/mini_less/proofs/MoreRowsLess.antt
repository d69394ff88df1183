-- Further rows that ask less.
use Rattle.std.specs.Prelude.{◌≡◌, refl, true, [], ◌∷◌}
use Rattle.std.proofs.Common.{ap, ◌∙◌, sym, true≢false}
use Rattle.mini_model.specs.declared.operator.LogicalOperator.TheVariants.{And}
use Rattle.mini_model.specs.declared.operator.UnaryOperator.TheVariants.{LogicalNot}
use Rattle.mini_model.specs.declared.place.Position.{Position}
use Rattle.mini_model.specs.Paths.{append}
use Rattle.mini_model.specs.Tree.{Tree, Trees, none, ◌▸◌, absent, expression_statement, if_else, listed}
use Rattle.mini_kept.specs.Placed.{is_statement_list}
use Rattle.mini_rows.specs.Lists.{of_parts, with_head, return_statement, throw_statement, Row67, Row77, Row78, bare_return, says, InList, AtEnd, Saying, AsStatement, AsReturn, AsThrow}
use Rattle.mini_rows.specs.Lists as row
use Rattle.mini_rows.specs.Sketches.{AbsentPart, Unary, Conditional, Logical, Throw, Return, If, OfExpression, Sketch, part, under, list, end, ◌▹◌, Items, no_items, item, Parts, filled, Free, still}
use Rattle.mini_less.specs.Neighbours.{are_headed}
use Rattle.mini_less.specs.Rebuilt.{rebuilds_list, calls_no_more}
use Rattle.mini_less.specs.Families.{LessAt, NeighboursLess, is_short_head, Row67Short, MoreRowsLess}
use Rattle.mini_less.proofs.LessRows.{expression_less, statement_less, list_less}
use Rattle.mini_less.proofs.ListRowsLess.{append_none, sketch_of, pair, does, first_is, second_is, pair_is}

-- 67
data Heading : Type 0 where
  Returns : Heading
  Throws : Heading
  Tests : Heading

abbrev headed : Heading → Sketch → Sketch
headed Returns x = under Return (x ▹ end)
headed Throws x = under Throw (x ▹ end)
headed Tests x = under If (x ▹ part 2 ▹ part 3 ▹ end)

abbrev with_heading : Heading → Tree → Tree → Tree → Tree
with_heading Returns u v e = return_statement e
with_heading Throws u v e = throw_statement e
with_heading Tests u v e = if_else e u v

abbrev with_branches : Tree → Trees → Tree → Trees → Tree → Tree → Parts
with_branches p ps q qs u v = record { trees = p ▸ (q ▸ (u ▸ (v ▸ none))); lists = ps ∷ qs ∷ [] }

abbrev apart : Heading → Trees → Trees → Items
apart h ps qs = item (does (sketch_of ps 0 0)) (item (headed h (sketch_of qs 1 1)) no_items)

abbrev joined : Heading → Trees → Trees → Items
joined h ps qs = item (headed h (pair ps qs)) no_items

joins : (h : Heading) (ps qs : Trees) → (rebuilds_list still (apart h ps qs) (joined h ps qs) ≡ true) × (calls_no_more (list (apart h ps qs)) (list (joined h ps qs)) ≡ true)
joins Returns none none = (refl, refl)
joins Returns none (d ▸ qs) = (refl, refl)
joins Returns (c ▸ ps) none = (refl, refl)
joins Returns (c ▸ ps) (d ▸ qs) = (refl, refl)
joins Throws none none = (refl, refl)
joins Throws none (d ▸ qs) = (refl, refl)
joins Throws (c ▸ ps) none = (refl, refl)
joins Throws (c ▸ ps) (d ▸ qs) = (refl, refl)
joins Tests none none = (refl, refl)
joins Tests none (d ▸ qs) = (refl, refl)
joins Tests (c ▸ ps) none = (refl, refl)
joins Tests (c ▸ ps) (d ▸ qs) = (refl, refl)

branched : (p : Tree) (ps : Trees) (q : Tree) (qs : Trees) (u v : Tree) (h : Heading) (s : Sketch) → filled (with_branches p ps q qs u v) (headed h s) ≡ with_heading h u v (filled (with_branches p ps q qs u v) s)
branched p ps q qs u v Returns s = refl
branched p ps q qs u v Throws s = refl
branched p ps q qs u v Tests s = refl

first_of : (p : Tree) (ps : Trees) (q : Tree) (qs : Trees) (u v : Tree) → of_parts p ps ≡ filled (with_branches p ps q qs u v) (sketch_of ps 0 0)
first_of p none q qs u v = refl
first_of p (c ▸ ps) q qs u v = first_is p (c ▸ ps) q qs

second_of : (p : Tree) (ps : Trees) (q : Tree) (qs : Trees) (u v : Tree) → of_parts q qs ≡ filled (with_branches p ps q qs u v) (sketch_of qs 1 1)
second_of p ps q none u v = refl
second_of p ps q (c ▸ qs) u v = second_is p ps q (c ▸ qs)

pair_of : (p : Tree) (ps : Trees) (q : Tree) (qs : Trees) (u v : Tree) → of_parts p (append ps (q ▸ qs)) ≡ filled (with_branches p ps q qs u v) (pair ps qs)
pair_of p none q none u v = pair_is p none q none
pair_of p none q (d ▸ qs) u v = pair_is p none q (d ▸ qs)
pair_of p (c ▸ ps) q none u v = pair_is p (c ▸ ps) q none
pair_of p (c ▸ ps) q (d ▸ qs) u v = pair_is p (c ▸ ps) q (d ▸ qs)

joined_less : (l : Position) → is_statement_list l ≡ true → (before after a d : Trees) (n w : Tree) → n ≡ listed (append before (append a after)) → w ≡ listed (append before (append d after)) → (h : Heading) (p : Tree) (ps : Trees) (q : Tree) (qs : Trees) (u v : Tree) → a ≡ expression_statement (of_parts p ps) ▸ (with_heading h u v (of_parts q qs) ▸ none) → d ≡ with_heading h u v (of_parts p (append ps (q ▸ qs))) ▸ none → LessAt l n w
joined_less l k before after a d n w s t h p ps q qs u v e f =
    let P : Parts = with_branches p ps q qs u v in
    let (x, y) = joins h ps qs in
    list_less still P (tt, tt) (apart h ps qs) (joined h ps qs) x (heads h qs) y l k before after a d
    (e ∙ λ j. expression_statement (first_of p ps q qs u v j) ▸ ((ap (with_heading h u v) (second_of p ps q qs u v) ∙ sym (branched p ps q qs u v h (sketch_of qs 1 1))) j ▸ none))
    (f ∙ λ j. (ap (with_heading h u v) (pair_of p ps q qs u v) ∙ sym (branched p ps q qs u v h (pair ps qs))) j ▸ none) n w s t
  where
    heads : (h : Heading) (qs : Trees) → are_headed (apart h ps qs) ≡ true
    heads Returns qs = refl
    heads Throws qs = refl
    heads Tests qs = refl

row_67 : NeighboursLess Row67Short
row_67 l k n w r = by r.row.row.head r.row.short r.row.row.shape r.row.row.written
  where
    by : (h : row.Head) → is_short_head h ≡ true → r.read ≡ expression_statement (of_parts r.row.row.p r.row.row.ps) ▸ (with_head h (of_parts r.row.row.q r.row.row.qs) ▸ none) → r.put ≡ with_head h (of_parts r.row.row.p (append r.row.row.ps (r.row.row.q ▸ r.row.row.qs))) ▸ none → LessAt l n w
    by row.Return g e f = joined_less l k r.before r.after r.read r.put n w r.shape r.written Returns r.row.row.p r.row.row.ps r.row.row.q r.row.row.qs absent absent e f
    by row.Throw g e f = joined_less l k r.before r.after r.read r.put n w r.shape r.written Throws r.row.row.p r.row.row.ps r.row.row.q r.row.row.qs absent absent e f
    by (row.If u v) g e f = joined_less l k r.before r.after r.read r.put n w r.shape r.written Tests r.row.row.p r.row.row.ps r.row.row.q r.row.row.qs u v e f
    by h g e f = absurd (true≢false (sym g))

-- 77
pub appended : (before : Trees) (t : Tree) (us : Trees) → append (append before (t ▸ none)) us ≡ append before (t ▸ us)
appended none t us = refl
appended (b ▸ before) t us = ap (λ ts. b ▸ ts) (appended before t us)

abbrev first_dropped : Free
first_dropped = record { moved = []; lists_moved = []; dropped = 0 ∷ [] }

row_77 : NeighboursLess Row77
row_77 l k n w r =
    by r.row.saying
    (r.shape ∙ ap (λ ts. listed (append r.before (append ts r.after))) r.row.shape ∙ ap listed (sym (appended r.before r.row.first (says r.row.saying r.row.e ▸ r.after))))
    (r.written ∙ ap (λ ts. listed (append r.before (append ts r.after))) r.row.written ∙ ap listed (sym (appended r.before r.row.first r.after)))
  where
    by : (y : Saying) → n ≡ listed (append (append r.before (r.row.first ▸ none)) (says y r.row.e ▸ r.after)) → w ≡ listed (append (append r.before (r.row.first ▸ none)) r.after) → LessAt l n w
    by AsStatement e f = list_less first_dropped (record { trees = r.row.e ▸ none; lists = [] }) (tt, tt) (item (does (part 0)) no_items) no_items refl refl refl l k (append r.before (r.row.first ▸ none)) r.after (expression_statement r.row.e ▸ none) none refl refl n w e f
    by AsReturn e f = list_less first_dropped (record { trees = r.row.e ▸ none; lists = [] }) (tt, tt) (item (under Return (part 0 ▹ end)) no_items) no_items refl refl refl l k (append r.before (r.row.first ▸ none)) r.after (return_statement r.row.e ▸ none) none refl refl n w e f
    by AsThrow e f = list_less first_dropped (record { trees = r.row.e ▸ none; lists = [] }) (tt, tt) (item (under Throw (part 0 ▹ end)) no_items) no_items refl refl refl l k (append r.before (r.row.first ▸ none)) r.after (throw_statement r.row.e ▸ none) none refl refl n w e f

-- 78, of a body
row_78 : (l : Position) → is_statement_list l ≡ true → (n w : Tree) → AtEnd (Row78 bare_return) n w → LessAt l n w
row_78 l k n w r =
    list_less still (record { trees = none; lists = [] }) (tt, tt) (item (under Return (under AbsentPart end ▹ end)) no_items) no_items refl refl refl l k r.before none r.read r.put r.row.shape r.row.written n w
    (r.shape ∙ ap (λ ts. listed (append r.before ts)) (sym (append_none r.read))) (r.written ∙ ap (λ ts. listed (append r.before ts)) (sym (append_none r.put)))

-- 40 and 82
pub more_rows_less : MoreRowsLess
more_rows_less = record {
  row_67 = row_67;
  row_77 = row_77;
  row_78 = row_78;
  row_40 = λ q n w r. expression_less still (record { trees = r.a ▸ r.b ▸ r.c ▸ none; lists = [] }) (tt, tt) Conditional (under (Unary LogicalNot) (part 0 ▹ end) ▹ part 1 ▹ part 2 ▹ end) Conditional (part 0 ▹ part 2 ▹ part 1 ▹ end) refl refl q n w r.shape r.written;
  row_82_else = λ q n w r. statement_less still (record { trees = r.a ▸ r.b ▸ r.c ▸ none; lists = [] }) (tt, tt) If (part 0 ▹ does (part 1) ▹ does (part 2) ▹ end) OfExpression (under Conditional (part 0 ▹ part 1 ▹ part 2 ▹ end) ▹ end) refl refl q n w r.shape r.written;
  row_82_and = λ q n w r. statement_less still (record { trees = r.a ▸ r.b ▸ none; lists = [] }) (tt, tt) If (part 0 ▹ does (part 1) ▹ under AbsentPart end ▹ end) OfExpression (under (Logical And) (part 0 ▹ part 1 ▹ end) ▹ end) refl refl q n w r.shape r.written;
}

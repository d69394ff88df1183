-- Rows on neighbours in a list ask less.
use Rattle.std.specs.Prelude.{ℕ, ◌≡◌, ◌⊎◌, refl, true, false, [], ◌∷◌, pos, if◌then◌else◌}
use Rattle.std.proofs.Common.{ap, ◌∙◌, sym, inl, inr}
use Rattle.mini_model.specs.declared.operator.UnaryOperator.TheVariants.{Void}
use Rattle.mini_model.specs.declared.place.Position.{Position}
use Rattle.mini_model.specs.Paths.{append}
use Rattle.mini_model.specs.Tree.{Tree, Trees, none, ◌▸◌, absent, is_absent, conditional, expression_statement, if_alone}
use Rattle.mini_kept.specs.Placed.{is_statement_list}
use Rattle.mini_rows.specs.Lists.{of_parts, sequence, return_statement, throw_statement, block, or_void, void_zero, Row66Empty, Row66Joined, Row79, Row73, Row73Bare, Row76, InList}
use Rattle.mini_rows.specs.Sketches.{Head, AbsentPart, Number, Unary, Conditional, Sequence, Throw, Return, If, Block, Empty, OfExpression, Sketch, part, under, list, end, ◌▹◌, Items, no_items, item, items, Parts, filled, items_filled, Free, still}
use Rattle.mini_less.specs.Rebuilt.{rebuilds_list, calls_no_more}
use Rattle.mini_less.specs.Neighbours.{are_headed}
use Rattle.mini_rows.specs.Arranged.{AreLoose}
use Rattle.mini_less.specs.Families.{LessAt, NeighboursLess, ListRowsLess}
use Rattle.mini_less.proofs.LessRows.{list_less}

pub append_none : (ts : Trees) → append ts none ≡ ts
append_none none = refl
append_none (t ▸ ts) = ap (λ us. t ▸ us) (append_none ts)

-- of a row that is written by sketches
by : (R : Trees → Trees → Type 0) (f : Free) (ps : Parts) → AreLoose ps f → (is js : Items) → rebuilds_list f is js ≡ true → are_headed is ≡ true → calls_no_more (list is) (list js) ≡ true → (p : Position) → is_statement_list p ≡ true → (n w : Tree) (r : InList R n w) → r.read ≡ items_filled ps is → r.put ≡ items_filled ps js → LessAt p n w
by R f ps u is js e y k p l n w r a b = list_less f ps u is js e y k p l r.before r.after r.read r.put a b n w r.shape r.written

-- 66
pub row_66_empty_less : NeighboursLess Row66Empty
row_66_empty_less p l n w r = by Row66Empty still (record { trees = none; lists = [] }) (tt, tt) (item (under Empty end) no_items) no_items refl refl refl p l n w r r.row.shape r.row.written

abbrev pub sketch_of : Trees → ℕ → ℕ → Sketch
sketch_of none i j = part i
sketch_of (q ▸ qs) i j = under Sequence (list (item (part i) (items j no_items)) ▹ end)

abbrev pub others : Trees → ℕ → Items → Items
others none j r = r
others (q ▸ qs) j r = items j r

abbrev pub pair : Trees → Trees → Sketch
pair ps qs = under Sequence (list (item (part 0) (others ps 0 (item (part 1) (others qs 1 no_items)))) ▹ end)

abbrev pub does : Sketch → Sketch
does s = under OfExpression (s ▹ end)

abbrev pub parts_in : Tree → Trees → Tree → Trees → Parts
parts_in p ps q qs = record { trees = p ▸ (q ▸ none); lists = ps ∷ qs ∷ [] }

pub first_is : (p : Tree) (ps : Trees) (q : Tree) (qs : Trees) → of_parts p ps ≡ filled (parts_in p ps q qs) (sketch_of ps 0 0)
first_is p none q qs = refl
first_is p (c ▸ ps) q qs = ap (λ x. sequence (p ▸ x)) (sym (append_none (c ▸ ps)))

pub second_is : (p : Tree) (ps : Trees) (q : Tree) (qs : Trees) → of_parts q qs ≡ filled (parts_in p ps q qs) (sketch_of qs 1 1)
second_is p ps q none = refl
second_is p ps q (c ▸ qs) = ap (λ x. sequence (q ▸ x)) (sym (append_none (c ▸ qs)))

pub pair_is : (p : Tree) (ps : Trees) (q : Tree) (qs : Trees) → of_parts p (append ps (q ▸ qs)) ≡ filled (parts_in p ps q qs) (pair ps qs)
pair_is p none q none = refl
pair_is p none q (d ▸ qs) = ap (λ x. sequence (p ▸ (q ▸ x))) (sym (append_none (d ▸ qs)))
pair_is p (c ▸ ps) q none = refl
pair_is p (c ▸ ps) q (d ▸ qs) = ap (λ x. sequence (p ▸ (c ▸ append ps (q ▸ x)))) (sym (append_none (d ▸ qs)))

abbrev apart : Trees → Trees → Items
apart ps qs = item (does (sketch_of ps 0 0)) (item (does (sketch_of qs 1 1)) no_items)

abbrev joined : Trees → Trees → Items
joined ps qs = item (does (pair ps qs)) no_items

joins : (ps qs : Trees) → rebuilds_list still (apart ps qs) (joined ps qs) ≡ true
joins none none = refl
joins none (d ▸ qs) = refl
joins (c ▸ ps) none = refl
joins (c ▸ ps) (d ▸ qs) = refl

calls : (ps qs : Trees) → calls_no_more (list (apart ps qs)) (list (joined ps qs)) ≡ true
calls none none = refl
calls none (d ▸ qs) = refl
calls (c ▸ ps) none = refl
calls (c ▸ ps) (d ▸ qs) = refl

pub row_66_joined_less : NeighboursLess Row66Joined
row_66_joined_less p l n w r =
    let x = r.row in
    by Row66Joined still (parts_in x.p x.ps x.q x.qs) (tt, tt) (apart x.ps x.qs) (joined x.ps x.qs) (joins x.ps x.qs) refl (calls x.ps x.qs) p l n w r
    (x.shape ∙ λ j. expression_statement (first_is x.p x.ps x.q x.qs j) ▸ (expression_statement (second_is x.p x.ps x.q x.qs j) ▸ none))
    (x.written ∙ λ j. expression_statement (pair_is x.p x.ps x.q x.qs j) ▸ none)

-- 79
pub row_79_less : NeighboursLess Row79
row_79_less p l n w r =
    by Row79 (record { moved = []; lists_moved = 0 ∷ []; dropped = [] }) (record { trees = none; lists = r.row.statements ∷ [] }) (tt, (r.row.unscoped, tt)) (item (under Block (list (items 0 no_items) ▹ end)) no_items) (items 0 no_items) refl refl refl p l n w r
    (r.row.shape ∙ ap (λ x. block x ▸ none) (sym (append_none r.row.statements))) (r.row.written ∙ sym (append_none r.row.statements))

-- 76
pub row_76_less : NeighboursLess Row76
row_76_less p l n w r =
    by Row76 (record { moved = 2 ∷ []; lists_moved = []; dropped = [] }) (record { trees = r.row.test ▸ r.row.s ▸ r.row.u ▸ none; lists = [] }) ((r.row.unscoped, tt), tt)
    (item (under If (part 0 ▹ part 1 ▹ part 2 ▹ end)) no_items) (item (under If (part 0 ▹ part 1 ▹ under AbsentPart end ▹ end)) (item (part 2) no_items)) refl refl refl p l n w r r.row.shape r.row.written

-- 73
abbrev void : Sketch
void = under (Unary Void) (under (Number (pos 0)) end ▹ end)

abbrev nothing : Sketch
nothing = under AbsentPart end

module _ (h : Head) (jump : Tree → Tree) (same : (ps : Parts) (s : Sketch) → filled ps (under h (s ▹ end)) ≡ jump (filled ps s)) where
  abbrev leave : Sketch → Sketch
  leave s = under h (s ▹ end)

  abbrev guarded : Sketch → Items
  guarded s = item (under If (part 0 ▹ leave s ▹ nothing ▹ end)) (item (leave (part 1)) no_items)

  abbrev chosen : Sketch → Items
  chosen s = item (leave (under Conditional (part 0 ▹ s ▹ part 1 ▹ end))) no_items

  abbrev Rebuilds : Sketch → Sketch → Type 0
  Rebuilds s r = (rebuilds_list still (guarded s) (chosen r) ≡ true) × (are_headed (guarded s) ≡ true) × (calls_no_more (list (guarded s)) (list (chosen r)) ≡ true)

  row_73 : Rebuilds nothing void → Rebuilds (part 2) (part 2) → NeighboursLess (Row73 jump)
  row_73 x y p l n w r = go r.row.whole
    where
      go : (r.row.left ≡ absent) ⊎ (is_absent r.row.left ≡ false) → LessAt p n w
      go (inl k) =
          let ps : Parts = record { trees = r.row.test ▸ r.row.right ▸ none; lists = [] } in
          by (Row73 jump) still ps (tt, tt) (guarded nothing) (chosen void) x.0 x.1 x.2 p l n w r
          (r.row.shape ∙ ap (λ t. if_alone r.row.test (jump t) ▸ (jump r.row.right ▸ none)) k ∙ λ j. if_alone r.row.test (sym (same ps nothing) j) ▸ (sym (same ps (part 1)) j ▸ none))
          (r.row.written ∙ ap (λ t. jump (conditional r.row.test (or_void t) r.row.right) ▸ none) k ∙ λ j. sym (same ps (under Conditional (part 0 ▹ void ▹ part 1 ▹ end))) j ▸ none)
      go (inr k) =
          let ps : Parts = record { trees = r.row.test ▸ r.row.right ▸ r.row.left ▸ none; lists = [] } in
          by (Row73 jump) still ps (tt, tt) (guarded (part 2)) (chosen (part 2)) y.0 y.1 y.2 p l n w r
          (r.row.shape ∙ λ j. if_alone r.row.test (sym (same ps (part 2)) j) ▸ (sym (same ps (part 1)) j ▸ none))
          (r.row.written ∙ ap (λ b. jump (conditional r.row.test (if b then void_zero else r.row.left) r.row.right) ▸ none) k ∙ λ j. sym (same ps (under Conditional (part 0 ▹ part 2 ▹ part 1 ▹ end))) j ▸ none)

pub row_73_return_less : NeighboursLess (Row73 return_statement)
row_73_return_less = row_73 Return return_statement (λ ps s. refl) (refl, refl, refl) (refl, refl, refl)

pub row_73_throw_less : NeighboursLess (Row73 throw_statement)
row_73_throw_less = row_73 Throw throw_statement (λ ps s. refl) (refl, refl, refl) (refl, refl, refl)

pub row_73_bare_less : NeighboursLess Row73Bare
row_73_bare_less p l n w r =
    by Row73Bare still (record { trees = r.row.test ▸ none; lists = [] }) (tt, tt) (item (under If (part 0 ▹ under Return (nothing ▹ end) ▹ nothing ▹ end)) (item (under Return (nothing ▹ end)) no_items)) (item (does (part 0)) (item (under Return (nothing ▹ end)) no_items)) refl refl refl p l n w r r.row.shape r.row.written

pub list_rows_less : ListRowsLess
list_rows_less = record { row_66_empty = row_66_empty_less; row_66_joined = row_66_joined_less; row_73_return = row_73_return_less; row_73_throw = row_73_throw_less; row_73_bare = row_73_bare_less; row_76 = row_76_less; row_79 = row_79_less }

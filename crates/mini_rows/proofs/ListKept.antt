-- What the rows of lists write keeps what a program has to keep.
use Rattle.std.proofs.Common.{◌≡◌, ℕ, true, false, [], ◌∷◌, refl, sym, ap, ◌∙◌, inl, inr, true≢false}
use Rattle.std.specs.Prelude.{◌⊎◌}
use Rattle.mini_model.specs.declared.operator.LogicalOperator.TheVariants.{Or}
use Rattle.mini_model.specs.declared.place.Position.TheVariants.{StatementList}
use Rattle.mini_model.specs.Tree.{Tree, Trees, none, ◌▸◌, listed, absent, expression_statement, if_else, if_alone, logical}
use Rattle.mini_model.specs.Paths.{append}
use Rattle.mini_rows.specs.Arranged.{KeptAt, NeighboursRow}
use Rattle.mini_rows.specs.Lists.{of_parts, sequence, return_statement, throw_statement, with_head, Row74, InList, Saying, says, Row77}
use Rattle.mini_rows.specs.Lists as row
use Rattle.mini_rows.specs.Sketches.{Sketch, Items, Parts, AbsentPart, Logical, Sequence, OfExpression, Throw, Return, If, part, under, list, end, ◌▹◌, no_items, item, items, filled, still, rearranges_list, Free}
use Rattle.mini_rows.specs.ListLaws.{PlainHead, opens_scope, PlainRow, PlainListsKept}
use Rattle.mini_rows.proofs.ArrangedStatements.{lists_arranged}
use Rattle.mini_rows.proofs.ArrangedTwice.{lists_arranged_once}
use Rattle.mini_rows.proofs.ArrangedBetween.{ended, between, in_list_kept}
use Rattle.mini_rows.proofs.FoldLawful.{vanishes}

append_none : (ts : Trees) → append ts none ≡ ts
append_none none = refl
append_none (t ▸ ts) = ap (λ us. t ▸ us) (append_none ts)

-- a stretch with what is before and after it
module _ (before after a b : Trees) (n w : Tree) (s : n ≡ listed (append before (append a after))) (v : w ≡ listed (append before (append b after))) where
  read_as : (f : Trees) → a ≡ f → n ≡ listed (append before (append f (append after none)))
  read_as f e = s ∙ ap (λ x. listed (append before (append x after))) e ∙ ap (λ x. listed (append before (append f x))) (sym (append_none after))

  put_as : (f : Trees) → b ≡ f → w ≡ listed (append before (append f (append after none)))
  put_as f e = v ∙ ap (λ x. listed (append before (append x after))) e ∙ ap (λ x. listed (append before (append f x))) (sym (append_none after))

-- ---- expressions that are joined

abbrev sketch_of : Trees → ℕ → ℕ → Sketch
sketch_of none i j = part i
sketch_of (q ▸ qs) i j = under Sequence (list (item (part i) (items j no_items)) ▹ end)

abbrev others : Trees → ℕ → Items → Items
others none j r = r
others (q ▸ qs) j r = items j r

abbrev pair : Trees → Trees → Sketch
pair ps qs = under Sequence (list (item (part 0) (others ps 2 (item (part 1) (others qs 3 no_items)))) ▹ end)

-- the head that the second stands in
data Heading : Type 0 where
  AsStatement : Heading
  AsReturn : Heading
  AsThrow : Heading
  AsIf : Heading

abbrev headed : Heading → Sketch → Sketch
headed AsStatement x = under OfExpression (x ▹ end)
headed AsReturn x = under Return (x ▹ end)
headed AsThrow x = under Throw (x ▹ end)
headed AsIf x = under If (x ▹ part 2 ▹ part 3 ▹ end)

abbrev with_heading : Heading → Tree → Tree → Tree → Tree
with_heading AsStatement u v e = expression_statement e
with_heading AsReturn u v e = return_statement e
with_heading AsThrow u v e = throw_statement e
with_heading AsIf u v e = if_else e u v

abbrev parts_in : Trees → Trees → Tree → Trees → Tree → Trees → Tree → Tree → Parts
parts_in before after p ps q qs u v = record { trees = p ▸ (q ▸ (u ▸ (v ▸ none))); lists = before ∷ after ∷ ps ∷ qs ∷ [] }

first_is : (before after : Trees) (p : Tree) (ps : Trees) (q : Tree) (qs : Trees) (u v : Tree) → of_parts p ps ≡ filled (parts_in before after p ps q qs u v) (sketch_of ps 0 2)
first_is before after p none q qs u v = refl
first_is before after p (c ▸ ps) q qs u v = ap (λ x. sequence (p ▸ x)) (sym (append_none (c ▸ ps)))

second_is : (before after : Trees) (p : Tree) (ps : Trees) (q : Tree) (qs : Trees) (u v : Tree) → of_parts q qs ≡ filled (parts_in before after p ps q qs u v) (sketch_of qs 1 3)
second_is before after p ps q none u v = refl
second_is before after p ps q (c ▸ qs) u v = ap (λ x. sequence (q ▸ x)) (sym (append_none (c ▸ qs)))

pair_is : (before after : Trees) (p : Tree) (ps : Trees) (q : Tree) (qs : Trees) (u v : Tree) → of_parts p (append ps (q ▸ qs)) ≡ filled (parts_in before after p ps q qs u v) (pair ps qs)
pair_is before after p none q none u v = refl
pair_is before after p none q (d ▸ qs) u v = ap (λ x. sequence (p ▸ (q ▸ x))) (sym (append_none (d ▸ qs)))
pair_is before after p (c ▸ ps) q none u v = refl
pair_is before after p (c ▸ ps) q (d ▸ qs) u v = ap (λ x. sequence (p ▸ (c ▸ append ps (q ▸ x)))) (sym (append_none (d ▸ qs)))

joined_rearranges : (h : Heading) (ps qs : Trees) → rearranges_list still (items 0 (item (under OfExpression (sketch_of ps 0 2 ▹ end)) (item (headed h (sketch_of qs 1 3)) (items 1 no_items)))) (items 0 (item (headed h (pair ps qs)) (items 1 no_items))) ≡ true
joined_rearranges AsStatement none none = refl
joined_rearranges AsStatement none (d ▸ qs) = refl
joined_rearranges AsStatement (c ▸ ps) none = refl
joined_rearranges AsStatement (c ▸ ps) (d ▸ qs) = refl
joined_rearranges AsReturn none none = refl
joined_rearranges AsReturn none (d ▸ qs) = refl
joined_rearranges AsReturn (c ▸ ps) none = refl
joined_rearranges AsReturn (c ▸ ps) (d ▸ qs) = refl
joined_rearranges AsThrow none none = refl
joined_rearranges AsThrow none (d ▸ qs) = refl
joined_rearranges AsThrow (c ▸ ps) none = refl
joined_rearranges AsThrow (c ▸ ps) (d ▸ qs) = refl
joined_rearranges AsIf none none = refl
joined_rearranges AsIf none (d ▸ qs) = refl
joined_rearranges AsIf (c ▸ ps) none = refl
joined_rearranges AsIf (c ▸ ps) (d ▸ qs) = refl

headed_is : (before after : Trees) (p : Tree) (ps : Trees) (q : Tree) (qs : Trees) (u v : Tree) (h : Heading) (s : Sketch) → filled (parts_in before after p ps q qs u v) (headed h s) ≡ with_heading h u v (filled (parts_in before after p ps q qs u v) s)
headed_is before after p ps q qs u v AsStatement s = refl
headed_is before after p ps q qs u v AsReturn s = refl
headed_is before after p ps q qs u v AsThrow s = refl
headed_is before after p ps q qs u v AsIf s = refl

joined_kept : (before after a b : Trees) (n w : Tree) → n ≡ listed (append before (append a after)) → w ≡ listed (append before (append b after)) → (h : Heading) (p : Tree) (ps : Trees) (q : Tree) (qs : Trees) (u v : Tree) → a ≡ expression_statement (of_parts p ps) ▸ (with_heading h u v (of_parts q qs) ▸ none) → b ≡ with_heading h u v (of_parts p (append ps (q ▸ qs))) ▸ none → KeptAt StatementList n w
joined_kept before after a b n w s t h p ps q qs u v e f =
    let P : Parts = parts_in before after p ps q qs u v in
    lists_arranged still P (tt, tt, tt)
    (items 0 (item (under OfExpression (sketch_of ps 0 2 ▹ end)) (item (headed h (sketch_of qs 1 3)) (items 1 no_items))))
    (items 0 (item (headed h (pair ps qs)) (items 1 no_items)))
    (joined_rearranges h ps qs) n w
    (read_as before after a b n w s t (expression_statement (filled P (sketch_of ps 0 2)) ▸ (filled P (headed h (sketch_of qs 1 3)) ▸ none))
    (e ∙ ap (λ x. expression_statement x ▸ (with_heading h u v (of_parts q qs) ▸ none)) (first_is before after p ps q qs u v)
    ∙ ap (λ x. expression_statement (filled P (sketch_of ps 0 2)) ▸ (x ▸ none)) (ap (with_heading h u v) (second_is before after p ps q qs u v) ∙ sym (headed_is before after p ps q qs u v h (sketch_of qs 1 3)))))
    (put_as before after a b n w s t (filled P (headed h (pair ps qs)) ▸ none)
    (f ∙ ap (λ x. x ▸ none) (ap (with_heading h u v) (pair_is before after p ps q qs u v) ∙ sym (headed_is before after p ps q qs u v h (pair ps qs)))))

heads_kept : (before after a b : Trees) (n w : Tree) → n ≡ listed (append before (append a after)) → w ≡ listed (append before (append b after)) → (h : row.Head) (p : Tree) (ps : Trees) (q : Tree) (qs : Trees) → opens_scope h ≡ false → a ≡ expression_statement (of_parts p ps) ▸ (with_head h (of_parts q qs) ▸ none) → b ≡ with_head h (of_parts p (append ps (q ▸ qs))) ▸ none → KeptAt StatementList n w
heads_kept before after a b n w s t row.Return p ps q qs g e f = joined_kept before after a b n w s t AsReturn p ps q qs absent absent e f
heads_kept before after a b n w s t row.Throw p ps q qs g e f = joined_kept before after a b n w s t AsThrow p ps q qs absent absent e f
heads_kept before after a b n w s t (row.If u v) p ps q qs g e f = joined_kept before after a b n w s t AsIf p ps q qs u v e f
heads_kept before after a b n w s t h p ps q qs g e f = absurd (true≢false g)

row_kept : (n w : Tree) (r : InList PlainRow n w) → NeighboursRow r.read r.put ⊎ PlainHead r.read r.put → KeptAt StatementList n w
row_kept n w r (inl x) = in_list_kept n w (record { before = r.before; read = r.read; put = r.put; after = r.after; row = x; shape = r.shape; written = r.written })
row_kept n w r (inr x) = heads_kept r.before r.after r.read r.put n w r.shape r.written x.row.head x.row.p x.row.ps x.row.q x.row.qs x.plain x.row.shape x.row.written

pub plain_lists_kept : PlainListsKept
plain_lists_kept n w r = row_kept n w r r.row

-- ---- an `if` and the next one, that has its branch, which is written once

abbrev guards : Items
guards = items 0 (item (under If (part 0 ▹ part 1 ▹ under AbsentPart end ▹ end)) (item (under If (part 2 ▹ part 1 ▹ part 3 ▹ end)) (items 1 no_items)))

abbrev guard : Items
guard = items 0 (item (under If (under (Logical Or) (part 0 ▹ part 2 ▹ end) ▹ part 1 ▹ part 3 ▹ end)) (items 1 no_items))

pub guards_kept : (n w : Tree) → InList Row74 n w → KeptAt StatementList n w
guards_kept n w r =
    let m = r.row in
    lists_arranged_once still (record { trees = m.left ▸ (m.s ▸ (m.right ▸ (m.u ▸ none))); lists = r.before ∷ r.after ∷ [] }) (tt, tt, tt) guards guard refl n w
    (read_as r.before r.after r.read r.put n w r.shape r.written (if_alone m.left m.s ▸ (if_else m.right m.s m.u ▸ none)) m.shape)
    (put_as r.before r.after r.read r.put n w r.shape r.written (if_else (logical Or m.left m.right) m.s m.u ▸ none) m.written)

-- ---- what never runs

abbrev first_gone : Free
first_gone = record { moved = []; lists_moved = []; dropped = 1 ∷ [] }

abbrev of_says : Sketch → Items
of_says s = item (part 0) (item s no_items)

module _ (before after read put : Trees) (r : Row77 read put) where
  abbrev Kept : Type 0
  Kept = KeptAt StatementList (listed (append before (append read after))) (listed (append before (append put after)))

  gone : (s : Sketch) → rearranges_list first_gone (items 0 (ended (of_says s) 1)) (items 0 (ended (item (part 0) no_items) 1)) ≡ true → read ≡ r.first ▸ (filled (record { trees = r.first ▸ (r.e ▸ none); lists = before ∷ after ∷ [] }) s ▸ none) → Kept
  gone s e f = between first_gone (r.first ▸ (r.e ▸ none)) before after [] (tt, tt, (vanishes r.e r.dropped, tt)) (of_says s) (item (part 0) no_items) e read put f r.written

  says_kept : (k : Saying) → r.saying ≡ k → Kept
  says_kept row.AsStatement h = gone (under OfExpression (part 1 ▹ end)) refl (r.shape ∙ ap (λ j. r.first ▸ (says j r.e ▸ none)) h)
  says_kept row.AsReturn h = gone (under Return (part 1 ▹ end)) refl (r.shape ∙ ap (λ j. r.first ▸ (says j r.e ▸ none)) h)
  says_kept row.AsThrow h = gone (under Throw (part 1 ▹ end)) refl (r.shape ∙ ap (λ j. r.first ▸ (says j r.e ▸ none)) h)

  pub row_77_kept : Kept
  row_77_kept = says_kept r.saying refl

-- What a row on sequences writes keeps all that a program has to keep: it is built anew of the same parts.
use Rattle.std.proofs.Common.{◌≡◌, ◌≤◌, Bool, true, false, List, [], ◌∷◌, refl, sym, ap, subst, ◌∙◌, inl, inr, true≢false, arith}
use Rattle.std.specs.Prelude.{◌&&◌, not, nat_le}
use Rattle.std.proofs.lemmas.Bool.{and_parts, leb-true}
use Rattle.mini_model.specs.declared.place.Position.{Position}
use Rattle.mini_model.specs.declared.place.Position.TheVariants.{Expr}
use Rattle.mini_model.specs.declared.seat.Seat.{Seat}
use Rattle.mini_model.specs.Tree.{Tree, Trees, none, ◌▸◌, count, unary}
use Rattle.mini_model.specs.Paths.{append}
use Rattle.mini_accept.specs.WellShaped.{an_expression, Slot, one_or_absent, each, fits, fill, is_not_positive_number}
use Rattle.mini_kept.specs.KeepsNames.{is_rewritten_place}
use Rattle.mini_kept.specs.KeepsShapes.{AskedAlike}
use Rattle.mini_kept.specs.KeepsFrames.{is_body_slot}
use Rattle.mini_kept.specs.Lawful.{Lawful}
use Rattle.mini_kept.proofs.Bools.{left, both}
use Rattle.mini_kept.proofs.Expressions.{expression, TakesExpression, expression_taken, of_negation, of_conditional, two_fit, three_fit}
use Rattle.mini_node.specs.Walks.{append_none}
use Rattle.mini_rows.specs.Arranged.{KeptAt}
use Rattle.mini_rows.specs.Sketches.{Sequence, Parts, part, under, list, end, ◌▹◌, no_items, item, items}
use Rattle.mini_rows.specs.Lists.{sequence}
use Rattle.mini_rows.specs.Sequences.{Conversion, Plus, Minus, Complement, conversion_operator, Operation, Decides, Chooses, Negates, Operates, Converts, Yields, over, along, takes_last, takes_along, stays_alone, Row21, Row21Idle, Row21Alone, SequenceRow, SequenceContracts}
use Rattle.mini_terms.specs.Parts.{is_number}
use Rattle.mini_rows.proofs.ArrangedExpressions.{expressions_arranged, expressions_arranged_freely}
use Rattle.mini_rows.proofs.ArrangedLawful.{kept_is_lawful}
use Rattle.mini_rows.proofs.ConstantLawful.{unary_at, binary_at}
use Rattle.mini_rows.proofs.FoldLawful.{operands, expression_slot, vanishes, first_dropped, no_number}
use Rattle.mini_rows.proofs.ListShapes.{AllFit, sequence_fits, parts_fit, append_fits, both_fit, first_fits}
use Rattle.mini_rows.proofs.SequenceCalls.{left_number}
use Rattle.mini_rows.proofs.SequencePaths.{in_order, path, parts_along, path_rearranged, nested_filled, flat_filled}
use Rattle.mini_rows.proofs.SequenceYields.{yield_at, yielded_fits}
use Rattle.mini_rows.proofs.SequenceEnds.{last_fits}
use Rattle.mini_rows.proofs.SequenceStands.{of_sequence, sequence_asked}
use Rattle.mini_rows.proofs.SequenceMeaning.{sequences_same}

-- ---- the same parts

lifted_kept : (r : Operation) (rs : List Operation) (p : Tree) (ps : Trees) (l : Tree) (q : Seat) (n w : Tree) → n ≡ over r (along rs (sequence (p ▸ append ps (l ▸ none)))) → w ≡ sequence (p ▸ append ps (over r (along rs l) ▸ none)) → KeptAt (Expr q) n w
lifted_kept r rs p ps l q n w e f = expressions_arranged (parts_along (r ∷ rs) p ps l) (path 2 (r ∷ rs) (in_order (part 1))) (in_order (path 2 (r ∷ rs) (part 1))) (path_rearranged r rs) q n w (e ∙ sym (nested_filled (r ∷ rs) p ps l)) (f ∙ sym (flat_filled (r ∷ rs) p ps l))

spread_kept : (q : Seat) (n w : Tree) → Row21 n w → KeptAt (Expr q) n w
spread_kept q n w r =
    let ps : Parts = record { trees = r.first ▸ r.second ▸ none; lists = r.before ∷ r.others ∷ r.after ∷ [] } in
    expressions_arranged ps
    (under Sequence (list (items 0 (item (under Sequence (list (item (part 0) (item (part 1) (items 1 no_items))) ▹ end)) (items 2 no_items))) ▹ end))
    (under Sequence (list (items 0 (item (part 0) (item (part 1) (items 1 (items 2 no_items))))) ▹ end))
    refl q n w
    (r.shape ∙ ap (λ us. sequence (append r.before (sequence (r.first ▸ (r.second ▸ us)) ▸ r.after))) (sym (append_none r.others)) ∙ ap (λ us. sequence (append r.before (sequence (r.first ▸ (r.second ▸ append r.others none)) ▸ us))) (sym (append_none r.after)))
    (r.written ∙ ap (λ us. sequence (append r.before (r.first ▸ (r.second ▸ append r.others us)))) (sym (append_none r.after)))

-- a part goes
idle_kept : (q : Seat) (n w : Tree) → Row21Idle n w → KeptAt (Expr q) n w
idle_kept q n w r =
    let ps : Parts = record { trees = r.idle ▸ r.next ▸ none; lists = r.before ∷ r.after ∷ [] } in
    expressions_arranged_freely first_dropped ps (tt, tt, (vanishes r.idle r.dropped, tt))
    (under Sequence (list (items 0 (item (part 0) (item (part 1) (items 1 no_items)))) ▹ end))
    (under Sequence (list (items 0 (item (part 1) (items 1 no_items))) ▹ end))
    refl q n w
    (r.shape ∙ ap (λ us. sequence (append r.before (r.idle ▸ (r.next ▸ us)))) (sym (append_none r.after)))
    (r.written ∙ ap (λ us. sequence (append r.before (r.next ▸ us))) (sym (append_none r.after)))

alone_kept : (q : Seat) (n w : Tree) → Row21Alone q n w → KeptAt (Expr q) n w
alone_kept q n w r =
    expressions_arranged_freely first_dropped (record { trees = r.idle ▸ r.last ▸ none; lists = [] }) (tt, tt, (vanishes r.idle r.dropped, tt))
    (under Sequence (list (item (part 0) (item (part 1) no_items)) ▹ end)) (part 1) refl q n w r.shape r.written

kept : (p : Position) (n w : Tree) → SequenceRow p n w → KeptAt p n w
kept (Expr q) n w (inl r) = lifted_kept r.operation r.operations r.first r.others r.last q n w r.shape r.written
kept (Expr q) n w (inr (inl r)) = spread_kept q n w r
kept (Expr q) n w (inr (inr (inl r))) = idle_kept q n w r
kept (Expr q) n w (inr (inr (inr r))) = alone_kept q n w r
kept p n w r = absurd r

places : (p : Position) (n w : Tree) → SequenceRow p n w → is_rewritten_place p ≡ true
places (Expr q) n w r = refl
places p n w r = absurd r

-- ---- where they stand

pub two_at_least : (before : Trees) (a b : Tree) (ts : Trees) → 2 ≤ count (append before (a ▸ (b ▸ ts)))
two_at_least none a b ts = omega arith
two_at_least (p ▸ ps) a b ts = let rest = two_at_least ps a b ts in omega (arith, rest)

not_true : (b : Bool) → not b ≡ true → b ≡ false
not_true false e = refl
not_true true e = absurd (true≢false (sym e))

module _ (strict : Bool) where
  abbrev Fits : Tree → Type 0
  Fits t = fits strict expression t ≡ true

  converted_fits : (c : Conversion) (l : Tree) → takes_last (Converts c) l ≡ true → Fits l → Fits (unary (conversion_operator c) l)
  converted_fits Plus l h f = both (fits strict expression l) true f refl
  converted_fits Minus l h f = both (is_not_positive_number l) (fits strict expression l && true) (no_number l (not_true (is_number l) h)) (both (fits strict expression l) true f refl)
  converted_fits Complement l h f = both (fits strict expression l) true f refl

  -- an operand is there
  there : (rs : List Operation) (ts : Trees) → fits strict (one_or_absent an_expression) (along rs (sequence ts)) ≡ fits strict expression (along rs (sequence ts))
  there [] ts = refl
  there (Decides o b ∷ rs) ts = refl
  there (Chooses b c ∷ rs) ts = refl
  there (Negates ∷ rs) ts = refl
  there (Operates o b ∷ rs) ts = refl
  there (Converts c ∷ rs) ts = refl
  there (Yields d ∷ rs) ts = refl

  -- a node over an operand of which something is lifted out
  module _ (s : Slot) (rs : List Operation) (ts : Trees) (p : Tree) (ps : Trees) (l : Tree) (f : Fits (along rs (sequence ts)) → Fits (sequence (p ▸ append ps (l ▸ none)))) where
    over_fits : (r : Operation) → takes_last r l ≡ true → fits strict s (over r (along rs (sequence ts))) ≡ true → TakesExpression s × Fits (sequence (p ▸ append ps (over r l ▸ none)))
    over_fits (Decides o b) h e =
        let (takes, first, second) = operands strict s o (along rs (sequence ts)) b e in
        (takes, last_fits strict p ps l (f first) (over (Decides o b) l) (λ g. two_fit strict l b g second))
    over_fits (Chooses b c) h e =
        let (takes, (first, second, third)) = of_conditional strict s (along rs (sequence ts)) b c e in
        (takes, last_fits strict p ps l (f first) (over (Chooses b c) l) (λ g. three_fit strict l b c g second third))
    over_fits Negates h e =
        let (takes, first) = of_negation strict s (along rs (sequence ts)) e in
        (takes, last_fits strict p ps l (f first) (over Negates l) (λ g. both (fits strict expression l) true g refl))
    over_fits (Converts c) h e =
        let (takes, first) = unary_at strict (conversion_operator c) (along rs (sequence ts)) s e in
        (takes, last_fits strict p ps l (f first) (over (Converts c) l) (λ g. converted_fits c l h g))
    over_fits (Operates o b) h e =
        let (takes, (first, second)) = binary_at strict o (along rs (sequence ts)) b s e in
        (takes, last_fits strict p ps l (f first) (over (Operates o b) l) (λ g. two_fit strict l b g second))
    over_fits (Yields d) h e =
        let (takes, first) = yield_at strict d (along rs (sequence ts)) (there rs ts) s e in
        (takes, last_fits strict p ps l (f first) (over (Yields d) l) (λ g. yielded_fits strict d l g))

  -- what is no number may stand behind a minus
  takes_over : (r o : Operation) (l : Tree) → takes_last r (over o l) ≡ true
  takes_over (Converts Minus) (Decides o b) l = refl
  takes_over (Converts Minus) (Chooses b c) l = refl
  takes_over (Converts Minus) Negates l = refl
  takes_over (Converts Minus) (Operates o b) l = refl
  takes_over (Converts Minus) (Converts c) l = refl
  takes_over (Converts Minus) (Yields d) l = refl
  takes_over r o l = refl

  lifted_fits : (s : Slot) (r : Operation) (rs : List Operation) (p : Tree) (ps : Trees) (l : Tree) → takes_along r rs l ≡ true → fits strict s (over r (along rs (sequence (p ▸ append ps (l ▸ none))))) ≡ true → TakesExpression s × Fits (sequence (p ▸ append ps (over r (along rs l) ▸ none)))
  lifted_fits s r [] p ps l h e = over_fits s [] (p ▸ append ps (l ▸ none)) p ps l (λ g. g) r h e
  lifted_fits s r (o ∷ rs) p ps l h e = over_fits s (o ∷ rs) (p ▸ append ps (l ▸ none)) p ps (over o (along rs l)) (λ g. (lifted_fits expression o rs p ps l h g).1) r (takes_over r o (along rs l)) e

  pub items_fit : (ts : Trees) → Fits (sequence ts) → AllFit strict expression ts
  items_fit ts e = left (fill strict (each expression) ts) true (and_parts (nat_le 2 (count ts)) (fill strict (each expression) ts && true) e).1

  spread_fits : (before : Trees) (a b : Tree) (ps after : Trees) → Fits (sequence (append before (sequence (a ▸ (b ▸ ps)) ▸ after))) → Fits (sequence (append before (a ▸ (b ▸ append ps after))))
  spread_fits before a b ps after e =
      let nested : Tree = sequence (a ▸ (b ▸ ps)) in
      let (firsts, others) = both_fit strict expression before (nested ▸ after) (items_fit (append before (nested ▸ after)) e) in
      let (inner, lasts) = first_fits strict expression nested after others in
      sequence_fits strict (append before (a ▸ (b ▸ append ps after))) (two_at_least before a b (append ps after))
      (append_fits strict expression before (a ▸ (b ▸ append ps after)) firsts (append_fits strict expression (a ▸ (b ▸ ps)) after (parts_fit strict a (b ▸ ps) inner) lasts))

  pub idle_fits : (before : Trees) (a q : Tree) (qs : Trees) → nat_le 2 (count (append before (q ▸ qs))) ≡ true → Fits (sequence (append before (a ▸ (q ▸ qs)))) → Fits (sequence (append before (q ▸ qs)))
  idle_fits before a q qs h e =
      let (firsts, others) = both_fit strict expression before (a ▸ (q ▸ qs)) (items_fit (append before (a ▸ (q ▸ qs))) e) in
      let (idle, lasts) = first_fits strict expression a (q ▸ qs) others in
      sequence_fits strict (append before (q ▸ qs)) (leb-true 2 (count (append before (q ▸ qs))) h) (append_fits strict expression before (q ▸ qs) firsts lasts)

  pub last_of_two : (a q : Tree) → Fits (sequence (a ▸ (q ▸ none))) → Fits q
  last_of_two a q e =
      let (idle, lasts) = first_fits strict expression a (q ▸ none) (items_fit (a ▸ (q ▸ none)) e) in
      (first_fits strict expression q none lasts).0

row_fits : (p : Position) (n w : Tree) → SequenceRow p n w → (strict : Bool) (s : Slot) → fits strict s n ≡ true → fits strict s w ≡ true
row_fits (Expr q) n w (inl r) strict s e =
    let (takes, fit) = lifted_fits strict s r.operation r.operations r.first r.others r.last r.takes (subst (λ t. fits strict s t ≡ true) r.shape e) in
    subst (λ t. fits strict s t ≡ true) (sym r.written) (expression_taken strict s (sequence (r.first ▸ append r.others (over r.operation (along r.operations r.last) ▸ none))) takes fit)
row_fits (Expr q) n w (inr (inl r)) strict s e =
    let (takes, fit) = of_sequence strict s (append r.before (sequence (r.first ▸ (r.second ▸ r.others)) ▸ r.after)) (subst (λ t. fits strict s t ≡ true) r.shape e) in
    subst (λ t. fits strict s t ≡ true) (sym r.written) (expression_taken strict s (sequence (append r.before (r.first ▸ (r.second ▸ append r.others r.after)))) takes (spread_fits strict r.before r.first r.second r.others r.after fit))
row_fits (Expr q) n w (inr (inr (inl r))) strict s e =
    let (takes, fit) = of_sequence strict s (append r.before (r.idle ▸ (r.next ▸ r.after))) (subst (λ t. fits strict s t ≡ true) r.shape e) in
    subst (λ t. fits strict s t ≡ true) (sym r.written) (expression_taken strict s (sequence (append r.before (r.next ▸ r.after))) takes (idle_fits strict r.before r.idle r.next r.after r.several fit))
row_fits (Expr q) n w (inr (inr (inr r))) strict s e =
    let (takes, fit) = of_sequence strict s (r.idle ▸ (r.last ▸ none)) (subst (λ t. fits strict s t ≡ true) r.shape e) in
    subst (λ t. fits strict s t ≡ true) (sym r.written) (expression_taken strict s r.last takes (last_of_two strict r.idle r.last fit))
row_fits p n w r strict s e = absurd r

row_slot : (p : Position) (n w : Tree) → SequenceRow p n w → (strict : Bool) (s : Slot) → fits strict s n ≡ true → is_body_slot p s ≡ true
row_slot (Expr q) n w (inl r) strict s e = expression_slot (Expr q) s (lifted_fits strict s r.operation r.operations r.first r.others r.last r.takes (subst (λ t. fits strict s t ≡ true) r.shape e)).0
row_slot (Expr q) n w (inr (inl r)) strict s e = expression_slot (Expr q) s (of_sequence strict s (append r.before (sequence (r.first ▸ (r.second ▸ r.others)) ▸ r.after)) (subst (λ t. fits strict s t ≡ true) r.shape e)).0
row_slot (Expr q) n w (inr (inr (inl r))) strict s e = expression_slot (Expr q) s (of_sequence strict s (append r.before (r.idle ▸ (r.next ▸ r.after))) (subst (λ t. fits strict s t ≡ true) r.shape e)).0
row_slot (Expr q) n w (inr (inr (inr r))) strict s e = expression_slot (Expr q) s (of_sequence strict s (r.idle ▸ (r.last ▸ none)) (subst (λ t. fits strict s t ≡ true) r.shape e)).0
row_slot p n w r strict s e = absurd r

-- ---- what a parent asks of them

over_asked : (p : Position) (r : Operation) (a : Tree) (ts : Trees) → AskedAlike p (over r a) (sequence ts)
over_asked p (Decides o b) a ts = record {
  absent = λ e. absurd (true≢false (sym e));
  body = λ e. absurd (true≢false (sym e));
  optional = λ e. absurd (true≢false (sym e));
  number = λ asks e. refl;
  spelled = λ s e. absurd (cc e);
  plain = refl;
}
over_asked p (Chooses b c) a ts = record {
  absent = λ e. absurd (true≢false (sym e));
  body = λ e. absurd (true≢false (sym e));
  optional = λ e. absurd (true≢false (sym e));
  number = λ asks e. refl;
  spelled = λ s e. absurd (cc e);
  plain = refl;
}
over_asked p Negates a ts = record {
  absent = λ e. absurd (true≢false (sym e));
  body = λ e. absurd (true≢false (sym e));
  optional = λ e. absurd (true≢false (sym e));
  number = λ asks e. refl;
  spelled = λ s e. absurd (cc e);
  plain = refl;
}
over_asked p (Converts c) a ts = record {
  absent = λ e. absurd (true≢false (sym e));
  body = λ e. absurd (true≢false (sym e));
  optional = λ e. absurd (true≢false (sym e));
  number = λ asks e. refl;
  spelled = λ s e. absurd (cc e);
  plain = refl;
}
over_asked p (Yields d) a ts = record {
  absent = λ e. absurd (true≢false (sym e));
  body = λ e. absurd (true≢false (sym e));
  optional = λ e. absurd (true≢false (sym e));
  number = λ asks e. refl;
  spelled = λ s e. absurd (cc e);
  plain = refl;
}
over_asked p (Operates o b) a ts = record {
  absent = λ e. absurd (true≢false (sym e));
  body = λ e. absurd (true≢false (sym e));
  optional = λ e. absurd (true≢false (sym e));
  number = λ asks e. refl;
  spelled = λ s e. absurd (cc e);
  plain = refl;
}

pub alone_asked : (q : Seat) (ts : Trees) (t : Tree) → stays_alone q t ≡ true → AskedAlike (Expr q) (sequence ts) t
alone_asked q ts t h = record {
  absent = λ e. absurd (true≢false (sym e));
  body = λ e. absurd (true≢false (sym e));
  optional = λ e. absurd (true≢false (sym e));
  number = λ asks e. no_number t (left_number q t h asks);
  spelled = λ s e. absurd (cc e);
  plain = refl;
}

row_asked : (p : Position) (n w : Tree) → SequenceRow p n w → AskedAlike p n w
row_asked (Expr q) n w (inl r) = subst (λ t. AskedAlike (Expr q) t w) (sym r.shape) (subst (AskedAlike (Expr q) (over r.operation (along r.operations (sequence (r.first ▸ append r.others (r.last ▸ none)))))) (sym r.written) (over_asked (Expr q) r.operation (along r.operations (sequence (r.first ▸ append r.others (r.last ▸ none)))) (r.first ▸ append r.others (over r.operation (along r.operations r.last) ▸ none))))
row_asked (Expr q) n w (inr (inl r)) = subst (λ t. AskedAlike (Expr q) t w) (sym r.shape) (subst (AskedAlike (Expr q) (sequence (append r.before (sequence (r.first ▸ (r.second ▸ r.others)) ▸ r.after)))) (sym r.written) (sequence_asked (Expr q) (append r.before (sequence (r.first ▸ (r.second ▸ r.others)) ▸ r.after)) (append r.before (r.first ▸ (r.second ▸ append r.others r.after)))))
row_asked (Expr q) n w (inr (inr (inl r))) = subst (λ t. AskedAlike (Expr q) t w) (sym r.shape) (subst (AskedAlike (Expr q) (sequence (append r.before (r.idle ▸ (r.next ▸ r.after))))) (sym r.written) (sequence_asked (Expr q) (append r.before (r.idle ▸ (r.next ▸ r.after))) (append r.before (r.next ▸ r.after))))
row_asked (Expr q) n w (inr (inr (inr r))) = subst (λ t. AskedAlike (Expr q) t w) (sym r.shape) (subst (AskedAlike (Expr q) (sequence (r.idle ▸ (r.last ▸ none)))) (sym r.written) (alone_asked q (r.idle ▸ (r.last ▸ none)) r.last r.stays))
row_asked p n w r = absurd r

pub sequences_lawful : Lawful SequenceContracts
sequences_lawful =
    kept_is_lawful SequenceContracts sequences_same
    (record { fitting = λ p n w c strict s k e. row_fits p n w c.row strict s e; asked = λ p n w c. row_asked p n w c.row })
    (λ p n w c. places p n w c.row)
    (λ p n w c strict s k e. row_slot p n w c.row strict s e)
    (λ p n w c. kept p n w c.row)

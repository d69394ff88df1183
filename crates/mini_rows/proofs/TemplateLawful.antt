-- What a row on templates writes keeps all that a program has to keep: it is built anew of the same parts.
use Rattle.std.proofs.Common.{◌≡◌, ℕ, suc, Bool, true, false, List, [], ◌∷◌, Some, None, refl, sym, ap, subst, ◌∙◌, inl, inr, ◌⊎◌, true≢false, arith}
use Rattle.std.specs.Prelude.{◌&&◌, nat_eq}
use Rattle.std.proofs.lemmas.Bool.{and_parts, eq-eqb}
use Rattle.mini_model.specs.declared.operator.BinaryOperator.TheVariants.{Addition}
use Rattle.mini_model.specs.declared.place.Position.{Position}
use Rattle.mini_model.specs.declared.place.Position.TheVariants.{Expr}
use Rattle.mini_model.specs.declared.seat.Seat.{Seat}
use Rattle.mini_model.specs.declared.shape.Shape.TheVariants as shape
use Rattle.mini_model.specs.Paths.{append}
use Rattle.mini_model.specs.Tree.{Tree, Trees, node, none, ◌▸◌, count, listed}
use Rattle.mini_accept.specs.WellShaped.{Depth, in_module, in_body, nested, Class, a_statement, an_init, an_arrow_body, an_expression, a_link, an_argument, a_key, a_private_or_key, an_inner_key, an_inner, a_default_export, a_tagged_template, Slot, one, one_or_absent, untagged, tagged, statement_slots, filling_by, each, pieces as pieces_filling, is_same_flag, is_quasi, are_quasis, is_paired, fits, fill}
use Rattle.mini_kept.specs.KeepsNames.{is_rewritten_place}
use Rattle.mini_kept.specs.KeepsShapes.{AskedAlike}
use Rattle.mini_kept.specs.KeepsFrames.{is_body_slot}
use Rattle.mini_kept.specs.Lawful.{Lawful}
use Rattle.mini_kept.proofs.Bools.{left, both}
use Rattle.mini_kept.proofs.Expressions.{refused_here, expression, TakesExpressionIn, TakesExpression, expression_taken, two_fit}
use Rattle.mini_laws.specs.Conversion.{makes, raises, outside, to_text}
use Rattle.mini_laws.specs.Conversion as conversion
use Rattle.mini_node.specs.Children.{part as its_part}
use Rattle.mini_node.specs.Walks.{append_none}
use Rattle.mini_terms.specs.Const.{made}
use Rattle.mini_rows.specs.Arranged.{KeptAt}
use Rattle.mini_rows.specs.Sketches.{Binary, Template, Piece as PieceHead, Parts, Sketch, part, under, list, Items, end, ◌▹◌, no_items, item, items}
use Rattle.mini_rows.specs.Spellings.{binary}
use Rattle.mini_rows.specs.Templates.{Piece, piece, pieces, template, pair, spelled, told, Row18, Row5Both, Row5After, Row5Before, Row5, TemplateRow, TemplateContracts}
use Rattle.mini_rows.proofs.ArrangedExpressions.{expressions_arranged, expressions_arranged_freely}
use Rattle.mini_rows.proofs.ArrangedLawful.{kept_is_lawful}
use Rattle.mini_rows.proofs.ConstantLawful.{Paired, operand_written, text_paired, binary_at}
use Rattle.mini_rows.proofs.FoldLawful.{vanishes, first_dropped, expression_slot}
use Rattle.mini_rows.proofs.ListShapes.{append_fits, both_fit, first_fits}
use Rattle.mini_rows.proofs.TemplateFits.{Made, template_made}
use Rattle.mini_rows.proofs.TemplateMeaning.{nothing, Told, told_is, templates_same}
use Rattle.mini_rows.proofs.TemplatePieces.{Whole, pair_whole, spelled_whole, piece_stands, stands_piece}
use Rattle.mini_rows.proofs.TemplateRuns.{count_append}

-- ---- the same parts

abbrev a_piece : Piece → Sketch
a_piece p = under (PieceHead p.is_tail p.raw p.cooked) end

abbrev a_template : Items → Items → Sketch
a_template texts parts = under Template (list texts ▹ list parts ▹ end)

inlined_kept : (q : Seat) (n w : Tree) → Row18 n w → KeptAt (Expr q) n w
inlined_kept q n w r =
    let joined : Piece = pair (pair r.first (spelled r.text)) r.second in
    let ps : Parts = record { trees = r.part ▸ none; lists = pieces r.before ∷ (pieces r.after ∷ (r.earlier ∷ (r.later ∷ []))) } in
    expressions_arranged_freely first_dropped ps (tt, tt, (vanishes r.part r.dropped, tt))
    (a_template (items 0 (item (a_piece r.first) (item (a_piece r.second) (items 1 no_items)))) (items 2 (item (part 0) (items 3 no_items))))
    (a_template (items 0 (item (a_piece joined) (items 1 no_items))) (items 2 (items 3 no_items)))
    refl q n w
    (r.shape ∙ (λ i. template (append (pieces r.before) (piece r.first ▸ (piece r.second ▸ sym (append_none (pieces r.after)) i))) (append r.earlier (r.part ▸ sym (append_none r.later) i))))
    (r.written ∙ (λ i. template (append (pieces r.before) (piece joined ▸ sym (append_none (pieces r.after)) i)) (append r.earlier (sym (append_none r.later) i))))

both_kept : (q : Seat) (n w : Tree) → Row5Both n w → KeptAt (Expr q) n w
both_kept q n w r =
    let joined : Piece = pair r.last r.first in
    let ps : Parts = record { trees = none; lists = pieces r.before ∷ (pieces r.after ∷ (r.earlier ∷ (r.later ∷ []))) } in
    expressions_arranged ps
    (under (Binary Addition) (a_template (items 0 (item (a_piece r.last) no_items)) (items 2 no_items) ▹ a_template (item (a_piece r.first) (items 1 no_items)) (items 3 no_items) ▹ end))
    (a_template (items 0 (item (a_piece joined) (items 1 no_items))) (items 2 (items 3 no_items)))
    refl q n w
    (r.shape ∙ (λ i. binary Addition (template (append (pieces r.before) (piece r.last ▸ none)) (sym (append_none r.earlier) i)) (template (piece r.first ▸ sym (append_none (pieces r.after)) i) (sym (append_none r.later) i))))
    (r.written ∙ (λ i. template (append (pieces r.before) (piece joined ▸ sym (append_none (pieces r.after)) i)) (append r.earlier (sym (append_none r.later) i))))

after_kept : (q : Seat) (n w : Tree) → Row5After n w → KeptAt (Expr q) n w
after_kept q n w r =
    let joined : Piece = pair r.last (spelled r.text) in
    let ps : Parts = record { trees = r.tail ▸ none; lists = pieces r.before ∷ (r.earlier ∷ []) } in
    expressions_arranged_freely first_dropped ps (tt, tt, (vanishes r.tail r.dropped, tt))
    (under (Binary Addition) (a_template (items 0 (item (a_piece r.last) no_items)) (items 1 no_items) ▹ part 0 ▹ end))
    (a_template (items 0 (item (a_piece joined) no_items)) (items 1 no_items))
    refl q n w
    (r.shape ∙ (λ i. binary Addition (template (append (pieces r.before) (piece r.last ▸ none)) (sym (append_none r.earlier) i)) r.tail))
    (r.written ∙ (λ i. template (append (pieces r.before) (piece joined ▸ none)) (sym (append_none r.earlier) i)))

before_kept : (q : Seat) (n w : Tree) → Row5Before n w → KeptAt (Expr q) n w
before_kept q n w r =
    let joined : Piece = pair (spelled r.text) r.first in
    let ps : Parts = record { trees = r.head ▸ none; lists = pieces r.after ∷ (r.later ∷ []) } in
    expressions_arranged_freely first_dropped ps (tt, tt, (vanishes r.head r.dropped, tt))
    (under (Binary Addition) (part 0 ▹ a_template (item (a_piece r.first) (items 0 no_items)) (items 1 no_items) ▹ end))
    (a_template (item (a_piece joined) (items 0 no_items)) (items 1 no_items))
    refl q n w
    (r.shape ∙ (λ i. binary Addition r.head (template (piece r.first ▸ sym (append_none (pieces r.after)) i) (sym (append_none r.later) i))))
    (r.written ∙ (λ i. template (piece joined ▸ sym (append_none (pieces r.after)) i) (sym (append_none r.later) i)))

sum_kept : (q : Seat) (n w : Tree) → Row5 n w → KeptAt (Expr q) n w
sum_kept q n w (inl r) = both_kept q n w r
sum_kept q n w (inr (inl r)) = after_kept q n w r
sum_kept q n w (inr (inr r)) = before_kept q n w r

-- 6: the same of the operands of another sum
nested_by : (q : Seat) (n w a t u v : Tree) → n ≡ binary Addition (binary Addition a t) u → w ≡ binary Addition a v → Row5 (binary Addition t u) v → KeptAt (Expr q) n w
nested_by q n w a t u v e f (inl r) =
    let joined : Piece = pair r.last r.first in
    let ps : Parts = record { trees = a ▸ none; lists = pieces r.before ∷ (pieces r.after ∷ (r.earlier ∷ (r.later ∷ []))) } in
    expressions_arranged ps
    (under (Binary Addition) (under (Binary Addition) (part 0 ▹ a_template (items 0 (item (a_piece r.last) no_items)) (items 2 no_items) ▹ end) ▹ a_template (item (a_piece r.first) (items 1 no_items)) (items 3 no_items) ▹ end))
    (under (Binary Addition) (part 0 ▹ a_template (items 0 (item (a_piece joined) (items 1 no_items))) (items 2 (items 3 no_items)) ▹ end))
    refl q n w
    (e ∙ ap (λ x. binary Addition (binary Addition a (its_part x 0)) (its_part x 1)) r.shape ∙ (λ i. binary Addition (binary Addition a (template (append (pieces r.before) (piece r.last ▸ none)) (sym (append_none r.earlier) i))) (template (piece r.first ▸ sym (append_none (pieces r.after)) i) (sym (append_none r.later) i))))
    (f ∙ ap (binary Addition a) r.written ∙ (λ i. binary Addition a (template (append (pieces r.before) (piece joined ▸ sym (append_none (pieces r.after)) i)) (append r.earlier (sym (append_none r.later) i)))))
nested_by q n w a t u v e f (inr (inl r)) =
    let joined : Piece = pair r.last (spelled r.text) in
    let ps : Parts = record { trees = r.tail ▸ (a ▸ none); lists = pieces r.before ∷ (r.earlier ∷ []) } in
    expressions_arranged_freely first_dropped ps (tt, tt, (vanishes r.tail r.dropped, tt))
    (under (Binary Addition) (under (Binary Addition) (part 1 ▹ a_template (items 0 (item (a_piece r.last) no_items)) (items 1 no_items) ▹ end) ▹ part 0 ▹ end))
    (under (Binary Addition) (part 1 ▹ a_template (items 0 (item (a_piece joined) no_items)) (items 1 no_items) ▹ end))
    refl q n w
    (e ∙ ap (λ x. binary Addition (binary Addition a (its_part x 0)) (its_part x 1)) r.shape ∙ (λ i. binary Addition (binary Addition a (template (append (pieces r.before) (piece r.last ▸ none)) (sym (append_none r.earlier) i))) r.tail))
    (f ∙ ap (binary Addition a) r.written ∙ (λ i. binary Addition a (template (append (pieces r.before) (piece joined ▸ none)) (sym (append_none r.earlier) i))))
nested_by q n w a t u v e f (inr (inr r)) =
    let joined : Piece = pair (spelled r.text) r.first in
    let ps : Parts = record { trees = r.head ▸ (a ▸ none); lists = pieces r.after ∷ (r.later ∷ []) } in
    expressions_arranged_freely first_dropped ps (tt, tt, (vanishes r.head r.dropped, tt))
    (under (Binary Addition) (under (Binary Addition) (part 1 ▹ part 0 ▹ end) ▹ a_template (item (a_piece r.first) (items 0 no_items)) (items 1 no_items) ▹ end))
    (under (Binary Addition) (part 1 ▹ a_template (item (a_piece joined) (items 0 no_items)) (items 1 no_items) ▹ end))
    refl q n w
    (e ∙ ap (λ x. binary Addition (binary Addition a (its_part x 0)) (its_part x 1)) r.shape ∙ (λ i. binary Addition (binary Addition a r.head) (template (piece r.first ▸ sym (append_none (pieces r.after)) i) (sym (append_none r.later) i))))
    (f ∙ ap (binary Addition a) r.written ∙ (λ i. binary Addition a (template (piece joined ▸ sym (append_none (pieces r.after)) i) (sym (append_none r.later) i))))

kept : (p : Position) (n w : Tree) → TemplateRow p n w → KeptAt p n w
kept (Expr q) n w (inl r) = inlined_kept q n w r
kept (Expr q) n w (inr (inl r)) = sum_kept q n w r
kept (Expr q) n w (inr (inr r)) = nested_by q n w r.left r.inner r.tail r.joined r.shape r.written r.sum
kept p n w r = absurd r

places : (p : Position) (n w : Tree) → TemplateRow p n w → is_rewritten_place p ≡ true
places (Expr q) n w r = refl
places p n w r = absurd r

-- ---- where they stand

template_nowhere : (strict : Bool) (d : Depth) → statement_slots strict d shape.TemplateLiteral ≡ None
template_nowhere true in_module = refl
template_nowhere true in_body = refl
template_nowhere true nested = refl
template_nowhere false in_module = refl
template_nowhere false in_body = refl
template_nowhere false nested = refl

-- by itself, or behind a tag
abbrev Stood : Bool → Class → Trees → Trees → Type 0
Stood strict k ps ts = (TakesExpressionIn k × (fits strict expression (template ps ts) ≡ true)) ⊎ (fill strict (each (one (an_inner an_expression))) ts ≡ true)

inner_parts : (strict : Bool) (ps ts : Trees) → fits strict (one a_tagged_template) (template ps ts) ≡ true → fill strict (each (one (an_inner an_expression))) ts ≡ true
inner_parts strict ps ts e =
    let (whole, rest) = and_parts (nat_eq (count ps) (suc (count ts))) (fill strict (pieces_filling tagged) ps && (fill strict (each (one (an_inner an_expression))) ts && true)) e in
    let (texts, parts) = and_parts (fill strict (pieces_filling tagged) ps) (fill strict (each (one (an_inner an_expression))) ts && true) rest in
    left (fill strict (each (one (an_inner an_expression))) ts) true parts

template_in : (strict : Bool) (k : Class) (ps ts : Trees) → fits strict (one k) (template ps ts) ≡ true → Stood strict k ps ts
template_in strict an_expression ps ts e = inl (tt, e)
template_in strict a_link ps ts e = inl (tt, e)
template_in strict an_argument ps ts e = inl (tt, e)
template_in strict an_init ps ts e = inl (tt, e)
template_in strict (a_key true) ps ts e = inl (tt, e)
template_in strict (a_key false) ps ts e = absurd (refused_here strict (one (a_key false)) shape.TemplateLiteral [] 0 (listed ps ▸ (listed ts ▸ none)) refl e)
template_in strict an_arrow_body ps ts e = inl (tt, e)
template_in strict a_default_export ps ts e = inl (tt, e)
template_in strict a_tagged_template ps ts e = inr (inner_parts strict ps ts e)
template_in strict (a_statement d) ps ts e = absurd (refused_here strict (one (a_statement d)) shape.TemplateLiteral [] 0 (listed ps ▸ (listed ts ▸ none)) (ap filling_by (template_nowhere strict d)) e)
template_in strict (a_private_or_key true) ps ts e = absurd (refused_here strict (one (a_private_or_key true)) shape.TemplateLiteral [] 0 (listed ps ▸ (listed ts ▸ none)) refl e)
template_in strict (an_inner_key true) ps ts e = absurd (refused_here strict (one (an_inner_key true)) shape.TemplateLiteral [] 0 (listed ps ▸ (listed ts ▸ none)) refl e)
template_in strict k ps ts e = absurd (refused_here strict (one k) shape.TemplateLiteral [] 0 (listed ps ▸ (listed ts ▸ none)) refl e)

abbrev StoodIn : Bool → Slot → Trees → Trees → Type 0
StoodIn strict s ps ts = (TakesExpression s × (fits strict expression (template ps ts) ≡ true)) ⊎ (fill strict (each (one (an_inner an_expression))) ts ≡ true)

of_template : (strict : Bool) (s : Slot) (ps ts : Trees) → fits strict s (template ps ts) ≡ true → StoodIn strict s ps ts
of_template strict (one k) ps ts e = template_in strict k ps ts e
of_template strict (one_or_absent k) ps ts e = template_in strict k ps ts e
of_template strict s ps ts e = absurd (refused_here strict s shape.TemplateLiteral [] 0 (listed ps ▸ (listed ts ▸ none)) refl e)

-- what writes a value out is no inner expression
no_inner_told : (strict : Bool) (t : Tree) (m : List ℕ) → told t ≡ Some m → fits strict (one (an_inner an_expression)) t ≡ true → ⊥
no_inner_told strict (node shape.InnerExpression xs n ts) m k e = nothing k
no_inner_told strict (node h xs n ts) m k e = refused_here strict (one (an_inner an_expression)) h xs n ts refl e

module _ (strict : Bool) where
  abbrev Fits : Tree → Type 0
  Fits t = fits strict expression t ≡ true

  quasis_filled : (ps : Trees) → are_quasis untagged ps ≡ true → fill strict (pieces_filling untagged) ps ≡ true
  quasis_filled none e = e
  quasis_filled (p ▸ ps) e = e

  made_template : (ps ts : Trees) → Made strict ps ts → Fits (template ps ts)
  made_template ps ts m =
      both (nat_eq (count ps) (suc (count ts))) (fill strict (pieces_filling untagged) ps && (fill strict (each expression) ts && true)) (eq-eqb (count ps) (suc (count ts)) m.counts)
      (both (fill strict (pieces_filling untagged) ps) (fill strict (each expression) ts && true) (quasis_filled ps m.texts) (both (fill strict (each expression) ts) true m.parts refl))

  -- the text of a part that fits
  told_paired : (t : Tree) (m : List ℕ) → told t ≡ Some m → Fits t → is_paired m ≡ true
  told_paired t m k e =
      let is : Told t m = told_is t m k in
      go (to_text is.its_value) (text_paired is.its_value (operand_written strict t is.its_value is.is e)) is.reads
    where
      go : (x : conversion.Made (List ℕ)) → Paired x → made x ≡ Some m → is_paired m ≡ true
      go (makes s) p h = let same : s ≡ m = cc h in subst (λ r. is_paired r ≡ true) same p
      go raises p h = nothing h
      go outside p h = nothing h

  joined_stands : (b : Bool) (p q r : Piece) → (Whole p → Whole q → Whole r) → r.is_tail ≡ q.is_tail → (last : Bool) → is_quasi untagged b (piece p) ≡ true → is_quasi untagged last (piece q) ≡ true → is_quasi untagged last (piece r) ≡ true
  joined_stands b p q r f t last x y =
      let v = piece_stands b p x in
      let w = piece_stands last q y in
      stands_piece last r (record { tail = ap (λ b. is_same_flag b last) t ∙ w.tail; whole = f v.whole w.whole })

  quasis_more : (t : Tree) (bs : List Piece) (u : Tree) (us : Trees) → are_quasis untagged (t ▸ append (pieces bs) (u ▸ us)) ≡ (is_quasi untagged false t && are_quasis untagged (append (pieces bs) (u ▸ us)))
  quasis_more t [] u us = refl
  quasis_more t (b ∷ bs) u us = refl

  -- two pieces become one
  fewer_quasis : (before : List Piece) (p q r : Piece) (after : Trees) → (Whole p → Whole q → Whole r) → r.is_tail ≡ q.is_tail → are_quasis untagged (append (pieces before) (piece p ▸ (piece q ▸ after))) ≡ true → are_quasis untagged (append (pieces before) (piece r ▸ after)) ≡ true
  fewer_quasis [] p q r none f t e =
      let (first, second) = and_parts (is_quasi untagged false (piece p)) (is_quasi untagged true (piece q)) e in
      joined_stands false p q r f t true first second
  fewer_quasis [] p q r (a ▸ after) f t e =
      let (first, rest) = and_parts (is_quasi untagged false (piece p)) (is_quasi untagged false (piece q) && are_quasis untagged (a ▸ after)) e in
      let (second, others) = and_parts (is_quasi untagged false (piece q)) (are_quasis untagged (a ▸ after)) rest in
      both (is_quasi untagged false (piece r)) (are_quasis untagged (a ▸ after)) (joined_stands false p q r f t false first second) others
  fewer_quasis (b ∷ bs) p q r after f t e =
      let (first, rest) = and_parts (is_quasi untagged false (piece b)) (are_quasis untagged (append (pieces bs) (piece p ▸ (piece q ▸ after)))) (sym (quasis_more (piece b) bs (piece p) (piece q ▸ after)) ∙ e) in
      quasis_more (piece b) bs (piece r) after ∙ both (is_quasi untagged false (piece b)) (are_quasis untagged (append (pieces bs) (piece r ▸ after))) first (fewer_quasis bs p q r after f t rest)

  module _ (before : List Piece) (p q : Piece) (after : List Piece) (earlier : Trees) (a : Tree) (later : Trees) (m : List ℕ) (k : told a ≡ Some m) where
    abbrev joined : Piece
    joined = pair (pair p (spelled m)) q

    inlined_fits : Fits (template (append (pieces before) (piece p ▸ (piece q ▸ pieces after))) (append earlier (a ▸ later))) → Fits (template (append (pieces before) (piece joined ▸ pieces after)) (append earlier later))
    inlined_fits e =
        let is = template_made strict (append (pieces before) (piece p ▸ (piece q ▸ pieces after))) (append earlier (a ▸ later)) e in
        let (firsts, rest) = both_fit strict expression earlier (a ▸ later) is.parts in
        let (fit, lasts) = first_fits strict expression a later rest in
        let text = told_paired a m k fit in
        let whole : Whole p → Whole q → Whole joined = λ v w. pair_whole (pair p (spelled m)) q (pair_whole p (spelled m) v (spelled_whole m text)) w in
        let counts = is.counts in
        let one = count_append (pieces before) (piece p ▸ (piece q ▸ pieces after)) in
        let other = count_append (pieces before) (piece joined ▸ pieces after) in
        let many = count_append earlier (a ▸ later) in
        let fewer = count_append earlier later in
        made_template (append (pieces before) (piece joined ▸ pieces after)) (append earlier later)
        (record { counts = omega (arith, counts, one, other, many, fewer); texts = fewer_quasis before p q joined (pieces after) whole refl is.texts; parts = append_fits strict expression earlier later firsts lasts })

    -- behind a tag no part writes a value out
    no_tag : fill strict (each (one (an_inner an_expression))) (append earlier (a ▸ later)) ≡ true → ⊥
    no_tag e =
        let (firsts, rest) = both_fit strict (one (an_inner an_expression)) earlier (a ▸ later) e in
        no_inner_told strict a m k (first_fits strict (one (an_inner an_expression)) a later rest).0

    inlined_stands : (s : Slot) → fits strict s (template (append (pieces before) (piece p ▸ (piece q ▸ pieces after))) (append earlier (a ▸ later))) ≡ true → TakesExpression s × Fits (template (append (pieces before) (piece joined ▸ pieces after)) (append earlier later))
    inlined_stands s e = go (of_template strict s (append (pieces before) (piece p ▸ (piece q ▸ pieces after))) (append earlier (a ▸ later)) e)
      where
        go : StoodIn strict s (append (pieces before) (piece p ▸ (piece q ▸ pieces after))) (append earlier (a ▸ later)) → TakesExpression s × Fits (template (append (pieces before) (piece joined ▸ pieces after)) (append earlier later))
        go (inl (takes, fit)) = (takes, inlined_fits fit)
        go (inr inner) = absurd (no_tag inner)

  -- a template is added to another
  more_quasis : (before : List Piece) (p q r : Piece) (after : Trees) → (Whole p → Whole q → Whole r) → r.is_tail ≡ q.is_tail → are_quasis untagged (append (pieces before) (piece p ▸ none)) ≡ true → are_quasis untagged (piece q ▸ after) ≡ true → are_quasis untagged (append (pieces before) (piece r ▸ after)) ≡ true
  more_quasis [] p q r none f t e k = joined_stands true p q r f t true e k
  more_quasis [] p q r (a ▸ after) f t e k =
      let (second, others) = and_parts (is_quasi untagged false (piece q)) (are_quasis untagged (a ▸ after)) k in
      both (is_quasi untagged false (piece r)) (are_quasis untagged (a ▸ after)) (joined_stands true p q r f t false e second) others
  more_quasis (b ∷ bs) p q r after f t e k =
      let (first, rest) = and_parts (is_quasi untagged false (piece b)) (are_quasis untagged (append (pieces bs) (piece p ▸ none))) (sym (quasis_more (piece b) bs (piece p) none) ∙ e) in
      quasis_more (piece b) bs (piece r) after ∙ both (is_quasi untagged false (piece b)) (are_quasis untagged (append (pieces bs) (piece r ▸ after))) first (more_quasis bs p q r after f t rest k)

  -- another piece in the place of one
  other_quasi : (before : List Piece) (p r : Piece) (after : Trees) → ((last : Bool) → is_quasi untagged last (piece p) ≡ true → is_quasi untagged last (piece r) ≡ true) → are_quasis untagged (append (pieces before) (piece p ▸ after)) ≡ true → are_quasis untagged (append (pieces before) (piece r ▸ after)) ≡ true
  other_quasi [] p r none f e = f true e
  other_quasi [] p r (a ▸ after) f e =
      let (first, rest) = and_parts (is_quasi untagged false (piece p)) (are_quasis untagged (a ▸ after)) e in
      both (is_quasi untagged false (piece r)) (are_quasis untagged (a ▸ after)) (f false first) rest
  other_quasi (b ∷ bs) p r after f e =
      let (first, rest) = and_parts (is_quasi untagged false (piece b)) (are_quasis untagged (append (pieces bs) (piece p ▸ after))) (sym (quasis_more (piece b) bs (piece p) after) ∙ e) in
      quasis_more (piece b) bs (piece r) after ∙ both (is_quasi untagged false (piece b)) (are_quasis untagged (append (pieces bs) (piece r ▸ after))) first (other_quasi bs p r after f rest)

  spelled_stands : (m : List ℕ) → is_paired m ≡ true → is_quasi untagged true (piece (spelled m)) ≡ true
  spelled_stands m e = stands_piece true (spelled m) (record { tail = refl; whole = spelled_whole m e })

  both_fits : (before : List Piece) (p : Piece) (earlier : Trees) (q : Piece) (after : List Piece) (later : Trees) → Fits (template (append (pieces before) (piece p ▸ none)) earlier) → Fits (template (piece q ▸ pieces after) later) → Fits (template (append (pieces before) (piece (pair p q) ▸ pieces after)) (append earlier later))
  both_fits before p earlier q after later e k =
      let front = template_made strict (append (pieces before) (piece p ▸ none)) earlier e in
      let other = template_made strict (piece q ▸ pieces after) later k in
      let counts = front.counts in
      let more = other.counts in
      let left = count_append (pieces before) (piece p ▸ none) in
      let whole = count_append (pieces before) (piece (pair p q) ▸ pieces after) in
      let parts = count_append earlier later in
      made_template (append (pieces before) (piece (pair p q) ▸ pieces after)) (append earlier later)
      (record { counts = omega (arith, counts, more, left, whole, parts); texts = more_quasis before p q (pair p q) (pieces after) (pair_whole p q) refl front.texts other.texts; parts = append_fits strict expression earlier later front.parts other.parts })

  after_fits : (before : List Piece) (p : Piece) (earlier : Trees) (t : Tree) (m : List ℕ) → told t ≡ Some m → Fits (template (append (pieces before) (piece p ▸ none)) earlier) → Fits t → Fits (template (append (pieces before) (piece (pair p (spelled m)) ▸ none)) earlier)
  after_fits before p earlier t m k e f =
      let front = template_made strict (append (pieces before) (piece p ▸ none)) earlier e in
      let text = told_paired t m k f in
      let counts = front.counts in
      let left = count_append (pieces before) (piece p ▸ none) in
      let whole = count_append (pieces before) (piece (pair p (spelled m)) ▸ none) in
      made_template (append (pieces before) (piece (pair p (spelled m)) ▸ none)) earlier
      (record { counts = omega (arith, counts, left, whole); texts = more_quasis before p (spelled m) (pair p (spelled m)) none (pair_whole p (spelled m)) refl front.texts (spelled_stands m text); parts = front.parts })

  before_fits : (t : Tree) (m : List ℕ) → told t ≡ Some m → (q : Piece) (after : List Piece) (later : Trees) → Fits t → Fits (template (piece q ▸ pieces after) later) → Fits (template (piece (pair (spelled m) q) ▸ pieces after) later)
  before_fits t m k q after later f e =
      let other = template_made strict (piece q ▸ pieces after) later e in
      let text = told_paired t m k f in
      made_template (piece (pair (spelled m) q) ▸ pieces after) later
      (record { counts = other.counts; texts = other_quasi [] q (pair (spelled m) q) (pieces after) (λ last x. joined_stands true (spelled m) q (pair (spelled m) q) (pair_whole (spelled m) q) refl last (spelled_stands m text) x) other.texts; parts = other.parts })

  sum_stood : (n w : Tree) → Row5 n w → (s : Slot) → fits strict s n ≡ true → TakesExpression s × Fits w
  sum_stood n w (inl r) s e =
      let (takes, (left_fits, right_fits)) = binary_at strict Addition (template (append (pieces r.before) (piece r.last ▸ none)) r.earlier) (template (piece r.first ▸ pieces r.after) r.later) s (subst (λ t. fits strict s t ≡ true) r.shape e) in
      (takes, subst Fits (sym r.written) (both_fits r.before r.last r.earlier r.first r.after r.later left_fits right_fits))
  sum_stood n w (inr (inl r)) s e =
      let (takes, (left_fits, right_fits)) = binary_at strict Addition (template (append (pieces r.before) (piece r.last ▸ none)) r.earlier) r.tail s (subst (λ t. fits strict s t ≡ true) r.shape e) in
      (takes, subst Fits (sym r.written) (after_fits r.before r.last r.earlier r.tail r.text r.known left_fits right_fits))
  sum_stood n w (inr (inr r)) s e =
      let (takes, (left_fits, right_fits)) = binary_at strict Addition r.head (template (piece r.first ▸ pieces r.after) r.later) s (subst (λ t. fits strict s t ≡ true) r.shape e) in
      (takes, subst Fits (sym r.written) (before_fits r.head r.text r.known r.first r.after r.later left_fits right_fits))

  stood : (p : Position) (n w : Tree) → TemplateRow p n w → (s : Slot) → fits strict s n ≡ true → TakesExpression s × Fits w
  stood (Expr q) n w (inl r) s e =
      let (takes, fit) = inlined_stands r.before r.first r.second r.after r.earlier r.part r.later r.text r.known s (subst (λ t. fits strict s t ≡ true) r.shape e) in
      (takes, subst Fits (sym r.written) fit)
  stood (Expr q) n w (inr (inl r)) s e = sum_stood n w r s e
  stood (Expr q) n w (inr (inr r)) s e =
      let (takes, (sum_fits, last_fits)) = binary_at strict Addition (binary Addition r.left r.inner) r.tail s (subst (λ t. fits strict s t ≡ true) r.shape e) in
      let (within, (first_fit, inner_fits)) = binary_at strict Addition r.left r.inner expression sum_fits in
      let (again, joined_fits) = sum_stood (binary Addition r.inner r.tail) r.joined r.sum expression (two_fit strict r.inner r.tail inner_fits last_fits) in
      (takes, subst Fits (sym r.written) (two_fit strict r.left r.joined first_fit joined_fits))
  stood p n w r s e = absurd r

row_fits : (p : Position) (n w : Tree) → TemplateRow p n w → (strict : Bool) (s : Slot) → fits strict s n ≡ true → fits strict s w ≡ true
row_fits p n w r strict s e = let (takes, fit) = stood strict p n w r s e in expression_taken strict s w takes fit

row_slot : (p : Position) (n w : Tree) → TemplateRow p n w → (strict : Bool) (s : Slot) → fits strict s n ≡ true → is_body_slot p s ≡ true
row_slot p n w r strict s e = expression_slot p s (stood strict p n w r s e).0

-- ---- what a parent asks of them

template_asked : (p : Position) (ps ts qs us : Trees) → AskedAlike p (template ps ts) (template qs us)
template_asked p ps ts qs us = record {
  absent = λ e. absurd (true≢false (sym e));
  body = λ e. absurd (true≢false (sym e));
  optional = λ e. absurd (true≢false (sym e));
  number = λ asks e. refl;
  spelled = λ s e. absurd (cc e);
  plain = refl;
}

sum_asked : (p : Position) (a b : Tree) (qs us : Trees) → AskedAlike p (binary Addition a b) (template qs us)
sum_asked p a b qs us = record {
  absent = λ e. absurd (true≢false (sym e));
  body = λ e. absurd (true≢false (sym e));
  optional = λ e. absurd (true≢false (sym e));
  number = λ asks e. refl;
  spelled = λ s e. absurd (cc e);
  plain = refl;
}

asked_as : (p : Position) (n w : Tree) (t u : Tree) → n ≡ t → w ≡ u → AskedAlike p t u → AskedAlike p n w
asked_as p n w t u e f a = subst (λ x. AskedAlike p x w) (sym e) (subst (AskedAlike p t) (sym f) a)

nested_asked : (p : Position) (a b c d : Tree) → AskedAlike p (binary Addition a b) (binary Addition c d)
nested_asked p a b c d = record {
  absent = λ e. absurd (true≢false (sym e));
  body = λ e. absurd (true≢false (sym e));
  optional = λ e. absurd (true≢false (sym e));
  number = λ asks e. refl;
  spelled = λ s e. absurd (cc e);
  plain = refl;
}

row_asked : (p : Position) (n w : Tree) → TemplateRow p n w → AskedAlike p n w
row_asked (Expr q) n w (inl r) = asked_as (Expr q) n w _ _ r.shape r.written (template_asked (Expr q) _ _ _ _)
row_asked (Expr q) n w (inr (inl (inl r))) = asked_as (Expr q) n w _ _ r.shape r.written (sum_asked (Expr q) _ _ _ _)
row_asked (Expr q) n w (inr (inl (inr (inl r)))) = asked_as (Expr q) n w _ _ r.shape r.written (sum_asked (Expr q) _ _ _ _)
row_asked (Expr q) n w (inr (inl (inr (inr r)))) = asked_as (Expr q) n w _ _ r.shape r.written (sum_asked (Expr q) _ _ _ _)
row_asked (Expr q) n w (inr (inr r)) = asked_as (Expr q) n w _ _ r.shape r.written (nested_asked (Expr q) _ _ _ _)
row_asked p n w r = absurd r

pub templates_lawful : Lawful TemplateContracts
templates_lawful =
    kept_is_lawful TemplateContracts templates_same
    (record { fitting = λ p n w c strict s k e. row_fits p n w c.row strict s e; asked = λ p n w c. row_asked p n w c.row })
    (λ p n w c. places p n w c.row)
    (λ p n w c strict s k e. row_slot p n w c.row strict s e)
    (λ p n w c. kept p n w c.row)

-- Rows on sequences ask less.
use Rattle.std.specs.Prelude.{◌≡◌, refl, Bool, true, false, not, ◌||◌, List, [], ◌∷◌, codes}
use Rattle.std.proofs.Common.{inl, inr, ap, ◌∙◌, sym, subst, true≢false}
use Rattle.mini_model.specs.declared.name.Name.{Name}
use Rattle.mini_model.specs.declared.operator.UnaryOperator.TheVariants.{LogicalNot}
use Rattle.mini_model.specs.declared.place.Position.{Position}
use Rattle.mini_model.specs.declared.place.Position.TheVariants.{Expr}
use Rattle.mini_model.specs.declared.seat.Seat.{Seat}
use Rattle.mini_model.specs.declared.shape.Shape.TheVariants as shape
use Rattle.mini_model.specs.Position.{callee_seat}
use Rattle.mini_model.specs.Paths.{append}
use Rattle.mini_model.specs.Tree.{Tree, Trees, node, none, ◌▸◌, listed, shape_of}
use Rattle.mini_accept.specs.WellShaped.{Slot, fits}
use Rattle.mini_laws.specs.ScopeList.{is_eval, is_eval_callee}
use Rattle.mini_rows.specs.Lists.{sequence}
use Rattle.mini_rows.specs.Sequences.{conversion_operator, Operation, Decides, Chooses, Negates, Operates, Converts, Yields, over, along, stays_alone, Row21, SequenceRow, SequenceContracts}
use Rattle.mini_rows.specs.Sketches.{Unary, Binary, Logical, Conditional, Sequence, Yield, part, list, end, ◌▹◌, no_items, item, Asked, AsValue}
use Rattle.mini_rows.proofs.ArrangedValues.{is_value, head_valued}
use Rattle.mini_less.specs.Families.{LessAt, SequencesReadLess}
use Rattle.mini_less.proofs.LessRows.{reads_less_by}
use Rattle.mini_less.proofs.Made.{ByParts}
use Rattle.mini_less.proofs.Nodes.{unary_part, a_unary, binary_parts, a_binary, logical_parts, a_logical, conditional_parts, a_conditional, sequence_parts, a_sequence, firsts, lasts, both_of, made_under, part_of, MadeOf, Uncalled, seats}
use Rattle.mini_rows.specs.Folding.{is_spelled}

-- 20: another operand may stand in the place of the first
module _ (Q : Asked → Tree → Type 0) (l : ByParts Q) where
  over_parts : (r : Operation) (a : Tree) → Q AsValue (over r a) → Q AsValue a × ((b : Tree) → Q AsValue b → Q AsValue (over r b))
  over_parts (Decides o c) a y = let (x, z) = logical_parts Q l o a c y in (x, λ b q. a_logical Q l o b c q z)
  over_parts (Chooses c d) a y = let (x, (z, v)) = conditional_parts Q l a c d y in (x, λ b q. a_conditional Q l b c d q z v)
  over_parts Negates a y = (unary_part Q l LogicalNot a y, λ b q. a_unary Q l LogicalNot b q)
  over_parts (Operates o c) a y = let (x, z) = binary_parts Q l o a c y in (x, λ b q. a_binary Q l o b c q z)
  over_parts (Converts c) a y = (unary_part Q l (conversion_operator c) a y, λ b q. a_unary Q l (conversion_operator c) b q)
  over_parts (Yields d) a y = ((l.down (Yield d) refl AsValue (a ▸ none) tt y).0, λ b q. l.up (Yield d) refl AsValue (b ▸ none) tt (q, tt))

  along_parts : (rs : List Operation) (a : Tree) → Q AsValue (along rs a) → Q AsValue a × ((b : Tree) → Q AsValue b → Q AsValue (along rs b))
  along_parts [] a y = (y, λ b q. q)
  along_parts (r ∷ rs) a y =
      let (x, f) = over_parts r (along rs a) y in
      let (z, g) = along_parts rs a x in
      (z, λ b q. f (along rs b) (g b q))

  lifted : (r : Operation) (rs : List Operation) (p : Tree) (ps : Trees) (t : Tree) → Q AsValue (over r (along rs (sequence (p ▸ append ps (t ▸ none))))) → Q AsValue (sequence (p ▸ append ps (over r (along rs t) ▸ none)))
  lifted r rs p ps t y =
      let (x, f) = over_parts r (along rs (sequence (p ▸ append ps (t ▸ none)))) y in
      let (z, g) = along_parts rs (sequence (p ▸ append ps (t ▸ none))) x in
      let all = sequence_parts Q l (p ▸ append ps (t ▸ none)) z in
      a_sequence Q l (p ▸ append ps (over r (along rs t) ▸ none)) (all.0, both_of Q l ps (over r (along rs t) ▸ none) (firsts Q l ps (t ▸ none) all.1) (f (along rs t) (g t (lasts Q l ps (t ▸ none) all.1).0), tt))

  spread : (before : Trees) (a b : Tree) (others after : Trees) → Q AsValue (sequence (append before (sequence (a ▸ (b ▸ others)) ▸ after))) → Q AsValue (sequence (append before (a ▸ (b ▸ append others after))))
  spread before a b others after y =
      let all = sequence_parts Q l (append before (sequence (a ▸ (b ▸ others)) ▸ after)) y in
      let rest = lasts Q l before (sequence (a ▸ (b ▸ others)) ▸ after) all in
      let inner = sequence_parts Q l (a ▸ (b ▸ others)) rest.0 in
      a_sequence Q l (append before (a ▸ (b ▸ append others after))) (both_of Q l before (a ▸ (b ▸ append others after)) (firsts Q l before (sequence (a ▸ (b ▸ others)) ▸ after) all) (inner.0, (inner.1.0, both_of Q l others after inner.1.1 rest.1)))

  pub dropped : (before : Trees) (a b : Tree) (after : Trees) → Q AsValue (sequence (append before (a ▸ (b ▸ after)))) → Q AsValue (sequence (append before (b ▸ after)))
  dropped before a b after y =
      let all = sequence_parts Q l (append before (a ▸ (b ▸ after))) y in
      a_sequence Q l (append before (b ▸ after)) (both_of Q l before (b ▸ after) (firsts Q l before (a ▸ (b ▸ after)) all) (lasts Q l before (a ▸ (b ▸ after)) all).1)

-- a name that stays alone where a call is made is not `eval`
named_alone : (xs : List Name) → (not (is_spelled xs (codes "eval")) || false) ≡ true → is_eval xs ≡ false
named_alone [] e = refl
named_alone (x ∷ xs) e = by (is_eval (x ∷ xs)) e
  where
    by : (b : Bool) → (not b || false) ≡ true → b ≡ false
    by true e = absurd (true≢false (sym e))
    by false e = refl

alone_there : (t : Tree) → stays_alone callee_seat t ≡ true → is_eval_callee t ≡ false
alone_there (node shape.Identifier xs n ts) e = named_alone xs e
alone_there (node h xs n ts) e = refl

pub left_alone : (q : Seat) (t w : Tree) → w ≡ t → stays_alone q t ≡ true → Uncalled q w
left_alone q t w b e i = ap is_eval_callee b ∙ alone_there t (subst (λ s. stays_alone s t ≡ true) (seats q i) e)

pub pair_values : (strict : Bool) (x : Slot) (a b : Tree) → fits strict x (sequence (a ▸ (b ▸ none))) ≡ true → (is_value (shape_of a) ≡ true) × (is_value (shape_of b) ≡ true)
pair_values strict x a b e = let (y, (z, v)) = head_valued (record { trees = a ▸ b ▸ none; lists = [] }) strict AsValue x Sequence (list (item (part 0) (item (part 1) no_items)) ▹ end) refl e in (y, z)

module _ (q : Seat) (n w : Tree) where
  abbrev inner : List Operation → Tree → Trees → Tree → Tree
  inner rs p ps t = along rs (sequence (p ▸ append ps (t ▸ none)))

  abbrev outer : Operation → List Operation → Tree → Trees → Tree → Trees
  outer o rs p ps t = p ▸ append ps (over o (along rs t) ▸ none)

  module _ (rs : List Operation) (p : Tree) (ps : Trees) (t : Tree) where
    made : (o : Operation) → n ≡ over o (inner rs p ps t) → w ≡ sequence (outer o rs p ps t) → MadeOf n w
    made o e f strict x k Q l y = subst (Q AsValue) (sym f) (lifted Q l o rs p ps t (subst (Q AsValue) e y))

    lifted_by : (o : Operation) → n ≡ over o (inner rs p ps t) → w ≡ sequence (outer o rs p ps t) → LessAt (Expr q) n w
    lifted_by (Decides o b) e f = made_under q n w (Logical o) (inner rs p ps t ▸ b ▸ none) refl e tt Sequence (listed (outer (Decides o b) rs p ps t) ▸ none) refl f (made (Decides o b) e f)
    lifted_by (Chooses b c) e f = made_under q n w Conditional (inner rs p ps t ▸ b ▸ c ▸ none) refl e tt Sequence (listed (outer (Chooses b c) rs p ps t) ▸ none) refl f (made (Chooses b c) e f)
    lifted_by Negates e f = made_under q n w (Unary LogicalNot) (inner rs p ps t ▸ none) refl e tt Sequence (listed (outer Negates rs p ps t) ▸ none) refl f (made Negates e f)
    lifted_by (Operates o b) e f = made_under q n w (Binary o) (inner rs p ps t ▸ b ▸ none) refl e tt Sequence (listed (outer (Operates o b) rs p ps t) ▸ none) refl f (made (Operates o b) e f)
    lifted_by (Converts c) e f = made_under q n w (Unary (conversion_operator c)) (inner rs p ps t ▸ none) refl e tt Sequence (listed (outer (Converts c) rs p ps t) ▸ none) refl f (made (Converts c) e f)
    lifted_by (Yields d) e f = made_under q n w (Yield d) (inner rs p ps t ▸ none) refl e tt Sequence (listed (outer (Yields d) rs p ps t) ▸ none) refl f (made (Yields d) e f)

  spread_less : Row21 n w → LessAt (Expr q) n w
  spread_less r =
      made_under q n w Sequence (listed (append r.before (sequence (r.first ▸ (r.second ▸ r.others)) ▸ r.after)) ▸ none) refl r.shape tt Sequence (listed (append r.before (r.first ▸ (r.second ▸ append r.others r.after))) ▸ none) refl r.written (λ strict x k Q l y.
      subst (Q AsValue) (sym r.written) (spread Q l r.before r.first r.second r.others r.after (subst (Q AsValue) r.shape y)))

  pub dropped_less : (before : Trees) (a b : Tree) (after : Trees) → n ≡ sequence (append before (a ▸ (b ▸ after))) → w ≡ sequence (append before (b ▸ after)) → LessAt (Expr q) n w
  dropped_less before a b after e f = made_under q n w Sequence (listed (append before (a ▸ (b ▸ after))) ▸ none) refl e tt Sequence (listed (append before (b ▸ after)) ▸ none) refl f (λ strict x k Q l y. subst (Q AsValue) (sym f) (dropped Q l before a b after (subst (Q AsValue) e y)))

  pub alone_less : (a t : Tree) → n ≡ sequence (a ▸ (t ▸ none)) → w ≡ t → stays_alone q t ≡ true → LessAt (Expr q) n w
  alone_less a t e f s = part_of q n w Sequence (listed (a ▸ (t ▸ none)) ▸ none) refl e tt t f (λ strict x k. (pair_values strict x a t k).1) (λ Q l y. (sequence_parts Q l (a ▸ (t ▸ none)) y).1.0) (left_alone q t w f s)

row_less : (p : Position) (n w : Tree) → SequenceRow p n w → LessAt p n w
row_less (Expr q) n w (inl r) = lifted_by q n w r.operations r.first r.others r.last r.operation r.shape r.written
row_less (Expr q) n w (inr (inl r)) = spread_less q n w r
row_less (Expr q) n w (inr (inr (inl r))) = dropped_less q n w r.before r.idle r.next r.after r.shape r.written
row_less (Expr q) n w (inr (inr (inr r))) = alone_less q n w r.idle r.last r.shape r.written r.stays
row_less p n w r = absurd r

pub sequences_read_less : SequencesReadLess
sequences_read_less = reads_less_by SequenceContracts (λ p n w c. row_less p n w c.row)

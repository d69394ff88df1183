-- Some neighbours in a list of statements that are built anew, whatever stands before and after them.
use Rattle.std.specs.Prelude.{ℕ, ◌≡◌, refl, pos, Bool, true, false, List, [], ◌∷◌, if◌then◌else◌}
use Rattle.std.proofs.Common.{ap, ◌∙◌, sym, subst, inl, inr, ◌⊎◌}
use Rattle.mini_model.specs.declared.operator.UnaryOperator.TheVariants.{Void}
use Rattle.mini_model.specs.declared.place.Position.TheVariants.{StatementList}
use Rattle.mini_model.specs.Tree.{Tree, Trees, node, none, ◌▸◌, absent, is_absent, listed, expression_statement, if_alone, conditional}
use Rattle.mini_model.specs.Paths.{append}
use Rattle.mini_rows.specs.Lists.{block, sequence, of_parts, void_zero, or_void, return_statement, throw_statement, Row66Empty, Row66Joined, Row79, Row73, Row73Bare, Row76}
use Rattle.mini_rows.specs.Sketches.{Head, shape_by, Unary, Number, Conditional, Throw, AbsentPart, Sequence, Empty, OfExpression, Return, If, Block, Sketch, part, under, list, end, ◌▹◌, Items, no_items, item, items, Parts, list_at, filled, items_filled, Free, still, rearranges_list}
use Rattle.mini_rows.specs.Arranged.{KeptAt, AreFree, NeighboursRow, NeighboursKept}
use Rattle.mini_rows.proofs.ArrangedStatements.{lists_arranged}

-- these items, and then the stretch at an index
abbrev pub ended : Items → ℕ → Items
ended no_items k = items k no_items
ended (item s is) k = item s (ended is k)
ended (items i is) k = items i (ended is k)

pub append_none : (ts : Trees) → append ts none ≡ ts
append_none none = refl
append_none (t ▸ ts) = ap (λ r. t ▸ r) (append_none ts)

pub append_more : (ts us vs : Trees) → append (append ts us) vs ≡ append ts (append us vs)
append_more none us vs = refl
append_more (t ▸ ts) us vs = ap (λ r. t ▸ r) (append_more ts us vs)

ended_filled : (ps : Parts) (is : Items) (k : ℕ) → append (items_filled ps is) (list_at ps.lists k) ≡ items_filled ps (ended is k)
ended_filled ps no_items k = sym (append_none (list_at ps.lists k))
ended_filled ps (item s is) k = ap (λ r. filled ps s ▸ r) (ended_filled ps is k)
ended_filled ps (items i is) k = append_more (list_at ps.lists i) (items_filled ps is) (list_at ps.lists k) ∙ ap (append (list_at ps.lists i)) (ended_filled ps is k)

-- the list 0 stands before, the list 1 after
pub between : (f : Free) (ts : Trees) (before after : Trees) (others : List Trees) → AreFree (record { trees = ts; lists = before ∷ after ∷ others }) f → (is js : Items) → rearranges_list f (items 0 (ended is 1)) (items 0 (ended js 1)) ≡ true → (read put : Trees)
    → read ≡ items_filled (record { trees = ts; lists = before ∷ after ∷ others }) is → put ≡ items_filled (record { trees = ts; lists = before ∷ after ∷ others }) js
    → KeptAt StatementList (listed (append before (append read after))) (listed (append before (append put after)))
between f ts before after others u is js e read put a b =
    let ps : Parts = record { trees = ts; lists = before ∷ after ∷ others } in
    lists_arranged f ps u (items 0 (ended is 1)) (items 0 (ended js 1)) e (listed (append before (append read after))) (listed (append before (append put after)))
    (ap (λ r. listed (append before (append r after))) a ∙ ap (λ r. listed (append before r)) (ended_filled ps is 1))
    (ap (λ r. listed (append before (append r after))) b ∙ ap (λ r. listed (append before r)) (ended_filled ps js 1))

module _ (before after read put : Trees) where
  abbrev Kept : Type 0
  Kept = KeptAt StatementList (listed (append before (append read after))) (listed (append before (append put after)))

  pub row_66_empty_kept : Row66Empty read put → Kept
  row_66_empty_kept r = between still none before after [] (tt, tt, tt) (item (under Empty end) no_items) no_items refl read put r.shape r.written

  pub row_79_kept : Row79 read put → Kept
  row_79_kept r =
      between (record { moved = []; lists_moved = 2 ∷ []; dropped = [] }) none before after (r.statements ∷ []) (tt, (r.unscoped, tt), tt) (item (under Block (list (items 2 no_items) ▹ end)) no_items) (items 2 no_items) refl read put
      (r.shape ∙ ap (λ ts. block ts ▸ none) (sym (append_none r.statements))) (r.written ∙ sym (append_none r.statements))

  pub row_76_kept : Row76 read put → Kept
  row_76_kept r =
      between (record { moved = 2 ∷ []; lists_moved = []; dropped = [] }) (r.test ▸ r.s ▸ r.u ▸ none) before after [] ((r.unscoped, tt), tt, tt) (item (under If (part 0 ▹ part 1 ▹ part 2 ▹ end)) no_items) (item (under If (part 0 ▹ part 1 ▹ under AbsentPart end ▹ end)) (item (part 2) no_items)) refl read put r.shape r.written

  -- a jump without a value
  abbrev bare : Sketch
  bare = under Return (under AbsentPart end ▹ end)

  pub row_73_bare_kept : Row73Bare read put → Kept
  row_73_bare_kept r =
      between still (r.test ▸ none) before after [] (tt, tt, tt) (item (under If (part 0 ▹ bare ▹ under AbsentPart end ▹ end)) (item bare no_items)) (item (under OfExpression (part 0 ▹ end)) (item bare no_items)) refl read put r.shape r.written

  -- an expression of these parts, the first a part and the others a stretch
  abbrev of_some : ℕ → ℕ → Sketch
  of_some i j = under Sequence (list (item (part i) (items j no_items)) ▹ end)

  abbrev both_of : Items → Sketch
  both_of is = under OfExpression (under Sequence (list is ▹ end) ▹ end)

  abbrev does : Sketch → Items → Items
  does s is = item (under OfExpression (s ▹ end)) is

  joined_by : (p q : Tree) (ps qs : Trees) → read ≡ expression_statement (of_parts p ps) ▸ (expression_statement (of_parts q qs) ▸ none) → put ≡ expression_statement (of_parts p (append ps (q ▸ qs))) ▸ none → Kept
  joined_by p q none none a b = between still (p ▸ q ▸ none) before after [] (tt, tt, tt) (does (part 0) (does (part 1) no_items)) (item (both_of (item (part 0) (item (part 1) no_items))) no_items) refl read put a b
  joined_by p q (x ▸ ps) none a b =
      between still (p ▸ q ▸ none) before after ((x ▸ ps) ∷ []) (tt, tt, tt) (does (of_some 0 2) (does (part 1) no_items)) (item (both_of (item (part 0) (items 2 (item (part 1) no_items)))) no_items) refl read put
      (a ∙ ap (λ r. expression_statement (sequence (p ▸ (x ▸ r))) ▸ (expression_statement q ▸ none)) (sym (append_none ps))) b
  joined_by p q none (y ▸ qs) a b =
      between still (p ▸ q ▸ none) before after ((y ▸ qs) ∷ []) (tt, tt, tt) (does (part 0) (does (of_some 1 2) no_items)) (item (both_of (item (part 0) (item (part 1) (items 2 no_items)))) no_items) refl read put
      (a ∙ ap (λ r. expression_statement p ▸ (expression_statement (sequence (q ▸ (y ▸ r))) ▸ none)) (sym (append_none qs))) (b ∙ ap (λ r. expression_statement (sequence (p ▸ (q ▸ (y ▸ r)))) ▸ none) (sym (append_none qs)))
  joined_by p q (x ▸ ps) (y ▸ qs) a b =
      between still (p ▸ q ▸ none) before after ((x ▸ ps) ∷ ((y ▸ qs) ∷ [])) (tt, tt, tt) (does (of_some 0 2) (does (of_some 1 3) no_items)) (item (both_of (item (part 0) (items 2 (item (part 1) (items 3 no_items))))) no_items) refl read put
      (a ∙ (λ i. expression_statement (sequence (p ▸ (x ▸ sym (append_none ps) i))) ▸ (expression_statement (sequence (q ▸ (y ▸ sym (append_none qs) i))) ▸ none)))
      (b ∙ ap (λ r. expression_statement (sequence (p ▸ (x ▸ append ps (q ▸ (y ▸ r))))) ▸ none) (sym (append_none qs)))

  pub row_66_joined_kept : Row66Joined read put → Kept
  row_66_joined_kept r = joined_by r.p r.q r.ps r.qs r.shape r.written

  -- 73: `if (a) return b; return c;`, of a jump with this head
  abbrev leave : Head → Sketch → Sketch
  leave h s = under h (s ▹ end)

  abbrev guarded : Head → Sketch → Items
  guarded h s = item (under If (part 0 ▹ leave h s ▹ under AbsentPart end ▹ end)) (item (leave h (part 1)) no_items)

  abbrev chosen : Head → Sketch → Items
  chosen h s = item (leave h (under Conditional (part 0 ▹ s ▹ part 1 ▹ end))) no_items

  abbrev void : Sketch
  void = under (Unary Void) (under (Number (pos 0)) end ▹ end)

  abbrev is_kept : Head → Sketch → Sketch → Bool
  is_kept h s r = rearranges_list still (items 0 (ended (guarded h s) 1)) (items 0 (ended (chosen h r) 1))

  abbrev by_head : Head → Tree → Tree
  by_head h t = node (shape_by h) [] 0 (t ▸ none)

  left_by : (h : Head) → is_kept h (under AbsentPart end) void ≡ true → is_kept h (part 2) (part 2) ≡ true → (r : Row73 (by_head h) read put) → (r.left ≡ absent) ⊎ (is_absent r.left ≡ false) → Kept
  left_by h e d r (inl k) =
      between still (r.test ▸ r.right ▸ none) before after [] (tt, tt, tt) (guarded h (under AbsentPart end)) (chosen h void) e read put
      (r.shape ∙ ap (λ t. if_alone r.test (by_head h t) ▸ (by_head h r.right ▸ none)) k) (r.written ∙ ap (λ t. by_head h (conditional r.test (or_void t) r.right) ▸ none) k)
  left_by h e d r (inr k) =
      between still (r.test ▸ r.right ▸ r.left ▸ none) before after [] (tt, tt, tt) (guarded h (part 2)) (chosen h (part 2)) d read put
      r.shape (r.written ∙ ap (λ b. by_head h (conditional r.test (if b then void_zero else r.left) r.right) ▸ none) k)

  pub row_73_return_kept : Row73 return_statement read put → Kept
  row_73_return_kept r = left_by Return refl refl r r.whole

  pub row_73_throw_kept : Row73 throw_statement read put → Kept
  row_73_throw_kept r = left_by Throw refl refl r r.whole

  pub neighbours_kept : NeighboursRow read put → Kept
  neighbours_kept (inl r) = row_66_empty_kept r
  neighbours_kept (inr (inl r)) = row_66_joined_kept r
  neighbours_kept (inr (inr (inl r))) = row_79_kept r
  neighbours_kept (inr (inr (inr (inl r)))) = row_73_return_kept r
  neighbours_kept (inr (inr (inr (inr (inl r))))) = row_73_throw_kept r
  neighbours_kept (inr (inr (inr (inr (inr (inl r)))))) = row_73_bare_kept r
  neighbours_kept (inr (inr (inr (inr (inr (inr r)))))) = row_76_kept r

pub in_list_kept : NeighboursKept
in_list_kept n w r =
    subst (λ t. KeptAt StatementList t w) (sym r.shape) (subst (KeptAt StatementList (listed (append r.before (append r.read r.after)))) (sym r.written) (neighbours_kept r.before r.after r.read r.put r.row))

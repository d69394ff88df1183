-- What the rows of declarations write is lighter.
use Rattle.std.proofs.Common.{◌≡◌, ◌<◌, true, false, ◌∷◌, refl, sym, ap, ◌∙◌, inl, inr, true≢false, arith}
use Rattle.mini_model.specs.declared.place.Position.{Position}
use Rattle.mini_model.specs.declared.place.Position.TheVariants.{Expr, Stmt, StatementList, BodyList, CommaList, Elsewhere}
use Rattle.mini_model.specs.declared.seat.StmtSeat.{StmtSeat}
use Rattle.mini_model.specs.declared.seat.StmtSeat.TheVariants as stmt_seat
use Rattle.mini_model.specs.Tree.{Tree, Trees, none, ◌▸◌, count, absent, listed}
use Rattle.mini_model.specs.Paths.{append}
use Rattle.mini_model.specs.Position.{statement_expression_seat}
use Rattle.mini_model.specs.Weight.{outline, outlines, commas_weight, weight}
use Rattle.mini_laws.specs.Weights.{Lightens, counts_items}
use Rattle.mini_rows.specs.Lists.{InList}
use Rattle.mini_rows.specs.Spellings.{IsUndefined}
use Rattle.mini_rows.specs.Declarations.{binding, declarator, Row61, Item, Alone, Exported, held, Row61Item, Row61For, DeclarationRow, DeclarationContracts, DeclarationsLighter}
use Rattle.mini_rows.proofs.ListWeights.{total, chooses, comma_list, declarators_append, alone, alone_after, some_after, in_list, weighs_there}

-- ---- declarators

same_commas : (before : Trees) (id v : Tree) (after : Trees) → commas_weight (outlines (append before (declarator id absent ▸ after))) ≡ commas_weight (outlines (append before (declarator id v ▸ after)))
same_commas before id v after = ap commas_weight (same_outlines before)
  where
    same_outlines : (ts : Trees) → outlines (append ts (declarator id absent ▸ after)) ≡ outlines (append ts (declarator id v ▸ after))
    same_outlines none = refl
    same_outlines (t ▸ ts) = ap (λ os. outline t ∷ os) (same_outlines ts)

declarator_falls : (id v : Tree) → IsUndefined v → weight Elsewhere (declarator id absent) < weight Elsewhere (declarator id v)
declarator_falls id v (inl h) = omega (arith, ap (λ u. weight Elsewhere (declarator id u)) h)
declarator_falls id v (inr h) = omega (arith, ap (λ u. weight Elsewhere (declarator id u)) h)

declarators_fall : (before : Trees) (id v : Tree) (after : Trees) → IsUndefined v → weight CommaList (listed (append before (declarator id absent ▸ after))) < weight CommaList (listed (append before (declarator id v ▸ after)))
declarators_fall before id v after u =
    let one = declarator_falls id v u in
    let commas = same_commas before id v after in
    let new = comma_list (append before (declarator id absent ▸ after)) in
    let old = comma_list (append before (declarator id v ▸ after)) in
    let new_sum = declarators_append before (declarator id absent ▸ after) in
    let old_sum = declarators_append before (declarator id v ▸ after) in
    omega (arith, one, commas, new, old, new_sum, old_sum)

-- ---- a declaration as a statement, exported, and in the head of a `for`

record Falls (n w : Tree) : Type 0 where
  alone : weight (Stmt stmt_seat.List) w < weight (Stmt stmt_seat.List) n
  exported : weight Elsewhere w < weight Elsewhere n
  head : weight (Expr statement_expression_seat) w < weight (Expr statement_expression_seat) n
  outline_of : outline w ≡ outline n
  one : (outline n).chooses ≡ false

row_falls : (n w : Tree) → Row61 n w → Falls n w
row_falls n w r =
    let id = binding r.name in
    let falls = declarators_fall r.before id r.init r.after r.undefined in
    record {
      alone = omega (arith, falls, ap (weight (Stmt stmt_seat.List)) r.shape, ap (weight (Stmt stmt_seat.List)) r.written);
      exported = omega (arith, falls, ap (weight Elsewhere) r.shape, ap (weight Elsewhere) r.written);
      head = omega (arith, falls, ap (weight (Expr statement_expression_seat)) r.shape, ap (weight (Expr statement_expression_seat)) r.written);
      outline_of = ap outline r.written ∙ sym (ap outline r.shape);
      one = ap (λ t. (outline t).chooses) r.shape;
    }

held_falls : (item : Item) (n w : Tree) → Falls n w → total (held item w ▸ none) < total (held item n ▸ none)
held_falls Alone n w f = omega (arith, f.alone)
held_falls (Exported specifiers source) n w f = omega (arith, f.exported)

held_chooses : (item : Item) (n w : Tree) → Falls n w → chooses (held item n ▸ none) ≡ false
held_chooses Alone n w f = f.one
held_chooses (Exported specifiers source) n w f = refl

item_falls : (a b : Trees) → Row61Item a b → total b < total a
item_falls a b r = let falls = held_falls r.item r.declared r.bare (row_falls r.declared r.bare r.row) in omega (arith, falls, ap total r.shape, ap total r.written)

item_chooses : (a b : Trees) → Row61Item a b → chooses a ≡ false
item_chooses a b r = ap chooses r.shape ∙ held_chooses r.item r.declared r.bare (row_falls r.declared r.bare r.row)

item_there : (a b : Trees) → Row61Item a b → count a ≡ 0 → ⊥
item_there a b r e = omega (arith, e, ap count r.shape)

for_falls : (q : StmtSeat) (n w : Tree) → Row61For n w → weight (Stmt q) w < weight (Stmt q) n
for_falls q n w r = let falls = (row_falls r.declared r.bare r.row).head in omega (arith, falls, ap (weight (Stmt q)) r.shape, ap (weight (Stmt q)) r.written)

list_falls : (n w : Tree) → InList Row61Item n w → weight StatementList w < weight StatementList n
list_falls n w r =
    let falls = item_falls r.read r.put r.row in
    let whole = in_list r.before r.read r.put r.after 1 (omega (arith, falls)) in
    omega (arith, whole, ap (weight StatementList) r.shape, ap (weight StatementList) r.written)

pub declarations_lighter : DeclarationsLighter
declarations_lighter StatementList n w r = list_falls n w r
declarations_lighter BodyList n w r =
    let old = weighs_there n (append r.before (append r.read r.after)) r.shape in
    let new = weighs_there w (append r.before (append r.put r.after)) r.written in
    omega (arith, list_falls n w r, old, new)
declarations_lighter (Stmt q) n w r = for_falls q n w r
declarations_lighter p n w r = absurd r

-- ---- what a parent reads of them

list_chooses : (n w : Tree) → InList Row61Item n w → (outline n).chooses ≡ true → (outline w).chooses ≡ true
list_chooses n w r h =
    let some = item_there r.read r.put r.row in
    absurd (true≢false (sym (alone_after r.read r.after some (alone r.before (append r.read r.after) (some_after r.read r.after some) (sym (ap (λ t. (outline t).chooses) r.shape) ∙ h))) ∙ item_chooses r.read r.put r.row))

row_chooses : (p : Position) (n w : Tree) → DeclarationRow p n w → (outline n).chooses ≡ true → (outline w).chooses ≡ true
row_chooses StatementList n w r = list_chooses n w r
row_chooses BodyList n w r = list_chooses n w r
row_chooses (Stmt q) n w r = λ h. absurd (true≢false (sym h ∙ ap (λ t. (outline t).chooses) r.shape))
row_chooses p n w r = absurd r

row_absent : (p : Position) (n w : Tree) → DeclarationRow p n w → (outline n).absent ≡ (outline w).absent
row_absent StatementList n w r = ap (λ t. (outline t).absent) r.shape ∙ sym (ap (λ t. (outline t).absent) r.written)
row_absent BodyList n w r = ap (λ t. (outline t).absent) r.shape ∙ sym (ap (λ t. (outline t).absent) r.written)
row_absent (Stmt q) n w r = ap (λ t. (outline t).absent) r.shape ∙ sym (ap (λ t. (outline t).absent) r.written)
row_absent p n w r = absurd r

row_zero : (p : Position) (n w : Tree) → DeclarationRow p n w → (outline n).is_zero ≡ (outline w).is_zero
row_zero StatementList n w r = ap (λ t. (outline t).is_zero) r.shape ∙ sym (ap (λ t. (outline t).is_zero) r.written)
row_zero BodyList n w r = ap (λ t. (outline t).is_zero) r.shape ∙ sym (ap (λ t. (outline t).is_zero) r.written)
row_zero (Stmt q) n w r = ap (λ t. (outline t).is_zero) r.shape ∙ sym (ap (λ t. (outline t).is_zero) r.written)
row_zero p n w r = absurd r

row_items : (p : Position) (n w : Tree) → DeclarationRow p n w → counts_items p ≡ true → (outline n).items ≡ (outline w).items
row_items StatementList n w r e = absurd (true≢false (sym e))
row_items BodyList n w r e = absurd (true≢false (sym e))
row_items (Stmt q) n w r e = absurd (true≢false (sym e))
row_items p n w r e = absurd r

pub declarations_lighten : Lightens DeclarationContracts
declarations_lighten = record {
  lighter = λ p n w c. c.lighter;
  absent = λ p n w c e. row_absent p n w c.row;
  items = λ p n w c e. row_items p n w c.row e;
  is_zero = λ p n w c e. inl (row_zero p n w c.row);
  chooses = λ p n w c e. inl (row_chooses p n w c.row);
}

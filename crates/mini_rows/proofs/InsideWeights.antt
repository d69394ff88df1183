-- What the row of a `var` further inside a body writes is lighter.
use Rattle.std.specs.Prelude.{ℕ, zero, suc, ◌+◌, ◌<◌, ◌≤◌, ◌≡◌, refl, true, [], ◌∷◌, length, Option, Some, None}
use Rattle.std.proofs.Common.{ap, ◌∙◌, sym, subst, inl, inr, true≢false, arith}
use Rattle.mini_model.specs.declared.place.Position.{Position}
use Rattle.mini_model.specs.declared.place.Position.TheVariants.{Expr, Stmt, StatementList, Elsewhere}
use Rattle.mini_model.specs.declared.kind.VariableDeclarationKind.TheVariants.{Var}
use Rattle.mini_model.specs.declared.seat.StmtSeat.{StmtSeat}
use Rattle.mini_model.specs.declared.seat.StmtSeat.TheVariants as stmt_seat
use Rattle.mini_model.specs.declared.shape.Shape.{Shape}
use Rattle.mini_model.specs.declared.shape.Shape.TheVariants as shape
use Rattle.mini_model.specs.Tree.{Tree, Trees, node, none, ◌▸◌, absent, listed, count, expression_statement}
use Rattle.mini_model.specs.Paths.{append}
use Rattle.mini_model.specs.Position.{child_position}
use Rattle.mini_model.specs.Weight.{plain_outline, outline, outlines, one_chooses, weight}
use Rattle.mini_laws.specs.Path.{Path, here, inside, join, count_joined, plug, position_at}
use Rattle.mini_laws.specs.Value.{VariableSet}
use Rattle.mini_laws.specs.Weights.{Lightens}
use Rattle.mini_laws.proofs.Weights.{replacement, own_kept}
use Rattle.mini_rows.specs.Declarations.{declarator}
use Rattle.mini_rows.specs.declared.inside.Way.{Way}
use Rattle.mini_rows.specs.declared.inside.Way.TheVariants as way
use Rattle.mini_rows.specs.Inside.{above, way_in, is_way_to, ListEnd, HeldEnd, HeadEnd, EndRow, Holder, Arrow, Function, Module, Static, over, stands_at, Ends, InsideOf, InsideAt, unused_ends, InsideLighter, InsideLightens}
use Rattle.mini_rows.specs.Lists.{block, declaration}
use Rattle.mini_rows.specs.Unused.{resolved, declared_one, declared_among, declared_left, put_first, BlockRow}
use Rattle.mini_rows.specs.Switches.{Liberties}
use Rattle.mini_rows.proofs.InsideEnds.{is_simple, held_row}
use Rattle.mini_rows.proofs.InsideLoses.{no_way, ways_same}
use Rattle.mini_rows.proofs.InsideMeaning.{last_step, by_stage}
use Rattle.mini_rows.proofs.InsideStages.{Stage, Braces, Then, Else, While, Doing, For, ForIn, ForOf, Labeled, Case, Heading, to, head, before, view}
use Rattle.mini_rows.proofs.InsideStages.{over as over_node}
use Rattle.mini_rows.proofs.ListWeights.{total, list_is, body_is, in_list}
use Rattle.mini_rows.proofs.NextEnds.{next_lighter, heading_next}
use Rattle.mini_rows.proofs.UnusedStretches.{Stretch, stretch, row_stretch}
use Rattle.mini_rows.proofs.UnusedWeights.{same_choice, same_chooses, block_lighter, head_falls}

-- ---- the outline of the list

same_length : (before after : Trees) (d w : Tree) → length (outlines (append before (d ▸ after))) ≡ length (outlines (append before (w ▸ after)))
same_length none after d w = refl
same_length (t ▸ before) after d w = ap suc (same_length before after d w)

pub one_outline : (before after : Trees) (d w : Tree) → (outline d).chooses ≡ (outline w).chooses → outline (listed (append before (d ▸ after))) ≡ outline (listed (append before (w ▸ after)))
one_outline before after d w e = λ i. record plain_outline { items = same_length before after d w i; chooses = same_choice before after d w e i }

-- of two statements neither is the only one
neither : (before after : Trees) (d e v w : Tree) → one_chooses (outlines (append before (d ▸ (e ▸ after)))) ≡ one_chooses (outlines (append before (v ▸ (w ▸ after))))
neither none after d e v w = refl
neither (t ▸ none) after d e v w = refl
neither (t ▸ (u ▸ before)) after d e v w = refl

two_lengths : (before after : Trees) (d e v w : Tree) → length (outlines (append before (d ▸ (e ▸ after)))) ≡ length (outlines (append before (v ▸ (w ▸ after))))
two_lengths none after d e v w = refl
two_lengths (t ▸ before) after d e v w = ap suc (two_lengths before after d e v w)

pub two_outlines : (before after : Trees) (d e v w : Tree) → outline (listed (append before (d ▸ (e ▸ after)))) ≡ outline (listed (append before (v ▸ (w ▸ after))))
two_outlines before after d e v w = λ i. record plain_outline { items = two_lengths before after d e v w i; chooses = neither before after d e v w i }

-- behind a first child that neither has
abbrev behind : Trees → Trees
behind none = none
behind (t ▸ ts) = ts

stretched_outline : (W : VariableSet) (p : Tree) (a b : Trees) (t : Stretch W p a b) → outline (listed (append t.before (append t.d t.after))) ≡ outline (listed (append t.before (append t.w t.after))) → outline (listed a) ≡ outline (listed b)
stretched_outline W p a b t e = ap (λ ts. outline (listed ts)) t.read_is ∙ e ∙ sym (ap (λ ts. outline (listed ts)) t.written_is)

row_outline : (W : Liberties) (p : Trees) (a b : Trees) → (r : BlockRow W (block (listed p ▸ a)) (block (listed p ▸ b))) → let t = row_stretch W (listed p) a b refl r in outline (listed (append t.before (append t.d t.after))) ≡ outline (listed (append t.before (append t.w t.after)))
unfolding row_stretch stretch
row_outline W p a b (inl r) = let t = row_stretch W (listed p) a b refl (inl r) in one_outline t.before r.after (declared_one r.kind (resolved r.spelling r.symbol) r.init) (expression_statement r.init) refl
row_outline W p a b (inr (inl r)) =
    let t = row_stretch W (listed p) a b refl (inr (inl r)) in
    one_outline t.before r.after (declared_among r.kind (resolved r.spelling r.symbol) r.first r.init r.last) (declared_left r.kind (append r.first r.last)) (same_chooses r.kind (resolved r.spelling r.symbol) r.first r.last r.init)
row_outline W p a b (inr (inr (inl r))) =
    let t = row_stretch W (listed p) a b refl (inr (inr (inl r))) in
    two_outlines t.before r.after (declared_among r.kind (resolved r.spelling r.symbol) r.first r.init none) r.head (declared_left r.kind r.first) (put_first (resolved r.spelling r.symbol) r.init r.head)
row_outline W p a b (inr (inr (inr r))) =
    let t = row_stretch W (listed p) a b refl (inr (inr (inr r))) in
    let x = resolved r.spelling r.symbol in
    one_outline t.before r.after (declared_among r.kind x r.first r.init (declarator r.binds r.value ▸ r.last)) (declaration r.kind (append r.first (declarator r.binds (put_first x r.init r.value) ▸ r.last))) refl

-- ---- where it stands

abbrev pub Placed : Way → Position → Type 0
Placed way.Statements p = p ≡ StatementList
Placed way.Held p = (q : StmtSeat) × (p ≡ Stmt q)
Placed w p = Unit {0}

placed : (g : Stage) (p : Position) (m : ℕ) → Placed (to g) (child_position (head g) p m (count (before g)))
placed Braces p m = refl
placed (Case a) p m = refl
placed (Then a) p m = (_, refl)
placed (Else a b) p m = (_, refl)
placed (While a) p m = (_, refl)
placed Doing p m = (_, refl)
placed (For a b c) p m = (_, refl)
placed (ForIn a b) p m = (_, refl)
placed (ForOf a b) p m = (_, refl)
placed (Labeled a) p m = (_, refl)
placed g p m = tt

pub step_placed : (w : Way) (h : Shape) (pre : Trees) (r : Way) (p : Position) (m : ℕ) → way_in w h (count pre) ≡ Some r → Placed r (child_position h p m (count pre))
step_placed w h pre r p m e =
    let v = view w h pre r e in
    subst (λ pre. Placed r (child_position h p m (count pre))) v.before_is (subst (λ h. Placed r (child_position h p m (count (before v.stage)))) v.head_is (subst (λ r. Placed r (child_position (head v.stage) p m (count (before v.stage)))) v.to_is (placed v.stage p m)))

module _ (z : Way) where
  placed_by : (w : Way) (h : Shape) (pre : Trees) (k : Path) (p : Position) (m : ℕ) (P : Position → Type 0) (r : Option Way) → way_in w h (count pre) ≡ r → ((r : Way) → is_way_to z (Some r) k ≡ true → Placed r (child_position h p m (count pre)) → P (child_position h p m (count pre))) → is_way_to z r k ≡ true → P (child_position h p m (count pre))
  placed_by w h pre k p m P None y rest e = absurd (no_way z k e)
  placed_by w h pre k p m P (Some r) y rest e = rest r e (step_placed w h pre r p m y)

  end_placed : (w : Way) (k : Path) (p : Position) → is_way_to z (Some w) k ≡ true → Placed w p → Placed z (position_at k p)
  end_placed w here p e f = subst (λ y. Placed y p) (sym (ways_same z w e)) f
  end_placed w (inside h [] zero pre k post) p e f =
      placed_by w h pre k p (count_joined pre post) (λ y. Placed z (position_at k y)) (way_in w h (count pre)) refl (λ r g b. end_placed r k (child_position h p (count_joined pre post) (count pre)) g b) e
  end_placed w (inside h [] (suc n) pre k post) p e f = absurd (true≢false (sym e))
  end_placed w (inside h (y ∷ ys) n pre k post) p e f = absurd (true≢false (sym e))

-- ---- what it loses

abbrev at_item : Position
at_item = Stmt stmt_seat.List

-- a statement that is neither a loop nor labelled weighs the same wherever it stands
simple_weight : (q : StmtSeat) (t : Tree) → is_simple t ≡ true → weight (Stmt q) t ≡ weight at_item t
simple_weight q (node shape.ExpressionStatement xs n ts) e = refl
simple_weight q (node shape.EmptyStatement xs n ts) e = refl
simple_weight q (node (shape.VariableDeclaration Var) xs n ts) e = refl
simple_weight q (node h xs n ts) e = absurd (true≢false (sym e))

simple_outline : (t : Tree) → is_simple t ≡ true → outline t ≡ plain_outline
simple_outline (node shape.ExpressionStatement xs n ts) e = refl
simple_outline (node shape.EmptyStatement xs n ts) e = refl
simple_outline (node (shape.VariableDeclaration Var) xs n ts) e = refl
simple_outline (node h xs n ts) e = absurd (true≢false (sym e))

rows_fall : (W : Liberties) (o list left : Trees) → BlockRow W (block (listed o ▸ list)) (block (listed o ▸ left)) → total left + 1 ≤ total list
rows_fall W o list left r =
    let less = block_lighter stmt_seat.List (block (listed o ▸ list)) (block (listed o ▸ left)) r in
    omega (arith, less, list_is (listed o ▸ list), list_is (listed o ▸ left))

-- a list that weighs less does so in what stands around it
pub lists_fall : (ts us : Trees) → outline (listed ts) ≡ outline (listed us) → total us + 1 ≤ total ts → (a b : Tree) → a ≡ listed ts → b ≡ listed us → (k : Path) → is_way_to way.Statements (Some way.Statement) k ≡ true → weight at_item (plug k b) + 1 ≤ weight at_item (plug k a)
lists_fall ts us same less a b f g k e =
    let whole = replacement k a b at_item in
    let above = own_kept k a b at_item (ap outline f ∙ same ∙ sym (ap outline g)) in
    let there = end_placed way.Statements way.Statement k at_item e tt in
    let old : weight (position_at k at_item) a ≡ weight StatementList (listed ts) = λ i. weight (there i) (f i) in
    let new : weight (position_at k at_item) b ≡ weight StatementList (listed us) = λ i. weight (there i) (g i) in
    omega (arith, whole, above, old, new, less, list_is ts, list_is us)

list_falls : (W : Liberties) (o : Trees) (a b : Tree) → ListEnd W o a b → (k : Path) → is_way_to way.Statements (Some way.Statement) k ≡ true → weight at_item (plug k b) + 1 ≤ weight at_item (plug k a)
list_falls W o a b r =
    lists_fall r.list r.left (stretched_outline W.writable (listed o) r.list r.left (row_stretch W (listed o) r.list r.left refl r.row) (row_outline W o r.list r.left r.row)) (rows_fall W o r.list r.left r.row) a b r.shape r.written

-- so does a statement in no list
pub one_falls : (a b : Tree) → is_simple a ≡ true → is_simple b ≡ true → total (b ▸ none) + 1 ≤ total (a ▸ none) → (k : Path) → is_way_to way.Held (Some way.Statement) k ≡ true → weight at_item (plug k b) + 1 ≤ weight at_item (plug k a)
one_falls a b simple simple_left less k e =
    let whole = replacement k a b at_item in
    let above = own_kept k a b at_item (simple_outline a simple ∙ sym (simple_outline b simple_left)) in
    let (q, there) = end_placed way.Held way.Statement k at_item e tt in
    let old = ap (λ p. weight p a) there ∙ simple_weight q a simple in
    let new = ap (λ p. weight p b) there ∙ simple_weight q b simple_left in
    omega (arith, whole, above, old, new, less)

held_falls : (W : Liberties) (o : Trees) (a b : Tree) → HeldEnd W o a b → (k : Path) → is_way_to way.Held (Some way.Statement) k ≡ true → weight at_item (plug k b) + 1 ≤ weight at_item (plug k a)
held_falls W o a b r = let h = (held_row W (listed o) a b refl r.row r.var).0 in one_falls a b h.simple h.simple_left (rows_fall W o (a ▸ none) (b ▸ none) r.row)

-- and what a `for` begins with
abbrev LighterHead : Tree → Tree → Type 0
LighterHead a b = (post : Trees) (p : Position) → weight p (node shape.ForStatement [] 0 (b ▸ post)) < weight p (node shape.ForStatement [] 0 (a ▸ post))

at_heading : (a b : Tree) → LighterHead a b → (g : Stage) → to g ≡ way.Head → (post : Trees) (p : Position) → (weight p (over_node g b post) < weight p (over_node g a post)) × (outline (over_node g a post) ≡ outline (over_node g b post))
at_heading a b less Heading e post p = (less post p, refl)
at_heading a b less g e post p = absurd (cc e)

pub heading_falls : (a b : Tree) → LighterHead a b → (k : Path) → is_way_to way.Head (Some way.Statement) k ≡ true → weight at_item (plug k b) + 1 ≤ weight at_item (plug k a)
heading_falls a b lighter k e =
    let c = last_step way.Statement way.Head k refl e in
    let n = node c.kind [] 0 (join c.pre a c.post) in
    let w = node c.kind [] 0 (join c.pre b c.post) in
    let (less, same) = by_stage (λ h pre. (weight (position_at c.place at_item) (node h [] 0 (join pre b c.post)) < weight (position_at c.place at_item) (node h [] 0 (join pre a c.post))) × (outline (node h [] 0 (join pre a c.post)) ≡ outline (node h [] 0 (join pre b c.post)))) c.end c.kind c.pre way.Head c.goes (λ g h. at_heading a b lighter g h c.post (position_at c.place at_item)) in
    let whole = replacement c.place n w at_item in
    let above = own_kept c.place n w at_item same in
    omega (arith, less, whole, above, ap (weight at_item) (c.plugs a), ap (weight at_item) (c.plugs b))

head_lighter : (W : Liberties) (o : Trees) (a b : Tree) → HeadEnd W o a b → LighterHead a b
head_lighter W o a b r post p =
    let less = head_falls p Var (resolved r.spelling r.symbol) r.first r.last r.init post in
    omega (arith, less, ap (λ t. weight p (node shape.ForStatement [] 0 (t ▸ post))) r.shape, ap (λ t. weight p (node shape.ForStatement [] 0 (t ▸ post))) r.written)

end_falls : (W : Liberties) (z : Way) (o : Trees) (a b : Tree) → EndRow z W o a b → (k : Path) → is_way_to z (Some way.Statement) k ≡ true → weight at_item (plug k b) + 1 ≤ weight at_item (plug k a)
end_falls W way.Statements o a b r = list_falls W o a b r
end_falls W way.Held o a b r = held_falls W o a b r
end_falls W way.Head o a b (inl r) = heading_falls a b (head_lighter W o a b r)
end_falls W way.Head o a b (inr r) = heading_falls a b (next_lighter r.row.spelling r.row.symbol a b (heading_next W o a b r))
end_falls W z o a b r = absurd r

-- ---- the body

-- what is read at the end of a way weighs less as a statement that it stands in
abbrev pub Falls : Ends → Type 0
Falls E = (z : Way) (o : Trees) (a b : Tree) → E o z a b → (k : Path) → is_way_to z (Some way.Statement) k ≡ true → weight at_item (plug k b) + 1 ≤ weight at_item (plug k a)

held_lighter : (o : Holder) (p : Position) (a b : Trees) → stands_at o p ≡ true → total b + 1 ≤ total a → weight p (over o (listed b)) < weight p (over o (listed a))
held_lighter (Arrow ds n ps) (Expr s) a b e f = omega (arith, f, body_is a, body_is b)
held_lighter (Arrow ds n ps) p a b e f = absurd (cc e)
held_lighter (Function d g ds n name ps) p a b e f = omega (arith, f, body_is a, body_is b)
held_lighter (Module ds) Elsewhere a b e f = omega (arith, f, list_is a, list_is b)
held_lighter (Module ds) p a b e f = absurd (cc e)
held_lighter (Static n) Elsewhere a b e f = omega (arith, f, list_is a, list_is b)
held_lighter (Static n) p a b e f = absurd (cc e)

held_outline : (o : Holder) (a b : Trees) → outline (over o (listed a)) ≡ outline (over o (listed b))
held_outline (Arrow ds n ps) a b = refl
held_outline (Function d g ds n name ps) a b = refl
held_outline (Module ds) a b = refl
held_outline (Static n) a b = refl

module _ (E : Ends) (falls : Falls E) where
  module _ (n w : Tree) (r : InsideOf E n w) where
    abbrev earlier : Trees
    earlier = append r.first (plug r.place r.read ▸ r.last)

    abbrev later : Trees
    later = append r.first (plug r.place r.put ▸ r.last)

    statement_falls : total (plug r.place r.put ▸ none) + 1 ≤ total (plug r.place r.read ▸ none)
    statement_falls =
        let less = falls r.end (over r.holder absent ▸ (listed (append r.first (absent ▸ r.last)) ▸ above r.place)) r.read r.put r.row r.place r.there in
        omega (arith, less)

    body_falls : total later + 1 ≤ total earlier
    body_falls = let less = in_list r.first (plug r.place r.read ▸ none) (plug r.place r.put ▸ none) r.last 1 statement_falls in omega (arith, less, list_is earlier, list_is later)

    same_holder : outline n ≡ outline w
    same_holder = ap outline r.shape ∙ held_outline r.holder earlier later ∙ sym (ap outline r.written)

  pub held_lightens : (p : Position) (n w : Tree) (r : InsideOf E n w) → stands_at r.holder p ≡ true → weight p w < weight p n
  held_lightens p n w r s =
      let less = held_lighter r.holder p (earlier n w r) (later n w r) s (body_falls n w r) in
      omega (arith, less, ap (weight p) r.shape, ap (weight p) r.written)

  pub holders_lighten : Lightens (InsideAt E)
  holders_lighten = record {
    lighter = λ p n w c. c.lighter;
    absent = λ p n w c e. ap (λ o. o.absent) (same_holder n w c.row);
    items = λ p n w c e. ap (λ o. o.items) (same_holder n w c.row);
    is_zero = λ p n w c e. inl (ap (λ o. o.is_zero) (same_holder n w c.row));
    chooses = λ p n w c e. inl (λ h. sym (ap (λ o. o.chooses) (same_holder n w c.row)) ∙ h);
  }

pub inside_lighter : InsideLighter
inside_lighter W = held_lightens (unused_ends W) (end_falls W)

pub inside_lightens : InsideLightens
inside_lightens W = holders_lighten (unused_ends W) (end_falls W)

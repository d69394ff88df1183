-- 74: an `if` that ends in a jump, and the next one that has its branch. 77: what never runs.
use Rattle.std.proofs.Common.{◌≡◌, ℕ, zero, suc, ◌+◌, ◌<◌, ◌≤◌, Bool, true, false, refl, sym, ap, ◌∙◌, subst, inl, inr, true≢false, arith}
use Rattle.std.specs.Prelude.{◌⊎◌, not, ◌&&◌, ◌||◌, if◌then◌else◌, [], Result, Ok, Err, IfOk}
use Rattle.std.proofs.lemmas.Bool.{and_parts, false≢true}
use Rattle.mini_model.specs.declared.place.Position.{Position}
use Rattle.mini_model.specs.declared.place.Position.TheVariants.{StatementList}
use Rattle.mini_model.specs.declared.shape.Shape.TheVariants as shape
use Rattle.mini_model.specs.Tree.{Tree, Trees, node, none, ◌▸◌, count, shape_of, child_or_absent, absent, listed, children, if_else, if_alone}
use Rattle.mini_model.specs.Paths.{append}
use Rattle.mini_node.specs.Children.{part, is_bare, rest_children}
use Rattle.mini_node.specs.Equal.{same_tree}
use Rattle.mini_node.specs.Lends.{with_children}
use Rattle.mini_node.specs.Kinds.{is_listed, is_absent_part, is_expression_statement, is_if_alone, is_if_statement, is_return_statement, is_throw_statement}
use Rattle.mini_node.specs.Made.{listed_is, absent_is, expression_statement_is, if_alone_is, if_statement_is, return_statement_is, throw_statement_is}
use Rattle.mini_terms.specs.Parts.{leaves_nothing}
use Rattle.mini_node.specs.Walks.{from_first, next_child, no_rest, append_one}
use Rattle.mini_node.proofs.Equality.{tree_same, tree_itself}
use Rattle.mini_model.specs.declared.memory.OutOfMemory.{OutOfMemory}
use Rattle.mini_rows.specs.Switches.{Switches}
use Rattle.mini_rows.specs.Nesting.{may_join}
use Rattle.mini_rows.specs.Lists.{is_terminated, Row74, StretchRow, GuardsRow, NeighbourRow, InList, EntersRow, Saying, AsStatement, AsReturn, AsThrow, says, Row77, Leap, Breaks, Continues, leap, Row77Leap, Row77Unreached}
use Rattle.mini_stmt.specs.MinimizeStatements as list
use Rattle.mini_stmt.specs.MinimizeStatements.{Changes, StretchRests, JoinsStatements}
use Rattle.mini_stmt.specs.JoinGuards.{are_guards, both_guards, is_leap_shape, leaps, is_idle, may_go, ends_before, meets, met, meet_first, are_apart, is_apart, last_after, meets_last, Changed, PutJoined, Joined, Settled, Rests, JoinsGuards, JoinsOthers}
use Rattle.mini_stmt.specs.DropUnreached.{is_reached, Dropped}
use Rattle.mini_stmt.specs.JoinAssignments as assignments
use Rattle.mini_stmt.proofs.Parts.{not_true}
use Rattle.mini_stmt.proofs.Stepping.{neighbours_in, steps_on, changes_on}
use Rattle.mini_stmt.proofs.Unreached.{unreached_goes}

-- ---- two statements

-- a statement of an expression
record Says (u : Tree) : Type 0 where
  saying : Saying
  is : u ≡ says saying (part u 0)

-- two that meet
record Pair (a : Trees) : Type 0 where
  first : Tree
  next : Tree
  is : a ≡ first ▸ (next ▸ none)
  meet : meets first next ≡ true

guards_row : (t u : Tree) → are_guards t u ≡ true → Row74 (t ▸ (u ▸ none)) (both_guards t u ▸ none)
guards_row t u e =
    let (first, x) = and_parts (is_if_alone t) (is_terminated (part t 1) && (is_if_statement u && (same_tree (part t 1) (part u 1) && may_join (part t 0) (part u 0)))) e in
    let (ends, y) = and_parts (is_terminated (part t 1)) (is_if_statement u && (same_tree (part t 1) (part u 1) && may_join (part t 0) (part u 0))) x in
    let (second, z) = and_parts (is_if_statement u) (same_tree (part t 1) (part u 1) && may_join (part t 0) (part u 0)) y in
    let (same, shallow) = and_parts (same_tree (part t 1) (part u 1)) (may_join (part t 0) (part u 0)) z in
    let branch = tree_same (part t 1) (part u 1) same in
    record {
      left = part t 0;
      right = part u 0;
      s = part u 1;
      u = part u 2;
      terminated = sym (ap is_terminated branch) ∙ ends;
      shallow = shallow;
      shape = λ i. (if_alone_is t first ∙ ap (if_alone (part t 0)) branch) i ▸ (if_statement_is u second i ▸ none);
      written = refl;
    }

says_for : (u : Tree) → (is_expression_statement u || (is_return_statement u || is_throw_statement u)) ≡ true → Says u
says_for u e = by (is_expression_statement u) refl (is_return_statement u) refl
  where
    by : (b : Bool) → is_expression_statement u ≡ b → (c : Bool) → is_return_statement u ≡ c → Says u
    by true f c g = record { saying = AsStatement; is = expression_statement_is u f }
    by false f true g = record { saying = AsReturn; is = return_statement_is u g }
    by false f false g = record { saying = AsThrow; is = throw_statement_is u (sym (ap (λ b. b || (is_return_statement u || is_throw_statement u)) f ∙ ap (λ b. b || is_throw_statement u) g) ∙ e) }

-- the rows that drop the second
Gone : Trees → Trees → Type 0
Gone a b = Row77 a b ⊎ Row77Leap a b

idle_row : (t u : Tree) → is_terminated t ≡ true → is_idle u ≡ true → Row77 (t ▸ (u ▸ none)) (t ▸ none)
idle_row t u ends x =
    let (kind, free) = and_parts (is_expression_statement u || (is_return_statement u || is_throw_statement u)) (leaves_nothing (part u 0)) x in
    let said = says_for u kind in
    record { first = t; saying = said.saying; e = part u 0; terminated = ends; dropped = free; shape = ap (λ v. t ▸ (v ▸ none)) said.is; written = refl }

-- which jump it is
record Leaps (u : Tree) : Type 0 where
  leaping : Leap
  is : u ≡ leap leaping

leaps_by : (u : Tree) → is_leap_shape (shape_of u) && is_bare u 1 ≡ true → is_absent_part (part u 0) ≡ true → Leaps u
leaps_by (node shape.BreakStatement [] zero (a ▸ none)) e f = record { leaping = Breaks; is = ap (λ x. node shape.BreakStatement [] 0 (x ▸ none)) (absent_is a f) }
leaps_by (node shape.ContinueStatement [] zero (a ▸ none)) e f = record { leaping = Continues; is = ap (λ x. node shape.ContinueStatement [] 0 (x ▸ none)) (absent_is a f) }
leaps_by u e f = absurd (false≢true e)

both_true : (a b : Bool) → a ≡ true → b ≡ true → a && b ≡ true
both_true true b e f = f
both_true false b e f = absurd (false≢true e)

leap_row : (t u : Tree) → is_terminated t ≡ true → leaps u ≡ true → Row77Leap (t ▸ (u ▸ none)) (t ▸ none)
leap_row t u ends x =
    let (shape, r) = and_parts (is_leap_shape (shape_of u)) (is_bare u 1 && is_absent_part (part u 0)) x in
    let (bare, gone) = and_parts (is_bare u 1) (is_absent_part (part u 0)) r in
    let l = leaps_by u (both_true (is_leap_shape (shape_of u)) (is_bare u 1) shape bare) gone in
    record { first = t; leaping = l.leaping; terminated = ends; shape = ap (λ v. t ▸ (v ▸ none)) l.is; written = refl }

gone_row : (t u : Tree) → ends_before t u ≡ true → Gone (t ▸ (u ▸ none)) (t ▸ none)
unfolding Gone
gone_row t u e = let (ends, x) = and_parts (is_terminated t) (may_go u) e in by (is_idle u) refl ends x
  where
    by : (b : Bool) → is_idle u ≡ b → is_terminated t ≡ true → b || leaps u ≡ true → Row77 (t ▸ (u ▸ none)) (t ▸ none) ⊎ Row77Leap (t ▸ (u ▸ none)) (t ▸ none)
    by true f ends x = inl (idle_row t u ends f)
    by false f ends x = inr (leap_row t u ends x)

pub meets_row : (t u : Tree) → meets t u ≡ true → Row74 (t ▸ (u ▸ none)) (met t u ▸ none) ⊎ (Row77 (t ▸ (u ▸ none)) (met t u ▸ none) ⊎ Row77Leap (t ▸ (u ▸ none)) (met t u ▸ none))
unfolding Gone
meets_row t u e = by (ends_before t u) refl
  where
    by : (b : Bool) → ends_before t u ≡ b → Row74 (t ▸ (u ▸ none)) (met t u ▸ none) ⊎ (Row77 (t ▸ (u ▸ none)) (met t u ▸ none) ⊎ Row77Leap (t ▸ (u ▸ none)) (met t u ▸ none))
    by true f = inr (subst (λ v. Gone (t ▸ (u ▸ none)) (v ▸ none)) (sym (ap (λ b. if b then t else both_guards t u) f)) (gone_row t u f))
    by false f = inl (subst (λ v. Row74 (t ▸ (u ▸ none)) (v ▸ none)) (sym (ap (λ b. if b then t else both_guards t u) f)) (guards_row t u (sym (ap (λ b. b || are_guards t u) f) ∙ e)))

always : (b : Bool) → b || true ≡ true
always true = refl
always false = refl

-- a row reads what meets
guards_meet : (left right s u : Tree) → is_terminated s ≡ true → may_join left right ≡ true → meets (if_alone left s) (if_else right s u) ≡ true
guards_meet left right s u e f =
    ap (λ b. ends_before (if_alone left s) (if_else right s u) || b) (ap (λ b. b && (same_tree s s && may_join left right)) e ∙ ap (λ b. b && may_join left right) (tree_itself s) ∙ f)
    ∙ always (ends_before (if_alone left s) (if_else right s u))

says_go : (k : Saying) (e : Tree) → leaves_nothing e ≡ true → may_go (says k e) ≡ true
says_go AsStatement e h = ap (λ b. b || leaps (says AsStatement e)) h
says_go AsReturn e h = ap (λ b. b || leaps (says AsReturn e)) h
says_go AsThrow e h = ap (λ b. b || leaps (says AsThrow e)) h

leap_goes : (l : Leap) → may_go (leap l) ≡ true
leap_goes Breaks = refl
leap_goes Continues = refl

leap_meets : (t : Tree) (l : Leap) → is_terminated t ≡ true → meets t (leap l) ≡ true
leap_meets t l f = ap (λ b. b || are_guards t (leap l)) (ap (λ b. b && may_go (leap l)) f ∙ leap_goes l)

gone_meets : (t : Tree) (k : Saying) (e : Tree) → is_terminated t ≡ true → leaves_nothing e ≡ true → meets t (says k e) ≡ true
gone_meets t k e f h = ap (λ b. b || are_guards t (says k e)) (ap (λ b. b && may_go (says k e)) f ∙ says_go k e h)

row_meets : (a b : Trees) → (r : Row74 a b ⊎ (Row77 a b ⊎ Row77Leap a b)) → Pair a
row_meets a b (inl r) = record { first = if_alone r.left r.s; next = if_else r.right r.s r.u; is = r.shape; meet = guards_meet r.left r.right r.s r.u r.terminated r.shallow }
row_meets a b (inr (inr r)) = record { first = r.first; next = leap r.leaping; is = r.shape; meet = leap_meets r.first r.leaping r.terminated }
row_meets a b (inr (inl r)) = record { first = r.first; next = says r.saying r.e; is = r.shape; meet = gone_meets r.first r.saying r.e r.terminated r.dropped }

-- ---- a list

meet_before : (t u : Tree) (after : Trees) (ts : Trees) → are_apart (append ts (t ▸ (u ▸ after))) ≡ true → meets t u ≡ false
meet_before t u after none e = not_true (meets t u) (and_parts (not (meets t u)) (are_apart (u ▸ after)) e).0
meet_before t u after (c ▸ ts) e = meet_before t u after ts (and_parts (not (meet_first (c ▸ append ts (t ▸ (u ▸ after))))) (are_apart (append ts (t ▸ (u ▸ after)))) e).1

-- a row of two neighbours, or of what never runs
split_row : (a b : Trees) → Row74 a b ⊎ (Row77 a b ⊎ (Row77Leap a b ⊎ Row77Unreached a b)) → (Row74 a b ⊎ (Row77 a b ⊎ Row77Leap a b)) ⊎ Row77Unreached a b
split_row a b (inl r) = inl (inl r)
split_row a b (inr (inl r)) = inl (inr (inl r))
split_row a b (inr (inr (inl r))) = inl (inr (inr r))
split_row a b (inr (inr (inr r))) = inr r

joined_row : (a b : Trees) → Row74 a b ⊎ (Row77 a b ⊎ Row77Leap a b) → Row74 a b ⊎ (Row77 a b ⊎ (Row77Leap a b ⊎ Row77Unreached a b))
joined_row a b (inl r) = inl r
joined_row a b (inr (inl r)) = inr (inl r)
joined_row a b (inr (inr r)) = inr (inr (inl r))

guards_rest : (o : Switches) (ts : Trees) → is_apart o ts ≡ true → (w : Tree) → InList (GuardsRow o) (listed ts) w → ⊥
guards_rest o ts e w r = by (split_row r.read r.put r.row.1)
  where
    settled : (are_apart ts && is_reached ts) ≡ true
    settled = sym (ap (λ b. not b || (are_apart ts && is_reached ts)) r.row.0) ∙ e

    by : (Row74 r.read r.put ⊎ (Row77 r.read r.put ⊎ Row77Leap r.read r.put)) ⊎ Row77Unreached r.read r.put → ⊥
    by (inl k) =
        let m = row_meets r.read r.put k in
        let is : ts ≡ append r.before (m.first ▸ (m.next ▸ r.after)) = ap children r.shape ∙ ap (λ a. append r.before (append a r.after)) m.is in
        true≢false (sym m.meet ∙ meet_before m.first m.next r.after r.before (sym (ap are_apart is) ∙ (and_parts (are_apart ts) (is_reached ts) settled).0))
    by (inr k) = true≢false (sym (and_parts (are_apart ts) (is_reached ts) settled).1 ∙ unreached_goes ts r.before r.read r.put r.after k (ap children r.shape))

pub apart_rests : (o : Switches) (ts : Trees) → is_apart o ts ≡ true → (p : Position) → Rests o p (listed ts)
apart_rests o ts e StatementList w r = guards_rest o ts e w r
apart_rests o ts e p w r = absurd r

-- a row is of the one kind or the other
either_row : (o : Switches) (n w : Tree) (r : InList (NeighbourRow o) n w) → (InList (StretchRow o) n w → ⊥) → (InList (GuardsRow o) n w → ⊥) → (InList (EntersRow o) n w → ⊥) → NeighbourRow o r.read r.put → ⊥
either_row o n w r f g h (inl m) = f (record { before = r.before; read = r.read; put = r.put; after = r.after; row = m; shape = r.shape; written = r.written })
either_row o n w r f g h (inr (inl m)) = g (record { before = r.before; read = r.read; put = r.put; after = r.after; row = m; shape = r.shape; written = r.written })
either_row o n w r f g h (inr (inr m)) = h (record { before = r.before; read = r.read; put = r.put; after = r.after; row = m; shape = r.shape; written = r.written })

pub all_rest : (o : Switches) (n : Tree) → StretchRests o StatementList n → Rests o StatementList n → assignments.Rests o StatementList n → list.Rests o StatementList n
all_rest o n f g h w r = either_row o n w r (f w) (g w) (h w) r.row

-- ---- as the list goes on

some_meets : (b : Bool) → b ≡ true → not b ≡ false
some_meets b e = ap not e

pub apart_stops : (ts : Trees) (i : ℕ) → i < count ts → meet_first (rest_children i ts) ≡ true → are_apart (rest_children i ts) ≡ are_apart ts → false ≡ are_apart ts
apart_stops ts i h e inv =
    let next = next_child ts i h in
    let met_here : meet_first (child_or_absent ts i ▸ rest_children (suc i) ts) ≡ true = sym (ap meet_first next) ∙ e in
    sym (ap (λ b. not b && are_apart (rest_children (suc i) ts)) met_here) ∙ sym (ap are_apart next) ∙ inv

pub apart_goes_on : (ts : Trees) (i : ℕ) → i < count ts → meet_first (rest_children i ts) ≡ false → are_apart (rest_children i ts) ≡ are_apart ts → are_apart (rest_children (i + 1) ts) ≡ are_apart ts
apart_goes_on ts i h e inv =
    let next = next_child ts i h in
    let other : i + 1 ≡ suc i = omega arith in
    let met_here : meet_first (child_or_absent ts i ▸ rest_children (suc i) ts) ≡ false = sym (ap meet_first next) ∙ e in
    ap (λ k. are_apart (rest_children k ts)) other ∙ sym (ap (λ b. not b && are_apart (rest_children (suc i) ts)) met_here) ∙ sym (ap are_apart next) ∙ inv

pub apart_ends : (ts : Trees) (i : ℕ) → count ts ≤ i → are_apart (rest_children i ts) ≡ are_apart ts → true ≡ are_apart ts
apart_ends ts i h inv = sym (ap are_apart (no_rest ts i h)) ∙ inv

pub apart_start : (ts : Trees) → are_apart (rest_children 0 ts) ≡ are_apart ts
apart_start ts = ap are_apart (from_first ts)

-- one of them and the next one
pub two_there : (ts : Trees) (i : ℕ) → i + 1 < count ts → meet_first (rest_children i ts) ≡ meets (child_or_absent ts i) (child_or_absent ts (i + 1))
two_there ts i h =
    let other : i + 1 ≡ suc i = omega arith in
    ap meet_first (next_child ts i (omega (arith, h)) ∙ ap (λ r. child_or_absent ts i ▸ r) (next_child ts (suc i) (omega (arith, h)))) ∙ ap (λ k. meets (child_or_absent ts i) (child_or_absent ts k)) (sym other)

pub one_there : (ts : Trees) (i : ℕ) → i < count ts → count ts ≤ i + 1 → meet_first (rest_children i ts) ≡ false
one_there ts i h k = ap meet_first (next_child ts i h ∙ ap (λ r. child_or_absent ts i ▸ r) (no_rest ts (suc i) (omega (arith, k))))

-- ---- at its end

pub last_is : (l : Tree) (ts : Trees) (i : ℕ) → count ts ≡ i + 1 → last_after l ts ≡ child_or_absent ts i
last_is l none i e = absurd (omega (arith, e))
last_is l (t ▸ none) zero e = refl
last_is l (t ▸ none) (suc i) e = absurd (omega (arith, e))
last_is l (t ▸ (u ▸ ts)) zero e = absurd (omega (arith, e))
last_is l (t ▸ (u ▸ ts)) (suc i) e = last_is t (u ▸ ts) i (omega (arith, e))

pub no_last : (ts : Trees) (u : Tree) → count ts ≡ 0 → meets_last ts u ≡ false
no_last none u e = refl
no_last (t ▸ ts) u e = absurd (omega (arith, e))

pub last_pushed : (l : Tree) (ts : Trees) (x : Tree) → last_after l (append ts (x ▸ none)) ≡ x
last_pushed l none x = refl
last_pushed l (t ▸ ts) x = last_pushed t ts x

-- what comes first, of a list with one more
abbrev first_meets : Tree → Trees → Bool
first_meets t ts = meet_first (t ▸ ts)

push_apart : (t : Tree) (ts : Trees) (x : Tree) → meets (last_after t ts) x ≡ false → are_apart (t ▸ ts) ≡ true → are_apart (t ▸ append ts (x ▸ none)) ≡ true
push_apart t none x e h = ap (λ b. not b && true) e
push_apart t (u ▸ ts) x e h =
    let (here, rest) = and_parts (not (meets t u)) (are_apart (u ▸ ts)) h in
    ap (λ b. b && are_apart (u ▸ append ts (x ▸ none))) here ∙ push_apart u ts x e rest

apart_push : (ts : Trees) (x : Tree) → meets_last ts x ≡ false → are_apart ts ≡ true → are_apart (append ts (x ▸ none)) ≡ true
apart_push none x e h = refl
apart_push (t ▸ ts) x e h = push_apart t ts x e h

pub some_last : (ts : Trees) (u : Tree) → meets_last ts u ≡ true → 0 < count ts
some_last none u e = absurd (false≢true e)
some_last (t ▸ ts) u e = omega arith

-- ---- a statement after the others

pub put_apart : (before : Trees) (t : Tree) (after : Trees) → meets_last before t ≡ false → after ≡ append before (t ▸ none) → PutJoined before t after false
put_apart before t after e f = record {
  changes = λ rest o s. ap (λ x. append x rest) f ∙ append_one before t rest;
  apart = λ c h. ap are_apart f ∙ apart_push before t e h;
}

pub put_met : (before init : Trees) (last t joined : Tree) (after : Trees) → meets_last before t ≡ true → before ≡ append init (last ▸ none) → joined ≡ met last t → after ≡ append init (joined ▸ none) → PutJoined before t after true
put_met before init last t joined after e f g h =
    let is = ap (last_after absent) f ∙ last_pushed absent init last in
    let row = meets_row last t (sym (ap (λ l. meets l t) is) ∙ e) in
    let made = h ∙ ap (λ x. append init (x ▸ none)) g in
    record {
      changes = λ rest o s.
          subst (λ x. Changes o x (append after rest) true) (sym (ap (λ x. append x (t ▸ rest)) f ∙ append_one init last (t ▸ rest)))
          (subst (λ x. Changes o (append init (last ▸ (t ▸ rest))) x true) (sym (ap (λ x. append x rest) made ∙ append_one init (met last t) rest))
          (steps_on o (append init (last ▸ (t ▸ rest))) (append init (met last t ▸ rest)) (neighbours_in o init (last ▸ (t ▸ none)) (met last t ▸ none) rest (inr (inl (s, joined_row (last ▸ (t ▸ none)) (met last t ▸ none) row))))));
      apart = λ c. absurd (true≢false c);
    }

pub both_unchanged : (a b : Bool) → a || b ≡ false → (a ≡ false) × (b ≡ false)
both_unchanged true b e = absurd (true≢false e)
both_unchanged false b e = (refl, e)

-- ---- the node

pub settled_neighbours : (t u : Trees) (a : Bool) → a ≡ true → Joined t u a → Settled t u true
settled_neighbours t u a e m = record { changes = subst (λ b. Changed t u b) e m.changes; apart = λ c. absurd (true≢false c); reached = λ c. absurd (true≢false c) }

settled_then : (t u v : Trees) (a b : Bool) → a ≡ false → Joined t u a → Dropped u v b → Settled t v b
settled_then t u v a b e m d = record {
  changes = λ o s. changes_on o t u v false b (subst (Changes o t u) e (m.changes o s)) (d.changes o s);
  apart = λ c. ap are_apart (d.same c) ∙ m.apart e;
  reached = d.reached;
}

pub settled_after : (t u v : Trees) (a : Bool) (r : Result Bool OutOfMemory) → a ≡ false → Joined t u a → IfOk r (λ b. Dropped u v b) → IfOk r (λ b. Settled t v b)
settled_after t u v a (Err x) e m d = d
settled_after t u v a (Ok b) e m d = settled_then t u v a b e m d

pub not_apart : (t : Trees) → are_apart t ≡ true → Joined t t false
not_apart t e = record { changes = λ o s. refl; apart = λ c. e }

settled_by : (o : Switches) (ts : Trees) → are_apart ts ≡ true → is_reached ts ≡ true → is_apart o ts ≡ true
settled_by o ts e f = or_true (not o.sequences)
  where
    or_true : (a : Bool) → a || (are_apart ts && is_reached ts) ≡ true
    or_true true = refl
    or_true false = both_true (are_apart ts) (is_reached ts) e f

list_settled : (o : Switches) (ts us : Trees) (b : Bool) → o.sequences ≡ true → Settled ts us b → JoinsGuards o (listed ts) (listed us) b
list_settled o ts us true s m = m.changes o s
list_settled o ts us false s m = let same = m.changes o s in (ap listed same, apart_rests o ts (settled_by o ts (sym (ap are_apart same) ∙ m.apart refl) (sym (ap is_reached same) ∙ m.reached refl)) StatementList)

pub node_settled : (o : Switches) (t : Tree) (us : Trees) (r : Result Bool OutOfMemory) → o.sequences ≡ true → is_listed t ≡ true → IfOk r (λ b. Settled (children t) us b) → IfOk r (λ b. JoinsGuards o t (with_children t us) b)
node_settled o t us (Err e) s l m = m
node_settled o t us (Ok b) s l m =
    let is = listed_is t l in
    subst (λ x. JoinsGuards o x (with_children t us) b) (sym is) (subst (λ x. JoinsGuards o (listed (children t)) x b) (sym (ap (λ x. with_children x us) is)) (list_settled o (children t) us b s m))

pub no_list : (o : Switches) (t : Tree) → is_listed t ≡ false → JoinsGuards o t t false
no_list o t l = (refl, λ w r. absurd (true≢false (sym (ap is_listed r.shape) ∙ l)))

pub no_sequences : (o : Switches) (t : Tree) → o.sequences ≡ false → JoinsGuards o t t false
no_sequences o t s = (refl, λ w r. absurd (true≢false (sym r.row.0 ∙ s)))

-- both
pub joined_first : (o : Switches) (t u : Tree) (b : Bool) → b ≡ true → JoinsStatements o t u b → JoinsOthers o t u true
joined_first o t u b e m = subst (JoinsStatements o t u) e m

joined_then : (o : Switches) (t u v : Tree) (a b : Bool) → a ≡ false → JoinsStatements o t u a → JoinsGuards o u v b → JoinsOthers o t v b
joined_then o t u v a true e m n = let k = subst (JoinsStatements o t u) e m in subst (λ x. list.Moves o x v) k.0 n
joined_then o t u v a false e m n =
    let k = subst (JoinsStatements o t u) e m in
    (n.0 ∙ k.0, (k.1, subst (Rests o StatementList) k.0 n.1))

pub joined_after : (o : Switches) (t u v : Tree) (a : Bool) (r : Result Bool OutOfMemory) → a ≡ false → JoinsStatements o t u a → IfOk r (λ b. JoinsGuards o u v b) → IfOk r (λ b. JoinsOthers o t v b)
joined_after o t u v a (Err e) f m n = n
joined_after o t u v a (Ok b) f m n = joined_then o t u v a b f m n

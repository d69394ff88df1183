-- The list of a function's body: the rows of lists act there as in any list, and those at its end besides.
use Rattle.std.proofs.Common.{◌≡◌, ℕ, zero, suc, ◌<◌, Bool, true, false, [], refl, sym, ap, ◌∙◌, subst, inl, inr, true≢false, arith}
use Rattle.std.specs.Prelude.{not, ◌&&◌, ◌||◌, Some, None, Result, Ok, Err, IfOk}
use Rattle.std.proofs.lemmas.Bool.{and_parts, false≢true}
use Rattle.mini_model.specs.declared.place.Position.{Position}
use Rattle.mini_model.specs.declared.place.Position.TheVariants.{StatementList, BodyList}
use Rattle.mini_model.specs.declared.shape.Shape.TheVariants as shape
use Rattle.mini_model.specs.Tree.{Tree, Trees, node, none, ◌▸◌, count, shape_of, child_or_absent, absent, listed, children, if_else, if_alone, negation}
use Rattle.mini_model.specs.Paths.{append}
use Rattle.mini_model.specs.Position.{child_position}
use Rattle.mini_model.specs.Weight.{weight}
use Rattle.mini_model.specs.Rewriting.{Step, here, inside, StepIn, first, later, Reaches, done, more}
use Rattle.mini_node.specs.Children.{part, without, first_children, rest_children}
use Rattle.mini_node.specs.Lends.{with_children}
use Rattle.mini_node.specs.Kinds.{is_listed, is_block, is_if_alone, is_return_statement, is_absent_part, block}
use Rattle.mini_node.specs.Made.{listed_is, block_is, if_alone_is, return_statement_is, absent_is}
use Rattle.mini_node.specs.Walks.{from_first, next_child, no_rest}
use Rattle.mini_model.specs.declared.memory.OutOfMemory.{OutOfMemory}
use Rattle.mini_tree.specs.Rule.{Moves}
use Rattle.mini_rows.specs.Switches.{Switches}
use Rattle.mini_rows.specs.Branches.{bare_continue}
use Rattle.mini_rows.specs.Nesting.{are_shallow, may_sink, may_all_sink}
use Rattle.mini_rows.specs.Lists.{return_statement, are_unscoped, is_unscoped, alternate_of, bare_return, AtEnd, EndRow, ListRow, ListContracts}
use Rattle.mini_rows.proofs.ListWeights.{lists_lighter}
use Rattle.mini_stmt.specs.JoinGuards.{last_after}
use Rattle.mini_stmt.specs.JoinJumps.{returns_nothing}
use Rattle.mini_stmt.specs.MinimizeStatements.{Rests, MinimizesList}
use Rattle.mini_stmt.specs.SpreadBlock.{body_of}
use Rattle.mini_stmt.specs.MinimizeBody.{jump_at, goes_on, is_jump, leaves, leaves_by_block, is_guard, may_nest, leaves_early, ends_bare, EarlyAt, Turned, TurnedAt, Turns, AllTurned, DropsLast, EndRests, EndsBody, MinimizesBody, QuietRests}
use Rattle.mini_stmt.proofs.Parts.{not_true}
use Rattle.mini_stmt.proofs.Guards.{last_pushed}
use Rattle.mini_stmt.proofs.Assignments.{list_no_row}

-- ---- guards

return_is : (t : Tree) → returns_nothing t ≡ true → t ≡ bare_return
return_is t e =
    let (returns, nothing) = and_parts (is_return_statement t) (is_absent_part (part t 0)) e in
    return_statement_is t returns ∙ ap return_statement (absent_is (part t 0) nothing)

continue_is : (t : Tree) → goes_on t ≡ true → t ≡ bare_continue
continue_is (node shape.ContinueStatement [] zero (a ▸ none)) e = ap (λ u. node shape.ContinueStatement [] 0 (u ▸ none)) (absent_is a e)
continue_is t e = absurd (false≢true e)

bare_is : (exit : Bool) (t : Tree) → is_jump exit t ≡ true → t ≡ jump_at exit
bare_is true t e = continue_is t e
bare_is false t e = return_is t e

jump_loose : (exit : Bool) → is_unscoped (jump_at exit) ≡ true
jump_loose true = refl
jump_loose false = refl

no_jump : (exit : Bool) (ts : Trees) → is_jump exit (block ts) ≡ false
no_jump true ts = refl
no_jump false ts = refl

no_jump_absent : (exit : Bool) → is_jump exit absent ≡ false
no_jump_absent true = refl
no_jump_absent false = refl

itself : (exit : Bool) → is_jump exit (jump_at exit) ≡ true
itself true = refl
itself false = refl

first_unscoped : (a b : Trees) → are_unscoped (append a b) ≡ true → are_unscoped a ≡ true
first_unscoped none b e = refl
first_unscoped (t ▸ a) b e = let (x, y) = and_parts (is_unscoped t) (are_unscoped (append a b)) e in ap (λ c. c && are_unscoped a) x ∙ first_unscoped a b y

pub parts_there : (ts : Trees) (i : ℕ) → i < count ts → ts ≡ append (first_children i ts) (child_or_absent ts i ▸ rest_children (suc i) ts)
parts_there none i h = absurd (omega (arith, h))
parts_there (t ▸ none) zero h = refl
parts_there (t ▸ (u ▸ ts)) zero h = refl
parts_there (t ▸ ts) (suc i) h = ap (λ us. t ▸ us) (parts_there ts i (omega (arith, h)))

pub nests : (ts : Trees) → are_unscoped ts ≡ true → may_all_sink ts ≡ true → may_nest ts ≡ true
nests ts e f = ap (λ b. b && may_all_sink ts) e ∙ f

module _ (exit : Bool) where
  with_return : (ts : Trees) → are_unscoped ts ≡ true → are_unscoped (append ts (jump_at exit ▸ none)) ≡ true
  with_return none e = ap (λ b. b && true) (jump_loose exit)
  with_return (t ▸ ts) e = let (x, y) = and_parts (is_unscoped t) (are_unscoped ts) e in ap (λ c. c && are_unscoped (append ts (jump_at exit ▸ none))) x ∙ with_return ts y

  -- what a row reads is a guard, and what follows may nest
  pub by_block : (test : Tree) (body : Trees) → are_unscoped body ≡ true → is_guard exit (if_alone test (block (append body (jump_at exit ▸ none)))) ≡ true
  by_block test body e =
      ap (λ b. b || leaves_by_block exit (if_alone test (block (append body (jump_at exit ▸ none))))) (no_jump exit (append body (jump_at exit ▸ none)))
      ∙ ap (λ b. b && are_unscoped (append body (jump_at exit ▸ none))) (ap (is_jump exit) (last_pushed absent body (jump_at exit)) ∙ itself exit)
      ∙ with_return body e

  pub early_in : (before ts : Trees) (t : Tree) → is_guard exit t ≡ true → may_nest ts ≡ true → leaves_early exit (append before (t ▸ ts)) ≡ true
  early_in none ts t e f = ap (λ b. (b && may_nest ts) || leaves_early exit ts) e ∙ ap (λ b. b || leaves_early exit ts) f
  early_in (c ▸ before) ts t e f = ap (λ b. (is_guard exit c && may_nest (append before (t ▸ ts))) || b) (early_in before ts t e f) ∙ always (is_guard exit c && may_nest (append before (t ▸ ts)))
    where
      always : (b : Bool) → b || true ≡ true
      always true = refl
      always false = refl

  pub bare_turned : (guard : Tree) (rest : Trees) → leaves exit guard ≡ true → may_nest rest ≡ true → (made : Tree) → made ≡ if_alone (negation (part guard 0)) (block rest) → Turned exit guard rest made
  bare_turned guard rest e f made g =
      let (alone, bare) = and_parts (is_if_alone guard) (is_jump exit (part guard 1)) e in
      let (loose, shallow) = and_parts (are_unscoped rest) (may_all_sink rest) f in
      inl (record { test = part guard 0; rest = rest; unscoped = loose; shallow = shallow; shape = ap (λ t. t ▸ rest) (if_alone_is guard alone ∙ ap (if_alone (part guard 0)) (bare_is exit (part guard 1) bare)); written = ap (λ t. t ▸ none) g })

  pub block_ends_bare : (guard : Tree) → leaves_by_block exit guard ≡ true → ends_bare exit (body_of (part guard 1)) ≡ true
  block_ends_bare guard e =
      let (alone, inner) = and_parts (is_if_alone guard) (is_block (part guard 1) && (ends_bare exit (body_of (part guard 1)) && are_unscoped (body_of (part guard 1)))) e in
      let (is, list) = and_parts (is_block (part guard 1)) (ends_bare exit (body_of (part guard 1)) && are_unscoped (body_of (part guard 1))) inner in
      (and_parts (ends_bare exit (body_of (part guard 1))) (are_unscoped (body_of (part guard 1))) list).0

  pub block_turned : (guard : Tree) (rest : Trees) → leaves_by_block exit guard ≡ true → may_nest rest ≡ true → (body : Trees) → DropsLast exit (body_of (part guard 1)) body → (made : Tree) → made ≡ if_else (part guard 0) (block body) (alternate_of rest) → Turned exit guard rest made
  block_turned guard rest e f body d made g =
      let (alone, inner) = and_parts (is_if_alone guard) (is_block (part guard 1) && (ends_bare exit (body_of (part guard 1)) && are_unscoped (body_of (part guard 1)))) e in
      let (is, list) = and_parts (is_block (part guard 1)) (ends_bare exit (body_of (part guard 1)) && are_unscoped (body_of (part guard 1))) inner in
      let (bare, free) = and_parts (ends_bare exit (body_of (part guard 1))) (are_unscoped (body_of (part guard 1))) list in
      let (loose, shallow) = and_parts (are_unscoped rest) (may_all_sink rest) f in
      let whole = d.is ∙ ap (λ t. append body (t ▸ none)) (bare_is exit d.last d.bare) in
      inr (record {
        test = part guard 0;
        body = body;
        rest = rest;
        loose = first_unscoped body (jump_at exit ▸ none) (sym (ap are_unscoped whole) ∙ free);
        unscoped = loose;
        shallow = shallow;
        shape = ap (λ t. t ▸ rest) (if_alone_is guard alone ∙ ap (if_alone (part guard 0)) (block_is (part guard 1) is ∙ ap block whole));
        written = ap (λ t. t ▸ none) g;
      })

  pub turned_by : (guard : Tree) (rest : Trees) (made : Tree) (r : Result Tree OutOfMemory) → Turned exit guard rest made → IfOk r (λ t. t ≡ made) → IfOk r (Turned exit guard rest)
  turned_by guard rest made (Err e) k h = h
  turned_by guard rest made (Ok t) k h = subst (Turned exit guard rest) (sym h) k

-- ---- what is done in a list may be done in a body's

module _ (o : Switches) where
  abbrev R : Position → Tree → Tree → Type 0
  R = ListContracts o

  row_there : (n w : Tree) → R StatementList n w → R BodyList n w
  row_there n w c = let row : ListRow o BodyList n w = inl c.row in record { row = row; lighter = lists_lighter o BodyList n w row }

  places_there : (π ρ : ℕ → Position) → ((i : ℕ) → π i ≡ ρ i) → {ts us : Trees} → StepIn R π ts us → StepIn R ρ ts us
  places_there π ρ e (first _ t u ts s) = first ρ t u ts (subst (λ p. Step R p t u) (e 0) s)
  places_there π ρ e (later _ t ts us s) = later ρ t ts us (places_there (λ i. π (suc i)) (λ i. ρ (suc i)) (λ i. e (suc i)) s)

  step_there : {t u : Tree} → shape_of t ≡ shape.Listed → Step R StatementList t u → Step R BodyList t u × (shape_of u ≡ shape.Listed)
  step_there l (here _ n w c) = (here BodyList n w (row_there n w c), ap shape_of c.row.written)
  step_there l (inside _ shape.Listed xs n ts us s) = (inside BodyList shape.Listed xs n ts us (places_there (child_position shape.Listed StatementList (count ts)) (child_position shape.Listed BodyList (count ts)) (λ i. refl) s), refl)
  step_there l (inside _ h xs n ts us s) = absurd (cc l)

  reaches_there : {t u : Tree} → shape_of t ≡ shape.Listed → Reaches R StatementList t u → Reaches R BodyList t u
  reaches_there l (done _ t) = done BodyList t
  reaches_there l (more _ t u v s r) = let (step, m) = step_there l s in more BodyList t u v step (reaches_there m r)

  moves_there : (t u : Tree) → shape_of t ≡ shape.Listed → Moves R StatementList t u → Moves R BodyList t u
  moves_there t u l m = let (step, k) = step_there l m.step in record { next = m.next; step = step; others = reaches_there k m.others }

  -- ---- at its end

  row_moves : (n w : Tree) → AtEnd (EndRow o bare_return) n w → Moves R BodyList n w
  row_moves n w r =
      let row : ListRow o BodyList n w = inr r in
      record { next = w; step = here BodyList n w (record { row = row; lighter = lists_lighter o BodyList n w row }); others = done BodyList w }

  last_row : (ts us : Trees) → DropsLast false ts us → AtEnd (EndRow o bare_return) (listed ts) (listed us)
  last_row ts us d = record {
    before = us;
    read = d.last ▸ none;
    put = none;
    row = inl (record { shape = ap (λ t. t ▸ none) (bare_is false d.last d.bare); written = refl });
    shape = ap listed d.is;
    written = ap listed (sym (no_more us));
  }
    where
      no_more : (ts : Trees) → append ts none ≡ ts
      no_more none = refl
      no_more (t ▸ ts) = ap (λ us. t ▸ us) (no_more ts)

  turned_row : o.sequences ≡ true → (ts us : Trees) (i : ℕ) → i < count ts → TurnedAt false ts i us → AtEnd (EndRow o bare_return) (listed ts) (listed us)
  turned_row s ts us i within d = record {
    before = first_children i ts;
    read = child_or_absent ts i ▸ rest_children (suc i) ts;
    put = d.made ▸ none;
    row = inr (s, d.row);
    shape = ap listed (parts_there ts i within);
    written = ap listed d.is;
  }

  pub turned_lighter : o.sequences ≡ true → (ts us : Trees) (i : ℕ) → i < count ts → TurnedAt false ts i us → weight BodyList (listed us) < weight BodyList (listed ts)
  turned_lighter s ts us i within d = lists_lighter o BodyList (listed ts) (listed us) (inr (turned_row s ts us i within d))

  reaches_then : {t u v : Tree} → Reaches R BodyList t u → Reaches R BodyList u v → Reaches R BodyList t v
  reaches_then (done _ t) k = k
  reaches_then (more _ t u v s r) k = more BodyList t u _ s (reaches_then r k)

  pub turns_more : (ts us vs : Trees) (b : Bool) (i : ℕ) → o.sequences ≡ true → Turns o ts us b → i < count us → TurnedAt false us i vs → Turns o ts vs true
  turns_more ts us vs true i s m within d =
      let k = row_moves (listed us) (listed vs) (turned_row s us vs i within d) in
      record { next = m.next; step = m.step; others = reaches_then m.others (more BodyList (listed us) k.next (listed vs) k.step k.others) }
  turns_more ts us vs false i s m within d = subst (λ x. Moves R BodyList (listed x) (listed vs)) m (row_moves (listed us) (listed vs) (turned_row s us vs i within d))

  -- a row reads what the tests tell

  no_end_row : (ts : Trees) → ends_bare false ts ≡ false → (o.sequences ≡ true → leaves_early false ts ≡ false) → EndRests o (listed ts)
  no_end_row ts e f w r = go r.row
    where
      early : o.sequences ≡ true → (t : Tree) (rest : Trees) → r.read ≡ t ▸ rest → is_guard false t ≡ true → may_nest rest ≡ true → ⊥
      early s t rest h g k = true≢false (sym (ap (leaves_early false) (ap children r.shape ∙ ap (append r.before) h) ∙ early_in false r.before rest t g k) ∙ f s)

      go : EndRow o bare_return r.read r.put → ⊥
      go (inl m) = true≢false (sym (ap (λ us. ends_bare false us) (ap children r.shape ∙ ap (append r.before) m.shape) ∙ ap (is_jump false) (last_pushed absent r.before bare_return)) ∙ e)
      go (inr (s, inl m)) = early s (if_alone m.test bare_return) m.rest m.shape refl (nests m.rest m.unscoped m.shallow)
      go (inr (s, inr m)) = early s (if_alone m.test (block (append m.body (bare_return ▸ none)))) m.rest m.shape (by_block false m.test m.body m.loose) (nests m.rest m.unscoped m.shallow)

  pub other_ends : (t : Tree) → is_listed t ≡ false → EndsBody o t t false
  other_ends t l = (refl, λ w r. true≢false (sym (ap is_listed r.shape) ∙ l))

  pub last_ends : (t : Tree) (us : Trees) → is_listed t ≡ true → DropsLast false (children t) us → EndsBody o t (with_children t us) true
  last_ends t us l d =
      subst (λ x. Moves R BodyList x (with_children t us)) (sym (listed_is t l))
      (subst (Moves R BodyList (listed (children t))) (sym (ap (λ x. with_children x us) (listed_is t l))) (row_moves (listed (children t)) (listed us) (last_row (children t) us d)))

  pub turned_ends : (t : Tree) (us : Trees) (b : Bool) → o.sequences ≡ true → is_listed t ≡ true → ends_bare false (children t) ≡ false → AllTurned (children t) us b → EndsBody o t (with_children t us) b
  turned_ends t us true s l e d =
      subst (λ x. Moves R BodyList x (with_children t us)) (sym (listed_is t l))
      (subst (Moves R BodyList (listed (children t))) (sym (ap (λ x. with_children x us) (listed_is t l))) (d.changes o s))
  turned_ends t us false s l e d =
      let same = d.changes o s in
      (ap (λ x. with_children x us) (listed_is t l) ∙ ap listed same ∙ sym (listed_is t l), subst (EndRests o) (sym (listed_is t l)) (no_end_row (children t) e (λ z. sym (ap (leaves_early false) same) ∙ d.rests)))

  pub all_turned_end : (t : Tree) (ts us : Trees) (r : Result Bool OutOfMemory) → o.sequences ≡ true → is_listed t ≡ true → ends_bare false (children t) ≡ false → ts ≡ children t → IfOk r (λ b. AllTurned ts us b) → IfOk r (λ b. EndsBody o t (with_children t us) b)
  all_turned_end t ts us (Err e) s l f h d = d
  all_turned_end t ts us (Ok b) s l f h d = turned_ends t us b s l f (subst (λ x. AllTurned x us b) h d)

  pub nothing_ends : (t : Tree) → is_listed t ≡ true → ends_bare false (children t) ≡ false → (o.sequences ≡ true → leaves_early false (children t) ≡ false) → EndsBody o t t false
  nothing_ends t l e f = (refl, subst (EndRests o) (sym (listed_is t l)) (no_end_row (children t) e f))

  -- ---- both

  pub other_body : (t : Tree) → is_listed t ≡ false → MinimizesBody o t t false
  other_body t l = (refl, λ w r. no r)
    where
      no : {w : Tree} → ListRow o BodyList t w → ⊥
      no (inl r) = true≢false (sym (ap is_listed r.shape) ∙ l)
      no (inr r) = true≢false (sym (ap is_listed r.shape) ∙ l)

  pub body_first : (t u : Tree) (b : Bool) → is_listed t ≡ true → b ≡ true → MinimizesList o t u b → MinimizesBody o t u true
  body_first t u b l e m = moves_there t u (ap shape_of (listed_is t l)) (subst (MinimizesList o t u) e m)

  body_then : (t u v : Tree) (a b : Bool) → a ≡ false → MinimizesList o t u a → EndsBody o u v b → MinimizesBody o t v b
  body_then t u v a true e m n = let k = subst (MinimizesList o t u) e m in subst (λ x. Moves R BodyList x v) k.0 n
  body_then t u v a false e m n = let k = subst (MinimizesList o t u) e m in (n.0 ∙ k.0, λ w r. no k n w r)
    where
      no : (u ≡ t) × Rests o StatementList t → (v ≡ u) × EndRests o u → (w : Tree) → ListRow o BodyList t w → ⊥
      no k n w (inl r) = k.1 w r
      no k n w (inr r) = n.1 w (subst (λ x. AtEnd (EndRow o bare_return) x w) (sym k.0) r)

  pub body_after : (t u v : Tree) (a : Bool) (r : Result Bool OutOfMemory) → a ≡ false → MinimizesList o t u a → IfOk r (λ b. EndsBody o u v b) → IfOk r (λ b. MinimizesBody o t v b)
  body_after t u v a (Err e) f m n = n
  body_after t u v a (Ok b) f m n = body_then t u v a b f m n

-- no row at all
pub no_row : QuietRests
no_row o t q e k StatementList f w r = list_no_row o t q e k w r
no_row o t q e k BodyList f w (inl r) = list_no_row o t q e k w r
no_row o t q e k BodyList f w (inr r) =
    let (bare, early) = and_parts (not (ends_bare false t)) (not o.sequences || not (leaves_early false t)) (f refl) in
    no_end_row o t (not_true (ends_bare false t) bare) (λ s. not_true (leaves_early false t) (sym (ap (λ b. not b || not (leaves_early false t)) s) ∙ early)) w r
no_row o t q e k p f w r = absurd r

-- ---- the last one that leaves early

module _ (exit : Bool) where
  -- from a place on nothing is scoped, and no guard leaves
  abbrev pub Passed : Trees → ℕ → Type 0
  Passed ts k = (are_unscoped (rest_children k ts) ≡ true) × (leaves_early exit (rest_children k ts) ≡ false)

  pub passed_start : (ts : Trees) (k : ℕ) → k ≡ count ts → Passed ts k
  passed_start ts k e = let ends = no_rest ts k (omega (arith, e)) in (ap are_unscoped ends, ap (leaves_early exit) ends)

  pub passed_on : (ts : Trees) (i k : ℕ) → i < count ts → k ≡ suc i → is_unscoped (child_or_absent ts i) ≡ true → is_guard exit (child_or_absent ts i) ≡ false → Passed ts k → Passed ts i
  passed_on ts i k h e u l p =
      let next = next_child ts i h in
      let there = subst (Passed ts) e p in
      (ap are_unscoped next ∙ ap (λ b. b && are_unscoped (rest_children (suc i) ts)) u ∙ there.0, ap (leaves_early exit) next ∙ ap (λ b. (b && may_nest (rest_children (suc i) ts)) || leaves_early exit (rest_children (suc i) ts)) l ∙ there.1)

  pub passed_early : (ts : Trees) (i k j : ℕ) → i < count ts → k ≡ suc i → j ≡ suc i → is_guard exit (child_or_absent ts i) ≡ true → may_all_sink (rest_children j ts) ≡ true → Passed ts k → EarlyAt exit ts (Some i)
  passed_early ts i k j h e f l d p = (h, l, nests (rest_children (suc i) ts) (subst (Passed ts) e p).0 (sym (ap (λ m. may_all_sink (rest_children m ts)) f) ∙ d))

  -- before statements of which one is scoped, or which nest too deep, none leaves
  stays : (a b c d : Bool) → b && d ≡ false → (a && b) && (c && d) ≡ false
  stays false b c d e = refl
  stays true false c d e = refl
  stays true true false d e = refl
  stays true true true d e = e

  nest_stops : (ts : Trees) (i : ℕ) → may_nest (rest_children i ts) ≡ false → leaves_early exit (rest_children i ts) ≡ false → (leaves_early exit ts ≡ false) × (may_nest ts ≡ false)
  unfolding are_shallow
  nest_stops none i u e = absurd (true≢false u)
  nest_stops (t ▸ ts) zero u e = (e, u)
  nest_stops (t ▸ ts) (suc i) u e =
      let (early, loose) = nest_stops ts i u e in
      (ap (λ b. (is_guard exit t && b) || leaves_early exit ts) loose ∙ ap (λ b. b || leaves_early exit ts) (never (is_guard exit t)) ∙ early, stays (is_unscoped t) (are_unscoped ts) (may_sink t) (may_all_sink ts) loose)
    where
      never : (b : Bool) → b && false ≡ false
      never true = refl
      never false = refl

  pub passed_deep : (ts : Trees) (i k j : ℕ) → k ≡ suc i → j ≡ suc i → may_all_sink (rest_children j ts) ≡ false → Passed ts k → EarlyAt exit ts None
  passed_deep ts i k j e f d p =
      let there = subst (Passed ts) e p in
      (nest_stops ts (suc i) (ap (λ b. b && may_all_sink (rest_children (suc i) ts)) there.0 ∙ sym (ap (λ m. may_all_sink (rest_children m ts)) f) ∙ d) there.1).0

  pub passed_stops : (ts : Trees) (i k : ℕ) → i < count ts → k ≡ suc i → is_unscoped (child_or_absent ts i) ≡ false → is_guard exit (child_or_absent ts i) ≡ false → Passed ts k → EarlyAt exit ts None
  passed_stops ts i k h e u l p =
      let next = next_child ts i h in
      let there = subst (Passed ts) e p in
      (nest_stops ts i (ap may_nest next ∙ ap (λ b. (b && are_unscoped (rest_children (suc i) ts)) && may_all_sink (child_or_absent ts i ▸ rest_children (suc i) ts)) u) (ap (leaves_early exit) next ∙ ap (λ b. (b && may_nest (rest_children (suc i) ts)) || leaves_early exit (rest_children (suc i) ts)) l ∙ there.1)).0

  pub passed_all : (ts : Trees) (k : ℕ) → k ≡ 0 → Passed ts k → EarlyAt exit ts None
  passed_all ts k e p = sym (ap (leaves_early exit) (from_first ts)) ∙ (subst (Passed ts) e p).1

  -- ---- the last statement, and the statements from a place on

  pub none_bare : (ts : Trees) → count ts ≡ 0 → ends_bare exit ts ≡ false
  none_bare none e = no_jump_absent exit
  none_bare (t ▸ ts) e = absurd (omega (arith, e))

  pub some_bare : (ts : Trees) → ends_bare exit ts ≡ true → 0 < count ts
  some_bare none e = absurd (false≢true (sym (no_jump_absent exit) ∙ e))
  some_bare (t ▸ ts) e = omega arith

  pub drops_last : (ts us : Trees) (last : Tree) → ends_bare exit ts ≡ true → ts ≡ append us (last ▸ none) → DropsLast exit ts us
  drops_last ts us last e f = record { last = last; is = f; bare = sym (ap (is_jump exit) (ap (last_after absent) f ∙ last_pushed absent us last)) ∙ e }

  pub some_rest : (ts : Trees) (i : ℕ) → i < count ts → 0 < count (rest_children i ts)
  some_rest ts i h = let next = ap count (next_child ts i h) in omega (arith, next)

  -- the guard and what follows
  pub rest_there : (ts : Trees) (i : ℕ) → i < count ts → (rest others : Trees) (guard : Tree) → rest ≡ rest_children i ts → guard ≡ child_or_absent rest 0 → others ≡ without rest 0 → (guard ≡ child_or_absent ts i) × (others ≡ rest_children (suc i) ts)
  rest_there ts i h rest others guard b c d =
      let there = b ∙ next_child ts i h in
      (c ∙ ap (λ x. child_or_absent x 0) there, d ∙ ap (λ x. without x 0) there)

  pub turned_there : (ts : Trees) (i : ℕ) → i < count ts → (init rest others : Trees) (guard made : Tree) (us : Trees) → init ≡ first_children i ts → rest ≡ rest_children i ts → guard ≡ child_or_absent rest 0 → others ≡ without rest 0 → Turned exit guard others made → us ≡ append init (made ▸ none) → TurnedAt exit ts i us
  turned_there ts i h init rest others guard made us a b c d e f =
      let (x, y) = rest_there ts i h rest others guard b c d in
      record { made = made; row = subst (λ t. Turned exit t (rest_children (suc i) ts) made) x (subst (λ s. Turned exit guard s made) y e); is = f ∙ ap (λ s. append s (made ▸ none)) a }

-- What is written where something goes that has no effect where a body has its `this` means the same there, keeps what a program has to keep, and is lighter.
use Rattle.std.proofs.Common.{◌≡◌, ◌<◌, ◌≤◌, ◌+◌, ℕ, suc, Bool, true, false, List, [], ◌∷◌, ◌++◌, refl, sym, ap, subst, subst₂, ◌∙◌, inl, inr, arith, true≢false}
use Rattle.std.specs.Prelude.{◌⊎◌, ◌&&◌, ◌||◌, Option, None, nat_le}
use Rattle.std.proofs.lemmas.Bool.{and_parts}
use Rattle.mini_model.specs.declared.kind.PropertyKind.{PropertyKind}
use Rattle.mini_model.specs.declared.name.Name.{Name}
use Rattle.mini_model.specs.declared.place.Position.{Position}
use Rattle.mini_model.specs.declared.place.Position.TheVariants.{Expr, Stmt}
use Rattle.mini_model.specs.declared.seat.Guard.{Guard}
use Rattle.mini_model.specs.declared.seat.Guard.TheVariants as guard
use Rattle.mini_model.specs.declared.seat.Seat.{Seat}
use Rattle.mini_model.specs.declared.seat.StmtSeat.{StmtSeat}
use Rattle.mini_model.specs.declared.shape.Shape.{Shape}
use Rattle.mini_model.specs.declared.shape.Shape.TheVariants as shape
use Rattle.mini_model.specs.Tree.{Tree, Trees, node, none, ◌▸◌, absent, count, shape_of, expression_statement, empty_statement}
use Rattle.mini_model.specs.Paths.{append}
use Rattle.mini_model.specs.Position.{statement_expression_seat}
use Rattle.mini_model.specs.Weight.{outline, weight}
use Rattle.mini_accept.specs.WellShaped.{an_init, an_expression, Slot, fits}
use Rattle.mini_laws.specs.Bodies.{Around, bodies, bodies_from, arrow_kind}
use Rattle.mini_laws.specs.Demand.{Want, Val, Unused, Tail, Demand, As, Callee, OfType, Deleted, AnEntry, Stat, LabelSet}
use Rattle.mini_laws.specs.Fits.{Fits}
use Rattle.mini_laws.specs.Naming.{summary}
use Rattle.mini_laws.specs.Same.{Goes, Agree, Same}
use Rattle.mini_laws.specs.State.{Completion, ok, stop, halt, out, either, State, Stop, Environment}
use Rattle.mini_laws.specs.Step.{step, means}
use Rattle.mini_laws.specs.Value.{nothing, VariableSet}
use Rattle.mini_kept.specs.AlikeBodies.{BodiesKept}
use Rattle.mini_kept.specs.Frames.{frames, frames_from, FramesKept}
use Rattle.mini_kept.specs.KeepsFrames.{is_body_slot}
use Rattle.mini_kept.specs.KeepsShapes.{AskedAlike}
use Rattle.mini_kept.specs.Without.{Assured, Steadies}
use Rattle.mini_kept.proofs.BodyLists as body_lists
use Rattle.mini_kept.proofs.BodyLists.{kept_itself}
use Rattle.mini_kept.proofs.Expressions.{expression_taken}
use Rattle.mini_kept.proofs.FrameLists as frame_lists
use Rattle.mini_kept.proofs.FrameLists.{same_frames}
use Rattle.mini_node.specs.Walks.{append_none}
use Rattle.mini_terms.specs.Effects.{ef}
use Rattle.mini_terms.specs.Parts.{leaves_nothing, suits, weighs}
use Rattle.mini_terms.specs.Reading.{is_item, is_plain_part, is_read_by_value, is_unguarded, stands, by_value}
use Rattle.mini_terms.specs.Sound.{Quiet}
use Rattle.mini_terms.proofs.EffectsTable.{effect_free_sound}
use Rattle.mini_terms.proofs.Opened.{statement_opened}
use Rattle.mini_terms.proofs.Dropping.{weak}
use Rattle.mini_terms.proofs.Reading.{read_by_value, same_by_value, same_item}
use Rattle.mini_rows.specs.Arranged.{KeptAt}
use Rattle.mini_rows.specs.Idle.{is_still, is_still_part, IdleRow, IdleStatement}
use Rattle.mini_rows.specs.Lists.{for_loop, sequence}
use Rattle.mini_rows.specs.Sequences.{takes_alone, stays_alone}
use Rattle.mini_rows.specs.Sketches.{Sequence, OfExpression, Empty, Parts, part, under, list, end, ◌▹◌, no_items, item, items}
use Rattle.mini_rows.specs.Steady.{bindings, all_bindings, AroundAt, PropertyAt}
use Rattle.mini_rows.proofs.ArrangedExpressions.{expressions_arranged_freely}
use Rattle.mini_rows.proofs.ArrangedStatements.{statements_arranged}
use Rattle.mini_rows.proofs.BranchLawful.{taken, fits_there, body_slot, plain_asked}
use Rattle.mini_rows.proofs.FoldLawful.{statement_taken, empty_taken, expression_slot, statement_slot, statement_asked}
use Rattle.mini_rows.proofs.FoldMeaning.{value_of}
use Rattle.mini_rows.proofs.FoldWeights.{two, there, no_choice}
use Rattle.mini_rows.proofs.ForPartKept.{in_nothing, gone, init_kept, update_kept, init_fits, update_fits}
use Rattle.mini_rows.proofs.ForPartMeaning.{quiet_is_nothing, init_weaker, update_weaker}
use Rattle.mini_rows.proofs.PlainRead.{plain_read}
use Rattle.mini_rows.proofs.SequenceCalls.{left_read, left_plain}
use Rattle.mini_rows.proofs.SequenceIdle.{idle_near, alone_near}
use Rattle.mini_rows.proofs.SequenceLawful.{idle_fits, last_of_two, alone_asked}
use Rattle.mini_rows.proofs.SequenceStands.{of_sequence, sequence_asked}
use Rattle.mini_rows.proofs.SequenceWeights.{idle_falls, alone_falls}
use Rattle.mini_rows.proofs.Vanishing.{vanishes, first_dropped}
use Rattle.mini_rows.proofs.Weaker.{Weaker, weaker_goes}

-- ---- what each row keeps

pub record Idles (V : Assured) (p : Position) (n w : Tree) : Type 0 where
  pub same : (e : Environment) → Steadies V e → (q : Demand) → Fits p q → Same e nothing V.initial q n w
  pub read : summary n ≡ summary w
  pub kind : arrow_kind (shape_of n) ≡ arrow_kind (shape_of w)
  pub fit : (strict : Bool) (c : Slot) → fits strict c n ≡ true → fits strict c w ≡ true
  pub slot : (strict : Bool) (c : Slot) → fits strict c n ≡ true → is_body_slot p c ≡ true
  pub asked : AskedAlike p n w
  pub kept : KeptAt p n w
  pub bound : (k : ℕ) → bindings k w ≤ bindings k n
  pub bodies : (a : Around) → AroundAt p a → BodiesKept (bodies a n) (bodies a w)
  pub frames : (k : Option PropertyKind) → PropertyAt p k → FramesKept (frames k n) (frames k w)
  pub lighter : weight p w < weight p n
  pub absent : (outline n).absent ≡ (outline w).absent
  pub is_zero : ((outline n).is_zero ≡ (outline w).is_zero) ⊎ (weight p w + 2 ≤ weight p n)
  pub chooses : (outline n).chooses ≡ (outline w).chooses

-- what is so of two trees is so of what they are
pub along : (V : Assured) (p : Position) (n w a b : Tree) → n ≡ a → w ≡ b → Idles V p a b → Idles V p n w
along V p n w a b e f k = subst (λ t. Idles V p t w) (sym e) (subst (Idles V p a) (sym f) k)

record Still (t : Tree) : Type 0 where
  free : ef false t ≡ true
  dropped : leaves_nothing t ≡ true
  heavy : weighs t ≡ true

still_is : (t : Tree) → is_still t ≡ true → Still t
still_is t h =
    let (free, rest) = and_parts (ef false t) (leaves_nothing t && weighs t) h in
    let (dropped, heavy) = and_parts (leaves_nothing t) (weighs t) rest in
    record { free = free; dropped = dropped; heavy = heavy }

-- where the body has its `this` it replies and leaves the state as it was, or leaves the model
quiet : (V : Assured) → V.has_this ≡ true → (e : Environment) → Steadies V e → (t : Tree) → Still t → (s : State) → Quiet s (means e t (As Unused) tt s)
quiet V k e z t h s = effect_free_sound t e false (λ f. z.has_this k) h.free Unused s

-- ---- statements

same_statement : (q : StmtSeat) (e : Environment) (D X : VariableSet) (n w : Tree) → ((x : Option Tail) (r : LabelSet) (s : State) → Weaker (means e n (Stat x) r s) (means e w (Stat x) r s)) → (d : Demand) → Fits (Stmt q) d → Same e D X d n w
same_statement q e D X n w h (Stat x) f = record { by = λ r s i. weaker_goes D (means e n (Stat x) r s) (means e w (Stat x) r s) (h x r s) }
same_statement q e D X n w h d f = absurd f

passed : (s : State) (x : Completion (Unit {0})) (h : Stop → State → Completion (Unit {0})) → Quiet s x → Weaker (either x (λ u z. ok tt z) h) (ok tt s)
unfolding Quiet either
passed s (ok a t) h q = inr (ap (ok tt) q)
passed s (stop x t) h q = absurd q
passed s (halt x t) h q = absurd q
passed s out h q = inl refl

empty_does : (e : Environment) (x : Option Tail) (r : LabelSet) (s : State) → means e empty_statement (Stat x) r s ≡ ok tt s
unfolding means step
empty_does e x r s = refl

module _ (V : Assured) (has : V.has_this ≡ true) (q : StmtSeat) where
  statement_idles : (a : Tree) → Still a → Idles V (Stmt q) (expression_statement a) empty_statement
  statement_idles a h = record {
    same = λ e z. same_statement q e nothing V.initial (expression_statement a) empty_statement (λ x r s.
        subst₂ Weaker (sym (statement_opened e a x r s)) (sym (empty_does e x r s)) (passed s (means e a (As Unused) tt s) _ (quiet V has e z a h s)));
    read = refl;
    kind = refl;
    fit = λ strict c f. empty_taken strict c (statement_taken strict c a f);
    slot = λ strict c f. statement_slot (Stmt q) c (statement_taken strict c a f);
    asked = statement_asked q a;
    kept = statements_arranged first_dropped (record { trees = a ▸ none; lists = [] }) (tt, tt, (vanishes a h.dropped, tt)) (under OfExpression (part 0 ▹ end)) (under Empty end) refl q (expression_statement a) empty_statement refl refl;
    bound = λ k. omega arith;
    bodies = λ a z. tt;
    frames = λ k z f c. in_nothing (frames k (expression_statement a)) f c;
    lighter = omega arith;
    absent = refl;
    is_zero = inl refl;
    chooses = refl;
  }

  abbrev inner : Around → Around
  inner a = record a { constructs = false; is_assigned = false }

  module _ (i t u b : Tree) where
    init_idles : Still i → is_plain_part i ≡ true → Idles V (Stmt q) (for_loop i t u b) (for_loop absent t u b)
    init_idles h plain = record {
      same = λ e z. same_statement q e nothing V.initial (for_loop i t u b) (for_loop absent t u b) (λ x r s.
          init_weaker e i absent t u b (quiet_is_nothing e i (quiet V has e z i h)) (plain_read i plain) x r s refl);
      read = refl;
      kind = refl;
      fit = λ strict c f. fits_there strict c (for_loop i t u b) (for_loop absent t u b) refl refl refl (init_fits strict i t u b) f;
      slot = λ strict c f. body_slot (Stmt q) c (taken strict c (for_loop i t u b) refl f);
      asked = plain_asked (Stmt q) (for_loop i t u b) (for_loop absent t u b) refl refl;
      kept = init_kept q i absent (gone an_init i plain (vanishes i h.dropped)) t u b;
      bound = λ k. omega arith;
      bodies = λ a z. let rest = bodies_from (λ j. inner a) 1 (t ▸ (u ▸ (b ▸ none))) in body_lists.second_of (bodies (inner a) i) rest rest (kept_itself rest);
      frames = λ k z. let rest = frames_from (λ j. None) 1 (t ▸ (u ▸ (b ▸ none))) in frame_lists.second_of (frames None i) rest rest (λ f c. c);
      lighter = let heavy = two statement_expression_seat i h.heavy in omega (arith, heavy);
      absent = refl;
      is_zero = inl refl;
      chooses = refl;
    }

    update_idles : Still u → is_plain_part u ≡ true → Idles V (Stmt q) (for_loop i t u b) (for_loop i t absent b)
    update_idles h plain = record {
      same = λ e z. same_statement q e nothing V.initial (for_loop i t u b) (for_loop i t absent b) (λ x r s.
          update_weaker e i t u absent b (quiet_is_nothing e u (quiet V has e z u h)) x r s);
      read = refl;
      kind = refl;
      fit = λ strict c f. fits_there strict c (for_loop i t u b) (for_loop i t absent b) refl refl refl (update_fits strict i t u absent b refl) f;
      slot = λ strict c f. body_slot (Stmt q) c (taken strict c (for_loop i t u b) refl f);
      asked = plain_asked (Stmt q) (for_loop i t u b) (for_loop i t absent b) refl refl;
      kept = update_kept q u absent (gone an_expression u plain (vanishes u h.dropped)) i t b;
      bound = λ k. omega arith;
      bodies = λ a z.
          let bi = bodies (inner a) i in
          let bt = bodies (inner a) t in
          let bu = bodies (inner a) u in
          let rest = bodies_from (λ j. inner a) 3 (b ▸ none) in
          body_lists.each_of bi (bt ++ (bu ++ rest)) bi (bt ++ rest) (kept_itself bi)
          (body_lists.each_of bt (bu ++ rest) bt rest (kept_itself bt) (body_lists.second_of bu rest rest (kept_itself rest)));
      frames = λ k z.
          let fi = frames None i in
          let ft = frames None t in
          let fu = frames None u in
          let rest = frames_from (λ j. None) 3 (b ▸ none) in
          frame_lists.each_of fi (ft ++ (fu ++ rest)) fi (ft ++ rest) (λ f c. c)
          (frame_lists.each_of ft (fu ++ rest) ft rest (λ f c. c) (frame_lists.second_of fu rest rest (λ f c. c)));
      lighter = let heavy = two statement_expression_seat u h.heavy in omega (arith, heavy);
      absent = refl;
      is_zero = inl refl;
      chooses = refl;
    }

part_still : (t : Tree) → is_still_part t ≡ true → Still t × (is_plain_part t ≡ true)
part_still t h = let (still, plain) = and_parts (is_still t) (is_plain_part t) h in (still_is t still, plain)

pub statements_idle : (V : Assured) (q : StmtSeat) (n w : Tree) → IdleStatement V n w → Idles V (Stmt q) n w
statements_idle V q n w (inl r) = along V (Stmt q) n w _ _ r.shape r.written (statement_idles V r.kept q r.expression (still_is r.expression r.still))
statements_idle V q n w (inr (inl r)) = let (still, plain) = part_still r.init r.still in along V (Stmt q) n w _ _ r.shape r.written (init_idles V r.kept q r.init r.test r.update r.body still plain)
statements_idle V q n w (inr (inr r)) = let (still, plain) = part_still r.update r.still in along V (Stmt q) n w _ _ r.shape r.written (update_idles V r.kept q r.init r.test r.update r.body still plain)

-- ---- sequences

-- the parts of a list have the same wherever they stand in it

bodies_moved : (c : Around) (ts : Trees) (i j : ℕ) → bodies_from (λ k. c) i ts ≡ bodies_from (λ k. c) j ts
bodies_moved c none i j = refl
bodies_moved c (t ▸ ts) i j = ap (λ bs. bodies c t ++ bs) (bodies_moved c ts (suc i) (suc j))

bodies_fewer : (c : Around) (before : Trees) (a : Tree) (ts : Trees) (i j : ℕ) → BodiesKept (bodies_from (λ k. c) i (append before (a ▸ ts))) (bodies_from (λ k. c) j (append before ts))
bodies_fewer c none a ts i j =
    subst (BodiesKept (bodies c a ++ bodies_from (λ k. c) (suc i) ts)) (bodies_moved c ts (suc i) j)
    (body_lists.second_of (bodies c a) (bodies_from (λ k. c) (suc i) ts) (bodies_from (λ k. c) (suc i) ts) (kept_itself (bodies_from (λ k. c) (suc i) ts)))
bodies_fewer c (p ▸ ps) a ts i j =
    body_lists.each_of (bodies c p) (bodies_from (λ k. c) (suc i) (append ps (a ▸ ts))) (bodies c p) (bodies_from (λ k. c) (suc j) (append ps ts)) (kept_itself (bodies c p)) (bodies_fewer c ps a ts (suc i) (suc j))

frames_moved : (ts : Trees) (i j : ℕ) → frames_from (λ k. None) i ts ≡ frames_from (λ k. None) j ts
frames_moved none i j = refl
frames_moved (t ▸ ts) i j = ap (λ fs. frames None t ++ fs) (frames_moved ts (suc i) (suc j))

frames_fewer : (before : Trees) (a : Tree) (ts : Trees) (i j : ℕ) → FramesKept (frames_from (λ k. None) i (append before (a ▸ ts))) (frames_from (λ k. None) j (append before ts))
frames_fewer none a ts i j = frame_lists.second_of (frames None a) (frames_from (λ k. None) (suc i) ts) (frames_from (λ k. None) j ts) (same_frames (frames_from (λ k. None) (suc i) ts) (frames_from (λ k. None) j ts) (frames_moved ts (suc i) j))
frames_fewer (p ▸ ps) a ts i j =
    frame_lists.each_of (frames None p) (frames_from (λ k. None) (suc i) (append ps (a ▸ ts))) (frames None p) (frames_from (λ k. None) (suc j) (append ps ts)) (λ f c. c) (frames_fewer ps a ts (suc i) (suc j))

bound_fewer : (k : ℕ) (before : Trees) (a : Tree) (ts : Trees) → all_bindings k (append before ts) ≤ all_bindings k (append before (a ▸ ts))
bound_fewer k none a ts = omega arith
bound_fewer k (p ▸ ps) a ts = let rest = bound_fewer k ps a ts in omega (arith, rest)

-- what a plain part has by itself it has there, too, unless what stands around it makes a function a constructor

abbrev own : Around → Around
own a = record a { constructs = false; is_assigned = false }

bodies_alike : (a : Around) (h : Shape) (xs : List Name) (n : ℕ) (ts : Trees) → is_plain_part (node h xs n ts) ≡ true → a.constructs ≡ false → bodies (own a) (node h xs n ts) ≡ bodies a (node h xs n ts)
bodies_alike a (shape.Function d g ds) xs n ts p c = ap (λ b. bodies (record a { constructs = b; is_assigned = false }) (node (shape.Function d g ds) xs n ts)) (sym c)
bodies_alike a (shape.Program m ds) xs n ts p c = absurd (true≢false (sym p))
bodies_alike a (shape.MethodDefinition k b s) xs n ts p c = absurd (true≢false (sym p))
bodies_alike a (shape.PropertyDefinition b s) xs n ts p c = absurd (true≢false (sym p))
bodies_alike a (shape.AssignmentTargetPropertyProperty b) xs n ts p c = absurd (true≢false (sym p))
bodies_alike a shape.Listed xs n ts p c = absurd (true≢false (sym p))
bodies_alike a shape.RestElement xs n ts p c = absurd (true≢false (sym p))
bodies_alike a shape.AssignmentPattern xs n ts p c = absurd (true≢false (sym p))
bodies_alike a shape.InnerExpression xs n ts p c = absurd (true≢false (sym p))
bodies_alike a h xs n ts p c = refl

own_alike : (a : Around) (t : Tree) → is_plain_part t ≡ true → a.constructs ≡ false → bodies (own a) t ≡ bodies a t
own_alike a (node h xs n ts) p c = bodies_alike a h xs n ts p c

kinds_alike : (h : Shape) (xs : List Name) (n : ℕ) (ts : Trees) → is_plain_part (node h xs n ts) ≡ true → arrow_kind shape.SequenceExpression ≡ arrow_kind h
kinds_alike shape.FunctionBody xs n ts p = absurd (true≢false (sym p))
kinds_alike h xs n ts p = refl

kind_alike : (t : Tree) → is_plain_part t ≡ true → arrow_kind shape.SequenceExpression ≡ arrow_kind (shape_of t)
kind_alike (node h xs n ts) p = kinds_alike h xs n ts p

-- what is the same as a value, a truth or nothing in an environment is so whatever is asked in the seat

guarded : (g h : Guard) → is_unguarded g ≡ true → g ≡ h → is_unguarded h ≡ false → ⊥
guarded g h u e f = true≢false (sym u ∙ ap is_unguarded e ∙ f)

or_false : (b : Bool) → b || false ≡ true → b ≡ true
or_false true e = refl
or_false false e = e

module _ (s : Seat) (n t : Tree) (p : stands n ≡ true) (i : is_item n ≡ true) (e : Environment) (D X : VariableSet) (h : (u : Want) → Same e D X (As u) n t) where
  item_by : is_unguarded s.guard ≡ true → is_item t ≡ true → (q : Demand) → Fits (Expr s) q → Same e D X q n t
  unfolding by_value
  item_by g x (As u) f = h u
  item_by g x AnEntry f = same_item e D X n t i x (h Val)
  item_by g x Callee f = absurd (guarded s.guard guard.Callee g f.2 refl)
  item_by g x OfType f = absurd (guarded s.guard guard.Typeof g f.2 refl)
  item_by g x Deleted f = absurd (guarded s.guard guard.Delete g f.2 refl)
  item_by g x q f = record { by = λ r z j. subst (λ y. Goes true (λ a. Agree D) (Agree D) (Agree D) y (means e t q r z)) (sym (read_by_value n p e q r z)) (weak D (means e t q r z)) }

  value_by : is_read_by_value s t ≡ true → (q : Demand) → Fits (Expr s) q → Same e D X q n t
  value_by c q f = go (stands t) refl c
    where
      go : (b : Bool) → stands t ≡ b → is_unguarded s.guard && is_item t || b ≡ true → Same e D X q n t
      go true k c = same_by_value e D X n t p k (h Val) q
      go false k c = let (g, x) = and_parts (is_unguarded s.guard) (is_item t) (or_false (is_unguarded s.guard && is_item t) c) in item_by g x q f

  left_by : stays_alone s t ≡ true → (q : Demand) → Fits (Expr s) q → Same e D X q n t
  left_by c = go (suits s t) refl
    where
      go : (b : Bool) → suits s t ≡ b → (q : Demand) → Fits (Expr s) q → Same e D X q n t
      go true k = value_by (value_of s t k)
      go false k = left_read s t c k n p i e D X h

module _ (V : Assured) (has : V.has_this ≡ true) (s : Seat) where
  part_kept : (before : Trees) (a t : Tree) (ts : Trees) → Still a → KeptAt (Expr s) (sequence (append before (a ▸ (t ▸ ts)))) (sequence (append before (t ▸ ts)))
  part_kept before a t ts h =
      let ps : Parts = record { trees = a ▸ t ▸ none; lists = before ∷ ts ∷ [] } in
      expressions_arranged_freely first_dropped ps (tt, tt, (vanishes a h.dropped, tt))
      (under Sequence (list (items 0 (item (part 0) (item (part 1) (items 1 no_items)))) ▹ end))
      (under Sequence (list (items 0 (item (part 1) (items 1 no_items))) ▹ end))
      refl s (sequence (append before (a ▸ (t ▸ ts)))) (sequence (append before (t ▸ ts)))
      (ap (λ us. sequence (append before (a ▸ (t ▸ us)))) (sym (append_none ts)))
      (ap (λ us. sequence (append before (t ▸ us))) (sym (append_none ts)))

  part_idles : (before : Trees) (a t : Tree) (ts : Trees) → Still a → nat_le 2 (count (append before (t ▸ ts))) ≡ true → Idles V (Expr s) (sequence (append before (a ▸ (t ▸ ts)))) (sequence (append before (t ▸ ts)))
  part_idles before a t ts h several =
      let whole : Tree = sequence (append before (a ▸ (t ▸ ts))) in
      let rest : Tree = sequence (append before (t ▸ ts)) in record {
        same = λ e z q f. same_by_value e nothing V.initial whole rest refl refl (record { by = λ r y i. idle_near nothing e a (quiet V has e z a h) before t ts Val y }) q;
        read = refl;
        kind = refl;
        fit = λ strict c f. let (takes, fit) = of_sequence strict c (append before (a ▸ (t ▸ ts))) f in expression_taken strict c rest takes (idle_fits strict before a t ts several fit);
        slot = λ strict c f. expression_slot (Expr s) c (of_sequence strict c (append before (a ▸ (t ▸ ts))) f).0;
        asked = sequence_asked (Expr s) (append before (a ▸ (t ▸ ts))) (append before (t ▸ ts));
        kept = part_kept before a t ts h;
        bound = λ k. let fewer = bound_fewer k before a (t ▸ ts) in omega (arith, fewer);
        bodies = λ b z. body_lists.each_of (bodies_from (λ k. own b) 0 (append before (a ▸ (t ▸ ts)))) [] (bodies_from (λ k. own b) 0 (append before (t ▸ ts))) [] (bodies_fewer (own b) before a (t ▸ ts) 0 0) tt;
        frames = λ k z. frame_lists.each_of (frames_from (λ k. None) 0 (append before (a ▸ (t ▸ ts)))) [] (frames_from (λ k. None) 0 (append before (t ▸ ts))) [] (frames_fewer before a (t ▸ ts) 0 0) (λ f c. c);
        lighter = idle_falls s before a t ts;
        absent = refl;
        is_zero = inl refl;
        chooses = refl;
      }

  alone_idles : (a t : Tree) → Still a → takes_alone s ≡ true → stays_alone s t ≡ true → Idles V (Expr s) (sequence (a ▸ (t ▸ none))) t
  alone_idles a t h seated stays =
      let whole : Tree = sequence (a ▸ (t ▸ none)) in
      let plain = left_plain s t stays in
      let falls = alone_falls s seated a t h.heavy plain in record {
        same = λ e z q f. left_by s whole t refl refl e nothing V.initial (λ u. record { by = λ r y i. alone_near nothing e a (quiet V has e z a h) t u y }) stays q f;
        read = sym (plain_read t plain);
        kind = kind_alike t plain;
        fit = λ strict c f. let (takes, fit) = of_sequence strict c (a ▸ (t ▸ none)) f in expression_taken strict c t takes (last_of_two strict a t fit);
        slot = λ strict c f. expression_slot (Expr s) c (of_sequence strict c (a ▸ (t ▸ none)) f).0;
        asked = alone_asked s (a ▸ (t ▸ none)) t stays;
        kept = expressions_arranged_freely first_dropped (record { trees = a ▸ t ▸ none; lists = [] }) (tt, tt, (vanishes a h.dropped, tt)) (under Sequence (list (item (part 0) (item (part 1) no_items)) ▹ end)) (part 1) refl s whole t refl refl;
        bound = λ k. omega arith;
        bodies = λ b z.
            let last = bodies (own b) t in
            let idle = bodies (own b) a in
            body_lists.first_of (idle ++ (last ++ [])) [] (bodies b t) (body_lists.second_of idle (last ++ []) (bodies b t) (body_lists.first_of last [] (bodies b t) (subst (BodiesKept last) (own_alike b t plain (z refl)) (kept_itself last))));
        frames = λ k z.
            let last = frames None t in
            let idle = frames None a in
            frame_lists.first_of (idle ++ (last ++ [])) [] (frames k t) (frame_lists.second_of idle (last ++ []) (frames k t) (frame_lists.first_of last [] (frames k t) (same_frames last (frames k t) (ap (λ j. frames j t) (sym (z refl))))));
        lighter = omega (arith, falls);
        absent = sym (there t plain);
        is_zero = inr falls;
        chooses = sym (no_choice t plain);
      }

pub expressions_idle : (V : Assured) (s : Seat) (n w : Tree) → IdleRow V s n w → Idles V (Expr s) n w
expressions_idle V s n w (inl r) = along V (Expr s) n w _ _ r.shape r.written (part_idles V r.kept s r.before r.idle r.next r.after (still_is r.idle r.still) r.several)
expressions_idle V s n w (inr r) = along V (Expr s) n w _ _ r.shape r.written (alone_idles V r.kept s r.idle r.last (still_is r.idle r.still) r.seated r.stays)

-- A step at any place of a tree keeps the bodies in it.
use Rattle.std.specs.Prelude.{ℕ, zero, suc, ◌≡◌, refl, ◌⊎◌, ◌||◌, ◌&&◌, ◌==◌, not, Bool, true, false, List, [], ◌∷◌}
use Rattle.std.proofs.Common.{ap, ◌∙◌, sym, subst, inl, inr}
use Rattle.mini_model.specs.declared.name.Name.{Name}
use Rattle.mini_model.specs.declared.place.Position.{Position}
use Rattle.mini_model.specs.declared.place.Position.TheVariants.{Expr, Stmt, StatementList, BodyList, ArgumentList, SequenceList, TemplateList, Elsewhere}
use Rattle.mini_model.specs.declared.seat.Seat.{Seat}
use Rattle.mini_model.specs.declared.shape.Shape.{Shape}
use Rattle.mini_model.specs.declared.shape.Shape.TheVariants as shape
use Rattle.mini_model.specs.Tree.{Tree, Trees, node, none, ◌▸◌, count, shape_of, child_or_absent}
use Rattle.mini_model.specs.Position.{child_position, argument_seat}
use Rattle.mini_model.specs.Rewriting.{Step, here, inside, StepIn, first, later, Reaches, done, more}
use Rattle.mini_accept.specs.WellShaped.{Tagging, untagged, tagged, Slot, one, a_program, Filling, refused, these, each, each_or_last, pieces, filling, class_of, is_whole, is_strict_in, is_quasi_by, is_quasi, are_quasis, has_plain_fields, is_last, fits, fill, IsWellShaped}
use Rattle.mini_laws.specs.Value.{VariableSet, variables, choose, nothing}
use Rattle.mini_laws.specs.State.{Environment}
use Rattle.mini_laws.specs.Demand.{Val, As, Target}
use Rattle.mini_laws.specs.Naming.{facts, facts_all, nth_absent, summary, summary_of, summaries}
use Rattle.mini_laws.specs.Fixity as fixity
use Rattle.mini_laws.specs.Fits.{Fits}
use Rattle.mini_laws.specs.Body.{BodyKind, Program, FunctionStatements, InnerValue, InnerTarget, body_demand, SameBody}
use Rattle.mini_laws.specs.Bodies.{Around, outermost, asks_below, extends_below, constructs_below, is_assigned_below, below, arrow_kind, body_of, bodies, bodies_from, bodies_in}
use Rattle.mini_laws.specs.Congruence.{Avoids, AllAvoid, ReadAlike}
use Rattle.mini_laws.specs.Rewritten.{KeepsMeaning, MeansSame}
use Rattle.mini_laws.proofs.Rewritten.{step_keeps}
use Rattle.mini_laws.proofs.Dead.{alike_self}
use Rattle.mini_laws.proofs.Simulation.{within_refl}
use Rattle.mini_laws.proofs.Congruent.{body_reflexive, body_same, weaker, no_within, avoids_nothing}
use Rattle.mini_kept.proofs.Bools.{left, right}
use Rattle.mini_kept.specs.AlikeBodies.{RunsAs, BodiesKept}
use Rattle.mini_kept.specs.Placed.{fits_place}
use Rattle.mini_kept.specs.Standing.{is_asked_whole, is_unseated, Stands}
use Rattle.mini_kept.specs.Lifted.{is_piece}
use Rattle.mini_kept.specs.KeepsBodies.{KeepsBodies}
use Rattle.mini_kept.specs.Without.{BodySets, none_steady, Permits, BodiesUnder, KeepsBodiesUnder, StepKeepsUnder}
use Rattle.mini_kept.specs.BodyLaws.{StepKeepsBodies, ReachesKeepsBodies}
use Rattle.mini_kept.proofs.BodyLists.{kept_itself as bodies_themselves, kept_on as bodies_on}
use Rattle.mini_kept.proofs.WithoutLists.{each_under, itself_under, from_kept, to_kept}
use Rattle.mini_kept.proofs.Placed.{Placed, placed_below}
use Rattle.mini_kept.proofs.BodyPlaces.{ChildrenStand, children_stand, inner_stands}

-- ---- what is asked of an inner expression

plain_seat : (s : Seat) → (b u : Bool) → s.boolean ≡ b → s.unused ≡ u → (not b && not u) ≡ true → (s.boolean ≡ false) × (s.unused ≡ false)
plain_seat s false false p q e = (p, q)
plain_seat s true u p q e = absurd (cc e)
plain_seat s false true p q e = absurd (cc e)

pub value_fits : (p : Position) → is_asked_whole p ≡ true → Fits p (As Val)
value_fits (Expr s) e = let (b, u) = plain_seat s s.boolean s.unused refl refl e in (λ t. absurd (cc (sym b ∙ t)), λ t. absurd (cc (sym u ∙ t)))
value_fits (Stmt q) e = absurd (cc e)
value_fits StatementList e = absurd (cc e)
value_fits BodyList e = absurd (cc e)
value_fits ArgumentList e = absurd (cc e)
value_fits (SequenceList s) e = absurd (cc e)
value_fits TemplateList e = absurd (cc e)
value_fits p e = tt

pub target_fits : (p : Position) → is_asked_whole p ≡ true → is_unseated p ≡ true → Fits p Target
target_fits (Expr s) e u = absurd (cc u)
target_fits (Stmt q) e u = absurd (cc e)
target_fits StatementList e u = absurd (cc e)
target_fits BodyList e u = absurd (cc e)
target_fits ArgumentList e u = absurd (cc e)
target_fits (SequenceList s) e u = absurd (cc e)
target_fits TemplateList e u = absurd (cc e)
target_fits p e u = tt

-- ---- the text of a template

no_piece : (g : Tagging) (last : Bool) (h : Shape) → is_piece h ≡ false → is_quasi_by g last h ≡ false
no_piece untagged last (shape.TemplateElement tail raw c) e = absurd (cc e)
no_piece tagged last (shape.TemplateElement tail raw c) e = absurd (cc e)
no_piece untagged last h e = refl
no_piece tagged last h e = refl

piece_by : (g : Tagging) (last : Bool) (h : Shape) (xs : List Name) (n : ℕ) (ts : Trees) → is_quasi g last (node h xs n ts) ≡ true → (is_quasi_by g last h ≡ true) × (ts ≡ none)
piece_by g last h [] n none e = (left (is_quasi_by g last h) ((n == 0) && has_plain_fields h) e, refl)
piece_by g last h [] n (t ▸ ts) e = absurd (cc e)
piece_by g last h (x ∷ xs) n ts e = absurd (cc e)

some_child : (R : Position → Tree → Tree → Type 0) {π : ℕ → Position} {ts us : Trees} → StepIn R π ts us → ts ≡ none → ⊥
some_child R (first π t u ts s) e = cc e
some_child R (later π t ts us s) e = cc e

-- ---- the slot of a list's item

pub one_of : (strict : Bool) (s r : Slot) (b : Bool) (t : Tree) → (fits strict s t || (b && fits strict r t)) ≡ true → (fits strict s t ≡ true) ⊎ (fits strict r t ≡ true)
one_of strict s r b t e = by (fits strict s t) refl
  where
    by : (c : Bool) → fits strict s t ≡ c → (fits strict s t ≡ true) ⊎ (fits strict r t ≡ true)
    by true f = inl f
    by false f = inr (right b (fits strict r t) (sym (ap (λ c. c || (b && fits strict r t)) f) ∙ e))

some_slot : (strict : Bool) (s r : Slot) (t : Tree) → (fits strict s t ≡ true) ⊎ (fits strict r t ≡ true) → (b : Bool) × (q : Slot) × (fits b q t ≡ true)
some_slot strict s r t (inl e) = (strict, s, e)
some_slot strict s r t (inr e) = (strict, r, e)

-- ---- steps

-- the bodies in a tree that fills a slot are those in another, and so are those of some children
record Keeps (W : VariableSet) (S : BodySets) (D : VariableSet) (p : Position) (t u : Tree) : Type 0 where
  kept : (strict : Bool) (s : Slot) → fits_place p s ≡ true → fits strict s t ≡ true → (a : Around) → Stands s p a → BodiesUnder W S D (bodies a t) (bodies a u)

record AllKeep (W : VariableSet) (S : BodySets) (D : VariableSet) (π : ℕ → Position) (ts us : Trees) : Type 0 where
  kept : (strict : Bool) (g : Filling) → Placed π g → fill strict g ts ≡ true → (α : ℕ → Around) (i : ℕ) → ChildrenStand π α i g → BodiesUnder W S D (bodies_from α i ts) (bodies_from α i us)

first_kept : (W : VariableSet) (S : BodySets) (D : VariableSet) (α : ℕ → Around) (i : ℕ) (t u : Tree) (ts : Trees) → BodiesUnder W S D (bodies (α i) t) (bodies (α i) u) → BodiesUnder W S D (bodies_from α i (t ▸ ts)) (bodies_from α i (u ▸ ts))
first_kept W S D α i t u ts k = each_under W S D (bodies (α i) t) (bodies_from α (suc i) ts) (bodies (α i) u) (bodies_from α (suc i) ts) k (itself_under W S D (bodies_from α (suc i) ts))

others_kept : (W : VariableSet) (S : BodySets) (D : VariableSet) (α : ℕ → Around) (i : ℕ) (t : Tree) (ts us : Trees) → BodiesUnder W S D (bodies_from α (suc i) ts) (bodies_from α (suc i) us) → BodiesUnder W S D (bodies_from α i (t ▸ ts)) (bodies_from α i (t ▸ us))
others_kept W S D α i t ts us k = each_under W S D (bodies (α i) t) (bodies_from α (suc i) ts) (bodies (α i) t) (bodies_from α (suc i) us) (itself_under W S D (bodies (α i) t)) k

-- a part of what mentions no such variable
child_avoids : (D : VariableSet) (ts : Trees) → AllAvoid D ts → (i : ℕ) → Avoids D (child_or_absent ts i)
child_avoids D none v i = (tt, tt)
child_avoids D (t ▸ ts) v zero = v.0
child_avoids D (t ▸ ts) v (suc i) = child_avoids D ts v.1 i

module _ (R : Position → Tree → Tree → Type 0) (W : VariableSet) (S : BodySets) (D : VariableSet) (l : KeepsBodiesUnder W S D R) where
  -- no step is made in the text of a template
  no_step : {p : Position} {t u : Tree} (g : Tagging) (last : Bool) → Step R p t u → is_quasi g last t ≡ true → ⊥
  no_step g last (here p (node h xs n ts) u r) e = cc (sym (piece_by g last h xs n ts e).0 ∙ no_piece g last h (l.pieces p (node h xs n ts) u r))
  no_step g last (inside p h xs n ts us s) e = some_child R s (piece_by g last h xs n ts e).1

  no_steps : {π : ℕ → Position} {ts us : Trees} (g : Tagging) → StepIn R π ts us → are_quasis g ts ≡ true → ⊥
  no_steps g (first π t u none s) e = no_step g true s e
  no_steps g (first π t u (v ▸ ts) s) e = no_step g false s (left (is_quasi g false t) (are_quasis g (v ▸ ts)) e)
  no_steps g (later π t none us s) e = some_child R s refl
  no_steps g (later π t (v ▸ ts) us s) e = no_steps g s (right (is_quasi g false t) (are_quasis g (v ▸ ts)) e)

  -- what a parent reads
  mutual
    step_read : {p : Position} {t u : Tree} → Step R p t u → summary t ≡ summary u
    step_read (here p t u r) = l.reads p t u r
    step_read (inside p h xs n ts us s) = ap (λ is. summary_of h (variables xs) n is) (steps_read s)

    steps_read : {π : ℕ → Position} {ts us : Trees} → StepIn R π ts us → summaries ts ≡ summaries us
    steps_read (first π t u ts s) = ap (λ i. i ∷ summaries ts) (step_read s)
    steps_read (later π t ts us s) = ap (λ is. summary t ∷ is) (steps_read s)

  facts_read : {π : ℕ → Position} {ts us : Trees} → StepIn R π ts us → facts ts ≡ facts us
  facts_read s = ap facts_all (steps_read s)

  extends_read : (a : Around) (h : Shape) {π : ℕ → Position} {ts us : Trees} → StepIn R π ts us → extends_below a h ts ≡ extends_below a h us
  extends_read a (shape.Class d) s = ap (λ fs. not (nth_absent fs 1)) (facts_read s)
  extends_read a h s = refl

  -- a child is as it was, or a step is made in it, and it fills a slot
  abbrev Moved : Position → Tree → Tree → Type 0
  Moved p t u = (t ≡ u) ⊎ (Step R p t u × (strict : Bool) × (s : Slot) × (fits strict s t ≡ true))

  moved : {π : ℕ → Position} {ts us : Trees} (strict : Bool) (g : Filling) → StepIn R π ts us → fill strict g ts ≡ true → (i : ℕ) → Moved (π i) (child_or_absent ts i) (child_or_absent us i)
  moved strict refused (first π t u ts st) e i = absurd (cc e)
  moved strict refused (later π t ts us st) e i = absurd (cc e)
  moved strict (these []) (first π t u ts st) e i = absurd (cc e)
  moved strict (these []) (later π t ts us st) e i = absurd (cc e)
  moved strict (these (s ∷ ss)) (first π t u ts st) e zero = inr (st, strict, s, left (fits strict s t) (fill strict (these ss) ts) e)
  moved strict (these (s ∷ ss)) (first π t u ts st) e (suc i) = inl refl
  moved strict (these (s ∷ ss)) (later π t ts us st) e zero = inl refl
  moved strict (these (s ∷ ss)) (later π t ts us st) e (suc i) = moved strict (these ss) st (right (fits strict s t) (fill strict (these ss) ts) e) i
  moved strict (each s) (first π t u ts st) e zero = inr (st, strict, s, left (fits strict s t) (fill strict (each s) ts) e)
  moved strict (each s) (first π t u ts st) e (suc i) = inl refl
  moved strict (each s) (later π t ts us st) e zero = inl refl
  moved strict (each s) (later π t ts us st) e (suc i) = moved strict (each s) st (right (fits strict s t) (fill strict (each s) ts) e) i
  moved strict (each_or_last s r) (first π t u ts st) e zero =
      let (b, q, f) = some_slot strict s r t (one_of strict s r (is_last ts) t (left (fits strict s t || (is_last ts && fits strict r t)) (fill strict (each_or_last s r) ts) e)) in
      inr (st, b, q, f)
  moved strict (each_or_last s r) (first π t u ts st) e (suc i) = inl refl
  moved strict (each_or_last s r) (later π t ts us st) e zero = inl refl
  moved strict (each_or_last s r) (later π t ts us st) e (suc i) = moved strict (each_or_last s r) st (right (fits strict s t || (is_last ts && fits strict r t)) (fill strict (each_or_last s r) ts) e) i
  moved strict (pieces g) (first π t u ts st) e i = absurd (no_steps g (first π t u ts st) e)
  moved strict (pieces g) (later π t ts us st) e i = absurd (no_steps g (later π t ts us st) e)

  stepped_body : (p : Position) (t u : Tree) → Step R p t u → Avoids D u → (k : BodyKind) → Fits p (body_demand k) → (e : Environment) → Permits W D e → (X : VariableSet) → SameBody e k X t u
  stepped_body p t u s v k f e z X = body_same e D X z.unseen.shared k t u (weaker e D D nothing X (within_refl D) (no_within X) (body_demand k) t u (step_keeps R e D z.unseen.shared (l.means e z) p t u s v (body_demand k) f))

  moved_body : (p : Position) (t u : Tree) → Moved p t u → Avoids D u → (k : BodyKind) → Fits p (body_demand k) → (e : Environment) → Permits W D e → (X : VariableSet) → SameBody e k X t u
  moved_body p t u (inl q) v k f e z X = subst (SameBody e k X t) q (body_reflexive e k X t)
  moved_body p t u (inr (s, b, q, y)) v k f e z X = stepped_body p t u s v k f e z X

  step_kind : {p : Position} {t u : Tree} → Step R p t u → (strict : Bool) (s : Slot) → fits strict s t ≡ true → arrow_kind (shape_of t) ≡ arrow_kind (shape_of u)
  step_kind (here p t u r) strict s e = l.kind p t u r strict s e
  step_kind (inside p h xs n ts us st) strict s e = refl

  moved_kind : {p : Position} {t u : Tree} → Moved p t u → arrow_kind (shape_of t) ≡ arrow_kind (shape_of u)
  moved_kind (inl q) = ap (λ t. arrow_kind (shape_of t)) q
  moved_kind (inr (st, strict, s, e)) = step_kind st strict s e

  arrow_fits : (h : Shape) (s : Seat) → s.boolean ≡ false → s.unused ≡ false → Fits (Expr s) (body_demand (arrow_kind h))
  arrow_fits shape.FunctionBody s b u = b
  arrow_fits h s b u = (λ t. absurd (cc (sym b ∙ t)), λ t. absurd (cc (sym u ∙ t)))

  as_runs : (e : Environment) (k : BodyKind) (X : VariableSet) (n w : Tree) → SameBody e k X n w → RunsAs e k k X n w
  as_runs e k X n w s = record { by = s.by }

  -- the body of the node itself
  own_kept : (a : Around) (p : Position) (h : Shape) (xs : List Name) (n : ℕ) (ts us : Trees) → StepIn R (child_position h p (count ts)) ts us → ((i : ℕ) → Moved (child_position h p (count ts) i) (child_or_absent ts i) (child_or_absent us i)) → (h ≡ shape.InnerExpression → is_asked_whole p ≡ true) → (a.is_assigned ≡ true → is_unseated p ≡ true) → Avoids D (node h xs n us)
      → BodiesUnder W S D (body_of a h n (node h xs n ts) ts) (body_of a h n (node h xs n us) us)
  own_kept a p (shape.Program m ds) xs n ts us st mv w y v =
      (inl (record { number = refl; kind = inl refl; strict = refl; asks_this = refl; same = λ e z r X g. as_runs e Program X _ _ (stepped_body Elsewhere _ _ (inside Elsewhere (shape.Program m ds) xs n ts us st) v Program tt e z X) }), tt)
  own_kept a p (shape.Function d g ds) xs n ts us st mv w y v =
      (inl (record { number = refl; kind = inl refl; strict = refl; asks_this = refl; same = λ e z r X g. as_runs e FunctionStatements X _ _ (moved_body Elsewhere _ _ (mv 2) (child_avoids D us v.1 2) FunctionStatements tt e z X) }), tt)
  own_kept a p (shape.ArrowFunctionExpression ds) xs n ts us st mv w y v =
      (inl (record { number = refl; kind = inl (moved_kind (mv 1)); strict = refl; asks_this = refl; same = λ e z r X b. subst (λ l. RunsAs e (arrow_kind (shape_of (child_or_absent ts 1))) l X (child_or_absent ts 1) (child_or_absent us 1)) (moved_kind (mv 1)) (as_runs e (arrow_kind (shape_of (child_or_absent ts 1))) X _ _ (moved_body (Expr argument_seat) _ _ (mv 1) (child_avoids D us v.1 1) (arrow_kind (shape_of (child_or_absent ts 1))) (arrow_fits (shape_of (child_or_absent ts 1)) argument_seat refl refl) e z X)) }), tt)
  own_kept a p shape.StaticBlock xs n ts us st mv w y v =
      (inl (record { number = refl; kind = inl refl; strict = refl; asks_this = refl; same = λ e z r X g. as_runs e FunctionStatements X _ _ (stepped_body Elsewhere _ _ (inside Elsewhere shape.StaticBlock xs n ts us st) v FunctionStatements tt e z X) }), tt)
  own_kept a p shape.InnerExpression xs n ts us st mv w y v = inner a.is_assigned refl
    where
      inner : (b : Bool) → a.is_assigned ≡ b → BodiesUnder W S D (record { number = n; kind = choose b InnerTarget InnerValue; root = node shape.InnerExpression xs n ts; strict = a.strict; asks_this = a.asks_this } ∷ []) (record { number = n; kind = choose b InnerTarget InnerValue; root = node shape.InnerExpression xs n us; strict = a.strict; asks_this = a.asks_this } ∷ [])
      inner true k = (inl (record { number = refl; kind = inl refl; strict = refl; asks_this = refl; same = λ e z r X g. as_runs e InnerTarget X _ _ (stepped_body p _ _ (inside p shape.InnerExpression xs n ts us st) v InnerTarget (target_fits p (w refl) (y k)) e z X) }), tt)
      inner false k = (inl (record { number = refl; kind = inl refl; strict = refl; asks_this = refl; same = λ e z r X g. as_runs e InnerValue X _ _ (stepped_body p _ _ (inside p shape.InnerExpression xs n ts us st) v InnerValue (value_fits p (w refl)) e z X) }), tt)
  own_kept a p h xs n ts us st mv w y v = tt

  parts_fill : (strict : Bool) (s : Slot) (h : Shape) (xs : List Name) (n : ℕ) (ts : Trees) → fits strict s (node h xs n ts) ≡ true → fill (is_strict_in strict h) (filling strict s h) ts ≡ true
  parts_fill strict s h xs n ts e = right (is_whole (class_of s) h xs n ts) (fill (is_strict_in strict h) (filling strict s h) ts) e

  abbrev around_by : Around → Shape → Bool → ℕ → Around
  around_by a h x i = record { strict = fixity.is_strict_in a.strict h; asks_this = asks_below a h i; extends = x; constructs = constructs_below a h i; is_assigned = is_assigned_below a h i }

  same_around : (a : Around) (h : Shape) {π : ℕ → Position} (ts us : Trees) → StepIn R π ts us → BodiesUnder W S D (bodies_from (below a h ts) 0 ts) (bodies_from (below a h ts) 0 us) → BodiesUnder W S D (bodies_from (below a h ts) 0 ts) (bodies_from (below a h us) 0 us)
  same_around a h ts us st k = subst (λ x. BodiesUnder W S D (bodies_from (below a h ts) 0 ts) (bodies_from (around_by a h x) 0 us)) (extends_read a h st) k

  -- of the same node over other children
  inside_kept : (p : Position) (h : Shape) (xs : List Name) (n : ℕ) (ts us : Trees) → StepIn R (child_position h p (count ts)) ts us → Avoids D (node h xs n us) → AllKeep W S D (child_position h p (count ts)) ts us → Keeps W S D p (node h xs n ts) (node h xs n us)
  inside_kept p h xs n ts us st v k = record {
    kept = λ strict s q e a z.
        each_under W S D (body_of a h n (node h xs n ts) ts) (bodies_from (below a h ts) 0 ts) (body_of a h n (node h xs n us) us) (bodies_from (below a h us) 0 us)
        (own_kept a p h xs n ts us st (moved (is_strict_in strict h) (filling strict s h) st (parts_fill strict s h xs n ts e)) (λ q. inner_stands strict s h xs n ts q e p z.whole) z.assigned v)
        (same_around a h ts us st (k.kept (is_strict_in strict h) (filling strict s h) (placed_below strict s h p (count ts) q) (parts_fill strict s h xs n ts e) (below a h ts) 0 (children_stand strict s h p (count ts) a ts z)));
  }

  item_kept : (p : Position) (t u : Tree) → Keeps W S D p t u → (strict : Bool) (s r : Slot) → fits_place p s ≡ true → fits_place p r ≡ true → (a : Around) → Stands s p a → Stands r p a → (fits strict s t ≡ true) ⊎ (fits strict r t ≡ true) → BodiesUnder W S D (bodies a t) (bodies a u)
  item_kept p t u k strict s r v w a x y (inl e) = k.kept strict s v e a x
  item_kept p t u k strict s r v w a x y (inr e) = k.kept strict r w e a y

  first_child : (π : ℕ → Position) (t u : Tree) (ts : Trees) → StepIn R π (t ▸ ts) (u ▸ ts) → Keeps W S D (π 0) t u → (strict : Bool) (g : Filling) → Placed π g → fill strict g (t ▸ ts) ≡ true → (α : ℕ → Around) (i : ℕ) → ChildrenStand π α i g → BodiesUnder W S D (bodies (α i) t) (bodies (α i) u)
  first_child π t u ts st k strict refused v e α i c = absurd (cc e)
  first_child π t u ts st k strict (these []) v e α i c = absurd (cc e)
  first_child π t u ts st k strict (these (s ∷ ss)) v e α i c = k.kept strict s v.0 (left (fits strict s t) (fill strict (these ss) ts) e) (α i) c.0
  first_child π t u ts st k strict (each s) v e α i c = k.kept strict s (v 0) (left (fits strict s t) (fill strict (each s) ts) e) (α i) (c 0 i)
  first_child π t u ts st k strict (each_or_last s r) v e α i c =
      let parts = left (fits strict s t || (is_last ts && fits strict r t)) (fill strict (each_or_last s r) ts) e in
      item_kept (π 0) t u k strict s r (v 0).0 (v 0).1 (α i) (c 0 i).0 (c 0 i).1 (one_of strict s r (is_last ts) t parts)
  first_child π t u ts st k strict (pieces g) v e α i c = absurd (no_steps g st e)

  other_children : (π : ℕ → Position) (t : Tree) (ts us : Trees) → StepIn R π (t ▸ ts) (t ▸ us) → AllKeep W S D (λ j. π (suc j)) ts us → (strict : Bool) (g : Filling) → Placed π g → fill strict g (t ▸ ts) ≡ true → (α : ℕ → Around) (i : ℕ) → ChildrenStand π α i g → BodiesUnder W S D (bodies_from α (suc i) ts) (bodies_from α (suc i) us)
  other_children π t ts us st k strict refused v e α i c = absurd (cc e)
  other_children π t ts us st k strict (these []) v e α i c = absurd (cc e)
  other_children π t ts us st k strict (these (s ∷ ss)) v e α i c = k.kept strict (these ss) v.1 (right (fits strict s t) (fill strict (these ss) ts) e) α (suc i) c.1
  other_children π t ts us st k strict (each s) v e α i c = k.kept strict (each s) (λ j. v (suc j)) (right (fits strict s t) (fill strict (each s) ts) e) α (suc i) (λ j m. c (suc j) m)
  other_children π t ts us st k strict (each_or_last s r) v e α i c =
      k.kept strict (each_or_last s r) (λ j. v (suc j)) (right (fits strict s t || (is_last ts && fits strict r t)) (fill strict (each_or_last s r) ts) e) α (suc i) (λ j m. c (suc j) m)
  other_children π t ts us st k strict (pieces g) v e α i c = absurd (no_steps g st e)

  mutual
    step_kept : {p : Position} {t u : Tree} → Step R p t u → Avoids D u → Keeps W S D p t u
    step_kept (here p t u r) v = record { kept = λ strict s q e a z. l.bodies p t u r strict s q e a z }
    step_kept (inside p h xs n ts us st) v = inside_kept p h xs n ts us st v (steps_kept st v.1)

    steps_kept : {π : ℕ → Position} {ts us : Trees} → StepIn R π ts us → AllAvoid D us → AllKeep W S D π ts us
    steps_kept (first π t u ts st) av = record { kept = λ strict g v e α i c. first_kept W S D α i t u ts (first_child π t u ts (first π t u ts st) (step_kept st av.0) strict g v e α i c) }
    steps_kept (later π t ts us st) av = record { kept = λ strict g v e α i c. others_kept W S D α i t ts us (other_children π t ts us (later π t ts us st) (steps_kept st av.1) strict g v e α i c) }

pub step_under : (R : Position → Tree → Tree → Type 0) (W : VariableSet) (S : BodySets) (D : VariableSet) → StepKeepsUnder W S D R
step_under R W S D l p t u st v strict s k e a z = (step_kept R W S D l st v).kept strict s k e a z

-- ---- where no variable is gone, whichever can be written

meaning_of : (R : Position → Tree → Tree → Type 0) → MeansSame R → (e : Environment) → KeepsMeaning R e nothing
meaning_of R m e = record {
  same = λ p n w c q f. (m.same p n w c).by e nothing nothing q f;
  reads = λ p n w c. subst (ReadAlike nothing e (summary n)) (m.reads p n w c) (alike_self nothing e (summary n));
}

pub without_nothing : (R : Position → Tree → Tree → Type 0) → KeepsBodies R → KeepsBodiesUnder nothing none_steady nothing R
without_nothing R l = record {
  means = λ e z. meaning_of R l.means e;
  reads = l.means.reads;
  pieces = l.pieces;
  kind = l.kind;
  bodies = λ p n w r strict s q e a z. from_kept nothing (bodies a n) (bodies a w) (l.bodies p n w r strict s q e a z);
}

pub step_keeps_bodies : (R : Position → Tree → Tree → Type 0) → StepKeepsBodies R
step_keeps_bodies R l p t u st strict s k e a z = to_kept (bodies a t) (bodies a u) (step_under R nothing none_steady nothing (without_nothing R l) p t u st (avoids_nothing u) strict s k e a z)

-- ---- any number of steps

pub whole_stands : Stands (one a_program) Elsewhere outermost
whole_stands = record { whole = refl; assigned = λ q. refl; function = λ q. refl }

module _ (R : Position → Tree → Tree → Type 0) (l : KeepsBodies R) where
  reaches_bodies : (holds : Tree → Bool) → ((t : Tree) → holds t ≡ true → IsWellShaped t) → ((t u : Tree) → Step R Elsewhere t u → holds t ≡ true → holds u ≡ true) → (p : Position) (t u : Tree) → Reaches R p t u → p ≡ Elsewhere → holds t ≡ true → BodiesKept (bodies_in t) (bodies_in u)
  reaches_bodies holds shaped stays _ _ _ (done p t) q e = bodies_themselves (bodies_in t)
  reaches_bodies holds shaped stays _ _ _ (more p t u v s r) q e =
      let st : Step R Elsewhere t u = subst (λ x. Step R x t u) q s in
      bodies_on (bodies_in t) (bodies_in u) (bodies_in v) (step_keeps_bodies R l Elsewhere t u st false (one a_program) refl (shaped t e) outermost whole_stands) (reaches_bodies holds shaped stays p u v r q (stays t u st e))

pub reaches_keeps_bodies : (R : Position → Tree → Tree → Type 0) → ReachesKeepsBodies R
reaches_keeps_bodies R l holds shaped stays t u r e = reaches_bodies R l holds shaped stays Elsewhere t u r refl e

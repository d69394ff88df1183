-- Rewriting keeps what a tree means.
use Rattle.std.proofs.Common.{◌≡◌, ℕ, zero, suc, Bool, true, false, List, length, refl, sym, ap, ◌∙◌, subst, inl, inr, true≢false}
use Rattle.std.specs.Prelude.{◌||◌}
use Rattle.mini_model.specs.declared.name.Name.{Name}
use Rattle.mini_model.specs.declared.operator.BinaryOperator.{BinaryOperator}
use Rattle.mini_model.specs.declared.operator.LogicalOperator.TheVariants.{Or, And}
use Rattle.mini_model.specs.declared.operator.UnaryOperator.TheVariants.{LogicalNot}
use Rattle.mini_model.specs.declared.seat.Seat.{Seat}
use Rattle.mini_model.specs.declared.shape.Shape.TheVariants as shape
use Rattle.mini_model.specs.Tree.{Tree, Trees, node, none, ◌▸◌, count, negation}
use Rattle.mini_model.specs.declared.place.Position.{Position}
use Rattle.mini_model.specs.declared.place.Position.TheVariants.{Expr, Stmt, Elsewhere}
use Rattle.mini_model.specs.Position.{is_equality, child_position}
use Rattle.mini_model.specs.Terms.{is_boolean, unwrapped, turned_equality, neg}
use Rattle.mini_model.specs.Redex.{Row, Contracts}
use Rattle.mini_model.specs.Rewriting.{Step, StepIn, here, inside, first, later, Reaches, done, more}
use Rattle.mini_laws.specs.Value.{VariableSet, variables, nothing}
use Rattle.mini_laws.specs.State.{Environment}
use Rattle.mini_laws.specs.Demand.{Demand}
use Rattle.mini_laws.specs.Naming.{summary, summaries, facts}
use Rattle.mini_laws.specs.Asking.{demand}
use Rattle.mini_laws.specs.Fits.{Fits}
use Rattle.mini_laws.specs.Skeleton.{hidden_all, needs, TreesGo}
use Rattle.mini_laws.specs.Body.{BodyKind, body_demand, frame_of}
use Rattle.mini_laws.specs.Rewritten as law
use Rattle.mini_laws.specs.Congruence.{Apart, Avoids, AllAvoid, ReadAlike, dead_rules}
use Rattle.mini_laws.specs.Rewritten.{KeepsMeaning, MeansSame}
use Rattle.mini_laws.proofs.Rows.{row_equal, equal_same}
use Rattle.mini_laws.proofs.Fitting.{fits_children}
use Rattle.mini_laws.proofs.Simulation.{within_refl}
use Rattle.mini_laws.proofs.Fundamental.{PlaceGo, one_node, place_cons}
use Rattle.mini_laws.proofs.Dead.{dead_sound, dead_self, AllAlike, alike_self, all_alike_self, alike_cons, summary_alike, alive_alike}
use Rattle.mini_laws.proofs.Congruent.{kids_self, avoids_nothing, no_within, no_off, from_same, to_same, body_same, reflexive, transitive, weaker}

facts_count : (ts : Trees) → length (facts ts) ≡ count ts
facts_count none = refl
facts_count (t ▸ ts) = ap suc (facts_count ts)

-- Of any relation

module _ (R : Position → Tree → Tree → Type 0) (e : Environment) (D : VariableSet) where
  module _ (k : KeepsMeaning R e D) where
    mutual
      pub step_reads : (p : Position) (n w : Tree) → Step R p n w → ReadAlike D e (summary n) (summary w)
      step_reads _ _ _ (here p n w c) = k.reads p n w c
      step_reads _ _ _ (inside p h xs n ts us s) = summary_alike D e h (variables xs) n (summaries ts) (summaries us) (all_read (child_position h p (count ts)) ts us s)

      all_read : (π : ℕ → Position) (ts us : Trees) → StepIn R π ts us → AllAlike D e (summaries ts) (summaries us)
      all_read _ _ _ (first π t u ts s) = alike_cons D e (summary t) (summary u) (summaries ts) (summaries ts) (step_reads (π zero) t u s) (all_alike_self D e (summaries ts))
      all_read _ _ _ (later π t ts us s) = alike_cons D e (summary t) (summary t) (summaries ts) (summaries us) (alike_self D e (summary t)) (all_read (λ i. π (suc i)) ts us s)

    module _ (apart : Apart e D) where
      mutual
        step_goes : (p : Position) (n w : Tree) → Step R p n w → Avoids D w → (X : VariableSet) (q : Demand) → Fits p q → TreesGo (dead_rules D e) X q n w
        step_goes _ _ _ (here p n w c) av X q f = from_same D e apart X q n w av (weaker e D D nothing X (within_refl D) (no_within X) q n w (k.same p n w c q f))
        step_goes _ _ _ (inside p h xs n ts us s) av X q f =
            let alike = all_read (child_position h p (count ts)) ts us s in
            one_node (dead_rules D e) (dead_sound D e apart) h xs xs n n ts us X q (alive_alike D e h q (variables xs) n (summaries ts) (summaries us) av.0 alike) refl alike.facts
            (all_go (child_position h p (count ts)) ts us s av.1 (needs h q X ts) (demand h (facts ts) q) (λ i. subst (λ m. Fits (child_position h p m i) (demand h (facts ts) q i)) (facts_count ts) (fits_children h (facts ts) p q f i)))

        all_go : (π : ℕ → Position) (ts us : Trees) → StepIn R π ts us → AllAvoid D us → (X : ℕ → VariableSet) (σ : ℕ → Demand) → ((i : ℕ) → Fits (π i) (σ i)) → PlaceGo (dead_rules D e) (dead_sound D e apart) X σ (hidden_all ts) ts us
        all_go _ _ _ (first π t u ts s) av X σ f = place_cons (dead_rules D e) (dead_sound D e apart) t u ts ts X σ (step_goes (π zero) t u s av.0 (X 0) (σ 0) (f 0)) (kids_self D e apart ts av.1 (λ i. X (suc i)) (λ i. σ (suc i)))
        all_go _ _ _ (later π t ts us s) av X σ f = place_cons (dead_rules D e) (dead_sound D e apart) t t ts us X σ (dead_self D e apart t av.0 (X 0) (σ 0)) (all_go (λ i. π (suc i)) ts us s av.1 (λ i. X (suc i)) (λ i. σ (suc i)) (λ i. f (suc i)))

module _ (R : Position → Tree → Tree → Type 0) where
  pub step_keeps : law.StepKeeps R
  step_keeps e D apart k p n w s av q f = to_same D e nothing q n w (no_off _) (step_goes R e D k apart p n w s av nothing q f)

  pub steps_read : law.StepReads R
  steps_read e D k p n w s = step_reads R e D k p n w s

  not_dead : (e : Environment) → Apart e nothing
  not_dead e x h = absurd (true≢false (sym h))

  alive : (e : Environment) → MeansSame R → KeepsMeaning R e nothing
  alive e m = record {
    same = λ p n w c q f. (m.same p n w c).by e nothing nothing q f;
    reads = λ p n w c. subst (ReadAlike nothing e (summary n)) (m.reads p n w c) (alike_self nothing e (summary n));
  }

  pub any_step_same : law.AnyStepSame R
  any_step_same m p n w s = record { by = λ e D X q f. weaker e nothing D nothing X (no_within D) (no_within X) q n w (step_keeps e nothing (not_dead e) (alive e m) p n w s (avoids_nothing w) q f) }

  pub any_reaches_same : law.AnyReachesSame R
  any_reaches_same m _ _ _ (done p t) = record { by = λ e D X q f. reflexive e D X q t }
  any_reaches_same m _ _ _ (more p t u v s k) = record { by = λ e D X q f. transitive e D X q t u v ((any_step_same m p t u s).by e D X q f) ((any_reaches_same m p u v k).by e D X q f) }

  pub any_body_same : law.AnyBodySame R
  any_body_same m p n w r e k f X = body_same e nothing X (not_dead e) k n w ((any_reaches_same m p n w r).by e nothing X (body_demand k) f)

  step_frame : ((n w : Tree) → R Elsewhere n w → frame_of n ≡ frame_of w) → (p : Position) (n w : Tree) → Step R p n w → p ≡ Elsewhere → frame_of n ≡ frame_of w
  step_frame g _ _ _ (here p n w c) q = g n w (subst (λ x. R x n w) q c)
  step_frame g _ _ _ (inside p h xs n ts us s) q = refl

  reaches_frame : ((n w : Tree) → R Elsewhere n w → frame_of n ≡ frame_of w) → (p : Position) (n w : Tree) → Reaches R p n w → p ≡ Elsewhere → frame_of n ≡ frame_of w
  reaches_frame g _ _ _ (done p t) q = refl
  reaches_frame g _ _ _ (more p t u v s k) q = step_frame g p t u s q ∙ reaches_frame g p u v k q

  pub any_frame_kept : law.AnyFrameKept R
  any_frame_kept g n w k = reaches_frame g Elsewhere n w k refl

-- Of the rows

-- what a parent reads of a node stays

equality_summary : (b : Bool) (o : BinaryOperator) (xs : List Name) (n : ℕ) (ts : Trees) → summary (negation (node (shape.BinaryExpression o) xs n ts)) ≡ summary (turned_equality b o xs n ts)
equality_summary true o xs n ts = refl
equality_summary false o xs n ts = refl

neg_summary : (s : Seat) (a : Tree) → summary (negation a) ≡ summary (neg s a)
neg_summary s (node (shape.LogicalExpression And) xs n ts) = refl
neg_summary s (node (shape.LogicalExpression Or) xs n ts) = refl
neg_summary s (node (shape.UnaryExpression LogicalNot) xs n (a ▸ none)) = go (s.boolean || is_boolean a)
  where
    go : (b : Bool) → summary a ≡ summary (unwrapped b a (node (shape.UnaryExpression LogicalNot) xs n (a ▸ none)))
    go true = refl
    go false = refl
neg_summary s (node (shape.BinaryExpression o) xs n ts) = equality_summary (is_equality o) o xs n ts
neg_summary s (node h xs n ts) = refl

row_summary : (p : Position) (n w : Tree) → Row p n w → summary n ≡ summary w
row_summary (Expr s) n w (inl r) = ap summary r.shape ∙ neg_summary s r.e ∙ sym (ap summary r.written)
row_summary (Expr s) n w (inr r) = ap summary r.shape ∙ sym (ap summary r.written)
row_summary (Stmt q) n w (inl r) = ap summary r.shape ∙ sym (ap summary r.written)
row_summary (Stmt q) n w (inr (inl r)) = ap summary r.shape ∙ sym (ap summary r.written)
row_summary (Stmt q) n w (inr (inr r)) = ap summary r.shape ∙ sym (ap summary r.written)
row_summary p n w r = absurd r

pub rows_mean_same : MeansSame Contracts
rows_mean_same = record { same = λ p n w c. equal_same p n w (row_equal p n w c.row); reads = λ p n w c. row_summary p n w c.row }

pub step_same : law.StepSame
step_same = any_step_same Contracts rows_mean_same

pub reaches_same : law.ReachesSame
reaches_same = any_reaches_same Contracts rows_mean_same

body_fits : (k : BodyKind) → Fits Elsewhere (body_demand k)
body_fits BodyKind.Program = tt
body_fits BodyKind.FunctionStatements = tt
body_fits BodyKind.ArrowExpression = tt
body_fits BodyKind.InnerValue = tt
body_fits BodyKind.InnerTarget = tt

pub program_same : law.ProgramSame
program_same n w r e k X = any_body_same Contracts rows_mean_same Elsewhere n w r e k (body_fits k) X

pub frame_kept : law.FrameKept
frame_kept = any_frame_kept Contracts (λ n w c. absurd c.row)

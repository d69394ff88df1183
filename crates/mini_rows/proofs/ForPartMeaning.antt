-- A `for` without a part of its head that does nothing means the same.
use Rattle.std.proofs.Common.{◌≡◌, ℕ, zero, suc, true, [], Option, None, refl, sym, ap, subst, ◌∙◌, inl, inr, true≢false}
use Rattle.std.specs.Prelude.{◌&&◌}
use Rattle.std.proofs.lemmas.Bool.{and_parts}
use Rattle.mini_model.specs.declared.place.Position.TheVariants.{Stmt}
use Rattle.mini_model.specs.declared.seat.StmtSeat.{StmtSeat}
use Rattle.mini_model.specs.Tree.{Tree, none, ◌▸◌, absent}
use Rattle.mini_laws.specs.Value.{VariableSet}
use Rattle.mini_laws.specs.State.{Completion, ok, stop, halt, out, State, Environment}
use Rattle.mini_laws.specs.Demand.{Unused, Tail, Demand, As, Stat, LabelSet, Request}
use Rattle.mini_laws.specs.Command.{run}
use Rattle.mini_laws.specs.Naming.{Summary, Declared, summary}
use Rattle.mini_laws.specs.Asking.{for_demand}
use Rattle.mini_laws.specs.Loops.{for_step}
use Rattle.mini_laws.specs.Replies.{statement}
use Rattle.mini_laws.specs.Step.{step, means, meaning}
use Rattle.mini_laws.specs.Fits.{Fits}
use Rattle.mini_laws.specs.Same.{Same}
use Rattle.mini_laws.specs.Rows.{SameAt}
use Rattle.mini_terms.specs.Folds.{is_effect_free}
use Rattle.mini_terms.specs.Parts.{leaves_nothing, weighs}
use Rattle.mini_terms.specs.Reading.{is_plain_part}
use Rattle.mini_terms.specs.Sound.{Quiet}
use Rattle.mini_terms.proofs.EffectsTable.{effect_free_sound}
use Rattle.mini_rows.specs.Lists.{for_loop}
use Rattle.mini_rows.specs.ForParts.{is_idle, ForPartRow}
use Rattle.mini_rows.proofs.PlainRead.{plain_summary, plain_read}
use Rattle.mini_rows.proofs.ListHeads.{for_names}
use Rattle.mini_rows.proofs.Weaker.{Weaker, weaker_run, weaker_goes}

-- ---- what is idle

pub record Idle (t : Tree) : Type 0 where
  pub effect_free : is_effect_free t ≡ true
  pub dropped : leaves_nothing t ≡ true
  pub heavy : weighs t ≡ true
  pub plain : is_plain_part t ≡ true

pub idle_is : (t : Tree) → is_idle t ≡ true → Idle t
idle_is t h =
    let (free, others) = and_parts (is_effect_free t) (leaves_nothing t && (weighs t && is_plain_part t)) h in
    let (dropped, last) = and_parts (leaves_nothing t) (weighs t && is_plain_part t) others in
    let (heavy, plain) = and_parts (weighs t) (is_plain_part t) last in
    record { effect_free = free; dropped = dropped; heavy = heavy; plain = plain }

absent_unused : (e : Environment) (s : State) → means e absent (As Unused) tt s ≡ ok tt s
unfolding means step
absent_unused e s = refl

nothing_done : (s : State) (x : Completion (Unit {0})) → Quiet s x → Weaker x (ok tt s)
unfolding Quiet
nothing_done s (ok a z) q = inr (ap (ok a) q)
nothing_done s (stop x z) q = absurd q
nothing_done s (halt x z) q = absurd q
nothing_done s out q = inl refl

-- where nobody asks for its value it does what nothing does
abbrev pub LikeNothing : Environment → Tree → Type 0
LikeNothing e t = (s : State) → Weaker (means e t (As Unused) tt s) (means e absent (As Unused) tt s)

pub quiet_is_nothing : (e : Environment) (t : Tree) → ((s : State) → Quiet s (means e t (As Unused) tt s)) → LikeNothing e t
quiet_is_nothing e t q s = subst (Weaker (means e t (As Unused) tt s)) (sym (absent_unused e s)) (nothing_done s (means e t (As Unused) tt s) (q s))

like_nothing : (t : Tree) → is_effect_free t ≡ true → (e : Environment) → LikeNothing e t
like_nothing t h e = quiet_is_nothing e t (effect_free_sound t e true (λ f. absurd (true≢false f)) h Unused)

-- ---- after each turn

-- two updates of which the first leaves the model, or both do the same
abbrev pub Alike : Environment → Tree → Tree → Type 0
Alike e u v = (s : State) → Weaker (means e u (As Unused) tt s) (means e v (As Unused) tt s)

module _ (e : Environment) (i t u v b : Tree) (h : Alike e u v) where
  update_kids : (d : Option Declared) (j : ℕ) (r : Request (for_demand d j)) (s : State) → Weaker (meaning e (i ▸ (t ▸ (u ▸ (b ▸ none)))) j (for_demand d j) r s) (meaning e (i ▸ (t ▸ (v ▸ (b ▸ none)))) j (for_demand d j) r s)
  unfolding meaning
  update_kids d zero r s = inr refl
  update_kids d (suc zero) r s = inr refl
  update_kids d (suc (suc zero)) r s = h s
  update_kids d (suc (suc (suc j))) r s = inr refl

  pub update_weaker : (x : Option Tail) (r : LabelSet) (s : State) → Weaker (means e (for_loop i t u b) (Stat x) r s) (means e (for_loop i t v b) (Stat x) r s)
  unfolding means step
  update_weaker x r s =
      weaker_run e (for_names (summary i).lets) {q = for_demand (summary i).facts.declared}
      (λ j r z. meaning e (i ▸ (t ▸ (u ▸ (b ▸ none)))) j (for_demand (summary i).facts.declared j) r z)
      (λ j r z. meaning e (i ▸ (t ▸ (v ▸ (b ▸ none)))) j (for_demand (summary i).facts.declared j) r z)
      (update_kids (summary i).facts.declared)
      (statement (Stat x) r (for_step (summary i).facts.declared (summary t).facts.absent)) s

-- ---- at first

module _ (e : Environment) (a o t u b : Tree) (h : Alike e a o) (plain : summary a ≡ plain_summary) where
  head_kids : (j : ℕ) (r : Request (for_demand None j)) (s : State) → Weaker (meaning e (a ▸ (t ▸ (u ▸ (b ▸ none)))) j (for_demand None j) r s) (meaning e (o ▸ (t ▸ (u ▸ (b ▸ none)))) j (for_demand None j) r s)
  unfolding meaning
  head_kids zero r s = h s
  head_kids (suc j) r s = inr refl

  module _ (x : Option Tail) (r : LabelSet) (s : State) where
    -- where the head is read so
    abbrev ran : Tree → Summary → Completion (Unit {0})
    ran c m = run {q = for_demand m.facts.declared} e (for_names m.lets) (λ j r z. meaning e (c ▸ (t ▸ (u ▸ (b ▸ none)))) j (for_demand m.facts.declared j) r z) (statement (Stat x) r (for_step m.facts.declared (summary t).facts.absent)) s

    means_ran : (c : Tree) → means e (for_loop c t u b) (Stat x) r s ≡ ran c (summary c)
    unfolding means step
    means_ran c = refl

    ran_weaker : Weaker (ran a plain_summary) (ran o plain_summary)
    ran_weaker =
        weaker_run e (for_names []) {q = for_demand None}
        (λ j r z. meaning e (a ▸ (t ▸ (u ▸ (b ▸ none)))) j (for_demand None j) r z)
        (λ j r z. meaning e (o ▸ (t ▸ (u ▸ (b ▸ none)))) j (for_demand None j) r z)
        head_kids
        (statement (Stat x) r (for_step None (summary t).facts.absent)) s

    -- of the other the loop reads no more than of a plain one
    pub init_weaker : ran o (summary o) ≡ ran o plain_summary → Weaker (means e (for_loop a t u b) (Stat x) r s) (means e (for_loop o t u b) (Stat x) r s)
    init_weaker other =
        subst (λ y. Weaker y (means e (for_loop o t u b) (Stat x) r s)) (sym (means_ran a ∙ ap (ran a) plain))
        (subst (Weaker (ran a plain_summary)) (sym (means_ran o ∙ other)) ran_weaker)

    pub begun_weaker : summary o ≡ plain_summary → Weaker (means e (for_loop a t u b) (Stat x) r s) (means e (for_loop o t u b) (Stat x) r s)
    begun_weaker other = init_weaker (ap (ran o) other)

-- ---- the rows

-- two statements of which the first leaves the model, or both do the same
pub weaker_same : (q : StmtSeat) (n w : Tree) → ((e : Environment) (x : Option Tail) (r : LabelSet) (s : State) → Weaker (means e n (Stat x) r s) (means e w (Stat x) r s)) → SameAt (Stmt q) n w
weaker_same q n w h = record { by = same }
  where
    same : (e : Environment) (D X : VariableSet) (d : Demand) → Fits (Stmt q) d → Same e D X d n w
    same e D X (Stat x) f = record { by = λ r s i. weaker_goes D (means e n (Stat x) r s) (means e w (Stat x) r s) (h e x r s) }
    same e D X d f = absurd f

pub parts_same : (q : StmtSeat) (n w : Tree) → ForPartRow n w → SameAt (Stmt q) n w
parts_same q n w (inl r) =
    let idle = idle_is r.init r.idle in
    subst (λ t. SameAt (Stmt q) t w) (sym r.shape) (subst (SameAt (Stmt q) (for_loop r.init r.test r.update r.body)) (sym r.written)
    (weaker_same q (for_loop r.init r.test r.update r.body) (for_loop absent r.test r.update r.body) (λ e x l s. init_weaker e r.init absent r.test r.update r.body (like_nothing r.init idle.effect_free e) (plain_read r.init idle.plain) x l s refl)))
parts_same q n w (inr r) =
    let idle = idle_is r.update r.idle in
    subst (λ t. SameAt (Stmt q) t w) (sym r.shape) (subst (SameAt (Stmt q) (for_loop r.init r.test r.update r.body)) (sym r.written)
    (weaker_same q (for_loop r.init r.test r.update r.body) (for_loop r.init r.test absent r.body) (λ e x l s. update_weaker e r.init r.test r.update absent r.body (like_nothing r.update idle.effect_free e) x l s)))

pub parts_read : (n w : Tree) → ForPartRow n w → summary n ≡ summary w
parts_read n w (inl r) = ap summary r.shape ∙ sym (ap summary r.written)
parts_read n w (inr r) = ap summary r.shape ∙ sym (ap summary r.written)

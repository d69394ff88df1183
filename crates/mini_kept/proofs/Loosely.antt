-- What any number of steps of a loosely lawful relation keep, and loosely lawful relations.
use Rattle.std.specs.Prelude.{ℕ, zero, suc, ◌≤◌, ◌≡◌, ◌⊎◌, refl, Bool, true, false, List, [], None}
use Rattle.std.proofs.Common.{ap, ◌∙◌, sym, subst, inl, inr, arith, true≢false}
use Rattle.std.proofs.lemmas.Bool.{eqb-true, eq-eqb}
use Rattle.mini_model.specs.declared.place.Position.{Position}
use Rattle.mini_model.specs.declared.place.Position.TheVariants.{Elsewhere}
use Rattle.mini_model.specs.declared.shape.Shape.{Shape}
use Rattle.mini_model.specs.Tree.{Tree, Trees, node, ◌▸◌, count}
use Rattle.mini_model.specs.Position.{child_position}
use Rattle.mini_model.specs.Rewriting.{Step, here, inside, StepIn, first, later, Reaches, done, more}
use Rattle.mini_accept.specs.WellShaped.{one, a_program, IsWellShaped}
use Rattle.mini_laws.specs.declared.names.Use.TheVariants.{Read}
use Rattle.mini_laws.specs.Scoped.{Scoped}
use Rattle.mini_laws.specs.Symbols.{declared_symbols, times, Distinct, Within}
use Rattle.mini_laws.specs.Value.{Variable, Declared, Global, VariableSet, nothing}
use Rattle.mini_laws.specs.State.{Environment}
use Rattle.mini_laws.specs.Naming.{summary}
use Rattle.mini_laws.specs.Congruence.{ReadAlike}
use Rattle.mini_laws.specs.Substitution.{alone}
use Rattle.mini_laws.specs.Bodies.{outermost, bodies, bodies_in}
use Rattle.mini_laws.proofs.Congruent.{avoids_nothing}
use Rattle.mini_laws.proofs.Dead.{alike_self}
use Rattle.mini_kept.specs.Lifted.{KeepsNames, ProgramKeeps}
use Rattle.mini_kept.specs.Loosely.{symbol, SameWith, StaysWith, SteadiesWith, DropsWith, DropsUnder, LawfulBy, LawfulUnder, undeclared, ProgramIsKeptUnder, LooselyKeeps, LawfulIsLoose, LooseWider, LooseIsSteady, SteadyWider, LooseJoin, LooseNarrowed, SteadyJoin, SteadyNarrowed}
use Rattle.mini_kept.specs.Without.{BodySets, none_steady, BodiesUnder, KeepsBodiesUnder}
use Rattle.mini_kept.proofs.BodySteps.{step_under, whole_stands}
use Rattle.mini_kept.proofs.Declared.{reaches_declared}
use Rattle.mini_laws.specs.Fixity.{fixed_by, written_in}
use Rattle.mini_kept.proofs.Fixed.{step_fixed}
use Rattle.mini_kept.proofs.FixedSteps.{fixed_anyway, program_fixed}
use Rattle.mini_kept.specs.Frames.{frames, frames_in}
use Rattle.mini_kept.specs.KeepsFrames.{KeepsPlaces, KeepsFramesBut}
use Rattle.mini_kept.specs.Fixities.{KeepsFixitiesBut}
use Rattle.mini_kept.specs.ShownFrames.{KeyGivenUnder, KeyGiven, no_key, none_gone, gone_from, FramesShown}
use Rattle.mini_kept.proofs.Initializers.{init_stays}
use Rattle.mini_kept.proofs.FrameSteps.{places_of, step_frames_but}
use Rattle.mini_kept.proofs.ShownFrames.{all_frames_more, frames_more, gone_more, shown_on, shown_themselves, given_seldom, given_before}
use Rattle.mini_kept.proofs.Gone.{step_less, avoids}
use Rattle.mini_kept.proofs.Lawful.{reaches_root, keyless_program}
use Rattle.mini_kept.proofs.Steps.{any_step_fits}
use Rattle.mini_kept.proofs.Whole.{any_reaches_keep}
use Rattle.mini_kept.proofs.WithoutLists.{Part, PartEach, permits_part, nothing_part, part_itself, none_part, each_itself, more_under, from_kept, itself_under, kept_on}

-- ---- variables that are gone

one_gone : (k : ℕ) (u : Tree) → times (symbol k) (declared_symbols u) ≡ 0 → Part (alone (Declared k)) (undeclared u)
one_gone k u e (Declared m) h = eq-eqb (times (symbol m) (declared_symbols u)) 0 (sym (ap (λ n. times (symbol n) (declared_symbols u)) (eqb-true k m h)) ∙ e)
one_gone k u e (Global s) h = absurd (true≢false (sym h))

still_gone : (t u : Tree) → Within (declared_symbols u) (declared_symbols t) → Part (undeclared t) (undeclared u)
still_gone t u w (Declared m) h =
    let before = eqb-true (times (symbol m) (declared_symbols t)) 0 h in
    let later = w (symbol m) in
    eq-eqb (times (symbol m) (declared_symbols u)) 0 (omega (arith, before, later))
still_gone t u w (Global s) h = absurd (true≢false (sym h))

-- ---- steps

module _ (R : Position → Tree → Tree → Type 0) (K : Shape → Bool) (W : VariableSet) (S : BodySets) (l : LawfulUnder K W S R) where
  names : KeepsNames R
  names = l.places.names

  program_fits : (t u : Tree) → Step R Elsewhere t u → IsWellShaped t → IsWellShaped u
  program_fits t u s e = any_step_fits R names l.shapes s false (one a_program) refl e

  -- those that stay, and those that drop a symbol
  abbrev Staying : Position → Tree → Tree → Type 0
  Staying p n w = R p n w × SteadiesWith W S p n w

  abbrev Dropping : ℕ → Position → Tree → Tree → Type 0
  Dropping k p n w = R p n w × DropsUnder K W S k p n w

  mutual
    told : {p : Position} {t u : Tree} → Step R p t u → Step Staying p t u ⊎ ((k : ℕ) × Step (Dropping k) p t u)
    told (here p n w r) = by (l.instances p n w r)
      where
        by : SteadiesWith W S p n w ⊎ ((k : ℕ) × DropsUnder K W S k p n w) → Step Staying p n w ⊎ ((k : ℕ) × Step (Dropping k) p n w)
        by (inl d) = inl (here p n w (r, d))
        by (inr d) = inr (d.0, here p n w (r, d.1))
    told (inside p h xs n ts us s) = by (all_told s)
      where
        by : StepIn Staying (child_position h p (count ts)) ts us ⊎ ((k : ℕ) × StepIn (Dropping k) (child_position h p (count ts)) ts us) → Step Staying p (node h xs n ts) (node h xs n us) ⊎ ((k : ℕ) × Step (Dropping k) p (node h xs n ts) (node h xs n us))
        by (inl d) = inl (inside p h xs n ts us d)
        by (inr d) = inr (d.0, inside p h xs n ts us d.1)

    all_told : {π : ℕ → Position} {ts us : Trees} → StepIn R π ts us → StepIn Staying π ts us ⊎ ((k : ℕ) × StepIn (Dropping k) π ts us)
    all_told (first π t u ts s) = by (told s)
      where
        by : Step Staying (π zero) t u ⊎ ((k : ℕ) × Step (Dropping k) (π zero) t u) → StepIn Staying π (t ▸ ts) (u ▸ ts) ⊎ ((k : ℕ) × StepIn (Dropping k) π (t ▸ ts) (u ▸ ts))
        by (inl d) = inl (first π t u ts d)
        by (inr d) = inr (d.0, first π t u ts d.1)
    all_told (later π t ts us s) = by (all_told s)
      where
        by : StepIn Staying (λ i. π (suc i)) ts us ⊎ ((k : ℕ) × StepIn (Dropping k) (λ i. π (suc i)) ts us) → StepIn Staying π (t ▸ ts) (t ▸ us) ⊎ ((k : ℕ) × StepIn (Dropping k) π (t ▸ ts) (t ▸ us))
        by (inl d) = inl (later π t ts us d)
        by (inr d) = inr (d.0, later π t ts us d.1)

  read_alike : (e : Environment) (D : VariableSet) (n w : Tree) → summary n ≡ summary w → ReadAlike D e (summary n) (summary w)
  read_alike e D n w q = subst (ReadAlike D e (summary n)) q (alike_self D e (summary n))

  staying : KeepsBodiesUnder W S nothing Staying
  staying = record {
    means = λ e z. record { same = λ p n w r q f. r.1.same.by e z q f; reads = λ p n w r. read_alike e nothing n w (l.reads p n w r.0) };
    reads = λ p n w r. l.reads p n w r.0;
    pieces = λ p n w r. names.pieces p n w r.0;
    kind = λ p n w r. l.kind p n w r.0;
    bodies = λ p n w r. r.1.bodies;
  }

  dropping : (k : ℕ) → KeepsBodiesUnder W S (alone (Declared k)) (Dropping k)
  dropping k = record {
    means = λ e z. record { same = λ p n w r q f. r.1.same e z q f; reads = λ p n w r. read_alike e (alone (Declared k)) n w (l.reads p n w r.0) };
    reads = λ p n w r. l.reads p n w r.0;
    pieces = λ p n w r. names.pieces p n w r.0;
    kind = λ p n w r. l.kind p n w r.0;
    bodies = λ p n w r. r.1.bodies;
  }

  -- a dropped symbol was declared once, and is declared no more
  dropped : (k : ℕ) (t u : Tree) → Step (Dropping k) Elsewhere t u → Distinct (declared_symbols t) → times (symbol k) (declared_symbols u) ≡ 0
  dropped k t u s d =
      let less = step_less (Dropping k) (symbol k) (λ p n w r. r.1.kept) (λ p n w r. r.1.less) s Read in
      let once : times (symbol k) (declared_symbols t) ≤ 1 = d (symbol k) in
      omega (arith, less, once)

  step_bodies : (t u : Tree) → Step R Elsewhere t u → IsWellShaped t → Scoped Read [] u → Distinct (declared_symbols t) → BodiesUnder W S (undeclared u) (bodies_in t) (bodies_in u)
  step_bodies t u s e v d = by (told s)
    where
      by : Step Staying Elsewhere t u ⊎ ((k : ℕ) × Step (Dropping k) Elsewhere t u) → BodiesUnder W S (undeclared u) (bodies_in t) (bodies_in u)
      by (inl x) = more_under W W S S nothing (undeclared u) (part_itself W) (each_itself S) (nothing_part (undeclared u)) (bodies_in t) (bodies_in u) (step_under Staying W S nothing staying Elsewhere t u x (avoids_nothing u) false (one a_program) refl e outermost whole_stands)
      by (inr (k, x)) =
          let none = dropped k t u x d in
          more_under W W S S (alone (Declared k)) (undeclared u) (part_itself W) (each_itself S) (one_gone k u none) (bodies_in t) (bodies_in u) (step_under (Dropping k) W S (alone (Declared k)) (dropping k) Elsewhere t u x (avoids k Read [] u v refl none) false (one a_program) refl e outermost whole_stands)

  reaches_bodies : (p : Position) (t u : Tree) → Reaches R p t u → p ≡ Elsewhere → IsWellShaped t → Scoped Read [] t → Distinct (declared_symbols t) → BodiesUnder W S (undeclared u) (bodies_in t) (bodies_in u)
  reaches_bodies _ _ _ (done p t) q e v d = itself_under W S (undeclared t) (bodies_in t)
  reaches_bodies _ _ _ (more p t u w s r) q e v d =
      let st : Step R Elsewhere t u = subst (λ x. Step R x t u) q s in
      let rest : Reaches R Elsewhere u w = subst (λ x. Reaches R x u w) q r in
      let one_step : ProgramKeeps t u = any_reaches_keep R names l.shapes t u (more Elsewhere t u u st (done Elsewhere u)) in
      let others : ProgramKeeps u w = any_reaches_keep R names l.shapes u w rest in
      let f = program_fits t u st e in
      let scoped = one_step.scoped e v in
      kept_on W S (undeclared w) (bodies_in t) (bodies_in u) (bodies_in w) (more_under W W S S (undeclared u) (undeclared w) (part_itself W) (each_itself S) (still_gone u w (others.symbols f scoped)) (bodies_in t) (bodies_in u) (step_bodies t u st e scoped d)) (reaches_bodies p u w r q f scoped (one_step.distinct e v d))

  -- ---- frames

  narrowed_places : (Q : Position → Tree → Tree → Type 0) → ((p : Position) (n w : Tree) → Q p n w → R p n w) → KeepsPlaces Q
  narrowed_places Q f = record {
    names = record { places = λ p n w r. names.places p n w (f p n w r); pieces = λ p n w r. names.pieces p n w (f p n w r); keeps = λ p n w r. names.keeps p n w (f p n w r) };
    slots = λ p n w r. l.places.slots p n w (f p n w r);
    ports = λ p n w r. l.places.ports p n w (f p n w r);
    listed = λ p n w e r. l.places.listed p n w e (f p n w r);
    exported = λ p n w r. l.places.exported p n w (f p n w r);
  }

  staying_frames : KeepsFramesBut (gone_from K nothing) Staying
  staying_frames = record { places = narrowed_places Staying (λ p n w r. r.0); frames = λ p n w r strict s v e a. all_frames_more none_gone (gone_from K nothing) (KeyGiven nothing (bodies a n)) (KeyGiven nothing (bodies a n)) (λ h x g. absurd (true≢false (sym g))) (λ m t g. g) (frames None n) (frames None w) (r.1.frames strict s v e a) }

  dropping_frames : (k : ℕ) → KeepsFramesBut (gone_from K (alone (Declared k))) (Dropping k)
  dropping_frames k = record { places = narrowed_places (Dropping k) (λ p n w r. r.0); frames = λ p n w r strict s v e a. frames_more (gone_from K (alone (Declared k))) no_key (KeyGiven nothing (bodies a n)) (λ m t g. absurd g) (frames None n) (frames None w) (r.1.frames strict s v e) }

  step_frames : (t u : Tree) → Step R Elsewhere t u → IsWellShaped t → Distinct (declared_symbols t) → FramesShown (gone_from K (undeclared u)) (KeyGiven nothing (bodies_in t)) (frames_in t) (frames_in u)
  step_frames t u s e d = by (told s)
    where
      G : ℕ → List ℕ → Type 0
      G = KeyGiven nothing (bodies_in t)

      by : Step Staying Elsewhere t u ⊎ ((k : ℕ) × Step (Dropping k) Elsewhere t u) → FramesShown (gone_from K (undeclared u)) G (frames_in t) (frames_in u)
      by (inl x) = all_frames_more (gone_from K nothing) (gone_from K (undeclared u)) G G (gone_more K nothing (undeclared u) (nothing_part (undeclared u))) (λ n s g. g) (frames_in t) (frames_in u) (step_frames_but (gone_from K nothing) Staying staying_frames t u x e)
      by (inr (k, x)) =
          all_frames_more (gone_from K (alone (Declared k))) (gone_from K (undeclared u)) G G (gone_more K (alone (Declared k)) (undeclared u) (one_gone k u (dropped k t u x d))) (λ n s g. g) (frames_in t) (frames_in u)
          (step_frames_but (gone_from K (alone (Declared k))) (Dropping k) (dropping_frames k) t u x e)

  -- a key that only gives a property does so before, too, where nobody else sees what is gone
  reaches_frames : (p : Position) (t u : Tree) → Reaches R p t u → p ≡ Elsewhere → IsWellShaped t → Scoped Read [] t → Distinct (declared_symbols t) → FramesShown (gone_from K (undeclared u)) (KeyGivenUnder W S (undeclared u) (bodies_in t)) (frames_in t) (frames_in u)
  reaches_frames _ _ _ (done p t) q e v d = shown_themselves (gone_from K (undeclared t)) (KeyGivenUnder W S (undeclared t) (bodies_in t)) (frames_in t)
  reaches_frames _ _ _ (more p t u w s r) q e v d =
      let st : Step R Elsewhere t u = subst (λ x. Step R x t u) q s in
      let rest : Reaches R Elsewhere u w = subst (λ x. Reaches R x u w) q r in
      let one_step : ProgramKeeps t u = any_reaches_keep R names l.shapes t u (more Elsewhere t u u st (done Elsewhere u)) in
      let others : ProgramKeeps u w = any_reaches_keep R names l.shapes u w rest in
      let f = program_fits t u st e in
      let scoped = one_step.scoped e v in
      let gone = still_gone u w (others.symbols f scoped) in
      let kept = more_under W W S S (undeclared u) (undeclared w) (part_itself W) (each_itself S) gone (bodies_in t) (bodies_in u) (step_bodies t u st e scoped d) in
      let M = gone_from K (undeclared w) in
      shown_on M (KeyGivenUnder W S (undeclared w) (bodies_in t)) (frames_in t) (frames_in u) (frames_in w)
      (all_frames_more (gone_from K (undeclared u)) M (KeyGiven nothing (bodies_in t)) (KeyGivenUnder W S (undeclared w) (bodies_in t)) (gone_more K (undeclared u) (undeclared w) gone) (given_seldom W S (undeclared w) (bodies_in t)) (frames_in t) (frames_in u) (step_frames t u st e d))
      (frames_more M (KeyGivenUnder W S (undeclared w) (bodies_in u)) (KeyGivenUnder W S (undeclared w) (bodies_in t)) (given_before W S (undeclared w) (bodies_in t) (bodies_in u) kept) (frames_in u) (frames_in w) (reaches_frames p u w r q f scoped (one_step.distinct e v d)))

  -- ---- what a write of a variable does that is still declared

  not_part : (D E : VariableSet) → Part D E → (x : Variable) → E x ≡ false → D x ≡ false
  not_part D E f x e = by (D x) refl
    where
      by : (b : Bool) → D x ≡ b → D x ≡ false
      by true q = absurd (true≢false (sym (f x q) ∙ e))
      by false q = q

  dropping_fixed : (k : ℕ) → KeepsFixitiesBut (alone (Declared k)) (Dropping k)
  dropping_fixed k = record { reads = λ p n w r. l.reads p n w r.0; fixed = λ p n w r. r.1.fixed }

  step_fixities : (t u : Tree) → Step R Elsewhere t u → IsWellShaped t → Scoped Read [] t → Distinct (declared_symbols t) → (x : Variable) → undeclared u x ≡ false → fixed_by t x ≡ fixed_by u x
  step_fixities t u s e v d x h = by (told s)
    where
      by : Step Staying Elsewhere t u ⊎ ((k : ℕ) × Step (Dropping k) Elsewhere t u) → fixed_by t x ≡ fixed_by u x
      by (inl y) = program_fixed x Staying (narrowed_places Staying (λ p n w r. r.0)).names (λ n w r. init_stays R l.shapes n w r.0) (λ p n w r. l.reads p n w r.0) (λ p n w r. r.1.fixed) t u y e v d h
      by (inr (k, y)) = step_fixed (alone (Declared k)) (Dropping k) (dropping_fixed k) y x (not_part (alone (Declared k)) (undeclared u) (one_gone k u (dropped k t u y d)) x h)

  reaches_fixities : (p : Position) (t u : Tree) → Reaches R p t u → p ≡ Elsewhere → IsWellShaped t → Scoped Read [] t → Distinct (declared_symbols t) → (x : Variable) → undeclared u x ≡ false → fixed_by t x ≡ fixed_by u x
  reaches_fixities _ _ _ (done p t) q e v d x h = refl
  reaches_fixities _ _ _ (more p t u w s r) q e v d x h =
      let st : Step R Elsewhere t u = subst (λ x. Step R x t u) q s in
      let rest : Reaches R Elsewhere u w = subst (λ x. Reaches R x u w) q r in
      let one_step : ProgramKeeps t u = any_reaches_keep R names l.shapes t u (more Elsewhere t u u st (done Elsewhere u)) in
      let others : ProgramKeeps u w = any_reaches_keep R names l.shapes u w rest in
      let f = program_fits t u st e in
      let scoped = one_step.scoped e v in
      let still = not_part (undeclared u) (undeclared w) (still_gone u w (others.symbols f scoped)) x h in
      step_fixities t u st e v d x still ∙ reaches_fixities p u w r q f scoped (one_step.distinct e v d) x h

  pub steadily_keeps : (t u : Tree) → Reaches R Elsewhere t u → IsWellShaped t → ProgramIsKeptUnder K W S t u
  steadily_keeps t u r e = record {
    names = any_reaches_keep R names l.shapes t u r;
    bodies = reaches_bodies Elsewhere t u r refl e;
    frames = reaches_frames Elsewhere t u r refl e;
    fixities = λ v d strict x h. ap (written_in strict x) (reaches_fixities Elsewhere t u r refl e v d x h);
    declared = reaches_declared R l.declared r;
    root = reaches_root R names refl (keyless_program t e) r;
  }

-- ---- lawful relations

module _ (R : Position → Tree → Tree → Type 0) where
  -- what is said of each instance may be said otherwise
  lawful_by : (I J : Position → Tree → Tree → Type 0) → ((p : Position) (n w : Tree) → I p n w → J p n w) → LawfulBy I R → LawfulBy J R
  lawful_by I J f l = record { shapes = l.shapes; places = l.places; reads = l.reads; kind = l.kind; declared = l.declared; instances = λ p n w r. f p n w (l.instances p n w r) }

  pub lawful_is_loose : LawfulIsLoose R
  lawful_is_loose K W l = record {
    shapes = l.shapes;
    places = places_of R l.frames;
    reads = l.bodies.means.reads;
    kind = l.bodies.kind;
    declared = l.declared;
    instances = λ p n w r. inl (record { same = record { by = λ e z. (l.bodies.means.same p n w r).by e nothing nothing }; fixed = fixed_anyway p n w (l.fixed p n w r); frames = l.frames.frames p n w r; bodies = λ strict s q e a z. l.bodies.bodies p n w r strict s q e a z });
  }

  same_wider : (V W : VariableSet) → Part V W → (p : Position) (n w : Tree) → SameWith V p n w → SameWith W p n w
  same_wider V W f p n w d = record { by = λ e z. d.by e (permits_part V W nothing nothing f (part_itself nothing) e z) }

  stays_wider : (V W : VariableSet) → Part V W → (p : Position) (n w : Tree) → StaysWith V p n w → StaysWith W p n w
  stays_wider V W f p n w d = record { same = same_wider V W f p n w d.same; fixed = d.fixed; frames = d.frames; bodies = d.bodies }

  drops_under : (K : Shape → Bool) (V W : VariableSet) (Q S : BodySets) → Part V W → PartEach Q S → (k : ℕ) (p : Position) (n w : Tree) → DropsUnder K V Q k p n w → DropsUnder K W S k p n w
  drops_under K V W Q S f g k p n w d =
      let D = alone (Declared k) in
      record {
        kept = d.kept;
        less = d.less;
        same = λ e z. d.same e (permits_part V W D D f (part_itself D) e z);
        fixed = d.fixed;
        frames = d.frames;
        bodies = λ strict s q e a z. more_under V W Q S D D f g (part_itself D) (bodies a n) (bodies a w) (d.bodies strict s q e a z);
      }

  drops_wider : (K : Shape → Bool) (V W : VariableSet) → Part V W → (k : ℕ) (p : Position) (n w : Tree) → DropsWith K V k p n w → DropsWith K W k p n w
  drops_wider K V W f = drops_under K V W none_steady none_steady f (each_itself none_steady)

  pub loose_wider : LooseWider R
  loose_wider K V W f = lawful_by (λ p n w. StaysWith V p n w ⊎ ((k : ℕ) × DropsWith K V k p n w)) (λ p n w. StaysWith W p n w ⊎ ((k : ℕ) × DropsWith K W k p n w)) by
    where
      by : (p : Position) (n w : Tree) → StaysWith V p n w ⊎ ((k : ℕ) × DropsWith K V k p n w) → StaysWith W p n w ⊎ ((k : ℕ) × DropsWith K W k p n w)
      by p n w (inl d) = inl (stays_wider V W f p n w d)
      by p n w (inr d) = inr (d.0, drops_wider K V W f d.0 p n w d.1)

  -- what stays does so whatever is known of the bodies
  steady_anyway : (W : VariableSet) (S : BodySets) (p : Position) (n w : Tree) → StaysWith W p n w → SteadiesWith W S p n w
  steady_anyway W S p n w d = record {
    same = d.same;
    fixed = d.fixed;
    frames = d.frames;
    bodies = λ strict s q e a z. more_under nothing W none_steady S nothing nothing (nothing_part W) (none_part S) (part_itself nothing) (bodies a n) (bodies a w) (from_kept nothing (bodies a n) (bodies a w) (d.bodies strict s q e a z));
  }

  pub loose_is_steady : LooseIsSteady R
  loose_is_steady K W S = lawful_by (λ p n w. StaysWith W p n w ⊎ ((k : ℕ) × DropsWith K W k p n w)) (λ p n w. SteadiesWith W S p n w ⊎ ((k : ℕ) × DropsUnder K W S k p n w)) by
    where
      by : (p : Position) (n w : Tree) → StaysWith W p n w ⊎ ((k : ℕ) × DropsWith K W k p n w) → SteadiesWith W S p n w ⊎ ((k : ℕ) × DropsUnder K W S k p n w)
      by p n w (inl d) = inl (steady_anyway W S p n w d)
      by p n w (inr d) = inr (d.0, drops_under K W W none_steady S (part_itself W) (none_part S) d.0 p n w d.1)

  steadies_wider : (V W : VariableSet) (Q S : BodySets) → Part V W → PartEach Q S → (p : Position) (n w : Tree) → SteadiesWith V Q p n w → SteadiesWith W S p n w
  steadies_wider V W Q S f g p n w d = record {
    same = same_wider V W f p n w d.same;
    fixed = d.fixed;
    frames = d.frames;
    bodies = λ strict s q e a z. more_under V W Q S nothing nothing f g (part_itself nothing) (bodies a n) (bodies a w) (d.bodies strict s q e a z);
  }

  pub steady_wider : SteadyWider R
  steady_wider K V W Q S f g = lawful_by (λ p n w. SteadiesWith V Q p n w ⊎ ((k : ℕ) × DropsUnder K V Q k p n w)) (λ p n w. SteadiesWith W S p n w ⊎ ((k : ℕ) × DropsUnder K W S k p n w)) by
    where
      by : (p : Position) (n w : Tree) → SteadiesWith V Q p n w ⊎ ((k : ℕ) × DropsUnder K V Q k p n w) → SteadiesWith W S p n w ⊎ ((k : ℕ) × DropsUnder K W S k p n w)
      by p n w (inl d) = inl (steadies_wider V W Q S f g p n w d)
      by p n w (inr d) = inr (d.0, drops_under K V W Q S f g d.0 p n w d.1)

  pub loosely_keeps : LooselyKeeps R
  loosely_keeps K W l = steadily_keeps R K W none_steady (loose_is_steady K W none_steady l)

module _ (R S : Position → Tree → Tree → Type 0) where
  one_or_other : {X : Position → Tree → Tree → Type 0} → ((p : Position) (n w : Tree) → R p n w → X p n w) → ((p : Position) (n w : Tree) → S p n w → X p n w) → (p : Position) (n w : Tree) → R p n w ⊎ S p n w → X p n w
  one_or_other f g p n w (inl r) = f p n w r
  one_or_other f g p n w (inr s) = g p n w s

  either_row : (p : Position) (n w : Tree) {X : Type 0} → (R p n w → X) → (S p n w → X) → R p n w ⊎ S p n w → X
  either_row p n w f g (inl r) = f r
  either_row p n w f g (inr s) = g s

  -- what is said of each instance being the same
  join_by : (I : Position → Tree → Tree → Type 0) → LawfulBy I R → LawfulBy I S → LawfulBy I (λ p t u. R p t u ⊎ S p t u)
  join_by I l m = record {
    shapes = record { fitting = one_or_other l.shapes.fitting m.shapes.fitting; asked = one_or_other l.shapes.asked m.shapes.asked };
    places = record {
      names = record { places = one_or_other l.places.names.places m.places.names.places; pieces = one_or_other l.places.names.pieces m.places.names.pieces; keeps = one_or_other l.places.names.keeps m.places.names.keeps };
      slots = one_or_other l.places.slots m.places.slots;
      ports = one_or_other l.places.ports m.places.ports;
      listed = λ p n w e. either_row p n w (l.places.listed p n w e) (m.places.listed p n w e);
      exported = one_or_other l.places.exported m.places.exported;
    };
    reads = one_or_other l.reads m.reads;
    kind = one_or_other l.kind m.kind;
    declared = one_or_other l.declared m.declared;
    instances = one_or_other l.instances m.instances;
  }

  narrowed : {X : Position → Tree → Tree → Type 0} → ((p : Position) (n w : Tree) → R p n w → S p n w) → ((p : Position) (n w : Tree) → S p n w → X p n w) → (p : Position) (n w : Tree) → R p n w → X p n w
  narrowed f g p n w r = g p n w (f p n w r)

  narrowed_by : (I : Position → Tree → Tree → Type 0) → ((p : Position) (t u : Tree) → R p t u → S p t u) → LawfulBy I S → LawfulBy I R
  narrowed_by I f l = record {
    shapes = record { fitting = narrowed f l.shapes.fitting; asked = narrowed f l.shapes.asked };
    places = record {
      names = record { places = narrowed f l.places.names.places; pieces = narrowed f l.places.names.pieces; keeps = narrowed f l.places.names.keeps };
      slots = narrowed f l.places.slots;
      ports = narrowed f l.places.ports;
      listed = λ p n w e r. l.places.listed p n w e (f p n w r);
      exported = narrowed f l.places.exported;
    };
    reads = narrowed f l.reads;
    kind = narrowed f l.kind;
    declared = narrowed f l.declared;
    instances = narrowed f l.instances;
  }

  pub loose_join : LooseJoin R S
  loose_join K W = join_by (λ p n w. StaysWith W p n w ⊎ ((k : ℕ) × DropsWith K W k p n w))

  pub loose_narrowed : LooseNarrowed R S
  loose_narrowed K W = narrowed_by (λ p n w. StaysWith W p n w ⊎ ((k : ℕ) × DropsWith K W k p n w))

  pub steady_join : SteadyJoin R S
  steady_join K W Q = join_by (λ p n w. SteadiesWith W Q p n w ⊎ ((k : ℕ) × DropsUnder K W Q k p n w))

  pub steady_narrowed : SteadyNarrowed R S
  steady_narrowed K W Q = narrowed_by (λ p n w. SteadiesWith W Q p n w ⊎ ((k : ℕ) × DropsUnder K W Q k p n w))

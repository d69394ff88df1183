-- What any number of steps keep of a program of which some give a whole program other statements.
use Rattle.std.specs.Prelude.{ℕ, ◌≡◌, ◌⊎◌, refl, Bool, true, false, List}
use Rattle.std.proofs.Common.{ap, ◌∙◌, sym, subst, inl, inr, arith, true≢false}
use Rattle.std.proofs.lemmas.Bool.{eqb-true, eq-eqb}
use Rattle.mini_model.specs.declared.place.Position.{Position}
use Rattle.mini_model.specs.declared.place.Position.TheVariants.{Elsewhere}
use Rattle.mini_model.specs.declared.shape.Shape.{Shape}
use Rattle.mini_model.specs.declared.shape.Shape.TheVariants as shape
use Rattle.mini_model.specs.Tree.{Tree, Trees, node, children, shape_of}
use Rattle.mini_model.specs.Rewriting.{Step, here, inside, StepIn, first, later, Reaches, done, more}
use Rattle.mini_accept.specs.WellShaped.{IsWellShaped}
use Rattle.mini_laws.specs.Value.{Variable, Declared, Global, VariableSet}
use Rattle.mini_laws.specs.State.{State}
use Rattle.mini_laws.specs.Same.{Initialised}
use Rattle.mini_laws.specs.Body.{start_of}
use Rattle.mini_laws.specs.Bodies.{Body, bodies_in}
use Rattle.mini_laws.specs.Symbols.{declared_symbols, times, Within}
use Rattle.mini_kept.specs.Frames.{frames_in}
use Rattle.mini_kept.specs.Kept.{over}
use Rattle.mini_kept.specs.Lifted.{ProgramKeeps}
use Rattle.mini_kept.specs.Loosely.{symbol, LawfulUnder, undeclared, ProgramIsKeptUnder}
use Rattle.mini_kept.specs.Rooted.{is_program, is_body, Inner, Outer, LawfulRooted, RootedKeeps, SteadyIsRooted, RootedWider, RootedJoin, RootedNarrowed}
use Rattle.mini_kept.specs.ShownFrames.{KeyGivenUnder, gone_from}
use Rattle.mini_kept.specs.Without.{BodySets}
use Rattle.mini_kept.proofs.Loosely.{steadily_keeps, steady_wider, steady_join, steady_narrowed}
use Rattle.mini_kept.proofs.ProgramPlaces.{NoProgram, below_program}
use Rattle.mini_kept.proofs.ShownFrames.{all_frames_more, frames_more, gone_more, shown_on, given_before}
use Rattle.mini_kept.proofs.WithoutLists.{Part, PartEach, permits_part, part_itself, each_itself, steady_part, more_under, kept_on}

-- ---- a key that is given is so where more is known

initialised_part : (X Y : VariableSet) → Part X Y → (s : State) → Initialised Y s → Initialised X s
unfolding Initialised
initialised_part X Y f s i x h = i x (f x h)

given_wider : (V W : VariableSet) (Q S : BodySets) (C D : VariableSet) → Part V W → PartEach Q S → Part C D → (bs : List Body) (n : ℕ) (s : List ℕ) → KeyGivenUnder V Q C bs n s → KeyGivenUnder W S D bs n s
given_wider V W Q S C D f g h bs n s k = record {
  body = k.body;
  there = k.there;
  number = k.number;
  kind = k.kind;
  gives = record {
    by = λ e u v vars this answers turns i.
        k.gives.by e (permits_part V W C D f h e u) (steady_part (Q k.body.number) (S k.body.number) (g k.body.number) e v) vars this answers turns
        (initialised_part (Q k.body.number).initial (S k.body.number).initial (g k.body.number).initial (start_of vars this answers turns) i);
  };
}

kept_wider : (K : Shape → Bool) (V W : VariableSet) (Q S : BodySets) → Part V W → PartEach Q S → (t u : Tree) → ProgramIsKeptUnder K V Q t u → ProgramIsKeptUnder K W S t u
kept_wider K V W Q S f g t u k =
    let D = undeclared u in
    record {
      names = k.names;
      bodies = λ v d. more_under V W Q S D D f g (part_itself D) (bodies_in t) (bodies_in u) (k.bodies v d);
      frames = λ v d. frames_more (gone_from K D) (KeyGivenUnder V Q D (bodies_in t)) (KeyGivenUnder W S D (bodies_in t)) (given_wider V W Q S D D f g (part_itself D) (bodies_in t)) (frames_in t) (frames_in u) (k.frames v d);
      fixities = k.fixities;
      declared = k.declared;
      root = k.root;
    }

-- ---- what is kept of one program after another

both_keep : (t u w : Tree) → ProgramKeeps t u → ProgramKeeps u w → ProgramKeeps t w
both_keep t u w a b = record {
  shaped = λ e. b.shaped (a.shaped e);
  scoped = λ e r. b.scoped (a.shaped e) (a.scoped e r);
  distinct = λ e r d. b.distinct (a.shaped e) (a.scoped e r) (a.distinct e r d);
  symbols = λ e r x. omega (arith, a.symbols e r x, b.symbols (a.shaped e) (a.scoped e r) x);
  numbers = λ e k. omega (arith, a.numbers e k, b.numbers (a.shaped e) k);
  once = λ e o. b.once (a.shaped e) (a.once e o);
  targets = λ e o. b.targets (a.shaped e) (a.targets e o);
}

over_over : (t u w : Tree) → u ≡ over t (children u) → w ≡ over u (children w) → w ≡ over t (children w)
over_over (node h xs n ts) u w a b = b ∙ ap (λ x. over x (children w)) a

still_gone : (t u : Tree) → Within (declared_symbols u) (declared_symbols t) → Part (undeclared t) (undeclared u)
still_gone t u w (Declared m) h =
    let before = eqb-true (times (symbol m) (declared_symbols t)) 0 h in
    let later = w (symbol m) in
    eq-eqb (times (symbol m) (declared_symbols u)) 0 (omega (arith, before, later))
still_gone t u w (Global s) h = absurd (true≢false (sym h))

still_there : (C D : VariableSet) → Part C D → (x : Variable) → D x ≡ false → C x ≡ false
still_there C D f x e = by (C x) refl
  where
    by : (b : Bool) → C x ≡ b → C x ≡ false
    by true q = absurd (true≢false (sym (f x q) ∙ e))
    by false q = q

module _ (K : Shape → Bool) (W : VariableSet) (S : BodySets) where
  kept_then : (t u w : Tree) → IsWellShaped t → ProgramIsKeptUnder K W S t u → ProgramIsKeptUnder K W S u w → ProgramIsKeptUnder K W S t w
  kept_then t u w e a b =
      let D = undeclared w in
      let M = gone_from K D in
      let f = a.names.shaped e in
      record {
        names = both_keep t u w a.names b.names;
        bodies = λ v d.
            let s = a.names.scoped e v in
            let gone = still_gone u w (b.names.symbols f s) in
            kept_on W S D (bodies_in t) (bodies_in u) (bodies_in w) (more_under W W S S (undeclared u) D (part_itself W) (each_itself S) gone (bodies_in t) (bodies_in u) (a.bodies v d)) (b.bodies s (a.names.distinct e v d));
        frames = λ v d.
            let s = a.names.scoped e v in
            let gone = still_gone u w (b.names.symbols f s) in
            let kept = more_under W W S S (undeclared u) D (part_itself W) (each_itself S) gone (bodies_in t) (bodies_in u) (a.bodies v d) in
            shown_on M (KeyGivenUnder W S D (bodies_in t)) (frames_in t) (frames_in u) (frames_in w)
            (all_frames_more (gone_from K (undeclared u)) M (KeyGivenUnder W S (undeclared u) (bodies_in t)) (KeyGivenUnder W S D (bodies_in t)) (gone_more K (undeclared u) D gone) (given_wider W W S S (undeclared u) D (part_itself W) (each_itself S) gone (bodies_in t)) (frames_in t) (frames_in u) (a.frames v d))
            (frames_more M (KeyGivenUnder W S D (bodies_in u)) (KeyGivenUnder W S D (bodies_in t)) (given_before W S D (bodies_in t) (bodies_in u) kept) (frames_in u) (frames_in w) (b.frames s (a.names.distinct e v d)));
        fixities = λ v d strict x h.
            let s = a.names.scoped e v in
            a.fixities v d strict x (still_there (undeclared u) D (still_gone u w (b.names.symbols f s)) x h) ∙ b.fixities s (a.names.distinct e v d) strict x h;
        declared = λ x c. a.declared x (b.declared x c);
        root = over_over t u w a.root b.root;
      }

-- ---- one step

-- what holds of each instance of a step's relation
module _ {R Q : Position → Tree → Tree → Type 0} (f : (p : Position) (t u : Tree) → R p t u → Q p t u) where
  mutual
    pub step_on : {p : Position} {t u : Tree} → Step R p t u → Step Q p t u
    step_on (here p t u r) = here p t u (f p t u r)
    step_on (inside p h xs n ts us s) = inside p h xs n ts us (steps_on s)

    steps_on : {π : ℕ → Position} {ts us : Trees} → StepIn R π ts us → StepIn Q π ts us
    steps_on (first π t u ts s) = first π t u ts (step_on s)
    steps_on (later π t ts us s) = later π t ts us (steps_on s)

-- a step of some relation of many is one of that
module _ (I : Type 0) (Q : I → Position → Tree → Tree → Type 0) where
  abbrev Some : Position → Tree → Tree → Type 0
  Some p t u = (i : I) × Q i p t u

  mutual
    pub step_of : {p : Position} {t u : Tree} → Step Some p t u → (i : I) × Step (Q i) p t u
    step_of (here p t u r) = (r.0, here p t u r.1)
    step_of (inside p h xs n ts us s) = let (i, q) = steps_of s in (i, inside p h xs n ts us q)

    steps_of : {π : ℕ → Position} {ts us : Trees} → StepIn Some π ts us → (i : I) × StepIn (Q i) π ts us
    steps_of (first π t u ts s) = let (i, q) = step_of s in (i, first π t u ts q)
    steps_of (later π t ts us s) = let (i, q) = steps_of s in (i, later π t ts us q)

-- none is made where there is no instance
module _ {R : Position → Tree → Tree → Type 0} (f : (p : Position) (t u : Tree) → R p t u → ⊥) where
  mutual
    no_step : {p : Position} {t u : Tree} → Step R p t u → ⊥
    no_step (here p t u r) = f p t u r
    no_step (inside p h xs n ts us s) = no_steps s

    no_steps : {π : ℕ → Position} {ts us : Trees} → StepIn R π ts us → ⊥
    no_steps (first π t u ts s) = no_step s
    no_steps (later π t ts us s) = no_steps s

-- one of either relation is one of the one or of the other
module _ (R Q : Position → Tree → Tree → Type 0) where
  abbrev OneOf : Bool → Position → Tree → Tree → Type 0
  OneOf true = R
  OneOf false = Q

  one_of : (p : Position) (t u : Tree) → R p t u ⊎ Q p t u → (b : Bool) × OneOf b p t u
  one_of p t u (inl r) = (true, r)
  one_of p t u (inr r) = (false, r)

  pub step_either : {p : Position} {t u : Tree} → Step (λ p t u. R p t u ⊎ Q p t u) p t u → Step R p t u ⊎ Step Q p t u
  step_either s = by (step_of Bool OneOf (step_on one_of s))
    where
      by : {p : Position} {t u : Tree} → (b : Bool) × Step (OneOf b) p t u → Step R p t u ⊎ Step Q p t u
      by (true, q) = inl q
      by (false, q) = inr q

-- ---- any number of steps

module _ (R : Position → Tree → Tree → Type 0) where
  -- each is at a body or at another node
  sides : (p : Position) (t u : Tree) → R p t u → Inner R p t u ⊎ Outer R p t u
  sides p t u r = by (is_body (shape_of t)) refl
    where
      by : (b : Bool) → is_body (shape_of t) ≡ b → Inner R p t u ⊎ Outer R p t u
      by true q = inr (r, q)
      by false q = inl (r, q)

  module _ (K : Shape → Bool) (W : VariableSet) (S : BodySets) (l : LawfulRooted K W S R) where
    one_step : {p : Position} {t u : Tree} → p ≡ Elsewhere → Step R p t u → IsWellShaped t → ProgramIsKeptUnder K W S t u
    one_step {t = t} {u = u} q s e = by (step_either (Inner R) (Outer R) (step_on sides (subst (λ x. Step R x t u) q s)))
      where
        by : Step (Inner R) Elsewhere t u ⊎ Step (Outer R) Elsewhere t u → ProgramIsKeptUnder K W S t u
        by (inl i) = steadily_keeps (Inner R) K W S l.inner t u (more Elsewhere t u u i (done Elsewhere u)) e
        by (inr o) = l.whole t u o e

    rooted_reach : {p : Position} {t u : Tree} → p ≡ Elsewhere → Reaches R p t u → IsWellShaped t → ProgramIsKeptUnder K W S t u
    rooted_reach q (done p t) e = steadily_keeps (Inner R) K W S l.inner t t (done Elsewhere t) e
    rooted_reach q (more p t u w s r) e =
        let a = one_step q s e in
        kept_then K W S t u w e a (rooted_reach q r (a.names.shaped e))

  pub rooted_keeps : RootedKeeps R
  rooted_keeps K W S l t u r e = rooted_reach K W S l refl r e

  pub steady_is_rooted : SteadyIsRooted R
  steady_is_rooted K W S l = record {
    inner = steady_narrowed (Inner R) R K W S (λ p t u r. r.0) l;
    whole = λ t u s e. steadily_keeps R K W S l t u (more Elsewhere t u u (step_on (λ p t u r. r.0) s) (done Elsewhere u)) e;
  }

  pub rooted_wider : RootedWider R
  rooted_wider K V W Q S f g l = record {
    inner = steady_wider (Inner R) K V W Q S f g l.inner;
    whole = λ t u s e. kept_wider K V W Q S f g t u (l.whole t u s e);
  }

module _ (R Q : Position → Tree → Tree → Type 0) where
  apart : (p : Position) (t u : Tree) → Inner (λ p t u. R p t u ⊎ Q p t u) p t u → Inner R p t u ⊎ Inner Q p t u
  apart p t u (inl r, k) = inl (r, k)
  apart p t u (inr r, k) = inr (r, k)

  outer_apart : (p : Position) (t u : Tree) → Outer (λ p t u. R p t u ⊎ Q p t u) p t u → Outer R p t u ⊎ Outer Q p t u
  outer_apart p t u (inl r, k) = inl (r, k)
  outer_apart p t u (inr r, k) = inr (r, k)

  pub rooted_join : RootedJoin R Q
  rooted_join K W S l m = record {
    inner = steady_narrowed (Inner (λ p t u. R p t u ⊎ Q p t u)) (λ p t u. Inner R p t u ⊎ Inner Q p t u) K W S apart (steady_join (Inner R) (Inner Q) K W S l.inner m.inner);
    whole = λ t u s e. by t u (step_either (Outer R) (Outer Q) (step_on outer_apart s)) e;
  }
    where
      by : (t u : Tree) → Step (Outer R) Elsewhere t u ⊎ Step (Outer Q) Elsewhere t u → IsWellShaped t → ProgramIsKeptUnder K W S t u
      by t u (inl s) e = l.whole t u s e
      by t u (inr s) e = m.whole t u s e

  pub rooted_narrowed : RootedNarrowed R Q
  rooted_narrowed K W S f l = record {
    inner = steady_narrowed (Inner R) (Inner Q) K W S (λ p t u r. (f p t u r.0, r.1)) l.inner;
    whole = λ t u s e. l.whole t u (step_on (λ p t u r. (f p t u r.0, r.1)) s) e;
  }

-- what makes nothing is lawful, so that of what replaces bodies alone it is asked that a program in which it does is kept
pub bodies_rooted : (R : Position → Tree → Tree → Type 0) → ((p : Position) (t u : Tree) → R p t u → is_body (shape_of t) ≡ true) → (K : Shape → Bool) (W : VariableSet) (S : BodySets) → ((t u : Tree) → Step R Elsewhere t u → IsWellShaped t → ProgramIsKeptUnder K W S t u) → LawfulRooted K W S R
bodies_rooted R f K W S k = record { inner = nowhere; whole = λ t u s e. k t u (step_on (λ p t u r. r.0) s) e }
  where
    never : {X : Type 0} (p : Position) (t u : Tree) → Inner R p t u → X
    never p t u r = absurd (true≢false (sym (f p t u r.0) ∙ r.1))

    nowhere : LawfulUnder K W S (Inner R)
    nowhere = record {
      shapes = record { fitting = λ p n w r. never p n w r; asked = λ p n w r. never p n w r };
      places = record {
        names = record { places = λ p n w r. never p n w r; pieces = λ p n w r. never p n w r; keeps = λ p n w r. never p n w r };
        slots = λ p n w r. never p n w r;
        ports = λ p n w r. never p n w r;
        listed = λ p n w e r. never p n w r;
        exported = λ p n w r. never p n w r;
      };
      reads = λ p n w r. never p n w r;
      kind = λ p n w r. never p n w r;
      declared = λ p n w r. never p n w r;
      instances = λ p n w r. never p n w r;
    }

-- and of what replaces programs alone that these are, since a program is the root
pub programs_rooted : (R : Position → Tree → Tree → Type 0) → ((p : Position) (t u : Tree) → R p t u → is_program (shape_of t) ≡ true) → (K : Shape → Bool) (W : VariableSet) (S : BodySets) → ((t u : Tree) → R Elsewhere t u → IsWellShaped t → ProgramIsKeptUnder K W S t u) → LawfulRooted K W S R
programs_rooted R f K W S k = bodies_rooted R (λ p t u r. program_body (shape_of t) (f p t u r)) K W S (λ t u s e. at_root refl s e)
  where
    program_body : (h : Shape) → is_program h ≡ true → is_body h ≡ true
    program_body (shape.Program m ds) e = refl
    program_body h e = absurd (true≢false (sym e))

    at_root : {p : Position} {t u : Tree} → p ≡ Elsewhere → Step R p t u → IsWellShaped t → ProgramIsKeptUnder K W S t u
    at_root q (here p t u r) e = k t u (subst (λ x. R x t u) q r) e
    at_root q (inside p h xs n ts us s) e = absurd (no_step {R = NoProgram R} (λ p t u r. true≢false (sym (f p t u r.0) ∙ r.1)) (below_program R p h xs n ts us e s))

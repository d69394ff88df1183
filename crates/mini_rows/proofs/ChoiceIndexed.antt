-- Two assignments to a member of a name whose key stands in brackets, between which a conditional chooses: one assignment chooses its value.
use Rattle.std.proofs.Common.{◌≡◌, ◌<◌, Bool, true, false, [], refl, sym, ap, subst, ◌∙◌, inl, inr, arith, true≢false}
use Rattle.std.specs.Prelude.{◌&&◌, nat_eq, is_none}
use Rattle.std.proofs.lemmas.Bool.{and_parts}
use Rattle.mini_model.specs.declared.name.Name.{Name}
use Rattle.mini_model.specs.declared.operator.AssignmentOperator.TheVariants.{Assign}
use Rattle.mini_model.specs.declared.place.Position.TheVariants.{Expr}
use Rattle.mini_model.specs.declared.seat.Seat.{Seat}
use Rattle.mini_model.specs.Tree.{Tree, none, ◌▸◌, identifier, conditional}
use Rattle.mini_model.specs.Position.{argument_seat, branch_seat, conditional_level}
use Rattle.mini_model.specs.Weight.{outlines, weight}
use Rattle.mini_accept.specs.WellShaped.{a_target, one, fits}
use Rattle.mini_laws.specs.Value.{Value, choose, truth}
use Rattle.mini_laws.specs.Conversion.{key_value}
use Rattle.mini_laws.specs.State.{State, Completion, ok, out, either, Environment}
use Rattle.mini_laws.specs.Demand.{Target, Prepare, Put, Reference, AMember}
use Rattle.mini_laws.specs.Step.{step, means, meaning}
use Rattle.mini_laws.proofs.Runs.{either_cong}
use Rattle.mini_laws.proofs.Seats.{placed}
use Rattle.mini_kept.proofs.Bools.{left, both}
use Rattle.mini_kept.proofs.Expressions.{expression, three_fit}
use Rattle.mini_rows.specs.Arranged.{KeptAt}
use Rattle.mini_node.specs.Kinds.{computed_member}
use Rattle.mini_rows.specs.Choices.{Row45Indexed, IndexedLighter, ChosenIndexedRow}
use Rattle.mini_rows.specs.Sketches.{Assignment, Conditional, Sketch, part, under, end, ◌▹◌, still, Parts}
use Rattle.mini_rows.specs.Spellings.{assignment}
use Rattle.mini_rows.proofs.ArrangedExpressions.{expressions_arranged, CodeKept, code_arranged}
use Rattle.mini_rows.proofs.ChainRuns.{next}
use Rattle.mini_rows.proofs.ChoiceFree.{Told, goes_on_chosen, begins_alike, told_there}
use Rattle.mini_rows.proofs.ChoiceRuns.{value, reading, conditional_tells, conditional_value, assignment_tells, by_value}
use Rattle.mini_rows.proofs.ChoiceWeights.{loose_marks}
use Rattle.mini_rows.proofs.SpellAlike.{SameTree}
use Rattle.mini_rows.proofs.SpellMeaning.{same_by}
use Rattle.mini_rows.proofs.SpellWeights.{falls_by}

-- ---- what is assigned to

-- it is known, with nothing done besides
abbrev pub target : Environment → Tree → State → Completion Reference
target e t s = means e t Target Prepare s

told_next : {A B : Type 0} (y : Completion A) (s : State) → Told y s → (f : A → State → Completion B) → ((a : A) → Told (f a s) s) → Told (next y f) s
unfolding either
told_next y s (inl o) f g = inl (ap (λ x. next x f) o)
told_next y s (inr (a, k)) f g = by (g a)
  where
    by : Told (f a s) s → Told (next y f) s
    by (inl o) = inl (ap (λ x. next x f) k ∙ o)
    by (inr (b, m)) = inr (b, ap (λ x. next x f) k ∙ m)

pub member_target : (f k : Tree) (e : Environment) (s : State) → target e (computed_member f k) s ≡ next (value e f s) (λ v z. next (value e k z) (λ u y. ok (AMember v (key_value u)) y))
unfolding means meaning step
member_target f k e s = either_cong (value e f s) _ _ _ _ (λ v z. either_cong (value e k z) _ _ _ _ (λ u y. refl) (λ x y. refl)) (λ x z. refl)

target_told : (x : Name) → is_none x.symbol ≡ false → (k : Tree) (e : Environment) (s : State) → Told (value e k s) s → Told (target e (computed_member (identifier x) k) s) s
target_told x declared k e s h =
    subst (λ y. Told y s) (sym (member_target (identifier x) k e s))
    (told_next (value e (identifier x) s) s (reading e x declared s) (λ v z. next (value e k z) (λ u y. ok (AMember v (key_value u)) y)) (λ v. told_next (value e k s) s h (λ u y. ok (AMember v (key_value u)) y) (λ u. inr (AMember v (key_value u), refl))))

-- ---- the assignment

abbrev pub puts_to : Environment → Tree → Reference → Completion Value → Completion Value
puts_to e t r y = next y (λ v z. next (means e t Target (Put r v) z) (λ u k. ok v k))

pub assigned_value : (e : Environment) (t b : Tree) (s : State) → value e (assignment Assign t b) s ≡ next (target e t s) (λ r z. puts_to e t r (value e b z))
unfolding means meaning step
assigned_value e t b s = either_cong (target e t s) _ _ _ _ (λ r z. either_cong (value e b z) _ _ _ _ (λ v y. either_cong (means e t Target (Put r v) y) _ _ _ _ (λ u k. refl) (λ x k. refl)) (λ x y. refl)) (λ x z. refl)

module _ (e : Environment) (a t b c : Tree) (s : State) (test : Told (value e a s) s) where
  abbrev puts_either : Reference → State → Completion Value
  puts_either r z = puts_to e t r (value e (conditional a b c) z)

  nothing_put : (r : Reference) → puts_to e t r out ≡ out
  unfolding either
  nothing_put r = refl

  either_put : (r : Reference) → puts_either r s ≡ next (value e a s) (λ v z. choose (truth v) (puts_to e t r (value e b z)) (puts_to e t r (value e c z)))
  either_put r = ap (puts_to e t r) (conditional_value e a b c s) ∙ goes_on_chosen (puts_to e t r) (nothing_put r) (value e a s) s test (λ z. value e b z) (λ z. value e c z)

  chosen_value : Told (target e t s) s → value e (conditional a (assignment Assign t b) (assignment Assign t c)) s ≡ value e (assignment Assign t (conditional a b c)) s
  chosen_value known =
      conditional_value e a (assignment Assign t b) (assignment Assign t c) s
      ∙ begins_alike s (target e t s) (value e a s) known test (λ r z. puts_to e t r (value e b z)) (λ r z. puts_to e t r (value e c z)) puts_either either_put (λ z. value e (assignment Assign t b) z) (λ z. value e (assignment Assign t c) z) (assigned_value e t b s) (assigned_value e t c s)
      ∙ sym (assigned_value e t (conditional a b c) s)

-- where `this` is asked of the world only if it has an effect
pub indexed_there : (e : Environment) (asked : Bool) → (asked ≡ false → e.asks_this ≡ false) → (q : Seat) (n w : Tree) (r : ChosenIndexedRow asked q n w) (s : State) → value e (conditional r.a (assignment Assign (computed_member (identifier r.name) r.key) r.b) (assignment Assign (computed_member (identifier r.name) r.key) r.c)) s ≡ value e (assignment Assign (computed_member (identifier r.name) r.key) (conditional r.a r.b r.c)) s
indexed_there e asked f q n w r s =
    chosen_value e r.a (computed_member (identifier r.name) r.key) r.b r.c s (told_there e asked f r.a r.effect_free s) (target_told r.name r.declared r.key e s (told_there e asked f r.key r.idle s))

-- 45 of members means the same
pub indexed_same : (s : Seat) (n w : Tree) → Row45Indexed s n w → SameTree n w
indexed_same s n w r =
    let t = computed_member (identifier r.name) r.key in
    same_by n w _ _ r.shape r.written
    (by_value _ _ (conditional_tells r.a (assignment Assign t r.b) (assignment Assign t r.c)) (assignment_tells Assign t (conditional r.a r.b r.c)) refl
    (λ e z. indexed_there e true (λ f. absurd (true≢false f)) s n w r z))

-- ---- where it stands

module _ (strict : Bool) where
  abbrev Fits : Tree → Type 0
  Fits t = fits strict expression t ≡ true

  of_put : (t b : Tree) → Fits (assignment Assign t b) → (fits strict (one a_target) t ≡ true) × Fits b
  of_put t b e = let (y, z) = and_parts (fits strict (one a_target) t) (fits strict expression b && true) e in (y, left (fits strict expression b) true z)

  pub indexed_fit : (t a b c : Tree) → Fits a → Fits (assignment Assign t b) → Fits (assignment Assign t c) → Fits (assignment Assign t (conditional a b c))
  indexed_fit t a b c test e f =
      let (there, first) = of_put t b e in
      both (fits strict (one a_target) t) (fits strict expression (conditional a b c) && true) there (both (fits strict expression (conditional a b c)) true (three_fit strict a b c test first (of_put t c f).1) refl)

-- ---- the same parts

abbrev assigns_part : Sketch → Sketch
assigns_part s = under (Assignment Assign) (part 0 ▹ s ▹ end)

abbrev indexed_parts : {asked : Bool} {q : Seat} {n w : Tree} → ChosenIndexedRow asked q n w → Parts
indexed_parts r = record { trees = computed_member (identifier r.name) r.key ▸ r.a ▸ r.b ▸ r.c ▸ none; lists = [] }

pub indexed_code : (asked : Bool) (q : Seat) (n w : Tree) → ChosenIndexedRow asked q n w → CodeKept n w
indexed_code asked q n w r =
    code_arranged still (indexed_parts r) (tt, tt) Conditional (Assignment Assign) (part 1 ▹ assigns_part (part 2) ▹ assigns_part (part 3) ▹ end) (part 0 ▹ under Conditional (part 1 ▹ part 2 ▹ part 3 ▹ end) ▹ end) refl n w r.shape r.written

pub indexed_kept : (asked : Bool) (q : Seat) (n w : Tree) → ChosenIndexedRow asked q n w → KeptAt (Expr q) n w
indexed_kept asked q n w r =
    expressions_arranged (indexed_parts r) (under Conditional (part 1 ▹ assigns_part (part 2) ▹ assigns_part (part 3) ▹ end)) (assigns_part (under Conditional (part 1 ▹ part 2 ▹ part 3 ▹ end))) refl q n w r.shape r.written

-- ---- lighter: a member and its `=` go

pub indexed_falls : (s : Seat) → nat_eq s.level conditional_level ≡ false → (t a b c : Tree) → weight (Expr s) (assignment Assign t (conditional a b c)) < weight (Expr s) (conditional a (assignment Assign t b) (assignment Assign t c))
indexed_falls s e t a b c =
    let marks = loose_marks s Assign (outlines (t ▸ conditional a b c ▸ none)) (outlines (a ▸ assignment Assign t b ▸ assignment Assign t c ▸ none)) e in
    let first = placed 0 (branch_seat argument_seat) argument_seat refl (λ h os. omega arith) b in
    let second = placed 0 (branch_seat argument_seat) argument_seat refl (λ h os. omega arith) c in
    omega (arith, marks, first, second)

pub indexed_lighter : IndexedLighter
indexed_lighter s n w r = falls_by (Expr s) n w _ _ r.shape r.written (indexed_falls s r.seated (computed_member (identifier r.name) r.key) r.a r.b r.c)

-- What members of an object do whose value stays as it is: it may be evaluated once, and the write comes last.
use Rattle.std.proofs.Common.{◌≡◌, ℕ, List, Bool, true, false, refl, sym, ap, ◌∙◌, inl, inr}
use Rattle.std.specs.Prelude.{◌⊎◌, ◌&&◌, ◌||◌, not}
use Rattle.std.proofs.lemmas.Bool.{and_parts}
use Rattle.mini_model.specs.declared.name.Name.{Name}
use Rattle.mini_model.specs.declared.operator.AssignmentOperator.{AssignmentOperator}
use Rattle.mini_model.specs.declared.operator.AssignmentOperator.TheVariants.{Assign}
use Rattle.mini_model.specs.declared.operator.LogicalOperator.{LogicalOperator}
use Rattle.mini_model.specs.declared.operator.LogicalOperator.TheVariants.{Or, And, Coalesce}
use Rattle.mini_model.specs.Tree.{Tree, Trees, none, ◌▸◌, identifier, logical, conditional}
use Rattle.mini_model.specs.Paths.{append}
use Rattle.mini_laws.specs.Conversion.{key_value}
use Rattle.mini_laws.specs.Value.{Value, Declared, Slot, Holds, Missing, Uninitialised, choose, truth}
use Rattle.mini_laws.specs.State.{State, Completion, ok, stop, halt, out, either, Environment}
use Rattle.mini_laws.specs.Demand.{Want, Demand, As, Val, Unused, Target, Reference, AMember, Prepare, Fetch, Request}
use Rattle.mini_laws.specs.Command.{ret, kid, then, bind, read_slot, this_of, act, run}
use Rattle.mini_laws.specs.Replies.{reply}
use Rattle.mini_laws.specs.Same.{Filled, Initialised}
use Rattle.mini_laws.specs.Steady.{Spares, KeepsSlot}
use Rattle.mini_laws.specs.Step.{step, means, meaning}
use Rattle.mini_laws.specs.Truth.{told}
use Rattle.mini_laws.specs.Targets.{assigns, AssignDemand, put_target, after_read}
use Rattle.mini_laws.proofs.Runs.{either_cong, either_assoc, either_ok}
use Rattle.mini_laws.proofs.Sparing.{steady}
use Rattle.mini_laws.proofs.Truth.{coherent}
use Rattle.mini_kept.specs.Without.{Assured, Steadies}
use Rattle.mini_node.specs.Kinds.{computed_member}
use Rattle.mini_rows.specs.Choices.{Key, Named, Spelled, Numbered, member_on, deciding}
use Rattle.mini_rows.specs.Lists.{of_parts, sequence}
use Rattle.mini_rows.specs.Members.{this, Object, OfThis, OfName, object, is_kept, are_left, begins_at, is_ready, Index, Written, Held, member_at, is_kept_index, is_ready_index}
use Rattle.mini_rows.specs.Past.{binds, any_bind, writes, any_write}
use Rattle.mini_rows.specs.Spellings.{assignment}
use Rattle.mini_rows.specs.Unused.{resolved}
use Rattle.mini_rows.proofs.ChainRuns.{next}
use Rattle.mini_rows.proofs.ChoiceFree.{over_choice}
use Rattle.mini_rows.proofs.ChoiceIndexed.{target, member_target, puts_to, assigned_value as target_assigned}
use Rattle.mini_rows.proofs.ChoiceLast.{in_order}
use Rattle.mini_rows.proofs.ChoiceMembers.{at, prepared, fetch, put, member_value, put_again, assigned_value, names, kids}
use Rattle.mini_rows.proofs.ChoiceRuns.{value, Reading, reading, by_told, logical_value, conditional_value}
use Rattle.mini_rows.proofs.KeptThis.{KeepsThis, this_kept}
use Rattle.mini_rows.proofs.PastSpared.{left_alone}
use Rattle.mini_rows.proofs.ReadFirst.{first_gone}
use Rattle.mini_rows.proofs.WriteMeaning.{holds_read, read_value}

-- ---- an assignment that decides, of a member

module _ (e : Environment) (t : Tree) (j : Key) (b : Tree) where
  abbrev m : Tree
  m = member_on t j

  abbrev puts : Value → Completion Value → Completion Value
  puts v y = next y (λ u l. put e t j v u l)

  decides : (c : AssignmentOperator) (v : Value) (g : Bool) (a : Value) (y : State) → run {q = AssignDemand} e (names e t c j b) (kids e t j b) (bind (choose g (kid 1 tt (then (put_target (after_read (at e t j v))))) (ret a)) (reply (As Val) tt)) y ≡ choose g (puts v (value e b y)) (ok a y)
  unfolding meaning
  decides c v true a y = either_cong (value e b y) _ _ _ _ (λ u l. ap (λ p. next p (λ o i. ok u i)) (put_again e t j v u l)) (λ u l. refl)
  decides c v false a y = refl

  abbrev OfKind : LogicalOperator → AssignmentOperator → Type 0
  OfKind o c = (s : State) → value e (assignment c m b) s ≡ next (means e m Target Prepare s) (λ r z. next (means e m Target (Fetch r) z) (λ a y. run {q = AssignDemand} e (names e t c j b) (kids e t j b) (bind (choose (assigns o a) (kid 1 tt (then (put_target (after_read r)))) (ret a)) (reply (As Val) tt)) y))

  of_kind : (o : LogicalOperator) → OfKind o (deciding o)
  unfolding means meaning step either
  of_kind Or s = refl
  of_kind And s = refl
  of_kind Coalesce s = refl

  -- it reads the member, and decides by it whether to write
  decided_value : (o : LogicalOperator) (s : State) → value e (assignment (deciding o) m b) s ≡ next (value e t s) (λ v z. next (fetch e t j v z) (λ a y. choose (assigns o a) (puts v (value e b y)) (ok a y)))
  unfolding either
  decided_value o s =
      of_kind o s
      ∙ ap (λ p. next p (λ r z. next (means e m Target (Fetch r) z) (λ a y. run {q = AssignDemand} e (names e t (deciding o) j b) (kids e t j b) (bind (choose (assigns o a) (kid 1 tt (then (put_target (after_read r)))) (ret a)) (reply (As Val) tt)) y))) (prepared e t j s)
      ∙ either_assoc (value e t s) (λ v z. ok (at e t j v) z) (λ y z. stop y z) _ _
      ∙ either_cong (value e t s) _ _ _ _ (λ v z. either_cong (fetch e t j v z) _ _ _ _ (λ a y. decides (deciding o) v (assigns o a) a y) (λ a y. refl)) (λ y z. refl)

-- ---- an object whose value stays

-- it is evaluated again as it was
abbrev Stays : {A : Type 0} → Environment → Tree → Value → Completion A → Type 0
Stays e t v (ok a z) = value e t z ≡ ok v z
Stays e t v (stop i z) = Unit {0}
Stays e t v (halt i z) = Unit {0}
Stays e t v out = Unit {0}

-- what goes on after a reply may rest on that
by_staying : {A B : Type 0} (e : Environment) (t : Tree) (v : Value) (y : Completion A) → Stays e t v y → (f g : A → State → Completion B) → ((a : A) (z : State) → value e t z ≡ ok v z → f a z ≡ g a z) → next y f ≡ next y g
unfolding either
by_staying e t v (ok a z) h f g k = k a z h
by_staying e t v (stop i z) h f g k = refl
by_staying e t v (halt i z) h f g k = refl
by_staying e t v out h f g k = refl

-- it does nothing but give its value, which stays whatever such a tree does
pub record Remains (e : Environment) (t : Tree) (Left : Demand → Tree → Type 0) : Type 0 where
  pub told : (s : State) → Reading (value e t s) s
  pub again : (n : Tree) (q : Demand) → Left q n → (r : Request q) (v : Value) (s : State) → value e t s ≡ ok v s → Stays e t v (means e n q r s)

-- ---- rows

module _ (e : Environment) (t : Tree) (Left : Demand → Tree → Type 0) (o : Remains e t Left) (j : Key) where
  abbrev own_member : Tree
  own_member = member_on t j

  put_then : (b : Tree) (v : Value) (z : State) → value e t z ≡ ok v z → value e (assignment Assign own_member b) z ≡ puts e t j b v (value e b z)
  put_then b v z r = assigned_value e t j b z ∙ ap (λ p. next p (λ v z. next (value e b z) (λ u y. put e t j v u y))) r ∙ either_ok v z _ _

  -- 38: what is evaluated on the right writes the member
  decides_alike : Left Target own_member → (l : LogicalOperator) (w b : Tree) → ((v : Value) (y : State) → value e t y ≡ ok v y → value e w y ≡ puts e t j b v (value e b y)) → (s : State) → value e (logical l own_member w) s ≡ value e (assignment (deciding l) own_member b) s
  unfolding either
  decides_alike i l w b h s =
      logical_value e l own_member w s
      ∙ ap (λ p. next p (λ a y. choose (assigns l a) (value e w y) (ok a y))) (member_value e t j s)
      ∙ either_assoc (value e t s) (λ v z. fetch e t j v z) (λ y z. stop y z) _ _
      ∙ either_cong (value e t s) _ _ _ _ (λ v z. refl) (λ y z. refl)
      ∙ by_told (value e t s) s (o.told s) (λ v z. next (fetch e t j v z) (λ a y. choose (assigns l a) (value e w y) (ok a y))) (λ v z. next (fetch e t j v z) (λ a y. choose (assigns l a) (puts e t j b v (value e b y)) (ok a y)))
      (λ v r. by_staying e t v (fetch e t j v s) (o.again own_member Target i (Fetch (at e t j v)) v s r) _ _ (λ a y k. ap (λ c. choose (assigns l a) c (ok a y)) (h v y k)))
      ∙ sym (decided_value e t j b l s)

  pub member_decides : Left Target own_member → (l : LogicalOperator) (b : Tree) (s : State) → value e (logical l own_member (assignment Assign own_member b)) s ≡ value e (assignment (deciding l) own_member b) s
  member_decides i l b = decides_alike i l (assignment Assign own_member b) b (put_then b)

  put_last : (p : Tree) (ps : Trees) → Left (As Unused) (of_parts p ps) → (b : Tree) (v : Value) (y : State) → value e t y ≡ ok v y → value e (sequence (p ▸ append ps (assignment Assign own_member b ▸ none))) y ≡ puts e t j b v (value e (sequence (p ▸ append ps (b ▸ none))) y)
  unfolding either
  put_last p ps i b v y r =
      in_order e p ps (assignment Assign own_member b) y
      ∙ by_staying e t v (means e (of_parts p ps) (As Unused) tt y) (o.again (of_parts p ps) (As Unused) i tt v y r) (λ u z. value e (assignment Assign own_member b) z) (λ u z. puts e t j b v (value e b z)) (λ u z k. put_then b v z k)
      ∙ sym (ap (puts e t j b v) (in_order e p ps b y) ∙ either_assoc (means e (of_parts p ps) (As Unused) tt y) (λ u z. value e b z) (λ x z. stop x z) _ _)

  pub last_decides : Left Target own_member → (l : LogicalOperator) (p : Tree) (ps : Trees) → Left (As Unused) (of_parts p ps) → (b : Tree) (s : State) → value e (logical l own_member (sequence (p ▸ append ps (assignment Assign own_member b ▸ none)))) s ≡ value e (assignment (deciding l) own_member (sequence (p ▸ append ps (b ▸ none)))) s
  last_decides i l p ps k b = decides_alike i l (sequence (p ▸ append ps (assignment Assign own_member b ▸ none))) (sequence (p ▸ append ps (b ▸ none))) (put_last p ps k b)

-- ---- 45

-- it may be evaluated before a test, from this state: both leave the model there, or it gives a value and gives it again after the test
Ready : Environment → Tree → Tree → State → Type 0
Ready e t a s = ((value e t s ≡ out) × (value e a s ≡ out)) ⊎ ((v : Value) × (value e t s ≡ ok v s) × Stays e t v (value e a s))

-- so it is with what is assigned to
abbrev Again : {A : Type 0} → Environment → Tree → Reference → Completion A → Type 0
Again e m r (ok a z) = target e m z ≡ ok r z
Again e m r (stop i z) = Unit {0}
Again e m r (halt i z) = Unit {0}
Again e m r out = Unit {0}

by_again : {A B : Type 0} (e : Environment) (m : Tree) (r : Reference) (y : Completion A) → Again e m r y → (f g : A → State → Completion B) → ((a : A) (z : State) → target e m z ≡ ok r z → f a z ≡ g a z) → next y f ≡ next y g
unfolding either
by_again e m r (ok a z) h f g k = k a z h
by_again e m r (stop i z) h f g k = refl
by_again e m r (halt i z) h f g k = refl
by_again e m r out h f g k = refl

abbrev pub Settled : Environment → Tree → Tree → State → Type 0
Settled e m a s = ((target e m s ≡ out) × (value e a s ≡ out)) ⊎ ((r : Reference) × (target e m s ≡ ok r s) × Again e m r (value e a s))

module _ (e : Environment) (m : Tree) where
  put_at : (b : Tree) (r : Reference) (z : State) → target e m z ≡ ok r z → value e (assignment Assign m b) z ≡ puts_to e m r (value e b z)
  put_at b r z h = target_assigned e m b z ∙ ap (λ p. next p (λ r z. puts_to e m r (value e b z))) h ∙ either_ok r z _ _

  -- what a test chooses is written
  pub chosen : (a b c : Tree) (s : State) → Settled e m a s → value e (conditional a (assignment Assign m b) (assignment Assign m c)) s ≡ value e (assignment Assign m (conditional a b c)) s
  unfolding either
  chosen a b c s (inl (h, g)) =
      conditional_value e a (assignment Assign m b) (assignment Assign m c) s
      ∙ ap (λ y. either y (λ u z. choose (truth u) (value e (assignment Assign m b) z) (value e (assignment Assign m c) z)) (λ x z. stop x z)) g
      ∙ sym (target_assigned e m (conditional a b c) s ∙ ap (λ p. next p (λ r z. puts_to e m r (value e (conditional a b c) z))) h)
  chosen a b c s (inr (r, h, g)) =
      conditional_value e a (assignment Assign m b) (assignment Assign m c) s
      ∙ by_again e m r (value e a s) g (λ u z. choose (truth u) (value e (assignment Assign m b) z) (value e (assignment Assign m c) z)) (λ u z. puts_to e m r (choose (truth u) (value e b z) (value e c z)))
      (λ u z k. (λ i. choose (truth u) (put_at b r z k i) (put_at c r z k i)) ∙ sym (over_choice (puts_to e m r) (truth u) (value e b z) (value e c z)))
      ∙ sym (ap (puts_to e m r) (conditional_value e a b c s) ∙ either_assoc (value e a s) (λ u z. choose (truth u) (value e b z) (value e c z)) (λ x z. stop x z) _ _)
      ∙ sym (put_at (conditional a b c) r s h)

-- a member whose parts are ready
module _ (e : Environment) (t : Tree) where
  key_again : {A : Type 0} (j : Key) (v : Value) (y : Completion A) → Stays e t v y → Again e (member_on t j) (at e t j v) y
  unfolding either
  key_again j v (ok a z) h = prepared e t j z ∙ ap (λ p. next p (λ v z. ok (at e t j v) z)) h
  key_again j v (stop i z) h = tt
  key_again j v (halt i z) h = tt
  key_again j v out h = tt

  written_settled : (j : Key) (a : Tree) (s : State) → Ready e t a s → Settled e (member_on t j) a s
  unfolding Ready either
  written_settled j a s (inl (h, g)) = inl (prepared e t j s ∙ ap (λ p. next p (λ v z. ok (at e t j v) z)) h, g)
  written_settled j a s (inr (v, h, g)) = inr (at e t j v, prepared e t j s ∙ ap (λ p. next p (λ v z. ok (at e t j v) z)) h, key_again j v (value e a s) g)

  module _ (k : Tree) where
    reached : (v p : Value) (z : State) → value e t z ≡ ok v z → value e k z ≡ ok p z → target e (computed_member t k) z ≡ ok (AMember v (key_value p)) z
    unfolding either
    reached v p z h g = member_target t k e z ∙ ap (λ y. next y (λ v z. next (value e k z) (λ u y. ok (AMember v (key_value u)) y))) h ∙ ap (λ y. next y (λ u y. ok (AMember v (key_value u)) y)) g

    both_again : {A : Type 0} (v p : Value) (y : Completion A) → Stays e t v y → Stays e k p y → Again e (computed_member t k) (AMember v (key_value p)) y
    both_again v p (ok a z) h g = reached v p z h g
    both_again v p (stop i z) h g = tt
    both_again v p (halt i z) h g = tt
    both_again v p out h g = tt

    held_settled : (a : Tree) (s : State) → Ready e t a s → Ready e k a s → Settled e (computed_member t k) a s
    unfolding Ready either
    held_settled a s (inl (h, g)) y = inl (member_target t k e s ∙ ap (λ y. next y (λ v z. next (value e k z) (λ u y. ok (AMember v (key_value u)) y))) h, g)
    held_settled a s (inr (v, h, g)) (inl (i, j)) = inl (member_target t k e s ∙ ap (λ y. next y (λ v z. next (value e k z) (λ u y. ok (AMember v (key_value u)) y))) h ∙ ap (λ y. next y (λ u y. ok (AMember v (key_value u)) y)) i, j)
    held_settled a s (inr (v, h, g)) (inr (p, i, j)) = inr (AMember v (key_value p), reached v p s h i, both_again v p (value e a s) g j)

-- ---- a name that no answer changes

module _ (e : Environment) (spelling : List ℕ) (k : ℕ) (still : e.foreign (Declared k) ≡ false) where
  abbrev x : Name
  x = resolved spelling k

  -- it is read again as it was
  read_again : (v : Value) (s z : State) → value e (identifier x) s ≡ ok v s → z.vars (Declared k) ≡ s.vars (Declared k) → value e (identifier x) z ≡ ok v z
  unfolding read_slot
  read_again v s z r h = read_value e spelling k z ∙ ap (λ c. read_slot c z) (h ∙ holds_read (s.vars (Declared k)) v s (sym (read_value e spelling k s) ∙ r))

  slot_stays : {A : Type 0} (v : Value) (s : State) → value e (identifier x) s ≡ ok v s → (y : Completion A) → KeepsSlot (Declared k) (s.vars (Declared k)) y → Stays e (identifier x) v y
  slot_stays v s r (ok a z) h = read_again v s z r h
  slot_stays v s r (stop i z) h = tt
  slot_stays v s r (halt i z) h = tt
  slot_stays v s r out h = tt

  name_remains : Remains e (identifier x) (Spares (Declared k))
  name_remains = record {
    told = reading e x refl;
    again = λ n q i r v s h. slot_stays v s h (means e n q r s) (steady e (Declared k) still n q i r s);
  }

-- ---- `this` for which the world isn't asked

module _ (e : Environment) (has : e.asks_this ≡ false) where
  pub this_value : (s : State) → value e this s ≡ ok s.self s
  unfolding means step act this_of either
  this_value s = ap (λ b. either (this_of e b s) (λ v z. ok v z) (λ x z. stop x z)) has

  read_self : (v : Value) (s z : State) → value e this s ≡ ok v s → z.self ≡ s.self → value e this z ≡ ok v z
  read_self v s z r h = this_value z ∙ ap (λ w. ok w z) (h ∙ held (sym (this_value s) ∙ r))
    where
      held : ok s.self s ≡ ok v s → s.self ≡ v
      held p = cc p

  self_stays : {A : Type 0} (v : Value) (s : State) → value e this s ≡ ok v s → (y : Completion A) → KeepsThis s.self y → Stays e this v y
  self_stays v s r (ok a z) h = read_self v s z r h
  self_stays v s r (stop i z) h = tt
  self_stays v s r (halt i z) h = tt
  self_stays v s r out h = tt

  pub this_remains : Remains e this (λ q n. Unit {0})
  this_remains = record {
    told = λ s. inr (s.self, this_value s);
    again = λ n q i r v s h. self_stays v s h (means e n q r s) (this_kept e n q r s);
  }

-- the member itself writes no name
spares : (spelling : List ℕ) (k : ℕ) (j : Key) → Spares (Declared k) Target (member_on (identifier (resolved spelling k)) j)
spares spelling k (Named s) = (record { written = refl; bound = refl; scope = refl; functions = refl }, ((record { written = refl; bound = refl; scope = refl; functions = refl }, tt), ((record { written = refl; bound = refl; scope = refl; functions = refl }, tt), tt)))
spares spelling k (Spelled s) = (record { written = refl; bound = refl; scope = refl; functions = refl }, ((record { written = refl; bound = refl; scope = refl; functions = refl }, tt), ((record { written = refl; bound = refl; scope = refl; functions = refl }, tt), tt)))
spares spelling k (Numbered i) = (record { written = refl; bound = refl; scope = refl; functions = refl }, ((record { written = refl; bound = refl; scope = refl; functions = refl }, tt), ((record { written = refl; bound = refl; scope = refl; functions = refl }, tt), tt)))

-- ---- what is known of the body

-- what leaves the object as it is
abbrev pub LeftBy : Object → Demand → Tree → Type 0
LeftBy OfThis q n = Unit {0}
LeftBy (OfName spelling k) q n = Spares (Declared k) q n

pub remains : (V : Assured) (e : Environment) → Steadies V e → (of : Object) → is_kept V of ≡ true → Remains e (object of) (LeftBy of)
remains V e z OfThis h = this_remains e (z.has_this h)
remains V e z (OfName spelling k) h = name_remains e spelling k (z.steady (Declared k) h)

pub left_member : (of : Object) (j : Key) → LeftBy of Target (member_on (object of) j)
left_member OfThis j = tt
left_member (OfName spelling k) j = spares spelling k j

not_so : (b : Bool) → not b ≡ true → b ≡ false
not_so true e = absurd (cc e)
not_so false e = refl

-- of a name, what neither declares nor writes it
record Unwritten (spelling : List ℕ) (k : ℕ) (ts : Trees) : Type 0 where
  unbound : any_bind k ts ≡ false
  unwritten : any_write (resolved spelling k) ts ≡ false

neither : (b c : Bool) → b ≡ false → c ≡ false → (b || c) ≡ false
neither b c e f = (λ i. e i || f i)

unwritten : (spelling : List ℕ) (k : ℕ) (ts : Trees) → are_left (OfName spelling k) ts ≡ true → Unwritten spelling k ts
unwritten spelling k none h = record { unbound = refl; unwritten = refl }
unwritten spelling k (t ▸ ts) h =
    let x : Name = resolved spelling k in
    let (here, rest) = and_parts (not (binds k t) && not (writes x t)) (are_left (OfName spelling k) ts) h in
    let (b, w) = and_parts (not (binds k t)) (not (writes x t)) here in
    let u = unwritten spelling k ts rest in
    record { unbound = neither (binds k t) (any_bind k ts) (not_so (binds k t) b) u.unbound; unwritten = neither (writes x t) (any_write x ts) (not_so (writes x t) w) u.unwritten }

pub left_parts : (of : Object) (p : Tree) (ps : Trees) → are_left of (p ▸ ps) ≡ true → LeftBy of (As Unused) (of_parts p ps)
left_parts OfThis p ps h = tt
left_parts (OfName spelling k) p none h =
    let (b, w) = and_parts (not (binds k p)) (not (writes (resolved spelling k) p)) (and_parts (not (binds k p) && not (writes (resolved spelling k) p)) true h).0 in
    left_alone (resolved spelling k) k refl p (not_so (binds k p) b) (not_so (writes (resolved spelling k) p) w) (As Unused) tt
left_parts (OfName spelling k) p (q ▸ qs) h =
    let u = unwritten spelling k (p ▸ q ▸ qs) h in
    left_alone (resolved spelling k) k refl (sequence (p ▸ q ▸ qs)) (ap (λ b. b || false) u.unbound) (ap (λ b. b || false) u.unwritten) (As Unused) tt

-- ---- of a test before which it may be evaluated

left_test : (V : Assured) (of : Object) (a : Tree) → is_ready V of a ≡ true → LeftBy of (As Val) a
left_test V OfThis a h = tt
left_test V (OfName spelling k) a h =
    let x : Name = resolved spelling k in
    let (first, rest) = and_parts (V.initial (Declared k) || begins_at (identifier x) a) (not (binds k a) && not (writes x a)) h in
    let (b, w) = and_parts (not (binds k a)) (not (writes x a)) rest in
    left_alone x k refl a (not_so (binds k a) b) (not_so (writes x a) w) (As Val) tt

told_out : (w : Want) → told w out ≡ out
unfolding told either
told_out w = refl

filled_read : (o : Slot) (s : State) → Filled o → read_slot o s ≡ out → ⊥
unfolding read_slot
filled_read (Holds v) s f h = cc h
filled_read Missing s f h = f
filled_read Uninitialised s f h = f

module _ (V : Assured) (e : Environment) (z : Steadies V e) (a : Tree) (s : State) (i : Initialised V.initial s) where
  -- where the object leaves the model, so does the test
  gone_first : (b : Bool) (spelling : List ℕ) (k : ℕ) → V.initial (Declared k) ≡ b → (b || begins_at (identifier (resolved spelling k)) a) ≡ true → value e (identifier (resolved spelling k)) s ≡ out → value e a s ≡ out
  unfolding Initialised
  gone_first true spelling k v h p = absurd (filled_read (s.vars (Declared k)) s (i (Declared k) v) (sym (read_value e spelling k s) ∙ p))
  gone_first false spelling k v h p = first_gone e (identifier (resolved spelling k)) s (λ w. coherent (identifier (resolved spelling k)) w e s ∙ ap (told w) p ∙ told_out w) a h Val

  test_gone : (of : Object) → is_kept V of ≡ true → is_ready V of a ≡ true → value e (object of) s ≡ out → value e a s ≡ out
  test_gone OfThis k h p = absurd (cc (sym (this_value e (z.has_this k) s) ∙ p))
  test_gone (OfName spelling symbol) k h p =
      let x : Name = resolved spelling symbol in
      gone_first (V.initial (Declared symbol)) spelling symbol refl (and_parts (V.initial (Declared symbol) || begins_at (identifier x) a) (not (binds symbol a) && not (writes x a)) h).0 p

  ready : (of : Object) → is_kept V of ≡ true → is_ready V of a ≡ true → Ready e (object of) a s
  unfolding Ready
  ready of k h = by ((remains V e z of k).told s)
    where
      by : Reading (value e (object of) s) s → ((value e (object of) s ≡ out) × (value e a s ≡ out)) ⊎ ((v : Value) × (value e (object of) s ≡ ok v s) × Stays e (object of) v (value e a s))
      by (inl p) = inl (p, test_gone of k h p)
      by (inr (v, r)) = inr (v, r, (remains V e z of k).again a (As Val) (left_test V of a h) tt v s r)

  pub settled : (of : Object) (j : Index) → is_kept V of ≡ true → is_kept_index V j ≡ true → is_ready V of a ≡ true → is_ready_index V j a ≡ true → Settled e (member_at (object of) j) a s
  settled of (Written key) k l h g = written_settled e (object of) key a s (ready of k h)
  settled of (Held i) k l h g = held_settled e (object of) (object i) a s (ready of k h) (ready i l g)

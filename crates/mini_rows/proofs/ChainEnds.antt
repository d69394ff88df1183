-- What is written for an optional chain over what is known to be null or undefined means the same, and fits where it stood.
use Rattle.std.proofs.Common.{◌≡◌, Bool, true, false, List, [], ◌∷◌, refl, sym, ap, subst, ◌∙◌, inl, inr, true≢false}
use Rattle.std.specs.Prelude.{◌&&◌, ◌⊎◌}
use Rattle.std.proofs.lemmas.Bool.{and_parts}
use Rattle.mini_model.specs.declared.place.Position.TheVariants.{Expr}
use Rattle.mini_model.specs.declared.seat.Seat.{Seat}
use Rattle.mini_model.specs.declared.shape.Shape.{Shape}
use Rattle.mini_model.specs.declared.shape.Shape.TheVariants as shape
use Rattle.mini_model.specs.Tree.{Tree, node, none, ◌▸◌, listed, shape_of}
use Rattle.mini_model.specs.Weight.{outline}
use Rattle.mini_accept.specs.WellShaped.{a_label, a_link, an_argument, Slot, one, many, fits}
use Rattle.mini_laws.specs.Value.{Value, Undefined, VariableSet, is_nullish}
use Rattle.mini_laws.specs.Conversion.{key_value}
use Rattle.mini_laws.specs.State.{State, Short, Completion, ok, stop, halt, out, either, Environment}
use Rattle.mini_laws.specs.Demand.{Want, Val, Demand, As, Callee, OfType, Deleted, AnEntry, AMember, AValue, Called, plain_call}
use Rattle.mini_laws.specs.Same.{Agree, Goes, Same}
use Rattle.mini_laws.specs.Step.{step, means}
use Rattle.mini_laws.specs.Naming.{summary}
use Rattle.mini_laws.specs.Rows.{SameAt}
use Rattle.mini_laws.specs.Truth.{told}
use Rattle.mini_laws.proofs.Rows.{goes_refl}
use Rattle.mini_laws.proofs.Runs.{either_cong}
use Rattle.mini_laws.proofs.Truth.{coherent}
use Rattle.mini_kept.specs.KeepsShapes.{AskedAlike}
use Rattle.mini_kept.specs.KeepsFrames.{is_body_slot}
use Rattle.mini_kept.proofs.Bools.{both}
use Rattle.mini_kept.proofs.Expressions.{expression, expression_taken, two_fit}
use Rattle.mini_kept.proofs.FrameRows.{expression_slot}
use Rattle.mini_terms.specs.Folds.{is_effect_free}
use Rattle.mini_terms.specs.Kind.{kind, OfKind}
use Rattle.mini_terms.specs.Parts.{is_link}
use Rattle.mini_terms.specs.Reading.{stands_by, stands}
use Rattle.mini_terms.specs.Sound.{Gives}
use Rattle.mini_terms.proofs.Dropping.{weak}
use Rattle.mini_terms.proofs.Frame.{gives_map}
use Rattle.mini_terms.proofs.KindTable.{kind_sound}
use Rattle.mini_terms.proofs.Reading.{same_item}
use Rattle.mini_terms.proofs.Truths.{lit_sound}
use Rattle.mini_rows.specs.Lists.{sequence}
use Rattle.mini_rows.specs.Spellings.{void_zero}
use Rattle.mini_rows.specs.Chains.{Link, a_member, a_computed, a_call, linked, chain}
use Rattle.mini_rows.specs.ChainLinks.{Marked, marked, links_over, is_lone_by, is_lone}
use Rattle.mini_rows.specs.ChainEnds.{is_nothing, Row10, Row10Then, EndRow}
use Rattle.mini_rows.proofs.BothSides.{nullish_of}
use Rattle.mini_rows.proofs.ChainCalm.{Calm}
use Rattle.mini_rows.proofs.FoldMeaning.{plain_read}
use Rattle.mini_rows.proofs.ChainReferences.{deleted, linked_deleted, deleted_is, base_deleted, ends_as, chain_called, chain_deleted, chain_typed, base_typed}
use Rattle.mini_rows.proofs.ChainRuns.{called, items, next, value, named_call, gets, gets_called, calls, ends_if, linked_value, linked_called, chain_of, value_is, called_is, chain_value, value_calm}
use Rattle.mini_rows.proofs.ChoiceFree.{Told, free_told}
use Rattle.mini_rows.proofs.ChoiceRuns.{pair_value}
use Rattle.mini_rows.proofs.IdleCallees.{CalledByValue, idle_called}
use Rattle.mini_rows.proofs.ChainLinkMeaning.{chain_in_seat, base_called}
use Rattle.mini_rows.proofs.ChainLinkLawful.{chain_at, chain_asked, over_links, outer_fits}

-- ---- the chain ends at its first link

next_next : {A B C : Type 0} (x : Completion A) (f : A → State → Completion B) (g : B → State → Completion C) → next (next x f) g ≡ next x (λ a z. next (f a z) g)
unfolding either
next_next (ok a z) f g = refl
next_next (stop y z) f g = refl
next_next (halt y z) f g = refl
next_next out f g = refl

-- after a value of what stands before it
abbrev cut : {A : Type 0} → Completion Value → Completion A
cut x = next x (λ v z. stop Short z)

cut_again : {A B : Type 0} (x : Completion Value) (g : A → State → Completion B) → next (cut {A = A} x) g ≡ cut x
unfolding either
cut_again x g = next_next x (λ v z. stop Short z) g

abbrev Nil : Value → Type 0
Nil v = is_nullish v ≡ true

-- what is called where the value is this
abbrev called_by : Bool → Completion Value → Completion Called
called_by b x = next x (λ v z. ok (named_call b v) z)

module _ (e : Environment) where
  link_ends : (b : Bool) (l : Link) (x : Completion Value) → Gives Nil x → (linked_value e true l x (called_by b x) ≡ cut x) × (linked_called e true l x (called_by b x) ≡ cut x)
  unfolding either Gives
  link_ends b (a_member k) (ok v z) p = (ap (λ c. ends_if c z (next (value e k z) (λ u y. gets e v (key_value u) y))) p, ap (λ c. ends_if c z (next (value e k z) (λ u y. gets_called e v (key_value u) y))) p)
  link_ends b (a_computed k) (ok v z) p = (ap (λ c. ends_if c z (next (value e k z) (λ u y. gets e v (key_value u) y))) p, ap (λ c. ends_if c z (next (value e k z) (λ u y. gets_called e v (key_value u) y))) p)
  link_ends b (a_call ts) (ok v z) p = let ends = ap (λ c. ends_if c z (next (items e ts z) (λ vs y. calls e true (named_call b v) vs y))) p in (ends, ap (λ x. next x (λ v z. ok (plain_call v) z)) ends)
  link_ends b (a_member k) (stop y z) p = (refl, refl)
  link_ends b (a_computed k) (stop y z) p = (refl, refl)
  link_ends b (a_call ts) (stop y z) p = (refl, refl)
  link_ends b (a_member k) (halt y z) p = (refl, refl)
  link_ends b (a_computed k) (halt y z) p = (refl, refl)
  link_ends b (a_call ts) (halt y z) p = (refl, refl)
  link_ends b (a_member k) out p = (refl, refl)
  link_ends b (a_computed k) out p = (refl, refl)
  link_ends b (a_call ts) out p = (refl, refl)

  deleted_ends : (b : Bool) (l : Link) (x : Completion Value) → Gives Nil x → linked_deleted e true l x (called_by b x) ≡ cut x
  unfolding either Gives
  deleted_ends b (a_call ts) x p = ap (λ x. next x (λ v z. ok (AValue v) z)) (link_ends b (a_call ts) x p).0 ∙ cut_again x (λ v z. ok (AValue v) z)
  deleted_ends b (a_member k) (ok v z) p = ap (λ c. ends_if c z (next (value e k z) (λ u y. ok (AMember v (key_value u)) y))) p
  deleted_ends b (a_computed k) (ok v z) p = ap (λ c. ends_if c z (next (value e k z) (λ u y. ok (AMember v (key_value u)) y))) p
  deleted_ends b (a_member k) x p = refl
  deleted_ends b (a_computed k) x p = refl

  -- and so do the links over it

  link_goes_on : (o : Bool) (l : Link) (x : Completion Value) → (linked_value e o l (cut x) (cut x) ≡ cut x) × (linked_called e o l (cut x) (cut x) ≡ cut x)
  link_goes_on o (a_member k) x = (cut_again x _, cut_again x _)
  link_goes_on o (a_computed k) x = (cut_again x _, cut_again x _)
  link_goes_on o (a_call ts) x = let whole = cut_again x _ in (whole, ap (λ x. next x (λ v z. ok (plain_call v) z)) whole ∙ cut_again x _)

  deleted_goes_on : (o : Bool) (l : Link) (x : Completion Value) → linked_deleted e o l (cut x) (cut x) ≡ cut x
  deleted_goes_on o (a_member k) x = cut_again x _
  deleted_goes_on o (a_computed k) x = cut_again x _
  deleted_goes_on o (a_call ts) x = ap (λ x. next x (λ v z. ok (AValue v) z)) (cut_again x _) ∙ cut_again x _

  -- a chain that ends is undefined; what is called then is that, and under `delete` there is no reference

  after_value : {A : Type 0} (u : A) (x : Completion Value) → Calm x → ends_as u (cut x) ≡ next x (λ v z. ok u z)
  unfolding either
  after_value u (ok v z) c = refl
  after_value u (stop Short z) c = absurd c
  after_value u (stop y z) c = refl
  after_value u (halt y z) c = refl
  after_value u out c = refl

  after_chain : (t : Tree) (x : Completion Value) → Calm x → chain_of e t (cut x) ≡ next x (λ v z. ok Undefined z)
  unfolding either
  after_chain t (ok v z) c = refl
  after_chain t (stop Short z) c = absurd c
  after_chain t (stop y z) c = refl
  after_chain t (halt y z) c = refl
  after_chain t out c = refl

  module _ (z : State) (l : Link) (x : Tree) (b : Bool) (reads : called e x z ≡ called_by b (value e x z)) (nil : Gives Nil (value e x z)) (calm : Calm (value e x z)) where
    abbrev Ends : Tree → Type 0
    Ends t = (value e t z ≡ cut (value e x z)) × (called e t z ≡ cut (value e x z))

    over_ends : (ms : List Marked) → Ends (links_over ms (linked true l x))
    over_ends [] =
        let h = link_ends b l (value e x z) nil in
        (value_is e true l x z ∙ ap (linked_value e true l (value e x z)) reads ∙ h.0, called_is e true l x z ∙ ap (linked_called e true l (value e x z)) reads ∙ h.1)
    over_ends (marked o m ∷ ms) =
        let below = over_ends ms in
        let h = link_goes_on o m (value e x z) in
        let t : Tree = links_over ms (linked true l x) in
        (value_is e o m t z ∙ (λ i. linked_value e o m (below.0 i) (below.1 i)) ∙ h.0, called_is e o m t z ∙ (λ i. linked_called e o m (below.0 i) (below.1 i)) ∙ h.1)

    over_deleted : (ms : List Marked) → deleted e (links_over ms (linked true l x)) z ≡ cut (value e x z)
    over_deleted [] = deleted_is e true l x z ∙ ap (linked_deleted e true l (value e x z)) reads ∙ deleted_ends b l (value e x z) nil
    over_deleted (marked o m ∷ ms) =
        let below = over_ends ms in
        deleted_is e o m (links_over ms (linked true l x)) z ∙ (λ i. linked_deleted e o m (below.0 i) (below.1 i)) ∙ deleted_goes_on o m (value e x z)

    module _ (ms : List Marked) where
      abbrev whole : Tree
      whole = links_over ms (linked true l x)

      chain_ends : value e (chain whole) z ≡ next (value e x z) (λ v k. ok Undefined k)
      chain_ends = chain_value e whole z ∙ ap (chain_of e whole) (over_ends ms).0 ∙ after_chain whole (value e x z) calm

      chain_ends_called : called e (chain whole) z ≡ next (value e x z) (λ v k. ok (plain_call Undefined) k)
      chain_ends_called = chain_called e whole z ∙ ap (ends_as (plain_call Undefined)) (over_ends ms).1 ∙ after_value (plain_call Undefined) (value e x z) calm

      chain_ends_deleted : deleted e (chain whole) z ≡ next (value e x z) (λ v k. ok (AValue Undefined) k)
      chain_ends_deleted = chain_deleted e whole z ∙ ap (ends_as (AValue Undefined)) (over_deleted ms) ∙ after_value (AValue Undefined) (value e x z) calm

nil : (e : Environment) (x : Tree) → is_nothing x ≡ true → (z : State) → Gives Nil (value e x z)
nil e x h z = gives_map (OfKind (kind x)) Nil (λ v p. nullish_of (kind x) v h p) (value e x z) (kind_sound x e z)

pub void_value : (e : Environment) (z : State) → value e void_zero z ≡ ok Undefined z
void_value e z = lit_sound Undefined e z

-- ---- what stands before it has an effect, and stays

module _ (x : Tree) where
  abbrev then_void : Tree
  then_void = sequence (x ▸ void_zero ▸ none)

  then_value : (e : Environment) (z : State) → value e then_void z ≡ next (value e x z) (λ v k. ok Undefined k)
  then_value e z = pair_value e x void_zero z ∙ either_cong (value e x z) _ _ _ _ (λ v k. void_value e k) (λ y k. refl)

  then_called : (e : Environment) (z : State) → called e then_void z ≡ next (value e x z) (λ v k. ok (plain_call Undefined) k)
  unfolding either
  then_called e z = base_called e then_void refl z ∙ ap (λ y. next y (λ v k. ok (plain_call v) k)) (then_value e z) ∙ next_next (value e x z) (λ v k. ok Undefined k) (λ v k. ok (plain_call v) k)

  then_deleted : (e : Environment) (z : State) → deleted e then_void z ≡ next (value e x z) (λ v k. ok (AValue Undefined) k)
  unfolding either
  then_deleted e z = base_deleted e then_void refl z ∙ ap (λ y. next y (λ v k. ok (AValue v) k)) (then_value e z) ∙ next_next (value e x z) (λ v k. ok Undefined k) (λ v k. ok (AValue v) k)

lone_by : (t : Tree) → stands t ≡ true → is_lone t ≡ true
lone_by (node h xs n ts) e = lone h e
  where
    lone : (h : Shape) → stands_by h ≡ true → is_lone_by h ≡ true
    lone (shape.Function false g ds) e = refl
    lone (shape.Class false) e = refl
    lone (shape.BigIntLiteral m) e = refl
    lone h e = e

then_same : (q : Seat) (n w : Tree) → Row10Then n w → SameAt (Expr q) n w
then_same q n w r =
    let t : Tree = links_over r.others (linked true r.link r.base) in
    let reads = λ (e : Environment) (z : State). base_called e r.base (lone_by r.base r.value) z in
    subst (λ u. SameAt (Expr q) u w) (sym r.shape) (subst (SameAt (Expr q) (chain t)) (sym r.written)
    (chain_in_seat q t (then_void r.base) refl (record {
      valued = λ e z. chain_ends e z r.link r.base false (reads e z) (nil e r.base r.known z) (value_calm e r.base r.calm_base z) r.others ∙ sym (then_value r.base e z);
      as_callee = λ e z. chain_ends_called e z r.link r.base false (reads e z) (nil e r.base r.known z) (value_calm e r.base r.calm_base z) r.others ∙ sym (then_called r.base e z);
      as_deleted = λ e z. chain_ends_deleted e z r.link r.base false (reads e z) (nil e r.base r.known z) (value_calm e r.base r.calm_base z) r.others ∙ sym (then_deleted r.base e z);
      typed = λ e z. base_typed e (then_void r.base) refl z;
    })))

-- ---- it has none, and goes

-- the same, or the first is outside the model
abbrev Near : {A : Type 0} → Completion A → Completion A → Type 0
Near x y = (x ≡ out) ⊎ (x ≡ y)

near : {A : Type 0} (D : VariableSet) (x y : Completion A) → Near x y → Goes true (λ a. Agree D) (Agree D) (Agree D) x y
near D x y (inl o) = subst (λ c. Goes true (λ a. Agree D) (Agree D) (Agree D) c y) (sym o) (weak D y)
near D x y (inr h) = subst (λ c. Goes true (λ a. Agree D) (Agree D) (Agree D) c y) (sym h) (goes_refl D y)

-- where the value is outside the model or known with nothing done besides, so is what goes on with it
goes_near : {A : Type 0} (x : Completion Value) (z : State) → Told x z → (u : A) (n w : Completion A) → n ≡ next x (λ v k. ok u k) → w ≡ ok u z → Near n w
unfolding either
goes_near x z (inl o) u n w h k = inl (h ∙ ap (λ y. next y (λ v k. ok u k)) o)
goes_near x z (inr (v, p)) u n w h k = inr (h ∙ ap (λ y. next y (λ v k. ok u k)) p ∙ sym k)

told_calm : (x : Completion Value) (z : State) → Told x z → Calm x
told_calm x z (inl o) = subst Calm (sym o) tt
told_calm x z (inr (v, p)) = subst Calm (sym p) tt

module _ (ms : List Marked) (l : Link) (x : Tree) (known : is_nothing x ≡ true) (idle : is_effect_free x ≡ true) where
  abbrev dropped : Tree
  dropped = links_over ms (linked true l x)

  module _ (e : Environment) (z : State) where
    abbrev base : CalledByValue e x
    base = idle_called e true x idle

    abbrev now : Told (value e x z) z
    now = free_told e x idle z

    value_near : Near (value e (chain dropped) z) (value e void_zero z)
    value_near = goes_near (value e x z) z now Undefined _ _ (chain_ends e z l x base.direct (base.reads z) (nil e x known z) (told_calm (value e x z) z now) ms) (void_value e z)

    called_near : Near (called e (chain dropped) z) (called e void_zero z)
    unfolding either
    called_near = goes_near (value e x z) z now (plain_call Undefined) _ _ (chain_ends_called e z l x base.direct (base.reads z) (nil e x known z) (told_calm (value e x z) z now) ms) (base_called e void_zero refl z ∙ ap (λ y. next y (λ v k. ok (plain_call v) k)) (void_value e z))

    deleted_near : Near (deleted e (chain dropped) z) (deleted e void_zero z)
    unfolding either
    deleted_near = goes_near (value e x z) z now (AValue Undefined) _ _ (chain_ends_deleted e z l x base.direct (base.reads z) (nil e x known z) (told_calm (value e x z) z now) ms) (base_deleted e void_zero refl z ∙ ap (λ y. next y (λ v k. ok (AValue v) k)) (void_value e z))

    wanted_near : (u : Want) → Near (means e (chain dropped) (As u) tt z) (means e void_zero (As u) tt z)
    unfolding told either
    wanted_near u = go value_near
      where
        go : Near (value e (chain dropped) z) (value e void_zero z) → Near (means e (chain dropped) (As u) tt z) (means e void_zero (As u) tt z)
        go (inl o) = inl (coherent (chain dropped) u e z ∙ ap (told u) o)
        go (inr h) = inr (coherent (chain dropped) u e z ∙ ap (told u) h ∙ sym (coherent void_zero u e z))

    typed_near : Near (means e (chain dropped) OfType tt z) (means e void_zero OfType tt z)
    typed_near = go value_near
      where
        go : Near (value e (chain dropped) z) (value e void_zero z) → Near (means e (chain dropped) OfType tt z) (means e void_zero OfType tt z)
        go (inl o) = inl (chain_typed e dropped z ∙ o)
        go (inr h) = inr (chain_typed e dropped z ∙ h ∙ sym (base_typed e void_zero refl z))

  module _ (e : Environment) (D X : VariableSet) where
    by_want : (u : Want) → Same e D X (As u) (chain dropped) void_zero
    by_want u = record { by = λ r z j. near D _ _ (wanted_near e z u) }

    by_demand : (q : Demand) → Same e D X q (chain dropped) void_zero
    unfolding means step
    by_demand (As u) = by_want u
    by_demand AnEntry = same_item e D X (chain dropped) void_zero refl refl (by_want Val)
    by_demand Callee = record { by = λ r z j. near D _ _ (called_near e z) }
    by_demand OfType = record { by = λ r z j. near D _ _ (typed_near e z) }
    by_demand Deleted = record { by = λ r z j. near D _ _ (deleted_near e z) }
    by_demand q = record { by = λ r z j. weak D (means e void_zero q r z) }

abbrev pub held : (n w : Tree) → Row10 n w → Tree
held n w r = links_over r.others (linked true r.link r.base)

abbrev pub held_then : (n w : Tree) → Row10Then n w → Tree
held_then n w r = links_over r.others (linked true r.link r.base)

dropped_same : (q : Seat) (n w : Tree) → Row10 n w → SameAt (Expr q) n w
dropped_same q n w r =
    subst (λ t. SameAt (Expr q) t w) (sym r.shape) (subst (SameAt (Expr q) (chain (held n w r))) (sym r.written)
    (record { by = λ e D X d f. by_demand r.others r.link r.base r.known r.idle e D X d }))

pub end_same : (q : Seat) (n w : Tree) → EndRow n w → SameAt (Expr q) n w
end_same q n w (inl r) = dropped_same q n w r
end_same q n w (inr r) = then_same q n w r

pub end_read : (q : Seat) (n w : Tree) → EndRow n w → summary n ≡ summary w
end_read q n w (inl r) = ap summary r.shape ∙ sym (ap summary r.written ∙ plain_read void_zero refl)
end_read q n w (inr r) = ap summary r.shape ∙ sym (ap summary r.written ∙ plain_read (then_void r.base) refl)

-- ---- where it stands

-- what is null or undefined is no link
no_link : (t : Tree) → is_nothing t ≡ true → is_link (shape_of t) ≡ false
no_link (node (shape.CallExpression b) xs n ts) e = absurd (true≢false (sym e))
no_link (node (shape.StaticMemberExpression b) xs n ts) e = absurd (true≢false (sym e))
no_link (node (shape.ComputedMemberExpression b) xs n ts) e = absurd (true≢false (sym e))
no_link (node (shape.PrivateFieldExpression b) xs n ts) e = absurd (true≢false (sym e))
no_link (node h xs n ts) e = refl

module _ (strict : Bool) where
  abbrev Links : Tree → Type 0
  Links t = fits strict (one a_link) t ≡ true

  below : (o : Bool) (l : Link) (t : Tree) → Links (linked o l t) → Links t
  below o (a_member k) t e = (and_parts (fits strict (one a_link) t) (fits strict (one a_label) k && true) e).0
  below o (a_computed k) t e = (and_parts (fits strict (one a_link) t) (fits strict expression k && true) e).0
  below o (a_call ts) t e = (and_parts (fits strict (one a_link) t) (fits strict (many an_argument) (listed ts) && true) e).0

  all_below : (ms : List Marked) (t : Tree) → Links (links_over ms t) → Links t
  all_below [] t e = e
  all_below (marked o l ∷ ms) t e = all_below ms t (below o l (links_over ms t) e)

  then_fits : (x : Tree) → fits strict expression x ≡ true → fits strict expression (then_void x) ≡ true
  then_fits x e = both (fits strict expression x && (fits strict expression void_zero && true)) true (two_fit strict x void_zero e refl) refl

pub end_fits : (q : Seat) (n w : Tree) → EndRow n w → (strict : Bool) (s : Slot) → fits strict s n ≡ true → fits strict s w ≡ true
end_fits q n w (inl r) strict s e = subst (λ t. fits strict s t ≡ true) (sym r.written) (expression_taken strict s void_zero (chain_at strict (held n w r) s (subst (λ t. fits strict s t ≡ true) r.shape e)).0 refl)
end_fits q n w (inr r) strict s e =
    let (takes, (marks, inner)) = chain_at strict (held_then n w r) s (subst (λ t. fits strict s t ≡ true) r.shape e) in
    let stood = below strict true r.link r.base (all_below strict r.others (linked true r.link r.base) (over_links strict r.others true r.link r.base inner)) in
    subst (λ t. fits strict s t ≡ true) (sym r.written) (expression_taken strict s (then_void r.base) takes (then_fits strict r.base (outer_fits strict r.base (no_link r.base r.known) stood)))

pub end_slot : (q : Seat) (n w : Tree) → EndRow n w → (strict : Bool) (s : Slot) → fits strict s n ≡ true → is_body_slot (Expr q) s ≡ true
end_slot q n w (inl r) strict s e = expression_slot (Expr q) s (chain_at strict (held n w r) s (subst (λ t. fits strict s t ≡ true) r.shape e)).0
end_slot q n w (inr r) strict s e = expression_slot (Expr q) s (chain_at strict (held_then n w r) s (subst (λ t. fits strict s t ≡ true) r.shape e)).0

pub end_asked : (q : Seat) (n w : Tree) → EndRow n w → AskedAlike (Expr q) n w
end_asked q n w (inl r) = subst (λ t. AskedAlike (Expr q) t w) (sym r.shape) (subst (AskedAlike (Expr q) (chain (held n w r))) (sym r.written) (chain_asked q (held n w r) void_zero refl))
end_asked q n w (inr r) = subst (λ t. AskedAlike (Expr q) t w) (sym r.shape) (subst (AskedAlike (Expr q) (chain (held_then n w r))) (sym r.written) (chain_asked q (held_then n w r) (then_void r.base) refl))

pub end_outline : (q : Seat) (n w : Tree) → EndRow n w → outline n ≡ outline w
end_outline q n w (inl r) = ap outline r.shape ∙ sym (ap outline r.written)
end_outline q n w (inr r) = ap outline r.shape ∙ sym (ap outline r.written)

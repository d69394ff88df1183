-- What a link does under `delete`, and what a chain does wherever its reference is asked.
use Rattle.std.proofs.Common.{◌≡◌, Bool, true, false, [], refl, sym, ap, subst, ◌∙◌, true≢false}
use Rattle.std.specs.Prelude.{◌&&◌}
use Rattle.mini_model.specs.declared.place.Position.TheVariants.{Expr}
use Rattle.mini_model.specs.declared.seat.Guard.{Guard}
use Rattle.mini_model.specs.declared.seat.Guard.TheVariants as guard
use Rattle.mini_model.specs.declared.seat.Seat.{Seat}
use Rattle.mini_model.specs.declared.shape.Shape.TheVariants as shape
use Rattle.mini_model.specs.Tree.{Tree, Trees, none, ◌▸◌}
use Rattle.mini_laws.specs.Value.{Value, Undefined, VariableSet, choose, is_nullish}
use Rattle.mini_laws.specs.Conversion.{key_value}
use Rattle.mini_laws.specs.State.{State, Short, Completion, ok, stop, halt, out, ended, either, Environment}
use Rattle.mini_laws.specs.Demand.{Want, Val, Demand, As, Callee, OfType, Deleted, AnEntry, AMember, AValue, Called, Reference, plain_call}
use Rattle.mini_laws.specs.Command.{Naming, ret, fails, kid, then, Kids, run}
use Rattle.mini_laws.specs.Naming.{naming, summaries}
use Rattle.mini_laws.specs.Expressions.{chain_end}
use Rattle.mini_laws.specs.Fits.{Fits}
use Rattle.mini_laws.specs.Same.{Agree, Goes, Same}
use Rattle.mini_laws.specs.Step.{step, means, meaning}
use Rattle.mini_laws.specs.Truth.{told}
use Rattle.mini_laws.proofs.Rows.{by_equality}
use Rattle.mini_laws.proofs.Runs.{either_cong, either_eta}
use Rattle.mini_laws.proofs.Truth.{coherent}
use Rattle.mini_terms.specs.Reading.{by_value, is_item, stands}
use Rattle.mini_terms.proofs.Dropping.{weak}
use Rattle.mini_terms.proofs.Reading.{read_by_value, same_item, typed_by_value}
use Rattle.mini_rows.specs.Chains.{Link, a_member, a_computed, a_call, call, linked, chain, is_calm_link}
use Rattle.mini_rows.proofs.ChainCalm.{Calm, calm_next}
use Rattle.mini_rows.proofs.ChainRuns.{value, called, next, ends_if, linked_value, value_is, word_calm, value_calm, link_calm}
use Rattle.mini_rows.proofs.ChoiceRuns.{asked, Tells}

abbrev pub deleted : Environment → Tree → State → Completion Reference
deleted e t s = means e t Deleted tt s

-- ---- a link under `delete`

abbrev pub linked_deleted : Environment → Bool → Link → Completion Value → Completion Called → Completion Reference
linked_deleted e o (a_member k) v f = next v (λ v z. ends_if (o && is_nullish v) z (next (value e k z) (λ u y. ok (AMember v (key_value u)) y)))
linked_deleted e o (a_computed k) v f = next v (λ v z. ends_if (o && is_nullish v) z (next (value e k z) (λ u y. ok (AMember v (key_value u)) y)))
linked_deleted e o (a_call ts) v f = next (linked_value e o (a_call ts) v f) (λ v z. ok (AValue v) z)

reference_ends : (e : Environment) (names : Naming) (K : Kids (λ i. As Val)) (b : Bool) (v : Value) (z : State) → run {q = λ i. As Val} e names K (choose b (fails Short) (kid 1 tt (then (λ u. ret (AMember v (key_value u)))))) z ≡ ends_if b z (next (K 1 tt z) (λ u y. ok (AMember v (key_value u)) y))
reference_ends e names K true v z = refl
reference_ends e names K false v z = refl

call_deleted : (e : Environment) (o : Bool) (ts : Trees) (t : Tree) (s : State) → deleted e (call o t ts) s ≡ next (value e (call o t ts) s) (λ v z. ok (AValue v) z)
unfolding by_value
call_deleted e o ts t s = read_by_value (call o t ts) refl e Deleted tt s

pub deleted_is : (e : Environment) (o : Bool) (l : Link) (t : Tree) (s : State) → deleted e (linked o l t) s ≡ linked_deleted e o l (value e t s) (called e t s)
unfolding means meaning step
deleted_is e o (a_member k) t s = either_cong (value e t s) _ _ _ _ (λ v z. reference_ends e (naming (shape.StaticMemberExpression o) Deleted [] 0 (summaries (t ▸ k ▸ none))) (λ i r z. meaning e (t ▸ k ▸ none) i (As Val) r z) (o && is_nullish v) v z) (λ x z. refl)
deleted_is e o (a_computed k) t s = either_cong (value e t s) _ _ _ _ (λ v z. reference_ends e (naming (shape.ComputedMemberExpression o) Deleted [] 0 (summaries (t ▸ k ▸ none))) (λ i r z. meaning e (t ▸ k ▸ none) i (As Val) r z) (o && is_nullish v) v z) (λ x z. refl)
deleted_is e o (a_call ts) t s = call_deleted e o ts t s ∙ ap (λ x. next x (λ v z. ok (AValue v) z)) (value_is e o (a_call ts) t s)

-- what is read by its value is so there
pub base_deleted : (e : Environment) (x : Tree) → stands x ≡ true → (s : State) → deleted e x s ≡ next (value e x s) (λ v z. ok (AValue v) z)
unfolding by_value
base_deleted e x h s = read_by_value x h e Deleted tt s

-- one that is not optional ends no chain
pub deleted_calm : (e : Environment) (l : Link) → is_calm_link l ≡ true → (v : Completion Value) (f : Completion Called) → Calm v → Calm f → Calm (linked_deleted e false l v f)
deleted_calm e (a_member k) p v f c d = calm_next v _ c (λ v z. calm_next (value e k z) _ (word_calm e k p z) (λ u y. tt))
deleted_calm e (a_computed k) p v f c d = calm_next v _ c (λ v z. calm_next (value e k z) _ (value_calm e k p z) (λ u y. tt))
deleted_calm e (a_call ts) p v f c d = calm_next (linked_value e false (a_call ts) v f) (λ v z. ok (AValue v) z) (link_calm e (a_call ts) p v f c d).0 (λ v z. tt)

-- ---- a chain, whatever reference is asked: it gives this where it ends in its midst

abbrev pub ends_as : {A : Type 0} → A → Completion A → Completion A
ends_as u (ok a z) = ok a z
ends_as u (stop Short z) = ok u z
ends_as u (stop y z) = stop y z
ends_as u (halt y z) = halt y z
ends_as u out = out

pub calmly : {A : Type 0} (u : A) (x : Completion A) → Calm x → ends_as u x ≡ x
calmly u (ok a z) c = refl
calmly u (stop Short z) c = absurd c
calmly u (stop y z) c = refl
calmly u (halt y z) c = refl
calmly u out c = refl

callee_ends : (e : Environment) (names : Naming) (K : Kids (λ i. Callee)) (x : Completion Called) → either x (λ f z. ok f z) (λ y z. run {q = λ i. Callee} e names K (chain_end Callee tt (ended y)) z) ≡ ends_as (plain_call Undefined) x
unfolding either
callee_ends e names K (ok f z) = refl
callee_ends e names K (stop Short z) = refl
callee_ends e names K (stop y z) = refl
callee_ends e names K (halt y z) = refl
callee_ends e names K out = refl

deleted_ends : (e : Environment) (names : Naming) (K : Kids (λ i. Deleted)) (x : Completion Reference) → either x (λ f z. ok f z) (λ y z. run {q = λ i. Deleted} e names K (chain_end Deleted tt (ended y)) z) ≡ ends_as (AValue Undefined) x
unfolding either
deleted_ends e names K (ok f z) = refl
deleted_ends e names K (stop Short z) = refl
deleted_ends e names K (stop y z) = refl
deleted_ends e names K (halt y z) = refl
deleted_ends e names K out = refl

module _ (e : Environment) (t : Tree) (s : State) where
  pub chain_called : called e (chain t) s ≡ ends_as (plain_call Undefined) (called e t s)
  unfolding means meaning step
  chain_called = callee_ends e (naming shape.ChainExpression Callee [] 0 (summaries (t ▸ none))) (λ i r z. meaning e (t ▸ none) i Callee r z) (called e t s)

  pub chain_deleted : deleted e (chain t) s ≡ ends_as (AValue Undefined) (deleted e t s)
  unfolding means meaning step
  chain_deleted = deleted_ends e (naming shape.ChainExpression Deleted [] 0 (summaries (t ▸ none))) (λ i r z. meaning e (t ▸ none) i Deleted r z) (deleted e t s)

  pub chain_typed : means e (chain t) OfType tt s ≡ value e (chain t) s
  chain_typed = typed_by_value (chain t) refl e s

-- `typeof` asks a link for its value, and what is read by its value
pub link_typed : (e : Environment) (o : Bool) (l : Link) (t : Tree) (s : State) → means e (linked o l t) OfType tt s ≡ value e (linked o l t) s
link_typed e o (a_member k) t s = typed_by_value (linked o (a_member k) t) refl e s
link_typed e o (a_computed k) t s = typed_by_value (linked o (a_computed k) t) refl e s
link_typed e o (a_call ts) t s = typed_by_value (linked o (a_call ts) t) refl e s

pub base_typed : (e : Environment) (x : Tree) → stands x ≡ true → (s : State) → means e x OfType tt s ≡ value e x s
unfolding by_value
base_typed e x h s = read_by_value x h e OfType tt s

-- ---- where its value is asked, it stands for what has that value

-- not as a callee or under `delete`, where it would be the reference of its last link
abbrev pub reads_value : Guard → Bool
reads_value guard.None = true
reads_value guard.Typeof = true
reads_value g = false

valued_guard : (g h : Guard) → reads_value g ≡ true → g ≡ h → reads_value h ≡ false → ⊥
valued_guard g h u e f = true≢false (sym u ∙ ap reads_value e ∙ f)

module _ (e : Environment) (D X : VariableSet) (s : Seat) (valued : reads_value s.guard ≡ true) (n t : Tree) (item : is_item n ≡ true) (tells : Tells n) (h : (z : State) → value e n z ≡ value e (chain t) z) where
  by_want : (w : Want) → Same e D X (As w) n (chain t)
  by_want w = by_equality e D X (As w) n (chain t) (λ r z. coherent n w e z ∙ ap (told w) (h z) ∙ sym (coherent (chain t) w e z))

  pub chain_for_value : (q : Demand) → Fits (Expr s) q → Same e D X q n (chain t)
  unfolding asked
  chain_for_value (As w) f = by_want w
  chain_for_value AnEntry f = same_item e D X n (chain t) item refl (by_want Val)
  chain_for_value OfType f = by_equality e D X OfType n (chain t) (λ r z. tells.by e OfType r z ∙ either_eta (value e n z) ∙ h z ∙ sym (chain_typed e t z))
  chain_for_value Callee f = absurd (valued_guard s.guard guard.Callee valued f.2 refl)
  chain_for_value Deleted f = absurd (valued_guard s.guard guard.Delete valued f.2 refl)
  chain_for_value q f = record { by = λ r z j. subst (λ y. Goes true (λ a. Agree D) (Agree D) (Agree D) y (means e (chain t) q r z)) (sym (tells.by e q r z)) (weak D (means e (chain t) q r z)) }

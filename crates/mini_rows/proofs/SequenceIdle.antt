-- A part of a sequence that has no effect, and is not the last, may go.
use Rattle.std.proofs.Common.{◌≡◌, true, sym, subst, true≢false}
use Rattle.mini_model.specs.Tree.{Tree, Trees, none, ◌▸◌}
use Rattle.mini_model.specs.Paths.{append}
use Rattle.mini_laws.specs.Value.{VariableSet}
use Rattle.mini_laws.specs.State.{Completion, ok, stop, halt, out, either, State, Environment}
use Rattle.mini_laws.specs.Demand.{Want, Unused, As}
use Rattle.mini_laws.specs.Step.{means}
use Rattle.mini_laws.specs.Same.{Goes, Agree}
use Rattle.mini_laws.proofs.Rows.{goes_refl}
use Rattle.mini_terms.specs.Folds.{is_effect_free}
use Rattle.mini_terms.specs.Reading.{SameWanted}
use Rattle.mini_terms.specs.Sound.{Quiet}
use Rattle.mini_terms.proofs.Dropping.{weak}
use Rattle.mini_terms.proofs.EffectsTable.{effect_free_sound}
use Rattle.mini_rows.specs.Lists.{sequence}
use Rattle.mini_terms.specs.Exact.{by_value as behind_zero}
use Rattle.mini_rows.proofs.ChainGuards.{behind_wanted}
use Rattle.mini_rows.proofs.ListParts.{in_row, sequence_in_row}

module _ (D : VariableSet) where
  abbrev Near : {A : Type 0} → Completion A → Completion A → Type 0
  Near x y = Goes true (λ a. Agree D) (Agree D) (Agree D) x y

  -- both go on alike
  near_either : {A B : Type 0} (x : Completion A) (f g : A → State → Completion B) → ((a : A) (z : State) → Near (f a z) (g a z)) → Near (either x f (λ y z. stop y z)) (either x g (λ y z. stop y z))
  unfolding either
  near_either (ok a s) f g h = h a s
  near_either (stop y s) f g h = goes_refl D (stop y s)
  near_either (halt y s) f g h = goes_refl D (halt y s)
  near_either out f g h = goes_refl D out

  -- after what is quiet all goes as without it
  quiet_then : {A B : Type 0} (s : State) (x : Completion A) (f : State → Completion B) → Quiet s x → Near (either x (λ a z. f z) (λ y z. stop y z)) (f s)
  unfolding Quiet either
  quiet_then s (ok a t) f q = subst (λ z. Near (f z) (f s)) (sym q) (goes_refl D (f s))
  quiet_then s (stop y t) f q = absurd q
  quiet_then s (halt y t) f q = absurd q
  quiet_then s out f q = weak D (f s)

  module _ (e : Environment) (a : Tree) (h : (s : State) → Quiet s (means e a (As Unused) tt s)) where
    idle_first : (q : Tree) (qs : Trees) (w : Want) (s : State) → Near (in_row e a (q ▸ qs) w s) (in_row e q qs w s)
    unfolding in_row
    idle_first q qs w s = quiet_then s (means e a (As Unused) tt s) (λ z. in_row e q qs w z) (h s)

    idle_later : (p : Tree) (ps : Trees) (q : Tree) (qs : Trees) (w : Want) (s : State) → Near (in_row e p (append ps (a ▸ (q ▸ qs))) w s) (in_row e p (append ps (q ▸ qs)) w s)
    unfolding in_row
    idle_later p none q qs w s = near_either (means e p (As Unused) tt s) _ _ (λ u z. idle_first q qs w z)
    idle_later p (c ▸ ps) q qs w s = near_either (means e p (As Unused) tt s) _ _ (λ u z. idle_later c ps q qs w z)

    pub idle_near : (before : Trees) (q : Tree) (qs : Trees) (w : Want) (s : State) → Near (means e (sequence (append before (a ▸ (q ▸ qs)))) (As w) tt s) (means e (sequence (append before (q ▸ qs))) (As w) tt s)
    idle_near none q qs w s =
        subst (λ x. Near x (means e (sequence (q ▸ qs)) (As w) tt s)) (sym (sequence_in_row e a (q ▸ qs) w s))
        (subst (Near (in_row e a (q ▸ qs) w s)) (sym (sequence_in_row e q qs w s)) (idle_first q qs w s))
    idle_near (p ▸ ps) q qs w s =
        subst (λ x. Near x (means e (sequence (p ▸ append ps (q ▸ qs))) (As w) tt s)) (sym (sequence_in_row e p (append ps (a ▸ (q ▸ qs))) w s))
        (subst (Near (in_row e p (append ps (a ▸ (q ▸ qs))) w s)) (sym (sequence_in_row e p (append ps (q ▸ qs)) w s)) (idle_later p ps q qs w s))

    pub alone_near : (q : Tree) (w : Want) (s : State) → Near (means e (sequence (a ▸ (q ▸ none))) (As w) tt s) (means e q (As w) tt s)
    unfolding in_row
    alone_near q w s = subst (λ x. Near x (means e q (As w) tt s)) (sym (sequence_in_row e a (q ▸ none) w s)) (idle_first q none w s)

    -- and as after the literal 0
    pub zero_near : (q : Tree) (w : Want) (s : State) → Near (means e (sequence (a ▸ (q ▸ none))) (As w) tt s) (means e (behind_zero q) (As w) tt s)
    zero_near q w s = subst (Near (means e (sequence (a ▸ (q ▸ none))) (As w) tt s)) (sym (behind_wanted e q w s)) (alone_near q w s)

-- what has no effect wherever it stands
quiet : (a : Tree) → is_effect_free a ≡ true → (e : Environment) (s : State) → Quiet s (means e a (As Unused) tt s)
quiet a h e s = effect_free_sound a e true (λ f. absurd (true≢false f)) h Unused s

pub idle_same : (before : Trees) (a q : Tree) (qs : Trees) → is_effect_free a ≡ true → SameWanted (sequence (append before (a ▸ (q ▸ qs)))) (sequence (append before (q ▸ qs)))
idle_same before a q qs h e D X w = record { by = λ r s i. idle_near D e a (quiet a h e) before q qs w s }

pub alone_same : (a q : Tree) → is_effect_free a ≡ true → SameWanted (sequence (a ▸ (q ▸ none))) q
alone_same a q h e D X w = record { by = λ r s i. alone_near D e a (quiet a h e) q w s }

pub zero_same : (a q : Tree) → is_effect_free a ≡ true → SameWanted (sequence (a ▸ (q ▸ none))) (behind_zero q)
zero_same a q h e D X w = record { by = λ r s i. zero_near D e a (quiet a h e) q w s }

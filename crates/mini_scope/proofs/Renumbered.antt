-- The number that a spelling is given.
use Rattle.std.specs.Prelude.{ℕ, ◌≡◌, refl, Bool, true, false, List, Option, None, Result, Ok, Err, OnOk, OnErr, if◌then◌else◌}
use Rattle.std.proofs.Common.{ap, ◌∙◌, sym}
use Rattle.std.specs.BTreeMap.{IsEmpty, IsUnchanged, UpdatesBy, get_by}
use Rattle.std.specs.Map.{KeepsOthers, IsKeyTest, AreApart, lookup}
use Rattle.std.specs.Ordering.{nat_cmp, is_eq}
use Rattle.std.specs.Cmp.{eq_by_cmp_equiv}
use Rattle.std.specs.Cmp.Lexicographic.{slice_cmp, bytes_decides, nat_list_cmp_total, nat_list_eq_equiv, texts_ties}
use Rattle.mini_model.specs.Weight.{same_text}
use Rattle.mini_scope.specs.Spelled.{Numbers, by_items, number_of}

apart : (s r k : List ℕ) → same_text s r ≡ false → same_text s k ≡ true → same_text r k ≡ false
apart s r k n y = nat_list_eq_equiv.symm r k ∙ sym (nat_list_eq_equiv.congr s k r y) ∙ n

apart_in_order : (s r k : List ℕ) → same_text s r ≡ false → is_eq (slice_cmp nat_cmp s k) ≡ true → is_eq (slice_cmp nat_cmp r k) ≡ false
apart_in_order s r k n y = sym (texts_ties r k) ∙ apart s r k n (texts_ties s k ∙ y)

other_entries : {K X : Type 0} (eq : K → K → Bool) (test : K → Bool) (old new : List (K × X)) → KeepsOthers eq test old new → (other : K → Bool) → IsKeyTest eq other → AreApart test other → lookup other new ≡ lookup other old
unfolding KeepsOthers
other_entries eq test old new h = h

given_by : (m n : Numbers) (t s : List ℕ) (w : Option ℕ) → UpdatesBy by_items (λ k. slice_cmp nat_cmp t k.items) m n w → (c : Bool) → same_text t s ≡ c → number_of n s ≡ (if c then w else number_of m s)
unfolding number_of
given_by m n t s w h true e = ap (λ r. get_by (λ k. slice_cmp nat_cmp r k.items) n) (sym ((bytes_decides t s).0 e)) ∙ h.1
given_by m n t s w h false e = other_entries _ _ _ _ h.3 _ (λ x y. (eq_by_cmp_equiv nat_list_cmp_total).congr s x.items y.items) (λ k. apart_in_order t s k.items e)

pub given : (m n : Numbers) (t s : List ℕ) (w : Option ℕ) → UpdatesBy by_items (λ k. slice_cmp nat_cmp t k.items) m n w → number_of n s ≡ (if same_text t s then w else number_of m s)
given m n t s w h = given_by m n t s w h (same_text t s) refl

pub unchanged : (m n : Numbers) (s : List ℕ) → IsUnchanged m n → number_of n s ≡ number_of m s
unfolding number_of
unchanged m n s e = ap (λ es. lookup (λ k. is_eq (slice_cmp nat_cmp s k.items)) es) e

pub empty : (m : Numbers) (s : List ℕ) → IsEmpty m → number_of m s ≡ None
unfolding number_of
empty m s e = ap (λ es. lookup (λ k. is_eq (slice_cmp nat_cmp s k.items)) es) e

-- what an answer tells, told otherwise
pub on_ok : {A B P Q : Type 0} → (r : Result A B) → (P → Q) → OnOk r P → OnOk r Q
on_ok (Ok x) f h = f h
on_ok (Err e) f h = h

pub on_err : {A B P Q : Type 0} → (r : Result A B) → (P → Q) → OnErr r P → OnErr r Q
on_err (Ok x) f h = h
on_err (Err e) f h = f h

-- The decimal digits of a number have its value.
use Rattle.std.proofs.Common.{◌≡◌, ℕ, ◌+◌, ◌-◌, ◌*◌, ◌/◌, ◌%◌, ◌<◌, ◌≤◌, ◌^◌, List, [], ◌∷◌, ◌++◌, refl, ap, ◌∙◌, arith, Bool, true, false}
use Rattle.std.specs.Prelude.{decimal, nat_le, Some, None, if◌then◌else◌}
use Rattle.std.proofs.lemmas.Bool.{and_from, le-leb, leb-true}
use Rattle.std.proofs.lemmas.Fmt.{decimal_by_steps_wide}
use Rattle.mini_model.specs.Templates.{is_digit}
use Rattle.mini_accept.specs.WellShaped.{max_big_int}
use Rattle.mini_accept.specs.Literals.{digits_from, digits_value}

is_digit-of : (m : ℕ) → m < 10 → is_digit (48 + m) ≡ true
is_digit-of m small = and_from _ _ (le-leb 48 (48 + m) (omega arith)) (le-leb (48 + m) 57 (omega arith))

if_more : (b : Bool) (n v c : ℕ) (ds : List ℕ) → is_digit c ≡ true → ((m : ℕ) → digits_from m ds ≡ Some v → digits_from m (ds ++ c ∷ []) ≡ Some (v * 10 + (c - 48))) → (if b then digits_from n ds else None) ≡ Some v → (if b then digits_from n (ds ++ c ∷ []) else None) ≡ Some (v * 10 + (c - 48))
if_more true n v c ds digit more e = more n e
if_more false n v c ds digit more e = absurd (cc e)

one_more : (ds : List ℕ) (n v c : ℕ) → is_digit c ≡ true → digits_from n ds ≡ Some v → digits_from n (ds ++ c ∷ []) ≡ Some (v * 10 + (c - 48))
one_more [] n v c digit e = let same : n ≡ v = cc in ap (λ b. if b then Some (n * 10 + (c - 48)) else None) digit ∙ ap (λ m. Some (m * 10 + (c - 48))) same
one_more (u ∷ us) n v c digit e = if_more (is_digit u) (n * 10 + (u - 48)) v c us digit (λ m f. one_more us m v c digit f) e

Valued : ℕ → List ℕ → Type 0
Valued n ds = digits_from 0 ds ≡ Some n

one_digit : (n : ℕ) → n < 10 → Valued n ((48 + n) ∷ [])
unfolding Valued
one_digit n small = ap (λ b. if b then Some (0 * 10 + ((48 + n) - 48)) else None) (is_digit-of n small) ∙ ap Some (let same : 0 * 10 + ((48 + n) - 48) ≡ n = omega arith in same)

next_digit : (n : ℕ) (ds : List ℕ) → 10 ≤ n → Valued (n / 10) ds → Valued n (ds ++ ((48 + n % 10) ∷ []))
unfolding Valued
next_digit n ds large v = one_more ds 0 (n / 10) (48 + n % 10) (is_digit-of (n % 10) (omega arith)) v ∙ ap Some (let same : n / 10 * 10 + ((48 + n % 10) - 48) ≡ n = omega arith in same)

valued : (n : ℕ) → n < 10 ^ 64 → Valued n (decimal n)
valued = decimal_by_steps_wide Valued one_digit next_digit

is_there : (ds : List ℕ) (n : ℕ) → (ds ≡ [] → ⊥) → digits_from 0 ds ≡ Some n → digits_value ds ≡ Some n
is_there [] n some e = absurd (some refl)
is_there (c ∷ cs) n some e = e

NonEmpty : ℕ → List ℕ → Type 0
NonEmpty n ds = ds ≡ [] → ⊥

ends : (ds : List ℕ) (c : ℕ) → ds ++ c ∷ [] ≡ [] → ⊥
ends [] c e = cc e
ends (d ∷ ds) c e = cc e

some_digits : (n : ℕ) → n < 10 ^ 64 → NonEmpty n (decimal n)
unfolding NonEmpty
some_digits = decimal_by_steps_wide NonEmpty (λ n small e. cc e) (λ n ds large v e. ends ds (48 + n % 10) e)

pub big_int_back : (n : ℕ) → nat_le n max_big_int ≡ true → digits_value (decimal n) ≡ Some n
unfolding Valued NonEmpty
big_int_back n small =
    let below : n ≤ max_big_int = leb-true n max_big_int small in
    let far : n < 10 ^ 64 = omega arith in
    is_there (decimal n) n (some_digits n far) (valued n far)

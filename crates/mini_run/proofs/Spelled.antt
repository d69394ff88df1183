-- The choice that a word spells.
use Rattle.std.proofs.Common.{◌≡◌, ◌≢◌, ℕ, zero, suc, ◌+◌, ◌<◌, ◌≤◌, ◌^◌, List, [], ◌∷◌, ◌++◌, length, get_or, drop, refl, sym, ap, ◌∙◌, arith}
use Rattle.std.specs.Prelude.{◌==◌, if◌then◌else◌, Result, Ok, Err, codes}
use Rattle.std.specs.Fmt.{decimal}
use Rattle.std.specs.Str.Parse.{digits_value, ParsesUnsigned}
use Rattle.std.proofs.lemmas.Fmt.{decimal_is_IsNumeral, decimal_digit, decimal_nonempty, first_decimal, decimal-digits_value, decimal_injective, parse-decimal}
use Rattle.std.proofs.lemmas.List.{append_cancel_left}
use Rattle.std.proofs.lemmas.Result.{OkIff-at_ok}
use Rattle.std.proofs.lemmas.Str.Parse.{numerals_by_value, tells_by_index, digit_at, parse_plain}
use Rattle.mini_run.specs.declared.choice.Choice.{Choice}
use Rattle.mini_run.specs.declared.choice.Choice.TheVariants.{NoSequences, NoJoinVars, KeepFunctionNames, KeepClassNames, PureCoercion, KnownCalls, Passes, MaxDepth, Generate, Edition}
use Rattle.mini_run.specs.Words.{spelling, IsAllowed, HasNumber}

-- ---- the digits of a number

pub none-plus : (ds : List ℕ) → get_or ds 0 0 ≡ 43 → (n : ℕ) → n < 2 ^ 32 → ds ≢ decimal n
none-plus ds plus n small is =
    let first : get_or ds 0 0 ≡ get_or (decimal n) 0 0 = ap (λ l. get_or l 0 0) is in
    let digits = (decimal_is_IsNumeral n (omega arith)).0 in
    omega (arith, digit_at (decimal n) 0 digits.1 digits.0)

pub none-empty : (ds : List ℕ) → length ds ≡ 0 → (n : ℕ) → n < 2 ^ 32 → ds ≢ decimal n
none-empty ds empty n small is = omega (arith, ap length is, decimal_nonempty n (omega arith))

pub just_zero : (ds : List ℕ) → length ds ≡ 1 → get_or ds 0 0 ≡ 48 → ds ≡ decimal 0
just_zero [] one nought = absurd (omega (arith, one))
just_zero (d ∷ []) one nought = ap (λ x. x ∷ []) nought ∙ sym (decimal_digit 0 (omega arith))
just_zero (d ∷ e ∷ ds) one nought = absurd (omega (arith, one))

pub none-leading_zero : (ds : List ℕ) → 1 < length ds → get_or ds 0 0 ≡ 48 → (n : ℕ) → n < 2 ^ 32 → ds ≢ decimal n
none-leading_zero ds long lead zero small is =
    let one : length ds ≡ 1 = ap length is ∙ ap length (decimal_digit 0 (omega arith)) in
    omega arith
none-leading_zero ds long lead (suc n) small is =
    let first : get_or ds 0 0 ≡ get_or (decimal (suc n)) 0 0 = ap (λ l. get_or l 0 0) is in
    omega (arith, first_decimal (suc n) (omega arith) (omega arith))

pub none-unparsed : {E : Type 0} (ds : List ℕ) (r : Result ℕ E) (e : E) → r ≡ Err e → ParsesUnsigned 32 10 ds r → (n : ℕ) → n < 2 ^ 32 → ds ≢ decimal n
none-unparsed ds r e failed parses n small is = cc (sym failed ∙ parse-decimal 32 n ds r small (omega arith) is parses)

pub parsed : {E : Type 0} (ds : List ℕ) (r : Result ℕ E) (n : ℕ) → r ≡ Ok n → ParsesUnsigned 32 10 ds r → get_or ds 0 0 ≢ 43 → get_or ds 0 0 ≢ 48 → ds ≡ decimal n
parsed ds r n read parses plain lead =
    let own = numerals_by_value _ tells_by_index in
    let (is, value) = OkIff-at_ok r _ _ n (parse_plain own 32 ds r parses plain) read in
    sym (ap decimal value ∙ decimal-digits_value own ds is.0 is.1 (λ nought. absurd (lead nought)) (omega (arith, is.2)))

pub depth_one : (w : List ℕ) (m n : ℕ) → w ≡ codes "--max-depth=" ++ decimal m → m < 2 ^ 32 → w ≡ codes "--max-depth=" ++ decimal n → n ≤ 1000 → m ≡ n
depth_one w m n is small is' small' = decimal_injective m n (omega arith) (omega arith) (append_cancel_left (codes "--max-depth=") _ _ (sym is ∙ is'))

pub count_one : (w : List ℕ) (m n : ℕ) → w ≡ codes "--generate=" ++ decimal m → m < 2 ^ 32 → w ≡ codes "--generate=" ++ decimal n → n ≤ 2000 → m ≡ n
count_one w m n is small is' small' = decimal_injective m n (omega arith) (omega arith) (append_cancel_left (codes "--generate=") _ _ (sym is ∙ is'))

pub edition_one : (w : List ℕ) (m n : ℕ) → w ≡ codes "--edition=" ++ decimal m → m < 2 ^ 32 → w ≡ codes "--edition=" ++ decimal n → n ≤ 2022 → m ≡ n
edition_one w m n is small is' small' = decimal_injective m n (omega arith) (omega arith) (append_cancel_left (codes "--edition=") _ _ (sym is ∙ is'))

-- ---- two choices aren't spelled alike

by_mark : List ℕ → ℕ → Choice
by_mark w m =
    if m == 223 then NoSequences
    else (if m == 215 then NoJoinVars
    else (if m == 209 then KeepFunctionNames
    else (if m == 206 then KeepClassNames
    else (if m == 211 then PureCoercion
    else (if m == 152 then KnownCalls
    else (if m == 227 then Passes (digits_value 10 (drop 9 w))
    else (if m == 200 then Generate (digits_value 10 (drop 11 w))
    else (if m == 212 then Edition (digits_value 10 (drop 10 w))
    else MaxDepth (digits_value 10 (drop 12 w))))))))))

-- by two of its letters, and the number at its end
choice_in : List ℕ → Choice
choice_in w = by_mark w (get_or w 2 0 + get_or w 7 0)

comes_back : (c : Choice) → IsAllowed c → choice_in (spelling c) ≡ c
unfolding by_mark choice_in
comes_back NoSequences small = refl
comes_back NoJoinVars small = refl
comes_back KeepFunctionNames small = refl
comes_back KeepClassNames small = refl
comes_back PureCoercion small = refl
comes_back KnownCalls small = refl
comes_back (Passes n) small = ap Passes (decimal_is_IsNumeral n (omega arith)).1
comes_back (MaxDepth n) small = let below = small.1 in ap MaxDepth (decimal_is_IsNumeral n (omega arith)).1
comes_back (Generate n) small = ap Generate (decimal_is_IsNumeral n (omega arith)).1
comes_back (Edition n) small = let below = small.1 in ap Edition (decimal_is_IsNumeral n (omega arith)).1

pub spelling_tells : (c d : Choice) → IsAllowed c → IsAllowed d → spelling c ≡ spelling d → c ≡ d
spelling_tells c d small small' is = sym (comes_back c small) ∙ ap choice_in is ∙ comes_back d small'

-- ---- a word that spells no choice

pub none_of : (w : List ℕ) → w ≢ codes "--no-sequences" → w ≢ codes "--no-join-vars" → w ≢ codes "--keep-function-names" → w ≢ codes "--keep-class-names" → w ≢ codes "--pure-coercion" → w ≢ codes "--known-calls" → ((c : Choice) → IsAllowed c → HasNumber c → w ≢ spelling c) → (c : Choice) → IsAllowed c → w ≢ spelling c
none_of w sequences join function class pure calls others NoSequences small = sequences
none_of w sequences join function class pure calls others NoJoinVars small = join
none_of w sequences join function class pure calls others KeepFunctionNames small = function
none_of w sequences join function class pure calls others KeepClassNames small = class
none_of w sequences join function class pure calls others PureCoercion small = pure
none_of w sequences join function class pure calls others KnownCalls small = calls
none_of w sequences join function class pure calls others (Passes n) small = others (Passes n) small tt
none_of w sequences join function class pure calls others (MaxDepth n) small = others (MaxDepth n) small tt
none_of w sequences join function class pure calls others (Generate n) small = others (Generate n) small tt
none_of w sequences join function class pure calls others (Edition n) small = others (Edition n) small tt

pub none_numbered : (w : List ℕ) → ((n : ℕ) → n < 2 ^ 32 → w ≢ codes "--passes=" ++ decimal n) → ((n : ℕ) → 1 ≤ n → n ≤ 1000 → w ≢ codes "--max-depth=" ++ decimal n) → ((n : ℕ) → n ≤ 2000 → w ≢ codes "--generate=" ++ decimal n) → ((n : ℕ) → 2015 ≤ n → n ≤ 2022 → w ≢ codes "--edition=" ++ decimal n) → (c : Choice) → IsAllowed c → HasNumber c → w ≢ spelling c
none_numbered w passes depth count edition NoSequences small has = absurd has
none_numbered w passes depth count edition NoJoinVars small has = absurd has
none_numbered w passes depth count edition KeepFunctionNames small has = absurd has
none_numbered w passes depth count edition KeepClassNames small has = absurd has
none_numbered w passes depth count edition PureCoercion small has = absurd has
none_numbered w passes depth count edition KnownCalls small has = absurd has
none_numbered w passes depth count edition (Passes n) small has = passes n small
none_numbered w passes depth count edition (MaxDepth n) small has = depth n small.0 small.1
none_numbered w passes depth count edition (Generate n) small has = count n small
none_numbered w passes depth count edition (Edition n) small has = edition n small.0 small.1

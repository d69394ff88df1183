-- What counts are after references were counted in or out, symbol by symbol.
use Rattle.std.specs.Prelude.{ℕ, zero, suc, ◌+◌, ◌-◌, ◌^◌, min, ◌≡◌, ◌≤◌, ◌<◌, refl, nat_eq, ◌&&◌, Bool, true, false, List, [], ◌∷◌, length, replicate, slice_index, slice_set, Option, Some, None, if◌then◌else◌}
use Rattle.std.proofs.Common.{ap, ◌∙◌, arith, sym, zero-add}
use Rattle.std.specs.List.{fold}
use Rattle.std.proofs.lemmas.List.Sums.{sum_by_from}
use Rattle.mini_context.proofs.Equal.{zero_suc, suc_zero, suc_suc}
use Rattle.mini_model.specs.declared.name.SymbolId.{SymbolId}
use Rattle.mini_model.specs.Tree.{Tree}
use Rattle.mini_laws.specs.declared.names.Use.{Use}
use Rattle.mini_laws.specs.declared.names.Use.TheVariants.{Read}
use Rattle.mini_laws.specs.References.{Reference, references, has_symbol, one_more, with_reference, counted, counts_of}
use Rattle.mini_context.specs.declared.count.Tally.{Tally}
use Rattle.mini_context.specs.declared.count.Tally.TheVariants.{In, Out}
use Rattle.mini_laws.specs.Counts.{times_of, Contained, FellBy}
use Rattle.mini_context.specs.Tallies.{tallied, tallied_one, tallied_number, tallied_symbol}

-- one where a test holds
one_if : Bool → ℕ
one_if b = if b then 1 else 0

-- ---- lists of numbers

pub set_length : (c : List ℕ) (i v : ℕ) → length (slice_set c i v) ≡ length c
set_length [] i v = refl
set_length (x ∷ c) zero v = refl
set_length (x ∷ c) (suc i) v = ap suc (set_length c i v)

minus_zero : (n : ℕ) → n ≡ n - 0
minus_zero n = omega arith

zero_minus : (n : ℕ) → 0 ≡ 0 - n
zero_minus n = omega arith

plus_zero : (n : ℕ) → n ≡ n + 0
plus_zero n = omega arith

fallen : (c : List ℕ) (i s : ℕ) → slice_index (slice_set c i (slice_index c i - 1)) s ≡ slice_index c s - one_if (nat_eq i s)
unfolding one_if
fallen [] i s = zero_minus (one_if (nat_eq i s))
fallen (x ∷ c) zero zero = refl
fallen (x ∷ c) zero (suc s) = minus_zero (slice_index c s) ∙ ap (λ b. slice_index c s - one_if b) (sym (zero_suc s))
fallen (x ∷ c) (suc i) zero = minus_zero x ∙ ap (λ b. x - one_if b) (sym (suc_zero i))
fallen (x ∷ c) (suc i) (suc s) = fallen c i s ∙ ap (λ b. slice_index c s - one_if b) (sym (suc_suc i s))

risen : (c : List ℕ) (i s : ℕ) → s < length c → slice_index (slice_set c i (slice_index c i + 1)) s ≡ slice_index c s + one_if (nat_eq i s)
unfolding one_if
risen [] i s h = absurd (omega arith)
risen (x ∷ c) zero zero h = refl
risen (x ∷ c) zero (suc s) h = plus_zero (slice_index c s) ∙ ap (λ b. slice_index c s + one_if b) (sym (zero_suc s))
risen (x ∷ c) (suc i) zero h = plus_zero x ∙ ap (λ b. x + one_if b) (sym (suc_zero i))
risen (x ∷ c) (suc i) (suc s) h = risen c i s (omega arith) ∙ ap (λ b. slice_index c s + one_if b) (sym (suc_suc i s))

more_index : (c : List ℕ) (i k : ℕ) → slice_index (slice_set c i (slice_index c i + 1)) k ≤ slice_index c k + 1
more_index [] i k = omega arith
more_index (x ∷ c) zero zero = omega arith
more_index (x ∷ c) zero (suc k) = omega arith
more_index (x ∷ c) (suc i) zero = omega arith
more_index (x ∷ c) (suc i) (suc k) = more_index c i k

zeros_index : (n k : ℕ) → slice_index (replicate n 0) k ≡ 0
zeros_index zero k = refl
zeros_index (suc n) zero = refl
zeros_index (suc n) (suc k) = zeros_index n k

zeros_length : (n : ℕ) → length {A = ℕ} (replicate n 0) ≡ n
zeros_length zero = refl
zeros_length (suc n) = ap suc (zeros_length n)

times_more : (p : Use → Bool) (s : ℕ) (r : Reference) (rs : List Reference) → times_of p s (r ∷ rs) ≡ one_if (p r.used && has_symbol s r.name.symbol) + times_of p s rs
unfolding one_if
times_more p s r rs =
    let f : Reference → ℕ = λ x. if p x.used && has_symbol s x.name.symbol then 1 else 0 in
    ap (λ n. fold (λ a x. a + f x) n rs) (zero-add (f r)) ∙ sum_by_from f (f r) rs

-- ---- counted out

symbol_fell : (c : List ℕ) (o : Option SymbolId) (s : ℕ) → slice_index (tallied_symbol Out c o) s ≡ slice_index c s - one_if (has_symbol s o)
unfolding one_if
symbol_fell c None s = omega arith
symbol_fell c (Some x) s = fallen c x.0 s

one_fell : (b : Bool) (c : List ℕ) (o : Option SymbolId) (s : ℕ) → slice_index (if b then tallied_symbol Out c o else c) s ≡ slice_index c s - one_if (b && has_symbol s o)
unfolding one_if
one_fell true c o s = symbol_fell c o s
one_fell false c o s = omega arith

fell : (p : Use → Bool) (rs : List Reference) (c : List ℕ) (s : ℕ) → slice_index (tallied Out p rs c) s ≡ slice_index c s - times_of p s rs
unfolding tallied
fell p [] c s = minus_zero (slice_index c s)
fell p (r ∷ rs) c s = omega (arith, times_more p s r rs, fell p rs (tallied_one Out p c r) s, one_fell (p r.used) c r.name.symbol s)

symbol_length : (d : Tally) (c : List ℕ) (o : Option SymbolId) → length (tallied_symbol d c o) ≡ length c
symbol_length d c None = refl
symbol_length d c (Some x) = set_length c x.0 (tallied_number d (slice_index c x.0))

one_length : (d : Tally) (b : Bool) (c : List ℕ) (o : Option SymbolId) → length (if b then tallied_symbol d c o else c) ≡ length c
one_length d true c o = symbol_length d c o
one_length d false c o = refl

same_length : (d : Tally) (p : Use → Bool) (rs : List Reference) (c : List ℕ) → length (tallied d p rs c) ≡ length c
unfolding tallied
same_length d p [] c = refl
same_length d p (r ∷ rs) c = same_length d p rs (tallied_one d p c r) ∙ one_length d (p r.used) c r.name.symbol

pub counted_out : (p : Use → Bool) (rs : List Reference) (old new : List ℕ) → Contained p rs old → new ≡ tallied Out p rs old → FellBy p rs old new
counted_out p rs old new within e = record {
  symbols = ap length e ∙ same_length Out p rs old;
  each = λ s. omega (arith, ap (λ c. slice_index c s) e, fell p rs old s, within s);
}

-- ---- counted in

-- no count is too large for so many more references
abbrev HasRoom : List ℕ → ℕ → Type 0
HasRoom c n = (k : ℕ) → slice_index c k + n + 1 ≤ 2 ^ 32

symbol_in : (c : List ℕ) (o : Option SymbolId) → HasRoom c 1 → tallied_symbol In c o ≡ one_more c o
symbol_in c None h = refl
symbol_in c (Some x) h = let k = h x.0 in let e : min (slice_index c x.0 + 1) (2 ^ 32 - 1) ≡ slice_index c x.0 + 1 = omega arith in ap (slice_set c x.0) e

one_in : (b : Bool) (c : List ℕ) (o : Option SymbolId) → HasRoom c 1 → (if b then tallied_symbol In c o else c) ≡ (if b then one_more c o else c)
one_in true c o h = symbol_in c o h
one_in false c o h = refl

symbol_by : (c : List ℕ) (o : Option SymbolId) (k : ℕ) → slice_index (one_more c o) k ≤ slice_index c k + 1
symbol_by c None k = omega arith
symbol_by c (Some x) k = more_index c x.0 k

one_by : (b : Bool) (c : List ℕ) (o : Option SymbolId) (k : ℕ) → slice_index (if b then one_more c o else c) k ≤ slice_index c k + 1
one_by true c o k = symbol_by c o k
one_by false c o k = omega arith

counted_in : (p : Use → Bool) (rs : List Reference) (c : List ℕ) → HasRoom c (length rs) → tallied In p rs c ≡ counted p rs c
unfolding tallied counted
counted_in p [] c h = refl
counted_in p (r ∷ rs) c h =
    ap (tallied In p rs) (one_in (p r.used) c r.name.symbol (λ k. omega (arith, h k)))
    ∙ counted_in p rs (with_reference p c r) (λ k. omega (arith, h k, one_by (p r.used) c r.name.symbol k))

pub fresh : (p : Use → Bool) (n : ℕ) (t : Tree) (zeros new : List ℕ) → length (references Read t) + 1 < 2 ^ 32 → zeros ≡ replicate n 0 → new ≡ tallied In p (references Read t) zeros → new ≡ counts_of p n t
fresh p n t zeros new h e f = f ∙ ap (tallied In p (references Read t)) e ∙ counted_in p (references Read t) (replicate n 0) (λ k. omega (arith, h, zeros_index n k))

symbol_rose : (c : List ℕ) (o : Option SymbolId) (s : ℕ) → s < length c → slice_index (one_more c o) s ≡ slice_index c s + one_if (has_symbol s o)
unfolding one_if
symbol_rose c None s h = omega arith
symbol_rose c (Some x) s h = risen c x.0 s h

one_rose : (b : Bool) (c : List ℕ) (o : Option SymbolId) (s : ℕ) → s < length c → slice_index (if b then one_more c o else c) s ≡ slice_index c s + one_if (b && has_symbol s o)
unfolding one_if
one_rose true c o s h = symbol_rose c o s h
one_rose false c o s h = omega arith

more_length : (b : Bool) (c : List ℕ) (o : Option SymbolId) → length (if b then one_more c o else c) ≡ length c
more_length true c None = refl
more_length true c (Some x) = set_length c x.0 (slice_index c x.0 + 1)
more_length false c o = refl

rose : (p : Use → Bool) (rs : List Reference) (c : List ℕ) (s : ℕ) → s < length c → slice_index (counted p rs c) s ≡ slice_index c s + times_of p s rs
unfolding counted
rose p [] c s h = plus_zero (slice_index c s)
rose p (r ∷ rs) c s h = omega (arith, times_more p s r rs, rose p rs (with_reference p c r) s (omega (arith, h, more_length (p r.used) c r.name.symbol)), one_rose (p r.used) c r.name.symbol s h)

-- the counts of a tree are how often each of its symbols is read, or written
pub counts_are_times : (p : Use → Bool) (n : ℕ) (t : Tree) (s : ℕ) → s < n → slice_index (counts_of p n t) s ≡ times_of p s (references Read t)
counts_are_times p n t s h = omega (arith, rose p (references Read t) (replicate n 0) s (omega (arith, h, zeros_length n)), zeros_index n s)

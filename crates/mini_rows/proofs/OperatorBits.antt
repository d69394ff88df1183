-- A bitwise operator of a number and of two others, one after the other, is that of the number and of what it makes of the two.
use Rattle.std.proofs.Common.{◌≡◌, ℕ, ℤ, ◌<◌, Bool, true, false, Some, refl, sym, ap, ◌∙◌, true≢false, arith}
use Rattle.std.specs.Prelude.{pos, negsuc, ◌+◌, ◌-◌, ◌%◌, nat_lt, max}
use Rattle.std.specs.Int.Bits.{bit_and, bit_or, bit_xor}
use Rattle.std.proofs.lemmas.Nat.{and_assoc, and_comm, or_comm, xor_comm, and_le_l, or_of_32, xor_of_32}
use Rattle.std.proofs.lemmas.Nat.Bits.{bit_at_or, bit_at_xor, same_from_bits}
use Rattle.mini_model.specs.declared.operator.BinaryOperator.{BinaryOperator}
use Rattle.mini_model.specs.declared.operator.BinaryOperator.TheVariants as binary_operator
use Rattle.mini_laws.specs.Value.{Number, choose}
use Rattle.mini_laws.specs.Conversion.{makes}
use Rattle.mini_laws.specs.Operators.{modulo_32, signed_32, of_numbers}
use Rattle.mini_terms.specs.Calculated.{calculated_numbers}
use Rattle.mini_terms.specs.Const.{made}
use Rattle.mini_rows.specs.Operators.{is_bitwise}
use Rattle.std.specs.Int.{bit_at}

-- ---- bits

max_same : (a b c : ℕ) → max (max a b) c ≡ max a (max b c)
max_same a b c = omega arith

odd_same : (a b c : ℕ) → ((a + b) % 2 + c) % 2 ≡ (a + (b + c) % 2) % 2
odd_same a b c = omega arith

or_assoc : (a b c : ℕ) → bit_or (bit_or a b) c ≡ bit_or a (bit_or b c)
or_assoc a b c = same_from_bits (bit_or (bit_or a b) c) (bit_or a (bit_or b c)) (λ i. bit_at_or (bit_or a b) c i ∙ ap (λ k. max k (bit_at c i)) (bit_at_or a b i) ∙ max_same (bit_at a i) (bit_at b i) (bit_at c i) ∙ sym (bit_at_or a (bit_or b c) i ∙ ap (max (bit_at a i)) (bit_at_or b c i)))

xor_assoc : (a b c : ℕ) → bit_xor (bit_xor a b) c ≡ bit_xor a (bit_xor b c)
xor_assoc a b c = same_from_bits (bit_xor (bit_xor a b) c) (bit_xor a (bit_xor b c)) (λ i. bit_at_xor (bit_xor a b) c i ∙ ap (λ k. (k + bit_at c i) % 2) (bit_at_xor a b i) ∙ odd_same (bit_at a i) (bit_at b i) (bit_at c i) ∙ sym (bit_at_xor a (bit_xor b c) i ∙ ap (λ k. (bit_at a i + k) % 2) (bit_at_xor b c i)))

abbrev of_bits : BinaryOperator → ℕ → ℕ → ℕ
of_bits binary_operator.BitwiseAnd a b = bit_and a b
of_bits binary_operator.BitwiseXor a b = bit_xor a b
of_bits o a b = bit_or a b

bits_assoc : (o : BinaryOperator) → is_bitwise o ≡ true → (a b c : ℕ) → of_bits o (of_bits o a b) c ≡ of_bits o a (of_bits o b c)
bits_assoc binary_operator.BitwiseAnd h a b c = and_assoc c a b
bits_assoc binary_operator.BitwiseXor h a b c = xor_assoc a b c
bits_assoc binary_operator.BitwiseOr h a b c = or_assoc a b c
bits_assoc o h a b c = absurd (true≢false (sym h))

bits_comm : (o : BinaryOperator) → is_bitwise o ≡ true → (a b : ℕ) → of_bits o a b ≡ of_bits o b a
bits_comm binary_operator.BitwiseAnd h a b = and_comm a b
bits_comm binary_operator.BitwiseXor h a b = xor_comm a b
bits_comm binary_operator.BitwiseOr h a b = or_comm a b
bits_comm o h a b = absurd (true≢false (sym h))

bits_small : (o : BinaryOperator) → is_bitwise o ≡ true → (a b : ℕ) → a < 4_294_967_296 → b < 4_294_967_296 → of_bits o a b < 4_294_967_296
bits_small binary_operator.BitwiseAnd h a b k l = omega (arith, and_le_l a b, k)
bits_small binary_operator.BitwiseXor h a b k l = xor_of_32 a b k l
bits_small binary_operator.BitwiseOr h a b k l = or_of_32 a b k l
bits_small o h a b k l = absurd (true≢false (sym h))

-- ---- numbers

modulo_small : (x : ℤ) → modulo_32 x < 4_294_967_296
modulo_small (pos n) = omega arith
modulo_small (negsuc n) = omega arith

-- the number with these bits has them
record WithBits (k : ℕ) : Type 0 where
  number : ℤ
  is : signed_32 k ≡ makes (Number number)
  bits : modulo_32 number ≡ k

with_bits : (k : ℕ) → k < 4_294_967_296 → WithBits k
with_bits k h = go (nat_lt k 2_147_483_648) refl
  where
    go : (b : Bool) → nat_lt k 2_147_483_648 ≡ b → WithBits k
    go true e = record { number = pos k; is = ap (λ b. choose b (makes (Number (pos k))) (makes (Number (negsuc (4_294_967_295 - k))))) e; bits = omega (arith, h) }
    go false e = record { number = negsuc (4_294_967_295 - k); is = ap (λ b. choose b (makes (Number (pos k))) (makes (Number (negsuc (4_294_967_295 - k))))) e; bits = omega (arith, h) }

made_of_bits : (o : BinaryOperator) → is_bitwise o ≡ true → (x y : ℤ) → of_numbers o x y ≡ signed_32 (of_bits o (modulo_32 x) (modulo_32 y))
made_of_bits binary_operator.BitwiseAnd h x y = refl
made_of_bits binary_operator.BitwiseXor h x y = refl
made_of_bits binary_operator.BitwiseOr h x y = refl
made_of_bits o h x y = absurd (true≢false (sym h))

calculated_of_bits : (o : BinaryOperator) → is_bitwise o ≡ true → (x y : ℤ) → calculated_numbers o x y ≡ made (of_numbers o x y)
calculated_of_bits binary_operator.BitwiseAnd h x y = refl
calculated_of_bits binary_operator.BitwiseXor h x y = refl
calculated_of_bits binary_operator.BitwiseOr h x y = refl
calculated_of_bits o h x y = absurd (true≢false (sym h))

-- the order of the two sides is free
pub sides_free : (o : BinaryOperator) → is_bitwise o ≡ true → (x y : ℤ) → of_numbers o x y ≡ of_numbers o y x
sides_free o h x y = made_of_bits o h x y ∙ ap signed_32 (bits_comm o h (modulo_32 x) (modulo_32 y)) ∙ sym (made_of_bits o h y x)

-- what two of them make, first of the number and then of that
pub record Masked (o : BinaryOperator) (x c d r : ℤ) : Type 0 where
  pub number : ℤ
  pub first : of_numbers o x c ≡ makes (Number number)
  pub second : of_numbers o number d ≡ of_numbers o x r

number_is : (x y : ℤ) → made (makes (Number x)) ≡ Some (Number y) → x ≡ y
number_is x y e = cc e

pub masked_by : (o : BinaryOperator) → is_bitwise o ≡ true → (x c d r : ℤ) → calculated_numbers o c d ≡ Some (Number r) → Masked o x c d r
masked_by o h x c d r e =
    let k : ℕ = of_bits o (modulo_32 x) (modulo_32 c) in
    let l : ℕ = of_bits o (modulo_32 c) (modulo_32 d) in
    let one = with_bits k (bits_small o h (modulo_32 x) (modulo_32 c) (modulo_small x) (modulo_small c)) in
    let two = with_bits l (bits_small o h (modulo_32 c) (modulo_32 d) (modulo_small c) (modulo_small d)) in
    let known : two.number ≡ r = number_is two.number r (sym (ap made (made_of_bits o h c d ∙ two.is)) ∙ sym (calculated_of_bits o h c d) ∙ e) in
    let bits : modulo_32 r ≡ l = sym (ap modulo_32 known) ∙ two.bits in record {
      number = one.number;
      first = made_of_bits o h x c ∙ one.is;
      second = made_of_bits o h one.number d ∙ ap (λ j. signed_32 (of_bits o j (modulo_32 d))) one.bits ∙ ap signed_32 (bits_assoc o h (modulo_32 x) (modulo_32 c) (modulo_32 d)) ∙ sym (ap (λ j. signed_32 (of_bits o (modulo_32 x) j)) bits) ∙ sym (made_of_bits o h x r);
    }

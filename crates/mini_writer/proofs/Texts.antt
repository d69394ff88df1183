-- Texts come back from their bytes.
use Rattle.std.proofs.Common.{◌≡◌, ℕ, zero, suc, arith, ◌<◌, List, [], ◌∷◌, refl, ap, sym, ◌∙◌, Bool, true, false}
use Rattle.std.specs.Prelude.{nat_lt, slice_index, not, Some}
use Rattle.std.proofs.lemmas.Bool.{and_parts, ltb-true}
use Rattle.std.specs.Char.Utf16.{has_unpaired_surrogate}
use Rattle.mini_model.specs.Texts.{units_of, bytes_of, are_units, is_identifier_name}
use Rattle.mini_model.proofs.Units.{units_of-bytes_of, bytes_of-units_of, is_identifier_name-paired, AllUnits-are_units}
use Rattle.mini_model.proofs.Decimals.{units_of-ascii}
use Rattle.std.proofs.lemmas.Str.{IsUtf8-from_ascii}
use Rattle.mini_accept.specs.WellShaped.{is_paired, is_name}
use Rattle.mini_accept.specs.Fields.{require, paired_units, name_of_units}
use Rattle.mini_writer.proofs.Slots.{are_ascii}

unpaired : (b : Bool) → not b ≡ true → b ≡ false
unpaired true e = sym e
unpaired false e = refl

pub text_back : (s : List ℕ) → is_paired s ≡ true → are_units s ≡ true → units_of (bytes_of s) ≡ s
text_back s paired units = units_of-bytes_of s (unpaired (has_unpaired_surrogate s) (and_parts (are_units s) (not (has_unpaired_surrogate s)) paired).1) (AllUnits-are_units s units)

pub text_read : (s : List ℕ) → is_paired s ≡ true → are_units s ≡ true → paired_units (bytes_of s) ≡ Some s
text_read s paired units = ap (λ u. require (is_paired u) (Some u)) (text_back s paired units) ∙ ap (λ b. require b (Some s)) paired

pub name_back : (s : List ℕ) → is_name s ≡ true → are_units s ≡ true → units_of (bytes_of s) ≡ s
name_back s named units = units_of-bytes_of s (is_identifier_name-paired s (and_parts (are_units s) (is_identifier_name s) named).1) (AllUnits-are_units s units)

pub name_read : (s : List ℕ) → is_name s ≡ true → are_units s ≡ true → name_of_units (units_of (bytes_of s)) ≡ Some s
name_read s named units = ap name_of_units (name_back s named units) ∙ ap (λ b. require b (Some s)) named

-- a word in ASCII is its own bytes
ascii_at : (w : List ℕ) → are_ascii w ≡ true → (i : ℕ) → slice_index w i < 128
ascii_at [] e i = omega arith
ascii_at (u ∷ us) e zero = ltb-true u 128 (and_parts (nat_lt u 128) (are_ascii us) e).0
ascii_at (u ∷ us) e (suc i) = ascii_at us (and_parts (nat_lt u 128) (are_ascii us) e).1 i

pub ascii_bytes : (w : List ℕ) → are_ascii w ≡ true → bytes_of w ≡ w
ascii_bytes w e = ap bytes_of (sym (units_of-ascii w (ascii_at w e))) ∙ bytes_of-units_of w (IsUtf8-from_ascii w (ascii_at w e))

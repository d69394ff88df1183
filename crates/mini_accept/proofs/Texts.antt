-- The units of texts in UTF-8.
use Rattle.std.proofs.Common.{◌≡◌, ℕ, List, [], ◌∷◌, Some, None, map, refl, ap, sym, ◌∙◌, Bool, true, false, not, is_some, IsUtf8}
use Rattle.std.specs.Char.Utf16.{has_unpaired_surrogate}
use Rattle.std.specs.List.{list_any}
use Rattle.std.proofs.lemmas.Bool.{and_from}
use Rattle.std.specs.Str.{chars, IsAscii}
use Rattle.std.proofs.lemmas.Str.{scalars-chars, IsUtf8-from_ascii}
use Rattle.serde_json.specs.Data.{Data}
use Rattle.serde_json.specs.Find.{as_null, as_str}
use Rattle.mini_model.specs.Texts.{units_of, bytes_of, are_units, is_identifier_name}
use Rattle.mini_model.proofs.Units.{utf16_chars-encode_utf16, bytes_of-units_of, are_units-units_of}
use Rattle.mini_model.proofs.Decimals.{units_of-ascii}
use Rattle.mini_accept.specs.WellShaped.{is_text, is_paired}
use Rattle.mini_accept.specs.Fields.{require, paired_units, name_of_units}
use Rattle.mini_accept.specs.Expressions.{cooked_by}
use Rattle.mini_accept.proofs.Types.{text_same, text_is}

all_there : (cs : List ℕ) → list_any (λ o. not (is_some o)) (map Some cs) ≡ false
all_there [] = refl
all_there (c ∷ cs) = all_there cs

no_half : (s : List ℕ) → IsUtf8 s → not (has_unpaired_surrogate (units_of s)) ≡ true
no_half s utf8 = ap (λ os. not (list_any (λ o. not (is_some o)) os)) (utf16_chars-encode_utf16 (chars s) (scalars-chars s utf8)) ∙ ap not (all_there (chars s))

text_paired : (s : List ℕ) → IsUtf8 s → is_paired (units_of s) ≡ true
text_paired s utf8 = and_from (are_units (units_of s)) (not (has_unpaired_surrogate (units_of s))) (are_units-units_of s utf8) (no_half s utf8)

-- the units of a text are a name where they spell one
pub name_read : (s : List ℕ) → IsUtf8 s → is_identifier_name (units_of s) ≡ true → name_of_units (units_of s) ≡ Some (units_of s)
name_read s utf8 test = ap (λ b. require b (Some (units_of s))) (and_from (are_units (units_of s)) (is_identifier_name (units_of s)) (are_units-units_of s utf8) test)

-- a text is read as its units
pub text_read : (s : List ℕ) → IsUtf8 s → paired_units s ≡ Some (units_of s)
text_read s utf8 = ap (λ b. require b (Some (units_of s))) (text_paired s utf8)

-- and a cooked one too
pub cooked_read : (d : Data) (s : List ℕ) → as_null d ≡ None → as_str d ≡ Some s → IsUtf8 s → cooked_by d ≡ Some (Some (units_of s))
cooked_read d s not_null is utf8 = rw (not_null, is, text_read s utf8) refl

-- what is in ASCII is told by its units
pub text_told : (w s : List ℕ) → IsAscii w → IsUtf8 s → is_text w (units_of s) ≡ is_text w s
text_told w s ascii utf8 = by_cases (is_text w (units_of s)) (is_text w s) refl refl
  where
    spelled : w ≡ units_of s → w ≡ s
    spelled e = sym (bytes_of-units_of w (IsUtf8-from_ascii w ascii)) ∙ (ap bytes_of (units_of-ascii w ascii ∙ e) ∙ bytes_of-units_of s utf8)

    by_cases : (a b : Bool) → is_text w (units_of s) ≡ a → is_text w s ≡ b → is_text w (units_of s) ≡ is_text w s
    by_cases true b x y = x ∙ sym (text_is w s (spelled (text_same w (units_of s) x)))
    by_cases false true x y = text_is w (units_of s) (sym (units_of-ascii w ascii) ∙ ap units_of (text_same w s y)) ∙ sym y
    by_cases false false x y = x ∙ sym y

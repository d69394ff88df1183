-- Texts in UTF-8, which are read as their units.
use Rattle.std.proofs.Common.{◌≡◌, ℕ, List, [], ◌∷◌, true, refl, sym, ap, ◌∙◌, Option, Some, None, IsUtf8, String, Global, string_bytes, rules}
use Rattle.std.specs.Prelude.{codes, option_map, option_and_then, is_some, not}
use Rattle.std.specs.List.{list_all}
use Rattle.std.specs.Str.{IsAscii}
use Rattle.std.proofs.Math.Dec.{ltb}
use Rattle.std.proofs.lemmas.Bool.{and_parts, ltb-true}
use Rattle.std.proofs.lemmas.Str.Ascii.{IsAscii-nil, IsAscii-cons}
use Rattle.serde_json.specs.Data.{Data, null, string}
use Rattle.serde_json.specs.Find.{get}
use Rattle.serde_json.specs.View.{view}
use Rattle.serde_json.specs.declared.value.Value.{the_lemmas}
use Rattle.serde_json.specs.declared.value.Value.TheVariants as value
use Rattle.mini_model.specs.Texts.{units_of}
use Rattle.mini_model.specs.Templates.{cooked}
use Rattle.mini_model.specs.declared.shape.Shape.TheVariants as shape
use Rattle.mini_accept.specs.WellShaped.{is_text, is_text_of_cooked, tagged}
use Rattle.mini_accept.specs.Fields.{require, text_at, paired_units, units_at}
use Rattle.mini_accept.specs.Literals.{value_shape}
use Rattle.mini_accept.proofs.Identifiers.{text_symmetric}
use Rattle.mini_accept.proofs.Texts.{text_read, text_told}
use Rattle.mini_fields.specs.Templates.{text_of_quasi}

pub units_there : (key s : List ℕ) (d : Data) → text_at key d ≡ Some s → IsUtf8 s → units_at key d ≡ Some (units_of s)
units_there key s d is utf8 = ap (option_and_then paired_units) is ∙ text_read s utf8

pub view-Null : view value.Null ≡ null
view-Null = search (rules, the_lemmas)

view-String : (t : String Global) → view (value.String t) ≡ string (string_bytes t)
view-String t = search (rules, the_lemmas)

pub string_read : (t : String Global) (s : List ℕ) → s ≡ string_bytes t → IsUtf8 s → value_shape (Some (view (value.String t))) ≡ Some (shape.StringLiteral (units_of s))
string_read t s is utf8 = rw (view-String t, sym is) (ap (option_map shape.StringLiteral) (text_read s utf8))

all_ascii : (w : List ℕ) → list_all (λ c. ltb c 128) w ≡ true → IsAscii w
all_ascii [] all = IsAscii-nil
all_ascii (c ∷ cs) all =
    let parts = and_parts (ltb c 128) (list_all (λ x. ltb x 128) cs) all in
    IsAscii-cons c cs (ltb-true c 128 parts.0) (all_ascii cs parts.1)

pub constructor_told : (s : List ℕ) → IsUtf8 s → is_text s (codes "constructor") ≡ is_text (codes "constructor") (units_of s)
constructor_told s utf8 = text_symmetric s (codes "constructor") ∙ sym (text_told (codes "constructor") s (all_ascii (codes "constructor") refl) utf8)

-- ---- raw texts

none_cooked : (o : Option (List ℕ)) (us : List ℕ) → is_some (require (is_text_of_cooked None o) (Some us)) ≡ not (is_some o)
none_cooked None us = refl
none_cooked (Some cs) us = refl

pub malformed_told : (texts : Data) (raw : List ℕ) → text_at (codes "raw") texts ≡ Some raw → IsUtf8 raw → get (codes "cooked") texts ≡ Some null
    → is_some (text_of_quasi tagged texts) ≡ not (is_some (cooked (units_of raw)))
malformed_told texts raw is utf8 found = rw (units_there (codes "raw") raw texts is utf8, found) (none_cooked (cooked (units_of raw)) (units_of raw))

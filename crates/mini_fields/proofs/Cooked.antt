-- Raw texts and the texts that they cook to, unit by unit.
use Rattle.std.proofs.Common.{◌≡◌, ℕ, ◌⊎◌, inl, inr, List, [], ◌∷◌, ◌++◌, Bool, true, false, refl, sym, ap, ◌∙◌, Option, Some, None, IsUtf8, encode_utf8}
use Rattle.std.specs.Prelude.{◌&&◌, not, is_some, cond}
use Rattle.std.specs.Char.Escape.{encode_utf16}
use Rattle.std.specs.Str.Iter.{encode_utf16_pending, encode_utf16_rest, encode_utf16_steps}
use Rattle.std.specs.declared.str.EncodeUtf16.{EncodeUtf16}
use Rattle.std.proofs.lemmas.List.{nil_from_length}
use Rattle.std.proofs.lemmas.Str.{IsUtf8-past_char}
use Rattle.mini_model.specs.Texts.{units_of}
use Rattle.mini_model.proofs.Units.{units_of-cons, units_of-nil}
use Rattle.mini_accept.specs.WellShaped.{is_text, is_text_of_cooked}
use Rattle.mini_model.specs.Templates.{Place, Step, Malformed, Gives, step, may_end, before, then_rest, cooked_from}
use Rattle.mini_fields.specs.Cooking.{next_place, units_left, Begins, is_rest, Follows}

-- ---- the units of a text

module _ (pending pending' rest rest' : List ℕ) (x : ℕ) where
  -- a unit comes off the front: the second of a pair, or the first of the next character
  abbrev Comes : Type 0
  Comes = ((pending ≡ x ∷ []) × (pending' ≡ []) × (rest' ≡ rest))
      ⊎ ((pending ≡ []) × ((c : ℕ) × (rest ≡ encode_utf8 c ++ rest') × (encode_utf16 c ≡ x ∷ pending')))

  left_after : Comes → IsUtf8 rest → pending ++ units_of rest ≡ x ∷ (pending' ++ units_of rest')
  left_after (inl second) utf8 = rw (second.0, second.1, second.2) refl
  left_after (inr first) utf8 = rw first.0 (units_of-cons rest rest' first.1.0 utf8 first.1.1 ∙ ap (λ us. us ++ units_of rest') first.1.2)

  utf8_after : Comes → IsUtf8 rest → IsUtf8 rest'
  utf8_after (inl second) utf8 = rw second.2 utf8
  utf8_after (inr first) utf8 = IsUtf8-past_char rest rest' first.1.0 utf8 first.1.1

pub next_unit : (s t : EncodeUtf16) (x : ℕ) → encode_utf16_steps s (Some x) t → IsUtf8 (encode_utf16_rest s) → units_left s ≡ x ∷ units_left t
next_unit s t x steps utf8 = left_after (encode_utf16_pending s) (encode_utf16_pending t) (encode_utf16_rest s) (encode_utf16_rest t) x steps utf8

pub next_utf8 : (s t : EncodeUtf16) (x : ℕ) → encode_utf16_steps s (Some x) t → IsUtf8 (encode_utf16_rest s) → IsUtf8 (encode_utf16_rest t)
next_utf8 s t x steps utf8 = utf8_after (encode_utf16_pending s) (encode_utf16_pending t) (encode_utf16_rest s) (encode_utf16_rest t) x steps utf8

pub no_unit : (s t : EncodeUtf16) → encode_utf16_steps s None t → units_left s ≡ []
no_unit s t steps =
    let rest_is = nil_from_length (encode_utf16_rest s) steps.1 in
    rw (steps.0, rest_is) units_of-nil

-- ---- what a text begins with

pub begins_nowhere : (u : ℕ) (text left : List ℕ) → text ≡ [] → Begins false (u ∷ []) text left
begins_nowhere u text left e others = rw e refl

pub begins_with_two : (a b : Bool) (u v : ℕ) (text between left : List ℕ) → Begins a (u ∷ []) text between → Begins b (v ∷ []) between left → Begins (a && b) (u ∷ v ∷ []) text left
begins_with_two true b u v text between left first second others = first (v ∷ others) ∙ second others
begins_with_two false b u v text between left first second others = first (v ∷ others)

-- ---- what a step gives

given : (b : Bool) (units text left : List ℕ) (o : Option (List ℕ)) → Begins b units text left → is_text_of_cooked (Some text) (before units o) ≡ (b && is_text_of_cooked (Some left) o)
given true units text left None begins = refl
given false units text left None begins = refl
given b units text left (Some rest) begins = begins rest

pub follows_begun : (units text left : List ℕ) (p : Place) → Begins true units text left → Follows (Some p) (Gives units p) text left
follows_begun units text left p begins rest = given true units text left (rest p) begins

pub follows_other : (units text left : List ℕ) (p : Place) → Begins false units text left → Follows None (Gives units p) text left
follows_other units text left p begins rest = given false units text left (rest p) begins

pub begins_with_none : (text : List ℕ) → Begins true [] text text
begins_with_none text others = refl

-- whether there is what the rest gives from the place
abbrev pub has_rest : Option Place → (Place → Option (List ℕ)) → Bool
has_rest None rest = false
has_rest (Some p) rest = is_some (rest p)

some_before : (units : List ℕ) (o : Option (List ℕ)) → is_some (before units o) ≡ is_some o
some_before units None = refl
some_before units (Some rest) = refl

pub some_then : (s : Step) (rest : Place → Option (List ℕ)) → is_some (then_rest s rest) ≡ has_rest (next_place s) rest
some_then Malformed rest = refl
some_then (Gives units p) rest = some_before units (rest p)

-- ---- a raw text, a unit further

pub some_step : (us vs : List ℕ) (p : Place) (u : ℕ) (s : Step) (o : Option Place) → us ≡ u ∷ vs → s ≡ step p u → o ≡ next_place s → is_some (cooked_from p us) ≡ has_rest o (λ q. cooked_from q vs)
some_step us vs p u s o front is leads =
    ap (λ ws. is_some (cooked_from p ws)) front
    ∙ (some_then (step p u) (λ q. cooked_from q vs) ∙ ap (λ x. has_rest x (λ q. cooked_from q vs)) (ap next_place (sym is) ∙ sym leads))

pub same_step : (text left us vs : List ℕ) (p : Place) (u : ℕ) (s : Step) (o : Option Place) → us ≡ u ∷ vs → s ≡ step p u → Follows o s text left → is_text_of_cooked (Some text) (cooked_from p us) ≡ is_rest o left (λ q. cooked_from q vs)
same_step text left us vs p u s o front is follows =
    ap (λ ws. is_text_of_cooked (Some text) (cooked_from p ws)) front
    ∙ (ap (λ x. is_text_of_cooked (Some text) (then_rest x (λ q. cooked_from q vs))) (sym is) ∙ follows (λ q. cooked_from q vs))

-- ---- the end of a raw text

some_if : (b : Bool) → is_some {T = List ℕ} (cond {0} b (Some []) None) ≡ b
some_if true = refl
some_if false = refl

pub some_end : (us : List ℕ) (p : Place) → us ≡ [] → is_some (cooked_from p us) ≡ may_end p
some_end us p none = ap (λ ws. is_some (cooked_from p ws)) none ∙ some_if (may_end p)

text_if : (text : List ℕ) (b : Bool) → is_text_of_cooked (Some text) (cond b (Some []) None) ≡ (b && is_text text [])
text_if text true = refl
text_if text false = refl

pub text_end : (text us : List ℕ) (p : Place) → us ≡ [] → is_text_of_cooked (Some text) (cooked_from p us) ≡ (may_end p && is_text text [])
text_end text us p none = ap (λ ws. is_text_of_cooked (Some text) (cooked_from p ws)) none ∙ text_if text (may_end p)

pub is_no_text : (s t : EncodeUtf16) (r : Option ℕ) → encode_utf16_steps s r t → IsUtf8 (encode_utf16_rest s) → is_text (units_left s) [] ≡ not (is_some r)
is_no_text s t None steps utf8 = ap (λ us. is_text us []) (no_unit s t steps)
is_no_text s t (Some x) steps utf8 = ap (λ us. is_text us []) (next_unit s t x steps utf8)

pub not_other : (a b : Bool) → a ≡ not b → b ≡ not a
not_other a true e = sym (ap not e)
not_other a false e = sym (ap not e)

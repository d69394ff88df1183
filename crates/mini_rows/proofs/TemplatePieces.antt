-- Two pieces of a template's text that stand as one.
use Rattle.std.proofs.Common.{◌≡◌, ℕ, ◌-◌, ◌≤◌, ◌==◌, Option, None, Bool, true, false, List, [], ◌∷◌, ◌++◌, Some, take, length, codes, cond, inl, inr, append-nil, refl, sym, ap, ◌∙◌, true≢false, arith}
use Rattle.std.specs.Prelude.{◌&&◌, ◌||◌, not, nat_lt, nat_le, if◌then◌else◌}
use Rattle.std.specs.List.{list_any}
use Rattle.std.specs.Char.Utf16.{is_high_surrogate, is_low_surrogate, utf16_chars, lone_unit_char, has_unpaired_surrogate}
use Rattle.std.proofs.lemmas.Bool.{and_parts, leb-true, leb-false}
use Rattle.std.proofs.lemmas.Bool.Decides.{eqb_tells}
use Rattle.mini_model.specs.Joined.{Ending, Backslash, Null, Dollar, Other, ending_of, readied, with_part, joined}
use Rattle.mini_model.specs.Templates.{is_digit, escape, escaped, cooked}
use Rattle.mini_model.specs.Texts.{are_units}
use Rattle.mini_model.proofs.Ends.{null_front, take-front}
use Rattle.mini_model.proofs.Joins.{joined_cooks}
use Rattle.mini_model.proofs.Raw.{escaped_cooks}
use Rattle.mini_accept.specs.WellShaped.{is_paired, is_text_of_cooked, is_same_flag, untagged, is_quasi}
use Rattle.mini_accept.proofs.Types.{text_same, text_is}
use Rattle.mini_kept.proofs.Bools.{both}
use Rattle.mini_rows.specs.Templates.{Piece, piece, pair, spelled}
use Rattle.mini_rows.proofs.Surrogates.{missing, chars_by, none_missing, or_false, unit_first, unpaired_by, missing_small, is_paired_joined, not_true}

-- ---- a text that is escaped

-- what holds of each way to spell a unit
chosen : (P : List ℕ → Type 0) (a b : Bool) (x y z : List ℕ) → P x → P y → P z → P (cond a x (cond b y z))
chosen P true b x y z p q r = p
chosen P false true x y z p q r = q
chosen P false false x y z p q r = r

by_escape : (u : ℕ) (P : List ℕ → Type 0) → P (92 ∷ (u ∷ [])) → P (92 ∷ (114 ∷ [])) → P (u ∷ []) → P (escape u)
by_escape u P p q r = chosen P ((u == 92) || (u == 96) || (u == 36)) (u == 13) (92 ∷ (u ∷ [])) (92 ∷ (114 ∷ [])) (u ∷ []) p q r

-- a unit that is no surrogate, escaped
single_escaped : (u : ℕ) (rest : List ℕ) → missing (lone_unit_char u) ≡ false → has_unpaired_surrogate rest ≡ false → has_unpaired_surrogate (escape u ++ rest) ≡ false
single_escaped u rest h e =
    let Holds : List ℕ → Type 0 = λ us. has_unpaired_surrogate (us ++ rest) ≡ false in
    let kept : has_unpaired_surrogate (u ∷ rest) ≡ false = unit_first u rest h e in
    let slashed : has_unpaired_surrogate (92 ∷ (u ∷ rest)) ≡ false = unit_first 92 (u ∷ rest) (missing_small 92 (omega arith)) kept in
    let returned : has_unpaired_surrogate (92 ∷ (114 ∷ rest)) ≡ false = unit_first 92 (114 ∷ rest) (missing_small 92 (omega arith)) (unit_first 114 rest (missing_small 114 (omega arith)) e) in
    by_escape u Holds slashed returned kept

-- a surrogate stands for itself
surrogate_escaped : (u : ℕ) → nat_le 0xD800 u ≡ true → escape u ≡ u ∷ []
surrogate_escaped u h =
    let big = leb-true 0xD800 u h in
    elim (eqb_tells u 92) [
      | inl is ↦ absurd (let same = is.1 in omega (arith, big, same))
      | inr no_backslash ↦ elim (eqb_tells u 96) [
        | inl is ↦ absurd (let same = is.1 in omega (arith, big, same))
        | inr no_backtick ↦ elim (eqb_tells u 36) [
          | inl is ↦ absurd (let same = is.1 in omega (arith, big, same))
          | inr no_dollar ↦ elim (eqb_tells u 13) [
            | inl is ↦ absurd (let same = is.1 in omega (arith, big, same))
            | inr no_return ↦ rw (no_backslash.0, no_backtick.0, no_dollar.0, no_return.0) refl
          ]
        ]
      ]
    ]

low_is_high : (v : ℕ) → is_low_surrogate v ≡ true → nat_le 0xD800 v ≡ true
low_is_high v h =
    let big = leb-true 0xDC00 v (and_parts (nat_le 0xDC00 v) (nat_lt v 0xE000) h).0 in
    go (nat_le 0xD800 v) refl big
  where
    go : (b : Bool) → nat_le 0xD800 v ≡ b → 0xDC00 ≤ v → nat_le 0xD800 v ≡ true
    go true e big = e
    go false e big = absurd (omega (arith, leb-false 0xD800 v e, big))

escaped_paired : (text : List ℕ) → has_unpaired_surrogate text ≡ false → has_unpaired_surrogate (escaped text) ≡ false
unfolding utf16_chars
escaped_paired [] e = refl
escaped_paired (u ∷ []) e = single_escaped u [] (none_missing (missing (lone_unit_char u)) false e).0 refl
escaped_paired (u ∷ (v ∷ us)) e = go (is_high_surrogate u && is_low_surrogate v) refl (sym (unpaired_by (is_high_surrogate u && is_low_surrogate v) u v us) ∙ e) (escaped_paired us) (escaped_paired (v ∷ us))
  where
    go : (pair : Bool) → is_high_surrogate u && is_low_surrogate v ≡ pair → (if pair then list_any missing (utf16_chars us) else missing (lone_unit_char u) || list_any missing (utf16_chars (v ∷ us))) ≡ false → (list_any missing (utf16_chars us) ≡ false → has_unpaired_surrogate (escaped us) ≡ false) → (list_any missing (utf16_chars (v ∷ us)) ≡ false → has_unpaired_surrogate (escaped (v ∷ us)) ≡ false) → has_unpaired_surrogate (escaped (u ∷ (v ∷ us))) ≡ false
    go true h k p q =
        let (high, low) = and_parts (is_high_surrogate u) (is_low_surrogate v) h in
        let first = surrogate_escaped u (and_parts (nat_le 0xD800 u) (nat_lt u 0xDC00) high).0 in
        let second = surrogate_escaped v (low_is_high v low) in
        ap (λ a. has_unpaired_surrogate (a ++ (escape v ++ escaped us))) first
        ∙ ap (λ b. has_unpaired_surrogate (u ∷ (b ++ escaped us))) second
        ∙ ap (λ b. list_any missing (chars_by b u v (escaped us))) h
        ∙ p k
    go false h k p q =
        let (first, rest) = none_missing (missing (lone_unit_char u)) (list_any missing (utf16_chars (v ∷ us))) k in
        single_escaped u (escaped (v ∷ us)) first (q rest)

escape_units : (u : ℕ) (rest : List ℕ) → nat_lt u 0x1_0000 ≡ true → are_units rest ≡ true → are_units (escape u ++ rest) ≡ true
escape_units u rest h e =
    let Holds : List ℕ → Type 0 = λ us. are_units (us ++ rest) ≡ true in
    let kept : are_units (u ∷ rest) ≡ true = both (nat_lt u 0x1_0000) (are_units rest) h e in
    by_escape u Holds (both (nat_lt 92 0x1_0000) (are_units (u ∷ rest)) refl kept) (both (nat_lt 92 0x1_0000) (are_units (114 ∷ rest)) refl (both (nat_lt 114 0x1_0000) (are_units rest) refl e)) kept

escaped_units : (text : List ℕ) → are_units text ≡ true → are_units (escaped text) ≡ true
escaped_units [] e = refl
escaped_units (u ∷ us) e = let (first, rest) = and_parts (nat_lt u 0x1_0000) (are_units us) e in escape_units u (escaped us) first (escaped_units us rest)

is_paired_escaped : (text : List ℕ) → is_paired text ≡ true → is_paired (escaped text) ≡ true
is_paired_escaped text e =
    let (units, paired) = and_parts (are_units text) (not (has_unpaired_surrogate text)) e in
    both (are_units (escaped text)) (not (has_unpaired_surrogate (escaped text))) (escaped_units text units) (ap not (escaped_paired text (not_true _ paired)))

-- ---- raw texts that are joined

never : (b : Bool) → b && false ≡ false
never true = refl
never false = refl

-- without a last unit that is no surrogate
front_paired : (s : List ℕ) → has_unpaired_surrogate (s ++ 48 ∷ []) ≡ false → has_unpaired_surrogate s ≡ false
unfolding utf16_chars
front_paired [] e = refl
front_paired (u ∷ []) e = or_false (missing (lone_unit_char u)) false (none_missing (missing (lone_unit_char u)) (list_any missing (utf16_chars (48 ∷ []))) (sym (ap (λ b. list_any missing (chars_by b u 48 [])) (never (is_high_surrogate u))) ∙ e)).0 refl
front_paired (u ∷ (v ∷ us)) e = go (is_high_surrogate u && is_low_surrogate v) refl (sym (unpaired_by (is_high_surrogate u && is_low_surrogate v) u v (us ++ 48 ∷ [])) ∙ e) (front_paired us) (front_paired (v ∷ us))
  where
    go : (pair : Bool) → is_high_surrogate u && is_low_surrogate v ≡ pair → (if pair then list_any missing (utf16_chars (us ++ 48 ∷ [])) else missing (lone_unit_char u) || list_any missing (utf16_chars (v ∷ (us ++ 48 ∷ [])))) ≡ false → (list_any missing (utf16_chars (us ++ 48 ∷ [])) ≡ false → list_any missing (utf16_chars us) ≡ false) → (list_any missing (utf16_chars (v ∷ (us ++ 48 ∷ []))) ≡ false → list_any missing (utf16_chars (v ∷ us)) ≡ false) → list_any missing (chars_by (is_high_surrogate u && is_low_surrogate v) u v us) ≡ false
    go true h k p q = ap (λ b. list_any missing (chars_by b u v us)) h ∙ p k
    go false h k p q =
        let (first, rest) = none_missing (missing (lone_unit_char u)) (list_any missing (utf16_chars (v ∷ (us ++ 48 ∷ [])))) k in
        ap (λ b. list_any missing (chars_by b u v us)) h ∙ or_false (missing (lone_unit_char u)) (list_any missing (utf16_chars (v ∷ us))) first (q rest)

front_units : (s t : List ℕ) → are_units (s ++ t) ≡ true → are_units s ≡ true
front_units [] t e = refl
front_units (u ∷ us) t e = let (first, rest) = and_parts (nat_lt u 0x1_0000) (are_units (us ++ t)) e in both (nat_lt u 0x1_0000) (are_units us) first (front_units us t rest)

is_paired_front : (s : List ℕ) → is_paired (s ++ 48 ∷ []) ≡ true → is_paired s ≡ true
is_paired_front s e =
    let (units, paired) = and_parts (are_units (s ++ 48 ∷ [])) (not (has_unpaired_surrogate (s ++ 48 ∷ []))) e in
    both (are_units s) (not (has_unpaired_surrogate s)) (front_units s (48 ∷ []) units) (ap not (front_paired s (not_true _ paired)))

picked : (b : Bool) (s t : List ℕ) → is_paired s ≡ true → is_paired t ≡ true → is_paired (cond b s t) ≡ true
picked true s t h k = h
picked false s t h k = k

x_zeros : is_paired (codes "x00") ≡ true
unfolding utf16_chars
x_zeros = refl

a_backslash : is_paired (92 ∷ []) ≡ true
unfolding utf16_chars
a_backslash = refl

readied_paired : (ending : Ending) (raw : List ℕ) (u : ℕ) → ending_of raw ≡ ending → is_paired raw ≡ true → is_paired (readied ending raw u) ≡ true
readied_paired Null raw u h e =
    let (front, (is, unclosed)) = null_front raw h in
    let short : take (length raw - 1) raw ≡ front = ap (λ r. take (length r - 1) r) is ∙ take-front front 48 in
    picked (is_digit u) (take (length raw - 1) raw ++ codes "x00") raw
    (is_paired_joined (take (length raw - 1) raw) (codes "x00") (ap is_paired short ∙ is_paired_front front (sym (ap is_paired is) ∙ e)) x_zeros) e
readied_paired Dollar raw u h e = picked (u == 123) (raw ++ 92 ∷ []) raw (is_paired_joined raw (92 ∷ []) e a_backslash) e
readied_paired Backslash raw u h e = e
readied_paired Other raw u h e = e

with_part_paired : (a b : List ℕ) → is_paired a ≡ true → is_paired b ≡ true → is_paired (with_part a b) ≡ true
with_part_paired a [] e f = e
with_part_paired a (u ∷ us) e f = is_paired_joined (readied (ending_of a) a u) (u ∷ us) (readied_paired (ending_of a) a u refl e) f

pub joined_is : (a b : List ℕ) → joined (a ∷ (b ∷ [])) ≡ with_part a b
joined_is [] b = refl
joined_is (u ∷ us) b = refl

-- ---- pieces

-- raw and cooked text of a piece that stands in a program
pub record Whole (p : Piece) : Type 0 where
  pub raw : is_paired p.raw ≡ true
  pub same : cooked p.raw ≡ Some p.cooked
  pub cooked : is_paired p.cooked ≡ true

pub pair_whole : (p q : Piece) → Whole p → Whole q → Whole (pair p q)
pair_whole p q v w = record {
  raw = ap is_paired (joined_is p.raw q.raw) ∙ with_part_paired p.raw q.raw v.raw w.raw;
  same = joined_cooks (p.raw ∷ (q.raw ∷ [])) (p.cooked ∷ (q.cooked ∷ [])) (λ i. v.same i ∷ (w.same i ∷ [])) ∙ ap (λ r. Some (p.cooked ++ r)) (append-nil q.cooked);
  cooked = is_paired_joined p.cooked q.cooked v.cooked w.cooked;
}

pub spelled_whole : (text : List ℕ) → is_paired text ≡ true → Whole (spelled text)
spelled_whole text e = record { raw = is_paired_escaped text e; same = escaped_cooks text; cooked = e }

-- where it stands
pub record Stands (last : Bool) (p : Piece) : Type 0 where
  pub tail : is_same_flag p.is_tail last ≡ true
  pub whole : Whole p

cooked_as : (o : Option (List ℕ)) (s : List ℕ) → is_text_of_cooked (Some s) o ≡ true → o ≡ Some s
cooked_as (Some r) s e = ap Some (sym (text_same s r e))
cooked_as None s e = absurd (true≢false (sym e))

pub piece_stands : (last : Bool) (p : Piece) → is_quasi untagged last (piece p) ≡ true → Stands last p
piece_stands last p e =
    let (marks, rest) = and_parts (is_same_flag p.is_tail last && true) (true && (is_paired p.raw && (is_text_of_cooked (Some p.cooked) (cooked p.raw) && is_paired p.cooked))) e in
    let (raw, others) = and_parts (is_paired p.raw) (is_text_of_cooked (Some p.cooked) (cooked p.raw) && is_paired p.cooked) rest in
    let (same, text) = and_parts (is_text_of_cooked (Some p.cooked) (cooked p.raw)) (is_paired p.cooked) others in
    record { tail = (and_parts (is_same_flag p.is_tail last) true marks).0; whole = record { raw = raw; same = cooked_as (cooked p.raw) p.cooked same; cooked = text } }

pub stands_piece : (last : Bool) (p : Piece) → Stands last p → is_quasi untagged last (piece p) ≡ true
stands_piece last p s =
    let w = s.whole in
    both (is_same_flag p.is_tail last && true) (true && (is_paired p.raw && (is_text_of_cooked (Some p.cooked) (cooked p.raw) && is_paired p.cooked)))
    (both (is_same_flag p.is_tail last) true s.tail refl)
    (both (is_paired p.raw) (is_text_of_cooked (Some p.cooked) (cooked p.raw) && is_paired p.cooked) w.raw
    (both (is_text_of_cooked (Some p.cooked) (cooked p.raw)) (is_paired p.cooked) (ap (is_text_of_cooked (Some p.cooked)) w.same ∙ text_is p.cooked p.cooked refl) w.cooked))

-- Escaped and joined raw texts end no template and begin no substitution.
use Rattle.std.proofs.Common.{◌≡◌, ℕ, ◌-◌, ◌==◌, inl, inr, Bool, true, false, not, cond, List, [], ◌∷◌, ◌++◌, length, take, codes, All, refl, sym, ap, subst, ◌∙◌, append_assoc, append-nil}
use Rattle.std.proofs.lemmas.Bool.{and_parts}
use Rattle.std.proofs.lemmas.Bool.Decides.{eqb_tells}
use Rattle.std.proofs.lemmas.List.Elements.{All-head, All-tail}
use Rattle.mini_model.specs.Templates.{is_digit, escape, escaped}
use Rattle.mini_model.specs.Joined.{Ending, Backslash, Null, Dollar, Other, ending_with, ending_from, ending_of, may_follow, is_closed, are_characters_from, are_characters, readied, with_part, with_parts, joined}
use Rattle.mini_model.proofs.Ends.{take-front, null_front}

-- a unit as it is escaped
escape_inside : (u : ℕ) (raw : List ℕ) → are_characters (escape u ++ raw) ≡ are_characters raw
escape_inside u raw =
    let Inside : ℕ → Type 0 = λ v. are_characters (escape v ++ raw) ≡ are_characters raw in
    elim (eqb_tells u 92) [
      | inl is ↦ subst Inside (sym is.1) refl
      | inr no_backslash ↦ elim (eqb_tells u 96) [
        | inl is ↦ subst Inside (sym is.1) refl
        | inr no_backtick ↦ elim (eqb_tells u 36) [
          | inl is ↦ subst Inside (sym is.1) refl
          | inr no_dollar ↦ elim (eqb_tells u 13) [
            | inl is ↦ subst Inside (sym is.1) refl
            | inr no_return ↦ rw (no_backslash.0, no_backtick.0, no_dollar.0, no_return.0, no_backtick.0, no_backslash.0, no_dollar.0) refl
          ]
        ]
      ]
    ]

pub escaped_inside : (text : List ℕ) → are_characters (escaped text) ≡ true
escaped_inside [] = refl
escaped_inside (u ∷ us) = escape_inside u (escaped us) ∙ escaped_inside us

-- what is behind the front of a raw text
are_characters_from-append : (ending : Ending) (front rest other : List ℕ) → are_characters_from ending (front ++ rest) ≡ true
    → are_characters_from ending (front ++ other) ≡ are_characters_from (ending_from ending front) other
are_characters_from-append ending [] rest other inside = refl
are_characters_from-append ending (u ∷ us) rest other inside =
    let parts = and_parts (may_follow ending u) _ inside in
    rw parts.0 (are_characters_from-append (ending_with ending u) us rest other parts.1)

behind : (raw more : List ℕ) → are_characters raw ≡ true → are_characters (raw ++ more) ≡ are_characters_from (ending_of raw) more
behind raw more inside = are_characters_from-append Other raw [] more (ap are_characters (append-nil raw) ∙ inside)

closed : (raw : List ℕ) → are_characters raw ≡ true → ending_of raw ≡ Backslash → ⊥
closed raw inside open_is =
    let e : is_closed Backslash ≡ true = ap is_closed (sym open_is) ∙ sym (behind raw [] inside) ∙ ap are_characters (append-nil raw) ∙ inside in cc

-- `\x00` in place of `\0`
null_inside : (raw : List ℕ) (u : ℕ) (us : List ℕ) → ending_of raw ≡ Null → are_characters raw ≡ true → are_characters (u ∷ us) ≡ true
    → are_characters ((take (length raw - 1) raw ++ codes "x00") ++ u ∷ us) ≡ true
null_inside raw u us null raw_in part_in =
    let f = null_front raw null in
    ap (λ front. are_characters ((front ++ codes "x00") ++ u ∷ us)) (ap (λ l. take (length l - 1) l) f.1.0 ∙ take-front f.0 48)
    ∙ ap are_characters (append_assoc f.0 (codes "x00") (u ∷ us))
    ∙ are_characters_from-append Other f.0 (48 ∷ []) (codes "x00" ++ u ∷ us) (ap are_characters (sym f.1.0) ∙ raw_in)
    ∙ ap (λ ending. are_characters_from ending (codes "x00" ++ u ∷ us)) f.1.1
    ∙ part_in

readied_inside : (ending : Ending) (raw : List ℕ) (u : ℕ) (us : List ℕ) → ending_of raw ≡ ending → are_characters raw ≡ true
    → are_characters (u ∷ us) ≡ true → are_characters (readied ending raw u ++ u ∷ us) ≡ true
readied_inside Backslash raw u us ends raw_in part_in = absurd (closed raw raw_in ends)
readied_inside Other raw u us ends raw_in part_in = behind raw (u ∷ us) raw_in ∙ ap (λ ending. are_characters_from ending (u ∷ us)) ends ∙ part_in
readied_inside Dollar raw u us ends raw_in part_in = elim (eqb_tells u 123) [
  | inl same ↦
      let brace : are_characters_from Dollar (92 ∷ u ∷ us) ≡ true =
      ap (λ v. are_characters_from Dollar (92 ∷ v ∷ us)) same.1 ∙ ap (λ v. are_characters (v ∷ us)) (sym same.1) ∙ part_in in
      rw (same.0, append_assoc) (behind raw (92 ∷ u ∷ us) raw_in ∙ ap (λ ending. are_characters_from ending (92 ∷ u ∷ us)) ends ∙ brace)
  | inr other ↦
      let parts = and_parts (not (u == 96)) _ part_in in
      let follows : are_characters_from Dollar (u ∷ us) ≡ true = rw (parts.0, other.0) parts.1 in
      rw other.0 (behind raw (u ∷ us) raw_in ∙ ap (λ ending. are_characters_from ending (u ∷ us)) ends ∙ follows)
]
readied_inside Null raw u us ends raw_in part_in = before_unit (is_digit u)
  where
    before_unit : (b : Bool) → are_characters (cond b (take (length raw - 1) raw ++ codes "x00") raw ++ u ∷ us) ≡ true
    before_unit true = null_inside raw u us ends raw_in part_in
    before_unit false = behind raw (u ∷ us) raw_in ∙ ap (λ ending. are_characters_from ending (u ∷ us)) ends ∙ part_in

part_inside : (raw part : List ℕ) → are_characters raw ≡ true → are_characters part ≡ true → are_characters (with_part raw part) ≡ true
part_inside raw [] raw_in part_in = raw_in
part_inside raw (u ∷ us) raw_in part_in = readied_inside (ending_of raw) raw u us refl raw_in part_in

parts_inside : (parts : List (List ℕ)) (raw : List ℕ) → are_characters raw ≡ true → All (λ part. are_characters part ≡ true) parts
    → are_characters (with_parts raw parts) ≡ true
parts_inside [] raw raw_in parts_in = raw_in
parts_inside (p ∷ ps) raw raw_in parts_in =
    parts_inside ps (with_part raw p) (part_inside raw p raw_in (All-head (λ part. are_characters part ≡ true) p ps parts_in))
    (All-tail (λ part. are_characters part ≡ true) p ps parts_in)

pub joined_inside : (parts : List (List ℕ)) → All (λ part. are_characters part ≡ true) parts → are_characters (joined parts) ≡ true
joined_inside parts parts_in = parts_inside parts [] refl parts_in

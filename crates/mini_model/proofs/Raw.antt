-- What a raw text cooks to, unit by unit.
use Rattle.std.proofs.Common.{◌≡◌, ℕ, ◌+◌, ◌<◌, inl, inr, List, [], ◌∷◌, ◌++◌, Option, Some, None, length, subst, get_or, drop, refl, sym, ap, ◌∙◌, append_assoc, add-one}
use Rattle.std.proofs.Math.Seq.{drop-cons}
use Rattle.std.proofs.lemmas.Bool.Decides.{eqb_tells}
use Rattle.mini_model.specs.Templates.{Place, Malformed, Gives, step, before, then_rest, cooked_from, cooked, escape, escaped}

pub before-nil : (rest : Option (List ℕ)) → before [] rest ≡ rest
before-nil None = refl
before-nil (Some rest) = refl

pub before-append : (a b : List ℕ) (rest : Option (List ℕ)) → before (a ++ b) rest ≡ before a (before b rest)
before-append a b None = refl
before-append a b (Some rest) = ap Some (append_assoc a b rest)

-- the rest of a raw text at an index begins with the unit there
pub cooked_from-drop : (place : Place) (raw : List ℕ) (i : ℕ) → i < length raw
    → cooked_from place (drop i raw) ≡ then_rest (step place (get_or raw i 0)) (λ next. cooked_from next (drop (i + 1) raw))
cooked_from-drop place raw i below = ap (cooked_from place) (drop-cons raw i 0 below) ∙ ap (λ j. then_rest (step place (get_or raw i 0)) (λ next. cooked_from next (drop j raw))) (sym (add-one i))

-- a unit is read that gives something
pub read_more : (text given raw : List ℕ) (place next : Place) (i : ℕ) (all : Option (List ℕ)) → i < length raw
    → Gives given next ≡ step place (get_or raw i 0) → before text (cooked_from place (drop i raw)) ≡ all
    → before (text ++ given) (cooked_from next (drop (i + 1) raw)) ≡ all
read_more text given raw place next i all below gives is =
    before-append text given _ ∙ ap (before text) (ap (λ s. then_rest s (λ q. cooked_from q (drop (i + 1) raw))) gives ∙ sym (cooked_from-drop place raw i below)) ∙ is

-- a unit is read that makes the raw text malformed
pub read_malformed : (text raw : List ℕ) (place : Place) (i : ℕ) (all : Option (List ℕ)) → i < length raw
    → Malformed ≡ step place (get_or raw i 0) → before text (cooked_from place (drop i raw)) ≡ all → None ≡ all
read_malformed text raw place i all below fails is =
    ap (λ s. before text (then_rest s (λ q. cooked_from q (drop (i + 1) raw)))) fails ∙ ap (before text) (sym (cooked_from-drop place raw i below)) ∙ is

-- a unit as it is escaped cooks to itself
escape_cooks : (u : ℕ) (raw : List ℕ) → cooked (escape u ++ raw) ≡ before (u ∷ []) (cooked raw)
escape_cooks u raw =
    let Cooks : ℕ → Type 0 = λ v. cooked (escape v ++ raw) ≡ before (v ∷ []) (cooked raw) in
    elim (eqb_tells u 92) [
      | inl is ↦ subst Cooks (sym is.1) (before-nil _)
      | inr no_backslash ↦ elim (eqb_tells u 96) [
        | inl is ↦ subst Cooks (sym is.1) (before-nil _)
        | inr no_backtick ↦ elim (eqb_tells u 36) [
          | inl is ↦ subst Cooks (sym is.1) (before-nil _)
          | inr no_dollar ↦ elim (eqb_tells u 13) [
            | inl is ↦ subst Cooks (sym is.1) (before-nil _)
            | inr no_return ↦ rw (no_backslash.0, no_backtick.0, no_dollar.0, no_return.0, no_backslash.0) refl
          ]
        ]
      ]
    ]

-- an escaped text cooks to itself
pub escaped_cooks : (text : List ℕ) → cooked (escaped text) ≡ Some text
escaped_cooks [] = refl
escaped_cooks (u ∷ us) = escape_cooks u (escaped us) ∙ ap (before (u ∷ [])) (escaped_cooks us)

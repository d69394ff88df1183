-- What each row on a key writes weighs less wherever the literal stands.
use Rattle.std.proofs.Common.{◌≡◌, ℕ, ◌+◌, ◌<◌, Bool, true, false, List, [], ◌∷◌, refl, sym, ap, ◌∙◌, inl, inr, true≢false, arith}
use Rattle.std.specs.Prelude.{pos}
use Rattle.std.specs.Fmt.{signed_decimal}
use Rattle.mini_model.specs.declared.kind.PropertyKind.{PropertyKind}
use Rattle.mini_model.specs.declared.place.Position.{Position}
use Rattle.mini_model.specs.declared.place.Position.TheVariants.{Expr, Elsewhere}
use Rattle.mini_model.specs.declared.seat.Seat.{Seat}
use Rattle.mini_model.specs.declared.shape.Shape.TheVariants as shape
use Rattle.mini_model.specs.Paths.{append}
use Rattle.mini_model.specs.Tree.{Tree, Trees, none, ◌▸◌, listed, identifier}
use Rattle.mini_model.specs.Weight.{Outline, outline, outlines, commas_weight, place_weight, weight, weights}
use Rattle.mini_laws.specs.Weights.{Lightens, counts_items}
use Rattle.mini_rows.specs.Spellings.{numeral, text, key}
use Rattle.mini_rows.specs.SpellKeys.{object_literal, property, KeyForm, a_name, a_whole, a_text_in_brackets, a_whole_in_brackets, is_bracketed_form, read_key, written_key, function_property, PropertyRow, KeyRow, KeyContracts, KeysLighter}
use Rattle.mini_rows.proofs.SpellWeights.{falls_by}

shorthand_falls : (s : List ℕ) (v : Tree) → weight Elsewhere (property true false (key s) v) < weight Elsewhere (property false false (key s) v)
shorthand_falls s v = omega arith

name_falls : (s : List ℕ) (v : Tree) → weight Elsewhere (property false false (key s) v) < weight Elsewhere (property false false (text s) v)
name_falls s v = omega arith

number_falls : (n : ℕ) (v : Tree) → weight Elsewhere (property false false (numeral (pos n)) v) < weight Elsewhere (property false false (text (signed_decimal (pos n))) v)
number_falls n v = omega arith

text_falls : (s : List ℕ) (v : Tree) → weight Elsewhere (property false false (text s) v) < weight Elsewhere (property false true (text s) v)
text_falls s v = omega arith

numeral_falls : (n : ℕ) (v : Tree) → weight Elsewhere (property false false (numeral (pos n)) v) < weight Elsewhere (property false true (numeral (pos n)) v)
numeral_falls n v = omega arith

function_falls : (k : PropertyKind) (m : Bool) (v : Tree) (f : KeyForm) → weight Elsewhere (function_property k m false (written_key f) v) < weight Elsewhere (function_property k m (is_bracketed_form f) (read_key f) v)
function_falls k m v (a_name s) = omega arith
function_falls k m v (a_whole n) = omega arith
function_falls k m v (a_text_in_brackets s) = omega arith
function_falls k m v (a_whole_in_brackets n) = omega arith

property_falls : (n w : Tree) → PropertyRow n w → weight Elsewhere w < weight Elsewhere n
property_falls n w (inl r) = falls_by Elsewhere n w _ _ r.shape r.written (shorthand_falls r.name.spelling (identifier r.name))
property_falls n w (inr (inl r)) = falls_by Elsewhere n w _ _ r.shape r.written (name_falls r.name r.value)
property_falls n w (inr (inr (inl r))) = falls_by Elsewhere n w _ _ r.shape r.written (number_falls r.number r.value)
property_falls n w (inr (inr (inr (inl r)))) = falls_by Elsewhere n w _ _ r.shape r.written (text_falls r.name r.value)
property_falls n w (inr (inr (inr (inr (inr r))))) = falls_by Elsewhere n w _ _ r.shape r.written (function_falls r.kind r.is_method r.value r.form)
property_falls n w (inr (inr (inr (inr (inl r))))) = falls_by Elsewhere n w _ _ r.shape r.written (numeral_falls r.number r.value)

-- in a list of properties

items_fall : (pre : Trees) (t u : Tree) (post : Trees) → weight Elsewhere u < weight Elsewhere t → weights (λ i. Elsewhere) (append pre (u ▸ post)) < weights (λ i. Elsewhere) (append pre (t ▸ post))
items_fall none t u post l = omega (arith, l)
items_fall (c ▸ pre) t u post l = let rest = items_fall pre t u post l in omega (arith, rest)

abbrev after_one : List Outline → ℕ
after_one [] = 0
after_one (o ∷ os) = 2 + after_one os

commas_are : (o : Outline) (os : List Outline) → commas_weight (o ∷ os) ≡ after_one os
commas_are o [] = refl
commas_are o (p ∷ os) = ap (λ k. 2 + k) (commas_are p os)

after_same : (pre : Trees) (t u : Tree) (post : Trees) → after_one (outlines (append pre (t ▸ post))) ≡ after_one (outlines (append pre (u ▸ post)))
after_same none t u post = refl
after_same (c ▸ pre) t u post = ap (λ k. 2 + k) (after_same pre t u post)

commas_same : (pre : Trees) (t u : Tree) (post : Trees) → commas_weight (outlines (append pre (t ▸ post))) ≡ commas_weight (outlines (append pre (u ▸ post)))
commas_same none t u post = commas_are (outline t) (outlines post) ∙ sym (commas_are (outline u) (outlines post))
commas_same (c ▸ pre) t u post = commas_are (outline c) (outlines (append pre (t ▸ post))) ∙ after_same pre t u post ∙ sym (commas_are (outline c) (outlines (append pre (u ▸ post))))

object_marks : (s : Seat) (ps qs : Trees) → place_weight (Expr s) shape.ObjectExpression (outlines (listed ps ▸ none)) ≡ place_weight (Expr s) shape.ObjectExpression (outlines (listed qs ▸ none))
object_marks s ps qs = refl

object_falls : (s : Seat) (pre : Trees) (t u : Tree) (post : Trees) → weight Elsewhere u < weight Elsewhere t → weight (Expr s) (object_literal (append pre (u ▸ post))) < weight (Expr s) (object_literal (append pre (t ▸ post)))
object_falls s pre t u post l =
    let marks = object_marks s (append pre (t ▸ post)) (append pre (u ▸ post)) in
    omega (arith, marks, commas_same pre t u post, items_fall pre t u post l)

pub lighter : KeysLighter
lighter (Expr s) n w r = falls_by (Expr s) n w _ _ r.shape r.written (object_falls s r.before r.from r.to r.after (property_falls r.from r.to r.row))
lighter p n w r = absurd r

outline_kept : (p : Position) (n w : Tree) → KeyRow p n w → outline n ≡ outline w
outline_kept (Expr s) n w r = ap outline r.shape ∙ sym (ap outline r.written)
outline_kept p n w r = absurd r

no_items : (p : Position) (n w : Tree) → KeyRow p n w → counts_items p ≡ true → (outline n).items ≡ (outline w).items
no_items (Expr s) n w r e = absurd (true≢false (sym e))
no_items p n w r e = absurd r

pub lightens : Lightens KeyContracts
lightens = record {
  lighter = λ p n w c. c.lighter;
  absent = λ p n w c a. ap (λ o. o.absent) (outline_kept p n w c.row);
  items = λ p n w c a. no_items p n w c.row a;
  is_zero = λ p n w c a. inl (ap (λ o. o.is_zero) (outline_kept p n w c.row));
  chooses = λ p n w c a. inl (λ h. sym (ap (λ o. o.chooses) (outline_kept p n w c.row)) ∙ h);
}

-- What a row on a key writes keeps all that a program has to keep: it is built anew of the same parts.
use Rattle.std.proofs.Common.{◌≡◌, Bool, true, false, [], ◌∷◌, refl, sym, ap, ◌∙◌, inl, inr}
use Rattle.std.specs.Prelude.{pos}
use Rattle.std.specs.Fmt.{signed_decimal}
use Rattle.mini_model.specs.declared.place.Position.{Position}
use Rattle.mini_model.specs.declared.place.Position.TheVariants.{Expr}
use Rattle.mini_model.specs.declared.seat.Seat.{Seat}
use Rattle.mini_model.specs.Paths.{append}
use Rattle.mini_model.specs.Tree.{Tree, Trees, none, ◌▸◌, identifier}
use Rattle.mini_kept.specs.KeepsNames.{is_rewritten_place}
use Rattle.mini_kept.specs.Lawful.{Lawful}
use Rattle.mini_rows.specs.Arranged.{KeptAt}
use Rattle.mini_rows.specs.Sketches.{Object, Property, Number, String, PropertyName, Sketch, part, under, list, end, ◌▹◌, no_items, item, items, Parts, filled, still, rearranges_expression}
use Rattle.mini_rows.specs.SpellKeys.{object_literal, PropertyRow, RowInObject, KeyRow, KeyContracts}
use Rattle.mini_rows.proofs.ArrangedExpressions.{expressions_arranged}
use Rattle.mini_rows.proofs.ArrangedLawful.{kept_is_lawful}
use Rattle.mini_rows.proofs.SpellFunctionKeys.{function_kept}
use Rattle.mini_rows.proofs.SpellKeyMeaning.{keys_same}
use Rattle.mini_rows.proofs.SpellKeyShapes.{key_fits, key_asked, key_slot}

-- the properties before and after one
abbrev with_property : Sketch → Sketch
with_property p = under Object (list (items 0 (item p (items 1 no_items))) ▹ end)

-- a property whose key is a leaf, of the value that is the part 0
abbrev keyed : Bool → Bool → Sketch → Sketch
keyed is_shorthand is_computed k = under (Property is_shorthand is_computed) (k ▹ part 0 ▹ end)

abbrev around : Trees → Trees → Tree → Parts
around pre post v = record { trees = v ▸ none; lists = pre ∷ post ∷ [] }

-- nothing stands after the last of some lists
after_none : (ts : Trees) → append ts none ≡ ts
after_none none = refl
after_none (t ▸ ts) = ap (λ us. t ▸ us) (after_none ts)

object_is : (pre post : Trees) (v : Tree) (p : Sketch) → object_literal (append pre (filled (around pre post v) p ▸ post)) ≡ filled (around pre post v) (with_property p)
object_is pre post v p = ap (λ us. object_literal (append pre (filled (around pre post v) p ▸ us))) (sym (after_none post))

of_sketches : (q : Seat) (n w : Tree) (r : RowInObject n w) (v : Tree) (f t : Sketch) → r.from ≡ filled (around r.before r.after v) f → r.to ≡ filled (around r.before r.after v) t → rearranges_expression still (with_property f) (with_property t) ≡ true → KeptAt (Expr q) n w
of_sketches q n w r v f t e g h =
    expressions_arranged (around r.before r.after v) (with_property f) (with_property t) h q n w
    (r.shape ∙ ap (λ x. object_literal (append r.before (x ▸ r.after))) e ∙ object_is r.before r.after v f)
    (r.written ∙ ap (λ x. object_literal (append r.before (x ▸ r.after))) g ∙ object_is r.before r.after v t)

object_kept : (q : Seat) (n w : Tree) (r : RowInObject n w) → KeptAt (Expr q) n w
object_kept q n w r = by r.row
  where
    by : PropertyRow r.from r.to → KeptAt (Expr q) n w
    by (inl p) = of_sketches q n w r (identifier p.name) (keyed false false (under (PropertyName p.name.spelling) end)) (keyed true false (under (PropertyName p.name.spelling) end)) p.shape p.written refl
    by (inr (inl p)) = of_sketches q n w r p.value (keyed false false (under (String p.name) end)) (keyed false false (under (PropertyName p.name) end)) p.shape p.written refl
    by (inr (inr (inl p))) = of_sketches q n w r p.value (keyed false false (under (String (signed_decimal (pos p.number))) end)) (keyed false false (under (Number (pos p.number)) end)) p.shape p.written refl
    by (inr (inr (inr (inl p)))) = of_sketches q n w r p.value (keyed false true (under (String p.name) end)) (keyed false false (under (String p.name) end)) p.shape p.written refl
    by (inr (inr (inr (inr (inr p))))) = function_kept q n w r p
    by (inr (inr (inr (inr (inl p))))) = of_sketches q n w r p.value (keyed false true (under (Number (pos p.number)) end)) (keyed false false (under (Number (pos p.number)) end)) p.shape p.written refl

kept : (p : Position) (n w : Tree) → KeyRow p n w → KeptAt p n w
kept (Expr q) n w r = object_kept q n w r
kept p n w r = absurd r

places : (p : Position) (n w : Tree) → KeyRow p n w → is_rewritten_place p ≡ true
places (Expr q) n w r = refl
places p n w r = absurd r

pub lawful : Lawful KeyContracts
lawful =
    kept_is_lawful KeyContracts keys_same
    (record { fitting = λ p n w c strict s k e. key_fits p n w c.row strict s e; asked = λ p n w c. key_asked p n w c.row })
    (λ p n w c. places p n w c.row)
    (λ p n w c strict s k e. key_slot p n w c.row strict s e)
    (λ p n w c. kept p n w c.row)

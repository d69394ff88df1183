-- The length of a text that is known, though it isn't written out, and the number that it is: they mean the same, and the number keeps
-- all that a program has to keep.
use Rattle.std.proofs.Common.{◌≡◌, ℕ, Bool, true, false, List, [], ◌∷◌, length, Some, refl, sym, ap, subst, ◌∙◌, true≢false}
use Rattle.std.specs.Prelude.{codes, pos}
use Rattle.std.proofs.lemmas.Bool.{and_parts, false≢true}
use Rattle.mini_model.specs.declared.place.Position.TheVariants.{Expr}
use Rattle.mini_model.specs.declared.seat.Seat.{Seat}
use Rattle.mini_model.specs.declared.shape.Shape.{Shape}
use Rattle.mini_model.specs.declared.shape.Shape.TheVariants as shape
use Rattle.mini_model.specs.Tree.{Tree, Trees, node, none, ◌▸◌}
use Rattle.mini_accept.specs.WellShaped.{Slot, fits, has_optional, has_optional_by}
use Rattle.mini_laws.specs.Congruence.{ReadAlike}
use Rattle.mini_laws.specs.Demand.{Val, Demand}
use Rattle.mini_laws.specs.Naming.{summary, summary_of}
use Rattle.mini_laws.specs.Path.{Path, here, inside}
use Rattle.mini_laws.specs.Rows.{SameAt}
use Rattle.mini_laws.specs.Same.{Same}
use Rattle.mini_laws.specs.State.{Environment}
use Rattle.mini_laws.specs.Value.{String, VariableSet, nothing}
use Rattle.mini_laws.proofs.Congruent.{congruent_same, transitive, weaker, avoids_nothing, no_within, no_off}
use Rattle.mini_kept.specs.KeepsShapes.{AskedAlike}
use Rattle.mini_kept.specs.Placed.{fits_place}
use Rattle.mini_kept.proofs.Expressions.{TakesExpression, expression_taken}
use Rattle.mini_terms.specs.Calculated.{free_value}
use Rattle.mini_terms.specs.Folds.{is_effect_free}
use Rattle.mini_terms.specs.Parts.{leaves_nothing}
use Rattle.mini_terms.specs.Reading.{SameWanted, is_plain_part, is_plain_part_by, first_of, are_plain_parts}
use Rattle.mini_terms.proofs.Calculated.{free_is_constant}
use Rattle.mini_terms.proofs.Dropping.{known_same}
use Rattle.mini_rows.specs.Arranged.{KeptAt}
use Rattle.mini_rows.specs.Constants.{RowLength}
use Rattle.mini_rows.specs.Sketches.{StaticMember, PropertyName, Number, part as hole, under, end, ◌▹◌}
use Rattle.mini_rows.specs.Spellings.{text, key}
use Rattle.mini_rows.proofs.ArrangedExpressions.{expressions_arranged_freely}
use Rattle.mini_rows.proofs.PlainRead.{plain_read}
use Rattle.mini_rows.proofs.TextLength.{length_on, length_of, count_of, same_here, length_at, count_fits, asked_here}
use Rattle.mini_rows.proofs.Vanishing.{vanishes, first_dropped}

-- ---- as of the text that is written out

module _ (t : Tree) (u : List ℕ) (known : free_value t ≡ Some (String u)) where
  read_alike : summary t ≡ summary (text u)
  read_alike = plain_read t (free_is_constant t (String u) known).plain ∙ sym (plain_read (text u) refl)

  length_read_alike : summary (length_on t) ≡ summary (length_on (text u))
  length_read_alike = ap (λ i. summary_of (shape.StaticMemberExpression false) [] 0 (i ∷ summary (key (codes "length")) ∷ [])) read_alike

  abbrev of_it : Path
  of_it = inside (shape.StaticMemberExpression false) [] 0 none here (key (codes "length") ▸ none)

  reads : (e : Environment) → ReadAlike nothing e (summary t) (summary (text u))
  reads e = subst (ReadAlike nothing e (summary t)) read_alike (record { facts = refl; lets = λ x h. refl; shared_lets = refl; name = refl; functions = refl })

  module _ (free : is_effect_free t ≡ true) where
    written_out : SameWanted t (text u)
    written_out = known_same t (text u) (String u) (free_is_constant t (String u) known).constant free refl

    on_text : (e : Environment) (D X : VariableSet) (q : Demand) → Same e D X q (length_on t) (length_on (text u))
    on_text e D X q =
        weaker e nothing D nothing X (no_within D) (no_within X) q (length_on t) (length_on (text u))
        (congruent_same e nothing (λ x h. absurd (true≢false (sym h))) of_it t (text u) (tt, tt, tt, ((tt, tt), tt)) (avoids_nothing (text u)) (reads e) nothing q (no_off _) (written_out e nothing _ Val))

known_length_same_of : (s : Seat) (n w : Tree) (r : RowLength s n w) → SameAt (Expr s) (length_on r.text) (count_of r.units)
known_length_same_of s n w r =
    record { by = λ e D X q f. transitive e D X q (length_on r.text) (length_of r.units) (count_of r.units) (on_text r.text r.units r.known r.effect_free e D X q) ((same_here r.units s r.unguarded).by e D X q f) }

pub known_length_same : (s : Seat) (n w : Tree) → RowLength s n w → SameAt (Expr s) n w
known_length_same s n w r = subst (λ t. SameAt (Expr s) t w) (sym r.shape) (subst (SameAt (Expr s) (length_on r.text)) (sym r.written) (known_length_same_of s n w r))

pub known_length_read : (s : Seat) (n w : Tree) → RowLength s n w → summary n ≡ summary w
known_length_read s n w r = ap summary r.shape ∙ length_read_alike r.text r.units r.known ∙ sym (ap summary r.written)

-- ---- where they stand

pub known_length_taken : (q : Seat) (n w : Tree) → RowLength q n w → (strict : Bool) (p : Slot) → fits_place (Expr q) p ≡ true → fits strict p n ≡ true → TakesExpression p
known_length_taken q n w r strict p v e = length_at r.text strict q p r.unchained v (subst (λ t. fits strict p t ≡ true) r.shape e)

pub known_length_fits : (q : Seat) (n w : Tree) → RowLength q n w → (strict : Bool) (p : Slot) → fits_place (Expr q) p ≡ true → fits strict p n ≡ true → fits strict p w ≡ true
known_length_fits q n w r strict p v e =
    subst (λ t. fits strict p t ≡ true) (sym r.written) (expression_taken strict p (count_of r.units) (known_length_taken q n w r strict p v e) (count_fits r.units strict r.small))

-- a parent reads no link of a chain in it
mutual
  no_optional : (t : Tree) → is_plain_part t ≡ true → has_optional t ≡ false
  no_optional (node h xs n ts) e = no_link h ts e

  no_link : (h : Shape) (ts : Trees) → is_plain_part_by h (first_of (are_plain_parts ts)) ≡ true → has_optional_by h ts ≡ false
  no_link (shape.CallExpression true) ts e = absurd (false≢true e)
  no_link (shape.CallExpression false) none e = refl
  no_link (shape.CallExpression false) (t ▸ ts) e = no_optional t e
  no_link (shape.StaticMemberExpression true) ts e = absurd (false≢true e)
  no_link (shape.StaticMemberExpression false) none e = refl
  no_link (shape.StaticMemberExpression false) (t ▸ ts) e = no_optional t e
  no_link (shape.ComputedMemberExpression true) ts e = absurd (false≢true e)
  no_link (shape.ComputedMemberExpression false) none e = refl
  no_link (shape.ComputedMemberExpression false) (t ▸ ts) e = no_optional t e
  no_link (shape.PrivateFieldExpression b) ts e = absurd (false≢true e)
  no_link shape.InnerExpression ts e = absurd (false≢true e)
  no_link h ts e = refl

pub known_length_asked : (q : Seat) (n w : Tree) → RowLength q n w → AskedAlike (Expr q) n w
known_length_asked q n w r = subst (λ t. AskedAlike (Expr q) t w) (sym r.shape) (subst (AskedAlike (Expr q) (length_on r.text)) (sym r.written) (asked_here q r.text r.units (no_optional r.text (free_is_constant r.text (String r.units) r.known).plain) r.unsigned))

text_goes : (a : Tree) → leaves_nothing (length_on a) ≡ true → leaves_nothing a ≡ true
text_goes a e = (and_parts (leaves_nothing a) true e).0

pub known_length_kept : (q : Seat) (n w : Tree) → RowLength q n w → KeptAt (Expr q) n w
known_length_kept q n w r =
    expressions_arranged_freely first_dropped (record { trees = r.text ▸ none; lists = [] }) (tt, tt, (vanishes r.text (text_goes r.text (subst (λ t. leaves_nothing t ≡ true) r.shape r.dropped)), tt)) (under (StaticMember false) (hole 0 ▹ under (PropertyName (codes "length")) end ▹ end))
    (under (Number (pos (length r.units))) end) refl q n w r.shape r.written

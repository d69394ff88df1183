-- The length of a text that is known makes what its row says, and stays where the row makes it no lighter.
use Rattle.std.proofs.Common.{◌≡◌, ℕ, ◌<◌, ◌^◌, Bool, true, false, List, length, refl, sym, ap, subst, ◌∙◌}
use Rattle.std.specs.Prelude.{nat_le, pos, Option, Some, None, if◌then◌else◌}
use Rattle.std.proofs.lemmas.Bool.{and_parts, leb-true, le-leb}
use Rattle.mini_model.specs.Numerals.{max_safe_integer}
use Rattle.mini_model.specs.declared.place.Position.TheVariants.{Expr}
use Rattle.mini_model.specs.declared.seat.Seat.{Seat}
use Rattle.mini_model.specs.Tree.{Tree}
use Rattle.mini_model.specs.Weight.{weight}
use Rattle.mini_node.specs.Children.{part}
use Rattle.mini_laws.specs.Value.{Value, Undefined, Null, Boolean, Number, String, Symbol, Object, choose}
use Rattle.mini_terms.specs.Calculated.{free_value}
use Rattle.mini_terms.specs.Folds.{is_effect_free}
use Rattle.mini_terms.specs.Parts.{leaves_nothing}
use Rattle.mini_rows.specs.Constants.{RowLength}
use Rattle.mini_rows.specs.Spellings.{numeral}
use Rattle.mini_fold.specs.FoldConstants.{is_lighter, text_in, known_text, length_of, shortens, shortened_by, length_written}
use Rattle.mini_fold.specs.FoldStaticMember.{asks_length, count_of}
use Rattle.mini_fold.proofs.Gains.{nothing, lighter_is, lighter_test}
use Rattle.mini_fold.proofs.Lengths.{both_true, Asked, asked_is, asked_here}

-- ---- a text that is known

record Known (t : Tree) (u : List ℕ) : Type 0 where
  effect_free : is_effect_free t ≡ true
  known : free_value t ≡ Some (String u)

text_is : (c : Option Value) (u : List ℕ) → text_in c ≡ Some u → c ≡ Some (String u)
text_is (Some (String x)) u e = ap (λ y. Some (String y)) {x = x} {y = u} (cc e)
text_is (Some Undefined) u e = nothing e
text_is (Some Null) u e = nothing e
text_is (Some (Boolean b)) u e = nothing e
text_is (Some (Number n)) u e = nothing e
text_is (Some (Symbol n)) u e = nothing e
text_is (Some (Object n f)) u e = nothing e
text_is None u e = nothing e

known_is : (t : Tree) (u : List ℕ) → known_text t ≡ Some u → Known t u
known_is t u e = go (is_effect_free t) refl e
  where
    go : (b : Bool) → is_effect_free t ≡ b → choose b (text_in (free_value t)) None ≡ Some u → Known t u
    go true h e = record { effect_free = h; known = text_is (free_value t) u e }
    go false h e = nothing e

known_there : (t : Tree) (u : List ℕ) → is_effect_free t ≡ true → free_value t ≡ Some (String u) → known_text t ≡ Some u
known_there t u free known = ap (λ b. choose b (text_in (free_value t)) None) free ∙ ap text_in known

-- ---- what is written is what the row says

module _ (s : Seat) (n w : Tree) where
  row_of : Asked s n → (u : List ℕ) → Known (part n 0) u → nat_le (length u) max_safe_integer ≡ true → w ≡ numeral (pos (length u)) → shortens s n w ≡ true → RowLength s n w
  row_of a u k small is e =
      let (dropped, lighter) = and_parts (leaves_nothing n) (is_lighter s w n) e in record {
        text = part n 0;
        units = u;
        known = k.known;
        effect_free = k.effect_free;
        dropped = dropped;
        unguarded = a.unguarded;
        unsigned = a.unsigned;
        unchained = a.unchained;
        small = leb-true (length u) max_safe_integer small;
        shape = a.shape;
        written = is;
        gains = lighter_is s w n lighter;
      }

  counted : Asked s n → (o : Option (List ℕ)) → known_text (part n 0) ≡ o → count_of o ≡ Some w → shortens s n w ≡ true → RowLength s n w
  counted a (Some u) k h e = go (nat_le (length u) max_safe_integer) refl h
    where
      go : (b : Bool) → nat_le (length u) max_safe_integer ≡ b → (if b then Some (numeral (pos (length u))) else None) ≡ Some w → RowLength s n w
      go true small h = row_of a u (known_is (part n 0) u k) small (cc h) e
      go false small h = nothing h
  counted a None k h e = nothing h

  asked : length_of s n ≡ Some w → shortens s n w ≡ true → RowLength s n w
  asked h e = go (asks_length s n) refl h
    where
      go : (b : Bool) → asks_length s n ≡ b → (if b then count_of (known_text (part n 0)) else None) ≡ Some w → RowLength s n w
      go true f h = counted (asked_is s n f) (known_text (part n 0)) refl h e
      go false f h = nothing h

  pub length_is_row : length_written s n ≡ Some w → RowLength s n w
  length_is_row e = go (length_of s n) refl e
    where
      by_test : (u : Tree) (b : Bool) → length_of s n ≡ Some u → shortens s n u ≡ b → (if b then Some u else None) ≡ Some w → RowLength s n w
      by_test u true h f e = let same : u ≡ w = cc e in asked (h ∙ ap (λ x. Some x) same) (subst (λ x. shortens s n x ≡ true) same f)
      by_test u false h f e = nothing e

      go : (o : Option Tree) → length_of s n ≡ o → shortened_by s n o ≡ Some w → RowLength s n w
      go (Some u) h e = by_test u (shortens s n u) h refl e
      go None h e = nothing e

-- ---- where nothing is written

-- what the row reads is asked for
length_there : (s : Seat) (n w : Tree) → RowLength s n w → length_of s n ≡ Some w
length_there s n w r =
    ap (length_of s) r.shape
    ∙ ap (λ b. if b then count_of (known_text r.text) else None) (asked_here s r.text r.unguarded r.unsigned r.unchained)
    ∙ ap count_of (known_there r.text r.units r.effect_free r.known)
    ∙ ap (λ b. if b then Some (numeral (pos (length r.units))) else None) (le-leb (length r.units) max_safe_integer r.small)
    ∙ ap (λ x. Some x) (sym r.written)

pub length_rests : (s : Seat) (n w : Tree) → RowLength s n w → weight (Expr s) n < 2 ^ 64 → length_written s n ≡ None → ⊥
length_rests s n w r small e =
    nothing
    (sym e
    ∙ ap (shortened_by s n) (length_there s n w r)
    ∙ ap (λ b. if b then Some w else None) (both_true (leaves_nothing n) (is_lighter s w n) r.dropped (lighter_test s w n small r.gains)))

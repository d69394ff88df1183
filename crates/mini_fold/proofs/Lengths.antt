-- The length of a text makes what its row says, and stays where no row reads it.
use Rattle.std.proofs.Common.{◌≡◌, ℕ, zero, Bool, true, false, List, [], length, refl, sym, ap, subst, ◌∙◌}
use Rattle.std.specs.Prelude.{◌&&◌, not, nat_le, pos, codes, Option, Some, None, if◌then◌else◌}
use Rattle.std.proofs.lemmas.Bool.{and_parts, leb-true, le-leb, false≢true}
use Rattle.mini_model.specs.Numerals.{max_safe_integer}
use Rattle.mini_model.specs.declared.seat.Seat.{Seat}
use Rattle.mini_model.specs.declared.shape.Shape.{Shape}
use Rattle.mini_model.specs.declared.shape.Shape.TheVariants as shape
use Rattle.mini_model.specs.Tree.{Tree, Trees, node, none, leaf}
use Rattle.mini_model.specs.declared.name.Name.{Name}
use Rattle.mini_kept.specs.Placed.{is_chain_seat}
use Rattle.mini_kept.proofs.SameScopes.{same_texts}
use Rattle.mini_node.specs.Children.{is_bare, part}
use Rattle.mini_node.specs.Kinds.{is_static_member, string}
use Rattle.mini_node.specs.Made.{static_member_is, string_is}
use Rattle.mini_terms.specs.Parts.{takes_numbers}
use Rattle.mini_terms.specs.Reading.{is_unguarded}
use Rattle.mini_rows.specs.Folding.{Row9}
use Rattle.mini_rows.specs.Spellings.{static_member, text, key, numeral}
use Rattle.mini_fold.specs.FoldStaticMember.{names_length, is_length_key, takes_length, asks_length, count_of, written}

bare_is : (h : Shape) (xs : List Name) (n : ℕ) (ts : Trees) → is_bare (node h xs n ts) 0 ≡ true → node h xs n ts ≡ leaf h
bare_is h [] zero none e = refl
bare_is h xs n ts e = absurd (false≢true e)

length_named : (h : Shape) → names_length h ≡ true → h ≡ shape.IdentifierName (codes "length")
length_named (shape.IdentifierName s) e = ap (λ u. shape.IdentifierName u) (same_texts s (codes "length") e)
length_named h e = absurd (false≢true e)

key_is : (t : Tree) → is_length_key t ≡ true → t ≡ key (codes "length")
key_is (node h xs n ts) e =
    let (bare, named) = and_parts (is_bare (node h xs n ts) 0) (names_length h) e in
    bare_is h xs n ts bare ∙ ap leaf (length_named h named)

pub both_true : (b c : Bool) → b ≡ true → c ≡ true → b && c ≡ true
both_true true c e f = f
both_true false c e f = e

not_true : (b : Bool) → not b ≡ true → b ≡ false
not_true false e = refl
not_true true e = sym e

-- `a.length`, where a number may stand
pub record Asked (s : Seat) (n : Tree) : Type 0 where
  pub unguarded : is_unguarded s.guard ≡ true
  pub unsigned : takes_numbers s ≡ true
  pub unchained : is_chain_seat s ≡ false
  pub shape : n ≡ static_member false (part n 0) (key (codes "length"))

pub asked_is : (s : Seat) (n : Tree) → asks_length s n ≡ true → Asked s n
asked_is s n e =
    let (is, rest) = and_parts (is_static_member n) (is_length_key (part n 1) && takes_length s) e in
    let (named, takes) = and_parts (is_length_key (part n 1)) (takes_length s) rest in
    let (unguarded, others) = and_parts (is_unguarded s.guard) (takes_numbers s && not (is_chain_seat s)) takes in
    let (unsigned, unchained) = and_parts (takes_numbers s) (not (is_chain_seat s)) others in
    record { unguarded = unguarded; unsigned = unsigned; unchained = not_true (is_chain_seat s) unchained; shape = static_member_is n is ∙ ap (static_member false (part n 0)) (key_is (part n 1) named) }

module _ (s : Seat) (n : Tree) where
  length_row : asks_length s n ≡ true → (u : List ℕ) → string (part n 0) ≡ Some u → nat_le (length u) max_safe_integer ≡ true → Row9 s n (numeral (pos (length u)))
  length_row e u h small =
      let r = asked_is s n e in record {
        units = u;
        unguarded = r.unguarded;
        unsigned = r.unsigned;
        unchained = r.unchained;
        small = leb-true (length u) max_safe_integer small;
        shape = r.shape ∙ ap (λ t. static_member false t (key (codes "length"))) (string_is (part n 0) u h);
        written = refl;
      }

  counted_row : (w : Tree) → asks_length s n ≡ true → (o : Option (List ℕ)) → string (part n 0) ≡ o → count_of o ≡ Some w → Row9 s n w
  counted_row w e (Some u) h k = by (nat_le (length u) max_safe_integer) refl k
    where
      by : (b : Bool) → nat_le (length u) max_safe_integer ≡ b → (if b then Some (numeral (pos (length u))) else None) ≡ Some w → Row9 s n w
      by true small k = let same : numeral (pos (length u)) ≡ w = cc k in subst (Row9 s n) same (length_row e u h small)
      by false small k = absurd (cc k)
  counted_row w e None h k = absurd (cc k)

pub length_is_row : (s : Seat) (n w : Tree) → written s n ≡ Some w → Row9 s n w
length_is_row s n w e = go (asks_length s n) refl e
  where
    go : (b : Bool) → asks_length s n ≡ b → (if b then count_of (string (part n 0)) else None) ≡ Some w → Row9 s n w
    go true h e = counted_row s n w h (string (part n 0)) refl e
    go false h e = absurd (cc e)

-- of a member that the row reads something is written

pub asked_here : (s : Seat) (a : Tree) → is_unguarded s.guard ≡ true → takes_numbers s ≡ true → is_chain_seat s ≡ false → asks_length s (static_member false a (key (codes "length"))) ≡ true
asked_here s a e f g = both_true (is_unguarded s.guard) (takes_numbers s && not (is_chain_seat s)) e (both_true (takes_numbers s) (not (is_chain_seat s)) f (ap not g))

never : (b c : Bool) (t : Tree) → b ≡ true → c ≡ true → (if b then (if c then Some t else None) else None) ≡ None → ⊥
never true true t e f k = cc k
never true false t e f k = cc f
never false c t e f k = cc e

pub length_rests : (s : Seat) (n : Tree) → written s n ≡ None → (w : Tree) → Row9 s n w → ⊥
length_rests s n e w r =
    never (asks_length s (static_member false (text r.units) (key (codes "length")))) (nat_le (length r.units) max_safe_integer) (numeral (pos (length r.units)))
    (asked_here s (text r.units) r.unguarded r.unsigned r.unchained) (le-leb (length r.units) max_safe_integer r.small)
    (sym (ap (written s) r.shape) ∙ e)

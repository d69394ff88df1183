-- What stands for undefined and null is what its test says, and each passes its test.
use Rattle.std.proofs.Common.{◌≡◌, ℕ, zero, Bool, true, false, List, [], ◌∷◌, Option, Some, None, refl, sym, ap, ◌∙◌, inl, inr, true≢false}
use Rattle.std.specs.Prelude.{◌⊎◌, ◌&&◌, ◌||◌, nat_eq, codes, ℤ, pos, is_none}
use Rattle.std.proofs.lemmas.Bool.{and_parts, eqb-true}
use Rattle.mini_model.specs.declared.name.Name.{Name}
use Rattle.mini_model.specs.declared.name.SymbolId.{SymbolId}
use Rattle.mini_model.specs.declared.operator.UnaryOperator.{UnaryOperator}
use Rattle.mini_model.specs.declared.operator.UnaryOperator.TheVariants.{Void}
use Rattle.mini_model.specs.declared.shape.Shape.TheVariants as shape
use Rattle.mini_model.specs.Tree.{Tree, node, none, unary, identifier, unresolved}
use Rattle.mini_model.specs.Weight.{is_zero_number, same_text}
use Rattle.mini_node.specs.Children.{part}
use Rattle.mini_node.specs.Kinds.{number, unary_operator, is_null}
use Rattle.mini_node.specs.Made.{number_is, unary_is, null_is}
use Rattle.mini_rows.specs.Choices.{AreNullish}
use Rattle.mini_rows.specs.Spellings.{numeral, void_zero, IsUndefined}
use Rattle.mini_choices.specs.Forms.{is_zero_value, is_zero, is_void, is_void_zero, is_undefined_name, is_global_undefined, is_undefined, are_nullish}

-- either holds
pub either_true : (a b : Bool) → a || b ≡ true → (a ≡ true) ⊎ (b ≡ true)
either_true true b e = inl refl
either_true false b e = inr e

pub same_texts : (s r : List ℕ) → same_text s r ≡ true → s ≡ r
same_texts [] [] e = refl
same_texts [] (d ∷ r) e = absurd (cc e)
same_texts (c ∷ s) [] e = absurd (cc e)
same_texts (c ∷ s) (d ∷ r) e =
    let (first, rest) = and_parts (nat_eq c d) (same_text s r) e in
    let one : c ≡ d = eqb-true c d first in
    ap (λ x. x ∷ s) one ∙ ap (λ x. d ∷ x) (same_texts s r rest)

-- `0`, `void 0`

zero_is : (t : Tree) → is_zero t ≡ true → t ≡ numeral (pos 0)
zero_is t e = go (number t) refl e
  where
    zero_number : (n : ℤ) → is_zero_number n ≡ true → n ≡ pos 0
    zero_number (pos zero) e = refl
    zero_number n e = absurd (cc e)

    go : (o : Option ℤ) → number t ≡ o → is_zero_value o ≡ true → t ≡ numeral (pos 0)
    go (Some n) h e = number_is t n h ∙ ap numeral (zero_number n e)
    go None h e = absurd (cc e)

pub void_zero_is : (t : Tree) → is_void_zero t ≡ true → t ≡ void_zero
void_zero_is t e = let (over, operand) = and_parts (is_void (unary_operator t)) (is_zero (part t 0)) e in go (unary_operator t) refl over operand
  where
    go : (o : Option UnaryOperator) → unary_operator t ≡ o → is_void o ≡ true → is_zero (part t 0) ≡ true → t ≡ void_zero
    go (Some Void) h v z = unary_is t Void h ∙ ap (unary Void) (zero_is (part t 0) z)
    go (Some o) h v z = absurd (cc v)
    go None h v z = absurd (cc v)

-- `undefined`

no_symbol : (o : Option SymbolId) → is_none o ≡ true → o ≡ None
no_symbol None e = refl
no_symbol (Some i) e = absurd (cc e)

abbrev named : List ℕ → Option SymbolId → Name
named s o = record { spelling = s; symbol = o }

name_is : (x : Name) → is_undefined_name (x ∷ []) ≡ true → x ≡ unresolved (codes "undefined")
name_is x e =
    let (free, spelled) = and_parts (is_none x.symbol) (same_text x.spelling (codes "undefined")) e in
    ap (λ s. named s x.symbol) (same_texts x.spelling (codes "undefined") spelled) ∙ ap (named (codes "undefined")) (no_symbol x.symbol free)

pub global_undefined_is : (t : Tree) → is_global_undefined t ≡ true → t ≡ identifier (unresolved (codes "undefined"))
global_undefined_is (node shape.Identifier (x ∷ []) zero none) e = ap identifier (name_is x e)
global_undefined_is t e = absurd (cc e)

pub undefined_is : (t : Tree) → is_undefined t ≡ true → IsUndefined t
undefined_is t e = go (either_true (is_void_zero t) (is_global_undefined t) e)
  where
    go : (is_void_zero t ≡ true) ⊎ (is_global_undefined t ≡ true) → IsUndefined t
    go (inl h) = inr (void_zero_is t h)
    go (inr h) = inl (global_undefined_is t h)

pub undefined_passes : (t : Tree) → IsUndefined t → is_undefined t ≡ true
undefined_passes t (inl h) = ap is_undefined h
undefined_passes t (inr h) = ap is_undefined h

pub nullish_is : (a b : Tree) → are_nullish a b ≡ true → AreNullish a b
nullish_is a b e = go (either_true (is_null a && is_undefined b) (is_undefined a && is_null b) e)
  where
    go : (is_null a && is_undefined b ≡ true) ⊎ (is_undefined a && is_null b ≡ true) → AreNullish a b
    go (inl h) = let (null, undefined) = and_parts (is_null a) (is_undefined b) h in inl (null_is a null, undefined_is b undefined)
    go (inr h) = let (undefined, null) = and_parts (is_undefined a) (is_null b) h in inr (undefined_is a undefined, null_is b null)

one_true : (a b : Bool) → a ≡ true → a || b ≡ true
one_true true b e = refl
one_true false b e = absurd (true≢false (sym e))

other_true : (a b : Bool) → b ≡ true → a || b ≡ true
other_true true b e = refl
other_true false b e = e

both_hold : (a b : Bool) → a ≡ true → b ≡ true → a && b ≡ true
both_hold true b e f = f
both_hold false b e f = absurd (true≢false (sym e))

pub nullish_passes : (a b : Tree) → AreNullish a b → are_nullish a b ≡ true
nullish_passes a b (inl h) = one_true (is_null a && is_undefined b) (is_undefined a && is_null b) (both_hold (is_null a) (is_undefined b) (ap is_null h.0) (undefined_passes b h.1))
nullish_passes a b (inr h) = other_true (is_null a && is_undefined b) (is_undefined a && is_null b) (both_hold (is_undefined a) (is_null b) (undefined_passes a h.0) (ap is_null h.1))

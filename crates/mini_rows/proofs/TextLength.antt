-- The length of a text, and the number that it is: they mean the same, the number is lighter, and it keeps all that a program has to keep.
use Rattle.std.proofs.Common.{◌≡◌, ℕ, ◌+◌, ◌≤◌, Bool, true, false, List, [], length, refl, sym, ap, subst, ◌∙◌, true≢false, arith}
use Rattle.std.specs.Prelude.{◌&&◌, codes, pos, if◌then◌else◌}
use Rattle.std.specs.Fmt.{decimal}
use Rattle.std.proofs.lemmas.Bool.{false≢true, le-leb}
use Rattle.std.proofs.lemmas.Fmt.{length-decimal-le_succ}
use Rattle.mini_model.specs.Numerals.{max_safe_integer}
use Rattle.mini_model.specs.declared.place.Position.TheVariants.{Expr}
use Rattle.mini_model.specs.declared.seat.Guard.{Guard}
use Rattle.mini_model.specs.declared.seat.Guard.TheVariants as guard
use Rattle.mini_model.specs.declared.seat.Seat.{Seat}
use Rattle.mini_model.specs.declared.shape.Shape.TheVariants as shape
use Rattle.mini_model.specs.Tree.{Tree, Trees, none, ◌▸◌}
use Rattle.mini_model.specs.Weight.{weight, is_awkward, outlines}
use Rattle.mini_accept.specs.WellShaped.{Depth, in_module, in_body, nested, Class, a_statement, a_chain, an_init, an_arrow_body, an_expression, a_link, an_argument, an_inner, an_inner_argument, a_key, a_private_or_key, an_inner_key, a_default_export, Slot, one, one_or_absent, filling, refused, fits, has_optional}
use Rattle.mini_laws.specs.Demand.{Demand, As, Callee, OfType, Deleted, Target, AnEntry, Request}
use Rattle.mini_laws.specs.State.{State, either, Environment}
use Rattle.mini_laws.specs.Naming.{summary}
use Rattle.mini_laws.specs.Fits.{Fits}
use Rattle.mini_laws.specs.Rows.{SameAt}
use Rattle.mini_laws.specs.Step.{step, means, meaning}
use Rattle.mini_laws.proofs.Rows.{equal_same}
use Rattle.mini_kept.specs.KeepsShapes.{AskedAlike}
use Rattle.mini_kept.specs.Placed.{is_chain_seat, fits_seat, fits_place}
use Rattle.mini_kept.proofs.Expressions.{refused_here, expression, TakesExpressionIn, TakesExpression, expression_taken}
use Rattle.mini_terms.specs.Parts.{takes_numbers}
use Rattle.mini_terms.specs.Reading.{is_unguarded}
use Rattle.mini_rows.specs.Arranged.{KeptAt}
use Rattle.mini_rows.specs.Folding.{Row9}
use Rattle.mini_rows.specs.Sketches.{StaticMember, String, PropertyName, Number, under, end, ◌▹◌}
use Rattle.mini_rows.specs.Spellings.{static_member, text, key, numeral}
use Rattle.mini_rows.proofs.ArrangedExpressions.{expressions_arranged}

-- `a.length`
abbrev pub length_on : Tree → Tree
length_on a = static_member false a (key (codes "length"))

-- `"abc".length`
abbrev pub length_of : List ℕ → Tree
length_of u = length_on (text u)

abbrev pub count_of : List ℕ → Tree
count_of u = numeral (pos (length u))

-- ---- they mean the same

not_asked : (g : Guard) → is_unguarded g ≡ true → (g ≡ guard.None)
not_asked guard.None e = refl
not_asked g e = absurd (false≢true e)

module _ (u : List ℕ) (s : Seat) (h : is_unguarded s.guard ≡ true) where
  length_does : (e : Environment) (q : Demand) → Fits (Expr s) q → (r : Request q) (z : State) → means e (length_of u) q r z ≡ means e (count_of u) q r z
  unfolding means meaning step either
  length_does e (As w) f r z = refl
  length_does e AnEntry f r z = refl
  length_does e Callee f r z = absurd (cc (sym (not_asked s.guard h) ∙ f.2))
  length_does e OfType f r z = absurd (cc (sym (not_asked s.guard h) ∙ f.2))
  length_does e Deleted f r z = absurd (cc (sym (not_asked s.guard h) ∙ f.2))
  length_does e Target f r z = absurd f
  length_does e q f r z = refl

  pub same_here : SameAt (Expr s) (length_of u) (count_of u)
  same_here = equal_same (Expr s) (length_of u) (count_of u) (record { by = length_does })

pub length_same : (s : Seat) (n w : Tree) → Row9 s n w → SameAt (Expr s) n w
length_same s n w r = subst (λ t. SameAt (Expr s) t w) (sym r.shape) (subst (SameAt (Expr s) (length_of r.units)) (sym r.written) (same_here r.units s r.unguarded))

pub length_read : (s : Seat) (n w : Tree) → Row9 s n w → summary n ≡ summary w
length_read s n w r = ap summary r.shape ∙ sym (ap summary r.written)

-- ---- lighter

one_at_most : (b : Bool) → (if b then 1 else 0) ≤ 1
one_at_most true = omega arith
one_at_most false = omega arith

-- by more than what a 0 is to fall by
pub length_falls : (s : Seat) (u : List ℕ) → length u ≤ max_safe_integer → weight (Expr s) (count_of u) + 2 ≤ weight (Expr s) (length_of u)
length_falls s u small =
    let digits : length (decimal (length u)) ≤ length u + 1 = length-decimal-le_succ (length u) (omega (arith, small)) in
    omega (arith, digits, one_at_most (is_awkward s (shape.NumericLiteral (pos (length u))) (outlines none)))

-- ---- where they stand

module _ (a : Tree) where
  abbrev parts : Trees
  parts = a ▸ key (codes "length") ▸ none

  nowhere : (strict : Bool) (d : Depth) → filling strict (one (a_statement d)) (shape.StaticMemberExpression false) ≡ refused
  nowhere true in_module = refl
  nowhere true in_body = refl
  nowhere true nested = refl
  nowhere false in_module = refl
  nowhere false in_body = refl
  nowhere false nested = refl

  length_in : (strict : Bool) (q : Seat) (c : Class) → is_chain_seat q ≡ false → fits_seat q c ≡ true → fits strict (one c) (length_on a) ≡ true → TakesExpressionIn c
  length_in strict q an_expression f v e = tt
  length_in strict q a_link f v e = tt
  length_in strict q an_argument f v e = tt
  length_in strict q an_init f v e = tt
  length_in strict q an_arrow_body f v e = tt
  length_in strict q a_default_export f v e = tt
  length_in strict q (a_key true) f v e = tt
  length_in strict q (a_key false) f v e = absurd (false≢true v)
  length_in strict q a_chain f v e = absurd (false≢true (sym f ∙ v))
  length_in strict q an_inner_argument f v e = absurd (refused_here strict (one an_inner_argument) (shape.StaticMemberExpression false) [] 0 parts refl e)
  length_in strict q (an_inner c) f v e = absurd (refused_here strict (one (an_inner c)) (shape.StaticMemberExpression false) [] 0 parts refl e)
  length_in strict q (a_private_or_key true) f v e = absurd (refused_here strict (one (a_private_or_key true)) (shape.StaticMemberExpression false) [] 0 parts refl e)
  length_in strict q (a_private_or_key false) f v e = absurd (false≢true v)
  length_in strict q (an_inner_key true) f v e = absurd (refused_here strict (one (an_inner_key true)) (shape.StaticMemberExpression false) [] 0 parts refl e)
  length_in strict q (an_inner_key false) f v e = absurd (false≢true v)
  length_in strict q c f v e = absurd (false≢true v)

  pub length_at : (strict : Bool) (q : Seat) (p : Slot) → is_chain_seat q ≡ false → fits_place (Expr q) p ≡ true → fits strict p (length_on a) ≡ true → TakesExpression p
  length_at strict q (one c) f v e = length_in strict q c f v e
  length_at strict q (one_or_absent c) f v e = length_in strict q c f v e
  length_at strict q p f v e = absurd (false≢true v)

pub length_taken : (q : Seat) (n w : Tree) → Row9 q n w → (strict : Bool) (p : Slot) → fits_place (Expr q) p ≡ true → fits strict p n ≡ true → TakesExpression p
length_taken q n w r strict p v e = length_at (text r.units) strict q p r.unchained v (subst (λ t. fits strict p t ≡ true) r.shape e)

pub count_fits : (u : List ℕ) (strict : Bool) → length u ≤ max_safe_integer → fits strict expression (count_of u) ≡ true
count_fits u strict small = ap (λ a. (a && true) && true) (le-leb (length u) max_safe_integer small)

pub length_fits : (q : Seat) (n w : Tree) → Row9 q n w → (strict : Bool) (p : Slot) → fits_place (Expr q) p ≡ true → fits strict p n ≡ true → fits strict p w ≡ true
length_fits q n w r strict p v e =
    subst (λ t. fits strict p t ≡ true) (sym r.written) (expression_taken strict p (count_of r.units) (length_taken q n w r strict p v e) (count_fits r.units strict r.small))

pub asked_here : (q : Seat) (a : Tree) (u : List ℕ) → has_optional a ≡ false → takes_numbers q ≡ true → AskedAlike (Expr q) (length_on a) (count_of u)
asked_here q a u o h = record {
  absent = λ e. absurd (false≢true e);
  body = λ e. absurd (false≢true e);
  optional = λ e. absurd (true≢false (sym e ∙ o));
  number = λ asks e. absurd (true≢false (sym h ∙ asks));
  spelled = λ t e. absurd (cc e);
  plain = refl;
}

pub length_asked : (q : Seat) (n w : Tree) → Row9 q n w → AskedAlike (Expr q) n w
length_asked q n w r = subst (λ t. AskedAlike (Expr q) t w) (sym r.shape) (subst (AskedAlike (Expr q) (length_of r.units)) (sym r.written) (asked_here q (text r.units) r.units refl r.unsigned))

pub length_kept : (q : Seat) (n w : Tree) → Row9 q n w → KeptAt (Expr q) n w
length_kept q n w r = expressions_arranged (record { trees = none; lists = [] }) (under (StaticMember false) (under (String r.units) end ▹ under (PropertyName (codes "length")) end ▹ end)) (under (Number (pos (length r.units))) end) refl q n w r.shape r.written

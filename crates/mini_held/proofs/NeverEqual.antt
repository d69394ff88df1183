-- `typeof` beside what none of its texts equals is read by a row, and by no other.
use Rattle.std.proofs.Common.{◌≡◌, Bool, true, false, Option, Some, refl, sym, ap, ◌∙◌, true≢false}
use Rattle.std.specs.Prelude.{◌&&◌, not}
use Rattle.std.proofs.lemmas.Bool.{and_parts}
use Rattle.mini_model.specs.declared.operator.BinaryOperator.{BinaryOperator}
use Rattle.mini_model.specs.declared.operator.UnaryOperator.{UnaryOperator}
use Rattle.mini_model.specs.declared.operator.UnaryOperator.TheVariants.{Typeof}
use Rattle.mini_model.specs.Position.{is_equality}
use Rattle.mini_model.specs.Tree.{Tree, unary}
use Rattle.mini_node.specs.Children.{part}
use Rattle.mini_node.specs.Kinds.{unary_operator}
use Rattle.mini_node.specs.Made.{unary_is}
use Rattle.mini_terms.specs.Effects.{ef}
use Rattle.mini_terms.specs.Parts.{leaves_nothing}
use Rattle.mini_rows.specs.Operators.{says_equal, is_no_type, TypeRow}
use Rattle.mini_rows.specs.Spellings.{binary, negated_digit}
use Rattle.mini_held.specs.Types.{is_typeof_by, is_typeof, is_never_type}

pub typeof_is : (t : Tree) → is_typeof t ≡ true → t ≡ unary Typeof (part t 0)
typeof_is t e = go (unary_operator t) refl e
  where
    go : (o : Option UnaryOperator) → unary_operator t ≡ o → is_typeof_by o ≡ true → t ≡ unary Typeof (part t 0)
    go (Some Typeof) h k = unary_is t Typeof h
    go o h k = absurd (true≢false (sym k))

pub never_row : (asked : Bool) (n : Tree) (o : BinaryOperator) → n ≡ binary o (part n 0) (part n 1) → is_equality o ≡ true → is_never_type asked n ≡ true → TypeRow asked n (negated_digit (not (says_equal o)))
never_row asked n o is h e =
    let a : Tree = part n 0 in
    let b : Tree = part n 1 in
    let (first, r1) = and_parts (is_typeof a) (is_no_type b && (ef asked n && leaves_nothing n)) e in
    let (known, r2) = and_parts (is_no_type b) (ef asked n && leaves_nothing n) r1 in
    let (free, dropped) = and_parts (ef asked n) (leaves_nothing n) r2 in
    let whole : n ≡ binary o (unary Typeof (part a 0)) b = is ∙ ap (λ t. binary o t b) (typeof_is a first) in record {
      operator = o;
      operand = part a 0;
      right = b;
      equality = h;
      known = known;
      effect_free = sym (ap (ef asked) whole) ∙ free;
      dropped = sym (ap leaves_nothing whole) ∙ dropped;
      shape = whole;
      written = refl;
    }

both_true : (b c : Bool) → b ≡ true → c ≡ true → b && c ≡ true
both_true true c e f = f
both_true false c e f = e

pub never_passes : (asked : Bool) (n w : Tree) (r : TypeRow asked n w) → is_never_type asked (binary r.operator (unary Typeof r.operand) r.right) ≡ true
never_passes asked n w r =
    let t : Tree = binary r.operator (unary Typeof r.operand) r.right in
    both_true (is_no_type r.right) (ef asked t && leaves_nothing t) r.known (both_true (ef asked t) (leaves_nothing t) r.effect_free r.dropped)

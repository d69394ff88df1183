-- Each form on negations, conditionals and logical expressions writes what a row of the rewrites
-- says.
use Rattle.std.proofs.Common.{◌≡◌, ◌<◌, ◌⊎◌, refl, sym, ap, ◌∙◌, inl, inr, arith}
use Rattle.std.specs.Prelude.{zero, nat_lt, Bool, true, false, not, ◌&&◌, ◌||◌, [], Option, Some, None, is_some, option_and_then, if◌then◌else◌}
use Rattle.std.proofs.lemmas.Bool.{and_parts, false≢true}
use Rattle.std.proofs.lemmas.Option.{none-some, option_and_then_some}
use Rattle.mini_model.specs.declared.operator.BinaryOperator.{BinaryOperator}
use Rattle.mini_model.specs.declared.operator.BinaryOperator.TheVariants.{Inequality, StrictInequality}
use Rattle.mini_model.specs.declared.operator.LogicalOperator.{LogicalOperator}
use Rattle.mini_model.specs.declared.operator.LogicalOperator.TheVariants.{Or, And, Coalesce}
use Rattle.mini_model.specs.declared.place.Position.TheVariants.{Expr}
use Rattle.mini_model.specs.declared.seat.Seat.{Seat}
use Rattle.mini_model.specs.declared.shape.Shape.TheVariants as shape
use Rattle.mini_model.specs.Redex.{Row23, Row40}
use Rattle.mini_model.specs.Terms.{neg, not_of}
use Rattle.mini_model.specs.Tree.{Tree, node, none, ◌▸◌, negation, logical, conditional}
use Rattle.mini_model.specs.Weight.{weight}
use Rattle.mini_node.specs.Children.{part}
use Rattle.mini_node.specs.Equal.{same_tree}
use Rattle.mini_node.specs.Kinds.{binary, same_logical, logical_operator, is_logical, binary_operator, boolean as boolean_value, is_negation, is_conditional, is_identifier}
use Rattle.mini_node.specs.Made.{negation_is, conditional_is, identifier_is, logical_is, and_is, or_is, coalesce_is, binary_is}
use Rattle.mini_node.proofs.Equality.{tree_same}
use Rattle.mini_rows.specs.Choices.{is_same_operator, is_grouped, Row39, Row41Or, Row41And, Row42And, Row42Or}
use Rattle.mini_rows.specs.Negations.{reverse_of, negated_leaf, is_several, whole, is_junction, reaches_in, Row23Whole}
use Rattle.mini_rows.specs.Nesting.{may_join}
use Rattle.mini_rows.specs.Turns.{unequal, equal, Row40Unequal}
use Rattle.mini_log.specs.ChoiceRows.{negated, is_apart, rotated_by, rotated, swapped, turned_equal, swapped_by, swapped_equal, own_consequent, own_alternate, same_alternate, same_consequent}
use Rattle.mini_log.proofs.Tests.{whenever}

-- ---- 23

neither : (a b : Bool) → a || b ≡ false → (a ≡ false) × (b ≡ false)
neither true b e = absurd (false≢true (sym e))
neither false b e = (refl, e)

leaf_alone : (o : Option BinaryOperator) (b : Option Bool) (t w : Tree) → is_some o || is_some b ≡ false → negated_leaf o b t w ≡ w
leaf_alone (Some o) b t w e = absurd (false≢true (sym e))
leaf_alone None (Some b) t w e = absurd (false≢true (sym e))
leaf_alone None None t w e = refl

leaf_of : (t : Tree) → reaches_in t ≡ false → is_some (reverse_of t) || is_some (boolean_value t) ≡ false
leaf_of t e = (neither (is_several t) (is_some (reverse_of t) || is_some (boolean_value t)) (neither (is_junction t) (is_several t || (is_some (reverse_of t) || is_some (boolean_value t))) e).1).1

-- what isn't read inside is negated as a whole
unreached : (s : Seat) (t : Tree) → reaches_in t ≡ false → whole s t ≡ not_of s t
unreached s (node (shape.LogicalExpression And) [] zero (a ▸ b ▸ none)) e = absurd (false≢true (sym e))
unreached s (node (shape.LogicalExpression Or) [] zero (a ▸ b ▸ none)) e = absurd (false≢true (sym e))
unreached s (node shape.SequenceExpression [] zero (node shape.Listed [] zero (a ▸ (b ▸ ts)) ▸ none)) e = absurd (false≢true (sym e))
unreached s t e = leaf_alone (reverse_of t) (boolean_value t) t (not_of s t) (leaf_of t e)

lightest : (b : Bool) (m n w t : Tree) → w ≡ (if b then m else n) → t ≡ m → (w ≡ t → ⊥) → w ≡ n
lightest true m n w t made is other = absurd (other (made ∙ sym is))
lightest false m n w t made is other = made

pub negates : (s : Seat) (t w : Tree) → negated s t ≡ Some w → weight (Expr s) w < weight (Expr s) t → Row23 s t w ⊎ Row23Whole s t w
negates s t w e less =
    let (test, made) = whenever (is_negation t) (whole s (part t 0)) w e in
    by (reaches_in (part t 0)) refl (negation_is t test) made
  where
    heavier : w ≡ t → ⊥
    heavier same = let same_weight = ap (weight (Expr s)) same in omega (arith, less, same_weight)

    by : (b : Bool) → reaches_in (part t 0) ≡ b → t ≡ negation (part t 0) → w ≡ whole s (part t 0) → Row23 s t w ⊎ Row23Whole s t w
    by true inside is made = inr (record { e = part t 0; inside = inside; shape = is; written = made })
    by false inside is made =
        inl
        (record { e = part t 0; shape = is; written = lightest (nat_lt (weight (Expr s) (negation (part t 0))) (weight (Expr s) (neg s (part t 0)))) (negation (part t 0)) (neg s (part t 0)) w t (made ∙ unreached s (part t 0) inside) is heavier })

-- ---- 39

other_operator : (p o : LogicalOperator) → not (same_logical p o) ≡ true → is_same_operator p o ≡ false
other_operator Or Or e = absurd (false≢true e)
other_operator And And e = absurd (false≢true e)
other_operator Coalesce Coalesce e = absurd (false≢true e)
other_operator p o e = refl

ungrouped : (o : LogicalOperator) (t : Tree) → is_apart o t ≡ true → is_grouped o t ≡ false
ungrouped o (node (shape.LogicalExpression p) xs n ts) e = other_operator p o e
ungrouped o (node shape.InnerExpression xs n ts) e = absurd (false≢true e)
ungrouped o (node h xs n ts) e = refl

is_of : (o : LogicalOperator) (t : Tree) → is_logical o t ≡ true → t ≡ logical o (part t 0) (part t 1)
is_of Or t e = or_is t e
is_of And t e = and_is t e
is_of Coalesce t e = coalesce_is t e

pub rotates : (t w : Tree) → rotated t ≡ Some w → Row39 t w
rotates t w e =
    option_and_then_some (rotated_by t) (logical_operator t) w e (λ o is done.
    let (test, made) = whenever (is_logical o (part t 1) && is_apart o (part (part t 1) 0)) (logical o (logical o (part t 0) (part (part t 1) 0)) (part (part t 1) 1)) w done in
    let (joins, apart) = and_parts (is_logical o (part t 1)) (is_apart o (part (part t 1) 0)) test in
    record { operator = o; a = part t 0; b = part (part t 1) 0; last = part (part t 1) 1; others = none; ungrouped = ungrouped o (part (part t 1) 0) apart; shape = logical_is t o is ∙ ap (λ c. logical o (part t 0) c) (is_of o (part t 1) joins); written = made })

-- ---- 40

pub swaps : (t w : Tree) → swapped t ≡ Some w → Row40 t w
swaps t w e =
    let (test, made) = whenever (is_conditional t && is_negation (part t 0)) (conditional (part (part t 0) 0) (part t 2) (part t 1)) w e in
    let (chooses, negated) = and_parts (is_conditional t) (is_negation (part t 0)) test in
    record { a = part (part t 0) 0; b = part t 1; c = part t 2; shape = conditional_is t chooses ∙ ap (λ a. conditional a (part t 1) (part t 2)) (negation_is (part t 0) negated); written = made }

turned_is : (o p : BinaryOperator) → turned_equal o ≡ Some p → (b : Bool) × ((o ≡ unequal b) × (p ≡ equal b))
turned_is Inequality p e = (false, (refl, cc e))
turned_is StrictInequality p e = (true, (refl, cc e))
turned_is o p e = absurd (none-some p e)

pub swaps_equal : (t w : Tree) → swapped_equal t ≡ Some w → Row40Unequal t w
swaps_equal t w e =
    go (binary_operator (part t 0)) refl e
  where
    by : (o : BinaryOperator) → binary_operator (part t 0) ≡ Some o → (p : BinaryOperator) → turned_equal o ≡ Some p → swapped_by t p ≡ Some w → Row40Unequal t w
    by o is p turns done =
        let (chooses, made) = whenever (is_conditional t) (conditional (binary p (part (part t 0) 0) (part (part t 0) 1)) (part t 2) (part t 1)) w done in
        let (strict, (from, to)) = turned_is o p turns in
        record {
          is_strict = strict;
          a = part (part t 0) 0;
          b = part (part t 0) 1;
          c = part t 1;
          d = part t 2;
          shape = conditional_is t chooses ∙ ap (λ a. conditional a (part t 1) (part t 2)) (binary_is (part t 0) o is ∙ ap (λ q. binary q (part (part t 0) 0) (part (part t 0) 1)) from);
          written = made ∙ ap (λ q. conditional (binary q (part (part t 0) 0) (part (part t 0) 1)) (part t 2) (part t 1)) to;
        }

    go : (x : Option BinaryOperator) → binary_operator (part t 0) ≡ x → option_and_then (swapped_by t) (option_and_then turned_equal x) ≡ Some w → Row40Unequal t w
    go (Some o) is e = option_and_then_some (swapped_by t) (turned_equal o) w e (λ p turns done. by o is p turns done)
    go None is e = absurd (none-some w e)

-- ---- 41, 42

pub owns_consequent : (t w : Tree) → own_consequent t ≡ Some w → Row41Or t w
owns_consequent t w e =
    let (test, made) = whenever (is_conditional t && (is_identifier (part t 0) && same_tree (part t 0) (part t 1))) (logical Or (part t 0) (part t 2)) w e in
    let (chooses, r) = and_parts (is_conditional t) (is_identifier (part t 0) && same_tree (part t 0) (part t 1)) test in
    let (named, same) = and_parts (is_identifier (part t 0)) (same_tree (part t 0) (part t 1)) r in
    let (x, is) = identifier_is (part t 0) named in
    record {
      name = x;
      b = part t 2;
      shape = conditional_is t chooses ∙ (ap (λ c. conditional (part t 0) c (part t 2)) (sym (tree_same (part t 0) (part t 1) same)) ∙ ap (λ c. conditional c c (part t 2)) is);
      written = made ∙ ap (λ c. logical Or c (part t 2)) is;
    }

pub owns_alternate : (t w : Tree) → own_alternate t ≡ Some w → Row41And t w
owns_alternate t w e =
    let (test, made) = whenever (is_conditional t && (is_identifier (part t 0) && same_tree (part t 0) (part t 2))) (logical And (part t 0) (part t 1)) w e in
    let (chooses, r) = and_parts (is_conditional t) (is_identifier (part t 0) && same_tree (part t 0) (part t 2)) test in
    let (named, same) = and_parts (is_identifier (part t 0)) (same_tree (part t 0) (part t 2)) r in
    let (x, is) = identifier_is (part t 0) named in
    record {
      name = x;
      b = part t 1;
      shape = conditional_is t chooses ∙ (ap (λ c. conditional (part t 0) (part t 1) c) (sym (tree_same (part t 0) (part t 2) same)) ∙ ap (λ c. conditional c (part t 1) c) is);
      written = made ∙ ap (λ c. logical And c (part t 1)) is;
    }

pub holds_alternate : (t w : Tree) → same_alternate t ≡ Some w → Row42And t w
holds_alternate t w e =
    let (test, made) = whenever (is_conditional t && (is_conditional (part t 1) && (same_tree (part (part t 1) 2) (part t 2) && may_join (part t 0) (part (part t 1) 0)))) (conditional (logical And (part t 0) (part (part t 1) 0)) (part (part t 1) 1) (part t 2)) w e in
    let (chooses, r) = and_parts (is_conditional t) (is_conditional (part t 1) && (same_tree (part (part t 1) 2) (part t 2) && may_join (part t 0) (part (part t 1) 0))) test in
    let (within, r) = and_parts (is_conditional (part t 1)) (same_tree (part (part t 1) 2) (part t 2) && may_join (part t 0) (part (part t 1) 0)) r in
    let (same, shallow) = and_parts (same_tree (part (part t 1) 2) (part t 2)) (may_join (part t 0) (part (part t 1) 0)) r in
    record {
      a = part t 0;
      b = part (part t 1) 0;
      c = part (part t 1) 1;
      d = part t 2;
      shallow = shallow;
      shape = conditional_is t chooses ∙ ap (λ c. conditional (part t 0) c (part t 2)) (conditional_is (part t 1) within ∙ ap (λ d. conditional (part (part t 1) 0) (part (part t 1) 1) d) (tree_same (part (part t 1) 2) (part t 2) same));
      written = made;
    }

pub holds_consequent : (t w : Tree) → same_consequent t ≡ Some w → Row42Or t w
holds_consequent t w e =
    let (test, made) = whenever (is_conditional t && (is_conditional (part t 2) && (same_tree (part t 1) (part (part t 2) 1) && may_join (part t 0) (part (part t 2) 0)))) (conditional (logical Or (part t 0) (part (part t 2) 0)) (part t 1) (part (part t 2) 2)) w e in
    let (chooses, r) = and_parts (is_conditional t) (is_conditional (part t 2) && (same_tree (part t 1) (part (part t 2) 1) && may_join (part t 0) (part (part t 2) 0))) test in
    let (within, r) = and_parts (is_conditional (part t 2)) (same_tree (part t 1) (part (part t 2) 1) && may_join (part t 0) (part (part t 2) 0)) r in
    let (same, shallow) = and_parts (same_tree (part t 1) (part (part t 2) 1)) (may_join (part t 0) (part (part t 2) 0)) r in
    record {
      a = part t 0;
      b = part (part t 2) 0;
      c = part t 1;
      d = part (part t 2) 2;
      shallow = shallow;
      shape = conditional_is t chooses ∙ ap (λ c. conditional (part t 0) (part t 1) c) (conditional_is (part t 2) within ∙ ap (λ c. conditional (part (part t 2) 0) c (part (part t 2) 2)) (sym (tree_same (part t 1) (part (part t 2) 1) same)));
      written = made;
    }

-- Tests whose result is a `!`, by their kind.
use Rattle.std.proofs.Common.{◌≡◌, ℕ, zero, suc, ◌+◌, Bool, true, false, nat_lt, [], refl, sym, ap, ◌∙◌, arith}
use Rattle.std.specs.Prelude.{Option, Some, None, option_map, option_and_then}
use Rattle.std.proofs.lemmas.Bool.{false≢true}
use Rattle.std.proofs.lemmas.Bool.Decides.{nat_tests}
use Rattle.mini_model.specs.declared.operator.UnaryOperator.TheVariants.{LogicalNot}
use Rattle.mini_model.specs.declared.shape.Shape.TheVariants as shape
use Rattle.mini_model.specs.Tree.{Tree, Trees, node, none, ◌▸◌, children, child_or_absent, count}
use Rattle.mini_node.specs.Children.{part, with_child}
use Rattle.mini_node.specs.Kinds.{is_negation, is_sequence, sequence}
use Rattle.mini_node.specs.Made.{negation_is, sequence_is}
use Rattle.mini_rows.specs.Negations.{is_several}
use Rattle.mini_log.specs.Terms.{when}
use Rattle.mini_log.specs.ChoiceRows.{unnegated, unnegated_last}

pub of_negation : (t : Tree) → is_negation t ≡ true → unnegated t ≡ Some (part t 0)
of_negation t e = ap unnegated (negation_is t e)

pub of_several : (t : Tree) → is_several t ≡ true → unnegated t ≡ option_map sequence (unnegated_last (children (part t 0)))
of_several (node shape.SequenceExpression [] zero (node shape.Listed [] zero (a ▸ (b ▸ ts)) ▸ none)) e = by (unnegated_last (b ▸ ts))
  where
    by : (o : Option Trees) → option_map (λ us. sequence (a ▸ us)) o ≡ option_map sequence (option_map (λ us. a ▸ us) o)
    by None = refl
    by (Some us) = refl
of_several t e = absurd (false≢true e)

pub of_other : (t : Tree) → is_negation t ≡ false → is_several t ≡ false → None ≡ unnegated t
of_other (node (shape.UnaryExpression LogicalNot) [] zero (a ▸ none)) e f = absurd (false≢true (sym e))
of_other (node shape.SequenceExpression [] zero (node shape.Listed [] zero (a ▸ (b ▸ ts)) ▸ none)) e f = absurd (false≢true (sym f))
of_other t e f = refl

map_map : {A B C : Type 0} (f : A → B) (g : B → C) (o : Option A) → option_map g (option_map f o) ≡ option_map (λ x. g (f x)) o
map_map f g None = refl
map_map f g (Some x) = refl

pub last_of : (ts : Trees) (i : ℕ) → i + 1 ≡ count ts → unnegated_last ts ≡ option_map (with_child ts i) (unnegated (child_or_absent ts i))
last_of none i e = absurd (omega (arith, e))
last_of (a ▸ none) zero e = by (unnegated a)
  where
    by : (o : Option Tree) → option_map (λ w. w ▸ none) o ≡ option_map (with_child (a ▸ none) 0) o
    by None = refl
    by (Some w) = refl
last_of (a ▸ none) (suc i) e = absurd (omega (arith, e))
last_of (a ▸ (b ▸ ts)) zero e = absurd (omega (arith, e))
last_of (a ▸ (b ▸ ts)) (suc i) e =
    ap (option_map (λ us. a ▸ us)) (last_of (b ▸ ts) i (omega (arith, e))) ∙ map_map (with_child (b ▸ ts) i) (λ us. a ▸ us) (unnegated (child_or_absent (b ▸ ts) i))

several_by_count : (us : Trees) → nat_lt 1 (count us) ≡ is_several (sequence us)
several_by_count none = refl
several_by_count (u ▸ none) = refl
several_by_count (u ▸ (v ▸ us)) = many (count us)
  where
    many : (n : ℕ) → nat_lt 1 (suc (suc n)) ≡ true
    many n = grind (arith, nat_tests)

pub several_by_parts : (t : Tree) → is_sequence t ≡ true → nat_lt 1 (count (children (part t 0))) ≡ is_several t
several_by_parts t e = several_by_count (children (part t 0)) ∙ sym (ap is_several (sequence_is t e))

pub other_than_several : (t : Tree) → is_sequence t ≡ false → is_several t ≡ false
other_than_several (node shape.SequenceExpression [] zero (node shape.Listed [] zero (a ▸ (b ▸ ts)) ▸ none)) e = absurd (false≢true (sym e))
other_than_several t e = refl

pub where_it_fits : (b : Bool) (f : Tree → Tree) (o : Option Tree) → b ≡ true → option_and_then (λ a. when b (f a)) o ≡ option_map f o
where_it_fits b f None e = refl
where_it_fits b f (Some a) e = ap (λ c. when c (f a)) e

pub where_not : (b : Bool) (f : Tree → Tree) (o : Option Tree) → b ≡ false → None ≡ option_and_then (λ a. when b (f a)) o
where_not b f None e = refl
where_not b f (Some a) e = sym (ap (λ c. when c (f a)) e)

-- the parts of a sequence with the last one so, or not
pub last_some : (ts : Trees) (i : ℕ) (x : Option Tree) (v w : Tree) (us vs : Trees) → i + 1 ≡ count ts → x ≡ unnegated (child_or_absent ts i) → x ≡ Some v → us ≡ ts → vs ≡ with_child us i v → w ≡ sequence vs → Some w ≡ option_map sequence (unnegated_last ts)
last_some ts i x v w us vs e d f g h k = ap Some (k ∙ ap sequence (h ∙ ap (λ ws. with_child ws i v) g)) ∙ sym (ap (option_map sequence) (last_of ts i e ∙ ap (option_map (with_child ts i)) (sym d ∙ f)))

pub last_none : (ts : Trees) (i : ℕ) (x : Option Tree) → i + 1 ≡ count ts → x ≡ unnegated (child_or_absent ts i) → x ≡ None → None ≡ option_map sequence (unnegated_last ts)
last_none ts i x e d f = sym (ap (option_map sequence) (last_of ts i e ∙ ap (option_map (with_child ts i)) (sym d ∙ f)))

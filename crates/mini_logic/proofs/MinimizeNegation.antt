-- What is written for a negation that is read inside its operand is what the row says, and where nothing is written the row makes
-- nothing lighter.
use Rattle.std.proofs.Common.{◌≡◌, ◌<◌, ◌^◌, zero, Bool, true, false, [], Option, Some, None, refl, sym, ap, subst, ◌∙◌, arith}
use Rattle.std.specs.Prelude.{◌&&◌, nat_lt, is_some, unwrap_or, if◌then◌else◌}
use Rattle.std.proofs.lemmas.Bool.{and_parts}
use borrow.Author.Tests.{ltb-true, ltb-false}
use Rattle.mini_model.specs.declared.operator.BinaryOperator.{BinaryOperator}
use Rattle.mini_model.specs.declared.operator.LogicalOperator.{LogicalOperator}
use Rattle.mini_model.specs.declared.operator.LogicalOperator.TheVariants.{Or, And}
use Rattle.mini_model.specs.declared.place.Position.TheVariants.{Expr}
use Rattle.mini_model.specs.declared.seat.Seat.{Seat}
use Rattle.mini_model.specs.declared.shape.Shape.TheVariants as shape
use Rattle.mini_model.specs.Tree.{Tree, Trees, node, none, ◌▸◌, negation, logical}
use Rattle.mini_model.specs.Position.{left_operand_seat, right_operand_seat, branch_seat, passed_part_seat}
use Rattle.mini_model.specs.Terms.{not_of}
use Rattle.mini_model.specs.Weight.{weight, capped}
use Rattle.mini_node.specs.Children.{part}
use Rattle.mini_node.specs.Kinds.{is_negation, boolean as boolean_value, sequence}
use Rattle.mini_node.specs.Made.{negation_is}
use Rattle.mini_rows.specs.Negations.{reverse_of, negated_leaf, last_by, whole, lightest, reaches_in, Row23Whole, NegationContracts}
use Rattle.mini_rows.proofs.ListWeights.{parts_total, part_same, sequence_weighs}
use Rattle.mini_tree.specs.Rule.{Applied}
use Rattle.mini_tree.proofs.Reaching.{moves_once}
use Rattle.mini_logic.specs.Negating.{lighter_negation}
use Rattle.mini_logic.specs.MinimizeNegation.{told, last_told, told_lightest, minimizes, written, Gives, Rests, WrittenIsRow, UnwrittenRests}
use Rattle.mini_logic.proofs.MinimizeExpressionInBooleanContext.{tested_same}
use Rattle.mini_logic.proofs.Weights.{weight_logical}

some_is : {A : Type 0} (x y : A) → Some x ≡ Some y → x ≡ y
some_is x y e = cc e

-- ---- what is written is the row's, as far as 64 bits go

abbrev pub Small : Seat → Tree → Type 0
Small s t = weight (Expr s) t < 18446744073709551615

abbrev pub Agrees : Seat → Tree → Tree → Type 0
Agrees s x y = (Small s x → x ≡ y) × (Small s y → x ≡ y)

junction_agrees : (o : LogicalOperator) (s : Seat) (a b c d : Tree) → Agrees (left_operand_seat o s) a c → Agrees (right_operand_seat o s) b d → Agrees s (logical o a b) (logical o c d)
junction_agrees o s a b c d l r = (
  λ h. let sum = weight_logical o s a b in ap (λ x. logical o x b) (l.0 (omega (arith, h, sum))) ∙ ap (logical o c) (r.0 (omega (arith, h, sum))),
  λ h. let sum = weight_logical o s c d in ap (λ x. logical o x b) (l.1 (omega (arith, h, sum))) ∙ ap (logical o c) (r.1 (omega (arith, h, sum))),
)

leaf_agrees : (s : Seat) (t : Tree) (o : Option BinaryOperator) (b : Option Bool) → Agrees s (negated_leaf o b t (lighter_negation s t)) (negated_leaf o b t (not_of s t))
leaf_agrees s t (Some o) b = ((λ h. refl), (λ h. refl))
leaf_agrees s t None (Some b) = ((λ h. refl), (λ h. refl))
leaf_agrees s t None None = tested_same s true t

-- lists of parts that are equal if either one is light
abbrev Listed : Trees → Trees → Type 0
Listed us vs = (parts_total us < 18446744073709551615 → us ≡ vs) × (parts_total vs < 18446744073709551615 → us ≡ vs)

one_agrees : (s : Seat) (x y : Tree) → Agrees (branch_seat s) x y → Listed (x ▸ none) (y ▸ none)
one_agrees s x y l =
    let first : weight (Expr (branch_seat s)) x ≡ weight (Expr passed_part_seat) x = part_same s true x in
    let second : weight (Expr (branch_seat s)) y ≡ weight (Expr passed_part_seat) y = part_same s true y in
    ((λ h. ap (λ z. z ▸ none) (l.0 (omega (arith, h, first)))), (λ h. ap (λ z. z ▸ none) (l.1 (omega (arith, h, second)))))

more_agree : (t : Tree) (us vs : Trees) → Listed us vs → Listed (t ▸ us) (t ▸ vs)
more_agree t us vs l = ((λ h. ap (λ xs. t ▸ xs) (l.0 (omega (arith, h)))), (λ h. ap (λ xs. t ▸ xs) (l.1 (omega (arith, h)))))

sequence_agrees : (s : Seat) (t : Tree) (us vs : Trees) → Listed us vs → Agrees s (sequence (t ▸ us)) (sequence (t ▸ vs))
sequence_agrees s t us vs l = (
  λ h. let sum = sequence_weighs s t us in ap (λ xs. sequence (t ▸ xs)) (l.0 (omega (arith, h, sum))),
  λ h. let sum = sequence_weighs s t vs in ap (λ xs. sequence (t ▸ xs)) (l.1 (omega (arith, h, sum))),
)

mutual
  pub agrees : (t : Tree) (s : Seat) → Agrees s (told s t) (whole s t)
  agrees (node (shape.LogicalExpression And) [] zero (a ▸ b ▸ none)) s =
      junction_agrees Or s (told (left_operand_seat Or s) a) (told (right_operand_seat Or s) b) (whole (left_operand_seat Or s) a) (whole (right_operand_seat Or s) b) (agrees a (left_operand_seat Or s)) (agrees b (right_operand_seat Or s))
  agrees (node (shape.LogicalExpression Or) [] zero (a ▸ b ▸ none)) s =
      junction_agrees And s (told (left_operand_seat And s) a) (told (right_operand_seat And s) b) (whole (left_operand_seat And s) a) (whole (right_operand_seat And s) b) (agrees a (left_operand_seat And s)) (agrees b (right_operand_seat And s))
  agrees (node shape.SequenceExpression [] zero (node shape.Listed [] zero (a ▸ (b ▸ ts)) ▸ none)) s =
      sequence_agrees s a (last_told (branch_seat s) (b ▸ ts)) (last_by not_of (branch_seat s) (b ▸ ts)) (parts_agree (b ▸ ts) s)
  agrees t s = leaf_agrees s t (reverse_of t) (boolean_value t)

  parts_agree : (us : Trees) (s : Seat) → Listed (last_told (branch_seat s) us) (last_by not_of (branch_seat s) us)
  parts_agree none s = ((λ h. refl), (λ h. refl))
  parts_agree (t ▸ none) s = one_agrees s (told (branch_seat s) t) (whole (branch_seat s) t) (agrees t (branch_seat s))
  parts_agree (t ▸ (u ▸ us)) s = more_agree t (last_told (branch_seat s) (u ▸ us)) (last_by not_of (branch_seat s) (u ▸ us)) (parts_agree (u ▸ us) s)

-- and so is the lightest
module _ (s : Seat) (t : Tree) where
  abbrev lighter_told : Tree
  lighter_told = lighter_negation s t

  abbrev lighter_row : Tree
  lighter_row = not_of s t

  abbrev whole_told : Tree
  whole_told = told s t

  abbrev whole_row : Tree
  whole_row = whole s t

  from_each : Agrees s lighter_told lighter_row → Agrees s whole_told whole_row → (b c : Bool) → nat_lt (capped (weight (Expr s) lighter_told)) (capped (weight (Expr s) whole_told)) ≡ b → nat_lt (weight (Expr s) lighter_row) (weight (Expr s) whole_row) ≡ c → Agrees s (if b then lighter_told else whole_told) (if c then lighter_row else whole_row)
  from_each k l true true e f = k
  from_each k l false false e f = l
  from_each k l true false e f =
      let over = ltb-true _ _ e in
      let under = ltb-false _ _ f in
      let first : lighter_told ≡ lighter_row = k.0 (omega (arith, over)) in
      let small = ap (weight (Expr s)) first in
      let second : whole_told ≡ whole_row = l.1 (omega (arith, over, under, small)) in
      let other = ap (weight (Expr s)) second in
      ((λ h. absurd (omega (arith, over, under, small, other))), (λ h. absurd (omega (arith, over, under, small, other))))
  from_each k l false true e f =
      let over = ltb-false _ _ e in
      let under = ltb-true _ _ f in (
        (λ h. let second = ap (weight (Expr s)) (l.0 h) in let first = ap (weight (Expr s)) (k.1 (omega (arith, h, second, under))) in absurd (omega (arith, h, over, under, first, second))),
        (λ h. let first = ap (weight (Expr s)) (k.1 h) in let second = ap (weight (Expr s)) (l.0 (omega (arith, h, over, first))) in absurd (omega (arith, h, over, under, first, second))),
      )

pub lightest_agrees : (s : Seat) (t : Tree) → Agrees s (told_lightest s t) (lightest s t)
lightest_agrees s t = from_each s t (tested_same s true t) (agrees t s) (nat_lt (capped (weight (Expr s) (lighter_negation s t))) (capped (weight (Expr s) (told s t)))) (nat_lt (weight (Expr s) (not_of s t)) (weight (Expr s) (whole s t))) refl refl

-- ---- the row

falls : Seat → Tree → Bool
falls s t = nat_lt (capped (weight (Expr s) (told s (part t 0)))) (capped (weight (Expr s) t))

follows : (s : Seat) (t : Tree) → minimizes s t ≡ true → NegationContracts (Expr s) t (told s (part t 0))
follows s t e =
    let (is, h) = and_parts (is_negation t) _ e in
    let (inside, less) = and_parts (reaches_in (part t 0)) _ h in
    let falls = ltb-true _ _ less in
    record {
      row = record { e = part t 0; inside = inside; shape = negation_is t is; written = (agrees (part t 0) s).0 (omega (arith, falls)) };
      lighter = omega (arith, falls);
    }

pub written_is_row : WrittenIsRow
written_is_row s n w e = go (minimizes s n) refl e
  where
    go : (b : Bool) → minimizes s n ≡ b → (if b then Some (told s (part n 0)) else None) ≡ Some w → NegationContracts (Expr s) n w
    go true h e = subst (NegationContracts (Expr s) n) (some_is (told s (part n 0)) w e) (follows s n h)
    go false h e = absurd (cc e)

both_true : (b c : Bool) → b ≡ true → (b && c) ≡ c
both_true true c e = refl
both_true false c e = absurd (cc e)

stays : (s : Seat) (t : Tree) → written s t ≡ None → minimizes s t ≡ false
stays s t e = go (minimizes s t) e
  where
    go : (b : Bool) → (if b then Some (told s (part t 0)) else None) ≡ None → b ≡ false
    go true e = absurd (cc e)
    go false e = refl

heavy : (s : Seat) (e : Tree) → reaches_in e ≡ true → minimizes s (negation e) ≡ false → nat_lt (capped (weight (Expr s) (told s e))) (capped (weight (Expr s) (negation e))) ≡ false
heavy s e h f = sym (both_true (reaches_in e) (nat_lt (capped (weight (Expr s) (told s e))) (capped (weight (Expr s) (negation e)))) h) ∙ f

missed : (s : Seat) (n w : Tree) → Row23Whole s n w → written s n ≡ None → weight (Expr s) n < 2 ^ 64 → weight (Expr s) w < weight (Expr s) n → ⊥
missed s n w r e small less =
    let from = ap (weight (Expr s)) r.shape in
    let made = ap (weight (Expr s)) r.written in
    let same = ap (weight (Expr s)) ((agrees r.e s).1 (omega (arith, small, less, made))) in
    let over = ltb-false _ _ (heavy s r.e r.inside (sym (ap (minimizes s) r.shape) ∙ stays s n e)) in
    omega (arith, small, less, from, made, same, over)

pub unwritten_rests : UnwrittenRests
unwritten_rests s n e small w c = missed s n w c.row e small c.lighter

pub applied : (s : Seat) (t u : Tree) (b : Bool) → u ≡ unwrap_or (written s t) t → b ≡ is_some (written s t) → Applied Gives Rests (Expr s) t u b
applied s t u b e f = subst (λ v. Applied Gives Rests (Expr s) t v b) (sym e) (subst (Applied Gives Rests (Expr s) t (unwrap_or (written s t) t)) (sym f) (go (written s t) refl))
  where
    go : (o : Option Tree) → written s t ≡ o → Applied Gives Rests (Expr s) t (unwrap_or o t) (is_some o)
    go None h = (refl, unwritten_rests s t h)
    go (Some w) h = moves_once Gives (Expr s) t w (written_is_row s t w h)

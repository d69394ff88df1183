-- The whole negation of an expression means what `!` over it does.
use Rattle.std.proofs.Common.{◌≡◌, ℕ, zero, suc, Bool, true, false, List, [], Option, Some, None, refl, sym, ap, ◌∙◌, subst, true≢false}
use Rattle.std.specs.Prelude.{not, ◌&&◌, codes, nat_lt, if◌then◌else◌}
use Rattle.std.proofs.lemmas.Bool.{and_parts, eq-eqb}
use Rattle.mini_model.specs.declared.operator.BinaryOperator.{BinaryOperator}
use Rattle.mini_model.specs.declared.operator.BinaryOperator.TheVariants.{Equality, Inequality, LessThan, GreaterThan}
use Rattle.mini_model.specs.declared.operator.LogicalOperator.{LogicalOperator}
use Rattle.mini_model.specs.declared.operator.LogicalOperator.TheVariants.{Or, And}
use Rattle.mini_model.specs.declared.operator.UnaryOperator.{UnaryOperator}
use Rattle.mini_model.specs.declared.operator.UnaryOperator.TheVariants.{LogicalNot, Typeof}
use Rattle.mini_model.specs.declared.place.Position.{Position}
use Rattle.mini_model.specs.declared.place.Position.TheVariants.{Expr, SequenceList}
use Rattle.mini_model.specs.declared.seat.Seat.{Seat}
use Rattle.mini_model.specs.declared.shape.Shape.TheVariants as shape
use Rattle.mini_model.specs.Paths.{append}
use Rattle.mini_model.specs.Tree.{Tree, Trees, node, none, ◌▸◌, count, listed, unary, negation, logical}
use Rattle.mini_model.specs.Position.{not_operand_seat, left_operand_seat, right_operand_seat, branch_seat, passed_part_seat, part_seat, child_position}
use Rattle.mini_model.specs.Rewriting.{StepIn, here, inside, first, later}
use Rattle.mini_model.specs.Terms.{neg, not_of}
use Rattle.mini_model.specs.Weight.{weight}
use Rattle.mini_laws.specs.State.{State, either, Environment}
use Rattle.mini_laws.specs.Demand.{Demand, As, Callee, OfType, Deleted, AnEntry, Request}
use Rattle.mini_laws.specs.Naming.{summary}
use Rattle.mini_laws.specs.Step.{step, means, meaning}
use Rattle.mini_laws.specs.Rows.{SameAt}
use Rattle.mini_laws.specs.Rewritten.{MeansSame}
use Rattle.mini_laws.proofs.Rewritten.{any_step_same}
use Rattle.mini_laws.proofs.Rows.{equal_same, negation_equal, not_equal}
use Rattle.mini_kept.proofs.SameScopes.{same_texts}
use Rattle.mini_node.specs.Children.{part}
use Rattle.mini_node.specs.Kinds.{binary_operator, unary_operator, boolean as boolean_value, string}
use Rattle.mini_node.specs.Made.{binary_is, unary_is, boolean_is, string_is}
use Rattle.mini_node.specs.Walks.{append_one}
use Rattle.mini_rows.specs.Lists.{sequence}
use Rattle.mini_rows.specs.Sequences.{Negates}
use Rattle.mini_rows.specs.Spellings.{binary, boolean, text}
use Rattle.mini_rows.specs.Negations.{beside_u, reversed, is_typeof, is_letter, reversed_in, reverse_of, negated_leaf, whole_by, last_by, whole, lightest, NegationRow, NegationContracts, WholeSame}
use Rattle.mini_rows.proofs.BooleanMeaning.{then_same, neg_read, not_read}
use Rattle.mini_rows.proofs.SequenceMeaning.{lifted_same}
use Rattle.mini_rows.proofs.SpellAlike.{SameTree}
use Rattle.mini_rows.proofs.SpellMeaning.{tree_same, ordered_same}

-- ---- one expression for another, whose parent reads them alike

abbrev pub Stands : Position → Tree → Tree → Type 0
Stands p n w = SameAt p n w × (summary n ≡ summary w)

pub stands_means : MeansSame Stands
stands_means = record { same = λ p n w r. r.0; reads = λ p n w r. r.1 }

stands_then : (s : Seat) (n m w : Tree) → Stands (Expr s) n m → Stands (Expr s) m w → Stands (Expr s) n w
stands_then s n m w a b = (then_same (Expr s) n m w a.0 b.0, a.1 ∙ b.1)

of_tree : (s : Seat) (n w : Tree) → SameTree n w → Stands (Expr s) n w
of_tree s n w h = (tree_same s n w h, h.read)

turned_round : (n w : Tree) → SameTree n w → SameTree w n
turned_round n w h = record { by = λ e q r z. sym (h.by e q r z); read = sym h.read }

pub left_stands : (o : LogicalOperator) (s : Seat) (a c b : Tree) → Stands (Expr (left_operand_seat o s)) a c → Stands (Expr s) (logical o a b) (logical o c b)
left_stands o s a c b r = (
  any_step_same Stands stands_means (Expr s) (logical o a b) (logical o c b)
      (inside (Expr s) (shape.LogicalExpression o) [] 0 (a ▸ b ▸ none) (c ▸ b ▸ none) (first (child_position (shape.LogicalExpression o) (Expr s) 2) a c (b ▸ none) (here (Expr (left_operand_seat o s)) a c r))),
  refl,
)

right_stands : (o : LogicalOperator) (s : Seat) (a b c : Tree) → Stands (Expr (right_operand_seat o s)) b c → Stands (Expr s) (logical o a b) (logical o a c)
right_stands o s a b c r = (
  any_step_same Stands stands_means (Expr s) (logical o a b) (logical o a c)
      (inside (Expr s) (shape.LogicalExpression o) [] 0 (a ▸ b ▸ none) (a ▸ c ▸ none) (later (child_position (shape.LogicalExpression o) (Expr s) 2) a (b ▸ none) (c ▸ none) (first (λ i. child_position (shape.LogicalExpression o) (Expr s) 2 (suc i)) b c none (here (Expr (right_operand_seat o s)) b c r)))),
  refl,
)

both_stand : (o : LogicalOperator) (s : Seat) (a b c d : Tree) → Stands (Expr (left_operand_seat o s)) a c → Stands (Expr (right_operand_seat o s)) b d → Stands (Expr s) (logical o a b) (logical o c d)
both_stand o s a b c d l r = stands_then s (logical o a b) (logical o c b) (logical o c d) (left_stands o s a c b l) (right_stands o s c b d r)

operand_stands : (s : Seat) (a c : Tree) → Stands (Expr not_operand_seat) a c → Stands (Expr s) (negation a) (negation c)
operand_stands s a c r = (
  any_step_same Stands stands_means (Expr s) (negation a) (negation c)
      (inside (Expr s) (shape.UnaryExpression LogicalNot) [] 0 (a ▸ none) (c ▸ none) (first (child_position (shape.UnaryExpression LogicalNot) (Expr s) 1) a c none (here (Expr not_operand_seat) a c r))),
  r.1,
)

-- ---- the negation that is known already, and back

pub neg_stands : (s : Seat) (a : Tree) → Stands (Expr s) (negation a) (neg s a)
neg_stands s a = (equal_same (Expr s) (negation a) (neg s a) (negation_equal s a), neg_read s a)

back_stands : (s : Seat) (a : Tree) → Stands (Expr s) (neg s a) (negation a)
back_stands s a = (equal_same (Expr s) (neg s a) (negation a) (record { by = λ e q f r z. sym ((negation_equal s a).by e q f r z) }), sym (neg_read s a))

not_stands : (s : Seat) (a : Tree) → Stands (Expr s) (negation a) (not_of s a)
not_stands s a = (equal_same (Expr s) (negation a) (not_of s a) (not_equal s a), not_read s a)

-- ---- beside `u`: the comparison is that of an equality with `undefined`, which is negated

abbrev asked : Tree → Tree
asked a = unary Typeof a

abbrev long : Tree
long = text (codes "undefined")

less_stands : (s : Seat) (a : Tree) → Stands (Expr s) (negation (beside_u LessThan a)) (beside_u GreaterThan a)
less_stands s a =
    let other = binary Inequality (asked a) long in
    stands_then s (negation (beside_u LessThan a)) (negation other) (beside_u GreaterThan a)
    (operand_stands s (beside_u LessThan a) other (of_tree not_operand_seat (beside_u LessThan a) other (turned_round other (beside_u LessThan a) (ordered_same Inequality refl a))))
    (stands_then s (negation other) (binary Equality (asked a) long) (beside_u GreaterThan a) (neg_stands s other) (of_tree s (binary Equality (asked a) long) (beside_u GreaterThan a) (ordered_same Equality refl a)))

greater_stands : (s : Seat) (a : Tree) → Stands (Expr s) (negation (beside_u GreaterThan a)) (beside_u LessThan a)
greater_stands s a =
    let other = binary Equality (asked a) long in
    stands_then s (negation (beside_u GreaterThan a)) (negation other) (beside_u LessThan a)
    (operand_stands s (beside_u GreaterThan a) other (of_tree not_operand_seat (beside_u GreaterThan a) other (turned_round other (beside_u GreaterThan a) (ordered_same Equality refl a))))
    (stands_then s (negation other) (binary Inequality (asked a) long) (beside_u LessThan a) (neg_stands s other) (of_tree s (binary Inequality (asked a) long) (beside_u LessThan a) (ordered_same Inequality refl a)))

-- what such a comparison is
pub record Reverses (o : BinaryOperator) (t : Tree) : Type 0 where
  pub from : BinaryOperator
  pub operand : Tree
  pub turns : reversed from ≡ Some o
  pub shape : t ≡ beside_u from operand

typeof_is : (t : Tree) → is_typeof (unary_operator t) ≡ true → t ≡ asked (part t 0)
typeof_is t e = go (unary_operator t) refl e
  where
    go : (o : Option UnaryOperator) → unary_operator t ≡ o → is_typeof o ≡ true → t ≡ asked (part t 0)
    go (Some Typeof) h v = unary_is t Typeof h
    go o h v = absurd (cc v)

letter_is : (t : Tree) → is_letter (string t) ≡ true → t ≡ text (codes "u")
letter_is t e = go (string t) refl e
  where
    go : (o : Option (List ℕ)) → string t ≡ o → is_letter o ≡ true → t ≡ text (codes "u")
    go (Some s) h v = string_is t s h ∙ ap text (same_texts s (codes "u") v)
    go None h v = absurd (cc v)

pub reverses : (t : Tree) (o : BinaryOperator) → reverse_of t ≡ Some o → Reverses o t
reverses t o e = go (binary_operator t) refl (is_typeof (unary_operator (part t 0)) && is_letter (string (part t 1))) refl e
  where
    go : (x : Option BinaryOperator) → binary_operator t ≡ x → (b : Bool) → (is_typeof (unary_operator (part t 0)) && is_letter (string (part t 1))) ≡ b → reversed_in x b ≡ Some o → Reverses o t
    go (Some p) h true k v =
        let (typed, letter) = and_parts (is_typeof (unary_operator (part t 0))) (is_letter (string (part t 1))) k in
        record { from = p; operand = part (part t 0) 0; turns = v; shape = binary_is t p h ∙ ap (λ a. binary p a (part t 1)) (typeof_is (part t 0) typed) ∙ ap (binary p (asked (part (part t 0) 0))) (letter_is (part t 1) letter) }
    go (Some p) h false k v = absurd (cc v)
    go None h b k v = absurd (cc v)

reversed_stands : (s : Seat) (p o : BinaryOperator) (a : Tree) → reversed p ≡ Some o → Stands (Expr s) (negation (beside_u p a)) (beside_u o a)
reversed_stands s LessThan o a e = let same : GreaterThan ≡ o = cc e in subst (λ x. Stands (Expr s) (negation (beside_u LessThan a)) (beside_u x a)) same (less_stands s a)
reversed_stands s GreaterThan o a e = let same : LessThan ≡ o = cc e in subst (λ x. Stands (Expr s) (negation (beside_u GreaterThan a)) (beside_u x a)) same (greater_stands s a)
reversed_stands s p o a e = absurd (cc e)

-- ---- a literal

literal_does : (b : Bool) (e : Environment) (q : Demand) (r : Request q) (z : State) → means e (negation (boolean b)) q r z ≡ means e (boolean (not b)) q r z
unfolding means meaning step either
literal_does true e (As w) r z = refl
literal_does true e Callee r z = refl
literal_does true e OfType r z = refl
literal_does true e Deleted r z = refl
literal_does true e AnEntry r z = refl
literal_does true e q r z = refl
literal_does false e (As w) r z = refl
literal_does false e Callee r z = refl
literal_does false e OfType r z = refl
literal_does false e Deleted r z = refl
literal_does false e AnEntry r z = refl
literal_does false e q r z = refl

literal_read : (b : Bool) → summary (negation (boolean b)) ≡ summary (boolean (not b))
literal_read true = refl
literal_read false = refl

literal_stands : (s : Seat) (b : Bool) → Stands (Expr s) (negation (boolean b)) (boolean (not b))
literal_stands s b = of_tree s (negation (boolean b)) (boolean (not b)) (record { by = literal_does b; read = literal_read b })

-- ---- a sequence: its last part

-- another one in the place of the last
last_step : (π : ℕ → Position) (ps : Trees) (q r : Tree) → Stands (π (count ps)) q r → StepIn Stands π (append ps (q ▸ none)) (append ps (r ▸ none))
last_step π none q r h = first π q r none (here (π zero) q r h)
last_step π (p ▸ ps) q r h = later π p (append ps (q ▸ none)) (append ps (r ▸ none)) (last_step (λ i. π (suc i)) ps q r h)

one_more : (ps : Trees) (q : Tree) → suc (count ps) ≡ count (append ps (q ▸ none))
one_more none q = refl
one_more (p ▸ ps) q = ap suc (one_more ps q)

-- which stands as a branch does
last_seat : (s : Seat) (ps : Trees) (q : Tree) → Expr (branch_seat s) ≡ Expr (part_seat s (count (append ps (q ▸ none))) (count ps))
last_seat s ps q = sym (ap (λ b. Expr (if b then branch_seat s else passed_part_seat)) (eq-eqb (suc (count ps)) (count (append ps (q ▸ none))) (one_more ps q)))

module _ (s : Seat) (p : Tree) (ps : Trees) (q r : Tree) where
  abbrev old_parts : Trees
  old_parts = p ▸ append ps (q ▸ none)

  abbrev new_parts : Trees
  new_parts = p ▸ append ps (r ▸ none)

  last_part_stands : Stands (Expr (branch_seat s)) q r → Stands (Expr s) (sequence old_parts) (sequence new_parts)
  last_part_stands h = (
    any_step_same Stands stands_means (Expr s) (sequence old_parts) (sequence new_parts)
        (inside (Expr s) shape.SequenceExpression [] 0 (listed old_parts ▸ none) (listed new_parts ▸ none)
        (first (child_position shape.SequenceExpression (Expr s) 1) (listed old_parts) (listed new_parts) none
        (inside (SequenceList s) shape.Listed [] 0 old_parts new_parts
        (last_step (child_position shape.Listed (SequenceList s) (count old_parts)) (p ▸ ps) q r (subst (λ x. Stands x q r) (last_seat s (p ▸ ps) q) h))))),
    refl,
  )

-- ---- all

leaf_stands : (s : Seat) (t other : Tree) → Stands (Expr s) (negation t) other → Stands (Expr s) (negation t) (negated_leaf (reverse_of t) (boolean_value t) t other)
leaf_stands s t other stands = go (reverse_of t) refl (boolean_value t) refl
  where
    go : (o : Option BinaryOperator) → reverse_of t ≡ o → (b : Option Bool) → boolean_value t ≡ b → Stands (Expr s) (negation t) (negated_leaf o b t other)
    go (Some o) h b k =
        let r = reverses t o h in
        subst (λ x. Stands (Expr s) (negation x) (binary o (part x 0) (part x 1))) (sym r.shape) (reversed_stands s r.from o r.operand r.turns)
    go None h (Some b) k = subst (λ x. Stands (Expr s) (negation x) (boolean (not b))) (sym (boolean_is t b k)) (literal_stands s b)
    go None h None k = stands

turned_stand : (o p : LogicalOperator) (s : Seat) (a b x y : Tree) → Stands (Expr s) (negation (logical o a b)) (logical p (neg (left_operand_seat p s) a) (neg (right_operand_seat p s) b)) → Stands (Expr (left_operand_seat p s)) (negation a) x → Stands (Expr (right_operand_seat p s)) (negation b) y → Stands (Expr s) (negation (logical o a b)) (logical p x y)
turned_stand o p s a b x y h l r =
    let left = left_operand_seat p s in
    let right = right_operand_seat p s in
    stands_then s (negation (logical o a b)) (logical p (neg left a) (neg right b)) (logical p x y) h
    (both_stand p s (neg left a) (neg right b) x y (stands_then left (neg left a) (negation a) x (back_stands left a) l) (stands_then right (neg right b) (negation b) y (back_stands right b) r))

abbrev pub is_some_part : Trees → Bool
is_some_part none = false
is_some_part (t ▸ ts) = true

-- whatever is written for other parts, if it stands for them
module _ (f : Seat → Tree → Tree) (h : (s : Seat) (t : Tree) → Stands (Expr s) (negation t) (f s t)) where
  mutual
    pub negated_stands : (t : Tree) (s : Seat) → Stands (Expr s) (negation t) (whole_by f s t)
    negated_stands (node (shape.LogicalExpression And) [] zero (a ▸ b ▸ none)) s =
        turned_stand And Or s a b (whole_by f (left_operand_seat Or s) a) (whole_by f (right_operand_seat Or s) b) (neg_stands s (logical And a b)) (negated_stands a (left_operand_seat Or s)) (negated_stands b (right_operand_seat Or s))
    negated_stands (node (shape.LogicalExpression Or) [] zero (a ▸ b ▸ none)) s =
        turned_stand Or And s a b (whole_by f (left_operand_seat And s) a) (whole_by f (right_operand_seat And s) b) (neg_stands s (logical Or a b)) (negated_stands a (left_operand_seat And s)) (negated_stands b (right_operand_seat And s))
    negated_stands (node shape.SequenceExpression [] zero (node shape.Listed [] zero (a ▸ (b ▸ ts)) ▸ none)) s = parts_stand (b ▸ ts) refl a none s
    negated_stands t s = leaf_stands s t (f s t) (h s t)

    -- the `!` over a sequence goes to its last part, and there it is what is written
    parts_stand : (us : Trees) → is_some_part us ≡ true → (p : Tree) (ps : Trees) (s : Seat) → Stands (Expr s) (negation (sequence (p ▸ append ps us))) (sequence (p ▸ append ps (last_by f (branch_seat s) us)))
    parts_stand none e p ps s = absurd (true≢false (sym e))
    parts_stand (q ▸ none) e p ps s =
        let first_made = sequence (p ▸ append ps (negation q ▸ none)) in
        stands_then s (negation (sequence (p ▸ append ps (q ▸ none)))) first_made (sequence (p ▸ append ps (whole_by f (branch_seat s) q ▸ none)))
        (of_tree s (negation (sequence (p ▸ append ps (q ▸ none)))) first_made (lifted_same Negates [] p ps q))
        (last_part_stands s p ps (negation q) (whole_by f (branch_seat s) q) (negated_stands q (branch_seat s)))
    parts_stand (q ▸ (r ▸ us)) e p ps s =
        subst (λ x. Stands (Expr s) (negation (sequence (p ▸ x))) (sequence (p ▸ append ps (q ▸ last_by f (branch_seat s) (r ▸ us))))) (append_one ps q (r ▸ us))
        (subst (λ x. Stands (Expr s) (negation (sequence (p ▸ append (append ps (q ▸ none)) (r ▸ us)))) (sequence (p ▸ x))) (append_one ps q (last_by f (branch_seat s) (r ▸ us))) (parts_stand (r ▸ us) refl p (append ps (q ▸ none)) s))

pub whole_stands : (t : Tree) (s : Seat) → Stands (Expr s) (negation t) (whole s t)
whole_stands = negated_stands not_of not_stands

pub lightest_stands : (s : Seat) (a : Tree) → Stands (Expr s) (negation a) (lightest s a)
lightest_stands s a = go (nat_lt (weight (Expr s) (not_of s a)) (weight (Expr s) (whole s a)))
  where
    go : (b : Bool) → Stands (Expr s) (negation a) (if b then not_of s a else whole s a)
    go true = not_stands s a
    go false = whole_stands a s

pub whole_same : WholeSame
whole_same s a = (whole_stands a s).0

row_stands : (p : Position) (n w : Tree) → NegationRow p n w → Stands p n w
row_stands (Expr s) n w r = subst (λ x. Stands (Expr s) x w) (sym r.shape) (subst (Stands (Expr s) (negation r.e)) (sym r.written) (whole_stands r.e s))
row_stands p n w r = absurd r

pub negations_same : MeansSame NegationContracts
negations_same = record { same = λ p n w c. (row_stands p n w c.row).0; reads = λ p n w c. (row_stands p n w c.row).1 }

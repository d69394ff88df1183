-- What is decided on before a sequence that ends in its assignment is what a row says (38), and where nothing is no row of it reads the
-- expression.
use Rattle.std.proofs.Common.{◌≡◌, ◌<◌, ◌+◌, ℕ, zero, suc, arith, Bool, true, false, Option, Some, None, refl, sym, ap, ◌∙◌}
use Rattle.std.specs.Prelude.{◌&&◌, ◌||◌, not, is_some, nat_lt, if◌then◌else◌}
use Rattle.std.proofs.lemmas.Bool.{and_parts}
use Rattle.mini_model.specs.declared.name.Name.{Name}
use Rattle.mini_model.specs.declared.operator.AssignmentOperator.TheVariants.{Assign}
use Rattle.mini_model.specs.declared.operator.LogicalOperator.{LogicalOperator}
use Rattle.mini_model.specs.declared.seat.Seat.{Seat}
use Rattle.mini_model.specs.declared.shape.Shape.TheVariants as shape
use Rattle.mini_model.specs.Tree.{Tree, Trees, none, ◌▸◌, count, child_or_absent, identifier, logical}
use Rattle.mini_model.specs.Paths.{append}
use Rattle.mini_model.specs.Weight.{is_parenthesized}
use Rattle.mini_node.specs.Children.{part, with_child}
use Rattle.mini_node.specs.Kinds.{assignment, is_sequence, logical_operator, sequence}
use Rattle.mini_node.specs.Made.{logical_is, sequence_is}
use Rattle.mini_node.proofs.Equality.{tree_itself}
use Rattle.mini_rows.specs.Choices.{assign, deciding, keeps_parentheses, Row38Last}
use Rattle.mini_choices.specs.Assigning.{assigns_name, is_same_name}
use Rattle.mini_choices.specs.MinimizeLogicalSequence as last
use Rattle.mini_choices.proofs.Names.{assigns_is, one_name}
use Rattle.mini_choices.proofs.Trials.{some_is, both_true}

-- ---- in code

pub last_is : (ts : Trees) → 0 < count ts → last.last_place ts + 1 ≡ count ts
last_is none e = omega (arith, e)
last_is (t ▸ none) e = refl
last_is (t ▸ (u ▸ ts)) e = let rest = last_is (u ▸ ts) (omega arith) in omega (arith, rest)

pub put_twice : (ts : Trees) (i : ℕ) (x y : Tree) → with_child (with_child ts i x) i y ≡ with_child ts i y
put_twice none i x y = refl
put_twice (t ▸ ts) zero x y = refl
put_twice (t ▸ ts) (suc i) x y = ap (λ us. t ▸ us) (put_twice ts i x y)

-- ---- the parts but the last, and the last

abbrev pub but_last : Tree → Trees → Trees
but_last t none = none
but_last t (u ▸ us) = t ▸ but_last u us

pub ends : (t : Tree) (ts : Trees) → t ▸ ts ≡ append (but_last t ts) (child_or_absent (t ▸ ts) (last.last_place (t ▸ ts)) ▸ none)
ends t none = refl
ends t (u ▸ us) = ap (λ vs. t ▸ vs) (ends u us)

pub ends_with : (t : Tree) (ts : Trees) (x : Tree) → with_child (t ▸ ts) (last.last_place (t ▸ ts)) x ≡ append (but_last t ts) (x ▸ none)
ends_with t none x = refl
ends_with t (u ▸ us) x = ap (λ vs. t ▸ vs) (ends_with u us x)

pub last_there : (p : Tree) (ps : Trees) (l : Tree) → child_or_absent (p ▸ append ps (l ▸ none)) (last.last_place (p ▸ append ps (l ▸ none))) ≡ l
last_there p none l = refl
last_there p (q ▸ qs) l = last_there q qs l

pub several_there : (p : Tree) (ps : Trees) (l : Tree) → last.are_several (p ▸ append ps (l ▸ none)) ≡ true
several_there p none l = refl
several_there p (q ▸ qs) l = refl

-- ---- the row

pub last_row : (s : Seat) (n w : Tree) → last.written s n ≡ Some w → Row38Last s n w
last_row s n w e = go (logical_operator n) refl e
  where
    ts : Trees
    ts = last.parts_of n

    made : (o : LogicalOperator) → logical_operator n ≡ Some o → keeps_parentheses o s ≡ true → is_sequence (part n 1) ≡ true → (us : Trees) → ts ≡ us → last.are_several us ≡ true → assigns_name (child_or_absent us (last.last_place us)) ≡ true → is_same_name (part n 0) (part (child_or_absent us (last.last_place us)) 0) ≡ true → w ≡ last.decided o n → Row38Last s n w
    made o h k q (a ▸ (b ▸ us)) f m g x i =
        let l : Tree = child_or_absent (b ▸ us) (last.last_place (b ▸ us)) in
        let one = one_name (part n 0) (part l 0) x in
        let value : Tree = part l 1 in
        record {
          operator = o;
          name = one.name;
          first = a;
          others = but_last b us;
          b = value;
          seated = k;
          shape =
              logical_is n o h
              ∙ (λ j. logical o (one.first j) (sequence_is (part n 1) q j))
              ∙ ap (λ vs. logical o (identifier one.name) (sequence vs)) (f ∙ ap (λ vs. a ▸ vs) (ends b us ∙ ap (λ t. append (but_last b us) (t ▸ none)) (assigns_is l g ∙ ap (λ t. assignment Assign t value) one.second)));
          written =
              i
              ∙ ap (λ vs. assignment (deciding o) (part n 0) (sequence (last.with_value vs))) f
              ∙ (λ j. assignment (deciding o) (one.first j) (sequence (a ▸ ends_with b us value j)));
        }
    made o h k q none f m g x i = absurd (cc m)
    made o h k q (a ▸ none) f m g x i = absurd (cc m)

    by : (o : LogicalOperator) → logical_operator n ≡ Some o → (b : Bool) → keeps_parentheses o s && (is_sequence (part n 1) && last.assigns_last (part n 0) ts) ≡ b → last.written_by (if b then Some o else None) n ≡ Some w → Row38Last s n w
    by o h true k e =
        let (keeps, rest) = and_parts (keeps_parentheses o s) (is_sequence (part n 1) && last.assigns_last (part n 0) ts) k in
        let (several, ends) = and_parts (is_sequence (part n 1)) (last.assigns_last (part n 0) ts) rest in
        let (many, assigning) = and_parts (last.are_several ts) _ ends in
        let (assigned, same) = and_parts (assigns_name (child_or_absent ts (last.last_place ts))) _ assigning in
        made o h keeps several ts refl many assigned same (sym (some_is (last.decided o n) w e))
    by o h false k e = absurd (cc e)

    go : (o : Option LogicalOperator) → logical_operator n ≡ o → last.written_by (last.deciding_in o s n) n ≡ Some w → Row38Last s n w
    go (Some o) h e = by o h (keeps_parentheses o s && (is_sequence (part n 1) && last.assigns_last (part n 0) ts)) refl e
    go None h e = absurd (cc e)

pub last_passes : (s : Seat) (o : LogicalOperator) (x : Name) (p : Tree) (ps : Trees) (b : Tree) → keeps_parentheses o s ≡ true → is_some (last.written s (logical o (identifier x) (sequence (p ▸ append ps (assign x b ▸ none))))) ≡ true
last_passes s o x p ps b k =
    let us : Trees = p ▸ append ps (assign x b ▸ none) in
    let n : Tree = logical o (identifier x) (sequence us) in
    there (keeps_parentheses o s && (true && last.assigns_last (identifier x) us)) n
    (both_true (keeps_parentheses o s) _ k
    (both_true (last.are_several us) _ (several_there p ps (assign x b))
    (ap (λ t. assigns_name t && is_same_name (identifier x) (part t 0)) (last_there p ps (assign x b)) ∙ tree_itself (identifier x))))
  where
    there : (b : Bool) (n : Tree) → b ≡ true → is_some (last.written_by (if b then Some o else None) n) ≡ true
    there true n e = refl
    there false n e = absurd (cc e)

-- ---- parentheses

pub kept_by : (o : LogicalOperator) (s : Seat) (b : Bool) → b ≡ is_parenthesized (shape.LogicalExpression o) s → (not (nat_lt 1 s.level) || b) ≡ keeps_parentheses o s
kept_by o s b e = low o (nat_lt 1 s.level) s.access s.new_callee b ∙ (λ i. not (nat_lt 1 s.level || (false || ((s.access && false) || (s.new_callee && false)))) || e i)
  where
    low : (o : LogicalOperator) (l a c b : Bool) → (not l || b) ≡ (not (l || (false || ((a && false) || (c && false)))) || b)
    low o true a c b = refl
    low o false true true b = refl
    low o false true false b = refl
    low o false false true b = refl
    low o false false false b = refl

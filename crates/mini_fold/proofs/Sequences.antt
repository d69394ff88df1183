-- What is lifted out or spread is what a row says, and where nothing is no row reads the expression.
use Rattle.std.proofs.Common.{◌≡◌, ℕ, zero, suc, ◌<◌, ◌≤◌, Bool, true, false, Option, Some, None, refl, sym, ap, ◌∙◌, subst, inl, inr, true≢false, arith}
use Rattle.std.specs.Prelude.{◌+◌, ◌==◌, List, [], ◌∷◌, not, ◌&&◌, ◌||◌, nat_eq, nat_le, is_some, if◌then◌else◌}
use Rattle.std.proofs.lemmas.Bool.{and_parts, false≢true, le-leb, leb-true, eqb-true}
use Rattle.mini_model.specs.declared.operator.BinaryOperator.{BinaryOperator}
use Rattle.mini_model.specs.declared.operator.LogicalOperator.{LogicalOperator}
use Rattle.mini_model.specs.declared.operator.UnaryOperator.{UnaryOperator}
use Rattle.mini_model.specs.declared.operator.UnaryOperator.TheVariants.{UnaryPlus, UnaryNegation, BitwiseNot}
use Rattle.mini_model.specs.declared.place.Position.{Position}
use Rattle.mini_model.specs.declared.place.Position.TheVariants.{Expr}
use Rattle.mini_model.specs.declared.seat.Seat.{Seat}
use Rattle.mini_model.specs.declared.name.Name.{Name}
use Rattle.mini_model.specs.declared.shape.Shape.{Shape}
use Rattle.mini_model.specs.declared.shape.Shape.TheVariants as shape
use Rattle.mini_model.specs.Rewriting.{Reaches, done, more, here}
use Rattle.mini_model.specs.Tree.{Tree, Trees, node, none, ◌▸◌, count, node_count, shape_of, children, child_or_absent, first_or_absent}
use Rattle.mini_model.specs.Paths.{append}
use Rattle.mini_model.specs.Position.{passed_part_seat}
use Rattle.mini_model.specs.Weight.{Outline, outlines, place_weight, is_parenthesized, is_awkward}
use Rattle.mini_node.specs.Children.{part, with_child, like, first_children, rest_children, with_inserted, without}
use Rattle.mini_node.specs.Kinds.{logical_operator, binary_operator, unary_operator, is_conditional, is_negation, is_sequence_shape, is_sequence, sequence}
use Rattle.mini_node.specs.Lends.{with_children}
use Rattle.mini_node.specs.Made.{unary_is, binary_is, logical_is, conditional_is, negation_is, sequence_is}
use Rattle.mini_node.specs.Walks.{next_child, no_rest}
use Rattle.mini_terms.specs.Folds.{is_effect_free}
use Rattle.mini_terms.specs.Parts.{is_number, leaves_nothing, weighs}
use Rattle.mini_rows.specs.Sequences.{Plus, Minus, Complement, Operation, Decides, Chooses, Negates, Operates, Converts, Yields, over, along, innermost, operation_shape, operand_seat, takes_last, takes_along, is_inner_shape, is_bare_at, lifts_out, takes_alone, stays_alone, Row20, Row21, Row21Idle, Row21Alone, SequenceRow}
use Rattle.mini_rows.proofs.SequenceWeights.{lighter}
use Rattle.mini_tree.specs.Rule.{Applied, Moves}
use Rattle.mini_tree.proofs.Reaching.{moves_once}
use Rattle.mini_held.specs.Parts.{idle_before_last, left_after}
use Rattle.mini_held.proofs.PartsGone.{count_with, found as found_idle, parts_go}
use Rattle.mini_fold.specs.FoldSequences.{has_several, is_several, last_of, but_last, converts, is_minus, is_operation, takes_last_of, is_yield, gives_parts, reaches_sequence, first_place, ends_bare, leaves_bare, has_room, is_lifted, parts_before, left_of, lifted, any_of, is_nested, spread_at, is_idle, is_left, loses_part, Gives, Rests}

pub several_by_count : (ts : Trees) → nat_le 2 (count ts) ≡ has_several ts
several_by_count none = refl
several_by_count (t ▸ none) = refl
several_by_count (t ▸ (u ▸ ts)) = le-leb 2 (count (t ▸ (u ▸ ts))) (omega arith)

both_true : (b c : Bool) → b ≡ true → c ≡ true → b && c ≡ true
both_true true c e f = f
both_true false c e f = e

-- ---- the last of some

pub last_append : (ts : Trees) (t : Tree) → last_of (append ts (t ▸ none)) ≡ t
last_append none t = refl
last_append (u ▸ none) t = refl
last_append (u ▸ (v ▸ vs)) t = last_append (v ▸ vs) t

others_append : (ts : Trees) (t : Tree) → but_last (append ts (t ▸ none)) ≡ ts
others_append none t = refl
others_append (u ▸ none) t = refl
others_append (u ▸ (v ▸ vs)) t = ap (λ us. u ▸ us) (others_append (v ▸ vs) t)

pub last_is : (old new : Trees) (t : Tree) → old ≡ append new (t ▸ none) → t ≡ last_of old
last_is old new t e = sym (ap last_of e ∙ last_append new t)

pub others_are : (old new : Trees) (t : Tree) → old ≡ append new (t ▸ none) → new ≡ but_last old
others_are old new t e = sym (ap but_last e ∙ others_append new t)

ended : (t : Tree) (ts : Trees) → t ▸ ts ≡ append (but_last (t ▸ ts)) (last_of (t ▸ ts) ▸ none)
ended t none = refl
ended t (u ▸ us) = ap (λ vs. t ▸ vs) (ended u us)

pub some_of_several : (ts : Trees) → has_several ts ≡ true → 0 < count ts
some_of_several none e = absurd (true≢false (sym e))
some_of_several (t ▸ ts) e = omega arith

pub ends_in : (ts : Trees) (i : ℕ) → i + 1 ≡ count ts → is_number (child_or_absent ts i) ≡ is_number (last_of ts)
ends_in none i e = absurd (omega (arith, e))
ends_in (t ▸ none) zero e = refl
ends_in (t ▸ none) (suc i) e = absurd (omega (arith, e))
ends_in (t ▸ (u ▸ us)) zero e = absurd (omega (arith, e))
ends_in (t ▸ (u ▸ us)) (suc i) e = ends_in (u ▸ us) i (omega (arith, e))

-- ---- 20

-- the node over another first operand
abbrev with_first : Tree → Tree → Tree
with_first t q = like t (with_inserted (without (children t) 0) 0 q)

-- a node over its first operand, and over any other; it takes what is no number behind a `-`
record Operated (t : Tree) : Type 0 where
  operation : Operation
  is : t ≡ over operation (part t 0)
  other : (q : Tree) → with_first t q ≡ over operation q
  takes : (q : Tree) → not (is_minus (unary_operator t)) || not (is_number q) ≡ true → takes_last operation q ≡ true

converted : (t : Tree) (o : Option UnaryOperator) → unary_operator t ≡ o → converts o ≡ true → Operated t
converted t (Some UnaryPlus) h e = record { operation = Converts Plus; is = unary_is t UnaryPlus h; other = λ q. ap (λ u. with_first u q) (unary_is t UnaryPlus h); takes = λ q k. refl }
converted t (Some UnaryNegation) h e = record { operation = Converts Minus; is = unary_is t UnaryNegation h; other = λ q. ap (λ u. with_first u q) (unary_is t UnaryNegation h); takes = λ q k. sym (ap (λ o. not (is_minus o) || not (is_number q)) h) ∙ k }
converted t (Some BitwiseNot) h e = record { operation = Converts Complement; is = unary_is t BitwiseNot h; other = λ q. ap (λ u. with_first u q) (unary_is t BitwiseNot h); takes = λ q k. refl }
converted t o h e = absurd (true≢false (sym e))

yield_operated : (t : Tree) → is_yield t ≡ true → Operated t
yield_operated (node (shape.YieldExpression d) [] zero (a ▸ none)) e = record { operation = Yields d; is = refl; other = λ q. refl; takes = λ q k. refl }
yield_operated t e = absurd (false≢true e)

last_operated : (t : Tree) → converts (unary_operator t) || is_yield t ≡ true → Operated t
last_operated t e = go (converts (unary_operator t)) refl e
  where
    go : (b : Bool) → converts (unary_operator t) ≡ b → b || is_yield t ≡ true → Operated t
    go true h e = converted t (unary_operator t) refl h
    go false h e = yield_operated t e

operated : (t : Tree) → is_operation t ≡ true → Operated t
operated t e = go (logical_operator t) (is_conditional t) (is_negation t) (binary_operator t) refl refl refl refl e
  where
    go : (o : Option LogicalOperator) (c d : Bool) (b : Option BinaryOperator) → logical_operator t ≡ o → is_conditional t ≡ c → is_negation t ≡ d → binary_operator t ≡ b → is_some o || (c || (d || (is_some b || (converts (unary_operator t) || is_yield t)))) ≡ true → Operated t
    go (Some o) c d b h k l m e = record { operation = Decides o (part t 1); is = logical_is t o h; other = λ q. ap (λ u. with_first u q) (logical_is t o h); takes = λ q k. refl }
    go None true d b h k l m e = record { operation = Chooses (part t 1) (part t 2); is = conditional_is t k; other = λ q. ap (λ u. with_first u q) (conditional_is t k); takes = λ q k. refl }
    go None false true b h k l m e = record { operation = Negates; is = negation_is t l; other = λ q. ap (λ u. with_first u q) (negation_is t l); takes = λ q k. refl }
    go None false false (Some o) h k l m e = record { operation = Operates o (part t 1); is = binary_is t o m; other = λ q. ap (λ u. with_first u q) (binary_is t o m); takes = λ q k. refl }
    go None false false None h k l m e = last_operated t e

-- it is no sequence
over_no_sequence : (o : Operation) (q : Tree) → is_sequence_shape (shape_of (over o q)) ≡ false
over_no_sequence (Decides o b) q = refl
over_no_sequence (Chooses b c) q = refl
over_no_sequence Negates q = refl
over_no_sequence (Operates o b) q = refl
over_no_sequence (Converts c) q = refl
over_no_sequence (Yields d) q = refl

over_shape : (o : Operation) (q : Tree) → shape_of (over o q) ≡ operation_shape o
over_shape (Decides o b) q = refl
over_shape (Chooses b c) q = refl
over_shape Negates q = refl
over_shape (Operates o b) q = refl
over_shape (Converts c) q = refl
over_shape (Yields d) q = refl

-- its first operand stands in the seat of that
over_place : (o : Operation) (q : Tree) → first_place (over o q) ≡ Expr (operand_seat o passed_part_seat)
over_place (Decides o b) q = refl
over_place (Chooses b c) q = refl
over_place Negates q = refl
over_place (Operates o b) q = refl
over_place (Converts Plus) q = refl
over_place (Converts Minus) q = refl
over_place (Converts Complement) q = refl
over_place (Yields d) q = refl

-- a node from which a sequence is reached is built so, and the parts of the sequence are before the last, and that in its place
record Reached (t : Tree) : Type 0 where
  operation : Operation
  operations : List Operation
  first : Tree
  others : Trees
  last : Tree
  takes : takes_along operation operations last ≡ true
  is : t ≡ over operation (along operations (sequence (first ▸ append others (last ▸ none))))
  shape_is : shape_of t ≡ operation_shape operation
  bare : leaves_bare t ≡ is_bare_at (Expr (operand_seat (innermost operation operations) passed_part_seat)) last
  before : parts_before t ≡ first ▸ others
  left : left_of t ≡ over operation (along operations last)

put_first : (h : Shape) (xs : List Name) (n : ℕ) (ts : Trees) (a q : Tree) → with_first (node h xs n (a ▸ ts)) q ≡ node h xs n (q ▸ ts)
put_first h xs n none a q = refl
put_first h xs n (t ▸ ts) a q = refl

module _ (h : Shape) (xs : List Name) (n : ℕ) (a : Tree) (ts : Trees) (o : Operated (node h xs n (a ▸ ts))) where
  abbrev whole : Tree
  whole = node h xs n (a ▸ ts)

  plain : is_sequence_shape h ≡ false
  plain = ap (λ t. is_sequence_shape (shape_of t)) o.is ∙ over_no_sequence o.operation a

  before_is : parts_before whole ≡ parts_before a
  before_is = ap (λ b. if b then but_last (children a) else parts_before a) plain

  left_is : left_of whole ≡ over o.operation (left_of a)
  left_is = ap (λ b. if b then last_of (children a) else node h xs n (left_of a ▸ ts)) plain ∙ sym (put_first h xs n ts a (left_of a)) ∙ o.other (left_of a)

  place_is : first_place whole ≡ Expr (operand_seat o.operation passed_part_seat)
  place_is = ap first_place o.is ∙ over_place o.operation a

  shaped : h ≡ operation_shape o.operation
  shaped = ap shape_of o.is ∙ over_shape o.operation a

  -- the operand is the sequence
  at_once : is_sequence a ≡ true → (us : Trees) → children (part a 0) ≡ us → has_several us ≡ true → takes_last_of whole us ≡ true → Reached whole
  at_once is none f e k = absurd (true≢false (sym e))
  at_once is (c ▸ none) f e k = absurd (true≢false (sym e))
  at_once is (c ▸ (d ▸ us)) f e k =
      let same : a ≡ sequence (c ▸ (d ▸ us)) = sequence_is a is ∙ ap sequence f in record {
        operation = o.operation;
        operations = [];
        first = c;
        others = but_last (d ▸ us);
        last = last_of (d ▸ us);
        takes = o.takes (last_of (d ▸ us)) k;
        is = o.is ∙ ap (over o.operation) (same ∙ ap (λ vs. sequence (c ▸ vs)) (ended d us));
        shape_is = shaped;
        bare = ap (λ t. if is_sequence_shape (shape_of t) then ends_bare (first_place whole) (children (part t 0)) else leaves_bare t) same ∙ ap (λ p. is_bare_at p (last_of (d ▸ us))) place_is;
        before = before_is ∙ ap parts_before same;
        left = left_is ∙ ap (λ t. over o.operation (left_of t)) same;
      }

  -- or it is reached from the operand
  further : Reached a → Reached whole
  further r = record {
    operation = o.operation;
    operations = r.operation ∷ r.operations;
    first = r.first;
    others = r.others;
    last = r.last;
    takes = r.takes;
    is = o.is ∙ ap (over o.operation) r.is;
    shape_is = shaped;
    bare = ap (λ b. if b then ends_bare (first_place whole) (children (part a 0)) else leaves_bare a) (ap is_sequence_shape r.shape_is ∙ sym (ap is_sequence_shape (over_shape r.operation a)) ∙ over_no_sequence r.operation a) ∙ r.bare;
    before = before_is ∙ r.before;
    left = left_is ∙ ap (over o.operation) r.left;
  }

or_else : (b c : Bool) → b || c ≡ true → b ≡ false → c ≡ true
or_else true c e f = absurd (true≢false f)
or_else false c e f = e

-- at once, or from the operand
by_operand : (h : Shape) (xs : List Name) (n : ℕ) (a : Tree) (ts : Trees) → Operated (node h xs n (a ▸ ts)) → (reaches_sequence a ≡ true → Reached a) → (b : Bool) → gives_parts (node h xs n (a ▸ ts)) a ≡ b → b || reaches_sequence a ≡ true → Reached (node h xs n (a ▸ ts))
by_operand h xs n a ts o below false f k = further h xs n a ts o (below k)
by_operand h xs n a ts o below true f k =
    let (is, parts) = and_parts (is_sequence a) (has_several (children (part a 0)) && takes_last_of (node h xs n (a ▸ ts)) (children (part a 0))) f in
    let (several, takes) = and_parts (has_several (children (part a 0))) (takes_last_of (node h xs n (a ▸ ts)) (children (part a 0))) parts in
    at_once h xs n a ts o is (children (part a 0)) refl several takes

reached : (t : Tree) → reaches_sequence t ≡ true → Reached t
reached (node h xs n none) e = absurd (true≢false (sym e))
reached (node h xs n (a ▸ ts)) e =
    let (operates, rest) = and_parts (is_operation (node h xs n (a ▸ ts))) (gives_parts (node h xs n (a ▸ ts)) a || reaches_sequence a) e in
    by_operand h xs n a ts (operated (node h xs n (a ▸ ts)) operates) (λ k. reached a k) (gives_parts (node h xs n (a ▸ ts)) a) refl rest

-- parentheses are 4, and the rest of what a place adds is 1 at most
four_marks : (s : Seat) (r : Operation) (os : List Outline) → nat_le 4 (place_weight (Expr s) (operation_shape r) os) ≡ is_parenthesized (operation_shape r) s
four_marks s r os = go (is_parenthesized (operation_shape r) s) (is_awkward s (operation_shape r) os)
  where
    go : (b c : Bool) → nat_le 4 ((if b then 4 else 0) + (if c then 1 else 0)) ≡ b
    go true true = refl
    go true false = refl
    go false true = refl
    go false false = refl

room_is : (s : Seat) (t : Tree) (r : Reached t) → has_room s t ≡ (nat_eq s.level 0 || (is_parenthesized (operation_shape r.operation) s || is_bare_at (Expr (operand_seat (innermost r.operation r.operations) passed_part_seat)) r.last))
room_is s t r =
    ap (λ h. nat_eq s.level 0 || (nat_le 4 (place_weight (Expr s) h (outlines (children t))) || leaves_bare t)) r.shape_is
    ∙ ap (λ b. nat_eq s.level 0 || (b || leaves_bare t)) (four_marks s r.operation (outlines (children t)))
    ∙ ap (λ b. nat_eq s.level 0 || (is_parenthesized (operation_shape r.operation) s || b)) r.bare

lifted_row : (s : Seat) (t : Tree) → is_lifted s t ≡ true → Row20 s t (lifted t)
lifted_row s t e =
    let (seated, rest) = and_parts (not s.lifted) (reaches_sequence t && has_room s t) e in
    let (reaches, room) = and_parts (reaches_sequence t) (has_room s t) rest in
    let r = reached t reaches in record {
      operation = r.operation;
      operations = r.operations;
      first = r.first;
      others = r.others;
      last = r.last;
      seated = both_true (not s.lifted) _ seated (sym (room_is s t r) ∙ room);
      takes = r.takes;
      shape = r.is;
      written = ap (λ ts. sequence (append ts (left_of t ▸ none))) r.before ∙ ap (λ u. sequence (r.first ▸ append r.others (u ▸ none))) r.left;
    }

pub lifted_applied : (s : Seat) (t : Tree) → is_lifted s t ≡ true → Applied Gives Rests (Expr s) t (lifted t) true
lifted_applied s t e = let row = lifted_row s t e in moves_once Gives (Expr s) t (lifted t) (record { row = inl row; lighter = lighter (Expr s) t (lifted t) (inl row) })

-- ---- 21

append_assoc : (a b c : Trees) → append (append a b) c ≡ append a (append b c)
append_assoc none b c = refl
append_assoc (t ▸ a) b c = ap (λ us. t ▸ us) (append_assoc a b c)

split : (ts : Trees) (i : ℕ) → i < count ts → ts ≡ append (first_children i ts) (child_or_absent ts i ▸ without (rest_children i ts) 0)
split none i h = absurd (omega (arith, h))
split (t ▸ ts) zero h = refl
split (t ▸ ts) (suc i) h = ap (λ us. t ▸ us) (split ts i (omega (arith, h)))

spread_row : (t : Tree) (i : ℕ) → is_sequence t ≡ true → i < count (children (part t 0)) → is_several (child_or_absent (children (part t 0)) i) ≡ true → Row21 t (sequence (spread_at i (children (part t 0))))
spread_row t i is h e =
    let ts : Trees = children (part t 0) in
    let inner : Tree = child_or_absent ts i in
    let (kind, several) = and_parts (is_sequence inner) (has_several (children (part inner 0))) e in
    go kind (children (part inner 0)) refl several
  where
    go : is_sequence (child_or_absent (children (part t 0)) i) ≡ true → (us : Trees) → children (part (child_or_absent (children (part t 0)) i) 0) ≡ us → has_several us ≡ true → Row21 t (sequence (spread_at i (children (part t 0))))
    go kind (a ▸ (b ▸ us)) f k =
        let ts : Trees = children (part t 0) in
        let before : Trees = first_children i ts in
        let after : Trees = without (rest_children i ts) 0 in
        let inner : Tree = child_or_absent ts i in
        let there : first_or_absent (rest_children i ts) ≡ inner = ap first_or_absent (next_child ts i h) in record {
          before = before;
          first = a;
          second = b;
          others = us;
          after = after;
          shape = sequence_is t is ∙ ap sequence (split ts i h ∙ ap (λ x. append before (x ▸ after)) (sequence_is inner kind ∙ ap sequence f));
          written = ap (λ x. sequence (append (append before (children (part x 0))) after)) there ∙ ap (λ vs. sequence (append (append before vs) after)) f ∙ ap sequence (append_assoc before (a ▸ (b ▸ us)) after);
        }
    go kind none f k = absurd (true≢false (sym k))
    go kind (a ▸ none) f k = absurd (true≢false (sym k))

pub spread_applied : (s : Seat) (t : Tree) (i : ℕ) → is_sequence t ≡ true → i < count (children (part t 0)) → is_several (child_or_absent (children (part t 0)) i) ≡ true → Applied Gives Rests (Expr s) t (sequence (spread_at i (children (part t 0)))) true
spread_applied s t i is h e = let row = spread_row t i is h e in let w : Tree = sequence (spread_at i (children (part t 0))) in moves_once Gives (Expr s) t w (record { row = inr (inl row); lighter = lighter (Expr s) t w (inr (inl row)) })

-- ---- where no row reads it

several : (p : Tree) (ps : Trees) (l : Tree) → has_several (p ▸ append ps (l ▸ none)) ≡ true
several p none l = refl
several p (c ▸ ps) l = refl

or_true : (b c : Bool) → c ≡ true → b || c ≡ true
or_true true c e = refl
or_true false c e = e

is_one : (r : Operation) (q : Tree) → is_operation (over r q) ≡ true
is_one (Decides o b) q = refl
is_one (Chooses b c) q = refl
is_one Negates q = refl
is_one (Operates o b) q = refl
is_one (Converts Plus) q = refl
is_one (Converts Minus) q = refl
is_one (Converts Complement) q = refl
is_one (Yields d) q = refl

gives : (r : Operation) (p : Tree) (ps : Trees) (l : Tree) → takes_last r l ≡ true → gives_parts (over r (sequence (p ▸ append ps (l ▸ none)))) (sequence (p ▸ append ps (l ▸ none))) ≡ true
gives r p ps l k = both_true (has_several (p ▸ append ps (l ▸ none))) (takes_last_of (over r (sequence (p ▸ append ps (l ▸ none)))) (p ▸ append ps (l ▸ none))) (several p ps l) (taken r k)
  where
    taken : (r : Operation) → takes_last r l ≡ true → takes_last_of (over r (sequence (p ▸ append ps (l ▸ none)))) (p ▸ append ps (l ▸ none)) ≡ true
    taken (Converts Minus) k = ap (λ t. not (is_number t)) (last_append (p ▸ ps) l) ∙ k
    taken (Decides o b) k = refl
    taken (Chooses b c) k = refl
    taken Negates k = refl
    taken (Operates o b) k = refl
    taken (Converts Plus) k = refl
    taken (Converts Complement) k = refl
    taken (Yields d) k = refl

by_first : (r : Operation) (q : Tree) → gives_parts (over r q) q || reaches_sequence q ≡ true → reaches_sequence (over r q) ≡ true
by_first (Decides o b) q e = e
by_first (Chooses b c) q e = e
by_first Negates q e = e
by_first (Operates o b) q e = e
by_first (Converts Plus) q e = e
by_first (Converts Minus) q e = e
by_first (Converts Complement) q e = e
by_first (Yields d) q e = e

reaches : (r : Operation) (rs : List Operation) (p : Tree) (ps : Trees) (l : Tree) → takes_along r rs l ≡ true → reaches_sequence (over r (along rs (sequence (p ▸ append ps (l ▸ none))))) ≡ true
reaches r [] p ps l k = by_first r (sequence (p ▸ append ps (l ▸ none))) (ap (λ b. b || reaches_sequence (sequence (p ▸ append ps (l ▸ none)))) (gives r p ps l k))
reaches r (o ∷ rs) p ps l k =
    let inner = over o (along rs (sequence (p ▸ append ps (l ▸ none)))) in
    by_first r inner (or_true (gives_parts (over r inner) inner) (reaches_sequence inner) (reaches o rs p ps l k))

-- the last part in place of the sequence
bare_over : (r : Operation) (q : Tree) → leaves_bare (over r q) ≡ (if is_sequence_shape (shape_of q) then ends_bare (Expr (operand_seat r passed_part_seat)) (children (part q 0)) else leaves_bare q)
bare_over (Decides o b) q = refl
bare_over (Chooses b c) q = refl
bare_over Negates q = refl
bare_over (Operates o b) q = refl
bare_over (Converts Plus) q = refl
bare_over (Converts Minus) q = refl
bare_over (Converts Complement) q = refl
bare_over (Yields d) q = refl

bare_along : (r : Operation) (rs : List Operation) (p : Tree) (ps : Trees) (l : Tree) → leaves_bare (over r (along rs (sequence (p ▸ append ps (l ▸ none))))) ≡ is_bare_at (Expr (operand_seat (innermost r rs) passed_part_seat)) l
bare_along r [] p ps l = bare_over r (sequence (p ▸ append ps (l ▸ none))) ∙ ap (is_bare_at (Expr (operand_seat r passed_part_seat))) (last_append (p ▸ ps) l)
bare_along r (o ∷ rs) p ps l =
    let inner = over o (along rs (sequence (p ▸ append ps (l ▸ none)))) in
    bare_over r inner
    ∙ ap (λ b. if b then ends_bare (Expr (operand_seat r passed_part_seat)) (children (part inner 0)) else leaves_bare inner) (over_no_sequence o (along rs (sequence (p ▸ append ps (l ▸ none)))))
    ∙ bare_along o rs p ps l

lifts : (s : Seat) (r : Operation) (rs : List Operation) (p : Tree) (ps : Trees) (l : Tree) → lifts_out s r rs l ≡ true → takes_along r rs l ≡ true → is_lifted s (over r (along rs (sequence (p ▸ append ps (l ▸ none))))) ≡ true
lifts s r rs p ps l h k =
    let t = over r (along rs (sequence (p ▸ append ps (l ▸ none)))) in
    let (seated, room) = and_parts (not s.lifted) (nat_eq s.level 0 || (is_parenthesized (operation_shape r) s || is_bare_at (Expr (operand_seat (innermost r rs) passed_part_seat)) l)) h in
    both_true (not s.lifted) (reaches_sequence t && has_room s t) seated
    (both_true (reaches_sequence t) (has_room s t) (reaches r rs p ps l k)
    (ap (λ h. nat_eq s.level 0 || (nat_le 4 (place_weight (Expr s) h (outlines (children t))) || leaves_bare t)) (over_shape r (along rs (sequence (p ▸ append ps (l ▸ none)))))
    ∙ ap (λ b. nat_eq s.level 0 || (b || leaves_bare t)) (four_marks s r (outlines (children t)))
    ∙ ap (λ b. nat_eq s.level 0 || (is_parenthesized (operation_shape r) s || b)) (bare_along r rs p ps l)
    ∙ room))

-- ---- a look along first operands, and what is taken out there

pub no_marks : (p : Position) (t : Tree) → is_inner_shape (shape_of t) ≡ false → is_bare_at p t ≡ (place_weight p (shape_of t) (outlines (children t)) == 0)
no_marks p t e = ap (λ b. not b && nat_eq (place_weight p (shape_of t) (outlines (children t))) 0) e ∙ zero_alike (place_weight p (shape_of t) (outlines (children t)))
  where
    zero_alike : (n : ℕ) → nat_eq n 0 ≡ (n == 0)
    zero_alike n = refl

pub no_last : (p : Position) (ts : Trees) → count ts == 0 ≡ true → ends_bare p ts ≡ false
no_last p none e = refl
no_last p (t ▸ ts) e = let is = eqb-true (suc (count ts)) 0 e in absurd (omega (arith, is))

last_child : (t : Tree) (ts : Trees) (i : ℕ) → i ≡ count ts → child_or_absent (t ▸ ts) i ≡ last_of (t ▸ ts)
last_child t none i e = ap (child_or_absent (t ▸ none)) e
last_child t (u ▸ us) zero e = absurd (omega (arith, e))
last_child t (u ▸ us) (suc i) e = last_child u us i (omega (arith, e))

pub last_bare : (p : Position) (ts : Trees) (i : ℕ) → i + 1 ≡ count ts → is_bare_at p (child_or_absent ts i) ≡ ends_bare p ts
last_bare p none i e = absurd (omega (arith, e))
last_bare p (t ▸ ts) i e = ap (is_bare_at p) (last_child t ts i (omega (arith, e)))

pub some_count : (ts : Trees) → count ts == 0 ≡ false → 0 < count ts
some_count none e = absurd (true≢false e)
some_count (t ▸ ts) e = omega arith

pub no_parts : (p : Position) (t : Tree) → count (children t) == 0 ≡ true → ends_bare p (children (part t 0)) ≡ false
no_parts p (node h xs n none) e = refl
no_parts p (node h xs n (t ▸ ts)) e = let is = eqb-true (suc (count ts)) 0 e in absurd (omega (arith, is))

pub no_bare : (t : Tree) → count (children t) == 0 ≡ true → leaves_bare t ≡ false
no_bare (node h xs n none) e = refl
no_bare (node h xs n (t ▸ ts)) e = let is = eqb-true (suc (count ts)) 0 e in absurd (omega (arith, is))

pub bare_by : (t : Tree) → 0 < count (children t) → leaves_bare t ≡ (if is_sequence_shape (shape_of (part t 0)) then ends_bare (first_place t) (children (part (part t 0) 0)) else leaves_bare (part t 0))
bare_by (node h xs n none) e = absurd (omega (arith, e))
bare_by (node h xs n (t ▸ ts)) e = refl

pub part_fewer : (t : Tree) → 0 < count (children t) → node_count (part t 0) < node_count t
part_fewer (node h xs n none) e = absurd (omega (arith, e))
part_fewer (node h xs n (t ▸ ts)) e = omega arith

pub reaches_by : (t : Tree) → reaches_sequence t ≡ (is_operation t && (gives_parts t (part t 0) || reaches_sequence (part t 0)))
reaches_by (node h xs n none) = sym (go (is_operation (node h xs n none)))
  where
    go : (b : Bool) → b && false ≡ false
    go true = refl
    go false = refl
reaches_by (node h xs n (a ▸ ts)) = refl

pub split_leaf : (t : Tree) → count (children t) == 0 ≡ true → (parts_before t ≡ none) × (left_of t ≡ t)
split_leaf (node h xs n none) e = (refl, refl)
split_leaf (node h xs n (a ▸ ts)) e = let is = eqb-true (suc (count ts)) 0 e in absurd (omega (arith, is))

pub some_children : (t : Tree) → count (children t) == 0 ≡ false → 0 < count (children t)
some_children (node h xs n none) e = absurd (true≢false e)
some_children (node h xs n (a ▸ ts)) e = omega arith

pub split_here : (t : Tree) → 0 < count (children t) → is_sequence_shape (shape_of t) ≡ true → (parts_before t ≡ but_last (children (part t 0))) × (left_of t ≡ last_of (children (part t 0)))
split_here (node h xs n none) k e = absurd (omega (arith, k))
split_here (node h xs n (a ▸ ts)) k e = (ap (λ b. if b then but_last (children a) else parts_before a) e, ap (λ b. if b then last_of (children a) else node h xs n (left_of a ▸ ts)) e)

pub split_below : (t : Tree) → 0 < count (children t) → is_sequence_shape (shape_of t) ≡ false → (parts_before t ≡ parts_before (part t 0)) × (left_of t ≡ with_children t (with_child (children t) 0 (left_of (part t 0))))
split_below (node h xs n none) k e = absurd (omega (arith, k))
split_below (node h xs n (a ▸ ts)) k e = (ap (λ b. if b then but_last (children a) else parts_before a) e, ap (λ b. if b then last_of (children a) else node h xs n (left_of a ▸ ts)) e)

found : (before : Trees) (t : Tree) (after : Trees) → is_several t ≡ true → any_of is_several (append before (t ▸ after)) ≡ true
found none t after e = ap (λ b. b || any_of is_several after) e
found (u ▸ us) t after e = or_true (is_several u) (any_of is_several (append us (t ▸ after))) (found us t after e)

-- ---- 21, of parts that have no effect

idle_row : (before : Trees) (a q : Tree) (qs : Trees) → is_idle a ≡ true → nat_le 2 (count (append before (q ▸ qs))) ≡ true → Row21Idle (sequence (append before (a ▸ (q ▸ qs)))) (sequence (append before (q ▸ qs)))
idle_row before a q qs e several =
    let (free, rest) = and_parts (is_effect_free a) (leaves_nothing a && weighs a) e in
    let (dropped, heavy) = and_parts (leaves_nothing a) (weighs a) rest in record {
      before = before;
      idle = a;
      next = q;
      after = qs;
      effect_free = free;
      dropped = dropped;
      heavy = heavy;
      several = several;
      shape = refl;
      written = refl;
    }

-- a part goes, and others after it
idle_goes : (s : Seat) (before : Trees) (a q : Tree) (qs : Trees) (v : Tree) → is_idle a ≡ true → nat_le 2 (count (append before (q ▸ qs))) ≡ true → Reaches Gives (Expr s) (sequence (append before (q ▸ qs))) v → Moves Gives (Expr s) (sequence (append before (a ▸ (q ▸ qs)))) v
idle_goes s before a q qs v e several others =
    let t : Tree = sequence (append before (a ▸ (q ▸ qs))) in
    let w : Tree = sequence (append before (q ▸ qs)) in
    let row : Row21Idle t w = idle_row before a q qs e several in
    record { next = w; step = here (Expr s) t w (record { row = inr (inr (inl row)); lighter = lighter (Expr s) t w (inr (inr (inl row))) }); others = others }

pub idle_applied : (s : Seat) (t : Tree) → is_sequence t ≡ true → idle_before_last is_idle (children (part t 0)) ≡ true → nat_le 3 (count (children (part t 0))) ≡ true → Moves Gives (Expr s) t (sequence (left_after is_idle 0 (children (part t 0))))
idle_applied s t is e k =
    subst (λ u. Moves Gives (Expr s) u (sequence (left_after is_idle 0 (children (part t 0))))) (sym (sequence_is t is))
    (parts_go is_idle (Reaches Gives (Expr s)) (Moves Gives (Expr s)) (done (Expr s)) (idle_goes s) (λ u v m. more (Expr s) u m.next v m.step m.others) (children (part t 0)) e k)

alone_row : (s : Seat) (t : Tree) → is_sequence t ≡ true → is_left s (children (part t 0)) ≡ true → Row21Alone s t (child_or_absent (children (part t 0)) 1)
alone_row s t is e = go (children (part t 0)) refl e
  where
    go : (ts : Trees) → children (part t 0) ≡ ts → is_left s ts ≡ true → Row21Alone s t (child_or_absent (children (part t 0)) 1)
    go (a ▸ (b ▸ none)) h e =
        let (seated, rest) = and_parts (takes_alone s) (is_idle a && stays_alone s b) e in
        let (idle, stays) = and_parts (is_idle a) (stays_alone s b) rest in
        let (free, others) = and_parts (is_effect_free a) (leaves_nothing a && weighs a) idle in
        let (dropped, heavy) = and_parts (leaves_nothing a) (weighs a) others in
        record { idle = a; last = b; effect_free = free; dropped = dropped; heavy = heavy; seated = seated; stays = stays; shape = sequence_is t is ∙ ap sequence h; written = ap (λ us. child_or_absent us 1) h }
    go none h e = absurd (true≢false (sym e))
    go (a ▸ none) h e = absurd (true≢false (sym e))
    go (a ▸ (b ▸ (c ▸ ts))) h e = let two = eqb-true (count (a ▸ (b ▸ (c ▸ ts)))) 2 (and_parts (nat_eq (count (a ▸ (b ▸ (c ▸ ts)))) 2) (takes_alone s && (is_idle a && stays_alone s b)) e).0 in absurd (omega (arith, two))

pub alone_applied : (s : Seat) (t : Tree) → is_sequence t ≡ true → is_left s (children (part t 0)) ≡ true → Applied Gives Rests (Expr s) t (child_or_absent (children (part t 0)) 1) true
alone_applied s t is e = let row = alone_row s t is e in let w : Tree = child_or_absent (children (part t 0)) 1 in moves_once Gives (Expr s) t w (record { row = inr (inr (inr row)); lighter = lighter (Expr s) t w (inr (inr (inr row))) })

loses_idle : (s : Seat) (before : Trees) (a q : Tree) (qs : Trees) → is_idle a ≡ true → nat_le 2 (count (append before (q ▸ qs))) ≡ true → loses_part s (sequence (append before (a ▸ (q ▸ qs)))) ≡ true
loses_idle s before a q qs e h =
    let ts : Trees = append before (a ▸ (q ▸ qs)) in
    ap (λ b. if b then idle_before_last is_idle ts else is_left s ts) (le-leb 3 (count ts) (omega (arith, count_with before a q qs, leb-true 2 (count (append before (q ▸ qs))) h)))
    ∙ found_idle is_idle before a q qs e

idle_parts : (a : Tree) → is_effect_free a ≡ true → leaves_nothing a ≡ true → weighs a ≡ true → is_idle a ≡ true
idle_parts a e f g = both_true (is_effect_free a) (leaves_nothing a && weighs a) e (both_true (leaves_nothing a) (weighs a) f g)

pub rests : (s : Seat) (t : Tree) → is_lifted s t ≡ false → is_nested t ≡ false → loses_part s t ≡ false → Rests (Expr s) t
rests s t h k l w (inl r) = true≢false (sym (lifts s r.operation r.operations r.first r.others r.last r.seated r.takes) ∙ sym (ap (is_lifted s) r.shape) ∙ h)
rests s t h k l w (inr (inl r)) = true≢false (sym (found r.before (sequence (r.first ▸ (r.second ▸ r.others))) r.after refl) ∙ sym (ap is_nested r.shape) ∙ k)
rests s t h k l w (inr (inr (inl r))) = true≢false (sym (loses_idle s r.before r.idle r.next r.after (idle_parts r.idle r.effect_free r.dropped r.heavy) r.several) ∙ sym (ap (loses_part s) r.shape) ∙ l)
rests s t h k l w (inr (inr (inr r))) = true≢false (sym (both_true (takes_alone s) (is_idle r.idle && stays_alone s r.last) r.seated (both_true (is_idle r.idle) (stays_alone s r.last) (idle_parts r.idle r.effect_free r.dropped r.heavy) r.stays)) ∙ sym (ap (loses_part s) r.shape) ∙ l)

-- what is no sequence loses no part
pub not_losing : (s : Seat) (t : Tree) → is_sequence t ≡ false → loses_part s t ≡ false
not_losing s t e = ap (λ b. b && (if nat_le 3 (count (children (part t 0))) then idle_before_last is_idle (children (part t 0)) else is_left s (children (part t 0)))) e

pub no_idle : (s : Seat) (t : Tree) → is_sequence t ≡ true → nat_le 3 (count (children (part t 0))) ≡ true → idle_before_last is_idle (children (part t 0)) ≡ false → loses_part s t ≡ false
no_idle s t is k e =
    ap (λ b. b && (if nat_le 3 (count (children (part t 0))) then idle_before_last is_idle (children (part t 0)) else is_left s (children (part t 0)))) is
    ∙ ap (λ b. if b then idle_before_last is_idle (children (part t 0)) else is_left s (children (part t 0))) k
    ∙ e

pub not_left : (s : Seat) (t : Tree) → is_sequence t ≡ true → nat_le 3 (count (children (part t 0))) ≡ false → is_left s (children (part t 0)) ≡ false → loses_part s t ≡ false
not_left s t is k e =
    ap (λ b. b && (if nat_le 3 (count (children (part t 0))) then idle_before_last is_idle (children (part t 0)) else is_left s (children (part t 0)))) is
    ∙ ap (λ b. if b then idle_before_last is_idle (children (part t 0)) else is_left s (children (part t 0))) k
    ∙ e

pub not_nested : (t : Tree) → is_sequence t ≡ false → is_nested t ≡ false
not_nested t e = ap (λ b. b && any_of is_several (children (part t 0))) e

pub none_nested : (t : Tree) → is_sequence t ≡ true → false ≡ any_of is_several (children (part t 0)) → is_nested t ≡ false
none_nested t is e = ap (λ b. b && any_of is_several (children (part t 0))) is ∙ sym e

-- ---- a look for one that is a sequence

pub stops : (ts : Trees) (i : ℕ) → i < count ts → is_several (child_or_absent ts i) ≡ true → any_of is_several (rest_children i ts) ≡ any_of is_several ts → true ≡ any_of is_several ts
stops ts i h e inv = sym (ap (λ b. b || any_of is_several (rest_children (suc i) ts)) e) ∙ sym (ap (any_of is_several) (next_child ts i h)) ∙ inv

pub goes_on : (ts : Trees) (i : ℕ) → i < count ts → is_several (child_or_absent ts i) ≡ false → any_of is_several (rest_children i ts) ≡ any_of is_several ts → any_of is_several (rest_children (i + 1) ts) ≡ any_of is_several ts
goes_on ts i h e inv =
    let next : i + 1 ≡ suc i = omega arith in
    ap (λ k. any_of is_several (rest_children k ts)) next ∙ sym (ap (λ b. b || any_of is_several (rest_children (suc i) ts)) e) ∙ sym (ap (any_of is_several) (next_child ts i h)) ∙ inv

pub ends : (ts : Trees) (i : ℕ) → count ts ≤ i → any_of is_several (rest_children i ts) ≡ any_of is_several ts → false ≡ any_of is_several ts
ends ts i h inv = sym (ap (any_of is_several) (no_rest ts i h)) ∙ inv

-- elsewhere there is nothing to do
pub elsewhere : (p : Position) (t w : Tree) → ((s : Seat) → p ≡ Expr s → ⊥) → SequenceRow p t w → ⊥
elsewhere (Expr s) t w h r = h s refl
elsewhere p t w h r = absurd r

-- What is written by De Morgan's laws is what a row says, and where nothing is written no row makes the statement lighter.
use Rattle.std.proofs.Common.{◌≡◌, ℕ, zero, suc, ◌<◌, ◌≤◌, ◌+◌, ◌^◌, Bool, true, false, [], refl, sym, ap, subst, ◌∙◌, true≢false, arith}
use Rattle.std.specs.Prelude.{◌-◌, not, ◌&&◌, ◌||◌, nat_lt, Option, Some, None, is_some, unwrap_or, if◌then◌else◌}
use Rattle.std.proofs.lemmas.Bool.{and_parts, false≢true}
use borrow.Author.Tests.{ltb-true, ltb-false}
use Rattle.mini_model.specs.declared.operator.LogicalOperator.{LogicalOperator}
use Rattle.mini_model.specs.declared.operator.LogicalOperator.TheVariants.{Or, And, Coalesce}
use Rattle.mini_model.specs.declared.place.Position.TheVariants.{Expr, Stmt}
use Rattle.mini_model.specs.declared.seat.Seat.{Seat}
use Rattle.mini_model.specs.declared.seat.StmtSeat.{StmtSeat}
use Rattle.mini_model.specs.declared.shape.Shape.TheVariants as shape
use Rattle.mini_model.specs.Paths.{append}
use Rattle.mini_model.specs.Tree.{Tree, Trees, node, none, ◌▸◌, children, count, child_or_absent, logical}
use Rattle.mini_model.specs.Position.{is_and_or, statement_expression_seat, left_operand_seat, passed_part_seat}
use Rattle.mini_model.specs.Terms.{turned}
use Rattle.mini_model.specs.Weight.{weight, capped}
use Rattle.mini_node.specs.Children.{part, with_child, with_part}
use Rattle.mini_node.specs.Lends.{with_children}
use Rattle.mini_node.specs.Kinds.{logical_operator, is_logical, is_expression_statement, is_sequence, sequence}
use Rattle.mini_node.specs.Made.{logical_is, expression_statement_is, sequence_is}
use Rattle.mini_rows.specs.DeMorgan.{turned_logical, VoidPlace, Alone, Begins, Turns, void_of, ended, Row50, DeMorganContracts}
use Rattle.mini_rows.specs.Lists.{for_loop}
use Rattle.mini_rows.proofs.SequenceWeights.{end_changes, end_within}
use Rattle.mini_tree.specs.Rule.{Applied}
use Rattle.mini_tree.proofs.Reaching.{moves_once}
use Rattle.mini_rows.specs.Negations.{lightest}
use Rattle.mini_logic.specs.MinimizeNegation.{told_lightest}
use Rattle.mini_logic.specs.DeMorganForVoidExpr.{turned_over, turns_by, is_turned, turned_by, turned_part, turns_last, turned_last, turns_void, turned_void, begins_void, turns_first, turns_third, turned_at, written, Gives, Rests, WrittenIsRow, UnwrittenRests}
use Rattle.mini_logic.specs.MinimizeForStatement.{is_for}
use Rattle.mini_logic.proofs.MinimizeNegation.{lightest_agrees}
use Rattle.mini_logic.proofs.Weights.{weight_logical}

abbrev seat_of : LogicalOperator → Seat
seat_of o = left_operand_seat (turned o) statement_expression_seat

abbrev pub made : LogicalOperator → Tree → Tree → Tree
made o a b = logical (turned o) (told_lightest (seat_of o) a) b

some_is : {A : Type 0} (x y : A) → Some x ≡ Some y → x ≡ y
some_is x y e = cc e

-- what is made is what the row says, as far as 64 bits go
module _ (o : LogicalOperator) (a b : Tree) where
  pub made_same : weight (Expr statement_expression_seat) (made o a b) < 18446744073709551615 → made o a b ≡ turned_logical o a b
  made_same h = let whole = weight_logical (turned o) statement_expression_seat (told_lightest (seat_of o) a) b in ap (λ x. logical (turned o) x b) ((lightest_agrees (seat_of o) a).0 (omega (arith, h, whole)))

  pub row_same : weight (Expr statement_expression_seat) (turned_logical o a b) < 18446744073709551615 → made o a b ≡ turned_logical o a b
  row_same h = let whole = weight_logical (turned o) statement_expression_seat (lightest (seat_of o) a) b in ap (λ x. logical (turned o) x b) ((lightest_agrees (seat_of o) a).1 (omega (arith, h, whole)))

pub not_so : (b : Bool) → not b ≡ true → b ≡ false
not_so true e = absurd (cc e)
not_so false e = refl

-- ---- what turns where nobody asks for its value

-- it is a logical expression, and what it is turned into is lighter
record TurnsHere (x : Tree) : Type 0 where
  operator : LogicalOperator
  tells : is_and_or operator ≡ true
  apart : is_logical operator (part x 1) ≡ false
  is : x ≡ logical operator (part x 0) (part x 1)
  turned : turned_part x ≡ turned_logical operator (part x 0) (part x 1)
  falls : weight (Expr statement_expression_seat) (turned_part x) < weight (Expr statement_expression_seat) x

turns_here : (x : Tree) → is_turned x ≡ true → TurnsHere x
turns_here x e = go (logical_operator x) refl e
  where
    go : (p : Option LogicalOperator) → logical_operator x ≡ p → turns_by p x ≡ true → TurnsHere x
    go None k e = absurd (true≢false (sym e))
    go (Some o) k h =
        let (told, less) = and_parts (is_and_or o && not (is_logical o (part x 1))) _ h in
        let (tells, apart) = and_parts (is_and_or o) _ told in
        let falls = ltb-true _ _ less in
        let written : turned_part x ≡ turned_over o x = ap (λ p. turned_by p x) k in
        record {
          operator = o;
          tells = tells;
          apart = not_so (is_logical o (part x 1)) apart;
          is = logical_is x o k;
          turned = written ∙ made_same o (part x 0) (part x 1) (omega (arith, falls));
          falls = omega (arith, falls, ap (weight (Expr statement_expression_seat)) written);
        }

pub asked : (o : LogicalOperator) (b : Tree) → is_and_or o ≡ true → is_logical o b ≡ false → is_and_or o && not (is_logical o b) ≡ true
asked o b h k = ap (λ z. z && not (is_logical o b)) h ∙ ap not k

-- and what is lighter turns
lighter_is_turned : (o : LogicalOperator) (a b : Tree) → is_and_or o ≡ true → is_logical o b ≡ false → weight (Expr statement_expression_seat) (turned_logical o a b) < weight (Expr statement_expression_seat) (logical o a b) → weight (Expr statement_expression_seat) (logical o a b) < 18446744073709551616 → is_turned (logical o a b) ≡ true
lighter_is_turned o a b h k less small =
    ap (λ c. c && nat_lt (capped (weight (Expr statement_expression_seat) (made o a b))) (capped (weight (Expr statement_expression_seat) (logical o a b)))) (asked o b h k)
    ∙ go (nat_lt (capped (weight (Expr statement_expression_seat) (made o a b))) (capped (weight (Expr statement_expression_seat) (logical o a b)))) refl
  where
    go : (c : Bool) → nat_lt (capped (weight (Expr statement_expression_seat) (made o a b))) (capped (weight (Expr statement_expression_seat) (logical o a b))) ≡ c → c ≡ true
    go true f = refl
    go false f =
        let same = ap (weight (Expr statement_expression_seat)) (row_same o a b (omega (arith, less, small))) in
        let heavy = ltb-false _ _ f in
        absurd (omega (arith, less, small, same, heavy))

-- ---- or its last part

-- a part weighs what it weighs as a statement
pub same_in_part : (o : LogicalOperator) (a b : Tree) → weight (Expr passed_part_seat) (logical o a b) ≡ weight (Expr statement_expression_seat) (logical o a b)
same_in_part Or a b = refl
same_in_part And a b = refl
same_in_part Coalesce a b = refl

-- another logical expression in its place
ended_changes : (before : Trees) (o p : LogicalOperator) (a b c d : Tree) → weight (Expr statement_expression_seat) (ended before (logical o a b)) + weight (Expr statement_expression_seat) (logical p c d) ≡ weight (Expr statement_expression_seat) (ended before (logical p c d)) + weight (Expr statement_expression_seat) (logical o a b)
ended_changes none o p a b c d = omega arith
ended_changes (t ▸ ts) o p a b c d =
    let change = end_changes statement_expression_seat (t ▸ ts) (logical o a b) (logical p c d) in
    let one = same_in_part o a b in
    let other = same_in_part p c d in
    omega (arith, change, one, other)

ended_within : (before : Trees) (o : LogicalOperator) (a b : Tree) → weight (Expr statement_expression_seat) (logical o a b) ≤ weight (Expr statement_expression_seat) (ended before (logical o a b))
ended_within none o a b = omega arith
ended_within (t ▸ ts) o a b =
    let within = end_within statement_expression_seat (t ▸ ts) (logical o a b) in
    let same = same_in_part o a b in
    omega (arith, within, same)

-- what stands before the last of some trees
record Ends (ts : Trees) (i : ℕ) (y : Tree) : Type 0 where
  before : Trees
  size : count before ≡ i
  is : ts ≡ append before (child_or_absent ts i ▸ none)
  put : with_child ts i y ≡ append before (y ▸ none)

ends : (ts : Trees) (i : ℕ) (y : Tree) → i + 1 ≡ count ts → Ends ts i y
ends none i y h = absurd (omega (arith, h))
ends (t ▸ none) zero y h = record { before = none; size = refl; is = refl; put = refl }
ends (t ▸ none) (suc i) y h = absurd (omega (arith, h))
ends (t ▸ (u ▸ us)) zero y h = absurd (omega (arith, h))
ends (t ▸ (u ▸ us)) (suc i) y h = let r = ends (u ▸ us) i y (omega (arith, h)) in record { before = t ▸ r.before; size = ap suc r.size; is = ap (λ vs. t ▸ vs) r.is; put = ap (λ vs. t ▸ vs) r.put }

-- it is a logical expression, or ends in one, and what that is turned into is lighter
record TurnsVoid (x : Tree) : Type 0 where
  before : Trees
  operator : LogicalOperator
  a : Tree
  b : Tree
  tells : is_and_or operator ≡ true
  apart : is_logical operator b ≡ false
  is : x ≡ ended before (logical operator a b)
  turned : turned_void x ≡ ended before (turned_logical operator a b)
  falls : weight (Expr statement_expression_seat) (turned_void x) < weight (Expr statement_expression_seat) x

turned_at_end : (x : Tree) (before : Trees) (i : ℕ) → count before ≡ i → 0 < i → (c : Tree) → TurnsHere c → x ≡ sequence (append before (c ▸ none)) → turned_void x ≡ sequence (append before (turned_part c ▸ none)) → TurnsVoid x
turned_at_end x none i size some c t read new_is = absurd (omega (arith, size, some))
turned_at_end x (p ▸ ps) i size some c t read new_is =
    let old = read ∙ ap (ended (p ▸ ps)) t.is in
    let new = new_is ∙ ap (ended (p ▸ ps)) t.turned in
    let change = ended_changes (p ▸ ps) t.operator (turned t.operator) (part c 0) (part c 1) (lightest (seat_of t.operator) (part c 0)) (part c 1) in
    let falls = t.falls in
    record {
      before = p ▸ ps;
      operator = t.operator;
      a = part c 0;
      b = part c 1;
      tells = t.tells;
      apart = t.apart;
      is = old;
      turned = new;
      falls = omega (arith, change, falls, ap (weight (Expr statement_expression_seat)) old, ap (weight (Expr statement_expression_seat)) new, ap (weight (Expr statement_expression_seat)) t.is, ap (weight (Expr statement_expression_seat)) t.turned);
    }

last_turns : (x : Tree) → turns_last x ≡ true → TurnsVoid x
last_turns x e =
    let ts = children (part x 0) in
    let i = count ts - 1 in
    let c = child_or_absent ts i in
    let (listed, rest) = and_parts (is_sequence x) (nat_lt 1 (count ts) && is_turned c) e in
    let (several, turns) = and_parts (nat_lt 1 (count ts)) (is_turned c) rest in
    let more = ltb-true 1 (count ts) several in
    let r = ends ts i (turned_part c) (omega (arith, more)) in
    turned_at_end x r.before i r.size (omega (arith, more)) c (turns_here c turns) (sequence_is x listed ∙ ap sequence r.is) (ap (λ b. if b then turned_last x else turned_part x) e ∙ ap sequence r.put)

alone_turns : (x : Tree) → turns_last x ≡ false → is_turned x ≡ true → TurnsVoid x
alone_turns x f e =
    let t = turns_here x e in
    let written : turned_void x ≡ turned_part x = ap (λ b. if b then turned_last x else turned_part x) f in
    let falls = t.falls in
    record {
      before = none;
      operator = t.operator;
      a = part x 0;
      b = part x 1;
      tells = t.tells;
      apart = t.apart;
      is = t.is;
      turned = written ∙ t.turned;
      falls = omega (arith, falls, ap (weight (Expr statement_expression_seat)) written);
    }

void_turns : (x : Tree) → turns_void x ≡ true → TurnsVoid x
void_turns x e = go (turns_last x) refl e
  where
    go : (b : Bool) → turns_last x ≡ b → b || is_turned x ≡ true → TurnsVoid x
    go true f h = last_turns x f
    go false f h = alone_turns x f h

-- and where one turns, it is seen

at_end : (ts : Trees) (x : Tree) → child_or_absent (append ts (x ▸ none)) (count ts) ≡ x
at_end none x = refl
at_end (t ▸ ts) x = at_end ts x

one_more : (ts : Trees) (x : Tree) → count (append ts (x ▸ none)) ≡ count ts + 1
one_more none x = omega arith
one_more (t ▸ ts) x = let rest = one_more ts x in omega (arith, rest)

is_less : (m n : ℕ) → m < n → nat_lt m n ≡ true
is_less m n h = go (nat_lt m n) refl
  where
    go : (b : Bool) → nat_lt m n ≡ b → b ≡ true
    go true f = refl
    go false f = let heavy = ltb-false m n f in absurd (omega (arith, h, heavy))

pub or_true : (b c : Bool) → c ≡ true → b || c ≡ true
or_true true c e = refl
or_true false c e = e

ended_turns : (before : Trees) (x : Tree) → is_turned x ≡ true → turns_void (ended before x) ≡ true
ended_turns none x e = or_true (turns_last x) (is_turned x) e
ended_turns (p ▸ ps) x e =
    let ts = p ▸ append ps (x ▸ none) in
    let size = one_more ps x in
    let last : count ts - 1 ≡ suc (count ps) = omega (arith, size) in
    let several = is_less 1 (count ts) (omega (arith, size)) in
    let found : turns_last (sequence ts) ≡ true = ap (λ b. b && is_turned (child_or_absent ts (count ts - 1))) several ∙ ap is_turned (ap (child_or_absent ts) last ∙ at_end ps x) ∙ e in
    ap (λ b. b || is_turned (sequence ts)) found

-- ---- where it stands

pub part_put : (t : Tree) (i : ℕ) (x : Tree) → with_children t (with_child (children t) i x) ≡ with_part t i x
part_put (node h xs n ts) i x = refl

for_is : (t : Tree) → is_for t ≡ true → t ≡ for_loop (part t 0) (part t 1) (part t 2) (part t 3)
for_is (node shape.ForStatement [] zero (a ▸ (b ▸ (c ▸ (d ▸ none))))) e = refl
for_is t e = absurd (false≢true e)

-- the statement with a part of it, and with another
record Placed (n : Tree) (i : ℕ) : Type 0 where
  place : VoidPlace
  is : n ≡ void_of place (part n i)
  other : (x : Tree) → with_part n i x ≡ void_of place x

placed_first : (n : Tree) → begins_void n ≡ true → Placed n 0
placed_first n h = go (is_expression_statement n) refl h
  where
    go : (b : Bool) → is_expression_statement n ≡ b → b || is_for n ≡ true → Placed n 0
    go true e h = record { place = Alone; is = expression_statement_is n e; other = λ x. ap (λ t. with_part t 0 x) (expression_statement_is n e) }
    go false e h = record { place = Begins (part n 1) (part n 2) (part n 3); is = for_is n h; other = λ x. ap (λ t. with_part t 0 x) (for_is n h) }

placed_third : (n : Tree) → is_for n ≡ true → Placed n 2
placed_third n h = record { place = Turns (part n 0) (part n 1) (part n 3); is = for_is n h; other = λ x. ap (λ t. with_part t 2 x) (for_is n h) }

-- it weighs what the part weighs more or less
void_weighs : (q : StmtSeat) (v : VoidPlace) (x y : Tree) → weight (Stmt q) (void_of v x) + weight (Expr statement_expression_seat) y ≡ weight (Stmt q) (void_of v y) + weight (Expr statement_expression_seat) x
void_weighs q Alone x y = omega arith
void_weighs q (Begins t u b) x y = omega arith
void_weighs q (Turns i t b) x y = omega arith

turned_row : (q : StmtSeat) (n : Tree) (i : ℕ) → Placed n i → turns_void (part n i) ≡ true → DeMorganContracts (Stmt q) n (turned_at i n)
turned_row q n i p e =
    let t = void_turns (part n i) e in
    let made = p.other (turned_void (part n i)) in
    record {
      row = record {
        place = p.place;
        before = t.before;
        operator = t.operator;
        a = t.a;
        b = t.b;
        tells = t.tells;
        apart = t.apart;
        shape = p.is ∙ ap (void_of p.place) t.is;
        written = made ∙ ap (void_of p.place) t.turned;
      };
      lighter = omega (arith, ap (weight (Stmt q)) p.is, ap (weight (Stmt q)) made, void_weighs q p.place (part n i) (turned_void (part n i)), t.falls);
    }

pub written_is_row : WrittenIsRow
written_is_row q n w e = go (turns_first n) (turns_third n) refl refl e
  where
    go : (b c : Bool) → turns_first n ≡ b → turns_third n ≡ c → (if b then Some (turned_at 0 n) else (if c then Some (turned_at 2 n) else None)) ≡ Some w → DeMorganContracts (Stmt q) n w
    go true c h k e =
        let (there, turns) = and_parts (begins_void n) (turns_void (part n 0)) h in
        subst (DeMorganContracts (Stmt q) n) (some_is (turned_at 0 n) w e) (turned_row q n 0 (placed_first n there) turns)
    go false true h k e =
        let (there, turns) = and_parts (is_for n) (turns_void (part n 2)) k in
        subst (DeMorganContracts (Stmt q) n) (some_is (turned_at 2 n) w e) (turned_row q n 2 (placed_third n there) turns)
    go false false h k e = absurd (cc e)

-- ---- where nothing is written

some_way : (b c : Bool) (x y : Tree) → (if b then Some x else (if c then Some y else None)) ≡ None → (b ≡ false) × (c ≡ false)
some_way true c x y e = absurd (cc e)
some_way false true x y e = absurd (cc e)
some_way false false x y e = (refl, refl)

not_first : (n : Tree) → written n ≡ None → turns_first n ≡ false
not_first n e = (some_way (turns_first n) (turns_third n) (turned_at 0 n) (turned_at 2 n) e).0

not_third : (n : Tree) → written n ≡ None → turns_third n ≡ false
not_third n e = (some_way (turns_first n) (turns_third n) (turned_at 0 n) (turned_at 2 n) e).1

place_turns : (v : VoidPlace) (x : Tree) → turns_void x ≡ true → written (void_of v x) ≡ None → ⊥
place_turns Alone x h e = true≢false (sym h ∙ not_first (void_of Alone x) e)
place_turns (Begins t u b) x h e = true≢false (sym h ∙ not_first (void_of (Begins t u b) x) e)
place_turns (Turns i t b) x h e = true≢false (sym h ∙ not_third (void_of (Turns i t b) x) e)

void_within : (q : StmtSeat) (v : VoidPlace) (x : Tree) → weight (Expr statement_expression_seat) x ≤ weight (Stmt q) (void_of v x)
void_within q Alone x = omega arith
void_within q (Begins t u b) x = omega arith
void_within q (Turns i t b) x = omega arith

missed : (q : StmtSeat) (n w : Tree) → Row50 n w → written n ≡ None → weight (Stmt q) n < 2 ^ 64 → weight (Stmt q) w < weight (Stmt q) n → ⊥
missed q n w r e small less =
    let x : Tree = ended r.before (logical r.operator r.a r.b) in
    let y : Tree = ended r.before (turned_logical r.operator r.a r.b) in
    let whole = ap (weight (Stmt q)) r.shape in
    let row = ap (weight (Stmt q)) r.written in
    let change = void_weighs q r.place x y in
    let within = void_within q r.place x in
    let inner = ended_changes r.before r.operator (turned r.operator) r.a r.b (lightest (seat_of r.operator) r.a) r.b in
    let part = ended_within r.before r.operator r.a r.b in
    let turns = lighter_is_turned r.operator r.a r.b r.tells r.apart (omega (arith, less, whole, row, change, inner)) (omega (arith, small, whole, within, part)) in
    place_turns r.place x (ended_turns r.before (logical r.operator r.a r.b) turns) (sym (ap written r.shape) ∙ e)

pub unwritten_rests : UnwrittenRests
unwritten_rests q n e small w c = missed q n w c.row e small c.lighter

pub applied : (q : StmtSeat) (t u : Tree) (b : Bool) → u ≡ unwrap_or (written t) t → b ≡ is_some (written t) → Applied Gives Rests (Stmt q) t u b
applied q t u b e f = subst (λ v. Applied Gives Rests (Stmt q) t v b) (sym e) (subst (Applied Gives Rests (Stmt q) t (unwrap_or (written t) t)) (sym f) (go (written t) refl))
  where
    go : (o : Option Tree) → written t ≡ o → Applied Gives Rests (Stmt q) t (unwrap_or o t) (is_some o)
    go None h = (refl, unwritten_rests q t h)
    go (Some w) h = moves_once Gives (Stmt q) t w (written_is_row q t w h)

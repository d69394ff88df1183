-- Two operands that do nothing but give their values become one as the row says, and stay where no row makes the whole lighter.
use Rattle.std.proofs.Common.{◌≡◌, ℕ, ◌+◌, ◌<◌, ◌^◌, Bool, true, false, [], Option, Some, None, refl, sym, ap, subst, ◌∙◌, true≢false, ltb-true, arith}
use Rattle.std.specs.Prelude.{◌&&◌, min, if◌then◌else◌}
use Rattle.std.proofs.lemmas.Bool.{and_parts, lt-ltb}
use Rattle.mini_model.specs.declared.operator.BinaryOperator.{BinaryOperator}
use Rattle.mini_model.specs.declared.operator.BinaryOperator.TheVariants as binary_operator
use Rattle.mini_model.specs.declared.place.Position.TheVariants.{Expr}
use Rattle.mini_model.specs.declared.seat.Seat.{Seat}
use Rattle.mini_model.specs.declared.shape.Shape.TheVariants as shape
use Rattle.mini_model.specs.Position.{binary_operand_seat}
use Rattle.mini_model.specs.Tree.{Tree}
use Rattle.mini_model.specs.Weight.{weight, place_weight, capped}
use Rattle.mini_node.specs.Children.{part}
use Rattle.mini_node.specs.Kinds.{binary_operator as its_binary_operator}
use Rattle.mini_node.specs.Made.{binary_is}
use Rattle.mini_laws.specs.Value.{Value}
use Rattle.mini_terms.specs.Calculated.{operand_value}
use Rattle.mini_terms.specs.Const.{binary_value}
use Rattle.mini_terms.specs.Parts.{leaves_nothing}
use Rattle.mini_terms.specs.Plain.{lit}
use Rattle.mini_rows.specs.Constants.{may_join, RowJoined}
use Rattle.mini_rows.specs.Operands.{beside}
use Rattle.mini_rows.specs.Spellings.{binary}
use Rattle.mini_fold.specs.JoinConstants.{sign_weight, literal_of, value_of_both, joined_literal, beside_weight, both_weight, is_less, replaces, kept_if, joined_by, joined, with_operand, within, holds_same, joined_under, joined_written}

nothing : {A : Type 0} {a : A} {B : Type 0} → None ≡ Some a → B
nothing e = cc e

-- ---- sums as far as 64 bits go

pub capped_sum : (a b : ℕ) → min (capped a + capped b) 18446744073709551615 ≡ capped (a + b)
capped_sum a b = omega arith

pub capped_both : (a b k : ℕ) → min (min (capped a + capped b) 18446744073709551615 + k) 18446744073709551615 ≡ capped (k + (a + b))
capped_both a b k = omega arith

-- ---- weights

abbrev Right : BinaryOperator → Tree → ℕ
Right o t = weight (Expr (binary_operand_seat o 1)) t

-- the parentheses and the mark of an operator in its seat
abbrev Around : BinaryOperator → Seat → ℕ
Around o s = place_weight (Expr s) (shape.BinaryExpression o) []

module _ (s : Seat) (a k l : Tree) where
  put_weighs : (o : BinaryOperator) → holds_same o (Some o) ≡ true → weight (Expr s) (binary o a l) ≡ Around o s + sign_weight o + beside_weight o true a l
  put_weighs binary_operator.Addition h = omega arith
  put_weighs binary_operator.BitwiseAnd h = omega arith
  put_weighs binary_operator.BitwiseXor h = omega arith
  put_weighs binary_operator.BitwiseOr h = omega arith
  put_weighs o h = absurd (true≢false (sym h))

  read_weighs : (o : BinaryOperator) (b : Bool) → holds_same o (Some o) ≡ true → weight (Expr s) (binary o (beside o b a k) l) ≡ Around o s + sign_weight o + both_weight o b a k l
  read_weighs binary_operator.Addition true h = omega arith
  read_weighs binary_operator.Addition false h = omega arith
  read_weighs binary_operator.BitwiseAnd true h = omega arith
  read_weighs binary_operator.BitwiseAnd false h = omega arith
  read_weighs binary_operator.BitwiseXor true h = omega arith
  read_weighs binary_operator.BitwiseXor false h = omega arith
  read_weighs binary_operator.BitwiseOr true h = omega arith
  read_weighs binary_operator.BitwiseOr false h = omega arith
  read_weighs o b h = absurd (true≢false (sym h))

capped_less : (m n : ℕ) → capped m < capped n → m < n
capped_less m n h = omega (arith, h)

less_capped : (m n : ℕ) → m < n → n < 2 ^ 64 → capped m < capped n
less_capped m n h k = omega (arith, h, k)

module _ (s : Seat) (o : BinaryOperator) (h : holds_same o (Some o) ≡ true) (b : Bool) (a k l m : Tree) where
  less_weighs : is_less o b a k l m ≡ true → weight (Expr s) (binary o a m) < weight (Expr s) (binary o (beside o b a k) l)
  less_weighs e =
      let put = put_weighs s a k m o h in
      let read = read_weighs s a k l o b h in
      let less = capped_less (beside_weight o true a m) (both_weight o b a k l) (ltb-true _ _ e) in
      omega (arith, put, read, less)

  weighs_less : weight (Expr s) (binary o (beside o b a k) l) < 2 ^ 64 → weight (Expr s) (binary o a m) < weight (Expr s) (binary o (beside o b a k) l) → is_less o b a k l m ≡ true
  weighs_less small gains =
      let put = put_weighs s a k m o h in
      let read = read_weighs s a k l o b h in
      let less : beside_weight o true a m < both_weight o b a k l = omega (arith, put, read, gains) in
      let fits : both_weight o b a k l < 2 ^ 64 = omega (arith, read, small) in
      lt-ltb (capped (beside_weight o true a m)) (capped (both_weight o b a k l)) (less_capped (beside_weight o true a m) (both_weight o b a k l) less fits)

-- ---- what is written is what the row says

-- of which values a literal is made
record Made (o : BinaryOperator) (b : Bool) (k l m : Tree) : Type 0 where
  before : Value
  after : Value
  value : Value
  known : operand_value k ≡ Some before
  told : operand_value l ≡ Some after
  joins : may_join o b before after ≡ true
  joined : binary_value o before after ≡ Some value
  written_out : lit value ≡ Some m

made : (o : BinaryOperator) (b : Bool) (k l m : Tree) → joined_literal o b k l ≡ Some m → Made o b k l m
made o b k l m e = go (operand_value k) (operand_value l) refl refl e
  where
    of_value : (u v : Value) (c : Option Value) → operand_value k ≡ Some u → operand_value l ≡ Some v → may_join o b u v ≡ true → binary_value o u v ≡ c → literal_of c ≡ Some m → Made o b k l m
    of_value u v (Some x) f g h i e = record { before = u; after = v; value = x; known = f; told = g; joins = h; joined = i; written_out = e }
    of_value u v None f g h i e = nothing e

    by_test : (u v : Value) (t : Bool) → operand_value k ≡ Some u → operand_value l ≡ Some v → may_join o b u v ≡ t → literal_of (if t then binary_value o u v else None) ≡ Some m → Made o b k l m
    by_test u v true f g h e = of_value u v (binary_value o u v) f g h refl e
    by_test u v false f g h e = nothing e

    go : (c d : Option Value) → operand_value k ≡ c → operand_value l ≡ d → literal_of (value_of_both o b c d) ≡ Some m → Made o b k l m
    go (Some u) (Some v) f g e = by_test u v (may_join o b u v) f g refl e
    go None (Some v) f g e = nothing e
    go c None f g e = nothing e

-- and the other way round
literal_there : (o : BinaryOperator) (b : Bool) (k l m : Tree) → Made o b k l m → joined_literal o b k l ≡ Some m
literal_there o b k l m r =
    ap (λ c. literal_of (value_of_both o b c (operand_value l))) r.known
    ∙ ap (λ d. literal_of (value_of_both o b (Some r.before) d)) r.told
    ∙ ap (λ t. literal_of (if t then binary_value o r.before r.after else None)) r.joins
    ∙ ap literal_of r.joined
    ∙ r.written_out

record Goes (o : BinaryOperator) (b : Bool) (a k l m : Tree) : Type 0 where
  literal : Made o b k l m
  test : replaces o b a k l m ≡ true

goes : (o : BinaryOperator) (b : Bool) (a k l m : Tree) → joined o b a k l ≡ Some m → Goes o b a k l m
goes o b a k l m e = go (joined_literal o b k l) refl e
  where
    by_test : (u : Tree) (t : Bool) → joined_literal o b k l ≡ Some u → replaces o b a k l u ≡ t → kept_if t u ≡ Some m → Goes o b a k l m
    by_test u true f g e =
        let same : u ≡ m = cc e in
        record { literal = made o b k l m (f ∙ ap (λ x. Some x) same); test = subst (λ x. replaces o b a k l x ≡ true) same g }
    by_test u false f g e = nothing e

    go : (c : Option Tree) → joined_literal o b k l ≡ c → joined_by o b a k l c ≡ Some m → Goes o b a k l m
    go (Some u) f e = by_test u (replaces o b a k l u) f refl e
    go None f e = nothing e

both_true : (b c : Bool) → b ≡ true → c ≡ true → b && c ≡ true
both_true true c e f = f
both_true false c e f = e

module _ (s : Seat) (n : Tree) where
  row_of : (o : BinaryOperator) (b : Bool) (a k l m w : Tree) → holds_same o (Some o) ≡ true → n ≡ binary o (beside o b a k) l → w ≡ binary o a m → Goes o b a k l m → RowJoined s n w
  row_of o b a k l m w h is put g =
      let (first, rest) = and_parts (leaves_nothing k) (leaves_nothing l && is_less o b a k l m) g.test in
      let (second, less) = and_parts (leaves_nothing l) (is_less o b a k l m) rest in
      let gains = less_weighs s o h b a k l m less in record {
        operator = o;
        on_right = b;
        operand = a;
        first = k;
        second = l;
        literal = m;
        before = g.literal.before;
        after = g.literal.after;
        value = g.literal.value;
        known = g.literal.known;
        told = g.literal.told;
        joins = g.literal.joins;
        joined = g.literal.joined;
        written_out = g.literal.written_out;
        dropped = both_true (leaves_nothing k) (leaves_nothing l) first second;
        shape = is;
        written = put;
        gains = subst (λ x. weight (Expr s) w < weight (Expr s) x) (sym is) (subst (λ x. weight (Expr s) x < weight (Expr s) (binary o (beside o b a k) l)) (sym put) gains);
      }

  within_row : (o : BinaryOperator) (w : Tree) → holds_same o (Some o) ≡ true → n ≡ binary o (binary o (part (part n 0) 0) (part (part n 0) 1)) (part n 1) → within o (part n 0) (part n 1) ≡ Some w → RowJoined s n w
  within_row o w h is e = go (joined o true x y l) (joined o false y x l) refl refl e
    where
      x : Tree
      x = part (part n 0) 0

      y : Tree
      y = part (part n 0) 1

      l : Tree
      l = part n 1

      go : (c d : Option Tree) → joined o true x y l ≡ c → joined o false y x l ≡ d → with_operand o x c (with_operand o y d None) ≡ Some w → RowJoined s n w
      go (Some m) d f g e = row_of o true x y l m w h is (cc e) (goes o true x y l m f)
      go None (Some m) f g e = row_of o false y x l m w h is (cc e) (goes o false y x l m g)
      go None None f g e = nothing e

-- of an operator over the same one
record Nested (o : BinaryOperator) (t : Tree) : Type 0 where
  same : holds_same o (Some o) ≡ true
  inner : t ≡ binary o (part t 0) (part t 1)

nested_by : (o : BinaryOperator) (t : Tree) (p : Option BinaryOperator) → its_binary_operator t ≡ p → holds_same o p ≡ true → Nested o t
nested_by binary_operator.Addition t (Some binary_operator.Addition) h e = record { same = refl; inner = binary_is t binary_operator.Addition h }
nested_by binary_operator.BitwiseAnd t (Some binary_operator.BitwiseAnd) h e = record { same = refl; inner = binary_is t binary_operator.BitwiseAnd h }
nested_by binary_operator.BitwiseXor t (Some binary_operator.BitwiseXor) h e = record { same = refl; inner = binary_is t binary_operator.BitwiseXor h }
nested_by binary_operator.BitwiseOr t (Some binary_operator.BitwiseOr) h e = record { same = refl; inner = binary_is t binary_operator.BitwiseOr h }
nested_by o t p h e = absurd (true≢false (sym e))

pub joined_is_row : (s : Seat) (n w : Tree) → joined_written n ≡ Some w → RowJoined s n w
joined_is_row s n w e = go (its_binary_operator n) refl e
  where
    by_test : (o : BinaryOperator) (t : Bool) → its_binary_operator n ≡ Some o → holds_same o (its_binary_operator (part n 0)) ≡ t → (if t then within o (part n 0) (part n 1) else None) ≡ Some w → RowJoined s n w
    by_test o true h f e =
        let below : Nested o (part n 0) = nested_by o (part n 0) (its_binary_operator (part n 0)) refl f in
        within_row s n o w below.same (binary_is n o h ∙ ap (λ x. binary o x (part n 1)) below.inner) e
    by_test o false h f e = nothing e

    go : (o : Option BinaryOperator) → its_binary_operator n ≡ o → joined_under o n ≡ Some w → RowJoined s n w
    go (Some o) h e = by_test o (holds_same o (its_binary_operator (part n 0))) h refl e
    go None h e = nothing e

-- ---- where nothing is written

joins_same : (o : BinaryOperator) (b : Bool) (u v : Value) → may_join o b u v ≡ true → holds_same o (Some o) ≡ true
joins_same binary_operator.Addition b u v h = refl
joins_same binary_operator.BitwiseAnd b u v h = refl
joins_same binary_operator.BitwiseXor b u v h = refl
joins_same binary_operator.BitwiseOr b u v h = refl
joins_same o b u v h = absurd (true≢false (sym h))

beside_operator : (o : BinaryOperator) (b : Bool) (a k : Tree) → its_binary_operator (beside o b a k) ≡ Some o
beside_operator o true a k = refl
beside_operator o false a k = refl

-- what is written for it is something
some_right : (o : BinaryOperator) (a m : Tree) (c u : Option Tree) → c ≡ Some m → with_operand o a c u ≡ None → ⊥
some_right o a m (Some x) u e f = nothing (sym f)
some_right o a m None u e f = nothing e

some_left : (o : BinaryOperator) (x a m : Tree) (c d : Option Tree) → d ≡ Some m → with_operand o x c (with_operand o a d None) ≡ None → ⊥
some_left o x a m (Some y) d e f = nothing (sym f)
some_left o x a m None d e f = some_right o a m d None e f

some_within : (o : BinaryOperator) (b : Bool) (a k l m : Tree) → joined o b a k l ≡ Some m → within o (beside o b a k) l ≡ None → ⊥
some_within o true a k l m e f = some_right o a m (joined o true a k l) (with_operand o k (joined o false k a l) None) e f
some_within o false a k l m e f = some_left o k a m (joined o true k a l) (joined o false a k l) e f

module _ (s : Seat) (n w : Tree) (r : RowJoined s n w) (small : weight (Expr s) n < 2 ^ 64) where
  abbrev read : Tree
  read = binary r.operator (beside r.operator r.on_right r.operand r.first) r.second

  its_literal : Made r.operator r.on_right r.first r.second r.literal
  its_literal = record { before = r.before; after = r.after; value = r.value; known = r.known; told = r.told; joins = r.joins; joined = r.joined; written_out = r.written_out }

  less : is_less r.operator r.on_right r.operand r.first r.second r.literal ≡ true
  less =
      weighs_less s r.operator (joins_same r.operator r.on_right r.before r.after r.joins) r.on_right r.operand r.first r.second r.literal (subst (λ x. weight (Expr s) x < 2 ^ 64) r.shape small)
      (subst (λ x. weight (Expr s) (binary r.operator r.operand r.literal) < weight (Expr s) x) r.shape (subst (λ x. weight (Expr s) x < weight (Expr s) n) r.written r.gains))

  replaced : replaces r.operator r.on_right r.operand r.first r.second r.literal ≡ true
  replaced =
      let (first, second) = and_parts (leaves_nothing r.first) (leaves_nothing r.second) r.dropped in
      both_true (leaves_nothing r.first) _ first (both_true (leaves_nothing r.second) (is_less r.operator r.on_right r.operand r.first r.second r.literal) second less)

  its_joined : joined r.operator r.on_right r.operand r.first r.second ≡ Some r.literal
  its_joined =
      ap (joined_by r.operator r.on_right r.operand r.first r.second) (literal_there r.operator r.on_right r.first r.second r.literal its_literal)
      ∙ ap (λ t. kept_if t r.literal) replaced

  read_written : joined_written read ≡ within r.operator (beside r.operator r.on_right r.operand r.first) r.second
  read_written =
      ap (λ p. if holds_same r.operator p then within r.operator (beside r.operator r.on_right r.operand r.first) r.second else None) (beside_operator r.operator r.on_right r.operand r.first)
      ∙ ap (λ t. if t then within r.operator (beside r.operator r.on_right r.operand r.first) r.second else None) (joins_same r.operator r.on_right r.before r.after r.joins)

  pub joined_rests : joined_written n ≡ None → ⊥
  joined_rests e = some_within r.operator r.on_right r.operand r.first r.second r.literal its_joined (sym read_written ∙ sym (ap joined_written r.shape) ∙ e)

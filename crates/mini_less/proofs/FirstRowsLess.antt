-- 23: `!e` becomes the negation of e; and so the rows on negations and on `if` over expressions ask less.
use Rattle.std.specs.Prelude.{ℕ, zero, suc, ◌≡◌, refl, Bool, true, false, ◌||◌, List, [], ◌∷◌}
use Rattle.std.proofs.Common.{ap, ◌∙◌, sym, subst, inl, inr, true≢false}
use Rattle.mini_model.specs.declared.name.Name.{Name}
use Rattle.mini_model.specs.declared.operator.BinaryOperator.{BinaryOperator}
use Rattle.mini_model.specs.declared.operator.LogicalOperator.TheVariants.{Or, And}
use Rattle.mini_model.specs.declared.operator.UnaryOperator.TheVariants.{LogicalNot}
use Rattle.mini_model.specs.declared.place.Position.{Position}
use Rattle.mini_model.specs.declared.place.Position.TheVariants.{Expr, Stmt}
use Rattle.mini_model.specs.declared.seat.Seat.{Seat}
use Rattle.mini_model.specs.declared.shape.Shape.{Shape}
use Rattle.mini_model.specs.declared.shape.Shape.TheVariants as shape
use Rattle.mini_model.specs.Position.{callee_seat, is_equality}
use Rattle.mini_model.specs.Redex.{Row23, Row, Contracts}
use Rattle.mini_model.specs.Terms.{is_boolean, unwrapped, turned_equality, neg}
use Rattle.mini_model.specs.Tree.{Tree, Trees, node, none, ◌▸◌, shape_of, negation}
use Rattle.mini_accept.specs.WellShaped.{Slot, fits}
use Rattle.mini_laws.specs.ScopeList.{is_eval_callee}
use Rattle.mini_kept.proofs.Expressions.{expression, of_negation}
use Rattle.mini_rows.specs.Sketches.{Unary, Asked, AsValue, part, end, ◌▹◌}
use Rattle.mini_less.specs.Families.{LessAt, FirstRowsReadLess}
use Rattle.mini_rows.proofs.ArrangedValues.{is_value, head_valued}
use Rattle.mini_less.proofs.LessRows.{reads_less_by}
use Rattle.mini_less.proofs.MoreRowsLess.{more_rows_less}
use Rattle.mini_less.proofs.Made.{ByParts, made_less}
use Rattle.mini_less.proofs.Negated.{not_down, neg_kept, numbered}
use Rattle.mini_less.proofs.Row82Less.{row_82_or_less}

-- ---- what is written is an expression

operand_value : (strict : Bool) (s : Slot) (a : Tree) → fits strict s (negation a) ≡ true → is_value (shape_of a) ≡ true
operand_value strict s a e = (head_valued (record { trees = a ▸ none; lists = [] }) strict AsValue s (Unary LogicalNot) (part 0 ▹ end) refl e).0

unwrapped_value : (b : Bool) (a n : Tree) → is_value (shape_of a) ≡ true → is_value (shape_of (unwrapped b a n)) ≡ true
unwrapped_value true a n e = e
unwrapped_value false a n e = refl

turned_value : (b : Bool) (o : BinaryOperator) (xs : List Name) (n : ℕ) (ts : Trees) → is_value (shape_of (turned_equality b o xs n ts)) ≡ true
turned_value true o xs n ts = refl
turned_value false o xs n ts = refl

neg_value : (strict : Bool) (s : Seat) (e : Tree) → fits strict expression e ≡ true → is_value (shape_of (neg s e)) ≡ true
neg_value strict s (node (shape.LogicalExpression And) xs n ts) e = refl
neg_value strict s (node (shape.LogicalExpression Or) xs n ts) e = refl
neg_value strict s (node (shape.UnaryExpression LogicalNot) [] zero (a ▸ none)) e = unwrapped_value (s.boolean || is_boolean a) a (negation a) (operand_value strict expression a e)
neg_value strict s (node (shape.UnaryExpression LogicalNot) (x ∷ xs) n (a ▸ none)) e = absurd (true≢false (sym e))
neg_value strict s (node (shape.UnaryExpression LogicalNot) [] (suc n) (a ▸ none)) e = absurd (numbered n _ _ e)
neg_value strict s (node (shape.BinaryExpression o) xs n ts) e = turned_value (is_equality o) o xs n ts
neg_value strict s (node h xs n ts) e = refl

-- ---- it is no name, where it is called

abbrev is_name_shape : Shape → Bool
is_name_shape shape.Identifier = true
is_name_shape h = false

no_name : (h : Shape) (b : Bool) (ys : List Name) (m : ℕ) (us : Trees) (xs : List Name) (n : ℕ) → is_name_shape h ≡ false → is_eval_callee (unwrapped b (node h ys m us) (node (shape.UnaryExpression LogicalNot) xs n (node h ys m us ▸ none))) ≡ false
no_name shape.Identifier b ys m us xs n e = absurd (cc e)
no_name h true ys m us xs n e = refl
no_name h false ys m us xs n e = refl

unwrapped_called : (a : Tree) (xs : List Name) (n : ℕ) → is_eval_callee (unwrapped (callee_seat.boolean || is_boolean a) a (node (shape.UnaryExpression LogicalNot) xs n (a ▸ none))) ≡ false
unwrapped_called (node shape.Identifier ys m us) xs n = refl
unwrapped_called (node h ys m us) xs n = no_name h (is_boolean (node h ys m us)) ys m us xs n refl

turned_called : (b : Bool) (o : BinaryOperator) (xs : List Name) (n : ℕ) (ts : Trees) → is_eval_callee (turned_equality b o xs n ts) ≡ false
turned_called true o xs n ts = refl
turned_called false o xs n ts = refl

neg_called : (e : Tree) → is_eval_callee (neg callee_seat e) ≡ false
neg_called (node (shape.LogicalExpression And) xs n ts) = refl
neg_called (node (shape.LogicalExpression Or) xs n ts) = refl
neg_called (node (shape.UnaryExpression LogicalNot) xs n (a ▸ none)) = unwrapped_called a xs n
neg_called (node (shape.BinaryExpression o) xs n ts) = turned_called (is_equality o) o xs n ts
neg_called (node h xs n ts) = refl

-- ---- what it asks

row_23 : (q : Seat) (n w : Tree) → Row23 q n w → LessAt (Expr q) n w
row_23 q n w r = made_less q n w (Unary LogicalNot) (r.e ▸ none) refl r.shape tt value made (λ i. ap is_eval_callee r.written ∙ called i)
  where
    operand : (strict : Bool) (x : Slot) → fits strict x n ≡ true → fits strict expression r.e ≡ true
    operand strict x fit = (of_negation strict x r.e (subst (λ t. fits strict x t ≡ true) r.shape fit)).1

    value : (strict : Bool) (x : Slot) → fits strict x n ≡ true → is_value (shape_of w) ≡ true
    value strict x fit = ap (λ t. is_value (shape_of t)) r.written ∙ neg_value strict q r.e (operand strict x fit)

    made : (strict : Bool) (x : Slot) → fits strict x n ≡ true → (Q : Asked → Tree → Type 0) → ByParts Q → Q AsValue n → Q AsValue w
    made strict x fit Q l y = subst (Q AsValue) (sym r.written) (neg_kept Q l strict r.e q (operand strict x fit) (not_down Q l strict r.e (subst (Q AsValue) r.shape y)))

    seats : Expr q ≡ Expr callee_seat → q ≡ callee_seat
    seats i = cc i

    called : Expr q ≡ Expr callee_seat → is_eval_callee (neg q r.e) ≡ false
    called i = subst (λ s. is_eval_callee (neg s r.e) ≡ false) (sym (seats i)) (neg_called r.e)

row_less : (p : Position) (n w : Tree) → Row p n w → LessAt p n w
row_less (Expr q) n w (inl r) = row_23 q n w r
row_less (Expr q) n w (inr r) = more_rows_less.row_40 q n w r
row_less (Stmt q) n w (inl r) = more_rows_less.row_82_else q n w r
row_less (Stmt q) n w (inr (inl r)) = more_rows_less.row_82_and q n w r
row_less (Stmt q) n w (inr (inr r)) = row_82_or_less q n w r
row_less p n w r = absurd r

pub first_rows_read_less : FirstRowsReadLess
first_rows_read_less = reads_less_by Contracts (λ p n w c. row_less p n w c.row)

-- What holds by parts, of the nodes that rows read and write; and rows whose written node stands under a plain head, or is a part.
use Rattle.std.specs.Prelude.{ℕ, ◌≡◌, refl, ℤ, pos, Bool, true, false, List, []}
use Rattle.std.proofs.Common.{ap, ◌∙◌, sym, subst, true≢false}
use Rattle.mini_model.specs.declared.operator.BinaryOperator.{BinaryOperator}
use Rattle.mini_model.specs.declared.operator.LogicalOperator.{LogicalOperator}
use Rattle.mini_model.specs.declared.operator.UnaryOperator.{UnaryOperator}
use Rattle.mini_model.specs.declared.operator.UnaryOperator.TheVariants.{Void, LogicalNot}
use Rattle.mini_model.specs.declared.place.Position.TheVariants.{Expr}
use Rattle.mini_model.specs.declared.seat.Seat.{Seat}
use Rattle.mini_model.specs.declared.shape.Shape.TheVariants as shape
use Rattle.mini_model.specs.Position.{callee_seat}
use Rattle.mini_model.specs.Paths.{append}
use Rattle.mini_model.specs.Tree.{Tree, Trees, node, none, ◌▸◌, shape_of, listed, unary, logical, conditional, null_literal}
use Rattle.mini_accept.specs.WellShaped.{an_expression, Slot, one, fits}
use Rattle.mini_laws.specs.ScopeList.{is_eval_callee}
use Rattle.mini_terms.specs.Parts.{suits}
use Rattle.mini_terms.specs.Reading.{stands}
use Rattle.mini_rows.specs.Booleans.{digit}
use Rattle.mini_rows.specs.Sketches.{Head, AList, shape_by, Null, BooleanValue, Number, String as Text, Unary, Binary, Logical, Conditional, Sequence, part, end, ◌▹◌, Parts, Asked, AsValue, AsValues, is_expression_head}
use Rattle.mini_rows.specs.Spellings.{binary, text, numeral, boolean, void_zero, negated_digit}
use Rattle.mini_rows.specs.Lists.{sequence}
use Rattle.mini_rows.proofs.Arranging.{All, all_of, of_all, first_all, second_all, both_all, Any}
use Rattle.mini_rows.proofs.ArrangedValues.{is_value, head_valued, value_fits}
use Rattle.mini_less.specs.Families.{LessAt}
use Rattle.mini_less.specs.Less.{Plain}
use Rattle.mini_less.proofs.Evals.{no_callee}
use Rattle.mini_less.proofs.Made.{ByParts, made_less, value_of_head}

module _ (Q : Asked → Tree → Type 0) (l : ByParts Q) where
  pub unary_part : (o : UnaryOperator) (a : Tree) → Q AsValue (unary o a) → Q AsValue a
  unary_part o a q = (l.down (Unary o) refl AsValue (a ▸ none) tt q).0

  pub a_unary : (o : UnaryOperator) (a : Tree) → Q AsValue a → Q AsValue (unary o a)
  a_unary o a q = l.up (Unary o) refl AsValue (a ▸ none) tt (q, tt)

  pub binary_parts : (o : BinaryOperator) (a b : Tree) → Q AsValue (binary o a b) → Q AsValue a × Q AsValue b
  binary_parts o a b q = let (x, (y, z)) = l.down (Binary o) refl AsValue (a ▸ b ▸ none) tt q in (x, y)

  pub a_binary : (o : BinaryOperator) (a b : Tree) → Q AsValue a → Q AsValue b → Q AsValue (binary o a b)
  a_binary o a b q r = l.up (Binary o) refl AsValue (a ▸ b ▸ none) tt (q, (r, tt))

  pub logical_parts : (o : LogicalOperator) (a b : Tree) → Q AsValue (logical o a b) → Q AsValue a × Q AsValue b
  logical_parts o a b q = let (x, (y, z)) = l.down (Logical o) refl AsValue (a ▸ b ▸ none) tt q in (x, y)

  pub a_logical : (o : LogicalOperator) (a b : Tree) → Q AsValue a → Q AsValue b → Q AsValue (logical o a b)
  a_logical o a b q r = l.up (Logical o) refl AsValue (a ▸ b ▸ none) tt (q, (r, tt))

  pub conditional_parts : (a b c : Tree) → Q AsValue (conditional a b c) → Q AsValue a × (Q AsValue b × Q AsValue c)
  conditional_parts a b c q = let (x, (y, (z, v))) = l.down Conditional refl AsValue (a ▸ b ▸ c ▸ none) tt q in (x, (y, z))

  pub a_conditional : (a b c : Tree) → Q AsValue a → Q AsValue b → Q AsValue c → Q AsValue (conditional a b c)
  a_conditional a b c x y z = l.up Conditional refl AsValue (a ▸ b ▸ c ▸ none) tt (x, (y, (z, tt)))

  pub sequence_parts : (ts : Trees) → Q AsValue (sequence ts) → All Q AsValue ts
  sequence_parts ts q = all_of Any Q AsValue 0 ts (l.down AList refl AsValues ts tt (l.down Sequence refl AsValue (listed ts ▸ none) tt q).0)

  pub a_sequence : (ts : Trees) → All Q AsValue ts → Q AsValue (sequence ts)
  a_sequence ts q = l.up Sequence refl AsValue (listed ts ▸ none) tt (l.up AList refl AsValues ts tt (of_all Any Q AsValue 0 ts q), tt)

  pub firsts : (ts us : Trees) → All Q AsValue (append ts us) → All Q AsValue ts
  firsts = first_all Any Q AsValue

  pub lasts : (ts us : Trees) → All Q AsValue (append ts us) → All Q AsValue us
  lasts = second_all Any Q AsValue

  pub both_of : (ts us : Trees) → All Q AsValue ts → All Q AsValue us → All Q AsValue (append ts us)
  both_of = both_all Any Q AsValue

  pub a_number : (m : ℤ) → Q AsValue (numeral m)
  a_number m = l.up (Number m) refl AsValue none tt tt

  pub a_text : (s : List ℕ) → Q AsValue (text s)
  a_text s = l.up (Text s) refl AsValue none tt tt

  pub a_boolean : (b : Bool) → Q AsValue (boolean b)
  a_boolean b = l.up (BooleanValue b) refl AsValue none tt tt

  pub a_null : Q AsValue null_literal
  a_null = l.up Null refl AsValue none tt tt

  pub a_void : Q AsValue void_zero
  a_void = a_unary Void (numeral (pos 0)) (a_number (pos 0))

  pub a_digit : (b : Bool) → Q AsValue (digit b)
  a_digit true = a_number (pos 1)
  a_digit false = a_number (pos 0)

  pub a_truth : (b : Bool) → Q AsValue (negated_digit b)
  a_truth true = a_unary LogicalNot (numeral (pos 0)) (a_number (pos 0))
  a_truth false = a_unary LogicalNot (numeral (pos 1)) (a_number (pos 1))

-- ---- values

pub value_of : (strict : Bool) (t : Tree) → fits strict (one an_expression) t ≡ true → is_value (shape_of t) ≡ true
value_of strict t e = value_fits strict (one an_expression) t refl e

-- of n
abbrev pub MadeOf : Tree → Tree → Type 1
MadeOf n w = (strict : Bool) (x : Slot) → fits strict x n ≡ true → (Q : Asked → Tree → Type 0) → ByParts Q → Q AsValue n → Q AsValue w

-- what is written stands under a plain head
pub made_under : (q : Seat) (n w : Tree) (h : Head) (ts : Trees) → is_expression_head h ≡ true → n ≡ node (shape_by h) [] 0 ts → Plain h ts → (g : Head) (us : Trees) → is_expression_head g ≡ true → w ≡ node (shape_by g) [] 0 us → MadeOf n w → LessAt (Expr q) n w
made_under q n w h ts e a p g us f b made = made_less q n w h ts e a p (λ strict x k. ap (λ t. is_value (shape_of t)) b ∙ value_of_head g f) made (λ i. ap is_eval_callee b ∙ no_callee g us)

-- no name stands where a call is made
abbrev pub Uncalled : Seat → Tree → Type 0
Uncalled q w = Expr q ≡ Expr callee_seat → is_eval_callee w ≡ false

pub seats : (q : Seat) → Expr q ≡ Expr callee_seat → q ≡ callee_seat
seats q i = cc i

suited_there : (t : Tree) → suits callee_seat t ≡ true → is_eval_callee t ≡ false
suited_there (node shape.Identifier xs n ts) e = absurd (true≢false (sym e))
suited_there (node h xs n ts) e = refl

pub suited : (q : Seat) (t w : Tree) → w ≡ t → suits q t ≡ true → Uncalled q w
suited q t w b e i = ap is_eval_callee b ∙ suited_there t (subst (λ s. suits s t ≡ true) (seats q i) e)

-- where only the truth is asked nothing is called
pub asked_truth : (q : Seat) (w : Tree) → q.boolean ≡ true → Uncalled q w
asked_truth q w e i = absurd (true≢false (sym (subst (λ s. s.boolean ≡ true) (seats q i) e)))

-- what is no name
pub standing_there : (t : Tree) → stands t ≡ true → is_eval_callee t ≡ false
standing_there (node shape.Identifier xs n ts) e = absurd (true≢false (sym e))
standing_there (node h xs n ts) e = refl

-- a part of n is written
pub part_of : (q : Seat) (n w : Tree) (h : Head) (ts : Trees) → is_expression_head h ≡ true → n ≡ node (shape_by h) [] 0 ts → Plain h ts → (t : Tree) → w ≡ t → ((strict : Bool) (x : Slot) → fits strict x (node (shape_by h) [] 0 ts) ≡ true → is_value (shape_of t) ≡ true) → ((Q : Asked → Tree → Type 0) → ByParts Q → Q AsValue (node (shape_by h) [] 0 ts) → Q AsValue t) → Uncalled q w → LessAt (Expr q) n w
part_of q n w h ts e a p t b value made called =
    made_less q n w h ts e a p (λ strict x k. ap (λ t. is_value (shape_of t)) b ∙ value strict x (subst (λ m. fits strict x m ≡ true) a k))
    (λ strict x k Q l y. subst (Q AsValue) (sym b) (made Q l (subst (Q AsValue) a y))) called

-- the parts of such nodes are values
abbrev of_trees : Trees → Parts
of_trees ts = record { trees = ts; lists = [] }

pub unary_value : (strict : Bool) (x : Slot) (o : UnaryOperator) (a : Tree) → fits strict x (unary o a) ≡ true → is_value (shape_of a) ≡ true
unary_value strict x o a e = (head_valued (of_trees (a ▸ none)) strict AsValue x (Unary o) (part 0 ▹ end) refl e).0

pub binary_values : (strict : Bool) (x : Slot) (o : BinaryOperator) (a b : Tree) → fits strict x (binary o a b) ≡ true → (is_value (shape_of a) ≡ true) × (is_value (shape_of b) ≡ true)
binary_values strict x o a b e = let (y, (z, v)) = head_valued (of_trees (a ▸ b ▸ none)) strict AsValue x (Binary o) (part 0 ▹ part 1 ▹ end) refl e in (y, z)

pub logical_values : (strict : Bool) (x : Slot) (o : LogicalOperator) (a b : Tree) → fits strict x (logical o a b) ≡ true → (is_value (shape_of a) ≡ true) × (is_value (shape_of b) ≡ true)
logical_values strict x o a b e = let (y, (z, v)) = head_valued (of_trees (a ▸ b ▸ none)) strict AsValue x (Logical o) (part 0 ▹ part 1 ▹ end) refl e in (y, z)

pub conditional_values : (strict : Bool) (x : Slot) (a b c : Tree) → fits strict x (conditional a b c) ≡ true → (is_value (shape_of a) ≡ true) × ((is_value (shape_of b) ≡ true) × (is_value (shape_of c) ≡ true))
conditional_values strict x a b c e = let (y, (z, (v, u))) = head_valued (of_trees (a ▸ b ▸ c ▸ none)) strict AsValue x Conditional (part 0 ▹ part 1 ▹ part 2 ▹ end) refl e in (y, (z, v))

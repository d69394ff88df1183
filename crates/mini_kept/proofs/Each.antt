-- A test of each node holds after a rewrite, where it holds of the nodes that rows write.
use Rattle.std.proofs.Common.{ap, ◌≡◌, ℕ, zero, suc, Bool, true, false, List, [], refl, sym, ◌∙◌, subst, inl, inr}
use Rattle.std.specs.Prelude.{◌&&◌, ◌||◌, nat_lt, if◌then◌else◌}
use Rattle.std.proofs.lemmas.Bool.{and_parts}
use Rattle.mini_model.specs.declared.name.Name.{Name}
use Rattle.mini_model.specs.declared.operator.BinaryOperator.{BinaryOperator}
use Rattle.mini_model.specs.declared.operator.LogicalOperator.TheVariants.{Or, And}
use Rattle.mini_model.specs.declared.operator.UnaryOperator.TheVariants.{LogicalNot}
use Rattle.mini_model.specs.declared.place.Position.{Position}
use Rattle.mini_model.specs.declared.place.Position.TheVariants.{Expr, Stmt}
use Rattle.mini_model.specs.declared.seat.Seat.{Seat}
use Rattle.mini_model.specs.declared.shape.Shape.{Shape}
use Rattle.mini_model.specs.declared.shape.Shape.TheVariants as shape
use Rattle.mini_model.specs.Tree.{Tree, Trees, node, none, ◌▸◌, negation, conditional, logical, expression_statement, absent, children}
use Rattle.mini_model.specs.Position.{is_equality, statement_expression_seat, left_operand_seat}
use Rattle.mini_model.specs.Weight.{weight}
use Rattle.mini_model.specs.Terms.{is_boolean, turned_seat, unwrapped, opposite, turned_equality, neg, neg_each, not_of}
use Rattle.mini_model.specs.Redex.{Row, Contracts}
use Rattle.mini_model.specs.Rewriting.{Step, here, inside, StepIn, first, later, Reaches, done, more}
use Rattle.mini_kept.specs.Nodes.{Test, each_node, each_nodes}
use Rattle.mini_kept.specs.Kept.{AdmitsWritten, over}
use Rattle.mini_kept.proofs.Bools.{left, right, both}

module _ (f : Test) (new : AdmitsWritten f) where
  negation_each : (a : Tree) → each_node f a ≡ true → each_node f (negation a) ≡ true
  negation_each a e = both (f (shape.UnaryExpression LogicalNot) [] 0) (each_node f a && true) new.negation (both (each_node f a) true e refl)

  conditional_each : (a b c : Tree) → each_node f a ≡ true → each_node f b ≡ true → each_node f c ≡ true → each_node f (conditional a b c) ≡ true
  conditional_each a b c x y z =
      both (f shape.ConditionalExpression [] 0) (each_node f a && (each_node f b && (each_node f c && true))) new.conditional
      (both (each_node f a) (each_node f b && (each_node f c && true)) x (both (each_node f b) (each_node f c && true) y (both (each_node f c) true z refl)))

  or_each : (a b : Tree) → each_node f a ≡ true → each_node f b ≡ true → each_node f (logical Or a b) ≡ true
  or_each a b x y = both (f (shape.LogicalExpression Or) [] 0) (each_node f a && (each_node f b && true)) new.or (both (each_node f a) (each_node f b && true) x (both (each_node f b) true y refl))

  and_each : (a b : Tree) → each_node f a ≡ true → each_node f b ≡ true → each_node f (logical And a b) ≡ true
  and_each a b x y = both (f (shape.LogicalExpression And) [] 0) (each_node f a && (each_node f b && true)) new.and (both (each_node f a) (each_node f b && true) x (both (each_node f b) true y refl))

  statement_each : (a : Tree) → each_node f a ≡ true → each_node f (expression_statement a) ≡ true
  statement_each a e = both (f shape.ExpressionStatement [] 0) (each_node f a && true) new.statement (both (each_node f a) true e refl)

  unwrapped_each : (b : Bool) (a n : Tree) → each_node f a ≡ true → each_node f n ≡ true → each_node f (unwrapped b a n) ≡ true
  unwrapped_each true a n x y = x
  unwrapped_each false a n x y = negation_each n y

  equality_each : (b : Bool) (o : BinaryOperator) (xs : List Name) (n : ℕ) (ts : Trees) → each_node f (node (shape.BinaryExpression o) xs n ts) ≡ true → each_node f (turned_equality b o xs n ts) ≡ true
  equality_each true o xs n ts e =
      let (own, below) = and_parts (f (shape.BinaryExpression o) xs n) (each_nodes f ts) e in
      both (f (shape.BinaryExpression (opposite o)) xs n) (each_nodes f ts) (sym (new.equality o xs n) ∙ own) below
  equality_each false o xs n ts e = negation_each (node (shape.BinaryExpression o) xs n ts) e

  mutual
    neg_each_node : (s : Seat) (t : Tree) → each_node f t ≡ true → each_node f (neg s t) ≡ true
    neg_each_node s (node (shape.LogicalExpression And) xs n ts) e =
        let σ = turned_seat (shape.LogicalExpression And) s in
        let (own, below) = and_parts (f (shape.LogicalExpression And) xs n) (each_nodes f ts) e in
        both (f (shape.LogicalExpression Or) xs n) (each_nodes f (neg_each σ ts)) (sym (new.turned xs n) ∙ own) (neg_each_nodes σ ts below)
    neg_each_node s (node (shape.LogicalExpression Or) xs n ts) e =
        let σ = turned_seat (shape.LogicalExpression Or) s in
        let (own, below) = and_parts (f (shape.LogicalExpression Or) xs n) (each_nodes f ts) e in
        both (f (shape.LogicalExpression And) xs n) (each_nodes f (neg_each σ ts)) (new.turned xs n ∙ own) (neg_each_nodes σ ts below)
    neg_each_node s (node (shape.UnaryExpression LogicalNot) xs n (a ▸ none)) e =
        let (own, below) = and_parts (f (shape.UnaryExpression LogicalNot) xs n) (each_node f a && true) e in
        unwrapped_each (s.boolean || is_boolean a) a (node (shape.UnaryExpression LogicalNot) xs n (a ▸ none)) (left (each_node f a) true below) e
    neg_each_node s (node (shape.BinaryExpression o) xs n ts) e = equality_each (is_equality o) o xs n ts e
    neg_each_node s (node h xs n ts) e = negation_each (node h xs n ts) e

    neg_each_nodes : (σ : ℕ → Seat) (ts : Trees) → each_nodes f ts ≡ true → each_nodes f (neg_each σ ts) ≡ true
    neg_each_nodes σ none e = e
    neg_each_nodes σ (t ▸ ts) e =
        let (own, rest) = and_parts (each_node f t) (each_nodes f ts) e in
        both (each_node f (neg (σ zero) t)) (each_nodes f (neg_each (λ i. σ (suc i)) ts)) (neg_each_node (σ zero) t own) (neg_each_nodes (λ i. σ (suc i)) ts rest)

  chosen_each : (b : Bool) (x y : Tree) → each_node f x ≡ true → each_node f y ≡ true → each_node f (if b then x else y) ≡ true
  chosen_each true x y e g = e
  chosen_each false x y e g = g

  not_of_each : (s : Seat) (a : Tree) → each_node f a ≡ true → each_node f (not_of s a) ≡ true
  not_of_each s a e = chosen_each (nat_lt (weight (Expr s) (negation a)) (weight (Expr s) (neg s a))) (negation a) (neg s a) (negation_each a e) (neg_each_node s a e)

  of_negation : (a : Tree) → each_node f (negation a) ≡ true → each_node f a ≡ true
  of_negation a e = left (each_node f a) true (right (f (shape.UnaryExpression LogicalNot) [] 0) (each_node f a && true) e)

  of_three : (h : Shape) (a b c : Tree) → each_node f (node h [] 0 (a ▸ b ▸ c ▸ none)) ≡ true → (each_node f a ≡ true) × (each_node f b ≡ true) × (each_node f c ≡ true)
  of_three h a b c e =
      let (own, below) = and_parts (f h [] 0) (each_node f a && (each_node f b && (each_node f c && true))) e in
      let (x, rest) = and_parts (each_node f a) (each_node f b && (each_node f c && true)) below in
      let (y, last) = and_parts (each_node f b) (each_node f c && true) rest in
      (x, y, left (each_node f c) true last)

  of_statement : (a : Tree) → each_node f (expression_statement a) ≡ true → each_node f a ≡ true
  of_statement a e = left (each_node f a) true (right (f shape.ExpressionStatement [] 0) (each_node f a && true) e)

  abbrev Each : Tree → Type 0
  Each t = each_node f t ≡ true

  row_each : (p : Position) (t u : Tree) → Row p t u → Each t → Each u
  row_each (Expr s) t u (inl r) e = subst Each (sym r.written) (neg_each_node s r.e (of_negation r.e (subst Each r.shape e)))
  row_each (Expr s) t u (inr r) e =
      let (a, b, c) = of_three shape.ConditionalExpression (negation r.a) r.b r.c (subst Each r.shape e) in
      subst Each (sym r.written) (conditional_each r.a r.c r.b (of_negation r.a a) c b)
  row_each (Stmt q) t u (inl r) e =
      let (a, b, c) = of_three shape.IfStatement r.a (expression_statement r.b) (expression_statement r.c) (subst Each r.shape e) in
      subst Each (sym r.written) (statement_each (conditional r.a r.b r.c) (conditional_each r.a r.b r.c a (of_statement r.b b) (of_statement r.c c)))
  row_each (Stmt q) t u (inr (inl r)) e =
      let (a, b, c) = of_three shape.IfStatement r.a (expression_statement r.b) absent (subst Each r.shape e) in
      subst Each (sym r.written) (statement_each (logical And r.a r.b) (and_each r.a r.b a (of_statement r.b b)))
  row_each (Stmt q) t u (inr (inr r)) e =
      let (a, b, c) = of_three shape.IfStatement r.a (expression_statement r.b) absent (subst Each r.shape e) in
      let x : Tree = not_of (left_operand_seat Or statement_expression_seat) r.a in
      subst Each (sym r.written) (statement_each (logical Or x r.b) (or_each x r.b (not_of_each (left_operand_seat Or statement_expression_seat) r.a a) (of_statement r.b b)))
  row_each p t u r e = absurd r

  mutual
    step_each : {p : Position} {t u : Tree} → Step Contracts p t u → Each t → Each u
    step_each (here p t u c) e = row_each p t u c.row e
    step_each (inside p h xs n ts us s) e =
        let (own, below) = and_parts (f h xs n) (each_nodes f ts) e in
        both (f h xs n) (each_nodes f us) own (step_each_in s below)

    step_each_in : {π : ℕ → Position} {ts us : Trees} → StepIn Contracts π ts us → each_nodes f ts ≡ true → each_nodes f us ≡ true
    step_each_in (first π t u ts s) e =
        let (own, rest) = and_parts (each_node f t) (each_nodes f ts) e in
        both (each_node f u) (each_nodes f ts) (step_each s own) rest
    step_each_in (later π t ts us s) e =
        let (own, rest) = and_parts (each_node f t) (each_nodes f ts) e in
        both (each_node f t) (each_nodes f us) own (step_each_in s rest)

  pub reaches_each : {p : Position} {t u : Tree} → Reaches Contracts p t u → Each t → Each u
  reaches_each (done p t) e = e
  reaches_each (more p t w u s r) e = reaches_each r (step_each s e)

  pub each_step : {p : Position} {t u : Tree} → Step Contracts p t u → Each t → Each u
  each_step s e = step_each s e

  -- below a root where no row writes

  same_over : (t : Tree) → t ≡ over t (children t)
  same_over (node h xs n ts) = refl

  over_over : (t w u : Tree) → w ≡ over t (children w) → u ≡ over w (children u) → u ≡ over t (children u)
  over_over (node h xs n ts) w u a b = b ∙ ap (λ v. over v (children u)) a

  below_step : {p : Position} {t u : Tree} → ((v w : Tree) → Row p v w → ⊥) → Step Contracts p t u → each_nodes f (children t) ≡ true → (each_nodes f (children u) ≡ true) × (u ≡ over t (children u))
  below_step never (here p t u c) e = absurd (never t u c.row)
  below_step never (inside p h xs n ts us s) e = (step_each_in s e, refl)

  pub reaches_below : {p : Position} {t u : Tree} → ((v w : Tree) → Row p v w → ⊥) → Reaches Contracts p t u → each_nodes f (children t) ≡ true → (each_nodes f (children u) ≡ true) × (u ≡ over t (children u))
  reaches_below never (done p t) e = (e, same_over t)
  reaches_below never (more p t w u s r) e =
      let (below, one) = below_step never s e in
      let (rest, others) = reaches_below never r below in
      (rest, over_over t w u one others)

-- What a row writes has the bodies of what it reads.
use Rattle.std.specs.Prelude.{ℕ, zero, suc, ◌≡◌, refl, ◌||◌, ◌&&◌, nat_lt, Bool, true, false, List, [], ◌∷◌, ◌++◌, if◌then◌else◌}
use Rattle.std.proofs.Common.{ap, ◌∙◌, sym, subst, inl, inr}
use Rattle.std.proofs.lemmas.Bool.{and_parts}
use Rattle.mini_model.specs.declared.name.Name.{Name}
use Rattle.mini_model.specs.declared.operator.BinaryOperator.{BinaryOperator}
use Rattle.mini_model.specs.declared.operator.LogicalOperator.TheVariants.{Or, And}
use Rattle.mini_model.specs.declared.operator.UnaryOperator.TheVariants.{LogicalNot}
use Rattle.mini_model.specs.declared.place.Position.{Position}
use Rattle.mini_model.specs.declared.place.Position.TheVariants.{Expr, Stmt}
use Rattle.mini_model.specs.declared.seat.Seat.{Seat}
use Rattle.mini_model.specs.declared.shape.Shape.TheVariants as shape
use Rattle.mini_model.specs.Tree.{Tree, Trees, node, none, ◌▸◌, negation, conditional, logical, expression_statement, absent, if_else, shape_of}
use Rattle.mini_model.specs.Position.{is_equality, statement_expression_seat, left_operand_seat}
use Rattle.mini_model.specs.Weight.{weight}
use Rattle.mini_model.specs.Terms.{is_boolean, turned_seat, unwrapped, turned_equality, neg, neg_each, not_of}
use Rattle.mini_model.specs.Redex.{Row, Contracts}
use Rattle.mini_accept.specs.WellShaped.{Class, a_statement, a_key, a_private_or_key, an_inner_key, a_method, an_expression, Slot, one, one_or_absent, these, is_whole, fits, fill}
use Rattle.mini_laws.specs.Body.{ArrowExpression}
use Rattle.mini_laws.specs.Bodies.{Around, Body, arrow_kind, bodies, bodies_from}
use Rattle.mini_laws.proofs.Rewritten.{rows_mean_same}
use Rattle.mini_kept.proofs.Bools.{left, right}
use Rattle.mini_kept.proofs.Expressions.{expression, AreExpressions, two, TakesExpression, refused_here, of_negation, neg_fits}
use Rattle.mini_kept.specs.AlikeBodies.{BodiesKept}
use Rattle.mini_kept.specs.Standing.{is_method_slot, Stands}
use Rattle.mini_kept.specs.Lifted.{is_piece}
use Rattle.mini_kept.specs.KeepsBodies.{KeepsBodies}
use Rattle.mini_kept.proofs.BodyLists.{first_of, second_of, both_of, each_of, kept_itself, kept_on}

-- ---- around the parts of an expression

abbrev quiet : Around → Around
quiet a = record a { constructs = false; is_assigned = false }

-- an expression reads nothing more of what is around it, where it is no constructor
at_rest : (strict : Bool) (a : Around) (t : Tree) → fits strict expression t ≡ true → bodies (record a { constructs = false }) t ≡ bodies (quiet a) t
at_rest strict a (node shape.Listed xs n ts) e = absurd (refused_here strict expression shape.Listed xs n ts refl e)
at_rest strict a (node shape.InnerExpression xs n ts) e = absurd (refused_here strict expression shape.InnerExpression xs n ts refl e)
at_rest strict a (node shape.RestElement xs n ts) e = absurd (refused_here strict expression shape.RestElement xs n ts refl e)
at_rest strict a (node shape.AssignmentPattern xs n ts) e = absurd (refused_here strict expression shape.AssignmentPattern xs n ts refl e)
at_rest strict a (node h xs n ts) e = refl

rested : (strict : Bool) (a : Around) (t : Tree) → a.constructs ≡ false → fits strict expression t ≡ true → bodies a t ≡ bodies (quiet a) t
rested strict a t k e = ap (λ c. bodies (record a { constructs = c }) t) k ∙ at_rest strict a t e

-- ---- the negation of an expression

of_one : (bs cs : List Body) → BodiesKept bs cs → BodiesKept bs (cs ++ [])
of_one bs cs k = both_of bs cs [] k tt

unwrapped_bodies : (strict : Bool) (a : Around) (b : Bool) (x n : Tree) (bs : List Body) → a.constructs ≡ false → fits strict expression x ≡ true → BodiesKept bs (bodies (quiet a) x) → BodiesKept bs (bodies (quiet a) n) → BodiesKept bs (bodies a (unwrapped b x n))
unwrapped_bodies strict a true x n bs k e f g = subst (BodiesKept bs) (sym (rested strict a x k e)) f
unwrapped_bodies strict a false x n bs k e f g = of_one bs (bodies (quiet a) n) g

equality_bodies : (a : Around) (b : Bool) (o : BinaryOperator) (xs : List Name) (n : ℕ) (ts : Trees) → BodiesKept (bodies (quiet a) (node (shape.BinaryExpression o) xs n ts)) (bodies a (turned_equality b o xs n ts))
equality_bodies a true o xs n ts = kept_itself (bodies (quiet a) (node (shape.BinaryExpression o) xs n ts))
equality_bodies a false o xs n ts = of_one (bodies (quiet a) (node (shape.BinaryExpression o) xs n ts)) (bodies (quiet a) (node (shape.BinaryExpression o) xs n ts)) (kept_itself (bodies (quiet a) (node (shape.BinaryExpression o) xs n ts)))

mutual
  negated_bodies : (strict : Bool) (a : Around) (t : Tree) (s : Seat) → a.constructs ≡ false → fits strict expression t ≡ true → BodiesKept (bodies (quiet a) t) (bodies a (neg s t))
  negated_bodies strict a (node (shape.LogicalExpression And) xs n ts) s k e =
      each_bodies strict (quiet a) ts (turned_seat (shape.LogicalExpression And) s) two 0 tt (right (is_whole an_expression (shape.LogicalExpression And) xs n ts) (fill strict (these two) ts) e)
  negated_bodies strict a (node (shape.LogicalExpression Or) xs n ts) s k e =
      each_bodies strict (quiet a) ts (turned_seat (shape.LogicalExpression Or) s) two 0 tt (right (is_whole an_expression (shape.LogicalExpression Or) xs n ts) (fill strict (these two) ts) e)
  negated_bodies strict a (node (shape.UnaryExpression LogicalNot) xs n (x ▸ none)) s k e =
      let parts = right (is_whole an_expression (shape.UnaryExpression LogicalNot) xs n (x ▸ none)) (fits strict expression x && true) e in
      let bs : List Body = bodies (quiet a) (node (shape.UnaryExpression LogicalNot) xs n (x ▸ none)) in
      unwrapped_bodies strict a (s.boolean || is_boolean x) x (node (shape.UnaryExpression LogicalNot) xs n (x ▸ none)) bs k (left (fits strict expression x) true parts)
      (first_of (bodies (quiet a) x) [] (bodies (quiet a) x) (kept_itself (bodies (quiet a) x))) (kept_itself bs)
  negated_bodies strict a (node (shape.BinaryExpression o) xs n ts) s k e = equality_bodies a (is_equality o) o xs n ts
  negated_bodies strict a (node h xs n ts) s k e = of_one (bodies (quiet a) (node h xs n ts)) (bodies (quiet a) (node h xs n ts)) (kept_itself (bodies (quiet a) (node h xs n ts)))

  each_bodies : (strict : Bool) (a : Around) (ts : Trees) (σ : ℕ → Seat) (ss : List Slot) (i : ℕ) → AreExpressions ss → fill strict (these ss) ts ≡ true → BodiesKept (bodies_from (λ j. quiet a) i ts) (bodies_from (λ j. quiet a) i (neg_each σ ts))
  each_bodies strict a none σ ss i k e = tt
  each_bodies strict a (t ▸ ts) σ [] i k e = absurd (cc e)
  each_bodies strict a (t ▸ ts) σ (one an_expression ∷ ss) i k e =
      let (first, rest) = and_parts (fits strict expression t) (fill strict (these ss) ts) e in
      each_of (bodies (quiet a) t) (bodies_from (λ j. quiet a) (suc i) ts) (bodies (quiet a) (neg (σ zero) t)) (bodies_from (λ j. quiet a) (suc i) (neg_each (λ j. σ (suc j)) ts))
      (negated_bodies strict (quiet a) t (σ zero) refl first) (each_bodies strict a ts (λ j. σ (suc j)) ss (suc i) k rest)
  each_bodies strict a (t ▸ ts) σ (s ∷ ss) i k e = absurd k

chosen : (P : Tree → Type 0) (b : Bool) (t u : Tree) → P t → P u → P (if b then t else u)
chosen P true t u x y = x
chosen P false t u x y = y

pub not_of_bodies : (strict : Bool) (a : Around) (s : Seat) (t : Tree) → a.constructs ≡ false → fits strict expression t ≡ true → BodiesKept (bodies (quiet a) t) (bodies a (not_of s t))
not_of_bodies strict a s t k e =
    chosen (λ u. BodiesKept (bodies (quiet a) t) (bodies a u)) (nat_lt (weight (Expr s) (negation t)) (weight (Expr s) (neg s t))) (negation t) (neg s t)
    (of_one (bodies (quiet a) t) (bodies (quiet a) t) (kept_itself (bodies (quiet a) t))) (negated_bodies strict a t s k e)

-- ---- rows

-- a slot that takes an expression is no method's value
no_method : (s : Slot) → TakesExpression s → is_method_slot s ≡ false
no_method (one a_method) k = absurd k
no_method (one c) k = refl
no_method s k = refl

if_in : (strict : Bool) (k : Class) (a b c : Tree) → fits strict (one k) (if_else a b c) ≡ true → fits strict expression a ≡ true
if_in strict (a_statement d) a b c e = left (fits strict expression a) _ e
if_in strict (a_key true) a b c e = absurd (refused_here strict (one (a_key true)) shape.IfStatement [] 0 (a ▸ (b ▸ (c ▸ none))) refl e)
if_in strict (a_private_or_key true) a b c e = absurd (refused_here strict (one (a_private_or_key true)) shape.IfStatement [] 0 (a ▸ (b ▸ (c ▸ none))) refl e)
if_in strict (an_inner_key true) a b c e = absurd (refused_here strict (one (an_inner_key true)) shape.IfStatement [] 0 (a ▸ (b ▸ (c ▸ none))) refl e)
if_in strict k a b c e = absurd (refused_here strict (one k) shape.IfStatement [] 0 (a ▸ (b ▸ (c ▸ none))) refl e)

of_if : (strict : Bool) (s : Slot) (a b c : Tree) → fits strict s (if_else a b c) ≡ true → fits strict expression a ≡ true
of_if strict (one k) a b c e = if_in strict k a b c e
of_if strict (one_or_absent k) a b c e = if_in strict k a b c e
of_if strict s a b c e = absurd (refused_here strict s shape.IfStatement [] 0 (a ▸ (b ▸ (c ▸ none))) refl e)

three_of : (xs bs cs ds : List Body) → BodiesKept ds xs → BodiesKept ds bs → BodiesKept ds cs → BodiesKept ds (xs ++ (bs ++ (cs ++ [])))
three_of xs bs cs ds k l m = both_of ds xs (bs ++ (cs ++ [])) k (both_of ds bs (cs ++ []) l (of_one ds cs m))

first_three : (bs cs ds : List Body) → BodiesKept (bs ++ (cs ++ (ds ++ []))) bs
first_three bs cs ds = first_of bs (cs ++ (ds ++ [])) bs (kept_itself bs)

second_three : (bs cs ds : List Body) → BodiesKept (bs ++ (cs ++ (ds ++ []))) cs
second_three bs cs ds = second_of bs (cs ++ (ds ++ [])) cs (first_of cs (ds ++ []) cs (kept_itself cs))

third_three : (bs cs ds : List Body) → BodiesKept (bs ++ (cs ++ (ds ++ []))) ds
third_three bs cs ds = second_of bs (cs ++ (ds ++ [])) ds (second_of cs (ds ++ []) ds (first_of ds [] ds (kept_itself ds)))

-- of one that stands alone
of_alone : (bs cs : List Body) → BodiesKept bs (cs ++ []) → BodiesKept bs cs
of_alone bs cs k = kept_on bs (cs ++ []) cs k (first_of cs [] cs (kept_itself cs))

module _ (a : Around) where
  abbrev In : Tree → List Body
  In t = bodies (quiet a) t

  pub turned_bodies : (x y z : Tree) → BodiesKept (bodies a (conditional (negation x) y z)) (bodies a (conditional x z y))
  turned_bodies x y z =
      let all : List Body = bodies a (conditional (negation x) y z) in
      three_of (In x) (In z) (In y) all (of_alone all (In x) (first_three (In x ++ []) (In y) (In z))) (third_three (In x ++ []) (In y) (In z)) (second_three (In x ++ []) (In y) (In z))

  joined_bodies : (x y z : Tree) → BodiesKept (bodies a (if_else x (expression_statement y) (expression_statement z))) (bodies a (expression_statement (conditional x y z)))
  joined_bodies x y z =
      let all : List Body = bodies a (if_else x (expression_statement y) (expression_statement z)) in
      of_one all (In x ++ (In y ++ (In z ++ [])))
      (three_of (In x) (In y) (In z) all (first_three (In x) (In y ++ []) (In z ++ [])) (of_alone all (In y) (second_three (In x) (In y ++ []) (In z ++ []))) (of_alone all (In z) (third_three (In x) (In y ++ []) (In z ++ []))))

  -- without `else`
  alone_bodies : (x v y : Tree) → BodiesKept (In x) (In v) → BodiesKept (bodies a (if_else x (expression_statement y) absent)) ((In v ++ (In y ++ [])) ++ [])
  alone_bodies x v y k =
      let all : List Body = bodies a (if_else x (expression_statement y) absent) in
      of_one all (In v ++ (In y ++ [])) (both_of all (In v) (In y ++ []) (kept_on all (In x) (In v) (first_three (In x) (In y ++ []) []) k) (second_three (In x) (In y ++ []) []))

row_bodies : (strict : Bool) (s : Slot) (p : Position) (t u : Tree) → Row p t u → fits strict s t ≡ true → (a : Around) → Stands s p a → BodiesKept (bodies a t) (bodies a u)
row_bodies strict s (Expr seat) t u (inl r) e a z =
    let (takes, fit) = of_negation strict s r.e (subst (λ x. fits strict s x ≡ true) r.shape e) in
    subst (BodiesKept (bodies a t)) (sym (ap (bodies a) r.written)) (subst (λ bs. BodiesKept bs (bodies a (neg seat r.e))) (sym (ap (bodies a) r.shape))
    (kept_on (bodies a (negation r.e)) (bodies (quiet a) r.e) (bodies a (neg seat r.e)) (first_of (bodies (quiet a) r.e) [] (bodies (quiet a) r.e) (kept_itself (bodies (quiet a) r.e))) (negated_bodies strict a r.e seat (z.function (no_method s takes)) fit)))
row_bodies strict s (Expr seat) t u (inr r) e a z =
    subst (BodiesKept (bodies a t)) (sym (ap (bodies a) r.written)) (subst (λ bs. BodiesKept bs (bodies a (conditional r.a r.c r.b))) (sym (ap (bodies a) r.shape)) (turned_bodies a r.a r.b r.c))
row_bodies strict s (Stmt q) t u (inl r) e a z =
    subst (BodiesKept (bodies a t)) (sym (ap (bodies a) r.written)) (subst (λ bs. BodiesKept bs (bodies a (expression_statement (conditional r.a r.b r.c)))) (sym (ap (bodies a) r.shape)) (joined_bodies a r.a r.b r.c))
row_bodies strict s (Stmt q) t u (inr (inl r)) e a z =
    subst (BodiesKept (bodies a t)) (sym (ap (bodies a) r.written)) (subst (λ bs. BodiesKept bs (bodies a (expression_statement (logical And r.a r.b)))) (sym (ap (bodies a) r.shape)) (alone_bodies a r.a r.a r.b (kept_itself (bodies (quiet a) r.a))))
row_bodies strict s (Stmt q) t u (inr (inr r)) e a z =
    let x : Tree = not_of (left_operand_seat Or statement_expression_seat) r.a in
    let fit = of_if strict s r.a (expression_statement r.b) absent (subst (λ x. fits strict s x ≡ true) r.shape e) in
    subst (BodiesKept (bodies a t)) (sym (ap (bodies a) r.written)) (subst (λ bs. BodiesKept bs (bodies a (expression_statement (logical Or x r.b)))) (sym (ap (bodies a) r.shape))
    (alone_bodies a r.a x r.b (not_of_bodies strict (quiet a) (left_operand_seat Or statement_expression_seat) r.a refl fit)))
row_bodies strict s p t u r e a z = absurd r

-- no row writes the body of a function where an expression stood

no_piece : (p : Position) (t u : Tree) → Row p t u → is_piece (shape_of t) ≡ false
no_piece (Expr s) t u (inl r) = ap (λ x. is_piece (shape_of x)) r.shape
no_piece (Expr s) t u (inr r) = ap (λ x. is_piece (shape_of x)) r.shape
no_piece (Stmt q) t u (inl r) = ap (λ x. is_piece (shape_of x)) r.shape
no_piece (Stmt q) t u (inr (inl r)) = ap (λ x. is_piece (shape_of x)) r.shape
no_piece (Stmt q) t u (inr (inr r)) = ap (λ x. is_piece (shape_of x)) r.shape
no_piece p t u r = absurd r

pub expression_kind : (strict : Bool) (t : Tree) → fits strict expression t ≡ true → arrow_kind (shape_of t) ≡ ArrowExpression
expression_kind strict (node shape.FunctionBody xs n ts) e = absurd (refused_here strict expression shape.FunctionBody xs n ts refl e)
expression_kind strict (node h xs n ts) e = refl

row_kind : (strict : Bool) (s : Slot) (p : Position) (t u : Tree) → Row p t u → fits strict s t ≡ true → arrow_kind (shape_of t) ≡ arrow_kind (shape_of u)
row_kind strict s (Expr seat) t u (inl r) e =
    let (takes, fit) = of_negation strict s r.e (subst (λ x. fits strict s x ≡ true) r.shape e) in
    ap (λ x. arrow_kind (shape_of x)) r.shape ∙ sym (ap (λ x. arrow_kind (shape_of x)) r.written ∙ expression_kind strict (neg seat r.e) (neg_fits strict r.e seat fit))
row_kind strict s (Expr seat) t u (inr r) e = ap (λ x. arrow_kind (shape_of x)) r.shape ∙ sym (ap (λ x. arrow_kind (shape_of x)) r.written)
row_kind strict s (Stmt q) t u (inl r) e = ap (λ x. arrow_kind (shape_of x)) r.shape ∙ sym (ap (λ x. arrow_kind (shape_of x)) r.written)
row_kind strict s (Stmt q) t u (inr (inl r)) e = ap (λ x. arrow_kind (shape_of x)) r.shape ∙ sym (ap (λ x. arrow_kind (shape_of x)) r.written)
row_kind strict s (Stmt q) t u (inr (inr r)) e = ap (λ x. arrow_kind (shape_of x)) r.shape ∙ sym (ap (λ x. arrow_kind (shape_of x)) r.written)
row_kind strict s p t u r e = absurd r

pub rows_keep_bodies : KeepsBodies Contracts
rows_keep_bodies = record {
  means = rows_mean_same;
  pieces = λ p n w c. no_piece p n w c.row;
  kind = λ p n w c strict s e. row_kind strict s p n w c.row e;
  bodies = λ p n w c strict s k e a z. row_bodies strict s p n w c.row e a z;
}

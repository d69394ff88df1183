-- What a row writes has the frames of what it reads.
use Rattle.std.specs.Prelude.{ℕ, zero, suc, ◌≡◌, refl, ◌||◌, nat_lt, Bool, true, false, List, [], ◌∷◌, ◌++◌, None, if◌then◌else◌}
use Rattle.std.proofs.Common.{ap, ◌∙◌, sym, subst, inl, inr, true≢false}
use Rattle.std.proofs.Math.Dec.{eqb-suc-zero}
use Rattle.std.proofs.lemmas.Bool.{and_parts}
use Rattle.std.proofs.lemmas.List.{append-nil}
use Rattle.mini_model.specs.declared.name.Name.{Name}
use Rattle.mini_model.specs.declared.operator.BinaryOperator.{BinaryOperator}
use Rattle.mini_model.specs.declared.operator.LogicalOperator.{LogicalOperator}
use Rattle.mini_model.specs.declared.operator.LogicalOperator.TheVariants.{Or, And}
use Rattle.mini_model.specs.declared.operator.UnaryOperator.TheVariants.{LogicalNot}
use Rattle.mini_model.specs.declared.place.Position.{Position}
use Rattle.mini_model.specs.declared.place.Position.TheVariants.{Expr, Stmt}
use Rattle.mini_model.specs.declared.seat.Seat.{Seat}
use Rattle.mini_model.specs.declared.shape.Shape.TheVariants as shape
use Rattle.mini_model.specs.Tree.{Tree, Trees, node, none, ◌▸◌, negation, conditional, expression_statement, absent, shape_of}
use Rattle.mini_model.specs.Position.{is_equality, statement_expression_seat, left_operand_seat}
use Rattle.mini_model.specs.Weight.{weight}
use Rattle.mini_model.specs.Terms.{is_boolean, turned_seat, unwrapped, turned_equality, neg, neg_each, not_of}
use Rattle.mini_model.specs.Redex.{Row, Contracts}
use Rattle.mini_accept.specs.WellShaped.{Depth, Class, a_statement, an_expression, an_init, a_link, an_argument, an_arrow_body, a_key, a_default_export, Slot, one, one_or_absent, these, is_whole, fits, fill}
use Rattle.mini_kept.specs.Frames.{Frame, is_declaration, is_port, frames, frames_from, FramesKept}
use Rattle.mini_kept.specs.KeepsFrames.{is_in_body, is_body_slot, KeepsFrames}
use Rattle.mini_kept.proofs.Bools.{right}
use Rattle.mini_kept.proofs.Expressions.{expression, AreExpressions, two, TakesExpressionIn, TakesExpression, refused_here, of_negation, of_conditional, neg_fits}
use Rattle.mini_kept.proofs.Rows.{TakesStatementIn, TakesStatement, of_if}
use Rattle.mini_kept.proofs.Instances.{row_elsewhere, contracts_keep}
use Rattle.mini_kept.proofs.FrameLists.{same_frames, first_of, second_of, both_of, alone_of}
use Rattle.mini_kept.proofs.FrameSteps.{its_number, kept_are_shown}

-- ---- the negation of an expression

abbrev In : Tree → List Frame
In t = frames None t

unwrapped_frames : (b : Bool) (x n : Tree) → In x ≡ In n → In (unwrapped b x n) ≡ In n
unwrapped_frames true x n e = e
unwrapped_frames false x n e = append-nil (In n)

no_number : (strict : Bool) (o : LogicalOperator) (xs : List Name) (n : ℕ) (ts : Trees) → fits strict expression (node (shape.LogicalExpression o) xs (suc n) ts) ≡ true → ⊥
no_number strict o xs n ts e = cc (sym (eqb-suc-zero n) ∙ its_number an_expression (shape.LogicalExpression o) xs (suc n) ts (fill strict (these two) ts) e)

equality_frames : (b : Bool) (o : BinaryOperator) (xs : List Name) (ts : Trees) → In (turned_equality b o xs 0 ts) ≡ In (node (shape.BinaryExpression o) xs 0 ts)
equality_frames true o xs ts = refl
equality_frames false o xs ts = append-nil (In (node (shape.BinaryExpression o) xs 0 ts))

mutual
  negated_frames : (strict : Bool) (t : Tree) (s : Seat) → fits strict expression t ≡ true → In (neg s t) ≡ In t
  negated_frames strict (node (shape.LogicalExpression And) xs zero ts) s e =
      each_frames strict ts (turned_seat (shape.LogicalExpression And) s) two 0 tt (right (is_whole an_expression (shape.LogicalExpression And) xs 0 ts) (fill strict (these two) ts) e)
  negated_frames strict (node (shape.LogicalExpression Or) xs zero ts) s e =
      each_frames strict ts (turned_seat (shape.LogicalExpression Or) s) two 0 tt (right (is_whole an_expression (shape.LogicalExpression Or) xs 0 ts) (fill strict (these two) ts) e)
  negated_frames strict (node (shape.LogicalExpression And) xs (suc n) ts) s e = absurd (no_number strict And xs n ts e)
  negated_frames strict (node (shape.LogicalExpression Or) xs (suc n) ts) s e = absurd (no_number strict Or xs n ts e)
  negated_frames strict (node (shape.UnaryExpression LogicalNot) xs zero (x ▸ none)) s e =
      unwrapped_frames (s.boolean || is_boolean x) x (node (shape.UnaryExpression LogicalNot) xs 0 (x ▸ none)) (sym (append-nil (In x)))
  negated_frames strict (node (shape.UnaryExpression LogicalNot) xs (suc n) (x ▸ none)) s e =
      absurd (cc (sym (eqb-suc-zero n) ∙ its_number an_expression (shape.UnaryExpression LogicalNot) xs (suc n) (x ▸ none) (fill strict (these (expression ∷ [])) (x ▸ none)) e))
  negated_frames strict (node (shape.BinaryExpression o) xs zero ts) s e = equality_frames (is_equality o) o xs ts
  negated_frames strict (node (shape.BinaryExpression o) xs (suc n) ts) s e = absurd (cc (sym (eqb-suc-zero n) ∙ its_number an_expression (shape.BinaryExpression o) xs (suc n) ts (fill strict (these two) ts) e))
  negated_frames strict (node h xs n ts) s e = append-nil (In (node h xs n ts))

  each_frames : (strict : Bool) (ts : Trees) (σ : ℕ → Seat) (ss : List Slot) (i : ℕ) → AreExpressions ss → fill strict (these ss) ts ≡ true → frames_from (λ j. None) i (neg_each σ ts) ≡ frames_from (λ j. None) i ts
  each_frames strict none σ ss i k e = refl
  each_frames strict (t ▸ ts) σ [] i k e = absurd (cc e)
  each_frames strict (t ▸ ts) σ (one an_expression ∷ ss) i k e =
      let (first, rest) = and_parts (fits strict expression t) (fill strict (these ss) ts) e in
      ap (λ fs. fs ++ frames_from (λ j. None) (suc i) (neg_each (λ j. σ (suc j)) ts)) (negated_frames strict t (σ zero) first)
      ∙ ap (λ fs. In t ++ fs) (each_frames strict ts (λ j. σ (suc j)) ss (suc i) k rest)
  each_frames strict (t ▸ ts) σ (s ∷ ss) i k e = absurd k

chosen : (P : Tree → Type 0) (b : Bool) (t u : Tree) → P t → P u → P (if b then t else u)
chosen P true t u x y = x
chosen P false t u x y = y

pub not_of_frames : (strict : Bool) (s : Seat) (t : Tree) → fits strict expression t ≡ true → In (not_of s t) ≡ In t
not_of_frames strict s t e = chosen (λ u. In u ≡ In t) (nat_lt (weight (Expr s) (negation t)) (weight (Expr s) (neg s t))) (negation t) (neg s t) (append-nil (In t)) (negated_frames strict t s e)

-- ---- rows

pub turned : (x y z : Tree) → FramesKept (In (conditional (negation x) y z)) (In (conditional x z y))
turned x y z =
    let all : List Frame = In (conditional (negation x) y z) in
    let others : List Frame = In y ++ (In z ++ []) in
    both_of all (In x) (In z ++ (In y ++ [])) (first_of (In x ++ []) others (In x) (first_of (In x) [] (In x) (λ f k. k)))
    (both_of all (In z) (In y ++ []) (second_of (In x ++ []) others (In z) (second_of (In y) (In z ++ []) (In z) (first_of (In z) [] (In z) (λ f k. k))))
    (second_of (In x ++ []) others (In y ++ []) (alone_of others (In y) (first_of (In y) (In z ++ []) (In y) (λ f k. k)))))

joined : (xs ys zs : List Frame) → xs ++ ((ys ++ []) ++ ((zs ++ []) ++ [])) ≡ (xs ++ (ys ++ (zs ++ []))) ++ []
joined xs ys zs = ap (λ fs. xs ++ (fs ++ ((zs ++ []) ++ []))) (append-nil ys) ∙ (ap (λ fs. xs ++ (ys ++ fs)) (append-nil (zs ++ [])) ∙ sym (append-nil (xs ++ (ys ++ (zs ++ [])))))

-- without `else`
alone : (xs vs ys : List Frame) → vs ≡ xs → xs ++ ((ys ++ []) ++ []) ≡ (vs ++ (ys ++ [])) ++ []
alone xs vs ys e = ap (λ fs. xs ++ fs) (append-nil (ys ++ [])) ∙ (ap (λ fs. fs ++ (ys ++ [])) (sym e) ∙ sym (append-nil (vs ++ (ys ++ []))))

row_frames : (strict : Bool) (s : Slot) (p : Position) (t u : Tree) → Row p t u → fits strict s t ≡ true → FramesKept (In t) (In u)
row_frames strict s (Expr seat) t u (inl r) e =
    let (takes, fit) = of_negation strict s r.e (subst (λ x. fits strict s x ≡ true) r.shape e) in
    same_frames (In t) (In u) (ap In r.shape ∙ (append-nil (In r.e) ∙ (sym (negated_frames strict r.e seat fit) ∙ sym (ap In r.written))))
row_frames strict s (Expr seat) t u (inr r) e = subst (FramesKept (In t)) (sym (ap In r.written)) (subst (λ fs. FramesKept fs (In (conditional r.a r.c r.b))) (sym (ap In r.shape)) (turned r.a r.b r.c))
row_frames strict s (Stmt q) t u (inl r) e = same_frames (In t) (In u) (ap In r.shape ∙ (joined (In r.a) (In r.b) (In r.c) ∙ sym (ap In r.written)))
row_frames strict s (Stmt q) t u (inr (inl r)) e = same_frames (In t) (In u) (ap In r.shape ∙ (alone (In r.a) (In r.a) (In r.b) refl ∙ sym (ap In r.written)))
row_frames strict s (Stmt q) t u (inr (inr r)) e =
    let (takes, parts) = of_if strict s r.a (expression_statement r.b) absent (subst (λ x. fits strict s x ≡ true) r.shape e) in
    let seat : Seat = left_operand_seat Or statement_expression_seat in
    same_frames (In t) (In u) (ap In r.shape ∙ (alone (In r.a) (In (not_of seat r.a)) (In r.b) (not_of_frames strict seat r.a parts.0) ∙ sym (ap In r.written)))
row_frames strict s p t u r e = absurd r

-- ---- the slots of rows

expression_class : (c : Class) → TakesExpressionIn c → is_in_body c ≡ true
expression_class an_expression k = refl
expression_class a_link k = refl
expression_class an_argument k = refl
expression_class an_init k = refl
expression_class (a_key true) k = refl
expression_class an_arrow_body k = refl
expression_class a_default_export k = refl
expression_class c k = absurd k

pub expression_slot : (p : Position) (s : Slot) → TakesExpression s → is_body_slot p s ≡ true
expression_slot p (one c) k = expression_class c k
expression_slot p (one_or_absent c) k = expression_class c k
expression_slot p s k = absurd k

statement_class : (c : Class) → TakesStatementIn c → is_in_body c ≡ true
statement_class (a_statement d) k = refl
statement_class c k = absurd k

statement_slot : (p : Position) (s : Slot) → TakesStatement s → is_body_slot p s ≡ true
statement_slot p (one c) k = statement_class c k
statement_slot p (one_or_absent c) k = statement_class c k
statement_slot p s k = absurd k

row_slot : (strict : Bool) (s : Slot) (p : Position) (t u : Tree) → Row p t u → fits strict s t ≡ true → is_body_slot p s ≡ true
row_slot strict s (Expr seat) t u (inl r) e = expression_slot (Expr seat) s (of_negation strict s r.e (subst (λ x. fits strict s x ≡ true) r.shape e)).0
row_slot strict s (Expr seat) t u (inr r) e = expression_slot (Expr seat) s (of_conditional strict s (negation r.a) r.b r.c (subst (λ x. fits strict s x ≡ true) r.shape e)).0
row_slot strict s (Stmt q) t u (inl r) e = statement_slot (Stmt q) s (of_if strict s r.a (expression_statement r.b) (expression_statement r.c) (subst (λ x. fits strict s x ≡ true) r.shape e)).0
row_slot strict s (Stmt q) t u (inr (inl r)) e = statement_slot (Stmt q) s (of_if strict s r.a (expression_statement r.b) absent (subst (λ x. fits strict s x ≡ true) r.shape e)).0
row_slot strict s (Stmt q) t u (inr (inr r)) e = statement_slot (Stmt q) s (of_if strict s r.a (expression_statement r.b) absent (subst (λ x. fits strict s x ≡ true) r.shape e)).0
row_slot strict s p t u r e = absurd r

-- ---- imports, exports and declarations

-- an `if` and the statement that is written for it
row_ports : (strict : Bool) (d : Depth) (p : Position) (t u : Tree) → Row p t u → fits strict (one (a_statement d)) t ≡ true → (m : Bool) → (is_port m (shape_of t) ≡ false) × (is_port m (shape_of u) ≡ false)
row_ports strict d (Expr seat) t u (inl r) e m = absurd (of_negation strict (one (a_statement d)) r.e (subst (λ x. fits strict (one (a_statement d)) x ≡ true) r.shape e)).0
row_ports strict d (Expr seat) t u (inr r) e m = absurd (of_conditional strict (one (a_statement d)) (negation r.a) r.b r.c (subst (λ x. fits strict (one (a_statement d)) x ≡ true) r.shape e)).0
row_ports strict d (Stmt q) t u (inl r) e m = (ap (λ x. is_port m (shape_of x)) r.shape, ap (λ x. is_port m (shape_of x)) r.written)
row_ports strict d (Stmt q) t u (inr (inl r)) e m = (ap (λ x. is_port m (shape_of x)) r.shape, ap (λ x. is_port m (shape_of x)) r.written)
row_ports strict d (Stmt q) t u (inr (inr r)) e m = (ap (λ x. is_port m (shape_of x)) r.shape, ap (λ x. is_port m (shape_of x)) r.written)
row_ports strict d p t u r e m = absurd r

undeclared : (strict : Bool) (t : Tree) → fits strict expression t ≡ true → is_declaration (shape_of t) ≡ false
undeclared strict (node (shape.VariableDeclaration k) xs n ts) e = absurd (refused_here strict expression (shape.VariableDeclaration k) xs n ts refl e)
undeclared strict (node (shape.Function true g ds) xs n ts) e = absurd (refused_here strict expression (shape.Function true g ds) xs n ts refl e)
undeclared strict (node (shape.Class true) xs n ts) e = absurd (refused_here strict expression (shape.Class true) xs n ts refl e)
undeclared strict (node (shape.Function false g ds) xs n ts) e = refl
undeclared strict (node (shape.Class false) xs n ts) e = refl
undeclared strict (node h xs n ts) e = refl

row_exported : (strict : Bool) (p : Position) (t u : Tree) → Row p t u → fits strict (one a_default_export) t ≡ true → (is_declaration (shape_of t) ≡ false) × (is_declaration (shape_of u) ≡ false)
row_exported strict (Expr seat) t u (inl r) e =
    let (takes, fit) = of_negation strict (one a_default_export) r.e (subst (λ x. fits strict (one a_default_export) x ≡ true) r.shape e) in
    (ap (λ x. is_declaration (shape_of x)) r.shape, ap (λ x. is_declaration (shape_of x)) r.written ∙ undeclared strict (neg seat r.e) (neg_fits strict r.e seat fit))
row_exported strict (Expr seat) t u (inr r) e = (ap (λ x. is_declaration (shape_of x)) r.shape, ap (λ x. is_declaration (shape_of x)) r.written)
row_exported strict (Stmt q) t u (inl r) e = absurd (of_if strict (one a_default_export) r.a (expression_statement r.b) (expression_statement r.c) (subst (λ x. fits strict (one a_default_export) x ≡ true) r.shape e)).0
row_exported strict (Stmt q) t u (inr (inl r)) e = absurd (of_if strict (one a_default_export) r.a (expression_statement r.b) absent (subst (λ x. fits strict (one a_default_export) x ≡ true) r.shape e)).0
row_exported strict (Stmt q) t u (inr (inr r)) e = absurd (of_if strict (one a_default_export) r.a (expression_statement r.b) absent (subst (λ x. fits strict (one a_default_export) x ≡ true) r.shape e)).0
row_exported strict p t u r e = absurd r

pub rows_keep_frames : KeepsFrames Contracts
rows_keep_frames = record {
  names = contracts_keep;
  slots = λ p t u c strict s v e. inl (row_slot strict s p t u c.row e);
  ports = λ p t u c strict d e m. row_ports strict d p t u c.row e m;
  listed = λ p t u e c. absurd (true≢false (sym e ∙ row_elsewhere p t u c.row));
  exported = λ p t u c strict e. row_exported strict p t u c.row e;
  frames = λ p t u c strict s v e. kept_are_shown t u (row_frames strict s p t u c.row e);
}

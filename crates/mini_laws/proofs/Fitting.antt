-- A demand that fits a place gives each child one that fits its place.
use Rattle.std.proofs.Common.{◌≡◌, ℕ, zero, suc, Bool, true, false, List, length, Option, Some, None, refl, sym, ap, subst, ◌∙◌, inl, inr, true≢false, ⊎_elim, arith}
use Rattle.std.proofs.lemmas.Bool.{eqb-true, eq-eqb}
use Rattle.std.specs.Prelude.{◌⊎◌, ◌||◌, ◌&&◌, nat_eq, if◌then◌else◌}
use Rattle.mini_model.specs.declared.kind.VariableDeclarationKind.{VariableDeclarationKind}
use Rattle.mini_model.specs.declared.kind.VariableDeclarationKind.TheVariants.{Var}
use Rattle.mini_model.specs.declared.operator.BinaryOperator.{BinaryOperator}
use Rattle.mini_model.specs.declared.operator.LogicalOperator.{LogicalOperator}
use Rattle.mini_model.specs.declared.operator.LogicalOperator.TheVariants.{Or, And, Coalesce}
use Rattle.mini_model.specs.declared.operator.UnaryOperator.{UnaryOperator}
use Rattle.mini_model.specs.declared.operator.UnaryOperator.TheVariants as unary
use Rattle.mini_model.specs.declared.seat.Seat.{Seat}
use Rattle.mini_model.specs.declared.seat.StmtSeat.TheVariants as stmt_seat
use Rattle.mini_model.specs.declared.shape.Shape.{Shape}
use Rattle.mini_model.specs.declared.shape.Shape.TheVariants as shape
use Rattle.mini_model.specs.declared.place.Position.{Position}
use Rattle.mini_model.specs.declared.place.Position.TheVariants.{Expr, Stmt, StatementList, BodyList, ArgumentList, SequenceList, TemplateList, Elsewhere}
use Rattle.mini_model.specs.declared.place.Position.TheVariants as place
use Rattle.mini_model.specs.Position.{seat_of_level, argument_seat, branch_seat, passed_part_seat, new_callee_seat, object_seat, callee_seat, chained_seat, yield_argument_seat, if_test_seat, not_operand_seat, conditional_test_seat, is_and_or, operand_seat, unary_operand_seat, binary_operand_seat, part_seat, conditional_position, class_position, if_position, for_position, call_position, item_position, key_position, written_key_position, value_position, is_accessor, first_rest, first_second_rest, seat_at, child_position}
use Rattle.mini_laws.specs.Demand.{Want, Val, Test, Unused, Tail, FunctionTail, Demand, As, Callee, Target, Items, Parts, Texts, Stat, Binds, Cases, Deleted}
use Rattle.mini_laws.specs.Naming.{Declared, Variables, AClass, Facts, first_facts}
use Rattle.mini_laws.specs.Asking.{pass, and_or_demand, logical_demand, operand_demand, chained, first_demand, last_tail, tail_demand, tail_of, parts_demand, sequence_demand, list_demand, for_demand, each_demand, do_demand, try_demand, declaration_demand, exported_demand, demand}
use Rattle.mini_laws.specs.Fits.{Fits}

or_true : (a b : Bool) → a || b ≡ true → (a ≡ true) ⊎ (b ≡ true)
or_true true b h = inl refl
or_true false b h = inr h

or_false : (a b : Bool) → a ≡ false → b ≡ false → a || b ≡ false
or_false true b h k = h
or_false false b h k = k

and_right : (a b : Bool) → a && b ≡ true → b ≡ true
and_right true b h = h
and_right false b h = absurd (true≢false (sym h))

-- an operand of `&&` or `||`
fits_and_or : (o : LogicalOperator) (s : Seat) (w : Want) → Fits (Expr s) (As w) → (i : ℕ) → Fits (Expr (operand_seat o s i)) (and_or_demand w i)
fits_and_or o s Val f zero = (
  (λ h. ⊎_elim (λ k. f.0 k) (λ k. ⊎_elim (λ u. cc) (λ u. u) (f.1 k)) (or_true s.boolean s.unused (and_right (is_and_or o) (s.boolean || s.unused) h))),
  (λ h. absurd (true≢false (sym h))),
)
fits_and_or o s Val f (suc i) = ((λ h. f.0 (and_right (is_and_or o) s.boolean h)), (λ h. absurd (true≢false (sym h))))
fits_and_or o s Test f zero = ((λ h. refl), (λ h. absurd (true≢false (sym h))))
fits_and_or o s Test f (suc i) = ((λ h. refl), (λ h. absurd (true≢false (sym h))))
fits_and_or o s Unused f zero = ((λ h. refl), (λ h. absurd (true≢false (sym h))))
fits_and_or o s Unused f (suc i) = ((λ h. f.0 (and_right (is_and_or o) s.boolean h)), (λ h. absurd (true≢false (sym h))))

-- and of any logical expression
pub fits_operand : (o : LogicalOperator) (s : Seat) (w : Want) → Fits (Expr s) (As w) → (i : ℕ) → Fits (Expr (operand_seat o s i)) (logical_demand o w i)
fits_operand And s w f i = fits_and_or And s w f i
fits_operand Or s w f i = fits_and_or Or s w f i
fits_operand Coalesce s w f zero = ((λ h. absurd (true≢false (sym h))), (λ h. absurd (true≢false (sym h))))
fits_operand Coalesce s w f (suc i) = ((λ h. absurd (true≢false (sym h))), (λ h. absurd (true≢false (sym h))))

tail_fits : (p : Position) → ((t : Option Tail) → Fits p (Stat t)) → (n : ℕ) (t : Option Tail) (i : ℕ) → Fits p (tail_demand n t i)
tail_fits p f zero t i = f None
tail_fits p f (suc n) t zero = f (last_tail n t)
tail_fits p f (suc n) t (suc i) = tail_fits p f n t i

-- a seat with no mark
unmarked : (w : Want) (b : Bool) → b ≡ false → (b ≡ true → w ≡ Test)
unmarked w b e h = absurd (true≢false (sym h ∙ e))

not_unused : (w : Want) → false ≡ true → (w ≡ Unused) ⊎ (w ≡ Test)
not_unused w h = absurd (true≢false (sym h))

unmarked_fits : (n : ℕ) (w : Want) → Fits (Expr (seat_of_level n)) (As w)
unmarked_fits n w = (unmarked w false refl, not_unused w)

no_marks : (w : Want) (s : Seat) → s.boolean ≡ false → s.unused ≡ false → Fits (Expr s) (As w)
no_marks w s b u = (unmarked w s.boolean b, (λ h. absurd (true≢false (sym h ∙ u))))

tested : (s : Seat) → Fits (Expr s) (As Test)
tested s = ((λ h. refl), (λ h. inr refl))

unused_fits : (s : Seat) → s.boolean ≡ false → Fits (Expr s) (As Unused)
unused_fits s b = (unmarked Unused s.boolean b, (λ h. inl refl))

-- the parts of a sequence
parts_last : (n : ℕ) (w : Want) → parts_demand n w n ≡ As w
parts_last zero w = refl
parts_last (suc n) w = parts_last n w

parts_other : (n i : ℕ) (w : Want) → (i ≡ n → ⊥) → parts_demand n w i ≡ As Unused
parts_other zero zero w h = absurd (h refl)
parts_other zero (suc i) w h = refl
parts_other (suc n) zero w h = refl
parts_other (suc n) (suc i) w h = parts_other n i w (λ e. h (ap suc e))

fits_part : (s : Seat) (w : Want) → Fits (Expr s) (As w) → (n i : ℕ) → Fits (Expr (part_seat s (suc n) i)) (parts_demand n w i)
fits_part s w f n i = go (nat_eq (suc i) (suc n)) refl
  where
    go : (b : Bool) → nat_eq (suc i) (suc n) ≡ b → Fits (Expr (if b then branch_seat s else passed_part_seat)) (parts_demand n w i)
    go true e = let same : i ≡ n = (let h = eqb-true (suc i) (suc n) e in omega (arith, h)) in subst (Fits (Expr (branch_seat s))) (sym (parts_last n w) ∙ ap (parts_demand n w) (sym same)) (f.0, not_unused w)
    go false e = subst (Fits (Expr passed_part_seat)) (sym (parts_other n i w (λ same. true≢false (sym (eq-eqb (suc i) (suc n) (ap suc same)) ∙ e)))) (unmarked Unused false refl, (λ h. inl refl))

fits_parts : (s : Seat) (w : Want) → Fits (Expr s) (As w) → (n i : ℕ) → Fits (Expr (part_seat s n i)) (sequence_demand n w i)
fits_parts s w f zero i = go (nat_eq (suc i) 0) refl
  where
    go : (b : Bool) → nat_eq (suc i) 0 ≡ b → Fits (Expr (if b then branch_seat s else passed_part_seat)) (As Unused)
    go true e = let h = eqb-true (suc i) 0 e in absurd (omega (arith, h))
    go false e = (unmarked Unused false refl, (λ h. inl refl))
fits_parts s w f (suc n) i = fits_part s w f n i

-- where no reference is asked
parts_elsewhere : (n : ℕ) (w : Want) (i : ℕ) → Fits Elsewhere (parts_demand n w i)
parts_elsewhere zero w zero = tt
parts_elsewhere zero w (suc i) = tt
parts_elsewhere (suc n) w zero = tt
parts_elsewhere (suc n) w (suc i) = parts_elsewhere n w i

items_elsewhere : (n : ℕ) (q : Demand) (i : ℕ) → Fits Elsewhere (list_demand n q i)
items_elsewhere n (Stat t) i = tail_fits Elsewhere (λ u. tt) n t i
items_elsewhere zero (Parts w) i = tt
items_elsewhere (suc n) (Parts w) i = parts_elsewhere n w i
items_elsewhere n q i = tt

fits_items : (n : ℕ) (p : Position) (q : Demand) → Fits p q → (i : ℕ) → Fits (item_position p n i) (list_demand n q i)
fits_items n StatementList (Stat t) f i = tail_fits (Stmt stmt_seat.List) (λ u. tt) n t i
fits_items n BodyList (Stat (Some FunctionTail)) f i = tail_fits (Stmt stmt_seat.List) (λ u. tt) n (Some FunctionTail) i
fits_items n ArgumentList Items f i = (refl, refl)
fits_items n ArgumentList (Stat t) f i = tail_fits (Expr argument_seat) (λ u. refl) n t i
fits_items n (SequenceList s) (Parts w) f i = fits_parts s w f n i
fits_items n TemplateList Texts f i = unmarked_fits 0 Val
fits_items n (Expr s) q f i = items_elsewhere n q i
fits_items n (Stmt k) q f i = items_elsewhere n q i
fits_items n place.Target q f i = items_elsewhere n q i
fits_items n place.Method q f i = items_elsewhere n q i
fits_items n place.Unwritten q f i = items_elsewhere n q i
fits_items n place.CommaList q f i = items_elsewhere n q i
fits_items n Elsewhere q f i = items_elsewhere n q i
fits_items n p q f i = absurd f

tail_of_fits : (p : Position) → ((t : Option Tail) → Fits p (Stat t)) → (q : Demand) → Fits p (tail_of q)
tail_of_fits p f (Stat t) = f t
tail_of_fits p f q = f None

fits_if : (q : Demand) (i : ℕ) → Fits (if_position i) (first_demand (As Test) (tail_of q) i)
fits_if q zero = tested if_test_seat
fits_if q (suc zero) = tail_of_fits (Stmt stmt_seat.Consequent) (λ t. tt) q
fits_if q (suc (suc i)) = tail_of_fits (Stmt stmt_seat.Body) (λ t. tt) q

fits_for : (d : Option Declared) (i : ℕ) → Fits (for_position i) (for_demand d i)
fits_for (Some (Variables k)) zero = refl
fits_for (Some AClass) zero = (unmarked Unused false refl, (λ h. inl refl))
fits_for None zero = (unmarked Unused false refl, (λ h. inl refl))
fits_for d (suc zero) = tested if_test_seat
fits_for d (suc (suc zero)) = (unmarked Unused false refl, (λ h. inl refl))
fits_for d (suc (suc (suc i))) = tt

-- the seat of an expression, and what gives its value
pub passed_fits : (p : Position) (q : Demand) → Fits p q → Fits (Expr (seat_at p)) (As (pass q))
passed_fits (Expr s) (As w) f = f
passed_fits (Expr s) (Stat t) f = unused_fits s f
passed_fits (Expr s) Target f = absurd f
passed_fits (Expr s) q f = no_marks Val s f.0 f.1
passed_fits p q f = unmarked_fits 0 (pass q)

fits_conditional : (s : Seat) (w : Want) → Fits (Expr s) (As w) → (i : ℕ) → Fits (conditional_position s i) (first_demand (As Test) (As w) i)
fits_conditional s w f zero = tested conditional_test_seat
fits_conditional s w f (suc i) = (f.0, not_unused w)

fits_call : (i : ℕ) → Fits (call_position i) (first_demand Callee Items i)
fits_call zero = (refl, refl, refl)
fits_call (suc i) = tt

fits_unary : (o : UnaryOperator) → Fits (Expr (unary_operand_seat o)) (operand_demand o)
fits_unary unary.LogicalNot = tested not_operand_seat
fits_unary unary.Typeof = (refl, refl, refl)
fits_unary unary.Delete = (refl, refl, refl)
fits_unary unary.UnaryPlus = no_marks Val (unary_operand_seat unary.UnaryPlus) refl refl
fits_unary unary.UnaryNegation = no_marks Val (unary_operand_seat unary.UnaryNegation) refl refl
fits_unary unary.BitwiseNot = no_marks Val (unary_operand_seat unary.BitwiseNot) refl refl
fits_unary unary.Void = no_marks Val (unary_operand_seat unary.Void) refl refl

fits_binary : (o : BinaryOperator) (i : ℕ) → Fits (Expr (binary_operand_seat o i)) (As Val)
fits_binary o zero = no_marks Val (binary_operand_seat o 0) refl refl
fits_binary o (suc i) = no_marks Val (binary_operand_seat o 1) refl refl

fits_chained : (p : Position) (q : Demand) → Fits p q → Fits (Expr (chained_seat (seat_at p))) (chained q)
fits_chained p (As w) f = no_marks w (chained_seat (seat_at p)) refl refl
fits_chained (Expr s) Callee f = (refl, refl, f.2)
fits_chained (Expr s) Deleted f = (refl, refl, f.2)
fits_chained p Callee f = absurd f
fits_chained p Deleted f = absurd f
fits_chained p q f = no_marks Val (chained_seat (seat_at p)) refl refl

-- a key, which no parent but an object's property asks
fits_key : (b : Bool) → Fits (key_position b) (Stat None)
fits_key true = refl
fits_key false = tt

fits_written_key : (b c : Bool) → Fits (written_key_position b c) (Stat None)
fits_written_key true c = tt
fits_written_key false c = fits_key c

fits_property_key : (b c : Bool) → Fits (written_key_position b c) (As Val)
fits_property_key true c = tt
fits_property_key false true = unmarked_fits 1 Val
fits_property_key false false = tt

fits_value : (b : Bool) → Fits (if b then place.Method else Expr argument_seat) (As Val)
fits_value true = tt
fits_value false = unmarked_fits 1 Val

fits_exported : (d : Option Declared) → Fits (Expr argument_seat) (exported_demand d)
fits_exported (Some AClass) = (refl, refl)
fits_exported (Some (Variables k)) = unmarked_fits 1 Val
fits_exported None = unmarked_fits 1 Val

-- by the place of the child
first_fits : (p p' : Position) (d d' : Demand) → Fits p d → Fits p' d' → (i : ℕ) → Fits (first_rest p p' i) (first_demand d d' i)
first_fits p p' d d' f g zero = f
first_fits p p' d d' f g (suc i) = g

all_fit : (p p' : Position) (d : Demand) → Fits p d → Fits p' d → (i : ℕ) → Fits (first_rest p p' i) d
all_fit p p' d f g zero = f
all_fit p p' d f g (suc i) = g

three_fit : (p p' p'' : Position) (d : Demand) → Fits p d → Fits p' d → Fits p'' d → (i : ℕ) → Fits (first_second_rest p p' p'' i) d
three_fit p p' p'' d f g h zero = f
three_fit p p' p'' d f g h (suc zero) = g
three_fit p p' p'' d f g h (suc (suc i)) = h

class_fits : (i : ℕ) → Fits (class_position i) (Binds true)
class_fits zero = tt
class_fits (suc zero) = (refl, refl)
class_fits (suc (suc zero)) = tt
class_fits (suc (suc (suc i))) = tt

each_fits : (p : Position) → Fits p (As Val) → (d : Option Declared) (i : ℕ) → Fits (first_second_rest place.Target p (Stmt stmt_seat.Body) i) (each_demand d i)
each_fits p f (Some (Variables Var)) zero = tt
each_fits p f (Some (Variables k)) zero = tt
each_fits p f (Some AClass) zero = tt
each_fits p f None zero = tt
each_fits p f d (suc zero) = f
each_fits p f d (suc (suc i)) = tt

do_fits : (i : ℕ) → Fits (first_rest (Stmt stmt_seat.Body) (Expr if_test_seat) i) (do_demand i)
do_fits zero = tt
do_fits (suc i) = tested if_test_seat

inner_fits : (p : Position) (q : Demand) → Fits p q → (i : ℕ) → Fits (first_rest p Elsewhere i) (first_demand q (Stat None) i)
inner_fits p q f zero = f
inner_fits p q f (suc i) = tt

try_fits : (i : ℕ) → Fits Elsewhere (try_demand i)
try_fits zero = tt
try_fits (suc zero) = tt
try_fits (suc (suc i)) = tt

catch_fits : (i : ℕ) → Fits Elsewhere (first_demand (Binds true) (Stat None) i)
catch_fits zero = tt
catch_fits (suc i) = tt

declaration_fits : (k : VariableDeclarationKind) (q : Demand) → Fits place.CommaList (declaration_demand k q)
declaration_fits k (Binds lexical) = tt
declaration_fits k q = tt

-- a demand that fits the node's place gives each child one that fits its place
pub fits_children : (h : Shape) (fs : List Facts) (p : Position) (q : Demand) → Fits p q → (i : ℕ) → Fits (child_position h p (length fs) i) (demand h fs q i)
fits_children shape.Listed fs p q f i = fits_items (length fs) p q f i
fits_children shape.InnerExpression fs p q f i = inner_fits p q f i
fits_children shape.ExpressionStatement fs p q f i = (unmarked Unused false refl, (λ h. inl refl))
fits_children shape.BlockStatement fs p q f i = tail_of_fits StatementList (λ t. tt) q
fits_children shape.LabeledStatement fs p q f i = first_fits Elsewhere (Stmt stmt_seat.Body) (As Val) (Stat None) tt tt i
fits_children shape.ReturnStatement fs p q f i = unmarked_fits 0 Val
fits_children shape.ThrowStatement fs p q f i = unmarked_fits 0 Val
fits_children shape.IfStatement fs p q f i = fits_if q i
fits_children shape.SwitchStatement fs p q f i = first_fits (Expr (seat_of_level 0)) Elsewhere (As Val) Cases (unmarked_fits 0 Val) tt i
fits_children shape.SwitchCase fs p q f i = first_fits (Expr (seat_of_level 0)) StatementList (As Val) (Stat None) (unmarked_fits 0 Val) tt i
fits_children shape.WhileStatement fs p q f i = first_fits (Expr if_test_seat) (Stmt stmt_seat.Body) (As Test) _ (tested if_test_seat) tt i
fits_children shape.DoWhileStatement fs p q f i = do_fits i
fits_children shape.ForStatement fs p q f i = fits_for (first_facts fs).declared i
fits_children shape.ForInStatement fs p q f i = each_fits (Expr (seat_of_level 0)) (unmarked_fits 0 Val) (first_facts fs).declared i
fits_children shape.ForOfStatement fs p q f i = each_fits (Expr argument_seat) (unmarked_fits 1 Val) (first_facts fs).declared i
fits_children shape.TryStatement fs p q f i = try_fits i
fits_children shape.CatchClause fs p q f i = catch_fits i
fits_children (shape.VariableDeclaration k) fs p q f i = declaration_fits k q
fits_children shape.VariableDeclarator fs p q f i = first_fits Elsewhere (Expr argument_seat) _ (As Val) tt (unmarked_fits 1 Val) i
fits_children (shape.Function d g ds) fs p q f i = three_fit Elsewhere place.CommaList Elsewhere (Stat None) tt tt tt i
fits_children (shape.ArrowFunctionExpression ds) fs p q f i = all_fit place.CommaList (Expr argument_seat) (Stat None) tt refl i
fits_children (shape.Class d) fs p q f i = class_fits i
fits_children (shape.MethodDefinition k c b) fs p q f i = all_fit (key_position c) place.Method (Stat None) (fits_key c) tt i
fits_children (shape.PropertyDefinition c b) fs p q f i = all_fit (key_position c) (Expr argument_seat) (Stat None) (fits_key c) refl i
fits_children shape.ImportDeclaration fs p q f i = all_fit place.CommaList Elsewhere (Stat None) tt tt i
fits_children shape.ExportNamedDeclaration fs p q f i = three_fit Elsewhere place.CommaList Elsewhere (Stat None) tt tt tt i
fits_children shape.ExportDefaultDeclaration fs p q f i = fits_exported (first_facts fs).declared
fits_children (shape.ObjectProperty k m b c) fs p q f i = all_fit (written_key_position b c) (value_position k m) (As Val) (fits_property_key b c) (fits_value (m || is_accessor k)) i
fits_children shape.SpreadElement fs p q f i = unmarked_fits 1 Val
fits_children (shape.UnaryExpression o) fs p q f i = fits_unary o
fits_children (shape.BinaryExpression o) fs p q f i = fits_binary o i
fits_children shape.PrivateInExpression fs p q f zero = tt
fits_children shape.PrivateInExpression fs p q f (suc i) = refl
fits_children (shape.LogicalExpression o) fs p q f i = fits_operand o (seat_at p) (pass q) (passed_fits p q f) i
fits_children (shape.AssignmentExpression o) fs p q f i = first_fits place.Target (Expr argument_seat) Target (As Val) tt (unmarked_fits 1 Val) i
fits_children shape.ConditionalExpression fs p q f i = fits_conditional (seat_at p) (pass q) (passed_fits p q f) i
fits_children shape.SequenceExpression fs p q f i = passed_fits p q f
fits_children (shape.CallExpression b) fs p q f i = fits_call i
fits_children shape.SuperCallExpression fs p q f i = all_fit Elsewhere ArgumentList (Stat None) tt tt i
fits_children shape.NewExpression fs p q f i = first_fits (Expr new_callee_seat) ArgumentList (As Val) Items (no_marks Val new_callee_seat refl refl) tt i
fits_children (shape.StaticMemberExpression b) fs p q f i = all_fit (Expr object_seat) Elsewhere (As Val) (no_marks Val object_seat refl refl) tt i
fits_children (shape.ComputedMemberExpression b) fs p q f i = all_fit (Expr object_seat) (Expr (seat_of_level 0)) (As Val) (no_marks Val object_seat refl refl) (unmarked_fits 0 Val) i
fits_children (shape.PrivateFieldExpression b) fs p q f i = all_fit (Expr object_seat) Elsewhere (Stat None) refl tt i
fits_children shape.SuperComputedMemberExpression fs p q f i = all_fit Elsewhere (Expr (seat_of_level 0)) (Stat None) tt refl i
fits_children shape.ChainExpression fs p q f i = fits_chained p q f
fits_children (shape.YieldExpression b) fs p q f i = no_marks Val yield_argument_seat refl refl
fits_children shape.TemplateLiteral fs p q f i = all_fit Elsewhere TemplateList Texts tt tt i
fits_children shape.TaggedTemplateExpression fs p q f i = all_fit (Expr callee_seat) Elsewhere (Stat None) refl tt i
fits_children shape.ImportExpression fs p q f i = refl
fits_children (shape.BindingProperty b c) fs p q f i = all_fit (written_key_position b c) place.Target (Stat None) (fits_written_key b c) tt i
fits_children shape.AssignmentPattern fs p q f i = all_fit place.Target (Expr argument_seat) (Stat None) tt refl i
fits_children shape.AssignmentTargetPropertyIdentifier fs p q f i = all_fit place.Unwritten place.Target (Stat None) tt tt i
fits_children (shape.AssignmentTargetPropertyProperty c) fs p q f i = all_fit (key_position c) place.Target (Stat None) (fits_key c) tt i
fits_children h fs p q f i = tt

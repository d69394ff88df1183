-- A parent may ask the same of what a row writes as of what it reads.
use Rattle.std.proofs.Common.{◌≡◌, ℕ, Bool, true, false, List, refl, sym, ap, ◌∙◌, inl, inr}
use Rattle.std.specs.Prelude.{◌||◌, not, None}
use Rattle.mini_model.specs.declared.name.Name.{Name}
use Rattle.mini_model.specs.declared.operator.BinaryOperator.{BinaryOperator}
use Rattle.mini_model.specs.declared.operator.LogicalOperator.TheVariants.{Or, And}
use Rattle.mini_model.specs.declared.operator.UnaryOperator.TheVariants.{LogicalNot}
use Rattle.mini_model.specs.declared.place.Position.{Position}
use Rattle.mini_model.specs.declared.place.Position.TheVariants.{Expr, Stmt}
use Rattle.mini_model.specs.declared.seat.Seat.{Seat}
use Rattle.mini_model.specs.declared.shape.Shape.{Shape}
use Rattle.mini_model.specs.declared.shape.Shape.TheVariants as shape
use Rattle.mini_model.specs.Tree.{Tree, Trees, node, none, ◌▸◌, shape_of, is_absent}
use Rattle.mini_model.specs.Position.{is_equality}
use Rattle.mini_model.specs.Terms.{is_boolean, unwrapped, turned_equality, neg}
use Rattle.mini_model.specs.Redex.{Row, Contracts}
use Rattle.mini_accept.specs.WellShaped.{is_function_body, spelling, spelling_by, has_optional, has_optional_by, is_not_positive_number}
use Rattle.mini_kept.specs.KeepsShapes.{takes_numbers, is_default, AskedAlike, KeepsShapes}
use Rattle.mini_kept.proofs.Rows.{row_fits}

-- ---- what rows read: nothing that is absent, spelled, a body, a chain or a pattern

abbrev is_read : Shape → Bool
is_read (shape.UnaryExpression LogicalNot) = true
is_read shape.ConditionalExpression = true
is_read shape.IfStatement = true
is_read _ = false

row_root : (p : Position) (n w : Tree) → Row p n w → is_read (shape_of n) ≡ true
row_root (Expr s) n w (inl r) = ap (λ t. is_read (shape_of t)) r.shape
row_root (Expr s) n w (inr r) = ap (λ t. is_read (shape_of t)) r.shape
row_root (Stmt q) n w (inl r) = ap (λ t. is_read (shape_of t)) r.shape
row_root (Stmt q) n w (inr (inl r)) = ap (λ t. is_read (shape_of t)) r.shape
row_root (Stmt q) n w (inr (inr r)) = ap (λ t. is_read (shape_of t)) r.shape
row_root p n w r = absurd r

there : (t : Tree) → is_read (shape_of t) ≡ true → is_absent t ≡ false
there (node shape.Absent xs n ts) e = absurd (cc e)
there (node h xs n ts) e = refl

no_body : (t : Tree) → is_read (shape_of t) ≡ true → is_function_body t ≡ false
no_body (node shape.FunctionBody xs n ts) e = absurd (cc e)
no_body (node h xs n ts) e = refl

no_chain : (h : Shape) (ts : Trees) → is_read h ≡ true → has_optional_by h ts ≡ false
no_chain (shape.CallExpression b) ts e = absurd (cc e)
no_chain (shape.StaticMemberExpression b) ts e = absurd (cc e)
no_chain (shape.ComputedMemberExpression b) ts e = absurd (cc e)
no_chain (shape.PrivateFieldExpression b) ts e = absurd (cc e)
no_chain shape.InnerExpression ts e = absurd (cc e)
no_chain h ts e = refl

no_optional : (t : Tree) → is_read (shape_of t) ≡ true → has_optional t ≡ false
no_optional (node h xs n ts) e = no_chain h ts e

unspelled_by : (h : Shape) (xs : List Name) → is_read h ≡ true → spelling_by h xs ≡ None
unspelled_by shape.Identifier xs e = absurd (cc e)
unspelled_by shape.BindingIdentifier xs e = absurd (cc e)
unspelled_by (shape.IdentifierName s) xs e = absurd (cc e)
unspelled_by h xs e = refl

unspelled : (t : Tree) → is_read (shape_of t) ≡ true → spelling t ≡ None
unspelled (node h xs n ts) e = unspelled_by h xs e

no_default : (h : Shape) → is_read h ≡ true → is_default h ≡ false
no_default shape.AssignmentPattern e = absurd (cc e)
no_default h e = refl

-- ---- what they write is no number, unless its truth alone is asked

boolean_no_number : (t : Tree) → is_boolean t ≡ true → is_not_positive_number t ≡ true
boolean_no_number (node (shape.NumericLiteral k) xs n ts) e = absurd (cc e)
boolean_no_number (node h xs n ts) e = refl

unwrapped_no_number : (b : Bool) (a n : Tree) → b ≡ is_boolean a → is_not_positive_number (unwrapped b a n) ≡ true
unwrapped_no_number true a n e = boolean_no_number a (sym e)
unwrapped_no_number false a n e = refl

equality_no_number : (b : Bool) (o : BinaryOperator) (xs : List Name) (n : ℕ) (ts : Trees) → is_not_positive_number (turned_equality b o xs n ts) ≡ true
equality_no_number true o xs n ts = refl
equality_no_number false o xs n ts = refl

neg_no_number : (s : Seat) → s.boolean ≡ false → (t : Tree) → is_not_positive_number (neg s t) ≡ true
neg_no_number s e (node (shape.LogicalExpression And) xs n ts) = refl
neg_no_number s e (node (shape.LogicalExpression Or) xs n ts) = refl
neg_no_number s e (node (shape.UnaryExpression LogicalNot) xs n (a ▸ none)) = unwrapped_no_number (s.boolean || is_boolean a) a (node (shape.UnaryExpression LogicalNot) xs n (a ▸ none)) (ap (λ b. b || is_boolean a) e)
neg_no_number s e (node (shape.BinaryExpression o) xs n ts) = equality_no_number (is_equality o) o xs n ts
neg_no_number s e (node h xs n ts) = refl

not_asked : (b c : Bool) → b || c ≡ false → b ≡ false
not_asked false c e = refl
not_asked true c e = e

row_no_number : (p : Position) (n w : Tree) → Row p n w → takes_numbers p ≡ false → is_not_positive_number w ≡ true
row_no_number (Expr s) n w (inl r) e = ap is_not_positive_number r.written ∙ neg_no_number s (not_asked s.boolean (not s.minus) e) r.e
row_no_number (Expr s) n w (inr r) e = ap is_not_positive_number r.written
row_no_number (Stmt q) n w (inl r) e = ap is_not_positive_number r.written
row_no_number (Stmt q) n w (inr (inl r)) e = ap is_not_positive_number r.written
row_no_number (Stmt q) n w (inr (inr r)) e = ap is_not_positive_number r.written
row_no_number p n w r e = absurd r

row_asked : (p : Position) (n w : Tree) → Row p n w → AskedAlike p n w
row_asked p n w r =
    let root = row_root p n w r in
    record {
      absent = λ e. absurd (cc (sym e ∙ there n root));
      body = λ e. absurd (cc (sym e ∙ no_body n root));
      optional = λ e. absurd (cc (sym e ∙ no_optional n root));
      number = λ e k. row_no_number p n w r e;
      spelled = λ s e. absurd (cc (sym e ∙ unspelled n root));
      plain = no_default (shape_of n) root;
    }

pub rows_keep_shapes : KeepsShapes Contracts
rows_keep_shapes = record { fitting = λ p n w c strict s k e. row_fits strict s p n w c.row e; asked = λ p n w c. row_asked p n w c.row }

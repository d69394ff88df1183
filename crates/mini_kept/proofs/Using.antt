-- How the names of a child are used goes with its place.
use Rattle.std.specs.Prelude.{ℕ, zero, suc, ◌≡◌, refl, ◌||◌, Bool, true, false}
use Rattle.mini_model.specs.declared.kind.VariableDeclarationKind.TheVariants.{Var, Let, Const}
use Rattle.mini_model.specs.declared.operator.AssignmentOperator.{AssignmentOperator}
use Rattle.mini_model.specs.declared.operator.AssignmentOperator.TheVariants.{Assign}
use Rattle.mini_model.specs.declared.place.Position.{Position}
use Rattle.mini_model.specs.declared.place.Position.TheVariants.{Expr, Stmt, ArgumentList, SequenceList, TemplateList, StatementList, BodyList}
use Rattle.mini_model.specs.declared.shape.Shape.{Shape}
use Rattle.mini_model.specs.declared.shape.Shape.TheVariants as shape
use Rattle.mini_model.specs.Tree.{Tree, shape_of}
use Rattle.mini_model.specs.Position.{child_position, item_position}
use Rattle.mini_laws.specs.declared.names.Use.{Use}
use Rattle.mini_laws.specs.declared.names.Use.TheVariants.{Read}
use Rattle.mini_laws.specs.DeclaredNames.{is_inner}
use Rattle.mini_laws.specs.Scopes.{use_of}
use Rattle.mini_kept.specs.KeepsNames.{is_read, is_statement_use, is_used, Stands}

read_used : (p : Position) → is_used p Read ≡ true
read_used (Expr s) = refl
read_used (Stmt q) = refl
read_used ArgumentList = refl
read_used (SequenceList s) = refl
read_used TemplateList = refl
read_used StatementList = refl
read_used BodyList = refl
read_used p = refl

statement_used : (v : Use) → is_read v ≡ true → is_statement_use v ≡ true
statement_used Read e = refl
statement_used v e = absurd (cc e)

item_used : (p : Position) (v : Use) (n i : ℕ) → is_used p v ≡ true → is_used (item_position p n i) v ≡ true
item_used (Expr s) v n i e = refl
item_used ArgumentList v n i e = e
item_used (SequenceList s) v n i e = e
item_used TemplateList v n i e = e
item_used StatementList v n i e = statement_used v e
item_used BodyList v n i e = statement_used v e
item_used p v n i e = refl

-- the shapes of which a part may be an inner expression that is not used as an expression is
abbrev pub is_patterned : Shape → Bool
is_patterned (shape.BindingProperty shorthand computed) = true
is_patterned shape.AssignmentPattern = true
is_patterned (shape.AssignmentTargetPropertyProperty computed) = true
is_patterned h = false

right_read : (o : AssignmentOperator) (v : Use) (i : ℕ) → is_read (use_of (shape.AssignmentExpression o) v (suc i)) ≡ true
right_read Assign v i = refl
right_read o v i = refl

used : (h : Shape) (p : Position) (v : Use) (n i : ℕ) → is_patterned h ≡ false → (is_inner h || is_used p v) ≡ true → is_used (child_position h p n i) (use_of h v i) ≡ true
used shape.Listed p v n i d e = item_used p v n i e
used shape.ObjectPattern p v n i d e = refl
used shape.ArrayPattern p v n i d e = refl
used shape.ObjectAssignmentTarget p v n i d e = refl
used shape.ArrayAssignmentTarget p v n i d e = refl
used shape.RestElement p v n i d e = refl
used shape.ImportSpecifier p v n i d e = refl
used shape.ImportDefaultSpecifier p v n i d e = refl
used shape.ImportNamespaceSpecifier p v n i d e = refl
used shape.AssignmentTargetPropertyIdentifier p v n zero d e = refl
used shape.AssignmentTargetPropertyIdentifier p v n (suc i) d e = refl
used shape.VariableDeclarator p v n zero d e = refl
used shape.VariableDeclarator p v n (suc i) d e = refl
used (shape.VariableDeclaration Var) p v n i d e = refl
used (shape.VariableDeclaration Let) p v n i d e = refl
used (shape.VariableDeclaration Const) p v n i d e = refl
used (shape.AssignmentExpression o) p v n zero d e = refl
used (shape.AssignmentExpression o) p v n (suc i) d e = right_read o v i
used (shape.UpdateExpression o prefix) p v n i d e = refl
used shape.IfStatement p v n zero d e = refl
used shape.IfStatement p v n (suc zero) d e = refl
used shape.IfStatement p v n (suc (suc i)) d e = refl
used shape.LabeledStatement p v n zero d e = refl
used shape.LabeledStatement p v n (suc i) d e = refl
used shape.WhileStatement p v n zero d e = refl
used shape.WhileStatement p v n (suc i) d e = refl
used shape.DoWhileStatement p v n zero d e = refl
used shape.DoWhileStatement p v n (suc i) d e = refl
used shape.ForStatement p v n zero d e = refl
used shape.ForStatement p v n (suc zero) d e = refl
used shape.ForStatement p v n (suc (suc zero)) d e = refl
used shape.ForStatement p v n (suc (suc (suc i))) d e = refl
used shape.ForInStatement p v n zero d e = refl
used shape.ForInStatement p v n (suc zero) d e = refl
used shape.ForInStatement p v n (suc (suc i)) d e = refl
used shape.ForOfStatement p v n zero d e = refl
used shape.ForOfStatement p v n (suc zero) d e = refl
used shape.ForOfStatement p v n (suc (suc i)) d e = refl
used (shape.BindingProperty shorthand computed) p v n i d e = absurd (cc d)
used shape.AssignmentPattern p v n i d e = absurd (cc d)
used (shape.AssignmentTargetPropertyProperty computed) p v n i d e = absurd (cc d)
used h p v n i d e = read_used (child_position h p n i)

pub also : (a b : Bool) → b ≡ true → (a || b) ≡ true
also true b e = refl
also false b e = e

pub stands_plainly : (h : Shape) (p : Position) (v : Use) (n i : ℕ) (t : Tree) → is_patterned h ≡ false → (is_inner h || is_used p v) ≡ true → Stands (child_position h p n i) (use_of h v i) t
stands_plainly h p v n i t d e = also (is_inner (shape_of t)) (is_used (child_position h p n i) (use_of h v i)) (used h p v n i d e)

-- Rows of lists of statements: each reads some neighbours in a list and writes others in their
-- place.
use Rattle.std.specs.Prelude.{◌≡◌, ◌⊎◌, ◌<◌, nat_lt, ℕ, zero, suc, Bool, true, false, not, ◌&&◌, ◌||◌, nat_eq, pos, List, [], ◌∷◌, Some, if◌then◌else◌}
use Rattle.mini_model.specs.declared.kind.VariableDeclarationKind.{VariableDeclarationKind}
use Rattle.mini_model.specs.declared.kind.VariableDeclarationKind.TheVariants.{Var, Const}
use Rattle.mini_model.specs.declared.name.Name.{Name}
use Rattle.mini_model.specs.declared.operator.AssignmentOperator.TheVariants.{Assign}
use Rattle.mini_model.specs.declared.operator.LogicalOperator.TheVariants.{Or}
use Rattle.mini_model.specs.declared.operator.UnaryOperator.TheVariants.{Void, LogicalNot}
use Rattle.mini_model.specs.declared.shape.Shape.{Shape}
use Rattle.mini_model.specs.declared.shape.Shape.TheVariants as shape
use Rattle.mini_model.specs.declared.place.Position.{Position}
use Rattle.mini_model.specs.declared.place.Position.TheVariants.{Stmt, StatementList, BodyList}
use Rattle.mini_model.specs.declared.seat.StmtSeat.TheVariants as stmt_seat
use Rattle.mini_model.specs.Tree.{Tree, Trees, node, none, ◌▸◌, count, leaf, absent, listed, unary, is_absent, shape_of, children, child_or_absent, empty_statement, expression_statement, identifier, if_else, if_alone, conditional, negation, logical}
use Rattle.mini_model.specs.Paths.{append}
use Rattle.mini_model.specs.Weight.{weight, capped}
use Rattle.mini_laws.specs.declared.names.Declared.TheVariants as declared
use Rattle.mini_laws.specs.DeclaredNames.{names_of}
use Rattle.mini_node.specs.Kinds.{is_listed_shape}
use Rattle.mini_rows.specs.Switches.{Switches}
use Rattle.mini_rows.specs.Nesting.{may_sink, may_all_sink, may_join}
use Rattle.mini_terms.specs.Parts.{leaves_nothing}

-- Nodes, one function a node

abbrev pub block : Trees → Tree
block ts = node shape.BlockStatement [] 0 (listed ts ▸ none)

abbrev pub sequence : Trees → Tree
sequence ts = node shape.SequenceExpression [] 0 (listed ts ▸ none)

-- a jump with an argument, or without
abbrev pub return_statement : Tree → Tree
return_statement a = node shape.ReturnStatement [] 0 (a ▸ none)

abbrev pub throw_statement : Tree → Tree
throw_statement a = node shape.ThrowStatement [] 0 (a ▸ none)

abbrev pub switch : Tree → Tree → Tree
switch d cases = node shape.SwitchStatement [] 0 (d ▸ (cases ▸ none))

abbrev pub for_loop : Tree → Tree → Tree → Tree → Tree
for_loop init test update body = node shape.ForStatement [] 0 (init ▸ (test ▸ (update ▸ (body ▸ none))))

abbrev pub declaration : VariableDeclarationKind → Trees → Tree
declaration k ds = node (shape.VariableDeclaration k) [] 0 (listed ds ▸ none)

-- a name with its symbol
abbrev pub resolved : List ℕ → ℕ → Name
resolved s k = record { spelling = s; symbol = Some (record { 0 = k }) }

-- a name that is declared
abbrev pub binding : Name → Tree
binding x = node shape.BindingIdentifier (x ∷ []) 0 none

-- a declarator: what it binds, and an initializer, which may be absent
abbrev pub declarator : Tree → Tree → Tree
declarator id init = node shape.VariableDeclarator [] 0 (id ▸ (init ▸ none))

-- `x = b`
abbrev pub assigned : Name → Tree → Tree
assigned x b = node (shape.AssignmentExpression Assign) [] 0 (identifier x ▸ (b ▸ none))

-- `void 0`
abbrev pub void_zero : Tree
void_zero = unary Void (leaf (shape.NumericLiteral (pos 0)))

-- an argument that may be absent, as a value
abbrev pub or_void : Tree → Tree
or_void a = if is_absent a then void_zero else a

-- What is declared

-- a statement that declares nothing in the list round it but `var` names, which are hoisted through
-- it (ECMA-262, "LexicallyScopedDeclarations")
abbrev pub is_unscoped_shape : Shape → Bool
is_unscoped_shape shape.ExpressionStatement = true
is_unscoped_shape shape.EmptyStatement = true
is_unscoped_shape shape.DebuggerStatement = true
is_unscoped_shape shape.BlockStatement = true
is_unscoped_shape shape.LabeledStatement = true
is_unscoped_shape shape.BreakStatement = true
is_unscoped_shape shape.ContinueStatement = true
is_unscoped_shape shape.ReturnStatement = true
is_unscoped_shape shape.ThrowStatement = true
is_unscoped_shape shape.IfStatement = true
is_unscoped_shape shape.SwitchStatement = true
is_unscoped_shape shape.TryStatement = true
is_unscoped_shape shape.WhileStatement = true
is_unscoped_shape shape.DoWhileStatement = true
is_unscoped_shape shape.ForStatement = true
is_unscoped_shape shape.ForInStatement = true
is_unscoped_shape shape.ForOfStatement = true
is_unscoped_shape (shape.VariableDeclaration Var) = true
is_unscoped_shape _ = false

abbrev pub is_unscoped : Tree → Bool
is_unscoped t = is_unscoped_shape (shape_of t)

abbrev pub are_unscoped : Trees → Bool
are_unscoped none = true
are_unscoped (t ▸ ts) = is_unscoped t && are_unscoped ts

-- nothing is declared there, as by an expression. Of a `!` it is asked of its operand
abbrev pub declares_nothing_by : Shape → Bool → Bool
declares_nothing_by shape.Absent b = false
declares_nothing_by shape.Listed b = false
declares_nothing_by (shape.UnaryExpression LogicalNot) b = b
declares_nothing_by shape.BindingIdentifier b = false
declares_nothing_by shape.ObjectPattern b = false
declares_nothing_by shape.ArrayPattern b = false
declares_nothing_by (shape.BindingProperty is_shorthand is_computed) b = false
declares_nothing_by shape.RestElement b = false
declares_nothing_by shape.AssignmentPattern b = false
declares_nothing_by shape.VariableDeclarator b = false
declares_nothing_by (shape.VariableDeclaration k) b = false
declares_nothing_by (shape.Function is_declaration is_generator directives) b = not is_declaration
declares_nothing_by (shape.Class is_declaration) b = not is_declaration
declares_nothing_by shape.SwitchCase b = false
declares_nothing_by shape.ExportNamedDeclaration b = false
declares_nothing_by shape.ExportDefaultDeclaration b = false
declares_nothing_by _ b = true

abbrev mutual
  pub declares_nothing : Tree → Bool
  declares_nothing (node h xs n ts) = declares_nothing_by h (first_declares_nothing ts)

  pub first_declares_nothing : Trees → Bool
  first_declares_nothing none = false
  first_declares_nothing (t ▸ ts) = declares_nothing t

-- Expressions as parts in a row

-- an expression of these parts, of which there is at least one
abbrev pub of_parts : Tree → Trees → Tree
of_parts p none = p
of_parts p (q ▸ qs) = sequence (p ▸ (q ▸ qs))

-- no sequence, which is read by its parts, and no place in a class that holds an expression
abbrev pub is_one_part_shape : Shape → Bool
is_one_part_shape shape.SequenceExpression = false
is_one_part_shape shape.InnerExpression = false
is_one_part_shape _ = true

-- an expression that is one part
abbrev pub is_one_part : Tree → Bool
is_one_part t = is_one_part_shape (shape_of t) && declares_nothing t

-- where there is no other part, that is one by itself
abbrev pub are_parts : Tree → Trees → Bool
are_parts p none = is_one_part p
are_parts p (q ▸ qs) = true

-- Heads of statements: `return e`, `throw e`, `if (e) u else v`, `switch (e) { cases }` and
-- `for (e; u; v) w`
pub data Head : Type 0 where
  Return : Head
  Throw : Head
  If : Tree → Tree → Head
  Switch : Tree → Head
  For : Tree → Tree → Tree → Head

abbrev pub with_head : Head → Tree → Tree
with_head Return e = return_statement e
with_head Throw e = throw_statement e
with_head (If u v) e = if_else e u v
with_head (Switch cases) e = switch e cases
with_head (For u v w) e = for_loop e u v w

-- `for (left in right) body`
abbrev pub for_in : Tree → Tree → Tree → Tree
for_in left right body = node shape.ForInStatement [] 0 (left ▸ (right ▸ (body ▸ none)))

abbrev pub is_var_shape : Shape → Bool
is_var_shape (shape.VariableDeclaration Var) = true
is_var_shape _ = false

-- `var x`, without an initializer
abbrev pub lacks_initializer : Tree → Bool
lacks_initializer d = nat_eq (count (children d)) 2 && is_absent (child_or_absent (children d) 1)

abbrev pub is_declarator_shape : Shape → Bool
is_declarator_shape shape.VariableDeclarator = true
is_declarator_shape _ = false

abbrev pub is_bare_declarator : Tree → Bool
is_bare_declarator d = is_declarator_shape (shape_of d) && lacks_initializer d

abbrev pub are_bare : Tree → Bool
are_bare ds = is_listed_shape (shape_of ds) && (nat_eq (count (children ds)) 1 && is_bare_declarator (child_or_absent (children ds) 0))

abbrev pub is_bare_var : Tree → Bool
is_bare_var t = is_var_shape (shape_of t) && (nat_eq (count (children t)) 1 && are_bare (child_or_absent (children t) 0))

-- the left side of a `for..in` that declares no lexical name and has no initializer
abbrev pub is_plain_left : Tree → Bool
is_plain_left t = declares_nothing t || is_bare_var t

-- Ends

abbrev pub any : List Bool → Bool
any [] = false
any (b ∷ bs) = b || any bs

-- which of the children never end normally decides whether the node does
abbrev pub terminated_by : Shape → List Bool → Bool
terminated_by shape.ReturnStatement bs = true
terminated_by shape.ThrowStatement bs = true
terminated_by shape.BreakStatement bs = true
terminated_by shape.ContinueStatement bs = true
terminated_by shape.Listed bs = any bs
terminated_by shape.BlockStatement (a ∷ []) = a
terminated_by shape.IfStatement (a ∷ b ∷ c ∷ []) = b && c
terminated_by shape.TryStatement (a ∷ b ∷ c ∷ []) = c || (a && b)
terminated_by shape.CatchClause (a ∷ b ∷ []) = b
terminated_by _ bs = false

-- a jump, a list or a block with a terminated statement, an `if` of two, and a `try` whose
-- finalizer is, or whose block and handler are: nothing runs after it (ECMA-262, "Completion Record
-- Specification Type", "The try Statement")
abbrev mutual
  pub is_terminated : Tree → Bool
  is_terminated (node h xs n ts) = terminated_by h (are_terminated ts)

  pub are_terminated : Trees → List Bool
  are_terminated none = []
  are_terminated (t ▸ ts) = is_terminated t ∷ are_terminated ts

-- Rows: a stretch of statements, and what is written in its place

-- 66: an empty statement goes
pub record Row66Empty (a b : Trees) : Type 0 where
  pub shape : a ≡ empty_statement ▸ none
  pub written : b ≡ none

-- 66: `a; b;` becomes `a, b;`, and what were sequences is one
pub record Row66Joined (a b : Trees) : Type 0 where
  pub p : Tree
  pub ps : Trees
  pub q : Tree
  pub qs : Trees
  pub first : are_parts p ps ≡ true
  pub second : are_parts q qs ≡ true
  pub shape : a ≡ expression_statement (of_parts p ps) ▸ (expression_statement (of_parts q qs) ▸ none)
  pub written : b ≡ expression_statement (of_parts p (append ps (q ▸ qs))) ▸ none

-- 79: `{ a; b; }` becomes `a; b;`
pub record Row79 (a b : Trees) : Type 0 where
  pub statements : Trees
  pub unscoped : are_unscoped statements ≡ true
  pub shape : a ≡ block statements ▸ none
  pub written : b ≡ statements

-- 73, of the jumps `return` and `throw`: `if (a) return b; return c;` becomes `return a ? b : c;`,
-- where an absent b is `void 0`, and c nests no deeper than may be put deeper, as no long chain of
-- conditionals does
pub record Row73 (jump : Tree → Tree) (a b : Trees) : Type 0 where
  pub test : Tree
  pub left : Tree
  pub right : Tree
  pub whole : (left ≡ absent) ⊎ (is_absent left ≡ false)
  pub present : is_absent right ≡ false
  pub shallow : may_sink right ≡ true
  pub shape : a ≡ if_alone test (jump left) ▸ (jump right ▸ none)
  pub written : b ≡ jump (conditional test (or_void left) right) ▸ none

-- 73: `if (a) return; return;` becomes `a; return;`
pub record Row73Bare (a b : Trees) : Type 0 where
  pub test : Tree
  pub shape : a ≡ if_alone test (return_statement absent) ▸ (return_statement absent ▸ none)
  pub written : b ≡ expression_statement test ▸ (return_statement absent ▸ none)

-- 67: `a; return b;` becomes `return a, b;`, and so with the other heads
pub record Row67 (a b : Trees) : Type 0 where
  pub head : Head
  pub p : Tree
  pub ps : Trees
  pub q : Tree
  pub qs : Trees
  pub first : are_parts p ps ≡ true
  pub second : are_parts q qs ≡ true
  pub shape : a ≡ expression_statement (of_parts p ps) ▸ (with_head head (of_parts q qs) ▸ none)
  pub written : b ≡ with_head head (of_parts p (append ps (q ▸ qs))) ▸ none

-- 67: `a; for (; b; c) d` becomes `for (a; b; c) d`
pub record Row67Absent (a b : Trees) : Type 0 where
  pub p : Tree
  pub ps : Trees
  pub test : Tree
  pub update : Tree
  pub body : Tree
  pub first : are_parts p ps ≡ true
  pub shape : a ≡ expression_statement (of_parts p ps) ▸ (for_loop absent test update body ▸ none)
  pub written : b ≡ for_loop (of_parts p ps) test update body ▸ none

-- 67: `a; for (x in b) c` becomes `for (x in a, b) c`
pub record Row67In (a b : Trees) : Type 0 where
  pub left : Tree
  pub body : Tree
  pub p : Tree
  pub ps : Trees
  pub q : Tree
  pub qs : Trees
  pub plain : is_plain_left left ≡ true
  pub first : are_parts p ps ≡ true
  pub second : are_parts q qs ≡ true
  pub shape : a ≡ expression_statement (of_parts p ps) ▸ (for_in left (of_parts q qs) body ▸ none)
  pub written : b ≡ for_in left (of_parts p (append ps (q ▸ qs))) body ▸ none

-- 68: `var a; for (; b; c) d` becomes `for (var a; b; c) d`
pub record Row68Free (a b : Trees) : Type 0 where
  pub ds : Trees
  pub test : Tree
  pub update : Tree
  pub body : Tree
  pub shape : a ≡ declaration Var ds ▸ (for_loop absent test update body ▸ none)
  pub written : b ≡ for_loop (declaration Var ds) test update body ▸ none

-- 68: `var a; for (var b; c; d) e` becomes `for (var a, b; c; d) e`
pub record Row68Init (a b : Trees) : Type 0 where
  pub ds : Trees
  pub es : Trees
  pub test : Tree
  pub update : Tree
  pub body : Tree
  pub shape : a ≡ declaration Var ds ▸ (for_loop (declaration Var es) test update body ▸ none)
  pub written : b ≡ for_loop (declaration Var (append ds es)) test update body ▸ none

-- 68: `var a; var b;` becomes `var a, b;`, and so with `let` and `const`
pub record Row68 (a b : Trees) : Type 0 where
  pub kind : VariableDeclarationKind
  pub ds : Trees
  pub es : Trees
  pub shape : a ≡ declaration kind ds ▸ (declaration kind es ▸ none)
  pub written : b ≡ declaration kind (append ds es) ▸ none

-- 76: `if (a) s; else u` becomes `if (a) s; u`, where s ends in a jump
pub record Row76 (a b : Trees) : Type 0 where
  pub test : Tree
  pub s : Tree
  pub u : Tree
  pub terminated : is_terminated s ≡ true
  pub unscoped : is_unscoped u ≡ true
  pub shape : a ≡ if_else test s u ▸ none
  pub written : b ≡ if_alone test s ▸ (u ▸ none)

-- 74: `if (a) s; if (b) s;` becomes `if (a || b) s`, where s ends in a jump, and `a || b` nests no
-- deeper than may be put deeper; the second may have an `else`, which stays
pub record Row74 (a b : Trees) : Type 0 where
  pub left : Tree
  pub right : Tree
  pub s : Tree
  pub u : Tree
  pub terminated : is_terminated s ≡ true
  pub shallow : may_join left right ≡ true
  pub shape : a ≡ if_alone left s ▸ (if_else right s u ▸ none)
  pub written : b ≡ if_else (logical Or left right) s u ▸ none

-- a statement of an expression
pub data Saying : Type 0 where
  AsStatement : Saying
  AsReturn : Saying
  AsThrow : Saying

abbrev pub says : Saying → Tree → Tree
says AsStatement e = expression_statement e
says AsReturn e = return_statement e
says AsThrow e = throw_statement e

-- 77: `return a; b();` becomes `return a;`, and so `return b;` and `throw b;` go after a statement
-- that ends in a jump
pub record Row77 (a b : Trees) : Type 0 where
  pub first : Tree
  pub saying : Saying
  pub e : Tree
  pub terminated : is_terminated first ≡ true
  pub dropped : leaves_nothing e ≡ true
  pub shape : a ≡ first ▸ (says saying e ▸ none)
  pub written : b ≡ first ▸ none

-- `break;` and `continue;`
pub data Leap : Type 0 where
  Breaks : Leap
  Continues : Leap

abbrev pub leap : Leap → Tree
leap Breaks = node shape.BreakStatement [] 0 (absent ▸ none)
leap Continues = node shape.ContinueStatement [] 0 (absent ▸ none)

-- 77: `return a; break;` becomes `return a;`, and so with `continue;`
pub record Row77Leap (a b : Trees) : Type 0 where
  pub first : Tree
  pub leaping : Leap
  pub terminated : is_terminated first ≡ true
  pub shape : a ≡ first ▸ (leap leaping ▸ none)
  pub written : b ≡ first ▸ none

-- What never runs

-- Where names that can't be written are declared: constants, and the names of function expressions
-- and of classes (ECMA-262, "Runtime Semantics: InstantiateOrdinaryFunctionExpression",
-- "ClassDefinitionEvaluation"). A statement that goes takes such a name along where a scope in it
-- declares it

-- a name, or nothing
abbrev pub is_name_shape : Shape → Bool
is_name_shape shape.BindingIdentifier = true
is_name_shape shape.Absent = true
is_name_shape _ = false

-- whether the names that a part of a declaration gives are those that it binds (ECMA-262,
-- "BoundNames"): of a pattern all of its parts are asked, and of what has an initializer the first.
-- No statement and no declaration stands there
pub data Binding : Type 0 where
  By_all : Binding
  By_first : Binding
  Never : Binding
  Anyway : Binding

abbrev pub binding_of : Shape → Binding
binding_of shape.Listed = By_all
binding_of shape.ObjectPattern = By_all
binding_of shape.ArrayPattern = By_all
binding_of (shape.BindingProperty is_shorthand is_computed) = By_all
binding_of shape.RestElement = By_all
binding_of shape.VariableDeclarator = By_first
binding_of shape.AssignmentPattern = By_first
binding_of (shape.UnaryExpression LogicalNot) = Never
binding_of (shape.VariableDeclaration k) = Never
binding_of (shape.Class true) = Never
binding_of shape.SwitchCase = Never
binding_of shape.ExportNamedDeclaration = Never
binding_of shape.ExportDefaultDeclaration = Never
binding_of _ = Anyway

abbrev pub binds_by : Binding → Bool → Bool → Bool
binds_by By_all all first = all
binds_by By_first all first = first
binds_by Never all first = false
binds_by Anyway all first = true

abbrev mutual
  pub binds : Tree → Bool
  binds (node h xs n ts) = binds_by (binding_of h) (all_bind ts) (first_binds ts)

  pub all_bind : Trees → Bool
  all_bind none = true
  all_bind (t ▸ ts) = binds t && all_bind ts

  pub first_binds : Trees → Bool
  first_binds none = true
  first_binds (t ▸ ts) = binds t

-- a node whose own name a scope declares that it opens itself, or one around it, where one holds it
abbrev pub encloses_by : Bool → Shape → Trees → Bool
encloses_by held (shape.VariableDeclaration Const) ts = held && first_binds ts
encloses_by held (shape.Function false is_generator directives) ts = nat_eq (count ts) 3 && is_name_shape (shape_of (child_or_absent ts 0))
encloses_by held (shape.Class false) ts = nat_eq (count ts) 4 && is_name_shape (shape_of (child_or_absent ts 0))
encloses_by held (shape.Class true) ts = nat_eq (count ts) 4 && is_name_shape (shape_of (child_or_absent ts 3))
encloses_by held shape.ImportSpecifier ts = false
encloses_by held shape.ImportDefaultSpecifier ts = false
encloses_by held shape.ImportNamespaceSpecifier ts = false
encloses_by held h ts = true

abbrev pub is_first : ℕ → Bool
is_first zero = true
is_first (suc i) = false

abbrev pub is_second : ℕ → Bool
is_second (suc zero) = true
is_second i = false

abbrev pub is_third : ℕ → Bool
is_third (suc (suc zero)) = true
is_third i = false

-- a node opens a scope of the names that this child declares: a block, a `switch`, the head of a
-- loop, a function
abbrev pub scopes_child : Shape → ℕ → Bool
scopes_child shape.BlockStatement i = is_first i
scopes_child shape.StaticBlock i = is_first i
scopes_child shape.ForStatement i = is_first i
scopes_child shape.ForInStatement i = is_first i
scopes_child shape.ForOfStatement i = is_first i
scopes_child shape.SwitchStatement i = is_second i
scopes_child (shape.ArrowFunctionExpression directives) i = is_second i
scopes_child (shape.Function is_declaration is_generator directives) i = is_third i
scopes_child h i = false

-- it declares those names itself
abbrev pub hands_on_child : Shape → ℕ → Bool
hands_on_child shape.FunctionBody i = is_first i
hands_on_child shape.SwitchCase i = is_second i
hands_on_child shape.Listed i = true
hands_on_child h i = false

abbrev pub is_body_of_function : Shape → Bool
is_body_of_function shape.FunctionBody = true
is_body_of_function _ = false

abbrev pub has_body : Shape → Bool
has_body (shape.ArrowFunctionExpression directives) = true
has_body (shape.Function is_declaration is_generator directives) = true
has_body _ = false

-- whether a scope has the names that the child at an index declares, a child of this shape: the
-- node's, or one around it
abbrev pub holds : Bool → Shape → ℕ → Shape → Bool
holds held h i g = (scopes_child h i || (hands_on_child h i && held)) && (has_body h || not (is_body_of_function g))

-- each such name in it is declared by a scope in it, or by one around, where one holds it
abbrev mutual
  pub encloses : Bool → Tree → Bool
  encloses held (node h xs n ts) = encloses_by held h ts && all_enclose held h 0 ts

  -- of children from an index on
  pub all_enclose : Bool → Shape → ℕ → Trees → Bool
  all_enclose held h i none = true
  all_enclose held h i (t ▸ ts) = encloses (holds held h i (shape_of t)) t && all_enclose held h (suc i) ts

-- `x, y`, each without an initializer
abbrev pub bare_declarators : List Name → Trees
bare_declarators [] = none
bare_declarators (x ∷ xs) = declarator (binding x) absent ▸ bare_declarators xs

-- `var x, y;`, or nothing where there is no name
abbrev pub declared_bare : List Name → Trees
declared_bare [] = none
declared_bare (x ∷ xs) = declaration Var (bare_declarators (x ∷ xs)) ▸ none

-- what is left of a statement that never runs: its `var` names, which are hoisted (ECMA-262,
-- "VarDeclaredNames")
abbrev pub left_behind : Tree → Trees
left_behind t = declared_bare (names_of declared.Hoisted t)

-- that is lighter
abbrev pub is_lighter_left : Tree → Bool
is_lighter_left t = nat_lt (capped (weight StatementList (listed (left_behind t)))) (capped (weight (Stmt stmt_seat.List) t))

-- 77: `return a; let b; var x = c(), y;` becomes `return a; let b; var x, y;`,
-- `return a; function f() {} if (b) { var x = 1; }` becomes `return a; function f() {} var x;`, and
-- a statement in which no `var` stands goes
pub record Row77Unreached (a b : Trees) : Type 0 where
  pub first : Tree
  pub between : Trees
  pub gone : Tree
  pub terminated : is_terminated first ≡ true
  pub unscoped : is_unscoped gone ≡ true
  pub dropped : encloses false gone ≡ true
  pub lighter : is_lighter_left gone ≡ true
  pub shape : a ≡ first ▸ append between (gone ▸ none)
  pub written : b ≡ first ▸ append between (left_behind gone)

abbrev pub are_bare_declarators : Trees → Bool
are_bare_declarators none = true
are_bare_declarators (d ▸ ds) = is_bare_declarator d && are_bare_declarators ds

-- `for (left in right) body` and `for (left of right) body`
pub data Each : Type 0 where
  EachIn : Each
  EachOf : Each

abbrev pub each_loop : Each → Tree → Tree → Tree → Tree
each_loop EachIn left right body = for_in left right body
each_loop EachOf left right body = node shape.ForOfStatement [] 0 (left ▸ (right ▸ (body ▸ none)))

-- what holds an expression that is evaluated first: `e;`, a head, what a `for..in` or `for..of`
-- goes over, or the first initializer of a declaration, or of a `var` in the head of a `for`
pub data Holder : Type 0 where
  Statement : Holder
  Heading : Head → Holder
  Going : Each → Tree → Tree → Holder
  Declaring : VariableDeclarationKind → Tree → Trees → Holder
  Looping : Tree → Trees → Tree → Tree → Tree → Holder

abbrev pub holding : Holder → Tree → Tree
holding Statement e = expression_statement e
holding (Heading h) e = with_head h e
holding (Going k left body) e = each_loop k left e body
holding (Declaring kind id ds) e = declaration kind (declarator id e ▸ ds)
holding (Looping id ds test update body) e = for_loop (declaration Var (declarator id e ▸ ds)) test update body

-- the head of a loop declares no lexical name, which would be uninitialised there
abbrev pub holds_well : Holder → Bool
holds_well (Going k left body) = is_plain_left left
holds_well _ = true

-- how an assignment begins a statement: it is all of `e;` or of the expression that a `for` begins
-- with, or the first part of a sequence that stands in such a place
pub data Beginning : Type 0 where
  Alone : Beginning
  Init : Tree → Tree → Tree → Beginning
  Before : Holder → Tree → Trees → Beginning

abbrev pub begun : Beginning → Tree → Tree
begun Alone a = expression_statement a
begun (Init u v w) a = for_loop a u v w
begun (Before h q qs) a = holding h (sequence (a ▸ (q ▸ qs)))

-- and the statement without it
abbrev pub begun_without : Beginning → Trees
begun_without Alone = none
begun_without (Init u v w) = for_loop absent u v w ▸ none
begun_without (Before h q qs) = holding h (of_parts q qs) ▸ none

abbrev pub begins_well : Beginning → Bool
begins_well (Before h q qs) = holds_well h && are_parts q qs
begins_well _ = true

-- 70: `var a, c; a = b;` becomes `var a = b, c;`, `var a; return a = b, d;` becomes
-- `var a = b; return d;`, `var a; for (c of (a = b, d)) e` becomes `var a = b; for (c of d) e`,
-- `var a; let c = (a = b, d);` becomes `var a = b; let c = d;`, and
-- `var a; for (var c = (a = b, d); e; f) g` becomes `var a = b; for (var c = d; e; f) g`
pub record Row70 (a b : Trees) : Type 0 where
  pub ds : Trees
  pub spelling : List ℕ
  pub symbol : ℕ
  pub es : Trees
  pub value : Tree
  pub beginning : Beginning
  pub bare : are_bare_declarators es ≡ true
  pub plain : declares_nothing value ≡ true
  pub parts : begins_well beginning ≡ true
  pub shape : a ≡ declaration Var (append ds (declarator (binding (resolved spelling symbol)) absent ▸ es)) ▸ (begun beginning (assigned (resolved spelling symbol) value) ▸ none)
  pub written : b ≡ declaration Var (append ds (declarator (binding (resolved spelling symbol)) value ▸ es)) ▸ begun_without beginning

-- `var x`
abbrev pub bare_var : Name → Tree
bare_var x = declaration Var (declarator (binding x) absent ▸ none)

-- 69: `var a; for (a of b) c` becomes `for (var a of b) c`, and so with `in`
pub record Row69 (k : Each) (a b : Trees) : Type 0 where
  pub spelling : List ℕ
  pub symbol : ℕ
  pub right : Tree
  pub body : Tree
  pub shape : a ≡ bare_var (resolved spelling symbol) ▸ (each_loop k (identifier (resolved spelling symbol)) right body ▸ none)
  pub written : b ≡ each_loop k (bare_var (resolved spelling symbol)) right body ▸ none

-- Rows at the end of a list after which a jump would go where the list does: a function's body,
-- after which it returns

-- 78: the last jump goes
pub record Row78 (jump : Tree) (a b : Trees) : Type 0 where
  pub shape : a ≡ jump ▸ none
  pub written : b ≡ none

-- 75: `if (a) return; b; c;` becomes `if (!a) { b; c; }`, where b and c nest no deeper than may be
-- put deeper
pub record Row75 (jump : Tree) (a b : Trees) : Type 0 where
  pub test : Tree
  pub rest : Trees
  pub unscoped : are_unscoped rest ≡ true
  pub shallow : may_all_sink rest ≡ true
  pub shape : a ≡ if_alone test jump ▸ rest
  pub written : b ≡ if_alone (negation test) (block rest) ▸ none

-- the alternate that some statements make, if there are any
abbrev pub alternate_of : Trees → Tree
alternate_of none = absent
alternate_of (t ▸ ts) = block (t ▸ ts)

-- 75: `if (a) { b; return; } c;` becomes `if (a) { b; } else { c; }`, where c nests no deeper
pub record Row75Block (jump : Tree) (a b : Trees) : Type 0 where
  pub test : Tree
  pub body : Trees
  pub rest : Trees
  pub loose : are_unscoped body ≡ true
  pub unscoped : are_unscoped rest ≡ true
  pub shallow : may_all_sink rest ≡ true
  pub shape : a ≡ if_alone test (block (append body (jump ▸ none))) ▸ rest
  pub written : b ≡ if_else test (block body) (alternate_of rest) ▸ none

-- `return;`
abbrev pub bare_return : Tree
bare_return = return_statement absent

-- Rows in a list

-- the rows that make sequences of expressions, or statements that others can make them of
abbrev pub SequencesRow : Trees → Trees → Type 0
SequencesRow a b = Row66Joined a b ⊎ (Row73 return_statement a b ⊎ (Row73 throw_statement a b ⊎ (Row73Bare a b ⊎ (Row67 a b ⊎ (Row67Absent a b ⊎ Row76 a b)))))

-- the rows on the head of a loop, beside those of an expression that a `for` begins with
abbrev pub LoopRow : Trees → Trees → Type 0
LoopRow a b = Row67In a b ⊎ (Row68Free a b ⊎ Row68Init a b)

-- those that join declarations, and those
abbrev pub JoinRow : Switches → Trees → Trees → Type 0
JoinRow o a b = ((o.join_vars ≡ true) × Row68 a b) ⊎ ((o.sequences ≡ true) × LoopRow a b)

-- the rows on these neighbours that the options let happen
abbrev pub StretchRow : Switches → Trees → Trees → Type 0
StretchRow o a b = Row66Empty a b ⊎ (Row79 a b ⊎ (JoinRow o a b ⊎ ((o.sequences ≡ true) × SequencesRow a b)))

-- those on a jump and what follows: on an `if` that ends in one and the next one that has its
-- branch, and on what never runs
abbrev pub GuardsRow : Switches → Trees → Trees → Type 0
GuardsRow o a b = (o.sequences ≡ true) × (Row74 a b ⊎ (Row77 a b ⊎ (Row77Leap a b ⊎ Row77Unreached a b)))

-- those on a `var` and a statement that writes its name first
abbrev pub EntersRow : Switches → Trees → Trees → Type 0
EntersRow o a b = Row70 a b ⊎ (Row69 EachOf a b ⊎ ((o.sequences ≡ true) × Row69 EachIn a b))

-- all of them
abbrev pub NeighbourRow : Switches → Trees → Trees → Type 0
NeighbourRow o a b = StretchRow o a b ⊎ (GuardsRow o a b ⊎ EntersRow o a b)

-- some neighbours in a list, and others in their place
pub record InList (R : Trees → Trees → Type 0) (n w : Tree) : Type 0 where
  pub before : Trees
  pub read : Trees
  pub put : Trees
  pub after : Trees
  pub row : R read put
  pub shape : n ≡ listed (append before (append read after))
  pub written : w ≡ listed (append before (append put after))

-- the last statements of a list, and others in their place
pub record AtEnd (R : Trees → Trees → Type 0) (n w : Tree) : Type 0 where
  pub before : Trees
  pub read : Trees
  pub put : Trees
  pub row : R read put
  pub shape : n ≡ listed (append before read)
  pub written : w ≡ listed (append before put)

-- the rows at the end of the list that this jump leaves
abbrev pub EndRow : Switches → Tree → Trees → Trees → Type 0
EndRow o jump a b = Row78 jump a b ⊎ ((o.sequences ≡ true) × (Row75 jump a b ⊎ Row75Block jump a b))

-- a row reads the list n at this place as w
abbrev pub ListRow : Switches → Position → Tree → Tree → Type 0
ListRow o StatementList n w = InList (NeighbourRow o) n w
ListRow o BodyList n w = InList (NeighbourRow o) n w ⊎ AtEnd (EndRow o bare_return) n w
ListRow o _ n w = ⊥

-- what a row writes, where it weighs less
pub record ListContracts (o : Switches) (p : Position) (n w : Tree) : Type 0 where
  pub row : ListRow o p n w
  pub lighter : weight p w < weight p n

-- Laws

-- what a row writes is lighter in every list
abbrev pub ListsLighter : Type 0
ListsLighter = (o : Switches) (p : Position) (n w : Tree) → ListRow o p n w → weight p w < weight p n

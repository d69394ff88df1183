-- Rows 71 and 72 of a `var` that stands further inside the body that it belongs to, with the
-- JavaScript before and after.
use Rattle.std.proofs.Common.{inl, inr}
use Rattle.std.specs.Prelude.{◌≡◌, ◌⊎◌, ◌<◌, not, ℕ, zero, suc, Bool, true, false, List, [], Option, Some, None, if◌then◌else◌}
use Rattle.mini_model.specs.declared.kind.VariableDeclarationKind.TheVariants.{Var}
use Rattle.mini_model.specs.declared.place.Position.{Position}
use Rattle.mini_model.specs.declared.place.Position.TheVariants.{Expr, Stmt, Method, Elsewhere}
use Rattle.mini_model.specs.declared.shape.Shape.{Shape}
use Rattle.mini_model.specs.declared.shape.Shape.TheVariants as shape
use Rattle.mini_model.specs.Tree.{Tree, Trees, node, none, ◌▸◌, absent, listed, count}
use Rattle.mini_model.specs.Paths.{append}
use Rattle.mini_model.specs.Weight.{weight}
use Rattle.mini_laws.specs.Naming.{is_lexical}
use Rattle.mini_laws.specs.Path.{Path, here, inside, join, plug}
use Rattle.mini_laws.specs.ScopeList.{has_eval}
use Rattle.mini_laws.specs.Value.{Declared}
use Rattle.mini_laws.specs.Weights.{Lightens}
use Rattle.mini_kept.specs.Loosely.{LawfulWith}
use Rattle.mini_node.specs.Kinds.{is_listed_shape}
use Rattle.mini_rows.specs.declared.inside.Way.{Way}
use Rattle.mini_rows.specs.declared.inside.Way.TheVariants as way
use Rattle.mini_rows.specs.Lists.{block}
use Rattle.mini_rows.specs.Switches.{Liberties}
use Rattle.mini_rows.specs.Unused.{resolved, names, any_names, declared_among, head_left, is_idle, Row71Next, BlockRow}
pub use Rattle.mini_rows.specs.Unused.{is_lexical_shape}

-- ---- the way to it

-- one at a place
abbrev pub at_place : ℕ → Way → ℕ → Option Way
at_place zero w zero = Some w
at_place (suc n) w (suc i) = at_place n w i
at_place n w i = None

abbrev pub first_of : Option Way → Option Way → Option Way
first_of (Some w) o = Some w
first_of None o = o

-- in the branches of an `if`, which stand in no list, and in a `try`: its block, its handler and
-- what runs finally
abbrev pub branch_way : ℕ → Option Way
branch_way i = first_of (at_place 1 way.Held i) (at_place 2 way.Held i)

abbrev pub try_way : ℕ → Option Way
try_way i = first_of (at_place 1 way.Catch i) (first_of (at_place 0 way.Statement i) (at_place 2 way.Statement i))

-- in a `for`: its head and its body
abbrev pub for_way : ℕ → Option Way
for_way i = first_of (at_place 0 way.Head i) (at_place 3 way.Held i)

-- what stands at the child of a statement, where a `var` in it is one of what is around the
-- statement (ECMA-262, "Static Semantics: VarDeclaredNames"): none goes into a function or a class
abbrev pub statement_way : Shape → ℕ → Option Way
statement_way shape.BlockStatement i = at_place 0 way.Statements i
statement_way shape.IfStatement i = branch_way i
statement_way shape.WhileStatement i = at_place 1 way.Held i
statement_way shape.DoWhileStatement i = at_place 0 way.Held i
statement_way shape.ForStatement i = for_way i
statement_way shape.ForInStatement i = at_place 2 way.Held i
statement_way shape.ForOfStatement i = at_place 2 way.Held i
statement_way shape.LabeledStatement i = at_place 1 way.Held i
statement_way shape.TryStatement i = try_way i
statement_way shape.SwitchStatement i = at_place 1 way.Cases i
statement_way h i = None

abbrev pub is_case_shape : Shape → Bool
is_case_shape shape.SwitchCase = true
is_case_shape h = false

abbrev pub is_catch_shape : Shape → Bool
is_catch_shape shape.CatchClause = true
is_catch_shape h = false

-- and at that of what else stands on the way
abbrev pub way_in : Way → Shape → ℕ → Option Way
way_in way.Statement h i = statement_way h i
way_in way.Held h i = statement_way h i
way_in way.Head h i = None
way_in way.Statements h i = if is_listed_shape h then Some way.Statement else None
way_in way.Cases h i = if is_listed_shape h then Some way.Case else None
way_in way.Case h i = if is_case_shape h then at_place 1 way.Statements i else None
way_in way.Catch h i = if is_catch_shape h then at_place 1 way.Statement i else None

-- whether two are the same
abbrev pub same_way : Way → Way → Bool
same_way way.Statement way.Statement = true
same_way way.Held way.Held = true
same_way way.Statements way.Statements = true
same_way way.Cases way.Cases = true
same_way way.Case way.Case = true
same_way way.Catch way.Catch = true
same_way way.Head way.Head = true
same_way e s = false

-- the place is reached so, and this stands there
abbrev pub is_way_to : Way → Option Way → Path → Bool
is_way_to e (Some s) here = same_way e s
is_way_to e (Some s) (inside h [] zero pre k post) = is_way_to e (way_in s h (count pre)) k
is_way_to e s k = false

-- a list of statements does
abbrev pub is_way : Option Way → Path → Bool
is_way s k = is_way_to way.Statements s k

-- the nodes on the way to it, each without what the way goes into
abbrev pub above : Path → Trees
above here = none
above (inside h xs n pre k post) = node h xs n (join pre absent post) ▸ above k

-- ---- the body that it belongs to

-- an arrow function, any other function, a module, and a static block, each with all but its list
-- of statements
pub data Holder : Type 0 where
  Arrow : List (List ℕ) → ℕ → Trees → Holder
  Function : Bool → Bool → List (List ℕ) → ℕ → Tree → Trees → Holder
  Module : List (List ℕ) → Holder
  Static : ℕ → Holder

-- `{ .. }`, as a body over such a list
abbrev pub body_over : Tree → Tree
body_over l = node shape.FunctionBody [] 0 (l ▸ none)

abbrev pub over : Holder → Tree → Tree
over (Arrow directives n parameters) l = node (shape.ArrowFunctionExpression directives) [] n (listed parameters ▸ (body_over l ▸ none))
over (Function is_declared is_generator directives n name parameters) l = node (shape.Function is_declared is_generator directives) [] n (name ▸ (listed parameters ▸ (body_over l ▸ none)))
over (Module directives) l = node (shape.Program true directives) [] 0 (l ▸ none)
over (Static n) l = node shape.StaticBlock [] n (l ▸ none)

-- where it stands
abbrev pub stands_at : Holder → Position → Bool
stands_at (Arrow directives n parameters) (Expr s) = true
stands_at (Function is_declared is_generator directives n name parameters) (Stmt q) = true
stands_at (Function is_declared is_generator directives n name parameters) (Expr s) = true
stands_at (Function is_declared is_generator directives n name parameters) Method = true
stands_at (Function is_declared is_generator directives n name parameters) Elsewhere = true
stands_at (Module directives) Elsewhere = true
stands_at (Static n) Elsewhere = true
stands_at o p = false

-- ---- the rows

-- what goes is a `var`
abbrev pub declares_var : {W : Liberties} {n w : Tree} → BlockRow W n w → Bool
declares_var (inl r) = not (is_lexical r.kind)
declares_var (inr (inl r)) = not (is_lexical r.kind)
declares_var (inr (inr (inl r))) = not (is_lexical r.kind)
declares_var (inr (inr (inr r))) = not (is_lexical r.kind)

-- `{ var x = b(); return x.c; }` becomes `{ ; return b().c; }`, `{ var x = a(); b(); }` becomes
-- `{ a(); b(); }`, and `{ const y = b(); var x = c(); return x.d + y; }` becomes
-- `{ const y = b(); ; return c().d + y; }`: a list of statements, from which a `var` goes, with
-- what stands outside of it
pub record ListEnd (W : Liberties) (o : Trees) (n w : Tree) : Type 0 where
  pub list : Trees
  pub left : Trees
  pub row : BlockRow W (block (listed o ▸ list)) (block (listed o ▸ left))
  pub var : declares_var row ≡ true
  pub shape : n ≡ listed list
  pub written : w ≡ listed left

-- `if (a) var x = b();` becomes `if (a) b();`, and `while (a) var x = b(), y = x.c;` becomes
-- `while (a) var y = b().c;`: a `var` in no list, which is read like a list of this one statement
pub record HeldEnd (W : Liberties) (o : Trees) (n w : Tree) : Type 0 where
  pub row : BlockRow W (block (listed o ▸ (n ▸ none))) (block (listed o ▸ (w ▸ none)))
  pub var : declares_var row ≡ true

-- `for (var x = 1, y = 2; a; b) c(y);` becomes `for (var y = 2; a; b) c(y);`, and
-- `for (var x; a; b) c();` becomes `for (; a; b) c();`: what a `for` begins with, where nothing
-- misses the initializer
pub record HeadEnd (W : Liberties) (o : Trees) (n w : Tree) : Type 0 where
  pub first : Trees
  pub spelling : List ℕ
  pub symbol : ℕ
  pub init : Tree
  pub last : Trees
  pub goes : W.writable (Declared symbol) ≡ true
  pub idle : is_idle init ≡ true
  pub outside : any_names (resolved spelling symbol) o ≡ false
  pub declared_earlier : any_names (resolved spelling symbol) first ≡ false
  pub initial : names (resolved spelling symbol) init ≡ false
  pub declared_later : any_names (resolved spelling symbol) last ≡ false
  pub unseen : has_eval (block (listed o ▸ (declared_among Var (resolved spelling symbol) first init last ▸ none))) ≡ false
  pub shape : n ≡ declared_among Var (resolved spelling symbol) first init last
  pub written : w ≡ head_left Var (append first last)

-- `for (var x = a(), y = x.b; y(); ) y(y);` becomes `for (var y = a().b; y(); ) y(y);`: a `var`
-- that a `for` begins with, which is read like a list of this one statement, where the next
-- declarator reads the name. It is evaluated once, before each turn (ECMA-262, "ForLoopEvaluation")
pub record HeadNextEnd (W : Liberties) (o : Trees) (n w : Tree) : Type 0 where
  pub row : Row71Next W (block (listed o ▸ (n ▸ none))) (block (listed o ▸ (w ▸ none)))
  pub var : not (is_lexical row.kind) ≡ true

-- what is read at the end of a way, below these nodes
abbrev pub EndRow : Way → Liberties → Trees → Tree → Tree → Type 0
EndRow way.Statements W o n w = ListEnd W o n w
EndRow way.Held W o n w = HeldEnd W o n w
EndRow way.Head W o n w = HeadEnd W o n w ⊎ HeadNextEnd W o n w
EndRow s W o n w = ⊥

-- what is read at the end of a way, by the nodes above it
abbrev pub Ends : Type 1
Ends = Trees → Way → Tree → Tree → Type 0

-- a `var` further inside a body whose end is one of those. All else that stands in the body, with
-- what it belongs to, is read like what stands before the declaration in a block. Each turn of a
-- loop runs the list anew, so what reads the name right behind its declaration reads what that has
-- written
pub record InsideOf (E : Ends) (n w : Tree) : Type 0 where
  pub holder : Holder
  pub first : Trees
  pub place : Path
  pub last : Trees
  pub end : Way
  pub read : Tree
  pub put : Tree
  pub row : E (over holder absent ▸ (listed (append first (absent ▸ last)) ▸ above place)) end read put
  pub there : is_way_to end (Some way.Statement) place ≡ true
  pub shape : n ≡ over holder (listed (append first (plug place read ▸ last)))
  pub written : w ≡ over holder (listed (append first (plug place put ▸ last)))

-- at this place, where it weighs less
pub record InsideAt (E : Ends) (p : Position) (n w : Tree) : Type 0 where
  pub row : InsideOf E n w
  pub stands : stands_at row.holder p ≡ true
  pub lighter : weight p w < weight p n

abbrev pub unused_ends : Liberties → Ends
unused_ends W o z n w = EndRow z W o n w

-- `function f(a) { if (a) { var x = b(); return x.c; } }` becomes
-- `function f(a) { if (a) { ; return b().c; } }`, and
-- `function f(a) { for (;;) { var x = a(); b(); } }` becomes
-- `function f(a) { for (;;) { a(); b(); } }`
abbrev pub InsideRow : Liberties → Tree → Tree → Type 0
InsideRow W = InsideOf (unused_ends W)

abbrev pub InsideContracts : Liberties → Position → Tree → Tree → Type 0
InsideContracts W = InsideAt (unused_ends W)

-- ---- the laws

-- it is lighter everywhere
abbrev pub EndsLighten : Ends → Type 0
EndsLighten E = (p : Position) (n w : Tree) → (r : InsideOf E n w) → stands_at r.holder p ≡ true → weight p w < weight p n

abbrev pub InsideLighter : Type 0
InsideLighter = (W : Liberties) → EndsLighten (unused_ends W)

-- and makes the whole lighter
abbrev pub InsideLightens : Type 0
InsideLightens = (W : Liberties) → Lightens (InsideContracts W)

-- it drops a name that nothing mentions, where those variables can be written, whichever functions
-- and classes may lose their own
abbrev pub InsideIsLawful : Type 0
InsideIsLawful = (K : Shape → Bool) (W : Liberties) → LawfulWith K W.writable (InsideContracts W)

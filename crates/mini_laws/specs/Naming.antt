-- What is read of a node's text besides its shape: the kind of its names, what its parent reads of
-- it, and the variables that its command names by place.
use Rattle.std.specs.Prelude.{ℕ, zero, suc, Bool, true, false, ◌||◌, List, [], ◌∷◌, ◌++◌, Option, Some, None, is_none, codes, if◌then◌else◌}
use Rattle.mini_model.specs.declared.kind.VariableDeclarationKind.{VariableDeclarationKind}
use Rattle.mini_model.specs.declared.kind.VariableDeclarationKind.TheVariants.{Var}
use Rattle.mini_model.specs.declared.name.Name.{Name}
use Rattle.mini_model.specs.declared.operator.UnaryOperator.TheVariants.{LogicalNot}
use Rattle.mini_model.specs.declared.shape.Shape.{Shape}
use Rattle.mini_model.specs.declared.shape.Shape.TheVariants as shape
use Rattle.mini_model.specs.Tree.{Tree, Trees, node, none, ◌▸◌}
use Rattle.mini_model.specs.Weight.{same_text}
use Rattle.mini_laws.specs.Value.{Variable, choose, variables}
use Rattle.mini_laws.specs.Demand.{Demand, Target, Declares, Binds, Heads}
use Rattle.mini_laws.specs.Command.{Hoisted, Naming}

-- a name by its spelling: the last two are unresolved (ECMA-262, "Value Properties of the Global
-- Object")
pub data NameKind : Type 0 where
  PlainName : NameKind
  EvalName : NameKind
  UndefinedName : NameKind
  NumberName : NameKind

abbrev pub kind_declared : List ℕ → NameKind
kind_declared s = if same_text s (codes "eval") then EvalName else PlainName

abbrev pub kind_unresolved : List ℕ → NameKind
kind_unresolved s = if same_text s (codes "undefined") then UndefinedName else (if same_text s (codes "NaN") then NumberName else (if same_text s (codes "Infinity") then NumberName else kind_declared s))

abbrev pub kind_of : Name → NameKind
kind_of x = if is_none x.symbol then kind_unresolved x.spelling else kind_declared x.spelling

abbrev pub kinds : List Name → List NameKind
kinds [] = []
kinds (x ∷ xs) = kind_of x ∷ kinds xs

-- whether a node has a name
abbrev pub has_kind : List NameKind → Bool
has_kind [] = false
has_kind (k ∷ ks) = true

-- a declaration in a place where an expression or a target may stand too
pub data Declared : Type 0 where
  Variables : VariableDeclarationKind → Declared
  AClass : Declared

-- a function that is declared: with a name; with one and exported as default; or exported without a
-- name
pub data FunctionFact : Type 0 where
  Named : FunctionFact
  NamedDefault : FunctionFact
  BareDefault : FunctionFact

-- what a parent's command reads of a child's text: whether it is absent, whether a link of it in a
-- chain is optional, what it declares, the functions that are created where the block or the body
-- around it is entered, and the texts of a template
pub record Facts : Type 0 where
  pub absent : Bool
  pub shortens : Bool
  pub declared : Option Declared
  pub functions : List FunctionFact
  pub texts : List (List ℕ)

-- and the variables that go with it: those that it declares in the scope around it, or binds, that
-- of a name that is declared, and the functions
pub record Summary : Type 0 where
  pub facts : Facts
  pub lets : List Variable
  pub name : Option Variable
  pub functions : List Hoisted

abbrev pub facts_all : List Summary → List Facts
facts_all [] = []
facts_all (i ∷ is) = i.facts ∷ facts_all is

abbrev pub lets_all : List Summary → List Variable
lets_all [] = []
lets_all (i ∷ is) = i.lets ++ lets_all is

abbrev pub functions_all : List Summary → List Hoisted
functions_all [] = []
functions_all (i ∷ is) = i.functions ++ functions_all is

abbrev pub function_facts : List Facts → List FunctionFact
function_facts [] = []
function_facts (f ∷ fs) = f.functions ++ function_facts fs

abbrev pub texts_all : List Facts → List (List ℕ)
texts_all [] = []
texts_all (f ∷ fs) = f.texts ++ texts_all fs

abbrev pub lets_first : List Summary → List Variable
lets_first [] = []
lets_first (i ∷ is) = i.lets

abbrev pub first_name : List Summary → Option Variable
first_name [] = None
first_name (i ∷ is) = i.name

abbrev pub functions_first : List Summary → List Hoisted
functions_first [] = []
functions_first (i ∷ is) = i.functions

abbrev pub no_facts : Facts
no_facts = record { absent = false; shortens = false; declared = None; functions = []; texts = [] }

abbrev pub first_facts : List Facts → Facts
first_facts [] = no_facts
first_facts (f ∷ fs) = f

abbrev pub nth_absent : List Facts → ℕ → Bool
nth_absent [] i = true
nth_absent (f ∷ fs) zero = f.absent
nth_absent (f ∷ fs) (suc i) = nth_absent fs i

abbrev pub function_fact : Bool → FunctionFact
function_fact true = BareDefault
function_fact false = Named

abbrev pub as_default : List FunctionFact → List FunctionFact
as_default [] = []
as_default (Named ∷ fs) = NamedDefault ∷ as_default fs
as_default (f ∷ fs) = f ∷ as_default fs

abbrev pub cooked_texts : Option (List ℕ) → List (List ℕ)
cooked_texts (Some s) = s ∷ []
cooked_texts None = []

-- of a `!` a parent reads what it would read of the operand, so that two of them can be taken off
abbrev pub facts_of : Shape → List Facts → Facts
facts_of shape.Absent fs = record no_facts { absent = true }
facts_of (shape.UnaryExpression LogicalNot) fs = first_facts fs
facts_of shape.InnerExpression fs = record no_facts { shortens = (first_facts fs).shortens }
facts_of (shape.CallExpression is_optional) fs = record no_facts { shortens = is_optional || (first_facts fs).shortens }
facts_of (shape.StaticMemberExpression is_optional) fs = record no_facts { shortens = is_optional || (first_facts fs).shortens }
facts_of (shape.ComputedMemberExpression is_optional) fs = record no_facts { shortens = is_optional || (first_facts fs).shortens }
facts_of (shape.PrivateFieldExpression is_optional) fs = record no_facts { shortens = is_optional || (first_facts fs).shortens }
facts_of shape.Listed fs = record no_facts { functions = function_facts fs; texts = texts_all fs }
facts_of (shape.Function true is_generator directives) fs = record no_facts { functions = function_fact (nth_absent fs 0) ∷ [] }
facts_of (shape.Class true) fs = record no_facts { declared = Some AClass }
facts_of (shape.VariableDeclaration k) fs = record no_facts { declared = Some (Variables k) }
facts_of shape.SwitchCase fs = record no_facts { absent = nth_absent fs 0; functions = function_facts fs }
facts_of shape.ExportNamedDeclaration fs = record no_facts { functions = (first_facts fs).functions }
facts_of shape.ExportDefaultDeclaration fs = record no_facts { functions = as_default (first_facts fs).functions }
facts_of (shape.TemplateElement is_tail raw cooked) fs = record no_facts { texts = cooked_texts cooked }
facts_of _ fs = no_facts

abbrev pub is_lexical : VariableDeclarationKind → Bool
is_lexical Var = false
is_lexical _ = true

abbrev pub front : List Variable → List Variable
front [] = []
front (x ∷ xs) = x ∷ []

abbrev pub class_lets : Option Declared → List Variable → List Variable
class_lets (Some AClass) xs = xs
class_lets _ xs = []

-- ECMA-262, "BoundNames" of what binds, and "LexicallyDeclaredNames" of statements, functions aside
abbrev pub lets_of : Shape → List Variable → List Summary → List Variable
lets_of shape.BindingIdentifier xs is = front xs
lets_of (shape.UnaryExpression LogicalNot) xs is = lets_first is
lets_of shape.Listed xs is = lets_all is
lets_of shape.ObjectPattern xs is = lets_all is
lets_of shape.ArrayPattern xs is = lets_all is
lets_of (shape.BindingProperty is_shorthand is_computed) xs is = lets_all is
lets_of shape.RestElement xs is = lets_all is
lets_of shape.AssignmentPattern xs is = lets_first is
lets_of shape.VariableDeclarator xs is = lets_first is
lets_of (shape.VariableDeclaration k) xs is = choose (is_lexical k) (lets_first is) []
lets_of (shape.Class true) xs is = lets_first is
lets_of shape.SwitchCase xs is = lets_all is
lets_of shape.ExportNamedDeclaration xs is = lets_first is
lets_of shape.ExportDefaultDeclaration xs is = class_lets (first_facts (facts_all is)).declared (lets_first is)
lets_of _ xs is = []

abbrev pub first_variable : List Variable → Option Variable
first_variable [] = None
first_variable (x ∷ xs) = Some x

abbrev pub name_of : Shape → List Variable → List Summary → Option Variable
name_of shape.BindingIdentifier xs is = first_variable xs
name_of (shape.UnaryExpression LogicalNot) xs is = first_name is
name_of _ xs is = None

-- ECMA-262, "LexicallyScopedDeclarations" and "VarScopedDeclarations", of functions
abbrev pub functions_of : Shape → ℕ → List Summary → List Hoisted
functions_of (shape.Function true is_generator directives) n is = record { name = first_name is; number = n } ∷ []
functions_of (shape.UnaryExpression LogicalNot) n is = functions_first is
functions_of shape.Listed n is = functions_all is
functions_of shape.SwitchCase n is = functions_all is
functions_of shape.ExportNamedDeclaration n is = functions_first is
functions_of shape.ExportDefaultDeclaration n is = functions_first is
functions_of _ n is = []

abbrev pub summary_of : Shape → List Variable → ℕ → List Summary → Summary
summary_of h xs n is = record { facts = facts_of h (facts_all is); lets = lets_of h xs is; name = name_of h xs is; functions = functions_of h n is }

abbrev mutual
  pub summary : Tree → Summary
  summary (node h xs n ts) = summary_of h (variables xs) n (summaries ts)

  pub summaries : Trees → List Summary
  summaries none = []
  summaries (t ▸ ts) = summary t ∷ summaries ts

abbrev pub facts : Trees → List Facts
facts ts = facts_all (summaries ts)

-- What a node's command names by place

abbrev pub named_in : Option Variable → List Variable
named_in (Some x) = x ∷ []
named_in None = []

abbrev pub function_names : List Hoisted → List Variable
function_names [] = []
function_names (f ∷ fs) = named_in f.name ++ function_names fs

-- the variables of the scope that a node opens. Functions directly in a script's or a function's
-- body are not lexical (ECMA-262, "TopLevelLexicallyDeclaredNames"), and those of a module are
abbrev pub scope_of : Shape → List Summary → List Variable
scope_of (shape.Program false directives) is = lets_all is
scope_of (shape.Program true directives) is = lets_all is ++ function_names (functions_all is)
scope_of shape.FunctionBody is = lets_all is
scope_of shape.StaticBlock is = lets_all is
scope_of shape.BlockStatement is = lets_all is ++ function_names (functions_all is)
scope_of shape.SwitchStatement is = lets_all is ++ function_names (functions_all is)
scope_of shape.ForStatement is = lets_first is
scope_of shape.ForInStatement is = lets_first is
scope_of shape.ForOfStatement is = lets_first is
scope_of shape.CatchClause is = lets_first is
scope_of _ is = []

-- the functions that a node creates
abbrev pub created_by : Shape → List Summary → List Hoisted
created_by (shape.Program is_module directives) is = functions_all is
created_by shape.FunctionBody is = functions_all is
created_by shape.StaticBlock is = functions_all is
created_by shape.BlockStatement is = functions_all is
created_by shape.SwitchStatement is = functions_all is
created_by _ is = []

-- the variable that a name writes or initialises, where that is asked of it
abbrev pub written_of : Shape → Demand → List Variable → List Variable
written_of shape.Identifier Target xs = xs
written_of shape.BindingIdentifier (Binds lexical) xs = xs
written_of shape.VariableDeclarator (Declares false) xs = xs
written_of shape.VariableDeclarator Heads xs = xs
written_of _ q xs = []

-- those that a pattern binds
abbrev pub bound_of : Shape → Demand → List Summary → List Variable
bound_of shape.ObjectPattern (Binds lexical) is = lets_all is
bound_of shape.ArrayPattern (Binds lexical) is = lets_all is
bound_of _ q is = []

abbrev pub naming : Shape → Demand → List Variable → ℕ → List Summary → Naming
naming h q xs n is = record { own = xs; written = written_of h q xs; bound = bound_of h q is; number = n; scope = scope_of h is; functions = created_by h is }

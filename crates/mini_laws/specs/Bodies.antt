-- The bodies of a program: which nodes have one, of which kind, and what its code is like.
use Rattle.std.specs.Prelude.{ℕ, zero, suc, Bool, true, false, not, List, [], ◌∷◌, ◌++◌}
use Rattle.mini_model.specs.declared.kind.MethodDefinitionKind.TheVariants as method
use Rattle.mini_model.specs.declared.shape.Shape.{Shape}
use Rattle.mini_model.specs.declared.shape.Shape.TheVariants as shape
use Rattle.mini_model.specs.Tree.{Tree, Trees, node, none, ◌▸◌, child_or_absent, shape_of}
use Rattle.mini_laws.specs.Value.{VariableSet, choose}
use Rattle.mini_laws.specs.State.{Environment}
use Rattle.mini_laws.specs.Naming.{facts, nth_absent}
use Rattle.mini_laws.specs.Fixity.{is_strict_in}
use Rattle.mini_laws.specs.Body.{BodyKind, Program, FunctionStatements, ArrowExpression, InnerValue, InnerTarget, environment_in}

-- what the nodes around say of the bodies below
pub record Around : Type 0 where
  -- their code is strict
  pub strict : Bool
  -- `this` is asked of the world: in the constructor of a class with a superclass, and in arrows
  -- there
  pub asks_this : Bool
  -- the class around has a superclass, and the function here is its constructor
  pub extends : Bool
  pub constructs : Bool
  -- what stands here is assigned to by a pattern
  pub is_assigned : Bool

abbrev pub outermost : Around
outermost = record { strict = false; asks_this = false; extends = false; constructs = false; is_assigned = false }

-- ECMA-262, "ResolveThisBinding": functions have a `this` of their own, and so have fields and
-- static blocks
abbrev pub asks_below : Around → Shape → ℕ → Bool
asks_below a (shape.Function is_declaration is_generator directives) i = a.constructs
asks_below a (shape.PropertyDefinition is_computed is_static) (suc i) = false
asks_below a shape.StaticBlock i = false
asks_below a h i = a.asks_this

abbrev pub extends_below : Around → Shape → Trees → Bool
extends_below a (shape.Class is_declaration) ts = not (nth_absent (facts ts) 1)
extends_below a h ts = a.extends

abbrev pub constructs_below : Around → Shape → ℕ → Bool
constructs_below a (shape.MethodDefinition method.Constructor is_computed is_static) (suc i) = a.extends
constructs_below a h i = false

-- ECMA-262, "Destructuring Assignment": the elements of a pattern and the values of its properties,
-- without their defaults
abbrev pub is_assigned_below : Around → Shape → ℕ → Bool
is_assigned_below a shape.ObjectAssignmentTarget i = true
is_assigned_below a shape.ArrayAssignmentTarget i = true
is_assigned_below a shape.Listed i = a.is_assigned
is_assigned_below a shape.RestElement i = a.is_assigned
is_assigned_below a shape.AssignmentPattern zero = a.is_assigned
is_assigned_below a (shape.AssignmentTargetPropertyProperty is_computed) (suc i) = true
is_assigned_below a h i = false

-- around the child at a place
abbrev pub below : Around → Shape → Trees → ℕ → Around
below a h ts i = record { strict = is_strict_in a.strict h; asks_this = asks_below a h i; extends = extends_below a h ts; constructs = constructs_below a h i; is_assigned = is_assigned_below a h i }

pub record Body : Type 0 where
  pub number : ℕ
  pub kind : BodyKind
  -- what is run: the node itself, or its body
  pub root : Tree
  pub strict : Bool
  pub asks_this : Bool

abbrev pub arrow_kind : Shape → BodyKind
arrow_kind shape.FunctionBody = FunctionStatements
arrow_kind h = ArrowExpression

-- the body of a node, if it has one
abbrev pub body_of : Around → Shape → ℕ → Tree → Trees → List Body
body_of a (shape.Program is_module directives) n t ts = record { number = n; kind = Program; root = t; strict = is_strict_in a.strict (shape.Program is_module directives); asks_this = false } ∷ []
body_of a (shape.Function is_declaration is_generator directives) n t ts =
    record { number = n; kind = FunctionStatements; root = child_or_absent ts 2; strict = is_strict_in a.strict (shape.Function is_declaration is_generator directives); asks_this = a.constructs } ∷ []
body_of a (shape.ArrowFunctionExpression directives) n t ts =
    record { number = n; kind = arrow_kind (shape_of (child_or_absent ts 1)); root = child_or_absent ts 1; strict = is_strict_in a.strict (shape.ArrowFunctionExpression directives); asks_this = a.asks_this } ∷ []
body_of a shape.StaticBlock n t ts = record { number = n; kind = FunctionStatements; root = t; strict = a.strict; asks_this = false } ∷ []
body_of a shape.InnerExpression n t ts = record { number = n; kind = choose a.is_assigned InnerTarget InnerValue; root = t; strict = a.strict; asks_this = a.asks_this } ∷ []
body_of a h n t ts = []

-- all bodies in a tree, in preorder
abbrev mutual
  pub bodies : Around → Tree → List Body
  bodies a (node h xs n ts) = body_of a h n (node h xs n ts) ts ++ bodies_from (below a h ts) 0 ts

  pub bodies_from : (ℕ → Around) → ℕ → Trees → List Body
  bodies_from around i none = []
  bodies_from around i (t ▸ ts) = bodies (around i) t ++ bodies_from around (suc i) ts

abbrev pub bodies_in : Tree → List Body
bodies_in t = bodies outermost t

-- what a run of a body of this program rests on, with the variables that its events show and those
-- that an answer may change
abbrev pub environment_for : Tree → VariableSet → VariableSet → Body → Environment
environment_for t shared foreign b = environment_in t shared foreign b.strict b.asks_this

-- What rewriting keeps.
use Rattle.std.specs.Prelude.{◌≡◌, ℕ, Bool, true, List, []}
use Rattle.mini_model.specs.declared.name.Name.{Name}
use Rattle.mini_model.specs.declared.operator.BinaryOperator.{BinaryOperator}
use Rattle.mini_model.specs.declared.operator.LogicalOperator.TheVariants.{Or, And}
use Rattle.mini_model.specs.declared.operator.UnaryOperator.TheVariants.{LogicalNot}
use Rattle.mini_model.specs.declared.place.Position.{Position}
use Rattle.mini_model.specs.declared.place.Position.TheVariants.{Elsewhere}
use Rattle.mini_model.specs.declared.shape.Shape.TheVariants as shape
use Rattle.mini_model.specs.Tree.{Tree, Trees, node, children}
use Rattle.mini_model.specs.Terms.{opposite}
use Rattle.mini_model.specs.Redex.{Contracts}
use Rattle.mini_model.specs.Rewriting.{Step, Reaches}
use Rattle.mini_accept.specs.WellShaped.{Slot, fits, IsWellShaped}
use Rattle.mini_kept.specs.Nodes.{Test, each_node, each_nodes}

-- one rewrite, at any place of the tree
abbrev pub StepFits : Type 0
StepFits =
    (p : Position) (t u : Tree) → Step Contracts p t u → (strict : Bool) (s : Slot) → fits strict s t ≡ true → fits strict s u ≡ true

-- any number of them
abbrev pub ReachesWellShaped : Type 0
ReachesWellShaped = (t u : Tree) → Reaches Contracts Elsewhere t u → IsWellShaped t → IsWellShaped u

-- the test holds of each node that a row writes: of `!`, `? :`, `||` and `&&`, of which one may
-- become the other, as may `==` and `!=`, `===` and `!==`, and of an expression statement
pub record AdmitsWritten (f : Test) : Type 0 where
  pub negation : f (shape.UnaryExpression LogicalNot) [] 0 ≡ true
  pub conditional : f shape.ConditionalExpression [] 0 ≡ true
  pub or : f (shape.LogicalExpression Or) [] 0 ≡ true
  pub and : f (shape.LogicalExpression And) [] 0 ≡ true
  pub statement : f shape.ExpressionStatement [] 0 ≡ true
  pub turned : (xs : List Name) (n : ℕ) → f (shape.LogicalExpression And) xs n ≡ f (shape.LogicalExpression Or) xs n
  pub equality : (o : BinaryOperator) (xs : List Name) (n : ℕ) → f (shape.BinaryExpression o) xs n ≡ f (shape.BinaryExpression (opposite o)) xs n

-- so it holds of each node after any number of rewrites, where it did before
abbrev pub EachKept : Type 0
EachKept = (f : Test) → AdmitsWritten f → (p : Position) (t u : Tree) → Reaches Contracts p t u → each_node f t ≡ true → each_node f u ≡ true

abbrev pub over : Tree → Trees → Tree
over (node h xs n ts) us = node h xs n us

-- and of a program, whose root stays: of each node below it
abbrev pub EachBelowKept : Type 0
EachBelowKept =
    (f : Test) → AdmitsWritten f → (t u : Tree) → Reaches Contracts Elsewhere t u → each_nodes f (children t) ≡ true → (each_nodes f (children u) ≡ true) × (u ≡ over t (children u))

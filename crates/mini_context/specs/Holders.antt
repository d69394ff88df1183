-- By shape, whose names a node declares or binds, and which of them can't be written; and tables of
-- marks by symbol.
use Rattle.std.specs.Prelude.{ℕ, ◌≡◌, ◌<◌, Bool, true, false, ◌&&◌, ◌||◌, not, List, [], ◌++◌, Option, Some, None, if◌then◌else◌}
use Rattle.mini_model.specs.declared.kind.VariableDeclarationKind.TheVariants.{Const, Var}
use Rattle.mini_model.specs.declared.operator.UnaryOperator.TheVariants.{LogicalNot}
use Rattle.mini_model.specs.declared.shape.Shape.{Shape}
use Rattle.mini_model.specs.declared.shape.Shape.TheVariants as shape
use Rattle.mini_model.specs.Tree.{Tree, Trees, node, none, ◌▸◌}
use Rattle.mini_model.specs.Paths.{child_at}
use Rattle.mini_laws.specs.Naming.{Declared, AClass, front, lets_all, summary, summaries}
use Rattle.mini_laws.specs.Value as value
use Rattle.mini_laws.specs.Value.{Variable, variables, is_in}
use Rattle.mini_context.specs.declared.writable.Holder.{Holder}
use Rattle.mini_context.specs.declared.writable.Holder.TheVariants as holder
use Rattle.mini_context.specs.declared.writable.ClassPlace.{ClassPlace}
use Rattle.mini_context.specs.declared.writable.ClassPlace.TheVariants as class
use Rattle.mini_context.specs.Tables.{mark_at}
use Rattle.mini_laws.specs.Writable.{mentions, writable_in}

-- ---- by shape

abbrev pub lets_holder : Shape → Holder
lets_holder shape.BindingIdentifier = holder.Itself
lets_holder (shape.UnaryExpression LogicalNot) = holder.At 0
lets_holder shape.AssignmentPattern = holder.At 0
lets_holder shape.VariableDeclarator = holder.At 0
lets_holder (shape.Class true) = holder.At 0
lets_holder shape.ExportNamedDeclaration = holder.At 0
lets_holder (shape.VariableDeclaration Var) = holder.Nothing
lets_holder (shape.VariableDeclaration k) = holder.At 0
lets_holder shape.Listed = holder.Every
lets_holder shape.ObjectPattern = holder.Every
lets_holder shape.ArrayPattern = holder.Every
lets_holder (shape.BindingProperty is_shorthand is_computed) = holder.Every
lets_holder shape.RestElement = holder.Every
lets_holder shape.SwitchCase = holder.Every
lets_holder shape.ExportDefaultDeclaration = holder.AClass
lets_holder h = holder.Nothing

abbrev pub forbidden_holder : Shape → Holder
forbidden_holder (shape.VariableDeclaration Const) = holder.At 0
forbidden_holder (shape.Function false is_generator directives) = holder.At 0
forbidden_holder (shape.Class false) = holder.At 0
forbidden_holder (shape.Class true) = holder.At 3
forbidden_holder shape.ImportSpecifier = holder.Every
forbidden_holder shape.ImportDefaultSpecifier = holder.At 0
forbidden_holder shape.ImportNamespaceSpecifier = holder.At 0
forbidden_holder h = holder.Nothing

-- where a class is that a parent reads as declared
abbrev pub class_place : Shape → ClassPlace
class_place (shape.Class true) = class.Here
class_place (shape.UnaryExpression LogicalNot) = class.First
class_place h = class.Nowhere

-- ---- variables

abbrev pub is_class : Option Declared → Bool
is_class (Some AClass) = true
is_class d = false

abbrev pub declares_class : Tree → Bool
declares_class t = is_class (summary t).facts.declared

abbrev pub lets_of_some : Option Tree → List Variable
lets_of_some None = []
lets_of_some (Some t) = (summary t).lets

abbrev pub lets_at : Trees → ℕ → List Variable
lets_at ts i = lets_of_some (child_at ts i)

abbrev pub lets_of_class : Option Tree → List Variable
lets_of_class None = []
lets_of_class (Some t) = if declares_class t then (summary t).lets else []

abbrev pub class_at : Trees → List Variable
class_at ts = lets_of_class (child_at ts 0)

abbrev pub held_by : Holder → List Variable → Trees → List Variable
held_by holder.Itself xs ts = front xs
held_by (holder.At i) xs ts = lets_at ts i
held_by holder.Every xs ts = lets_all (summaries ts)
held_by holder.AClass xs ts = class_at ts
held_by holder.Nothing xs ts = []

-- those that a tree declares and that can't be written
unfoldable mutual
  pub forbidden_in : Tree → List Variable
  forbidden_in (node h xs n ts) = held_by (forbidden_holder h) (variables xs) ts ++ all_forbidden_in ts

  pub all_forbidden_in : Trees → List Variable
  all_forbidden_in none = []
  all_forbidden_in (t ▸ ts) = forbidden_in t ++ all_forbidden_in ts

-- those of its names
unfoldable mutual
  pub variables_in : Tree → List Variable
  variables_in (node h xs n ts) = variables xs ++ all_variables_in ts

  pub all_variables_in : Trees → List Variable
  all_variables_in none = []
  all_variables_in (t ▸ ts) = variables_in t ++ all_variables_in ts

-- ---- tables

abbrev pub has : List Variable → ℕ → Bool
has ys s = is_in (value.Declared s) ys

-- the symbols of these variables were marked, or their marks were taken
abbrev pub PutAll : List Variable → List Bool → List Bool → Type 0
PutAll ys old new = (s : ℕ) → mark_at new s ≡ (mark_at old s || has ys s)

abbrev pub TakenAll : List Variable → List Bool → List Bool → Type 0
TakenAll ys old new = (s : ℕ) → mark_at new s ≡ (mark_at old s && not (has ys s))

-- the marks are those of the symbols that a program mentions and lets be written
abbrev pub Writables : Tree → List Bool → Type 0
Writables t marks = (s : ℕ) → mark_at marks s ≡ writable_in t (value.Declared s)

-- each symbol that a program mentions is below this number
abbrev pub AllBelow : ℕ → Tree → Type 0
AllBelow n t = (s : ℕ) → mentions t (value.Declared s) ≡ true → s < n

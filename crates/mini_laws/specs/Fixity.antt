-- What a write of each variable does, by its declaration in the program and by whether the code
-- that writes is strict (ECMA-262, "PutValue" and "SetMutableBinding"): it writes, it raises, or it
-- keeps what is there.
use Rattle.std.specs.Prelude.{ℕ, Bool, true, false, ◌||◌, List, [], ◌∷◌, codes}
use Rattle.mini_model.specs.declared.kind.VariableDeclarationKind.TheVariants.{Const}
use Rattle.mini_model.specs.declared.shape.Shape.{Shape}
use Rattle.mini_model.specs.declared.shape.Shape.TheVariants as shape
use Rattle.mini_model.specs.Tree.{Tree, Trees, node, none, ◌▸◌}
use Rattle.mini_model.specs.Weight.{same_text}
use Rattle.mini_laws.specs.Value.{Variable, Global, choose, is_in}
use Rattle.mini_laws.specs.State.{Fixed, Writable, Constant, KeepsOld, Writing, Writes, WritesPresent, Refuses, Keeps}
use Rattle.mini_laws.specs.Naming.{Summary, lets_all, lets_first, summaries}

-- ECMA-262, "Directive Prologues and the Use Strict Directive"
abbrev pub has_use_strict : List (List ℕ) → Bool
has_use_strict [] = false
has_use_strict (s ∷ directives) = same_text s (codes "use strict") || has_use_strict directives

-- whether the code in a node is strict, where the code around it is or isn't (ECMA-262, "Strict
-- Mode Code")
abbrev pub is_strict_in : Bool → Shape → Bool
is_strict_in strict (shape.Program is_module directives) = is_module || has_use_strict directives
is_strict_in strict (shape.Function is_declaration is_generator directives) = strict || has_use_strict directives
is_strict_in strict (shape.ArrowFunctionExpression directives) = strict || has_use_strict directives
is_strict_in strict (shape.Class is_declaration) = true
is_strict_in strict h = strict

-- what a node says of the names that it declares; `KeepsOld` is the own name of a function
-- expression. A class holds its name as a constant, and a class declaration declares it besides in
-- the scope around (ECMA-262, "ClassDefinitionEvaluation")
abbrev pub fixity_by : Shape → Fixed
fixity_by (shape.VariableDeclaration Const) = Constant
fixity_by (shape.Function false is_generator directives) = KeepsOld
fixity_by (shape.Class is_declaration) = Constant
fixity_by shape.ImportSpecifier = Constant
fixity_by shape.ImportDefaultSpecifier = Constant
fixity_by shape.ImportNamespaceSpecifier = Constant
fixity_by h = Writable

-- of the fourth child
abbrev pub lets_fourth : List Summary → List Variable
lets_fourth (a ∷ b ∷ c ∷ d ∷ is) = d.lets
lets_fourth is = []

-- those are of its first child, of what an import calls its own, or of what a class declaration
-- holds once more
abbrev pub declared_by : Shape → List Summary → List Variable
declared_by (shape.Class true) is = lets_fourth is
declared_by shape.ImportSpecifier is = lets_all is
declared_by h is = lets_first is

-- what two declarations of one name say of it: the most that either forbids
abbrev pub stricter : Fixed → Fixed → Fixed
stricter Writable g = g
stricter KeepsOld Constant = Constant
stricter KeepsOld g = KeepsOld
stricter Constant g = Constant

abbrev mutual
  pub fixed_by : Tree → Variable → Fixed
  fixed_by (node h xs n ts) x = stricter (choose (is_in x (declared_by h (summaries ts))) (fixity_by h) Writable) (fixed_by_any ts x)

  pub fixed_by_any : Trees → Variable → Fixed
  fixed_by_any none x = Writable
  fixed_by_any (t ▸ ts) x = stricter (fixed_by t x) (fixed_by_any ts x)

-- where strict code writes it, the own name of a function expression raises, and an unresolved name
-- is not added
abbrev pub written_in : Bool → Variable → Fixed → Writing
written_in strict x Constant = Refuses
written_in true x KeepsOld = Refuses
written_in false x KeepsOld = Keeps
written_in true (Global s) Writable = WritesPresent
written_in strict x Writable = Writes

-- a write by strict or sloppy code, of a name of this program
abbrev pub fixed_in : Bool → Tree → Variable → Writing
fixed_in strict t x = written_in strict x (fixed_by t x)

-- A tree that is read again weighs what the tree weighs.
use Rattle.mini_again.proofs.ModelTreeAgain.{count_again}
use Rattle.mini_again.proofs.Names.{none_again}
use Rattle.mini_again.specs.Again.{Renaming, again, all_again}
use Rattle.mini_laws.specs.Renaming.{rename_name}
use Rattle.mini_model.specs.Position.{child_position}
use Rattle.mini_model.specs.Tree.{Tree, Trees, count, node, none, ◌▸◌}
use Rattle.mini_model.specs.Weight.{Outline, names_weight, outline, outlines, own_weight, text_weight, weight, weights}
use Rattle.mini_model.specs.declared.name.Name.{Name}
use Rattle.mini_model.specs.declared.place.Position.{Position}
use Rattle.mini_model.specs.declared.place.Position.TheVariants.{Unwritten}
use Rattle.mini_model.specs.declared.shape.Shape.{Shape}
use Rattle.std.specs.Prelude.{List, [], map, refl, suc, zero, ℕ, ◌∷◌, ◌≡◌}
use Rattle.mini_model.specs.declared.shape.Shape.TheVariants as shape

pub names_weight_again : (ρ : Renaming) (xs : List Name) → names_weight (map (rename_name ρ.symbol) xs) ≡ names_weight xs
names_weight_again ρ [] = refl
names_weight_again ρ (x ∷ xs) = simp (none_again ρ x.symbol, names_weight_again ρ xs)

mutual
  pub outline_again : (ρ : Renaming) (t : Tree) → outline (again ρ t) ≡ outline t
  outline_again ρ (node h xs n ts) = simp (outlines_again ρ ts)

  pub outlines_again : (ρ : Renaming) (ts : Trees) → outlines (all_again ρ ts) ≡ outlines ts
  outlines_again ρ none = refl
  outlines_again ρ (t ▸ ts) = simp (outline_again ρ t, outlines_again ρ ts)

pub text_weight_again : (ρ : Renaming) (h : Shape) (xs : List Name) (p : Position) (os : List Outline) → text_weight h (map (rename_name ρ.symbol) xs) p os ≡ text_weight h xs p os
text_weight_again ρ shape.Listed xs p os = refl
text_weight_again ρ (shape.Program m ds) xs p os = refl
text_weight_again ρ shape.ExpressionStatement xs p os = refl
text_weight_again ρ shape.EmptyStatement xs p os = refl
text_weight_again ρ shape.DebuggerStatement xs p os = refl
text_weight_again ρ shape.BlockStatement xs p os = refl
text_weight_again ρ shape.LabeledStatement xs p os = refl
text_weight_again ρ shape.BreakStatement xs p os = refl
text_weight_again ρ shape.ContinueStatement xs p os = refl
text_weight_again ρ shape.ReturnStatement xs p os = refl
text_weight_again ρ shape.ThrowStatement xs p os = refl
text_weight_again ρ shape.IfStatement xs p os = refl
text_weight_again ρ shape.SwitchStatement xs p os = refl
text_weight_again ρ shape.SwitchCase xs p os = refl
text_weight_again ρ shape.TryStatement xs p os = refl
text_weight_again ρ shape.CatchClause xs p os = refl
text_weight_again ρ shape.WhileStatement xs p os = refl
text_weight_again ρ shape.DoWhileStatement xs p os = refl
text_weight_again ρ shape.ForStatement xs p os = refl
text_weight_again ρ shape.ForInStatement xs p os = refl
text_weight_again ρ shape.ForOfStatement xs p os = refl
text_weight_again ρ (shape.VariableDeclaration k) xs p os = refl
text_weight_again ρ shape.VariableDeclarator xs p os = refl
text_weight_again ρ (shape.Function d generator ds) xs p os = refl
text_weight_again ρ (shape.ArrowFunctionExpression ds) xs p os = refl
text_weight_again ρ shape.FunctionBody xs p os = refl
text_weight_again ρ (shape.Class d) xs p os = refl
text_weight_again ρ (shape.MethodDefinition k computed is_static) xs p os = refl
text_weight_again ρ (shape.PropertyDefinition computed is_static) xs p os = refl
text_weight_again ρ shape.StaticBlock xs p os = refl
text_weight_again ρ shape.ImportDeclaration xs p os = refl
text_weight_again ρ shape.ImportSpecifier xs p os = refl
text_weight_again ρ shape.ImportDefaultSpecifier xs p os = refl
text_weight_again ρ shape.ImportNamespaceSpecifier xs p os = refl
text_weight_again ρ shape.ExportNamedDeclaration xs p os = refl
text_weight_again ρ shape.ExportSpecifier xs p os = refl
text_weight_again ρ shape.ExportDefaultDeclaration xs p os = refl
text_weight_again ρ shape.ExportAllDeclaration xs p os = refl
text_weight_again ρ shape.Identifier xs p os = simp (names_weight_again ρ xs)
text_weight_again ρ shape.BindingIdentifier xs p os = refl
text_weight_again ρ (shape.IdentifierName s) xs p os = refl
text_weight_again ρ (shape.PrivateIdentifier s) xs p os = refl
text_weight_again ρ (shape.NumericLiteral n) xs p os = refl
text_weight_again ρ (shape.StringLiteral s) xs p os = refl
text_weight_again ρ (shape.BooleanLiteral b) xs p os = refl
text_weight_again ρ shape.NullLiteral xs p os = refl
text_weight_again ρ (shape.RegExpLiteral pattern flags) xs p os = refl
text_weight_again ρ (shape.BigIntLiteral n) xs p os = refl
text_weight_again ρ shape.ThisExpression xs p os = refl
text_weight_again ρ shape.Super xs p os = refl
text_weight_again ρ shape.ArrayExpression xs p os = refl
text_weight_again ρ shape.ObjectExpression xs p os = refl
text_weight_again ρ (shape.ObjectProperty k is_method shorthand computed) xs p os = refl
text_weight_again ρ shape.SpreadElement xs p os = refl
text_weight_again ρ (shape.UnaryExpression o) xs p os = refl
text_weight_again ρ (shape.UpdateExpression o prefix) xs p os = refl
text_weight_again ρ (shape.BinaryExpression o) xs p os = refl
text_weight_again ρ shape.PrivateInExpression xs p os = refl
text_weight_again ρ (shape.LogicalExpression o) xs p os = refl
text_weight_again ρ (shape.AssignmentExpression o) xs p os = refl
text_weight_again ρ shape.ConditionalExpression xs p os = refl
text_weight_again ρ (shape.CallExpression optional) xs p os = refl
text_weight_again ρ shape.SuperCallExpression xs p os = refl
text_weight_again ρ shape.NewExpression xs p os = refl
text_weight_again ρ (shape.StaticMemberExpression optional) xs p os = refl
text_weight_again ρ (shape.ComputedMemberExpression optional) xs p os = refl
text_weight_again ρ (shape.PrivateFieldExpression optional) xs p os = refl
text_weight_again ρ shape.SuperStaticMemberExpression xs p os = refl
text_weight_again ρ shape.SuperComputedMemberExpression xs p os = refl
text_weight_again ρ (shape.YieldExpression delegate) xs p os = refl
text_weight_again ρ shape.TemplateLiteral xs p os = refl
text_weight_again ρ (shape.TemplateElement tail raw cooked) xs p os = refl
text_weight_again ρ (shape.MetaProperty k) xs p os = refl
text_weight_again ρ shape.ImportExpression xs p os = refl
text_weight_again ρ shape.ObjectPattern xs p os = refl
text_weight_again ρ shape.ArrayPattern xs p os = refl
text_weight_again ρ (shape.BindingProperty shorthand computed) xs p os = refl
text_weight_again ρ shape.RestElement xs p os = refl
text_weight_again ρ shape.AssignmentPattern xs p os = refl
text_weight_again ρ shape.ObjectAssignmentTarget xs p os = refl
text_weight_again ρ shape.ArrayAssignmentTarget xs p os = refl
text_weight_again ρ (shape.AssignmentTargetPropertyProperty computed) xs p os = refl
text_weight_again ρ _ xs p os = refl

pub own_weight_again : (ρ : Renaming) (p : Position) (h : Shape) (xs : List Name) (os : List Outline) → own_weight p h (map (rename_name ρ.symbol) xs) os ≡ own_weight p h xs os
own_weight_again ρ Unwritten h xs os = refl
own_weight_again ρ p h xs os = simp (text_weight_again ρ h xs p os)

mutual
  pub weight_again : (ρ : Renaming) (p : Position) (t : Tree) → weight p (again ρ t) ≡ weight p t
  weight_again ρ p (node h xs n ts) = simp (outlines_again ρ ts, own_weight_again ρ p h xs (outlines ts), count_again ρ ts, weights_again ρ (child_position h p (count ts)) ts)

  pub weights_again : (ρ : Renaming) (p : (ℕ → Position)) (ts : Trees) → weights p (all_again ρ ts) ≡ weights p ts
  weights_again ρ π none = refl
  weights_again ρ π (t ▸ ts) = simp (weight_again ρ (π zero) t, weights_again ρ (λ i. π (suc i)) ts)

-- Why what is assigned to has the spelling of what is declared, where a `var` takes an assignment:
-- one symbol under two spellings isn't enough. The names of `var x; y = 1;` are those of the scopes
-- around it, where `x` is declared by a `var` and by a parameter of `catch` further inside, and `y`
-- has the symbol of that `var`; those of `var x = 1;` aren't, which writes the parameter.
use Rattle.std.specs.Prelude.{◌≡◌, refl, ℕ, true, false, List, [], ◌∷◌, Some, codes, pos}
use Rattle.mini_model.specs.declared.kind.VariableDeclarationKind.TheVariants.{Var}
use Rattle.mini_model.specs.declared.name.Name.{Name}
use Rattle.mini_model.specs.declared.shape.Shape.TheVariants as shape
use Rattle.mini_model.specs.Tree.{Tree, none, ◌▸◌, leaf, absent, listed, expression_statement}
use Rattle.mini_laws.specs.declared.names.Use.TheVariants.{Read}
use Rattle.mini_laws.specs.Scopes.{scopes_by}
use Rattle.mini_laws.specs.Resolved.{Environment}
use Rattle.mini_laws.specs.Scoped.{Scoped}
use Rattle.mini_rows.specs.Lists.{resolved, binding, declarator, declaration, assigned}

abbrev x : Name
x = resolved (codes "x") 0

abbrev y : Name
y = resolved (codes "y") 0

abbrev one : Tree
one = leaf (shape.NumericLiteral (pos 1))

abbrev around : Environment
around = record { name = x; hoists = true } ∷ (record { name = resolved (codes "x") 1; hoists = false } ∷ (record { name = y; hoists = false } ∷ []))

scoped_before : Scoped Read around (listed (declaration Var (declarator (binding x) absent ▸ none) ▸ (expression_statement (assigned y one) ▸ none)))
unfolding Scoped scopes_by
scoped_before = (tt, ((tt, ((tt, ((tt, (((refl, tt), tt), ((tt, tt), tt))), tt)), tt)), ((tt, ((tt, (((refl, tt), tt), ((tt, tt), tt))), tt)), tt)))

not_scoped_after : Scoped Read around (listed (declaration Var (declarator (binding x) one ▸ none) ▸ none)) → ⊥
unfolding Scoped scopes_by
not_scoped_after a = a.1.0.1.0.1.0.0

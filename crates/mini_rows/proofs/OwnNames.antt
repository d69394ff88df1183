-- A node that is no declarator, and has no name, has the names that the scopes around it give.
use Rattle.std.specs.Prelude.{◌≡◌, false, []}
use Rattle.mini_model.specs.declared.shape.Shape.{Shape}
use Rattle.mini_model.specs.declared.shape.Shape.TheVariants as shape
use Rattle.mini_model.specs.Tree.{Trees}
use Rattle.mini_laws.specs.declared.names.Use.{Use}
use Rattle.mini_laws.specs.Resolved.{Environment}
use Rattle.mini_laws.specs.Scoped.{OwnScoped}
use Rattle.mini_rows.specs.Lists.{is_declarator_shape}

pub own_none : (u : Use) (env : Environment) (h : Shape) (ts : Trees) → is_declarator_shape h ≡ false → OwnScoped u env h [] ts
own_none u env shape.VariableDeclarator ts e = absurd (cc e)
own_none u env h ts e = tt

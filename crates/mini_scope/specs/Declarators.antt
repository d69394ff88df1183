-- Which nodes are declarators.
use Rattle.std.specs.Prelude.{Bool, true, false}
use Rattle.mini_model.specs.declared.shape.Shape.{Shape}
use Rattle.mini_model.specs.declared.shape.Shape.TheVariants as shape

abbrev pub is_declarator_shape : Shape → Bool
is_declarator_shape shape.VariableDeclarator = true
is_declarator_shape h = false

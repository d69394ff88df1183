use Rattle.std.proofs.Common.{◌∙◌, ap}
use Rattle.mini_model.specs.Tree.{shape_of}
use Rattle.mini_unused.specs.RemoveUnusedDeclaration.{is_lexical_shape}
use Rattle.mini_past.proofs.lets.is_free.Goals as goal

pub returns : goal.returns
returns c = c.is_lexical.ensures ∙ ap is_lexical_shape (c.shape.ensures ∙ ap shape_of c.child.ensures.value)

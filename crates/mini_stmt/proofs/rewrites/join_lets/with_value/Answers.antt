use Rattle.std.proofs.Common.{◌∙◌, ap, sym}
use Rattle.mini_model.specs.Tree.{children}
use Rattle.mini_stmt.proofs.LetJoins.{last_parts}
use Rattle.mini_stmt.proofs.rewrites.join_lets.with_value.Goals as goal

pub initialised-requires : goal.initialised-requires
initialised-requires c =
    last_parts _ c.take_last-last.new.list c.take_last-last.result (sym (c.into_children-declarators.ensures.value ∙ ap children c.one.ensures.value) ∙ c.take_last-last.ensures) c.requires.parts

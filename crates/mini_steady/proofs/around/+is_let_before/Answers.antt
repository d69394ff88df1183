use Rattle.std.proofs.Common.{sym, ap, ◌∙◌}
use Rattle.mini_model.specs.Tree.{is_absent_shape}
use Rattle.mini_steady.proofs.AroundPlaces.{before_rest}
use Rattle.mini_steady.proofs.around.+is_let_before.Goals as goal

pub returns-else-is_let_in : goal.returns-else-is_let_in
returns-else-is_let_in t c = before_rest c.args.symbol.0 c.args.nodes.now c.first-item.result c.is_let_before.result c.in-len1-up.len_at_least c.first-item.is (sym (c.is_absent.ensures ∙ ap is_absent_shape c.shape.ensures) ∙ c.if-not-is_absent.true) c.if-is_let_in.ensures c.is_let_before.ensures

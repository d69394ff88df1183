use Rattle.std.proofs.Common.{◌∙◌, sym}
use Rattle.mini_stmt.proofs.LetJoins.{declares_list}
use Rattle.mini_stmt.proofs.rewrites.join_lets.may_join.Goals as goal

pub assigns_last-requires : goal.assigns_last-requires
assigns_last-requires c = declares_list c.args.first.now (sym c.declares.ensures ∙ c.if-declares.true)

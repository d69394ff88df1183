use Rattle.std.proofs.Common.{◌∙◌, sym}
use Rattle.mini_stmt.proofs.Assignments.{list_there}
use Rattle.mini_stmt.proofs.rewrites.join_assignments.heads.Goals as goal

pub assigns_its_name-requires : goal.assigns_its_name-requires
assigns_its_name-requires c = list_there c.args.first.now (sym c.declares.ensures ∙ c.if-declares.true)

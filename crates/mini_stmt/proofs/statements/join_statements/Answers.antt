use Rattle.std.proofs.Common.{◌∙◌, ap, sym}
use Rattle.mini_stmt.specs.MinimizeStatements.{switches_of, is_quiet}
use Rattle.mini_stmt.proofs.Stepping.{quiet_minimized, other_minimized}
use Rattle.mini_stmt.proofs.statements.join_statements.Goals.{then-not-is_listed-via-then-not-is_listed, then-not-is_listed-via-else-not-is_listed+then-is_quiet}
use Rattle.mini_stmt.proofs.statements.join_statements.Goals as goal

pub returns-then-not-is_listed : goal.returns-then-not-is_listed
returns-then-not-is_listed c =
    let o = switches_of c.args.options in
    elim c.then-not-is_listed.branch [
      | then-not-is_listed-via-then-not-is_listed w ↦ other_minimized o c.args.node.now (sym c.is_listed.ensures ∙ w.if-not-is_listed.true)
      | then-not-is_listed-via-else-not-is_listed+then-is_quiet w ↦ quiet_minimized o c.args.node.now (sym c.is_listed.ensures ∙ w.if-not-is_listed.false) (sym (w.is_quiet.ensures ∙ ap (is_quiet o) w.children.ensures) ∙ w.if-is_quiet.true)
    ]

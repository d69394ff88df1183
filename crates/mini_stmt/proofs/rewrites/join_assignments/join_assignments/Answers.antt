use Rattle.std.proofs.Common.{◌∙◌, ap, sym, subst}
use Rattle.std.specs.Prelude.{IfOk}
use Rattle.mini_stmt.specs.MinimizeStatements.{switches_of}
use Rattle.mini_stmt.specs.JoinAssignments.{are_entered, AllEntered}
use Rattle.mini_stmt.proofs.Assignments.{node_entered, not_entered, no_list}
use Rattle.mini_stmt.proofs.rewrites.join_assignments.join_assignments.Goals.{then-not-is_listed-via-then-not-is_listed, then-not-is_listed-via-else-not-is_listed+then-are_entered}
use Rattle.mini_stmt.proofs.rewrites.join_assignments.join_assignments.Goals as goal

pub returns-then-not-is_listed : goal.returns-then-not-is_listed
returns-then-not-is_listed c =
    let o = switches_of c.args.options in
    let t = c.args.node.now in
    elim c.then-not-is_listed.branch [
      | then-not-is_listed-via-then-not-is_listed w ↦ no_list o t (sym w.if-not-is_listed.ensures)
      | then-not-is_listed-via-else-not-is_listed+then-are_entered w ↦ not_entered o t (sym w.if-not-is_listed.ensures) (sym (w.if-are_entered.ensures ∙ ap (are_entered o) w.children.ensures))
    ]

pub returns : goal.returns
returns c =
    let t = c.args.node.now in
    node_entered (switches_of c.args.options) t c.enter_all.new.list c.enter_all.result (sym c.if-not-is_listed.ensures)
    (subst (λ ts. IfOk c.enter_all.result (λ b. AllEntered (switches_of c.args.options) ts c.enter_all.new.list b)) c.children_mut.ensures.value c.enter_all.ensures)

use Rattle.std.proofs.Common.{◌≡◌, ◌∙◌, ◌+◌, ap, sym, subst, inl, inr, arith}
use Rattle.mini_node.specs.Children.{rest_children}
use Rattle.mini_stmt.specs.MinimizeStatements.{switches_of, is_read, joins, jumps_anyway, lead_of, is_quiet_after, is_quiet}
use Rattle.mini_stmt.proofs.Quiet.{quiet_start, quiet_stops, quiet_goes_on, quiet_ends}
use Rattle.mini_stmt.proofs.statements.is_quiet.Goals.{then-is_read-via-then-is_read, then-is_read-via-else-is_read+then-joins, then-is_read-via-else-is_read+else-joins+then-jumps_anyway}
use Rattle.mini_stmt.proofs.statements.is_quiet.Goals as goal

pub loop-at-init : goal.loop-at-init
loop-at-init c = quiet_start (switches_of c.args.options) c.args.list.now

pub returns-then-is_read : goal.returns-then-is_read
returns-then-is_read c =
    let o = switches_of c.args.options in
    let child = c.child-node.ensures.value in
    quiet_stops o c.loop-at.lead c.args.list.now c.loop-at.at (omega arith)
    (elim c.then-is_read.branch [
      | then-is_read-via-then-is_read w ↦ inl (sym (c.is_read.ensures ∙ ap (is_read o) child) ∙ w.if-is_read.true)
      | then-is_read-via-else-is_read+then-joins w ↦ inr (inl (sym (w.joins.ensures ∙ ap (joins o c.loop-at.lead) child) ∙ w.if-joins.true))
      | then-is_read-via-else-is_read+else-joins+then-jumps_anyway w ↦ inr (inr (sym (w.jumps_anyway.ensures ∙ ap (jumps_anyway o c.loop-at.lead) child) ∙ w.if-jumps_anyway.true))
    ])
    c.loop-at.invariant

pub loop-at-preserved : goal.loop-at-preserved
loop-at-preserved c =
    let o = switches_of c.args.options in
    let child = c.child-node.ensures.value in
    subst (λ l. is_quiet_after o l (rest_children (c.loop-at.at + 1) c.args.list.now) ≡ is_quiet o c.args.list.now) (sym (c.lead_of-lead.ensures ∙ ap lead_of child))
    (quiet_goes_on o c.loop-at.lead c.args.list.now c.loop-at.at (omega arith)
    (sym (c.is_read.ensures ∙ ap (is_read o) child) ∙ c.if-is_read.false)
    (sym (c.joins.ensures ∙ ap (joins o c.loop-at.lead) child) ∙ c.if-joins.false)
    (sym (c.jumps_anyway.ensures ∙ ap (jumps_anyway o c.loop-at.lead) child) ∙ c.if-jumps_anyway.false)
    c.loop-at.invariant)

pub returns : goal.returns
returns c = quiet_ends (switches_of c.args.options) c.loop-at.lead c.args.list.now c.loop-at.at (omega arith) c.loop-at.invariant

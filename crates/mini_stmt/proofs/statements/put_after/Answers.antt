use Rattle.std.proofs.Common.{◌∙◌, ap, sym, arith}
use Rattle.mini_model.specs.Tree.{count}
use Rattle.mini_stmt.specs.MinimizeStatements.{switches_of, joins}
use Rattle.mini_stmt.proofs.Quiet.{some_before, count_push}
use Rattle.mini_stmt.proofs.Stepping.{joining_start, joining_next, joining_end}
use Rattle.mini_stmt.proofs.statements.put_after.Goals as goal

pub joining-init : goal.joining-init
joining-init c = joining_start (switches_of c.args.options) c.args.before.now c.args.statement c.last_lead-lead.result c.last_lead-lead.ensures

pub take_last-last-requires : goal.take_last-last-requires
take_last-last-requires c =
    let o = switches_of c.args.options in
    some_before o c.joining.before c.joining.current (sym (ap (λ l. joins o l c.joining.current) c.joining.invariant.lead_is) ∙ sym c.joins.ensures ∙ c.joining-test.true)

pub joining-smaller : goal.joining-smaller
joining-smaller c =
    let same = ap count c.take_last-last.ensures ∙ count_push c.take_last-last.new.list c.take_last-last.result in
    omega (arith, same)

pub joining-preserved : goal.joining-preserved
joining-preserved c =
    joining_next (switches_of c.args.options) c.args.before.now c.args.statement c.joining.before c.joining.current c.joining.lead c.joining.changed c.take_last-last.new.list c.take_last-last.result c.in_ok-current.current c.last_lead-lead-in-joining.result
    c.joining.invariant (sym c.joins.ensures ∙ c.joining-test.true) c.take_last-last.ensures c.in_ok-current.ensures c.last_lead-lead-in-joining.ensures

pub put_apart-requires-clause-lead : goal.put_apart-requires-clause-lead
put_apart-requires-clause-lead c = c.joining.invariant.lead_is

pub returns : goal.returns
returns c =
    joining_end (switches_of c.args.options) c.args.before.now c.args.statement c.joining.before c.joining.current c.joining.lead c.joining.changed c.put_apart.new.before c.in_ok-apart.apart
    c.joining.invariant c.in_ok-apart.ensures

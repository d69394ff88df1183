use Rattle.std.proofs.Common.{◌∙◌, ap, sym}
use Rattle.mini_model.specs.Tree.{none, ◌▸◌}
use Rattle.mini_model.specs.Paths.{append}
use Rattle.mini_stmt.specs.MinimizeStatements.{switches_of, joins, jumps_anyway}
use Rattle.mini_stmt.proofs.Quiet.{some_jumps}
use Rattle.mini_stmt.proofs.Stepping.{placed_apart, placed_tested}
use Rattle.mini_stmt.proofs.statements.put_apart.Goals as goal

pub returns-then-not-jumps_anyway : goal.returns-then-not-jumps_anyway
returns-then-not-jumps_anyway c =
    let o = switches_of c.args.options in
    placed_apart o c.args.before.now c.args.statement c.push.new.self
    (sym (ap (λ l. joins o l c.args.statement) c.requires.lead) ∙ c.requires.apart)
    (sym (ap (λ l. jumps_anyway o l c.args.statement) c.requires.lead) ∙ sym c.jumps_anyway.ensures ∙ c.if-not-jumps_anyway.true)
    c.in_ok-push.ensures.ok

pub take_last-last-requires : goal.take_last-last-requires
take_last-last-requires c =
    let o = switches_of c.args.options in
    some_jumps o c.args.before.now c.args.statement (sym (ap (λ l. jumps_anyway o l c.args.statement) c.requires.lead) ∙ sym c.jumps_anyway.ensures ∙ c.if-not-jumps_anyway.false)

pub returns : goal.returns
returns c =
    let o = switches_of c.args.options in
    placed_tested o c.args.before.now c.take_last-last.new.list c.take_last-last.result c.args.statement c.push-2.new.self c.push-3.new.self
    (sym (ap (λ l. jumps_anyway o l c.args.statement) c.requires.lead) ∙ sym c.jumps_anyway.ensures ∙ c.if-not-jumps_anyway.false)
    c.take_last-last.ensures
    (c.in_ok-push-2.ensures.ok ∙ ap (λ x. append c.take_last-last.new.list (x ▸ none)) c.in_ok-test.ensures)
    c.in_ok-push-3.ensures.ok

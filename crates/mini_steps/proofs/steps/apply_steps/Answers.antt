use Rattle.mini_laws.specs.Writable.{writable_in}
use Rattle.mini_stmt.specs.MinimizeStatements.{switches_of}
use Rattle.mini_steps.proofs.Keeping.{keep}
use Rattle.mini_steps.proofs.Knowing.{reads_told, writes_told, followed_so}
use Rattle.mini_steps.proofs.steps.apply_steps.Goals as goal

pub returns-clause-followed : goal.returns-clause-followed
returns-clause-followed c =
    followed_so c.args.context.now c.args.program.now c.take_steps.new.program c.as_slice.result.now c.args.steps.now c.in_ok-changed.changed c.as_slice.ensures c.requires.known c.in_ok-changed.ensures.followed

pub returns-clause-kept : goal.returns-clause-kept
returns-clause-kept c shaped =
    keep (switches_of c.args.context.now.options) (writable_in c.args.program.now) c.args.steps.now c.args.program.now c.take_steps.new.program c.in_ok-changed.changed
    (followed_so c.args.context.now c.args.program.now c.take_steps.new.program c.as_slice.result.now c.args.steps.now c.in_ok-changed.changed c.as_slice.ensures c.requires.known c.in_ok-changed.ensures.followed) shaped

pub returns-clause-reads : goal.returns-clause-reads
returns-clause-reads c = reads_told c.refresh.new.self c.args.context.now.options c.take_steps.new.program (c.in_ok-refresh.ensures c.args.context.now.options c.args.program.now c.requires.known)

pub returns-clause-writes : goal.returns-clause-writes
returns-clause-writes c = writes_told c.refresh.new.self c.args.context.now.options c.take_steps.new.program (c.in_ok-refresh.ensures c.args.context.now.options c.args.program.now c.requires.known)

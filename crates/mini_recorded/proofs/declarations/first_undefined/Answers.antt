use Rattle.std.proofs.Common.{◌∙◌, sym, arith}
use Rattle.mini_recorded.proofs.DeclarationForms.{begins, goes_on, is_there, is_nowhere}
use Rattle.mini_recorded.proofs.declarations.first_undefined.Goals as goal

pub loop-at-init : goal.loop-at-init
loop-at-init c = begins c.args.declarators.now

pub returns-then-begins_undefined : goal.returns-then-begins_undefined
returns-then-begins_undefined c = is_there c.args.declarators.now c.loop-at.at c.child.result.now (omega arith) c.child.ensures.value (sym c.begins_undefined.ensures.kind ∙ c.if-begins_undefined.true) c.loop-at.invariant

pub loop-at-preserved : goal.loop-at-preserved
loop-at-preserved c = goes_on c.args.declarators.now c.loop-at.at c.child.result.now (omega arith) c.child.ensures.value (sym c.begins_undefined.ensures.kind ∙ c.if-begins_undefined.false) c.loop-at.invariant

pub returns : goal.returns
returns c = is_nowhere c.args.declarators.now c.loop-at.at c.len.result c.len.ensures (omega arith) (omega arith) c.loop-at.invariant

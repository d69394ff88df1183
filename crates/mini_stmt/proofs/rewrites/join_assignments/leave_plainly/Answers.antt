use Rattle.std.proofs.Common.{◌∙◌, sym}
use Rattle.mini_stmt.proofs.Assignments.{led_parts, first_held}
use Rattle.mini_stmt.proofs.rewrites.join_assignments.leave_plainly.Goals as goal

pub leave_child-requires-clause-parts : goal.leave_child-requires-clause-parts
leave_child-requires-clause-parts c = led_parts c.args.next c.requires.whole c.requires.plain (sym c.is_led.ensures.kind ∙ c.if-is_led.true)

pub leave_first-requires-clause-some : goal.leave_first-requires-clause-some
leave_first-requires-clause-some c = (first_held c.args.next c.requires.whole c.requires.plain (sym c.is_led.ensures.kind ∙ c.if-is_led.false) (sym c.goes_over.ensures.kind ∙ c.if-goes_over.false)).some

pub leave_first-requires-clause-declarator : goal.leave_first-requires-clause-declarator
leave_first-requires-clause-declarator c = (first_held c.args.next c.requires.whole c.requires.plain (sym c.is_led.ensures.kind ∙ c.if-is_led.false) (sym c.goes_over.ensures.kind ∙ c.if-goes_over.false)).declarator

pub leave_first-requires-clause-parts : goal.leave_first-requires-clause-parts
leave_first-requires-clause-parts c = (first_held c.args.next c.requires.whole c.requires.plain (sym c.is_led.ensures.kind ∙ c.if-is_led.false) (sym c.goes_over.ensures.kind ∙ c.if-goes_over.false)).parts

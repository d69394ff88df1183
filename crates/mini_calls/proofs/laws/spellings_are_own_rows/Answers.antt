use Rattle.mini_calls.proofs.OwnSpellings.{boolean_own, dotted_own, loose_own, swap_own, undefined_own, value_own, yield_own, template_own, step_own}
use Rattle.mini_calls.proofs.laws.spellings_are_own_rows.Goals as goal

pub returns-clause-boolean : goal.returns-clause-boolean
returns-clause-boolean c = boolean_own

pub returns-clause-dotted : goal.returns-clause-dotted
returns-clause-dotted c = dotted_own

pub returns-clause-loose : goal.returns-clause-loose
returns-clause-loose c = loose_own

pub returns-clause-swapped : goal.returns-clause-swapped
returns-clause-swapped c = swap_own

pub returns-clause-undefined : goal.returns-clause-undefined
returns-clause-undefined c = undefined_own

pub returns-clause-value : goal.returns-clause-value
returns-clause-value c = value_own

pub returns-clause-yielded : goal.returns-clause-yielded
returns-clause-yielded c = yield_own

pub returns-clause-template : goal.returns-clause-template
returns-clause-template c = template_own

pub returns-clause-stepped : goal.returns-clause-stepped
returns-clause-stepped c = step_own

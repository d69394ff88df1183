use Rattle.std.proofs.Common.{ap, ◌∷◌, []}
use Rattle.mini_accept.specs.WellShaped.{is_text}
use Rattle.mini_fields.specs.Cooking.{units_left}
use Rattle.mini_fields.proofs.Cooked.{next_unit, next_utf8, no_unit, begins_nowhere}
use Rattle.mini_fields.proofs.cooking.unit_is_next.Goals as goal

pub returns-in-None-clause-same : goal.returns-in-None-clause-same
returns-in-None-clause-same c = begins_nowhere c.args.unit (units_left c.args.rest.now) [] (no_unit c.args.rest.now c.next.new.self c.in-None.ensures.steps)

pub returns-in-Some-clause-utf8 : goal.returns-in-Some-clause-utf8
returns-in-Some-clause-utf8 c = next_utf8 c.args.rest.now c.next.new.self c.in-Some.found c.in-Some.ensures.steps c.requires

pub returns-in-Some-clause-same : goal.returns-in-Some-clause-same
returns-in-Some-clause-same c = λ others. ap (λ us. is_text us (c.args.unit ∷ others)) (next_unit c.args.rest.now c.next.new.self c.in-Some.found c.in-Some.ensures.steps c.requires)

use Rattle.std.proofs.Common.{ap, refl, true, false, arith}
use Rattle.mini_model.specs.Tree.{children, count}
use Rattle.mini_steady.specs.Declarations.{known_of}
use Rattle.mini_unused.specs.Allowed.{switches_of}
use Rattle.mini_past.proofs.InCases.{no_cases, next_cases, first_case}
use Rattle.mini_past.proofs.cases.+substitute_past_in_cases.Goals as goal

pub returns-then-from-len : goal.returns-then-from-len
returns-then-from-len g t c = no_cases (switches_of (g.S.SteadyNames.orders c.args.steady.now)) (known_of (g.S.SteadyNames.sets c.args.steady.now) c.args.body.now) c.args.node.now c.args.from (omega (arith, ap count c.children.ensures, ap (λ u. count (children u)) c.child.ensures.value))

pub returns-then-substitute_past_in_case : goal.returns-then-substitute_past_in_case
returns-then-substitute_past_in_case g t c = first_case (switches_of (g.S.SteadyNames.orders c.args.steady.now)) (known_of (g.S.SteadyNames.sets c.args.steady.now) c.args.body.now) c.args.node.now c.args.from c.substitute_past_in_case.new.node true refl c.if-substitute_past_in_case.ensures

pub returns : goal.returns
returns g t c = next_cases (switches_of (g.S.SteadyNames.orders c.args.steady.now)) (known_of (g.S.SteadyNames.sets c.args.steady.now) c.args.body.now) c.args.node.now c.args.from c.substitute_past_in_case.new.node c.substitute_past_in_cases.new.node false c.substitute_past_in_cases.result refl c.if-substitute_past_in_case.ensures c.substitute_past_in_cases.ensures

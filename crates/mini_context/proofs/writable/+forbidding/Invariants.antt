use Rattle.mini_context.specs.Holders.{all_forbidden_in, TakenAll}
use Rattle.mini_context.proofs.Gathering.{Until}
use Rattle.mini_context.proofs.writable.+forbidding.Given as goal

abbrev pub invariant-take_all_forbidden-loop-at : goal.invariant-take_all_forbidden-loop-at
invariant-take_all_forbidden-loop-at l = Until TakenAll (λ i us. all_forbidden_in us) l.nodes l.at l.initial.marks.items l.marks.items

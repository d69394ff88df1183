use Rattle.mini_context.specs.Holders.{all_variables_in, PutAll}
use Rattle.mini_context.proofs.Gathering.{Until}
use Rattle.mini_context.proofs.writable.+putting.Given as goal

abbrev pub invariant-put_children-loop-at : goal.invariant-put_children-loop-at
invariant-put_children-loop-at l = Until PutAll (λ i us. all_variables_in us) l.nodes l.at l.initial.marks.items l.marks.items

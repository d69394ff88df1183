use Rattle.mini_context.proofs.context.count_out.Goals as goal

pub returns : goal.returns
returns g c = record { reads = c.count_out.ensures.reads; writes = c.count_out.ensures.writes; rest = c.count_out.ensures.rest }

use Rattle.std.proofs.Common.{refl}
use Rattle.mini_peephole.proofs.Due.{ordered_to_read, ordered_to_generate, few_to_generate, due_of, due_of_script, answered_of}
use Rattle.mini_peephole.proofs.running.run.Goals as goal

pub returns-in-None-generate-clause-due : goal.returns-in-None-generate-clause-due
returns-in-None-generate-clause-due g c =
    let name = ordered_to_read _ c.in-Some.orders c.in-Some.ensures c.in-None-generate.is in
    due_of _ _ _ _ _ _ name (c.run_read.ensures c.args.words.now name)

pub returns-in-None-generate-clause-answered : goal.returns-in-None-generate-clause-answered
returns-in-None-generate-clause-answered g c = answered_of _ _ _ _ _ (returns-in-None-generate-clause-due g c)

pub deliver_script-requires : goal.deliver_script-requires
deliver_script-requires g c = few_to_generate _ c.in-Some.orders _ c.in-Some.ensures c.in-Some-generate.is

pub returns-in-Some-generate-clause-due : goal.returns-in-Some-generate-clause-due
returns-in-Some-generate-clause-due g c =
    due_of_script _ _ _ _ _ _ _ (ordered_to_generate _ c.in-Some.orders _ c.in-Some.ensures c.in-Some-generate.is) (record { bytes = refl; faults = refl }) c.deliver_script.ensures

pub returns-in-Some-generate-clause-answered : goal.returns-in-Some-generate-clause-answered
returns-in-Some-generate-clause-answered g c = answered_of _ _ _ _ _ (returns-in-Some-generate-clause-due g c)

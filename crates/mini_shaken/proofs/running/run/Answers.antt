use Rattle.std.proofs.Common.{refl}
use Rattle.mini_peephole.proofs.Due.{ordered_to_read, read_answered}
use Rattle.mini_shaken.specs.Shaken.{HasShaken}
use Rattle.mini_shaken.proofs.Words.{bad_words, words_generate}
use Rattle.mini_shaken.proofs.running.run.Goals as goal

pub returns-in-None-clause-due : goal.returns-in-None-clause-due
returns-in-None-clause-due g c = (bad_words _ c.in-None.ensures, record { bytes = refl; faults = refl }, record { bytes = refl; faults = refl }, record { bytes = refl; faults = refl })

pub returns-in-None-clause-answered : goal.returns-in-None-clause-answered
returns-in-None-clause-answered g c = λ valid. bad_words _ c.in-None.ensures (valid.options, valid.name)

pub returns-in-None-generate-clause-due : goal.returns-in-None-generate-clause-due
returns-in-None-generate-clause-due g c = c.run_read.ensures c.args.words.now (ordered_to_read _ c.in-Some.orders c.in-Some.ensures c.in-None-generate.is)

pub returns-in-None-generate-clause-answered : goal.returns-in-None-generate-clause-answered
returns-in-None-generate-clause-answered g c = read_answered HasShaken _ _ _ _ _ (returns-in-None-generate-clause-due g c)

pub returns-in-Some-generate-clause-due : goal.returns-in-Some-generate-clause-due
returns-in-Some-generate-clause-due g c = (words_generate _ c.in-Some.orders _ c.in-Some.ensures c.in-Some-generate.is, record { bytes = refl; faults = refl }, record { bytes = refl; faults = refl }, record { bytes = refl; faults = refl })

pub returns-in-Some-generate-clause-answered : goal.returns-in-Some-generate-clause-answered
returns-in-Some-generate-clause-answered g c = λ valid. words_generate _ c.in-Some.orders _ c.in-Some.ensures c.in-Some-generate.is (valid.options, valid.name)

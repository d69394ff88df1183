use Rattle.std.proofs.Common.{◌∙◌, ap, refl}
use Rattle.serde_json.specs.Written.{has_float}
use Rattle.mini_peephole.proofs.Floats.{program_plain}
use Rattle.mini_peephole.proofs.minify.rewritten.Goals as goal

pub returns-clause-plain : goal.returns-clause-plain
returns-clause-plain g c = ap has_float c.in_ok-program.ensures ∙ program_plain _

pub returns-clause-ok : goal.returns-clause-ok
returns-clause-ok g c =
    record { output = c.run_passes.new.program; passes = c.in_ok-passes.ensures c.args.options.now c.requires; written = c.in_ok-program.ensures; kept = c.in_ok-kept.ensures; symbols = c.in_ok-symbols.ensures }

pub returns-clause-made : goal.returns-clause-made
unfolding returns-clause-ok
returns-clause-made g c = (returns-clause-ok g c, refl)

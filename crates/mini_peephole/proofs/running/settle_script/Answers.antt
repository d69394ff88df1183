use Rattle.std.proofs.Common.{sym, subst}
use Rattle.mini_writer.specs.Fits.{Fits}
use Rattle.mini_run.proofs.Sizes.{script_fits}
use Rattle.mini_peephole.specs.Answer.{IsWeighed}
use Rattle.mini_peephole.proofs.running.settle_script.Goals as goal

pub weigh_value-requires : goal.weigh_value-requires
weigh_value-requires c = subst Fits (sym c.in-Ok.ensures.value) (script_fits c.args.n c.requires)

pub returns-in-Ok-weights_line : goal.returns-in-Ok-weights_line
returns-in-Ok-weights_line c =
    let w = c.in-Ok-weigh_value.weighed in
    (w.minified, w.before, w.after, subst (λ d. IsWeighed d c.args.options.now w.minified w.before w.after) c.in-Ok.ensures.value c.in-Ok-weigh_value.ensures.weighed, c.in-Ok-weights_line.ensures)

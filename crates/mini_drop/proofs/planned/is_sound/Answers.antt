use Rattle.std.proofs.Common.{subst₂}
use Rattle.mini_drop.specs.Symbols.{Sound}
use Rattle.mini_drop.proofs.Symbols.{plan_told}
use Rattle.mini_drop.proofs.planned.is_sound.Goals as goal

pub returns : goal.returns
returns c =
    λ e. subst₂ (λ set rounds. Sound set rounds c.args.program.now) c.as_slice-set.ensures.value c.as_slice.ensures.value
    (plan_told c.args.context.now c.args.program.now c.requires.known c.args.room c.as_slice-set.result.now c.as_slice.result.now c.requires.room c.fits.result c.are_unseen.result c.may_go.result c.fits.ensures c.are_unseen.ensures c.may_go.ensures e)

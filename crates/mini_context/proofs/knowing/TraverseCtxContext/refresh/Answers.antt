use Rattle.std.proofs.Common.{arith}
use Rattle.mini_laws.specs.declared.names.Use.TheVariants.{Read}
use Rattle.mini_context.proofs.Known.{references_counted, known_anew}
use Rattle.mini_context.proofs.knowing.TraverseCtxContext.refresh.Goals as goal

pub refresh-requires : goal.refresh-requires
refresh-requires c = omega (arith, references_counted Read c.args.program.now, c.reference_count.ensures, c.if-reference_count-gt4294967294.false)

pub returns : goal.returns
returns c = λ o q k. known_anew _ _ o q _ c.in_ok-refresh.ensures.options c.in_ok-refresh.ensures.refreshed k

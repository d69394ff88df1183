use Rattle.std.proofs.Common.{ap, arith, [], length}
use Rattle.mini_laws.specs.declared.names.Use.TheVariants.{Read}
use Rattle.mini_laws.specs.References.{references}
use Rattle.mini_context.proofs.Kept.{references_kept}
use Rattle.mini_context.proofs.resolution.resolve.Goals as goal

pub of-requires : goal.of-requires
of-requires c = omega (arith, c.requires.references, ap (λ t. length (references Read t)) c.in_ok-count.ensures.resolved, references_kept Read Read [] 0 c.args.program.now)

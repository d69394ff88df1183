use Rattle.std.proofs.Common.{arith}
use Rattle.mini_laws.specs.declared.names.Use.TheVariants.{Read}
use Rattle.mini_writer.proofs.Declares.{references_few, symbols_few}
use Rattle.mini_cases.proofs.nested.tell_resolved.Goals as goal

pub resolve-requires : goal.resolve-requires
resolve-requires c = record {
  symbols = omega (arith, symbols_few Read c.args.program, c.requires);
  references = omega (arith, references_few Read c.args.program, c.requires);
}

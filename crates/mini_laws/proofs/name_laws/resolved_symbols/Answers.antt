use Rattle.std.specs.Prelude.{[]}
use Rattle.mini_laws.specs.declared.names.Use.TheVariants.{Read}
use Rattle.mini_laws.proofs.Places.{resolved_symbols}
use Rattle.mini_laws.proofs.name_laws.resolved_symbols.Goals as goal

pub returns : goal.returns
returns c = λ t. resolved_symbols Read [] 0 t

use Rattle.std.specs.Prelude.{refl}
use Rattle.mini_laws.specs.declared.names.Use.TheVariants.{Hoisted, Read}
use Rattle.mini_laws.specs.References.{reads, writes}
use Rattle.mini_context.proofs.Uses.{alike}
use Rattle.mini_context.proofs.laws.declarators_tell.Goals as goal

pub returns : goal.returns
returns c t s = (alike reads refl Hoisted Read refl t s, alike writes refl Hoisted Read refl t s)

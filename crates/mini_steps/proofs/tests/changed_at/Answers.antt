use Rattle.std.specs.Prelude.{refl}
use Rattle.std.proofs.Common.{sym, subst}
use Rattle.mini_laws.specs.Resolved.{symbols}
use Rattle.mini_laws.specs.declared.names.Use.TheVariants.{Read}
use Rattle.mini_context.specs.Facts.{Tells}
use Rattle.mini_context.proofs.Known.{known_at_first}
use Rattle.mini_steps.proofs.Small.{few_symbols, few_references}
use Rattle.mini_steps.proofs.tests.changed_at.Goals as goal

pub resolve-requires : goal.resolve-requires
resolve-requires c = record {
  symbols = few_symbols c.in_ok-program.program c.in_ok-program.ensures;
  references = few_references c.in_ok-program.program c.in_ok-program.ensures;
}

pub apply_steps-requires : goal.apply_steps-requires
apply_steps-requires c =
    let many = symbols Read c.in_ok-program.program in
    record { known = known_at_first c.new-context.result c.new-context.result.options many c.resolve.new.program refl (subst (λ f. Tells f many c.resolve.new.program) (sym c.new-context.ensures.scopes) c.in_ok-scopes.ensures.scopes) }

use Rattle.std.proofs.Common.{sym, subst}
use Rattle.mini_laws.specs.Resolved.{symbols}
use Rattle.mini_laws.specs.declared.names.Use.TheVariants.{Read}
use Rattle.mini_context.specs.Facts.{Tells}
use Rattle.mini_context.proofs.Known.{known_at_first}
use Rattle.mini_peephole.proofs.minify.answer.Goals as goal

pub rewritten-requires : goal.rewritten-requires
rewritten-requires g c =
    let many = symbols Read c.args.tree.now in
    let told = subst (λ f. Tells f many c.resolve.new.program) (sym c.new-context.ensures.scopes) c.in_ok-scopes.ensures.scopes in
    known_at_first c.new-context.result c.args.options.now many c.resolve.new.program c.new-context.ensures.options told

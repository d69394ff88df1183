use Rattle.std.proofs.Common.{sym, subst}
use Rattle.mini_laws.specs.Resolved.{symbols}
use Rattle.mini_laws.specs.declared.names.Use.TheVariants.{Read}
use Rattle.mini_context.specs.Facts.{Tells}
use Rattle.mini_context.proofs.Known.{known_at_first}
use Rattle.mini_peephole.proofs.Answered.{weighed_of}
use Rattle.mini_peephole.proofs.minify.weighed_answer.Goals as goal

pub rewritten-requires : goal.rewritten-requires
rewritten-requires c =
    let many = symbols Read c.args.tree.now in
    let told = subst (λ f. Tells f many c.resolve.new.program) (sym c.new-context.ensures.scopes) c.in_ok-resolved.ensures.scopes in
    known_at_first c.new-context.result c.args.options.now many c.resolve.new.program c.new-context.ensures.options told

pub returns-clause-ok : goal.returns-clause-ok
returns-clause-ok c =
    weighed_of c.args.tree.now c.resolve.new.program c.rewritten.new.tree c.args.options.now
    (record { minified = c.in_ok-minified.minified; before = c.weight-before.result; after = c.weight-after.result })
    c.in_ok-resolved.ensures.free c.in_ok-resolved.ensures.resolved c.in_ok-minified.ensures.made c.weight-before.ensures c.weight-after.ensures

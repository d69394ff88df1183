use Rattle.std.proofs.Common.{sym, subst}
use Rattle.mini_laws.specs.Resolved.{symbols}
use Rattle.mini_laws.specs.declared.names.Use.TheVariants.{Read}
use Rattle.mini_shrink.specs.SameForeign.{DeclaresOnce}
use Rattle.mini_context.specs.Facts.{Tells}
use Rattle.mini_context.proofs.Known.{known_at_first}
use Rattle.mini_shaken.specs.Shaking.{Shakes}
use Rattle.mini_shaken.proofs.Faith.{resolved_once}
use Rattle.mini_shaken.proofs.shake.answer.Goals as goal

pub shake-requires-clause-known : goal.shake-requires-clause-known
shake-requires-clause-known c =
    let many = symbols Read c.args.tree.now in
    let told = subst (λ f. Tells f many c.resolve.new.program) (sym c.new-context.ensures.scopes) c.in_ok-scopes.ensures.scopes in
    known_at_first c.new-context.result c.args.options.now many c.resolve.new.program c.new-context.ensures.options told

pub shake-requires-clause-once : goal.shake-requires-clause-once
shake-requires-clause-once c = subst DeclaresOnce (sym c.in_ok-scopes.ensures.resolved) (resolved_once c.args.tree.now c.requires.shaped c.in_ok-scopes.ensures.free)

pub returns-clause-ok : goal.returns-clause-ok
returns-clause-ok c =
    let first = c.in_ok-scopes.ensures.resolved in
    let told = c.in_ok-minified.ensures in
    record {
      free = c.in_ok-scopes.ensures.free;
      output = c.shake.new.tree;
      shakes = rw (told.passes, told.settled) (subst (λ t. Shakes c.args.options.now t c.shake.new.tree c.args.options.now.passes c.in_ok-made.made.passes c.in_ok-made.made.settled) first c.in_ok-made.ensures);
      tells = told.tells;
    }

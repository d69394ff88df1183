use Rattle.std.proofs.Common.{subst}
use Rattle.std.specs.Prelude.{Some}
use Rattle.mini_model.specs.Tree.{children}
use Rattle.mini_unused.specs.RemoveUnusedDeclaration.{allowed, open_in}
use Rattle.mini_unused.specs.SubstituteNext.{NextAt}
use Rattle.mini_unused.proofs.NextUses.{declares_there, next_declares_there}
use Rattle.mini_unused.proofs.calls.substitute_within.Goals as goal

pub substitute_next-requires-clause-declares : goal.substitute_next-requires-clause-declares
substitute_next-requires-clause-declares c =
    let W = open_in c.args.outside.now (allowed c.args.context.now) in
    let there = subst (λ ts. NextAt W c.args.outside.now ts (Some (c.in-Some.at, c.in-Some.which))) c.children.ensures c.in-Some.ensures in
    declares_there W c.args.outside.now (children c.args.list.now) c.in-Some.at c.in-Some.which there.1

pub substitute_next-requires-clause-next_declares : goal.substitute_next-requires-clause-next_declares
substitute_next-requires-clause-next_declares c =
    let W = open_in c.args.outside.now (allowed c.args.context.now) in
    let there = subst (λ ts. NextAt W c.args.outside.now ts (Some (c.in-Some.at, c.in-Some.which))) c.children.ensures c.in-Some.ensures in
    next_declares_there W c.args.outside.now (children c.args.list.now) c.in-Some.at c.in-Some.which there.1

use Rattle.std.proofs.Common.{◌<◌, ap, subst, refl, inr, arith}
use Rattle.std.specs.Prelude.{Some}
use Rattle.mini_model.specs.Tree.{children, count}
use Rattle.mini_unused.specs.RemoveUnusedDeclaration.{allowed, open_in}
use Rattle.mini_unused.specs.SubstituteNext.{NextOf}
use Rattle.mini_unused.proofs.NextUses.{declares_there, next_declares_there}
use Rattle.mini_unused.proofs.Swept.{swept_none, swept_one}
use Rattle.mini_unused.proofs.sweeping.sweep_next.Goals as goal

pub returns-then-at-len : goal.returns-then-at-len
returns-then-at-len c = swept_none (open_in c.args.outside.now (allowed c.args.context.now)) c.args.tallies.now c.args.outside.now c.args.list.now c.requires.calm

pub returns-then-not-is_next_there : goal.returns-then-not-is_next_there
returns-then-not-is_next_there c = swept_none (open_in c.args.outside.now (allowed c.args.context.now)) c.args.tallies.now c.args.outside.now c.args.list.now c.requires.calm

pub substitute_next-requires-clause-declares : goal.substitute_next-requires-clause-declares
substitute_next-requires-clause-declares c =
    let W = open_in c.args.outside.now (allowed c.args.context.now) in
    let l = c.args.list.now in
    declares_there W c.args.outside.now (children l) c.args.at c.args.which (subst (λ ts. NextOf W c.args.outside.now ts c.args.at (Some c.args.which)) c.children-2.ensures (c.if-not-is_next_there.ensures refl))

pub substitute_next-requires-clause-next_declares : goal.substitute_next-requires-clause-next_declares
substitute_next-requires-clause-next_declares c =
    let W = open_in c.args.outside.now (allowed c.args.context.now) in
    let l = c.args.list.now in
    next_declares_there W c.args.outside.now (children l) c.args.at c.args.which (subst (λ ts. NextOf W c.args.outside.now ts c.args.at (Some c.args.which)) c.children-2.ensures (c.if-not-is_next_there.ensures refl))

pub returns : goal.returns
returns c =
    let W = open_in c.args.outside.now (allowed c.args.context.now) in
    let o = c.args.outside.now in
    let l = c.args.list.now in
    let within : c.args.at < count (children l) = omega (arith, c.if-at-len.false, c.len.ensures, ap count c.children.ensures) in
    let there = subst (λ ts. NextOf W o ts c.args.at (Some c.args.which)) c.children-2.ensures (c.if-not-is_next_there.ensures refl) in
    swept_one W c.args.tallies.now o l c.substitute_next.new.list c.requires.calm (record { unseen = c.requires.calm.unseen; name = inr (inr (record { at = c.args.at; which = c.args.which; there = (within, there); left = c.substitute_next.ensures })) })

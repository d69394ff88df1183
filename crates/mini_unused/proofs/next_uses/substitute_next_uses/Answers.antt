use Rattle.std.proofs.Common.{sym, subst, refl, inr}
use Rattle.std.specs.Prelude.{None, Some}
use Rattle.mini_model.specs.Tree.{children}
use Rattle.mini_unused.specs.RemoveUnusedDeclaration.{allowed, open_in}
use Rattle.mini_unused.specs.SubstituteNext.{NextAt}
use Rattle.mini_unused.proofs.NextUses.{declares_there, next_declares_there}
use Rattle.mini_unused.proofs.Swept.{next_gone, some_gone}
use Rattle.mini_unused.proofs.Uneval.{still_unseen}
use Rattle.mini_unused.proofs.next_uses.substitute_next_uses.Goals as goal

pub substitute_next-requires-clause-declares : goal.substitute_next-requires-clause-declares
substitute_next-requires-clause-declares c =
    let W = open_in c.args.outside.now (allowed c.args.context.now) in
    let there = subst (λ ts. NextAt W c.args.outside.now ts (Some (c.in-Some.at, c.in-Some.which))) c.children.ensures c.in-Some.ensures in
    declares_there W c.args.outside.now (children c.args.list.now) c.in-Some.at c.in-Some.which there.1

pub substitute_next-requires-clause-next_declares : goal.substitute_next-requires-clause-next_declares
substitute_next-requires-clause-next_declares c =
    let W = open_in c.args.outside.now (allowed c.args.context.now) in
    let there = subst (λ ts. NextAt W c.args.outside.now ts (Some (c.in-Some.at, c.in-Some.which))) c.children.ensures c.in-Some.ensures in
    next_declares_there W c.args.outside.now (children c.args.list.now) c.in-Some.at c.in-Some.which there.1

pub sweep-requires-clause-list : goal.sweep-requires-clause-list
sweep-requires-clause-list c =
    let W = open_in c.args.outside.now (allowed c.args.context.now) in
    let first = next_gone W c.args.outside.now c.args.list.now c.substitute_next.new.list c.children.result.now c.in-Some.at c.in-Some.which c.children.ensures c.in-Some.ensures (sym c.if-either_has_eval.ensures) c.substitute_next.ensures in
    (still_unseen W c.args.outside.now c.args.list.now c.substitute_next.new.list (record { is_list = c.requires.list; unseen = sym c.if-either_has_eval.ensures }) first).is_list

pub sweep-requires-clause-unseen : goal.sweep-requires-clause-unseen
sweep-requires-clause-unseen c =
    let W = open_in c.args.outside.now (allowed c.args.context.now) in
    let first = next_gone W c.args.outside.now c.args.list.now c.substitute_next.new.list c.children.result.now c.in-Some.at c.in-Some.which c.children.ensures c.in-Some.ensures (sym c.if-either_has_eval.ensures) c.substitute_next.ensures in
    (still_unseen W c.args.outside.now c.args.list.now c.substitute_next.new.list (record { is_list = c.requires.list; unseen = sym c.if-either_has_eval.ensures }) first).unseen

pub returns-in_ok-sweep-in-Some : goal.returns-in_ok-sweep-in-Some
returns-in_ok-sweep-in-Some c =
    let W = open_in c.args.outside.now (allowed c.args.context.now) in
    let first = next_gone W c.args.outside.now c.args.list.now c.substitute_next.new.list c.children.result.now c.in-Some.at c.in-Some.which c.children.ensures c.in-Some.ensures (sym c.if-either_has_eval.ensures) c.substitute_next.ensures in
    some_gone W c.args.outside.now c.args.list.now c.substitute_next.new.list c.sweep.new.list first c.in_ok-sweep-in-Some.ensures

pub returns-in-None : goal.returns-in-None
returns-in-None c = (refl, inr (c.requires.used, c.requires.singles, subst (λ ts. NextAt (open_in c.args.outside.now (allowed c.args.context.now)) c.args.outside.now ts None) c.children.ensures c.in-None.ensures))

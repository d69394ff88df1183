use Rattle.std.proofs.Common.{sym, subst}
use Rattle.std.specs.Prelude.{None}
use Rattle.mini_unused.specs.RemoveUnusedDeclaration.{allowed, open_in}
use Rattle.mini_unused.specs.SubstituteSingleUse.{SingleAt}
use Rattle.mini_unused.proofs.Swept.{read_gone, some_gone}
use Rattle.mini_unused.proofs.Uneval.{still_unseen}
use Rattle.mini_unused.proofs.single_uses.substitute_single_uses.Goals as goal

pub sweep-requires-clause-list : goal.sweep-requires-clause-list
sweep-requires-clause-list c =
    let W = open_in c.args.outside.now (allowed c.args.context.now) in
    let first = read_gone W c.args.outside.now c.args.list.now c.substitute_in_list.new.list c.children.result.now c.in-Some.at c.last_declarator-which.result c.children.ensures c.in-Some.ensures (sym c.if-either_has_eval.ensures) c.last_declarator-which.ensures.place c.substitute_in_list.ensures in
    (still_unseen W c.args.outside.now c.args.list.now c.substitute_in_list.new.list (record { is_list = c.requires.list; unseen = sym c.if-either_has_eval.ensures }) first).is_list

pub sweep-requires-clause-unseen : goal.sweep-requires-clause-unseen
sweep-requires-clause-unseen c =
    let W = open_in c.args.outside.now (allowed c.args.context.now) in
    let first = read_gone W c.args.outside.now c.args.list.now c.substitute_in_list.new.list c.children.result.now c.in-Some.at c.last_declarator-which.result c.children.ensures c.in-Some.ensures (sym c.if-either_has_eval.ensures) c.last_declarator-which.ensures.place c.substitute_in_list.ensures in
    (still_unseen W c.args.outside.now c.args.list.now c.substitute_in_list.new.list (record { is_list = c.requires.list; unseen = sym c.if-either_has_eval.ensures }) first).unseen

pub returns-in_ok-sweep-in-Some : goal.returns-in_ok-sweep-in-Some
returns-in_ok-sweep-in-Some c =
    let W = open_in c.args.outside.now (allowed c.args.context.now) in
    let first = read_gone W c.args.outside.now c.args.list.now c.substitute_in_list.new.list c.children.result.now c.in-Some.at c.last_declarator-which.result c.children.ensures c.in-Some.ensures (sym c.if-either_has_eval.ensures) c.last_declarator-which.ensures.place c.substitute_in_list.ensures in
    some_gone W c.args.outside.now c.args.list.now c.substitute_in_list.new.list c.sweep.new.list first c.in_ok-sweep-in-Some.ensures

pub substitute_next_uses-requires-clause-singles : goal.substitute_next_uses-requires-clause-singles
substitute_next_uses-requires-clause-singles c = subst (λ ts. SingleAt (open_in c.args.outside.now (allowed c.args.context.now)) c.args.outside.now ts None) c.children.ensures c.in-None.ensures

use Rattle.std.proofs.Common.{sym}
use Rattle.mini_unused.specs.RemoveUnusedDeclaration.{allowed, open_in}
use Rattle.mini_unused.proofs.Swept.{name_gone, some_gone}
use Rattle.mini_unused.proofs.Uneval.{still_unseen}
use Rattle.mini_unused.proofs.declarations.remove_in_list.Goals as goal

pub sweep-requires-clause-list : goal.sweep-requires-clause-list
sweep-requires-clause-list c =
    let W = open_in c.args.outside.now (allowed c.args.context.now) in
    let first = name_gone W c.args.outside.now c.args.list.now c.drop_in_list.new.list c.children.result.now c.in-Some.at c.in-Some.which c.children.ensures c.in-Some.ensures (sym c.if-either_has_eval.ensures) c.in_ok-drop_in_list-in-Some.ensures in
    (still_unseen W c.args.outside.now c.args.list.now c.drop_in_list.new.list (record { is_list = c.requires; unseen = sym c.if-either_has_eval.ensures }) first).is_list

pub sweep-requires-clause-unseen : goal.sweep-requires-clause-unseen
sweep-requires-clause-unseen c =
    let W = open_in c.args.outside.now (allowed c.args.context.now) in
    let first = name_gone W c.args.outside.now c.args.list.now c.drop_in_list.new.list c.children.result.now c.in-Some.at c.in-Some.which c.children.ensures c.in-Some.ensures (sym c.if-either_has_eval.ensures) c.in_ok-drop_in_list-in-Some.ensures in
    (still_unseen W c.args.outside.now c.args.list.now c.drop_in_list.new.list (record { is_list = c.requires; unseen = sym c.if-either_has_eval.ensures }) first).unseen

pub returns-in_ok-sweep-in-Some : goal.returns-in_ok-sweep-in-Some
returns-in_ok-sweep-in-Some c =
    let W = open_in c.args.outside.now (allowed c.args.context.now) in
    let first = name_gone W c.args.outside.now c.args.list.now c.drop_in_list.new.list c.children.result.now c.in-Some.at c.in-Some.which c.children.ensures c.in-Some.ensures (sym c.if-either_has_eval.ensures) c.in_ok-drop_in_list-in-Some.ensures in
    some_gone W c.args.outside.now c.args.list.now c.drop_in_list.new.list c.sweep.new.list first c.in_ok-sweep-in-Some.ensures

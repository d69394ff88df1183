use Rattle.std.proofs.Common.{sym, subst}
use Rattle.std.specs.Prelude.{None}
use Rattle.mini_past.specs.SubstitutePast.{PastAt}
use Rattle.mini_past.proofs.Swept.{read_past, some_gone, still_unseen}
use Rattle.mini_past.specs.LetPlaces.{ToldOfAll}
use Rattle.mini_past.proofs.searching.substitute_past_by.Goals as goal

pub sweep-requires-clause-list : goal.sweep-requires-clause-list
sweep-requires-clause-list g c =
    let V = g.S.SteadyNames.sets c.args.steady.now c.args.body in
    let W = g.S.PastNames.lets c.args.steady.now in
    let first = read_past V W c.args.outside.now c.args.list.now c.substitute_in_list.new.list c.children.result.now c.in-Some.at c.last_declarator-which.result c.children.ensures c.in-Some.ensures (sym c.if-either_has_eval.ensures) c.last_declarator-which.ensures.place c.substitute_in_list.ensures in
    (still_unseen V W c.args.outside.now c.args.list.now c.substitute_in_list.new.list (record { is_list = c.requires.list; unseen = sym c.if-either_has_eval.ensures }) first).is_list

pub sweep-requires-clause-unseen : goal.sweep-requires-clause-unseen
sweep-requires-clause-unseen g c =
    let V = g.S.SteadyNames.sets c.args.steady.now c.args.body in
    let W = g.S.PastNames.lets c.args.steady.now in
    let first = read_past V W c.args.outside.now c.args.list.now c.substitute_in_list.new.list c.children.result.now c.in-Some.at c.last_declarator-which.result c.children.ensures c.in-Some.ensures (sym c.if-either_has_eval.ensures) c.last_declarator-which.ensures.place c.substitute_in_list.ensures in
    (still_unseen V W c.args.outside.now c.args.list.now c.substitute_in_list.new.list (record { is_list = c.requires.list; unseen = sym c.if-either_has_eval.ensures }) first).unseen

pub returns-else-either_has_eval : goal.returns-else-either_has_eval
returns-else-either_has_eval g c =
    let V = g.S.SteadyNames.sets c.args.steady.now c.args.body in
    let W = g.S.PastNames.lets c.args.steady.now in
    let first = read_past V W c.args.outside.now c.args.list.now c.substitute_in_list.new.list c.children.result.now c.in-Some.at c.last_declarator-which.result c.children.ensures c.in-Some.ensures (sym c.if-either_has_eval.ensures) c.last_declarator-which.ensures.place c.substitute_in_list.ensures in
    some_gone V W c.args.outside.now c.args.list.now c.substitute_in_list.new.list c.sweep.new.list first c.sweep.ensures

pub substitute_next_past-requires-clause-none : goal.substitute_next_past-requires-clause-none
substitute_next_past-requires-clause-none g c = subst (λ ts. PastAt (g.S.SteadyNames.sets c.args.steady.now c.args.body) (g.S.PastNames.lets c.args.steady.now) c.args.outside.now ts None) c.children.ensures c.in-None.ensures

pub past_at-requires : goal.past_at-requires
past_at-requires g c = subst (ToldOfAll c.args.lets.now) (sym c.children.ensures) c.requires.told

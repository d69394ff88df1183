use Rattle.std.proofs.Common.{sym, subst, refl, inr}
use Rattle.std.specs.Prelude.{None, Some}
use Rattle.mini_model.specs.Tree.{children}
use Rattle.mini_past.specs.SubstitutePast.{PastNextAt}
use Rattle.mini_past.proofs.NextPlaces.{declares_there, next_declares_there}
use Rattle.mini_past.proofs.Swept.{next_past, some_gone, still_unseen}
use Rattle.mini_past.specs.LetPlaces.{ToldOfAll}
use Rattle.mini_past.proofs.next_declarators.substitute_next_past.Goals as goal

pub substitute_next-requires-clause-declares : goal.substitute_next-requires-clause-declares
substitute_next-requires-clause-declares g c =
    let V = g.S.SteadyNames.sets c.args.steady.now c.args.body in
    let W = g.S.PastNames.lets c.args.steady.now in
    let there = subst (λ ts. PastNextAt V W c.args.outside.now ts (Some (c.in-Some.at, c.in-Some.which))) c.children.ensures c.in-Some.ensures in
    declares_there V W c.args.outside.now (children c.args.list.now) c.in-Some.at c.in-Some.which there.1

pub substitute_next-requires-clause-next_declares : goal.substitute_next-requires-clause-next_declares
substitute_next-requires-clause-next_declares g c =
    let V = g.S.SteadyNames.sets c.args.steady.now c.args.body in
    let W = g.S.PastNames.lets c.args.steady.now in
    let there = subst (λ ts. PastNextAt V W c.args.outside.now ts (Some (c.in-Some.at, c.in-Some.which))) c.children.ensures c.in-Some.ensures in
    next_declares_there V W c.args.outside.now (children c.args.list.now) c.in-Some.at c.in-Some.which there.1

pub sweep-requires-clause-list : goal.sweep-requires-clause-list
sweep-requires-clause-list g c =
    let V = g.S.SteadyNames.sets c.args.steady.now c.args.body in
    let W = g.S.PastNames.lets c.args.steady.now in
    let first = next_past V W c.args.outside.now c.args.list.now c.substitute_next.new.list c.children.result.now c.in-Some.at c.in-Some.which c.children.ensures c.in-Some.ensures (sym c.if-either_has_eval.ensures) c.substitute_next.ensures in
    (still_unseen V W c.args.outside.now c.args.list.now c.substitute_next.new.list (record { is_list = c.requires.list; unseen = sym c.if-either_has_eval.ensures }) first).is_list

pub sweep-requires-clause-unseen : goal.sweep-requires-clause-unseen
sweep-requires-clause-unseen g c =
    let V = g.S.SteadyNames.sets c.args.steady.now c.args.body in
    let W = g.S.PastNames.lets c.args.steady.now in
    let first = next_past V W c.args.outside.now c.args.list.now c.substitute_next.new.list c.children.result.now c.in-Some.at c.in-Some.which c.children.ensures c.in-Some.ensures (sym c.if-either_has_eval.ensures) c.substitute_next.ensures in
    (still_unseen V W c.args.outside.now c.args.list.now c.substitute_next.new.list (record { is_list = c.requires.list; unseen = sym c.if-either_has_eval.ensures }) first).unseen

pub returns-else-either_has_eval : goal.returns-else-either_has_eval
returns-else-either_has_eval g c =
    let V = g.S.SteadyNames.sets c.args.steady.now c.args.body in
    let W = g.S.PastNames.lets c.args.steady.now in
    let first = next_past V W c.args.outside.now c.args.list.now c.substitute_next.new.list c.children.result.now c.in-Some.at c.in-Some.which c.children.ensures c.in-Some.ensures (sym c.if-either_has_eval.ensures) c.substitute_next.ensures in
    some_gone V W c.args.outside.now c.args.list.now c.substitute_next.new.list c.sweep.new.list first c.sweep.ensures

pub returns-in-None : goal.returns-in-None
returns-in-None g c = (refl, inr (c.requires.none, subst (λ ts. PastNextAt (g.S.SteadyNames.sets c.args.steady.now c.args.body) (g.S.PastNames.lets c.args.steady.now) c.args.outside.now ts None) c.children.ensures c.in-None.ensures))

pub next_at-requires : goal.next_at-requires
next_at-requires g c = subst (ToldOfAll c.args.lets.now) (sym c.children.ensures) c.requires.told

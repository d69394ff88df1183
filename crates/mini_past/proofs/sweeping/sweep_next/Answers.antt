use Rattle.std.proofs.Common.{◌<◌, ap, subst, refl, inr, arith}
use Rattle.std.specs.Prelude.{Some}
use Rattle.mini_model.specs.Tree.{children, count}
use Rattle.mini_past.specs.SubstitutePast.{PastNextOf}
use Rattle.mini_past.proofs.NextPlaces.{declares_there, next_declares_there}
use Rattle.mini_past.proofs.StillTold.{after_next, found_told}
use Rattle.mini_past.proofs.Swept.{swept_none, swept_one}
use Rattle.mini_past.proofs.sweeping.sweep_next.Goals as goal

pub returns-then-at-len-clause-swept : goal.returns-then-at-len-clause-swept
returns-then-at-len-clause-swept g c = swept_none (g.S.SteadyNames.sets c.args.steady.now c.args.body) (g.S.PastNames.lets c.args.steady.now) c.args.outside.now c.args.tallies.now c.args.list.now c.requires.calm

pub returns-then-not-is_next_there-clause-swept : goal.returns-then-not-is_next_there-clause-swept
returns-then-not-is_next_there-clause-swept g c = swept_none (g.S.SteadyNames.sets c.args.steady.now c.args.body) (g.S.PastNames.lets c.args.steady.now) c.args.outside.now c.args.tallies.now c.args.list.now c.requires.calm

pub substitute_next-requires-clause-declares : goal.substitute_next-requires-clause-declares
substitute_next-requires-clause-declares g c =
    let V = g.S.SteadyNames.sets c.args.steady.now c.args.body in
    let W = g.S.PastNames.lets c.args.steady.now in
    declares_there V W c.args.outside.now (children c.args.list.now) c.args.at c.args.which (subst (λ ts. PastNextOf V W c.args.outside.now ts c.args.at (Some c.args.which)) c.children-2.ensures (c.if-not-is_next_there.ensures refl))

pub substitute_next-requires-clause-next_declares : goal.substitute_next-requires-clause-next_declares
substitute_next-requires-clause-next_declares g c =
    let V = g.S.SteadyNames.sets c.args.steady.now c.args.body in
    let W = g.S.PastNames.lets c.args.steady.now in
    next_declares_there V W c.args.outside.now (children c.args.list.now) c.args.at c.args.which (subst (λ ts. PastNextOf V W c.args.outside.now ts c.args.at (Some c.args.which)) c.children-2.ensures (c.if-not-is_next_there.ensures refl))

pub returns-clause-swept : goal.returns-clause-swept
returns-clause-swept g c =
    let V = g.S.SteadyNames.sets c.args.steady.now c.args.body in
    let W = g.S.PastNames.lets c.args.steady.now in
    let o = c.args.outside.now in
    let l = c.args.list.now in
    let within : c.args.at < count (children l) = omega (arith, c.if-at-len.false, c.len.ensures, ap count c.children.ensures) in
    let there = subst (λ ts. PastNextOf V W o ts c.args.at (Some c.args.which)) c.children-2.ensures (c.if-not-is_next_there.ensures refl) in
    swept_one V W o c.args.tallies.now l c.substitute_next.new.list c.requires.calm (record { unseen = c.requires.calm.unseen; name = inr (record { at = c.args.at; which = c.args.which; there = (within, there); left = c.substitute_next.ensures }) })

pub is_next_there-requires-clause-told : goal.is_next_there-requires-clause-told
is_next_there-requires-clause-told g c = found_told c.args.lets.now c.args.list.now c.children-2.result.now c.args.at c.args.which c.children-2.ensures c.requires.told

pub returns-clause-told : goal.returns-clause-told
returns-clause-told g c =
    let within : c.args.at < count (children c.args.list.now) = omega (arith, c.if-at-len.false, c.len.ensures, ap count c.children.ensures) in
    after_next c.args.lets.now c.args.list.now c.substitute_next.new.list c.args.at c.args.which within c.substitute_next.ensures c.requires.told

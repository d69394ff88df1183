use Rattle.std.proofs.Common.{◌≡◌, ◌<◌, ◌∙◌, suc, true, ap, subst, sym, refl, inl, arith}
use Rattle.mini_model.specs.Tree.{children, count}
use Rattle.mini_unused.specs.RemoveUnusedDeclaration.{list_at}
use Rattle.mini_unused.specs.SubstituteSingleUse.{list_single}
use Rattle.mini_past.specs.SubstitutePast.{is_past}
use Rattle.mini_past.proofs.StillTold.{last_told, past_told}
use Rattle.mini_past.proofs.Swept.{swept_none, swept_one}
use Rattle.mini_past.proofs.sweeping.sweep_last.Goals as goal

pub returns-then-declarators_at-which-clause-swept : goal.returns-then-declarators_at-which-clause-swept
returns-then-declarators_at-which-clause-swept g c = swept_none (g.S.SteadyNames.sets c.args.steady.now c.args.body) (g.S.PastNames.lets c.args.steady.now) c.args.outside.now c.args.tallies.now c.args.list.now c.requires.calm

pub returns-then-not-has_next-clause-swept : goal.returns-then-not-has_next-clause-swept
returns-then-not-has_next-clause-swept g c = swept_none (g.S.SteadyNames.sets c.args.steady.now c.args.body) (g.S.PastNames.lets c.args.steady.now) c.args.outside.now c.args.tallies.now c.args.list.now c.requires.calm

pub returns-then-not-is_past_by-clause-swept : goal.returns-then-not-is_past_by-clause-swept
returns-then-not-is_past_by-clause-swept g c = swept_none (g.S.SteadyNames.sets c.args.steady.now c.args.body) (g.S.PastNames.lets c.args.steady.now) c.args.outside.now c.args.tallies.now c.args.list.now c.requires.calm

pub returns-clause-swept : goal.returns-clause-swept
returns-clause-swept g c =
    let V = g.S.SteadyNames.sets c.args.steady.now c.args.body in
    let W = g.S.PastNames.lets c.args.steady.now in
    let l = c.args.list.now in
    let at = c.args.at in
    let within = c.if-not-has_next.ensures.next refl in
    let next : suc at < count (children l) = omega (arith, within) in
    let declares = subst (λ ts. 0 < count (children (list_at ts at))) c.children.ensures (c.if-not-is_past_by.ensures.declarators refl) in
    let there = subst (λ ts. is_past V W c.args.outside.now ts at ≡ true) c.children.ensures (c.if-not-is_past_by.ensures.past refl) in
    swept_one V W c.args.outside.now c.args.tallies.now l c.substitute_in_list.new.list c.requires.calm
    (record { unseen = c.requires.calm.unseen; name = inl (record { at = at; next = next; declares = declares; there = there; left = c.substitute_in_list.ensures ∙ ap (list_single l at) c.last_declarator-last.ensures.place }) })

pub is_past_by-requires-clause-told : goal.is_past_by-requires-clause-told
is_past_by-requires-clause-told g c = past_told c.args.lets.now c.args.list.now c.children.result.now c.args.at c.args.which c.children.ensures (sym c.declarators_at.ensures ∙ c.if-declarators_at-which.false) c.requires.told

pub returns-clause-told : goal.returns-clause-told
returns-clause-told g c =
    let within = c.if-not-has_next.ensures.next refl in
    last_told c.args.lets.now c.args.list.now c.substitute_in_list.new.list c.args.at c.args.which c.last_declarator-last.result (omega (arith, within)) (sym c.declarators_at.ensures ∙ c.if-declarators_at-which.false) c.last_declarator-last.ensures.place c.substitute_in_list.ensures c.requires.told

use Rattle.std.proofs.Common.{◌≡◌, ◌<◌, ◌∙◌, suc, true, ap, subst, refl, inl, inr, arith}
use Rattle.mini_model.specs.Tree.{children, count}
use Rattle.mini_unused.specs.RemoveUnusedDeclaration.{allowed, open_in, list_at}
use Rattle.mini_unused.specs.SubstituteSingleUse.{is_single, list_single}
use Rattle.mini_unused.proofs.Swept.{swept_none, swept_one}
use Rattle.mini_unused.proofs.sweeping.sweep_single.Goals as goal

pub returns-then-not-has_next : goal.returns-then-not-has_next
returns-then-not-has_next c = swept_none (open_in c.args.outside.now (allowed c.args.context.now)) c.args.tallies.now c.args.outside.now c.args.list.now c.requires.calm

pub returns-then-not-is_single_there : goal.returns-then-not-is_single_there
returns-then-not-is_single_there c = swept_none (open_in c.args.outside.now (allowed c.args.context.now)) c.args.tallies.now c.args.outside.now c.args.list.now c.requires.calm

pub returns : goal.returns
returns c =
    let W = open_in c.args.outside.now (allowed c.args.context.now) in
    let l = c.args.list.now in
    let at = c.args.at in
    let within = c.if-not-has_next.ensures.next refl in
    let next : suc at < count (children l) = omega (arith, within) in
    let declares = subst (λ ts. 0 < count (children (list_at ts at))) c.children.ensures (c.if-not-is_single_there.ensures.declarators refl) in
    let single = subst (λ ts. is_single W c.args.outside.now ts at ≡ true) c.children.ensures (c.if-not-is_single_there.ensures.single refl) in
    swept_one W c.args.tallies.now c.args.outside.now l c.substitute_in_list.new.list c.requires.calm
    (record { unseen = c.requires.calm.unseen; name = inr (inl (record { at = at; next = next; declares = declares; single = single; left = c.substitute_in_list.ensures ∙ ap (list_single l at) c.last_declarator-last.ensures.place })) })

use Rattle.std.proofs.Common.{◌≡◌, ◌<◌, ap, subst, refl, inl, arith}
use Rattle.std.specs.Prelude.{Some}
use Rattle.mini_model.specs.Tree.{children, count}
use Rattle.mini_unused.specs.RemoveUnusedDeclaration.{allowed, open_in, UnusedOf, list_left}
use Rattle.mini_unused.specs.Sweep.{Swept}
use Rattle.mini_unused.proofs.Swept.{swept_none, swept_one, swept_on, on_ok}
use Rattle.mini_unused.proofs.sweeping.sweep_declarator.Goals as goal

pub returns-then-at-len : goal.returns-then-at-len
returns-then-at-len c = swept_none (open_in c.args.outside.now (allowed c.args.context.now)) c.args.tallies.now c.args.outside.now c.args.list.now c.requires.calm

pub returns-then-is_unused_there : goal.returns-then-is_unused_there
returns-then-is_unused_there c =
    let W = open_in c.args.outside.now (allowed c.args.context.now) in
    let o = c.args.outside.now in
    let l = c.args.list.now in
    let m = c.drop_in_list.new.list in
    let within : c.args.at < count (children l) = omega (arith, c.if-at-len.false, c.len.ensures, ap count c.children.ensures) in
    let unused = subst (λ ts. UnusedOf W o ts c.args.at (Some c.args.which)) c.children-2.ensures (c.if-is_unused_there.ensures refl) in
    on_ok c.drop_in_list.result (m ≡ list_left l c.args.at c.args.which) (Swept W c.args.tallies.now o l m)
    (λ e. swept_one W c.args.tallies.now o l m c.requires.calm (record { unseen = c.requires.calm.unseen; name = inl (record { at = c.args.at; which = c.args.which; unused = (within, unused); left = e }) })) c.drop_in_list.ensures

pub returns : goal.returns
returns c = swept_on (open_in c.args.outside.now (allowed c.args.context.now)) c.args.tallies.now c.args.outside.now c.args.list.now c.sweep_single.new.list c.sweep_next.new.list c.sweep_single.ensures c.sweep_next.ensures

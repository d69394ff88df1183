use Rattle.std.proofs.Common.{suc, ◌∙◌, ap, sym, subst, subst₂, arith}
use Rattle.mini_model.specs.Tree.{children, child_or_absent}
use Rattle.mini_node.specs.Children.{names, names_of, part}
use Rattle.mini_past.specs.SubstitutePast.{held_at, may_pass_by}
use Rattle.mini_past.specs.RareReads.{AreRareAtHead}
use Rattle.mini_past.proofs.RareReads.{read_past}
use Rattle.mini_past.proofs.tallied.is_read_by.Goals as goal

pub returns-then-has_rare_name : goal.returns-then-has_rare_name
returns-then-has_rare_name g c = λ e.
    let V = g.S.SteadyNames.sets c.args.steady.now c.args.body in
    let W = g.S.PastNames.lets c.args.steady.now in
    let T = c.args.tallies.now in
    let l = c.args.list.now in
    let ts = c.args.statements.now in
    let at = c.args.at in
    let which = c.args.which in
    let H = held_at V ts at (children l) which in
    let head = child_or_absent ts (suc at) in
    let there = c.child-declarator.ensures.value in
    let next = c.requires.next in
    let may = ap (may_pass_by c.args.is_free W) (sym there) ∙ sym c.if-not-may_pass_by.ensures.kind in
    let named = c.name-then-has_rare_name.ensures ∙ ap names_of (c.child-then-has_rare_name.ensures.value ∙ ap (λ u. part u 0) there) in
    let init = c.child-then-has_rare_name-2.ensures.value ∙ ap (λ u. part u 1) there in
    let held = subst (λ ds. AreRareAtHead T (held_at V ts at ds which) (names c.name-then-has_rare_name.result.now) c.child-then-has_rare_name-2.result.now head) c.children.ensures (c.is_rarely_read.ensures e) in
    let rare = subst₂ (λ xs r. AreRareAtHead T H xs r head) named init held in
    read_past T V c.args.outside.now ts at which (omega (arith, next)) c.requires.declares c.requires.tallied W c.args.is_free l c.requires.list (omega (arith, next)) c.requires.declarator may rare

use Rattle.std.proofs.Common.{◌≡◌, true, ◌∙◌, ap, sym, subst, subst₂, add-one, arith}
use Rattle.mini_model.specs.Tree.{children}
use Rattle.mini_node.specs.Children.{names, names_of, part}
use Rattle.mini_unused.specs.SubstituteNext.{is_declarator}
use Rattle.mini_past.specs.SubstitutePast.{held_at, may_pass_by}
use Rattle.mini_past.specs.RareReads.{AreRareInNext}
use Rattle.mini_past.proofs.RareReads.{next_past}
use Rattle.mini_past.proofs.tallied.is_next_by.Goals as goal

pub returns-then-has_rare_name : goal.returns-then-has_rare_name
returns-then-has_rare_name g c = λ e.
    let V = g.S.SteadyNames.sets c.args.steady.now c.args.body in
    let W = g.S.PastNames.lets c.args.steady.now in
    let T = c.args.tallies.now in
    let l = c.args.list.now in
    let ts = c.args.statements.now in
    let at = c.args.at in
    let which = c.args.which in
    let H = held_at V ts at (children l) which in
    let there = c.child-declarator.ensures.value in
    let following = c.child-next.ensures.value in
    let next = c.requires.next in
    let may = ap (may_pass_by c.args.is_free W) (sym there) ∙ sym c.if-not-may_pass_by.ensures.kind in
    let other = ap is_declarator (sym following) ∙ sym c.if-not-is_declarator.ensures.kind in
    let named = c.name-then-has_rare_name.ensures ∙ ap names_of (c.child-then-has_rare_name.ensures.value ∙ ap (λ u. part u 0) there) in
    let init = c.child-then-has_rare_name-2.ensures.value ∙ ap (λ u. part u 1) there in
    let value = c.child-then-has_rare_name-3.ensures.value ∙ ap (λ u. part u 1) following in
    let held = subst (λ ds. AreRareInNext T (held_at V ts at ds which) (names c.name-then-has_rare_name.result.now) c.child-then-has_rare_name-2.result.now c.child-then-has_rare_name-3.result.now) c.children.ensures (c.is_rarely_read_in.ensures e) in
    let read = subst₂ (λ xs r. AreRareInNext T H xs r c.child-then-has_rare_name-3.result.now) named init held in
    let rare = subst (AreRareInNext T H (names_of (part (part l which) 0)) (part (part l which) 1)) value read in
    next_past T V c.args.outside.now ts at which c.requires.statement c.requires.declares c.requires.tallied W c.args.is_free l c.requires.list (omega (arith, next)) may
    (subst (λ k. is_declarator (part l k) ≡ true) (add-one which) other)
    (subst (λ k. AreRareInNext T H (names_of (part (part l which) 0)) (part (part l which) 1) (part (part l k) 1)) (add-one which) rare)

use Rattle.std.proofs.Common.{◌≡◌, ◌∙◌, suc, true, ap, sym, subst, subst₂, arith}
use Rattle.mini_node.specs.Children.{names_of, part}
use Rattle.mini_model.specs.Tree.{child_or_absent}
use Rattle.mini_unused.specs.RemoveUnusedDeclaration.{declares_name}
use Rattle.mini_unused.specs.SubstituteSingleUse.{is_read_once}
use Rattle.mini_unused.specs.Tallies.{AreRead}
use Rattle.mini_unused.proofs.Swept.{read_there}
use Rattle.mini_unused.proofs.sweeping.is_read_there.Goals as goal

pub returns-then-has_rare_name : goal.returns-then-has_rare_name
returns-then-has_rare_name c = λ e.
    let there = c.child-declarator.ensures.value in
    let next = c.requires.next in
    let last = c.requires.declarator in
    let at = c.args.at in
    let ts = c.args.statements.now in
    let named = subst (λ u. declares_name u ≡ true) there (sym c.if-not-declares_name.ensures.kind) in
    let name = c.name-then-has_rare_name.ensures ∙ ap names_of (c.child-then-has_rare_name.ensures.value ∙ ap (λ u. part u 0) there) in
    let init = c.child-then-has_rare_name-2.ensures.value ∙ ap (λ u. part u 1) there in
    let rare = subst₂ (λ xs r. AreRead c.args.tallies.now xs r (child_or_absent ts (suc at))) name init (c.is_rarely_read.ensures e) in
    read_there c.args.tallies.now c.args.outside.now ts at c.args.which (omega (arith, next)) c.requires.declares c.requires.tallied (omega (arith, next)) c.args.list.now c.requires.list (omega (arith, last)) named rare

pub returns : goal.returns
returns c = λ e.
    let there = c.child-declarator.ensures.value in
    let named = c.name-2.ensures ∙ ap names_of (c.child-2.ensures.value ∙ ap (λ u. part u 0) there) in
    let init = c.child-3.ensures.value ∙ ap (λ u. part u 1) there in
    sym (λ k. is_read_once (named k) c.args.outside.now (init k) (c.children.ensures k) c.args.which c.args.statements.now c.args.at) ∙ sym c.is_read_once.ensures ∙ e

use Rattle.std.proofs.Common.{◌≡◌, ◌∙◌, true, refl, ap, sym, subst}
use Rattle.mini_node.specs.Children.{names_of, part}
use Rattle.mini_unused.specs.RemoveUnusedDeclaration.{declares_name, is_alone}
use Rattle.mini_unused.specs.Tallies.{AreRare}
use Rattle.mini_unused.proofs.Swept.{alone_there}
use Rattle.mini_unused.proofs.sweeping.is_alone_there.Goals as goal

pub returns-then-has_rare_name : goal.returns-then-has_rare_name
returns-then-has_rare_name c = λ e.
    let there = c.child-declarator.ensures.value in
    let named = subst (λ u. declares_name u ≡ true) there (sym c.if-not-declares_name.ensures.kind) in
    let rare = subst (λ xs. AreRare c.args.tallies.now xs 1) (c.name.ensures ∙ ap names_of (c.child.ensures.value ∙ ap (λ u. part u 0) there)) (c.if-has_rare_name.ensures.rare refl) in
    alone_there c.args.tallies.now c.args.outside.now c.args.statements.now c.args.at c.args.which c.requires.statement c.requires.declares c.requires.tallied c.args.list.now c.requires.list c.requires.declarator named rare

pub returns : goal.returns
returns c = λ e.
    let there = c.child-declarator.ensures.value in
    let named = c.name-2.ensures ∙ ap names_of (c.child-2.ensures.value ∙ ap (λ u. part u 0) there) in
    let init = c.child-3.ensures.value ∙ ap (λ u. part u 1) there in
    sym (λ k. is_alone (named k) c.args.outside.now (init k) (c.children.ensures k) c.args.which c.args.statements.now c.args.at) ∙ sym c.is_alone.ensures ∙ e

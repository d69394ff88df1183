use Rattle.std.proofs.Common.{◌∙◌, ap, sym, subst, subst₂}
use Rattle.mini_node.specs.Children.{names_of, part}
use Rattle.mini_unused.specs.SubstituteNext.{is_declarator}
use Rattle.mini_unused.specs.RemoveUnusedDeclaration.{declares_name}
use Rattle.mini_unused.specs.Tallies.{AreReadIn}
use Rattle.mini_unused.proofs.Swept.{read_by_next}
use Rattle.mini_unused.proofs.sweeping.is_read_next.Goals as goal

pub returns-then-has_rare_name-clause-next : goal.returns-then-has_rare_name-clause-next
returns-then-has_rare_name-clause-next c = λ e. ap is_declarator (sym c.child-next.ensures.value) ∙ sym c.if-not-is_declarator.ensures.kind

pub returns-then-has_rare_name-clause-read : goal.returns-then-has_rare_name-clause-read
returns-then-has_rare_name-clause-read c = λ e.
    let there = c.child-declarator.ensures.value in
    let following = c.child-next.ensures.value in
    let one = ap declares_name (sym there) ∙ sym c.if-not-declares_name.ensures.kind in
    let other = ap is_declarator (sym following) ∙ sym c.if-not-is_declarator.ensures.kind in
    let named = c.name-then-has_rare_name.ensures ∙ ap names_of (c.child-then-has_rare_name.ensures.value ∙ ap (λ u. part u 0) there) in
    let init = c.child-then-has_rare_name-2.ensures.value ∙ ap (λ u. part u 1) there in
    let value = c.child-then-has_rare_name-3.ensures.value ∙ ap (λ u. part u 1) following in
    let read = subst₂ (λ xs r. AreReadIn c.args.tallies.now xs r c.child-then-has_rare_name-3.result.now) named init (c.is_rarely_read_in.ensures e) in
    let rare = subst (λ v. AreReadIn c.args.tallies.now (names_of (part (part c.args.list.now c.args.which) 0)) (part (part c.args.list.now c.args.which) 1) v) value read in
    read_by_next c.args.tallies.now c.args.outside.now c.args.statements.now c.args.at c.args.which c.requires.statement c.requires.declares c.requires.tallied c.args.list.now c.requires.list c.requires.next one other rare

use Rattle.std.proofs.Common.{◌≤◌, ◌∙◌, false, sym, ap, subst}
use Rattle.mini_node.specs.Children.{names}
use Rattle.mini_unused.specs.Tallies.{bucket, own_tally, is_spelled}
use Rattle.mini_unused.proofs.Rare.{text_counted}
use Rattle.mini_unused.proofs.tallies.is_spelled.Goals as goal

pub returns-in-Some-clause-told : goal.returns-in-Some-clause-told
returns-in-Some-clause-told c = c.is_same_text.ensures ∙ ap (λ o. is_spelled c.args.name.now (names o)) (sym c.in-Some.is)

pub returns-in-Some-clause-counted : goal.returns-in-Some-clause-counted
returns-in-Some-clause-counted c = λ e r. subst (λ o. 1 ≤ own_tally (bucket false r) (bucket false r c.args.name.now) (names o)) (sym c.in-Some.is) (text_counted r c.args.name.now c.in-Some.other (sym c.is_same_text.ensures ∙ e))

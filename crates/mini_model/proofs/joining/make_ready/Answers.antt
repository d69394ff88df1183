use Rattle.std.proofs.Common.{sym, ap, ◌∙◌}
use Rattle.mini_model.specs.Tails.{ending_at}
use Rattle.mini_model.proofs.Ends.{ending_of-x00, ending_of-backslash}
use Rattle.mini_model.proofs.joining.make_ready.Goals as goal

pub returns-in_ok-push-in-NullEscape-48-to-57-3-clause-ends : goal.returns-in_ok-push-in-NullEscape-48-to-57-3-clause-ends
returns-in_ok-push-in-NullEscape-48-to-57-3-clause-ends c =
    ending_of-x00 _ _ _ _ c.in_ok-push-in-NullEscape-48-to-57.ensures.ok c.in_ok-push-in-NullEscape-48-to-57-2.ensures.ok c.in_ok-push-in-NullEscape-48-to-57-3.ensures.ok

pub returns-in_ok-push-in-BareDollar-eq123-clause-ends : goal.returns-in_ok-push-in-BareDollar-eq123-clause-ends
returns-in_ok-push-in-BareDollar-eq123-clause-ends c =
    ending_of-backslash _ _ (ap ending_at (sym c.in-BareDollar-eq123.is-0) ∙ c.requires) c.in_ok-push-in-BareDollar-eq123.ensures.ok

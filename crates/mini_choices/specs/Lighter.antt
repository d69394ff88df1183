-- A step of each rule is a rewrite, so it makes the whole lighter.
use Rattle.mini_model.specs.Tree.{Tree}
use Rattle.mini_laws.proofs.Lighter.{any_step_lighter}
use Rattle.mini_kept.proofs.Rooted.{step_on}
use Rattle.mini_rows.specs.Choices.{ChoiceContracts}
use Rattle.mini_rows.specs.Editions.{WritesIn}
use Rattle.mini_tree.specs.declared.options.CompressOptions.{CompressOptions}
use Rattle.mini_rows.specs.Writes.{WriteContracts}
use Rattle.mini_rows.proofs.ChoiceWeights as choice_weights
use Rattle.mini_rows.proofs.WriteWeights as write_weights
use Rattle.mini_tree.specs.Rule.{IsLighter}
use Rattle.mini_laws.specs.Writable.{writable_in}
use Rattle.mini_choices.specs.Choices as choices

pub choices_lighter : (o : CompressOptions) → IsLighter (choices.Gives o)
choices_lighter o p t u s = any_step_lighter ChoiceContracts choice_weights.lightens p t u (step_on {R = choices.Gives o} {Q = ChoiceContracts} (λ p n w c. c.0) s)

pub writes_lighter : (o : CompressOptions) (q : Tree) → IsLighter (WritesIn o.edition (writable_in q))
writes_lighter o q p t u s =
    let Q = WriteContracts (writable_in q) in
    any_step_lighter Q (write_weights.writes_lighten (writable_in q)) p t u (step_on {R = WritesIn o.edition (writable_in q)} {Q = Q} (λ p n w c. c.0) s)

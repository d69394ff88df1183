-- A step of the rules makes the whole lighter.
use Rattle.mini_model.specs.Tree.{Tree}
use Rattle.mini_laws.proofs.Lighter.{any_step_lighter}
use Rattle.mini_rows.specs.Inside.{EndsLighten, unused_ends, InsideContracts}
use Rattle.mini_rows.specs.Switches.{Liberties}
use Rattle.mini_rows.specs.Unused.{UnusedContracts}
use Rattle.mini_rows.proofs.InsideWeights.{inside_lighter, inside_lightens}
use Rattle.mini_rows.proofs.UnusedWeights.{unused_lighten}
use Rattle.mini_tree.specs.declared.options.CompressOptions.{CompressOptions}
use Rattle.mini_tree.specs.Rule.{IsLighter}
use Rattle.mini_unused.specs.Allowed.{allowed_in}

pub unused_is_lighter : (o : CompressOptions) (q : Tree) → IsLighter (UnusedContracts (allowed_in o q))
unused_is_lighter o q = any_step_lighter (UnusedContracts (allowed_in o q)) (unused_lighten (allowed_in o q))

pub inside_is_lighter : (o : CompressOptions) (q : Tree) → IsLighter (InsideContracts (allowed_in o q))
inside_is_lighter o q = any_step_lighter (InsideContracts (allowed_in o q)) (inside_lightens (allowed_in o q))

pub unused_ends_lighten : (W : Liberties) → EndsLighten (unused_ends W)
unused_ends_lighten W = inside_lighter W

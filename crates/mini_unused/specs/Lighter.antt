-- A step of the rule makes the whole lighter.
use Rattle.mini_laws.proofs.Lighter.{any_step_lighter}
use Rattle.mini_kept.proofs.Rooted.{step_on}
use Rattle.mini_rows.specs.Catches.{CatchContracts}
use Rattle.mini_rows.specs.Names.{NameContracts}
use Rattle.mini_rows.specs.Switches.{Switches}
use Rattle.mini_rows.proofs.CatchWeights.{catches_lighten}
use Rattle.mini_rows.proofs.NameWeights.{names_lighten}
use Rattle.mini_tree.specs.Rule.{IsLighter}
use Rattle.mini_tree.specs.declared.options.CompressOptions.{CompressOptions}
use Rattle.mini_unused.specs.SubstituteCatchClause.{Gives}

pub name_is_lighter : (o : Switches) → IsLighter (NameContracts o)
name_is_lighter o = any_step_lighter (NameContracts o) (names_lighten o)

pub catch_is_lighter : (o : CompressOptions) → IsLighter (Gives o)
catch_is_lighter o p t u s = any_step_lighter CatchContracts catches_lighten p t u (step_on {R = Gives o} {Q = CatchContracts} (λ p n w c. c.0) s)

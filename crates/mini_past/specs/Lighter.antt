-- A step in a function, in an arrow function, in a module or in a static block is a rewrite, so it
-- makes the whole lighter.
use Rattle.mini_kept.specs.Without.{BodySets}
use Rattle.mini_laws.proofs.Lighter.{any_step_lighter}
use Rattle.mini_rows.specs.Past.{PastFunction}
use Rattle.mini_rows.specs.PastArrows.{PastArrow}
use Rattle.mini_rows.specs.PastModules.{PastModule}
use Rattle.mini_rows.specs.PastStatics.{PastStatic}
use Rattle.mini_rows.proofs.PastLawful.{past_is_lighter}
use Rattle.mini_rows.proofs.PastArrowLawful.{past_arrows_are_lighter}
use Rattle.mini_rows.proofs.PastModuleLawful.{past_modules_are_lighter}
use Rattle.mini_rows.proofs.PastStaticLawful.{past_statics_are_lighter}
use Rattle.mini_rows.specs.Switches.{Liberties}
use Rattle.mini_tree.specs.Rule.{IsLighter}

pub past_lighter : (S : BodySets) (W : Liberties) → IsLighter (PastFunction S W)
past_lighter S W = any_step_lighter (PastFunction S W) (past_is_lighter S W)

pub past_arrow_lighter : (S : BodySets) (W : Liberties) → IsLighter (PastArrow S W)
past_arrow_lighter S W = any_step_lighter (PastArrow S W) (past_arrows_are_lighter S W)

pub past_module_lighter : (S : BodySets) (W : Liberties) → IsLighter (PastModule S W)
past_module_lighter S W = any_step_lighter (PastModule S W) (past_modules_are_lighter S W)

pub past_static_lighter : (S : BodySets) (W : Liberties) → IsLighter (PastStatic S W)
past_static_lighter S W = any_step_lighter (PastStatic S W) (past_statics_are_lighter S W)

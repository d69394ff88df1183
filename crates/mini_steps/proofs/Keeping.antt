-- What any list of steps keeps.
use Rattle.mini_kept.proofs.Loosely.{loosely_keeps}
use Rattle.mini_rows.specs.Redex.{Rewrites}
use Rattle.mini_rows.specs.Switches.{let_go, of_every_edition}
use Rattle.mini_rows.proofs.AllRows.{all_loose}
use Rattle.mini_steps.specs.Rows.{CallRows}
use Rattle.mini_steps.specs.Laws.{StepsAreRewrites, StepsKeep}
use Rattle.mini_steps.proofs.Families.{rewrites}
use Rattle.mini_steps.proofs.Following.{followed_reaches}

pub are_rewrites : StepsAreRewrites
are_rewrites o W steps t u n f = followed_reaches (CallRows o W) (Rewrites (of_every_edition o) W) (rewrites o W) f

pub keep : StepsKeep
keep o W steps t u n f shaped = loosely_keeps (Rewrites (of_every_edition o) W) (let_go o) W (all_loose (of_every_edition o) W) t u (are_rewrites o W steps t u n f) shaped

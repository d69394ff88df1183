-- What is made of functions and of arrow functions is lawful.
use Rattle.std.proofs.Common.{Bool}
use Rattle.std.specs.Prelude.{◌⊎◌}
use Rattle.mini_model.specs.declared.shape.Shape.{Shape}
use Rattle.mini_kept.specs.Loosely.{LawfulUnder}
use Rattle.mini_kept.specs.Without.{BodySets}
use Rattle.mini_kept.proofs.Loosely.{steady_join}
use Rattle.mini_rows.specs.Past.{PastFunction}
use Rattle.mini_rows.specs.PastArrows.{PastArrow}
use Rattle.mini_rows.proofs.PastLawful.{past_is_lawful}
use Rattle.mini_rows.proofs.PastArrowLawful.{past_arrows_are_lawful}
use Rattle.mini_rows.specs.Switches.{Liberties}

pub past_code_lawful : (K : Shape → Bool) (W : Liberties) (S : BodySets) → LawfulUnder K W.writable S (λ p t u. PastFunction S W p t u ⊎ PastArrow S W p t u)
past_code_lawful K W S = steady_join (PastFunction S W) (PastArrow S W) K W.writable S (past_is_lawful K W S) (past_arrows_are_lawful K W S)

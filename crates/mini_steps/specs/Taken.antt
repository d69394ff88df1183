-- A step that was taken, and counted where it changed something.
use Rattle.std.specs.Prelude.{ℕ, suc, ◌≡◌, Bool, if◌then◌else◌}
use Rattle.mini_model.specs.declared.place.Position.TheVariants.{Elsewhere}
use Rattle.mini_model.specs.Tree.{Tree}
use Rattle.mini_steps.specs.declared.names.RuleName.{RuleName}
use Rattle.mini_steps.specs.declared.names.Step.{Step}
use Rattle.mini_steps.specs.Called.{Relation}
use Rattle.mini_steps.specs.Steps.{AtPath}

pub record Taken (G : RuleName → Relation) (s : Step) (t u : Tree) (before after : ℕ) : Type 0 where
  pub changed : Bool
  pub step : AtPath (G s.rule) s.at Elsewhere t u changed
  pub counted : after ≡ (if changed then suc before else before)

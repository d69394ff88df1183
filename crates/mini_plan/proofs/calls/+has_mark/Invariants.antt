use Rattle.serde_json.specs.View.{view}
use Rattle.mini_plan.proofs.Marks.{size}
use Rattle.mini_plan.proofs.calls.+has_mark.Given as goal

abbrev pub decreases-has_mark : goal.decreases-has_mark
decreases-has_mark l = size (view l.value.now)

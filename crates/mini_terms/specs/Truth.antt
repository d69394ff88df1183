-- Truth: whether an expression counts as true, where that is known from its text.
use Rattle.std.specs.Prelude.{Bool, true, Option, Some, None}
use Rattle.mini_model.specs.Tree.{Tree}
use Rattle.mini_laws.specs.Value.{Value, truth}
use Rattle.mini_terms.specs.Kind.{Kind, IsObject, kind}
use Rattle.mini_terms.specs.Const.{const}

abbrev pub truth_by : Option Value → Kind → Option Bool
truth_by (Some v) k = Some (truth v)
truth_by None IsObject = Some true
truth_by None k = None

-- of the constant, and true where the Kind is Object
abbrev pub truth_of : Tree → Option Bool
truth_of n = truth_by (const n) (kind n)

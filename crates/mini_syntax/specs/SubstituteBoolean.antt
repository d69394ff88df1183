-- 65, `substitute_boolean`: `true` becomes `!0`, `false` becomes `!1`.
use Rattle.std.specs.Prelude.{Bool, Option, Some, None}
use Rattle.mini_model.specs.Tree.{Tree}
use Rattle.mini_node.specs.Kinds.{boolean}
use Rattle.mini_rows.specs.Spellings.{negated_digit}

abbrev pub digit_of : Option Bool → Option Tree
digit_of (Some b) = Some (negated_digit b)
digit_of None = None

abbrev pub written : Tree → Option Tree
written t = digit_of (boolean t)

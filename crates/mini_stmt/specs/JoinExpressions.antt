-- 66: `a; b;` becomes `a, b;`.
use Rattle.mini_model.specs.Tree.{Tree, expression_statement}
use Rattle.mini_node.specs.Children.{part}
use Rattle.mini_stmt.specs.Terms.{joined}

-- of the statements `a;` and `b;`
abbrev pub joined_expressions : Tree → Tree → Tree
joined_expressions t u = expression_statement (joined (part t 0) (part u 0))

-- Terms of the rewrites of lists of statements.
use Rattle.std.specs.Prelude.{Bool, true, false, ◌&&◌, if◌then◌else◌}
use Rattle.mini_model.specs.Tree.{Tree, Trees, none, ◌▸◌, shape_of, children}
use Rattle.mini_model.specs.Paths.{append}
use Rattle.mini_node.specs.Children.{part}
use Rattle.mini_node.specs.Kinds.{is_sequence_shape, is_sequence, is_expression_statement, sequence}
use Rattle.mini_rows.specs.Lists.{is_one_part}

abbrev pub has_two : Trees → Bool
has_two (t ▸ (u ▸ ts)) = true
has_two _ = false

-- an expression by itself, or a sequence of two parts or more
abbrev pub is_joinable : Tree → Bool
is_joinable e = if is_sequence_shape (shape_of e) then is_sequence e && has_two (children (part e 0)) else is_one_part e

-- the parts of a sequence; any other expression is one
abbrev pub parts_of : Tree → Trees
parts_of e = if is_sequence e then children (part e 0) else e ▸ none

-- `a, b`, of which each may be a sequence
abbrev pub joined : Tree → Tree → Tree
joined a b = sequence (append (parts_of a) (parts_of b))

-- `a;`
abbrev pub is_joinable_statement : Tree → Bool
is_joinable_statement t = is_expression_statement t && is_joinable (part t 0)

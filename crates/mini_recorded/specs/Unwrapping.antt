-- When a block in a branch or a body becomes its one statement.
use Rattle.std.specs.Prelude.{ℕ, Bool, ◌&&◌, nat_eq}
use Rattle.mini_model.specs.Tree.{Tree, count, shape_of, children}
use Rattle.mini_node.specs.Children.{part, is_bare}
use Rattle.mini_node.specs.Kinds.{is_block}
use Rattle.mini_log.specs.ListRows.{is_branch, arity, stands_bare}

-- the child at a place is a branch or a body
abbrev pub holds_branch : Tree → ℕ → Bool
holds_branch t k = is_branch (shape_of t) k && is_bare t (arity (shape_of t))

-- a block of one statement
abbrev pub holds_one : Tree → Bool
holds_one t = is_block t && nat_eq (count (children (part t 0))) 1

abbrev pub unwraps : Tree → ℕ → Bool
unwraps t k = holds_branch t k && (holds_one (part t k) && stands_bare (shape_of t) k (part (part (part t k) 0) 0))

-- Rewrites and readers that stand in larger ones, each by itself.
use Rattle.std.specs.Prelude.{Bool, false, not, ◌&&◌, Option, Some, None, if◌then◌else◌}
use Rattle.mini_model.specs.Tree.{Tree}
use Rattle.mini_node.specs.Children.{part, names_of}
use Rattle.mini_node.specs.Kinds.{is_identifier}
use Rattle.mini_rows.specs.Chains.{chain}
use Rattle.mini_choices.specs.Assigning.{assigns_name, is_declared}
use Rattle.mini_choices.specs.ChainLinks.{is_chain, outcome, folded, wrapped}
use Rattle.mini_choices.specs.InjectOptionalChaining.{is_eval, is_spine, optional_over}

-- 64, `substitute_chain_expression`: an optional link over a chain takes what that holds, and no
-- mark goes
abbrev pub chain_written : Tree → Option Tree
chain_written t = if is_chain t then wrapped (outcome false (part t 0)) (folded false (part t 0)) else None

-- the name, or the one that `=` assigns to
abbrev pub assigned_name : Tree → Option Tree
assigned_name t = if is_identifier t then Some t else (if assigns_name t then Some (part t 0) else None)

-- 46, `inject_optional_chaining_if_matched`: links over the name, which a scope declares, and which
-- isn't `eval`
abbrev pub reads_target : Tree → Tree → Bool
reads_target x t = is_identifier x && (is_declared x && (not (is_eval (names_of x)) && is_spine x t))

-- over the value in place of the name, of which the first is optional
abbrev pub injected : Tree → Tree → Tree → Tree
injected x v t = if reads_target x t then chain (optional_over v t) else t

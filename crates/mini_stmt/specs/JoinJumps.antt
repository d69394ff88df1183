-- 73: `if (a) return b; return c;` becomes `return a ? b : c;`, and `throw` likewise;
-- `if (a) return; return;` becomes `a; return;`.
use Rattle.std.specs.Prelude.{Bool, not, ◌&&◌, ◌||◌}
use Rattle.mini_model.specs.Tree.{Tree, is_absent, conditional, expression_statement}
use Rattle.mini_node.specs.Children.{part}
use Rattle.mini_node.specs.Kinds.{is_absent_part, is_if_alone, is_return_statement, is_throw_statement, return_statement, throw_statement}
use Rattle.mini_rows.specs.Lists.{or_void}
use Rattle.mini_rows.specs.Nesting.{may_sink}

-- an argument; or none, and nothing in its place
abbrev pub is_whole : Tree → Bool
is_whole b = is_absent_part b || not (is_absent b)

-- `if (a) return b;` or `if (a) return;`
abbrev pub guards_return : Tree → Bool
guards_return t = is_if_alone t && (is_return_statement (part t 1) && is_whole (part (part t 1) 0))

-- `if (a) throw b;`
abbrev pub guards_throw : Tree → Bool
guards_throw t = is_if_alone t && (is_throw_statement (part t 1) && is_whole (part (part t 1) 0))

-- an argument that the other one may be joined to
abbrev pub is_answer : Tree → Bool
is_answer c = not (is_absent c) && may_sink c

-- `return c;`
abbrev pub returns_answer : Tree → Bool
returns_answer u = is_return_statement u && is_answer (part u 0)

-- `throw c;`
abbrev pub throws_answer : Tree → Bool
throws_answer u = is_throw_statement u && is_answer (part u 0)

-- `return;`
abbrev pub returns_nothing : Tree → Bool
returns_nothing u = is_return_statement u && is_absent_part (part u 0)

-- `a ? b : c`
abbrev pub choice : Tree → Tree → Tree
choice t u = conditional (part t 0) (or_void (part (part t 1) 0)) (part u 0)

abbrev pub joined_returns : Tree → Tree → Tree
joined_returns t u = return_statement (choice t u)

abbrev pub joined_throws : Tree → Tree → Tree
joined_throws t u = throw_statement (choice t u)

-- `a;`, of `if (a) return;`
abbrev pub test_alone : Tree → Tree
test_alone t = expression_statement (part t 0)

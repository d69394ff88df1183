use Rattle.mini_steady.specs.Declarations.{known_of}
use Rattle.mini_lexical.proofs.Joined.{here_applied}
use Rattle.mini_lexical.proofs.names.LexicalNamesOwnRewrites.rewrite.Goals as goal

pub returns-in_ok-minimize_lexical_statement-in-Stmt : goal.returns-in_ok-minimize_lexical_statement-in-Stmt
returns-in_ok-minimize_lexical_statement-in-Stmt g c =
    here_applied (known_of (g.S.SteadyNames.sets c.args.steady.now) c.args.body.now) c.args.place _ _ _ c.in_ok-minimize_lexical_statement-in-Stmt.ensures c.in-Stmt.field-0 c.in-Stmt.is

use Rattle.std.proofs.Common.{◌≡◌, ◌++◌, drop}
use Rattle.serde_json.specs.View.{items_view}
use Rattle.mini_accept.specs.Statements.{directives_of}
use Rattle.mini_estree.proofs.head.directives.Given as goal

abbrev pub invariant-loop-statement : goal.invariant-loop-statement
invariant-loop-statement l = directives_of (items_view l.statements) ≡ l.texts ++ directives_of (items_view (drop l.statement-index l.statements))

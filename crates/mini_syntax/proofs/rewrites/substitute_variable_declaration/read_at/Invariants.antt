use Rattle.std.proofs.Common.{◌≡◌}
use Rattle.mini_node.specs.Children.{rest_children}
use Rattle.mini_syntax.specs.SubstituteVariableDeclaration.{is_read, any_of}
use Rattle.mini_syntax.proofs.rewrites.substitute_variable_declaration.read_at.Given as goal

abbrev pub invariant-loop-at : goal.invariant-loop-at
invariant-loop-at l = any_of is_read (rest_children l.at l.statements) ≡ any_of is_read l.statements

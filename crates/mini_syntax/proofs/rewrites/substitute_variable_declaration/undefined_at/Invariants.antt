use Rattle.std.proofs.Common.{◌≡◌}
use Rattle.mini_node.specs.Children.{rest_children}
use Rattle.mini_syntax.specs.SubstituteVariableDeclaration.{begins_undefined, any_of}
use Rattle.mini_syntax.proofs.rewrites.substitute_variable_declaration.undefined_at.Given as goal

abbrev pub invariant-loop-at : goal.invariant-loop-at
invariant-loop-at l = any_of begins_undefined (rest_children l.at l.declarators) ≡ any_of begins_undefined l.declarators

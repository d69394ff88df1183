use Rattle.mini_node.specs.Children.{trees_of}
use Rattle.mini_grammar.proofs.Nameless.{fixed_kept}
use Rattle.mini_grammar.proofs.rules.fixed_over.Goals as goal

pub returns-in_default : goal.returns-in_default
returns-in_default c = fixed_kept c.args.rule (trees_of c.args.parts.now) c.in_default.not-Arrow c.in_default.not-ClassPlain c.in_default.not-ClassMethod c.in_default.not-ClassComputedMethod c.in_default.not-Defaulted c.in_default.not-Rest c.in_default.not-Yield c.in_default.not-For c.in_default.not-ForIn c.in_default.not-ForOf c.in_default.not-MethodProperty c.in_default.not-ComputedMethod c.in_default.not-Case c.in_default.not-CatchParam c.in_default.not-ImportAs c.in_default.not-ForwardAs c.in_default.not-ExportDeclared c.in_default.not-ExportValue

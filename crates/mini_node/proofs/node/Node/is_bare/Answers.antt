use Rattle.std.proofs.Common.{◌∙◌, sym, ap}
use Rattle.mini_model.specs.Tree.{count, children}
use Rattle.mini_node.proofs.Lists.{nameless_bare}
use Rattle.mini_node.proofs.node.Node.is_bare.Goals as goal

pub returns-then-is_nameless-clause-kind : goal.returns-then-is_nameless-clause-kind
returns-then-is_nameless-clause-kind c = nameless_bare c.args.self.now c.args.arity c.len.result (sym c.is_nameless.ensures ∙ c.if-is_nameless.true) (c.len.ensures ∙ ap (λ t. count (children t)) c.self.view_is)

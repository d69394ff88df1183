use Rattle.std.proofs.Common.{sym}
use Rattle.mini_model.specs.Tree.{children, empty_statement as is_nothing}
use Rattle.mini_unused.specs.Allowed.{switches_of}
use Rattle.mini_unused.specs.RemoveUnusedDeclaration.{allowed, open_in}
use Rattle.mini_unused.proofs.NextUses.{declares_there, next_declares_there}
use Rattle.mini_inside.proofs.Heads.{next_gone, none_by_next, seen_by_eval}
use Rattle.mini_inside.proofs.for_heads.substitute_next_in_head.Goals as goal

pub returns-then-has_eval : goal.returns-then-has_eval
returns-then-has_eval c = seen_by_eval (switches_of c.args.context.now.options) c.args.node.now (sym c.if-has_eval.ensures)

pub substitute_next-requires-clause-declares : goal.substitute_next-requires-clause-declares
substitute_next-requires-clause-declares c = declares_there (open_in is_nothing (allowed c.args.context.now)) is_nothing (children c.args.node.now) 0 c.in-Some.which c.in-Some.ensures

pub substitute_next-requires-clause-next_declares : goal.substitute_next-requires-clause-next_declares
substitute_next-requires-clause-next_declares c = next_declares_there (open_in is_nothing (allowed c.args.context.now)) is_nothing (children c.args.node.now) 0 c.in-Some.which c.in-Some.ensures

pub returns-else-has_eval : goal.returns-else-has_eval
returns-else-has_eval c = next_gone (allowed c.args.context.now) c.args.node.now c.in-Some.which c.requires.head c.in-Some.ensures (sym c.if-has_eval.ensures) c.substitute_next.new.list c.substitute_next.ensures

pub returns-in-None : goal.returns-in-None
returns-in-None c = none_by_next (allowed c.args.context.now) c.args.node.now c.requires.head c.in-None.ensures

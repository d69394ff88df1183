use Rattle.std.proofs.Common.{take}
use Rattle.mini_context.specs.Enclosing.{PutNames}
use Rattle.mini_context.proofs.params.put_names.Given as goal

abbrev pub invariant-loop-name : goal.invariant-loop-name
invariant-loop-name l = PutNames l.function (take l.name-index l.names) l.initial.lists.items l.lists.items

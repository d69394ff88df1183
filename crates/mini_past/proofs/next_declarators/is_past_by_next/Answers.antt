use Rattle.mini_model.specs.Tree.{children}
use Rattle.mini_past.proofs.StillTold.{read_told}
use Rattle.mini_past.proofs.next_declarators.is_past_by_next.Goals as goal

pub is_past_by-requires-clause-told : goal.is_past_by-requires-clause-told
is_past_by-requires-clause-told g c = read_told c.args.lets.now c.args.statements.now (children c.args.list.now) c.children-declarators.result.now c.args.at c.args.which c.children-declarators.ensures c.requires.told

use Rattle.mini_model.specs.Tree.{children}
use Rattle.mini_past.proofs.StillTold.{read_told}
use Rattle.mini_past.proofs.searching.is_past_declarator.Goals as goal

pub is_read_past-requires-clause-told : goal.is_read_past-requires-clause-told
is_read_past-requires-clause-told g c = read_told c.args.lets.now c.args.statements.now (children c.args.list.now) c.children.result.now c.args.at c.args.which c.children.ensures c.requires.told

use Rattle.mini_context.proofs.Spellings.{all_told}
use Rattle.mini_context.proofs.catching.table_of.Goals as goal

pub returns : goal.returns
returns c s = all_told c.new-table.result c.add_all.new.scope c.args.names.items c.new-table.ensures c.in_ok-add_all.ensures s

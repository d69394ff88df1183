use Rattle.std.specs.Prelude.{length}
use Rattle.mini_context.proofs.Foreigns.{tables_foreign}
use Rattle.mini_context.proofs.Shares.{tables_share}
use Rattle.mini_context.proofs.laws.refresh_tells.Goals as goal

pub returns : goal.returns
returns c old new t w s b h = (tables_share new (length old.reads) t w.told.looked s b h, tables_foreign new (length old.reads) t w.told.looked s b h)

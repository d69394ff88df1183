use Rattle.std.proofs.Common.{refl}
use Rattle.mini_context.proofs.Told.{from_blank}
use Rattle.mini_context.proofs.scopes.Scopes.of.Goals as goal

pub returns : goal.returns
returns c = record {
  told = c.in_ok-look_at.ensures c.mark_tops.new.tops.items;
  tops_told = from_blank c.args.symbols _ _ c.mark_tops.new.tops.items refl c.in_ok-mark_tops.ensures;
}

use Rattle.mini_unused.proofs.Rare.{counted_covers}
use Rattle.mini_unused.proofs.tallies.count_list.Goals as goal

pub returns : goal.returns
returns c = counted_covers c.args.by_symbol c.args.outside.now c.args.list.now c.args.buckets c.in_ok-counts.counts.items c.count_names.new.counts.items c.count_names-2.new.counts.items c.in_ok-counts.ensures c.count_names.ensures c.count_names-2.ensures

use Rattle.std.proofs.Common.{◌<◌, ◌≤◌, arith}
use Rattle.std.specs.Prelude.{length}
use Rattle.mini_model.specs.Tree.{count}
use Rattle.mini_node.specs.Children.{names}
use Rattle.mini_unused.specs.Tallies.{bucket, tally, tallies}
use Rattle.mini_unused.proofs.Rare.{counted_none, counted_on, counted_end, counted_node, same_buckets}
use Rattle.mini_unused.proofs.tallies.+counting.Goals as goal

pub count_names-returns : goal.count_names-returns
count_names-returns t c =
    let cs = c.args.counts.now.items in
    let ds = c.count_own.new.counts.items in
    let es = c.count_all.new.counts.items in
    let ts = c.children.result.now in
    counted_node (bucket c.args.by_symbol (length cs)) cs c.args.node.now (names c.name.result.now) ts ds es c.name.ensures c.children.ensures c.count_own.ensures
    (same_buckets c.args.by_symbol (λ f b. tallies f b ts) cs ds es c.count_own.ensures.buckets c.count_all.ensures)

pub count_all-loop-at-init : goal.count_all-loop-at-init
count_all-loop-at-init t c = counted_none (bucket c.args.by_symbol (length c.args.counts.now.items)) c.args.counts.now.items c.args.nodes.now

pub count_all-loop-at-preserved : goal.count_all-loop-at-preserved
count_all-loop-at-preserved t c =
    let cs = c.args.counts.now.items in
    let ds = c.loop-at.counts.items in
    let es = c.count_names.new.counts.items in
    let child = c.child.result.now in
    let at = c.loop-at.at in
    let inside : at < count c.args.nodes.now = omega arith in
    counted_on (bucket c.args.by_symbol (length cs)) cs c.args.nodes.now at _ child ds es (omega arith) inside c.child.ensures.value c.loop-at.invariant
    (same_buckets c.args.by_symbol (λ f b. tally f b child) cs ds es c.loop-at.invariant.buckets c.count_names.ensures)

pub count_all-returns : goal.count_all-returns
count_all-returns t c =
    let over : count c.args.nodes.now ≤ c.loop-at.at = omega arith in
    counted_end (bucket c.args.by_symbol (length c.args.counts.now.items)) c.args.counts.now.items c.args.nodes.now c.loop-at.at c.loop-at.counts.items over c.loop-at.invariant

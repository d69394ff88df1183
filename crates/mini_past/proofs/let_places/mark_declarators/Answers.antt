use Rattle.std.proofs.Common.{◌<◌, arith}
use Rattle.mini_model.specs.Tree.{count}
use Rattle.mini_past.proofs.FirstPlaces.{placed_none, placed_on}
use Rattle.mini_past.proofs.let_places.mark_declarators.Goals as goal

pub loop-at-init : goal.loop-at-init
loop-at-init c = placed_none c.args.by_let c.args.is_lexical c.args.declarators.now c.args.places.now

pub loop-at-preserved : goal.loop-at-preserved
loop-at-preserved c =
    let inside : c.loop-at.at < count c.args.declarators.now = omega arith in
    placed_on c.args.by_let c.args.is_lexical c.args.declarators.now c.args.places.now c.loop-at.places c.mark_there.new.places c.loop-at.at _ c.child.result.now (omega arith) inside c.child.ensures.value c.loop-at.invariant c.in_ok-mark_there.ensures

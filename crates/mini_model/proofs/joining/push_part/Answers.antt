use Rattle.std.proofs.Common.{sym, ap, ◌∙◌, get_or}
use Rattle.mini_model.specs.Joined.{ending_with, ending_of}
use Rattle.mini_model.proofs.Ends.{ending_of-more, push_more}
use Rattle.mini_model.proofs.joining.push_part.Goals as goal

pub loop-unit-preserved : goal.loop-unit-preserved
loop-unit-preserved c =
    let unit = get_or c.args.part.now c.loop-unit.unit-index 0 in
    record {
      left = push_more c.loop-unit.raw c.push.new.self c.args.part.now _ c.loop-unit.unit-index c.loop-unit-test.true c.in_ok-push.ensures.ok c.loop-unit.invariant.left;
      ends =
          c.tail_with-tail.ensures ∙ ap (λ ending. ending_with ending unit) c.loop-unit.invariant.ends
          ∙ sym (ap ending_of c.in_ok-push.ensures.ok ∙ ending_of-more c.loop-unit.raw unit);
    }

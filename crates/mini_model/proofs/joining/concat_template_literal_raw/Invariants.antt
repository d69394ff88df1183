-- What was joined, with the parts that are left, is all of them joined; and the tail says how it ends.
use Rattle.std.proofs.Common.{◌≡◌, drop}
use Rattle.mini_model.specs.Joined.{ending_of, with_parts, joined}
use Rattle.mini_model.specs.Tails.{ending_at}
use Rattle.mini_model.proofs.joining.concat_template_literal_raw.Given as goal

abbrev pub invariant-loop-part : goal.invariant-loop-part
invariant-loop-part l = record {
  left : with_parts l.raw (drop l.part-index l.parts) ≡ joined l.parts;
  ends : ending_at l.tail ≡ ending_of l.raw;
}

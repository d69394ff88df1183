-- What is known of the words so far.
use Rattle.std.proofs.Common.{◌≡◌, map, take, length}
use Rattle.std.specs.Prelude.{string_bytes}
use Rattle.mini_run.proofs.Reading.{IsRead}
use Rattle.mini_run.proofs.choice.read_orders.Given as goal

abbrev pub invariant-words : goal.invariant-words
invariant-words l = record {
  read : IsRead (take l.word-index (map string_bytes l.word-items)) l.slots;
  ten : length l.slots ≡ 10;
}

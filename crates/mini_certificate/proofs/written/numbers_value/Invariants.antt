use Rattle.std.proofs.Common.{◌≡◌, map, take}
use Rattle.serde_json.specs.Data.{unsigned, number}
use Rattle.serde_json.specs.View.{view}
use Rattle.mini_certificate.specs.Logs.{AreSmall}
use Rattle.mini_certificate.proofs.written.numbers_value.Given as goal

abbrev pub invariant-loop-number : goal.invariant-loop-number
invariant-loop-number l = record {
  values : map view l.values.items ≡ map (λ n. number (unsigned n)) (take l.number-index l.number-items);
  small : AreSmall (take l.number-index l.number-items);
}

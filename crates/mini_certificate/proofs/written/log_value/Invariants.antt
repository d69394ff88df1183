use Rattle.std.proofs.Common.{◌≡◌, map, take}
use Rattle.serde_json.specs.View.{view}
use Rattle.mini_certificate.specs.Logs.{entry_data, HaveSmall}
use Rattle.mini_certificate.proofs.written.log_value.Given as goal

abbrev pub invariant-loop-entry : goal.invariant-loop-entry
invariant-loop-entry l = record {
  values : map view l.values.items ≡ map entry_data (take l.entry-index l.entry-items);
  small : HaveSmall (take l.entry-index l.entry-items);
}

use Rattle.std.proofs.Common.{◌≡◌, drop}
use Rattle.serde_json.specs.View.{items_view}
use Rattle.mini_certificate.specs.Logs.{entries_from}
use Rattle.mini_certificate.proofs.Items.{onto}
use Rattle.mini_certificate.proofs.entries.read_entries.Given as goal

abbrev pub invariant-loop-index : goal.invariant-loop-index
invariant-loop-index l = entries_from 0 (items_view l.values) ≡ onto l.log (entries_from l.index (items_view (drop l.index l.values)))

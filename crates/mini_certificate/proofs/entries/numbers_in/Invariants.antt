use Rattle.std.proofs.Common.{◌≡◌, drop}
use Rattle.serde_json.specs.View.{items_view}
use Rattle.mini_certificate.specs.Logs.{numbers_in}
use Rattle.mini_certificate.proofs.Items.{behind}
use Rattle.mini_certificate.proofs.entries.numbers_in.Given as goal

abbrev pub invariant-loop-value : goal.invariant-loop-value
invariant-loop-value l = numbers_in (items_view l.values) ≡ behind l.path (numbers_in (items_view (drop l.value-index l.values)))

use Rattle.mini_rows.proofs.Latest.{latest_has_each}
use Rattle.mini_rows.proofs.redexes.latest_edition_has_each_row.Goals as goal

pub returns : goal.returns
returns c = latest_has_each

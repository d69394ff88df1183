-- No float is written.
use Rattle.std.proofs.Common.{◌≡◌, ℕ, List, [], ◌∷◌, map, refl, false}
use Rattle.serde_json.specs.Data.{Data, number, unsigned, object, member, no_members}
use Rattle.serde_json.specs.View.{items_of}
use Rattle.serde_json.specs.Written.{has_float, items_have_float}
use Rattle.std.specs.Prelude.{codes}
use Rattle.mini_model.specs.Tree.{Tree}
use Rattle.mini_checker.specs.declared.log.LogEntry.{LogEntry}
use Rattle.mini_certificate.specs.Certificates.{last_data}
use Rattle.mini_certificate.specs.Logs.{entry_data, log_data}
use Rattle.mini_certificate.proofs.Floats.{program_plain}

numbers_plain : (ns : List ℕ) → items_have_float (items_of (map (λ n. number (unsigned n)) ns)) ≡ false
numbers_plain [] = refl
numbers_plain (n ∷ ns) = numbers_plain ns

log_plain : (log : List LogEntry) → items_have_float (items_of (map entry_data log)) ≡ false
log_plain [] = refl
log_plain (x ∷ log) = rw (numbers_plain x.at, log_plain log) refl

pub last_plain : (u : Tree) → has_float (last_data u) ≡ false
last_plain u = rw (program_plain u) refl

pub certificate_plain : (d : Data) (log : List LogEntry) → has_float d ≡ false → has_float (object (member (codes "log") (log_data log) (member (codes "program") d no_members))) ≡ false
certificate_plain d log plain = rw (log_plain log, plain) refl

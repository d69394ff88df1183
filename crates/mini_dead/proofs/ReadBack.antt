-- A program that lost dead items, written and read again, is the program that was written, with
-- other numbers and symbols.
use Rattle.std.proofs.Common.{◌≡◌, ℕ}
use Rattle.mini_model.specs.Tree.{Tree}
use Rattle.mini_laws.specs.Resolved.{resolved_program}
use Rattle.mini_kept.proofs.ReadBack.{IsRead, IsReadBack, read_back}
use Rattle.mini_kept.proofs.Texts.{text}
use Rattle.mini_dead.specs.Drops.{DropsAgain}
use Rattle.mini_dead.proofs.KeptNames.{drops_keep_names}

pub dropped_read_back : (t v u : Tree) (n m k : ℕ) → IsRead t n → IsRead u m → DropsAgain (resolved_program t) v k → text u ≡ text v → IsReadBack t v u
dropped_read_back t v u n m k a b w e = let names = drops_keep_names (resolved_program t) v k w in read_back t v u n m a b names.keeps names.root e

use Rattle.std.proofs.Common.{◌≢◌, ◌<◌, ℕ, [], map, get_or, string_bytes}
use Rattle.mini_run.proofs.words.place_of.Given as goal

abbrev pub invariant-words : goal.invariant-words
invariant-words l = (k : ℕ) → k < l.at → get_or (map string_bytes l.fn.words) k [] ≢ l.fn.word

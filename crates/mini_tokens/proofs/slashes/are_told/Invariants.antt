use Rattle.std.proofs.Common.{◌≡◌, drop, true}
use Rattle.mini_tokens.proofs.Slashed.{clear}
use Rattle.mini_tokens.proofs.slashes.are_told.Given as goal

abbrev pub invariant-loop-token : goal.invariant-loop-token
invariant-loop-token l = clear l.plain (drop l.token-index l.items) ≡ clear true l.items

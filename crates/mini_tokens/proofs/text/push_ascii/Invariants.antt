use Rattle.std.proofs.Common.{◌≡◌, ◌++◌, take}
use Rattle.mini_tokens.proofs.text.push_ascii.Given as goal

abbrev pub invariant-loop-byte : goal.invariant-loop-byte
invariant-loop-byte l = l.text ≡ l.initial.text ++ take l.byte-index l.bytes

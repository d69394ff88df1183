use Rattle.std.proofs.Common.{◌≡◌, ℕ, drop}
use Rattle.mini_accept.specs.Literals.{digits_from}
use Rattle.mini_fields.specs.Literals.{capped}
use Rattle.mini_fields.proofs.literals.digits_value.Given as goal

abbrev pub invariant-loop-byte : goal.invariant-loop-byte
invariant-loop-byte l = (n : ℕ) × ((l.number ≡ capped n) × (digits_from 0 l.byte-items ≡ digits_from n (drop l.byte-index l.byte-items)))

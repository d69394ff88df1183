use Rattle.std.proofs.Common.{◌≡◌, length, drop, true}
use Rattle.std.specs.Str.{chars}
use Rattle.mini_fields.specs.Names.{is_name_from}
use Rattle.mini_fields.proofs.names.is_name.Given as goal

abbrev pub invariant-loop-ch : goal.invariant-loop-ch
invariant-loop-ch l = is_name_from true (chars l.text) ≡ is_name_from l.first (drop (length l.yielded) (chars l.text))

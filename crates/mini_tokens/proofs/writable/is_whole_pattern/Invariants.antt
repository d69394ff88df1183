use Rattle.std.proofs.Common.{◌≡◌, drop}
use Rattle.mini_print.specs.Text.{Outside, is_whole_pattern}
use Rattle.mini_tokens.specs.Writable.{mode_of}
use Rattle.mini_tokens.proofs.writable.is_whole_pattern.Given as goal

abbrev pub invariant-loop-unit : goal.invariant-loop-unit
invariant-loop-unit l = is_whole_pattern (mode_of l.mode) (drop l.unit-index l.pattern) ≡ is_whole_pattern Outside l.pattern

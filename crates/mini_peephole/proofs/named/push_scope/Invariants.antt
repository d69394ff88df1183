use Rattle.std.proofs.Common.{◌≡◌, ◌++◌, drop}
use Rattle.mini_laws.specs.Symbols.{symbols_in}
use Rattle.mini_kept.specs.Carried.{symbol_numbers}
use Rattle.mini_peephole.proofs.named.push_scope.Given as goal

abbrev pub invariant-loop-binding : goal.invariant-loop-binding
invariant-loop-binding l = l.found ++ symbol_numbers (symbols_in (drop l.binding-index l.scope)) ≡ l.initial.found ++ symbol_numbers (symbols_in l.scope)

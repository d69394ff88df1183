use Rattle.std.proofs.Common.{◌≡◌, ◌+◌, ◌-◌, ℕ, vec_len}
use Rattle.mini_context.specs.Lists.{holds}
use Rattle.mini_context.proofs.params.reach_list.Given as goal

abbrev pub invariant-reaching : goal.invariant-reaching
invariant-reaching l = (b j : ℕ) → holds l.lists.items b j ≡ holds l.initial.lists.items b j

abbrev pub decreases-reaching : goal.decreases-reaching
decreases-reaching l = l.at + 1 - vec_len l.lists

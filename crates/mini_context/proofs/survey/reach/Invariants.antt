use Rattle.std.proofs.Common.{◌≡◌, ◌+◌, ◌-◌, ℕ, vec_len}
use Rattle.mini_context.specs.Tables.{mark_at}
use Rattle.mini_context.proofs.survey.reach.Given as goal

abbrev pub invariant-reaching : goal.invariant-reaching
invariant-reaching l = (k : ℕ) → mark_at l.marks.items k ≡ mark_at l.initial.marks.items k

abbrev pub decreases-reaching : goal.decreases-reaching
decreases-reaching l = l.at + 1 - vec_len l.marks

use Rattle.mini_calls.proofs.OwnChoices.{rotated_own, decided_own, last_own, comparison_own, object_own, both_own, combined_own, zero_own, shared_own, held_own, chains_own, folded_own, link_own, logical_assignment_own, nullish_assigned_own, assigned_own, assigned_chain_own}
use Rattle.mini_calls.proofs.laws.choices_are_own_rows.Goals as goal

pub returns-clause-rotated : goal.returns-clause-rotated
returns-clause-rotated c = rotated_own

pub returns-clause-decided : goal.returns-clause-decided
returns-clause-decided c = decided_own

pub returns-clause-decided_last : goal.returns-clause-decided_last
returns-clause-decided_last c = last_own

pub returns-clause-nullish : goal.returns-clause-nullish
returns-clause-nullish c = comparison_own

pub returns-clause-object : goal.returns-clause-object
returns-clause-object c = object_own

pub returns-clause-both : goal.returns-clause-both
returns-clause-both c = both_own

pub returns-clause-combined : goal.returns-clause-combined
returns-clause-combined c = combined_own

pub returns-clause-first : goal.returns-clause-first
returns-clause-first c = zero_own

pub returns-clause-branches : goal.returns-clause-branches
returns-clause-branches c = shared_own

pub returns-clause-held : goal.returns-clause-held
returns-clause-held c = held_own

pub returns-clause-optional : goal.returns-clause-optional
returns-clause-optional c = chains_own

pub returns-clause-chain : goal.returns-clause-chain
returns-clause-chain c = folded_own

pub returns-clause-link : goal.returns-clause-link
returns-clause-link c = link_own

pub returns-clause-combined_logical : goal.returns-clause-combined_logical
returns-clause-combined_logical c = logical_assignment_own

pub returns-clause-nullish_assigned : goal.returns-clause-nullish_assigned
returns-clause-nullish_assigned c = nullish_assigned_own

pub returns-clause-assigned : goal.returns-clause-assigned
returns-clause-assigned c = assigned_own

pub returns-clause-assigned_chain : goal.returns-clause-assigned_chain
returns-clause-assigned_chain c = assigned_chain_own

use Rattle.mini_calls.proofs.OwnConstants.{unary_own, operator_own, computed_own}
use Rattle.mini_calls.proofs.OwnLogical.{equality_own, delete_own, length_own}
use Rattle.mini_calls.proofs.OwnOperators.{typeof_own, plus_own, loose_own, bitwise_own, binary_own}
use Rattle.mini_calls.proofs.laws.operators_are_own_rows.Goals as goal

pub returns-clause-typeof_comparison : goal.returns-clause-typeof_comparison
returns-clause-typeof_comparison c = typeof_own

pub returns-clause-plus : goal.returns-clause-plus
returns-clause-plus c = plus_own

pub returns-clause-loose_boolean : goal.returns-clause-loose_boolean
returns-clause-loose_boolean c = loose_own

pub returns-clause-bitwise : goal.returns-clause-bitwise
returns-clause-bitwise c = bitwise_own

pub returns-clause-binary : goal.returns-clause-binary
returns-clause-binary c = binary_own

pub returns-clause-equality : goal.returns-clause-equality
returns-clause-equality c = equality_own

pub returns-clause-deletion : goal.returns-clause-deletion
returns-clause-deletion c = delete_own

pub returns-clause-unary : goal.returns-clause-unary
returns-clause-unary c = unary_own

pub returns-clause-operator : goal.returns-clause-operator
returns-clause-operator c = operator_own

pub returns-clause-length : goal.returns-clause-length
returns-clause-length c = length_own

pub returns-clause-computed_length : goal.returns-clause-computed_length
returns-clause-computed_length c = computed_own

use Rattle.mini_laws.proofs.Missing as lemma
use Rattle.mini_laws.proofs.near_misses.Goals as goal

pub returns-clause-conversion_moves : goal.returns-clause-conversion_moves
returns-clause-conversion_moves c = lemma.conversion_moves

pub returns-clause-operands_swap : goal.returns-clause-operands_swap
returns-clause-operands_swap c = lemma.operands_swap

pub returns-clause-read_moves : goal.returns-clause-read_moves
returns-clause-read_moves c = lemma.read_moves

pub returns-clause-equality_sharpens : goal.returns-clause-equality_sharpens
returns-clause-equality_sharpens c = lemma.equality_sharpens

pub returns-clause-this_appears : goal.returns-clause-this_appears
returns-clause-this_appears c = lemma.this_appears

pub returns-clause-deleted_name : goal.returns-clause-deleted_name
returns-clause-deleted_name c = lemma.deleted_name

pub returns-clause-missing_name : goal.returns-clause-missing_name
returns-clause-missing_name c = lemma.missing_name

pub returns-clause-absent_dropped : goal.returns-clause-absent_dropped
returns-clause-absent_dropped c = lemma.absent_dropped

pub returns-clause-absent_part_dropped : goal.returns-clause-absent_part_dropped
returns-clause-absent_part_dropped c = lemma.absent_part_dropped

pub returns-clause-chain_ends : goal.returns-clause-chain_ends
returns-clause-chain_ends c = lemma.chain_ends

pub returns-clause-key_converts_twice : goal.returns-clause-key_converts_twice
returns-clause-key_converts_twice c = lemma.key_converts_twice

pub returns-clause-target_read_late : goal.returns-clause-target_read_late
returns-clause-target_read_late c = lemma.target_read_late

pub returns-clause-constant_written : goal.returns-clause-constant_written
returns-clause-constant_written c = lemma.constant_written

pub returns-clause-private_target_moves : goal.returns-clause-private_target_moves
returns-clause-private_target_moves c = lemma.private_target_moves

pub returns-clause-write_moves : goal.returns-clause-write_moves
returns-clause-write_moves c = lemma.write_moves

pub returns-clause-finalizer_lost : goal.returns-clause-finalizer_lost
returns-clause-finalizer_lost c = lemma.finalizer_lost

pub returns-clause-finalizer_replaces : goal.returns-clause-finalizer_replaces
returns-clause-finalizer_replaces c = lemma.finalizer_replaces

pub returns-clause-case_skipped : goal.returns-clause-case_skipped
returns-clause-case_skipped c = lemma.case_skipped

pub returns-clause-default_moves : goal.returns-clause-default_moves
returns-clause-default_moves c = lemma.default_moves

pub returns-clause-continue_dropped : goal.returns-clause-continue_dropped
returns-clause-continue_dropped c = lemma.continue_dropped

pub returns-clause-break_dropped : goal.returns-clause-break_dropped
returns-clause-break_dropped c = lemma.break_dropped

pub returns-clause-fresh_lost : goal.returns-clause-fresh_lost
returns-clause-fresh_lost c = lemma.fresh_lost

pub returns-clause-copy_lost : goal.returns-clause-copy_lost
returns-clause-copy_lost c = lemma.copy_lost

pub returns-clause-close_lost : goal.returns-clause-close_lost
returns-clause-close_lost c = lemma.close_lost

pub returns-clause-function_late : goal.returns-clause-function_late
returns-clause-function_late c = lemma.function_late

pub returns-clause-lexical_lost : goal.returns-clause-lexical_lost
returns-clause-lexical_lost c = lemma.lexical_lost

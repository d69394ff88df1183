use Rattle.mini_calls.proofs.OwnKeys.{spelled_own, held_own, key_own, target_own, declared_own, doubled_own}
use Rattle.mini_calls.proofs.laws.keys_are_own_rows.Goals as goal

pub returns-clause-spelled : goal.returns-clause-spelled
returns-clause-spelled c = spelled_own

pub returns-clause-held : goal.returns-clause-held
returns-clause-held c = held_own

pub returns-clause-any : goal.returns-clause-any
returns-clause-any c = key_own

pub returns-clause-target : goal.returns-clause-target
returns-clause-target c = target_own

pub returns-clause-declared : goal.returns-clause-declared
returns-clause-declared c = declared_own

pub returns-clause-doubled : goal.returns-clause-doubled
returns-clause-doubled c = doubled_own

use Rattle.mini_logic.proofs.Joined as lemma
use Rattle.mini_logic.proofs.laws.rules_are_rows.Goals as goal

pub returns-clause-gives : goal.returns-clause-gives
returns-clause-gives c = lemma.gives_contract

pub returns-clause-given : goal.returns-clause-given
returns-clause-given c = lemma.contracts_are_given

pub returns-clause-reaches : goal.returns-clause-reaches
returns-clause-reaches c = lemma.reaches_contract

pub returns-clause-settled : goal.returns-clause-settled
returns-clause-settled c = lemma.rests_settle

pub returns-clause-everywhere : goal.returns-clause-everywhere
returns-clause-everywhere c = lemma.rests_everywhere

pub returns-clause-lawful : goal.returns-clause-lawful
returns-clause-lawful c = lemma.logic_lawful

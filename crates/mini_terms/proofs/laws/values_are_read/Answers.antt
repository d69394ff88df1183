use Rattle.mini_terms.proofs.Reading.{read_by_value, same_by_value, same_item, same_in_seat}
use Rattle.mini_terms.proofs.laws.values_are_read.Goals as goal

pub returns-clause-reads : goal.returns-clause-reads
returns-clause-reads c = read_by_value

pub returns-clause-same : goal.returns-clause-same
returns-clause-same c = same_by_value

pub returns-clause-item : goal.returns-clause-item
returns-clause-item c = same_item

pub returns-clause-seat : goal.returns-clause-seat
returns-clause-seat c = same_in_seat

use Rattle.mini_print.proofs.Compact.{compact_alone, compact_splits}
use Rattle.mini_print.proofs.compact_texts_split_in_one_way.Goals as goal

pub returns-clause-splits : goal.returns-clause-splits
returns-clause-splits c = compact_splits

pub returns-clause-alone : goal.returns-clause-alone
returns-clause-alone c = compact_alone

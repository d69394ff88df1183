use Rattle.mini_texts.proofs.Ordered.{none_to_read}
use Rattle.mini_texts.proofs.options.read_minifying.Goals as goal

pub returns-in-Some : goal.returns-in-Some
returns-in-Some c = none_to_read c.args.words.now c.in_ok-orders.orders _ c.in_ok-orders.ensures c.in-Some.is

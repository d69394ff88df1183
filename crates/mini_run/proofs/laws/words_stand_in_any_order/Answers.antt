use Rattle.mini_run.proofs.AnyOrder.{any_order, orders_in_any_order}
use Rattle.mini_run.proofs.laws.words_stand_in_any_order.Goals as goal

pub returns-clause-orders : goal.returns-clause-orders
returns-clause-orders c = orders_in_any_order

pub returns-clause-options : goal.returns-clause-options
returns-clause-options c = any_order

use Rattle.mini_texts.proofs.running.run_orders.Goals as goal

pub returns-then-orders-clause-due : goal.returns-then-orders-clause-due
returns-then-orders-clause-due g c = rw c.if-orders.true c.run_answering.ensures.due

pub returns-then-orders-clause-answered : goal.returns-then-orders-clause-answered
returns-then-orders-clause-answered g c = rw c.if-orders.true c.run_answering.ensures.answered

pub returns-else-orders-clause-due : goal.returns-else-orders-clause-due
returns-else-orders-clause-due g c = rw c.if-orders.false c.run_answering-else-orders.ensures.due

pub returns-else-orders-clause-answered : goal.returns-else-orders-clause-answered
returns-else-orders-clause-answered g c = rw c.if-orders.false c.run_answering-else-orders.ensures.answered

use Rattle.mini_cli.proofs.Delivered.{due_of}
use Rattle.mini_texts.specs.Options.{NameTextOrders}
use Rattle.mini_texts.specs.Minified.{ordered_task}
use Rattle.mini_texts.proofs.Ordered.{one_choice}
use Rattle.mini_texts.proofs.running.run_text.Goals as goal

pub returns-in-Some-clause-due : goal.returns-in-Some-clause-due
returns-in-Some-clause-due g c = due_of NameTextOrders ordered_task c.run_orders.result c.args.words c.in-Some.orders _ _ _ c.in-Some.ensures c.run_orders.ensures.due

pub returns-in-Some-clause-answered : goal.returns-in-Some-clause-answered
returns-in-Some-clause-answered g c o name valid = c.run_orders.ensures.answered (rw (one_choice c.args.words o c.in-Some.orders name c.in-Some.ensures) at valid)

use Rattle.serde_json.specs.View.{view}
use Rattle.mini_texts.specs.Minified.{HasAnswer}
use Rattle.mini_texts.proofs.Minified.{minified_by, unprinted_by, refused_by}
use Rattle.mini_texts.proofs.minifying.MinifyingAnswering.answer.Goals as goal

made : (c : goal.After-print_answer) → HasAnswer c.args.self.now.options (view c.args.value) c.in-Ok.minified
made c = record { faithful = c.in-Ok.ensures.faithful; passes = c.in-Ok.ensures.passes; minified = c.in-Ok.ensures.rewritten; again = c.in-Ok.ensures.again }

pub returns-in-Ok-clause-answered : goal.returns-in-Ok-clause-answered
returns-in-Ok-clause-answered c = minified_by c.args.self.now.spaced c.args.self.now.options (view c.args.value) c.in-Ok.minified c.print_answer.result (made c) c.print_answer.ensures.printed

pub returns-in-Ok-clause-refused : goal.returns-in-Ok-clause-refused
returns-in-Ok-clause-refused c = unprinted_by c.args.self.now.spaced c.args.self.now.options (view c.args.value) c.in-Ok.minified c.print_answer.result (made c) c.print_answer.ensures.refused

pub returns-in-Err-clause-refused : goal.returns-in-Err-clause-refused
returns-in-Err-clause-refused c = refused_by c.args.self.now.spaced c.args.self.now.options (view c.args.value) c.in-Err.error c.refuse_unread.result c.in-Err.ensures.refused c.refuse_unread.ensures

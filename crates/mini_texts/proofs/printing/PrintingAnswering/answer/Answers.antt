use Rattle.serde_json.specs.View.{view}
use Rattle.mini_texts.proofs.Told.{refused_by}
use Rattle.mini_texts.proofs.printing.PrintingAnswering.answer.Goals as goal

pub returns-clause-refused : goal.returns-clause-refused
returns-clause-refused c =
    let (n, read) = c.in_ok-program.ensures.tree in
    refused_by c.args.self.now.options (view c.args.value) c.in_ok-program.program n c.print_line.result read c.print_line.ensures.refused

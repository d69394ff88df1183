use Rattle.mini_writer.proofs.Counted.{bytes_fit}
use Rattle.mini_cli.proofs.running.settle.Goals as goal

-- what the bytes say is small
pub answer-requires : goal.answer-requires
answer-requires g c = bytes_fit c.args.input.items _ c.requires (rw c.deref.ensures.value at c.in-Ok.ensures.ok.1)

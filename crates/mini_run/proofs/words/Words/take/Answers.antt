use Rattle.std.proofs.Common.{string_bytes, sym}
use Rattle.mini_run.proofs.Taken.{taken_at, none_taken}
use Rattle.mini_run.proofs.words.Words.take.Goals as goal

pub returns-in-Some : goal.returns-in-Some
returns-in-Some c =
    let (below, is, before) = rw c.as_slice.ensures.value at c.in-Some.ensures in
    rw (sym c.self.view_is, c.remove.ensures.items) (taken_at string_bytes c.args.word.now c.self.inside.words.items c.in-Some.at below is before)

pub returns-in-None : goal.returns-in-None
returns-in-None c = rw (sym c.self.view_is) (none_taken string_bytes c.args.word.now c.self.inside.words.items (rw c.as_slice.ensures.value at c.in-None.ensures))

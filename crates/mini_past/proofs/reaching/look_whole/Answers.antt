use Rattle.std.proofs.Common.{sym}
use Rattle.mini_past.proofs.reaching.look_whole.Goals as goal

pub returns-then-not-is_mentioned : goal.returns-then-not-is_mentioned
returns-then-not-is_mentioned g c = sym c.if-not-is_mentioned.ensures

pub returns : goal.returns
returns g c = (sym c.if-not-is_mentioned.ensures, c.are_past_in.ensures)

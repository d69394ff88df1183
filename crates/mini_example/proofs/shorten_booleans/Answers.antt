use Rattle.mini_example.proofs.Booleans.{booleans_faithful}
use Rattle.mini_example.proofs.shorten_booleans.Goals as goal

pub returns : goal.returns
returns c = booleans_faithful _ _ _ c.minify_with.ensures.rewritten

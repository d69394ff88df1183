use Rattle.mini_shrink.proofs.SameForeign as law
use Rattle.mini_shrink.proofs.symbols_are_bound_once.Goals as goal

pub returns : goal.returns
returns g = law.bound_once

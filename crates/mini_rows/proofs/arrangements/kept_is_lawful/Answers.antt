use Rattle.mini_rows.proofs.ArrangedLawful as law
use Rattle.mini_rows.proofs.arrangements.kept_is_lawful.Goals as goal

pub returns : goal.returns
returns g c = law.kept_is_lawful g.R.Rewrites.gives

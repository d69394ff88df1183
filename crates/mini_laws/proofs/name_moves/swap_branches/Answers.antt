use Rattle.std.proofs.Common.{sym, [], ◌++◌}
use Rattle.std.proofs.lemmas.List.{append-nil}
use Rattle.mini_laws.specs.declared.names.Use.TheVariants.{Read}
use Rattle.mini_laws.specs.Scopes.{scopes_by}
use Rattle.mini_laws.specs.Scoped.{Scoped}
use Rattle.mini_laws.proofs.Drops.{moved}
use Rattle.mini_laws.proofs.name_moves.swap_branches.Goals as goal

pub returns : goal.returns
unfolding Scoped scopes_by
returns c = λ u env a b d s.
    let one = env ++ [] in
    let two = one ++ [] in
    (tt, (moved Read _ _ a (append-nil one) s.1.0.1.0, (moved Read _ _ d (append-nil two) s.1.1.1.0, (moved Read _ _ b (sym (append-nil two)) s.1.1.0, tt))))

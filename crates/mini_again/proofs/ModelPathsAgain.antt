-- Lists of trees that are joined and read again.
use Rattle.mini_again.specs.Again.{Renaming, all_again}
use Rattle.mini_model.specs.Paths.{append}
use Rattle.mini_model.specs.Tree.{Trees, none, ◌▸◌}
use Rattle.std.specs.Prelude.{refl, ◌≡◌}

pub append_again : (ρ : Renaming) (ts us : Trees) → append (all_again ρ ts) (all_again ρ us) ≡ all_again ρ (append ts us)
append_again ρ none us = refl
append_again ρ (t ▸ ts) us = simp (append_again ρ ts us)

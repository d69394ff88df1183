-- What tables of names tell of a name that may be read past steady names: it and the read are the
-- only ones in its buckets.
use Rattle.std.specs.Prelude.{◌≡◌, true, List, [], ◌∷◌}
use Rattle.mini_model.specs.declared.name.Name.{Name}
use Rattle.mini_model.specs.Tree.{Tree}
use Rattle.mini_rows.specs.Past.{Kept, are_past}
use Rattle.mini_rows.specs.Unused.{reads_head, evaluated}
use Rattle.mini_unused.specs.declared.tallies.Tallies.{Tallies}
use Rattle.mini_unused.specs.Tallies.{IsRareIn}
use Rattle.mini_past.specs.SubstitutePast.{reads_past_in}

-- a statement reads it at its head
abbrev pub AreRareAtHead : Tallies → Kept → List Name → Tree → Tree → Type 0
AreRareAtHead c H (x ∷ []) r t = IsRareIn c x t × (reads_head x t ≡ true) × (are_past H x r (evaluated t) ≡ true)
AreRareAtHead c H xs r t = ⊥

-- an initializer reads it
abbrev pub AreRareInNext : Tallies → Kept → List Name → Tree → Tree → Type 0
AreRareInNext c H (x ∷ []) r v = IsRareIn c x v × (reads_past_in H x r v ≡ true)
AreRareInNext c H xs r v = ⊥

-- How often the symbols of a program are read and written, once dead items are gone.
use Rattle.std.specs.Prelude.{◌≡◌, ℕ, ◌+◌, List, [], ◌++◌}
use Rattle.mini_model.specs.Tree.{Tree}
use Rattle.mini_laws.specs.declared.names.Use.TheVariants.{Read}
use Rattle.mini_laws.specs.References.{Reference, reads, writes, references, read_count, write_count}
use Rattle.mini_laws.specs.Counts.{times_of}
use Rattle.mini_dead.specs.Pruned.{Pruned, prune, Prunings, end, stays, goes, declarator_goes, item_tree, declarator_tree}
use Rattle.mini_dead.specs.Drops.{Drops, DropsAgain}

-- the references that go with items
abbrev mutual
  pub gone_references : Pruned → List Reference
  gone_references (prune h xs n ps) = all_gone_references ps

  pub all_gone_references : Prunings → List Reference
  all_gone_references end = []
  all_gone_references (stays p ps) = gone_references p ++ all_gone_references ps
  all_gone_references (goes i ps) = references Read (item_tree i) ++ all_gone_references ps
  all_gone_references (declarator_goes c ps) = references Read (declarator_tree c) ++ all_gone_references ps

-- the counts of each symbol fall by the references that go
pub record CountsFall (t u : Tree) (p : Pruned) (s : ℕ) : Type 0 where
  pub reads : read_count s t ≡ read_count s u + times_of reads s (gone_references p)
  pub writes : write_count s t ≡ write_count s u + times_of writes s (gone_references p)

abbrev pub DropsCount : Type 0
DropsCount = (t u : Tree) (n : ℕ) → (w : Drops t u n) → (s : ℕ) → CountsFall t u w.pruned s

-- where no item goes, the program is what it was
abbrev pub NoneGoes : Type 0
NoneGoes = (t u : Tree) (n : ℕ) → DropsAgain t u n → n ≡ 0 → u ≡ t

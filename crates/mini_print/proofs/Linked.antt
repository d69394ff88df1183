-- A chain comes back from its base and its links.
use Rattle.std.specs.Prelude.{ℕ, ◌≡◌, refl, Bool, true, false, List, if◌then◌else◌}
use Rattle.mini_model.specs.declared.name.Name.{Name}
use Rattle.mini_model.specs.declared.shape.Shape.{Shape}
use Rattle.mini_model.specs.Tree.{Tree, Trees, node, none, ◌▸◌, listed, absent}
use Rattle.mini_print.specs.Printed.{has_optional, linked, joined, unlinked}

pub linked_back : (h : Shape) (xs : List Name) (n : ℕ) (a : Tree) (ts ls : Trees) → unlinked (linked (node h xs n (a ▸ ts)) ls) ≡ joined (node h xs n (a ▸ ts)) ls
linked_back h xs n (node j ys k none) ts ls = refl
linked_back h xs n (node j ys k (b ▸ us)) ts ls = by (linked_back j ys k b us (node h xs n (absent ▸ ts) ▸ ls)) (has_optional (node j ys k (b ▸ us)))
  where
    by : unlinked (linked (node j ys k (b ▸ us)) (node h xs n (absent ▸ ts) ▸ ls)) ≡ joined (node j ys k (b ▸ us)) (node h xs n (absent ▸ ts) ▸ ls) →
        (c : Bool) → unlinked (if c then linked (node j ys k (b ▸ us)) (node h xs n (absent ▸ ts) ▸ ls) else node j ys k (b ▸ us) ▸ node h xs n (absent ▸ ts) ▸ listed ls ▸ none) ≡ joined (node h xs n (node j ys k (b ▸ us) ▸ ts)) ls
    by e true = e
    by e false = refl

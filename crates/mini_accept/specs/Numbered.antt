-- The numbers of a tree: from the first one on in preorder, where a node has the next number or
-- none.
use Rattle.std.specs.Prelude.{ℕ, suc, nat_eq, Option, Some, None, option_and_then, if◌then◌else◌}
use Rattle.mini_model.specs.Tree.{Tree, node, Trees, none, ◌▸◌}

-- the number after that of a node, where n is the next one; a node without a number has 0
abbrev pub number_after : ℕ → ℕ → Option ℕ
number_after m n = if nat_eq m n then Some (suc n) else (if nat_eq m 0 then Some n else None)

-- the next number after a tree, and after some; nothing where a node has another number than the
-- next
abbrev mutual
  pub next_after : Tree → ℕ → Option ℕ
  next_after (node h xs m ts) n = option_and_then (next_among ts) (number_after m n)

  pub next_among : Trees → ℕ → Option ℕ
  next_among none n = Some n
  next_among (t ▸ ts) n = option_and_then (next_among ts) (next_after t n)

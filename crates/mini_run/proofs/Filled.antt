-- A list of statements, one after another.
use Rattle.std.proofs.Common.{◌≡◌, ℕ, zero, suc, ◌+◌, ◌-◌, refl, sym, ap, ◌∙◌, arith}
use Rattle.mini_model.specs.Tree.{Trees, none, ◌▸◌}
use Rattle.mini_model.specs.Paths.{append}
use Rattle.mini_node.specs.Walks.{append_none, append_one}
use Rattle.mini_run.specs.Generated.{statement, statements}

from_next : (from more : ℕ) → statements from (suc more) ≡ statement from ▸ statements (from + 1) more
from_next from more = ap (λ i. statement from ▸ statements i more) (let e : suc from ≡ from + 1 = omega arith in e)

pub no_more : (list : Trees) (from more : ℕ) → more ≡ 0 → list ≡ append list (statements from more)
no_more list from zero e = sym (append_none list)
no_more list from (suc more) e = absurd (omega (arith, e))

pub one_more : (list : Trees) (from more : ℕ) → (more ≡ 0 → ⊥) → append (append list (statement from ▸ none)) (statements (from + 1) (more - 1)) ≡ append list (statements from more)
one_more list from zero e = absurd (e refl)
one_more list from (suc more) e = append_one list (statement from) (statements (from + 1) (suc more - 1)) ∙ ap (append list) (ap (λ n. statement from ▸ statements (from + 1) n) (let e : suc more - 1 ≡ more = omega arith in e) ∙ sym (from_next from more))

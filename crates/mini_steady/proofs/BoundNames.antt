-- Where a name with a symbol is declared, child by child.
use Rattle.std.proofs.Common.{◌≡◌, ℕ, suc, ◌+◌, ◌<◌, ◌≤◌, Bool, true, false, refl, sym, ap, ◌∙◌, add-one}
use Rattle.std.specs.Prelude.{◌||◌}
use Rattle.mini_model.specs.Tree.{Tree, Trees, node, count, child_or_absent, children}
use Rattle.mini_node.specs.Children.{rest_children}
use Rattle.mini_node.specs.Walks.{from_first, next_child, no_rest}
use Rattle.mini_rows.specs.Past.{binds, any_bind}
use Rattle.mini_steady.specs.Leaving.{declares}

pub or_none : (b : Bool) → (b || false) ≡ b
or_none true = refl
or_none false = refl

module _ (k : ℕ) where
  pub opened : (n : Tree) → binds k n ≡ (declares k n || any_bind k (children n))
  opened (node h xs m ts) = refl

  pub none_own : (n : Tree) (b : Bool) → b ≡ declares k n → b ≡ false → binds k n ≡ any_bind k (children n)
  none_own n b e f = opened n ∙ ap (λ c. c || any_bind k (children n)) (sym e ∙ f)

  pub bind_first : (ts : Trees) → any_bind k ts ≡ any_bind k (rest_children 0 ts)
  bind_first ts = ap (any_bind k) (sym (from_first ts))

  pub bind_step : (ts : Trees) (i : ℕ) (t : Tree) → i < count ts → t ≡ child_or_absent ts i → any_bind k (rest_children i ts) ≡ (binds k t || any_bind k (rest_children (i + 1) ts))
  bind_step ts i t h e =
      ap (any_bind k) (next_child ts i h)
      ∙ ap (λ u. binds k u || any_bind k (rest_children (suc i) ts)) (sym e)
      ∙ ap (λ j. binds k t || any_bind k (rest_children j ts)) (sym (add-one i))

  pub bind_end : (ts : Trees) (i : ℕ) → count ts ≤ i → any_bind k (rest_children i ts) ≡ false
  bind_end ts i h = ap (any_bind k) (no_rest ts i h)

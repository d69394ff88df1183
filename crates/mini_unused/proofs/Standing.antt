-- Where a name stands in a tree, child by child.
use Rattle.std.proofs.Common.{◌≡◌, ℕ, zero, suc, ◌+◌, ◌<◌, ◌≤◌, Bool, true, false, List, refl, sym, ap, ◌∙◌, true≢false, add-one, arith}
use Rattle.std.specs.Prelude.{◌||◌}
use Rattle.mini_model.specs.declared.name.Name.{Name}
use Rattle.mini_model.specs.Tree.{Tree, Trees, node, none, ◌▸◌, count, child_or_absent, children}
use Rattle.mini_node.specs.Children.{names_of, first_children, rest_children}
use Rattle.mini_node.specs.Walks.{next_child, no_rest}
use Rattle.mini_rows.specs.Unused.{is_like_one, names, any_names}

pub or_none : (b : Bool) → (b || false) ≡ b
or_none true = refl
or_none false = refl

or_true : (b : Bool) → (b || true) ≡ true
or_true true = refl
or_true false = refl

module _ (x : Name) where
  pub opened : (n : Tree) → names x n ≡ (is_like_one x (names_of n) || any_names x (children n))
  opened (node h xs m ts) = refl

  -- no name of its own is like it
  pub like_first : (n : Tree) (ys : List Name) (b : Bool) → ys ≡ names_of n → b ≡ is_like_one x ys → b ≡ false → names x n ≡ any_names x (children n)
  like_first n ys b e f g = opened n ∙ ap (λ zs. is_like_one x zs || any_names x (children n)) (sym e) ∙ ap (λ c. c || any_names x (children n)) (sym f ∙ g)

  pub mention_step : (ts : Trees) (i : ℕ) (t : Tree) → i < count ts → t ≡ child_or_absent ts i → any_names x (rest_children i ts) ≡ (names x t || any_names x (rest_children (i + 1) ts))
  mention_step ts i t h e =
      ap (any_names x) (next_child ts i h)
      ∙ ap (λ u. names x u || any_names x (rest_children (suc i) ts)) (sym e)
      ∙ ap (λ k. names x t || any_names x (rest_children k ts)) (sym (add-one i))

  pub mention_end : (ts : Trees) (i : ℕ) → count ts ≤ i → any_names x (rest_children i ts) ≡ false
  mention_end ts i h = ap (any_names x) (no_rest ts i h)

  -- where a child mentions it
  any_there : (ts : Trees) (i : ℕ) → names x (child_or_absent ts i) ≡ true → any_names x ts ≡ true
  any_there none i e = absurd (true≢false (sym e))
  any_there (t ▸ ts) zero e = ap (λ b. b || any_names x ts) e
  any_there (t ▸ ts) (suc i) e = ap (λ b. names x t || b) (any_there ts i e) ∙ or_true (names x t)

  pub part_mentioned : (n t : Tree) (ts : Trees) (i : ℕ) (b : Bool) → ts ≡ children n → t ≡ child_or_absent ts i → b ≡ names x t → b ≡ true → names x n ≡ true
  part_mentioned n t ts i b e f g h =
      opened n ∙ ap (λ c. is_like_one x (names_of n) || c) (any_there (children n) i (ap (λ us. names x (child_or_absent us i)) (sym e) ∙ ap (names x) (sym f) ∙ sym g ∙ h)) ∙ or_true (is_like_one x (names_of n))

  -- of those before an index

  pub before_start : (ts : Trees) → any_names x (first_children 0 ts) ≡ false
  before_start none = refl
  before_start (t ▸ ts) = refl

  pub before_step : (ts : Trees) (i k : ℕ) (t : Tree) → k ≡ suc i → i < count ts → t ≡ child_or_absent ts i → names x t ≡ false → any_names x (first_children i ts) ≡ false → any_names x (first_children k ts) ≡ false
  before_step ts i k t f h e n p = ap (λ j. any_names x (first_children j ts)) f ∙ go ts i h (sym (ap (names x) e) ∙ n) p
    where
      go : (ts : Trees) (i : ℕ) → i < count ts → names x (child_or_absent ts i) ≡ false → any_names x (first_children i ts) ≡ false → any_names x (first_children (suc i) ts) ≡ false
      go none i h n p = absurd (omega (arith, h))
      go (t ▸ none) zero h n p = ap (λ b. b || false) n
      go (t ▸ (u ▸ ts)) zero h n p = ap (λ b. b || false) n
      go (t ▸ ts) (suc i) h n p = by (names x t) (any_names x (first_children i ts)) p (go ts i (omega (arith, h)) n)
        where
          by : (a b : Bool) → (a || b) ≡ false → (b ≡ false → any_names x (first_children (suc i) ts) ≡ false) → (a || any_names x (first_children (suc i) ts)) ≡ false
          by true b q f = absurd (cc q)
          by false b q f = f q

  pub before_end : (ts : Trees) (i end : ℕ) → i ≤ end → end ≤ i → any_names x (first_children i ts) ≡ false → false ≡ any_names x (first_children end ts)
  before_end ts i end g h p = let same : i ≡ end = omega (arith, g, h) in sym p ∙ ap (λ k. any_names x (first_children k ts)) same

  pub before_found : (ts : Trees) (i end : ℕ) (t : Tree) → i < end → i < count ts → t ≡ child_or_absent ts i → names x t ≡ true → any_names x (first_children end ts) ≡ true
  before_found ts i end t g h e n = go ts i end g h (sym (ap (names x) e) ∙ n)
    where
      go : (ts : Trees) (i end : ℕ) → i < end → i < count ts → names x (child_or_absent ts i) ≡ true → any_names x (first_children end ts) ≡ true
      go none i end g h n = absurd (omega (arith, h))
      go (t ▸ ts) i zero g h n = absurd (omega (arith, g))
      go (t ▸ ts) zero (suc end) g h n = ap (λ b. b || any_names x (first_children end ts)) n
      go (t ▸ ts) (suc i) (suc end) g h n = ap (λ b. names x t || b) (go ts i end (omega (arith, g)) (omega (arith, h)) n) ∙ or_true (names x t)

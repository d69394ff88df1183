-- A name whose spelling stands in a tree is counted there.
use Rattle.std.proofs.Common.{◌≡◌, ℕ, suc, ◌+◌, ◌<◌, ◌≤◌, Bool, true, false, List, [], ◌∷◌, refl, sym, ap, ◌∙◌, true≢false, add-one, arith}
use Rattle.std.specs.Prelude.{◌||◌}
use Rattle.mini_model.specs.declared.name.Name.{Name}
use Rattle.mini_model.specs.declared.shape.Shape.{Shape}
use Rattle.mini_model.specs.Tree.{Tree, Trees, node, none, ◌▸◌, count, child_or_absent, children}
use Rattle.mini_node.specs.Children.{names_of, rest_children}
use Rattle.mini_node.specs.Walks.{next_child, no_rest}
use Rattle.mini_unused.specs.Tallies.{bucket, own_tally, tally, tallies, is_spelled, is_spelled_in, is_any_spelled}
use Rattle.mini_unused.proofs.Rare.{text_counted}

module _ (x : Name) where
  spelled_opened : (t : Tree) → is_spelled_in x t ≡ (is_spelled x (names_of t) || is_any_spelled x (children t))
  spelled_opened (node h xs n ts) = refl

  pub spelled_first : (n : Tree) (ys : List Name) (b : Bool) → ys ≡ names_of n → b ≡ is_spelled x ys → b ≡ false → is_spelled_in x n ≡ is_any_spelled x (children n)
  spelled_first n ys b e f g = spelled_opened n ∙ ap (λ zs. is_spelled x zs || is_any_spelled x (children n)) (sym e) ∙ ap (λ c. c || is_any_spelled x (children n)) (sym f ∙ g)

  pub spelled_step : (ts : Trees) (i : ℕ) (t : Tree) → i < count ts → t ≡ child_or_absent ts i → is_any_spelled x (rest_children i ts) ≡ (is_spelled_in x t || is_any_spelled x (rest_children (i + 1) ts))
  spelled_step ts i t h e =
      ap (is_any_spelled x) (next_child ts i h)
      ∙ ap (λ u. is_spelled_in x u || is_any_spelled x (rest_children (suc i) ts)) (sym e)
      ∙ ap (λ k. is_spelled_in x t || is_any_spelled x (rest_children k ts)) (sym (add-one i))

  pub spelled_end : (ts : Trees) (i : ℕ) → count ts ≤ i → is_any_spelled x (rest_children i ts) ≡ false
  spelled_end ts i h = ap (is_any_spelled x) (no_rest ts i h)

  module _ (r : ℕ) where
    own_counted : (ys : List Name) → is_spelled x ys ≡ true → 1 ≤ own_tally (bucket false r) (bucket false r x) ys
    own_counted [] e = absurd (true≢false (sym e))
    own_counted (y ∷ ys) e = let one = text_counted r x y e in omega (arith, one)

    -- of a node with these parts, and of some nodes
    node_counted : (h : Shape) (ys : List Name) (n : ℕ) (ts : Trees) (b : Bool) → is_spelled x ys ≡ b → (is_any_spelled x ts ≡ true → 1 ≤ tallies (bucket false r) (bucket false r x) ts) → (b || is_any_spelled x ts) ≡ true → 1 ≤ tally (bucket false r) (bucket false r x) (node h ys n ts)
    node_counted h ys n ts true f below e = let own = own_counted ys f in omega (arith, own)
    node_counted h ys n ts false f below e = let there = below e in omega (arith, there)

    more_counted : (t : Tree) (ts : Trees) (b : Bool) → is_spelled_in x t ≡ b → (is_spelled_in x t ≡ true → 1 ≤ tally (bucket false r) (bucket false r x) t) → (is_any_spelled x ts ≡ true → 1 ≤ tallies (bucket false r) (bucket false r x) ts) → (b || is_any_spelled x ts) ≡ true → 1 ≤ tallies (bucket false r) (bucket false r x) (t ▸ ts)
    more_counted t ts true f one others e = let there = one f in omega (arith, there)
    more_counted t ts false f one others e = let there = others e in omega (arith, there)

    mutual
      tree_counted : (t : Tree) → is_spelled_in x t ≡ true → 1 ≤ tally (bucket false r) (bucket false r x) t
      tree_counted (node h ys n ts) e = node_counted h ys n ts (is_spelled x ys) refl (any_counted ts) e

      any_counted : (ts : Trees) → is_any_spelled x ts ≡ true → 1 ≤ tallies (bucket false r) (bucket false r x) ts
      any_counted none e = absurd (true≢false (sym e))
      any_counted (t ▸ ts) e = more_counted t ts (is_spelled_in x t) refl (tree_counted t) (any_counted ts) e

  pub spelled_counted : (t : Tree) (b : Bool) → b ≡ is_spelled_in x t → b ≡ true → (r : ℕ) → 1 ≤ tally (bucket false r) (bucket false r x) t
  spelled_counted t b e f r = tree_counted r t (sym e ∙ f)

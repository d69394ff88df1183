-- Where a name stands in what writes it, child by child.
use Rattle.std.proofs.Common.{◌≡◌, ℕ, suc, ◌+◌, ◌<◌, ◌≤◌, Bool, true, false, refl, sym, ap, ◌∙◌, add-one}
use Rattle.std.specs.Prelude.{◌||◌, if◌then◌else◌}
use Rattle.mini_model.specs.declared.name.Name.{Name}
use Rattle.mini_model.specs.Tree.{Tree, Trees, node, count, child_or_absent, children, shape_of}
use Rattle.mini_node.specs.Children.{names_of, rest_children}
use Rattle.mini_node.specs.Walks.{from_first, next_child, no_rest}
use Rattle.mini_rows.specs.Past.{is_writer, written_names, has_its_symbol, writes, any_write}
use Rattle.mini_rows.specs.Unused.{any_names}

module _ (x : Name) where
  abbrev own : Tree → Bool
  own n = has_its_symbol x.symbol (written_names (shape_of n) (names_of n))

  opened : (n : Tree) → writes x n ≡ (own n || (if is_writer (shape_of n) then any_names x (children n) else any_write x (children n)))
  opened (node h xs m ts) = refl

  pub by_own : (n : Tree) (b : Bool) → b ≡ own n → b ≡ true → writes x n ≡ true
  by_own n b e f = opened n ∙ ap (λ c. c || (if is_writer (shape_of n) then any_names x (children n) else any_write x (children n))) (sym e ∙ f)

  below : (n : Tree) (b : Bool) → b ≡ own n → b ≡ false → writes x n ≡ (if is_writer (shape_of n) then any_names x (children n) else any_write x (children n))
  below n b e f = opened n ∙ ap (λ c. c || (if is_writer (shape_of n) then any_names x (children n) else any_write x (children n))) (sym e ∙ f)

  pub by_writer : (n : Tree) (a b : Bool) → a ≡ own n → a ≡ false → b ≡ is_writer (shape_of n) → b ≡ true → writes x n ≡ any_names x (rest_children 0 (children n))
  by_writer n a b o p e f = below n a o p ∙ ap (λ c. if c then any_names x (children n) else any_write x (children n)) (sym e ∙ f) ∙ ap (any_names x) (sym (from_first (children n)))

  pub by_none : (n : Tree) (a b : Bool) → a ≡ own n → a ≡ false → b ≡ is_writer (shape_of n) → b ≡ false → writes x n ≡ any_write x (children n)
  by_none n a b o p e f = below n a o p ∙ ap (λ c. if c then any_names x (children n) else any_write x (children n)) (sym e ∙ f)

  pub write_first : (ts : Trees) → any_write x ts ≡ any_write x (rest_children 0 ts)
  write_first ts = ap (any_write x) (sym (from_first ts))

  pub write_step : (ts : Trees) (i : ℕ) (t : Tree) → i < count ts → t ≡ child_or_absent ts i → any_write x (rest_children i ts) ≡ (writes x t || any_write x (rest_children (i + 1) ts))
  write_step ts i t h e =
      ap (any_write x) (next_child ts i h)
      ∙ ap (λ u. writes x u || any_write x (rest_children (suc i) ts)) (sym e)
      ∙ ap (λ j. writes x t || any_write x (rest_children j ts)) (sym (add-one i))

  pub write_end : (ts : Trees) (i : ℕ) → count ts ≤ i → any_write x (rest_children i ts) ≡ false
  write_end ts i h = ap (any_write x) (no_rest ts i h)

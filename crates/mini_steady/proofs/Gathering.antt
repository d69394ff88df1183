-- A loop over the children of a node: the measure of a recursion, and what it has gathered.
use Rattle.std.specs.Prelude.{ℕ, zero, suc, ◌+◌, ◌≡◌, ◌≤◌, ◌<◌, List, [], ◌∷◌, ◌++◌, length, take, slice_index_or}
use Rattle.std.proofs.Common.{ap, ◌∙◌, arith, sym, append_assoc, add-one}
use Rattle.std.proofs.lemmas.List.{append-nil, take_all}
use Rattle.mini_model.specs.Tree.{Tree, Trees, none, ◌▸◌, node_count, node_counts}
use Rattle.mini_node.specs.Children.{trees_of}

falls : (xs : List Tree) (i : ℕ) (d : Tree) → i < length xs → node_count ((slice_index_or xs i d)) ≤ node_counts (trees_of xs)
falls [] i d h = absurd (omega arith)
falls (x ∷ xs) zero d h = omega arith
falls (x ∷ xs) (suc i) d h = omega (arith, falls xs i d (omega arith))

-- a child has fewer nodes than all children
pub child_falls : (xs : List Tree) (i : ℕ) (n : Tree) (ts : Trees) → i < length xs → n ≡ slice_index_or xs i n → trees_of xs ≡ ts → node_count n ≤ node_counts ts
child_falls xs i n ts h e v = omega (arith, falls xs i n h, ap (λ x. node_count x) e, ap node_counts v)

-- F gathers what f gives at each tree, in order
pub record Gathers {A : Type 0} (f : Tree → List A) (F : Trees → List A) : Type 0 where
  pub at_none : F none ≡ []
  pub at_more : (t : Tree) (ts : Trees) → F (t ▸ ts) ≡ f t ++ F ts

more : {A : Type 0} (f : Tree → List A) (F : Trees → List A) → Gathers f F → (xs : List Tree) (i : ℕ) (d : Tree) → i < length xs → F (trees_of (take (suc i) xs)) ≡ F (trees_of (take i xs)) ++ f ((slice_index_or xs i d))
more f F g [] i d h = absurd (omega arith)
more f F g (x ∷ xs) zero d h = g.at_more x none ∙ ap (λ r. f x ++ r) g.at_none ∙ append-nil (f x) ∙ ap (λ r. r ++ f x) (sym g.at_none)
more f F g (x ∷ xs) (suc i) d h = g.at_more x (trees_of (take (suc i) xs)) ∙ ap (λ r. f x ++ r) (more f F g xs i d (omega arith)) ∙ sym (append_assoc (f x) (F (trees_of (take i xs))) (f ((slice_index_or xs i d)))) ∙ ap (λ r. r ++ f ((slice_index_or xs i d))) (sym (g.at_more x (trees_of (take i xs))))

-- one turn of a loop that gathers
pub turn : {A : Type 0} (f : Tree → List A) (F : Trees → List A) → Gathers f F → (xs : List Tree) (i : ℕ) (n : Tree) (before now after : List A) → i < length xs → n ≡ slice_index_or xs i n → now ≡ before ++ F (trees_of (take i xs)) → after ≡ now ++ f n → after ≡ before ++ F (trees_of (take (i + 1) xs))
turn f F g xs i n before now after h e p q =
    q ∙ ap (λ r. r ++ f n) p ∙ append_assoc before (F (trees_of (take i xs))) (f n) ∙ ap (λ r. before ++ r) (ap (λ x. F (trees_of (take i xs)) ++ f x) e ∙ sym (more f F g xs i n h) ∙ ap (λ k. F (trees_of (take k xs))) (sym (add-one i)))

-- before the first turn
pub before_turns : {A : Type 0} (f : Tree → List A) (F : Trees → List A) → Gathers f F → (before : List A) → before ≡ before ++ F none
before_turns f F g before = sym (append-nil before) ∙ ap (λ r. before ++ r) (sym g.at_none)

-- after the last turn
pub after_turns : {A : Type 0} (F : Trees → List A) (xs : List Tree) (i : ℕ) (ts : Trees) (before now : List A) → length xs ≤ i → trees_of xs ≡ ts → now ≡ before ++ F (trees_of (take i xs)) → now ≡ before ++ F ts
after_turns F xs i ts before now h v p = p ∙ ap (λ ys. before ++ F (trees_of ys)) (take_all i xs h) ∙ ap (λ us. before ++ F us) v

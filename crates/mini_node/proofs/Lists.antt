-- What is read and written in a list of nodes, in the list of their trees.
use Rattle.std.specs.Prelude.{ℕ, zero, suc, ◌+◌, ◌≡◌, ◌<◌, ◌≤◌, ◌&&◌, refl, true, false, nat_eq, List, [], ◌∷◌, ◌++◌, length, take, drop, insert, remove, slice_set, slice_index_or, swap, Option, Some, None}
use Rattle.std.proofs.Common.{ap, sym, ◌∙◌, arith}
use Rattle.std.proofs.lemmas.Bool.{eqb-true}
use Rattle.std.proofs.Math.Dec.{eqb-zero-suc, eqb-suc-zero, eqb-suc-suc}
use Rattle.std.specs.Borrow.{MutBor, Bor}
use Rattle.std.specs.List.{IsItemAtMut}
use Rattle.std.specs.Option.{option_copied, option_copied_mut}
use Rattle.std.specs.Slice.{IsItemAt}
use Rattle.mini_model.specs.declared.name.Name.{Name}
use Rattle.mini_model.specs.declared.shape.Shape.{Shape}
use Rattle.mini_model.specs.Tree.{Tree, Trees, node, none, ◌▸◌, count, child_or_absent, children, node_count, node_counts}
use Rattle.mini_model.specs.Paths.{append, child_at}
use Rattle.mini_node.specs.Children.{trees_of, with_child, with_inserted, without, first_children, rest_children, with_swapped, has_count, is_bare, is_nameless}
use Rattle.mini_node.specs.Kinds.{is_named_leaf}

pub counted : (xs : List Tree) → length xs ≡ count (trees_of xs)
counted [] = refl
counted (x ∷ xs) = ap suc (counted xs)

pub set : (xs : List Tree) (i : ℕ) (x : Tree) → trees_of (slice_set xs i x) ≡ with_child (trees_of xs) i x
set [] i x = refl
set (y ∷ ys) zero x = refl
set (y ∷ ys) (suc i) x = ap (λ zs. y ▸ zs) (set ys i x)

pub joined : (xs ys : List Tree) → trees_of (xs ++ ys) ≡ append (trees_of xs) (trees_of ys)
joined [] ys = refl
joined (x ∷ xs) ys = ap (λ zs. x ▸ zs) (joined xs ys)

pub first : (n : ℕ) (xs : List Tree) → trees_of (take n xs) ≡ first_children n (trees_of xs)
first zero [] = refl
first zero (x ∷ xs) = refl
first (suc n) [] = refl
first (suc n) (x ∷ xs) = ap (λ zs. x ▸ zs) (first n xs)

pub rest : (n : ℕ) (xs : List Tree) → trees_of (drop n xs) ≡ rest_children n (trees_of xs)
rest zero [] = refl
rest zero (x ∷ xs) = refl
rest (suc n) [] = refl
rest (suc n) (x ∷ xs) = rest n xs

pub inserted : (xs : List Tree) (i : ℕ) (x : Tree) → trees_of (insert xs i x) ≡ with_inserted (trees_of xs) i x
inserted [] zero x = refl
inserted [] (suc i) x = refl
inserted (y ∷ ys) zero x = refl
inserted (y ∷ ys) (suc i) x = ap (λ zs. y ▸ zs) (inserted ys i x)

pub removed : (xs : List Tree) (i : ℕ) → trees_of (remove xs i) ≡ without (trees_of xs) i
removed [] zero = refl
removed [] (suc i) = refl
removed (y ∷ ys) zero = refl
removed (y ∷ ys) (suc i) = ap (λ zs. y ▸ zs) (removed ys i)

-- an item that is read where there is one
pub read : (xs : List Tree) (i : ℕ) (d : Tree) → i < length xs → slice_index_or xs i d ≡ child_or_absent (trees_of xs) i
read [] i d h = absurd (omega arith)
read (x ∷ xs) zero d h = refl
read (x ∷ xs) (suc i) d h = read xs i d (omega arith)

pub smaller : (ts : Trees) (i : ℕ) → i < count ts → node_count (child_or_absent ts i) ≤ node_counts ts
smaller none i h = absurd (omega (arith, h))
smaller (t ▸ ts) zero h = omega arith
smaller (t ▸ ts) (suc i) h = let rest = smaller ts i (omega (arith, h)) in omega (arith, rest)

-- Tests

counted_by : (ts : Trees) (k : ℕ) → nat_eq (count ts) k ≡ has_count ts k
counted_by none zero = refl
counted_by none (suc k) = eqb-zero-suc k
counted_by (t ▸ ts) zero = eqb-suc-zero (count ts)
counted_by (t ▸ ts) (suc k) = eqb-suc-suc (count ts) k ∙ counted_by ts k

pub bare_by : (h : Shape) (xs : List Name) (n : ℕ) (ts : Trees) (k : ℕ) → is_bare (node h xs n ts) k ≡ (is_nameless (node h xs n ts) && nat_eq (count ts) k)
bare_by h [] zero ts k = sym (counted_by ts k)
bare_by h [] (suc n) ts k = refl
bare_by h (x ∷ xs) n ts k = refl

pub same_count : (a b : ℕ) → nat_eq a b ≡ true → a ≡ b
same_count a b e = eqb-true a b e

pub nameless_bare : (t : Tree) (k l : ℕ) → is_nameless t ≡ true → l ≡ count (children t) → nat_eq l k ≡ is_bare t k
nameless_bare (node h [] zero ts) k l e f = ap (λ i. nat_eq i k) f ∙ counted_by ts k
nameless_bare t k l e f = absurd (cc e)

removed_size : (ts : List Tree) (i : ℕ) (d : Tree) → i < length ts → node_count (slice_index_or ts i d) + node_counts (trees_of (remove ts i)) ≡ node_counts (trees_of ts)
removed_size [] i d h = absurd (omega (arith, h))
removed_size (t ∷ ts) zero d h = refl
removed_size (t ∷ ts) (suc i) d h = let rest = removed_size ts i d (omega (arith, h)) in omega (arith, rest)

-- with the list as it is left
pub removed_nodes : (ts us : List Tree) (i : ℕ) (d : Tree) → us ≡ remove ts i → i < length ts → node_count (slice_index_or ts i d) + node_counts (trees_of us) ≡ node_counts (trees_of ts)
removed_nodes ts us i d e h = ap (λ vs. node_count (slice_index_or ts i d) + node_counts (trees_of vs)) e ∙ removed_size ts i d h

pub popped_nodes : (ts : List Tree) (t : Tree) → node_counts (trees_of (ts ++ t ∷ [])) ≡ node_count t + node_counts (trees_of ts)
popped_nodes [] t = omega arith
popped_nodes (u ∷ us) t = let rest = popped_nodes us t in omega (arith, rest)

pub window : (xs : List Tree) (i n : ℕ) → trees_of (take n (drop i xs)) ≡ first_children n (rest_children i (trees_of xs))
window xs i n = first n (drop i xs) ∙ ap (first_children n) (rest i xs)

pub swapped : (xs : List Tree) (i j : ℕ) → i < length xs → j < length xs → trees_of (swap xs i j) ≡ with_swapped (trees_of xs) i j
swapped [] i j h k = absurd (omega arith)
swapped (x ∷ xs) i j h k =
    set (slice_set (x ∷ xs) i (slice_index_or (x ∷ xs) j x)) j (slice_index_or (x ∷ xs) i x)
    ∙ ap (λ ts. with_child ts j (slice_index_or (x ∷ xs) i x)) (set (x ∷ xs) i (slice_index_or (x ∷ xs) j x))
    ∙ ap (λ t. with_child (with_child (trees_of (x ∷ xs)) i t) j (slice_index_or (x ∷ xs) i x)) (read (x ∷ xs) j x k)
    ∙ ap (λ t. with_child (with_child (trees_of (x ∷ xs)) i (child_or_absent (trees_of (x ∷ xs)) j)) j t) (read (x ∷ xs) i x h)

-- an item that is lent

pub seen_at : (xs : List Tree) (i : ℕ) (r : Option (Bor Tree)) → IsItemAt xs i r → option_copied r ≡ child_at (trees_of xs) i
seen_at [] i None h = refl
seen_at (x ∷ xs) zero None h = grind arith
seen_at (x ∷ xs) (suc i) None h = grind (arith, seen_at xs i None)
seen_at [] i (Some r) h = grind arith
seen_at (x ∷ xs) zero (Some r) h = grind arith
seen_at (x ∷ xs) (suc i) (Some r) h = grind (arith, seen_at xs i (Some r))

pub lent_at : (xs : List Tree) (i : ℕ) (r : Option (MutBor Tree)) → IsItemAtMut xs i r → option_copied_mut r ≡ child_at (trees_of xs) i
lent_at [] i None h = refl
lent_at (x ∷ xs) zero None h = grind arith
lent_at (x ∷ xs) (suc i) None h = grind (arith, lent_at xs i None)
lent_at [] i (Some r) h = grind arith
lent_at (x ∷ xs) zero (Some r) h = grind arith
lent_at (x ∷ xs) (suc i) (Some r) h = grind (arith, lent_at xs i (Some r))

-- a leaf with a name

pub named_by : (h : Shape) (x : Name) (n : ℕ) (ts : Trees) → is_named_leaf (node h (x ∷ []) n ts) ≡ (nat_eq n 0 && nat_eq (count ts) 0)
named_by h x zero none = refl
named_by h x zero (t ▸ ts) = sym (eqb-suc-zero (count ts))
named_by h x (suc n) ts = ap (λ b. b && nat_eq (count ts) 0) (sym (eqb-suc-zero n))

pub named_number : (h : Shape) (n : ℕ) (ts : Trees) → is_named_leaf (node h [] n ts) ≡ false
named_number h n ts = refl

-- Whether the names that a part of a declaration gives are those that it binds, and what is left of one that never runs.
use Rattle.std.proofs.Common.{◌≡◌, ℕ, suc, ◌+◌, ◌<◌, ◌≤◌, true, false, List, [], ◌∷◌, refl, sym, ap, ◌∙◌, length, arith}
use Rattle.std.specs.Prelude.{◌&&◌}
use Rattle.mini_model.specs.declared.kind.VariableDeclarationKind.{VariableDeclarationKind}
use Rattle.mini_model.specs.declared.name.Name.{Name}
use Rattle.mini_model.specs.Tree.{Tree, Trees, node, none, ◌▸◌, count, shape_of, child_or_absent, children, node_count, node_counts}
use Rattle.mini_model.specs.Paths.{append}
use Rattle.mini_node.specs.Children.{names_of, rest_children}
use Rattle.mini_node.specs.Walks.{next_child, no_rest, append_none, append_one}
use Rattle.mini_rows.specs.Lists.{binding, declarator, declaration}
use Rattle.mini_rows.specs.DeadLexicals.{giving_of, gives_by, gives, all_give, first_gives, initializer, declarators, declared_with}

pub no_first : (ts : Trees) → count ts ≤ 0 → first_gives ts ≡ true
no_first none h = refl
no_first (t ▸ ts) h = absurd (omega (arith, h))

pub first_is : (ts : Trees) → 0 < count ts → first_gives ts ≡ gives (child_or_absent ts 0)
first_is none h = absurd (omega (arith, h))
first_is (t ▸ ts) h = refl

pub giving_is : (t : Tree) → gives t ≡ gives_by (giving_of (shape_of t)) (names_of t) (children t) (all_give (children t)) (first_gives (children t))
giving_is (node h xs n ts) = refl

-- a node has more nodes than its children
pub below : (t : Tree) → node_counts (children t) + 1 ≡ node_count t
below (node h xs n ts) = omega arith

pub giving_stops : (ts : Trees) (i : ℕ) → i < count ts → gives (child_or_absent ts i) ≡ false → all_give (rest_children i ts) ≡ all_give ts → false ≡ all_give ts
giving_stops ts i h e inv = sym (ap (λ b. b && all_give (rest_children (suc i) ts)) e) ∙ sym (ap all_give (next_child ts i h)) ∙ inv

pub giving_goes_on : (ts : Trees) (i : ℕ) → i < count ts → gives (child_or_absent ts i) ≡ true → all_give (rest_children i ts) ≡ all_give ts → all_give (rest_children (i + 1) ts) ≡ all_give ts
giving_goes_on ts i h e inv = let next : i + 1 ≡ suc i = omega arith in ap (λ k. all_give (rest_children k ts)) next ∙ sym (ap (λ b. b && all_give (rest_children (suc i) ts)) e) ∙ sym (ap all_give (next_child ts i h)) ∙ inv

pub giving_ends : (ts : Trees) (i : ℕ) → count ts ≤ i → all_give (rest_children i ts) ≡ all_give ts → true ≡ all_give ts
giving_ends ts i h inv = sym (ap all_give (no_rest ts i h)) ∙ inv

-- ---- what is left

pub names_turn : (k : VariableDeclarationKind) (made after : Trees) (x : Name) (rest all : List Name) → append made (declarators k (x ∷ rest)) ≡ declarators k all → after ≡ append made (declarator (binding x) (initializer k) ▸ none) → append after (declarators k rest) ≡ declarators k all
names_turn k made after x rest all e f = ap (λ r. append r (declarators k rest)) f ∙ append_one made (declarator (binding x) (initializer k)) (declarators k rest) ∙ e

pub names_end : (k : VariableDeclarationKind) (made : Trees) (rest all : List Name) → length rest ≡ 0 → append made (declarators k rest) ≡ declarators k all → made ≡ declarators k all
names_end k made [] all e f = sym (append_none made) ∙ f
names_end k made (x ∷ rest) all e f = absurd (omega (arith, e))

pub left_none : (k : VariableDeclarationKind) (xs : List Name) → count (declarators k xs) ≡ 0 → declarators k xs ≡ declared_with k xs
left_none k [] h = refl
left_none k (x ∷ xs) h = absurd (omega (arith, h))

pub left_some : (k : VariableDeclarationKind) (xs : List Name) → 0 < count (declarators k xs) → declaration k (declarators k xs) ▸ none ≡ declared_with k xs
left_some k [] h = absurd (omega (arith, h))
left_some k (x ∷ xs) h = refl

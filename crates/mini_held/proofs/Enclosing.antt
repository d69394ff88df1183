-- Names that can't be written, in a statement that goes.
use Rattle.std.proofs.Common.{◌≡◌, ℕ, suc, ◌+◌, ◌<◌, ◌≤◌, Bool, true, false, refl, sym, ap, ◌∙◌, arith}
use Rattle.std.specs.Prelude.{◌&&◌}
use Rattle.mini_model.specs.declared.shape.Shape.{Shape}
use Rattle.mini_model.specs.Tree.{Tree, Trees, node, none, ◌▸◌, count, shape_of, child_or_absent, children, node_count, node_counts}
use Rattle.mini_node.specs.Children.{rest_children}
use Rattle.mini_node.specs.Walks.{next_child, no_rest}
use Rattle.mini_rows.specs.Lists.{binding_of, binds_by, binds, all_bind, first_binds, encloses_by, holds, encloses, all_enclose}

-- ---- what a declaration binds

pub no_first : (ts : Trees) → count ts ≤ 0 → first_binds ts ≡ true
no_first none h = refl
no_first (t ▸ ts) h = absurd (omega (arith, h))

pub first_is : (ts : Trees) → 0 < count ts → first_binds ts ≡ binds (child_or_absent ts 0)
first_is none h = absurd (omega (arith, h))
first_is (t ▸ ts) h = refl

pub binding_is : (t : Tree) → binds t ≡ binds_by (binding_of (shape_of t)) (all_bind (children t)) (first_binds (children t))
binding_is (node h xs n ts) = refl

pub binding_stops : (ts : Trees) (i : ℕ) → i < count ts → binds (child_or_absent ts i) ≡ false → all_bind (rest_children i ts) ≡ all_bind ts → false ≡ all_bind ts
binding_stops ts i h e inv = sym (ap (λ b. b && all_bind (rest_children (suc i) ts)) e) ∙ sym (ap all_bind (next_child ts i h)) ∙ inv

pub binding_goes_on : (ts : Trees) (i : ℕ) → i < count ts → binds (child_or_absent ts i) ≡ true → all_bind (rest_children i ts) ≡ all_bind ts → all_bind (rest_children (i + 1) ts) ≡ all_bind ts
binding_goes_on ts i h e inv = let next : i + 1 ≡ suc i = omega arith in ap (λ k. all_bind (rest_children k ts)) next ∙ sym (ap (λ b. b && all_bind (rest_children (suc i) ts)) e) ∙ sym (ap all_bind (next_child ts i h)) ∙ inv

pub binding_ends : (ts : Trees) (i : ℕ) → count ts ≤ i → all_bind (rest_children i ts) ≡ all_bind ts → true ≡ all_bind ts
binding_ends ts i h inv = sym (ap all_bind (no_rest ts i h)) ∙ inv

-- ---- what goes

pub enclosing_is : (held : Bool) (t : Tree) → encloses held t ≡ encloses_by held (shape_of t) (children t) && all_enclose held (shape_of t) 0 (children t)
enclosing_is held (node h xs n ts) = refl

-- a node has more nodes than its children
pub below : (t : Tree) → node_counts (children t) + 1 ≡ node_count t
below (node h xs n ts) = omega arith

-- ---- of children from an index on

module _ (held : Bool) (h : Shape) (ts : Trees) (i : ℕ) where
  abbrev here : Tree
  here = child_or_absent ts i

  pub stops : i < count ts → encloses (holds held h i (shape_of here)) here ≡ false → all_enclose held h i (rest_children i ts) ≡ all_enclose held h 0 ts → false ≡ all_enclose held h 0 ts
  stops w e inv = sym (ap (λ b. b && all_enclose held h (suc i) (rest_children (suc i) ts)) e) ∙ sym (ap (all_enclose held h i) (next_child ts i w)) ∙ inv

  pub goes_on : i < count ts → encloses (holds held h i (shape_of here)) here ≡ true → all_enclose held h i (rest_children i ts) ≡ all_enclose held h 0 ts → all_enclose held h (i + 1) (rest_children (i + 1) ts) ≡ all_enclose held h 0 ts
  goes_on w e inv =
      let next : i + 1 ≡ suc i = omega arith in
      ap (λ k. all_enclose held h k (rest_children k ts)) next ∙ sym (ap (λ b. b && all_enclose held h (suc i) (rest_children (suc i) ts)) e) ∙ sym (ap (all_enclose held h i) (next_child ts i w)) ∙ inv

  pub ends : count ts ≤ i → all_enclose held h i (rest_children i ts) ≡ all_enclose held h 0 ts → true ≡ all_enclose held h 0 ts
  ends w inv = sym (ap (all_enclose held h i) (no_rest ts i w)) ∙ inv

-- Terms of the rewrites of lists, by the parts of a node.
use Rattle.std.proofs.Common.{◌≡◌, ℕ, zero, suc, ◌+◌, ◌-◌, ◌<◌, ◌≤◌, Bool, true, false, refl, sym, ap, ◌∙◌, arith}
use Rattle.std.specs.Prelude.{not, ◌&&◌, ◌||◌}
use Rattle.std.proofs.lemmas.Bool.{false≢true}
use Rattle.mini_model.specs.declared.operator.UnaryOperator.TheVariants.{LogicalNot}
use Rattle.mini_model.specs.declared.shape.Shape.TheVariants as shape
use Rattle.mini_model.specs.Tree.{Tree, Trees, node, none, ◌▸◌, shape_of, children, count, child_or_absent, node_count, node_counts}
use Rattle.mini_node.specs.Children.{part, with_part, with_child, rest_children}
use Rattle.mini_node.specs.Walks.{from_first, next_child, no_rest}
use Rattle.mini_rows.specs.Lists.{any, is_unscoped, are_unscoped, is_terminated, are_terminated, declares_nothing}

pub not_false : (b : Bool) → not b ≡ false → b ≡ true
not_false true e = refl
not_false false e = absurd (false≢true (sym e))

pub not_true : (b : Bool) → not b ≡ true → b ≡ false
not_true true e = absurd (false≢true e)
not_true false e = refl

-- ---- all are unscoped

pub unscoped_stops : (ts : Trees) (i : ℕ) → i < count ts → is_unscoped (child_or_absent ts i) ≡ false → are_unscoped (rest_children i ts) ≡ are_unscoped ts → false ≡ are_unscoped ts
unscoped_stops ts i h e inv = sym (ap (λ b. b && are_unscoped (rest_children (suc i) ts)) e) ∙ sym (ap are_unscoped (next_child ts i h)) ∙ inv

pub unscoped_goes_on : (ts : Trees) (i : ℕ) → i < count ts → is_unscoped (child_or_absent ts i) ≡ true → are_unscoped (rest_children i ts) ≡ are_unscoped ts → are_unscoped (rest_children (i + 1) ts) ≡ are_unscoped ts
unscoped_goes_on ts i h e inv = let next : i + 1 ≡ suc i = omega arith in ap (λ k. are_unscoped (rest_children k ts)) next ∙ sym (ap (λ b. b && are_unscoped (rest_children (suc i) ts)) e) ∙ sym (ap are_unscoped (next_child ts i h)) ∙ inv

pub unscoped_ends : (ts : Trees) (i : ℕ) → count ts ≤ i → are_unscoped (rest_children i ts) ≡ are_unscoped ts → true ≡ are_unscoped ts
unscoped_ends ts i h inv = sym (ap are_unscoped (no_rest ts i h)) ∙ inv

-- ---- one is terminated

abbrev pub some_ends : Trees → Bool
some_ends ts = any (are_terminated ts)

pub ends_here : (ts : Trees) (i : ℕ) → i < count ts → is_terminated (child_or_absent ts i) ≡ true → some_ends (rest_children i ts) ≡ some_ends ts → true ≡ some_ends ts
ends_here ts i h e inv = sym (ap (λ b. b || some_ends (rest_children (suc i) ts)) e) ∙ sym (ap some_ends (next_child ts i h)) ∙ inv

pub ends_later : (ts : Trees) (i : ℕ) → i < count ts → is_terminated (child_or_absent ts i) ≡ false → some_ends (rest_children i ts) ≡ some_ends ts → some_ends (rest_children (i + 1) ts) ≡ some_ends ts
ends_later ts i h e inv = let next : i + 1 ≡ suc i = omega arith in ap (λ k. some_ends (rest_children k ts)) next ∙ sym (ap (λ b. b || some_ends (rest_children (suc i) ts)) e) ∙ sym (ap some_ends (next_child ts i h)) ∙ inv

pub ends_nowhere : (ts : Trees) (i : ℕ) → count ts ≤ i → some_ends (rest_children i ts) ≡ some_ends ts → false ≡ some_ends ts
ends_nowhere ts i h inv = sym (ap some_ends (no_rest ts i h)) ∙ inv

pub below : (t : Tree) → node_counts (children t) + 1 ≡ node_count t
below (node h xs n ts) = omega arith

pub list_ends : (t : Tree) → shape_of t ≡ shape.Listed → is_terminated t ≡ any (are_terminated (children t))
list_ends (node shape.Listed xs n ts) s = refl
list_ends t s = absurd (cc s)

pub block_ends : (t : Tree) → shape_of t ≡ shape.BlockStatement → count (children t) ≡ 1 → is_terminated t ≡ is_terminated (part t 0)
block_ends (node shape.BlockStatement xs n (a ▸ none)) s e = refl
block_ends t s e = absurd (cc (s, e))

pub block_goes_on : (t : Tree) → shape_of t ≡ shape.BlockStatement → (count (children t) ≡ 1 → ⊥) → is_terminated t ≡ false
block_goes_on (node shape.BlockStatement xs n (a ▸ none)) s e = absurd (e refl)
block_goes_on (node shape.BlockStatement xs n ts) s e = refl
block_goes_on t s e = absurd (cc s)

pub if_ends : (t : Tree) → shape_of t ≡ shape.IfStatement → count (children t) ≡ 3 → is_terminated t ≡ is_terminated (part t 1) && is_terminated (part t 2)
if_ends (node shape.IfStatement xs n (a ▸ (b ▸ (c ▸ none)))) s e = refl
if_ends t s e = absurd (cc (s, e))

pub if_goes_on : (t : Tree) → shape_of t ≡ shape.IfStatement → (count (children t) ≡ 3 → ⊥) → is_terminated t ≡ false
if_goes_on (node shape.IfStatement xs n (a ▸ (b ▸ (c ▸ none)))) s e = absurd (e refl)
if_goes_on (node shape.IfStatement xs n ts) s e = refl
if_goes_on t s e = absurd (cc s)

pub try_ends : (t : Tree) → shape_of t ≡ shape.TryStatement → count (children t) ≡ 3 → is_terminated t ≡ is_terminated (part t 2) || (is_terminated (part t 0) && is_terminated (part t 1))
try_ends (node shape.TryStatement xs n (a ▸ (b ▸ (c ▸ none)))) s e = refl
try_ends t s e = absurd (cc (s, e))

pub try_goes_on : (t : Tree) → shape_of t ≡ shape.TryStatement → (count (children t) ≡ 3 → ⊥) → is_terminated t ≡ false
try_goes_on (node shape.TryStatement xs n (a ▸ (b ▸ (c ▸ none)))) s e = absurd (e refl)
try_goes_on (node shape.TryStatement xs n ts) s e = refl
try_goes_on t s e = absurd (cc s)

pub catch_ends : (t : Tree) → shape_of t ≡ shape.CatchClause → count (children t) ≡ 2 → is_terminated t ≡ is_terminated (part t 1)
catch_ends (node shape.CatchClause xs n (a ▸ (b ▸ none))) s e = refl
catch_ends t s e = absurd (cc (s, e))

pub catch_goes_on : (t : Tree) → shape_of t ≡ shape.CatchClause → (count (children t) ≡ 2 → ⊥) → is_terminated t ≡ false
catch_goes_on (node shape.CatchClause xs n (a ▸ (b ▸ none))) s e = absurd (e refl)
catch_goes_on (node shape.CatchClause xs n ts) s e = refl
catch_goes_on t s e = absurd (cc s)

-- ---- nothing is declared

pub operand_declares : (t : Tree) → shape_of t ≡ shape.UnaryExpression LogicalNot → 0 < count (children t) → declares_nothing t ≡ declares_nothing (part t 0)
operand_declares (node (shape.UnaryExpression LogicalNot) xs n none) s e = absurd (omega (arith, e))
operand_declares (node (shape.UnaryExpression LogicalNot) xs n (a ▸ ts)) s e = refl
operand_declares t s e = absurd (cc s)

pub no_operand : (t : Tree) → shape_of t ≡ shape.UnaryExpression LogicalNot → count (children t) ≤ 0 → declares_nothing t ≡ false
no_operand (node (shape.UnaryExpression LogicalNot) xs n none) s e = refl
no_operand (node (shape.UnaryExpression LogicalNot) xs n (a ▸ ts)) s e = absurd (omega (arith, e))
no_operand t s e = absurd (cc s)

-- ---- parts

pub same_parts : (t : Tree) (i : ℕ) (x : Tree) → count (children (with_part t i x)) ≡ count (children t)
same_parts (node h xs n ts) i x = go ts i
  where
    go : (ts : Trees) (i : ℕ) → count (with_child ts i x) ≡ count ts
    go none i = refl
    go (t ▸ ts) zero = refl
    go (t ▸ ts) (suc i) = ap suc (go ts i)

pub part_twice : (t : Tree) (i : ℕ) (x y : Tree) → with_part (with_part t i x) i y ≡ with_part t i y
part_twice (node h xs n ts) i x y = ap (node h xs n) (go ts i)
  where
    go : (ts : Trees) (i : ℕ) → with_child (with_child ts i x) i y ≡ with_child ts i y
    go none i = refl
    go (t ▸ ts) zero = refl
    go (t ▸ ts) (suc i) = ap (λ us. t ▸ us) (go ts i)

-- Tests of statements and expressions by their children.
use Rattle.std.proofs.Common.{◌≡◌, ℕ, suc, ◌+◌, ◌<◌, ◌≤◌, true, false, refl, sym, ap, ◌∙◌, arith, add-one}
use Rattle.std.specs.Prelude.{◌&&◌}
use Rattle.mini_model.specs.declared.operator.UnaryOperator.TheVariants.{LogicalNot}
use Rattle.mini_model.specs.declared.shape.Shape.TheVariants as shape
use Rattle.mini_model.specs.Tree.{Tree, Trees, node, none, ◌▸◌, child_or_absent, children, count, is_absent, shape_of}
use Rattle.mini_node.specs.Children.{part, rest_children}
use Rattle.mini_node.specs.Walks.{next_child, no_child, no_rest}
use Rattle.mini_rows.specs.Lists.{are_unscoped, declares_nothing, is_unscoped}

pub no_third : (t : Tree) → count (children t) ≤ 2 → is_absent (part t 2) ≡ true
no_third t h = ap is_absent (no_child (children t) 2 h)

pub operand_declares : (t : Tree) → shape_of t ≡ shape.UnaryExpression LogicalNot → 0 < count (children t) → declares_nothing t ≡ declares_nothing (part t 0)
operand_declares (node (shape.UnaryExpression LogicalNot) xs n none) s e = absurd (omega (arith, e))
operand_declares (node (shape.UnaryExpression LogicalNot) xs n (a ▸ ts)) s e = refl
operand_declares t s e = absurd (cc s)

pub no_operand : (t : Tree) → shape_of t ≡ shape.UnaryExpression LogicalNot → count (children t) ≤ 0 → declares_nothing t ≡ false
no_operand (node (shape.UnaryExpression LogicalNot) xs n none) s e = refl
no_operand (node (shape.UnaryExpression LogicalNot) xs n (a ▸ ts)) s e = absurd (omega (arith, e))
no_operand t s e = absurd (cc s)

-- ---- all are unscoped

pub unscoped_stops : (ts : Trees) (i : ℕ) (c : Tree) → i < count ts → c ≡ child_or_absent ts i → is_unscoped c ≡ false → are_unscoped (rest_children i ts) ≡ are_unscoped ts → false ≡ are_unscoped ts
unscoped_stops ts i c h d e inv = sym (ap (λ b. b && are_unscoped (rest_children (suc i) ts)) (sym (ap is_unscoped d) ∙ e)) ∙ sym (ap are_unscoped (next_child ts i h)) ∙ inv

pub unscoped_goes_on : (ts : Trees) (i : ℕ) (c : Tree) → i < count ts → c ≡ child_or_absent ts i → is_unscoped c ≡ true → are_unscoped (rest_children i ts) ≡ are_unscoped ts → are_unscoped (rest_children (i + 1) ts) ≡ are_unscoped ts
unscoped_goes_on ts i c h d e inv =
    ap (λ k. are_unscoped (rest_children k ts)) (add-one i) ∙ sym (ap (λ b. b && are_unscoped (rest_children (suc i) ts)) (sym (ap is_unscoped d) ∙ e)) ∙ sym (ap are_unscoped (next_child ts i h)) ∙ inv

pub unscoped_ends : (ts : Trees) (i : ℕ) → count ts ≤ i → are_unscoped (rest_children i ts) ≡ are_unscoped ts → true ≡ are_unscoped ts
unscoped_ends ts i h inv = sym (ap are_unscoped (no_rest ts i h)) ∙ inv

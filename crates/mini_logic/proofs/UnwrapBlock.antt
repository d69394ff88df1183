-- The rewrite is that of row 79.
use Rattle.std.proofs.Common.{◌≡◌, ℕ, zero, Bool, true, false, [], refl, sym, ap, subst, ◌∙◌}
use Rattle.std.specs.Prelude.{◌&&◌, not, Some, None, if◌then◌else◌}
use Rattle.std.proofs.lemmas.Bool.{and_parts, false≢true}
use Rattle.std.proofs.lemmas.Option.{none-some}
use Rattle.mini_model.specs.declared.shape.Shape.TheVariants as shape
use Rattle.mini_model.specs.Tree.{Tree, Trees, node, none, ◌▸◌, children, if_else}
use Rattle.mini_node.specs.Children.{part}
use Rattle.mini_node.specs.Kinds.{is_block, is_if_statement}
use Rattle.mini_node.specs.Made.{block_is, if_statement_is}
use Rattle.mini_rows.specs.Lists.{block, is_unscoped}
use Rattle.mini_rows.specs.Branches.{has_else, Surrounding, Consequent, Alternate, WhileBody, DoBody, ForBody, InBody, OfBody, around, keeps_block, Row79}
use Rattle.mini_logic.specs.Negating.{has_one}
use Rattle.mini_logic.specs.UnwrapBlock.{first_statement, holds_one, holds_bare, some_if, body_place, held_at, branch_place, place, unwrapped_at}

-- ---- what a test says

only_one : (ts : Trees) → has_one ts ≡ true → ts ≡ part (node shape.Listed [] 0 ts) 0 ▸ none
only_one (t ▸ none) e = refl
only_one ts e = absurd (false≢true e)

held : (t : Tree) → holds_one t ≡ true → (t ≡ block (first_statement t ▸ none)) × (is_unscoped (first_statement t) ≡ true)
held t e =
    let (is, rest) = and_parts (is_block t) (has_one (children (part t 0)) && is_unscoped (first_statement t)) e in
    let (one, unscoped) = and_parts (has_one (children (part t 0))) (is_unscoped (first_statement t)) rest in
    (block_is t is ∙ ap block (only_one (children (part t 0)) one), unscoped)

pub some_then : (b : Bool) (j i : ℕ) → some_if b j ≡ Some i → (b ≡ true) × (j ≡ i)
some_then true j i e = (refl, cc e)
some_then false j i e = absurd (cc e)

-- ---- what is written is what the row writes

unwrapped : (k : Surrounding) (b : Tree) → holds_one b ≡ true → keeps_block k (first_statement b) ≡ false → Row79 (around k b) (around k (first_statement b))
unwrapped k b h e = let is = held b h in record { place = k; statement = first_statement b; unscoped = is.1; bare = e; shape = ap (around k) is.0; written = refl }

not_true : (b : Bool) → not b ≡ true → b ≡ false
not_true true e = absurd (cc e)
not_true false e = refl

branch_row : (a b c : Tree) (i : ℕ) → branch_place (if_else a b c) ≡ Some i → Row79 (if_else a b c) (unwrapped_at (if_else a b c) i)
branch_row a b c i e = go (holds_bare b) refl e
  where
    go : (d : Bool) → holds_bare b ≡ d → (if d then Some 1 else some_if (holds_one c) 2) ≡ Some i → Row79 (if_else a b c) (unwrapped_at (if_else a b c) i)
    go true h e =
        let (one, bare) = and_parts (holds_one b) (not (has_else (first_statement b))) h in
        let at : 1 ≡ i = cc e in
        subst (λ j. Row79 (if_else a b c) (unwrapped_at (if_else a b c) j)) at (unwrapped (Consequent a c) b one (not_true (has_else (first_statement b)) bare))
    go false h e = let (one, at) = some_then (holds_one c) 2 i e in subst (λ j. Row79 (if_else a b c) (unwrapped_at (if_else a b c) j)) at (unwrapped (Alternate a b) c one refl)

loop_row : (t : Tree) (i : ℕ) → held_at t (body_place t) ≡ Some i → Row79 t (unwrapped_at t i)
loop_row (node shape.WhileStatement [] zero (a ▸ (b ▸ none))) i e = let (one, at) = some_then (holds_one b) 1 i e in subst (λ j. Row79 (around (WhileBody a) b) (unwrapped_at (around (WhileBody a) b) j)) at (unwrapped (WhileBody a) b one refl)
loop_row (node shape.DoWhileStatement [] zero (b ▸ (a ▸ none))) i e = let (one, at) = some_then (holds_one b) 0 i e in subst (λ j. Row79 (around (DoBody a) b) (unwrapped_at (around (DoBody a) b) j)) at (unwrapped (DoBody a) b one refl)
loop_row (node shape.ForStatement [] zero (x ▸ (y ▸ (z ▸ (b ▸ none))))) i e = let (one, at) = some_then (holds_one b) 3 i e in subst (λ j. Row79 (around (ForBody x y z) b) (unwrapped_at (around (ForBody x y z) b) j)) at (unwrapped (ForBody x y z) b one refl)
loop_row (node shape.ForInStatement [] zero (x ▸ (y ▸ (b ▸ none)))) i e = let (one, at) = some_then (holds_one b) 2 i e in subst (λ j. Row79 (around (InBody x y) b) (unwrapped_at (around (InBody x y) b) j)) at (unwrapped (InBody x y) b one refl)
loop_row (node shape.ForOfStatement [] zero (x ▸ (y ▸ (b ▸ none)))) i e = let (one, at) = some_then (holds_one b) 2 i e in subst (λ j. Row79 (around (OfBody x y) b) (unwrapped_at (around (OfBody x y) b) j)) at (unwrapped (OfBody x y) b one refl)
loop_row t i e = absurd (none-some i e)

pub row_at : (t : Tree) (i : ℕ) → place t ≡ Some i → Row79 t (unwrapped_at t i)
row_at t i e = go (is_if_statement t) refl e
  where
    go : (d : Bool) → is_if_statement t ≡ d → (if d then branch_place t else held_at t (body_place t)) ≡ Some i → Row79 t (unwrapped_at t i)
    go true h e =
        let is = if_statement_is t h in
        subst (λ n. Row79 n (unwrapped_at n i)) (sym is) (branch_row (part t 0) (part t 1) (part t 2) i (sym (ap branch_place is) ∙ e))
    go false h e = loop_row t i e

-- ---- where nothing is written the row doesn't read it

pub never : (b : Bool) (i : ℕ) → b ≡ true → some_if b i ≡ None → ⊥
never true i h e = cc e
never false i h e = cc h

no_place : (k : Surrounding) (c : Tree) → is_unscoped c ≡ true → keeps_block k c ≡ false → place (around k (block (c ▸ none))) ≡ None → ⊥
no_place (Consequent a u) c h k e = go (is_unscoped c) (has_else c) h k e
  where
    go : (x y : Bool) → x ≡ true → y ≡ false → (if x && not y then Some 1 else some_if (holds_one u) 2) ≡ None → ⊥
    go true false f g e = cc e
    go true true f g e = cc g
    go false y f g e = cc f
no_place (Alternate a s) c h k e = go (holds_bare s) e
  where
    go : (d : Bool) → (if d then Some 1 else some_if (is_unscoped c) 2) ≡ None → ⊥
    go true e = cc e
    go false e = never (is_unscoped c) 2 h e
no_place (WhileBody a) c h k e = never (is_unscoped c) 1 h e
no_place (DoBody a) c h k e = never (is_unscoped c) 0 h e
no_place (ForBody x y z) c h k e = never (is_unscoped c) 3 h e
no_place (InBody x y) c h k e = never (is_unscoped c) 2 h e
no_place (OfBody x y) c h k e = never (is_unscoped c) 2 h e

pub misses : (t w : Tree) → place t ≡ None → Row79 t w → ⊥
misses t w e r = no_place r.place r.statement r.unscoped r.bare (sym (ap place r.shape) ∙ e)

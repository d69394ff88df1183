-- What stands before the read of a name, part by part.
use Rattle.std.proofs.Common.{◌≡◌, ℕ, suc, ◌+◌, ◌<◌, ◌≤◌, Bool, true, false, refl, sym, ap, ◌∙◌, add-one, arith}
use Rattle.std.specs.Prelude.{◌&&◌, ◌||◌, if◌then◌else◌}
use Rattle.mini_model.specs.declared.name.Name.{Name}
use Rattle.mini_model.specs.declared.shape.Shape.{Shape}
use Rattle.mini_model.specs.Tree.{Tree, Trees, node, none, ◌▸◌, count, child_or_absent, children, shape_of}
use Rattle.mini_node.specs.Children.{rest_children}
use Rattle.mini_node.specs.Walks.{from_first, next_child, no_rest}
use Rattle.mini_rows.specs.Past.{Kept, passes_any, passes_any_item, passes_any_at, is_certain, are_past_in, all_past}
use Rattle.mini_rows.specs.declared.gathered.Gathered.{Gathered}
use Rattle.mini_rows.specs.declared.gathered.Gathered.TheVariants.{Values as OfValues}
use Rattle.mini_rows.specs.Unused.{names, begins_with, gathered_below}

pub or_none : (b : Bool) → b ≡ (b || false)
or_none true = refl
or_none false = refl

pub begins_none : (x : Name) (ts : Trees) → count ts ≡ 0 → begins_with x ts ≡ true
begins_none x none e = refl
begins_none x (t ▸ ts) e = absurd (omega (arith, e))

pub begins_some : (x : Name) (ts : Trees) (t : Tree) → 0 < count ts → t ≡ child_or_absent ts 0 → begins_with x ts ≡ names x t
begins_some x none t h e = absurd (omega (arith, h))
begins_some x (u ▸ ts) t h e = ap (names x) (sym e)

pub values_pass_any : (H : Kept) (r t : Tree) → passes_any_item H OfValues r t ≡ passes_any H r t
values_pass_any H r t = by (passes_any H r t)
  where
    by : (b : Bool) → (b || false) ≡ b
    by true = refl
    by false = refl

module _ (H : Kept) (x : Name) (m : Gathered) (r : Tree) where
  pub opened : (n : Tree) → are_past_in H x m r n ≡ (is_certain x m r (shape_of n) (children n) && all_past H x m r (shape_of n) 0 (children n))
  opened (node h xs k ts) = refl

module _ (H : Kept) (x : Name) (m : Gathered) (r : Tree) (s : Shape) where
  abbrev one : ℕ → Tree → Trees → Bool → Bool
  one i t ts c = if c then are_past_in H x (gathered_below m s i) r t else (passes_any_at H m r s t && all_past H x m r s (suc i) ts)

  step : (ts : Trees) (i : ℕ) (t : Tree) (b : Bool) → i < count ts → t ≡ child_or_absent ts i → b ≡ names x t → all_past H x m r s i (rest_children i ts) ≡ one i t (rest_children (suc i) ts) b
  step ts i t b h e f =
      ap (all_past H x m r s i) (next_child ts i h)
      ∙ ap (λ u. one i u (rest_children (suc i) ts) (names x u)) (sym e)
      ∙ ap (one i t (rest_children (suc i) ts)) (sym f)

  pub past_first : (ts : Trees) → all_past H x m r s 0 ts ≡ all_past H x m r s 0 (rest_children 0 ts)
  past_first ts = ap (all_past H x m r s 0) (sym (from_first ts))

  pub past_there : (ts : Trees) (i : ℕ) (t : Tree) (b : Bool) → i < count ts → t ≡ child_or_absent ts i → b ≡ names x t → b ≡ true → all_past H x m r s i (rest_children i ts) ≡ are_past_in H x (gathered_below m s i) r t
  past_there ts i t b h e f g = step ts i t b h e f ∙ ap (one i t (rest_children (suc i) ts)) g

  -- it doesn't mention the name
  passed : (ts : Trees) (i : ℕ) (t : Tree) (b c : Bool) → i < count ts → t ≡ child_or_absent ts i → b ≡ names x t → b ≡ false → c ≡ passes_any_at H m r s t → all_past H x m r s i (rest_children i ts) ≡ (c && all_past H x m r s (suc i) (rest_children (suc i) ts))
  passed ts i t b c h e f g p = step ts i t b h e f ∙ ap (one i t (rest_children (suc i) ts)) g ∙ ap (λ d. d && all_past H x m r s (suc i) (rest_children (suc i) ts)) (sym p)

  pub past_stopped : (ts : Trees) (i : ℕ) (t : Tree) (b c : Bool) → i < count ts → t ≡ child_or_absent ts i → b ≡ names x t → b ≡ false → c ≡ passes_any_at H m r s t → c ≡ false → all_past H x m r s i (rest_children i ts) ≡ false
  past_stopped ts i t b c h e f g p q = passed ts i t b c h e f g p ∙ ap (λ d. d && all_past H x m r s (suc i) (rest_children (suc i) ts)) q

  pub past_step : (ts : Trees) (i : ℕ) (t : Tree) (b c : Bool) → i < count ts → t ≡ child_or_absent ts i → b ≡ names x t → b ≡ false → c ≡ passes_any_at H m r s t → c ≡ true → all_past H x m r s i (rest_children i ts) ≡ all_past H x m r s (i + 1) (rest_children (i + 1) ts)
  past_step ts i t b c h e f g p q = passed ts i t b c h e f g p ∙ ap (λ d. d && all_past H x m r s (suc i) (rest_children (suc i) ts)) q ∙ ap (λ j. all_past H x m r s j (rest_children j ts)) (sym (add-one i))

  pub past_end : (ts : Trees) (i : ℕ) → count ts ≤ i → all_past H x m r s i (rest_children i ts) ≡ true
  past_end ts i h = ap (all_past H x m r s i) (no_rest ts i h)

-- The value of an operand, by how many operators are looked through.
use Rattle.std.proofs.Common.{◌≡◌, ◌<◌, ◌≤◌, ℕ, zero, suc, ◌∙◌, Bool, true, false, Option, Some, None, refl, sym, ap, arith}
use Rattle.std.specs.Prelude.{◌-◌}
use Rattle.mini_model.specs.Tree.{Tree, Trees, none, ◌▸◌, count, child_or_absent}
use Rattle.mini_laws.specs.Value.{Value, choose}
use Rattle.mini_terms.specs.Folds.{is_effect_free}
use Rattle.mini_terms.specs.Calculated.{leaf_value, calculated_over, last_value, chosen_over, or_else, value_within, free_value, calculated}

pub at_zero : (b : Bool) (t : Tree) (d : ℕ) (v : Option Value) → d ≡ 0 → v ≡ leaf_value t → v ≡ value_within b d t
at_zero b t d v h e = e ∙ sym (ap (λ k. value_within b k t) h)

-- what is no unary and no binary operator
abbrev Others : Bool → ℕ → Tree → Option Value
Others b d t = or_else (chosen_over b (value_within b d) t) (leaf_value t)

-- one operator is looked through
deeper : (b : Bool) (t : Tree) (d : ℕ) (c : Option Value) → (d ≡ 0 → ⊥) → c ≡ calculated_over b (value_within b (d - 1)) t → or_else c (Others b (d - 1) t) ≡ value_within b d t
deeper b t zero c h e = absurd (h refl)
deeper b t (suc k) c h e =
    ap (λ x. or_else x (Others b (suc k - 1) t)) e
    ∙ ap (λ j. or_else (calculated_over b (value_within b j) t) (Others b j t)) (one_less k)
  where
    one_less : (k : ℕ) → suc k - 1 ≡ k
    one_less k = omega arith

pub calculated_first : (b : Bool) (t : Tree) (d : ℕ) (v : Value) → (d ≡ 0 → ⊥) → Some v ≡ calculated_over b (value_within b (d - 1)) t → Some v ≡ value_within b d t
calculated_first b t d v h e = deeper b t d (Some v) h e

pub others_then : (b : Bool) (t : Tree) (d : ℕ) (v : Option Value) → (d ≡ 0 → ⊥) → None ≡ calculated_over b (value_within b (d - 1)) t → v ≡ or_else (chosen_over b (value_within b (d - 1)) t) (leaf_value t) → v ≡ value_within b d t
others_then b t d v h e k = k ∙ deeper b t d None h e

-- the last of some trees

pub last_of : (f : Tree → Option Value) (ts : Trees) (v : Option Value) → 0 < count ts → v ≡ f (child_or_absent ts (count ts - 1)) → v ≡ last_value f ts
last_of f none v h e = absurd (omega (arith, h))
last_of f (t ▸ ts) v h e = let last : count (t ▸ ts) - 1 ≡ count ts = omega arith in e ∙ ap (λ i. f (child_or_absent (t ▸ ts) i)) last

pub none_last : (f : Tree → Option Value) (ts : Trees) → count ts ≤ 0 → None ≡ last_value f ts
none_last f none h = refl
none_last f (t ▸ ts) h = absurd (omega (arith, h))

none_left : (b : Bool) (c : Option Value) → None ≡ c → None ≡ choose b c None
none_left true c e = e
none_left false c e = refl

pub no_constant : (t : Tree) → None ≡ calculated_over true free_value t → None ≡ calculated t
no_constant t e = none_left (is_effect_free t) (calculated_over true free_value t) e

-- What is arranged names `arguments` no more, and has no other number.
use Rattle.std.specs.Prelude.{ℕ, suc, ◌≡◌, refl, nat_eq, Bool, true, false, ◌&&◌, ◌||◌, List, [], ◌∷◌}
use Rattle.std.proofs.Common.{ap, ◌∙◌, sym, arith, true≢false}
use Rattle.std.proofs.lemmas.Bool.{eqb-true}
use Rattle.mini_model.specs.Tree.{Tree, Trees, node, none, ◌▸◌}
use Rattle.mini_laws.specs.Shared.{is_of_function, names_arguments, any_names_arguments, is_name_of_variable, is_arguments}
use Rattle.mini_laws.specs.Foreign.{has_number, any_has_number}
use Rattle.mini_rows.specs.Sketches.{Head, AList, shape_by, Asked, asked_below, leaps}
use Rattle.mini_rows.proofs.Arranging.{Below, Leaping, Any, Local}

pub none_of : (a b : Bool) → (a || b) ≡ false → (a ≡ false) × (b ≡ false)
none_of true b e = absurd (true≢false e)
none_of false b e = (refl, e)

pub leaping : (ls : List _) → Leaping Any ls
leaping [] = tt
leaping (l ∷ ls) = (tt, leaping ls)

no_name : (h : Head) → (is_name_of_variable (shape_by h) && is_arguments []) ≡ false
no_name AList = refl
no_name h = refl

of_function : (h : Head) (i : ℕ) → is_of_function (shape_by h) i ≡ true
of_function AList i = refl
of_function h i = refl

abbrev Spares : Asked → Tree → Type 0
Spares c t = names_arguments t ≡ false

pub spares_below : (cs : ℕ → Asked) (g : ℕ → Bool) → ((j : ℕ) → g j ≡ true) → (i : ℕ) (ts : Trees) → any_names_arguments g i ts ≡ false → Below Spares cs i ts
unfolding names_arguments
spares_below cs g w i none a = tt
spares_below cs g w i (t ▸ ts) a =
    let (x, y) = none_of (g i && names_arguments t) (any_names_arguments g (suc i) ts) a in
    (ap (λ b. b && names_arguments t) (sym (w i)) ∙ x, spares_below cs g w (suc i) ts y)

pub below_spares : (cs : ℕ → Asked) (g : ℕ → Bool) → ((j : ℕ) → g j ≡ true) → (i : ℕ) (ts : Trees) → Below Spares cs i ts → any_names_arguments g i ts ≡ false
unfolding names_arguments
below_spares cs g w i none a = refl
below_spares cs g w i (t ▸ ts) a = λ j. (ap (λ b. b && names_arguments t) (w i) ∙ a.0) j || below_spares cs g w (suc i) ts a.1 j

pub spares_local : Local Any Spares
unfolding names_arguments
spares_local = record {
  down = λ h c ts p a. (leaping (leaps h), spares_below (asked_below h c) (is_of_function (shape_by h)) (of_function h) 0 ts (none_of (is_name_of_variable (shape_by h) && is_arguments []) (any_names_arguments (is_of_function (shape_by h)) 0 ts) a).1);
  up = λ h c ts p l a. λ j. no_name h j || below_spares (asked_below h c) (is_of_function (shape_by h)) (of_function h) 0 ts a j;
}

module _ (b : ℕ) where
  abbrev Unnumbered : Asked → Tree → Type 0
  Unnumbered c t = has_number (suc b) t ≡ false

  pub numbers_below : (cs : ℕ → Asked) (i : ℕ) (ts : Trees) → any_has_number (suc b) ts ≡ false → Below Unnumbered cs i ts
  unfolding has_number
  numbers_below cs i none a = tt
  numbers_below cs i (t ▸ ts) a = let (x, y) = none_of (has_number (suc b) t) (any_has_number (suc b) ts) a in (x, numbers_below cs (suc i) ts y)

  pub below_numbers : (cs : ℕ → Asked) (i : ℕ) (ts : Trees) → Below Unnumbered cs i ts → any_has_number (suc b) ts ≡ false
  unfolding has_number
  below_numbers cs i none a = refl
  below_numbers cs i (t ▸ ts) a = λ j. a.0 j || below_numbers cs (suc i) ts a.1 j

  pub unlike : nat_eq 0 (suc b) ≡ false
  unlike = by (nat_eq 0 (suc b)) refl
    where
      by : (c : Bool) → nat_eq 0 (suc b) ≡ c → c ≡ false
      by true e = let k : 0 ≡ suc b = eqb-true 0 (suc b) e in absurd (omega (arith, k))
      by false e = refl

  pub numbers_local : Local Any Unnumbered
  unfolding has_number
  numbers_local = record {
    down = λ h c ts p a. (leaping (leaps h), numbers_below (asked_below h c) 0 ts (none_of (nat_eq 0 (suc b)) (any_has_number (suc b) ts) a).1);
    up = λ h c ts p l a. λ j. unlike j || below_numbers (asked_below h c) 0 ts a j;
  }

pub root_number : (h : Head) (ts : Trees) → has_number 0 (node (shape_by h) [] 0 ts) ≡ true
unfolding has_number
root_number h ts = refl

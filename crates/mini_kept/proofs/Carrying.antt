-- Numbers in preorder stand for the places of the numbers that a tree had.
use Rattle.std.specs.Prelude.{ℕ, zero, suc, ◌+◌, ◌≤◌, ◌≡◌, refl, nat_eq, Bool, true, false, List, [], ◌∷◌, ◌++◌, length, Option, Some, None, option_and_then, unwrap_or, if◌then◌else◌}
use Rattle.std.proofs.Common.{ap, ◌∙◌, sym, subst, arith}
use Rattle.std.proofs.lemmas.Bool.{eqb-true, eq-eqb}
use Rattle.std.proofs.Math.Dec.{eqb-zero-suc, eqb-suc-zero}
use Rattle.mini_model.specs.declared.name.Name.{Name}
use Rattle.mini_model.specs.declared.shape.Shape.{Shape}
use Rattle.mini_model.specs.Tree.{Tree, Trees, node, none, ◌▸◌}
use Rattle.mini_accept.specs.Numbered.{number_after, next_after, next_among}
use Rattle.mini_kept.specs.Carried.{renumbered, all_renumbered, numbers, all_numbers, number_of, number_at, NumberedAlike, AllNumberedAlike}

-- the list goes on with these from a place on
abbrev GoesOn : List ℕ → ℕ → List ℕ → Type 0
GoesOn ks n [] = Unit {0}
GoesOn ks n (m ∷ ms) = (number_at ks n ≡ m) × GoesOn ks (suc n) ms

goes_on_first : (ks : List ℕ) (n : ℕ) (xs ys : List ℕ) → GoesOn ks n (xs ++ ys) → GoesOn ks n xs
goes_on_first ks n [] ys g = tt
goes_on_first ks n (x ∷ xs) ys (e, g) = (e, goes_on_first ks (suc n) xs ys g)

goes_on_rest : (ks : List ℕ) (n m : ℕ) (xs ys : List ℕ) → m ≡ n + length xs → GoesOn ks n (xs ++ ys) → GoesOn ks m ys
goes_on_rest ks n m [] ys e g = subst (λ k. GoesOn ks k ys) (omega (arith, e)) g
goes_on_rest ks n m (x ∷ xs) ys e (f, g) = goes_on_rest ks (suc n) m xs ys (omega (arith, e)) g

goes_on_behind : (k : ℕ) (ks : List ℕ) (n : ℕ) (xs : List ℕ) → GoesOn ks n xs → GoesOn (k ∷ ks) (suc n) xs
goes_on_behind k ks n [] g = tt
goes_on_behind k ks n (x ∷ xs) (e, g) = (e, goes_on_behind k ks (suc n) xs g)

goes_on_all : (ks : List ℕ) → GoesOn ks 0 ks
goes_on_all [] = tt
goes_on_all (k ∷ ks) = (refl, goes_on_behind k ks 0 ks (goes_on_all ks))

pub both_lengths : (xs ys : List ℕ) → length (xs ++ ys) ≡ length xs + length ys
both_lengths [] ys = omega arith
both_lengths (x ∷ xs) ys = omega (arith, both_lengths xs ys)

pub some_same : (n m : ℕ) → Some n ≡ Some m → n ≡ m
some_same n m e = ap (λ o. unwrap_or o 0) e

pub then_some : (f : ℕ → Option ℕ) (o : Option ℕ) (m : ℕ) → option_and_then f o ≡ Some m → (k : ℕ) × (o ≡ Some k) × (f k ≡ Some m)
then_some f None m e = absurd (cc e)
then_some f (Some k) m e = (k, refl, e)

-- a node with the next number, and one without
numbered_by : (b : Bool) (m n l : ℕ) → nat_eq (suc m) n ≡ b → (if b then Some (suc n) else (if nat_eq (suc m) 0 then Some n else None)) ≡ Some l → (suc m ≡ n) × (l ≡ suc n)
numbered_by true m n l e f = (eqb-true (suc m) n e, sym (some_same (suc n) l f))
numbered_by false m n l e f = absurd (cc (sym (ap (λ b. if b then Some n else None) (eqb-suc-zero m)) ∙ f))

pub numbered_next : (m n l : ℕ) → number_after (suc m) n ≡ Some l → (suc m ≡ n) × (l ≡ suc n)
numbered_next m n l e = numbered_by (nat_eq (suc m) n) m n l refl e

pub unnumbered_next : (n l : ℕ) → 1 ≤ n → number_after 0 n ≡ Some l → l ≡ n
unnumbered_next zero l h e = absurd (omega arith)
unnumbered_next (suc n) l h e = sym (some_same (suc n) l (sym (ap (λ b. if b then Some (suc (suc n)) else (if nat_eq 0 0 then Some (suc n) else None)) (eqb-zero-suc n)) ∙ e))

abbrev Carried : List ℕ → ℕ → ℕ → Tree → Tree → Type 0
Carried ks n l t u = (renumbered (number_at ks) t ≡ u) × (l ≡ n + length (numbers u))

abbrev AllCarried : List ℕ → ℕ → ℕ → Trees → Trees → Type 0
AllCarried ks n l ts us = (all_renumbered (number_at ks) ts ≡ us) × (l ≡ n + length (all_numbers us))

same_node : (h h' : Shape) (xs xs' : List Name) (n n' : ℕ) (ts ts' : Trees) → h ≡ h' → xs ≡ xs' → n ≡ n' → ts ≡ ts' → node h xs n ts ≡ node h' xs' n' ts'
same_node h h' xs xs' n n' ts ts' a b c d = ap (λ z. node z xs n ts) a ∙ ap (λ z. node h' z n ts) b ∙ ap (λ z. node h' xs' z ts) c ∙ ap (node h' xs' n') d

mutual
  unfolding renumbered numbers

  carried_tree : (ks : List ℕ) → number_at ks 0 ≡ 0 → (t u : Tree) → NumberedAlike t u → (n l : ℕ) → 1 ≤ n → next_after t n ≡ Some l → GoesOn ks n (numbers u) → Carried ks n l t u
  carried_tree ks z (node h xs zero ts) (node h' xs' zero us) (a, b, tt, c) n l p e g =
      let (k, own, rest) = then_some (next_among ts) (number_after 0 n) l e in
      let same = unnumbered_next n k p own in
      let (r, s) = carried_trees ks z ts us c n l p (subst (λ j. next_among ts j ≡ Some l) same rest) g in
      (same_node h h' xs xs' (number_at ks 0) 0 (all_renumbered (number_at ks) ts) us a b z r, s)
  carried_tree ks z (node h xs (suc m) ts) (node h' xs' (suc m') us) (a, b, tt, c) n l p e (f, g) =
      let (k, own, rest) = then_some (next_among ts) (number_after (suc m) n) l e in
      let (at, next) = numbered_next m n k own in
      let (r, s) = carried_trees ks z ts us c (suc n) l (omega arith) (subst (λ j. next_among ts j ≡ Some l) next rest) g in
      (same_node h h' xs xs' (number_at ks (suc m)) (suc m') (all_renumbered (number_at ks) ts) us a b (ap (number_at ks) at ∙ f) r, omega (arith, s))
  carried_tree ks z (node h xs zero ts) (node h' xs' (suc m') us) (a, b, x, c) n l p e g = absurd x
  carried_tree ks z (node h xs (suc m) ts) (node h' xs' zero us) (a, b, x, c) n l p e g = absurd x

  carried_trees : (ks : List ℕ) → number_at ks 0 ≡ 0 → (ts us : Trees) → AllNumberedAlike ts us → (n l : ℕ) → 1 ≤ n → next_among ts n ≡ Some l → GoesOn ks n (all_numbers us) → AllCarried ks n l ts us
  carried_trees ks z none none w n l p e g = (refl, omega (arith, some_same n l e))
  carried_trees ks z none (u ▸ us) w n l p e g = absurd w
  carried_trees ks z (t ▸ ts) none w n l p e g = absurd w
  carried_trees ks z (t ▸ ts) (u ▸ us) (v, w) n l p e g =
      let (k, first, rest) = then_some (next_among ts) (next_after t n) l e in
      let (r, s) = carried_tree ks z t u v n k p first (goes_on_first ks n (numbers u) (all_numbers us) g) in
      let (q, o) = carried_trees ks z ts us w k l (omega (arith, p, s)) rest (goes_on_rest ks n k (numbers u) (all_numbers us) s g) in
      (ap (λ x. x ▸ all_renumbered (number_at ks) ts) r ∙ ap (λ x. u ▸ x) q, omega (arith, o, s, both_lengths (numbers u) (all_numbers us)))

-- the program itself has the number 0
pub root_next : (l : ℕ) → number_after 0 0 ≡ Some l → l ≡ 1
root_next l e = sym (some_same 1 l (sym (ap (λ b. if b then Some 1 else (if nat_eq 0 0 then Some 0 else None)) (eq-eqb 0 0 refl)) ∙ e))

pub numbers_carried : (t u : Tree) (n : ℕ) → next_after t 0 ≡ Some n → number_of u ≡ 0 → NumberedAlike t u → (renumbered (number_at (0 ∷ numbers u)) t ≡ u) × (n ≡ suc (length (numbers u)))
unfolding renumbered numbers
numbers_carried (node h xs zero ts) (node h' xs' zero us) n e o (a, b, tt, c) =
    let (k, own, rest) = then_some (next_among ts) (number_after 0 0) n e in
    let (r, s) = carried_trees (0 ∷ all_numbers us) refl ts us c 1 n (omega arith) (subst (λ j. next_among ts j ≡ Some n) (root_next k own) rest) (goes_on_behind 0 (all_numbers us) 0 (all_numbers us) (goes_on_all (all_numbers us))) in
    (same_node h h' xs xs' 0 0 (all_renumbered (number_at (0 ∷ all_numbers us)) ts) us a b refl r, omega (arith, s))
numbers_carried (node h xs (suc m) ts) (node h' xs' zero us) n e o (a, b, x, c) = absurd x
numbers_carried (node h xs m ts) (node h' xs' (suc m') us) n e o w = absurd (cc o)

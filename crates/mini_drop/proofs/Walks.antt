-- A list whose children are looked at from the last one on.
use Rattle.std.proofs.Common.{◌≡◌, ℕ, zero, suc, ◌+◌, ◌<◌, ◌≤◌, Bool, refl, sym, ap, ◌∙◌, subst, arith}
use Rattle.mini_model.specs.Tree.{Tree, Trees, node, none, ◌▸◌, count, child_or_absent, node_count, node_counts, shape_of, children}
use Rattle.mini_model.specs.declared.shape.Shape.{Shape}
use Rattle.mini_node.specs.Lends.{with_children}
use Rattle.mini_dead.specs.Pruned.{Spot, Role, spot_below, role, function_item, declaration_item, lone_item, Pruned, Prunings, later, later_all}
use Rattle.mini_dead.specs.Drops.{all_gone_count}
use Rattle.mini_dead.specs.Marked.{Mark, no_item, an_item, a_declarator, mark, marked_by, marked, all_marked}
use Rattle.mini_drop.specs.Asked.{items_of}
use Rattle.mini_drop.specs.Walk.{edited, lost_there, Lost, AllLost, LostAt}
use Rattle.mini_drop.proofs.Told.{mark_count, items_told}

module _ (S : ℕ → Bool) where
  -- the children from a place on have gone or lost what goes
  abbrev pub swept : Role → ℕ → ℕ → Trees → Trees
  swept r i zero ts = later_all (all_marked S r i ts)
  swept r i (suc k) none = none
  swept r i (suc k) (t ▸ ts) = t ▸ swept r (suc i) k ts

  abbrev pub swept_count : Role → ℕ → ℕ → Trees → ℕ
  swept_count r i zero ts = all_gone_count (all_marked S r i ts)
  swept_count r i (suc k) none = 0
  swept_count r i (suc k) (t ▸ ts) = swept_count r (suc i) k ts

  pub record Swept (r : Role) (k : ℕ) (old now : Trees) (n : ℕ) : Type 0 where
    pub left : now ≡ swept r 0 k old
    pub number : n ≡ swept_count r 0 k old

  none_swept : (r : Role) (i : ℕ) (ts : Trees) → swept r i (count ts) ts ≡ ts
  unfolding marked
  none_swept r i none = refl
  none_swept r i (t ▸ ts) = ap (λ us. t ▸ us) (none_swept r (suc i) ts)

  none_counted : (r : Role) (i : ℕ) (ts : Trees) → swept_count r i (count ts) ts ≡ 0
  unfolding marked
  none_counted r i none = refl
  none_counted r i (t ▸ ts) = none_counted r (suc i) ts

  pub begins : (r : Role) (k : ℕ) (ts : Trees) → k ≡ count ts → Swept r k ts ts 0
  begins r k ts e = record {
    left = sym (ap (λ m. swept r 0 m ts) e ∙ none_swept r 0 ts);
    number = sym (ap (λ m. swept_count r 0 m ts) e ∙ none_counted r 0 ts);
  }

  child_kept : (r : Role) (i k : ℕ) (ts : Trees) → k < count ts → child_or_absent (swept r i (suc k) ts) k ≡ child_or_absent ts k
  child_kept r i zero none h = refl
  child_kept r i (suc k) none h = refl
  child_kept r i zero (t ▸ ts) h = refl
  child_kept r i (suc k) (t ▸ ts) h = child_kept r (suc i) k ts (omega (arith, h))

  count_kept : (r : Role) (i k : ℕ) (ts : Trees) → k < count ts → k < count (swept r i (suc k) ts)
  count_kept r i k none h = absurd (omega (arith, h))
  count_kept r i zero (t ▸ ts) h = omega arith
  count_kept r i (suc k) (t ▸ ts) h = let e = count_kept r (suc i) k ts (omega (arith, h)) in omega (arith, e)

  one_left : (m : Mark) (p : Spot) (t : Tree) (ps : Prunings) → edited S p (mark_count m) t (t ▸ later_all ps) 0 ≡ later_all (marked_by S m (marked S p t) ps)
  one_left no_item p t ps = refl
  one_left (an_item (function_item g ds xs n x m ts)) p t ps = refl
  one_left (an_item (declaration_item k xs n ys m c cs)) p t ps = refl
  one_left (an_item (lone_item xs n f)) p t ps = refl
  one_left (a_declarator c) p t ps = refl

  one_number : (m : Mark) (p : Spot) (t : Tree) (ps : Prunings) → lost_there S p (mark_count m) t + all_gone_count ps ≡ all_gone_count (marked_by S m (marked S p t) ps)
  one_number no_item p t ps = refl
  one_number (an_item (function_item g ds xs n x m ts)) p t ps = refl
  one_number (an_item (declaration_item k xs n ys m c cs)) p t ps = refl
  one_number (an_item (lone_item xs n f)) p t ps = refl
  one_number (a_declarator c) p t ps = omega arith

  edited_next : (p : Spot) (n : ℕ) (x t : Tree) (us : Trees) (k : ℕ) → edited S p n x (t ▸ us) (suc k) ≡ t ▸ edited S p n x us k
  edited_next p zero x t us k = refl
  edited_next p (suc n) x t us k = refl

  next_left : (r : Role) (i k j : ℕ) (ts : Trees) → k < count ts → j ≡ i + k → edited S (spot_below r j) (items_of S r (child_or_absent ts k)) (child_or_absent ts k) (swept r i (suc k) ts) k ≡ swept r i k ts
  unfolding marked
  next_left r i k j none h e = absurd (omega (arith, h))
  next_left r i zero j (t ▸ ts) h e =
      ap (λ m. edited S (spot_below r m) (items_of S r t) t (t ▸ later_all (all_marked S r (suc i) ts)) 0) (omega (arith, e))
      ∙ ap (λ n. edited S (spot_below r i) n t (t ▸ later_all (all_marked S r (suc i) ts)) 0) (items_told S r t)
      ∙ one_left (mark S r t) (spot_below r i) t (all_marked S r (suc i) ts)
  next_left r i (suc k) j (t ▸ ts) h e =
      edited_next (spot_below r j) (items_of S r (child_or_absent ts k)) (child_or_absent ts k) t (swept r (suc i) (suc k) ts) k
      ∙ ap (λ us. t ▸ us) (next_left r (suc i) k j ts (omega (arith, h)) (omega (arith, e)))

  next_number : (r : Role) (i k j : ℕ) (ts : Trees) → k < count ts → j ≡ i + k → lost_there S (spot_below r j) (items_of S r (child_or_absent ts k)) (child_or_absent ts k) + swept_count r i (suc k) ts ≡ swept_count r i k ts
  unfolding marked
  next_number r i k j none h e = absurd (omega (arith, h))
  next_number r i zero j (t ▸ ts) h e =
      ap (λ m. lost_there S (spot_below r m) (items_of S r t) t + all_gone_count (all_marked S r (suc i) ts)) (omega (arith, e))
      ∙ ap (λ n. lost_there S (spot_below r i) n t + all_gone_count (all_marked S r (suc i) ts)) (items_told S r t)
      ∙ one_number (mark S r t) (spot_below r i) t (all_marked S r (suc i) ts)
  next_number r i (suc k) j (t ▸ ts) h e = next_number r (suc i) k j ts (omega (arith, h)) (omega (arith, e))

  -- the place before, of a list that stands so
  pub there : (r : Role) (k m : ℕ) (old now : Trees) (n : ℕ) → m ≡ suc k → k < count old → Swept r m old now n → k < count now
  there r k m old now n e h w = subst (λ us. k < count us) (sym (w.left ∙ ap (λ i. swept r 0 i old) e)) (count_kept r 0 k old h)

  next_swept : (r : Role) (k : ℕ) (old now new : Trees) (n m : ℕ) → k < count old → Swept r (suc k) old now n → LostAt S r k now new m → Swept r k old new (m + n)
  next_swept r k old now new n m h w l =
      let child : child_or_absent now k ≡ child_or_absent old k = ap (λ us. child_or_absent us k) w.left ∙ child_kept r 0 k old h in
      record {
        left =
            l.left
            ∙ ap (λ c. edited S (spot_below r k) (items_of S r c) c now k) child
            ∙ ap (λ us. edited S (spot_below r k) (items_of S r (child_or_absent old k)) (child_or_absent old k) us k) w.left
            ∙ next_left r 0 k k old h (omega arith);
        number =
            ap (λ a. a + n) (l.number ∙ ap (λ c. lost_there S (spot_below r k) (items_of S r c) c) child)
            ∙ ap (λ a. lost_there S (spot_below r k) (items_of S r (child_or_absent old k)) (child_or_absent old k) + a) w.number
            ∙ next_number r 0 k k old h (omega arith);
      }

  pub next : (r : Role) (k i j : ℕ) (old now new : Trees) (n m l : ℕ) → i ≡ suc k → j ≡ k → l ≡ m + n → k < count old → Swept r i old now n → LostAt S r k now new m → Swept r j old new l
  next r k i j old now new n m l e f g h w x =
      subst (λ a. Swept r a old new l) (sym f) (subst (λ a. Swept r k old new a) (sym g) (next_swept r k old now new n m h (subst (λ a. Swept r a old now n) e w) x))

  -- no list grows
  later_smaller : (m : Mark) (p : Pruned) (ps : Prunings) (t : Tree) (ts : Trees) → node_count (later p) ≤ node_count t → node_counts (later_all ps) ≤ node_counts ts → node_counts (later_all (marked_by S m p ps)) ≤ node_counts (t ▸ ts)
  later_smaller no_item p ps t ts a b = omega (arith, a, b)
  later_smaller (an_item i) p ps t ts a b = omega (arith, b)
  later_smaller (a_declarator c) p ps t ts a b = omega (arith, b)

  mutual
    unfolding marked

    one_smaller : (p : Spot) (t : Tree) → node_count (later (marked S p t)) ≤ node_count t
    one_smaller p (node h xs n ts) = let e = all_smaller (role h p) 0 ts in omega (arith, e)

    all_smaller : (r : Role) (i : ℕ) (ts : Trees) → node_counts (later_all (all_marked S r i ts)) ≤ node_counts ts
    all_smaller r i none = omega arith
    all_smaller r i (t ▸ ts) = later_smaller (mark S r t) (marked S (spot_below r i) t) (all_marked S r (suc i) ts) t ts (one_smaller (spot_below r i) t) (all_smaller r (suc i) ts)

  swept_smaller : (r : Role) (i k : ℕ) (ts : Trees) → node_counts (swept r i k ts) ≤ node_counts ts
  swept_smaller r i zero ts = all_smaller r i ts
  swept_smaller r i (suc k) none = omega arith
  swept_smaller r i (suc k) (t ▸ ts) = let e = swept_smaller r (suc i) k ts in omega (arith, e)

  pub smaller : (r : Role) (k : ℕ) (old now : Trees) (n : ℕ) → Swept r k old now n → node_counts now ≤ node_counts old
  smaller r k old now n w = subst (λ us. node_counts us ≤ node_counts old) (sym w.left) (swept_smaller r 0 k old)

  -- a node whose children have lost what goes
  pub whole : (p : Spot) (t : Tree) (h : Shape) (r : Role) (ts us : Trees) (n : ℕ) → h ≡ shape_of t → r ≡ role h p → ts ≡ children t → AllLost S r ts us n → Lost S p t (with_children t us) n
  unfolding marked
  whole p (node h xs m ts) g r ts' us n e f i w =
      let q : r ≡ role h p = f ∙ ap (λ k. role k p) e in
      record {
        left = ap (node h xs m) (w.left ∙ ap (λ s. later_all (all_marked S s 0 ts')) q ∙ ap (λ vs. later_all (all_marked S (role h p) 0 vs)) i);
        number = w.number ∙ ap (λ s. all_gone_count (all_marked S s 0 ts')) q ∙ ap (λ vs. all_gone_count (all_marked S (role h p) 0 vs)) i;
      }

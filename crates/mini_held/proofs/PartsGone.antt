-- What is left of the parts of a sequence is made of it by one part after another that goes.
use Rattle.std.proofs.Common.{◌≡◌, ℕ, ◌⊎◌, zero, suc, ◌+◌, ◌-◌, ◌<◌, ◌≤◌, Bool, true, false, refl, sym, ap, ◌∙◌, subst, arith, inl, inr, true≢false}
use Rattle.std.specs.Prelude.{◌&&◌, ◌||◌, nat_le, if◌then◌else◌}
use Rattle.std.proofs.lemmas.Bool.{and_parts, le-leb, leb-true}
use Rattle.mini_model.specs.Tree.{Tree, Trees, none, ◌▸◌, count, child_or_absent}
use Rattle.mini_model.specs.Paths.{append}
use Rattle.mini_node.specs.Children.{rest_children, without as without_child}
use Rattle.mini_node.specs.Kinds.{sequence}
use Rattle.mini_node.specs.Walks.{next_child, no_rest, append_none, append_one}
use Rattle.mini_held.specs.Parts.{idle_before_last, left_after}

or_true : (b c : Bool) → c ≡ true → b || c ≡ true
or_true true c e = refl
or_true false c e = e

pub count_with : (before : Trees) (a q : Tree) (qs : Trees) → count (append before (a ▸ (q ▸ qs))) ≡ suc (count (append before (q ▸ qs)))
count_with none a q qs = refl
count_with (u ▸ us) a q qs = ap suc (count_with us a q qs)

-- ---- a look for a part that has no effect

module _ (I : Tree → Bool) where
  pub stops : (ts : Trees) (i : ℕ) → i + 1 < count ts → I (child_or_absent ts i) ≡ true → idle_before_last I (rest_children i ts) ≡ idle_before_last I ts → true ≡ idle_before_last I ts
  stops ts i h e inv =
      sym (ap (λ b. b || idle_before_last I (child_or_absent ts (suc i) ▸ rest_children (suc (suc i)) ts)) e)
      ∙ sym (ap (idle_before_last I) (next_child ts i (omega (arith, h)) ∙ ap (λ us. child_or_absent ts i ▸ us) (next_child ts (suc i) (omega (arith, h)))))
      ∙ inv

  pub goes_on : (ts : Trees) (i : ℕ) → i + 1 < count ts → I (child_or_absent ts i) ≡ false → idle_before_last I (rest_children i ts) ≡ idle_before_last I ts → idle_before_last I (rest_children (i + 1) ts) ≡ idle_before_last I ts
  goes_on ts i h e inv =
      let next : i + 1 ≡ suc i = omega arith in
      let second = next_child ts (suc i) (omega (arith, h)) in
      ap (λ k. idle_before_last I (rest_children k ts)) next
      ∙ ap (idle_before_last I) second
      ∙ sym (ap (λ b. b || idle_before_last I (child_or_absent ts (suc i) ▸ rest_children (suc (suc i)) ts)) e)
      ∙ sym (ap (idle_before_last I) (next_child ts i (omega (arith, h)) ∙ ap (λ us. child_or_absent ts i ▸ us) second))
      ∙ inv

  pub ends : (ts : Trees) (i : ℕ) → count ts ≤ i + 1 → idle_before_last I (rest_children i ts) ≡ idle_before_last I ts → false ≡ idle_before_last I ts
  ends ts i h inv = sym (few (rest_children i ts) (at_most ts i h)) ∙ inv
    where
      few : (us : Trees) → count us ≤ 1 → idle_before_last I us ≡ false
      few none k = refl
      few (u ▸ none) k = refl
      few (u ▸ (v ▸ vs)) k = absurd (omega (arith, k))

      at_most : (ts : Trees) (i : ℕ) → count ts ≤ i + 1 → count (rest_children i ts) ≤ 1
      at_most none i h = omega arith
      at_most (t ▸ ts) zero h = omega (arith, h)
      at_most (t ▸ ts) (suc i) h = at_most ts i (omega (arith, h))

  pub found : (before : Trees) (a q : Tree) (qs : Trees) → I a ≡ true → idle_before_last I (append before (a ▸ (q ▸ qs))) ≡ true
  found none a q qs e = ap (λ b. b || idle_before_last I (q ▸ qs)) e
  found (u ▸ none) a q qs e = or_true (I u) (idle_before_last I (a ▸ (q ▸ qs))) (found none a q qs e)
  found (u ▸ (v ▸ vs)) a q qs e = or_true (I u) (idle_before_last I (v ▸ append vs (a ▸ (q ▸ qs)))) (found (v ▸ vs) a q qs e)

  -- ---- what is left, part by part

  last_left : (k : ℕ) (t : Tree) (us : Trees) → count us ≤ 0 → left_after I k (t ▸ us) ≡ t ▸ left_after I (suc k) us
  last_left k t none h = refl
  last_left k t (u ▸ us) h = absurd (omega (arith, h))

  stays : (k : ℕ) (t : Tree) (us : Trees) → nat_le 2 (k + count us) && I t ≡ false → left_after I k (t ▸ us) ≡ t ▸ left_after I (suc k) us
  stays k t none e = refl
  stays k t (u ▸ us) e = ap (λ b. if b then left_after I k (u ▸ us) else t ▸ left_after I (suc k) (u ▸ us)) e

  goes : (k : ℕ) (t : Tree) (us : Trees) → 0 < count us → nat_le 2 (k + count us) && I t ≡ true → left_after I k (t ▸ us) ≡ left_after I k us
  goes k t none h e = absurd (omega (arith, h))
  goes k t (u ▸ us) h e = ap (λ b. if b then left_after I k (u ▸ us) else t ▸ left_after I (suc k) (u ▸ us)) e

-- ---- a walk over the parts

count_after : (ts : Trees) (t : Tree) → count (append ts (t ▸ none)) ≡ suc (count ts)
count_after none t = refl
count_after (u ▸ us) t = ap suc (count_after us t)

count_of_both : (ts us : Trees) → count (append ts us) ≡ count ts + count us
count_of_both none us = omega arith
count_of_both (t ▸ ts) us = let both = count_of_both ts us in omega (arith, both)

count_rest : (ts : Trees) (i : ℕ) → i < count ts → count (rest_children (suc i) ts) ≡ count ts - i - 1
count_rest none i h = absurd (omega (arith, h))
count_rest (t ▸ none) zero h = omega arith
count_rest (t ▸ (u ▸ us)) zero h = omega arith
count_rest (t ▸ ts) (suc i) h = let rest = count_rest ts i (omega (arith, h)) in omega (arith, h, rest)

-- two lists that are the same from a place on
pub same_child : (ts us : Trees) (i : ℕ) → i < count ts → i < count us → rest_children i ts ≡ rest_children i us → child_or_absent ts i ≡ child_or_absent us i
same_child ts us i h k e = ap (λ ws. child_or_absent ws 0) (sym (next_child ts i h) ∙ e ∙ next_child us i k)

pub same_rest : (ts us : Trees) (i : ℕ) → i < count ts → i < count us → rest_children i ts ≡ rest_children i us → rest_children (suc i) ts ≡ rest_children (suc i) us
same_rest ts us i h k e = ap (λ ws. without_child ws 0) (sym (next_child ts i h) ∙ e ∙ next_child us i k)

-- before a part the same are left, and those that stand after it are as they were
module _ (I : Tree → Bool) where
  pub turn_gone : (ts us : Trees) (i : ℕ) → i < count ts → 0 < count ts - i - 1 → nat_le 2 (count us + (count ts - i - 1)) && I (child_or_absent ts i) ≡ true → append us (left_after I (count us) (rest_children i ts)) ≡ left_after I 0 ts → append us (left_after I (count us) (rest_children (i + 1) ts)) ≡ left_after I 0 ts
  turn_gone ts us i h k e inv =
      let next : i + 1 ≡ suc i = omega arith in
      let after : count ts - i - 1 ≡ count (rest_children (suc i) ts) = sym (count_rest ts i h) in
      ap (λ j. append us (left_after I (count us) (rest_children j ts))) next
      ∙ ap (append us) (sym (ap (left_after I (count us)) (next_child ts i h) ∙ goes I (count us) (child_or_absent ts i) (rest_children (suc i) ts) (subst (λ n. 0 < n) after k) (subst (λ n. nat_le 2 (count us + n) && I (child_or_absent ts i) ≡ true) after e)))
      ∙ inv

  pub turn_kept : (ts us vs : Trees) (i : ℕ) → i < count ts → (count ts - i - 1 ≤ 0) ⊎ (nat_le 2 (count us + (count ts - i - 1)) && I (child_or_absent ts i) ≡ false) → vs ≡ append us (child_or_absent ts i ▸ none) → append us (left_after I (count us) (rest_children i ts)) ≡ left_after I 0 ts → append vs (left_after I (count vs) (rest_children (i + 1) ts)) ≡ left_after I 0 ts
  turn_kept ts us vs i h e p inv =
      let next : i + 1 ≡ suc i = omega arith in
      let t : Tree = child_or_absent ts i in
      let rest : Trees = rest_children (suc i) ts in
      ap (λ j. append vs (left_after I (count vs) (rest_children j ts))) next
      ∙ ap (λ ws. append ws (left_after I (count ws) rest)) p
      ∙ ap (λ n. append (append us (t ▸ none)) (left_after I n rest)) (count_after us t)
      ∙ append_one us t (left_after I (suc (count us)) rest)
      ∙ ap (append us) (sym (ap (left_after I (count us)) (next_child ts i h) ∙ kept e))
      ∙ inv
    where
      kept : (count ts - i - 1 ≤ 0) ⊎ (nat_le 2 (count us + (count ts - i - 1)) && I (child_or_absent ts i) ≡ false) → left_after I (count us) (child_or_absent ts i ▸ rest_children (suc i) ts) ≡ child_or_absent ts i ▸ left_after I (suc (count us)) (rest_children (suc i) ts)
      kept (inl k) = last_left I (count us) (child_or_absent ts i) (rest_children (suc i) ts) (omega (arith, k, count_rest ts i h))
      kept (inr k) = stays I (count us) (child_or_absent ts i) (rest_children (suc i) ts) (subst (λ n. nat_le 2 (count us + n) && I (child_or_absent ts i) ≡ false) (sym (count_rest ts i h)) k)

  pub all_turned : (ts us : Trees) (i : ℕ) → count ts ≤ i → append us (left_after I (count us) (rest_children i ts)) ≡ left_after I 0 ts → us ≡ left_after I 0 ts
  all_turned ts us i h inv = sym (append_none us) ∙ sym (ap (λ ws. append us (left_after I (count us) ws)) (no_rest ts i h)) ∙ inv

-- ---- one part after another

-- C holds of a tree and itself, and of one that has lost a part, where it holds from there on; D
-- where at least one part is lost
module _ (I : Tree → Bool) (C D : Tree → Tree → Type 0) (same : (t : Tree) → C t t)
    (loses : (before : Trees) (a q : Tree) (qs : Trees) (v : Tree) → I a ≡ true → nat_le 2 (count (append before (q ▸ qs))) ≡ true → C (sequence (append before (q ▸ qs))) v → D (sequence (append before (a ▸ (q ▸ qs)))) v)
    (more : (t v : Tree) → D t v → C t v) where
  -- a part that stays goes to those before it
  past : (E : Tree → Tree → Type 0) (before : Trees) (t u : Tree) (us : Trees) → left_after I (count before) (t ▸ (u ▸ us)) ≡ t ▸ left_after I (suc (count before)) (u ▸ us) → E (sequence (append (append before (t ▸ none)) (u ▸ us))) (sequence (append (append before (t ▸ none)) (left_after I (count (append before (t ▸ none))) (u ▸ us)))) → E (sequence (append before (t ▸ (u ▸ us)))) (sequence (append before (left_after I (count before) (t ▸ (u ▸ us)))))
  past E before t u us e c =
      subst (λ ws. E (sequence (append before (t ▸ (u ▸ us)))) (sequence (append before ws))) (sym e)
      (subst (λ ws. E (sequence (append before (t ▸ (u ▸ us)))) (sequence ws)) (append_one before t (left_after I (suc (count before)) (u ▸ us)))
      (subst (λ ws. E (sequence ws) (sequence (append (append before (t ▸ none)) (left_after I (suc (count before)) (u ▸ us))))) (append_one before t (u ▸ us))
      (subst (λ k. E (sequence (append (append before (t ▸ none)) (u ▸ us))) (sequence (append (append before (t ▸ none)) (left_after I k (u ▸ us))))) (count_after before t) c)))

  -- and one that goes is lost
  lost : (before : Trees) (t u : Tree) (us : Trees) → nat_le 2 (count before + count (u ▸ us)) && I t ≡ true → C (sequence (append before (u ▸ us))) (sequence (append before (left_after I (count before) (u ▸ us)))) → D (sequence (append before (t ▸ (u ▸ us)))) (sequence (append before (left_after I (count before) (t ▸ (u ▸ us)))))
  lost before t u us e c =
      let (several, idle) = and_parts (nat_le 2 (count before + count (u ▸ us))) (I t) e in
      subst (λ ws. D (sequence (append before (t ▸ (u ▸ us)))) (sequence (append before ws))) (sym (goes I (count before) t (u ▸ us) (omega arith) e))
      (loses before t u us (sequence (append before (left_after I (count before) (u ▸ us)))) idle (ap (nat_le 2) (count_of_both before (u ▸ us)) ∙ several) c)

  without : (before ts : Trees) → C (sequence (append before ts)) (sequence (append before (left_after I (count before) ts)))
  without before none = same (sequence (append before none))
  without before (t ▸ none) = same (sequence (append before (t ▸ none)))
  without before (t ▸ (u ▸ us)) = go (nat_le 2 (count before + count (u ▸ us)) && I t) refl (without before (u ▸ us)) (without (append before (t ▸ none)) (u ▸ us))
    where
      go : (b : Bool) → nat_le 2 (count before + count (u ▸ us)) && I t ≡ b → C (sequence (append before (u ▸ us))) (sequence (append before (left_after I (count before) (u ▸ us)))) → C (sequence (append (append before (t ▸ none)) (u ▸ us))) (sequence (append (append before (t ▸ none)) (left_after I (count (append before (t ▸ none))) (u ▸ us)))) → C (sequence (append before (t ▸ (u ▸ us)))) (sequence (append before (left_after I (count before) (t ▸ (u ▸ us)))))
      go true e c d = more (sequence (append before (t ▸ (u ▸ us)))) (sequence (append before (left_after I (count before) (t ▸ (u ▸ us))))) (lost before t u us e c)
      go false e c d = past C before t u us (stays I (count before) t (u ▸ us) e) d

  some_go : (before ts : Trees) → idle_before_last I ts ≡ true → 3 ≤ count before + count ts → D (sequence (append before ts)) (sequence (append before (left_after I (count before) ts)))
  some_go before none e h = absurd (true≢false (sym e))
  some_go before (t ▸ none) e h = absurd (true≢false (sym e))
  some_go before (t ▸ (u ▸ us)) e h = go (I t) refl (λ i. some_go (append before (t ▸ none)) (u ▸ us) (sym (ap (λ b. b || idle_before_last I (u ▸ us)) i) ∙ e) (omega (arith, h, count_after before t)))
    where
      several : nat_le 2 (count before + count (u ▸ us)) ≡ true
      several = le-leb 2 (count before + count (u ▸ us)) (omega (arith, h))

      go : (b : Bool) → I t ≡ b → (I t ≡ false → D (sequence (append (append before (t ▸ none)) (u ▸ us))) (sequence (append (append before (t ▸ none)) (left_after I (count (append before (t ▸ none))) (u ▸ us))))) → D (sequence (append before (t ▸ (u ▸ us)))) (sequence (append before (left_after I (count before) (t ▸ (u ▸ us)))))
      go true i d = lost before t u us (ap (λ b. b && I t) several ∙ i) (without before (u ▸ us))
      go false i d = past D before t u us (stays I (count before) t (u ▸ us) (ap (λ b. b && I t) several ∙ i)) (d i)

  -- at least one goes, of three or more
  pub parts_go : (ts : Trees) → idle_before_last I ts ≡ true → nat_le 3 (count ts) ≡ true → D (sequence ts) (sequence (left_after I 0 ts))
  parts_go ts e h = let three = leb-true 3 (count ts) h in some_go none ts e (omega (arith, three))

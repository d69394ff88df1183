-- What holds of a tree where it holds of its parts, and sums and lists over parts.
use Rattle.std.specs.Prelude.{ℕ, zero, suc, ◌+◌, ◌≤◌, ◌≡◌, refl, Bool, true, false, ◌||◌, nat_eq, List, [], ◌∷◌, ◌++◌, if◌then◌else◌}
use Rattle.std.proofs.Common.{ap, ◌∙◌, sym, subst, arith}
use Rattle.std.proofs.lemmas.Bool.{and_parts, eqb-true}
use Rattle.mini_model.specs.Tree.{Tree, Trees, node, none, ◌▸◌, child_or_absent}
use Rattle.mini_model.specs.Paths.{append}
use Rattle.mini_laws.specs.declared.names.Declared.TheVariants as declared
use Rattle.mini_laws.specs.DeclaredNames.{names_of}
use Rattle.mini_laws.specs.Early.{clashing, scope_declarations}
use Rattle.mini_kept.proofs.Bools.{both}
use Rattle.mini_rows.specs.Sketches.{Head, AList, Block, shape_by, Sketch, part, under, list, Sketches, end, ◌▹◌, Items, no_items, item, items, Parts, list_at, filled, all_filled, items_filled, Asked, AsWhole, AsWholeList, AsWholeItem, AsValue, AsValues, AsWord, AsHeld, AsTarget, AsUpdated, AsBranch, AsItems, AsItem, item_asked, asked_below, Leap, Returning, Yielding, leaps, Hole, Part, Stretch, Leaps, leap_holes, parts_of, parts_from, parts_in, asked_number, is_same_leap, is_same_hole, stands_in, without, has_as_often, has_each}

-- ---- the same part

asked_by : ℕ → Asked
asked_by zero = AsWhole
asked_by (suc zero) = AsWholeList
asked_by (suc (suc zero)) = AsWholeItem
asked_by (suc (suc (suc zero))) = AsValue
asked_by (suc (suc (suc (suc zero)))) = AsValues
asked_by (suc (suc (suc (suc (suc zero))))) = AsWord
asked_by (suc (suc (suc (suc (suc (suc zero)))))) = AsBranch
asked_by (suc (suc (suc (suc (suc (suc (suc zero))))))) = AsItems
asked_by (suc (suc (suc (suc (suc (suc (suc (suc zero)))))))) = AsItem
asked_by (suc (suc (suc (suc (suc (suc (suc (suc (suc zero))))))))) = AsTarget
asked_by (suc (suc (suc (suc (suc (suc (suc (suc (suc (suc zero)))))))))) = AsUpdated
asked_by (suc (suc (suc (suc (suc (suc (suc (suc (suc (suc (suc n))))))))))) = AsHeld

asked_again : (c : Asked) → asked_by (asked_number c) ≡ c
unfolding asked_by
asked_again AsWhole = refl
asked_again c = refl

same_asked : (c d : Asked) → nat_eq (asked_number c) (asked_number d) ≡ true → c ≡ d
same_asked c d e = sym (asked_again c) ∙ ap asked_by (eqb-true (asked_number c) (asked_number d) e) ∙ asked_again d

same_leap : (l k : Leap) → is_same_leap l k ≡ true → l ≡ k
same_leap Returning Returning e = refl
same_leap Yielding Yielding e = refl
same_leap l k e = absurd (cc e)

pub same_hole : (g h : Hole) → is_same_hole g h ≡ true → g ≡ h
same_hole (Part i c) (Part j d) e =
    let (x, y) = and_parts (nat_eq i j) (nat_eq (asked_number c) (asked_number d)) e in
    λ k. Part (eqb-true i j x k) (same_asked c d y k)
same_hole (Stretch i c) (Stretch j d) e =
    let (x, y) = and_parts (nat_eq i j) (nat_eq (asked_number c) (asked_number d)) e in
    λ k. Stretch (eqb-true i j x k) (same_asked c d y k)
same_hole (Leaps l) (Leaps k) e = ap Leaps (same_leap l k e)
same_hole g h e = absurd (cc e)

-- ---- what a block has to do to be plain: no lexical name stands in it, and no two of its names clash

abbrev pub Plain : Head → Trees → Type 0
Plain Block ts = (names_of declared.Lexical (child_or_absent ts 0) ≡ []) × (clashing [] (scope_declarations (shape_by Block) [] ts) ≡ [])
Plain h ts = Unit {0}

abbrev mutual
  pub IsPlain : Parts → Sketch → Type 0
  IsPlain ps (part i) = Unit {0}
  IsPlain ps (under h ss) = Plain h (all_filled ps ss) × ArePlain ps ss
  IsPlain ps (list is) = ItemsPlain ps is

  pub ArePlain : Parts → Sketches → Type 0
  ArePlain ps end = Unit {0}
  ArePlain ps (s ▹ ss) = IsPlain ps s × ArePlain ps ss

  pub ItemsPlain : Parts → Items → Type 0
  ItemsPlain ps no_items = Unit {0}
  ItemsPlain ps (item s is) = IsPlain ps s × ItemsPlain ps is
  ItemsPlain ps (items i is) = ItemsPlain ps is

-- ---- what holds of each part

abbrev pub All : (Asked → Tree → Type 0) → Asked → Trees → Type 0
All Q c none = Unit {0}
All Q c (t ▸ ts) = Q c t × All Q c ts

abbrev pub Below : (Asked → Tree → Type 0) → (ℕ → Asked) → ℕ → Trees → Type 0
Below Q cs i none = Unit {0}
Below Q cs i (t ▸ ts) = Q (cs i) t × Below Q cs (suc i) ts

abbrev pub Leaping : (Leap → Type 0) → List Leap → Type 0
Leaping J [] = Unit {0}
Leaping J (l ∷ ls) = J l × Leaping J ls

abbrev pub Holds : (Leap → Type 0) → (Asked → Tree → Type 0) → Parts → Hole → Type 0
Holds J Q ps (Part i c) = Q c (child_or_absent ps.trees i)
Holds J Q ps (Stretch i c) = All Q c (list_at ps.lists i)
Holds J Q ps (Leaps l) = J l

abbrev pub Each : (Leap → Type 0) → (Asked → Tree → Type 0) → Parts → List Hole → Type 0
Each J Q ps [] = Unit {0}
Each J Q ps (h ∷ hs) = Holds J Q ps h × Each J Q ps hs

-- of any jump
abbrev pub Any : Leap → Type 0
Any l = Unit {0}

-- it holds of a node under a plain head where it does of what is below, and where the jump has what it needs
pub record Local (J : Leap → Type 0) (Q : Asked → Tree → Type 0) : Type 0 where
  pub down : (h : Head) (c : Asked) (ts : Trees) → Plain h ts → Q c (node (shape_by h) [] 0 ts) → Leaping J (leaps h) × Below Q (asked_below h c) 0 ts
  pub up : (h : Head) (c : Asked) (ts : Trees) → Plain h ts → Leaping J (leaps h) → Below Q (asked_below h c) 0 ts → Q c (node (shape_by h) [] 0 ts)

module _ (J : Leap → Type 0) (Q : Asked → Tree → Type 0) where
  pub both_each : (ps : Parts) (hs gs : List Hole) → Each J Q ps hs → Each J Q ps gs → Each J Q ps (hs ++ gs)
  both_each ps [] gs a b = b
  both_each ps (h ∷ hs) gs a b = (a.0, both_each ps hs gs a.1 b)

  pub first_each : (ps : Parts) (hs gs : List Hole) → Each J Q ps (hs ++ gs) → Each J Q ps hs
  first_each ps [] gs a = tt
  first_each ps (h ∷ hs) gs a = (a.0, first_each ps hs gs a.1)

  pub second_each : (ps : Parts) (hs gs : List Hole) → Each J Q ps (hs ++ gs) → Each J Q ps gs
  second_each ps [] gs a = a
  second_each ps (h ∷ hs) gs a = second_each ps hs gs a.1

  each_leap : (ps : Parts) (ls : List Leap) → Leaping J ls → Each J Q ps (leap_holes ls)
  each_leap ps [] a = tt
  each_leap ps (l ∷ ls) a = (a.0, each_leap ps ls a.1)

  leap_each : (ps : Parts) (ls : List Leap) → Each J Q ps (leap_holes ls) → Leaping J ls
  leap_each ps [] a = tt
  leap_each ps (l ∷ ls) a = (a.0, leap_each ps ls a.1)

  one_each : (ps : Parts) (gs : List Hole) (h : Hole) → stands_in gs h ≡ true → Each J Q ps gs → Holds J Q ps h
  one_each ps [] h e a = absurd (cc e)
  one_each ps (g ∷ gs) h e a = by (is_same_hole g h) refl (λ f. one_each ps gs h f a.1)
    where
      by : (b : Bool) → is_same_hole g h ≡ b → (stands_in gs h ≡ true → Holds J Q ps h) → Holds J Q ps h
      by true f k = subst (Holds J Q ps) (same_hole g h f) a.0
      by false f k = k (ap (λ b. b || stands_in gs h) (sym f) ∙ e)

  pub some_each : (ps : Parts) (gs hs : List Hole) → has_each gs hs ≡ true → Each J Q ps gs → Each J Q ps hs
  some_each ps gs [] e a = tt
  some_each ps gs (h ∷ hs) e a =
      let (x, y) = and_parts (stands_in gs h) (has_each gs hs) e in
      (one_each ps gs h x a, some_each ps gs hs y a)

  pub first_all : (c : Asked) (ts us : Trees) → All Q c (append ts us) → All Q c ts
  first_all c none us a = tt
  first_all c (t ▸ ts) us a = (a.0, first_all c ts us a.1)

  pub second_all : (c : Asked) (ts us : Trees) → All Q c (append ts us) → All Q c us
  second_all c none us a = a
  second_all c (t ▸ ts) us a = second_all c ts us a.1

  pub both_all : (c : Asked) (ts us : Trees) → All Q c ts → All Q c us → All Q c (append ts us)
  both_all c none us a b = b
  both_all c (t ▸ ts) us a b = (a.0, both_all c ts us a.1 b)

  pub all_of : (c : Asked) (i : ℕ) (ts : Trees) → Below Q (λ j. c) i ts → All Q c ts
  all_of c i none a = tt
  all_of c i (t ▸ ts) a = (a.0, all_of c (suc i) ts a.1)

  pub of_all : (c : Asked) (i : ℕ) (ts : Trees) → All Q c ts → Below Q (λ j. c) i ts
  of_all c i none a = tt
  of_all c i (t ▸ ts) a = (a.0, of_all c (suc i) ts a.1)

  module _ (l : Local J Q) (ps : Parts) where
    mutual
      pub to_parts : (c : Asked) (s : Sketch) → IsPlain ps s → Q c (filled ps s) → Each J Q ps (parts_of c s)
      to_parts c (part i) p a = (a, tt)
      to_parts c (under h ss) p a =
          let (x, y) = l.down h c (all_filled ps ss) p.0 a in
          both_each ps (leap_holes (leaps h)) (parts_from (asked_below h c) 0 ss) (each_leap ps (leaps h) x) (to_parts_from (asked_below h c) 0 ss p.1 y)
      to_parts c (list is) p a = to_parts_in (item_asked c) is p (all_of (item_asked c) 0 (items_filled ps is) (l.down AList c (items_filled ps is) tt a).1)

      to_parts_from : (cs : ℕ → Asked) (i : ℕ) (ss : Sketches) → ArePlain ps ss → Below Q cs i (all_filled ps ss) → Each J Q ps (parts_from cs i ss)
      to_parts_from cs i end p a = tt
      to_parts_from cs i (s ▹ ss) p a = both_each ps (parts_of (cs i) s) (parts_from cs (suc i) ss) (to_parts (cs i) s p.0 a.0) (to_parts_from cs (suc i) ss p.1 a.1)

      pub to_parts_in : (c : Asked) (is : Items) → ItemsPlain ps is → All Q c (items_filled ps is) → Each J Q ps (parts_in c is)
      to_parts_in c no_items p a = tt
      to_parts_in c (item s is) p a = both_each ps (parts_of c s) (parts_in c is) (to_parts c s p.0 a.0) (to_parts_in c is p.1 a.1)
      to_parts_in c (items i is) p a = (first_all c (list_at ps.lists i) (items_filled ps is) a, to_parts_in c is p (second_all c (list_at ps.lists i) (items_filled ps is) a))

    mutual
      pub of_parts : (c : Asked) (s : Sketch) → IsPlain ps s → Each J Q ps (parts_of c s) → Q c (filled ps s)
      of_parts c (part i) p a = a.0
      of_parts c (under h ss) p a =
          l.up h c (all_filled ps ss) p.0 (leap_each ps (leaps h) (first_each ps (leap_holes (leaps h)) (parts_from (asked_below h c) 0 ss) a)) (of_parts_from (asked_below h c) 0 ss p.1 (second_each ps (leap_holes (leaps h)) (parts_from (asked_below h c) 0 ss) a))
      of_parts c (list is) p a = l.up AList c (items_filled ps is) tt tt (of_all (item_asked c) 0 (items_filled ps is) (of_parts_in (item_asked c) is p a))

      of_parts_from : (cs : ℕ → Asked) (i : ℕ) (ss : Sketches) → ArePlain ps ss → Each J Q ps (parts_from cs i ss) → Below Q cs i (all_filled ps ss)
      of_parts_from cs i end p a = tt
      of_parts_from cs i (s ▹ ss) p a =
          (of_parts (cs i) s p.0 (first_each ps (parts_of (cs i) s) (parts_from cs (suc i) ss) a), of_parts_from cs (suc i) ss p.1 (second_each ps (parts_of (cs i) s) (parts_from cs (suc i) ss) a))

      pub of_parts_in : (c : Asked) (is : Items) → ItemsPlain ps is → Each J Q ps (parts_in c is) → All Q c (items_filled ps is)
      of_parts_in c no_items p a = tt
      of_parts_in c (item s is) p a = (of_parts c s p.0 (first_each ps (parts_of c s) (parts_in c is) a), of_parts_in c is p.1 (second_each ps (parts_of c s) (parts_in c is) a))
      of_parts_in c (items i is) p a = both_all c (list_at ps.lists i) (items_filled ps is) a.0 (of_parts_in c is p a.1)

-- ---- sums over parts

abbrev pub sum_all : (Asked → Tree → ℕ) → Asked → Trees → ℕ
sum_all m c none = 0
sum_all m c (t ▸ ts) = m c t + sum_all m c ts

abbrev pub sum_below : (Asked → Tree → ℕ) → (ℕ → Asked) → ℕ → Trees → ℕ
sum_below m cs i none = 0
sum_below m cs i (t ▸ ts) = m (cs i) t + sum_below m cs (suc i) ts

abbrev pub sum_hole : (Asked → Tree → ℕ) → Parts → Hole → ℕ
sum_hole m ps (Part i c) = m c (child_or_absent ps.trees i)
sum_hole m ps (Stretch i c) = sum_all m c (list_at ps.lists i)
sum_hole m ps (Leaps l) = 0

abbrev pub sum_each : (Asked → Tree → ℕ) → Parts → List Hole → ℕ
sum_each m ps [] = 0
sum_each m ps (h ∷ hs) = sum_hole m ps h + sum_each m ps hs

abbrev pub Summed : (Asked → Tree → ℕ) → Type 0
Summed m = (h : Head) (c : Asked) (ts : Trees) → Plain h ts → m c (node (shape_by h) [] 0 ts) ≡ sum_below m (asked_below h c) 0 ts

module _ (m : Asked → Tree → ℕ) where
  sum_both : (ps : Parts) (hs gs : List Hole) → sum_each m ps (hs ++ gs) ≡ sum_each m ps hs + sum_each m ps gs
  sum_both ps [] gs = omega arith
  sum_both ps (h ∷ hs) gs = omega (arith, sum_both ps hs gs)

  sum_leaps : (ps : Parts) (ls : List Leap) (gs : List Hole) → sum_each m ps (leap_holes ls ++ gs) ≡ sum_each m ps gs
  sum_leaps ps [] gs = refl
  sum_leaps ps (l ∷ ls) gs = omega (arith, sum_leaps ps ls gs)

  sum_append : (c : Asked) (ts us : Trees) → sum_all m c (append ts us) ≡ sum_all m c ts + sum_all m c us
  sum_append c none us = omega arith
  sum_append c (t ▸ ts) us = omega (arith, sum_append c ts us)

  sum_without : (ps : Parts) (gs : List Hole) (h : Hole) → stands_in gs h ≡ true → sum_each m ps gs ≡ sum_hole m ps h + sum_each m ps (without gs h)
  sum_without ps [] h e = absurd (cc e)
  sum_without ps (g ∷ gs) h e = by (is_same_hole g h) refl (λ f. sum_without ps gs h f)
    where
      by : (b : Bool) → is_same_hole g h ≡ b → (stands_in gs h ≡ true → sum_each m ps gs ≡ sum_hole m ps h + sum_each m ps (without gs h)) → sum_each m ps (g ∷ gs) ≡ sum_hole m ps h + sum_each m ps (if b then gs else g ∷ without gs h)
      by true f k = ap (λ k. sum_hole m ps k + sum_each m ps gs) (same_hole g h f)
      by false f k = omega (arith, k (ap (λ b. b || stands_in gs h) (sym f) ∙ e))

  pub sum_within : (ps : Parts) (gs hs : List Hole) → has_as_often gs hs ≡ true → sum_each m ps hs ≤ sum_each m ps gs
  sum_within ps gs [] e = omega arith
  sum_within ps gs (h ∷ hs) e =
      let (x, y) = and_parts (stands_in gs h) (has_as_often (without gs h) hs) e in
      omega (arith, sum_without ps gs h x, sum_within ps (without gs h) hs y)

  sum_items : (c : Asked) (i : ℕ) (ts : Trees) → sum_below m (λ j. c) i ts ≡ sum_all m c ts
  sum_items c i none = refl
  sum_items c i (t ▸ ts) = ap (λ k. m c t + k) (sum_items c (suc i) ts)

  module _ (l : Summed m) (ps : Parts) where
    mutual
      pub sum_of : (c : Asked) (s : Sketch) → IsPlain ps s → m c (filled ps s) ≡ sum_each m ps (parts_of c s)
      sum_of c (part i) p = omega arith
      sum_of c (under h ss) p = l h c (all_filled ps ss) p.0 ∙ (sum_from (asked_below h c) 0 ss p.1 ∙ sym (sum_leaps ps (leaps h) (parts_from (asked_below h c) 0 ss)))
      sum_of c (list is) p = l AList c (items_filled ps is) tt ∙ (sum_items (item_asked c) 0 (items_filled ps is) ∙ sum_in (item_asked c) is p)

      sum_from : (cs : ℕ → Asked) (i : ℕ) (ss : Sketches) → ArePlain ps ss → sum_below m cs i (all_filled ps ss) ≡ sum_each m ps (parts_from cs i ss)
      sum_from cs i end p = refl
      sum_from cs i (s ▹ ss) p = omega (arith, sum_of (cs i) s p.0, sum_from cs (suc i) ss p.1, sum_both ps (parts_of (cs i) s) (parts_from cs (suc i) ss))

      sum_in : (c : Asked) (is : Items) → ItemsPlain ps is → sum_all m c (items_filled ps is) ≡ sum_each m ps (parts_in c is)
      sum_in c no_items p = refl
      sum_in c (item s is) p = omega (arith, sum_of c s p.0, sum_in c is p.1, sum_both ps (parts_of c s) (parts_in c is))
      sum_in c (items i is) p = omega (arith, sum_append c (list_at ps.lists i) (items_filled ps is), sum_in c is p)

-- ---- what stands as often stands there

stands_without : (gs : List Hole) (h k : Hole) → stands_in (without gs h) k ≡ true → stands_in gs k ≡ true
stands_without [] h k e = e
stands_without (g ∷ gs) h k e = by (is_same_hole g h) e (stands_without gs h k)
  where
    by : (b : Bool) → stands_in (if b then gs else g ∷ without gs h) k ≡ true → (stands_in (without gs h) k ≡ true → stands_in gs k ≡ true) → (is_same_hole g k || stands_in gs k) ≡ true
    by true e f = by_either (is_same_hole g k) (stands_in gs k) e
      where
        by_either : (a b : Bool) → b ≡ true → (a || b) ≡ true
        by_either true b e = refl
        by_either false b e = e
    by false e f = among (is_same_hole g k) e
      where
        among : (a : Bool) → (a || stands_in (without gs h) k) ≡ true → (a || stands_in gs k) ≡ true
        among true e = refl
        among false e = f e

each_without : (gs : List Hole) (h : Hole) (hs : List Hole) → has_each (without gs h) hs ≡ true → has_each gs hs ≡ true
each_without gs h [] e = refl
each_without gs h (k ∷ hs) e =
    let (x, y) = and_parts (stands_in (without gs h) k) (has_each (without gs h) hs) e in
    both (stands_in gs k) (has_each gs hs) (stands_without gs h k x) (each_without gs h hs y)

pub often_each : (gs hs : List Hole) → has_as_often gs hs ≡ true → has_each gs hs ≡ true
often_each gs [] e = refl
often_each gs (h ∷ hs) e =
    let (x, y) = and_parts (stands_in gs h) (has_as_often (without gs h) hs) e in
    both (stands_in gs h) (has_each gs hs) x (each_without gs h hs (often_each (without gs h) hs y))

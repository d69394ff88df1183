-- No direct eval comes to stand in what is built anew of the same parts, where it calls only parts that were called.
use Rattle.std.specs.Prelude.{ℕ, suc, ◌≡◌, refl, nat_eq, Bool, true, false, ◌&&◌, ◌||◌, List, [], ◌∷◌, ◌++◌}
use Rattle.std.proofs.Common.{ap, ◌∙◌, sym, subst, true≢false}
use Rattle.std.proofs.lemmas.Bool.{and_parts, eqb-true}
use Rattle.mini_model.specs.Tree.{Tree, Trees, node, none, ◌▸◌, child_or_absent}
use Rattle.mini_model.specs.Paths.{append}
use Rattle.mini_laws.specs.ScopeList.{has_eval, any_has_eval, is_eval_call, is_eval_callee}
use Rattle.mini_rows.specs.Sketches.{Head, AList, Call, shape_by, Sketch, part, under, list, Sketches, end, ◌▹◌, Items, no_items, item, items, Parts, list_at, filled, all_filled, items_filled, Asked, item_asked, asked_below, leaps, leap_holes, parts_of, parts_from, parts_in, is_among, is_rearranged, stands_well}
use Rattle.mini_less.specs.Rebuilt.{own_callee, callees, callees_from, callees_in, are_among, RebuiltEvalsLess}
use Rattle.mini_rows.proofs.Arranging.{All, Any, Each, both_each, first_each, second_each}
use Rattle.mini_rows.proofs.ArrangedMoves.{anyhow_forth}
use Rattle.mini_less.proofs.Finding.{never}

none_of : (a b : Bool) → (a || b) ≡ false → (a ≡ false) × (b ≡ false)
none_of true b e = absurd (true≢false e)
none_of false b e = (refl, e)

abbrev Spared : Asked → Tree → Type 0
Spared c t = has_eval t ≡ false

pub no_callee : (g : Head) (ts : Trees) → is_eval_callee (node (shape_by g) [] 0 ts) ≡ false
no_callee AList ts = refl
no_callee g ts = refl

some_spared : (c : Asked) (ts us : Trees) → any_has_eval (append ts us) ≡ false → All Spared c ts × (any_has_eval us ≡ false)
unfolding has_eval
some_spared c none us a = (tt, a)
some_spared c (t ▸ ts) us a =
    let (x, y) = none_of (has_eval t) (any_has_eval (append ts us)) a in
    let (z, w) = some_spared c ts us y in
    ((x, z), w)

both_spared : (c : Asked) (ts us : Trees) → All Spared c ts → any_has_eval us ≡ false → any_has_eval (append ts us) ≡ false
unfolding has_eval
both_spared c none us a b = b
both_spared c (t ▸ ts) us a b = λ j. a.0 j || both_spared c ts us a.1 b j

module _ (ps : Parts) where
  abbrev Tame : ℕ → Type 0
  Tame i = is_eval_callee (child_or_absent ps.trees i) ≡ false

  abbrev AllTame : List ℕ → Type 0
  AllTame [] = Unit {0}
  AllTame (i ∷ is) = Tame i × AllTame is

  both_tame : (is js : List ℕ) → AllTame is → AllTame js → AllTame (is ++ js)
  both_tame [] js a b = b
  both_tame (i ∷ is) js a b = (a.0, both_tame is js a.1 b)

  first_tame : (is js : List ℕ) → AllTame (is ++ js) → AllTame is
  first_tame [] js a = tt
  first_tame (i ∷ is) js a = (a.0, first_tame is js a.1)

  second_tame : (is js : List ℕ) → AllTame (is ++ js) → AllTame js
  second_tame [] js a = a
  second_tame (i ∷ is) js a = second_tame is js a.1

  one_tame : (is : List ℕ) (j : ℕ) → is_among is j ≡ true → AllTame is → Tame j
  one_tame [] j e a = absurd (cc e)
  one_tame (i ∷ is) j e a = by (nat_eq i j) refl (λ k. one_tame is j k a.1)
    where
      by : (b : Bool) → nat_eq i j ≡ b → (is_among is j ≡ true → Tame j) → Tame j
      by true k f = subst Tame (eqb-true i j k) a.0
      by false k f = f (ap (λ b. b || is_among is j) (sym k) ∙ e)

  some_tame : (is js : List ℕ) → are_among is js ≡ true → AllTame is → AllTame js
  some_tame is [] e a = tt
  some_tame is (j ∷ js) e a = let (x, y) = and_parts (is_among is j) (are_among is js) e in (one_tame is j x a, some_tame is js y a)

  own_tame : (h : Head) (ss : Sketches) → is_eval_call (shape_by h) (all_filled ps ss) ≡ false → AllTame (own_callee h ss)
  own_tame (Call false) (part i ▹ ss) e = (e, tt)
  own_tame h ss e = tt

  own_quiet : (h : Head) (ss : Sketches) → AllTame (own_callee h ss) → is_eval_call (shape_by h) (all_filled ps ss) ≡ false
  own_quiet (Call false) (part i ▹ ss) a = a.0
  own_quiet (Call false) (under g rs ▹ ss) a = no_callee g (all_filled ps rs)
  own_quiet (Call false) (list is ▹ ss) a = refl
  own_quiet (Call false) end a = refl
  own_quiet AList ss a = refl
  own_quiet h ss a = refl

  no_leaps : (ls : List _) → Each Any Spared ps (leap_holes ls)
  no_leaps [] = tt
  no_leaps (l ∷ ls) = (tt, no_leaps ls)

  mutual
    unfolding has_eval

    down : (c : Asked) (s : Sketch) → has_eval (filled ps s) ≡ false → AllTame (callees s) × Each Any Spared ps (parts_of c s)
    down c (part i) a = (tt, (a, tt))
    down c (under h ss) a =
        let (x, y) = none_of (is_eval_call (shape_by h) (all_filled ps ss)) (any_has_eval (all_filled ps ss)) a in
        let (z, w) = down_from (asked_below h c) 0 ss y in
        (both_tame (own_callee h ss) (callees_from ss) (own_tame h ss x) z, both_each Any Spared ps (leap_holes (leaps h)) (parts_from (asked_below h c) 0 ss) (no_leaps (leaps h)) w)
    down c (list is) a = down_in (item_asked c) is a

    down_from : (cs : ℕ → Asked) (i : ℕ) (ss : Sketches) → any_has_eval (all_filled ps ss) ≡ false → AllTame (callees_from ss) × Each Any Spared ps (parts_from cs i ss)
    down_from cs i end a = (tt, tt)
    down_from cs i (s ▹ ss) a =
        let (x, y) = none_of (has_eval (filled ps s)) (any_has_eval (all_filled ps ss)) a in
        let (t, e) = down (cs i) s x in
        let (z, w) = down_from cs (suc i) ss y in
        (both_tame (callees s) (callees_from ss) t z, both_each Any Spared ps (parts_of (cs i) s) (parts_from cs (suc i) ss) e w)

    down_in : (c : Asked) (is : Items) → any_has_eval (items_filled ps is) ≡ false → AllTame (callees_in is) × Each Any Spared ps (parts_in c is)
    down_in c no_items a = (tt, tt)
    down_in c (item s is) a =
        let (x, y) = none_of (has_eval (filled ps s)) (any_has_eval (items_filled ps is)) a in
        let (t, e) = down c s x in
        let (z, w) = down_in c is y in
        (both_tame (callees s) (callees_in is) t z, both_each Any Spared ps (parts_of c s) (parts_in c is) e w)
    down_in c (items i is) a =
        let (x, y) = some_spared c (list_at ps.lists i) (items_filled ps is) a in
        let (z, w) = down_in c is y in
        (z, (x, w))

  mutual
    unfolding has_eval

    up : (c : Asked) (s : Sketch) → AllTame (callees s) → Each Any Spared ps (parts_of c s) → has_eval (filled ps s) ≡ false
    up c (part i) t a = a.0
    up c (under h ss) t a =
        λ j. own_quiet h ss (first_tame (own_callee h ss) (callees_from ss) t) j || up_from (asked_below h c) 0 ss (second_tame (own_callee h ss) (callees_from ss) t) (second_each Any Spared ps (leap_holes (leaps h)) (parts_from (asked_below h c) 0 ss) a) j
    up c (list is) t a = up_in (item_asked c) is t a

    up_from : (cs : ℕ → Asked) (i : ℕ) (ss : Sketches) → AllTame (callees_from ss) → Each Any Spared ps (parts_from cs i ss) → any_has_eval (all_filled ps ss) ≡ false
    up_from cs i end t a = refl
    up_from cs i (s ▹ ss) t a =
        λ j. up (cs i) s (first_tame (callees s) (callees_from ss) t) (first_each Any Spared ps (parts_of (cs i) s) (parts_from cs (suc i) ss) a) j || up_from cs (suc i) ss (second_tame (callees s) (callees_from ss) t) (second_each Any Spared ps (parts_of (cs i) s) (parts_from cs (suc i) ss) a) j

    up_in : (c : Asked) (is : Items) → AllTame (callees_in is) → Each Any Spared ps (parts_in c is) → any_has_eval (items_filled ps is) ≡ false
    up_in c no_items t a = refl
    up_in c (item s is) t a =
        λ j. up c s (first_tame (callees s) (callees_in is) t) (first_each Any Spared ps (parts_of c s) (parts_in c is) a) j || up_in c is (second_tame (callees s) (callees_in is) t) (second_each Any Spared ps (parts_of c s) (parts_in c is) a) j
    up_in c (items i is) t a = both_spared c (list_at ps.lists i) (items_filled ps is) a.0 (up_in c is t a.1)

pub rebuilt_evals_less : RebuiltEvalsLess
rebuilt_evals_less f ps u c s r e k n w a b =
    let (sn, y) = and_parts (stands_well f c s) (stands_well f c r && is_rearranged f (parts_of c s) (parts_of c r)) e in
    let (sr, z) = and_parts (stands_well f c r) (is_rearranged f (parts_of c s) (parts_of c r)) y in
    never (has_eval n) (has_eval w) (λ q.
    let (t, x) = down ps c s (subst (λ m. has_eval m ≡ false) a q) in
    subst (λ m. has_eval m ≡ false) (sym b) (up ps c r (some_tame ps (callees s) (callees r) k t) (anyhow_forth (λ m. has_eval m ≡ false) f ps u (parts_of c s) (parts_of c r) z Any x)))

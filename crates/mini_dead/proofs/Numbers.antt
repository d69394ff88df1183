-- The numbers of functions that go: each is above 0, and stands in the earlier tree alone.
use Rattle.std.proofs.Common.{◌≡◌, ℕ, zero, suc, Bool, true, false, List, [], ◌∷◌, ◌++◌, refl, sym, ap, ◌∙◌, true≢false, eqb-true, arith}
use Rattle.std.specs.Prelude.{◌+◌, ◌≤◌, ◌==◌, nat_eq, not, ◌&&◌, ◌||◌, if◌then◌else◌}
use Rattle.std.specs.List.{list_any}
use Rattle.mini_model.specs.declared.shape.Shape.{Shape}
use Rattle.mini_model.specs.declared.shape.Shape.TheVariants as shape
use Rattle.mini_model.specs.Tree.{Tree, Trees, node, none, ◌▸◌}
use Rattle.mini_accept.specs.WellShaped.{Class, Slot, Tagging, untagged, tagged, Filling, refused, these, each, each_or_last, pieces, filling, class_of, has_its_number, is_whole, is_strict_in, is_last, is_quasi, is_quasi_by, are_quasis, fits, fill}
use Rattle.mini_kept.specs.Carried.{with_number, numbers, all_numbers}
use Rattle.mini_kept.proofs.Bools.{left, right}
use Rattle.mini_kept.proofs.FrameSteps.{its_number}
use Rattle.mini_dead.specs.Pruned.{Lone, a_function, an_arrow, lone_tree, lone_number, Initializer, without_effect, of_function, initializer_tree, own_name, Declarator, declarator, declarator_tree, declarator_trees, Item, function_item, declaration_item, lone_item, item_tree, Pruned, prune, Prunings, end, stays, goes, declarator_goes, earlier, earlier_all, later, later_all}
use Rattle.mini_dead.specs.Drops.{gone_from, times_in, NumbersOnce}

-- ---- functions of a well-shaped tree have numbers

abbrev pub OwnNumbered : Shape → ℕ → Type 0
OwnNumbered (shape.Function d g ds) n = not (n == 0) ≡ true
OwnNumbered (shape.ArrowFunctionExpression ds) n = not (n == 0) ≡ true
OwnNumbered h n = Unit {0}

abbrev mutual
  pub Numbered : Tree → Type 0
  Numbered (node h xs n ts) = OwnNumbered h n × AllNumbered ts

  pub AllNumbered : Trees → Type 0
  AllNumbered none = Unit {0}
  AllNumbered (t ▸ ts) = Numbered t × AllNumbered ts

own_numbered : (c : Class) (h : Shape) (n : ℕ) → has_its_number c h n ≡ true → OwnNumbered h n
own_numbered c (shape.Function d g ds) n e = e
own_numbered c (shape.ArrowFunctionExpression ds) n e = e
own_numbered c h n e = tt

quasi_shape : (g : Tagging) (last : Bool) (h : Shape) (n : ℕ) → is_quasi_by g last h ≡ true → OwnNumbered h n
quasi_shape untagged last (shape.Function d g ds) n e = absurd (true≢false (sym e))
quasi_shape untagged last (shape.ArrowFunctionExpression ds) n e = absurd (true≢false (sym e))
quasi_shape tagged last (shape.Function d g ds) n e = absurd (true≢false (sym e))
quasi_shape tagged last (shape.ArrowFunctionExpression ds) n e = absurd (true≢false (sym e))
quasi_shape g last h n e = tt

one_quasi : (g : Tagging) (last : Bool) (t : Tree) → is_quasi g last t ≡ true → Numbered t
one_quasi g last (node h [] n none) e = (quasi_shape g last h n (left (is_quasi_by g last h) _ e), tt)
one_quasi g last (node h (x ∷ xs) n ts) e = absurd (true≢false (sym e))
one_quasi g last (node h [] n (t ▸ ts)) e = absurd (true≢false (sym e))

quasis_numbered : (g : Tagging) (ts : Trees) → are_quasis g ts ≡ true → AllNumbered ts
quasis_numbered g none e = tt
quasis_numbered g (t ▸ none) e = (one_quasi g true t e, tt)
quasis_numbered g (t ▸ (u ▸ ts)) e = (one_quasi g false t (left (is_quasi g false t) _ e), quasis_numbered g (u ▸ ts) (right (is_quasi g false t) _ e))

either_numbered : (a b : Bool) (P : Type 0) → (a || b) ≡ true → (a ≡ true → P) → (b ≡ true → P) → P
either_numbered true b P e f g = f refl
either_numbered false b P e f g = g e

mutual
  pub fits_numbered : (strict : Bool) (s : Slot) (t : Tree) → fits strict s t ≡ true → Numbered t
  fits_numbered strict s (node h xs n ts) e =
      (own_numbered (class_of s) h n (its_number (class_of s) h xs n ts (fill (is_strict_in strict h) (filling strict s h) ts) e), fill_numbered (is_strict_in strict h) (filling strict s h) ts (right (is_whole (class_of s) h xs n ts) _ e))

  fill_numbered : (strict : Bool) (f : Filling) (ts : Trees) → fill strict f ts ≡ true → AllNumbered ts
  fill_numbered strict f none e = tt
  fill_numbered strict refused (t ▸ ts) e = absurd (true≢false (sym e))
  fill_numbered strict (these []) (t ▸ ts) e = absurd (true≢false (sym e))
  fill_numbered strict (these (s ∷ ss)) (t ▸ ts) e = (fits_numbered strict s t (left (fits strict s t) _ e), fill_numbered strict (these ss) ts (right (fits strict s t) _ e))
  fill_numbered strict (each s) (t ▸ ts) e = (fits_numbered strict s t (left (fits strict s t) _ e), fill_numbered strict (each s) ts (right (fits strict s t) _ e))
  fill_numbered strict (each_or_last s l) (t ▸ ts) e =
      (either_numbered (fits strict s t) (is_last ts && fits strict l t) (Numbered t) (left (fits strict s t || (is_last ts && fits strict l t)) _ e) (λ p. fits_numbered strict s t p) (λ p. fits_numbered strict l t (right (is_last ts) _ p)), fill_numbered strict (each_or_last s l) ts (right (fits strict s t || (is_last ts && fits strict l t)) _ e))
  fill_numbered strict (pieces g) (t ▸ ts) e = quasis_numbered g (t ▸ ts) e

-- ---- the functions that go

abbrev pub initializer_functions : Initializer → List ℕ
initializer_functions (without_effect t) = []
initializer_functions (of_function f) = lone_number f ∷ []

abbrev pub declarator_functions : Declarator → List ℕ
declarator_functions (declarator n x m init) = initializer_functions init

abbrev pub declarators_functions : List Declarator → List ℕ
declarators_functions [] = []
declarators_functions (c ∷ cs) = declarator_functions c ++ declarators_functions cs

abbrev pub item_functions : Item → List ℕ
item_functions (function_item g ds xs n x m ts) = n ∷ []
item_functions (declaration_item k xs n ys m c cs) = declarators_functions (c ∷ cs)
item_functions (lone_item xs n f) = lone_number f ∷ []

abbrev mutual
  pub gone_functions : Pruned → List ℕ
  gone_functions (prune h xs n ps) = all_gone_functions ps

  pub all_gone_functions : Prunings → List ℕ
  all_gone_functions end = []
  all_gone_functions (stays p ps) = gone_functions p ++ all_gone_functions ps
  all_gone_functions (goes t ps) = item_functions t ++ all_gone_functions ps
  all_gone_functions (declarator_goes c ps) = declarator_functions c ++ all_gone_functions ps

module _ (n : ℕ) where
  times_append : (xs ys : List ℕ) → times_in n (xs ++ ys) ≡ times_in n xs + times_in n ys
  times_append [] ys = omega arith
  times_append (x ∷ xs) ys = omega (arith, times_append xs ys)

  numbered_times : (k : ℕ) (ks : List ℕ) → not (k == 0) ≡ true → times_in n (k ∷ []) ≤ times_in n (with_number k ks)
  numbered_times zero ks e = absurd (true≢false (sym e))
  numbered_times (suc k) ks e = omega arith

  times_of : ℕ → ℕ
  times_of k = times_in n (k ∷ [])

  more_times : (k : ℕ) (ks : List ℕ) → times_in n ks ≤ times_in n (with_number k ks)
  more_times zero ks = omega arith
  more_times (suc k) ks = omega arith

  lone_counted : (f : Lone) → Numbered (lone_tree f) → times_in n (lone_number f ∷ []) ≤ times_in n (numbers (lone_tree f))
  unfolding numbers
  lone_counted (a_function g ds xs k ts) a = numbered_times k (all_numbers ts) a.0
  lone_counted (an_arrow ds xs k ts) a = numbered_times k (all_numbers ts) a.0

  initializer_counted : (i : Initializer) → Numbered (initializer_tree i) → times_in n (initializer_functions i) ≤ times_in n (numbers (initializer_tree i))
  unfolding numbers
  initializer_counted (without_effect t) a = omega arith
  initializer_counted (of_function f) a = lone_counted f a

  declarator_counted : (c : Declarator) → Numbered (declarator_tree c) → times_in n (declarator_functions c) ≤ times_in n (numbers (declarator_tree c))
  unfolding numbers
  declarator_counted (declarator k x m init) a =
      let ts = own_name x m ▸ initializer_tree init ▸ none in
      omega (arith, initializer_counted init a.1.1.0, more_times k (all_numbers ts), times_append (numbers (own_name x m)) (numbers (initializer_tree init) ++ []), times_append (numbers (initializer_tree init)) [])

  declarators_counted : (cs : List Declarator) → AllNumbered (declarator_trees cs) → times_in n (declarators_functions cs) ≤ times_in n (all_numbers (declarator_trees cs))
  unfolding numbers
  declarators_counted [] a = omega arith
  declarators_counted (c ∷ cs) a =
      omega (arith, declarator_counted c a.0, declarators_counted cs a.1, times_append (declarator_functions c) (declarators_functions cs), times_append (numbers (declarator_tree c)) (all_numbers (declarator_trees cs)))

  item_counted : (i : Item) → Numbered (item_tree i) → times_in n (item_functions i) ≤ times_in n (numbers (item_tree i))
  unfolding numbers
  item_counted (function_item g ds xs k x m ts) a = numbered_times k (all_numbers (own_name x m ▸ ts)) a.0
  item_counted (declaration_item kind xs k ys m c cs) a =
      omega (arith, declarators_counted (c ∷ cs) a.1.0.1, more_times m (all_numbers (declarator_trees (c ∷ cs))), times_append (with_number m (all_numbers (declarator_trees (c ∷ cs)))) [], more_times k (with_number m (all_numbers (declarator_trees (c ∷ cs))) ++ []))
  item_counted (lone_item xs k f) a = omega (arith, lone_counted f a.1.0, more_times k (numbers (lone_tree f) ++ []), times_append (numbers (lone_tree f)) [])

  node_counted : (k : ℕ) (xs ys zs : List ℕ) → times_in n ys + times_in n zs ≤ times_in n xs → times_in n (with_number k ys) + times_in n zs ≤ times_in n (with_number k xs)
  node_counted zero xs ys zs a = a
  node_counted (suc k) xs ys zs a = omega (arith, a)

  mutual
    unfolding numbers

    pub counted : (p : Pruned) → Numbered (earlier p) → times_in n (numbers (later p)) + times_in n (gone_functions p) ≤ times_in n (numbers (earlier p))
    counted (prune h xs k ps) a = node_counted k (all_numbers (earlier_all ps)) (all_numbers (later_all ps)) (all_gone_functions ps) (all_counted ps a.1)

    all_counted : (ps : Prunings) → AllNumbered (earlier_all ps) → times_in n (all_numbers (later_all ps)) + times_in n (all_gone_functions ps) ≤ times_in n (all_numbers (earlier_all ps))
    all_counted end a = omega arith
    all_counted (stays p ps) a =
        omega (arith, counted p a.0, all_counted ps a.1, times_append (numbers (later p)) (all_numbers (later_all ps)), times_append (gone_functions p) (all_gone_functions ps), times_append (numbers (earlier p)) (all_numbers (earlier_all ps)))
    all_counted (goes i ps) a =
        omega (arith, item_counted i a.0, all_counted ps a.1, times_append (item_functions i) (all_gone_functions ps), times_append (numbers (item_tree i)) (all_numbers (earlier_all ps)))
    all_counted (declarator_goes c ps) a =
        omega (arith, declarator_counted c a.0, all_counted ps a.1, times_append (declarator_functions c) (all_gone_functions ps), times_append (numbers (declarator_tree c)) (all_numbers (earlier_all ps)))

  mutual
    unfolding numbers

    pub fewer : (p : Pruned) → times_in n (numbers (later p)) ≤ times_in n (numbers (earlier p))
    fewer (prune h xs zero ps) = all_fewer ps
    fewer (prune h xs (suc k) ps) = omega (arith, all_fewer ps)

    all_fewer : (ps : Prunings) → times_in n (all_numbers (later_all ps)) ≤ times_in n (all_numbers (earlier_all ps))
    all_fewer end = omega arith
    all_fewer (stays p ps) = omega (arith, fewer p, all_fewer ps, times_append (numbers (later p)) (all_numbers (later_all ps)), times_append (numbers (earlier p)) (all_numbers (earlier_all ps)))
    all_fewer (goes i ps) = omega (arith, all_fewer ps, times_append (numbers (item_tree i)) (all_numbers (earlier_all ps)))
    all_fewer (declarator_goes c ps) = omega (arith, all_fewer ps, times_append (numbers (declarator_tree c)) (all_numbers (earlier_all ps)))

  -- ---- whether a number is there at all

  some_times : (ks : List ℕ) → 1 ≤ times_in n ks → list_any (nat_eq n) ks ≡ true
  some_times [] a = absurd (omega (arith, a))
  some_times (k ∷ ks) a = by (nat_eq n k) a (some_times ks)
    where
      by : (b : Bool) → 1 ≤ (if b then 1 else 0) + times_in n ks → (1 ≤ times_in n ks → list_any (nat_eq n) ks ≡ true) → (b || list_any (nat_eq n) ks) ≡ true
      by true a f = refl
      by false a f = f (omega (arith, a))

  no_times : (ks : List ℕ) → times_in n ks ≡ 0 → list_any (nat_eq n) ks ≡ false
  no_times [] a = refl
  no_times (k ∷ ks) a = by (nat_eq n k) a (no_times ks)
    where
      by : (b : Bool) → (if b then 1 else 0) + times_in n ks ≡ 0 → (times_in n ks ≡ 0 → list_any (nat_eq n) ks ≡ false) → (b || list_any (nat_eq n) ks) ≡ false
      by true a f = absurd (omega (arith, a))
      by false a f = f (omega (arith, a))

  there : (ks : List ℕ) → list_any (nat_eq n) ks ≡ true → 1 ≤ times_in n ks
  there [] p = absurd (true≢false (sym p))
  there (k ∷ ks) p = by (nat_eq n k) p (there ks)
    where
      by : (b : Bool) → (b || list_any (nat_eq n) ks) ≡ true → (list_any (nat_eq n) ks ≡ true → 1 ≤ times_in n ks) → 1 ≤ (if b then 1 else 0) + times_in n ks
      by true p f = omega arith
      by false p f = omega (arith, f p)

  pub was_there : (p : Pruned) → list_any (nat_eq n) (numbers (later p)) ≡ true → list_any (nat_eq n) (numbers (earlier p)) ≡ true
  was_there p q = some_times (numbers (earlier p)) (omega (arith, fewer p, there (numbers (later p)) q))

  pub function_gone : (p : Pruned) → Numbered (earlier p) → NumbersOnce (earlier p) → 1 ≤ times_in n (gone_functions p) → gone_from (earlier p) (later p) n ≡ true
  function_gone p a once m =
      ap (λ b. b && not (list_any (nat_eq n) (numbers (later p)))) (some_times (numbers (earlier p)) (omega (arith, counted p a, m)))
      ∙ ap not (no_times (numbers (later p)) (omega (arith, counted p a, m, once n)))

  pub number_stays : (p : Pruned) → 1 ≤ times_in n (numbers (later p)) → gone_from (earlier p) (later p) n ≡ false
  number_stays p m = ap (λ b. list_any (nat_eq n) (numbers (earlier p)) && not b) (some_times (numbers (later p)) m) ∙ by (list_any (nat_eq n) (numbers (earlier p)))
    where
      by : (b : Bool) → (b && false) ≡ false
      by true = refl
      by false = refl

-- no node has 0
zero_never : (k : ℕ) (ks : List ℕ) → list_any (nat_eq 0) ks ≡ false → list_any (nat_eq 0) (with_number k ks) ≡ false
zero_never zero ks a = a
zero_never (suc k) ks a = ap (λ b. b || list_any (nat_eq 0) ks) (by (nat_eq 0 (suc k)) refl) ∙ a
  where
    by : (b : Bool) → nat_eq 0 (suc k) ≡ b → b ≡ false
    by true p = absurd (omega (arith, eqb-true 0 (suc k) p))
    by false p = refl

any_append : (xs ys : List ℕ) → list_any (nat_eq 0) xs ≡ false → list_any (nat_eq 0) ys ≡ false → list_any (nat_eq 0) (xs ++ ys) ≡ false
any_append [] ys a b = b
any_append (x ∷ xs) ys a b = by (nat_eq 0 x) a (λ p. any_append xs ys p b)
  where
    by : (c : Bool) → (c || list_any (nat_eq 0) xs) ≡ false → (list_any (nat_eq 0) xs ≡ false → list_any (nat_eq 0) (xs ++ ys) ≡ false) → (c || list_any (nat_eq 0) (xs ++ ys)) ≡ false
    by true p f = p
    by false p f = f p

mutual
  unfolding numbers

  zero_absent : (t : Tree) → list_any (nat_eq 0) (numbers t) ≡ false
  zero_absent (node h xs n ts) = zero_never n (all_numbers ts) (all_zero_absent ts)

  all_zero_absent : (ts : Trees) → list_any (nat_eq 0) (all_numbers ts) ≡ false
  all_zero_absent none = refl
  all_zero_absent (t ▸ ts) = any_append (numbers t) (all_numbers ts) (zero_absent t) (all_zero_absent ts)

pub zero_stays : (t u : Tree) → gone_from t u 0 ≡ false
zero_stays t u = ap (λ b. b && not (list_any (nat_eq 0) (numbers u))) (zero_absent t)

mutual
  pub numbered_still : (p : Pruned) → Numbered (earlier p) → Numbered (later p)
  numbered_still (prune h xs n ps) a = (a.0, all_numbered_still ps a.1)

  all_numbered_still : (ps : Prunings) → AllNumbered (earlier_all ps) → AllNumbered (later_all ps)
  all_numbered_still end a = tt
  all_numbered_still (stays p ps) a = (numbered_still p a.0, all_numbered_still ps a.1)
  all_numbered_still (goes i ps) a = all_numbered_still ps a.1
  all_numbered_still (declarator_goes c ps) a = all_numbered_still ps a.1

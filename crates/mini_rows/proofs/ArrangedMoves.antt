-- Parts that are moved, and parts that are dropped.
use Rattle.std.specs.Prelude.{ℕ, ◌+◌, ◌≤◌, ◌≡◌, refl, Bool, true, false, ◌||◌, not, nat_eq, List, [], ◌∷◌, if◌then◌else◌}
use Rattle.std.proofs.Common.{ap, ◌∙◌, sym, subst, arith}
use Rattle.std.proofs.lemmas.Bool.{eqb-true}
use Rattle.mini_model.specs.Tree.{Tree, Trees, none, ◌▸◌, child_or_absent}
use Rattle.mini_kept.proofs.Bools.{left, right}
use Rattle.mini_rows.specs.Lists.{is_unscoped, are_unscoped}
use Rattle.mini_rows.specs.Sketches.{Parts, list_at, Asked, AsWholeItem, AsBranch, AsItem, Leap, Hole, Part, Stretch, Leaps, has_as_often, has_each, Free, is_among, is_statement_asked, settled_as, all_settled, staying, is_rearranged}
use Rattle.mini_rows.specs.Arranged.{Vanishes, AllUnscoped, ListsUnscoped, AllVanish, AreFree, AreLoose}
use Rattle.mini_rows.proofs.Arranging.{All, Each, Any, some_each, often_each, sum_all, sum_each, sum_within}
use Rattle.mini_rows.proofs.ArrangedValues.{Calm, Valued}

-- what holds of an unscoped statement holds of it wherever it stands as one
abbrev pub Moves : (Asked → Tree → Type 0) → Type 0
Moves Q = (c d : Asked) → is_statement_asked c ≡ true → is_statement_asked d ≡ true → (t : Tree) → is_unscoped t ≡ true → Calm t → Q c t → Q d t

abbrev pub SameSums : (Asked → Tree → ℕ) → Type 0
SameSums m = (c d : Asked) → is_statement_asked c ≡ true → is_statement_asked d ≡ true → (t : Tree) → is_unscoped t ≡ true → Calm t → m c t ≡ m d t

pub statement_calm : (c : Asked) (t : Tree) → is_statement_asked c ≡ true → Valued c t → Calm t
statement_calm AsWholeItem t e v = v
statement_calm AsBranch t e v = v
statement_calm AsItem t e v = v
statement_calm c t e v = absurd (cc e)

calm_statement : (c : Asked) (t : Tree) → is_statement_asked c ≡ true → Calm t → Valued c t
calm_statement AsWholeItem t e v = v
calm_statement AsBranch t e v = v
calm_statement AsItem t e v = v
calm_statement c t e v = absurd (cc e)

unscoped_at : (ts : Trees) (is : List ℕ) (i : ℕ) → AllUnscoped ts is → is_among is i ≡ true → is_unscoped (child_or_absent ts i) ≡ true
unscoped_at ts [] i u e = absurd (cc e)
unscoped_at ts (j ∷ is) i u e = by (nat_eq j i) refl (unscoped_at ts is i u.1)
  where
    by : (b : Bool) → nat_eq j i ≡ b → (is_among is i ≡ true → is_unscoped (child_or_absent ts i) ≡ true) → is_unscoped (child_or_absent ts i) ≡ true
    by true k f = subst (λ m. is_unscoped (child_or_absent ts m) ≡ true) (eqb-true j i k) u.0
    by false k f = f (ap (λ b. b || is_among is i) (sym k) ∙ e)

list_unscoped_at : (tss : List Trees) (is : List ℕ) (i : ℕ) → ListsUnscoped tss is → is_among is i ≡ true → are_unscoped (list_at tss i) ≡ true
list_unscoped_at tss [] i u e = absurd (cc e)
list_unscoped_at tss (j ∷ is) i u e = by (nat_eq j i) refl (list_unscoped_at tss is i u.1)
  where
    by : (b : Bool) → nat_eq j i ≡ b → (is_among is i ≡ true → are_unscoped (list_at tss i) ≡ true) → are_unscoped (list_at tss i) ≡ true
    by true k f = subst (λ m. are_unscoped (list_at tss m) ≡ true) (eqb-true j i k) u.0
    by false k f = f (ap (λ b. b || is_among is i) (sym k) ∙ e)

vanishes_at : (ts : Trees) (is : List ℕ) (i : ℕ) → AllVanish ts is → is_among is i ≡ true → Vanishes (child_or_absent ts i)
vanishes_at ts [] i u e = absurd (cc e)
vanishes_at ts (j ∷ is) i u e = by (nat_eq j i) refl (vanishes_at ts is i u.1)
  where
    by : (b : Bool) → nat_eq j i ≡ b → (is_among is i ≡ true → Vanishes (child_or_absent ts i)) → Vanishes (child_or_absent ts i)
    by true k f = subst (λ m. Vanishes (child_or_absent ts m)) (eqb-true j i k) u.0
    by false k f = f (ap (λ b. b || is_among is i) (sym k) ∙ e)

pub unscoped_among : (f : Free) (ps : Parts) → AreLoose ps f → (i : ℕ) → is_among f.moved i ≡ true → is_unscoped (child_or_absent ps.trees i) ≡ true
unscoped_among f ps u i e = unscoped_at ps.trees f.moved i u.0 e

pub lists_unscoped_among : (f : Free) (ps : Parts) → AreLoose ps f → (i : ℕ) → is_among f.lists_moved i ≡ true → are_unscoped (list_at ps.lists i) ≡ true
lists_unscoped_among f ps u i e = list_unscoped_at ps.lists f.lists_moved i u.1 e

-- what is dropped
pub vanishes_among : (f : Free) (ps : Parts) → AllVanish ps.trees f.dropped → (i : ℕ) → is_among f.dropped i ≡ true → Vanishes (child_or_absent ps.trees i)
vanishes_among f ps u i e = vanishes_at ps.trees f.dropped i u e

pub loosened : (f : Free) (ps : Parts) → AreFree ps f → AreLoose ps f
loosened f ps u = (u.0, u.1)

-- ---- one part

valued_settled : (b : Bool) (c : Asked) (t : Tree) → Valued c t → Valued (settled_as b c) t
valued_settled false c t v = v
valued_settled true c t v = by (is_statement_asked c) refl
  where
    by : (s : Bool) → is_statement_asked c ≡ s → Valued (if s then AsItem else c) t
    by true e = statement_calm c t e v
    by false e = v

valued_back : (b : Bool) (c : Asked) (t : Tree) → Valued (settled_as b c) t → Valued c t
valued_back false c t v = v
valued_back true c t v = by (is_statement_asked c) refl v
  where
    by : (s : Bool) → is_statement_asked c ≡ s → Valued (if s then AsItem else c) t → Valued c t
    by true e v = calm_statement c t e v
    by false e v = v

all_valued_settled : (b : Bool) (c : Asked) (ts : Trees) → All Valued c ts → All Valued (settled_as b c) ts
all_valued_settled b c none v = tt
all_valued_settled b c (t ▸ ts) v = (valued_settled b c t v.0, all_valued_settled b c ts v.1)

all_valued_back : (b : Bool) (c : Asked) (ts : Trees) → All Valued (settled_as b c) ts → All Valued c ts
all_valued_back b c none v = tt
all_valued_back b c (t ▸ ts) v = (valued_back b c t v.0, all_valued_back b c ts v.1)

module _ (Q : Asked → Tree → Type 0) (m : Moves Q) where
  to_settled : (b : Bool) (c : Asked) (t : Tree) → (b ≡ true → is_unscoped t ≡ true) → Valued c t → Q c t → Q (settled_as b c) t
  to_settled false c t k v a = a
  to_settled true c t k v a = by (is_statement_asked c) refl
    where
      by : (s : Bool) → is_statement_asked c ≡ s → Q (if s then AsItem else c) t
      by true e = m c AsItem e refl t (k refl) (statement_calm c t e v) a
      by false e = a

  of_settled : (b : Bool) (c : Asked) (t : Tree) → (b ≡ true → is_unscoped t ≡ true) → Valued c t → Q (settled_as b c) t → Q c t
  of_settled false c t k v a = a
  of_settled true c t k v a = by (is_statement_asked c) refl a
    where
      by : (s : Bool) → is_statement_asked c ≡ s → Q (if s then AsItem else c) t → Q c t
      by true e a = m AsItem c refl e t (k refl) (statement_calm c t e v) a
      by false e a = a

  all_to_settled : (b : Bool) (c : Asked) (ts : Trees) → (b ≡ true → are_unscoped ts ≡ true) → All Valued c ts → All Q c ts → All Q (settled_as b c) ts
  all_to_settled b c none k v a = tt
  all_to_settled b c (t ▸ ts) k v a = (to_settled b c t (λ e. left (is_unscoped t) (are_unscoped ts) (k e)) v.0 a.0, all_to_settled b c ts (λ e. right (is_unscoped t) (are_unscoped ts) (k e)) v.1 a.1)

  all_of_settled : (b : Bool) (c : Asked) (ts : Trees) → (b ≡ true → are_unscoped ts ≡ true) → All Valued c ts → All Q (settled_as b c) ts → All Q c ts
  all_of_settled b c none k v a = tt
  all_of_settled b c (t ▸ ts) k v a = (of_settled b c t (λ e. left (is_unscoped t) (are_unscoped ts) (k e)) v.0 a.0, all_of_settled b c ts (λ e. right (is_unscoped t) (are_unscoped ts) (k e)) v.1 a.1)

-- ---- all of them

module _ (f : Free) (ps : Parts) (u : AreLoose ps f) where
  each_valued_settled : (hs : List Hole) → Each Any Valued ps hs → Each Any Valued ps (all_settled f hs)
  each_valued_settled [] v = tt
  each_valued_settled (Part i c ∷ hs) v = (valued_settled (is_among f.moved i) c (child_or_absent ps.trees i) v.0, each_valued_settled hs v.1)
  each_valued_settled (Stretch i c ∷ hs) v = (all_valued_settled (is_among f.lists_moved i) c (list_at ps.lists i) v.0, each_valued_settled hs v.1)
  each_valued_settled (Leaps l ∷ hs) v = (tt, each_valued_settled hs v.1)

  each_valued_back : (hs : List Hole) → Each Any Valued ps (all_settled f hs) → Each Any Valued ps hs
  each_valued_back [] v = tt
  each_valued_back (Part i c ∷ hs) v = (valued_back (is_among f.moved i) c (child_or_absent ps.trees i) v.0, each_valued_back hs v.1)
  each_valued_back (Stretch i c ∷ hs) v = (all_valued_back (is_among f.lists_moved i) c (list_at ps.lists i) v.0, each_valued_back hs v.1)
  each_valued_back (Leaps l ∷ hs) v = (tt, each_valued_back hs v.1)

  module _ (J : Leap → Type 0) (Q : Asked → Tree → Type 0) (m : Moves Q) where
    each_settled : (hs : List Hole) → Each Any Valued ps hs → Each J Q ps hs → Each J Q ps (all_settled f hs)
    each_settled [] v a = tt
    each_settled (Part i c ∷ hs) v a = (to_settled Q m (is_among f.moved i) c (child_or_absent ps.trees i) (unscoped_among f ps u i) v.0 a.0, each_settled hs v.1 a.1)
    each_settled (Stretch i c ∷ hs) v a = (all_to_settled Q m (is_among f.lists_moved i) c (list_at ps.lists i) (lists_unscoped_among f ps u i) v.0 a.0, each_settled hs v.1 a.1)
    each_settled (Leaps l ∷ hs) v a = (a.0, each_settled hs v.1 a.1)

    each_back : (hs : List Hole) → Each Any Valued ps hs → Each J Q ps (all_settled f hs) → Each J Q ps hs
    each_back [] v a = tt
    each_back (Part i c ∷ hs) v a = (of_settled Q m (is_among f.moved i) c (child_or_absent ps.trees i) (unscoped_among f ps u i) v.0 a.0, each_back hs v.1 a.1)
    each_back (Stretch i c ∷ hs) v a = (all_of_settled Q m (is_among f.lists_moved i) c (list_at ps.lists i) (lists_unscoped_among f ps u i) v.0 a.0, each_back hs v.1 a.1)
    each_back (Leaps l ∷ hs) v a = (a.0, each_back hs v.1 a.1)

  -- what stays is there, and so it is of what is dropped
  each_staying : (Q : Asked → Tree → Type 0) → ((c : Asked) (i : ℕ) → is_among f.dropped i ≡ true → Q c (child_or_absent ps.trees i)) → (hs : List Hole) → Each Any Q ps (staying f hs) → Each Any Q ps hs
  each_staying Q k [] a = tt
  each_staying Q k (Part i c ∷ hs) a = by (is_among f.dropped i) refl a (each_staying Q k hs)
    where
      by : (b : Bool) → is_among f.dropped i ≡ b → Each Any Q ps (if not b then Part i c ∷ staying f hs else staying f hs) → (Each Any Q ps (staying f hs) → Each Any Q ps hs) → Q c (child_or_absent ps.trees i) × Each Any Q ps hs
      by true e a g = (k c i e, g a)
      by false e a g = (a.0, g a.1)
  each_staying Q k (Stretch i c ∷ hs) a = (a.0, each_staying Q k hs a.1)
  each_staying Q k (Leaps l ∷ hs) a = (tt, each_staying Q k hs a)

  module _ (hs gs : List Hole) (z : is_rearranged f hs gs ≡ true) where
    pub as_often : has_as_often (all_settled f hs) (all_settled f gs) ≡ true
    as_often = left (has_as_often (all_settled f hs) (all_settled f gs)) (has_each (all_settled f gs) (staying f (all_settled f hs))) z

    each_there : has_each (all_settled f hs) (all_settled f gs) ≡ true
    each_there = often_each (all_settled f hs) (all_settled f gs) as_often

    each_stays : has_each (all_settled f gs) (staying f (all_settled f hs)) ≡ true
    each_stays = right (has_as_often (all_settled f hs) (all_settled f gs)) (has_each (all_settled f gs) (staying f (all_settled f hs))) z

    pub valued_there : Each Any Valued ps hs → Each Any Valued ps gs
    valued_there v = each_valued_back gs (some_each Any Valued ps (all_settled f hs) (all_settled f gs) each_there (each_valued_settled hs v))

    pub forth : (J : Leap → Type 0) (Q : Asked → Tree → Type 0) → Moves Q → Each Any Valued ps hs → Each J Q ps hs → Each J Q ps gs
    forth J Q m v a = each_back J Q m gs (valued_there v) (some_each J Q ps (all_settled f hs) (all_settled f gs) each_there (each_settled J Q m hs v a))

    pub back : (Q : Asked → Tree → Type 0) → Moves Q → ((c : Asked) (i : ℕ) → is_among f.dropped i ≡ true → Q c (child_or_absent ps.trees i)) → Each Any Valued ps hs → Each Any Q ps gs → Each Any Q ps hs
    back Q m k v a = each_back Any Q m hs v (each_staying Q k (all_settled f hs) (some_each Any Q ps (all_settled f gs) (staying f (all_settled f hs)) each_stays (each_settled Any Q m gs (valued_there v) a)))

  -- ---- sums

  module _ (m : Asked → Tree → ℕ) (k : SameSums m) where
    sum_settled_as : (b : Bool) (c : Asked) (t : Tree) → (b ≡ true → is_unscoped t ≡ true) → Valued c t → m (settled_as b c) t ≡ m c t
    sum_settled_as false c t j v = refl
    sum_settled_as true c t j v = by (is_statement_asked c) refl
      where
        by : (s : Bool) → is_statement_asked c ≡ s → m (if s then AsItem else c) t ≡ m c t
        by true e = k AsItem c refl e t (j refl) (statement_calm c t e v)
        by false e = refl

    sum_all_settled : (b : Bool) (c : Asked) (ts : Trees) → (b ≡ true → are_unscoped ts ≡ true) → All Valued c ts → sum_all m (settled_as b c) ts ≡ sum_all m c ts
    sum_all_settled b c none j v = refl
    sum_all_settled b c (t ▸ ts) j v = λ i. sum_settled_as b c t (λ e. left (is_unscoped t) (are_unscoped ts) (j e)) v.0 i + sum_all_settled b c ts (λ e. right (is_unscoped t) (are_unscoped ts) (j e)) v.1 i

    sum_settled : (hs : List Hole) → Each Any Valued ps hs → sum_each m ps (all_settled f hs) ≡ sum_each m ps hs
    sum_settled [] v = refl
    sum_settled (Part i c ∷ hs) v = λ x. sum_settled_as (is_among f.moved i) c (child_or_absent ps.trees i) (unscoped_among f ps u i) v.0 x + sum_settled hs v.1 x
    sum_settled (Stretch i c ∷ hs) v = λ x. sum_all_settled (is_among f.lists_moved i) c (list_at ps.lists i) (lists_unscoped_among f ps u i) v.0 x + sum_settled hs v.1 x
    sum_settled (Leaps l ∷ hs) v = λ x. 0 + sum_settled hs v.1 x

    pub sum_forth : (hs gs : List Hole) → is_rearranged f hs gs ≡ true → Each Any Valued ps hs → sum_each m ps gs ≤ sum_each m ps hs
    sum_forth hs gs z v = omega (arith, sum_settled hs v, sum_settled gs (valued_there hs gs z v), sum_within m ps (all_settled f hs) (all_settled f gs) (as_often hs gs z))

-- ---- what doesn't depend on how a part stands

module _ (P : Tree → Type 0) where
  abbrev pub Anyhow : Asked → Tree → Type 0
  Anyhow c t = P t

  all_anyhow : (c d : Asked) (ts : Trees) → All Anyhow c ts → All Anyhow d ts
  all_anyhow c d none a = tt
  all_anyhow c d (t ▸ ts) a = (a.0, all_anyhow c d ts a.1)

  module _ (f : Free) (ps : Parts) (J : Leap → Type 0) where
    anyhow_settled : (hs : List Hole) → Each J Anyhow ps hs → Each J Anyhow ps (all_settled f hs)
    anyhow_settled [] a = tt
    anyhow_settled (Part i c ∷ hs) a = (a.0, anyhow_settled hs a.1)
    anyhow_settled (Stretch i c ∷ hs) a = (all_anyhow c (settled_as (is_among f.lists_moved i) c) (list_at ps.lists i) a.0, anyhow_settled hs a.1)
    anyhow_settled (Leaps l ∷ hs) a = (a.0, anyhow_settled hs a.1)

    anyhow_back : (hs : List Hole) → Each J Anyhow ps (all_settled f hs) → Each J Anyhow ps hs
    anyhow_back [] a = tt
    anyhow_back (Part i c ∷ hs) a = (a.0, anyhow_back hs a.1)
    anyhow_back (Stretch i c ∷ hs) a = (all_anyhow (settled_as (is_among f.lists_moved i) c) c (list_at ps.lists i) a.0, anyhow_back hs a.1)
    anyhow_back (Leaps l ∷ hs) a = (a.0, anyhow_back hs a.1)

  pub anyhow_forth : (f : Free) (ps : Parts) → AreLoose ps f → (hs gs : List Hole) → is_rearranged f hs gs ≡ true → (J : Leap → Type 0) → Each J Anyhow ps hs → Each J Anyhow ps gs
  anyhow_forth f ps u hs gs z J a = anyhow_back f ps J gs (some_each J Anyhow ps (all_settled f hs) (all_settled f gs) (each_there f ps u hs gs z) (anyhow_settled f ps J hs a))

  pub anyhow_over : (f : Free) (ps : Parts) → AreLoose ps f → (hs gs : List Hole) → is_rearranged f hs gs ≡ true → ((i : ℕ) → is_among f.dropped i ≡ true → P (child_or_absent ps.trees i)) → Each Any Anyhow ps gs → Each Any Anyhow ps hs
  anyhow_over f ps u hs gs z k a = anyhow_back f ps Any hs (each_staying f ps u Anyhow (λ c. k) (all_settled f hs) (some_each Any Anyhow ps (all_settled f gs) (staying f (all_settled f hs)) (each_stays f ps u hs gs z) (anyhow_settled f ps Any gs a)))

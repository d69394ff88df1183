-- A search of a node's children, one after another.
use Rattle.std.proofs.Common.{◌≡◌, ℕ, ◌+◌, ◌<◌, ◌≤◌, Bool, true, false, [], ◌∷◌, refl, sym, ap, ◌∙◌, subst, arith}
use Rattle.std.specs.Prelude.{Option, Some, None, is_some, nat_lt, option_map}
use Rattle.std.proofs.lemmas.Bool.{false≢true}
use Rattle.mini_model.specs.declared.place.Position.{Position}
use Rattle.mini_model.specs.declared.shape.Shape.{Shape}
use Rattle.mini_model.specs.Paths.{Path, spread, Standing, Node, Holder, Missing, standing, by_standing, is_node, width}
use Rattle.mini_model.specs.Position.{child_position}
use Rattle.mini_model.specs.Tree.{Tree, node, none, ◌▸◌, count, children, child_or_absent, shape_of}
use Rattle.mini_node.specs.Children.{with_child}
use Rattle.mini_log.specs.declared.row.LogRow.{LogRow}
use Rattle.mini_log.specs.Walk.{or_else, step_at, step_in}
use Rattle.mini_checker.specs.Checked.{Rows}
use Rattle.mini_replay.specs.declared.seeking.Found.{Found}
use Rattle.mini_replay.specs.declared.seeking.Beside.{Beside}
use Rattle.mini_replay.specs.Seeking.{IsPath, further, is_holder, before, child, child_stands, Sought, SoughtBelow, SoughtIn, SoughtBeside, SoughtAt, MadeBeside, OwnSought, StepsBelow, StepsIn, NoneIn, NoneBeside, NoneAt, AreLonger, IsBeside, rest_below}
use Rattle.mini_replay.proofs.Indices.{lt_of, le_of, held, step_there, path_inside, path_there, at_most}

some_map : {A B : Type 0} (f : A → B) (o : Option A) → is_some (option_map f o) ≡ is_some o
some_map f None = refl
some_map f (Some x) = refl

second : {A : Type 0} (x y : Option A) → is_some y ≡ true → is_some (or_else x y) ≡ true
second None y e = e
second (Some v) y e = refl

first : {A : Type 0} (x y : Option A) → is_some x ≡ true → is_some (or_else x y) ≡ true
first None y e = absurd (false≢true e)
first (Some v) y e = refl

neither : {A : Type 0} (x y : Option A) → x ≡ None → y ≡ None → or_else x y ≡ None
neither None y e f = f
neither (Some v) y e f = e

none_mapped : {A B : Type 0} (f : A → B) (o : Option A) → o ≡ None → option_map f o ≡ None
none_mapped f None e = refl
none_mapped f (Some x) e = absurd (cc e)

sums : (a b c : ℕ) → a + b + c ≡ a + (b + c)
sums a b c = omega arith

last : (j i : ℕ) → i ≤ j → j < i + 1 → i ≡ j
last j i low high = omega (arith, low, high)

module _ (F : Rows) where
  -- what is made of the node itself comes first
  pub made_beside : (r : LogRow) (p : Position) (t : Tree) (i : ℕ) (q : Path) → is_some (F r p t (i ∷ q)) ≡ true → is_some (step_at (F r) p t (i ∷ q)) ≡ true
  made_beside r p (node h xs n ts) i q e = first (F r p (node h xs n ts) (i ∷ q)) (option_map (node h xs n) (step_in (F r) (child_position h p (count ts)) ts i q)) e

  made_own : (r : LogRow) (p : Position) (t : Tree) → is_some (F r p t []) ≡ true → is_some (step_at (F r) p t []) ≡ true
  made_own r p (node h xs n ts) e = e

  -- a step in a child is one in the node
  pub made_in : (r : LogRow) (p : Position) (t : Tree) (k i : ℕ) (q : Path) → k < count (children t) → i < width (child t k) →
      is_some (step_at (F r) (child_stands p t k) (child t k) (further (child t k) i q)) ≡ true → is_some (step_at (F r) p t ((before (children t) k + i) ∷ q)) ≡ true
  made_in r p (node h xs n ts) k i q there inside e =
      second (F r p (node h xs n ts) ((before ts k + i) ∷ q)) (option_map (node h xs n) (step_in (F r) (child_position h p (count ts)) ts (before ts k + i) q))
      (some_map (node h xs n) (step_in (F r) (child_position h p (count ts)) ts (before ts k + i) q)
      ∙ ap is_some (step_there (F r) (child_position h p (count ts)) ts k i q there inside)
      ∙ some_map (with_child ts k) (step_at (F r) (child_position h p (count ts) k) (child_or_absent ts k) (further (child_or_absent ts k) i q)) ∙ e)

  -- a search that found a step in a child, or one that the node makes
  pub found_in : (p : Position) (t : Tree) (b k : ℕ) (x : Found) → k < count (children t) → StepsIn F (child_stands p t k) (child t k) (b + before (children t) k) x → StepsBelow F p t b x
  found_in p t b k x there s =
      let inside = s.inside in
      let most = at_most (children t) k there in
      record {
        index = before (children t) k + s.index;
        rest = s.rest;
        path = s.path ∙ ap (λ i. i ∷ s.rest) (sums b (before (children t) k) s.index);
        inside = omega (arith, inside, most);
        steps = made_in x.row p t k s.index s.rest there s.inside s.steps;
      }

  pub found_between : (p : Position) (t : Tree) (b i : ℕ) (y : Beside) (x : Found) → i < count (spread (children t)) → is_some (F y.row p t (i ∷ rest_below y.is_below)) ≡ true → (x.row ≡ y.row) × (x.at ≡ (b + i) ∷ rest_below y.is_below) → StepsBelow F p t b x
  found_between p t b i y x within e (same, path) = record {
    index = i;
    rest = rest_below y.is_below;
    path = path;
    inside = within;
    steps = made_beside x.row p t i (rest_below y.is_below) (subst (λ r. is_some (F r p t (i ∷ rest_below y.is_below)) ≡ true) (sym same) e);
  }

  pub beside_found : (p : Position) (t : Tree) (b i first end : ℕ) (y : Beside) (a : Option Beside) (o : Option Found) → i < count (spread (children t)) → a ≡ Some y → MadeBeside F p t i a → IsBeside b i y o → SoughtBeside F p t b first end o
  beside_found p t b i first end y a None within same made is = absurd is
  beside_found p t b i first end y a (Some x) within same made is = found_between p t b i y x within (subst (MadeBeside F p t i) same made) is

  -- none of some indices, one after another
  pub none_yet : (p : Position) (t : Tree) (first : ℕ) → NoneBeside F p t first first
  none_yet p t first = λ r i q low high. absurd (apart first i low high)
    where
      apart : (a i : ℕ) → a ≤ i → i < a → ⊥
      apart a i low high = omega (arith, low, high)

  pub none_next : (p : Position) (t : Tree) (first i : ℕ) (a : Option Beside) → a ≡ None → MadeBeside F p t i a → NoneBeside F p t first i → NoneBeside F p t first (i + 1)
  none_next p t first i a same made yet = λ r j q low high. by j (nat_lt j i) refl r q low high
    where
      here : (r : LogRow) (q : Path) → F r p t (i ∷ q) ≡ None
      here = subst (MadeBeside F p t i) same made

      by : (j : ℕ) (b : Bool) → nat_lt j i ≡ b → (r : LogRow) (q : Path) → first ≤ j → j < i + 1 → F r p t (j ∷ q) ≡ None
      by j true e r q low high = yet r j q low (lt_of j i e)
      by j false e r q low high = subst (λ k. F r p t (k ∷ q) ≡ None) (last j i (le_of j i e) high) (here r q)

  pub none_all : (p : Position) (t : Tree) (first i end : ℕ) → end ≤ i → NoneBeside F p t first i → NoneBeside F p t first end
  none_all p t first i end h yet = λ r j q low high. yet r j q low (omega (arith, h, high))

  -- none in some children, one after another
  pub nowhere_next : (p : Position) (t : Tree) (b at : ℕ) (o : Option Found) → o ≡ None → SoughtAt F p t b at o → ((k : ℕ) → k < at → NoneAt F p t k) → (k : ℕ) → k < at + 1 → NoneAt F p t k
  nowhere_next p t b at o same s yet k h = by (nat_lt k at) refl
    where
      here : NoneAt F p t at
      here = subst (SoughtAt F p t b at) same s

      by : (b : Bool) → nat_lt k at ≡ b → NoneAt F p t k
      by true d = yet k (lt_of k at d)
      by false d = subst (NoneAt F p t) (last k at (le_of k at d) h) here

  pub nowhere_yet : (p : Position) (t : Tree) (k : ℕ) → k < 0 → NoneAt F p t k
  nowhere_yet p t k h = absurd (omega (arith, h))

  -- in a child, and beside it
  pub at_found : (p : Position) (t : Tree) (b k first index : ℕ) (s : Position) (c : Tree) (n : ℕ) (h : Shape) (o : Option Found) (x : Found) → k < count (children t) → c ≡ child t k → h ≡ shape_of t → n ≡ count (children t) → s ≡ child_position h p n k →
      first ≡ before (children t) k → index ≡ b + first → o ≡ Some x → SoughtIn F s c index o → SoughtAt F p t b k (Some x)
  at_found p t b k first index s c n h o x there is_c is_h is_n is_s is_first is_index is_o sought =
      found_in p t b k x there
      (subst (λ i. StepsIn F (child_stands p t k) (child t k) i x) (is_index ∙ ap (λ i. b + i) is_first)
      (subst (λ v. StepsIn F (child_stands p t k) v index x) is_c
      (subst (λ v. StepsIn F v c index x) (is_s ∙ ap (λ v. child_position v p n k) is_h ∙ ap (λ m. child_position (shape_of t) p m k) is_n)
      (subst (SoughtIn F s c index) is_o sought))))

  pub at_beside : (p : Position) (t : Tree) (b k first end index : ℕ) (s : Position) (c : Tree) (n : ℕ) (h : Shape) (o u : Option Found) → c ≡ child t k → h ≡ shape_of t → n ≡ count (children t) → s ≡ child_position h p n k →
      first ≡ before (children t) k → end ≡ first + width (child t k) → o ≡ None → SoughtIn F s c index o → SoughtBeside F p t b first end u → SoughtAt F p t b k u
  at_beside p t b k first end index s c n h o None is_c is_h is_n is_s is_first is_end is_o sought beside = record {
    inside = subst (NoneIn F (child_stands p t k)) is_c (subst (λ v. NoneIn F v c) (is_s ∙ ap (λ v. child_position v p n k) is_h ∙ ap (λ m. child_position (shape_of t) p m k) is_n) (subst (SoughtIn F s c index) is_o sought));
    beside = subst (λ i. NoneBeside F p t i (i + width (child t k))) is_first (subst (NoneBeside F p t first) is_end beside);
  }
  at_beside p t b k first end index s c n h o (Some x) is_c is_h is_n is_s is_first is_end is_o sought beside = beside

  -- no step in any child, and none made by the node: none on any path that goes on
  nothing_by : (p : Position) (t : Tree) → ((k : ℕ) → k < count (children t) → NoneAt F p t k) → (r : LogRow) (i : ℕ) (q : Path) → IsPath t (i ∷ q) → step_at (F r) p t (i ∷ q) ≡ None
  nothing_by p (node h xs n ts) none_at r i q e =
      let s = held ts i (path_inside ts i q e) in
      let here = none_at s.at s.there in
      let inside = s.inside in
      let path : IsPath (child_or_absent ts s.at) (further (child_or_absent ts s.at) s.index q) =
      path_there ts s.at s.index q s.there s.inside (subst (λ j. IsPath (node h xs n ts) (j ∷ q)) s.is e) in
      subst (λ j. step_at (F r) p (node h xs n ts) (j ∷ q) ≡ None) (sym s.is)
      (neither (F r p (node h xs n ts) ((before ts s.at + s.index) ∷ q)) (option_map (node h xs n) (step_in (F r) (child_position h p (count ts)) ts (before ts s.at + s.index) q))
      (here.beside r (before ts s.at + s.index) q (omega arith) (omega (arith, inside)))
      (none_mapped (node h xs n) (step_in (F r) (child_position h p (count ts)) ts (before ts s.at + s.index) q)
      (step_there (F r) (child_position h p (count ts)) ts s.at s.index q s.there s.inside
      ∙ none_mapped (with_child ts s.at) (step_at (F r) (child_position h p (count ts) s.at) (child_or_absent ts s.at) (further (child_or_absent ts s.at) s.index q)) (here.inside r s.index q s.inside path))))

  pub nothing_below : (p : Position) (t : Tree) (b : ℕ) → ((k : ℕ) → k < count (children t) → NoneAt F p t k) → SoughtBelow F p t b None
  nothing_below p t b f = nothing_by p t f

  -- in a node of ESTree, and in what holds some
  node_path : (c : Tree) (i : ℕ) (q : Path) → is_node c ≡ true → q ≡ further c i q
  node_path (node h xs n ts) i q e = by (standing h) e
    where
      by : (s : Standing) → by_standing s true false false ≡ true → q ≡ by_standing s q (i ∷ q) (i ∷ q)
      by Node e = refl
      by Holder e = absurd (false≢true e)
      by Missing e = absurd (false≢true e)

  node_width : (c : Tree) → is_node c ≡ true → width c ≡ 1
  node_width (node h xs n ts) e = by (standing h) e
    where
      by : (s : Standing) → by_standing s true false false ≡ true → count (by_standing s (node h xs n ts ▸ none) (spread ts) none) ≡ 1
      by Node e = refl
      by Holder e = absurd (false≢true e)
      by Missing e = absurd (false≢true e)

  held_path : (c : Tree) (i : ℕ) (q : Path) → is_holder c ≡ true → i ∷ q ≡ further c i q
  held_path (node h xs n ts) i q e = by (standing h) e
    where
      by : (s : Standing) → by_standing s false true false ≡ true → i ∷ q ≡ by_standing s q (i ∷ q) (i ∷ q)
      by Node e = absurd (false≢true e)
      by Holder e = refl
      by Missing e = absurd (false≢true e)

  held_width : (c : Tree) → is_holder c ≡ true → width c ≡ count (spread (children c))
  held_width (node h xs n ts) e = by (standing h) e
    where
      by : (s : Standing) → by_standing s false true false ≡ true → count (by_standing s (node h xs n ts ▸ none) (spread ts) none) ≡ count (spread ts)
      by Node e = absurd (false≢true e)
      by Holder e = refl
      by Missing e = absurd (false≢true e)

  missing_width : (c : Tree) → is_node c ≡ false → is_holder c ≡ false → width c ≡ 0
  missing_width (node h xs n ts) e f = by (standing h) e f
    where
      by : (s : Standing) → by_standing s true false false ≡ false → by_standing s false true false ≡ false → count (by_standing s (node h xs n ts ▸ none) (spread ts) none) ≡ 0
      by Node e f = absurd (false≢true (sym e))
      by Holder e f = absurd (false≢true (sym f))
      by Missing e f = refl

  plus_none : (b : ℕ) → b ≡ b + 0
  plus_none b = omega arith

  pub in_node : (p : Position) (c : Tree) (b : ℕ) (o u : Option Found) → is_node c ≡ true → Sought F p c o → AreLonger b o u → SoughtIn F p c b u
  in_node p c b None None e s l = λ r i q w path. subst (λ k. step_at (F r) p c k ≡ None) (node_path c i q e) (s r q (subst (IsPath c) (sym (node_path c i q e)) path))
  in_node p c b None (Some y) e s l = absurd (cc l)
  in_node p c b (Some x) None e s l = absurd l
  in_node p c b (Some x) (Some y) e s l =
      let one = node_width c e in
      record {
        index = 0;
        rest = x.at;
        path = l.path ∙ ap (λ i. i ∷ x.at) (plus_none b);
        inside = omega (arith, one);
        steps = ap (λ k. is_some (step_at (F y.row) p c k)) (sym (node_path c 0 x.at e)) ∙ ap (λ r. is_some (step_at (F r) p c x.at)) l.row ∙ s;
      }

  pub in_holder : (p : Position) (c : Tree) (b : ℕ) (o : Option Found) → is_holder c ≡ true → SoughtBelow F p c b o → SoughtIn F p c b o
  in_holder p c b None e s = λ r i q w path. subst (λ k. step_at (F r) p c k ≡ None) (held_path c i q e) (s r i q (subst (IsPath c) (sym (held_path c i q e)) path))
  in_holder p c b (Some x) e s =
      let inside = s.inside in
      let same = held_width c e in
      record {
        index = s.index;
        rest = s.rest;
        path = s.path;
        inside = omega (arith, inside, same);
        steps = ap (λ k. is_some (step_at (F x.row) p c k)) (sym (held_path c s.index s.rest e)) ∙ s.steps;
      }

  pub in_missing : (p : Position) (c : Tree) (b : ℕ) → is_node c ≡ false → is_holder c ≡ false → SoughtIn F p c b None
  in_missing p c b e f = λ r i q w path. absurd (no_less i (subst (λ n. i < n) (missing_width c e f) w))
    where
      no_less : (i : ℕ) → i < 0 → ⊥
      no_less i h = omega (arith, h)

  -- the node itself, where the path ends there
  pub sought_here : (p : Position) (t : Tree) (o : Option Found) → SoughtBelow F p t 0 None → OwnSought F p t o → Sought F p t o
  sought_here p t None s own = λ r q path. by r q path
    where
      own_none : (p : Position) (t : Tree) (r : LogRow) → F r p t [] ≡ None → step_at (F r) p t [] ≡ None
      own_none p (node h xs n ts) r e = e

      by : (r : LogRow) (q : Path) → IsPath t q → step_at (F r) p t q ≡ None
      by r [] path = own_none p t r (own r)
      by r (i ∷ q) path = s r i q path
  sought_here p t (Some x) s (path, made) = ap (λ q. is_some (step_at (F x.row) p t q)) path ∙ made_own x.row p t made

  pub found_on : (p : Position) (t : Tree) (x : Found) → StepsBelow F p t 0 x → Sought F p t (Some x)
  found_on p t x s = ap (λ q. is_some (step_at (F x.row) p t q)) (s.path ∙ ap (λ i. i ∷ s.rest) (nothing_added s.index)) ∙ s.steps
    where
      nothing_added : (i : ℕ) → 0 + i ≡ i
      nothing_added i = omega arith

-- What the nodes above the end of a way declare before it has its value there.
use Rattle.std.specs.Prelude.{ℕ, zero, suc, ◌+◌, ◌<◌, ◌≤◌, ◌≡◌, ◌⊎◌, refl, ◌||◌, ◌&&◌, not, nat_lt, Bool, true, false, List, [], ◌∷◌, ◌++◌, length, Option, Some, None, if◌then◌else◌}
use Rattle.std.proofs.Common.{ap, ◌∙◌, sym, subst, inl, inr, arith, true≢false}
use Rattle.mini_model.specs.declared.name.Name.{Name}
use Rattle.mini_model.specs.declared.place.Position.{Position}
use Rattle.mini_model.specs.declared.place.Position.TheVariants.{StatementList}
use Rattle.mini_model.specs.declared.shape.Shape.{Shape}
use Rattle.mini_model.specs.declared.shape.Shape.TheVariants as shape
use Rattle.mini_model.specs.Position.{child_position}
use Rattle.mini_model.specs.Tree.{Tree, Trees, node, none, ◌▸◌, absent, count, is_absent}
use Rattle.mini_laws.specs.Asking.{demand}
use Rattle.mini_laws.specs.Congruence.{known_at}
use Rattle.mini_laws.specs.Demand.{Demand}
use Rattle.mini_laws.specs.Fits.{Fits}
use Rattle.mini_laws.specs.Naming.{Summary, summary, summaries, facts, scope_of}
use Rattle.mini_laws.specs.Path.{Path, here, inside, join, plug}
use Rattle.mini_laws.specs.Skeleton.{Within, Off, hidden, hidden_all, needs}
use Rattle.mini_laws.specs.Value.{Variable, Declared, Global, VariableSet, choose, is_in}
use Rattle.mini_laws.proofs.Fitting.{fits_children}
use Rattle.mini_laws.proofs.Simulation.{off_front, off_back}
use Rattle.mini_rows.specs.declared.inside.Way.{Way}
use Rattle.mini_rows.specs.declared.inside.Way.TheVariants as way
use Rattle.mini_rows.specs.Inside.{way_in, above, is_way_to}
use Rattle.mini_rows.specs.Past.{is_binding, is_symbol, has_symbol, binds, any_bind}
use Rattle.mini_rows.specs.PastInside.{lets_before, lets_around, holds_statements, is_let_around, initial_below}
use Rattle.mini_rows.specs.Steady.{times_named, bindings, all_bindings, Begun, nothing_begun, nth_lets, begins, begun_at, valued}
use Rattle.mini_rows.proofs.InsideLoses.{no_way}
use Rattle.mini_rows.proofs.InsideMeaning.{by_stage}
use Rattle.mini_rows.proofs.InsideStages.{Stage, Braces, For, ForIn, ForOf, Items, Case, Handler, from, to, head, before, plainly, view}
use Rattle.mini_rows.proofs.InsideWeights.{Placed, step_placed}
use Rattle.mini_rows.proofs.SteadyLawful.{Lists, children_list, begun_wide}
use Rattle.mini_rows.proofs.UnusedNames.{or_parts}
use Rattle.mini_rows.proofs.Valued.{In, in_either, unbound, has, had, let_here, all_along, Has, begun_off}

-- ---- lists of nodes

joined_bindings : (k : ℕ) (pre : Trees) (t : Tree) (post : Trees) → all_bindings k (join pre t post) ≡ all_bindings k pre + (bindings k t + all_bindings k post)
joined_bindings k none t post = omega arith
joined_bindings k (u ▸ pre) t post = omega (arith, joined_bindings k pre t post)

joined_off : (S : VariableSet) (pre : Trees) (t : Tree) (post : Trees) → Off (hidden_all (join pre t post)) S → Off (hidden t) S
joined_off S none t post o = off_front (hidden t) (hidden_all post) S o
joined_off S (u ▸ pre) t post o = joined_off S pre t post (off_back (hidden u) (hidden_all (join pre t post)) S o)

facts_count : (ts : Trees) → length (facts ts) ≡ count ts
facts_count none = refl
facts_count (t ▸ ts) = ap suc (facts_count ts)

-- a name is declared in the whole as often as in the nodes above a place and in what stands there
pub plugged_bindings : (k : ℕ) (p : Path) (t : Tree) → bindings k (plug p t) ≡ all_bindings k (above p) + bindings k t
plugged_bindings k here t = omega arith
plugged_bindings k (inside h xs n pre p post) t = omega (arith, plugged_bindings k p t, joined_bindings k pre (plug p t) post, joined_bindings k pre absent post)

-- ---- what is declared nowhere is declared not once

module _ (k : ℕ) where
  none_named : (xs : List Name) → has_symbol k xs ≡ false → times_named k xs ≡ 0
  none_named [] e = refl
  none_named (x ∷ xs) e = let (a, b) = or_parts (is_symbol k x.symbol) (has_symbol k xs) e in by (is_symbol k x.symbol) a (none_named xs b)
    where
      by : (c : Bool) → c ≡ false → times_named k xs ≡ 0 → (if c then 1 else 0) + times_named k xs ≡ 0
      by true e f = absurd (true≢false e)
      by false e f = omega (arith, f)

  own_none : (b : Bool) (xs : List Name) → (b && has_symbol k xs) ≡ false → (if b then times_named k xs else 0) ≡ 0
  own_none true xs e = none_named xs e
  own_none false xs e = refl

  mutual
    none_bound : (t : Tree) → binds k t ≡ false → bindings k t ≡ 0
    none_bound (node h xs n ts) e = let (a, b) = or_parts (is_binding h && has_symbol k xs) (any_bind k ts) e in omega (arith, own_none (is_binding h) xs a, all_none_bound ts b)

    pub all_none_bound : (ts : Trees) → any_bind k ts ≡ false → all_bindings k ts ≡ 0
    all_none_bound none e = refl
    all_none_bound (t ▸ ts) e = let (a, b) = or_parts (binds k t) (any_bind k ts) e in omega (arith, none_bound t a, all_none_bound ts b)

-- ---- what begins before the place in a node above it

module _ (k : ℕ) where
  -- some child before the place begins it
  record Before (b : Bool) (h : Shape) (p : Position) (is : List Summary) (m : ℕ) : Type 0 where
    at : ℕ
    before : at < m
    there : In k (begins b h p is at)

  below_or : (j i : ℕ) → j < suc i → (j < i) ⊎ (j ≡ i)
  below_or zero zero h = inr refl
  below_or zero (suc i) h = inl (omega arith)
  below_or (suc j) zero h = absurd (omega (arith, h))
  below_or (suc j) (suc i) h = elim (below_or j i (omega (arith, h))) [ inl x ↦ inl (omega (arith, x)) | inr e ↦ inr (ap suc e) ]

  or_first : (a b : Bool) → a ≡ true → (a || b) ≡ true
  or_first true b e = refl
  or_first false b e = absurd (true≢false (sym e))

  or_second : (a b : Bool) → b ≡ true → (a || b) ≡ true
  or_second true b e = refl
  or_second false b e = e

  -- what was begun at the node is so at each child
  still_begun : (h : Shape) (p : Position) (L : Begun) (is : List Summary) (m : ℕ) → L.symbols k ≡ true → (begun_at h p L is m).symbols k ≡ true
  still_begun h p L is zero e = e
  still_begun h p L is (suc m) e = or_first ((begun_at h p L is m).symbols k) (is_in (Declared k) (begins L.in_lexical h p is m)) (still_begun h p L is m e)

  -- and what begins behind a child is so at each behind that
  begun_behind : (h : Shape) (p : Position) (L : Begun) (is : List Summary) (m i : ℕ) → i < m → In k (begins L.in_lexical h p is i) → (begun_at h p L is m).symbols k ≡ true
  begun_behind h p L is zero i e f = absurd (omega (arith, e))
  begun_behind h p L is (suc m) i e f =
      elim (below_or i m e) [
        | inl x ↦ or_first ((begun_at h p L is m).symbols k) (is_in (Declared k) (begins L.in_lexical h p is m)) (begun_behind h p L is m i x f)
        | inr q ↦ or_second ((begun_at h p L is m).symbols k) (is_in (Declared k) (begins L.in_lexical h p is m)) (subst (λ j. In k (begins L.in_lexical h p is j)) q f)
      ]

  -- in a list of statements

  record Nth (pre : Trees) (d : Tree) (post : Trees) : Type 0 where
    at : ℕ
    before : at < count pre
    there : In k (nth_lets (summaries (join pre d post)) at)

  next : (t : Tree) (pre : Trees) (d : Tree) (post : Trees) → Nth pre d post → Nth (t ▸ pre) d post
  next t pre d post n = record { at = suc n.at; before = omega (arith, n.before); there = n.there }

  unless : (b : Bool) (xs : List Variable) → In k (choose b [] xs) → In k xs
  unless true xs e = absurd (true≢false (sym e))
  unless false xs e = e

  nth_before : (pre : Trees) (d : Tree) (post : Trees) → In k (lets_before (join pre absent post)) → Nth pre d post
  nth_before none d post e = absurd (true≢false (sym e))
  nth_before (t ▸ pre) d post e =
      elim (in_either k (summary t).lets (lets_before (join pre absent post)) (unless (is_absent t) ((summary t).lets ++ lets_before (join pre absent post)) e)) [
        | inl x ↦ record { at = 0; before = omega arith; there = x }
        | inr x ↦ next t pre d post (nth_before pre d post x)
      ]

  abbrev pub is_list : Way → Bool
  is_list way.Statements = true
  is_list w = false

  module _ (b : Bool) (d : Tree) (post : Trees) where
    abbrev Declares : Way → Shape → Trees → Type 0
    Declares w h pre = (p : Position) → (is_list w ≡ true → p ≡ StatementList) → In k (lets_around (is_list w) h (join pre absent post)) → Before b h p (summaries (join pre d post)) (count pre)

    none_there : {A : Type 0} → In k [] → A
    none_there e = absurd (true≢false (sym e))

    items : (pre : Trees) (p : Position) → StatementList ≡ p → In k (lets_before (join pre absent post)) → Before b shape.Listed p (summaries (join pre d post)) (count pre)
    items pre p q e =
        let n = nth_before pre d post e in
        subst (λ p. Before b shape.Listed p (summaries (join pre d post)) (count pre)) q (record { at = n.at; before = n.before; there = n.there })

    declares : (g : Stage) → Declares (from g) (head g) (before g)
    declares (Items pre) p q e = items pre p (sym (q refl)) e
    declares (For a u v) p q e = record { at = 0; before = omega arith; there = e }
    declares (ForIn a u) p q e = record { at = 1; before = omega arith; there = e }
    declares (ForOf a u) p q e = record { at = 1; before = omega arith; there = e }
    declares (Handler a) p q e = record { at = 0; before = omega arith; there = e }
    declares g p q e = none_there e

    unplain : (w : Way) (h : Shape) (pre : Trees) → Declares (plainly w) h pre → Declares w h pre
    unplain way.Held h pre f = f
    unplain w h pre f = f

    declares_in : (w : Way) (h : Shape) (pre : Trees) (r : Way) → way_in w h (count pre) ≡ Some r → Declares w h pre
    declares_in w h pre r e =
        let v = view w h pre r e in
        unplain w h pre (subst (λ w. Declares w h pre) v.from_is (subst (λ h. Declares (from v.stage) h pre) v.head_is (subst (λ pre. Declares (from v.stage) (head v.stage) pre) v.before_is (declares v.stage))))

  holds : (g : Stage) → holds_statements (head g) ≡ is_list (to g)
  holds Braces = refl
  holds (Case a) = refl
  holds g = refl

  pub holds_in : (w : Way) (h : Shape) (pre : Trees) (r : Way) → way_in w h (count pre) ≡ Some r → holds_statements h ≡ is_list r
  holds_in w h pre r e = by_stage (λ h pre. holds_statements h ≡ is_list r) w h pre r e (λ g q. holds g ∙ ap is_list q)

  placed_list : (w : Way) (p : Position) → Placed w p → is_list w ≡ true → p ≡ StatementList
  placed_list way.Statements p f e = f
  placed_list w p f e = absurd (true≢false (sym e))

  -- so it is begun in the child
  pub begun_in : (w : Way) (h : Shape) (pre : Trees) (r : Way) → way_in w h (count pre) ≡ Some r → (p : Position) → Placed w p → (L : Begun) (d : Tree) (post : Trees)
      → (L.symbols k || is_in (Declared k) (lets_around (is_list w) h (join pre absent post))) ≡ true → (begun_at h p L (summaries (join pre d post)) (count pre)).symbols k ≡ true
  begun_in w h pre r e p f L d post g = by (L.symbols k) refl
    where
      is : List Summary
      is = summaries (join pre d post)

      by : (b : Bool) → L.symbols k ≡ b → (begun_at h p L is (count pre)).symbols k ≡ true
      by true q = still_begun h p L is (count pre) q
      by false q =
          let n = declares_in L.in_lexical d post w h pre r e p (placed_list w p f) (sym (ap (λ b. b || is_in (Declared k) (lets_around (is_list w) h (join pre absent post))) q) ∙ g) in
          begun_behind h p L is (count pre) n.at n.before n.there

-- ---- along the way

module _ (c : Tree) (X : VariableSet) where
  abbrev K : Begun → VariableSet
  K L = valued c L.symbols X

  -- what is begun besides in these nodes
  abbrev pub beside : Begun → Way → Trees → Begun
  beside L w us = record { symbols = λ k. L.symbols k || is_let_around k (is_list k w) us; in_lexical = L.in_lexical }

  more_begun : (L M : Begun) → ((k : ℕ) → L.symbols k ≡ true → M.symbols k ≡ true) → Within (K L) (K M)
  unfolding Within
  more_begun L M f (Global s) e = absurd (true≢false (sym e))
  more_begun L M f (Declared k) e = by (has k c L.symbols X e)
    where
      by : Has k c L.symbols X → valued c M.symbols X (Declared k) ≡ true
      by (let_here a q) = had k c M.symbols X (let_here (f k a) q)
      by (all_along q) = had k c M.symbols X (all_along q)

  within_on : (A B C : VariableSet) → Within A B → Within B C → Within A C
  unfolding Within
  within_on A B C f g x e = g x (f x e)

  or_none : (b : Bool) → (b || false) ≡ true → b ≡ true
  or_none true e = refl
  or_none false e = absurd (true≢false (sym e))

  regroup : (a b d : Bool) → (a || (b || d)) ≡ true → ((a || b) ≡ true) ⊎ (d ≡ true)
  regroup true b d e = inl refl
  regroup false true d e = inl refl
  regroup false false d e = inr e

  module _ (z : Way) (n : Tree) where
    abbrev Wide : Way → Path → Type 0
    Wide w p =
        (L : Begun) (o : Position) (q : Demand) (S : VariableSet) → Placed w o → Fits o q → Lists L.in_lexical q → Within (K L) S → Off (hidden (plug p n)) (K L) → ((k : ℕ) → bindings k (plug p n) ≤ bindings k c) → Within (K (beside L w (above p))) (known_at p n q S)

    wide_by : (w : Way) (h : Shape) (pre : Trees) (p : Path) (post : Trees) (r : Option Way) → way_in w h (count pre) ≡ r → ((r : Way) → is_way_to z (Some r) p ≡ true → Wide r p) → is_way_to z r p ≡ true → Wide w (inside h [] 0 pre p post)
    wide_by w h pre p post None e rest y L o q S f fit a within off fewer = absurd (no_way z p y)
    wide_by w h pre p post (Some r) e rest y L o q S f fit a within off fewer =
        let ts = join pre (plug p n) post in
        let inner = off_back (scope_of h (summaries ts)) (hidden_all ts) (K L) off in
        let fewer_there : (k : ℕ) → all_bindings k ts ≤ bindings k c = λ k. omega (arith, fewer k) in
        let M = begun_at h o L (summaries ts) (count pre) in
        let smaller : (k : ℕ) → bindings k (plug p n) ≤ bindings k c = λ k. omega (arith, fewer_there k, joined_bindings k pre (plug p n) post) in
        let below = rest r y M (child_position h o (count ts) (count pre)) (demand h (facts ts) q (count pre)) (needs h q S ts (count pre)) (step_placed w h pre r o (count ts) e)
        (subst (λ m. Fits (child_position h o m (count pre)) (demand h (facts ts) q (count pre))) (facts_count ts) (fits_children h (facts ts) o q fit (count pre)))
        (children_list h o q L ts fit a (count pre)) (begun_wide c X h o q L S ts fit a within inner fewer_there (count pre)) (joined_off (K M) pre (plug p n) post (begun_off c X h o L ts inner fewer_there (count pre))) smaller in
        within_on _ _ _ (more_begun (beside L w (node h [] 0 (join pre absent post) ▸ above p)) (beside M r (above p)) (λ k g. step k g)) below
      where
        step : (k : ℕ) → (L.symbols k || (is_in (Declared k) (lets_around (is_list k w) h (join pre absent post)) || is_let_around k (holds_statements h) (above p))) ≡ true → ((begun_at h o L (summaries (join pre (plug p n) post)) (count pre)).symbols k || is_let_around k (is_list k r) (above p)) ≡ true
        step k g =
            elim (regroup (L.symbols k) (is_in (Declared k) (lets_around (is_list k w) h (join pre absent post))) (is_let_around k (holds_statements h) (above p)) g) [
              | inl x ↦ or_first k ((begun_at h o L (summaries (join pre (plug p n) post)) (count pre)).symbols k) (is_let_around k (is_list k r) (above p)) (begun_in k w h pre r e o f L (plug p n) post x)
              | inr x ↦ or_second k ((begun_at h o L (summaries (join pre (plug p n) post)) (count pre)).symbols k) (is_let_around k (is_list k r) (above p)) (sym (ap (λ b. is_let_around k b (above p)) (holds_in k w h pre r e)) ∙ x)
            ]

    pub wide : (w : Way) (p : Path) → is_way_to z (Some w) p ≡ true → Wide w p
    wide w here y L o q S f fit a within off fewer = within_on _ _ _ (more_begun (beside L w none) L (λ k g. or_none (L.symbols k) g)) within
    wide w (inside h [] zero pre p post) y L o q S f fit a within off fewer = wide_by w h pre p post (way_in w h (count pre)) refl (λ r g. wide r p g) y L o q S f fit a within off fewer
    wide w (inside h [] (suc m) pre p post) y L o q S f fit a within off fewer = absurd (true≢false (sym y))
    wide w (inside h (x ∷ xs) m pre p post) y L o q S f fit a within off fewer = absurd (true≢false (sym y))

-- ---- at its end

not_true : (b : Bool) → not b ≡ true → b ≡ false
not_true true e = absurd (true≢false (sym e))
not_true false e = refl

and_parts : (a b : Bool) → (a && b) ≡ true → (a ≡ true) × (b ≡ true)
and_parts true b e = (refl, e)
and_parts false b e = absurd (true≢false (sym e))

either : (a b : Bool) → (a || b) ≡ true → (a ≡ true) ⊎ (b ≡ true)
either true b e = inl refl
either false b e = inr e

-- what has its value below these nodes and is declared nowhere in what stands there
module _ (X : VariableSet) (p : Path) (t : Tree) (k : ℕ) (e : initial_below (above p) X (Declared k) ≡ true) (f : bindings k t ≡ 0) where
  abbrev c : Tree
  c = plug p t

  abbrev us : Trees
  us = above p

  as_often : bindings k c ≡ all_bindings k us
  as_often = let whole = plugged_bindings k p t in omega (arith, whole, f)

  pub begun_there : valued c (beside c X nothing_begun way.Statements us).symbols X (Declared k) ≡ true
  begun_there = by (either (is_let_around k true us && not (nat_lt 1 (all_bindings k us))) (X (Declared k) && not (any_bind k us)) e)
    where
      not_false : (b : Bool) → b ≡ false → not b ≡ true
      not_false true q = absurd (true≢false q)
      not_false false q = refl

      both : (a b : Bool) → a ≡ true → b ≡ true → (a && b) ≡ true
      both true b q r = r
      both false b q r = absurd (true≢false (sym q))

      by : ((is_let_around k true us && not (nat_lt 1 (all_bindings k us))) ≡ true) ⊎ ((X (Declared k) && not (any_bind k us)) ≡ true) → valued c (beside c X nothing_begun way.Statements us).symbols X (Declared k) ≡ true
      by (inl g) =
          let (a, b) = and_parts (is_let_around k true us) (not (nat_lt 1 (all_bindings k us))) g in
          had k c (beside c X nothing_begun way.Statements us).symbols X (let_here a (ap (λ m. not (nat_lt 1 m)) as_often ∙ b))
      by (inr g) =
          let (a, b) = and_parts (X (Declared k)) (not (any_bind k us)) g in
          let nowhere : binds k c ≡ false = unbound k c (let none_above = all_none_bound k us (not_true (any_bind k us) b) in omega (arith, as_often, none_above)) in
          had k c (beside c X nothing_begun way.Statements us).symbols X (all_along (both (X (Declared k)) (not (binds k c)) a (not_false (binds k c) nowhere)))

-- A statement without a `var` further inside: what it keeps, and that it means the same but for what that variable holds.
use Rattle.std.specs.Prelude.{ℕ, zero, suc, ◌≡◌, refl, ◌||◌, Bool, true, false, List, [], ◌∷◌, length, Option, Some, None}
use Rattle.std.proofs.Common.{ap, ◌∙◌, sym, subst, inr, true≢false, arith}
use Rattle.std.proofs.lemmas.List.{append-nil}
use Rattle.mini_model.specs.declared.name.Name.{Name}
use Rattle.mini_model.specs.declared.shape.Shape.{Shape}
use Rattle.mini_model.specs.declared.shape.Shape.TheVariants as shape
use Rattle.mini_model.specs.Tree.{Tree, Trees, node, none, ◌▸◌, absent, listed, count}
use Rattle.mini_accept.specs.WellShaped.{Depth, each, fill}
use Rattle.mini_laws.specs.declared.names.Declared.TheVariants as declared
use Rattle.mini_laws.specs.declared.names.Use.TheVariants.{Read}
use Rattle.mini_laws.specs.Asking.{demand, list_demand, tail_demand, last_tail}
use Rattle.mini_laws.specs.Congruence.{Avoids, AllAvoid, Apart, PathAvoids, ReadAlike, demand_at}
use Rattle.mini_laws.specs.DeclaredNames.{names_of, body_names}
use Rattle.mini_laws.specs.Demand.{Tail, Demand, Stat}
use Rattle.mini_laws.specs.Naming.{Facts, facts, summary}
use Rattle.mini_laws.specs.Scoped.{Unmentioned}
use Rattle.mini_laws.specs.Path.{Path, here, inside, join, plug}
use Rattle.mini_laws.specs.Same.{Same}
use Rattle.mini_laws.specs.State.{Environment}
use Rattle.mini_laws.specs.Substitution.{alone}
use Rattle.mini_laws.specs.Value.{Declared, VariableSet, nothing}
use Rattle.mini_laws.proofs.Congruent.{congruent_same, weaker, no_within, no_off}
use Rattle.mini_laws.proofs.Simulation.{within_refl}
use Rattle.mini_kept.specs.Frames.{ports}
use Rattle.mini_kept.specs.Without.{Permits}
use Rattle.mini_kept.proofs.Clashes.{no_more_same, no_more_both}
use Rattle.mini_kept.proofs.Unplaced.{as_body}
use Rattle.mini_rows.specs.declared.inside.Way.{Way}
use Rattle.mini_rows.specs.declared.inside.Way.TheVariants as way
use Rattle.mini_rows.specs.Inside.{way_in, above, same_way, is_way_to}
use Rattle.mini_rows.specs.Unused.{resolved, names, any_names}
use Rattle.mini_rows.proofs.ListShapes.{first_fits, more_fit}
use Rattle.mini_rows.proofs.InsideKept.{Keeping, step, keeps_held}
use Rattle.mini_rows.proofs.InsideStages.{Stage, Braces, Then, Else, While, Doing, For, ForIn, ForOf, Labeled, Tried, Caught, Finally, Switched, Items, Cases, Case, Handler, Heading, from, to, head, before, over, plainly, view}
use Rattle.mini_rows.proofs.UnusedKept.{LeavesThere, DeclaresThere}
use Rattle.mini_rows.proofs.UnusedMeaning.{ReadAs, ReadThere, read_alone}
use Rattle.mini_rows.proofs.UnusedNames.{or_parts, all_avoided}
use Rattle.mini_rows.proofs.UnusedStretches.{item_in, Loses}

-- ---- nothing beside the place mentions it

pub joined_unnamed : (x : Name) (pre : Trees) (c : Tree) (post : Trees) → any_names x (join pre c post) ≡ false → (any_names x pre ≡ false) × (names x c ≡ false) × (any_names x post ≡ false)
joined_unnamed x none c post e = let (a, b) = or_parts (names x c) (any_names x post) e in (refl, a, b)
joined_unnamed x (t ▸ pre) c post e =
    let (a, b) = or_parts (names x t) (any_names x (join pre c post)) e in
    let (f, g, h) = joined_unnamed x pre c post b in
    (ap (λ q. q || any_names x pre) a ∙ f, g, h)

-- ---- along the way

pub no_way : (e : Way) (p : Path) → is_way_to e None p ≡ true → ⊥
no_way e here q = true≢false (sym q)
no_way e (inside h [] zero pre p post) q = true≢false (sym q)
no_way e (inside h [] (suc n) pre p post) q = true≢false (sym q)
no_way e (inside h (y ∷ ys) n pre p post) q = true≢false (sym q)

pub ways_same : (e s : Way) → same_way e s ≡ true → e ≡ s
ways_same way.Statement way.Statement q = refl
ways_same way.Held way.Held q = refl
ways_same way.Statements way.Statements q = refl
ways_same way.Cases way.Cases q = refl
ways_same way.Case way.Case q = refl
ways_same way.Catch way.Catch q = refl
ways_same way.Head way.Head q = refl
ways_same e s q = absurd (true≢false (sym q))

-- a step of it
module _ (s : List ℕ) (k : ℕ) (e : Way) where
  abbrev x : Name
  x = resolved s k

  abbrev Along : Way → Path → Tree → Tree → Type 0
  Along w p a b = is_way_to e (Some w) p ≡ true → any_names x (above p) ≡ false → Keeping s k e a b → Keeping s k w (plug p a) (plug p b)

  unplain : (w : Way) (t u : Tree) → Keeping s k (plainly w) t u → Keeping s k w t u
  unplain way.Held t u kept = keeps_held s k t u kept
  unplain w t u kept = kept

  one_step : (w : Way) (h : Shape) (pre post : Trees) (r : Way) (c d : Tree) → way_in w h (count pre) ≡ Some r → any_names x pre ≡ false → any_names x post ≡ false → Keeping s k r c d → Keeping s k w (node h [] 0 (join pre c post)) (node h [] 0 (join pre d post))
  one_step w h pre post r c d q f g kept =
      let v = view w h pre r q in
      unplain w (node h [] 0 (join pre c post)) (node h [] 0 (join pre d post))
      (subst (λ w. Keeping s k w (node h [] 0 (join pre c post)) (node h [] 0 (join pre d post))) v.from_is
      (subst (λ h. Keeping s k (from v.stage) (node h [] 0 (join pre c post)) (node h [] 0 (join pre d post))) v.head_is
      (subst (λ pre. Keeping s k (from v.stage) (node (head v.stage) [] 0 (join pre c post)) (node (head v.stage) [] 0 (join pre d post))) v.before_is
      (step s k v.stage c d post (ap (any_names x) v.before_is ∙ f) g (subst (λ r. Keeping s k r c d) (sym v.to_is) kept)))))

  by_way : (w : Way) (h : Shape) (pre post : Trees) (p : Path) (c d : Tree) (r : Option Way) → way_in w h (count pre) ≡ r → any_names x pre ≡ false → any_names x post ≡ false → ((r : Way) → is_way_to e (Some r) p ≡ true → Keeping s k r c d) → is_way_to e r p ≡ true → Keeping s k w (node h [] 0 (join pre c post)) (node h [] 0 (join pre d post))
  by_way w h pre post p c d None q f g kept y = absurd (no_way e p y)
  by_way w h pre post p c d (Some r) q f g kept y = one_step w h pre post r c d q f g (kept r y)

  pub along : (w : Way) (p : Path) (a b : Tree) → Along w p a b
  along w here a b q f kept = subst (λ z. Keeping s k z a b) (ways_same e w q) kept
  along w (inside h [] zero pre p post) a b q f kept =
      let (here_free, own) = or_parts (any_names x (join pre absent post)) (any_names x (above p)) f in
      let (earlier, none_there, later) = joined_unnamed x pre absent post here_free in
      by_way w h pre post p (plug p a) (plug p b) (way_in w h (count pre)) refl earlier later (λ r g. along r p a b g own kept) q
  along w (inside h [] (suc n) pre p post) a b q f kept = absurd (true≢false (sym q))
  along w (inside h (y ∷ ys) n pre p post) a b q f kept = absurd (true≢false (sym q))

  -- no node beside it mentions the variable

  avoids_by : (pre post : Trees) (p : Path) (r : Option Way) → any_names x pre ≡ false → any_names x post ≡ false → ((r : Way) → is_way_to e (Some r) p ≡ true → PathAvoids (alone (Declared k)) p) → (h : Shape) → is_way_to e r p ≡ true → PathAvoids (alone (Declared k)) (inside h [] zero pre p post)
  avoids_by pre post p None f g rest h q = absurd (no_way e p q)
  avoids_by pre post p (Some r) f g rest h q = (tt, all_avoided x k refl pre f, rest r q, all_avoided x k refl post g)

  pub path_avoids : (w : Way) (p : Path) → is_way_to e (Some w) p ≡ true → any_names x (above p) ≡ false → PathAvoids (alone (Declared k)) p
  path_avoids w here q f = tt
  path_avoids w (inside h [] zero pre p post) q f =
      let (here_free, own) = or_parts (any_names x (join pre absent post)) (any_names x (above p)) f in
      let (earlier, none_there, later) = joined_unnamed x pre absent post here_free in
      avoids_by pre post p (way_in w h (count pre)) earlier later (λ r g. path_avoids r p g own) h q
  path_avoids w (inside h [] (suc n) pre p post) q f = absurd (true≢false (sym q))
  path_avoids w (inside h (y ∷ ys) n pre p post) q f = absurd (true≢false (sym q))

-- ---- what is asked of it

-- of a statement and of a list of them, that it is run
abbrev pub Runs : Demand → Type 0
Runs q = (t : Option Tail) × (q ≡ Stat t)

abbrev pub Asked : Way → Demand → Type 0
Asked way.Statement q = Runs q
Asked way.Held q = Runs q
Asked way.Statements q = Runs q
Asked w q = Unit {0}

tails : (n : ℕ) (t : Option Tail) (i : ℕ) → Runs (tail_demand n t i)
tails zero t i = (None, refl)
tails (suc n) t zero = (last_tail n t, refl)
tails (suc n) t (suc i) = tails n t i

items_run : (n : ℕ) (q : Demand) (i : ℕ) → Runs q → Runs (list_demand n q i)
items_run n q i (t, e) = subst (λ q. Runs (list_demand n q i)) (sym e) (tails n t i)

asked : (g : Stage) (fs : List Facts) (q : Demand) → Asked (from g) q → Asked (to g) (demand (head g) fs q (count (before g)))
asked Braces fs q (t, e) = subst (λ q. Runs (demand shape.BlockStatement fs q 0)) (sym e) (t, refl)
asked (Then a) fs q (t, e) = subst (λ q. Runs (demand shape.IfStatement fs q 1)) (sym e) (t, refl)
asked (Else a b) fs q (t, e) = subst (λ q. Runs (demand shape.IfStatement fs q 2)) (sym e) (t, refl)
asked (While a) fs q r = (_, refl)
asked Doing fs q r = (_, refl)
asked (For a b c) fs q r = (_, refl)
asked (ForIn a b) fs q r = (_, refl)
asked (ForOf a b) fs q r = (_, refl)
asked (Labeled a) fs q r = (_, refl)
asked Tried fs q r = (_, refl)
asked (Caught a) fs q r = tt
asked (Finally a b) fs q r = (_, refl)
asked (Switched a) fs q r = tt
asked (Items pre) fs q r = items_run (length fs) q (count pre) r
asked (Cases pre) fs q r = tt
asked (Case a) fs q r = (_, refl)
asked (Handler a) fs q r = (_, refl)
asked Heading fs q r = tt

plainly_asked : (w : Way) (q : Demand) → Asked w q → Asked (plainly w) q
plainly_asked way.Held q a = a
plainly_asked w q a = a

pub step_asked : (w : Way) (h : Shape) (pre : Trees) (r : Way) (fs : List Facts) (q : Demand) → way_in w h (count pre) ≡ Some r → Asked w q → Asked r (demand h fs q (count pre))
step_asked w h pre r fs q e a =
    let v = view w h pre r e in
    subst (λ pre. Asked r (demand h fs q (count pre))) v.before_is
    (subst (λ h. Asked r (demand h fs q (count (before v.stage)))) v.head_is
    (subst (λ r. Asked r (demand (head v.stage) fs q (count (before v.stage)))) v.to_is (asked v.stage fs q (subst (λ w. Asked w q) (sym v.from_is) (plainly_asked w q a)))))

module _ (z : Way) where
  runs_by : (w : Way) (h : Shape) (pre : Trees) (p : Path) (fs : List Facts) (q : Demand) (P : Demand → Type 0) (r : Option Way) → way_in w h (count pre) ≡ r → Asked w q → ((r : Way) → is_way_to z (Some r) p ≡ true → Asked r (demand h fs q (count pre)) → P (demand h fs q (count pre))) → is_way_to z r p ≡ true → P (demand h fs q (count pre))
  runs_by w h pre p fs q P None y a rest e = absurd (no_way z p e)
  runs_by w h pre p fs q P (Some r) y a rest e = rest r e (step_asked w h pre r fs q y a)

  pub runs_at : (w : Way) (p : Path) (c : Tree) (q : Demand) → is_way_to z (Some w) p ≡ true → Asked w q → Asked z (demand_at p c q)
  runs_at w here c q e a = subst (λ y. Asked y q) (sym (ways_same z w e)) a
  runs_at w (inside h [] zero pre p post) c q e a =
      let fs = facts (join pre (plug p c) post) in
      runs_by w h pre p fs q (λ y. Asked z (demand_at p c y)) (way_in w h (count pre)) refl a (λ r g b. runs_at r p c (demand h fs q (count pre)) g b) e
  runs_at w (inside h [] (suc n) pre p post) c q e a = absurd (true≢false (sym e))
  runs_at w (inside h (y ∷ ys) n pre p post) c q e a = absurd (true≢false (sym e))

-- ---- a statement on it: what is read of it

pub record States (t u : Tree) : Type 0 where
  pub read : (k : ℕ) → ReadAs k t u
  pub body_first : body_names t ≡ names_of declared.Hoisted t
  pub body_second : body_names u ≡ names_of declared.Hoisted u
  pub ported : (rest : Trees) → ports true (t ▸ rest) ≡ ports true (u ▸ rest)

stated : (g : Stage) → from g ≡ way.Statement → (c d : Tree) (post : Trees) → States (over g c post) (over g d post)
unfolding body_names names_of
stated (Items pre) e c d post = absurd (cc e)
stated (Cases pre) e c d post = absurd (cc e)
stated (Case a) e c d post = absurd (cc e)
stated (Handler a) e c d post = absurd (cc e)
stated Braces e c d post = record { read = λ k. record { lets = inr refl; functions = refl; facts = refl; texts = refl }; body_first = refl; body_second = refl; ported = λ rest. refl }
stated g e c d post = record { read = λ k. record { lets = inr refl; functions = refl; facts = refl; texts = refl }; body_first = refl; body_second = refl; ported = λ rest. refl }

step_stated : (h : Shape) (pre post : Trees) (r : Way) (c d : Tree) → way_in way.Statement h (count pre) ≡ Some r → States (node h [] 0 (join pre c post)) (node h [] 0 (join pre d post))
step_stated h pre post r c d e =
    let v = view way.Statement h pre r e in
    subst (λ h. States (node h [] 0 (join pre c post)) (node h [] 0 (join pre d post))) v.head_is (subst (λ pre. States (node (head v.stage) [] 0 (join pre c post)) (node (head v.stage) [] 0 (join pre d post))) v.before_is (stated v.stage v.from_is c d post))

module _ (z : Way) (other : same_way z way.Statement ≡ false) where
  states_by : (h : Shape) (pre post : Trees) (p : Path) (c d : Tree) (r : Option Way) → way_in way.Statement h (count pre) ≡ r → is_way_to z r p ≡ true → States (node h [] 0 (join pre c post)) (node h [] 0 (join pre d post))
  states_by h pre post p c d None y e = absurd (no_way z p e)
  states_by h pre post p c d (Some r) y e = step_stated h pre post r c d y

  pub states : (p : Path) (a b : Tree) → is_way_to z (Some way.Statement) p ≡ true → States (plug p a) (plug p b)
  states here a b e = absurd (true≢false (sym e ∙ other))
  states (inside h [] zero pre p post) a b e = states_by h pre post p (plug p a) (plug p b) (way_in way.Statement h (count pre)) refl e
  states (inside h [] (suc n) pre p post) a b e = absurd (true≢false (sym e))
  states (inside h (y ∷ ys) n pre p post) a b e = absurd (true≢false (sym e))

-- ---- what stands there avoids a variable that nothing mentions

module _ (D : VariableSet) where
  among : (pre post : Trees) (c : Tree) → AllAvoid D pre → Avoids D c → AllAvoid D post → AllAvoid D (join pre c post)
  among none post c f g h = (g, h)
  among (u ▸ pre) post c f g h = (f.0, among pre post c f.1 g h)

  pub plug_avoids : (p : Path) (c : Tree) → PathAvoids D p → Avoids D c → Avoids D (plug p c)
  plug_avoids here c a b = b
  plug_avoids (inside h xs n pre p post) c a b = (a.0, among pre post (plug p c) a.1 (plug_avoids p c a.2 b) a.3)

-- ---- what means the same where it is run does so in what is around it

module _ (s : List ℕ) (k : ℕ) (z : Way) (runs : (q : Demand) → Asked z q → Runs q) (p : Path) (free : any_names (resolved s k) (above p) ≡ false) (e : Environment) (apart : Apart e (alone (Declared k))) (n w : Tree) (avoids : Avoids (alone (Declared k)) w) (read : ReadAlike (alone (Declared k)) e (summary n) (summary w))
    (same : (t : Option Tail) → Same e (alone (Declared k)) nothing (Stat t) n w) where
  abbrev D : VariableSet
  D = alone (Declared k)

  -- in a path whose end is asked so
  around_same : (c : Path) (q : Demand) → PathAvoids D c → Runs (demand_at c n q) → Same e D nothing q (plug c n) (plug c w)
  around_same c q a (t, is) = congruent_same e D apart c n w a avoids read nothing q (no_off _) (weaker e D D nothing _ (within_refl D) (no_within _) (demand_at c n q) n w (subst (λ q. Same e D nothing q n w) (sym is) (same t)))

  -- as a statement of a list
  pub listed_same : is_way_to z (Some way.Statement) p ≡ true → Same e D nothing (Stat None) (listed (plug p n ▸ none)) (listed (plug p w ▸ none))
  listed_same route = around_same (inside shape.Listed [] 0 none p none) (Stat None) (tt, tt, path_avoids s k z way.Statement p route free, tt) (runs _ (runs_at z way.Statement p n (Stat None) route (None, refl)))

  -- and by itself
  pub there_same : (v : Way) → is_way_to z (Some v) p ≡ true → (t : Option Tail) → Asked v (Stat t) → Same e D nothing (Stat t) (plug p n) (plug p w)
  there_same v route t a = around_same p (Stat t) (path_avoids s k z v p route free) (runs _ (runs_at z v p n (Stat t) route a))

-- ---- it loses the name

module _ (s : List ℕ) (k : ℕ) (z : Way) (other : same_way z way.Statement ≡ false) (a b : Tree) (keeps : Keeping s k z a b) (avoided : Avoids (alone (Declared k)) b) (p : Path) (route : is_way_to z (Some way.Statement) p ≡ true) (free : any_names (resolved s k) (above p) ≡ false) where
  abbrev name : Name
  name = resolved s k

  abbrev read : Tree
  read = plug p a

  abbrev written : Tree
  written = plug p b

  kept : Keeping s k way.Statement read written
  kept = along s k z way.Statement p a b route free keeps

  known : States read written
  known = states z other p a b route

  pub leaves : LeavesThere name (read ▸ none) (written ▸ none)
  unfolding Unmentioned
  leaves = record {
    inner = λ b a. (ap (λ c. c || b) kept.inner ∙ a.0, tt);
    inner_back = λ b a. (ap (λ c. c || b) (sym kept.inner) ∙ a.0, tt);
    scoped = λ env a. (kept.scoped Read env tt a.0, tt);
    unmentioned = (kept.unmentioned, tt);
    symbols = λ y. let s = kept.symbols Read y tt in omega (arith, s);
    numbered = λ n. let s = kept.numbered n in omega (arith, s);
    once = λ a. (kept.once a.0, tt);
    targets = λ g a. (kept.targets g a.0, tt);
    framed = λ all a. (kept.framed all a.0, tt);
    bodied = λ all r a. (kept.bodied all r a.0, tt);
    fixed = λ y j a. (kept.fixed y j a.0, tt);
    fixed_back = λ y j o a. (kept.fixed_back y j o a.0, tt);
    declares = λ all a. (kept.declares all a.0, tt);
  }

  pub declares : DeclaresThere name (read ▸ none) (written ▸ none)
  unfolding body_names
  declares = record {
    first = kept.first;
    last = kept.last;
    names = append-nil (body_names read) ∙ known.body_first ∙ kept.hoisted;
    left = append-nil (body_names written) ∙ known.body_second ∙ kept.left;
    others_first = kept.others_first;
    others_last = kept.others_last;
    clash = λ o. no_more_both (as_body o read) (as_body o written) [] [] (kept.clash o) (no_more_same [] [] refl);
  }

  pub read_there : ReadThere k (read ▸ none) (written ▸ none)
  read_there = read_alone k read written (known.read k)

  pub avoids_there : AllAvoid (alone (Declared k)) (written ▸ none)
  avoids_there = (plug_avoids (alone (Declared k)) p b (path_avoids s k z way.Statement p route free) avoided, tt)

  pub fits_there : (o : Depth) (strict : Bool) → fill strict (each (item_in o)) (read ▸ none) ≡ true → fill strict (each (item_in o)) (written ▸ none) ≡ true
  fits_there o strict h = let (f, rest) = first_fits strict (item_in o) read none h in more_fit strict (item_in o) written none (kept.fits_there strict false false o f) rest

  pub ported_there : (rest : Trees) → ports true (read ▸ rest) ≡ ports true (written ▸ rest)
  ported_there = known.ported

  pub loses : (W : VariableSet) → ((e : Environment) → Permits W (alone (Declared k)) e → Same e (alone (Declared k)) nothing (Stat None) (listed (read ▸ none)) (listed (written ▸ none))) → Loses W s k (read ▸ none) (written ▸ none)
  loses W same = record { leaves = leaves; declares = declares; read = read_there; same = same; avoids = avoids_there; fits = fits_there; ported = ported_there }

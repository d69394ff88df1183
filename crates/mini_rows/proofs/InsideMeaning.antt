-- What stands at the end of a way without a name that nothing else mentions, in what is around it: it means the same but for what that
-- variable holds, so a statement on the way loses the name.
use Rattle.std.specs.Prelude.{ℕ, zero, suc, ◌≡◌, refl, ◌||◌, Bool, true, false, List, [], ◌∷◌, Option, Some, None}
use Rattle.std.proofs.Common.{ap, ◌∙◌, sym, subst, subst₂, inl, inr, true≢false}
use Rattle.mini_model.specs.declared.kind.VariableDeclarationKind.TheVariants.{Var}
use Rattle.mini_model.specs.declared.name.Name.{Name}
use Rattle.mini_model.specs.declared.shape.Shape.{Shape}
use Rattle.mini_model.specs.declared.shape.Shape.TheVariants as shape
use Rattle.mini_model.specs.Tree.{Tree, Trees, node, none, ◌▸◌, absent, listed, count}
use Rattle.mini_model.specs.Paths.{append}
use Rattle.mini_laws.specs.Asking.{demand, first_demand, do_demand, for_demand, each_demand}
use Rattle.mini_laws.specs.Command.{Kids, run}
use Rattle.mini_laws.specs.Congruence.{Avoids, AllAvoid, Apart, ReadAlike, demand_at, known_at}
use Rattle.mini_laws.specs.Demand.{Val, Test, Tail, LoopTail, Demand, As, Stat, Request, LabelSet}
use Rattle.mini_laws.specs.Loops.{while_step, do_step, for_step, for_in_step, for_of_step}
use Rattle.mini_laws.specs.Naming.{facts, summary}
use Rattle.mini_laws.specs.Path.{Path, here, inside, join, plug}
use Rattle.mini_laws.specs.Replies.{statement}
use Rattle.mini_laws.specs.Same.{Same}
use Rattle.mini_laws.specs.State.{State, Environment, ok, either}
use Rattle.mini_laws.specs.Statements.{if_in, label_step}
use Rattle.mini_laws.specs.Step.{step, means, meaning}
use Rattle.mini_laws.specs.Substitution.{alone}
use Rattle.mini_laws.specs.Tails.{ends_in}
use Rattle.mini_laws.specs.Value.{Declared, VariableSet, nothing}
use Rattle.mini_laws.specs.Weights.{is_here}
use Rattle.mini_laws.proofs.Congruent.{congruent_same, weaker, no_within, no_off, transitive}
use Rattle.mini_laws.proofs.Simulation.{within_refl}
use Rattle.mini_laws.proofs.Stretching.{listed_one}
use Rattle.mini_laws.proofs.Tailing.{tail_same}
use Rattle.mini_kept.specs.Without.{Permits}
use Rattle.mini_rows.specs.declared.inside.Way.{Way}
use Rattle.mini_rows.specs.declared.inside.Way.TheVariants as way
use Rattle.mini_rows.specs.Inside.{way_in, above, same_way, is_way_to, ListEnd, HeldEnd, HeadEnd, HeadNextEnd, EndRow}
use Rattle.mini_rows.specs.Lists.{block, declaration}
use Rattle.mini_rows.specs.Unused.{resolved, names, any_names, declared_among, head_left}
use Rattle.mini_rows.specs.Switches.{Liberties}
use Rattle.mini_rows.proofs.ForHeadLawful.{left_same}
use Rattle.mini_rows.proofs.InsideEnds.{is_simple, unscoped, HeldRow, held_row, held_keeps, head_keeps, head_avoided}
use Rattle.mini_rows.proofs.InsideLoses.{joined_unnamed, no_way, ways_same, Runs, Asked, plug_avoids, listed_same, there_same, loses}
use Rattle.mini_rows.proofs.InsideNames.{row_vars, of_stretch, list_keeps}
use Rattle.mini_rows.proofs.InsideStages.{Stage, Then, Else, While, Doing, For, ForIn, ForOf, Labeled, Heading, from, to, head, before, over, plainly, view}
use Rattle.mini_rows.proofs.ListHeads.{for_names}
use Rattle.mini_rows.proofs.ListStatements.{one_unscoped, block_is}
use Rattle.mini_rows.proofs.NextEnds.{ReadNext, next_heading, next_avoided, next_alike, next_alone, heading_outside, heading_loses, heading_next}
use Rattle.mini_rows.proofs.UnusedMeaning.{list_read, list_same, all_join, for_same}
use Rattle.mini_rows.proofs.UnusedNames.{or_parts, all_avoided}
use Rattle.mini_rows.proofs.UnusedStretches.{Loses, row_stretch}
use Rattle.mini_rows.proofs.Weaker.{weaker_goes}

-- ---- the last step of a way

pub same_itself : (w : Way) → same_way w w ≡ true
same_itself way.Statement = refl
same_itself way.Held = refl
same_itself way.Statements = refl
same_itself way.Cases = refl
same_itself way.Case = refl
same_itself way.Catch = refl
same_itself way.Head = refl

pub record Cut (w : Way) (p : Path) (z : Way) : Type 0 where
  pub place : Path
  pub end : Way
  pub kind : Shape
  pub pre : Trees
  pub post : Trees
  pub there : is_way_to end (Some w) place ≡ true
  pub goes : way_in end kind (count pre) ≡ Some z
  pub plugs : (t : Tree) → plug p t ≡ plug place (node kind [] 0 (join pre t post))
  pub above_is : above p ≡ append (above place) (node kind [] 0 (join pre absent post) ▸ none)
  pub demands : (t : Tree) (q : Demand) → demand_at p t q ≡ demand kind (facts (join pre t post)) (demand_at place (node kind [] 0 (join pre t post)) q) (count pre)

cut_here : (w z r : Way) (h : Shape) (pre post : Trees) → way_in w h (count pre) ≡ Some r → same_way z r ≡ true → Cut w (inside h [] zero pre here post) z
cut_here w z r h pre post e q = record { place = here; end = w; kind = h; pre = pre; post = post; there = same_itself w; goes = e ∙ ap (λ r. Some r) (sym (ways_same z r q)); plugs = λ t. refl; above_is = refl; demands = λ t q. refl }

cut_further : (w z r : Way) (h : Shape) (pre post : Trees) (k : Path) → way_in w h (count pre) ≡ Some r → Cut r k z → Cut w (inside h [] zero pre k post) z
cut_further w z r h pre post k e c = record {
  place = inside h [] zero pre c.place post;
  end = c.end;
  kind = c.kind;
  pre = c.pre;
  post = c.post;
  there = ap (λ o. is_way_to c.end o c.place) e ∙ c.there;
  goes = c.goes;
  plugs = λ t. ap (λ u. node h [] 0 (join pre u post)) (c.plugs t);
  above_is = ap (λ us. node h [] 0 (join pre absent post) ▸ us) c.above_is;
  demands = λ t q.
      c.demands t (demand h (facts (join pre (plug k t) post)) q (count pre))
      ∙ ap (λ u. demand c.kind (facts (join c.pre t c.post)) (demand_at c.place (node c.kind [] 0 (join c.pre t c.post)) (demand h (facts (join pre u post)) q (count pre))) (count c.pre)) (c.plugs t);
}

cut_by : (w z : Way) (h : Shape) (pre : Trees) (k : Path) (post : Trees) (o : Option Way) → way_in w h (count pre) ≡ o → ((r : Way) → is_way_to z (Some r) k ≡ true → is_here k ≡ false → Cut r k z) → is_way_to z o k ≡ true → Cut w (inside h [] zero pre k post) z
cut_by w z h pre k post None e rest q = absurd (no_way z k q)
cut_by w z h pre here post (Some r) e rest q = cut_here w z r h pre post e q
cut_by w z h pre (inside g xs n us k vs) post (Some r) e rest q = cut_further w z r h pre post (inside g xs n us k vs) e (rest r q refl)

cut : (w z : Way) (p : Path) → is_way_to z (Some w) p ≡ true → is_here p ≡ false → Cut w p z
cut w z here q f = absurd (true≢false f)
cut w z (inside h [] zero pre k post) q f = cut_by w z h pre k post (way_in w h (count pre)) refl (λ r g b. cut r z k g b) q
cut w z (inside h [] (suc n) pre k post) q f = absurd (true≢false (sym q))
cut w z (inside h (y ∷ ys) n pre k post) q f = absurd (true≢false (sym q))

goes_in : (w z : Way) (p : Path) → same_way z w ≡ false → is_way_to z (Some w) p ≡ true → is_here p ≡ false
goes_in w z here f q = absurd (true≢false (sym q ∙ f))
goes_in w z (inside h xs n pre k post) f q = refl

pub last_step : (w z : Way) (p : Path) → same_way z w ≡ false → is_way_to z (Some w) p ≡ true → Cut w p z
last_step w z p f q = cut w z p q (goes_in w z p f q)

-- of what stands in no list, and of what a `for` begins with, it goes into a statement

abbrev is_bare_end : Way → Bool
is_bare_end way.Held = true
is_bare_end way.Head = true
is_bare_end z = false

from_statement : (g : Stage) → is_bare_end (to g) ≡ true → from g ≡ way.Statement
from_statement (Then a) e = refl
from_statement (Else a b) e = refl
from_statement (While a) e = refl
from_statement Doing e = refl
from_statement (For a b c) e = refl
from_statement (ForIn a b) e = refl
from_statement (ForOf a b) e = refl
from_statement (Labeled a) e = refl
from_statement Heading e = refl
from_statement g e = absurd (true≢false (sym e))

plainly_runs : (w : Way) → plainly w ≡ way.Statement → (q : Demand) → Asked w q → Runs q
plainly_runs way.Statement e q a = a
plainly_runs way.Held e q a = a
plainly_runs w e q a = absurd (cc e)

module _ (z : Way) (bare : is_bare_end z ≡ true) (p : Path) (c : Cut way.Statement p z) where
  cut_runs : (q : Demand) → Asked c.end q → Runs q
  cut_runs = let v = view c.end c.kind c.pre z c.goes in plainly_runs c.end (sym v.from_is ∙ from_statement v.stage (ap is_bare_end v.to_is ∙ bare))

-- what is said of a stage is said of that step
pub by_stage : (P : Shape → Trees → Type 0) (w : Way) (h : Shape) (pre : Trees) (z : Way) → way_in w h (count pre) ≡ Some z → ((g : Stage) → to g ≡ z → P (head g) (before g)) → P h pre
by_stage P w h pre z e f =
    let v = view w h pre z e in
    subst (λ us. P h us) v.before_is (subst (λ h. P h (before v.stage)) v.head_is (f v.stage v.to_is))

-- ---- nodes that do the same with a statement in the place of another

module _ (e : Environment) (c d : Tree) (alike : (t : Option Tail) (r : LabelSet) (s : State) → means e c (Stat t) r s ≡ means e d (Stat t) r s) where
  at_demand : (q : Demand) (u : Option Tail) → q ≡ Stat u → (r : Request q) (s : State) → means e c q r s ≡ means e d q r s
  at_demand q u h = subst (λ q. (r : Request q) (s : State) → means e c q r s ≡ means e d q r s) (sym h) (alike u)

  kids_alike : (pre post : Trees) (q : ℕ → Demand) (u : Option Tail) → q (count pre) ≡ Stat u → (i : ℕ) (r : Request (q i)) (s : State) → meaning e (join pre c post) i (q i) r s ≡ meaning e (join pre d post) i (q i) r s
  unfolding meaning
  kids_alike none post q u h zero r s = at_demand (q 0) u h r s
  kids_alike none post q u h (suc i) r s = refl
  kids_alike (t ▸ pre) post q u h zero r s = refl
  kids_alike (t ▸ pre) post q u h (suc i) r s = kids_alike pre post (λ j. q (suc j)) u h i r s

  held_alike : (g : Stage) → to g ≡ way.Held → (post : Trees) (t : Option Tail) (r : LabelSet) (s : State) → means e (over g c post) (Stat t) r s ≡ means e (over g d post) (Stat t) r s
  unfolding means step
  held_alike (Then a) h post t r s =
      ap (λ (K : Kids (first_demand (As Test) (Stat t))). run {q = first_demand (As Test) (Stat t)} e (for_names []) K (if_in (Stat t) r) s) (λ k i r z. kids_alike (a ▸ none) post (first_demand (As Test) (Stat t)) t refl i r z k)
  held_alike (Else a b) h post t r s =
      ap (λ (K : Kids (first_demand (As Test) (Stat t))). run {q = first_demand (As Test) (Stat t)} e (for_names []) K (if_in (Stat t) r) s) (λ k i r z. kids_alike (a ▸ (b ▸ none)) post (first_demand (As Test) (Stat t)) t refl i r z k)
  held_alike (While a) h post t r s =
      ap (λ (K : Kids (first_demand (As Test) (Stat (Some LoopTail)))). run {q = first_demand (As Test) (Stat (Some LoopTail))} e (for_names []) K (statement (Stat t) r while_step) s)
      (λ k i r z. kids_alike (a ▸ none) post (first_demand (As Test) (Stat (Some LoopTail))) (Some LoopTail) refl i r z k)
  held_alike Doing h post t r s =
      ap (λ (K : Kids do_demand). run {q = do_demand} e (for_names []) K (statement (Stat t) r do_step) s) (λ k i r z. kids_alike none post do_demand (Some LoopTail) refl i r z k)
  held_alike (For a b v) h post t r s =
      let k = (summary a).facts.declared in
      ap (λ (K : Kids (for_demand k)). run {q = for_demand k} e (for_names (summary a).lets) K (statement (Stat t) r (for_step k (summary b).facts.absent)) s) (λ j i r z. kids_alike (a ▸ (b ▸ (v ▸ none))) post (for_demand k) (Some LoopTail) refl i r z j)
  held_alike (ForIn a b) h post t r s =
      let k = (summary a).facts.declared in
      ap (λ (K : Kids (each_demand k)). run {q = each_demand k} e (for_names (summary a).lets) K (statement (Stat t) r (for_in_step k)) s) (λ j i r z. kids_alike (a ▸ (b ▸ none)) post (each_demand k) (Some LoopTail) refl i r z j)
  held_alike (ForOf a b) h post t r s =
      let k = (summary a).facts.declared in
      ap (λ (K : Kids (each_demand k)). run {q = each_demand k} e (for_names (summary a).lets) K (statement (Stat t) r (for_of_step k)) s) (λ j i r z. kids_alike (a ▸ (b ▸ none)) post (each_demand k) (Some LoopTail) refl i r z j)
  held_alike (Labeled a) h post t r s =
      ap (λ (K : Kids (first_demand (As Val) (Stat None))). run {q = first_demand (As Val) (Stat None)} e (for_names []) K (statement (Stat t) r label_step) s) (λ k i r z. kids_alike (a ▸ none) post (first_demand (As Val) (Stat None)) None refl i r z k)
  held_alike g h post t r s = absurd (cc h)

-- ---- a statement in braces

no_labels : (e : Environment) (c : Tree) → is_simple c ≡ true → (r : LabelSet) (s : State) → means e c (Stat None) [] s ≡ means e c (Stat None) r s
unfolding means step
no_labels e (node shape.ExpressionStatement xs n ts) h r s = refl
no_labels e (node shape.EmptyStatement xs n ts) h r s = refl
no_labels e (node (shape.VariableDeclaration Var) xs n ts) h r s = refl
no_labels e (node g xs n ts) h r s = absurd (true≢false (sym h))

in_braces : (e : Environment) (c : Tree) → is_simple c ≡ true → (t : Option Tail) (r : LabelSet) (s : State) → means e (block (c ▸ none)) (Stat t) r s ≡ means e c (Stat t) r s
in_braces e c h t r s =
    tail_same e (block (c ▸ none)) t r s
    ∙ ap (λ x. either x (λ u z. ok tt z) (ends_in t)) (block_is e (c ▸ none) (one_unscoped c (unscoped c h)) r s ∙ listed_one e c s ∙ no_labels e c h r s)
    ∙ sym (tail_same e c t r s)

-- ---- what such a step makes

-- two statements are read alike, and mean the same but for these
record Both (e : Environment) (D : VariableSet) (n w : Tree) : Type 0 where
  read : summary n ≡ summary w
  same : (t : Option Tail) → Same e D nothing (Stat t) n w

alike_read : (e : Environment) (D : VariableSet) (n w : Tree) → summary n ≡ summary w → ReadAlike D e (summary n) (summary w)
alike_read e D n w h = subst (λ i. ReadAlike D e (summary n) i) h (record { facts = refl; lets = λ y f. refl; shared_lets = refl; name = refl; functions = refl })

equal_same : (e : Environment) (D : VariableSet) (t : Option Tail) (n w : Tree) → ((r : LabelSet) (s : State) → means e n (Stat t) r s ≡ means e w (Stat t) r s) → Same e D nothing (Stat t) n w
equal_same e D t n w h = record { by = λ r s i. weaker_goes D (means e n (Stat t) r s) (means e w (Stat t) r s) (inr (h r s)) }

-- in no list

held_read : (g : Stage) → to g ≡ way.Held → (c d : Tree) (post : Trees) → summary (over g c post) ≡ summary (over g d post)
held_read (Then a) h c d post = refl
held_read (Else a b) h c d post = refl
held_read (While a) h c d post = refl
held_read Doing h c d post = refl
held_read (For a b v) h c d post = refl
held_read (ForIn a b) h c d post = refl
held_read (ForOf a b) h c d post = refl
held_read (Labeled a) h c d post = refl
held_read g h c d post = absurd (cc h)

held_goes : (g : Stage) → to g ≡ way.Held → way_in way.Statement (head g) (count (before g)) ≡ Some way.Held
held_goes (Then a) h = refl
held_goes (Else a b) h = refl
held_goes (While a) h = refl
held_goes Doing h = refl
held_goes (For a b v) h = refl
held_goes (ForIn a b) h = refl
held_goes (ForOf a b) h = refl
held_goes (Labeled a) h = refl
held_goes g h = absurd (cc h)

module _ (W : VariableSet) (s w : Tree) (r : HeldRow W s w) (e : Environment) (u : Permits W (alone (Declared r.symbol)) e) where
  abbrev held_set : VariableSet
  held_set = alone (Declared r.symbol)

  abbrev held_name : Name
  held_name = resolved r.spelling r.symbol

  braces_same : (g : Stage) → to g ≡ way.Held → (post : Trees) → any_names held_name (join (before g) absent post) ≡ false → (t : Option Tail) → Same e held_set nothing (Stat t) (over g (block (s ▸ none)) post) (over g (block (w ▸ none)) post)
  braces_same g h post free t =
      let p = inside (head g) [] 0 (before g) (inside shape.BlockStatement [] 0 none here none) post in
      there_same r.spelling r.symbol way.Statements (λ q a. a) p (ap (λ b. b || false) free) e u.unseen.shared (listed (s ▸ none)) (listed (w ▸ none)) (tt, r.loses.avoids)
      (list_read e r.spelling r.symbol u.unseen none none (s ▸ none) (w ▸ none) r.loses.read)
      (λ t. list_same e r.spelling r.symbol u.unseen none none (s ▸ none) (w ▸ none) tt (r.loses.same e u) t)
      way.Statement (ap (λ o. is_way_to way.Statements o (inside shape.BlockStatement [] 0 none here none)) (held_goes g h)) t (t, refl)

  held_both : (g : Stage) → to g ≡ way.Held → (post : Trees) → any_names held_name (join (before g) absent post) ≡ false → Both e held_set (over g s post) (over g w post)
  held_both g h post free = record {
    read = held_read g h s w post;
    same = λ t.
        transitive e held_set nothing (Stat t) (over g s post) (over g (block (s ▸ none)) post) (over g w post)
        (equal_same e held_set t (over g s post) (over g (block (s ▸ none)) post) (λ ls z. sym (held_alike e (block (s ▸ none)) s (in_braces e s r.simple) g h post t ls z)))
        (transitive e held_set nothing (Stat t) (over g (block (s ▸ none)) post) (over g (block (w ▸ none)) post) (over g w post) (braces_same g h post free t)
        (equal_same e held_set t (over g (block (w ▸ none)) post) (over g w post) (held_alike e (block (w ▸ none)) w (in_braces e w r.simple_left) g h post t)));
  }

-- in the head of a `for`

heading_both : (W : Liberties) (o : Trees) (n w : Tree) (r : HeadEnd W o n w) (e : Environment) → Permits W.writable (alone (Declared r.symbol)) e → (g : Stage) → to g ≡ way.Head → (post : Trees) → any_names (resolved r.spelling r.symbol) (join (before g) absent post) ≡ false → Both e (alone (Declared r.symbol)) (over g n post) (over g w post)
heading_both W o n w r e u Heading h post free =
    let D = alone (Declared r.symbol) in
    let x = resolved r.spelling r.symbol in
    let K = Var in
    let over_head = λ (t : Tree). node shape.ForStatement [] 0 (t ▸ post) in
    record {
      read = refl;
      same = λ t.
          subst₂ (Same e D nothing (Stat t)) (sym (ap over_head r.shape)) (sym (ap over_head r.written))
          (transitive e D nothing (Stat t) (over_head (declared_among Var x r.first r.init r.last)) (over_head (declaration Var (append r.first r.last))) (over_head (head_left Var (append r.first r.last)))
          (for_same e r.spelling r.symbol u.unseen Var (λ f. u.writable (Declared r.symbol) r.goes) r.first r.last r.init r.idle (all_avoided x r.symbol refl r.first r.declared_earlier) (all_avoided x r.symbol refl r.last r.declared_later) post (all_avoided x r.symbol refl post free) t)
          (left_same e D Var post (append r.first r.last) t));
    }
heading_both W o n w r e u g h post free = absurd (cc h)

-- it is run there, where it declares variables

heading_demand : (s : List ℕ) (k : ℕ) (n w : Tree) → ReadNext s k n w → (g : Stage) → to g ≡ way.Head → (post : Trees) (q : Demand) → demand (head g) (facts (join (before g) n post)) q (count (before g)) ≡ Stat None
heading_demand s k n w r Heading h post q = ap (λ t. demand shape.ForStatement (facts (t ▸ post)) q 0) r.shape
heading_demand s k n w r g h post q = absurd (cc h)

pub heading_runs : (s : List ℕ) (k : ℕ) (n w : Tree) → ReadNext s k n w → (v : Way) (p : Path) → same_way way.Head v ≡ false → is_way_to way.Head (Some v) p ≡ true → (q : Demand) → Runs (demand_at p n q)
heading_runs s k n w r v p other route q =
    let c = last_step v way.Head p other route in
    (None, c.demands n q ∙ by_stage (λ h pre. (q : Demand) → demand h (facts (join pre n c.post)) q (count pre) ≡ Stat None) c.end c.kind c.pre way.Head c.goes (λ g h. heading_demand s k n w r g h c.post) (demand_at c.place (node c.kind [] 0 (join c.pre n c.post)) q))

next_both : (W : Liberties) (o : Trees) (n w : Tree) (r : HeadNextEnd W o n w) (e : Environment) → Permits W.writable (alone (Declared r.row.symbol)) e → (g : Stage) → to g ≡ way.Head → (post : Trees) → any_names (resolved r.row.spelling r.row.symbol) (join (before g) absent post) ≡ false → Both e (alone (Declared r.row.symbol)) (over g n post) (over g w post)
next_both W o n w r e u Heading h post free =
    let s = r.row.spelling in
    let k = r.row.symbol in
    let D = alone (Declared k) in
    let next = heading_next W o n w r in
    let p = inside shape.ForStatement [] 0 none here post in
    record {
      read = refl;
      same = λ t.
          congruent_same e D u.unseen.shared p n w (tt, tt, tt, all_avoided (resolved s k) k refl post free) (next_avoided s k n w next) (next_alike s k n w next e u.unseen) nothing (Stat t) (no_off _)
          (subst (λ q. Same e D (known_at p n (Stat t) nothing) q n w) (sym (heading_demand s k n w next Heading refl post (Stat t)))
          (weaker e D D nothing (known_at p n (Stat t) nothing) (within_refl D) (no_within _) (Stat None) n w (next_alone s k n w next e nothing ((heading_loses W o n w r).same e u))));
    }
next_both W o n w r e u g h post free = absurd (cc h)

-- ---- along the way to it

appended : (x : Name) (first : Trees) (t : Tree) → any_names x (append first (t ▸ none)) ≡ false → (any_names x first ≡ false) × (names x t ≡ false)
appended x none t q = (refl, (or_parts (names x t) false q).0)
appended x (u ▸ first) t q =
    let (a, b) = or_parts (names x u) (any_names x (append first (t ▸ none))) q in
    let (f, g) = appended x first t b in
    (ap (λ c. c || any_names x first) a ∙ f, g)

module _ (sp : List ℕ) (k : ℕ) (z : Way) (bare : is_bare_end z ≡ true) (other : same_way z way.Statement ≡ false) (a b : Tree) (avoided : Avoids (alone (Declared k)) b) (e : Environment) (apart : Apart e (alone (Declared k)))
    (both : (g : Stage) → to g ≡ z → (post : Trees) → any_names (resolved sp k) (join (before g) absent post) ≡ false → Both e (alone (Declared k)) (over g a post) (over g b post)) where
  abbrev x : Name
  x = resolved sp k

  abbrev D : VariableSet
  D = alone (Declared k)

  end_same : (p : Path) → is_way_to z (Some way.Statement) p ≡ true → any_names x (above p) ≡ false → Same e D nothing (Stat None) (listed (plug p a ▸ none)) (listed (plug p b ▸ none))
  end_same p route free =
      let c = last_step way.Statement z p other route in
      let (place_free, node_free) = appended x (above c.place) (node c.kind [] 0 (join c.pre absent c.post)) (sym (ap (any_names x) c.above_is) ∙ free) in
      let here_both = by_stage (λ h pre. any_names x (join pre absent c.post) ≡ false → Both e D (node h [] 0 (join pre a c.post)) (node h [] 0 (join pre b c.post))) c.end c.kind c.pre z c.goes (λ g h f. both g h c.post f) node_free in
      let (earlier, none_there, later) = joined_unnamed x c.pre absent c.post node_free in
      let n = node c.kind [] 0 (join c.pre a c.post) in
      let w = node c.kind [] 0 (join c.pre b c.post) in
      let avoids = plug_avoids D (inside c.kind [] 0 c.pre here c.post) b (tt, all_avoided x k refl c.pre earlier, tt, all_avoided x k refl c.post later) avoided in
      subst₂ (λ t v. Same e D nothing (Stat None) (listed (t ▸ none)) (listed (v ▸ none))) (sym (c.plugs a)) (sym (c.plugs b))
      (listed_same sp k c.end (cut_runs z bare p c) c.place place_free e apart n w avoids (alike_read e D n w here_both.read) here_both.same c.there)

-- ---- the rows at its end

pub record EndLoses (W : VariableSet) (z : Way) (o : Trees) (a b : Tree) : Type 0 where
  pub spelling : List ℕ
  pub symbol : ℕ
  pub outside : any_names (resolved spelling symbol) o ≡ false
  pub loses : (p : Path) → is_way_to z (Some way.Statement) p ≡ true → any_names (resolved spelling symbol) (above p) ≡ false → Loses W spelling symbol (plug p a ▸ none) (plug p b ▸ none)

list_loses : (W : Liberties) (o : Trees) (a b : Tree) → ListEnd W o a b → EndLoses W.writable way.Statements o a b
list_loses W o a b r =
    let t = row_stretch W (listed o) r.list r.left refl r.row in
    let D = alone (Declared t.symbol) in
    let x = resolved t.spelling t.symbol in
    let v = row_vars W (listed o) r.list r.left refl r.row r.var in
    let keeps = list_keeps r.list r.left (of_stretch W.writable (listed o) r.list r.left t) v in
    let list_before = append t.before (append t.d t.after) in
    let list_after = append t.before (append t.w t.after) in
    let after_free = all_avoided x t.symbol refl t.after t.later in
    let avoids_list : AllAvoid D list_after = all_join D t.before (append t.w t.after) (all_avoided x t.symbol refl t.before t.earlier) (all_join D t.w t.after t.loses.avoids after_free) in
    let avoided : Avoids D (listed r.left) = (tt, subst (AllAvoid D) (sym t.written_is) avoids_list) in
    let these : EndLoses W.writable way.Statements o (listed r.list) (listed r.left) = record {
      spelling = t.spelling;
      symbol = t.symbol;
      outside = t.outside;
      loses = λ p route free. loses t.spelling t.symbol way.Statements refl (listed r.list) (listed r.left) keeps avoided p route free W.writable (λ e u.
          subst₂ (λ ts us. Same e D nothing (Stat None) (listed (plug p (listed ts) ▸ none)) (listed (plug p (listed us) ▸ none))) (sym t.read_is) (sym t.written_is)
          (listed_same t.spelling t.symbol way.Statements (λ q a. a) p free e u.unseen.shared (listed list_before) (listed list_after) (tt, avoids_list) (list_read e t.spelling t.symbol u.unseen t.before t.after t.d t.w t.loses.read)
          (λ i. list_same e t.spelling t.symbol u.unseen t.before t.after t.d t.w after_free (t.loses.same e u) i) route));
    } in
    subst₂ (EndLoses W.writable way.Statements o) (sym r.shape) (sym r.written) these

held_loses : (W : Liberties) (o : Trees) (a b : Tree) → HeldEnd W o a b → EndLoses W.writable way.Held o a b
held_loses W o a b r =
    let t = row_stretch W (listed o) (a ▸ none) (b ▸ none) refl r.row in
    let (h, (same_spelling, same_symbol)) = held_row W (listed o) a b refl r.row r.var in
    let D = alone (Declared h.symbol) in
    let keeps = held_keeps h.spelling h.symbol a b h.loses.leaves h.loses.declares h.vars h.loses.fits h.simple h.simple_left in
    record {
      spelling = h.spelling;
      symbol = h.symbol;
      outside = (λ j. any_names (resolved (same_spelling j) (same_symbol j)) o) ∙ t.outside;
      loses = λ p route free. loses h.spelling h.symbol way.Held refl a b keeps h.loses.avoids.0 p route free W.writable
          (λ e u. end_same h.spelling h.symbol way.Held refl refl a b h.loses.avoids.0 e u.unseen.shared (held_both W.writable a b h e u) p route free);
    }

head_loses : (W : Liberties) (o : Trees) (a b : Tree) → HeadEnd W o a b → EndLoses W.writable way.Head o a b
head_loses W o a b r = record {
  spelling = r.spelling;
  symbol = r.symbol;
  outside = r.outside;
  loses = λ p route free. loses r.spelling r.symbol way.Head refl a b (head_keeps W o a b r) (head_avoided W o a b r) p route free W.writable
      (λ e u. end_same r.spelling r.symbol way.Head refl refl a b (head_avoided W o a b r) e u.unseen.shared (heading_both W o a b r e u) p route free);
}

next_loses : (W : Liberties) (o : Trees) (a b : Tree) → HeadNextEnd W o a b → EndLoses W.writable way.Head o a b
next_loses W o a b r =
    let s = r.row.spelling in
    let k = r.row.symbol in
    let next = heading_next W o a b r in
    let avoided = next_avoided s k a b next in
    record {
      spelling = s;
      symbol = k;
      outside = heading_outside W o a b r;
      loses = λ p route free. loses s k way.Head refl a b (next_heading s k a b next) avoided p route free W.writable (λ e u. end_same s k way.Head refl refl a b avoided e u.unseen.shared (next_both W o a b r e u) p route free);
    }

pub end_loses : (W : Liberties) (z : Way) (o : Trees) (a b : Tree) → EndRow z W o a b → EndLoses W.writable z o a b
end_loses W way.Statements o a b r = list_loses W o a b r
end_loses W way.Held o a b r = held_loses W o a b r
end_loses W way.Head o a b (inl r) = head_loses W o a b r
end_loses W way.Head o a b (inr r) = next_loses W o a b r
end_loses W z o a b r = absurd r

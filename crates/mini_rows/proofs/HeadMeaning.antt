-- A name that what stands right after its declaration reads before all else: the initializer may stand there, and the name goes.
use Rattle.std.specs.Prelude.{◌||◌, Bool}
use Rattle.std.proofs.Common.{◌≡◌, ℕ, true, false, List, [], ◌∷◌, None, refl, sym, ap, ◌∙◌, subst, subst₂, inl, inr}
use Rattle.mini_model.specs.declared.kind.VariableDeclarationKind.TheVariants.{Var}
use Rattle.mini_model.specs.declared.name.Name.{Name}
use Rattle.mini_model.specs.Tree.{Tree, Trees, node, none, ◌▸◌, identifier, empty_statement}
use Rattle.mini_laws.specs.Value.{Declared}
use Rattle.mini_laws.specs.State.{State, Environment}
use Rattle.mini_laws.specs.Demand.{Val, As, Stat}
use Rattle.mini_laws.specs.Naming.{summary}
use Rattle.mini_laws.specs.Substitution.{alone}
use Rattle.mini_kept.specs.Without.{Unseen}
use Rattle.mini_terms.specs.Folds.{is_effect_free}
use Rattle.mini_terms.specs.Reading.{is_plain_part}
use Rattle.mini_rows.specs.Lists.{declaration, Each, EachIn, EachOf, each_loop}
use Rattle.mini_rows.specs.Declarations.{declarator}
use Rattle.mini_rows.specs.Sketches.{shape_by, AsValue, AsWholeItem}
use Rattle.mini_rows.specs.Unused.{is_constant, resolved, names, any_names, put_first, OfValues, gathered_below, are_passed_by_value, reads_first, reads_head, evaluated}
use Rattle.mini_rows.proofs.FoldMeaning.{plain_read}
use Rattle.mini_rows.proofs.NextKept.{next_unnamed}
use Rattle.mini_rows.proofs.FoundReads.{found_same, path_as, path_same, seated_same, loop_same, goes_as}
use Rattle.mini_rows.proofs.NextMeaning.{initial_goes}
use Rattle.mini_rows.proofs.SingleUse.{surely, or_true, Lead, Doing, Giving, Raising, Testing, head_of, Step, led, is_end, place, Stands, Well, AllPass, PassedIn, end_of, Initial, heads, statement, unnamed, Outside, Over, Begun, Heads, path, found}
use Rattle.mini_rows.proofs.ListKeptHeads.{Seat, Loop, Choice, seated, rest}
use Rattle.mini_rows.proofs.OpeningMeaning.{outside_goes, looped_goes}
use Rattle.mini_rows.proofs.OverMeaning.{each_goes}
use Rattle.mini_rows.proofs.ItemReads.{plain_item}
use Rattle.mini_rows.proofs.ConstantUse.{moves_there}
use Rattle.mini_rows.proofs.UnusedMeaning.{SameRead, GoesWith}
use Rattle.mini_rows.proofs.UnusedNames.{avoided, all_avoided}

-- ---- what is read of it

stated : (l : Lead) (b : Bool) → Stands AsWholeItem l b → (ts : Trees) → summary (node (shape_by (head_of l)) [] 0 ts) ≡ summary empty_statement
stated Doing b s ts = refl
stated Giving b s ts = refl
stated Raising b s ts = refl
stated Testing b s ts = refl
stated l b s ts = absurd s

statement_read : (x : Name) (head : Tree) → reads_first x head ≡ true → (init : Tree) → SameRead head (put_first x init head)
statement_read x head e init =
    let t = statement x head e in
    let same = ap summary t.is ∙ stated t.lead true (t.stands true) (t.inner ▸ t.rest) ∙ sym (ap summary (t.puts init) ∙ stated t.lead true (t.stands true) (put_first x init t.inner ▸ t.rest)) in
    record { lets = ap (λ i. i.lets) same; functions = ap (λ i. i.functions) same; facts = ap (λ i. i.facts.functions) same; texts = ap (λ i. i.facts.texts) same }

initial_read : (x : Name) (head : Tree) (t : Initial x head) (init : Tree) → SameRead (declaration t.kind (declarator t.binds t.value ▸ t.last)) (declaration t.kind (declarator t.binds (put_first x init t.value) ▸ t.last))
initial_read x head t init = record { lets = refl; functions = refl; facts = refl; texts = refl }

pub outside_read : (c : Seat) (a b : Tree) → SameRead (seated c a) (seated c b)
outside_read (Choice cases) a b = record { lets = refl; functions = refl; facts = refl; texts = refl }
outside_read (Loop u v w) a b = record { lets = refl; functions = refl; facts = refl; texts = refl }

pub over_read : (c : Each) (l w a b : Tree) → SameRead (each_loop c l a w) (each_loop c l b w)
over_read EachIn l w a b = record { lets = refl; functions = refl; facts = refl; texts = refl }
over_read EachOf l w a b = record { lets = refl; functions = refl; facts = refl; texts = refl }

pub head_read : (x : Name) (head : Tree) → reads_head x head ≡ true → (init : Tree) → SameRead head (put_first x init head)
head_read x head e init = by (heads x head e)
  where
    by : Heads x head → SameRead head (put_first x init head)
    by (inl (f, p)) = statement_read x head f init
    by (inr (inl t)) = subst₂ SameRead (sym t.is) (sym (t.puts init)) (initial_read x head t init)
    by (inr (inr (inl t))) = subst₂ SameRead (sym t.is) (sym (t.puts init)) (outside_read t.seat t.value (put_first x init t.value))
    by (inr (inr (inr (inl t)))) = subst₂ SameRead (sym t.is) (sym (t.puts init)) (over_read t.kind t.left t.body t.value (put_first x init t.value))
    by (inr (inr (inr (inr t)))) = subst₂ SameRead (sym t.is) (sym (t.puts init)) (outside_read (Loop t.test t.update t.body) (declaration Var (declarator t.binds t.value ▸ t.last)) (declaration Var (declarator t.binds (put_first x init t.value) ▸ t.last)))

-- ---- what it does

module _ (e : Environment) (spelling : List ℕ) (k : ℕ) (z : Unseen (alone (Declared k)) e) (init head : Tree) (moves : is_plain_part init ≡ true) where
  abbrev x : Name
  x = resolved spelling k

  statement_goes : reads_first x head ≡ true → are_passed_by_value x init head ≡ true → (s : State) → GoesWith e k init head (put_first x init head) s
  statement_goes once passed s =
      let t = statement x head once in
      let step : Step = record { lead = t.lead; rest = t.rest; is_short = false } in
      let steps : List Step = step ∷ t.path.steps in
      let reading = t.path.read in
      let one = λ (u : Tree). led (step ∷ []) u in
      let there : head ≡ found steps (identifier (resolved reading.spelling k)) = t.is ∙ t.along t.inner ∙ ap one (path_as x k refl AsValue t.inner t.path) in
      let put : put_first x init head ≡ led steps init = t.puts init ∙ t.along (put_first x init t.inner) ∙ ap one (t.path.puts init) in
      let beside = subst (AllPass OfValues init (shape_by (head_of t.lead)) 0) (sym t.front) tt in
      subst₂ (λ h w. GoesWith e k init h w s) (sym there) (sym put)
      (goes_as e k init (found steps (identifier (resolved reading.spelling k))) (led steps (identifier (resolved reading.spelling k))) (found_same steps (identifier (resolved reading.spelling k))) (led steps init) s
      (moves_there e k z x refl reading.spelling init (sym (plain_read init moves)) (plain_item init moves) AsWholeItem steps (t.stands (is_end t.path.steps), subst (λ c. Well c t.path.steps) (sym (t.below AsWholeItem)) t.path.well) ((ap (any_names x) t.front, t.free), t.path.spared) ((beside, or_true (is_constant init) (surely OfValues (is_effect_free init) t.lead) (t.steady (is_effect_free init)), t.allows_any (end_of reading.spelling init t.path.steps), t.whole_any init), subst (λ m. PassedIn m init reading.spelling t.path.steps) (sym (ap (λ us. gathered_below OfValues (shape_by (head_of t.lead)) (place 0 us)) t.front ∙ t.low)) (t.path.passed_in OfValues init (t.passed init passed))) (Stat None) tt tt [] tt s))

  scope_goes : (t : Outside x head) → are_passed_by_value x init head ≡ true → (s : State) → GoesWith e k init head (put_first x init head) s
  scope_goes t passed s =
      let p = path x false t.value t.once in
      let there = led p.steps (identifier (resolved p.read.spelling k)) in
      subst₂ (λ h w. GoesWith e k init h w s) (sym t.is) (sym (t.puts init ∙ ap (seated t.seat) (p.puts init)))
      (goes_as e k init (seated t.seat t.value) (seated t.seat there) (seated_same t.seat t.value there (path_same x k refl AsValue t.value p)) (seated t.seat (led p.steps init)) s
      (outside_goes e k z x refl p.read.spelling init (sym (plain_read init moves)) p.steps p.well (λ y. Unit {0})
      (λ v r y u. moves_there e k z x refl p.read.spelling init (sym (plain_read init moves)) (plain_item init moves) AsValue p.steps p.well p.spared (p.passed_in OfValues init (t.passed init passed)) (As v) tt tt r tt y) t.seat t.beside s tt))

  loop_goes : (t : Over x head) → are_passed_by_value x init t.value ≡ true → (s : State) → GoesWith e k init head (put_first x init head) s
  loop_goes t passed s =
      let p = path x false t.value t.once in
      let there = led p.steps (identifier (resolved p.read.spelling k)) in
      let loops = λ (u : Tree). each_loop t.kind t.left u t.body in
      subst₂ (λ h w. GoesWith e k init h w s) (sym t.is) (sym (t.puts init ∙ ap loops (p.puts init)))
      (goes_as e k init (loops t.value) (loops there) (loop_same t.kind t.left t.value there t.body (path_same x k refl AsValue t.value p)) (loops (led p.steps init)) s
      (each_goes e k z x refl p.read.spelling init p.steps (λ y. Unit {0})
      (λ y u. moves_there e k z x refl p.read.spelling init (sym (plain_read init moves)) (plain_item init moves) AsValue p.steps p.well p.spared (p.passed_in OfValues init passed) (As Val) tt tt tt tt y) t.kind t.left t.body t.plain t.other t.later s tt))

  begun_goes : (t : Begun x head) → are_passed_by_value x init t.value ≡ true → (s : State) → GoesWith e k init head (put_first x init head) s
  begun_goes t passed s =
      subst₂ (λ h w. GoesWith e k init h w s) (sym t.is) (sym (t.puts init))
      (looped_goes e k z x refl init t.test t.update t.body t.beside (declarator t.binds t.value ▸ t.last) (declarator t.binds (put_first x init t.value) ▸ t.last) s
      (initial_goes e spelling k z Var init t.binds t.value t.last moves t.once passed (avoided x k refl t.binds t.other) (all_avoided x k refl t.last t.later) s))

  pub head_goes : reads_head x head ≡ true → are_passed_by_value x init (evaluated head) ≡ true → (s : State) → GoesWith e k init head (put_first x init head) s
  head_goes once passed s = by (heads x head once)
    where
      by : Heads x head → GoesWith e k init head (put_first x init head) s
      by (inl (f, p)) = statement_goes f (sym (ap (are_passed_by_value x init) p) ∙ passed) s
      by (inr (inr (inl t))) = scope_goes t (sym (ap (are_passed_by_value x init) t.evaluates) ∙ passed) s
      by (inr (inr (inr (inl t)))) = loop_goes t (sym (ap (are_passed_by_value x init) t.evaluates) ∙ passed) s
      by (inr (inr (inr (inr t)))) = begun_goes t (sym (ap (are_passed_by_value x init) t.evaluates) ∙ passed) s
      by (inr (inl t)) = subst₂ (λ h w. GoesWith e k init h w s) (sym t.is) (sym (t.puts init)) (initial_goes e spelling k z t.kind init t.binds t.value t.last moves t.once (sym (ap (are_passed_by_value x init) t.evaluates) ∙ passed) (avoided x k refl t.binds t.other) (all_avoided x k refl t.last t.later) s)

-- ---- nothing that is written mentions the name

statement_unnamed : (x : Name) (head : Tree) → reads_first x head ≡ true → (init : Tree) → names x init ≡ false → names x (put_first x init head) ≡ false
statement_unnamed x head e init f =
    let t = statement x head e in
    ap (names x) (t.puts init) ∙ ap (λ u. names x u || any_names x t.rest) (t.path.puts init) ∙ ap (λ b. b || any_names x t.rest) (unnamed x t.path.steps t.path.spared init f) ∙ t.free

pub or_none : (b : Bool) → b ≡ false → (b || false) ≡ false
or_none b e = ap (λ c. c || false) e

pub seated_unnamed : (x : Name) (c : Seat) (t : Tree) → names x t ≡ false → any_names x (rest c) ≡ false → names x (seated c t) ≡ false
seated_unnamed x (Choice cases) t f g = ap (λ b. b || any_names x (cases ▸ none)) f ∙ g
seated_unnamed x (Loop u v w) t f g = ap (λ b. b || any_names x (u ▸ (v ▸ (w ▸ none)))) f ∙ g

pub over_unnamed : (x : Name) (c : Each) (l w t : Tree) → names x l ≡ false → names x t ≡ false → any_names x (w ▸ none) ≡ false → names x (each_loop c l t w) ≡ false
over_unnamed x EachIn l w t f g h = λ i. f i || (g i || h i)
over_unnamed x EachOf l w t f g h = λ i. f i || (g i || h i)

pub head_unnamed : (x : Name) (head : Tree) → reads_head x head ≡ true → (init : Tree) → names x init ≡ false → names x (put_first x init head) ≡ false
head_unnamed x head e init f = by (heads x head e)
  where
    by : Heads x head → names x (put_first x init head) ≡ false
    by (inl (g, p)) = statement_unnamed x head g init f
    by (inr (inr (inr (inr t)))) = ap (names x) (t.puts init) ∙ seated_unnamed x (Loop t.test t.update t.body) (declaration Var (declarator t.binds (put_first x init t.value) ▸ t.last)) (or_none (any_names x (declarator t.binds (put_first x init t.value) ▸ t.last)) (next_unnamed x t.binds t.value t.once init f t.other t.last t.later)) t.beside
    by (inr (inr (inr (inl t)))) = let p = path x false t.value t.once in ap (names x) (t.puts init) ∙ over_unnamed x t.kind t.left t.body (put_first x init t.value) t.other (ap (names x) (p.puts init) ∙ unnamed x p.steps p.spared init f) t.later
    by (inr (inr (inl t))) = let p = path x false t.value t.once in ap (names x) (t.puts init) ∙ seated_unnamed x t.seat (put_first x init t.value) (ap (names x) (p.puts init) ∙ unnamed x p.steps p.spared init f) t.beside
    by (inr (inl t)) = ap (names x) (t.puts init) ∙ or_none (any_names x (declarator t.binds (put_first x init t.value) ▸ t.last)) (next_unnamed x t.binds t.value t.once init f t.other t.last t.later)

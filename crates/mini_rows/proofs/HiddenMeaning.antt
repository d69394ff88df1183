-- A constant may be put in the place of what a loop that hides its names first reads: two runs go together in which the variable holds that
-- value, whatever names are hidden meanwhile.
use Rattle.std.proofs.Common.{◌≡◌, ℕ, true, false, List, [], Option, Some, None, refl, sym, ap, ◌∙◌, subst, subst₂, inl, inr}
use Rattle.std.proofs.lemmas.Bool.{eq-eqb}
use Rattle.mini_model.specs.declared.kind.VariableDeclarationKind.{VariableDeclarationKind}
use Rattle.mini_model.specs.declared.name.Name.{Name}
use Rattle.mini_model.specs.declared.shape.Shape.TheVariants as shape
use Rattle.mini_model.specs.Tree.{Tree, Trees, none, ◌▸◌, listed, identifier}
use Rattle.mini_laws.specs.Value.{Value, Declared, VariableSet, Holds, choose, nothing}
use Rattle.mini_laws.specs.State.{State, ok, stop, Environment, either, with_vars}
use Rattle.mini_laws.specs.Command.{set_var}
use Rattle.mini_laws.specs.Demand.{Tail, Val, As, Stat}
use Rattle.mini_laws.specs.Naming.{summary}
use Rattle.mini_laws.specs.Same.{Goes, Agree, Same}
use Rattle.mini_laws.specs.Skeleton.{TreesGo}
use Rattle.mini_laws.specs.Step.{means}
use Rattle.mini_laws.specs.Substitution.{alone}
use Rattle.mini_laws.specs.Congruence.{Avoids, AllAvoid}
use Rattle.mini_laws.proofs.Congruent.{plain_goes}
use Rattle.mini_laws.proofs.Runs.{either_ok}
use Rattle.mini_kept.specs.Without.{Unseen}
use Rattle.mini_terms.specs.Reading.{is_item, is_plain_part}
use Rattle.mini_rows.specs.Lists.{declaration, for_loop, Each, EachIn, EachOf, each_loop}
use Rattle.mini_rows.specs.Declarations.{declarator}
use Rattle.mini_rows.specs.Sketches.{AsValue}
use Rattle.mini_rows.specs.Switches.{Switches, without_vars}
use Rattle.mini_rows.specs.Unused.{names, any_names, resolved, declared_among, declared_left, put_first, is_constant, is_closed, OfValues, are_passed_by_value, reads_hidden, evaluated_hidden, takes, Row71}
use Rattle.mini_rows.proofs.ConstantUse.{rules, Seen, seen_in, node_goes, path_goes, led_without, agreeing, agrees}
use Rattle.mini_rows.proofs.FoldMeaning.{plain_read}
use Rattle.mini_rows.proofs.FoundReads.{among_same, path_same, goes_as}
use Rattle.mini_rows.proofs.HeadMeaning.{outside_read, over_read, seated_unnamed, over_unnamed, or_none, head_read, head_goes, head_unnamed}
use Rattle.mini_rows.proofs.HiddenHeads.{closed_constant, Hidden, hidden, Taken, taken}
use Rattle.mini_rows.proofs.ItemReads.{plain_item}
use Rattle.mini_rows.proofs.ListKeptHeads.{Loop}
use Rattle.mini_rows.proofs.NextKept.{next_unnamed}
use Rattle.mini_rows.proofs.Passing.{value_there}
use Rattle.mini_rows.proofs.SingleUse.{Step, led, Well, Spared, PassedIn, summary_led, path, unnamed}
use Rattle.mini_rows.proofs.SpellAlike.{SameTree}
use Rattle.mini_rows.proofs.UnusedMeaning.{SameRead, GoesWith, single_read, single_same, first_avoids, movable, block_same, lexical_alone, never_written}
use Rattle.mini_rows.proofs.UnusedNames.{avoided, all_avoided}

-- ---- what is read of it

pub hidden_read : (x : Name) (head : Tree) → reads_hidden x head ≡ true → (init : Tree) → SameRead head (put_first x init head)
hidden_read x head e init = by (hidden x head e)
  where
    by : Hidden x head → SameRead head (put_first x init head)
    by (inl t) = subst₂ SameRead (sym t.is) (sym (t.puts init)) (outside_read (Loop t.test t.update t.body) (declaration t.kind (declarator t.binds t.value ▸ t.last)) (declaration t.kind (declarator t.binds (put_first x init t.value) ▸ t.last)))
    by (inr t) = subst₂ SameRead (sym t.is) (sym (t.puts init)) (over_read t.kind t.left t.body t.value (put_first x init t.value))

-- ---- nothing that is written mentions the name

pub hidden_unnamed : (x : Name) (head : Tree) → reads_hidden x head ≡ true → (init : Tree) → names x init ≡ false → names x (put_first x init head) ≡ false
hidden_unnamed x head e init f = by (hidden x head e)
  where
    by : Hidden x head → names x (put_first x init head) ≡ false
    by (inl t) = ap (names x) (t.puts init) ∙ seated_unnamed x (Loop t.test t.update t.body) (declaration t.kind (declarator t.binds (put_first x init t.value) ▸ t.last)) (or_none (any_names x (declarator t.binds (put_first x init t.value) ▸ t.last)) (next_unnamed x t.binds t.value t.once init f t.other t.last t.later)) t.beside
    by (inr t) = let p = path x false t.value t.once in ap (names x) (t.puts init) ∙ over_unnamed x t.kind t.left t.body (put_first x init t.value) t.other (ap (names x) (p.puts init) ∙ unnamed x p.steps p.spared init f) t.later

-- ---- what it does, where the variable holds the value

module _ (e : Environment) (k : ℕ) (z : Unseen (alone (Declared k)) e) (x : Name) (named : x.symbol ≡ Some (record { 0 = k })) (v : Value) (spelling : List ℕ) (init : Tree) (known : (s : State) → means e init (As Val) tt s ≡ ok v s) (item : is_item init ≡ true) (plain : summary (identifier (resolved spelling k)) ≡ summary init) (ss : List Step) (w : Well AsValue ss) (f : Spared x ss) (p : PassedIn OfValues init spelling ss) where
  abbrev D : VariableSet
  D = alone (Declared k)

  abbrev value : Tree
  value = led ss (identifier (resolved spelling k))

  abbrev put : Tree
  put = led ss init

  value_goes : (X : VariableSet) → TreesGo (rules e k z v) X (As Val) value put
  value_goes X = path_goes e k z v spelling init known item x named plain OfValues AsValue ss w f p (As Val) tt X

  seen : Seen e k z v value put
  seen = record { without = led_without e k z v spelling init known item x named plain ss f; same = summary_led ss (identifier (resolved spelling k)) init plain }

  pub for_goes : (K : VariableDeclarationKind) (id : Tree) (last : Trees) (test update body : Tree) → Avoids D id → AllAvoid D last → AllAvoid D (test ▸ (update ▸ (body ▸ none))) → TreesGo (rules e k z v) nothing (Stat None) (for_loop (declaration K (declarator id value ▸ last)) test update body) (for_loop (declaration K (declarator id put ▸ last)) test update body)
  for_goes K id last test update body a b c =
      let rest : Trees = test ▸ (update ▸ (body ▸ none)) in
      let one = declarator id value in
      let other = declarator id put in
      let in_declarator = seen_in e k z v shape.VariableDeclarator (id ▸ none) value put none (a, tt) tt seen in
      let in_list = seen_in e k z v shape.Listed none one other last tt b in_declarator in
      let in_head = seen_in e k z v (shape.VariableDeclaration K) none (listed (one ▸ last)) (listed (other ▸ last)) none tt tt in_list in
      node_goes e k z v shape.ForStatement none (declaration K (one ▸ last)) (declaration K (other ▸ last)) rest tt c in_head nothing (Stat None)
      (λ X. node_goes e k z v (shape.VariableDeclaration K) none (listed (one ▸ last)) (listed (other ▸ last)) none tt tt in_list X (Stat None)
      (λ X. node_goes e k z v shape.Listed none one other last tt b in_declarator X _
      (λ X. node_goes e k z v shape.VariableDeclarator (id ▸ none) value put none (a, tt) tt seen X _ value_goes)))

  pub over_goes : (c : Each) (left body : Tree) → Avoids D left → AllAvoid D (body ▸ none) → TreesGo (rules e k z v) nothing (Stat None) (each_loop c left value body) (each_loop c left put body)
  over_goes EachIn left body a b = node_goes e k z v shape.ForInStatement (left ▸ none) value put (body ▸ none) (a, tt) b seen nothing (Stat None) value_goes
  over_goes EachOf left body a b = node_goes e k z v shape.ForOfStatement (left ▸ none) value put (body ▸ none) (a, tt) b seen nothing (Stat None) value_goes

-- what two trees do that go together where it holds the constant
module _ (e : Environment) (k : ℕ) (z : Unseen (alone (Declared k)) e) (x : Name) (named : x.symbol ≡ Some (record { 0 = k })) (spelling : List ℕ) (init : Tree) (plain : summary (identifier (resolved spelling k)) ≡ summary init) (item : is_item init ≡ true) (constant : is_constant init ≡ true) where
  pub constant_there : (head put : Tree) → ((v : Value) → ((s : State) → means e init (As Val) tt s ≡ ok v s) → TreesGo (rules e k z v) nothing (Stat None) head put) → (s : State) → GoesWith e k init head put s
  constant_there head put go s =
      let D = alone (Declared k) in
      let (there, known) = value_there e init constant in
      let (v, is) = known in
      let after = λ (t : State). agrees e k z x named spelling init plain item v t in
      subst (λ c. Goes true (λ a. Agree D) (Agree D) (Agree D) c (means e put (Stat None) [] s)) (sym (ap (λ y. either y (λ v t. means e head (Stat None) [] (holding v t)) (λ y t. stop y t)) (is s) ∙ either_ok v s (λ v t. means e head (Stat None) [] (holding v t)) (λ y t. stop y t)))
      (agreeing e k z v _ _ (plain_goes (rules e k z v) (Stat None) head put (go v is) [] (holding v s) s (record { agree = after s; has = ap (λ b. choose b (Holds v) (s.vars (Declared k))) (eq-eqb k k refl) })))
    where
      holding : Value → State → State
      holding v t = with_vars t (set_var t.vars (Declared k) (Holds v))

module _ (e : Environment) (spelling : List ℕ) (k : ℕ) (z : Unseen (alone (Declared k)) e) (init head : Tree) (moves : is_plain_part init ≡ true) where
  abbrev x : Name
  x = resolved spelling k

  abbrev plain_there : (s : List ℕ) → summary (identifier (resolved s k)) ≡ summary init
  plain_there s = sym (plain_read init moves)

  -- a declaration in the head with one value or another
  headed : (K : VariableDeclarationKind) (id : Tree) (last : Trees) (u v w a b : Tree) → SameTree a b → SameTree (for_loop (declaration K (declarator id a ▸ last)) u v w) (for_loop (declaration K (declarator id b ▸ last)) u v w)
  headed K id last u v w a b same =
      let one = among_same shape.VariableDeclarator (id ▸ none) a b none same in
      let list = among_same shape.Listed none (declarator id a) (declarator id b) last one in
      among_same shape.ForStatement none (declaration K (declarator id a ▸ last)) (declaration K (declarator id b ▸ last)) (u ▸ (v ▸ (w ▸ none)))
      (among_same (shape.VariableDeclaration K) none (listed (declarator id a ▸ last)) (listed (declarator id b ▸ last)) none list)

  over_same : (c : Each) (left a b body : Tree) → SameTree a b → SameTree (each_loop c left a body) (each_loop c left b body)
  over_same EachIn left a b body h = among_same shape.ForInStatement (left ▸ none) a b (body ▸ none) h
  over_same EachOf left a b body h = among_same shape.ForOfStatement (left ▸ none) a b (body ▸ none) h

  pub hidden_goes : is_closed init ≡ true → reads_hidden x head ≡ true → are_passed_by_value x init (evaluated_hidden head) ≡ true → (s : State) → GoesWith e k init head (put_first x init head) s
  hidden_goes is_closed_init once passed s = by (hidden x head once)
    where
      constant : is_constant init ≡ true
      constant = closed_constant init is_closed_init

      by : Hidden x head → GoesWith e k init head (put_first x init head) s
      by (inl t) =
          let p = path x false t.value t.once in
          let S = p.read.spelling in
          let there = led p.steps (identifier (resolved S k)) in
          let loops = λ (u : Tree). for_loop (declaration t.kind (declarator t.binds u ▸ t.last)) t.test t.update t.body in
          let passes = p.passed_in OfValues init (sym (ap (are_passed_by_value x init) t.evaluates) ∙ passed) in
          subst₂ (λ h w. GoesWith e k init h w s) (sym t.is) (sym (t.puts init ∙ ap loops (p.puts init)))
          (goes_as e k init (loops t.value) (loops there) (headed t.kind t.binds t.last t.test t.update t.body t.value there (path_same x k refl AsValue t.value p)) (loops (led p.steps init)) s
          (constant_there e k z x refl S init (plain_there S) (plain_item init moves) constant (loops there) (loops (led p.steps init))
          (λ v known. for_goes e k z x refl v S init known (plain_item init moves) (plain_there S) p.steps p.well p.spared passes t.kind t.binds t.last t.test t.update t.body (avoided x k refl t.binds t.other) (all_avoided x k refl t.last t.later) (all_avoided x k refl (t.test ▸ (t.update ▸ (t.body ▸ none))) t.beside)) s))
      by (inr t) =
          let p = path x false t.value t.once in
          let S = p.read.spelling in
          let there = led p.steps (identifier (resolved S k)) in
          let loops = λ (u : Tree). each_loop t.kind t.left u t.body in
          let passes = p.passed_in OfValues init (sym (ap (are_passed_by_value x init) t.evaluates) ∙ passed) in
          subst₂ (λ h w. GoesWith e k init h w s) (sym t.is) (sym (t.puts init ∙ ap loops (p.puts init)))
          (goes_as e k init (loops t.value) (loops there) (over_same t.kind t.left t.value there t.body (path_same x k refl AsValue t.value p)) (loops (led p.steps init)) s
          (constant_there e k z x refl S init (plain_there S) (plain_item init moves) constant (loops there) (loops (led p.steps init))
          (λ v known. over_goes e k z x refl v S init known (plain_item init moves) (plain_there S) p.steps p.well p.spared passes t.kind t.left t.body (avoided x k refl t.left t.other) (all_avoided x k refl (t.body ▸ none) t.later)) s))

-- ---- whatever head it is

pub taken_read : (x : Name) (init head : Tree) → takes x init head ≡ true → SameRead head (put_first x init head)
taken_read x init head e = by (taken x init head e)
  where
    by : Taken x init head → SameRead head (put_first x init head)
    by (inl (o, p)) = head_read x head o init
    by (inr (c, (o, p))) = hidden_read x head o init

pub taken_unnamed : (x : Name) (init head : Tree) → takes x init head ≡ true → names x init ≡ false → names x (put_first x init head) ≡ false
taken_unnamed x init head e f = by (taken x init head e)
  where
    by : Taken x init head → names x (put_first x init head) ≡ false
    by (inl (o, p)) = head_unnamed x head o init f
    by (inr (c, (o, p))) = hidden_unnamed x head o init f

pub taken_goes : (e : Environment) (spelling : List ℕ) (k : ℕ) → Unseen (alone (Declared k)) e → (init head : Tree) → is_plain_part init ≡ true → takes (resolved spelling k) init head ≡ true → (s : State) → GoesWith e k init head (put_first (resolved spelling k) init head) s
taken_goes e spelling k z init head moves t s = by (taken (resolved spelling k) init head t)
  where
    by : Taken (resolved spelling k) init head → GoesWith e k init head (put_first (resolved spelling k) init head) s
    by (inl (o, p)) = head_goes e spelling k z init head moves o p s
    by (inr (c, (o, p))) = hidden_goes e spelling k z init head moves c o p s

-- ---- the row

pub row_71 : {o : Switches} (e : Environment) (k : ℕ) → Unseen (alone (Declared k)) e → (n w : Tree) (r : Row71 (without_vars o) n w) → k ≡ r.symbol → (t : Option Tail) → Same e (alone (Declared k)) nothing (Stat t) n w
row_71 {o = o} e k z n w r h t =
    let x = resolved r.spelling r.symbol in
    let u : Unseen (alone (Declared r.symbol)) e = subst (λ j. Unseen (alone (Declared j)) e) h z in
    let D = alone (Declared r.symbol) in
    let put = put_first x r.init r.head in
    let same = block_same e r.spelling r.symbol u r.before r.after (declared_among r.kind x r.first r.init none ▸ (r.head ▸ none)) (declared_left r.kind r.first ▸ (put ▸ none)) (single_read r.spelling r.symbol r.kind r.first r.init r.head put (taken_read x r.init r.head r.taken)) (all_avoided x r.symbol refl r.before r.earlier)
    (first_avoids D r.kind r.first (all_avoided x r.symbol refl r.first r.declared_earlier), (avoided x r.symbol refl put (taken_unnamed x r.init r.head r.taken r.initial), tt)) (all_avoided x r.symbol refl r.after r.later)
    (single_same e r.spelling r.symbol u r.first r.init r.head put (ap (λ i. i.facts.absent) (plain_read r.init (movable o r.init r.moves))) r.kind (never_written r.kind e r.symbol (lexical_alone r.kind r.goes)) (taken_goes e r.spelling r.symbol u r.init r.head (movable o r.init r.moves) r.taken)) t in
    subst (λ j. Same e (alone (Declared j)) nothing (Stat t) n w) (sym h) (subst₂ (Same e D nothing (Stat t)) (sym r.shape) (sym r.written) same)

-- A list in which some neighbours are written for others is kept, if what is written keeps what the neighbours have.
use Rattle.std.specs.Prelude.{ℕ, suc, ◌+◌, ◌≤◌, ◌≡◌, refl, ◌&&◌, Bool, true, false, List, [], ◌++◌, Option, None}
use Rattle.std.proofs.Common.{ap, ◌∙◌, sym, subst, inl, arith, append_assoc}
use Rattle.std.proofs.lemmas.Bool.{and_parts}
use Rattle.mini_model.specs.declared.name.Name.{Name}
use Rattle.mini_model.specs.declared.name.SymbolId.{SymbolId}
use Rattle.mini_model.specs.declared.place.Position.{Position}
use Rattle.mini_model.specs.declared.place.Position.TheVariants.{StatementList}
use Rattle.mini_model.specs.declared.shape.Shape.TheVariants as shape
use Rattle.mini_model.specs.Tree.{Tree, Trees, node, none, ◌▸◌, listed}
use Rattle.mini_model.specs.Paths.{append}
use Rattle.mini_accept.specs.WellShaped.{Depth, a_statement, Slot, one, many, each, fits, fill}
use Rattle.mini_laws.specs.declared.names.Use.{Use}
use Rattle.mini_laws.specs.declared.names.Use.TheVariants.{Read}
use Rattle.mini_laws.specs.declared.names.Declaration.{Declaration}
use Rattle.mini_laws.specs.declared.names.Declared.{Declared}
use Rattle.mini_laws.specs.declared.names.Declared.TheVariants as declared
use Rattle.mini_laws.specs.declared.names.Targets.{Targets}
use Rattle.mini_laws.specs.DeclaredNames.{has_inner, names_of, body_names}
use Rattle.mini_laws.specs.Resolved.{Environment}
use Rattle.mini_laws.specs.Scoped.{Scoped}
use Rattle.mini_laws.specs.Early.{body_declarations, is_loop}
use Rattle.mini_laws.specs.Value.{Variable}
use Rattle.mini_laws.specs.Fixity.{fixed_by}
use Rattle.mini_laws.specs.Bodies.{Around, Body, bodies, bodies_from}
use Rattle.mini_kept.specs.AlikeBodies.{BodiesKept}
use Rattle.mini_kept.specs.Declaring.{declared as names_declared}
use Rattle.mini_kept.specs.Frames.{Frame, frames, ports as ports_of}
use Rattle.mini_kept.specs.KeepsLoosely.{InnerKept, KeepsLoosely}
use Rattle.mini_kept.specs.KeepsNames.{is_read}
use Rattle.mini_kept.specs.SameNames.{is_among, first_symbol}
use Rattle.mini_kept.proofs.Anywhere.{once_anywhere, targets_anywhere}
use Rattle.mini_kept.proofs.BodyLists.{kept_itself}
use Rattle.mini_kept.proofs.Clashes.{no_more_same}
use Rattle.mini_kept.proofs.Placed.{statements_slot}
use Rattle.mini_kept.proofs.Unplaced.{as_body, body_same}
use Rattle.mini_rows.specs.Sketches.{AList, part, Asked, AsWholeList, AsWholeItem, Leap}
use Rattle.mini_rows.specs.Arranged.{SameFixed, KeptBy, KeptAt}
use Rattle.mini_rows.proofs.Arranging.{All, Below, Any, Local, sum_all, sum_below, Summed}
use Rattle.mini_rows.proofs.ArrangedNames.{ScopedAs, scoped_local, symbol_times, symbols_summed, number_times, numbers_summed, InnerIf, inner_local, Once, once_local, HasTarget, Aimed, aimed_local}
use Rattle.mini_rows.proofs.ArrangedBodies.{quiet, HasBodies, bodies_local, HasFrames, frames_local, Declares, declares_local, FixedBy, fixed_local, rank, by_rank}
use Rattle.mini_rows.proofs.ArrangedValues.{Calm, Valued, sketch_valued}
use Rattle.mini_rows.proofs.ArrangedTrees.{both_same, itself}
use Rattle.mini_rows.proofs.ArrangedGather.{concat, Fold}
use Rattle.mini_rows.proofs.ArrangedFolds.{bound_fold, lexical_fold, hoisted_fold, body_fold, hoists, declared_fold, same_trees, port, ports_in, ports_fold}

-- ---- what holds of a list holds of each of its items

module _ (J : Leap → Type 0) (Q : Asked → Tree → Type 0) where
  pub first_all : (c : Asked) (ts us : Trees) → All Q c (append ts us) → All Q c ts
  first_all c none us a = tt
  first_all c (t ▸ ts) us a = (a.0, first_all c ts us a.1)

  pub second_all : (c : Asked) (ts us : Trees) → All Q c (append ts us) → All Q c us
  second_all c none us a = a
  second_all c (t ▸ ts) us a = second_all c ts us a.1

  pub both_all : (c : Asked) (ts us : Trees) → All Q c ts → All Q c us → All Q c (append ts us)
  both_all c none us a b = b
  both_all c (t ▸ ts) us a b = (a.0, both_all c ts us a.1 b)

  pub all_of : (c : Asked) (i : ℕ) (ts : Trees) → Below Q (λ j. c) i ts → All Q c ts
  all_of c i none a = tt
  all_of c i (t ▸ ts) a = (a.0, all_of c (suc i) ts a.1)

  pub of_all : (c : Asked) (i : ℕ) (ts : Trees) → All Q c ts → Below Q (λ j. c) i ts
  of_all c i none a = tt
  of_all c i (t ▸ ts) a = (a.0, of_all c (suc i) ts a.1)

  module _ (l : Local J Q) where
    pub items_of : (ts : Trees) → Q AsWholeList (listed ts) → All Q AsWholeItem ts
    items_of ts q = all_of AsWholeItem 0 ts (l.down AList AsWholeList ts tt q).1

    list_of : (ts : Trees) → All Q AsWholeItem ts → Q AsWholeList (listed ts)
    list_of ts a = l.up AList AsWholeList ts tt tt (of_all AsWholeItem 0 ts a)

    pub joined : (a b : Trees) → Q AsWholeList (listed a) → Q AsWholeList (listed b) → Q AsWholeList (listed (append a b))
    joined a b x y = list_of (append a b) (both_all AsWholeItem a b (items_of a x) (items_of b y))

    pub parted : (a b : Trees) → Q AsWholeList (listed (append a b)) → Q AsWholeList (listed a) × Q AsWholeList (listed b)
    parted a b x = (list_of a (first_all AsWholeItem a b (items_of (append a b) x)), list_of b (second_all AsWholeItem a b (items_of (append a b) x)))

    pub stretched : (before after a b : Trees) → (All Q AsWholeItem a → All Q AsWholeItem b) → Q AsWholeList (listed (append before (append a after))) → Q AsWholeList (listed (append before (append b after)))
    stretched before after a b k q =
        let all = items_of (append before (append a after)) q in
        let later = second_all AsWholeItem before (append a after) all in
        list_of (append before (append b after))
        (both_all AsWholeItem before (append b after) (first_all AsWholeItem before (append a after) all) (both_all AsWholeItem b after (k (first_all AsWholeItem a after later)) (second_all AsWholeItem a after later)))

module _ (m : Asked → Tree → ℕ) (l : Summed m) where
  pub sum_append : (c : Asked) (ts us : Trees) → sum_all m c (append ts us) ≡ sum_all m c ts + sum_all m c us
  sum_append c none us = omega arith
  sum_append c (t ▸ ts) us = omega (arith, sum_append c ts us)

  pub sum_items : (c : Asked) (i : ℕ) (ts : Trees) → sum_below m (λ j. c) i ts ≡ sum_all m c ts
  sum_items c i none = refl
  sum_items c i (t ▸ ts) = ap (λ k. m c t + k) (sum_items c (suc i) ts)

  pub sum_list : (ts : Trees) → m AsWholeList (listed ts) ≡ sum_all m AsWholeItem ts
  sum_list ts = l AList AsWholeList ts tt ∙ sum_items AsWholeItem 0 ts

  pub sum_joined : (a b : Trees) → m AsWholeList (listed (append a b)) ≡ m AsWholeList (listed a) + m AsWholeList (listed b)
  sum_joined a b = omega (arith, sum_list a, sum_list b, sum_list (append a b), sum_append AsWholeItem a b)

  pub sum_stretched : (before after a b : Trees) → sum_all m AsWholeItem b ≤ sum_all m AsWholeItem a → m AsWholeList (listed (append before (append b after))) ≤ m AsWholeList (listed (append before (append a after)))
  sum_stretched before after a b k =
      omega (
        arith,
        k,
        sum_list (append before (append a after)),
        sum_list (append before (append b after)),
        sum_append AsWholeItem before (append a after),
        sum_append AsWholeItem before (append b after),
        sum_append AsWholeItem a after,
        sum_append AsWholeItem b after,
      )

  pub sum_shortened : (before after a b : Trees) → sum_all m AsWholeItem b + 1 ≤ sum_all m AsWholeItem a → m AsWholeList (listed (append before (append b after))) + 1 ≤ m AsWholeList (listed (append before (append a after)))
  sum_shortened before after a b k =
      omega (
        arith,
        k,
        sum_list (append before (append a after)),
        sum_list (append before (append b after)),
        sum_append AsWholeItem before (append a after),
        sum_append AsWholeItem before (append b after),
        sum_append AsWholeItem a after,
        sum_append AsWholeItem b after,
      )

concat_append : {A : Type 0} (g : Tree → List A) (ts us : Trees) → concat g (append ts us) ≡ concat g ts ++ concat g us
concat_append g none us = refl
concat_append g (t ▸ ts) us = ap (λ r. g t ++ r) (concat_append g ts us) ∙ sym (append_assoc (g t) (concat g ts) (concat g us))

pub fold_stretched : (A : Type 0) (L B H : Tree → List A) → Fold A L B H → (before after a b : Trees) → concat B b ≡ concat B a → L (listed (append before (append b after))) ≡ L (listed (append before (append a after)))
fold_stretched A L B H k before after a b e =
    k.whole (append before (append b after)) ∙ concat_append B before (append b after) ∙ ap (λ r. concat B before ++ r) (concat_append B b after ∙ ap (λ r. r ++ concat B after) e ∙ sym (concat_append B a after))
    ∙ sym (concat_append B before (append a after))
    ∙ sym (k.whole (append before (append a after)))

-- ---- what the neighbours have, and what is written keeps

-- of names
pub record NamesStretched (a b : Trees) : Type 0 where
  pub names : (d : Declared) → concat (names_of d) b ≡ concat (names_of d) a
  pub body : concat body_names b ≡ concat body_names a
  pub as_body : (o : Bool) → concat (as_body o) b ≡ concat (as_body o) a
  pub ports : (m : Bool) → concat (port m) b ≡ concat (port m) a
  pub scoped : (env : Environment) → All (ScopedAs Read env) AsWholeItem a → All (ScopedAs Read env) AsWholeItem b
  pub symbols : (u : Use) (x : Option SymbolId) → sum_all (symbol_times u x) AsWholeItem b ≤ sum_all (symbol_times u x) AsWholeItem a
  pub once : All Once AsWholeItem a → All Once AsWholeItem b

pub record Stretched (a b : Trees) : Type 0 where
  pub named : (strict : Bool) (d : Depth) → fill strict (each (one (a_statement d))) a ≡ true → NamesStretched a b
  pub calm : (strict : Bool) (d : Depth) → fill strict (each (one (a_statement d))) a ≡ true → All Valued AsWholeItem b
  pub inner : (x : Bool) → All (InnerIf x) AsWholeItem a → All (InnerIf x) AsWholeItem b
  pub inner_back : (x : Bool) → All (InnerIf x) AsWholeItem b → All (InnerIf x) AsWholeItem a
  pub fixed : (x : Variable) (k : ℕ) → All (FixedBy x k) AsWholeItem a → All (FixedBy x k) AsWholeItem b
  pub fixed_back : (x : Variable) (k : ℕ) → All (FixedBy x k) AsWholeItem b → All (FixedBy x k) AsWholeItem a
  pub declares : (xs : List Name) → All (Declares xs) AsWholeItem a → All (Declares xs) AsWholeItem b
  pub frames : (fs : List Frame) → All (HasFrames fs) AsWholeItem a → All (HasFrames fs) AsWholeItem b
  pub bodies : (bs : List Body) (r : Around) → All (HasBodies bs r) AsWholeItem a → All (HasBodies bs r) AsWholeItem b
  pub targets : (g : Targets) → All (Aimed g) AsWholeItem a → All (Aimed g) AsWholeItem b
  pub numbers : (k : ℕ) → sum_all (number_times k) AsWholeItem b ≤ sum_all (number_times k) AsWholeItem a

-- but for what is known of inner expressions, and of what a write does
pub record StretchedBut (a b : Trees) : Type 0 where
  pub named : (strict : Bool) (d : Depth) → fill strict (each (one (a_statement d))) a ≡ true → NamesStretched a b
  pub calm : (strict : Bool) (d : Depth) → fill strict (each (one (a_statement d))) a ≡ true → All Valued AsWholeItem b
  pub declares : (xs : List Name) → All (Declares xs) AsWholeItem a → All (Declares xs) AsWholeItem b
  pub frames : (fs : List Frame) → All (HasFrames fs) AsWholeItem a → All (HasFrames fs) AsWholeItem b
  pub bodies : (bs : List Body) (r : Around) → All (HasBodies bs r) AsWholeItem a → All (HasBodies bs r) AsWholeItem b
  pub targets : (g : Targets) → All (Aimed g) AsWholeItem a → All (Aimed g) AsWholeItem b
  pub numbers : (k : ℕ) → sum_all (number_times k) AsWholeItem b ≤ sum_all (number_times k) AsWholeItem a

-- ---- the statements of a list

both_fit : (strict : Bool) (s : Slot) (a b : Trees) → fill strict (each s) (append a b) ≡ true → (fill strict (each s) a ≡ true) × (fill strict (each s) b ≡ true)
both_fit strict s none b e = (refl, e)
both_fit strict s (t ▸ a) b e =
    let (x, y) = and_parts (fits strict s t) (fill strict (each s) (append a b)) e in
    let (z, w) = both_fit strict s a b y in
    (ap (λ c. c && fill strict (each s) a) x ∙ z, w)

pub all_calm : (strict : Bool) (d : Depth) (ts : Trees) → fill strict (each (one (a_statement d))) ts ≡ true → All Valued AsWholeItem ts
all_calm strict d none e = tt
all_calm strict d (t ▸ ts) e =
    let (x, y) = and_parts (fits strict (one (a_statement d)) t) (fill strict (each (one (a_statement d))) ts) e in
    ((sketch_valued (record { trees = t ▸ none; lists = [] }) strict AsWholeItem (one (a_statement d)) (part 0) refl x).0, all_calm strict d ts y)

calm_quiet : (a : Around) (t : Tree) → Calm t → bodies (record a { constructs = false }) t ≡ bodies (quiet a) t
calm_quiet a (node shape.Listed xs n ts) c = absurd (cc c.1)
calm_quiet a (node shape.InnerExpression xs n ts) c = absurd (cc c.1)
calm_quiet a (node shape.RestElement xs n ts) c = absurd (cc c.1)
calm_quiet a (node shape.AssignmentPattern xs n ts) c = absurd (cc c.1)
calm_quiet a (node h xs n ts) c = refl

calm_items : (a : Around) (i : ℕ) (ts : Trees) → All Valued AsWholeItem ts → bodies_from (λ j. record a { constructs = false }) i ts ≡ bodies_from (λ j. quiet a) i ts
calm_items a i none v = refl
calm_items a i (t ▸ ts) v = λ x. calm_quiet a t v.0 x ++ calm_items a (suc i) ts v.1 x

pub read_is : (u : Use) → is_read u ≡ true → u ≡ Read
read_is Read e = refl
read_is u e = absurd (cc e)

-- of one variable
pub fixed_stretched : (x : Variable) (before after a b : Trees) → ((k : ℕ) → All (FixedBy x k) AsWholeItem a → All (FixedBy x k) AsWholeItem b) → ((k : ℕ) → All (FixedBy x k) AsWholeItem b → All (FixedBy x k) AsWholeItem a)
    → fixed_by (listed (append before (append a after))) x ≡ fixed_by (listed (append before (append b after))) x
fixed_stretched x before after a b f g =
    let n = listed (append before (append a after)) in
    let w = listed (append before (append b after)) in
    let i = rank (fixed_by n x) in
    let j = rank (fixed_by w x) in
    by_rank (fixed_by n x) (fixed_by w x) (stretched Any (FixedBy x j) (fixed_local x j) before after b a (g j) (omega arith)) (stretched Any (FixedBy x i) (fixed_local x i) before after a b (f i) (omega arith))

module _ (before after a b : Trees) (k : StretchedBut a b) where
  abbrev n : Tree
  n = listed (append before (append a after))

  abbrev w : Tree
  w = listed (append before (append b after))

  module _ (c : NamesStretched a b) where
    whole_names : (d : Declared) → names_of d w ≡ names_of d n
    whole_names declared.Bound = fold_stretched Name (names_of declared.Bound) (names_of declared.Bound) (λ t. []) bound_fold before after a b (c.names declared.Bound)
    whole_names declared.Lexical = fold_stretched Name (names_of declared.Lexical) (names_of declared.Lexical) (λ t. []) lexical_fold before after a b (c.names declared.Lexical)
    whole_names declared.Hoisted = fold_stretched Name (names_of declared.Hoisted) (names_of declared.Hoisted) (names_of declared.Hoisted) hoisted_fold before after a b (c.names declared.Hoisted)

    whole_scoped : (env : Environment) → Scoped Read env n → Scoped Read env w
    whole_scoped env = stretched Any (ScopedAs Read env) (scoped_local Read env) before after a b (c.scoped env)

    same_loop : is_loop w ≡ is_loop n
    unfolding is_loop
    same_loop = refl

    whole_keeps : InnerKept n w → KeepsLoosely StatementList n w
    whole_keeps i = record {
      bound = whole_names declared.Bound;
      lexical = whole_names declared.Lexical;
      hoisted = λ x. ap (λ xs. is_among xs x) (whole_names declared.Hoisted);
      body = λ v env e q r. ap (first_symbol r) (fold_stretched Name body_names body_names (names_of declared.Hoisted) body_fold before after a b c.body);
      inner = i;
      scoped = λ v env e q. subst (λ u. Scoped u env w) (sym (read_is v e)) (whole_scoped env (subst (λ u. Scoped u env n) (read_is v e) q));
      symbols = λ v env e q x. sum_stretched (symbol_times v x) (symbols_summed v x) before after a b (c.symbols v x);
      numbers = λ x. sum_stretched (number_times x) (numbers_summed x) before after a b (k.numbers x);
      declared_as_body = λ o q. no_more_same (body_declarations o q n) (body_declarations o q w) (body_same o q q n w (fold_stretched Declaration (as_body o) (as_body o) hoists (declared_fold o) before after a b (c.as_body o)));
      once = λ p q. once_anywhere [] p w (stretched Any Once once_local before after a b c.once (once_anywhere p [] n q));
      targets = λ g p q. targets_anywhere g [] p w (stretched (HasTarget g) (Aimed g) (aimed_local g) before after a b (k.targets g) (targets_anywhere g p [] n q));
      loop = same_loop;
      root = λ e. absurd (cc e);
      block = λ e o q. absurd (cc e);
    }

  read_fits : (strict : Bool) (d : Depth) → fill strict (each (one (a_statement d))) (append before (append a after)) ≡ true → fill strict (each (one (a_statement d))) a ≡ true
  read_fits strict d e = (both_fit strict (one (a_statement d)) a after (both_fit strict (one (a_statement d)) before (append a after) e).1).0

  put_calm : (strict : Bool) (d : Depth) → fill strict (each (one (a_statement d))) (append before (append a after)) ≡ true → All Valued AsWholeItem (append before (append b after))
  put_calm strict d e =
      let (x, y) = both_fit strict (one (a_statement d)) before (append a after) e in
      both_all Any Valued AsWholeItem before (append b after) (all_calm strict d before x) (both_all Any Valued AsWholeItem b after (k.calm strict d (both_fit strict (one (a_statement d)) a after y).0) (all_calm strict d after (both_fit strict (one (a_statement d)) a after y).1))

  whole_bodies : (r : Around) (strict : Bool) (d : Depth) → fill strict (each (one (a_statement d))) (append before (append a after)) ≡ true → BodiesKept (bodies r n) (bodies r w)
  whole_bodies r strict d e =
      subst (BodiesKept (bodies r n)) (sym (calm_items r 0 (append before (append b after)) (put_calm strict d e)))
      (subst (λ bs. BodiesKept bs (bodies (quiet r) w)) (sym (calm_items r 0 (append before (append a after)) (all_calm strict d (append before (append a after)) e)))
      (stretched Any (HasBodies (bodies (quiet r) n) r) (bodies_local (bodies (quiet r) n) r) before after a b (k.bodies (bodies (quiet r) n) r) (kept_itself (bodies (quiet r) n))))

  whole_ports : (m : Bool) → NamesStretched a b → ports_of m (append before (append a after)) ≡ ports_of m (append before (append b after))
  whole_ports m c = sym (same_trees (ports_of m (append before (append b after))) (ports_of m (append before (append a after))) (fold_stretched Tree (ports_in m) (port m) (λ t. []) (ports_fold m) before after a b (c.ports m)))

  pub stretch_kept_by : (F : Position → Tree → Tree → Type 0) → InnerKept n w → F StatementList n w → KeptBy F StatementList n w
  stretch_kept_by F i fixed = record {
    keeps = λ strict s o f. let (d, e, g) = statements_slot strict s [] 0 (append before (append a after)) o f in whole_keeps (k.named strict d (read_fits strict d g)) i;
    piece = refl;
    kind = λ strict s f. refl;
    bodies = λ strict s o f r st. let (d, e, g) = statements_slot strict s [] 0 (append before (append a after)) o f in whole_bodies r strict d g;
    ports = λ strict d f m. (refl, refl);
    listed = λ l strict d f m. let (d', e, g) = statements_slot strict (many (a_statement d)) [] 0 (append before (append a after)) refl f in whole_ports m (k.named strict d' (read_fits strict d' g));
    exported = λ strict f. (refl, refl);
    frames = λ strict s o f. stretched Any (HasFrames (frames None n)) (frames_local (frames None n)) before after a b (k.frames (frames None n)) (λ x q. q);
    fixed = fixed;
    declared = stretched Any (Declares (names_declared n)) (declares_local (names_declared n)) before after a b (k.declares (names_declared n)) (λ x q. q);
  }

module _ (before after a b : Trees) (k : Stretched a b) where
  whole_inner : has_inner (listed (append before (append b after))) ≡ has_inner (listed (append before (append a after)))
  whole_inner =
      let n = listed (append before (append a after)) in
      let w = listed (append before (append b after)) in
      both_same (has_inner n) (has_inner w) (stretched Any (InnerIf (has_inner n)) (inner_local (has_inner n)) before after a b (k.inner (has_inner n)) (itself (has_inner n)))
      (stretched Any (InnerIf (has_inner w)) (inner_local (has_inner w)) before after b a (k.inner_back (has_inner w)) (itself (has_inner w)))

  but : StretchedBut a b
  but = record { named = k.named; calm = k.calm; declares = k.declares; frames = k.frames; bodies = k.bodies; targets = k.targets; numbers = k.numbers }

  pub stretch_kept : KeptAt StatementList (listed (append before (append a after))) (listed (append before (append b after)))
  stretch_kept = stretch_kept_by before after a b but SameFixed (inl whole_inner) (λ x. fixed_stretched x before after a b (k.fixed x) (k.fixed_back x))

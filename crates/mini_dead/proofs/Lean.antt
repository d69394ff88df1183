-- Two runs, of which the first creates some functions more.
use Rattle.std.proofs.Common.{◌≡◌, ℕ, zero, suc, Bool, true, false, List, [], ◌∷◌, Option, Some, None, refl, sym, ap, ◌∙◌, subst, subst₂, true≢false, eqb-true}
use Rattle.std.specs.Prelude.{is_none, nat_eq, ◌&&◌}
use Rattle.std.proofs.Math.Path.{fun_ext}
use Rattle.mini_model.specs.Weight.{same_text}
use Rattle.mini_laws.specs.Value.{variables, Variable, Declared, Global, VariableSet, Value, Slot, Holds, Missing, Uninitialised, choose, variable_eq, is_in, nth}
use Rattle.mini_laws.specs.State.{Label, ReferenceError, Raise, Create, BindOf, ThisOf, FreshOf, Entry, Item, Event, Answer, Given, Normal, State, Stop, NoAnswers, Completion, ok, stop, halt, out, done, ended, either, Environment, with_vars, refresh, news_of, seen}
use Rattle.mini_model.specs.Tree.{Tree, Trees, node, none, ◌▸◌}
use Rattle.mini_laws.specs.Demand.{Demand, Request}
use Rattle.mini_laws.specs.Naming.{kinds, summaries, facts, naming}
use Rattle.mini_laws.specs.Asking.{demand}
use Rattle.mini_laws.specs.Step.{step, means, meaning}
use Rattle.mini_laws.specs.Command.{Naming, Command, ret, fails, stuck, op, kid, Kids, run, Op, read, read_typeof, fixity, write, init, init_function, hide, copy, event, bind_names, self, turn, fuel, Tag, NoTag, Mine, OfFunction, act, set_var, hide_all, hear, Heard, hears, breaks, nonsense, heard, answered, bound_if, answered_binds, number_of, function_number, function_name, note, fresh_note, start, copies, read_slot, read_global, read_name, read_any, read_type, write_slot, write_global, write_name, at_variable, this_of, take_turn, is_object, only_object}
use Rattle.mini_laws.specs.Same.{Goes}
use Rattle.mini_laws.specs.Congruence.{NoneIn, only, Alive, Apart}
use Rattle.mini_laws.proofs.Runs.{name_reads, name_writes, type_reads}
use Rattle.mini_dead.specs.Creations.{FunctionSet, has_number, is_creation, creates, without, spared, IsNormal, Quiet, AnsweredQuietly, IfElse}

-- events after some others
abbrev pub onto : List Event → List Event → List Event
onto [] es = es
onto (f ∷ fs) es = onto fs (f ∷ es)

cons_rest : (a b : Answer) (as' bs : List Answer) → a ∷ as' ≡ b ∷ bs → as' ≡ bs
cons_rest a b as' bs p = cc

pub spared_none : (d : FunctionSet) (fs : List Event) → spared d fs [] ≡ []
spared_none d [] = refl
spared_none d (f ∷ fs) = refl

tag_spared : (d : FunctionSet) (l : Label) (n : Option ℕ) → has_number d n ≡ false → is_creation d l n ≡ false
tag_spared d Create n h = h
tag_spared d l n h = refl

and_true : (a b : Bool) → (a && b) ≡ true → (a ≡ true) × (b ≡ true)
and_true true b e = (refl, e)
and_true false b e = (e, cc)

same_texts : (s r : List ℕ) → same_text s r ≡ true → s ≡ r
same_texts [] [] e = refl
same_texts [] (y ∷ r) e = cc
same_texts (x ∷ s) [] e = cc
same_texts (x ∷ s) (y ∷ r) e = let both = and_true (nat_eq x y) (same_text s r) e in ap (λ z. z ∷ s) (eqb-true x y both.0) ∙ ap (λ t. y ∷ t) (same_texts s r both.1)

pub same_variables : (x y : Variable) → variable_eq x y ≡ true → x ≡ y
same_variables (Declared m) (Declared n) e = ap Declared (eqb-true m n e)
same_variables (Global s) (Global t) e = ap Global (same_texts s t e)
same_variables (Declared m) (Global t) e = absurd (true≢false (sym e))
same_variables (Global s) (Declared n) e = absurd (true≢false (sym e))

-- all events of the run are these, the last one first
module _ (d : FunctionSet) (D : VariableSet) (E : List Event) where
  -- some are still to come after these
  pub record Ahead (es : List Event) : Type 0 where
    pub coming : List Event
    pub all : onto coming es ≡ E

  -- the second state has the events but for the creations, and the answers that the events to come
  -- spare
  pub record Lean (s t : State) : Type 0 where
    pub vars : (x : Variable) → D x ≡ false → s.vars x ≡ t.vars x
    pub self : s.self ≡ t.self
    pub turns : s.turns ≡ t.turns
    pub events : without d s.events ≡ t.events
    pub good : (fs : List Event) → onto fs s.events ≡ E → AnsweredQuietly d fs s.answers
    pub answers : (fs : List Event) → onto fs s.events ≡ E → spared d fs s.answers ≡ t.answers

  -- a part of the run ends so
  unfoldable pub Reaches : {A : Type 0} → Completion A → Type 0
  Reaches (ok a s) = Ahead s.events
  Reaches (stop x s) = Ahead s.events
  Reaches (halt h s) = s.events ≡ E
  Reaches out = ⊥

  unfoldable pub Follows : {A : Type 0} → Completion A → Completion A → Type 0
  Follows x y = Reaches x → Goes false (λ a. Lean) Lean Lean x y

  pub ahead_less : (v : Event) (es : List Event) → Ahead (v ∷ es) → Ahead es
  ahead_less v es a = record { coming = v ∷ a.coming; all = a.all }

  pub ahead_now : (es : List Event) → es ≡ E → Ahead es
  ahead_now es p = record { coming = []; all = p }

  pub reaches_either : {A B : Type 0} (x : Completion B) (f : B → State → Completion A) (h : Stop → State → Completion A) → ((b : B) (s : State) → Reaches (f b s) → Ahead s.events) → ((e : Stop) (s : State) → Reaches (h e s) → Ahead s.events) → Reaches (either x f h) → Reaches x
  unfolding Reaches either
  reaches_either (ok b s) f h p q r = p b s r
  reaches_either (stop e s) f h p q r = q e s r
  reaches_either (halt e s) f h p q r = r
  reaches_either out f h p q r = r

  pub follows_either : {A B : Type 0} (x y : Completion B) (f g : B → State → Completion A) (h k : Stop → State → Completion A) → Follows x y → ((b : B) (s : State) → Reaches (f b s) → Ahead s.events) → ((e : Stop) (s : State) → Reaches (h e s) → Ahead s.events) → ((b : B) (s t : State) → Lean s t → Follows (f b s) (g b t)) → ((e : Stop) (s t : State) → Lean s t → Follows (h e s) (k e t)) → Follows (either x f h) (either y g k)
  unfolding Follows Reaches Goes either
  follows_either (ok a s) (ok b t) f g h k w p q u v r = let m = w (p a s r) in subst (λ c. Goes false (λ a. Lean) Lean Lean (f a s) (g c t)) m.0 (u a s t m.1 r)
  follows_either (stop a s) (stop b t) f g h k w p q u v r = let m = w (q a s r) in subst (λ c. Goes false (λ a. Lean) Lean Lean (h a s) (k c t)) m.0 (v a s t m.1 r)
  follows_either (halt a s) (halt b t) f g h k w p q u v r = w r
  follows_either out y f g h k w p q u v r = absurd r
  follows_either (ok a s) (stop b t) f g h k w p q u v r = absurd (w (p a s r))
  follows_either (ok a s) (halt b t) f g h k w p q u v r = absurd (w (p a s r))
  follows_either (ok a s) out f g h k w p q u v r = absurd (w (p a s r))
  follows_either (stop a s) (ok b t) f g h k w p q u v r = absurd (w (q a s r))
  follows_either (stop a s) (halt b t) f g h k w p q u v r = absurd (w (q a s r))
  follows_either (stop a s) out f g h k w p q u v r = absurd (w (q a s r))
  follows_either (halt a s) (ok b t) f g h k w p q u v r = absurd (w r)
  follows_either (halt a s) (stop b t) f g h k w p q u v r = absurd (w r)
  follows_either (halt a s) out f g h k w p q u v r = absurd (w r)

  -- variables, and Fresh

  pub vars_lean : (f g : Variable → Slot) (s t : State) → ((x : Variable) → D x ≡ false → f x ≡ g x) → Lean s t → Lean (with_vars s f) (with_vars t g)
  vars_lean f g s t p h = record { vars = p; self = h.self; turns = h.turns; events = h.events; good = h.good; answers = h.answers }

  -- one that the second state doesn't have
  pub dead_lean : (x : Variable) (v : Slot) (s t : State) → D x ≡ true → Lean s t → Lean (with_vars s (set_var s.vars x v)) t
  dead_lean x v s t p h = record { vars = λ y q. other y q (variable_eq x y) (same_variables x y) ∙ h.vars y q; self = h.self; turns = h.turns; events = h.events; good = h.good; answers = h.answers }
    where
      other : (y : Variable) → D y ≡ false → (b : Bool) → (b ≡ true → x ≡ y) → choose b v (s.vars y) ≡ s.vars y
      other y q true f = absurd (true≢false (sym p ∙ ap D (f refl) ∙ q))
      other y q false f = refl

  module _ (e : Environment) (apart : Apart e D) where
    pub seen_lean : (s t : State) → Lean s t → seen e.shared s.vars ≡ seen e.shared t.vars
    seen_lean s t g = fun_ext λ x. at x (D x) refl
      where
        at : (x : Variable) (b : Bool) → D x ≡ b → seen e.shared s.vars x ≡ seen e.shared t.vars x
        at x false h = ap (λ w. choose (e.shared x) w Missing) (g.vars x h)
        at x true h = ap (λ c. choose c (s.vars x) Missing) (apart x h) ∙ sym (ap (λ c. choose c (t.vars x) Missing) (apart x h))

    abbrev noted : Label → Option ℕ → List Entry → Option Variable → State → Event
    noted l n vs x s = record { label = l; number = n; operands = vs; fresh = x; shared = seen e.shared s.vars }

    not_created : (l : Label) (n : Option ℕ) (b : Bool) → is_creation d l n ≡ false → choose b (is_creation d l n) false ≡ false
    not_created l n true k = k
    not_created l n false k = refl

    -- an event that stays is in both
    kept_event : (l : Label) (n : Option ℕ) (vs : List Entry) (x : Option Variable) (s t : State) → is_creation d l n ≡ false → Lean s t → without d (note e l n vs x s).events ≡ (note e l n vs x t).events
    kept_event l n vs x s t k h =
        ap (λ b. choose b (without d s.events) (noted l n vs x s ∷ without d s.events)) (not_created l n (is_none x) k)
        ∙ ap (λ f. record { label = l; number = n; operands = vs; fresh = x; shared = f } ∷ without d s.events) (seen_lean s t h)
        ∙ ap (λ r. noted l n vs x t ∷ r) h.events

    fresh_good : (v : Event) (as' : List Answer) (fs : List Event) → is_none v.fresh ≡ false → AnsweredQuietly d (v ∷ fs) as' → AnsweredQuietly d fs as'
    fresh_good v [] fs k g = g.1
    fresh_good v (a ∷ as') fs k g = subst (λ b. IfElse b ((creates d v ≡ true → Quiet a) × AnsweredQuietly d fs as') (AnsweredQuietly d fs (a ∷ as'))) k g

    fresh_spared : (v : Event) (as' : List Answer) (fs : List Event) → is_none v.fresh ≡ false → spared d fs as' ≡ spared d (v ∷ fs) as'
    fresh_spared v [] fs k = spared_none d fs
    fresh_spared v (a ∷ as') fs k = sym (ap (λ b. choose b (choose (creates d v) (spared d fs as') (a ∷ spared d fs as')) (spared d fs (a ∷ as'))) k)

    note_fresh_lean : (x : Variable) (s t : State) → Lean s t → Lean (note e FreshOf None [] (Some x) s) (note e FreshOf None [] (Some x) t)
    note_fresh_lean x s t h = record {
      vars = h.vars;
      self = h.self;
      turns = h.turns;
      events = kept_event FreshOf None [] (Some x) s t refl h;
      good = λ fs p. fresh_good (noted FreshOf None [] (Some x) s) s.answers fs refl (h.good (noted FreshOf None [] (Some x) s ∷ fs) p);
      answers = λ fs p. fresh_spared (noted FreshOf None [] (Some x) s) s.answers fs refl ∙ h.answers (noted FreshOf None [] (Some x) s ∷ fs) p;
    }

    pub choose_lean : (b : Bool) (s t s' t' : State) → Lean s t → Lean s' t' → Lean (choose b s s') (choose b t t')
    choose_lean true s t s' t' g h = g
    choose_lean false s t s' t' g h = h

    pub fresh_lean : (x : Variable) (s t : State) → Lean s t → Lean (fresh_note e x s) (fresh_note e x t)
    fresh_lean x s t h = choose_lean (e.shared x) _ _ _ _ (note_fresh_lean x s t h) h

    pub set_lean : (x : Variable) (v : Slot) (s t : State) → Lean s t → Lean (with_vars s (set_var s.vars x v)) (with_vars t (set_var t.vars x v))
    set_lean x v s t g = vars_lean _ _ s t (λ y q. ap (choose (variable_eq x y) v) (g.vars y q)) g

    pub start_lean : (b : Bool) (x : Variable) (v : Value) (s t : State) → Lean s t → Lean (start e b x v s) (start e b x v t)
    start_lean b x v s t g = set_lean x (Holds v) _ _ (choose_lean b _ _ _ _ (fresh_lean x s t g) g)

    notes : List Variable → State → State
    notes [] s = s
    notes (x ∷ xs) s = notes xs (note e FreshOf None [] (Some x) s)

    copies_only : (xs : List Variable) (s : State) → copies e xs s ≡ notes (only e.shared xs) s
    unfolding notes
    copies_only [] s = refl
    copies_only (x ∷ xs) s = go (copies_only xs) (e.shared x)
      where
        go : ((s : State) → copies e xs s ≡ notes (only e.shared xs) s) → (b : Bool) → copies e xs (choose b (note e FreshOf None [] (Some x) s) s) ≡ notes (choose b (x ∷ only e.shared xs) (only e.shared xs)) s
        go r true = r (note e FreshOf None [] (Some x) s)
        go r false = r s

    notes_lean : (xs : List Variable) (s t : State) → Lean s t → Lean (notes xs s) (notes xs t)
    unfolding notes
    notes_lean [] s t g = g
    notes_lean (x ∷ xs) s t g = notes_lean xs _ _ (note_fresh_lean x s t g)

    -- events with answers

    good_rest : (v : Event) (a : Answer) (rest : List Answer) (fs : List Event) → v.fresh ≡ None → AnsweredQuietly d (v ∷ fs) (a ∷ rest) → (creates d v ≡ true → Quiet a) × AnsweredQuietly d fs rest
    good_rest v a rest fs k g = subst (λ x. IfElse (is_none x) ((creates d v ≡ true → Quiet a) × AnsweredQuietly d fs rest) (AnsweredQuietly d fs (a ∷ rest))) k g

    spared_rest : (v : Event) (a : Answer) (rest : List Answer) (fs : List Event) → v.fresh ≡ None → spared d (v ∷ fs) (a ∷ rest) ≡ choose (creates d v) (spared d fs rest) (a ∷ spared d fs rest)
    spared_rest v a rest fs k = ap (λ x. choose (is_none x) (choose (creates d v) (spared d fs rest) (a ∷ spared d fs rest)) (spared d fs (a ∷ rest))) k

    -- an answer that the second state takes, too
    pub record Took (a : Answer) (t : State) : Type 0 where
      pub rest : List Answer
      pub same : a ∷ rest ≡ t.answers

    takes : (l : Label) (n : Option ℕ) (vs : List Entry) (a : Answer) (rest : List Answer) (s t : State) → is_creation d l n ≡ false → s.answers ≡ a ∷ rest → Lean s t → (fs : List Event) → onto fs (noted l n vs None s ∷ s.events) ≡ E → a ∷ spared d fs rest ≡ t.answers
    takes l n vs a rest s t k q h fs p =
        sym (ap (λ b. choose b (spared d fs rest) (a ∷ spared d fs rest)) k) ∙ sym (spared_rest (noted l n vs None s) a rest fs refl) ∙ ap (spared d (noted l n vs None s ∷ fs)) (sym q) ∙ h.answers (noted l n vs None s ∷ fs) p

    next_lean : (l : Label) (n : Option ℕ) (vs : List Entry) (a : Answer) (rest rest' : List Answer) (s t : State) → is_creation d l n ≡ false → s.answers ≡ a ∷ rest → t.answers ≡ a ∷ rest' → Lean s t → Lean (record (note e l n vs None s) { vars = news_of e.foreign s.vars a.news; answers = rest }) (record (note e l n vs None t) { vars = news_of e.foreign t.vars a.news; answers = rest' })
    next_lean l n vs a rest rest' s t k q q' h = record {
      vars = λ y z. ap (λ w. choose (e.foreign y) (refresh w (a.news y)) w) (h.vars y z);
      self = h.self;
      turns = h.turns;
      events = kept_event l n vs None s t k h;
      good = λ fs p. (good_rest (noted l n vs None s) a rest fs refl (subst (AnsweredQuietly d (noted l n vs None s ∷ fs)) q (h.good (noted l n vs None s ∷ fs) p))).1;
      answers = λ fs p. cons_rest a a (spared d fs rest) rest' (takes l n vs a rest s t k q h fs p ∙ q');
    }

    ends_lean : (l : Label) (n : Option ℕ) (vs : List Entry) (s t : State) → is_creation d l n ≡ false → s.answers ≡ [] → Lean s t → Lean (note e l n vs None s) (note e l n vs None t)
    ends_lean l n vs s t k q h = record {
      vars = h.vars;
      self = h.self;
      turns = h.turns;
      events = kept_event l n vs None s t k h;
      good = λ fs p. subst (AnsweredQuietly d fs) (sym q) (subst (AnsweredQuietly d (noted l n vs None s ∷ fs)) q (h.good (noted l n vs None s ∷ fs) p)).1;
      answers = λ fs p. ap (spared d fs) q ∙ spared_none d fs ∙ ap (spared d (noted l n vs None s ∷ fs)) (sym q) ∙ h.answers (noted l n vs None s ∷ fs) p;
    }

    abbrev Go : {A : Type 0} → Completion A → Completion A → Type 0
    Go x y = Goes false (λ a. Lean) Lean Lean x y

    heard_lean : {A : Type 0} (h : Heard A) (s t : State) → Lean s t → Follows (heard h s) (heard h t)
    unfolding heard Follows Reaches Goes
    heard_lean (hears a) s t g r = (refl, g)
    heard_lean (breaks x) s t g r = (refl, g)
    heard_lean nonsense s t g r = absurd r

    bound_lean : (xs ys : List Variable) → ((y : Variable) → D y ≡ false → is_in y xs ≡ is_in y ys) → (values : Variable → Value) (h : Heard Value) (s t : State) → Lean s t → Follows (bound_if h xs values s) (bound_if h ys values t)
    unfolding Follows Reaches Goes
    bound_lean xs ys same values (hears v) s t g r = (refl, vars_lean _ _ s t (λ y h. ap (λ w. choose (is_in y xs) (Holds (values y)) w) (g.vars y h) ∙ ap (λ c. choose c (Holds (values y)) (t.vars y)) (same y h)) g)
    bound_lean xs ys same values (breaks x) s t g r = (refl, g)
    bound_lean xs ys same values nonsense s t g r = absurd r

    heard_reaches : {A : Type 0} (h : Heard A) (s : State) → Reaches (heard h s) → Ahead s.events
    unfolding heard Reaches
    heard_reaches (hears a) s r = r
    heard_reaches (breaks x) s r = r
    heard_reaches nonsense s r = absurd r

    bound_reaches : (xs : List Variable) (values : Variable → Value) (h : Heard Value) (s : State) → Reaches (bound_if h xs values s) → Ahead s.events
    unfolding Reaches
    bound_reaches xs values (hears v) s r = r
    bound_reaches xs values (breaks x) s r = r
    bound_reaches xs values nonsense s r = absurd r

    -- an event that stays, and what is done with its answer
    event_by : {A : Type 0} (l : Label) (n : Option ℕ) (vs : List Entry) (f f' : List Answer → State → Completion A) → ((s : State) → f [] s ≡ halt NoAnswers s) → ((s : State) → f' [] s ≡ halt NoAnswers s) → ((a : Answer) (rest : List Answer) (s : State) → Reaches (f (a ∷ rest) s) → Ahead s.events) → ((a : Answer) (rest rest' : List Answer) (s t : State) → Lean (record s { vars = news_of e.foreign s.vars a.news; answers = rest }) (record t { vars = news_of e.foreign t.vars a.news; answers = rest' }) → Follows (f (a ∷ rest) s) (f' (a ∷ rest') t)) → is_creation d l n ≡ false → (as' : List Answer) (s t : State) → s.answers ≡ as' → Lean s t → Follows (f as' (note e l n vs None s)) (f' t.answers (note e l n vs None t))
    unfolding Follows Reaches Goes
    event_by l n vs f f' z z' grows go k [] s t q h r =
        let now : (noted l n vs None s ∷ s.events) ≡ E = subst Reaches (z (note e l n vs None s)) r in
        let none_left : [] ≡ t.answers = ap (spared d (noted l n vs None s ∷ [])) (sym q) ∙ h.answers (noted l n vs None s ∷ []) now in
        subst₂ (λ x y. Go x y) (sym (z (note e l n vs None s))) (sym (z' (note e l n vs None t)) ∙ ap (λ as'. f' as' (note e l n vs None t)) none_left) (refl, ends_lean l n vs s t k q h)
    event_by l n vs f f' z z' grows go k (a ∷ rest) s t q h r =
        let to_come = grows a rest (note e l n vs None s) r in
        let same = takes l n vs a rest s t k q h to_come.coming to_come.all in
        subst (λ as'. Go (f (a ∷ rest) (note e l n vs None s)) (f' as' (note e l n vs None t))) same
        (go a rest (spared d to_come.coming rest) (note e l n vs None s) (note e l n vs None t) (next_lean l n vs a rest (spared d to_come.coming rest) s t k q (sym same) h) r)

    pub answered_lean : (l : Label) (n : Option ℕ) (vs : List Entry) (s t : State) → is_creation d l n ≡ false → Lean s t → Follows (answered e l s.answers (note e l n vs None s)) (answered e l t.answers (note e l n vs None t))
    unfolding answered
    answered_lean l n vs s t k h =
        event_by l n vs (answered e l) (answered e l) (λ s. refl) (λ s. refl) (λ a rest s. heard_reaches (hear l a.given) (record s { vars = news_of e.foreign s.vars a.news; answers = rest })) (λ a rest rest' s t g. heard_lean (hear l a.given) _ _ g) k s.answers s t refl h

    pub answered_binds_lean : (xs ys : List Variable) → ((y : Variable) → D y ≡ false → is_in y xs ≡ is_in y ys) → (n : Option ℕ) (vs : List Entry) (s t : State) → Lean s t → Follows (answered_binds e xs s.answers (note e BindOf n vs None s)) (answered_binds e ys t.answers (note e BindOf n vs None t))
    unfolding answered_binds
    answered_binds_lean xs ys same n vs s t h =
        event_by BindOf n vs (answered_binds e xs) (answered_binds e ys) (λ s. refl) (λ s. refl) (λ a rest s. bound_reaches xs a.binds (hear BindOf a.given) (record s { vars = news_of e.foreign s.vars a.news; answers = rest })) (λ a rest rest' s t g. bound_lean xs ys same a.binds (hear BindOf a.given) _ _ g) refl s.answers s t refl h

    -- the other actions

    read_lean : (v : Slot) (s t : State) → Lean s t → Follows (read_slot v s) (read_slot v t)
    unfolding read_slot Follows Reaches Goes
    read_lean (Holds v) s t g r = (refl, g)
    read_lean Missing s t g r = absurd r
    read_lean Uninitialised s t g r = absurd r

    read_global_lean : (v : Slot) (s t : State) → Lean s t → Follows (read_global e v s) (read_global e v t)
    unfolding Follows Reaches Goes
    read_global_lean (Holds v) s t g r = (refl, g)
    read_global_lean Missing s t g r = answered_lean (Raise ReferenceError) None [] s t refl g r
    read_global_lean Uninitialised s t g r = absurd r

    name_lean : (x : Variable) (v : Slot) (s t : State) → Lean s t → Follows (read_name e x v s) (read_name e x v t)
    name_lean x v s t g = name_reads (λ a b. Follows a b) e e x v v s t (read_lean v s t g) (read_global_lean v s t g)

    read_any_lean : (v : Slot) (s t : State) → Lean s t → Follows (read_any v s) (read_any v t)
    unfolding read_any Follows Reaches Goes
    read_any_lean (Holds v) s t g r = (refl, g)
    read_any_lean Missing s t g r = (refl, g)
    read_any_lean Uninitialised s t g r = absurd r

    type_lean : (x : Variable) (v : Slot) (s t : State) → Lean s t → Follows (read_type x v s) (read_type x v t)
    type_lean x v s t g = type_reads (λ a b. Follows a b) x v v s t (read_lean v s t g) (read_any_lean v s t g)

    write_lean : (x : Variable) (v : Value) (w : Slot) (s t : State) → Lean s t → Follows (write_slot x v w s) (write_slot x v w t)
    unfolding write_slot Follows Reaches Goes
    write_lean x v (Holds w) s t g r = (refl, set_lean x (Holds v) s t g)
    write_lean x v Missing s t g r = absurd r
    write_lean x v Uninitialised s t g r = absurd r

    write_global_lean : (x : Variable) (v : Value) (w : Slot) (s t : State) → Lean s t → Follows (write_global x v w s) (write_global x v w t)
    unfolding Follows Reaches Goes
    write_global_lean x v (Holds w) s t g r = (refl, set_lean x (Holds v) s t g)
    write_global_lean x v Missing s t g r = (refl, set_lean x (Holds v) s t g)
    write_global_lean x v Uninitialised s t g r = absurd r

    write_name_lean : (x : Variable) (v : Value) (w : Slot) (s t : State) → Lean s t → Follows (write_name x v w s) (write_name x v w t)
    write_name_lean x v w s t g = name_writes (λ a b. Follows a b) x v w w s t (write_lean x v w s t g) (write_global_lean x v w s t g)

    turn_lean : (n : ℕ) (s t : State) → Lean s t → Follows (take_turn n s) (take_turn n t)
    unfolding take_turn Follows Reaches Goes
    turn_lean zero s t g r = (refl, g)
    turn_lean (suc n) s t h r = (refl, record { vars = h.vars; self = h.self; turns = refl; events = h.events; good = h.good; answers = h.answers })

    this_lean : (b : Bool) (s t : State) → Lean s t → Follows (this_of e b s) (this_of e b t)
    unfolding this_of Follows Reaches Goes
    this_lean true s t g r = answered_lean ThisOf None [] s t refl g r
    this_lean false s t g r = (g.self, g)

    at_lean : {A : Type 0} (o : Option Variable) (f g : Variable → Completion A) → ((x : Variable) → o ≡ Some x → Follows (f x) (g x)) → Follows (at_variable o f) (at_variable o g)
    unfolding at_variable Follows Reaches Goes
    at_lean (Some x) f g h = h x refl
    at_lean None f g h = λ r. absurd r

    none_nth : (xs : List Variable) (i : ℕ) (x : Variable) → NoneIn D xs → nth xs i ≡ Some x → D x ≡ false
    none_nth [] i x h e = cc
    none_nth (y ∷ ys) zero x h e = let p : y ≡ x = cc in subst (λ z. D z ≡ false) p h.0
    none_nth (y ∷ ys) (suc i) x h e = none_nth ys i x h.1 e

    -- one node in both, whose number and whose functions are none of those that went
    pub record Stays (names names' : Naming) : Type 0 where
      pub alive : Alive D e names names'
      pub spared : (tag : Tag) → has_number d (number_of names tag) ≡ false

    pub hide_lean : (xs ys : List Variable) → ((x : Variable) → D x ≡ false → is_in x xs ≡ is_in x ys) → (s t : State) → Lean s t → Lean (with_vars s (hide_all xs s.vars)) (with_vars t (hide_all ys t.vars))
    hide_lean xs ys same s t g = vars_lean _ _ s t (λ y h. ap (λ w. choose (is_in y xs) Uninitialised w) (g.vars y h) ∙ ap (λ c. choose c Uninitialised (t.vars y)) (same y h)) g

    pub act_lean : (names names' : Naming) → Stays names names' → (o : Op) (s t : State) → Lean s t → Follows (act e names o s) (act e names' o t)
    unfolding act Follows Reaches Goes
    act_lean names names' nr (read i) s t g = subst (λ xs. Follows (at_variable (nth names.own i) (λ x. read_name e x (s.vars x) s)) (at_variable (nth xs i) (λ x. read_name e x (t.vars x) t))) nr.alive.own (at_lean (nth names.own i) _ _ (λ x u. subst (λ w. Follows (read_name e x (s.vars x) s) (read_name e x w t)) (g.vars x (none_nth names.own i x nr.alive.live u)) (name_lean x (s.vars x) s t g)))
    act_lean names names' nr (read_typeof i) s t g = subst (λ xs. Follows (at_variable (nth names.own i) (λ x. read_type x (s.vars x) s)) (at_variable (nth xs i) (λ x. read_type x (t.vars x) t))) nr.alive.own (at_lean (nth names.own i) _ _ (λ x u. subst (λ w. Follows (read_type x (s.vars x) s) (read_type x w t)) (g.vars x (none_nth names.own i x nr.alive.live u)) (type_lean x (s.vars x) s t g)))
    act_lean names names' nr (fixity i) s t g = subst (λ xs. Follows (at_variable (nth names.written i) (λ x. ok (e.fixed x) s)) (at_variable (nth xs i) (λ x. ok (e.fixed x) t))) nr.alive.written (at_lean (nth names.written i) _ _ (λ x u r. (refl, g)))
    act_lean names names' nr (write i v) s t g = subst (λ xs. Follows (at_variable (nth names.written i) (λ x. write_name x v (s.vars x) s)) (at_variable (nth xs i) (λ x. write_name x v (t.vars x) t))) nr.alive.written (at_lean (nth names.written i) _ _ (λ x u. subst (λ w. Follows (write_name x v (s.vars x) s) (write_name x v w t)) (g.vars x (none_nth names.written i x nr.alive.live_written u)) (write_name_lean x v (s.vars x) s t g)))
    act_lean names names' nr (init i v) s t g = subst (λ xs. Follows (at_variable (nth names.written i) (λ x. ok tt (start e true x v s))) (at_variable (nth xs i) (λ x. ok tt (start e true x v t)))) nr.alive.written (at_lean (nth names.written i) _ _ (λ x u r. (refl, start_lean true x v s t g)))
    act_lean names names' nr (init_function b i v) s t g = subst (λ fs. Follows (at_variable (function_name (nth names.functions i)) (λ x. ok tt (start e b x v s))) (at_variable (function_name (nth fs i)) (λ x. ok tt (start e b x v t)))) nr.alive.functions (at_lean (function_name (nth names.functions i)) _ _ (λ x u r. (refl, start_lean b x v s t g)))
    act_lean names names' nr hide s t g = λ r. (refl, hide_lean names.scope names'.scope nr.alive.scope s t g)
    act_lean names names' nr copy s t g = λ r. (refl, subst₂ Lean (sym (copies_only names.scope s)) (ap (λ xs. notes xs t) nr.alive.shared_scope ∙ sym (copies_only names'.scope t)) (notes_lean (only e.shared names.scope) s t g))
    act_lean names names' nr (event l tag vs) s t g =
        subst (λ n. Follows (answered e l s.answers (note e l (number_of names tag) vs None s)) (answered e l t.answers (note e l n vs None t))) (numbers tag)
        (answered_lean l (number_of names tag) vs s t (tag_spared d l (number_of names tag) (nr.spared tag)) g)
      where
        numbers : (tag : Tag) → number_of names tag ≡ number_of names' tag
        numbers NoTag = refl
        numbers Mine = ap Some nr.alive.number
        numbers (OfFunction i) = ap (λ fs. function_number (nth fs i)) nr.alive.functions
    act_lean names names' nr (bind_names v) s t g =
        subst (λ n. Follows (answered_binds e names.bound s.answers (note e BindOf (Some names.number) (Item v ∷ []) None s)) (answered_binds e names'.bound t.answers (note e BindOf (Some n) (Item v ∷ []) None t))) nr.alive.number
        (answered_binds_lean names.bound names'.bound nr.alive.bound (Some names.number) (Item v ∷ []) s t g)
    act_lean names names' nr self s t g = this_lean e.asks_this s t g
    act_lean names names' nr turn s t g = subst (λ n. Follows (take_turn s.turns s) (take_turn n t)) g.turns (turn_lean s.turns s t g)
    act_lean names names' nr fuel s t g = λ r. (g.turns, g)

    -- what has a part of the run before its end

    at_reaches : {A : Type 0} (P : Type 0) (o : Option Variable) (f : Variable → Completion A) → ((x : Variable) → Reaches (f x) → P) → Reaches (at_variable o f) → P
    unfolding at_variable Reaches
    at_reaches P (Some x) f h r = h x r
    at_reaches P None f h r = absurd r

    fresh_ahead : (x : Variable) (b : Bool) (s : State) → Ahead (choose b (note e FreshOf None [] (Some x) s) s).events → Ahead s.events
    fresh_ahead x true s r = ahead_less (noted FreshOf None [] (Some x) s) s.events r
    fresh_ahead x false s r = r

    start_ahead : (b : Bool) (x : Variable) (v : Value) (s : State) → Ahead (start e b x v s).events → Ahead s.events
    start_ahead true x v s r = fresh_ahead x (e.shared x) s r
    start_ahead false x v s r = r

    copies_ahead : (xs : List Variable) (s : State) → Ahead (copies e xs s).events → Ahead s.events
    copies_ahead [] s r = r
    copies_ahead (x ∷ xs) s r = fresh_ahead x (e.shared x) s (copies_ahead xs (fresh_note e x s) r)

    answered_reaches : (l : Label) (n : Option ℕ) (vs : List Entry) (as' : List Answer) (s : State) → Reaches (answered e l as' (note e l n vs None s)) → Ahead s.events
    unfolding answered Reaches
    answered_reaches l n vs [] s r = ahead_less (noted l n vs None s) s.events (ahead_now (noted l n vs None s ∷ s.events) r)
    answered_reaches l n vs (a ∷ rest) s r = ahead_less (noted l n vs None s) s.events (heard_reaches (hear l a.given) (record (note e l n vs None s) { vars = news_of e.foreign s.vars a.news; answers = rest }) r)

    answered_binds_reaches : (xs : List Variable) (n : Option ℕ) (vs : List Entry) (as' : List Answer) (s : State) → Reaches (answered_binds e xs as' (note e BindOf n vs None s)) → Ahead s.events
    unfolding answered_binds Reaches
    answered_binds_reaches xs n vs [] s r = ahead_less (noted BindOf n vs None s) s.events (ahead_now (noted BindOf n vs None s ∷ s.events) r)
    answered_binds_reaches xs n vs (a ∷ rest) s r = ahead_less (noted BindOf n vs None s) s.events (bound_reaches xs a.binds (hear BindOf a.given) (record (note e BindOf n vs None s) { vars = news_of e.foreign s.vars a.news; answers = rest }) r)

    read_reaches : (v : Slot) (s : State) → Reaches (read_slot v s) → Ahead s.events
    unfolding read_slot Reaches
    read_reaches (Holds v) s r = r
    read_reaches Missing s r = absurd r
    read_reaches Uninitialised s r = absurd r

    read_global_reaches : (v : Slot) (s : State) → Reaches (read_global e v s) → Ahead s.events
    unfolding Reaches
    read_global_reaches (Holds v) s r = r
    read_global_reaches Missing s r = answered_reaches (Raise ReferenceError) None [] s.answers s r
    read_global_reaches Uninitialised s r = absurd r

    name_reaches : (x : Variable) (v : Slot) (s : State) → Reaches (read_name e x v s) → Ahead s.events
    name_reaches (Declared n) v s r = read_reaches v s r
    name_reaches (Global y) v s r = read_global_reaches v s r

    type_reaches : (x : Variable) (v : Slot) (s : State) → Reaches (read_type x v s) → Ahead s.events
    unfolding read_slot read_any Reaches
    type_reaches (Declared n) (Holds v) s r = r
    type_reaches (Declared n) Missing s r = absurd r
    type_reaches (Declared n) Uninitialised s r = absurd r
    type_reaches (Global y) (Holds v) s r = r
    type_reaches (Global y) Missing s r = r
    type_reaches (Global y) Uninitialised s r = absurd r

    write_reaches : (x : Variable) (v : Value) (w : Slot) (s : State) → Reaches (write_slot x v w s) → Ahead s.events
    unfolding write_slot Reaches
    write_reaches x v (Holds w) s r = r
    write_reaches x v Missing s r = absurd r
    write_reaches x v Uninitialised s r = absurd r

    write_name_reaches : (x : Variable) (v : Value) (w : Slot) (s : State) → Reaches (write_name x v w s) → Ahead s.events
    unfolding Reaches
    write_name_reaches (Declared n) v w s r = write_reaches (Declared n) v w s r
    write_name_reaches (Global y) v (Holds w) s r = r
    write_name_reaches (Global y) v Missing s r = r
    write_name_reaches (Global y) v Uninitialised s r = absurd r

    this_reaches : (b : Bool) (s : State) → Reaches (this_of e b s) → Ahead s.events
    unfolding this_of Reaches
    this_reaches true s r = answered_reaches ThisOf None [] s.answers s r
    this_reaches false s r = r

    turn_reaches : (n : ℕ) (s : State) → Reaches (take_turn n s) → Ahead s.events
    unfolding take_turn Reaches
    turn_reaches zero s r = ahead_now s.events r
    turn_reaches (suc n) s r = r

    pub act_reaches : (names : Naming) (o : Op) (s : State) → Reaches (act e names o s) → Ahead s.events
    unfolding act Reaches
    act_reaches names (read i) s r = at_reaches (Ahead s.events) (nth names.own i) _ (λ x. name_reaches x (s.vars x) s) r
    act_reaches names (read_typeof i) s r = at_reaches (Ahead s.events) (nth names.own i) _ (λ x. type_reaches x (s.vars x) s) r
    act_reaches names (fixity i) s r = at_reaches (Ahead s.events) (nth names.written i) (λ x. ok (e.fixed x) s) (λ x r. r) r
    act_reaches names (write i v) s r = at_reaches (Ahead s.events) (nth names.written i) _ (λ x. write_name_reaches x v (s.vars x) s) r
    act_reaches names (init i v) s r = at_reaches (Ahead s.events) (nth names.written i) (λ x. ok tt (start e true x v s)) (λ x. start_ahead true x v s) r
    act_reaches names (init_function b i v) s r = at_reaches (Ahead s.events) (function_name (nth names.functions i)) (λ x. ok tt (start e b x v s)) (λ x. start_ahead b x v s) r
    act_reaches names hide s r = r
    act_reaches names copy s r = copies_ahead names.scope s r
    act_reaches names (event l tag vs) s r = answered_reaches l (number_of names tag) vs s.answers s r
    act_reaches names (bind_names v) s r = answered_binds_reaches names.bound (Some names.number) (Item v ∷ []) s.answers s r
    act_reaches names self s r = this_reaches e.asks_this s r
    act_reaches names turn s r = turn_reaches s.turns s r
    act_reaches names fuel s r = r

    unfoldable pub Grows : (q : ℕ → Demand) → Kids q → Type 0
    Grows q K = (i : ℕ) (r : Request (q i)) (s : State) → Reaches (K i r s) → Ahead s.events

    pub run_reaches : {q : ℕ → Demand} {A : Type 0} (names : Naming) (K : Kids q) → Grows q K → (c : Command q A) (s : State) → Reaches (run e names K c s) → Ahead s.events
    unfolding Reaches Grows
    run_reaches names K g (ret a) s r = r
    run_reaches names K g (fails x) s r = r
    run_reaches names K g stuck s r = absurd r
    run_reaches names K g (op o k) s r = act_reaches names o s (reaches_either (act e names o s) _ _ (λ a z. run_reaches names K g (k (done a)) z) (λ x z. run_reaches names K g (k (ended x)) z) r)
    run_reaches names K g (kid i q k) s r = g i q s (reaches_either (K i q s) _ _ (λ a z. run_reaches names K g (k (done a)) z) (λ x z. run_reaches names K g (k (ended x)) z) r)

    mutual
      unfolding Reaches means meaning Grows

      pub means_reaches : (n : Tree) (q : Demand) (r : Request q) (s : State) → Reaches (means e n q r s) → Ahead s.events
      means_reaches (node h xs n ts) q r s p =
          run_reaches {q = demand h (facts ts) q} (naming h q (variables xs) n (summaries ts)) (λ i r' s'. meaning e ts i (demand h (facts ts) q i) r' s') (λ i r' s'. meaning_reaches ts i (demand h (facts ts) q i) r' s') (step h (kinds xs) (facts ts) q r) s p

      pub meaning_reaches : (ts : Trees) (i : ℕ) (q : Demand) (r : Request q) (s : State) → Reaches (meaning e ts i q r s) → Ahead s.events
      meaning_reaches none i q r s p = absurd p
      meaning_reaches (t ▸ ts) zero q r s p = means_reaches t q r s p
      meaning_reaches (t ▸ ts) (suc i) q r s p = meaning_reaches ts i q r s p

    -- one command over two namings, two families of children and two states
    pub run_lean : {q : ℕ → Demand} {A : Type 0} (names names' : Naming) → Stays names names' → (K K' : Kids q) → Grows q K → ((i : ℕ) (r : Request (q i)) (s t : State) → Lean s t → Follows (K i r s) (K' i r t)) → (c : Command q A) (s t : State) → Lean s t → Follows (run e names K c s) (run e names' K' c t)
    unfolding Follows Reaches Goes
    run_lean names names' nr K K' g kids (ret a) s t h = λ r. (refl, h)
    run_lean names names' nr K K' g kids (fails x) s t h = λ r. (refl, h)
    run_lean names names' nr K K' g kids stuck s t h = λ r. absurd r
    run_lean names names' nr K K' g kids (op o k) s t h =
        follows_either (act e names o s) (act e names' o t) _ _ _ _ (act_lean names names' nr o s t h) (λ a z. run_reaches names K g (k (done a)) z) (λ x z. run_reaches names K g (k (ended x)) z) (λ a s t h. run_lean names names' nr K K' g kids (k (done a)) s t h) (λ x s t h. run_lean names names' nr K K' g kids (k (ended x)) s t h)
    run_lean names names' nr K K' g kids (kid i r k) s t h =
        follows_either (K i r s) (K' i r t) _ _ _ _ (kids i r s t h) (λ a z. run_reaches names K g (k (done a)) z) (λ x z. run_reaches names K g (k (ended x)) z) (λ a s t h. run_lean names names' nr K K' g kids (k (done a)) s t h) (λ x s t h. run_lean names names' nr K K' g kids (k (ended x)) s t h)

    -- What the first does alone

    -- it replies, and the second state is as good as before
    unfoldable pub Silent : {A : Type 0} → Completion A → State → Type 0
    Silent (ok a s) t = Lean s t
    Silent (stop x s) t = ⊥
    Silent (halt x s) t = ⊥
    Silent out t = Unit {0}

    unfoldable pub Silently : {A : Type 0} → Completion A → State → Type 0
    Silently x t = Reaches x → Silent x t

    pub silently_follows : {A B : Type 0} (x : Completion B) (t : State) (f : B → State → Completion A) (h : Stop → State → Completion A) (y : Completion A) → Silently x t → ((b : B) (s : State) → Reaches (f b s) → Ahead s.events) → ((e : Stop) (s : State) → Reaches (h e s) → Ahead s.events) → ((b : B) (s : State) → Lean s t → Follows (f b s) y) → Follows (either x f h) y
    unfolding Silent Silently Follows Reaches either
    silently_follows (ok b s) t f h y w p q u r = u b s (w (p b s r)) r
    silently_follows (stop x s) t f h y w p q u r = absurd (w (q x s r))
    silently_follows (halt x s) t f h y w p q u r = absurd (w r)
    silently_follows out t f h y w p q u r = absurd r

    pub silently_either : {A B : Type 0} (x : Completion B) (t : State) (f : B → State → Completion A) (h : Stop → State → Completion A) → Silently x t → ((b : B) (s : State) → Reaches (f b s) → Ahead s.events) → ((e : Stop) (s : State) → Reaches (h e s) → Ahead s.events) → ((b : B) (s : State) → Lean s t → Silently (f b s) t) → Silently (either x f h) t
    unfolding Silent Silently Reaches either
    silently_either (ok b s) t f h w p q u r = u b s (w (p b s r)) r
    silently_either (stop x s) t f h w p q u r = absurd (w (q x s r))
    silently_either (halt x s) t f h w p q u r = absurd (w r)
    silently_either out t f h w p q u r = absurd r

    only_reaches : (v : Value) (s : State) (t : State) → Lean s t → Silently (heard (only_object v) s) t
    unfolding Silent Silently Reaches heard
    only_reaches v s t h = at (is_object v)
      where
        at : (b : Bool) → Silently (heard (choose b (hears v) nonsense) s) t
        at true r = h
        at false r = absurd r

    -- the creation of one that went
    pub creation_silent : (n : ℕ) → d n ≡ true → (as' : List Answer) (s t : State) → s.answers ≡ as' → Lean s t → Silently (answered e Create as' (note e Create (Some n) [] None s)) t
    unfolding Silent Silently Reaches answered
    creation_silent n k [] s t q h r = absurd (true≢false (sym k ∙ (subst (AnsweredQuietly d (noted Create (Some n) [] None s ∷ [])) q (h.good (noted Create (Some n) [] None s ∷ []) r)).0))
    creation_silent n k (a ∷ rest) s t q h r = go a.given refl r
      where
        v : Event
        v = noted Create (Some n) [] None s

        after : State
        after = record (note e Create (Some n) [] None s) { vars = news_of e.foreign s.vars a.news; answers = rest }

        rests : (fs : List Event) → onto fs (v ∷ s.events) ≡ E → (creates d v ≡ true → Quiet a) × AnsweredQuietly d fs rest
        rests fs p = good_rest v a rest fs refl (subst (AnsweredQuietly d (v ∷ fs)) q (h.good (v ∷ fs) p))

        same : (fs : List Event) → onto fs (v ∷ s.events) ≡ E → news_of e.foreign s.vars a.news ≡ s.vars
        same fs p = fun_ext (λ x. ap (λ o. choose (e.foreign x) (refresh (s.vars x) o) (s.vars x)) (((rests fs p).0 k).unchanged x) ∙ unchanged (e.foreign x) (s.vars x))
          where
            unchanged : (b : Bool) (w : Slot) → choose b (refresh w None) w ≡ w
            unchanged true (Holds w) = refl
            unchanged true Missing = refl
            unchanged true Uninitialised = refl
            unchanged false w = refl

        lean : (fs : List Event) → onto fs (v ∷ s.events) ≡ E → Lean after t
        lean fs p = record {
          vars = λ x z. ap (λ f. f x) (same fs p) ∙ h.vars x z;
          self = h.self;
          turns = h.turns;
          events = ap (λ b. choose b (without d s.events) (v ∷ without d s.events)) k ∙ h.events;
          good = λ fs p. (rests fs p).1;
          answers = λ fs p. sym (ap (λ b. choose b (spared d fs rest) (a ∷ spared d fs rest)) k) ∙ sym (spared_rest v a rest fs refl) ∙ ap (spared d (v ∷ fs)) (sym q) ∙ h.answers (v ∷ fs) p;
        }

        go : (g : Given) → a.given ≡ g → Reaches (heard (hear Create g) after) → Silent (heard (hear Create g) after) t
        go (Normal w) p r = let to = heard_reaches (hear Create (Normal w)) after r in only_reaches w after t (lean to.coming to.all) r
        go g p r = let to = heard_reaches (hear Create g) after r in absurd (subst IsNormal p ((rests to.coming to.all).0 k).normal)

-- A variable that no node writes, and that has no value, gets none: no answer gives it one.
use Rattle.std.proofs.Common.{◌≡◌, ℕ, zero, suc, Bool, true, false, List, [], ◌∷◌, Option, Some, None, refl, ap, ◌∙◌, subst, subst₂, true≢false}
use Rattle.mini_model.specs.Tree.{Tree}
use Rattle.mini_laws.specs.Value.{Variable, Value, Slot, Holds, Missing, Uninitialised, choose, is_in, nth, variable_eq, nothing}
use Rattle.mini_laws.specs.State.{Label, ReferenceError, Raise, BindOf, ThisOf, Item, Answer, State, Completion, ok, stop, halt, out, Environment, refresh, news_of}
use Rattle.mini_laws.specs.Demand.{Demand, Request}
use Rattle.mini_laws.specs.Command.{Hoisted, Naming, Op, read, read_typeof, fixity, write, init, init_function, hide, copy, event, bind_names, self, turn, fuel, act, set_var, hear, Heard, hears, breaks, nonsense, heard, answered, bound_if, answered_binds, number_of, function_name, note, fresh_note, start, copies, read_slot, read_global, read_name, read_any, read_type, write_slot, write_global, write_name, this_of, take_turn}
use Rattle.mini_laws.specs.Naming.{function_names, named_in}
use Rattle.mini_laws.specs.Step.{means}
use Rattle.mini_laws.specs.Same.{Goes}
use Rattle.mini_laws.specs.Skeleton.{Rules, Sound}
use Rattle.mini_laws.specs.Steady.{SparedBy, Spares, AllSpare, KeepsSlot}
use Rattle.mini_laws.proofs.Simulation.{mem_front, mem_back}
use Rattle.mini_laws.proofs.Dead.{at_goes, self_goes}
use Rattle.mini_laws.proofs.Congruent.{plain_goes}
use Rattle.mini_laws.proofs.Runs.{name_reads, name_writes, type_reads}

first_differs : (b c : Bool) → choose b true c ≡ false → b ≡ false
first_differs true c h = h
first_differs false c h = refl

others_differ : (b c : Bool) → choose b true c ≡ false → c ≡ false
others_differ true c h = absurd (true≢false h)
others_differ false c h = h

pub in_nth : (xs : List Variable) (i : ℕ) (x y : Variable) → nth xs i ≡ Some y → is_in x xs ≡ false → variable_eq y x ≡ false
in_nth [] i x y e h = cc
in_nth (z ∷ zs) zero x y e h = let p : z ≡ y = cc in subst (λ w. variable_eq w x ≡ false) p (first_differs (variable_eq z x) (is_in x zs) h)
in_nth (z ∷ zs) (suc i) x y e h = in_nth zs i x y e (others_differ (variable_eq z x) (is_in x zs) h)

named_differs : (o : Option Variable) (x y : Variable) → o ≡ Some y → is_in x (named_in o) ≡ false → variable_eq y x ≡ false
named_differs (Some z) x y e h = let p : z ≡ y = cc in subst (λ w. variable_eq w x ≡ false) p (first_differs (variable_eq z x) false h)
named_differs None x y e h = cc

in_functions : (fs : List Hoisted) (i : ℕ) (x y : Variable) → function_name (nth fs i) ≡ Some y → is_in x (function_names fs) ≡ false → variable_eq y x ≡ false
in_functions [] i x y e h = cc
in_functions (f ∷ fs) zero x y e h = named_differs f.name x y e (mem_front x (named_in f.name) (function_names fs) h)
in_functions (f ∷ fs) (suc i) x y e h = in_functions fs i x y e (mem_back x (named_in f.name) (function_names fs) h)

no_value : (c : Bool) (o : Option Value) → choose c (refresh Uninitialised o) Uninitialised ≡ Uninitialised
no_value true o = refl
no_value false o = refl

module _ (e : Environment) (x : Variable) where
  abbrev v : Slot
  v = Uninitialised

  -- one state, in which the variable has this
  pub record Stays (s t : State) : Type 0 where
    pub same : s ≡ t
    pub has : s.vars x ≡ v

  unfoldable pub unfilled_rules : Rules
  unfilled_rules = record { weak = false; left = e; right = e; A = Stays; N = λ names names'. (names ≡ names') × SparedBy x names }

  abbrev Alone : {A : Type 0} → Completion A → Type 0
  Alone y = Goes false (λ a. Stays) Stays Stays y y

  pub itself : (s : State) → s.vars x ≡ v → Stays s s
  itself s h = record { same = refl; has = h }

  has_choose : (b : Bool) (s t : State) → s.vars x ≡ v → t.vars x ≡ v → (choose b s t).vars x ≡ v
  has_choose true s t g h = g
  has_choose false s t g h = h

  has_fresh : (y : Variable) (s : State) → s.vars x ≡ v → (fresh_note e y s).vars x ≡ v
  has_fresh y s h = has_choose (e.shared y) _ s h h

  has_set : (y : Variable) (w : Slot) (s : State) → variable_eq y x ≡ false → s.vars x ≡ v → set_var s.vars y w x ≡ v
  has_set y w s n h = ap (λ c. choose c w (s.vars x)) n ∙ h

  has_start : (b : Bool) (y : Variable) (w : Value) (s : State) → variable_eq y x ≡ false → s.vars x ≡ v → (start e b y w s).vars x ≡ v
  has_start b y w s n h = has_set y (Holds w) (choose b (fresh_note e y s) s) n (has_choose b _ s (has_fresh y s h) h)

  has_copies : (ys : List Variable) (s : State) → s.vars x ≡ v → (copies e ys s).vars x ≡ v
  has_copies [] s h = h
  has_copies (y ∷ ys) s h = has_copies ys (fresh_note e y s) (has_fresh y s h)

  has_news : (new : Variable → Option Value) (vars : Variable → Slot) → vars x ≡ v → news_of e.foreign vars new x ≡ v
  has_news new vars h = ap (λ w. choose (e.foreign x) (refresh w (new x)) w) h ∙ no_value (e.foreign x) (new x)

  has_heard : {A : Type 0} (k : Heard A) (s : State) → s.vars x ≡ v → Alone (heard k s)
  unfolding heard Goes
  has_heard (hears a) s h = (refl, itself s h)
  has_heard (breaks y) s h = (refl, itself s h)
  has_heard nonsense s h = tt

  has_answered : (l : Label) (as' : List Answer) (s : State) → s.vars x ≡ v → Alone (answered e l as' s)
  unfolding answered Goes
  has_answered l [] s h = (refl, itself s h)
  has_answered l (a ∷ rest) s h = has_heard (hear l a.given) _ (has_news a.news s.vars h)

  has_bound : (xs : List Variable) (values : Variable → Value) (k : Heard Value) (s : State) → is_in x xs ≡ false → s.vars x ≡ v → Alone (bound_if k xs values s)
  unfolding Goes
  has_bound xs values (hears w) s n h = (refl, itself _ (ap (λ c. choose c (Holds (values x)) (s.vars x)) n ∙ h))
  has_bound xs values (breaks y) s n h = (refl, itself s h)
  has_bound xs values nonsense s n h = tt

  has_answered_binds : (xs : List Variable) (as' : List Answer) (s : State) → is_in x xs ≡ false → s.vars x ≡ v → Alone (answered_binds e xs as' s)
  unfolding answered_binds Goes
  has_answered_binds xs [] s n h = (refl, itself s h)
  has_answered_binds xs (a ∷ rest) s n h = has_bound xs a.binds (hear BindOf a.given) _ n (has_news a.news s.vars h)

  has_read : (w : Slot) (s : State) → s.vars x ≡ v → Alone (read_slot w s)
  unfolding read_slot Goes
  has_read (Holds w) s h = (refl, itself s h)
  has_read Missing s h = tt
  has_read Uninitialised s h = tt

  has_read_global : (w : Slot) (s : State) → s.vars x ≡ v → Alone (read_global e w s)
  unfolding Goes
  has_read_global (Holds w) s h = (refl, itself s h)
  has_read_global Missing s h = has_answered (Raise ReferenceError) s.answers (note e (Raise ReferenceError) None [] None s) h
  has_read_global Uninitialised s h = tt

  has_read_name : (y : Variable) (w : Slot) (s : State) → s.vars x ≡ v → Alone (read_name e y w s)
  has_read_name y w s h = name_reads (λ a b. Alone a) e e y w w s s (has_read w s h) (has_read_global w s h)

  has_read_any : (w : Slot) (s : State) → s.vars x ≡ v → Alone (read_any w s)
  unfolding read_any Goes
  has_read_any (Holds w) s h = (refl, itself s h)
  has_read_any Missing s h = (refl, itself s h)
  has_read_any Uninitialised s h = tt

  has_read_type : (y : Variable) (w : Slot) (s : State) → s.vars x ≡ v → Alone (read_type y w s)
  has_read_type y w s h = type_reads (λ a b. Alone a) y w w s s (has_read w s h) (has_read_any w s h)

  has_write : (y : Variable) (w : Value) (o : Slot) (s : State) → variable_eq y x ≡ false → s.vars x ≡ v → Alone (write_slot y w o s)
  unfolding write_slot Goes
  has_write y w (Holds u) s n h = (refl, itself _ (has_set y (Holds w) s n h))
  has_write y w Missing s n h = tt
  has_write y w Uninitialised s n h = tt

  has_write_global : (y : Variable) (w : Value) (o : Slot) (s : State) → variable_eq y x ≡ false → s.vars x ≡ v → Alone (write_global y w o s)
  unfolding Goes
  has_write_global y w (Holds u) s n h = (refl, itself _ (has_set y (Holds w) s n h))
  has_write_global y w Missing s n h = (refl, itself _ (has_set y (Holds w) s n h))
  has_write_global y w Uninitialised s n h = tt

  has_write_name : (y : Variable) (w : Value) (o : Slot) (s : State) → variable_eq y x ≡ false → s.vars x ≡ v → Alone (write_name y w o s)
  has_write_name y w o s n h = name_writes (λ a b. Alone a) y w o o s s (has_write y w o s n h) (has_write_global y w o s n h)

  has_this : (b : Bool) (s : State) → s.vars x ≡ v → Alone (this_of e b s)
  unfolding this_of Goes
  has_this true s h = has_answered ThisOf s.answers (note e ThisOf None [] None s) h
  has_this false s h = (refl, itself s h)

  has_turn : (n : ℕ) (s : State) → s.vars x ≡ v → Alone (take_turn n s)
  unfolding take_turn Goes
  has_turn zero s h = (refl, itself s h)
  has_turn (suc n) s h = (refl, itself _ h)

  pub unfilled_sound : Sound unfilled_rules
  unfolding act Goes unfilled_rules
  unfilled_sound = record { acts = λ names names' nr o s t h. subst₂ (λ m t. Goes false (λ a. Stays) Stays Stays (act e names o s) (act e m o t)) nr.0 h.same (go names nr.1 o s h.has) }
    where
      go : (names : Naming) → SparedBy x names → (o : Op) (s : State) → s.vars x ≡ v → Alone (act e names o s)
      go names sp (read i) s h = at_goes false Stays (nth names.own i) _ _ (λ y u. has_read_name y (s.vars y) s h)
      go names sp (read_typeof i) s h = at_goes false Stays (nth names.own i) _ _ (λ y u. has_read_type y (s.vars y) s h)
      go names sp (fixity i) s h = at_goes false Stays (nth names.written i) _ _ (λ y u. (refl, itself s h))
      go names sp (write i w) s h = at_goes false Stays (nth names.written i) _ _ (λ y u. has_write_name y w (s.vars y) s (in_nth names.written i x y u sp.written) h)
      go names sp (init i w) s h = at_goes false Stays (nth names.written i) _ _ (λ y u. (refl, itself _ (has_start true y w s (in_nth names.written i x y u sp.written) h)))
      go names sp (init_function b i w) s h = at_goes false Stays (function_name (nth names.functions i)) _ _ (λ y u. (refl, itself _ (has_start b y w s (in_functions names.functions i x y u sp.functions) h)))
      go names sp hide s h = (refl, itself _ (ap (λ c. choose c Uninitialised (s.vars x)) sp.scope ∙ h))
      go names sp copy s h = (refl, itself _ (has_copies names.scope s h))
      go names sp (event l tag vs) s h = has_answered l s.answers (note e l (number_of names tag) vs None s) h
      go names sp (bind_names w) s h = has_answered_binds names.bound s.answers (note e BindOf (Some names.number) (Item w ∷ []) None s) sp.bound h
      go names sp self s h = has_this e.asks_this s h
      go names sp turn s h = has_turn s.turns s h
      go names sp fuel s h = (refl, itself s h)

  keeps_slot : {A : Type 0} (y z : Completion A) → Goes false (λ a. Stays) Stays Stays y z → KeepsSlot x v y
  unfolding Goes
  keeps_slot (ok a s) (ok b t) g = g.1.has
  keeps_slot (stop a s) (stop b t) g = g.1.has
  keeps_slot (halt a s) (halt b t) g = g.1.has
  keeps_slot out z g = tt
  keeps_slot y z g = absurd g

  pub unfilled_goes : (n : Tree) (q : Demand) → Spares x q n → (r : Request q) (s : State) → s.vars x ≡ v → KeepsSlot x v (means e n q r s)
  unfolding unfilled_rules
  unfilled_goes n q sp r s h =
      keeps_slot _ _ (plain_goes unfilled_rules q n n (self_goes unfilled_rules unfilled_sound (Spares x) (AllSpare x) (λ h q xs n ts a. (refl, a.0)) (λ h q xs n ts a. a.1) (λ σ t ts a. a.0) (λ σ t ts a. a.1) n nothing q sp) r s s (itself s h))

-- No node of a tree changes `this`.
use Rattle.std.proofs.Common.{◌≡◌, ℕ, zero, suc, Bool, true, false, List, [], ◌∷◌, Some, None, refl, subst₂}
use Rattle.mini_model.specs.Tree.{Tree}
use Rattle.mini_laws.specs.Value.{Variable, Value, Slot, Holds, Missing, Uninitialised, choose, nth, nothing}
use Rattle.mini_laws.specs.State.{Label, ReferenceError, Raise, BindOf, ThisOf, Item, Answer, State, Completion, ok, stop, halt, out, Environment}
use Rattle.mini_laws.specs.Demand.{Demand, Request}
use Rattle.mini_laws.specs.Command.{Naming, Op, read, read_typeof, fixity, write, init, init_function, hide, copy, event, bind_names, self, turn, fuel, act, hear, Heard, hears, breaks, nonsense, heard, answered, bound_if, answered_binds, number_of, function_name, note, fresh_note, start, copies, read_slot, read_global, read_name, read_any, read_type, write_slot, write_global, write_name, this_of, take_turn}
use Rattle.mini_laws.specs.Step.{means}
use Rattle.mini_laws.specs.Same.{Goes}
use Rattle.mini_laws.specs.Skeleton.{Rules, Sound}
use Rattle.mini_laws.proofs.Dead.{at_goes, self_goes}
use Rattle.mini_laws.proofs.Congruent.{plain_goes}
use Rattle.mini_laws.proofs.Runs.{name_reads, name_writes, type_reads}

abbrev pub KeepsThis : {A : Type 0} → Value → Completion A → Type 0
KeepsThis v (ok a s) = s.self ≡ v
KeepsThis v (stop e s) = s.self ≡ v
KeepsThis v (halt e s) = s.self ≡ v
KeepsThis v out = Unit {0}

module _ (e : Environment) (v : Value) where
  -- one state, of which this is the `this`
  pub record Stays (s t : State) : Type 0 where
    pub same : s ≡ t
    pub has : s.self ≡ v

  unfoldable pub this_rules : Rules
  this_rules = record { weak = false; left = e; right = e; A = Stays; N = λ names names'. names ≡ names' }

  abbrev Alone : {A : Type 0} → Completion A → Type 0
  Alone y = Goes false (λ a. Stays) Stays Stays y y

  pub itself : (s : State) → s.self ≡ v → Stays s s
  itself s h = record { same = refl; has = h }

  has_choose : (b : Bool) (s t : State) → s.self ≡ v → t.self ≡ v → (choose b s t).self ≡ v
  has_choose true s t g h = g
  has_choose false s t g h = h

  has_fresh : (y : Variable) (s : State) → s.self ≡ v → (fresh_note e y s).self ≡ v
  has_fresh y s h = has_choose (e.shared y) _ s h h

  has_start : (b : Bool) (y : Variable) (w : Value) (s : State) → s.self ≡ v → (start e b y w s).self ≡ v
  has_start b y w s h = has_choose b (fresh_note e y s) s (has_fresh y s h) h

  has_copies : (ys : List Variable) (s : State) → s.self ≡ v → (copies e ys s).self ≡ v
  has_copies [] s h = h
  has_copies (y ∷ ys) s h = has_copies ys (fresh_note e y s) (has_fresh y s h)

  has_heard : {A : Type 0} (k : Heard A) (s : State) → s.self ≡ v → Alone (heard k s)
  unfolding heard Goes
  has_heard (hears a) s h = (refl, itself s h)
  has_heard (breaks y) s h = (refl, itself s h)
  has_heard nonsense s h = tt

  has_answered : (l : Label) (as' : List Answer) (s : State) → s.self ≡ v → Alone (answered e l as' s)
  unfolding answered Goes
  has_answered l [] s h = (refl, itself s h)
  has_answered l (a ∷ rest) s h = has_heard (hear l a.given) _ h

  has_bound : (xs : List Variable) (values : Variable → Value) (k : Heard Value) (s : State) → s.self ≡ v → Alone (bound_if k xs values s)
  unfolding Goes
  has_bound xs values (hears w) s h = (refl, itself _ h)
  has_bound xs values (breaks y) s h = (refl, itself s h)
  has_bound xs values nonsense s h = tt

  has_answered_binds : (xs : List Variable) (as' : List Answer) (s : State) → s.self ≡ v → Alone (answered_binds e xs as' s)
  unfolding answered_binds Goes
  has_answered_binds xs [] s h = (refl, itself s h)
  has_answered_binds xs (a ∷ rest) s h = has_bound xs a.binds (hear BindOf a.given) _ h

  has_read : (w : Slot) (s : State) → s.self ≡ v → Alone (read_slot w s)
  unfolding read_slot Goes
  has_read (Holds w) s h = (refl, itself s h)
  has_read Missing s h = tt
  has_read Uninitialised s h = tt

  has_read_global : (w : Slot) (s : State) → s.self ≡ v → Alone (read_global e w s)
  unfolding Goes
  has_read_global (Holds w) s h = (refl, itself s h)
  has_read_global Missing s h = has_answered (Raise ReferenceError) s.answers (note e (Raise ReferenceError) None [] None s) h
  has_read_global Uninitialised s h = tt

  has_read_name : (y : Variable) (w : Slot) (s : State) → s.self ≡ v → Alone (read_name e y w s)
  has_read_name y w s h = name_reads (λ a b. Alone a) e e y w w s s (has_read w s h) (has_read_global w s h)

  has_read_any : (w : Slot) (s : State) → s.self ≡ v → Alone (read_any w s)
  unfolding read_any Goes
  has_read_any (Holds w) s h = (refl, itself s h)
  has_read_any Missing s h = (refl, itself s h)
  has_read_any Uninitialised s h = tt

  has_read_type : (y : Variable) (w : Slot) (s : State) → s.self ≡ v → Alone (read_type y w s)
  has_read_type y w s h = type_reads (λ a b. Alone a) y w w s s (has_read w s h) (has_read_any w s h)

  has_write : (y : Variable) (w : Value) (o : Slot) (s : State) → s.self ≡ v → Alone (write_slot y w o s)
  unfolding write_slot Goes
  has_write y w (Holds u) s h = (refl, itself _ h)
  has_write y w Missing s h = tt
  has_write y w Uninitialised s h = tt

  has_write_global : (y : Variable) (w : Value) (o : Slot) (s : State) → s.self ≡ v → Alone (write_global y w o s)
  unfolding Goes
  has_write_global y w (Holds u) s h = (refl, itself _ h)
  has_write_global y w Missing s h = (refl, itself _ h)
  has_write_global y w Uninitialised s h = tt

  has_write_name : (y : Variable) (w : Value) (o : Slot) (s : State) → s.self ≡ v → Alone (write_name y w o s)
  has_write_name y w o s h = name_writes (λ a b. Alone a) y w o o s s (has_write y w o s h) (has_write_global y w o s h)

  has_this : (b : Bool) (s : State) → s.self ≡ v → Alone (this_of e b s)
  unfolding this_of Goes
  has_this true s h = has_answered ThisOf s.answers (note e ThisOf None [] None s) h
  has_this false s h = (refl, itself s h)

  has_turn : (n : ℕ) (s : State) → s.self ≡ v → Alone (take_turn n s)
  unfolding take_turn Goes
  has_turn zero s h = (refl, itself s h)
  has_turn (suc n) s h = (refl, itself _ h)

  this_sound : Sound this_rules
  unfolding act Goes this_rules
  this_sound = record { acts = λ names names' nr o s t h. subst₂ (λ m t. Goes false (λ a. Stays) Stays Stays (act e names o s) (act e m o t)) nr h.same (go names o s h.has) }
    where
      go : (names : Naming) (o : Op) (s : State) → s.self ≡ v → Alone (act e names o s)
      go names (read i) s h = at_goes false Stays (nth names.own i) _ _ (λ y u. has_read_name y (s.vars y) s h)
      go names (read_typeof i) s h = at_goes false Stays (nth names.own i) _ _ (λ y u. has_read_type y (s.vars y) s h)
      go names (fixity i) s h = at_goes false Stays (nth names.written i) _ _ (λ y u. (refl, itself s h))
      go names (write i w) s h = at_goes false Stays (nth names.written i) _ _ (λ y u. has_write_name y w (s.vars y) s h)
      go names (init i w) s h = at_goes false Stays (nth names.written i) _ _ (λ y u. (refl, itself _ (has_start true y w s h)))
      go names (init_function b i w) s h = at_goes false Stays (function_name (nth names.functions i)) _ _ (λ y u. (refl, itself _ (has_start b y w s h)))
      go names hide s h = (refl, itself _ h)
      go names copy s h = (refl, itself _ (has_copies names.scope s h))
      go names (event l tag vs) s h = has_answered l s.answers (note e l (number_of names tag) vs None s) h
      go names (bind_names w) s h = has_answered_binds names.bound s.answers (note e BindOf (Some names.number) (Item w ∷ []) None s) h
      go names self s h = has_this e.asks_this s h
      go names turn s h = has_turn s.turns s h
      go names fuel s h = (refl, itself s h)

  keeps : {A : Type 0} (y z : Completion A) → Goes false (λ a. Stays) Stays Stays y z → KeepsThis v y
  unfolding Goes
  keeps (ok a s) (ok b t) g = g.1.has
  keeps (stop a s) (stop b t) g = g.1.has
  keeps (halt a s) (halt b t) g = g.1.has
  keeps out z g = tt
  keeps y z g = absurd g

  this_goes : (n : Tree) (q : Demand) (r : Request q) (s : State) → s.self ≡ v → KeepsThis v (means e n q r s)
  unfolding this_rules
  this_goes n q r s h =
      keeps _ _ (plain_goes this_rules q n n (self_goes this_rules this_sound (λ q n. Unit {0}) (λ σ ts. Unit {0}) (λ h q xs n ts a. refl) (λ h q xs n ts a. tt) (λ σ t ts a. tt) (λ σ t ts a. tt) n nothing q tt) r s s (itself s h))

pub this_kept : (e : Environment) (n : Tree) (q : Demand) (r : Request q) (s : State) → KeepsThis s.self (means e n q r s)
this_kept e n q r s = this_goes e s.self n q r s refl

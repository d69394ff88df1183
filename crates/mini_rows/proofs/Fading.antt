-- States of which one is the other, but that some variables have no value in it, go together.
use Rattle.std.proofs.Common.{◌≡◌, ℕ, zero, suc, Bool, true, false, List, [], ◌∷◌, Option, Some, None, refl, sym, ap, ◌∙◌, subst, inl, inr}
use Rattle.std.specs.Prelude.{◌⊎◌}
use Rattle.std.proofs.Math.Path.{fun_ext}
use Rattle.mini_laws.specs.Value.{Variable, Declared, Global, VariableSet, Value, Slot, Holds, Missing, Uninitialised, choose, is_in, nth, variable_eq, nothing}
use Rattle.mini_laws.specs.State.{Label, ReferenceError, Raise, BindOf, ThisOf, FreshOf, Entry, Item, Answer, State, Completion, ok, stop, halt, out, Environment, with_vars, refresh, news_of, seen}
use Rattle.mini_laws.specs.Command.{Naming, Op, read, read_typeof, fixity, write, init, init_function, hide, copy, event, bind_names, self, turn, fuel, act, set_var, hear, Heard, hears, breaks, nonsense, heard, answered, bound_if, answered_binds, number_of, function_name, note, fresh_note, start, copies, read_slot, read_global, read_name, read_any, read_type, write_slot, write_global, write_name, this_of, take_turn}
use Rattle.mini_laws.specs.Same.{Goes}
use Rattle.mini_laws.specs.Skeleton.{Rules, Sound}
use Rattle.mini_laws.specs.Congruence.{Apart}
use Rattle.mini_laws.proofs.Dead.{at_goes, self_goes}
use Rattle.mini_laws.proofs.Congruent.{plain_goes}
use Rattle.mini_rows.specs.Fading.{Fades, FadesItself}

-- what a variable holds in the two states, b where it may be without a value in the first
abbrev At : Bool → Slot → Slot → Type 0
At b p q = (p ≡ q) ⊎ ((b ≡ true) × (p ≡ Uninitialised))

-- a value laid over both
overlaid : (b c : Bool) (v p q : Slot) → At b p q → At b (choose c v p) (choose c v q)
overlaid b true v p q h = inl refl
overlaid b false v p q h = h

no_value : (c : Bool) (o : Option Value) → choose c (refresh Uninitialised o) Uninitialised ≡ Uninitialised
no_value true o = refl
no_value false o = refl

refreshed : (b c : Bool) (o : Option Value) (p q : Slot) → At b p q → At b (choose c (refresh p o) p) (choose c (refresh q o) q)
refreshed b c o p q (inl h) = inl (ap (λ w. choose c (refresh w o) w) h)
refreshed b c o p q (inr u) = inr (u.0, ap (λ w. choose c (refresh w o) w) u.1 ∙ no_value c o)

abbrev pub fading_rules : VariableSet → Environment → Rules
fading_rules V e = record { weak = true; left = e; right = e; A = Fades V; N = λ names names'. names ≡ names' }

module _ (V : VariableSet) (e : Environment) (apart : Apart e V) where
  abbrev Go : {A : Type 0} → Completion A → Completion A → Type 0
  Go x y = Goes true (λ a. Fades V) (Fades V) (Fades V) x y

  seen_at : (x : Variable) (p q : Slot) → At (V x) p q → choose (e.shared x) p Missing ≡ choose (e.shared x) q Missing
  seen_at x p q (inl h) = ap (λ w. choose (e.shared x) w Missing) h
  seen_at x p q (inr u) = ap (λ c. choose c p Missing) (apart x u.0) ∙ sym (ap (λ c. choose c q Missing) (apart x u.0))

  pub seen_fades : (s t : State) → Fades V s t → seen e.shared s.vars ≡ seen e.shared t.vars
  seen_fades s t f = fun_ext λ x. seen_at x (s.vars x) (t.vars x) (f.vars x)

  note_fades : (l : Label) (n : Option ℕ) (vs : List Entry) (x : Option Variable) (s t : State) → Fades V s t → Fades V (note e l n vs x s) (note e l n vs x t)
  note_fades l n vs x s t f = record { vars = f.vars; self = f.self; answers = f.answers; turns = f.turns; events = ap (λ g. record { label = l; number = n; operands = vs; fresh = x; shared = g } ∷ s.events) (seen_fades s t f) ∙ ap (λ r. record { label = l; number = n; operands = vs; fresh = x; shared = seen e.shared t.vars } ∷ r) f.events }

  choose_fades : (b : Bool) (s t s' t' : State) → Fades V s t → Fades V s' t' → Fades V (choose b s s') (choose b t t')
  choose_fades true s t s' t' f g = f
  choose_fades false s t s' t' f g = g

  fresh_fades : (x : Variable) (s t : State) → Fades V s t → Fades V (fresh_note e x s) (fresh_note e x t)
  fresh_fades x s t f = choose_fades (e.shared x) _ _ _ _ (note_fades FreshOf None [] (Some x) s t f) f

  -- the variables alone are others
  varied : (s t : State) → Fades V s t → (f g : Variable → Slot) → ((x : Variable) → At (V x) (f x) (g x)) → Fades V (with_vars s f) (with_vars t g)
  varied s t r f g h = record { vars = h; self = r.self; answers = r.answers; turns = r.turns; events = r.events }

  set_fades : (x : Variable) (v : Slot) (s t : State) → Fades V s t → Fades V (with_vars s (set_var s.vars x v)) (with_vars t (set_var t.vars x v))
  set_fades x v s t f = varied s t f _ _ (λ y. overlaid (V y) (variable_eq x y) v (s.vars y) (t.vars y) (f.vars y))

  start_fades : (b : Bool) (x : Variable) (v : Value) (s t : State) → Fades V s t → Fades V (start e b x v s) (start e b x v t)
  start_fades b x v s t f = set_fades x (Holds v) _ _ (choose_fades b _ _ _ _ (fresh_fades x s t f) f)

  copies_fade : (xs : List Variable) (s t : State) → Fades V s t → Fades V (copies e xs s) (copies e xs t)
  copies_fade [] s t f = f
  copies_fade (x ∷ xs) s t f = copies_fade xs _ _ (fresh_fades x s t f)

  news_fade : (new : Variable → Option Value) (rest : List Answer) (s t : State) → Fades V s t → Fades V (record s { vars = news_of e.foreign s.vars new; answers = rest }) (record t { vars = news_of e.foreign t.vars new; answers = rest })
  news_fade new rest s t f = record { vars = λ y. refreshed (V y) (e.foreign y) (new y) (s.vars y) (t.vars y) (f.vars y); self = f.self; answers = refl; turns = f.turns; events = f.events }

  heard_fades : {A : Type 0} (h : Heard A) (s t : State) → Fades V s t → Go (heard h s) (heard h t)
  unfolding heard Goes
  heard_fades (hears a) s t f = (refl, f)
  heard_fades (breaks x) s t f = (refl, f)
  heard_fades nonsense s t f = tt

  answered_fades : (l : Label) (rest : List Answer) (s t : State) → Fades V s t → Go (answered e l rest s) (answered e l rest t)
  unfolding answered Goes
  answered_fades l [] s t f = (refl, f)
  answered_fades l (a ∷ rest) s t f = heard_fades (hear l a.given) _ _ (news_fade a.news rest s t f)

  event_fades : (l : Label) (n : Option ℕ) (vs : List Entry) (s t : State) → Fades V s t → Go (answered e l s.answers (note e l n vs None s)) (answered e l t.answers (note e l n vs None t))
  event_fades l n vs s t f = subst (λ rest. Go (answered e l s.answers (note e l n vs None s)) (answered e l rest (note e l n vs None t))) f.answers (answered_fades l s.answers _ _ (note_fades l n vs None s t f))

  bound_fades : (xs : List Variable) (values : Variable → Value) (h : Heard Value) (s t : State) → Fades V s t → Go (bound_if h xs values s) (bound_if h xs values t)
  unfolding Goes
  bound_fades xs values (hears v) s t f = (refl, varied s t f _ _ (λ y. overlaid (V y) (is_in y xs) (Holds (values y)) (s.vars y) (t.vars y) (f.vars y)))
  bound_fades xs values (breaks x) s t f = (refl, f)
  bound_fades xs values nonsense s t f = tt

  answered_binds_fade : (xs : List Variable) (rest : List Answer) (s t : State) → Fades V s t → Go (answered_binds e xs rest s) (answered_binds e xs rest t)
  unfolding answered_binds Goes
  answered_binds_fade xs [] s t f = (refl, f)
  answered_binds_fade xs (a ∷ rest) s t f = bound_fades xs a.binds (hear BindOf a.given) _ _ (news_fade a.news rest s t f)

  pub out_goes : {A : Type 0} (y : Completion A) → Go out y
  unfolding Goes
  out_goes (ok a s) = tt
  out_goes (stop x s) = tt
  out_goes (halt x s) = tt
  out_goes out = tt

  abbrev Reads : (Slot → State → Completion Value) → Type 0
  Reads get = (s t : State) → Fades V s t → (v : Slot) → Go (get v s) (get v t)

  read_same : Reads read_slot
  unfolding read_slot Goes
  read_same s t f (Holds v) = (refl, f)
  read_same s t f Missing = tt
  read_same s t f Uninitialised = tt

  read_any_same : Reads read_any
  unfolding read_any Goes
  read_any_same s t f (Holds v) = (refl, f)
  read_any_same s t f Missing = (refl, f)
  read_any_same s t f Uninitialised = tt

  read_global_same : Reads (read_global e)
  unfolding Goes
  read_global_same s t f (Holds v) = (refl, f)
  read_global_same s t f Missing = event_fades (Raise ReferenceError) None [] s t f
  read_global_same s t f Uninitialised = tt

  name_same : (x : Variable) → Reads (read_name e x)
  name_same (Declared n) = read_same
  name_same (Global y) = read_global_same

  type_same : (x : Variable) → Reads (read_type x)
  type_same (Declared n) = read_same
  type_same (Global y) = read_any_same

  -- without a value it can't be read
  slot_out : (s : State) → read_slot Uninitialised s ≡ out
  unfolding read_slot
  slot_out s = refl

  any_out : (s : State) → read_any Uninitialised s ≡ out
  unfolding read_any
  any_out s = refl

  name_out : (x : Variable) (s : State) → read_name e x Uninitialised s ≡ out
  name_out (Declared n) s = slot_out s
  name_out (Global y) s = refl

  type_out : (x : Variable) (s : State) → read_type x Uninitialised s ≡ out
  type_out (Declared n) s = slot_out s
  type_out (Global y) s = any_out s

  write_out : (x : Variable) (v : Value) (s : State) → write_name x v Uninitialised s ≡ out
  unfolding write_slot
  write_out (Declared n) v s = refl
  write_out (Global y) v s = refl

  -- so what goes on from it does so where it does from equal ones
  at_slot : {A : Type 0} (b : Bool) (f g : Slot → Completion A) → ((v : Slot) → Go (f v) (g v)) → f Uninitialised ≡ out → (p q : Slot) → At b p q → Go (f p) (g q)
  at_slot b f g same none p q (inl h) = subst (λ w. Go (f p) (g w)) h (same p)
  at_slot b f g same none p q (inr u) = subst (λ x. Go x (g q)) (sym (ap f u.1 ∙ none)) (out_goes (g q))

  write_same : (x : Variable) (v : Value) (s t : State) → Fades V s t → (w : Slot) → Go (write_slot x v w s) (write_slot x v w t)
  unfolding write_slot Goes
  write_same x v s t f (Holds w) = (refl, set_fades x (Holds v) s t f)
  write_same x v s t f Missing = tt
  write_same x v s t f Uninitialised = tt

  write_global_same : (x : Variable) (v : Value) (s t : State) → Fades V s t → (w : Slot) → Go (write_global x v w s) (write_global x v w t)
  unfolding Goes
  write_global_same x v s t f (Holds w) = (refl, set_fades x (Holds v) s t f)
  write_global_same x v s t f Missing = (refl, set_fades x (Holds v) s t f)
  write_global_same x v s t f Uninitialised = tt

  write_name_same : (x : Variable) (v : Value) (s t : State) → Fades V s t → (w : Slot) → Go (write_name x v w s) (write_name x v w t)
  write_name_same (Declared n) v = write_same (Declared n) v
  write_name_same (Global y) v = write_global_same (Global y) v

  turn_fades : (n : ℕ) (s t : State) → Fades V s t → Go (take_turn n s) (take_turn n t)
  unfolding take_turn Goes
  turn_fades zero s t f = (refl, f)
  turn_fades (suc n) s t f = (refl, record { vars = f.vars; self = f.self; answers = f.answers; turns = refl; events = f.events })

  this_fades : (b : Bool) (s t : State) → Fades V s t → Go (this_of e b s) (this_of e b t)
  unfolding this_of Goes
  this_fades true s t f = event_fades ThisOf None [] s t f
  this_fades false s t f = (f.self, f)

  pub fading_sound : Sound (fading_rules V e)
  unfolding act Goes
  fading_sound = record { acts = λ names names' same o s t f. subst (λ m. Go (act e names o s) (act e m o t)) same (go names o s t f) }
    where
      go : (names : Naming) (o : Op) (s t : State) → Fades V s t → Go (act e names o s) (act e names o t)
      go names (read i) s t f = at_goes true (Fades V) (nth names.own i) _ _ (λ x u. at_slot (V x) (λ v. read_name e x v s) (λ v. read_name e x v t) (name_same x s t f) (name_out x s) (s.vars x) (t.vars x) (f.vars x))
      go names (read_typeof i) s t f = at_goes true (Fades V) (nth names.own i) _ _ (λ x u. at_slot (V x) (λ v. read_type x v s) (λ v. read_type x v t) (type_same x s t f) (type_out x s) (s.vars x) (t.vars x) (f.vars x))
      go names (fixity i) s t f = at_goes true (Fades V) (nth names.written i) _ _ (λ x u. (refl, f))
      go names (write i v) s t f = at_goes true (Fades V) (nth names.written i) _ _ (λ x u. at_slot (V x) (λ w. write_name x v w s) (λ w. write_name x v w t) (write_name_same x v s t f) (write_out x v s) (s.vars x) (t.vars x) (f.vars x))
      go names (init i v) s t f = at_goes true (Fades V) (nth names.written i) _ _ (λ x u. (refl, start_fades true x v s t f))
      go names (init_function b i v) s t f = at_goes true (Fades V) (function_name (nth names.functions i)) _ _ (λ x u. (refl, start_fades b x v s t f))
      go names hide s t f = (refl, varied s t f _ _ (λ y. overlaid (V y) (is_in y names.scope) Uninitialised (s.vars y) (t.vars y) (f.vars y)))
      go names copy s t f = (refl, copies_fade names.scope s t f)
      go names (event l tag vs) s t f =
          subst (λ rest. Go (answered e l s.answers (note e l (number_of names tag) vs None s)) (answered e l rest (note e l (number_of names tag) vs None t))) f.answers
          (answered_fades l s.answers _ _ (note_fades l (number_of names tag) vs None s t f))
      go names (bind_names v) s t f =
          subst (λ rest. Go (answered_binds e names.bound s.answers (note e BindOf (Some names.number) (Item v ∷ []) None s)) (answered_binds e names.bound rest (note e BindOf (Some names.number) (Item v ∷ []) None t))) f.answers
          (answered_binds_fade names.bound s.answers _ _ (note_fades BindOf (Some names.number) (Item v ∷ []) None s t f))
      go names self s t f = this_fades e.asks_this s t f
      go names turn s t f = subst (λ n. Go (take_turn s.turns s) (take_turn n t)) f.turns (turn_fades s.turns s t f)
      go names fuel s t f = (f.turns, f)

pub fades_itself : FadesItself
fades_itself V e apart q n r s t f =
    plain_goes (fading_rules V e) q n n (self_goes (fading_rules V e) (fading_sound V e apart) (λ q n. Unit {0}) (λ σ ts. Unit {0}) (λ h q xs n ts a. refl) (λ h q xs n ts a. tt) (λ σ t ts a. tt) (λ σ t ts a. tt) n nothing q tt) r s t f

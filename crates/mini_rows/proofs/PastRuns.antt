-- What a tree reads may be put there where each part that stands before gives the same before the initializer and after it, from one state.
use Rattle.std.proofs.Common.{◌≡◌, ℕ, Bool, true, false, List, [], ◌∷◌, Some, refl, sym, ap, ◌∙◌, subst, subst₂, true≢false, inl, inr}
use Rattle.mini_model.specs.declared.name.Name.{Name}
use Rattle.mini_model.specs.declared.shape.Shape.{Shape}
use Rattle.mini_model.specs.Tree.{Tree, Trees, ◌▸◌, count, identifier}
use Rattle.mini_model.specs.Paths.{append}
use Rattle.mini_laws.specs.Value.{Value, Declared, VariableSet, Holds}
use Rattle.mini_laws.specs.State.{Stop, State, Completion, ok, stop, halt, out, Ends, done, ended, either, Environment, with_vars}
use Rattle.mini_laws.specs.Demand.{Val, Demand, As, AnEntry, Callee, OfType, Request, Reply}
use Rattle.mini_laws.specs.Command.{set_var, Command, ret, fails, stuck, op, kid, run}
use Rattle.mini_laws.specs.Naming.{Facts, Summary, summary, summaries, facts_all, naming}
use Rattle.mini_laws.specs.Asking.{demand}
use Rattle.mini_laws.specs.Step.{step, means, meaning}
use Rattle.mini_laws.specs.Same.{Goes, Agree}
use Rattle.mini_laws.specs.Substitution.{alone}
use Rattle.mini_laws.specs.Congruence.{AllAvoid}
use Rattle.mini_laws.proofs.Runs.{either_cong, either_ok}
use Rattle.mini_laws.proofs.Simulation.{goes_either}
use Rattle.mini_kept.specs.Without.{Unseen}
use Rattle.mini_terms.specs.Reading.{is_item}
use Rattle.mini_rows.specs.Sketches.{shape_by, Asked, AsValue, asked_below}
use Rattle.mini_rows.specs.Chains.{is_calm}
use Rattle.mini_rows.specs.Unused.{resolved, Gathered, gathered_below}
use Rattle.mini_rows.proofs.Passing.{Does, Mild}
use Rattle.mini_rows.proofs.SingleMeaning.{Before, Later, Opens, Alike, settled_goes, Gathers, AllFine, Reaches, Suits, texts_in, earlier, earlier_within, valued_before, AllReply, asks, gathered_there, next, May, joined, init_ends, whole_chains, later_goes, by_summaries, node_is, front_is, there_is, read_goes, entry_goes, callee_goes, type_goes, all_spared, there_before}
use Rattle.mini_rows.proofs.SingleUse.{Lead, head_of, before, place, surely, Step, led, is_end, end_of, whole, Allows, Well, Spared, summaries_led}

-- what goes on after a reply may rest on it
pub by_reply : {A B : Type 0} (x : Completion A) (f g : A → State → Completion B) → ((v : A) (t : State) → x ≡ ok v t → f v t ≡ g v t) → next x f ≡ next x g
unfolding either
by_reply (ok v t) f g h = h v t refl
by_reply (stop y t) f g h = refl
by_reply (halt y t) f g h = refl
by_reply out f g h = refl

module _ (e : Environment) (k : ℕ) (z : Unseen (alone (Declared k)) e) (init : Tree) (s : State) where
  abbrev D : VariableSet
  D = alone (Declared k)

  abbrev Go : {A : Type 0} → Completion A → Completion A → Type 0
  Go x y = Goes true (λ a. Agree D) (Agree D) (Agree D) x y

  abbrev after : Value → State → State
  after v t = with_vars t (set_var t.vars (Declared k) (Holds v))

  -- with the initializer's value in the variable
  abbrev Started : {A : Type 0} → (Value → State → Completion A) → Completion A
  Started f = next (means e init (As Val) tt s) (λ v t. f v (after v t))

  -- it does nothing but reply, and replies the same before the initializer and after it
  abbrev pub Held : (q : Demand) → Does q → Request q → Type 0
  Held q m r = (a : Reply q r) × (m r s ≡ ok a s) × ((v : Value) (t : State) → means e init (As Val) tt s ≡ ok v t → m r (after v t) ≡ ok a (after v t))

  abbrev pub front : Trees → (σ : ℕ → Demand) → (j : ℕ) → Does (σ j)
  front ps σ j r t = meaning e ps j (σ j) r t

  -- so does each of the first of some parts, where it is asked no more than the way to the read asks
  abbrev pub AllHeld : ℕ → Trees → (ℕ → Demand) → Type 0
  AllHeld n ps σ = (j : ℕ) → Before j n → (r : Request (σ j)) → Mild false (σ j) r → Held (σ j) (front ps σ j) r

  -- the parts before the read, by what is gathered there
  abbrev pub HeldBefore : Gathered → Lead → Type 0
  HeldBefore m l = (fs : List Facts) (q : Demand) → Gathers m q → AllReply (demand (shape_by (head_of l)) fs q) (valued_before l) → AllHeld (count (earlier l)) (before l) (demand (shape_by (head_of l)) fs q) × AllFine e (texts_in m l) (count (earlier l)) (before l) (demand (shape_by (head_of l)) fs q)

  abbrev pub HeldPath : Gathered → List ℕ → List Step → Type 0
  HeldPath m spelling [] = Unit {0}
  HeldPath m spelling (s ∷ ss) = (HeldBefore m s.lead × (surely m false s.lead ≡ true) × Allows s.lead (end_of spelling init ss) × (whole init s.lead ≡ true)) × HeldPath (gathered_below m (shape_by (head_of s.lead)) (place 0 (before s.lead))) spelling ss

  passed_goes : {A : Type 0} (q : Demand) (m : Does q) (r : Request q) → Held q m r → (F G : Reply q r → State → Completion A) (f g : Stop → State → Completion A) → ((a : Reply q r) → m r s ≡ ok a s → Go (Started (λ v t. F a t)) (G a s)) → Go (Started (λ v t. either (m r t) F f)) (either (m r s) G g)
  passed_goes q m r c F G f g h =
      let (a, now, later) = c in
      subst₂ Go (by_reply (means e init (As Val) tt s) (λ v t. F a (after v t)) (λ v t. either (m r (after v t)) F f) (λ v t is. sym (ap (λ x. either x F f) (later v t is) ∙ either_ok a (after v t) F f))) (sym (ap (λ x. either x G g) now ∙ either_ok a s G g)) (h a now)

  -- ---- a node, with the expression in the place of the read

  module _ (h : Shape) (q : Demand) (is : List Summary) (σ : ℕ → Demand) (ps : Trees) (t u : Tree) (ts : Trees) (first : AllAvoid D ps) (last : AllAvoid D ts) (m : ℕ) (within : (j : ℕ) → Before j m → Before j (count ps)) (held : AllHeld m ps σ) (text : Bool) (fine : AllFine e text m ps σ)
      (alike : Alike e k z (σ (count ps)) t u) (inner : (r : Request (σ (count ps))) → Opens (σ (count ps)) r → Go (Started (λ v y. means e t (σ (count ps)) r y)) (means e u (σ (count ps)) r s)) where
    abbrev runs : {A : Type 0} → Tree → Command σ A → State → Completion A
    runs w c y = run e (naming h q [] 0 is) (λ i r z. meaning e (append ps (w ▸ ts)) i (σ i) r z) c y

    abbrev Reached : {A : Type 0} → Command σ A → Type 0
    Reached c = Go (Started (λ v y. runs t c y)) (runs u c s)

    abbrev Ends_with : {A : Type 0} (j : ℕ) (r : Request (σ j)) → (Ends (Reply (σ j) r) → Command σ A) → Type 0
    Ends_with j r c = ((y : Stop) → May (is_calm init) y → c (ended y) ≡ fails y) × ((y : Stop) → Later (count ps) (c (ended y))) × ((a : Reply (σ j) r) → Later (count ps) (c (done a)))

    module _ {A : Type 0} (r : Request (σ (count ps))) (opens : Opens (σ (count ps)) r) (c : Ends (Reply (σ (count ps)) r) → Command σ A) (known : Ends_with (count ps) r c) where
      abbrev goes_on_with : Tree → Reply (σ (count ps)) r → State → Completion A
      goes_on_with w a y = runs w (c (done a)) y

      abbrev ends_there : Tree → Stop → State → Completion A
      ends_there w y z = runs w (c (ended y)) z

      asked_there : (w : Tree) (y : State) → runs w (kid (count ps) r c) y ≡ either (means e w (σ (count ps)) r y) (goes_on_with w) (ends_there w)
      asked_there w y = ap (λ x. either x (goes_on_with w) (ends_there w)) (there_is e k z ps w ts (σ (count ps)) r y)

      hit_here : Reached (kid (count ps) r c)
      hit_here =
          let v = means e init (As Val) tt s in
          subst₂ Go
          (sym (either_cong v _ _ _ _ (λ p y. asked_there t (after p y)) (λ y p. refl) ∙ joined (is_calm init) v (init_ends e init s) (λ p y. means e t (σ (count ps)) r (after p y)) (goes_on_with t) (ends_there t) (λ y n p. ap (λ d. runs t d p) (known.0 y n))))
          (sym (asked_there u s))
          (goes_either true (λ p. Agree D) (Agree D) (Agree D) (λ p. Agree D) (Agree D) (Started (λ p y. means e t (σ (count ps)) r y)) (means e u (σ (count ps)) r s) _ _ _ _
          (inner r opens)
          (λ p x y g. later_goes e k z h q is ps t u ts first last alike (c (done p)) (known.2 p) x y g) (λ p x y g. later_goes e k z h q is ps t u ts first last alike (c (ended p)) (known.1 p) x y g))

    hit_there : {A : Type 0} (j : ℕ) → j ≡ count ps → (r : Request (σ j)) → Opens (σ j) r → (c : Ends (Reply (σ j) r) → Command σ A) → Ends_with j r c → Reached (kid j r c)
    hit_there {A} j p = subst (λ j. (r : Request (σ j)) → Opens (σ j) r → (c : Ends (Reply (σ j) r) → Command σ A) → Ends_with j r c → Reached (kid j r c)) (sym p) (λ r o c known. hit_here r o c known)

    pub reach_goes : {A : Type 0} (c : Command σ A) → Reaches text false (is_calm init) m (count ps) c → Reached c
    reach_goes {A} (kid j r c) (inl l) =
        let F = λ (a : Reply (σ j) r) (y : State). runs t (c (done a)) y in
        let G = λ (a : Reply (σ j) r) (y : State). runs u (c (done a)) y in
        let f = λ (x : Stop) (y : State). runs t (c (ended x)) y in
        let g = λ (x : Stop) (y : State). runs u (c (ended x)) y in
        subst₂ Go (either_cong (means e init (As Val) tt s) _ _ _ _ (λ v y. ap (λ x. either x F f) (sym (front_is e k z ps t ts j (within j l.0.0) (σ j) r (after v y)))) (λ x y. refl)) (ap (λ x. either x G g) (sym (front_is e k z ps u ts j (within j l.0.0) (σ j) r s)))
        (passed_goes (σ j) (front ps σ j) r (held j l.0.0 r l.0.1) F G f g (λ a y. reach_goes (c (done a)) (l.1 a (fine j l.0.0 r a s s y))))
    reach_goes (kid j r c) (inr (inl l)) = hit_there j l.here r l.opens c (l.stops, l.stopped_later, l.later)
    reach_goes (kid j r c) (inr (inr l)) = absurd (true≢false (sym l.0))
    reach_goes (ret a) l = absurd (true≢false (sym l.0))
    reach_goes (fails y) l = absurd (true≢false (sym l.0))
    reach_goes stuck l = absurd (true≢false (sym l.0))
    reach_goes (op o c) l = absurd (true≢false (sym l.0))

  -- ---- the path

  module _ (x : Name) (named : x.symbol ≡ Some (record { 0 = k })) (spelling : List ℕ) (plain : summary (identifier (resolved spelling k)) ≡ summary init) (item : is_item init ≡ true) where
    abbrev read : Tree
    read = identifier (resolved spelling k)

    pub past_goes : (m : Gathered) (c : Asked) (ss : List Step) → Well c ss → Spared x ss → HeldPath m spelling ss → (q : Demand) → Suits c q (end_of spelling init ss) → Gathers m q → (r : Request q) → Opens q r → Go (Started (λ v t. means e (led ss read) q r t)) (means e (led ss init) q r s)
    past_goes m AsValue [] w f p (As v) u n r o = read_goes e k z spelling init v s
    past_goes m AsValue [] w f p AnEntry u n r o = entry_goes e k z spelling init item s
    past_goes m AsValue [] w f p Callee u n r o = callee_goes e k z spelling init u s
    past_goes m AsValue [] w f p OfType u n r o = type_goes e k z spelling init u s
    past_goes m AsValue [] w f p q u n r o = absurd u
    past_goes m c [] w f p q u n r o = absurd w
    past_goes m c (step_there ∷ ss) w f p q u n r o =
        let l = step_there.lead in
        let h = shape_by (head_of l) in
        let ps = before l in
        let kids = λ (t : Tree). append ps (led ss t ▸ step_there.rest) in
        let is = summaries (kids read) in
        let σ = demand h (facts_all is) q in
        let a = asks false (is_calm init) m c l (is_end ss) w.0 (end_of spelling init ss) p.0.2 (whole_chains init l p.0.3) (facts_all is) (there_before e k z ps (led ss read) step_there.rest) q u n r o in
        let held = p.0.0 (facts_all is) q n a.first in
        let first = all_spared e k z x named ps f.0.0 in
        let last = all_spared e k z x named step_there.rest f.0.1 in
        let there = λ (y : State). node_is e k z h q r (kids read) y in
        let put : means e (led (step_there ∷ ss) init) q r s ≡ by_summaries e k z h q r is (kids init) s = node_is e k z h q r (kids init) s ∙ ap (λ i. by_summaries e k z h q r i (kids init) s) (sym (summaries_led step_there ss read init plain)) in
        subst₂ Go (sym (either_cong (means e init (As Val) tt s) _ _ _ _ (λ v y. there (after v y)) (λ y p. refl))) (sym put)
        (reach_goes h q is σ ps (led ss read) (led ss init) step_there.rest first last (count (earlier l)) (earlier_within l) held.0 (texts_in m l) held.1 (settled_goes e k z x named spelling init plain (asked_below (head_of l) c (place 0 ps)) ss w.1 f.1 (σ (count ps)) (end_of spelling init ss) a.below)
        (λ r' o'. past_goes (gathered_below m h (place 0 ps)) (asked_below (head_of l) c (place 0 ps)) ss w.1 f.1 p.1 (σ (count ps)) a.below (gathered_there m c l (is_end ss) w.0 (facts_all is) q u n (end_of spelling init ss) a.below) r' o') (step h [] (facts_all is) q r) (a.reaches p.0.1))

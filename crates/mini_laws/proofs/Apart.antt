-- A body doesn't depend on the bodies that are nested in it.
use Rattle.std.proofs.Common.{◌≡◌, ℕ, zero, suc, Bool, true, false, List, [], ◌∷◌, Option, Some, None, refl, sym, ap, ◌∙◌, inr, suc-ne-zero}
use Rattle.mini_model.specs.declared.name.Name.{Name}
use Rattle.mini_model.specs.declared.shape.Shape.{Shape}
use Rattle.mini_model.specs.declared.shape.Shape.TheVariants as shape
use Rattle.mini_model.specs.Tree.{Tree, Trees, node, none, ◌▸◌}
use Rattle.mini_laws.specs.Value.{Value, Undefined, variables}
use Rattle.mini_laws.specs.State.{Ends, done, ended, State, Continued, Returned, either, Environment, Carries, Anything, ABoolean, AnObject, NodeOf, PlaceOf, Label, Create}
use Rattle.mini_laws.specs.Demand.{Tail, LoopTail, FunctionTail, Demand, As, Callee, OfType, Deleted, Target, AnEntry, Stat, Binds, ClassValue, Reference, Prepare, Fetch, Put, Request, Reply}
use Rattle.mini_laws.specs.Command.{Naming, Gets, Command, ret, fails, stuck, op, kid, attempt, bind, Kids, act, run, then, emit_mine, self, bind_names}
use Rattle.mini_laws.specs.Naming.{kinds, no_facts, first_facts, summary, summary_of, summaries, facts, facts_all, naming}
use Rattle.mini_laws.specs.Asking.{demand}
use Rattle.mini_laws.specs.Replies.{statement, merged, valued, raise_reference}
use Rattle.mini_laws.specs.Targets.{carried, put_carried, called_with, carried_target, private_member, deleted_super, super_member, pattern_target}
use Rattle.mini_laws.specs.Declarations.{binding_pattern, pattern_takes, class_step, class_declaration}
use Rattle.mini_laws.specs.Step.{step, means, meaning}
use Rattle.mini_laws.specs.Body.{body_demand, body_request, start_of, ends_as, outcome_of_reply}
use Rattle.mini_laws.specs.Cut.{first_child, with_first, link, bare, bare_all, cut, cut_all}
use Rattle.mini_laws.specs.Apart as law
use Rattle.mini_laws.proofs.Runs.{either_cong}

-- What a parent reads

link_shortens : (b : Bool) → (first_facts (facts (link b))).shortens ≡ b
link_shortens true = refl
link_shortens false = refl

first_read : (d g : Bool) (ds : List (List ℕ)) (xs : List Name) (n : ℕ) (ts : Trees) → summary_of (shape.Function d g ds) (variables xs) n (summaries (first_child ts)) ≡ summary_of (shape.Function d g ds) (variables xs) n (summaries ts)
first_read true g ds xs n none = refl
first_read true g ds xs n (t ▸ ts) = refl
first_read false g ds xs n none = refl
first_read false g ds xs n (t ▸ ts) = refl

mutual
  bare_read : (t : Tree) → summary (bare t) ≡ summary t
  bare_read (node shape.InnerExpression xs n ts) = ap (λ b. record { facts = record no_facts { shortens = b }; lets = []; name = None; functions = [] }) (link_shortens (first_facts (facts ts)).shortens)
  bare_read (node (shape.Function d g ds) xs n ts) = first_read d g ds xs n ts
  bare_read (node (shape.ArrowFunctionExpression ds) xs n ts) = refl
  bare_read (node shape.StaticBlock xs n ts) = refl
  bare_read (node h xs n ts) = ap (summary_of h (variables xs) n) (bares_read ts)

  bares_read : (ts : Trees) → summaries (bare_all ts) ≡ summaries ts
  bares_read none = refl
  bares_read (t ▸ ts) = ap (λ i. i ∷ summaries (bare_all ts)) (bare_read t) ∙ ap (λ is. summary t ∷ is) (bares_read ts)

with_first_read : (ts : Trees) → summaries (with_first ts (bare_all ts)) ≡ summaries ts
with_first_read none = refl
with_first_read (t ▸ ts) = ap (λ is. summary t ∷ is) (bares_read ts)

mutual
  pub cut_read : (t : Tree) → summary (cut t) ≡ summary t
  cut_read (node (shape.Function d g ds) xs n ts) = first_read d g ds xs n ts
  cut_read (node (shape.ArrowFunctionExpression ds) xs n ts) = refl
  cut_read (node (shape.Class d) xs n ts) = ap (summary_of (shape.Class d) (variables xs) n) (with_first_read ts)
  cut_read (node (shape.RegExpLiteral p f) xs n ts) = ap (summary_of (shape.RegExpLiteral p f) (variables xs) n) (bares_read ts)
  cut_read (node shape.PrivateInExpression xs n ts) = ap (summary_of shape.PrivateInExpression (variables xs) n) (bares_read ts)
  cut_read (node shape.SuperCallExpression xs n ts) = ap (summary_of shape.SuperCallExpression (variables xs) n) (bares_read ts)
  cut_read (node shape.SuperStaticMemberExpression xs n ts) = ap (summary_of shape.SuperStaticMemberExpression (variables xs) n) (bares_read ts)
  cut_read (node shape.SuperComputedMemberExpression xs n ts) = ap (summary_of shape.SuperComputedMemberExpression (variables xs) n) (bares_read ts)
  cut_read (node (shape.PrivateFieldExpression b) xs n ts) = ap (summary_of (shape.PrivateFieldExpression b) (variables xs) n) (bares_read ts)
  cut_read (node shape.TaggedTemplateExpression xs n ts) = ap (summary_of shape.TaggedTemplateExpression (variables xs) n) (bares_read ts)
  cut_read (node (shape.MetaProperty k) xs n ts) = ap (summary_of (shape.MetaProperty k) (variables xs) n) (bares_read ts)
  cut_read (node shape.ImportExpression xs n ts) = ap (summary_of shape.ImportExpression (variables xs) n) (bares_read ts)
  cut_read (node shape.ObjectPattern xs n ts) = ap (summary_of shape.ObjectPattern (variables xs) n) (bares_read ts)
  cut_read (node shape.ArrayPattern xs n ts) = ap (summary_of shape.ArrayPattern (variables xs) n) (bares_read ts)
  cut_read (node shape.ObjectAssignmentTarget xs n ts) = ap (summary_of shape.ObjectAssignmentTarget (variables xs) n) (bares_read ts)
  cut_read (node shape.ArrayAssignmentTarget xs n ts) = ap (summary_of shape.ArrayAssignmentTarget (variables xs) n) (bares_read ts)
  cut_read (node h xs n ts) = ap (summary_of h (variables xs) n) (cuts_read ts)

  cuts_read : (ts : Trees) → summaries (cut_all ts) ≡ summaries ts
  cuts_read none = refl
  cuts_read (t ▸ ts) = ap (λ i. i ∷ summaries (cut_all ts)) (cut_read t) ∙ ap (λ is. summary t ∷ is) (cuts_read ts)

-- Which children a command asks

unfoldable Asks : {q : ℕ → Demand} {A : Type 0} → (ℕ → Type 0) → Command q A → Type 0
Asks P (ret a) = Unit {0}
Asks P (fails x) = Unit {0}
Asks P stuck = Unit {0}
Asks P (op o k) = (x : Ends (Gets o)) → Asks P (k x)
Asks {q} P (kid i r k) = P i × ((x : Ends (Reply (q i) r)) → Asks P (k x))

run_asks : (e : Environment) (names : Naming) (P : ℕ → Type 0) {q : ℕ → Demand} {A : Type 0} (K K' : Kids q) → ((i : ℕ) → P i → (r : Request (q i)) (s : State) → K i r s ≡ K' i r s) → (c : Command q A) → Asks P c → (s : State) → run e names K c s ≡ run e names K' c s
unfolding Asks
run_asks e names P K K' h (ret a) p s = refl
run_asks e names P K K' h (fails x) p s = refl
run_asks e names P K K' h stuck p s = refl
run_asks e names P K K' h (op o k) p s = either_cong (act e names o s) _ _ _ _ (λ a z. run_asks e names P K K' h (k (done a)) (p (done a)) z) (λ x z. run_asks e names P K K' h (k (ended x)) (p (ended x)) z)
run_asks e names P K K' h (kid i r k) p s =
    ap (λ y. either y (λ a z. run e names K (k (done a)) z) (λ x z. run e names K (k (ended x)) z)) (h i p.0 r s)
    ∙ either_cong (K' i r s) _ _ _ _ (λ a z. run_asks e names P K K' h (k (done a)) (p.1 (done a)) z) (λ x z. run_asks e names P K K' h (k (ended x)) (p.1 (ended x)) z)

bind_asks : (P : ℕ → Type 0) {q : ℕ → Demand} {A B : Type 0} (c : Command q A) (f : A → Command q B) → Asks P c → ((a : A) → Asks P (f a)) → Asks P (bind c f)
unfolding Asks
bind_asks P (ret a) f p g = g a
bind_asks P (fails x) f p g = tt
bind_asks P stuck f p g = tt
bind_asks P (op o k) f p g = λ x. bind_asks P (k x) f (p x) g
bind_asks P (kid i r k) f p g = (p.0, λ x. bind_asks P (k x) f (p.1 x) g)

any_asks : {q : ℕ → Demand} {A : Type 0} (c : Command q A) → Asks (λ i. Unit {0}) c
unfolding Asks
any_asks (ret a) = tt
any_asks (fails x) = tt
any_asks stuck = tt
any_asks (op o k) = λ x. any_asks (k x)
any_asks (kid i r k) = (tt, λ x. any_asks (k x))

abbrev Quiet : {q : ℕ → Demand} {A : Type 0} → Command q A → Type 0
Quiet c = Asks (λ i. ⊥) c

event_quiet : (σ : ℕ → Demand) (l : Label) → Quiet {q = σ} (emit_mine l [])
unfolding Asks
event_quiet σ l (done a) = tt
event_quiet σ l (ended x) = tt

valued_quiet : (σ : ℕ → Demand) (q : Demand) (r : Request q) (c : Command σ Value) → Quiet c → Quiet (valued q r c)
unfolding Asks
valued_quiet σ (As w) r c p = bind_asks (λ i. ⊥) c _ p (λ v. tt)
valued_quiet σ Callee r c p = bind_asks (λ i. ⊥) c _ p (λ v. tt)
valued_quiet σ OfType r c p = bind_asks (λ i. ⊥) c _ p (λ v. tt)
valued_quiet σ Deleted r c p = bind_asks (λ i. ⊥) c _ p (λ v. tt)
valued_quiet σ AnEntry r c p = bind_asks (λ i. ⊥) c _ p (λ v. tt)
valued_quiet σ q r c p = tt

carried_quiet : (σ : ℕ → Demand) (what : Carries) (q : Demand) (r : Request q) → Quiet {q = σ} (carried what q r)
carried_quiet σ what q r = valued_quiet σ q r (emit_mine (NodeOf what) []) (event_quiet σ (NodeOf what))

put_quiet : (σ : ℕ → Demand) (v : Value) → Quiet {q = σ} (put_carried v)
unfolding Asks
put_quiet σ v (done a) = tt
put_quiet σ v (ended x) = tt

target_quiet : (σ : ℕ → Demand) (what : Carries) (q : Demand) (r : Request q) → Quiet {q = σ} (carried_target what q r)
unfolding Asks
target_quiet σ what Deleted r = tt
target_quiet σ what Target Prepare = bind_asks (λ i. ⊥) {q = σ} (emit_mine (PlaceOf Anything) []) _ (event_quiet σ (PlaceOf Anything)) (λ v. tt)
target_quiet σ what Target (Fetch x) = event_quiet σ (NodeOf Anything)
target_quiet σ what Target (Put x v) = put_quiet σ v
target_quiet σ what q r = carried_quiet σ what q r

called_quiet : (σ : ℕ → Demand) (this : Value) → Quiet {q = σ} (bind (emit_mine (NodeOf Anything) []) (called_with this))
unfolding Asks
called_quiet σ this = bind_asks (λ i. ⊥) {q = σ} (emit_mine (NodeOf Anything) []) _ (event_quiet σ (NodeOf Anything)) (λ v. tt)

private_quiet : (σ : ℕ → Demand) (what : Carries) (q : Demand) (r : Request q) → Quiet {q = σ} (private_member what q r)
unfolding Asks
private_quiet σ what Callee r = bind_asks (λ i. ⊥) {q = σ} (emit_mine (PlaceOf what) []) _ (event_quiet σ (PlaceOf what)) (λ this. called_quiet σ this)
private_quiet σ what q r = target_quiet σ what q r

self_quiet : (σ : ℕ → Demand) → Quiet {q = σ} (op self (then (λ this. bind (emit_mine (NodeOf Anything) []) (called_with this))))
unfolding Asks
self_quiet σ (done this) = called_quiet σ this
self_quiet σ (ended x) = tt

raised_quiet : (σ : ℕ → Demand) → Quiet {q = σ} {A = Reference} raise_reference
unfolding Asks
raised_quiet σ (done v) = tt
raised_quiet σ (ended x) = tt

deleted_quiet : (σ : ℕ → Demand) → Quiet {q = σ} deleted_super
unfolding Asks
deleted_quiet σ = bind_asks (λ i. ⊥) {q = σ} (emit_mine (PlaceOf Anything) []) _ (event_quiet σ (PlaceOf Anything)) (λ v. raised_quiet σ)

super_quiet : (σ : ℕ → Demand) (q : Demand) (r : Request q) → Quiet {q = σ} (super_member q r)
super_quiet σ Callee r = self_quiet σ
super_quiet σ Deleted r = deleted_quiet σ
super_quiet σ q r = target_quiet σ Anything q r

pattern_quiet : (σ : ℕ → Demand) (q : Demand) (r : Request q) → Quiet {q = σ} (pattern_target q r)
unfolding Asks
pattern_quiet σ Target Prepare = tt
pattern_quiet σ Target (Put x v) = put_quiet σ v
pattern_quiet σ q r = tt

bound_quiet : (σ : ℕ → Demand) (v : Value) → Quiet {q = σ} (op (bind_names v) (then ret))
unfolding Asks
bound_quiet σ v (done a) = tt
bound_quiet σ v (ended x) = tt

takes_quiet : (σ : ℕ → Demand) (b : Bool) (v : Value) → Quiet {q = σ} (pattern_takes b v)
takes_quiet σ true v = bound_quiet σ v
takes_quiet σ false v = put_quiet σ v

binding_quiet : (σ : ℕ → Demand) (q : Demand) (r : Request q) → Quiet {q = σ} (binding_pattern q r)
unfolding Asks
binding_quiet σ (Binds b) v = takes_quiet σ b v
binding_quiet σ q r = tt

statement_quiet : (σ : ℕ → Demand) (q : Demand) (r : Request q) → Quiet {q = σ} (statement q r (λ labels. ret tt))
unfolding Asks
statement_quiet σ (Stat None) r = tt
statement_quiet σ (Stat (Some LoopTail)) r = tt
statement_quiet σ (Stat (Some FunctionTail)) r = tt
statement_quiet σ q r = tt

attempt_asks : (P : ℕ → Type 0) {q : ℕ → Demand} {A B : Type 0} (c : Command q A) (f : Ends A → Command q B) → Asks P c → ((x : Ends A) → Asks P (f x)) → Asks P (attempt c f)
unfolding Asks
attempt_asks P (ret a) f p g = g (done a)
attempt_asks P (fails x) f p g = g (ended x)
attempt_asks P stuck f p g = tt
attempt_asks P (op o k) f p g = λ x. attempt_asks P (k x) f (p x) g
attempt_asks P (kid i r k) f p g = (p.0, λ x. attempt_asks P (k x) f (p.1 x) g)

merged_asks : (P : ℕ → Type 0) (σ : ℕ → Demand) (t : Option Tail) (x : Ends (Unit {0})) → Asks {q = σ} P (merged t x)
unfolding Asks
merged_asks P σ None (done u) = tt
merged_asks P σ (Some LoopTail) (done u) = tt
merged_asks P σ (Some FunctionTail) (done u) = tt
merged_asks P σ (Some LoopTail) (ended (Continued None)) = tt
merged_asks P σ (Some FunctionTail) (ended (Returned Undefined)) = tt
merged_asks P σ t (ended x) = tt

abbrev First : ℕ → Type 0
First i = i ≡ 0

binds_then_asks : (v : Value) (x : Ends (Unit {0})) → Asks {q = λ i. Binds true} First (then (λ u. ret v) x)
unfolding Asks
binds_then_asks v (done u) = tt
binds_then_asks v (ended x) = tt

node_asks : Asks {q = λ i. Binds true} First (emit_mine (NodeOf AnObject) [])
unfolding Asks
node_asks (done a) = tt
node_asks (ended x) = tt

class_asks : Asks First class_step
unfolding Asks
class_asks = bind_asks First {q = λ i. Binds true} (emit_mine (NodeOf AnObject) []) _ node_asks (λ v. (refl, binds_then_asks v))

declaration_asks : (q : Demand) (r : Request q) → Asks First (class_declaration q r)
unfolding Asks
declaration_asks (Stat t) r = attempt_asks First (bind class_step (λ v. ret tt)) (merged t) (bind_asks First class_step _ class_asks (λ v. tt)) (merged_asks First (λ i. Binds true) t)
declaration_asks ClassValue r = class_asks
declaration_asks q r = tt

-- The meaning

module _ (e : Environment) where
  abbrev KidsOf : (h : Shape) (ts us : Trees) (q : Demand) → Kids (demand h (facts ts) q)
  KidsOf h ts us q i r s = meaning e us i (demand h (facts ts) q i) r s

  -- other children, which are read alike, of which those that are asked mean the same
  node_apart : (h : Shape) (xs : List Name) (n : ℕ) (ts us : Trees) (q : Demand) (r : Request q) (P : ℕ → Type 0) → summaries ts ≡ summaries us → Asks P (step h (kinds xs) (facts ts) q r) → ((i : ℕ) → P i → (d : Demand) (r : Request d) (s : State) → meaning e ts i d r s ≡ meaning e us i d r s) → (s : State) → means e (node h xs n ts) q r s ≡ means e (node h xs n us) q r s
  unfolding means
  node_apart h xs n ts us q r P same asks k s =
      run_asks e (naming h q (variables xs) n (summaries ts)) P (KidsOf h ts ts q) (KidsOf h ts us q) (λ i p r' s'. k i p (demand h (facts ts) q i) r' s') (step h (kinds xs) (facts ts) q r) asks s
      ∙ ap (λ is. run e (naming h q (variables xs) n is) (λ i r' s'. meaning e us i (demand h (facts_all is) q i) r' s') (step h (kinds xs) (facts_all is) q r) s) same

  quiet_apart : (h : Shape) (xs : List Name) (n : ℕ) (ts us : Trees) → summaries ts ≡ summaries us → (q : Demand) (r : Request q) → Quiet (step h (kinds xs) (facts ts) q r) → (s : State) → means e (node h xs n ts) q r s ≡ means e (node h xs n us) q r s
  quiet_apart h xs n ts us same q r quiet s = node_apart h xs n ts us q r (λ i. ⊥) same quiet (λ i p. absurd p) s

  first_apart : (ts : Trees) (i : ℕ) → i ≡ 0 → (d : Demand) (r : Request d) (s : State) → meaning e ts i d r s ≡ meaning e (with_first ts (bare_all ts)) i d r s
  unfolding meaning
  first_apart none i p d r s = refl
  first_apart (t ▸ ts) zero p d r s = refl
  first_apart (t ▸ ts) (suc i) p d r s = absurd (suc-ne-zero i p)

  -- a function reads nothing of its children where it is asked
  function_apart : (d g : Bool) (ds : List (List ℕ)) (xs : List Name) (n : ℕ) (ts us : Trees) (q : Demand) (r : Request q) → (s : State) → means e (node (shape.Function d g ds) xs n ts) q r s ≡ means e (node (shape.Function d g ds) xs n us) q r s
  unfolding means step
  function_apart true g ds xs n ts us q r s = run_asks e (naming (shape.Function true g ds) q (variables xs) n (summaries ts)) (λ i. ⊥) (λ i r s. meaning e ts i (Stat None) r s) (λ i r s. meaning e us i (Stat None) r s) (λ i p. absurd p) (step (shape.Function true g ds) (kinds xs) (facts ts) q r) (statement_quiet _ q r) s
  function_apart false g ds xs n ts us q r s = run_asks e (naming (shape.Function false g ds) q (variables xs) n (summaries ts)) (λ i. ⊥) (λ i r s. meaning e ts i (Stat None) r s) (λ i r s. meaning e us i (Stat None) r s) (λ i p. absurd p) (step (shape.Function false g ds) (kinds xs) (facts ts) q r) (valued_quiet _ q r (emit_mine Create []) (event_quiet _ Create)) s

  arrow_apart : (ds : List (List ℕ)) (xs : List Name) (n : ℕ) (ts us : Trees) (q : Demand) (r : Request q) → (s : State) → means e (node (shape.ArrowFunctionExpression ds) xs n ts) q r s ≡ means e (node (shape.ArrowFunctionExpression ds) xs n us) q r s
  unfolding means step
  arrow_apart ds xs n ts us q r s = run_asks e (naming (shape.ArrowFunctionExpression ds) q (variables xs) n (summaries ts)) (λ i. ⊥) (λ i r s. meaning e ts i (Stat None) r s) (λ i r s. meaning e us i (Stat None) r s) (λ i p. absurd p) (step (shape.ArrowFunctionExpression ds) (kinds xs) (facts ts) q r) (valued_quiet _ q r (emit_mine Create []) (event_quiet _ Create)) s

  class_apart : (d : Bool) (xs : List Name) (n : ℕ) (ts : Trees) (q : Demand) (r : Request q) → (s : State) → means e (node (shape.Class d) xs n ts) q r s ≡ means e (node (shape.Class d) xs n (with_first ts (bare_all ts))) q r s
  unfolding step
  class_apart true xs n ts q r s = node_apart (shape.Class true) xs n ts (with_first ts (bare_all ts)) q r First (sym (with_first_read ts)) (declaration_asks q r) (first_apart ts) s
  class_apart false xs n ts q r s = quiet_apart (shape.Class false) xs n ts (with_first ts (bare_all ts)) (sym (with_first_read ts)) q r (carried_quiet _ AnObject q r) s

  mutual
    unfolding step meaning

    cut_apart : (t : Tree) (q : Demand) (r : Request q) (s : State) → means e t q r s ≡ means e (cut t) q r s
    cut_apart (node (shape.Function d g ds) xs n ts) q r s = function_apart d g ds xs n ts (first_child ts) q r s
    cut_apart (node (shape.ArrowFunctionExpression ds) xs n ts) q r s = arrow_apart ds xs n ts none q r s
    cut_apart (node (shape.Class d) xs n ts) q r s = class_apart d xs n ts q r s
    cut_apart (node (shape.RegExpLiteral a b) xs n ts) q r s = quiet_apart (shape.RegExpLiteral a b) xs n ts (bare_all ts) (sym (bares_read ts)) q r (carried_quiet _ AnObject q r) s
    cut_apart (node shape.PrivateInExpression xs n ts) q r s = quiet_apart shape.PrivateInExpression xs n ts (bare_all ts) (sym (bares_read ts)) q r (carried_quiet _ ABoolean q r) s
    cut_apart (node shape.SuperCallExpression xs n ts) q r s = quiet_apart shape.SuperCallExpression xs n ts (bare_all ts) (sym (bares_read ts)) q r (carried_quiet _ Anything q r) s
    cut_apart (node shape.SuperStaticMemberExpression xs n ts) q r s = quiet_apart shape.SuperStaticMemberExpression xs n ts (bare_all ts) (sym (bares_read ts)) q r (super_quiet _ q r) s
    cut_apart (node shape.SuperComputedMemberExpression xs n ts) q r s = quiet_apart shape.SuperComputedMemberExpression xs n ts (bare_all ts) (sym (bares_read ts)) q r (super_quiet _ q r) s
    cut_apart (node (shape.PrivateFieldExpression b) xs n ts) q r s = quiet_apart (shape.PrivateFieldExpression b) xs n ts (bare_all ts) (sym (bares_read ts)) q r (private_quiet _ _ q r) s
    cut_apart (node shape.TaggedTemplateExpression xs n ts) q r s = quiet_apart shape.TaggedTemplateExpression xs n ts (bare_all ts) (sym (bares_read ts)) q r (carried_quiet _ Anything q r) s
    cut_apart (node (shape.MetaProperty k) xs n ts) q r s = quiet_apart (shape.MetaProperty k) xs n ts (bare_all ts) (sym (bares_read ts)) q r (carried_quiet _ Anything q r) s
    cut_apart (node shape.ImportExpression xs n ts) q r s = quiet_apart shape.ImportExpression xs n ts (bare_all ts) (sym (bares_read ts)) q r (carried_quiet _ Anything q r) s
    cut_apart (node shape.ObjectPattern xs n ts) q r s = quiet_apart shape.ObjectPattern xs n ts (bare_all ts) (sym (bares_read ts)) q r (binding_quiet _ q r) s
    cut_apart (node shape.ArrayPattern xs n ts) q r s = quiet_apart shape.ArrayPattern xs n ts (bare_all ts) (sym (bares_read ts)) q r (binding_quiet _ q r) s
    cut_apart (node shape.ObjectAssignmentTarget xs n ts) q r s = quiet_apart shape.ObjectAssignmentTarget xs n ts (bare_all ts) (sym (bares_read ts)) q r (pattern_quiet _ q r) s
    cut_apart (node shape.ArrayAssignmentTarget xs n ts) q r s = quiet_apart shape.ArrayAssignmentTarget xs n ts (bare_all ts) (sym (bares_read ts)) q r (pattern_quiet _ q r) s
    cut_apart (node h xs n ts) q r s = node_apart h xs n ts (cut_all ts) q r (λ i. Unit {0}) (sym (cuts_read ts)) (any_asks (step h (kinds xs) (facts ts) q r)) (λ i p d r s. cuts_apart ts i d r s) s

    cuts_apart : (ts : Trees) (i : ℕ) (q : Demand) (r : Request q) (s : State) → meaning e ts i q r s ≡ meaning e (cut_all ts) i q r s
    cuts_apart none i q r s = refl
    cuts_apart (t ▸ ts) zero q r s = cut_apart t q r s
    cuts_apart (t ▸ ts) (suc i) q r s = cuts_apart ts i q r s

pub cut_means : law.CutMeans
cut_means e n q r s = sym (cut_apart e n q r s)

pub cut_reads : law.CutReads
cut_reads n = cut_read n

pub nested_apart : law.NestedApart
nested_apart e k X n w p = record {
  by = λ vars this answers turns i. inr (ap (ends_as e (outcome_of_reply k)) (
      cut_apart e n (body_demand k) (body_request k) (start_of vars this answers turns)
      ∙ ap (λ t. means e t (body_demand k) (body_request k) (start_of vars this answers turns)) p
      ∙ sym (cut_apart e w (body_demand k) (body_request k) (start_of vars this answers turns))));
}

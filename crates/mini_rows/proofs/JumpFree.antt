-- An expression never ends with `break` or `continue`.
use Rattle.std.proofs.Common.{◌≡◌, ℕ, zero, suc, Bool, true, false, List, refl, sym, true≢false}
use Rattle.std.specs.Prelude.{◌||◌, None}
use Rattle.mini_model.specs.declared.name.Name.{Name}
use Rattle.mini_model.specs.declared.shape.Shape.{Shape}
use Rattle.mini_model.specs.declared.shape.Shape.TheVariants as shape
use Rattle.mini_model.specs.Tree.{Tree, Trees, node, none, ◌▸◌}
use Rattle.mini_laws.specs.Value.{Value, Undefined, is_nullish, variables}
use Rattle.mini_laws.specs.State.{Carries, InChain, State, Stop, Thrown, Returned, Broken, Continued, Short, Completion, ok, stop, halt, out, ended, either, Environment}
use Rattle.mini_laws.specs.Demand.{Val, Demand, As, Callee, OfType, Deleted, Target, AnEntry, Items, Parts, Texts, Stat, Request}
use Rattle.mini_laws.specs.Command.{Command, fails, stuck, kid}
use Rattle.mini_laws.specs.Naming.{NameKind, Facts, naming, kinds, facts, summaries}
use Rattle.mini_laws.specs.Asking.{chained, demand}
use Rattle.mini_laws.specs.Replies.{reply}
use Rattle.mini_laws.specs.Expressions.{call_step, member_step, chain_end, chain_value, chain_step}
use Rattle.mini_laws.specs.Targets.{private_member}
use Rattle.mini_laws.specs.Step.{step, means, meaning}
use Rattle.mini_rows.specs.Chains.{is_closed_shape, is_open_shape}
use Rattle.mini_rows.proofs.CalmCommands as commands
use Rattle.mini_rows.proofs.CalmCommands.{Asks}

-- a link with `?.`
abbrev is_optional : Shape → Bool
is_optional (shape.CallExpression b) = b
is_optional (shape.StaticMemberExpression b) = b
is_optional (shape.ComputedMemberExpression b) = b
is_optional (shape.PrivateFieldExpression b) = b
is_optional h = false

-- ---- ends

abbrev pub NoJump : Stop → Type 0
NoJump (Broken l) = ⊥
NoJump (Continued l) = ⊥
NoJump y = Unit {0}

pub thrown : (v : Value) → NoJump (Thrown v)
thrown v = tt

pub returned : (v : Value) → NoJump (Returned v)
returned v = tt

abbrev pub Calm : {A : Type 0} → Completion A → Type 0
Calm {A} x = commands.Calm NoJump thrown returned x

abbrev Tidy : {σ : ℕ → Demand} {A : Type 0} → Bool → Command σ A → Type 0
Tidy {σ} {A} b c = commands.Tidy NoJump thrown returned b c

-- ---- chains and optional links

end_tidy : (σ : ℕ → Demand) (q : Demand) (r : Request q) (y : Stop) → NoJump y → Tidy {σ = σ} true (chain_end q r (ended y))
end_tidy σ q r Short p = commands.reply_tidy NoJump thrown returned σ true q r Undefined
end_tidy σ q r y p = p

value_end_tidy : (σ : ℕ → Demand) (y : Stop) → NoJump y → Tidy {σ = σ} true (chain_value (ended y))
value_end_tidy σ Short p = tt
value_end_tidy σ y p = p

chain_tidy : (q : Demand) (r : Request q) → Tidy {σ = λ i. chained q} true (chain_step q r)
chain_tidy (As w) r = (tt, (λ a. tt, λ y p. end_tidy (λ i. As w) (As w) r y p))
chain_tidy Callee r = (tt, (λ a. tt, λ y p. end_tidy (λ i. Callee) Callee r y p))
chain_tidy Deleted r = (tt, (λ a. tt, λ y p. end_tidy (λ i. Deleted) Deleted r y p))
chain_tidy OfType r = commands.tidy_bind NoJump thrown returned {σ = λ i. As Val} true (kid 0 tt chain_value) (reply OfType r) (tt, (λ a. tt, λ y p. value_end_tidy (λ i. As Val) y p)) (λ v. tt)
chain_tidy AnEntry r = commands.tidy_bind NoJump thrown returned {σ = λ i. As Val} true (kid 0 tt chain_value) (reply AnEntry r) (tt, (λ a. tt, λ y p. value_end_tidy (λ i. As Val) y p)) (λ v. tt)
chain_tidy q r = tt

carries_tidy : (what : Carries) (q : Demand) (r : Request q) → Tidy {σ = λ i. Stat None} true (private_member what q r)
carries_tidy InChain q r = commands.private_tidy NoJump thrown returned (λ i. Stat None) true InChain tt tt q r
carries_tidy what q r = commands.private_tidy NoJump thrown returned (λ i. Stat None) true what tt tt q r

optional_call : Tidy true (call_step true)
optional_call = (tt, (λ f. commands.tidy_choose NoJump thrown returned true (is_nullish f.value) (fails Short) _ tt (tt, (λ vs. commands.call_tidy NoJump thrown returned _ true true f vs, λ y p. p)), λ y p. p))

optional_member : Tidy true (member_step true)
optional_member = (tt, (λ v. commands.tidy_choose NoJump thrown returned true (is_nullish v) (fails Short) _ tt (tt, (λ u. tt, λ y p. p)), λ y p. p))

optional_tidy : (h : Shape) → is_optional h ≡ true → (ks : List NameKind) (fs : List Facts) (q : Demand) (r : Request q) → Tidy true (step h ks fs q r)
unfolding step
optional_tidy (shape.CallExpression true) p ks fs q r = commands.valued_tidy NoJump thrown returned _ true q r (call_step true) optional_call
optional_tidy (shape.StaticMemberExpression true) p ks fs q r = commands.member_tidy NoJump thrown returned _ true (member_step true) optional_member q r
optional_tidy (shape.ComputedMemberExpression true) p ks fs q r = commands.member_tidy NoJump thrown returned _ true (member_step true) optional_member q r
optional_tidy (shape.PrivateFieldExpression true) p ks fs q r = carries_tidy _ q r
optional_tidy h p ks fs q r = absurd (true≢false (sym p))

-- ---- what no expression is has no meaning where a value is asked

abbrev is_stuck : {σ : ℕ → Demand} {A : Type 0} → Command σ A → Bool
is_stuck {σ} stuck = true
is_stuck {σ} c = false

stuck_tidy : {σ : ℕ → Demand} {A : Type 0} (c : Command σ A) → is_stuck c ≡ true → Tidy true c
stuck_tidy {σ} stuck e = tt
stuck_tidy {σ} c e = absurd (true≢false (sym e))

told : (h : Shape) (ks : List NameKind) (fs : List Facts) (q : Demand) (r : Request q) → Asks q → (is_closed_shape h || (is_open_shape h || (is_optional h || is_stuck (step h ks fs q r)))) ≡ true
unfolding step
told (shape.CallExpression true) ks fs q r a = refl
told (shape.CallExpression false) ks fs q r a = refl
told (shape.StaticMemberExpression true) ks fs q r a = refl
told (shape.StaticMemberExpression false) ks fs q r a = refl
told (shape.ComputedMemberExpression true) ks fs q r a = refl
told (shape.ComputedMemberExpression false) ks fs q r a = refl
told (shape.PrivateFieldExpression true) ks fs q r a = refl
told (shape.PrivateFieldExpression false) ks fs q r a = refl
told (shape.Function false g ds) ks fs q r a = refl
told (shape.Class false) ks fs q r a = refl
told h ks fs (As w) r a = refl
told h ks fs Callee r a = refl
told h ks fs OfType r a = refl
told h ks fs Deleted r a = refl
told h ks fs Target r a = refl
told h ks fs AnEntry r a = refl
told h ks fs Items r a = refl
told h ks fs (Parts w) r a = refl
told h ks fs Texts r a = refl
told h ks fs q r a = absurd a

step_tidy : (h : Shape) (ks : List NameKind) (fs : List Facts) (q : Demand) (r : Request q) → Asks q → Tidy true (step h ks fs q r)
step_tidy h ks fs q r a = go (is_closed_shape h) (is_open_shape h) (is_optional h) refl refl refl (told h ks fs q r a)
  where
    go : (x y z : Bool) → is_closed_shape h ≡ x → is_open_shape h ≡ y → is_optional h ≡ z → (x || (y || (z || is_stuck (step h ks fs q r)))) ≡ true → Tidy true (step h ks fs q r)
    go true y z e f g p = commands.closed_tidy NoJump thrown returned true h e ks fs q r (chain_tidy q r)
    go false true z e f g p = commands.open_tidy NoJump thrown returned h f ks fs q r a (carries_tidy _ q r)
    go false false true e f g p = optional_tidy h g ks fs q r
    go false false false e f g p = stuck_tidy (step h ks fs q r) p

-- ---- trees

module _ (e : Environment) where
  node_free : (h : Shape) (xs : List Name) (n : ℕ) (ts : Trees) → ((i : ℕ) (q : Demand) (r : Request q) → Asks q → (s : State) → Calm (meaning e ts i q r s)) → (q : Demand) (r : Request q) → Asks q → (s : State) → Calm (means e (node h xs n ts) q r s)
  unfolding means
  node_free h xs n ts k q r a s = commands.run_calm NoJump thrown returned e true (naming h q (variables xs) n (summaries ts)) (λ i r z. meaning e ts i (demand h (facts ts) q i) r z) (λ f i r z b. k i (demand h (facts ts) q i) r b z) (step h (kinds xs) (facts ts) q r) (step_tidy h (kinds xs) (facts ts) q r a) s

  mutual
    unfolding meaning

    pub tree_free : (t : Tree) (q : Demand) (r : Request q) → Asks q → (s : State) → Calm (means e t q r s)
    tree_free (node h xs n ts) q r a s = node_free h xs n ts (λ i q r a s. trees_free ts i q r a s) q r a s

    trees_free : (ts : Trees) (i : ℕ) (q : Demand) (r : Request q) → Asks q → (s : State) → Calm (meaning e ts i q r s)
    trees_free none i q r a s = tt
    trees_free (t ▸ ts) zero q r a s = tree_free t q r a s
    trees_free (t ▸ ts) (suc i) q r a s = trees_free ts i q r a s

-- so what such an end would do besides is never asked
pub calm_stops : {A B : Type 0} (x : Completion A) (f : A → State → Completion B) (g h : Stop → State → Completion B) → Calm x → ((y : Stop) (z : State) → NoJump y → g y z ≡ h y z) → either x f g ≡ either x f h
unfolding either
calm_stops (ok a s) f g h c k = refl
calm_stops (stop y s) f g h c k = k y s c
calm_stops (halt y s) f g h c k = refl
calm_stops out f g h c k = refl

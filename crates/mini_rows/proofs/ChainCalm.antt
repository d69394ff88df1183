-- What never ends a chain that it stands in: commands that don't, and the trees in which each optional link stands in a chain of its own.
use Rattle.std.proofs.Common.{◌≡◌, ℕ, zero, suc, Bool, true, false, List, refl, sym, subst, true≢false}
use Rattle.std.specs.Prelude.{◌&&◌, ◌||◌, None}
use Rattle.std.proofs.lemmas.Bool.{and_parts}
use Rattle.mini_model.specs.declared.name.Name.{Name}
use Rattle.mini_model.specs.declared.operator.UnaryOperator.TheVariants as unary
use Rattle.mini_model.specs.declared.shape.Shape.{Shape}
use Rattle.mini_model.specs.declared.shape.Shape.TheVariants as shape
use Rattle.mini_model.specs.Tree.{Tree, Trees, node, none, ◌▸◌}
use Rattle.mini_laws.specs.Value.{Value, Undefined, variables}
use Rattle.mini_laws.specs.State.{Anything, Entry, State, Stop, Thrown, Returned, Short, Completion, stop, ended, either, Environment}
use Rattle.mini_laws.specs.Demand.{Val, Demand, As, Callee, OfType, Deleted, AnEntry, Stat, Reference, Called, Request}
use Rattle.mini_laws.specs.Command.{Naming, Command, kid, bind, Kids, run}
use Rattle.mini_laws.specs.Naming.{Facts, first_facts, facts_of, naming, kinds, facts, summary, summaries}
use Rattle.mini_laws.specs.Asking.{chained, demand}
use Rattle.mini_laws.specs.Replies.{reply, get_member}
use Rattle.mini_laws.specs.Expressions.{call_event, called_member, chain_end, chain_value, chain_step}
use Rattle.mini_laws.specs.Targets.{private_member, chained_carries}
use Rattle.mini_laws.specs.Step.{step, means, meaning}
use Rattle.mini_rows.specs.Chains.{is_closed_shape, is_open_shape, is_calm, are_calm}
use Rattle.mini_rows.proofs.CalmCommands as commands
use Rattle.mini_rows.proofs.CalmCommands.{Asks}

-- ---- ends that end no chain

abbrev pub NotShort : Stop → Type 0
NotShort Short = ⊥
NotShort y = Unit {0}

pub thrown : (v : Value) → NotShort (Thrown v)
thrown v = tt

pub returned : (v : Value) → NotShort (Returned v)
returned v = tt

abbrev pub Calm : {A : Type 0} → Completion A → Type 0
Calm {A} x = commands.Calm NotShort thrown returned x

pub calm_next : {A B : Type 0} (x : Completion A) (f : A → State → Completion B) → Calm x → ((a : A) (z : State) → Calm (f a z)) → Calm (either x f (λ y z. stop y z))
calm_next x f h k = commands.calm_next NotShort thrown returned x f h k

-- commands that end none

abbrev pub Tidy : {σ : ℕ → Demand} {A : Type 0} → Bool → Command σ A → Type 0
Tidy {σ} {A} b c = commands.Tidy NotShort thrown returned b c

pub run_calm : {σ : ℕ → Demand} {A : Type 0} (e : Environment) (b : Bool) (names : Naming) (K : Kids σ) → (b ≡ true → (i : ℕ) (r : Request (σ i)) (s : State) → Asks (σ i) → Calm (K i r s)) → (c : Command σ A) → Tidy b c → (s : State) → Calm (run e names K c s)
run_calm e b names K h c t s = commands.run_calm NotShort thrown returned e b names K h c t s

pub tidy_bind : {σ : ℕ → Demand} {A B : Type 0} (b : Bool) (c : Command σ A) (f : A → Command σ B) → Tidy b c → ((a : A) → Tidy b (f a)) → Tidy b (bind c f)
tidy_bind b c f t g = commands.tidy_bind NotShort thrown returned b c f t g

pub get_tidy : (σ : ℕ → Demand) (b : Bool) (object key : Value) → Tidy {σ = σ} b (get_member object key)
get_tidy σ b object key = commands.get_tidy NotShort thrown returned σ b object key

pub called_tidy : (σ : ℕ → Demand) (b : Bool) (reference : Reference) → Tidy {σ = σ} b (called_member reference)
called_tidy σ b reference = commands.called_tidy NotShort thrown returned σ b reference

pub call_tidy : (σ : ℕ → Demand) (b o : Bool) (f : Called) (vs : List Entry) → Tidy {σ = σ} b (call_event o f vs)
call_tidy σ b o f vs = commands.call_tidy NotShort thrown returned σ b o f vs

-- ---- a chain of its own, whatever its parts do

end_tidy : (σ : ℕ → Demand) (q : Demand) (r : Request q) (y : Stop) → Tidy {σ = σ} false (chain_end q r (ended y))
end_tidy σ q r Short = commands.reply_tidy NotShort thrown returned σ false q r Undefined
end_tidy σ q r y = tt

value_end_tidy : (σ : ℕ → Demand) (y : Stop) → Tidy {σ = σ} false (chain_value (ended y))
value_end_tidy σ Short = tt
value_end_tidy σ y = tt

chain_tidy : (q : Demand) (r : Request q) → Tidy {σ = λ i. chained q} false (chain_step q r)
chain_tidy (As w) r = (tt, (λ a. tt, λ y p. end_tidy (λ i. As w) (As w) r y))
chain_tidy Callee r = (tt, (λ a. tt, λ y p. end_tidy (λ i. Callee) Callee r y))
chain_tidy Deleted r = (tt, (λ a. tt, λ y p. end_tidy (λ i. Deleted) Deleted r y))
chain_tidy OfType r = tidy_bind {σ = λ i. As Val} false (kid 0 tt chain_value) (reply OfType r) (tt, (λ a. tt, λ y p. value_end_tidy (λ i. As Val) y)) (λ v. tt)
chain_tidy AnEntry r = tidy_bind {σ = λ i. As Val} false (kid 0 tt chain_value) (reply AnEntry r) (tt, (λ a. tt, λ y p. value_end_tidy (λ i. As Val) y)) (λ v. tt)
chain_tidy q r = tt

-- ---- trees

-- nor does a private member over one
closed_unshortened : (h : Shape) → is_closed_shape h ≡ true → (fs : List Facts) → (facts_of h fs).shortens ≡ false
closed_unshortened shape.Absent p fs = refl
closed_unshortened (shape.TemplateElement is_tail raw cooked) p fs = refl
closed_unshortened (shape.Function false is_generator directives) p fs = refl
closed_unshortened (shape.Class false) p fs = refl
closed_unshortened shape.Identifier p fs = refl
closed_unshortened (shape.IdentifierName s) p fs = refl
closed_unshortened (shape.PrivateIdentifier s) p fs = refl
closed_unshortened (shape.NumericLiteral n) p fs = refl
closed_unshortened (shape.StringLiteral s) p fs = refl
closed_unshortened (shape.BooleanLiteral b) p fs = refl
closed_unshortened shape.NullLiteral p fs = refl
closed_unshortened (shape.RegExpLiteral pattern flags) p fs = refl
closed_unshortened (shape.BigIntLiteral n) p fs = refl
closed_unshortened shape.ThisExpression p fs = refl
closed_unshortened (shape.ArrowFunctionExpression directives) p fs = refl
closed_unshortened shape.SuperCallExpression p fs = refl
closed_unshortened shape.SuperStaticMemberExpression p fs = refl
closed_unshortened shape.SuperComputedMemberExpression p fs = refl
closed_unshortened shape.PrivateInExpression p fs = refl
closed_unshortened shape.TaggedTemplateExpression p fs = refl
closed_unshortened (shape.MetaProperty k) p fs = refl
closed_unshortened shape.ImportExpression p fs = refl
closed_unshortened shape.ChainExpression p fs = refl
closed_unshortened shape.ObjectAssignmentTarget p fs = refl
closed_unshortened shape.ArrayAssignmentTarget p fs = refl
closed_unshortened h p fs = absurd (true≢false (sym p))

open_unshortened : (h : Shape) → is_open_shape h ≡ true → (fs : List Facts) → (first_facts fs).shortens ≡ false → (facts_of h fs).shortens ≡ false
open_unshortened (shape.UnaryExpression unary.LogicalNot) p fs u = u
open_unshortened (shape.UnaryExpression o) p fs u = refl
open_unshortened (shape.CallExpression false) p fs u = u
open_unshortened (shape.StaticMemberExpression false) p fs u = u
open_unshortened (shape.ComputedMemberExpression false) p fs u = u
open_unshortened (shape.PrivateFieldExpression false) p fs u = u
open_unshortened shape.InnerExpression p fs u = u
open_unshortened shape.Listed p fs u = refl
open_unshortened shape.ArrayExpression p fs u = refl
open_unshortened shape.ObjectExpression p fs u = refl
open_unshortened (shape.ObjectProperty k is_method is_shorthand is_computed) p fs u = refl
open_unshortened shape.SpreadElement p fs u = refl
open_unshortened (shape.UpdateExpression o is_prefix) p fs u = refl
open_unshortened (shape.BinaryExpression o) p fs u = refl
open_unshortened (shape.LogicalExpression o) p fs u = refl
open_unshortened (shape.AssignmentExpression o) p fs u = refl
open_unshortened shape.ConditionalExpression p fs u = refl
open_unshortened shape.SequenceExpression p fs u = refl
open_unshortened shape.NewExpression p fs u = refl
open_unshortened (shape.YieldExpression is_delegate) p fs u = refl
open_unshortened shape.TemplateLiteral p fs u = refl
open_unshortened h p fs u = absurd (true≢false (sym p))

shape_unshortened : (h : Shape) (b c : Bool) → is_closed_shape h ≡ b → b || (is_open_shape h && c) ≡ true → (fs : List Facts) → (c ≡ true → (first_facts fs).shortens ≡ false) → (facts_of h fs).shortens ≡ false
shape_unshortened h true c e p fs k = closed_unshortened h e fs
shape_unshortened h false c e p fs k = let (opens, inside) = and_parts (is_open_shape h) c p in open_unshortened h opens fs (k inside)

mutual
  tree_unshortened : (t : Tree) → is_calm t ≡ true → (summary t).facts.shortens ≡ false
  tree_unshortened (node h xs n ts) p = shape_unshortened h (is_closed_shape h) (are_calm ts) refl p (facts ts) (trees_unshortened ts)

  trees_unshortened : (ts : Trees) → are_calm ts ≡ true → (first_facts (facts ts)).shortens ≡ false
  trees_unshortened none p = refl
  trees_unshortened (t ▸ ts) p = tree_unshortened t (and_parts (is_calm t) (are_calm ts) p).0

plain_private : {b : Bool} → b ≡ false → (q : Demand) (r : Request q) → Tidy {σ = λ i. Stat None} true (private_member (chained_carries false b) q r)
plain_private u q r = subst (λ b. Tidy {σ = λ i. Stat None} true (private_member (chained_carries false b) q r)) (sym u) (commands.private_tidy NotShort thrown returned (λ i. Stat None) true Anything tt tt q r)

module _ (e : Environment) where
  node_calm : (h : Shape) (xs : List Name) (n : ℕ) (ts : Trees) → ((i : ℕ) (q : Demand) (r : Request q) → are_calm ts ≡ true → Asks q → (s : State) → Calm (meaning e ts i q r s)) → (b : Bool) → is_closed_shape h ≡ b → b || (is_open_shape h && are_calm ts) ≡ true → (q : Demand) (r : Request q) → Asks q → (s : State) → Calm (means e (node h xs n ts) q r s)
  unfolding means
  node_calm h xs n ts k true c p q r a s = run_calm e false (naming h q (variables xs) n (summaries ts)) (λ i r z. meaning e ts i (demand h (facts ts) q i) r z) (λ f. absurd (true≢false (sym f))) (step h (kinds xs) (facts ts) q r) (commands.closed_tidy NotShort thrown returned false h c (kinds xs) (facts ts) q r (chain_tidy q r)) s
  node_calm h xs n ts k false c p q r a s =
      let (opens, inside) = and_parts (is_open_shape h) (are_calm ts) p in
      run_calm e true (naming h q (variables xs) n (summaries ts)) (λ i r z. meaning e ts i (demand h (facts ts) q i) r z) (λ f i r z b. k i (demand h (facts ts) q i) r inside b z) (step h (kinds xs) (facts ts) q r) (commands.open_tidy NotShort thrown returned h opens (kinds xs) (facts ts) q r a (plain_private (trees_unshortened ts inside) q r)) s

  mutual
    unfolding meaning

    pub tree_calm : (t : Tree) → is_calm t ≡ true → (q : Demand) (r : Request q) → Asks q → (s : State) → Calm (means e t q r s)
    tree_calm (node h xs n ts) p q r a s = node_calm h xs n ts (λ i q r p a s. trees_calm ts p i q r a s) (is_closed_shape h) refl p q r a s

    pub trees_calm : (ts : Trees) → are_calm ts ≡ true → (i : ℕ) (q : Demand) (r : Request q) → Asks q → (s : State) → Calm (meaning e ts i q r s)
    trees_calm none p i q r a s = tt
    trees_calm (t ▸ ts) p zero q r a s = tree_calm t (and_parts (is_calm t) (are_calm ts) p).0 q r a s
    trees_calm (t ▸ ts) p (suc i) q r a s = trees_calm ts (and_parts (is_calm t) (are_calm ts) p).1 i q r a s

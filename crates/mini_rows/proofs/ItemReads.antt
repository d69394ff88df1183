-- An expression as an item of a list is read by its value.
use Rattle.std.proofs.Common.{◌≡◌, ℕ, true, false, List, [], refl, sym, ap, ◌∙◌}
use Rattle.std.specs.Prelude.{None}
use Rattle.mini_model.specs.declared.name.Name.{Name}
use Rattle.mini_model.specs.declared.shape.Shape.{Shape}
use Rattle.mini_model.specs.declared.shape.Shape.TheVariants as shape
use Rattle.mini_model.specs.Tree.{Tree, Trees, node}
use Rattle.mini_laws.specs.Value.{Value, variables}
use Rattle.mini_laws.specs.State.{Anything, AnObject, NodeOf, Create, Item, Short, done, ended, State, Completion, ok, stop, halt, out, either, Environment}
use Rattle.mini_laws.specs.Demand.{Val, Demand, As, AnEntry, Stat, Binds}
use Rattle.mini_laws.specs.Command.{Naming, Command, bind, emit_mine, Kids, run}
use Rattle.mini_laws.specs.Naming.{kinds, first_facts, summaries, facts, naming}
use Rattle.mini_laws.specs.Replies.{reply, valued}
use Rattle.mini_laws.specs.Expressions.{chain_value, chain_end, first_kind, get_identifier, member_step, got}
use Rattle.mini_laws.specs.Targets.{chained_carries}
use Rattle.mini_laws.specs.Step.{step, means, meaning}
use Rattle.mini_laws.specs.Truth.{told}
use Rattle.mini_laws.proofs.Runs.{either_eta, run_bind}
use Rattle.mini_terms.specs.Reading.{is_item, is_item_by, is_plain_part, by_value}
use Rattle.mini_terms.proofs.Reading.{read_by_value}

-- a chain that ends in its midst is undefined
chain_goes : (e : Environment) (names : Naming) (K : Kids (λ i. As Val)) (x : Completion Value)
    → either x (λ v z. run {q = λ i. As Val} e names K (bind (chain_value (done v)) (reply AnEntry tt)) z) (λ y z. run {q = λ i. As Val} e names K (bind (chain_value (ended y)) (reply AnEntry tt)) z)
    ≡ by_value AnEntry tt (either x (λ v z. run {q = λ i. As Val} e names K (chain_end (As Val) tt (done v)) z) (λ y z. run {q = λ i. As Val} e names K (chain_end (As Val) tt (ended y)) z))
unfolding by_value either
chain_goes e names K (ok v s) = refl
chain_goes e names K (stop Short s) = refl
chain_goes e names K (stop y s) = refl
chain_goes e names K (halt y s) = refl
chain_goes e names K out = refl

module _ (e : Environment) where
  entry_reads : (names : Naming) (σ : ℕ → Demand) (c : Command σ Value) (K : Kids σ) (s : State) → run e names K (valued AnEntry tt c) s ≡ by_value AnEntry tt (run e names K (valued (As Val) tt c) s)
  unfolding by_value told
  entry_reads names σ c K s = run_bind e names c (reply AnEntry tt) K s ∙ sym (ap (λ x. either x (λ v z. ok (Item v) z) (λ x z. stop x z)) (run_bind e names c (reply (As Val) tt) K s ∙ either_eta (run e names K c s)))

  abbrev named : Shape → List Name → ℕ → Trees → Naming
  named h xs n ts = naming h (As Val) (variables xs) n (summaries ts)

  abbrev of_kids : (σ : ℕ → Demand) → Trees → Kids σ
  of_kids σ ts i r z = meaning e ts i (σ i) r z

  item_reads : (h : Shape) → is_item_by h ≡ true → (xs : List Name) (n : ℕ) (ts : Trees) (s : State) → means e (node h xs n ts) AnEntry tt s ≡ by_value AnEntry tt (means e (node h xs n ts) (As Val) tt s)
  unfolding means step by_value either
  item_reads shape.Identifier p xs n ts s = entry_reads (named shape.Identifier xs n ts) (λ i. Stat None) (get_identifier (first_kind (kinds xs))) (of_kids (λ i. Stat None) ts) s
  item_reads (shape.StaticMemberExpression b) p xs n ts s = entry_reads (named (shape.StaticMemberExpression b) xs n ts) (λ i. As Val) (bind (member_step b) got) (of_kids (λ i. As Val) ts) s
  item_reads (shape.ComputedMemberExpression b) p xs n ts s = entry_reads (named (shape.ComputedMemberExpression b) xs n ts) (λ i. As Val) (bind (member_step b) got) (of_kids (λ i. As Val) ts) s
  item_reads (shape.PrivateFieldExpression b) p xs n ts s = entry_reads (named (shape.PrivateFieldExpression b) xs n ts) (λ i. Stat None) (emit_mine (NodeOf (chained_carries b (first_facts (facts ts)).shortens)) []) (of_kids (λ i. Stat None) ts) s
  item_reads shape.SuperStaticMemberExpression p xs n ts s = entry_reads (named shape.SuperStaticMemberExpression xs n ts) (λ i. Stat None) (emit_mine (NodeOf Anything) []) (of_kids (λ i. Stat None) ts) s
  item_reads shape.SuperComputedMemberExpression p xs n ts s = entry_reads (named shape.SuperComputedMemberExpression xs n ts) (λ i. Stat None) (emit_mine (NodeOf Anything) []) (of_kids (λ i. Stat None) ts) s
  item_reads (shape.Function false g ds) p xs n ts s = entry_reads (named (shape.Function false g ds) xs n ts) (λ i. Stat None) (emit_mine Create []) (of_kids (λ i. Stat None) ts) s
  item_reads (shape.Class false) p xs n ts s = entry_reads (named (shape.Class false) xs n ts) (λ i. Binds true) (emit_mine (NodeOf AnObject) []) (of_kids (λ i. Binds true) ts) s
  item_reads (shape.BigIntLiteral m) p xs n ts s = refl
  item_reads shape.ChainExpression p xs n ts s = chain_goes e (named shape.ChainExpression xs n ts) (of_kids (λ i. As Val) ts) (meaning e ts 0 (As Val) tt s)
  item_reads h p xs n ts s = read_by_value (node h xs n ts) p e AnEntry tt s

pub item_read : (n : Tree) → is_item n ≡ true → (e : Environment) (s : State) → means e n AnEntry tt s ≡ by_value AnEntry tt (means e n (As Val) tt s)
item_read (node h xs n ts) p e s = item_reads e h p xs n ts s

-- what a parent reads no more of than that it is there may be one
pub plain_item : (t : Tree) → is_plain_part t ≡ true → is_item t ≡ true
plain_item (node (shape.CallExpression b) xs n ts) e = refl
plain_item (node (shape.StaticMemberExpression b) xs n ts) e = refl
plain_item (node (shape.ComputedMemberExpression b) xs n ts) e = refl
plain_item (node (shape.PrivateFieldExpression b) xs n ts) e = refl
plain_item (node (shape.UnaryExpression o) xs n ts) e = refl
plain_item (node h xs n ts) e = e

-- An expression that is an item of a list, as an argument, is read by its value, and what a list gives is that of its first item and of the rest.
use Rattle.std.proofs.Common.{◌≡◌, ℕ, Bool, true, false, List, [], ◌∷◌, None, refl, sym, ap, ◌∙◌}
use Rattle.std.specs.Prelude.{length, ◌||◌}
use Rattle.mini_model.specs.declared.name.Name.{Name}
use Rattle.mini_model.specs.declared.shape.Shape.{Shape}
use Rattle.mini_model.specs.declared.shape.Shape.TheVariants as shape
use Rattle.mini_model.specs.Tree.{Tree, Trees, node, none, ◌▸◌, absent}
use Rattle.mini_laws.specs.Value.{Value, variables}
use Rattle.mini_laws.specs.State.{Anything, AnObject, NodeOf, Create, SpreadOf, Entry, Item, Spreaded, Short, done, ended, State, Completion, ok, stop, halt, out, either, Environment}
use Rattle.mini_laws.specs.Demand.{Val, Demand, As, AnEntry, Items, Stat, Binds}
use Rattle.mini_laws.specs.Command.{Naming, Command, ret, bind, shift, emit, emit_mine, Kids, act, run}
use Rattle.mini_laws.specs.Naming.{kinds, first_facts, summaries, facts, naming}
use Rattle.mini_laws.specs.Replies.{reply, valued}
use Rattle.mini_laws.specs.Expressions.{first_kind, get_identifier, member_step, got, chain_value, chain_end}
use Rattle.mini_laws.specs.Targets.{chained_carries}
use Rattle.mini_laws.specs.Lists.{entries}
use Rattle.mini_laws.specs.Step.{step, means, meaning}
use Rattle.mini_laws.proofs.Runs.{either_cong, either_eta, run_bind, run_shift}
use Rattle.mini_terms.specs.Reading.{is_item, is_item_by, by_value}
use Rattle.mini_terms.proofs.Reading.{read_by_value}
use Rattle.mini_rows.specs.Choices.{spread, argument}
use Rattle.mini_rows.proofs.ChainRuns.{items, next}
use Rattle.mini_rows.proofs.ChoiceRuns.{value}

abbrev pub entry : Environment → Tree → State → Completion Entry
entry e t s = means e t AnEntry tt s

-- the item that a value is
abbrev pub item : Completion Value → Completion Entry
item x = next x (λ v z. ok (Item v) z)

-- ---- an item is read by its value

replied : (e : Environment) (names : Naming) (σ : ℕ → Demand) (c : Command σ Value) (K : Kids σ) (s : State) → run {q = σ} e names K (valued AnEntry tt c) s ≡ item (run {q = σ} e names K (valued (As Val) tt c) s)
replied e names σ c K s = run_bind e names c (reply AnEntry tt) K s ∙ sym (ap item (run_bind e names c (reply (As Val) tt) K s ∙ either_eta (run {q = σ} e names K c s)))

-- a chain that ends in its midst is undefined
chain_item : (e : Environment) (names : Naming) (K : Kids (λ i. As Val)) (x : Completion Value) → either x (λ v z. run {q = λ i. As Val} e names K (bind (chain_value (done v)) (reply AnEntry tt)) z) (λ y z. run {q = λ i. As Val} e names K (bind (chain_value (ended y)) (reply AnEntry tt)) z) ≡ item (either x (λ v z. run {q = λ i. As Val} e names K (chain_end (As Val) tt (done v)) z) (λ y z. run {q = λ i. As Val} e names K (chain_end (As Val) tt (ended y)) z))
unfolding either
chain_item e names K (ok v s) = refl
chain_item e names K (stop Short s) = refl
chain_item e names K (stop y s) = refl
chain_item e names K (halt y s) = refl
chain_item e names K out = refl

module _ (e : Environment) where
  abbrev named : Shape → List Name → ℕ → Trees → Naming
  named h xs n ts = naming h (As Val) (variables xs) n (summaries ts)

  abbrev of_kids : (σ : ℕ → Demand) → Trees → Kids σ
  of_kids σ ts i r z = meaning e ts i (σ i) r z

  item_by : (h : Shape) → is_item_by h ≡ true → (xs : List Name) (n : ℕ) (ts : Trees) (s : State) → entry e (node h xs n ts) s ≡ item (value e (node h xs n ts) s)
  unfolding means step by_value either
  item_by shape.Identifier p xs n ts s = replied e (named shape.Identifier xs n ts) (λ i. Stat None) (get_identifier (first_kind (kinds xs))) (of_kids (λ i. Stat None) ts) s
  item_by (shape.StaticMemberExpression b) p xs n ts s = replied e (named (shape.StaticMemberExpression b) xs n ts) (λ i. As Val) (bind (member_step b) got) (of_kids (λ i. As Val) ts) s
  item_by (shape.ComputedMemberExpression b) p xs n ts s = replied e (named (shape.ComputedMemberExpression b) xs n ts) (λ i. As Val) (bind (member_step b) got) (of_kids (λ i. As Val) ts) s
  item_by (shape.PrivateFieldExpression b) p xs n ts s = replied e (named (shape.PrivateFieldExpression b) xs n ts) (λ i. Stat None) (emit_mine (NodeOf (chained_carries b (first_facts (facts ts)).shortens)) []) (of_kids (λ i. Stat None) ts) s
  item_by shape.SuperStaticMemberExpression p xs n ts s = replied e (named shape.SuperStaticMemberExpression xs n ts) (λ i. Stat None) (emit_mine (NodeOf Anything) []) (of_kids (λ i. Stat None) ts) s
  item_by shape.SuperComputedMemberExpression p xs n ts s = replied e (named shape.SuperComputedMemberExpression xs n ts) (λ i. Stat None) (emit_mine (NodeOf Anything) []) (of_kids (λ i. Stat None) ts) s
  item_by (shape.Function false g ds) p xs n ts s = replied e (named (shape.Function false g ds) xs n ts) (λ i. Stat None) (emit_mine Create []) (of_kids (λ i. Stat None) ts) s
  item_by (shape.Class false) p xs n ts s = replied e (named (shape.Class false) xs n ts) (λ i. Binds true) (emit_mine (NodeOf AnObject) []) (of_kids (λ i. Binds true) ts) s
  item_by (shape.BigIntLiteral m) p xs n ts s = refl
  item_by shape.ChainExpression p xs n ts s = chain_item e (named shape.ChainExpression xs n ts) (of_kids (λ i. As Val) ts) (meaning e ts 0 (As Val) tt s)
  item_by h p xs n ts s = read_by_value (node h xs n ts) p e AnEntry tt s

pub item_read : (t : Tree) → is_item t ≡ true → (e : Environment) (s : State) → entry e t s ≡ item (value e t s)
item_read (node h xs n ts) p e s = item_by e h p xs n ts s

-- ---- what is spread is read by its operand's value

abbrev spread_names : Tree → Naming
spread_names a = naming shape.SpreadElement AnEntry [] 0 (summaries (a ▸ none))

abbrev spread_operand : Environment → Tree → Kids (λ i. As Val)
spread_operand e a i r z = meaning e (a ▸ none) i (As Val) r z

abbrev spreads : Value → Command (λ i. As Val) Entry
spreads v = bind (emit SpreadOf (Item v ∷ [])) (λ w. ret (Spreaded w))

-- with the value of its operand, which is this one
abbrev pub spread_entry : Environment → Value → State → Completion Entry
spread_entry e v z = run {q = λ i. As Val} e (spread_names absent) (spread_operand e absent) (spreads v) z

spread_alike : (e : Environment) (a b : Tree) (v : Value) (z : State) → run {q = λ i. As Val} e (spread_names a) (spread_operand e a) (spreads v) z ≡ run {q = λ i. As Val} e (spread_names b) (spread_operand e b) (spreads v) z
unfolding act
spread_alike e a b v z = refl

spread_replied : (e : Environment) (a : Tree) (v : Value) (z : State) → run {q = λ i. As Val} e (spread_names a) (spread_operand e a) (bind (spreads v) ret) z ≡ spread_entry e v z
spread_replied e a v z = run_bind e (spread_names a) (spreads v) ret (spread_operand e a) z ∙ either_eta (run {q = λ i. As Val} e (spread_names a) (spread_operand e a) (spreads v) z) ∙ spread_alike e a absent v z

spread_read : (e : Environment) (a : Tree) (s : State) → entry e (spread a) s ≡ next (value e a s) (λ v z. spread_entry e v z)
unfolding means meaning step
spread_read e a s = either_cong (value e a s) _ _ _ _ (λ v z. spread_replied e a v z) (λ x z. refl)

-- so an argument by that of its expression
abbrev pub given : Environment → Bool → Completion Value → Completion Entry
given e false x = item x
given e true x = next x (λ v z. spread_entry e v z)

pub argument_read : (b : Bool) (t : Tree) → b || is_item t ≡ true → (e : Environment) (s : State) → entry e (argument b t) s ≡ given e b (value e t s)
argument_read false t p e s = item_read t p e s
argument_read true t p e s = spread_read e t s

pub nothing_given : (e : Environment) (b : Bool) → given e b out ≡ out
unfolding either
nothing_given e false = refl
nothing_given e true = refl

-- ---- arguments, one after another

-- those behind the first, once that is known
abbrev pub gathers : Environment → Trees → Entry → State → Completion (List Entry)
gathers e ts x z = next (items e ts z) (λ xs y. ok (x ∷ xs) y)

pub items_split : (e : Environment) (t : Tree) (ts : Trees) (s : State) → items e (t ▸ ts) s ≡ next (entry e t s) (gathers e ts)
unfolding means meaning step
items_split e t ts s =
    let names : Naming = naming shape.Listed Items [] 0 (summaries (t ▸ ts)) in
    let kids : Kids (λ i. AnEntry) = λ i r z. meaning e (t ▸ ts) i AnEntry r z in
    let rest : Command (λ i. AnEntry) (List Entry) = entries (length (facts ts)) in
    either_cong (entry e t s) _ _ _ _
    (λ x z.
    run_bind e names (shift {q = λ i. AnEntry} rest) (λ es. ret (x ∷ es)) kids z
    ∙ ap (λ y. next y (λ xs k. ok (x ∷ xs) k)) (run_shift e names (λ i. AnEntry) rest kids z))
    (λ x z. refl)

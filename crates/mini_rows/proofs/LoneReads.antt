-- What is called without a `this` is deleted by its value alone, too.
use Rattle.std.proofs.Common.{◌≡◌, ℕ, true, false, List, [], sym, ap, refl, ◌∙◌}
use Rattle.std.specs.Prelude.{None}
use Rattle.mini_model.specs.declared.name.Name.{Name}
use Rattle.mini_model.specs.declared.shape.Shape.{Shape}
use Rattle.mini_model.specs.declared.shape.Shape.TheVariants as shape
use Rattle.mini_model.specs.Tree.{Tree, Trees, node}
use Rattle.mini_laws.specs.Value.{Value, variables}
use Rattle.mini_laws.specs.State.{AnObject, NodeOf, Create, State, either, Environment}
use Rattle.mini_laws.specs.Demand.{Val, Demand, As, Deleted, Stat, Binds}
use Rattle.mini_laws.specs.Command.{Naming, Command, Kids, emit_mine, run}
use Rattle.mini_laws.specs.Replies.{reply, valued}
use Rattle.mini_laws.specs.Naming.{naming, summaries}
use Rattle.mini_laws.specs.Step.{step, means, meaning}
use Rattle.mini_laws.proofs.Runs.{either_eta, run_bind}
use Rattle.mini_terms.specs.Reading.{by_value}
use Rattle.mini_terms.proofs.Reading.{read_by_value}
use Rattle.mini_rows.specs.ChainLinks.{is_lone_by, is_lone}
use Rattle.mini_rows.proofs.ChoiceRuns.{value}

deleted_reads : (e : Environment) (names : Naming) (σ : ℕ → Demand) (c : Command σ Value) (K : Kids σ) (s : State) → run e names K (valued Deleted tt c) s ≡ by_value Deleted tt (run e names K (valued (As Val) tt c) s)
unfolding by_value
deleted_reads e names σ c K s = run_bind e names c (reply Deleted tt) K s ∙ sym (ap (by_value Deleted tt) (run_bind e names c (reply (As Val) tt) K s ∙ either_eta (run e names K c s)))

lone_deleted : (e : Environment) (h : Shape) → is_lone_by h ≡ true → (xs : List Name) (n : ℕ) (ts : Trees) (s : State) → means e (node h xs n ts) Deleted tt s ≡ by_value Deleted tt (value e (node h xs n ts) s)
unfolding means step by_value either
lone_deleted e (shape.Function false g ds) p xs n ts s = deleted_reads e (naming (shape.Function false g ds) (As Val) (variables xs) n (summaries ts)) (λ i. Stat None) (emit_mine Create []) (λ i r z. meaning e ts i (Stat None) r z) s
lone_deleted e (shape.Class false) p xs n ts s = deleted_reads e (naming (shape.Class false) (As Val) (variables xs) n (summaries ts)) (λ i. Binds true) (emit_mine (NodeOf AnObject) []) (λ i r z. meaning e ts i (Binds true) r z) s
lone_deleted e (shape.BigIntLiteral m) p xs n ts s = refl
lone_deleted e h p xs n ts s = read_by_value (node h xs n ts) p e Deleted tt s

pub deleted_alone : (e : Environment) (a : Tree) → is_lone a ≡ true → (s : State) → means e a Deleted tt s ≡ by_value Deleted tt (value e a s)
deleted_alone e (node h xs n ts) p s = lone_deleted e h p xs n ts s

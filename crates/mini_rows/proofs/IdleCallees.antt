-- A callee that has no effect: its value is what is called.
use Rattle.std.proofs.Common.{◌≡◌, ℕ, Bool, true, false, List, refl, sym, ap, ◌∙◌, inl, inr, true≢false}
use Rattle.std.specs.Prelude.{None}
use Rattle.mini_model.specs.declared.name.Name.{Name}
use Rattle.mini_model.specs.declared.shape.Shape.TheVariants as shape
use Rattle.mini_model.specs.Tree.{Tree, Trees, node}
use Rattle.mini_laws.specs.Value.{variables}
use Rattle.mini_laws.specs.State.{State, ok, either, Environment}
use Rattle.mini_laws.specs.Demand.{Val, As, Callee, Stat}
use Rattle.mini_laws.specs.Expressions.{first_kind, is_eval}
use Rattle.mini_laws.specs.Naming.{kinds, naming, summaries}
use Rattle.mini_laws.specs.Step.{step, means, meaning}
use Rattle.mini_terms.specs.Effects.{ef}
use Rattle.mini_rows.specs.ChainLinks.{is_lone}
use Rattle.mini_rows.proofs.ChainLinkMeaning.{base_called}
use Rattle.mini_rows.proofs.ChainRuns.{called, next, value, named_call, name_kind}
use Rattle.mini_rows.proofs.ChoiceFree.{Told}

-- what is called is its value, with no `this`; of a name it may be a direct eval
pub record CalledByValue (e : Environment) (f : Tree) : Type 0 where
  pub direct : Bool
  pub reads : (s : State) → called e f s ≡ next (value e f s) (λ v z. ok (named_call direct v) z)

plainly : (e : Environment) (f : Tree) → is_lone f ≡ true → CalledByValue e f
plainly e f p = record { direct = false; reads = λ s. base_called e f p s }

name_reads : (e : Environment) (xs : List Name) (n : ℕ) (ts : Trees) (s : State) → called e (node shape.Identifier xs n ts) s ≡ next (value e (node shape.Identifier xs n ts) s) (λ v z. ok (named_call (is_eval (first_kind (kinds xs))) v) z)
unfolding means step
name_reads e xs n ts s = name_kind e (naming shape.Identifier Callee (variables xs) n (summaries ts)) (naming shape.Identifier (As Val) (variables xs) n (summaries ts)) (λ i. Stat None) (λ i. Stat None) (λ i r z. meaning e ts i (Stat None) r z) (λ i r z. meaning e ts i (Stat None) r z) (first_kind (kinds xs)) refl s

list_reads : (e : Environment) (xs : List Name) (n : ℕ) (ts : Trees) (s : State) → called e (node shape.Listed xs n ts) s ≡ next (value e (node shape.Listed xs n ts) s) (λ v z. ok (named_call false v) z)
unfolding means step either
list_reads e xs n ts s = refl

-- whether `this` is asked of the world or not
pub idle_called : (e : Environment) (asked : Bool) (f : Tree) → ef asked f ≡ true → CalledByValue e f
idle_called e asked (node shape.Identifier xs n ts) h = record { direct = is_eval (first_kind (kinds xs)); reads = name_reads e xs n ts }
idle_called e asked (node shape.Listed xs n ts) h = record { direct = false; reads = list_reads e xs n ts }
idle_called e asked (node (shape.NumericLiteral m) xs n ts) h = plainly e (node (shape.NumericLiteral m) xs n ts) refl
idle_called e asked (node (shape.StringLiteral t) xs n ts) h = plainly e (node (shape.StringLiteral t) xs n ts) refl
idle_called e asked (node (shape.BooleanLiteral b) xs n ts) h = plainly e (node (shape.BooleanLiteral b) xs n ts) refl
idle_called e asked (node shape.NullLiteral xs n ts) h = plainly e (node shape.NullLiteral xs n ts) refl
idle_called e asked (node (shape.BigIntLiteral m) xs n ts) h = plainly e (node (shape.BigIntLiteral m) xs n ts) refl
idle_called e asked (node shape.ThisExpression xs n ts) h = plainly e (node shape.ThisExpression xs n ts) refl
idle_called e asked (node (shape.UnaryExpression o) xs n ts) h = plainly e (node (shape.UnaryExpression o) xs n ts) refl
idle_called e asked (node (shape.BinaryExpression o) xs n ts) h = plainly e (node (shape.BinaryExpression o) xs n ts) refl
idle_called e asked (node (shape.LogicalExpression o) xs n ts) h = plainly e (node (shape.LogicalExpression o) xs n ts) refl
idle_called e asked (node shape.ConditionalExpression xs n ts) h = plainly e (node shape.ConditionalExpression xs n ts) refl
idle_called e asked (node shape.SequenceExpression xs n ts) h = plainly e (node shape.SequenceExpression xs n ts) refl
idle_called e asked (node shape.TemplateLiteral xs n ts) h = plainly e (node shape.TemplateLiteral xs n ts) refl
idle_called e asked (node h xs n ts) g = absurd (true≢false (sym g))

-- so it is outside the model, or known with nothing done besides
pub callee_told : (e : Environment) (f : Tree) → CalledByValue e f → (s : State) → Told (value e f s) s → Told (called e f s) s
unfolding either
callee_told e f c s (inl o) = inl (c.reads s ∙ ap (λ y. next y (λ v z. ok (named_call c.direct v) z)) o)
callee_told e f c s (inr (v, k)) = inr (named_call c.direct v, c.reads s ∙ ap (λ y. next y (λ v z. ok (named_call c.direct v) z)) k)

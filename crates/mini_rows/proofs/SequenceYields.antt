-- A `yield` over a sequence: what it does, and where it stands.
use Rattle.std.proofs.Common.{◌≡◌, Bool, true, false, [], ◌∷◌, refl, sym, ap, ◌∙◌}
use Rattle.std.specs.Prelude.{◌&&◌, None, if◌then◌else◌}
use Rattle.mini_model.specs.declared.shape.Shape.TheVariants as shape
use Rattle.mini_model.specs.Tree.{Tree, Trees, none, ◌▸◌, absent}
use Rattle.mini_accept.specs.WellShaped.{Depth, in_module, in_body, nested, Class, a_statement, an_init, an_arrow_body, an_expression, a_link, an_argument, a_key, a_private_or_key, an_inner_key, a_default_export, Slot, one, one_or_absent, statement_slots, filling_by, fits}
use Rattle.mini_kept.proofs.Bools.{left, both}
use Rattle.mini_kept.proofs.Expressions.{refused_here, expression, TakesExpressionIn, TakesExpression, expression_taken}
use Rattle.mini_laws.specs.Value.{Value}
use Rattle.mini_laws.specs.State.{State, YieldOf, Item, Completion, stop, either, Environment}
use Rattle.mini_laws.specs.Demand.{Val, As}
use Rattle.mini_laws.specs.Command.{Naming, Command, bind, emit, Kids, act, run}
use Rattle.mini_laws.specs.Naming.{summaries, naming}
use Rattle.mini_laws.specs.Replies.{reply}
use Rattle.mini_laws.specs.Step.{step, means, meaning}
use Rattle.mini_laws.proofs.Runs.{either_cong, either_eta, run_bind}
use Rattle.mini_rows.specs.Sequences.{yielded}
use Rattle.mini_rows.proofs.ChoiceRuns.{value}

-- ---- what it does

abbrev yield_names : Bool → Tree → Naming
yield_names d a = naming (shape.YieldExpression d) (As Val) [] 0 (summaries (a ▸ none))

abbrev operand : Environment → Tree → Kids (λ i. As Val)
operand e a i r z = meaning e (a ▸ none) i (As Val) r z

abbrev hands_out : Bool → Value → Command (λ i. As Val) Value
hands_out d v = emit (YieldOf d) (Item v ∷ [])

-- with the value of its operand, which is this one
abbrev pub yields_value : Environment → Bool → Value → State → Completion Value
yields_value e d v z = run {q = λ i. As Val} e (yield_names d absent) (operand e absent) (hands_out d v) z

handed_alike : (e : Environment) (d : Bool) (a b : Tree) (v : Value) (z : State) → run {q = λ i. As Val} e (yield_names d a) (operand e a) (hands_out d v) z ≡ run {q = λ i. As Val} e (yield_names d b) (operand e b) (hands_out d v) z
unfolding act
handed_alike e d a b v z = refl

replied : (e : Environment) (d : Bool) (a : Tree) (v : Value) (z : State) → run {q = λ i. As Val} e (yield_names d a) (operand e a) (bind (hands_out d v) (reply (As Val) tt)) z ≡ yields_value e d v z
replied e d a v z = run_bind e (yield_names d a) (hands_out d v) (reply (As Val) tt) (operand e a) z ∙ either_eta (run {q = λ i. As Val} e (yield_names d a) (operand e a) (hands_out d v) z) ∙ handed_alike e d a absent v z

pub yield_value : (e : Environment) (d : Bool) (a : Tree) (s : State) → value e (yielded d a) s ≡ either (value e a s) (λ v z. yields_value e d v z) (λ x z. stop x z)
unfolding means meaning step
yield_value e d a s = either_cong (value e a s) _ _ _ _ (λ v z. replied e d a v z) (λ x z. refl)

-- ---- where it stands

yield_nowhere : (strict d : Bool) (p : Depth) → statement_slots strict p (shape.YieldExpression d) ≡ None
yield_nowhere true d in_module = refl
yield_nowhere true d in_body = refl
yield_nowhere true d nested = refl
yield_nowhere false d in_module = refl
yield_nowhere false d in_body = refl
yield_nowhere false d nested = refl

module _ (strict d : Bool) (t : Tree) (there : fits strict (one_or_absent an_expression) t ≡ fits strict expression t) where
  abbrev Fits : Tree → Type 0
  Fits u = fits strict expression u ≡ true

  abbrev here : Trees
  here = t ▸ none

  operand_fits : (b : Bool) → fits strict (if b then one an_expression else one_or_absent an_expression) t && true ≡ true → Fits t
  operand_fits true e = left (fits strict expression t) true e
  operand_fits false e = sym there ∙ left (fits strict (one_or_absent an_expression) t) true e

  yield_in : (k : Class) → fits strict (one k) (yielded d t) ≡ true → TakesExpressionIn k × Fits t
  yield_in an_expression e = (tt, operand_fits d e)
  yield_in a_link e = (tt, operand_fits d e)
  yield_in an_argument e = (tt, operand_fits d e)
  yield_in an_init e = (tt, operand_fits d e)
  yield_in (a_key true) e = (tt, operand_fits d e)
  yield_in (a_key false) e = absurd (refused_here strict (one (a_key false)) (shape.YieldExpression d) [] 0 here refl e)
  yield_in an_arrow_body e = (tt, operand_fits d e)
  yield_in a_default_export e = (tt, operand_fits d e)
  yield_in (a_statement p) e = absurd (refused_here strict (one (a_statement p)) (shape.YieldExpression d) [] 0 here (ap filling_by (yield_nowhere strict d p)) e)
  yield_in (a_private_or_key true) e = absurd (refused_here strict (one (a_private_or_key true)) (shape.YieldExpression d) [] 0 here refl e)
  yield_in (an_inner_key true) e = absurd (refused_here strict (one (an_inner_key true)) (shape.YieldExpression d) [] 0 here refl e)
  yield_in k e = absurd (refused_here strict (one k) (shape.YieldExpression d) [] 0 here refl e)

  pub yield_at : (s : Slot) → fits strict s (yielded d t) ≡ true → TakesExpression s × Fits t
  yield_at (one k) e = yield_in k e
  yield_at (one_or_absent k) e = yield_in k e
  yield_at s e = absurd (refused_here strict s (shape.YieldExpression d) [] 0 here refl e)

pub yielded_fits : (strict d : Bool) (l : Tree) → fits strict expression l ≡ true → fits strict expression (yielded d l) ≡ true
yielded_fits strict true l f = both (fits strict expression l) true f refl
yielded_fits strict false l f = both (fits strict (one_or_absent an_expression) l) true (expression_taken strict (one_or_absent an_expression) l tt f) refl

-- Rows of `switch`: each is a shape and what is written in its place, with the JavaScript before
-- and after.
use Rattle.std.specs.Prelude.{◌≡◌, ◌⊎◌, ◌&&◌, ◌||◌, ℕ, suc, Bool, true, false, List, [], Option, None, if◌then◌else◌}
use Rattle.mini_model.specs.declared.operator.BinaryOperator.TheVariants.{StrictEquality}
use Rattle.mini_model.specs.declared.shape.Shape.{Shape}
use Rattle.mini_model.specs.declared.shape.Shape.TheVariants as shape
use Rattle.mini_model.specs.Paths.{append}
use Rattle.mini_model.specs.Tree.{Tree, Trees, node, none, ◌▸◌, absent, listed, expression_statement, if_alone}
use Rattle.mini_laws.specs.declared.names.Jump.{Jump}
use Rattle.mini_laws.specs.declared.names.Jump.TheVariants as jump
use Rattle.mini_laws.specs.declared.names.Turn.{Turn}
use Rattle.mini_laws.specs.declared.names.Turn.TheVariants as turn
use Rattle.mini_laws.specs.Early.{jump_of, label_in, turn_of}
use Rattle.mini_laws.specs.State.{State, Broken, stop, Environment}
use Rattle.mini_laws.specs.Demand.{Demand, Request}
use Rattle.mini_laws.specs.Step.{means}
use Rattle.mini_rows.specs.Lists.{block, switch, are_unscoped, declares_nothing}
use Rattle.mini_rows.specs.Spellings.{PlainForm, plain, binary}

-- ---- terms

-- `case test: statements`, or `default: statements` of a test that is absent
abbrev pub switch_case : Tree → Trees → Tree
switch_case test statements = node shape.SwitchCase [] 0 (test ▸ (listed statements ▸ none))

-- `switch (d) { case test: statements }`
abbrev pub one_case : Tree → Tree → Trees → Tree
one_case d test statements = switch d (listed (switch_case test statements ▸ none))

-- `break;`
abbrev pub bare_break : Tree
bare_break = node shape.BreakStatement [] 0 (absent ▸ none)

-- statements, and these with a last `break;`
abbrev pub ended : Bool → Trees → Trees
ended b ts = if b then append ts (bare_break ▸ none) else ts

-- what a `break` without a label in a child ends (ECMA-262, "BreakStatement"): a loop, a `switch`
-- and the end of a function are nearer than what stands around the node
abbrev pub lets_out : Turn → Bool
lets_out turn.InLoop = false
lets_out turn.InSwitch = false
lets_out (turn.InFunction yields) = false
lets_out t = true

abbrev pub is_bare : Jump → Option (List ℕ) → Bool
is_bare jump.Break None = true
is_bare j l = false

-- whether a `break` without a label stands in a tree that ends what is around the tree
abbrev mutual
  pub breaks_out : Tree → Bool
  breaks_out (node h xs n ts) = is_bare (jump_of h) (label_in ts) || any_breaks_out h 0 ts

  -- in one of these children of a shape, from an index on
  pub any_breaks_out : Shape → ℕ → Trees → Bool
  any_breaks_out h i none = false
  any_breaks_out h i (t ▸ ts) = (lets_out (turn_of h i) && breaks_out t) || any_breaks_out h (suc i) ts

-- where none does no run of it ends with one, whatever is asked of it
abbrev pub NeverBreaksOut : Type 0
NeverBreaksOut = (t : Tree) → breaks_out t ≡ false → (e : Environment) (d : Demand) (r : Request d) (s z : State) → means e t d r s ≡ stop (Broken None) z → ⊥

-- ---- 80

-- `switch (a) { case 1: b(); break; }` becomes `if (a === 1) { b(); }`, with and without the last
-- `break;`: the test writes a value out, nothing in the case is scoped, and no other `break` leaves
-- it
pub record Row80Case (n w : Tree) : Type 0 where
  pub discriminant : Tree
  pub test : PlainForm
  pub statements : Trees
  pub is_ended : Bool
  pub value : declares_nothing discriminant ≡ true
  pub unscoped : are_unscoped statements ≡ true
  pub stays : breaks_out (listed statements) ≡ false
  pub shape : n ≡ one_case discriminant (plain test) (ended is_ended statements)
  pub written : w ≡ if_alone (binary StrictEquality discriminant (plain test)) (block statements)

-- `switch (a) { default: b(); break; }` becomes `{ a; b(); }`, under the same conditions
pub record Row80Default (n w : Tree) : Type 0 where
  pub discriminant : Tree
  pub statements : Trees
  pub is_ended : Bool
  pub value : declares_nothing discriminant ≡ true
  pub unscoped : are_unscoped statements ≡ true
  pub stays : breaks_out (listed statements) ≡ false
  pub shape : n ≡ one_case discriminant absent (ended is_ended statements)
  pub written : w ≡ block (expression_statement discriminant ▸ statements)

-- `switch (a) { default: let x = b(); c(x); break; }` becomes `{ a; { let x = b(); c(x); } }`: the
-- discriminant is evaluated outside of the scope of the cases (ECMA-262, "The switch Statement"),
-- so it stands outside of the block that has their names
pub record Row80Scoped (n w : Tree) : Type 0 where
  pub discriminant : Tree
  pub statements : Trees
  pub is_ended : Bool
  pub value : declares_nothing discriminant ≡ true
  pub scoped : are_unscoped statements ≡ false
  pub stays : breaks_out (listed statements) ≡ false
  pub shape : n ≡ one_case discriminant absent (ended is_ended statements)
  pub written : w ≡ block (expression_statement discriminant ▸ (block statements ▸ none))

-- ---- all

abbrev pub OneCaseRow : Tree → Tree → Type 0
OneCaseRow n w = Row80Case n w ⊎ (Row80Default n w ⊎ Row80Scoped n w)

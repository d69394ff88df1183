-- What is called by its value, with no `this` and as no direct eval.
use Rattle.std.specs.Prelude.{codes, not}
use Rattle.std.proofs.Common.{◌≡◌, ℕ, Bool, true, false, List, [], ◌∷◌, sym, true≢false}
use Rattle.mini_model.specs.declared.name.Name.{Name}
use Rattle.mini_model.specs.declared.shape.Shape.{Shape}
use Rattle.mini_model.specs.declared.shape.Shape.TheVariants as shape
use Rattle.mini_model.specs.Tree.{Tree, Trees, node, none, identifier}
use Rattle.mini_model.specs.Weight.{same_text}
use Rattle.mini_laws.specs.State.{State, Environment}
use Rattle.mini_laws.specs.Demand.{Val, As, Callee}
use Rattle.mini_laws.specs.ScopeList as scopes
use Rattle.mini_laws.specs.Step.{means}
use Rattle.mini_terms.specs.Reading.{by_value}
use Rattle.mini_rows.specs.Unused.{is_called_by, is_called_by_value}
use Rattle.mini_rows.proofs.ChainLinkMeaning.{base_called}
use Rattle.mini_rows.proofs.SequenceCalls.{names_called}

not_true : (b : Bool) → not b ≡ true → b ≡ false
not_true false e = λ i. false
not_true true e = absurd (true≢false (sym e))

module _ (e : Environment) where
  name_reads : (xs : List Name) → not (scopes.is_eval xs) ≡ true → (n : ℕ) (ts : Trees) (s : State) → means e (node shape.Identifier xs n ts) Callee tt s ≡ by_value Callee tt (means e (node shape.Identifier xs n ts) (As Val) tt s)
  unfolding by_value
  name_reads [] p n ts s = names_called e [] n ts s (not_true (scopes.is_eval []) p)
  name_reads (x ∷ xs) p n ts s = names_called e (x ∷ xs) n ts s (not_true (scopes.is_eval (x ∷ xs)) p)

  called_reads : (h : Shape) (xs : List Name) → is_called_by h xs ≡ true → (n : ℕ) (ts : Trees) (s : State) → means e (node h xs n ts) Callee tt s ≡ by_value Callee tt (means e (node h xs n ts) (As Val) tt s)
  unfolding by_value
  called_reads shape.Identifier xs p n ts s = name_reads xs p n ts s
  called_reads h xs p n ts s = base_called e (node h xs n ts) p s

pub called_read : (t : Tree) → is_called_by_value t ≡ true → (e : Environment) (s : State) → means e t Callee tt s ≡ by_value Callee tt (means e t (As Val) tt s)
called_read (node h xs n ts) p e s = called_reads e h xs p n ts s

pub name_called_read : (x : Name) → not (same_text x.spelling (codes "eval")) ≡ true → (e : Environment) (s : State) → means e (identifier x) Callee tt s ≡ by_value Callee tt (means e (identifier x) (As Val) tt s)
name_called_read x p e s = name_reads e (x ∷ []) p 0 none s

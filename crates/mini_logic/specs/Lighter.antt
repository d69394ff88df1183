-- A step of each rule is a rewrite, so it makes the whole lighter.
use Rattle.std.specs.Prelude.{◌⊎◌}
use Rattle.std.proofs.Common.{inl, inr, ⊎_elim}
use Rattle.mini_model.specs.declared.place.Position.{Position}
use Rattle.mini_model.specs.declared.place.Position.TheVariants.{Expr, Stmt}
use Rattle.mini_model.specs.Tree.{Tree}
use Rattle.mini_model.specs.Redex.{Contracts}
use Rattle.mini_laws.specs.Weights.{Lightens}
use Rattle.mini_laws.proofs.Lighter.{step_lighter, any_step_lighter, rows_lighten}
use Rattle.mini_rows.specs.Branches.{BranchContracts}
use Rattle.mini_rows.specs.Turns.{TurnContracts}
use Rattle.mini_rows.proofs.BranchWeights.{branches_lighten}
use Rattle.mini_rows.proofs.BooleanWeights as boolean_weights
use Rattle.mini_rows.proofs.DeMorganLawful.{de_morgan_lighten}
use Rattle.mini_rows.proofs.NegationLawful.{negations_lighten}
use Rattle.mini_rows.proofs.TurnWeights.{turns_lighten}
use Rattle.mini_tree.specs.Rule.{IsLighter}
use Rattle.mini_tree.specs.Wider.{step_of}
use Rattle.mini_logic.specs.MinimizeUnaryExpression as unary
use Rattle.mini_logic.specs.MinimizeConditionalExpression as conditional
use Rattle.mini_logic.specs.MinimizeIfStatement as «if»
use Rattle.mini_logic.specs.MinimizeBody as body
use Rattle.mini_logic.specs.DeMorganForVoidExpr as de_morgan
use Rattle.mini_logic.specs.MinimizeExpressionInBooleanContext as booleans
use Rattle.mini_logic.specs.MinimizeNegation as negation

pub unary_contracts : (p : Position) (t u : Tree) → unary.Gives p t u → Contracts p t u
unary_contracts (Expr s) t u r = record { row = inl r.0; lighter = r.1 }
unary_contracts p t u r = absurd r

-- one of the rows
abbrev pub AnyContracts : Position → Tree → Tree → Type 0
AnyContracts p t u = Contracts p t u ⊎ (BranchContracts p t u ⊎ TurnContracts p t u)

pub conditional_contracts : (p : Position) (t u : Tree) → conditional.Gives p t u → AnyContracts p t u
conditional_contracts (Expr s) t u (inl r, l) = inl (record { row = inr r; lighter = l })
conditional_contracts (Expr s) t u (inr r, l) = inr (inr (record { row = r; lighter = l }))
conditional_contracts p t u r = absurd r

pub if_contracts : (p : Position) (t u : Tree) → «if».Gives p t u → AnyContracts p t u
if_contracts (Stmt q) t u (inl r, l) = inl (record { row = r; lighter = l })
if_contracts (Stmt q) t u (inr (inl r), l) = inr (inl (record { row = inr (inr r); lighter = l }))
if_contracts (Stmt q) t u (inr (inr r), l) = inr (inr (record { row = r; lighter = l }))
if_contracts p t u r = absurd r

pub body_contracts : (p : Position) (t u : Tree) → body.Gives p t u → AnyContracts p t u
body_contracts (Stmt q) t u r = inr (inl (record { row = inr (inl r.0); lighter = r.1 }))
body_contracts p t u r = absurd r

pub unary_lighter : IsLighter unary.Gives
unary_lighter p t u s = step_lighter p t u (step_of unary.Gives Contracts unary_contracts p t u s)

-- two relations that make a whole lighter are one
both_lighten : (R S : Position → Tree → Tree → Type 0) → Lightens R → Lightens S → Lightens (λ p t u. R p t u ⊎ S p t u)
both_lighten R S l m = record {
  lighter = λ p t u r. ⊎_elim (l.lighter p t u) (m.lighter p t u) r;
  absent = λ p t u r e. ⊎_elim (λ x. l.absent p t u x e) (λ x. m.absent p t u x e) r;
  items = λ p t u r e. ⊎_elim (λ x. l.items p t u x e) (λ x. m.items p t u x e) r;
  is_zero = λ p t u r e. ⊎_elim (λ x. l.is_zero p t u x e) (λ x. m.is_zero p t u x e) r;
  chooses = λ p t u r e. ⊎_elim (λ x. l.chooses p t u x e) (λ x. m.chooses p t u x e) r;
}

rows_lighter : (R : Position → Tree → Tree → Type 0) → ((p : Position) (t u : Tree) → R p t u → AnyContracts p t u) → IsLighter R
rows_lighter R f p t u s =
    any_step_lighter AnyContracts (both_lighten Contracts (λ p t u. BranchContracts p t u ⊎ TurnContracts p t u) rows_lighten (both_lighten BranchContracts TurnContracts branches_lighten turns_lighten)) p t u (step_of R AnyContracts f p t u s)

pub conditional_lighter : IsLighter conditional.Gives
conditional_lighter = rows_lighter conditional.Gives conditional_contracts

pub if_lighter : IsLighter «if».Gives
if_lighter = rows_lighter «if».Gives if_contracts

pub body_lighter : IsLighter body.Gives
body_lighter = rows_lighter body.Gives body_contracts

pub booleans_lighter : IsLighter booleans.Gives
booleans_lighter = any_step_lighter booleans.Gives boolean_weights.lightens

pub de_morgan_lighter : IsLighter de_morgan.Gives
de_morgan_lighter = any_step_lighter de_morgan.Gives de_morgan_lighten

pub negation_lighter : IsLighter negation.Gives
negation_lighter = any_step_lighter negation.Gives negations_lighten

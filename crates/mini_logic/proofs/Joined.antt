-- The rules together, and the rows.
use Rattle.std.proofs.Common.{ℕ, zero, suc, ◌<◌, ◌^◌, inl, inr, arith}
use Rattle.std.specs.Prelude.{◌⊎◌}
use Rattle.mini_model.specs.declared.place.Position.{Position}
use Rattle.mini_model.specs.declared.place.Position.TheVariants.{Expr, Stmt}
use Rattle.mini_model.specs.Tree.{Tree, Trees, node, none, ◌▸◌, count}
use Rattle.mini_model.specs.Position.{child_position}
use Rattle.mini_model.specs.Weight.{weight, weights}
use Rattle.mini_model.specs.Redex.{Contracts}
use Rattle.mini_model.specs.Rewriting.{EverywhereIn}
use Rattle.mini_kept.specs.Lawful.{Lawful}
use Rattle.mini_kept.proofs.Lawful.{lawful_join, lawful_narrowed, rows_are_lawful}
use Rattle.mini_rows.specs.Arranged.{WhereFixed}
use Rattle.mini_rows.specs.Branches.{BranchContracts}
use Rattle.mini_rows.specs.Turns.{TurnContracts}
use Rattle.mini_rows.proofs.BranchLawful.{branches_lawful, ifs_fixed}
use Rattle.mini_rows.proofs.TurnLawful.{turns_lawful}
use Rattle.mini_logic.specs.Joined as law
use Rattle.mini_logic.specs.Joined.{LogicRow, LogicContracts, HaveNoRedex}
use Rattle.mini_tree.specs.Wider.{reaches_of}

gives_row : (p : Position) (t u : Tree) → law.Gives p t u → LogicContracts p t u
gives_row (Expr s) t u (inl r) = record { row = inl (inl r.0); lighter = r.1 }
gives_row (Expr s) t u (inr (inl (inl r, l))) = record { row = inl (inr r); lighter = l }
gives_row (Expr s) t u (inr (inl (inr r, l))) = record { row = inr r; lighter = l }
gives_row (Expr s) t u (inr (inr r)) = absurd r
gives_row (Stmt q) t u (inl r) = absurd r
gives_row (Stmt q) t u (inr (inl r)) = absurd r
gives_row (Stmt q) t u (inr (inr r)) = record { row = r.0; lighter = r.1 }
gives_row p t u (inl r) = absurd r
gives_row p t u (inr (inl r)) = absurd r
gives_row p t u (inr (inr r)) = absurd r

pub gives_contract : law.GivesContract
gives_contract = gives_row

given : (p : Position) (t u : Tree) → LogicRow p t u → weight p u < weight p t → law.Gives p t u
given (Expr s) t u (inl (inl r)) l = inl (r, l)
given (Expr s) t u (inl (inr r)) l = inr (inl (inl r, l))
given (Expr s) t u (inr r) l = inr (inl (inr r, l))
given (Stmt q) t u r l = inr (inr (r, l))
given p t u r l = absurd r

pub contracts_are_given : law.ContractsAreGiven
contracts_are_given p t u c = given p t u c.row c.lighter

pub reaches_contract : law.ReachesContract
reaches_contract p t u r = reaches_of law.Gives LogicContracts gives_contract p t u r

settled : (p : Position) (t u : Tree) → weight p t < 2 ^ 64 → law.Rests p t → law.Gives p t u → ⊥
settled (Expr s) t u h r (inl g) = r.0 h u g
settled (Expr s) t u h r (inr (inl g)) = r.1.0 u g.0
settled (Expr s) t u h r (inr (inr g)) = absurd g
settled (Stmt q) t u h r (inl g) = absurd g
settled (Stmt q) t u h r (inr (inl g)) = absurd g
settled (Stmt q) t u h r (inr (inr g)) = r.1.1 h u g.0
settled p t u h r (inl g) = absurd g
settled p t u h r (inr (inl g)) = absurd g
settled p t u h r (inr (inr g)) = absurd g

pub rests_settle : law.RestsSettle
rests_settle p t h r w c = settled p t w h r (contracts_are_given p t w c)

mutual
  pub rests_everywhere : law.RestsEverywhere
  rests_everywhere p (node h xs n ts) small r = (rests_settle p (node h xs n ts) small r.0, rest_in (child_position h p (count ts)) ts (omega (arith, small)) r.1)

  rest_in : (π : ℕ → Position) (ts : Trees) → weights π ts < 2 ^ 64 → EverywhereIn law.Rests π ts → HaveNoRedex π ts
  rest_in π none small r = tt
  rest_in π (t ▸ ts) small r = (rests_everywhere (π zero) t (omega (arith, small)) r.0, rest_in (λ i. π (suc i)) ts (omega (arith, small)) r.1)

-- ---- lawful

abbrev OfOthers : Position → Tree → Tree → Type 0
OfOthers p t u = WhereFixed BranchContracts p t u ⊎ TurnContracts p t u

either_row : (p : Position) (t u : Tree) → LogicContracts p t u → Contracts p t u ⊎ OfOthers p t u
either_row (Stmt q) t u c = go c.row
  where
    go : LogicRow (Stmt q) t u → Contracts (Stmt q) t u ⊎ OfOthers (Stmt q) t u
    go (inl r) = inl (record { row = r; lighter = c.lighter })
    go (inr (inl r)) = inr (inl (record { row = inr (inr r); lighter = c.lighter }, ifs_fixed t u r))
    go (inr (inr r)) = inr (inr (record { row = r; lighter = c.lighter }))
either_row (Expr s) t u c = go c.row
  where
    go : LogicRow (Expr s) t u → Contracts (Expr s) t u ⊎ OfOthers (Expr s) t u
    go (inl r) = inl (record { row = r; lighter = c.lighter })
    go (inr r) = inr (inr (record { row = r; lighter = c.lighter }))
either_row p t u c = absurd c.row

pub logic_lawful : Lawful LogicContracts
logic_lawful = lawful_narrowed LogicContracts (λ p t u. Contracts p t u ⊎ OfOthers p t u) either_row (lawful_join Contracts OfOthers rows_are_lawful (lawful_join (WhereFixed BranchContracts) TurnContracts branches_lawful turns_lawful))

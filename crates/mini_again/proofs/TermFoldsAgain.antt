-- Which side of a logical operator is evaluated, of sides that are read again.
use Rattle.mini_again.proofs.TermEvidentAgain.{evidence_again}
use Rattle.mini_again.proofs.TermKindAgain.{kind_again}
use Rattle.mini_again.specs.Again.{Renaming, again}
use Rattle.mini_model.specs.Tree.{Tree}
use Rattle.mini_model.specs.declared.operator.LogicalOperator.{LogicalOperator}
use Rattle.mini_model.specs.declared.operator.LogicalOperator.TheVariants.{And, Coalesce, Or}
use Rattle.mini_terms.specs.Folds.{goes_on, stops}
use Rattle.std.specs.Prelude.{◌≡◌}

pub goes_on_again : (ρ : Renaming) (o : LogicalOperator) (a : Tree) → goes_on o (again ρ a) ≡ goes_on o a
goes_on_again ρ And a = simp (evidence_again ρ a, kind_again ρ a)
goes_on_again ρ Or a = simp (evidence_again ρ a, kind_again ρ a)
goes_on_again ρ Coalesce a = simp (kind_again ρ a)

pub stops_again : (ρ : Renaming) (o : LogicalOperator) (a : Tree) → stops o (again ρ a) ≡ stops o a
stops_again ρ And a = simp (evidence_again ρ a, kind_again ρ a)
stops_again ρ Or a = simp (evidence_again ρ a, kind_again ρ a)
stops_again ρ Coalesce a = simp (kind_again ρ a)

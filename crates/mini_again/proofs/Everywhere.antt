-- What holds everywhere in a tree that is read again holds everywhere in the tree.
use Rattle.std.specs.Prelude.{ℕ, suc}
use Rattle.std.proofs.Common.{subst}
use Rattle.std.proofs.Math.Path.{fun_ext}
use Rattle.mini_model.specs.declared.place.Position.{Position}
use Rattle.mini_model.specs.Position.{child_position}
use Rattle.mini_model.specs.Rewriting.{Everywhere, EverywhereIn}
use Rattle.mini_model.specs.Tree.{Tree, Trees, node, none, ◌▸◌, count}
use Rattle.mini_laws.specs.Value.{VariableSet}
use Rattle.mini_rows.specs.Redex.{HasNoRedex, IsSettled}
use Rattle.mini_rows.specs.Switches.{Switches}
use Rattle.mini_again.specs.Again.{Renaming, again, all_again, with_others_in}
use Rattle.mini_again.specs.Families.{RewritesSurvive, NothingIsLeft}
use Rattle.mini_again.proofs.ModelTreeAgain.{count_again}
use Rattle.mini_again.proofs.RedexAgain.{rewrites_again}

module _ (ρ : Renaming) (D E : Position → Tree → Type 0) (e : (p : Position) (t : Tree) → D p (again ρ t) → E p t) where
  mutual
    pub everywhere_again : (p : Position) (t : Tree) → Everywhere D p (again ρ t) → Everywhere E p t
    everywhere_again p (node h xs n ts) d = (e p (node h xs n ts) d.0, everywhere_in_again (child_position h p (count ts)) ts (subst (λ k. EverywhereIn D (child_position h p k) (all_again ρ ts)) (count_again ρ ts) d.1))

    everywhere_in_again : (π : ℕ → Position) (ts : Trees) → EverywhereIn D π (all_again ρ ts) → EverywhereIn E π ts
    everywhere_in_again π none d = tt
    everywhere_in_again π (t ▸ ts) d = (everywhere_again (π 0) t d.0, everywhere_in_again (λ i. π (suc i)) ts d.1)

settled_again : (ρ : Renaming) (o : Switches) (V : VariableSet) (p : Position) (t : Tree) → IsSettled o V p (again ρ t) → IsSettled o (with_others_in ρ V) p t
settled_again ρ o V p t s r = s (record { to = again ρ r.to; contracts = rewrites_again ρ o V p t r.to r.contracts })

pub rewrites_survive : RewritesSurvive
rewrites_survive = rewrites_again

pub nothing_is_left : NothingIsLeft
nothing_is_left ρ o W V same p t d = subst (λ U. HasNoRedex o U p t) (fun_ext same) (everywhere_again ρ (IsSettled o V) (IsSettled o (with_others_in ρ V)) (settled_again ρ o V) p t d)

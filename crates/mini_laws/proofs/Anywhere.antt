-- What means the same in no tail means the same in each.
use Rattle.std.proofs.Common.{◌≡◌, true, Option, Some, None, refl, sym, subst, subst₂, inl}
use Rattle.mini_model.specs.Tree.{Trees, none, ◌▸◌, listed}
use Rattle.mini_laws.specs.Value.{VariableSet, Undefined}
use Rattle.mini_laws.specs.State.{State, Stop, Returned, Continued, ok}
use Rattle.mini_laws.specs.Demand.{Tail, LoopTail, FunctionTail, Stat}
use Rattle.mini_laws.specs.Step.{means}
use Rattle.mini_laws.specs.Same.{Goes, Agree, Same}
use Rattle.mini_laws.specs.Stretches.{tail_before, StretchAnywhere}
use Rattle.mini_laws.specs.Tails.{ends_in, InEachTail}
use Rattle.mini_laws.proofs.Simulation.{goes_either}
use Rattle.mini_laws.proofs.Stretching.{stretch_same}
use Rattle.mini_laws.proofs.Tailing.{tail_same}

ends_go : (D : VariableSet) (t : Option Tail) (x : Stop) (p q : State) → Agree D p q → Goes true (λ u. Agree D) (Agree D) (Agree D) (ends_in t x p) (ends_in t x q)
unfolding Goes
ends_go D (Some LoopTail) (Continued None) p q g = (refl, g)
ends_go D (Some FunctionTail) (Returned Undefined) p q g = (refl, g)
ends_go D t x p q g = (refl, g)

oks_go : (D : VariableSet) (p q : State) → Agree D p q → Goes true (λ u. Agree D) (Agree D) (Agree D) (ok (tt {0}) p) (ok (tt {0}) q)
unfolding Goes
oks_go D p q g = (refl, g)

pub in_each_tail : InEachTail
in_each_tail e D X n w same t = record {
  by = λ r s i. subst₂ (Goes true (λ u. Agree D) (Agree D) (Agree D)) (sym (tail_same e n t r s)) (sym (tail_same e w t r s))
      (goes_either true (λ u. Agree D) (Agree D) (Agree D) (λ u. Agree D) (Agree D) (means e n (Stat None) r s) (means e w (Stat None) r s) _ _ _ _ (same.by r s i) (λ u p q g. oks_go D p q g) (λ x p q g. ends_go D t x p q g));
}

no_tail_before : (post : Trees) → tail_before post None ≡ None
no_tail_before none = refl
no_tail_before (t ▸ ts) = refl

pub stretch_anywhere : StretchAnywhere
stretch_anywhere e D apart pre a b post t X Y av off within same =
    in_each_tail e D X _ _ (stretch_same e D apart pre a b post None X Y av (inl refl) (inl refl) off within (subst (λ u. Same e D Y (Stat u) (listed a) (listed b)) (sym (no_tail_before post)) same)) t

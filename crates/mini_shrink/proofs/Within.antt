-- What is told of a program is told of each later one, by what a relation keeps of one node.
use Rattle.std.specs.Prelude.{ℕ, ◌≡◌, refl, nat_eq, Bool, true, false, ◌&&◌, ◌||◌, List, [], ◌∷◌}
use Rattle.std.specs.List.{list_any}
use Rattle.std.proofs.Common.{◌∙◌, sym, inl, inr, true≢false}
use Rattle.mini_model.specs.declared.place.Position.{Position}
use Rattle.mini_model.specs.Tree.{Tree}
use Rattle.mini_laws.specs.Value.{VariableSet}
use Rattle.mini_laws.specs.Bodies.{Body, bodies_in}
use Rattle.mini_kept.specs.Loosely.{undeclared}
use Rattle.mini_kept.proofs.Loosely.{steadily_keeps}
use Rattle.mini_kept.specs.Without.{BodySets, IsOneUnder, BodiesUnder}
use Rattle.mini_shrink.specs.ToldOn.{asks_as, ToldWithin}
use Rattle.mini_shrink.proofs.ToldOn.{told_on}
use Rattle.mini_shrink.proofs.Tops.{shows_less}

module _ (W D : VariableSet) (S : BodySets) (n : ℕ) where
  left_of : (a c : Bool) → a ≡ true → (a || c) ≡ true
  left_of true c e = refl
  left_of false c e = absurd (true≢false (sym e))

  right_of : (a c : Bool) → c ≡ true → (a || c) ≡ true
  right_of true c e = refl
  right_of false c e = e

  is_one : (bs : List Body) (c : Body) → IsOneUnder W S D bs c → asks_as n c ≡ true → list_any (asks_as n) bs ≡ true
  is_one [] c o e = absurd o
  is_one (b ∷ bs) c (inl k) e = left_of (asks_as n b) (list_any (asks_as n) bs) ((λ i. nat_eq (k.number i) n && k.asks_this i) ∙ e)
  is_one (b ∷ bs) c (inr o) e = right_of (asks_as n b) (list_any (asks_as n) bs) (is_one bs c o e)

  either_so : (a c d : Bool) → (a ≡ true → d ≡ true) → (c ≡ true → d ≡ true) → (a || c) ≡ true → d ≡ true
  either_so true c d f g e = f refl
  either_so false c d f g e = g e

  pub asks_less : (bs cs : List Body) → BodiesUnder W S D bs cs → list_any (asks_as n) cs ≡ true → list_any (asks_as n) bs ≡ true
  asks_less bs [] k e = absurd (true≢false (sym e))
  asks_less bs (c ∷ cs) k e = either_so (asks_as n c) (list_any (asks_as n) cs) (list_any (asks_as n) bs) (is_one bs c k.0) (asks_less bs cs k.1) e

pub told_within : (R : Position → Tree → Tree → Type 0) → ToldWithin R
told_within R K W S l reads q v r e a d b =
    let bodies = (steadily_keeps R K W S l q v r e).bodies a d in
    told_on R l.places.names l.shapes reads (shows_less R l.places l.shapes) q v r e a d (λ n f. asks_less W (undeclared v) S n (bodies_in q) (bodies_in v) bodies f) b

-- Lists of bodies that are kept.
use Rattle.std.specs.Prelude.{ℕ, zero, suc, ◌≡◌, ◌⊎◌, ◌<◌, refl, None, List, [], ◌∷◌, ◌++◌, length, slice_index_or, Contains}
use Rattle.std.proofs.Common.{◌∙◌, sym, subst, arith, inl, inr}
use Rattle.mini_laws.specs.Body.{BodyKind, Run}
use Rattle.mini_laws.specs.Bodies.{Body}
use Rattle.mini_kept.specs.AlikeBodies.{KindKept, AlikeBody, IsOneOf, BodiesKept}

alike_itself : (b : Body) → AlikeBody b b
alike_itself b = record { number = refl; kind = inl refl; strict = refl; asks_this = refl; same = λ e X. record { by = λ vars this answers turns i. inr refl } }

pub kind_on : (k l m : BodyKind) → KindKept k l → KindKept l m → KindKept k m
kind_on k l m (inl e) (inl f) = inl (e ∙ f)
kind_on k l m (inl e) (inr f) = inr (e ∙ f.0, f.1)
kind_on k l m (inr e) (inl f) = inr (e.0, sym f ∙ e.1)
kind_on k l m (inr e) (inr f) = absurd (cc (sym e.1 ∙ f.0))

pub either_way : {A : Type 0} (x y z o : A) → (x ≡ o) ⊎ (x ≡ y) → (y ≡ o) ⊎ (y ≡ z) → (x ≡ o) ⊎ (x ≡ z)
either_way x y z o (inl e) k = inl e
either_way x y z o (inr e) (inl f) = inl (e ∙ f)
either_way x y z o (inr e) (inr f) = inr (e ∙ f)

alike_on : (b c d : Body) → AlikeBody b c → AlikeBody c d → AlikeBody b d
alike_on b c d x y = record {
  number = x.number ∙ y.number;
  kind = kind_on b.kind c.kind d.kind x.kind y.kind;
  strict = x.strict ∙ y.strict;
  asks_this = x.asks_this ∙ y.asks_this;
  same = λ e X. record {
    by = λ vars this answers turns i. either_way (Run e b.kind b.root vars this answers turns) (Run e c.kind c.root vars this answers turns) (Run e d.kind d.root vars this answers turns) None ((x.same e X).by vars this answers turns i) ((y.same e X).by vars this answers turns i);
  };
}

in_first : (bs ds : List Body) (c : Body) → IsOneOf bs c → IsOneOf (bs ++ ds) c
in_first [] ds c k = absurd k
in_first (b ∷ bs) ds c (inl a) = inl a
in_first (b ∷ bs) ds c (inr k) = inr (in_first bs ds c k)

in_second : (bs ds : List Body) (c : Body) → IsOneOf ds c → IsOneOf (bs ++ ds) c
in_second [] ds c k = k
in_second (b ∷ bs) ds c k = inr (in_second bs ds c k)

pub first_of : (bs ds cs : List Body) → BodiesKept bs cs → BodiesKept (bs ++ ds) cs
first_of bs ds [] k = tt
first_of bs ds (c ∷ cs) k = (in_first bs ds c k.0, first_of bs ds cs k.1)

pub second_of : (bs ds cs : List Body) → BodiesKept ds cs → BodiesKept (bs ++ ds) cs
second_of bs ds [] k = tt
second_of bs ds (c ∷ cs) k = (in_second bs ds c k.0, second_of bs ds cs k.1)

-- of one list are those of two
pub both_of : (bs cs ds : List Body) → BodiesKept bs cs → BodiesKept bs ds → BodiesKept bs (cs ++ ds)
both_of bs [] ds k l = l
both_of bs (c ∷ cs) ds k l = (k.0, both_of bs cs ds k.1 l)

-- and of two lists, each of its own
pub each_of : (xs bs cs ds : List Body) → BodiesKept xs cs → BodiesKept bs ds → BodiesKept (xs ++ bs) (cs ++ ds)
each_of xs bs cs ds k l = both_of (xs ++ bs) cs ds (first_of xs bs cs k) (second_of xs bs ds l)

pub kept_itself : (bs : List Body) → BodiesKept bs bs
kept_itself [] = tt
kept_itself (b ∷ bs) = (inl (alike_itself b), second_of (b ∷ []) bs bs (kept_itself bs))

one_of_one : (bs : List Body) (b c : Body) → IsOneOf bs b → AlikeBody b c → IsOneOf bs c
one_of_one [] b c k x = absurd k
one_of_one (d ∷ bs) b c (inl a) x = inl (alike_on d b c a x)
one_of_one (d ∷ bs) b c (inr k) x = inr (one_of_one bs b c k x)

one_on : (xs bs : List Body) (c : Body) → BodiesKept xs bs → IsOneOf bs c → IsOneOf xs c
one_on xs [] c k i = absurd i
one_on xs (b ∷ bs) c k (inl a) = one_of_one xs b c k.0 a
one_on xs (b ∷ bs) c k (inr i) = one_on xs bs c k.1 i

pub kept_on : (xs bs cs : List Body) → BodiesKept xs bs → BodiesKept bs cs → BodiesKept xs cs
kept_on xs bs [] k l = tt
kept_on xs bs (c ∷ cs) k l = (one_on xs bs c k l.0, kept_on xs bs cs k l.1)

-- ---- one of a list, by its index

one_at : (bs : List Body) (c : Body) → IsOneOf bs c → (b : Body) × Contains bs b × AlikeBody b c
one_at [] c k = absurd k
one_at (b ∷ bs) c (inl a) = (b, (0, omega arith, refl), a)
one_at (b ∷ bs) c (inr k) =
    let (d, (i, below, at), a) = one_at bs c k in
    (d, (suc i, omega (arith, below), at), a)

kept_at : (bs cs : List Body) → BodiesKept bs cs → (c : Body) (i : ℕ) → i < length cs → slice_index_or cs i c ≡ c → IsOneOf bs c
kept_at bs [] k c i below at = absurd (omega (arith, below))
kept_at bs (d ∷ cs) k c zero below at = subst (IsOneOf bs) at k.0
kept_at bs (d ∷ cs) k c (suc i) below at = kept_at bs cs k.1 c i (omega (arith, below)) at

pub kept_stands : (bs cs : List Body) → BodiesKept bs cs → (c : Body) → Contains cs c → (b : Body) × Contains bs b × AlikeBody b c
kept_stands bs cs k c (i, below, at) = one_at bs c (kept_at bs cs k c i below at)

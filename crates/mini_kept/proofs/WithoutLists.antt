-- Lists of bodies that stand for others where some variables are gone, some can be written, and some are steady.
use Rattle.std.specs.Prelude.{ℕ, zero, suc, ◌≡◌, ◌<◌, refl, true, None, List, [], ◌∷◌, ◌++◌, length, slice_index_or, Contains}
use Rattle.std.proofs.Common.{◌∙◌, sym, subst, arith, inl, inr, true≢false}
use Rattle.mini_laws.specs.Value.{Variable, VariableSet, nothing}
use Rattle.mini_laws.specs.State.{Environment}
use Rattle.mini_laws.specs.Body.{Run}
use Rattle.mini_laws.specs.Bodies.{Body}
use Rattle.mini_kept.specs.AlikeBodies.{IsOneOf, BodiesKept}
use Rattle.mini_kept.specs.Without.{Assured, nothing_assured, BodySets, none_steady, Within, Steadies, Begins, Unseen, Permits, AlikeUnder, IsOneUnder, BodiesUnder, BodiesWith, BodiesWithout}
use Rattle.mini_kept.proofs.BodyLists.{kind_on, either_way}

-- one set of variables is part of another
abbrev pub Part : VariableSet → VariableSet → Type 0
Part C D = (x : Variable) → C x ≡ true → D x ≡ true

pub unseen_part : (C D : VariableSet) → Part C D → (e : Environment) → Unseen D e → Unseen C e
unseen_part C D p e u = record { shared = λ x h. u.shared x (p x h); foreign = λ x h. u.foreign x (p x h) }

pub unseen_nothing : (e : Environment) → Unseen nothing e
unseen_nothing e = record { shared = λ x h. absurd (true≢false (sym h)); foreign = λ x h. absurd (true≢false (sym h)) }

-- an environment in which more may be gone, and more can be written, does as one in which less
pub permits_part : (V W C D : VariableSet) → Part V W → Part C D → (e : Environment) → Permits W D e → Permits V C e
permits_part V W C D q p e u = record { unseen = unseen_part C D p e u.unseen; writable = λ x h. u.writable x (q x h) }

pub permits_unseen : (D : VariableSet) (e : Environment) → Unseen D e → Permits nothing D e
permits_unseen D e u = record { unseen = u; writable = λ x h. absurd (true≢false (sym h)) }

pub permits_nothing : (e : Environment) → Permits nothing nothing e
permits_nothing e = permits_unseen nothing e (unseen_nothing e)

pub nothing_part : (D : VariableSet) → Part nothing D
nothing_part D x h = absurd (true≢false (sym h))

pub part_itself : (D : VariableSet) → Part D D
part_itself D x h = h

-- of each body
abbrev pub PartEach : BodySets → BodySets → Type 0
PartEach Q S = (b : ℕ) → Within (Q b) (S b)

pub nothing_within : (V : Assured) → Within nothing_assured V
nothing_within V = record { steady = nothing_part V.steady; unshared = nothing_part V.unshared; initial = nothing_part V.initial; has_this = λ h. absurd (true≢false (sym h)) }

pub within_itself : (V : Assured) → Within V V
within_itself V = record { steady = part_itself V.steady; unshared = part_itself V.unshared; initial = part_itself V.initial; has_this = λ h. h }

pub none_part : (S : BodySets) → PartEach none_steady S
none_part S b = nothing_within (S b)

pub each_itself : (S : BodySets) → PartEach S S
each_itself S b = within_itself (S b)

pub steady_part : (V W : Assured) → Within V W → (e : Environment) → Steadies W e → Steadies V e
steady_part V W p e u = record { steady = λ x h. u.steady x (p.steady x h); unshared = λ x h. u.unshared x (p.unshared x h); has_this = λ h. u.has_this (p.has_this h) }

pub begins_part : (V W : Assured) → Within V W → (X : VariableSet) → Begins W X → Begins V X
begins_part V W p X g x h = g x (p.initial x h)

pub steady_nothing : (e : Environment) → Steadies nothing_assured e
steady_nothing e = record { steady = λ x h. absurd (true≢false (sym h)); unshared = λ x h. absurd (true≢false (sym h)); has_this = λ h. absurd (true≢false (sym h)) }

pub begins_nothing : (X : VariableSet) → Begins nothing_assured X
begins_nothing X x h = absurd (true≢false (sym h))

-- ---- more variables may be gone, more can be written, and more are steady

alike_more : (V W : VariableSet) (Q S : BodySets) (C D : VariableSet) → Part V W → PartEach Q S → Part C D → (b c : Body) → AlikeUnder V Q C b c → AlikeUnder W S D b c
alike_more V W Q S C D q r p b c a = record { number = a.number; kind = a.kind; strict = a.strict; asks_this = a.asks_this; same = λ e u v X g. a.same e (permits_part V W C D q p e u) (steady_part (Q b.number) (S b.number) (r b.number) e v) X (begins_part (Q b.number) (S b.number) (r b.number) X g) }

one_more : (V W : VariableSet) (Q S : BodySets) (C D : VariableSet) → Part V W → PartEach Q S → Part C D → (bs : List Body) (c : Body) → IsOneUnder V Q C bs c → IsOneUnder W S D bs c
one_more V W Q S C D q r p [] c k = absurd k
one_more V W Q S C D q r p (b ∷ bs) c (inl a) = inl (alike_more V W Q S C D q r p b c a)
one_more V W Q S C D q r p (b ∷ bs) c (inr k) = inr (one_more V W Q S C D q r p bs c k)

pub more_under : (V W : VariableSet) (Q S : BodySets) (C D : VariableSet) → Part V W → PartEach Q S → Part C D → (bs cs : List Body) → BodiesUnder V Q C bs cs → BodiesUnder W S D bs cs
more_under V W Q S C D q r p bs [] k = tt
more_under V W Q S C D q r p bs (c ∷ cs) k = (one_more V W Q S C D q r p bs c k.0, more_under V W Q S C D q r p bs cs k.1)

pub all_more : (V W C D : VariableSet) → Part V W → Part C D → (bs cs : List Body) → BodiesWith V C bs cs → BodiesWith W D bs cs
all_more V W C D q p = more_under V W none_steady none_steady C D q (each_itself none_steady) p

-- ---- none are gone

from_one : (D : VariableSet) (bs : List Body) (c : Body) → IsOneOf bs c → IsOneUnder nothing none_steady D bs c
from_one D [] c k = absurd k
from_one D (b ∷ bs) c (inl a) = inl (record { number = a.number; kind = a.kind; strict = a.strict; asks_this = a.asks_this; same = λ e u v X g. a.same e X })
from_one D (b ∷ bs) c (inr k) = inr (from_one D bs c k)

pub from_kept : (D : VariableSet) (bs cs : List Body) → BodiesKept bs cs → BodiesWithout D bs cs
from_kept D bs [] k = tt
from_kept D bs (c ∷ cs) k = (from_one D bs c k.0, from_kept D bs cs k.1)

to_one : (bs : List Body) (c : Body) → IsOneUnder nothing none_steady nothing bs c → IsOneOf bs c
to_one [] c k = absurd k
to_one (b ∷ bs) c (inl a) = inl (record { number = a.number; kind = a.kind; strict = a.strict; asks_this = a.asks_this; same = λ e X. a.same e (permits_nothing e) (steady_nothing e) X (begins_nothing X) })
to_one (b ∷ bs) c (inr k) = inr (to_one bs c k)

pub to_kept : (bs cs : List Body) → BodiesWithout nothing bs cs → BodiesKept bs cs
to_kept bs [] k = tt
to_kept bs (c ∷ cs) k = (to_one bs c k.0, to_kept bs cs k.1)

-- ---- lists

module _ (W : VariableSet) (S : BodySets) (D : VariableSet) where
  alike_itself : (b : Body) → AlikeUnder W S D b b
  alike_itself b = record { number = refl; kind = inl refl; strict = refl; asks_this = refl; same = λ e u y X g. record { by = λ vars this answers turns i. inr refl } }

  alike_on : (b c d : Body) → AlikeUnder W S D b c → AlikeUnder W S D c d → AlikeUnder W S D b d
  alike_on b c d x y = record {
    number = x.number ∙ y.number;
    kind = kind_on b.kind c.kind d.kind x.kind y.kind;
    strict = x.strict ∙ y.strict;
    asks_this = x.asks_this ∙ y.asks_this;
    same = λ e u v X g. record {
      by = λ vars this answers turns i. either_way (Run e b.kind b.root vars this answers turns) (Run e c.kind c.root vars this answers turns) (Run e d.kind d.root vars this answers turns) None ((x.same e u v X g).by vars this answers turns i) ((y.same e u (subst (λ n. Steadies (S n) e) x.number v) X (subst (λ n. Begins (S n) X) x.number g)).by vars this answers turns i);
    };
  }

  in_first : (bs ds : List Body) (c : Body) → IsOneUnder W S D bs c → IsOneUnder W S D (bs ++ ds) c
  in_first [] ds c k = absurd k
  in_first (b ∷ bs) ds c (inl a) = inl a
  in_first (b ∷ bs) ds c (inr k) = inr (in_first bs ds c k)

  in_second : (bs ds : List Body) (c : Body) → IsOneUnder W S D ds c → IsOneUnder W S D (bs ++ ds) c
  in_second [] ds c k = k
  in_second (b ∷ bs) ds c k = inr (in_second bs ds c k)

  first_of : (bs ds cs : List Body) → BodiesUnder W S D bs cs → BodiesUnder W S D (bs ++ ds) cs
  first_of bs ds [] k = tt
  first_of bs ds (c ∷ cs) k = (in_first bs ds c k.0, first_of bs ds cs k.1)

  second_of : (bs ds cs : List Body) → BodiesUnder W S D ds cs → BodiesUnder W S D (bs ++ ds) cs
  second_of bs ds [] k = tt
  second_of bs ds (c ∷ cs) k = (in_second bs ds c k.0, second_of bs ds cs k.1)

  both_of : (bs cs ds : List Body) → BodiesUnder W S D bs cs → BodiesUnder W S D bs ds → BodiesUnder W S D bs (cs ++ ds)
  both_of bs [] ds k l = l
  both_of bs (c ∷ cs) ds k l = (k.0, both_of bs cs ds k.1 l)

  -- of two lists, each of its own
  pub each_under : (xs bs cs ds : List Body) → BodiesUnder W S D xs cs → BodiesUnder W S D bs ds → BodiesUnder W S D (xs ++ bs) (cs ++ ds)
  each_under xs bs cs ds k l = both_of (xs ++ bs) cs ds (first_of xs bs cs k) (second_of xs bs ds l)

  pub itself_under : (bs : List Body) → BodiesUnder W S D bs bs
  itself_under [] = tt
  itself_under (b ∷ bs) = (inl (alike_itself b), second_of (b ∷ []) bs bs (itself_under bs))

  one_of_one : (bs : List Body) (b c : Body) → IsOneUnder W S D bs b → AlikeUnder W S D b c → IsOneUnder W S D bs c
  one_of_one [] b c k x = absurd k
  one_of_one (d ∷ bs) b c (inl a) x = inl (alike_on d b c a x)
  one_of_one (d ∷ bs) b c (inr k) x = inr (one_of_one bs b c k x)

  one_on : (xs bs : List Body) (c : Body) → BodiesUnder W S D xs bs → IsOneUnder W S D bs c → IsOneUnder W S D xs c
  one_on xs [] c k i = absurd i
  one_on xs (b ∷ bs) c k (inl a) = one_of_one xs b c k.0 a
  one_on xs (b ∷ bs) c k (inr i) = one_on xs bs c k.1 i

  pub kept_on : (xs bs cs : List Body) → BodiesUnder W S D xs bs → BodiesUnder W S D bs cs → BodiesUnder W S D xs cs
  kept_on xs bs [] k l = tt
  kept_on xs bs (c ∷ cs) k l = (one_on xs bs c k l.0, kept_on xs bs cs k l.1)

  -- ---- one of a list, by its index

  one_at : (bs : List Body) (c : Body) → IsOneUnder W S D bs c → (b : Body) × Contains bs b × AlikeUnder W S D b c
  one_at [] c k = absurd k
  one_at (b ∷ bs) c (inl a) = (b, (0, omega arith, refl), a)
  one_at (b ∷ bs) c (inr k) =
      let (d, (i, below, at), a) = one_at bs c k in
      (d, (suc i, omega (arith, below), at), a)

  kept_at : (bs cs : List Body) → BodiesUnder W S D bs cs → (c : Body) (i : ℕ) → i < length cs → slice_index_or cs i c ≡ c → IsOneUnder W S D bs c
  kept_at bs [] k c i below at = absurd (omega (arith, below))
  kept_at bs (d ∷ cs) k c zero below at = subst (IsOneUnder W S D bs) at k.0
  kept_at bs (d ∷ cs) k c (suc i) below at = kept_at bs cs k.1 c i (omega (arith, below)) at

  pub kept_stands : (bs cs : List Body) → BodiesUnder W S D bs cs → (c : Body) → Contains cs c → (b : Body) × Contains bs b × AlikeUnder W S D b c
  kept_stands bs cs k c (i, below, at) = one_at bs c (kept_at bs cs k c i below at)

-- ---- whichever are steady

pub each_of : (W D : VariableSet) (xs bs cs ds : List Body) → BodiesWith W D xs cs → BodiesWith W D bs ds → BodiesWith W D (xs ++ bs) (cs ++ ds)
each_of W D = each_under W none_steady D

pub kept_itself : (W D : VariableSet) (bs : List Body) → BodiesWith W D bs bs
kept_itself W D = itself_under W none_steady D

-- The places of the names with a spelling.
use Rattle.std.specs.Prelude.{ℕ, zero, suc, ◌+◌, ◌-◌, ◌≡◌, ◌<◌, refl, nat_eq, Bool, true, false, ◌&&◌, ◌||◌, List, [], ◌∷◌, ◌++◌, length, take, drop, slice_index_or, slice_set, Option, Some, None, if◌then◌else◌}
use Rattle.std.proofs.Common.{ap, subst, ◌∙◌, sym, arith, append_assoc, eq-eqb, add-zero, zero-add}
use Rattle.std.proofs.lemmas.Bool.{eqb-true}
use Rattle.std.proofs.lemmas.List.{append-nil, length-append, length-set, get_or-set_same, get_or-set_other, take-append-le, take_all}
use Rattle.std.specs.Option.{unwrap_or}
use Rattle.std.specs.declared.vec.Vec.{Vec}
use Rattle.std.specs.declared.alloc.Global.{Global}
use Rattle.mini_model.specs.declared.name.SymbolId.{SymbolId}
use Rattle.mini_model.specs.Weight.{same_text}
use Rattle.mini_laws.specs.declared.names.Use.{Use}
use Rattle.mini_laws.specs.declared.names.Binding.{Binding}
use Rattle.mini_laws.specs.Resolved.{or_else, serves, is_for, own_symbol, symbol_of, numbered}
use Rattle.mini_scope.specs.Spelled.{spelled, Numbers, number_of, HasPlaces, Holds, has_name}

and_true : (a b : Bool) → (a && b) ≡ true → (a ≡ true) × (b ≡ true)
and_true true b e = (refl, e)
and_true false b e = (e, cc)

same_texts : (s r : List ℕ) → same_text s r ≡ true → s ≡ r
same_texts [] [] e = refl
same_texts [] (y ∷ r) e = cc
same_texts (x ∷ s) [] e = cc
same_texts (x ∷ s) (y ∷ r) e = let both = and_true (nat_eq x y) (same_text s r) e in ap (λ z. z ∷ s) (eqb-true x y both.0) ∙ ap (λ t. y ∷ t) (same_texts s r both.1)

same_itself : (s : List ℕ) → same_text s s ≡ true
same_itself [] = refl
same_itself (x ∷ s) = ap (λ c. c && same_text s s) (eq-eqb x x refl) ∙ same_itself s

last_by : (c : Bool) (xs ys zs : List ℕ) (i : ℕ) → xs ≡ ys ++ zs → (if c then i ∷ xs else xs) ≡ (if c then i ∷ ys else ys) ++ zs
last_by true xs ys zs i e = ap (λ r. i ∷ r) e
last_by false xs ys zs i e = e

spelled_last : (s : List ℕ) (i : ℕ) (bs : List Binding) (b : Binding) → spelled s i (bs ++ b ∷ []) ≡ spelled s i bs ++ (if same_text b.name.spelling s then (i + length bs) ∷ [] else [])
spelled_last s i [] b = ap (λ j. if same_text b.name.spelling s then j ∷ [] else []) (sym (add-zero i))
spelled_last s i (x ∷ bs) b =
    last_by (same_text x.name.spelling s) (spelled s (suc i) (bs ++ b ∷ [])) (spelled s (suc i) bs) _ i (spelled_last s (suc i) bs b)
    ∙ ap (λ j. (if same_text x.name.spelling s then i ∷ spelled s (suc i) bs else spelled s (suc i) bs) ++ (if same_text b.name.spelling s then j ∷ [] else [])) (omega arith)

pub spelled_end : (s : List ℕ) (bs : List Binding) (b : Binding) → spelled s 0 (bs ++ b ∷ []) ≡ spelled s 0 bs ++ (if same_text b.name.spelling s then length bs ∷ [] else [])
spelled_end s bs b = spelled_last s 0 bs b ∙ ap (λ j. spelled s 0 bs ++ (if same_text b.name.spelling s then j ∷ [] else [])) (zero-add (length bs))

-- ---- the bucket of a spelling

pub same_at : (ks : List (Vec ℕ Global)) (i : ℕ) (d e : Vec ℕ Global) → i < length ks → slice_index_or ks i d ≡ slice_index_or ks i e
same_at [] i d e h = absurd (omega arith)
same_at (x ∷ ks) zero d e h = refl
same_at (x ∷ ks) (suc i) d e h = same_at ks i d e (omega arith)

-- a number that is told is that of a bucket with these places
pub told : (ks : List (Vec ℕ Global)) (o : Option ℕ) (k : ℕ) (ps : List ℕ) → o ≡ Some k → HasPlaces ks o ps → HasPlaces ks (Some k) ps
told ks o k ps e h = subst (λ p. HasPlaces ks p ps) e h

pub is_bucket : (m : Numbers) (ks : List (Vec ℕ Global)) (bs : List Binding) (s : List ℕ) (k : ℕ) → Holds m ks bs → number_of m s ≡ Some k → HasPlaces ks (Some k) (spelled s 0 bs)
is_bucket m ks bs s k h e = told ks (number_of m s) k (spelled s 0 bs) e (h.places s)

pub is_nowhere : (m : Numbers) (ks : List (Vec ℕ Global)) (bs : List Binding) (s : List ℕ) → Holds m ks bs → number_of m s ≡ None → spelled s 0 bs ≡ []
is_nowhere m ks bs s h e = subst (λ p. HasPlaces ks p (spelled s 0 bs)) e (h.places s)

some_same : (k j : ℕ) → Some k ≡ Some j → k ≡ j
some_same k j e = ap (λ o. unwrap_or o k) e

none_some : (k : ℕ) → None ≡ Some k → ⊥
none_some k e = cc

differs : (s r : List ℕ) → same_text s r ≡ false → s ≡ r → ⊥
differs s r f e = let g = sym (ap (same_text s) e) ∙ same_itself s in cc

apart : (at k : ℕ) → nat_eq at k ≡ false → k ≡ at → ⊥
apart at k f e = let same = eq-eqb at k (sym e) in cc

before_last : (ks : List (Vec ℕ Global)) (v : Vec ℕ Global) (k : ℕ) (d : Vec ℕ Global) → k < length ks → slice_index_or (ks ++ v ∷ []) k d ≡ slice_index_or ks k d
before_last [] v k d h = absurd (omega arith)
before_last (x ∷ ks) v zero d h = refl
before_last (x ∷ ks) v (suc k) d h = before_last ks v k d (omega arith)

at_last : (ks : List (Vec ℕ Global)) (v d : Vec ℕ Global) → slice_index_or (ks ++ v ∷ []) (length ks) d ≡ v
at_last [] v d = refl
at_last (x ∷ ks) v d = at_last ks v d

kept_at : (ks : List (Vec ℕ Global)) (at : ℕ) (v : Vec ℕ Global) → at < length ks → ((d : Vec ℕ Global) → v.items ≡ (slice_index_or ks at d).items) → (k : ℕ) (d : Vec ℕ Global) (c : Bool) → nat_eq at k ≡ c → (slice_index_or (slice_set ks at v) k d).items ≡ (slice_index_or ks k d).items
kept_at ks at v l p k d true f = let same = eqb-true at k f in ap (λ j. (slice_index_or (slice_set ks at v) j d).items) (sym same) ∙ ap (λ w. w.items) (get_or-set_same ks at v d l) ∙ p d ∙ ap (λ j. (slice_index_or ks j d).items) same
kept_at ks at v l p k d false f = ap (λ w. w.items) (get_or-set_other ks at k v d (apart at k f))

-- ---- a name more

pushed_by : (m : Numbers) (ks : List (Vec ℕ Global)) (bs : List Binding) (b : Binding) (at : ℕ) (v : Vec ℕ Global) → Holds m ks bs → number_of m b.name.spelling ≡ Some at → ((d : Vec ℕ Global) → v.items ≡ (slice_index_or ks at d).items ++ length bs ∷ []) → (s : List ℕ) (o : Option ℕ) → number_of m s ≡ o → (c : Bool) → same_text b.name.spelling s ≡ c → HasPlaces (slice_set ks at v) o (spelled s 0 bs ++ (if c then length bs ∷ [] else []))
pushed_by m ks bs b at v h e p s None f true g = let r = same_texts b.name.spelling s g in let q = ap (number_of m) r in cc
pushed_by m ks bs b at v h e p s None f false g = append-nil (spelled s 0 bs) ∙ is_nowhere m ks bs s h f
pushed_by m ks bs b at v h e p s (Some k) f true g =
    let own = is_bucket m ks bs s k h f in
    let same : k ≡ at = some_same k at (sym f ∙ ap (number_of m) (sym (same_texts b.name.spelling s g)) ∙ e) in (
      omega (arith, own.0, length-set ks at v),
      λ d. ap (λ j. (slice_index_or (slice_set ks at v) j d).items) same ∙ ap (λ w. w.items) (get_or-set_same ks at v d (omega (arith, own.0, same))) ∙ p d ∙ ap (λ j. (slice_index_or ks j d).items ++ length bs ∷ []) (sym same) ∙ ap (λ r. r ++ length bs ∷ []) (own.1 d),
    )
pushed_by m ks bs b at v h e p s (Some k) f false g =
    let own = is_bucket m ks bs s k h f in (
      omega (arith, own.0, length-set ks at v),
      λ d. ap (λ w. w.items) (get_or-set_other ks at k v d (λ same. differs b.name.spelling s g (h.apart b.name.spelling s k (e ∙ ap Some (sym same)) f))) ∙ own.1 d ∙ sym (append-nil (spelled s 0 bs)),
    )

pub pushed : (m : Numbers) (ks : List (Vec ℕ Global)) (bs : List Binding) (b : Binding) (at : ℕ) (v : Vec ℕ Global) → Holds m ks bs → number_of m b.name.spelling ≡ Some at → ((d : Vec ℕ Global) → v.items ≡ (slice_index_or ks at d).items ++ length bs ∷ []) → Holds m (slice_set ks at v) (bs ++ b ∷ [])
pushed m ks bs b at v h e p = record { places = λ s. subst (HasPlaces (slice_set ks at v) (number_of m s)) (sym (spelled_end s bs b)) (pushed_by m ks bs b at v h e p s (number_of m s) refl (same_text b.name.spelling s) refl); apart = h.apart }

-- ---- a name less

one_less : (xs : List ℕ) (x : ℕ) → take (length (xs ++ x ∷ []) - 1) (xs ++ x ∷ []) ≡ xs
one_less xs x = ap (λ m. take m (xs ++ x ∷ [])) (omega (arith, length-append xs (x ∷ []))) ∙ take-append-le (length xs) xs (x ∷ []) (omega arith) ∙ take_all (length xs) xs (omega arith)

popped_by : (m : Numbers) (ks : List (Vec ℕ Global)) (bs : List Binding) (b : Binding) (at : ℕ) (v : Vec ℕ Global) → Holds m ks (bs ++ b ∷ []) → number_of m b.name.spelling ≡ Some at → ((d : Vec ℕ Global) → v.items ≡ take (length (slice_index_or ks at d).items - 1) (slice_index_or ks at d).items) → (s : List ℕ) (o : Option ℕ) → number_of m s ≡ o → (c : Bool) → same_text b.name.spelling s ≡ c → spelled s 0 (bs ++ b ∷ []) ≡ spelled s 0 bs ++ (if c then length bs ∷ [] else []) → HasPlaces (slice_set ks at v) o (spelled s 0 bs)
popped_by m ks bs b at v h e p s None f true g q = let r = same_texts b.name.spelling s g in let t = ap (number_of m) r in cc
popped_by m ks bs b at v h e p s None f false g q = sym (append-nil (spelled s 0 bs)) ∙ sym q ∙ is_nowhere m ks (bs ++ b ∷ []) s h f
popped_by m ks bs b at v h e p s (Some k) f true g q =
    let own = is_bucket m ks (bs ++ b ∷ []) s k h f in
    let same : k ≡ at = some_same k at (sym f ∙ ap (number_of m) (sym (same_texts b.name.spelling s g)) ∙ e) in (
      omega (arith, own.0, length-set ks at v),
      λ d. ap (λ j. (slice_index_or (slice_set ks at v) j d).items) same ∙ ap (λ w. w.items) (get_or-set_same ks at v d (omega (arith, own.0, same))) ∙ p d ∙ ap (λ j. take (length (slice_index_or ks j d).items - 1) (slice_index_or ks j d).items) (sym same)
          ∙ ap (λ r. take (length r - 1) r) (own.1 d ∙ q) ∙ one_less (spelled s 0 bs) (length bs),
    )
popped_by m ks bs b at v h e p s (Some k) f false g q =
    let own = is_bucket m ks (bs ++ b ∷ []) s k h f in (
      omega (arith, own.0, length-set ks at v),
      λ d. ap (λ w. w.items) (get_or-set_other ks at k v d (λ same. differs b.name.spelling s g (h.apart b.name.spelling s k (e ∙ ap Some (sym same)) f))) ∙ own.1 d ∙ q ∙ append-nil (spelled s 0 bs),
    )

pub popped : (m : Numbers) (ks : List (Vec ℕ Global)) (bs : List Binding) (b : Binding) (at : ℕ) (v : Vec ℕ Global) → Holds m ks (bs ++ b ∷ []) → number_of m b.name.spelling ≡ Some at → ((d : Vec ℕ Global) → v.items ≡ take (length (slice_index_or ks at d).items - 1) (slice_index_or ks at d).items) → Holds m (slice_set ks at v) bs
popped m ks bs b at v h e p = record { places = λ s. popped_by m ks bs b at v h e p s (number_of m s) refl (same_text b.name.spelling s) refl (spelled_end s bs b); apart = h.apart }

ends_with : (xs : List ℕ) (x : ℕ) → xs ++ x ∷ [] ≡ [] → ⊥
ends_with [] x e = cc
ends_with (y ∷ xs) x e = cc

-- each name has a number
pub has_number : (m : Numbers) (ks : List (Vec ℕ Global)) (bs : List Binding) (b : Binding) → Holds m ks (bs ++ b ∷ []) → number_of m b.name.spelling ≡ None → ⊥
has_number m ks bs b h e =
    ends_with (spelled b.name.spelling 0 bs) (length bs) (
    ap (λ c. spelled b.name.spelling 0 bs ++ (if c then length bs ∷ [] else [])) (sym (same_itself b.name.spelling))
    ∙ sym (spelled_end b.name.spelling bs b)
    ∙ is_nowhere m ks (bs ++ b ∷ []) b.name.spelling h e
    )

-- ---- a bucket that is as it was

kept_by : (ks : List (Vec ℕ Global)) (at : ℕ) (v : Vec ℕ Global) → at < length ks → ((d : Vec ℕ Global) → v.items ≡ (slice_index_or ks at d).items) → (o : Option ℕ) (ps : List ℕ) → HasPlaces ks o ps → HasPlaces (slice_set ks at v) o ps
kept_by ks at v l p None ps own = own
kept_by ks at v l p (Some k) ps own = (omega (arith, own.0, length-set ks at v), λ d. kept_at ks at v l p k d (nat_eq at k) refl ∙ own.1 d)

pub kept : (m : Numbers) (ks : List (Vec ℕ Global)) (bs : List Binding) (at : ℕ) (v : Vec ℕ Global) → Holds m ks bs → at < length ks → ((d : Vec ℕ Global) → v.items ≡ (slice_index_or ks at d).items) → Holds m (slice_set ks at v) bs
kept m ks bs at v h l p = record { places = λ s. kept_by ks at v l p (number_of m s) (spelled s 0 bs) (h.places s); apart = h.apart }

pub without_last : (bs : List Binding) (b : Binding) → take (length (bs ++ b ∷ []) - 1) (bs ++ b ∷ []) ≡ bs
without_last bs b = ap (λ m. take m (bs ++ b ∷ [])) (omega (arith, length-append bs (b ∷ []))) ∙ take-append-le (length bs) bs (b ∷ []) (omega arith) ∙ take_all (length bs) bs (omega arith)

-- an answer that isn't a number is none
pub is_none : (o p : Option ℕ) → ((k : ℕ) → o ≡ Some k → ⊥) → o ≡ p → p ≡ None
is_none None p h e = sym e
is_none (Some k) p h e = absurd (h k refl)

-- ---- a bucket more

widened : (ks : List (Vec ℕ Global)) (v : Vec ℕ Global) (o : Option ℕ) (ps : List ℕ) → HasPlaces ks o ps → HasPlaces (ks ++ v ∷ []) o ps
widened ks v None ps own = own
widened ks v (Some k) ps own = (omega (arith, own.0, length-append ks (v ∷ [])), λ d. ap (λ w. w.items) (before_last ks v k d own.0) ∙ own.1 d)

pub opened : (m : Numbers) (ks : List (Vec ℕ Global)) (bs : List Binding) (v : Vec ℕ Global) → Holds m ks bs → Holds m (ks ++ v ∷ []) bs
opened m ks bs v h = record { places = λ s. widened ks v (number_of m s) (spelled s 0 bs) (h.places s); apart = h.apart }

-- the numbers as they were
pub same_numbers : (m n : Numbers) (ks : List (Vec ℕ Global)) (bs : List Binding) → ((s : List ℕ) → number_of n s ≡ number_of m s) → Holds m ks bs → Holds n ks bs
same_numbers m n ks bs e h = record { places = λ s. subst (λ o. HasPlaces ks o (spelled s 0 bs)) (sym (e s)) (h.places s); apart = λ s r k p q. h.apart s r k (sym (e s) ∙ p) (sym (e r) ∙ q) }

named_places : (m : Numbers) (ks : List (Vec ℕ Global)) (bs : List Binding) (v : Vec ℕ Global) (t : List ℕ) → Holds m ks bs → v.items ≡ [] → number_of m t ≡ None → (s : List ℕ) (c : Bool) → same_text t s ≡ c → HasPlaces (ks ++ v ∷ []) (if c then Some (length ks) else number_of m s) (spelled s 0 bs)
named_places m ks bs v t h e f s true g = (
  omega (arith, length-append ks (v ∷ [])),
  λ d. ap (λ w. w.items) (at_last ks v d) ∙ e ∙ sym (is_nowhere m ks bs t h f) ∙ ap (λ r. spelled r 0 bs) (same_texts t s g),
)
named_places m ks bs v t h e f s false g = widened ks v (number_of m s) (spelled s 0 bs) (h.places s)

named_apart : (m : Numbers) (ks : List (Vec ℕ Global)) (bs : List Binding) (t : List ℕ) → Holds m ks bs → (s r : List ℕ) (k : ℕ) (c b : Bool) → same_text t s ≡ c → same_text t r ≡ b → (if c then Some (length ks) else number_of m s) ≡ Some k → (if b then Some (length ks) else number_of m r) ≡ Some k → s ≡ r
named_apart m ks bs t h s r k true true f g p q = sym (same_texts t s f) ∙ same_texts t r g
named_apart m ks bs t h s r k true false f g p q = let own = is_bucket m ks bs r k h q in let same = some_same (length ks) k p in absurd (omega (arith, own.0, same))
named_apart m ks bs t h s r k false true f g p q = let own = is_bucket m ks bs s k h p in let same = some_same (length ks) k q in absurd (omega (arith, own.0, same))
named_apart m ks bs t h s r k false false f g p q = h.apart s r k p q

pub named : (m n : Numbers) (ks : List (Vec ℕ Global)) (bs : List Binding) (v : Vec ℕ Global) (t : List ℕ) → v.items ≡ [] → number_of m t ≡ None → ((s : List ℕ) → number_of n s ≡ (if same_text t s then Some (length ks) else number_of m s)) → Holds m ks bs → Holds n (ks ++ v ∷ []) bs
named m n ks bs v t e f g h = record {
  places = λ s. subst (λ o. HasPlaces (ks ++ v ∷ []) o (spelled s 0 bs)) (sym (g s)) (named_places m ks bs v t h e f s (same_text t s) refl);
  apart = λ s r k p q. named_apart m ks bs t h s r k (same_text t s) (same_text t r) refl refl (sym (g s) ∙ p) (sym (g r) ∙ q);
}

-- the number that the spelling has then
pub own_number : (m n : Numbers) (t : List ℕ) (k : ℕ) → ((s : List ℕ) → number_of n s ≡ (if same_text t s then Some k else number_of m s)) → number_of n t ≡ Some k
own_number m n t k g = g t ∙ ap (λ c. if c then Some k else number_of m t) (same_itself t)

-- ---- no name

pub nothing_held : (m : Numbers) (ks : List (Vec ℕ Global)) (bs : List Binding) → ((s : List ℕ) → number_of m s ≡ None) → bs ≡ [] → Holds m ks bs
nothing_held m ks bs e f = record {
  places = λ s. subst (λ o. HasPlaces ks o (spelled s 0 bs)) (sym (e s)) (ap (spelled s 0) f);
  apart = λ s r k p q. absurd (none_some k (sym (e s) ∙ p));
}

-- ---- looking a spelling up

below_by : (c : Bool) (i m : ℕ) (xs : List ℕ) → ((j d : ℕ) → j < length xs → slice_index_or xs j d < i + suc m) → (j d : ℕ) → j < length (if c then i ∷ xs else xs) → slice_index_or (if c then i ∷ xs else xs) j d < i + suc m
below_by true i m xs h zero d l = omega arith
below_by true i m xs h (suc j) d l = h j d (omega arith)
below_by false i m xs h j d l = h j d l

pub places_below : (s : List ℕ) (i : ℕ) (bs : List Binding) (j d : ℕ) → j < length (spelled s i bs) → slice_index_or (spelled s i bs) j d < i + length bs
places_below s i [] j d h = absurd (omega arith)
places_below s i (b ∷ bs) j d h = below_by (same_text b.name.spelling s) i (length bs) (spelled s (suc i) bs) (λ m e l. omega (arith, places_below s (suc i) bs m e l)) j d h

abbrev pub own_at : Use → List ℕ → List Binding → ℕ → Option SymbolId
own_at u s [] p = None
own_at u s (b ∷ bs) zero = own_symbol u s b
own_at u s (b ∷ bs) (suc p) = own_at u s bs p

pub own_there : (u : Use) (s : List ℕ) (bs : List Binding) (p : ℕ) (b : Binding) → p < length bs → b ≡ slice_index_or bs p b → own_at u s bs p ≡ own_symbol u s b
own_there u s [] p b h e = absurd (omega arith)
own_there u s (x ∷ bs) zero b h e = ap (own_symbol u s) (sym e)
own_there u s (x ∷ bs) (suc p) b h e = own_there u s bs p b (omega arith) e

own_middle : (u : Use) (s : List ℕ) (pre : List Binding) (b : Binding) (rest : List Binding) → own_at u s (pre ++ b ∷ rest) (length pre) ≡ own_symbol u s b
own_middle u s [] b rest = refl
own_middle u s (x ∷ pre) b rest = own_middle u s pre b rest

abbrev pub through : Use → List ℕ → List Binding → List ℕ → Option SymbolId
through u s bs [] = None
through u s bs (p ∷ ps) = or_else (through u s bs ps) (own_at u s bs p)

or_none : (x : Option SymbolId) → or_else x None ≡ x
or_none None = refl
or_none (Some x) = refl

or_or : (x y z : Option SymbolId) → or_else (or_else x y) z ≡ or_else x (or_else y z)
or_or None y z = refl
or_or (Some x) y z = refl

pub through_last : (u : Use) (s : List ℕ) (bs : List Binding) (ps : List ℕ) (p : ℕ) → through u s bs (ps ++ p ∷ []) ≡ or_else (own_at u s bs p) (through u s bs ps)
through_last u s bs [] p = sym (or_none (own_at u s bs p))
through_last u s bs (q ∷ ps) p = ap (λ r. or_else r (own_at u s bs q)) (through_last u s bs ps p) ∙ or_or (own_at u s bs p) (through u s bs ps) (own_at u s bs q)

none_for : (c v : Bool) (q : Option SymbolId) → v ≡ false → (if c && v then q else None) ≡ None
none_for true v q e = ap (λ w. if w then q else None) e
none_for false v q e = refl

found_by : (u : Use) (s : List ℕ) (all : List Binding) (b : Binding) (rest : List Binding) (p : ℕ) (ps : List ℕ) (c : Bool) → same_text b.name.spelling s ≡ c → own_at u s all p ≡ own_symbol u s b → through u s all ps ≡ symbol_of u s rest → through u s all (if c then p ∷ ps else ps) ≡ or_else (symbol_of u s rest) (own_symbol u s b)
found_by u s all b rest p ps true f o e = ap (λ r. or_else r (own_at u s all p)) e ∙ ap (λ r. or_else (symbol_of u s rest) r) o
found_by u s all b rest p ps false f o e =
    e ∙ sym (or_none (symbol_of u s rest))
    ∙ ap (λ r. or_else (symbol_of u s rest) r) (sym (none_for (serves u b) (same_text b.name.spelling s) b.name.symbol f))

found : (u : Use) (s : List ℕ) (pre bs : List Binding) → through u s (pre ++ bs) (spelled s (length pre) bs) ≡ symbol_of u s bs
found u s pre [] = refl
found u s pre (b ∷ bs) =
    found_by u s (pre ++ b ∷ bs) b bs (length pre) (spelled s (suc (length pre)) bs) (same_text b.name.spelling s) refl (own_middle u s pre b bs)
    (ap (λ v. through u s v (spelled s (suc (length pre)) bs)) (sym (append_assoc pre (b ∷ []) bs))
    ∙ ap (λ m. through u s ((pre ++ b ∷ []) ++ bs) (spelled s m bs)) (omega (arith, length-append pre (b ∷ [])))
    ∙ found u s (pre ++ b ∷ []) bs)

pub found_there : (u : Use) (s : List ℕ) (bs : List Binding) → through u s bs (spelled s 0 bs) ≡ symbol_of u s bs
found_there u s bs = found u s [] bs

-- ---- whether a spelling is there

abbrev pub has_at : Use → List ℕ → List Binding → ℕ → Bool
has_at u s [] p = false
has_at u s (b ∷ bs) zero = is_for u s b
has_at u s (b ∷ bs) (suc p) = has_at u s bs p

pub has_there : (u : Use) (s : List ℕ) (bs : List Binding) (p : ℕ) (b : Binding) → p < length bs → b ≡ slice_index_or bs p b → has_at u s bs p ≡ is_for u s b
has_there u s [] p b h e = absurd (omega arith)
has_there u s (x ∷ bs) zero b h e = ap (is_for u s) (sym e)
has_there u s (x ∷ bs) (suc p) b h e = has_there u s bs p b (omega arith) e

has_middle : (u : Use) (s : List ℕ) (pre : List Binding) (b : Binding) (rest : List Binding) → has_at u s (pre ++ b ∷ rest) (length pre) ≡ is_for u s b
has_middle u s [] b rest = refl
has_middle u s (x ∷ pre) b rest = has_middle u s pre b rest

abbrev pub has_any : Use → List ℕ → List Binding → List ℕ → Bool
has_any u s bs [] = false
has_any u s bs (p ∷ ps) = has_at u s bs p || has_any u s bs ps

no_text : (c v : Bool) → v ≡ false → (c && v) ≡ false
no_text true v e = e
no_text false v e = refl

had_by : (u : Use) (s : List ℕ) (all : List Binding) (b : Binding) (rest : List Binding) (p : ℕ) (ps : List ℕ) (c : Bool) → same_text b.name.spelling s ≡ c → has_at u s all p ≡ is_for u s b → has_any u s all ps ≡ has_name u s rest → has_any u s all (if c then p ∷ ps else ps) ≡ (is_for u s b || has_name u s rest)
had_by u s all b rest p ps true f o e = ap (λ r. r || has_any u s all ps) o ∙ ap (λ r. is_for u s b || r) e
had_by u s all b rest p ps false f o e = e ∙ ap (λ r. r || has_name u s rest) (sym (no_text (serves u b) (same_text b.name.spelling s) f))

had : (u : Use) (s : List ℕ) (pre bs : List Binding) → has_any u s (pre ++ bs) (spelled s (length pre) bs) ≡ has_name u s bs
had u s pre [] = refl
had u s pre (b ∷ bs) =
    had_by u s (pre ++ b ∷ bs) b bs (length pre) (spelled s (suc (length pre)) bs) (same_text b.name.spelling s) refl (has_middle u s pre b bs)
    (ap (λ v. has_any u s v (spelled s (suc (length pre)) bs)) (sym (append_assoc pre (b ∷ []) bs))
    ∙ ap (λ m. has_any u s ((pre ++ b ∷ []) ++ bs) (spelled s m bs)) (omega (arith, length-append pre (b ∷ [])))
    ∙ had u s (pre ++ b ∷ []) bs)

pub had_there : (u : Use) (s : List ℕ) (bs : List Binding) → has_any u s bs (spelled s 0 bs) ≡ has_name u s bs
had_there u s bs = had u s [] bs

-- the first of the places that are left
pub next_place : (u : Use) (s : List ℕ) (bs : List Binding) (ps : List ℕ) (i d : ℕ) → i < length ps → has_any u s bs (drop i ps) ≡ (has_at u s bs (slice_index_or ps i d) || has_any u s bs (drop (i + 1) ps))
next_place u s bs [] i d h = absurd (omega arith)
next_place u s bs (p ∷ ps) zero d h = refl
next_place u s bs (p ∷ ps) (suc i) d h = next_place u s bs ps i d (omega arith) ∙ ap (λ k. has_at u s bs (slice_index_or ps i d) || has_any u s bs (drop k (p ∷ ps))) (let e : suc (i + 1) ≡ suc i + 1 = omega arith in e)

-- ---- names one after another

numbered_last : (n : ℕ) (xs : List Binding) (b : Binding) → numbered n (xs ++ b ∷ []) ≡ numbered n xs ++ numbered (n + length xs) (b ∷ [])
numbered_last n [] b = ap (λ k. numbered k (b ∷ [])) (sym (add-zero n))
numbered_last n (x ∷ xs) b = ap (λ r. record { name = record { spelling = x.name.spelling; symbol = Some (record { 0 = n }) }; hoists = x.hoists } ∷ r) (numbered_last (suc n) xs b ∙ ap (λ k. numbered (suc n) xs ++ numbered k (b ∷ [])) (omega arith))

pub entered : (n s : ℕ) (before now : List Binding) (ys : List Binding) (b : Binding) → s ≡ n + length ys → now ≡ before ++ numbered n ys → now ++ numbered s (b ∷ []) ≡ before ++ numbered n (ys ++ b ∷ [])
entered n s before now ys b e p =
    ap (λ r. r ++ numbered s (b ∷ [])) p
    ∙ append_assoc before (numbered n ys) (numbered s (b ∷ []))
    ∙ ap (λ k. before ++ (numbered n ys ++ numbered k (b ∷ []))) e
    ∙ ap (λ r. before ++ r) (sym (numbered_last n ys b))

pub one_more : (n s : ℕ) (ys : List Binding) (b : Binding) → s ≡ n + length ys → s + 1 ≡ n + length (ys ++ b ∷ [])
one_more n s ys b e = omega (arith, e, length-append ys (b ∷ []))

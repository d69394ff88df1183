-- Words that are read one after another.
use Rattle.std.proofs.Common.{◌≡◌, ◌≢◌, ℕ, zero, suc, ◌+◌, ◌<◌, List, [], ◌∷◌, ◌++◌, map, replicate, length, get_or, set, take, drop, Bool, true, false, refl, sym, ap, ap₂, ◌∙◌, inl, inr, arith}
use Rattle.std.specs.Prelude.{Option, Some, None, ◌==◌, if◌then◌else◌}
use Rattle.std.specs.List.{AllByRecursion}
use Rattle.std.proofs.lemmas.Bool.{eqb-false, eq-eqb, ne_eqb}
use Rattle.std.proofs.lemmas.Bool.Decides.{eqb_tells}
use Rattle.std.proofs.lemmas.List.{get_or-set_same, get_or-set_other, map-append, take_more, length-map}
use Rattle.mini_run.specs.declared.choice.Choice.{Choice}
use Rattle.mini_run.specs.declared.choice.Choice.TheVariants.{NoSequences, NoJoinVars, KeepFunctionNames, KeepClassNames, PureCoercion, KnownCalls, Passes, MaxDepth, Generate, Edition}
use Rattle.mini_run.specs.Words.{spelling, option_of, number_of, named, IsAllowed, IsOnce, Spell, GoodWords}
use Rattle.mini_run.proofs.Spelled.{spelling_tells}

pub option_small : (c : Choice) → option_of c < 10
option_small NoSequences = omega arith
option_small NoJoinVars = omega arith
option_small KeepFunctionNames = omega arith
option_small KeepClassNames = omega arith
option_small PureCoercion = omega arith
option_small KnownCalls = omega arith
option_small (Passes n) = omega arith
option_small (MaxDepth n) = omega arith
option_small (Generate n) = omega arith
option_small (Edition n) = omega arith

-- ---- one more choice

pub skip : (b : Bool) (x : ℕ) (o : Option ℕ) → (if b then Some x else o) ≡ None → (b ≡ false) × (o ≡ None)
skip true x o e = absurd (cc e)
skip false x o e = (refl, e)

named-other : (k : ℕ) (cs : List Choice) (c : Choice) → option_of c ≢ k → named k (cs ++ c ∷ []) ≡ named k cs
named-other k [] c apart = rw (ne_eqb (option_of c) k apart) refl
named-other k (d ∷ ds) c apart = rw (named-other k ds c apart) refl

named-new : (cs : List Choice) (c : Choice) → named (option_of c) cs ≡ None → named (option_of c) (cs ++ c ∷ []) ≡ Some (number_of c)
named-new [] c none = rw (eq-eqb (option_of c) (option_of c) refl) refl
named-new (d ∷ ds) c none =
    let (apart, rest) = skip (option_of d == option_of c) (number_of d) (named (option_of c) ds) none in
    rw (apart, named-new ds c rest) refl

once_more : (cs : List Choice) (c : Choice) → IsOnce cs → named (option_of c) cs ≡ None → IsOnce (cs ++ c ∷ [])
once_more [] c once none = (refl, tt)
once_more (d ∷ ds) c once none =
    let (apart, rest) = skip (option_of d == option_of c) (number_of d) (named (option_of c) ds) none in
    (named-other (option_of d) ds c (λ same. eqb-false _ _ apart (sym same)) ∙ once.0, once_more ds c once.1 rest)

allowed_more : (cs : List Choice) (c : Choice) → AllByRecursion IsAllowed cs → IsAllowed c → AllByRecursion IsAllowed (cs ++ c ∷ [])
allowed_more [] c all small = (small, tt)
allowed_more (d ∷ ds) c all small = (all.0, allowed_more ds c all.1 small)

-- ---- what is known of the words that were read: their choices, and each option's number

abbrev pub IsRead : List (List ℕ) → List (Option ℕ) → Type 0
IsRead words slots = (cs : List Choice) × Spell words cs × ((k : ℕ) → k < 10 → get_or slots k None ≡ named k cs)

none_at : (n k : ℕ) → get_or {A = Option ℕ} (replicate n None) k None ≡ None
none_at zero k = refl
none_at (suc n) zero = refl
none_at (suc n) (suc k) = none_at n k

pub start : IsRead [] (replicate 10 None)
start = ([], record { spelled = refl; allowed = tt; once = tt }, λ k below. none_at 10 k)

pub next : (words : List (List ℕ)) (slots : List (Option ℕ)) (w : List ℕ) (c : Choice) → IsRead words slots → IsAllowed c → w ≡ spelling c → length slots ≡ 10 → get_or slots (option_of c) None ≡ None → IsRead (words ++ w ∷ []) (set slots (option_of c) (Some (number_of c)))
next words slots w c (cs, s, at) small is long free =
    let none : named (option_of c) cs ≡ None = sym (at (option_of c) (option_small c)) ∙ free in (
      cs ++ c ∷ [],
      record {
        spelled = ap₂ (λ a b. a ++ b ∷ []) s.spelled is ∙ sym (map-append spelling cs (c ∷ []));
        allowed = allowed_more cs c s.allowed small;
        once = once_more cs c s.once none;
      },
      λ k below. elim (eqb_tells k (option_of c)) [
        | inl (is, same) ↦ rw same (get_or-set_same slots (option_of c) (Some (number_of c)) None (omega (arith, option_small c)) ∙ sym (named-new cs c none))
        | inr (isnt, apart) ↦ get_or-set_other slots (option_of c) k (Some (number_of c)) None apart ∙ at k below ∙ sym (named-other k cs c (λ same. apart (sym same)))
      ],
    )

-- ---- words that aren't good

none_spelled : (words : List (List ℕ)) (cs : List Choice) (i : ℕ) → words ≡ map spelling cs → AllByRecursion IsAllowed cs → i < length words → ((c : Choice) → IsAllowed c → get_or words i [] ≢ spelling c) → ⊥
none_spelled [] cs i is all within none = omega arith
none_spelled (w ∷ ws) [] i is all within none = cc is
none_spelled (w ∷ ws) (c ∷ cs) zero is all within none = none c all.0 (ap (λ l. get_or l 0 []) is)
none_spelled (w ∷ ws) (c ∷ cs) (suc i) is all within none = none_spelled ws cs i (ap (drop 1) is) all.1 (omega arith) none

-- one of the words spells no choice
pub unread : (words : List (List ℕ)) (i : ℕ) → i < length words → ((c : Choice) → IsAllowed c → get_or words i [] ≢ spelling c) → GoodWords words → ⊥
unread words i within none (cs, s) = none_spelled words cs i s.spelled s.allowed within none

-- words are spelled by one list of choices
first_choices : (cs ds : List Choice) (c : Choice) (w : List ℕ) (rest : List (List ℕ)) → AllByRecursion IsAllowed cs → AllByRecursion IsAllowed ds → IsAllowed c → w ≡ spelling c → map spelling cs ++ w ∷ rest ≡ map spelling ds → (es : List Choice) × (ds ≡ cs ++ c ∷ es)
first_choices [] [] c w rest all all' small is same = absurd (cc same)
first_choices [] (d ∷ ds) c w rest all all' small is same = (ds, ap (λ x. x ∷ ds) (sym (spelling_tells c d small all'.0 (sym is ∙ ap (λ l. get_or l 0 []) same))))
first_choices (b ∷ bs) [] c w rest all all' small is same = absurd (cc same)
first_choices (b ∷ bs) (d ∷ ds) c w rest all all' small is same =
    let (es, more) = first_choices bs ds c w rest all.1 all'.1 small is (ap (drop 1) same) in
    (es, ap₂ ◌∷◌ (sym (spelling_tells b d all.0 all'.0 (ap (λ l. get_or l 0 []) same))) more)

pub still_named : (ds es : List Choice) (c : Choice) → named (option_of c) (ds ++ c ∷ es) ≡ None → ⊥
still_named [] es c none = eqb-false _ _ (skip (option_of c == option_of c) (number_of c) (named (option_of c) es) none).0 refl
still_named (d ∷ ds) es c none = still_named ds es c (skip (option_of d == option_of c) (number_of d) (named (option_of c) (ds ++ c ∷ es)) none).1

once_apart : (cs es : List Choice) (c : Choice) → IsOnce (cs ++ c ∷ es) → (named (option_of c) cs ≡ None → ⊥) → ⊥
once_apart [] es c once had = had refl
once_apart (d ∷ ds) es c once had = elim (eqb_tells (option_of d) (option_of c)) [
  | inl (is, same) ↦ still_named ds es c (rw same at once.0)
  | inr (isnt, apart) ↦ once_apart ds es c once.1 (λ none. had (rw isnt none))
]

-- one of the words names an option again
pub twice : (words rest : List (List ℕ)) (slots : List (Option ℕ)) (w : List ℕ) (c : Choice) → IsRead words slots → IsAllowed c → w ≡ spelling c → get_or slots (option_of c) None ≢ None → GoodWords (words ++ w ∷ rest) → ⊥
twice words rest slots w c (cs, s, at) small is had (ds, good) =
    let (es, same) = first_choices cs ds c w rest s.allowed good.allowed small is (rw s.spelled at good.spelled) in
    once_apart cs es c (rw same at good.once) (λ none. had (at (option_of c) (option_small c) ∙ none))

-- ---- the word that is read

module _ {X : Type 0} (f : X → List ℕ) where
  pub at_item : (items : List X) (i : ℕ) (x : X) → x ≡ get_or items i x → i < length items → get_or (map f items) i [] ≡ f x
  at_item [] i x is within = absurd (omega (arith, within))
  at_item (y ∷ ys) zero x is within = ap f (sym is)
  at_item (y ∷ ys) (suc i) x is within = at_item ys i x is (omega arith)

  pub split_item : (items : List X) (i : ℕ) (x : X) → x ≡ get_or items i x → i < length items → map f items ≡ take i (map f items) ++ f x ∷ drop (suc i) (map f items)
  split_item [] i x is within = absurd (omega (arith, within))
  split_item (y ∷ ys) zero x is within = ap (λ z. f z ∷ map f ys) (sym is)
  split_item (y ∷ ys) (suc i) x is within = ap (λ l. f y ∷ l) (split_item ys i x is (omega arith))

  pub take_item : (items : List X) (i : ℕ) (x : X) → x ≡ get_or items i x → i < length items → take (i + 1) (map f items) ≡ take i (map f items) ++ f x ∷ []
  take_item items i x is within = take_more (map f items) i [] (omega (arith, within, length-map items f)) ∙ ap (λ w. take i (map f items) ++ w ∷ []) (at_item items i x is within)

-- Words that change places, and options that are named twice.
use Rattle.std.proofs.Common.{◌≡◌, ◌≢◌, ℕ, List, [], ◌∷◌, ◌++◌, map, get_or, drop, refl, sym, ap, ap₂, subst, ◌∙◌, inl, inr}
use Rattle.std.specs.Prelude.{◌==◌}
use Rattle.std.specs.List.{AllByRecursion}
use Rattle.std.proofs.lemmas.Bool.{eqb-false, ne_eqb}
use Rattle.std.proofs.lemmas.Bool.Decides.{eqb_tells}
use Rattle.std.proofs.lemmas.List.{map-append}
use Rattle.mini_tree.specs.declared.options.CompressOptions.{CompressOptions}
use Rattle.mini_run.specs.declared.choice.Choice.{Choice}
use Rattle.mini_run.specs.declared.choice.Orders.{Orders}
use Rattle.mini_run.specs.Words.{spelling, option_of, number_of, named, ordered, IsAllowed, IsOnce, Spell, NameOptions, NameOrders, GoodWords}
use Rattle.mini_run.proofs.Spelled.{spelling_tells}
use Rattle.mini_run.proofs.Reading.{skip, still_named}

-- the choices before a word, its own, and those behind it
record Split (xs ys : List (List ℕ)) (v : List ℕ) (ds : List Choice) : Type 0 where
  before : List Choice
  here : Choice
  behind : List Choice
  is : ds ≡ before ++ here ∷ behind
  first : xs ≡ map spelling before
  word : v ≡ spelling here
  rest : ys ≡ map spelling behind

split : (xs ys : List (List ℕ)) (v : List ℕ) (ds : List Choice) → xs ++ v ∷ ys ≡ map spelling ds → Split xs ys v ds
split [] ys v [] same = absurd (cc same)
split [] ys v (d ∷ ds) same = record { before = []; here = d; behind = ds; is = refl; first = refl; word = ap (λ l. get_or l 0 []) same; rest = ap (drop 1) same }
split (x ∷ xs) ys v [] same = absurd (cc same)
split (x ∷ xs) ys v (d ∷ ds) same =
    let more = split xs ys v ds (ap (drop 1) same) in
    record { before = d ∷ more.before; here = more.here; behind = more.behind; is = ap (λ l. d ∷ l) more.is; first = ap₂ ◌∷◌ (ap (λ l. get_or l 0 []) same) more.first; word = more.word; rest = more.rest }

allowed_behind : (cs es : List Choice) → AllByRecursion IsAllowed (cs ++ es) → AllByRecursion IsAllowed es
allowed_behind [] es all = all
allowed_behind (c ∷ cs) es all = allowed_behind cs es all.1

once_behind : (cs es : List Choice) → IsOnce (cs ++ es) → IsOnce es
once_behind [] es once = once
once_behind (c ∷ cs) es once = once_behind cs es once.1

-- ---- an option that is named twice

pub twice_is_bad : (xs ys zs : List (List ℕ)) (c d : Choice) → IsAllowed c → IsAllowed d → option_of c ≡ option_of d → GoodWords (xs ++ spelling c ∷ (ys ++ spelling d ∷ zs)) → ⊥
twice_is_bad xs ys zs c d small small' same (ds, s) =
    let one = split xs (ys ++ spelling d ∷ zs) (spelling c) ds s.spelled in
    let other = split ys zs (spelling d) one.behind one.rest in
    let allowed = allowed_behind one.before (one.here ∷ one.behind) (rw one.is at s.allowed) in
    let allowed' = allowed_behind other.before (other.here ∷ other.behind) (rw other.is at allowed.1) in
    let here : c ≡ one.here = spelling_tells c one.here small allowed.0 one.word in
    let there : d ≡ other.here = spelling_tells d other.here small' allowed'.0 other.word in
    let once = once_behind one.before (one.here ∷ one.behind) (rw one.is at s.once) in
    let option : option_of one.here ≡ option_of other.here = ap option_of (sym here) ∙ same ∙ ap option_of there in
    still_named other.before other.behind other.here (rw (other.is, option) at once.0)

-- ---- neighbours that change places

module _ (c d : Choice) (es : List Choice) where
  named-swapped : (apart : option_of c ≢ option_of d) (k : ℕ) (bs : List Choice) → named k (bs ++ d ∷ c ∷ es) ≡ named k (bs ++ c ∷ d ∷ es)
  named-swapped apart k [] = elim (eqb_tells (option_of c) k) [
    | inl (is, same) ↦ rw (is, ne_eqb (option_of d) k (λ again. apart (same ∙ sym again))) refl
    | inr (isnt, other) ↦ rw isnt refl
  ]
  named-swapped apart k (b ∷ bs) = rw (named-swapped apart k bs) refl

  apart_of : (bs : List Choice) → IsOnce (bs ++ c ∷ d ∷ es) → option_of c ≢ option_of d
  apart_of [] once same = eqb-false _ _ (skip (option_of d == option_of c) (number_of d) (named (option_of c) es) once.0).0 (sym same)
  apart_of (b ∷ bs) once same = apart_of bs once.1 same

  once-swapped : (apart : option_of c ≢ option_of d) (bs : List Choice) → IsOnce (bs ++ c ∷ d ∷ es) → IsOnce (bs ++ d ∷ c ∷ es)
  once-swapped apart [] once = (rw (ne_eqb (option_of c) (option_of d) apart) once.1.0, ((skip (option_of d == option_of c) (number_of d) (named (option_of c) es) once.0).1, once.1.1))
  once-swapped apart (b ∷ bs) once = (named-swapped apart (option_of b) bs ∙ once.0, once-swapped apart bs once.1)

  allowed-swapped : (bs : List Choice) → AllByRecursion IsAllowed (bs ++ c ∷ d ∷ es) → AllByRecursion IsAllowed (bs ++ d ∷ c ∷ es)
  allowed-swapped [] all = (all.1.0, (all.0, all.1.1))
  allowed-swapped (b ∷ bs) all = (all.0, allowed-swapped bs all.1)

  ordered-swapped : (apart : option_of c ≢ option_of d) (bs : List Choice) → ordered (bs ++ c ∷ d ∷ es) ≡ ordered (bs ++ d ∷ c ∷ es)
  ordered-swapped apart bs = rw (named-swapped apart 0 bs, named-swapped apart 1 bs, named-swapped apart 2 bs, named-swapped apart 3 bs, named-swapped apart 4 bs, named-swapped apart 5 bs, named-swapped apart 6 bs, named-swapped apart 7 bs, named-swapped apart 8 bs, named-swapped apart 9 bs) refl

  swapped : (bs : List Choice) (words words' : List (List ℕ)) (r : Orders) → words' ≡ map spelling (bs ++ d ∷ c ∷ es) → Spell words (bs ++ c ∷ d ∷ es) → r ≡ ordered (bs ++ c ∷ d ∷ es) → NameOrders words' r
  swapped bs words words' r spelled s is =
      let apart = apart_of bs s.once in
      (bs ++ d ∷ c ∷ es, record { spelled = spelled; allowed = allowed-swapped bs s.allowed; once = once-swapped apart bs s.once }, is ∙ ordered-swapped apart bs)

none_spelled : (cs : List Choice) → [] ≡ map spelling cs → cs ≡ []
none_spelled [] same = refl
none_spelled (c ∷ cs) same = absurd (cc same)

spelled-swapped : (xs ys : List (List ℕ)) (v w : List ℕ) (c d : Choice) (bs es : List Choice) → xs ≡ map spelling bs → v ≡ spelling c → w ≡ spelling d → ys ≡ map spelling es → xs ++ w ∷ v ∷ ys ≡ map spelling (bs ++ d ∷ c ∷ es)
spelled-swapped xs ys v w c d bs es first here there rest = rw (first, here, there, rest) (sym (map-append spelling bs (d ∷ c ∷ es)))

pub orders_in_any_order : (xs ys : List (List ℕ)) (v w : List ℕ) (r : Orders) → NameOrders (xs ++ v ∷ w ∷ ys) r → NameOrders (xs ++ w ∷ v ∷ ys) r
orders_in_any_order xs ys v w r (ds, s, is) =
    let one = split xs (w ∷ ys) v ds s.spelled in
    let two = split [] ys w one.behind one.rest in
    let front : two.before ≡ [] = none_spelled two.before two.first in
    let whole : ds ≡ one.before ++ one.here ∷ two.here ∷ two.behind = one.is ∙ ap (λ l. one.before ++ one.here ∷ l) (two.is ∙ ap (λ bs. bs ++ two.here ∷ two.behind) front) in
    swapped one.here two.here two.behind one.before (xs ++ v ∷ w ∷ ys) (xs ++ w ∷ v ∷ ys) r
    (spelled-swapped xs ys v w one.here two.here one.before two.behind one.first one.word two.word two.rest)
    (subst (λ l. Spell (xs ++ v ∷ w ∷ ys) l) whole s) (subst (λ l. r ≡ ordered l) whole is)

pub any_order : (xs ys : List (List ℕ)) (v w : List ℕ) (o : CompressOptions) → NameOptions (xs ++ v ∷ w ∷ ys) o → NameOptions (xs ++ w ∷ v ∷ ys) o
any_order xs ys v w o (ds, s, is) =
    let (es, s', same) = orders_in_any_order xs ys v w (ordered ds) (ds, s, refl) in
    (es, s', is ∙ ap (λ r. r.options) same)

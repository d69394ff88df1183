-- A name that nothing in a tree is like: no name there has its symbol, none that is declared there its spelling.
use Rattle.std.specs.Prelude.{ℕ, ◌≡◌, refl, Bool, true, false, ◌||◌, List, [], ◌∷◌, ◌++◌, length, drop, Option, Some, None, if◌then◌else◌}
use Rattle.std.proofs.Common.{ap, ◌∙◌, sym, subst, append_assoc, true≢false}
use Rattle.std.proofs.lemmas.Bool.{eq-eqb}
use Rattle.std.proofs.lemmas.List.{append-nil}
use Rattle.mini_model.specs.declared.name.Name.{Name}
use Rattle.mini_model.specs.declared.name.SymbolId.{SymbolId}
use Rattle.mini_model.specs.Tree.{Tree, Trees, node, none, ◌▸◌}
use Rattle.mini_model.specs.Weight.{same_text}
use Rattle.mini_laws.specs.declared.names.Binding.{Binding}
use Rattle.mini_laws.specs.declared.names.Declared.{Declared}
use Rattle.mini_laws.specs.declared.names.Declared.TheVariants as declared
use Rattle.mini_laws.specs.declared.names.Place.{Place}
use Rattle.mini_laws.specs.declared.names.Place.TheVariants as place
use Rattle.mini_laws.specs.DeclaredNames.{place_of, names_by, names_of, first_names, all_names, is_statement_list, body_names, all_body_names, is_spelled, with_name, with_names}
use Rattle.mini_laws.specs.Scoped.{NoneCarries, Unmentioned, AllUnmentioned}
use Rattle.mini_laws.specs.Symbols.{is_same}
use Rattle.mini_laws.specs.Value.{Declared as Variable, variables, variable_eq, variable_by}
use Rattle.mini_laws.specs.Congruence.{NoneIn, Avoids, AllAvoid}
use Rattle.mini_laws.specs.Substitution.{alone}
use Rattle.mini_kept.specs.Loosely.{symbol}
use Rattle.mini_kept.proofs.SameScopes.{same_texts, text_itself}
use Rattle.mini_rows.specs.Unused.{is_like_one, names, any_names}

pub or_parts : (a b : Bool) → (a || b) ≡ false → (a ≡ false) × (b ≡ false)
or_parts true b e = absurd (true≢false e)
or_parts false b e = (refl, e)

same_symbol : (k : ℕ) (y : Option SymbolId) → symbol k ≡ y → is_same (symbol k) y ≡ true
same_symbol k y e = subst (λ z. is_same (symbol k) z ≡ true) e (eq-eqb k k refl)

module _ (x : Name) (k : ℕ) (e : x.symbol ≡ symbol k) where
  abbrev bind : Name → Binding
  bind y = record { name = y; hoists = false }

  other_symbol : (y : Option SymbolId) → is_same x.symbol y ≡ false → is_same (symbol k) y ≡ false
  other_symbol y f = subst (λ z. is_same z y ≡ false) e f

  none_carries : (xs : List Name) → is_like_one x xs ≡ false → NoneCarries (bind x) xs
  none_carries [] f = tt
  none_carries (y ∷ ys) f =
      let (one, others) = or_parts (same_text x.spelling y.spelling || is_same x.symbol y.symbol) (is_like_one x ys) f in
      let other = other_symbol y.symbol (or_parts (same_text x.spelling y.spelling) (is_same x.symbol y.symbol) one).1 in
      (λ g. true≢false (sym (same_symbol k y.symbol (sym e ∙ g)) ∙ other), none_carries ys others)

  another : (s : List ℕ) (y : Option SymbolId) → is_same (symbol k) y ≡ false → variable_eq (Variable k) (variable_by s y) ≡ false
  another s None f = refl
  another s (Some y) f = f

  none_in : (xs : List Name) → is_like_one x xs ≡ false → NoneIn (alone (Variable k)) (variables xs)
  none_in [] f = tt
  none_in (y ∷ ys) f =
      let (one, others) = or_parts (same_text x.spelling y.spelling || is_same x.symbol y.symbol) (is_like_one x ys) f in
      (another y.spelling y.symbol (other_symbol y.symbol (or_parts (same_text x.spelling y.spelling) (is_same x.symbol y.symbol) one).1), none_in ys others)

  mutual
    unfolding Unmentioned

    pub unmentioned : (t : Tree) → names x t ≡ false → Unmentioned (bind x) t
    unmentioned (node h xs n ts) f = let (own, others) = or_parts (is_like_one x xs) (any_names x ts) f in (none_carries xs own, all_unmentioned ts others)

    pub all_unmentioned : (ts : Trees) → any_names x ts ≡ false → AllUnmentioned (bind x) ts
    all_unmentioned none f = tt
    all_unmentioned (t ▸ ts) f = let (one, others) = or_parts (names x t) (any_names x ts) f in (unmentioned t one, all_unmentioned ts others)

  mutual
    pub avoided : (t : Tree) → names x t ≡ false → Avoids (alone (Variable k)) t
    avoided (node h xs n ts) f = let (own, others) = or_parts (is_like_one x xs) (any_names x ts) f in (none_in xs own, all_avoided ts others)

    pub all_avoided : (ts : Trees) → any_names x ts ≡ false → AllAvoid (alone (Variable k)) ts
    all_avoided none f = tt
    all_avoided (t ▸ ts) f = let (one, others) = or_parts (names x t) (any_names x ts) f in (avoided t one, all_avoided ts others)

-- ---- spellings

-- no name has its spelling
abbrev pub Other : Name → List Name → Type 0
Other x [] = Unit {0}
Other x (y ∷ ys) = (same_text x.spelling y.spelling ≡ false) × Other x ys

pub other_both : (x : Name) (xs ys : List Name) → Other x xs → Other x ys → Other x (xs ++ ys)
other_both x [] ys a b = b
other_both x (y ∷ xs) ys a b = (a.0, other_both x xs ys a.1 b)

module _ (x : Name) where
  own_other : (xs : List Name) → is_like_one x xs ≡ false → Other x xs
  own_other [] f = tt
  own_other (y ∷ ys) f =
      let (one, others) = or_parts (same_text x.spelling y.spelling || is_same x.symbol y.symbol) (is_like_one x ys) f in
      ((or_parts (same_text x.spelling y.spelling) (is_same x.symbol y.symbol) one).0, own_other ys others)

  other_by : (p : Place) (own first bound below : List Name) → Other x own → Other x first → Other x bound → Other x below → Other x (names_by p own first bound below)
  other_by place.Here own first bound below a b c d = a
  other_by place.FirstBound own first bound below a b c d = b
  other_by place.Bound own first bound below a b c d = c
  other_by place.Below own first bound below a b c d = d
  other_by place.Nowhere own first bound below a b c d = tt

  mutual
    unfolding names_of

    pub declared_other : (d : Declared) (t : Tree) → names x t ≡ false → Other x (names_of d t)
    declared_other d (node h xs n ts) f =
        let (own, others) = or_parts (is_like_one x xs) (any_names x ts) f in
        other_by (place_of d h) xs (first_names ts) (all_names declared.Bound ts) (all_names d ts) (own_other xs own) (first_other ts others) (all_other declared.Bound ts others) (all_other d ts others)

    first_other : (ts : Trees) → any_names x ts ≡ false → Other x (first_names ts)
    first_other none f = tt
    first_other (t ▸ ts) f = declared_other declared.Bound t (or_parts (names x t) (any_names x ts) f).0

    pub all_other : (d : Declared) (ts : Trees) → any_names x ts ≡ false → Other x (all_names d ts)
    all_other d none f = tt
    all_other d (t ▸ ts) f = let (one, others) = or_parts (names x t) (any_names x ts) f in other_both x (names_of d t) (all_names d ts) (declared_other d t one) (all_other d ts others)

  either_other : (b : Bool) (xs ys : List Name) → Other x xs → Other x ys → Other x (if b then xs else ys)
  either_other true xs ys a b = a
  either_other false xs ys a b = b

  mutual
    unfolding body_names

    pub body_other : (t : Tree) → names x t ≡ false → Other x (body_names t)
    body_other (node h xs n ts) f =
        let lexical = names_of declared.Lexical (node h xs n ts) in
        let hoisted = names_of declared.Hoisted (node h xs n ts) in
        either_other (is_statement_list h) (all_body_names ts) (lexical ++ hoisted) (all_body_other ts (or_parts (is_like_one x xs) (any_names x ts) f).1) (other_both x lexical hoisted (declared_other declared.Lexical (node h xs n ts) f) (declared_other declared.Hoisted (node h xs n ts) f))

    pub all_body_other : (ts : Trees) → any_names x ts ≡ false → Other x (all_body_names ts)
    all_body_other none f = tt
    all_body_other (t ▸ ts) f = let (one, others) = or_parts (names x t) (any_names x ts) f in other_both x (body_names t) (all_body_names ts) (body_other t one) (all_body_other ts others)

-- ---- a scope without it

both_ways : (s r : List ℕ) → same_text s r ≡ false → same_text r s ≡ false
both_ways s r f = by (same_text r s) refl
  where
    by : (b : Bool) → same_text r s ≡ b → same_text r s ≡ false
    by true q = absurd (true≢false (sym (subst (λ z. same_text s z ≡ true) (sym (same_texts r s q)) (text_itself s)) ∙ f))
    by false q = q

spelled_both : (s : List ℕ) (ls rs : List Name) → is_spelled s (ls ++ rs) ≡ (is_spelled s ls || is_spelled s rs)
spelled_both s [] rs = refl
spelled_both s (l ∷ ls) rs = ap (λ b. same_text l.spelling s || b) (spelled_both s ls rs) ∙ sym (or_assoc (same_text l.spelling s) (is_spelled s ls) (is_spelled s rs))
  where
    or_assoc : (a b c : Bool) → ((a || b) || c) ≡ (a || (b || c))
    or_assoc true b c = refl
    or_assoc false b c = refl

pub unspelled : (x : Name) (xs : List Name) → Other x xs → is_spelled x.spelling xs ≡ false
unspelled x [] a = refl
unspelled x (y ∷ ys) a = ap (λ b. b || is_spelled x.spelling ys) (both_ways x.spelling y.spelling a.0) ∙ unspelled x ys a.1

-- it isn't among names that were added one by one
other_with : (x : Name) (seen xs : List Name) → Other x seen → Other x xs → Other x (with_names seen xs)
unfolding with_names
other_with x seen [] a b = a
other_with x seen (y ∷ ys) a b = other_with x (with_name seen y) ys (by (is_spelled y.spelling seen)) b.1
  where
    by : (c : Bool) → Other x (if c then seen else seen ++ y ∷ [])
    by true = a
    by false = other_both x seen (y ∷ []) a (b.0, tt)

with_more : (seen ys zs : List Name) → with_names seen (ys ++ zs) ≡ with_names (with_names seen ys) zs
unfolding with_names
with_more seen [] zs = refl
with_more seen (y ∷ ys) zs = with_more (with_name seen y) ys zs

-- some names with it in their midst, and without
pub record Amid (x : Name) (with_it without : List Name) : Type 0 where
  pub first : List Name
  pub last : List Name
  pub there : with_it ≡ first ++ x ∷ last
  pub gone : without ≡ first ++ last

same_spelled : (x y : Name) (first last : List Name) → same_text x.spelling y.spelling ≡ false → is_spelled y.spelling (first ++ x ∷ last) ≡ is_spelled y.spelling (first ++ last)
same_spelled x y first last f =
    spelled_both y.spelling first (x ∷ last) ∙ ap (λ b. is_spelled y.spelling first || (b || is_spelled y.spelling last)) f ∙ sym (spelled_both y.spelling first last)

amid_more : (x : Name) (first last ys : List Name) → Other x ys → Amid x (with_names (first ++ x ∷ last) ys) (with_names (first ++ last) ys)
unfolding with_names
amid_more x first last [] o = record { first = first; last = last; there = refl; gone = refl }
amid_more x first last (y ∷ ys) o = by (is_spelled y.spelling (first ++ last)) (same_spelled x y first last o.0) (amid_more x first last ys o.1) (amid_more x first (last ++ y ∷ []) ys o.1)
  where
    by : (c : Bool) → is_spelled y.spelling (first ++ x ∷ last) ≡ c → Amid x (with_names (first ++ x ∷ last) ys) (with_names (first ++ last) ys) → Amid x (with_names (first ++ x ∷ (last ++ y ∷ [])) ys) (with_names (first ++ (last ++ y ∷ [])) ys)
        → Amid x (with_names (if is_spelled y.spelling (first ++ x ∷ last) then first ++ x ∷ last else (first ++ x ∷ last) ++ y ∷ []) ys) (with_names (if c then first ++ last else (first ++ last) ++ y ∷ []) ys)
    by true q m k = subst (λ b. Amid x (with_names (if b then first ++ x ∷ last else (first ++ x ∷ last) ++ y ∷ []) ys) (with_names (first ++ last) ys)) (sym q) m
    by false q m k =
        subst (λ b. Amid x (with_names (if b then first ++ x ∷ last else (first ++ x ∷ last) ++ y ∷ []) ys) (with_names ((first ++ last) ++ y ∷ []) ys)) (sym q)
        (subst (λ l. Amid x (with_names l ys) (with_names ((first ++ last) ++ y ∷ []) ys)) (sym (append_assoc first (x ∷ last) (y ∷ [])))
        (subst (λ l. Amid x (with_names (first ++ x ∷ (last ++ y ∷ [])) ys) (with_names l ys)) (sym (append_assoc first last (y ∷ []))) k))

-- of names that a list declares directly, one of which it is
pub amid : (x : Name) (ys zs : List Name) → Other x ys → Other x zs → Amid x (with_names [] (ys ++ x ∷ zs)) (with_names [] (ys ++ zs))
unfolding with_names
amid x ys zs o p =
    let seen = with_names [] ys in
    let new : is_spelled x.spelling seen ≡ false = unspelled x seen (other_with x [] ys tt o) in
    subst (λ l. Amid x l (with_names [] (ys ++ zs))) (sym (with_more [] ys (x ∷ zs) ∙ ap (λ b. with_names (if b then seen else seen ++ x ∷ []) zs) new))
    (subst (λ l. Amid x (with_names (seen ++ x ∷ []) zs) l) (sym (with_more [] ys zs))
    (by seen zs p))
  where
    by : (seen zs : List Name) → Other x zs → Amid x (with_names (seen ++ x ∷ []) zs) (with_names seen zs)
    by seen zs p = subst (λ l. Amid x (with_names (seen ++ x ∷ []) zs) (with_names l zs)) (append-nil seen) (amid_more x seen [] zs p)

-- ---- in a function's body, whose scope has none of the names of its parameters

after_names : (p xs : List Name) → drop (length p) (p ++ xs) ≡ xs
after_names [] xs = refl
after_names (y ∷ p) xs = after_names p xs

grown : (seen ys : List Name) → (more : List Name) × (with_names seen ys ≡ seen ++ more)
unfolding with_names
grown seen [] = ([], sym (append-nil seen))
grown seen (y ∷ ys) = by (is_spelled y.spelling seen) (grown seen ys) (grown (seen ++ y ∷ []) ys)
  where
    by : (b : Bool) → (more : List Name) × (with_names seen ys ≡ seen ++ more) → (more : List Name) × (with_names (seen ++ y ∷ []) ys ≡ (seen ++ y ∷ []) ++ more) → (more : List Name) × (with_names (if b then seen else seen ++ y ∷ []) ys ≡ seen ++ more)
    by true m k = m
    by false m k = (y ∷ k.0, k.1 ∙ append_assoc seen (y ∷ []) k.0)

with_new : (x : Name) (seen zs : List Name) → is_spelled x.spelling seen ≡ false → with_names seen (x ∷ zs) ≡ with_names (seen ++ x ∷ []) zs
unfolding with_names
with_new x seen zs f = ap (λ b. with_names (if b then seen else seen ++ x ∷ []) zs) f

module _ (x : Name) (p : List Name) where
  abbrev behind : List Name → List Name
  behind xs = drop (length p) xs

  behind_more : (first last ys : List Name) → Other x ys → Amid x (behind (with_names ((p ++ first) ++ x ∷ last) ys)) (behind (with_names ((p ++ first) ++ last) ys))
  unfolding with_names
  behind_more first last [] o = record {
    first = first;
    last = last;
    there = ap behind (append_assoc p first (x ∷ last)) ∙ after_names p (first ++ x ∷ last);
    gone = ap behind (append_assoc p first last) ∙ after_names p (first ++ last);
  }
  behind_more first last (y ∷ ys) o = by (is_spelled y.spelling ((p ++ first) ++ last)) (same_spelled x y (p ++ first) last o.0) (behind_more first last ys o.1) (behind_more first (last ++ y ∷ []) ys o.1)
    where
      by : (c : Bool) → is_spelled y.spelling ((p ++ first) ++ x ∷ last) ≡ c → Amid x (behind (with_names ((p ++ first) ++ x ∷ last) ys)) (behind (with_names ((p ++ first) ++ last) ys)) → Amid x (behind (with_names ((p ++ first) ++ x ∷ (last ++ y ∷ [])) ys)) (behind (with_names ((p ++ first) ++ (last ++ y ∷ [])) ys))
          → Amid x (behind (with_names (if is_spelled y.spelling ((p ++ first) ++ x ∷ last) then (p ++ first) ++ x ∷ last else ((p ++ first) ++ x ∷ last) ++ y ∷ []) ys)) (behind (with_names (if c then (p ++ first) ++ last else ((p ++ first) ++ last) ++ y ∷ []) ys))
      by true q m k =
          subst (λ b. Amid x (behind (with_names (if b then (p ++ first) ++ x ∷ last else ((p ++ first) ++ x ∷ last) ++ y ∷ []) ys)) (behind (with_names ((p ++ first) ++ last) ys))) (sym q) m
      by false q m k =
          subst (λ b. Amid x (behind (with_names (if b then (p ++ first) ++ x ∷ last else ((p ++ first) ++ x ∷ last) ++ y ∷ []) ys)) (behind (with_names (((p ++ first) ++ last) ++ y ∷ []) ys))) (sym q)
          (subst (λ l. Amid x (behind (with_names l ys)) (behind (with_names (((p ++ first) ++ last) ++ y ∷ []) ys))) (sym (append_assoc (p ++ first) (x ∷ last) (y ∷ [])))
          (subst (λ l. Amid x (behind (with_names ((p ++ first) ++ x ∷ (last ++ y ∷ [])) ys)) (behind (with_names l ys))) (sym (append_assoc (p ++ first) last (y ∷ []))) k))

  -- of names that a body declares, one of which it is
  pub amid_behind : (ys zs : List Name) → Other x p → Other x ys → Other x zs → Amid x (behind (with_names p (ys ++ x ∷ zs))) (behind (with_names p (ys ++ zs)))
  amid_behind ys zs a o q =
      let seen = with_names p ys in
      let (more, is) = grown p ys in
      let new : is_spelled x.spelling seen ≡ false = unspelled x seen (other_with x p ys a o) in
      let there : with_names p (ys ++ x ∷ zs) ≡ with_names ((p ++ more) ++ x ∷ []) zs = with_more p ys (x ∷ zs) ∙ with_new x seen zs new ∙ ap (λ l. with_names (l ++ x ∷ []) zs) is in
      let gone : with_names p (ys ++ zs) ≡ with_names ((p ++ more) ++ []) zs = with_more p ys zs ∙ ap (λ l. with_names l zs) (is ∙ sym (append-nil (p ++ more))) in
      subst (λ l. Amid x (behind l) (behind (with_names p (ys ++ zs)))) (sym there) (subst (λ l. Amid x (behind (with_names ((p ++ more) ++ x ∷ []) zs)) (behind l)) (sym gone) (behind_more more [] zs q))

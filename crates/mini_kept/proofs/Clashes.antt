-- Whether declarations clash is told by how often each spelling is declared, as a lexical name and like `var`.
use Rattle.std.specs.Prelude.{ℕ, zero, suc, ◌+◌, ◌≤◌, ◌≡◌, refl, ◌⊎◌, ◌||◌, ◌&&◌, Bool, true, false, List, [], ◌∷◌, ◌++◌, if◌then◌else◌}
use Rattle.std.proofs.Common.{ap, ◌∙◌, sym, subst, inl, inr, arith}
use Rattle.mini_model.specs.declared.name.Name.{Name}
use Rattle.mini_model.specs.Weight.{same_text}
use Rattle.mini_accept.specs.WellShaped.{is_same_flag}
use Rattle.mini_laws.specs.declared.names.Declaration.{Declaration}
use Rattle.mini_laws.specs.DeclaredNames.{is_spelled}
use Rattle.mini_laws.specs.Early.{Path, own_declarations, clashes_any, clashing}
use Rattle.mini_kept.specs.KeepsNames.{unplaced}
use Rattle.mini_kept.specs.SameNames.{is_name, is_among, SameNames, counted, NoMoreClash}
use Rattle.mini_kept.proofs.SameScopes.{same_texts, text_itself, same_name, name_itself}

-- ---- counts

abbrev once : Bool → ℕ
once b = if b then 1 else 0

counted_both : (l : Bool) (s : List ℕ) (ds es : List Declaration) → counted l s (ds ++ es) ≡ counted l s ds + counted l s es
counted_both l s [] es = omega arith
counted_both l s (d ∷ ds) es = omega (arith, counted_both l s ds es)

pub counted_unplaced : (l : Bool) (s : List ℕ) (ds : List Declaration) → counted l s (unplaced ds) ≡ counted l s ds
counted_unplaced l s [] = refl
counted_unplaced l s (d ∷ ds) = ap (λ n. once (is_same_flag l d.is_lexical && same_text d.spelling s) + n) (counted_unplaced l s ds)

-- declarations that differ in their paths alone
pub no_more_same : (ds es : List Declaration) → unplaced es ≡ unplaced ds → NoMoreClash es ds
no_more_same ds es e s =
    let lexical = sym (counted_unplaced true s es) ∙ ap (counted true s) e ∙ counted_unplaced true s ds in
    let hoisted = sym (counted_unplaced false s es) ∙ ap (counted false s) e ∙ counted_unplaced false s ds in
    (omega (arith, lexical), λ z. hoisted ∙ z)

no_sum : (a b c : ℕ) → c ≡ a + b → a ≡ 0 → b ≡ 0 → c ≡ 0
no_sum a b c e f g = omega (arith, e, f, g)

first_none : (a b : ℕ) → a + b ≡ 0 → a ≡ 0
first_none a b e = omega (arith, e)

second_none : (a b : ℕ) → a + b ≡ 0 → b ≡ 0
second_none a b e = omega (arith, e)

pub no_more_both : (ds es ds' es' : List Declaration) → NoMoreClash es ds → NoMoreClash es' ds' → NoMoreClash (es ++ es') (ds ++ ds')
no_more_both ds es ds' es' a b s =
    let lexical = counted_both true s ds ds' in
    let plain = counted_both false s ds ds' in
    let plain' = counted_both false s es es' in
    let lexical' = counted_both true s es es' in
    (omega (arith, (a s).0, (b s).0, lexical, lexical'), λ z. no_sum (counted false s es) (counted false s es') (counted false s (es ++ es')) plain' ((a s).1 (first_none (counted false s ds) (counted false s ds') (sym plain ∙ z))) ((b s).1 (second_none (counted false s ds) (counted false s ds') (sym plain ∙ z))))

-- ---- a declaration and earlier ones

or_parts : (a b : Bool) → (a || b) ≡ false → (a ≡ false) × (b ≡ false)
or_parts true b e = absurd (cc e)
or_parts false b e = (refl, e)

once_none : (a b : Bool) → b ≡ false → once (a && b) ≡ 0
once_none true b e = ap once e
once_none false b e = refl

none_once : (a b : Bool) → once (a && b) ≡ 0 → once (is_same_flag false a && b) ≡ 0 → b ≡ false
none_once true true e f = absurd (omega (arith, e))
none_once true false e f = refl
none_once false true e f = absurd (omega (arith, f))
none_once false false e f = refl

both_false : (a b : Bool) → a ≡ false → b ≡ false → (a || b) ≡ false
both_false true b e f = absurd (cc e)
both_false false b e f = f

module _ (s : List ℕ) (p : Path) where
  abbrev lexical : Declaration
  lexical = record { spelling = s; is_lexical = true; at = p }

  abbrev plain : Declaration
  plain = record { spelling = s; is_lexical = false; at = p }

  none_lexical : (ds : List Declaration) → clashes_any lexical ds ≡ false → (counted true s ds ≡ 0) × (counted false s ds ≡ 0)
  none_lexical [] e = (refl, refl)
  none_lexical (d ∷ ds) e =
      let (own, rest) = or_parts (same_text d.spelling s) (clashes_any lexical ds) e in
      let (a, b) = none_lexical ds rest in
      (omega (arith, once_none (is_same_flag true d.is_lexical) (same_text d.spelling s) own, a), omega (arith, once_none (is_same_flag false d.is_lexical) (same_text d.spelling s) own, b))

  none_plain : (ds : List Declaration) → clashes_any plain ds ≡ false → counted true s ds ≡ 0
  none_plain [] e = refl
  none_plain (d ∷ ds) e =
      let (own, rest) = or_parts (d.is_lexical && same_text d.spelling s) (clashes_any plain ds) e in
      let here : once (d.is_lexical && same_text d.spelling s) ≡ 0 = ap once own in
      omega (arith, here, none_plain ds rest)

  lexical_none : (ds : List Declaration) → counted true s ds ≡ 0 → counted false s ds ≡ 0 → clashes_any lexical ds ≡ false
  lexical_none [] e f = refl
  lexical_none (d ∷ ds) e f =
      both_false (same_text d.spelling s) (clashes_any lexical ds) (none_once d.is_lexical (same_text d.spelling s) (omega (arith, e)) (omega (arith, f))) (lexical_none ds (omega (arith, e)) (omega (arith, f)))

  once_false : (b : Bool) → once b ≡ 0 → b ≡ false
  once_false true e = absurd (omega (arith, e))
  once_false false e = refl

  plain_none : (ds : List Declaration) → counted true s ds ≡ 0 → clashes_any plain ds ≡ false
  plain_none [] e = refl
  plain_none (d ∷ ds) e = both_false (d.is_lexical && same_text d.spelling s) (clashes_any plain ds) (once_false (d.is_lexical && same_text d.spelling s) (omega (arith, e))) (plain_none ds (omega (arith, e)))

-- ---- declarations of which no two clash

-- a spelling is declared as no lexical name; or as one, and not like `var`
abbrev Free : ℕ → ℕ → Type 0
Free a b = (a ≡ 0) ⊎ ((a ≡ 1) × (b ≡ 0))

free_to : (a b a' b' : ℕ) → a ≡ a' → b ≡ b' → Free a b → Free a' b'
free_to a b a' b' e f (inl x) = inl (sym e ∙ x)
free_to a b a' b' e f (inr x) = inr (sym e ∙ x.0, sym f ∙ x.1)

if_empty : (b : Bool) (p : Path) (ps qs : List Path) → (if b then p ∷ ps else qs) ≡ [] → (b ≡ false) × (qs ≡ [])
if_empty true p ps qs e = absurd (cc e)
if_empty false p ps qs e = (refl, e)

empty_if : (b : Bool) (p : Path) (ps qs : List Path) → b ≡ false → qs ≡ [] → (if b then p ∷ ps else qs) ≡ []
empty_if true p ps qs e f = absurd (cc e)
empty_if false p ps qs e f = f

-- one more that clashes with none of them
added_free : (bs : List Declaration) (s : List ℕ) (l : Bool) (p : Path) → ((r : List ℕ) → Free (counted true r bs) (counted false r bs)) → clashes_any (record { spelling = s; is_lexical = l; at = p }) bs ≡ false → (r : List ℕ)
    → Free (counted true r bs + once (is_same_flag true l && same_text s r)) (counted false r bs + once (is_same_flag false l && same_text s r))
added_free bs s l p f e r = by l e (same_text s r) refl
  where
    by : (l : Bool) → clashes_any (record { spelling = s; is_lexical = l; at = p }) bs ≡ false → (b : Bool) → same_text s r ≡ b → Free (counted true r bs + once (is_same_flag true l && same_text s r)) (counted false r bs + once (is_same_flag false l && same_text s r))
    by l e false g =
        free_to (counted true r bs) (counted false r bs) _ _ (omega (arith, once_none (is_same_flag true l) (same_text s r) g)) (omega (arith, once_none (is_same_flag false l) (same_text s r) g)) (f r)
    by true e true g =
        let (x, y) = subst (λ q. (counted true q bs ≡ 0) × (counted false q bs ≡ 0)) (same_texts s r g) (none_lexical s p bs e) in
        let one : once (same_text s r) ≡ 1 = ap once g in
        inr (omega (arith, x, one), omega (arith, y))
    by false e true g =
        let x = subst (λ q. counted true q bs ≡ 0) (same_texts s r g) (none_plain s p bs e) in
        inl (omega (arith, x))

one_more : (l : Bool) (s : List ℕ) (bs : List Declaration) (d : Declaration) (ds : List Declaration) → counted l s (bs ++ d ∷ []) + counted l s ds ≡ counted l s bs + counted l s (d ∷ ds)
one_more l s bs d ds = omega (arith, counted_both l s bs (d ∷ []))

free_counts : (bs ds : List Declaration) → ((s : List ℕ) → Free (counted true s bs) (counted false s bs)) → clashing bs ds ≡ [] → (s : List ℕ) → Free (counted true s bs + counted true s ds) (counted false s bs + counted false s ds)
free_counts bs [] f e s = free_to (counted true s bs) (counted false s bs) _ _ (omega arith) (omega arith) (f s)
free_counts bs (d ∷ ds) f e s =
    let (own, rest) = if_empty (clashes_any d bs) d.at (clashing (bs ++ d ∷ []) ds) (clashing (bs ++ d ∷ []) ds) e in
    let added = λ (r : List ℕ). free_to _ _ (counted true r (bs ++ d ∷ [])) (counted false r (bs ++ d ∷ [])) (omega (arith, counted_both true r bs (d ∷ []))) (omega (arith, counted_both false r bs (d ∷ []))) (added_free bs d.spelling d.is_lexical d.at f own r) in
    free_to _ _ (counted true s bs + counted true s (d ∷ ds)) (counted false s bs + counted false s (d ∷ ds)) (one_more true s bs d ds) (one_more false s bs d ds) (free_counts (bs ++ d ∷ []) ds added rest s)

-- the first of some clashes with none before them
first_free : (bs ds : List Declaration) (s : List ℕ) (l : Bool) (p : Path) → Free (counted true s bs + (once (is_same_flag true l && same_text s s) + counted true s ds)) (counted false s bs + (once (is_same_flag false l && same_text s s) + counted false s ds)) → clashes_any (record { spelling = s; is_lexical = l; at = p }) bs ≡ false
first_free bs ds s true p f =
    let one : once (same_text s s) ≡ 1 = ap once (text_itself s) in
    elim f [
      | inl x ↦ absurd (omega (arith, x, one))
      | inr x ↦ lexical_none s p bs (omega (arith, x.0, one)) (omega (arith, x.1))
    ]
first_free bs ds s false p f =
    let one : once (same_text s s) ≡ 1 = ap once (text_itself s) in
    elim f [
      | inl x ↦ plain_none s p bs (omega (arith, x))
      | inr x ↦ absurd (omega (arith, x.1, one))
    ]

counts_free : (bs ds : List Declaration) → ((s : List ℕ) → Free (counted true s bs + counted true s ds) (counted false s bs + counted false s ds)) → clashing bs ds ≡ []
counts_free bs [] f = refl
counts_free bs (d ∷ ds) f =
    empty_if (clashes_any d bs) d.at (clashing (bs ++ d ∷ []) ds) (clashing (bs ++ d ∷ []) ds) (first_free bs ds d.spelling d.is_lexical d.at (f d.spelling))
    (counts_free (bs ++ d ∷ []) ds (λ s. free_to _ _ (counted true s (bs ++ d ∷ []) + counted true s ds) (counted false s (bs ++ d ∷ []) + counted false s ds) (sym (one_more true s bs d ds)) (sym (one_more false s bs d ds)) (f s)))

fewer_free : (a b a' b' : ℕ) → a' ≤ a → (b ≡ 0 → b' ≡ 0) → Free a b → Free a' b'
fewer_free a b zero b' e f x = inl refl
fewer_free a b (suc zero) b' e f (inl x) = absurd (omega (arith, e, x))
fewer_free a b (suc zero) b' e f (inr x) = inr (refl, f x.1)
fewer_free a b (suc (suc a')) b' e f (inl x) = absurd (omega (arith, e, x))
fewer_free a b (suc (suc a')) b' e f (inr x) = absurd (omega (arith, e, x.0))

pub still_free : (ds es : List Declaration) → NoMoreClash es ds → clashing [] ds ≡ [] → clashing [] es ≡ []
still_free ds es a e =
    counts_free [] es (λ s. free_to (counted true s es) (counted false s es) _ _ (omega arith) (omega arith)
    (fewer_free (counted true s ds) (counted false s ds) (counted true s es) (counted false s es) (a s).0 (a s).1
    (free_to _ _ (counted true s ds) (counted false s ds) (omega arith) (omega arith) (free_counts [] ds (λ r. inl refl) e s))))

-- ---- names that are hoisted

some_name : (s : List ℕ) (xs : List Name) → is_spelled s xs ≡ true → (x : Name) × (is_among xs x ≡ true) × (same_text x.spelling s ≡ true)
some_name s [] e = absurd (cc e)
some_name s (x ∷ xs) e = by (λ f. some_name s xs f) (same_text x.spelling s) refl
  where
    also : (a b : Bool) → b ≡ true → (a || b) ≡ true
    also true b e = refl
    also false b e = e

    by : (is_spelled s xs ≡ true → (y : Name) × (is_among xs y ≡ true) × (same_text y.spelling s ≡ true)) → (b : Bool) → same_text x.spelling s ≡ b → (y : Name) × (is_among (x ∷ xs) y ≡ true) × (same_text y.spelling s ≡ true)
    by rest true f = (x, ap (λ c. c || is_among xs x) (name_itself x), f)
    by rest false f = let (y, g, h) = rest (ap (λ c. c || is_spelled s xs) (sym f) ∙ e) in (y, also (is_name x y) (is_among xs y) g, h)

among_spelled : (s : List ℕ) (xs : List Name) (y : Name) → is_among xs y ≡ true → same_text y.spelling s ≡ true → is_spelled s xs ≡ true
among_spelled s [] y e f = absurd (cc e)
among_spelled s (x ∷ xs) y e f = by (λ g. among_spelled s xs y g f) (is_name x y) refl
  where
    also : (a b : Bool) → b ≡ true → (a || b) ≡ true
    also true b e = refl
    also false b e = e

    by : (is_among xs y ≡ true → is_spelled s xs ≡ true) → (b : Bool) → is_name x y ≡ b → (same_text x.spelling s || is_spelled s xs) ≡ true
    by rest true g = ap (λ z. same_text z.spelling s || is_spelled s xs) (same_name x y g) ∙ ap (λ c. c || is_spelled s xs) f
    by rest false g = also (same_text x.spelling s) (is_spelled s xs) (rest (ap (λ c. c || is_among xs y) (sym g) ∙ e))

still_unspelled : (s : List ℕ) (xs ys : List Name) → SameNames ys xs → is_spelled s xs ≡ false → is_spelled s ys ≡ false
still_unspelled s xs ys e f = by (is_spelled s ys) refl
  where
    by : (b : Bool) → is_spelled s ys ≡ b → is_spelled s ys ≡ false
    by true g = let (y, a, h) = some_name s ys g in absurd (cc (sym f ∙ among_spelled s xs y (sym (e y) ∙ a) h))
    by false g = g

plain_lexical : (s : List ℕ) (xs : List Name) → counted true s (own_declarations false [] xs) ≡ 0
plain_lexical s [] = refl
plain_lexical s (x ∷ xs) = omega (arith, plain_lexical s xs)

plain_unspelled : (s : List ℕ) (xs : List Name) → counted false s (own_declarations false [] xs) ≡ 0 → is_spelled s xs ≡ false
plain_unspelled s [] e = refl
plain_unspelled s (x ∷ xs) e = by (λ f. plain_unspelled s xs f) (same_text x.spelling s) refl
  where
    by : (counted false s (own_declarations false [] xs) ≡ 0 → is_spelled s xs ≡ false) → (b : Bool) → same_text x.spelling s ≡ b → (same_text x.spelling s || is_spelled s xs) ≡ false
    by rest true f = let one : once (same_text x.spelling s) ≡ 1 = ap once f in absurd (omega (arith, e, one))
    by rest false f = ap (λ c. c || is_spelled s xs) f ∙ rest (omega (arith, e))

unspelled_plain : (s : List ℕ) (xs : List Name) → is_spelled s xs ≡ false → counted false s (own_declarations false [] xs) ≡ 0
unspelled_plain s [] e = refl
unspelled_plain s (x ∷ xs) e =
    let (own, rest) = or_parts (same_text x.spelling s) (is_spelled s xs) e in
    let here : once (same_text x.spelling s) ≡ 0 = ap once own in
    omega (arith, here, unspelled_plain s xs rest)

-- declarations like `var` of the same names
pub no_more_names : (ds es : List Declaration) (xs ys : List Name) → unplaced ds ≡ own_declarations false [] xs → unplaced es ≡ own_declarations false [] ys → SameNames ys xs → NoMoreClash es ds
no_more_names ds es xs ys e f a s =
    let lexical = sym (counted_unplaced true s es) ∙ ap (counted true s) f ∙ plain_lexical s ys in (
      omega (arith, lexical),
      λ z.
          sym (counted_unplaced false s es) ∙ ap (counted false s) f
          ∙ unspelled_plain s ys (still_unspelled s xs ys a (plain_unspelled s xs (sym (ap (counted false s) e) ∙ counted_unplaced false s ds ∙ z))),
    )

-- The scope that is made of some names has a name of each of their spellings.
use Rattle.std.specs.Prelude.{ℕ, ◌≡◌, refl, Bool, true, false, ◌||◌, List, [], ◌∷◌, ◌++◌, length, drop, map, if◌then◌else◌}
use Rattle.std.specs.List.{list_any}
use Rattle.std.proofs.Common.{ap, ◌∙◌, sym, true≢false}
use Rattle.mini_model.specs.declared.name.Name.{Name}
use Rattle.mini_model.specs.Weight.{same_text}
use Rattle.mini_laws.specs.declared.names.Use.TheVariants.{Read}
use Rattle.mini_laws.specs.declared.names.Binding.{Binding}
use Rattle.mini_laws.specs.DeclaredNames.{is_spelled, with_names}
use Rattle.mini_laws.specs.Resolved.{is_for}
use Rattle.mini_laws.specs.Scopes.{lexical_scope, body_scope}
use Rattle.mini_laws.proofs.Numbers.{fresh, with_fresh}
use Rattle.mini_kept.proofs.Bools.{or_second}
use Rattle.mini_kept.proofs.SameScopes.{same_texts}
use Rattle.mini_shrink.specs.Cover.{Spellings, use_if, with_scope}

pub or_first : (a b : Bool) → a ≡ true → (a || b) ≡ true
or_first a b e = ap (λ c. c || b) e

or_grouped : (a b c : Bool) → ((a || b) || c) ≡ (a || (b || c))
or_grouped true b c = refl
or_grouped false b c = refl

module _ (s : List ℕ) where
  pub spelled_both : (xs ys : List Name) → is_spelled s (xs ++ ys) ≡ (is_spelled s xs || is_spelled s ys)
  spelled_both [] ys = refl
  spelled_both (x ∷ xs) ys = ap (λ b. same_text x.spelling s || b) (spelled_both xs ys) ∙ sym (or_grouped (same_text x.spelling s) (is_spelled s xs) (is_spelled s ys))

  pub in_first : (xs ys : List Name) → is_spelled s xs ≡ true → is_spelled s (xs ++ ys) ≡ true
  in_first xs ys e = spelled_both xs ys ∙ or_first (is_spelled s xs) (is_spelled s ys) e

  pub in_second : (xs ys : List Name) → is_spelled s ys ≡ true → is_spelled s (xs ++ ys) ≡ true
  in_second xs ys e = spelled_both xs ys ∙ or_second (is_spelled s xs) (is_spelled s ys) e

  or_false : (b : Bool) → (b || false) ≡ b
  or_false true = refl
  or_false false = refl

  new_by : (seen : List Name) (x : Name) (xs : List Name) → (is_spelled s xs ≡ true → (is_spelled s seen || is_spelled s (fresh seen xs)) ≡ true) → (is_spelled s xs ≡ true → (is_spelled s (seen ++ x ∷ []) || is_spelled s (fresh (seen ++ x ∷ []) xs)) ≡ true)
      → is_spelled s (x ∷ xs) ≡ true → (b : Bool) → is_spelled x.spelling seen ≡ b → (c : Bool) → same_text x.spelling s ≡ c → (is_spelled s seen || is_spelled s (if b then fresh seen xs else x ∷ fresh (seen ++ x ∷ []) xs)) ≡ true
  new_by seen x xs f g e true i true j = or_first (is_spelled s seen) (is_spelled s (fresh seen xs)) (sym (ap (λ r. is_spelled r seen) (same_texts x.spelling s j)) ∙ i)
  new_by seen x xs f g e true i false j = f (sym (ap (λ b. b || is_spelled s xs) j) ∙ e)
  new_by seen x xs f g e false i true j = or_second (is_spelled s seen) (is_spelled s (x ∷ fresh (seen ++ x ∷ []) xs)) (or_first (same_text x.spelling s) (is_spelled s (fresh (seen ++ x ∷ []) xs)) j)
  new_by seen x xs f g e false i false j =
      let new = is_spelled s (fresh (seen ++ x ∷ []) xs) in
      sym (or_grouped (is_spelled s seen) (same_text x.spelling s) new)
      ∙ ap (λ b. (is_spelled s seen || b) || new) (sym (or_false (same_text x.spelling s)))
      ∙ ap (λ b. b || new) (sym (spelled_both seen (x ∷ []))) ∙ g (sym (ap (λ b. b || is_spelled s xs) j) ∙ e)

  -- a spelling of some names is that of a seen name or of a new one
  seen_or_new : (seen xs : List Name) → is_spelled s xs ≡ true → (is_spelled s seen || is_spelled s (fresh seen xs)) ≡ true
  seen_or_new seen [] e = absurd (true≢false (sym e))
  seen_or_new seen (x ∷ xs) e = new_by seen x xs (seen_or_new seen xs) (seen_or_new (seen ++ x ∷ []) xs) e (is_spelled x.spelling seen) refl (same_text x.spelling s) refl

  lexical_serves : (xs : List Name) → list_any (is_for Read s) (map (λ x. record { name = x; hoists = false }) xs) ≡ is_spelled s xs
  lexical_serves [] = refl
  lexical_serves (x ∷ xs) = ap (λ b. same_text x.spelling s || b) (lexical_serves xs)

  body_serves : (v : Bool) (xs : List Name) → list_any (is_for (use_if v) s) (map (λ x. record { name = x; hoists = true }) xs) ≡ is_spelled s xs
  body_serves v [] = refl
  body_serves true (x ∷ xs) = ap (λ b. same_text x.spelling s || b) (body_serves true xs)
  body_serves false (x ∷ xs) = ap (λ b. same_text x.spelling s || b) (body_serves false xs)

  drop_length : (xs ys : List Name) → drop (length xs) (xs ++ ys) ≡ ys
  drop_length [] ys = refl
  drop_length (x ∷ xs) ys = drop_length xs ys

  pub lexical_spelled : (xs : List Name) → is_spelled s xs ≡ true → list_any (is_for Read s) (lexical_scope xs) ≡ true
  lexical_spelled xs e = lexical_serves (with_names [] xs) ∙ ap (is_spelled s) (with_fresh [] xs) ∙ seen_or_new [] xs e

  -- a spelling of names is that of a parameter, or the scope of the body has it
  pub body_spelled : (v : Bool) (params xs : List Name) → is_spelled s xs ≡ true → (is_spelled s params || list_any (is_for (use_if v) s) (body_scope params xs)) ≡ true
  body_spelled v params xs e =
      ap (λ b. is_spelled s params || b) (body_serves v (drop (length params) (with_names params xs)) ∙ ap (is_spelled s) (ap (drop (length params)) (with_fresh params xs) ∙ drop_length params (fresh params xs)))
      ∙ seen_or_new params xs e

-- ---- what is spelled around a place

-- each spelling of some names is there, for a `var` (true) or any other name
abbrev pub Spells : Spellings → Bool → List Name → Type 0
Spells spells v xs = (s : List ℕ) → is_spelled s xs ≡ true → spells v s ≡ true

pub still_spelled : (spells : Spellings) (bs : List Binding) (v : Bool) (xs : List Name) → Spells spells v xs → Spells (with_scope spells bs) v xs
still_spelled spells bs v xs f s e = or_first (spells v s) (list_any (is_for (use_if v) s) bs) (f s e)

pub spelled_there : (spells : Spellings) (bs : List Binding) (v : Bool) (xs : List Name) → ((s : List ℕ) → is_spelled s xs ≡ true → list_any (is_for (use_if v) s) bs ≡ true) → Spells (with_scope spells bs) v xs
spelled_there spells bs v xs f s e = or_second (spells v s) (list_any (is_for (use_if v) s) bs) (f s e)

pub less_spelled : (spells : Spellings) (v : Bool) (xs ys : List Name) → ((s : List ℕ) → is_spelled s ys ≡ true → is_spelled s xs ≡ true) → Spells spells v xs → Spells spells v ys
less_spelled spells v xs ys g f s e = f s (g s e)

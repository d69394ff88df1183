-- Each name keeps its symbol where scopes lose names that nothing mentions.
use Rattle.std.proofs.Common.{◌≡◌, ℕ, suc, Bool, true, false, List, [], ◌∷◌, ◌++◌, Option, Some, None, refl, sym, ap, ◌∙◌, subst, true≢false, append_assoc, arith}
use Rattle.std.specs.Prelude.{◌≤◌, ◌&&◌, ◌||◌, length, drop, if◌then◌else◌}
use Rattle.std.proofs.lemmas.List.{append-nil}
use Rattle.mini_model.specs.declared.kind.VariableDeclarationKind.TheVariants.{Var}
use Rattle.mini_model.specs.declared.name.Name.{Name}
use Rattle.mini_model.specs.declared.name.SymbolId.{SymbolId}
use Rattle.mini_model.specs.declared.shape.Shape.TheVariants as shape
use Rattle.mini_model.specs.Tree.{Tree, Trees, node, none, ◌▸◌}
use Rattle.mini_model.specs.Weight.{same_text}
use Rattle.mini_laws.specs.declared.names.Use.{Use}
use Rattle.mini_laws.specs.declared.names.Use.TheVariants.{Read, Hoisted}
use Rattle.mini_laws.specs.declared.names.Binding.{Binding}
use Rattle.mini_laws.specs.declared.names.Declared.TheVariants as declared
use Rattle.mini_laws.specs.declared.names.Opening.TheVariants as opening
use Rattle.mini_laws.specs.DeclaredNames.{names_of, first_names, all_names, is_spelled, with_names, body_names, all_body_names}
use Rattle.mini_laws.specs.Scopes.{is_alone, scopes_by, at_or_empty, opened, lexical_scope, body_scope}
use Rattle.mini_laws.specs.Resolved.{Environment, or_else, serves, own_symbol, symbol_of}
use Rattle.mini_laws.specs.Scoped.{NamesScoped, Scoped, AllScoped, NoneCarries, Unmentioned, AllUnmentioned}
use Rattle.mini_laws.specs.Symbols.{symbols_in, times}
use Rattle.mini_laws.specs.Value.{Global, VariableSet, variable_by, variable_of, variables}
use Rattle.mini_laws.specs.Congruence.{NoneIn, Avoids, AllAvoid}
use Rattle.mini_laws.proofs.Drops.{dropped}
use Rattle.mini_laws.proofs.Numbers.{none_if, symbol_of_both, bound, fresh, with_fresh, not_fresh}
use Rattle.mini_kept.proofs.SameScopes.{same_texts, text_itself}
use Rattle.mini_kept.proofs.Hoisting.{bound_scoped, hoisted_scoped}
use Rattle.mini_dead.proofs.Sparing.{sparing}

-- ---- the names that a scoped tree declares directly have the symbols that the scopes around give

both_scoped : (u : Use) (env : Environment) (xs ys : List Name) → NamesScoped u env xs → NamesScoped u env ys → NamesScoped u env (xs ++ ys)
both_scoped u env [] ys a b = b
both_scoped u env (x ∷ xs) ys a b = (a.0, both_scoped u env xs ys a.1 b)

first_read : (sc : ℕ → List Binding) (us : ℕ → Use) (env : Environment) (ts : Trees) → us 0 ≡ Read → sc 0 ≡ [] → AllScoped sc us 0 env ts → NamesScoped Read env (first_names ts)
unfolding names_of Scoped
first_read sc us env none e f a = tt
first_read sc us env (t ▸ ts) e f a =
    subst (λ v. NamesScoped Read v (names_of declared.Bound t)) (ap (λ bs. env ++ bs) f ∙ append-nil env) (bound_scoped Read (env ++ sc 0) t (subst (λ v. Scoped v (env ++ sc 0) t) e a.0))

all_read : (env : Environment) (ts : Trees) → AllScoped (λ k. []) (λ k. Read) 0 env ts → NamesScoped Read env (all_names declared.Bound ts)
unfolding names_of Scoped scopes_by
all_read env ts a = bound_scoped Read env (node shape.Listed [] 0 ts) (tt, a)

unalone : (b : Bool) → b ≡ false → (us : ℕ → Use) (env : Environment) (ts : Trees) → AllScoped (at_or_empty (scopes_by (if b then opening.Bound else opening.Nothing) ts)) us 0 env ts → AllScoped (λ k. []) us 0 env ts
unfolding scopes_by
unalone true e us env ts a = absurd (true≢false e)
unalone false e us env ts a = a

function_outside : (b : Bool) → b ≡ false → (ts : Trees) → at_or_empty (scopes_by (opening.Function b) ts) 0 ≡ []
unfolding scopes_by with_names
function_outside true e ts = absurd (true≢false e)
function_outside false e none = refl
function_outside false e (t ▸ none) = refl
function_outside false e (t ▸ (p ▸ none)) = refl
function_outside false e (t ▸ (p ▸ (b ▸ ts))) = refl

class_outside : (b : Bool) → b ≡ false → (ts : Trees) → at_or_empty (scopes_by (opening.Class b true) ts) 0 ≡ []
unfolding scopes_by with_names
class_outside true e ts = absurd (true≢false e)
class_outside false e none = refl
class_outside false e (t ▸ none) = refl
class_outside false e (t ▸ (p ▸ none)) = refl
class_outside false e (t ▸ (p ▸ (b ▸ none))) = refl
class_outside false e (t ▸ (p ▸ (b ▸ (c ▸ ts)))) = refl

mutual
  unfolding names_of Scoped scopes_by

  pub lexical_scoped : (u : Use) → is_alone u ≡ false → (env : Environment) (t : Tree) → Scoped u env t → NamesScoped Read env (names_of declared.Lexical t)
  lexical_scoped u e env (node (shape.VariableDeclaration Var) xs n ts) a = tt
  lexical_scoped u e env (node (shape.VariableDeclaration k) xs n ts) a = all_read env ts (unalone (is_alone u) e (λ k. Read) env ts a.1)
  lexical_scoped u e env (node (shape.Function true g ds) xs n ts) a = first_read (opened u (shape.Function true g ds) ts) (λ k. Read) env ts refl (function_outside (is_alone u) e ts) a.1
  lexical_scoped u e env (node (shape.Class true) xs n ts) a = first_read (opened u (shape.Class true) ts) (λ k. Read) env ts refl (class_outside (is_alone u) e ts) a.1
  lexical_scoped u e env (node shape.ImportDeclaration xs n ts) a = all_read env ts a.1
  lexical_scoped u e env (node shape.ExportNamedDeclaration xs n ts) a = all_lexical_scoped Read refl 0 env ts a.1
  lexical_scoped u e env (node shape.ExportDefaultDeclaration xs n ts) a = all_lexical_scoped Read refl 0 env ts a.1
  lexical_scoped u e env (node shape.SwitchCase xs n ts) a = all_lexical_scoped Read refl 0 env ts a.1
  lexical_scoped u e env (node shape.Listed xs n ts) a = all_lexical_scoped u e 0 env ts a.1
  lexical_scoped u e env (node h xs n ts) a = tt

  all_lexical_scoped : (u : Use) → is_alone u ≡ false → (i : ℕ) (env : Environment) (ts : Trees) → AllScoped (λ k. []) (λ k. u) i env ts → NamesScoped Read env (all_names declared.Lexical ts)
  all_lexical_scoped u e i env none a = tt
  all_lexical_scoped u e i env (t ▸ ts) a =
      subst (λ v. NamesScoped Read v (names_of declared.Lexical t ++ all_names declared.Lexical ts)) (append-nil env)
      (both_scoped Read (env ++ []) (names_of declared.Lexical t) (all_names declared.Lexical ts) (lexical_scoped u e (env ++ []) t a.0) (all_lexical_scoped u e (suc i) (env ++ []) ts a.1))

-- ---- a name of a scope, by a use that finds what the scope declares

pub record Found (h : Bool) (env : Environment) (x : Name) : Type 0 where
  pub use_made : Use
  pub served : (y : Name) → serves use_made (record { name = y; hoists = h }) ≡ true
  pub symbol : x.symbol ≡ symbol_of use_made x.spelling env

abbrev pub AllFound : Bool → Environment → List Name → Type 0
AllFound h env [] = Unit {0}
AllFound h env (x ∷ xs) = Found h env x × AllFound h env xs

both_found : (h : Bool) (env : Environment) (xs ys : List Name) → AllFound h env xs → AllFound h env ys → AllFound h env (xs ++ ys)
both_found h env [] ys a b = b
both_found h env (x ∷ xs) ys a b = (a.0, both_found h env xs ys a.1 b)

pub by_reads : (h : Bool) (env : Environment) (xs : List Name) → NamesScoped Read env xs → AllFound h env xs
by_reads h env [] a = tt
by_reads h env (x ∷ xs) a = (record { use_made = Read; served = λ y. refl; symbol = a.0 }, by_reads h env xs a.1)

pub by_hoists : (env : Environment) (xs : List Name) → NamesScoped Hoisted env xs → AllFound true env xs
by_hoists env [] a = tt
by_hoists env (x ∷ xs) a = (record { use_made = Hoisted; served = λ y. refl; symbol = a.0 }, by_hoists env xs a.1)

-- the names of a body of statements are found so
mutual
  unfolding body_names Scoped scopes_by

  pub body_found : (u : Use) → is_alone u ≡ false → (env : Environment) (t : Tree) → Scoped u env t → AllFound true env (body_names t)
  body_found u e env (node shape.Listed xs n ts) a = all_body_found u e 0 env ts a.1
  body_found u e env (node shape.FunctionBody xs n ts) a = all_body_found Read refl 0 env ts a.1
  body_found u e env (node h xs n ts) a =
      both_found true env (names_of declared.Lexical (node h xs n ts)) (names_of declared.Hoisted (node h xs n ts))
      (by_reads true env (names_of declared.Lexical (node h xs n ts)) (lexical_scoped u e env (node h xs n ts) a)) (by_hoists env (names_of declared.Hoisted (node h xs n ts)) (hoisted_scoped u env (node h xs n ts) a))

  all_body_found : (u : Use) → is_alone u ≡ false → (i : ℕ) (env : Environment) (ts : Trees) → AllScoped (λ k. []) (λ k. u) i env ts → AllFound true env (all_body_names ts)
  all_body_found u e i env none a = tt
  all_body_found u e i env (t ▸ ts) a =
      subst (λ v. AllFound true v (body_names t ++ all_body_names ts)) (append-nil env)
      (both_found true (env ++ []) (body_names t) (all_body_names ts) (body_found u e (env ++ []) t a.0) (all_body_found u e (suc i) (env ++ []) ts a.1))

-- ---- what a scope gives a name that it declares

unspelled : (u : Use) (s : List ℕ) (h : Bool) (xs : List Name) → is_spelled s xs ≡ false → symbol_of u s (bound h xs) ≡ None
unspelled u s h [] e = refl
unspelled u s h (x ∷ xs) e = by (λ f. unspelled u s h xs f) (same_text x.spelling s) refl e
  where
    never : (c : Bool) → (c && false) ≡ false
    never true = refl
    never false = refl

    by : (is_spelled s xs ≡ false → symbol_of u s (bound h xs) ≡ None) → (b : Bool) → same_text x.spelling s ≡ b → (b || is_spelled s xs) ≡ false → or_else (symbol_of u s (bound h xs)) (own_symbol u s (record { name = x; hoists = h })) ≡ None
    by rest true q f = absurd (true≢false f)
    by rest false q f =
        ap (λ o. or_else o (own_symbol u s (record { name = x; hoists = h }))) (rest f)
        ∙ none_if (serves u (record { name = x; hoists = h }) && same_text x.spelling s) x.symbol (ap (λ b. serves u (record { name = x; hoists = h }) && b) q ∙ never (serves u (record { name = x; hoists = h })))

spelled_both : (s : List ℕ) (xs ys : List Name) → is_spelled s (xs ++ ys) ≡ (is_spelled s xs || is_spelled s ys)
spelled_both s [] ys = refl
spelled_both s (x ∷ xs) ys = ap (λ b. same_text x.spelling s || b) (spelled_both s xs ys) ∙ grouped (same_text x.spelling s) (is_spelled s xs) (is_spelled s ys)
  where
    grouped : (a b c : Bool) → (a || (b || c)) ≡ ((a || b) || c)
    grouped true b c = refl
    grouped false b c = refl

spelled_last : (q : List Name) (x : Name) → is_spelled x.spelling (q ++ x ∷ []) ≡ true
spelled_last q x = spelled_both x.spelling q (x ∷ []) ∙ ap (λ b. is_spelled x.spelling q || (b || false)) (text_itself x.spelling) ∙ by (is_spelled x.spelling q)
  where
    by : (b : Bool) → (b || true) ≡ true
    by true = refl
    by false = refl

-- where another name is unlike the rest, it doesn't matter whether it was seen
past : (x : Name) (q p ys : List Name) → ((s : List ℕ) → is_spelled s q ≡ (is_spelled s p || same_text x.spelling s)) → is_spelled x.spelling ys ≡ false → fresh q ys ≡ fresh p ys
past x q p [] e f = refl
past x q p (y ∷ ys) e f = by (λ g. past x q p ys e g) (λ k g. past x (q ++ y ∷ []) (p ++ y ∷ []) ys k g) (same_text y.spelling x.spelling) refl f (is_spelled y.spelling p) refl
  where
    swapped : (s : List ℕ) → is_spelled s (q ++ y ∷ []) ≡ (is_spelled s (p ++ y ∷ []) || same_text x.spelling s)
    swapped s = spelled_both s q (y ∷ []) ∙ ap (λ b. b || is_spelled s (y ∷ [])) (e s) ∙ turned (is_spelled s p) (same_text x.spelling s) (is_spelled s (y ∷ [])) ∙ ap (λ b. b || same_text x.spelling s) (sym (spelled_both s p (y ∷ [])))
      where
        turned : (a b c : Bool) → ((a || b) || c) ≡ ((a || c) || b)
        turned true b c = refl
        turned false true true = refl
        turned false true false = refl
        turned false false true = refl
        turned false false false = refl

    other : same_text y.spelling x.spelling ≡ false → same_text x.spelling y.spelling ≡ false
    other g = at (same_text x.spelling y.spelling) refl
      where
        at : (b : Bool) → same_text x.spelling y.spelling ≡ b → same_text x.spelling y.spelling ≡ false
        at true k = absurd (true≢false (sym (ap (λ s. same_text s x.spelling) (sym (same_texts x.spelling y.spelling k)) ∙ text_itself x.spelling) ∙ g))
        at false k = k

    alike : same_text y.spelling x.spelling ≡ false → is_spelled y.spelling q ≡ is_spelled y.spelling p
    alike g = e y.spelling ∙ ap (λ b. is_spelled y.spelling p || b) (other g) ∙ whole (is_spelled y.spelling p)
      where
        whole : (b : Bool) → (b || false) ≡ b
        whole true = refl
        whole false = refl

    by : (is_spelled x.spelling ys ≡ false → fresh q ys ≡ fresh p ys) → (((s : List ℕ) → is_spelled s (q ++ y ∷ []) ≡ (is_spelled s (p ++ y ∷ []) || same_text x.spelling s)) → is_spelled x.spelling ys ≡ false → fresh (q ++ y ∷ []) ys ≡ fresh (p ++ y ∷ []) ys)
        → (b : Bool) → same_text y.spelling x.spelling ≡ b → (b || is_spelled x.spelling ys) ≡ false → (c : Bool) → is_spelled y.spelling p ≡ c → fresh q (y ∷ ys) ≡ fresh p (y ∷ ys)
    by rest added true g f c k = absurd (true≢false f)
    by rest added false g f true k =
        ap (λ b. if b then fresh q ys else y ∷ fresh (q ++ y ∷ []) ys) (alike g ∙ k) ∙ rest f ∙ sym (ap (λ b. if b then fresh p ys else y ∷ fresh (p ++ y ∷ []) ys) k)
    by rest added false g f false k =
        ap (λ b. if b then fresh q ys else y ∷ fresh (q ++ y ∷ []) ys) (alike g ∙ k)
        ∙ ap (λ r. y ∷ r) (added swapped f)
        ∙ sym (ap (λ b. if b then fresh p ys else y ∷ fresh (p ++ y ∷ []) ys) k)

module _ (D : VariableSet) (only : (s : List ℕ) → D (Global s) ≡ false) where
  some_symbol : (x : Name) → D (variable_of x) ≡ true → (k : SymbolId) × (x.symbol ≡ Some k)
  some_symbol x e = by x.symbol refl
    where
      by : (o : Option SymbolId) → x.symbol ≡ o → (k : SymbolId) × (x.symbol ≡ Some k)
      by (Some k) p = (k, p)
      by None p = absurd (true≢false (sym e ∙ ap (λ o. D (variable_by x.spelling o)) p ∙ only x.spelling))

  same_status : (x y : Name) → D (variable_of x) ≡ true → y.symbol ≡ x.symbol → D (variable_of y) ≡ true
  same_status x y e p = let (k, q) = some_symbol x e in ap (λ o. D (variable_by y.spelling o)) (p ∙ q) ∙ sym (ap (λ o. D (variable_by x.spelling o)) q) ∙ e

  -- the first name of a spelling gives each use its symbol
  module _ (h : Bool) (env : Environment) (before after : List Name) (x : Name) (dead : D (variable_of x) ≡ true) (last : is_spelled x.spelling after ≡ false) where
    gives : (u : Use) → ((y : Name) → serves u (record { name = y; hoists = h }) ≡ true) → symbol_of u x.spelling (env ++ bound h (before ++ x ∷ after)) ≡ x.symbol
    gives u v =
        let (k, q) = some_symbol x dead in
        symbol_of_both u x.spelling env (bound h (before ++ x ∷ after)) ∙ ap (λ o. or_else o (symbol_of u x.spelling env)) (inner ∙ q) ∙ sym q
      where
        own : own_symbol u x.spelling (record { name = x; hoists = h }) ≡ x.symbol
        own = ap (λ b. if b && same_text x.spelling x.spelling then x.symbol else None) (v x) ∙ ap (λ b. if b then x.symbol else None) (text_itself x.spelling)

        parts : (ys : List Name) → bound h (ys ++ x ∷ after) ≡ bound h ys ++ record { name = x; hoists = h } ∷ bound h after
        parts [] = refl
        parts (y ∷ ys) = ap (λ r. record { name = y; hoists = h } ∷ r) (parts ys)

        inner : symbol_of u x.spelling (bound h (before ++ x ∷ after)) ≡ x.symbol
        inner =
            let (k, q) = some_symbol x dead in
            ap (symbol_of u x.spelling) (parts before)
            ∙ symbol_of_both u x.spelling (bound h before) (record { name = x; hoists = h } ∷ bound h after)
            ∙ ap (λ o. or_else (or_else o (own_symbol u x.spelling (record { name = x; hoists = h }))) (symbol_of u x.spelling (bound h before))) (unspelled u x.spelling h after last)
            ∙ ap (λ o. or_else o (symbol_of u x.spelling (bound h before))) (own ∙ q) ∙ sym q

    -- of the names that are spelled like the first one of a spelling, which goes, none stays
    none_like : (ys : List Name) → AllFound h (env ++ bound h (before ++ x ∷ after)) ys → is_spelled x.spelling (sparing D ys) ≡ false
    none_like [] a = refl
    none_like (y ∷ ys) a = by (none_like ys a.1) (D (variable_of y)) refl (same_text y.spelling x.spelling) refl
      where
        found : same_text y.spelling x.spelling ≡ true → y.symbol ≡ x.symbol
        found g = a.0.symbol ∙ ap (λ s. symbol_of a.0.use_made s (env ++ bound h (before ++ x ∷ after))) (same_texts y.spelling x.spelling g) ∙ gives a.0.use_made a.0.served

        by : is_spelled x.spelling (sparing D ys) ≡ false → (c : Bool) → D (variable_of y) ≡ c → (b : Bool) → same_text y.spelling x.spelling ≡ b → is_spelled x.spelling (if D (variable_of y) then sparing D ys else y ∷ sparing D ys) ≡ false
        by rest true k b g = ap (λ c. is_spelled x.spelling (if c then sparing D ys else y ∷ sparing D ys)) k ∙ rest
        by rest false k true g = absurd (true≢false (sym (same_status x y dead (found g)) ∙ k))
        by rest false k false g = ap (λ c. is_spelled x.spelling (if c then sparing D ys else y ∷ sparing D ys)) k ∙ ap (λ b. b || is_spelled x.spelling (sparing D ys)) g ∙ rest

  -- the names of a scope that loses names are those that it had but for those
  fresh_spared : (h : Bool) (env : Environment) (whole before q xs : List Name) → whole ≡ before ++ fresh q xs → AllFound h (env ++ bound h whole) xs → fresh q (sparing D xs) ≡ sparing D (fresh q xs)
  fresh_spared h env whole before q [] e a = refl
  fresh_spared h env whole before q (x ∷ xs) e a =
      by (λ f. fresh_spared h env whole before q xs f a.1) (λ f. fresh_spared h env whole (before ++ x ∷ []) (q ++ x ∷ []) xs f a.1) (is_spelled x.spelling q) refl (D (variable_of x)) refl
    where
      opens : (b : Bool) → is_spelled x.spelling q ≡ b → fresh q (x ∷ xs) ≡ (if b then fresh q xs else x ∷ fresh (q ++ x ∷ []) xs)
      opens b g = ap (λ c. if c then fresh q xs else x ∷ fresh (q ++ x ∷ []) xs) g

      spare : (c : Bool) → D (variable_of x) ≡ c → (ys : List Name) → sparing D (x ∷ ys) ≡ (if c then sparing D ys else x ∷ sparing D ys)
      spare c k ys = ap (λ b. if b then sparing D ys else x ∷ sparing D ys) k

      moved : is_spelled x.spelling q ≡ false → whole ≡ (before ++ x ∷ []) ++ fresh (q ++ x ∷ []) xs
      moved g = e ∙ ap (λ r. before ++ r) (opens false g) ∙ sym (append_assoc before (x ∷ []) (fresh (q ++ x ∷ []) xs))

      seen : (s : List ℕ) → is_spelled s (q ++ x ∷ []) ≡ (is_spelled s q || same_text x.spelling s)
      seen s = spelled_both s q (x ∷ []) ∙ ap (λ b. is_spelled s q || b) (ended (same_text x.spelling s))
        where
          ended : (b : Bool) → (b || false) ≡ b
          ended true = refl
          ended false = refl

      unlike : is_spelled x.spelling q ≡ false → D (variable_of x) ≡ true → is_spelled x.spelling (sparing D xs) ≡ false
      unlike g k =
          none_like h env before (fresh (q ++ x ∷ []) xs) x k (not_fresh x.spelling (q ++ x ∷ []) xs (spelled_last q x)) xs
          (subst (λ ws. AllFound h (env ++ bound h ws) xs) (e ∙ ap (λ r. before ++ r) (opens false g)) a.1)

      by : (whole ≡ before ++ fresh q xs → fresh q (sparing D xs) ≡ sparing D (fresh q xs)) → (whole ≡ (before ++ x ∷ []) ++ fresh (q ++ x ∷ []) xs → fresh (q ++ x ∷ []) (sparing D xs) ≡ sparing D (fresh (q ++ x ∷ []) xs))
          → (b : Bool) → is_spelled x.spelling q ≡ b → (c : Bool) → D (variable_of x) ≡ c → fresh q (sparing D (x ∷ xs)) ≡ sparing D (fresh q (x ∷ xs))
      by rest added true g true k = ap (fresh q) (spare true k xs) ∙ rest (e ∙ ap (λ r. before ++ r) (opens true g)) ∙ sym (ap (sparing D) (opens true g))
      by rest added true g false k =
          ap (fresh q) (spare false k xs) ∙ ap (λ b. if b then fresh q (sparing D xs) else x ∷ fresh (q ++ x ∷ []) (sparing D xs)) g
          ∙ rest (e ∙ ap (λ r. before ++ r) (opens true g))
          ∙ sym (ap (sparing D) (opens true g))
      by rest added false g true k =
          ap (fresh q) (spare true k xs) ∙ sym (past x (q ++ x ∷ []) q (sparing D xs) seen (unlike g k)) ∙ added (moved g)
          ∙ sym (ap (sparing D) (opens false g) ∙ spare true k (fresh (q ++ x ∷ []) xs))
      by rest added false g false k =
          ap (fresh q) (spare false k xs) ∙ ap (λ b. if b then fresh q (sparing D xs) else x ∷ fresh (q ++ x ∷ []) (sparing D xs)) g ∙ ap (λ r. x ∷ r) (added (moved g))
          ∙ sym (ap (sparing D) (opens false g) ∙ spare false k (fresh (q ++ x ∷ []) xs))

  -- ---- scopes

  abbrev pub spared_bindings : List Binding → List Binding
  spared_bindings [] = []
  spared_bindings (b ∷ bs) = if D (variable_of b.name) then spared_bindings bs else b ∷ spared_bindings bs

  bound_spared : (h : Bool) (xs : List Name) → bound h (sparing D xs) ≡ spared_bindings (bound h xs)
  bound_spared h [] = refl
  bound_spared h (x ∷ xs) = by (D (variable_of x)) (bound_spared h xs)
    where
      by : (b : Bool) → bound h (sparing D xs) ≡ spared_bindings (bound h xs) → bound h (if b then sparing D xs else x ∷ sparing D xs) ≡ (if b then spared_bindings (bound h xs) else record { name = x; hoists = h } ∷ spared_bindings (bound h xs))
      by true e = e
      by false e = ap (λ r. record { name = x; hoists = h } ∷ r) e

  after_names : (p xs : List Name) → drop (length p) (p ++ xs) ≡ xs
  after_names [] xs = refl
  after_names (x ∷ p) xs = after_names p xs

  body_is : (p xs : List Name) → body_scope p xs ≡ bound true (fresh p xs)
  body_is p xs = ap (bound true) (ap (drop (length p)) (with_fresh p xs) ∙ after_names p (fresh p xs))

  lexical_is : (xs : List Name) → lexical_scope xs ≡ bound false (fresh [] xs)
  lexical_is xs = ap (bound false) (with_fresh [] xs)

  pub body_scope_spared : (env : Environment) (p xs : List Name) → AllFound true (env ++ body_scope p xs) xs → body_scope p (sparing D xs) ≡ spared_bindings (body_scope p xs)
  body_scope_spared env p xs a =
      body_is p (sparing D xs) ∙ ap (bound true) (fresh_spared true env (fresh p xs) [] p xs refl (subst (λ bs. AllFound true (env ++ bs) xs) (body_is p xs) a))
      ∙ bound_spared true (fresh p xs) ∙ sym (ap spared_bindings (body_is p xs))

  pub lexical_scope_spared : (env : Environment) (xs : List Name) → NamesScoped Read (env ++ lexical_scope xs) xs → lexical_scope (sparing D xs) ≡ spared_bindings (lexical_scope xs)
  lexical_scope_spared env xs a =
      lexical_is (sparing D xs) ∙ ap (bound false) (fresh_spared false env (fresh [] xs) [] [] xs refl (subst (λ bs. AllFound false (env ++ bs) xs) (lexical_is xs) (by_reads false (env ++ lexical_scope xs) xs a)))
      ∙ bound_spared false (fresh [] xs) ∙ sym (ap spared_bindings (lexical_is xs))

  pub bindings_both : (cs bs : List Binding) → spared_bindings (cs ++ bs) ≡ spared_bindings cs ++ spared_bindings bs
  bindings_both [] bs = refl
  bindings_both (b ∷ cs) bs = by (D (variable_of b.name)) (bindings_both cs bs)
    where
      by : (c : Bool) → spared_bindings (cs ++ bs) ≡ spared_bindings cs ++ spared_bindings bs → (if c then spared_bindings (cs ++ bs) else b ∷ spared_bindings (cs ++ bs)) ≡ (if c then spared_bindings cs else b ∷ spared_bindings cs) ++ spared_bindings bs
      by true e = e
      by false e = ap (λ r. b ∷ r) e

  pub fewer_symbols : (x : Option SymbolId) (bs : List Binding) → times x (symbols_in (spared_bindings bs)) ≤ times x (symbols_in bs)
  fewer_symbols x [] = omega arith
  fewer_symbols x (b ∷ bs) = by (D (variable_of b.name)) (fewer_symbols x bs)
    where
      by : (c : Bool) → times x (symbols_in (spared_bindings bs)) ≤ times x (symbols_in bs) → times x (symbols_in (if c then spared_bindings bs else b ∷ spared_bindings bs)) ≤ times x (symbols_in (b ∷ bs))
      by true e = omega (arith, e)
      by false e = omega (arith, e)

  -- ---- a tree that mentions none of the names is scoped without them

  none_carries : (b : Binding) → D (variable_of b.name) ≡ true → (xs : List Name) → NoneIn D (variables xs) → NoneCarries b xs
  none_carries b e [] a = tt
  none_carries b e (x ∷ xs) a = (λ p. true≢false (sym (same_status b.name x e (sym p)) ∙ a.0), none_carries b e xs a.1)

  mutual
    unfolding Unmentioned

    unmentioned : (b : Binding) → D (variable_of b.name) ≡ true → (t : Tree) → Avoids D t → Unmentioned b t
    unmentioned b e (node h xs n ts) a = (none_carries b e xs a.0, all_unmentioned b e ts a.1)

    all_unmentioned : (b : Binding) → D (variable_of b.name) ≡ true → (ts : Trees) → AllAvoid D ts → AllUnmentioned b ts
    all_unmentioned b e none a = tt
    all_unmentioned b e (t ▸ ts) a = (unmentioned b e t a.0, all_unmentioned b e ts a.1)

  pub spared_scoped : (u : Use) (outer inner : Environment) (t : Tree) → Avoids D t → Scoped u (outer ++ inner) t → Scoped u (outer ++ spared_bindings inner) t
  spared_scoped u outer [] t v a = a
  spared_scoped u outer (b ∷ inner) t v a =
      by (λ e. spared_scoped u outer inner t v (dropped u outer inner b t a (unmentioned b e t v)))
      (spared_scoped u (outer ++ b ∷ []) inner t v (subst (λ env. Scoped u env t) (sym (append_assoc outer (b ∷ []) inner)) a)) (D (variable_of b.name)) refl
    where
      by : (D (variable_of b.name) ≡ true → Scoped u (outer ++ spared_bindings inner) t) → Scoped u ((outer ++ b ∷ []) ++ spared_bindings inner) t → (c : Bool) → D (variable_of b.name) ≡ c → Scoped u (outer ++ (if D (variable_of b.name) then spared_bindings inner else b ∷ spared_bindings inner)) t
      by rest added true e = subst (λ c. Scoped u (outer ++ (if c then spared_bindings inner else b ∷ spared_bindings inner)) t) (sym e) (rest e)
      by rest added false e = subst (λ c. Scoped u (outer ++ (if c then spared_bindings inner else b ∷ spared_bindings inner)) t) (sym e) (subst (λ env. Scoped u env t) (append_assoc outer (b ∷ []) (spared_bindings inner)) added)

-- A scoped tree is its resolved form with other symbols.
use Rattle.std.specs.Prelude.{ℕ, suc, ◌+◌, ◌≡◌, refl, Bool, true, false, List, [], ◌∷◌, ◌++◌, length, map, is_some, Option, Some, None, if◌then◌else◌}
use Rattle.std.proofs.Common.{ap, ◌∙◌, sym, subst, arith, true≢false, append_assoc, length-append}
use Rattle.std.proofs.lemmas.List.{map-append}
use Rattle.std.proofs.Math.Seq.{get_or-append_seam}
use Rattle.mini_model.specs.declared.name.Name.{Name}
use Rattle.mini_model.specs.declared.name.SymbolId.{SymbolId}
use Rattle.mini_model.specs.declared.shape.Shape.{Shape}
use Rattle.mini_model.specs.declared.shape.Shape.TheVariants as shape
use Rattle.mini_model.specs.Tree.{Tree, Trees, node, none, ◌▸◌, is_absent}
use Rattle.mini_laws.specs.declared.names.Use.{Use}
use Rattle.mini_laws.specs.declared.names.Use.TheVariants.{Read, Write, ReadWrite, Hoisted, Headed, Alone}
use Rattle.mini_laws.specs.declared.names.Binding.{Binding}
use Rattle.mini_laws.specs.Scopes.{use_of, opened}
use Rattle.mini_laws.specs.Resolved.{Environment, gives_value, plain_name, other_name, written_name, names_in, or_else, is_for, own_symbol, symbol_of, with_symbol, numbered, symbols, symbols_from, resolved, resolved_from}
use Rattle.mini_laws.specs.Scoped.{NamesScoped, OwnScoped, Scoped, AllScoped}
use Rattle.mini_laws.specs.Symbols.{symbols_in, is_same, declared, declared_from, with_new, mapped, all_mapped, new_symbol}
use Rattle.mini_laws.proofs.Writing.{Apart, same_lists}

-- ---- as many symbols as resolution gives

symbols_length : (bs : List Binding) → length (symbols_in bs) ≡ length bs
symbols_length [] = refl
symbols_length (b ∷ bs) = ap suc (symbols_length bs)

mutual
  unfolding declared symbols

  pub declared_length : (u : Use) (t : Tree) → length (declared u t) ≡ symbols u t
  declared_length u (node h xs n ts) = all_declared_length (opened u h ts) (use_of h u) 0 ts

  all_declared_length : (sc : ℕ → List Binding) (us : ℕ → Use) (i : ℕ) (ts : Trees) → length (declared_from sc us i ts) ≡ symbols_from sc us i ts
  all_declared_length sc us i none = refl
  all_declared_length sc us i (t ▸ ts) =
      let rest = declared_from sc us (suc i) ts in
      let whole = length-append (symbols_in (sc i)) (declared (us i) t ++ rest) in
      let last = length-append (declared (us i) t) rest in
      let first : length (symbols_in (sc i)) ≡ length (sc i) = symbols_length (sc i) in
      let one = declared_length (us i) t in
      let others = all_declared_length sc us (suc i) ts in
      omega arith

-- ---- symbols by their numbers

-- these are given for the numbers from here on
abbrev pub Gives : (Option SymbolId → Option SymbolId) → ℕ → List (Option SymbolId) → Type 0
Gives f s [] = Unit {0}
Gives f s (x ∷ xs) = (f (Some (record { 0 = s })) ≡ x) × Gives f (suc s) xs

gives_left : (f : Option SymbolId → Option SymbolId) (s : ℕ) (xs ys : List (Option SymbolId)) → Gives f s (xs ++ ys) → Gives f s xs
gives_left f s [] ys g = tt
gives_left f s (x ∷ xs) ys g = (g.0, gives_left f (suc s) xs ys g.1)

gives_right : (f : Option SymbolId → Option SymbolId) (s r : ℕ) (xs ys : List (Option SymbolId)) → r ≡ s + length xs → Gives f s (xs ++ ys) → Gives f r ys
gives_right f s r [] ys e g = let e' : r ≡ s = omega arith in subst (λ k. Gives f k ys) (sym e') g
gives_right f s r (x ∷ xs) ys e g = gives_right f (suc s) r xs ys (omega arith) g.1

abbrev pub Named : List (Option SymbolId) → Type 0
Named [] = Unit {0}
Named (x ∷ xs) = (is_some x ≡ true) × Named xs

named_left : (xs ys : List (Option SymbolId)) → Named (xs ++ ys) → Named xs
named_left [] ys g = tt
named_left (x ∷ xs) ys g = (g.0, named_left xs ys g.1)

named_right : (xs ys : List (Option SymbolId)) → Named (xs ++ ys) → Named ys
named_right [] ys g = g
named_right (x ∷ xs) ys g = named_right xs ys g.1

-- ---- the symbol that is found

abbrev pub with_other : (Option SymbolId → Option SymbolId) → Binding → Binding
with_other f b = record { name = with_new f b.name; hoists = b.hoists }

abbrev pub Present : (Option SymbolId → Option SymbolId) → Option SymbolId → Type 0
Present f None = Unit {0}
Present f (Some k) = is_some (f (Some k)) ≡ true

abbrev pub AllPresent : (Option SymbolId → Option SymbolId) → Environment → Type 0
AllPresent f [] = Unit {0}
AllPresent f (b ∷ env) = Present f b.name.symbol × AllPresent f env

present_or : (f : Option SymbolId → Option SymbolId) (x y : Option SymbolId) → Present f x → Present f y → Present f (or_else x y)
present_or f None y p q = q
present_or f (Some k) y p q = p

present_if : (f : Option SymbolId → Option SymbolId) (b : Bool) (x : Option SymbolId) → Present f x → Present f (if b then x else None)
present_if f true x p = p
present_if f false x p = tt

found_present : (f : Option SymbolId → Option SymbolId) (u : Use) (s : List ℕ) (env : Environment) → AllPresent f env → Present f (symbol_of u s env)
found_present f u s [] p = tt
found_present f u s (b ∷ env) p = present_or f (symbol_of u s env) (own_symbol u s b) (found_present f u s env p.1) (present_if f (is_for u s b) b.name.symbol p.0)

or_some : (x y : Option SymbolId) → is_some x ≡ true → or_else x y ≡ x
or_some None y e = cc
or_some (Some k) y e = refl

or_other : (f : Option SymbolId → Option SymbolId) → f None ≡ None → (x y x' y' : Option SymbolId) → Present f x → f x ≡ x' → f y ≡ y' → f (or_else x y) ≡ or_else x' y'
or_other f n None y x' y' p e g = g ∙ ap (λ z. or_else z y') (sym n ∙ e)
or_other f n (Some k) y x' y' p e g = e ∙ sym (or_some x' y' (ap is_some (sym e) ∙ p))

if_other : (f : Option SymbolId → Option SymbolId) → f None ≡ None → (b : Bool) (x : Option SymbolId) → f (if b then x else None) ≡ (if b then f x else None)
if_other f n true x = refl
if_other f n false x = n

own_other : (f : Option SymbolId → Option SymbolId) → f None ≡ None → (u : Use) (s : List ℕ) (b : Binding) → f (own_symbol u s b) ≡ own_symbol u s (with_other f b)
own_other f n Read s b = if_other f n (is_for Read s b) b.name.symbol
own_other f n Write s b = if_other f n (is_for Write s b) b.name.symbol
own_other f n ReadWrite s b = if_other f n (is_for ReadWrite s b) b.name.symbol
own_other f n Hoisted s b = if_other f n (is_for Hoisted s b) b.name.symbol
own_other f n Headed s b = if_other f n (is_for Headed s b) b.name.symbol
own_other f n Alone s b = if_other f n (is_for Alone s b) b.name.symbol

found_other : (f : Option SymbolId → Option SymbolId) → f None ≡ None → (u : Use) (s : List ℕ) (env : Environment) → AllPresent f env → f (symbol_of u s env) ≡ symbol_of u s (map (with_other f) env)
found_other f n u s [] p = n
found_other f n u s (b ∷ env) p = or_other f n (symbol_of u s env) (own_symbol u s b) (symbol_of u s (map (with_other f) env)) (own_symbol u s (with_other f b)) (found_present f u s env p.1) (found_other f n u s env p.1) (own_other f n u s b)

-- ---- scopes

scope_other : (f : Option SymbolId → Option SymbolId) (s : ℕ) (bs : List Binding) → Gives f s (symbols_in bs) → map (with_other f) (numbered s bs) ≡ bs
scope_other f s [] g = refl
scope_other f s (b ∷ bs) g =
    ap (λ x. record { name = record { spelling = b.name.spelling; symbol = x }; hoists = b.hoists } ∷ map (with_other f) (numbered (suc s) bs)) g.0
    ∙ ap (λ r. b ∷ r) (scope_other f (suc s) bs g.1)

scope_present : (f : Option SymbolId → Option SymbolId) (env : Environment) (s : ℕ) (bs : List Binding) → AllPresent f env → Gives f s (symbols_in bs) → Named (symbols_in bs) → AllPresent f (env ++ numbered s bs)
scope_present f (b ∷ env) s bs p g m = (p.0, scope_present f env s bs p.1 g m)
scope_present f [] s [] p g m = tt
scope_present f [] s (b ∷ bs) p g m = (ap is_some g.0 ∙ m.0, scope_present f [] (suc s) bs tt g.1 m.1)

-- ---- trees

names_back : (f : Option SymbolId → Option SymbolId) → f None ≡ None → (u : Use) (env env' : Environment) (xs : List Name) → map (with_other f) env ≡ env' → AllPresent f env → NamesScoped u env' xs → map (with_new f) (map (with_symbol u env) xs) ≡ xs
names_back f n u env env' [] e p h = refl
names_back f n u env env' (x ∷ xs) e p h =
    ap (λ r. record { spelling = x.spelling; symbol = r } ∷ map (with_new f) (map (with_symbol u env) xs)) (found_other f n u x.spelling env p ∙ ap (symbol_of u x.spelling) e ∙ sym h.0)
    ∙ ap (λ r. x ∷ r) (names_back f n u env env' xs e p h.1)

if_back : (f : Option SymbolId → Option SymbolId) (b c : Bool) (x y : Name) → b ≡ c → with_new f x ≡ y → map (with_new f) (if b then [] else x ∷ []) ≡ (if c then [] else y ∷ [])
if_back f true true x y e g = refl
if_back f true false x y e g = absurd (true≢false e)
if_back f false true x y e g = absurd (true≢false (sym e))
if_back f false false x y e g = ap (λ z. z ∷ []) g

-- the symbols that are found are the same only where those were
same_found : (f : Option SymbolId → Option SymbolId) → f None ≡ None → Apart f → (x y : Option SymbolId) → Present f x → Present f y → is_same (f x) (f y) ≡ is_same x y
same_found f n a None None p q = λ k. is_same (n k) (n k)
same_found f n a None (Some j) p q = ap (λ o. is_same o (f (Some j))) n ∙ by (f (Some j)) q
  where
    by : (o : Option SymbolId) → is_some o ≡ true → is_same None o ≡ false
    by None h = cc
    by (Some k) h = refl
same_found f n a (Some j) None p q = ap (is_same (f (Some j))) n ∙ by (f (Some j)) p
  where
    by : (o : Option SymbolId) → is_some o ≡ true → is_same o None ≡ false
    by None h = cc
    by (Some k) h = refl
same_found f n a (Some j) (Some k) p q = a j k p q

other_back : (f : Option SymbolId → Option SymbolId) → f None ≡ None → Apart f → (u : Use) (env env' : Environment) (xs : List Name) → map (with_other f) env ≡ env' → AllPresent f env → map (with_new f) (other_name u env xs) ≡ other_name u env' xs
other_back f n a u env env' [] e p = refl
other_back f n a u env env' (x ∷ xs) e p =
    let read : f (symbol_of Read x.spelling env) ≡ symbol_of Read x.spelling env' = found_other f n Read x.spelling env p ∙ ap (symbol_of Read x.spelling) e in
    let own : f (symbol_of u x.spelling env) ≡ symbol_of u x.spelling env' = found_other f n u x.spelling env p ∙ ap (symbol_of u x.spelling) e in
    if_back f (is_same (symbol_of Read x.spelling env) (symbol_of u x.spelling env)) (is_same (symbol_of Read x.spelling env') (symbol_of u x.spelling env')) (with_symbol Read env x) (with_symbol Read env' x)
    (sym (same_found f n a (symbol_of Read x.spelling env) (symbol_of u x.spelling env) (found_present f Read x.spelling env p) (found_present f u x.spelling env p)) ∙ (λ k. is_same (read k) (own k)))
    (λ k. record { spelling = x.spelling; symbol = read k })

written_back : (f : Option SymbolId → Option SymbolId) → f None ≡ None → Apart f → (u : Use) (env env' : Environment) (ts : Trees) → map (with_other f) env ≡ env' → AllPresent f env → map (with_new f) (written_name u env ts) ≡ written_name u env' ts
written_back f n a u env env' none e p = refl
written_back f n a u env env' (id ▸ none) e p = refl
written_back f n a u env env' (id ▸ (init ▸ ts)) e p = by (gives_value u (is_absent init))
  where
    by : (g : Bool) → map (with_new f) (if g then other_name u env (plain_name id) else []) ≡ (if g then other_name u env' (plain_name id) else [])
    by true = other_back f n a u env env' (plain_name id) e p
    by false = refl

own_back : (f : Option SymbolId → Option SymbolId) → f None ≡ None → Apart f → (u : Use) (env env' : Environment) (h : Shape) (xs : List Name) (ts : Trees) → map (with_other f) env ≡ env' → AllPresent f env → OwnScoped u env' h xs ts → map (with_new f) (names_in u env h xs ts) ≡ xs
own_back f n a u env env' shape.VariableDeclarator xs ts e p d = written_back f n a u env env' ts e p ∙ sym (same_lists xs (written_name u env' ts) d)
own_back f n a u env env' h xs ts e p d = names_back f n u env env' xs e p d

mutual
  unfolding Scoped resolved mapped declared

  pub back : (f : Option SymbolId → Option SymbolId) → f None ≡ None → Apart f → (u : Use) (env env' : Environment) (s : ℕ) (t : Tree) → map (with_other f) env ≡ env' → AllPresent f env → Named (declared u t) → Gives f s (declared u t) → Scoped u env' t → mapped f (resolved u env s t) ≡ t
  back f n a u env env' s (node h xs k ts) e p m g d =
      ap (λ ys. node h ys k (all_mapped f (resolved_from (opened u h ts) (use_of h u) 0 env s ts))) (own_back f n a u env env' h xs ts e p d.0)
      ∙ ap (node h xs k) (all_back f n a (opened u h ts) (use_of h u) 0 env env' s ts e p m g d.1)

  all_back : (f : Option SymbolId → Option SymbolId) → f None ≡ None → Apart f → (sc : ℕ → List Binding) (us : ℕ → Use) (i : ℕ) (env env' : Environment) (s : ℕ) (ts : Trees) → map (with_other f) env ≡ env' → AllPresent f env → Named (declared_from sc us i ts) → Gives f s (declared_from sc us i ts) → AllScoped sc us i env' ts → all_mapped f (resolved_from sc us i env s ts) ≡ ts
  all_back f n a sc us i env env' s none e p m g d = refl
  all_back f n a sc us i env env' s (t ▸ ts) e p m g d =
      let own = symbols_in (sc i) in
      let one = declared (us i) t in
      let rest = declared_from sc us (suc i) ts in
      let inner = env ++ numbered s (sc i) in
      let r = s + length (sc i) in
      let here = gives_left f s own (one ++ rest) g in
      let below = gives_right f s r own (one ++ rest) (ap (λ k. s + k) (sym (symbols_length (sc i)))) g in
      let after = gives_right f r (r + symbols (us i) t) one rest (ap (λ k. r + k) (sym (declared_length (us i) t))) below in
      let m' = named_right own (one ++ rest) m in
      let same = map-append (with_other f) env (numbered s (sc i)) ∙ ap (λ v. map (with_other f) env ++ v) (scope_other f s (sc i) here) ∙ ap (λ v. v ++ sc i) e in
      let q = scope_present f env s (sc i) p here (named_left own (one ++ rest) m) in
      ap (λ v. v ▸ all_mapped f (resolved_from sc us (suc i) inner (r + symbols (us i) t) ts)) (back f n a (us i) inner (env' ++ sc i) r t same q (named_left one rest m') (gives_left f r one rest below) d.0)
      ∙ ap (λ v. t ▸ v) (all_back f n a sc us (suc i) inner (env' ++ sc i) (r + symbols (us i) t) ts same q (named_right one rest m') after d.1)

-- ---- by places in a list

pub gives_new : (ss rs : List (Option SymbolId)) → Gives (new_symbol (ss ++ rs)) (length ss) rs
gives_new ss [] = tt
gives_new ss (x ∷ rs) =
    let longer : length (ss ++ x ∷ []) ≡ suc (length ss) = let h = length-append ss (x ∷ []) in omega (arith, h) in (
      get_or-append_seam ss x rs None,
      subst (λ k. Gives (new_symbol (ss ++ x ∷ rs)) k rs) longer (subst (λ v. Gives (new_symbol v) (length (ss ++ x ∷ [])) rs) (append_assoc ss (x ∷ []) rs) (gives_new (ss ++ x ∷ []) rs)),
    )

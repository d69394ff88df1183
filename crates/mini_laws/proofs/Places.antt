-- The symbols of a resolved tree.
use Rattle.std.specs.Prelude.{ℕ, zero, suc, ◌+◌, ◌≡◌, ◌≤◌, refl, nat_eq, Bool, true, false, List, [], ◌∷◌, ◌++◌, length, Option, Some, None, if◌then◌else◌}
use Rattle.std.proofs.Common.{ap, ◌∙◌, sym, subst, arith}
use Rattle.std.proofs.lemmas.Bool.{eqb-true}
use Rattle.mini_model.specs.declared.name.SymbolId.{SymbolId}
use Rattle.mini_model.specs.Tree.{Tree, Trees, node, none, ◌▸◌}
use Rattle.mini_laws.specs.declared.names.Use.{Use}
use Rattle.mini_laws.specs.declared.names.Use.TheVariants.{Read}
use Rattle.mini_laws.specs.declared.names.Binding.{Binding}
use Rattle.mini_laws.specs.Scopes.{use_of, opening_of, opened}
use Rattle.mini_laws.specs.Resolved.{Environment, numbered, symbols, symbols_from, resolved, resolved_from, resolved_program}
use Rattle.mini_laws.specs.Scoped.{Scoped}
use Rattle.mini_laws.specs.Symbols.{symbols_in, declared, declared_from, declared_symbols, bare, new_symbol, renamed, symbols_to, times, Distinct}
use Rattle.mini_laws.proofs.Back.{Named, back, gives_new}
use Rattle.mini_laws.proofs.Bare.{resolved_bare}
use Rattle.mini_laws.proofs.Writing.{apart}
use Rattle.mini_laws.proofs.Whole.{Matches, matches_by, side_of}

scope_symbols : (s : ℕ) (bs : List Binding) → symbols_in (numbered s bs) ≡ symbols_to s (length bs)
scope_symbols s [] = refl
scope_symbols s (b ∷ bs) = ap (λ r. Some (record { 0 = s }) ∷ r) (scope_symbols (suc s) bs)

to_both : (s r a b c : ℕ) → r ≡ s + a → c ≡ a + b → symbols_to s a ++ symbols_to r b ≡ symbols_to s c
to_both s r zero b c e g = let e' : r ≡ s = omega arith in let g' : b ≡ c = omega arith in ap (λ k. symbols_to k b) e' ∙ ap (symbols_to s) g'
to_both s r (suc a) b zero e g = absurd (omega arith)
to_both s r (suc a) b (suc c) e g = ap (λ x. Some (record { 0 = s }) ∷ x) (to_both (suc s) r a b c (omega arith) (omega arith))

mutual
  unfolding declared resolved symbols

  pub resolved_symbols : (u : Use) (env : Environment) (s : ℕ) (t : Tree) → declared u (resolved u env s t) ≡ symbols_to s (symbols u t)
  resolved_symbols u env s (node h xs n ts) = all_resolved_symbols (opened u h ts) (opened u h (resolved_from (opened u h ts) (use_of h u) 0 env s ts)) (use_of h u) 0 env s ts (matches_by (opening_of u h) (use_of h u) env s ts (side_of u h))

  all_resolved_symbols : (sc sc' : ℕ → List Binding) (us : ℕ → Use) (i : ℕ) (env : Environment) (s : ℕ) (ts : Trees) → Matches sc sc' us i s ts → declared_from sc' us i (resolved_from sc us i env s ts) ≡ symbols_to s (symbols_from sc us i ts)
  all_resolved_symbols sc sc' us i env s none m = refl
  all_resolved_symbols sc sc' us i env s (t ▸ ts) m =
      let inner = env ++ numbered s (sc i) in
      let a = length (sc i) in
      let b = symbols (us i) t in
      let c = symbols_from sc us (suc i) ts in
      let one = declared (us i) (resolved (us i) inner (s + a) t) in
      let rest = declared_from sc' us (suc i) (resolved_from sc us (suc i) inner (s + a + b) ts) in
      ap (λ bs. symbols_in bs ++ (one ++ rest)) m.0
      ∙ ap (λ r. r ++ (one ++ rest)) (scope_symbols s (sc i))
      ∙ ap (λ r. symbols_to s a ++ (r ++ rest)) (resolved_symbols (us i) inner (s + a) t)
      ∙ ap (λ r. symbols_to s a ++ (symbols_to (s + a) b ++ r)) (all_resolved_symbols sc sc' us (suc i) inner (s + a + b) ts m.1)
      ∙ ap (λ r. symbols_to s a ++ r) (to_both (s + a) (s + a + b) b c (b + c) refl refl)
      ∙ to_both s (s + a) a (b + c) (a + b + c) refl (omega arith)

-- ---- distinct symbols

none_then : (x : SymbolId) (s : ℕ) (b : Bool) (k : ℕ) → nat_eq x.0 s ≡ b → suc x.0 ≤ s → k ≡ 0 → (if b then 1 else 0) + k ≡ 0
none_then x s true k e h i = let f = eqb-true x.0 s e in absurd (omega (arith, f))
none_then x s false k e h i = omega arith

one_then : (x : SymbolId) (s : ℕ) (b : Bool) (k : ℕ) → nat_eq x.0 s ≡ b → (x.0 ≡ s → k ≡ 0) → k ≤ 1 → (if b then 1 else 0) + k ≤ 1
one_then x s true k e h i = let f = h (eqb-true x.0 s e) in omega (arith, f)
one_then x s false k e h i = omega arith

none_before : (x : SymbolId) (s n : ℕ) → suc x.0 ≤ s → times (Some x) (symbols_to s n) ≡ 0
none_before x s zero h = refl
none_before x s (suc n) h = none_then x s (nat_eq x.0 s) (times (Some x) (symbols_to (suc s) n)) refl h (none_before x (suc s) n (omega arith))

one_each : (x : SymbolId) (s n : ℕ) → times (Some x) (symbols_to s n) ≤ 1
one_each x s zero = omega arith
one_each x s (suc n) = one_then x s (nat_eq x.0 s) (times (Some x) (symbols_to (suc s) n)) refl (λ e. none_before x (suc s) n (omega (arith, e))) (one_each x (suc s) n)

not_none : (s n : ℕ) → times None (symbols_to s n) ≡ 0
not_none s zero = refl
not_none s (suc n) = let h = not_none (suc s) n in omega (arith, h)

to_distinct : (s n : ℕ) → Distinct (symbols_to s n)
to_distinct s n None = let h = not_none s n in omega (arith, h)
to_distinct s n (Some x) = one_each x s n

pub resolved_distinct : (t : Tree) → Distinct (declared_symbols (resolved_program t))
resolved_distinct t = subst Distinct (sym (resolved_symbols Read [] 0 t)) (to_distinct 0 (symbols Read t))

named_none : (ss : List (Option SymbolId)) → times None ss ≤ 0 → Named ss
named_none [] h = tt
named_none (None ∷ ss) h = absurd (omega arith)
named_none (Some x ∷ ss) h = (refl, named_none ss (let h' : 0 + times None ss ≤ 0 = h in omega (arith, h')))

-- ---- the theorem

pub bare_again : (t : Tree) → resolved_program (bare t) ≡ resolved_program t
bare_again t = resolved_bare Read [] 0 t

pub renamed_again : (t : Tree) → Scoped Read [] t → Distinct (declared_symbols t) → renamed (declared_symbols t) (resolved_program (bare t)) ≡ t
renamed_again t s d =
    ap (renamed (declared_symbols t)) (bare_again t)
    ∙ back (new_symbol (declared_symbols t)) refl (apart (declared_symbols t) d) Read [] [] 0 t refl tt (named_none (declared_symbols t) (d None)) (gives_new [] (declared_symbols t)) s

-- Each name keeps its symbol where the bodies around it declare their names in another order.
use Rattle.std.specs.Prelude.{ℕ, zero, suc, ◌≤◌, ◌≡◌, refl, Bool, false, List, [], ◌∷◌, ◌++◌, Option, if◌then◌else◌}
use Rattle.std.proofs.Common.{ap, ◌∙◌, sym, subst, arith, inl, inr, true≢false}
use Rattle.mini_model.specs.declared.name.Name.{Name}
use Rattle.mini_model.specs.declared.name.SymbolId.{SymbolId}
use Rattle.mini_model.specs.declared.place.Position.{Position}
use Rattle.mini_model.specs.Tree.{Tree, Trees, node, none, ◌▸◌}
use Rattle.mini_laws.specs.declared.names.Use.{Use}
use Rattle.mini_laws.specs.declared.names.Binding.{Binding}
use Rattle.mini_laws.specs.declared.names.Declared.TheVariants as declared
use Rattle.mini_laws.specs.declared.names.Opening.{Opening}
use Rattle.mini_laws.specs.declared.names.Opening.TheVariants as opening
use Rattle.mini_laws.specs.DeclaredNames.{names_of, body_names, bound_names}
use Rattle.mini_laws.specs.Scopes.{use_of, scopes_by, at_or_empty, opened, lexical_scope, body_scope, merged, name_if}
use Rattle.mini_laws.specs.Resolved.{Environment, or_else, symbol_of}
use Rattle.mini_laws.specs.Scoped.{NamesScoped, Scoped, AllScoped}
use Rattle.mini_laws.specs.Symbols.{symbols_in, declared as declared_in, declared_from, times, Within}
use Rattle.mini_laws.proofs.Changes.{times_both}
use Rattle.mini_laws.proofs.Numbers.{symbol_of_both}
use Rattle.mini_laws.proofs.Writing.{first_plain, all_found, own_moved}
use Rattle.mini_kept.specs.KeepsNames.{Stands}
use Rattle.mini_kept.specs.KeepsLoosely.{has_member, InnerKept, KeepsLoosely}
use Rattle.mini_kept.specs.SameNames.{SameScope}
use Rattle.mini_kept.proofs.SameScopes.{body_found, body_within}

-- the children, from an index on, keep what they are asked to
abbrev pub AllKeep : (ℕ → Position) → ℕ → Trees → Trees → Type 0
AllKeep π i none none = Unit {0}
AllKeep π i none (u ▸ us) = ⊥
AllKeep π i (t ▸ ts) none = ⊥
AllKeep π i (t ▸ ts) (u ▸ us) = KeepsLoosely (π i) t u × AllKeep π (suc i) ts us

-- and their names are used as their places say
abbrev pub AllStand : (ℕ → Position) → (ℕ → Use) → ℕ → Trees → Type 0
AllStand π v i none = Unit {0}
AllStand π v i (t ▸ ts) = Stands (π i) (v i) t × AllStand π v (suc i) ts

-- ---- environments that give each name one symbol

abbrev pub SameFound : Environment → Environment → Type 0
SameFound env env' = (u : Use) (s : List ℕ) → symbol_of u s env ≡ symbol_of u s env'

pub found_both : (env env' bs bs' : Environment) → SameFound env env' → SameFound bs bs' → SameFound (env ++ bs) (env' ++ bs')
found_both env env' bs bs' e f u s = symbol_of_both u s env bs ∙ (λ k. or_else (f u s k) (e u s k)) ∙ sym (symbol_of_both u s env' bs')

names_moved : (u : Use) (env env' : Environment) → SameFound env env' → (xs : List Name) → NamesScoped u env xs → NamesScoped u env' xs
names_moved u env env' e [] a = tt
names_moved u env env' e (x ∷ xs) a = (a.0 ∙ e u x.spelling, names_moved u env env' e xs a.1)

mutual
  unfolding Scoped

  moved : (u : Use) (env env' : Environment) → SameFound env env' → (t : Tree) → Scoped u env t → Scoped u env' t
  moved u env env' e (node h xs n ts) a = (own_moved u env env' h xs ts (names_moved u env env' e xs) (all_found u env env' e (first_plain ts)) a.0, all_moved (opened u h ts) (use_of h u) 0 env env' e ts a.1)

  all_moved : (sc : ℕ → List Binding) (vs : ℕ → Use) (i : ℕ) (env env' : Environment) → SameFound env env' → (ts : Trees) → AllScoped sc vs i env ts → AllScoped sc vs i env' ts
  all_moved sc vs i env env' e none a = tt
  all_moved sc vs i env env' e (t ▸ ts) a =
      let inner = found_both env env' (sc i) (sc i) e (λ u s. refl) in
      (moved (vs i) (env ++ sc i) (env' ++ sc i) inner t a.0, all_moved sc vs (suc i) (env ++ sc i) (env' ++ sc i) inner ts a.1)

-- ---- scopes

-- of an earlier scope and a later one
record ScopeAlike (bs bs' : List Binding) : Type 0 where
  found : SameFound bs bs'
  within : Within (symbols_in bs') (symbols_in bs)

same_scope : (bs bs' : List Binding) → bs' ≡ bs → ScopeAlike bs bs'
same_scope bs bs' e = record { found = λ u s. ap (symbol_of u s) (sym e); within = λ x. omega (arith, ap (λ cs. times x (symbols_in cs)) e) }

same_body : (p p' xs ys : List Name) → p' ≡ p → SameScope ys xs → ScopeAlike (body_scope p xs) (body_scope p' ys)
same_body p p' xs ys e f = subst (λ q. ScopeAlike (body_scope p xs) (body_scope q ys)) (sym e) (record { found = body_found p xs ys f; within = body_within p xs ys f })

abbrev AllAlike : List (List Binding) → List (List Binding) → Type 0
AllAlike [] [] = Unit {0}
AllAlike [] (r ∷ rs) = ⊥
AllAlike (s ∷ ss) [] = ⊥
AllAlike (s ∷ ss) (r ∷ rs) = ScopeAlike s r × AllAlike ss rs

at_alike : (ss rs : List (List Binding)) → AllAlike ss rs → (i : ℕ) → ScopeAlike (at_or_empty ss i) (at_or_empty rs i)
at_alike [] [] a i = same_scope [] [] refl
at_alike [] (r ∷ rs) a i = absurd a
at_alike (s ∷ ss) [] a i = absurd a
at_alike (s ∷ ss) (r ∷ rs) a zero = a.0
at_alike (s ∷ ss) (r ∷ rs) a (suc i) = at_alike ss rs a.1 i

name_scope : (p : Position) (own : Bool) (t u : Tree) → KeepsLoosely p t u → ScopeAlike (lexical_scope (name_if own t)) (lexical_scope (name_if own u))
name_scope p own t u k = same_scope (lexical_scope (name_if own t)) (lexical_scope (name_if own u)) (ap (λ r. lexical_scope (if own then r else [])) k.bound)

bound_scope : (p : Position) (t u : Tree) → KeepsLoosely p t u → ScopeAlike (lexical_scope (bound_names t)) (lexical_scope (bound_names u))
bound_scope p t u k = same_scope (lexical_scope (bound_names t)) (lexical_scope (bound_names u)) (ap (λ r. lexical_scope r) k.bound)

block_scope : (p : Position) (t u : Tree) → KeepsLoosely p t u → ScopeAlike (lexical_scope (names_of declared.Lexical t)) (lexical_scope (names_of declared.Lexical u))
block_scope p t u k = same_scope (lexical_scope (names_of declared.Lexical t)) (lexical_scope (names_of declared.Lexical u)) (ap (λ r. lexical_scope r) k.lexical)

params_scope : (p : Position) (t u : Tree) → KeepsLoosely p t u → ScopeAlike (body_scope [] (bound_names t)) (body_scope [] (bound_names u))
params_scope p t u k = same_scope (body_scope [] (bound_names t)) (body_scope [] (bound_names u)) (ap (λ r. body_scope [] r) k.bound)

merged_same : (p : Position) (t u : Tree) → KeepsLoosely p t u → has_member t ≡ false → merged u ≡ merged t
merged_same p t u k m = by k.inner
  where
    by : InnerKept t u → merged u ≡ merged t
    by (inl e) = λ i. if e i then [] else k.bound i
    by (inr e) = absurd (true≢false (sym e ∙ m))

-- the parameters of a function hold no member
abbrev pub Merges : Opening → Trees → Type 0
Merges opening.Arrow (params ▸ ts) = has_member params ≡ false
Merges (opening.Function own) (id ▸ (params ▸ ts)) = has_member params ≡ false
Merges o ts = Unit {0}

scopes_alike : (o : Opening) (π : ℕ → Position) (vs : ℕ → Use) (env : Environment) (ts us : Trees) → Merges o ts → AllKeep π 0 ts us → AllStand π vs 0 ts → AllScoped (at_or_empty (scopes_by o ts)) vs 0 env ts → AllAlike (scopes_by o ts) (scopes_by o us)
unfolding scopes_by Scoped
scopes_alike opening.Nothing π vs env none none m k s a = tt
scopes_alike opening.Body π vs env none none m k s a = tt
scopes_alike opening.First π vs env none none m k s a = tt
scopes_alike opening.Bound π vs env none none m k s a = tt
scopes_alike opening.Second π vs env none none m k s a = tt
scopes_alike (opening.Class own inside) π vs env none none m k s a = tt
scopes_alike opening.Arrow π vs env none none m k s a = tt
scopes_alike (opening.Function own) π vs env none none m k s a = tt
scopes_alike o π vs env none (u ▸ us) m k s a = absurd k
scopes_alike o π vs env (t ▸ ts) none m k s a = absurd k
scopes_alike opening.Nothing π vs env (t ▸ ts) (u ▸ us) m k s a = tt
scopes_alike opening.Body π vs env (t ▸ ts) (u ▸ us) m k s a = (same_body [] [] (body_names t) (body_names u) refl (k.0.body (vs 0) _ s.0 a.0), tt)
scopes_alike opening.First π vs env (t ▸ ts) (u ▸ us) m k s a = (block_scope (π 0) t u k.0, tt)
scopes_alike opening.Bound π vs env (t ▸ ts) (u ▸ us) m k s a = (bound_scope (π 0) t u k.0, tt)
scopes_alike opening.Second π vs env (c ▸ none) (d ▸ none) m k s a = tt
scopes_alike opening.Second π vs env (c ▸ none) (d ▸ (u ▸ us)) m k s a = absurd k.1
scopes_alike opening.Second π vs env (c ▸ (t ▸ ts)) (d ▸ none) m k s a = absurd k.1
scopes_alike opening.Second π vs env (c ▸ (t ▸ ts)) (d ▸ (u ▸ us)) m k s a = (same_scope [] [] refl, (block_scope (π 1) t u k.1.0, tt))
scopes_alike (opening.Class own inside) π vs env (c ▸ none) (c' ▸ none) m k s a = tt
scopes_alike (opening.Class own inside) π vs env (c ▸ none) (c' ▸ (u ▸ us)) m k s a = absurd k.1
scopes_alike (opening.Class own inside) π vs env (c ▸ (h ▸ ts)) (c' ▸ none) m k s a = absurd k.1
scopes_alike (opening.Class own inside) π vs env (c ▸ (h ▸ none)) (c' ▸ (h' ▸ none)) m k s a = tt
scopes_alike (opening.Class own inside) π vs env (c ▸ (h ▸ none)) (c' ▸ (h' ▸ (u ▸ us))) m k s a = absurd k.1.1
scopes_alike (opening.Class own inside) π vs env (c ▸ (h ▸ (b ▸ ts))) (c' ▸ (h' ▸ none)) m k s a = absurd k.1.1
scopes_alike (opening.Class own inside) π vs env (c ▸ (h ▸ (b ▸ none))) (c' ▸ (h' ▸ (b' ▸ none))) m k s a = tt
scopes_alike (opening.Class own inside) π vs env (c ▸ (h ▸ (b ▸ none))) (c' ▸ (h' ▸ (b' ▸ (u ▸ us)))) m k s a = absurd k.1.1.1
scopes_alike (opening.Class own inside) π vs env (c ▸ (h ▸ (b ▸ (t ▸ ts)))) (c' ▸ (h' ▸ (b' ▸ none))) m k s a = absurd k.1.1.1
scopes_alike (opening.Class own inside) π vs env (c ▸ (h ▸ (b ▸ (t ▸ ts)))) (c' ▸ (h' ▸ (b' ▸ (u ▸ us)))) m k s a = (name_scope (π 0) own c c' k.0, (name_scope (π 3) inside t u k.1.1.1.0, tt))
scopes_alike opening.Arrow π vs env (c ▸ none) (c' ▸ none) m k s a = tt
scopes_alike opening.Arrow π vs env (c ▸ none) (c' ▸ (u ▸ us)) m k s a = absurd k.1
scopes_alike opening.Arrow π vs env (c ▸ (t ▸ ts)) (c' ▸ none) m k s a = absurd k.1
scopes_alike opening.Arrow π vs env (c ▸ (t ▸ ts)) (c' ▸ (u ▸ us)) m k s a =
    (params_scope (π 0) c c' k.0, (same_body (merged c) (merged c') (body_names t) (body_names u) (merged_same (π 0) c c' k.0 m) (k.1.0.body (vs 1) _ s.1.0 a.1.0), tt))
scopes_alike (opening.Function own) π vs env (c ▸ none) (c' ▸ none) m k s a = tt
scopes_alike (opening.Function own) π vs env (c ▸ none) (c' ▸ (u ▸ us)) m k s a = absurd k.1
scopes_alike (opening.Function own) π vs env (c ▸ (p ▸ ts)) (c' ▸ none) m k s a = absurd k.1
scopes_alike (opening.Function own) π vs env (c ▸ (p ▸ none)) (c' ▸ (p' ▸ none)) m k s a = tt
scopes_alike (opening.Function own) π vs env (c ▸ (p ▸ none)) (c' ▸ (p' ▸ (u ▸ us))) m k s a = absurd k.1.1
scopes_alike (opening.Function own) π vs env (c ▸ (p ▸ (t ▸ ts))) (c' ▸ (p' ▸ none)) m k s a = absurd k.1.1
scopes_alike (opening.Function own) π vs env (c ▸ (p ▸ (t ▸ ts))) (c' ▸ (p' ▸ (u ▸ us))) m k s a = (
  name_scope (π 0) own c c' k.0,
  (params_scope (π 1) p p' k.1.0, (same_body (merged p) (merged p') (body_names t) (body_names u) (merged_same (π 1) p p' k.1.0 m) (k.1.1.0.body (vs 2) _ s.1.1.0 a.1.1.0), tt)),
)

-- ---- children

all_scoped : (π : ℕ → Position) (sc sc' : ℕ → List Binding) → ((j : ℕ) → ScopeAlike (sc j) (sc' j)) → (vs : ℕ → Use) (i : ℕ) (env env' : Environment) → SameFound env env' → (ts us : Trees) → AllKeep π i ts us → AllStand π vs i ts → AllScoped sc vs i env ts → AllScoped sc' vs i env' us
unfolding Scoped
all_scoped π sc sc' e vs i env env' f none none k s a = tt
all_scoped π sc sc' e vs i env env' f none (u ▸ us) k s a = absurd k
all_scoped π sc sc' e vs i env env' f (t ▸ ts) none k s a = absurd k
all_scoped π sc sc' e vs i env env' f (t ▸ ts) (u ▸ us) k s a =
    let inner = found_both env env' (sc i) (sc' i) f (e i).found in
    (moved (vs i) (env ++ sc i) (env' ++ sc' i) inner u (k.0.scoped (vs i) (env ++ sc i) s.0 a.0), all_scoped π sc sc' e vs (suc i) (env ++ sc i) (env' ++ sc' i) inner ts us k.1 s.1 a.1)

all_within : (x : Option SymbolId) (π : ℕ → Position) (sc sc' : ℕ → List Binding) → ((j : ℕ) → ScopeAlike (sc j) (sc' j)) → (vs : ℕ → Use) (i : ℕ) (env : Environment) (ts us : Trees) → AllKeep π i ts us → AllStand π vs i ts → AllScoped sc vs i env ts
    → times x (declared_from sc' vs i us) ≤ times x (declared_from sc vs i ts)
unfolding Scoped declared_in
all_within x π sc sc' e vs i env none none k s a = omega arith
all_within x π sc sc' e vs i env none (u ▸ us) k s a = absurd k
all_within x π sc sc' e vs i env (t ▸ ts) none k s a = absurd k
all_within x π sc sc' e vs i env (t ▸ ts) (u ▸ us) k s a =
    omega (
      arith,
      (e i).within x,
      k.0.symbols (vs i) (env ++ sc i) s.0 a.0 x,
      all_within x π sc sc' e vs (suc i) (env ++ sc i) ts us k.1 s.1 a.1,
      times_both x (symbols_in (sc i)) (declared_in (vs i) t ++ declared_from sc vs (suc i) ts),
      times_both x (declared_in (vs i) t) (declared_from sc vs (suc i) ts),
      times_both x (symbols_in (sc' i)) (declared_in (vs i) u ++ declared_from sc' vs (suc i) us),
      times_both x (declared_in (vs i) u) (declared_from sc' vs (suc i) us),
    )

-- of a node over its children, where each name keeps its symbol and no symbol is declared more often
pub children_scoped : (o : Opening) (π : ℕ → Position) (vs : ℕ → Use) (env : Environment) (ts us : Trees) → Merges o ts → AllKeep π 0 ts us → AllStand π vs 0 ts → AllScoped (at_or_empty (scopes_by o ts)) vs 0 env ts → AllScoped (at_or_empty (scopes_by o us)) vs 0 env us
children_scoped o π vs env ts us m k s a =
    all_scoped π (at_or_empty (scopes_by o ts)) (at_or_empty (scopes_by o us)) (at_alike (scopes_by o ts) (scopes_by o us) (scopes_alike o π vs env ts us m k s a)) vs 0 env env (λ u r. refl) ts us k s a

pub children_within : (x : Option SymbolId) (o : Opening) (π : ℕ → Position) (vs : ℕ → Use) (env : Environment) (ts us : Trees) → Merges o ts → AllKeep π 0 ts us → AllStand π vs 0 ts → AllScoped (at_or_empty (scopes_by o ts)) vs 0 env ts
    → times x (declared_from (at_or_empty (scopes_by o us)) vs 0 us) ≤ times x (declared_from (at_or_empty (scopes_by o ts)) vs 0 ts)
children_within x o π vs env ts us m k s a =
    all_within x π (at_or_empty (scopes_by o ts)) (at_or_empty (scopes_by o us)) (at_alike (scopes_by o ts) (scopes_by o us) (scopes_alike o π vs env ts us m k s a)) vs 0 env ts us k s a

-- and no scope of it declares a symbol more often
pub children_alike : (o : Opening) (π : ℕ → Position) (vs : ℕ → Use) (env : Environment) (ts us : Trees) → Merges o ts → AllKeep π 0 ts us → AllStand π vs 0 ts → AllScoped (at_or_empty (scopes_by o ts)) vs 0 env ts
    → (i : ℕ) → Within (symbols_in (at_or_empty (scopes_by o us) i)) (symbols_in (at_or_empty (scopes_by o ts) i))
children_alike o π vs env ts us m k s a i = (at_alike (scopes_by o ts) (scopes_by o us) (scopes_alike o π vs env ts us m k s a) i).within

-- and each name that is looked up in one is found as it was
pub children_found : (o : Opening) (π : ℕ → Position) (vs : ℕ → Use) (env : Environment) (ts us : Trees) → Merges o ts → AllKeep π 0 ts us → AllStand π vs 0 ts → AllScoped (at_or_empty (scopes_by o ts)) vs 0 env ts → (i : ℕ) → SameFound (at_or_empty (scopes_by o ts) i) (at_or_empty (scopes_by o us) i)
children_found o π vs env ts us m k s a i = (at_alike (scopes_by o ts) (scopes_by o us) (scopes_alike o π vs env ts us m k s a) i).found

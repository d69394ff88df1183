-- References to a symbol and declarations of it: a dead symbol has neither outside the names of
-- items.
use Rattle.std.proofs.Common.{◌≡◌, ℕ, suc, Bool, true, false, List, [], ◌∷◌, ◌++◌, Option, Some, None, refl, sym, ap, ◌∙◌, true≢false, eqb-true, arith}
use Rattle.std.specs.Prelude.{◌+◌, nat_eq, not, ◌&&◌, ◌||◌, cond, count_by, map}
use Rattle.std.proofs.lemmas.List.Sums.{sum_by-cons}
use Rattle.mini_model.specs.declared.name.Name.{Name}
use Rattle.mini_model.specs.declared.name.SymbolId.{SymbolId}
use Rattle.mini_model.specs.declared.shape.Shape.{Shape}
use Rattle.mini_model.specs.declared.shape.Shape.TheVariants as shape
use Rattle.mini_model.specs.Tree.{Tree, Trees, node, none, ◌▸◌}
use Rattle.mini_laws.specs.declared.names.Use.{Use}
use Rattle.mini_laws.specs.declared.names.Use.TheVariants.{Read, Write}
use Rattle.mini_laws.specs.Value.{Declared, Global, VariableSet, variable_by, variable_of}
use Rattle.mini_laws.specs.Scopes.{use_of}
use Rattle.mini_laws.specs.References.{Reference, has_symbol, reads, writes, read_count, write_count, own_references, references, references_from}
use Rattle.mini_laws.specs.Shared.{is_shared_always}
use Rattle.mini_laws.specs.ScopeList.{by_symbol}
use Rattle.mini_kept.proofs.Bools.{left, right}
use Rattle.mini_dead.proofs.Basics.{some_is, none_is}
use Rattle.mini_dead.specs.Pruned.{Spot, Elsewhere, Role, Plain, StatementList, DeclaratorList}
use Rattle.mini_dead.specs.Dead.{is_dispensable, name_if, item_name, has_this_symbol, declares, declares_otherwise, any_declares_otherwise, declares_inside, is_unreferenced, is_dead_symbol, has_it, has_name}

-- ---- references to a symbol

module _ (s : ℕ) where
  abbrev pub refers : Reference → Bool
  refers r = has_symbol s r.name.symbol

  abbrev pub NoneRefers : List Reference → Type 0
  NoneRefers [] = Unit {0}
  NoneRefers (r ∷ rs) = (refers r ≡ false) × NoneRefers rs

  first_refs : (rs qs : List Reference) → NoneRefers (rs ++ qs) → NoneRefers rs
  first_refs [] qs a = tt
  first_refs (r ∷ rs) qs a = (a.0, first_refs rs qs a.1)

  last_refs : (rs qs : List Reference) → NoneRefers (rs ++ qs) → NoneRefers qs
  last_refs [] qs a = a
  last_refs (r ∷ rs) qs a = last_refs rs qs a.1

  both_refs : (rs qs : List Reference) → NoneRefers rs → NoneRefers qs → NoneRefers (rs ++ qs)
  both_refs [] qs a b = b
  both_refs (r ∷ rs) qs a b = (a.0, both_refs rs qs a.1 b)

  counted : (p : Reference → Bool) (r : Reference) (rs : List Reference) → count_by p (r ∷ rs) ≡ cond {A = ℕ} (p r) 1 0 + count_by p rs
  counted p r rs = sum_by-cons (λ r. cond (p r) 1 0) r rs

  none_counted : (rs : List Reference) → count_by (λ r. reads r.used && has_symbol s r.name.symbol) rs ≡ 0 → count_by (λ r. writes r.used && has_symbol s r.name.symbol) rs ≡ 0 → NoneRefers rs
  none_counted [] a b = tt
  none_counted (r ∷ rs) a b = by r.used (refers r) refl (omega (arith, a, counted (λ r. reads r.used && has_symbol s r.name.symbol) r rs)) (omega (arith, b, counted (λ r. writes r.used && has_symbol s r.name.symbol) r rs))
      (none_counted rs (omega (arith, a, counted (λ r. reads r.used && has_symbol s r.name.symbol) r rs)) (omega (arith, b, counted (λ r. writes r.used && has_symbol s r.name.symbol) r rs)))
    where
      by : (u : Use) (c : Bool) → refers r ≡ c → cond {A = ℕ} (reads u && c) 1 0 ≡ 0 → cond {A = ℕ} (writes u && c) 1 0 ≡ 0 → NoneRefers rs → NoneRefers (r ∷ rs)
      by u false q a b f = (q, f)
      by Write true q a b f = absurd (omega (arith, b))
      by u true q a b f = absurd (omega (arith, a))

  -- whatever the names of a tree are used for
  same_names : (u v : Use) (xs : List Name) → NoneRefers (map (λ x. record { name = x; used = u }) xs) → NoneRefers (map (λ x. record { name = x; used = v }) xs)
  same_names u v [] a = tt
  same_names u v (x ∷ xs) a = (a.0, same_names u v xs a.1)

  own_otherwise : (u v : Use) (h : Shape) (xs : List Name) → NoneRefers (own_references u h xs) → NoneRefers (own_references v h xs)
  own_otherwise u v shape.Identifier xs a = same_names u v xs a
  own_otherwise u v h xs a = tt

  mutual
    unfolding references

    otherwise : (u v : Use) (t : Tree) → NoneRefers (references u t) → NoneRefers (references v t)
    otherwise u v (node h xs n ts) a =
        both_refs (own_references v h xs) (references_from (use_of h v) 0 ts) (own_otherwise u v h xs (first_refs (own_references u h xs) (references_from (use_of h u) 0 ts) a)) (all_otherwise (use_of h u) (use_of h v) 0 0 ts (last_refs (own_references u h xs) (references_from (use_of h u) 0 ts) a))

    all_otherwise : (us vs : ℕ → Use) (i j : ℕ) (ts : Trees) → NoneRefers (references_from us i ts) → NoneRefers (references_from vs j ts)
    all_otherwise us vs i j none a = tt
    all_otherwise us vs i j (t ▸ ts) a =
        both_refs (references (vs j) t) (references_from vs (suc j) ts) (otherwise (us i) (vs j) t (first_refs (references (us i) t) (references_from us (suc i) ts) a)) (all_otherwise us vs (suc i) (suc j) ts (last_refs (references (us i) t) (references_from us (suc i) ts) a))

  -- a tree, and trees, without a reference to the symbol
  abbrev pub Free : Tree → Type 0
  Free t = NoneRefers (references Read t)

  abbrev pub AllFree : Trees → Type 0
  AllFree ts = NoneRefers (references_from (λ i. Read) 0 ts)

  pub free_own : (h : Shape) (xs : List Name) (n : ℕ) (ts : Trees) → Free (node h xs n ts) → NoneRefers (own_references Read h xs)
  unfolding references
  free_own h xs n ts a = first_refs (own_references Read h xs) (references_from (use_of h Read) 0 ts) a

  pub free_kids : (h : Shape) (xs : List Name) (n : ℕ) (ts : Trees) → Free (node h xs n ts) → AllFree ts
  unfolding references
  free_kids h xs n ts a = all_otherwise (use_of h Read) (λ i. Read) 0 0 ts (last_refs (own_references Read h xs) (references_from (use_of h Read) 0 ts) a)

  pub free_first : (t : Tree) (ts : Trees) → AllFree (t ▸ ts) → Free t
  unfolding references
  free_first t ts a = first_refs (references Read t) (references_from (λ i. Read) 1 ts) a

  pub free_rest : (t : Tree) (ts : Trees) → AllFree (t ▸ ts) → AllFree ts
  unfolding references
  free_rest t ts a = all_otherwise (λ i. Read) (λ i. Read) 1 0 ts (last_refs (references Read t) (references_from (λ i. Read) 1 ts) a)

-- ---- items of other names

module _ (s : ℕ) where
  if_same : (b : Bool) (x y : Name) → name_if b x ≡ Some y → x ≡ y
  if_same true x y e = some_is x y e
  if_same false x y e = absurd (none_is y e)

  named_apart : (x y : Name) (b c : Bool) → x ≡ y → has_this_symbol s y ≡ false → (b || c) ≡ false → (b || (((has_this_symbol s x || false) || false) || c)) ≡ false
  named_apart x y true c e f i = absurd (true≢false i)
  named_apart x y false c e f i = ap (λ z. ((z || false) || false) || c) (ap (has_this_symbol s) e ∙ f) ∙ i

  -- an item of another name declares no more than its inside
  pub item_otherwise : (r : Role) (c : Tree) (y : Name) → item_name r c ≡ Some y → has_this_symbol s y ≡ false → declares_inside s c ≡ false → (p : Spot) → declares_otherwise s p c ≡ false
  unfolding declares_otherwise
  item_otherwise StatementList (node (shape.Function true g ds) xs n (node shape.BindingIdentifier (x ∷ []) m none ▸ ts)) y e f i p = named_apart x y (declares s (shape.Function true g ds) xs) (any_declares_otherwise s Plain 1 ts) (some_is x y e) f i
  item_otherwise (DeclaratorList lexical) (node shape.VariableDeclarator [] n (node shape.BindingIdentifier (x ∷ []) m none ▸ init ▸ none)) y e f i p = named_apart x y false (any_declares_otherwise s Plain 1 (init ▸ none)) (if_same (is_dispensable init) x y e) f i
  item_otherwise r c y e f i p = absurd (none_is y e)

-- ---- sets of symbols

abbrev pub of_set : (ℕ → Bool) → VariableSet
of_set S (Declared s) = S s
of_set S (Global y) = false

pub in_set : (S : ℕ → Bool) (x : Name) → has_name S x ≡ true → of_set S (variable_of x) ≡ true
in_set S x p = by x.symbol p
  where
    by : (o : Option SymbolId) → has_it S o ≡ true → of_set S (variable_by x.spelling o) ≡ true
    by (Some s) q = q
    by None q = absurd (true≢false (sym q))

-- the symbol is dead: the program has no reference to it, and items alone declare it
pub unreferred : (t : Tree) (s : ℕ) → is_dead_symbol t s ≡ true → Free s t
unreferred t s p =
    let counts = left (is_unreferenced t s) (not (declares_otherwise s Elsewhere t) && not (is_shared_always t (by_symbol s))) p in
    none_counted s (references Read t) (eqb-true (read_count s t) 0 (left (nat_eq (read_count s t) 0) (nat_eq (write_count s t) 0) counts)) (eqb-true (write_count s t) 0 (right (nat_eq (read_count s t) 0) (nat_eq (write_count s t) 0) counts))

pub not_otherwise : (t : Tree) (s : ℕ) → is_dead_symbol t s ≡ true → declares_otherwise s Elsewhere t ≡ false
not_otherwise t s p = by (declares_otherwise s Elsewhere t) (left (not (declares_otherwise s Elsewhere t)) (not (is_shared_always t (by_symbol s))) (right (is_unreferenced t s) _ p))
  where
    by : (b : Bool) → not b ≡ true → b ≡ false
    by true q = absurd (true≢false (sym q))
    by false q = refl

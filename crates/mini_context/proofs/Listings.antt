-- The walk that lists scopes, and the scope of each symbol.
use Rattle.std.specs.Prelude.{ℕ, zero, suc, ◌+◌, ◌≡◌, ◌≤◌, ◌<◌, refl, nat_eq, Bool, true, false, ◌&&◌, ◌||◌, List, [], ◌∷◌, ◌++◌, length, map, slice_index, if◌then◌else◌}
use Rattle.std.proofs.Common.{ap, ◌∙◌, sym, subst, arith, append_assoc}
use Rattle.std.proofs.lemmas.List.{append-nil, length-append}
use Rattle.std.proofs.lemmas.List.Folds.{list_any-append}
use Rattle.mini_model.specs.declared.name.Name.{Name}
use Rattle.mini_model.specs.declared.shape.Shape.{Shape}
use Rattle.mini_model.specs.Tree.{Tree, Trees, node, ◌▸◌, count, shape_of, children, child_or_absent, first_or_absent}
use Rattle.mini_node.specs.Children.{rest_children}
use Rattle.mini_node.specs.Walks.{next_child}
use Rattle.mini_laws.specs.declared.names.Use.{Use}
use Rattle.mini_laws.specs.declared.names.Binding.{Binding}
use Rattle.mini_laws.specs.Scopes.{use_of, opened}
use Rattle.mini_laws.specs.Strict.{is_strict_in}
use Rattle.mini_laws.specs.ScopeList.{Scope, by_symbol, seen_in, any_has_eval, entered, has_eval, is_eval_call, least_scopes, names_in, scope_list, scope_list_from, scope_from}
use Rattle.mini_scope.specs.ScopeAt.{scope_at}
use Rattle.mini_scope.specs.declared.opening.OpenScopes.{OpenScopes}
use Rattle.mini_context.specs.declared.listing.ScopeTables.{ScopeTables}
use Rattle.mini_context.specs.Tables.{named, Listed, Marked, Owned, OwnedBy}
use Rattle.mini_laws.specs.Mentions.{is_among, same_variable}
use Rattle.std.proofs.lemmas.Bool.{eqb-true}
use Rattle.mini_context.proofs.Enclosing.{and_left}
use Rattle.mini_context.proofs.Evals.{evals_step}
use Rattle.mini_context.proofs.Gathering.{Adds, Gathers, Until, turn}
use Rattle.mini_context.proofs.Marking.{marks_add}

map_both : {A B : Type 0} (f : A → B) (xs ys : List A) → map f (xs ++ ys) ≡ map f xs ++ map f ys
map_both f [] ys = refl
map_both f (x ∷ xs) ys = ap (λ r. f x ∷ r) (map_both f xs ys)

map_length : {A B : Type 0} (f : A → B) (xs : List A) → length (map f xs) ≡ length xs
map_length f [] = refl
map_length f (x ∷ xs) = ap suc (map_length f xs)

owner_both : (f k : ℕ) (xs ys : List Scope) (s : ℕ) → scope_from f k (xs ++ ys) s ≡ scope_from (scope_from f k xs s) (k + length xs) ys s
owner_both f k [] ys s = ap (λ j. scope_from f j ys s) (omega arith)
owner_both f k (x ∷ xs) ys s =
    let g = if is_among (by_symbol s) x.names then k else f in
    owner_both g (suc k) xs ys s ∙ ap (λ j. scope_from (scope_from g (suc k) xs s) j ys s) (omega arith)

owned_both : (k m : ℕ) (xs ys : List Scope) (a b c : List ℕ) → m ≡ k + length xs → Owned k xs a b → Owned m ys b c → Owned k (xs ++ ys) a c
owned_both k m xs ys a b c e f g = record {
  symbols = g.symbols ∙ f.symbols;
  each = λ s h.
      let within : s < length b = omega (arith, h, f.symbols) in
      g.each s within ∙ ap (λ o. scope_from o m ys s) (f.each s h) ∙ ap (λ j. scope_from (scope_from (slice_index a s) k xs s) j ys s) e ∙ sym (owner_both (slice_index a s) k xs ys s);
}

two : {A : Type 0} (a b c d e : List A) → b ≡ a ++ d → c ≡ b ++ e → c ≡ a ++ (d ++ e)
two a b c d e f g = g ∙ ap (λ r. r ++ e) f ∙ append_assoc a d e

flags_both : (f : Scope → Bool) (xs ys : List Scope) (a b c : List Bool) → b ≡ a ++ map f xs → c ≡ b ++ map f ys → c ≡ a ++ map f (xs ++ ys)
flags_both f xs ys a b c p q = two a b c (map f xs) (map f ys) p q ∙ ap (λ r. a ++ r) (sym (map_both f xs ys))

by_both : (b : Bool) (xs ys zs : List Name) → (if b then xs ++ (ys ++ zs) else (ys ++ zs)) ≡ (if b then xs ++ ys else ys) ++ zs
by_both true xs ys zs = sym (append_assoc xs ys zs)
by_both false xs ys zs = refl

seen_both : (xs ys : List Scope) → seen_in (xs ++ ys) ≡ seen_in xs ++ seen_in ys
seen_both [] ys = refl
seen_both (x ∷ xs) ys = ap (λ r. if x.evals then x.names ++ r else r) (seen_both xs ys) ∙ by_both x.evals x.names (seen_in xs) (seen_in ys)

listed_length : (xs : List Scope) (a b : ScopeTables) → Listed xs a b → length b.strict.items ≡ length a.strict.items + length xs
listed_length xs a b f = ap length f.stricts ∙ length-append a.strict.items (map (λ s. s.strict) xs) ∙ ap (λ n. length a.strict.items + n) (map_length (λ s. s.strict) xs)

pub lists_add : Adds Listed
lists_add = record {
  nothing = λ s. record {
    stricts = sym (append-nil s.strict.items);
    evals = sym (append-nil s.evals.items);
    owners = record { symbols = refl; each = λ k h. refl };
    seen = marks_add.nothing s.seen.items;
  };
  both = λ xs ys a b c f g. record {
    stricts = flags_both (λ s. s.strict) xs ys a.strict.items b.strict.items c.strict.items f.stricts g.stricts;
    evals = flags_both (λ s. s.evals) xs ys a.evals.items b.evals.items c.evals.items f.evals g.evals;
    owners = owned_both (length a.strict.items) (length b.strict.items) xs ys a.owners.items b.owners.items c.owners.items (listed_length xs a b f) f.owners g.owners;
    seen = subst (λ ns. Marked ns a.seen.items c.seen.items) (sym (seen_both xs ys)) (marks_add.both (seen_in xs) (seen_in ys) a.seen.items b.seen.items c.seen.items f.seen g.seen);
  };
}

-- ---- the scopes that are entered at once
entered_one : (l : ℕ) (bs : List Binding) (strict evals : Bool) → l ≤ 1 → (nat_eq l 0 && nat_eq (length bs) 0) ≡ false → entered l (record { names = names_in bs; strict = strict; evals = evals }) ≡ record { names = names_in bs; strict = strict; evals = evals } ∷ []
entered_one zero [] strict evals h e = absurd (cc e)
entered_one zero (b ∷ bs) strict evals h e = refl
entered_one (suc zero) bs strict evals h e = refl
entered_one (suc (suc l)) bs strict evals h e = absurd (omega arith)

entered_two : (l : ℕ) (bs : List Binding) (strict evals : Bool) → 1 < l → entered l (record { names = names_in bs; strict = strict; evals = evals }) ≡ record { names = []; strict = strict; evals = evals } ∷ (record { names = names_in bs; strict = strict; evals = evals } ∷ [])
entered_two zero bs strict evals h = absurd (omega arith)
entered_two (suc zero) bs strict evals h = absurd (omega arith)
entered_two (suc (suc l)) bs strict evals h = refl

pub lists_one : (l : ℕ) (bs : List Binding) (strict evals : Bool) (a b : ScopeTables) → l ≤ 1 → (nat_eq l 0 && nat_eq (length bs) 0) ≡ false → Listed (record { names = names_in bs; strict = strict; evals = evals } ∷ []) a b → Listed (entered l (record { names = names_in bs; strict = strict; evals = evals })) a b
lists_one l bs strict evals a b h e f = subst (λ ss. Listed ss a b) (sym (entered_one l bs strict evals h e)) f

pub lists_two : (l : ℕ) (bs none_of : List Binding) (strict evals : Bool) (a b c : ScopeTables) → 1 < l → none_of ≡ [] → Listed (record { names = names_in none_of; strict = strict; evals = evals } ∷ []) a b → Listed (record { names = names_in bs; strict = strict; evals = evals } ∷ []) b c → Listed (entered l (record { names = names_in bs; strict = strict; evals = evals })) a c
lists_two l bs none_of strict evals a b c h e f g =
    let first = subst (λ xs. Listed (record { names = names_in xs; strict = strict; evals = evals } ∷ []) a b) e f in
    subst (λ ss. Listed ss a c) (sym (entered_two l bs strict evals h)) (lists_add.both (record { names = []; strict = strict; evals = evals } ∷ []) (record { names = names_in bs; strict = strict; evals = evals } ∷ []) a b c first g)

-- no scope
no_more : (n : ℕ) → nat_eq (suc n) 0 ≡ true → ⊥
no_more n e = let same : suc n ≡ 0 = eqb-true (suc n) 0 e in absurd (omega (arith, same))

entered_none : (l : ℕ) (bs : List Binding) (strict evals : Bool) → (nat_eq l 0 && nat_eq (length bs) 0) ≡ true → entered l (record { names = names_in bs; strict = strict; evals = evals }) ≡ []
entered_none zero [] strict evals e = refl
entered_none zero (b ∷ bs) strict evals e = absurd (no_more (length bs) e)
entered_none (suc l) bs strict evals e = absurd (no_more l (and_left (nat_eq (suc l) 0) (nat_eq (length bs) 0) e))

pub lists_none : (l : ℕ) (bs : List Binding) (strict evals : Bool) (a : ScopeTables) → (nat_eq l 0 && nat_eq (length bs) 0) ≡ true → Listed (entered l (record { names = names_in bs; strict = strict; evals = evals })) a a
lists_none l bs strict evals a e = subst (λ ss. Listed ss a a) (sym (entered_none l bs strict evals e)) (lists_add.nothing a)

-- ---- what is given of a child: the scopes entered before it, and those in it
abbrev pub child_scopes : (ℕ → List Binding) → (ℕ → Use) → (ℕ → ℕ) → Bool → ℕ → Trees → List Scope
child_scopes scope uses least strict i us = entered (least i) (record { names = names_in (scope i); strict = strict; evals = any_has_eval us }) ++ scope_list (uses i) strict (first_or_absent us)

pub scopes_gather : (scope : ℕ → List Binding) (uses : ℕ → Use) (least : ℕ → ℕ) (strict : Bool) → Gathers (child_scopes scope uses least strict) (scope_list_from scope uses least strict)
unfolding scope_list
scopes_gather scope uses least strict = record {
  at_none = λ i. refl;
  at_more = λ i t ts. sym (append_assoc (entered (least i) (record { names = names_in (scope i); strict = strict; evals = any_has_eval (t ▸ ts) })) (scope_list (uses i) strict t) (scope_list_from scope uses least strict (suc i) ts));
}

pub opens : (u : Use) (strict : Bool) (t : Tree) (o : OpenScopes) (h : Shape) (b : Bool) (ts : Trees) (a c : ScopeTables) → scope_at o ≡ opened u (shape_of t) (children t) → h ≡ shape_of t → b ≡ is_strict_in strict h → ts ≡ children t → Listed (scope_list_from (scope_at o) (use_of h u) (least_scopes h) b 0 ts) a c → Listed (scope_list u strict t) a c
unfolding scope_list
opens u strict (node k xs n us) o h b ts a c e f g j l =
    let one = subst (λ s. Listed (scope_list_from s (use_of h u) (least_scopes h) b 0 ts) a c) e l in
    let two = subst (λ v. Listed (scope_list_from (opened u k us) (use_of h u) (least_scopes h) v 0 ts) a c) g one in
    let three = subst (λ v. Listed (scope_list_from (opened u k us) (use_of v u) (least_scopes v) (is_strict_in strict v) 0 ts) a c) f two in
    subst (λ v. Listed (scope_list_from (opened u k us) (use_of k u) (least_scopes k) (is_strict_in strict k) 0 v) a c) j three

-- where the loop over the children stands
pub record ListedTo (scope : ℕ → List Binding) (uses : ℕ → Use) (least : ℕ → ℕ) (strict : Bool) (ts : Trees) (i : ℕ) (o : OpenScopes) (start now : ScopeTables) : Type 0 where
  pub left : (k : ℕ) → i ≤ k → scope_at o k ≡ scope k
  pub so_far : Until Listed (scope_list_from scope uses least strict) ts i start now

pub child_listed : (scope : ℕ → List Binding) (uses : ℕ → Use) (least : ℕ → ℕ) (strict : Bool) (ts : Trees) (i : ℕ) (o o' : OpenScopes) (start now mid next : ScopeTables) (bs : List Binding) (l : ℕ) (u : Use) (t : Tree) →
    ListedTo scope uses least strict ts i o start now → i < count ts → bs ≡ scope_at o i → ((k : ℕ) → i < k → scope_at o' k ≡ scope_at o k) → l ≡ least i → u ≡ uses i → t ≡ child_or_absent ts i →
    Listed (entered l (record { names = names_in bs; strict = strict; evals = any_has_eval (rest_children i ts) })) now mid → Listed (scope_list u strict t) mid next → ListedTo scope uses least strict ts (i + 1) o' start next
child_listed scope uses least strict ts i o o' start now mid next bs l u t w h e1 e2 e3 e4 e5 f g =
    let rest = rest_children (suc i) ts in
    let here : rest_children i ts ≡ t ▸ rest = next_child ts i h ∙ ap (λ v. v ▸ rest) (sym e5) in
    let f1 = subst (λ b. Listed (entered l (record { names = names_in b; strict = strict; evals = any_has_eval (rest_children i ts) })) now mid) (e1 ∙ w.left i (omega arith)) f in
    let f2 = subst (λ k. Listed (entered k (record { names = names_in (scope i); strict = strict; evals = any_has_eval (rest_children i ts) })) now mid) e3 f1 in
    let f3 = subst (λ us. Listed (entered (least i) (record { names = names_in (scope i); strict = strict; evals = any_has_eval us })) now mid) here f2 in
    let g1 = subst (λ v. Listed (scope_list v strict t) mid next) e4 g in
    let step = lists_add.both (entered (least i) (record { names = names_in (scope i); strict = strict; evals = any_has_eval (t ▸ rest) })) (scope_list (uses i) strict t) now mid next f3 g1 in
    record {
      left = λ k j. e2 k (omega arith) ∙ w.left k (omega arith);
      so_far = turn Listed (child_scopes scope uses least strict) (scope_list_from scope uses least strict) lists_add (scopes_gather scope uses least strict) ts i t start now next h e5 step w.so_far;
    }

-- ---- the scope of a symbol

-- one scope more, which declares these names
pub scope_listed : (k : ℕ) (r : Scope) (old new : List ℕ) → OwnedBy k r.names old new → Owned k (r ∷ []) old new
scope_listed k r old new o = record { symbols = o.symbols; each = o.each }

owned_twice : (a b : Bool) (k o : ℕ) → (if b then k else (if a then k else o)) ≡ (if a || b then k else o)
owned_twice true true k o = refl
owned_twice true false k o = refl
owned_twice false b k o = refl

pub owners_add : (k : ℕ) → Adds (OwnedBy k)
owners_add k = record {
  nothing = λ s. record { symbols = refl; each = λ i h. refl };
  both = λ xs ys a b c f g. record {
    symbols = g.symbols ∙ f.symbols;
    each = λ s h.
        let within : s < length b = omega (arith, h, f.symbols) in
        g.each s within ∙ ap (λ o. if is_among (named s) ys then k else o) (f.each s h)
        ∙ owned_twice (is_among (named s) xs) (is_among (named s) ys) k (slice_index a s)
        ∙ ap (λ v. if v then k else slice_index a s) (sym (list_any-append (same_variable (named s)) xs ys));
  };
}

-- ---- direct evals

neither_first : (a b : Bool) → (a || b) ≡ false → a ≡ false
neither_first true b e = absurd (cc e)
neither_first false b e = refl

neither_second : (a b : Bool) → (a || b) ≡ false → b ≡ false
neither_second true b e = absurd (cc e)
neither_second false b e = e

pub none_in_child : (m : Bool) (ts : Trees) (i : ℕ) (t : Tree) → (m ≡ false → any_has_eval (rest_children i ts) ≡ false) → i < count ts → t ≡ child_or_absent ts i → m ≡ false → has_eval t ≡ false
none_in_child m ts i t f h e g = neither_first (has_eval t) (any_has_eval (rest_children (i + 1) ts)) (sym (evals_step ts i t h e) ∙ f g)

pub none_in_rest : (m : Bool) (ts : Trees) (i : ℕ) (t : Tree) → (m ≡ false → any_has_eval (rest_children i ts) ≡ false) → i < count ts → t ≡ child_or_absent ts i → m ≡ false → any_has_eval (rest_children (i + 1) ts) ≡ false
none_in_rest m ts i t f h e g = neither_second (has_eval t) (any_has_eval (rest_children (i + 1) ts)) (sym (evals_step ts i t h e) ∙ f g)

pub none_below : (m : Bool) (n : Tree) → (m ≡ false → has_eval n ≡ false) → m ≡ false → any_has_eval (children n) ≡ false
unfolding has_eval
none_below m (node h xs k ts) f g = neither_second (is_eval_call h ts) (any_has_eval ts) (f g)

-- A node keeps what its children keep.
use Rattle.std.specs.Prelude.{ℕ, zero, suc, ◌+◌, ◌≤◌, ◌≡◌, refl, ◌||◌, ◌&&◌, not, Bool, true, false, List, [], ◌∷◌, ◌++◌, Option, unwrap_or, if◌then◌else◌}
use Rattle.std.proofs.Common.{ap, ◌∙◌, sym, subst, arith, inl, inr, ◌⊎◌}
use Rattle.mini_model.specs.declared.name.Name.{Name}
use Rattle.mini_model.specs.declared.place.Position.{Position}
use Rattle.mini_model.specs.declared.shape.Shape.{Shape}
use Rattle.mini_model.specs.declared.shape.Shape.TheVariants as shape
use Rattle.mini_model.specs.Tree.{Tree, Trees, node, none, ◌▸◌, count, shape_of, child_or_absent}
use Rattle.mini_model.specs.Position.{child_position}
use Rattle.mini_laws.specs.declared.names.Use.{Use}
use Rattle.mini_laws.specs.declared.names.Binding.{Binding}
use Rattle.mini_laws.specs.declared.names.Declared.{Declared}
use Rattle.mini_laws.specs.declared.names.Declared.TheVariants as declared
use Rattle.mini_laws.specs.declared.names.Declaration.{Declaration}
use Rattle.mini_laws.specs.declared.names.Clash.{Clash}
use Rattle.mini_laws.specs.declared.names.Clash.TheVariants as clash
use Rattle.mini_laws.specs.declared.names.Jump.{Jump}
use Rattle.mini_laws.specs.declared.names.Jump.TheVariants as jump
use Rattle.mini_laws.specs.declared.names.Place.{Place}
use Rattle.mini_laws.specs.declared.names.Place.TheVariants as place
use Rattle.mini_laws.specs.declared.names.Turn.{Turn}
use Rattle.mini_laws.specs.declared.names.Turn.TheVariants as turn
use Rattle.mini_laws.specs.declared.names.Targets.{Targets}
use Rattle.mini_laws.specs.DeclaredNames.{place_of, names_by, names_of, first_names, all_names, is_statement_list, body_names, all_body_names, is_inner, has_inner, any_inner}
use Rattle.mini_laws.specs.Scopes.{use_of, opening_of, opened}
use Rattle.mini_laws.specs.Resolved.{Environment}
use Rattle.mini_laws.specs.Scoped.{Scoped, AllScoped}
use Rattle.mini_laws.specs.Symbols.{declared as declared_in, Within}
use Rattle.mini_laws.specs.Early.{Path, declarations, holds_statements, statement_declarations, body_declarations, all_body_declarations, is_pattern_shape, clash_of, at_child, in_body, children_of_node, in_param, in_block, declarations_by, scope_declarations, clashing, early_names, all_early_names, label_by, label_in, is_loop_shape, is_labeled, is_loop, last_is_loop, last_by, turn_of, label_for, turned, targets_of, jump_of, is_bad, is_bad_jump, early_jumps, all_early_jumps}
use Rattle.mini_kept.specs.Carried.{numbers, all_numbers, with_number}
use Rattle.mini_kept.specs.KeepsNames.{Stands, is_rewritten_place, NamesOnce, HasTargets, count_of}
use Rattle.mini_kept.specs.KeepsLoosely.{is_member, has_member, any_member, InnerKept, KeepsLoosely}
use Rattle.mini_kept.proofs.Bools.{or_second}
use Rattle.mini_kept.proofs.Unbracketed.{same_by, pattern_plain, label_plain}
use Rattle.mini_kept.specs.SameNames.{is_among, SameNames, SameScope, NoMoreClash}
use Rattle.mini_kept.proofs.Unplaced.{declared_same}
use Rattle.mini_kept.proofs.Clashes.{no_more_same, no_more_both, still_free}
use Rattle.mini_kept.proofs.SameScopes.{scope_both}
use Rattle.mini_kept.proofs.Statements.{same_both, statement_scope, no_more_hoisted, no_more_statement}
use Rattle.mini_kept.proofs.Initializers.{InitKept, own_kept}
use Rattle.mini_kept.proofs.LooseScopes.{AllKeep, AllStand, Merges, children_scoped, children_within}

-- ---- names

all_names_kept : (d : Declared) (π : ℕ → Position) (i : ℕ) (ts us : Trees) → ((p : Position) (t u : Tree) → KeepsLoosely p t u → names_of d u ≡ names_of d t) → AllKeep π i ts us → all_names d us ≡ all_names d ts
unfolding names_of
all_names_kept d π i none none f k = refl
all_names_kept d π i none (u ▸ us) f k = absurd k
all_names_kept d π i (t ▸ ts) none f k = absurd k
all_names_kept d π i (t ▸ ts) (u ▸ us) f k = λ j. f (π i) t u k.0 j ++ all_names_kept d π (suc i) ts us f k.1 j

pub all_bound : (π : ℕ → Position) (ts us : Trees) → AllKeep π 0 ts us → all_names declared.Bound us ≡ all_names declared.Bound ts
all_bound π ts us k = all_names_kept declared.Bound π 0 ts us (λ p t u w. w.bound) k

pub first_bound : (π : ℕ → Position) (ts us : Trees) → AllKeep π 0 ts us → first_names us ≡ first_names ts
unfolding names_of
first_bound π none none k = refl
first_bound π none (u ▸ us) k = absurd k
first_bound π (t ▸ ts) none k = absurd k
first_bound π (t ▸ ts) (u ▸ us) k = k.0.bound

bound_below : (h : Shape) (xs : List Name) (n : ℕ) (π : ℕ → Position) (ts us : Trees) → AllKeep π 0 ts us → names_of declared.Bound (node h xs n us) ≡ names_of declared.Bound (node h xs n ts)
unfolding names_of
bound_below h xs n π ts us k = λ j. names_by (place_of declared.Bound h) xs (first_bound π ts us k j) (all_bound π ts us k j) (all_bound π ts us k j)

lexical_below : (h : Shape) (xs : List Name) (n : ℕ) (π : ℕ → Position) (ts us : Trees) → AllKeep π 0 ts us → names_of declared.Lexical (node h xs n us) ≡ names_of declared.Lexical (node h xs n ts)
unfolding names_of
lexical_below h xs n π ts us k = λ j. names_by (place_of declared.Lexical h) xs (first_bound π ts us k j) (all_bound π ts us k j) (all_names_kept declared.Lexical π 0 ts us (λ p t u w. w.lexical) k j)

all_hoisted : (π : ℕ → Position) (i : ℕ) (ts us : Trees) → AllKeep π i ts us → SameNames (all_names declared.Hoisted us) (all_names declared.Hoisted ts)
unfolding names_of
all_hoisted π i none none k x = refl
all_hoisted π i none (u ▸ us) k x = absurd k
all_hoisted π i (t ▸ ts) none k x = absurd k
all_hoisted π i (t ▸ ts) (u ▸ us) k x = same_both (names_of declared.Hoisted u) (all_names declared.Hoisted us) (names_of declared.Hoisted t) (all_names declared.Hoisted ts) k.0.hoisted (all_hoisted π (suc i) ts us k.1) x

pub hoisted_by : (k : Place) (xs a a' b b' c c' : List Name) → a' ≡ a → b' ≡ b → SameNames c' c → SameNames (names_by k xs a' b' c') (names_by k xs a b c)
hoisted_by place.Here xs a a' b b' c c' e f g x = refl
hoisted_by place.FirstBound xs a a' b b' c c' e f g x = ap (λ ys. is_among ys x) e
hoisted_by place.Bound xs a a' b b' c c' e f g x = ap (λ ys. is_among ys x) f
hoisted_by place.Below xs a a' b b' c c' e f g x = g x
hoisted_by place.Nowhere xs a a' b b' c c' e f g x = refl

hoisted_below : (h : Shape) (xs : List Name) (n : ℕ) (π : ℕ → Position) (ts us : Trees) → AllKeep π 0 ts us → SameNames (names_of declared.Hoisted (node h xs n us)) (names_of declared.Hoisted (node h xs n ts))
unfolding names_of
hoisted_below h xs n π ts us k =
    hoisted_by (place_of declared.Hoisted h) xs (first_names ts) (first_names us) (all_names declared.Bound ts) (all_names declared.Bound us) (all_names declared.Hoisted ts) (all_names declared.Hoisted us) (first_bound π ts us k) (all_bound π ts us k) (all_hoisted π 0 ts us k)

abbrev AnyInnerKept : Trees → Trees → Type 0
AnyInnerKept ts us = (any_inner us ≡ any_inner ts) ⊎ (any_member ts ≡ true)

both_inner : (t u : Tree) (ts us : Trees) → InnerKept t u → AnyInnerKept ts us → AnyInnerKept (t ▸ ts) (u ▸ us)
unfolding has_inner
both_inner t u ts us (inl e) (inl f) = inl (λ j. e j || f j)
both_inner t u ts us (inr m) k = inr (ap (λ b. b || any_member ts) m)
both_inner t u ts us (inl e) (inr m) = inr (or_second (has_member t) (any_member ts) m)

any_inner_kept : (π : ℕ → Position) (i : ℕ) (ts us : Trees) → AllKeep π i ts us → AnyInnerKept ts us
unfolding has_inner
any_inner_kept π i none none k = inl refl
any_inner_kept π i none (u ▸ us) k = absurd k
any_inner_kept π i (t ▸ ts) none k = absurd k
any_inner_kept π i (t ▸ ts) (u ▸ us) k = both_inner t u ts us k.0.inner (any_inner_kept π (suc i) ts us k.1)

inner_by : (h : Shape) (xs : List Name) (n : ℕ) (ts us : Trees) (b : Bool) → is_inner h ≡ b → AnyInnerKept ts us → InnerKept (node h xs n ts) (node h xs n us)
unfolding has_inner
inner_by h xs n ts us true e k = inl (ap (λ b. b || any_inner us) e ∙ sym (ap (λ b. b || any_inner ts) e))
inner_by h xs n ts us false e (inl k) = inl (ap (λ b. is_inner h || b) k)
inner_by h xs n ts us false e (inr m) = inr (ap (λ b. not b && (is_member h || any_member ts)) e ∙ or_second (is_member h) (any_member ts) m)

inner_below : (h : Shape) (xs : List Name) (n : ℕ) (π : ℕ → Position) (ts us : Trees) → AllKeep π 0 ts us → InnerKept (node h xs n ts) (node h xs n us)
inner_below h xs n π ts us k = inner_by h xs n ts us (is_inner h) refl (any_inner_kept π 0 ts us k)

-- ---- the names of a body, and symbols

all_body_names_kept : (π : ℕ → Position) (sc : ℕ → List Binding) (vs : ℕ → Use) (i : ℕ) (env : Environment) (ts us : Trees) → AllKeep π i ts us → AllStand π vs i ts → AllScoped sc vs i env ts → SameScope (all_body_names us) (all_body_names ts)
unfolding body_names Scoped
all_body_names_kept π sc vs i env none none k s a r = refl
all_body_names_kept π sc vs i env none (u ▸ us) k s a r = absurd k
all_body_names_kept π sc vs i env (t ▸ ts) none k s a r = absurd k
all_body_names_kept π sc vs i env (t ▸ ts) (u ▸ us) k s a r =
    scope_both (body_names u) (all_body_names us) (body_names t) (all_body_names ts) (k.0.body (vs i) (env ++ sc i) s.0 a.0) (all_body_names_kept π sc vs (suc i) (env ++ sc i) ts us k.1 s.1 a.1) r

chosen_scope : (b : Bool) (xs ys xs' ys' : List Name) → SameScope xs xs' → SameScope ys ys' → SameScope (if b then xs else ys) (if b then xs' else ys')
chosen_scope true xs ys xs' ys' e f = e
chosen_scope false xs ys xs' ys' e f = f

body_names_below : (p : Position) (h : Shape) (xs : List Name) (n : ℕ) (ts us : Trees) (v : Use) (env : Environment) → AllKeep (child_position h p (count ts)) 0 ts us → AllStand (child_position h p (count ts)) (use_of h v) 0 ts → Scoped v env (node h xs n ts) → SameScope (body_names (node h xs n us)) (body_names (node h xs n ts))
unfolding body_names Scoped
body_names_below p h xs n ts us v env k s a =
    let π = child_position h p (count ts) in
    let t = node h xs n ts in
    let u = node h xs n us in
    chosen_scope (is_statement_list h) (all_body_names us) (names_of declared.Lexical u ++ names_of declared.Hoisted u) (all_body_names ts) (names_of declared.Lexical t ++ names_of declared.Hoisted t) (all_body_names_kept π (opened v h ts) (use_of h v) 0 env ts us k s a.1)
    (statement_scope v env t u a (lexical_below h xs n π ts us k) (hoisted_below h xs n π ts us k))

scoped_below : (p : Position) (h : Shape) (xs : List Name) (n : ℕ) (ts us : Trees) (v : Use) (env : Environment) → InitKept h ts us → Merges (opening_of v h) ts → AllKeep (child_position h p (count ts)) 0 ts us → AllStand (child_position h p (count ts)) (use_of h v) 0 ts → Scoped v env (node h xs n ts) → Scoped v env (node h xs n us)
unfolding Scoped
scoped_below p h xs n ts us v env i m k s a = (own_kept p h xs v env ts us k i a.0, children_scoped (opening_of v h) (child_position h p (count ts)) (use_of h v) env ts us m k s a.1)

symbols_below : (p : Position) (h : Shape) (xs : List Name) (n : ℕ) (ts us : Trees) (v : Use) (env : Environment) → Merges (opening_of v h) ts → AllKeep (child_position h p (count ts)) 0 ts us → AllStand (child_position h p (count ts)) (use_of h v) 0 ts → Scoped v env (node h xs n ts) → Within (declared_in v (node h xs n us)) (declared_in v (node h xs n ts))
unfolding Scoped declared_in
symbols_below p h xs n ts us v env m k s a x = children_within x (opening_of v h) (child_position h p (count ts)) (use_of h v) env ts us m k s a.1

-- ---- numbers

pub both_counts : (k : ℕ) (xs ys : List ℕ) → count_of k (xs ++ ys) ≡ count_of k xs + count_of k ys
both_counts k [] ys = omega arith
both_counts k (x ∷ xs) ys = omega (arith, both_counts k xs ys)

all_numbers_kept : (π : ℕ → Position) (i : ℕ) (ts us : Trees) → AllKeep π i ts us → (k : ℕ) → count_of k (all_numbers us) ≤ count_of k (all_numbers ts)
unfolding numbers
all_numbers_kept π i none none w k = omega arith
all_numbers_kept π i none (u ▸ us) w k = absurd w
all_numbers_kept π i (t ▸ ts) none w k = absurd w
all_numbers_kept π i (t ▸ ts) (u ▸ us) w k =
    omega (arith, w.0.numbers k, all_numbers_kept π (suc i) ts us w.1 k, both_counts k (numbers t) (all_numbers ts), both_counts k (numbers u) (all_numbers us))

with_same : (n : ℕ) (k : ℕ) (xs ys : List ℕ) → count_of k ys ≤ count_of k xs → count_of k (with_number n ys) ≤ count_of k (with_number n xs)
with_same zero k xs ys e = e
with_same (suc n) k xs ys e = omega (arith, e)

numbers_below : (h : Shape) (xs : List Name) (n : ℕ) (π : ℕ → Position) (ts us : Trees) → AllKeep π 0 ts us → (k : ℕ) → count_of k (numbers (node h xs n us)) ≤ count_of k (numbers (node h xs n ts))
unfolding numbers
numbers_below h xs n π ts us w k = with_same n k (all_numbers ts) (all_numbers us) (all_numbers_kept π 0 ts us w k)

-- ---- declarations

all_declared_as_body : (π : ℕ → Position) (j : ℕ) (ts us : Trees) → AllKeep π j ts us → (b : Bool) (q : Path) (i : ℕ) → NoMoreClash (all_body_declarations b q i us) (all_body_declarations b q i ts)
unfolding body_declarations
all_declared_as_body π j none none w b q i = no_more_same [] [] refl
all_declared_as_body π j none (u ▸ us) w b q i = absurd w
all_declared_as_body π j (t ▸ ts) none w b q i = absurd w
all_declared_as_body π j (t ▸ ts) (u ▸ us) w b q i =
    no_more_both (body_declarations b (q ++ i ∷ []) t) (body_declarations b (q ++ i ∷ []) u) (all_body_declarations b q (suc i) ts) (all_body_declarations b q (suc i) us) (w.0.declared_as_body b (q ++ i ∷ [])) (all_declared_as_body π (suc j) ts us w.1 b q (suc i))

chosen_declared : (b : Bool) (ds es ds' es' : List Declaration) → NoMoreClash es ds → NoMoreClash es' ds' → NoMoreClash (if b then es else es') (if b then ds else ds')
chosen_declared true ds es ds' es' e f = e
chosen_declared false ds es ds' es' e f = f

as_body_below : (h : Shape) (xs : List Name) (n : ℕ) (π : ℕ → Position) (ts us : Trees) → AllKeep π 0 ts us → (b : Bool) (q : Path) → NoMoreClash (body_declarations b q (node h xs n us)) (body_declarations b q (node h xs n ts))
unfolding body_declarations
as_body_below h xs n π ts us w b q =
    chosen_declared (holds_statements h) (all_body_declarations b q 0 ts) (all_body_declarations b q 0 us) (statement_declarations b q (node h xs n ts)) (statement_declarations b q (node h xs n us)) (all_declared_as_body π 0 ts us w b q 0)
    (no_more_statement b q q (node h xs n ts) (node h xs n us) refl (lexical_below h xs n π ts us w) (hoisted_below h xs n π ts us w))

-- ---- a child at an index

pub keeps_itself : (p : Position) (t : Tree) → KeepsLoosely p t t
keeps_itself p t = record {
  bound = refl;
  lexical = refl;
  hoisted = λ x. refl;
  body = λ v env s a r. refl;
  inner = inl refl;
  scoped = λ v env s a. a;
  symbols = λ v env s a x. omega arith;
  numbers = λ k. omega arith;
  declared_as_body = λ b q. no_more_same (body_declarations b q t) (body_declarations b q t) refl;
  once = λ q o. o;
  targets = λ a q o. o;
  loop = refl;
  root = λ e. refl;
  block = λ e b q. no_more_same (in_body b q (children_of_node t) 0) (in_body b q (children_of_node t) 0) refl;
}

child_keeps : (π : ℕ → Position) (j : ℕ) (ts us : Trees) → AllKeep π j ts us → (i : ℕ) → KeepsLoosely (π (j + i)) (child_or_absent ts i) (child_or_absent us i)
child_keeps π j none none w i = keeps_itself (π (j + i)) (child_or_absent none i)
child_keeps π j none (u ▸ us) w i = absurd w
child_keeps π j (t ▸ ts) none w i = absurd w
child_keeps π j (t ▸ ts) (u ▸ us) w zero = subst (λ m. KeepsLoosely (π m) t u) (omega arith) w.0
child_keeps π j (t ▸ ts) (u ▸ us) w (suc i) = subst (λ m. KeepsLoosely (π m) (child_or_absent ts i) (child_or_absent us i)) (omega arith) (child_keeps π (suc j) ts us w.1 i)

child_at : (π : ℕ → Position) (ts us : Trees) → AllKeep π 0 ts us → (i : ℕ) → KeepsLoosely (π i) (child_or_absent ts i) (child_or_absent us i)
child_at π ts us w i = subst (λ m. KeepsLoosely (π m) (child_or_absent ts i) (child_or_absent us i)) (omega arith) (child_keeps π 0 ts us w i)

block_below : (h : Shape) (xs : List Name) (n : ℕ) (π : ℕ → Position) (ts us : Trees) → AllKeep π 0 ts us → (b : Bool) (q : Path) → NoMoreClash (in_body b q (children_of_node (node h xs n us)) 0) (in_body b q (children_of_node (node h xs n ts)) 0)
block_below h xs n π ts us w b q = (child_at π ts us w 0).declared_as_body b (q ++ 0 ∷ [])

-- ---- names that are declared twice

pub empty_both : {A : Type 0} (xs ys : List A) → xs ++ ys ≡ [] → (xs ≡ []) × (ys ≡ [])
empty_both [] ys e = (refl, e)
empty_both (x ∷ xs) ys e = absurd (cc e)

pub both_empty : {A : Type 0} (xs ys : List A) → xs ≡ [] → ys ≡ [] → xs ++ ys ≡ []
both_empty xs ys e f = ap (λ r. r ++ ys) e ∙ f

catch_places : (h : Shape) (p : Position) (n : ℕ) (i : ℕ) → clash_of h ≡ clash.Catch → is_rewritten_place (child_position h p n i) ≡ false
catch_places shape.CatchClause p n i e = refl
catch_places h p n i e = absurd (cc e)

same_bound : (d : Declared) (l : Bool) (q : Path) (p : Position) (t u : Tree) → names_of d u ≡ names_of d t → NoMoreClash (declarations d l q u) (declarations d l q t)
same_bound d l q p t u e = no_more_same (declarations d l q t) (declarations d l q u) (declared_same d l q q t u e)

scope_below : (c : Clash) (π : ℕ → Position) → (c ≡ clash.Catch → (i : ℕ) → is_rewritten_place (π i) ≡ false) → (ts us : Trees) → AllKeep π 0 ts us → (q : Path) → NoMoreClash (declarations_by c q us) (declarations_by c q ts)
scope_below clash.Nothing π still ts us w q = no_more_same [] [] refl
scope_below (clash.Body b) π still ts us w q = (child_at π ts us w 0).declared_as_body b (q ++ 0 ∷ [])
scope_below (clash.Function i j) π still ts us w q =
    no_more_both (at_child declared.Bound false q ts i) (at_child declared.Bound false q us i) (in_body true q ts j) (in_body true q us j)
    (same_bound declared.Bound false (q ++ i ∷ []) (π i) (child_or_absent ts i) (child_or_absent us i) (child_at π ts us w i).bound) ((child_at π ts us w j).declared_as_body true (q ++ j ∷ []))
scope_below clash.Switch π still ts us w q = (child_at π ts us w 1).declared_as_body false (q ++ 1 ∷ [])
scope_below clash.Catch π still ts us w q =
    let param = child_at π ts us w 0 in
    let l = is_pattern_shape (shape_of (child_or_absent ts 0)) in
    no_more_both (in_param q ts) (in_param q us) (in_block q ts) (in_block q us)
    (subst (λ b. NoMoreClash (at_child declared.Bound b q us 0) (in_param q ts)) (sym (same_by is_pattern_shape pattern_plain (shape_of (child_or_absent us 0)) (shape_of (child_or_absent ts 0)) (param.root (still refl 0)))) (same_bound declared.Bound l (q ++ 0 ∷ []) (π 0) (child_or_absent ts 0) (child_or_absent us 0) param.bound))
    ((child_at π ts us w 1).block (still refl 1) false (q ++ 1 ∷ []))
scope_below (clash.Loop i) π still ts us w q =
    no_more_both (at_child declared.Lexical true q ts 0) (at_child declared.Lexical true q us 0) (at_child declared.Hoisted false q ts i) (at_child declared.Hoisted false q us i)
    (same_bound declared.Lexical true (q ++ 0 ∷ []) (π 0) (child_or_absent ts 0) (child_or_absent us 0) (child_at π ts us w 0).lexical)
    (no_more_hoisted (q ++ i ∷ []) (q ++ i ∷ []) (child_or_absent ts i) (child_or_absent us i) (child_at π ts us w i).hoisted)

all_once : (π : ℕ → Position) (j : ℕ) (ts us : Trees) → AllKeep π j ts us → (q : Path) (i : ℕ) → all_early_names q i ts ≡ [] → all_early_names q i us ≡ []
unfolding early_names
all_once π j none none w q i e = refl
all_once π j none (u ▸ us) w q i e = absurd w
all_once π j (t ▸ ts) none w q i e = absurd w
all_once π j (t ▸ ts) (u ▸ us) w q i e =
    let (own, rest) = empty_both (early_names (q ++ i ∷ []) t) (all_early_names q (suc i) ts) e in
    both_empty (early_names (q ++ i ∷ []) u) (all_early_names q (suc i) us) (w.0.once (q ++ i ∷ []) own) (all_once π (suc j) ts us w.1 q (suc i) rest)

once_below : (p : Position) (h : Shape) (xs : List Name) (n : ℕ) (ts us : Trees) → AllKeep (child_position h p (count ts)) 0 ts us → (q : Path) → NamesOnce q (node h xs n ts) → NamesOnce q (node h xs n us)
unfolding early_names scope_declarations
once_below p h xs n ts us w q e =
    let (own, rest) = empty_both (clashing [] (declarations_by (clash_of h) q ts)) (all_early_names q 0 ts) e in
    both_empty (clashing [] (declarations_by (clash_of h) q us)) (all_early_names q 0 us)
    (still_free (declarations_by (clash_of h) q ts) (declarations_by (clash_of h) q us) (scope_below (clash_of h) (child_position h p (count ts)) (λ c i. catch_places h p (count ts) i c) ts us w q) own)
    (all_once (child_position h p (count ts)) 0 ts us w q 0 rest)

-- ---- jumps

last_loop : (π : ℕ → Position) (j : ℕ) (b c : Bool) (ts us : Trees) → AllKeep π j ts us → c ≡ b → last_by c us ≡ last_by b ts
unfolding is_loop
last_loop π j b c none none w e = e
last_loop π j b c none (u ▸ us) w e = absurd w
last_loop π j b c (t ▸ ts) none w e = absurd w
last_loop π j b c (t ▸ ts) (u ▸ us) w e = last_loop π (suc j) (is_loop t) (is_loop u) ts us w.1 w.0.loop

some_loop : (π : ℕ → Position) (ts us : Trees) → AllKeep π 0 ts us → last_is_loop us ≡ last_is_loop ts
unfolding is_loop
some_loop π none none w = refl
some_loop π none (u ▸ us) w = absurd w
some_loop π (t ▸ ts) none w = absurd w
some_loop π (t ▸ ts) (u ▸ us) w = last_loop π 1 (is_loop t) (is_loop u) ts us w.1 w.0.loop

loop_below : (h : Shape) (xs : List Name) (n : ℕ) (π : ℕ → Position) (ts us : Trees) → AllKeep π 0 ts us → is_loop (node h xs n us) ≡ is_loop (node h xs n ts)
unfolding is_loop
loop_below h xs n π ts us w = ap (λ b. if is_labeled h then b else is_loop_shape h) (some_loop π ts us w)

no_label : (h : Shape) → (jump_of h ≡ jump.Return) ⊎ (jump_of h ≡ jump.Yield) → is_labeled h ≡ false
no_label shape.LabeledStatement (inl e) = absurd (cc e)
no_label shape.LabeledStatement (inr e) = absurd (cc e)
no_label h e = refl

-- where a label is read nothing is rewritten
label_places : (h : Shape) (p : Position) (n : ℕ) → (jump_of h ≡ jump.Nothing) × (is_labeled h ≡ false) ⊎ ((jump_of h ≡ jump.Return) ⊎ (jump_of h ≡ jump.Yield)) ⊎ (is_rewritten_place (child_position h p n 0) ≡ false)
label_places shape.BreakStatement p n = inr (inr refl)
label_places shape.ContinueStatement p n = inr (inr refl)
label_places shape.LabeledStatement p n = inr (inr refl)
label_places shape.ReturnStatement p n = inr (inl (inl refl))
label_places (shape.YieldExpression delegate) p n = inr (inl (inr refl))
label_places h p n = inl (refl, refl)

label_same : (π : ℕ → Position) (ts us : Trees) → AllKeep π 0 ts us → is_rewritten_place (π 0) ≡ false → label_in us ≡ label_in ts
label_same π ts us w e = same_by label_by label_plain (shape_of (child_or_absent us 0)) (shape_of (child_or_absent ts 0)) ((child_at π ts us w 0).root e)

bad_by : (j : Jump) (a : Targets) (l m : Option (List ℕ)) → (j ≡ jump.Nothing) ⊎ ((j ≡ jump.Return) ⊎ (j ≡ jump.Yield)) ⊎ (m ≡ l) → is_bad j m a ≡ is_bad j l a
bad_by j a l m (inl e) = ap (λ k. is_bad k m a) e ∙ sym (ap (λ k. is_bad k l a) e)
bad_by j a l m (inr (inl (inl e))) = ap (λ k. is_bad k m a) e ∙ sym (ap (λ k. is_bad k l a) e)
bad_by j a l m (inr (inl (inr e))) = ap (λ k. is_bad k m a) e ∙ sym (ap (λ k. is_bad k l a) e)
bad_by j a l m (inr (inr e)) = ap (λ k. is_bad j k a) e

bad_same : (p : Position) (h : Shape) (ts us : Trees) → AllKeep (child_position h p (count ts)) 0 ts us → (a : Targets) → is_bad_jump h us a ≡ is_bad_jump h ts a
bad_same p h ts us w a = bad_by (jump_of h) a (label_in ts) (label_in us) (so (label_places h p (count ts)))
  where
    so : (jump_of h ≡ jump.Nothing) × (is_labeled h ≡ false) ⊎ ((jump_of h ≡ jump.Return) ⊎ (jump_of h ≡ jump.Yield)) ⊎ (is_rewritten_place (child_position h p (count ts) 0) ≡ false) → (jump_of h ≡ jump.Nothing) ⊎ ((jump_of h ≡ jump.Return) ⊎ (jump_of h ≡ jump.Yield)) ⊎ (label_in us ≡ label_in ts)
    so (inl x) = inl x.0
    so (inr (inl x)) = inr (inl x)
    so (inr (inr x)) = inr (inr (label_same (child_position h p (count ts)) ts us w x))

labeled_turn : (h : Shape) (i : ℕ) → is_labeled h ≡ false → turn_of h i ≡ turn.Labeled → ⊥
labeled_turn shape.LabeledStatement i e f = cc e
labeled_turn shape.WhileStatement zero e f = cc f
labeled_turn shape.WhileStatement (suc i) e f = cc f
labeled_turn shape.DoWhileStatement zero e f = cc f
labeled_turn shape.DoWhileStatement (suc i) e f = cc f
labeled_turn shape.ForStatement zero e f = cc f
labeled_turn shape.ForStatement (suc zero) e f = cc f
labeled_turn shape.ForStatement (suc (suc zero)) e f = cc f
labeled_turn shape.ForStatement (suc (suc (suc i))) e f = cc f
labeled_turn shape.ForInStatement zero e f = cc f
labeled_turn shape.ForInStatement (suc zero) e f = cc f
labeled_turn shape.ForInStatement (suc (suc i)) e f = cc f
labeled_turn shape.ForOfStatement zero e f = cc f
labeled_turn shape.ForOfStatement (suc zero) e f = cc f
labeled_turn shape.ForOfStatement (suc (suc i)) e f = cc f
labeled_turn shape.SwitchStatement zero e f = cc f
labeled_turn shape.SwitchStatement (suc i) e f = cc f
labeled_turn (shape.PropertyDefinition computed is_static) zero e f = cc f
labeled_turn (shape.PropertyDefinition computed is_static) (suc i) e f = cc f
labeled_turn h i e f = cc f

turned_by : (x : Turn) (a : Targets) (ts us : Trees) → (x ≡ turn.Labeled → label_for us ≡ label_for ts) → turned x us a ≡ turned x ts a
turned_by turn.Labeled a ts us e = ap (λ l. record a { labels = a.labels ++ l ∷ [] }) (e refl)
turned_by x a ts us e = refl

label_kept : (π : ℕ → Position) (ts us : Trees) → AllKeep π 0 ts us → is_rewritten_place (π 0) ≡ false → label_for us ≡ label_for ts
label_kept π ts us w e = ap (λ l. record { name = unwrap_or l []; is_loop = is_loop (child_or_absent us 1) }) (label_same π ts us w e) ∙ ap (λ b. record { name = unwrap_or (label_in ts) []; is_loop = b }) (child_at π ts us w 1).loop

targets_same : (p : Position) (h : Shape) (ts us : Trees) → AllKeep (child_position h p (count ts)) 0 ts us → (a : Targets) (i : ℕ) → targets_of h us a i ≡ targets_of h ts a i
unfolding targets_of
targets_same p h ts us w a i = turned_by (turn_of h i) a ts us (λ f. so f (label_places h p (count ts)))
  where
    so : turn_of h i ≡ turn.Labeled → (jump_of h ≡ jump.Nothing) × (is_labeled h ≡ false) ⊎ ((jump_of h ≡ jump.Return) ⊎ (jump_of h ≡ jump.Yield)) ⊎ (is_rewritten_place (child_position h p (count ts) 0) ≡ false) → label_for us ≡ label_for ts
    so f (inl x) = absurd (labeled_turn h i x.1 f)
    so f (inr (inl x)) = absurd (labeled_turn h i (no_label h x) f)
    so f (inr (inr x)) = label_kept (child_position h p (count ts)) ts us w x

all_targets : (π : ℕ → Position) (j : ℕ) (ts us : Trees) → AllKeep π j ts us → (ta tb : ℕ → Targets) → ((i : ℕ) → tb i ≡ ta i) → (q : Path) (i : ℕ) → all_early_jumps ta q i ts ≡ [] → all_early_jumps tb q i us ≡ []
unfolding early_jumps
all_targets π j none none w ta tb same q i e = refl
all_targets π j none (u ▸ us) w ta tb same q i e = absurd w
all_targets π j (t ▸ ts) none w ta tb same q i e = absurd w
all_targets π j (t ▸ ts) (u ▸ us) w ta tb same q i e =
    let (own, rest) = empty_both (early_jumps (ta i) (q ++ i ∷ []) t) (all_early_jumps ta q (suc i) ts) e in
    both_empty (early_jumps (tb i) (q ++ i ∷ []) u) (all_early_jumps tb q (suc i) us)
    (subst (λ a. early_jumps a (q ++ i ∷ []) u ≡ []) (sym (same i)) (w.0.targets (ta i) (q ++ i ∷ []) own))
    (all_targets π (suc j) ts us w.1 ta tb same q (suc i) rest)

targets_below : (p : Position) (h : Shape) (xs : List Name) (n : ℕ) (ts us : Trees) → AllKeep (child_position h p (count ts)) 0 ts us → (a : Targets) (q : Path) → HasTargets a q (node h xs n ts) → HasTargets a q (node h xs n us)
unfolding early_jumps
targets_below p h xs n ts us w a q e =
    let (own, rest) = empty_both (if is_bad_jump h ts a then q ∷ [] else []) (all_early_jumps (targets_of h ts a) q 0 ts) e in
    both_empty (if is_bad_jump h us a then q ∷ [] else []) (all_early_jumps (targets_of h us a) q 0 us)
    (ap (λ b. if b then q ∷ [] else []) (bad_same p h ts us w a) ∙ own)
    (all_targets (child_position h p (count ts)) 0 ts us w (targets_of h ts a) (targets_of h us a) (targets_same p h ts us w a) q 0 rest)

-- ---- all of it

pub keeps_below : (p : Position) (h : Shape) (xs : List Name) (n : ℕ) (ts us : Trees) → InitKept h ts us → ((v : Use) → Merges (opening_of v h) ts) → AllKeep (child_position h p (count ts)) 0 ts us → ((v : Use) → Stands p v (node h xs n ts) → AllStand (child_position h p (count ts)) (use_of h v) 0 ts) → KeepsLoosely p (node h xs n ts) (node h xs n us)
keeps_below p h xs n ts us i m w stand =
    let π = child_position h p (count ts) in
    record {
      bound = bound_below h xs n π ts us w;
      lexical = lexical_below h xs n π ts us w;
      hoisted = hoisted_below h xs n π ts us w;
      body = λ v env s a. body_names_below p h xs n ts us v env w (stand v s) a;
      inner = inner_below h xs n π ts us w;
      scoped = λ v env s a. scoped_below p h xs n ts us v env i (m v) w (stand v s) a;
      symbols = λ v env s a. symbols_below p h xs n ts us v env (m v) w (stand v s) a;
      numbers = numbers_below h xs n π ts us w;
      declared_as_body = as_body_below h xs n π ts us w;
      once = once_below p h xs n ts us w;
      targets = targets_below p h xs n ts us w;
      loop = loop_below h xs n π ts us w;
      root = λ e. refl;
      block = λ e b q. block_below h xs n π ts us w b q;
    }

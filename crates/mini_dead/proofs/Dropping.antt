-- What a program does from which dead items go.
use Rattle.std.proofs.Common.{◌≡◌, ℕ, zero, suc, Bool, true, false, List, [], ◌∷◌, ◌++◌, Option, Some, None, refl, sym, ap, ◌∙◌, subst, true≢false, eq-eqb, inl, inr, arith}
use Rattle.std.specs.Prelude.{◌+◌, ◌≤◌, not, ◌&&◌, ◌||◌, is_some, if◌then◌else◌}
use Rattle.mini_model.specs.declared.name.Name.{Name}
use Rattle.mini_model.specs.declared.name.SymbolId.{SymbolId}
use Rattle.mini_model.specs.declared.shape.Shape.{Shape}
use Rattle.mini_model.specs.declared.shape.Shape.TheVariants as shape
use Rattle.mini_model.specs.Tree.{Tree, Trees, node, none, ◌▸◌}
use Rattle.mini_laws.specs.Value.{Variable, Declared, VariableSet, variable_by, variable_of, variables, variable_eq, choose, is_in}
use Rattle.mini_laws.specs.State.{Environment}
use Rattle.mini_laws.specs.Naming.{is_lexical}
use Rattle.mini_laws.specs.Writable.{mentions, any_mentions}
use Rattle.mini_laws.specs.Congruence.{Avoids, AllAvoid}
use Rattle.mini_laws.specs.Bodies.{Body, bodies_in}
use Rattle.mini_kept.specs.Carried.{with_number, numbers, all_numbers}
use Rattle.mini_dead.specs.Creations.{FunctionSet}
use Rattle.mini_dead.specs.Pruned.{Spot, Elsewhere, Role, DeclaratorList, role, spot_below, Initializer, without_effect, of_function, initializer_tree, own_name, Declarator, declarator, declarator_tree, declarator_trees, item_tree, Item, function_item, declaration_item, lone_item, Pruned, prune, Prunings, end, stays, goes, declarator_goes, earlier, earlier_all, later, later_all, HoldsDeclarators, AnyDeclarator, InitializerGoes, TakesValue, DeclaratorGoes, DeclaratorsGo, ItemGoes, Prunes, PrunesAll}
use Rattle.mini_dead.specs.PrunedBodies.{MayWrite, BodiesWithout}
use Rattle.mini_dead.specs.Dead.{has_it, has_name}
use Rattle.mini_dead.specs.Drops.{lost_from, is_unseen, declarator_name, declarator_names, item_names, gone_names, all_gone_names, gone, InitializerIsDead, DeclaratorIsDead, DeclaratorsAreDead, ItemIsDead, DropsDead, AllDropDead, gone_from, times_in, NumbersOnce}
use Rattle.mini_dead.proofs.Effects.{without_effect_still}
use Rattle.mini_dead.proofs.Lean.{same_variables}
use Rattle.mini_dead.proofs.Avoiding.{unnamed_in, itself}
use Rattle.mini_dead.proofs.Numbers as number
use Rattle.mini_dead.proofs.Numbers.{Numbered, initializer_functions, declarator_functions, declarators_functions, item_functions, gone_functions, all_gone_functions, fits_numbered}
use Rattle.mini_dead.proofs.PrunedBodies.{pruned_program}

-- ---- a test that holds of each of a list

abbrev pub Each : {A : Type 0} → (A → Bool) → List A → Type 0
Each f [] = Unit {0}
Each f (x ∷ xs) = (f x ≡ true) × Each f xs

pub first_part : {A : Type 0} (f : A → Bool) (xs ys : List A) → Each f (xs ++ ys) → Each f xs
first_part f [] ys a = tt
first_part f (x ∷ xs) ys a = (a.0, first_part f xs ys a.1)

pub last_part : {A : Type 0} (f : A → Bool) (xs ys : List A) → Each f (xs ++ ys) → Each f ys
last_part f [] ys a = a
last_part f (x ∷ xs) ys a = last_part f xs ys a.1

pub both_parts : {A : Type 0} (f : A → Bool) (xs ys : List A) → Each f xs → Each f ys → Each f (xs ++ ys)
both_parts f [] ys a b = b
both_parts f (x ∷ xs) ys a b = (a.0, both_parts f xs ys a.1 b)

-- of the numbers that stand in a list
each_counted : (f : ℕ → Bool) (ks : List ℕ) → ((n : ℕ) → 1 ≤ times_in n ks → f n ≡ true) → Each f ks
each_counted f [] h = tt
each_counted f (k ∷ ks) h = (h k (omega (arith, ap (λ b. (if b then 1 else 0) + times_in k ks) (eq-eqb k k refl))), each_counted f ks (λ n m. h n (omega (arith, m))))

-- of the names whose variable stands in a list
later_name : (y x : Variable) (xs : List Variable) → is_in y xs ≡ true → is_in y (x ∷ xs) ≡ true
later_name y x xs p = by (variable_eq x y)
  where
    by : (b : Bool) → choose b true (is_in y xs) ≡ true
    by true = refl
    by false = p

pub each_name : (f : Name → Bool) (xs : List Name) → ((x : Name) → is_in (variable_of x) (variables xs) ≡ true → f x ≡ true) → Each f xs
each_name f [] h = tt
each_name f (x ∷ xs) h = (h x (ap (λ b. choose b true (is_in (variable_of x) (variables xs))) (itself (variable_of x))), each_name f xs (λ y p. h y (later_name (variable_of y) (variable_of x) (variables xs) p)))

-- ---- what may go goes

abbrev pub named : VariableSet → Name → Bool
named D x = D (variable_of x)

abbrev kept : FunctionSet → ℕ → Bool
kept d n = not (d n)

not_true : (b : Bool) → not b ≡ true → b ≡ false
not_true true p = absurd (true≢false (sym p))
not_true false p = refl

module _ (t : Tree) (D : VariableSet) (rounds : ℕ → ℕ) (d : FunctionSet) (never : d 0 ≡ false) (e : Environment) (may : MayWrite D e) where
  takes : (lexical : Bool) (x : Variable) → D x ≡ true → TakesValue d D e lexical x
  takes true x p = tt
  takes false x p = may x p

  initializer_goes : (i : Initializer) → InitializerIsDead i → Each d (initializer_functions i) → InitializerGoes d D e i
  initializer_goes (without_effect c) a f = λ s. without_effect_still e c a s
  initializer_goes (of_function v) a f = f.0

  declarator_is_gone : (lexical : Bool) (c : Declarator) → DeclaratorIsDead t D rounds c → D (variable_of (declarator_name c)) ≡ true → Each d (declarator_functions c) → DeclaratorGoes d D e lexical c
  declarator_is_gone lexical (declarator n x m init) a p f = (p, takes lexical (variable_of x) p, initializer_goes init a.1 f)

  declarators_are_gone : (lexical : Bool) (cs : List Declarator) → DeclaratorsAreDead t D rounds cs → Each (named D) (declarator_names cs) → Each d (declarators_functions cs) → DeclaratorsGo d D e lexical cs
  declarators_are_gone lexical [] a p f = tt
  declarators_are_gone lexical (c ∷ cs) a p f =
      (declarator_is_gone lexical c a.0 p.0 (first_part d (declarator_functions c) (declarators_functions cs) f), declarators_are_gone lexical cs a.1 p.1 (last_part d (declarator_functions c) (declarators_functions cs) f))

  item_is_gone : (i : Item) → ItemIsDead t D rounds i → Each (named D) (item_names i) → Each d (item_functions i) → ItemGoes d D e i
  item_is_gone (function_item g ds xs n x m ts) a p f = (f.0, p.0)
  item_is_gone (declaration_item k xs n ys m c cs) a p f = declarators_are_gone (is_lexical k) (c ∷ cs) a p f
  item_is_gone (lone_item xs n v) a p f = f.0

  any_declarator : (r : Role) (c : Declarator) → HoldsDeclarators r → ((lexical : Bool) → DeclaratorGoes d D e lexical c) → AnyDeclarator d D e r c
  any_declarator (DeclaratorList lexical) c h a = a lexical
  any_declarator r c h a = absurd h

  number_kept : (n : ℕ) (ks : List ℕ) → Each (kept d) (with_number n ks) → (d n ≡ false) × Each (kept d) ks
  number_kept zero ks a = (never, a)
  number_kept (suc n) ks a = (not_true (d (suc n)) a.0, a.1)

  mutual
    unfolding numbers

    prunes : (p : Spot) (x : Pruned) → DropsDead t D rounds p x → Avoids D (later x) → Each (named D) (gone_names x) → Each d (gone_functions x) → Each (kept d) (numbers (later x)) → Prunes d D e p x
    prunes p (prune h xs n ps) a v m f k =
        let own = number_kept n (all_numbers (later_all ps)) k in
        (v.0, own.0, prunes_all (role h p) 0 ps a.1 v.1 m f own.1)

    prunes_all : (r : Role) (i : ℕ) (ps : Prunings) → AllDropDead t D rounds r i ps → AllAvoid D (later_all ps) → Each (named D) (all_gone_names ps) → Each d (all_gone_functions ps) → Each (kept d) (all_numbers (later_all ps)) → PrunesAll d D e r i ps
    prunes_all r i end a v m f k = tt
    prunes_all r i (stays x ps) a v m f k = (
      prunes (spot_below r i) x a.0 v.0 (first_part (named D) (gone_names x) (all_gone_names ps) m) (first_part d (gone_functions x) (all_gone_functions ps) f) (first_part (kept d) (numbers (later x)) (all_numbers (later_all ps)) k),
      prunes_all r (suc i) ps a.1 v.1 (last_part (named D) (gone_names x) (all_gone_names ps) m) (last_part d (gone_functions x) (all_gone_functions ps) f) (last_part (kept d) (numbers (later x)) (all_numbers (later_all ps)) k),
    )
    prunes_all r i (goes c ps) a v m f k =
        (a.0, item_is_gone c a.1 (first_part (named D) (item_names c) (all_gone_names ps) m) (first_part d (item_functions c) (all_gone_functions ps) f), prunes_all r (suc i) ps a.2 v (last_part (named D) (item_names c) (all_gone_names ps) m) (last_part d (item_functions c) (all_gone_functions ps) f) k)
    prunes_all r i (declarator_goes c ps) a v m f k =
        (any_declarator r c a.0 (λ lexical. declarator_is_gone lexical c a.1 m.0 (first_part d (declarator_functions c) (all_gone_functions ps) f)), prunes_all r (suc i) ps a.2 v m.1 (last_part d (declarator_functions c) (all_gone_functions ps) f) k)

-- ---- the names that go have symbols

abbrev has_symbol_at_all : Name → Bool
has_symbol_at_all x = is_some x.symbol

module _ (t : Tree) (D : VariableSet) (rounds : ℕ → ℕ) where
  some_symbol : (x : Name) → has_name (is_unseen t) x ≡ true → is_some x.symbol ≡ true
  some_symbol x p = by x.symbol p
    where
      by : (o : Option SymbolId) → has_it (is_unseen t) o ≡ true → is_some o ≡ true
      by (Some s) q = refl
      by None q = absurd (true≢false (sym q))

  declarators_known : (cs : List Declarator) → DeclaratorsAreDead t D rounds cs → Each has_symbol_at_all (declarator_names cs)
  declarators_known [] a = tt
  declarators_known (declarator n x m init ∷ cs) a = (some_symbol x a.0.0.0, declarators_known cs a.1)

  declarator_known : (c : Declarator) → DeclaratorIsDead t D rounds c → has_symbol_at_all (declarator_name c) ≡ true
  declarator_known (declarator n x m init) a = some_symbol x a.0.0

  item_known : (i : Item) → ItemIsDead t D rounds i → Each has_symbol_at_all (item_names i)
  item_known (function_item g ds xs n x m ts) a = (some_symbol x a.0, tt)
  item_known (declaration_item k xs n ys m c cs) a = declarators_known (c ∷ cs) a
  item_known (lone_item xs n f) a = tt

  mutual
    pub names_known : (p : Spot) (x : Pruned) → DropsDead t D rounds p x → Each has_symbol_at_all (gone_names x)
    names_known p (prune h xs n ps) a = all_names_known (role h p) 0 ps a.1

    all_names_known : (r : Role) (i : ℕ) (ps : Prunings) → AllDropDead t D rounds r i ps → Each has_symbol_at_all (all_gone_names ps)
    all_names_known r i end a = tt
    all_names_known r i (stays x ps) a = both_parts has_symbol_at_all (gone_names x) (all_gone_names ps) (names_known (spot_below r i) x a.0) (all_names_known r (suc i) ps a.1)
    all_names_known r i (goes c ps) a = both_parts has_symbol_at_all (item_names c) (all_gone_names ps) (item_known c a.1) (all_names_known r (suc i) ps a.2)
    all_names_known r i (declarator_goes c ps) a = (declarator_known c a.1, all_names_known r (suc i) ps a.2)

abbrev pub Known : Variable → Type 0
Known x = (s : ℕ) × (x ≡ Declared s)

by_its_symbol : (s : List ℕ) (o : Option SymbolId) → is_some o ≡ true → Known (variable_by s o)
by_its_symbol s (Some k) p = (k.0, refl)
by_its_symbol s None p = absurd (true≢false (sym p))

pub known : (xs : List Name) → Each has_symbol_at_all xs → (x : Variable) → is_in x (variables xs) ≡ true → Known x
known [] a x p = absurd (true≢false (sym p))
known (y ∷ ys) a x p = by (variable_eq (variable_of y) x) refl p (known ys a.1 x)
  where
    by : (b : Bool) → variable_eq (variable_of y) x ≡ b → choose b true (is_in x (variables ys)) ≡ true → (is_in x (variables ys) ≡ true → Known x) → Known x
    by true q r f = subst Known (same_variables (variable_of y) x q) (by_its_symbol y.spelling y.symbol a.0)
    by false q r f = f r

-- ---- the symbols that go are named in the earlier tree alone

pub each_weaker : {A : Type 0} (f g : A → Bool) (xs : List A) → ((x : A) → f x ≡ true → g x ≡ true) → Each f xs → Each g xs
each_weaker f g [] h a = tt
each_weaker f g (x ∷ xs) h a = (h x a.0, each_weaker f g xs h a.1)

in_first : (t : Tree) (ts : Trees) (x : Variable) → mentions t x ≡ true → any_mentions (t ▸ ts) x ≡ true
in_first t ts x p = ap (λ b. b || any_mentions ts x) p

in_others : (t : Tree) (ts : Trees) (x : Variable) → any_mentions ts x ≡ true → any_mentions (t ▸ ts) x ≡ true
in_others t ts x p = by (mentions t x) p
  where
    by : (b : Bool) → any_mentions ts x ≡ true → (b || any_mentions ts x) ≡ true
    by true p = refl
    by false p = p

in_node : (h : Shape) (xs : List Name) (n : ℕ) (ts : Trees) (x : Variable) → any_mentions ts x ≡ true → mentions (node h xs n ts) x ≡ true
in_node h xs n ts x p = by (is_in x (variables xs)) p
  where
    by : (b : Bool) → any_mentions ts x ≡ true → (b || any_mentions ts x) ≡ true
    by true p = refl
    by false p = p

own_named : (x : Name) (m : ℕ) → mentions (own_name x m) (variable_of x) ≡ true
own_named x m = ap (λ b. choose b true false || false) (itself (variable_of x))

declarator_named : (c : Declarator) → mentions (declarator_tree c) (variable_of (declarator_name c)) ≡ true
declarator_named (declarator n x m init) = in_first (own_name x m) (initializer_tree init ▸ none) (variable_of x) (own_named x m)

declarators_named : (cs : List Declarator) → Each (named (any_mentions (declarator_trees cs))) (declarator_names cs)
declarators_named [] = tt
declarators_named (c ∷ cs) = (
  in_first (declarator_tree c) (declarator_trees cs) (variable_of (declarator_name c)) (declarator_named c),
  each_weaker (named (any_mentions (declarator_trees cs))) (named (any_mentions (declarator_trees (c ∷ cs)))) (declarator_names cs) (λ x p. in_others (declarator_tree c) (declarator_trees cs) (variable_of x) p) (declarators_named cs),
)

item_named : (i : Item) → Each (named (mentions (item_tree i))) (item_names i)
item_named (function_item g ds xs n x m ts) = (in_node (shape.Function true g ds) xs n (own_name x m ▸ ts) (variable_of x) (in_first (own_name x m) ts (variable_of x) (own_named x m)), tt)
item_named (declaration_item k xs n ys m c cs) =
    each_weaker (named (any_mentions (declarator_trees (c ∷ cs)))) (named (mentions (item_tree (declaration_item k xs n ys m c cs)))) (declarator_names (c ∷ cs))
    (λ x p. in_node (shape.VariableDeclaration k) xs n (node shape.Listed ys m (declarator_trees (c ∷ cs)) ▸ none) (variable_of x) (in_first (node shape.Listed ys m (declarator_trees (c ∷ cs))) none (variable_of x) (in_node shape.Listed ys m (declarator_trees (c ∷ cs)) (variable_of x) p)))
    (declarators_named (c ∷ cs))
item_named (lone_item xs n f) = tt

all_of : (t : Tree) (ps : Prunings) (xs : List Name) → Each (named (mentions t)) xs → Each (named (any_mentions (earlier_all ps))) (all_gone_names ps) → Each (named (any_mentions (t ▸ earlier_all ps))) (xs ++ all_gone_names ps)
all_of t ps xs a b = both_parts (named (any_mentions (t ▸ earlier_all ps))) xs (all_gone_names ps) (each_weaker (named (mentions t)) (named (any_mentions (t ▸ earlier_all ps))) xs (λ x p. in_first t (earlier_all ps) (variable_of x) p) a)
    (each_weaker (named (any_mentions (earlier_all ps))) (named (any_mentions (t ▸ earlier_all ps))) (all_gone_names ps) (λ x p. in_others t (earlier_all ps) (variable_of x) p) b)

mutual
  names_named : (p : Pruned) → Each (named (mentions (earlier p))) (gone_names p)
  names_named (prune h xs n ps) = each_weaker (named (any_mentions (earlier_all ps))) (named (mentions (node h xs n (earlier_all ps)))) (all_gone_names ps) (λ x p. in_node h xs n (earlier_all ps) (variable_of x) p) (all_names_named ps)

  all_names_named : (ps : Prunings) → Each (named (any_mentions (earlier_all ps))) (all_gone_names ps)
  all_names_named end = tt
  all_names_named (stays p ps) = all_of (earlier p) ps (gone_names p) (names_named p) (all_names_named ps)
  all_names_named (goes c ps) = all_of (item_tree c) ps (item_names c) (item_named c) (all_names_named ps)
  all_names_named (declarator_goes c ps) = all_of (declarator_tree c) ps (declarator_name c ∷ []) (declarator_named c, tt) (all_names_named ps)

-- a set that has the variable of each name has each variable of theirs
pub has_each : (D : VariableSet) (xs : List Name) → Each (named D) xs → (x : Variable) → is_in x (variables xs) ≡ true → D x ≡ true
has_each D [] a x p = absurd (true≢false (sym p))
has_each D (y ∷ ys) a x p = by (variable_eq (variable_of y) x) refl p (has_each D ys a.1 x)
  where
    by : (b : Bool) → variable_eq (variable_of y) x ≡ b → choose b true (is_in x (variables ys)) ≡ true → (is_in x (variables ys) ≡ true → D x ≡ true) → D x ≡ true
    by true q r f = ap D (sym (same_variables (variable_of y) x q)) ∙ a.0
    by false q r f = f r

lost_declared : (t u : Tree) (x : Variable) → Known x → mentions t x ≡ true → mentions u x ≡ false → lost_from t u x ≡ true
lost_declared t u x (s, same) p q =
    ap (lost_from t u) same ∙ ap (λ b. b && not (mentions u (Declared s))) (ap (mentions t) (sym same) ∙ p) ∙ ap not (ap (mentions u) (sym same) ∙ q)

pub of_gone : (p : Pruned) (rounds : ℕ → ℕ) → DropsDead (earlier p) (gone p) rounds Elsewhere p → Avoids (gone p) (later p) → (x : Variable) → gone p x ≡ true → lost_from (earlier p) (later p) x ≡ true
of_gone p rounds a v x g =
    lost_declared (earlier p) (later p) x (known (gone_names p) (names_known (earlier p) (gone p) rounds Elsewhere p a) x g) (has_each (mentions (earlier p)) (gone_names p) (names_named p) x g) (unnamed_in (gone p) x g (later p) v)

-- a body that hides a set of names hides each part of it
pub hides_less : (d : FunctionSet) (C D : VariableSet) → ((x : Variable) → C x ≡ true → D x ≡ true) → (bs cs : List Body) → BodiesWithout d C bs cs → BodiesWithout d D bs cs
hides_less d C D f bs [] a = tt
hides_less d C D f [] (c ∷ cs) a = absurd a
hides_less d C D f (b ∷ bs) (c ∷ cs) (inl a) = inl (record { number = a.0.number; kind = a.0.kind; strict = a.0.strict; asks_this = a.0.asks_this; same = λ e may apart. a.0.same e (λ x p. may x (f x p)) (λ x p. apart x (f x p)) }, hides_less d C D f bs cs a.1)
hides_less d C D f (b ∷ bs) (c ∷ cs) (inr a) = inr (hides_less d C D f bs (c ∷ cs) a)

-- a program that lost dead items once
pub of_pruned : (p : Pruned) (rounds : ℕ → ℕ) → DropsDead (earlier p) (gone p) rounds Elsewhere p → Avoids (gone p) (later p) → Numbered (earlier p) → NumbersOnce (earlier p) → BodiesWithout (gone_from (earlier p) (later p)) (lost_from (earlier p) (later p)) (bodies_in (earlier p)) (bodies_in (later p))
of_pruned p rounds a v numbered once =
    let d = gone_from (earlier p) (later p) in
    hides_less d (gone p) (lost_from (earlier p) (later p)) (of_gone p rounds a v) (bodies_in (earlier p)) (bodies_in (later p))
    (pruned_program d (gone p) p (number.zero_stays (earlier p) (later p)) (λ e may.
    prunes (earlier p) (gone p) rounds d (number.zero_stays (earlier p) (later p)) e may Elsewhere p a v (each_name (named (gone p)) (gone_names p) (λ x q. q))
    (each_counted d (gone_functions p) (λ n k. number.function_gone n p numbered once k)) (each_counted (kept d) (numbers (later p)) (λ n k. ap not (number.number_stays n p k)))))

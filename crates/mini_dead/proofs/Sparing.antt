-- The names that a tree declares from which items go: those that it declared, but the ones that go.
use Rattle.std.proofs.Common.{◌≡◌, ℕ, zero, suc, Bool, true, false, List, [], ◌∷◌, ◌++◌, refl, sym, ap, ◌∙◌, subst, true≢false}
use Rattle.std.specs.Prelude.{if◌then◌else◌}
use Rattle.mini_model.specs.declared.kind.VariableDeclarationKind.TheVariants.{Var}
use Rattle.mini_model.specs.declared.name.Name.{Name}
use Rattle.mini_model.specs.declared.shape.Shape.{Shape}
use Rattle.mini_model.specs.declared.shape.Shape.TheVariants as shape
use Rattle.mini_model.specs.Tree.{Tree, Trees, node, none, ◌▸◌, child_or_absent, shape_of}
use Rattle.mini_laws.specs.declared.names.Declared.{Declared}
use Rattle.mini_laws.specs.declared.names.Declared.TheVariants as declared
use Rattle.mini_laws.specs.declared.names.Place.{Place}
use Rattle.mini_laws.specs.declared.names.Place.TheVariants as place
use Rattle.mini_laws.specs.DeclaredNames.{place_of, names_by, names_of, first_names, all_names, is_statement_list, body_names, all_body_names}
use Rattle.mini_laws.specs.Value.{VariableSet, variable_of, variables}
use Rattle.mini_laws.specs.Congruence.{NoneIn, Avoids, AllAvoid}
use Rattle.mini_dead.specs.Pruned.{Spot, Elsewhere, Statements, AStatement, Declarators, CaseList, OneCase, Role, Plain, role, spot_below, Declarator, declarator, declarator_tree, declarator_trees, Item, function_item, declaration_item, lone_item, item_tree, Pruned, prune, Prunings, end, stays, goes, declarator_goes, earlier, earlier_all, later, later_all, HoldsItems, HoldsDeclarators}
use Rattle.mini_dead.specs.Drops.{declarator_name, declarator_names, item_names, gone_names, all_gone_names, DropsDead, AllDropDead}
use Rattle.mini_dead.proofs.Dropping.{Each, named, first_part, last_part}

-- ---- lists of names without those of a set

abbrev pub sparing : VariableSet → List Name → List Name
sparing D [] = []
sparing D (x ∷ xs) = if D (variable_of x) then sparing D xs else x ∷ sparing D xs

-- ---- what is no list keeps its children

abbrev pub AllStay : Prunings → Type 0
AllStay end = Unit {0}
AllStay (stays x ps) = AllStay ps
AllStay (goes c ps) = ⊥
AllStay (declarator_goes c ps) = ⊥

abbrev pub is_list : Shape → Bool
is_list shape.Listed = true
is_list h = false

no_items : (h : Shape) (p : Spot) → is_list h ≡ false → HoldsItems (role h p) → ⊥
no_items shape.Listed p e k = true≢false e
no_items (shape.VariableDeclaration v) Elsewhere e k = k
no_items (shape.VariableDeclaration v) Statements e k = k
no_items (shape.VariableDeclaration v) AStatement e k = k
no_items (shape.VariableDeclaration v) (Declarators b) e k = k
no_items (shape.VariableDeclaration v) CaseList e k = k
no_items (shape.VariableDeclaration v) OneCase e k = k
no_items shape.SwitchCase Elsewhere e k = k
no_items shape.SwitchCase Statements e k = k
no_items shape.SwitchCase AStatement e k = k
no_items shape.SwitchCase (Declarators b) e k = k
no_items shape.SwitchCase CaseList e k = k
no_items shape.SwitchCase OneCase e k = k
no_items h p e k = k

no_declarators : (h : Shape) (p : Spot) → is_list h ≡ false → HoldsDeclarators (role h p) → ⊥
no_declarators shape.Listed p e k = true≢false e
no_declarators (shape.VariableDeclaration v) Elsewhere e k = k
no_declarators (shape.VariableDeclaration v) Statements e k = k
no_declarators (shape.VariableDeclaration v) AStatement e k = k
no_declarators (shape.VariableDeclaration v) (Declarators b) e k = k
no_declarators (shape.VariableDeclaration v) CaseList e k = k
no_declarators (shape.VariableDeclaration v) OneCase e k = k
no_declarators shape.SwitchCase Elsewhere e k = k
no_declarators shape.SwitchCase Statements e k = k
no_declarators shape.SwitchCase AStatement e k = k
no_declarators shape.SwitchCase (Declarators b) e k = k
no_declarators shape.SwitchCase CaseList e k = k
no_declarators shape.SwitchCase OneCase e k = k
no_declarators h p e k = k

abbrev pub list_or_not : (h : Shape) (P : Type 0) → (h ≡ shape.Listed → P) → (is_list h ≡ false → P) → P
list_or_not shape.Listed P f g = f refl
list_or_not h P f g = g refl

listed : (d : Declared) (xs : List Name) (n : ℕ) (ts : Trees) → names_of d (node shape.Listed xs n ts) ≡ all_names d ts
unfolding names_of
listed declared.Bound xs n ts = refl
listed declared.Lexical xs n ts = refl
listed declared.Hoisted xs n ts = refl

-- the child at a place of a node all of whose children stay
abbrev absent_pruned : Pruned
absent_pruned = prune shape.Absent [] 0 end

abbrev pub pick : ℕ → Prunings → Pruned
pick i end = absent_pruned
pick zero (stays x ps) = x
pick (suc i) (stays x ps) = pick i ps
pick i (goes c ps) = absent_pruned
pick i (declarator_goes c ps) = absent_pruned

pub pick_earlier : (i : ℕ) (ps : Prunings) → AllStay ps → earlier (pick i ps) ≡ child_or_absent (earlier_all ps) i
pick_earlier i end s = refl
pick_earlier zero (stays x ps) s = refl
pick_earlier (suc i) (stays x ps) s = pick_earlier i ps s
pick_earlier i (goes c ps) s = absurd s
pick_earlier i (declarator_goes c ps) s = absurd s

pub pick_later : (i : ℕ) (ps : Prunings) → AllStay ps → later (pick i ps) ≡ child_or_absent (later_all ps) i
pick_later i end s = refl
pick_later zero (stays x ps) s = refl
pick_later (suc i) (stays x ps) s = pick_later i ps s
pick_later i (goes c ps) s = absurd s
pick_later i (declarator_goes c ps) s = absurd s

pub same_shape : (x : Pruned) → shape_of (later x) ≡ shape_of (earlier x)
same_shape (prune h xs n ps) = refl

pub shape_at : (i : ℕ) (ps : Prunings) → AllStay ps → shape_of (child_or_absent (later_all ps) i) ≡ shape_of (child_or_absent (earlier_all ps) i)
shape_at i ps s = sym (ap shape_of (pick_later i ps s)) ∙ same_shape (pick i ps) ∙ ap shape_of (pick_earlier i ps s)

module _ (D : VariableSet) where
  pub spared_both : (xs ys : List Name) → sparing D (xs ++ ys) ≡ sparing D xs ++ sparing D ys
  spared_both [] ys = refl
  spared_both (x ∷ xs) ys = by (D (variable_of x)) (spared_both xs ys)
    where
      by : (b : Bool) → sparing D (xs ++ ys) ≡ sparing D xs ++ sparing D ys → (if b then sparing D (xs ++ ys) else x ∷ sparing D (xs ++ ys)) ≡ (if b then sparing D xs else x ∷ sparing D xs) ++ sparing D ys
      by true e = e
      by false e = ap (λ r. x ∷ r) e

  -- all go, or none
  pub spared_each : (xs : List Name) → Each (named D) xs → sparing D xs ≡ []
  spared_each [] a = refl
  spared_each (x ∷ xs) a = ap (λ b. if b then sparing D xs else x ∷ sparing D xs) a.0 ∙ spared_each xs a.1

  pub spared_none : (xs : List Name) → NoneIn D (variables xs) → sparing D xs ≡ xs
  spared_none [] a = refl
  spared_none (x ∷ xs) a = ap (λ b. if b then sparing D xs else x ∷ sparing D xs) a.0 ∙ ap (λ r. x ∷ r) (spared_none xs a.1)

  -- ---- items go from lists, and declare names of the set

  abbrev mutual
    pub Tidy : Spot → Pruned → Type 0
    Tidy p (prune h xs n ps) = AllTidy (role h p) 0 ps

    pub AllTidy : Role → ℕ → Prunings → Type 0
    AllTidy r i end = Unit {0}
    AllTidy r i (stays x ps) = Tidy (spot_below r i) x × AllTidy r (suc i) ps
    AllTidy r i (goes c ps) = HoldsItems r × Each (named D) (item_names c) × AllTidy r (suc i) ps
    AllTidy r i (declarator_goes c ps) = HoldsDeclarators r × (D (variable_of (declarator_name c)) ≡ true) × AllTidy r (suc i) ps

  mutual
    pub tidy : (t : Tree) (rounds : ℕ → ℕ) (p : Spot) (x : Pruned) → DropsDead t D rounds p x → Each (named D) (gone_names x) → Tidy p x
    tidy t rounds p (prune h xs n ps) a m = all_tidy t rounds (role h p) 0 ps a.1 m

    all_tidy : (t : Tree) (rounds : ℕ → ℕ) (r : Role) (i : ℕ) (ps : Prunings) → AllDropDead t D rounds r i ps → Each (named D) (all_gone_names ps) → AllTidy r i ps
    all_tidy t rounds r i end a m = tt
    all_tidy t rounds r i (stays x ps) a m =
        (tidy t rounds (spot_below r i) x a.0 (first_part (named D) (gone_names x) (all_gone_names ps) m), all_tidy t rounds r (suc i) ps a.1 (last_part (named D) (gone_names x) (all_gone_names ps) m))
    all_tidy t rounds r i (goes c ps) a m = (a.0, first_part (named D) (item_names c) (all_gone_names ps) m, all_tidy t rounds r (suc i) ps a.2 (last_part (named D) (item_names c) (all_gone_names ps) m))
    all_tidy t rounds r i (declarator_goes c ps) a m = (a.0, m.0, all_tidy t rounds r (suc i) ps a.2 m.1)

  all_stay : (r : Role) (i : ℕ) (ps : Prunings) → (HoldsItems r → ⊥) → (HoldsDeclarators r → ⊥) → AllTidy r i ps → AllStay ps
  all_stay r i end f g a = tt
  all_stay r i (stays x ps) f g a = all_stay r (suc i) ps f g a.1
  all_stay r i (goes c ps) f g a = absurd (f a.0)
  all_stay r i (declarator_goes c ps) f g a = absurd (g a.0)

  pub children_stay : (h : Shape) (p : Spot) (ps : Prunings) → is_list h ≡ false → AllTidy (role h p) 0 ps → AllStay ps
  children_stay h p ps e a = all_stay (role h p) 0 ps (no_items h p e) (no_declarators h p e) a

  pub plain_stay : (i : ℕ) (ps : Prunings) → AllTidy Plain i ps → AllStay ps
  plain_stay i ps a = all_stay Plain i ps (λ k. k) (λ k. k) a

  -- outside lists of statements nothing goes but below
  pub elsewhere_stay : (h : Shape) (ps : Prunings) → AllTidy (role h Elsewhere) 0 ps → AllStay ps
  elsewhere_stay h ps a = list_or_not h (AllStay ps) (λ e. plain_stay 0 ps (subst (λ g. AllTidy (role g Elsewhere) 0 ps) e a)) (λ e. children_stay h Elsewhere ps e a)

  -- the child at a place stands at some spot
  pub pick_tidy : (r : Role) (k i : ℕ) (ps : Prunings) → AllTidy r k ps → (p : Spot) × Tidy p (pick i ps)
  pick_tidy r k i end a = (Elsewhere, tt)
  pick_tidy r k zero (stays x ps) a = (spot_below r k, a.0)
  pick_tidy r k (suc i) (stays x ps) a = pick_tidy r (suc k) i ps a.1
  pick_tidy r k i (goes c ps) a = (Elsewhere, tt)
  pick_tidy r k i (declarator_goes c ps) a = (Elsewhere, tt)

  pub pick_plain : (k i : ℕ) (ps : Prunings) → AllTidy Plain k ps → Tidy Elsewhere (pick i ps)
  pick_plain k i end a = tt
  pick_plain k zero (stays x ps) a = a.0
  pick_plain k (suc i) (stays x ps) a = pick_plain (suc k) i ps a.1
  pick_plain k i (goes c ps) a = tt
  pick_plain k i (declarator_goes c ps) a = tt

  -- ---- the names that are declared

  declarators_bound : (cs : List Declarator) → Each (named D) (declarator_names cs) → sparing D (all_names declared.Bound (declarator_trees cs)) ≡ []
  unfolding names_of
  declarators_bound [] a = refl
  declarators_bound (declarator n x m init ∷ cs) a = ap (λ b. if b then sparing D (all_names declared.Bound (declarator_trees cs)) else x ∷ sparing D (all_names declared.Bound (declarator_trees cs))) a.0 ∙ declarators_bound cs a.1

  list_bound : (ys : List Name) (m : ℕ) (cs : List Declarator) → Each (named D) (declarator_names cs) → sparing D (all_names declared.Bound (node shape.Listed ys m (declarator_trees cs) ▸ none)) ≡ []
  unfolding names_of
  list_bound ys m cs a = spared_both (all_names declared.Bound (declarator_trees cs)) [] ∙ ap (λ r. r ++ []) (declarators_bound cs a)

  item_spared : (d : Declared) (c : Item) → Each (named D) (item_names c) → sparing D (names_of d (item_tree c)) ≡ []
  unfolding names_of
  item_spared declared.Bound (function_item g ds xs n x m ts) a = refl
  item_spared declared.Bound (declaration_item k xs n ys m c cs) a = refl
  item_spared declared.Bound (lone_item xs n f) a = refl
  item_spared declared.Lexical (function_item g ds xs n x m ts) a = spared_each (x ∷ []) a
  item_spared declared.Lexical (declaration_item Var xs n ys m c cs) a = refl
  item_spared declared.Lexical (declaration_item k xs n ys m c cs) a = list_bound ys m (c ∷ cs) a
  item_spared declared.Lexical (lone_item xs n f) a = refl
  item_spared declared.Hoisted (function_item g ds xs n x m ts) a = refl
  item_spared declared.Hoisted (declaration_item Var xs n ys m c cs) a = list_bound ys m (c ∷ cs) a
  item_spared declared.Hoisted (declaration_item k xs n ys m c cs) a = refl
  item_spared declared.Hoisted (lone_item xs n f) a = refl

  declarator_spared : (d : Declared) (c : Declarator) → D (variable_of (declarator_name c)) ≡ true → sparing D (names_of d (declarator_tree c)) ≡ []
  unfolding names_of
  declarator_spared declared.Bound (declarator n x m init) a = spared_each (x ∷ []) (a, tt)
  declarator_spared declared.Lexical (declarator n x m init) a = refl
  declarator_spared declared.Hoisted (declarator n x m init) a = refl

  by_place : (q : Place) (xs first first' bound bound' below below' : List Name) → NoneIn D (variables xs) → first' ≡ sparing D first → bound' ≡ sparing D bound → below' ≡ sparing D below → names_by q xs first' bound' below' ≡ sparing D (names_by q xs first bound below)
  by_place place.Here xs first first' bound bound' below below' a b c d = sym (spared_none xs a)
  by_place place.FirstBound xs first first' bound bound' below below' a b c d = b
  by_place place.Bound xs first first' bound bound' below below' a b c d = c
  by_place place.Below xs first first' bound bound' below below' a b c d = d
  by_place place.Nowhere xs first first' bound bound' below below' a b c d = refl

  gone_first : (ws bs ds : List Name) → sparing D ws ≡ [] → ds ≡ sparing D bs → ds ≡ sparing D (ws ++ bs)
  gone_first ws bs ds e f = f ∙ sym (spared_both ws bs ∙ ap (λ r. r ++ sparing D bs) e)

  spared_too : (ws ws' bs bs' : List Name) → ws' ≡ sparing D ws → bs' ≡ sparing D bs → ws' ++ bs' ≡ sparing D (ws ++ bs)
  spared_too ws ws' bs bs' e f = ap (λ r. r ++ bs') e ∙ ap (λ r. sparing D ws ++ r) f ∙ sym (spared_both ws bs)

  mutual
    unfolding names_of

    pub names_spared : (d : Declared) (p : Spot) (x : Pruned) → Tidy p x → Avoids D (later x) → names_of d (later x) ≡ sparing D (names_of d (earlier x))
    names_spared d p (prune h xs n ps) a v =
        list_or_not h (names_of d (node h xs n (later_all ps)) ≡ sparing D (names_of d (node h xs n (earlier_all ps))))
        (λ e. subst (λ k. names_of d (node k xs n (later_all ps)) ≡ sparing D (names_of d (node k xs n (earlier_all ps)))) (sym e)
        (listed d xs n (later_all ps) ∙ all_spared d (role h p) 0 ps a v.1 ∙ sym (ap (sparing D) (listed d xs n (earlier_all ps)))))
        (λ e. by_place (place_of d h) xs (first_names (earlier_all ps)) (first_names (later_all ps)) (all_names declared.Bound (earlier_all ps)) (all_names declared.Bound (later_all ps)) (all_names d (earlier_all ps)) (all_names d (later_all ps)) v.0
        (first_spared (role h p) 0 ps (children_stay h p ps e a) a v.1) (all_spared declared.Bound (role h p) 0 ps a v.1) (all_spared d (role h p) 0 ps a v.1))

    first_spared : (r : Role) (i : ℕ) (ps : Prunings) → AllStay ps → AllTidy r i ps → AllAvoid D (later_all ps) → first_names (later_all ps) ≡ sparing D (first_names (earlier_all ps))
    first_spared r i end s a v = refl
    first_spared r i (stays x ps) s a v = names_spared declared.Bound (spot_below r i) x a.0 v.0
    first_spared r i (goes c ps) s a v = absurd s
    first_spared r i (declarator_goes c ps) s a v = absurd s

    pub all_spared : (d : Declared) (r : Role) (i : ℕ) (ps : Prunings) → AllTidy r i ps → AllAvoid D (later_all ps) → all_names d (later_all ps) ≡ sparing D (all_names d (earlier_all ps))
    all_spared d r i end a v = refl
    all_spared d r i (stays x ps) a v = spared_too (names_of d (earlier x)) (names_of d (later x)) (all_names d (earlier_all ps)) (all_names d (later_all ps)) (names_spared d (spot_below r i) x a.0 v.0) (all_spared d r (suc i) ps a.1 v.1)
    all_spared d r i (goes c ps) a v = gone_first (names_of d (item_tree c)) (all_names d (earlier_all ps)) (all_names d (later_all ps)) (item_spared d c a.1) (all_spared d r (suc i) ps a.2 v)
    all_spared d r i (declarator_goes c ps) a v = gone_first (names_of d (declarator_tree c)) (all_names d (earlier_all ps)) (all_names d (later_all ps)) (declarator_spared d c a.1) (all_spared d r (suc i) ps a.2 v)

  -- ---- those of a body of statements

  both_gone : (c : Item) → Each (named D) (item_names c) → sparing D (names_of declared.Lexical (item_tree c) ++ names_of declared.Hoisted (item_tree c)) ≡ []
  both_gone c a =
      spared_both (names_of declared.Lexical (item_tree c)) (names_of declared.Hoisted (item_tree c))
      ∙ ap (λ r. r ++ sparing D (names_of declared.Hoisted (item_tree c))) (item_spared declared.Lexical c a)
      ∙ item_spared declared.Hoisted c a

  item_body : (c : Item) → Each (named D) (item_names c) → sparing D (body_names (item_tree c)) ≡ []
  unfolding body_names
  item_body (function_item g ds xs n x m ts) a = both_gone (function_item g ds xs n x m ts) a
  item_body (declaration_item k xs n ys m c cs) a = both_gone (declaration_item k xs n ys m c cs) a
  item_body (lone_item xs n f) a = both_gone (lone_item xs n f) a

  declarator_body : (c : Declarator) → D (variable_of (declarator_name c)) ≡ true → sparing D (body_names (declarator_tree c)) ≡ []
  unfolding body_names names_of
  declarator_body (declarator n x m init) a = refl

  picked : (b : Bool) (ws ws' bs bs' : List Name) → ws' ≡ sparing D ws → bs' ≡ sparing D bs → (if b then ws' else bs') ≡ sparing D (if b then ws else bs)
  picked true ws ws' bs bs' e f = e
  picked false ws ws' bs bs' e f = f

  mutual
    unfolding body_names

    pub body_spared : (p : Spot) (x : Pruned) → Tidy p x → Avoids D (later x) → body_names (later x) ≡ sparing D (body_names (earlier x))
    body_spared p (prune h xs n ps) a v =
        let t = node h xs n (earlier_all ps) in
        let u = node h xs n (later_all ps) in
        picked (is_statement_list h) (all_body_names (earlier_all ps)) (all_body_names (later_all ps)) (names_of declared.Lexical t ++ names_of declared.Hoisted t) (names_of declared.Lexical u ++ names_of declared.Hoisted u) (all_body_spared (role h p) 0 ps a v.1)
        (spared_too (names_of declared.Lexical t) (names_of declared.Lexical u) (names_of declared.Hoisted t) (names_of declared.Hoisted u) (names_spared declared.Lexical p (prune h xs n ps) a v) (names_spared declared.Hoisted p (prune h xs n ps) a v))

    all_body_spared : (r : Role) (i : ℕ) (ps : Prunings) → AllTidy r i ps → AllAvoid D (later_all ps) → all_body_names (later_all ps) ≡ sparing D (all_body_names (earlier_all ps))
    all_body_spared r i end a v = refl
    all_body_spared r i (stays x ps) a v = spared_too (body_names (earlier x)) (body_names (later x)) (all_body_names (earlier_all ps)) (all_body_names (later_all ps)) (body_spared (spot_below r i) x a.0 v.0) (all_body_spared r (suc i) ps a.1 v.1)
    all_body_spared r i (goes c ps) a v = gone_first (body_names (item_tree c)) (all_body_names (earlier_all ps)) (all_body_names (later_all ps)) (item_body c a.1) (all_body_spared r (suc i) ps a.2 v)
    all_body_spared r i (declarator_goes c ps) a v = gone_first (body_names (declarator_tree c)) (all_body_names (earlier_all ps)) (all_body_names (later_all ps)) (declarator_body c a.1) (all_body_spared r (suc i) ps a.2 v)

  -- ---- outside lists of statements no name that is bound goes

  mutual
    unfolding names_of

    pub bound_stays : (x : Pruned) → Tidy Elsewhere x → names_of declared.Bound (later x) ≡ names_of declared.Bound (earlier x)
    bound_stays (prune shape.VariableDeclarator xs n ps) a = first_stays ps a
    bound_stays (prune shape.Listed xs n ps) a = all_bound_stay 0 ps a
    bound_stays (prune shape.ObjectPattern xs n ps) a = all_bound_stay 0 ps a
    bound_stays (prune shape.ArrayPattern xs n ps) a = all_bound_stay 0 ps a
    bound_stays (prune (shape.BindingProperty shorthand computed) xs n ps) a = all_bound_stay 0 ps a
    bound_stays (prune shape.RestElement xs n ps) a = all_bound_stay 0 ps a
    bound_stays (prune shape.AssignmentPattern xs n ps) a = all_bound_stay 0 ps a
    bound_stays (prune shape.ImportSpecifier xs n ps) a = all_bound_stay 0 ps a
    bound_stays (prune shape.ImportDefaultSpecifier xs n ps) a = all_bound_stay 0 ps a
    bound_stays (prune shape.ImportNamespaceSpecifier xs n ps) a = all_bound_stay 0 ps a
    bound_stays (prune h xs n ps) a = refl

    first_stays : (ps : Prunings) → AllTidy Plain 0 ps → first_names (later_all ps) ≡ first_names (earlier_all ps)
    first_stays end a = refl
    first_stays (stays x ps) a = bound_stays x a.0
    first_stays (goes c ps) a = absurd a.0
    first_stays (declarator_goes c ps) a = absurd a.0

    all_bound_stay : (i : ℕ) (ps : Prunings) → AllTidy Plain i ps → all_names declared.Bound (later_all ps) ≡ all_names declared.Bound (earlier_all ps)
    all_bound_stay i end a = refl
    all_bound_stay i (stays x ps) a = ap (λ r. r ++ all_names declared.Bound (later_all ps)) (bound_stays x a.0) ∙ ap (λ r. names_of declared.Bound (earlier x) ++ r) (all_bound_stay (suc i) ps a.1)
    all_bound_stay i (goes c ps) a = absurd a.0
    all_bound_stay i (declarator_goes c ps) a = absurd a.0

-- A program less a set of symbols loses dead items alone, where the set may go.
use Rattle.std.proofs.Common.{◌≡◌, ℕ, zero, suc, Bool, true, false, List, [], ◌∷◌, Option, Some, None, refl, sym, ap, ◌∙◌, subst, true≢false, leb-true}
use Rattle.std.specs.Prelude.{◌<◌, nat_le, not, ◌||◌}
use Rattle.std.specs.List.{list_any}
use Rattle.mini_model.specs.declared.kind.VariableDeclarationKind.{VariableDeclarationKind}
use Rattle.mini_model.specs.declared.name.Name.{Name}
use Rattle.mini_model.specs.declared.name.SymbolId.{SymbolId}
use Rattle.mini_model.specs.declared.shape.Shape.{Shape}
use Rattle.mini_model.specs.declared.shape.Shape.TheVariants as shape
use Rattle.mini_model.specs.Tree.{Tree, Trees, node, none, ◌▸◌}
use Rattle.mini_accept.specs.WellShaped.{one, a_program}
use Rattle.mini_laws.specs.declared.names.Use.TheVariants.{Read}
use Rattle.mini_laws.specs.Value.{Variable, VariableSet, variable_by, variable_of, variables}
use Rattle.mini_laws.specs.References.{Reference, references, references_from}
use Rattle.mini_laws.specs.Congruence.{NoneIn, Avoids, AllAvoid}
use Rattle.mini_kept.proofs.Bools.{left, right}
use Rattle.mini_dead.proofs.Basics.{some_is, none_is}
use Rattle.mini_dead.specs.Pruned.{Spot, Elsewhere, AStatement, Declarators, OneCase, Role, HasCases, StatementList, Declaration, DeclaratorList, CaseOf, role, spot_below, Lone, a_function, an_arrow, lone_tree, Initializer, without_effect, of_function, initializer_tree, own_name, Declarator, declarator, declarator_tree, declarator_trees, Item, function_item, declaration_item, lone_item, item_tree, Pruned, Prunings, earlier, earlier_all, later, later_all, HoldsItems, HoldsDeclarators}
use Rattle.mini_dead.specs.Dead.{is_without_effect, has_it, has_name}
use Rattle.mini_dead.specs.Drops.{declarator_name, declarator_names, item_names, gone_names, all_gone_names, gone, round_of, GoLater, is_unseen, InitializerIsDead, NameIsDead, DeclaratorIsDead, DeclaratorsAreDead, ItemIsDead, some_stay, KeepsDeclarator, DropsDead, AllDropDead}
use Rattle.mini_dead.specs.Marked as law
use Rattle.mini_dead.specs.Marked.{lone_of, of_lone, initializer_by, initializer_of, Mark, no_item, an_item, a_declarator, mark_lone, declarator_by, declarator_of, one_more, declarators_of, mark_declarator, mark_function, mark_declaration, mark_statement, mark, marked_by, marked, all_marked, refers_later, declarator_may_go, declarators_may_go, item_may_go, mark_may_go, may_go, all_may_go, AreUnseen}
use Rattle.mini_dead.proofs.Dropping.{Each, both_parts, each_weaker, named, has_each}
use Rattle.mini_dead.proofs.References.{of_set, in_set}
use Rattle.mini_dead.proofs.Declarations.{OneList, Made, AllMade, fits_made}

-- ---- what is marked stands there

abbrev Fits : Initializer → Type 0
Fits (without_effect t) = is_without_effect t ≡ true
Fits (of_function f) = Unit {0}

record InitializerStands (i : Initializer) (t : Tree) : Type 0 where
  same : initializer_tree i ≡ t
  fits : Fits i

lone_stands : (t : Tree) (f : Lone) → lone_of t ≡ Some f → lone_tree f ≡ t
lone_stands (node (shape.Function false g ds) xs n ts) f e = ap lone_tree (sym (some_is (a_function g ds xs n ts) f e))
lone_stands (node (shape.ArrowFunctionExpression ds) xs n ts) f e = ap lone_tree (sym (some_is (an_arrow ds xs n ts) f e))
lone_stands t f e = absurd (none_is f e)

function_stands : (t : Tree) (o : Option Lone) → lone_of t ≡ o → (i : Initializer) → of_lone o ≡ Some i → InitializerStands i t
function_stands t (Some f) q i e = subst (λ i. InitializerStands i t) (some_is (of_function f) i e) (record { same = lone_stands t f q; fits = tt })
function_stands t None q i e = absurd (none_is i e)

initializer_stands : (t : Tree) (i : Initializer) → initializer_of t ≡ Some i → InitializerStands i t
initializer_stands t i e = by (is_without_effect t) refl e
  where
    by : (b : Bool) → is_without_effect t ≡ b → initializer_by b t ≡ Some i → InitializerStands i t
    by true q r = subst (λ i. InitializerStands i t) (some_is (without_effect t) i r) (record { same = refl; fits = q })
    by false q r = function_stands t (lone_of t) refl i r

module _ (S : ℕ → Bool) where
  pub record DeclaratorStands (c : Declarator) (t : Tree) : Type 0 where
    pub same : declarator_tree c ≡ t
    pub known : has_name S (declarator_name c) ≡ true
    pub fits : (n : ℕ) (x : Name) (m : ℕ) (i : Initializer) → c ≡ declarator n x m i → Fits i

  made_declarator : (n : ℕ) (x : Name) (m : ℕ) (init : Tree) (i : Initializer) → has_name S x ≡ true → InitializerStands i init → DeclaratorStands (declarator n x m i) (node shape.VariableDeclarator [] n (own_name x m ▸ init ▸ none))
  made_declarator n x m init i p w = record { same = ap (λ z. node shape.VariableDeclarator [] n (own_name x m ▸ z ▸ none)) w.same; known = p; fits = λ n' x' m' j e. subst Fits (cc) w.fits }

  declarator_stands : (t : Tree) (c : Declarator) → declarator_of S t ≡ Some c → DeclaratorStands c t
  declarator_stands (node shape.VariableDeclarator [] n (node shape.BindingIdentifier (x ∷ []) m none ▸ init ▸ none)) c e = by (has_name S x) refl (initializer_of init) refl e
    where
      by : (b : Bool) → has_name S x ≡ b → (o : Option Initializer) → initializer_of init ≡ o → declarator_by S b n x m o ≡ Some c → DeclaratorStands c (node shape.VariableDeclarator [] n (own_name x m ▸ init ▸ none))
      by true p (Some i) q r = subst (λ c. DeclaratorStands c (node shape.VariableDeclarator [] n (own_name x m ▸ init ▸ none))) (some_is (declarator n x m i) c r) (made_declarator n x m init i p (initializer_stands init i q))
      by true p None q r = absurd (none_is c r)
      by false p o q r = absurd (none_is c r)
  declarator_stands t c e = absurd (none_is c e)

  abbrev EachStands : List Declarator → Trees → Type 0
  EachStands [] none = Unit {0}
  EachStands (c ∷ cs) (t ▸ ts) = DeclaratorStands c t × EachStands cs ts
  EachStands cs ts = ⊥

  declarators_stand : (ts : Trees) (cs : List Declarator) → declarators_of S ts ≡ Some cs → EachStands cs ts
  declarators_stand none cs e = subst (λ cs. EachStands cs none) (some_is [] cs e) tt
  declarators_stand (t ▸ ts) cs e = by (declarator_of S t) refl (declarators_of S ts) refl e (declarators_stand ts)
    where
      by : (o : Option Declarator) → declarator_of S t ≡ o → (os : Option (List Declarator)) → declarators_of S ts ≡ os → one_more S o os ≡ Some cs → ((ds : List Declarator) → declarators_of S ts ≡ Some ds → EachStands ds ts) → EachStands cs (t ▸ ts)
      by (Some d) p (Some ds) q r f = subst (λ cs. EachStands cs (t ▸ ts)) (some_is (d ∷ ds) cs r) (declarator_stands t d p, f ds q)
      by (Some d) p None q r f = absurd (none_is cs r)
      by None p os q r f = absurd (none_is cs r)

  same_trees : (cs : List Declarator) (ts : Trees) → EachStands cs ts → declarator_trees cs ≡ ts
  same_trees [] none a = refl
  same_trees (c ∷ cs) (t ▸ ts) a = ap (λ z. z ▸ declarator_trees cs) a.0.same ∙ ap (λ z. t ▸ z) (same_trees cs ts a.1)
  same_trees [] (t ▸ ts) a = absurd a
  same_trees (c ∷ cs) none a = absurd a

  abbrev DeclaratorFits : Declarator → Type 0
  DeclaratorFits (declarator n x m i) = Fits i

  abbrev EachFits : List Declarator → Type 0
  EachFits [] = Unit {0}
  EachFits (c ∷ cs) = DeclaratorFits c × EachFits cs

  declarator_fits : (c : Declarator) (t : Tree) → DeclaratorStands c t → DeclaratorFits c
  declarator_fits (declarator n x m i) t a = a.fits n x m i refl

  each_fits : (cs : List Declarator) (ts : Trees) → EachStands cs ts → EachFits cs
  each_fits [] none a = tt
  each_fits (c ∷ cs) (t ▸ ts) a = (declarator_fits c t a.0, each_fits cs ts a.1)
  each_fits [] (t ▸ ts) a = absurd a
  each_fits (c ∷ cs) none a = absurd a

  each_known : (cs : List Declarator) (ts : Trees) → EachStands cs ts → Each (has_name S) (declarator_names cs)
  each_known [] none a = tt
  each_known (c ∷ cs) (t ▸ ts) a = (a.0.known, each_known cs ts a.1)
  each_known [] (t ▸ ts) a = absurd a
  each_known (c ∷ cs) none a = absurd a

  abbrev ItemFits : Item → Type 0
  ItemFits (declaration_item k xs n ys m c cs) = EachFits (c ∷ cs)
  ItemFits i = Unit {0}

  pub record ItemStands (i : Item) (t : Tree) : Type 0 where
    pub same : item_tree i ≡ t
    pub known : Each (has_name S) (item_names i)
    pub fits : ItemFits i

  abbrev pub MarkStands : Role → Mark → Tree → Type 0
  MarkStands r no_item t = Unit {0}
  MarkStands r (an_item i) t = HoldsItems r × ItemStands i t
  MarkStands r (a_declarator c) t = HoldsDeclarators r × DeclaratorStands c t

  function_marked : (g : Bool) (ds : List (List ℕ)) (xs : List Name) (n : ℕ) (x : Name) (m : ℕ) (ts : Trees) (b : Bool) → has_name S x ≡ b → MarkStands StatementList (mark_function S b (function_item g ds xs n x m ts)) (node (shape.Function true g ds) xs n (own_name x m ▸ ts))
  function_marked g ds xs n x m ts true p = (tt, record { same = refl; known = (p, tt); fits = tt })
  function_marked g ds xs n x m ts false p = tt

  lone_marked : (xs : List Name) (n : ℕ) (c : Tree) (o : Option Lone) → lone_of c ≡ o → MarkStands StatementList (mark_lone xs n o) (node shape.ExpressionStatement xs n (c ▸ none))
  lone_marked xs n c (Some f) p = (tt, record { same = ap (λ z. node shape.ExpressionStatement xs n (z ▸ none)) (lone_stands c f p); known = tt; fits = tt })
  lone_marked xs n c None p = tt

  declaration_marked : (k : VariableDeclarationKind) (xs : List Name) (n : ℕ) (ys : List Name) (m : ℕ) (ts : Trees) (o : Option (List Declarator)) → declarators_of S ts ≡ o → MarkStands StatementList (mark_declaration S (declaration_item k xs n ys m) o) (node (shape.VariableDeclaration k) xs n (node shape.Listed ys m ts ▸ none))
  declaration_marked k xs n ys m ts (Some (c ∷ cs)) p =
      let a = declarators_stand ts (c ∷ cs) p in
      (tt, record { same = ap (λ z. node (shape.VariableDeclaration k) xs n (node shape.Listed ys m z ▸ none)) (same_trees (c ∷ cs) ts a); known = each_known (c ∷ cs) ts a; fits = each_fits (c ∷ cs) ts a })
  declaration_marked k xs n ys m ts (Some []) p = tt
  declaration_marked k xs n ys m ts None p = tt

  statement_marked : (t : Tree) → MarkStands StatementList (mark_statement S t) t
  statement_marked (node (shape.Function true g ds) xs n (node shape.BindingIdentifier (x ∷ []) m none ▸ ts)) = function_marked g ds xs n x m ts (has_name S x) refl
  statement_marked (node shape.ExpressionStatement xs n (c ▸ none)) = lone_marked xs n c (lone_of c) refl
  statement_marked (node (shape.VariableDeclaration k) xs n (node shape.Listed ys m ts ▸ none)) = declaration_marked k xs n ys m ts (declarators_of S ts) refl
  statement_marked t = tt

  declarator_marked : (lexical : Bool) (t : Tree) (o : Option Declarator) → declarator_of S t ≡ o → MarkStands (DeclaratorList lexical) (mark_declarator S o) t
  declarator_marked lexical t (Some c) p = (tt, declarator_stands t c p)
  declarator_marked lexical t None p = tt

  pub mark_stands : (r : Role) (t : Tree) → MarkStands r (mark S r t) t
  mark_stands StatementList t = statement_marked t
  mark_stands (DeclaratorList lexical) t = declarator_marked lexical t (declarator_of S t) refl
  mark_stands r t = tt

  -- ---- the earlier tree is the program

  one_same : (m : Mark) (r : Role) (t : Tree) (ts : Trees) → MarkStands r m t → (p : Pruned) → earlier p ≡ t → (ps : Prunings) → earlier_all ps ≡ ts → earlier_all (marked_by S m p ps) ≡ t ▸ ts
  one_same no_item r t ts a p e ps f = ap (λ z. z ▸ earlier_all ps) e ∙ ap (λ z. t ▸ z) f
  one_same (an_item i) r t ts a p e ps f = ap (λ z. z ▸ earlier_all ps) a.1.same ∙ ap (λ z. t ▸ z) f
  one_same (a_declarator c) r t ts a p e ps f = ap (λ z. z ▸ earlier_all ps) a.1.same ∙ ap (λ z. t ▸ z) f

  mutual
    unfolding marked

    pub earlier_is : (p : Spot) (t : Tree) → earlier (marked S p t) ≡ t
    earlier_is p (node h xs n ts) = ap (node h xs n) (all_earlier_is (role h p) 0 ts)

    all_earlier_is : (r : Role) (i : ℕ) (ts : Trees) → earlier_all (all_marked S r i ts) ≡ ts
    all_earlier_is r i none = refl
    all_earlier_is r i (t ▸ ts) = one_same (mark S r t) r t ts (mark_stands r t) (marked S (spot_below r i) t) (earlier_is (spot_below r i) t) (all_marked S r (suc i) ts) (all_earlier_is r (suc i) ts)

  -- ---- the names that go have symbols of the set

  one_known : (m : Mark) (r : Role) (t : Tree) → MarkStands r m t → (p : Pruned) → Each (has_name S) (gone_names p) → (ps : Prunings) → Each (has_name S) (all_gone_names ps) → Each (has_name S) (all_gone_names (marked_by S m p ps))
  one_known no_item r t a p e ps f = both_parts (has_name S) (gone_names p) (all_gone_names ps) e f
  one_known (an_item i) r t a p e ps f = both_parts (has_name S) (item_names i) (all_gone_names ps) a.1.known f
  one_known (a_declarator c) r t a p e ps f = (a.1.known, f)

  mutual
    unfolding marked

    known : (p : Spot) (t : Tree) → Each (has_name S) (gone_names (marked S p t))
    known p (node h xs n ts) = all_known (role h p) 0 ts

    all_known : (r : Role) (i : ℕ) (ts : Trees) → Each (has_name S) (all_gone_names (all_marked S r i ts))
    all_known r i none = tt
    all_known r i (t ▸ ts) = one_known (mark S r t) r t (mark_stands r t) (marked S (spot_below r i) t) (known (spot_below r i) t) (all_marked S r (suc i) ts) (all_known r (suc i) ts)

  -- ---- a declaration that stays keeps a declarator

  -- what the marks around say of a tree that stays
  abbrev Ready : Spot → Tree → Type 0
  Ready AStatement t = mark_statement S t ≡ no_item
  Ready (Declarators lexical) (node h xs n ts) = declarators_of S ts ≡ None
  Ready p t = Unit {0}

  abbrev NotAll : Tree → Type 0
  NotAll (node h xs n ts) = declarators_of S ts ≡ None

  abbrev NoneAll : Trees → Type 0
  NoneAll none = Unit {0}
  NoneAll (t ▸ ts) = NotAll t × NoneAll ts

  abbrev ListsReady : Role → Trees → Type 0
  ListsReady (Declaration lexical) ts = NoneAll ts
  ListsReady r ts = Unit {0}

  abbrev ListReady : Role → Tree → Type 0
  ListReady (Declaration lexical) t = NotAll t
  ListReady r t = Unit {0}

  first_ready : (r : Role) (t : Tree) (ts : Trees) → ListsReady r (t ▸ ts) → ListReady r t
  first_ready (Declaration lexical) t ts a = a.0
  first_ready r t ts a = tt

  rest_ready : (r : Role) (t : Tree) (ts : Trees) → ListsReady r (t ▸ ts) → ListsReady r ts
  rest_ready (Declaration lexical) t ts a = a.1
  rest_ready r t ts a = tt

  below_ready : (r : Role) (i : ℕ) (t : Tree) → mark S r t ≡ no_item → ListReady r t → Ready (spot_below r i) t
  below_ready StatementList i t e a = e
  below_ready (Declaration lexical) i (node h xs n ts) e a = a
  below_ready HasCases zero t e a = tt
  below_ready HasCases (suc i) t e a = tt
  below_ready CaseOf zero t e a = tt
  below_ready CaseOf (suc i) t e a = tt
  below_ready r i t e a = tt

  no_mark : (i : Item) → an_item i ≡ no_item → ⊥
  no_mark i e = cc

  not_all : (k : VariableDeclarationKind) (xs : List Name) (n : ℕ) (ys : List Name) (m : ℕ) (o : Option Declarator) (os : Option (List Declarator)) → mark_declaration S (declaration_item k xs n ys m) (one_more S o os) ≡ no_item → one_more S o os ≡ None
  not_all k xs n ys m (Some c) (Some cs) e = absurd (no_mark (declaration_item k xs n ys m c cs) e)
  not_all k xs n ys m (Some c) None e = refl
  not_all k xs n ys m None os e = refl

  declaration_ready : (k : VariableDeclarationKind) (xs : List Name) (n : ℕ) (ts : Trees) → OneList ts → mark_statement S (node (shape.VariableDeclaration k) xs n ts) ≡ no_item → NoneAll ts
  declaration_ready k xs n (node shape.Listed ys m (c ▸ cs) ▸ none) w e = (not_all k xs n ys m (declarator_of S c) (declarators_of S cs) e, tt)
  declaration_ready k xs n ts w e = absurd w

  children_ready : (h : Shape) (p : Spot) (xs : List Name) (n : ℕ) (ts : Trees) → Made (node h xs n ts) → Ready p (node h xs n ts) → ListsReady (role h p) ts
  children_ready (shape.VariableDeclaration k) AStatement xs n ts w a = declaration_ready k xs n ts w.0 a
  children_ready (shape.VariableDeclaration k) p xs n ts w a = tt
  children_ready shape.Listed Elsewhere xs n ts w a = tt
  children_ready shape.Listed p xs n ts w a = tt
  children_ready shape.SwitchCase OneCase xs n ts w a = tt
  children_ready shape.SwitchCase p xs n ts w a = tt
  children_ready h p xs n ts w a = tt

  module _ (rounds : ℕ → ℕ) (T : Tree) (D : VariableSet) (within : (x : Variable) → D x ≡ true → of_set S x ≡ true) (hidden : AreUnseen S T) where
    one_stays : (o : Option Declarator) (os : Option (List Declarator)) → one_more S o os ≡ None → (p : Pruned) (ps : Prunings) → (os ≡ None → some_stay ps ≡ true) → some_stay (marked_by S (mark_declarator S o) p ps) ≡ true
    one_stays None os e p ps f = refl
    one_stays (Some c) None e p ps f = f refl
    one_stays (Some c) (Some cs) e p ps f = absurd (none_is (c ∷ cs) (sym e))

    some_stays : (lexical : Bool) (i : ℕ) (ts : Trees) → declarators_of S ts ≡ None → some_stay (all_marked S (DeclaratorList lexical) i ts) ≡ true
    unfolding marked
    some_stays lexical i none e = absurd (none_is [] (sym e))
    some_stays lexical i (t ▸ ts) e = one_stays (declarator_of S t) (declarators_of S ts) e (marked S (spot_below (DeclaratorList lexical) i) t) (all_marked S (DeclaratorList lexical) (suc i) ts) (λ f. some_stays lexical (suc i) ts f)

    keeps : (h : Shape) (p : Spot) (xs : List Name) (n : ℕ) (ts : Trees) → Ready p (node h xs n ts) → KeepsDeclarator (role h p) (all_marked S (role h p) 0 ts)
    keeps shape.Listed (Declarators lexical) xs n ts a = some_stays lexical 0 ts a
    keeps shape.Listed p xs n ts a = tt
    keeps (shape.VariableDeclaration k) AStatement xs n ts a = tt
    keeps (shape.VariableDeclaration k) p xs n ts a = tt
    keeps shape.SwitchCase OneCase xs n ts a = tt
    keeps shape.SwitchCase p xs n ts a = tt
    keeps h p xs n ts a = tt

    -- ---- what goes is dead

    its_symbol : (x : Name) → of_set S (variable_of x) ≡ true → has_name S x ≡ true
    its_symbol x p = by x.symbol p
      where
        by : (o : Option SymbolId) → of_set S (variable_by x.spelling o) ≡ true → has_it S o ≡ true
        by (Some s) q = q
        by None q = absurd (true≢false (sym q))

    later_round : (b : Bool) (k m : ℕ) → b ≡ true → (not b || nat_le (suc k) m) ≡ true → k < m
    later_round true k m p e = leb-true (suc k) m e
    later_round false k m p e = absurd (true≢false (sym p))

    go_later : (k : ℕ) (rs : List Reference) → refers_later S rounds k rs ≡ true → GoLater T D rounds k rs
    go_later k [] e = tt
    go_later k (r ∷ rs) e = (
      λ p. later_round (has_name S r.name) k (round_of rounds r.name) (its_symbol r.name (within (variable_of r.name) p)) (left (not (has_name S r.name) || nat_le (suc k) (round_of rounds r.name)) (refers_later S rounds k rs) e),
      go_later k rs (right (not (has_name S r.name) || nat_le (suc k) (round_of rounds r.name)) (refers_later S rounds k rs) e),
    )

    name_dead : (x : Name) (rs : List Reference) → has_name S x ≡ true → refers_later S rounds (round_of rounds x) rs ≡ true → NameIsDead T D rounds x rs
    name_dead x rs p e = (by x.symbol p, go_later (round_of rounds x) rs e)
      where
        by : (o : Option SymbolId) → has_it S o ≡ true → has_it (is_unseen T) o ≡ true
        by (Some s) q = ap not (hidden s.0 q)
        by None q = q

    initializer_dead : (i : Initializer) → Fits i → InitializerIsDead i
    initializer_dead (without_effect c) a = a
    initializer_dead (of_function f) a = tt

    declarator_dead : (c : Declarator) → has_name S (declarator_name c) ≡ true → DeclaratorFits c → declarator_may_go S rounds c ≡ true → DeclaratorIsDead T D rounds c
    declarator_dead (declarator n x m i) p f e = (name_dead x (references Read (initializer_tree i)) p e, initializer_dead i f)

    declarators_dead : (cs : List Declarator) → Each (has_name S) (declarator_names cs) → EachFits cs → declarators_may_go S rounds cs ≡ true → DeclaratorsAreDead T D rounds cs
    declarators_dead [] p f e = tt
    declarators_dead (c ∷ cs) p f e = (declarator_dead c p.0 f.0 (left (declarator_may_go S rounds c) (declarators_may_go S rounds cs) e), declarators_dead cs p.1 f.1 (right (declarator_may_go S rounds c) (declarators_may_go S rounds cs) e))

    item_dead : (i : Item) → Each (has_name S) (item_names i) → ItemFits i → item_may_go S rounds i ≡ true → ItemIsDead T D rounds i
    item_dead (function_item g ds xs n x m ts) p f e = name_dead x (references_from (λ i. Read) 0 ts) p.0 e
    item_dead (declaration_item k xs n ys m c cs) p f e = declarators_dead (c ∷ cs) p f e
    item_dead (lone_item xs n v) p f e = tt

    one_drops : (r : Role) (i : ℕ) (t : Tree) (b : Bool) (m : Mark) → MarkStands r m t → mark_may_go S rounds m b ≡ true → (p : Pruned) → (m ≡ no_item → b ≡ true → DropsDead T D rounds (spot_below r i) p) → (ps : Prunings) → AllDropDead T D rounds r (suc i) ps → AllDropDead T D rounds r i (marked_by S m p ps)
    one_drops r i t b no_item a e p f ps g = (f refl e, g)
    one_drops r i t b (an_item c) a e p f ps g = (a.0, item_dead c a.1.known a.1.fits e, g)
    one_drops r i t b (a_declarator c) a e p f ps g = (a.0, declarator_dead c a.1.known (declarator_fits c t a.1) e, g)

    mutual
      unfolding marked may_go

      drops : (p : Spot) (t : Tree) → Made t → Ready p t → may_go S rounds p t ≡ true → DropsDead T D rounds p (marked S p t)
      drops p (node h xs n ts) w a e = (keeps h p xs n ts a, all_drop (role h p) 0 ts w.1 (children_ready h p xs n ts w a) (right (not (list_any (has_name S) xs)) (all_may_go S rounds (role h p) 0 ts) e))

      all_drop : (r : Role) (i : ℕ) (ts : Trees) → AllMade ts → ListsReady r ts → all_may_go S rounds r i ts ≡ true → AllDropDead T D rounds r i (all_marked S r i ts)
      all_drop r i none w a e = tt
      all_drop r i (t ▸ ts) w a e =
          one_drops r i t (may_go S rounds (spot_below r i) t) (mark S r t) (mark_stands r t) (left (mark_may_go S rounds (mark S r t) (may_go S rounds (spot_below r i) t)) (all_may_go S rounds r (suc i) ts) e)
          (marked S (spot_below r i) t) (λ q f. drops (spot_below r i) t w.0 (below_ready r i t q (first_ready r t ts a)) f)
          (all_marked S r (suc i) ts) (all_drop r (suc i) ts w.1 (rest_ready r t ts a) (right (mark_may_go S rounds (mark S r t) (may_go S rounds (spot_below r i) t)) (all_may_go S rounds r (suc i) ts) e))

    -- ---- what stays names no symbol of the set

    not_in : (x : Name) → has_name S x ≡ false → D (variable_of x) ≡ false
    not_in x p = by (D (variable_of x)) refl
      where
        by : (b : Bool) → D (variable_of x) ≡ b → b ≡ false
        by true q = absurd (true≢false (sym (its_symbol x (within (variable_of x) q)) ∙ p))
        by false q = refl

    none_in : (xs : List Name) → not (list_any (has_name S) xs) ≡ true → NoneIn D (variables xs)
    none_in [] e = tt
    none_in (x ∷ xs) e = by (has_name S x) refl e (none_in xs)
      where
        by : (b : Bool) → has_name S x ≡ b → not (b || list_any (has_name S) xs) ≡ true → (not (list_any (has_name S) xs) ≡ true → NoneIn D (variables xs)) → (D (variable_of x) ≡ false) × NoneIn D (variables xs)
        by true p q f = absurd (true≢false (sym q))
        by false p q f = (not_in x p, f q)

    one_avoids : (m : Mark) (b : Bool) → mark_may_go S rounds m b ≡ true → (p : Pruned) → (b ≡ true → Avoids D (later p)) → (ps : Prunings) → AllAvoid D (later_all ps) → AllAvoid D (later_all (marked_by S m p ps))
    one_avoids no_item b e p f ps g = (f e, g)
    one_avoids (an_item i) b e p f ps g = g
    one_avoids (a_declarator c) b e p f ps g = g

    mutual
      unfolding marked may_go

      avoids : (p : Spot) (t : Tree) → may_go S rounds p t ≡ true → Avoids D (later (marked S p t))
      avoids p (node h xs n ts) e = (none_in xs (left (not (list_any (has_name S) xs)) (all_may_go S rounds (role h p) 0 ts) e), all_avoid (role h p) 0 ts (right (not (list_any (has_name S) xs)) (all_may_go S rounds (role h p) 0 ts) e))

      all_avoid : (r : Role) (i : ℕ) (ts : Trees) → all_may_go S rounds r i ts ≡ true → AllAvoid D (later_all (all_marked S r i ts))
      all_avoid r i none e = tt
      all_avoid r i (t ▸ ts) e =
          one_avoids (mark S r t) (may_go S rounds (spot_below r i) t) (left (mark_may_go S rounds (mark S r t) (may_go S rounds (spot_below r i) t)) (all_may_go S rounds r (suc i) ts) e) (marked S (spot_below r i) t) (λ f. avoids (spot_below r i) t f)
          (all_marked S r (suc i) ts) (all_avoid r (suc i) ts (right (mark_may_go S rounds (mark S r t) (may_go S rounds (spot_below r i) t)) (all_may_go S rounds r (suc i) ts) e))

pub may_go_drops : law.MayGoDrops
may_go_drops S rounds t shaped hidden e = record {
  pruned = marked S Elsewhere t;
  before = earlier_is S Elsewhere t;
  after = refl;
  rounds = rounds;
  dead = drops S rounds t (gone (marked S Elsewhere t)) within hidden Elsewhere t (fits_made false (one a_program) t shaped) tt e;
  unnamed = avoids S rounds t (gone (marked S Elsewhere t)) within hidden Elsewhere t e;
  number = refl;
}
  where
    within : (x : Variable) → gone (marked S Elsewhere t) x ≡ true → of_set S x ≡ true
    within x p = has_each (of_set S) (gone_names (marked S Elsewhere t)) (each_weaker (has_name S) (named (of_set S)) (gone_names (marked S Elsewhere t)) (in_set S) (known S Elsewhere t)) x p

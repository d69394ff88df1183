-- The dead symbols of a program may go at once.
use Rattle.std.proofs.Common.{◌≡◌, ℕ, suc, Bool, true, false, List, [], ◌∷◌, length, Option, Some, None, refl, sym, ap, ◌∙◌, subst, true≢false, eq-eqb, eqb-true, arith}
use Rattle.std.specs.Prelude.{◌+◌, nat_le, nat_eq, not, ◌||◌, map, is_some, if◌then◌else◌}
use Rattle.std.specs.List.{list_any}
use Rattle.mini_model.specs.declared.kind.VariableDeclarationKind.{VariableDeclarationKind}
use Rattle.mini_model.specs.declared.name.Name.{Name}
use Rattle.mini_model.specs.declared.name.SymbolId.{SymbolId}
use Rattle.mini_model.specs.declared.shape.Shape.{Shape}
use Rattle.mini_model.specs.declared.shape.Shape.TheVariants as shape
use Rattle.mini_model.specs.Tree.{Tree, Trees, node, none, ◌▸◌}
use Rattle.mini_laws.specs.declared.names.Use.TheVariants.{Read}
use Rattle.mini_laws.specs.References.{Reference, has_symbol, own_references, references, references_from}
use Rattle.mini_laws.specs.Shared.{is_shared_always}
use Rattle.mini_laws.specs.ScopeList.{by_symbol}
use Rattle.mini_laws.specs.Naming.{is_lexical}
use Rattle.mini_kept.proofs.Bools.{right, both}
use Rattle.mini_dead.proofs.Basics.{neither, some_is, none_is}
use Rattle.mini_dead.specs.Pruned.{Spot, Elsewhere, AStatement, Role, StatementList, DeclaratorList, role, spot_below, Lone, Initializer, initializer_tree, own_name, Declarator, declarator, declarator_tree, declarator_trees, Item, function_item, declaration_item, lone_item, item_tree, Pruned, Prunings}
use Rattle.mini_dead.specs.Dead.{is_function_value, is_without_effect, is_dispensable, name_if, item_name, has_this_symbol, declares, declares_otherwise, any_declares_otherwise, declares_inside, is_unreferenced, is_dead_symbol, has_it, has_name, has_item_name, is_dead, dead_items, all_dead_items}
use Rattle.mini_dead.specs.Drops.{round_of, item_count, gone_count, all_gone_count}
use Rattle.mini_dead.specs.Marked as law
use Rattle.mini_dead.specs.Marked.{lone_of, of_lone, initializer_by, initializer_of, Mark, no_item, an_item, a_declarator, declarator_by, declarator_of, mark_declarator, mark_lone, one_more, declarators_of, mark_function, mark_declaration, mark_statement, mark, marked_by, marked, all_marked, less_count, refers_later, declarator_may_go, declarators_may_go, item_may_go, mark_may_go, may_go, all_may_go, AreUnseen}
use Rattle.mini_dead.proofs.References.{NoneRefers, Free, AllFree, free_own, free_kids, free_first, free_rest, item_otherwise, unreferred, not_otherwise}
use Rattle.mini_dead.proofs.Marking.{MarkStands, mark_stands, may_go_drops}

-- ---- an item whose name is in a set is marked

lone_there : (t : Tree) → is_function_value t ≡ true → is_some (lone_of t) ≡ true
lone_there (node (shape.Function false g ds) xs n ts) e = refl
lone_there (node (shape.ArrowFunctionExpression ds) xs n ts) e = refl
lone_there t e = absurd (true≢false (sym e))

initializer_there : (t : Tree) → is_dispensable t ≡ true → is_some (initializer_of t) ≡ true
initializer_there t e = by (is_without_effect t) e
  where
    of_function : (o : Option Lone) → is_some o ≡ true → is_some (of_lone o) ≡ true
    of_function (Some f) p = refl
    of_function None p = p

    by : (b : Bool) → (b || is_function_value t) ≡ true → is_some (initializer_by b t) ≡ true
    by true p = refl
    by false p = of_function (lone_of t) (lone_there t p)

if_there : (b : Bool) (x y : Name) → name_if b x ≡ Some y → (b ≡ true) × (x ≡ y)
if_there true x y e = (refl, some_is x y e)
if_there false x y e = absurd (none_is y e)

module _ (S : ℕ → Bool) where
  function_unmarked : (b : Bool) (i : Item) → mark_function S b i ≡ no_item → b ≡ false
  function_unmarked true i e = cc
  function_unmarked false i e = refl

  declarator_unmarked : (b : Bool) (n : ℕ) (x : Name) (m : ℕ) (o : Option Initializer) → is_some o ≡ true → mark_declarator S (declarator_by S b n x m o) ≡ no_item → b ≡ false
  declarator_unmarked true n x m (Some i) p e = cc
  declarator_unmarked true n x m None p e = absurd (true≢false (sym p))
  declarator_unmarked false n x m o p e = refl

  unmarked : (r : Role) (c : Tree) (y : Name) → item_name r c ≡ Some y → mark S r c ≡ no_item → has_name S y ≡ false
  unmarked StatementList (node (shape.Function true g ds) xs n (node shape.BindingIdentifier (x ∷ []) m none ▸ ts)) y e f = ap (has_name S) (sym (some_is x y e)) ∙ function_unmarked (has_name S x) (function_item g ds xs n x m ts) f
  unmarked (DeclaratorList lexical) (node shape.VariableDeclarator [] n (node shape.BindingIdentifier (x ∷ []) m none ▸ init ▸ none)) y e f =
      let q = if_there (is_dispensable init) x y e in
      ap (has_name S) (sym q.1) ∙ declarator_unmarked (has_name S x) n x m (initializer_of init) (initializer_there init q.0) f
  unmarked r c y e f = absurd (none_is y e)

  -- ---- a tree that has no reference to a symbol of the set, and in which items alone declare one

  abbrev Unreferred : Tree → Type 0
  Unreferred t = (s : ℕ) → S s ≡ true → Free s t

  abbrev AllUnreferred : Trees → Type 0
  AllUnreferred ts = (s : ℕ) → S s ≡ true → AllFree s ts

  absent_symbol : (o : Option SymbolId) → ((s : ℕ) → S s ≡ true → has_symbol s o ≡ false) → has_it S o ≡ false
  absent_symbol None g = refl
  absent_symbol (Some s) g = at (S s.0) refl
    where
      at : (b : Bool) → S s.0 ≡ b → b ≡ false
      at true q = absurd (true≢false (sym (eq-eqb s.0 s.0 refl) ∙ g s.0 q))
      at false q = refl

  all_later : (k : ℕ) (rs : List Reference) → ((s : ℕ) → S s ≡ true → NoneRefers s rs) → refers_later S (λ s. 0) k rs ≡ true
  all_later k [] f = refl
  all_later k (r ∷ rs) f = both (not (has_name S r.name) || nat_le (suc k) (round_of (λ s. 0) r.name)) (refers_later S (λ s. 0) k rs) (ap (λ b. not b || nat_le (suc k) (round_of (λ s. 0) r.name)) (absent_symbol r.name.symbol (λ s p. (f s p).0))) (all_later k rs (λ s p. (f s p).1))

  declarator_later : (c : Declarator) → Unreferred (declarator_tree c) → declarator_may_go S (λ s. 0) c ≡ true
  declarator_later (declarator n x m init) f =
      all_later (round_of (λ s. 0) x) (references Read (initializer_tree init)) (λ s p. free_first s (initializer_tree init) none (free_rest s (own_name x m) (initializer_tree init ▸ none) (free_kids s shape.VariableDeclarator [] n (own_name x m ▸ initializer_tree init ▸ none) (f s p))))

  declarators_later : (cs : List Declarator) → AllUnreferred (declarator_trees cs) → declarators_may_go S (λ s. 0) cs ≡ true
  declarators_later [] f = refl
  declarators_later (c ∷ cs) f =
      both (declarator_may_go S (λ s. 0) c) (declarators_may_go S (λ s. 0) cs) (declarator_later c (λ s p. free_first s (declarator_tree c) (declarator_trees cs) (f s p))) (declarators_later cs (λ s p. free_rest s (declarator_tree c) (declarator_trees cs) (f s p)))

  item_later : (i : Item) → Unreferred (item_tree i) → item_may_go S (λ s. 0) i ≡ true
  item_later (function_item g ds xs n x m ts) f =
      all_later (round_of (λ s. 0) x) (references_from (λ i. Read) 0 ts) (λ s p. free_rest s (own_name x m) ts (free_kids s (shape.Function true g ds) xs n (own_name x m ▸ ts) (f s p)))
  item_later (declaration_item k xs n ys m c cs) f =
      declarators_later (c ∷ cs) (λ s p. free_kids s shape.Listed ys m (declarator_trees (c ∷ cs)) (free_first s (node shape.Listed ys m (declarator_trees (c ∷ cs))) none (free_kids s (shape.VariableDeclaration k) xs n (node shape.Listed ys m (declarator_trees (c ∷ cs)) ▸ none) (f s p))))
  item_later (lone_item xs n v) f = refl

  -- the names of a node
  names_absent : (xs : List Name) → ((s : ℕ) → S s ≡ true → list_any (has_this_symbol s) xs ≡ false) → list_any (has_name S) xs ≡ false
  names_absent [] f = refl
  names_absent (x ∷ xs) f =
      ap (λ b. b || list_any (has_name S) xs) (absent_symbol x.symbol (λ s p. (neither (has_this_symbol s x) (list_any (has_this_symbol s) xs) (f s p)).0))
      ∙ names_absent xs (λ s p. (neither (has_this_symbol s x) (list_any (has_this_symbol s) xs) (f s p)).1)

  as_names : (s : ℕ) (xs : List Name) → NoneRefers s (map (λ x. record { name = x; used = Read }) xs) → list_any (has_this_symbol s) xs ≡ false
  as_names s [] a = refl
  as_names s (x ∷ xs) a = ap (λ b. b || list_any (has_this_symbol s) xs) a.0 ∙ as_names s xs a.1

  own_absent : (h : Shape) (xs : List Name) → ((s : ℕ) → S s ≡ true → NoneRefers s (own_references Read h xs)) → ((s : ℕ) → S s ≡ true → declares s h xs ≡ false) → list_any (has_name S) xs ≡ false
  own_absent shape.Identifier xs f g = names_absent xs (λ s p. as_names s xs (f s p))
  own_absent h xs f g = names_absent xs g

  -- of an item that isn't marked
  other_symbol : (s : ℕ) → S s ≡ true → (o : Option SymbolId) → has_it S o ≡ false → has_symbol s o ≡ false
  other_symbol s p None q = refl
  other_symbol s p (Some k) q = by (nat_eq k.0 s) refl
    where
      by : (b : Bool) → nat_eq k.0 s ≡ b → b ≡ false
      by true e = absurd (true≢false (sym p ∙ ap S (sym (eqb-true k.0 s e)) ∙ q))
      by false e = refl

  whole : (r : Role) (p : Spot) (c : Tree) → mark S r c ≡ no_item → (s : ℕ) → S s ≡ true → (o : Option Name) → item_name r c ≡ o → (if is_some o then declares_inside s c else declares_otherwise s p c) ≡ false → declares_otherwise s p c ≡ false
  whole r p c e s q None f a = a
  whole r p c e s q (Some y) f a = item_otherwise s r c y f (other_symbol s q y.symbol (unmarked r c y f e)) a p

  one_may_go : (r : Role) (c : Tree) (m : Mark) (b : Bool) → MarkStands S r m c → Unreferred c → (m ≡ no_item → b ≡ true) → mark_may_go S (λ s. 0) m b ≡ true
  one_may_go r c no_item b a f g = g refl
  one_may_go r c (an_item i) b a f g = item_later i (subst Unreferred (sym a.1.same) f)
  one_may_go r c (a_declarator d) b a f g = declarator_later d (subst Unreferred (sym a.1.same) f)

  mutual
    unfolding may_go declares_otherwise

    goes_free : (p : Spot) (c : Tree) → Unreferred c → ((s : ℕ) → S s ≡ true → declares_otherwise s p c ≡ false) → may_go S (λ s. 0) p c ≡ true
    goes_free p (node h xs n ts) f g =
        both (not (list_any (has_name S) xs)) (all_may_go S (λ s. 0) (role h p) 0 ts) (ap not (own_absent h xs (λ s q. free_own s h xs n ts (f s q)) (λ s q. (neither (declares s h xs) (any_declares_otherwise s (role h p) 0 ts) (g s q)).0)))
        (all_go_free (role h p) 0 ts (λ s q. free_kids s h xs n ts (f s q)) (λ s q. (neither (declares s h xs) (any_declares_otherwise s (role h p) 0 ts) (g s q)).1))

    all_go_free : (r : Role) (i : ℕ) (ts : Trees) → AllUnreferred ts → ((s : ℕ) → S s ≡ true → any_declares_otherwise s r i ts ≡ false) → all_may_go S (λ s. 0) r i ts ≡ true
    all_go_free r i none f g = refl
    all_go_free r i (c ▸ ts) f g =
        both (mark_may_go S (λ s. 0) (mark S r c) (may_go S (λ s. 0) (spot_below r i) c)) (all_may_go S (λ s. 0) r (suc i) ts)
        (one_may_go r c (mark S r c) (may_go S (λ s. 0) (spot_below r i) c) (mark_stands S r c) (λ s q. free_first s c ts (f s q))
        (λ e. goes_free (spot_below r i) c (λ s q. free_first s c ts (f s q)) (λ s q. whole r (spot_below r i) c e s q (item_name r c) refl (neither (if is_some (item_name r c) then declares_inside s c else declares_otherwise s (spot_below r i) c) (any_declares_otherwise s r (suc i) ts) (g s q)).0)))
        (all_go_free r (suc i) ts (λ s q. free_rest s c ts (f s q)) (λ s q. (neither (if is_some (item_name r c) then declares_inside s c else declares_otherwise s (spot_below r i) c) (any_declares_otherwise s r (suc i) ts) (g s q)).1))

-- ---- how many go

lone_is : (t : Tree) → is_function_value t ≡ is_some (lone_of t)
lone_is (node (shape.Function false g ds) xs n ts) = refl
lone_is (node (shape.ArrowFunctionExpression ds) xs n ts) = refl
lone_is t = refl

initializer_is : (t : Tree) → is_dispensable t ≡ is_some (initializer_of t)
initializer_is t = by (is_without_effect t)
  where
    some_function : (o : Option Lone) → is_some o ≡ is_some (of_lone o)
    some_function (Some f) = refl
    some_function None = refl

    by : (b : Bool) → (b || is_function_value t) ≡ is_some (initializer_by b t)
    by true = refl
    by false = lone_is t ∙ some_function (lone_of t)

abbrev mark_count : Mark → ℕ → ℕ
mark_count no_item n = n
mark_count (an_item i) n = item_count i
mark_count (a_declarator c) n = 1

module _ (t : Tree) where
  abbrev S : ℕ → Bool
  S = is_dead_symbol t

  function_count : (b : Bool) (g : Bool) (ds : List (List ℕ)) (xs : List Name) (n : ℕ) (x : Name) (m : ℕ) (ts : Trees) (k : ℕ) → mark_count (mark_function S b (function_item g ds xs n x m ts)) k ≡ (if b then 1 else k)
  function_count true g ds xs n x m ts k = refl
  function_count false g ds xs n x m ts k = refl

  lone_count : (xs : List Name) (n : ℕ) (o : Option Lone) (k : ℕ) → mark_count (mark_lone xs n o) k ≡ (if is_some o || false then 1 else k)
  lone_count xs n (Some f) k = refl
  lone_count xs n None k = refl

  declarator_count : (b : Bool) (n : ℕ) (x : Name) (m : ℕ) (o : Option Initializer) (k : ℕ) → b ≡ has_name S x → mark_count (mark_declarator S (declarator_by S b n x m o)) k ≡ (if has_item_name S (name_if (is_some o) x) then 1 else k)
  declarator_count true n x m (Some i) k p = ap (λ b. if b then 1 else k) p
  declarator_count false n x m (Some i) k p = ap (λ b. if b then 1 else k) p
  declarator_count true n x m None k p = refl
  declarator_count false n x m None k p = refl

  -- one declarator, or none
  declarator_dead : (lexical : Bool) (c : Tree) (k : ℕ) → mark_count (mark_declarator S (declarator_of S c)) k ≡ (if is_dead t (DeclaratorList lexical) c then 1 else k)
  declarator_dead lexical (node shape.VariableDeclarator [] n (node shape.BindingIdentifier (x ∷ []) m none ▸ init ▸ none)) k =
      declarator_count (has_name S x) n x m (initializer_of init) k refl ∙ ap (λ b. if has_item_name S (name_if b x) then 1 else k) (sym (initializer_is init))
  declarator_dead lexical c k = refl

  some_counted : (o : Option Declarator) (os : Option (List Declarator)) (d : Declarator) (ds : List Declarator) → one_more S o os ≡ Some (d ∷ ds) → (o ≡ Some d) × (os ≡ Some ds)
  some_counted (Some c) (Some cs) d ds e = (cc, cc)
  some_counted (Some c) None d ds e = absurd (none_is (d ∷ ds) e)
  some_counted None os d ds e = absurd (none_is (d ∷ ds) e)

  not_empty : (o : Option Declarator) (os : Option (List Declarator)) → one_more S o os ≡ Some [] → ⊥
  not_empty (Some c) (Some cs) e = cc
  not_empty (Some c) None e = none_is [] e
  not_empty None os e = none_is [] e

  -- declarators that all go
  each_counted : (lexical : Bool) (i : ℕ) (cs : Trees) (ds : List Declarator) → declarators_of S cs ≡ Some ds → all_dead_items t (DeclaratorList lexical) i cs ≡ length ds
  unfolding dead_items
  each_counted lexical i none [] e = refl
  each_counted lexical i none (d ∷ ds) e = cc
  each_counted lexical i (c ▸ cs) [] e = absurd (not_empty (declarator_of S c) (declarators_of S cs) e)
  each_counted lexical i (c ▸ cs) (d ∷ ds) e =
      let w = some_counted (declarator_of S c) (declarators_of S cs) d ds e in
      let one = sym (declarator_dead lexical c (dead_items t (spot_below (DeclaratorList lexical) i) c)) ∙ ap (λ o. mark_count (mark_declarator S o) (dead_items t (spot_below (DeclaratorList lexical) i) c)) w.0 in
      omega (arith, one, each_counted lexical (suc i) cs ds w.1)

  declaration_count : (k : VariableDeclarationKind) (xs : List Name) (n : ℕ) (ys : List Name) (m : ℕ) (cs : Trees) (o : Option (List Declarator)) → declarators_of S cs ≡ o → mark_count (mark_declaration S (declaration_item k xs n ys m) o) (dead_items t AStatement (node (shape.VariableDeclaration k) xs n (node shape.Listed ys m cs ▸ none))) ≡ dead_items t AStatement (node (shape.VariableDeclaration k) xs n (node shape.Listed ys m cs ▸ none))
  unfolding dead_items
  declaration_count k xs n ys m cs (Some (d ∷ ds)) e = omega (arith, each_counted (is_lexical k) 0 cs (d ∷ ds) e)
  declaration_count k xs n ys m cs (Some []) e = refl
  declaration_count k xs n ys m cs None e = refl

  statement_count : (c : Tree) → mark_count (mark_statement S c) (dead_items t AStatement c) ≡ (if is_dead t StatementList c then 1 else dead_items t AStatement c)
  statement_count (node (shape.Function true g ds) xs n (node shape.BindingIdentifier (x ∷ []) m none ▸ ts)) = function_count (has_name S x) g ds xs n x m ts (dead_items t AStatement (node (shape.Function true g ds) xs n (own_name x m ▸ ts)))
  statement_count (node shape.ExpressionStatement xs n (c ▸ none)) = lone_count xs n (lone_of c) (dead_items t AStatement (node shape.ExpressionStatement xs n (c ▸ none))) ∙ ap (λ b. if b || false then 1 else dead_items t AStatement (node shape.ExpressionStatement xs n (c ▸ none))) (sym (lone_is c))
  statement_count (node (shape.VariableDeclaration k) xs n (node shape.Listed ys m cs ▸ none)) = declaration_count k xs n ys m cs (declarators_of S cs) refl
  statement_count c = refl

  part_count : (r : Role) (i : ℕ) (c : Tree) → mark_count (mark S r c) (dead_items t (spot_below r i) c) ≡ (if is_dead t r c then 1 else dead_items t (spot_below r i) c)
  part_count StatementList i c = statement_count c
  part_count (DeclaratorList lexical) i c = declarator_dead lexical c (dead_items t (spot_below (DeclaratorList lexical) i) c)
  part_count r i c = refl

  one_count : (m : Mark) (p : Pruned) (ps : Prunings) → all_gone_count (marked_by S m p ps) ≡ mark_count m (gone_count p) + all_gone_count ps
  one_count no_item p ps = refl
  one_count (an_item i) p ps = refl
  one_count (a_declarator c) p ps = omega arith

  mutual
    unfolding marked dead_items

    counted : (p : Spot) (c : Tree) → gone_count (marked S p c) ≡ dead_items t p c
    counted p (node h xs n ts) = all_counted (role h p) 0 ts

    all_counted : (r : Role) (i : ℕ) (ts : Trees) → all_gone_count (all_marked S r i ts) ≡ all_dead_items t r i ts
    all_counted r i none = refl
    all_counted r i (c ▸ ts) =
        one_count (mark S r c) (marked S (spot_below r i) c) (all_marked S r (suc i) ts)
        ∙ ap (λ n. mark_count (mark S r c) n + all_gone_count (all_marked S r (suc i) ts)) (counted (spot_below r i) c)
        ∙ ap (λ n. n + all_gone_count (all_marked S r (suc i) ts)) (part_count r i c)
        ∙ ap (λ n. (if is_dead t r c then 1 else dead_items t (spot_below r i) c) + n) (all_counted r (suc i) ts)

unseen : (t : Tree) (s : ℕ) → is_dead_symbol t s ≡ true → is_shared_always t (by_symbol s) ≡ false
unseen t s p = by (is_shared_always t (by_symbol s)) (right (not (declares_otherwise s Elsewhere t)) (not (is_shared_always t (by_symbol s))) (right (is_unreferenced t s) _ p))
  where
    by : (b : Bool) → not b ≡ true → b ≡ false
    by true q = absurd (true≢false (sym q))
    by false q = refl

pub dead_symbols_go : law.DeadSymbolsGo
dead_symbols_go S t shaped dead =
    may_go_drops S (λ s. 0) t shaped (λ s p. unseen t s (dead s p)) (goes_free S Elsewhere t (λ s p. unreferred t s (dead s p)) (λ s p. not_otherwise t s (dead s p)))

pub dead_items_counted : law.DeadItemsCounted
dead_items_counted t = counted t Elsewhere t

-- What the code asks of a part of a list is what is marked there.
use Rattle.std.proofs.Common.{◌≡◌, ℕ, zero, suc, Bool, true, false, List, [], ◌∷◌, Option, Some, None, refl, sym, ap, ◌∙◌, true≢false, add-one, ◌+◌, ◌<◌, ◌≤◌}
use Rattle.std.proofs.Math.Dec.{eqb-zero-suc, eqb-suc-zero, eqb-suc-suc}
use Rattle.std.specs.Prelude.{◌&&◌, ◌||◌, nat_eq, is_some, length, if◌then◌else◌}
use Rattle.mini_model.specs.Paths.{child_at}
use Rattle.mini_node.specs.Children.{has_count, rest_children}
use Rattle.mini_node.specs.Walks.{next_child, no_rest, from_first}
use Rattle.mini_model.specs.declared.kind.VariableDeclarationKind.{VariableDeclarationKind}
use Rattle.mini_model.specs.declared.name.Name.{Name}
use Rattle.mini_model.specs.declared.shape.Shape.TheVariants as shape
use Rattle.mini_model.specs.Tree.{Tree, Trees, node, none, ◌▸◌, count, children, child_or_absent, shape_of}
use Rattle.mini_dead.specs.Pruned.{Role, StatementList, DeclaratorList, Lone, Initializer, Declarator, Item, function_item, declaration_item}
use Rattle.mini_dead.specs.Dead.{has_name, is_dispensable, is_function_value, is_without_effect, name_if, item_name}
use Rattle.mini_dead.specs.Drops.{item_count}
use Rattle.mini_dead.specs.Marked.{lone_of, of_lone, initializer_by, initializer_of, Mark, no_item, an_item, a_declarator, mark_lone, declarator_by, declarator_of, one_more, declarators_of, mark_declarator, mark_function, mark_declaration, mark_statement, mark}
use Rattle.mini_drop.specs.Asked as item
use Rattle.mini_drop.specs.Asked.{is_plain, is_plain_declarator, is_item, one_if, binds, declarator_goes, all_go, items_by, items_of}

abbrev pub mark_count : Mark → ℕ
mark_count no_item = 0
mark_count (an_item i) = item_count i
mark_count (a_declarator c) = 1

pub counted : (ts : Trees) (k : ℕ) → nat_eq (count ts) k ≡ has_count ts k
counted none zero = refl
counted none (suc k) = eqb-zero-suc k
counted (t ▸ ts) zero = eqb-suc-zero (count ts)
counted (t ▸ ts) (suc k) = eqb-suc-suc (count ts) k ∙ counted ts k

pub as_many : (ts : Trees) (k : ℕ) → has_count ts k ≡ true → count ts ≡ k
as_many none zero e = refl
as_many none (suc k) e = absurd (true≢false (sym e))
as_many (t ▸ ts) zero e = absurd (true≢false (sym e))
as_many (t ▸ ts) (suc k) e = ap suc (as_many ts k e)

lone_is : (t : Tree) → is_function_value t ≡ is_some (lone_of t)
lone_is (node (shape.Function false g ds) xs n ts) = refl
lone_is (node (shape.ArrowFunctionExpression ds) xs n ts) = refl
lone_is t = refl

initializer_is : (t : Tree) → is_dispensable t ≡ is_some (initializer_of t)
initializer_is t = by (is_without_effect t)
  where
    some_function : (o : Option Lone) → is_some o ≡ is_some (of_lone o)
    some_function (Some f) = refl
    some_function None = refl

    by : (b : Bool) → (b || is_function_value t) ≡ is_some (initializer_by b t)
    by true = refl
    by false = lone_is t ∙ some_function (lone_of t)

lone_told : (xs : List Name) (n : ℕ) (o : Option Lone) → one_if (is_some o) ≡ mark_count (mark_lone xs n o)
lone_told xs n (Some f) = refl
lone_told xs n None = refl

none_is : (t : Tree) → None ≡ Some t → ⊥
none_is t e = cc

abbrev got : Tree → Option Tree → Tree
got t (Some u) = u
got t None = t

pub plain_first : (ts : Trees) (t : Tree) → Some t ≡ child_at ts 0 → is_plain t ≡ is_plain (child_or_absent ts 0)
plain_first none t e = absurd (none_is t (sym e))
plain_first (u ▸ ts) t e = ap (λ o. is_plain (got t o)) e

pub no_plain_first : (ts : Trees) → None ≡ child_at ts 0 → false ≡ is_plain (child_or_absent ts 0)
no_plain_first none e = refl
no_plain_first (u ▸ ts) e = absurd (none_is u e)

-- ---- items with a name

name_if_is : (b : Bool) (x : Name) → b ≡ is_some (name_if b x)
name_if_is true x = refl
name_if_is false x = refl

plain_pair : (lexical : Bool) (n : ℕ) (c init : Tree) → (is_plain c && is_dispensable init) ≡ is_some (item_name (DeclaratorList lexical) (node shape.VariableDeclarator [] n (c ▸ init ▸ none)))
plain_pair lexical n (node shape.BindingIdentifier (x ∷ []) m none) init = name_if_is (is_dispensable init) x
plain_pair lexical n (node shape.BindingIdentifier [] m none) init = refl
plain_pair lexical n (node shape.BindingIdentifier (x ∷ (y ∷ ys)) m none) init = refl
plain_pair lexical n c init = refl

plain_others : (lexical : Bool) (n : ℕ) (c : Tree) (us : Trees) → has_count us 1 ≡ false → false ≡ is_some (item_name (DeclaratorList lexical) (node shape.VariableDeclarator [] n (c ▸ us)))
plain_others lexical n (node shape.BindingIdentifier (x ∷ []) m none) none e = refl
plain_others lexical n (node shape.BindingIdentifier (x ∷ []) m none) (init ▸ none) e = absurd (true≢false e)
plain_others lexical n (node shape.BindingIdentifier (x ∷ []) m none) (init ▸ (d ▸ us)) e = refl
plain_others lexical n c us e = refl

plain_function : (g : Bool) (ds : List (List ℕ)) (xs : List Name) (n : ℕ) (c : Tree) (ts : Trees) → is_plain c ≡ is_some (item_name StatementList (node (shape.Function true g ds) xs n (c ▸ ts)))
plain_function g ds xs n (node shape.BindingIdentifier (x ∷ []) m none) ts = refl
plain_function g ds xs n (node shape.BindingIdentifier [] m none) ts = refl
plain_function g ds xs n (node shape.BindingIdentifier (x ∷ (y ∷ ys)) m none) ts = refl
plain_function g ds xs n c ts = refl

plain_declarator : (lexical : Bool) (t : Tree) → is_plain_declarator t ≡ is_some (item_name (DeclaratorList lexical) t)
plain_declarator lexical (node shape.VariableDeclarator [] n none) = refl
plain_declarator lexical (node shape.VariableDeclarator [] n (c ▸ none)) = plain_others lexical n c none refl
plain_declarator lexical (node shape.VariableDeclarator [] n (c ▸ (init ▸ none))) = plain_pair lexical n c init
plain_declarator lexical (node shape.VariableDeclarator [] n (c ▸ (init ▸ (d ▸ ts)))) = plain_others lexical n c (init ▸ d ▸ ts) refl
plain_declarator lexical t = refl

plain_statement : (t : Tree) → is_item StatementList t ≡ is_some (item_name StatementList t)
plain_statement (node (shape.Function true g ds) xs n none) = refl
plain_statement (node (shape.Function true g ds) xs n (c ▸ ts)) = plain_function g ds xs n c ts
plain_statement t = refl

pub item_told : (r : Role) (t : Tree) → is_item r t ≡ is_some (item_name r t)
item_told StatementList t = plain_statement t
item_told (DeclaratorList lexical) t = plain_declarator lexical t
item_told r t = refl

module _ (S : ℕ → Bool) where
  function_by : (b : Bool) (i : Item) → item_count i ≡ 1 → one_if b ≡ mark_count (mark_function S b i)
  function_by true i e = sym e
  function_by false i e = refl

  function_told : (g : Bool) (ds : List (List ℕ)) (xs : List Name) (n : ℕ) (c : Tree) (ts : Trees) → one_if (binds S c) ≡ mark_count (mark_statement S (node (shape.Function true g ds) xs n (c ▸ ts)))
  function_told g ds xs n (node shape.BindingIdentifier (x ∷ []) m none) ts = function_by (has_name S x) (function_item g ds xs n x m ts) refl
  function_told g ds xs n (node shape.BindingIdentifier [] m none) ts = refl
  function_told g ds xs n (node shape.BindingIdentifier (x ∷ (y ∷ ys)) m none) ts = refl
  function_told g ds xs n c ts = refl

  declarator_by_is : (b : Bool) (n : ℕ) (x : Name) (m : ℕ) (d : Bool) (o : Option Initializer) → d ≡ is_some o → (b && d) ≡ is_some (declarator_by S b n x m o)
  declarator_by_is true n x m d (Some i) e = e
  declarator_by_is true n x m d None e = e
  declarator_by_is false n x m d o e = refl

  -- the first child of a function
  pub bound_first : (ts : Trees) (t : Tree) → Some t ≡ child_at ts 0 → one_if (binds S t) ≡ one_if (binds S (child_or_absent ts 0))
  bound_first none t e = absurd (none_is t (sym e))
  bound_first (u ▸ ts) t e = ap (λ o. one_if (binds S (got t o))) e

  pub none_first : (ts : Trees) → None ≡ child_at ts 0 → 0 ≡ one_if (binds S (child_or_absent ts 0))
  none_first none e = refl
  none_first (u ▸ ts) e = absurd (none_is u e)

  -- of two parts, and of any other number
  declarator_pair : (n : ℕ) (c init : Tree) → (binds S c && is_dispensable init) ≡ is_some (declarator_of S (node shape.VariableDeclarator [] n (c ▸ init ▸ none)))
  declarator_pair n (node shape.BindingIdentifier (x ∷ []) m none) init = declarator_by_is (has_name S x) n x m (is_dispensable init) (initializer_of init) (initializer_is init)
  declarator_pair n (node shape.BindingIdentifier [] m none) init = refl
  declarator_pair n (node shape.BindingIdentifier (x ∷ (y ∷ ys)) m none) init = refl
  declarator_pair n c init = refl

  declarator_others : (n : ℕ) (c : Tree) (us : Trees) → has_count us 1 ≡ false → false ≡ is_some (declarator_of S (node shape.VariableDeclarator [] n (c ▸ us)))
  declarator_others n (node shape.BindingIdentifier (x ∷ []) m none) none e = refl
  declarator_others n (node shape.BindingIdentifier (x ∷ []) m none) (init ▸ none) e = absurd (true≢false e)
  declarator_others n (node shape.BindingIdentifier (x ∷ []) m none) (init ▸ (d ▸ us)) e = refl
  declarator_others n c us e = refl

  declarator_is : (t : Tree) → declarator_goes S t ≡ is_some (declarator_of S t)
  declarator_is (node shape.VariableDeclarator [] n none) = refl
  declarator_is (node shape.VariableDeclarator [] n (c ▸ none)) = declarator_others n c none refl
  declarator_is (node shape.VariableDeclarator [] n (c ▸ (init ▸ none))) = declarator_pair n c init
  declarator_is (node shape.VariableDeclarator [] n (c ▸ (init ▸ (d ▸ ts)))) = declarator_others n c (init ▸ d ▸ ts) refl
  declarator_is t = refl

  declarator_told : (o : Option Declarator) → one_if (is_some o) ≡ mark_count (mark_declarator S o)
  declarator_told (Some c) = refl
  declarator_told None = refl

  -- a walk over them
  pub all_begin : (ts : Trees) → all_go S (rest_children 0 ts) ≡ all_go S ts
  all_begin ts = ap (all_go S) (from_first ts)

  step : (a b c : Bool) → ((a && b) && c) ≡ (a && (b && c))
  step true b c = refl
  step false b c = refl

  pub all_next : (ts : Trees) (i : ℕ) (a b : Bool) (t : Tree) → i < count ts → t ≡ child_or_absent ts i → b ≡ (a && declarator_goes S t) → (a && all_go S (rest_children i ts)) ≡ all_go S ts → (b && all_go S (rest_children (i + 1) ts)) ≡ all_go S ts
  all_next ts i a b t h e f g =
      ap (λ k. b && all_go S (rest_children k ts)) (add-one i)
      ∙ ap (λ c. c && all_go S (rest_children (suc i) ts)) f
      ∙ step a (declarator_goes S t) (all_go S (rest_children (suc i) ts))
      ∙ ap (λ u. a && all_go S (u ▸ rest_children (suc i) ts)) e
      ∙ ap (λ us. a && all_go S us) (sym (next_child ts i h))
      ∙ g

  pub all_end : (ts : Trees) (i : ℕ) (a : Bool) → count ts ≤ i → (a && all_go S (rest_children i ts)) ≡ all_go S ts → a ≡ all_go S ts
  all_end ts i a h e = and_true a ∙ ap (λ us. a && all_go S us) (sym (no_rest ts i h)) ∙ e
    where
      and_true : (b : Bool) → b ≡ (b && true)
      and_true true = refl
      and_true false = refl

  both_some : (o : Option Declarator) (os : Option (List Declarator)) → (is_some o && is_some os) ≡ is_some (one_more S o os)
  both_some (Some c) (Some cs) = refl
  both_some (Some c) None = refl
  both_some None os = refl

  all_are : (ts : Trees) → all_go S ts ≡ is_some (declarators_of S ts)
  all_are none = refl
  all_are (c ▸ cs) = ap (λ b. b && all_go S cs) (declarator_is c) ∙ ap (λ b. is_some (declarator_of S c) && b) (all_are cs) ∙ both_some (declarator_of S c) (declarators_of S cs)

  abbrev CountedBy : ℕ → Option (List Declarator) → Type 0
  CountedBy n (Some cs) = n ≡ length cs
  CountedBy n None = Unit {0}

  one_counted : (n : ℕ) (o : Option Declarator) (os : Option (List Declarator)) → CountedBy n os → CountedBy (suc n) (one_more S o os)
  one_counted n (Some c) (Some cs) e = ap suc e
  one_counted n (Some c) None e = tt
  one_counted n None os e = tt

  all_counted : (ts : Trees) → CountedBy (count ts) (declarators_of S ts)
  all_counted none = refl
  all_counted (c ▸ cs) = one_counted (count cs) (declarator_of S c) (declarators_of S cs) (all_counted cs)

  declaration_by : (f : Declarator → List Declarator → Item) → ((c : Declarator) (cs : List Declarator) → item_count (f c cs) ≡ suc (length cs)) → (n : ℕ) (o : Option (List Declarator)) → CountedBy n o → (if is_some o then n else 0) ≡ mark_count (mark_declaration S f o)
  declaration_by f k n (Some []) e = e
  declaration_by f k n (Some (c ∷ cs)) e = e ∙ sym (k c cs)
  declaration_by f k n None e = refl

  declaration_told : (k : VariableDeclarationKind) (xs : List Name) (n : ℕ) (ys : List Name) (m : ℕ) (cs : Trees) → (if all_go S cs then count cs else 0) ≡ mark_count (mark_declaration S (declaration_item k xs n ys m) (declarators_of S cs))
  declaration_told k xs n ys m cs =
      ap (λ b. if b then count cs else 0) (all_are cs)
      ∙ declaration_by (declaration_item k xs n ys m) (λ c ds. refl) (count cs) (declarators_of S cs) (all_counted cs)

  declaration_one : (k : VariableDeclarationKind) (xs : List Name) (n : ℕ) (c : Tree) → item.declarators_of S c ≡ mark_count (mark_statement S (node (shape.VariableDeclaration k) xs n (c ▸ none)))
  declaration_one k xs n (node shape.Listed ys m cs) = declaration_told k xs n ys m cs
  declaration_one k xs n c = refl

  declaration_others : (k : VariableDeclarationKind) (xs : List Name) (n : ℕ) (c d : Tree) (ts : Trees) → 0 ≡ mark_count (mark_statement S (node (shape.VariableDeclaration k) xs n (c ▸ d ▸ ts)))
  declaration_others k xs n (node shape.Listed ys m cs) d ts = refl
  declaration_others k xs n c d ts = refl

  statement_told : (t : Tree) → items_by S (shape_of t) (children t) ≡ mark_count (mark_statement S t)
  statement_told (node (shape.Function true g ds) xs n none) = refl
  statement_told (node (shape.Function true g ds) xs n (c ▸ ts)) = function_told g ds xs n c ts
  statement_told (node shape.ExpressionStatement xs n (c ▸ none)) = ap one_if (lone_is c) ∙ lone_told xs n (lone_of c)
  statement_told (node (shape.VariableDeclaration k) xs n none) = refl
  statement_told (node (shape.VariableDeclaration k) xs n (c ▸ none)) = declaration_one k xs n c
  statement_told (node (shape.VariableDeclaration k) xs n (c ▸ (d ▸ ts))) = declaration_others k xs n c d ts
  statement_told t = refl

  pub items_told : (r : Role) (t : Tree) → items_of S r t ≡ mark_count (mark S r t)
  items_told StatementList t = statement_told t
  items_told (DeclaratorList lexical) t = ap one_if (declarator_is t) ∙ declarator_told (declarator_of S t)
  items_told r t = refl

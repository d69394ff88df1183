-- A program less a set of symbols: each item that declares one of them goes, and each function that
-- is a statement by itself. `let a = 1, b = f();` less a is `let b = f();`.
use Rattle.std.specs.Prelude.{◌≡◌, ℕ, suc, nat_le, Bool, true, false, not, ◌&&◌, ◌||◌, List, [], ◌∷◌, Option, Some, None}
use Rattle.std.specs.List.{list_any}
use Rattle.mini_model.specs.declared.name.Name.{Name}
use Rattle.mini_model.specs.declared.shape.Shape.TheVariants as shape
use Rattle.mini_model.specs.Tree.{Tree, Trees, node, none, ◌▸◌}
use Rattle.mini_accept.specs.WellShaped.{IsWellShaped}
use Rattle.mini_laws.specs.declared.names.Use.TheVariants.{Read}
use Rattle.mini_laws.specs.References.{Reference, references, references_from}
use Rattle.mini_laws.specs.Shared.{is_shared_always}
use Rattle.mini_laws.specs.ScopeList.{by_symbol}
use Rattle.mini_dead.specs.Pruned.{Spot, Elsewhere, Role, StatementList, DeclaratorList, role, spot_below, Lone, a_function, an_arrow, Initializer, without_effect, of_function, initializer_tree, Declarator, declarator, Item, function_item, declaration_item, lone_item, Pruned, prune, Prunings, end, stays, goes, declarator_goes, later}
use Rattle.mini_dead.specs.Dead.{is_without_effect, has_name, is_dead_symbol, dead_count}
use Rattle.mini_dead.specs.Drops.{gone_count, round_of, Drops}

abbrev pub lone_of : Tree → Option Lone
lone_of (node (shape.Function false is_generator directives) xs n ts) = Some (a_function is_generator directives xs n ts)
lone_of (node (shape.ArrowFunctionExpression directives) xs n ts) = Some (an_arrow directives xs n ts)
lone_of t = None

abbrev pub of_lone : Option Lone → Option Initializer
of_lone (Some f) = Some (of_function f)
of_lone None = None

abbrev pub initializer_by : Bool → Tree → Option Initializer
initializer_by true t = Some (without_effect t)
initializer_by false t = of_lone (lone_of t)

abbrev pub initializer_of : Tree → Option Initializer
initializer_of t = initializer_by (is_without_effect t) t

-- what a part of a list is, where the symbols of a set are to go
pub data Mark : Type 0 where
  no_item : Mark
  an_item : Item → Mark
  a_declarator : Declarator → Mark

abbrev pub mark_lone : List Name → ℕ → Option Lone → Mark
mark_lone xs n (Some f) = an_item (lone_item xs n f)
mark_lone xs n None = no_item

module _ (S : ℕ → Bool) where
  abbrev pub declarator_by : Bool → ℕ → Name → ℕ → Option Initializer → Option Declarator
  declarator_by true n x m (Some init) = Some (declarator n x m init)
  declarator_by b n x m init = None

  -- a declarator whose name is to go
  abbrev pub declarator_of : Tree → Option Declarator
  declarator_of (node shape.VariableDeclarator [] n (node shape.BindingIdentifier (x ∷ []) m none ▸ init ▸ none)) = declarator_by (has_name S x) n x m (initializer_of init)
  declarator_of t = None

  abbrev pub one_more : Option Declarator → Option (List Declarator) → Option (List Declarator)
  one_more (Some c) (Some cs) = Some (c ∷ cs)
  one_more c cs = None

  -- declarators all of whose names are to go
  abbrev pub declarators_of : Trees → Option (List Declarator)
  declarators_of none = Some []
  declarators_of (c ▸ cs) = one_more (declarator_of c) (declarators_of cs)

  abbrev pub mark_declarator : Option Declarator → Mark
  mark_declarator (Some c) = a_declarator c
  mark_declarator None = no_item

  abbrev pub mark_function : Bool → Item → Mark
  mark_function true i = an_item i
  mark_function false i = no_item

  -- a declaration that loses its last declarator goes
  abbrev pub mark_declaration : (Declarator → List Declarator → Item) → Option (List Declarator) → Mark
  mark_declaration f (Some (c ∷ cs)) = an_item (f c cs)
  mark_declaration f cs = no_item

  abbrev pub mark_statement : Tree → Mark
  mark_statement (node (shape.Function true is_generator directives) xs n (node shape.BindingIdentifier (x ∷ []) m none ▸ ts)) = mark_function (has_name S x) (function_item is_generator directives xs n x m ts)
  mark_statement (node shape.ExpressionStatement xs n (c ▸ none)) = mark_lone xs n (lone_of c)
  mark_statement (node (shape.VariableDeclaration k) xs n (node shape.Listed ys m cs ▸ none)) = mark_declaration (declaration_item k xs n ys m) (declarators_of cs)
  mark_statement t = no_item

  abbrev pub mark : Role → Tree → Mark
  mark StatementList t = mark_statement t
  mark (DeclaratorList lexical) t = mark_declarator (declarator_of t)
  mark r t = no_item

  abbrev pub marked_by : Mark → Pruned → Prunings → Prunings
  marked_by no_item p ps = stays p ps
  marked_by (an_item i) p ps = goes i ps
  marked_by (a_declarator c) p ps = declarator_goes c ps

  -- the tree with each such item marked
  unfoldable mutual
    pub marked : Spot → Tree → Pruned
    marked p (node h xs n ts) = prune h xs n (all_marked (role h p) 0 ts)

    pub all_marked : Role → ℕ → Trees → Prunings
    all_marked r i none = end
    all_marked r i (c ▸ ts) = marked_by (mark r c) (marked (spot_below r i) c) (all_marked r (suc i) ts)

-- the program without them, and how many items it loses
abbrev pub less : (ℕ → Bool) → Tree → Tree
less S t = later (marked S Elsewhere t)

abbrev pub less_count : (ℕ → Bool) → Tree → ℕ
less_count S t = gone_count (marked S Elsewhere t)

-- ---- whether a set may go

-- of a set of symbols, and the round in which each goes
module _ (S : ℕ → Bool) (rounds : ℕ → ℕ) where
  -- each symbol of the set that a reference has goes after this round
  abbrev pub refers_later : ℕ → List Reference → Bool
  refers_later k [] = true
  refers_later k (r ∷ rs) = (not (has_name S r.name) || nat_le (suc k) (round_of rounds r.name)) && refers_later k rs

  abbrev pub declarator_may_go : Declarator → Bool
  declarator_may_go (declarator n x m init) = refers_later (round_of rounds x) (references Read (initializer_tree init))

  abbrev pub declarators_may_go : List Declarator → Bool
  declarators_may_go [] = true
  declarators_may_go (c ∷ cs) = declarator_may_go c && declarators_may_go cs

  abbrev pub item_may_go : Item → Bool
  item_may_go (function_item is_generator directives xs n x m ts) = refers_later (round_of rounds x) (references_from (λ i. Read) 0 ts)
  item_may_go (declaration_item k xs n ys m c cs) = declarators_may_go (c ∷ cs)
  item_may_go (lone_item xs n f) = true

  -- what goes may, and of what stays this holds
  abbrev pub mark_may_go : Mark → Bool → Bool
  mark_may_go no_item b = b
  mark_may_go (an_item i) b = item_may_go i
  mark_may_go (a_declarator c) b = declarator_may_go c

  -- Whether the items of the set may go from a tree: no node that stays has a symbol of the set,
  -- and what goes refers to symbols of later rounds
  unfoldable mutual
    pub may_go : Spot → Tree → Bool
    may_go p (node h xs n ts) = not (list_any (has_name S) xs) && all_may_go (role h p) 0 ts

    pub all_may_go : Role → ℕ → Trees → Bool
    all_may_go r i none = true
    all_may_go r i (c ▸ ts) = mark_may_go (mark S r c) (may_go (spot_below r i) c) && all_may_go r (suc i) ts

-- no other code sees a symbol of the set
abbrev pub AreUnseen : (ℕ → Bool) → Tree → Type 0
AreUnseen S t = (s : ℕ) → S s ≡ true → is_shared_always t (by_symbol s) ≡ false

-- then the program loses dead items alone
abbrev pub MayGoDrops : Type 0
MayGoDrops = (S : ℕ → Bool) (rounds : ℕ → ℕ) (t : Tree) → IsWellShaped t → AreUnseen S t → may_go S rounds Elsewhere t ≡ true → Drops t (less S t) (less_count S t)

-- dead symbols of a program can go at once, one or more of them
abbrev pub DeadSymbolsGo : Type 0
DeadSymbolsGo = (S : ℕ → Bool) (t : Tree) → IsWellShaped t → ((s : ℕ) → S s ≡ true → is_dead_symbol t s ≡ true) → Drops t (less S t) (less_count S t)

-- a program less all of them loses its dead items
abbrev pub DeadItemsCounted : Type 0
DeadItemsCounted = (t : Tree) → less_count (is_dead_symbol t) t ≡ dead_count t

-- Programs that lose dead items. Items that name each other can go at once, where they could go one
-- after another: `function f() { g(); } function g() {}` loses f in the first round and g in the
-- second, while `function f() { f(); }` stays.
use Rattle.std.specs.Prelude.{◌≡◌, ℕ, suc, ◌+◌, ◌<◌, nat_eq, Bool, true, false, ◌&&◌, not, List, [], ◌∷◌, ◌++◌, length, Option, Some, None, Contains, if◌then◌else◌}
use Rattle.std.specs.List.{list_any}
use Rattle.mini_model.specs.declared.name.Name.{Name}
use Rattle.mini_model.specs.declared.name.SymbolId.{SymbolId}
use Rattle.mini_model.specs.Tree.{Tree}
use Rattle.mini_accept.specs.WellShaped.{IsWellShaped}
use Rattle.mini_laws.specs.declared.names.Use.TheVariants.{Read}
use Rattle.mini_laws.specs.References.{Reference, references, references_from}
use Rattle.mini_laws.specs.Shared.{is_shared_always, is_shared}
use Rattle.mini_laws.specs.ScopeList.{by_symbol}
use Rattle.mini_laws.specs.Value.{Declared, Global, VariableSet, variable_of, variables, is_in}
use Rattle.mini_laws.specs.Writable.{mentions}
use Rattle.mini_laws.specs.Congruence.{Avoids}
use Rattle.mini_laws.specs.Body.{environment_in}
use Rattle.mini_laws.specs.Bodies.{Body, bodies_in}
use Rattle.mini_kept.specs.Carried.{numbers}
use Rattle.mini_dead.specs.Creations.{FunctionSet, SameWithout}
use Rattle.mini_dead.specs.Pruned.{Spot, Elsewhere, Role, DeclaratorList, role, spot_below, Initializer, without_effect, of_function, initializer_tree, Declarator, declarator, Item, function_item, declaration_item, lone_item, Pruned, prune, Prunings, end, stays, goes, declarator_goes, earlier, later, HoldsItems, HoldsDeclarators}
use Rattle.mini_dead.specs.PrunedBodies.{BodiesWithout}
use Rattle.mini_dead.specs.Dead.{is_without_effect, has_name}

-- ---- what goes

abbrev pub declarator_name : Declarator → Name
declarator_name (declarator n x m init) = x

abbrev pub declarator_names : List Declarator → List Name
declarator_names [] = []
declarator_names (c ∷ cs) = declarator_name c ∷ declarator_names cs

abbrev pub item_names : Item → List Name
item_names (function_item is_generator directives xs n x m ts) = x ∷ []
item_names (declaration_item k xs n ys m c cs) = declarator_names (c ∷ cs)
item_names (lone_item xs n f) = []

-- a declaration that goes counts as the declarators that it loses
abbrev pub item_count : Item → ℕ
item_count (function_item is_generator directives xs n x m ts) = 1
item_count (declaration_item k xs n ys m c cs) = suc (length cs)
item_count (lone_item xs n f) = 1

-- the names that what goes declares, and how many items go: none is counted that goes as a part of
-- another
abbrev mutual
  pub gone_names : Pruned → List Name
  gone_names (prune h xs n ps) = all_gone_names ps

  pub all_gone_names : Prunings → List Name
  all_gone_names end = []
  all_gone_names (stays p ps) = gone_names p ++ all_gone_names ps
  all_gone_names (goes t ps) = item_names t ++ all_gone_names ps
  all_gone_names (declarator_goes c ps) = declarator_name c ∷ all_gone_names ps

abbrev mutual
  pub gone_count : Pruned → ℕ
  gone_count (prune h xs n ps) = all_gone_count ps

  pub all_gone_count : Prunings → ℕ
  all_gone_count end = 0
  all_gone_count (stays p ps) = gone_count p + all_gone_count ps
  all_gone_count (goes t ps) = item_count t + all_gone_count ps
  all_gone_count (declarator_goes c ps) = suc (all_gone_count ps)

abbrev pub gone : Pruned → VariableSet
gone p x = is_in x (variables (gone_names p))

-- ---- what may go

-- the round in which the items of a name go
abbrev pub round_of_symbol : (ℕ → ℕ) → Option SymbolId → ℕ
round_of_symbol rounds (Some s) = rounds s.0
round_of_symbol rounds None = 0

abbrev pub round_of : (ℕ → ℕ) → Name → ℕ
round_of rounds x = round_of_symbol rounds x.symbol

-- no other code sees a symbol
abbrev pub is_unseen : Tree → ℕ → Bool
is_unseen t s = not (is_shared_always t (by_symbol s))

abbrev pub InitializerIsDead : Initializer → Type 0
InitializerIsDead (without_effect c) = is_without_effect c ≡ true
InitializerIsDead (of_function f) = Unit {0}

abbrev pub some_stay : Prunings → Bool
some_stay end = false
some_stay (stays p ps) = true
some_stay (goes i ps) = some_stay ps
some_stay (declarator_goes c ps) = some_stay ps

-- a declaration that stays keeps a declarator
abbrev pub KeepsDeclarator : Role → Prunings → Type 0
KeepsDeclarator (DeclaratorList lexical) ps = some_stay ps ≡ true
KeepsDeclarator r ps = Unit {0}

-- of a program, the names that go, and the round of each symbol
module _ (t : Tree) (D : VariableSet) (rounds : ℕ → ℕ) where
  -- each name that goes and that is among these references goes after this round
  abbrev pub GoLater : ℕ → List Reference → Type 0
  GoLater k [] = Unit {0}
  GoLater k (r ∷ rs) = (D (variable_of r.name) ≡ true → k < round_of rounds r.name) × GoLater k rs

  -- no other code sees the name, and what goes with it refers to names of later rounds
  abbrev pub NameIsDead : Name → List Reference → Type 0
  NameIsDead x rs = (has_name (is_unseen t) x ≡ true) × GoLater (round_of rounds x) rs

  abbrev pub DeclaratorIsDead : Declarator → Type 0
  DeclaratorIsDead (declarator n x m init) = NameIsDead x (references Read (initializer_tree init)) × InitializerIsDead init

  abbrev pub DeclaratorsAreDead : List Declarator → Type 0
  DeclaratorsAreDead [] = Unit {0}
  DeclaratorsAreDead (c ∷ cs) = DeclaratorIsDead c × DeclaratorsAreDead cs

  abbrev pub ItemIsDead : Item → Type 0
  ItemIsDead (function_item is_generator directives xs n x m ts) = NameIsDead x (references_from (λ i. Read) 0 ts)
  ItemIsDead (declaration_item k xs n ys m c cs) = DeclaratorsAreDead (c ∷ cs)
  ItemIsDead (lone_item xs n f) = Unit {0}

  -- dead items alone go, from lists of statements and of declarators
  abbrev mutual
    pub DropsDead : Spot → Pruned → Type 0
    DropsDead p (prune h xs n ps) = KeepsDeclarator (role h p) ps × AllDropDead (role h p) 0 ps

    pub AllDropDead : Role → ℕ → Prunings → Type 0
    AllDropDead r i end = Unit {0}
    AllDropDead r i (stays p ps) = DropsDead (spot_below r i) p × AllDropDead r (suc i) ps
    AllDropDead r i (goes c ps) = HoldsItems r × ItemIsDead c × AllDropDead r (suc i) ps
    AllDropDead r i (declarator_goes c ps) = HoldsDeclarators r × DeclaratorIsDead c × AllDropDead r (suc i) ps

-- the second program is the first one less this many dead items, and names none of those that went
pub record Drops (t u : Tree) (n : ℕ) : Type 0 where
  pub pruned : Pruned
  pub before : earlier pruned ≡ t
  pub after : later pruned ≡ u
  pub rounds : ℕ → ℕ
  pub dead : DropsDead t (gone pruned) rounds Elsewhere pruned
  pub unnamed : Avoids (gone pruned) u
  pub number : gone_count pruned ≡ n

-- any number of times
pub data DropsAgain : Tree → Tree → ℕ → Type 0 where
  nothing_goes : (t : Tree) → DropsAgain t t 0
  more_goes : (t u v : Tree) (m n : ℕ) → DropsAgain t u m → Drops u v n → DropsAgain t v (m + n)

-- a program from which dead items go is a program of ESTree still
abbrev pub DropsKeepShape : Type 0
DropsKeepShape = (t u : Tree) (n : ℕ) → DropsAgain t u n → IsWellShaped t → IsWellShaped u

-- ---- what a program does without them

-- the numbers of what went
abbrev pub gone_from : Tree → Tree → FunctionSet
gone_from t u n = list_any (nat_eq n) (numbers t) && not (list_any (nat_eq n) (numbers u))

-- the symbols that the first program names and the second doesn't
abbrev pub lost_from : Tree → Tree → VariableSet
lost_from t u (Declared k) = mentions t (Declared k) && not (mentions u (Declared k))
lost_from t u (Global s) = false

abbrev pub times_in : ℕ → List ℕ → ℕ
times_in n [] = 0
times_in n (k ∷ ks) = (if nat_eq n k then 1 else 0) + times_in n ks

-- no number stands twice
abbrev pub NumbersOnce : Tree → Type 0
NumbersOnce t = (n : ℕ) → times_in n (numbers t) < 2

-- The bodies that are left do what they did, but for the creation of the functions that went, in
-- every environment whose events show none of the symbols that went and in which those can be
-- written
abbrev pub DropsKeepBodies : Type 0
DropsKeepBodies = (t u : Tree) (n : ℕ) → DropsAgain t u n → IsWellShaped t → NumbersOnce t → BodiesWithout (gone_from t u) (lost_from t u) (bodies_in t) (bodies_in u)

-- ---- in the environment of a body that is left

-- a set of variables that has no declared one but those which a body shares
abbrev pub ShowsShared : Tree → ℕ → VariableSet → Type 0
ShowsShared u b shared = (s : ℕ) → is_shared u b (by_symbol s) ≡ false → shared (Declared s) ≡ false

-- a body that is left and the one that it was
pub record BodyStays (t u : Tree) (b c : Body) : Type 0 where
  pub number : b.number ≡ c.number
  pub kind : b.kind ≡ c.kind
  pub strict : b.strict ≡ c.strict
  pub asks_this : b.asks_this ≡ c.asks_this
  pub same : (shared foreign : VariableSet) → ShowsShared u c.number shared → SameWithout (gone_from t u) (environment_in u shared foreign c.strict c.asks_this) c.kind b.root c.root

-- each body that is left is one that the first program has
abbrev pub BodiesStay : Tree → Tree → Type 0
BodiesStay t u = (c : Body) → Contains (bodies_in u) c → (b : Body) × Contains (bodies_in t) b × BodyStays t u b c

abbrev pub DroppedBodiesStay : Type 0
DroppedBodiesStay = (t u : Tree) (n : ℕ) → DropsAgain t u n → IsWellShaped t → NumbersOnce t → BodiesStay t u

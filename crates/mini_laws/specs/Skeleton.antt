-- Two trees at once: what goes the same in both, along a command and from the children to the node.
use Rattle.std.specs.Prelude.{◌≡◌, ℕ, zero, suc, Bool, true, false, List, [], ◌∷◌, ◌++◌, Option, Some, None}
use Rattle.mini_model.specs.declared.name.Name.{Name}
use Rattle.mini_model.specs.declared.shape.Shape.{Shape}
use Rattle.mini_model.specs.declared.shape.Shape.TheVariants as shape
use Rattle.mini_model.specs.Tree.{Tree, Trees, node, none, ◌▸◌}
use Rattle.mini_laws.specs.Value.{Variable, VariableSet, choose, variables, is_in, nth}
use Rattle.mini_laws.specs.State.{State, Stop, done, ended, Environment}
use Rattle.mini_laws.specs.Demand.{Demand, Stat, Declares, Binds, ClassValue, Request, Reply}
use Rattle.mini_laws.specs.Command.{Naming, Op, Gets, init, init_function, hide, bind_names, function_name, Command, ret, fails, stuck, op, kid, act}
use Rattle.mini_laws.specs.Naming.{kinds, summary, summaries, facts, naming, scope_of}
use Rattle.mini_laws.specs.Asking.{demand}
use Rattle.mini_laws.specs.Step.{means}
use Rattle.mini_laws.specs.Same.{Relation, Goes, Initialised}

-- Sets of variables

abbrev pub plus : VariableSet → List Variable → VariableSet
plus X xs x = choose (is_in x xs) true (X x)

abbrev pub minus : VariableSet → List Variable → VariableSet
minus X xs x = choose (is_in x xs) false (X x)

unfoldable pub Within : VariableSet → VariableSet → Type 0
Within a b = (x : Variable) → a x ≡ true → b x ≡ true

unfoldable pub Off : List Variable → VariableSet → Type 0
Off xs k = (x : Variable) → k x ≡ true → is_in x xs ≡ false

-- Which variables are known to be initialised

-- the variables of the scopes in a tree
abbrev mutual
  pub hidden : Tree → List Variable
  hidden (node h xs n ts) = scope_of h (summaries ts) ++ hidden_all ts

  pub hidden_all : Trees → List Variable
  hidden_all none = []
  hidden_all (t ▸ ts) = hidden t ++ hidden_all ts

-- those that a node leaves initialised where it ends normally, of those that it declares: a
-- statement in no tail, and what is lexical
abbrev pub kept : Demand → List Variable → List Variable
kept (Stat None) xs = xs
kept (Declares true) xs = xs
kept (Binds true) xs = xs
kept ClassValue xs = xs
kept _ xs = []

-- what the child at a place declares in the scope around it
abbrev pub lets_at : Trees → ℕ → List Variable
lets_at none i = []
lets_at (t ▸ ts) zero = (summary t).lets
lets_at (t ▸ ts) (suc i) = lets_at ts i

-- in a list of statements: from S, at each child also what those before it declare, where no scope
-- in the list hides it
abbrev pub along : List Variable → VariableSet → Trees → ℕ → VariableSet
along H S none i = S
along H S (t ▸ ts) zero = S
along H S (t ▸ ts) (suc i) = along H (minus (plus S (summary t).lets) H) ts i

abbrev pub list_needs : Demand → VariableSet → Trees → ℕ → VariableSet
list_needs (Stat t) X ts = along (hidden_all ts) X ts
list_needs (Declares true) X ts = along (hidden_all ts) X ts
list_needs q X ts = λ i. X

-- after the first child, of which this is asked, also what that leaves initialised
abbrev pub after_first : Demand → VariableSet → Trees → ℕ → VariableSet
after_first q X ts zero = X
after_first q X ts (suc i) = minus (plus X (kept q (lets_at ts 0))) (hidden_all ts)

-- the same for the body of a `for..in` or `for..of`, whose right side comes before
abbrev pub after_left : Demand → VariableSet → Trees → ℕ → VariableSet
after_left q X ts (suc (suc i)) = minus (plus X (kept q (lets_at ts 0))) (hidden_all ts)
after_left q X ts i = X

-- those that are initialised at a child
abbrev pub needs : Shape → Demand → VariableSet → Trees → ℕ → VariableSet
needs shape.Listed q X ts = list_needs q X ts
needs shape.CatchClause q X ts = after_first (Binds true) X ts
needs shape.ForStatement q X ts = after_first (demand shape.ForStatement (facts ts) q 0) X ts
needs shape.ForInStatement q X ts = after_left (demand shape.ForInStatement (facts ts) q 0) X ts
needs shape.ForOfStatement q X ts = after_left (demand shape.ForOfStatement (facts ts) q 0) X ts
needs h q X ts = λ i. X

-- with one variable more, if there is one
abbrev pub adds : Option Variable → VariableSet → VariableSet
adds (Some x) k = plus k (x ∷ [])
adds None k = k

-- what an action adds to them
abbrev pub gain : Naming → Op → VariableSet → VariableSet
gain names (init i v) k = adds (nth names.written i) k
gain names (init_function is_lexical i v) k = adds (function_name (nth names.functions i)) k
gain names (bind_names v) k = plus k names.bound
gain names hide k = minus k names.scope
gain names o k = k

-- what the variables known along a command rest on: the node's naming, those that each child needs
-- and those that it gives where it ends normally, those of the scopes in the children, and those
-- that an abrupt end has to keep
pub record Flow : Type 0 where
  pub names : Naming
  pub need : ℕ → VariableSet
  pub gives : ℕ → List Variable
  pub wipes : List Variable
  pub at_stop : VariableSet

-- they go along a command, from k to P
unfoldable pub Flows : {q : ℕ → Demand} {A : Type 0} → Flow → VariableSet → (A → VariableSet) → Command q A → Type 0
Flows f k P (ret a) = Within (P a) k
Flows f k P (fails e) = Within f.at_stop k
Flows f k P stuck = Unit {0}
Flows f k P (op o c) = ((a : Gets o) → Flows f (gain f.names o k) P (c (done a))) × ((e : Stop) → Flows f k P (c (ended e)))
Flows {q} f k P (kid i r c) = Within (f.need i) (minus k f.wipes) × ((a : Reply (q i) r) → Flows f (minus (plus k (f.gives i)) f.wipes) P (c (done a))) × ((e : Stop) → Flows f (minus k f.wipes) P (c (ended e)))

-- Two runs

-- what a simulation rests on: two environments, a relation of states, and one of namings
pub record Rules : Type 1 where
  pub weak : Bool
  pub left : Environment
  pub right : Environment
  pub A : Relation
  pub N : Naming → Naming → Type 0

-- each action goes the same in both
pub record Sound (u : Rules) : Type 0 where
  pub acts : (names names' : Naming) → u.N names names' → (o : Op) (s t : State) → u.A s t → Goes u.weak (λ a. u.A) u.A u.A (act u.left names o s) (act u.right names' o t)

-- related, and these are initialised in the first
abbrev pub Both : Relation → VariableSet → Relation
Both A k s t = A s t × Initialised k s

-- two trees that go together in a demand: from related states in which at least X, and no variable
-- of a scope in the tree, are known to be initialised, and with what is known after
unfoldable pub TreesGo : Rules → VariableSet → Demand → Tree → Tree → Type 0
TreesGo u X q n w =
    (r : Request q) (l : VariableSet) → Within X l → Off (hidden n) l → (s t : State) → Both u.A l s t → Goes u.weak (λ a. Both u.A (minus (plus l (kept q (summary n).lets)) (hidden n))) (Both u.A l) u.A (means u.left n q r s) (means u.right w q r t)

-- two trees of one form, with holes where any two trees stand
mutual
  pub data Pair : Type 0 where
    both : Shape → List Name → List Name → ℕ → ℕ → Pairs → Pair
    hole : Tree → Tree → Pair

  pub data Pairs : Type 0 where
    no_pairs : Pairs
    pairs : Pair → Pairs → Pairs

abbrev mutual
  pub left_of : Pair → Tree
  left_of (both h xs ys m n ps) = node h xs m (lefts ps)
  left_of (hole n w) = n

  pub lefts : Pairs → Trees
  lefts no_pairs = none
  lefts (pairs p ps) = left_of p ▸ lefts ps

abbrev mutual
  pub right_of : Pair → Tree
  right_of (both h xs ys m n ps) = node h ys n (rights ps)
  right_of (hole n w) = w

  pub rights : Pairs → Trees
  rights no_pairs = none
  rights (pairs p ps) = right_of p ▸ rights ps

-- what is asked of a pair: namings that go together, names of the same kinds, children that a
-- parent reads alike, and trees in holes that go together
unfoldable mutual
  pub PairGoes : Rules → VariableSet → Demand → Pair → Type 0
  PairGoes u X q (both h xs ys m n ps) =
      u.N (naming h q (variables xs) m (summaries (lefts ps))) (naming h q (variables ys) n (summaries (rights ps))) × (kinds xs ≡ kinds ys) × (facts (lefts ps) ≡ facts (rights ps)) × PairsGo u (needs h q X (lefts ps)) (demand h (facts (lefts ps)) q) ps
  PairGoes u X q (hole n w) = TreesGo u X q n w

  pub PairsGo : Rules → (ℕ → VariableSet) → (ℕ → Demand) → Pairs → Type 0
  PairsGo u X σ no_pairs = Unit {0}
  PairsGo u X σ (pairs p ps) = PairGoes u (X 0) (σ 0) p × PairsGo u (λ i. X (suc i)) (λ i. σ (suc i)) ps

-- two trees of one form go together
abbrev pub Fundamental : Type 1
Fundamental = (u : Rules) → Sound u → (p : Pair) (X : VariableSet) (q : Demand) → PairGoes u X q p → TreesGo u X q (left_of p) (right_of p)

-- A tree of which some items go from lists of statements: function declarations and declarators,
-- and functions that are statements by themselves. `function g() { function h() {} return 1; }`
-- less h is `function g() { return 1; }`.
use Rattle.std.specs.Prelude.{◌≡◌, ℕ, suc, Bool, true, false, List, [], ◌∷◌}
use Rattle.mini_model.specs.declared.kind.VariableDeclarationKind.{VariableDeclarationKind}
use Rattle.mini_model.specs.declared.name.Name.{Name}
use Rattle.mini_model.specs.declared.shape.Shape.{Shape}
use Rattle.mini_model.specs.declared.shape.Shape.TheVariants as shape
use Rattle.mini_model.specs.Tree.{Tree, Trees, node, none, ◌▸◌}
use Rattle.mini_laws.specs.Value.{Variable, VariableSet, variable_of, variables}
use Rattle.mini_laws.specs.State.{State, Environment, Writes}
use Rattle.mini_laws.specs.Demand.{Val, As}
use Rattle.mini_laws.specs.Naming.{is_lexical}
use Rattle.mini_laws.specs.Step.{means}
use Rattle.mini_laws.specs.Body.{BodyKind}
use Rattle.mini_laws.specs.Congruence.{NoneIn, Apart}
use Rattle.mini_terms.specs.Sound.{Quiet}
use Rattle.mini_dead.specs.Creations.{FunctionSet, SameWithout}

-- where a node stands, as far as items go there: as a list of statements, a statement of one, the
-- list of declarators of such a statement, which are lexical or not, the cases of a `switch`, a
-- case, or elsewhere, as the head of a loop does
pub data Spot : Type 0 where
  Elsewhere : Spot
  Statements : Spot
  AStatement : Spot
  Declarators : Bool → Spot
  CaseList : Spot
  OneCase : Spot

-- what a node that stands there is to its children
pub data Role : Type 0 where
  Plain : Role
  HasStatements : Role
  HasCases : Role
  StatementList : Role
  Declaration : Bool → Role
  DeclaratorList : Bool → Role
  CasesOf : Role
  CaseOf : Role

abbrev pub list_role : Spot → Role
list_role Statements = StatementList
list_role (Declarators lexical) = DeclaratorList lexical
list_role CaseList = CasesOf
list_role p = Plain

abbrev pub declaration_role : Bool → Spot → Role
declaration_role lexical AStatement = Declaration lexical
declaration_role lexical p = Plain

abbrev pub case_role : Spot → Role
case_role OneCase = CaseOf
case_role p = Plain

abbrev pub role : Shape → Spot → Role
role (shape.Program is_module directives) p = HasStatements
role shape.FunctionBody p = HasStatements
role shape.StaticBlock p = HasStatements
role shape.BlockStatement p = HasStatements
role shape.SwitchStatement p = HasCases
role shape.Listed p = list_role p
role (shape.VariableDeclaration k) p = declaration_role (is_lexical k) p
role shape.SwitchCase p = case_role p
role h p = Plain

abbrev pub spot_below : Role → ℕ → Spot
spot_below HasStatements i = Statements
spot_below HasCases (suc i) = CaseList
spot_below StatementList i = AStatement
spot_below (Declaration lexical) i = Declarators lexical
spot_below CasesOf i = OneCase
spot_below CaseOf (suc i) = Statements
spot_below r i = Elsewhere

-- a function expression or an arrow
pub data Lone : Type 0 where
  a_function : Bool → List (List ℕ) → List Name → ℕ → Trees → Lone
  an_arrow : List (List ℕ) → List Name → ℕ → Trees → Lone

abbrev pub lone_tree : Lone → Tree
lone_tree (a_function is_generator directives xs n ts) = node (shape.Function false is_generator directives) xs n ts
lone_tree (an_arrow directives xs n ts) = node (shape.ArrowFunctionExpression directives) xs n ts

abbrev pub lone_number : Lone → ℕ
lone_number (a_function is_generator directives xs n ts) = n
lone_number (an_arrow directives xs n ts) = n

-- an initializer: one that is absent or has no effect, or a function expression or an arrow
pub data Initializer : Type 0 where
  without_effect : Tree → Initializer
  of_function : Lone → Initializer

abbrev pub initializer_tree : Initializer → Tree
initializer_tree (without_effect t) = t
initializer_tree (of_function f) = lone_tree f

-- a name where it is declared
abbrev pub own_name : Name → ℕ → Tree
own_name x n = node shape.BindingIdentifier (x ∷ []) n none

-- a declarator of a plain name, as `x = 1` in `let x = 1`, without another name that it writes
pub data Declarator : Type 0 where
  declarator : ℕ → Name → ℕ → Initializer → Declarator

abbrev pub declarator_tree : Declarator → Tree
declarator_tree (declarator n x m init) = node shape.VariableDeclarator [] n (own_name x m ▸ initializer_tree init ▸ none)

abbrev pub declarator_trees : List Declarator → Trees
declarator_trees [] = none
declarator_trees (c ∷ cs) = declarator_tree c ▸ declarator_trees cs

-- a statement that may go: a function declaration, a declaration all of whose declarators go, or a
-- function expression or an arrow by itself
pub data Item : Type 0 where
  function_item : Bool → List (List ℕ) → List Name → ℕ → Name → ℕ → Trees → Item
  declaration_item : VariableDeclarationKind → List Name → ℕ → List Name → ℕ → Declarator → List Declarator → Item
  lone_item : List Name → ℕ → Lone → Item

abbrev pub item_tree : Item → Tree
item_tree (function_item is_generator directives xs n x m ts) = node (shape.Function true is_generator directives) xs n (own_name x m ▸ ts)
item_tree (declaration_item k xs n ys m c cs) = node (shape.VariableDeclaration k) xs n (node shape.Listed ys m (declarator_trees (c ∷ cs)) ▸ none)
item_tree (lone_item xs n f) = node shape.ExpressionStatement xs n (lone_tree f ▸ none)

-- a tree of which some items go, at any places of its lists
mutual
  pub data Pruned : Type 0 where
    prune : Shape → List Name → ℕ → Prunings → Pruned

  pub data Prunings : Type 0 where
    end : Prunings
    stays : Pruned → Prunings → Prunings
    goes : Item → Prunings → Prunings
    declarator_goes : Declarator → Prunings → Prunings

abbrev mutual
  pub earlier : Pruned → Tree
  earlier (prune h xs n ps) = node h xs n (earlier_all ps)

  pub earlier_all : Prunings → Trees
  earlier_all end = none
  earlier_all (stays p ps) = earlier p ▸ earlier_all ps
  earlier_all (goes i ps) = item_tree i ▸ earlier_all ps
  earlier_all (declarator_goes c ps) = declarator_tree c ▸ earlier_all ps

abbrev mutual
  pub later : Pruned → Tree
  later (prune h xs n ps) = node h xs n (later_all ps)

  pub later_all : Prunings → Trees
  later_all end = none
  later_all (stays p ps) = later p ▸ later_all ps
  later_all (goes i ps) = later_all ps
  later_all (declarator_goes c ps) = later_all ps

-- the lists from which items go, and those from which declarators go
abbrev pub HoldsItems : Role → Type 0
HoldsItems StatementList = Unit {0}
HoldsItems r = ⊥

abbrev pub HoldsDeclarators : Role → Type 0
HoldsDeclarators (DeclaratorList lexical) = Unit {0}
HoldsDeclarators r = ⊥

module _ (d : FunctionSet) (D : VariableSet) (e : Environment) where
  -- an initializer's evaluation does nothing
  abbrev pub Effectless : Tree → Type 0
  Effectless t = (s : State) → Quiet s (means e t (As Val) tt s)

  abbrev pub InitializerGoes : Initializer → Type 0
  InitializerGoes (without_effect t) = Effectless t
  InitializerGoes (of_function f) = d (lone_number f) ≡ true

  -- a lexical name is initialised, and a `var` has to be one that can be written
  abbrev pub TakesValue : Bool → Variable → Type 0
  TakesValue true x = Unit {0}
  TakesValue false x = e.fixed x ≡ Writes

  abbrev pub DeclaratorGoes : Bool → Declarator → Type 0
  DeclaratorGoes lexical (declarator n x m init) = (D (variable_of x) ≡ true) × TakesValue lexical (variable_of x) × InitializerGoes init

  abbrev pub DeclaratorsGo : Bool → List Declarator → Type 0
  DeclaratorsGo lexical [] = Unit {0}
  DeclaratorsGo lexical (c ∷ cs) = DeclaratorGoes lexical c × DeclaratorsGo lexical cs

  abbrev pub ItemGoes : Item → Type 0
  ItemGoes (function_item is_generator directives xs n x m ts) = (d n ≡ true) × (D (variable_of x) ≡ true)
  ItemGoes (declaration_item k xs n ys m c cs) = DeclaratorsGo (is_lexical k) (c ∷ cs)
  ItemGoes (lone_item xs n f) = d (lone_number f) ≡ true

  abbrev pub AnyDeclarator : Role → Declarator → Type 0
  AnyDeclarator (DeclaratorList lexical) c = DeclaratorGoes lexical c
  AnyDeclarator r c = ⊥

  -- Items alone go, from lists alone: they declare names of D, and functions among them have
  -- numbers of d. What stays has no name of D and no number of d
  abbrev mutual
    pub Prunes : Spot → Pruned → Type 0
    Prunes p (prune h xs n ps) = NoneIn D (variables xs) × (d n ≡ false) × PrunesAll (role h p) 0 ps

    pub PrunesAll : Role → ℕ → Prunings → Type 0
    PrunesAll r i end = Unit {0}
    PrunesAll r i (stays p ps) = Prunes (spot_below r i) p × PrunesAll r (suc i) ps
    PrunesAll r i (goes t ps) = HoldsItems r × ItemGoes t × PrunesAll r (suc i) ps
    PrunesAll r i (declarator_goes c ps) = AnyDeclarator r c × PrunesAll r (suc i) ps

-- then a body does what it did, but for the creation of the functions that went
abbrev pub PrunedSame : Type 0
PrunedSame = (d : FunctionSet) (D : VariableSet) (e : Environment) → Apart e D → (k : BodyKind) (p : Pruned) → Prunes d D e Elsewhere p → SameWithout d e k (earlier p) (later p)

-- Rows that rest on what is known of the body in which they stand, and the node that has the body.
use Rattle.std.specs.Prelude.{◌≡◌, ◌⊎◌, ◌≤◌, ◌+◌, ◌&&◌, ◌||◌, not, nat_lt, if◌then◌else◌, ℕ, zero, suc, Bool, true, false, List, [], ◌∷◌, Option, Contains, Some, None}
use Rattle.mini_model.specs.declared.kind.PropertyKind.{PropertyKind}
use Rattle.mini_model.specs.declared.name.Name.{Name}
use Rattle.mini_model.specs.declared.place.Position.{Position}
use Rattle.mini_model.specs.declared.place.Position.TheVariants.{Expr, Stmt, Method, StatementList, BodyList, CommaList, Elsewhere}
use Rattle.mini_model.specs.declared.shape.Shape.{Shape}
use Rattle.mini_model.specs.declared.shape.Shape.TheVariants as shape
use Rattle.mini_model.specs.Tree.{Tree, Trees, node, none, ◌▸◌, count, shape_of}
use Rattle.mini_model.specs.Position.{child_position}
use Rattle.mini_laws.specs.Demand.{Demand}
use Rattle.mini_laws.specs.Fits.{Fits}
use Rattle.mini_laws.specs.Same.{Same}
use Rattle.mini_laws.specs.State.{Environment}
use Rattle.mini_laws.specs.Value.{Variable, Declared, Global, VariableSet, choose, is_in, nothing}
use Rattle.mini_laws.specs.Naming.{Summary, Declared as What, Variables, is_lexical, summary, summaries}
use Rattle.mini_laws.specs.Fixity.{fixed_by}
use Rattle.mini_laws.specs.Bodies.{Around, bodies, arrow_kind}
use Rattle.mini_laws.specs.Weights.{Lightens}
use Rattle.mini_kept.specs.AlikeBodies.{BodiesKept}
use Rattle.mini_kept.specs.Declaring.{declared}
use Rattle.mini_kept.specs.Frames.{frames, FramesKept}
use Rattle.mini_kept.specs.KeepsFrames.{function_over}
use Rattle.mini_kept.specs.KeepsShapes.{KeepsShapes}
use Rattle.mini_kept.specs.Lifted.{KeepsNames}
use Rattle.mini_kept.specs.Loosely.{LawfulUnder}
use Rattle.mini_kept.specs.Without.{Assured, BodySets, Steadies}
use Rattle.mini_rows.specs.Fading.{FadingFrom}
use Rattle.mini_rows.specs.Idle.{IdleRow, IdleStatement}
use Rattle.mini_rows.specs.Lexical.{LexicalRow}
use Rattle.mini_rows.specs.Members.{MemberRow}
use Rattle.mini_rows.specs.Still.{StillRow}
use Rattle.mini_rows.specs.Past.{is_binding, is_symbol, binds}

-- a row reads n as w at this place, in a body of which this is known
abbrev pub SteadyRow : Assured → Position → Tree → Tree → Type 0
SteadyRow V (Expr s) n w = MemberRow V s n w ⊎ (IdleRow V s n w ⊎ StillRow V s n w)
SteadyRow V (Stmt q) n w = IdleStatement V n w
SteadyRow V _ n w = ⊥

-- ---- rows of the code of a body

-- by what is known of the body, which nodes are read as which
abbrev pub OwnRows : Type 1
OwnRows = Assured → Position → Tree → Tree → Type 0

-- 80 and 84 with lexical names
abbrev pub LexicalRows : OwnRows
LexicalRows V = LexicalRow V.unshared

-- how often a symbol is among names, and how often a name with it is declared in a tree
abbrev pub times_named : ℕ → List Name → ℕ
times_named k [] = 0
times_named k (x ∷ xs) = (if is_symbol k x.symbol then 1 else 0) + times_named k xs

abbrev mutual
  pub bindings : ℕ → Tree → ℕ
  bindings k (node h xs n ts) = (if is_binding h then times_named k xs else 0) + all_bindings k ts

  pub all_bindings : ℕ → Trees → ℕ
  all_bindings k none = 0
  all_bindings k (t ▸ ts) = bindings k t + all_bindings k ts

-- some symbols
abbrev pub Symbols : Type 0
Symbols = ℕ → Bool

-- and those of some variables besides
abbrev pub passing : Symbols → List Variable → Symbols
passing L xs k = L k || is_in (Declared k) xs

-- ---- what is begun at a node

-- symbols that were declared before it, and have their values there; and whether it is the list of
-- a `let` or a `const`, in which each declarator begins what it declares, or stands in an export,
-- which evaluates its declaration as a statement
pub record Begun : Type 0 where
  pub symbols : Symbols
  pub in_lexical : Bool

abbrev pub nothing_begun : Begun
nothing_begun = record { symbols = λ k. false; in_lexical = false }

-- a child is so: the declaration is a statement, the head of a `for`, or exported (ECMA-262,
-- "Exports", Evaluation)
abbrev pub enters_lexical : Bool → Shape → Position → Bool
enters_lexical b (shape.VariableDeclaration v) (Stmt q) = is_lexical v
enters_lexical b (shape.VariableDeclaration v) (Expr s) = s.unused && is_lexical v
enters_lexical b (shape.VariableDeclaration v) Elsewhere = b && is_lexical v
enters_lexical b shape.ExportNamedDeclaration p = true
enters_lexical b h p = false

-- where that is declared which begins behind a child: by the child, or in the head of a loop
pub data Beginning : Type 0 where
  OfChild : Beginning
  OfHead : Beginning
  OfNone : Beginning

-- behind each of a list of statements (ECMA-262, "LexicallyDeclaredNames", functions aside); behind
-- each declarator of such a list ("let and const Declarations", Evaluation); behind the head of a
-- `for` ("ForLoopEvaluation"); behind what a `for..in` or `for..of` goes over, in whose body the
-- head has a value each turn ("ForIn/OfBodyEvaluation"); and behind the parameter of a `catch`
-- ("CatchClauseEvaluation")
abbrev pub beginning : Bool → Shape → Position → ℕ → Beginning
beginning b shape.Listed StatementList i = OfChild
beginning b shape.Listed BodyList i = OfChild
beginning b shape.Listed CommaList i = if b then OfChild else OfNone
beginning b shape.CatchClause p zero = OfChild
beginning b shape.ForStatement p zero = OfHead
beginning b shape.ForInStatement p (suc zero) = OfHead
beginning b shape.ForOfStatement p (suc zero) = OfHead
beginning b h p i = OfNone

abbrev pub nth_lets : List Summary → ℕ → List Variable
nth_lets [] i = []
nth_lets (s ∷ is) zero = s.lets
nth_lets (s ∷ is) (suc i) = nth_lets is i

-- what a head declares, if it is a `let` or a `const`
abbrev pub lets_as : Option What → List Variable → List Variable
lets_as (Some (Variables v)) xs = choose (is_lexical v) xs []
lets_as d xs = []

abbrev pub head_lets : List Summary → List Variable
head_lets [] = []
head_lets (s ∷ is) = lets_as s.facts.declared s.lets

abbrev pub begins_by : Beginning → List Summary → ℕ → List Variable
begins_by OfChild is i = nth_lets is i
begins_by OfHead is i = head_lets is
begins_by OfNone is i = []

abbrev pub begins : Bool → Shape → Position → List Summary → ℕ → List Variable
begins b h p is i = begins_by (beginning b h p i) is i

-- what is begun at each child of a node at a place
abbrev pub begun_at : Shape → Position → Begun → List Summary → ℕ → Begun
begun_at h p L is zero = record { symbols = L.symbols; in_lexical = enters_lexical L.in_lexical h p }
begun_at h p L is (suc i) = record (begun_at h p L is i) { symbols = passing (begun_at h p L is i).symbols (begins L.in_lexical h p is i) }

-- the variables that have their values in this code of a body, where L is begun: those, if the code
-- declares them only once; and of X, if they have them as it starts, those that no scope in it
-- declares, throughout
abbrev pub valued : Tree → Symbols → VariableSet → VariableSet
valued t L X (Declared k) = (L k && not (nat_lt 1 (bindings k t))) || (X (Declared k) && not (binds k t))
valued t L X (Global s) = false

-- what is known there in the code of a body of which this is known
abbrev pub known_in : Tree → Assured → Begun → Assured
known_in t V L = record V { initial = valued t L.symbols V.initial }

-- and the rows that rest on it
abbrev pub own_rows : OwnRows → Tree → Assured → Begun → Position → Tree → Tree → Type 0
own_rows F t V L = F (known_in t V L)

-- what stands around a node at a place makes a function there a constructor, or the frame there one
-- of a method of an object, only where the node is the value of a method
abbrev pub is_method_place : Position → Bool
is_method_place Method = true
is_method_place p = false

abbrev pub AroundAt : Position → Around → Type 0
AroundAt p a = is_method_place p ≡ false → a.constructs ≡ false

abbrev pub PropertyAt : Position → Option PropertyKind → Type 0
PropertyAt p k = is_method_place p ≡ false → k ≡ None

-- What a relation has to keep of a node in the code of a body of which this is known, there where
-- the node stands: it means the same but for variables that no event shows and that may have no
-- value where the node stood, a parent reads both alike, and it keeps shapes, names, bodies and
-- frames
pub record KeepsOwn (V : Assured) (R : Position → Tree → Tree → Type 0) : Type 0 where
  pub means : (e : Environment) → Steadies V e → (p : Position) (n w : Tree) → R p n w → (q : Demand) → Fits p q → FadingFrom V.unshared V.initial e q n w
  pub reads : (p : Position) (n w : Tree) → R p n w → summary n ≡ summary w
  -- as an arrow's body it is of the same kind
  pub kind : (p : Position) (n w : Tree) → R p n w → arrow_kind (shape_of n) ≡ arrow_kind (shape_of w)
  pub shapes : KeepsShapes R
  pub names : KeepsNames R
  pub fixed : (p : Position) (n w : Tree) → R p n w → (x : Variable) → fixed_by n x ≡ fixed_by w x
  pub declared : (p : Position) (n w : Tree) → R p n w → (x : Name) → Contains (declared w) x → Contains (declared n) x
  pub bound : (p : Position) (n w : Tree) → R p n w → (k : ℕ) → bindings k w ≤ bindings k n
  pub bodies : (p : Position) (n w : Tree) → R p n w → (a : Around) → AroundAt p a → BodiesKept (bodies a n) (bodies a w)
  pub frames : (p : Position) (n w : Tree) → R p n w → (k : Option PropertyKind) → PropertyAt p k → FramesKept (frames k n) (frames k w)
  pub lightens : Lightens R

-- ---- in the body of a function

-- what has a body of its own
abbrev pub has_body : Shape → Bool
has_body (shape.Program is_module directives) = true
has_body (shape.Function is_declaration is_generator directives) = true
has_body (shape.ArrowFunctionExpression directives) = true
has_body shape.StaticBlock = true
has_body shape.InnerExpression = true
has_body h = false

-- one step in the code of a body itself, by a row that may rest on what is begun there: at a place
-- around which no other body stands, and no other node with a number, which the world evaluates
mutual
  pub data OwnStep (R : Begun → Position → Tree → Tree → Type 0) : Begun → Position → Tree → Tree → Type 0 where
    own_here : (L : Begun) (p : Position) (n w : Tree) → R L p n w → OwnStep R L p n w
    own_inside : (L : Begun) (p : Position) (h : Shape) (xs : List Name) (ts us : Trees) → has_body h ≡ false → OwnStepIn R (begun_at h p L (summaries ts)) (child_position h p (count ts)) ts us → OwnStep R L p (node h xs 0 ts) (node h xs 0 us)

  pub data OwnStepIn (R : Begun → Position → Tree → Tree → Type 0) : (ℕ → Begun) → (ℕ → Position) → Trees → Trees → Type 0 where
    own_first : (Λ : ℕ → Begun) (π : ℕ → Position) (t u : Tree) (ts : Trees) → OwnStep R (Λ zero) (π zero) t u → OwnStepIn R Λ π (t ▸ ts) (u ▸ ts)
    own_later : (Λ : ℕ → Begun) (π : ℕ → Position) (t : Tree) (ts us : Trees) → OwnStepIn R (λ i. Λ (suc i)) (λ i. π (suc i)) ts us → OwnStepIn R Λ π (t ▸ ts) (t ▸ us)

-- a function whose body takes such a step by a row of F, over what S says of the body with its
-- number and what so is known in it
pub record OwnFunctionRow (F : OwnRows) (S : BodySets) (n w : Tree) : Type 0 where
  pub is_declaration : Bool
  pub is_generator : Bool
  pub directives : List (List ℕ)
  pub number : ℕ
  pub name : Tree
  pub parameters : Tree
  pub before : Tree
  pub after : Tree
  pub step : OwnStep (own_rows F before (S number)) nothing_begun Elsewhere before after
  pub shape : n ≡ function_over is_declaration is_generator directives number name parameters before
  pub written : w ≡ function_over is_declaration is_generator directives number name parameters after

-- wherever the function stands
abbrev pub OwnFunction : OwnRows → BodySets → Position → Tree → Tree → Type 0
OwnFunction F S (Stmt q) n w = OwnFunctionRow F S n w
OwnFunction F S (Expr s) n w = OwnFunctionRow F S n w
OwnFunction F S Method n w = OwnFunctionRow F S n w
OwnFunction F S Elsewhere n w = OwnFunctionRow F S n w
OwnFunction F S _ n w = ⊥

-- by a row of members
abbrev pub SteadyFunctionRow : BodySets → Tree → Tree → Type 0
SteadyFunctionRow = OwnFunctionRow SteadyRow

abbrev pub SteadyFunction : BodySets → Position → Tree → Tree → Type 0
SteadyFunction = OwnFunction SteadyRow

-- and by one of lexical names
abbrev pub LexicalFunction : BodySets → Position → Tree → Tree → Type 0
LexicalFunction = OwnFunction LexicalRows

-- ---- the laws

-- what a row writes means the same in any environment in which that is so, from each state in which
-- those variables have values
abbrev pub SteadyMeansSame : Type 0
SteadyMeansSame = (V : Assured) (p : Position) (n w : Tree) → SteadyRow V p n w → (e : Environment) → Steadies V e → (q : Demand) → Fits p q → Same e nothing V.initial q n w

-- where more variables have values, a family reads what it read
abbrev pub ReadsMore : OwnRows → Type 0
ReadsMore F = (V : Assured) (X : VariableSet) → ((x : Variable) → V.initial x ≡ true → X x ≡ true) → (p : Position) (n w : Tree) → F V p n w → F (record V { initial = X }) p n w

-- it makes the whole lighter, wherever it stands, and so does what is written in the body of a
-- function
abbrev pub SteadyLightens : Type 0
SteadyLightens = (V : Assured) → Lightens (SteadyRow V)

abbrev pub FunctionsLighten : OwnRows → Type 0
FunctionsLighten F = (S : BodySets) → Lightens (OwnFunction F S)

abbrev pub SteadyFunctionsLighten : Type 0
SteadyFunctionsLighten = FunctionsLighten SteadyRow

-- what a row of lexical names writes keeps what the code of a body has to keep
abbrev pub LexicalKeepsOwn : Type 0
LexicalKeepsOwn = (V : Assured) → KeepsOwn V (LexicalRows V)

abbrev pub LexicalFunctionsLighten : Type 0
LexicalFunctionsLighten = FunctionsLighten LexicalRows

-- and so what is written in the body of a function keeps all that a program has to keep, where that
-- is so, whichever functions and classes may lose their own name and whichever variables can be
-- written
abbrev pub FunctionsAreLawful : OwnRows → Type 0
FunctionsAreLawful F = (K : Shape → Bool) (W : VariableSet) (S : BodySets) → LawfulUnder K W S (OwnFunction F S)

abbrev pub SteadyFunctionsAreLawful : Type 0
SteadyFunctionsAreLawful = FunctionsAreLawful SteadyRow

abbrev pub LexicalFunctionsAreLawful : Type 0
LexicalFunctionsAreLawful = FunctionsAreLawful LexicalRows

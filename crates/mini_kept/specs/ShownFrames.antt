-- Frames that show what others do, where some keys have lost their brackets, and some functions and
-- classes their own name. A key in brackets is a body of its own; where it gives one property key
-- and does nothing else, it may stand without them, as that property (ECMA-262, "Runtime Semantics:
-- Evaluation" of ComputedPropertyName and of LiteralPropertyName). Its number is then in no frame
-- any more. The name of a function or class expression is declared for what stands in it alone
-- (ECMA-262, "InstantiateOrdinaryFunctionExpression", "ClassDefinitionEvaluation"); where nothing
-- mentions it, it may go.
use Rattle.std.specs.Prelude.{◌≡◌, ◌⊎◌, ◌&&◌, ℕ, Bool, true, false, not, List, [], ◌∷◌, Contains, None, Some}
use Rattle.mini_model.specs.declared.name.Name.{Name}
use Rattle.mini_model.specs.declared.shape.Shape.{Shape}
use Rattle.mini_model.specs.declared.shape.Shape.TheVariants as shape
use Rattle.mini_model.specs.Tree.{Tree, Trees, node, none, ◌▸◌, absent}
use Rattle.mini_laws.specs.DeclaredNames.{own_names}
use Rattle.mini_laws.specs.Value.{Value, Variable, VariableSet, Slot, nothing, variables}
use Rattle.mini_laws.specs.State.{Answer, Environment, seen}
use Rattle.mini_laws.specs.Conversion.{makes, to_text}
use Rattle.mini_laws.specs.Same.{Initialised}
use Rattle.mini_laws.specs.Body.{InnerValue, NormalOf, Ran, Run, start_of}
use Rattle.mini_laws.specs.Bodies.{Body}
use Rattle.mini_kept.specs.Without.{Assured, nothing_assured, BodySets, none_steady, Steadies, Permits}
use Rattle.mini_kept.specs.Frames.{has_key, unbracketed, Frame}

-- ---- what a key gives

-- a run from these variables that has no event, changes no variable and ends with a value that is
-- this property key (ECMA-262, "ToPropertyKey")
pub record OnlyGives (e : Environment) (vars : Variable → Slot) (s : List ℕ) (r : Ran) : Type 0 where
  pub value : Value
  pub events : r.events ≡ []
  pub final : r.final ≡ seen e.shared vars
  pub outcome : r.outcome ≡ NormalOf value
  pub key : to_text value ≡ makes s

-- from each start the run is outside the model, or only gives that key; in any environment in which
-- nobody else sees D and the variables W can be written, and where that is so which V says
pub record GivesKeyUnder (W : VariableSet) (V : Assured) (D : VariableSet) (n : Tree) (s : List ℕ) : Type 0 where
  pub by : (e : Environment) → Permits W D e → Steadies V e → (vars : Variable → Slot) (this : Value) (answers : List Answer) (turns : ℕ) → Initialised V.initial (start_of vars this answers turns) → (Run e InnerValue n vars this answers turns ≡ None) ⊎ ((r : Ran) × (Run e InnerValue n vars this answers turns ≡ Some r) × OnlyGives e vars s r)

-- of some bodies the one with this number does
pub record KeyGivenUnder (W : VariableSet) (S : BodySets) (D : VariableSet) (bs : List Body) (n : ℕ) (s : List ℕ) : Type 0 where
  pub body : Body
  pub there : Contains bs body
  pub number : body.number ≡ n
  pub kind : body.kind ≡ InnerValue
  pub gives : GivesKeyUnder W (S body.number) D body.root s

-- whatever is known of it
abbrev pub KeyGivenWith : VariableSet → VariableSet → List Body → ℕ → List ℕ → Type 0
KeyGivenWith W D = KeyGivenUnder W none_steady D

-- and whichever can be written
abbrev pub GivesKey : VariableSet → Tree → List ℕ → Type 0
GivesKey D = GivesKeyUnder nothing nothing_assured D

abbrev pub KeyGiven : VariableSet → List Body → ℕ → List ℕ → Type 0
KeyGiven D = KeyGivenWith nothing D

-- ---- what is shown

-- an earlier key is the inner expression with a number, and the later is a property that this gives
pub record ShowsKey (G : ℕ → List ℕ → Type 0) (k l : Tree) : Type 0 where
  pub number : ℕ
  pub key : List ℕ
  pub bracketed : k ≡ node shape.InnerExpression [] number none
  pub plain : l ≡ node (shape.StringLiteral key) [] 0 none
  pub given : G number key

-- of an earlier part of a frame and a later one: they are the same, but for such keys
abbrev mutual
  pub Shows : (ℕ → List ℕ → Type 0) → Tree → Tree → Type 0
  Shows G (node h xs n ts) (node i ys m us) = (xs ≡ ys) × (n ≡ m) × (((h ≡ i) × AllShow G ts us) ⊎ ShowsBare G h i ts us)

  pub ShowsBare : (ℕ → List ℕ → Type 0) → Shape → Shape → Trees → Trees → Type 0
  ShowsBare G h i none us = ⊥
  ShowsBare G h i (t ▸ ts) none = ⊥
  ShowsBare G h i (t ▸ ts) (u ▸ us) = (has_key h ≡ true) × (i ≡ unbracketed h) × ShowsKey G t u × AllShow G ts us

  pub AllShow : (ℕ → List ℕ → Type 0) → Trees → Trees → Type 0
  AllShow G none none = Unit {0}
  AllShow G none (u ▸ us) = ⊥
  AllShow G (t ▸ ts) none = ⊥
  AllShow G (t ▸ ts) (u ▸ us) = Shows G t u × AllShow G ts us

-- a frame tells all keys: none is given
abbrev pub no_key : ℕ → List ℕ → Type 0
no_key n s = ⊥

-- ---- names that are gone

-- of which shapes which variables may be gone as names
abbrev pub Gone : Type 0
Gone = Shape → VariableSet

abbrev pub none_gone : Gone
none_gone h = nothing

-- what has a name of its own: a function expression or a class expression
abbrev pub is_named_expression : Shape → Bool
is_named_expression (shape.Function false is_generator directives) = true
is_named_expression (shape.Class false) = true
is_named_expression h = false

-- whose names may go, where those of function expressions are kept or not, and those of class
-- expressions
abbrev pub loses_name : Bool → Bool → Shape → Bool
loses_name functions_kept classes_kept (shape.Function false is_generator directives) = not functions_kept
loses_name functions_kept classes_kept (shape.Class false) = not classes_kept
loses_name functions_kept classes_kept h = false

-- of those the names of these variables
abbrev pub gone_from : (Shape → Bool) → VariableSet → Gone
gone_from K D h x = K h && D x

abbrev pub AllGone : VariableSet → List Variable → Type 0
AllGone D [] = Unit {0}
AllGone D (x ∷ xs) = (D x ≡ true) × AllGone D xs

-- the later one lacks the name that the earlier has of its own, which is gone
pub record LosesName (M : Gone) (G : ℕ → List ℕ → Type 0) (t u : Tree) : Type 0 where
  pub shape : Shape
  pub names : List Name
  pub number : ℕ
  pub name : Tree
  pub before : Trees
  pub after : Trees
  pub named : is_named_expression shape ≡ true
  pub earlier : t ≡ node shape names number (name ▸ before)
  pub later : u ≡ node shape names number (absent ▸ after)
  pub gone : AllGone (M shape) (variables (own_names name))
  pub others : AllShow G before after

-- ---- frames

pub record FrameShown (M : Gone) (G : ℕ → List ℕ → Type 0) (f g : Frame) : Type 0 where
  pub number : f.number ≡ g.number
  pub property : f.property ≡ g.property
  pub outline : Shows G f.outline g.outline ⊎ LosesName M G f.outline g.outline
  pub globals : f.globals ≡ g.globals

-- each later frame is one of the earlier, but for such keys and names
abbrev pub FramesShown : Gone → (ℕ → List ℕ → Type 0) → List Frame → List Frame → Type 0
FramesShown M G fs gs = (g : Frame) → Contains gs g → (f : Frame) × Contains fs f × FrameShown M G f g

-- Bodies that stand for others where some variables are gone, some can be written, and something is
-- known of each body's run: they run alike where nobody else sees the first, a write of the second
-- writes, and that is so.
use Rattle.std.specs.Prelude.{ℕ, ◌≡◌, ◌⊎◌, Bool, true, false, List, [], ◌∷◌}
use Rattle.mini_model.specs.declared.place.Position.{Position}
use Rattle.mini_model.specs.Rewriting.{Step}
use Rattle.mini_model.specs.Tree.{Tree, shape_of}
use Rattle.mini_accept.specs.WellShaped.{Slot, fits}
use Rattle.mini_laws.specs.Value.{Variable, VariableSet, nothing}
use Rattle.mini_laws.specs.State.{Environment, Writes}
use Rattle.mini_laws.specs.Naming.{summary}
use Rattle.mini_laws.specs.Congruence.{Apart, Avoids}
use Rattle.mini_laws.specs.Rewritten.{KeepsMeaning}
use Rattle.mini_laws.specs.Bodies.{Around, Body, bodies, arrow_kind}
use Rattle.mini_kept.specs.AlikeBodies.{KindKept, RunsAs}
use Rattle.mini_kept.specs.Placed.{fits_place}
use Rattle.mini_kept.specs.Lifted.{is_piece}
use Rattle.mini_kept.specs.Standing.{Stands}

-- no event shows one of these variables, and no answer changes one
pub record Unseen (D : VariableSet) (e : Environment) : Type 0 where
  pub shared : Apart e D
  pub foreign : (x : Variable) → D x ≡ true → e.foreign x ≡ false

-- besides, a write of each variable of W writes, as of what no `const` declares (ECMA-262,
-- "SetMutableBinding")
pub record Permits (W D : VariableSet) (e : Environment) : Type 0 where
  pub unseen : Unseen D e
  pub writable : (x : Variable) → W x ≡ true → e.fixed x ≡ Writes

-- what is known of the runs of a body
pub record Assured : Type 0 where
  -- no answer changes these variables while it runs
  pub steady : VariableSet
  -- none of its events shows these
  pub unshared : VariableSet
  -- these are initialised as it starts
  pub initial : VariableSet
  -- it doesn't ask the world for `this`
  pub has_this : Bool

abbrev pub nothing_assured : Assured
nothing_assured = record { steady = nothing; unshared = nothing; initial = nothing; has_this = false }

-- for the number of each body
abbrev pub BodySets : Type 0
BodySets = ℕ → Assured

abbrev pub none_steady : BodySets
none_steady b = nothing_assured

-- all that is known of one is known of another
pub record Within (V W : Assured) : Type 0 where
  pub steady : (x : Variable) → V.steady x ≡ true → W.steady x ≡ true
  pub unshared : (x : Variable) → V.unshared x ≡ true → W.unshared x ≡ true
  pub initial : (x : Variable) → V.initial x ≡ true → W.initial x ≡ true
  pub has_this : V.has_this ≡ true → W.has_this ≡ true

-- so it is in an environment
pub record Steadies (V : Assured) (e : Environment) : Type 0 where
  pub steady : (x : Variable) → V.steady x ≡ true → e.foreign x ≡ false
  pub unshared : (x : Variable) → V.unshared x ≡ true → e.shared x ≡ false
  pub has_this : V.has_this ≡ true → e.asks_this ≡ false

-- and from the starts that initialise X
abbrev pub Begins : Assured → VariableSet → Type 0
Begins V X = (x : Variable) → V.initial x ≡ true → X x ≡ true

-- an earlier body and a later one, without the variables D, where those of W can be written, and
-- what S says is known of the body with a number
pub record AlikeUnder (W : VariableSet) (S : BodySets) (D : VariableSet) (b c : Body) : Type 0 where
  pub number : b.number ≡ c.number
  pub kind : KindKept b.kind c.kind
  pub strict : b.strict ≡ c.strict
  pub asks_this : b.asks_this ≡ c.asks_this
  -- from each start, whichever variables are initialised there besides
  pub same : (e : Environment) → Permits W D e → Steadies (S b.number) e → (X : VariableSet) → Begins (S b.number) X → RunsAs e b.kind c.kind X b.root c.root

-- the later body is one of these
abbrev pub IsOneUnder : VariableSet → BodySets → VariableSet → List Body → Body → Type 0
IsOneUnder W S D [] c = ⊥
IsOneUnder W S D (b ∷ bs) c = AlikeUnder W S D b c ⊎ IsOneUnder W S D bs c

-- and so is each of some later bodies
abbrev pub BodiesUnder : VariableSet → BodySets → VariableSet → List Body → List Body → Type 0
BodiesUnder W S D bs [] = Unit {0}
BodiesUnder W S D bs (c ∷ cs) = IsOneUnder W S D bs c × BodiesUnder W S D bs cs

-- whatever is known besides
abbrev pub AlikeWith : VariableSet → VariableSet → Body → Body → Type 0
AlikeWith W D = AlikeUnder W none_steady D

abbrev pub BodiesWith : VariableSet → VariableSet → List Body → List Body → Type 0
BodiesWith W D = BodiesUnder W none_steady D

-- and whichever variables can be written
abbrev pub BodiesWithout : VariableSet → List Body → List Body → Type 0
BodiesWithout D = BodiesWith nothing D

-- what a relation of rewriting has to keep of the nodes that it replaces, for a program to keep its
-- bodies without the variables D, where those of W can be written and what S says is known: each
-- instance means the same where nobody else sees the former, and is read alike
pub record KeepsBodiesUnder (W : VariableSet) (S : BodySets) (D : VariableSet) (R : Position → Tree → Tree → Type 0) : Type 0 where
  pub means : (e : Environment) → Permits W D e → KeepsMeaning R e D
  pub reads : (p : Position) (n w : Tree) → R p n w → summary n ≡ summary w
  pub pieces : (p : Position) (n w : Tree) → R p n w → is_piece (shape_of n) ≡ false
  pub kind : (p : Position) (n w : Tree) → R p n w → (strict : Bool) (s : Slot) → fits strict s n ≡ true → arrow_kind (shape_of n) ≡ arrow_kind (shape_of w)
  pub bodies : (p : Position) (n w : Tree) → R p n w → (strict : Bool) (s : Slot) → fits_place p s ≡ true → fits strict s n ≡ true → (a : Around) → Stands s p a → BodiesUnder W S D (bodies a n) (bodies a w)

-- so does one step, at any place of a tree that fills a slot, where the tree that it gives mentions
-- none of the variables D
abbrev pub StepKeepsUnder : VariableSet → BodySets → VariableSet → (Position → Tree → Tree → Type 0) → Type 0
StepKeepsUnder W S D R =
    KeepsBodiesUnder W S D R → (p : Position) (t u : Tree) → Step R p t u → Avoids D u → (strict : Bool) (s : Slot) → fits_place p s ≡ true → fits strict s t ≡ true → (a : Around) → Stands s p a → BodiesUnder W S D (bodies a t) (bodies a u)

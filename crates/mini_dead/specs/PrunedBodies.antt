-- The bodies of a tree of which some items go: each body that is left is one that the tree had, of
-- which some items go.
use Rattle.std.specs.Prelude.{◌≡◌, ◌⊎◌, true, false, List, [], ◌∷◌}
use Rattle.mini_laws.specs.Value.{Variable, VariableSet}
use Rattle.mini_laws.specs.State.{Environment, Writes}
use Rattle.mini_laws.specs.Congruence.{Apart}
use Rattle.mini_laws.specs.Bodies.{Around, Body, bodies, bodies_in}
use Rattle.mini_dead.specs.Creations.{FunctionSet, SameWithout}
use Rattle.mini_dead.specs.Pruned.{Elsewhere, Pruned, earlier, later, Prunes}

-- a body that is left, and the one that it was, where the environments are those of C
pub record BodyPruned (d : FunctionSet) (D : VariableSet) (C : Environment → Type 0) (b b' : Body) : Type 0 where
  pub number : b.number ≡ b'.number
  pub kind : b.kind ≡ b'.kind
  pub strict : b.strict ≡ b'.strict
  pub asks_this : b.asks_this ≡ b'.asks_this
  pub root : Pruned
  pub before : earlier root ≡ b.root
  pub after : later root ≡ b'.root
  pub prunes : (e : Environment) → C e → Prunes d D e Elsewhere root

-- the bodies that are left, in their order
abbrev pub BodiesPruned : FunctionSet → VariableSet → (Environment → Type 0) → List Body → List Body → Type 0
BodiesPruned d D C bs [] = Unit {0}
BodiesPruned d D C [] (b' ∷ bs') = ⊥
BodiesPruned d D C (b ∷ bs) (b' ∷ bs') = (BodyPruned d D C b b' × BodiesPruned d D C bs bs') ⊎ BodiesPruned d D C bs (b' ∷ bs')

abbrev pub PrunedBodies : Type 1
PrunedBodies =
    (d : FunctionSet) (D : VariableSet) (C : Environment → Type 0) (a : Around) (p : Pruned) → d 0 ≡ false → (e : Environment) → C e → ((e : Environment) → C e → Prunes d D e Elsewhere p) → BodiesPruned d D C (bodies a (earlier p)) (bodies a (later p))

-- ---- whole programs

-- the names that go can be written
abbrev pub MayWrite : VariableSet → Environment → Type 0
MayWrite D e = (x : Variable) → D x ≡ true → e.fixed x ≡ Writes

-- a body that is left does what it did, but for the creation of the functions that went, where no
-- event shows the names that went
pub record BodyWithout (d : FunctionSet) (D : VariableSet) (b b' : Body) : Type 0 where
  pub number : b.number ≡ b'.number
  pub kind : b.kind ≡ b'.kind
  pub strict : b.strict ≡ b'.strict
  pub asks_this : b.asks_this ≡ b'.asks_this
  pub same : (e : Environment) → MayWrite D e → Apart e D → SameWithout d e b.kind b.root b'.root

abbrev pub BodiesWithout : FunctionSet → VariableSet → List Body → List Body → Type 0
BodiesWithout d D bs [] = Unit {0}
BodiesWithout d D [] (b' ∷ bs') = ⊥
BodiesWithout d D (b ∷ bs) (b' ∷ bs') = (BodyWithout d D b b' × BodiesWithout d D bs bs') ⊎ BodiesWithout d D bs (b' ∷ bs')

-- each body that is left is one that the program had, in order, and does what that did. The number
-- of the program itself, 0, is none of those that go
abbrev pub PrunedProgram : Type 0
PrunedProgram =
    (d : FunctionSet) (D : VariableSet) (p : Pruned) → d 0 ≡ false → ((e : Environment) → MayWrite D e → Prunes d D e Elsewhere p) → BodiesWithout d D (bodies_in (earlier p)) (bodies_in (later p))

-- A relation of rewriting that keeps all that a program has to keep but names that nothing
-- mentions, where some variables can be written, and something is known of some bodies, and what
-- any number of its steps keep.
use Rattle.std.specs.Prelude.{ℕ, ◌≡◌, ◌+◌, ◌≤◌, ◌⊎◌, nat_eq, Bool, true, false, Contains, [], Option, None, Some}
use Rattle.mini_model.specs.declared.name.Name.{Name}
use Rattle.mini_model.specs.declared.name.SymbolId.{SymbolId}
use Rattle.mini_model.specs.declared.place.Position.{Position}
use Rattle.mini_model.specs.declared.place.Position.TheVariants.{Elsewhere}
use Rattle.mini_model.specs.declared.shape.Shape.{Shape}
use Rattle.mini_model.specs.Tree.{Tree, shape_of, children}
use Rattle.mini_model.specs.Rewriting.{Reaches}
use Rattle.mini_accept.specs.WellShaped.{Slot, fits, IsWellShaped}
use Rattle.mini_laws.specs.declared.names.Use.{Use}
use Rattle.mini_laws.specs.declared.names.Use.TheVariants.{Read}
use Rattle.mini_laws.specs.Edits.{Kept}
use Rattle.mini_laws.specs.Resolved.{Environment as Bindings}
use Rattle.mini_laws.specs.Scoped.{Scoped}
use Rattle.mini_laws.specs.Symbols.{declared as declared_in, declared_symbols, times, Distinct}
use Rattle.mini_laws.specs.Value.{Variable, Declared, Global, VariableSet, nothing}
use Rattle.mini_laws.specs.State.{Environment}
use Rattle.mini_laws.specs.Demand.{Demand}
use Rattle.mini_laws.specs.Naming.{summary}
use Rattle.mini_laws.specs.Fits.{Fits}
use Rattle.mini_laws.specs.Fixity.{fixed_by, fixed_in}
use Rattle.mini_laws.specs.Same.{Same}
use Rattle.mini_laws.specs.Substitution.{alone}
use Rattle.mini_laws.specs.Bodies.{Around, bodies, bodies_in, arrow_kind}
use Rattle.mini_kept.specs.AlikeBodies.{BodiesKept}
use Rattle.mini_kept.specs.Declaring.{declared}
use Rattle.mini_kept.specs.Frames.{frames, frames_in}
use Rattle.mini_kept.specs.ShownFrames.{KeyGivenUnder, KeyGiven, no_key, none_gone, gone_from, FramesShown}
use Rattle.mini_kept.specs.Kept.{over}
use Rattle.mini_kept.specs.KeepsNames.{Stands as StandsAs}
use Rattle.mini_kept.specs.KeepsFrames.{KeepsPlaces}
use Rattle.mini_kept.specs.KeepsShapes.{KeepsShapes}
use Rattle.mini_kept.specs.Lawful.{Lawful}
use Rattle.mini_kept.specs.Lifted.{ProgramKeeps}
use Rattle.mini_kept.specs.Placed.{fits_place}
use Rattle.mini_kept.specs.Standing.{Stands}
use Rattle.mini_kept.specs.Without.{BodySets, none_steady, Within, Permits, BodiesUnder}

abbrev pub symbol : ℕ → Option SymbolId
symbol k = Some (record { 0 = k })

-- the symbol of a variable: of a name that has none, none
abbrev pub symbol_for : Variable → Option SymbolId
symbol_for (Declared k) = symbol k
symbol_for (Global s) = None

-- the scopes in the later tree declare a variable, or names without a symbol, less often than those
-- in the earlier
pub record LessOften (v : Use) (x : Variable) (n w : Tree) : Type 0 where
  pub declared : Option SymbolId
  pub either : (declared ≡ symbol_for x) ⊎ (declared ≡ None)
  pub less : times declared (declared_in v w) + 1 ≤ times declared (declared_in v n)

-- What a write of each variable does stays, or one goes that declares it: where no symbol is
-- declared twice, as in a program, nothing declares that variable then
pub record FixedKept (p : Position) (n w : Tree) : Type 0 where
  pub by : (strict : Bool) (s : Slot) → fits_place p s ≡ true → fits strict s n ≡ true → (v : Use) (env : Bindings) → StandsAs p v n → Scoped v env n → (x : Variable) → (fixed_by n x ≡ fixed_by w x) ⊎ LessOften v x n w

-- the same wherever it stands, in any environment in which the variables W can be written
pub record SameWith (W : VariableSet) (p : Position) (n w : Tree) : Type 0 where
  pub by : (e : Environment) → Permits W nothing e → (q : Demand) → Fits p q → Same e nothing nothing q n w

-- one node in the place of another that means the same there, with its bodies and frames, and what
-- a write of each variable does that is still declared
pub record StaysWith (W : VariableSet) (p : Position) (n w : Tree) : Type 0 where
  pub same : SameWith W p n w
  pub fixed : FixedKept p n w
  pub frames : (strict : Bool) (s : Slot) → fits_place p s ≡ true → fits strict s n ≡ true → (a : Around) → FramesShown none_gone (KeyGiven nothing (bodies a n)) (frames None n) (frames None w)
  pub bodies : (strict : Bool) (s : Slot) → fits_place p s ≡ true → fits strict s n ≡ true → (a : Around) → Stands s p a → BodiesKept (bodies a n) (bodies a w)

-- whichever variables can be written
abbrev pub Stays : Position → Tree → Tree → Type 0
Stays = StaysWith nothing

-- One without a name that a scope in the other declares: the names that are seen around it are
-- those, in order, and the symbol is declared in it once less. Where nobody else sees that variable
-- it means the same but for what the variable holds afterwards, and it has the bodies, and the
-- frames but for that name, where it is the own one of a function or class that K lets lose it,
-- where the variables W can be written and S says what is known of each body. What a write of any
-- other variable does stays. That nothing in the later program mentions the symbol follows, where
-- each name of the program has the symbol that the scopes around it give and no symbol is declared
-- twice
pub record DropsUnder (K : Shape → Bool) (W : VariableSet) (S : BodySets) (k : ℕ) (p : Position) (n w : Tree) : Type 0 where
  pub kept : Kept n w
  pub less : (v : Use) → times (symbol k) (declared_in v w) + 1 ≤ times (symbol k) (declared_in v n)
  pub same : (e : Environment) → Permits W (alone (Declared k)) e → (q : Demand) → Fits p q → Same e (alone (Declared k)) nothing q n w
  pub fixed : (x : Variable) → alone (Declared k) x ≡ false → fixed_by n x ≡ fixed_by w x
  pub frames : (strict : Bool) (s : Slot) → fits_place p s ≡ true → fits strict s n ≡ true → FramesShown (gone_from K (alone (Declared k))) no_key (frames None n) (frames None w)
  pub bodies : (strict : Bool) (s : Slot) → fits_place p s ≡ true → fits strict s n ≡ true → (a : Around) → Stands s p a → BodiesUnder W S (alone (Declared k)) (bodies a n) (bodies a w)

-- whatever is known of the bodies
abbrev pub DropsWith : (Shape → Bool) → VariableSet → ℕ → Position → Tree → Tree → Type 0
DropsWith K W = DropsUnder K W none_steady

-- and whichever variables can be written
abbrev pub Drops : (Shape → Bool) → ℕ → Position → Tree → Tree → Type 0
Drops K = DropsWith K nothing

-- One node in the place of another that means the same there, of which bodies may rest on what S
-- says of a body with a number
pub record SteadiesWith (W : VariableSet) (S : BodySets) (p : Position) (n w : Tree) : Type 0 where
  pub same : SameWith W p n w
  pub fixed : FixedKept p n w
  pub frames : (strict : Bool) (s : Slot) → fits_place p s ≡ true → fits strict s n ≡ true → (a : Around) → FramesShown none_gone (KeyGiven nothing (bodies a n)) (frames None n) (frames None w)
  pub bodies : (strict : Bool) (s : Slot) → fits_place p s ≡ true → fits strict s n ≡ true → (a : Around) → Stands s p a → BodiesUnder W S nothing (bodies a n) (bodies a w)

-- It keeps shapes, names and places, a parent reads alike what it writes, and that declares no
-- other name; and each instance is one of I
pub record LawfulBy (I : Position → Tree → Tree → Type 0) (R : Position → Tree → Tree → Type 0) : Type 0 where
  pub shapes : KeepsShapes R
  pub places : KeepsPlaces R
  pub reads : (p : Position) (n w : Tree) → R p n w → summary n ≡ summary w
  pub kind : (p : Position) (n w : Tree) → R p n w → (strict : Bool) (s : Slot) → fits strict s n ≡ true → arrow_kind (shape_of n) ≡ arrow_kind (shape_of w)
  pub declared : (p : Position) (n w : Tree) → R p n w → (x : Name) → Contains (declared w) x → Contains (declared n) x
  pub instances : (p : Position) (n w : Tree) → R p n w → I p n w

-- each instance stays or drops one name, where the variables W can be written. K says which
-- functions and classes may lose their own name
abbrev pub LawfulWith : (Shape → Bool) → VariableSet → (Position → Tree → Tree → Type 0) → Type 0
LawfulWith K W = LawfulBy (λ p n w. StaysWith W p n w ⊎ ((k : ℕ) × DropsWith K W k p n w))

-- and where S says what is known of each body
abbrev pub LawfulUnder : (Shape → Bool) → VariableSet → BodySets → (Position → Tree → Tree → Type 0) → Type 0
LawfulUnder K W S = LawfulBy (λ p n w. SteadiesWith W S p n w ⊎ ((k : ℕ) × DropsUnder K W S k p n w))

-- whichever variables can be written
abbrev pub LawfulLoosely : (Shape → Bool) → (Position → Tree → Tree → Type 0) → Type 0
LawfulLoosely K R = LawfulWith K nothing R

-- the variables whose symbol a program doesn't declare
abbrev pub undeclared : Tree → VariableSet
undeclared u (Declared k) = nat_eq (times (symbol k) (declared_symbols u)) 0
undeclared u (Global s) = false

-- what any number of steps keep of a program whose names are resolved: each body runs as before
-- where nobody else sees a variable that the later program doesn't declare, those of W can be
-- written, and that is so which S says of it; what a write of each variable that it does declare
-- does stays
pub record ProgramIsKeptUnder (K : Shape → Bool) (W : VariableSet) (S : BodySets) (t u : Tree) : Type 0 where
  pub names : ProgramKeeps t u
  pub bodies : Scoped Read [] t → Distinct (declared_symbols t) → BodiesUnder W S (undeclared u) (bodies_in t) (bodies_in u)
  pub frames : Scoped Read [] t → Distinct (declared_symbols t) → FramesShown (gone_from K (undeclared u)) (KeyGivenUnder W S (undeclared u) (bodies_in t)) (frames_in t) (frames_in u)
  pub fixities : Scoped Read [] t → Distinct (declared_symbols t) → (strict : Bool) (x : Variable) → undeclared u x ≡ false → fixed_in strict t x ≡ fixed_in strict u x
  pub declared : (x : Name) → Contains (declared u) x → Contains (declared t) x
  pub root : u ≡ over t (children u)

-- whatever is known of the bodies
abbrev pub ProgramIsKeptLoosely : (Shape → Bool) → VariableSet → Tree → Tree → Type 0
ProgramIsKeptLoosely K W = ProgramIsKeptUnder K W none_steady

abbrev pub SteadilyKeeps : (Position → Tree → Tree → Type 0) → Type 0
SteadilyKeeps R = (K : Shape → Bool) (W : VariableSet) (S : BodySets) → LawfulUnder K W S R → (t u : Tree) → Reaches R Elsewhere t u → IsWellShaped t → ProgramIsKeptUnder K W S t u

abbrev pub LooselyKeeps : (Position → Tree → Tree → Type 0) → Type 0
LooselyKeeps R = (K : Shape → Bool) (W : VariableSet) → LawfulWith K W R → (t u : Tree) → Reaches R Elsewhere t u → IsWellShaped t → ProgramIsKeptLoosely K W t u

-- what is lawful is so loosely, whichever variables can be written
abbrev pub LawfulIsLoose : (Position → Tree → Tree → Type 0) → Type 0
LawfulIsLoose R = (K : Shape → Bool) (W : VariableSet) → Lawful R → LawfulWith K W R

-- what is lawful where some variables can be written is so where more can
abbrev pub LooseWider : (Position → Tree → Tree → Type 0) → Type 0
LooseWider R = (K : Shape → Bool) (V W : VariableSet) → ((x : Variable) → V x ≡ true → W x ≡ true) → LawfulWith K V R → LawfulWith K W R

-- and whatever is known of the bodies
abbrev pub LooseIsSteady : (Position → Tree → Tree → Type 0) → Type 0
LooseIsSteady R = (K : Shape → Bool) (W : VariableSet) (S : BodySets) → LawfulWith K W R → LawfulUnder K W S R

-- what is lawful where something is known is so where more is
abbrev pub SteadyWider : (Position → Tree → Tree → Type 0) → Type 0
SteadyWider R =
    (K : Shape → Bool) (V W : VariableSet) (Q S : BodySets) → ((x : Variable) → V x ≡ true → W x ≡ true) → ((b : ℕ) → Within (Q b) (S b)) → LawfulUnder K V Q R → LawfulUnder K W S R

-- two loosely lawful relations make one
abbrev pub LooseJoin : (Position → Tree → Tree → Type 0) → (Position → Tree → Tree → Type 0) → Type 0
LooseJoin R S = (K : Shape → Bool) (W : VariableSet) → LawfulWith K W R → LawfulWith K W S → LawfulWith K W (λ p t u. R p t u ⊎ S p t u)

abbrev pub SteadyJoin : (Position → Tree → Tree → Type 0) → (Position → Tree → Tree → Type 0) → Type 0
SteadyJoin R Q = (K : Shape → Bool) (W : VariableSet) (S : BodySets) → LawfulUnder K W S R → LawfulUnder K W S Q → LawfulUnder K W S (λ p t u. R p t u ⊎ Q p t u)

-- and so is what makes no more than a loosely lawful one
abbrev pub LooseNarrowed : (Position → Tree → Tree → Type 0) → (Position → Tree → Tree → Type 0) → Type 0
LooseNarrowed R S = (K : Shape → Bool) (W : VariableSet) → ((p : Position) (t u : Tree) → R p t u → S p t u) → LawfulWith K W S → LawfulWith K W R

abbrev pub SteadyNarrowed : (Position → Tree → Tree → Type 0) → (Position → Tree → Tree → Type 0) → Type 0
SteadyNarrowed R Q = (K : Shape → Bool) (W : VariableSet) (S : BodySets) → ((p : Position) (t u : Tree) → R p t u → Q p t u) → LawfulUnder K W S Q → LawfulUnder K W S R

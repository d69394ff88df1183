-- What the rows write for a node they write for the node that is read again.
use Rattle.std.specs.Prelude.{◌≡◌, ◌⊎◌, ℕ, Bool, map}
use Rattle.std.specs.List.{list_any}
use Rattle.mini_model.specs.declared.place.Position.{Position}
use Rattle.mini_model.specs.Tree.{Tree}
use Rattle.mini_laws.specs.Bodies.{Body, bodies_in}
use Rattle.mini_laws.specs.Foreign.{is_foreign, is_write, all_writes, lexical_variables}
use Rattle.mini_laws.specs.Mentions.{is_among}
use Rattle.mini_laws.specs.Renaming.{rename_name, rename_variable, TellsApart}
use Rattle.mini_laws.specs.Shared.{is_shared}
use Rattle.mini_model.specs.declared.name.Name.{Name}
use Rattle.mini_laws.specs.Value.{VariableSet, Variable}
use Rattle.mini_rows.specs.Redex.{Rewrites, HasNoRedex}
use Rattle.mini_kept.specs.Without.{Assured, BodySets}
use Rattle.mini_laws.specs.Writable.{writable_in}
use Rattle.mini_model.specs.Rewriting.{Everywhere}
use Rattle.mini_rows.specs.Editions.{SteadyRowsIn}
use Rattle.mini_rows.specs.Inside.{InsideContracts}
use Rattle.mini_rows.specs.OwnArrows.{OwnCode}
use Rattle.mini_rows.specs.OwnParts.{OwnPart}
use Rattle.mini_rows.specs.OwnPrograms.{OwnProgram}
use Rattle.mini_rows.specs.Past.{PastFunction}
use Rattle.mini_rows.specs.PastArrows.{PastArrow}
use Rattle.mini_rows.specs.PastBlocks.{PastBlocks}
use Rattle.mini_rows.specs.PastInside.{PastInside}
use Rattle.mini_rows.specs.PastModules.{PastModule}
use Rattle.mini_rows.specs.PastStatics.{PastStatic}
use Rattle.mini_rows.specs.Steady.{OwnRows, LexicalRows}
use Rattle.mini_rows.specs.Switches.{Switches, Liberties, liberties}
use Rattle.mini_again.specs.Again.{Renaming, again, other_number, with_others_in, assured_with_others, sets_with_others, liberties_with_others_in}

-- What a row writes for a node it writes for the node that is read again, where the variables that
-- may be written are the other ones: each row but those that rest on what is known of the body
-- around. `0 && x` becomes `0`, whichever symbol `x` has
abbrev pub RewritesSurvive : Type 0
RewritesSurvive = (ρ : Renaming) (o : Switches) (V : VariableSet) (p : Position) (n w : Tree) → Rewrites o (with_others_in ρ V) p n w → Rewrites o V p (again ρ n) (again ρ w)

-- V has the other one of each variable that W has
abbrev pub HasOthers : Renaming → VariableSet → VariableSet → Type 0
HasOthers ρ W V = (x : Variable) → V (rename_variable ρ.symbol x) ≡ W x

-- Nothing is left to rewrite in a program by rows that rest on no body, if nothing is left in the
-- program that is read again
abbrev pub NothingIsLeft : Type 0
NothingIsLeft = (ρ : Renaming) (o : Switches) (W V : VariableSet) → HasOthers ρ W V → (p : Position) (t : Tree) → HasNoRedex o V p (again ρ t) → HasNoRedex o W p t

-- ---- rows that rest on what is known of the body around

-- a family of rows in the own code of a body reads nodes that are read again, over what is known of
-- the other variables
abbrev pub OwnSurvives : OwnRows → Type 0
OwnSurvives F = (ρ : Renaming) (V : Assured) (p : Position) (n w : Tree) → F (assured_with_others ρ V) p n w → F V p (again ρ n) (again ρ w)

-- rows over what is known of each body and over what may be written read nodes that are read again
abbrev pub BodiesSurvive : (BodySets → Liberties → Position → Tree → Tree → Type 0) → Type 0
BodiesSurvive R = (ρ : Renaming) (S : BodySets) (W : Liberties) (p : Position) (n w : Tree) → R (sets_with_others ρ S) (liberties_with_others_in ρ W) p n w → R S W p (again ρ n) (again ρ w)

-- ---- all rows that rest on what is known of the body around

-- a row of a family in the own code of whatever has a body
abbrev pub OwnCodeRow : OwnRows → BodySets → Position → Tree → Tree → Type 0
OwnCodeRow F S p n w = (OwnCode F S p n w ⊎ OwnProgram F S p n w) ⊎ OwnPart F S p n w

-- 71 past names that keep their value
abbrev pub PastCodeRow : BodySets → Liberties → Position → Tree → Tree → Type 0
PastCodeRow S W p n w = ((PastFunction S W p n w ⊎ PastArrow S W p n w) ⊎ (PastModule S W p n w ⊎ PastStatic S W p n w)) ⊎ OwnCodeRow (PastBlocks W.switches) S p n w

-- 71 and 72 of a `var` further inside a body, and 71 past such names
abbrev pub InsideCodeRow : BodySets → Liberties → Position → Tree → Tree → Type 0
InsideCodeRow S W p n w = InsideContracts W p n w ⊎ PastInside S W p n w

-- a row that rests on what is known of the body around: of members, of `this`, of lexical names, of
-- names that are read past others, or of a `var` further inside
abbrev pub BodyRewrites : BodySets → Liberties → Position → Tree → Tree → Type 0
BodyRewrites S W p n w = (OwnCodeRow (SteadyRowsIn W.switches.edition) S p n w ⊎ OwnCodeRow LexicalRows S p n w) ⊎ (PastCodeRow S W p n w ⊎ InsideCodeRow S W p n w)

-- what such a row writes for a node it writes for the node that is read again
abbrev pub BodyRewritesSurvive : Type 0
BodyRewritesSurvive = BodiesSurvive BodyRewrites

-- S knows of the body with another number and of other variables what R knows of the body and the
-- variables
abbrev pub HasOtherSets : Renaming → BodySets → BodySets → Type 0
HasOtherSets ρ R S = (b : ℕ) → sets_with_others ρ S b ≡ R b

-- Nothing is left to rewrite in a program by rows that rest on bodies, if nothing is left in the
-- program that is read again
abbrev pub NothingIsLeftInBodies : Type 0
NothingIsLeftInBodies =
    (ρ : Renaming) (R S : BodySets) → HasOtherSets ρ R S → (o : Switches) (W V : VariableSet) → HasOthers ρ W V → (p : Position) (t : Tree)
    → Everywhere (λ q n. (w : Tree) → BodyRewrites S (liberties o V) q n w → ⊥) p (again ρ t) → Everywhere (λ q n. (w : Tree) → BodyRewrites R (liberties o W) q n w → ⊥) p t

-- ---- what a program tells

-- a program lets a variable be written where the program that is read again lets the other one be
abbrev pub WritableSurvives : Type 0
WritableSurvives = (ρ : Renaming) (t : Tree) → HasOthers ρ (writable_in t) (writable_in (again ρ t))

-- a body that is read again has another number and another root
abbrev pub body_again : Renaming → Body → Body
body_again ρ b = record { number = other_number ρ b.number; kind = b.kind; root = again ρ b.root; strict = b.strict; asks_this = b.asks_this }

-- the bodies of a program that is read again are its bodies, each read again
abbrev pub BodiesAgain : Type 0
BodiesAgain = (ρ : Renaming) (t : Tree) → bodies_in (again ρ t) ≡ map (body_again ρ) (bodies_in t)

-- A variable is shared with a body and foreign to it where the other variable is with the body that
-- has the other number; it is written and lexical where the other one is
pub record ToldAgain (ρ : Renaming) (t : Tree) : Type 0 where
  pub shared : (b : ℕ) (x : Name) → is_shared (again ρ t) (other_number ρ b) (rename_name ρ.symbol x) ≡ is_shared t b x
  pub foreign : (b : ℕ) (x : Name) → is_foreign (again ρ t) (other_number ρ b) (rename_name ρ.symbol x) ≡ is_foreign t b x
  pub written : (x : Name) → list_any (is_write (rename_name ρ.symbol x)) (all_writes (again ρ t)) ≡ list_any (is_write x) (all_writes t)
  pub lexical : (b : Bool) (x : Name) → is_among (rename_name ρ.symbol x) (lexical_variables b (again ρ t)) ≡ is_among x (lexical_variables b t)

-- Numbers have to be told apart: were two bodies one by their other numbers, a variable that both
-- mention would be shared before and not after
abbrev pub ToldSurvives : Type 0
ToldSurvives = (ρ : Renaming) → TellsApart ρ.number → (t : Tree) → ToldAgain ρ t

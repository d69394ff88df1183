-- What a relation of rewriting has to keep of the nodes that it replaces, for a program to keep it.
use Rattle.std.specs.Prelude.{ℕ, ◌≡◌, ◌⊎◌, ◌≤◌, Bool, true, false, []}
use Rattle.mini_model.specs.declared.place.Position.{Position}
use Rattle.mini_model.specs.declared.place.Position.TheVariants.{Elsewhere, Method, Expr}
use Rattle.mini_model.specs.declared.shape.Shape.{Shape}
use Rattle.mini_model.specs.declared.shape.Shape.TheVariants as shape
use Rattle.mini_model.specs.Tree.{Tree, count, children, shape_of, child_or_absent, is_absent}
use Rattle.mini_model.specs.Position.{argument_seat}
use Rattle.mini_model.specs.Redex.{Contracts}
use Rattle.mini_model.specs.Rewriting.{Step, Reaches}
use Rattle.mini_accept.specs.WellShaped.{an_expression, Slot, one_or_absent, fits, IsWellShaped}
use Rattle.mini_laws.specs.declared.names.Use.TheVariants.{Read}
use Rattle.mini_laws.specs.DeclaredNames.{own_names}
use Rattle.mini_laws.specs.Scoped.{Scoped}
use Rattle.mini_laws.specs.Symbols.{declared_symbols, Distinct, Within}
use Rattle.mini_laws.specs.Early.{no_targets}
use Rattle.mini_kept.specs.Carried.{number_of, numbers as numbers_of}
use Rattle.mini_kept.specs.Frames.{unbracketed}
use Rattle.mini_kept.specs.Placed.{fits_place}
use Rattle.mini_kept.specs.KeepsNames.{is_rewritten_place, NamesOnce, HasTargets, count_of}
use Rattle.mini_kept.specs.KeepsLoosely.{KeepsLoosely}

-- a piece of a template's text
abbrev pub is_piece : Shape → Bool
is_piece (shape.TemplateElement tail raw c) = true
is_piece h = false

-- where a node may be replaced that keeps its root: elsewhere, as the property of a pattern, or as
-- the value of a method
abbrev pub is_rooted_place : Position → Bool
is_rooted_place Elsewhere = true
is_rooted_place Method = true
is_rooted_place p = false

-- the node over as many children, of which the second is the same: the first is its key, which may
-- lose its brackets, and the third of a function is its body
pub record KeepsRoot (p : Position) (n w : Tree) : Type 0 where
  pub place : is_rooted_place p ≡ true
  pub shape : unbracketed (shape_of n) ≡ unbracketed (shape_of w)
  pub names : own_names n ≡ own_names w
  pub number : number_of n ≡ number_of w
  pub counted : count (children n) ≡ count (children w)
  pub second : child_or_absent (children n) 1 ≡ child_or_absent (children w) 1

-- it replaces expressions, statements and lists of statements, or what keeps its root, and what it
-- writes keeps what the node, where it may stand, has
pub record KeepsNames (R : Position → Tree → Tree → Type 0) : Type 0 where
  pub places : (p : Position) (n w : Tree) → R p n w → (is_rewritten_place p ≡ true) ⊎ KeepsRoot p n w
  pub pieces : (p : Position) (n w : Tree) → R p n w → is_piece (shape_of n) ≡ false
  pub keeps : (p : Position) (n w : Tree) → R p n w → (strict : Bool) (s : Slot) → fits_place p s ≡ true → fits strict s n ≡ true → KeepsLoosely p n w

-- where an initializer of a declarator stands (ECMA-262, "Variable Statement"), one is written, and
-- where none stands, none
abbrev pub InitStays : (Position → Tree → Tree → Type 0) → Type 0
InitStays R = (n w : Tree) → R (Expr argument_seat) n w → (strict : Bool) → fits strict (one_or_absent an_expression) n ≡ true → is_absent n ≡ is_absent w

-- so does a step at any place of a tree that may stand where it does
abbrev pub StepKeepsNames : (Position → Tree → Tree → Type 0) → Type 0
StepKeepsNames R = KeepsNames R → InitStays R → (p : Position) (t u : Tree) → Step R p t u → (strict : Bool) (s : Slot) → fits_place p s ≡ true → fits strict s t ≡ true → KeepsLoosely p t u

-- What any number of rewrites keep of a program: it stays one, each name in it has the symbol that
-- the scopes around it give, no symbol is declared twice, no number stands in it more often, and it
-- has no early error
pub record ProgramKeeps (t u : Tree) : Type 0 where
  pub shaped : IsWellShaped t → IsWellShaped u
  pub scoped : IsWellShaped t → Scoped Read [] t → Scoped Read [] u
  pub distinct : IsWellShaped t → Scoped Read [] t → Distinct (declared_symbols t) → Distinct (declared_symbols u)
  pub symbols : IsWellShaped t → Scoped Read [] t → Within (declared_symbols u) (declared_symbols t)
  pub numbers : IsWellShaped t → (k : ℕ) → count_of k (numbers_of u) ≤ count_of k (numbers_of t)
  pub once : IsWellShaped t → NamesOnce [] t → NamesOnce [] u
  pub targets : IsWellShaped t → HasTargets no_targets [] t → HasTargets no_targets [] u

abbrev pub ReachesKeepsNames : Type 0
ReachesKeepsNames = (t u : Tree) → Reaches Contracts Elsewhere t u → ProgramKeeps t u

-- each row's instances keep what they must
abbrev pub RowsKeepNames : Type 0
RowsKeepNames = KeepsNames Contracts

-- What a relation of rewriting has to keep of one node for the answer to a question to shrink in a
-- program, and that it does.
use Rattle.std.specs.Prelude.{ℕ, ◌≡◌, ◌⊎◌, Bool, true, List}
use Rattle.mini_model.specs.declared.name.Name.{Name}
use Rattle.mini_model.specs.declared.place.Position.{Position}
use Rattle.mini_model.specs.declared.place.Position.TheVariants.{Expr, Elsewhere}
use Rattle.mini_model.specs.declared.shape.Shape.{Shape}
use Rattle.mini_model.specs.Tree.{Tree, Trees, count}
use Rattle.mini_model.specs.Position.{child_position, callee_seat}
use Rattle.mini_model.specs.Rewriting.{StepIn}
use Rattle.mini_accept.specs.WellShaped.{Slot, fits}
use Rattle.mini_laws.specs.declared.names.Use.{Use}
use Rattle.mini_laws.specs.declared.names.Declared.TheVariants as declared
use Rattle.mini_laws.specs.DeclaredNames.{names_of}
use Rattle.mini_laws.specs.Scopes.{opened}
use Rattle.mini_laws.specs.Resolved.{Environment, symbol_of}
use Rattle.mini_laws.specs.Scoped.{Scoped}
use Rattle.mini_laws.specs.Symbols.{symbols_in, Within}
use Rattle.mini_laws.specs.Value.{Variable}
use Rattle.mini_laws.specs.ScopeList.{has_eval, is_eval_callee}
use Rattle.mini_laws.specs.Shared.{names_arguments}
use Rattle.mini_laws.specs.Foreign.{has_number}
use Rattle.mini_kept.specs.KeepsNames.{Stands}
use Rattle.mini_kept.specs.Loosely.{LessOften}
use Rattle.mini_kept.specs.Placed.{fits_place}
use Rattle.mini_kept.proofs.LooseScopes.{AllKeep}
use Rattle.mini_shrink.specs.Pace.{Pace, AtMost, kept_in, Setting, Question, pace}

-- each name is found as before
abbrev pub SameFound : Environment → Environment → Type 0
SameFound env env' = (u : Use) (s : List ℕ) → symbol_of u s env ≡ symbol_of u s env'

-- a question asks of an environment only which symbol it gives to a name
pub record LooksUp (q : Question) : Type 0 where
  pub before : (c : Setting) (env env' : Environment) → SameFound env env' → (h : Shape) (xs : List Name) (n : ℕ) (ts : Trees) → q.before c env h xs n ts ≡ q.before c env' h xs n ts

-- the children of a node after a step in one of them
pub record Changed (R : Position → Tree → Tree → Type 0) (p : Position) (c : Setting) (h : Shape) (ts us : Trees) : Type 0 where
  pub step : StepIn R (child_position h p (count ts)) ts us
  pub kept : AllKeep (child_position h p (count ts)) 0 ts us
  pub scopes : (i : ℕ) → Within (symbols_in (opened c.used h us i)) (symbols_in (opened c.used h ts i))

-- it declares the same names around it
pub record Named (t u : Tree) : Type 0 where
  pub bound : names_of declared.Bound u ≡ names_of declared.Bound t
  pub lexical : names_of declared.Lexical u ≡ names_of declared.Lexical t

-- what a node itself says is no more than before
pub record OwnShrinks (R : Position → Tree → Tree → Type 0) (q : Question) : Type 0 where
  pub before : (p : Position) (c : Setting) (env : Environment) (h : Shape) (xs : List Name) (n : ℕ) (ts us : Trees) → Changed R p c h ts us → AtMost (q.before c env h xs n us) (q.before c env h xs n ts)
  pub orders : (p : Position) (c : Setting) (h : Shape) (ts us : Trees) → Changed R p c h ts us → q.orders c h us ≡ q.orders c h ts
  pub ends : (c : Setting) (t u : Tree) → Named t u → q.ends c u ≡ q.ends c t

-- what is written for a node answers at most what it did, wherever it stands, or a scope that
-- declares the variable goes
abbrev pub OrGone : Question → Variable → Setting → Environment → Tree → Tree → Type 0
OrGone q x c env n w = AtMost (pace q c env w) (pace q c env n) ⊎ LessOften c.used x n w

pub record AsksLess (q : Question) (x : Variable) (p : Position) (n w : Tree) : Type 0 where
  pub by : (strict : Bool) (s : Slot) → fits_place p s ≡ true → fits strict s n ≡ true → (c : Setting) (env : Environment) → Stands p c.used n → Scoped c.used env n → OrGone q x c env n w

-- What is seen around a node at a place: no end of a declaration, which is told in its scope. Of a
-- whole program it is all that is told
abbrev pub seen_around : Position → Pace → Pace
seen_around Elsewhere p = p
seen_around q p = kept_in p

-- what is written for a node shows at most what it did around it, or a scope that declares the
-- variable goes
abbrev pub LessAround : Question → Variable → Position → Setting → Environment → Tree → Tree → Type 0
LessAround q x p c env n w = AtMost (seen_around p (pace q c env w)) (seen_around p (pace q c env n)) ⊎ LessOften c.used x n w

pub record ShowsLess (q : Question) (x : Variable) (p : Position) (n w : Tree) : Type 0 where
  pub by : (strict : Bool) (s : Slot) → fits_place p s ≡ true → fits strict s n ≡ true → (c : Setting) (env : Environment) → Stands p c.used n → Scoped c.used env n → LessAround q x p c env n w

-- What a node's answers rest on besides names, where it may stand: whether a direct eval stands in
-- it, whether it names `arguments`, and which numbers it has. An expression that is called becomes
-- the name `eval` only if it was (ECMA-262, "Function Calls")
pub record AsksFewer (R : Position → Tree → Tree → Type 0) : Type 0 where
  pub eval : (p : Position) (n w : Tree) → R p n w → (strict : Bool) (s : Slot) → fits_place p s ≡ true → fits strict s n ≡ true → has_eval w ≡ true → has_eval n ≡ true
  pub callee : (n w : Tree) → R (Expr callee_seat) n w → (strict : Bool) (s : Slot) → fits_place (Expr callee_seat) s ≡ true → fits strict s n ≡ true → is_eval_callee w ≡ true → is_eval_callee n ≡ true
  pub arguments : (p : Position) (n w : Tree) → R p n w → (strict : Bool) (s : Slot) → fits_place p s ≡ true → fits strict s n ≡ true → names_arguments w ≡ true → names_arguments n ≡ true
  pub number : (p : Position) (n w : Tree) → R p n w → (strict : Bool) (s : Slot) → fits_place p s ≡ true → fits strict s n ≡ true → (b : ℕ) → has_number b w ≡ true → has_number b n ≡ true

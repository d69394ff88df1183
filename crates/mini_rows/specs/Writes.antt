-- Rows of names that can be written, as equations: each is a shape and what is written in its
-- place, with the JavaScript before and after. W has the variables that the program mentions and
-- that can be written in it: a write of a `const` raises, and one of the own name of a function
-- expression does nothing (ECMA-262, "CreateImmutableBinding"), where what is written in place of
-- it may do neither.
use Rattle.std.specs.Prelude.{◌≡◌, ◌<◌, ◌⊎◌, ℕ, Bool, true, false, List, Option, codes}
use Rattle.mini_model.specs.declared.operator.BinaryOperator.TheVariants.{Equality, Inequality}
use Rattle.mini_model.specs.declared.operator.LogicalOperator.{LogicalOperator}
use Rattle.mini_model.specs.declared.operator.LogicalOperator.TheVariants.{Coalesce}
use Rattle.mini_model.specs.declared.place.Position.{Position}
use Rattle.mini_model.specs.declared.place.Position.TheVariants.{Expr}
use Rattle.mini_model.specs.declared.seat.Seat.{Seat}
use Rattle.mini_model.specs.declared.shape.Shape.{Shape}
use Rattle.mini_model.specs.Tree.{Tree, identifier, logical, conditional, null_literal}
use Rattle.mini_model.specs.Weight.{weight, same_text}
use Rattle.mini_laws.specs.Value.{Declared, VariableSet}
use Rattle.mini_laws.specs.Weights.{Lightens}
use Rattle.mini_kept.specs.Loosely.{LawfulWith}
use Rattle.mini_terms.specs.Exact.{kept_by_value}
use Rattle.mini_rows.specs.Chains.{Link, spine, chain, is_calm, are_calm_links}
use Rattle.mini_rows.specs.Choices.{assign, deciding, strictly, loosely, joining, AreNullish, ended}
use Rattle.mini_rows.specs.Spellings.{IsUndefined, assignment, binary}
use Rattle.mini_rows.specs.Unused.{resolved}

-- 34: `x = x || b` becomes `x ||= b`, and so of `&&` and `??`, where a scope declares x and it can
-- be written: where the old value decides, the first writes it once more
pub record Row34 (W : VariableSet) (n w : Tree) : Type 0 where
  pub operator : LogicalOperator
  pub spelling : List ℕ
  pub symbol : ℕ
  pub b : Tree
  pub writable : W (Declared symbol) ≡ true
  pub shape : n ≡ assign (resolved spelling symbol) (logical operator (identifier (resolved spelling symbol)) b)
  pub written : w ≡ assignment (deciding operator) (identifier (resolved spelling symbol)) b

-- `t == null ? b : y`, or `t != null ? y : b`
abbrev pub if_null : Bool → Tree → Tree → Tree → Tree
if_null true t b y = conditional (binary Equality t null_literal) b y
if_null false t b y = conditional (binary Inequality t null_literal) y b

-- 46: `(x = a) == null ? b : x` becomes `(x = a) ?? b`, and so does `(x = a) != null ? x : b`,
-- where a scope declares x and it can be written: the value that is assigned is the one that it
-- then has
pub record Row46Assigned (W : VariableSet) (n w : Tree) : Type 0 where
  pub equal : Bool
  pub spelling : List ℕ
  pub symbol : ℕ
  pub a : Tree
  pub b : Tree
  pub writable : W (Declared symbol) ≡ true
  pub shape : n ≡ if_null equal (assign (resolved spelling symbol) a) b (identifier (resolved spelling symbol))
  pub written : w ≡ logical Coalesce (assign (resolved spelling symbol) a) b

-- 37: `(x = a) === null || x === undefined` becomes `(x = a) == null`, and
-- `(x = a) !== null && x !== undefined` becomes `(x = a) != null`, null and undefined in any order,
-- and after an equal operator to the left: the name that is read then has what was assigned
pub record Row37Assigned (W : VariableSet) (n w : Tree) : Type 0 where
  pub equal : Bool
  pub before : Option Tree
  pub spelling : List ℕ
  pub symbol : ℕ
  pub a : Tree
  pub first : Tree
  pub second : Tree
  pub writable : W (Declared symbol) ≡ true
  pub nullish : AreNullish first second
  pub shape : n ≡ logical (joining equal) (ended (joining equal) before (binary (strictly equal) (assign (resolved spelling symbol) a) first)) (binary (strictly equal) (identifier (resolved spelling symbol)) second)
  pub written : w ≡ ended (joining equal) before (binary (loosely equal) (assign (resolved spelling symbol) a) null_literal)

-- 46: `(x = a) == null ? void 0 : x.m` becomes `(x = a)?.m`, and so do `x.m(b)` and what else is of
-- members and calls over x, and `(x = a) != null ? x.m : void 0`, where x isn't named `eval`
-- (`eval(b)` is a direct call). Nothing in a ends the chain itself. As a callee and under `delete`
-- the chain stands behind a `0`: `((x = a) == null ? void 0 : x.m)()` becomes `(0, (x = a)?.m)()`
pub record Row46AssignedChain (W : VariableSet) (s : Seat) (n w : Tree) : Type 0 where
  pub equal : Bool
  pub spelling : List ℕ
  pub symbol : ℕ
  pub a : Tree
  pub missing : Tree
  pub last : Link
  pub others : List Link
  pub writable : W (Declared symbol) ≡ true
  pub indirect : same_text spelling (codes "eval") ≡ false
  pub undefined : IsUndefined missing
  pub calm_value : is_calm a ≡ true
  pub calm : are_calm_links last others ≡ true
  pub shape : n ≡ if_null equal (assign (resolved spelling symbol) a) missing (spine false (identifier (resolved spelling symbol)) last others)
  pub written : w ≡ kept_by_value s.guard (chain (spine true (assign (resolved spelling symbol) a) last others))

-- a row reads n as w at this place
abbrev pub WriteRow : VariableSet → Position → Tree → Tree → Type 0
WriteRow W (Expr s) n w = Row34 W n w ⊎ (Row46Assigned W n w ⊎ (Row37Assigned W n w ⊎ Row46AssignedChain W s n w))
WriteRow W _ n w = ⊥

-- what it writes, where it weighs less
pub record WriteContracts (W : VariableSet) (p : Position) (n w : Tree) : Type 0 where
  pub row : WriteRow W p n w
  pub lighter : weight p w < weight p n

-- which is everywhere
abbrev pub WritesLighter : Type 0
WritesLighter = (W : VariableSet) (p : Position) (n w : Tree) → WriteRow W p n w → weight p w < weight p n

abbrev pub WritesLighten : Type 0
WritesLighten = (W : VariableSet) → Lightens (WriteContracts W)

-- it keeps all that a program has to keep, where those variables can be written, whichever
-- functions and classes may lose their own name
abbrev pub WritesAreLawful : Type 0
WritesAreLawful = (K : Shape → Bool) (W : VariableSet) → LawfulWith K W (WriteContracts W)

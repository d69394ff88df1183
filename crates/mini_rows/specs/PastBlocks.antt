-- Row 71 past steady names of a `let` or a `const` that stands further inside a body than in its
-- own statements: in a block, those of a `try` among them, in a case of a switch, or in the head of
-- a `for`.
use Rattle.std.specs.Prelude.{◌≡◌, ◌⊎◌, Bool}
use Rattle.mini_model.specs.declared.place.Position.TheVariants.{Stmt, Elsewhere}
use Rattle.mini_model.specs.declared.shape.Shape.{Shape}
use Rattle.mini_model.specs.Tree.{Tree, Trees, none, ◌▸◌, absent, listed}
use Rattle.mini_model.specs.Paths.{append}
use Rattle.mini_laws.specs.Value.{VariableSet}
use Rattle.mini_laws.specs.Weights.{Lightens}
use Rattle.mini_kept.specs.Rooted.{LawfulRooted}
use Rattle.mini_kept.specs.Without.{Assured, BodySets}
use Rattle.mini_rows.specs.Cases.{switch_case}
use Rattle.mini_rows.specs.Lists.{block, for_loop, switch}
use Rattle.mini_rows.specs.OwnArrows.{OwnCode}
use Rattle.mini_rows.specs.OwnParts.{OwnPart}
use Rattle.mini_rows.specs.OwnPrograms.{OwnProgram}
use Rattle.mini_rows.specs.Past.{PastRow}
use Rattle.mini_rows.specs.Steady.{OwnRows, ReadsMore}
use Rattle.mini_rows.specs.Switches.{Switches, without_vars}
use Rattle.mini_rows.specs.Unused.{switch_around}

-- a block with such statements: of `function f(g) { if (g) { let x = a(); return g(x); } }` the
-- block becomes `{ ; return g(a()); }`. The name is one of the block alone (ECMA-262,
-- "BlockDeclarationInstantiation"), so that a `var` stays, which is seen around it. What is known
-- is what is known where the block stands in the code of a body
pub record PastBlockRow (o : Switches) (V : Assured) (n w : Tree) : Type 0 where
  pub before : Trees
  pub after : Trees
  pub row : PastRow V (without_vars o) (listed none) before after
  pub shape : n ≡ block before
  pub written : w ≡ block after

-- the statements of a case: of `switch (a) { case 1: const x = b(); return g(x); }` they become
-- `; return g(b());`. All cases are one scope (ECMA-262, "Runtime Semantics: Evaluation" of
-- SwitchStatement), so that all else in the switch stands outside of them; its names are begun
-- neither before the switch nor, but by statements before in the case, in it
pub record PastCaseRow (o : Switches) (V : Assured) (n w : Tree) : Type 0 where
  pub discriminant : Tree
  pub first : Trees
  pub test : Tree
  pub before : Trees
  pub last : Trees
  pub after : Trees
  pub row : PastRow V (without_vars o) (switch_around discriminant first test last) before after
  pub shape : n ≡ switch discriminant (listed (append first (switch_case test before ▸ last)))
  pub written : w ≡ switch discriminant (listed (append first (switch_case test after ▸ last)))

-- the head of a `for`, read as a list of this one declaration:
-- `for (let x = a(), y = g(x); y; ) h(y, y);` becomes `for (let y = g(a()); y; ) h(y, y);`. It is
-- evaluated once, before the copies that the turns have of its names (ECMA-262,
-- "ForLoopEvaluation", "CreatePerIterationEnvironment")
pub record PastHeadRow (o : Switches) (V : Assured) (n w : Tree) : Type 0 where
  pub before : Tree
  pub after : Tree
  pub test : Tree
  pub update : Tree
  pub body : Tree
  pub row : PastRow V (without_vars o) (for_loop absent test update body) (before ▸ none) (after ▸ none)
  pub shape : n ≡ for_loop before test update body
  pub written : w ≡ for_loop after test update body

abbrev pub PastStatementRow : Switches → Assured → Tree → Tree → Type 0
PastStatementRow o V n w = PastBlockRow o V n w ⊎ (PastCaseRow o V n w ⊎ PastHeadRow o V n w)

-- as a statement in the code of a body; or a block as one of those of a `try`, which stand
-- elsewhere
abbrev pub PastBlocks : Switches → OwnRows
PastBlocks o V (Stmt q) n w = PastStatementRow o V n w
PastBlocks o V Elsewhere n w = PastBlockRow o V n w
PastBlocks o V _ n w = ⊥

-- ---- the laws

-- where more variables have values it reads what it read
abbrev pub PastBlocksReadMore : Type 0
PastBlocksReadMore = (o : Switches) → ReadsMore (PastBlocks o)

-- it makes the whole lighter
abbrev pub PastBlocksLighten : Type 0
PastBlocksLighten = (o : Switches) (V : Assured) → Lightens (PastBlocks o V)

-- and a program is kept but for a name that nothing mentions, in which a function or an arrow
-- function has such a block, where S says what is known of each body, whichever functions and
-- classes may lose their own name and whichever variables can be written
abbrev pub PastBlocksAreLawful : Type 0
PastBlocksAreLawful = (o : Switches) (K : Shape → Bool) (W : VariableSet) (S : BodySets) → LawfulRooted K W S (OwnCode (PastBlocks o) S)

-- and so where a static block or an inner expression has one
abbrev pub PastBlocksAreLawfulInParts : Type 0
PastBlocksAreLawfulInParts = (o : Switches) (K : Shape → Bool) (W : VariableSet) (S : BodySets) → LawfulRooted K W S (OwnPart (PastBlocks o) S)

-- and where the program itself has one
abbrev pub PastBlocksAreLawfulInPrograms : Type 0
PastBlocksAreLawfulInPrograms = (o : Switches) (K : Shape → Bool) (W : VariableSet) (S : BodySets) → LawfulRooted K W S (OwnProgram (PastBlocks o) S)

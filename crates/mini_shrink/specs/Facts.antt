-- The facts of which Shared and Foreign are made, and the law that each of them only shrinks,
-- whatever is rewritten.
use Rattle.std.specs.Prelude.{ℕ, ◌≡◌, false, ◌&&◌, []}
use Rattle.mini_model.specs.declared.place.Position.{Position}
use Rattle.mini_model.specs.declared.place.Position.TheVariants.{Elsewhere}
use Rattle.mini_model.specs.Tree.{Tree}
use Rattle.mini_model.specs.Rewriting.{Reaches}
use Rattle.mini_accept.specs.WellShaped.{IsWellShaped}
use Rattle.mini_laws.specs.declared.names.Use.TheVariants.{Read}
use Rattle.mini_laws.specs.ScopeList.{by_symbol}
use Rattle.mini_laws.specs.Scoped.{Scoped}
use Rattle.mini_laws.specs.Symbols.{declared_symbols, Distinct}
use Rattle.mini_laws.specs.Mentions.{same_variable, is_elsewhere}
use Rattle.mini_laws.specs.Foreign.{is_write}
use Rattle.mini_laws.specs.Value.{Declared}
use Rattle.mini_kept.specs.KeepsShapes.{KeepsShapes}
use Rattle.mini_kept.specs.Lifted.{KeepsNames}
use Rattle.mini_kept.specs.Loosely.{undeclared}
use Rattle.mini_shrink.specs.Pace.{AtMost, Question, pace}
use Rattle.mini_shrink.specs.Questions.{asks, at_program, mentions_such, sets_such, pattern_gives, names_at, lexical_at, switched_at, pattern_at, caught_at, arguments_at, params_at, seen_at, early}
use Rattle.mini_shrink.specs.Shrinking.{ShowsLess, AsksFewer}

-- of a symbol, and of a body
pub data Fact : Type 0 where
  -- a node writes it, in any body or in another than this
  Written : Fact
  WrittenElsewhere : Fact
  -- a node writes it or a `var` gives it a value, in any body or in another
  Given : Fact
  GivenElsewhere : Fact
  -- a pattern of a `var` gives it a value
  GivenByPattern : Fact
  -- another body mentions it, or declares it
  MentionedElsewhere : Fact
  BoundElsewhere : Fact
  -- how it is declared
  IsLexical : Fact
  IsSwitched : Fact
  InPattern : Fact
  UnderCatch : Fact
  -- what else reaches it
  ByArguments : Fact
  ByEval : Fact
  -- the body stands among the parameters of the function whose parameter it is
  AmongParameters : Fact
  -- the body reads it before its declaration has ended
  ReadEarly : Fact

abbrev pub question : Fact → ℕ → ℕ → Question
question Written b s = asks (mentions_such (is_write (by_symbol s)))
question WrittenElsewhere b s = asks (mentions_such (λ m. is_write (by_symbol s) m && is_elsewhere b m.around))
question Given b s = asks (sets_such (is_write (by_symbol s)))
question GivenElsewhere b s = asks (sets_such (λ m. is_write (by_symbol s) m && is_elsewhere b m.around))
question MentionedElsewhere b s = asks (mentions_such (λ m. same_variable (by_symbol s) m.name && is_elsewhere b m.around))
question BoundElsewhere b s = asks (mentions_such (λ m. same_variable (by_symbol s) m.name && m.binds && is_elsewhere b m.around))
question IsLexical b s = asks (names_at lexical_at s)
question IsSwitched b s = asks (names_at switched_at s)
question InPattern b s = asks (names_at pattern_at s)
question GivenByPattern b s = asks (pattern_gives s)
question UnderCatch b s = asks (names_at caught_at s)
question ByArguments b s = asks (names_at arguments_at s)
question ByEval b s = asks (seen_at s)
question AmongParameters b s = asks (names_at (params_at b) s)
question ReadEarly b s = early b s

-- What a relation of rewriting has to keep of one node: of each symbol and each body, what is
-- written for it answers at most what it did as seen around it, wherever it may stand; or a scope
-- goes that declares the symbol
pub record ReadsLess (R : Position → Tree → Tree → Type 0) : Type 0 where
  pub fewer : AsksFewer R
  pub less : (f : Fact) (b s : ℕ) (p : Position) (n w : Tree) → R p n w → ShowsLess (question f b s) (Declared s) p n w

-- then so does a program after any number of steps, of each symbol that it still declares
abbrev pub ReadsLessShrinks : (Position → Tree → Tree → Type 0) → Type 0
ReadsLessShrinks R =
    KeepsNames R → KeepsShapes R → ReadsLess R → (t u : Tree) → Reaches R Elsewhere t u → IsWellShaped t → Scoped Read [] t → Distinct (declared_symbols t)
    → (f : Fact) (b s : ℕ) → undeclared u (Declared s) ≡ false → AtMost (pace (question f b s) at_program [] u) (pace (question f b s) at_program [] t)

-- What is made of a function, of an arrow function, of a module or of a static block, as steps of the rules.
use Rattle.std.proofs.Common.{◌≡◌, Bool, true, false, sym, true≢false}
use Rattle.mini_model.specs.declared.place.Position.{Position}
use Rattle.mini_model.specs.declared.place.Position.TheVariants.{Expr, Stmt, Method, Elsewhere}
use Rattle.mini_model.specs.Rewriting.{Reaches, here, done, more}
use Rattle.mini_model.specs.Tree.{Tree}
use Rattle.mini_kept.specs.Without.{BodySets}
use Rattle.mini_rows.specs.Past.{PastFunctionRow, PastFunction}
use Rattle.mini_rows.specs.PastArrows.{PastArrowRow, PastArrow}
use Rattle.mini_rows.specs.PastModules.{PastModuleRow, PastModule}
use Rattle.mini_rows.specs.PastStatics.{PastStaticRow, PastStatic}
use Rattle.mini_rows.specs.Switches.{Liberties}
use Rattle.mini_steady.specs.Arrows.{holds_arrow}
use Rattle.mini_steady.specs.Functions.{holds_function}
use Rattle.mini_steady.specs.Programs.{holds_program}
use Rattle.mini_tree.specs.Rule.{Applied, Moves}
use Rattle.mini_tree.proofs.Reaching.{reaches_trans}
use Rattle.mini_unused.specs.Chains.{Chain, still, further, Several}
use Rattle.mini_past.specs.SubstitutePast.{AppliedPast, RestsPast, AppliedPastArrow, RestsPastArrow, AppliedPastModule, RestsPastModule, AppliedPastStatic, RestsPastStatic}

module _ (R : Position → Tree → Tree → Type 0) (p : Position) (Q : Tree → Tree → Type 0) (read : (t u : Tree) → Q t u → R p t u) where
  reached : (t u : Tree) → Chain Q t u → Reaches R p t u
  reached _ _ (still t) = done p t
  reached _ _ (further t v u c r) = reaches_trans R (reached t v c) (more p v u u (here p v u (read v u r)) (done p u))

  several_moves : (t u : Tree) → Several Q t u → Moves R p t u
  several_moves t u m = record { next = m.next; step = here p t m.next (read t m.next m.first); others = reached m.next u m.others }

-- ---- a function, where one may stand

module _ (S : BodySets) (W : Liberties) (p : Position) (read : (t u : Tree) → PastFunctionRow S W t u → PastFunction S W p t u) (told : (t u : Tree) → PastFunction S W p t u → PastFunctionRow S W t u) where
  at_place : (t u : Tree) (b : Bool) → AppliedPast S W t u b → Applied (PastFunction S W) (RestsPast S W) p t u b
  at_place t u true r = several_moves (PastFunction S W) p (PastFunctionRow S W) read t u r
  at_place t u false (e, f) = (e, λ w r. f w (told t w r))

pub applied : (S : BodySets) (W : Liberties) (p : Position) (t u : Tree) (b : Bool) → holds_function p ≡ true → AppliedPast S W t u b → Applied (PastFunction S W) (RestsPast S W) p t u b
applied S W (Stmt s) t u b e a = at_place S W (Stmt s) (λ t u r. r) (λ t u r. r) t u b a
applied S W (Expr s) t u b e a = at_place S W (Expr s) (λ t u r. r) (λ t u r. r) t u b a
applied S W Method t u b e a = at_place S W Method (λ t u r. r) (λ t u r. r) t u b a
applied S W Elsewhere t u b e a = at_place S W Elsewhere (λ t u r. r) (λ t u r. r) t u b a
applied S W p t u b e a = absurd (true≢false (sym e))

-- ---- an arrow function

pub arrow_applied : (S : BodySets) (W : Liberties) (p : Position) (t u : Tree) (b : Bool) → holds_arrow p ≡ true → AppliedPastArrow S W t u b → Applied (PastArrow S W) (RestsPastArrow S W) p t u b
arrow_applied S W (Expr s) t u true e a = several_moves (PastArrow S W) (Expr s) (PastArrowRow S W) (λ t u r. r) t u a
arrow_applied S W (Expr s) t u false e a = a
arrow_applied S W p t u b e a = absurd (true≢false (sym e))

-- ---- a module

pub module_applied : (S : BodySets) (W : Liberties) (p : Position) (t u : Tree) (b : Bool) → holds_program p ≡ true → AppliedPastModule S W t u b → Applied (PastModule S W) (RestsPastModule S W) p t u b
module_applied S W Elsewhere t u true e a = several_moves (PastModule S W) Elsewhere (PastModuleRow S W) (λ t u r. r) t u a
module_applied S W Elsewhere t u false e a = a
module_applied S W p t u b e a = absurd (true≢false (sym e))

-- ---- a static block

pub static_applied : (S : BodySets) (W : Liberties) (p : Position) (t u : Tree) (b : Bool) → holds_program p ≡ true → AppliedPastStatic S W t u b → Applied (PastStatic S W) (RestsPastStatic S W) p t u b
static_applied S W Elsewhere t u true e a = several_moves (PastStatic S W) Elsewhere (PastStaticRow S W) (λ t u r. r) t u a
static_applied S W Elsewhere t u false e a = a
static_applied S W p t u b e a = absurd (true≢false (sym e))

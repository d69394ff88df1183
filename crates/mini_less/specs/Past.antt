-- 71 past names that keep their value, whatever is known of each body and may be written: of
-- `function f(g) { let x = a(); return g(x); }` is left `function f(g) { ; return g(a()); }`.
use Rattle.mini_kept.specs.Without.{BodySets}
use Rattle.mini_shrink.specs.Facts.{ReadsLess}
use Rattle.mini_rows.specs.Past.{PastFunction}
use Rattle.mini_rows.specs.PastArrows.{PastArrow}
use Rattle.mini_rows.specs.PastInside.{PastInside}
use Rattle.mini_rows.specs.PastModules.{PastModule}
use Rattle.mini_rows.specs.PastStatics.{PastStatic}
use Rattle.mini_rows.specs.Switches.{Liberties}

-- what is written in the statements of a function, of an arrow function, of a module and of a
-- static block reads less
pub record PastReadLess : Type 0 where
  pub functions : (S : BodySets) (W : Liberties) → ReadsLess (PastFunction S W)
  pub arrows : (S : BodySets) (W : Liberties) → ReadsLess (PastArrow S W)
  pub modules : (S : BodySets) (W : Liberties) → ReadsLess (PastModule S W)
  pub statics : (S : BodySets) (W : Liberties) → ReadsLess (PastStatic S W)

-- what is written for a `var` further inside the body that it belongs to reads less: of
-- `function f(g) { if (g) { var x = a(); return g(x); } }` is left
-- `function f(g) { if (g) { ; return g(a()); } }`
abbrev pub PastInsideReadsLess : Type 0
PastInsideReadsLess = (S : BodySets) (W : Liberties) → ReadsLess (PastInside S W)

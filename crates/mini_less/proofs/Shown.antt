-- What tells less shows less around it.
use Rattle.std.specs.Prelude.{ℕ}
use Rattle.mini_model.specs.declared.place.Position.{Position}
use Rattle.mini_model.specs.Tree.{Tree}
use Rattle.mini_laws.specs.Value.{Declared}
use Rattle.mini_shrink.specs.Facts.{Fact, question}
use Rattle.mini_shrink.specs.Shrinking.{AsksLess, ShowsLess}
use Rattle.mini_shrink.proofs.Paces.{shows_less}

pub shows_all : (p : Position) (n w : Tree) → ((g : Fact) (b k : ℕ) → AsksLess (question g b k) (Declared k) p n w) → (g : Fact) (b k : ℕ) → ShowsLess (question g b k) (Declared k) p n w
shows_all p n w f g b k = shows_less (question g b k) (Declared k) p n w (f g b k)

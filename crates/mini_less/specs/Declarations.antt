-- The row of a `let` without the value `undefined`.
use Rattle.mini_shrink.specs.Facts.{ReadsLess}
use Rattle.mini_rows.specs.Declarations.{DeclarationContracts}

abbrev pub DeclarationsReadLess : Type 0
DeclarationsReadLess = ReadsLess DeclarationContracts

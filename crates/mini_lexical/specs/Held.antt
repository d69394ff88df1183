-- Where the names stand that a declaration binds, test by test.
use Rattle.std.specs.Prelude.{Bool, true, false}
use Rattle.mini_rows.specs.Lexical.{Binds, Itself, Each, First}

abbrev pub is_itself : Binds → Bool
is_itself Itself = true
is_itself b = false

abbrev pub is_each : Binds → Bool
is_each Each = true
is_each b = false

abbrev pub is_first : Binds → Bool
is_first First = true
is_first b = false

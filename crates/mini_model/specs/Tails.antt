-- What the tails of the code that joins raw texts stand for.
use Rattle.mini_model.specs.declared.joining.Tail.{Tail}
use Rattle.mini_model.specs.declared.joining.Tail.TheVariants.{OpenEscape, NullEscape, BareDollar, Rest}
use Rattle.mini_model.specs.Joined.{Ending, Backslash, Null, Dollar, Other}

abbrev pub ending_at : Tail → Ending
ending_at OpenEscape = Backslash
ending_at NullEscape = Null
ending_at BareDollar = Dollar
ending_at Rest = Other

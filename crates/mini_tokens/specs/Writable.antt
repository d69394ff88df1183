-- Texts that stand in a program as they are, unit by unit.
use Rattle.std.specs.Prelude.{ℕ, Bool, true, false, ◌&&◌, not, nat_eq, List}
use Rattle.mini_print.specs.Text as text
use Rattle.mini_print.specs.Unprintable as unprintable
use Rattle.mini_tokens.specs.declared.writable.PatternMode.{PatternMode}
use Rattle.mini_tokens.specs.declared.writable.PatternMode.TheVariants as mode

abbrev pub mode_of : PatternMode → text.PatternMode
mode_of mode.Outside = text.Outside
mode_of mode.InClass = text.InClass
mode_of mode.Escaped = text.Escaped
mode_of mode.EscapedInClass = text.EscapedInClass

-- whether a unit of a raw text may stand before these, behind a backslash or not
abbrev pub may_stand : Bool → ℕ → List ℕ → Bool
may_stand true c s = not (nat_eq c 13)
may_stand false c s = not (nat_eq c 13) && (not (nat_eq c 96) && not (nat_eq c 36 && unprintable.starts_with 123 s))

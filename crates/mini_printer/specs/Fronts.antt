-- The tokens that parts begin with.
use Rattle.std.specs.Prelude.{◌≡◌, List, Option, Some, None}
use Rattle.mini_print.specs.Token.{Token}
use Rattle.mini_grammar.specs.Firsts.{first_of}

-- if a token is told, then tokens begin with it, whatever follows them
abbrev pub IsFront : Option Token → (List Token → List Token) → Type 0
IsFront None f = Unit {0}
IsFront (Some x) f = (r : List Token) → first_of (f r) ≡ Some x

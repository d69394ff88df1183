-- Productions that any text or none may be of.
use Rattle.std.proofs.Common.{◌≡◌, true, refl}
use Rattle.mini_print.specs.Grammar.{is_allowed}
use Rattle.mini_grammar.specs.Views.{fixed_of}
use Rattle.mini_grammar.specs.declared.grammar.Fixed.{Fixed}
use Rattle.mini_grammar.specs.declared.grammar.Fixed.TheVariants as fixed

pub fixed_allowed : (x : Fixed) → is_allowed (fixed_of x) ≡ true
fixed_allowed fixed.Null = refl
fixed_allowed x = refl

-- The two styles of a text.
use Rattle.std.specs.Prelude.{Bool, true, false}
use Rattle.mini_print.specs.Token.{Token, Punct, RightBrace}
use Rattle.mini_print.specs.Printed as printed
use Rattle.mini_tokens.specs.declared.style.Style.{Style}
use Rattle.mini_tokens.specs.declared.style.Style.TheVariants as style

abbrev pub style_of : Style → printed.Style
style_of style.Full = printed.Full
style_of style.Short = printed.Short

abbrev pub is_right_brace : Token → Bool
is_right_brace (Punct RightBrace) = true
is_right_brace _ = false

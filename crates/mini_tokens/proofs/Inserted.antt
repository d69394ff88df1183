-- Where a `;` is inserted, by the first token.
use Rattle.std.proofs.Common.{◌≡◌, Bool, true, false, refl, List, [], ◌∷◌, Option, Some, None}
use Rattle.mini_print.specs.Token.{Token, Punct, RightBrace}
use Rattle.mini_print.specs.Grammar.{inserts}
use Rattle.mini_grammar.specs.Firsts.{first_of}
use Rattle.mini_tokens.specs.Styles.{is_right_brace}

-- what holds of the first token, if there is one
abbrev pub by_first : Bool → (Token → Bool) → Option Token → Bool
by_first b f None = b
by_first b f (Some x) = f x

pub inserted_first : (ts : List Token) → inserts ts ≡ by_first true is_right_brace (first_of ts)
inserted_first [] = refl
inserted_first (Punct RightBrace ∷ ts) = refl
inserted_first (x ∷ ts) = refl

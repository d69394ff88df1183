-- What the first tokens tell of a statement or a declaration.
use Rattle.std.specs.Prelude.{Bool, true, false, not, ◌&&◌, codes, Option, Some, None}
use Rattle.mini_print.specs.Token.{Token, Word, Punct, Quoted, LeftParen, RightBrace, Semicolon, Dot}
use Rattle.mini_print.specs.Grammar.{is_word_of, default_words, is_key_token, is_left_brace, begins_statement}
use Rattle.mini_grammar.specs.Firsts.{is_that_word}
use Rattle.mini_grammar.specs.declared.grammar.Lookahead.{Lookahead}
use Rattle.mini_grammar.specs.declared.grammar.Lookahead.TheVariants as look

-- whether what stands behind an `import` makes an expression of it
abbrev pub calls_next : Option Token → Bool
calls_next (Some (Punct LeftParen)) = true
calls_next (Some (Punct Dot)) = true
calls_next _ = false

-- whether an `import` stands there that begins no expression
abbrev pub is_import : Token → Option Token → Bool
is_import x y = is_that_word (codes "import") x && not (calls_next y)

-- whether a token begins a declaration that `export default` has
abbrev pub begins_default : Token → Bool
begins_default (Word s) = is_word_of default_words s
begins_default _ = false

-- whether a statement ends before a token, with a `;` or where one is inserted
abbrev pub ends_next : Option Token → Bool
ends_next None = true
ends_next (Some (Punct Semicolon)) = true
ends_next (Some (Punct RightBrace)) = true
ends_next _ = false

-- whether a text is a whole statement
abbrev pub is_directive : Token → Option Token → Bool
is_directive (Quoted s) y = ends_next y
is_directive x y = false

-- whether a restriction forbids each text that begins with a token
abbrev pub is_forbidden : Lookahead → Token → Bool
is_forbidden look.NoStatement x = begins_statement x
is_forbidden look.NoBrace x = is_left_brace x
is_forbidden look.Key x = not (is_key_token x)
is_forbidden look.NotAsync x = false
is_forbidden look.NoDeclaration x = begins_default x

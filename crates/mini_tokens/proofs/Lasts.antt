-- Tokens that a text has, from the last one on.
use Rattle.std.proofs.Common.{◌≡◌, ℕ, ◌+◌, ◌<◌, ◌≤◌, ◌↔◌, List, [], ◌∷◌, length, get_or, drop, sym, subst, add-one, drop-cons}
use Rattle.std.proofs.lemmas.List.{drop_all}
use Rattle.mini_grammar.specs.declared.token.Token.{Token}
use Rattle.mini_grammar.specs.Views.{before, token_of}
use Rattle.mini_print.specs.Token as tokens
use Rattle.mini_print.specs.Text.{IsLexical, EachLexical, escaped}
use Rattle.mini_print.proofs.Escapes.{escaped_quotable}

pub text_is_lexical : (s : List ℕ) → IsLexical (tokens.Quoted (escaped s))
text_is_lexical s = escaped_quotable s

-- each is one that a text has
abbrev pub AreLexical : List Token → Type 0
AreLexical [] = Unit {0}
AreLexical (x ∷ xs) = IsLexical (token_of x) × AreLexical xs

forth : (xs : List Token) (ts : List tokens.Token) → AreLexical xs → EachLexical ts → EachLexical (before xs ts)
forth [] ts a e = e
forth (x ∷ xs) ts a e = forth xs (token_of x ∷ ts) a.1 (a.0, e)

back : (xs : List Token) (ts : List tokens.Token) → EachLexical (before xs ts) → AreLexical xs × EachLexical ts
back [] ts e = (tt, e)
back (x ∷ xs) ts e = let h = back xs (token_of x ∷ ts) e in ((h.1.0, h.0), h.1.1)

pub turned : (xs : List Token) → AreLexical xs ↔ EachLexical (before xs [])
turned xs = (λ a. forth xs [] a tt, λ e. (back xs [] e).0)

item_first : (xs : List Token) (i : ℕ) (d : Token) → i < length xs → drop i xs ≡ get_or xs i d ∷ drop (i + 1) xs
item_first xs i d h = rw (add-one, drop-cons xs i d)

pub stops : (xs : List Token) (i : ℕ) (d : Token) → i < length xs → ¬ IsLexical (token_of (get_or xs i d)) → AreLexical (drop i xs) ↔ AreLexical xs → ¬ AreLexical xs
stops xs i d h l inv a = l (subst AreLexical (item_first xs i d h) (inv.1 a)).0

pub ends : (xs : List Token) (i : ℕ) → length xs ≤ i → AreLexical (drop i xs) ↔ AreLexical xs → AreLexical xs
ends xs i h inv = inv.0 (subst AreLexical (sym (drop_all i xs h)) tt)

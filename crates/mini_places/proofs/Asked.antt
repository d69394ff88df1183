-- What tokens begin with, by their first ones.
use Rattle.std.proofs.Common.{◌≡◌, ℕ, Bool, true, false, refl, sym, ◌∙◌, ap, List, [], ◌∷◌, Option, Some, None}
use Rattle.std.specs.Prelude.{codes, not, ◌&&◌, ◌||◌, option_map, MatchOption, if◌then◌else◌}
use Rattle.mini_grammar.specs.declared.token.Token as declared_token
use Rattle.mini_grammar.specs.Views.{token_of}
use Rattle.std.proofs.lemmas.Bool.{false≢true}
use Rattle.mini_print.specs.Printed.{undirected}
use Rattle.mini_model.specs.Weight.{same_text}
use Rattle.mini_print.specs.Token.{Token, Word, Punct, Quoted, Colon, Semicolon, LeftParen, RightParen, RightBrace, Dot}
use Rattle.mini_print.specs.Grammar as grammar
use Rattle.mini_print.specs.Grammar.{opens, ends_yield, ends_yield_at, permits, begins_statement, begins_label, is_key_token, is_left_brace, is_reserved, is_colon_next, begins_import, calls_import, starts_default, ends_statement}
use Rattle.mini_places.specs.Nexts.{calls_next, is_import, begins_default, ends_next, is_directive}
use Rattle.mini_grammar.specs.Pieces.{look_of}
use Rattle.mini_grammar.specs.declared.grammar.Lookahead as lookahead_type
use Rattle.mini_grammar.specs.declared.grammar.Lookahead.TheVariants as look
use Rattle.mini_grammar.specs.Firsts.{first_of, second_of, is_that_word, is_label, is_it_colon, is_it_of}

-- what holds of the first token, if there is one
abbrev pub by_first : Bool → (Token → Bool) → Option Token → Bool
by_first b f None = b
by_first b f (Some x) = f x

pub else_first : (ts : List Token) → opens grammar.Else ts ≡ by_first false (is_that_word (codes "else")) (first_of ts)
else_first [] = refl
else_first (Word s ∷ ts) = refl
else_first (x ∷ ts) = refl

pub yield_first : (ts : List Token) → ends_yield ts ≡ by_first true ends_yield_at (first_of ts)
yield_first [] = refl
yield_first (x ∷ ts) = refl

colon_next : (ts : List Token) → is_colon_next ts ≡ is_it_colon (first_of ts)
colon_next [] = refl
colon_next (Punct Colon ∷ ts) = refl
colon_next (x ∷ ts) = refl

label_is : (x : Token) (ts : List Token) → begins_label x ts ≡ is_label x (first_of ts)
label_is (Word s) ts = ap (λ b. not (is_reserved s) && b) (colon_next ts)
label_is x ts = refl

or_false : (b : Bool) → b || false ≡ b
or_false true = refl
or_false false = refl

calls_is : (ts : List Token) → calls_import ts ≡ calls_next (first_of ts)
calls_is [] = refl
calls_is (Punct LeftParen ∷ ts) = refl
calls_is (Punct Dot ∷ ts) = refl
calls_is (x ∷ ts) = refl

import_is : (x : Token) (ts : List Token) → begins_import x ts ≡ is_import x (first_of ts)
import_is (Word s) ts = ap (λ b. b && not (calls_import ts)) (or_false (same_text s (codes "import"))) ∙ ap (λ b. same_text s (codes "import") && not b) (calls_is ts)
import_is x ts = refl

default_is : (ts : List Token) → starts_default ts ≡ by_first false begins_default (first_of ts)
default_is [] = refl
default_is (Word s ∷ ts) = refl
default_is (x ∷ ts) = refl

and_false : (b : Bool) → false ≡ b && false
and_false true = refl
and_false false = refl

async_is : (ts : List Token) → grammar.is_async_of ts ≡ by_first false (λ x. is_that_word (codes "async") x && is_it_of (second_of ts)) (first_of ts)
async_is [] = refl
async_is (Word s ∷ []) = and_false (same_text s (codes "async"))
async_is (Word s ∷ Word t ∷ ts) = refl
async_is (Word s ∷ y ∷ ts) = and_false (same_text s (codes "async"))
async_is (x ∷ ts) = refl

-- whether tokens of which these are the first two are as a restriction says
abbrev pub asked : lookahead_type.Lookahead → Option Token → Option Token → Bool
asked look.NoStatement x y = by_first true (λ t. not (begins_statement t) && (not (is_import t y) && not (is_label t y))) x
asked look.NoBrace x y = by_first true (λ t. not (is_left_brace t)) x
asked look.Key x y = by_first false is_key_token x
asked look.NotAsync x y = by_first true (λ t. not (is_that_word (codes "async") t && is_it_of y)) x
asked look.NoDeclaration x y = by_first true (λ t. not (begins_default t)) x

pub asked_is : (c : lookahead_type.Lookahead) (ts : List Token) → permits (look_of c) ts ≡ asked c (first_of ts) (second_of ts)
asked_is look.NoStatement [] = refl
asked_is look.NoStatement (x ∷ ts) = ap (λ b. not (begins_statement x) && (not b && not (begins_label x ts))) (import_is x ts) ∙ ap (λ b. not (begins_statement x) && (not (is_import x (first_of ts)) && not b)) (label_is x ts)
asked_is look.NoBrace [] = refl
asked_is look.NoBrace (x ∷ ts) = refl
asked_is look.Key [] = refl
asked_is look.Key (x ∷ ts) = refl
asked_is look.NotAsync [] = refl
asked_is look.NotAsync (x ∷ ts) = ap not (async_is (x ∷ ts))
asked_is look.NoDeclaration [] = refl
asked_is look.NoDeclaration (x ∷ ts) = ap not (default_is (x ∷ ts))

some_same : {A : Type 0} (x y : A) → Some x ≡ Some y → x ≡ y
some_same x y e = cc

none_some : {A : Type 0} (x : A) → Some x ≡ None → ⊥
none_some x e = cc

ends_is : (ts : List Token) → ends_statement ts ≡ ends_next (first_of ts)
ends_is [] = refl
ends_is (Punct Semicolon ∷ ts) = refl
ends_is (Punct RightBrace ∷ ts) = refl
ends_is (x ∷ ts) = refl

-- a text in parentheses or not
abbrev either : Bool → List ℕ → List Token → List Token
either b s ts = if b then Punct LeftParen ∷ Quoted s ∷ Punct RightParen ∷ ts else Quoted s ∷ ts

directed : (y : Token) (ts : List Token) → is_directive y (first_of ts) ≡ false → y ∷ ts ≡ undirected (y ∷ ts)
directed (Quoted s) ts e = sym (ap (λ b. either b s ts) (ends_is ts ∙ e))
directed y ts e = refl

-- what is no directive stays as it is
pub as_before : (ts : List Token) (x : Token) (y : Option Token) → Some x ≡ first_of ts → y ≡ second_of ts → is_directive x y ≡ false → ts ≡ undirected ts
as_before [] x y e f d = absurd (none_some x e)
as_before (z ∷ ts) x y e f d = directed z ts (sym (ap (λ a. is_directive a (first_of ts)) (some_same x z e)) ∙ (sym (ap (λ b. is_directive x b) f) ∙ d))

-- what is one stands in parentheses
enclosed_there : (y : Token) (ts : List Token) → is_directive y (first_of ts) ≡ true → Punct LeftParen ∷ y ∷ Punct RightParen ∷ ts ≡ undirected (y ∷ ts)
enclosed_there (Quoted s) ts e = sym (ap (λ b. either b s ts) (ends_is ts ∙ e))
enclosed_there y ts e = absurd (false≢true e)

enclosed_at : (ts us : List Token) (x z : Token) (y : Option Token) → ts ≡ z ∷ us → Some x ≡ first_of ts → y ≡ second_of ts → is_directive x y ≡ true → Punct LeftParen ∷ x ∷ Punct RightParen ∷ us ≡ undirected ts
enclosed_at ts us x z y m e f d =
    let same : x ≡ z = some_same x z (e ∙ ap first_of m) in
    let next : y ≡ first_of us = f ∙ ap second_of m in
    ap (λ w. Punct LeftParen ∷ w ∷ Punct RightParen ∷ us) same
    ∙ (enclosed_there z us (sym (ap (λ w. is_directive w (first_of us)) same) ∙ (sym (ap (λ w. is_directive x w) next) ∙ d))
    ∙ ap undirected (sym m))

pub as_enclosed : (ts us : List Token) (x : Token) (y : Option Token) (o : Option declared_token.Token) → Some x ≡ first_of ts → y ≡ second_of ts → is_directive x y ≡ true → MatchOption o ((ts ≡ []) × (us ≡ [])) (λ z. ts ≡ token_of z ∷ us) →
    Punct LeftParen ∷ x ∷ Punct RightParen ∷ us ≡ undirected ts
as_enclosed ts us x y None e f d m = absurd (none_some x (e ∙ ap first_of m.0))
as_enclosed ts us x y (Some z) e f d m = enclosed_at ts us x (token_of z) y m e f d

pub first_told : (x : declared_token.Token) (o : Option declared_token.Token) (ts : List Token) → o ≡ Some x → option_map token_of o ≡ first_of ts → Some (token_of x) ≡ first_of ts
first_told x o ts e f = sym (ap (option_map token_of) e) ∙ f

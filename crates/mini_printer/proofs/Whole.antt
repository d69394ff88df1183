-- What holds of a program whose statements are in the order of their text holds of the program.
use Rattle.std.proofs.Common.{◌≡◌, ℕ, zero, suc, ◌<◌, Bool, true, false, refl, sym, ◌∙◌, ap, subst, List, [], ◌∷◌, length, drop, get_or, arith}
use Rattle.std.specs.Prelude.{◌&&◌, ◌||◌, None}
use Rattle.std.proofs.lemmas.Bool.{false≢true}
use Rattle.mini_model.specs.declared.shape.Shape.TheVariants as shape
use Rattle.mini_model.specs.Tree.{Tree, node, none, ◌▸◌}
use Rattle.mini_print.specs.Token.{Token, Quoted}
use Rattle.mini_print.specs.Text.{AllLexical, EachLexical, Splits, text_of, is_quotable, slashes_follow, are_told}
use Rattle.mini_print.specs.Compact.{SplitsCompactly, compact_text_of}
use Rattle.mini_print.specs.Grammar.{Leading}
use Rattle.mini_print.specs.Printed.{Style, Full, terminated, shown, directives, printers, lay_block, styled_program, program_is_printable, are_printable, bare_program, is_module_of}
use Rattle.mini_print.specs.Unprintable.{first_fault, are_directives}
use Rattle.mini_print.proofs.Split.{splits_alone, text_splits}
use Rattle.mini_print.proofs.Compact.{compact_alone, compact_splits}
use Rattle.mini_print.proofs.Complete.{program_alone}
use Rattle.mini_print.proofs.Grouped.{program_grouped}
use Rattle.mini_print.proofs.Nests.{program_stands, lexical_within}
use Rattle.mini_print.proofs.Follows.{program_follows}
use Rattle.mini_faults.specs.Faults.{Tells}
use Rattle.mini_tokens.specs.Spelling.{IsTold}
use Rattle.mini_printer.specs.Texts.{IsTextOf, IsRefusalOf, IsRefusedBefore, IsUnlaid, is_program, laid_program, is_laid}
use Rattle.mini_faults.specs.declared.error.PrintError.{PrintError}
use Rattle.mini_faults.specs.declared.error.PrintError.TheVariants as error

pub same_tokens : (style : Style) (t : Tree) → is_program t ≡ true → laid_program style (shown t) ≡ styled_program style t
same_tokens style (node (shape.Program b ds) [] n (node shape.Listed [] k is ▸ none)) e = refl
same_tokens style _ e = absurd (false≢true e)

pub same_printable : (t : Tree) → is_program t ≡ true → is_laid (shown t) ≡ program_is_printable t
same_printable (node (shape.Program b ds) [] n (node shape.Listed [] k is ▸ none)) e = refl
same_printable _ e = absurd (false≢true e)

-- what is no program can't be printed
pub no_program : (t : Tree) → is_program t ≡ false → program_is_printable t ≡ false
no_program (node (shape.Program b ds) [] n (node shape.Listed [] k is ▸ none)) e = absurd (false≢true (sym e))
no_program _ e = refl

pub tells_refuses : (t : Tree) (e : PrintError) → Tells e (first_fault t) → IsRefusedBefore t e
tells_refuses t error.OutOfMemory r = tt
tells_refuses t (error.Reserved at) r = r
tells_refuses t (error.BadText at) r = r
tells_refuses t error.TooDeep r = absurd r
tells_refuses t error.Unprintable r = absurd r

pub before_refuses : (style : Style) (t : Tree) (e : PrintError) → IsRefusedBefore t e → IsRefusalOf style t e
before_refuses style t error.OutOfMemory r = tt
before_refuses style t (error.Reserved at) r = r
before_refuses style t (error.BadText at) r = r
before_refuses style t error.TooDeep r = r
before_refuses style t error.Unprintable r = (r.0, λ p. false≢true (sym r.1 ∙ p.0))

-- what refuses a program whose statements are in the order of their text refuses the program
pub unlaid_refuses : (style : Style) (t u : Tree) (e : PrintError) → u ≡ shown t → is_program t ≡ true → first_fault t ≡ None → IsUnlaid style u e → IsRefusalOf style t e
unlaid_refuses style t u error.OutOfMemory s p f r = tt
unlaid_refuses style t u (error.Reserved at) s p f r = absurd r
unlaid_refuses style t u (error.BadText at) s p f r = absurd r
unlaid_refuses style t u error.TooDeep s p f r = absurd r
unlaid_refuses style t u error.Unprintable s p f r =
    (f, λ q. r (ap is_laid s ∙ (same_printable t p ∙ q.0), subst (IsTold style) (sym (ap (laid_program style) s ∙ same_tokens style t p)) q.1))

-- and what such a program is, the program is
pub program_printable : (t u : Tree) → u ≡ shown t → is_program t ≡ true → is_laid u ≡ true → program_is_printable t ≡ true
program_printable t u s p l = sym (same_printable t p) ∙ (sym (ap is_laid s) ∙ l)

pub program_tokens : (style : Style) (t u : Tree) → u ≡ shown t → is_program t ≡ true → laid_program style u ≡ styled_program style t
program_tokens style t u s p = ap (laid_program style) s ∙ same_tokens style t p

-- ---- directives

leading_one : (q r : Bool) → ((((q && (false || (q && true))) && (true && true)) || (((q && (false || (q && true))) && (true && true)) && false)) || (false && false)) && r ≡ q && r
leading_one true r = refl
leading_one false r = refl

next_text : (i : ℕ) (xs : List (List ℕ)) (x : List ℕ) → i < length xs → x ≡ get_or xs i x → drop i xs ≡ x ∷ drop (suc i) xs
next_text i [] x h is = absurd (omega (arith, h))
next_text zero (y ∷ ys) x h is = ap (λ z. z ∷ ys) (sym is)
next_text (suc i) (y ∷ ys) x h is = let less : i < length ys = omega (arith, h) in next_text i ys x less is

pub directive_kept : (style : Style) (xs : List (List ℕ)) (i : ℕ) (x : List ℕ) (ts r : List Token) → i < length xs → x ≡ get_or xs i x → ts ≡ lay_block Leading (printers style (directives (drop (suc i) xs))) r →
    Quoted x ∷ terminated style ts ≡ lay_block Leading (printers style (directives (drop i xs))) r
directive_kept style xs i x ts r h is f =
    ap (λ us. Quoted x ∷ terminated style us) f
    ∙ ap (λ ys. lay_block Leading (printers style (directives ys)) r) (sym (next_text i xs x h is))

pub leading_are : (ds : List (List ℕ)) → are_printable Leading false (directives ds) ≡ are_directives ds
leading_are [] = refl
leading_are (s ∷ ds) = leading_one (is_quotable s) (are_printable Leading false (directives ds)) ∙ ap (λ b. is_quotable s && b) (leading_are ds)

-- ---- texts

standing : (style : Style) (t : Tree) → program_is_printable t ≡ true → EachLexical (styled_program style t) → AllLexical (styled_program style t)
standing style t p l = lexical_within [] (styled_program style t) l (program_stands (is_module_of t) (bare_program t) (styled_program style t) (program_grouped style t p))

follow : (style : Style) (t : Tree) → program_is_printable t ≡ true → slashes_follow false (styled_program style t) ≡ true
follow style t p = program_follows (is_module_of t) (bare_program t) (styled_program style t) (program_grouped style t p)

pub text_is_one : (style : Style) (t : Tree) (u : List ℕ) → program_is_printable t ≡ true → EachLexical (styled_program style t) → are_told false (styled_program style t) ≡ true → u ≡ text_of (styled_program style t) → IsTextOf Splits t u
text_is_one style t u p l d e =
    let ts = styled_program style t in
    let split : Splits u ts = subst (λ v. Splits v ts) (sym e) (text_splits ts (standing style t p l) (follow style t p) d) in
    record {
      tokens = ts;
      split = split;
      alone = λ vs s. splits_alone u vs ts s split;
      groups = program_grouped style t p;
      only = λ v g. program_alone (is_module_of t) v (bare_program t) ts g (program_grouped style t p);
    }

pub compact_is_one : (style : Style) (t : Tree) (u : List ℕ) → program_is_printable t ≡ true → EachLexical (styled_program style t) → u ≡ compact_text_of (styled_program style t) → IsTextOf SplitsCompactly t u
compact_is_one style t u p l e =
    let ts = styled_program style t in
    let split : SplitsCompactly u ts = subst (λ v. SplitsCompactly v ts) (sym e) (compact_splits ts (standing style t p l) (follow style t p)) in
    record {
      tokens = ts;
      split = split;
      alone = λ vs s. compact_alone u vs ts s split;
      groups = program_grouped style t p;
      only = λ v g. program_alone (is_module_of t) v (bare_program t) ts g (program_grouped style t p);
    }

-- of a text over the program in the order of its text
pub text_of_one : (t s : Tree) (ts : List Token) (u : List ℕ) → s ≡ shown t → is_program t ≡ true → (is_laid s ≡ true) × IsTold Full (laid_program Full s) → ts ≡ laid_program Full s → u ≡ text_of ts → IsTextOf Splits t u
text_of_one t s ts u e p l f g =
    let same = program_tokens Full t s e p in
    let told = subst (IsTold Full) same l.1 in
    text_is_one Full t u (program_printable t s e p l.0) told.0 told.1 (g ∙ ap text_of (f ∙ same))

pub compact_of_one : (style : Style) (t s : Tree) (ts : List Token) (u : List ℕ) → s ≡ shown t → is_program t ≡ true → (is_laid s ≡ true) × IsTold style (laid_program style s) → ts ≡ laid_program style s → u ≡ compact_text_of ts → IsTextOf SplitsCompactly t u
compact_of_one style t s ts u e p l f g =
    let same = program_tokens style t s e p in
    compact_is_one style t u (program_printable t s e p l.0) (subst (IsTold style) same l.1).0 (g ∙ ap compact_text_of (f ∙ same))

-- How the productions of modules begin.
use Rattle.std.specs.Prelude.{ℕ, ◌≡◌, refl, Bool, true, false, List, [], ◌∷◌, codes, Some, if◌then◌else◌}
use Rattle.std.proofs.Common.{◌∙◌, ap, sym, subst}
use Rattle.std.proofs.lemmas.Bool.{false≢true}
use Rattle.mini_model.specs.Weight.{same_text}
use Rattle.mini_model.specs.Tree.{Tree, Trees}
use Rattle.mini_print.specs.Token.{Token, Word, Punct, Times}
use Rattle.mini_print.specs.Grammar.{Goal, Place, has, Rule, token, form, ends_property, starts_default, ModuleName, KeyWord, KeyText, ImportDefault, ImportDefaultNames, ImportDefaultNamespace, ImportShort, ImportAs, ExportNames, ExportFrom, ExportDeclared, ExportValue, ExportDefault, ExportShort, ExportAs, ForwardName, ForwardText, ForwardAs, DeclaredFunction, DeclaredGenerator, DefaultFunction, DefaultGenerator, DefaultClass, ends_statement}
use Rattle.mini_print.specs.Groups.{Groups, by_rule, Row, end, a_token, a_part, a_list, a_lookahead, present, missing, with, without, a_silent}
use Rattle.mini_print.proofs.Reader.{statement_at, import_item_at, export_item_at, forward_item_at, declaration_at, default_at, default_class, is_plain_word_next, is_star_next, is_brace_next, bars}
use Rattle.mini_print.specs.Text.{escaped}
use Rattle.mini_print.proofs.Escapes.{unescaped, unescaped_back}
use Rattle.mini_print.proofs.Told.{untrue, same_is}
use Rattle.mini_print.proofs.Tidy.{starts_declaration}
use Rattle.mini_print.proofs.Powers.{first_open, neutral_items, statement_end}

-- no star stands where a name begins
pub not_star : (ts : List Token) → bars ts ≡ false → is_star_next ts ≡ false
not_star [] e = refl
not_star (Punct Times ∷ ts) e = absurd (false≢true (sym e))
not_star (x ∷ ts) e = refl

-- ---- imports and exports

pub import_default_begins : (s : List ℕ) {g : Goal} {ks : Trees} {ts r : List Token} → Row g (form (ImportDefault s)) ks ts r → statement_at ts ≡ Some (ImportDefault s)
import_default_begins s (a_token _ _ _ _ _ _ (a_token _ _ _ _ _ _ (a_silent _ _ _ _ _ _ (a_silent _ _ _ _ _ _ (a_silent _ _ _ _ _ _ (a_token _ _ _ _ _ _ d)))))) = refl

pub import_default_names_begins : (s : List ℕ) {g : Goal} {ks : Trees} {ts r : List Token} → Row g (form (ImportDefaultNames s)) ks ts r → statement_at ts ≡ Some (ImportDefaultNames s)
import_default_names_begins s (a_token _ _ _ _ _ _ (a_token _ _ _ _ _ _ (a_token _ _ _ _ _ _ (a_token _ _ _ _ _ _ d)))) = refl

pub import_default_namespace_begins : (s : List ℕ) {g : Goal} {ks : Trees} {ts r : List Token} → Row g (form (ImportDefaultNamespace s)) ks ts r → statement_at ts ≡ Some (ImportDefaultNamespace s)
import_default_namespace_begins s (a_token _ _ _ _ _ _ (a_token _ _ _ _ _ _ (a_token _ _ _ _ _ _ (a_token _ _ _ _ _ _ d)))) = refl

no_word_ended : (ts : List Token) → ends_statement ts ≡ true → is_plain_word_next ts ≡ false
no_word_ended [] e = refl
no_word_ended (Word s ∷ ts) e = absurd (false≢true e)
no_word_ended (x ∷ ts) e = refl

pub export_names_begins : {g : Goal} {ks : Trees} {ts r : List Token} → Row g (form ExportNames) ks ts r → statement_at ts ≡ Some ExportNames
export_names_begins (a_token _ _ _ _ _ _ (a_token _ _ _ _ _ _ (a_silent _ _ _ _ _ _ (a_list _ _ _ _ _ _ _ _ _ c (a_token _ _ _ _ _ _ (a_silent _ _ _ _ us _ d)))))) =
    ap (λ y. Some (if is_plain_word_next y then ExportFrom else ExportNames)) (neutral_items c 0) ∙ ap (λ b. Some (if b then ExportFrom else ExportNames)) (no_word_ended us (statement_end d))

pub export_from_begins : {g : Goal} {ks : Trees} {ts r : List Token} → Row g (form ExportFrom) ks ts r → statement_at ts ≡ Some ExportFrom
export_from_begins (a_token _ _ _ _ _ _ (a_token _ _ _ _ _ _ (a_silent _ _ _ _ _ _ (a_list _ _ _ _ _ _ _ _ _ c (a_token _ _ _ _ _ _ (a_token _ _ _ _ _ _ d)))))) =
    ap (λ y. Some (if is_plain_word_next y then ExportFrom else ExportNames)) (neutral_items c 0)

-- a declaration begins with none of the other words behind `export`
declaration_exported : (ts : List Token) → starts_declaration ts ≡ true → statement_at (Word (codes "export") ∷ ts) ≡ Some ExportDeclared
declaration_exported [] e = absurd (false≢true e)
declaration_exported (Word s ∷ ts) e = by (same_text s (codes "default")) refl
  where
    by : (b : Bool) → same_text s (codes "default") ≡ b → Some (if b then (if starts_default ts then ExportDefault else ExportValue) else ExportDeclared) ≡ Some ExportDeclared
    by true q = absurd (false≢true (ap (λ w. starts_declaration (Word w ∷ ts)) (sym (same_is s (codes "default") q)) ∙ e))
    by false q = refl
declaration_exported (x ∷ ts) e = absurd (false≢true e)

pub export_declared_begins : {g : Goal} {ks : Trees} {ts r : List Token} → Row g (form ExportDeclared) ks ts r → statement_at ts ≡ Some ExportDeclared
export_declared_begins (a_token _ _ _ _ _ _ (a_part _ _ _ _ _ _ _ ts _ _ c d)) = declaration_exported ts (first_open c)

pub export_value_begins : {g : Goal} {ks : Trees} {ts r : List Token} → Row g (form ExportValue) ks ts r → statement_at ts ≡ Some ExportValue
export_value_begins (a_token _ _ _ _ _ _ (a_token _ _ _ _ _ _ (a_lookahead _ _ _ _ ts _ p d))) = ap (λ b. Some (if b then ExportDefault else ExportValue)) (untrue (starts_default ts) p)

pub export_default_begins : {g : Goal} {ks : Trees} {ts r : List Token} → Row g (form ExportDefault) ks ts r → statement_at ts ≡ Some ExportDefault
export_default_begins (a_token _ _ _ _ _ _ (a_token _ _ _ _ _ _ (a_part _ _ _ _ _ _ _ ts _ _ c d))) = ap (λ b. Some (if b then ExportDefault else ExportValue)) (first_open c)

-- ---- declarations behind them

pub declared_function_begins : {g : Goal} {ks : Trees} {ts r : List Token} → Row g (form DeclaredFunction) ks ts r → declaration_at ts ≡ Some DeclaredFunction
declared_function_begins (a_token _ _ _ _ _ _ (a_part _ _ _ _ _ _ _ ts _ _ c d)) = ap (λ b. Some (if b then DeclaredGenerator else DeclaredFunction)) (not_star ts (first_open c).0)

pub default_function_begins : {g : Goal} {ks : Trees} {ts r : List Token} → Row g (form DefaultFunction) ks ts r → default_at ts ≡ Some DefaultFunction
default_function_begins (a_token _ _ _ _ _ _ (present _ _ _ _ _ ts _ _ c d)) = ap (λ b. Some (if b then DefaultGenerator else DefaultFunction)) (not_star ts (first_open c).0)
default_function_begins (a_token _ _ _ _ _ _ (missing _ _ _ _ _ _ (a_token _ _ _ _ _ _ d))) = refl

brace_default : (ts : List Token) → is_brace_next ts ≡ true → default_class ts ≡ DefaultClass
brace_default [] e = refl
brace_default (Word s ∷ ts) e = absurd (false≢true e)
brace_default (x ∷ ts) e = refl

pub default_class_begins : {g : Goal} {ks : Trees} {ts r : List Token} → Row g (form DefaultClass) ks ts r → default_at ts ≡ Some DefaultClass
default_class_begins (a_token _ _ _ _ _ _ (a_silent _ _ _ _ _ _ (with _ _ _ _ _ _ _ ts _ _ c d))) = refl
default_class_begins (a_token _ _ _ _ _ _ (a_silent _ _ _ _ _ _ (without _ _ _ _ _ _ ts _ f (a_part _ _ _ _ _ _ _ _ _ _ c d)))) = ap (λ h. Some h) (brace_default ts (first_open c))

-- ---- what stands in braces

no_word_ends : (ts : List Token) → ends_property ts ≡ true → is_plain_word_next ts ≡ false
no_word_ends [] e = refl
no_word_ends (Word s ∷ ts) e = absurd (false≢true e)
no_word_ends (x ∷ ts) e = refl

pub import_short_begins : (s : List ℕ) {g : Goal} {ks : Trees} {ts r : List Token} → Row g (form (ImportShort s)) ks ts r → import_item_at ts ≡ Some (ImportShort s)
import_short_begins s (a_token _ _ _ _ _ _ (a_silent _ _ _ _ _ _ (a_silent _ _ _ _ ts _ (a_lookahead _ _ _ _ _ _ p d)))) = ap (λ b. Some (if b then ImportAs else ImportShort s)) (no_word_ends ts p)

pub export_short_begins : (s : List ℕ) {g : Goal} {ks : Trees} {ts r : List Token} → Row g (form (ExportShort s)) ks ts r → export_item_at ts ≡ Some (ExportShort s)
export_short_begins s (a_token _ _ _ _ _ _ (a_silent _ _ _ _ _ _ (a_silent _ _ _ _ ts _ (a_lookahead _ _ _ _ _ _ p d)))) = ap (λ b. Some (if b then ExportAs s else ExportShort s)) (no_word_ends ts p)

pub forward_name_begins : (s : List ℕ) {g : Goal} {ks : Trees} {ts r : List Token} → Row g (form (ForwardName s)) ks ts r → forward_item_at ts ≡ Some (ForwardName s)
forward_name_begins s (a_token _ _ _ _ _ _ (a_silent _ _ _ _ _ _ (a_silent _ _ _ _ ts _ (a_lookahead _ _ _ _ _ _ p d)))) = ap (λ b. Some (if b then ForwardAs else ForwardName s)) (no_word_ends ts p)

pub forward_text_begins : (s : List ℕ) {g : Goal} {ks : Trees} {ts r : List Token} → Row g (form (ForwardText s)) ks ts r → forward_item_at ts ≡ Some (ForwardText s)
forward_text_begins s (a_token _ _ _ _ _ _ (a_silent _ _ _ _ _ _ (a_silent _ _ _ _ ts _ (a_lookahead _ _ _ _ _ _ p d)))) = ap (λ b. Some (if b then ForwardAs else ForwardText (unescaped (escaped s)))) (no_word_ends ts p) ∙ ap (λ y. Some (ForwardText y)) (unescaped_back s)

pub token_row : {g : Goal} {x : Token} {ks : Trees} {ts r : List Token} → Row g (token x ∷ []) ks ts r → ts ≡ x ∷ r
token_row (a_token _ _ _ _ _ _ (end _ _)) = refl

-- a name or a text before a word
named_case : (h : Rule) → {g : Goal} {ks : Trees} {ts r : List Token} → Row g (form h) ks ts r → has ModuleName h ≡ true → is_plain_word_next r ≡ true → (import_item_at ts ≡ Some ImportAs) × (forward_item_at ts ≡ Some ForwardAs)
named_case (KeyWord s) d f e = (ap import_item_at (token_row d) ∙ ap (λ b. Some (if b then ImportAs else ImportShort s)) e, ap forward_item_at (token_row d) ∙ ap (λ b. Some (if b then ForwardAs else ForwardName s)) e)
named_case (KeyText s) d f e = (ap import_item_at (token_row d), ap forward_item_at (token_row d) ∙ ap (λ b. Some (if b then ForwardAs else ForwardText (unescaped (escaped s)))) e)
named_case _ d f e = absurd (false≢true f)

named_before : {p : Place} {k : Tree} {ts r : List Token} → p.goal ≡ ModuleName → Groups p k ts r → is_plain_word_next r ≡ true → (import_item_at ts ≡ Some ImportAs) × (forward_item_at ts ≡ Some ForwardAs)
named_before q (by_rule p h ks ts r f d) e = named_case h d (subst (λ g. has g h ≡ true) q f.0) e

pub import_as_begins : {g : Goal} {ks : Trees} {ts r : List Token} → Row g (form ImportAs) ks ts r → import_item_at ts ≡ Some ImportAs
import_as_begins (a_part _ _ _ _ _ _ _ _ _ _ c (a_token _ _ _ _ _ _ d)) = (named_before refl c refl).0

pub forward_as_begins : {g : Goal} {ks : Trees} {ts r : List Token} → Row g (form ForwardAs) ks ts r → forward_item_at ts ≡ Some ForwardAs
forward_as_begins (a_part _ _ _ _ _ _ _ _ _ _ c (a_token _ _ _ _ _ _ d)) = (named_before refl c refl).1

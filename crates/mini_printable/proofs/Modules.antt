-- The tables of modules: imports, and exports of each kind.
use Rattle.std.proofs.Common.{◌≡◌, ℕ, suc, Bool, true, false, ◌&&◌, ◌||◌, not, List, [], ◌∷◌, refl, sym, ap, subst, ◌∙◌, inl, inr, arith}
use Rattle.std.specs.Prelude.{Some, nat_eq}
use Rattle.std.proofs.lemmas.Bool.{false≢true, eqb-true}
use Rattle.mini_model.specs.declared.name.Name.{Name}
use Rattle.mini_model.specs.declared.shape.Shape.{Shape}
use Rattle.mini_model.specs.declared.shape.Shape.TheVariants as shape
use Rattle.mini_model.specs.Tree.{Tree, Trees, node, none, ◌▸◌, absent, listed, count, children, child_or_absent, shape_of, is_absent}
use Rattle.mini_model.specs.Weight.{same_text}
use Rattle.mini_accept.specs.WellShaped as accept
use Rattle.mini_accept.specs.WellShaped.{Class, Slot, one, one_or_absent, many, many_and_rest, an_expression, an_inner, an_import, an_export, an_exported_name, an_exported_declaration, a_default_export, a_module_name, a_string, a_binding, a_parameter, a_pattern_rest, a_function_body, a_class_body, a_declarator, these, each, are_locals, is_same_flag, slots_of, filling_by, is_whole, has_names, fits}
use Rattle.mini_print.specs.Grammar.{Anything, ModuleItem, ImportItem, ExportItem, ForwardItem, ModuleName, SourceText, Exportable, DefaultDeclared, Declared, Binding, Parameter, Body, ClassBraces, Nothing, NoItems, Zero, One, is_reserved, form}
use Rattle.mini_print.specs.Unprintable.{has_text, are_specifiers, are_names, is_rest, is_default, is_namespace}
use Rattle.mini_print.specs.Printed as printed
use Rattle.mini_print.specs.Printed.{Want, a_part, a_list, a_perhaps, a_silent, turned, turned_of, rule_at, wants, wants_of, is_wanted, is_printable, are_printable, shown, all_shown, seen, with_directives, behind_default, import_parts, import_item_of, local_of, forward_of, export_of, default_of, declares_default, declared_class_of}
use Rattle.mini_printable.proofs.Clean.{and_l, and_r, both, is_clean, are_clean, clean_node}
use Rattle.mini_printable.proofs.Seats.{module_name_or_none, text, text_or_none, declarators, binding_or_none, parameters, inner_or_none, class_body, Exported, DefaultOut, export_goal, Below, parts, over_one, over_two, over_three, over_four}
use Rattle.mini_printable.proofs.Rows.{never, and_one, and_two, and_three, either, same_self, stands_at, part_of, perhaps_cases, stands_present, absent_shown, Row, by_row, filled, whole_parts, bound_name, maybe_bound, longer, one_shown}
use Rattle.mini_printable.proofs.Values.{value_row}
use Rattle.mini_printable.proofs.Targets.{same_is}
use Rattle.mini_printable.proofs.Statements.{function_declared, class_declared, class_named}

-- ---- names and texts

-- what is named by a word that isn't reserved
abbrev freed : List ℕ → Bool
freed s = not (is_reserved s) && (false || (not (is_reserved s) && true))

is_freed : (s : List ℕ) → is_reserved s ≡ false → freed s ≡ true
is_freed s e = ap (λ r. not r && (false || (not r && true))) e

same_back : (s t : List ℕ) → same_text s t ≡ true → same_text t s ≡ true
same_back s t e = subst (λ r. same_text r s ≡ true) (same_is s t e) (same_self s)

abbrev bound : Name → ℕ → Tree
bound x n = node shape.BindingIdentifier (x ∷ []) n none

binding_part : (x : Name) (n : ℕ) → is_reserved x.spelling ≡ false → is_printable (a_part Binding) (bound x n) ≡ true
binding_part x n f = part_of Binding (bound x n) (and_one (freed x.spelling) (is_freed x.spelling f))

-- the text of a module
text_case : (P : Tree → Type 0) → ((s : List ℕ) (n : ℕ) → P (node (shape.StringLiteral s) [] n none)) → (strict : Bool) (t : Tree) → fits strict (one a_string) t ≡ true → P t
text_case P f strict (node (shape.StringLiteral s) [] n none) e = f s n
text_case P f strict (node (shape.StringLiteral s) [] n (t ▸ ts)) e = absurd (never (is_whole a_string (shape.StringLiteral s) [] n (t ▸ ts)) e)
text_case P f strict (node (shape.StringLiteral s) (x ∷ xs) n ts) e = absurd (false≢true e)
text_case P f strict (node h xs n ts) e = absurd (never (is_whole a_string h xs n ts) e)

-- the name that another module has for something, which may be a text
name_case : (P : Tree → Type 0) → ((s : List ℕ) (n : ℕ) → P (node (shape.IdentifierName s) [] n none)) → ((s : List ℕ) (n : ℕ) → P (node (shape.StringLiteral s) [] n none)) → (strict : Bool) (t : Tree) → fits strict (one a_module_name) t ≡ true → P t
name_case P f g strict (node (shape.IdentifierName s) [] n none) e = f s n
name_case P f g strict (node (shape.IdentifierName s) [] n (t ▸ ts)) e = absurd (never (is_whole a_module_name (shape.IdentifierName s) [] n (t ▸ ts)) e)
name_case P f g strict (node (shape.IdentifierName s) (x ∷ xs) n ts) e = absurd (false≢true e)
name_case P f g strict (node (shape.StringLiteral s) [] n none) e = g s n
name_case P f g strict (node (shape.StringLiteral s) [] n (t ▸ ts)) e = absurd (never (is_whole a_module_name (shape.StringLiteral s) [] n (t ▸ ts)) e)
name_case P f g strict (node (shape.StringLiteral s) (x ∷ xs) n ts) e = absurd (false≢true e)
name_case P f g strict (node h xs n ts) e = absurd (never (is_whole a_module_name h xs n ts) e)

-- ---- imports

-- a name that is imported, as it is or by another one
import_name : (n m i : ℕ) (s : List ℕ) (x : Name) → is_reserved x.spelling ≡ false → stands_at ImportItem (node shape.ImportSpecifier [] n (node (shape.IdentifierName s) [] m none ▸ (bound x i ▸ none))) ≡ true
import_name n m i s x f = by (same_text s x.spelling) refl
  where
    us : Trees
    us = node (shape.IdentifierName s) [] m none ▸ (bound x i ▸ none)

    at : Bool → Type 0
    at c = (is_wanted ImportItem (Some (turned ImportItem (import_item_of c s))) && printed.fill (Some (wants (form (turned ImportItem (import_item_of c s))))) (node (shape.IdentifierName s) [] m none ▸ (bound x i ▸ none))) ≡ true

    by : (c : Bool) → same_text s x.spelling ≡ c → (is_wanted ImportItem (Some (turned ImportItem (import_item_of (same_text s x.spelling) s))) && printed.fill (Some (wants (form (turned ImportItem (import_item_of (same_text s x.spelling) s))))) (node (shape.IdentifierName s) [] m none ▸ (bound x i ▸ none))) ≡ true
    by true e =
        subst (λ c. (is_wanted ImportItem (Some (turned ImportItem (import_item_of c s))) && printed.fill (Some (wants (form (turned ImportItem (import_item_of c s))))) (node (shape.IdentifierName s) [] m none ▸ (bound x i ▸ none))) ≡ true) (sym e)
        (both (freed s) (same_text s s && (same_text x.spelling s && true)) (is_freed s (ap is_reserved (same_is s x.spelling e) ∙ f)) (and_two (same_text s s) (same_text x.spelling s) (same_self s) (same_back s x.spelling e)))
    by false e =
        subst (λ c. (is_wanted ImportItem (Some (turned ImportItem (import_item_of c s))) && printed.fill (Some (wants (form (turned ImportItem (import_item_of c s))))) (node (shape.IdentifierName s) [] m none ▸ (bound x i ▸ none))) ≡ true) (sym e)
        (and_two (is_printable (a_part ModuleName) (node (shape.IdentifierName s) [] m none)) (is_printable (a_part Binding) (bound x i)) refl (binding_part x i f))

import_text : (n m i : ℕ) (s : List ℕ) (x : Name) → is_reserved x.spelling ≡ false → stands_at ImportItem (node shape.ImportSpecifier [] n (node (shape.StringLiteral s) [] m none ▸ (bound x i ▸ none))) ≡ true
import_text n m i s x f = and_two (is_printable (a_part ModuleName) (node (shape.StringLiteral s) [] m none)) (is_printable (a_part Binding) (bound x i)) refl (binding_part x i f)

import_item : (inside : Bool) (n : ℕ) (t u : Tree) → fits inside (one a_module_name) t ≡ true → fits inside (one a_binding) u ≡ true → is_clean false u ≡ true → is_printable (a_part ImportItem) (node shape.ImportSpecifier [] n (shown t ▸ (shown u ▸ none))) ≡ true
import_item inside n t u et eu ku =
    bound_name (λ v. is_printable (a_part ImportItem) (node shape.ImportSpecifier [] n (shown t ▸ (shown v ▸ none))) ≡ true)
    (λ x i f. name_case (λ v. is_printable (a_part ImportItem) (node shape.ImportSpecifier [] n (shown v ▸ (bound x i ▸ none))) ≡ true)
    (λ s m. part_of ImportItem (node shape.ImportSpecifier [] n (node (shape.IdentifierName s) [] m none ▸ (bound x i ▸ none))) (import_name n m i s x f))
    (λ s m. part_of ImportItem (node shape.ImportSpecifier [] n (node (shape.StringLiteral s) [] m none ▸ (bound x i ▸ none))) (import_text n m i s x f))
    inside t et)
    inside false u eu ku

-- the parts of a specifier
over_binding : (strict : Bool) (P : Trees → Type 0) → ((t : Tree) → fits strict (one a_binding) t ≡ true → is_clean false t ≡ true → P (t ▸ none)) → (ts : Trees) → accept.fill strict (these (one a_binding ∷ [])) ts ≡ true → are_clean false ts ≡ true → P ts
over_binding strict P f none e k = absurd (false≢true e)
over_binding strict P f (t ▸ none) e k = f t (and_l (fits strict (one a_binding) t) true e) (and_l (is_clean false t) true k)
over_binding strict P f (t ▸ (u ▸ ts)) e k = absurd (never (fits strict (one a_binding) t) e)

over_names : (strict : Bool) (r : Class) (P : Trees → Type 0) → ((t u : Tree) → fits strict (one a_module_name) t ≡ true → fits strict (one r) u ≡ true → is_clean false u ≡ true → P (t ▸ (u ▸ none))) → (ts : Trees) → accept.fill strict (these (one a_module_name ∷ one r ∷ [])) ts ≡ true → are_clean false ts ≡ true → P ts
over_names strict r P f none e k = absurd (false≢true e)
over_names strict r P f (t ▸ none) e k = absurd (never (fits strict (one a_module_name) t) e)
over_names strict r P f (t ▸ (u ▸ none)) e k =
    let e2 = and_r (fits strict (one a_module_name) t) (fits strict (one r) u && true) e in
    let k2 = and_r (is_clean false t) (is_clean false u && true) k in
    f t u (and_l (fits strict (one a_module_name) t) (fits strict (one r) u && true) e) (and_l (fits strict (one r) u) true e2) (and_l (is_clean false u) true k2)
over_names strict r P f (t ▸ (u ▸ (v ▸ ts))) e k = absurd (never (fits strict (one r) u) (and_r (fits strict (one a_module_name) t) (fits strict (one r) u && false) e))

names_of : (strict : Bool) (t : Tree) → fits strict (one an_import) t ≡ true → is_clean false t ≡ true → (not (is_default t) && not (is_namespace t)) ≡ true → is_printable (a_part ImportItem) (shown t) ≡ true
names_of strict (node shape.ImportSpecifier [] n ts) e k w = over_names strict a_binding (λ us. is_printable (a_part ImportItem) (node shape.ImportSpecifier [] n (all_shown us)) ≡ true) (λ t u et eu ku. import_item strict n t u et eu ku) ts (and_r (is_whole an_import shape.ImportSpecifier [] n ts) (accept.fill strict (these (one a_module_name ∷ one a_binding ∷ [])) ts) e) k
names_of strict (node shape.ImportSpecifier (x ∷ xs) n ts) e k w = absurd (false≢true e)
names_of strict (node shape.ImportDefaultSpecifier xs n ts) e k w = absurd (false≢true w)
names_of strict (node shape.ImportNamespaceSpecifier xs n ts) e k w = absurd (false≢true w)
names_of strict (node h xs n ts) e k w = absurd (never (is_whole an_import h xs n ts) e)

import_names : (strict : Bool) (ss : Trees) → accept.fill strict (each (one an_import)) ss ≡ true → are_clean false ss ≡ true → are_names ss ≡ true → are_printable ImportItem false (all_shown ss) ≡ true
import_names strict none e k w = refl
import_names strict (t ▸ ss) e k w =
    both (is_printable (a_part ImportItem) (shown t)) (are_printable ImportItem false (all_shown ss))
    (names_of strict t (and_l (fits strict (one an_import) t) (accept.fill strict (each (one an_import)) ss) e) (and_l (is_clean false t) (are_clean false ss) k) (and_l (not (is_default t) && not (is_namespace t)) (are_names ss) w))
    (import_names strict ss (and_r (fits strict (one an_import) t) (accept.fill strict (each (one an_import)) ss) e) (and_r (is_clean false t) (are_clean false ss) k) (and_r (not (is_default t) && not (is_namespace t)) (are_names ss) w))

-- behind a default: a namespace alone, or names
behind : (P : Trees → Type 0) (m : Tree) (strict : Bool) (ss : Trees) → accept.fill strict (each (one an_import)) ss ≡ true → are_clean false ss ≡ true → is_rest ss ≡ true → ((x : Name) (n : ℕ) → is_reserved x.spelling ≡ false → P (bound x n ▸ (listed none ▸ (m ▸ none)))) → ((us : Trees) → are_printable ImportItem false us ≡ true → P (absent ▸ (listed us ▸ (m ▸ none)))) → P (behind_default (all_shown ss) m)
behind P m strict none e k w f g = g none refl
behind P m strict (node shape.ImportSpecifier xs n ts ▸ none) e k w f g = g (shown (node shape.ImportSpecifier xs n ts) ▸ none) (import_names strict (node shape.ImportSpecifier xs n ts ▸ none) e k w)
behind P m strict (node shape.ImportSpecifier xs n ts ▸ (u ▸ ss)) e k w f g = g (shown (node shape.ImportSpecifier xs n ts) ▸ all_shown (u ▸ ss)) (import_names strict (node shape.ImportSpecifier xs n ts ▸ (u ▸ ss)) e k w)
behind P m strict (node shape.ImportNamespaceSpecifier [] n ts ▸ none) e k w f g =
    let t = node shape.ImportNamespaceSpecifier [] n ts in
    over_binding strict (λ us. P (behind_default (node shape.ImportNamespaceSpecifier [] n (all_shown us) ▸ none) m)) (λ u eu ku. bound_name (λ v. P (behind_default (node shape.ImportNamespaceSpecifier [] n (shown v ▸ none) ▸ none) m)) (λ x i r. f x i r) strict false u eu ku)
    ts (and_r (is_whole an_import shape.ImportNamespaceSpecifier [] n ts) (accept.fill strict (these (one a_binding ∷ [])) ts) (and_l (fits strict (one an_import) t) true e)) (and_l (is_clean false t) true k)
behind P m strict (node shape.ImportNamespaceSpecifier (x ∷ xs) n ts ▸ none) e k w f g = absurd (false≢true e)
behind P m strict (node shape.ImportNamespaceSpecifier xs n ts ▸ (u ▸ ss)) e k w f g = absurd (false≢true w)
behind P m strict (node shape.ImportDefaultSpecifier xs n ts ▸ none) e k w f g = absurd (false≢true w)
behind P m strict (node shape.ImportDefaultSpecifier xs n ts ▸ (u ▸ ss)) e k w f g = absurd (false≢true w)
behind P m strict (node h xs n ts ▸ ss) e k w f g = absurd (never (is_whole an_import h xs n ts) (and_l (is_whole an_import h xs n ts && false) (accept.fill strict (each (one an_import)) ss) e))

abbrev module_text : List ℕ → ℕ → Tree
module_text m j = node (shape.StringLiteral m) [] j none

-- without a default, and with one
plain_import : (n : ℕ) (m : List ℕ) (j : ℕ) (strict : Bool) (ss : Trees) → accept.fill strict (each (one an_import)) ss ≡ true → are_clean false ss ≡ true → is_rest ss ≡ true → stands_at ModuleItem (node shape.ImportDeclaration [] n (absent ▸ behind_default (all_shown ss) (module_text m j))) ≡ true
plain_import n m j strict ss e k w =
    behind (λ us. stands_at ModuleItem (node shape.ImportDeclaration [] n (absent ▸ us)) ≡ true) (module_text m j) strict ss e k w
    (λ x i f. and_two (is_printable (a_part Binding) (bound x i)) (is_printable (a_part SourceText) (module_text m j)) (binding_part x i f) refl)
    named
  where
    named : (us : Trees) → are_printable ImportItem false us ≡ true → stands_at ModuleItem (node shape.ImportDeclaration [] n (absent ▸ (absent ▸ (listed us ▸ (module_text m j ▸ none))))) ≡ true
    named none p = and_one (same_text m m) (same_self m)
    named (u ▸ us) p = and_two (are_printable ImportItem false (u ▸ us)) (is_printable (a_part SourceText) (module_text m j)) p refl

default_import : (n : ℕ) (x : Name) (i : ℕ) → is_reserved x.spelling ≡ false → (m : List ℕ) (j : ℕ) (strict : Bool) (ss : Trees) → accept.fill strict (each (one an_import)) ss ≡ true → are_clean false ss ≡ true → is_rest ss ≡ true → stands_at ModuleItem (node shape.ImportDeclaration [] n (bound x i ▸ behind_default (all_shown ss) (module_text m j))) ≡ true
default_import n x i f m j strict ss e k w =
    behind (λ us. stands_at ModuleItem (node shape.ImportDeclaration [] n (bound x i ▸ us)) ≡ true) (module_text m j) strict ss e k w
    (λ y l g. both (freed x.spelling) (same_text x.spelling x.spelling && (is_printable (a_part Binding) (bound y l) && (is_printable (a_part SourceText) (module_text m j) && true))) (is_freed x.spelling f) (and_three (same_text x.spelling x.spelling) (is_printable (a_part Binding) (bound y l)) (is_printable (a_part SourceText) (module_text m j)) (same_self x.spelling) (binding_part y l g) refl))
    named
  where
    named : (us : Trees) → are_printable ImportItem false us ≡ true → stands_at ModuleItem (node shape.ImportDeclaration [] n (bound x i ▸ (absent ▸ (listed us ▸ (module_text m j ▸ none))))) ≡ true
    named none p = both (freed x.spelling) (same_text x.spelling x.spelling && (is_printable (a_part SourceText) (module_text m j) && true)) (is_freed x.spelling f) (and_two (same_text x.spelling x.spelling) (is_printable (a_part SourceText) (module_text m j)) (same_self x.spelling) refl)
    named (u ▸ us) p = both (freed x.spelling) (same_text x.spelling x.spelling && (are_printable ImportItem false (u ▸ us) && (is_printable (a_part SourceText) (module_text m j) && true))) (is_freed x.spelling f) (and_three (same_text x.spelling x.spelling) (are_printable ImportItem false (u ▸ us)) (is_printable (a_part SourceText) (module_text m j)) (same_self x.spelling) p refl)

imports : (n : ℕ) (m : List ℕ) (j : ℕ) (strict : Bool) (ss : Trees) → accept.fill strict (each (one an_import)) ss ≡ true → are_clean false ss ≡ true → are_specifiers ss ≡ true → stands_at ModuleItem (node shape.ImportDeclaration [] n (import_parts (all_shown ss) (module_text m j))) ≡ true
imports n m j strict none e k w = plain_import n m j strict none e k refl
imports n m j strict (node shape.ImportDefaultSpecifier [] i ts ▸ ss) e k w =
    let t = node shape.ImportDefaultSpecifier [] i ts in
    over_binding strict (λ us. stands_at ModuleItem (node shape.ImportDeclaration [] n (import_parts (node shape.ImportDefaultSpecifier [] i (all_shown us) ▸ all_shown ss) (module_text m j))) ≡ true)
    (λ u eu ku. bound_name (λ v. stands_at ModuleItem (node shape.ImportDeclaration [] n (import_parts (node shape.ImportDefaultSpecifier [] i (shown v ▸ none) ▸ all_shown ss) (module_text m j))) ≡ true) (λ x l f. default_import n x l f m j strict ss (and_r (fits strict (one an_import) t) (accept.fill strict (each (one an_import)) ss) e) (and_r (is_clean false t) (are_clean false ss) k) w) strict false u eu ku)
    ts (and_r (is_whole an_import shape.ImportDefaultSpecifier [] i ts) (accept.fill strict (these (one a_binding ∷ [])) ts) (and_l (fits strict (one an_import) t) (accept.fill strict (each (one an_import)) ss) e)) (and_l (is_clean false t) (are_clean false ss) k)
imports n m j strict (node shape.ImportDefaultSpecifier (x ∷ xs) i ts ▸ ss) e k w = absurd (false≢true e)
imports n m j strict (node shape.ImportSpecifier xs i ts ▸ ss) e k w = plain_import n m j strict (node shape.ImportSpecifier xs i ts ▸ ss) e k w
imports n m j strict (node shape.ImportNamespaceSpecifier xs i ts ▸ ss) e k w = plain_import n m j strict (node shape.ImportNamespaceSpecifier xs i ts ▸ ss) e k w
imports n m j strict (node h xs i ts ▸ ss) e k w = absurd (never (is_whole an_import h xs i ts) (and_l (is_whole an_import h xs i ts && false) (accept.fill strict (each (one an_import)) ss) e))

import_at : (inside : Bool) (n : ℕ) (l t : Tree) → fits inside (many an_import) l ≡ true → is_clean false l ≡ true → fits inside (one a_string) t ≡ true → has_text shape.ImportDeclaration (l ▸ (t ▸ none)) ≡ true → stands_at ModuleItem (seen shape.ImportDeclaration [] n (shown l ▸ (shown t ▸ none))) ≡ true
import_at inside n (node shape.Listed [] i ss) t el kl et w =
    text_case (λ u. stands_at ModuleItem (seen shape.ImportDeclaration [] n (shown (node shape.Listed [] i ss) ▸ (shown u ▸ none))) ≡ true)
    (λ m j. imports n m j inside ss (and_r (is_whole an_import shape.Listed [] i ss) (accept.fill inside (each (one an_import)) ss) el) kl w) inside t et
import_at inside n (node shape.Listed (x ∷ xs) i ss) t el kl et w = absurd (false≢true el)
import_at inside n (node h xs i ss) t el kl et w = absurd (never (is_whole an_import h xs i ss) el)

-- ---- names that are exported

local_item : (n i m : ℕ) (x : Name) (s : List ℕ) → is_reserved x.spelling ≡ false → stands_at ExportItem (node shape.ExportSpecifier [] n (node shape.Identifier (x ∷ []) i none ▸ (node (shape.IdentifierName s) [] m none ▸ none))) ≡ true
local_item n i m x s f = by (same_text x.spelling s) refl
  where
    by : (c : Bool) → same_text x.spelling s ≡ c → (is_wanted ExportItem (Some (turned ExportItem (local_of (same_text x.spelling s) x.spelling))) && printed.fill (Some (wants (form (turned ExportItem (local_of (same_text x.spelling s) x.spelling))))) (node shape.Identifier (x ∷ []) i none ▸ (node (shape.IdentifierName s) [] m none ▸ none))) ≡ true
    by true e =
        subst (λ c. (is_wanted ExportItem (Some (turned ExportItem (local_of c x.spelling))) && printed.fill (Some (wants (form (turned ExportItem (local_of c x.spelling))))) (node shape.Identifier (x ∷ []) i none ▸ (node (shape.IdentifierName s) [] m none ▸ none))) ≡ true) (sym e)
        (both (freed x.spelling) (same_text x.spelling x.spelling && (same_text s x.spelling && true)) (is_freed x.spelling f) (and_two (same_text x.spelling x.spelling) (same_text s x.spelling) (same_self x.spelling) (same_back x.spelling s e)))
    by false e =
        subst (λ c. (is_wanted ExportItem (Some (turned ExportItem (local_of c x.spelling))) && printed.fill (Some (wants (form (turned ExportItem (local_of c x.spelling))))) (node shape.Identifier (x ∷ []) i none ▸ (node (shape.IdentifierName s) [] m none ▸ none))) ≡ true) (sym e)
        (both (freed x.spelling) (same_text x.spelling x.spelling && (is_printable (a_part ModuleName) (node (shape.IdentifierName s) [] m none) && true)) (is_freed x.spelling f) (and_two (same_text x.spelling x.spelling) (is_printable (a_part ModuleName) (node (shape.IdentifierName s) [] m none)) (same_self x.spelling) refl))

local_text : (n i m : ℕ) (x : Name) (s : List ℕ) → is_reserved x.spelling ≡ false → stands_at ExportItem (node shape.ExportSpecifier [] n (node shape.Identifier (x ∷ []) i none ▸ (node (shape.StringLiteral s) [] m none ▸ none))) ≡ true
local_text n i m x s f = both (freed x.spelling) (same_text x.spelling x.spelling && (is_printable (a_part ModuleName) (node (shape.StringLiteral s) [] m none) && true)) (is_freed x.spelling f) (and_two (same_text x.spelling x.spelling) (is_printable (a_part ModuleName) (node (shape.StringLiteral s) [] m none)) (same_self x.spelling) refl)

forward_name : (n i m : ℕ) (r s : List ℕ) → stands_at ForwardItem (node shape.ExportSpecifier [] n (node (shape.IdentifierName r) [] i none ▸ (node (shape.IdentifierName s) [] m none ▸ none))) ≡ true
forward_name n i m r s = by (same_text r s) refl
  where
    by : (c : Bool) → same_text r s ≡ c → (is_wanted ForwardItem (Some (turned ForwardItem (forward_of (same_text r s) false r))) && printed.fill (Some (wants (form (turned ForwardItem (forward_of (same_text r s) false r))))) (node (shape.IdentifierName r) [] i none ▸ (node (shape.IdentifierName s) [] m none ▸ none))) ≡ true
    by true e = subst (λ c. (is_wanted ForwardItem (Some (turned ForwardItem (forward_of c false r))) && printed.fill (Some (wants (form (turned ForwardItem (forward_of c false r))))) (node (shape.IdentifierName r) [] i none ▸ (node (shape.IdentifierName s) [] m none ▸ none))) ≡ true) (sym e) (and_two (same_text r r) (same_text s r) (same_self r) (same_back r s e))
    by false e = subst (λ c. (is_wanted ForwardItem (Some (turned ForwardItem (forward_of c false r))) && printed.fill (Some (wants (form (turned ForwardItem (forward_of c false r))))) (node (shape.IdentifierName r) [] i none ▸ (node (shape.IdentifierName s) [] m none ▸ none))) ≡ true) (sym e) refl

forward_text : (n i m : ℕ) (r s : List ℕ) → stands_at ForwardItem (node shape.ExportSpecifier [] n (node (shape.StringLiteral r) [] i none ▸ (node (shape.StringLiteral s) [] m none ▸ none))) ≡ true
forward_text n i m r s = by (same_text r s) refl
  where
    by : (c : Bool) → same_text r s ≡ c → (is_wanted ForwardItem (Some (turned ForwardItem (forward_of (same_text r s) true r))) && printed.fill (Some (wants (form (turned ForwardItem (forward_of (same_text r s) true r))))) (node (shape.StringLiteral r) [] i none ▸ (node (shape.StringLiteral s) [] m none ▸ none))) ≡ true
    by true e = subst (λ c. (is_wanted ForwardItem (Some (turned ForwardItem (forward_of c true r))) && printed.fill (Some (wants (form (turned ForwardItem (forward_of c true r))))) (node (shape.StringLiteral r) [] i none ▸ (node (shape.StringLiteral s) [] m none ▸ none))) ≡ true) (sym e) (and_two (same_text r r) (same_text s r) (same_self r) (same_back r s e))
    by false e = subst (λ c. (is_wanted ForwardItem (Some (turned ForwardItem (forward_of c true r))) && printed.fill (Some (wants (form (turned ForwardItem (forward_of c true r))))) (node (shape.StringLiteral r) [] i none ▸ (node (shape.StringLiteral s) [] m none ▸ none))) ≡ true) (sym e) refl

-- of an export, by its local name or by the one that another module has
export_local : (strict : Bool) (n : ℕ) (e l : Tree) → fits strict (one a_module_name) e ≡ true → fits strict (one an_exported_name) l ≡ true → is_clean false l ≡ true → is_same_flag true (accept.is_reference l) ≡ true → is_printable (a_part ExportItem) (node shape.ExportSpecifier [] n (shown l ▸ (shown e ▸ none))) ≡ true
export_local strict n e (node shape.Identifier (x ∷ []) i none) ee el kl w =
    let c = clean_node false shape.Identifier (x ∷ []) i none refl kl in
    name_case (λ v. is_printable (a_part ExportItem) (node shape.ExportSpecifier [] n (node shape.Identifier (x ∷ []) i none ▸ (shown v ▸ none))) ≡ true)
    (λ s m. part_of ExportItem (node shape.ExportSpecifier [] n (node shape.Identifier (x ∷ []) i none ▸ (node (shape.IdentifierName s) [] m none ▸ none))) (local_item n i m x s c.0))
    (λ s m. part_of ExportItem (node shape.ExportSpecifier [] n (node shape.Identifier (x ∷ []) i none ▸ (node (shape.StringLiteral s) [] m none ▸ none))) (local_text n i m x s c.0))
    strict e ee
export_local strict n e (node shape.Identifier (x ∷ []) i (t ▸ ts)) ee el kl w = absurd (never (is_whole an_exported_name shape.Identifier (x ∷ []) i (t ▸ ts)) el)
export_local strict n e (node shape.Identifier [] i ts) ee el kl w = absurd (false≢true el)
export_local strict n e (node shape.Identifier (x ∷ y ∷ xs) i ts) ee el kl w = absurd (false≢true el)
export_local strict n e (node h xs i ts) ee el kl w = absurd (false≢true w)

export_other : (strict : Bool) (n : ℕ) (e l : Tree) → fits strict (one a_module_name) e ≡ true → fits strict (one an_exported_name) l ≡ true → is_same_flag false (accept.is_reference l) ≡ true → is_printable (a_part ForwardItem) (node shape.ExportSpecifier [] n (shown l ▸ (shown e ▸ none))) ≡ true
export_other strict n e (node (shape.IdentifierName r) [] i none) ee el w =
    name_case (λ v. is_printable (a_part ForwardItem) (node shape.ExportSpecifier [] n (node (shape.IdentifierName r) [] i none ▸ (shown v ▸ none))) ≡ true)
    (λ s m. part_of ForwardItem (node shape.ExportSpecifier [] n (node (shape.IdentifierName r) [] i none ▸ (node (shape.IdentifierName s) [] m none ▸ none))) (forward_name n i m r s))
    (λ s m. refl)
    strict e ee
export_other strict n e (node (shape.IdentifierName r) [] i (t ▸ ts)) ee el w = absurd (never (is_whole an_exported_name (shape.IdentifierName r) [] i (t ▸ ts)) el)
export_other strict n e (node (shape.IdentifierName r) (x ∷ xs) i ts) ee el w = absurd (false≢true el)
export_other strict n e (node (shape.StringLiteral r) [] i none) ee el w =
    name_case (λ v. is_printable (a_part ForwardItem) (node shape.ExportSpecifier [] n (node (shape.StringLiteral r) [] i none ▸ (shown v ▸ none))) ≡ true)
    (λ s m. refl)
    (λ s m. part_of ForwardItem (node shape.ExportSpecifier [] n (node (shape.StringLiteral r) [] i none ▸ (node (shape.StringLiteral s) [] m none ▸ none))) (forward_text n i m r s))
    strict e ee
export_other strict n e (node (shape.StringLiteral r) [] i (t ▸ ts)) ee el w = absurd (never (is_whole an_exported_name (shape.StringLiteral r) [] i (t ▸ ts)) el)
export_other strict n e (node (shape.StringLiteral r) (x ∷ xs) i ts) ee el w = absurd (false≢true el)
export_other strict n e (node shape.Identifier xs i ts) ee el w = absurd (false≢true w)
export_other strict n e (node h xs i ts) ee el w = absurd (never (is_whole an_exported_name h xs i ts) el)

export_item : (strict b : Bool) (t : Tree) → fits strict (one an_export) t ≡ true → is_clean false t ≡ true → is_same_flag b (accept.is_reference (child_or_absent (children t) 1)) ≡ true → is_printable (a_part (export_goal b)) (shown t) ≡ true
export_item strict true (node shape.ExportSpecifier [] n ts) e k w = over_names strict an_exported_name (λ us. is_same_flag true (accept.is_reference (child_or_absent us 1)) ≡ true → is_printable (a_part ExportItem) (seen shape.ExportSpecifier [] n (all_shown us)) ≡ true) (λ t u et eu ku z. export_local strict n t u et eu ku z) ts (and_r (is_whole an_export shape.ExportSpecifier [] n ts) (accept.fill strict (these (one a_module_name ∷ one an_exported_name ∷ [])) ts) e) k w
export_item strict false (node shape.ExportSpecifier [] n ts) e k w = over_names strict an_exported_name (λ us. is_same_flag false (accept.is_reference (child_or_absent us 1)) ≡ true → is_printable (a_part ForwardItem) (seen shape.ExportSpecifier [] n (all_shown us)) ≡ true) (λ t u et eu ku z. export_other strict n t u et eu z) ts (and_r (is_whole an_export shape.ExportSpecifier [] n ts) (accept.fill strict (these (one a_module_name ∷ one an_exported_name ∷ [])) ts) e) k w
export_item strict b (node shape.ExportSpecifier (x ∷ xs) n ts) e k w = absurd (false≢true e)
export_item strict b (node h xs n ts) e k w = absurd (never (is_whole an_export h xs n ts) e)

export_items : (strict b : Bool) (ts : Trees) → accept.fill strict (each (one an_export)) ts ≡ true → are_clean false ts ≡ true → are_locals b ts ≡ true → are_printable (export_goal b) false (all_shown ts) ≡ true
export_items strict b none e k w = refl
export_items strict b (t ▸ ts) e k w =
    both (is_printable (a_part (export_goal b)) (shown t)) (are_printable (export_goal b) false (all_shown ts))
    (export_item strict b t (and_l (fits strict (one an_export) t) (accept.fill strict (each (one an_export)) ts) e) (and_l (is_clean false t) (are_clean false ts) k) (and_l (is_same_flag b (accept.is_reference (child_or_absent (children t) 1))) (are_locals b ts) w))
    (export_items strict b ts (and_r (fits strict (one an_export) t) (accept.fill strict (each (one an_export)) ts) e) (and_r (is_clean false t) (are_clean false ts) k) (and_r (is_same_flag b (accept.is_reference (child_or_absent (children t) 1))) (are_locals b ts) w))

export_list : (strict b : Bool) (t : Tree) → fits strict (many an_export) t ≡ true → is_clean false t ≡ true → are_locals b (children t) ≡ true → is_printable (a_list (export_goal b) Zero) (shown t) ≡ true
export_list strict b (node shape.Listed [] n ts) e k w = export_items strict b ts (and_r (is_whole an_export shape.Listed [] n ts) (accept.fill strict (each (one an_export)) ts) e) k w
export_list strict b (node shape.Listed (x ∷ xs) n ts) e k w = absurd (false≢true e)
export_list strict b (node h xs n ts) e k w = absurd (never (is_whole an_export h xs n ts) e)

no_items : (strict : Bool) (t : Tree) → fits strict (many an_export) t ≡ true → nat_eq (count (children t)) 0 ≡ true → is_printable (a_silent NoItems) (shown t) ≡ true
no_items strict (node shape.Listed [] n none) e w = refl
no_items strict (node shape.Listed [] n (t ▸ ts)) e w = absurd (ends (eqb-true (suc (count ts)) 0 w))
  where
    ends : suc (count ts) ≡ 0 → ⊥
    ends f = omega (arith, f)
no_items strict (node shape.Listed (x ∷ xs) n ts) e w = absurd (false≢true e)
no_items strict (node h xs n ts) e w = absurd (never (is_whole an_export h xs n ts) e)

-- ---- declarations that are exported

exported_function : (d : Bool) → (is_wanted Exportable (turned_of Exportable (rule_at (shape.Function true d []) [] none)) ≡ true) × (wants_of (shape.Function true d []) (turned_of Exportable (rule_at (shape.Function true d []) [] none)) ≡ Some (a_part Binding ∷ a_list Parameter Zero ∷ a_part Body ∷ []))
exported_function true = (refl, refl)
exported_function false = (refl, refl)

declared_row : Row an_exported_declaration Exportable
declared_row strict inside l (shape.VariableDeclaration w) [] n ts b e k v = longer One Declared (all_shown ts) refl (parts ts b inside (declarators ∷ []) false refl e k) (one_shown inside a_declarator ts e v)
declared_row strict inside l (shape.Function true g ds) [] n ts b e k v = function_declared Exportable inside l g ds n ts exported_function b e k
declared_row strict inside l (shape.Class true) [] n ts b e k v =
    over_four inside false (one a_binding) (one_or_absent (an_inner an_expression)) (one a_class_body) (one_or_absent a_binding) (λ us. accept.holds_its_name true us ≡ true → stands_at Exportable (node (shape.Class true) [] n (all_shown us)) ≡ true)
    (λ t u c w bt bu bc bw et eu ec ew kt ku kc kw y. class_declared Exportable inside n t u c w (λ s. (refl, refl)) et kt (bu.seat inside inner_or_none false refl eu ku) (bc.seat inside class_body false refl ec kc) ew kw y) ts b e k v
declared_row strict inside l h xs n ts b e k v = absurd (never (has_names h xs) e)

declared_there : (strict : Bool) (t : Tree) → fits strict (one an_exported_declaration) t ≡ true → is_absent t ≡ false
declared_there strict (node shape.Absent xs n ts) e = absurd (never (is_whole an_exported_declaration shape.Absent xs n ts) e)
declared_there strict (node h xs n ts) e = refl

pub exported_at : (strict : Bool) (h : Shape) (xs : List Name) (n : ℕ) (ts : Trees) → Below ts → fits strict (one_or_absent an_exported_declaration) (node h xs n ts) ≡ true → is_clean false (node h xs n ts) ≡ true → Exported (node h xs n ts) (seen h xs n (all_shown ts))
exported_at strict shape.Absent [] n none b e k = inl (refl, refl, refl)
exported_at strict shape.Absent [] n (t ▸ ts) b e k = absurd (never (is_whole an_exported_declaration shape.Absent [] n (t ▸ ts)) e)
exported_at strict shape.Absent (x ∷ xs) n ts b e k = absurd (false≢true e)
exported_at strict h xs n ts b e k =
    let s = by_row an_exported_declaration Exportable declared_row strict false h xs n ts b e k in
    inr (declared_there strict (node h xs n ts) e, stands_present Exportable (seen h xs n (all_shown ts)) s, part_of Exportable (seen h xs n (all_shown ts)) s)

-- the text of a module may be absent
text_there : (strict : Bool) (t : Tree) → fits strict (one_or_absent a_string) t ≡ true → is_absent (shown t) ≡ is_absent t
text_there strict (node shape.Absent xs n ts) e = refl
text_there strict (node (shape.StringLiteral s) xs n ts) e = refl
text_there strict (node h xs n ts) e = absurd (never (is_whole a_string h xs n ts) e)

-- what an export has, by what stands in it
exports_by : (n : ℕ) (d l s : Tree) (p q : Bool) → is_absent d ≡ p → is_absent s ≡ q → (is_wanted ModuleItem (Some (export_of p q)) && printed.fill (Some (wants (form (export_of p q)))) (d ▸ (l ▸ (s ▸ none)))) ≡ true → stands_at ModuleItem (node shape.ExportNamedDeclaration [] n (d ▸ (l ▸ (s ▸ none)))) ≡ true
exports_by n d l s p q x y e = subst (λ z. (is_wanted ModuleItem (Some (export_of z (is_absent s))) && printed.fill (Some (wants (form (export_of z (is_absent s))))) (d ▸ (l ▸ (s ▸ none)))) ≡ true) (sym x) (subst (λ z. (is_wanted ModuleItem (Some (export_of p z)) && printed.fill (Some (wants (form (export_of p z)))) (d ▸ (l ▸ (s ▸ none)))) ≡ true) (sym y) e)

export_at : (inside : Bool) (n : ℕ) (d l s : Tree) → Exported d (shown d) → fits inside (many an_export) l ≡ true → is_clean false l ≡ true → fits inside (one_or_absent a_string) s ≡ true → is_printable (a_perhaps SourceText) (shown s) ≡ true → accept.is_whole_export (d ▸ (l ▸ (s ▸ none))) ≡ true → stands_at ModuleItem (node shape.ExportNamedDeclaration [] n (shown d ▸ (shown l ▸ (shown s ▸ none)))) ≡ true
export_at inside n d l s (inl a) el kl es ps v =
    let locals = and_r (is_absent d || (nat_eq (count (children l)) 0 && is_absent s)) (are_locals (is_absent s) (children l)) v in
    either (perhaps_cases SourceText (shown s) ps)
    (λ c. exports_by n (shown d) (shown l) (shown s) true true a.2 c.0 (and_three (is_printable (a_silent Nothing) (shown d)) (is_printable (a_list ExportItem Zero) (shown l)) (is_printable (a_silent Nothing) (shown s)) a.1 (export_list inside true l el kl (subst (λ z. are_locals z (children l) ≡ true) (sym (text_there inside s es) ∙ c.0) locals)) c.1))
    (λ c. exports_by n (shown d) (shown l) (shown s) true false a.2 c.0 (and_three (is_printable (a_silent Nothing) (shown d)) (is_printable (a_list ForwardItem Zero) (shown l)) (is_printable (a_part SourceText) (shown s)) a.1 (export_list inside false l el kl (subst (λ z. are_locals z (children l) ≡ true) (sym (text_there inside s es) ∙ c.0) locals)) (part_of SourceText (shown s) c.1)))
export_at inside n d l s (inr a) el kl es ps v =
    let alone = subst (λ z. (z || (nat_eq (count (children l)) 0 && is_absent s)) ≡ true) a.0 (and_l (is_absent d || (nat_eq (count (children l)) 0 && is_absent s)) (are_locals (is_absent s) (children l)) v) in
    let z = and_r (nat_eq (count (children l)) 0) (is_absent s) alone in
    exports_by n (shown d) (shown l) (shown s) false true a.1 (text_there inside s es ∙ z) (and_three (is_printable (a_part Exportable) (shown d)) (is_printable (a_silent NoItems) (shown l)) (is_printable (a_silent Nothing) (shown s)) a.2 (no_items inside l el (and_l (nat_eq (count (children l)) 0) (is_absent s) alone)) (absent_shown SourceText s z ps))

-- ---- what is exported by default

default_function : (inside l g : Bool) (ds : List (List ℕ)) (n : ℕ) (ts : Trees) → Below ts → accept.fill inside (these (one_or_absent a_binding ∷ many_and_rest a_parameter a_pattern_rest ∷ one a_function_body ∷ [])) ts ≡ true → is_clean l (node (shape.Function true g ds) [] n ts) ≡ true → DefaultOut (seen (shape.Function true g ds) [] n (all_shown ts))
default_function inside l true ds n ts b e k =
    let c = clean_node l (shape.Function true true ds) [] n ts refl k in
    over_three inside false (one_or_absent a_binding) (many_and_rest a_parameter a_pattern_rest) (one a_function_body) (λ us. DefaultOut (seen (shape.Function true true ds) [] n (all_shown us)))
    (λ t u v bt bu bv et eu ev kt ku kv. inl (
      refl,
      part_of DefaultDeclared (node (shape.Function true true []) [] n (shown t ▸ (shown u ▸ (with_directives ds (shown v) ▸ none)))) (and_three (is_printable (a_perhaps Binding) (shown t)) (is_printable (a_list Parameter Zero) (shown u)) (is_printable (a_part Body) (with_directives ds (shown v)))
          (bt.seat inside binding_or_none false refl et kt) (bu.seat inside parameters false refl eu ku) (bv.body inside ds c.1 ev kv)),
    ))
    ts b e c.2
default_function inside l false ds n ts b e k =
    let c = clean_node l (shape.Function true false ds) [] n ts refl k in
    over_three inside false (one_or_absent a_binding) (many_and_rest a_parameter a_pattern_rest) (one a_function_body) (λ us. DefaultOut (seen (shape.Function true false ds) [] n (all_shown us)))
    (λ t u v bt bu bv et eu ev kt ku kv. inl (
      refl,
      part_of DefaultDeclared (node (shape.Function true false []) [] n (shown t ▸ (shown u ▸ (with_directives ds (shown v) ▸ none)))) (and_three (is_printable (a_perhaps Binding) (shown t)) (is_printable (a_list Parameter Zero) (shown u)) (is_printable (a_part Body) (with_directives ds (shown v)))
          (bt.seat inside binding_or_none false refl et kt) (bu.seat inside parameters false refl eu ku) (bv.body inside ds c.1 ev kv)),
    ))
    ts b e c.2

default_class : (inside : Bool) (n : ℕ) (t u v w : Tree) → fits inside (one_or_absent a_binding) t ≡ true → is_clean false t ≡ true → is_printable (a_perhaps Anything) (shown u) ≡ true → is_printable (a_part ClassBraces) (shown v) ≡ true → fits inside (one_or_absent a_binding) w ≡ true → is_clean false w ≡ true → is_printable (a_perhaps Binding) (shown w) ≡ true → accept.holds_its_name true (t ▸ (u ▸ (v ▸ (w ▸ none)))) ≡ true → stands_at DefaultDeclared (node (shape.Class true) [] n (shown t ▸ (shown u ▸ (shown v ▸ (shown w ▸ none))))) ≡ true
default_class inside n t u v w et kt eu ev ew kw pw z =
    maybe_bound (λ i. accept.holds_its_name true (i ▸ (u ▸ (v ▸ (w ▸ none)))) ≡ true → stands_at DefaultDeclared (node (shape.Class true) [] n (shown i ▸ (shown u ▸ (shown v ▸ (shown w ▸ none))))) ≡ true)
    (λ m y. and_three (is_printable (a_perhaps Anything) (shown u)) (is_printable (a_part ClassBraces) (shown v)) (is_printable (a_silent Nothing) (shown w)) eu ev (absent_shown Binding w y pw))
    (λ x m f y. class_named DefaultDeclared inside n u v w (λ s. (refl, refl)) eu ev x m f ew kw y)
    inside false t et kt z

no_class : (b : Bool) (s : List ℕ) (x : Bool) → (is_wanted Anything (Some (declared_class_of b s)) && x) ≡ true → ⊥
no_class true s x e = false≢true e
no_class false s x e = false≢true e

no_default : (u : Tree) → stands_at Anything u ≡ true → declares_default (shape_of u) ≡ false
no_default (node (shape.Function true true []) [] n us) e = absurd (false≢true e)
no_default (node (shape.Function true false []) [] n us) e = absurd (false≢true e)
no_default (node (shape.Function true g []) (x ∷ xs) n us) e = absurd (false≢true e)
no_default (node (shape.Function true g (d ∷ ds)) xs n us) e = absurd (false≢true e)
no_default (node (shape.Class true) [] n us) e = absurd (no_class (printed.first_is_absent us) (printed.first_spelling us) (printed.fill (wants_of (shape.Class true) (Some (declared_class_of (printed.first_is_absent us) (printed.first_spelling us)))) us) e)
no_default (node (shape.Class true) (x ∷ xs) n us) e = absurd (false≢true e)
no_default (node h xs n us) e = refl

default_row : (strict inside l : Bool) (h : Shape) (xs : List Name) (n : ℕ) (ts : Trees) → Below ts → (has_names h xs && accept.fill inside (filling_by (slots_of strict a_default_export h)) ts) ≡ true → is_clean l (node h xs n ts) ≡ true → accept.has_its_parts a_default_export h ts ≡ true → DefaultOut (seen h xs n (all_shown ts))
default_row strict inside l (shape.Function true g ds) [] n ts b e k v = default_function inside l g ds n ts b e k
default_row strict inside l (shape.Function true g ds) (x ∷ xs) n ts b e k v = absurd (false≢true e)
default_row strict inside l (shape.Class true) [] n ts b e k v =
    over_four inside false (one_or_absent a_binding) (one_or_absent (an_inner an_expression)) (one a_class_body) (one_or_absent a_binding) (λ us. accept.holds_its_name true us ≡ true → DefaultOut (node (shape.Class true) [] n (all_shown us)))
    (λ t u c w bt bu bc bw et eu ec ew kt ku kc kw y. inl (refl, part_of DefaultDeclared (node (shape.Class true) [] n (shown t ▸ (shown u ▸ (shown c ▸ (shown w ▸ none))))) (default_class inside n t u c w et kt (bu.seat inside inner_or_none false refl eu ku) (bc.seat inside class_body false refl ec kc) ew kw (bw.seat inside binding_or_none false refl ew kw) y))) ts b e k v
default_row strict inside l (shape.Class true) (x ∷ xs) n ts b e k v = absurd (false≢true e)
default_row strict inside l h xs n ts b e k v =
    let s = value_row strict inside l h xs n ts b e k v in
    inr (no_default (seen h xs n (all_shown ts)) s, part_of Anything (seen h xs n (all_shown ts)) s)

pub default_at : (strict : Bool) (h : Shape) (xs : List Name) (n : ℕ) (ts : Trees) → Below ts → fits strict (one a_default_export) (node h xs n ts) ≡ true → is_clean false (node h xs n ts) ≡ true → DefaultOut (seen h xs n (all_shown ts))
default_at strict h xs n ts b e k = default_row strict (accept.is_strict_in strict h) false h xs n ts b (filled strict a_default_export h xs n ts e) k (whole_parts strict a_default_export h xs n ts e)

default_stands : (n : ℕ) (u : Tree) → DefaultOut u → stands_at ModuleItem (node shape.ExportDefaultDeclaration [] n (u ▸ none)) ≡ true
default_stands n (node h xs m us) (inl a) = subst (λ z. (is_wanted ModuleItem (Some (default_of z)) && printed.fill (Some (wants (form (default_of z)))) (node h xs m us ▸ none)) ≡ true) (sym a.0) (and_one (is_printable (a_part DefaultDeclared) (node h xs m us)) a.1)
default_stands n (node h xs m us) (inr a) = subst (λ z. (is_wanted ModuleItem (Some (default_of z)) && printed.fill (Some (wants (form (default_of z)))) (node h xs m us ▸ none)) ≡ true) (sym a.0) (and_one (is_printable (a_part Anything) (node h xs m us)) a.1)

-- ---- the table

pub module_stands : (strict inside l : Bool) (h : Shape) (n : ℕ) (ts : Trees) → Below ts → accept.fill inside (filling_by (accept.module_slots h)) ts ≡ true → is_clean l (node h [] n ts) ≡ true → accept.has_its_parts an_expression h ts ≡ true → stands_at ModuleItem (seen h [] n (all_shown ts)) ≡ true
module_stands strict inside l shape.ImportDeclaration n ts b e k v =
    let c = clean_node l shape.ImportDeclaration [] n ts refl k in
    over_two inside false (many an_import) (one a_string) (λ us. has_text shape.ImportDeclaration us ≡ true → stands_at ModuleItem (seen shape.ImportDeclaration [] n (all_shown us)) ≡ true) (λ t u bt bu et eu kt ku w. import_at inside n t u et kt eu w) ts b e c.2 c.1
module_stands strict inside l shape.ExportNamedDeclaration n ts b e k v =
    over_three inside false (one_or_absent an_exported_declaration) (many an_export) (one_or_absent a_string) (λ us. accept.is_whole_export us ≡ true → stands_at ModuleItem (node shape.ExportNamedDeclaration [] n (all_shown us)) ≡ true)
    (λ t u w bt bu bw et eu ew kt ku kw z. export_at inside n t u w (bt.exported inside et kt) eu ku ew (bw.seat inside text_or_none false refl ew kw) z) ts b e k v
module_stands strict inside l shape.ExportDefaultDeclaration n ts b e k v = over_one inside false (one a_default_export) (λ us. stands_at ModuleItem (node shape.ExportDefaultDeclaration [] n (all_shown us)) ≡ true) (λ t bt et kt. default_stands n (shown t) (bt.default_out inside et kt)) ts b e k
module_stands strict inside l shape.ExportAllDeclaration n ts b e k v = parts ts b inside (module_name_or_none ∷ text ∷ []) false refl e k
module_stands strict inside l h n ts b e k v = absurd (false≢true e)

-- Trees that are shown in the order of their text: their tokens are ones that a text has.
use Rattle.std.proofs.Common.{◌∙◌, ap, ◌≡◌, ℕ, Bool, true, false, ◌&&◌, ◌||◌, not, List, [], ◌∷◌, refl, sym}
use Rattle.std.specs.Prelude.{is_some, ◌==◌, Option, Some, None, if◌then◌else◌}
use Rattle.std.proofs.lemmas.Bool.{false≢true}
use Rattle.mini_model.specs.declared.name.Name.{Name}
use Rattle.mini_model.specs.declared.kind.MethodDefinitionKind.{MethodDefinitionKind}
use Rattle.mini_model.specs.declared.shape.Shape.{Shape}
use Rattle.mini_model.specs.declared.shape.Shape.TheVariants as shape
use Rattle.mini_model.specs.Templates.{cooked}
use Rattle.mini_model.specs.Tree.{Tree, Trees, node, none, ◌▸◌, shape_of, absent, listed}
use Rattle.mini_accept.specs.WellShaped as accept
use Rattle.mini_accept.specs.WellShaped.{untagged, tagged, is_same_flag, is_text_of_cooked, is_paired, is_paired_cooked, are_paired, a_string, Class, Slot, Tagging, in_body, a_program, a_statement, a_function_body, an_arrow_body, an_expression, a_chain, a_binding, a_module_name, an_exported_name, an_import, a_string, a_parameter, a_pattern_rest, one, one_or_absent, many, many_or_holes, many_and_rest, many_or_holes_and_rest, quasis, these, each, each_or_last, slots_of, filling_by, is_quasi, are_quasis, max_big_int, fits, is_whole, has_names}
use Rattle.mini_print.specs.Text.{is_raw}
use Rattle.mini_print.specs.Token.{Token}
use Rattle.mini_print.specs.Grammar.{Leading, constructor_shape, first_shape}
use Rattle.mini_print.specs.Unprintable.{are_raw, is_raw_piece, are_directives, is_directive}
use Rattle.mini_print.specs.Printed.{part_at, spelling_of, Style, printers, lay_block, is_gap, is_link, is_optional, has_optional, linked, threaded, pieces, plain_kind, directives, with_directives, behind_default, import_parts, first_raw, seen, shown, all_shown, terminated}
use Rattle.mini_printable.proofs.Clean.{and_l, and_r, both}
use Rattle.mini_printable.proofs.Rows.{never}
use Rattle.mini_printable.proofs.Templates.{quasi_case}
use Rattle.mini_printable.proofs.Pairs.{has_pairs, is_said_raw, name_is_spelled, paired_has_pairs}
use Rattle.mini_printable.proofs.Tokens.{are_sayable, HeadSays, Spoken, AllSpoken, terminated_says}
use Rattle.mini_printable.proofs.Forms.{needs, is_body, head_says}
use Rattle.mini_printable.proofs.Slots.{is_chain_slots}
use Rattle.mini_printable.proofs.Firsts.{source_pairs, names_in, is_bound_word}

-- ---- nodes that are made where a tree is shown

pub absent_spoken : Spoken absent
absent_spoken = (head_says shape.Absent [] none refl refl refl, tt)

pub listed_spoken : (us : Trees) → AllSpoken us → Spoken (listed us)
listed_spoken us s = (head_says shape.Listed [] us refl refl refl, s)

pub gap_spoken : (u : Tree) → is_gap u ≡ true → Spoken u
gap_spoken (node shape.Absent [] n none) e = absent_spoken
gap_spoken (node shape.Absent [] n (t ▸ ts)) e = absurd (false≢true e)
gap_spoken (node shape.Absent (x ∷ xs) n ts) e = absurd (false≢true e)
gap_spoken (node h xs n ts) e = absurd (false≢true e)

pub inner_seen : (xs : List Name) (n : ℕ) (us : Trees) → has_names shape.InnerExpression xs ≡ true → AllSpoken us → Spoken (seen shape.InnerExpression xs n us)
inner_seen xs n (t ▸ none) p s = s.0
inner_seen xs n us p s = (head_says shape.InnerExpression xs us p refl refl, s)

pub method_seen : (k : MethodDefinitionKind) (c : Bool) (xs : List Name) (n : ℕ) (us : Trees) → has_names (shape.MethodDefinition k c true) xs ≡ true → AllSpoken us → Spoken (seen (shape.MethodDefinition k c true) xs n us)
method_seen k c xs n (t ▸ (v ▸ none)) p s =
    let m = plain_kind k (not c && constructor_shape (first_shape (t ▸ none))) in (
      head_says (shape.MethodDefinition k c true) xs (node (shape.MethodDefinition m c false) [] 0 (t ▸ (v ▸ none)) ▸ none) p refl refl,
      ((head_says (shape.MethodDefinition m c false) [] (t ▸ (v ▸ none)) refl refl refl, s), tt),
    )
method_seen k c xs n us p s = (head_says (shape.MethodDefinition k c true) xs us p refl refl, s)

pub field_seen : (c : Bool) (xs : List Name) (n : ℕ) (us : Trees) → has_names (shape.PropertyDefinition c true) xs ≡ true → AllSpoken us → Spoken (seen (shape.PropertyDefinition c true) xs n us)
field_seen c xs n (t ▸ (v ▸ none)) p s = (
  head_says (shape.PropertyDefinition c true) xs (node (shape.PropertyDefinition c false) [] 0 (t ▸ (v ▸ none)) ▸ none) p refl refl,
  ((head_says (shape.PropertyDefinition c false) [] (t ▸ (v ▸ none)) refl refl refl, s), tt),
)
field_seen c xs n us p s = (head_says (shape.PropertyDefinition c true) xs us p refl refl, s)

-- ---- chains

optional_link : (h : Shape) (b : Bool) → (is_optional h || (is_link h && b)) ≡ true → is_link h ≡ true
optional_link (shape.CallExpression o) b e = refl
optional_link (shape.StaticMemberExpression o) b e = refl
optional_link (shape.ComputedMemberExpression o) b e = refl
optional_link (shape.PrivateFieldExpression o) b e = refl
optional_link h b e = absurd (false≢true e)

optional_is_link : (t : Tree) → has_optional t ≡ true → is_link (shape_of t) ≡ true
optional_is_link (node h xs n none) e = absurd (false≢true e)
optional_is_link (node h xs n (t ▸ ts)) e = optional_link h (has_optional t) e

link_head : (h : Shape) (xs : List Name) (us vs : Trees) → is_link h ≡ true → HeadSays h xs us → HeadSays h xs vs
link_head (shape.CallExpression true) [] us vs p f = f
link_head (shape.CallExpression true) (x ∷ xs) us vs p f = f
link_head (shape.CallExpression false) [] us vs p f = f
link_head (shape.CallExpression false) (x ∷ xs) us vs p f = f
link_head (shape.StaticMemberExpression true) [] us vs p f = f
link_head (shape.StaticMemberExpression true) (x ∷ xs) us vs p f = f
link_head (shape.StaticMemberExpression false) [] us vs p f = f
link_head (shape.StaticMemberExpression false) (x ∷ xs) us vs p f = f
link_head (shape.ComputedMemberExpression true) [] us vs p f = f
link_head (shape.ComputedMemberExpression true) (x ∷ xs) us vs p f = f
link_head (shape.ComputedMemberExpression false) [] us vs p f = f
link_head (shape.ComputedMemberExpression false) (x ∷ xs) us vs p f = f
link_head (shape.PrivateFieldExpression true) [] us vs p f = f
link_head (shape.PrivateFieldExpression true) (x ∷ xs) us vs p f = f
link_head (shape.PrivateFieldExpression false) [] us vs p f = f
link_head (shape.PrivateFieldExpression false) (x ∷ xs) us vs p f = f
link_head h xs us vs p f = absurd (false≢true p)

linked_step : (h : Shape) (xs : List Name) (n : ℕ) (t : Tree) (ts ls : Trees) → ((ms : Trees) → is_link (shape_of t) ≡ true → AllSpoken ms → AllSpoken (linked t ms)) → is_link h ≡ true → Spoken (node h xs n (t ▸ ts)) → AllSpoken ls → AllSpoken (linked (node h xs n (t ▸ ts)) ls)
linked_step h xs n t ts ls f p s q = by (has_optional t) refl
  where
    link : Spoken (node h xs n (absent ▸ ts))
    link = (link_head h xs (t ▸ ts) (absent ▸ ts) p s.0, (absent_spoken, s.1.1))

    by : (b : Bool) → has_optional t ≡ b → AllSpoken (if b then linked t (node h xs n (absent ▸ ts) ▸ ls) else t ▸ (node h xs n (absent ▸ ts) ▸ (listed ls ▸ none)))
    by true o = f (node h xs n (absent ▸ ts) ▸ ls) (optional_is_link t o) (link, q)
    by false o = (s.1.0, (link, (listed_spoken ls q, tt)))

linked_spoken : (t : Tree) (ls : Trees) → is_link (shape_of t) ≡ true → Spoken t → AllSpoken ls → AllSpoken (linked t ls)
linked_spoken (node h xs n none) ls p s q = (s, q)
linked_spoken (node h xs n (t ▸ ts)) ls p s q = linked_step h xs n t ts ls (λ ms o r. linked_spoken t ms o s.1.0 r) p s q

chain_is_link : (strict : Bool) (t : Tree) → fits strict (one a_chain) t ≡ true → is_link (shape_of (shown t)) ≡ true
chain_is_link strict (node (shape.CallExpression b) xs n ts) e = refl
chain_is_link strict (node (shape.StaticMemberExpression b) xs n ts) e = refl
chain_is_link strict (node (shape.ComputedMemberExpression b) xs n ts) e = refl
chain_is_link strict (node (shape.PrivateFieldExpression b) xs n ts) e = refl
chain_is_link strict (node h xs n ts) e = absurd (never (is_whole a_chain h xs n ts) e)

pub chain_seen : (inside : Bool) (xs : List Name) (n : ℕ) (o : Option (List Slot)) (ts : Trees) → is_chain_slots o ≡ true → accept.fill inside (filling_by o) ts ≡ true → has_names shape.ChainExpression xs ≡ true → AllSpoken (all_shown ts) → Spoken (seen shape.ChainExpression xs n (all_shown ts))
chain_seen inside xs n (Some (one a_chain ∷ [])) (t ▸ none) d e p s = (head_says shape.ChainExpression xs (linked (shown t) none) p refl refl, linked_spoken (shown t) none (chain_is_link inside t (and_l (fits inside (one a_chain) t) true e)) s.0 tt)
chain_seen inside xs n (Some (one a_chain ∷ [])) (t ▸ (u ▸ ts)) d e p s = absurd (never (fits inside (one a_chain) t) e)
chain_seen inside xs n (Some (one a_chain ∷ [])) none d e p s = absurd (false≢true e)
chain_seen inside xs n None ts d e p s = absurd (false≢true e)
chain_seen inside xs n o ts d e p s = absurd (false≢true d)

-- ---- templates

abbrev pub is_said_piece : Tree → Bool
is_said_piece (node (shape.TemplateElement b s c) xs n us) = is_said_raw s
is_said_piece _ = true

abbrev pub are_said : Trees → Bool
are_said none = true
are_said (t ▸ ts) = is_said_piece t && are_said ts

paired_of : (a : Bool) (n : ℕ) (b : Bool) (s : List ℕ) (c : Option (List ℕ)) → (a && ((n == 0) && accept.has_plain_fields (shape.TemplateElement b s c))) ≡ true → is_paired s ≡ true
paired_of a n b s c e = and_l (is_paired s) (is_text_of_cooked c (cooked s) && is_paired_cooked c) (and_r (n == 0) (accept.has_plain_fields (shape.TemplateElement b s c)) (and_r a ((n == 0) && accept.has_plain_fields (shape.TemplateElement b s c)) e))

quasi_said : (g : Tagging) (last : Bool) (t : Tree) → is_quasi g last t ≡ true → is_raw_piece t ≡ true → is_said_piece t ≡ true
quasi_said untagged last (node (shape.TemplateElement b s c) [] n none) e r = both (is_raw false s) (has_pairs false s) r (paired_has_pairs s (paired_of (is_same_flag b last && is_some c) n b s c e))
quasi_said tagged last (node (shape.TemplateElement b s c) [] n none) e r = both (is_raw false s) (has_pairs false s) r (paired_has_pairs s (paired_of (is_same_flag b last) n b s c e))
quasi_said g last (node (shape.TemplateElement b s c) [] n (t ▸ ts)) e r = absurd (false≢true e)
quasi_said g last (node (shape.TemplateElement b s c) (x ∷ xs) n ts) e r = absurd (false≢true e)
quasi_said g last (node h xs n ts) e r = refl

are_said_quasis : (g : Tagging) (qs : Trees) → are_quasis g qs ≡ true → are_raw qs ≡ true → are_said qs ≡ true
are_said_quasis g none e r = refl
are_said_quasis g (q ▸ none) e r = both (is_said_piece q) true (quasi_said g true q e (and_l (is_raw_piece q) true r)) refl
are_said_quasis g (q ▸ (p ▸ ps)) e r =
    both (is_said_piece q) (are_said (p ▸ ps)) (quasi_said g false q (and_l (is_quasi g false q) (are_quasis g (p ▸ ps)) e) (and_l (is_raw_piece q) (are_raw (p ▸ ps)) r))
    (are_said_quasis g (p ▸ ps) (and_r (is_quasi g false q) (are_quasis g (p ▸ ps)) e) (and_r (is_raw_piece q) (are_raw (p ▸ ps)) r))

piece_spoken : (b : Bool) (raw : List ℕ) (c : Option (List ℕ)) (n : ℕ) (us : Trees) → is_said_raw raw ≡ true → AllSpoken us → Spoken (node (shape.TemplateElement b raw c) [] n us)
piece_spoken b raw c n us r s = (head_says (shape.TemplateElement b raw c) [] us refl r refl, s)

threads_spoken : (g : Tagging) (qs us : Trees) → are_quasis g qs ≡ true → are_said qs ≡ true → AllSpoken us → Spoken (threaded (all_shown qs) us)
threads_spoken g none us e r s = absurd (false≢true e)
threads_spoken g (q ▸ none) none e r s = quasi_case (λ t. is_said_piece t ≡ true → Spoken (threaded (shown t ▸ none) none)) g true q e (λ raw c n f d. piece_spoken true raw c n none d tt) (and_l (is_said_piece q) true r)
threads_spoken g (q ▸ none) (u ▸ us) e r s = quasi_case (λ t. is_said_piece t ≡ true → Spoken (threaded (shown t ▸ none) (u ▸ us))) g true q e (λ raw c n f d. piece_spoken true raw c n (u ▸ (absent ▸ none)) d (s.0, (absent_spoken, tt))) (and_l (is_said_piece q) true r)
threads_spoken g (q ▸ (p ▸ ps)) none e r s = quasi_case (λ t. is_said_piece t ≡ true → Spoken (threaded (shown t ▸ all_shown (p ▸ ps)) none)) g false q (and_l (is_quasi g false q) (are_quasis g (p ▸ ps)) e) (λ raw c n f d. absent_spoken) (and_l (is_said_piece q) (are_said (p ▸ ps)) r)
threads_spoken g (q ▸ (p ▸ ps)) (u ▸ us) e r s =
    let rest = threads_spoken g (p ▸ ps) us (and_r (is_quasi g false q) (are_quasis g (p ▸ ps)) e) (and_r (is_said_piece q) (are_said (p ▸ ps)) r) s.1 in
    quasi_case (λ t. is_said_piece t ≡ true → Spoken (threaded (shown t ▸ all_shown (p ▸ ps)) (u ▸ us))) g false q (and_l (is_quasi g false q) (are_quasis g (p ▸ ps)) e)
    (λ raw c n f d. piece_spoken false raw c n (u ▸ (threaded (all_shown (p ▸ ps)) us ▸ none)) d (s.0, (rest, tt))) (and_l (is_said_piece q) (are_said (p ▸ ps)) r)

abbrev pub Pieced : Trees → Type 0
Pieced us = AllSpoken us × (is_said_raw (first_raw us) ≡ true)

pieces_said : (g : Tagging) (qs us : Trees) → are_quasis g qs ≡ true → are_said qs ≡ true → AllSpoken us → Pieced (pieces (all_shown qs) us)
pieces_said g none us e r s = absurd (false≢true e)
pieces_said g (q ▸ none) none e r s = quasi_case (λ t. is_said_piece t ≡ true → Pieced (pieces (shown t ▸ none) none)) g true q e (λ raw c n f d. ((piece_spoken true raw c n none d tt, tt), d)) (and_l (is_said_piece q) true r)
pieces_said g (q ▸ none) (u ▸ us) e r s = quasi_case (λ t. is_said_piece t ≡ true → Pieced (pieces (shown t ▸ none) (u ▸ us))) g true q e (λ raw c n f d. ((piece_spoken true raw c n none d tt, (s.0, (absent_spoken, tt))), d)) (and_l (is_said_piece q) true r)
pieces_said g (q ▸ (p ▸ ps)) none e r s = ((absent_spoken, tt), refl)
pieces_said g (q ▸ (p ▸ ps)) (u ▸ us) e r s =
    let rest = threads_spoken g (p ▸ ps) us (and_r (is_quasi g false q) (are_quasis g (p ▸ ps)) e) (and_r (is_said_piece q) (are_said (p ▸ ps)) r) s.1 in
    quasi_case (λ t. is_said_piece t ≡ true → Pieced (pieces (shown t ▸ all_shown (p ▸ ps)) (u ▸ us))) g false q (and_l (is_quasi g false q) (are_quasis g (p ▸ ps)) e)
    (λ raw c n f d. ((piece_spoken false raw c n none d tt, (s.0, (rest, tt))), d)) (and_l (is_said_piece q) (are_said (p ▸ ps)) r)

pub pieces_spoken : (g : Tagging) (qs us : Trees) → are_quasis g qs ≡ true → are_raw qs ≡ true → AllSpoken us → Pieced (pieces (all_shown qs) us)
pieces_spoken g qs us e r s = pieces_said g qs us e (are_said_quasis g qs e r) s

-- ---- directives

abbrev pub is_said_directive : List ℕ → Bool
is_said_directive s = is_directive s && has_pairs false s

abbrev pub are_said_directives : List (List ℕ) → Bool
are_said_directives [] = true
are_said_directives (s ∷ ss) = is_said_directive s && are_said_directives ss

pub said_directives : (ds : List (List ℕ)) → are_directives ds ≡ true → are_paired ds ≡ true → are_said_directives ds ≡ true
said_directives [] e p = refl
said_directives (s ∷ ss) e p = both (is_said_directive s) (are_said_directives ss) (both (is_directive s) (has_pairs false s) (and_l (is_directive s) (are_directives ss) e) (paired_has_pairs s (and_l (is_paired s) (are_paired ss) p))) (said_directives ss (and_r (is_directive s) (are_directives ss) e) (and_r (is_paired s) (are_paired ss) p))

directives_spoken : (ds : List (List ℕ)) → are_said_directives ds ≡ true → AllSpoken (directives ds)
directives_spoken [] e = tt
directives_spoken (s ∷ ss) e = ((head_says (shape.StringLiteral s) [] none refl (and_r (is_directive s) (has_pairs false s) (and_l (is_said_directive s) (are_said_directives ss) e)) refl, tt), directives_spoken ss (and_r (is_said_directive s) (are_said_directives ss) e))

pub directives_say : (style : Style) (ds : List (List ℕ)) (r : List Token) → are_said_directives ds ≡ true → are_sayable r ≡ true → are_sayable (lay_block Leading (printers style (directives ds)) r) ≡ true
directives_say style [] r e d = d
directives_say style (s ∷ ss) r e d =
    let rest = lay_block Leading (printers style (directives ss)) r in
    both (is_said_directive s) (are_sayable (terminated style rest)) (and_l (is_said_directive s) (are_said_directives ss) e)
    (terminated_says style rest (directives_say style ss r (and_r (is_said_directive s) (are_said_directives ss) e) d))

pub body_seen : (ds : List (List ℕ)) (n : ℕ) (l : Tree) → are_said_directives ds ≡ true → Spoken l → Spoken (with_directives ds (node shape.FunctionBody [] n (l ▸ none)))
body_seen ds n l e s = ((λ style r d. directives_say style ds r e d), (listed_spoken (directives ds) (directives_spoken ds e), (s, tt)))

pub other_directives : (ds : List (List ℕ)) (u : Tree) → is_body (shape_of u) ≡ false → Spoken u → Spoken (with_directives ds u)
other_directives ds (node shape.FunctionBody xs n ts) p s = absurd (false≢true (sym p))
other_directives [] (node h xs n ts) p s = s
other_directives (d ∷ ds) (node h xs n ts) p s = absent_spoken

-- ---- imports

behind_spoken : (us : Trees) (t : Tree) → AllSpoken us → Spoken t → AllSpoken (behind_default us t)
behind_spoken (node shape.ImportNamespaceSpecifier [] n (node shape.BindingIdentifier xs k vs ▸ none) ▸ none) t s q = (s.0.1.0, (listed_spoken none tt, (q, tt)))
behind_spoken us t s q = (absent_spoken, (listed_spoken us s, (q, tt)))

pub import_parts_spoken : (us : Trees) (t : Tree) → AllSpoken us → Spoken t → AllSpoken (import_parts us t)
import_parts_spoken (node shape.ImportDefaultSpecifier [] n (node shape.BindingIdentifier xs k vs ▸ none) ▸ us) t s q = (s.0.1.0, behind_spoken us t s.1 q)
import_parts_spoken us t s q = (absent_spoken, behind_spoken us t s q)

default_word : (inside : Bool) (n : ℕ) (ts us : Trees) (t : Tree) → accept.fill inside (these (one a_binding ∷ [])) ts ≡ true → is_bound_word (import_parts (node shape.ImportDefaultSpecifier [] n (all_shown ts) ▸ us) t) ≡ true
default_word inside n none us t e = absurd (false≢true e)
default_word inside n (b ▸ (c ▸ ts)) us t e = absurd (never (fits inside (one a_binding) b) e)
default_word inside n (node shape.BindingIdentifier (x ∷ []) m bs ▸ none) us t e = name_is_spelled x.spelling (names_in a_binding shape.BindingIdentifier (x ∷ []) m bs (accept.fill inside (these []) bs) (and_l (fits inside (one a_binding) (node shape.BindingIdentifier (x ∷ []) m bs)) true e))
default_word inside n (node shape.BindingIdentifier [] m bs ▸ none) us t e = absurd (false≢true e)
default_word inside n (node shape.BindingIdentifier (x ∷ (y ∷ xs)) m bs ▸ none) us t e = absurd (false≢true e)
default_word inside n (node h xs m bs ▸ none) us t e = absurd (never (is_whole a_binding h xs m bs) (and_l (is_whole a_binding h xs m bs && false) true e))

pub import_word : (inside : Bool) (ss : Trees) (t : Tree) → accept.fill inside (each (one an_import)) ss ≡ true → is_bound_word (import_parts (all_shown ss) t) ≡ true
import_word inside none t e = refl
import_word inside (node shape.ImportDefaultSpecifier [] n ts ▸ ss) t e = default_word inside n ts (all_shown ss) t (and_r (is_whole an_import shape.ImportDefaultSpecifier [] n ts) (accept.fill inside (these (one a_binding ∷ [])) ts) (and_l (fits inside (one an_import) (node shape.ImportDefaultSpecifier [] n ts)) (accept.fill inside (each (one an_import)) ss) e))
import_word inside (node shape.ImportDefaultSpecifier (x ∷ xs) n ts ▸ ss) t e = refl
import_word inside (node shape.ImportSpecifier xs n ts ▸ ss) t e = refl
import_word inside (node shape.ImportNamespaceSpecifier xs n ts ▸ ss) t e = refl
import_word inside (node h xs n ts ▸ ss) t e = absurd (never (is_whole an_import h xs n ts) (and_l (is_whole an_import h xs n ts && false) (accept.fill inside (each (one an_import)) ss) e))

-- the text of the module is the last part
fourth_behind : (us : Trees) (t b : Tree) → part_at 3 (b ▸ behind_default us t) ≡ t
fourth_behind (node shape.ImportNamespaceSpecifier [] n (node shape.BindingIdentifier xs k vs ▸ none) ▸ none) t b = refl
fourth_behind us t b = refl

fourth_part : (us : Trees) (t : Tree) → part_at 3 (import_parts us t) ≡ t
fourth_part (node shape.ImportDefaultSpecifier [] n (node shape.BindingIdentifier xs k vs ▸ none) ▸ us) t = fourth_behind us t (node shape.BindingIdentifier xs k vs)
fourth_part us t = fourth_behind us t absent

pub import_needs : (inside : Bool) (ss : Trees) (u : Tree) → accept.fill inside (each (one an_import)) ss ≡ true → fits inside (one a_string) u ≡ true → needs shape.ImportDeclaration (import_parts (all_shown ss) (shown u)) ≡ true
import_needs inside ss u e f = both (is_bound_word (import_parts (all_shown ss) (shown u))) (has_pairs false (spelling_of (part_at 3 (import_parts (all_shown ss) (shown u))))) (import_word inside ss (shown u) e) (ap (λ t. has_pairs false (spelling_of t)) (fourth_part (all_shown ss) (shown u)) ∙ source_pairs inside u f)

-- What fills a slot of ESTree and has no fault is printed by tokens that a text has.
use Rattle.std.proofs.Common.{◌≡◌, ℕ, suc, ◌^◌, ◌≤◌, Bool, true, false, ◌&&◌, ◌||◌, List, [], ◌∷◌, refl, sym, arith}
use Rattle.std.specs.Prelude.{Option, Some, None, nat_lt, nat_le, pos, negsuc, if◌then◌else◌}
use Rattle.std.proofs.lemmas.Bool.{false≢true, leb-true, le-leb}
use Rattle.std.specs.Char.Utf16.{has_unpaired_surrogate}
use Rattle.mini_model.specs.declared.name.Name.{Name}
use Rattle.mini_model.specs.declared.kind.PropertyKind.TheVariants as kind
use Rattle.mini_model.specs.declared.shape.Shape.{Shape}
use Rattle.mini_model.specs.declared.shape.Shape.TheVariants as shape
use Rattle.mini_model.specs.Numerals.{max_safe_integer}
use Rattle.mini_model.specs.Paths.{standing, Node}
use Rattle.mini_model.specs.Tree.{Tree, Trees, node, none, ◌▸◌, shape_of}
use Rattle.mini_accept.specs.WellShaped as accept
use Rattle.mini_accept.specs.WellShaped.{Class, Slot, in_body, in_module, a_program, a_statement, a_method, a_function_body, an_arrow_body, an_expression, a_module_name, an_exported_name, an_import, a_string, a_binding, a_parameter, a_pattern_rest, one, one_or_absent, many, many_or_holes, many_and_rest, many_or_holes_and_rest, quasis, these, each, each_or_last, pieces as pieces', slots_of, filling_by, max_big_int, fits, is_whole, has_names}
use Rattle.mini_print.specs.Text.{EachLexical, is_pattern, are_letters, text_of}
use Rattle.mini_print.specs.Compact.{compact_text_of}
use Rattle.mini_print.specs.Grammar.{Leading}
use Rattle.mini_print.specs.Groups.{items_goal}
use Rattle.mini_print.specs.Unprintable.{first_fault, has_text, has_label, are_raw}
use Rattle.mini_print.specs.Printed.{Style, printers, lay_block, undirected, pieces, import_parts, printed_items, styled_program, with_directives, directives, seen, shown, all_shown}
use Rattle.mini_printable.proofs.Clean.{both, and_l, and_r, is_clean, are_clean, clean_node, program_clean}
use Rattle.mini_printable.proofs.Rows.{never, either, present, many_case, holes_case, rest_case, holes_rest_case}
use Rattle.mini_printable.proofs.Seats.{by_either}
use Rattle.mini_printable.proofs.Templates.{all_quasis}
use Rattle.mini_printable.proofs.Pairs.{text_whole, compact_whole, has_pairs, name_is_spelled, paired_has_pairs}
use Rattle.mini_printable.proofs.Tokens.{each_whole, are_sayable, each_lexical, leads, Spoken, AllSpoken, trees_say, block_says, undirected_says}
use Rattle.mini_printable.proofs.Forms.{needs, is_body, head_says}
use Rattle.mini_printable.proofs.Slots.{is_fair, holds, is_fair_slot, all_fair, are_fair, fair_holds, is_apart, slots_fair, fair_is_no_body, no_piece, no_absent, chain_slots, is_template_slots, template_slots, is_function_slots, function_slots_of, is_arrow_slots, arrow_slots, is_import_slots, import_slots, is_export_slots, export_slots, is_specifier_slots, specifier_slots, two_parts, three_parts}
use Rattle.mini_printable.proofs.Firsts.{at_first, is_name_slot, is_key_slot, is_binding_slot, label_first, private_first, target_first, bound_first, property_first, class_first, fields_of, names_in, name_spelled, key_spelled, binding_spelled, import_item, export_item}
use Rattle.mini_printable.proofs.Arranged.{gap_spoken, inner_seen, method_seen, field_seen, chain_seen, pieces_spoken, directives_say, body_seen, other_directives, import_parts_spoken, import_needs, are_said_directives, said_directives}

-- ---- what a node's own texts, numbers and first part have to be

safe_number : (n : ℕ) → nat_le n max_safe_integer ≡ true → nat_lt n (2 ^ 64) ≡ true
safe_number n e = le-leb (suc n) (2 ^ 64) (small (leb-true n max_safe_integer e))
  where
    small : n ≤ 9007199254740991 → suc n ≤ 18446744073709551616
    small h = omega (arith, h)

big_number : (n : ℕ) → nat_le n max_big_int ≡ true → nat_lt n (2 ^ 128) ≡ true
big_number n e = le-leb (suc n) (2 ^ 128) (small (leb-true n max_big_int e))
  where
    small : n ≤ 340282366920938463463374607431768211455 → suc n ≤ 340282366920938463463374607431768211456
    small h = omega (arith, h)

-- shapes of which more than that is known, or less
abbrev is_moved : Shape → Bool
is_moved shape.TemplateLiteral = true
is_moved shape.ImportDeclaration = true
is_moved shape.ExportSpecifier = true
is_moved _ = false

specified : (inside : Bool) (o : Option (List Slot)) (ts : Trees) → is_specifier_slots o ≡ true → accept.fill inside (filling_by o) ts ≡ true → needs shape.ImportSpecifier (all_shown ts) ≡ true
specified inside None ts d e = absurd (false≢true e)
specified inside (Some (one a_module_name ∷ one a_binding ∷ [])) ts d e = two_parts inside (one a_module_name) (one a_binding) (λ us. needs shape.ImportSpecifier (all_shown us) ≡ true) ts (λ t u f g. import_item inside t u f g) e
specified inside o ts d e = absurd (false≢true d)

property_repeats : (c : Class) (ts : Trees) → accept.has_its_parts c (shape.ObjectProperty kind.Init false true false) ts ≡ true → accept.repeats_key ts ≡ true
property_repeats a_method ts v = v
property_repeats c ts v = v

bound_repeats : (c : Class) (ts : Trees) → accept.has_its_parts c (shape.BindingProperty true false) ts ≡ true → accept.repeats_key ts ≡ true
bound_repeats a_method ts v = v
bound_repeats c ts v = v

needed : (strict inside : Bool) (c : Class) (h : Shape) (ts : Trees) → accept.has_plain_fields h ≡ true → has_text h ts ≡ true → accept.has_its_parts c h ts ≡ true → is_moved h ≡ false → accept.fill inside (filling_by (slots_of strict c h)) ts ≡ true → needs h (all_shown ts) ≡ true
needed strict inside c (shape.IdentifierName s) ts f w v m e = name_is_spelled s f
needed strict inside c (shape.PrivateIdentifier s) ts f w v m e = name_is_spelled s f
needed strict inside c (shape.NumericLiteral (pos n)) ts f w v m e = safe_number n f
needed strict inside c (shape.NumericLiteral (negsuc n)) ts f w v m e = safe_number (suc n) f
needed strict inside c (shape.BigIntLiteral n) ts f w v m e = big_number n f
needed strict inside c (shape.StringLiteral s) ts f w v m e = paired_has_pairs s f
needed strict inside c (shape.RegExpLiteral p g) ts f w v m e = both (is_pattern p && are_letters g) (are_letters g && has_pairs false p) w (both (are_letters g) (has_pairs false p) (and_r (is_pattern p) (are_letters g) w) (paired_has_pairs p (and_l (accept.is_paired p) (accept.is_paired g) f)))
needed strict inside c (shape.TemplateElement b s k) ts f w v m e = absurd (no_piece strict inside c b s k ts e)
needed strict inside c shape.TemplateLiteral ts f w v m e = absurd (false≢true (sym m))
needed strict inside c shape.ImportDeclaration ts f w v m e = absurd (false≢true (sym m))
needed strict inside c shape.ExportSpecifier ts f w v m e = absurd (false≢true (sym m))
needed strict inside c shape.LabeledStatement ts f w v m e = at_first inside is_name_slot (slots_of strict c shape.LabeledStatement) (λ us. needs shape.LabeledStatement (all_shown us) ≡ true) ts (label_first strict c) e (λ s t us d g. name_spelled inside s t (all_shown us) d g)
needed strict inside c shape.PrivateInExpression ts f w v m e = at_first inside is_name_slot (slots_of strict c shape.PrivateInExpression) (λ us. needs shape.PrivateInExpression (all_shown us) ≡ true) ts (private_first strict c) e (λ s t us d g. name_spelled inside s t (all_shown us) d g)
needed strict inside c shape.AssignmentTargetPropertyIdentifier ts f w v m e = at_first inside is_name_slot (slots_of strict c shape.AssignmentTargetPropertyIdentifier) (λ us. needs shape.AssignmentTargetPropertyIdentifier (all_shown us) ≡ true) ts (target_first strict c) e (λ s t us d g. name_spelled inside s t (all_shown us) d g)
needed strict inside c (shape.BindingProperty true false) ts f w v m e = at_first inside is_key_slot (slots_of strict c (shape.BindingProperty true false)) (λ us. accept.repeats_key us ≡ true → needs (shape.BindingProperty true false) (all_shown us) ≡ true) ts (bound_first strict c) e (λ s t us d g r. key_spelled inside s t (all_shown us) us d g r) (bound_repeats c ts v)
needed strict inside c (shape.ObjectProperty kind.Init false true false) ts f w v m e = at_first inside is_key_slot (slots_of strict c (shape.ObjectProperty kind.Init false true false)) (λ us. accept.repeats_key us ≡ true → needs (shape.ObjectProperty kind.Init false true false) (all_shown us) ≡ true) ts (property_first strict c) e (λ s t us d g r. key_spelled inside s t (all_shown us) us d g r) (property_repeats c ts v)
needed strict inside c (shape.Class b) ts f w v m e = at_first inside is_binding_slot (slots_of strict c (shape.Class b)) (λ us. needs (shape.Class b) (all_shown us) ≡ true) ts (class_first strict c b) e (λ s t us d g. binding_spelled inside s t (all_shown us) d g)
needed strict inside c shape.ImportSpecifier ts f w v m e = specified inside (slots_of strict c shape.ImportSpecifier) ts (specifier_slots strict c) e
needed strict inside c h ts f w v m e = refl

-- ---- what is known of a tree in each slot

abbrev is_body_class : Class → Bool
is_body_class a_function_body = true
is_body_class an_arrow_body = true
is_body_class _ = false

record Voiced (t : Tree) : Type 0 where
  pub plain : (strict l : Bool) (s : Slot) → is_fair_slot s ≡ true → fits strict s t ≡ true → is_clean l t ≡ true → Spoken (shown t)
  -- the body of a function, with the function's directives
  pub body : (strict : Bool) (c : Class) (ds : List (List ℕ)) → are_said_directives ds ≡ true → is_body_class c ≡ true → fits strict (one c) t ≡ true → is_clean false t ≡ true → Spoken (with_directives ds (shown t))

abbrev AllVoiced : Trees → Type 0
AllVoiced none = Unit {0}
AllVoiced (t ▸ ts) = Voiced t × AllVoiced ts

fair_parts : (ts : Trees) → AllVoiced ts → (strict l : Bool) (ss : List Slot) → all_fair ss ≡ true → accept.fill strict (these ss) ts ≡ true → are_clean l ts ≡ true → AllSpoken (all_shown ts)
fair_parts none b strict l ss p e k = tt
fair_parts (t ▸ ts) b strict l [] p e k = absurd (false≢true e)
fair_parts (t ▸ ts) b strict l (s ∷ ss) p e k = (
  b.0.plain strict l s (and_l (is_fair_slot s) (all_fair ss) p) (and_l (fits strict s t) (accept.fill strict (these ss) ts) e) (and_l (is_clean l t) (are_clean l ts) k),
  fair_parts ts b.1 strict l ss (and_r (is_fair_slot s) (all_fair ss) p) (and_r (fits strict s t) (accept.fill strict (these ss) ts) e) (and_r (is_clean l t) (are_clean l ts) k),
)

fair_slots : (ts : Trees) → AllVoiced ts → (strict l : Bool) (o : Option (List Slot)) → are_fair o ≡ true → accept.fill strict (filling_by o) ts ≡ true → are_clean l ts ≡ true → AllSpoken (all_shown ts)
fair_slots ts b strict l None p e k = absurd (false≢true e)
fair_slots ts b strict l (Some ss) p e k = fair_parts ts b strict l ss p e k

fair_items : (ts : Trees) → AllVoiced ts → (strict : Bool) (s : Slot) → is_fair_slot s ≡ true → accept.fill strict (each s) ts ≡ true → are_clean false ts ≡ true → AllSpoken (all_shown ts)
fair_items none b strict s p e k = tt
fair_items (t ▸ ts) b strict s p e k = (
  b.0.plain strict false s p (and_l (fits strict s t) (accept.fill strict (each s) ts) e) (and_l (is_clean false t) (are_clean false ts) k),
  fair_items ts b.1 strict s p (and_r (fits strict s t) (accept.fill strict (each s) ts) e) (and_r (is_clean false t) (are_clean false ts) k),
)

fair_items_or_last : (ts : Trees) → AllVoiced ts → (strict : Bool) (s r : Slot) → is_fair_slot s ≡ true → is_fair_slot r ≡ true → accept.fill strict (each_or_last s r) ts ≡ true → are_clean false ts ≡ true → AllSpoken (all_shown ts)
fair_items_or_last none b strict s r p q e k = tt
fair_items_or_last (t ▸ ts) b strict s r p q e k =
    let c = and_l (is_clean false t) (are_clean false ts) k in (
      by_either (fits strict s t) (accept.is_last ts) (fits strict r t) (Spoken (shown t)) (λ d. b.0.plain strict false s p d c) (λ d. b.0.plain strict false r q d c) (and_l (fits strict s t || (accept.is_last ts && fits strict r t)) (accept.fill strict (each_or_last s r) ts) e),
      fair_items_or_last ts b.1 strict s r p q (and_r (fits strict s t || (accept.is_last ts && fits strict r t)) (accept.fill strict (each_or_last s r) ts) e) (and_r (is_clean false t) (are_clean false ts) k),
    )

-- ---- nodes

-- a node that is shown as it is
as_it_is : (c : Class) (strict l : Bool) (h : Shape) (xs : List Name) (n : ℕ) (ts : Trees) → AllVoiced ts → holds c ≡ true → is_body h ≡ false → is_moved h ≡ false → is_apart h ≡ false → standing h ≡ Node → fits strict (one c) (node h xs n ts) ≡ true → is_clean l (node h xs n ts) ≡ true → Spoken (node h xs n (all_shown ts))
as_it_is c strict l h xs n ts b p d m a st e k =
    let inside = accept.is_strict_in strict h in
    let filled = and_r (is_whole c h xs n ts) (accept.fill inside (filling_by (slots_of strict c h)) ts) e in
    let clean = clean_node l h xs n ts st k in
    let w = accept.fill inside (filling_by (slots_of strict c h)) ts in (
      head_says h xs (all_shown ts) (names_in c h xs n ts w e) (needed strict inside c h ts (fields_of c h xs n ts w e) clean.1 (parts_in c h xs n ts w e) m filled) d,
      fair_slots ts b inside (has_label h) (slots_of strict c h) (slots_fair strict c h p a) filled clean.2,
    )
  where
    parts_in : (c : Class) (h : Shape) (xs : List Name) (n : ℕ) (ts : Trees) (z : Bool) → (is_whole c h xs n ts && z) ≡ true → accept.has_its_parts c h ts ≡ true
    parts_in c h xs n ts z e = and_r (accept.has_plain_fields h) (accept.has_its_parts c h ts) (and_r (accept.has_its_number c h n) (accept.has_plain_fields h && accept.has_its_parts c h ts) (and_r (has_names h xs) (accept.has_its_number c h n && (accept.has_plain_fields h && accept.has_its_parts c h ts)) (and_l (is_whole c h xs n ts) z e)))

-- templates
quasis_listed : (inside : Bool) (q : Tree) (g : accept.Tagging) (P : Tree → Type 0) → fits inside (quasis g) q ≡ true → ((m : ℕ) (qs : Trees) → accept.are_quasis g qs ≡ true → P (node shape.Listed [] m qs)) → P q
quasis_listed inside (node shape.Listed [] m qs) g P e f = f m qs (all_quasis inside g qs (and_r (is_whole an_expression shape.Listed [] m qs) (accept.fill inside (pieces' g) qs) e))
quasis_listed inside (node shape.Listed (x ∷ xs) m qs) g P e f = absurd (false≢true e)
quasis_listed inside (node h xs m qs) g P e f = absurd (never (is_whole an_expression h xs m qs) e)

many_listed : (inside : Bool) (c : Class) (t : Tree) (P : Tree → Type 0) → fits inside (many c) t ≡ true → ((m : ℕ) (ts : Trees) → P (node shape.Listed [] m ts)) → P t
many_listed inside c (node shape.Listed [] m ts) P e f = f m ts
many_listed inside c (node shape.Listed (x ∷ xs) m ts) P e f = absurd (false≢true e)
many_listed inside c (node h xs m ts) P e f = absurd (never (is_whole c h xs m ts) e)

template_seen : (xs : List Name) (n : ℕ) (g : accept.Tagging) (m k : ℕ) (qs es : Trees) → has_names shape.TemplateLiteral xs ≡ true → accept.are_quasis g qs ≡ true → are_raw qs ≡ true → AllSpoken (all_shown es) → Spoken (seen shape.TemplateLiteral xs n (node shape.Listed [] m (all_shown qs) ▸ (node shape.Listed [] k (all_shown es) ▸ none)))
template_seen xs n g m k qs es p q r s =
    let two = pieces_spoken g qs (all_shown es) q r s in
    (head_says shape.TemplateLiteral xs (pieces (all_shown qs) (all_shown es)) p two.1 refl, two.0)

template_over : (inside l : Bool) (xs : List Name) (n : ℕ) (o : Option (List Slot)) (ts : Trees) → AllVoiced ts → is_template_slots o ≡ true → accept.fill inside (filling_by o) ts ≡ true → has_names shape.TemplateLiteral xs ≡ true → has_text shape.TemplateLiteral ts ≡ true → are_clean l ts ≡ true → Spoken (seen shape.TemplateLiteral xs n (all_shown ts))
template_over inside l xs n None ts b d e p w k = absurd (false≢true e)
template_over inside l xs n (Some (quasis g ∷ many c ∷ [])) ts b d e p w k =
    two_parts inside (quasis g) (many c) (λ us. AllVoiced us → has_text shape.TemplateLiteral us ≡ true → are_clean l us ≡ true → Spoken (seen shape.TemplateLiteral xs n (all_shown us))) ts
    (λ q t eq et. quasis_listed inside q g (λ z. AllVoiced (z ▸ (t ▸ none)) → has_text shape.TemplateLiteral (z ▸ (t ▸ none)) ≡ true → are_clean l (z ▸ (t ▸ none)) ≡ true → Spoken (seen shape.TemplateLiteral xs n (all_shown (z ▸ (t ▸ none))))) eq
    (λ m qs q'. many_listed inside c t (λ z. fits inside (many c) z ≡ true → AllVoiced (node shape.Listed [] m qs ▸ (z ▸ none)) → are_raw qs ≡ true → are_clean l (node shape.Listed [] m qs ▸ (z ▸ none)) ≡ true → Spoken (seen shape.TemplateLiteral xs n (node shape.Listed [] m (all_shown qs) ▸ (shown z ▸ none)))) et
    (λ k' es et' b' r c'. template_seen xs n g m k' qs es p q' r (b'.1.0.plain inside l (many c) d et' (and_l (is_clean l (node shape.Listed [] k' es)) true (and_r (is_clean l (node shape.Listed [] m qs)) (is_clean l (node shape.Listed [] k' es) && true) c'))).1) et))
    e b w k
template_over inside l xs n o ts b d e p w k = absurd (false≢true d)

-- functions
same_names : (d g : Bool) (ds : List (List ℕ)) (xs : List Name) → has_names (shape.Function d g ds) xs ≡ true → has_names (shape.Function d g []) xs ≡ true
same_names d g ds [] e = refl
same_names d g ds (x ∷ xs) e = absurd (false≢true e)

same_arrow_names : (ds : List (List ℕ)) (xs : List Name) → has_names (shape.ArrowFunctionExpression ds) xs ≡ true → has_names (shape.ArrowFunctionExpression []) xs ≡ true
same_arrow_names ds [] e = refl
same_arrow_names ds (x ∷ xs) e = absurd (false≢true e)

function_over : (inside : Bool) (d g : Bool) (ds : List (List ℕ)) (xs : List Name) (n : ℕ) (o : Option (List Slot)) (ts : Trees) → AllVoiced ts → is_function_slots o ≡ true → accept.fill inside (filling_by o) ts ≡ true → has_names (shape.Function d g ds) xs ≡ true → are_said_directives ds ≡ true → are_clean false ts ≡ true → Spoken (seen (shape.Function d g ds) xs n (all_shown ts))
function_over inside d g ds xs n None ts b q e p w k = absurd (false≢true e)
function_over inside d g ds xs n (Some (s ∷ many_and_rest a_parameter a_pattern_rest ∷ one a_function_body ∷ [])) ts b q e p w k =
    three_parts inside s (many_and_rest a_parameter a_pattern_rest) (one a_function_body) (λ us. AllVoiced us → are_clean false us ≡ true → Spoken (seen (shape.Function d g ds) xs n (all_shown us))) ts
    (λ i ps f ei ep ef v c.
    let ci = and_l (is_clean false i) (is_clean false ps && (is_clean false f && true)) c in
    let cr = and_r (is_clean false i) (is_clean false ps && (is_clean false f && true)) c in
    let cp = and_l (is_clean false ps) (is_clean false f && true) cr in
    let cf = and_l (is_clean false f) true (and_r (is_clean false ps) (is_clean false f && true) cr) in (
      head_says (shape.Function d g []) xs (shown i ▸ (shown ps ▸ (with_directives ds (shown f) ▸ none))) (same_names d g ds xs p) refl refl,
      (v.0.plain inside false s q ei ci, (v.1.0.plain inside false (many_and_rest a_parameter a_pattern_rest) refl ep cp, (v.1.1.0.body inside a_function_body ds w refl ef cf, tt))),
    ))
    e b k
function_over inside d g ds xs n o ts b q e p w k = absurd (false≢true q)

arrow_over : (inside : Bool) (ds : List (List ℕ)) (xs : List Name) (n : ℕ) (o : Option (List Slot)) (ts : Trees) → AllVoiced ts → is_arrow_slots o ≡ true → accept.fill inside (filling_by o) ts ≡ true → has_names (shape.ArrowFunctionExpression ds) xs ≡ true → are_said_directives ds ≡ true → are_clean false ts ≡ true → Spoken (seen (shape.ArrowFunctionExpression ds) xs n (all_shown ts))
arrow_over inside ds xs n None ts b q e p w k = absurd (false≢true e)
arrow_over inside ds xs n (Some (many_and_rest a_parameter a_pattern_rest ∷ one an_arrow_body ∷ [])) ts b q e p w k =
    two_parts inside (many_and_rest a_parameter a_pattern_rest) (one an_arrow_body) (λ us. AllVoiced us → are_clean false us ≡ true → Spoken (seen (shape.ArrowFunctionExpression ds) xs n (all_shown us))) ts
    (λ ps f ep ef v c.
    let cp = and_l (is_clean false ps) (is_clean false f && true) c in
    let cf = and_l (is_clean false f) true (and_r (is_clean false ps) (is_clean false f && true) c) in (
      head_says (shape.ArrowFunctionExpression []) xs (shown ps ▸ (with_directives ds (shown f) ▸ none)) (same_arrow_names ds xs p) refl refl,
      (v.0.plain inside false (many_and_rest a_parameter a_pattern_rest) refl ep cp, (v.1.0.body inside an_arrow_body ds w refl ef cf, tt)),
    ))
    e b k
arrow_over inside ds xs n o ts b q e p w k = absurd (false≢true q)

-- imports and exports
import_over : (inside l : Bool) (xs : List Name) (n : ℕ) (o : Option (List Slot)) (ts : Trees) → AllVoiced ts → is_import_slots o ≡ true → accept.fill inside (filling_by o) ts ≡ true → has_names shape.ImportDeclaration xs ≡ true → are_clean l ts ≡ true → Spoken (seen shape.ImportDeclaration xs n (all_shown ts))
import_over inside l xs n None ts b q e p k = absurd (false≢true e)
import_over inside l xs n (Some (many an_import ∷ one a_string ∷ [])) ts b q e p k =
    two_parts inside (many an_import) (one a_string) (λ us. AllVoiced us → are_clean l us ≡ true → Spoken (seen shape.ImportDeclaration xs n (all_shown us))) ts
    (λ t u et eu. many_listed inside an_import t (λ z. fits inside (many an_import) z ≡ true → AllVoiced (z ▸ (u ▸ none)) → are_clean l (z ▸ (u ▸ none)) ≡ true → Spoken (seen shape.ImportDeclaration xs n (shown z ▸ (shown u ▸ none)))) et
    (λ m ss es v c.
    let cs = and_l (is_clean l (node shape.Listed [] m ss)) (is_clean l u && true) c in
    let cu = and_l (is_clean l u) true (and_r (is_clean l (node shape.Listed [] m ss)) (is_clean l u && true) c) in
    let each' = and_r (is_whole an_import shape.Listed [] m ss) (accept.fill inside (each (one an_import)) ss) es in (
      head_says shape.ImportDeclaration xs (import_parts (all_shown ss) (shown u)) p (import_needs inside ss u each' eu) refl,
      import_parts_spoken (all_shown ss) (shown u) (v.0.plain inside l (many an_import) refl es cs).1 (v.1.0.plain inside l (one a_string) refl eu cu),
    )) et)
    e b k
import_over inside l xs n o ts b q e p k = absurd (false≢true q)

export_over : (inside l : Bool) (xs : List Name) (n : ℕ) (o : Option (List Slot)) (ts : Trees) → AllVoiced ts → is_export_slots o ≡ true → accept.fill inside (filling_by o) ts ≡ true → has_names shape.ExportSpecifier xs ≡ true → are_clean l ts ≡ true → Spoken (seen shape.ExportSpecifier xs n (all_shown ts))
export_over inside l xs n None ts b q e p k = absurd (false≢true e)
export_over inside l xs n (Some (one a_module_name ∷ one an_exported_name ∷ [])) ts b q e p k =
    two_parts inside (one a_module_name) (one an_exported_name) (λ us. AllVoiced us → are_clean l us ≡ true → Spoken (seen shape.ExportSpecifier xs n (all_shown us))) ts
    (λ t u et eu v c.
    let ct = and_l (is_clean l t) (is_clean l u && true) c in
    let cu = and_l (is_clean l u) true (and_r (is_clean l t) (is_clean l u && true) c) in (
      head_says shape.ExportSpecifier xs (shown u ▸ (shown t ▸ none)) p (export_item inside u (shown t ▸ none) eu) refl,
      (v.1.0.plain inside l (one an_exported_name) refl eu cu, (v.0.plain inside l (one a_module_name) refl et ct, tt)),
    ))
    e b k
export_over inside l xs n o ts b q e p k = absurd (false≢true q)

-- each node, in a slot of a class
row : (c : Class) (strict l : Bool) (h : Shape) (xs : List Name) (n : ℕ) (ts : Trees) → AllVoiced ts → holds c ≡ true → is_body h ≡ false → fits strict (one c) (node h xs n ts) ≡ true → is_clean l (node h xs n ts) ≡ true → Spoken (seen h xs n (all_shown ts))
row c strict l shape.Absent xs n ts b p d e k = absurd (no_absent strict strict c ts (and_r (is_whole c shape.Absent xs n ts) (accept.fill strict (filling_by (slots_of strict c shape.Absent)) ts) e))
row c strict l shape.Listed xs n ts b p d e k =
    let w = accept.fill strict (filling_by (slots_of strict c shape.Listed)) ts in
    (head_says shape.Listed xs (all_shown ts) (names_in c shape.Listed xs n ts w e) refl refl, fair_slots ts b strict false (slots_of strict c shape.Listed) (slots_fair strict c shape.Listed p refl) (and_r (is_whole c shape.Listed xs n ts) w e) k)
row c strict l shape.InnerExpression xs n ts b p d e k =
    let w = accept.fill strict (filling_by (slots_of strict c shape.InnerExpression)) ts in
    inner_seen xs n (all_shown ts) (names_in c shape.InnerExpression xs n ts w e) (fair_slots ts b strict false (slots_of strict c shape.InnerExpression) (slots_fair strict c shape.InnerExpression p refl) (and_r (is_whole c shape.InnerExpression xs n ts) w e) k)
row c strict l shape.ChainExpression xs n ts b p d e k =
    let w = accept.fill strict (filling_by (slots_of strict c shape.ChainExpression)) ts in
    let f = and_r (is_whole c shape.ChainExpression xs n ts) w e in
    chain_seen strict xs n (slots_of strict c shape.ChainExpression) ts (chain_slots strict c) f (names_in c shape.ChainExpression xs n ts w e)
    (fair_slots ts b strict false (slots_of strict c shape.ChainExpression) (slots_fair strict c shape.ChainExpression p refl) f (clean_node l shape.ChainExpression xs n ts refl k).2)
row c strict l (shape.MethodDefinition m q true) xs n ts b p d e k =
    let w = accept.fill strict (filling_by (slots_of strict c (shape.MethodDefinition m q true))) ts in
    method_seen m q xs n (all_shown ts) (names_in c (shape.MethodDefinition m q true) xs n ts w e) (fair_slots ts b strict false (slots_of strict c (shape.MethodDefinition m q true)) (slots_fair strict c (shape.MethodDefinition m q true) p refl) (and_r (is_whole c (shape.MethodDefinition m q true) xs n ts) w e) (clean_node l (shape.MethodDefinition m q true) xs n ts refl k).2)
row c strict l (shape.PropertyDefinition q true) xs n ts b p d e k =
    let w = accept.fill strict (filling_by (slots_of strict c (shape.PropertyDefinition q true))) ts in
    field_seen q xs n (all_shown ts) (names_in c (shape.PropertyDefinition q true) xs n ts w e) (fair_slots ts b strict false (slots_of strict c (shape.PropertyDefinition q true)) (slots_fair strict c (shape.PropertyDefinition q true) p refl) (and_r (is_whole c (shape.PropertyDefinition q true) xs n ts) w e) (clean_node l (shape.PropertyDefinition q true) xs n ts refl k).2)
row c strict l shape.TemplateLiteral xs n ts b p d e k =
    let w = accept.fill strict (filling_by (slots_of strict c shape.TemplateLiteral)) ts in
    let clean = clean_node l shape.TemplateLiteral xs n ts refl k in
    template_over strict false xs n (slots_of strict c shape.TemplateLiteral) ts b (template_slots strict c) (and_r (is_whole c shape.TemplateLiteral xs n ts) w e) (names_in c shape.TemplateLiteral xs n ts w e) clean.1 clean.2
row c strict l (shape.Function q g ds) xs n ts b p d e k =
    let inside = accept.is_strict_in strict (shape.Function q g ds) in
    let w = accept.fill inside (filling_by (slots_of strict c (shape.Function q g ds))) ts in
    let clean = clean_node l (shape.Function q g ds) xs n ts refl k in
    function_over inside q g ds xs n (slots_of strict c (shape.Function q g ds)) ts b (function_slots_of strict c q g ds) (and_r (is_whole c (shape.Function q g ds) xs n ts) w e) (names_in c (shape.Function q g ds) xs n ts w e) (said_directives ds clean.1 (fields_of c (shape.Function q g ds) xs n ts w e)) clean.2
row c strict l (shape.ArrowFunctionExpression ds) xs n ts b p d e k =
    let inside = accept.is_strict_in strict (shape.ArrowFunctionExpression ds) in
    let w = accept.fill inside (filling_by (slots_of strict c (shape.ArrowFunctionExpression ds))) ts in
    let clean = clean_node l (shape.ArrowFunctionExpression ds) xs n ts refl k in
    arrow_over inside ds xs n (slots_of strict c (shape.ArrowFunctionExpression ds)) ts b (arrow_slots strict c ds) (and_r (is_whole c (shape.ArrowFunctionExpression ds) xs n ts) w e) (names_in c (shape.ArrowFunctionExpression ds) xs n ts w e) (said_directives ds clean.1 (fields_of c (shape.ArrowFunctionExpression ds) xs n ts w e)) clean.2
row c strict l shape.ImportDeclaration xs n ts b p d e k =
    let w = accept.fill strict (filling_by (slots_of strict c shape.ImportDeclaration)) ts in
    import_over strict false xs n (slots_of strict c shape.ImportDeclaration) ts b (import_slots strict c) (and_r (is_whole c shape.ImportDeclaration xs n ts) w e) (names_in c shape.ImportDeclaration xs n ts w e) (clean_node l shape.ImportDeclaration xs n ts refl k).2
row c strict l shape.ExportSpecifier xs n ts b p d e k =
    let w = accept.fill strict (filling_by (slots_of strict c shape.ExportSpecifier)) ts in
    export_over strict false xs n (slots_of strict c shape.ExportSpecifier) ts b (export_slots strict c) (and_r (is_whole c shape.ExportSpecifier xs n ts) w e) (names_in c shape.ExportSpecifier xs n ts w e) (clean_node l shape.ExportSpecifier xs n ts refl k).2
row c strict l shape.FunctionBody xs n ts b p d e k = absurd (false≢true (sym d))
row c strict l shape.VariableDeclarator xs n ts b p d e k = (head_says shape.VariableDeclarator [] (all_shown ts) refl refl refl, (as_it_is c strict l shape.VariableDeclarator xs n ts b p refl refl refl refl e k).1)
row c strict l h xs n ts b p d e k = as_it_is c strict l h xs n ts b p refl refl refl refl e k

slotted : (h : Shape) (xs : List Name) (n : ℕ) (ts : Trees) → AllVoiced ts → (strict l : Bool) (s : Slot) → is_fair_slot s ≡ true → fits strict s (node h xs n ts) ≡ true → is_clean l (node h xs n ts) ≡ true → Spoken (shown (node h xs n ts))
slotted h xs n ts b strict l (one c) p e k = row c strict l h xs n ts b (fair_holds c p) (fair_is_no_body strict (one c) h xs n ts p e) e k
slotted h xs n ts b strict l (one_or_absent c) p e k = either (present strict c (node h xs n ts) e) (λ a. gap_spoken (shown (node h xs n ts)) a.0) (λ a. row c strict l h xs n ts b (fair_holds c p) (fair_is_no_body strict (one c) h xs n ts p a) a k)
slotted h xs n ts b strict l (many c) p e k = many_case strict l c Spoken h xs n ts e k (λ d f. (head_says shape.Listed [] (all_shown ts) refl refl refl, fair_items ts b strict (one c) p d f))
slotted h xs n ts b strict l (many_or_holes c) p e k = holes_case strict l c Spoken h xs n ts e k (λ d f. (head_says shape.Listed [] (all_shown ts) refl refl refl, fair_items ts b strict (one_or_absent c) p d f))
slotted h xs n ts b strict l (many_and_rest c r) p e k = rest_case strict l c r Spoken h xs n ts e k (λ d f. (head_says shape.Listed [] (all_shown ts) refl refl refl, fair_items_or_last ts b strict (one c) (one r) (and_l (is_fair c) (is_fair r) p) (and_r (is_fair c) (is_fair r) p) d f))
slotted h xs n ts b strict l (many_or_holes_and_rest c r) p e k = holes_rest_case strict l c r Spoken h xs n ts e k (λ d f. (head_says shape.Listed [] (all_shown ts) refl refl refl, fair_items_or_last ts b strict (one_or_absent c) (one r) (and_l (is_fair c) (is_fair r) p) (and_r (is_fair c) (is_fair r) p) d f))
slotted h xs n ts b strict l (quasis g) p e k = absurd (false≢true p)

-- ---- the body of a function

one_part : (inside : Bool) (s : Slot) (P : Trees → Type 0) (ts : Trees) → ((t : Tree) → fits inside s t ≡ true → P (t ▸ none)) → accept.fill inside (these (s ∷ [])) ts ≡ true → P ts
one_part inside s P none f e = absurd (false≢true e)
one_part inside s P (t ▸ none) f e = f t (and_l (fits inside s t) true e)
one_part inside s P (t ▸ (u ▸ ts)) f e = absurd (never (fits inside s t) e)

body_by : (strict : Bool) (n : ℕ) (ts : Trees) (ds : List (List ℕ)) → AllVoiced ts → are_said_directives ds ≡ true → accept.fill strict (these (many (a_statement in_body) ∷ [])) ts ≡ true → are_clean false ts ≡ true → Spoken (with_directives ds (node shape.FunctionBody [] n (all_shown ts)))
body_by strict n ts ds b w e k = one_part strict (many (a_statement in_body)) (λ us. AllVoiced us → are_clean false us ≡ true → Spoken (with_directives ds (node shape.FunctionBody [] n (all_shown us)))) ts (λ t et v c. body_seen ds n (shown t) w (v.0.plain strict false (many (a_statement in_body)) refl et (and_l (is_clean false t) true c))) e b k

-- what is shown of a node that is no body of a function is none
no_body_seen : (h : Shape) (xs : List Name) (n : ℕ) (us : Trees) → is_body h ≡ false → standing h ≡ Node → is_body (shape_of (seen h xs n us)) ≡ false
no_body_seen shape.FunctionBody xs n us d s = absurd (false≢true (sym d))
no_body_seen shape.ChainExpression xs n (t ▸ none) d s = refl
no_body_seen shape.TemplateLiteral xs n (node shape.Listed [] k qs ▸ (node shape.Listed [] j es ▸ none)) d s = refl
no_body_seen (shape.MethodDefinition k c true) xs n (t ▸ (v ▸ none)) d s = refl
no_body_seen (shape.PropertyDefinition c true) xs n (t ▸ (v ▸ none)) d s = refl
no_body_seen (shape.Function q g ds) xs n (i ▸ (ps ▸ (f ▸ none))) d s = refl
no_body_seen (shape.ArrowFunctionExpression ds) xs n (ps ▸ (f ▸ none)) d s = refl
no_body_seen shape.ImportDeclaration xs n (node shape.Listed [] k ss ▸ (t ▸ none)) d s = refl
no_body_seen shape.ExportSpecifier xs n (t ▸ (u ▸ none)) d s = refl
no_body_seen shape.InnerExpression xs n us d s = absurd (holder s)
  where
    holder : standing shape.InnerExpression ≡ Node → ⊥
    holder e = absurd (cc e)
no_body_seen h xs n us d s = refl

bodied : (h : Shape) (xs : List Name) (n : ℕ) (ts : Trees) → AllVoiced ts → (strict : Bool) (c : Class) (ds : List (List ℕ)) → are_said_directives ds ≡ true → is_body_class c ≡ true → fits strict (one c) (node h xs n ts) ≡ true → is_clean false (node h xs n ts) ≡ true → Spoken (with_directives ds (shown (node h xs n ts)))
bodied shape.FunctionBody [] n ts b strict a_function_body ds w q e k = body_by strict n ts ds b w (and_r (is_whole a_function_body shape.FunctionBody [] n ts) (accept.fill strict (these (many (a_statement in_body) ∷ [])) ts) e) k
bodied shape.FunctionBody [] n ts b strict an_arrow_body ds w q e k = body_by strict n ts ds b w (and_r (is_whole an_arrow_body shape.FunctionBody [] n ts) (accept.fill strict (these (many (a_statement in_body) ∷ [])) ts) e) k
bodied shape.FunctionBody (x ∷ xs) n ts b strict c ds w q e k = absurd (false≢true e)
bodied h xs n ts b strict a_function_body ds w q e k = absurd (never (is_whole a_function_body h xs n ts) e)
bodied shape.InnerExpression xs n ts b strict an_arrow_body ds w q e k = absurd (never (is_whole an_arrow_body shape.InnerExpression xs n ts) e)
bodied shape.Listed xs n ts b strict an_arrow_body ds w q e k = absurd (never (is_whole an_arrow_body shape.Listed xs n ts) e)
bodied shape.Absent xs n ts b strict an_arrow_body ds w q e k = absurd (never (is_whole an_arrow_body shape.Absent xs n ts) e)
bodied h xs n ts b strict an_arrow_body ds w q e k = other_directives ds (seen h xs n (all_shown ts)) (no_body_seen h xs n (all_shown ts) refl refl) (row an_arrow_body strict false h xs n ts b refl refl e k)
bodied h xs n ts b strict c ds w q e k = absurd (false≢true q)

-- ---- all trees

mutual
  voiced : (t : Tree) → Voiced t
  voiced (node h xs n ts) = record { plain = slotted h xs n ts (all_voiced ts); body = bodied h xs n ts (all_voiced ts) }

  all_voiced : (ts : Trees) → AllVoiced ts
  all_voiced none = tt
  all_voiced (t ▸ ts) = (voiced t, all_voiced ts)

-- ---- programs

items_lead : (b : Bool) → leads (items_goal b) ≡ false
items_lead true = refl
items_lead false = refl

program_says : (style : Style) (b : Bool) (ds : List (List ℕ)) (is : Trees) → are_said_directives ds ≡ true → AllSpoken (all_shown is) → are_sayable (lay_block Leading (printers style (directives ds)) (undirected (printed_items style b is))) ≡ true
program_says style b ds is d s = directives_say style ds (undirected (printed_items style b is)) d (undirected_says (printed_items style b is) (block_says (items_goal b) (printers style (all_shown is)) [] (items_lead b) (trees_say style (all_shown is) s) refl))

program_by : (style : Style) (t : Tree) → fits false (one a_program) t ≡ true → first_fault t ≡ None → are_sayable (styled_program style t) ≡ true
program_by style (node (shape.Program m ds) [] n ts) e f =
    let inside = accept.is_strict_in false (shape.Program m ds) in
    let c = clean_node false (shape.Program m ds) [] n ts refl (program_clean (shape.Program m ds) [] n ts refl f) in
    one_part inside (many (a_statement (if m then in_module else in_body))) (λ us. are_clean false us ≡ true → are_sayable (styled_program style (node (shape.Program m ds) [] n us)) ≡ true) ts
    (λ t et k. many_listed inside (a_statement (if m then in_module else in_body)) t (λ z. Spoken (shown z) → are_sayable (styled_program style (node (shape.Program m ds) [] n (z ▸ none))) ≡ true) et (λ k' is s. program_says style m ds is (said_directives ds c.1 (fields_of a_program (shape.Program m ds) [] n ts (accept.fill inside (these (many (a_statement (if m then in_module else in_body)) ∷ [])) ts) e)) s.1) ((voiced t).plain inside false (many (a_statement (if m then in_module else in_body))) refl et (and_l (is_clean false t) true k)))
    (and_r (is_whole a_program (shape.Program m ds) [] n ts) (accept.fill inside (these (many (a_statement (if m then in_module else in_body)) ∷ [])) ts) e) c.2
program_by style (node (shape.Program m ds) (x ∷ xs) n ts) e f = absurd (false≢true e)
program_by style (node h xs n ts) e f = absurd (never (is_whole a_program h xs n ts) e)

pub faultless_says : (style : Style) (t : Tree) → fits false (one a_program) t ≡ true → first_fault t ≡ None → EachLexical (styled_program style t)
faultless_says style t e f = each_lexical (styled_program style t) (program_by style t e f)

pub faultless_text : (style : Style) (t : Tree) → fits false (one a_program) t ≡ true → first_fault t ≡ None → has_unpaired_surrogate (text_of (styled_program style t)) ≡ false
faultless_text style t e f = text_whole (styled_program style t) (each_whole (styled_program style t) (program_by style t e f))

pub faultless_compact : (style : Style) (t : Tree) → fits false (one a_program) t ≡ true → first_fault t ≡ None → has_unpaired_surrogate (compact_text_of (styled_program style t)) ≡ false
faultless_compact style t e f = compact_whole (styled_program style t) (each_whole (styled_program style t) (program_by style t e f))

-- Templates: their pieces, each with what stands behind it.
use Rattle.std.proofs.Common.{◌≡◌, ℕ, suc, Bool, true, false, ◌&&◌, List, [], ◌∷◌, refl, sym, ap, subst, ◌∙◌, arith}
use Rattle.std.specs.Prelude.{Option, Some, None, is_some, ◌==◌}
use Rattle.std.proofs.lemmas.Bool.{false≢true, eqb-true}
use Rattle.mini_model.specs.declared.shape.Shape.TheVariants as shape
use Rattle.mini_model.specs.Tree.{Tree, Trees, node, none, ◌▸◌, count}
use Rattle.mini_model.specs.Weight.{same_text}
use Rattle.mini_model.specs.Templates.{cooked}
use Rattle.mini_accept.specs.WellShaped as accept
use Rattle.mini_accept.specs.WellShaped.{Class, Tagging, untagged, tagged, many, quasis, pieces, an_expression, is_quasi, are_quasis, is_same_flag, is_text_of_cooked, is_paired, is_paired_cooked, is_whole, fits}
use Rattle.mini_print.specs.Grammar.{Goal, Anything, TagTemplate, TemplateRest, Zero, PieceOf}
use Rattle.mini_print.specs.Printed as printed
use Rattle.mini_print.specs.Printed.{a_part, a_list, a_silent, is_printable, are_printable, shown, all_shown, seen, threaded, same_cooked}
use Rattle.mini_printable.proofs.Clean.{and_l, and_r, both}
use Rattle.mini_printable.proofs.Rows.{never, and_one, and_two, and_three, stands_at, part_of, same_self, count_shown}

-- ---- pieces

flags : (a b : Bool) → is_same_flag a b ≡ true → a ≡ b
flags true true e = refl
flags true false e = absurd (false≢true e)
flags false true e = absurd (false≢true e)
flags false false e = refl

as_cooked : (c d : Option (List ℕ)) → is_text_of_cooked c d ≡ true → same_cooked c d ≡ true
as_cooked None None e = refl
as_cooked None (Some s) e = absurd (false≢true e)
as_cooked (Some s) None e = absurd (false≢true e)
as_cooked (Some s) (Some r) e = e

plain_piece : (tail : Bool) (raw : List ℕ) (c : Option (List ℕ)) → accept.has_plain_fields (shape.TemplateElement tail raw c) ≡ true → same_cooked c (cooked raw) ≡ true
plain_piece tail raw c e = as_cooked c (cooked raw) (and_l (is_text_of_cooked c (cooked raw)) (is_paired_cooked c) (and_r (is_paired raw) (is_text_of_cooked c (cooked raw) && is_paired_cooked c) e))

abbrev pub piece : Bool → List ℕ → Option (List ℕ) → ℕ → Tree
piece tail raw c n = node (shape.TemplateElement tail raw c) [] n none

pub quasi_case : (P : Tree → Type 0) (g : Tagging) (last : Bool) (t : Tree) → is_quasi g last t ≡ true → ((raw : List ℕ) (c : Option (List ℕ)) (n : ℕ) → same_cooked c (cooked raw) ≡ true → P (piece last raw c n)) → P t
quasi_case P untagged last (node (shape.TemplateElement tail raw c) [] n none) e f =
    let a = and_l (is_same_flag tail last && is_some c) ((n == 0) && accept.has_plain_fields (shape.TemplateElement tail raw c)) e in
    let b = and_r (n == 0) (accept.has_plain_fields (shape.TemplateElement tail raw c)) (and_r (is_same_flag tail last && is_some c) ((n == 0) && accept.has_plain_fields (shape.TemplateElement tail raw c)) e) in
    subst (λ d. P (piece d raw c n)) (sym (flags tail last (and_l (is_same_flag tail last) (is_some c) a))) (f raw c n (plain_piece tail raw c b))
quasi_case P tagged last (node (shape.TemplateElement tail raw c) [] n none) e f =
    let a = and_l (is_same_flag tail last) ((n == 0) && accept.has_plain_fields (shape.TemplateElement tail raw c)) e in
    let b = and_r (n == 0) (accept.has_plain_fields (shape.TemplateElement tail raw c)) (and_r (is_same_flag tail last) ((n == 0) && accept.has_plain_fields (shape.TemplateElement tail raw c)) e) in
    subst (λ d. P (piece d raw c n)) (sym (flags tail last a)) (f raw c n (plain_piece tail raw c b))
quasi_case P untagged last (node h [] n none) e f = absurd (false≢true e)
quasi_case P untagged last (node h [] n (t ▸ ts)) e f = absurd (false≢true e)
quasi_case P untagged last (node h (x ∷ xs) n ts) e f = absurd (false≢true e)
quasi_case P tagged last (node h [] n none) e f = absurd (false≢true e)
quasi_case P tagged last (node h [] n (t ▸ ts)) e f = absurd (false≢true e)
quasi_case P tagged last (node h (x ∷ xs) n ts) e f = absurd (false≢true e)

-- ---- what stands behind an expression

tail_stands : (raw : List ℕ) (c : Option (List ℕ)) (n : ℕ) → same_cooked c (cooked raw) ≡ true → is_printable (a_part TemplateRest) (piece true raw c n) ≡ true
tail_stands raw c n e = part_of TemplateRest (piece true raw c n) (and_one (same_cooked c (cooked raw)) e)

middle_stands : (raw : List ℕ) (c : Option (List ℕ)) (n : ℕ) (u r : Tree) → same_cooked c (cooked raw) ≡ true → is_printable (a_part Anything) u ≡ true → is_printable (a_part TemplateRest) r ≡ true → is_printable (a_part TemplateRest) (node (shape.TemplateElement false raw c) [] n (u ▸ (r ▸ none))) ≡ true
middle_stands raw c n u r e f g = part_of TemplateRest (node (shape.TemplateElement false raw c) [] n (u ▸ (r ▸ none))) (both (same_cooked c (cooked raw)) (is_printable (a_part Anything) u && (is_printable (a_part TemplateRest) r && true)) e (and_two (is_printable (a_part Anything) u) (is_printable (a_part TemplateRest) r) f g))

one_less : (a b : ℕ) → suc a ≡ suc b → a ≡ b
one_less a b e = omega (arith, e)

too_many : (a : ℕ) → suc 0 ≡ suc (suc a) → ⊥
too_many a e = omega (arith, e)

too_few : (a : ℕ) → suc (suc a) ≡ suc 0 → ⊥
too_few a e = omega (arith, e)

threads : (g : Tagging) (qs us : Trees) → are_quasis g qs ≡ true → count qs ≡ suc (count us) → are_printable Anything false us ≡ true → is_printable (a_part TemplateRest) (threaded (all_shown qs) us) ≡ true
threads g none us e c p = absurd (false≢true e)
threads g (q ▸ none) none e c p = quasi_case (λ t. is_printable (a_part TemplateRest) (threaded (shown t ▸ none) none) ≡ true) g true q e (λ raw k n f. tail_stands raw k n f)
threads g (q ▸ none) (u ▸ us) e c p = absurd (too_many (count us) c)
threads g (q ▸ (r ▸ rs)) none e c p = absurd (too_few (count rs) c)
threads g (q ▸ (r ▸ rs)) (u ▸ us) e c p =
    let rest = threads g (r ▸ rs) us (and_r (is_quasi g false q) (are_quasis g (r ▸ rs)) e) (one_less (suc (count rs)) (suc (count us)) c) (and_r (is_printable (a_part Anything) u) (are_printable Anything false us) p) in
    quasi_case (λ t. is_printable (a_part TemplateRest) (threaded (shown t ▸ all_shown (r ▸ rs)) (u ▸ us)) ≡ true) g false q (and_l (is_quasi g false q) (are_quasis g (r ▸ rs)) e)
    (λ raw k n f. middle_stands raw k n u (threaded (all_shown (r ▸ rs)) us) f (and_l (is_printable (a_part Anything) u) (are_printable Anything false us) p) rest)

-- ---- templates, with a tag or without

abbrev pub template_goal : Bool → Goal
template_goal true = TagTemplate
template_goal false = Anything

is_piece : (last : Bool) (raw : List ℕ) (c : Option (List ℕ)) (n : ℕ) → same_cooked c (cooked raw) ≡ true → is_printable (a_silent (PieceOf last raw)) (piece last raw c n) ≡ true
is_piece true raw c n e = both (same_text raw raw) (same_cooked c (cooked raw)) (same_self raw) e
is_piece false raw c n e = both (same_text raw raw) (same_cooked c (cooked raw)) (same_self raw) e

whole_stands : (tag : Bool) (n : ℕ) (raw : List ℕ) (c : Option (List ℕ)) (m : ℕ) → same_cooked c (cooked raw) ≡ true → stands_at (template_goal tag) (node shape.TemplateLiteral [] n (piece true raw c m ▸ none)) ≡ true
whole_stands true n raw c m e = and_one (is_printable (a_silent (PieceOf true raw)) (piece true raw c m)) (is_piece true raw c m e)
whole_stands false n raw c m e = and_one (is_printable (a_silent (PieceOf true raw)) (piece true raw c m)) (is_piece true raw c m e)

parts_stand : (tag : Bool) (n : ℕ) (raw : List ℕ) (c : Option (List ℕ)) (m : ℕ) (u r : Tree) → same_cooked c (cooked raw) ≡ true → is_printable (a_part Anything) u ≡ true → is_printable (a_part TemplateRest) r ≡ true → stands_at (template_goal tag) (node shape.TemplateLiteral [] n (piece false raw c m ▸ (u ▸ (r ▸ none)))) ≡ true
parts_stand true n raw c m u r e f g = and_three (is_printable (a_silent (PieceOf false raw)) (piece false raw c m)) (is_printable (a_part Anything) u) (is_printable (a_part TemplateRest) r) (is_piece false raw c m e) f g
parts_stand false n raw c m u r e f g = and_three (is_printable (a_silent (PieceOf false raw)) (piece false raw c m)) (is_printable (a_part Anything) u) (is_printable (a_part TemplateRest) r) (is_piece false raw c m e) f g

pieced : (tag : Bool) (n : ℕ) (g : Tagging) (qs us : Trees) → are_quasis g qs ≡ true → count qs ≡ suc (count us) → are_printable Anything false us ≡ true → stands_at (template_goal tag) (node shape.TemplateLiteral [] n (printed.pieces (all_shown qs) us)) ≡ true
pieced tag n g none us e c p = absurd (false≢true e)
pieced tag n g (q ▸ none) none e c p = quasi_case (λ t. stands_at (template_goal tag) (node shape.TemplateLiteral [] n (printed.pieces (shown t ▸ none) none)) ≡ true) g true q e (λ raw k m f. whole_stands tag n raw k m f)
pieced tag n g (q ▸ none) (u ▸ us) e c p = absurd (too_many (count us) c)
pieced tag n g (q ▸ (r ▸ rs)) none e c p = absurd (too_few (count rs) c)
pieced tag n g (q ▸ (r ▸ rs)) (u ▸ us) e c p =
    let rest = threads g (r ▸ rs) us (and_r (is_quasi g false q) (are_quasis g (r ▸ rs)) e) (one_less (suc (count rs)) (suc (count us)) c) (and_r (is_printable (a_part Anything) u) (are_printable Anything false us) p) in
    quasi_case (λ t. stands_at (template_goal tag) (node shape.TemplateLiteral [] n (printed.pieces (shown t ▸ all_shown (r ▸ rs)) (u ▸ us))) ≡ true) g false q (and_l (is_quasi g false q) (are_quasis g (r ▸ rs)) e)
    (λ raw k m f. parts_stand tag n raw k m u (threaded (all_shown (r ▸ rs)) us) f (and_l (is_printable (a_part Anything) u) (are_printable Anything false us) p) rest)

-- the two lists of a template
pub all_quasis : (strict : Bool) (g : Tagging) (qs : Trees) → accept.fill strict (pieces g) qs ≡ true → are_quasis g qs ≡ true
all_quasis strict g none e = absurd (false≢true e)
all_quasis strict g (q ▸ qs) e = e

pub template_at : (tag inside : Bool) (n : ℕ) (g : Tagging) (c : Class) (q t : Tree) → is_printable (a_list Anything Zero) (shown t) ≡ true → fits inside (quasis g) q ≡ true → fits inside (many c) t ≡ true → accept.has_its_parts an_expression shape.TemplateLiteral (q ▸ (t ▸ none)) ≡ true → stands_at (template_goal tag) (seen shape.TemplateLiteral [] n (shown q ▸ (shown t ▸ none))) ≡ true
template_at tag inside n g c (node shape.Listed [] m qs) (node shape.Listed [] j es) p eq et v =
    pieced tag n g qs (all_shown es) (all_quasis inside g qs (and_r (is_whole an_expression shape.Listed [] m qs) (accept.fill inside (pieces g) qs) eq)) (eqb-true (count qs) (suc (count es)) v ∙ sym (ap suc (count_shown es))) p
template_at tag inside n g c (node shape.Listed (x ∷ xs) m qs) t p eq et v = absurd (false≢true eq)
template_at tag inside n g c (node shape.Listed [] m qs) (node shape.Listed (x ∷ xs) j es) p eq et v = absurd (false≢true et)
template_at tag inside n g c (node shape.Listed [] m qs) (node h xs j es) p eq et v = absurd (never (is_whole c h xs j es) et)
template_at tag inside n g c (node h xs m qs) t p eq et v = absurd (never (is_whole an_expression h xs m qs) eq)

-- Chains: what a chain begins with, and its links.
use Rattle.std.proofs.Common.{◌≡◌, ℕ, Bool, true, false, ◌&&◌, ◌||◌, not, List, [], ◌∷◌, refl, sym, ap, subst, ◌∙◌, inl, inr}
use Rattle.std.specs.Prelude.{Some, if◌then◌else◌}
use Rattle.std.proofs.lemmas.Bool.{false≢true}
use Rattle.mini_model.specs.declared.name.Name.{Name}
use Rattle.mini_model.specs.declared.shape.Shape.{Shape}
use Rattle.mini_model.specs.declared.shape.Shape.TheVariants as shape
use Rattle.mini_model.specs.Tree.{Tree, Trees, node, none, ◌▸◌, absent, listed}
use Rattle.mini_accept.specs.WellShaped as accept
use Rattle.mini_accept.specs.WellShaped.{Class, Slot, one, many, an_expression, an_inner, an_argument, a_label, a_private_name, a_link, a_chain, these, slots_of, filling_by, is_whole, has_names, fits}
use Rattle.mini_print.specs.Grammar.{Anything, Element, AfterDot, Link, FirstLink, Zero, has_private}
use Rattle.mini_print.specs.Printed as printed
use Rattle.mini_print.specs.Printed.{Want, a_part, a_list, a_block as a_run, is_printable, are_printable, shown, all_shown, seen, has_optional, linked}
use Rattle.mini_printable.proofs.Clean.{both, is_clean}
use Rattle.mini_printable.proofs.Seats.{value, name, private_name, arguments, Linked, LinkSeat, a_link_here, an_inner_link_here, a_chain_here, link_class, Below, over_one, over_two}
use Rattle.mini_printable.proofs.Rows.{never, and_one, and_two, and_three, stands_at, part_of, filled, whole_parts, label_private, private_private}
use Rattle.mini_printable.proofs.Values.{value_row}

-- ---- what is no link

-- a node that is no link has no optional one along it
bare_node : (h : Shape) (xs : List Name) (n : ℕ) (us : Trees) → printed.is_optional h ≡ false → printed.is_link h ≡ false → has_optional (node h xs n us) ≡ false
bare_node h xs n none a b = refl
bare_node h xs n (t ▸ ts) a b = subst (λ z. (z || (printed.is_link h && has_optional t)) ≡ false) (sym a) (subst (λ z. (z && has_optional t) ≡ false) (sym b) refl)

-- ---- links

-- of a link over what it is of: `x` its optional mark
link_over : (h : Shape) (x : Bool) (n : ℕ) (t : Tree) (ts : Trees) (u : Tree) (us : Trees) → accept.has_optional (node h [] n (t ▸ ts)) ≡ (x || accept.has_optional t) → printed.is_optional h ≡ x → printed.is_link h ≡ true → Linked t u →
    (x ≡ false → is_printable (a_part Anything) u ≡ true → is_printable (a_part Anything) (node h [] n (u ▸ us)) ≡ true) →
    is_printable (a_part Link) (node h [] n (absent ▸ us)) ≡ true →
    (x ≡ true → is_printable (a_part FirstLink) (node h [] n (absent ▸ us)) ≡ true) →
    Linked (node h [] n (t ▸ ts)) (node h [] n (u ▸ us))
link_over h x n t ts u us q o k (inl a) f g i =
    inl (
      subst (λ z. (printed.is_optional h || (z && has_optional u)) ≡ true) (sym k) (subst (λ z. (printed.is_optional h || z) ≡ true) (sym a.0) (or_true (printed.is_optional h))),
      λ ls e. subst (λ z. printed.fill (Some (a_part Anything ∷ a_part FirstLink ∷ a_run Link ∷ [])) (if z then linked u (node h [] n (absent ▸ us) ▸ ls) else u ▸ (node h [] n (absent ▸ us) ▸ (listed ls ▸ none))) ≡ true) (sym a.0)
          (a.1 (node h [] n (absent ▸ us) ▸ ls) (both (is_printable (a_part Link) (node h [] n (absent ▸ us))) (are_printable Link false ls) g e)),
    )
  where
    or_true : (b : Bool) → (b || true) ≡ true
    or_true true = refl
    or_true false = refl
link_over h true n t ts u us q o k (inr a) f g i =
    inl (
      subst (λ z. (z || (printed.is_link h && has_optional u)) ≡ true) (sym o) refl,
      λ ls e. subst (λ z. printed.fill (Some (a_part Anything ∷ a_part FirstLink ∷ a_run Link ∷ [])) (if z then linked u (node h [] n (absent ▸ us) ▸ ls) else u ▸ (node h [] n (absent ▸ us) ▸ (listed ls ▸ none))) ≡ true) (sym a.0)
          (and_three (is_printable (a_part Anything) u) (is_printable (a_part FirstLink) (node h [] n (absent ▸ us))) (is_printable (a_run Link) (listed ls)) a.2 (i refl) e),
    )
link_over h false n t ts u us q o k (inr a) f g i =
    inr (subst (λ z. (z || (printed.is_link h && has_optional u)) ≡ false) (sym o) (subst (λ z. (printed.is_link h && z) ≡ false) (sym a.0) (and_false (printed.is_link h))), q ∙ a.1, f refl a.2)
  where
    and_false : (b : Bool) → (b && false) ≡ false
    and_false true = refl
    and_false false = refl

call_linked : (x : Bool) (n : ℕ) (t : Tree) (ts : Trees) (u v : Tree) → Linked t u → is_printable (a_list Element Zero) v ≡ true → Linked (node (shape.CallExpression x) [] n (t ▸ ts)) (node (shape.CallExpression x) [] n (u ▸ (v ▸ none)))
call_linked true n t ts u v a e = link_over (shape.CallExpression true) true n t ts u (v ▸ none) refl refl refl a (λ p q. absurd (false≢true (sym p))) (part_of Link (node (shape.CallExpression true) [] n (absent ▸ (v ▸ none))) (and_one (is_printable (a_list Element Zero) v) e)) (λ p. part_of FirstLink (node (shape.CallExpression true) [] n (absent ▸ (v ▸ none))) (and_one (is_printable (a_list Element Zero) v) e))
call_linked false n t ts u v a e = link_over (shape.CallExpression false) false n t ts u (v ▸ none) refl refl refl a (λ p q. part_of Anything (node (shape.CallExpression false) [] n (u ▸ (v ▸ none))) (and_two (is_printable (a_part Anything) u) (is_printable (a_list Element Zero) v) q e)) (part_of Link (node (shape.CallExpression false) [] n (absent ▸ (v ▸ none))) (and_one (is_printable (a_list Element Zero) v) e)) (λ p. absurd (false≢true p))

index_linked : (x : Bool) (n : ℕ) (t : Tree) (ts : Trees) (u v : Tree) → Linked t u → is_printable (a_part Anything) v ≡ true → Linked (node (shape.ComputedMemberExpression x) [] n (t ▸ ts)) (node (shape.ComputedMemberExpression x) [] n (u ▸ (v ▸ none)))
index_linked true n t ts u v a e = link_over (shape.ComputedMemberExpression true) true n t ts u (v ▸ none) refl refl refl a (λ p q. absurd (false≢true (sym p))) (part_of Link (node (shape.ComputedMemberExpression true) [] n (absent ▸ (v ▸ none))) (and_one (is_printable (a_part Anything) v) e)) (λ p. part_of FirstLink (node (shape.ComputedMemberExpression true) [] n (absent ▸ (v ▸ none))) (and_one (is_printable (a_part Anything) v) e))
index_linked false n t ts u v a e = link_over (shape.ComputedMemberExpression false) false n t ts u (v ▸ none) refl refl refl a (λ p q. part_of Anything (node (shape.ComputedMemberExpression false) [] n (u ▸ (v ▸ none))) (and_two (is_printable (a_part Anything) u) (is_printable (a_part Anything) v) q e)) (part_of Link (node (shape.ComputedMemberExpression false) [] n (absent ▸ (v ▸ none))) (and_one (is_printable (a_part Anything) v) e)) (λ p. absurd (false≢true p))

-- a member by its name: `has_private` looks at the name alone
member_linked : (x : Bool) (n : ℕ) (t : Tree) (ts : Trees) (u v : Tree) → Linked t u → ((w : Tree) → has_private (w ▸ (v ▸ none)) ≡ false) → is_printable (a_part AfterDot) v ≡ true → Linked (node (shape.StaticMemberExpression x) [] n (t ▸ ts)) (node (shape.StaticMemberExpression x) [] n (u ▸ (v ▸ none)))
member_linked true n t ts u v a p e = link_over (shape.StaticMemberExpression true) true n t ts u (v ▸ none) refl refl refl a (λ q r. absurd (false≢true (sym q)))
    (part_of Link (node (shape.StaticMemberExpression true) [] n (absent ▸ (v ▸ none))) (both (not (has_private (absent ▸ (v ▸ none)))) (is_printable (a_part AfterDot) v && true) (ap not (p absent)) (and_one (is_printable (a_part AfterDot) v) e)))
    (λ q. part_of FirstLink (node (shape.StaticMemberExpression true) [] n (absent ▸ (v ▸ none))) (both (not (has_private (absent ▸ (v ▸ none)))) (is_printable (a_part AfterDot) v && true) (ap not (p absent)) (and_one (is_printable (a_part AfterDot) v) e)))
member_linked false n t ts u v a p e = link_over (shape.StaticMemberExpression false) false n t ts u (v ▸ none) refl refl refl a
    (λ q r. part_of Anything (node (shape.StaticMemberExpression false) [] n (u ▸ (v ▸ none))) (both (not (has_private (u ▸ (v ▸ none)))) (is_printable (a_part Anything) u && (is_printable (a_part AfterDot) v && true)) (ap not (p u)) (and_two (is_printable (a_part Anything) u) (is_printable (a_part AfterDot) v) r e)))
    (part_of Link (node (shape.StaticMemberExpression false) [] n (absent ▸ (v ▸ none))) (both (not (has_private (absent ▸ (v ▸ none)))) (is_printable (a_part AfterDot) v && true) (ap not (p absent)) (and_one (is_printable (a_part AfterDot) v) e)))
    (λ q. absurd (false≢true q))

private_linked : (x : Bool) (n : ℕ) (t : Tree) (ts : Trees) (u v : Tree) → Linked t u → ((w : Tree) → has_private (w ▸ (v ▸ none)) ≡ true) → is_printable (a_part AfterDot) v ≡ true → Linked (node (shape.PrivateFieldExpression x) [] n (t ▸ ts)) (node (shape.PrivateFieldExpression x) [] n (u ▸ (v ▸ none)))
private_linked true n t ts u v a p e = link_over (shape.PrivateFieldExpression true) true n t ts u (v ▸ none) refl refl refl a (λ q r. absurd (false≢true (sym q)))
    (part_of Link (node (shape.PrivateFieldExpression true) [] n (absent ▸ (v ▸ none))) (both (has_private (absent ▸ (v ▸ none))) (is_printable (a_part AfterDot) v && true) (p absent) (and_one (is_printable (a_part AfterDot) v) e)))
    (λ q. part_of FirstLink (node (shape.PrivateFieldExpression true) [] n (absent ▸ (v ▸ none))) (both (has_private (absent ▸ (v ▸ none))) (is_printable (a_part AfterDot) v && true) (p absent) (and_one (is_printable (a_part AfterDot) v) e)))
private_linked false n t ts u v a p e = link_over (shape.PrivateFieldExpression false) false n t ts u (v ▸ none) refl refl refl a
    (λ q r. part_of Anything (node (shape.PrivateFieldExpression false) [] n (u ▸ (v ▸ none))) (both (has_private (u ▸ (v ▸ none))) (is_printable (a_part Anything) u && (is_printable (a_part AfterDot) v && true)) (p u) (and_two (is_printable (a_part Anything) u) (is_printable (a_part AfterDot) v) r e)))
    (part_of Link (node (shape.PrivateFieldExpression false) [] n (absent ▸ (v ▸ none))) (both (has_private (absent ▸ (v ▸ none))) (is_printable (a_part AfterDot) v && true) (p absent) (and_one (is_printable (a_part AfterDot) v) e)))
    (λ q. absurd (false≢true q))

-- ---- the table of links

abbrev LinkRow : Class → Type 0
LinkRow c = (strict inside l : Bool) (h : Shape) (xs : List Name) (n : ℕ) (ts : Trees) → Below ts → (has_names h xs && accept.fill inside (filling_by (slots_of strict c h)) ts) ≡ true → is_clean l (node h xs n ts) ≡ true → accept.has_its_parts c h ts ≡ true → Linked (node h xs n ts) (seen h xs n (all_shown ts))

-- what is a value, and no link
a_value : (t u : Tree) → has_optional u ≡ false → accept.has_optional t ≡ false → stands_at Anything u ≡ true → Linked t u
a_value t u a c e = inr (a, c, part_of Anything u e)

link_row : LinkRow a_link
link_row strict inside l (shape.CallExpression x) [] n ts b e k v =
    over_two inside false (one a_link) (many an_argument) (λ us. Linked (node (shape.CallExpression x) [] n us) (node (shape.CallExpression x) [] n (all_shown us))) (λ t u bt bu et eu kt ku. call_linked x n t (u ▸ none) (shown t) (shown u) (bt.link inside a_link_here et kt) (bu.seat inside arguments false refl eu ku)) ts b e k
link_row strict inside l (shape.ComputedMemberExpression x) [] n ts b e k v =
    over_two inside false (one a_link) (one an_expression) (λ us. Linked (node (shape.ComputedMemberExpression x) [] n us) (node (shape.ComputedMemberExpression x) [] n (all_shown us))) (λ t u bt bu et eu kt ku. index_linked x n t (u ▸ none) (shown t) (shown u) (bt.link inside a_link_here et kt) (bu.seat inside value false refl eu ku)) ts b e k
link_row strict inside l (shape.StaticMemberExpression x) [] n ts b e k v =
    over_two inside false (one a_link) (one a_label) (λ us. Linked (node (shape.StaticMemberExpression x) [] n us) (node (shape.StaticMemberExpression x) [] n (all_shown us))) (λ t u bt bu et eu kt ku. member_linked x n t (u ▸ none) (shown t) (shown u) (bt.link inside a_link_here et kt) (λ w. label_private inside u w none eu) (bu.seat inside name false refl eu ku)) ts b e k
link_row strict inside l (shape.PrivateFieldExpression x) [] n ts b e k v =
    over_two inside false (one (an_inner a_link)) (one a_private_name) (λ us. Linked (node (shape.PrivateFieldExpression x) [] n us) (node (shape.PrivateFieldExpression x) [] n (all_shown us))) (λ t u bt bu et eu kt ku. private_linked x n t (u ▸ none) (shown t) (shown u) (bt.link inside an_inner_link_here et kt) (λ w. private_private inside u w none eu) (bu.seat inside private_name false refl eu ku)) ts b e k
link_row strict inside l (shape.CallExpression x) (y ∷ xs) n ts b e k v = absurd (false≢true e)
link_row strict inside l (shape.ComputedMemberExpression x) (y ∷ xs) n ts b e k v = absurd (false≢true e)
link_row strict inside l (shape.StaticMemberExpression x) (y ∷ xs) n ts b e k v = absurd (false≢true e)
link_row strict inside l (shape.PrivateFieldExpression x) (y ∷ xs) n ts b e k v = absurd (false≢true e)
link_row strict inside l shape.InnerExpression xs n ts b e k v = absurd (never (has_names shape.InnerExpression xs) e)
link_row strict inside l shape.ImportDeclaration xs n ts b e k v = absurd (never (has_names shape.ImportDeclaration xs) e)
link_row strict inside l shape.ExportSpecifier xs n ts b e k v = absurd (never (has_names shape.ExportSpecifier xs) e)
link_row strict inside l (shape.MethodDefinition m c s) xs n ts b e k v = absurd (never (has_names (shape.MethodDefinition m c s) xs) e)
link_row strict inside l (shape.PropertyDefinition c s) xs n ts b e k v = absurd (never (has_names (shape.PropertyDefinition c s) xs) e)
link_row strict inside l (shape.Function true g ds) xs n ts b e k v = absurd (never (has_names (shape.Function true g ds) xs) e)
link_row strict inside l shape.ChainExpression xs n ts b e k v = a_value (node shape.ChainExpression xs n ts) (seen shape.ChainExpression xs n (all_shown ts)) (chain (all_shown ts)) refl (value_row strict inside l shape.ChainExpression xs n ts b e k v)
  where
    chain : (us : Trees) → has_optional (seen shape.ChainExpression xs n us) ≡ false
    chain none = refl
    chain (t ▸ none) = bare_node shape.ChainExpression xs n (linked t none) refl refl
    chain (t ▸ (u ▸ us)) = refl
link_row strict inside l shape.TemplateLiteral xs n ts b e k v = a_value (node shape.TemplateLiteral xs n ts) (seen shape.TemplateLiteral xs n (all_shown ts)) (template (all_shown ts)) refl (value_row strict inside l shape.TemplateLiteral xs n ts b e k v)
  where
    template : (us : Trees) → has_optional (seen shape.TemplateLiteral xs n us) ≡ false
    template (node shape.Listed [] i qs ▸ (node shape.Listed [] j es ▸ none)) = bare_node shape.TemplateLiteral xs n (printed.pieces qs es) refl refl
    template us = bare_node shape.TemplateLiteral xs n us refl refl
link_row strict inside l (shape.Function false g ds) xs n ts b e k v = a_value (node (shape.Function false g ds) xs n ts) (seen (shape.Function false g ds) xs n (all_shown ts)) (function (all_shown ts)) refl (value_row strict inside l (shape.Function false g ds) xs n ts b e k v)
  where
    function : (us : Trees) → has_optional (seen (shape.Function false g ds) xs n us) ≡ false
    function none = refl
    function (i ▸ none) = refl
    function (i ▸ (p ▸ none)) = refl
    function (i ▸ (p ▸ (u ▸ none))) = refl
    function (i ▸ (p ▸ (u ▸ (w ▸ us)))) = refl
link_row strict inside l (shape.ArrowFunctionExpression ds) xs n ts b e k v = a_value (node (shape.ArrowFunctionExpression ds) xs n ts) (seen (shape.ArrowFunctionExpression ds) xs n (all_shown ts)) (arrow (all_shown ts)) refl (value_row strict inside l (shape.ArrowFunctionExpression ds) xs n ts b e k v)
  where
    arrow : (us : Trees) → has_optional (seen (shape.ArrowFunctionExpression ds) xs n us) ≡ false
    arrow none = refl
    arrow (p ▸ none) = refl
    arrow (p ▸ (u ▸ none)) = refl
    arrow (p ▸ (u ▸ (w ▸ us))) = refl
link_row strict inside l h xs n ts b e k v = a_value (node h xs n ts) (seen h xs n (all_shown ts)) (bare_node h xs n (all_shown ts) refl refl) refl (value_row strict inside l h xs n ts b e k v)

inner_link_row : LinkRow (an_inner a_link)
inner_link_row strict inside l shape.InnerExpression [] n ts b e k v = over_one inside false (one a_link) (λ us. Linked (node shape.InnerExpression [] n us) (seen shape.InnerExpression [] n (all_shown us))) (λ t bt et kt. bt.link inside a_link_here et kt) ts b e k
inner_link_row strict inside l h xs n ts b e k v = absurd (never (has_names h xs) e)

chain_row : LinkRow a_chain
chain_row strict inside l (shape.CallExpression x) xs n ts b e k v = link_row strict inside l (shape.CallExpression x) xs n ts b e k v
chain_row strict inside l (shape.ComputedMemberExpression x) xs n ts b e k v = link_row strict inside l (shape.ComputedMemberExpression x) xs n ts b e k v
chain_row strict inside l (shape.StaticMemberExpression x) xs n ts b e k v = link_row strict inside l (shape.StaticMemberExpression x) xs n ts b e k v
chain_row strict inside l (shape.PrivateFieldExpression x) xs n ts b e k v = link_row strict inside l (shape.PrivateFieldExpression x) xs n ts b e k v
chain_row strict inside l h xs n ts b e k v = absurd (never (has_names h xs) e)

pub linked_at : (strict : Bool) (r : LinkSeat) (h : Shape) (xs : List Name) (n : ℕ) (ts : Trees) → Below ts → fits strict (one (link_class r)) (node h xs n ts) ≡ true → is_clean false (node h xs n ts) ≡ true → Linked (node h xs n ts) (seen h xs n (all_shown ts))
linked_at strict a_link_here h xs n ts b e k = link_row strict (accept.is_strict_in strict h) false h xs n ts b (filled strict a_link h xs n ts e) k (whole_parts strict a_link h xs n ts e)
linked_at strict an_inner_link_here h xs n ts b e k = inner_link_row strict (accept.is_strict_in strict h) false h xs n ts b (filled strict (an_inner a_link) h xs n ts e) k (whole_parts strict (an_inner a_link) h xs n ts e)
linked_at strict a_chain_here h xs n ts b e k = chain_row strict (accept.is_strict_in strict h) false h xs n ts b (filled strict a_chain h xs n ts e) k (whole_parts strict a_chain h xs n ts e)

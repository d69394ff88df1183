-- Templates come back, where smaller trees do.
use Rattle.std.proofs.Common.{◌≡◌, ℕ, suc, List, [], ◌∷◌, refl, ap, sym, ◌∙◌, Bool, true, false, ◌&&◌}
use Rattle.std.specs.Prelude.{Option, Some, None, option_map, is_some, nat_eq, ◌==◌, codes}
use Rattle.std.proofs.lemmas.Bool.{and_parts, and_from, false≢true}
use Rattle.serde_json.specs.Data.{Data, array}
use Rattle.mini_model.specs.Texts.{bytes_of, are_units}
use Rattle.mini_model.specs.Templates.{cooked}
use Rattle.mini_model.specs.declared.shape.Shape.{Shape}
use Rattle.mini_model.specs.declared.shape.Shape.TheVariants as shape
use Rattle.mini_model.specs.Tree.{Tree, node, Trees, none, ◌▸◌, count, children, child_or_absent}
use Rattle.mini_accept.specs.WellShaped as shaped
use Rattle.mini_accept.specs.WellShaped.{Class, Tagging, tagged, untagged, these, is_quasi, are_quasis, is_quasi_by, is_same_flag, is_paired, is_paired_cooked, is_text_of_cooked}
use Rattle.mini_accept.specs.declared.kind.Kind.TheVariants as kind
use Rattle.mini_accept.specs.Places.{Step, down, at, a_quasi}
use Rattle.mini_accept.specs.Fields.{item_count}
use Rattle.mini_accept.specs.Standing.{stands_as}
use Rattle.mini_accept.specs.Expressions as table
use Rattle.mini_accept.specs.Expressions.{cooked_by, quasi_part, piece_part, tagging_of, may_be_cooked}
use Rattle.mini_writer.specs.Objects as objects
use Rattle.mini_writer.specs.Written.{tree_data, trees_data, cooked_text}
use Rattle.mini_writer.proofs.Units.{are_units_if_some, has_units, have_units}
use Rattle.mini_writer.proofs.Read.{ReadsBack, PartBack, node_back, no_children, ◌&◌, plain_back, tree_back}
use Rattle.mini_writer.proofs.Fitting.{Filled, with_two, with_list}
use Rattle.mini_writer.proofs.Slots.{Back, AllBack, items_back, each_back, is_apart, Reads}
use Rattle.mini_writer.proofs.Texts.{text_read}
use Rattle.mini_writer.proofs.Entry.{bind_is, require_is}
use Rattle.mini_writer.proofs.Statements.{Comes}

-- ---- pieces of text

cooked_back : (c : Option (List ℕ)) → is_paired_cooked c ≡ true → are_units_if_some c ≡ true → cooked_by (cooked_text c) ≡ Some c
cooked_back None p u = refl
cooked_back (Some s) p u = ap (option_map (λ r. Some r)) (text_read s p u)

same_turned : (a b : Bool) → is_same_flag a b ≡ true → is_same_flag b a ≡ true
same_turned true true e = refl
same_turned false false e = refl
same_turned true false e = absurd (false≢true e)
same_turned false true e = absurd (false≢true e)

quasi_back : (j : ℕ) (strict : Bool) (g : Tagging) (last tail : Bool) (raw : List ℕ) (c : Option (List ℕ)) (m : ℕ) → is_same_flag tail last ≡ true → may_be_cooked g c ≡ true
    → shaped.has_plain_fields (shape.TemplateElement tail raw c) ≡ true → (are_units raw && are_units_if_some c) ≡ true → (n : ℕ) → ReadsBack (suc j) strict (a_quasi g last) n (objects.template_element tail (bytes_of raw) (cooked_text c)) (node (shape.TemplateElement tail raw c) [] m none)
quasi_back j strict g last tail raw c m flag may fields units n =
    let (paired, others) = and_parts (is_paired raw) _ fields in
    let (text, cooks) = and_parts (is_text_of_cooked c (cooked raw)) (is_paired_cooked c) others in
    let (unit, cooked_unit) = and_parts (are_units raw) (are_units_if_some c) units in
    node_back j strict (a_quasi g last) (objects.template_element tail (bytes_of raw) (cooked_text c)) kind.TemplateElement (record { shape = shape.TemplateElement tail raw c; names = []; children = [] }) [] m none refl (same_turned tail last flag) refl
    (bind_is _ raw _ _ (text_read raw paired unit) (bind_is _ c _ _ (cooked_back c cooks cooked_unit) (require_is (may_be_cooked g c && is_text_of_cooked c (cooked raw)) _ _ (and_from _ _ may text) refl)))
    refl no_children n

flag_of : (g : Tagging) (last tail : Bool) (raw : List ℕ) (c : Option (List ℕ)) → is_quasi_by g last (shape.TemplateElement tail raw c) ≡ true → (is_same_flag tail last ≡ true) × (may_be_cooked g c ≡ true)
flag_of untagged last tail raw c e = and_parts (is_same_flag tail last) (is_some c) e
flag_of tagged last tail raw c e = (e, refl)

no_quasi : (g : Tagging) (last : Bool) (h : Shape) (b : Bool) → is_quasi_by g last h ≡ false → (is_quasi_by g last h && b) ≡ true → ⊥
no_quasi g last h b e f = false≢true (sym e ∙ (and_parts (is_quasi_by g last h) b f).0)

module _ (j : ℕ) (strict : Bool) (d : Data) (g : Tagging) where
  piece_back : (last : Bool) (t : Tree) → is_quasi g last t ≡ true → has_units t ≡ true → (s : Step) → down s d ≡ Some (tree_data t) → PartBack (suc j) strict d (quasi_part g last (tree_data t) s) (t ▸ none)
  piece_back last (node (shape.TemplateElement tail raw c) [] m none) e u s there =
      let (is, others) = and_parts (is_quasi_by g last (shape.TemplateElement tail raw c)) _ e in
      let (zero_number, fields) = and_parts (m == 0) (shaped.has_plain_fields (shape.TemplateElement tail raw c)) others in
      let (flag, may) = flag_of g last tail raw c is in
      let (units, rest) = and_parts (are_units raw && are_units_if_some c) _ u in
      tree_back (suc j) strict d s (a_quasi g last) _ (node (shape.TemplateElement tail raw c) [] m none) there (quasi_back j strict g last tail raw c m flag may fields units)
  piece_back last (node (shape.TemplateElement tail raw c) (x ∷ xs) m ts) e u s there = absurd (false≢true e)
  piece_back last (node (shape.TemplateElement tail raw c) [] m (t ▸ ts)) e u s there = absurd (false≢true e)
  piece_back last (node h [] m none) e u s there = absurd (by_tagging g e)
    where
      by_tagging : (q : Tagging) → is_quasi q last (node h [] m none) ≡ true → ⊥
      by_tagging untagged e = false≢true e
      by_tagging tagged e = false≢true e
  piece_back last (node h (x ∷ xs) m ts) e u s there = absurd (false≢true e)
  piece_back last (node h [] m (t ▸ ts)) e u s there = absurd (false≢true e)

-- ---- templates

module _ (k : ℕ) (back : Back k) (strict : Bool) (d : Data) (g : Tagging) where
  pieces_back : (ts : Trees) → are_quasis g ts ≡ true → have_units ts ≡ true → AllBack k back strict d (quasi_part g) ts
  pieces_back none e u = tt
  pieces_back (t ▸ none) e u =
      let (unit, units) = and_parts (has_units t) true u in
      (piece_back (suc k) strict d g true t e unit, tt)
  pieces_back (t ▸ v ▸ ts) e u =
      let (first, rest) = and_parts (is_quasi g false t) (are_quasis g (v ▸ ts)) e in
      let (unit, units) = and_parts (has_units t) (have_units (v ▸ ts)) u in
      (piece_back (suc k) strict d g false t first unit, pieces_back (v ▸ ts) rest units)

quasis_filled : (strict : Bool) (g : Tagging) (ts : Trees) → shaped.fill strict (shaped.pieces g) ts ≡ true → are_quasis g ts ≡ true
quasis_filled strict g none e = absurd (false≢true e)
quasis_filled strict g (t ▸ ts) e = e

items_counted : (ts : Trees) → item_count (trees_data ts) ≡ count ts
items_counted none = refl
items_counted (t ▸ ts) = ap suc (items_counted ts)

-- how the expressions of a template are read
abbrev pub piece_class : Tagging → Class
piece_class untagged = shaped.an_expression
piece_class tagged = shaped.an_inner shaped.an_expression

piece_there : (g : Tagging) → is_apart (piece_class g) ≡ false
piece_there untagged = refl
piece_there tagged = refl

module _ (k : ℕ) (back : Back k) (strict : Bool) (d : Data) where
  piece_reads : (g : Tagging) → Reads k back strict d (piece_class g) (piece_part g)
  piece_reads untagged last e s = refl
  piece_reads tagged last e s = refl

pub template : (k : ℕ) (back : Back k) (strict : Bool) (c : Class) (g : Tagging) → tagging_of (at c) ≡ g → ((quasis expressions : Data) → stands_as c (objects.template_literal quasis expressions) ≡ true)
    → (ts : Trees) → Filled k strict (these (shaped.quasis g ∷ shaped.many (piece_class g) ∷ [])) ts → nat_eq (count (children (shaped.first_item ts))) (suc (count (children (child_or_absent ts 1)))) ≡ true → Comes k strict c shape.TemplateLiteral ts
template k back strict c g is stands =
    let Whole : Trees → Type 0 = λ ts. nat_eq (count (children (shaped.first_item ts))) (suc (count (children (child_or_absent ts 1)))) ≡ true → Comes k strict c shape.TemplateLiteral ts in
    with_two k strict (shaped.quasis g) (shaped.many (piece_class g)) Whole
    (λ a b f h. with_list k strict (shaped.quasis g) (λ u. Whole (u ▸ b ▸ none)) refl
    (λ l qs v. with_list k strict (shaped.many (piece_class g)) (λ u. Whole (node shape.Listed [] l qs ▸ u ▸ none)) refl
    (λ i es w counted m n. plain_back (suc (suc k)) strict c _ kind.TemplateLiteral shape.TemplateLiteral _ m _ refl (stands (array (trees_data qs)) (array (trees_data es))) refl
    (ap (λ q. table.template q (objects.template_literal (array (trees_data qs)) (array (trees_data es)))) is
    ∙ require_is (nat_eq (item_count (trees_data qs)) (suc (item_count (trees_data es)))) _ _ (ap (λ q. nat_eq q (suc (item_count (trees_data es)))) (items_counted qs) ∙ (ap (λ e. nat_eq (count qs) (suc e)) (items_counted es) ∙ counted)) refl)
    (items_back k back strict _ (quasi_part g) (codes "quasis") l qs refl (pieces_back k back strict _ g qs (quasis_filled strict g qs v.fills) v.units)
    & each_back k back strict _ (piece_class g) (piece_part g) (codes "expressions") i es (piece_there g) (piece_reads k back strict (objects.template_literal (array (trees_data qs)) (array (trees_data es))) g) refl w & no_children) n) b h) a f)

-- What is evident of the children of a node, and of the parts of a template, one after another.
use Rattle.std.proofs.Common.{◌≡◌, ℕ, zero, suc, ◌<◌, ◌+◌, ◌≤◌, Bool, true, false, Option, Some, None, refl, sym, ap, ◌∙◌, true≢false, eq-eqb, arith}
use Rattle.std.specs.Prelude.{◌-◌, ◌||◌, nat_eq, if◌then◌else◌}
use Rattle.mini_model.specs.declared.operator.LogicalOperator.{LogicalOperator}
use Rattle.mini_model.specs.Tree.{Tree, Trees, node, none, ◌▸◌, children, count, shape_of, child_or_absent}
use Rattle.mini_node.specs.Children.{part, names_of, rest_children}
use Rattle.mini_node.specs.Walks.{from_first, next_child, no_rest}
use Rattle.mini_laws.specs.Naming.{kinds}
use Rattle.mini_terms.specs.Evident.{Evidence, logical_evidence, units_in, units_of, either, units_between, text_if, nth_items, are_lists, template_evidence, nth_evidence, last_evidence, evidence_by, evidence, each_evidence, items_in, each_items}

pub evidence_is : (t : Tree) → evidence t ≡ evidence_by (shape_of t) (kinds (names_of t)) (children t) (each_evidence (children t)) (each_items (children t))
evidence_is (node h xs n ts) = refl

-- ---- children

of_nth : (ts : Trees) (i : ℕ) → nth_evidence (each_evidence ts) i ≡ evidence (child_or_absent ts i)
of_nth none i = refl
of_nth (t ▸ ts) zero = refl
of_nth (t ▸ ts) (suc i) = of_nth ts i

pub evidence_at : (t : Tree) (i : ℕ) → nth_evidence (each_evidence (children t)) i ≡ evidence (part t i)
evidence_at t i = of_nth (children t) i

none_at : (ts : Trees) (i : ℕ) → count ts ≤ i → nth_evidence (each_evidence ts) i ≡ None
none_at none i e = refl
none_at (t ▸ ts) zero e = absurd (omega (arith, e))
none_at (t ▸ ts) (suc i) e = none_at ts i (omega (arith, e))

pub no_evidence_at : (t : Tree) (i : ℕ) → count (children t) ≤ i → nth_evidence (each_evidence (children t)) i ≡ None
no_evidence_at t i e = none_at (children t) i e

last_of : (t : Tree) (ts : Trees) → last_evidence (each_evidence (t ▸ ts)) ≡ evidence (child_or_absent (t ▸ ts) (count ts))
last_of t none = refl
last_of t (u ▸ us) = last_of u us

last_in : (ts : Trees) → zero < count ts → last_evidence (each_evidence ts) ≡ evidence (child_or_absent ts (count ts - 1))
last_in none e = absurd (omega (arith, e))
last_in (t ▸ ts) e =
    let same : count (t ▸ ts) - 1 ≡ count ts = omega arith in
    last_of t ts ∙ ap (λ k. evidence (child_or_absent (t ▸ ts) k)) (sym same)

pub last_evidence_at : (t : Tree) → zero < count (children t) → last_evidence (each_evidence (children t)) ≡ evidence (part t (count (children t) - 1))
last_evidence_at t e = last_in (children t) e

none_last : (ts : Trees) → count ts ≤ zero → last_evidence (each_evidence ts) ≡ None
none_last none e = refl
none_last (t ▸ ts) e = absurd (omega (arith, e))

pub no_last_evidence : (t : Tree) → count (children t) ≤ zero → last_evidence (each_evidence (children t)) ≡ None
no_last_evidence t e = none_last (children t) e

-- ---- the parts of a template

either_false : (b : Option Bool) → either (Some false) b ≡ b
either_false (Some b) = refl
either_false None = refl

either_nothing : (a b : Option Bool) → either a (either b None) ≡ None
either_nothing (Some a) (Some b) = refl
either_nothing (Some a) None = refl
either_nothing None b = refl

or_assoc : (a b c d : Bool) → ((a || b) || c) || d ≡ a || (b || (c || d))
or_assoc true b c d = refl
or_assoc false true c d = refl
or_assoc false false c d = refl

either_assoc : (a b c d : Option Bool) → either (either (either a b) c) d ≡ either a (either b (either c d))
either_assoc (Some a) (Some b) (Some c) (Some d) = ap (λ x. Some x) (or_assoc a b c d)
either_assoc (Some a) (Some b) (Some c) None = refl
either_assoc (Some a) (Some b) None d = refl
either_assoc (Some a) None c d = refl
either_assoc None b c d = refl

unequal : (ps ts : Trees) → (count ps ≡ count ts + 1 → ⊥) → units_between ps (each_evidence ts) ≡ None
unequal none ts h = refl
unequal (p ▸ none) none h = absurd (h (omega arith))
unequal (p ▸ (q ▸ ps)) none h = refl
unequal (p ▸ ps) (t ▸ ts) h =
    ap (λ b. either (units_in (shape_of p)) (either (units_of (evidence t)) b)) (unequal ps ts (λ e. h (omega (arith, e))))
    ∙ either_nothing (units_in (shape_of p)) (units_of (evidence t))

-- what is left of both lists from this place on
abbrev Left : Trees → Trees → ℕ → Option Bool
Left ps ts i = units_between (rest_children i ps) (each_evidence (rest_children i ts))

abbrev pub Between : Trees → Trees → ℕ → Option Bool → Type 0
Between ps ts i b = either b (Left ps ts i) ≡ units_between ps (each_evidence ts)

pub none_round : (ps ts : Trees) → nat_eq (count ps) (count ts + 1) ≡ false → None ≡ units_between ps (each_evidence ts)
none_round ps ts e = sym (unequal ps ts (λ h. true≢false (sym (eq-eqb (count ps) (count ts + 1) h) ∙ e)))

pub first_part : (ps ts : Trees) → Between ps ts 0 (Some false)
first_part ps ts = either_false (Left ps ts 0) ∙ ap (λ x. units_between x (each_evidence (rest_children 0 ts))) (from_first ps) ∙ ap (λ x. units_between ps (each_evidence x)) (from_first ts)

next_left : (ps ts : Trees) (i : ℕ) → i < count ps → i < count ts → Left ps ts i ≡ either (units_in (shape_of (child_or_absent ps i))) (either (units_of (evidence (child_or_absent ts i))) (Left ps ts (suc i)))
next_left ps ts i h k = ap (λ x. units_between x (each_evidence (rest_children i ts))) (next_child ps i h) ∙ ap (λ x. units_between (child_or_absent ps i ▸ rest_children (suc i) ps) (each_evidence x)) (next_child ts i k)

pub one_more : (ps ts : Trees) (i : ℕ) (b c : Option Bool) → count ps ≡ count ts + 1 → i < count ts → c ≡ either (either b (units_in (shape_of (child_or_absent ps i)))) (units_of (evidence (child_or_absent ts i))) → Between ps ts i b → Between ps ts (i + 1) c
one_more ps ts i b c h k e inv =
    let next : i + 1 ≡ suc i = omega arith in
    ap (λ j. either c (Left ps ts j)) next
    ∙ ap (λ x. either x (Left ps ts (suc i))) e
    ∙ either_assoc b (units_in (shape_of (child_or_absent ps i))) (units_of (evidence (child_or_absent ts i))) (Left ps ts (suc i))
    ∙ sym (ap (λ x. either b x) (next_left ps ts i (omega (arith, h, k)) k))
    ∙ inv

pub last_piece : (ps ts : Trees) (i : ℕ) (b : Option Bool) → count ps ≡ count ts + 1 → count ts ≤ i → i ≤ count ts → Between ps ts i b → either b (units_in (shape_of (child_or_absent ps (count ts)))) ≡ units_between ps (each_evidence ts)
last_piece ps ts i b h k l inv =
    let same : count ts ≡ i = omega (arith, k, l) in
    let one : rest_children i ps ≡ child_or_absent ps i ▸ none = next_child ps i (omega (arith, h, k, l)) ∙ ap (λ x. child_or_absent ps i ▸ x) (no_rest ps (suc i) (omega (arith, h, k))) in
    ap (λ j. either b (units_in (shape_of (child_or_absent ps j)))) same
    ∙ sym (ap (λ x. either b (units_between x (each_evidence (rest_children i ts)))) one ∙ ap (λ x. either b (units_between (child_or_absent ps i ▸ none) (each_evidence x))) (no_rest ts i k))
    ∙ inv

-- ---- its lists

items_are : (t : Tree) → items_in t ≡ each_evidence (children t)
items_are (node h xs n ts) = refl

items_at : (ts : Trees) (i : ℕ) → i < count ts → nth_items (each_items ts) i ≡ each_evidence (children (child_or_absent ts i))
items_at none i h = absurd (omega (arith, h))
items_at (t ▸ ts) zero h = items_are t
items_at (t ▸ ts) (suc i) h = items_at ts i (omega (arith, h))

pub of_lists : (t : Tree) → are_lists (children t) ≡ true → 1 < count (children t) → template_evidence (children t) (each_items (children t)) ≡ text_if (units_between (children (part t 0)) (each_evidence (children (part t 1))))
of_lists t e h =
    ap (λ b. if b then text_if (units_between (children (part t 0)) (nth_items (each_items (children t)) 1)) else None) e
    ∙ ap (λ cs. text_if (units_between (children (part t 0)) cs)) (items_at (children t) 1 h)

pub no_lists : (t : Tree) → are_lists (children t) ≡ false → template_evidence (children t) (each_items (children t)) ≡ None
no_lists t e = ap (λ b. if b then text_if (units_between (children (part t 0)) (nth_items (each_items (children t)) 1)) else None) e

-- ---- of two sides

pub no_right : (o : LogicalOperator) (left right : Option Evidence) → None ≡ right → None ≡ logical_evidence o left right
no_right o (Some x) None e = refl
no_right o None None e = refl
no_right o left (Some y) e = cc e

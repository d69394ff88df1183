-- The first declarator that begins as undefined, and what holds its declaration.
use Rattle.std.proofs.Common.{◌≡◌, ℕ, zero, suc, ◌+◌, ◌<◌, ◌≤◌, Bool, true, false, refl, sym, ap, ◌∙◌, subst, arith, add-one}
use Rattle.std.specs.Prelude.{[], ◌&&◌, Option, Some, None, option_map, option_and_then, if◌then◌else◌}
use Rattle.std.proofs.lemmas.Bool.{and_parts, false≢true}
use Rattle.mini_model.specs.Tree.{Tree, Trees, node, none, ◌▸◌, absent, child_or_absent, children, count, listed, shape_of}
use Rattle.mini_node.specs.Children.{is_bare, part, rest_children, with_child, with_part}
use Rattle.mini_node.specs.Kinds.{is_listed, is_named_leaf}
use Rattle.mini_node.specs.Lends.{with_children}
use Rattle.mini_node.specs.Made.{listed_is}
use Rattle.mini_node.specs.Walks.{from_first, next_child, no_rest, with_same}
use Rattle.mini_log.specs.Terms.{is_undefined, when}
use Rattle.mini_log.specs.ListRows.{bare_let, bared, begins_undefined, is_binding_shape, is_declarator_shape, is_let, is_let_shape}
use Rattle.mini_checker.specs.Made.{Made}
use Rattle.mini_recorded.specs.Declaring.{place_of}
use Rattle.mini_recorded.specs.Edited.{Edited}
use Rattle.mini_recorded.proofs.ListEdits.{nothing, something, nothing_made}

-- ---- the walk to it: what is left of the place, from each declarator on

pub begins : (ds : Trees) → 0 + place_of (rest_children 0 ds) ≡ place_of ds
begins ds = let whole = ap place_of (from_first ds) in omega (arith, whole)

pub goes_on : (ds : Trees) (i : ℕ) (d : Tree) → i < count ds → d ≡ child_or_absent ds i → begins_undefined d ≡ false → i + place_of (rest_children i ds) ≡ place_of ds → (i + 1) + place_of (rest_children (i + 1) ds) ≡ place_of ds
goes_on ds i d h c e inv =
    let next : place_of (rest_children i ds) ≡ suc (place_of (rest_children (suc i) ds)) = ap place_of (next_child ds i h) ∙ ap (λ b. if b then 0 else suc (place_of (rest_children (suc i) ds))) (sym (ap begins_undefined c) ∙ e) in
    let same : place_of (rest_children (i + 1) ds) ≡ place_of (rest_children (suc i) ds) = ap (λ k. place_of (rest_children k ds)) (add-one i) in
    omega (arith, next, same, inv)

pub is_there : (ds : Trees) (i : ℕ) (d : Tree) → i < count ds → d ≡ child_or_absent ds i → begins_undefined d ≡ true → i + place_of (rest_children i ds) ≡ place_of ds → i ≡ place_of ds
is_there ds i d h c e inv =
    let next : place_of (rest_children i ds) ≡ 0 = ap place_of (next_child ds i h) ∙ ap (λ b. if b then 0 else suc (place_of (rest_children (suc i) ds))) (sym (ap begins_undefined c) ∙ e) in
    omega (arith, next, inv)

pub is_nowhere : (ds : Trees) (i n : ℕ) → n ≡ count ds → n ≤ i → i ≤ n → i + place_of (rest_children i ds) ≡ place_of ds → n ≡ place_of ds
is_nowhere ds i n c h k inv =
    let rest : place_of (rest_children i ds) ≡ 0 = ap place_of (no_rest ds i (omega (arith, c, h))) in
    omega (arith, rest, inv, h, k)

-- ---- without its initializer

bared_at : (ds : Trees) → place_of ds < count ds → bared ds ≡ Some (with_child ds (place_of ds) (with_part (child_or_absent ds (place_of ds)) 1 absent))
bared_at none h = absurd (omega (arith, h))
bared_at (d ▸ ds) h = by (begins_undefined d) (bared_at ds) h
  where
    by : (b : Bool) → (place_of ds < count ds → bared ds ≡ Some (with_child ds (place_of ds) (with_part (child_or_absent ds (place_of ds)) 1 absent))) → (if b then 0 else suc (place_of ds)) < suc (count ds) →
        (if b then Some (with_part d 1 absent ▸ ds) else option_map (λ us. d ▸ us) (bared ds)) ≡ Some (with_child (d ▸ ds) (if b then 0 else suc (place_of ds)) (with_part (child_or_absent (d ▸ ds) (if b then 0 else suc (place_of ds))) 1 absent))
    by true later h = refl
    by false later h = ap (option_map (λ us. d ▸ us)) (later (omega (arith, h)))

bared_nowhere : (ds : Trees) → count ds ≤ place_of ds → bared ds ≡ None
bared_nowhere none h = refl
bared_nowhere (d ▸ ds) h = by (begins_undefined d) (bared_nowhere ds) h
  where
    by : (b : Bool) → (count ds ≤ place_of ds → bared ds ≡ None) → suc (count ds) ≤ (if b then 0 else suc (place_of ds)) → (if b then Some (with_part d 1 absent ▸ ds) else option_map (λ us. d ▸ us) (bared ds)) ≡ None
    by true later h = absurd (omega (arith, h))
    by false later h = ap (option_map (λ us. d ▸ us)) (later (omega (arith, h)))

begins_at : (ds : Trees) → place_of ds < count ds → begins_undefined (child_or_absent ds (place_of ds)) ≡ true
begins_at none h = absurd (omega (arith, h))
begins_at (d ▸ ds) h = by (begins_undefined d) refl (begins_at ds) h
  where
    by : (b : Bool) → begins_undefined d ≡ b → (place_of ds < count ds → begins_undefined (child_or_absent ds (place_of ds)) ≡ true) → (if b then 0 else suc (place_of ds)) < suc (count ds) → begins_undefined (child_or_absent (d ▸ ds) (if b then 0 else suc (place_of ds))) ≡ true
    by true is later h = is
    by false is later h = later (omega (arith, h))

bare_two : (d : Tree) → is_bare d 2 ≡ true → 1 < count (children d)
bare_two (node h [] zero (a ▸ (b ▸ none))) e = omega arith
bare_two d e = absurd (false≢true e)

begins_two : (d : Tree) → begins_undefined d ≡ true → 1 < count (children d)
begins_two d e =
    bare_two d (and_parts (is_bare d 2) ((is_binding_shape (shape_of (part d 0)) && is_named_leaf (part d 0)) && is_undefined (part d 1))
    (and_parts (is_declarator_shape (shape_of d)) (is_bare d 2 && ((is_binding_shape (shape_of (part d 0)) && is_named_leaf (part d 0)) && is_undefined (part d 1))) e).1).0

pub has_init : (ds : Trees) (i : ℕ) (c : Tree) → i ≡ place_of ds → i < count ds → c ≡ child_or_absent ds i → 1 < count (children c)
has_init ds i c at h e = begins_two c (ap begins_undefined (e ∙ ap (child_or_absent ds) at) ∙ begins_at ds (subst (λ k. k < count ds) at h))

pub bares : (ds es : Trees) (i : ℕ) (c d : Tree) → i ≡ place_of ds → i < count ds → c ≡ child_or_absent ds i → d ≡ with_part c 1 absent → es ≡ with_child ds i d → Edited (bared ds) ds es true
bares ds es i c d at h e f g =
    something (bared ds) ds (with_child ds (place_of ds) (with_part (child_or_absent ds (place_of ds)) 1 absent)) es (bared_at ds (subst (λ k. k < count ds) at h))
    (g ∙ ap (with_child ds i) (f ∙ ap (λ x. with_part x 1 absent) e) ∙ ap (λ k. with_child ds k (with_part (child_or_absent ds k) 1 absent)) at)

pub bares_nothing : (ds : Trees) (i : ℕ) → i ≡ place_of ds → count ds ≤ i → Edited (bared ds) ds ds false
bares_nothing ds i at h = nothing (bared ds) ds (bared_nowhere ds (subst (λ k. count ds ≤ k) at h))

pub with_part_is : (t : Tree) (ts us : Trees) (i : ℕ) (x : Tree) → ts ≡ children t → us ≡ with_child ts i x → with_children t us ≡ with_part t i x
with_part_is (node h xs n vs) ts us i x e f = ap (node h xs n) (f ∙ ap (λ w. with_child w i x) e)

-- ---- the declaration

list_again : (l : Tree) (us : Trees) → is_listed l ≡ true → with_children l us ≡ listed us
list_again l us e = ap (λ x. with_children x us) (listed_is l e)

same_part : (t : Tree) (i : ℕ) → with_part t i (part t i) ≡ t
same_part (node h xs n ts) i = ap (node h xs n) (with_same ts i)

let_by : (t l : Tree) (us : Trees) (o : Option Trees) (b c : Bool) → c ≡ true → is_listed l ≡ true → l ≡ part t 0 → Edited o (children l) us b → Made (option_and_then (λ ds. when c (with_part t 0 (listed ds))) o) t (with_part t 0 (with_children l us)) b
let_by t l us None b c e f g m = record {
  said = m.said;
  tree = ap (with_part t 0) (list_again l us f ∙ ap listed m.trees ∙ sym (listed_is l f) ∙ g) ∙ same_part t 0;
}
let_by t l us (Some vs) b c e f g m =
    subst (λ o. Made o t (with_part t 0 (with_children l us)) b) (sym (ap (λ x. when x (with_part t 0 (listed vs))) e))
    (record { said = m.said; tree = ap (with_part t 0) (list_again l us f ∙ ap listed m.trees) })

let_listed : (t : Tree) → is_let t ≡ true → is_listed (part t 0) ≡ true
let_listed t e = (and_parts (is_bare t 1) (is_listed (part t 0)) (and_parts (is_let_shape (shape_of t)) (is_bare t 1 && is_listed (part t 0)) e).1).1

-- as code edits the list in it
pub let_made : (t l : Tree) (ts ds us vs : Trees) (b : Bool) → is_let t ≡ true → ts ≡ children t → l ≡ child_or_absent ts 0 → ds ≡ children l → vs ≡ with_child ts 0 (with_children l us) → Edited (bared ds) ds us b → Made (bare_let t) t (with_children t vs) b
let_made t l ts ds us vs b e f g d h m =
    let is : l ≡ part t 0 = g ∙ ap (λ w. child_or_absent w 0) f in
    let listed_there : is_listed l ≡ true = ap is_listed is ∙ let_listed t e in
    let inside : Edited (bared (children l)) (children l) us b = subst (λ w. Edited (bared w) w us b) d m in
    let whole : Made (option_and_then (λ es. when (is_let t) (with_part t 0 (listed es))) (bared (children l))) t (with_part t 0 (with_children l us)) b = let_by t l us (bared (children l)) b (is_let t) e listed_there is inside in
    let there : Made (bare_let t) t (with_part t 0 (with_children l us)) b = subst (λ x. Made (option_and_then (λ es. when (is_let t) (with_part t 0 (listed es))) (bared (children x))) t (with_part t 0 (with_children l us)) b) is whole in
    subst (λ x. Made (bare_let t) t x b) (sym (with_part_is t ts vs 0 (with_children l us) f h)) there

pub no_let : (t : Tree) → is_let t ≡ false → Made (bare_let t) t t false
no_let t e = nothing_made (bare_let t) t (by (bared (children (part t 0))))
  where
    by : (o : Option Trees) → option_and_then (λ ds. when (is_let t) (with_part t 0 (listed ds))) o ≡ None
    by None = refl
    by (Some us) = ap (λ b. when b (with_part t 0 (listed us))) e

-- ---- what holds a declaration as its first part

held_by : (t c u : Tree) (o : Option Tree) (b k : Bool) → k ≡ true → c ≡ part t 0 → Made o c u b → Made (option_and_then (λ d. when k (with_part t 0 d)) o) t (with_part t 0 u) b
held_by t c u None b k e f m = record { said = m.said; tree = ap (with_part t 0) (m.tree ∙ f) ∙ same_part t 0 }
held_by t c u (Some v) b k e f m =
    subst (λ o. Made o t (with_part t 0 u) b) (sym (ap (λ x. when x (with_part t 0 v)) e))
    (record { said = m.said; tree = ap (with_part t 0) m.tree })

-- as code edits it
pub held_made : (t c u : Tree) (ts vs : Trees) (b k : Bool) → k ≡ true → ts ≡ children t → c ≡ child_or_absent ts 0 → vs ≡ with_child ts 0 u → Made (bare_let c) c u b →
    Made (option_and_then (λ d. when k (with_part t 0 d)) (bare_let (part t 0))) t (with_children t vs) b
held_made t c u ts vs b k e f g h m =
    let is : c ≡ part t 0 = g ∙ ap (λ w. child_or_absent w 0) f in
    let whole : Made (option_and_then (λ d. when k (with_part t 0 d)) (bare_let c)) t (with_part t 0 u) b = held_by t c u (bare_let c) b k e is m in
    let there : Made (option_and_then (λ d. when k (with_part t 0 d)) (bare_let (part t 0))) t (with_part t 0 u) b = subst (λ x. Made (option_and_then (λ d. when k (with_part t 0 d)) (bare_let x)) t (with_part t 0 u) b) is whole in
    subst (λ x. Made (option_and_then (λ d. when k (with_part t 0 d)) (bare_let (part t 0))) t x b) (sym (with_part_is t ts vs 0 u f h)) there

pub not_held : (t : Tree) (k : Bool) → k ≡ false → Made (option_and_then (λ d. when k (with_part t 0 d)) (bare_let (part t 0))) t t false
not_held t k e = nothing_made (option_and_then (λ d. when k (with_part t 0 d)) (bare_let (part t 0))) t (by (bare_let (part t 0)))
  where
    by : (o : Option Tree) → option_and_then (λ d. when k (with_part t 0 d)) o ≡ None
    by None = refl
    by (Some d) = ap (λ b. when b (with_part t 0 d)) e

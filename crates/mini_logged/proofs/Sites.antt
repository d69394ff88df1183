-- What the code asks of a statement in its list is whether a row makes something there.
use Rattle.std.proofs.Common.{◌≡◌, ℕ, zero, suc, ◌+◌, ◌<◌, ◌≤◌, Bool, true, false, refl, sym, ap, ◌∙◌, arith, add-one}
use Rattle.std.specs.Prelude.{◌&&◌, ◌||◌, nat_eq, nat_lt, Option, Some, None, is_some, option_map, option_and_then, if◌then◌else◌}
use Rattle.std.proofs.lemmas.Bool.Decides.{nat_tests}
use Rattle.mini_model.specs.Tree.{Tree, Trees, none, ◌▸◌, count, children, child_or_absent, shape_of, absent, listed}
use Rattle.mini_node.specs.Children.{part, with_part, is_bare, rest_children}
use Rattle.mini_node.specs.Kinds.{is_block, is_empty_statement}
use Rattle.mini_node.specs.Walks.{next_child, no_rest}
use Rattle.mini_log.specs.Terms.{when}
use Rattle.mini_log.specs.ListRows.{arity, bare_export, bare_head, bare_let, bared, begins_undefined, first_by, gone, is_branch, is_export_shape, is_for_shape, is_joinable, is_let, joined, only, spread, stands_bare, unwrapped, unwrapped_at, within}
use Rattle.mini_log.specs.Walk.{spot}
use Rattle.mini_recorded.specs.Declaring.{place_of}
use Rattle.mini_recorded.specs.Unwrapping.{unwraps}
use Rattle.mini_logged.specs.Offers.{let_row, export_row, empty_row, block_row, offer_at, offer_held}
use Rattle.mini_logged.specs.Sites.{bares_let, bares_export, bares_head, joins, spreads, site_at, site_held}

-- ---- a declarator that begins as undefined

less_suc : (a b : ℕ) → nat_lt a b ≡ nat_lt (suc a) (suc b)
less_suc a b = grind (arith, nat_tests)

none_less : (b : ℕ) → true ≡ nat_lt 0 (suc b)
none_less b = grind (arith, nat_tests)

map_is : {A B : Type 0} (f : A → B) (o : Option A) → is_some (option_map f o) ≡ is_some o
map_is f None = refl
map_is f (Some x) = refl

bared_is : (ds : Trees) → is_some (bared ds) ≡ nat_lt (place_of ds) (count ds)
bared_is none = refl
bared_is (d ▸ ds) = by (begins_undefined d) (bared_is ds)
  where
    by : (b : Bool) → is_some (bared ds) ≡ nat_lt (place_of ds) (count ds) →
        is_some (if b then Some (with_part d 1 absent ▸ ds) else option_map (λ us. d ▸ us) (bared ds)) ≡ nat_lt (if b then 0 else suc (place_of ds)) (suc (count ds))
    by true e = none_less (count ds)
    by false e = map_is (λ us. d ▸ us) (bared ds) ∙ e ∙ less_suc (place_of ds) (count ds)

when_is : {A : Type 0} (f : A → Tree) (b : Bool) (o : Option A) → is_some (option_and_then (λ x. when b (f x)) o) ≡ (b && is_some o)
when_is f true None = refl
when_is f true (Some x) = refl
when_is f false None = refl
when_is f false (Some x) = refl

let_is : (t : Tree) → is_some (bare_let t) ≡ bares_let t
let_is t = when_is (λ ds. with_part t 0 (listed ds)) (is_let t) (bared (children (part t 0))) ∙ ap (λ b. is_let t && b) (bared_is (children (part t 0)))

export_is : (t : Tree) → is_some (bare_export t) ≡ bares_export t
export_is t = when_is (λ d. with_part t 0 d) (is_export_shape (shape_of t) && is_bare t 3) (bare_let (part t 0)) ∙ ap (λ b. (is_export_shape (shape_of t) && is_bare t 3) && b) (let_is (part t 0))

pub head_is : (t : Tree) (i : ℕ) → is_some (bare_head t i) ≡ bares_head t i
head_is t i =
    when_is (λ d. with_part t 0 d) (nat_eq (spot (children t) i) 0 && (is_for_shape (shape_of t) && is_bare t 4)) (bare_let (part t 0))
    ∙ ap (λ b. (nat_eq (spot (children t) i) 0 && (is_for_shape (shape_of t) && is_bare t 4)) && b) (let_is (part t 0))

-- ---- a statement in its list

within_is : (g : Trees → Option Trees) → g none ≡ None → (ts : Trees) (i : ℕ) → is_some (within g ts i) ≡ is_some (g (rest_children i ts))
within_is g e none zero = refl
within_is g e none (suc i) = sym (ap is_some e)
within_is g e (t ▸ ts) zero = refl
within_is g e (t ▸ ts) (suc i) = map_is (λ us. t ▸ us) (within g ts i) ∙ within_is g e ts i

within_next : (g : Trees → Option Trees) → g none ≡ None → (ts : Trees) (i : ℕ) → i < count ts → is_some (within g ts i) ≡ is_some (g (child_or_absent ts i ▸ rest_children (suc i) ts))
within_next g e ts i h = within_is g e ts i ∙ ap (λ us. is_some (g us)) (next_child ts i h)

if_is : {A : Type 0} (b : Bool) (x : A) → is_some (if b then Some x else None) ≡ b
if_is true x = refl
if_is false x = refl

joined_is : (b : Bool) (ts : Trees) (i : ℕ) → i < count ts → is_some (within (joined b) ts i) ≡ joins b ts i
joined_is b ts i h = within_is (joined b) refl ts i ∙ ap (λ us. is_some (joined b us)) (next_child ts i h) ∙ by (nat_lt (i + 1) (count ts)) refl
  where
    lt_of : (a b : ℕ) → nat_lt a b ≡ true → a < b
    lt_of a b e = grind (arith, nat_tests)

    le_of : (a b : ℕ) → nat_lt a b ≡ false → b ≤ a
    le_of a b e = grind (arith, nat_tests)

    by : (c : Bool) → nat_lt (i + 1) (count ts) ≡ c → is_some (joined b (child_or_absent ts i ▸ rest_children (suc i) ts)) ≡ (c && (b && (is_joinable (child_or_absent ts i) && is_joinable (child_or_absent ts (i + 1)))))
    by true e =
        let more = lt_of (i + 1) (count ts) e in
        ap (λ us. is_some (joined b (child_or_absent ts i ▸ us))) (next_child ts (suc i) (omega (arith, more)))
        ∙ if_is (b && (is_joinable (child_or_absent ts i) && is_joinable (child_or_absent ts (suc i)))) _
        ∙ ap (λ k. b && (is_joinable (child_or_absent ts i) && is_joinable (child_or_absent ts k))) (sym (add-one i))
    by false e = let no_more = le_of (i + 1) (count ts) e in ap (λ us. is_some (joined b (child_or_absent ts i ▸ us))) (no_rest ts (suc i) (omega (arith, no_more)))

same_at : (x a y b z c u d w e : Bool) → x ≡ a → y ≡ b → z ≡ c → u ≡ d → w ≡ e →
    (if x then Some let_row else if y then Some export_row else if z || u then Some empty_row else if w then Some block_row else None)
    ≡ (if a then Some let_row else if b then Some export_row else if c || d then Some empty_row else if e then Some block_row else None)
same_at x a y b z c u d w e f g h k l = λ j. if f j then Some let_row else if g j then Some export_row else if h j || k j then Some empty_row else if l j then Some block_row else None

pub list_is : (b : Bool) (ts : Trees) (i : ℕ) → i < count ts → site_at b ts i ≡ offer_at b ts i
list_is b ts i h =
    let t = child_or_absent ts i in
    let us = rest_children (suc i) ts in
    same_at (bares_let t) (is_some (within (first_by bare_let) ts i)) (bares_export t) (is_some (within (first_by bare_export) ts i)) (is_empty_statement t) (is_some (within gone ts i)) (joins b ts i) (is_some (within (joined b) ts i)) (spreads t)
    (is_some (within spread ts i))
    (sym (within_next (first_by bare_let) refl ts i h ∙ map_is (λ u. u ▸ us) (bare_let t) ∙ let_is t))
    (sym (within_next (first_by bare_export) refl ts i h ∙ map_is (λ u. u ▸ us) (bare_export t) ∙ export_is t)) (sym (within_next gone refl ts i h ∙ if_is (is_empty_statement t) us)) (sym (joined_is b ts i h))
    (sym (within_next spread refl ts i h ∙ if_is (spreads t) _))

nothing_at : (b : Bool) (ts : Trees) (i : ℕ) → count ts ≤ i → offer_at b ts i ≡ None
nothing_at b ts i h =
    sym
    (same_at false (is_some (within (first_by bare_let) ts i)) false (is_some (within (first_by bare_export) ts i)) false (is_some (within gone ts i)) false (is_some (within (joined b) ts i)) false (is_some (within spread ts i))
    (past (first_by bare_let) refl) (past (first_by bare_export) refl) (past gone refl) (past (joined b) refl) (past spread refl))
  where
    past : (g : Trees → Option Trees) → g none ≡ None → false ≡ is_some (within g ts i)
    past g e = sym (within_is g e ts i ∙ ap (λ us. is_some (g us)) (no_rest ts i h) ∙ ap is_some e)

pub past_list : (b : Bool) (ts : Trees) (i : ℕ) → count ts ≤ i → None ≡ offer_at b ts i
past_list b ts i h = sym (nothing_at b ts i h)

-- ---- a branch or a body

two_more : (n : ℕ) → nat_eq (suc (suc n)) 1 ≡ false
two_more n = grind (arith, nat_tests)

nowhere : (a b c : Bool) → false ≡ (a && ((b && false) && c))
nowhere true true c = refl
nowhere true false c = refl
nowhere false b c = refl

one_by : (a b c : Bool) (w : Tree) → is_some (when (a && (b && c)) w) ≡ (a && ((b && true) && c))
one_by true true true w = refl
one_by true true false w = refl
one_by true false c w = refl
one_by false b c w = refl

only_is : (us : Trees) (a b : Bool) (f : Tree → Bool) (g : Tree → Tree) → is_some (option_and_then (λ u. when (a && (b && f u)) (g u)) (only us)) ≡ (a && ((b && nat_eq (count us) 1) && f (child_or_absent us 0)))
only_is none a b f g = nowhere a b (f absent)
only_is (u ▸ none) a b f g = one_by a b (f u) (g u)
only_is (u ▸ (v ▸ us)) a b f g = nowhere a b (f u) ∙ ap (λ c. a && ((b && c) && f u)) (sym (two_more (count us)))

unwraps_is : (t : Tree) (k : ℕ) → is_some (unwrapped_at t k) ≡ unwraps t k
unwraps_is t k = only_is (children (part (part t k) 0)) (is_branch (shape_of t) k && is_bare t (arity (shape_of t))) (is_block (part t k)) (stands_bare (shape_of t) k) (λ u. with_part t k u)

same_held : (x a y b : Bool) → x ≡ a → y ≡ b → (if x then Some let_row else if y then Some block_row else None) ≡ (if a then Some let_row else if b then Some block_row else None)
same_held x a y b e f = λ j. if e j then Some let_row else if f j then Some block_row else None

pub held_is : (t : Tree) (i : ℕ) → site_held t i ≡ offer_held t i
held_is t i = same_held (bares_head t i) (is_some (bare_head t i)) (unwraps t (spot (children t) i)) (is_some (unwrapped t i)) (sym (head_is t i)) (sym (unwraps_is t (spot (children t) i)))

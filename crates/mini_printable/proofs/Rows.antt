-- What the tables have in common: a row for each class of what stands in a slot, with its goal.
use Rattle.std.proofs.Common.{◌≡◌, ℕ, suc, Bool, true, false, ◌&&◌, ◌||◌, not, List, [], ◌∷◌, refl, sym, ap, ◌∙◌, ◌⊎◌, inl, inr}
use Rattle.std.specs.Prelude.{Some, nat_le, nat_eq}
use Rattle.std.proofs.lemmas.Bool.{false≢true, eq-eqb}
use Rattle.mini_model.specs.declared.name.Name.{Name}
use Rattle.mini_model.specs.declared.shape.Shape.{Shape}
use Rattle.mini_model.specs.declared.shape.Shape.TheVariants as shape
use Rattle.mini_model.specs.Tree.{Tree, Trees, node, none, ◌▸◌, count, children, child_or_absent, is_absent}
use Rattle.mini_model.specs.Weight.{same_text}
use Rattle.mini_accept.specs.WellShaped as accept
use Rattle.mini_accept.specs.WellShaped.{Class, Slot, one, one_or_absent, many, many_or_holes, many_and_rest, many_or_holes_and_rest, an_inner, a_binding, a_label, a_private_name, these, each, each_or_last, slots_of, filling, filling_by, is_whole, has_names, is_strict_in, fits}
use Rattle.mini_print.specs.Grammar.{Goal, Anything, Least, Zero, One, Two, Gaps, Nothing, is_reserved, has_private}
use Rattle.mini_print.specs.Groups.{has_gaps}
use Rattle.mini_print.specs.Printed as printed
use Rattle.mini_print.specs.Printed.{Want, a_part, a_list, a_perhaps, a_block as a_run, a_silent, rule_in, wants_of, is_wanted, is_sound, is_printable, are_printable, is_gap, is_nothing, has_enough, has_core, takes_values, core, shown, all_shown, seen, stands, is_positive_literal, has_optional, is_optional, is_link}
use Rattle.mini_printable.proofs.Clean.{and_l, and_r, both, is_clean, are_clean, clean_node}
use Rattle.mini_printable.proofs.Seats.{Below}

-- ---- tests

pub never : (p : Bool) → (p && false) ≡ true → ⊥
never p e = false≢true (and_r p false e)

pub first_of_three : (a b c : Bool) → a ≡ true → ((a || b) || c) ≡ true
first_of_three a b c e = ap (λ d. (d || b) || c) e

pub second_of_two : (a b : Bool) → b ≡ true → (a || b) ≡ true
second_of_two true b e = refl
second_of_two false b e = e

pub second_of_three : (a b c : Bool) → b ≡ true → ((a || b) || c) ≡ true
second_of_three true b c e = refl
second_of_three false b c e = ap (λ d. d || c) e

pub third_of_three : (a b c : Bool) → c ≡ true → ((a || b) || c) ≡ true
third_of_three a b c e = second_of_two (a || b) c e

pub first_of_two : (a b : Bool) → a ≡ true → (a || b) ≡ true
first_of_two a b e = ap (λ c. c || b) e

pub and_one : (a : Bool) → a ≡ true → (a && true) ≡ true
and_one a e = ap (λ x. x && true) e

pub and_two : (a b : Bool) → a ≡ true → b ≡ true → (a && (b && true)) ≡ true
and_two a b e f = both a (b && true) e (and_one b f)

pub and_three : (a b c : Bool) → a ≡ true → b ≡ true → c ≡ true → (a && (b && (c && true))) ≡ true
and_three a b c e f g = both a (b && (c && true)) e (and_two b c f g)

pub and_four : (a b c d : Bool) → a ≡ true → b ≡ true → c ≡ true → d ≡ true → (a && (b && (c && (d && true)))) ≡ true
and_four a b c d e f g h = both a (b && (c && (d && true))) e (and_three b c d f g h)

pub either : {A B C : Type 0} → A ⊎ B → (A → C) → (B → C) → C
either (inl a) f g = f a
either (inr b) f g = g b

pub untrue : (b : Bool) → not b ≡ true → b ≡ false
untrue true e = absurd (false≢true e)
untrue false e = refl

pub same_self : (s : List ℕ) → same_text s s ≡ true
same_self [] = refl
same_self (c ∷ s) = both (nat_eq c c) (same_text s s) (eq-eqb c c refl) (same_self s)

-- ---- nodes

abbrev pub stands_at : Goal → Tree → Bool
stands_at g (node h xs n us) = stands g h xs us

pub part_of : (g : Goal) (u : Tree) → stands_at g u ≡ true → is_printable (a_part g) u ≡ true
part_of g (node h xs n us) e = first_of_three (stands g h xs us) (stands (core g) h xs us && has_core g) (stands Anything h xs us && takes_values g) e

-- in the goal that a goal is around
pub core_of : (g : Goal) (u : Tree) → has_core g ≡ true → stands_at (core g) u ≡ true → is_printable (a_part g) u ≡ true
core_of g (node h xs n us) c e = second_of_three (stands g h xs us) (stands (core g) h xs us && has_core g) (stands Anything h xs us && takes_values g) (both (stands (core g) h xs us) (has_core g) e c)

pub value_of : (g : Goal) (u : Tree) → takes_values g ≡ true → stands_at Anything u ≡ true → is_printable (a_part g) u ≡ true
value_of g (node h xs n us) c e = third_of_three (stands g h xs us) (stands (core g) h xs us && has_core g) (stands Anything h xs us && takes_values g) (both (stands Anything h xs us) (takes_values g) e c)

-- a goal that is around none is its own core
pub stands_by : (a v : Bool) → ((a || (a && false)) || (v && false)) ≡ true → a ≡ true
stands_by true v e = refl
stands_by false v e = absurd (false≢true (and_r v false e))

pub value_stands : (u : Tree) → is_printable (a_part Anything) u ≡ true → stands_at Anything u ≡ true
value_stands (node h xs n us) e = stands_by (stands Anything h xs us) (stands Anything h xs us) e

pub perhaps_of : (g : Goal) (u : Tree) → stands_at g u ≡ true → is_printable (a_perhaps g) u ≡ true
perhaps_of g (node h xs n us) e = second_of_two (is_nothing h xs us) (stands g h xs us) e

pub nothing_of : (g : Goal) (u : Tree) → is_gap u ≡ true → is_printable (a_perhaps g) u ≡ true
nothing_of g (node h xs n us) e = first_of_two (is_nothing h xs us) (stands g h xs us) e

-- a part that may be absent is so, or isn't
pub perhaps_cases : (g : Goal) (u : Tree) → is_printable (a_perhaps g) u ≡ true → ((is_absent u ≡ true) × (is_printable (a_silent Nothing) u ≡ true)) ⊎ ((is_absent u ≡ false) × (stands_at g u ≡ true))
perhaps_cases g (node shape.Absent [] n none) e = inl (refl, refl)
perhaps_cases g (node shape.Absent [] n (t ▸ ts)) e = absurd (false≢true e)
perhaps_cases g (node shape.Absent (x ∷ xs) n ts) e = absurd (false≢true e)
perhaps_cases g (node h xs n ts) e = inr (refl, e)

pub stands_present : (g : Goal) (u : Tree) → stands_at g u ≡ true → is_absent u ≡ false
stands_present g (node shape.Absent xs n ts) e = absurd (false≢true e)
stands_present g (node h xs n ts) e = refl

pub absent_shown : (g : Goal) (t : Tree) → is_absent t ≡ true → is_printable (a_perhaps g) (shown t) ≡ true → is_printable (a_silent Nothing) (shown t) ≡ true
absent_shown g (node shape.Absent [] n none) v e = refl
absent_shown g (node shape.Absent [] n (t ▸ ts)) v e = absurd (false≢true e)
absent_shown g (node shape.Absent (x ∷ xs) n ts) v e = absurd (false≢true e)
absent_shown g (node h xs n ts) v e = absurd (false≢true v)

-- where a part may be absent it is so, or fills the slot of what isn't
pub present : (strict : Bool) (c : Class) (t : Tree) → fits strict (one_or_absent c) t ≡ true → ((is_gap (shown t) ≡ true) × (is_absent t ≡ true)) ⊎ (fits strict (one c) t ≡ true)
present strict c (node shape.Absent [] n none) e = inl (refl, refl)
present strict c (node shape.Absent [] n (t ▸ ts)) e = absurd (false≢true (and_r (is_whole c shape.Absent [] n (t ▸ ts)) false e))
present strict c (node shape.Absent (x ∷ xs) n ts) e = absurd (false≢true e)
present strict c (node _ xs n ts) e = inr e

pub names_of_whole : (c : Class) (h : Shape) (xs : List Name) (n : ℕ) (ts : Trees) → is_whole c h xs n ts ≡ true → has_names h xs ≡ true
names_of_whole c h xs n ts e = and_l (has_names h xs) (accept.has_its_number c h n && (accept.has_plain_fields h && accept.has_its_parts c h ts)) e

pub parts_of_whole : (c : Class) (h : Shape) (xs : List Name) (n : ℕ) (ts : Trees) → is_whole c h xs n ts ≡ true → accept.has_its_parts c h ts ≡ true
parts_of_whole c h xs n ts e = and_r (accept.has_plain_fields h) (accept.has_its_parts c h ts) (and_r (accept.has_its_number c h n) (accept.has_plain_fields h && accept.has_its_parts c h ts) (and_r (has_names h xs) (accept.has_its_number c h n && (accept.has_plain_fields h && accept.has_its_parts c h ts)) e))

-- a table: each node of a class stands in the goal
abbrev pub Row : Class → Goal → Type 0
Row c g = (strict inside l : Bool) (h : Shape) (xs : List Name) (n : ℕ) (ts : Trees) → Below ts → (has_names h xs && accept.fill inside (filling_by (slots_of strict c h)) ts) ≡ true → is_clean l (node h xs n ts) ≡ true → accept.has_its_parts c h ts ≡ true → stands_at g (seen h xs n (all_shown ts)) ≡ true

pub filled : (strict : Bool) (c : Class) (h : Shape) (xs : List Name) (n : ℕ) (ts : Trees) → fits strict (one c) (node h xs n ts) ≡ true → (has_names h xs && accept.fill (is_strict_in strict h) (filling_by (slots_of strict c h)) ts) ≡ true
filled strict c h xs n ts e = both (has_names h xs) (accept.fill (is_strict_in strict h) (filling_by (slots_of strict c h)) ts) (names_of_whole c h xs n ts (and_l (is_whole c h xs n ts) (accept.fill (is_strict_in strict h) (filling_by (slots_of strict c h)) ts) e)) (and_r (is_whole c h xs n ts) (accept.fill (is_strict_in strict h) (filling_by (slots_of strict c h)) ts) e)

pub whole_parts : (strict : Bool) (c : Class) (h : Shape) (xs : List Name) (n : ℕ) (ts : Trees) → fits strict (one c) (node h xs n ts) ≡ true → accept.has_its_parts c h ts ≡ true
whole_parts strict c h xs n ts e = parts_of_whole c h xs n ts (and_l (is_whole c h xs n ts) (accept.fill (is_strict_in strict h) (filling_by (slots_of strict c h)) ts) e)

pub by_row : (c : Class) (g : Goal) → Row c g → (strict l : Bool) (h : Shape) (xs : List Name) (n : ℕ) (ts : Trees) → Below ts → fits strict (one c) (node h xs n ts) ≡ true → is_clean l (node h xs n ts) ≡ true → stands_at g (seen h xs n (all_shown ts)) ≡ true
by_row c g row strict l h xs n ts b e k =
    row strict (is_strict_in strict h) l h xs n ts b (filled strict c h xs n ts e) k (whole_parts strict c h xs n ts e)

-- a node without children
pub leaf : (inside : Bool) (ts : Trees) → accept.fill inside (these []) ts ≡ true → printed.fill (Some []) (all_shown ts) ≡ true
leaf inside none e = refl
leaf inside (t ▸ ts) e = absurd (false≢true e)

-- ---- names

pub label_private : (strict : Bool) (t : Tree) (a : Tree) (us : Trees) → fits strict (one a_label) t ≡ true → has_private (a ▸ (shown t ▸ us)) ≡ false
label_private strict (node (shape.IdentifierName s) xs n ts) a us e = refl
label_private strict (node h xs n ts) a us e = absurd (never (is_whole a_label h xs n ts) e)

pub private_private : (strict : Bool) (t : Tree) (a : Tree) (us : Trees) → fits strict (one a_private_name) t ≡ true → has_private (a ▸ (shown t ▸ us)) ≡ true
private_private strict (node (shape.PrivateIdentifier s) xs n ts) a us e = refl
private_private strict (node h xs n ts) a us e = absurd (never (is_whole a_private_name h xs n ts) e)

-- a name that is bound, and one that may be absent
pub bound_name : (P : Tree → Type 0) → ((x : Name) (n : ℕ) → is_reserved x.spelling ≡ false → P (node shape.BindingIdentifier (x ∷ []) n none)) → (strict l : Bool) (t : Tree) → fits strict (one a_binding) t ≡ true → is_clean l t ≡ true → P t
bound_name P f strict l (node shape.BindingIdentifier (x ∷ []) n none) e k = let c = clean_node l shape.BindingIdentifier (x ∷ []) n none refl k in f x n c.0
bound_name P f strict l (node shape.BindingIdentifier (x ∷ []) n (t ▸ ts)) e k = absurd (never (is_whole a_binding shape.BindingIdentifier (x ∷ []) n (t ▸ ts)) e)
bound_name P f strict l (node shape.BindingIdentifier [] n ts) e k = absurd (false≢true e)
bound_name P f strict l (node shape.BindingIdentifier (x ∷ y ∷ xs) n ts) e k = absurd (false≢true e)
bound_name P f strict l (node h xs n ts) e k = absurd (never (is_whole a_binding h xs n ts) e)

pub maybe_bound : (P : Tree → Type 0) → ((n : ℕ) → P (node shape.Absent [] n none)) → ((x : Name) (n : ℕ) → is_reserved x.spelling ≡ false → P (node shape.BindingIdentifier (x ∷ []) n none)) → (strict l : Bool) (t : Tree) → fits strict (one_or_absent a_binding) t ≡ true → is_clean l t ≡ true → P t
maybe_bound P g f strict l (node shape.Absent [] n none) e k = g n
maybe_bound P g f strict l (node shape.Absent [] n (t ▸ ts)) e k = absurd (never (is_whole a_binding shape.Absent [] n (t ▸ ts)) e)
maybe_bound P g f strict l (node shape.Absent (x ∷ xs) n ts) e k = absurd (false≢true e)
maybe_bound P g f strict l (node h xs n ts) e k = bound_name P f strict l (node h xs n ts) e k

-- ---- lists

pub count_shown : (ts : Trees) → count (all_shown ts) ≡ count ts
count_shown none = refl
count_shown (t ▸ ts) = ap suc (count_shown ts)

pub items_shown : (strict : Bool) (c : Class) (h : Shape) (xs : List Name) (n : ℕ) (ts : Trees) → fits strict (many c) (node h xs n ts) ≡ true → count (children (shown (node h xs n ts))) ≡ count ts
items_shown strict c shape.Listed xs n ts e = count_shown ts
items_shown strict c h xs n ts e = absurd (never (is_whole c h xs n ts) e)

pub first_shown : (strict : Bool) (c : Class) (ts : Trees) → accept.fill strict (these (many c ∷ [])) ts ≡ true → count (children (child_or_absent (all_shown ts) 0)) ≡ count (children (child_or_absent ts 0))
first_shown strict c none e = refl
first_shown strict c (node h xs n us ▸ ts) e = items_shown strict c h xs n us (and_l (fits strict (many c) (node h xs n us)) (accept.fill strict (these []) ts) e)

pub two_shown : (strict : Bool) (c : Class) (ts : Trees) → accept.fill strict (these (many c ∷ [])) ts ≡ true → nat_le 2 (count (children (child_or_absent ts 0))) ≡ true → has_enough Two (count (children (child_or_absent (all_shown ts) 0))) ≡ true
two_shown strict c ts e v = ap (nat_le 2) (first_shown strict c ts e) ∙ v

pub one_shown : (strict : Bool) (c : Class) (ts : Trees) → accept.fill strict (these (many c ∷ [])) ts ≡ true → nat_le 1 (count (children (child_or_absent ts 0))) ≡ true → has_enough One (count (children (child_or_absent (all_shown ts) 0))) ≡ true
one_shown strict c ts e v = ap (nat_le 1) (first_shown strict c ts e) ∙ v

-- a list of any length that is as long as it must be
grown_by : (a b c d e : Bool) → ((a && (b && (true && c))) && d) ≡ true → e ≡ true → ((a && (b && (e && c))) && d) ≡ true
grown_by a b c d e f k = ap (λ z. (a && (b && (z && c))) && d) k ∙ f

pub longer : (l : Least) (g : Goal) (us : Trees) → has_gaps l ≡ false → printed.fill (Some (a_list g Zero ∷ [])) us ≡ true → has_enough l (count (children (child_or_absent us 0))) ≡ true → printed.fill (Some (a_list g l ∷ [])) us ≡ true
longer l g none r f e = absurd (false≢true f)
longer One g (node h xs n us ▸ ts) r f e = grown_by (printed.is_list h) (printed.has_no_names xs) (are_printable g false us) (printed.fill (Some []) ts) (has_enough One (count us)) f e
longer Two g (node h xs n us ▸ ts) r f e = grown_by (printed.is_list h) (printed.has_no_names xs) (are_printable g false us) (printed.fill (Some []) ts) (has_enough Two (count us)) f e
longer Zero g (node h xs n us ▸ ts) r f e = f
longer Gaps g (node h xs n us ▸ ts) r f e = absurd (false≢true (sym r))

pub many_case : (strict l : Bool) (c : Class) (P : Tree → Type 0) (h : Shape) (xs : List Name) (n : ℕ) (ts : Trees) → fits strict (many c) (node h xs n ts) ≡ true → is_clean l (node h xs n ts) ≡ true → (accept.fill strict (each (one c)) ts ≡ true → are_clean false ts ≡ true → P (node shape.Listed [] n (all_shown ts))) → P (shown (node h xs n ts))
many_case strict l c P shape.Listed [] n ts e k f = f (and_r (is_whole c shape.Listed [] n ts) (accept.fill strict (each (one c)) ts) e) k
many_case strict l c P shape.Listed (x ∷ xs) n ts e k f = absurd (false≢true e)
many_case strict l c P h xs n ts e k f = absurd (never (is_whole c h xs n ts) e)

pub holes_case : (strict l : Bool) (c : Class) (P : Tree → Type 0) (h : Shape) (xs : List Name) (n : ℕ) (ts : Trees) → fits strict (many_or_holes c) (node h xs n ts) ≡ true → is_clean l (node h xs n ts) ≡ true → (accept.fill strict (each (one_or_absent c)) ts ≡ true → are_clean false ts ≡ true → P (node shape.Listed [] n (all_shown ts))) → P (shown (node h xs n ts))
holes_case strict l c P shape.Listed [] n ts e k f = f (and_r (is_whole c shape.Listed [] n ts) (accept.fill strict (each (one_or_absent c)) ts) e) k
holes_case strict l c P shape.Listed (x ∷ xs) n ts e k f = absurd (false≢true e)
holes_case strict l c P h xs n ts e k f = absurd (never (is_whole c h xs n ts) e)

pub rest_case : (strict l : Bool) (c r : Class) (P : Tree → Type 0) (h : Shape) (xs : List Name) (n : ℕ) (ts : Trees) → fits strict (many_and_rest c r) (node h xs n ts) ≡ true → is_clean l (node h xs n ts) ≡ true → (accept.fill strict (each_or_last (one c) (one r)) ts ≡ true → are_clean false ts ≡ true → P (node shape.Listed [] n (all_shown ts))) → P (shown (node h xs n ts))
rest_case strict l c r P shape.Listed [] n ts e k f = f (and_r (is_whole c shape.Listed [] n ts) (accept.fill strict (each_or_last (one c) (one r)) ts) e) k
rest_case strict l c r P shape.Listed (x ∷ xs) n ts e k f = absurd (false≢true e)
rest_case strict l c r P h xs n ts e k f = absurd (never (is_whole c h xs n ts) e)

pub holes_rest_case : (strict l : Bool) (c r : Class) (P : Tree → Type 0) (h : Shape) (xs : List Name) (n : ℕ) (ts : Trees) → fits strict (many_or_holes_and_rest c r) (node h xs n ts) ≡ true → is_clean l (node h xs n ts) ≡ true → (accept.fill strict (each_or_last (one_or_absent c) (one r)) ts ≡ true → are_clean false ts ≡ true → P (node shape.Listed [] n (all_shown ts))) → P (shown (node h xs n ts))
holes_rest_case strict l c r P shape.Listed [] n ts e k f = f (and_r (is_whole c shape.Listed [] n ts) (accept.fill strict (each_or_last (one_or_absent c) (one r)) ts) e) k
holes_rest_case strict l c r P shape.Listed (x ∷ xs) n ts e k f = absurd (false≢true e)
holes_rest_case strict l c r P h xs n ts e k f = absurd (never (is_whole c h xs n ts) e)

-- The end of a sequence, step by step, and what is left without it.
use Rattle.std.proofs.Common.{◌≡◌, ℕ, zero, suc, ◌+◌, ◌-◌, ◌<◌, Bool, true, false, refl, sym, ap, subst, ◌∙◌, true≢false, arith}
use Rattle.std.specs.Prelude.{not, ◌&&◌, ◌==◌, nat_lt, if◌then◌else◌}
use Rattle.std.proofs.lemmas.Bool.{and_parts, eqb-true, ltb-true, lt-ltb}
use Rattle.mini_model.specs.Tree.{Tree, Trees, node, none, ◌▸◌, absent, children, child_or_absent, count, listed, node_count, node_counts}
use Rattle.mini_node.specs.Children.{part, with_child, without}
use Rattle.mini_node.specs.Kinds.{sequence, is_sequence, is_negation}
use Rattle.mini_node.specs.Made.{sequence_is}
use Rattle.mini_logic.specs.Sequences.{end_of, end_below, last_end, has_parts, kept_sequence, parts_left, last_left, left_below, has_end, have_end, put_back, ends_in_not, ends_below, last_ends, end_bared, bared_below, last_bared}

pub children_fewer : (t : Tree) → node_counts (children t) < node_count t
children_fewer (node h xs n ts) = omega arith

pub ends_in_sequence : (t : Tree) → has_end t ≡ true → is_sequence t ≡ true
ends_in_sequence t e = (and_parts (is_sequence t) (not (is_sequence (end_of t))) e).0

-- a sequence whose parts are taken out
pub sequence_again : (t : Tree) → is_sequence t ≡ true → t ≡ sequence (children (part t 0))
sequence_again t e = sequence_is t e

pub holds_list : (t : Tree) (us : Trees) → is_sequence t ≡ true → us ≡ children t → 0 < count us
holds_list t us e f = let is : us ≡ listed (children (part t 0)) ▸ none = f ∙ ap children (sequence_is t e) in omega (arith, ap count is)

part_fewer : (ts : Trees) → node_counts (children (child_or_absent ts 0)) < 1 + node_counts ts
part_fewer none = omega arith
part_fewer (t ▸ ts) = let fewer = children_fewer t in omega (arith, fewer)

pub parts_fewer : (t : Tree) → node_counts (children (part t 0)) < node_count t
parts_fewer (node h xs n ts) = part_fewer ts

-- ---- the end

below_is : (d : Tree) (ts : Trees) → end_below d ts ≡ last_end d (children (child_or_absent ts 0))
below_is d none = refl
below_is d (node h xs n us ▸ ts) = refl

pub end_in : (t : Tree) → is_sequence t ≡ true → end_of t ≡ last_end t (children (part t 0))
end_in (node h xs n ts) e = ap (λ b. if b then end_below (node h xs n ts) ts else node h xs n ts) e ∙ below_is (node h xs n ts) ts

pub end_there : (t : Tree) → is_sequence t ≡ false → end_of t ≡ t
end_there (node h xs n ts) e = ap (λ b. if b then end_below (node h xs n ts) ts else node h xs n ts) e

pub last_at : (d : Tree) (us : Trees) (i : ℕ) → i + 1 ≡ count us → last_end d us ≡ end_of (child_or_absent us i)
last_at d none i e = absurd (omega (arith, e))
last_at d (u ▸ none) zero e = refl
last_at d (u ▸ none) (suc i) e = absurd (omega (arith, e))
last_at d (u ▸ (v ▸ us)) zero e = absurd (omega (arith, e))
last_at d (u ▸ (v ▸ us)) (suc i) e = last_at d (v ▸ us) i (omega (arith, e))

-- in a list that is not empty, that of its last part
pub end_last : (t : Tree) → is_sequence t ≡ true → 0 < count (children (part t 0)) → end_of t ≡ end_of (child_or_absent (children (part t 0)) (count (children (part t 0)) - 1))
end_last t e h = end_in t e ∙ last_at t (children (part t 0)) (count (children (part t 0)) - 1) (omega (arith, h))

never : (n : ℕ) → suc n == 0 ≡ true → ⊥
never n e = let is : suc n ≡ 0 = eqb-true (suc n) 0 e in omega (arith, is)

empty_list : (us : Trees) → count us == 0 ≡ true → us ≡ none
empty_list none e = refl
empty_list (u ▸ us) e = absurd (never (count us) e)

pub end_alone : (t : Tree) → has_parts t ≡ false → end_of t ≡ t
end_alone t e = go (is_sequence t) refl
  where
    go : (b : Bool) → is_sequence t ≡ b → end_of t ≡ t
    go false h = end_there t h
    go true h = end_in t h ∙ by (count (children (part t 0)) == 0) refl (ap (λ b. b && not (count (children (part t 0)) == 0)) (sym h) ∙ e)
      where
        by : (b : Bool) → count (children (part t 0)) == 0 ≡ b → not b ≡ false → last_end t (children (part t 0)) ≡ t
        by true k f = ap (last_end t) (empty_list (children (part t 0)) k)
        by false k f = absurd (true≢false f)

-- ---- of parts in order

any_default : (d c : Tree) (us : Trees) (i : ℕ) → i + 1 ≡ count us → last_end d us ≡ last_end c us
any_default d c us i e = last_at d us i e ∙ sym (last_at c us i e)

pub have_some : (us : Trees) → have_end us ≡ true → 0 < count us
have_some none e = absurd (true≢false (sym e))
have_some (u ▸ us) e = omega arith

not_true : (b : Bool) → not b ≡ true → b ≡ false
not_true false e = refl
not_true true e = absurd (true≢false (sym e))

-- a sequence whose end is none has parts with an end, and that is its own
record Ended (t : Tree) : Type 0 where
  pub parts : have_end (children (part t 0)) ≡ true
  pub is : last_end (sequence none) (children (part t 0)) ≡ end_of t

ended : (t : Tree) → is_sequence t ≡ true → is_sequence (end_of t) ≡ false → Ended t
ended t e f = by (children (part t 0)) refl
  where
    by : (us : Trees) → children (part t 0) ≡ us → Ended t
    by none h = absurd (true≢false (sym e ∙ sym (ap is_sequence (end_in t e ∙ ap (last_end t) h)) ∙ f))
    by (u ▸ us) h =
        let whole = children (part t 0) in
        let counted : (count whole - 1) + 1 ≡ count whole = omega (arith, ap count h) in
        let is : last_end (sequence none) whole ≡ end_of t = any_default (sequence none) t whole (count whole - 1) counted ∙ sym (end_in t e) in
        record { parts = ap (λ x. not (is_sequence x)) is ∙ ap not f; is = is }

pub end_of_parts : (t : Tree) → has_end t ≡ true → last_end (sequence none) (children (part t 0)) ≡ end_of t
end_of_parts t e = let (is, other) = and_parts (is_sequence t) (not (is_sequence (end_of t))) e in (ended t is (not_true (is_sequence (end_of t)) other)).is

pub parts_have_end : (t : Tree) → has_end t ≡ true → have_end (children (part t 0)) ≡ true
parts_have_end t e = let (is, other) = and_parts (is_sequence t) (not (is_sequence (end_of t))) e in (ended t is (not_true (is_sequence (end_of t)) other)).parts

-- so the last part, where it is a sequence, has an end
pub last_has_end : (us : Trees) (i : ℕ) → have_end us ≡ true → i + 1 ≡ count us → is_sequence (child_or_absent us i) ≡ true → has_end (child_or_absent us i) ≡ true
last_has_end us i e f is = ap (λ b. b && not (is_sequence (end_of (child_or_absent us i)))) is ∙ ap (λ x. not (is_sequence x)) (sym (last_at (sequence none) us i f)) ∙ e

-- the last part, where it is no sequence, is the end
pub end_is_last : (us : Trees) (i : ℕ) → i + 1 ≡ count us → is_sequence (child_or_absent us i) ≡ false → child_or_absent us i ≡ last_end (sequence none) us
end_is_last us i e f = sym (last_at (sequence none) us i e ∙ end_there (child_or_absent us i) f)

-- and where it is one, its parts have the end
pub last_parts : (us : Trees) (i : ℕ) → have_end us ≡ true → i + 1 ≡ count us → is_sequence (child_or_absent us i) ≡ true → have_end (children (part (child_or_absent us i) 0)) ≡ true
last_parts us i e f is = parts_have_end (child_or_absent us i) (last_has_end us i e f is)

pub last_parts_end : (us : Trees) (i : ℕ) → have_end us ≡ true → i + 1 ≡ count us → is_sequence (child_or_absent us i) ≡ true → last_end (sequence none) (children (part (child_or_absent us i) 0)) ≡ last_end (sequence none) us
last_parts_end us i e f is = end_of_parts (child_or_absent us i) (last_has_end us i e f is) ∙ sym (last_at (sequence none) us i f)

-- ---- what is left

left_below_is : (ts : Trees) → left_below ts ≡ parts_left (children (child_or_absent ts 0))
left_below_is none = refl
left_below_is (node h xs n us ▸ ts) = refl

last_in : (t : Tree) → is_sequence t ≡ true → last_left t ≡ kept_sequence (parts_left (children (part t 0)))
last_in (node h xs n ts) e = ap (λ b. if b then kept_sequence (left_below ts) else none) e ∙ ap kept_sequence (left_below_is ts)

last_there : (t : Tree) → is_sequence t ≡ false → last_left t ≡ none
last_there (node h xs n ts) e = ap (λ b. if b then kept_sequence (left_below ts) else none) e

left_without : (us : Trees) (i : ℕ) → i + 1 ≡ count us → last_left (child_or_absent us i) ≡ none → without us i ≡ parts_left us
left_without none i e f = absurd (omega (arith, e))
left_without (u ▸ none) zero e f = sym f
left_without (u ▸ none) (suc i) e f = absurd (omega (arith, e))
left_without (u ▸ (v ▸ us)) zero e f = absurd (omega (arith, e))
left_without (u ▸ (v ▸ us)) (suc i) e f = ap (λ x. u ▸ x) (left_without (v ▸ us) i (omega (arith, e)) f)

left_with : (us : Trees) (i : ℕ) (x : Tree) → i + 1 ≡ count us → last_left (child_or_absent us i) ≡ (x ▸ none) → with_child us i x ≡ parts_left us
left_with none i x e f = absurd (omega (arith, e))
left_with (u ▸ none) zero x e f = sym f
left_with (u ▸ none) (suc i) x e f = absurd (omega (arith, e))
left_with (u ▸ (v ▸ us)) zero x e f = absurd (omega (arith, e))
left_with (u ▸ (v ▸ us)) (suc i) x e f = ap (λ y. u ▸ y) (left_with (v ▸ us) i x (omega (arith, e)) f)

without_with : (us : Trees) (i : ℕ) (x : Tree) → without (with_child us i x) i ≡ without us i
without_with none i x = refl
without_with (u ▸ us) zero x = refl
without_with (u ▸ us) (suc i) x = ap (λ y. u ▸ y) (without_with us i x)

with_twice : (us : Trees) (i : ℕ) (x y : Tree) → with_child (with_child us i x) i y ≡ with_child us i y
with_twice none i x y = refl
with_twice (u ▸ us) zero x y = refl
with_twice (u ▸ us) (suc i) x y = ap (λ z. u ▸ z) (with_twice us i x y)

-- where the last part is no sequence it goes
pub left_without_last : (us : Trees) (i : ℕ) → i + 1 ≡ count us → is_sequence (child_or_absent us i) ≡ false → without us i ≡ parts_left us
left_without_last us i e f = left_without us i e (last_there (child_or_absent us i) f)

-- and a sequence loses its end
pub left_put_back : (us : Trees) (i : ℕ) → i + 1 ≡ count us → is_sequence (child_or_absent us i) ≡ true → put_back (with_child us i absent) i (parts_left (children (part (child_or_absent us i) 0))) ≡ parts_left us
left_put_back us i e f = by (parts_left (children (part (child_or_absent us i) 0))) (last_in (child_or_absent us i) f)
  where
    by : (ls : Trees) → last_left (child_or_absent us i) ≡ kept_sequence ls → put_back (with_child us i absent) i ls ≡ parts_left us
    by none h = without_with us i absent ∙ left_without us i e h
    by (l ▸ ls) h = with_twice us i absent (sequence (l ▸ ls)) ∙ left_with us i (sequence (l ▸ ls)) e h

pub empty_back : (us ls : Trees) (i : ℕ) → count ls == 0 ≡ true → without us i ≡ put_back us i ls
empty_back us none i e = refl
empty_back us (l ▸ ls) i e = absurd (never (count ls) e)

pub full_back : (us ls : Trees) (i : ℕ) → count ls == 0 ≡ false → with_child us i (sequence ls) ≡ put_back us i ls
full_back us none i e = absurd (true≢false e)
full_back us (l ▸ ls) i e = refl

-- ---- the end without its `!`

pub ends_here : (t : Tree) → is_sequence t ≡ false → ends_in_not t ≡ is_negation t
ends_here (node h xs n ts) e = ap (λ b. if b then ends_below ts else is_negation (node h xs n ts)) e

last_ends_at : (us : Trees) (i : ℕ) → i + 1 ≡ count us → last_ends us ≡ ends_in_not (child_or_absent us i)
last_ends_at none i e = absurd (omega (arith, e))
last_ends_at (u ▸ none) zero e = refl
last_ends_at (u ▸ none) (suc i) e = absurd (omega (arith, e))
last_ends_at (u ▸ (v ▸ us)) zero e = absurd (omega (arith, e))
last_ends_at (u ▸ (v ▸ us)) (suc i) e = last_ends_at (v ▸ us) i (omega (arith, e))

several_end : (us : Trees) → Bool
several_end none = false
several_end (u ▸ us) = last_ends us

ends_below_is : (ts : Trees) → ends_below ts ≡ several_end (children (child_or_absent ts 0))
unfolding several_end
ends_below_is none = refl
ends_below_is (node h xs n none ▸ ts) = refl
ends_below_is (node h xs n (u ▸ us) ▸ ts) = refl

ends_in : (t : Tree) → is_sequence t ≡ true → ends_in_not t ≡ several_end (children (part t 0))
ends_in (node h xs n ts) e = ap (λ b. if b then ends_below ts else is_negation (node h xs n ts)) e ∙ ends_below_is ts

several_at : (us : Trees) → several_end us ≡ (nat_lt 1 (count us) && ends_in_not (child_or_absent us (count us - 1)))
unfolding several_end
several_at none = refl
several_at (u ▸ none) = refl
several_at (u ▸ (v ▸ us)) =
    let last : suc (count us) ≡ count (u ▸ (v ▸ us)) - 1 = omega arith in
    last_ends_at (v ▸ us) (count us) (omega arith)
    ∙ sym (ap (λ b. b && ends_in_not (child_or_absent (v ▸ us) (count us))) (lt-ltb 1 (count (u ▸ (v ▸ us))) (omega arith)))
    ∙ ap (λ i. nat_lt 1 (count (u ▸ (v ▸ us))) && ends_in_not (child_or_absent (u ▸ (v ▸ us)) i)) last

-- a sequence of two at least ends as its last part does
pub ends_last : (t : Tree) → is_sequence t ≡ true → ends_in_not t ≡ (nat_lt 1 (count (children (part t 0))) && ends_in_not (child_or_absent (children (part t 0)) (count (children (part t 0)) - 1)))
ends_last t e = ends_in t e ∙ several_at (children (part t 0))

both_are : (a b : Bool) → (a && b) ≡ true → (a ≡ true) × (b ≡ true)
both_are a b e = and_parts a b e

pub ends_then : (t : Tree) → is_sequence t ≡ true → 1 < count (children (part t 0)) → ends_in_not (child_or_absent (children (part t 0)) (count (children (part t 0)) - 1)) ≡ ends_in_not t
ends_then t e h = ap (λ b. b && ends_in_not (child_or_absent (children (part t 0)) (count (children (part t 0)) - 1))) (sym (lt-ltb 1 (count (children (part t 0))) h)) ∙ sym (ends_last t e)

pub several_parts : (t : Tree) (us : Trees) → is_sequence t ≡ true → us ≡ children (part t 0) → ends_in_not t ≡ true → 1 < count us
several_parts t us e f g = let few = ltb-true 1 (count (children (part t 0))) (both_are _ _ (sym (ends_last t e) ∙ g)).0 in omega (arith, few, ap count f)

pub last_in_not : (t : Tree) (us : Trees) → is_sequence t ≡ true → us ≡ children (part t 0) → ends_in_not t ≡ true → ends_in_not (child_or_absent us (count us - 1)) ≡ true
last_in_not t us e f g = subst (λ x. ends_in_not (child_or_absent x (count x - 1)) ≡ true) (sym f) (both_are _ _ (sym (ends_last t e) ∙ g)).1

pub bared_here : (t : Tree) → is_sequence t ≡ false → end_bared t ≡ part t 0
bared_here (node h xs n ts) e = ap (λ b. if b then node h xs n (bared_below ts) else part (node h xs n ts) 0) e

last_bared_at : (us : Trees) (i : ℕ) → i + 1 ≡ count us → last_bared us ≡ with_child us i (end_bared (child_or_absent us i))
last_bared_at none i e = absurd (omega (arith, e))
last_bared_at (u ▸ none) zero e = refl
last_bared_at (u ▸ none) (suc i) e = absurd (omega (arith, e))
last_bared_at (u ▸ (v ▸ us)) zero e = absurd (omega (arith, e))
last_bared_at (u ▸ (v ▸ us)) (suc i) e = ap (λ x. u ▸ x) (last_bared_at (v ▸ us) i (omega (arith, e)))

-- and without the `!` it is the sequence with that part without it
pub bared_last : (t : Tree) (us : Trees) (i : ℕ) → is_sequence t ≡ true → us ≡ children (part t 0) → i + 1 ≡ count us → sequence (with_child (with_child us i absent) i (end_bared (child_or_absent us i))) ≡ end_bared t
bared_last t us i e f g = ap sequence (with_twice us i absent (end_bared (child_or_absent us i)) ∙ sym (last_bared_at us i g)) ∙ ap (λ x. sequence (last_bared x)) f ∙ sym (ap end_bared (sequence_is t e))

pub part_within : (us : Trees) (i : ℕ) → i < count us → node_count (child_or_absent us i) < 1 + node_counts us
part_within none i e = absurd (omega (arith, e))
part_within (u ▸ us) zero e = omega arith
part_within (u ▸ us) (suc i) e = let rest = part_within us i (omega (arith, e)) in omega (arith, rest)

-- What a row on templates writes, where it is lighter, makes the whole lighter; and how much less it weighs.
use Rattle.std.proofs.Common.{◌≡◌, ℕ, zero, suc, ◌+◌, ◌-◌, ◌*◌, ◌<◌, ◌≤◌, ◌==◌, Bool, true, false, List, [], ◌∷◌, ◌++◌, length, take, codes, cond, length-append, refl, sym, ap, ◌∙◌, inl, inr, true≢false, ltb-true, ltb-false, arith}
use Rattle.std.proofs.lemmas.List.{length-take}
use Rattle.std.proofs.lemmas.Bool.{leb-true, le-leb, eq-eqb}
use Rattle.std.specs.Prelude.{◌&&◌, ◌||◌, nat_eq, nat_le, nat_lt, if◌then◌else◌}
use Rattle.std.proofs.Math.Dec.{eqb-suc-zero}
use Rattle.mini_model.specs.declared.operator.BinaryOperator.TheVariants.{Addition}
use Rattle.mini_model.specs.declared.place.Position.{Position}
use Rattle.mini_model.specs.declared.place.Position.TheVariants.{Expr, Elsewhere}
use Rattle.mini_model.specs.declared.seat.Seat.{Seat}
use Rattle.mini_model.specs.declared.shape.Shape.TheVariants as shape
use Rattle.mini_model.specs.Paths.{append}
use Rattle.mini_model.specs.Joined.{Ending, Backslash, Null, Dollar, Other, ending_of, readied, joined}
use Rattle.mini_model.specs.Position.{whole_seat, binary_operand_seat}
use Rattle.mini_model.specs.Templates.{is_digit}
use Rattle.mini_model.specs.Tree.{Tree, Trees, none, ◌▸◌, count, listed}
use Rattle.mini_model.specs.Weight.{Outline, outline, outlines, weight, weights, place_weight, parentheses, template_weight, flagged}
use Rattle.mini_laws.specs.Weights.{Lightens}
use Rattle.mini_rows.specs.Templates.{Piece, piece, pieces, template, pair, spelled, Row18, Row5Both, Row5After, Row5Before, Row5, Row6, TemplateRow, TemplateContracts}
use Rattle.mini_model.proofs.Ends.{null_front}
use Rattle.mini_rows.specs.Spellings.{binary}
use Rattle.mini_rows.proofs.TemplatePieces.{joined_is}
use Rattle.mini_rows.proofs.TemplateRuns.{count_append}

-- the pieces, and the parts

abbrev pub raws : List Piece → ℕ
raws [] = 0
raws (p ∷ ps) = 2 * length p.raw + raws ps

abbrev pub parts_weight : Trees → ℕ
parts_weight none = 0
parts_weight (t ▸ ts) = weight (Expr whole_seat) t + parts_weight ts

nowhere_weigh : (ps : List Piece) → weights (λ i. Elsewhere) (pieces ps) ≡ raws ps
nowhere_weigh [] = refl
nowhere_weigh (p ∷ ps) = let rest = nowhere_weigh ps in omega (arith, rest)

behind_weigh : (ps qs : List Piece) → weights (λ i. Elsewhere) (append (pieces ps) (pieces qs)) ≡ raws ps + raws qs
behind_weigh [] qs = let rest = nowhere_weigh qs in omega (arith, rest)
behind_weigh (p ∷ ps) qs = let rest = behind_weigh ps qs in omega (arith, rest)

parts_weigh : (ts : Trees) → weights (λ i. Expr whole_seat) ts ≡ parts_weight ts
parts_weigh none = refl
parts_weigh (t ▸ ts) = let rest = parts_weigh ts in omega (arith, rest)

pub parts_append : (ts us : Trees) → parts_weight (append ts us) ≡ parts_weight ts + parts_weight us
parts_append none us = omega arith
parts_append (t ▸ ts) us = let rest = parts_append ts us in omega (arith, rest)

-- the mark of one without parts, on the left of an equality
abbrev pub mark : Bool → ℕ → ℕ
mark left n = if (left && nat_eq n 0) || false then 1 else 0

never : (b : Bool) → b && false ≡ false
never true = refl
never false = refl

items_count : (ts : Trees) → length (outlines ts) ≡ count ts
items_count none = refl
items_count (t ▸ ts) = ap suc (items_count ts)

-- parentheses, the mark, and its own text
abbrev own : Seat → ℕ → ℕ
own s k = parentheses shape.TemplateLiteral s + mark s.eq_left k + template_weight k

owned : (s : Seat) (ps ts : Trees) → place_weight (Expr s) shape.TemplateLiteral (outlines (listed ps ▸ (listed ts ▸ none))) + template_weight (length (outlines ts)) ≡ own s (count ts)
owned s ps ts =
    ap (λ b. parentheses shape.TemplateLiteral s + (if (s.eq_left && nat_eq (length (outlines ts)) 0) || b then 1 else 0) + template_weight (length (outlines ts))) (ap (λ b. b || (s.lifted && false)) (never s.cond_test) ∙ never s.lifted)
    ∙ ap (own s) (items_count ts)

pub template_weighs : (s : Seat) (ps qs : List Piece) (ts : Trees) → weight (Expr s) (template (append (pieces ps) (pieces qs)) ts) ≡ own s (count ts) + (raws ps + raws qs + parts_weight ts)
template_weighs s ps qs ts =
    let its_own = owned s (append (pieces ps) (pieces qs)) ts in
    let texts = behind_weigh ps qs in
    let parts = parts_weigh ts in
    omega (arith, its_own, texts, parts)

-- one with parts
own_more : (s : Seat) (k : ℕ) → own s (suc k) ≡ parentheses shape.TemplateLiteral s + (4 + 6 * suc k)
own_more s k = ap (λ b. parentheses shape.TemplateLiteral s + (if (s.eq_left && b) || false then 1 else 0) + (4 + 6 * suc k + flagged b 1)) (eqb-suc-zero k) ∙ go s.eq_left
  where
    go : (left : Bool) → parentheses shape.TemplateLiteral s + (if (left && false) || false then 1 else 0) + (4 + 6 * suc k + flagged false 1) ≡ parentheses shape.TemplateLiteral s + (4 + 6 * suc k)
    go true = omega arith
    go false = omega arith

-- what one without parts weighs more
abbrev pub spare : Seat → ℕ → ℕ
spare s n = flagged (nat_eq n 0) 1 + mark s.eq_left n

-- 18: what goes, and what comes for it
pub inlined_weighs : (s : Seat) (n w : Tree) (r : Row18 n w) → weight (Expr s) w + (6 + 2 * length r.first.raw + 2 * length r.second.raw + weight (Expr whole_seat) r.part) ≡ weight (Expr s) n + (2 * length (pair (pair r.first (spelled r.text)) r.second).raw + spare s (count (append r.earlier r.later)))
inlined_weighs s n w r =
    let one = ap (weight (Expr s)) r.shape ∙ template_weighs s r.before (r.first ∷ (r.second ∷ r.after)) (append r.earlier (r.part ▸ r.later)) in
    let other = ap (weight (Expr s)) r.written ∙ template_weighs s r.before (pair (pair r.first (spelled r.text)) r.second ∷ r.after) (append r.earlier r.later) in
    let read = parts_append r.earlier (r.part ▸ r.later) in
    let put = parts_append r.earlier r.later in
    let counts = count_append r.earlier (r.part ▸ r.later) in
    let fewer = count_append r.earlier r.later in
    let many : count (append r.earlier (r.part ▸ r.later)) ≡ suc (count (append r.earlier r.later)) = omega (arith, counts, fewer) in
    let heavy = one ∙ ap (λ k. own s k + (raws r.before + raws (r.first ∷ (r.second ∷ r.after)) + parts_weight (append r.earlier (r.part ▸ r.later)))) many in
    let has_parts = own_more s (count (append r.earlier r.later)) in
    omega (arith, heavy, other, read, put, has_parts)

-- what is read weighs more than its part by this at least
pub inlined_heavy : (s : Seat) (n w : Tree) (r : Row18 n w) → weight (Expr whole_seat) r.part + 10 ≤ weight (Expr s) n
inlined_heavy s n w r =
    let whole = ap (weight (Expr s)) r.shape ∙ template_weighs s r.before (r.first ∷ (r.second ∷ r.after)) (append r.earlier (r.part ▸ r.later)) in
    let parts = parts_append r.earlier (r.part ▸ r.later) in
    let counts = count_append r.earlier (r.part ▸ r.later) in
    let fewer = count_append r.earlier r.later in
    let many : count (append r.earlier (r.part ▸ r.later)) ≡ suc (count (append r.earlier r.later)) = omega (arith, counts, fewer) in
    let heavy = whole ∙ ap (λ k. own s k + (raws r.before + raws (r.first ∷ (r.second ∷ r.after)) + parts_weight (append r.earlier (r.part ▸ r.later)))) many in
    let has_parts = own_more s (count (append r.earlier r.later)) in
    omega (arith, heavy, parts, has_parts)

-- ---- 5

-- `+` over two operands
place_of_sum : (s : Seat) (os : List Outline) → place_weight (Expr s) (shape.BinaryExpression Addition) os ≡ parentheses (shape.BinaryExpression Addition) s
place_of_sum s os = ap (λ b. parentheses (shape.BinaryExpression Addition) s + (if (s.eq_left && false) || b then 1 else 0)) (ap (λ b. b || (s.lifted && false)) (never s.cond_test) ∙ never s.lifted) ∙ go (s.eq_left && false) (never s.eq_left)
  where
    go : (b : Bool) → b ≡ false → parentheses (shape.BinaryExpression Addition) s + (if b || false then 1 else 0) ≡ parentheses (shape.BinaryExpression Addition) s
    go true e = absurd (true≢false e)
    go false e = omega arith

abbrev pub left_seat : Seat
left_seat = binary_operand_seat Addition 0

abbrev pub right_seat : Seat
right_seat = binary_operand_seat Addition 1

sum_weighs : (s : Seat) (a b : Tree) → weight (Expr s) (binary Addition a b) ≡ parentheses (shape.BinaryExpression Addition) s + 2 + weight (Expr left_seat) a + weight (Expr right_seat) b
sum_weighs s a b = let place = place_of_sum s (outlines (a ▸ (b ▸ none))) in omega (arith, place)

own_left : (k : ℕ) → own left_seat k ≡ template_weight k
own_left k = omega arith

own_right : (k : ℕ) → own right_seat k ≡ template_weight k
own_right k = omega arith

-- the parentheses round a sum that a template has not
abbrev pub bonus : Seat → ℕ
bonus s = if nat_lt 11 s.level && nat_le s.level 16 then 4 else 0

closed : (a b c : Bool) → (a || (false || ((b && false) || (c && false)))) ≡ a
closed true b c = refl
closed false b c = ap (λ d. d || (c && false)) (never b) ∙ never c

sum_parentheses : (s : Seat) → parentheses (shape.BinaryExpression Addition) s ≡ parentheses shape.TemplateLiteral s + bonus s
sum_parentheses s =
    ap (λ b. if b then 4 else 0) (closed (nat_lt 11 s.level) s.access s.new_callee) ∙ go (nat_lt 11 s.level) (nat_lt 16 s.level) (nat_le s.level 16) refl refl refl
    ∙ sym (ap (λ b. (if b then 4 else 0) + bonus s) (closed (nat_lt 16 s.level) s.access s.new_callee))
  where
    go : (b c d : Bool) → nat_lt 11 s.level ≡ b → nat_lt 16 s.level ≡ c → nat_le s.level 16 ≡ d → (if b then 4 else 0) ≡ (if c then 4 else 0) + (if b && d then 4 else 0)
    go true true true e f g = let above = ltb-true 16 s.level f in let below = leb-true s.level 16 g in absurd (omega (arith, above, below))
    go true true false e f g = refl
    go true false true e f g = refl
    go true false false e f g = let below = ltb-false 16 s.level f in absurd (true≢false (sym (le-leb s.level 16 (omega (arith, below))) ∙ g))
    go false true d e f g = let above = ltb-true 16 s.level f in let below = ltb-false 11 s.level e in absurd (omega (arith, above, below))
    go false false d e f g = refl

-- what two raw texts get when they are joined
picked_short : (n : ℕ) (b : Bool) (s t : List ℕ) → length s ≤ n → length t ≤ n → length (cond b s t) ≤ n
picked_short n true s t h k = h
picked_short n false s t h k = k

readied_short : (ending : Ending) (raw : List ℕ) (u : ℕ) → ending_of raw ≡ ending → length (readied ending raw u) ≤ length raw + 2
readied_short Null raw u e =
    let (front, (is, unclosed)) = null_front raw e in
    let some = ap length is ∙ length-append front (48 ∷ []) in
    let sum = length-append (take (length raw - 1) raw) (codes "x00") in
    let short = length-take (length raw - 1) raw in
    picked_short (length raw + 2) (is_digit u) (take (length raw - 1) raw ++ codes "x00") raw (omega (arith, some, sum, short)) (omega arith)
readied_short Dollar raw u e =
    let sum = length-append raw (92 ∷ []) in
    picked_short (length raw + 2) (u == 123) (raw ++ 92 ∷ []) raw (omega (arith, sum)) (omega arith)
readied_short Backslash raw u e = omega arith
readied_short Other raw u e = omega arith

pub joined_short : (a b : List ℕ) → length (joined (a ∷ (b ∷ []))) ≤ length a + length b + 2
joined_short a [] = let same = ap length (joined_is a []) in omega (arith, same)
joined_short a (u ∷ us) =
    let same = ap length (joined_is a (u ∷ us)) in
    let sum = length-append (readied (ending_of a) a u) (u ∷ us) in
    let short = readied_short (ending_of a) a u refl in
    omega (arith, same, sum, short)

mark_small : (b : Bool) (n : ℕ) → mark b n ≤ flagged (nat_eq n 0) 1
mark_small b n = go b (nat_eq n 0)
  where
    go : (b c : Bool) → (if (b && c) || false then 1 else 0) ≤ (if c then 1 else 0)
    go true true = omega arith
    go true false = omega arith
    go false true = omega arith
    go false false = omega arith

-- one without parts, of two that have none
flag_small : (b : Bool) → flagged b 1 ≤ 1
flag_small true = omega arith
flag_small false = omega arith

suc_plus : (k l : ℕ) → suc k + l ≡ suc (k + l)
suc_plus k l = omega arith

plus_zero : (l : ℕ) → zero + l ≡ l
plus_zero l = omega arith

flag_sum : (k l : ℕ) → 2 * flagged (nat_eq (k + l) 0) 1 ≤ flagged (nat_eq k 0) 1 + flagged (nat_eq l 0) 1
flag_sum zero l =
    let same = ap (λ k. flagged (nat_eq k 0) 1) (plus_zero l) in
    let one = ap (λ b. flagged b 1) (eq-eqb zero 0 refl) in
    let small = flag_small (nat_eq l 0) in
    omega (arith, same, one, small)
flag_sum (suc k) l = let same = ap (λ j. flagged (nat_eq j 0) 1) (suc_plus k l) in let some = ap (λ b. flagged b 1) (eqb-suc-zero (k + l)) in omega (arith, same, some)

pub both_falls : (s : Seat) (n w : Tree) → Row5Both n w → weight (Expr s) w < weight (Expr s) n
both_falls s n w r =
    let whole = ap (weight (Expr s)) r.shape ∙ sum_weighs s (template (append (pieces r.before) (piece r.last ▸ none)) r.earlier) (template (piece r.first ▸ pieces r.after) r.later) in
    let one = template_weighs left_seat r.before (r.last ∷ []) r.earlier in
    let own_one = own_left (count r.earlier) in
    let other = template_weighs right_seat [] (r.first ∷ r.after) r.later in
    let own_other = own_right (count r.later) in
    let put = ap (weight (Expr s)) r.written ∙ template_weighs s r.before (pair r.last r.first ∷ r.after) (append r.earlier r.later) in
    let counts = ap (own s) (count_append r.earlier r.later) in
    let parts = parts_append r.earlier r.later in
    let short = joined_short r.last.raw r.first.raw in
    let parens = sum_parentheses s in
    let flags = flag_sum (count r.earlier) (count r.later) in
    let marks = mark_small s.eq_left (count r.earlier + count r.later) in
    omega (arith, whole, one, own_one, other, own_other, put, counts, parts, short, parens, flags, marks)

pub after_weighs : (s : Seat) (n w : Tree) (r : Row5After n w) → weight (Expr s) w + (2 + bonus s + 2 * length r.last.raw + weight (Expr right_seat) r.tail) ≡ weight (Expr s) n + (2 * length (pair r.last (spelled r.text)).raw + mark s.eq_left (count r.earlier))
after_weighs s n w r =
    let whole = ap (weight (Expr s)) r.shape ∙ sum_weighs s (template (append (pieces r.before) (piece r.last ▸ none)) r.earlier) r.tail in
    let one = template_weighs left_seat r.before (r.last ∷ []) r.earlier in
    let own_one = own_left (count r.earlier) in
    let put = ap (weight (Expr s)) r.written ∙ template_weighs s r.before (pair r.last (spelled r.text) ∷ []) r.earlier in
    let parens = sum_parentheses s in
    omega (arith, whole, one, own_one, put, parens)

pub before_weighs : (s : Seat) (n w : Tree) (r : Row5Before n w) → weight (Expr s) w + (2 + bonus s + 2 * length r.first.raw + weight (Expr left_seat) r.head) ≡ weight (Expr s) n + (2 * length (pair (spelled r.text) r.first).raw + mark s.eq_left (count r.later))
before_weighs s n w r =
    let whole = ap (weight (Expr s)) r.shape ∙ sum_weighs s r.head (template (piece r.first ▸ pieces r.after) r.later) in
    let other = template_weighs right_seat [] (r.first ∷ r.after) r.later in
    let own_other = own_right (count r.later) in
    let put = ap (weight (Expr s)) r.written ∙ template_weighs s [] (pair (spelled r.text) r.first ∷ r.after) r.later in
    let parens = sum_parentheses s in
    omega (arith, whole, other, own_other, put, parens)

pub after_heavy : (s : Seat) (n w : Tree) (r : Row5After n w) → weight (Expr right_seat) r.tail + bonus s + 6 ≤ weight (Expr s) n
after_heavy s n w r =
    let whole = ap (weight (Expr s)) r.shape ∙ sum_weighs s (template (append (pieces r.before) (piece r.last ▸ none)) r.earlier) r.tail in
    let one = template_weighs left_seat r.before (r.last ∷ []) r.earlier in
    let own_one = own_left (count r.earlier) in
    let parens = sum_parentheses s in
    omega (arith, whole, one, own_one, parens)

pub before_heavy : (s : Seat) (n w : Tree) (r : Row5Before n w) → weight (Expr left_seat) r.head + bonus s + 6 ≤ weight (Expr s) n
before_heavy s n w r =
    let whole = ap (weight (Expr s)) r.shape ∙ sum_weighs s r.head (template (piece r.first ▸ pieces r.after) r.later) in
    let other = template_weighs right_seat [] (r.first ∷ r.after) r.later in
    let own_other = own_right (count r.later) in
    let parens = sum_parentheses s in
    omega (arith, whole, other, own_other, parens)

-- ---- 6

pub nested_weighs : (s : Seat) (a t u : Tree) → weight (Expr s) (binary Addition (binary Addition a t) u) ≡ parentheses (shape.BinaryExpression Addition) s + 4 + weight (Expr left_seat) a + weight (Expr right_seat) t + weight (Expr right_seat) u
nested_weighs s a t u =
    let outer = sum_weighs s (binary Addition a t) u in
    let within = sum_weighs left_seat a t in
    omega (arith, outer, within)

-- the sum falls by 2, and by what its operands weigh more than the template that is made of them
pub nested_falls : (s : Seat) (n w : Tree) (r : Row6 n w) → weight (Expr s) w + (2 + weight (Expr right_seat) r.inner + weight (Expr right_seat) r.tail) ≡ weight (Expr s) n + weight (Expr right_seat) r.joined
nested_falls s n w r =
    let whole = ap (weight (Expr s)) r.shape ∙ nested_weighs s r.left r.inner r.tail in
    let put = ap (weight (Expr s)) r.written ∙ sum_weighs s r.left r.joined in
    omega (arith, whole, put)

pub both_gains : (n w : Tree) (r : Row5Both n w) → weight (Expr right_seat) w < 2 + weight (Expr right_seat) (template (append (pieces r.before) (piece r.last ▸ none)) r.earlier) + weight (Expr right_seat) (template (piece r.first ▸ pieces r.after) r.later)
both_gains n w r =
    let one = template_weighs right_seat r.before (r.last ∷ []) r.earlier in
    let own_one = own_right (count r.earlier) in
    let other = template_weighs right_seat [] (r.first ∷ r.after) r.later in
    let own_other = own_right (count r.later) in
    let put = ap (weight (Expr right_seat)) r.written ∙ template_weighs right_seat r.before (pair r.last r.first ∷ r.after) (append r.earlier r.later) in
    let own_put = own_right (count (append r.earlier r.later)) in
    let counts = ap template_weight (count_append r.earlier r.later) in
    let parts = parts_append r.earlier r.later in
    let short = joined_short r.last.raw r.first.raw in
    let flags = flag_sum (count r.earlier) (count r.later) in
    omega (arith, one, own_one, other, own_other, put, own_put, counts, parts, short, flags)

pub after_gains : (n w : Tree) (r : Row5After n w) → weight (Expr right_seat) w + 2 * length r.last.raw ≡ weight (Expr right_seat) (template (append (pieces r.before) (piece r.last ▸ none)) r.earlier) + 2 * length (pair r.last (spelled r.text)).raw
after_gains n w r =
    let one = template_weighs right_seat r.before (r.last ∷ []) r.earlier in
    let put = ap (weight (Expr right_seat)) r.written ∙ template_weighs right_seat r.before (pair r.last (spelled r.text) ∷ []) r.earlier in
    omega (arith, one, put)

pub before_gains : (n w : Tree) (r : Row5Before n w) → weight (Expr right_seat) w + 2 * length r.first.raw ≡ weight (Expr right_seat) (template (piece r.first ▸ pieces r.after) r.later) + 2 * length (pair (spelled r.text) r.first).raw
before_gains n w r =
    let other = template_weighs right_seat [] (r.first ∷ r.after) r.later in
    let put = ap (weight (Expr right_seat)) r.written ∙ template_weighs right_seat [] (pair (spelled r.text) r.first ∷ r.after) r.later in
    omega (arith, other, put)

-- ---- all

sum_outline : (n w : Tree) → Row5 n w → outline n ≡ outline w
sum_outline n w (inl r) = ap outline r.shape ∙ sym (ap outline r.written)
sum_outline n w (inr (inl r)) = ap outline r.shape ∙ sym (ap outline r.written)
sum_outline n w (inr (inr r)) = ap outline r.shape ∙ sym (ap outline r.written)

row_outline : (p : Position) (n w : Tree) → TemplateRow p n w → outline n ≡ outline w
row_outline (Expr s) n w (inl r) = ap outline r.shape ∙ sym (ap outline r.written)
row_outline (Expr s) n w (inr (inl r)) = sum_outline n w r
row_outline (Expr s) n w (inr (inr r)) = ap outline r.shape ∙ sym (ap outline r.written)
row_outline p n w r = absurd r

pub lightens : Lightens TemplateContracts
lightens = record {
  lighter = λ p n w c. c.lighter;
  absent = λ p n w c a. ap (λ o. o.absent) (row_outline p n w c.row);
  items = λ p n w c a. ap (λ o. o.items) (row_outline p n w c.row);
  is_zero = λ p n w c a. inl (ap (λ o. o.is_zero) (row_outline p n w c.row));
  chooses = λ p n w c a. inl (λ h. sym (ap (λ o. o.chooses) (row_outline p n w c.row)) ∙ h);
}

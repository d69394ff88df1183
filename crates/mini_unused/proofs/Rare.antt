-- What tables of names tell of a list, and that they tell it of what is left of the list.
use Rattle.std.proofs.Common.{◌≡◌, ℕ, zero, suc, ◌+◌, ◌%◌, ◌<◌, ◌≤◌, Bool, true, false, List, [], ◌∷◌, refl, sym, ap, ◌∙◌, subst, inl, inr, true≢false, arith}
use Rattle.std.specs.Prelude.{not, ◌&&◌, ◌||◌, ◌⊎◌, nat_eq, length, replicate, Option, Some, None, if◌then◌else◌}
use Rattle.std.proofs.lemmas.Bool.{and_parts, eqb-true, eq-eqb}
use Rattle.mini_model.specs.declared.name.Name.{Name}
use Rattle.mini_model.specs.declared.shape.Shape.{Shape}
use Rattle.mini_model.specs.declared.name.SymbolId.{SymbolId}
use Rattle.mini_model.specs.Tree.{Tree, Trees, node, none, ◌▸◌, listed, children, count, child_or_absent, empty_statement, expression_statement}
use Rattle.mini_model.specs.Paths.{append}
use Rattle.mini_model.specs.Weight.{same_text}
use Rattle.mini_laws.specs.Symbols.{is_same}
use Rattle.mini_node.specs.Children.{names_of, like, part, with_child, with_part, without, is_bare, is_nameless, first_children, rest_children}
use Rattle.mini_node.specs.Kinds.{is_identifier}
use Rattle.mini_node.specs.Walks.{next_child}
use Rattle.mini_kept.proofs.SameScopes.{same_texts}
use Rattle.mini_rows.specs.Declarations.{declarator}
use Rattle.mini_rows.specs.Unused.{may_hold, resolved, is_like_one, names, any_names, is_idle, leads, holds_list, reads, is_first, leads_to, put_first, put_among, are_passed, is_head_shape, reads_first, reads_head, has_declarator, first_value, begins_var, goes_over, evaluated, reads_hidden, begins_let, goes_over_let, evaluated_hidden, takes}
use Rattle.mini_rows.proofs.ListKeptHeads.{Seat, Loop, Choice, seated}
use Rattle.mini_rows.specs.Lists.{Each, EachIn, EachOf, each_loop}
use Rattle.mini_rows.proofs.SingleUse.{Heads, heads}
use Rattle.mini_rows.proofs.HiddenHeads.{Hidden, hidden, Taken, taken}
use Rattle.mini_rows.specs.Switches.{Liberties}
use Rattle.mini_unused.specs.declared.tallies.Tallies.{Tallies}
use Rattle.mini_unused.specs.RemoveUnusedDeclaration.{declares_list, is_alone, list_at, let_left, statement_left, list_left}
use Rattle.mini_unused.specs.SubstituteNext.{reads_in, put_named, is_read_then, is_mentioned_beside, is_mentioned_elsewhere, declarators_next, list_next, NextGone}
use Rattle.mini_unused.specs.SubstituteSingleUse.{reads_next, is_read_once, declaration_left, declared_names, initializer, list_single, last_place, NameGone, ReadGone, Gone}
use Rattle.mini_unused.specs.Tallies.{number_of, bucket, hash_of, one_if, own_tally, tally, tallies, Counted, Covers, Tallied, HasFew, IsRare}
use Rattle.mini_unused.proofs.Unused.{parts_of, a_declaration, Declares}
use Rattle.mini_unused.proofs.SingleUses.{next_part}

-- ---- sums

module _ (f : Name → ℕ) (b : ℕ) where
  opened : (t : Tree) → tally f b t ≡ own_tally f b (names_of t) + tallies f b (children t)
  opened (node h xs n ts) = refl

  joined : (ts us : Trees) → tallies f b (append ts us) ≡ tallies f b ts + tallies f b us
  joined none us = omega arith
  joined (t ▸ ts) us = let rest = joined ts us in omega (arith, rest)

  child_of : (ts : Trees) (i : ℕ) → tally f b (child_or_absent ts i) ≤ tallies f b ts
  child_of none i = omega arith
  child_of (t ▸ ts) zero = omega arith
  child_of (t ▸ ts) (suc i) = let rest = child_of ts i in omega (arith, rest)

  part_of : (t : Tree) (i : ℕ) → tally f b (part t i) ≤ tally f b t
  part_of t i = let o = opened t in let c = child_of (children t) i in omega (arith, o, c)

  with_one : (ts : Trees) (i : ℕ) (x : Tree) → tallies f b (with_child ts i x) + tally f b (child_or_absent ts i) ≤ tallies f b ts + tally f b x
  with_one none i x = omega arith
  with_one (t ▸ ts) zero x = omega arith
  with_one (t ▸ ts) (suc i) x = let rest = with_one ts i x in omega (arith, rest)

  with_there : (t : Tree) (i : ℕ) (x : Tree) → tally f b (with_part t i x) + tally f b (part t i) ≤ tally f b t + tally f b x
  with_there (node h xs n ts) i x = let rest = with_one ts i x in omega (arith, rest)

  without_one : (ts : Trees) (i : ℕ) → tallies f b (without ts i) + tally f b (child_or_absent ts i) ≤ tallies f b ts
  without_one none i = omega arith
  without_one (t ▸ ts) zero = omega arith
  without_one (t ▸ ts) (suc i) = let rest = without_one ts i in omega (arith, rest)

  -- ---- what is left where a name goes

  let_without : (t : Tree) (j : ℕ) → tally f b (let_left t j) + tally f b (part (part t 0) j) ≤ tally f b t
  let_without t j =
      let l = part t 0 in
      let whole = with_there t 0 (like l (without (children l) j)) in
      let others = without_one (children l) j in
      let o = opened l in
      omega (arith, whole, others, o)

  chosen : (c : Bool) (t u : Tree) (k : ℕ) → tally f b t ≤ k → tally f b u ≤ k → tally f b (if c then t else u) ≤ k
  chosen true t u k e g = e
  chosen false t u k e g = g

  value_of : (t : Tree) (j : ℕ) → tally f b (part (part (part t 0) j) 1) ≤ tally f b (part (part t 0) j)
  value_of t j = part_of (part (part t 0) j) 1

  one_of : (t : Tree) (j : ℕ) → tally f b (part (part t 0) j) ≤ tally f b t
  one_of t j = let x = part_of (part t 0) j in let y = part_of t 0 in omega (arith, x, y)

  statement_without : (t : Tree) (j : ℕ) → tally f b (statement_left t j) ≤ tally f b t
  statement_without t j =
      let init = part (part (part t 0) j) 1 in
      let one = one_of t j in
      let value = value_of t j in
      let others = let_without t j in
      chosen (is_idle init) (if is_bare (part t 0) 1 then empty_statement else let_left t j) (expression_statement init) (tally f b t)
      (chosen (is_bare (part t 0) 1) empty_statement (let_left t j) (tally f b t) (omega arith) (omega (arith, others)))
      (omega (arith, one, value))

  declaration_without : (t : Tree) (j : ℕ) → tally f b (declaration_left t j) + tally f b (part (part (part t 0) j) 1) ≤ tally f b t
  declaration_without t j =
      let one = one_of t j in
      let value = value_of t j in
      let others = let_without t j in
      by (is_bare (part t 0) 1) (omega (arith, one, value)) (omega (arith, others, value))
    where
      by : (c : Bool) → tally f b empty_statement + tally f b (part (part (part t 0) j) 1) ≤ tally f b t → tally f b (let_left t j) + tally f b (part (part (part t 0) j) 1) ≤ tally f b t
          → tally f b (if c then empty_statement else let_left t j) + tally f b (part (part (part t 0) j) 1) ≤ tally f b t
      by true x y = x
      by false x y = y

  mutual
    put_there : (x : Name) (r t : Tree) → tally f b (put_first x r t) ≤ tally f b r + tally f b t
    put_there x r (node h xs n none) = omega arith
    put_there x r (node h xs n (t ▸ ts)) = let rest = put_in x r (t ▸ ts) in omega (arith, rest)

    put_in : (x : Name) (r : Tree) (ts : Trees) → tallies f b (put_among x r ts) ≤ tally f b r + tallies f b ts
    put_in x r none = omega arith
    put_in x r (t ▸ ts) = by (names x t) (put_there x r t) (put_in x r ts)
      where
        by : (c : Bool) → tally f b (put_first x r t) ≤ tally f b r + tally f b t → tallies f b (put_among x r ts) ≤ tally f b r + tallies f b ts → tallies f b (if c then put_first x r t ▸ ts else t ▸ put_among x r ts) ≤ tally f b r + tallies f b (t ▸ ts)
        by true one others = omega (arith, one)
        by false one others = omega (arith, others)

  named_there : (xs : List Name) (r t : Tree) → tally f b (put_named xs r t) ≤ tally f b r + tally f b t
  named_there [] r t = omega arith
  named_there (x ∷ xs) r t = put_there x r t

  list_without : (l : Tree) (i j : ℕ) → tally f b (list_left l i j) ≤ tally f b l
  list_without l i j =
      let whole = with_there l i (statement_left (part l i) j) in
      let less = statement_without (part l i) j in
      omega (arith, whole, less)

  pub list_moved : (l : Tree) (i j : ℕ) → tally f b (list_single l i j) ≤ tally f b l
  list_moved l i j =
      let left = declaration_left (part l i) j in
      let init = initializer l i j in
      let first = with_there l i left in
      let xs = declared_names l i j in
      let second = with_there (with_part l i left) (suc i) (put_named xs init (part l (suc i))) in
      let next = ap (tally f b) (next_part l i left) in
      let put = named_there xs init (part l (suc i)) in
      let less = declaration_without (part l i) j in
      omega (arith, first, second, next, put, less)

  declarators_fewer : (l : Tree) (j : ℕ) → tally f b (declarators_next l j) ≤ tally f b l
  declarators_fewer l j =
      let r = part (part l j) 1 in
      let m = like l (without (children l) j) in
      let n = part m j in
      let v = part n 1 in
      let xs = names_of (part (part l j) 0) in
      let whole = with_there m j (with_part n 1 (put_named xs r v)) in
      let next = with_there n 1 (put_named xs r v) in
      let put = named_there xs r v in
      let others = without_one (children l) j in
      let o = opened l in
      let value = part_of (part l j) 1 in
      omega (arith, whole, next, put, others, o, value)

  pub list_next_fewer : (l : Tree) (i j : ℕ) → tally f b (list_next l i j) ≤ tally f b l
  list_next_fewer l i j =
      let t = part l i in
      let ds = declarators_next (part t 0) j in
      let whole = with_there l i (with_part t 0 ds) in
      let one = with_there t 0 ds in
      let less = declarators_fewer (part t 0) j in
      omega (arith, whole, one, less)

  pub gone_fewer : (W : Liberties) (o l n : Tree) → Gone W o l n → tally f b n ≤ tally f b l
  gone_fewer W o l n g = by g.name
    where
      by : NameGone W o l n ⊎ (ReadGone W o l n ⊎ NextGone W o l n) → tally f b n ≤ tally f b l
      by (inl x) = let less = list_without l x.at x.which in let same = ap (tally f b) x.left in omega (arith, less, same)
      by (inr (inr x)) = let less = list_next_fewer l x.at x.which in let same = ap (tally f b) x.left in omega (arith, less, same)
      by (inr (inl x)) = let less = list_moved l x.at (last_place (children (list_at (children l) x.at))) in let same = ap (tally f b) x.left in omega (arith, less, same)

-- of a list in which each name stands at most as often
fewer_covers : (by_symbol : Bool) (counts : List ℕ) (o l n : Tree) → ((f : Name → ℕ) (b : ℕ) → tally f b n ≤ tally f b l) → Covers by_symbol counts o l → Covers by_symbol counts o n
fewer_covers by_symbol counts o l n e c b h k =
    let less = e (bucket by_symbol (length counts)) b in
    let before = c b h k in
    omega (arith, less, before)

pub fewer_tallied : (c : Tallies) (o l n : Tree) → ((f : Name → ℕ) (b : ℕ) → tally f b n ≤ tally f b l) → Tallied c o l → Tallied c o n
fewer_tallied c o l n e t = record { symbols = fewer_covers true c.by_symbol.items o l n e t.symbols; spellings = fewer_covers false c.by_spelling.items o l n e t.spellings }

pub still_tallied : (c : Tallies) (W : Liberties) (o l n : Tree) → Gone W o l n → Tallied c o l → Tallied c o n
still_tallied c W o l n g = fewer_tallied c o l n (λ f b. gone_fewer f b W o l n g)

-- ---- a name whose buckets nothing else is in

bucket_alike : (n : ℕ) (x y : Name) → x.spelling ≡ y.spelling → bucket false n x ≡ bucket false n y
unfolding bucket
bucket_alike n x y e = ap (λ s. hash_of s % n) e

symbols_alike : (n : ℕ) (x y : Name) → is_same x.symbol y.symbol ≡ true → bucket true n x ≡ bucket true n y
unfolding bucket
symbols_alike n x y e = by x.symbol y.symbol e
  where
    by : (p q : Option SymbolId) → is_same p q ≡ true → number_of p % n ≡ number_of q % n
    by None None e = refl
    by None (Some y) e = absurd (true≢false (sym e))
    by (Some x) None e = absurd (true≢false (sym e))
    by (Some x) (Some y) e = ap (λ k. k % n) (eqb-true x.0 y.0 e)

counted_there : (f : Name → ℕ) (b : ℕ) (y : Name) → f y ≡ b → one_if (nat_eq (f y) b) ≡ 1
counted_there f b y e = ap one_if (eq-eqb (f y) b e)

-- a name that is read there has the symbol

mutual
  first_counted : (n : ℕ) (x : Name) (c : Bool) (t : Tree) → is_first x c t ≡ true → 1 ≤ tally (bucket true n) (bucket true n x) t
  first_counted n x c (node h [] k none) e =
      let reads_it = (and_parts (not c) (reads x (node h [] k none)) e).1 in
      absurd (true≢false (sym (and_parts (is_identifier (node h [] k none)) false reads_it).1))
  first_counted n x c (node h (y ∷ ys) k none) e =
      let reads_it = (and_parts (not c) (reads x (node h (y ∷ ys) k none)) e).1 in
      let same = (and_parts (is_identifier (node h (y ∷ ys) k none)) (is_same x.symbol y.symbol) reads_it).1 in
      let one = counted_there (bucket true n) (bucket true n x) y (sym (symbols_alike n x y same)) in
      omega (arith, one)
  first_counted n x c (node h ys k (t ▸ ts)) e = let rest = lead_counted n x c h 0 (t ▸ ts) (and_parts (may_hold (node h ys k (t ▸ ts))) (leads_to x c h 0 (t ▸ ts)) e).1 in omega (arith, rest)

  lead_counted : (n : ℕ) (x : Name) (c : Bool) (h : Shape) (i : ℕ) (ts : Trees) → leads_to x c h i ts ≡ true → 1 ≤ tallies (bucket true n) (bucket true n x) ts
  lead_counted n x c h i none e = absurd (true≢false (sym e))
  lead_counted n x c h i (t ▸ ts) e = by (names x t) e (first_counted n x (holds_list h i) t) (lead_counted n x c h (suc i) ts)
    where
      by : (d : Bool) → (if d then (leads c h i t && (is_first x (holds_list h i) t && not (any_names x ts))) else leads_to x c h (suc i) ts) ≡ true → (is_first x (holds_list h i) t ≡ true → 1 ≤ tally (bucket true n) (bucket true n x) t) → (leads_to x c h (suc i) ts ≡ true → 1 ≤ tallies (bucket true n) (bucket true n x) ts) → 1 ≤ tallies (bucket true n) (bucket true n x) (t ▸ ts)
      by true e one others =
          let (l, p) = and_parts (leads c h i t) (is_first x (holds_list h i) t && not (any_names x ts)) e in
          let there = one (and_parts (is_first x (holds_list h i) t) (not (any_names x ts)) p).0 in
          omega (arith, there)
      by false e one others = let there = others e in omega (arith, there)

statement_counted : (n : ℕ) (x : Name) (t : Tree) → reads_first x t ≡ true → 1 ≤ tally (bucket true n) (bucket true n x) t
statement_counted n x (node h ys k none) e = absurd (true≢false (sym e))
statement_counted n x (node h ys k (t ▸ ts)) e =
    let (l, p) = and_parts (is_head_shape h) (is_nameless (node h ys k (t ▸ ts)) && (is_first x false t && not (any_names x ts))) e in
    let (m, q) = and_parts (is_nameless (node h ys k (t ▸ ts))) (is_first x false t && not (any_names x ts)) p in
    let rest = first_counted n x false t (and_parts (is_first x false t) (not (any_names x ts)) q).0 in
    omega (arith, rest)

over_counted : (n : ℕ) (x : Name) (c : Each) (l w v : Tree) → 1 ≤ tally (bucket true n) (bucket true n x) v → 1 ≤ tally (bucket true n) (bucket true n x) (each_loop c l v w)
over_counted n x EachIn l w v k = omega (arith, k)
over_counted n x EachOf l w v k = omega (arith, k)

head_counted : (n : ℕ) (x : Name) (t : Tree) → reads_head x t ≡ true → 1 ≤ tally (bucket true n) (bucket true n x) t
head_counted n x t e = by (heads x t e)
  where
    seated_counted : (c : Seat) (v : Tree) → 1 ≤ tally (bucket true n) (bucket true n x) v → 1 ≤ tally (bucket true n) (bucket true n x) (seated c v)
    seated_counted (Loop u v w) t k = omega (arith, k)
    seated_counted (Choice cases) t k = omega (arith, k)

    by : Heads x t → 1 ≤ tally (bucket true n) (bucket true n x) t
    by (inl (f, p)) = statement_counted n x t f
    by (inr (inl i)) = let read = first_counted n x false i.value i.once in let whole = ap (tally (bucket true n) (bucket true n x)) i.is in omega (arith, read, whole)
    by (inr (inr (inr (inr i)))) = let read = first_counted n x false i.value i.once in let whole = ap (tally (bucket true n) (bucket true n x)) i.is in omega (arith, read, whole)
    by (inr (inr (inr (inl i)))) = let read = over_counted n x i.kind i.left i.body i.value (first_counted n x false i.value i.once) in let whole = ap (tally (bucket true n) (bucket true n x)) i.is in omega (arith, read, whole)
    by (inr (inr (inl i))) = let read = seated_counted i.seat i.value (first_counted n x false i.value i.once) in let whole = ap (tally (bucket true n) (bucket true n x)) i.is in omega (arith, read, whole)

hidden_counted : (n : ℕ) (x : Name) (t : Tree) → reads_hidden x t ≡ true → 1 ≤ tally (bucket true n) (bucket true n x) t
hidden_counted n x t e = by (hidden x t e)
  where
    by : Hidden x t → 1 ≤ tally (bucket true n) (bucket true n x) t
    by (inl i) = let read = first_counted n x false i.value i.once in let whole = ap (tally (bucket true n) (bucket true n x)) i.is in omega (arith, read, whole)
    by (inr i) = let read = over_counted n x i.kind i.left i.body i.value (first_counted n x false i.value i.once) in let whole = ap (tally (bucket true n) (bucket true n x)) i.is in omega (arith, read, whole)

taken_counted : (n : ℕ) (x : Name) (r t : Tree) → takes x r t ≡ true → 1 ≤ tally (bucket true n) (bucket true n x) t
taken_counted n x r t e = by (taken x r t e)
  where
    by : Taken x r t → 1 ≤ tally (bucket true n) (bucket true n x) t
    by (inl (o, p)) = head_counted n x t o
    by (inr (c, (o, p))) = hidden_counted n x t o

-- in the buckets of x, of tables so large
module _ (x : Name) (n r : ℕ) where
  abbrev symbols_of : Name → ℕ
  symbols_of = bucket true n

  abbrev spellings_of : Name → ℕ
  spellings_of = bucket false r

  none_like : (ys : List Name) → own_tally symbols_of (symbols_of x) ys ≡ 0 → own_tally spellings_of (spellings_of x) ys ≡ 0 → is_like_one x ys ≡ false
  none_like [] e f = refl
  none_like (y ∷ ys) e f = by (same_text x.spelling y.spelling) (is_same x.symbol y.symbol) refl refl (none_like ys (omega (arith, e)) (omega (arith, f)))
    where
      by : (a b : Bool) → same_text x.spelling y.spelling ≡ a → is_same x.symbol y.symbol ≡ b → is_like_one x ys ≡ false → ((same_text x.spelling y.spelling || is_same x.symbol y.symbol) || is_like_one x ys) ≡ false
      by true b p q g = let one = counted_there spellings_of (spellings_of x) y (sym (bucket_alike r x y (same_texts x.spelling y.spelling p))) in absurd (omega (arith, f, one))
      by false true p q g = let one = counted_there symbols_of (symbols_of x) y (sym (symbols_alike n x y q)) in absurd (omega (arith, e, one))
      by false false p q g = λ k. (p k || q k) || g k

  mutual
    unmentioned : (t : Tree) → tally symbols_of (symbols_of x) t ≡ 0 → tally spellings_of (spellings_of x) t ≡ 0 → names x t ≡ false
    unmentioned (node h ys k ts) e f =
        let own = none_like ys (omega (arith, e)) (omega (arith, f)) in
        let others = all_unmentioned ts (omega (arith, e)) (omega (arith, f)) in
        λ i. own i || others i

    all_unmentioned : (ts : Trees) → tallies symbols_of (symbols_of x) ts ≡ 0 → tallies spellings_of (spellings_of x) ts ≡ 0 → any_names x ts ≡ false
    all_unmentioned none e f = refl
    all_unmentioned (t ▸ ts) e f =
        let own = unmentioned t (omega (arith, e)) (omega (arith, f)) in
        let others = all_unmentioned ts (omega (arith, e)) (omega (arith, f)) in
        λ i. own i || others i

-- ---- the parts of a list

module _ (f : Name → ℕ) (b : ℕ) where
  parts_sum : (ts : Trees) (i : ℕ) → i < count ts → tallies f b ts ≡ tallies f b (first_children i ts) + (tally f b (child_or_absent ts i) + tallies f b (rest_children (suc i) ts))
  parts_sum ts i h = ap (tallies f b) (parts_of ts i h) ∙ joined f b (first_children i ts) (child_or_absent ts i ▸ rest_children (suc i) ts)

  declared_sum : (t : Tree) → declares_list t ≡ true → tally f b t ≡ tallies f b (children (part t 0))
  declared_sum t d = let (k, is) = a_declaration t d in let same = ap (tally f b) is in omega (arith, same)

  declarator_sum : (d : Tree) (one : Declares d) → tally f b d ≡ own_tally f b (resolved one.spelling one.symbol ∷ []) + tally f b (part d 1)
  declarator_sum d one = let same = ap (tally f b) one.is in omega (arith, same)

  -- of the list and of what is outside of it
  whole_sum : (o : Tree) (ts : Trees) (i j : ℕ) → i < count ts → declares_list (child_or_absent ts i) ≡ true → j < count (children (list_at ts i)) → (one : Declares (part (list_at ts i) j)) →
      tally f b (listed ts) ≡ tallies f b (first_children i ts) + ((tallies f b (first_children j (children (list_at ts i))) + ((own_tally f b (resolved one.spelling one.symbol ∷ []) + tally f b (part (part (list_at ts i) j) 1)) + tallies f b (rest_children (suc j) (children (list_at ts i))))) + tallies f b (rest_children (suc i) ts))
  whole_sum o ts i j h d g one =
      let outer = parts_sum ts i h in
      let list = declared_sum (child_or_absent ts i) d in
      let inner = parts_sum (children (list_at ts i)) j g in
      let own = declarator_sum (part (list_at ts i) j) one in
      omega (arith, outer, list, inner, own)

-- the name itself is in its bucket
own_one : (f : Name → ℕ) (x : Name) → own_tally f (f x) (x ∷ []) ≡ 1
own_one f x = let one = counted_there f (f x) x refl in omega (arith, one)

-- what a table tells of a name's bucket
within_few : (by_symbol : Bool) (counts : List ℕ) (o l : Tree) (x : Name) (k : ℕ) → k < 255 → Covers by_symbol counts o l → HasFew by_symbol counts x k → tally (bucket by_symbol (length counts)) (bucket by_symbol (length counts) x) o + tally (bucket by_symbol (length counts)) (bucket by_symbol (length counts) x) l ≤ k
within_few by_symbol counts o l x k s c h =
    let few = h.1 in
    let less = c (bucket by_symbol (length counts) x) h.0 (omega (arith, s, few)) in
    omega (arith, few, less)

-- nothing beside the declarator
record Nowhere (f : Name → ℕ) (b : ℕ) (o init : Tree) (ds : Trees) (j : ℕ) (ts : Trees) (i : ℕ) : Type 0 where
  around : tally f b o ≡ 0
  value : tally f b init ≡ 0
  declared_later : tallies f b (rest_children (suc j) ds) ≡ 0
  later : tallies f b (rest_children (suc i) ts) ≡ 0
  declared_earlier : tallies f b (first_children j ds) ≡ 0
  earlier : tallies f b (first_children i ts) ≡ 0

module _ (T : Tallies) (o : Tree) (ts : Trees) (i j : ℕ) (h : i < count ts) (d : declares_list (child_or_absent ts i) ≡ true) (g : j < count (children (list_at ts i))) (one : Declares (part (list_at ts i) j)) (told : Tallied T o (listed ts)) where
  abbrev x : Name
  x = resolved one.spelling one.symbol

  abbrev ds : Trees
  ds = children (list_at ts i)

  abbrev init : Tree
  init = part (part (list_at ts i) j) 1

  abbrev n : ℕ
  n = length T.by_symbol.items

  abbrev r : ℕ
  r = length T.by_spelling.items

  nowhere : (f : Name → ℕ) → tally f (f x) o + tally f (f x) (listed ts) ≤ 1 → Nowhere f (f x) o init ds j ts i
  nowhere f e =
      let sum = whole_sum f (f x) o ts i j h d g one in
      let own = own_one f x in
      record { around = omega (arith, e, sum, own); value = omega (arith, e, sum, own); declared_later = omega (arith, e, sum, own); later = omega (arith, e, sum, own); declared_earlier = omega (arith, e, sum, own); earlier = omega (arith, e, sum, own) }

  pub rare_alone : IsRare T x 1 → is_alone (x ∷ []) o init ds j ts i ≡ true
  rare_alone rare =
      let a = nowhere (bucket true n) (within_few true T.by_symbol.items o (listed ts) x 1 (omega arith) told.symbols rare.symbols) in
      let b = nowhere (bucket false r) (within_few false T.by_spelling.items o (listed ts) x 1 (omega arith) told.spellings rare.spellings) in
      let one_of = unmentioned x n r in
      let all_of = all_unmentioned x n r in
      let p = one_of o a.around b.around in
      let q = one_of init a.value b.value in
      let s = all_of (rest_children (suc j) ds) a.declared_later b.declared_later in
      let t = all_of (rest_children (suc i) ts) a.later b.later in
      let u = all_of (first_children j ds) a.declared_earlier b.declared_earlier in
      let v = all_of (first_children i ts) a.earlier b.earlier in
      λ k. not (p k) && (not (q k) && (not (s k) && (not (t k) && (not (u k) && not (v k)))))

  -- ---- and the next statement reads it

  abbrev head : Tree
  head = child_or_absent ts (suc i)

  abbrev after : Trees
  after = rest_children (suc (suc i)) ts

  module _ (next : suc i < count ts) (counted : (m : ℕ) → 1 ≤ tally (bucket true m) (bucket true m x) head) (spelled : 1 ≤ tally (bucket false r) (bucket false r x) head) where
    abbrev Once : (Name → ℕ) → Type 0
    Once f = (tally f (f x) o ≡ 0) × (tally f (f x) init ≡ 0) × (tallies f (f x) (first_children j ds) ≡ 0) × (tallies f (f x) (first_children i ts) ≡ 0) × (tallies f (f x) after ≡ 0)

    once : (f : Name → ℕ) → tally f (f x) o + tally f (f x) (listed ts) ≤ 2 → 1 ≤ tally f (f x) head → Once f
    once f e read =
        let sum = whole_sum f (f x) o ts i j h d g one in
        let own = own_one f x in
        let rest = ap (tallies f (f x)) (next_child ts (suc i) next) in
        (omega (arith, e, read, sum, own, rest), omega (arith, e, read, sum, own, rest), omega (arith, e, read, sum, own, rest), omega (arith, e, read, sum, own, rest), omega (arith, e, read, sum, own, rest))

    -- the name stands outside of the list, in its initializer, in a declarator or a statement before it, or behind the next statement
    pub rare_around : IsRare T x 2 → (names x o ≡ false) × (names x init ≡ false) × (any_names x (first_children j ds) ≡ false) × (any_names x (first_children i ts) ≡ false) × (any_names x after ≡ false)
    rare_around rare =
        let a = once (bucket true n) (within_few true T.by_symbol.items o (listed ts) x 2 (omega arith) told.symbols rare.symbols) (counted n) in
        let b = once (bucket false r) (within_few false T.by_spelling.items o (listed ts) x 2 (omega arith) told.spellings rare.spellings) spelled in
        let one_of = unmentioned x n r in
        let all_of = all_unmentioned x n r in
        (one_of o a.0 b.0, one_of init a.1 b.1, all_of (first_children j ds) a.2 b.2, all_of (first_children i ts) a.3 b.3, all_of after a.4 b.4)

  -- where a statement reads the name at its head
  pub rare_around_head : suc i < count ts → reads_head x head ≡ true → 1 ≤ tally (bucket false r) (bucket false r x) head → IsRare T x 2 → (names x o ≡ false) × (names x init ≡ false) × (any_names x (first_children j ds) ≡ false) × (any_names x (first_children i ts) ≡ false) × (any_names x after ≡ false)
  rare_around_head next read = rare_around next (λ m. head_counted m x head read)

  pub rare_read : suc i < count ts → reads_next x init ts i ≡ true → 1 ≤ tally (bucket false r) (bucket false r x) head → IsRare T x 2 → is_read_once (x ∷ []) o init ds j ts i ≡ true
  rare_read next read spelled rare =
      let (p, q, u, v, w) = rare_around next (λ m. taken_counted m x init head read) spelled rare in
      λ k. not (p k) && (read k && (not (q k || u k) && not (w k || v k)))

  -- ---- or the next declarator does

  abbrev following : Tree
  following = part (list_at ts i) (suc j)

  abbrev behind : Trees
  behind = rest_children (suc (suc j)) ds

  module _ (next : suc j < count ds) (other : following ≡ declarator (part following 0) (part following 1)) (first : is_first x false (part following 1) ≡ true) (spelled : 1 ≤ tally (bucket false r) (bucket false r x) (part following 1)) where
    abbrev Beside : (Name → ℕ) → Type 0
    Beside f = (tally f (f x) o ≡ 0) × (tally f (f x) init ≡ 0) × (tally f (f x) (part following 0) ≡ 0) × (tallies f (f x) (first_children j ds) ≡ 0) × (tallies f (f x) behind ≡ 0) × (tallies f (f x) (first_children i ts) ≡ 0) × (tallies f (f x) (rest_children (suc i) ts) ≡ 0)

    beside : (f : Name → ℕ) → tally f (f x) o + tally f (f x) (listed ts) ≤ 2 → 1 ≤ tally f (f x) (part following 1) → Beside f
    beside f e read =
        let sum = whole_sum f (f x) o ts i j h d g one in
        let own = own_one f x in
        let rest = ap (tallies f (f x)) (next_child ds (suc j) next) in
        let there = ap (tally f (f x)) other in (
          omega (arith, e, read, sum, own, rest, there),
          omega (arith, e, read, sum, own, rest, there),
          omega (arith, e, read, sum, own, rest, there),
          omega (arith, e, read, sum, own, rest, there),
          omega (arith, e, read, sum, own, rest, there),
          omega (arith, e, read, sum, own, rest, there),
          omega (arith, e, read, sum, own, rest, there),
        )

    -- the name stands beside its declarator and the next one, outside of the list, or in another statement
    pub rare_beside : IsRare T x 2 → (not (is_mentioned_beside x (part (list_at ts i) j) following ds j) && (not (names x o) && not (is_mentioned_elsewhere x ts i))) ≡ true
    rare_beside rare =
        let a = beside (bucket true n) (within_few true T.by_symbol.items o (listed ts) x 2 (omega arith) told.symbols rare.symbols) (first_counted n x false (part following 1) first) in
        let b = beside (bucket false r) (within_few false T.by_spelling.items o (listed ts) x 2 (omega arith) told.spellings rare.spellings) spelled in
        let one_of = unmentioned x n r in
        let all_of = all_unmentioned x n r in
        let p = one_of o a.0 b.0 in
        let q = one_of init a.1 b.1 in
        let s = one_of (part following 0) a.2 b.2 in
        let t = all_of (first_children j ds) a.3 b.3 in
        let u = all_of behind a.4 b.4 in
        let v = all_of (first_children i ts) a.5 b.5 in
        let w = all_of (rest_children (suc i) ts) a.6 b.6 in
        λ k. not (q k || (s k || (t k || u k))) && (not (p k) && not (v k || w k))

  pub rare_next : suc j < count ds → following ≡ declarator (part following 0) (part following 1) → reads_in x init (part following 1) ≡ true → 1 ≤ tally (bucket false r) (bucket false r x) (part following 1) → IsRare T x 2 → is_read_then (x ∷ []) (part (list_at ts i) j) following o ds j ts i ≡ true
  rare_next next other read spelled rare =
      let first = (and_parts (is_first x false (part following 1)) (are_passed x init (part following 1)) read).0 in
      λ k. read k && rare_beside next other first spelled rare k

-- ---- heads

-- what a head evaluates, and what a loop does that hides its names first
pub head_spelled : (x : Name) (t u : Tree) (b : Bool) → u ≡ evaluated (evaluated_hidden t) → (b ≡ true → (r : ℕ) → 1 ≤ tally (bucket false r) (bucket false r x) u) → b ≡ true → (r : ℕ) → 1 ≤ tally (bucket false r) (bucket false r x) t
head_spelled x t u b e f h r = in_hidden (in_head (evaluated_hidden t) (let one = f h r in let same = ap (tally (bucket false r) (bucket false r x)) e in omega (arith, one, same)))
  where
    in_declaration : (d : Tree) → 1 ≤ tally (bucket false r) (bucket false r x) (first_value d) → 1 ≤ tally (bucket false r) (bucket false r x) d
    in_declaration d one =
        let inner = part_of (bucket false r) (bucket false r x) (part (part d 0) 0) 1 in
        let list = part_of (bucket false r) (bucket false r x) (part d 0) 0 in
        let whole = part_of (bucket false r) (bucket false r x) d 0 in
        omega (arith, one, inner, list, whole)

    in_part : (t : Tree) (i : ℕ) → 1 ≤ tally (bucket false r) (bucket false r x) (part t i) → 1 ≤ tally (bucket false r) (bucket false r x) t
    in_part t i one = let whole = part_of (bucket false r) (bucket false r x) t i in omega (arith, one, whole)

    in_head : (t : Tree) → 1 ≤ tally (bucket false r) (bucket false r x) (evaluated t) → 1 ≤ tally (bucket false r) (bucket false r x) t
    in_head t one = by (has_declarator t) (goes_over t) (begins_var t) one
      where
        by : (a c d : Bool) → 1 ≤ tally (bucket false r) (bucket false r x) (if a then first_value t else (if c then part t 1 else (if d then first_value (part t 0) else t))) → 1 ≤ tally (bucket false r) (bucket false r x) t
        by true c d one = in_declaration t one
        by false true d one = in_part t 1 one
        by false false true one = in_part t 0 (in_declaration (part t 0) one)
        by false false false one = one

    in_hidden : 1 ≤ tally (bucket false r) (bucket false r x) (evaluated_hidden t) → 1 ≤ tally (bucket false r) (bucket false r x) t
    in_hidden one = by (begins_let t) (goes_over_let t) one
      where
        by : (a c : Bool) → 1 ≤ tally (bucket false r) (bucket false r x) (if a then first_value (part t 0) else (if c then part t 1 else t)) → 1 ≤ tally (bucket false r) (bucket false r x) t
        by true c one = in_part t 0 (in_declaration (part t 0) one)
        by false true one = in_part t 1 one
        by false false one = one

pub text_counted : (r : ℕ) (x y : Name) → same_text x.spelling y.spelling ≡ true → 1 ≤ own_tally (bucket false r) (bucket false r x) (y ∷ [])
text_counted r x y e = let one = counted_there (bucket false r) (bucket false r x) y (sym (bucket_alike r x y (same_texts x.spelling y.spelling e))) in omega (arith, one)

-- ---- how it is counted

module _ (f : Name → ℕ) (cs : List ℕ) where
  pub counted_none : (ts : Trees) → Counted (λ b. tallies f b (first_children 0 ts)) cs cs
  counted_none ts = record { buckets = refl; each = λ b h k. let none = no_first ts b in omega (arith, none) }
    where
      no_first : (ts : Trees) (b : ℕ) → tallies f b (first_children 0 ts) ≡ 0
      no_first none b = refl
      no_first (t ▸ ts) b = refl

  more_first : (ts : Trees) (i b : ℕ) → i < count ts → tallies f b (first_children (suc i) ts) ≡ tallies f b (first_children i ts) + tally f b (child_or_absent ts i)
  more_first none i b h = absurd (omega (arith, h))
  more_first (t ▸ none) zero b h = omega arith
  more_first (t ▸ (u ▸ ts)) zero b h = omega arith
  more_first (t ▸ ts) (suc i) b h = let rest = more_first ts i b (omega (arith, h)) in omega (arith, rest)

  all_first : (ts : Trees) (i : ℕ) → count ts ≤ i → first_children i ts ≡ ts
  all_first none i h = refl
  all_first (t ▸ ts) zero h = absurd (omega (arith, h))
  all_first (t ▸ ts) (suc i) h = ap (λ us. t ▸ us) (all_first ts i (omega (arith, h)))

  pub counted_both : (n m k : ℕ → ℕ) (ds es : List ℕ) → ((b : ℕ) → k b ≤ n b + m b) → Counted n cs ds → Counted m ds es → Counted k cs es
  counted_both n m k ds es e c d = record {
    buckets = d.buckets ∙ c.buckets;
    each = λ b h s.
        let second = d.each b (subst (λ j. b < j) (sym c.buckets) h) s in
        let first = c.each b h (omega (arith, second, s)) in
        let sum = e b in
        omega (arith, first, second, sum);
  }

  pub counted_on : (ts : Trees) (i j : ℕ) (t : Tree) (ds es : List ℕ) → j ≡ suc i → i < count ts → t ≡ child_or_absent ts i → Counted (λ b. tallies f b (first_children i ts)) cs ds → Counted (λ b. tally f b t) ds es → Counted (λ b. tallies f b (first_children j ts)) cs es
  counted_on ts i j t ds es g h e c d =
      counted_both (λ b. tallies f b (first_children i ts)) (λ b. tally f b t) (λ b. tallies f b (first_children j ts)) ds es
      (λ b. let more = ap (λ k. tallies f b (first_children k ts)) g in let next = more_first ts i b h in let same = ap (tally f b) e in omega (arith, more, next, same)) c d

  pub counted_end : (ts : Trees) (i : ℕ) (ds : List ℕ) → count ts ≤ i → Counted (λ b. tallies f b (first_children i ts)) cs ds → Counted (λ b. tallies f b ts) cs ds
  counted_end ts i ds h c = subst (λ us. Counted (λ b. tallies f b us) cs ds) (all_first ts i h) c

  pub counted_node : (t : Tree) (xs : List Name) (ts : Trees) (ds es : List ℕ) → xs ≡ names_of t → ts ≡ children t → Counted (λ b. own_tally f b xs) cs ds → Counted (λ b. tallies f b ts) ds es → Counted (λ b. tally f b t) cs es
  counted_node t xs ts ds es e g c d =
      counted_both (λ b. own_tally f b xs) (λ b. tallies f b ts) (λ b. tally f b t) ds es
      (λ b. let whole = opened f b t in let own = ap (own_tally f b) e in let below = ap (tallies f b) g in omega (arith, whole, own, below)) c d

-- over as many buckets
pub same_buckets : (by_symbol : Bool) (n : (Name → ℕ) → ℕ → ℕ) (cs ds es : List ℕ) → length ds ≡ length cs → Counted (n (bucket by_symbol (length ds))) ds es → Counted (n (bucket by_symbol (length cs))) ds es
same_buckets by_symbol n cs ds es e c = subst (λ k. Counted (n (bucket by_symbol k)) ds es) e c

-- of two trees
pub counted_covers : (by_symbol : Bool) (o l : Tree) (n : ℕ) (cs ds es : List ℕ) → cs ≡ replicate n 0 → Counted (λ b. tally (bucket by_symbol (length cs)) b o) cs ds → Counted (λ b. tally (bucket by_symbol (length ds)) b l) ds es → Covers by_symbol es o l
counted_covers by_symbol o l n cs ds es z c d b h k =
    let same = d.buckets ∙ c.buckets in
    let second = d.each b (subst (λ j. b < j) d.buckets h) k in
    let first = c.each b (subst (λ j. b < j) same h) (omega (arith, second, k)) in
    let outside = ap (λ j. tally (bucket by_symbol j) b o) same in
    let inside = ap (λ j. tally (bucket by_symbol j) b l) d.buckets in
    omega (arith, first, second, outside, inside)

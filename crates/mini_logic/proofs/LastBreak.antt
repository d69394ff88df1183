-- The rewrite is that of row 78 of a `do` that is run once.
use Rattle.std.proofs.Common.{◌≡◌, zero, Bool, true, false, [], refl, sym, ap, ◌∙◌, inl, inr, arith}
use Rattle.std.specs.Prelude.{◌||◌, ◌&&◌, not, Option, Some, None, if◌then◌else◌}
use Rattle.std.proofs.lemmas.Bool.{and_parts, false≢true}
use Rattle.mini_model.specs.declared.shape.Shape.TheVariants as shape
use Rattle.mini_model.specs.Tree.{Tree, Trees, node, none, ◌▸◌, count, children, empty_statement}
use Rattle.mini_model.specs.Paths.{append}
use Rattle.mini_laws.specs.Value.{Value, truth}
use Rattle.mini_terms.specs.Calculated.{operand_value}
use Rattle.mini_node.specs.Children.{part, like, with_child}
use Rattle.mini_node.specs.Kinds.{is_block}
use Rattle.mini_node.specs.Made.{absent_is, block_is}
use Rattle.mini_rows.specs.Lists.{block}
use Rattle.mini_rows.specs.Loops.{bare_break}
use Rattle.mini_rows.specs.Branches.{DoBody, around, IsFalse, Row78Do}
use Rattle.mini_logic.specs.LastContinue.{last_of, before_last}
use Rattle.mini_logic.specs.LastBreak.{is_false, fails, breaks, ends_breaking, is_broken_end, is_do, is_broken, is_read, left_in}
use Rattle.mini_logic.proofs.LastContinue.{last_pushed}

-- ---- the test

turned : (b : Bool) → not b ≡ true → b ≡ false
turned true e = absurd (false≢true e)
turned false e = refl

fails_is : (t : Tree) → fails t ≡ true → IsFalse t
fails_is t h = go (operand_value t) refl h
  where
    go : (o : Option Value) → operand_value t ≡ o → is_false o ≡ true → IsFalse t
    go (Some v) e h = record { value = v; fails = turned (truth v) h; is = e }
    go None e h = absurd (false≢true h)

test_fails : (t : Tree) → IsFalse t → fails t ≡ true
test_fails t h = ap is_false h.is ∙ ap not h.fails

-- ---- the last statement

breaks_is : (t : Tree) → breaks t ≡ true → t ≡ bare_break
breaks_is (node shape.BreakStatement [] zero (a ▸ none)) e = ap (λ u. node shape.BreakStatement [] 0 (u ▸ none)) (absent_is a e)
breaks_is t e = absurd (false≢true e)

split : (ts : Trees) → breaks (last_of ts) ≡ true → ts ≡ append (before_last ts) (bare_break ▸ none)
split none e = absurd (false≢true e)
split (t ▸ none) e = ap (λ u. u ▸ none) (breaks_is t e)
split (t ▸ (u ▸ ts)) e = ap (λ us. t ▸ us) (split (u ▸ ts) e)

pub none_breaks : (ts : Trees) → count ts ≡ 0 → breaks (last_of ts) ≡ false
none_breaks none e = refl
none_breaks (t ▸ ts) e = absurd (omega (arith, e))

-- ---- what is written is what the row writes

do_is : (t : Tree) → is_do t ≡ true → t ≡ around (DoBody (part t 1)) (part t 0)
do_is (node shape.DoWhileStatement [] zero (b ▸ (a ▸ none))) e = refl
do_is t e = absurd (false≢true e)

put_is : (t c : Tree) → is_do t ≡ true → like t (with_child (children t) 0 c) ≡ around (DoBody (part t 1)) c
put_is (node shape.DoWhileStatement [] zero (b ▸ (a ▸ none))) c e = refl
put_is t c e = absurd (false≢true e)

pub row_of : (t : Tree) → is_read t ≡ true → Row78Do t (left_in t)
row_of t h =
    let (broken, failing) = and_parts (is_broken t) (fails (part t 1)) h in
    let (is, ending) = and_parts (is_do t) (is_broken_end (part t 0)) broken in
    go (breaks (part t 0)) refl is ending (fails_is (part t 1) failing)
  where
    go : (d : Bool) → breaks (part t 0) ≡ d → is_do t ≡ true → (d || ends_breaking (part t 0)) ≡ true → IsFalse (part t 1) → Row78Do t (like t (with_child (children t) 0 (if d then empty_statement else block (before_last (children (part (part t 0) 0))))))
    go true e is f fails = inr (record { test = part t 1; fails = fails; shape = do_is t is ∙ ap (around (DoBody (part t 1))) (breaks_is (part t 0) e); written = put_is t empty_statement is })
    go false e is f fails =
        let (held, last) = and_parts (is_block (part t 0)) (breaks (last_of (children (part (part t 0) 0)))) f in
        inl (record {
          test = part t 1;
          before = before_last (children (part (part t 0) 0));
          fails = fails;
          shape = do_is t is ∙ ap (around (DoBody (part t 1))) (block_is (part t 0) held ∙ ap block (split (children (part (part t 0) 0)) last));
          written = put_is t (block (before_last (children (part (part t 0) 0)))) is;
        })

-- ---- where nothing is written the row doesn't read it

held : (test body : Tree) → is_broken_end body ≡ true → fails test ≡ true → is_read (around (DoBody test) body) ≡ true
held test body e f = ap (λ b. b && fails test) e ∙ f

pub misses : (t w : Tree) → is_read t ≡ false → Row78Do t w → ⊥
misses t w e (inl r) = false≢true (sym e ∙ ap is_read r.shape ∙ held r.test (block (append r.before (bare_break ▸ none))) (ap breaks (last_pushed r.before bare_break)) (test_fails r.test r.fails))
misses t w e (inr r) = false≢true (sym e ∙ ap is_read r.shape ∙ held r.test bare_break refl (test_fails r.test r.fails))

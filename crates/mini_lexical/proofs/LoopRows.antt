-- What becomes of a loop whose block begins by leaving it, and whose names are held, is what row 84 of lexical names says.
use Rattle.std.proofs.Common.{◌≡◌, ◌<◌, Bool, true, false, refl, sym, ap, ◌∙◌, subst, arith}
use Rattle.std.specs.Prelude.{◌&&◌, ◌||◌}
use Rattle.std.proofs.lemmas.Bool.{and_parts, false≢true}
use Rattle.mini_model.specs.declared.name.Name.{Name}
use Rattle.mini_model.specs.Tree.{Tree, Trees, none, ◌▸◌, children, child_or_absent, count, shape_of}
use Rattle.mini_laws.specs.Value.{VariableSet}
use Rattle.mini_node.specs.Children.{part}
use Rattle.mini_node.specs.Kinds.{is_block}
use Rattle.mini_node.specs.Made.{block_is}
use Rattle.mini_rows.specs.Lexical.{Row84Lexical, are_held, binds_only, is_held, is_lexical_shape, is_of_outside}
use Rattle.mini_rows.specs.Lists.{block, for_loop}
use Rattle.mini_rows.specs.Loops.{Leaving, alone, or_else, unless, leaves_by, goes_by, runs_on, test_of}
use Rattle.mini_logic.specs.MinimizeForStatement.{also, body_goes, body_runs, is_for, is_leading_for, leads, leads_from_block, may_test, with_test}
use Rattle.mini_logic.specs.MinimizeForStatement as loops
use Rattle.mini_logic.proofs.MinimizeForStatement.{and_true, by_leaves, for_is, four_put, leads_first, leaves_three, led_block, loose_if, of_tested, tested_by}
use Rattle.mini_lexical.specs.MinimizeLexicalStatement.{AppliedBy, leaves, leaving_test, statements_of}

-- ---- the parts that the code asks for

pub tested_part : (t : Tree) → leads_from_block t ≡ true → (is_for t ≡ true) × ((may_test (part t 1) ≡ true) × (leads (part t 3) ≡ true))
tested_part t e =
    let (is, rest) = and_parts (is_for t) (may_test (part t 1) && leads (part t 3)) e in
    let (tested, led) = and_parts (may_test (part t 1)) (leads (part t 3)) rest in
    (is, (tested, led))

pub four : (t : Tree) → leads_from_block t ≡ true → count (children t) ≡ 4
four t e = ap (λ u. count (children u)) (for_is t (tested_part t e).0)

pub one : (t : Tree) → leads_from_block t ≡ true → count (children (part t 3)) ≡ 1
one t e = let (is, l) = and_parts (is_block (part t 3)) (loops.leaves (child_or_absent (statements_of t) 0)) (tested_part t e).1.1 in ap (λ u. count (children u)) (block_is (part t 3) is)

pub some : (t : Tree) → leads_from_block t ≡ true → 0 < count (statements_of t)
some t e = go (statements_of t) (leads_first (part t 3) (tested_part t e).1.1)
  where
    go : (ts : Trees) → loops.leaves (child_or_absent ts 0) ≡ true → 0 < count ts
    go none h = absurd (false≢true h)
    go (u ▸ ts) h = omega arith

pub three : (t : Tree) → leads_from_block t ≡ true → count (children (child_or_absent (statements_of t) 0)) ≡ 3
three t e = leaves_three (child_or_absent (statements_of t) 0) (leads_first (part t 3) (tested_part t e).1.1)

-- ---- the row

or_second : (a b : Bool) → b ≡ true → (a || b) ≡ true
or_second true b e = refl
or_second false b e = e

first_test : (l : Leaving) (x : Tree) → part (leaves_by l x) 0 ≡ x
first_test alone x = refl
first_test (or_else s) x = refl
first_test (unless s) x = refl

module _ (V : VariableSet) where
  pub leads_on : (t : Tree) → leaves V t ≡ true → is_leading_for t ≡ true
  leads_on t e =
      let (led, held) = and_parts (leads_from_block t) (are_held (is_of_outside V (leaving_test t)) (statements_of t)) e in
      let p = tested_part t led in
      and_true (is_for t) (may_test (part t 1) && loops.body_leads (part t 3)) p.0
      (and_true (may_test (part t 1)) (loops.body_leads (part t 3)) p.1.0 (or_second (loops.leaves (part t 3)) (leads (part t 3)) p.1.1))

  row_of : (t : Tree) → leaves V t ≡ true → Row84Lexical V t (with_test t)
  row_of t e =
      let (led, held) = and_parts (leads_from_block t) (are_held (is_of_outside V (leaving_test t)) (statements_of t)) e in
      let p = tested_part t led in
      let test = tested_by (part t 1) p.1.0 in
      let body = led_block (part t 3) p.1.1 in
      let P = is_of_outside V body.x in
      let same : are_held (is_of_outside V (leaving_test t)) (statements_of t) ≡ are_held P (leaves_by body.leaving body.x ▸ body.others) =
      ap (λ ts. are_held (is_of_outside V (part (child_or_absent ts 0) 0)) ts) body.all
      ∙ ap (λ x. are_held (is_of_outside V x) (leaves_by body.leaving body.x ▸ body.others)) (first_test body.leaving body.x) in
      record {
        init = part t 0;
        test = test.tested;
        update = part t 2;
        leaving = body.leaving;
        x = body.x;
        others = body.others;
        asked = body.asked;
        tested = test.may;
        loose = body.loose;
        held = (and_parts (is_held P (leaves_by body.leaving body.x)) (are_held P body.others) (sym same ∙ held)).1;
        shape = for_is t p.0 ∙ (λ k. for_loop (part t 0) (test.is k) (part t 2) (body.is k));
        written = four_put t (body_runs (part t 3)) (also (part t 1) (body_goes (part t 3))) p.0
            ∙ (λ k. for_loop (part t 0) (also (part t 1) (body.goes_so k)) (part t 2) (body.runs_so k))
            ∙ ap (λ u. for_loop (part t 0) u (part t 2) (block (runs_on body.leaving ▸ body.others))) (test.also_so (goes_by body.leaving body.x));
      }

  -- the `if` declares nothing
  held_if : (P : Name → Bool) (l : Leaving) (x : Tree) → is_held P (leaves_by l x) ≡ true
  held_if P l x = ap (λ b. b || (is_lexical_shape (shape_of (leaves_by l x)) && binds_only P (leaves_by l x))) (loose_if l x)

  passes : (t w : Tree) → Row84Lexical V t w → leaves V t ≡ true
  passes t w r =
      let begun = leaves_by r.leaving r.x ▸ r.others in
      let P = is_of_outside V r.x in
      ap (leaves V) r.shape
      ∙ and_true (may_test (test_of r.test) && loops.leaves (leaves_by r.leaving r.x)) (are_held (is_of_outside V (part (leaves_by r.leaving r.x) 0)) begun)
      (and_true (may_test (test_of r.test)) (loops.leaves (leaves_by r.leaving r.x)) (of_tested r.test r.tested) (by_leaves r.leaving r.x r.asked r.loose))
      (ap (λ x. are_held (is_of_outside V x) begun) (first_test r.leaving r.x) ∙ and_true (is_held P (leaves_by r.leaving r.x)) (are_held P r.others) (held_if P r.leaving r.x) r.held)

  pub tested : (t u : Tree) → leaves V t ≡ true → u ≡ with_test t → AppliedBy (Row84Lexical V) t u true
  tested t u h e = subst (Row84Lexical V t) (sym e) (row_of t h)

  pub not_tested : (t : Tree) → leaves V t ≡ false → AppliedBy (Row84Lexical V) t t false
  not_tested t h = (refl, λ w r. false≢true (sym h ∙ passes t w r))

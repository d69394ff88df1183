-- A switch: what stands in it beside the statements of a case is read before them.
use Rattle.std.proofs.Common.{◌≡◌, ℕ, zero, suc, ◌+◌, ◌<◌, ◌≤◌, Bool, true, false, [], refl, sym, ap, ◌∙◌, subst, subst₂, inl, inr, true≢false, add-one, arith}
use Rattle.std.specs.Prelude.{◌⊎◌, ◌&&◌}
use Rattle.std.proofs.lemmas.Bool.{and_parts}
use Rattle.mini_model.specs.declared.name.Name.{Name}
use Rattle.mini_model.specs.declared.place.Position.TheVariants.{Stmt}
use Rattle.mini_model.specs.declared.seat.StmtSeat.{StmtSeat}
use Rattle.mini_model.specs.declared.shape.Shape.TheVariants as shape
use Rattle.mini_model.specs.Tree.{Tree, Trees, node, none, ◌▸◌, absent, listed, shape_of, children, count}
use Rattle.mini_model.specs.Paths.{append}
use Rattle.mini_laws.specs.ScopeList.{has_eval, any_has_eval}
use Rattle.mini_node.specs.Children.{part, with_child, with_part, is_bare, first_children, rest_children}
use Rattle.mini_node.specs.Kinds.{is_block, is_listed}
use Rattle.mini_rows.specs.Cases.{switch_case}
use Rattle.mini_rows.specs.Lists.{block, switch}
use Rattle.mini_rows.specs.Unused.{names, any_names, switch_around, SwitchRow, BlockRow, UnusedRow}
use Rattle.mini_rows.specs.Switches.{Switches, Liberties, without_vars}
use Rattle.mini_unused.specs.RemoveUnusedDeclaration.{open_in}
use Rattle.mini_unused.specs.SubstituteSingleUse.{Gone, Removed}
use Rattle.mini_unused.specs.Chains.{Several}
use Rattle.mini_unused.proofs.Unused.{same_parts, part_twice, part_with, parts_of, with_parts, there_within, there_child, no_block}
use Rattle.mini_inside.specs.Holding.{is_function, is_switch, is_case_shape, is_case, case_at, with_statements, is_for_shape, Applied, AppliedInCase, AppliedInCases}
use Rattle.mini_inside.proofs.Moves.{several_moves}
use Rattle.mini_inside.proofs.Holders.{or_none, left_listed, several_in, row_behind, none_behind, no_function, no_for}

-- ---- what it looks like

pub switch_is : (t : Tree) → is_switch t ≡ true → t ≡ switch (part t 0) (listed (children (part t 1)))
switch_is (node shape.SwitchStatement [] zero (d ▸ (node shape.Listed [] zero ts ▸ none))) e = refl
switch_is (node shape.SwitchStatement [] zero (d ▸ (u ▸ none))) e = absurd (true≢false (sym e))
switch_is t e = absurd (true≢false (sym e))

pub case_is : (t : Tree) → is_case t ≡ true → t ≡ switch_case (part t 0) (children (part t 1))
case_is (node shape.SwitchCase [] zero (d ▸ (node shape.Listed [] zero ts ▸ none))) e = refl
case_is (node shape.SwitchCase [] zero (d ▸ (u ▸ none))) e = absurd (true≢false (sym e))
case_is t e = absurd (true≢false (sym e))

-- a case with its list
abbrev pub case_over : Tree → Tree → Tree
case_over test l = node shape.SwitchCase [] 0 (test ▸ (l ▸ none))

module _ (d : Tree) (first : Trees) (test : Tree) (last : Trees) where
  abbrev outside : Tree
  outside = switch_around d first test last

  abbrev over : Tree → Tree
  over l = switch d (listed (append first (case_over test l ▸ last)))

  mentions : (x : Name) → names x outside ≡ any_names x (outside ▸ none)
  mentions x = sym (or_none (names x outside))

  evals : has_eval outside ≡ any_has_eval (outside ▸ none)
  unfolding has_eval
  evals = sym (or_none (has_eval outside))

  gone : (options : Switches) (ts : Trees) (m : Tree) → Gone (without_vars options) outside (listed ts) m → SwitchRow options (over (listed ts)) (over m)
  gone options ts m r = record {
    discriminant = d;
    first = first;
    test = test;
    before = ts;
    last = last;
    after = children m;
    row = row_behind (without_vars options) outside (outside ▸ none) ts mentions evals m r;
    shape = refl;
    written = ap over (left_listed (without_vars options) outside ts m r);
  }

  several : (options : Switches) (ts : Trees) (m : Tree) → Several (Gone (without_vars options) outside) (listed ts) m → Several (SwitchRow options) (over (listed ts)) (over m)
  several options ts m r = several_in (without_vars options) outside (SwitchRow options) over (gone options) ts m r

  rests : (options : Switches) (ts : Trees) (m : Tree) → Removed (without_vars options) outside (listed ts) m false → (w : Tree) → BlockRow (without_vars options) (block (listed (outside ▸ none) ▸ ts)) w → ⊥
  rests options ts m r w b = none_behind (without_vars options) outside (outside ▸ none) ts mentions evals refl m r (listed (outside ▸ none) ▸ ts) refl w b

  -- another list in the case
  pub put : (l m : Tree) → with_statements (over l) (count first) m ≡ over m
  put l m =
      let cases = append first (case_over test l ▸ last) in
      ap (λ c. switch d (listed (with_child cases (count first) (with_part c 1 m)))) (there_child first (case_over test l) last)
      ∙ ap (λ us. switch d (listed us)) (placed first (case_over test m))
    where
      placed : (ts : Trees) (c : Tree) → with_child (append ts (case_over test l ▸ last)) (count ts) c ≡ append ts (c ▸ last)
      placed none c = refl
      placed (t ▸ ts) c = ap (λ us. t ▸ us) (placed ts c)

-- ---- how many parts there are

pub has_list : (t : Tree) → is_case t ≡ true → is_listed (part t 1) ≡ true
has_list t e =
    let (a, b) = and_parts (is_case_shape (shape_of t)) (is_bare t 2 && is_listed (part t 1)) e in
    (and_parts (is_bare t 2) (is_listed (part t 1)) b).1

pub has_cases : (t : Tree) → is_switch t ≡ true → 1 < count (children t)
has_cases (node shape.SwitchStatement [] zero (d ▸ (u ▸ ts))) e = omega arith
has_cases t e = absurd (true≢false (sym e))

pub still_cases : (t : Tree) (i : ℕ) (l : Tree) → count (children (with_statements t i l)) ≡ count (children t)
still_cases t i l = same_parts t 1 (with_part (part t 1) i (with_part (case_at t i) 1 l))

pub still_case : (t : Tree) (i : ℕ) (l : Tree) → 1 < count (children t) → count (children (part (with_statements t i l) 1)) ≡ count (children (part t 1))
still_case t i l h = ap (λ u. count (children u)) (part_with t 1 (with_part (part t 1) i (with_part (case_at t i) 1 l)) h) ∙ same_parts (part t 1) i (with_part (case_at t i) 1 l)

case_with : (t : Tree) (i : ℕ) (l : Tree) → 1 < count (children t) → i < count (children (part t 1)) → case_at (with_statements t i l) i ≡ with_part (case_at t i) 1 l
case_with t i l h k = ap (λ u. part u i) (part_with t 1 (with_part (part t 1) i (with_part (case_at t i) 1 l)) h) ∙ part_with (part t 1) i (with_part (case_at t i) 1 l) k

pub still_list : (t : Tree) (i : ℕ) (l : Tree) → 1 < count (children t) → i < count (children (part t 1)) → count (children (case_at (with_statements t i l) i)) ≡ count (children (case_at t i))
still_list t i l h k = ap (λ u. count (children u)) (case_with t i l h k) ∙ same_parts (case_at t i) 1 l

-- what is put there last counts
pub put_again : (t : Tree) (i : ℕ) (l m : Tree) → 1 < count (children t) → i < count (children (part t 1)) → with_statements (with_statements t i l) i m ≡ with_statements t i m
put_again t i l m h k =
    let cases = with_part (part t 1) i (with_part (case_at t i) 1 l) in
    part_twice t 1 cases (with_part (part (with_part t 1 cases) 1) i (with_part (case_at (with_statements t i l) i) 1 m))
    ∙ ap (λ u. with_part t 1 (with_part u i (with_part (case_at (with_statements t i l) i) 1 m))) (part_with t 1 cases h)
    ∙ ap (with_part t 1) (part_twice (part t 1) i (with_part (case_at t i) 1 l) (with_part (case_at (with_statements t i l) i) 1 m))
    ∙ ap (λ u. with_part t 1 (with_part (part t 1) i (with_part u 1 m))) (case_with t i l h k)
    ∙ ap (λ u. with_part t 1 (with_part (part t 1) i u)) (part_twice (case_at t i) 1 l m)

-- ---- the case at a place

module _ (t : Tree) (i : ℕ) (s : is_switch t ≡ true) (h : i < count (children (part t 1))) (c : is_case (case_at t i) ≡ true) where
  abbrev cases : Trees
  cases = children (part t 1)

  abbrev test : Tree
  test = part (case_at t i) 0

  abbrev before : Trees
  before = first_children i cases

  abbrev after : Trees
  after = rest_children (suc i) cases

  abbrev statements : Trees
  statements = children (part (case_at t i) 1)

  abbrev there : Tree → Tree
  there l = over (part t 0) before test after l

  pub is : t ≡ there (listed statements)
  is = switch_is t s ∙ ap (λ us. switch (part t 0) (listed us)) (parts_of cases i h ∙ ap (λ u. append before (u ▸ after)) (case_is (case_at t i) c))

  -- with another list
  pub with_list : (m : Tree) → with_statements t i m ≡ there m
  with_list m =
      ap (λ u. with_part u 1 (with_part (part t 1) i (with_part (case_at t i) 1 m))) (switch_is t s)
      ∙ ap (λ u. switch (part t 0) (with_part u i (with_part (case_at t i) 1 m))) (list_is t s)
      ∙ ap (λ us. switch (part t 0) (listed us)) (with_parts cases i (with_part (case_at t i) 1 m) h)
      ∙ ap (λ u. switch (part t 0) (listed (append before (with_part u 1 m ▸ after)))) (case_is (case_at t i) c)
    where
      list_is : (t : Tree) → is_switch t ≡ true → part t 1 ≡ listed (children (part t 1))
      list_is t s = ap (λ u. part u 1) (switch_is t s)

  pub list_there : part (case_at t i) 1 ≡ listed statements
  list_there = ap (λ u. part u 1) (case_is (case_at t i) c)

  applied : (options : Switches) (m : Tree) → Several (Gone (without_vars options) (there absent)) (listed statements) m → Several (SwitchRow options) t (with_statements t i m)
  applied options m r = subst₂ (Several (SwitchRow options)) (sym is) (sym (with_list m)) (several (part t 0) before test after options statements m r)

  case_rests : (options : Switches) (m : Tree) → Removed (without_vars options) (there absent) (listed statements) m false → (w : Tree) (r : SwitchRow options t w) → count r.first ≡ i → ⊥
  case_rests options m r w row k =
      let at : case_at t i ≡ switch_case row.test row.before = ap (λ j. case_at t j) (sym k) ∙ ap (λ u. case_at u (count row.first)) row.shape ∙ there_child row.first (switch_case row.test row.before) row.last in
      let emptied : there absent ≡ switch_around row.discriminant row.first row.test row.last =
      sym (with_list absent) ∙ ap (λ j. with_statements t j absent) (sym k) ∙ ap (λ u. with_statements u (count row.first) absent) row.shape
      ∙ put row.discriminant row.first row.test row.last (listed row.before) absent
      in
      let moved = subst₂ (λ o l. Removed (without_vars options) o l m false) emptied (sym list_there ∙ ap (λ u. part u 1) at) r in
      rests row.discriminant row.first row.test row.last options row.before m moved (block (listed (switch_around row.discriminant row.first row.test row.last ▸ none) ▸ row.after)) row.row

  pub in_case : (W : Liberties) (m : Tree) (b : Bool) → Removed (open_in (with_statements t i absent) W) (with_statements t i absent) (part (case_at t i) 1) m b → (u : Tree) → u ≡ with_statements t i m → AppliedInCase W.switches t i u b
  in_case W m b r u e = by b (subst₂ (λ o l. Removed (open_in o W) o l m b) (with_list absent) list_there r)
    where
      by : (b : Bool) → Removed (without_vars W.switches) (there absent) (listed statements) m b → AppliedInCase W.switches t i u b
      by true r = subst (Several (SwitchRow W.switches) t) (sym e) (applied W.switches m r)
      by false r = (e ∙ ap (with_statements t i) r.0 ∙ with_list (listed statements) ∙ sym is, case_rests W.switches m r)

-- what is no case is read as nothing
pub no_case : (o : Switches) (t : Tree) (i : ℕ) → is_case (case_at t i) ≡ false → AppliedInCase o t i t false
no_case o t i e = (refl, by)
  where
    by : (w : Tree) (r : SwitchRow o t w) → count r.first ≡ i → ⊥
    by w r k = true≢false (sym (ap is_case (ap (λ j. case_at t j) (sym k) ∙ ap (λ u. case_at u (count r.first)) r.shape ∙ there_child r.first (switch_case r.test r.before) r.last)) ∙ e)

-- ---- all cases

-- there is none from the last place on
pub no_cases : (o : Switches) (t : Tree) (i : ℕ) → count (children (part t 1)) ≤ i → AppliedInCases o t i t false
no_cases o t i h = (refl, by)
  where
    by : (w : Tree) (r : SwitchRow o t w) → i ≤ count r.first → ⊥
    by w r k =
        let within = there_within r.first (switch_case r.test r.before) r.last in
        let same = ap (λ u. count (children (part u 1))) r.shape in
        omega (arith, within, same, h, k)

pub split : (i k : ℕ) → i ≤ k → (k ≡ i) ⊎ (suc i ≤ k)
split zero zero h = inl refl
split zero (suc k) h = inr (omega arith)
split (suc i) zero h = absurd (omega (arith, h))
split (suc i) (suc k) h = by (split i k (omega (arith, h)))
  where
    by : (k ≡ i) ⊎ (suc i ≤ k) → (suc k ≡ suc i) ⊎ (suc (suc i) ≤ suc k)
    by (inl e) = inl (ap suc e)
    by (inr l) = inr (omega (arith, l))

later_cases : (o : Switches) (t : Tree) (i : ℕ) (v u : Tree) (b : Bool) → AppliedInCase o t i v false → AppliedInCases o v (suc i) u b → AppliedInCases o t i u b
later_cases o t i v u true one others = subst (λ z. Several (SwitchRow o) z u) one.0 others
later_cases o t i v u false one others = (others.0 ∙ one.0, by)
  where
    by : (w : Tree) (r : SwitchRow o t w) → i ≤ count r.first → ⊥
    by w r k = or_later (split i (count r.first) k)
      where
        or_later : (count r.first ≡ i) ⊎ (suc i ≤ count r.first) → ⊥
        or_later (inl e) = one.1 w r e
        or_later (inr e) = subst (λ z. (w : Tree) (r : SwitchRow o z w) → suc i ≤ count r.first → ⊥) one.0 others.1 w r e

-- of the next place
pub next_cases : (o : Switches) (t : Tree) (i : ℕ) (v u : Tree) (a b : Bool) → a ≡ false → AppliedInCase o t i v a → AppliedInCases o v (i + 1) u b → AppliedInCases o t i u b
next_cases o t i v u a b e one others = later_cases o t i v u b (subst (AppliedInCase o t i v) e one) (subst (λ j. AppliedInCases o v j u b) (add-one i) others)

pub of_switch : (W : Liberties) (t u : Tree) (b : Bool) → is_switch t ≡ true → AppliedInCases W.switches t 0 u b → (q : StmtSeat) → Applied W (Stmt q) t u b
of_switch W t u true s r q = several_moves W (Stmt q) (SwitchRow W.switches) (λ t u r. inr (inr (inl r))) t u r
of_switch W t u false s r q = (r.0, by)
  where
    no_other : (t : Tree) → is_switch t ≡ true → (is_block t ≡ false) × (is_function t ≡ false) × (is_for_shape (shape_of t) ≡ false)
    no_other (node shape.SwitchStatement [] zero ts) e = (refl, refl, refl)
    no_other t e = absurd (true≢false (sym e))

    by : (w : Tree) → UnusedRow W (Stmt q) t w → ⊥
    by w (inl b) = no_block (without_vars W.switches) t (no_other t s).0 w b
    by w (inr (inl f)) = no_function W t (no_other t s).1 w f
    by w (inr (inr (inl v))) = r.1 w v (omega arith)
    by w (inr (inr (inr f))) = no_for W.switches t (no_other t s).2 w f

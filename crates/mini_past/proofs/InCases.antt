-- What is done in the statements of a case is done in the switch.
use Rattle.std.proofs.Common.{◌≡◌, ℕ, suc, ◌+◌, ◌<◌, ◌≤◌, Bool, true, false, refl, sym, ap, ◌∙◌, subst, subst₂, inl, inr, true≢false, add-one, arith}
use Rattle.std.specs.Prelude.{◌⊎◌}
use Rattle.mini_model.specs.Tree.{Tree, Trees, ◌▸◌, absent, listed, children, count}
use Rattle.mini_model.specs.Paths.{append}
use Rattle.mini_kept.specs.Without.{Assured}
use Rattle.mini_node.specs.Children.{part, first_children, rest_children}
use Rattle.mini_rows.specs.Cases.{switch_case}
use Rattle.mini_rows.specs.Lists.{switch}
use Rattle.mini_rows.specs.Past.{PastRow}
use Rattle.mini_rows.specs.PastBlocks.{PastCaseRow}
use Rattle.mini_rows.specs.Switches.{Switches, without_vars}
use Rattle.mini_rows.specs.Unused.{switch_around}
use Rattle.mini_steady.specs.Chains as walk
use Rattle.mini_unused.specs.Chains.{Several}
use Rattle.mini_unused.proofs.Unused.{there_within, there_child}
use Rattle.mini_inside.specs.Holding.{is_switch, is_case, case_at, with_statements}
use Rattle.mini_inside.proofs.Switches.{case_over, put, is as switch_there, with_list, list_there, split}
use Rattle.mini_past.proofs.Holders.{several_held, none_held}
use Rattle.mini_past.proofs.InBlocks.{in_order}
use Rattle.mini_past.specs.PastInBlocks.{AppliedPastCase, AppliedPastCases}
use Rattle.mini_past.specs.SubstitutePast.{PastGone, PastRemoved}

module _ (options : Switches) (V : Assured) (d : Tree) (first : Trees) (test : Tree) (last : Trees) where
  abbrev outside : Tree
  outside = switch_around d first test last

  abbrev over : Tree → Tree
  over l = switch d (listed (append first (case_over test l ▸ last)))

  case_row : (ts us : Trees) → PastRow V (without_vars options) outside ts us → PastCaseRow options V (over (listed ts)) (over (listed us))
  case_row ts us r = record { discriminant = d; first = first; test = test; before = ts; last = last; after = us; row = r; shape = refl; written = refl }

  several : (ts : Trees) (m : Tree) → Several (PastGone V (without_vars options) outside) (listed ts) m → Several (PastCaseRow options V) (over (listed ts)) (over m)
  several ts m = several_held V (without_vars options) outside outside refl (λ x. refl) refl (PastCaseRow options V) over case_row ts m

  rests : (ts us : Trees) (m : Tree) → PastRemoved V (without_vars options) outside (listed ts) m false → PastRow V (without_vars options) outside ts us → ⊥
  rests ts us m = none_held V (without_vars options) outside outside refl (λ x. refl) refl (PastCaseRow options V) over case_row ts us m

-- ---- the case at a place

module _ (options : Switches) (V : Assured) (t : Tree) (i : ℕ) (s : is_switch t ≡ true) (h : i < count (children (part t 1))) (c : is_case (case_at t i) ≡ true) where
  abbrev cases : Trees
  cases = children (part t 1)

  abbrev test : Tree
  test = part (case_at t i) 0

  abbrev before : Trees
  before = first_children i cases

  abbrev after : Trees
  after = rest_children (suc i) cases

  abbrev statements : Trees
  statements = children (part (case_at t i) 1)

  abbrev there : Tree → Tree
  there l = over options V (part t 0) before test after l

  is : t ≡ there (listed statements)
  is = switch_there t i s h c

  with_it : (m : Tree) → with_statements t i m ≡ there m
  with_it m = with_list t i s h c m

  applied : (m : Tree) → Several (PastGone V (without_vars options) (there absent)) (listed statements) m → Several (PastCaseRow options V) t (with_statements t i m)
  applied m r = subst₂ (Several (PastCaseRow options V)) (sym is) (sym (with_it m)) (several options V (part t 0) before test after statements m r)

  case_rests : (m : Tree) → PastRemoved V (without_vars options) (there absent) (listed statements) m false → (w : Tree) (r : PastCaseRow options V t w) → count r.first ≡ i → ⊥
  case_rests m r w row k =
      let at : case_at t i ≡ switch_case row.test row.before = ap (λ j. case_at t j) (sym k) ∙ ap (λ u. case_at u (count row.first)) row.shape ∙ there_child row.first (switch_case row.test row.before) row.last in
      let emptied : there absent ≡ switch_around row.discriminant row.first row.test row.last =
      sym (with_it absent) ∙ ap (λ j. with_statements t j absent) (sym k) ∙ ap (λ u. with_statements u (count row.first) absent) row.shape
      ∙ put row.discriminant row.first row.test row.last (listed row.before) absent
      in
      let moved = subst₂ (λ o l. PastRemoved V (without_vars options) o l m false) emptied (sym (list_there t i s h c) ∙ ap (λ u. part u 1) at) r in
      rests options V row.discriminant row.first row.test row.last row.before row.after m moved row.row

  pub in_case : (m : Tree) (b : Bool) → PastRemoved V (without_vars options) (with_statements t i absent) (part (case_at t i) 1) m b → (u : Tree) → u ≡ with_statements t i m → AppliedPastCase options V t i u b
  in_case m b r u e = by b (subst₂ (λ o l. PastRemoved V (without_vars options) o l m b) (with_it absent) (list_there t i s h c) r)
    where
      by : (b : Bool) → PastRemoved V (without_vars options) (there absent) (listed statements) m b → AppliedPastCase options V t i u b
      by true r = in_order (PastCaseRow options V) t u (subst (Several (PastCaseRow options V) t) (sym e) (applied m r))
      by false r = (e ∙ ap (with_statements t i) r.0 ∙ with_it (listed statements) ∙ sym is, case_rests m r)

-- what is no case is read as nothing
pub no_case : (options : Switches) (V : Assured) (t : Tree) (i : ℕ) → is_case (case_at t i) ≡ false → AppliedPastCase options V t i t false
no_case options V t i e = (refl, by)
  where
    by : (w : Tree) (r : PastCaseRow options V t w) → count r.first ≡ i → ⊥
    by w r k = true≢false (sym (ap is_case (ap (λ j. case_at t j) (sym k) ∙ ap (λ u. case_at u (count r.first)) r.shape ∙ there_child r.first (switch_case r.test r.before) r.last)) ∙ e)

-- ---- all cases

-- there is none from the last place on
pub no_cases : (options : Switches) (V : Assured) (t : Tree) (i : ℕ) → count (children (part t 1)) ≤ i → AppliedPastCases options V t i t false
no_cases options V t i h = (refl, by)
  where
    by : (w : Tree) (r : PastCaseRow options V t w) → i ≤ count r.first → ⊥
    by w r k =
        let within = there_within r.first (switch_case r.test r.before) r.last in
        let same = ap (λ u. count (children (part u 1))) r.shape in
        omega (arith, within, same, h, k)

later_cases : (options : Switches) (V : Assured) (t : Tree) (i : ℕ) (v u : Tree) (b : Bool) → AppliedPastCase options V t i v false → AppliedPastCases options V v (suc i) u b → AppliedPastCases options V t i u b
later_cases options V t i v u true one others = subst (λ z. walk.Several (PastCaseRow options V) z u) one.0 others
later_cases options V t i v u false one others = (others.0 ∙ one.0, by)
  where
    by : (w : Tree) (r : PastCaseRow options V t w) → i ≤ count r.first → ⊥
    by w r k = or_later (split i (count r.first) k)
      where
        or_later : (count r.first ≡ i) ⊎ (suc i ≤ count r.first) → ⊥
        or_later (inl e) = one.1 w r e
        or_later (inr e) = subst (λ z. (w : Tree) (r : PastCaseRow options V z w) → suc i ≤ count r.first → ⊥) one.0 others.1 w r e

-- of the next place
pub next_cases : (options : Switches) (V : Assured) (t : Tree) (i : ℕ) (v u : Tree) (a b : Bool) → a ≡ false → AppliedPastCase options V t i v a → AppliedPastCases options V v (i + 1) u b → AppliedPastCases options V t i u b
next_cases options V t i v u a b e one others = later_cases options V t i v u b (subst (AppliedPastCase options V t i v) e one) (subst (λ j. AppliedPastCases options V v j u b) (add-one i) others)

-- of the first that has one
pub first_case : (options : Switches) (V : Assured) (t : Tree) (i : ℕ) (u : Tree) (a : Bool) → a ≡ true → AppliedPastCase options V t i u a → AppliedPastCases options V t i u true
first_case options V t i u a e one = subst (AppliedPastCase options V t i u) e one

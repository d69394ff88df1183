-- What is written for a branch that stands in two places is what a row says, and where nothing is no row makes it lighter.
use borrow.Author.Tests.{ltb-true}
use Rattle.std.proofs.Math.Dec.{eqb-suc-zero, eqb-suc-suc}
use Rattle.std.proofs.Common.{◌≡◌, ℕ, ◌<◌, ◌^◌, arith, Bool, true, false, Some, None, refl, sym, ap, ◌∙◌, inl, inr, suc}
use Rattle.std.specs.Prelude.{◌&&◌, is_some, nat_eq, if◌then◌else◌}
use Rattle.std.proofs.lemmas.Bool.{and_parts, false≢true}
use Rattle.mini_model.specs.declared.operator.LogicalOperator.TheVariants.{Or, And}
use Rattle.mini_model.specs.declared.place.Position.TheVariants.{Expr}
use Rattle.mini_model.specs.declared.seat.Seat.{Seat}
use Rattle.mini_model.specs.Tree.{Tree, Trees, none, ◌▸◌, logical, conditional, children, child_or_absent, count}
use Rattle.mini_model.specs.Weight.{weight}
use Rattle.mini_node.specs.Children.{part, has_count}
use Rattle.mini_node.specs.Equal.{same_tree}
use Rattle.mini_node.specs.Kinds.{sequence, is_logical, is_conditional, is_sequence}
use Rattle.mini_node.specs.Made.{and_is, or_is, conditional_is, sequence_is}
use Rattle.mini_node.proofs.Equality.{tree_same, tree_itself}
use Rattle.mini_rows.specs.Editions.{ChoicesIn}
use Rattle.mini_rows.specs.Choices.{pair, HeldRow, SharedBranch, AndBoth, OrEither, LastAfterOr, LastAfterAnd, AndThenOr, OrThenAnd, Alike}
use Rattle.mini_rows.specs.Nesting.{may_join}
use Rattle.mini_choices.specs.MinimizeConditionalBranches.{is_lighter}
use Rattle.mini_choices.specs.MinimizeHeldBranches as held
use Rattle.mini_choices.specs.MinimizeHeldBranches.{item}
use Rattle.mini_choices.proofs.Trials.{Falls, both_true, tries, first_true, later_true, lighter_test}

pub two_by_count : (ts : Trees) → nat_eq (count ts) 2 ≡ has_count ts 2
two_by_count none = refl
two_by_count (t ▸ none) = refl
two_by_count (t ▸ u ▸ none) = refl
two_by_count (t ▸ u ▸ v ▸ ts) = eqb-suc-suc (suc (suc (count ts))) 1 ∙ eqb-suc-suc (suc (count ts)) 0 ∙ eqb-suc-zero (count ts)

two_is : (ts : Trees) → has_count ts 2 ≡ true → ts ≡ child_or_absent ts 0 ▸ child_or_absent ts 1 ▸ none
two_is (t ▸ u ▸ none) e = refl
two_is none e = absurd (false≢true e)
two_is (t ▸ none) e = absurd (false≢true e)
two_is (t ▸ u ▸ v ▸ ts) e = absurd (false≢true e)

pub pair_is : (t : Tree) → held.is_pair t ≡ true → t ≡ pair (item t 0) (item t 1)
pair_is t e =
    let (is, two) = and_parts (is_sequence t) (has_count (children (part t 0)) 2) e in
    sequence_is t is ∙ ap sequence (two_is (children (part t 0)) two)

-- ---- what is written is what a row says

module _ (s : Seat) (n : Tree) (chooses : is_conditional n ≡ true) where
  abbrev Contracts : Tree → Type 0
  Contracts w = Falls (λ s n w. HeldRow n w) s n w

  weighed : (w : Tree) → HeldRow n w → is_lighter s w n ≡ true → Contracts w
  weighed w r less = (r, omega (arith, ltb-true _ _ less))

  is : n ≡ conditional (part n 0) (part n 1) (part n 2)
  is = conditional_is n chooses

  consequent_is : (u : Tree) → part n 1 ≡ u → n ≡ conditional (part n 0) u (part n 2)
  consequent_is u e = is ∙ ap (λ t. conditional (part n 0) t (part n 2)) e

  alternate_is : (u : Tree) → part n 2 ≡ u → n ≡ conditional (part n 0) (part n 1) u
  alternate_is u e = is ∙ ap (conditional (part n 0) (part n 1)) e

  consequent_chosen_row : held.is_consequent_chosen s n ≡ true → Contracts (held.consequent_chosen n)
  consequent_chosen_row h =
      let (chosen, shallow) = and_parts (held.chooses (part n 1) 2 (part n 2) && is_lighter s (held.consequent_chosen n) n) (may_join (part n 0) (part (part n 1) 0)) h in
      let (reads, less) = and_parts (held.chooses (part n 1) 2 (part n 2)) (is_lighter s (held.consequent_chosen n) n) chosen in
      let (kind, same) = and_parts (is_conditional (part n 1)) (same_tree (part (part n 1) 2) (part n 2)) reads in
      weighed (held.consequent_chosen n) (AndBoth (record { a = part n 0; b = part (part n 1) 0; c = part (part n 1) 1; d = part n 2; shallow = shallow; shape = consequent_is (conditional (part (part n 1) 0) (part (part n 1) 1) (part n 2)) (conditional_is (part n 1) kind ∙ ap (conditional (part (part n 1) 0) (part (part n 1) 1)) (tree_same (part (part n 1) 2) (part n 2) same)); written = refl })) less

  alternate_chosen_row : held.is_alternate_chosen s n ≡ true → Contracts (held.alternate_chosen n)
  alternate_chosen_row h =
      let (chosen, shallow) = and_parts (held.chooses (part n 2) 1 (part n 1) && is_lighter s (held.alternate_chosen n) n) (may_join (part n 0) (part (part n 2) 0)) h in
      let (reads, less) = and_parts (held.chooses (part n 2) 1 (part n 1)) (is_lighter s (held.alternate_chosen n) n) chosen in
      let (kind, same) = and_parts (is_conditional (part n 2)) (same_tree (part (part n 2) 1) (part n 1)) reads in
      weighed (held.alternate_chosen n) (OrEither (record { a = part n 0; b = part (part n 2) 0; c = part n 1; d = part (part n 2) 2; shallow = shallow; shape = alternate_is (conditional (part (part n 2) 0) (part n 1) (part (part n 2) 2)) (conditional_is (part n 2) kind ∙ ap (λ t. conditional (part (part n 2) 0) t (part (part n 2) 2)) (tree_same (part (part n 2) 1) (part n 1) same)); written = refl })) less

  consequent_decided_row : held.is_consequent_decided s n ≡ true → Contracts (held.consequent_decided n)
  consequent_decided_row h =
      let (reads, less) = and_parts (held.decides Or (part n 1) (part n 2)) (is_lighter s (held.consequent_decided n) n) h in
      let (kind, same) = and_parts (is_logical Or (part n 1)) (same_tree (part (part n 1) 1) (part n 2)) reads in
      weighed (held.consequent_decided n) (LastAfterOr (record { a = part n 0; b = part (part n 1) 0; c = part n 2; shape = consequent_is (logical Or (part (part n 1) 0) (part n 2)) (or_is (part n 1) kind ∙ ap (logical Or (part (part n 1) 0)) (tree_same (part (part n 1) 1) (part n 2) same)); written = refl })) less

  alternate_decided_row : held.is_alternate_decided s n ≡ true → Contracts (held.alternate_decided n)
  alternate_decided_row h =
      let (reads, less) = and_parts (held.decides And (part n 2) (part n 1)) (is_lighter s (held.alternate_decided n) n) h in
      let (kind, same) = and_parts (is_logical And (part n 2)) (same_tree (part (part n 2) 1) (part n 1)) reads in
      weighed (held.alternate_decided n) (LastAfterAnd (record { a = part n 0; b = part (part n 2) 0; c = part n 1; shape = alternate_is (logical And (part (part n 2) 0) (part n 1)) (and_is (part n 2) kind ∙ ap (logical And (part (part n 2) 0)) (tree_same (part (part n 2) 1) (part n 1) same)); written = refl })) less

  consequent_followed_row : held.is_consequent_followed s n ≡ true → Contracts (held.consequent_followed n)
  consequent_followed_row h =
      let (reads, less) = and_parts (held.follows (part n 1) (part n 2)) (is_lighter s (held.consequent_followed n) n) h in
      let (kind, same) = and_parts (held.is_pair (part n 1)) (same_tree (item (part n 1) 1) (part n 2)) reads in
      weighed (held.consequent_followed n) (AndThenOr (record { a = part n 0; b = item (part n 1) 0; c = part n 2; shape = consequent_is (pair (item (part n 1) 0) (part n 2)) (pair_is (part n 1) kind ∙ ap (pair (item (part n 1) 0)) (tree_same (item (part n 1) 1) (part n 2) same)); written = refl })) less

  alternate_followed_row : held.is_alternate_followed s n ≡ true → Contracts (held.alternate_followed n)
  alternate_followed_row h =
      let (reads, less) = and_parts (held.follows (part n 2) (part n 1)) (is_lighter s (held.alternate_followed n) n) h in
      let (kind, same) = and_parts (held.is_pair (part n 2)) (same_tree (item (part n 2) 1) (part n 1)) reads in
      weighed (held.alternate_followed n) (OrThenAnd (record { a = part n 0; b = item (part n 2) 0; c = part n 1; shape = alternate_is (pair (item (part n 2) 0) (part n 1)) (pair_is (part n 2) kind ∙ ap (pair (item (part n 2) 0)) (tree_same (item (part n 2) 1) (part n 1) same)); written = refl })) less

  both_alike_row : held.are_both_alike s n ≡ true → Contracts (held.both_followed n)
  both_alike_row h =
      let (same, less) = and_parts (same_tree (part n 1) (part n 2)) (is_lighter s (held.both_followed n) n) h in
      weighed (held.both_followed n) (Alike (record { a = part n 0; b = part n 1; shape = alternate_is (part n 1) (sym (tree_same (part n 1) (part n 2) same)); written = refl })) less

  chosen_row : (w : Tree) → held.chosen_written s n ≡ Some w → Contracts w
  chosen_row w =
      tries Contracts w (held.is_consequent_chosen s n) (held.consequent_chosen n) (held.alternate_chosen_written s n) consequent_chosen_row
      (tries Contracts w (held.is_alternate_chosen s n) (held.alternate_chosen n) (held.decided_written s n) alternate_chosen_row
      (tries Contracts w (held.is_consequent_decided s n) (held.consequent_decided n) (held.alternate_decided_written s n) consequent_decided_row
      (tries Contracts w (held.is_alternate_decided s n) (held.alternate_decided n) (held.followed_written s n) alternate_decided_row
      (tries Contracts w (held.is_consequent_followed s n) (held.consequent_followed n) (held.alternate_followed_written s n) consequent_followed_row
      (tries Contracts w (held.is_alternate_followed s n) (held.alternate_followed n) (held.alike_written s n) alternate_followed_row
      (tries Contracts w (held.are_both_alike s n) (held.both_followed n) None both_alike_row (λ e. absurd (cc e))))))))

pub held_falls : (s : Seat) (n w : Tree) → held.written s n ≡ Some w → Falls (λ s n w. HeldRow n w) s n w
held_falls s n w e = go (is_conditional n) refl e
  where
    go : (b : Bool) → is_conditional n ≡ b → (if b then held.chosen_written s n else None) ≡ Some w → Falls (λ s n w. HeldRow n w) s n w
    go true h e = chosen_row s n h w e
    go false h e = absurd (cc e)

pub held_row : (edition : ℕ) (s : Seat) (n w : Tree) → held.written s n ≡ Some w → ChoicesIn edition (Expr s) n w
held_row edition s n w e = let (r, less) = held_falls s n w e in (record { row = SharedBranch r; lighter = less }, tt)

-- ---- where a row makes it lighter, something is written

module _ (s : Seat) (t : Tree) where
  by_consequent_chosen : held.is_consequent_chosen s t ≡ true → is_some (held.chosen_written s t) ≡ true
  by_consequent_chosen h = first_true (held.is_consequent_chosen s t) (held.consequent_chosen t) (held.alternate_chosen_written s t) h

  after_consequent_chosen : is_some (held.alternate_chosen_written s t) ≡ true → is_some (held.chosen_written s t) ≡ true
  after_consequent_chosen h = later_true (held.is_consequent_chosen s t) (held.consequent_chosen t) (held.alternate_chosen_written s t) h

  by_alternate_chosen : held.is_alternate_chosen s t ≡ true → is_some (held.chosen_written s t) ≡ true
  by_alternate_chosen h = after_consequent_chosen (first_true (held.is_alternate_chosen s t) (held.alternate_chosen t) (held.decided_written s t) h)

  after_alternate_chosen : is_some (held.decided_written s t) ≡ true → is_some (held.chosen_written s t) ≡ true
  after_alternate_chosen h = after_consequent_chosen (later_true (held.is_alternate_chosen s t) (held.alternate_chosen t) (held.decided_written s t) h)

  by_consequent_decided : held.is_consequent_decided s t ≡ true → is_some (held.chosen_written s t) ≡ true
  by_consequent_decided h = after_alternate_chosen (first_true (held.is_consequent_decided s t) (held.consequent_decided t) (held.alternate_decided_written s t) h)

  after_consequent_decided : is_some (held.alternate_decided_written s t) ≡ true → is_some (held.chosen_written s t) ≡ true
  after_consequent_decided h = after_alternate_chosen (later_true (held.is_consequent_decided s t) (held.consequent_decided t) (held.alternate_decided_written s t) h)

  by_alternate_decided : held.is_alternate_decided s t ≡ true → is_some (held.chosen_written s t) ≡ true
  by_alternate_decided h = after_consequent_decided (first_true (held.is_alternate_decided s t) (held.alternate_decided t) (held.followed_written s t) h)

  after_alternate_decided : is_some (held.followed_written s t) ≡ true → is_some (held.chosen_written s t) ≡ true
  after_alternate_decided h = after_consequent_decided (later_true (held.is_alternate_decided s t) (held.alternate_decided t) (held.followed_written s t) h)

  by_consequent_followed : held.is_consequent_followed s t ≡ true → is_some (held.chosen_written s t) ≡ true
  by_consequent_followed h = after_alternate_decided (first_true (held.is_consequent_followed s t) (held.consequent_followed t) (held.alternate_followed_written s t) h)

  after_consequent_followed : is_some (held.alternate_followed_written s t) ≡ true → is_some (held.chosen_written s t) ≡ true
  after_consequent_followed h = after_alternate_decided (later_true (held.is_consequent_followed s t) (held.consequent_followed t) (held.alternate_followed_written s t) h)

  by_alternate_followed : held.is_alternate_followed s t ≡ true → is_some (held.chosen_written s t) ≡ true
  by_alternate_followed h = after_consequent_followed (first_true (held.is_alternate_followed s t) (held.alternate_followed t) (held.alike_written s t) h)

  by_both_alike : held.are_both_alike s t ≡ true → is_some (held.chosen_written s t) ≡ true
  by_both_alike h = after_consequent_followed (later_true (held.is_alternate_followed s t) (held.alternate_followed t) (held.alike_written s t) (first_true (held.are_both_alike s t) (held.both_followed t) None h))

module _ (s : Seat) (n w : Tree) (small : weight (Expr s) n < 2 ^ 64) (less : weight (Expr s) w < weight (Expr s) n) where
  -- of one shape, and as the row writes it
  held_passes_as : (t u d : Tree) → n ≡ t → w ≡ u → same_tree d d && is_lighter s u t ≡ true
  held_passes_as t u d e f =
      let same = ap (weight (Expr s)) e in
      let made = ap (weight (Expr s)) f in
      both_true (same_tree d d) (is_lighter s u t) (tree_itself d) (lighter_test s u t (omega (arith, small, same)) (omega (arith, less, same, made)))

  pub held_passes : HeldRow n w → is_some (held.written s n) ≡ true
  held_passes (AndBoth r) =
      let t : Tree = conditional r.a (conditional r.b r.c r.d) r.d in
      ap (λ t. is_some (held.written s t)) r.shape ∙ by_consequent_chosen s t (both_true (same_tree r.d r.d && is_lighter s (held.consequent_chosen t) t) (may_join r.a r.b) (held_passes_as t (held.consequent_chosen t) r.d r.shape r.written) r.shallow)
  held_passes (OrEither r) =
      let t : Tree = conditional r.a r.c (conditional r.b r.c r.d) in
      ap (λ t. is_some (held.written s t)) r.shape ∙ by_alternate_chosen s t (both_true (same_tree r.c r.c && is_lighter s (held.alternate_chosen t) t) (may_join r.a r.b) (held_passes_as t (held.alternate_chosen t) r.c r.shape r.written) r.shallow)
  held_passes (LastAfterOr r) =
      let t : Tree = conditional r.a (logical Or r.b r.c) r.c in
      ap (λ t. is_some (held.written s t)) r.shape ∙ by_consequent_decided s t (held_passes_as t (held.consequent_decided t) r.c r.shape r.written)
  held_passes (LastAfterAnd r) =
      let t : Tree = conditional r.a r.c (logical And r.b r.c) in
      ap (λ t. is_some (held.written s t)) r.shape ∙ by_alternate_decided s t (held_passes_as t (held.alternate_decided t) r.c r.shape r.written)
  held_passes (AndThenOr r) =
      let t : Tree = conditional r.a (pair r.b r.c) r.c in
      ap (λ t. is_some (held.written s t)) r.shape ∙ by_consequent_followed s t (held_passes_as t (held.consequent_followed t) r.c r.shape r.written)
  held_passes (OrThenAnd r) =
      let t : Tree = conditional r.a r.c (pair r.b r.c) in
      ap (λ t. is_some (held.written s t)) r.shape ∙ by_alternate_followed s t (held_passes_as t (held.alternate_followed t) r.c r.shape r.written)
  held_passes (Alike r) =
      let t : Tree = conditional r.a r.b r.b in
      ap (λ t. is_some (held.written s t)) r.shape ∙ by_both_alike s t (held_passes_as t (held.both_followed t) r.b r.shape r.written)

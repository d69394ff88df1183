-- The `var`s of a list with a list outside of it: what is found there is a row of a `var`, and where none is found no such row reads one.
use Rattle.std.specs.Prelude.{ℕ, zero, suc, ◌≡◌, ◌<◌, ◌⊎◌, ◌||◌, not, refl, true, false, None}
use Rattle.std.proofs.Common.{ap, ◌∙◌, sym, inl, inr, true≢false, arith}
use Rattle.std.proofs.lemmas.Bool.{and_parts}
use Rattle.mini_model.specs.Tree.{Tree, Trees, ◌▸◌, listed, count, children, shape_of, child_or_absent}
use Rattle.mini_laws.specs.Naming as kinds
use Rattle.mini_laws.specs.ScopeList.{has_eval, any_has_eval}
use Rattle.mini_node.specs.Children.{part}
use Rattle.mini_rows.specs.Inside.{declares_var}
use Rattle.mini_rows.specs.Lists.{block}
use Rattle.mini_rows.specs.Unused.{names, any_names, Row71, Row71Next, BlockRow}
use Rattle.mini_rows.specs.Switches.{Liberties}
use Rattle.mini_unused.specs.Calls.{Within}
use Rattle.mini_unused.specs.RemoveUnusedDeclaration.{declares_list, is_lexical_shape, is_var, is_free_at, is_unused_declarator, list_at, is_unused, UnusedAt}
use Rattle.mini_unused.specs.SubstituteNext.{is_read_by_next, is_next, NextAt, NextGone}
use Rattle.mini_unused.specs.SubstituteSingleUse.{last_place, is_single_declarator, is_single, SingleAt, NameGone, ReadGone, Gone, Removed}
use Rattle.mini_unused.proofs.NextUses as next
use Rattle.mini_unused.proofs.SingleUses as single
use Rattle.mini_unused.proofs.Unused.{no_outside, and_both, there_child, row_told, Read, dropped, dropped_idle, seen_by_eval}
use Rattle.mini_unused.proofs.Unused as unused
use Rattle.mini_inside.proofs.Holders.{held, block_seen, next_within, seen_there, left, unused_within, single_within, next_within_there, unused_goes, single_goes, next_goes}

var_parts : (t : Tree) → is_var t ≡ true → (declares_list t ≡ true) × (not (is_lexical_shape (shape_of t)) ≡ true)
var_parts t e = and_parts (declares_list t) (not (is_lexical_shape (shape_of t))) e

module _ (W : Liberties) (a ts : Trees) where
  mentioned : (x : _) → names x (listed a) ≡ any_names x a
  mentioned x = refl

  seen : has_eval (listed a) ≡ any_has_eval a
  unfolding has_eval
  seen = refl

  abbrev behind : Trees
  behind = listed a ▸ ts

  abbrev at : ℕ → Tree
  at i = child_or_absent ts i

  -- what is told of a `var` behind the list is told there
  pub unused_back : (i j : ℕ) → is_var (at i) ≡ true → is_unused W no_outside behind (suc i) j ≡ true → is_unused W (listed a) ts i j ≡ true
  unused_back i j v e =
      let r = (and_parts (declares_list (at i)) (is_unused_declarator (is_free_at ts i) W (list_at ts i) j no_outside behind (suc i)) e).1 in
      and_both (is_var (at i)) (is_unused_declarator (is_free_at ts i) W (list_at ts i) j (listed a) ts i) v (unused_within W (listed a) a ts mentioned seen i j ∙ r)

  single_back : (i : ℕ) → is_var (at i) ≡ true → is_single W no_outside behind (suc i) ≡ true → is_single W (listed a) ts i ≡ true
  single_back i v e =
      let l = list_at ts i in
      let r = (and_parts (declares_list (at i)) (is_single_declarator (is_free_at ts i) W l (last_place (children l)) no_outside behind (suc i)) e).1 in
      and_both (is_var (at i)) (is_single_declarator (is_free_at ts i) W l (last_place (children l)) (listed a) ts i) v (single_within W (listed a) a ts mentioned seen i ∙ r)

  next_back : (i j : ℕ) → is_var (at i) ≡ true → is_next W no_outside behind (suc i) j ≡ true → is_next W (listed a) ts i j ≡ true
  next_back i j v e =
      let r = (and_parts (declares_list (at i)) (is_read_by_next (is_free_at ts i) W (list_at ts i) j no_outside behind (suc i)) e).1 in
      and_both (is_var (at i)) (is_read_by_next (is_free_at ts i) W (list_at ts i) j (listed a) ts i) v (next_within_there W (listed a) a ts mentioned seen i j ∙ r)

  -- ---- what is found

  abbrev over : Tree → Tree
  over m = held (left W (listed a) a ts mentioned seen m)

  -- the row that a name is lost by which the next declarator reads
  pub var_next : (m : Tree) → (has_eval (listed a) || has_eval (listed ts)) ≡ false → NextGone W (listed a) (listed ts) m → (r : Row71Next W (block behind) (block (listed a ▸ children m))) × (not (kinds.is_lexical r.kind) ≡ true)
  var_next m calm g =
      let unseen = block_seen behind ∙ seen_there W (listed a) a ts mentioned seen ∙ calm in
      let (var, y) = and_parts (is_var (at g.at)) (is_read_by_next (is_free_at ts g.at) W (list_at ts g.at) g.which (listed a) ts g.at) g.there.1.2 in
      let goes = next_goes W (listed a) a ts mentioned seen g.at g.which g.there.1.2 in
      let within = next_within g.at (count ts) g.there.0 in
      let row = next.next_row (block behind) (suc g.at) g.which refl within g.there.1.1 W goes unseen (over m) (ap over g.left) in
      let told = next.next_told (block behind) (suc g.at) g.which refl within g.there.1.1 W goes unseen (over m) (ap over g.left) in
      (row, told ∙ (var_parts (at g.at) var).1)

  -- and by which any is
  pub var_row : (m : Tree) → Gone W (listed a) (listed ts) m → (r : BlockRow W (block behind) (block (listed a ▸ children m))) × (declares_var r ≡ true)
  var_row m r = by r.name
    where
      unseen : has_eval (block behind) ≡ false
      unseen = block_seen behind ∙ seen_there W (listed a) a ts mentioned seen ∙ r.unseen

      by : NameGone W (listed a) (listed ts) m ⊎ (ReadGone W (listed a) (listed ts) m ⊎ NextGone W (listed a) (listed ts) m) → (r : BlockRow W (block behind) (block (listed a ▸ children m))) × (declares_var r ≡ true)
      by (inl g) =
          let (var, y) = and_parts (is_var (at g.at)) (is_unused_declarator (is_free_at ts g.at) W (list_at ts g.at) g.which (listed a) ts g.at) g.unused.1.2 in
          let (row, told) = row_told (block behind) (suc g.at) g.which refl (next_within g.at (count ts) g.unused.0) g.unused.1.1 W (unused_goes W (listed a) a ts mentioned seen g.at g.which g.unused.1.2) unseen (over m) (ap over g.left) in
          (row, told ∙ (var_parts (at g.at) var).1)
      by (inr (inl g)) =
          let l = list_at ts g.at in
          let (var, y) = and_parts (is_var (at g.at)) (is_single_declarator (is_free_at ts g.at) W l (last_place (children l)) (listed a) ts g.at) g.single in
          let goes = single_goes W (listed a) a ts mentioned seen g.at g.single in
          let within = next_within (suc g.at) (count ts) g.next in
          let row = single.row_there (block behind) (suc g.at) refl within g.declares W goes unseen (over m) (ap over g.left) in
          let told = single.single_told (block behind) (suc g.at) refl within g.declares W goes unseen (over m) (ap over g.left) in
          (inr (inr (inl row)), told ∙ (var_parts (at g.at) var).1)
      by (inr (inr g)) = let (row, var) = var_next m r.unseen g in (inr (inr (inr row)), var)

  -- ---- where nothing is found

  no_name : (i j : ℕ) → i < count behind → j < count (children (list_at behind i)) → is_var (child_or_absent behind i) ≡ true → is_unused W no_outside behind i j ≡ true → UnusedAt W (listed a) ts None → ⊥
  no_name zero j h g v e u = true≢false (sym e)
  no_name (suc i) j h g v e u = true≢false (sym (unused_back i j v e) ∙ u i (omega (arith, h)) j g)

  no_single : (i : ℕ) → suc i < count behind → is_var (child_or_absent behind i) ≡ true → is_single W no_outside behind i ≡ true → SingleAt W (listed a) ts None → ⊥
  no_single zero h v e u = true≢false (sym e)
  no_single (suc i) h v e u = true≢false (sym (single_back i v e) ∙ u i (omega (arith, h)))

  no_next : (i j : ℕ) → i < count behind → suc j < count (children (list_at behind i)) → is_var (child_or_absent behind i) ≡ true → is_next W no_outside behind i j ≡ true → NextAt W (listed a) ts None → ⊥
  no_next zero j h g v e u = true≢false (sym e)
  no_next (suc i) j h g v e u = true≢false (sym (next_back i j v e) ∙ u i (omega (arith, h)) j g)

  none_gone : UnusedAt W (listed a) ts None → (r : Read W (block behind)) → not (kinds.is_lexical r.kind) ≡ true → ⊥
  none_gone u r v =
      let stated = unused.statement_there W (block behind) r in
      let var = ap (λ z. is_var (child_or_absent (children (part z 0)) (count r.before))) r.shape ∙ ap is_var (there_child r.before stated r.after) ∙ v in
      no_name (count r.before) (count r.first) (unused.statement_within W (block behind) r) (unused.declarator_within W (block behind) r) var (unused.unused_there W (block behind) r) u

  none_read : SingleAt W (listed a) ts None → (w : Tree) (r : Row71 W (block behind) w) → not (kinds.is_lexical r.kind) ≡ true → ⊥
  none_read u w r v =
      let stated = single.stated W (block behind) w r in
      let var = ap (λ z. is_var (child_or_absent (children (part z 0)) (count r.before))) r.shape ∙ ap is_var (there_child r.before stated (r.head ▸ r.after)) ∙ v in
      no_single (count r.before) (single.single_within W (block behind) w r) var (single.single_there W (block behind) w r) u

  none_read_next : NextAt W (listed a) ts None → (w : Tree) (r : Row71Next W (block behind) w) → not (kinds.is_lexical r.kind) ≡ true → ⊥
  none_read_next u w r v =
      let stated = next.stated W (block behind) w r in
      let var = ap (λ z. is_var (child_or_absent (children (part z 0)) (count r.before))) r.shape ∙ ap is_var (there_child r.before stated r.after) ∙ v in
      no_next (count r.before) (count r.first) (next.statement_within W (block behind) w r) (next.next_within W (block behind) w r) var (next.next_there W (block behind) w r) u

  pub no_var_row : (m : Tree) → Removed W (listed a) (listed ts) m false → (w : Tree) (row : BlockRow W (block behind) w) → declares_var row ≡ true → ⊥
  unfolding dropped dropped_idle
  no_var_row m r w row v = by r.1
    where
      found : UnusedAt W (listed a) ts None × SingleAt W (listed a) ts None × NextAt W (listed a) ts None → (row : BlockRow W (block behind) w) → declares_var row ≡ true → ⊥
      found u (inl s) e = none_gone u.0 (dropped W (block behind) w s) e
      found u (inr (inl s)) e = none_gone u.0 (dropped_idle W (block behind) w s) e
      found u (inr (inr (inl s))) e = none_read u.1 w s e
      found u (inr (inr (inr s))) e = none_read_next u.2 w s e

      by : ((has_eval (listed a) || has_eval (listed ts)) ≡ true) ⊎ (UnusedAt W (listed a) ts None × SingleAt W (listed a) ts None × NextAt W (listed a) ts None) → ⊥
      by (inl e) = seen_by_eval W (block behind) (block_seen behind ∙ seen_there W (listed a) a ts mentioned seen ∙ e) w row
      by (inr u) = found u row v

  pub no_var_next : (m : Tree) → Within W (listed a) (listed ts) m false → (w : Tree) (row : Row71Next W (block behind) w) → not (kinds.is_lexical row.kind) ≡ true → ⊥
  no_var_next m r w row v = by r.1
    where
      by : ((has_eval (listed a) || has_eval (listed ts)) ≡ true) ⊎ NextAt W (listed a) ts None → ⊥
      by (inl e) = seen_by_eval W (block behind) (block_seen behind ∙ seen_there W (listed a) a ts mentioned seen ∙ e) w (inr (inr (inr row)))
      by (inr u) = none_read_next u w row v

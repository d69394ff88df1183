-- What is done in the statements of a block is done in it.
use Rattle.std.proofs.Common.{◌≡◌, Bool, true, false, [], refl, sym, ap, ◌∙◌, subst, true≢false}
use Rattle.mini_model.specs.declared.name.Name.{Name}
use Rattle.mini_model.specs.declared.place.Position.{Position}
use Rattle.mini_model.specs.declared.place.Position.TheVariants.{Elsewhere}
use Rattle.mini_model.specs.declared.shape.Shape.TheVariants as shape
use Rattle.mini_model.specs.Tree.{Tree, Trees, node, none, ◌▸◌, absent, listed, children}
use Rattle.mini_kept.specs.Without.{Assured}
use Rattle.mini_laws.specs.ScopeList.{has_eval}
use Rattle.mini_node.specs.Children.{part, with_part}
use Rattle.mini_node.specs.Kinds.{is_listed, is_block}
use Rattle.mini_node.specs.Made.{block_is}
use Rattle.mini_rows.specs.Lists.{block}
use Rattle.mini_rows.specs.Past.{PastRow}
use Rattle.mini_rows.specs.PastBlocks.{PastBlockRow, PastBlocks}
use Rattle.mini_rows.specs.Unused.{names}
use Rattle.mini_rows.specs.Switches.{Switches, without_vars}
use Rattle.mini_steady.specs.Chains as walk
use Rattle.mini_steady.specs.Own.{AppliedHere}
use Rattle.mini_unused.specs.Chains.{Chain, still, further, Several}
use Rattle.mini_past.proofs.Holders.{several_held, none_held}
use Rattle.mini_past.specs.PastInBlocks.{AppliedPastBlock}
use Rattle.mini_past.specs.SubstitutePast.{PastRemoved}

-- ---- steps, one after another

module _ (Q : Tree → Tree → Type 0) where
  after_first : (t m u : Tree) → Q t m → Chain Q m u → walk.Several Q t u
  after_first t _ _ q (still m) = walk.once t m q
  after_first t m _ q (further _ v u c r) = walk.again t v u (after_first t m v q c) r

  pub in_order : (t u : Tree) → Several Q t u → walk.Several Q t u
  in_order t u s = after_first t s.next u s.first s.others

-- ---- a block

module _ (options : Switches) (V : Assured) where
  abbrev emptied : Tree
  emptied = node shape.BlockStatement [] 0 (absent ▸ none)

  emptied_names : (x : Name) → names x emptied ≡ names x (listed none)
  emptied_names x = refl

  emptied_evals : has_eval emptied ≡ has_eval (listed none)
  unfolding has_eval
  emptied_evals = refl

  abbrev block_with : Tree → Tree
  block_with m = node shape.BlockStatement [] 0 (m ▸ none)

  block_row : (ts us : Trees) → PastRow V (without_vars options) (listed none) ts us → PastBlockRow options V (block_with (listed ts)) (block_with (listed us))
  block_row ts us r = record { before = ts; after = us; row = r; shape = refl; written = refl }

  -- no row reads it
  abbrev Unread : Tree → Type 0
  Unread t = (us : Trees) → PastRow V (without_vars options) (listed none) (children (part t 0)) us → ⊥

  block_applied : (ts : Trees) (m : Tree) (c : Bool) → PastRemoved V (without_vars options) emptied (listed ts) m c → AppliedPastBlock options V (block ts) (block_with m) c
  block_applied ts m true r = in_order (PastBlockRow options V) (block ts) (block_with m) (several_held V (without_vars options) emptied (listed none) refl emptied_names emptied_evals (PastBlockRow options V) block_with block_row ts m r)
  block_applied ts m false r = (ap block_with r.0, λ w row. subst Unread row.shape (λ us. none_held V (without_vars options) emptied (listed none) refl emptied_names emptied_evals (PastBlockRow options V) block_with block_row ts us m r) row.after row.row)

  pub of_block : (t m : Tree) (c : Bool) → is_block t ≡ true → PastRemoved V (without_vars options) (with_part t 0 absent) (part t 0) m c → (u : Tree) → u ≡ with_part t 0 m → AppliedPastBlock options V t u c
  of_block t m c h r u f =
      let is = block_is t h in
      let ts = children (part t 0) in
      let there = subst (λ v. PastRemoved V (without_vars options) (with_part v 0 absent) (part v 0) m c) is r in
      subst (λ v. AppliedPastBlock options V v u c) (sym is) (subst (λ v. AppliedPastBlock options V (block ts) v c) (sym (f ∙ ap (λ v. with_part v 0 m) is)) (block_applied ts m c there))

  pub no_block : (t : Tree) → is_block t ≡ false → AppliedPastBlock options V t t false
  no_block t e = (refl, λ w r. true≢false (sym (ap is_block r.shape) ∙ e))

  -- elsewhere
  pub elsewhere_applied : (p : Position) (t u : Tree) (b : Bool) → AppliedPastBlock options V t u b → p ≡ Elsewhere → AppliedHere (PastBlocks options V) p t u b
  elsewhere_applied p t u true r e = subst (λ o. AppliedHere (PastBlocks options V) o t u true) (sym e) r
  elsewhere_applied p t u false r e = subst (λ o. AppliedHere (PastBlocks options V) o t u false) (sym e) r

pub in_block : (t : Tree) → is_block t ≡ true → is_listed (part t 0) ≡ true
in_block t e = ap (λ v. is_listed (part v 0)) (block_is t e)

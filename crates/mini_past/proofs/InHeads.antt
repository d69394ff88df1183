-- What is done in the head of a `for`, as in a list of one declaration, is done in the `for`.
use Rattle.std.proofs.Common.{◌≡◌, zero, [], Bool, true, false, refl, sym, ap, ◌∙◌, subst, true≢false}
use Rattle.mini_model.specs.declared.kind.VariableDeclarationKind.{VariableDeclarationKind}
use Rattle.mini_model.specs.declared.kind.VariableDeclarationKind.TheVariants.{Var, Let, Const}
use Rattle.mini_model.specs.declared.shape.Shape.TheVariants as shape
use Rattle.mini_model.specs.Paths.{append}
use Rattle.mini_model.specs.Tree.{Tree, Trees, node, none, ◌▸◌, absent, listed, children}
use Rattle.mini_kept.specs.Without.{Assured}
use Rattle.mini_laws.specs.Naming.{is_lexical}
use Rattle.mini_node.specs.Children.{part, with_part}
use Rattle.mini_rows.specs.Declarations.{binding, declarator}
use Rattle.mini_rows.specs.Lists.{declaration, for_loop}
use Rattle.mini_rows.specs.Past.{PastRow}
use Rattle.mini_rows.specs.PastBlocks.{PastHeadRow}
use Rattle.mini_rows.specs.Switches.{Switches, without_vars}
use Rattle.mini_rows.specs.Unused.{resolved}
use Rattle.mini_rows.proofs.PastHeadKept.{of_head, one_left}
use Rattle.mini_rows.proofs.UnusedMeaning.{lexical_alone}
use Rattle.mini_unused.proofs.Chains.{several_over}
use Rattle.mini_inside.specs.Holding.{has_head}
use Rattle.mini_past.proofs.Holders.{row_of, left_listed, none_here}
use Rattle.mini_past.proofs.InBlocks.{in_order}
use Rattle.mini_past.specs.PastInBlocks.{AppliedPastHead}
use Rattle.mini_past.specs.SubstitutePast.{PastGone, PastRemoved}

-- ---- a `for` with such a head

for_is : (t : Tree) → has_head t ≡ true → t ≡ for_loop (part t 0) (part t 1) (part t 2) (part t 3)
for_is (node shape.ForStatement [] zero (a ▸ (b ▸ (c ▸ (d ▸ none))))) e = refl
for_is t e = absurd (true≢false (sym e))

heads_have : (K : VariableDeclarationKind) (ds : Trees) (test update body : Tree) → is_lexical K ≡ true → has_head (for_loop (declaration K ds) test update body) ≡ true
heads_have Let ds test update body e = refl
heads_have Const ds test update body e = refl
heads_have Var ds test update body e = absurd (true≢false (sym e))

pub no_head : (options : Switches) (V : Assured) (t : Tree) → has_head t ≡ false → (w : Tree) → PastHeadRow options V t w → ⊥
no_head options V t e w r = true≢false (sym (of_head V (λ n w. has_head n ≡ true) (λ test update body before after r f g. heads_have r.kind (append r.first (declarator (binding (resolved r.spelling r.symbol)) r.init ▸ (declarator r.binds r.value ▸ r.last))) test update body (lexical_alone r.kind r.goes)) t w r) ∙ e)

module _ (options : Switches) (V : Assured) (test update body : Tree) where
  abbrev outside : Tree
  outside = for_loop absent test update body

  abbrev over : Tree → Tree
  over l = for_loop (part l 0) test update body

  -- a list of one
  abbrev Alone : Tree → Type 0
  Alone l = l ≡ listed (part l 0 ▸ none)

  one_over : (t u : Tree) → Alone t → PastGone V (without_vars options) outside t u → PastHeadRow options V (over t) (over u) × Alone u
  one_over t u i r =
      let ts : Trees = part t 0 ▸ none in
      let there = subst (λ v. PastGone V (without_vars options) outside v u) i r in
      let row = row_of V (without_vars options) outside ts u there in
      let one = one_left V (without_vars options) outside (part t 0) (children u) row in (
        record { before = part t 0; after = part u 0; test = test; update = update; body = body; row = subst (PastRow V (without_vars options) outside ts) one row; shape = refl; written = refl },
        left_listed V (without_vars options) outside ts u there ∙ ap listed one,
      )

  -- no row reads it
  abbrev Unread : Tree → Type 0
  Unread t = (us : Trees) → PastRow V (without_vars options) (for_loop absent (part t 1) (part t 2) (part t 3)) (part t 0 ▸ none) us → ⊥

  applied : (h m : Tree) (b : Bool) → PastRemoved V (without_vars options) outside (listed (h ▸ none)) m b → AppliedPastHead options V (for_loop h test update body) (over m) b
  applied h m true r = in_order (PastHeadRow options V) (over (listed (h ▸ none))) (over m) (several_over (PastGone V (without_vars options) outside) (PastHeadRow options V) Alone over one_over (listed (h ▸ none)) m refl r)
  applied h m false r = (ap over r.0, λ w row. subst Unread row.shape (λ us. none_here V (without_vars options) outside refl (h ▸ none) us r.1) (row.after ▸ none) row.row)

pub in_head : (options : Switches) (V : Assured) (t m : Tree) (b : Bool) → has_head t ≡ true → PastRemoved V (without_vars options) (with_part t 0 absent) (listed (part t 0 ▸ none)) m b → (u : Tree) → u ≡ with_part t 0 (part m 0) → AppliedPastHead options V t u b
in_head options V t m b h r u f =
    let is = for_is t h in
    let there = subst (λ v. PastRemoved V (without_vars options) (with_part v 0 absent) (listed (part v 0 ▸ none)) m b) is r in
    subst (λ v. AppliedPastHead options V v u b) (sym is) (subst (λ v. AppliedPastHead options V (for_loop (part t 0) (part t 1) (part t 2) (part t 3)) v b) (sym (f ∙ ap (λ v. with_part v 0 (part m 0)) is)) (applied options V (part t 1) (part t 2) (part t 3) (part t 0) m b there))

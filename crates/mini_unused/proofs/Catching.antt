-- A handler that loses the name of what it catches is what the row says.
use Rattle.std.proofs.Common.{◌≡◌, ℕ, zero, ◌≤◌, ◌<◌, arith, Bool, true, false, [], refl, sym, ap, ◌∙◌, subst, true≢false}
use Rattle.std.specs.Prelude.{not, ◌&&◌}
use Rattle.std.proofs.lemmas.Bool.{and_parts}
use Rattle.mini_model.specs.declared.place.Position.{Position}
use Rattle.mini_model.specs.declared.place.Position.TheVariants.{Elsewhere}
use Rattle.mini_model.specs.declared.shape.Shape.TheVariants as shape
use Rattle.mini_model.specs.Tree.{Tree, node, none, ◌▸◌, shape_of}
use Rattle.mini_laws.specs.ScopeList.{has_eval}
use Rattle.mini_node.specs.Children.{names_of, part, is_bare}
use Rattle.mini_rows.specs.Catches.{handler, Row63, CatchContracts}
use Rattle.mini_kept.proofs.Rooted.{step_on}
use Rattle.mini_model.specs.Rewriting.{Reaches, done, more}
use Rattle.mini_tree.specs.Rule.{Moves}
use Rattle.mini_rows.specs.Editions.{CatchesIn}
use Rattle.mini_rows.specs.Unused.{names, resolved}
use Rattle.mini_rows.proofs.CatchWeights.{catches_lighter}
use Rattle.mini_tree.proofs.Reaching.{moves_once}
use Rattle.mini_unused.specs.RemoveUnusedDeclaration.{is_resolved_binding}
use Rattle.mini_unused.specs.SubstituteCatchClause.{is_handler_shape, is_unseen, loses_it, nameless, Applied, AppliedIn}
use Rattle.mini_unused.proofs.Unused.{not_true, binding_is}

whole : (t : Tree) → is_handler_shape (shape_of t) ≡ true → is_bare t 2 ≡ true → t ≡ handler (part t 0) (part t 1)
whole (node shape.CatchClause [] zero (a ▸ (b ▸ none))) e f = refl
whole (node shape.CatchClause xs n ts) e f = absurd (true≢false (sym f))
whole t e f = absurd (true≢false (sym e))

row_there : (t : Tree) → loses_it t ≡ true → Row63 t (nameless t)
row_there t e =
    let c = is_unseen (names_of (part t 0)) (part t 1) in
    let b = is_resolved_binding (part t 0) in
    let (p, q) = and_parts (is_handler_shape (shape_of t)) (is_bare t 2 && (b && c)) e in
    let (r, s) = and_parts (is_bare t 2) (b && c) q in
    let (u, v) = and_parts b c s in
    let is = whole t p r in
    let (spelling, symbol, named) = binding_is (part t 0) u in
    let x = resolved spelling symbol in
    let body = part t 1 in
    let (unmentioned, unseen) = and_parts (not (names x body)) (not (has_eval body)) (sym (ap (λ y. is_unseen (names_of y) body) named) ∙ v) in
    record {
      spelling = spelling;
      symbol = symbol;
      body = body;
      unmentioned = not_true (names x body) unmentioned;
      unseen = not_true (has_eval body) unseen;
      shape = is ∙ ap (λ y. handler y body) named;
      written = ap nameless is;
    }

pub applied : (t u : Tree) → loses_it t ≡ true → u ≡ nameless t → Applied Elsewhere t u true
applied t u e f =
    let row = subst (Row63 t) (sym f) (row_there t e) in
    moves_once CatchContracts Elsewhere t u (record { row = row; lighter = catches_lighter Elsewhere t u row })

-- ---- where nothing is written the row doesn't read it

read : (t w : Tree) → Row63 t w → loses_it t ≡ true
read t w r = ap loses_it r.shape ∙ (λ i. not (r.unmentioned i) && not (r.unseen i))

pub stays : (t : Tree) → loses_it t ≡ false → Applied Elsewhere t t false
stays t e = (refl, λ w r. true≢false (sym (read t w r) ∙ e))

-- ---- where an edition has it, and where not

module _ (R Q : Position → Tree → Tree → Type 0) (f : (p : Position) (t u : Tree) → R p t u → Q p t u) where
  reaches_on : {p : Position} {t u : Tree} → Reaches R p t u → Reaches Q p t u
  reaches_on (done p t) = done p t
  reaches_on (more p t u v s r) = more p t u v (step_on {R = R} {Q = Q} f s) (reaches_on r)

  moves_on : (p : Position) (t u : Tree) → Moves R p t u → Moves Q p t u
  moves_on p t u m = record { next = m.next; step = step_on {R = R} {Q = Q} f m.step; others = reaches_on m.others }

pub in_edition : (e : ℕ) → 2019 ≤ e → (t u : Tree) (b : Bool) → Applied Elsewhere t u b → AppliedIn e Elsewhere t u b
in_edition e late t u true m = moves_on CatchContracts (CatchesIn e) (λ p n w c. (c, late)) Elsewhere t u m
in_edition e late t u false m = (m.0, λ w c. m.1 w c.0.row)

pub too_early : (e : ℕ) → e < 2019 → (p : Position) (t : Tree) → AppliedIn e p t t false
too_early e early p t = (refl, λ w c. absurd (let late = c.1 in omega arith))

pub elsewhere : (e : ℕ) (p : Position) (t : Tree) → (p ≡ Elsewhere → ⊥) → AppliedIn e p t t false
elsewhere e Elsewhere t f = absurd (f refl)
elsewhere e p t f = (refl, λ w c. absurd c.0.row)

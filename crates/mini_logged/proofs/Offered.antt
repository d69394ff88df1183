-- A row makes something of the list or the statement around a node where the code says so.
use Rattle.std.proofs.Common.{◌≡◌, ℕ, zero, suc, Bool, true, false, [], ◌∷◌, refl, sym, ap, ◌∙◌, lt-ltb}
use Rattle.std.specs.Prelude.{◌&&◌, ◌||◌, Option, Some, None, is_some, option_and_then, if◌then◌else◌}
use Rattle.std.proofs.lemmas.Bool.{false≢true}
use Rattle.mini_model.specs.declared.place.Position.{Position}
use Rattle.mini_model.specs.declared.place.Position.TheVariants.{Stmt}
use Rattle.mini_model.specs.declared.seat.StmtSeat.{StmtSeat}
use Rattle.mini_model.specs.Paths.{Path}
use Rattle.mini_model.specs.Tree.{Tree, Trees, children, listed}
use Rattle.mini_model.specs.Weight.{weight}
use Rattle.mini_node.specs.Kinds.{is_listed}
use Rattle.mini_laws.specs.Value.{VariableSet}
use Rattle.mini_log.specs.declared.row.LogRow.{LogRow}
use Rattle.mini_log.specs.declared.row.LogRow.TheVariants as row
use Rattle.mini_log.specs.Terms.{when}
use Rattle.mini_log.specs.ListRows.{bare_export, bare_head, bare_let, first_by, gone, in_list, is_statements, joined, spread, unwrapped, within}
use Rattle.mini_log.specs.RowStep.{first_lighter, held_forms, or_lighter, row_at}
use Rattle.mini_recorded.proofs.Lighter.{IsLighter, gone_lighter, joined_lighter, spread_lighter, let_lighter, export_lighter, head_lighter, unwrapped_lighter}
use Rattle.mini_replay.specs.Seeking.{MadeBeside, MadeHere}
use Rattle.mini_logged.specs.Offers.{AnyOffered, let_row, export_row, empty_row, block_row, offer_at, offer_listed, offer_beside}

-- ---- the first that is lighter

there : (p : Position) (t : Tree) (o rest : Option Tree) → is_some o ≡ true → IsLighter p t o → is_some (or_lighter p t o rest) ≡ true
there p t None rest e l = absurd (false≢true e)
there p t (Some u) rest e l = ap (λ b. is_some (if b then Some u else rest)) (lt-ltb (weight p u) (weight p t) (l u refl))

not_there : (p : Position) (t : Tree) (o rest : Option Tree) → is_some o ≡ false → or_lighter p t o rest ≡ rest
not_there p t None rest e = refl
not_there p t (Some u) rest e = absurd (false≢true (sym e))

either_there : (p : Position) (t : Tree) (o q : Option Tree) → is_some o || is_some q ≡ true → IsLighter p t o → IsLighter p t q → is_some (first_lighter p t (o ∷ q ∷ [])) ≡ true
either_there p t None q e l m = there p t q None e m
either_there p t (Some u) q e l m = there p t (Some u) (or_lighter p t q None) refl l

neither_there : (p : Position) (t : Tree) (o q : Option Tree) → is_some o || is_some q ≡ false → first_lighter p t (o ∷ q ∷ []) ≡ None
neither_there p t None None e = refl
neither_there p t None (Some u) e = absurd (false≢true (sym e))
neither_there p t (Some u) q e = absurd (false≢true (sym e))

-- ---- in a list

listed_by : (b : Bool) (o : Option Trees) → is_some (option_and_then (λ us. when b (listed us)) o) ≡ (b && is_some o)
listed_by true None = refl
listed_by true (Some us) = refl
listed_by false None = refl
listed_by false (Some us) = refl

in_list_is : (g : Trees → Option Trees) (p : Position) (t : Tree) (i : ℕ) → is_some (in_list g p t i) ≡ ((is_statements p && is_listed t) && is_some (within g (children t) i))
in_list_is g p t i = listed_by (is_statements p && is_listed t) (within g (children t) i)

-- of what a place holds: nothing, where it is no list of statements
is_there : (g : Trees → Option Trees) (p : Position) (t : Tree) (i : ℕ) (c : Bool) → is_statements p && is_listed t ≡ true → is_some (within g (children t) i) ≡ c → is_some (in_list g p t i) ≡ c
is_there g p t i c e f = in_list_is g p t i ∙ ap (λ a. a && is_some (within g (children t) i)) e ∙ f

is_nowhere : (g : Trees → Option Trees) (p : Position) (t : Tree) (i : ℕ) → is_statements p && is_listed t ≡ false → is_some (in_list g p t i) ≡ false
is_nowhere g p t i e = in_list_is g p t i ∙ ap (λ a. a && is_some (within g (children t) i)) e

-- no row makes anything
record NoRow (b : Bool) (p : Position) (t : Tree) (i : ℕ) : Type 0 where
  lets : first_lighter p t (held_forms b row.Row61 p t i) ≡ None
  exports : is_some (in_list (first_by bare_export) p t i) ≡ false
  empties : is_some (in_list gone p t i) || is_some (in_list (joined b) p t i) ≡ false
  blocks : first_lighter p t (held_forms b row.Row79 p t i) ≡ None

no_row : (b : Bool) (W : VariableSet) (p : Position) (t : Tree) (i : ℕ) → NoRow b p t i → (r : LogRow) (q : Path) → row_at b W r p t (i ∷ q) ≡ None
no_row b W p t i n row.Row61 [] = n.lets
no_row b W p t i n row.Row66 [] = neither_there p t (in_list gone p t i) (in_list (joined b) p t i) n.empties
no_row b W p t i n row.Row79 [] = n.blocks
no_row b W p t i n r [] = refl
no_row b W p t i n row.Row61 (zero ∷ []) = not_there p t (in_list (first_by bare_export) p t i) None n.exports
no_row b W p t i n r (zero ∷ []) = refl
no_row b W p t i n r (zero ∷ (k ∷ q)) = refl
no_row b W p t i n r (suc k ∷ q) = refl

-- ---- of a branch or a body

held_by : (b : Bool) (W : VariableSet) (q : StmtSeat) (t : Tree) (i : ℕ) (x y : Bool) → is_some (bare_head t i) ≡ x → is_some (unwrapped t i) ≡ y → MadeBeside (row_at b W) (Stmt q) t i (if x then Some let_row else if y then Some block_row else None)
held_by b W q t i true y e f = there (Stmt q) t (bare_head t i) None e (head_lighter q t i)
held_by b W q t i false true e f = there (Stmt q) t (unwrapped t i) None f (unwrapped_lighter q t i)
held_by b W q t i false false e f =
    no_row b W (Stmt q) t i
    (record {
      lets = not_there (Stmt q) t (bare_head t i) None e;
      exports = is_nowhere (first_by bare_export) (Stmt q) t i refl;
      empties = neither (is_some (in_list gone (Stmt q) t i)) (is_some (in_list (joined b) (Stmt q) t i)) (is_nowhere gone (Stmt q) t i refl) (is_nowhere (joined b) (Stmt q) t i refl);
      blocks = not_there (Stmt q) t (unwrapped t i) None f;
    })
  where
    neither : (c d : Bool) → c ≡ false → d ≡ false → c || d ≡ false
    neither true d e f = e
    neither false d e f = f

-- ---- in any other place

module _ (b : Bool) (W : VariableSet) (p : Position) (t : Tree) (i : ℕ) (lets : held_forms b row.Row61 p t i ≡ in_list (first_by bare_let) p t i ∷ []) (blocks : held_forms b row.Row79 p t i ≡ in_list spread p t i ∷ []) where
  nothing_by : is_some (in_list (first_by bare_let) p t i) ≡ false → is_some (in_list (first_by bare_export) p t i) ≡ false → is_some (in_list gone p t i) || is_some (in_list (joined b) p t i) ≡ false → is_some (in_list spread p t i) ≡ false →
      MadeBeside (row_at b W) p t i None
  nothing_by e f g h = no_row b W p t i (record {
    lets = ap (first_lighter p t) lets ∙ not_there p t (in_list (first_by bare_let) p t i) None e;
    exports = f;
    empties = g;
    blocks = ap (first_lighter p t) blocks ∙ not_there p t (in_list spread p t i) None h;
  })

  at_by : is_statements p && is_listed t ≡ true → (x y z w : Bool) → is_some (within (first_by bare_let) (children t) i) ≡ x → is_some (within (first_by bare_export) (children t) i) ≡ y →
      is_some (within gone (children t) i) || is_some (within (joined b) (children t) i) ≡ z → is_some (within spread (children t) i) ≡ w →
      MadeBeside (row_at b W) p t i (if x then Some let_row else if y then Some export_row else if z then Some empty_row else if w then Some block_row else None)
  at_by s true y z w e f g h = ap (λ os. is_some (first_lighter p t os)) lets ∙ there p t (in_list (first_by bare_let) p t i) None (is_there (first_by bare_let) p t i true s e) (let_lighter p t i)
  at_by s false true z w e f g h = there p t (in_list (first_by bare_export) p t i) None (is_there (first_by bare_export) p t i true s f) (export_lighter p t i)
  at_by s false false true w e f g h =
      either_there p t (in_list gone p t i) (in_list (joined b) p t i)
      (ap (λ c. c || is_some (in_list (joined b) p t i)) (is_there gone p t i (is_some (within gone (children t) i)) s refl) ∙ ap (λ c. is_some (within gone (children t) i) || c) (is_there (joined b) p t i (is_some (within (joined b) (children t) i)) s refl) ∙ g)
      (gone_lighter p t i) (joined_lighter b p t i)
  at_by s false false false true e f g h = ap (λ os. is_some (first_lighter p t os)) blocks ∙ there p t (in_list spread p t i) None (is_there spread p t i true s h) (spread_lighter p t i)
  at_by s false false false false e f g h =
      nothing_by (is_there (first_by bare_let) p t i false s e) (is_there (first_by bare_export) p t i false s f)
      (ap (λ c. c || is_some (in_list (joined b) p t i)) (is_there gone p t i (is_some (within gone (children t) i)) s refl) ∙ ap (λ c. is_some (within gone (children t) i) || c) (is_there (joined b) p t i (is_some (within (joined b) (children t) i)) s refl) ∙ g)
      (is_there spread p t i false s h)

  listed_made_by : (c : Bool) → is_statements p && is_listed t ≡ c → MadeBeside (row_at b W) p t i (if c then offer_at b (children t) i else None)
  listed_made_by true s =
      at_by s (is_some (within (first_by bare_let) (children t) i)) (is_some (within (first_by bare_export) (children t) i)) (is_some (within gone (children t) i) || is_some (within (joined b) (children t) i)) (is_some (within spread (children t) i)) refl refl refl refl
  listed_made_by false s =
      nothing_by (is_nowhere (first_by bare_let) p t i s) (is_nowhere (first_by bare_export) p t i s)
      (ap (λ c. c || is_some (in_list (joined b) p t i)) (is_nowhere gone p t i s) ∙ is_nowhere (joined b) p t i s) (is_nowhere spread p t i s)

  listed_made : MadeBeside (row_at b W) p t i (offer_listed b p t i)
  listed_made = listed_made_by (is_statements p && is_listed t) refl

pub beside_made : (b : Bool) (W : VariableSet) (p : Position) (t : Tree) (i : ℕ) → MadeBeside (row_at b W) p t i (offer_beside b p t i)
beside_made b W (Stmt q) t i = held_by b W q t i (is_some (bare_head t i)) (is_some (unwrapped t i)) refl refl
beside_made b W p t i = listed_made b W p t i refl refl

-- ---- where the path ends

pub here_made : (b : Bool) (W : VariableSet) (p : Position) (t : Tree) (o : Option LogRow) → AnyOffered W p t o → MadeHere (row_at b W) p t o
here_made b W p t None h = h
here_made b W p t (Some r) h = h

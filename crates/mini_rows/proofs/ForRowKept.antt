-- What the rows of the head of a `for` write keeps what a program has to keep.
use Rattle.std.proofs.Common.{◌≡◌, Bool, true, refl, sym, subst, inl, inr}
use Rattle.mini_model.specs.declared.place.Position.TheVariants.{Stmt}
use Rattle.mini_model.specs.declared.seat.StmtSeat.{StmtSeat}
use Rattle.mini_model.specs.Tree.{Tree, absent}
use Rattle.mini_accept.specs.WellShaped.{an_init, an_expression, fits}
use Rattle.mini_kept.proofs.Rows.{statement}
use Rattle.mini_rows.specs.Arranged.{KeptAt}
use Rattle.mini_rows.specs.Lists.{for_loop}
use Rattle.mini_rows.specs.ForParts.{ForPartRow}
use Rattle.mini_rows.proofs.ForPartMeaning.{idle_is}
use Rattle.mini_rows.proofs.ForPartKept.{gone, init_kept, update_kept, init_fits, update_fits, of_update}
use Rattle.mini_rows.proofs.Vanishing.{vanishes}

pub parts_kept : (q : StmtSeat) (n w : Tree) → ForPartRow n w → KeptAt (Stmt q) n w
parts_kept q n w (inl r) =
    let idle = idle_is r.init r.idle in
    subst (λ t. KeptAt (Stmt q) t w) (sym r.shape) (subst (KeptAt (Stmt q) (for_loop r.init r.test r.update r.body)) (sym r.written)
    (init_kept q r.init absent (gone an_init r.init idle.plain (vanishes r.init idle.dropped)) r.test r.update r.body))
parts_kept q n w (inr r) =
    let idle = idle_is r.update r.idle in
    subst (λ t. KeptAt (Stmt q) t w) (sym r.shape) (subst (KeptAt (Stmt q) (for_loop r.init r.test r.update r.body)) (sym r.written)
    (update_kept q r.update absent (gone an_expression r.update idle.plain (vanishes r.update idle.dropped)) r.init r.test r.body))

-- ---- where it stands

pub parts_fit : (strict : Bool) (n w : Tree) → ForPartRow n w → fits strict statement n ≡ true → fits strict statement w ≡ true
parts_fit strict n w (inl r) e = subst (λ t. fits strict statement t ≡ true) (sym r.written) (init_fits strict r.init r.test r.update r.body (subst (λ t. fits strict statement t ≡ true) r.shape e))
parts_fit strict n w (inr r) e = subst (λ t. fits strict statement t ≡ true) (sym r.written) (update_fits strict r.init r.test r.update absent r.body refl (subst (λ t. fits strict statement t ≡ true) r.shape e))

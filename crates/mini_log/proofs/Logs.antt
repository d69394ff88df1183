-- A log that is accepted is a way of steps by rows, and so keeps the program.
use Rattle.std.proofs.Common.{◌≡◌, subst}
use Rattle.std.specs.Prelude.{List, [], ◌∷◌, Some}
use Rattle.std.proofs.lemmas.Option.{same_Some, option_and_then_some}
use Rattle.mini_model.specs.declared.place.Position.TheVariants.{Elsewhere}
use Rattle.mini_model.specs.Paths.{Path}
use Rattle.mini_model.specs.Rewriting.{Step, Reaches}
use Rattle.mini_model.specs.Rewriting as rewriting
use Rattle.mini_model.specs.Tree.{Tree}
use Rattle.mini_accept.specs.WellShaped.{IsWellShaped}
use Rattle.mini_laws.specs.Value.{VariableSet}
use Rattle.mini_kept.specs.Loosely.{ProgramIsKeptLoosely}
use Rattle.mini_kept.proofs.Loosely.{loosely_keeps}
use Rattle.mini_rows.specs.Redex.{Rewrites}
use Rattle.mini_rows.specs.Switches.{Switches, let_go, of_every_edition}
use Rattle.mini_rows.proofs.AllRows.{all_loose}
use Rattle.mini_log.specs.declared.row.LogRow.{LogRow}
use Rattle.mini_log.specs.RowStep.{Entry, row_at, row_step, row_numbered, entry_step, replayed}
use Rattle.mini_log.proofs.Rows.{falls, rewrites}
use Rattle.mini_log.proofs.Walking.{walked}

module _ (o : Switches) (W : VariableSet) where
  pub a_step : (r : LogRow) (t : Tree) (q : Path) (u : Tree) → row_step o.sequences W r t q ≡ Some u → Step (Rewrites (of_every_edition o) W) Elsewhere t u
  a_step r t q u e =
      walked (row_at o.sequences W r) (Rewrites (of_every_edition o) W) (λ p n q w is. (let f = falls o W r p n q w is in rewrites o W p n w f.row f.lighter)) Elsewhere t q u e

  pub a_way : (t u : Tree) (log : List Entry) → replayed o.sequences W t log ≡ Some u → Reaches (Rewrites (of_every_edition o) W) Elsewhere t u
  a_way t u [] e = subst (λ v. Reaches (Rewrites (of_every_edition o) W) Elsewhere t v) (same_Some t u e) (rewriting.done Elsewhere t)
  a_way t u (x ∷ log) e =
      option_and_then_some (λ v. replayed o.sequences W v log) (entry_step o.sequences W t x) u e (λ v is rest.
      option_and_then_some (λ r. row_step o.sequences W r t x.at) (row_numbered x.row) v is (λ r known done. rewriting.more Elsewhere t v u (a_step r t x.at v done) (a_way v u log rest)))

  pub all_kept : (t u : Tree) (log : List Entry) → IsWellShaped t → replayed o.sequences W t log ≡ Some u → ProgramIsKeptLoosely (let_go o) W t u
  all_kept t u log shaped e = loosely_keeps (Rewrites (of_every_edition o) W) (let_go o) W (all_loose (of_every_edition o) W) t u (a_way t u log e) shaped

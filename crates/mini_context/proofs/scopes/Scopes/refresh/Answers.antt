use Rattle.std.proofs.Common.{◌≡◌, ap, length, arith}
use Rattle.std.proofs.lemmas.Result.{on_ok_weaker}
use Rattle.mini_context.specs.Facts.{facts_of}
use Rattle.mini_context.proofs.Known.{refreshed_by}
use Rattle.mini_context.proofs.scopes.Scopes.refresh.Goals as goal

pub returns-in-Ok : goal.returns-in-Ok
returns-in-Ok c =
    let tops = c.self.inside.first_tops.items in
    let count : c.in-Ok.symbols ≡ length c.args.self.now.reads = omega (arith, ap (λ f. length f.reads) c.self.view_is) in
    on_ok_weaker _ (refreshed_by c.args.self.now (facts_of c.look_at.new.look tops) c.in-Ok.symbols c.args.program.now count (ap (λ f. f.tops) c.self.view_is)) (c.look_at.ensures tops)

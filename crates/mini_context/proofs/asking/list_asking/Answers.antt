use Rattle.std.proofs.Common.{subst}
use Rattle.std.proofs.lemmas.Result.{on_ok_weaker}
use Rattle.mini_laws.specs.Bodies.{outermost, bodies_in}
use Rattle.mini_context.specs.Asking.{PutAsking}
use Rattle.mini_context.proofs.Askings.{top_alike}
use Rattle.mini_context.proofs.asking.list_asking.Goals as goal

pub returns : goal.returns
returns c =
    on_ok_weaker c.mark_asking.result (λ put. subst (λ ms. PutAsking (bodies_in c.args.program.now) ms c.mark_asking.new.marks.items) c.new.ensures.items put)
    (c.mark_asking.ensures outermost (top_alike c.stands.result c.stands.ensures))

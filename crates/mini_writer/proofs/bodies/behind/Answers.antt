use Rattle.std.proofs.Common.{◌≡◌, ◌<◌, ◌≤◌, length, get_or}
use Rattle.serde_json.specs.View.{items_view}
use Rattle.mini_writer.specs.Written.{with_directives}
use Rattle.mini_writer.proofs.Lists.{directive_step, behind_end}
use Rattle.mini_writer.proofs.bodies.behind.Goals as goal

pub loop-text-preserved : goal.loop-text-preserved
loop-text-preserved c =
    let i = c.loop-text.text-index in
    let within : i < length c.args.directives.now = rw (← c.as_slice-text-items.ensures) c.loop-text-test.true in
    let is : c.text-item.result ≡ get_or c.args.directives.now i c.text-item.result = rw (← c.as_slice-text-items.ensures) c.text-item.is in
    directive_step c.loop-text.all.items c.push.new.self.items c.in_ok-value.value c.args.directives.now i c.text-item.result (items_view c.args.statements.items) (with_directives c.args.directives.now (items_view c.args.statements.items)) c.loop-text.invariant within is c.in_ok-value.ensures c.in_ok-push.ensures.items

pub returns : goal.returns
returns c =
    let over : length c.args.directives.now ≤ c.loop-text.text-index = rw (← c.as_slice-text-items.ensures) c.loop-text-test.false in
    behind_end c.loop-text.all.items c.args.statements.items c.append.new.self.items c.args.directives.now c.loop-text.text-index (with_directives c.args.directives.now (items_view c.args.statements.items)) over c.loop-text.invariant c.in_ok-append.ensures.items

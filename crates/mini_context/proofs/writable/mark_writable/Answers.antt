use Rattle.std.proofs.Common.{subst, arith}
use Rattle.mini_context.specs.Holders.{variables_in, PutAll}
use Rattle.mini_context.proofs.Holding.{writables_told, room_told}
use Rattle.mini_context.proofs.writable.mark_writable.Goals as goal

pub returns-clause-marks : goal.returns-clause-marks
returns-clause-marks c =
    let put = subst (λ ms. PutAll (variables_in c.args.program.now) ms c.put_node.new.marks.items) c.new.ensures.items c.in_ok-put_node.ensures in
    writables_told c.args.program.now c.put_node.new.marks.items c.take_forbidden.new.marks.items put c.take_forbidden.ensures

pub returns-clause-room : goal.returns-clause-room
returns-clause-room c =
    let put = subst (λ ms. PutAll (variables_in c.args.program.now) ms c.put_node.new.marks.items) c.new.ensures.items c.in_ok-put_node.ensures in
    room_told c.args.program.now c.put_node.new.marks.items _ put (omega arith)

use Rattle.mini_context.proofs.Housing.{other_houses, carried_houses}
use Rattle.mini_context.proofs.mentions.put_home.Goals as goal
use Rattle.mini_context.proofs.mentions.put_home.Goals.{then-not-is_binding_name-via-then-not-is_binding_name, then-not-is_binding_name-via-else-not-is_binding_name+then-standing}

pub returns-then-not-is_binding_name : goal.returns-then-not-is_binding_name
returns-then-not-is_binding_name c =
    elim c.then-not-is_binding_name.branch [
      | then-not-is_binding_name-via-then-not-is_binding_name w ↦ other_houses c.args.standing.usage c.args.standing.around c.args.node.now c.shape.result.now c.is_binding_name.result _ c.shape.ensures c.is_binding_name.ensures w.if-not-is_binding_name.true
      | then-not-is_binding_name-via-else-not-is_binding_name+then-standing w ↦ carried_houses c.args.standing.usage c.args.standing.around c.args.node.now _ w.if-standing.true
    ]

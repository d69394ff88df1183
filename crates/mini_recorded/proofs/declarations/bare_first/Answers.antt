use Rattle.std.proofs.Common.{refl, arith}
use Rattle.mini_recorded.proofs.DeclarationForms.{bares, bares_nothing, has_init}
use Rattle.mini_recorded.proofs.declarations.bare_first.Goals as goal

pub returns-then-at-len : goal.returns-then-at-len
returns-then-at-len c = bares_nothing c.args.declarators.now c.first_undefined-at.result c.first_undefined-at.ensures (omega arith)

pub returns : goal.returns
returns c =
    bares c.args.declarators.now _ c.first_undefined-at.result c.child_mut.result.now c.bare.new.node c.first_undefined-at.ensures (omega arith) c.child_mut.ensures.value c.bare.ensures refl

pub bare-requires : goal.bare-requires
bare-requires c = has_init c.args.declarators.now c.first_undefined-at.result c.child_mut.result.now c.first_undefined-at.ensures (omega arith) c.child_mut.ensures.value

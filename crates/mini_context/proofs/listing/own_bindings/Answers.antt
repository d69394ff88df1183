use Rattle.std.proofs.Common.{arith}
use Rattle.mini_context.specs.Tables.{OwnedBy}
use Rattle.mini_context.proofs.Gathering.{items_begin, items_end, items_turn}
use Rattle.mini_context.proofs.Listings.{owners_add}
use Rattle.mini_context.proofs.listing.own_bindings.Goals as goal

pub loop-binding-init : goal.loop-binding-init
loop-binding-init c = items_begin (OwnedBy c.args.scope) (λ b. b.name) (owners_add c.args.scope) c.args.bindings.now c.args.owners.now.items

pub loop-binding-preserved : goal.loop-binding-preserved
loop-binding-preserved c = items_turn (OwnedBy c.args.scope) (λ b. b.name) (owners_add c.args.scope) c.args.bindings.now c.loop-binding.binding-index c.binding-item.result _ _ _ c.loop-binding-test.true c.binding-item.is c.loop-binding.invariant c.own_name.ensures

pub returns : goal.returns
returns c = items_end (OwnedBy c.args.scope) (λ b. b.name) c.args.bindings.now c.loop-binding.binding-index _ _ (omega arith) c.loop-binding.invariant

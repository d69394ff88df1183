use Rattle.std.proofs.Common.{◌∙◌, ap}
use Rattle.mini_model.specs.Paths.{append}
use Rattle.mini_stmt.proofs.Unreached.{some_rest, after_dropped}
use Rattle.mini_stmt.proofs.rewrites.drop_unreached.drop_after.Goals as goal

pub remove-requires : goal.remove-requires
remove-requires c = some_rest c.args.list.now c.in_ok-rest.rest c.args.at c.requires.0 c.in_ok-rest.ensures.rest

pub returns : goal.returns
returns c =
    after_dropped c.args.going c.args.list.now c.args.at c.split_off.new.self c.in_ok-rest.rest c.remove.result c.remove.new.self c.leave_all.new.list c.append.new.self c.in_ok-changed.changed c.requires
    (record {
      front_is = c.in_ok-rest.ensures.ok;
      tail_is = c.in_ok-rest.ensures.rest;
      first_is = c.remove.ensures.value;
      rest_is = c.remove.ensures.rest;
      new_is = c.in_ok-append.ensures.ok.0 ∙ ap (λ x. append x c.leave_all.new.list) c.in_ok-push.ensures.ok;
    })
    c.in_ok-changed.ensures

use Rattle.std.proofs.Common.{◌-◌, sym, ap, ◌∙◌, arith}
use Rattle.mini_rows.specs.Sequences.{is_bare_at}
use Rattle.mini_fold.proofs.Sequences.{some_count, last_bare}
use Rattle.mini_fold.proofs.rewrites.fold_sequences.ends_bare.Goals as goal

pub returns : goal.returns
returns c =
    let nodes = c.args.nodes.now in
    let some = some_count nodes (sym c.is_empty.ensures ∙ c.if-is_empty.false) in
    c.is_bare_at.ensures ∙ ap (is_bare_at c.args.place) c.child.ensures.value ∙ last_bare c.args.place nodes (c.len.result - 1) (omega (arith, some, c.len.ensures))

use Rattle.std.proofs.Common.{◌≡◌, subst, sym, ap, ◌∙◌}
use Rattle.std.specs.Prelude.{OnOk, IfOk}
use Rattle.mini_model.specs.Tree.{count, children}
use Rattle.mini_fold.proofs.Operands.{text_made, text_kept, joined_kept, joined_said}
use Rattle.mini_fold.proofs.rewrites.fold_operands.fold_sum.Goals as goal

pub returns-then-fold_text-clause-tree : goal.returns-then-fold_text-clause-tree
returns-then-fold_text-clause-tree c = (text_made c.args.seat c.args.node.now c.fold_text.new.node c.fold_text.ensures.tree (sym c.if-fold_text.true ∙ c.fold_text.ensures.said)).0

pub returns-then-fold_text-clause-said : goal.returns-then-fold_text-clause-said
returns-then-fold_text-clause-said c = (text_made c.args.seat c.args.node.now c.fold_text.new.node c.fold_text.ensures.tree (sym c.if-fold_text.true ∙ c.fold_text.ensures.said)).1

pub join_texts-requires : goal.join_texts-requires
join_texts-requires c = ap (λ t. count (children t)) (text_kept c.args.seat c.args.node.now c.fold_text.new.node c.fold_text.ensures.tree (sym c.if-fold_text.false ∙ c.fold_text.ensures.said)) ∙ c.requires

pub returns-clause-tree : goal.returns-clause-tree
returns-clause-tree c =
    let none = sym c.if-fold_text.false ∙ c.fold_text.ensures.said in
    let same = text_kept c.args.seat c.args.node.now c.fold_text.new.node c.fold_text.ensures.tree none in
    subst (λ t. OnOk c.join_texts.result (c.join_texts.new.node ≡ t)) (joined_kept c.args.seat c.args.node.now c.fold_text.new.node same none) c.join_texts.ensures.tree

pub returns-clause-said : goal.returns-clause-said
returns-clause-said c =
    let none = sym c.if-fold_text.false ∙ c.fold_text.ensures.said in
    let same = text_kept c.args.seat c.args.node.now c.fold_text.new.node c.fold_text.ensures.tree none in
    subst (λ b. IfOk c.join_texts.result (λ changed. changed ≡ b)) (joined_said c.args.seat c.args.node.now c.fold_text.new.node same none) c.join_texts.ensures.said

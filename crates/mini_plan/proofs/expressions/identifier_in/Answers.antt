use Rattle.std.proofs.Common.{◌∙◌, sym}
use Rattle.mini_model.specs.Texts.{units_of}
use Rattle.mini_plan.proofs.Named.{declared, word, read}
use Rattle.mini_plan.proofs.expressions.identifier_in.Goals as goal

pub returns-then-is_declared : goal.returns-then-is_declared
returns-then-is_declared c = λ d. declared c.args.place (units_of c.args.text.now) (sym c.is_declared.ensures ∙ c.if-is_declared.true)

pub returns-then-is_word : goal.returns-then-is_word
returns-then-is_word c = λ d. word c.args.place (units_of c.args.text.now) (sym c.is_declared.ensures ∙ c.if-is_declared.false) (sym c.is_word.ensures ∙ c.if-is_word.true)

pub returns-else-is_word : goal.returns-else-is_word
returns-else-is_word c = λ d. read c.args.place (units_of c.args.text.now) (sym c.is_declared.ensures ∙ c.if-is_declared.false) (sym c.is_word.ensures ∙ c.if-is_word.false)

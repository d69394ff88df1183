use Rattle.std.proofs.Common.{◌≡◌, ◌≢◌, string_bytes, arith, sym, ◌∙◌}
use Rattle.std.proofs.lemmas.Grind.{common_steps}
use Rattle.mini_run.proofs.Taken.{item_at, none_yet}
use Rattle.mini_run.proofs.words.place_of.Goals as goal

pub returns-then-is_same : goal.returns-then-is_same
returns-then-is_same c =
    let same : c.as_str.result.now ≡ c.args.word.now = (let h = c.is_same.ensures in let k = c.if-is_same.true in grind (arith, common_steps)) in
    (c.words-test.true, item_at string_bytes c.args.word.now c.args.words.now c.words.at c.index-words-at.result c.words-test.true c.index-words-at.is ∙ sym c.as_str.ensures.value ∙ same, c.words.invariant)

pub words-preserved : goal.words-preserved
words-preserved c =
    let other : c.as_str.result.now ≢ c.args.word.now = (let h = c.is_same.ensures in let k = c.if-is_same.false in grind (arith, common_steps)) in
    none_yet string_bytes c.args.word.now c.args.words.now c.words.at c.index-words-at.result c.words-test.true c.index-words-at.is (λ e. other (c.as_str.ensures.value ∙ e)) c.words.invariant

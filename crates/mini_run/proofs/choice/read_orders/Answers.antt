use Rattle.std.proofs.Common.{◌≡◌, ◌≢◌, map, take, drop, get_or, suc, refl, sym, subst, ◌≤◌, ◌∙◌, arith}
use Rattle.std.specs.Prelude.{None, IfSome, string_bytes}
use Rattle.std.proofs.lemmas.Grind.{common_steps}
use Rattle.std.proofs.lemmas.List.{length-map, length-set}
use Rattle.mini_run.specs.Words.{spelling, option_of}
use Rattle.mini_run.proofs.Named.{no_later}
use Rattle.mini_run.proofs.Reading.{start, next, unread, twice, at_item, split_item, take_item}
use Rattle.mini_run.proofs.choice.read_orders.Goals as goal

pub words-init : goal.words-init
words-init c = record { read = start; ten = refl }

pub returns-in_err-choice : goal.returns-in_err-choice
returns-in_err-choice c =
    let items = c.as_slice-word-items.result.now in
    let i = c.words.word-index in
    let here = at_item string_bytes items i c.word-item.result c.word-item.is c.words-test.true in
    rw c.from_residual.ensures (λ good.
    unread (map string_bytes items) i (omega (arith, c.words-test.true, length-map items string_bytes))
    (λ choice small same. c.in_err-choice.ensures choice small (c.as_str.ensures.value ∙ sym here ∙ same))
    (rw c.as_slice-word-items.ensures good))

pub returns-then-is_some : goal.returns-then-is_some
returns-then-is_some c good =
    let items = c.as_slice-word-items.result.now in
    let i = c.words.word-index in
    let words = map string_bytes items in
    let choice = c.in_ok-choice.choice in
    let is : string_bytes c.word-item.result ≡ spelling choice = sym c.as_str.ensures.value ∙ c.in_ok-choice.ensures.1 in
    let had : get_or c.words.slots (option_of choice) None ≢ None = (λ none. let e = c.is_some.ensures in let t = c.if-is_some.true in let o = c.option-option.ensures in grind (arith, common_steps)) in
    twice (take i words) (drop (suc i) words) c.words.slots (string_bytes c.word-item.result) choice c.words.invariant.read c.in_ok-choice.ensures.0 is had
    (rw (← split_item string_bytes items i c.word-item.result c.word-item.is c.words-test.true, c.as_slice-word-items.ensures) good)

pub orders_of-requires : goal.orders_of-requires
orders_of-requires c = let (cs, s, at) = c.words.invariant.read in subst (λ x. IfSome x (λ n. n ≤ 2022)) (sym (at 9 (omega arith))) (no_later cs s.allowed)

pub words-preserved : goal.words-preserved
words-preserved c =
    let items = c.as_slice-word-items.result.now in
    let i = c.words.word-index in
    let words = map string_bytes items in
    let choice = c.in_ok-choice.choice in
    let is : string_bytes c.word-item.result ≡ spelling choice = sym c.as_str.ensures.value ∙ c.in_ok-choice.ensures.1 in
    let free : get_or c.words.slots (option_of choice) None ≡ None = (let e = c.is_some.ensures in let t = c.if-is_some.false in let o = c.option-option.ensures in grind (arith, common_steps)) in
    record {
      read = rw (take_item string_bytes items i c.word-item.result c.word-item.is c.words-test.true, c.option-option.ensures, c.number.ensures)
          (next (take i words) c.words.slots (string_bytes c.word-item.result) choice c.words.invariant.read c.in_ok-choice.ensures.0 is c.words.invariant.ten free);
      ten = length-set c.words.slots _ _ ∙ c.words.invariant.ten;
    }

use Rattle.std.specs.Prelude.{Some, if◌then◌else◌}
use Rattle.std.proofs.Common.{◌≡◌, ◌∙◌, ap, sym, subst, arith, length, ◌++◌, ◌∷◌, []}
use Rattle.mini_model.specs.Weight.{same_text}
use Rattle.mini_scope.specs.Spelled.{number_of, Holds}
use Rattle.mini_scope.proofs.Places.{named, opened, own_number, same_numbers, is_none}
use Rattle.mini_scope.proofs.numbers.number_or_new.Goals as goal

pub returns-in-Err-clause-held : goal.returns-in-Err-clause-held
returns-in-Err-clause-held c = λ bs h. subst (λ ks. Holds c.args.numbers.now ks bs) (sym c.in-Err.ensures.items) h

pub returns-in-Ok-give_number-clause-held : goal.returns-in-Ok-give_number-clause-held
returns-in-Ok-give_number-clause-held c =
    let count : c.len-number.result ≡ length c.args.buckets.now.items = omega arith in
    λ bs h. subst (λ ks. Holds c.give_number.new.numbers ks bs) (sym c.in-Ok.ensures.items) (
    named c.args.numbers.now c.give_number.new.numbers c.args.buckets.now.items bs c.new.result c.args.spelling.now c.new.ensures.items
    (is_none c.number_of.result (number_of c.args.numbers.now c.args.spelling.now) c.in_default.not-Some c.number_of.ensures)
    (λ s. c.in-Ok-give_number.ensures.given s ∙ ap (λ k. if same_text c.args.spelling.now s then Some k else number_of c.args.numbers.now s) count) h
    )

pub returns-in-Ok-give_number-clause-given : goal.returns-in-Ok-give_number-clause-given
returns-in-Ok-give_number-clause-given c = own_number c.args.numbers.now c.give_number.new.numbers c.args.spelling.now c.len-number.result c.in-Ok-give_number.ensures.given

pub returns-in-Err-give_number-clause-held : goal.returns-in-Err-give_number-clause-held
returns-in-Err-give_number-clause-held c = λ bs h. subst (λ ks. Holds c.give_number.new.numbers ks bs) (sym c.in-Ok.ensures.items) (
    same_numbers c.args.numbers.now c.give_number.new.numbers (c.args.buckets.now.items ++ c.new.result ∷ []) bs c.in-Err-give_number.ensures.kept (opened c.args.numbers.now c.args.buckets.now.items bs c.new.result h)
    )

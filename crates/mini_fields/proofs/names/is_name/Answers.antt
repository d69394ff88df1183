use Rattle.std.proofs.Common.{◌≡◌, ℕ, ◌+◌, ◌<◌, Bool, true, false, List, length, get_or, drop, drop-cons, add-one, refl, sym, ap, ◌∙◌, arith}
use Rattle.std.specs.Prelude.{◌&&◌}
use Rattle.std.proofs.lemmas.Iterator.{YieldsList-from_chars}
use Rattle.std.proofs.lemmas.List.{at_drop_all, length_push}
use Rattle.std.proofs.lemmas.Iterator.Consumers.{YieldsList-turn, YieldsList-end}
use Rattle.std.specs.Str.{chars}
use Rattle.mini_fields.specs.Names.{fits, is_name_from}
use Rattle.mini_fields.proofs.Characters.{is_name_of_text}
use Rattle.mini_fields.proofs.names.is_name.Goals as goal

from_drop : (first : Bool) (cs : List ℕ) (n c : ℕ) → (n < length cs) × (c ≡ get_or cs n c) → is_name_from first (drop n cs) ≡ (fits first c && is_name_from false (drop (n + 1) cs))
from_drop first cs n c h =
    let below = h.0 in let is = h.1 in
    rw (add-one, drop-cons cs n c, ← is) refl

pub returns-then-not-fits : goal.returns-then-not-fits
returns-then-not-fits c =
    let text = c.args.text.now in
    let turn = YieldsList-turn (YieldsList-from_chars text c.utf8.text cc) c.loop-ch.yielded _ c.loop-ch.yielded_by _ _ c.in-Some.ch c.in-Some.is c.next.ensures.steps in
    let other : fits c.loop-ch.first c.in-Some.ch ≡ false = sym c.fits.ensures ∙ c.if-not-fits.true in
    sym (is_name_of_text text c.utf8.text ∙ (c.loop-ch.invariant ∙ (from_drop c.loop-ch.first (chars text) (length c.loop-ch.yielded) c.in-Some.ch turn ∙ ap (λ b. b && is_name_from false (drop (length c.loop-ch.yielded + 1) (chars text))) other)))

pub loop-ch-preserved : goal.loop-ch-preserved
loop-ch-preserved c =
    let text = c.args.text.now in
    let turn = YieldsList-turn (YieldsList-from_chars text c.utf8.text cc) c.loop-ch.yielded _ c.loop-ch.yielded_by _ _ c.in-Some.ch c.in-Some.is c.next.ensures.steps in
    let fitting : fits c.loop-ch.first c.in-Some.ch ≡ true = sym c.fits.ensures ∙ c.if-not-fits.false in
    let more = length_push c.loop-ch.yielded c.in-Some.ch in
    c.loop-ch.invariant ∙ (from_drop c.loop-ch.first (chars text) (length c.loop-ch.yielded) c.in-Some.ch turn
    ∙ (ap (λ b. b && is_name_from false (drop (length c.loop-ch.yielded + 1) (chars text))) fitting ∙ ap (λ n. is_name_from false (drop n (chars text))) (sym more)))

pub returns : goal.returns
returns c =
    let text = c.args.text.now in
    let end = YieldsList-end (YieldsList-from_chars text c.utf8.text cc) c.loop-ch.yielded _ c.loop-ch.yielded_by _ _ c.in-None.is c.next.ensures.steps in
    sym (is_name_of_text text c.utf8.text ∙ (c.loop-ch.invariant ∙ at_drop_all (is_name_from c.loop-ch.first) (chars text) (length c.loop-ch.yielded) (omega (arith, end.1))))

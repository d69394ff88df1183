-- Words that don't order to read.
use Rattle.std.proofs.Common.{◌≡◌, ℕ, List, sym, ap, ◌∙◌}
use Rattle.std.specs.Prelude.{Some}
use Rattle.mini_run.specs.Words.{NameOrders, GoodWords}
use Rattle.mini_run.specs.declared.choice.Orders.{Orders}
use Rattle.mini_run.proofs.Named.{orders_one, good_orders}
use Rattle.mini_peephole.specs.Answer.{AskToRead, to_read}

pub bad_words : (words : List (List ℕ)) → (GoodWords words → ⊥) → AskToRead words → ⊥
bad_words words bad (o, name) = bad (good_orders words (to_read o) name)

pub words_generate : (words : List (List ℕ)) (r : Orders) (n : ℕ) → NameOrders words r → r.generate ≡ Some n → AskToRead words → ⊥
words_generate words r n name e (o, other) = cc (sym e ∙ ap (λ r. r.generate) (orders_one words r (to_read o) name other))

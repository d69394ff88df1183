-- Words that order to read name one choice of options.
use Rattle.std.proofs.Common.{◌≡◌, ℕ, List, sym, ap, ◌∙◌, subst}
use Rattle.std.specs.Prelude.{Option, Some, None}
use Rattle.mini_tree.specs.declared.options.CompressOptions.{CompressOptions}
use Rattle.mini_run.specs.Words.{NameOrders, GoodWords}
use Rattle.mini_run.specs.declared.choice.Orders.{Orders}
use Rattle.mini_run.proofs.Named.{orders_one, good_orders}
use Rattle.mini_cli.specs.Run.{Task, IsValidInput}
use Rattle.mini_certificate.specs.Checked.{NameOptions}

pub read_ordered : (words : List (List ℕ)) (r : Orders) → NameOrders words r → r.generate ≡ None → NameOptions words r.options
read_ordered words r name e = subst (NameOrders words) (λ k. record { options = r.options; generate = e k }) name

pub bad_words : (words : List (List ℕ)) → (GoodWords words → ⊥) → (o : CompressOptions) → NameOptions words o → ⊥
bad_words words bad o name = bad (good_orders words (record { options = o; generate = None }) name)

pub generate_ordered : (words : List (List ℕ)) (r : Orders) (n : ℕ) → NameOrders words r → r.generate ≡ Some n → (o : CompressOptions) → NameOptions words o → ⊥
generate_ordered words r n name e o other = cc (sym e ∙ ap (λ r. r.generate) (orders_one words r (record { options = o; generate = None }) name other))

pub options_one : (words : List (List ℕ)) (o q : CompressOptions) → NameOptions words o → NameOptions words q → o ≡ q
options_one words o q name other = ap (λ r. r.options) (orders_one words (record { options = o; generate = None }) (record { options = q; generate = None }) name other)

pub valid_named : (task : CompressOptions → Task) (words : List (List ℕ)) (o q : CompressOptions) (left : Option (List ℕ)) → NameOptions words o → NameOptions words q → IsValidInput (task o) left → IsValidInput (task q) left
valid_named task words o q left name other valid = subst (λ x. IsValidInput (task x) left) (options_one words o q name other) valid

-- Words give one choice of orders at most.
use Rattle.std.proofs.Common.{◌≡◌, ℕ, Bool, false, List, codes, sym, ap, subst, ◌∙◌}
use Rattle.std.specs.Prelude.{◌||◌, Some}
use Rattle.mini_run.specs.Words.{Taken, NameOrders}
use Rattle.mini_run.specs.declared.choice.Orders.{Orders}
use Rattle.mini_run.proofs.Named.{orders_one}
use Rattle.mini_run.proofs.Taken.{taken_one}
use Rattle.mini_tree.specs.declared.options.CompressOptions.{CompressOptions}
use Rattle.mini_peephole.specs.Answer.{to_read}
use Rattle.mini_texts.specs.Options.{NameTextOrders, all_name_depths}
use Rattle.mini_texts.specs.declared.options.TextOrders.{TextOrders}

-- a script is ordered in place of what is read
pub none_to_read : (words : List (List ℕ)) (r : Orders) (n : ℕ) → NameOrders words r → r.generate ≡ Some n → (o : CompressOptions) → NameOrders words (to_read o) → ⊥
none_to_read words r n name is o q = cc (sym is ∙ ap (λ r. r.generate) (orders_one words r (to_read o) name q))

-- the words without `--spaced`, and those without `--minify` too
record Sorted (words : List (List ℕ)) (spaced minify : Bool) (others : List (List ℕ)) : Type 0 where
  unspaced : List (List ℕ)
  spaced_is : Taken (codes "--spaced") words unspaced spaced
  minify_is : Taken (codes "--minify") unspaced others minify

record IsSame (a b : Bool) (c d : Bool) (us vs : List (List ℕ)) : Type 0 where
  spaced : a ≡ b
  minify : c ≡ d
  others : us ≡ vs

sorted_one : (words us vs : List (List ℕ)) (a b c d : Bool) → Sorted words a c us → Sorted words b d vs → IsSame a b c d us vs
sorted_one words us vs a b c d s t =
    let first = taken_one (codes "--spaced") words s.unspaced t.unspaced a b s.spaced_is t.spaced_is in
    let second = taken_one (codes "--minify") t.unspaced us vs c d (subst (λ ws. Taken (codes "--minify") ws us c) first.0 s.minify_is) t.minify_is in
    record { spaced = first.1; minify = second.1; others = second.0 }

sorted_of : (words : List (List ℕ)) (o : TextOrders) (q : NameTextOrders words o) → Sorted words o.spaced o.minify q.others
sorted_of words o q = record { unspaced = q.unspaced; spaced_is = q.spaced; minify_is = q.minify }

same_orders : (words us vs : List (List ℕ)) (spaced minify : Bool) → Taken (codes "--spaced") words us spaced → Taken (codes "--minify") us vs minify → (o : TextOrders) (q : NameTextOrders words o) → IsSame o.spaced spaced o.minify minify q.others vs
same_orders words us vs spaced minify s m o q = sorted_one words q.others vs o.spaced spaced o.minify minify (sorted_of words o q) (record { unspaced = us; spaced_is = s; minify_is = m })

-- ---- words that aren't good

pub none_allowed : (words us vs : List (List ℕ)) (spaced minify : Bool) → Taken (codes "--spaced") words us spaced → Taken (codes "--minify") us vs minify → (minify || all_name_depths vs) ≡ false → (o : TextOrders) → NameTextOrders words o → ⊥
none_allowed words us vs spaced minify s m not o q =
    let same = same_orders words us vs spaced minify s m o q in
    cc (sym q.allowed ∙ ap (λ b. b || all_name_depths q.others) same.minify ∙ ap (λ ws. minify || all_name_depths ws) same.others ∙ not)

pub none_named : (words us vs : List (List ℕ)) (spaced minify : Bool) → Taken (codes "--spaced") words us spaced → Taken (codes "--minify") us vs minify → ((o : CompressOptions) → NameOrders vs (to_read o) → ⊥) → (o : TextOrders) → NameTextOrders words o → ⊥
none_named words us vs spaced minify s m none o q =
    none o.options (subst (λ ws. NameOrders ws (to_read o.options)) (same_orders words us vs spaced minify s m o q).others q.named)

-- ---- words that are good

pub one_choice : (words : List (List ℕ)) (o p : TextOrders) → NameTextOrders words o → NameTextOrders words p → o ≡ p
one_choice words o p q r =
    let same = same_orders words r.unspaced r.others p.spaced p.minify r.spaced r.minify o q in
    let named = subst (λ ws. NameOrders ws (to_read o.options)) same.others q.named in
    let options : o.options ≡ p.options = ap (λ r. r.options) (orders_one r.others (to_read o.options) (to_read p.options) named r.named) in
    λ k. record { spaced = same.spaced k; minify = same.minify k; options = options k }

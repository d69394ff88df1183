-- Counts that fell by the references of a part.
use Rattle.std.specs.Prelude.{ℕ, ◌+◌, ◌≡◌, ◌<◌, ◌&&◌, Bool, List, [], ◌∷◌, ◌++◌, slice_index, if◌then◌else◌}
use Rattle.std.proofs.Common.{ap, ◌∙◌, arith, sym, zero-add}
use Rattle.std.specs.List.{fold}
use Rattle.std.proofs.lemmas.List.Sums.{sum_by_from}
use Rattle.mini_laws.specs.declared.names.Use.{Use}
use Rattle.mini_laws.specs.References.{Reference, has_symbol}
use Rattle.mini_laws.specs.Counts.{times_of, FellBy}

times_more : (p : Use → Bool) (s : ℕ) (r : Reference) (rs : List Reference) → times_of p s (r ∷ rs) ≡ (if p r.used && has_symbol s r.name.symbol then 1 else 0) + times_of p s rs
times_more p s r rs =
    let f : Reference → ℕ = λ x. if p x.used && has_symbol s x.name.symbol then 1 else 0 in
    ap (λ n. fold (λ a x. a + f x) n rs) (zero-add (f r)) ∙ sum_by_from f (f r) rs

sum_both : (p : Use → Bool) (s : ℕ) (xs ys : List Reference) → times_of p s (xs ++ ys) ≡ times_of p s xs + times_of p s ys
sum_both p s [] ys = sym (zero-add (times_of p s ys))
sum_both p s (x ∷ xs) ys = omega (arith, times_more p s x xs, times_more p s x (xs ++ ys), sum_both p s xs ys)

pub left_over : (p : Use → Bool) (before part after : List Reference) (n : ℕ) (old new : List ℕ) → ((s : ℕ) → s < n → slice_index old s ≡ times_of p s (before ++ part ++ after)) → FellBy p part old new → (s : ℕ) → s < n → slice_index new s ≡ times_of p s (before ++ after)
left_over p before part after n old new are f s h =
    omega (arith, are s h, f.each s, sum_both p s (before ++ part) after, sum_both p s before part, sum_both p s before after)

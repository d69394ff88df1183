-- A log is read item by item.
use Rattle.std.proofs.Common.{◌≡◌, ℕ, suc, ◌<◌, ◌≤◌, ◌+◌, length, get_or, List, [], ◌∷◌, ◌++◌, drop, refl, sym, ap, ◌∙◌, subst, add-one, drop-cons, append_assoc, append-nil, arith}
use Rattle.std.proofs.lemmas.List.{drop_all}
use Rattle.std.specs.Prelude.{Option, Some, None, option_map, option_and_then, IfSome, Result, Ok, Err}
use Rattle.serde_json.specs.Data.{no_items, item}
use Rattle.serde_json.specs.View.{view, items_view}
use Rattle.serde_json.specs.declared.value.Value.{Value}
use Rattle.mini_model.specs.Faults.{Fault, fault_of, Fails, ◌>>=◌}
use Rattle.mini_model.specs.declared.error.MinifyError.{MinifyError}
use Rattle.mini_checker.specs.declared.log.LogEntry.{LogEntry}
use Rattle.mini_certificate.specs.Logs.{number_at, numbers_in, entry_at, entry_in, entry_or, entries_from}

-- the items from one on
front : (xs : List Value) (i : ℕ) (x : Value) → i < length xs → x ≡ get_or xs i x → items_view (drop i xs) ≡ item (view x) (items_view (drop (i + 1) xs))
front xs i x h is =
    let first : drop i xs ≡ x ∷ drop (i + 1) xs = rw (add-one, drop-cons xs i x, ← is) refl in
    ap items_view first

none_left : (xs : List Value) (i : ℕ) → length xs ≤ i → items_view (drop i xs) ≡ no_items
none_left xs i h = ap items_view (drop_all i xs h)

-- ---- numbers

-- behind those that were read before
pub behind : List ℕ → Option (List ℕ) → Option (List ℕ)
behind done rest = option_map (λ ns. done ++ ns) rest

pub behind_none : (rest : Option (List ℕ)) → rest ≡ behind [] rest
unfolding behind
behind_none None = refl
behind_none (Some ns) = refl

step_by : (done : List ℕ) (n : ℕ) (rest : Option (List ℕ)) → option_map (λ ns. done ++ ns) (option_map (λ ns. n ∷ ns) rest) ≡ option_map (λ ns. (done ++ n ∷ []) ++ ns) rest
step_by done n None = refl
step_by done n (Some ns) = ap Some (sym (append_assoc done (n ∷ []) ns))

pub numbers_step : (done : List ℕ) (xs : List Value) (i : ℕ) (x : Value) (n : ℕ) → i < length xs → x ≡ get_or xs i x → number_at (view x) ≡ Some n → behind done (numbers_in (items_view (drop i xs))) ≡ behind (done ++ n ∷ []) (numbers_in (items_view (drop (i + 1) xs)))
unfolding behind
numbers_step done xs i x n h is e = ap (λ ds. behind done (numbers_in ds)) (front xs i x h is) ∙ ap (λ o. behind done (option_and_then (λ m. option_map (λ ns. m ∷ ns) (numbers_in (items_view (drop (i + 1) xs)))) o)) e ∙ step_by done n (numbers_in (items_view (drop (i + 1) xs)))

pub numbers_stop : (done : List ℕ) (xs : List Value) (i : ℕ) (x : Value) → i < length xs → x ≡ get_or xs i x → number_at (view x) ≡ None → behind done (numbers_in (items_view (drop i xs))) ≡ None
unfolding behind
numbers_stop done xs i x h is e = ap (λ ds. behind done (numbers_in ds)) (front xs i x h is) ∙ ap (λ o. behind done (option_and_then (λ m. option_map (λ ns. m ∷ ns) (numbers_in (items_view (drop (i + 1) xs)))) o)) e

pub numbers_end : (done : List ℕ) (xs : List Value) (i : ℕ) → length xs ≤ i → behind done (numbers_in (items_view (drop i xs))) ≡ Some done
unfolding behind
numbers_end done xs i h = ap (λ ds. behind done (numbers_in ds)) (none_left xs i h) ∙ ap Some (append-nil done)

-- ---- entries

pub too_short : (xs : List Value) → length xs < 2 → None ≡ entry_in (items_view xs)
too_short [] h = refl
too_short (x ∷ []) h = refl
too_short (x ∷ (y ∷ xs)) h = absurd (omega (arith, h))

pub too_long : (xs : List Value) → 3 ≤ length xs → None ≡ entry_in (items_view xs)
too_long [] h = refl
too_long (x ∷ []) h = refl
too_long (x ∷ (y ∷ [])) h = absurd (omega (arith, h))
too_long (x ∷ (y ∷ (z ∷ xs))) h = refl

pub onto : List LogEntry → Result (List LogEntry) Fault → Result (List LogEntry) Fault
onto done rest = rest >>= λ xs. Ok (done ++ xs)

pub onto_none : (rest : Result (List LogEntry) Fault) → rest ≡ onto [] rest
unfolding onto
onto_none (Ok xs) = refl
onto_none (Err f) = refl

onto_more : (done : List LogEntry) (x : LogEntry) (rest : Result (List LogEntry) Fault) → onto done (rest >>= λ xs. Ok (x ∷ xs)) ≡ onto (done ++ x ∷ []) rest
unfolding onto
onto_more done x (Ok xs) = ap Ok (sym (append_assoc done (x ∷ []) xs))
onto_more done x (Err f) = refl

pub entries_step : (done : List LogEntry) (xs : List Value) (i : ℕ) (v : Value) (x : LogEntry) → i < length xs → v ≡ get_or xs i v → entry_or i (entry_at (view v)) ≡ Ok x → onto done (entries_from i (items_view (drop i xs))) ≡ onto (done ++ x ∷ []) (entries_from (i + 1) (items_view (drop (i + 1) xs)))
entries_step done xs i v x h is e =
    let rest = items_view (drop (i + 1) xs) in
    ap (λ ds. onto done (entries_from i ds)) (front xs i v h is) ∙ ap (λ r. onto done (r >>= λ y. entries_from (suc i) rest >>= λ ys. Ok (y ∷ ys))) e ∙ onto_more done x (entries_from (suc i) rest) ∙ ap (λ k. onto (done ++ x ∷ []) (entries_from k rest)) (sym (add-one i))

-- the first item that is none
by_fault : (o : Option Fault) (done : List LogEntry) (r : Result LogEntry Fault) (more : LogEntry → Result (List LogEntry) Fault) → IfSome o (λ f. r ≡ Err f) → IfSome o (λ f. onto done (r >>= more) ≡ Err f)
unfolding onto
by_fault None done r more h = tt
by_fault (Some f) done r more h = ap (λ q. onto done (q >>= more)) h

pub entries_stop : (e : MinifyError) (done : List LogEntry) (xs : List Value) (i : ℕ) (v : Value) (all : Result (List LogEntry) Fault) → all ≡ onto done (entries_from i (items_view (drop i xs))) → i < length xs → v ≡ get_or xs i v → Fails e (entry_or i (entry_at (view v))) → Fails e all
entries_stop e done xs i v all same h is fails =
    subst (Fails e) (sym (same ∙ ap (λ ds. onto done (entries_from i ds)) (front xs i v h is)))
    (by_fault (fault_of e) done (entry_or i (entry_at (view v))) (λ y. entries_from (suc i) (items_view (drop (i + 1) xs)) >>= λ ys. Ok (y ∷ ys)) fails)

pub entries_end : (done : List LogEntry) (xs : List Value) (i : ℕ) → length xs ≤ i → onto done (entries_from i (items_view (drop i xs))) ≡ Ok done
unfolding onto
entries_end done xs i h = ap (λ ds. onto done (entries_from i ds)) (none_left xs i h) ∙ ap Ok (append-nil done)

-- The program of a certificate is a small value, where the certificate is one.
use Rattle.std.proofs.Common.{◌≡◌, ℕ, ◌≤◌, List, refl, ap, ◌∙◌, arith}
use Rattle.std.specs.Prelude.{codes, Option, Some, None, Result, Ok, Err}
use Rattle.std.specs.Ordering.{match_ordering, nat_cmp}
use Rattle.std.specs.Cmp.Lexicographic.{slice_cmp}
use Rattle.std.specs.declared.cmp.Ordering.{Ordering}
use Rattle.std.specs.declared.cmp.Ordering.TheVariants.{Less, Equal, Greater}
use Rattle.serde_json.specs.Data.{Data, null, boolean, number, string, array, object, Members, no_members, member}
use Rattle.serde_json.specs.Find.{get, get_member}
use Rattle.mini_model.specs.Faults.{Fault, under, ◌>>=◌}
use Rattle.mini_model.specs.Tree.{Tree}
use Rattle.mini_accept.specs.Accept.{program_at}
use Rattle.mini_accept.specs.Faults as estree
use Rattle.mini_checker.specs.declared.log.LogEntry.{LogEntry}
use Rattle.mini_writer.specs.Countable.{Countable}
use Rattle.mini_writer.specs.Fits.{Fits, values_in, values_in_members, units_in, units_in_members}
use Rattle.mini_writer.proofs.Few.{fitting_is_countable}
use Rattle.mini_certificate.specs.Certificates.{certificate_at, member_or, told, tree_at}
use Rattle.mini_certificate.specs.Logs.{log_at}

-- ---- a member is no larger than the object

record IsWithin (d : Data) (ms : Members) : Type 0 where
  values : values_in d ≤ values_in_members ms
  units : units_in d ≤ units_in_members ms

within_members : (k : List ℕ) (ms : Members) (d : Data) → get_member k ms ≡ Some d → IsWithin d ms
within_members k no_members d e = absurd (cc e)
within_members k (member l x ms) d e = by (slice_cmp nat_cmp k l) (within_members k ms d) e
  where
    further : IsWithin d ms → IsWithin d (member l x ms)
    further rest = let values = rest.values in let units = rest.units in record { values = omega (arith, values); units = omega (arith, units) }

    here : x ≡ d → IsWithin d (member l x ms)
    here same = rw (← same) (record { values = omega arith; units = omega arith })

    by : (o : Ordering) → (get_member k ms ≡ Some d → IsWithin d ms) → match_ordering o (get_member k ms) (Some x) (get_member k ms) ≡ Some d → IsWithin d (member l x ms)
    by Less more f = further (more f)
    by Equal more f = here (cc f)
    by Greater more f = further (more f)

fits_member : (k : List ℕ) (d x : Data) → get k d ≡ Some x → Fits d → Fits x
fits_member k (object ms) x e small =
    let inside = within_members k ms x e in
    let values = inside.values in
    let units = inside.units in
    let few = small.values in
    let short = small.units in
    record { values = omega (arith, values, few); units = omega (arith, units, short) }
fits_member k null x e small = absurd (cc e)
fits_member k (boolean b) x e small = absurd (cc e)
fits_member k (number n) x e small = absurd (cc e)
fits_member k (string s) x e small = absurd (cc e)
fits_member k (array ds) x e small = absurd (cc e)

-- ---- the program

pub record HasProgram (depth : ℕ) (d : Data) (t : Tree) : Type 0 where
  pub value : Data
  pub numbers : ℕ
  pub there : get (codes "program") d ≡ Some value
  pub read : program_at depth value ≡ Ok (t, numbers)

tree_told : (depth : ℕ) (d : Data) (t : Tree) (r : Result (Tree × ℕ) estree.Fault) → program_at depth d ≡ r → told r ≡ Ok t → (n : ℕ) × (program_at depth d ≡ Ok (t, n))
tree_told depth d t (Ok (u, n)) q e = let same : u ≡ t = cc e in (n, q ∙ ap (λ v. Ok (v, n)) same)
tree_told depth d t (Err f) q e = absurd (cc e)

pub read_of_tree : (depth : ℕ) (d : Data) (t : Tree) → tree_at depth d ≡ Ok t → (n : ℕ) × (program_at depth d ≡ Ok (t, n))
read_of_tree depth d t e = tree_told depth d t (program_at depth d) refl e

-- what is read of the members
with_log : Result (List LogEntry) Fault → Result Tree Fault → Result (Tree × List LogEntry) Fault
with_log log tree = log >>= λ l. tree >>= λ t. Ok (t, l)

of_members : ℕ → Option Data → Option Data → Result (Tree × List LogEntry) Fault
of_members depth a b = member_or a >>= λ l. member_or b >>= λ p. with_log (log_at l) (under (codes "program") (tree_at depth p))

whole : (depth : ℕ) (d y : Data) (t : Tree) (log : List LogEntry) (z : Result (List LogEntry) Fault) (r : Result Tree Fault) → get (codes "program") d ≡ Some y → tree_at depth y ≡ r → with_log z (under (codes "program") r) ≡ Ok (t, log) → HasProgram depth d t
unfolding with_log
whole depth d y t log (Ok l) (Ok u) there q f =
    let both : (u, l) ≡ (t, log) = cc f in
    let (n, read) = read_of_tree depth y t (q ∙ ap (λ (x : Tree × List LogEntry). Ok x.0) both) in
    record { value = y; numbers = n; there = there; read = read }
whole depth d y t log (Ok l) (Err g) there q f = absurd (cc f)
whole depth d y t log (Err g) r there q f = absurd (cc f)

by_members : (depth : ℕ) (d : Data) (t : Tree) (log : List LogEntry) (a b : Option Data) → get (codes "program") d ≡ b → of_members depth a b ≡ Ok (t, log) → HasProgram depth d t
unfolding of_members
by_members depth d t log None b there f = absurd (cc f)
by_members depth d t log (Some x) None there f = absurd (cc f)
by_members depth d t log (Some x) (Some y) there f = whole depth d y t log (log_at x) (tree_at depth y) there refl f

pub program_in : (depth : ℕ) (d : Data) (t : Tree) (log : List LogEntry) → certificate_at depth d ≡ Ok (t, log) → HasProgram depth d t
unfolding of_members with_log
program_in depth d t log e = by_members depth d t log (get (codes "log") d) (get (codes "program") d) refl e

pub countable_tree : (depth : ℕ) (d : Data) (t : Tree) → Fits d → tree_at depth d ≡ Ok t → (n : ℕ) × (program_at depth d ≡ Ok (t, n)) × Countable t n
countable_tree depth d t small e = let (n, read) = read_of_tree depth d t e in (n, read, fitting_is_countable d depth t n small read)

pub countable_program : (depth : ℕ) (d : Data) (t : Tree) (log : List LogEntry) → Fits d → certificate_at depth d ≡ Ok (t, log) → (x : Data) × (n : ℕ) × (program_at depth x ≡ Ok (t, n)) × Countable t n
countable_program depth d t log small e =
    let p = program_in depth d t log e in
    (p.value, p.numbers, p.read, fitting_is_countable p.value depth t p.numbers (fits_member (codes "program") d p.value p.there small) p.read)

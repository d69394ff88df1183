-- A certificate that is made is checked: what is written of a log and of a program is read as them.
use Rattle.std.proofs.Common.{◌≡◌, ℕ, suc, ◌+◌, ◌<◌, ◌^◌, List, [], ◌∷◌, ◌++◌, length, map, take, slice_index_or, refl, sym, ap, ◌∙◌, subst, lt-ltb}
use Rattle.std.specs.Prelude.{Some, None, Result, Ok, Err, codes, if◌then◌else◌}
use Rattle.std.specs.List.{AllByRecursion}
use Rattle.std.proofs.lemmas.List.{take_more}
use Rattle.serde_json.specs.Data.{Data, number, unsigned}
use Rattle.serde_json.specs.View.{items_of, view}
use Rattle.serde_json.specs.declared.value.Value.{Value}
use Rattle.mini_accept.specs.WellShaped.{IsWellShaped}
use Rattle.mini_laws.specs.Resolved.{resolved_program}
use Rattle.mini_log.specs.Laws.{LogKeeps, LogLightens}
use Rattle.mini_log.specs.RowStep.{replayed}
use Rattle.mini_kept.proofs.SameShape.{shaped_resolved}
use Rattle.mini_writer.proofs.Programs.{units_accepted}
use Rattle.mini_writer.proofs.Units.{shaped_units}
use Rattle.mini_scope.specs.Pointers.{early_fault}
use Rattle.mini_tree.specs.declared.options.CompressOptions.{CompressOptions}
use Rattle.mini_checker.specs.declared.log.Verdict.TheVariants.{Yes}
use Rattle.mini_replay.specs.Checking.{entries}
use Rattle.mini_replay.proofs.Checks.{upheld_by}
use Rattle.mini_certificate.specs.Checked.{IsChecked, writable}
use Rattle.mini_certificate.proofs.Told.{holds}
use Rattle.mini_model.specs.Faults.{under}
use Rattle.mini_model.specs.Tree.{Tree, Trees, node, none, ◌▸◌}
use Rattle.mini_accept.specs.Accept.{Accepts, program_at}
use Rattle.mini_accept.specs.Faults as estree
use Rattle.mini_accept.proofs.Depths.{one_tree}
use Rattle.mini_laws.specs.Symbols.{bare_names}
use Rattle.mini_laws.specs.Symbols.{bare as without_symbols}
use Rattle.mini_kept.specs.Carried.{renumbered}
use Rattle.mini_kept.proofs.ReadBack.{accepted_same}
use Rattle.mini_kept.proofs.Texts.{text, texts}
use Rattle.mini_writer.specs.Bare.{bare, bares}
use Rattle.mini_writer.specs.Written.{program_data}
use Rattle.mini_checker.specs.declared.log.LogEntry.{LogEntry}
use Rattle.mini_certificate.specs.Certificates.{certificate_at, certificate_data, last_data, line_of, told, tree_at}
use Rattle.mini_certificate.specs.Logs.{AreSmall, HasSmall, HaveSmall, number_at, numbers_in, entry_at, entry_data, entries_from, log_at, log_data}
use Rattle.mini_certificate.proofs.Parts.{all_read, read_under}

-- ---- what holds of each item, one after another

all_append : {A : Type 0} (P : A → Type 0) (xs : List A) (x : A) → AllByRecursion P xs → P x → AllByRecursion P (xs ++ x ∷ [])
all_append P [] x all p = (p, tt)
all_append P (y ∷ ys) x (q, all) p = (q, all_append P ys x all p)

pub all_next : {A : Type 0} (P : A → Type 0) (xs : List A) (i : ℕ) (x : A) → i < length xs → x ≡ slice_index_or xs i x → AllByRecursion P (take i xs) → P x → AllByRecursion P (take (i + 1) xs)
all_next P xs i x h e all p = subst (AllByRecursion P) (sym (take_more xs i x h)) (all_append P (take i xs) (slice_index_or xs i x) all (subst P e p))

viewed : (old : List Value) (y : Value) → map view (old ++ y ∷ []) ≡ map view old ++ view y ∷ []
viewed [] y = refl
viewed (x ∷ old) y = ap (λ ds. view x ∷ ds) (viewed old y)

mapped : {A : Type 0} (f : A → Data) (xs : List A) (x : A) → map f (xs ++ x ∷ []) ≡ map f xs ++ f x ∷ []
mapped f [] x = refl
mapped f (y ∷ xs) x = ap (λ ds. f y ∷ ds) (mapped f xs x)

pub values_next : {A : Type 0} (f : A → Data) (xs : List A) (i : ℕ) (x : A) (old new : List Value) (y : Value) → i < length xs → x ≡ slice_index_or xs i x → map view old ≡ map f (take i xs) → view y ≡ f x → new ≡ old ++ y ∷ [] → map view new ≡ map f (take (i + 1) xs)
values_next f xs i x old new y h e yet is n =
    ap (map view) n ∙ viewed old y ∙ ap (λ ds. ds ++ view y ∷ []) yet ∙ ap (λ d. map f (take i xs) ++ d ∷ []) (is ∙ ap f e) ∙ sym (mapped f (take i xs) (slice_index_or xs i x)) ∙ ap (map f) (sym (take_more xs i x h))

-- ---- a log is read as it was written

number_back : (n : ℕ) → n < 2 ^ 32 → number_at (number (unsigned n)) ≡ Some n
number_back n h = ap (λ b. if b then Some n else None) (lt-ltb n (2 ^ 32) h)

numbers_back : (ns : List ℕ) → AreSmall ns → numbers_in (items_of (map (λ n. number (unsigned n)) ns)) ≡ Some ns
numbers_back [] small = refl
numbers_back (n ∷ ns) (first, rest) = rw (number_back n first, numbers_back ns rest) refl

entry_back : (x : LogEntry) → HasSmall x → entry_at (entry_data x) ≡ Some x
entry_back x (row, at) = rw (number_back x.row row, numbers_back x.at at) refl

entries_back : (i : ℕ) (log : List LogEntry) → HaveSmall log → entries_from i (items_of (map entry_data log)) ≡ Ok log
entries_back i [] small = refl
entries_back i (x ∷ log) (first, rest) = rw (entry_back x first, entries_back (suc i) log rest) refl

pub certificate_back : (k : ℕ) (t u : Tree) (log : List LogEntry) → HaveSmall log → tree_at k (program_data t) ≡ Ok u → certificate_at k (certificate_data t log) ≡ Ok (u, log)
certificate_back k t u log small e = all_read log_at (λ p. under (codes "program") (tree_at k p)) (Ok (log_data log)) (Ok (program_data t)) (log_data log) (program_data t) log u refl refl (entries_back 0 log small) (read_under (codes "program") (tree_at k (program_data t)) u e)

-- ---- so is a program that was read

mutual
  unfolding renumbered without_symbols

  same_text : (t : Tree) → bare t ≡ text t
  same_text (node h xs n ts) = λ k. node h (bare_names h xs) 0 (same_texts ts k)

  same_texts : (ts : Trees) → bares ts ≡ texts ts
  same_texts none = refl
  same_texts (t ▸ ts) = λ k. same_text t k ▸ same_texts ts k

accepts_by : (k : ℕ) (d : Data) (u : Tree) (r : Result (Tree × ℕ) estree.Fault) → program_at k d ≡ r → told r ≡ Ok u → Accepts d u
accepts_by k d u (Ok x) e is = let same : x.0 ≡ u = cc is in (k, x.1, e ∙ ap (λ t. Ok (t, x.1)) same)
accepts_by k d u (Err f) e is = absurd (cc is)

pub accepts_tree : (k : ℕ) (d : Data) (u : Tree) → tree_at k d ≡ Ok u → Accepts d u
accepts_tree k d u e = accepts_by k d u (program_at k d) refl e

pub program_back : (d : Data) (t u : Tree) (k : ℕ) → Accepts d t → ((v : Tree) × Accepts (program_data t) v × (bare v ≡ bare t)) → tree_at k (program_data t) ≡ Ok u → u ≡ t
program_back d t u k read (v, accepted, same) e =
    let again : Accepts (program_data t) u = accepts_tree k (program_data t) u e in
    let one : u ≡ v = one_tree (program_data t) u v again accepted in
    accepted_same (program_data t) d u t again read (sym (same_text u) ∙ ap bare one ∙ same ∙ same_text t)

-- ---- the whole

pub agreed : LogKeeps → LogLightens → (o p : CompressOptions) (d : Data) (first last u : Tree) (log : List LogEntry) → IsWellShaped first → Accepts d first → HaveSmall log → early_fault first ≡ None → replayed o.sequences (writable first) (resolved_program first) (entries log) ≡ Some last →
    p.sequences ≡ o.sequences → tree_at p.max_depth (program_data first) ≡ Ok u → IsChecked p (certificate_data first log) (line_of (last_data last))
agreed keeps lightens o p d first last u log shaped read small free leads same e =
    let leads_so : replayed p.sequences (writable first) (resolved_program first) (entries log) ≡ Some last = subst (λ s. replayed s (writable first) (resolved_program first) (entries log) ≡ Some last) (sym same) leads in
    let is : u ≡ first = program_back d first u p.max_depth read (units_accepted first shaped (shaped_units first shaped)) e in
    record {
      first = first;
      log = log;
      read = subst (λ t. certificate_at p.max_depth (certificate_data first log) ≡ Ok (t, log)) is (certificate_back p.max_depth first u log small e);
      holds = holds p first last log Yes free leads_so shaped (upheld_by keeps lightens p (resolved_program first) last log (shaped_resolved first shaped) leads_so) (line_of (last_data last)) (refl, refl);
    }

-- Lines that tell why a value has no text.
use Rattle.std.proofs.Common.{◌≡◌, ℕ, ◌+◌, ◌<◌, ◌≤◌, Bool, true, List, [], ◌∷◌, ◌++◌, String, Global, string_bytes, length, get_or, drop, refl, sym, ap, ◌∙◌, inl, inr}
use Rattle.std.specs.Prelude.{Option, Some, None, option_map, IfSome, Result, Ok, Err, IfOk, IfErr, decimal}
use Rattle.std.specs.Result.{result_err}
use Rattle.std.specs.Char.Utf16.{has_unpaired_surrogate}
use Rattle.std.proofs.lemmas.List.{at_drop_more, at_drop_all, append_assoc, append-nil}
use Rattle.serde_json.specs.Data.{Data}
use Rattle.mini_model.specs.Tree.{Tree}
use Rattle.mini_model.specs.Faults.{Fault, fault_of}
use Rattle.mini_model.specs.declared.error.MinifyError.{MinifyError}
use Rattle.mini_accept.specs.Accept.{program_at}
use Rattle.mini_accept.specs.Faults as accept
use Rattle.mini_estree.specs.Reads.{fault_told, Blames}
use Rattle.mini_cli.specs.Run.{IfTold, note_of}
use Rattle.mini_cli.specs.declared.answering.Refusal.{Refusal}
use Rattle.mini_cli.specs.declared.answering.Refusal.TheVariants as refusal
use Rattle.mini_print.specs.Unprintable.{first_fault}
use Rattle.mini_printer.specs.Texts.{IsTextOf, IsRefusalOf}
use Rattle.mini_faults.specs.declared.error.PrintError.{PrintError}
use Rattle.mini_texts.proofs.Read.{read_unprinted}
use Rattle.mini_texts.specs.declared.options.TextOptions.{TextOptions}
use Rattle.mini_texts.specs.Texts as no_text
use Rattle.mini_texts.specs.Texts.{program_data_in, splits_by, style_by, text_by, path_text, print_note, lone_half, IsLine, IsPrinted, IsUnread, IsUnprinted, HasText, HasNoText}

-- what holds of the line holds of it in other words
pub told_so : (r : Refusal) (P Q : List ℕ → Type 0) → ((line : List ℕ) → P line → Q line) → IfTold r P → IfTold r Q
told_so refusal.OutOfMemory P Q so p = tt
told_so (refusal.Told line) P Q so p = so _ p

by_fault : (k : ℕ) (d : Data) (o : Option Fault) (p : Result (Tree × ℕ) accept.Fault) (line : List ℕ) (f : Fault) → program_at k (program_data_in d) ≡ p → IfSome o (λ f. option_map fault_told (result_err p) ≡ Some f) → o ≡ Some f → line ≡ note_of f → IsUnread k d line
by_fault k d None p line f read blames is told = absurd (cc is)
by_fault k d (Some g) (Ok x) line f read blames is told = absurd (cc blames)
by_fault k d (Some g) (Err fault) line f read blames is told =
    let same : fault_told fault ≡ f = cc (blames ∙ is) in
    record { fault = fault; read = read; told = told ∙ sym (ap note_of same) }

pub unread : (k : ℕ) (d : Data) (e : MinifyError) (r : Refusal) → Blames e (result_err (program_at k (program_data_in d))) → IfTold r (λ line. (f : Fault) × (fault_of e ≡ Some f) × (line ≡ note_of f)) → IfTold r (IsUnread k d)
unread k d e r blames = told_so r _ (IsUnread k d) (λ line q. by_fault k d (fault_of e) (program_at k (program_data_in d)) line q.0 refl blames q.1 q.2)

-- ---- the text of a program

pub cause_told : (b : Bool) (t : Tree) (e : PrintError) (r : Refusal) → IsRefusalOf (style_by b) t e → IfTold r (λ line. print_note e ≡ Some line) → IfTold r (IsUnprinted b t)
cause_told b t e r is = told_so r _ (IsUnprinted b t) (λ line q. inl (e, is, q))

pub half_told : (b : Bool) (t : Tree) (u : List ℕ) (r : Result (String Global) Refusal) → u ≡ text_by b t → first_fault t ≡ None → IfErr r (λ e. IfTold e (λ line. (has_unpaired_surrogate u ≡ true) × (line ≡ lone_half))) → IfErr r (λ e. IfTold e (IsUnprinted b t))
half_told b t u (Ok line) is plain q = tt
half_told b t u (Err e) is plain q = told_so e _ (IsUnprinted b t) (λ line p. inr (plain, rw is at p.0, p.1)) q

pub printed : (b : Bool) (t : Tree) (u : List ℕ) (r : Result (String Global) Refusal) → u ≡ text_by b t → IsTextOf (splits_by b) t u → IfOk r (λ line. IsLine u (string_bytes line)) → IfOk r (λ line. IsPrinted b t (string_bytes line))
printed b t u (Ok line) exact one is = record { text = u; exact = exact; one = one; is = is }
printed b t u (Err e) exact one is = tt

-- ---- the text of a value's program

pub answered_by : (o : TextOptions) (d : Data) (t : Tree) (n : ℕ) (r : Result (String Global) Refusal) → program_at o.max_depth (program_data_in d) ≡ Ok (t, n) → IfOk r (λ line. IsPrinted o.spaced t (string_bytes line)) → IfOk r (λ line. HasText o d (string_bytes line))
answered_by o d t n (Ok line) read is = record { program = t; numbers = n; read = read; printed = is }
answered_by o d t n (Err e) read is = tt

pub refused_by : (o : TextOptions) (d : Data) (t : Tree) (n : ℕ) (r : Result (String Global) Refusal) → program_at o.max_depth (program_data_in d) ≡ Ok (t, n) → IfErr r (λ e. IfTold e (IsUnprinted o.spaced t)) → IfErr r (λ e. IfTold e (HasNoText o d))
refused_by o d t n (Ok line) read is = tt
refused_by o d t n (Err e) read is = told_so e (IsUnprinted o.spaced t) (HasNoText o d) (λ line q. no_text.unprinted t n read (read_unprinted o.spaced o.max_depth (program_data_in d) t n line read q)) is

pub refused_unread : (o : TextOptions) (d : Data) (r : Refusal) → IfTold r (IsUnread o.max_depth d) → IfTold r (HasNoText o d)
refused_unread o d r is = told_so r (IsUnread o.max_depth d) (HasNoText o d) (λ line q. no_text.unread q) is

-- ---- the text of a path

pub path_goes_on : (at : List ℕ) (i : ℕ) (x : ℕ) (path : List ℕ) → i < length at → x ≡ get_or at i x → path ++ path_text (drop i at) ≡ path_text at → ((path ++ 47 ∷ []) ++ decimal x) ++ path_text (drop (i + 1) at) ≡ path_text at
path_goes_on at i x path below is inv =
    let more : path_text (drop i at) ≡ (47 ∷ decimal x) ++ path_text (drop (i + 1) at) = at_drop_more path_text at i x below ∙ ap (λ y. (47 ∷ decimal y) ++ path_text (drop (i + 1) at)) (sym is) in
    append_assoc (path ++ 47 ∷ []) (decimal x) (path_text (drop (i + 1) at)) ∙ append_assoc path (47 ∷ []) (decimal x ++ path_text (drop (i + 1) at)) ∙ ap (λ r. path ++ r) (sym more) ∙ inv

pub path_ends : (at : List ℕ) (i : ℕ) (path : List ℕ) → length at ≤ i → path ++ path_text (drop i at) ≡ path_text at → path ≡ path_text at
path_ends at i path all inv = sym (append-nil path) ∙ ap (λ r. path ++ r) (sym (at_drop_all path_text at i all)) ∙ inv

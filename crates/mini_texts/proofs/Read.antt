-- What keeps a program that was read from its text: each token of one without a fault is one that a
-- text has, and each half of a surrogate pair has the other, so only a regular expression that isn't
-- told from a division is left.
use Rattle.std.proofs.Common.{◌≡◌, ℕ, Bool, true, false, List, refl, sym, ap, subst, ◌∙◌, inl, inr}
use Rattle.std.specs.Prelude.{Option, Some, None, Result, Ok, Err}
use Rattle.std.specs.Char.Utf16.{has_unpaired_surrogate}
use Rattle.std.proofs.lemmas.Bool.{false≢true}
use Rattle.std.proofs.lemmas.Option.{none-some}
use Rattle.serde_json.specs.Data.{Data}
use Rattle.mini_model.specs.Tree.{Tree}
use Rattle.mini_accept.specs.Accept.{program_at}
use Rattle.mini_accept.specs.Faults as accept
use Rattle.mini_print.specs.Text.{are_told}
use Rattle.mini_print.specs.Printed.{Full, Short, printed_program}
use Rattle.mini_print.specs.Unprintable.{first_fault}
use Rattle.mini_printable.proofs.Read.{read_prints, read_says, read_text, read_compact}
use Rattle.mini_faults.specs.Depth.{may_print}
use Rattle.mini_faults.specs.declared.error.PrintError.{PrintError}
use Rattle.mini_faults.specs.declared.error.PrintError.TheVariants as error
use Rattle.mini_printer.specs.Texts.{IsPrintable, IsRefusalOf}
use Rattle.mini_cli.specs.Run.{IsValidInput}
use Rattle.mini_texts.specs.Inputs.{IsPrintableInput}
use Rattle.mini_texts.specs.declared.options.TextOptions.{TextOptions}
use Rattle.mini_texts.specs.Texts as no_text
use Rattle.mini_texts.specs.Texts.{program_data_in, style_by, text_by, print_note, KeepsRead, IsUnprinted, IsReadUnprinted, HasNoText, text_task}

untold : (k : ℕ) (d : Data) (t : Tree) (n : ℕ) → program_at k d ≡ Ok (t, n) → first_fault t ≡ None → (IsPrintable Full t → ⊥) → are_told false (printed_program t) ≡ false
untold k d t n read plain not-printable = by (are_told false (printed_program t)) refl
  where
    by : (b : Bool) → are_told false (printed_program t) ≡ b → b ≡ false
    by true e = absurd (not-printable (read_prints k d t n read plain, (read_says Full k d t n read plain, e)))
    by false e = refl

keeps : (b : Bool) (k : ℕ) (d : Data) (t : Tree) (n : ℕ) (e : PrintError) → program_at k d ≡ Ok (t, n) → IsRefusalOf (style_by b) t e → KeepsRead b t e
keeps b k d t n error.OutOfMemory read is = tt
keeps b k d t n (error.Reserved at) read is = is
keeps b k d t n (error.BadText at) read is = is
keeps b k d t n error.TooDeep read is = is
keeps true k d t n error.Unprintable read is = (refl, is.0, untold k d t n read is.0 is.1)
keeps false k d t n error.Unprintable read is = absurd (is.1 (read_prints k d t n read is.0, (read_says Short k d t n read is.0, refl)))

paired : (b : Bool) (k : ℕ) (d : Data) (t : Tree) (n : ℕ) → program_at k d ≡ Ok (t, n) → first_fault t ≡ None → has_unpaired_surrogate (text_by b t) ≡ false
paired true k d t n read plain = read_text Full k d t n read plain
paired false k d t n read plain = read_compact Short k d t n read plain

pub read_unprinted : (b : Bool) (k : ℕ) (d : Data) (t : Tree) (n : ℕ) (line : List ℕ) → program_at k d ≡ Ok (t, n) → IsUnprinted b t line → IsReadUnprinted b t line
read_unprinted b k d t n line read (inl (e, is, told)) = (e, keeps b k d t n e read is, told)
read_unprinted b k d t n line read (inr (plain, half, told)) = absurd (false≢true (sym (paired b k d t n read plain) ∙ half))

-- ---- a program without a fault that doesn't nest too deep

nothing_keeps : (b : Bool) (t : Tree) (e : PrintError) (line : List ℕ) → first_fault t ≡ None → may_print t ≡ true → b ≡ false → KeepsRead b t e → print_note e ≡ Some line → ⊥
nothing_keeps b t error.OutOfMemory line plain deep c is note = none-some line note
nothing_keeps b t (error.Reserved at) line plain deep c is note = none-some _ (sym plain ∙ is)
nothing_keeps b t (error.BadText at) line plain deep c is note = none-some _ (sym plain ∙ is)
nothing_keeps b t error.TooDeep line plain deep c is note = false≢true (sym is ∙ deep)
nothing_keeps b t error.Unprintable line plain deep c is note = false≢true (sym c ∙ is.0)

same_tree : (p : Result (Tree × ℕ) accept.Fault) (t u : Tree) (n m : ℕ) → p ≡ Ok (t, n) → p ≡ Ok (u, m) → u ≡ t
same_tree p t u n m e f = sym (ap (tree_of t) (sym e ∙ f))
  where
    tree_of : Tree → Result (Tree × ℕ) accept.Fault → Tree
    tree_of v (Ok x) = x.0
    tree_of v (Err x) = v

unread_not : (p : Result (Tree × ℕ) accept.Fault) (t : Tree) (n : ℕ) (f : accept.Fault) → p ≡ Ok (t, n) → p ≡ Err f → ⊥
unread_not p t n f e g = absurd (cc (sym e ∙ g))

read_has_text : (o : TextOptions) (d : Data) (t : Tree) (n : ℕ) (line : List ℕ) → program_at o.max_depth (program_data_in d) ≡ Ok (t, n) → first_fault t ≡ None → may_print t ≡ true → o.spaced ≡ false → HasNoText o d line → ⊥
read_has_text o d t n line read plain deep c (no_text.unread q) = unread_not (program_at o.max_depth (program_data_in d)) t n q.fault read q.read
read_has_text o d t n line read plain deep c (no_text.unprinted u m again q) =
    let same = same_tree (program_at o.max_depth (program_data_in d)) t u n m read again in
    nothing_keeps o.spaced u q.0 line (subst (λ v. first_fault v ≡ None) (sym same) plain) (subst (λ v. may_print v ≡ true) (sym same) deep) c q.1 q.2

pub printable_is_valid : (o : TextOptions) (before : Option (List ℕ)) → o.spaced ≡ false → IsPrintableInput o.max_depth before → IsValidInput (text_task o) before
printable_is_valid o before c is =
    record { input = is.input; there = is.there; short = is.short; utf8 = is.utf8; value = is.value; reads = is.reads; free = λ line q. read_has_text o is.value is.program is.numbers line is.accepted is.plain is.shallow c q }

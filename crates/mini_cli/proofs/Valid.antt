-- A valid input is answered.
use Rattle.std.proofs.Common.{◌≡◌, ℕ, ◌≤◌, ◌++◌, List, [], length, sym, ap, ◌∙◌, arith}
use Rattle.std.specs.Prelude.{Option, Some, None}
use Rattle.std.specs.Io.KnownBytes.{Consumes, IsAtEnd}
use Rattle.std.proofs.lemmas.List.{length-append, append-nil}
use Rattle.mini_cli.specs.Run.{Task, Change, Gave, GaveMore, HasFault, IsNotJson, IsReadDue, IsValidInput, IsAnswered}
use Rattle.mini_cli.specs.declared.status.Status.{Status}
use Rattle.mini_cli.specs.declared.status.Status.TheVariants.{Done, BadWords, NotJson, Refused, ReadFault, WriteFault, TooLong, OutOfMemory}

all_given : (before after : Option (List ℕ)) (bytes input : List ℕ) → before ≡ Some bytes → Consumes before after input → IsAtEnd after → input ≡ bytes
all_given None after bytes input there gave end = absurd (cc there)
all_given (Some xs) None bytes input there gave end = absurd gave
all_given (Some xs) (Some ys) bytes input there gave end =
    let empty : ys ≡ [] = end in
    let whole : xs ≡ input ++ [] = rw empty at gave in
    sym (append-nil input) ∙ sym whole ∙ cc there

no_more : (before after : Option (List ℕ)) (bytes input : List ℕ) → before ≡ Some bytes → Consumes before after input → length input ≤ length bytes
no_more None after bytes input there gave = absurd (cc there)
no_more (Some xs) None bytes input there gave = absurd gave
no_more (Some xs) (Some ys) bytes input there gave =
    let same : xs ≡ bytes = cc there in
    omega (arith, ap length same, ap length gave, length-append input ys)

is_json : (t : Task) (source : Change) (input : List ℕ) → IsValidInput t source.before → Gave source input → IsNotJson input → ⊥
is_json t source input valid gave none =
    let same = all_given source.before source.after valid.input input valid.there gave.bytes gave.end in
    cc (sym valid.reads ∙ (rw same at none) valid.utf8)

no_fault : (t : Task) (source : Change) (input line : List ℕ) (valid : IsValidInput t source.before) → Gave source input → HasFault t input line → ⊥
no_fault t source input line valid gave has =
    let same = all_given source.before source.after valid.input input valid.there gave.bytes gave.end in
    let value : has.value ≡ valid.value = cc (sym (rw same at has.reads) ∙ valid.reads) in
    valid.free line (rw value at has.holds)

pub not_too_long : (t : Task) (source : Change) → (input : List ℕ) × GaveMore source input → IsValidInput t source.before → ⊥
not_too_long t source (input, more) valid = omega (arith, no_more source.before source.after valid.input input valid.there more.bytes, more.long, valid.short)

pub read_answered : (t : Task) (s : Status) (source sink notes : Change) → IsReadDue t s source sink notes → IsValidInput t source.before → IsAnswered s source.faults_before source.faults_after sink.faults_before sink.faults_after
read_answered t Done source sink notes due valid = tt
read_answered t OutOfMemory source sink notes due valid = tt
read_answered t ReadFault source sink notes due valid = due.0
read_answered t WriteFault source sink notes (input, gave, d) valid = d.3
read_answered t BadWords source sink notes due valid = absurd due
read_answered t TooLong source sink notes due valid = not_too_long t source due.0 valid
read_answered t NotJson source sink notes (input, gave, d) valid = is_json t source input valid gave d.0
read_answered t Refused source sink notes (input, gave, d) valid = no_fault t source input d.0 valid gave d.1

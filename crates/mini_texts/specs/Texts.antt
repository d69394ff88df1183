-- The text of the program that a value is or has, and why it has none.
use Rattle.std.specs.Prelude.{◌≡◌, ◌⊎◌, ℕ, Bool, true, false, List, [], ◌∷◌, ◌++◌, Option, Some, None, unwrap_or, Ok, Err, codes, decimal}
use Rattle.std.specs.Char.Utf16.{has_unpaired_surrogate}
use Rattle.std.specs.String.{IsUtf16Of}
use Rattle.serde_json.specs.Data.{Data}
use Rattle.serde_json.specs.Find.{get}
use Rattle.mini_model.specs.Tree.{Tree}
use Rattle.mini_accept.specs.Accept.{program_at}
use Rattle.mini_accept.specs.Faults as accept
use Rattle.mini_estree.specs.Reads.{fault_told}
use Rattle.mini_print.specs.Token.{Token}
use Rattle.mini_print.specs.Text.{Splits, text_of, are_told}
use Rattle.mini_print.specs.Compact.{SplitsCompactly, compact_text_of}
use Rattle.mini_print.specs.Printed.{Style, Full, Short, printed_program, short_program}
use Rattle.mini_print.specs.Unprintable.{Reserved, BadText, first_fault}
use Rattle.mini_faults.specs.Depth.{may_print}
use Rattle.mini_printer.specs.Texts.{IsTextOf, IsRefusalOf}
use Rattle.mini_faults.specs.declared.error.PrintError.{PrintError}
use Rattle.mini_faults.specs.declared.error.PrintError.TheVariants as error
use Rattle.mini_cli.specs.Run.{Task, note_line, note_of}
use Rattle.mini_texts.specs.declared.options.TextOptions.{TextOptions}

-- the program of an answer of the minifier is its member `program`; a value that has none is the
-- program itself
abbrev pub program_data_in : Data → Data
program_data_in d = unwrap_or (get (codes "program") d) d

-- ---- the text

-- how a text splits into tokens: with a blank between any two, or with one at most
abbrev pub splits_by : Bool → List ℕ → List Token → Type 0
splits_by true = Splits
splits_by false = SplitsCompactly

-- which tokens are written: all, or none that the grammar inserts (ECMA-262, 12.10)
abbrev pub style_by : Bool → Style
style_by true = Full
style_by false = Short

-- the text of a program: all of its tokens with a blank between any two; or those that it has to
-- have, with a blank only where two would run together
abbrev pub text_by : Bool → Tree → List ℕ
text_by true t = text_of (printed_program t)
text_by false t = compact_text_of (short_program t)

-- the bytes are the text in UTF-8, and a newline
abbrev pub IsLine : List ℕ → List ℕ → Type 0
IsLine text line = (utf8 : List ℕ) × IsUtf16Of text utf8 × (line ≡ utf8 ++ 10 ∷ [])

-- The line is the program's text: it splits into tokens in one way, and these group to the program
-- and to no other.
pub record IsPrinted (spaced : Bool) (program : Tree) (line : List ℕ) : Type 0 where
  pub text : List ℕ
  pub exact : text ≡ text_by spaced program
  pub one : IsTextOf (splits_by spaced) program text
  pub is : IsLine text line

-- The value is or has a program, and the line is its text.
pub record HasText (o : TextOptions) (d : Data) (line : List ℕ) : Type 0 where
  pub program : Tree
  pub numbers : ℕ
  pub read : program_at o.max_depth (program_data_in d) ≡ Ok (program, numbers)
  pub printed : IsPrinted o.spaced program line

-- ---- no text

-- the text of a path: a slash and a number for each of its places
abbrev pub path_text : List ℕ → List ℕ
path_text [] = []
path_text (i ∷ is) = (47 ∷ decimal i) ++ path_text is

-- what is told of a program that isn't printed: the cause, and the path of the node that has it;
-- nothing of want of memory
abbrev pub print_note : PrintError → Option (List ℕ)
print_note error.OutOfMemory = None
print_note (error.Reserved at) = Some (note_line (codes "Reserved") (path_text at))
print_note (error.BadText at) = Some (note_line (codes "BadText") (path_text at))
print_note error.TooDeep = Some (note_line (codes "TooDeep") [])
print_note error.Unprintable = Some (note_line (codes "Unprintable") [])

-- what is told of a text in which half a surrogate pair stands alone: it has no UTF-8
abbrev pub lone_half : List ℕ
lone_half = note_line (codes "LoneSurrogate") []

-- the line tells the first defect of the program that the value is or has
pub record IsUnread (max_depth : ℕ) (d : Data) (line : List ℕ) : Type 0 where
  pub fault : accept.Fault
  pub read : program_at max_depth (program_data_in d) ≡ Err fault
  pub told : line ≡ note_of (fault_told fault)

-- the line tells why the program isn't printed
abbrev pub IsUnprinted : Bool → Tree → List ℕ → Type 0
IsUnprinted spaced t line =
    ((e : PrintError) × IsRefusalOf (style_by spaced) t e × (print_note e ≡ Some line))
    ⊎ ((first_fault t ≡ None) × (has_unpaired_surrogate (text_by spaced t) ≡ true) × (line ≡ lone_half))

-- what keeps a program that was read from its text: its first fault, that it nests too deep, or,
-- with a blank between any two tokens, that a regular expression that begins with a blank, or with a
-- `=` and a blank, stands where it would be taken for a division
abbrev pub KeepsRead : Bool → Tree → PrintError → Type 0
KeepsRead spaced t error.OutOfMemory = Unit {0}
KeepsRead spaced t (error.Reserved at) = first_fault t ≡ Some (record { at = at; cause = Reserved })
KeepsRead spaced t (error.BadText at) = first_fault t ≡ Some (record { at = at; cause = BadText })
KeepsRead spaced t error.TooDeep = may_print t ≡ false
KeepsRead spaced t error.Unprintable = (spaced ≡ true) × (first_fault t ≡ None) × (are_told false (printed_program t) ≡ false)

-- the line tells why a program that was read isn't printed
abbrev pub IsReadUnprinted : Bool → Tree → List ℕ → Type 0
IsReadUnprinted spaced t line = (e : PrintError) × KeepsRead spaced t e × (print_note e ≡ Some line)

-- the value has no text, and the line tells why
pub data HasNoText (o : TextOptions) (d : Data) (line : List ℕ) : Type 0 where
  unread : IsUnread o.max_depth d line → HasNoText o d line
  unprinted : (t : Tree) (numbers : ℕ) → program_at o.max_depth (program_data_in d) ≡ Ok (t, numbers) → IsReadUnprinted o.spaced t line → HasNoText o d line

abbrev pub text_task : TextOptions → Task
text_task o = record { answers = HasText o; refuses = HasNoText o }

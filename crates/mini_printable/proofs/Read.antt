-- A program that is read is well shaped, so it is printable where it has no fault, and its tokens are
-- ones that a text has.
use Rattle.std.proofs.Common.{◌≡◌, ℕ, true, false}
use Rattle.std.specs.Prelude.{None, Ok}
use Rattle.std.specs.Char.Utf16.{has_unpaired_surrogate}
use Rattle.serde_json.specs.Data.{Data}
use Rattle.mini_model.specs.Tree.{Tree}
use Rattle.mini_accept.specs.Accept.{program_at}
use Rattle.mini_accept.proofs.Shaped.{program_shaped}
use Rattle.mini_print.specs.Unprintable.{first_fault}
use Rattle.mini_print.specs.Text.{EachLexical, text_of}
use Rattle.mini_print.specs.Compact.{compact_text_of}
use Rattle.mini_print.specs.Printed.{Style, styled_program, program_is_printable}
use Rattle.mini_printable.proofs.Served.{faultless_prints}
use Rattle.mini_printable.proofs.Voiced.{faultless_says, faultless_text, faultless_compact}

pub read_prints : (k : ℕ) (d : Data) (t : Tree) (n : ℕ) → program_at k d ≡ Ok (t, n) → first_fault t ≡ None → program_is_printable t ≡ true
read_prints k d t n e f = faultless_prints t (program_shaped k d t n e) f

pub read_says : (style : Style) (k : ℕ) (d : Data) (t : Tree) (n : ℕ) → program_at k d ≡ Ok (t, n) → first_fault t ≡ None → EachLexical (styled_program style t)
read_says style k d t n e f = faultless_says style t (program_shaped k d t n e) f

pub read_text : (style : Style) (k : ℕ) (d : Data) (t : Tree) (n : ℕ) → program_at k d ≡ Ok (t, n) → first_fault t ≡ None → has_unpaired_surrogate (text_of (styled_program style t)) ≡ false
read_text style k d t n e f = faultless_text style t (program_shaped k d t n e) f

pub read_compact : (style : Style) (k : ℕ) (d : Data) (t : Tree) (n : ℕ) → program_at k d ≡ Ok (t, n) → first_fault t ≡ None → has_unpaired_surrogate (compact_text_of (styled_program style t)) ≡ false
read_compact style k d t n e f = faultless_compact style t (program_shaped k d t n e) f

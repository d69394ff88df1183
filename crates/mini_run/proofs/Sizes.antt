-- The script that is minified where none is read is small enough.
use Rattle.std.proofs.Common.{◌≡◌, ℕ, zero, suc, ◌+◌, ◌*◌, ◌%◌, ◌≤◌, ◌<◌, ◌^◌, ◌++◌, List, length, codes, true, refl, arith}
use Rattle.std.specs.Prelude.{decimal}
use Rattle.std.proofs.lemmas.Fmt.{IsAscii-decimal, length-decimal-le}
use Rattle.std.proofs.lemmas.Str.{IsUtf8-from_ascii}
use Rattle.std.proofs.lemmas.Str.Ascii.{IsAscii-cons}
use Rattle.json.proofs.Printed.Utf8.{are_ascii, IsUtf8-are_ascii}
use Rattle.mini_model.specs.Texts.{units_of, bytes_of}
use Rattle.mini_model.proofs.Units.{bytes_of-units_of}
use Rattle.mini_writer.specs.Fits.{Fits}
use Rattle.mini_writer.specs.Written.{tree_data, trees_data, program_data}
use Rattle.mini_writer.proofs.Counted.{size, items_size, values_counted, units_counted}
use Rattle.mini_run.specs.Generated.{by_turn, choice, comparison, guarded, statements, generated_data}

-- a text is written as it is spelled
text_back : (text : List ℕ) → are_ascii text ≡ true → bytes_of (units_of text) ≡ text
text_back text e = bytes_of-units_of text (IsUtf8-are_ascii text e)

name_back : (i : ℕ) → i < 2 ^ 64 → bytes_of (units_of (codes "f" ++ decimal i)) ≡ codes "f" ++ decimal i
name_back i small = bytes_of-units_of (codes "f" ++ decimal i) (IsUtf8-from_ascii (codes "f" ++ decimal i) (IsAscii-cons 102 (decimal i) (omega arith) (IsAscii-decimal i small)))

choice_size : (i : ℕ) → size (tree_data (choice i)) ≤ 1000
choice_size i = rw (text_back (codes "a") refl, text_back (codes "b") refl, text_back (codes "c") refl) (omega arith)

comparison_size : (i : ℕ) → size (tree_data (comparison i)) ≤ 1000
comparison_size i = rw (text_back (codes "u") refl, text_back (codes "undefined") refl, text_back (codes "d") refl, text_back (codes "k") refl) (omega arith)

guarded_size : (i : ℕ) → i < 10 ^ 10 → size (tree_data (guarded i)) ≤ 1000
guarded_size i small = rw (name_back i (omega arith), text_back (codes "p") refl, text_back (codes "s") refl) (omega (arith, length-decimal-le 10 i (omega arith) small (omega arith)))

turn_size : (k i : ℕ) → i < 10 ^ 10 → size (tree_data (by_turn k i)) ≤ 1000
turn_size zero i small = choice_size i
turn_size (suc zero) i small = comparison_size i
turn_size (suc (suc k)) i small = guarded_size i small

all_size : (n i : ℕ) → i + n ≤ 2000 → items_size (trees_data (statements i n)) ≤ n * 1000
all_size zero i few = omega arith
all_size (suc n) i few = omega (arith, turn_size (i % 3) i (omega arith), all_size n (suc i) (omega arith))

script_size : (n : ℕ) → n ≤ 2000 → size (generated_data n) ≤ 16777216
unfolding program_data
script_size n few = omega (arith, all_size n 0 (omega arith))

pub script_fits : (n : ℕ) → n ≤ 2000 → Fits (generated_data n)
script_fits n few = record { values = omega (arith, values_counted (generated_data n), script_size n few); units = omega (arith, units_counted (generated_data n), script_size n few) }

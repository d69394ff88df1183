-- Scans of a word, unit by unit.
use Rattle.std.proofs.Common.{◌≡◌, ℕ, ◌+◌, ◌<◌, ◌≤◌, Bool, true, false, ◌&&◌, List, length, get_or, drop, sym, ap, ◌∙◌}
use Rattle.std.proofs.lemmas.List.{at_drop_more, at_drop_all}
use Rattle.mini_print.specs.Text.{is_word_unit, are_word_units}

words_step : (s : List ℕ) (i : ℕ) (b : Bool) → i < length s → is_word_unit (get_or s i 0) ≡ b → are_word_units (drop i s) ≡ (b && are_word_units (drop (i + 1) s))
words_step s i b h e = at_drop_more are_word_units s i 0 h ∙ ap (λ c. c && are_word_units (drop (i + 1) s)) e

pub words_go_on : (s : List ℕ) (i : ℕ) → i < length s → is_word_unit (get_or s i 0) ≡ true → are_word_units (drop i s) ≡ are_word_units s → are_word_units (drop (i + 1) s) ≡ are_word_units s
words_go_on s i h e inv = sym (words_step s i true h e) ∙ inv

pub words_stop : (s : List ℕ) (i : ℕ) → i < length s → is_word_unit (get_or s i 0) ≡ false → are_word_units (drop i s) ≡ are_word_units s → are_word_units s ≡ false
words_stop s i h e inv = sym inv ∙ words_step s i false h e

pub words_end : (s : List ℕ) (i : ℕ) → length s ≤ i → are_word_units (drop i s) ≡ are_word_units s → are_word_units s ≡ true
words_end s i h inv = sym inv ∙ at_drop_all are_word_units s i h

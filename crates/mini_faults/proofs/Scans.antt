-- Scans of a list of nodes, one by one: what the nodes from a place on say, they say all along.
use Rattle.std.proofs.Common.{◌≡◌, ℕ, ◌+◌, ◌<◌, ◌≤◌, Bool, true, false, not, ◌&&◌, List, length, get_or, drop, sym, ap, ◌∙◌}
use Rattle.std.proofs.lemmas.List.{at_drop_more, at_drop_all}
use Rattle.mini_model.specs.Tree.{Tree}
use Rattle.mini_node.specs.Children.{trees_of}
use Rattle.mini_print.specs.Unprintable.{is_raw_piece, are_raw, is_default, is_namespace, are_names, is_pattern_rest, are_plain_rests}

-- ---- pieces of templates, and specifiers

pieces_step : (ts : List Tree) (i : ℕ) (t : Tree) (b : Bool) → i < length ts → t ≡ get_or ts i t → b ≡ is_raw_piece t → are_raw (trees_of (drop i ts)) ≡ (b && are_raw (trees_of (drop (i + 1) ts)))
pieces_step ts i t b h d e = at_drop_more (λ us. are_raw (trees_of us)) ts i t h ∙ ap (λ c. c && are_raw (trees_of (drop (i + 1) ts))) (ap is_raw_piece (sym d) ∙ sym e)

pub pieces_go_on : (ts : List Tree) (i : ℕ) (t : Tree) → i < length ts → t ≡ get_or ts i t → true ≡ is_raw_piece t → are_raw (trees_of (drop i ts)) ≡ are_raw (trees_of ts) → are_raw (trees_of (drop (i + 1) ts)) ≡ are_raw (trees_of ts)
pieces_go_on ts i t h d e inv = sym (pieces_step ts i t true h d e) ∙ inv

pub pieces_stop : (ts : List Tree) (i : ℕ) (t : Tree) → i < length ts → t ≡ get_or ts i t → false ≡ is_raw_piece t → are_raw (trees_of (drop i ts)) ≡ are_raw (trees_of ts) → are_raw (trees_of ts) ≡ false
pieces_stop ts i t h d e inv = sym inv ∙ pieces_step ts i t false h d e

pub pieces_end : (ts : List Tree) (i : ℕ) → length ts ≤ i → are_raw (trees_of (drop i ts)) ≡ are_raw (trees_of ts) → are_raw (trees_of ts) ≡ true
pieces_end ts i h inv = sym inv ∙ at_drop_all (λ us. are_raw (trees_of us)) ts i h

abbrev pub is_name : Tree → Bool
is_name t = not (is_default t) && not (is_namespace t)

names_step : (ts : List Tree) (i : ℕ) (t : Tree) (b : Bool) → i < length ts → t ≡ get_or ts i t → b ≡ is_name t → are_names (trees_of (drop i ts)) ≡ (b && are_names (trees_of (drop (i + 1) ts)))
names_step ts i t b h d e = at_drop_more (λ us. are_names (trees_of us)) ts i t h ∙ ap (λ c. c && are_names (trees_of (drop (i + 1) ts))) (ap is_name (sym d) ∙ sym e)

pub names_go_on : (ts : List Tree) (i : ℕ) (t : Tree) → i < length ts → t ≡ get_or ts i t → true ≡ is_name t → are_names (trees_of (drop i ts)) ≡ are_names (trees_of ts) → are_names (trees_of (drop (i + 1) ts)) ≡ are_names (trees_of ts)
names_go_on ts i t h d e inv = sym (names_step ts i t true h d e) ∙ inv

pub names_stop : (ts : List Tree) (i : ℕ) (t : Tree) → i < length ts → t ≡ get_or ts i t → false ≡ is_name t → are_names (trees_of (drop i ts)) ≡ are_names (trees_of ts) → are_names (trees_of ts) ≡ false
names_stop ts i t h d e inv = sym inv ∙ names_step ts i t false h d e

pub names_end : (ts : List Tree) (i : ℕ) → length ts ≤ i → are_names (trees_of (drop i ts)) ≡ are_names (trees_of ts) → are_names (trees_of ts) ≡ true
names_end ts i h inv = sym inv ∙ at_drop_all (λ us. are_names (trees_of us)) ts i h

rests_step : (ts : List Tree) (i : ℕ) (t : Tree) (b : Bool) → i < length ts → t ≡ get_or ts i t → b ≡ is_pattern_rest t → are_plain_rests (trees_of (drop i ts)) ≡ (not b && are_plain_rests (trees_of (drop (i + 1) ts)))
rests_step ts i t b h d e = at_drop_more (λ us. are_plain_rests (trees_of us)) ts i t h ∙ ap (λ c. not c && are_plain_rests (trees_of (drop (i + 1) ts))) (ap is_pattern_rest (sym d) ∙ sym e)

pub rests_go_on : (ts : List Tree) (i : ℕ) (t : Tree) → i < length ts → t ≡ get_or ts i t → false ≡ is_pattern_rest t → are_plain_rests (trees_of (drop i ts)) ≡ are_plain_rests (trees_of ts) → are_plain_rests (trees_of (drop (i + 1) ts)) ≡ are_plain_rests (trees_of ts)
rests_go_on ts i t h d e inv = sym (rests_step ts i t false h d e) ∙ inv

pub rests_stop : (ts : List Tree) (i : ℕ) (t : Tree) → i < length ts → t ≡ get_or ts i t → true ≡ is_pattern_rest t → are_plain_rests (trees_of (drop i ts)) ≡ are_plain_rests (trees_of ts) → are_plain_rests (trees_of ts) ≡ false
rests_stop ts i t h d e inv = sym inv ∙ rests_step ts i t true h d e

pub rests_end : (ts : List Tree) (i : ℕ) → length ts ≤ i → are_plain_rests (trees_of (drop i ts)) ≡ are_plain_rests (trees_of ts) → are_plain_rests (trees_of ts) ≡ true
rests_end ts i h inv = sym inv ∙ at_drop_all (λ us. are_plain_rests (trees_of us)) ts i h

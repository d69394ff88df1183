-- Scans of a text, unit by unit: what the units from a place on say, they say all along.
use Rattle.std.proofs.Common.{◌≡◌, ℕ, ◌+◌, ◌<◌, ◌≤◌, Bool, true, false, not, ◌&&◌, ◌||◌, List, [], ◌∷◌, length, get_or, drop, refl, sym, ap, ◌∙◌}
use Rattle.std.specs.Prelude.{nat_eq}
use Rattle.std.proofs.lemmas.List.{at_drop_more, at_drop_all}
use Rattle.mini_print.specs.Text.{PatternMode, Outside, InClass, Escaped, EscapedInClass, next_mode, ends_pattern, is_whole_pattern, is_line_end, has_no_line_end, is_letter, are_letters}
use Rattle.mini_print.specs.Unprintable.{starts_with, is_raw, holds_bare, ends_escaped, is_directive, are_directives}
use Rattle.mini_tokens.specs.Writable.{mode_of, may_stand}
use Rattle.mini_tokens.specs.declared.writable.PatternMode.{PatternMode as Mode}

-- ---- the ends of lines

lines_step : (s : List ℕ) (i : ℕ) (b : Bool) → i < length s → is_line_end (get_or s i 0) ≡ b → has_no_line_end (drop i s) ≡ (not b && has_no_line_end (drop (i + 1) s))
lines_step s i b h e = at_drop_more has_no_line_end s i 0 h ∙ ap (λ c. not c && has_no_line_end (drop (i + 1) s)) e

pub lines_go_on : (s : List ℕ) (i : ℕ) → i < length s → is_line_end (get_or s i 0) ≡ false → has_no_line_end (drop i s) ≡ has_no_line_end s → has_no_line_end (drop (i + 1) s) ≡ has_no_line_end s
lines_go_on s i h e inv = sym (lines_step s i false h e) ∙ inv

pub lines_stop : (s : List ℕ) (i : ℕ) → i < length s → is_line_end (get_or s i 0) ≡ true → has_no_line_end (drop i s) ≡ has_no_line_end s → has_no_line_end s ≡ false
lines_stop s i h e inv = sym inv ∙ lines_step s i true h e

pub lines_end : (s : List ℕ) (i : ℕ) → length s ≤ i → has_no_line_end (drop i s) ≡ has_no_line_end s → has_no_line_end s ≡ true
lines_end s i h inv = sym inv ∙ at_drop_all has_no_line_end s i h

-- ---- letters

letters_step : (s : List ℕ) (i : ℕ) (b : Bool) → i < length s → is_letter (get_or s i 0) ≡ b → are_letters (drop i s) ≡ (b && are_letters (drop (i + 1) s))
letters_step s i b h e = at_drop_more are_letters s i 0 h ∙ ap (λ c. c && are_letters (drop (i + 1) s)) e

pub letters_go_on : (s : List ℕ) (i : ℕ) → i < length s → is_letter (get_or s i 0) ≡ true → are_letters (drop i s) ≡ are_letters s → are_letters (drop (i + 1) s) ≡ are_letters s
letters_go_on s i h e inv = sym (letters_step s i true h e) ∙ inv

pub letters_stop : (s : List ℕ) (i : ℕ) → i < length s → is_letter (get_or s i 0) ≡ false → are_letters (drop i s) ≡ are_letters s → are_letters s ≡ false
letters_stop s i h e inv = sym inv ∙ letters_step s i false h e

pub letters_end : (s : List ℕ) (i : ℕ) → length s ≤ i → are_letters (drop i s) ≡ are_letters s → are_letters s ≡ true
letters_end s i h inv = sym inv ∙ at_drop_all are_letters s i h

-- ---- patterns

pattern_step : (m : PatternMode) (s : List ℕ) (i : ℕ) (b : Bool) → i < length s → ends_pattern m (get_or s i 0) ≡ b → is_whole_pattern m (drop i s) ≡ (not b && is_whole_pattern (next_mode m (get_or s i 0)) (drop (i + 1) s))
pattern_step m s i b h e = at_drop_more (is_whole_pattern m) s i 0 h ∙ cons m (get_or s i 0) (drop (i + 1) s) ∙ ap (λ c. not c && is_whole_pattern (next_mode m (get_or s i 0)) (drop (i + 1) s)) e
  where
    cons : (m : PatternMode) (c : ℕ) (p : List ℕ) → is_whole_pattern m (c ∷ p) ≡ (not (ends_pattern m c) && is_whole_pattern (next_mode m c) p)
    cons Outside c p = refl
    cons InClass c p = refl
    cons Escaped c p = refl
    cons EscapedInClass c p = refl

pub pattern_goes_on : (m n : Mode) (s : List ℕ) (i : ℕ) → i < length s → ends_pattern (mode_of m) (get_or s i 0) ≡ false → mode_of n ≡ next_mode (mode_of m) (get_or s i 0) → is_whole_pattern (mode_of m) (drop i s) ≡ is_whole_pattern Outside s → is_whole_pattern (mode_of n) (drop (i + 1) s) ≡ is_whole_pattern Outside s
pattern_goes_on m n s i h e d inv = ap (λ k. is_whole_pattern k (drop (i + 1) s)) d ∙ sym (pattern_step (mode_of m) s i false h e) ∙ inv

pub pattern_stops : (m : Mode) (s : List ℕ) (i : ℕ) → i < length s → ends_pattern (mode_of m) (get_or s i 0) ≡ true → is_whole_pattern (mode_of m) (drop i s) ≡ is_whole_pattern Outside s → is_whole_pattern Outside s ≡ false
pattern_stops m s i h e inv = sym inv ∙ pattern_step (mode_of m) s i true h e

pub pattern_ends : (m : Mode) (s : List ℕ) (i : ℕ) → length s ≤ i → is_whole_pattern (mode_of m) (drop i s) ≡ is_whole_pattern Outside s → is_whole_pattern Outside s ≡ is_whole_pattern (mode_of m) []
pattern_ends m s i h inv = sym inv ∙ at_drop_all (is_whole_pattern (mode_of m)) s i h

-- ---- backslashes

pub escapes_go_on : (e f : Bool) (s : List ℕ) (i : ℕ) → i < length s → f ≡ (not e && nat_eq (get_or s i 0) 92) → ends_escaped e (drop i s) ≡ ends_escaped false s → ends_escaped f (drop (i + 1) s) ≡ ends_escaped false s
escapes_go_on e f s i h d inv = ap (λ b. ends_escaped b (drop (i + 1) s)) d ∙ sym (at_drop_more (ends_escaped e) s i 0 h ∙ cons e (get_or s i 0) (drop (i + 1) s)) ∙ inv
  where
    cons : (e : Bool) (c : ℕ) (s : List ℕ) → ends_escaped e (c ∷ s) ≡ ends_escaped (not e && nat_eq c 92) s
    cons true c s = refl
    cons false c s = refl

pub escapes_end : (e : Bool) (s : List ℕ) (i : ℕ) → length s ≤ i → ends_escaped e (drop i s) ≡ ends_escaped false s → ends_escaped false s ≡ e
escapes_end e s i h inv = sym inv ∙ at_drop_all (ends_escaped e) s i h

-- ---- quotes

bare_step : (k : ℕ) (e b : Bool) (s : List ℕ) (i : ℕ) → i < length s → (not e && nat_eq (get_or s i 0) k) ≡ b → holds_bare k e (drop i s) ≡ (b || holds_bare k (not e && nat_eq (get_or s i 0) 92) (drop (i + 1) s))
bare_step k e b s i h d = at_drop_more (holds_bare k e) s i 0 h ∙ cons e (get_or s i 0) (drop (i + 1) s) ∙ ap (λ c. c || holds_bare k (not e && nat_eq (get_or s i 0) 92) (drop (i + 1) s)) d
  where
    cons : (e : Bool) (c : ℕ) (s : List ℕ) → holds_bare k e (c ∷ s) ≡ ((not e && nat_eq c k) || holds_bare k (not e && nat_eq c 92) s)
    cons true c s = refl
    cons false c s = refl

pub bare_goes_on : (k : ℕ) (e f : Bool) (s : List ℕ) (i : ℕ) → i < length s → false ≡ (not e && nat_eq (get_or s i 0) k) → f ≡ (not e && nat_eq (get_or s i 0) 92) → holds_bare k e (drop i s) ≡ holds_bare k false s → holds_bare k f (drop (i + 1) s) ≡ holds_bare k false s
bare_goes_on k e f s i h b d inv = ap (λ g. holds_bare k g (drop (i + 1) s)) d ∙ sym (bare_step k e false s i h (sym b)) ∙ inv

pub bare_stops : (k : ℕ) (e : Bool) (s : List ℕ) (i : ℕ) → i < length s → true ≡ (not e && nat_eq (get_or s i 0) k) → holds_bare k e (drop i s) ≡ holds_bare k false s → holds_bare k false s ≡ true
bare_stops k e s i h b inv = sym inv ∙ bare_step k e true s i h (sym b)

pub bare_ends : (k : ℕ) (e : Bool) (s : List ℕ) (i : ℕ) → length s ≤ i → holds_bare k e (drop i s) ≡ holds_bare k false s → holds_bare k false s ≡ false
bare_ends k e s i h inv = sym inv ∙ at_drop_all (holds_bare k e) s i h ∙ none e
  where
    none : (e : Bool) → holds_bare k e [] ≡ false
    none true = refl
    none false = refl

-- ---- directives

directives_step : (ss : List (List ℕ)) (i : ℕ) (s : List ℕ) (b : Bool) → i < length ss → s ≡ get_or ss i s → b ≡ is_directive s → are_directives (drop i ss) ≡ (b && are_directives (drop (i + 1) ss))
directives_step ss i s b h d e = at_drop_more are_directives ss i s h ∙ ap (λ c. c && are_directives (drop (i + 1) ss)) (ap is_directive (sym d) ∙ sym e)

pub directives_go_on : (ss : List (List ℕ)) (i : ℕ) (s : List ℕ) → i < length ss → s ≡ get_or ss i s → true ≡ is_directive s → are_directives (drop i ss) ≡ are_directives ss → are_directives (drop (i + 1) ss) ≡ are_directives ss
directives_go_on ss i s h d e inv = sym (directives_step ss i s true h d e) ∙ inv

pub directives_stop : (ss : List (List ℕ)) (i : ℕ) (s : List ℕ) → i < length ss → s ≡ get_or ss i s → false ≡ is_directive s → are_directives (drop i ss) ≡ are_directives ss → are_directives ss ≡ false
directives_stop ss i s h d e inv = sym inv ∙ directives_step ss i s false h d e

pub directives_end : (ss : List (List ℕ)) (i : ℕ) → length ss ≤ i → are_directives (drop i ss) ≡ are_directives ss → are_directives ss ≡ true
directives_end ss i h inv = sym inv ∙ at_drop_all are_directives ss i h

-- ---- raw texts

and_assoc : (a b c d : Bool) → (a && (b && (c && d))) ≡ ((a && (b && c)) && d)
and_assoc true true c d = refl
and_assoc true false c d = refl
and_assoc false b c d = refl

raw_step : (e b : Bool) (s : List ℕ) (i : ℕ) → i < length s → may_stand e (get_or s i 0) (drop (i + 1) s) ≡ b → is_raw e (drop i s) ≡ (b && is_raw (not e && nat_eq (get_or s i 0) 92) (drop (i + 1) s))
raw_step e b s i h d = at_drop_more (is_raw e) s i 0 h ∙ cons e (get_or s i 0) (drop (i + 1) s) ∙ ap (λ c. c && is_raw (not e && nat_eq (get_or s i 0) 92) (drop (i + 1) s)) d
  where
    cons : (e : Bool) (c : ℕ) (s : List ℕ) → is_raw e (c ∷ s) ≡ (may_stand e c s && is_raw (not e && nat_eq c 92) s)
    cons true c s = refl
    cons false c s = and_assoc (not (nat_eq c 13)) (not (nat_eq c 96)) (not (nat_eq c 36 && starts_with 123 s)) (is_raw (nat_eq c 92) s)

pub raw_goes_on : (e f : Bool) (s : List ℕ) (i : ℕ) → i < length s → true ≡ may_stand e (get_or s i 0) (drop (i + 1) s) → f ≡ (not e && nat_eq (get_or s i 0) 92) → is_raw e (drop i s) ≡ is_raw false s → is_raw f (drop (i + 1) s) ≡ is_raw false s
raw_goes_on e f s i h b d inv = ap (λ g. is_raw g (drop (i + 1) s)) d ∙ sym (raw_step e true s i h (sym b)) ∙ inv

pub raw_stops : (e : Bool) (s : List ℕ) (i : ℕ) → i < length s → false ≡ may_stand e (get_or s i 0) (drop (i + 1) s) → is_raw e (drop i s) ≡ is_raw false s → is_raw false s ≡ false
raw_stops e s i h b inv = sym inv ∙ raw_step e false s i h (sym b)

pub raw_ends : (e : Bool) (s : List ℕ) (i : ℕ) → length s ≤ i → is_raw e (drop i s) ≡ is_raw false s → is_raw false s ≡ not e
raw_ends e s i h inv = sym inv ∙ at_drop_all (is_raw e) s i h ∙ none e
  where
    none : (e : Bool) → is_raw e [] ≡ not e
    none true = refl
    none false = refl

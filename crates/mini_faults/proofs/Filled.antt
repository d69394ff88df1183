-- The test of a tree, piece by piece and way by way, is the definition.
use Rattle.std.proofs.Common.{◌≡◌, ℕ, zero, suc, ◌+◌, ◌<◌, ◌≤◌, Bool, true, false, not, ◌&&◌, ◌||◌, List, [], ◌∷◌, length, get_or, drop, refl, ap, sym, ◌∙◌, Option, Some, None, arith}
use Rattle.std.specs.Prelude.{negsuc}
use Rattle.std.proofs.lemmas.Bool.{false≢true}
use Rattle.std.proofs.lemmas.List.{at_drop_more, at_drop_all}
use Rattle.mini_model.specs.declared.shape.Shape.{Shape}
use Rattle.mini_model.specs.declared.shape.Shape.TheVariants as shape
use Rattle.mini_model.specs.Tree.{Tree, Trees, node, none, ◌▸◌, shape_of, children, count, node_count, node_counts}
use Rattle.mini_node.specs.Children.{trees_of, names_of}
use Rattle.mini_print.specs.Grammar as grammar
use Rattle.mini_print.specs.Grammar.{Goal, Rule, Least, Silent, Part, form}
use Rattle.mini_print.specs.Groups.{has_gaps}
use Rattle.mini_print.specs.Printed.{a_part, a_list, a_perhaps, a_block, a_silent, are_printable, core, fill, has_core, has_enough, has_no_names, is_gap, is_list, is_nothing, is_printable, is_silent, is_sound, is_wanted, rule_in, takes_values, wants, wants_of}
use Rattle.mini_grammar.proofs.Same.{same_form}
use Rattle.mini_grammar.specs.Pieces.{is_end, is_mark, pieces_of, takes_part}
use Rattle.mini_grammar.specs.declared.grammar.Piece.{Piece}
use Rattle.mini_grammar.specs.declared.grammar.Piece.TheVariants as piece
use Rattle.mini_faults.specs.Wants.{filled, has_no_trees, is_negative, stands_in, want_in}

-- ---- pieces over parts

empty_filled : (h : Rule) (ts : Trees) → filled h [] ts ≡ has_no_trees ts
empty_filled h none = refl
empty_filled h (t ▸ ts) = refl

pub no_piece : (h : Rule) (ps : List Piece) (ts : Trees) → ps ≡ [] → filled h ps ts ≡ has_no_trees ts
no_piece h ps ts e = ap (λ qs. filled h qs ts) e ∙ empty_filled h ts

end_filled : (h : Rule) (x : Piece) (xs : List Piece) (ts : Trees) → is_end x ≡ true → filled h (x ∷ xs) ts ≡ has_no_trees ts
end_filled h (piece.End c) xs none e = refl
end_filled h (piece.End c) xs (t ▸ ts) e = refl
end_filled h _ xs ts e = absurd (false≢true e)

pub last_piece : (h : Rule) (x : Piece) (xs ps : List Piece) (ts : Trees) → ps ≡ x ∷ xs → is_end x ≡ true → filled h ps ts ≡ has_no_trees ts
last_piece h x xs ps ts e f = ap (λ qs. filled h qs ts) e ∙ end_filled h x xs ts f

mark_filled : (h : Rule) (x : Piece) (xs : List Piece) (ts : Trees) → is_mark x ≡ true → filled h (x ∷ xs) ts ≡ filled h xs ts
mark_filled h (piece.Left n) xs ts e = absurd (false≢true e)
mark_filled h piece.LeftOperand xs ts e = absurd (false≢true e)
mark_filled h piece.RightOperand xs ts e = absurd (false≢true e)
mark_filled h (piece.Part o n) xs ts e = absurd (false≢true e)
mark_filled h (piece.Default b) xs ts e = absurd (false≢true e)
mark_filled h (piece.Restricted c o n) xs ts e = absurd (false≢true e)
mark_filled h (piece.Commas o l) xs ts e = absurd (false≢true e)
mark_filled h (piece.Perhaps i) xs ts e = absurd (false≢true e)
mark_filled h (piece.Option w o n) xs ts e = absurd (false≢true e)
mark_filled h (piece.Statements i) xs ts e = absurd (false≢true e)
mark_filled h piece.Undirected xs ts e = absurd (false≢true e)
mark_filled h (piece.Silent v) xs ts e = absurd (false≢true e)
mark_filled h (piece.End c) xs ts e = absurd (false≢true e)
mark_filled h _ xs ts e = refl

pub mark_piece : (h : Rule) (x : Piece) (xs ps : List Piece) (ts : Trees) → ps ≡ x ∷ xs → is_mark x ≡ true → filled h ps ts ≡ filled h xs ts
mark_piece h x xs ps ts e f = ap (λ qs. filled h qs ts) e ∙ mark_filled h x xs ts f

pub takes_by : (x : Piece) → is_end x ≡ false → is_mark x ≡ false → takes_part x ≡ true
takes_by x e f = ap (λ b. not (b || is_end x)) f ∙ ap not e

none_filled : (h : Rule) (x : Piece) (xs : List Piece) → takes_part x ≡ true → filled h (x ∷ xs) none ≡ false
none_filled h (piece.Left n) xs e = refl
none_filled h piece.LeftOperand xs e = refl
none_filled h piece.RightOperand xs e = refl
none_filled h (piece.Part o n) xs e = refl
none_filled h (piece.Default b) xs e = refl
none_filled h (piece.Restricted c o n) xs e = refl
none_filled h (piece.Commas o l) xs e = refl
none_filled h (piece.Perhaps i) xs e = refl
none_filled h (piece.Option w o n) xs e = refl
none_filled h (piece.Statements i) xs e = refl
none_filled h piece.Undirected xs e = refl
none_filled h (piece.Silent v) xs e = refl
none_filled h _ xs e = absurd (false≢true e)

pub missing_part : (h : Rule) (x : Piece) (xs ps : List Piece) (ts : List Tree) → ps ≡ x ∷ xs → takes_part x ≡ true → ts ≡ [] → filled h ps (trees_of ts) ≡ false
missing_part h x xs ps ts e f m = ap (λ qs. filled h qs (trees_of ts)) e ∙ (ap (λ us. filled h (x ∷ xs) (trees_of us)) m ∙ none_filled h x xs f)

part_filled : (h : Rule) (x : Piece) (xs : List Piece) (t : Tree) (ts : Trees) → takes_part x ≡ true → filled h (x ∷ xs) (t ▸ ts) ≡ (is_printable (want_in h x) t && filled h xs ts)
part_filled h (piece.Left n) xs t ts e = refl
part_filled h piece.LeftOperand xs t ts e = refl
part_filled h piece.RightOperand xs t ts e = refl
part_filled h (piece.Part o n) xs t ts e = refl
part_filled h (piece.Default b) xs t ts e = refl
part_filled h (piece.Restricted c o n) xs t ts e = refl
part_filled h (piece.Commas o l) xs t ts e = refl
part_filled h (piece.Perhaps i) xs t ts e = refl
part_filled h (piece.Option w o n) xs t ts e = refl
part_filled h (piece.Statements i) xs t ts e = refl
part_filled h piece.Undirected xs t ts e = refl
part_filled h (piece.Silent v) xs t ts e = refl
part_filled h _ xs t ts e = absurd (false≢true e)

part_piece : (h : Rule) (x : Piece) (xs ps : List Piece) (t : Tree) (us ts : List Tree) → ps ≡ x ∷ xs → takes_part x ≡ true → ts ≡ t ∷ us → filled h ps (trees_of ts) ≡ (is_printable (want_in h x) t && filled h xs (trees_of us))
part_piece h x xs ps t us ts e f m = ap (λ qs. filled h qs (trees_of ts)) e ∙ (ap (λ vs. filled h (x ∷ xs) (trees_of vs)) m ∙ part_filled h x xs t (trees_of us) f)

pub refused_part : (h : Rule) (x : Piece) (xs ps : List Piece) (t : Tree) (us ts : List Tree) → ps ≡ x ∷ xs → takes_part x ≡ true → ts ≡ t ∷ us → is_printable (want_in h x) t ≡ false → filled h ps (trees_of ts) ≡ false
refused_part h x xs ps t us ts e f m k = part_piece h x xs ps t us ts e f m ∙ ap (λ b. b && filled h xs (trees_of us)) k

pub taken_part : (h : Rule) (x : Piece) (xs ps : List Piece) (t : Tree) (us ts : List Tree) → ps ≡ x ∷ xs → takes_part x ≡ true → ts ≡ t ∷ us → is_printable (want_in h x) t ≡ true → filled h ps (trees_of ts) ≡ filled h xs (trees_of us)
taken_part h x xs ps t us ts e f m k = part_piece h x xs ps t us ts e f m ∙ ap (λ b. b && filled h xs (trees_of us)) k

-- ---- a tree by its production

abbrev standing : Goal → Tree → Option Rule → Bool
standing g t o = is_wanted g o && (is_sound (shape_of t) (children t) && fill (wants_of (shape_of t) o) (children t))

pub no_rule : (g : Goal) (t : Tree) → rule_in g (shape_of t) (names_of t) (children t) ≡ None → stands_in g t ≡ false
no_rule g t e = ap (standing g t) e

and_false : (b : Bool) → (b && false) ≡ false
and_false true = refl
and_false false = refl

pub unwanted : (g : Goal) (t : Tree) (h : Rule) → rule_in g (shape_of t) (names_of t) (children t) ≡ Some h → is_wanted g (Some h) ≡ false → stands_in g t ≡ false
unwanted g t h e f = ap (standing g t) e ∙ ap (λ b. b && (is_sound (shape_of t) (children t) && fill (wants_of (shape_of t) (Some h)) (children t))) f

pub unsound : (g : Goal) (t : Tree) (h : Rule) → rule_in g (shape_of t) (names_of t) (children t) ≡ Some h → is_sound (shape_of t) (children t) ≡ false → stands_in g t ≡ false
unsound g t h e f = ap (standing g t) e ∙ (ap (λ b. is_wanted g (Some h) && (b && fill (wants_of (shape_of t) (Some h)) (children t))) f ∙ and_false (is_wanted g (Some h)))

sound_there : (g : Goal) (t : Tree) (h : Rule) → rule_in g (shape_of t) (names_of t) (children t) ≡ Some h → is_wanted g (Some h) ≡ true → is_sound (shape_of t) (children t) ≡ true → stands_in g t ≡ fill (wants_of (shape_of t) (Some h)) (children t)
sound_there g t h e f k =
    ap (standing g t) e
    ∙ (ap (λ b. b && (is_sound (shape_of t) (children t) && fill (wants_of (shape_of t) (Some h)) (children t))) f
    ∙ ap (λ b. b && fill (wants_of (shape_of t) (Some h)) (children t)) k)

negative_wants : (s : Shape) (h : Rule) (ts : Trees) → is_negative s ≡ true → fill (wants_of s (Some h)) ts ≡ has_no_trees ts
negative_wants (shape.NumericLiteral (negsuc n)) h none e = refl
negative_wants (shape.NumericLiteral (negsuc n)) h (t ▸ ts) e = refl
negative_wants _ h ts e = absurd (false≢true e)

other_wants : (s : Shape) (h : Rule) → is_negative s ≡ false → wants_of s (Some h) ≡ Some (wants (form h))
other_wants (shape.NumericLiteral (negsuc n)) h e = absurd (false≢true (sym e))
other_wants _ h e = refl

pub negative_stands : (g : Goal) (t : Tree) (h : Rule) → rule_in g (shape_of t) (names_of t) (children t) ≡ Some h → is_wanted g (Some h) ≡ true → is_sound (shape_of t) (children t) ≡ true → is_negative (shape_of t) ≡ true → stands_in g t ≡ has_no_trees (children t)
negative_stands g t h e f k m = sound_there g t h e f k ∙ negative_wants (shape_of t) h (children t) m

pub other_stands : (g : Goal) (t : Tree) (h : Rule) → rule_in g (shape_of t) (names_of t) (children t) ≡ Some h → is_wanted g (Some h) ≡ true → is_sound (shape_of t) (children t) ≡ true → is_negative (shape_of t) ≡ false → stands_in g t ≡ filled h (pieces_of h) (children t)
other_stands g t h e f k m =
    sound_there g t h e f k
    ∙ (ap (λ o. fill o (children t)) (other_wants (shape_of t) h m)
    ∙ ap (λ ps. fill (Some (wants ps)) (children t)) (sym (same_form h)))

-- ---- a part, by the ways in which it may stand

abbrev ways : Bool → Bool → Bool → Bool → Bool → Bool
ways a b c k v = (a || (b && k)) || (c && v)

part_is : (g : Goal) (t : Tree) → is_printable (a_part g) t ≡ ways (stands_in g t) (stands_in (core g) t) (stands_in grammar.Anything t) (has_core g) (takes_values g)
part_is g (node h xs n ts) = refl

pub by_itself : (g : Goal) (t : Tree) → stands_in g t ≡ true → is_printable (a_part g) t ≡ true
by_itself g t e = part_is g t ∙ ap (λ a. ways a (stands_in (core g) t) (stands_in grammar.Anything t) (has_core g) (takes_values g)) e

none_left : (a b : Bool) → ((a && false) || (b && false)) ≡ false
none_left true true = refl
none_left true false = refl
none_left false true = refl
none_left false false = refl

no_values : (g : Goal) → has_core g ≡ false → takes_values g ≡ false
no_values grammar.TargetElement e = absurd (false≢true (sym e))
no_values g e = refl

pub by_nothing : (g : Goal) (t : Tree) → stands_in g t ≡ false → has_core g ≡ false → is_printable (a_part g) t ≡ false
by_nothing g t e f =
    part_is g t
    ∙ (ap (λ a. ways a (stands_in (core g) t) (stands_in grammar.Anything t) (has_core g) (takes_values g)) e
    ∙ (ap (λ k. ways false (stands_in (core g) t) (stands_in grammar.Anything t) k (takes_values g)) f
    ∙ (ap (λ v. ways false (stands_in (core g) t) (stands_in grammar.Anything t) false v) (no_values g f)
    ∙ none_left (stands_in (core g) t) (stands_in grammar.Anything t))))

pub by_core : (g : Goal) (t : Tree) → stands_in g t ≡ false → has_core g ≡ true → stands_in (core g) t ≡ true → is_printable (a_part g) t ≡ true
by_core g t e f m =
    part_is g t
    ∙ (ap (λ a. ways a (stands_in (core g) t) (stands_in grammar.Anything t) (has_core g) (takes_values g)) e
    ∙ (ap (λ k. ways false (stands_in (core g) t) (stands_in grammar.Anything t) k (takes_values g)) f
    ∙ ap (λ b. ways false b (stands_in grammar.Anything t) true (takes_values g)) m))

pub by_neither : (g : Goal) (t : Tree) → stands_in g t ≡ false → stands_in (core g) t ≡ false → takes_values g ≡ false → is_printable (a_part g) t ≡ false
by_neither g t e m v =
    part_is g t
    ∙ (ap (λ a. ways a (stands_in (core g) t) (stands_in grammar.Anything t) (has_core g) (takes_values g)) e
    ∙ (ap (λ b. ways false b (stands_in grammar.Anything t) (has_core g) (takes_values g)) m
    ∙ (ap (λ w. ways false false (stands_in grammar.Anything t) (has_core g) w) v
    ∙ and_false (stands_in grammar.Anything t))))

and_true : (b : Bool) → (b && true) ≡ b
and_true true = refl
and_true false = refl

pub by_value : (g : Goal) (t : Tree) → stands_in g t ≡ false → stands_in (core g) t ≡ false → takes_values g ≡ true → is_printable (a_part g) t ≡ stands_in grammar.Anything t
by_value g t e m v =
    part_is g t
    ∙ (ap (λ a. ways a (stands_in (core g) t) (stands_in grammar.Anything t) (has_core g) (takes_values g)) e
    ∙ (ap (λ b. ways false b (stands_in grammar.Anything t) (has_core g) (takes_values g)) m
    ∙ (ap (λ w. ways false false (stands_in grammar.Anything t) (has_core g) w) v
    ∙ and_true (stands_in grammar.Anything t))))

or_nothing : (a b c : Bool) → ((a || (b && false)) || (c && false)) ≡ a
or_nothing true b c = refl
or_nothing false b c = none_left b c

-- a default stands by its production alone
pub default_is : (b : Bool) (s : List ℕ) (t : Tree) → is_printable (a_part (grammar.DefaultOf b s)) t ≡ stands_in (grammar.DefaultOf b s) t
default_is b s t = part_is (grammar.DefaultOf b s) t ∙ or_nothing (stands_in (grammar.DefaultOf b s) t) (stands_in (grammar.DefaultOf b s) t) (stands_in grammar.Anything t)

-- ---- parts of the other kinds

pub perhaps_is : (g : Goal) (t : Tree) → is_printable (a_perhaps g) t ≡ (is_nothing (shape_of t) (names_of t) (children t) || stands_in g t)
perhaps_is g (node h xs n ts) = refl

pub silent_is : (v : Silent) (t : Tree) → is_printable (a_silent v) t ≡ is_silent v (shape_of t) (names_of t) (children t)
silent_is v (node h xs n ts) = refl

list_is : (g : Goal) (l : Least) (t : Tree) → is_printable (a_list g l) t ≡ (is_list (shape_of t) && (has_no_names (names_of t) && (has_enough l (count (children t)) && are_printable g (has_gaps l) (children t))))
list_is g l (node h xs n ts) = refl

block_is : (g : Goal) (t : Tree) → is_printable (a_block g) t ≡ (is_list (shape_of t) && (has_no_names (names_of t) && are_printable g false (children t)))
block_is g (node h xs n ts) = refl

no_list : (a b c : Bool) → (a && b) ≡ false → (a && (b && c)) ≡ false
no_list true true c e = absurd (false≢true (sym e))
no_list true false c e = refl
no_list false b c e = refl

a_list_of : (a b c : Bool) → (a && b) ≡ true → (a && (b && c)) ≡ c
a_list_of true true c e = refl
a_list_of true false c e = absurd (false≢true e)
a_list_of false b c e = absurd (false≢true e)

pub other_list : (g : Goal) (l : Least) (t : Tree) → (is_list (shape_of t) && has_no_names (names_of t)) ≡ false → is_printable (a_list g l) t ≡ false
other_list g l t e = list_is g l t ∙ no_list (is_list (shape_of t)) (has_no_names (names_of t)) _ e

pub short_list : (g : Goal) (l : Least) (t : Tree) → (is_list (shape_of t) && has_no_names (names_of t)) ≡ true → has_enough l (count (children t)) ≡ false → is_printable (a_list g l) t ≡ false
short_list g l t e f = list_is g l t ∙ (a_list_of (is_list (shape_of t)) (has_no_names (names_of t)) _ e ∙ ap (λ b. b && are_printable g (has_gaps l) (children t)) f)

pub whole_list : (g : Goal) (l : Least) (t : Tree) → (is_list (shape_of t) && has_no_names (names_of t)) ≡ true → has_enough l (count (children t)) ≡ true → is_printable (a_list g l) t ≡ are_printable g (has_gaps l) (children t)
whole_list g l t e f = list_is g l t ∙ (a_list_of (is_list (shape_of t)) (has_no_names (names_of t)) _ e ∙ ap (λ b. b && are_printable g (has_gaps l) (children t)) f)

pub other_block : (g : Goal) (t : Tree) → (is_list (shape_of t) && has_no_names (names_of t)) ≡ false → is_printable (a_block g) t ≡ false
other_block g t e = block_is g t ∙ no_list (is_list (shape_of t)) (has_no_names (names_of t)) _ e

pub whole_block : (g : Goal) (t : Tree) → (is_list (shape_of t) && has_no_names (names_of t)) ≡ true → is_printable (a_block g) t ≡ are_printable g false (children t)
whole_block g t e = block_is g t ∙ a_list_of (is_list (shape_of t)) (has_no_names (names_of t)) _ e

pub gap_is : (t : Tree) → is_gap t ≡ is_nothing (shape_of t) (names_of t) (children t)
gap_is (node h xs n ts) = refl

-- ---- items, one by one

abbrev pub is_item : Goal → Bool → Tree → Bool
is_item g b t = (b && is_gap t) || is_printable (a_part g) t

items_step : (g : Goal) (b : Bool) (ts : List Tree) (i : ℕ) (t : Tree) (c : Bool) → i < length ts → t ≡ get_or ts i t → c ≡ is_item g b t → are_printable g b (trees_of (drop i ts)) ≡ (c && are_printable g b (trees_of (drop (i + 1) ts)))
items_step g b ts i t c h d e = at_drop_more (λ us. are_printable g b (trees_of us)) ts i t h ∙ ap (λ a. a && are_printable g b (trees_of (drop (i + 1) ts))) (ap (is_item g b) (sym d) ∙ sym e)

pub items_go_on : (g : Goal) (b : Bool) (ts : List Tree) (i : ℕ) (t : Tree) → i < length ts → t ≡ get_or ts i t → true ≡ is_item g b t → are_printable g b (trees_of (drop i ts)) ≡ are_printable g b (trees_of ts) → are_printable g b (trees_of (drop (i + 1) ts)) ≡ are_printable g b (trees_of ts)
items_go_on g b ts i t h d e inv = sym (items_step g b ts i t true h d e) ∙ inv

pub items_stop : (g : Goal) (b : Bool) (ts : List Tree) (i : ℕ) (t : Tree) → i < length ts → t ≡ get_or ts i t → false ≡ is_item g b t → are_printable g b (trees_of (drop i ts)) ≡ are_printable g b (trees_of ts) → false ≡ are_printable g b (trees_of ts)
items_stop g b ts i t h d e inv = sym (sym inv ∙ items_step g b ts i t false h d e)

pub items_end : (g : Goal) (b : Bool) (ts : List Tree) (i : ℕ) → length ts ≤ i → are_printable g b (trees_of (drop i ts)) ≡ are_printable g b (trees_of ts) → true ≡ are_printable g b (trees_of ts)
items_end g b ts i h inv = sym (sym inv ∙ at_drop_all (λ us. are_printable g b (trees_of us)) ts i h)

-- ---- sizes

pub node_within : (xs : List Tree) (i : ℕ) (x : Tree) → i < length xs → x ≡ get_or xs i x → node_count x ≤ node_counts (trees_of xs)
node_within [] i x h is = absurd (omega (arith, h))
node_within (y ∷ ys) zero x h is = rw is (omega arith)
node_within (y ∷ ys) (suc i) x h is = let less : i < length ys = omega (arith, h) in omega (arith, node_within ys i x less is)

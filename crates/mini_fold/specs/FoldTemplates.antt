-- The rewrites 18, 5 and 6: `` `a${1}b${c}` `` becomes `` `a1b${c}` ``, `` `a${b}` + `c${d}` `` ``
-- `a${b}c${d}` ``, and `` a + `x${b}` + `y` `` `` a + `x${b}y` ``.
use Rattle.std.specs.Prelude.{ℕ, ◌+◌, ◌-◌, ◌<◌, ◌^◌, Bool, true, false, ◌&&◌, ◌||◌, nat_eq, nat_le, nat_lt, List, [], length, Option, Some, None, is_some, if◌then◌else◌}
use Rattle.mini_model.specs.declared.operator.BinaryOperator.{BinaryOperator}
use Rattle.mini_model.specs.declared.operator.BinaryOperator.TheVariants.{Addition}
use Rattle.mini_model.specs.declared.place.Position.{Position}
use Rattle.mini_model.specs.declared.seat.Seat.{Seat}
use Rattle.mini_model.specs.declared.place.Position.TheVariants.{Expr}
use Rattle.mini_model.specs.declared.shape.Shape.{Shape}
use Rattle.mini_model.specs.declared.shape.Shape.TheVariants as shape
use Rattle.mini_model.specs.Paths.{append}
use Rattle.mini_model.specs.Position.{whole_seat, binary_operand_seat}
use Rattle.mini_model.specs.Tree.{Tree, Trees, none, ◌▸◌, count, shape_of, children, child_or_absent, first_or_absent}
use Rattle.mini_model.specs.Weight.{weight, capped}
use Rattle.mini_node.specs.Children.{part, is_bare, with_child, without}
use Rattle.mini_node.specs.Kinds.{is_listed, binary_operator}
use Rattle.mini_terms.specs.Folds.{is_effect_free}
use Rattle.mini_terms.specs.Kind.{is_primitive, kind}
use Rattle.mini_terms.specs.Parts.{leaves_nothing}
use Rattle.mini_fold.specs.FoldOperands.{is_string_kind}
use Rattle.mini_fold.specs.FoldSequences.{last_of, but_last}
use Rattle.mini_rows.specs.Spellings.{binary}
use Rattle.mini_rows.specs.Templates.{Piece, piece, template, pair, spelled, told, Row18, TemplateContracts}

-- ---- pieces of text

abbrev pub is_piece_shape : Shape → Bool
is_piece_shape (shape.TemplateElement is_tail raw (Some cooked)) = true
is_piece_shape h = false

-- a piece of text that cooks
abbrev pub is_piece : Tree → Bool
is_piece t = is_piece_shape (shape_of t) && is_bare t 0

abbrev pub tail_in : Shape → Bool
tail_in (shape.TemplateElement is_tail raw cooked) = is_tail
tail_in h = false

abbrev pub raw_in : Shape → List ℕ
raw_in (shape.TemplateElement is_tail raw cooked) = raw
raw_in h = []

abbrev pub cooked_in : Shape → List ℕ
cooked_in (shape.TemplateElement is_tail raw (Some cooked)) = cooked
cooked_in h = []

-- what it says
abbrev pub piece_in : Tree → Piece
piece_in t = record { is_tail = tail_in (shape_of t); raw = raw_in (shape_of t); cooked = cooked_in (shape_of t) }

abbrev pub are_pieces : Trees → Bool
are_pieces none = true
are_pieces (t ▸ ts) = is_piece t && are_pieces ts

-- ---- templates

abbrev pub is_template_shape : Shape → Bool
is_template_shape shape.TemplateLiteral = true
is_template_shape h = false

abbrev pub is_template : Tree → Bool
is_template t = is_template_shape (shape_of t) && (is_bare t 2 && (is_listed (part t 0) && is_listed (part t 1)))

abbrev pub texts_of : Tree → Trees
texts_of t = children (part t 0)

abbrev pub parts_of : Tree → Trees
parts_of t = children (part t 1)

-- a template with pieces of text round each part
abbrev pub is_whole : Tree → Bool
is_whole t = is_template t && (nat_eq (count (texts_of t)) (count (parts_of t) + 1) && are_pieces (texts_of t))

-- ---- 18

-- what a template of so many parts weighs more without its last one
abbrev pub spare : Seat → ℕ → ℕ
spare s n = if nat_eq n 1 then (if s.eq_left then 2 else 1) else 0

-- how many units the text gets beside those of its pieces
abbrev pub growth : ℕ → ℕ → ℕ → ℕ
growth joined first second = joined - first - second

-- twice the growth is at most what goes: what the part weighs, and this much besides
abbrev pub pays : ℕ → ℕ → ℕ → Bool
pays besides grown w = nat_le grown (capped (w + besides) - grown)

-- `${}` weighs 6, of which what is spared stays, and 1 is to be gained
abbrev pub hole : ℕ → ℕ
hole spared = 5 - spared

abbrev pub joined_at : Tree → List ℕ → Tree → Piece
joined_at a text b = pair (pair (piece_in a) (spelled text)) (piece_in b)

-- a part goes, for which this raw text comes
abbrev pub is_sewn : ℕ → Tree → Tree → List ℕ → Tree → Bool
is_sewn spared a t raw b = leaves_nothing t && pays (hole spared) (growth (length raw) (length (raw_in (shape_of a))) (length (raw_in (shape_of b)))) (capped (weight (Expr whole_seat) t))

abbrev pub sewn_by : ℕ → Tree → Tree → Option (List ℕ) → Tree → Option Tree
sewn_by spared a t (Some text) b = if is_sewn spared a t (joined_at a text b).raw b then Some (piece (joined_at a text b)) else None
sewn_by spared a t None b = None

-- the two pieces round a part as one, with the text of the part between, where that is lighter
abbrev pub sewn : ℕ → Tree → Tree → Tree → Option Tree
sewn spared a t b = sewn_by spared a t (told t) b

abbrev pub sewn_at : ℕ → Trees → Trees → ℕ → Option Tree
sewn_at spared texts parts i = sewn spared (child_or_absent texts i) (child_or_absent parts i) (child_or_absent texts (i + 1))

-- one of the parts goes
abbrev pub any_sewn : ℕ → Trees → Trees → Bool
any_sewn spared (a ▸ texts) (t ▸ parts) = is_some (sewn spared a t (first_or_absent texts)) || any_sewn spared texts parts
any_sewn spared texts parts = false

-- this piece in the place of both round the part at this place
abbrev pub sewn_texts : ℕ → Tree → Trees → Trees
sewn_texts i joined texts = with_child (without texts i) i joined

abbrev pub inlined : ℕ → Tree → Tree → Tree
inlined i joined t = template (sewn_texts i joined (texts_of t)) (without (parts_of t) i)

-- ---- 5

-- the parentheses round a sum that a template has not
abbrev pub bonus : Seat → ℕ
bonus s = if nat_lt 11 s.level && nat_le s.level 16 then 4 else 0

-- the mark of a template without parts on the left of an equality
abbrev pub mark : Seat → ℕ → ℕ
mark s n = if s.eq_left && nat_eq n 0 then 1 else 0

-- `+` weighs 2, of which 1 is to be gained
abbrev pub plus_sign : Seat → ℕ → ℕ
plus_sign s n = 1 + bonus s - mark s n

abbrev pub paired : Tree → Tree → Tree
paired a b = piece (pair (piece_in a) (piece_in b))

abbrev pub both_written : Tree → Tree → Tree
both_written a b =
    template (append (append (but_last (texts_of a)) (paired (last_of (texts_of a)) (first_or_absent (texts_of b)) ▸ none)) (without (texts_of b) 0)) (append (parts_of a) (parts_of b))

-- of a sum in a seat, or of the operands behind another one, where a `+` goes
abbrev pub besides : Option Seat → ℕ → ℕ
besides (Some s) n = plus_sign s n
besides None n = 1

-- where the first operand stands
abbrev pub head_seat : Option Seat → Seat
head_seat (Some s) = binary_operand_seat Addition 0
head_seat None = binary_operand_seat Addition 1

abbrev pub is_added : Option Seat → Seat → ℕ → Tree → List ℕ → Tree → Bool
is_added o at n t raw a = leaves_nothing t && pays (besides o n) (growth (length raw) (length (raw_in (shape_of a))) 0) (capped (weight (Expr at) t))

-- the last piece of a template with the text of what is added to it
abbrev pub tail_by : Option Seat → ℕ → Tree → Tree → Option (List ℕ) → Option Tree
tail_by o n end t (Some text) = if is_added o (binary_operand_seat Addition 1) n t (pair (piece_in end) (spelled text)).raw end then Some (piece (pair (piece_in end) (spelled text))) else None
tail_by o n end t None = None

abbrev pub tail_piece : Option Seat → ℕ → Tree → Tree → Option Tree
tail_piece o n end t = tail_by o n end t (told t)

abbrev pub with_tail : Tree → Tree → Tree
with_tail a joined = template (append (but_last (texts_of a)) (joined ▸ none)) (parts_of a)

-- the first piece of a template with the text of what it is added to
abbrev pub head_by : Option Seat → ℕ → Tree → Tree → Option (List ℕ) → Option Tree
head_by o n t end (Some text) = if is_added o (head_seat o) n t (pair (spelled text) (piece_in end)).raw end then Some (piece (pair (spelled text) (piece_in end))) else None
head_by o n t end None = None

abbrev pub head_piece : Option Seat → ℕ → Tree → Tree → Option Tree
head_piece o n t end = head_by o n t end (told t)

abbrev pub with_head : Tree → Tree → Tree
with_head b joined = template (joined ▸ without (texts_of b) 0) (parts_of b)

abbrev pub made_by : (Tree → Tree) → Option Tree → Option Tree
made_by f (Some joined) = Some (f joined)
made_by f None = None

abbrev pub tail_written : Option Seat → Tree → Tree → Option Tree
tail_written o a b = made_by (with_tail a) (tail_piece o (count (parts_of a)) (last_of (texts_of a)) b)

abbrev pub head_written : Option Seat → Tree → Tree → Option Tree
head_written o a b = made_by (with_head b) (head_piece o (count (parts_of b)) a (first_or_absent (texts_of b)))

-- what is written for a sum of these
abbrev pub sum_by : Bool → Bool → Option Seat → Tree → Tree → Option Tree
sum_by true true o a b = Some (both_written a b)
sum_by true false o a b = tail_written o a b
sum_by false true o a b = head_written o a b
sum_by false false o a b = None

abbrev pub sum_written : Option Seat → Tree → Tree → Option Tree
sum_written o a b = sum_by (is_whole a) (is_whole b) o a b

-- ---- 6

-- whether `t + u` of `a + t + u` may be one template: the sum of a and t is a text, and a may be
-- converted after u is evaluated
abbrev pub may_join : Tree → Tree → Bool
may_join t u = (is_whole t || is_whole u) && (is_string_kind (kind t) && is_effect_free u)

abbrev pub is_settled : Tree → Tree → Tree → Bool
is_settled a t u = may_join t u && (is_primitive (kind a) || is_some (told u))

abbrev pub behind_written : Tree → Tree → Tree → Option Tree
behind_written a t u = made_by (binary Addition a) (sum_written None t u)

-- `a + s`, where s is one template, and else `(a + t) + u` again of the sum s of t and u
abbrev pub rejoined : Bool → Tree → Tree → Tree
rejoined true a s = binary Addition a s
rejoined false a s = binary Addition (binary Addition a (part s 0)) (part s 1)

abbrev pub nested_written : Tree → Tree → Tree → Option Tree
nested_written a t u = if is_settled a t u then behind_written a t u else None

abbrev pub first_written : Option Tree → Option Tree → Option Tree
first_written (Some w) o = Some w
first_written None o = o

-- of a sum whose first operand is a sum: what stands behind that one's first operand, or else all
-- of it
abbrev pub behind_or_whole : Seat → Tree → Tree → Option Tree
behind_or_whole s a b = first_written (nested_written (part a 0) (part a 1) b) (sum_written (Some s) a b)

-- of a sum whose first operand is this
abbrev pub added_by : Option BinaryOperator → Seat → Tree → Tree → Option Tree
added_by (Some Addition) s a b = behind_or_whole s a b
added_by o s a b = sum_written (Some s) a b

abbrev pub added_written : Seat → Tree → Tree → Option Tree
added_written s a b = added_by (binary_operator a) s a b

-- ---- all

-- what the rule makes
abbrev pub Gives : Position → Tree → Tree → Type 0
Gives = TemplateContracts

-- no part of it goes in a lighter way, as far as the weight fits 64 bits
abbrev pub PartsRest : Position → Tree → Type 0
PartsRest p n = weight p n < 2 ^ 64 → (w : Tree) → Row18 n w → weight p w < weight p n → ⊥

-- nothing that a row writes is lighter, as far as the weight fits 64 bits
abbrev pub Rests : Position → Tree → Type 0
Rests p n = weight p n < 2 ^ 64 → (w : Tree) → TemplateContracts p n w → ⊥

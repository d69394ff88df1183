-- What is written in the place of what has no effect where a body has its `this`: 21 with a `0`, 1
-- of `void`, 44, 17 and 45.
use Rattle.std.specs.Prelude.{Bool, true, false, not, ◌&&◌, ◌||◌, Option, Some, None, if◌then◌else◌}
use Rattle.mini_model.specs.declared.operator.BinaryOperator.{BinaryOperator}
use Rattle.mini_model.specs.declared.operator.UnaryOperator.{UnaryOperator}
use Rattle.mini_model.specs.declared.operator.UnaryOperator.TheVariants.{Void}
use Rattle.mini_model.specs.declared.seat.Seat.{Seat}
use Rattle.mini_model.specs.Tree.{Tree}
use Rattle.mini_model.specs.Position.{is_equality, passed_part_seat, unary_operand_seat}
use Rattle.mini_terms.specs.Effects.{ef}
use Rattle.mini_terms.specs.Parts.{leaves_nothing}
use Rattle.mini_kept.specs.Without.{Assured}
use Rattle.mini_node.specs.Children.{part}
use Rattle.mini_node.specs.Kinds.{binary_operator, unary_operator}
use Rattle.mini_held.specs.Types.{is_never_type}
use Rattle.mini_rows.specs.Operators.{says_equal}
use Rattle.mini_rows.specs.Spellings.{negated_digit, void_zero}
use Rattle.mini_rows.specs.Still.{outweighs_zero}
use Rattle.mini_choices.specs.Calling.{calls_either, called}
use Rattle.mini_choices.specs.MinimizeConditionalBranches.{assigns_either, indexes_either, is_seated, assigned}
use Rattle.mini_choices.specs.MinimizeFirstPart.{behind_zero}
use Rattle.mini_choices.specs.MinimizeHeldBranches.{is_pair, item}

-- it does nothing where the world isn't asked for `this`, and leaves nothing behind
abbrev pub is_idle : Tree → Bool
is_idle t = ef false t && leaves_nothing t

-- `(this, a.b)()`
abbrev pub follows_idle : Tree → Bool
follows_idle t = is_pair t && (is_idle (item t 0) && outweighs_zero passed_part_seat (item t 0))

abbrev pub is_void : Option UnaryOperator → Bool
is_void (Some Void) = true
is_void o = false

-- `void this`
abbrev pub voids_idle : Tree → Bool
voids_idle t = is_void (unary_operator t) && (is_idle (part t 0) && outweighs_zero (unary_operand_seat Void) (part t 0))

-- `typeof this == "text"`
abbrev pub never_equal : BinaryOperator → Tree → Bool
never_equal o t = is_equality o && is_never_type false t

abbrev pub told_by : Option BinaryOperator → Tree → Option Tree
told_by (Some o) t = if never_equal o t then Some (negated_digit (not (says_equal o))) else None
told_by None t = None

-- `this ? x += 1 : x += 2`, `this ? x.k = 1 : x.k = 2` and `this ? x[k] = 1 : x[k] = 2`
abbrev pub assigns_choice : Seat → Tree → Bool
assigns_choice s t = is_seated s && (assigns_either false t || indexes_either false t)

-- one after another

abbrev pub type_written : Tree → Option Tree
type_written t = told_by (binary_operator t) t

abbrev pub assignment_written : Seat → Tree → Option Tree
assignment_written s t = if assigns_choice s t then Some (assigned t) else type_written t

abbrev pub call_written : Seat → Tree → Option Tree
call_written s t = if calls_either false t then Some (called t) else assignment_written s t

abbrev pub void_written : Seat → Tree → Option Tree
void_written s t = if voids_idle t then Some void_zero else call_written s t

abbrev pub written : Seat → Tree → Option Tree
written s t = if follows_idle t then Some (behind_zero t) else void_written s t

-- in a body of which this is known
abbrev pub written_in : Assured → Seat → Tree → Option Tree
written_in V s t = if V.has_this then written s t else None

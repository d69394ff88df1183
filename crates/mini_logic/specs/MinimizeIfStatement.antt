-- 82 and 83, `try_minimize_if`: `if (a) b; else c;` becomes `a ? b : c;`, `if (a) b;` becomes
-- `a && b;`, and `if (!a) b;` becomes `a || b;`, also where a sequence ends in the `!`; an empty
-- consequent goes, `if (a) if (b) c;` becomes `if (a && b) c;`, an `if` with `else` as a consequent
-- gets a block, and `if (!a) return b; else throw c;` becomes `if (a) throw c; else return b;`.
use Rattle.std.specs.Prelude.{◌⊎◌, ◌<◌, ◌^◌, ◌==◌, Bool, ◌&&◌, ◌||◌, not, nat_lt, Option, Some, None, if◌then◌else◌}
use Rattle.mini_model.specs.declared.operator.LogicalOperator.TheVariants.{Or, And}
use Rattle.mini_model.specs.declared.place.Position.{Position}
use Rattle.mini_model.specs.declared.place.Position.TheVariants.{Expr, Stmt}
use Rattle.mini_model.specs.declared.seat.Seat.{Seat}
use Rattle.mini_model.specs.declared.seat.StmtSeat.{StmtSeat}
use Rattle.mini_model.specs.Tree.{Tree, none, ◌▸◌, shape_of, count, children, negation, conditional, logical, expression_statement, if_else, if_alone}
use Rattle.mini_model.specs.Position.{statement_expression_seat, if_test_seat, left_operand_seat}
use Rattle.mini_model.specs.Weight.{weight, capped}
use Rattle.mini_model.specs.Terms.{neg, has_negated_result}
use Rattle.mini_model.specs.Redex.{Row82Else, Row82And, Row82Or}
use Rattle.mini_node.specs.Children.{part}
use Rattle.mini_node.specs.Kinds.{is_absent_part, is_empty_statement, is_block, is_if_statement, is_if_alone, is_expression_statement, is_negation}
use Rattle.mini_rows.specs.Lists.{block}
use Rattle.mini_rows.specs.Branches.{has_else, is_other_branch, as_consequent, conjunct_seat, IfRow}
use Rattle.mini_rows.specs.Turns.{is_unchained, is_block_shape, may_choose, Row83Swapped}
use Rattle.mini_logic.specs.Negating.{has_one, lighter_negation}
use Rattle.mini_logic.specs.Sequences.{ends_in_not, end_bared}

-- `if (a) b; else c;`
abbrev pub chooses : Tree → Bool
chooses t = is_if_statement t && (is_expression_statement (part t 1) && is_expression_statement (part t 2))

-- `if (a) b;`
abbrev pub guards : Tree → Bool
guards t = is_if_alone t && is_expression_statement (part t 1)

-- `;` or `{}`
abbrev pub is_empty : Tree → Bool
is_empty t = is_empty_statement t || (is_block t && (count (children (part t 0)) == 0))

-- `if (a);`, with `else` or without
abbrev pub has_empty_consequent : Tree → Bool
has_empty_consequent t = is_if_statement t && is_empty (part t 1)

-- `if (a); else b;`
abbrev pub skips : Tree → Bool
skips t = has_empty_consequent t && is_expression_statement (part t 2)

-- `if (a);`
abbrev pub only_tests : Tree → Bool
only_tests t = has_empty_consequent t && is_absent_part (part t 2)

-- the weight of `!a` as a test fits 64 bits
abbrev pub is_weighed : Tree → Bool
is_weighed a = nat_lt (capped (weight (Expr if_test_seat) (negation a))) 18446744073709551615

-- `if (a); else return b;`
abbrev pub turns : Tree → Bool
turns t = has_empty_consequent t && (is_other_branch (part t 2) && is_weighed (part t 0))

-- `if (a) if (b) c;`
abbrev pub nests : Tree → Bool
nests t = is_if_alone t && is_if_alone (part t 1)

-- `if (a) if (b) c; else d;`, where the `else` is that of the second `if`
abbrev pub is_bare : Tree → Bool
is_bare t = is_if_statement t && has_else (part t 1)

-- `{ if (b) c; else d; }`, of a block
abbrev pub holds_choice : Tree → Bool
holds_choice t = has_one (children (part t 0)) && may_choose (part (part t 0) 0)

-- as an alternate its braces, if it has any, weigh what they do as a consequent
abbrev pub keeps_braces : Tree → Bool
keeps_braces t = not (is_block_shape (shape_of t)) || (is_block t && not (holds_choice t))

-- `if (!a) return b; else throw c;`
abbrev pub swaps : Tree → Bool
swaps t = is_if_statement t && (is_negation (part t 0) && (is_other_branch (part t 1) && (keeps_braces (part t 1) && is_unchained (part t 2))))

-- `a ? b : c;`
abbrev pub choice : Tree → Tree
choice t = expression_statement (conditional (part t 0) (part (part t 1) 0) (part (part t 2) 0))

-- `a && b;`, of the test and a branch
abbrev pub conjunction : Tree → Tree → Tree
conjunction a b = expression_statement (logical And a (part b 0))

-- `a || b;`, of the test and a branch
abbrev pub disjunction : Tree → Tree → Tree
disjunction a b = expression_statement (logical Or a (part b 0))

-- the seat of the a in `a || b;`
abbrev pub disjunct_seat : Seat
disjunct_seat = left_operand_seat Or statement_expression_seat

-- whose `!` is dropped where a sequence ends in one
abbrev pub guard : Tree → Tree
guard t =
    if has_negated_result (part t 0) then disjunction (neg disjunct_seat (part t 0)) (part t 1) else
    (if ends_in_not (part t 0) then disjunction (end_bared (part t 0)) (part t 1) else conjunction (part t 0) (part t 1))

-- `a || b;`, or `a && b;` of a test that ends in a `!`
abbrev pub skipped : Tree → Tree
skipped t =
    if has_negated_result (part t 0) then conjunction (neg conjunct_seat (part t 0)) (part t 2) else
    (if ends_in_not (part t 0) then conjunction (end_bared (part t 0)) (part t 2) else disjunction (part t 0) (part t 2))

-- `if (!a) return b;`
abbrev pub turned : Tree → Tree
turned t = if_alone (lighter_negation if_test_seat (part t 0)) (as_consequent (part t 2))

-- `if (a && b) c;`
abbrev pub nested : Tree → Tree
nested t = if_alone (logical And (part t 0) (part (part t 1) 0)) (part (part t 1) 1)

-- `if (a) { if (b) c; else d; }`
abbrev pub in_block : Tree → Tree
in_block t = if_else (part t 0) (block (part t 1 ▸ none)) (part t 2)

-- `if (a) throw c; else return b;`
abbrev pub swapped : Tree → Tree
swapped t = if_else (part (part t 0) 0) (part t 2) (part t 1)

abbrev pub written : Tree → Option Tree
written t = if chooses t then Some (choice t) else (if guards t then Some (guard t) else (if skips t then Some (skipped t) else (if only_tests t then Some (expression_statement (part t 0)) else (if turns t then Some (turned t) else (if nests t then Some (nested t) else (if is_bare t then Some (in_block t) else (if swaps t then Some (swapped t) else None)))))))

-- one of the forms
abbrev pub IsRow : Tree → Tree → Type 0
IsRow n w = (Row82Else n w ⊎ (Row82And n w ⊎ Row82Or n w)) ⊎ (IfRow n w ⊎ Row83Swapped n w)

-- what the rule makes
abbrev pub Gives : Position → Tree → Tree → Type 0
Gives (Stmt q) n w = IsRow n w × (weight (Stmt q) w < weight (Stmt q) n)
Gives _ n w = ⊥

-- no form reads it as anything, if the weight fits 64 bits
abbrev pub Rests : Position → Tree → Type 0
Rests (Stmt q) n = weight (Stmt q) n < 2 ^ 64 → (w : Tree) → IsRow n w → ⊥
Rests _ n = Unit {0}

-- what the rows write is lighter in every place
abbrev pub RowLighter : Type 0
RowLighter = (q : StmtSeat) (n w : Tree) → IsRow n w → weight (Stmt q) w < weight (Stmt q) n

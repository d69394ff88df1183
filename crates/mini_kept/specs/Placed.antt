-- Where a node stands, its place tells what its slot is: where an expression stands it is one of
-- expressions, and where statements stand (ECMA-262, "StatementList") it is one of statements.
use Rattle.std.specs.Prelude.{Bool, true, false, ◌&&◌, ◌||◌, not, nat_eq}
use Rattle.mini_model.specs.declared.place.Position.{Position}
use Rattle.mini_model.specs.declared.place.Position.TheVariants.{Expr, StatementList, BodyList, ArgumentList, SequenceList, TemplateList}
use Rattle.mini_model.specs.declared.seat.Seat.{Seat}
use Rattle.mini_model.specs.Position.{primary_level}
use Rattle.mini_accept.specs.WellShaped.{Class, a_statement, an_init, an_arrow_body, an_expression, a_link, a_chain, an_argument, an_inner_argument, an_inner, a_key, a_private_or_key, an_inner_key, a_default_export, Slot, one, one_or_absent, many, many_or_holes, many_and_rest, many_or_holes_and_rest}

-- where a list of statements stands
abbrev pub is_statement_list : Position → Bool
is_statement_list StatementList = true
is_statement_list BodyList = true
is_statement_list p = false

-- what may stand where an expression does: no tag's template, no target and no method's value. An
-- inner expression hands its place on to what it holds
abbrev pub is_expression_class : Class → Bool
is_expression_class an_init = true
is_expression_class an_arrow_body = true
is_expression_class an_expression = true
is_expression_class a_link = true
is_expression_class an_argument = true
is_expression_class an_inner_argument = true
is_expression_class (an_inner c) = is_expression_class c
is_expression_class (a_key is_computed) = is_computed
is_expression_class (a_private_or_key is_computed) = is_computed
is_expression_class (an_inner_key is_computed) = is_computed
is_expression_class a_default_export = true
is_expression_class c = false

-- the call or the member that a chain holds stands in a seat of the tightest level, and is no
-- object
abbrev pub is_chain_class : Class → Bool
is_chain_class a_chain = true
is_chain_class (an_inner c) = is_chain_class c
is_chain_class c = false

abbrev pub is_chain_seat : Seat → Bool
is_chain_seat q = nat_eq q.level primary_level && (not q.access && (not q.boolean && not q.unused))

abbrev pub fits_seat : Seat → Class → Bool
fits_seat q c = is_expression_class c || (is_chain_class c && is_chain_seat q)

-- and each item of a list
abbrev pub are_expressions : Slot → Bool
are_expressions (one c) = is_expression_class c
are_expressions (one_or_absent c) = is_expression_class c
are_expressions (many c) = is_expression_class c
are_expressions (many_or_holes c) = is_expression_class c
are_expressions (many_and_rest c rest) = is_expression_class c && is_expression_class rest
are_expressions (many_or_holes_and_rest c rest) = is_expression_class c && is_expression_class rest
are_expressions s = false

abbrev pub fits_place : Position → Slot → Bool
fits_place (Expr q) (one c) = fits_seat q c
fits_place (Expr q) (one_or_absent c) = fits_seat q c
fits_place (Expr q) s = false
fits_place ArgumentList s = are_expressions s
fits_place (SequenceList q) s = are_expressions s
fits_place TemplateList s = are_expressions s
fits_place p (one c) = true
fits_place p (one_or_absent c) = true
fits_place StatementList (many (a_statement d)) = true
fits_place StatementList s = false
fits_place BodyList (many (a_statement d)) = true
fits_place BodyList s = false
fits_place p s = true

-- What the slot of a node tells of its place: that an inner expression there is asked for its value
-- or as a target, as which it stands where no expression does, and that a function there is no
-- constructor's unless it is a method's value.
use Rattle.std.specs.Prelude.{◌≡◌, Bool, true, false, ◌&&◌, ◌||◌, not}
use Rattle.mini_model.specs.declared.place.Position.{Position}
use Rattle.mini_model.specs.declared.place.Position.TheVariants.{Expr, Stmt, StatementList, BodyList, ArgumentList, SequenceList, TemplateList}
use Rattle.mini_accept.specs.WellShaped.{Class, a_method, an_inner, an_inner_argument, a_private_or_key, an_inner_key, an_element_target, a_target_element, Slot, one, one_or_absent, many, many_or_holes, many_and_rest, many_or_holes_and_rest, quasis}
use Rattle.mini_laws.specs.Bodies.{Around}

-- an inner expression may fill it
abbrev pub takes_inner : Class → Bool
takes_inner (an_inner c) = true
takes_inner an_inner_argument = true
takes_inner (a_private_or_key computed) = computed
takes_inner (an_inner_key computed) = computed
takes_inner an_element_target = true
takes_inner a_target_element = true
takes_inner c = false

-- a value is asked there whole, or a target
abbrev pub is_asked_whole : Position → Bool
is_asked_whole (Expr s) = not s.boolean && not s.unused
is_asked_whole (Stmt q) = false
is_asked_whole StatementList = false
is_asked_whole BodyList = false
is_asked_whole ArgumentList = false
is_asked_whole (SequenceList s) = false
is_asked_whole TemplateList = false
is_asked_whole p = true

-- and so of each item of a list
abbrev pub are_asked_whole : Position → Bool
are_asked_whole StatementList = false
are_asked_whole BodyList = false
are_asked_whole (SequenceList s) = false
are_asked_whole p = true

abbrev pub stands_whole : Slot → Position → Bool
stands_whole (one c) p = not (takes_inner c) || is_asked_whole p
stands_whole (one_or_absent c) p = not (takes_inner c) || is_asked_whole p
stands_whole (many c) p = not (takes_inner c) || are_asked_whole p
stands_whole (many_or_holes c) p = not (takes_inner c) || are_asked_whole p
stands_whole (many_and_rest c rest) p = not (takes_inner c || takes_inner rest) || are_asked_whole p
stands_whole (many_or_holes_and_rest c rest) p = not (takes_inner c || takes_inner rest) || are_asked_whole p
stands_whole (quasis g) p = true

-- no expression stands there, and none is an item of a list there: so stands what a pattern assigns
-- to
abbrev pub is_unseated : Position → Bool
is_unseated (Expr s) = false
is_unseated ArgumentList = false
is_unseated (SequenceList s) = false
is_unseated TemplateList = false
is_unseated p = true

abbrev pub is_method_slot : Slot → Bool
is_method_slot (one a_method) = true
is_method_slot s = false

-- of a node that fills a slot, at a place, with this around it
pub record Stands (s : Slot) (p : Position) (a : Around) : Type 0 where
  pub whole : stands_whole s p ≡ true
  pub assigned : a.is_assigned ≡ true → is_unseated p ≡ true
  pub function : is_method_slot s ≡ false → a.constructs ≡ false

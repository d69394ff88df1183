-- Programs that nearly do the same are told apart by a run.
use Rattle.std.proofs.Common.{◌≡◌, ℕ, ◌+◌, ◌*◌, true, false, List, [], ◌∷◌, Option, Some, None, refl, sym, ap, ◌∙◌, inl, inr, true≢false, nat_eq}
use Rattle.std.proofs.lemmas.Bool.{eq-eqb}
use Rattle.std.specs.Prelude.{◌⊎◌, codes, pos}
use Rattle.std.specs.Fmt.{digits}
use Rattle.mini_laws.specs.Value.{Value, Undefined, Null, Boolean, Number, String, Object, Variable, Declared, Global, Slot, Holds, Missing, Uninitialised, choose, variable_eq}
use Rattle.mini_laws.specs.State.{Label, GetOf, SetOf, CallOf, DirectEval, Coerce, Create, FreshOf, IteratorOf, NextOf, CloseOf, PlaceOf, BindOf, TypeError, ReferenceError, Raise, Entry, Item, Converted, Event, Normal, Answer, either}
use Rattle.mini_laws.specs.Command.{act, at_variable, read_slot, read_any, write_slot, take_turn, answered, answered_binds, heard, this_of}
use Rattle.mini_laws.specs.Step.{step, means, meaning}
use Rattle.mini_laws.specs.Body.{Outcome, NormalEnd, ReturnOf, ThrowOf, NoTurnsEnd, NoAnswersEnd, Ran}
use Rattle.mini_laws.specs.Samples.{gives, throws, start}
use Rattle.mini_laws.specs.NearMisses as law
use Rattle.mini_laws.proofs.Congruent.{no_init}

-- A number that tells runs apart

abbrev number_of : Value → ℕ
number_of Undefined = 1
number_of Null = 2
number_of (Boolean true) = 3
number_of (Boolean false) = 4
number_of (Number (pos n)) = 5 + n
number_of (String (c ∷ cs)) = 20 + c
number_of v = 0

abbrev of_slot : Slot → ℕ
of_slot (Holds v) = 2 + number_of v
of_slot Missing = 0
of_slot Uninitialised = 1

abbrev of_entries : List Entry → ℕ
of_entries [] = 0
of_entries (Item (Object n function) ∷ es) = 1 + n + 10 * of_entries es
of_entries (Item v ∷ es) = 10 * of_entries es
of_entries (Converted v ∷ es) = 9 + 10 * of_entries es
of_entries (e ∷ es) = 8 + 10 * of_entries es

abbrev of_label : Label → ℕ
of_label CallOf = 1
of_label DirectEval = 2
of_label GetOf = 3
of_label SetOf = 4
of_label (Coerce hint) = 5
of_label Create = 6
of_label FreshOf = 7
of_label (Raise TypeError) = 8
of_label (Raise ReferenceError) = 15
of_label IteratorOf = 9
of_label NextOf = 10
of_label CloseOf = 11
of_label (PlaceOf what) = 12
of_label BindOf = 13
of_label l = 14

-- its label, its operands, and what the symbol 7 has
abbrev of_event : Event → ℕ
of_event e = of_label e.label + 20 * (of_slot (e.shared (Declared 7)) + 20 * of_entries e.operands)

abbrev of_events : List Event → ℕ
of_events [] = 0
of_events (e ∷ es) = 1 + of_event e + 1000000 * of_events es

abbrev of_outcome : Outcome → ℕ
of_outcome NormalEnd = 0
of_outcome (ReturnOf v) = 1 + 10 * number_of v
of_outcome (ThrowOf v) = 2 + 10 * number_of v
of_outcome NoAnswersEnd = 3
of_outcome NoTurnsEnd = 4
of_outcome o = 5

abbrev code : Option Ran → ℕ
code None = 0
code (Some r) = 1 + of_outcome r.outcome + 1000 * of_events r.events

told : (x y : Option Ran) → (x ≡ None) ⊎ (x ≡ y) → nat_eq (code x) 0 ≡ false → nat_eq (code x) (code y) ≡ false → ⊥
told x y (inl e) some differ = true≢false (ap (λ r. nat_eq (code r) 0) (sym e) ∙ some)
told x y (inr e) some differ = true≢false (sym (eq-eqb (code x) (code y) (ap code e)) ∙ differ)

abbrev from_a : Value → Variable → Slot
from_a v x = choose (variable_eq x (Global (codes "a"))) (Holds v) (start x)

abbrev with_seven : Variable → Slot
with_seven x = choose (variable_eq x (Declared 7)) (Holds Undefined) (start x)

-- an answer that changes a
abbrev changes : Value → Value → Answer
changes v w = record { given = Normal v; news = λ x. Some w; binds = λ x. Null }

abbrev whole : ℕ → Answer
whole n = gives (Number (pos n))

pub conversion_moves : law.ConversionMoves
unfolding means meaning step either act at_variable read_slot read_any write_slot take_turn answered answered_binds heard this_of digits
conversion_moves s = told _ _ (s.by start Undefined (whole 2 ∷ whole 1 ∷ []) 3 (no_init _)) refl refl

pub operands_swap : law.OperandsSwap
unfolding means meaning step either act at_variable read_slot read_any write_slot take_turn answered answered_binds heard this_of digits
operands_swap s = told _ _ (s.by start Undefined (whole 2 ∷ whole 3 ∷ []) 3 (no_init _)) refl refl

pub read_moves : law.ReadMoves
unfolding means meaning step either act at_variable read_slot read_any write_slot take_turn answered answered_binds heard this_of digits
read_moves s = told _ _ (s.by start Undefined (changes Null Null ∷ []) 3 (no_init _)) refl refl

pub equality_sharpens : law.EqualitySharpens
unfolding means meaning step either act at_variable read_slot read_any write_slot take_turn answered answered_binds heard this_of digits
equality_sharpens s = told _ _ (s.by start Undefined ([]) 3 (no_init _)) refl refl

pub this_appears : law.ThisAppears
unfolding means meaning step either act at_variable read_slot read_any write_slot take_turn answered answered_binds heard this_of digits
this_appears s = told _ _ (s.by start Undefined (gives (Object 6 true) ∷ gives Null ∷ []) 3 (no_init _)) refl refl

pub deleted_name : law.DeletedName
unfolding means meaning step either act at_variable read_slot read_any write_slot take_turn answered answered_binds heard this_of digits
deleted_name s = told _ _ (s.by start Undefined ([]) 3 (no_init _)) refl refl

pub missing_name : law.MissingName
unfolding means meaning step either act at_variable read_slot read_any write_slot take_turn answered answered_binds heard this_of digits
missing_name s = told _ _ (s.by start Undefined ([]) 3 (no_init _)) refl refl

pub absent_dropped : law.AbsentDropped
unfolding means meaning step either act at_variable read_slot read_any write_slot take_turn answered answered_binds heard this_of digits
absent_dropped s = told _ _ (s.by start Undefined (throws Null ∷ []) 3 (no_init _)) refl refl

pub absent_part_dropped : law.AbsentPartDropped
unfolding means meaning step either act at_variable read_slot read_any write_slot take_turn answered answered_binds heard this_of digits
absent_part_dropped s = told _ _ (s.by start Undefined (throws Null ∷ []) 3 (no_init _)) refl refl

pub chain_ends : law.ChainEnds
unfolding means meaning step either act at_variable read_slot read_any write_slot take_turn answered answered_binds heard this_of digits
chain_ends s = told _ _ (s.by start Undefined (throws Null ∷ []) 3 (no_init _)) refl refl

pub key_converts_twice : law.KeyConvertsTwice
unfolding means meaning step either act at_variable read_slot read_any write_slot take_turn answered answered_binds heard this_of digits
key_converts_twice s = told _ _ (s.by start Undefined (whole 1 ∷ gives Null ∷ []) 3 (no_init _)) refl refl

pub target_read_late : law.TargetReadLate
unfolding means meaning step either act at_variable read_slot read_any write_slot take_turn answered answered_binds heard this_of digits
target_read_late s = told _ _ (s.by (from_a (Number (pos 1))) Undefined (changes (Number (pos 2)) (Number (pos 5)) ∷ []) 3 (no_init _)) refl refl

pub constant_written : law.ConstantWritten
unfolding means meaning step either act at_variable read_slot read_any write_slot take_turn answered answered_binds heard this_of digits
constant_written s = told _ _ (s.by start Undefined (throws Null ∷ []) 3 (no_init _)) refl refl

pub private_target_moves : law.PrivateTargetMoves
unfolding means meaning step either act at_variable read_slot read_any write_slot take_turn answered answered_binds heard this_of digits
private_target_moves s = told _ _ (s.by start Undefined (gives Null ∷ gives Null ∷ gives Null ∷ []) 3 (no_init _)) refl refl

pub write_moves : law.WriteMoves
unfolding means meaning step either act at_variable read_slot read_any write_slot take_turn answered answered_binds heard this_of digits
write_moves s = told _ _ (s.by start Undefined (gives Null ∷ []) 3 (no_init _)) refl refl

pub finalizer_lost : law.FinalizerLost
unfolding means meaning step either act at_variable read_slot read_any write_slot take_turn answered answered_binds heard this_of digits
finalizer_lost s = told _ _ (s.by start Undefined (throws Null ∷ gives Null ∷ []) 3 (no_init _)) refl refl

pub finalizer_replaces : law.FinalizerReplaces
unfolding means meaning step either act at_variable read_slot read_any write_slot take_turn answered answered_binds heard this_of digits
finalizer_replaces s = told _ _ (s.by start Undefined ([]) 3 (no_init _)) refl refl

pub case_skipped : law.CaseSkipped
unfolding means meaning step either act at_variable read_slot read_any write_slot take_turn answered answered_binds heard this_of digits
case_skipped s = told _ _ (s.by start Undefined (gives Null ∷ gives Null ∷ []) 3 (no_init _)) refl refl

pub default_moves : law.DefaultMoves
unfolding means meaning step either act at_variable read_slot read_any write_slot take_turn answered answered_binds heard this_of digits
default_moves s = told _ _ (s.by start Undefined (gives Null ∷ gives Null ∷ []) 3 (no_init _)) refl refl

pub continue_dropped : law.ContinueDropped
unfolding means meaning step either act at_variable read_slot read_any write_slot take_turn answered answered_binds heard this_of digits
continue_dropped s = told _ _ (s.by start Undefined (gives Null ∷ []) 3 (no_init _)) refl refl

pub break_dropped : law.BreakDropped
unfolding means meaning step either act at_variable read_slot read_any write_slot take_turn answered answered_binds heard this_of digits
break_dropped s = told _ _ (s.by start Undefined (gives Null ∷ []) 3 (no_init _)) refl refl

pub fresh_lost : law.FreshLost
unfolding means meaning step either act at_variable read_slot read_any write_slot take_turn answered answered_binds heard this_of digits
fresh_lost s = told _ _ (s.by start Undefined (gives (Boolean true) ∷ gives Null ∷ gives Null ∷ []) 3 (no_init _)) refl refl

pub copy_lost : law.CopyLost
unfolding means meaning step either act at_variable read_slot read_any write_slot take_turn answered answered_binds heard this_of digits
copy_lost s = told _ _ (s.by start Undefined (gives Null ∷ []) 3 (no_init _)) refl refl

pub close_lost : law.CloseLost
unfolding means meaning step either act at_variable read_slot read_any write_slot take_turn answered answered_binds heard this_of digits
close_lost s = told _ _ (s.by start Undefined (gives (Object 9 false) ∷ whole 1 ∷ gives Null ∷ []) 3 (no_init _)) refl refl

pub function_late : law.FunctionLate
unfolding means meaning step either act at_variable read_slot read_any write_slot take_turn answered answered_binds heard this_of digits
function_late s = told _ _ (s.by start Undefined (gives (Object 6 true) ∷ gives (Object 6 true) ∷ []) 3 (no_init _)) refl refl

pub lexical_lost : law.LexicalLost
unfolding means meaning step either act at_variable read_slot read_any write_slot take_turn answered answered_binds heard this_of digits
lexical_lost s = told _ _ (s.by with_seven Undefined (gives Null ∷ []) 3 (no_init _)) refl refl

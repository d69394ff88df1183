-- Where a sequence stands an expression does, and a parent asks the same of any two.
use Rattle.std.proofs.Common.{◌≡◌, Bool, true, false, [], refl, sym, ap, true≢false}
use Rattle.std.specs.Prelude.{None}
use Rattle.mini_model.specs.declared.place.Position.{Position}
use Rattle.mini_model.specs.declared.shape.Shape.TheVariants as shape
use Rattle.mini_model.specs.Tree.{Trees, none, ◌▸◌, listed}
use Rattle.mini_accept.specs.WellShaped.{Depth, in_module, in_body, nested, Class, a_statement, an_init, an_arrow_body, an_expression, a_link, an_argument, a_key, a_private_or_key, an_inner_key, a_default_export, Slot, one, one_or_absent, statement_slots, filling_by, fits}
use Rattle.mini_kept.specs.KeepsShapes.{AskedAlike}
use Rattle.mini_kept.proofs.Expressions.{refused_here, expression, TakesExpressionIn, TakesExpression}
use Rattle.mini_rows.specs.Lists.{sequence}

sequence_nowhere : (strict : Bool) (d : Depth) → statement_slots strict d shape.SequenceExpression ≡ None
sequence_nowhere true in_module = refl
sequence_nowhere true in_body = refl
sequence_nowhere true nested = refl
sequence_nowhere false in_module = refl
sequence_nowhere false in_body = refl
sequence_nowhere false nested = refl

abbrev Stood : Bool → Class → Trees → Type 0
Stood strict k ts = TakesExpressionIn k × (fits strict expression (sequence ts) ≡ true)

sequence_in : (strict : Bool) (k : Class) (ts : Trees) → fits strict (one k) (sequence ts) ≡ true → Stood strict k ts
sequence_in strict an_expression ts e = (tt, e)
sequence_in strict a_link ts e = (tt, e)
sequence_in strict an_argument ts e = (tt, e)
sequence_in strict an_init ts e = (tt, e)
sequence_in strict (a_key true) ts e = (tt, e)
sequence_in strict (a_key false) ts e = absurd (refused_here strict (one (a_key false)) shape.SequenceExpression [] 0 (listed ts ▸ none) refl e)
sequence_in strict an_arrow_body ts e = (tt, e)
sequence_in strict a_default_export ts e = (tt, e)
sequence_in strict (a_statement d) ts e = absurd (refused_here strict (one (a_statement d)) shape.SequenceExpression [] 0 (listed ts ▸ none) (ap filling_by (sequence_nowhere strict d)) e)
sequence_in strict (a_private_or_key true) ts e = absurd (refused_here strict (one (a_private_or_key true)) shape.SequenceExpression [] 0 (listed ts ▸ none) refl e)
sequence_in strict (an_inner_key true) ts e = absurd (refused_here strict (one (an_inner_key true)) shape.SequenceExpression [] 0 (listed ts ▸ none) refl e)
sequence_in strict k ts e = absurd (refused_here strict (one k) shape.SequenceExpression [] 0 (listed ts ▸ none) refl e)

pub of_sequence : (strict : Bool) (s : Slot) (ts : Trees) → fits strict s (sequence ts) ≡ true → TakesExpression s × (fits strict expression (sequence ts) ≡ true)
of_sequence strict (one k) ts e = sequence_in strict k ts e
of_sequence strict (one_or_absent k) ts e = sequence_in strict k ts e
of_sequence strict s ts e = absurd (refused_here strict s shape.SequenceExpression [] 0 (listed ts ▸ none) refl e)

pub sequence_asked : (p : Position) (ts us : Trees) → AskedAlike p (sequence ts) (sequence us)
sequence_asked p ts us = record {
  absent = λ e. absurd (true≢false (sym e));
  body = λ e. absurd (true≢false (sym e));
  optional = λ e. absurd (true≢false (sym e));
  number = λ asks e. refl;
  spelled = λ s e. absurd (cc e);
  plain = refl;
}

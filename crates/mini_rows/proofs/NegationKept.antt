-- The whole negation of an expression may be written for it as a part.
use Rattle.std.proofs.Common.{◌≡◌, ℕ, zero, Bool, true, false, [], Option, Some, None, refl, sym, ◌∙◌, subst, arith}
use Rattle.std.specs.Prelude.{◌≤◌, not, ◌&&◌, nat_lt, if◌then◌else◌}
use Rattle.std.proofs.lemmas.Bool.{and_parts}
use Rattle.mini_model.specs.declared.operator.BinaryOperator.{BinaryOperator}
use Rattle.mini_model.specs.declared.operator.BinaryOperator.TheVariants.{LessThan, GreaterThan}
use Rattle.mini_model.specs.declared.operator.LogicalOperator.{LogicalOperator}
use Rattle.mini_model.specs.declared.operator.LogicalOperator.TheVariants.{Or, And}
use Rattle.mini_model.specs.declared.seat.Seat.{Seat}
use Rattle.mini_model.specs.declared.shape.Shape.TheVariants as shape
use Rattle.mini_model.specs.Paths.{append}
use Rattle.mini_model.specs.Tree.{Tree, Trees, node, none, ◌▸◌, logical}
use Rattle.mini_model.specs.Position.{left_operand_seat, right_operand_seat, branch_seat}
use Rattle.mini_model.specs.declared.place.Position.TheVariants.{Expr}
use Rattle.mini_model.specs.Terms.{not_of}
use Rattle.mini_model.specs.Weight.{weight}
use Rattle.mini_accept.specs.WellShaped.{fits}
use Rattle.mini_laws.specs.declared.names.Use.TheVariants.{Read}
use Rattle.mini_laws.specs.DeclaredNames.{has_inner}
use Rattle.mini_laws.specs.Scopes.{scopes_by}
use Rattle.mini_laws.specs.Scoped.{Scoped}
use Rattle.mini_laws.specs.Symbols.{declared as declared_in}
use Rattle.mini_laws.specs.Early.{early_names, scope_declarations, early_jumps, targets_of}
use Rattle.mini_laws.specs.Bodies.{bodies}
use Rattle.mini_kept.specs.AlikeBodies.{BodiesKept}
use Rattle.mini_kept.specs.Carried.{numbers}
use Rattle.mini_kept.proofs.BodyLists.{kept_itself, kept_on}
use Rattle.mini_kept.proofs.Bools.{left}
use Rattle.mini_kept.proofs.Expressions.{expression, two_fit}
use Rattle.mini_node.specs.Children.{part}
use Rattle.mini_node.specs.Kinds.{boolean as boolean_value}
use Rattle.mini_node.specs.Made.{boolean_is}
use Rattle.mini_node.specs.Walks.{append_one}
use Rattle.mini_rows.specs.Arranged.{WrittenFor}
use Rattle.mini_rows.specs.Lists.{sequence}
use Rattle.mini_rows.specs.Sketches.{Logical, Sketch, Parts, part as part_of, under, end, ◌▹◌, AsValue, still}
use Rattle.mini_rows.specs.Spellings.{binary, boolean}
use Rattle.mini_rows.specs.Negations.{beside_u, reversed, reverse_of, negated_leaf, last_by, whole, lightest}
use Rattle.mini_rows.proofs.ArrangedNegations.{at_quiet, negation_written}
use Rattle.mini_rows.proofs.ArrangedRewritten.{new_inner, new_fixed, new_declared, new_once, new_targets, new_scoped, new_symbols, new_numbers, new_bodies, new_frames, unchanged}
use Rattle.mini_rows.proofs.BranchEnds.{last_written}
use Rattle.mini_rows.proofs.NegationMeaning.{reverses}

pub of_two : (strict : Bool) (o : LogicalOperator) (a b : Tree) → fits strict expression (logical o a b) ≡ true → (fits strict expression a ≡ true) × (fits strict expression b ≡ true)
of_two strict o a b e = let (x, y) = and_parts (fits strict expression a) (fits strict expression b && true) e in (x, left (fits strict expression b) true y)

-- one after another
pub written_then : (t u w : Tree) → WrittenFor t u → WrittenFor u w → WrittenFor t w
written_then t u w h k = record {
  fitting = λ strict e. k.fitting strict (h.fitting strict e);
  inner = k.inner ∙ h.inner;
  scoped = λ env a. k.scoped env (h.scoped env a);
  symbols = λ x. omega (arith, h.symbols x, k.symbols x);
  numbers = λ x. omega (arith, h.numbers x, k.numbers x);
  once = λ a. k.once (h.once a);
  targets = λ g a. k.targets g (h.targets g a);
  bodies = λ strict e a c d. kept_on (bodies a t) (bodies a u) (bodies a w) (h.bodies strict e a c d) (k.bodies strict (h.fitting strict e) a c d);
  frames = λ strict e x c. h.frames strict e x (k.frames strict (h.fitting strict e) x c);
  fixed = λ x. k.fixed x ∙ h.fixed x;
  declared = λ x c. h.declared x (k.declared x c);
}

-- ---- the same parts under another operator

same_or_less : (n : ℕ) → n ≤ n
same_or_less n = omega arith

pub junction_written : (a b : Tree) → WrittenFor (logical And a b) (logical Or a b) × WrittenFor (logical Or a b) (logical And a b)
unfolding has_inner Scoped scopes_by declared_in numbers early_names scope_declarations early_jumps targets_of
junction_written a b = (
  record {
    fitting = λ strict e. e;
    inner = refl;
    scoped = λ env s. s;
    symbols = λ x. same_or_less _;
    numbers = λ x. same_or_less _;
    once = λ e. e;
    targets = λ g e. e;
    bodies = λ strict e c d i. kept_itself (bodies c (logical And a b));
    frames = λ strict e x c. c;
    fixed = λ x. refl;
    declared = λ x c. c;
  },
  record {
    fitting = λ strict e. e;
    inner = refl;
    scoped = λ env s. s;
    symbols = λ x. same_or_less _;
    numbers = λ x. same_or_less _;
    once = λ e. e;
    targets = λ g e. e;
    bodies = λ strict e c d i. kept_itself (bodies c (logical Or a b));
    frames = λ strict e x c. c;
    fixed = λ x. refl;
    declared = λ x c. c;
  },
)

less_written : (a : Tree) → WrittenFor (beside_u LessThan a) (beside_u GreaterThan a) × WrittenFor (beside_u GreaterThan a) (beside_u LessThan a)
unfolding has_inner Scoped scopes_by declared_in numbers early_names scope_declarations early_jumps targets_of
less_written a = (
  record {
    fitting = λ strict e. e;
    inner = refl;
    scoped = λ env s. s;
    symbols = λ x. same_or_less _;
    numbers = λ x. same_or_less _;
    once = λ e. e;
    targets = λ g e. e;
    bodies = λ strict e c d i. kept_itself (bodies c (beside_u LessThan a));
    frames = λ strict e x c. c;
    fixed = λ x. refl;
    declared = λ x c. c;
  },
  record {
    fitting = λ strict e. e;
    inner = refl;
    scoped = λ env s. s;
    symbols = λ x. same_or_less _;
    numbers = λ x. same_or_less _;
    once = λ e. e;
    targets = λ g e. e;
    bodies = λ strict e c d i. kept_itself (bodies c (beside_u GreaterThan a));
    frames = λ strict e x c. c;
    fixed = λ x. refl;
    declared = λ x c. c;
  },
)

literal_written : (b : Bool) → WrittenFor (boolean b) (boolean (not b))
unfolding has_inner Scoped scopes_by declared_in numbers early_names scope_declarations early_jumps targets_of
literal_written true = record {
  fitting = λ strict e. e;
  inner = refl;
  scoped = λ env s. s;
  symbols = λ x. same_or_less _;
  numbers = λ x. same_or_less _;
  once = λ e. e;
  targets = λ g e. e;
  bodies = λ strict e c d i. kept_itself (bodies c (boolean true));
  frames = λ strict e x c. c;
  fixed = λ x. refl;
  declared = λ x c. c;
}
literal_written false = record {
  fitting = λ strict e. e;
  inner = refl;
  scoped = λ env s. s;
  symbols = λ x. same_or_less _;
  numbers = λ x. same_or_less _;
  once = λ e. e;
  targets = λ g e. e;
  bodies = λ strict e c d i. kept_itself (bodies c (boolean false));
  frames = λ strict e x c. c;
  fixed = λ x. refl;
  declared = λ x c. c;
}

-- ---- others written for both sides

abbrev pub sides : LogicalOperator → Sketch
sides o = under (Logical o) (part_of 0 ▹ part_of 1 ▹ end)

abbrev pub two : Tree → Tree → Parts
two a b = record { trees = a ▸ b ▸ none; lists = [] }

module _ (o : LogicalOperator) (a b x y : Tree) (l : WrittenFor a x) (r : WrittenFor b y) where
  pub both_written : WrittenFor (logical o a b) (logical o x y)
  both_written = record {
    fitting = λ strict e. let (p, q) = of_two strict o a b e in two_fit strict x y (l.fitting strict p) (r.fitting strict q);
    inner = new_inner still (two a b) (two x y) (tt, tt) (tt, tt) AsValue (sides o) refl (l, (r, tt));
    scoped = λ env s. new_scoped still (two a b) (two x y) (tt, tt) (tt, tt) AsValue (sides o) refl (l, (r, tt)) Read env s;
    symbols = λ s. new_symbols still (two a b) (two x y) (tt, tt) (tt, tt) AsValue (sides o) refl (l, (r, tt)) Read s;
    numbers = λ k. new_numbers still (two a b) (two x y) (tt, tt) (tt, tt) AsValue (sides o) refl (l, (r, tt)) k;
    once = λ e. new_once still (two a b) (two x y) (tt, tt) (tt, tt) AsValue (sides o) refl (l, (r, tt)) e;
    targets = λ g e. new_targets still (two a b) (two x y) (tt, tt) (tt, tt) AsValue (sides o) refl (l, (r, tt)) g e;
    bodies = λ strict e c d i. let (p, q) = of_two strict o a b e in subst (λ h. BodiesKept (bodies h (logical o a b)) (bodies h (logical o x y))) (at_quiet c d i) (new_bodies still (two a b) (two x y) (tt, tt) (tt, tt) AsValue (sides o) refl (l, (r, tt)) strict (p, (q, tt)) c);
    frames = λ strict e. let (p, q) = of_two strict o a b e in new_frames still (two a b) (two x y) (tt, tt) (tt, tt) AsValue (sides o) refl (l, (r, tt)) strict (p, (q, tt));
    fixed = λ s. sym (new_fixed still (two a b) (two x y) (tt, tt) (tt, tt) AsValue (sides o) refl (l, (r, tt)) s);
    declared = λ s c. new_declared still (two a b) (two x y) (tt, tt) (tt, tt) AsValue (sides o) refl (l, (r, tt)) s c;
  }

-- ---- all

reversed_written : (p o : BinaryOperator) (a : Tree) → reversed p ≡ Some o → WrittenFor (beside_u p a) (beside_u o a)
reversed_written LessThan o a e = let same : GreaterThan ≡ o = cc e in subst (λ x. WrittenFor (beside_u LessThan a) (beside_u x a)) same (less_written a).0
reversed_written GreaterThan o a e = let same : LessThan ≡ o = cc e in subst (λ x. WrittenFor (beside_u GreaterThan a) (beside_u x a)) same (less_written a).1
reversed_written p o a e = absurd (cc e)

leaf_written : (s : Seat) (t : Tree) → WrittenFor t (negated_leaf (reverse_of t) (boolean_value t) t (not_of s t))
leaf_written s t = go (reverse_of t) refl (boolean_value t) refl
  where
    go : (o : Option BinaryOperator) → reverse_of t ≡ o → (b : Option Bool) → boolean_value t ≡ b → WrittenFor t (negated_leaf o b t (not_of s t))
    go (Some o) h b k =
        let r = reverses t o h in
        subst (λ x. WrittenFor x (binary o (part x 0) (part x 1))) (sym r.shape) (reversed_written r.from o r.operand r.turns)
    go None h (Some b) k = subst (λ x. WrittenFor x (boolean (not b))) (sym (boolean_is t b k)) (literal_written b)
    go None h None k = negation_written s t

mutual
  pub whole_written : (t : Tree) (s : Seat) → WrittenFor t (whole s t)
  whole_written (node (shape.LogicalExpression And) [] zero (a ▸ b ▸ none)) s =
      let x = whole (left_operand_seat Or s) a in
      let y = whole (right_operand_seat Or s) b in
      written_then (logical And a b) (logical Or a b) (logical Or x y) (junction_written a b).0 (both_written Or a b x y (whole_written a (left_operand_seat Or s)) (whole_written b (right_operand_seat Or s)))
  whole_written (node (shape.LogicalExpression Or) [] zero (a ▸ b ▸ none)) s =
      let x = whole (left_operand_seat And s) a in
      let y = whole (right_operand_seat And s) b in
      written_then (logical Or a b) (logical And a b) (logical And x y) (junction_written a b).1 (both_written And a b x y (whole_written a (left_operand_seat And s)) (whole_written b (right_operand_seat And s)))
  whole_written (node shape.SequenceExpression [] zero (node shape.Listed [] zero (a ▸ (b ▸ ts)) ▸ none)) s = parts_written (b ▸ ts) a none s
  whole_written t s = leaf_written s t

  -- a sequence with its last part written so
  parts_written : (us : Trees) (p : Tree) (ps : Trees) (s : Seat) → WrittenFor (sequence (p ▸ append ps us)) (sequence (p ▸ append ps (last_by not_of (branch_seat s) us)))
  parts_written none p ps s = unchanged (sequence (p ▸ append ps none))
  parts_written (q ▸ none) p ps s = last_written p ps q (whole (branch_seat s) q) (whole_written q (branch_seat s))
  parts_written (q ▸ (r ▸ us)) p ps s =
      subst (λ x. WrittenFor (sequence (p ▸ x)) (sequence (p ▸ append ps (q ▸ last_by not_of (branch_seat s) (r ▸ us))))) (append_one ps q (r ▸ us))
      (subst (λ x. WrittenFor (sequence (p ▸ append (append ps (q ▸ none)) (r ▸ us))) (sequence (p ▸ x))) (append_one ps q (last_by not_of (branch_seat s) (r ▸ us))) (parts_written (r ▸ us) p (append ps (q ▸ none)) s))

pub lightest_written : (s : Seat) (t : Tree) → WrittenFor t (lightest s t)
lightest_written s t = go (nat_lt (weight (Expr s) (not_of s t)) (weight (Expr s) (whole s t)))
  where
    go : (b : Bool) → WrittenFor t (if b then not_of s t else whole s t)
    go true = negation_written s t
    go false = whole_written t s

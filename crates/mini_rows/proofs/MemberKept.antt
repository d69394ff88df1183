-- What a row of members writes means the same where that is so which is known of the body, is built anew of the same parts, and is lighter.
use Rattle.std.proofs.Common.{◌≡◌, ◌<◌, ◌≤◌, ◌+◌, ℕ, suc, Bool, true, false, List, [], ◌∷◌, refl, sym, ap, subst₂, ◌∙◌, inl, inr, arith}
use Rattle.std.specs.Prelude.{◌++◌, Option, Some, nat_eq}
use Rattle.mini_model.specs.declared.kind.PropertyKind.{PropertyKind}
use Rattle.mini_model.specs.declared.operator.AssignmentOperator.{AssignmentOperator}
use Rattle.mini_model.specs.declared.operator.AssignmentOperator.TheVariants as assigning
use Rattle.mini_model.specs.declared.operator.AssignmentOperator.TheVariants.{Assign}
use Rattle.mini_model.specs.declared.operator.BinaryOperator.{BinaryOperator}
use Rattle.mini_model.specs.declared.operator.LogicalOperator.{LogicalOperator}
use Rattle.mini_model.specs.declared.operator.LogicalOperator.TheVariants.{Or, And, Coalesce}
use Rattle.mini_model.specs.declared.place.Position.TheVariants.{Expr}
use Rattle.mini_model.specs.declared.seat.Seat.{Seat}
use Rattle.mini_model.specs.declared.shape.Shape.TheVariants as shape
use Rattle.mini_model.specs.Tree.{Tree, Trees, none, ◌▸◌, logical, conditional, shape_of}
use Rattle.mini_model.specs.Paths.{append}
use Rattle.mini_model.specs.Position.{left_operand_seat, conditional_level}
use Rattle.mini_model.specs.Weight.{outline, outlines, weight}
use Rattle.mini_accept.specs.WellShaped.{a_target, Slot, one, fits}
use Rattle.mini_laws.specs.Bodies.{Around, below, bodies, bodies_from, arrow_kind}
use Rattle.mini_laws.specs.Demand.{Demand}
use Rattle.mini_laws.specs.DeclaredNames.{has_inner}
use Rattle.mini_laws.specs.Naming.{summary}
use Rattle.mini_laws.specs.Same.{Same}
use Rattle.mini_laws.specs.State.{Environment}
use Rattle.mini_laws.specs.Value.{nothing}
use Rattle.mini_kept.specs.Frames.{frames, frames_from, property_below}
use Rattle.mini_kept.specs.Without.{Assured, Steadies}
use Rattle.mini_laws.proofs.Congruent.{weaker, no_within}
use Rattle.mini_laws.proofs.Simulation.{within_refl}
use Rattle.mini_kept.proofs.Expressions.{expression, of_conditional, expression_taken}
use Rattle.mini_rows.specs.Arranged.{KeptAt, Vanishes}
use Rattle.mini_rows.specs.Choices.{Key, Named, Spelled, Numbered, member_on, computing, deciding, keeps_parentheses}
use Rattle.mini_rows.specs.Lists.{sequence}
use Rattle.mini_rows.specs.Members.{this, Object, OfThis, OfName, object, is_kept, are_left, is_ready, Index, Written, Held, member_at, is_kept_index, is_ready_index, MemberRow}
use Rattle.mini_rows.specs.Sketches.{Logical, Binary, Conditional, Sequence, Sketch, part, under, end, ◌▹◌, list, no_items, item, items}
use Rattle.mini_rows.specs.Spellings.{binary, assignment}
use Rattle.mini_rows.specs.Steady.{bindings, all_bindings}
use Rattle.mini_rows.specs.Unused.{resolved}
use Rattle.mini_rows.proofs.ArrangedExpressions.{expressions_arranged_freely}
use Rattle.mini_rows.proofs.ChoiceLawful.{member_reads, member_vanishes, retargeted_tree, first_dropped, assigns_first}
use Rattle.mini_rows.proofs.ChoiceIndexed.{indexed_fit, indexed_falls}
use Rattle.mini_rows.proofs.ChoiceMembers.{member_value_same}
use Rattle.mini_rows.proofs.ChoiceRuns.{conditional_tells, logical_tells, assignment_tells}
use Rattle.mini_rows.proofs.ChoiceShapes.{choice_taken, of_two, of_member_assignment, member_assignment_fits}
use Rattle.mini_rows.proofs.ChoiceWeights.{assignment_marks, member_heavy, computing_member_falls, last_falls}
use Rattle.mini_rows.proofs.MemberRuns.{LeftBy, remains, left_member, left_parts, this_value, member_decides, last_decides, chosen, settled}
use Rattle.mini_rows.proofs.SequenceEnds.{last_fits}
use Rattle.mini_rows.proofs.SpellShapes.{a_logical, a_conditional, an_assignment, Formed}
use Rattle.mini_rows.proofs.WriteMeaning.{same_there, same_where}

-- ---- what each row keeps

pub record Keeps (V : Assured) (s : Seat) (n w : Tree) : Type 0 where
  pub same : (e : Environment) → Steadies V e → (q : Demand) → Same e nothing V.initial q n w
  pub kept : KeptAt (Expr s) n w
  pub formed : Formed n w
  pub fit : (strict : Bool) (c : Slot) → fits strict c n ≡ true → fits strict c w ≡ true
  pub bodies : (a : Around) → bodies a n ≡ bodies a w
  pub frames : (k : Option PropertyKind) → frames k n ≡ frames k w
  pub bound : (k : ℕ) → bindings k w ≤ bindings k n
  pub lighter : weight (Expr s) w < weight (Expr s) n
  pub read : summary n ≡ summary w
  pub kind : arrow_kind (shape_of n) ≡ arrow_kind (shape_of w)
  pub outlined : outline n ≡ outline w

-- what means the same from any state does from these
from_any : (V : Assured) (e : Environment) (q : Demand) (n w : Tree) → Same e nothing nothing q n w → Same e nothing V.initial q n w
from_any V e q n w same = weaker e nothing nothing nothing V.initial (within_refl nothing) (no_within V.initial) q n w same

-- ---- a member of such an object leaves nothing behind

vanishes : (of : Object) (j : Key) → Vanishes (member_on (object of) j)
unfolding has_inner
vanishes OfThis (Named s) = record { inner = refl; fixed = λ y. refl }
vanishes OfThis (Spelled s) = record { inner = refl; fixed = λ y. refl }
vanishes OfThis (Numbered n) = record { inner = refl; fixed = λ y. refl }
vanishes (OfName spelling k) j = member_vanishes (resolved spelling k) j

no_bodies : (of : Object) (j : Key) (a : Around) → bodies a (member_on (object of) j) ≡ []
no_bodies OfThis (Named s) a = refl
no_bodies OfThis (Spelled s) a = refl
no_bodies OfThis (Numbered n) a = refl
no_bodies (OfName spelling k) (Named s) a = refl
no_bodies (OfName spelling k) (Spelled s) a = refl
no_bodies (OfName spelling k) (Numbered n) a = refl

no_frames : (of : Object) (j : Key) (q : Option PropertyKind) → frames q (member_on (object of) j) ≡ []
no_frames OfThis (Named s) q = refl
no_frames OfThis (Spelled s) q = refl
no_frames OfThis (Numbered n) q = refl
no_frames (OfName spelling k) (Named s) q = refl
no_frames (OfName spelling k) (Spelled s) q = refl
no_frames (OfName spelling k) (Numbered n) q = refl

-- and so where its key stands in brackets
index_vanishes : (of : Object) (j : Index) → Vanishes (member_at (object of) j)
unfolding has_inner
index_vanishes of (Written j) = vanishes of j
index_vanishes OfThis (Held OfThis) = record { inner = refl; fixed = λ y. refl }
index_vanishes OfThis (Held (OfName s i)) = record { inner = refl; fixed = λ y. refl }
index_vanishes (OfName spelling k) (Held OfThis) = record { inner = refl; fixed = λ y. refl }
index_vanishes (OfName spelling k) (Held (OfName s i)) = record { inner = refl; fixed = λ y. refl }

index_bodies : (of : Object) (j : Index) (a : Around) → bodies a (member_at (object of) j) ≡ []
index_bodies of (Written j) a = no_bodies of j a
index_bodies OfThis (Held OfThis) a = refl
index_bodies OfThis (Held (OfName s i)) a = refl
index_bodies (OfName spelling k) (Held OfThis) a = refl
index_bodies (OfName spelling k) (Held (OfName s i)) a = refl

index_frames : (of : Object) (j : Index) (q : Option PropertyKind) → frames q (member_at (object of) j) ≡ []
index_frames of (Written j) q = no_frames of j q
index_frames OfThis (Held OfThis) q = refl
index_frames OfThis (Held (OfName s i)) q = refl
index_frames (OfName spelling k) (Held OfThis) q = refl
index_frames (OfName spelling k) (Held (OfName s i)) q = refl

-- ---- lists with nothing in some places

nil_right : {A : Type 0} (xs : List A) → xs ++ [] ≡ xs
nil_right [] = refl
nil_right (x ∷ xs) = ap (λ ys. x ∷ ys) (nil_right xs)

module _ {A : Type 0} (m m' m'' : List A) (e : m ≡ []) (e' : m' ≡ []) (e'' : m'' ≡ []) where
  -- what stands behind one of two
  one_goes : (b : List A) → m ++ ((m' ++ (b ++ [])) ++ []) ≡ m'' ++ (b ++ [])
  one_goes b = (λ i. e i ++ ((e' i ++ (b ++ [])) ++ [])) ∙ nil_right (b ++ []) ∙ sym (λ i. e'' i ++ (b ++ []))

  -- and so of two
  two_go : (a b c : List A) → a ++ ((m ++ (b ++ [])) ++ ((m' ++ (c ++ [])) ++ [])) ≡ m'' ++ ((a ++ (b ++ (c ++ []))) ++ [])
  two_go a b c =
      (λ i. a ++ ((e i ++ (b ++ [])) ++ ((e' i ++ (c ++ [])) ++ [])))
      ∙ (λ i. a ++ (nil_right b i ++ nil_right (nil_right c i) i))
      ∙ sym ((λ i. e'' i ++ ((a ++ (b ++ (c ++ []))) ++ [])) ∙ nil_right (a ++ (b ++ (c ++ []))) ∙ (λ i. a ++ (b ++ nil_right c i)))

alone_goes : {A : Type 0} (xs ys : List A) → xs ≡ [] → xs ++ (ys ++ []) ≡ ys
alone_goes xs ys e = (λ i. e i ++ (ys ++ [])) ∙ nil_right ys

-- another last part
bodies_at : (ps : Trees) (t u : Tree) (around : ℕ → Around) (i : ℕ) → ((i : ℕ) → bodies (around i) t ≡ bodies (around i) u) → bodies_from around i (append ps (t ▸ none)) ≡ bodies_from around i (append ps (u ▸ none))
bodies_at none t u around i h = ap (λ xs. xs ++ []) (h i)
bodies_at (p ▸ ps) t u around i h = ap (λ xs. bodies (around i) p ++ xs) (bodies_at ps t u around (suc i) h)

frames_at : (ps : Trees) (t u : Tree) (kind : ℕ → Option PropertyKind) (i : ℕ) → ((i : ℕ) → frames (kind i) t ≡ frames (kind i) u) → frames_from kind i (append ps (t ▸ none)) ≡ frames_from kind i (append ps (u ▸ none))
frames_at none t u kind i h = ap (λ xs. xs ++ []) (h i)
frames_at (p ▸ ps) t u kind i h = ap (λ xs. frames (kind i) p ++ xs) (frames_at ps t u kind (suc i) h)

-- names are declared in them as often, part by part
declared_at : (ps : Trees) (t : Tree) (k : ℕ) → all_bindings k (append ps (t ▸ none)) ≡ all_bindings k ps + bindings k t
declared_at none t k = omega arith
declared_at (p ▸ ps) t k = omega (arith, declared_at ps t k)

-- ---- 38

deciding_falls : (o : LogicalOperator) (s : Seat) (t : Tree) (j : Key) (b : Tree) → weight (Expr s) (assignment (deciding o) (member_on t j) b) < weight (Expr s) (logical o (member_on t j) (assignment Assign (member_on t j) b))
deciding_falls Or s t j b = omega (arith, assignment_marks s assigning.LogicalOr (outlines (member_on t j ▸ b ▸ none)), member_heavy (left_operand_seat Or s) t j)
deciding_falls And s t j b = omega (arith, assignment_marks s assigning.LogicalAnd (outlines (member_on t j ▸ b ▸ none)), member_heavy (left_operand_seat And s) t j)
deciding_falls Coalesce s t j b = omega (arith, assignment_marks s assigning.LogicalNullish (outlines (member_on t j ▸ b ▸ none)), member_heavy (left_operand_seat Coalesce s) t j)

-- a member may be assigned to wherever it may be read
assigned_to : (strict : Bool) (t : Tree) (j : Key) → fits strict expression (member_on t j) ≡ true → fits strict (one a_target) (member_on t j) ≡ true
assigned_to strict t (Named s) e = e
assigned_to strict t (Spelled s) e = e
assigned_to strict t (Numbered n) e = e

module _ (V : Assured) (s : Seat) (of : Object) (j : Key) (o : LogicalOperator) (known : is_kept V of ≡ true) where
  abbrev m : Tree
  m = member_on (object of) j

  decided_fits : (w b : Tree) → ((strict : Bool) → fits strict expression w ≡ true → fits strict expression b ≡ true) → (strict : Bool) (c : Slot) → fits strict c (logical o m w) ≡ true → fits strict c (assignment (deciding o) m b) ≡ true
  decided_fits w b f strict c e =
      let (here, fit) = choice_taken strict c (a_logical o) (m ▸ w ▸ none) refl e in
      let (first, second) = of_two strict m w fit in
      expression_taken strict c (assignment (deciding o) m b) here (member_assignment_fits strict (deciding o) (object of) j b (assigned_to strict (object of) j first) (f strict second))

  decided_formed : (w b : Tree) → Formed (logical o m w) (assignment (deciding o) m b)
  decided_formed w b = record { first = a_logical o; second = an_assignment (deciding o); parts = m ▸ w ▸ none; others = m ▸ b ▸ none; read = refl; made = refl; optional = λ x. absurd (cc x) }

  deciding_keeps : (b : Tree) → Keeps V s (logical o m (assignment Assign m b)) (assignment (deciding o) m b)
  deciding_keeps b = record {
    same = λ e z q. from_any V e q _ _ (same_there e (logical o m (assignment Assign m b)) (assignment (deciding o) m b) (logical_tells o m (assignment Assign m b)) (assignment_tells (deciding o) m b) (member_decides e (object of) (LeftBy of) (remains V e z of known) j (left_member of j) o b) q);
    kept =
        retargeted_tree (deciding o) m b (member_reads (object of) j) s (logical o m (assignment Assign m b)) (expressions_arranged_freely first_dropped (record { trees = m ▸ b ▸ none; lists = [] }) (tt, tt, (vanishes of j, tt)) (under (Logical o) (part 0 ▹ assigns_first (part 1) ▹ end)) (assigns_first (part 1)) refl s (logical o m (assignment Assign m b)) (assignment Assign m b) refl refl);
    formed = decided_formed (assignment Assign m b) b;
    fit = decided_fits (assignment Assign m b) b (λ strict e. (of_member_assignment strict (object of) j b e).1);
    bodies = λ a. one_goes _ _ _ (no_bodies of j _) (no_bodies of j _) (no_bodies of j _) (bodies _ b);
    frames = λ k. one_goes _ _ _ (no_frames of j _) (no_frames of j _) (no_frames of j _) (frames _ b);
    bound = λ i. omega arith;
    lighter = deciding_falls o s (object of) j b;
    read = refl;
    kind = refl;
    outlined = refl;
  }

  -- of a sequence that ends in it
  abbrev in_order : Sketch → Sketch
  in_order last = under Sequence (list (item (part 1) (items 0 (item last no_items))) ▹ end)

  last_bodies : (p : Tree) (ps : Trees) (b : Tree) (a : Around) → bodies a (sequence (p ▸ append ps (assignment Assign m b ▸ none))) ≡ bodies a (sequence (p ▸ append ps (b ▸ none)))
  last_bodies p ps b a = ap (λ xs. xs ++ []) (bodies_at (p ▸ ps) (assignment Assign m b) b (below (below a shape.SequenceExpression none 0) shape.Listed none) 0 (λ i. alone_goes _ _ (no_bodies of j _)))

  last_frames : (p : Tree) (ps : Trees) (b : Tree) (k : Option PropertyKind) → frames k (sequence (p ▸ append ps (assignment Assign m b ▸ none))) ≡ frames k (sequence (p ▸ append ps (b ▸ none)))
  last_frames p ps b k = ap (λ xs. xs ++ []) (frames_at (p ▸ ps) (assignment Assign m b) b (property_below shape.Listed) 0 (λ i. alone_goes _ _ (no_frames of j _)))

  -- the member before it goes
  before_goes : {A : Type 0} (xs ys zs ws : List A) → xs ≡ [] → ws ≡ [] → ys ≡ zs → xs ++ (ys ++ []) ≡ ws ++ (zs ++ [])
  before_goes xs ys zs ws e f g = (λ i. e i ++ (g i ++ [])) ∙ sym (λ i. f i ++ (zs ++ []))

  last_keeps : (p : Tree) (ps : Trees) (b : Tree) → are_left of (p ▸ ps) ≡ true → keeps_parentheses o s ≡ true → Keeps V s (logical o m (sequence (p ▸ append ps (assignment Assign m b ▸ none)))) (assignment (deciding o) m (sequence (p ▸ append ps (b ▸ none))))
  last_keeps p ps b left seated =
      let w = sequence (p ▸ append ps (assignment Assign m b ▸ none)) in
      let v = sequence (p ▸ append ps (b ▸ none)) in record {
        same = λ e z q. from_any V e q _ _ (same_there e (logical o m w) (assignment (deciding o) m v) (logical_tells o m w) (assignment_tells (deciding o) m v) (last_decides e (object of) (LeftBy of) (remains V e z of known) j (left_member of j) o p ps (left_parts of p ps left) b) q);
        kept = retargeted_tree (deciding o) m v (member_reads (object of) j) s (logical o m w) (expressions_arranged_freely first_dropped (record { trees = m ▸ p ▸ b ▸ none; lists = ps ∷ [] }) (tt, tt, (vanishes of j, tt)) (under (Logical o) (part 0 ▹ in_order (assigns_first (part 2)) ▹ end)) (assigns_first (in_order (part 2))) refl s (logical o m w) (assignment Assign m v) refl refl);
        formed = decided_formed w v;
        fit = decided_fits w v (λ strict e. last_fits strict p ps (assignment Assign m b) e b (λ f. (of_member_assignment strict (object of) j b f).1));
        bodies = λ a. before_goes _ _ _ _ (no_bodies of j _) (no_bodies of j _) (last_bodies p ps b (below a (shape.LogicalExpression o) none 1));
        frames = λ k. before_goes _ _ _ _ (no_frames of j _) (no_frames of j _) (last_frames p ps b (property_below (shape.LogicalExpression o) 1));
        bound = λ i. omega (arith, declared_at ps (assignment Assign m b) i, declared_at ps b i);
        lighter = last_falls o s m p ps b seated (λ q. member_heavy q (object of) j);
        read = refl;
        kind = refl;
        outlined = refl;
      }

-- ---- 35 of `this`

module _ (V : Assured) (s : Seat) (j : Key) (known : V.has_this ≡ true) where
  abbrev this_member : Tree
  this_member = member_on this j

  computing_keeps : (o : BinaryOperator) (c : AssignmentOperator) (b : Tree) → computing o ≡ Some c → Keeps V s (assignment Assign this_member (binary o this_member b)) (assignment c this_member b)
  computing_keeps o c b computes =
      let n = assignment Assign this_member (binary o this_member b) in record {
        same = λ e z q. from_any V e q _ _ (same_there e n (assignment c this_member b) (assignment_tells Assign this_member (binary o this_member b)) (assignment_tells c this_member b) (member_value_same e this (λ y. inr (y.self, this_value e (z.has_this known) y)) o c computes j b) q);
        kept = retargeted_tree c this_member b (member_reads this j) s n (expressions_arranged_freely first_dropped (record { trees = this_member ▸ b ▸ none; lists = [] }) (tt, tt, (vanishes OfThis j, tt)) (assigns_first (under (Binary o) (part 0 ▹ part 1 ▹ end))) (assigns_first (part 1)) refl s n (assignment Assign this_member b) refl refl);
        formed = record { first = an_assignment Assign; second = an_assignment c; parts = this_member ▸ binary o this_member b ▸ none; others = this_member ▸ b ▸ none; read = refl; made = refl; optional = λ x. absurd (cc x) };
        fit = λ strict d e.
            let (here, fit) = choice_taken strict d (an_assignment Assign) (this_member ▸ binary o this_member b ▸ none) refl e in
            let (target, rest) = of_member_assignment strict this j (binary o this_member b) fit in
            expression_taken strict d (assignment c this_member b) here (member_assignment_fits strict c this j b target (of_two strict this_member b rest).1);
        bodies = λ a. one_goes _ _ _ (no_bodies OfThis j _) (no_bodies OfThis j _) (no_bodies OfThis j _) (bodies _ b);
        frames = λ k. one_goes _ _ _ (no_frames OfThis j _) (no_frames OfThis j _) (no_frames OfThis j _) (frames _ b);
        bound = λ i. omega arith;
        lighter = computing_member_falls o c computes s this j b;
        read = refl;
        kind = refl;
        outlined = refl;
      }

-- ---- 45

module _ (V : Assured) (s : Seat) (of : Object) (j : Index) (known : is_kept V of ≡ true) (held : is_kept_index V j ≡ true) where
  abbrev target : Tree
  target = member_at (object of) j

  choosing_keeps : (a b c : Tree) → is_ready V of a ≡ true → is_ready_index V j a ≡ true → nat_eq s.level conditional_level ≡ false → Keeps V s (conditional a (assignment Assign target b) (assignment Assign target c)) (assignment Assign target (conditional a b c))
  choosing_keeps a b c ready soon seated =
      let yes = assignment Assign target b in
      let no = assignment Assign target c in
      let n = conditional a yes no in
      let w = assignment Assign target (conditional a b c) in record {
        same = λ e z q. same_where e V.initial n w (conditional_tells a yes no) (assignment_tells Assign target (conditional a b c)) (λ y i. chosen e target a b c y (settled V e z a y i of j known held ready soon)) q;
        kept = expressions_arranged_freely first_dropped (record { trees = target ▸ a ▸ b ▸ c ▸ none; lists = [] }) (tt, tt, (index_vanishes of j, tt)) (under Conditional (part 1 ▹ assigns_first (part 2) ▹ assigns_first (part 3) ▹ end)) (assigns_first (under Conditional (part 1 ▹ part 2 ▹ part 3 ▹ end))) refl s n w refl refl;
        formed = record { first = a_conditional; second = an_assignment Assign; parts = a ▸ yes ▸ no ▸ none; others = target ▸ conditional a b c ▸ none; read = refl; made = refl; optional = λ x. absurd (cc x) };
        fit = λ strict d e.
            let (here, (test, first, second)) = of_conditional strict d a yes no e in
            expression_taken strict d w here (indexed_fit strict target a b c test first second);
        bodies = λ x. two_go _ _ _ (index_bodies of j _) (index_bodies of j _) (index_bodies of j _) (bodies _ a) (bodies _ b) (bodies _ c);
        frames = λ k. two_go _ _ _ (index_frames of j _) (index_frames of j _) (index_frames of j _) (frames _ a) (frames _ b) (frames _ c);
        bound = λ i. omega arith;
        lighter = indexed_falls s seated target a b c;
        read = refl;
        kind = refl;
        outlined = refl;
      }

-- ---- all

pub keeps : (V : Assured) (s : Seat) (n w : Tree) → MemberRow V s n w → Keeps V s n w
keeps V s n w (inl r) = subst₂ (Keeps V s) (sym r.shape) (sym r.written) (deciding_keeps V s r.of r.key r.operator r.kept r.b)
keeps V s n w (inr (inl r)) = subst₂ (Keeps V s) (sym r.shape) (sym r.written) (last_keeps V s r.of r.key r.operator r.kept r.first r.others r.b r.left r.seated)
keeps V s n w (inr (inr (inl r))) = subst₂ (Keeps V s) (sym r.shape) (sym r.written) (computing_keeps V s r.key r.kept r.operator r.combined r.b r.computes)
keeps V s n w (inr (inr (inr r))) = subst₂ (Keeps V s) (sym r.shape) (sym r.written) (choosing_keeps V s r.of r.index r.kept r.held r.a r.b r.c r.ready r.soon r.seated)

-- The declaration of a name that goes, with a `switch` or a `for` after it whose first part reads that name before all else, and what
-- is written for them: what they have.
use Rattle.std.specs.Prelude.{ℕ, ◌≤◌, ◌≡◌, refl, ◌||◌, Bool, true, false, List, [], ◌∷◌}
use Rattle.std.proofs.Common.{ap, ◌∙◌, sym, arith, true≢false}
use Rattle.mini_model.specs.declared.kind.VariableDeclarationKind.{VariableDeclarationKind}
use Rattle.mini_model.specs.declared.name.Name.{Name}
use Rattle.mini_model.specs.declared.shape.Shape.{Shape}
use Rattle.mini_model.specs.declared.shape.Shape.TheVariants as shape
use Rattle.mini_model.specs.Tree.{Tree, Trees, node, none, ◌▸◌, shape_of, identifier}
use Rattle.mini_laws.specs.declared.names.Declared.TheVariants as declared
use Rattle.mini_laws.specs.declared.names.Use.TheVariants.{Read}
use Rattle.mini_laws.specs.DeclaredNames.{names_of, has_inner, any_inner}
use Rattle.mini_laws.specs.Early.{own_declarations, clashing}
use Rattle.mini_laws.specs.Fixity.{fixed_by_any}
use Rattle.mini_laws.specs.Bodies.{bodies_from}
use Rattle.mini_laws.specs.Naming.{is_lexical}
use Rattle.mini_laws.specs.Scoped.{Unmentioned}
use Rattle.mini_laws.specs.Symbols.{declared as declared_in, times}
use Rattle.mini_laws.proofs.Changes.{times_both}
use Rattle.mini_kept.specs.AlikeBodies.{BodiesKept}
use Rattle.mini_kept.specs.Carried.{numbers, all_numbers}
use Rattle.mini_kept.specs.Declaring.{declared_all}
use Rattle.mini_kept.specs.Frames.{FramesKept}
use Rattle.mini_kept.specs.KeepsNames.{count_of}
use Rattle.mini_kept.specs.Loosely.{symbol}
use Rattle.mini_kept.proofs.Below.{both_counts}
use Rattle.mini_kept.proofs.Unplaced.{as_body}
use Rattle.mini_terms.specs.Reading.{is_plain_part_by, is_plain_part, first_of, are_plain_parts}
use Rattle.mini_rows.specs.Sketches.{shape_by, Asked, AsWholeItem, AsValue, Leap}
use Rattle.mini_rows.specs.Unused.{names, any_names, declared_among, declared_left}
use Rattle.mini_rows.proofs.Arranging.{All, Any, Local}
use Rattle.mini_rows.proofs.ArrangedNames.{ScopedAs, scoped_local, symbol_times, symbols_summed, number_times, numbers_summed, InnerIf, inner_local, Once, once_local, HasTarget, Aimed, aimed_local}
use Rattle.mini_rows.proofs.ArrangedBodies.{quiet, HasBodies, bodies_local, HasFrames, frames_local, Among, Declares, declares_local, FixedBy, fixed_local, rank}
use Rattle.mini_rows.proofs.ArrangedValues.{is_value}
use Rattle.mini_rows.proofs.DeclaredKept.{Named, unmentioned_left, scoped_both, symbols_both, numbers_both, inner_both, once_both, targets_both, frames_both, bodies_both, declares_both, fixed_both, inner_back, fixed_back, named_names, named_declares}
use Rattle.mini_rows.proofs.ListKeptHeads.{Seat, Loop, Choice, seated, rest, inner_down, inner_up, fixed_down, fixed_up, declares_down, declares_up, frames_beside, frames_down, frames_up, bodies_down, bodies_up, numbers_beside, jumps_beside, aimed_down, aimed_up, declared_beside, names_beside, value_unlexical, once_down, once_up, ScopedBeside, scoped_down, scoped_up, symbols_beside, seated_symbols, seated_hoists, seated_body, seated_as_body}
use Rattle.mini_rows.proofs.SingleUse.{Lead, Not, Plus, Minus, Tilde, Typing, Emptying, Beside, Deciding, Choosing, Passing, Called, Making, Waiting, Member, Keyed, Linking, Holding, Against, Given, Filling, Keying, Interpolating, Following, Branching, Failing, Storing, Targeted, Changing, Gathering, Fielding, Spreading, Bracketing, head_of, Stands, Step, led, is_end, Well, Spared, swapped, taken, swapped_sum, unnamed, found, by_front, swapped_back, ends_short}
use Rattle.mini_rows.proofs.UnusedKept.{LeavesThere, NamesThere, DeclaresThere}
use Rattle.mini_rows.proofs.UnusedNames.{unmentioned}

-- ---- a path leads to an expression

value_by : (h : Shape) (b : Bool) → is_plain_part_by h b ≡ true → is_value h ≡ true
value_by shape.Listed b e = absurd (true≢false (sym e))
value_by shape.BlockStatement b e = absurd (true≢false (sym e))
value_by shape.LabeledStatement b e = absurd (true≢false (sym e))
value_by shape.IfStatement b e = absurd (true≢false (sym e))
value_by shape.SwitchStatement b e = absurd (true≢false (sym e))
value_by shape.SwitchCase b e = absurd (true≢false (sym e))
value_by shape.TryStatement b e = absurd (true≢false (sym e))
value_by shape.CatchClause b e = absurd (true≢false (sym e))
value_by shape.WhileStatement b e = absurd (true≢false (sym e))
value_by shape.DoWhileStatement b e = absurd (true≢false (sym e))
value_by shape.ForStatement b e = absurd (true≢false (sym e))
value_by shape.ForInStatement b e = absurd (true≢false (sym e))
value_by shape.ForOfStatement b e = absurd (true≢false (sym e))
value_by (shape.VariableDeclaration k) b e = absurd (true≢false (sym e))
value_by shape.VariableDeclarator b e = absurd (true≢false (sym e))
value_by (shape.Function true g ds) b e = absurd (true≢false (sym e))
value_by (shape.Class true) b e = absurd (true≢false (sym e))
value_by shape.FunctionBody b e = absurd (true≢false (sym e))
value_by shape.ImportDeclaration b e = absurd (true≢false (sym e))
value_by shape.ImportSpecifier b e = absurd (true≢false (sym e))
value_by shape.ImportDefaultSpecifier b e = absurd (true≢false (sym e))
value_by shape.ImportNamespaceSpecifier b e = absurd (true≢false (sym e))
value_by shape.ExportNamedDeclaration b e = absurd (true≢false (sym e))
value_by shape.ExportDefaultDeclaration b e = absurd (true≢false (sym e))
value_by shape.BindingIdentifier b e = absurd (true≢false (sym e))
value_by shape.ObjectPattern b e = absurd (true≢false (sym e))
value_by shape.ArrayPattern b e = absurd (true≢false (sym e))
value_by (shape.BindingProperty p c) b e = absurd (true≢false (sym e))
value_by shape.RestElement b e = absurd (true≢false (sym e))
value_by shape.AssignmentPattern b e = absurd (true≢false (sym e))
value_by shape.ObjectAssignmentTarget b e = absurd (true≢false (sym e))
value_by shape.ArrayAssignmentTarget b e = absurd (true≢false (sym e))
value_by shape.AssignmentTargetPropertyIdentifier b e = absurd (true≢false (sym e))
value_by (shape.AssignmentTargetPropertyProperty c) b e = absurd (true≢false (sym e))
value_by shape.InnerExpression b e = absurd (true≢false (sym e))
value_by (shape.Function false g ds) b e = refl
value_by (shape.Class false) b e = refl
value_by h b e = refl

pub plain_value : (t : Tree) → is_plain_part t ≡ true → is_value (shape_of t) ≡ true
plain_value (node h xs n ts) e = value_by h (first_of (are_plain_parts ts)) e

pub led_value : (ss : List Step) → Well AsValue ss → (t : Tree) → is_value (shape_of t) ≡ true → is_value (shape_of (led ss t)) ≡ true
led_value [] w t e = e
led_value (s ∷ ss) w t e = by s.lead (is_end ss) w.0
  where
    by : (l : Lead) (b : Bool) → Stands AsValue l b → is_value (shape_by (head_of l)) ≡ true
    by Not b s = refl
    by Plus b s = refl
    by Minus b s = refl
    by Tilde b s = refl
    by Typing b s = refl
    by Emptying b s = refl
    by (Beside o) b s = refl
    by (Deciding o) b s = refl
    by Choosing b s = refl
    by Passing b s = refl
    by (Called o) b s = refl
    by Making b s = refl
    by (Waiting d) b s = refl
    by (Member o) b s = refl
    by (Keyed o) b s = refl
    by Linking b s = refl
    by Holding b s = refl
    by Gathering b s = refl
    by Spreading b s = refl
    by Bracketing b s = refl
    by (Against o a) b s = refl
    by (Given o a) b s = refl
    by (Filling a) b s = refl
    by (Keying o a) b s = refl
    by (Interpolating a) b s = refl
    by (Following o a) b s = refl
    by (Branching a) b s = refl
    by (Failing a d) b s = refl
    by (Storing o a) b s = refl
    by (Targeted o) b s = refl
    by (Changing o p) b s = refl
    by (Fielding g a) b s = refl
    by l b s = absurd s

pub found_value : (ss : List Step) → Well AsValue ss → (t : Tree) → is_value (shape_of t) ≡ true → is_value (shape_of (found ss t)) ≡ true
found_value [] w t e = e
found_value (s ∷ ss) w t e = by_front (λ l h. is_value (shape_by (head_of l)) ≡ true → is_value (shape_by h) ≡ true) (λ l f. f) (λ a o f. refl) (ends_short s ss) s.lead (led_value (s ∷ ss) w t e)

module _ (s : Seat) (e j : Tree) (of_e : is_value (shape_of e) ≡ true) (of_j : is_value (shape_of j) ≡ true) where
  same_hoists : names_of declared.Hoisted (seated s j) ≡ names_of declared.Hoisted (seated s e)
  same_hoists = seated_hoists s j of_j ∙ sym (seated_hoists s e of_e)

  no_lexical : (s : Seat) (t : Tree) → names_of declared.Lexical (seated s t) ≡ []
  unfolding names_of
  no_lexical (Loop u v w) t = refl
  no_lexical (Choice cases) t = refl

  same_declares : (o : Bool) → as_body o (seated s j) ≡ as_body o (seated s e)
  same_declares o = seated_as_body o s j ∙ ap (own_declarations false []) same_hoists ∙ sym (seated_as_body o s e)

  seated_named : Named (seated s e) (seated s j)
  seated_named = record {
    lexical = no_lexical s e;
    still_none = no_lexical s j;
    hoisted = same_hoists;
    declares = same_declares false;
    names = seated_body s e;
    left = seated_body s j;
    declares_there = same_declares true;
  }

module _ (K : VariableDeclarationKind) (x : Name) (k : ℕ) (e : x.symbol ≡ symbol k) (first : Trees) (init : Tree) (plain : is_plain_part init ≡ true) (f : any_names x first ≡ false) (i : names x init ≡ false) (s : Seat) (beside : any_names x (rest s) ≡ false) (ss : List Step) (w : Well AsValue ss) (spared : Spared x ss) (r : Name) where
  abbrev value : Tree
  value = found ss (identifier r)

  abbrev put : Tree
  put = led ss init

  abbrev earlier : Trees
  earlier = declared_among K x first init none ▸ (seated s value ▸ none)

  abbrev later : Trees
  later = declared_left K first ▸ (seated s put ▸ none)

  of_value : is_value (shape_of value) ≡ true
  of_value = found_value ss w (identifier r) refl

  of_put : is_value (shape_of put) ≡ true
  of_put = led_value ss w init (plain_value init plain)

  free : names x (seated s put) ≡ false
  free = by s beside
    where
      by : (s : Seat) → any_names x (rest s) ≡ false → names x (seated s put) ≡ false
      by (Loop u v w) g = ap (λ b. b || any_names x (u ▸ (v ▸ (w ▸ none)))) (unnamed x ss spared init i) ∙ g
      by (Choice cases) g = ap (λ b. b || any_names x (cases ▸ none)) (unnamed x ss spared init i) ∙ g

  moved : (J : Leap → Type 0) (Q : Asked → Tree → Type 0) → Local J Q → (R : Type 0) → (Q AsWholeItem (declared_among K x first init none) → Q AsWholeItem (declared_left K first) × Q AsValue init) → (Q AsWholeItem (seated s value) → Q AsValue value × R) → (Q AsValue put → R → Q AsWholeItem (seated s put)) → All Q AsWholeItem earlier → All Q AsWholeItem later
  moved J Q l R both down up a =
      let (p, q) = both a.0 in
      let (v, b) = down a.1.0 in
      (p, (up (swapped J Q l AsValue ss w (identifier r) init (λ z. q) v) b, tt))

  moved_back : (Q : Asked → Tree → Type 0) → Local Any Q → (R : Type 0) → Q AsValue (identifier r) → (Q AsWholeItem (declared_left K first) → Q AsValue init → Q AsWholeItem (declared_among K x first init none)) → (Q AsWholeItem (seated s put) → Q AsValue put × R) → (Q AsValue value → R → Q AsWholeItem (seated s value)) → All Q AsWholeItem later → All Q AsWholeItem earlier
  moved_back Q l R o both down up a =
      let (v, b) = down a.1.0 in
      (both a.0 (taken Any Q l AsValue ss w init v), (up (swapped_back Any Q l AsValue ss w init (identifier r) (λ z. o) v) b, tt))

  pub opening_leaves : LeavesThere x earlier later
  unfolding Unmentioned has_inner
  opening_leaves = record {
    inner = λ b. moved Any (InnerIf b) (inner_local b) ((any_inner (rest s) || b) ≡ b) (inner_both K x init first b) (inner_down b s value) (inner_up b s put);
    inner_back = λ b. moved_back (InnerIf b) (inner_local b) ((any_inner (rest s) || b) ≡ b) refl (inner_back K x init first b) (inner_down b s put) (inner_up b s value);
    scoped = λ env. moved Any (ScopedAs Read env) (scoped_local Read env) (ScopedBeside s env) (scoped_both K x init first env) (scoped_down env s value (value_unlexical value of_value)) (scoped_up env s put (value_unlexical put of_put));
    unmentioned = (unmentioned_left K x k e first f, (unmentioned x k e (seated s put) free, tt));
    symbols = λ z.
        let parts = symbols_both K x init first z in
        let same = swapped_sum (symbol_times Read z) (symbols_summed Read z) AsValue ss w (identifier r) init in
        let there = ap (times z) (seated_symbols Read s value (value_unlexical value of_value)) in
        let here = ap (times z) (seated_symbols Read s put (value_unlexical put of_put)) in
        omega (arith, parts, same, there, here, times_both z (declared_in Read value) (symbols_beside Read s), times_both z (declared_in Read put) (symbols_beside Read s));
    numbered = λ n.
        let parts = numbers_both K x init first n in
        let same = swapped_sum (number_times n) (numbers_summed n) AsValue ss w (identifier r) init in
        let there = ap (count_of n) (numbers_beside s value) in
        let here = ap (count_of n) (numbers_beside s put) in
        omega (arith, parts, same, there, here, both_counts n (numbers value) (all_numbers (rest s)), both_counts n (numbers put) (all_numbers (rest s)));
    once = moved Any Once once_local ((clashing [] (declared_beside s) ≡ []) × (names_beside s ≡ [])) (once_both K x init first) (once_down s value (value_unlexical value of_value)) (once_up s put (value_unlexical put of_put));
    targets = λ h. moved (HasTarget h) (Aimed h) (aimed_local h) (jumps_beside h s ≡ []) (targets_both K x init first h) (aimed_down h s value) (aimed_up h s put);
    framed = λ all. moved Any (HasFrames all) (frames_local all) (FramesKept all (frames_beside s)) (frames_both K x init first all) (frames_down all s value) (frames_up all s put);
    bodied = λ all a. moved Any (HasBodies all a) (bodies_local all a) (BodiesKept all (bodies_from (λ j. quiet a) 1 (rest s))) (bodies_both K x init first all a) (bodies_down all a s value) (bodies_up all a s put);
    fixed = λ z j. moved Any (FixedBy z j) (fixed_local z j) (rank (fixed_by_any (rest s) z) ≤ j) (fixed_both K x init first z j) (fixed_down z j s value) (fixed_up z j s put);
    fixed_back = λ z j o. moved_back (FixedBy z j) (fixed_local z j) (rank (fixed_by_any (rest s) z) ≤ j) (omega arith) (fixed_back K x init first z j o) (fixed_down z j s put) (fixed_up z j s value);
    declares = λ all. moved Any (Declares all) (declares_local all) (Among all (declared_all (rest s))) (declares_both K x init first all) (declares_down all s value) (declares_up all s put);
  }

  pub opening_names : is_lexical K ≡ true → NamesThere x earlier later
  opening_names l = named_names K x first init f (seated s value) (seated s put) free (seated_named s value put of_value of_put) l

  pub opening_declares : DeclaresThere x earlier later
  opening_declares = named_declares K x first init f (seated s value) (seated s put) free (seated_named s value put of_value of_put)

-- The nodes on the way to a `var` further inside a body, each with what stands before the place in it, and what they do to names and scopes.
use Rattle.std.specs.Prelude.{ℕ, suc, ◌≡◌, refl, Bool, true, false, List, [], ◌∷◌, ◌++◌, Option, Some, None, unwrap_or, if◌then◌else◌}
use Rattle.std.proofs.Common.{ap, ◌∙◌, sym, subst, arith, append_assoc}
use Rattle.mini_model.specs.declared.name.Name.{Name}
use Rattle.mini_model.specs.declared.shape.Shape.{Shape}
use Rattle.mini_model.specs.declared.shape.Shape.TheVariants as shape
use Rattle.mini_model.specs.Tree.{Tree, Trees, node, none, ◌▸◌, shape_of, count, child_or_absent}
use Rattle.mini_laws.specs.declared.names.Declaration.{Declaration}
use Rattle.mini_laws.specs.declared.names.Declared.{Declared}
use Rattle.mini_laws.specs.declared.names.Declared.TheVariants as declared
use Rattle.mini_laws.specs.declared.names.Use.{Use}
use Rattle.mini_laws.specs.Bodies.{Around, below, body_of}
use Rattle.mini_laws.specs.DeclaredNames.{names_of, all_names}
use Rattle.mini_laws.specs.Early.{Path, own_declarations, declarations, scope_declarations, at_child, in_param, label_by, label_in, label_for, is_loop, last_is_loop, last_by, is_labeled, is_loop_shape, children_of_node}
use Rattle.mini_laws.specs.Fixity.{fixity_by}
use Rattle.mini_laws.specs.Path.{join}
use Rattle.mini_laws.specs.Scopes.{use_of, is_alone, opening_of, scopes_by, lexical_scope}
use Rattle.mini_laws.specs.State.{Writable}
use Rattle.mini_kept.specs.Declaring.{declared_by}
use Rattle.mini_kept.specs.Frames.{frame_of, property_below}
use Rattle.mini_kept.specs.KeepsNames.{is_read, unplaced}
use Rattle.mini_kept.specs.SameNames.{NoMoreClash}
use Rattle.mini_kept.proofs.Clashes.{counted_unplaced, no_more_same, no_more_both}
use Rattle.mini_kept.proofs.Unplaced.{as_body, all_as_body, declared_is, own_both}
use Rattle.mini_kept.specs.SameNames.{counted}
use Rattle.mini_rows.specs.declared.inside.Way.{Way}
use Rattle.mini_rows.specs.declared.inside.Way.TheVariants as way
use Rattle.mini_rows.specs.Inside.{statement_way, way_in}
use Rattle.mini_rows.proofs.ArrangedBodies.{quiet}
use Rattle.mini_rows.proofs.FunctionBodyKept.{clash_there}

-- ---- the nodes

pub data Stage : Type 0 where
  Braces : Stage
  Then : Tree → Stage
  Else : Tree → Tree → Stage
  While : Tree → Stage
  Doing : Stage
  For : Tree → Tree → Tree → Stage
  ForIn : Tree → Tree → Stage
  ForOf : Tree → Tree → Stage
  Labeled : Tree → Stage
  Tried : Stage
  Caught : Tree → Stage
  Finally : Tree → Tree → Stage
  Switched : Tree → Stage
  Items : Trees → Stage
  Cases : Trees → Stage
  Case : Tree → Stage
  Handler : Tree → Stage
  -- what a `for` begins with
  Heading : Stage

-- what each stands as
abbrev pub from : Stage → Way
from (Items ts) = way.Statements
from (Cases ts) = way.Cases
from (Case t) = way.Case
from (Handler t) = way.Catch
from g = way.Statement

-- and what stands in it
abbrev pub to : Stage → Way
to Braces = way.Statements
to (Caught t) = way.Catch
to (Switched t) = way.Cases
to (Cases ts) = way.Case
to (Case t) = way.Statements
to (Then a) = way.Held
to (Else a b) = way.Held
to (While a) = way.Held
to Doing = way.Held
to (For a b c) = way.Held
to (ForIn a b) = way.Held
to (ForOf a b) = way.Held
to (Labeled a) = way.Held
to Heading = way.Head
to g = way.Statement

abbrev pub head : Stage → Shape
head Braces = shape.BlockStatement
head (Then a) = shape.IfStatement
head (Else a b) = shape.IfStatement
head (While a) = shape.WhileStatement
head Doing = shape.DoWhileStatement
head (For a b c) = shape.ForStatement
head (ForIn a b) = shape.ForInStatement
head (ForOf a b) = shape.ForOfStatement
head (Labeled a) = shape.LabeledStatement
head Tried = shape.TryStatement
head (Caught a) = shape.TryStatement
head (Finally a b) = shape.TryStatement
head (Switched a) = shape.SwitchStatement
head (Items ts) = shape.Listed
head (Cases ts) = shape.Listed
head (Case a) = shape.SwitchCase
head (Handler a) = shape.CatchClause
head Heading = shape.ForStatement

abbrev pub before : Stage → Trees
before Braces = none
before (Then a) = a ▸ none
before (Else a b) = a ▸ (b ▸ none)
before (While a) = a ▸ none
before Doing = none
before (For a b c) = a ▸ (b ▸ (c ▸ none))
before (ForIn a b) = a ▸ (b ▸ none)
before (ForOf a b) = a ▸ (b ▸ none)
before (Labeled a) = a ▸ none
before Tried = none
before (Caught a) = a ▸ none
before (Finally a b) = a ▸ (b ▸ none)
before (Switched a) = a ▸ none
before (Items ts) = ts
before (Cases ts) = ts
before (Case a) = a ▸ none
before (Handler a) = a ▸ none
before Heading = none

abbrev pub over : Stage → Tree → Trees → Tree
over g c post = node (head g) [] 0 (join (before g) c post)

-- a statement stands in a list or in none
abbrev pub plainly : Way → Way
plainly way.Held = way.Statement
plainly s = s

-- each step of the way is one of them
pub record View (s : Way) (h : Shape) (pre : Trees) (r : Way) : Type 0 where
  pub stage : Stage
  pub from_is : from stage ≡ plainly s
  pub head_is : head stage ≡ h
  pub before_is : before stage ≡ pre
  pub to_is : to stage ≡ r

abbrev given : Option Way → Way
given None = way.Case
given (Some r) = r

at : (s : Way) (g : Stage) (r : Way) → from g ≡ plainly s → Some (to g) ≡ Some r → View s (head g) (before g) r
at s g r f e = record { stage = g; from_is = f; head_is = refl; before_is = refl; to_is = ap given e }

none_some : {A : Type 0} {x : A} → None ≡ Some x → ⊥
none_some e = cc e

in_statement : (h : Shape) (pre : Trees) (r : Way) → statement_way h (count pre) ≡ Some r → View way.Statement h pre r
in_statement shape.BlockStatement none r e = at way.Statement Braces r refl e
in_statement shape.BlockStatement (a ▸ pre) r e = absurd (none_some e)
in_statement shape.IfStatement none r e = absurd (none_some e)
in_statement shape.IfStatement (a ▸ none) r e = at way.Statement (Then a) r refl e
in_statement shape.IfStatement (a ▸ (b ▸ none)) r e = at way.Statement (Else a b) r refl e
in_statement shape.IfStatement (a ▸ (b ▸ (c ▸ pre))) r e = absurd (none_some e)
in_statement shape.WhileStatement none r e = absurd (none_some e)
in_statement shape.WhileStatement (a ▸ none) r e = at way.Statement (While a) r refl e
in_statement shape.WhileStatement (a ▸ (b ▸ pre)) r e = absurd (none_some e)
in_statement shape.DoWhileStatement none r e = at way.Statement Doing r refl e
in_statement shape.DoWhileStatement (a ▸ pre) r e = absurd (none_some e)
in_statement shape.ForStatement none r e = at way.Statement Heading r refl e
in_statement shape.ForStatement (a ▸ none) r e = absurd (none_some e)
in_statement shape.ForStatement (a ▸ (b ▸ none)) r e = absurd (none_some e)
in_statement shape.ForStatement (a ▸ (b ▸ (c ▸ none))) r e = at way.Statement (For a b c) r refl e
in_statement shape.ForStatement (a ▸ (b ▸ (c ▸ (d ▸ pre)))) r e = absurd (none_some e)
in_statement shape.ForInStatement none r e = absurd (none_some e)
in_statement shape.ForInStatement (a ▸ none) r e = absurd (none_some e)
in_statement shape.ForInStatement (a ▸ (b ▸ none)) r e = at way.Statement (ForIn a b) r refl e
in_statement shape.ForInStatement (a ▸ (b ▸ (c ▸ pre))) r e = absurd (none_some e)
in_statement shape.ForOfStatement none r e = absurd (none_some e)
in_statement shape.ForOfStatement (a ▸ none) r e = absurd (none_some e)
in_statement shape.ForOfStatement (a ▸ (b ▸ none)) r e = at way.Statement (ForOf a b) r refl e
in_statement shape.ForOfStatement (a ▸ (b ▸ (c ▸ pre))) r e = absurd (none_some e)
in_statement shape.LabeledStatement none r e = absurd (none_some e)
in_statement shape.LabeledStatement (a ▸ none) r e = at way.Statement (Labeled a) r refl e
in_statement shape.LabeledStatement (a ▸ (b ▸ pre)) r e = absurd (none_some e)
in_statement shape.TryStatement none r e = at way.Statement Tried r refl e
in_statement shape.TryStatement (a ▸ none) r e = at way.Statement (Caught a) r refl e
in_statement shape.TryStatement (a ▸ (b ▸ none)) r e = at way.Statement (Finally a b) r refl e
in_statement shape.TryStatement (a ▸ (b ▸ (c ▸ pre))) r e = absurd (none_some e)
in_statement shape.SwitchStatement none r e = absurd (none_some e)
in_statement shape.SwitchStatement (a ▸ none) r e = at way.Statement (Switched a) r refl e
in_statement shape.SwitchStatement (a ▸ (b ▸ pre)) r e = absurd (none_some e)
in_statement h pre r e = absurd (none_some e)

held_too : (h : Shape) (pre : Trees) (r : Way) → View way.Statement h pre r → View way.Held h pre r
held_too h pre r v = record { stage = v.stage; from_is = v.from_is; head_is = v.head_is; before_is = v.before_is; to_is = v.to_is }

pub view : (s : Way) (h : Shape) (pre : Trees) (r : Way) → way_in s h (count pre) ≡ Some r → View s h pre r
view way.Statement h pre r e = in_statement h pre r e
view way.Held h pre r e = held_too h pre r (in_statement h pre r e)
view way.Statements shape.Listed pre r e = at way.Statements (Items pre) r refl e
view way.Cases shape.Listed pre r e = at way.Cases (Cases pre) r refl e
view way.Case shape.SwitchCase none r e = absurd (none_some e)
view way.Case shape.SwitchCase (a ▸ none) r e = at way.Case (Case a) r refl e
view way.Case shape.SwitchCase (a ▸ (b ▸ pre)) r e = absurd (none_some e)
view way.Catch shape.CatchClause none r e = absurd (none_some e)
view way.Catch shape.CatchClause (a ▸ none) r e = at way.Catch (Handler a) r refl e
view way.Catch shape.CatchClause (a ▸ (b ▸ pre)) r e = absurd (none_some e)
view s h pre r e = absurd (none_some e)

-- ---- names

pub joined_names : (q : Declared) (pre : Trees) (c d : Tree) (post : Trees) → names_of q d ≡ names_of q c → all_names q (join pre d post) ≡ all_names q (join pre c post)
unfolding names_of
joined_names q none c d post e = ap (λ xs. xs ++ all_names q post) e
joined_names q (t ▸ pre) c d post e = ap (λ xs. names_of q t ++ xs) (joined_names q pre c d post e)

pub joined_all : (q : Declared) (pre : Trees) (c : Tree) (post : Trees) → all_names q (join pre c post) ≡ all_names q pre ++ (names_of q c ++ all_names q post)
unfolding names_of
joined_all q none c post = refl
joined_all q (t ▸ pre) c post = ap (λ xs. names_of q t ++ xs) (joined_all q pre c post) ∙ sym (append_assoc (names_of q t) (all_names q pre) (names_of q c ++ all_names q post))

pub hoists : (g : Stage) (ts : Trees) → names_of declared.Hoisted (node (head g) [] 0 ts) ≡ all_names declared.Hoisted ts
unfolding names_of
hoists Braces ts = refl
hoists g ts = refl

pub lexical : (g : Stage) (c d : Tree) (post : Trees) → names_of declared.Lexical d ≡ names_of declared.Lexical c → names_of declared.Lexical (over g d post) ≡ names_of declared.Lexical (over g c post)
unfolding names_of
lexical (Items pre) c d post e = joined_names declared.Lexical pre c d post e
lexical (Cases pre) c d post e = joined_names declared.Lexical pre c d post e
lexical (Case a) c d post e = joined_names declared.Lexical (a ▸ none) c d post e
lexical g c d post e = refl

-- ---- scopes, and how names are used in them

pub scopes : (g : Stage) (v : Use) (c d : Tree) (post : Trees) → names_of declared.Lexical d ≡ names_of declared.Lexical c → scopes_by (opening_of v (head g)) (join (before g) d post) ≡ scopes_by (opening_of v (head g)) (join (before g) c post)
unfolding scopes_by
scopes Braces v c d post e = ap (λ xs. lexical_scope xs ∷ []) e
scopes (Switched a) v c d post e = ap (λ xs. [] ∷ lexical_scope xs ∷ []) e
scopes Heading v c d post e = ap (λ xs. lexical_scope xs ∷ []) e
scopes g v c d post e = refl

-- the index of what stands behind some, of which the first has this one
abbrev pub behind : ℕ → Trees → ℕ
behind i none = i
behind i (t ▸ pre) = behind (suc i) pre

-- a list of statements is read, and so is what a `for` begins with; what stands in no list stands alone
abbrev pub Fine : Way → Use → Type 0
Fine way.Statements v = is_read v ≡ true
Fine way.Head v = is_read v ≡ true
Fine way.Held v = is_alone v ≡ true
Fine s v = Unit {0}

pub fine : (g : Stage) (v : Use) → Fine (from g) v → Fine (to g) (use_of (head g) v (behind 0 (before g)))
fine Braces v f = refl
fine (Case a) v f = refl
fine (Then a) v f = refl
fine (Else a b) v f = refl
fine (While a) v f = refl
fine Doing v f = refl
fine (For a b c) v f = refl
fine (ForIn a b) v f = refl
fine (ForOf a b) v f = refl
fine (Labeled a) v f = refl
fine Heading v f = refl
fine g v f = tt

-- ---- what stands in no such node

pub writes : (g : Stage) → fixity_by (head g) ≡ Writable
writes Braces = refl
writes g = refl

pub frameless : (g : Stage) (o : Tree) (xs : List Name) → frame_of None (head g) 0 o xs ≡ []
frameless Braces o xs = refl
frameless g o xs = refl

pub propertyless : (g : Stage) (i : ℕ) → property_below (head g) i ≡ None
propertyless Braces i = refl
propertyless g i = refl

pub bodyless : (g : Stage) (a : Around) (t : Tree) (ts : Trees) → body_of a (head g) 0 t ts ≡ []
bodyless Braces a t ts = refl
bodyless g a t ts = refl

pub around : (g : Stage) (a : Around) (ts : Trees) (i : ℕ) → below (quiet a) (head g) ts i ≡ quiet a
around Braces a ts i = refl
around g a ts i = refl

pub undeclaring : (g : Stage) → declared_by (head g) [] ≡ []
undeclaring Braces = refl
undeclaring g = refl

-- ---- jumps

pub same_label : (pre : Trees) (c d : Tree) (post : Trees) → label_by (shape_of d) ≡ label_by (shape_of c) → label_in (join pre d post) ≡ label_in (join pre c post)
same_label none c d post s = s
same_label (t ▸ pre) c d post s = refl

pub same_label_for : (pre : Trees) (c d : Tree) (post : Trees) → label_by (shape_of d) ≡ label_by (shape_of c) → is_loop d ≡ is_loop c → label_for (join pre d post) ≡ label_for (join pre c post)
same_label_for none c d post s e = ap (λ l. record { name = unwrap_or l []; is_loop = is_loop (child_or_absent post 0) }) s
same_label_for (t ▸ none) c d post s e = ap (λ b. record { name = unwrap_or (label_by (shape_of t)) []; is_loop = b }) e
same_label_for (t ▸ (u ▸ pre)) c d post s e = refl

same_last : (b : Bool) (pre : Trees) (c d : Tree) (post : Trees) → is_loop d ≡ is_loop c → last_by b (join pre d post) ≡ last_by b (join pre c post)
unfolding is_loop
same_last b none c d post e = ap (λ l. last_by l post) e
same_last b (t ▸ pre) c d post e = same_last (is_loop t) pre c d post e

last_loop : (pre : Trees) (c d : Tree) (post : Trees) → is_loop d ≡ is_loop c → last_is_loop (join pre d post) ≡ last_is_loop (join pre c post)
unfolding is_loop
last_loop none c d post e = ap (λ l. last_by l post) e
last_loop (t ▸ pre) c d post e = same_last (is_loop t) pre c d post e

pub loops : (h : Shape) (pre : Trees) (c d : Tree) (post : Trees) → is_loop d ≡ is_loop c → is_loop (node h [] 0 (join pre d post)) ≡ is_loop (node h [] 0 (join pre c post))
unfolding is_loop
loops h pre c d post e = ap (λ l. if is_labeled h then l else is_loop_shape h) (last_loop pre c d post e)

-- ---- what is declared clashes no more

pub placed_less : (es ds : List Declaration) (es' ds' : List Declaration) → ((s : List ℕ) (l : Bool) → counted l s es ≡ counted l s es') → ((s : List ℕ) (l : Bool) → counted l s ds ≡ counted l s ds') → NoMoreClash es' ds' → NoMoreClash es ds
placed_less es ds es' ds' e d less s =
    let a = e s true in
    let b = d s true in
    let fewer = (less s).0 in
    (omega (arith, a, b, fewer), λ z. e s false ∙ (less s).1 (sym (d s false) ∙ z))

pub hoisted_less : (x : Name) (first last : List Name) → NoMoreClash (own_declarations false [] (first ++ last)) (own_declarations false [] (first ++ x ∷ last))
hoisted_less x first last =
    let own = λ (xs : List Name). own_declarations false [] xs in
    subst (NoMoreClash (own (first ++ last))) (sym (own_both false first (x ∷ last)))
    (subst (λ es. NoMoreClash es (own first ++ own (x ∷ last))) (sym (own_both false first last))
    (no_more_both (own first) (own first) (own (x ∷ last)) (own last) (no_more_same (own first) (own first) refl)
    (no_more_both (own (x ∷ [])) [] (own last) (own last) (λ s. (omega arith, λ z. refl)) (no_more_same (own last) (own last) refl))))

declared_less : (p : Path) (c d : Tree) → NoMoreClash (own_declarations false [] (names_of declared.Hoisted d)) (own_declarations false [] (names_of declared.Hoisted c)) → NoMoreClash (declarations declared.Hoisted false p d) (declarations declared.Hoisted false p c)
declared_less p c d less =
    let is = λ (t : Tree) (s : List ℕ) (l : Bool). sym (counted_unplaced l s (declarations declared.Hoisted false p t)) ∙ ap (counted l s) (declared_is declared.Hoisted false p t) in
    placed_less (declarations declared.Hoisted false p d) (declarations declared.Hoisted false p c) (own_declarations false [] (names_of declared.Hoisted d)) (own_declarations false [] (names_of declared.Hoisted c)) (is d) (is c) less

-- the same lexical names do
lexical_less : (p : Path) (c d : Tree) → names_of declared.Lexical d ≡ names_of declared.Lexical c → NoMoreClash (declarations declared.Lexical true p d) (declarations declared.Lexical true p c)
lexical_less p c d e =
    let own = λ (t : Tree). own_declarations true [] (names_of declared.Lexical t) in
    let is = λ (t : Tree) (s : List ℕ) (l : Bool). sym (counted_unplaced l s (declarations declared.Lexical true p t)) ∙ ap (counted l s) (declared_is declared.Lexical true p t) in
    placed_less (declarations declared.Lexical true p d) (declarations declared.Lexical true p c) (own d) (own c) (is d) (is c) (no_more_same (own c) (own d) (ap (λ xs. unplaced (own_declarations true [] xs)) e))

-- what a block in it declares
abbrev pub BlockLess : Tree → Tree → Type 0
BlockLess c d = NoMoreClash (as_body false (child_or_absent (children_of_node d) 0)) (as_body false (child_or_absent (children_of_node c) 0))

pub scope_less : (g : Stage) (c d : Tree) (post : Trees) → names_of declared.Lexical d ≡ names_of declared.Lexical c → NoMoreClash (as_body false d) (as_body false c) → (to g ≡ way.Statement → BlockLess c d) → NoMoreClash (own_declarations false [] (names_of declared.Hoisted d)) (own_declarations false [] (names_of declared.Hoisted c))
    → NoMoreClash (scope_declarations (head g) [] (join (before g) d post)) (scope_declarations (head g) [] (join (before g) c post))
unfolding scope_declarations
scope_less Braces c d post l b k h = clash_there false (0 ∷ []) c d b
scope_less (Switched a) c d post l b k h = clash_there false (1 ∷ []) c d b
scope_less (For t u v) c d post l b k h =
    let own = at_child declared.Lexical true [] (t ▸ none) 0 in
    no_more_both own own (declarations declared.Hoisted false (3 ∷ []) c) (declarations declared.Hoisted false (3 ∷ []) d) (no_more_same own own refl) (declared_less (3 ∷ []) c d h)
scope_less (ForIn t u) c d post l b k h =
    let own = at_child declared.Lexical true [] (t ▸ none) 0 in
    no_more_both own own (declarations declared.Hoisted false (2 ∷ []) c) (declarations declared.Hoisted false (2 ∷ []) d) (no_more_same own own refl) (declared_less (2 ∷ []) c d h)
scope_less (ForOf t u) c d post l b k h =
    let own = at_child declared.Lexical true [] (t ▸ none) 0 in
    no_more_both own own (declarations declared.Hoisted false (2 ∷ []) c) (declarations declared.Hoisted false (2 ∷ []) d) (no_more_same own own refl) (declared_less (2 ∷ []) c d h)
scope_less (Handler t) c d post l b k h =
    let own = in_param [] (t ▸ none) in
    no_more_both own own _ _ (no_more_same own own refl) (clash_there false (1 ∷ (0 ∷ [])) (child_or_absent (children_of_node c) 0) (child_or_absent (children_of_node d) 0) (k refl))
scope_less Heading c d post l b k h =
    no_more_both (declarations declared.Lexical true (0 ∷ []) c) (declarations declared.Lexical true (0 ∷ []) d) _ _ (lexical_less (0 ∷ []) c d l) (no_more_same _ _ refl)
scope_less g c d post l b k h = no_more_same [] [] refl

joined_less : (o : Bool) (pre : Trees) (c d : Tree) (post : Trees) → NoMoreClash (as_body o d) (as_body o c) → NoMoreClash (all_as_body o (join pre d post)) (all_as_body o (join pre c post))
joined_less o none c d post b = no_more_both (as_body o c) (as_body o d) (all_as_body o post) (all_as_body o post) b (no_more_same (all_as_body o post) (all_as_body o post) refl)
joined_less o (t ▸ pre) c d post b = no_more_both (as_body o t) (as_body o t) (all_as_body o (join pre c post)) (all_as_body o (join pre d post)) (no_more_same (as_body o t) (as_body o t) refl) (joined_less o pre c d post b)

pub body_less : (g : Stage) (o : Bool) (c d : Tree) (post : Trees) → NoMoreClash (as_body o d) (as_body o c) → NoMoreClash (own_declarations false [] (all_names declared.Hoisted (join (before g) d post))) (own_declarations false [] (all_names declared.Hoisted (join (before g) c post)))
    → NoMoreClash (as_body o (over g d post)) (as_body o (over g c post))
unfolding names_of
body_less (Items pre) o c d post b h = joined_less o pre c d post b
body_less (Cases pre) o c d post b h = joined_less o pre c d post b
body_less (Case a) o c d post b h = joined_less o (a ▸ none) c d post b
body_less (Handler a) o c d post b h = h
body_less g o c d post b h = h

pub block_less : (g : Stage) → from g ≡ way.Statement → (c d : Tree) (post : Trees) → NoMoreClash (as_body false d) (as_body false c) → BlockLess (over g c post) (over g d post)
block_less Braces s c d post b = b
block_less Doing s c d post b = b
block_less Tried s c d post b = b
block_less Heading s c d post b = b
block_less (Items pre) s c d post b = absurd (cc s)
block_less (Cases pre) s c d post b = absurd (cc s)
block_less (Then a) s c d post b = no_more_same (as_body false a) (as_body false a) refl
block_less (Else a u) s c d post b = no_more_same (as_body false a) (as_body false a) refl
block_less (While a) s c d post b = no_more_same (as_body false a) (as_body false a) refl
block_less (For a u v) s c d post b = no_more_same (as_body false a) (as_body false a) refl
block_less (ForIn a u) s c d post b = no_more_same (as_body false a) (as_body false a) refl
block_less (ForOf a u) s c d post b = no_more_same (as_body false a) (as_body false a) refl
block_less (Labeled a) s c d post b = no_more_same (as_body false a) (as_body false a) refl
block_less (Caught a) s c d post b = no_more_same (as_body false a) (as_body false a) refl
block_less (Finally a u) s c d post b = no_more_same (as_body false a) (as_body false a) refl
block_less (Switched a) s c d post b = no_more_same (as_body false a) (as_body false a) refl
block_less (Case a) s c d post b = no_more_same (as_body false a) (as_body false a) refl
block_less (Handler a) s c d post b = no_more_same (as_body false a) (as_body false a) refl

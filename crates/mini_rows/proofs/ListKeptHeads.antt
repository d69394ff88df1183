-- An expression that goes into the head of a `for` or a `switch` after it is kept: it declares nothing, so that in the scope
-- that the statement opens no other names are seen.
use Rattle.std.specs.Prelude.{ℕ, ◌+◌, ◌≤◌, ◌≡◌, refl, ◌&&◌, ◌||◌, Bool, true, false, List, [], ◌∷◌, ◌++◌, Contains, Option, None}
use Rattle.std.proofs.Common.{ap, ◌∙◌, sym, subst, arith, inl, inr, ◌⊎◌}
use Rattle.std.proofs.lemmas.List.{append-nil}
use Rattle.std.proofs.lemmas.List.Elements.{Contains-append_left, Contains-append_right, Contains-append_cases}
use Rattle.mini_model.specs.declared.name.Name.{Name}
use Rattle.mini_model.specs.declared.name.SymbolId.{SymbolId}
use Rattle.mini_model.specs.declared.place.Position.TheVariants.{StatementList}
use Rattle.mini_model.specs.declared.shape.Shape.{Shape}
use Rattle.mini_model.specs.declared.shape.Shape.TheVariants as shape
use Rattle.mini_model.specs.Tree.{Tree, Trees, node, none, ◌▸◌, absent, listed, shape_of, expression_statement}
use Rattle.mini_model.specs.Paths.{append}
use Rattle.mini_accept.specs.WellShaped.{Depth, nested, a_statement, a_case, an_init, an_expression, one, one_or_absent, many, each, fits, fill, Filling, refused, filling}
use Rattle.mini_laws.specs.declared.names.Use.{Use}
use Rattle.mini_laws.specs.declared.names.Use.TheVariants.{Read}
use Rattle.mini_laws.specs.declared.names.Binding.{Binding}
use Rattle.mini_laws.specs.declared.names.Declaration.{Declaration}
use Rattle.mini_laws.specs.declared.names.Declared.{Declared}
use Rattle.mini_laws.specs.declared.names.Declared.TheVariants as declared
use Rattle.mini_laws.specs.declared.names.Targets.{Targets}
use Rattle.mini_laws.specs.DeclaredNames.{has_inner, any_inner, names_of, all_names, body_names, lexical_names, with_names}
use Rattle.mini_laws.specs.Scopes.{use_of, scopes_by, at_or_empty, lexical_scope}
use Rattle.mini_laws.specs.Resolved.{Environment}
use Rattle.mini_laws.specs.Scoped.{Scoped, AllScoped}
use Rattle.mini_laws.specs.Symbols.{declared as declared_in, declared_from, times}
use Rattle.mini_laws.specs.Early.{Path, own_declarations, declarations, body_declarations, scope_declarations, clashing, early_names, all_early_names, targets_of, early_jumps, all_early_jumps}
use Rattle.mini_laws.proofs.Changes.{times_both}
use Rattle.mini_laws.specs.Value.{Variable, choose, is_in}
use Rattle.mini_laws.specs.State.{Writable}
use Rattle.mini_laws.specs.Naming.{lets_first, summaries}
use Rattle.mini_laws.specs.Fixity.{stricter, fixed_by, fixed_by_any}
use Rattle.mini_laws.specs.Bodies.{Around, Body, bodies, bodies_from}
use Rattle.mini_kept.specs.AlikeBodies.{BodiesKept}
use Rattle.mini_kept.specs.Carried.{numbers, all_numbers}
use Rattle.mini_kept.specs.Declaring.{declared as names_declared, declared_all}
use Rattle.mini_kept.specs.Frames.{Frame, property_below, frames, frames_from, FramesKept}
use Rattle.mini_kept.specs.KeepsNames.{count_of}
use Rattle.mini_kept.proofs.Anywhere.{once_anywhere, targets_anywhere}
use Rattle.mini_kept.proofs.Below.{both_counts, empty_both, both_empty}
use Rattle.mini_kept.proofs.Bools.{left, right}
use Rattle.mini_kept.proofs.BodyLists.{both_of as both_bodies}
use Rattle.mini_kept.proofs.Expressions.{refused_here}
use Rattle.mini_kept.proofs.FrameLists.{both_of as both_frames}
use Rattle.mini_kept.proofs.Quiet.{is_quiet, no_names, no_declarations}
use Rattle.mini_kept.proofs.Unplaced.{as_body}
use Rattle.mini_rows.specs.Lists.{sequence, for_loop, switch, declares_nothing_by, declares_nothing, first_declares_nothing, is_one_part_shape, are_parts, of_parts, Head, Switch, For, with_head, Row67, Row67Absent}
use Rattle.mini_rows.specs.ListLaws.{opens_scope, OpeningRow, OpeningListsKept}
use Rattle.mini_rows.specs.Arranged.{KeptAt}
use Rattle.mini_rows.specs.Sketches.{AbsentPart, AList, Sequence, OfExpression, part, under, end, ◌▹◌, Asked, AsWholeItem, AsValue, AsValues, Leap}
use Rattle.mini_rows.proofs.Arranging.{All, Any, Local, sum_all, Summed}
use Rattle.mini_rows.proofs.ArrangedNames.{ScopedAs, scoped_local, symbol_times, symbols_summed, number_times, numbers_summed, InnerIf, inner_local, Once, once_local, HasTarget, Aimed, aimed_local}
use Rattle.mini_rows.proofs.ArrangedBodies.{quiet, HasBodies, bodies_local, HasFrames, frames_local, Among, Declares, declares_local, FixedBy, fixed_local, rank}
use Rattle.mini_rows.proofs.ArrangedValues.{is_value, is_no_inner, Valued, sketch_valued}
use Rattle.mini_rows.proofs.ArrangedFolds.{port}
use Rattle.mini_rows.proofs.ListKeptStretch.{first_all, second_all, both_all, all_of, of_all, sum_append, sum_items, NamesStretched, Stretched, stretch_kept}
use Rattle.mini_rows.proofs.ListKeptDeclarations.{split_rank, both_rank}

-- ---- what holds of an expression of parts holds of each of them

module _ (J : Leap → Type 0) (Q : Asked → Tree → Type 0) (l : Local J Q) where
  of_sequence : (ts : Trees) → Q AsValue (sequence ts) → All Q AsValue ts
  of_sequence ts q = all_of J Q AsValue 0 ts (l.down AList AsValues ts tt (l.down Sequence AsValue (listed ts ▸ none) tt q).1.0).1

  sequence_of : (ts : Trees) → All Q AsValue ts → Q AsValue (sequence ts)
  sequence_of ts a = l.up Sequence AsValue (listed ts ▸ none) tt tt (l.up AList AsValues ts tt tt (of_all J Q AsValue 0 ts a), tt)

  pub parts_of_it : (p : Tree) (ps : Trees) → Q AsValue (of_parts p ps) → All Q AsValue (p ▸ ps)
  parts_of_it p none q = (q, tt)
  parts_of_it p (t ▸ ps) q = of_sequence (p ▸ (t ▸ ps)) q

  pub it_of_parts : (p : Tree) (ps : Trees) → All Q AsValue (p ▸ ps) → Q AsValue (of_parts p ps)
  it_of_parts p none a = a.0
  it_of_parts p (t ▸ ps) a = sequence_of (p ▸ (t ▸ ps)) a

  pub of_statement : (e : Tree) → Q AsWholeItem (expression_statement e) → Q AsValue e
  of_statement e q = (l.down OfExpression AsWholeItem (e ▸ none) tt q).1.0

  pub statement_of : (e : Tree) → Q AsValue e → Q AsWholeItem (expression_statement e)
  statement_of e q = l.up OfExpression AsWholeItem (e ▸ none) tt tt (q, tt)

  pub nothing_there : Q AsValue absent
  nothing_there = l.up AbsentPart AsValue none tt tt tt

module _ (m : Asked → Tree → ℕ) (l : Summed m) where
  pub sum_parts : (p : Tree) (ps : Trees) → m AsValue (of_parts p ps) ≡ sum_all m AsValue (p ▸ ps)
  sum_parts p none = omega arith
  sum_parts p (t ▸ ps) =
      let ts : Trees = p ▸ (t ▸ ps) in
      omega (arith, l Sequence AsValue (listed ts ▸ none) tt, l AList AsValues ts tt, sum_items m l AsValue 0 ts)

  pub sum_statement : (e : Tree) → m AsWholeItem (expression_statement e) ≡ m AsValue e
  sum_statement e = omega (arith, l OfExpression AsWholeItem (e ▸ none) tt)

-- two expressions, and one of the parts of both
pub record Joins (e d j : Tree) : Type 1 where
  pub all : (J : Leap → Type 0) (Q : Asked → Tree → Type 0) → Local J Q → Q AsValue e → Q AsValue d → Q AsValue j
  pub back : (Q : Asked → Tree → Type 0) → Local Any Q → Q AsValue j → Q AsValue e × Q AsValue d
  pub sum : (m : Asked → Tree → ℕ) → Summed m → m AsValue j ≤ m AsValue e + m AsValue d

pub parts_join : (p : Tree) (ps : Trees) (q : Tree) (qs : Trees) → Joins (of_parts p ps) (of_parts q qs) (of_parts p (append ps (q ▸ qs)))
parts_join p ps q qs = record {
  all = λ J Q l a b. it_of_parts J Q l p (append ps (q ▸ qs)) (both_all J Q AsValue (p ▸ ps) (q ▸ qs) (parts_of_it J Q l p ps a) (parts_of_it J Q l q qs b));
  back = λ Q l a. (
      let all = parts_of_it Any Q l p (append ps (q ▸ qs)) a in
      (it_of_parts Any Q l p ps (first_all Any Q AsValue (p ▸ ps) (q ▸ qs) all), it_of_parts Any Q l q qs (second_all Any Q AsValue (p ▸ ps) (q ▸ qs) all))
      );
  sum = λ m l. omega (arith, sum_parts m l p ps, sum_parts m l q qs, sum_parts m l p (append ps (q ▸ qs)), sum_append m l AsValue (p ▸ ps) (q ▸ qs));
}

absent_joins : (e : Tree) → Joins e absent e
absent_joins e = record {
  all = λ J Q l a b. a;
  back = λ Q l a. (a, nothing_there Any Q l);
  sum = λ m l. omega arith;
}

-- ---- the statements: what stands there beside the expression

pub data Seat : Type 0 where
  Loop : Tree → Tree → Tree → Seat
  Choice : Tree → Seat

abbrev pub seated : Seat → Tree → Tree
seated (Loop u v w) e = for_loop e u v w
seated (Choice cases) e = switch e cases

abbrev pub rest : Seat → Trees
rest (Loop u v w) = u ▸ (v ▸ (w ▸ none))
rest (Choice cases) = cases ▸ none

pub quiet_value : (t : Tree) → is_value (shape_of t) ≡ true → is_quiet (shape_of t) ≡ true
quiet_value t e = left (is_quiet (shape_of t)) (is_no_inner (shape_of t)) e

module _ (b : Bool) where
  pub or_both : (x y : Bool) → ((x || y) || b) ≡ b → ((x || b) ≡ b) × ((y || b) ≡ b)
  or_both true y e = (e, by y)
    where
      by : (y : Bool) → (y || b) ≡ b
      by true = e
      by false = refl
  or_both false y e = (refl, e)

  pub both_or : (x y : Bool) → (x || b) ≡ b → (y || b) ≡ b → ((x || y) || b) ≡ b
  both_or true y e f = e
  both_or false y e f = f

  pub inner_down : (s : Seat) (e : Tree) → InnerIf b AsWholeItem (seated s e) → InnerIf b AsValue e × ((any_inner (rest s) || b) ≡ b)
  unfolding has_inner
  inner_down (Loop u v w) e q = or_both (has_inner e) (any_inner (u ▸ (v ▸ (w ▸ none)))) q
  inner_down (Choice cases) e q = or_both (has_inner e) (any_inner (cases ▸ none)) q

  pub inner_up : (s : Seat) (e : Tree) → InnerIf b AsValue e → (any_inner (rest s) || b) ≡ b → InnerIf b AsWholeItem (seated s e)
  unfolding has_inner
  inner_up (Loop u v w) e q r = both_or (has_inner e) (any_inner (u ▸ (v ▸ (w ▸ none)))) q r
  inner_up (Choice cases) e q r = both_or (has_inner e) (any_inner (cases ▸ none)) q r

pub both_writable : (b : Bool) → choose b Writable Writable ≡ Writable
both_writable true = refl
both_writable false = refl

seated_fixed : (s : Seat) (e : Tree) (x : Variable) → fixed_by (seated s e) x ≡ stricter (fixed_by e x) (fixed_by_any (rest s) x)
seated_fixed (Loop u v w) e x = ap (λ f. stricter f (stricter (fixed_by e x) (fixed_by_any (u ▸ (v ▸ (w ▸ none))) x))) (both_writable (is_in x (lets_first (summaries (e ▸ none)))))
seated_fixed (Choice cases) e x = ap (λ f. stricter f (stricter (fixed_by e x) (fixed_by_any (cases ▸ none) x))) (both_writable (is_in x (lets_first (summaries (e ▸ none)))))

module _ (x : Variable) (k : ℕ) where
  pub fixed_down : (s : Seat) (e : Tree) → FixedBy x k AsWholeItem (seated s e) → FixedBy x k AsValue e × (rank (fixed_by_any (rest s) x) ≤ k)
  fixed_down s e q = split_rank k (fixed_by e x) (fixed_by_any (rest s) x) (subst (λ f. rank f ≤ k) (seated_fixed s e x) q)

  pub fixed_up : (s : Seat) (e : Tree) → FixedBy x k AsValue e → rank (fixed_by_any (rest s) x) ≤ k → FixedBy x k AsWholeItem (seated s e)
  fixed_up s e q r = subst (λ f. rank f ≤ k) (sym (seated_fixed s e x)) (both_rank k (fixed_by e x) (fixed_by_any (rest s) x) q r)

seated_declared : (s : Seat) (e : Tree) → names_declared (seated s e) ≡ names_declared e ++ declared_all (rest s)
seated_declared (Loop u v w) e = refl
seated_declared (Choice cases) e = refl

module _ (all : List Name) where
  pub declares_down : (s : Seat) (e : Tree) → Declares all AsWholeItem (seated s e) → Declares all AsValue e × Among all (declared_all (rest s))
  declares_down s e q =
      let k = subst (Among all) (seated_declared s e) q in
      (λ x c. k x (Contains-append_left (names_declared e) (declared_all (rest s)) x c), λ x c. k x (Contains-append_right (names_declared e) (declared_all (rest s)) x c))

  pub declares_up : (s : Seat) (e : Tree) → Declares all AsValue e → Among all (declared_all (rest s)) → Declares all AsWholeItem (seated s e)
  declares_up s e q r = subst (Among all) (sym (seated_declared s e)) (λ x c. by x (Contains-append_cases (names_declared e) (declared_all (rest s)) x c))
    where
      by : (x : Name) → Contains (names_declared e) x ⊎ Contains (declared_all (rest s)) x → Contains all x
      by x (inl d) = q x d
      by x (inr d) = r x d

pub frames_beside : Seat → List Frame
frames_beside (Loop u v w) = frames_from (property_below shape.ForStatement) 1 (u ▸ (v ▸ (w ▸ none)))
frames_beside (Choice cases) = frames_from (property_below shape.SwitchStatement) 1 (cases ▸ none)

seated_frames : (s : Seat) (e : Tree) → frames None (seated s e) ≡ frames None e ++ frames_beside s
unfolding frames_beside
seated_frames (Loop u v w) e = refl
seated_frames (Choice cases) e = refl

module _ (all : List Frame) where
  pub frames_down : (s : Seat) (e : Tree) → HasFrames all AsWholeItem (seated s e) → HasFrames all AsValue e × FramesKept all (frames_beside s)
  frames_down s e q =
      let k = subst (FramesKept all) (seated_frames s e) q in
      (λ f x. k f (Contains-append_left (frames None e) (frames_beside s) f x), λ f x. k f (Contains-append_right (frames None e) (frames_beside s) f x))

  pub frames_up : (s : Seat) (e : Tree) → HasFrames all AsValue e → FramesKept all (frames_beside s) → HasFrames all AsWholeItem (seated s e)
  frames_up s e q r = subst (FramesKept all) (sym (seated_frames s e)) (both_frames all (frames None e) (frames_beside s) q r)

seated_bodies : (r : Around) (s : Seat) (e : Tree) → bodies (quiet r) (seated s e) ≡ bodies (quiet r) e ++ bodies_from (λ j. quiet r) 1 (rest s)
seated_bodies r (Loop u v w) e = refl
seated_bodies r (Choice cases) e = refl

pub split_bodies : (bs cs ds : List Body) → BodiesKept bs (cs ++ ds) → BodiesKept bs cs × BodiesKept bs ds
split_bodies bs [] ds k = (tt, k)
split_bodies bs (c ∷ cs) ds k =
    let (x, y) = split_bodies bs cs ds k.1 in
    ((k.0, x), y)

module _ (all : List Body) (r : Around) where
  pub bodies_down : (s : Seat) (e : Tree) → HasBodies all r AsWholeItem (seated s e) → HasBodies all r AsValue e × BodiesKept all (bodies_from (λ j. quiet r) 1 (rest s))
  bodies_down s e q = split_bodies all (bodies (quiet r) e) (bodies_from (λ j. quiet r) 1 (rest s)) (subst (BodiesKept all) (seated_bodies r s e) q)

  pub bodies_up : (s : Seat) (e : Tree) → HasBodies all r AsValue e → BodiesKept all (bodies_from (λ j. quiet r) 1 (rest s)) → HasBodies all r AsWholeItem (seated s e)
  bodies_up s e q k = subst (BodiesKept all) (sym (seated_bodies r s e)) (both_bodies all (bodies (quiet r) e) (bodies_from (λ j. quiet r) 1 (rest s)) q k)

pub numbers_beside : (s : Seat) (e : Tree) → numbers (seated s e) ≡ numbers e ++ all_numbers (rest s)
unfolding numbers
numbers_beside (Loop u v w) e = refl
numbers_beside (Choice cases) e = refl

-- ---- jumps

pub jumps_beside : Targets → Seat → List Path
jumps_beside g (Loop u v w) = all_early_jumps (targets_of shape.ForStatement none g) [] 1 (u ▸ (v ▸ (w ▸ none)))
jumps_beside g (Choice cases) = all_early_jumps (targets_of shape.SwitchStatement none g) [] 1 (cases ▸ none)

seated_jumps : (g : Targets) (s : Seat) (e : Tree) → early_jumps g [] (seated s e) ≡ early_jumps g (0 ∷ []) e ++ jumps_beside g s
unfolding jumps_beside early_jumps targets_of
seated_jumps g (Loop u v w) e = refl
seated_jumps g (Choice cases) e = refl

module _ (g : Targets) where
  pub aimed_down : (s : Seat) (e : Tree) → Aimed g AsWholeItem (seated s e) → Aimed g AsValue e × (jumps_beside g s ≡ [])
  aimed_down s e q =
      let (x, y) = empty_both (early_jumps g (0 ∷ []) e) (jumps_beside g s) (sym (seated_jumps g s e) ∙ q) in
      (targets_anywhere g (0 ∷ []) [] e x, y)

  pub aimed_up : (s : Seat) (e : Tree) → Aimed g AsValue e → jumps_beside g s ≡ [] → Aimed g AsWholeItem (seated s e)
  aimed_up s e q r = seated_jumps g s e ∙ both_empty (early_jumps g (0 ∷ []) e) (jumps_beside g s) (targets_anywhere g [] (0 ∷ []) e q) r

-- ---- names that are declared twice: the loop's body may declare none of the names that its head does

pub declared_beside : Seat → List Declaration
declared_beside (Loop u v w) = declarations declared.Hoisted false (3 ∷ []) w
declared_beside (Choice cases) = body_declarations false (1 ∷ []) cases

pub names_beside : Seat → List Path
names_beside s = all_early_names [] 1 (rest s)

-- what declares no lexical name, as an expression
pub record Unlexical (t : Tree) : Type 0 where
  pub names : lexical_names t ≡ []
  pub nowhere : (p : Path) → declarations declared.Lexical true p t ≡ []

pub value_unlexical : (t : Tree) → is_value (shape_of t) ≡ true → Unlexical t
value_unlexical t k = record { names = no_names declared.Lexical t (quiet_value t k); nowhere = λ p. no_declarations declared.Lexical true p t (quiet_value t k) }

seated_once : (s : Seat) (e : Tree) → Unlexical e → early_names [] (seated s e) ≡ clashing [] (declared_beside s) ++ (early_names (0 ∷ []) e ++ names_beside s)
unfolding declared_beside names_beside early_names scope_declarations
seated_once (Loop u v w) e k = ap (λ ds. clashing [] (ds ++ declarations declared.Hoisted false (3 ∷ []) w) ++ (early_names (0 ∷ []) e ++ all_early_names [] 1 (u ▸ (v ▸ (w ▸ none))))) (k.nowhere (0 ∷ []))
seated_once (Choice cases) e k = refl

pub once_down : (s : Seat) (e : Tree) → Unlexical e → Once AsWholeItem (seated s e) → Once AsValue e × ((clashing [] (declared_beside s) ≡ []) × (names_beside s ≡ []))
once_down s e k q =
    let (x, y) = empty_both (clashing [] (declared_beside s)) (early_names (0 ∷ []) e ++ names_beside s) (sym (seated_once s e k) ∙ q) in
    let (z, w) = empty_both (early_names (0 ∷ []) e) (names_beside s) y in
    (once_anywhere (0 ∷ []) [] e z, (x, w))

pub once_up : (s : Seat) (e : Tree) → Unlexical e → Once AsValue e → (clashing [] (declared_beside s) ≡ []) × (names_beside s ≡ []) → Once AsWholeItem (seated s e)
once_up s e k q r =
    seated_once s e k ∙ both_empty (clashing [] (declared_beside s)) (early_names (0 ∷ []) e ++ names_beside s) r.0 (both_empty (early_names (0 ∷ []) e) (names_beside s) (once_anywhere [] (0 ∷ []) e q) r.1)

-- ---- scopes

no_scope : (e : Tree) → Unlexical e → lexical_scope (lexical_names e) ≡ []
unfolding with_names
no_scope e k = ap lexical_scope k.names

abbrev scope_of : Seat → List (List Binding)
scope_of (Loop u v w) = [] ∷ []
scope_of (Choice cases) = [] ∷ lexical_scope (lexical_names cases) ∷ []

abbrev shape_at : Seat → Shape
shape_at (Loop u v w) = shape.ForStatement
shape_at (Choice cases) = shape.SwitchStatement

pub ScopedBeside : Seat → Environment → Type 0
ScopedBeside s env = AllScoped (at_or_empty (scope_of s)) (use_of (shape_at s) Read) 1 (env ++ []) (rest s)

pub scoped_down : (env : Environment) (s : Seat) (e : Tree) → Unlexical e → Scoped Read env (seated s e) → Scoped Read env e × ScopedBeside s env
unfolding Scoped scopes_by ScopedBeside
scoped_down env (Loop u v w) e k q =
    let a = subst (λ bs. AllScoped (at_or_empty (bs ∷ [])) (use_of shape.ForStatement Read) 0 env (e ▸ (u ▸ (v ▸ (w ▸ none))))) (no_scope e k) q.1 in
    (subst (λ r. Scoped Read r e) (append-nil env) a.0, a.1)
scoped_down env (Choice cases) e k q = (subst (λ r. Scoped Read r e) (append-nil env) q.1.0, q.1.1)

pub scoped_up : (env : Environment) (s : Seat) (e : Tree) → Unlexical e → Scoped Read env e → ScopedBeside s env → Scoped Read env (seated s e)
unfolding Scoped scopes_by ScopedBeside
scoped_up env (Loop u v w) e k q r = (tt, subst (λ bs. AllScoped (at_or_empty (bs ∷ [])) (use_of shape.ForStatement Read) 0 env (e ▸ (u ▸ (v ▸ (w ▸ none))))) (sym (no_scope e k)) (subst (λ r. Scoped Read r e) (sym (append-nil env)) q, r))
scoped_up env (Choice cases) e k q r = (tt, (subst (λ r. Scoped Read r e) (sym (append-nil env)) q, r))

pub symbols_beside : Use → Seat → List (Option SymbolId)
symbols_beside u s = declared_from (at_or_empty (scope_of s)) (use_of (shape_at s) u) 1 (rest s)

pub seated_symbols : (u : Use) (s : Seat) (e : Tree) → Unlexical e → declared_in u (seated s e) ≡ declared_in Read e ++ symbols_beside u s
unfolding declared_in scopes_by symbols_beside
seated_symbols x (Loop u v w) e k = ap (λ bs. declared_from (at_or_empty (bs ∷ [])) (use_of shape.ForStatement x) 0 (e ▸ (u ▸ (v ▸ (w ▸ none))))) (no_scope e k)
seated_symbols x (Choice cases) e k = refl

-- ---- names

unfoldable pub hoisted_beside : Seat → List Name
hoisted_beside s = all_names declared.Hoisted (rest s)

pub seated_hoists : (s : Seat) (e : Tree) → is_value (shape_of e) ≡ true → names_of declared.Hoisted (seated s e) ≡ hoisted_beside s
unfolding names_of hoisted_beside
seated_hoists (Loop u v w) e k = ap (λ r. r ++ all_names declared.Hoisted (u ▸ (v ▸ (w ▸ none)))) (no_names declared.Hoisted e (quiet_value e k))
seated_hoists (Choice cases) e k = ap (λ r. r ++ all_names declared.Hoisted (cases ▸ none)) (no_names declared.Hoisted e (quiet_value e k))

-- a statement that declares nothing but what it hoists
pub seated_names : (d : Declared) (s : Seat) (e j : Tree) → names_of declared.Hoisted (seated s j) ≡ names_of declared.Hoisted (seated s e) → names_of d (seated s j) ≡ names_of d (seated s e)
unfolding names_of
seated_names declared.Bound (Loop u v w) e j k = refl
seated_names declared.Bound (Choice cases) e j k = refl
seated_names declared.Lexical (Loop u v w) e j k = refl
seated_names declared.Lexical (Choice cases) e j k = refl
seated_names declared.Hoisted s e j k = k

pub seated_body : (s : Seat) (e : Tree) → body_names (seated s e) ≡ names_of declared.Hoisted (seated s e)
unfolding body_names names_of
seated_body (Loop u v w) e = refl
seated_body (Choice cases) e = refl

pub seated_as_body : (o : Bool) (s : Seat) (e : Tree) → as_body o (seated s e) ≡ own_declarations false [] (names_of declared.Hoisted (seated s e))
unfolding names_of
seated_as_body o (Loop u v w) e = refl
seated_as_body o (Choice cases) e = refl

pub seated_port : (m : Bool) (s : Seat) (e : Tree) → port m (seated s e) ≡ []
seated_port m (Loop u v w) e = refl
seated_port m (Choice cases) e = refl

pub seated_calm : (s : Seat) (e : Tree) → Valued AsWholeItem (seated s e)
seated_calm (Loop u v w) e = (refl, refl)
seated_calm (Choice cases) e = (refl, refl)

-- ---- the expression before, and the statement

pub statement_names : (d : Declared) (e : Tree) → names_of d (expression_statement e) ≡ []
unfolding names_of
statement_names declared.Bound e = refl
statement_names declared.Lexical e = refl
statement_names declared.Hoisted e = refl

pub statement_body : (e : Tree) → body_names (expression_statement e) ≡ []
unfolding body_names names_of
statement_body e = refl

pub statement_as_body : (o : Bool) (e : Tree) → as_body o (expression_statement e) ≡ []
unfolding names_of
statement_as_body o e = refl

module _ (s : Seat) (e d j : Tree) (joins : Joins e d j) where
  abbrev two : Trees
  two = expression_statement e ▸ (seated s d ▸ none)

  abbrev one_there : Trees
  one_there = seated s j ▸ none

  one_of : (J : Leap → Type 0) (Q : Asked → Tree → Type 0) → Local J Q → (R : Type 0) → (Q AsWholeItem (seated s d) → Q AsValue d × R) → (Q AsValue j → R → Q AsWholeItem (seated s j)) → All Q AsWholeItem two → All Q AsWholeItem one_there
  one_of J Q l R down up x = let (y, r) = down x.1.0 in (up (joins.all J Q l (of_statement J Q l e x.0) y) r, tt)

  two_of : (Q : Asked → Tree → Type 0) → Local Any Q → (R : Type 0) → (Q AsWholeItem (seated s j) → Q AsValue j × R) → (Q AsValue d → R → Q AsWholeItem (seated s d)) → All Q AsWholeItem one_there → All Q AsWholeItem two
  two_of Q l R down up x =
      let (y, r) = down x.0 in
      let (v, w) = joins.back Q l y in
      (statement_of Any Q l e v, (up w r, tt))

  numbers_one : (k : ℕ) → sum_all (number_times k) AsWholeItem one_there ≤ sum_all (number_times k) AsWholeItem two
  numbers_one k =
      let is = λ (t : Tree). ap (count_of k) (numbers_beside s t) in
      let both = λ (t : Tree). both_counts k (numbers t) (all_numbers (rest s)) in
      omega (arith, is j, is d, both j, both d, sum_statement (number_times k) (numbers_summed k) e, joins.sum (number_times k) (numbers_summed k))

  module _ (of_d : is_value (shape_of d) ≡ true) (of_j : is_value (shape_of j) ≡ true) where
    hoists_same : names_of declared.Hoisted (seated s j) ≡ names_of declared.Hoisted (seated s d)
    hoists_same = seated_hoists s j of_j ∙ sym (seated_hoists s d of_d)

    body_same : body_names (seated s j) ≡ body_names (seated s d)
    body_same = seated_body s j ∙ hoists_same ∙ sym (seated_body s d)

    as_body_same : (o : Bool) → as_body o (seated s j) ≡ as_body o (seated s d)
    as_body_same o = seated_as_body o s j ∙ ap (own_declarations false []) hoists_same ∙ sym (seated_as_body o s d)

    symbols_one : (u : Use) (x : Option SymbolId) → sum_all (symbol_times u x) AsWholeItem one_there ≤ sum_all (symbol_times u x) AsWholeItem two
    symbols_one u x =
        let beside = symbols_beside u s in
        let of_joined = ap (times x) (seated_symbols u s j (value_unlexical j of_j)) in
        let of_first = ap (times x) (seated_symbols u s d (value_unlexical d of_d)) in
        omega (
          arith,
          of_joined,
          of_first,
          times_both x (declared_in Read j) beside,
          times_both x (declared_in Read d) beside,
          sum_statement (symbol_times u x) (symbols_summed u x) e,
          joins.sum (symbol_times u x) (symbols_summed u x),
        )

    names_one : NamesStretched two one_there
    names_one = record {
      names = λ k. ap (λ r. r ++ []) (seated_names k s d j hoists_same) ∙ sym (ap (λ r. r ++ (names_of k (seated s d) ++ [])) (statement_names k e));
      body = ap (λ r. r ++ []) body_same ∙ sym (ap (λ r. r ++ (body_names (seated s d) ++ [])) (statement_body e));
      as_body = λ o. ap (λ r. r ++ []) (as_body_same o) ∙ sym (ap (λ r. r ++ (as_body o (seated s d) ++ [])) (statement_as_body o e));
      ports = λ m. ap (λ r. r ++ []) (seated_port m s j ∙ sym (seated_port m s d));
      scoped = λ env. one_of Any (ScopedAs Read env) (scoped_local Read env) (ScopedBeside s env) (scoped_down env s d (value_unlexical d of_d)) (scoped_up env s j (value_unlexical j of_j));
      symbols = symbols_one;
      once = one_of Any Once once_local ((clashing [] (declared_beside s) ≡ []) × (names_beside s ≡ [])) (once_down s d (value_unlexical d of_d)) (once_up s j (value_unlexical j of_j));
    }

  module _ (values : (strict : Bool) (k : Depth) → fill strict (each (one (a_statement k))) two ≡ true → (is_value (shape_of d) ≡ true) × (is_value (shape_of j) ≡ true)) where
    stretched_one : Stretched two one_there
    stretched_one = record {
      named = λ strict k f. let (x, y) = values strict k f in names_one x y;
      calm = λ strict k f. (seated_calm s j, tt);
      inner = λ b. one_of Any (InnerIf b) (inner_local b) ((any_inner (rest s) || b) ≡ b) (inner_down b s d) (inner_up b s j);
      inner_back = λ b. two_of (InnerIf b) (inner_local b) ((any_inner (rest s) || b) ≡ b) (inner_down b s j) (inner_up b s d);
      fixed = λ x k. one_of Any (FixedBy x k) (fixed_local x k) (rank (fixed_by_any (rest s) x) ≤ k) (fixed_down x k s d) (fixed_up x k s j);
      fixed_back = λ x k. two_of (FixedBy x k) (fixed_local x k) (rank (fixed_by_any (rest s) x) ≤ k) (fixed_down x k s j) (fixed_up x k s d);
      declares = λ xs. one_of Any (Declares xs) (declares_local xs) (Among xs (declared_all (rest s))) (declares_down xs s d) (declares_up xs s j);
      frames = λ fs. one_of Any (HasFrames fs) (frames_local fs) (FramesKept fs (frames_beside s)) (frames_down fs s d) (frames_up fs s j);
      bodies = λ bs r. one_of Any (HasBodies bs r) (bodies_local bs r) (BodiesKept bs (bodies_from (λ i. quiet r) 1 (rest s))) (bodies_down bs r s d) (bodies_up bs r s j);
      targets = λ g. one_of (HasTarget g) (Aimed g) (aimed_local g) (jumps_beside g s ≡ []) (aimed_down g s d) (aimed_up g s j);
      numbers = numbers_one;
    }

    seat_kept : (before after : Trees) (n w : Tree) (a b : Trees) → a ≡ two → b ≡ one_there → n ≡ listed (append before (append a after)) → w ≡ listed (append before (append b after)) → KeptAt StatementList n w
    seat_kept before after n w a b p q f g =
        subst (λ t. KeptAt StatementList t w) (sym (f ∙ ap (λ ts. listed (append before (append ts after))) p))
        (subst (KeptAt StatementList (listed (append before (append two after)))) (sym (g ∙ ap (λ ts. listed (append before (append ts after))) q)) (stretch_kept before after two one_there stretched_one))

-- ---- they are expressions

pub expression_value : (strict : Bool) (k : Depth) (e : Tree) → fits strict (one (a_statement k)) (expression_statement e) ≡ true → is_value (shape_of e) ≡ true
expression_value strict k e f = (sketch_valued (record { trees = e ▸ none; lists = [] }) strict AsWholeItem (one (a_statement k)) (under OfExpression (part 0 ▹ end)) refl f).0

is_refused : Filling → Bool
is_refused refused = true
is_refused g = false

refused_is : (g : Filling) → is_refused g ≡ true → g ≡ refused
unfolding is_refused
refused_is refused e = refl
refused_is g e = absurd (cc e)

is_variables : Shape → Bool
is_variables (shape.VariableDeclaration k) = true
is_variables h = false

init_or_refused : (strict : Bool) (h : Shape) → (is_value h || (is_variables h || is_refused (filling strict (one_or_absent an_init) h))) ≡ true
unfolding is_variables is_refused
init_or_refused strict (shape.Function true g ds) = refl
init_or_refused strict (shape.Function false g ds) = refl
init_or_refused strict (shape.Class true) = refl
init_or_refused strict (shape.Class false) = refl
init_or_refused strict h = refl

variables_declare : (h : Shape) (b : Bool) → is_variables h ≡ true → declares_nothing_by h b ≡ true → ⊥
unfolding is_variables
variables_declare (shape.VariableDeclaration k) b e f = cc f
variables_declare h b e f = cc e

init_value : (strict : Bool) (e : Tree) → declares_nothing e ≡ true → fits strict (one_or_absent an_init) e ≡ true → is_value (shape_of e) ≡ true
init_value strict (node h xs n ts) k f = by (is_value h) (is_variables h) refl (init_or_refused strict h)
  where
    by : (a b : Bool) → is_variables h ≡ b → (a || (b || is_refused (filling strict (one_or_absent an_init) h))) ≡ true → a ≡ true
    by true b e g = refl
    by false true e g = absurd (variables_declare h (first_declares_nothing ts) e k)
    by false false e g = absurd (refused_here strict (one_or_absent an_init) h xs n ts (refused_is (filling strict (one_or_absent an_init) h) g) f)

parts_value : (strict : Bool) (q : Tree) (qs : Trees) → are_parts q qs ≡ true → fits strict (one_or_absent an_init) (of_parts q qs) ≡ true → is_value (shape_of (of_parts q qs)) ≡ true
parts_value strict q none k f = init_value strict q (right (is_one_part_shape (shape_of q)) (declares_nothing q) k) f
parts_value strict q (t ▸ qs) k f = refl

pub both_value : (p : Tree) (ps : Trees) (q : Tree) (qs : Trees) → is_value (shape_of (of_parts p (append ps (q ▸ qs)))) ≡ true
both_value p none q qs = refl
both_value p (t ▸ ps) q qs = refl

pub first_of : (strict : Bool) (k : Depth) (t : Tree) (ts : Trees) → fill strict (each (one (a_statement k))) (t ▸ ts) ≡ true → fits strict (one (a_statement k)) t ≡ true
first_of strict k t ts f = left (fits strict (one (a_statement k)) t) (fill strict (each (one (a_statement k))) ts) f

pub second_of : (strict : Bool) (k : Depth) (t u : Tree) (ts : Trees) → fill strict (each (one (a_statement k))) (t ▸ (u ▸ ts)) ≡ true → fits strict (one (a_statement k)) u ≡ true
second_of strict k t u ts f = first_of strict k u ts (right (fits strict (one (a_statement k)) t) (fill strict (each (one (a_statement k))) (u ▸ ts)) f)

choice_value : (strict : Bool) (k : Depth) (e cases : Tree) → fits strict (one (a_statement k)) (switch e cases) ≡ true → is_value (shape_of e) ≡ true
choice_value strict k e cases f =
    (sketch_valued (record { trees = e ▸ none; lists = [] }) strict AsValue (one an_expression) (part 0) refl (left (fits strict (one an_expression) e) (fits strict (many a_case) cases && true) f)).0

loop_value : (strict : Bool) (k : Depth) (q : Tree) (qs : Trees) (u v w : Tree) → are_parts q qs ≡ true → fits strict (one (a_statement k)) (for_loop (of_parts q qs) u v w) ≡ true → is_value (shape_of (of_parts q qs)) ≡ true
loop_value strict k q qs u v w h f =
    parts_value strict q qs h
    (left (fits strict (one_or_absent an_init) (of_parts q qs)) (fits strict (one_or_absent an_expression) u && (fits strict (one_or_absent an_expression) v && (fits strict (one (a_statement nested)) w && true))) f)

-- ---- rows

-- `a; for (; b; c) d` and `for (a; b; c) d` in a list
pub absent_for_kept : (before after : Trees) (n w : Tree) (a b : Trees) → Row67Absent a b → n ≡ listed (append before (append a after)) → w ≡ listed (append before (append b after)) → KeptAt StatementList n w
absent_for_kept before after n w a b r f g =
    let e = of_parts r.p r.ps in
    let s = Loop r.test r.update r.body in
    seat_kept s e absent e (absent_joins e) (λ strict k h. (refl, expression_value strict k e (first_of strict k (expression_statement e) (seated s absent ▸ none) h))) before after n w a b r.shape r.written f g

-- `a; for (b; c; d) e` and `for (a, b; c; d) e`
pub for_kept : (before after : Trees) (n w : Tree) (a b : Trees) (u v z : Tree) (r : Row67 a b) → r.head ≡ For u v z → n ≡ listed (append before (append a after)) → w ≡ listed (append before (append b after)) → KeptAt StatementList n w
for_kept before after n w a b u v z r h f g =
    let e = of_parts r.p r.ps in
    let d = of_parts r.q r.qs in
    let j = of_parts r.p (append r.ps (r.q ▸ r.qs)) in
    let s = Loop u v z in
    seat_kept s e d j (parts_join r.p r.ps r.q r.qs) (λ strict k i. (loop_value strict k r.q r.qs u v z r.second (second_of strict k (expression_statement e) (seated s d) none i), both_value r.p r.ps r.q r.qs)) before after n w a b
    (r.shape ∙ ap (λ x. expression_statement e ▸ (with_head x d ▸ none)) h) (r.written ∙ ap (λ x. with_head x j ▸ none) h) f g

-- `a; switch (b) { .. }` and `switch (a, b) { .. }`
pub switch_kept : (before after : Trees) (n w : Tree) (a b : Trees) (cases : Tree) (r : Row67 a b) → r.head ≡ Switch cases → n ≡ listed (append before (append a after)) → w ≡ listed (append before (append b after)) → KeptAt StatementList n w
switch_kept before after n w a b cases r h f g =
    let e = of_parts r.p r.ps in
    let d = of_parts r.q r.qs in
    let j = of_parts r.p (append r.ps (r.q ▸ r.qs)) in
    let s = Choice cases in
    seat_kept s e d j (parts_join r.p r.ps r.q r.qs) (λ strict k i. (choice_value strict k d cases (second_of strict k (expression_statement e) (seated s d) none i), both_value r.p r.ps r.q r.qs)) before after n w a b
    (r.shape ∙ ap (λ x. expression_statement e ▸ (with_head x d ▸ none)) h) (r.written ∙ ap (λ x. with_head x j ▸ none) h) f g

heads_kept : (before after : Trees) (n w : Tree) (a b : Trees) (r : Row67 a b) → (h : Head) → r.head ≡ h → opens_scope h ≡ true → n ≡ listed (append before (append a after)) → w ≡ listed (append before (append b after)) → KeptAt StatementList n w
heads_kept before after n w a b r (For u v z) h o f g = for_kept before after n w a b u v z r h f g
heads_kept before after n w a b r (Switch cases) h o f g = switch_kept before after n w a b cases r h f g
heads_kept before after n w a b r x h o f g = absurd (cc o)

row_kept : (before after : Trees) (n w : Tree) (a b : Trees) → OpeningRow a b → n ≡ listed (append before (append a after)) → w ≡ listed (append before (append b after)) → KeptAt StatementList n w
row_kept before after n w a b (inl r) f g = heads_kept before after n w a b r.row r.row.head refl r.opens f g
row_kept before after n w a b (inr r) f g = absent_for_kept before after n w a b r f g

pub opening_lists_kept : OpeningListsKept
opening_lists_kept n w r = row_kept r.before r.after n w r.read r.put r.row r.shape r.written

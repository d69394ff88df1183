-- An assignment that begins the statement after a `var`, and becomes an initializer in it, is kept.
use Rattle.std.specs.Prelude.{ℕ, ◌+◌, ◌≤◌, ◌≡◌, refl, not, ◌&&◌, ◌||◌, Bool, true, false, List, [], ◌∷◌, ◌++◌, Option}
use Rattle.std.proofs.Common.{ap, ◌∙◌, sym, subst, arith, true≢false}
use Rattle.std.proofs.lemmas.Bool.{and_parts}
use Rattle.mini_model.specs.declared.kind.VariableDeclarationKind.{VariableDeclarationKind}
use Rattle.mini_model.specs.declared.kind.VariableDeclarationKind.TheVariants.{Var, Let}
use Rattle.mini_model.specs.declared.name.Name.{Name}
use Rattle.mini_model.specs.declared.name.SymbolId.{SymbolId}
use Rattle.mini_model.specs.declared.operator.AssignmentOperator.TheVariants.{Assign}
use Rattle.mini_model.specs.declared.place.Position.TheVariants.{StatementList}
use Rattle.mini_model.specs.declared.shape.Shape.TheVariants as shape
use Rattle.mini_model.specs.Tree.{Tree, Trees, node, none, ◌▸◌, absent, is_absent, listed, identifier, shape_of, expression_statement, if_else}
use Rattle.mini_model.specs.Paths.{append}
use Rattle.mini_accept.specs.WellShaped.{Depth, a_loop_left, a_statement, a_case, an_init, an_expression, one, one_or_absent, many, each, fits, fill, nested}
use Rattle.mini_laws.specs.declared.names.Use.{Use}
use Rattle.mini_laws.specs.declared.names.Use.TheVariants.{Read}
use Rattle.mini_laws.specs.declared.names.Declared.{Declared}
use Rattle.mini_laws.specs.declared.names.Declared.TheVariants as declared
use Rattle.mini_laws.specs.declared.names.Targets.{Targets}
use Rattle.mini_laws.specs.DeclaredNames.{lexical_names, has_inner, any_inner, names_of, all_names, body_names}
use Rattle.mini_laws.specs.Scopes.{scopes_by, lexical_scope}
use Rattle.mini_laws.specs.Resolved.{Environment}
use Rattle.mini_laws.specs.Symbols.{declared as declared_in, symbols_in, times}
use Rattle.mini_laws.specs.Early.{clashing, own_declarations, declarations}
use Rattle.mini_laws.proofs.Changes.{times_both}
use Rattle.mini_laws.specs.Value.{Variable, VariableSet}
use Rattle.mini_laws.specs.State.{Writable}
use Rattle.mini_laws.specs.Fixity.{fixity_by, fixed_by, fixed_by_any}
use Rattle.mini_laws.specs.Bodies.{Around, Body, bodies_from}
use Rattle.mini_kept.specs.AlikeBodies.{BodiesKept}
use Rattle.mini_kept.specs.Carried.{numbers, all_numbers}
use Rattle.mini_kept.specs.Declaring.{declared_all}
use Rattle.mini_kept.specs.Frames.{Frame, FramesKept}
use Rattle.mini_kept.specs.KeepsNames.{count_of}
use Rattle.mini_kept.proofs.Anywhere.{once_anywhere, targets_anywhere}
use Rattle.mini_kept.proofs.Below.{both_counts}
use Rattle.mini_kept.proofs.Bools.{left}
use Rattle.mini_kept.proofs.Fixed.{of_children}
use Rattle.mini_kept.proofs.Quiet.{no_names}
use Rattle.mini_kept.proofs.Unplaced.{as_body}
use Rattle.mini_rows.specs.Lists.{sequence, return_statement, throw_statement, of_parts, Return, Throw, If, Switch, For, resolved, declarator, assigned, Holder, Statement, Heading, Going, Declaring, Looping, for_loop, holding, holds_well, begins_well, are_parts, declaration, Each, EachIn, EachOf, each_loop, Beginning, Alone, Init, Before, begun, begun_without, InList, Row70}
use Rattle.mini_rows.specs.DeadCases.{known}
use Rattle.mini_rows.specs.Lets.{Row70Let}
use Rattle.mini_rows.specs.Arranged.{KeptAt}
use Rattle.mini_rows.specs.Sketches.{AList, Assignment, part, Asked, AsWholeList, AsWholeItem, AsValue, AsTarget, AsBranch, Leap, leaps}
use Rattle.mini_rows.specs.Sketches as sketch
use Rattle.mini_rows.proofs.Arranging.{All, Any, Leaping, Local, sum_all, Summed}
use Rattle.mini_rows.proofs.ArrangedNames.{ScopedAs, scoped_local, symbol_times, symbols_summed, number_times, numbers_summed, InnerIf, inner_local, Once, once_local, HasTarget, Aimed, aimed_local}
use Rattle.mini_rows.proofs.ArrangedBodies.{quiet, HasBodies, bodies_local, HasFrames, frames_local, Among, Declares, declares_local, FixedBy, fixed_local, rank}
use Rattle.mini_rows.proofs.ArrangedValues.{is_value, Valued, sketch_valued}
use Rattle.mini_rows.proofs.ArrangedFolds.{port}
use Rattle.mini_rows.proofs.ArrangedGather.{concat}
use Rattle.mini_rows.proofs.ListShapes as shape_law
use Rattle.mini_rows.proofs.ListShapes.{of_expression, of_return, of_throw, of_if, parts_fit, of_parts_fits, first_fits}
use Rattle.mini_rows.proofs.ListKeptValues.{Opens, Names, stricter_alone, bare, given, inner_value, no_inner, fixed_value, fixed_bare, frames_value, bodies_value, numbers_value, symbols_value, once_value, jumps_value, scoped_value, among_value}
use Rattle.mini_rows.proofs.ListKeptSpots as spots
use Rattle.mini_rows.proofs.WrittenNames.{target_found}
use Rattle.mini_rows.proofs.ListKeptKeys.{left_lexical, left_scope}
use Rattle.mini_rows.proofs.ListKeptStretch.{stretched, parted, sum_joined, NamesStretched, Stretched, stretch_kept}
use Rattle.mini_rows.proofs.ListKeptDeclarations.{over, names_if, is_var, declares_as, scope_if, opens, used, names_are, body_are, declarations_are, all_both, scoped_down as var_scoped_down, scoped_up as var_scoped_up, symbols_are, inner_is, numbers_are, declared_are, frames_are, bodies_are, once_is, jumps_are}
use Rattle.mini_rows.proofs.ListKeptHeads.{parts_of_it, it_of_parts, of_statement, statement_of, nothing_there, sum_parts, sum_statement, Seat, Loop, Choice, seated, rest, quiet_value, inner_down, inner_up, fixed_down, fixed_up, declares_down, declares_up, frames_beside, frames_down, frames_up, bodies_down, bodies_up, numbers_beside, jumps_beside, aimed_down, aimed_up, Unlexical, value_unlexical, declared_beside, names_beside, once_down, once_up, ScopedBeside, scoped_down, scoped_up, symbols_beside, seated_symbols, seated_hoists, seated_names, seated_body, seated_as_body, seated_port, seated_calm, statement_names, statement_body, statement_as_body, second_of}

-- ---- a statement that holds an expression, and what is beside that

-- what has to be known of the expression in the statement, and of the one that is left
Needs : (P F : Tree → Type 0) → (Holder → Type 0) → Beginning → Tree → Type 0
Needs P F H Alone a = Unit {0}
Needs P F H (Init u v w) a = P a × P absent
Needs P F H (Before h q qs) a = H h × ((P (sequence (a ▸ (q ▸ qs))) × P (of_parts q qs)) × (F (sequence (a ▸ (q ▸ qs))) × F (of_parts q qs)))

-- nothing of the statement
abbrev pub anything : Holder → Type 0
anything h = Unit {0}

-- of what stands in a statement that opens a scope or on the right of a loop, of which P is known, or as a first initializer, of
-- which F is
pub record Spots (Q : Asked → Tree → Type 0) (P F : Tree → Type 0) (H : Holder → Type 0) : Type 1 where
  pub seats : (s : Seat) (e d : Tree) → P e → P d → Opens Q (seated s) e d
  pub loops : (k : Each) (l w : Tree) → H (Going k l w) → (e d : Tree) → P e → P d → Opens Q (λ t. each_loop k l t w) e d
  pub firsts : (kind : VariableDeclarationKind) (id : Tree) (ds : Trees) (e d : Tree) → F e → F d → Opens Q (λ t. declaration kind (declarator id t ▸ ds)) e d
  pub looped : (id : Tree) (ds : Trees) (u v w e d : Tree) → F e → F d → Opens Q (λ t. for_loop (declaration Var (declarator id t ▸ ds)) u v w) e d

-- a declaration stands in the head of a `for` as an expression does
pub through : (Q : Asked → Tree → Type 0) → ((t : Tree) → Q AsValue t → Q AsWholeItem t) → ((t : Tree) → Q AsWholeItem t → Q AsValue t) → (f g : Tree → Tree) (e d : Tree) → Opens Q g (f e) (f d) → Opens Q f e d → Opens Q (λ t. g (f t)) e d
through Q as_item as_value f g e d o i = record {
  Beside = i.Beside × o.Beside;
  down = λ q.
      let (x, r) = o.down q in
      let (y, b) = i.down (as_item (f e) x) in
      (y, (b, r));
  up = λ q r. o.up (as_value (f d) (i.up q r.0)) r.1;
}

-- which declares no lexical name
var_unlexical : (ds : Trees) → Unlexical (declaration Var ds)
unfolding names_of declarations
var_unlexical ds = record { names = refl; nowhere = λ p. refl }

module _ (J : Leap → Type 0) (Q : Asked → Tree → Type 0) (l : Local J Q) where
  statement_opens : (e d : Tree) → Opens Q expression_statement e d
  statement_opens e d = record { Beside = Unit {0}; down = λ q. (of_statement J Q l e q, tt); up = λ q r. statement_of J Q l d q }

  return_opens : (e d : Tree) → Opens Q return_statement e d
  return_opens e d = record {
    Beside = Leaping J (leaps sketch.Return);
    down = λ q. let (x, y) = l.down sketch.Return AsWholeItem (e ▸ none) tt q in (y.0, x);
    up = λ q r. l.up sketch.Return AsWholeItem (d ▸ none) tt r (q, tt);
  }

  throw_opens : (e d : Tree) → Opens Q throw_statement e d
  throw_opens e d = record { Beside = Unit {0}; down = λ q. ((l.down sketch.Throw AsWholeItem (e ▸ none) tt q).1.0, tt); up = λ q r. l.up sketch.Throw AsWholeItem (d ▸ none) tt tt (q, tt) }

  if_opens : (u v e d : Tree) → Opens Q (λ t. if_else t u v) e d
  if_opens u v e d = record {
    Beside = Q AsBranch u × Q AsBranch v;
    down = λ q. let y = (l.down sketch.If AsWholeItem (e ▸ (u ▸ (v ▸ none))) tt q).1 in (y.0, (y.1.0, y.1.1.0));
    up = λ q r. l.up sketch.If AsWholeItem (d ▸ (u ▸ (v ▸ none))) tt tt (q, (r.0, (r.1, tt)));
  }

  holder_opens : (P F : Tree → Type 0) (H : Holder → Type 0) → Spots Q P F H → (e d : Tree) → P e × P d → F e × F d → (h : Holder) → H h → Opens Q (holding h) e d
  holder_opens P F H k e d p f Statement n = statement_opens e d
  holder_opens P F H k e d p f (Heading Return) n = return_opens e d
  holder_opens P F H k e d p f (Heading Throw) n = throw_opens e d
  holder_opens P F H k e d p f (Heading (If u v)) n = if_opens u v e d
  holder_opens P F H k e d p f (Heading (Switch cases)) n = k.seats (Choice cases) e d p.0 p.1
  holder_opens P F H k e d p f (Heading (For u v w)) n = k.seats (Loop u v w) e d p.0 p.1
  holder_opens P F H k e d p f (Going c l w) n = k.loops c l w n e d p.0 p.1
  holder_opens P F H k e d p f (Declaring kind x ds) n = k.firsts kind x ds e d f.0 f.1
  holder_opens P F H k e d p f (Looping x ds u v w) n = k.looped x ds u v w e d f.0 f.1

  module _ (P F : Tree → Type 0) (H : Holder → Type 0) (k : Spots Q P F H) where
    -- an assignment, and what is left without it
    apart : (b : Beginning) (a : Tree) → Needs P F H b a → Q AsWholeItem (begun b a) → Q AsValue a × All Q AsWholeItem (begun_without b)
    unfolding Needs
    apart Alone a n q = (of_statement J Q l a q, tt)
    apart (Init u v w) a n q =
        let o = k.seats (Loop u v w) a absent n.0 n.1 in
        let (x, r) = o.down q in
        (x, (o.up (nothing_there J Q l) r, tt))
    apart (Before h p ps) a n q =
        let o = holder_opens P F H k (sequence (a ▸ (p ▸ ps))) (of_parts p ps) n.1.0 n.1.1 h n.0 in
        let (x, r) = o.down q in
        let all = parts_of_it J Q l a (p ▸ ps) x in
        (all.0, (o.up (it_of_parts J Q l p ps all.1) r, tt))

    -- what is assigned to, and the value
    assigned_parts : (x : Name) (value : Tree) → Q AsValue (assigned x value) → Q AsTarget (identifier x) × Q AsValue value
    assigned_parts x value q = let (j, (t, (v, z))) = l.down (Assignment Assign) AsValue (identifier x ▸ (value ▸ none)) tt q in (t, v)

-- both together again
module _ (Q : Asked → Tree → Type 0) (l : Local Any Q) (k : Spots Q (λ t. Unit {0}) (λ t. Unit {0}) anything) where
  together : (b : Beginning) (a : Tree) → Q AsValue a → All Q AsWholeItem (begun_without b) → Q AsWholeItem (begun b a)
  together Alone a q r = statement_of Any Q l a q
  together (Init u v w) a q r = let o = k.seats (Loop u v w) absent a tt tt in o.up q (o.down r.0).1
  together (Before h p ps) a q r =
      let o = holder_opens Any Q l (λ t. Unit {0}) (λ t. Unit {0}) anything k (of_parts p ps) (sequence (a ▸ (p ▸ ps))) (tt, tt) (tt, tt) h tt in
      let (x, y) = o.down r.0 in
      o.up (it_of_parts Any Q l a (p ▸ ps) (q, parts_of_it Any Q l p ps x)) y

  assigned_of : (x : Name) (value : Tree) → Q AsTarget (identifier x) → Q AsValue value → Q AsValue (assigned x value)
  assigned_of x value t q = l.up (Assignment Assign) AsValue (identifier x ▸ (value ▸ none)) tt tt (t, (q, tt))

-- ---- sums

pub record Sums (m : Asked → Tree → ℕ) (P : Tree → Type 0) : Type 0 where
  pub seats : (s : Seat) → (c : ℕ) × ((e : Tree) → P e → m AsWholeItem (seated s e) ≡ m AsValue e + c)
  pub loops : (k : Each) (l w : Tree) → (c : ℕ) × ((e : Tree) → m AsWholeItem (each_loop k l e w) ≡ m AsValue e + c)
  pub firsts : (kind : VariableDeclarationKind) (id : Tree) (ds : Trees) → (c : ℕ) × ((e : Tree) → m AsWholeItem (declaration kind (declarator id e ▸ ds)) ≡ m AsValue e + c)
  pub looped : (id : Tree) (ds : Trees) (u v w : Tree) → (c : ℕ) × ((e : Tree) → m AsWholeItem (for_loop (declaration Var (declarator id e ▸ ds)) u v w) ≡ m AsValue e + c)

module _ (m : Asked → Tree → ℕ) (l : Summed m) (P : Tree → Type 0) (k : Sums m P) where
  held_sum : (h : Holder) → (c : ℕ) × ((e : Tree) → P e → m AsWholeItem (holding h e) ≡ m AsValue e + c)
  held_sum Statement = (0, λ e p. omega (arith, sum_statement m l e))
  held_sum (Heading Return) = (0, λ e p. omega (arith, l sketch.Return AsWholeItem (e ▸ none) tt))
  held_sum (Heading Throw) = (0, λ e p. omega (arith, l sketch.Throw AsWholeItem (e ▸ none) tt))
  held_sum (Heading (If u v)) = (m AsBranch u + m AsBranch v, λ e p. omega (arith, l sketch.If AsWholeItem (e ▸ (u ▸ (v ▸ none))) tt))
  held_sum (Heading (Switch cases)) = k.seats (Choice cases)
  held_sum (Heading (For u v w)) = k.seats (Loop u v w)
  held_sum (Going c x w) = let (n, is) = k.loops c x w in (n, λ e p. is e)
  held_sum (Declaring kind x ds) = let (n, is) = k.firsts kind x ds in (n, λ e p. is e)
  held_sum (Looping x ds u v w) = let (n, is) = k.looped x ds u v w in (n, λ e p. is e)

  begun_sum : m AsValue absent ≡ 0 → (b : Beginning) (a : Tree) → Needs P (λ t. Unit {0}) anything b a → m AsValue a + sum_all m AsWholeItem (begun_without b) ≤ m AsWholeItem (begun b a)
  unfolding Needs
  begun_sum z Alone a n = omega (arith, sum_statement m l a)
  begun_sum z (Init u v w) a n = let (c, is) = k.seats (Loop u v w) in omega (arith, is a n.0, is absent n.1, z)
  begun_sum z (Before h q qs) a n =
      let (c, is) = held_sum h in
      omega (arith, is (sequence (a ▸ (q ▸ qs))) n.1.0.0, is (of_parts q qs) n.1.0.1, sum_parts m l a (q ▸ qs), sum_parts m l q qs)

  value_sum : (x : Name) (value : Tree) → m AsValue value ≤ m AsValue (assigned x value)
  value_sum x value = omega (arith, l (Assignment Assign) AsValue (identifier x ▸ (value ▸ none)) tt)

-- ---- a declaration with it in, of names that can be written

abbrev pub IsWritten : VariableDeclarationKind → Type 0
IsWritten k = fixity_by (shape.VariableDeclaration k) ≡ Writable

module _ (kind : VariableDeclarationKind) (ds : Trees) (x : Name) (es : Trees) (value : Tree) where
  abbrev old_list : Trees
  old_list = append ds (bare x value ▸ es)

  abbrev new_list : Trees
  new_list = append ds (given x value ▸ es)

  abbrev old_declaration : Tree
  old_declaration = over kind (listed old_list)

  abbrev new_declaration : Tree
  new_declaration = over kind (listed new_list)

  -- what holds of it and of the value
  filled : (J : Leap → Type 0) (Q : Asked → Tree → Type 0) → Local J Q → (Q AsWholeItem (bare x value) → Q AsWholeItem (given x value)) → Q AsWholeList (listed old_list) → Q AsWholeList (listed new_list)
  filled J Q l k q = stretched J Q l ds es (bare x value ▸ none) (given x value ▸ none) (λ a. (k a.0, tt)) q

  emptied : (J : Leap → Type 0) (Q : Asked → Tree → Type 0) → Local J Q → Q AsWholeItem (bare x value) → Q AsWholeList (listed new_list) → Q AsWholeList (listed old_list)
  emptied J Q l k q = stretched J Q l ds es (given x value ▸ none) (bare x value ▸ none) (λ a. (k, tt)) q

  -- the value in it
  found : (J : Leap → Type 0) (Q : Asked → Tree → Type 0) → Local J Q → Q AsWholeList (listed new_list) → Q AsWholeItem (given x value)
  found J Q l q =
      let (a, b) = parted J Q l ds (given x value ▸ es) q in
      let (c, d) = parted J Q l (given x value ▸ none) es b in
      (l.down AList AsWholeList (given x value ▸ none) tt c).1.0

  inner_given : (b : Bool) → InnerIf b AsWholeItem old_declaration → InnerIf b AsValue value → InnerIf b AsWholeItem new_declaration
  inner_given b q v = subst (λ c. (c || b) ≡ b) (sym (inner_is kind (listed new_list))) (filled Any (InnerIf b) (inner_local b) (λ a. subst (λ c. (c || b) ≡ b) (sym (inner_value x value)) v) (subst (λ c. (c || b) ≡ b) (inner_is kind (listed old_list)) q))

  inner_taken : (b : Bool) → InnerIf b AsWholeItem new_declaration → InnerIf b AsWholeItem old_declaration × InnerIf b AsValue value
  inner_taken b q =
      let list = subst (λ c. (c || b) ≡ b) (inner_is kind (listed new_list)) q in (
        subst (λ c. (c || b) ≡ b) (sym (inner_is kind (listed old_list))) (emptied Any (InnerIf b) (inner_local b) (ap (λ c. c || b) (no_inner x value)) list),
        subst (λ c. (c || b) ≡ b) (inner_value x value) (found Any (InnerIf b) (inner_local b) list),
      )

  declaration_fixed : IsWritten kind → (ts : Trees) (y : Variable) → fixed_by (over kind (listed ts)) y ≡ fixed_by (listed ts) y
  declaration_fixed free ts y = of_children (shape.VariableDeclaration kind) [] 0 (listed ts ▸ none) y free ∙ stricter_alone (fixed_by (listed ts) y)

  fixed_given : IsWritten kind → (y : Variable) (k : ℕ) → FixedBy y k AsWholeItem old_declaration → FixedBy y k AsValue value → FixedBy y k AsWholeItem new_declaration
  fixed_given free y k q v = subst (λ f. rank f ≤ k) (sym (declaration_fixed free new_list y)) (filled Any (FixedBy y k) (fixed_local y k) (λ a. subst (λ f. rank f ≤ k) (sym (fixed_value x value y)) v) (subst (λ f. rank f ≤ k) (declaration_fixed free old_list y) q))

  fixed_taken : IsWritten kind → (y : Variable) (k : ℕ) → FixedBy y k AsWholeItem new_declaration → FixedBy y k AsWholeItem old_declaration × FixedBy y k AsValue value
  fixed_taken free y k q =
      let list = subst (λ f. rank f ≤ k) (declaration_fixed free new_list y) q in (
        subst (λ f. rank f ≤ k) (sym (declaration_fixed free old_list y)) (emptied Any (FixedBy y k) (fixed_local y k) (subst (λ f. rank f ≤ k) (sym (fixed_bare x value y)) (omega arith)) list),
        subst (λ f. rank f ≤ k) (fixed_value x value y) (found Any (FixedBy y k) (fixed_local y k) list),
      )

  declares_given : (all : List Name) → Declares all AsWholeItem old_declaration → Declares all AsValue value → Declares all AsWholeItem new_declaration
  declares_given all q v = subst (Among all) (sym (declared_are kind (listed new_list))) (filled Any (Declares all) (declares_local all) (λ a. among_value x value all a v) (subst (Among all) (declared_are kind (listed old_list)) q))

  frames_given : (all : List Frame) → HasFrames all AsWholeItem old_declaration → HasFrames all AsValue value → HasFrames all AsWholeItem new_declaration
  frames_given all q v = subst (FramesKept all) (sym (frames_are kind (listed new_list))) (filled Any (HasFrames all) (frames_local all) (λ a. subst (FramesKept all) (sym (frames_value x value)) v) (subst (FramesKept all) (frames_are kind (listed old_list)) q))

  bodies_given : (all : List Body) (r : Around) → HasBodies all r AsWholeItem old_declaration → HasBodies all r AsValue value → HasBodies all r AsWholeItem new_declaration
  bodies_given all r q v = subst (BodiesKept all) (sym (bodies_are kind r (listed new_list))) (filled Any (HasBodies all r) (bodies_local all r) (λ a. subst (BodiesKept all) (sym (bodies_value x value r)) v) (subst (BodiesKept all) (bodies_are kind r (listed old_list)) q))

  targets_given : (g : Targets) → Aimed g AsWholeItem old_declaration → Aimed g AsValue value → Aimed g AsWholeItem new_declaration
  targets_given g q v =
      jumps_are kind g (listed new_list)
      ∙ targets_anywhere g [] (0 ∷ []) (listed new_list)
      (filled (HasTarget g) (Aimed g) (aimed_local g) (λ a. jumps_value x value g ∙ targets_anywhere g [] (1 ∷ []) value v) (targets_anywhere g (0 ∷ []) [] (listed old_list) (sym (jumps_are kind g (listed old_list)) ∙ q)))

  once_given : Once AsWholeItem old_declaration → Once AsValue value → Once AsWholeItem new_declaration
  once_given q v =
      once_is kind (listed new_list)
      ∙ once_anywhere [] (0 ∷ []) (listed new_list)
      (filled Any Once once_local (λ a. once_value x value ∙ once_anywhere [] (1 ∷ []) value v) (once_anywhere (0 ∷ []) [] (listed old_list) (sym (once_is kind (listed old_list)) ∙ q)))

  -- the assignment writes the innermost variable of the name
  scoped_given : (env : Environment) → ScopedAs Read env AsWholeItem old_declaration → ScopedAs Read env AsTarget (identifier x) → ScopedAs Read env AsValue value → ScopedAs Read env AsWholeItem new_declaration
  scoped_given env q t v =
      let u = used Read kind in
      var_scoped_up kind env (listed new_list) (filled Any (ScopedAs u env) (scoped_local u env) (λ a. scoped_value x value u env (λ e. target_found env x t) a v) (var_scoped_down kind env (listed old_list) q))

  list_sum : (m : Asked → Tree → ℕ) → Summed m → m AsWholeItem (given x value) ≤ m AsWholeItem (bare x value) + m AsValue value → m AsWholeList (listed new_list) ≤ m AsWholeList (listed old_list) + m AsValue value
  list_sum m l k =
      omega (
        arith,
        k,
        sum_joined m l ds (given x value ▸ es),
        sum_joined m l (given x value ▸ none) es,
        l AList AsWholeList (given x value ▸ none) tt,
        sum_joined m l ds (bare x value ▸ es),
        sum_joined m l (bare x value ▸ none) es,
        l AList AsWholeList (bare x value ▸ none) tt,
      )

  numbers_given : (n : ℕ) → number_times n AsWholeItem new_declaration ≤ number_times n AsWholeItem old_declaration + number_times n AsValue value
  numbers_given n =
      let k : number_times n AsWholeItem (given x value) ≤ number_times n AsWholeItem (bare x value) + number_times n AsValue value = omega (arith, ap (count_of n) (numbers_value x value)) in
      omega (arith, ap (count_of n) (numbers_are kind (listed new_list)), ap (count_of n) (numbers_are kind (listed old_list)), list_sum (number_times n) (numbers_summed n) k)

  -- its names are those that it had
  bound_same : all_names declared.Bound new_list ≡ all_names declared.Bound old_list
  unfolding names_of
  bound_same = all_both declared.Bound ds (given x value ▸ es) ∙ sym (all_both declared.Bound ds (bare x value ▸ es))

  scope_same : (c : Bool) (y : Option SymbolId) → times y (symbols_in (scope_if c (listed new_list))) ≡ times y (symbols_in (scope_if c (listed old_list)))
  unfolding names_of
  scope_same true y = ap (λ ns. times y (symbols_in (lexical_scope ns))) bound_same
  scope_same false y = refl

  symbols_given : (u : Use) (y : Option SymbolId) → symbol_times u y AsWholeItem new_declaration ≤ symbol_times u y AsWholeItem old_declaration + times y (declared_in Read value)
  symbols_given u y =
      let v = used u kind in
      let k : symbol_times v y AsWholeItem (given x value) ≤ symbol_times v y AsWholeItem (bare x value) + symbol_times v y AsValue value = omega (arith, ap (times y) (symbols_value x value v)) in
      omega (arith, symbols_are u kind y (listed new_list), symbols_are u kind y (listed old_list), scope_same (opens u kind) y, list_sum (symbol_times v y) (symbols_summed v y) k)

  declaration_names : (d : Declared) → names_of d new_declaration ≡ names_of d old_declaration
  declaration_names d = names_are d kind new_list ∙ ap (names_if (declares_as d kind)) bound_same ∙ sym (names_are d kind old_list)

  declaration_body : body_names new_declaration ≡ body_names old_declaration
  declaration_body = body_are kind new_list ∙ bound_same ∙ sym (body_are kind old_list)

  declaration_as_body : (o : Bool) → as_body o new_declaration ≡ as_body o old_declaration
  declaration_as_body o = declarations_are o kind new_list ∙ ap (own_declarations (not (is_var kind)) []) bound_same ∙ sym (declarations_are o kind old_list)

-- ---- in the statements that open a scope

module _ (s : Seat) (e d : Tree) where
  pub inner_seat : (b : Bool) → Opens (InnerIf b) (seated s) e d
  inner_seat b = record { Beside = (any_inner (rest s) || b) ≡ b; down = inner_down b s e; up = inner_up b s d }

  pub fixed_seat : (x : Variable) (k : ℕ) → Opens (FixedBy x k) (seated s) e d
  fixed_seat x k = record { Beside = rank (fixed_by_any (rest s) x) ≤ k; down = fixed_down x k s e; up = fixed_up x k s d }

  pub declares_seat : (xs : List Name) → Opens (Declares xs) (seated s) e d
  declares_seat xs = record { Beside = Among xs (declared_all (rest s)); down = declares_down xs s e; up = declares_up xs s d }

  pub frames_seat : (fs : List Frame) → Opens (HasFrames fs) (seated s) e d
  frames_seat fs = record { Beside = FramesKept fs (frames_beside s); down = frames_down fs s e; up = frames_up fs s d }

  pub bodies_seat : (bs : List Body) (r : Around) → Opens (HasBodies bs r) (seated s) e d
  bodies_seat bs r = record { Beside = BodiesKept bs (bodies_from (λ i. quiet r) 1 (rest s)); down = bodies_down bs r s e; up = bodies_up bs r s d }

  pub targets_seat : (g : Targets) → Opens (Aimed g) (seated s) e d
  targets_seat g = record { Beside = jumps_beside g s ≡ []; down = aimed_down g s e; up = aimed_up g s d }

  once_seat : Unlexical e → Unlexical d → Opens Once (seated s) e d
  once_seat p q = record { Beside = (clashing [] (declared_beside s) ≡ []) × (names_beside s ≡ []); down = once_down s e p; up = once_up s d q }

  scoped_seat : (env : Environment) → Unlexical e → Unlexical d → Opens (ScopedAs Read env) (seated s) e d
  scoped_seat env p q = record { Beside = ScopedBeside s env; down = scoped_down env s e p; up = scoped_up env s d q }

pub seat_numbers : (n : ℕ) (s : Seat) → (c : ℕ) × ((e : Tree) → Unit {0} → number_times n AsWholeItem (seated s e) ≡ number_times n AsValue e + c)
seat_numbers n s = (count_of n (all_numbers (rest s)), λ e p. omega (arith, ap (count_of n) (numbers_beside s e), both_counts n (numbers e) (all_numbers (rest s))))

seat_symbols : (u : Use) (x : Option SymbolId) (s : Seat) → (c : ℕ) × ((e : Tree) → Unlexical e → symbol_times u x AsWholeItem (seated s e) ≡ symbol_times u x AsValue e + c)
seat_symbols u x s = (times x (symbols_beside u s), λ e p. omega (arith, ap (times x) (seated_symbols u s e p), times_both x (declared_in Read e) (symbols_beside u s)))

-- what a statement asks of itself: the head of a loop declares no lexical name
Plainly : Holder → Type 0
Plainly (Going k l w) = lexical_names l ≡ []
Plainly h = Unit {0}

abbrev pub Freely : (Asked → Tree → Type 0) → Type 1
Freely Q = Spots Q (λ t. Unit {0}) (λ t. Unit {0}) anything

abbrev pub declared_with : Tree → Trees → Tree → Tree
declared_with id ds t = declaration Var (declarator id t ▸ ds)

pub inner_spots : (b : Bool) → Freely (InnerIf b)
inner_spots b = record { seats = λ s e d p q. inner_seat s e d b; loops = λ k l w n e d p q. spots.inner_loop k l w e d b; firsts = λ kind x ds e d p q. spots.inner_first kind x ds e d b; looped = λ x ds u v w e d p q. through (InnerIf b) (λ t r. r) (λ t r. r) (declared_with x ds) (seated (Loop u v w)) e d (inner_seat (Loop u v w) (declared_with x ds e) (declared_with x ds d) b) (spots.inner_first Var x ds e d b) }

pub fixed_spots : (z : Variable) (m : ℕ) → Freely (FixedBy z m)
fixed_spots z m = record { seats = λ s e d p q. fixed_seat s e d z m; loops = λ k l w n e d p q. spots.fixed_loop k l w e d z m; firsts = λ kind x ds e d p q. spots.fixed_first kind x ds e d z m; looped = λ x ds u v w e d p q. through (FixedBy z m) (λ t r. r) (λ t r. r) (declared_with x ds) (seated (Loop u v w)) e d (fixed_seat (Loop u v w) (declared_with x ds e) (declared_with x ds d) z m) (spots.fixed_first Var x ds e d z m) }

pub declares_spots : (xs : List Name) → Freely (Declares xs)
declares_spots xs = record { seats = λ s e d p q. declares_seat s e d xs; loops = λ k l w n e d p q. spots.declares_loop k l w e d xs; firsts = λ kind x ds e d p q. spots.declares_first kind x ds e d xs; looped = λ x ds u v w e d p q. through (Declares xs) (λ t r. r) (λ t r. r) (declared_with x ds) (seated (Loop u v w)) e d (declares_seat (Loop u v w) (declared_with x ds e) (declared_with x ds d) xs) (spots.declares_first Var x ds e d xs) }

pub frames_spots : (fs : List Frame) → Freely (HasFrames fs)
frames_spots fs = record { seats = λ s e d p q. frames_seat s e d fs; loops = λ k l w n e d p q. spots.frames_loop k l w e d fs; firsts = λ kind x ds e d p q. spots.frames_first kind x ds e d fs; looped = λ x ds u v w e d p q. through (HasFrames fs) (λ t r. r) (λ t r. r) (declared_with x ds) (seated (Loop u v w)) e d (frames_seat (Loop u v w) (declared_with x ds e) (declared_with x ds d) fs) (spots.frames_first Var x ds e d fs) }

pub bodies_spots : (bs : List Body) (r : Around) → Freely (HasBodies bs r)
bodies_spots bs r = record { seats = λ s e d p q. bodies_seat s e d bs r; loops = λ k l w n e d p q. spots.bodies_loop k l w e d bs r; firsts = λ kind x ds e d p q. spots.bodies_first kind x ds e d bs r; looped = λ x ds u v w e d p q. through (HasBodies bs r) (λ t r. r) (λ t r. r) (declared_with x ds) (seated (Loop u v w)) e d (bodies_seat (Loop u v w) (declared_with x ds e) (declared_with x ds d) bs r) (spots.bodies_first Var x ds e d bs r) }

pub targets_spots : (g : Targets) → Freely (Aimed g)
targets_spots g = record { seats = λ s e d p q. targets_seat s e d g; loops = λ k l w n e d p q. spots.targets_loop k l w e d g; firsts = λ kind x ds e d p q. spots.targets_first kind x ds e d g; looped = λ x ds u v w e d p q. through (Aimed g) (λ t r. r) (λ t r. r) (declared_with x ds) (seated (Loop u v w)) e d (targets_seat (Loop u v w) (declared_with x ds e) (declared_with x ds d) g) (spots.targets_first Var x ds e d g) }

pub once_looped : (x : Tree) (ds : Trees) (u v w e d : Tree) → Opens Once (λ t. for_loop (declared_with x ds t) u v w) e d
once_looped x ds u v w e d = through Once (λ t r. r) (λ t r. r) (declared_with x ds) (seated (Loop u v w)) e d (once_seat (Loop u v w) (declared_with x ds e) (declared_with x ds d) (var_unlexical (declarator x e ▸ ds)) (var_unlexical (declarator x d ▸ ds))) (spots.once_first Var x ds e d)

once_spots : Spots Once Unlexical (λ t. Unit {0}) anything
once_spots = record { seats = once_seat; loops = λ k l w n e d p q. spots.once_loop k l w e d; firsts = λ kind x ds e d p q. spots.once_first kind x ds e d; looped = λ x ds u v w e d p q. once_looped x ds u v w e d }

pub scoped_looped : (x : Tree) (ds : Trees) (u v w e d : Tree) → is_absent e ≡ is_absent d → (env : Environment) → Opens (ScopedAs Read env) (λ t. for_loop (declared_with x ds t) u v w) e d
scoped_looped x ds u v w e d same env = through (ScopedAs Read env) (λ t r. r) (λ t r. r) (declared_with x ds) (seated (Loop u v w)) e d (scoped_seat (Loop u v w) (declared_with x ds e) (declared_with x ds d) env (var_unlexical (declarator x e ▸ ds)) (var_unlexical (declarator x d ▸ ds))) (spots.scoped_first Var x ds e d same env)

-- a first initializer is there
Present : Tree → Type 0
Present t = is_absent t ≡ false

scoped_spots : (env : Environment) → Spots (ScopedAs Read env) Unlexical Present Plainly
unfolding Plainly Present
scoped_spots env = record { seats = λ s e d. scoped_seat s e d env; loops = λ k l w n e d p q. spots.scoped_loop k l w e d (left_scope l n) env; firsts = λ kind x ds e d p q. spots.scoped_first kind x ds e d (p ∙ sym q) env; looped = λ x ds u v w e d p q. scoped_looped x ds u v w e d (p ∙ sym q) env }

pub summed_through : (m : Asked → Tree → ℕ) (f g : Tree → Tree) (a : ℕ) → ((e : Tree) → m AsWholeItem (g (f e)) ≡ m AsWholeItem (f e) + a) → (b : ℕ) × ((e : Tree) → m AsWholeItem (f e) ≡ m AsValue e + b) → (c : ℕ) × ((e : Tree) → m AsWholeItem (g (f e)) ≡ m AsValue e + c)
summed_through m f g a h (b, k) = (b + a, λ e. omega (arith, h e, k e))

pub symbols_through : (o : Use) (y : Option SymbolId) (x : Tree) (ds : Trees) (u v w : Tree) → (c : ℕ) × ((e : Tree) → symbol_times o y AsWholeItem (for_loop (declared_with x ds e) u v w) ≡ symbol_times o y AsValue e + c)
symbols_through o y x ds u v w =
    let (a, h) = seat_symbols o y (Loop u v w) in
    let (b, k) = spots.symbols_first Var x ds Read y in
    (b + a, λ e. omega (arith, h (declared_with x ds e) (var_unlexical (declarator x e ▸ ds)), k e))

pub number_sums : (n : ℕ) → Sums (number_times n) (λ t. Unit {0})
number_sums n = record { seats = seat_numbers n; loops = λ k l w. spots.numbers_loop k l w n; firsts = λ kind x ds. spots.numbers_first kind x ds n; looped = λ x ds u v w. summed_through (number_times n) (declared_with x ds) (seated (Loop u v w)) (seat_numbers n (Loop u v w)).0 (λ e. (seat_numbers n (Loop u v w)).1 (declared_with x ds e) tt) (spots.numbers_first Var x ds n) }

symbol_sums : (u : Use) (x : Option SymbolId) → Sums (symbol_times u x) Unlexical
symbol_sums o y = record { seats = seat_symbols o y; loops = λ k l w. spots.symbols_loop k l w o y; firsts = λ kind x ds. spots.symbols_first kind x ds o y; looped = λ x ds u v w. symbols_through o y x ds u v w }

-- ---- names

return_names : (d : Declared) (e : Tree) → names_of d (return_statement e) ≡ []
unfolding names_of
return_names declared.Bound e = refl
return_names declared.Lexical e = refl
return_names declared.Hoisted e = refl

throw_names : (d : Declared) (e : Tree) → names_of d (throw_statement e) ≡ []
unfolding names_of
throw_names declared.Bound e = refl
throw_names declared.Lexical e = refl
throw_names declared.Hoisted e = refl

if_hoists : (e u v : Tree) → is_value (shape_of e) ≡ true → names_of declared.Hoisted (if_else e u v) ≡ all_names declared.Hoisted (u ▸ (v ▸ none))
unfolding names_of
if_hoists e u v k = ap (λ r. r ++ all_names declared.Hoisted (u ▸ (v ▸ none))) (no_names declared.Hoisted e (quiet_value e k))

if_names : (d : Declared) (e j u v : Tree) → names_of declared.Hoisted (if_else j u v) ≡ names_of declared.Hoisted (if_else e u v) → names_of d (if_else j u v) ≡ names_of d (if_else e u v)
unfolding names_of
if_names declared.Bound e j u v k = refl
if_names declared.Lexical e j u v k = refl
if_names declared.Hoisted e j u v k = k

return_same : (e j : Tree) → Names (return_statement e) (return_statement j)
unfolding body_names names_of
return_same e j = record { names = λ d. return_names d j ∙ sym (return_names d e); body = refl; as_body = λ o. refl; ports = λ m. refl }

throw_same : (e j : Tree) → Names (throw_statement e) (throw_statement j)
unfolding body_names names_of
throw_same e j = record { names = λ d. throw_names d j ∙ sym (throw_names d e); body = refl; as_body = λ o. refl; ports = λ m. refl }

if_body : (e u v : Tree) → body_names (if_else e u v) ≡ names_of declared.Hoisted (if_else e u v)
unfolding body_names names_of
if_body e u v = refl

if_as_body : (o : Bool) (e u v : Tree) → as_body o (if_else e u v) ≡ own_declarations false [] (names_of declared.Hoisted (if_else e u v))
unfolding names_of
if_as_body o e u v = refl

if_same : (u v e j : Tree) → is_value (shape_of e) ≡ true → is_value (shape_of j) ≡ true → Names (if_else e u v) (if_else j u v)
if_same u v e j p q =
    let hoists = if_hoists j u v q ∙ sym (if_hoists e u v p) in
    record {
      names = λ d. if_names d e j u v hoists;
      body = if_body j u v ∙ hoists ∙ sym (if_body e u v);
      as_body = λ o. if_as_body o j u v ∙ ap (own_declarations false []) hoists ∙ sym (if_as_body o e u v);
      ports = λ m. refl;
    }

seat_same : (s : Seat) (e j : Tree) → is_value (shape_of e) ≡ true → is_value (shape_of j) ≡ true → Names (seated s e) (seated s j)
seat_same s e j p q =
    let hoists = seated_hoists s j q ∙ sym (seated_hoists s e p) in
    record {
      names = λ d. seated_names d s e j hoists;
      body = seated_body s j ∙ hoists ∙ sym (seated_body s e);
      as_body = λ o. seated_as_body o s j ∙ ap (own_declarations false []) hoists ∙ sym (seated_as_body o s e);
      ports = λ m. seated_port m s j ∙ sym (seated_port m s e);
    }

looped_hoists : (x : Tree) (ds : Trees) (u v w e j : Tree) → names_of declared.Hoisted (for_loop (declared_with x ds j) u v w) ≡ names_of declared.Hoisted (for_loop (declared_with x ds e) u v w)
unfolding names_of
looped_hoists x ds u v w e j = refl

pub looped_same : (x : Tree) (ds : Trees) (u v w e j : Tree) → Names (for_loop (declared_with x ds e) u v w) (for_loop (declared_with x ds j) u v w)
looped_same x ds u v w e j =
    let s = Loop u v w in
    let hoists = looped_hoists x ds u v w e j in
    record {
      names = λ d. seated_names d s (declared_with x ds e) (declared_with x ds j) hoists;
      body = seated_body s (declared_with x ds j) ∙ hoists ∙ sym (seated_body s (declared_with x ds e));
      as_body = λ o. seated_as_body o s (declared_with x ds j) ∙ ap (own_declarations false []) hoists ∙ sym (seated_as_body o s (declared_with x ds e));
      ports = λ m. seated_port m s (declared_with x ds j) ∙ sym (seated_port m s (declared_with x ds e));
    }

held_same : (h : Holder) (e j : Tree) → is_value (shape_of e) ≡ true → is_value (shape_of j) ≡ true → Names (holding h e) (holding h j)
held_same Statement e j p q = record { names = λ d. statement_names d j ∙ sym (statement_names d e); body = statement_body j ∙ sym (statement_body e); as_body = λ o. statement_as_body o j ∙ sym (statement_as_body o e); ports = λ m. refl }
held_same (Heading Return) e j p q = return_same e j
held_same (Heading Throw) e j p q = throw_same e j
held_same (Heading (If u v)) e j p q = if_same u v e j p q
held_same (Heading (Switch cases)) e j p q = seat_same (Choice cases) e j p q
held_same (Heading (For u v w)) e j p q = seat_same (Loop u v w) e j p q
held_same (Going k l w) e j p q = spots.same_loop k l w e j p q
held_same (Declaring kind x ds) e j p q = spots.same_first kind x ds e j
held_same (Looping x ds u v w) e j p q = looped_same x ds u v w e j

-- the expression that is left is one
LeftValue : Beginning → Type 0
LeftValue (Before h q qs) = ((is_value (shape_of (of_parts q qs)) ≡ true) × Present (of_parts q qs)) × Plainly h
LeftValue b = Unit {0}

-- whatever it gives of the names of a statement
left_same : {A : Type 0} (g : Tree → List A) (b : Beginning) (a : Tree) → is_value (shape_of a) ≡ true → LeftValue b → ((e : Tree) → g (expression_statement e) ≡ []) → ((t u : Tree) → Names t u → g u ≡ g t) → concat g (begun_without b) ≡ g (begun b a) ++ []
unfolding LeftValue
left_same g Alone a p v z k = sym (ap (λ r. r ++ []) (z a))
left_same g (Init x y w) a p v z k = ap (λ r. r ++ []) (k _ _ (seat_same (Loop x y w) a absent p refl))
left_same g (Before h q qs) a p v z k = ap (λ r. r ++ []) (k _ _ (held_same h (sequence (a ▸ (q ▸ qs))) (of_parts q qs) refl v.0.0))

-- ---- the two statements, and what is written

abbrev read_as : (kind : VariableDeclarationKind) (ds : Trees) (x : Name) (es : Trees) (value : Tree) (b : Beginning) → Trees
read_as kind ds x es value b = old_declaration kind ds x es value ▸ (begun b (assigned x value) ▸ none)

abbrev put_as : (kind : VariableDeclarationKind) (ds : Trees) (x : Name) (es : Trees) (value : Tree) (b : Beginning) → Trees
put_as kind ds x es value b = new_declaration kind ds x es value ▸ begun_without b

module _ (kind : VariableDeclarationKind) (free : IsWritten kind) (ds : Trees) (x : Name) (es : Trees) (value : Tree) (b : Beginning) where
  abbrev assignment : Tree
  assignment = assigned x value

  abbrev read : Trees
  read = read_as kind ds x es value b

  abbrev put : Trees
  put = put_as kind ds x es value b

  forward : (J : Leap → Type 0) (Q : Asked → Tree → Type 0) (l : Local J Q) (P F : Tree → Type 0) (H : Holder → Type 0) → Spots Q P F H → Needs P F H b assignment → (Q AsWholeItem (old_declaration kind ds x es value) → Q AsTarget (identifier x) → Q AsValue value → Q AsWholeItem (new_declaration kind ds x es value)) → All Q AsWholeItem read → All Q AsWholeItem put
  forward J Q l P F H k n g a =
      let (p, q) = apart J Q l P F H k b assignment n a.1.0 in
      let (t, v) = assigned_parts J Q l P F H k x value p in
      (g a.0 t v, q)

  nothing_needed : (c : Beginning) (a : Tree) → Needs (λ t. Unit {0}) (λ t. Unit {0}) anything c a
  unfolding Needs
  nothing_needed Alone a = tt
  nothing_needed (Init u v w) a = (tt, tt)
  nothing_needed (Before h q qs) a = (tt, ((tt, tt), (tt, tt)))

  freely : (J : Leap → Type 0) (Q : Asked → Tree → Type 0) (l : Local J Q) → Freely Q → (Q AsWholeItem (old_declaration kind ds x es value) → Q AsValue value → Q AsWholeItem (new_declaration kind ds x es value)) → All Q AsWholeItem read → All Q AsWholeItem put
  freely J Q l k g = forward J Q l (λ t. Unit {0}) (λ t. Unit {0}) anything k (nothing_needed b assignment) (λ o t v. g o v)

  backward : (Q : Asked → Tree → Type 0) (l : Local Any Q) → Freely Q → Q AsTarget (identifier x) → (Q AsWholeItem (new_declaration kind ds x es value) → Q AsWholeItem (old_declaration kind ds x es value) × Q AsValue value) → All Q AsWholeItem put → All Q AsWholeItem read
  backward Q l k t g a = let (o, v) = g a.0 in (o, (together Q l k b assignment (assigned_of Q l k x value t v) a.1, tt))

  inner_target : (c : Bool) → InnerIf c AsTarget (identifier x)
  unfolding has_inner
  inner_target c = refl

  fixed_target : (z : Variable) (k : ℕ) → FixedBy z k AsTarget (identifier x)
  fixed_target z k = subst (λ f. rank f ≤ k) (sym (of_children shape.Identifier (x ∷ []) 0 none z refl)) (omega arith)

  no_number : (n : ℕ) → number_times n AsValue absent ≡ 0
  unfolding numbers
  no_number n = refl

  no_symbol : (u : Use) (z : Option SymbolId) → symbol_times u z AsValue absent ≡ 0
  unfolding declared_in scopes_by
  no_symbol u z = refl

  numbers_one : (n : ℕ) → sum_all (number_times n) AsWholeItem put ≤ sum_all (number_times n) AsWholeItem read
  numbers_one n =
      let seats = number_sums n in
      omega (
        arith,
        numbers_given kind ds x es value n,
        begun_sum (number_times n) (numbers_summed n) (λ t. Unit {0}) seats (no_number n) b assignment (nothing_needed b assignment),
        value_sum (number_times n) (numbers_summed n) (λ t. Unit {0}) seats x value,
      )

  module _ (v : LeftValue b) where
    needed : (F : Tree → Type 0) (H : Holder → Type 0) → ((t : Tree) → Present t → F t) → ((h : Holder) → Plainly h → H h) → (c : Beginning) → LeftValue c → Needs Unlexical F H c assignment
    unfolding Needs LeftValue Present
    needed F H i f Alone w = tt
    needed F H i f (Init p q r) w = (value_unlexical assignment refl, value_unlexical absent refl)
    needed F H i f (Before h q qs) w = (f h w.1, ((value_unlexical (sequence (assignment ▸ (q ▸ qs))) refl, value_unlexical (of_parts q qs) w.0.0), (i (sequence (assignment ▸ (q ▸ qs))) refl, i (of_parts q qs) w.0.1)))

    needed_anywhere : Needs Unlexical (λ t. Unit {0}) anything b assignment
    needed_anywhere = needed (λ t. Unit {0}) anything (λ t p. tt) (λ h p. tt) b v

    symbols_one : (u : Use) (z : Option SymbolId) → sum_all (symbol_times u z) AsWholeItem put ≤ sum_all (symbol_times u z) AsWholeItem read
    symbols_one u z =
        let seats = symbol_sums u z in
        omega (
          arith,
          symbols_given kind ds x es value u z,
          begun_sum (symbol_times u z) (symbols_summed u z) Unlexical seats (no_symbol u z) b assignment needed_anywhere,
          value_sum (symbol_times u z) (symbols_summed u z) Unlexical seats x value,
        )

    names_one : NamesStretched read put
    names_one = record {
      names = λ d i. declaration_names kind ds x es value d i ++ left_same (names_of d) b assignment refl v (statement_names d) (λ t u k. k.names d) i;
      body = λ i. declaration_body kind ds x es value i ++ left_same body_names b assignment refl v statement_body (λ t u k. k.body) i;
      as_body = λ o i. declaration_as_body kind ds x es value o i ++ left_same (as_body o) b assignment refl v (statement_as_body o) (λ t u k. k.as_body o) i;
      ports = λ m. left_same (port m) b assignment refl v (λ e. refl) (λ t u k. k.ports m);
      scoped = λ env. forward Any (ScopedAs Read env) (scoped_local Read env) Unlexical Present Plainly (scoped_spots env) (needed Present Plainly (λ t p. p) (λ h p. p) b v) (scoped_given kind ds x es value env);
      symbols = symbols_one;
      once = forward Any Once once_local Unlexical (λ t. Unit {0}) anything once_spots needed_anywhere (λ o t q. once_given kind ds x es value o q);
    }

  left_calm : (c : Beginning) → All Valued AsWholeItem (begun_without c)
  left_calm Alone = tt
  left_calm (Init u v w) = (seated_calm (Loop u v w) absent, tt)
  left_calm (Before Statement q qs) = ((refl, refl), tt)
  left_calm (Before (Heading Return) q qs) = ((refl, refl), tt)
  left_calm (Before (Heading Throw) q qs) = ((refl, refl), tt)
  left_calm (Before (Heading (If u v)) q qs) = ((refl, refl), tt)
  left_calm (Before (Heading (Switch cases)) q qs) = (seated_calm (Choice cases) (of_parts q qs), tt)
  left_calm (Before (Heading (For u v w)) q qs) = (seated_calm (Loop u v w) (of_parts q qs), tt)
  left_calm (Before (Going EachIn l w) q qs) = ((refl, refl), tt)
  left_calm (Before (Going EachOf l w) q qs) = ((refl, refl), tt)
  left_calm (Before (Declaring k z cs) q qs) = ((refl, refl), tt)
  left_calm (Before (Looping z cs u v w) q qs) = (seated_calm (Loop u v w) (declared_with z cs (of_parts q qs)), tt)

  stretched_one : ((strict : Bool) (k : Depth) → fill strict (each (one (a_statement k))) read ≡ true → LeftValue b) → Stretched read put
  stretched_one values = record {
    named = λ strict k f. names_one (values strict k f);
    calm = λ strict k f. ((refl, refl), left_calm b);
    inner = λ c. freely Any (InnerIf c) (inner_local c) (inner_spots c) (inner_given kind ds x es value c);
    inner_back = λ c. backward (InnerIf c) (inner_local c) (inner_spots c) (inner_target c) (inner_taken kind ds x es value c);
    fixed = λ z k. freely Any (FixedBy z k) (fixed_local z k) (fixed_spots z k) (fixed_given kind ds x es value free z k);
    fixed_back = λ z k. backward (FixedBy z k) (fixed_local z k) (fixed_spots z k) (fixed_target z k) (fixed_taken kind ds x es value free z k);
    declares = λ xs. freely Any (Declares xs) (declares_local xs) (declares_spots xs) (declares_given kind ds x es value xs);
    frames = λ fs. freely Any (HasFrames fs) (frames_local fs) (frames_spots fs) (frames_given kind ds x es value fs);
    bodies = λ bs r. freely Any (HasBodies bs r) (bodies_local bs r) (bodies_spots bs r) (bodies_given kind ds x es value bs r);
    targets = λ g. freely (HasTarget g) (Aimed g) (aimed_local g) (targets_spots g) (targets_given kind ds x es value g);
    numbers = numbers_one;
  }

-- ---- the expression that is left is one where the statement fits

held_sequence : (strict : Bool) (k : Depth) (h : Holder) (ts : Trees) → fits strict (one (a_statement k)) (holding h (sequence ts)) ≡ true → fits strict (one an_expression) (sequence ts) ≡ true
held_sequence strict k Statement ts f = of_expression strict k (sequence ts) f
held_sequence strict k (Heading Return) ts f = of_return strict k (sequence ts) f
held_sequence strict k (Heading Throw) ts f = of_throw strict k (sequence ts) f
held_sequence strict k (Heading (If u v)) ts f = (of_if strict k (sequence ts) u v f).0
held_sequence strict k (Heading (Switch cases)) ts f = left (fits strict (one an_expression) (sequence ts)) (fits strict (many a_case) cases && true) f
held_sequence strict k (Heading (For u v w)) ts f =
    left (fits strict (one_or_absent an_init) (sequence ts)) (fits strict (one_or_absent an_expression) u && (fits strict (one_or_absent an_expression) v && (fits strict (one (a_statement nested)) w && true))) f
held_sequence strict k (Going EachIn l w) ts f =
    let r = (and_parts (fits strict (one (a_loop_left true)) l) (fits strict (one an_expression) (sequence ts) && (fits strict (one (a_statement nested)) w && true)) f).1 in
    left (fits strict (one an_expression) (sequence ts)) (fits strict (one (a_statement nested)) w && true) r
held_sequence strict k (Going EachOf l w) ts f =
    let r = (and_parts (fits strict (one (a_loop_left false)) l) (fits strict (one an_expression) (sequence ts) && (fits strict (one (a_statement nested)) w && true)) f).1 in
    left (fits strict (one an_expression) (sequence ts)) (fits strict (one (a_statement nested)) w && true) r
held_sequence strict k (Declaring kind x ds) ts f = shape_law.first_sequence strict k kind x ds ts f
held_sequence strict k (Looping x ds u v w) ts f = shape_law.first_sequence strict k Var x ds ts (shape_law.looped_first strict k x ds (sequence ts) u v w f)

-- the head of a loop declares no lexical name there
held_plainly : (strict : Bool) (k : Depth) (h : Holder) (e : Tree) → holds_well h ≡ true → fits strict (one (a_statement k)) (holding h e) ≡ true → Plainly h
unfolding Plainly
held_plainly strict k Statement e p f = tt
held_plainly strict k (Heading h) e p f = tt
held_plainly strict k (Going EachIn l w) e p f = left_lexical strict true l p (left (fits strict (one (a_loop_left true)) l) (fits strict (one an_expression) e && (fits strict (one (a_statement nested)) w && true)) f)
held_plainly strict k (Going EachOf l w) e p f = left_lexical strict false l p (left (fits strict (one (a_loop_left false)) l) (fits strict (one an_expression) e && (fits strict (one (a_statement nested)) w && true)) f)
held_plainly strict k (Declaring kind x ds) e p f = tt
held_plainly strict k (Looping x ds u v w) e p f = tt

-- other parts are there
parts_present : (q : Tree) (qs : Trees) → are_parts q qs ≡ true → Present (of_parts q qs)
unfolding Present
parts_present (node shape.Absent xs n ts) none e = absurd (true≢false (sym e))
parts_present (node h xs n ts) none e = refl
parts_present q (r ▸ qs) e = refl

left_value : (strict : Bool) (k : Depth) (b : Beginning) (a : Tree) → begins_well b ≡ true → fits strict (one (a_statement k)) (begun b a) ≡ true → LeftValue b
unfolding LeftValue
left_value strict k Alone a g f = tt
left_value strict k (Init u v w) a g f = tt
left_value strict k (Before h q qs) a g f =
    let (x, y) = first_fits strict (one an_expression) a (q ▸ qs) (parts_fit strict a (q ▸ qs) (held_sequence strict k h (a ▸ (q ▸ qs)) f)) in
    let (holds, parts) = and_parts (holds_well h) (are_parts q qs) g in
    let value = (sketch_valued (record { trees = of_parts q qs ▸ none; lists = [] }) strict AsValue (one an_expression) (part 0) refl (of_parts_fits strict q qs y)).0 in
    ((value, parts_present q qs parts), held_plainly strict k h (sequence (a ▸ (q ▸ qs))) holds f)

-- a declaration with a value in it, and what is left of the statement that wrote it, in a list
pub values_kept : (kind : VariableDeclarationKind) → IsWritten kind → (ds : Trees) (x : Name) (es : Trees) (value : Tree) (b : Beginning) → begins_well b ≡ true → (before after : Trees) → KeptAt StatementList (listed (append before (append (read_as kind ds x es value b) after))) (listed (append before (append (put_as kind ds x es value b) after)))
values_kept kind free ds x es value b well before after =
    let two = read_as kind ds x es value b in
    let values = λ (strict : Bool) (k : Depth) (h : fill strict (each (one (a_statement k))) two ≡ true). left_value strict k b (assigned x value) well (second_of strict k (old_declaration kind ds x es value) (begun b (assigned x value)) none h) in
    stretch_kept before after two (put_as kind ds x es value b) (stretched_one kind free ds x es value b values)

-- `var a; a = b;` and `var a = b;` in a list
pub begun_kept : (before after : Trees) (n w : Tree) (a b : Trees) → Row70 a b → n ≡ listed (append before (append a after)) → w ≡ listed (append before (append b after)) → KeptAt StatementList n w
begun_kept before after n w a b r f g =
    let x = resolved r.spelling r.symbol in
    subst (λ t. KeptAt StatementList t w) (sym (f ∙ ap (λ ts. listed (append before (append ts after))) r.shape))
    (subst (KeptAt StatementList (listed (append before (append (read_as Var r.ds x r.es r.value r.beginning) after)))) (sym (g ∙ ap (λ ts. listed (append before (append ts after))) r.written)) (values_kept Var refl r.ds x r.es r.value r.beginning r.parts before after))

-- `let a; a = 1;` and `let a = 1;` in a list
pub let_kept : (W : VariableSet) (n w : Tree) → InList (Row70Let W) n w → KeptAt StatementList n w
let_kept W n w r =
    let m = r.row in
    let x = resolved m.spelling m.symbol in
    subst (λ t. KeptAt StatementList t w) (sym (r.shape ∙ ap (λ ts. listed (append r.before (append ts r.after))) m.shape))
    (subst (KeptAt StatementList (listed (append r.before (append (read_as Let m.ds x none (known m.value) m.beginning) r.after)))) (sym (r.written ∙ ap (λ ts. listed (append r.before (append ts r.after))) m.written)) (values_kept Let refl m.ds x none (known m.value) m.beginning m.parts r.before r.after))

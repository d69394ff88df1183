-- What a row of steady names writes in the body of a function is lawful where those names are steady in that body.
use Rattle.std.specs.Prelude.{ℕ, zero, suc, ◌+◌, ◌≡◌, ◌<◌, ◌≤◌, ◌⊎◌, refl, Bool, true, false, List, [], ◌∷◌, ◌++◌, Option, Some, None, not, ◌&&◌, if◌then◌else◌, Contains}
use Rattle.std.proofs.Common.{ap, ◌∙◌, sym, subst, subst₂, length, inl, inr, arith, true≢false}
use Rattle.std.proofs.lemmas.Bool.{and_parts}
use Rattle.mini_model.specs.declared.kind.MethodDefinitionKind.TheVariants as method
use Rattle.mini_model.specs.declared.kind.PropertyKind.{PropertyKind}
use Rattle.mini_model.specs.declared.kind.PropertyKind.TheVariants.{Init}
use Rattle.mini_model.specs.declared.kind.VariableDeclarationKind.{VariableDeclarationKind}
use Rattle.mini_model.specs.declared.kind.VariableDeclarationKind.TheVariants.{Var}
use Rattle.mini_model.specs.declared.name.Name.{Name}
use Rattle.mini_model.specs.declared.place.Position.{Position}
use Rattle.mini_model.specs.declared.place.Position.TheVariants.{Expr, Stmt, Method, Elsewhere, StatementList, BodyList, CommaList}
use Rattle.mini_model.specs.declared.seat.Seat.{Seat}
use Rattle.mini_model.specs.declared.seat.StmtSeat.{StmtSeat}
use Rattle.mini_model.specs.declared.shape.Shape.{Shape}
use Rattle.mini_model.specs.declared.shape.Shape.TheVariants as shape
use Rattle.mini_model.specs.Tree.{Tree, Trees, node, none, ◌▸◌, count, shape_of}
use Rattle.mini_model.specs.Position.{child_position}
use Rattle.mini_model.specs.Rewriting.{Step, here, inside, StepIn, first, later, done, more}
use Rattle.mini_model.specs.Weight.{outline, weight}
use Rattle.mini_accept.specs.WellShaped.{a_statement, a_default_export, Slot, one, class_of, filling, is_strict_in, fits, fill}
use Rattle.mini_laws.specs.Value.{Variable, Declared, Global, VariableSet, choose, nothing, variables}
use Rattle.mini_laws.specs.State.{State, Environment}
use Rattle.mini_laws.specs.Demand.{Demand, As, Callee, OfType, Deleted, AnEntry, Stat, Declares, Binds, Heads, Request}
use Rattle.mini_laws.specs.Naming.{Facts, Summary, AClass, Declared as What, Variables, first_facts, is_lexical, summary, summary_of, summaries, facts, facts_all, naming, nth_absent, scope_of}
use Rattle.mini_laws.specs.Step.{step, means}
use Rattle.mini_laws.specs.Rows.{SameAt}
use Rattle.mini_laws.specs.Fixity.{fixed_by}
use Rattle.mini_laws.specs.Body.{BodyKind, FunctionStatements, body_demand}
use Rattle.mini_laws.specs.Bodies.{Around, below, constructs_below, Body, bodies, bodies_from, body_of, arrow_kind}
use Rattle.mini_laws.specs.Skeleton.{plus, minus, Within, Off, hidden, hidden_all, kept, lets_at, along, list_needs, after_first, after_left, needs, Rules, Sound, TreesGo}
use Rattle.mini_laws.specs.Fits.{Fits}
use Rattle.mini_laws.specs.Asking.{demand, declaration_demand, head_demand, left_demand}
use Rattle.mini_laws.specs.Weights.{Lightens}
use Rattle.mini_laws.proofs.Fitting.{fits_children}
use Rattle.mini_laws.proofs.Fundamental.{PlaceGo, one_node, place_none, place_cons}
use Rattle.mini_laws.proofs.Lighter.{any_step_lighter}
use Rattle.mini_laws.proofs.Rows.{equal_same}
use Rattle.mini_laws.proofs.Simulation.{goes_map, init_less, off_front, off_back, within_refl, within_trans, within_plus, within_minus, minus_less, minus_more}
use Rattle.mini_kept.specs.AlikeBodies.{RunsAs, BodiesKept}
use Rattle.mini_kept.specs.Declaring.{declared}
use Rattle.mini_kept.specs.Frames.{Frame, FramesKept, frame_of, frames, frames_from, property_below, outline as frame_outline, globals}
use Rattle.mini_kept.specs.KeepsFrames.{KeepsFunction, function_over}
use Rattle.mini_kept.specs.KeepsLoosely.{KeepsLoosely}
use Rattle.mini_kept.specs.KeepsNames.{is_rewritten_place}
use Rattle.mini_kept.specs.KeepsShapes.{AskedAlike, KeepsShapes}
use Rattle.mini_kept.specs.Lifted.{is_piece, is_rooted_place, KeepsRoot, KeepsNames}
use Rattle.mini_kept.specs.Loosely.{SteadiesWith, LawfulUnder}
use Rattle.mini_kept.specs.Placed.{is_statement_list, fits_place}
use Rattle.mini_kept.specs.Without.{none_steady, Assured, BodySets, Steadies, Begins, BodiesUnder}
use Rattle.mini_kept.proofs.FixedSteps.{fixed_anyway}
use Rattle.mini_kept.proofs.Declared.{reaches_declared}
use Rattle.mini_kept.proofs.Fixed.{step_fixed}
use Rattle.mini_kept.proofs.FrameSteps.{its_number, kept_are_shown}
use Rattle.mini_kept.proofs.Initializers.{init_stays}
use Rattle.mini_kept.proofs.Stepping.{step_keeps}
use Rattle.mini_kept.proofs.Steps.{any_step_fits}
use Rattle.mini_kept.proofs.BodyLists.{kept_itself, each_of as each_body}
use Rattle.mini_kept.proofs.FrameLists.{each_of as each_frame}
use Rattle.mini_kept.proofs.WithoutLists.{from_kept, more_under, nothing_within, each_under, itself_under}
use Rattle.mini_rows.specs.Fading.{Fades, FadingFrom}
use Rattle.mini_rows.specs.Past.{binds}
use Rattle.mini_rows.specs.Steady.{SteadyRow, bindings, all_bindings, Begun, nothing_begun, is_method_place, AroundAt, PropertyAt, enters_lexical, OfChild, OfNone, beginning, nth_lets, lets_as, head_lets, begins_by, begins, begun_at, valued, known_in, own_rows, KeepsOwn, has_body, OwnStep, own_here, own_inside, OwnStepIn, own_first, own_later, OwnRows, LexicalRows, OwnFunctionRow, OwnFunction, SteadyFunctionsAreLawful, SteadyFunctionsLighten, LexicalFunctionsAreLawful, LexicalFunctionsLighten}
use Rattle.mini_rows.proofs.Fading.{fading_rules, fading_sound}
use Rattle.mini_rows.proofs.FadingSteps.{trees_fade_from, tree_itself, runs_alike}
use Rattle.mini_rows.proofs.LexicalKept.{lexical_own}
use Rattle.mini_rows.proofs.SteadyKept.{steady_own}
use Rattle.mini_rows.proofs.Unbound.{unhidden}
use Rattle.mini_rows.proofs.Valued.{begun_off, more_known}

-- ---- a function is made alike, whatever its body is

module _ (d g : Bool) (ds : List (List ℕ)) (k : ℕ) (name ps t u : Tree) where
  abbrev this : Tree
  this = function_over d g ds k name ps t

  abbrev that : Tree
  that = function_over d g ds k name ps u

  created : (d : Bool) (e : Environment) (q : Demand) (r : Request q) (s : State) → means e (function_over d g ds k name ps t) q r s ≡ means e (function_over d g ds k name ps u) q r s
  unfolding means step
  created true e (Stat x) r s = refl
  created true e q r s = refl
  created false e (As w) r s = refl
  created false e Callee r s = refl
  created false e OfType r s = refl
  created false e Deleted r s = refl
  created false e AnEntry r s = refl
  created false e q r s = refl

  pub created_same : (p : Position) → SameAt p this that
  created_same p = equal_same p this that (record { by = λ e q z r s. created d e q r s })

-- it has a number from 1
numbered : (d g : Bool) (ds : List (List ℕ)) (k : ℕ) (name ps t : Tree) (strict : Bool) (s : Slot) → fits strict s (function_over d g ds k name ps t) ≡ true → (n : ℕ) × (k ≡ suc n)
numbered d g ds zero name ps t strict s e = absurd (true≢false (sym (its_number (class_of s) (shape.Function d g ds) [] 0 (name ▸ (ps ▸ (t ▸ none))) (fill (is_strict_in strict (shape.Function d g ds)) (filling strict s (shape.Function d g ds)) (name ▸ (ps ▸ (t ▸ none)))) e)))
numbered d g ds (suc n) name ps t strict s e = (n, refl)

-- ---- what has its value throughout

pub not_true : (b : Bool) → not b ≡ true → b ≡ false
not_true true e = absurd (true≢false (sym e))
not_true false e = refl

-- of a body of which this is known, what is known as its code starts
abbrev pub at_start : Tree → Assured → Assured
at_start t V = known_in t V nothing_begun

-- no scope in the code hides it
pub known_off : (t : Tree) (V : Assured) → Off (hidden t) (at_start t V).initial
unfolding Off
known_off t V (Declared k) h = unhidden k t (not_true (binds k t) (and_parts (V.initial (Declared k)) (not (binds k t)) h).1)
known_off t V (Global s) h = absurd (true≢false (sym h))

-- nor does one in a node over it
pub over_off : (f t : Tree) (V : Assured) → ((k : ℕ) → binds k t ≡ false → binds k f ≡ false) → Off (hidden f) (at_start t V).initial
unfolding Off
over_off f t V h (Declared k) e = unhidden k f (h k (not_true (binds k t) (and_parts (V.initial (Declared k)) (not (binds k t)) e).1))
over_off f t V h (Global s) e = absurd (true≢false (sym e))

-- it has its value as the body starts
pub known_begins : (t : Tree) (V : Assured) (X : VariableSet) → Begins V X → Within (at_start t V).initial X
unfolding Within
known_begins t V X b (Declared k) h = b (Declared k) (and_parts (V.initial (Declared k)) (not (binds k t)) h).0
known_begins t V X b (Global s) h = absurd (true≢false (sym h))

pub known_steady : (t : Tree) (V : Assured) (L : Begun) (e : Environment) → Steadies V e → Steadies (known_in t V L) e
known_steady t V L e z = record { steady = z.steady; unshared = z.unshared; has_this = z.has_this }

-- and wherever a child is evaluated
along_still : (I S : VariableSet) (H : List Variable) (ts : Trees) → Within I S → Off H I → (i : ℕ) → Within I (along H S ts i)
along_still I S H none w o i = w
along_still I S H (t ▸ ts) w o zero = w
along_still I S H (t ▸ ts) w o (suc i) = along_still I (minus (plus S (summary t).lets) H) H ts (within_minus I _ H o (within_trans I S _ w (within_plus S (summary t).lets))) o i

list_still : (q : Demand) (I X : VariableSet) (ts : Trees) → Within I X → Off (hidden_all ts) I → (i : ℕ) → Within I (list_needs q X ts i)
list_still (Stat t) I X ts w o i = along_still I X (hidden_all ts) ts w o i
list_still (Declares true) I X ts w o i = along_still I X (hidden_all ts) ts w o i
list_still (Declares false) I X ts w o i = w
list_still q I X ts w o i = w

first_still : (q : Demand) (I X : VariableSet) (ts : Trees) → Within I X → Off (hidden_all ts) I → (i : ℕ) → Within I (after_first q X ts i)
first_still q I X ts w o zero = w
first_still q I X ts w o (suc i) = within_minus I _ (hidden_all ts) o (within_trans I X _ w (within_plus X (kept q (lets_at ts 0))))

left_still : (q : Demand) (I X : VariableSet) (ts : Trees) → Within I X → Off (hidden_all ts) I → (i : ℕ) → Within I (after_left q X ts i)
left_still q I X ts w o zero = w
left_still q I X ts w o (suc zero) = w
left_still q I X ts w o (suc (suc i)) = within_minus I _ (hidden_all ts) o (within_trans I X _ w (within_plus X (kept q (lets_at ts 0))))

pub needs_still : (h : Shape) (q : Demand) (I X : VariableSet) (ts : Trees) → Within I X → Off (hidden_all ts) I → (i : ℕ) → Within I (needs h q X ts i)
needs_still shape.Listed q I X ts w o i = list_still q I X ts w o i
needs_still shape.CatchClause q I X ts w o i = first_still (Binds true) I X ts w o i
needs_still shape.ForStatement q I X ts w o i = first_still (demand shape.ForStatement (facts ts) q 0) I X ts w o i
needs_still shape.ForInStatement q I X ts w o i = left_still (demand shape.ForInStatement (facts ts) q 0) I X ts w o i
needs_still shape.ForOfStatement q I X ts w o i = left_still (demand shape.ForOfStatement (facts ts) q 0) I X ts w o i
needs_still h q I X ts w o i = w

-- ---- a step in the code of a body itself

no_body : (a : Around) (h : Shape) (t : Tree) (ts : Trees) → has_body h ≡ false → body_of a h 0 t ts ≡ []
no_body a (shape.Program m ds) t ts e = absurd (true≢false e)
no_body a (shape.Function d g ds) t ts e = absurd (true≢false e)
no_body a (shape.ArrowFunctionExpression ds) t ts e = absurd (true≢false e)
no_body a shape.StaticBlock t ts e = absurd (true≢false e)
no_body a shape.InnerExpression t ts e = absurd (true≢false e)
no_body a h t ts e = refl

no_frame : (k : Option PropertyKind) (h : Shape) (o : Tree) (xs : List Name) → has_body h ≡ false → frame_of k h 0 o xs ≡ []
no_frame k (shape.Program m ds) o xs e = absurd (true≢false e)
no_frame k h o xs e = refl

-- some row of F reads n as w, whatever is known
abbrev pub AnyRow : OwnRows → Position → Tree → Tree → Type 0
AnyRow F p n w = (V : Assured) × F V p n w

-- what such a row keeps besides what it means
pub record KeepsForm (R : Position → Tree → Tree → Type 0) : Type 0 where
  pub reads : (p : Position) (n w : Tree) → R p n w → summary n ≡ summary w
  pub kind : (p : Position) (n w : Tree) → R p n w → arrow_kind (shape_of n) ≡ arrow_kind (shape_of w)
  pub shapes : KeepsShapes R
  pub names : KeepsNames R
  pub fixed : (p : Position) (n w : Tree) → R p n w → (x : Variable) → fixed_by n x ≡ fixed_by w x
  pub declared : (p : Position) (n w : Tree) → R p n w → (x : Name) → Contains (declared w) x → Contains (declared n) x
  pub bound : (p : Position) (n w : Tree) → R p n w → (k : ℕ) → bindings k w ≤ bindings k n
  pub bodies : (p : Position) (n w : Tree) → R p n w → (a : Around) → AroundAt p a → BodiesKept (bodies a n) (bodies a w)
  pub frames : (p : Position) (n w : Tree) → R p n w → (k : Option PropertyKind) → PropertyAt p k → FramesKept (frames k n) (frames k w)
  pub lightens : Lightens R

pub any_form : (F : OwnRows) → ((V : Assured) → KeepsOwn V (F V)) → KeepsForm (AnyRow F)
any_form F keeps = record {
  reads = λ p n w r. (keeps r.0).reads p n w r.1;
  kind = λ p n w r. (keeps r.0).kind p n w r.1;
  shapes = record {
    fitting = λ p n w r. (keeps r.0).shapes.fitting p n w r.1;
    asked = λ p n w r. (keeps r.0).shapes.asked p n w r.1;
  };
  names = record {
    places = λ p n w r. (keeps r.0).names.places p n w r.1;
    pieces = λ p n w r. (keeps r.0).names.pieces p n w r.1;
    keeps = λ p n w r. (keeps r.0).names.keeps p n w r.1;
  };
  fixed = λ p n w r. (keeps r.0).fixed p n w r.1;
  declared = λ p n w r. (keeps r.0).declared p n w r.1;
  bound = λ p n w r. (keeps r.0).bound p n w r.1;
  bodies = λ p n w r. (keeps r.0).bodies p n w r.1;
  frames = λ p n w r. (keeps r.0).frames p n w r.1;
  lightens = record {
    lighter = λ p n w r. (keeps r.0).lightens.lighter p n w r.1;
    absent = λ p n w r. (keeps r.0).lightens.absent p n w r.1;
    items = λ p n w r. (keeps r.0).lightens.items p n w r.1;
    is_zero = λ p n w r. (keeps r.0).lightens.is_zero p n w r.1;
    chooses = λ p n w r. (keeps r.0).lightens.chooses p n w r.1;
  };
}

-- ---- what is known at a child is known behind it, and so is what begins there

nth_is : (ts : Trees) (i : ℕ) → nth_lets (summaries ts) i ≡ lets_at ts i
nth_is none i = refl
nth_is (t ▸ ts) zero = refl
nth_is (t ▸ ts) (suc i) = nth_is ts i

plus_none : (S : VariableSet) → Within (plus S []) S
unfolding Within
plus_none S x e = e

less : (S : VariableSet) (H : List Variable) → Within (minus (plus S []) H) S
less S H = within_trans _ (plus S []) _ (minus_less (plus S []) H) (plus_none S)

along_first : (H : List Variable) (S : VariableSet) (ts : Trees) → S ≡ along H S ts 0
along_first H S none = refl
along_first H S (t ▸ ts) = refl

along_next : (H : List Variable) (S : VariableSet) (ts : Trees) (i : ℕ) → Within (minus (plus (along H S ts i) (lets_at ts i)) H) (along H S ts (suc i))
along_next H S none i = less S H
along_next H S (t ▸ ts) zero = let next = minus (plus S (summary t).lets) H in subst (Within next) (along_first H next ts) (within_refl next)
along_next H S (t ▸ ts) (suc i) = along_next H (minus (plus S (summary t).lets) H) ts i

along_on : (H : List Variable) (S : VariableSet) (ts : Trees) (i : ℕ) → Within (minus (plus (along H S ts i) []) H) (along H S ts (suc i))
along_on H S ts i =
    let there = along H S ts i in
    within_trans _ _ _ (minus_more (plus there []) (plus there (lets_at ts i)) H (within_trans _ there _ (plus_none there) (within_plus there (lets_at ts i)))) (along_next H S ts i)

list_on : (q : Demand) (S : VariableSet) (ts : Trees) (i : ℕ) → Within (minus (plus (list_needs q S ts i) []) (hidden_all ts)) (list_needs q S ts (suc i))
list_on (Stat t) S ts i = along_on (hidden_all ts) S ts i
list_on (Declares true) S ts i = along_on (hidden_all ts) S ts i
list_on (Declares false) S ts i = less S (hidden_all ts)
list_on q S ts i = less S (hidden_all ts)

listed_next : (q : Demand) (S : VariableSet) (ts : Trees) → Fits StatementList q → (i : ℕ) → Within (minus (plus (list_needs q S ts i) (nth_lets (summaries ts) i)) (hidden_all ts)) (list_needs q S ts (suc i))
listed_next (Stat t) S ts fit i = let H = hidden_all ts in subst (λ xs. Within (minus (plus (along H S ts i) xs) H) (along H S ts (suc i))) (sym (nth_is ts i)) (along_next H S ts i)
listed_next q S ts fit i = absurd fit

-- what is asked of a node that is the list of a `let` or a `const`, or stands in an export
abbrev pub Lists : Bool → Demand → Type 0
Lists true (Declares true) = Unit {0}
Lists true (Stat t) = Unit {0}
Lists true q = ⊥
Lists false q = Unit {0}

lexical_next : (b : Bool) (q : Demand) (S : VariableSet) (ts : Trees) → Lists b q → (i : ℕ) → Within (minus (plus (list_needs q S ts i) (begins_by (if b then OfChild else OfNone) (summaries ts) i)) (hidden_all ts)) (list_needs q S ts (suc i))
lexical_next true (Declares true) S ts a i = let H = hidden_all ts in subst (λ xs. Within (minus (plus (along H S ts i) xs) H) (along H S ts (suc i))) (sym (nth_is ts i)) (along_next H S ts i)
lexical_next true (Stat t) S ts a i = let H = hidden_all ts in subst (λ xs. Within (minus (plus (along H S ts i) xs) H) (along H S ts (suc i))) (sym (nth_is ts i)) (along_next H S ts i)
lexical_next true q S ts a i = absurd a
lexical_next false q S ts a i = list_on q S ts i

body_listed : (q : Demand) → Fits BodyList q → Fits StatementList q
body_listed (Stat t) fit = tt
body_listed q fit = absurd fit

-- what begins in a head is what that leaves initialised there
module _ (S : VariableSet) where
  stated_kept : (b : Bool) (xs : List Variable) → Within (plus S (choose b xs [])) (plus S xs)
  stated_kept true xs = within_refl (plus S xs)
  stated_kept false xs = within_trans _ S _ (plus_none S) (within_plus S xs)

  left_kept : (o : Option What) (xs : List Variable) → Within (plus S (lets_as o xs)) (plus S (kept (left_demand o) xs))
  left_kept (Some (Variables Var)) xs = within_refl (plus S [])
  left_kept (Some (Variables v)) xs = within_refl (plus S xs)
  left_kept (Some AClass) xs = within_refl (plus S [])
  left_kept None xs = within_refl (plus S [])

  for_kept : (o : Option What) (xs : List Variable) → Within (plus S (lets_as o xs)) (plus S (kept (head_demand o) xs))
  for_kept (Some (Variables v)) xs = stated_kept (is_lexical v) xs
  for_kept (Some AClass) xs = within_refl (plus S [])
  for_kept None xs = within_refl (plus S [])

  left_begins : (ts : Trees) → Within (plus S (head_lets (summaries ts))) (plus S (kept (left_demand (first_facts (facts ts)).declared) (lets_at ts 0)))
  left_begins none = within_refl (plus S [])
  left_begins (t ▸ ts) = left_kept (summary t).facts.declared (summary t).lets

  for_begins : (ts : Trees) → Within (plus S (head_lets (summaries ts))) (plus S (kept (head_demand (first_facts (facts ts)).declared) (lets_at ts 0)))
  for_begins none = within_refl (plus S [])
  for_begins (t ▸ ts) = for_kept (summary t).facts.declared (summary t).lets

  catch_next : (b : Bool) (p : Position) (ts : Trees) (i : ℕ) → Within (minus (plus (after_first (Binds true) S ts i) (begins_by (beginning b shape.CatchClause p i) (summaries ts) i)) (hidden_all ts)) (after_first (Binds true) S ts (suc i))
  catch_next b p ts zero = subst (λ xs. Within (minus (plus S xs) (hidden_all ts)) (minus (plus S (lets_at ts 0)) (hidden_all ts))) (sym (nth_is ts 0)) (within_refl (minus (plus S (lets_at ts 0)) (hidden_all ts)))
  catch_next b p ts (suc i) = less (after_first (Binds true) S ts (suc i)) (hidden_all ts)

  for_next : (b : Bool) (p : Position) (ts : Trees) (i : ℕ) → let q = head_demand (first_facts (facts ts)).declared in Within (minus (plus (after_first q S ts i) (begins_by (beginning b shape.ForStatement p i) (summaries ts) i)) (hidden_all ts)) (after_first q S ts (suc i))
  for_next b p ts zero = minus_more _ _ (hidden_all ts) (for_begins ts)
  for_next b p ts (suc i) = less (after_first (head_demand (first_facts (facts ts)).declared) S ts (suc i)) (hidden_all ts)

  left_next : (b : Bool) (p : Position) (ts : Trees) (i : ℕ) → let q = left_demand (first_facts (facts ts)).declared in Within (minus (plus (after_left q S ts i) (begins_by (beginning b shape.ForOfStatement p i) (summaries ts) i)) (hidden_all ts)) (after_left q S ts (suc i))
  left_next b p ts zero = less S (hidden_all ts)
  left_next b p ts (suc zero) = minus_more _ _ (hidden_all ts) (left_begins ts)
  left_next b p ts (suc (suc i)) = less (after_left (left_demand (first_facts (facts ts)).declared) S ts (suc (suc i))) (hidden_all ts)

needs_next : (b : Bool) (h : Shape) (p : Position) (q : Demand) (S : VariableSet) (ts : Trees) → Fits p q → Lists b q → (i : ℕ) → Within (minus (plus (needs h q S ts i) (begins b h p (summaries ts) i)) (hidden_all ts)) (needs h q S ts (suc i))
needs_next b shape.Listed StatementList q S ts fit a i = listed_next q S ts fit i
needs_next b shape.Listed BodyList q S ts fit a i = listed_next q S ts (body_listed q fit) i
needs_next b shape.Listed CommaList q S ts fit a i = lexical_next b q S ts a i
needs_next b shape.Listed p q S ts fit a i = list_on q S ts i
needs_next b shape.CatchClause p q S ts fit a i = catch_next S b p ts i
needs_next b shape.ForStatement p q S ts fit a i = for_next S b p ts i
needs_next b shape.ForInStatement p q S ts fit a i = left_next S b p ts i
needs_next b shape.ForOfStatement p q S ts fit a i = left_next S b p ts i
needs_next b h p q S ts fit a i = less S (hidden_all ts)

-- and a child that is the list of a `let` or a `const` is asked to declare, and one that stands in an export as a statement is
kind_lists : (b : Bool) → Lists b (Declares b)
kind_lists true = tt
kind_lists false = tt

both_list : (u b : Bool) → Lists (u && b) (Declares b)
both_list true b = kind_lists b
both_list false b = tt

none_list : (u b : Bool) (q : Demand) → u ≡ false → Lists (u && b) q
none_list true b q e = absurd (true≢false e)
none_list false b q e = tt

statement_lists : (v : VariableDeclarationKind) (k : StmtSeat) (q : Demand) → Fits (Stmt k) q → Lists (is_lexical v) (declaration_demand v q)
statement_lists v k (Stat t) fit = kind_lists (is_lexical v)
statement_lists v k q fit = absurd fit

head_lists : (v : VariableDeclarationKind) (s : Seat) (q : Demand) → Fits (Expr s) q → Lists (s.unused && is_lexical v) (declaration_demand v q)
head_lists v s (Binds l) fit = none_list s.unused (is_lexical v) (Binds l) fit.1
head_lists v s Heads fit = none_list s.unused (is_lexical v) Heads fit.1
head_lists v s q fit = both_list s.unused (is_lexical v)

exported_lists : (b : Bool) (v : VariableDeclarationKind) (q : Demand) → Lists b q → Lists (b && is_lexical v) (declaration_demand v q)
exported_lists true v (Declares true) a = kind_lists (is_lexical v)
exported_lists true v (Stat t) a = kind_lists (is_lexical v)
exported_lists true v q a = absurd a
exported_lists false v q a = tt

child_lists : (b : Bool) (h : Shape) (p : Position) (q : Demand) (fs : List Facts) → Fits p q → Lists b q → (i : ℕ) → Lists (enters_lexical b h p) (demand h fs q i)
child_lists b (shape.VariableDeclaration v) (Stmt k) q fs fit a i = statement_lists v k q fit
child_lists b (shape.VariableDeclaration v) (Expr s) q fs fit a i = head_lists v s q fit
child_lists b (shape.VariableDeclaration v) Elsewhere q fs fit a i = exported_lists b v q a
child_lists b (shape.VariableDeclaration v) p q fs fit a i = tt
child_lists b shape.ExportNamedDeclaration p q fs fit a i = tt
child_lists b h p q fs fit a i = tt

listed_there : (h : Shape) (p : Position) (L : Begun) (is : List Summary) (i : ℕ) → enters_lexical L.in_lexical h p ≡ (begun_at h p L is i).in_lexical
listed_there h p L is zero = refl
listed_there h p L is (suc i) = listed_there h p L is i

pub children_list : (h : Shape) (p : Position) (q : Demand) (L : Begun) (ts : Trees) → Fits p q → Lists L.in_lexical q → (i : ℕ) → Lists (begun_at h p L (summaries ts) i).in_lexical (demand h (facts ts) q i)
children_list h p q L ts fit a i = subst (λ b. Lists b (demand h (facts ts) q i)) (listed_there h p L (summaries ts) i) (child_lists L.in_lexical h p q (facts ts) fit a i)

-- so what is known at each child has its value there
module _ (c : Tree) (X : VariableSet) where
  abbrev K : Begun → VariableSet
  K L = valued c L.symbols X

  pub begun_wide : (h : Shape) (p : Position) (q : Demand) (L : Begun) (S : VariableSet) (ts : Trees) → Fits p q → Lists L.in_lexical q → Within (K L) S → Off (hidden_all ts) (K L) → ((k : ℕ) → all_bindings k ts ≤ bindings k c) → (i : ℕ) → Within (K (begun_at h p L (summaries ts) i)) (needs h q S ts i)
  begun_wide h p q L S ts fit a w o f zero = needs_still h q (K L) S ts w o 0
  begun_wide h p q L S ts fit a w o f (suc i) =
      let before = begun_at h p L (summaries ts) i in
      let next = begun_at h p L (summaries ts) (suc i) in
      let there = more_known c X before.symbols (begins L.in_lexical h p (summaries ts) i) (needs h q S ts i) (begun_wide h p q L S ts fit a w o f i) in
      within_trans (K next) _ _ (within_minus (K next) _ (hidden_all ts) (begun_off c X h p L ts o f (suc i)) there) (needs_next L.in_lexical h p q S ts fit a i)

-- ---- what a place tells of what stands around a child

-- the place of the child that stands behind so many
abbrev shift : ℕ → ℕ → ℕ
shift i zero = i
shift i (suc j) = shift (suc i) j

shifted : (i j : ℕ) → shift i j ≡ i + j
shifted i zero = omega arith
shifted i (suc j) = let rest = shifted (suc i) j in omega (arith, rest)

from_zero : (j : ℕ) → j ≡ shift 0 j
from_zero j = let rest = shifted 0 j in omega (arith, rest)

constructs_there : (a : Around) (h : Shape) (p : Position) (m i : ℕ) → is_method_place (child_position h p m i) ≡ false → constructs_below a h i ≡ false
constructs_there a (shape.MethodDefinition k computed b) p m (suc i) e = absurd (true≢false e)
constructs_there a (shape.MethodDefinition method.Constructor computed b) p m zero e = refl
constructs_there a h p m i e = refl

around_below : (a : Around) (h : Shape) (p : Position) (ts : Trees) (m i j : ℕ) → j ≡ i → AroundAt (child_position h p m j) (below a h ts i)
around_below a h p ts m i j is e = constructs_there a h p m i (subst (λ k. is_method_place (child_position h p m k) ≡ false) is e)

property_there : (h : Shape) (p : Position) (m i : ℕ) → is_method_place (child_position h p m i) ≡ false → property_below h i ≡ None
property_there (shape.ObjectProperty Init false shorthand computed) p m i e = refl
property_there (shape.ObjectProperty Init true shorthand computed) p m (suc i) e = absurd (true≢false e)
property_there (shape.ObjectProperty k true shorthand computed) p m (suc i) e = absurd (true≢false e)
property_there (shape.ObjectProperty k false shorthand computed) p m (suc i) e = absurd (true≢false e)
property_there (shape.ObjectProperty k b shorthand computed) p m zero e = refl
property_there h p m i e = refl

property_at : (h : Shape) (p : Position) (m i j : ℕ) → j ≡ i → PropertyAt (child_position h p m j) (property_below h i)
property_at h p m i j is e = property_there h p m i (subst (λ k. is_method_place (child_position h p m k) ≡ false) is e)

module _ (F : OwnRows) (keeps : (V : Assured) → KeepsOwn V (F V)) (c : Tree) (V : Assured) where
  abbrev R : Begun → Position → Tree → Tree → Type 0
  R = own_rows F c V

  form : KeepsForm (AnyRow F)
  form = any_form F keeps

  mutual
    pub forget : {L : Begun} {p : Position} {t u : Tree} → OwnStep R L p t u → Step (AnyRow F) p t u
    forget (own_here L p n w r) = here p n w (known_in c V L, r)
    forget (own_inside L p h xs ts us b s) = inside p h xs 0 ts us (forget_in s)

    forget_in : {Λ : ℕ → Begun} {π : ℕ → Position} {ts us : Trees} → OwnStepIn R Λ π ts us → StepIn (AnyRow F) π ts us
    forget_in (own_first Λ π t u ts s) = first π t u ts (forget s)
    forget_in (own_later Λ π t ts us s) = later π t ts us (forget_in s)

  mutual
    pub own_read : {L : Begun} {p : Position} {t u : Tree} → OwnStep R L p t u → summary t ≡ summary u
    own_read (own_here L p n w r) = (keeps (known_in c V L)).reads p n w r
    own_read (own_inside L p h xs ts us b s) = ap (λ is. summary_of h (variables xs) 0 is) (own_reads s)

    own_reads : {Λ : ℕ → Begun} {π : ℕ → Position} {ts us : Trees} → OwnStepIn R Λ π ts us → summaries ts ≡ summaries us
    own_reads (own_first Λ π t u ts s) = ap (λ i. i ∷ summaries ts) (own_read s)
    own_reads (own_later Λ π t ts us s) = ap (λ is. summary t ∷ is) (own_reads s)

  around_same : (a : Around) (h : Shape) {Λ : ℕ → Begun} {π : ℕ → Position} {ts us : Trees} → OwnStepIn R Λ π ts us → below a h ts ≡ below a h us
  around_same a (shape.Class c) {ts = ts} {us = us} s = (λ j i. record (below a (shape.Class c) ts i) { extends = not (nth_absent (facts_all (own_reads s j)) 1) })
  around_same a h s = refl

  -- the bodies and frames in it are among those that were there
  mutual
    pub own_bodies : {L : Begun} {p : Position} {t u : Tree} → OwnStep R L p t u → (a : Around) → AroundAt p a → BodiesKept (bodies a t) (bodies a u)
    own_bodies (own_here L p n w r) a z = (keeps (known_in c V L)).bodies p n w r a z
    own_bodies (own_inside L p h xs ts us b s) a z =
        subst₂ BodiesKept (sym (λ i. no_body a h (node h xs 0 ts) ts b i ++ bodies_from (below a h ts) 0 ts)) (ap (λ α. bodies_from α 0 us) (around_same a h s) ∙ sym (λ i. no_body a h (node h xs 0 us) us b i ++ bodies_from (below a h us) 0 us))
        (own_bodies_in s (below a h ts) 0 (λ j. around_below a h p ts (count ts) (shift 0 j) j (from_zero j)))

    own_bodies_in : {Λ : ℕ → Begun} {π : ℕ → Position} {ts us : Trees} → OwnStepIn R Λ π ts us → (α : ℕ → Around) (i : ℕ) → ((j : ℕ) → AroundAt (π j) (α (shift i j))) → BodiesKept (bodies_from α i ts) (bodies_from α i us)
    own_bodies_in (own_first Λ π t u ts s) α i z = each_body (bodies (α i) t) (bodies_from α (suc i) ts) (bodies (α i) u) (bodies_from α (suc i) ts) (own_bodies s (α i) (z 0)) (kept_itself (bodies_from α (suc i) ts))
    own_bodies_in (own_later Λ π t ts us s) α i z = each_body (bodies (α i) t) (bodies_from α (suc i) ts) (bodies (α i) t) (bodies_from α (suc i) us) (kept_itself (bodies (α i) t)) (own_bodies_in s α (suc i) (λ j. z (suc j)))

  mutual
    pub own_frames : {L : Begun} {p : Position} {t u : Tree} → OwnStep R L p t u → (κ : Option PropertyKind) → PropertyAt p κ → FramesKept (frames κ t) (frames κ u)
    own_frames (own_here L p n w r) κ z = (keeps (known_in c V L)).frames p n w r κ z
    own_frames (own_inside L p h xs ts us b s) κ z =
        subst₂ FramesKept (sym (λ i. no_frame κ h (frame_outline h xs 0 ts) (globals h ts) b i ++ frames_from (property_below h) 0 ts)) (sym (λ i. no_frame κ h (frame_outline h xs 0 us) (globals h us) b i ++ frames_from (property_below h) 0 us))
        (own_frames_in s (property_below h) 0 (λ j. property_at h p (count ts) (shift 0 j) j (from_zero j)))

    own_frames_in : {Λ : ℕ → Begun} {π : ℕ → Position} {ts us : Trees} → OwnStepIn R Λ π ts us → (κ : ℕ → Option PropertyKind) (i : ℕ) → ((j : ℕ) → PropertyAt (π j) (κ (shift i j))) → FramesKept (frames_from κ i ts) (frames_from κ i us)
    own_frames_in (own_first Λ π t u ts s) κ i z = each_frame (frames (κ i) t) (frames_from κ (suc i) ts) (frames (κ i) u) (frames_from κ (suc i) ts) (own_frames s (κ i) (z 0)) (λ f m. m)
    own_frames_in (own_later Λ π t ts us s) κ i z = each_frame (frames (κ i) t) (frames_from κ (suc i) ts) (frames (κ i) t) (frames_from κ (suc i) us) (λ f m. m) (own_frames_in s κ (suc i) (λ j. z (suc j)))

  -- and it does what it did where that is so which is known
  module _ (e : Environment) (z : Steadies V e) where
    abbrev U : Rules
    U = fading_rules V.unshared e

    abbrev sound : Sound U
    sound = fading_sound V.unshared e z.unshared

    kids_itself : (ts : Trees) (X : ℕ → VariableSet) (σ : ℕ → Demand) → PlaceGo U sound X σ (hidden_all ts) ts ts
    kids_itself none X σ = place_none U sound X σ
    kids_itself (t ▸ ts) X σ = place_cons U sound t t ts ts X σ (tree_itself V.unshared e z.unshared (X 0) (σ 0) t) (kids_itself ts (λ i. X (suc i)) (λ i. σ (suc i)))

    facts_count : (ts : Trees) → length (facts ts) ≡ count ts
    facts_count none = refl
    facts_count (t ▸ ts) = ap suc (facts_count ts)

    -- the variables that have values wherever it is evaluated, behind what has declared L
    abbrev I : Begun → VariableSet
    I L = (known_in c V L).initial

    mutual
      own_goes : {L : Begun} {p : Position} {t u : Tree} → OwnStep R L p t u → ((k : ℕ) → bindings k t ≤ bindings k c) → (X : VariableSet) → Within (I L) X → Off (hidden t) (I L) → (q : Demand) → Fits p q → Lists L.in_lexical q → TreesGo U X q t u
      own_goes (own_here L p n w r) less X wide o q f a = trees_fade_from V.unshared e z.unshared (I L) X wide q n w ((keeps (known_in c V L)).means e (known_steady c V L e z) p n w r q f)
      own_goes (own_inside L p h xs ts us b s) less X wide o q f a =
          let inner = off_back (scope_of h (summaries ts)) (hidden_all ts) (I L) o in
          let fewer : (k : ℕ) → all_bindings k ts ≤ bindings k c = λ k. omega (arith, less k) in
          one_node U sound h xs xs 0 0 ts us X q (ap (naming h q (variables xs) 0) (own_reads s)) refl (ap facts_all (own_reads s))
          (own_goes_in s fewer (needs h q X ts) (begun_wide c V.initial h p q L X ts f a wide inner fewer) (begun_off c V.initial h p L ts inner fewer) (demand h (facts ts) q) (λ i. subst (λ m. Fits (child_position h p m i) (demand h (facts ts) q i)) (facts_count ts) (fits_children h (facts ts) p q f i)) (children_list h p q L ts f a))

      own_goes_in : {Λ : ℕ → Begun} {π : ℕ → Position} {ts us : Trees} → OwnStepIn R Λ π ts us → ((k : ℕ) → all_bindings k ts ≤ bindings k c) → (X : ℕ → VariableSet) → ((i : ℕ) → Within (I (Λ i)) (X i)) → ((i : ℕ) → Off (hidden_all ts) (I (Λ i))) → (σ : ℕ → Demand) → ((i : ℕ) → Fits (π i) (σ i)) → ((i : ℕ) → Lists (Λ i).in_lexical (σ i)) → PlaceGo U sound X σ (hidden_all ts) ts us
      own_goes_in (own_first Λ π t u ts s) less X wide o σ f a = place_cons U sound t u ts ts X σ (own_goes s (λ k. omega (arith, less k)) (X 0) (wide 0) (off_front (hidden t) (hidden_all ts) (I (Λ 0)) (o 0)) (σ 0) (f 0) (a 0)) (kids_itself ts (λ i. X (suc i)) (λ i. σ (suc i)))
      own_goes_in (own_later Λ π t ts us s) less X wide o σ f a = place_cons U sound t t ts us X σ (tree_itself V.unshared e z.unshared (X 0) (σ 0) t) (own_goes_in s (λ k. omega (arith, less k)) (λ i. X (suc i)) (λ i. wide (suc i)) (λ i. off_back (hidden t) (hidden_all ts) (I (Λ (suc i))) (o (suc i))) (λ i. σ (suc i)) (λ i. f (suc i)) (λ i. a (suc i)))

    abbrev J : VariableSet
    J = (at_start c V).initial

    -- from a start that initialises them
    from_start : (q : Demand) (n w : Tree) → Off (hidden n) J → TreesGo U J q n w → (X : VariableSet) → Within J X → FadingFrom V.unshared X e q n w
    unfolding TreesGo
    from_start q n w o g X wide r x y f i = goes_map true _ (λ a. Fades V.unshared) _ (Fades V.unshared) (Fades V.unshared) _ _ (λ a s t b. b.0) (λ s t b. b.0) (g r J (within_refl J) o x y (f, init_less J X x wide i))

    pub own_runs : {p : Position} {t u : Tree} → OwnStep R nothing_begun p t u → ((k : ℕ) → bindings k t ≤ bindings k c) → Off (hidden t) J → (b : BodyKind) → Fits p (body_demand b) → (X : VariableSet) → Within J X → RunsAs e b b X t u
    own_runs {t = t} {u = u} s less o b fit X wide = runs_alike V.unshared e z.unshared b t u X (from_start (body_demand b) t u o (own_goes s less J (within_refl J) o (body_demand b) fit tt) X wide)

    -- and so does a node over it that is its own body
    pub own_runs_over : (h : Shape) (n : ℕ) (p : Position) {ts us : Trees} → OwnStepIn R (λ i. nothing_begun) (child_position h p (count ts)) ts us → ((k : ℕ) → all_bindings k ts ≤ bindings k c) → Off (hidden (node h [] n ts)) J → (b : BodyKind) → Fits p (body_demand b) → (X : VariableSet) → Within J X → RunsAs e b b X (node h [] n ts) (node h [] n us)
    own_runs_over h n p {ts = ts} {us = us} s less o b fit X wide = runs_alike V.unshared e z.unshared b (node h [] n ts) (node h [] n us) X (from_start (body_demand b) (node h [] n ts) (node h [] n us) o (goes (body_demand b) fit) X wide)
      where
        inner : Off (hidden_all ts) J
        inner = off_back (scope_of h (summaries ts)) (hidden_all ts) J o

        goes : (q : Demand) → Fits p q → TreesGo U J q (node h [] n ts) (node h [] n us)
        goes q f =
            one_node U sound h [] [] n n ts us J q (ap (naming h q [] n) (own_reads s)) refl (ap facts_all (own_reads s))
            (own_goes_in s less (needs h q J ts) (needs_still h q J J ts (within_refl J) inner) (λ i. inner) (demand h (facts ts) q) (λ i. subst (λ m. Fits (child_position h p m i) (demand h (facts ts) q i)) (facts_count ts) (fits_children h (facts ts) p q f i)) (λ i. tt))

-- bodies that are there stand for themselves
pub kept_under : (S : BodySets) (W : VariableSet) (bs cs : List Body) → BodiesKept bs cs → BodiesUnder W S nothing bs cs
kept_under S W bs cs h = more_under nothing W none_steady S nothing nothing (λ x h. absurd (true≢false (sym h))) (λ b. nothing_within (S b)) (λ x h. h) bs cs (from_kept nothing bs cs h)

-- ---- an instance

module _ (F : OwnRows) (keeps : (V : Assured) → KeepsOwn V (F V)) (S : BodySets) (W : VariableSet) (d g : Bool) (ds : List (List ℕ)) (k : ℕ) (name ps t u : Tree) (s : OwnStep (own_rows F t (S k)) nothing_begun Elsewhere t u) (p : Position) where
  abbrev f : Tree
  f = function_over d g ds k name ps t

  abbrev f' : Tree
  f' = function_over d g ds k name ps u

  abbrev Q : Position → Tree → Tree → Type 0
  Q = AnyRow F

  own : KeepsForm Q
  own = any_form F keeps

  whole : Step Q p f f'
  whole = inside p (shape.Function d g ds) [] k (name ▸ (ps ▸ (t ▸ none))) (name ▸ (ps ▸ (u ▸ none))) (later _ name (ps ▸ (t ▸ none)) (ps ▸ (u ▸ none)) (later _ ps (t ▸ none) (u ▸ none) (first _ t u none (forget F keeps t (S k) s))))

  whole_fits : (strict : Bool) (c : Slot) → fits_place p c ≡ true → fits strict c f ≡ true → fits strict c f' ≡ true
  whole_fits strict c z e = any_step_fits Q own.names own.shapes whole strict c z e

  whole_keeps : (strict : Bool) (c : Slot) → fits_place p c ≡ true → fits strict c f ≡ true → KeepsLoosely p f f'
  whole_keeps strict c z e = step_keeps Q own.names (init_stays Q own.shapes) whole strict c z e

  whole_declares : (x : Name) → Contains (declared f') x → Contains (declared f) x
  whole_declares = reaches_declared Q own.declared (more p f f' f' whole (done p f'))

  whole_fixed : (x : Variable) → fixed_by f x ≡ fixed_by f' x
  whole_fixed x = step_fixed nothing Q (record { reads = own.reads; fixed = λ q n w r y c. own.fixed q n w r y }) whole x refl

  body_frames : FramesKept (frames None t) (frames None u)
  body_frames = own_frames F keeps t (S k) s None (λ m. refl)

  abbrev own_frame : List Frame
  own_frame = frame_of None (shape.Function d g ds) k (frame_outline (shape.Function d g ds) [] k (name ▸ (ps ▸ (t ▸ none)))) (globals (shape.Function d g ds) (name ▸ (ps ▸ (t ▸ none))))

  after : (es fs gs : List Frame) → FramesKept fs gs → FramesKept (es ++ fs) (es ++ gs)
  after es fs gs h = each_frame es fs es gs (λ f m. m) h

  whole_frames : FramesKept (frames None f) (frames None f')
  whole_frames = after own_frame _ _ (after (frames None name) _ _ (after (frames None ps) _ _ (each_frame (frames None t) [] (frames None u) [] body_frames (λ f m. m))))

  abbrev own_body : Around → Tree → List Body
  own_body a v = body_of a (shape.Function d g ds) k (function_over d g ds k name ps v) (name ▸ (ps ▸ (v ▸ none)))

  abbrev below_it : Around → ℕ → Around
  below_it a i = below a (shape.Function d g ds) (name ▸ (ps ▸ (t ▸ none))) i

  abbrev others : Around → List Body → List Body
  others a bs = bodies (below_it a 0) name ++ (bodies (below_it a 1) ps ++ (bs ++ []))

  others_kept : (a : Around) → BodiesUnder W S nothing (others a (bodies (below_it a 2) t)) (others a (bodies (below_it a 2) u))
  others_kept a =
      each_under W S nothing (bodies (below_it a 0) name) _ (bodies (below_it a 0) name) _ (itself_under W S nothing (bodies (below_it a 0) name))
      (each_under W S nothing (bodies (below_it a 1) ps) _ (bodies (below_it a 1) ps) _ (itself_under W S nothing (bodies (below_it a 1) ps))
      (each_under W S nothing (bodies (below_it a 2) t) [] (bodies (below_it a 2) u) [] (kept_under S W (bodies (below_it a 2) t) (bodies (below_it a 2) u) (own_bodies F keeps t (S k) s (below_it a 2) (λ m. refl))) tt))

  whole_bodies : (a : Around) → BodiesUnder W S nothing (bodies a f) (bodies a f')
  whole_bodies a =
      each_under W S nothing (own_body a t) (others a (bodies (below_it a 2) t)) (own_body a u) (others a (bodies (below_it a 2) u))
      (inl (record { number = refl; kind = inl refl; strict = refl; asks_this = refl; same = λ e z y X g. own_runs F keeps t (S k) e y s (λ j. omega arith) (known_off t (S k)) FunctionStatements tt X (known_begins t (S k) X g) }), tt)
      (others_kept a)

  whole_steadies : SteadiesWith W S p f f'
  whole_steadies = record {
    same = record { by = λ e z. (created_same d g ds k name ps t u p).by e nothing nothing };
    fixed = fixed_anyway p f f' whole_fixed;
    frames = λ strict c z e a. kept_are_shown f f' whole_frames a;
    bodies = λ strict c z e a st. whole_bodies a;
  }

  keeps_function : (strict : Bool) (c : Slot) → fits strict c f ≡ true → KeepsFunction f f'
  keeps_function strict c e =
      let (n, is) = numbered d g ds k name ps t strict c e in
      record {
        is_declared = d;
        is_generator = g;
        directives = ds;
        number = n;
        name = name;
        parameters = ps;
        earlier = t;
        later = u;
        before = ap (λ m. function_over d g ds m name ps t) is;
        after = ap (λ m. function_over d g ds m name ps u) is;
        framed = body_frames;
      }

-- ---- all

-- where a function stands
abbrev is_function_place : Position → Bool
is_function_place (Stmt q) = true
is_function_place (Expr s) = true
is_function_place Method = true
is_function_place Elsewhere = true
is_function_place p = false

placed_row : (F : OwnRows) (S : BodySets) (p : Position) (n w : Tree) → OwnFunction F S p n w → (is_function_place p ≡ true) × OwnFunctionRow F S n w
placed_row F S (Stmt q) n w r = (refl, r)
placed_row F S (Expr s) n w r = (refl, r)
placed_row F S Method n w r = (refl, r)
placed_row F S Elsewhere n w r = (refl, r)
placed_row F S p n w r = absurd r

rooted : (p : Position) → is_function_place p ≡ true → (is_rewritten_place p ≡ true) ⊎ (is_rooted_place p ≡ true)
rooted (Stmt q) z = inl refl
rooted (Expr s) z = inl refl
rooted Method z = inr refl
rooted Elsewhere z = inr refl
rooted p z = absurd (cc z)

no_list : (p : Position) → is_function_place p ≡ true → is_statement_list p ≡ true → ⊥
no_list StatementList z e = cc z
no_list BodyList z e = cc z
no_list p z e = cc e

module _ (F : OwnRows) (keeps : (V : Assured) → KeepsOwn V (F V)) (S : BodySets) where
  -- what holds of each such function holds of what a row reads and writes
  by_row : (P : Position → Tree → Tree → Type 0) → ((p : Position) (d g : Bool) (ds : List (List ℕ)) (k : ℕ) (name ps t u : Tree) → is_function_place p ≡ true → OwnStep (own_rows F t (S k)) nothing_begun Elsewhere t u → P p (function_over d g ds k name ps t) (function_over d g ds k name ps u)) → (p : Position) (n w : Tree) → OwnFunction F S p n w → P p n w
  by_row P h p n w c =
      let (z, r) = placed_row F S p n w c in
      subst (λ v. P p v w) (sym r.shape) (subst (P p (function_over r.is_declaration r.is_generator r.directives r.number r.name r.parameters r.before)) (sym r.written) (h p r.is_declaration r.is_generator r.directives r.number r.name r.parameters r.before r.after z r.step))

  root_kept : (p : Position) (d g : Bool) (ds : List (List ℕ)) (k : ℕ) (name ps t u : Tree) → (is_rewritten_place p ≡ true) ⊎ (is_rooted_place p ≡ true) → (is_rewritten_place p ≡ true) ⊎ KeepsRoot p (function_over d g ds k name ps t) (function_over d g ds k name ps u)
  root_kept p d g ds k name ps t u (inl e) = inl e
  root_kept p d g ds k name ps t u (inr e) = inr (record { place = e; shape = refl; names = refl; number = refl; counted = refl; second = refl })

  pub functions_lawful : (K : Shape → Bool) (W : VariableSet) → LawfulUnder K W S (OwnFunction F S)
  functions_lawful K W = record {
    shapes = record {
      fitting = by_row (λ p n w. (strict : Bool) (c : Slot) → fits_place p c ≡ true → fits strict c n ≡ true → fits strict c w ≡ true) (λ p d g ds k name ps t u z s. whole_fits F keeps S W d g ds k name ps t u s p);
      asked = by_row AskedAlike (λ p d g ds k name ps t u z s. record { absent = λ g. absurd (true≢false (sym g)); body = λ g. absurd (true≢false (sym g)); optional = λ g. absurd (true≢false (sym g)); number = λ g h. refl; spelled = λ o g. absurd (cc g); plain = refl });
    };
    places = record {
      names = record {
        places = by_row (λ p n w. (is_rewritten_place p ≡ true) ⊎ KeepsRoot p n w) (λ p d g ds k name ps t u z s. root_kept p d g ds k name ps t u (rooted p z));
        pieces = by_row (λ p n w. is_piece (shape_of n) ≡ false) (λ p d g ds k name ps t u z s. refl);
        keeps = by_row (λ p n w. (strict : Bool) (c : Slot) → fits_place p c ≡ true → fits strict c n ≡ true → KeepsLoosely p n w) (λ p d g ds k name ps t u z s. whole_keeps F keeps S W d g ds k name ps t u s p);
      };
      slots = λ p n w c strict s f e. inr (inl (function_kept p n w c strict s e));
      ports = λ p n w c strict d e m. inr (function_kept p n w c strict (one (a_statement d)) e);
      listed = λ p n w e c. absurd (no_list p (placed_row F S p n w c).0 e);
      exported = λ p n w c strict e. inr (function_kept p n w c strict (one a_default_export) e);
    };
    reads = by_row (λ p n w. summary n ≡ summary w) (λ p d g ds k name ps t u z s. ap (λ i. summary_of (shape.Function d g ds) [] k (summary name ∷ (summary ps ∷ (i ∷ [])))) (own_read F keeps t (S k) s));
    kind = by_row (λ p n w. (strict : Bool) (c : Slot) → fits strict c n ≡ true → arrow_kind (shape_of n) ≡ arrow_kind (shape_of w)) (λ p d g ds k name ps t u z s strict c e. refl);
    declared = by_row (λ p n w. (x : Name) → Contains (declared w) x → Contains (declared n) x) (λ p d g ds k name ps t u z s. whole_declares F keeps S W d g ds k name ps t u s p);
    instances = λ p n w c. inl (by_row (SteadiesWith W S) (λ p d g ds k name ps t u z s. whole_steadies F keeps S W d g ds k name ps t u s p) p n w c);
  }
    where
      function_kept : (p : Position) (n w : Tree) → OwnFunction F S p n w → (strict : Bool) (c : Slot) → fits strict c n ≡ true → KeepsFunction n w
      function_kept = by_row (λ p n w. (strict : Bool) (c : Slot) → fits strict c n ≡ true → KeepsFunction n w) (λ p d g ds k name ps t u z s. keeps_function F keeps S W d g ds k name ps t u s p)

  -- ---- lighter

  function_lighter : (p : Position) (n w : Tree) → OwnFunction F S p n w → weight p w < weight p n
  function_lighter = by_row (λ p n w. weight p w < weight p n) (λ p d g ds k name ps t u z s. any_step_lighter (AnyRow F) (any_form F keeps).lightens p _ _ (whole F keeps S nothing d g ds k name ps t u s p))

  function_outline : (p : Position) (n w : Tree) → OwnFunction F S p n w → outline n ≡ outline w
  function_outline = by_row (λ p n w. outline n ≡ outline w) (λ p d g ds k name ps t u z s. refl)

  pub functions_lighten : Lightens (OwnFunction F S)
  functions_lighten = record {
    lighter = function_lighter;
    absent = λ p n w r a. ap (λ o. o.absent) (function_outline p n w r);
    items = λ p n w r a. ap (λ o. o.items) (function_outline p n w r);
    is_zero = λ p n w r a. inl (ap (λ o. o.is_zero) (function_outline p n w r));
    chooses = λ p n w r a. inl (λ h. sym (ap (λ o. o.chooses) (function_outline p n w r)) ∙ h);
  }

pub steady_functions_lawful : SteadyFunctionsAreLawful
steady_functions_lawful K W S = functions_lawful SteadyRow steady_own S K W

pub steady_functions_lighten : SteadyFunctionsLighten
steady_functions_lighten S = functions_lighten SteadyRow steady_own S

pub lexical_functions_lawful : LexicalFunctionsAreLawful
lexical_functions_lawful K W S = functions_lawful LexicalRows lexical_own S K W

pub lexical_functions_lighten : LexicalFunctionsLighten
lexical_functions_lighten S = functions_lighten LexicalRows lexical_own S

-- A function or class expression without a name that nothing mentions keeps what else a program has to keep.
use Rattle.std.specs.Prelude.{ℕ, zero, suc, ◌+◌, ◌≤◌, ◌≡◌, ◌⊎◌, refl, ◌&&◌, Bool, true, false, List, [], ◌∷◌, Contains, Option, None, if◌then◌else◌}
use Rattle.std.proofs.Common.{ap, ◌∙◌, sym, subst, inl, inr, true≢false, arith}
use Rattle.std.proofs.lemmas.Bool.{eq-eqb}
use Rattle.std.proofs.lemmas.List.Elements.{Contains-append_right}
use Rattle.mini_model.specs.declared.name.Name.{Name}
use Rattle.mini_model.specs.declared.name.SymbolId.{SymbolId}
use Rattle.mini_model.specs.declared.place.Position.{Position}
use Rattle.mini_model.specs.declared.place.Position.TheVariants.{Expr}
use Rattle.mini_model.specs.declared.seat.Seat.{Seat}
use Rattle.mini_model.specs.declared.shape.Shape.{Shape}
use Rattle.mini_model.specs.declared.shape.Shape.TheVariants as shape
use Rattle.mini_model.specs.Tree.{Tree, Trees, node, none, ◌▸◌, absent, shape_of}
use Rattle.mini_accept.specs.WellShaped.{Depth, in_module, in_body, nested, Class, a_statement, a_method, an_init, an_arrow_body, an_expression, a_link, an_argument, a_key, a_private_or_key, an_inner_key, a_default_export, a_parameter, a_pattern_rest, a_function_body, a_class_body, a_binding, an_inner, Slot, one, one_or_absent, many_and_rest, filling_by, these, filling, statement_slots, has_its_number, has_plain_fields, is_whole, is_strict_in, fits, fill}
use Rattle.mini_laws.specs.declared.names.Binding.{Binding}
use Rattle.mini_laws.specs.declared.names.Declared.{Declared}
use Rattle.mini_laws.specs.declared.names.Declared.TheVariants as declares
use Rattle.mini_laws.specs.declared.names.Targets.{Targets}
use Rattle.mini_laws.specs.declared.names.Use.{Use}
use Rattle.mini_laws.specs.DeclaredNames.{names_of, body_names, with_names, has_inner}
use Rattle.mini_laws.specs.Early.{Path, body_declarations, declarations, scope_declarations, early_names, targets_of, early_jumps, is_loop}
use Rattle.mini_laws.specs.Edits.{Kept}
use Rattle.mini_laws.specs.Resolved.{Environment}
use Rattle.mini_laws.specs.Scopes.{opened, use_of, scopes_by}
use Rattle.mini_laws.specs.Scoped.{Scoped, AllUnmentioned}
use Rattle.mini_laws.specs.Symbols.{declared as declared_in, times, is_same}
use Rattle.mini_laws.specs.Value.{Variable, nothing, variable_eq, variable_by, is_in, choose}
use Rattle.mini_laws.specs.Value.{Declared as Symbol}
use Rattle.mini_laws.specs.State.{State, Fixed, Writable, Constant, KeepsOld}
use Rattle.mini_laws.specs.State.{Environment as World}
use Rattle.mini_laws.specs.Demand.{Demand, As, Callee, OfType, Deleted, AnEntry, Request}
use Rattle.mini_laws.specs.Fixity.{stricter, fixed_by, fixed_by_any}
use Rattle.mini_laws.specs.Naming.{summary}
use Rattle.mini_laws.specs.Step.{step, means}
use Rattle.mini_laws.specs.Rows.{SameAt}
use Rattle.mini_laws.specs.Substitution.{alone}
use Rattle.mini_laws.specs.Bodies.{Around, bodies, arrow_kind}
use Rattle.mini_laws.proofs.Congruent.{weaker, no_within}
use Rattle.mini_laws.proofs.Drops.{all_dropped}
use Rattle.mini_laws.proofs.Rows.{equal_same}
use Rattle.mini_kept.specs.Without.{BodiesWithout}
use Rattle.mini_kept.specs.Carried.{numbers}
use Rattle.mini_kept.specs.Declaring.{declared}
use Rattle.mini_kept.specs.Frames.{showing, shown_from, is_declaration, Frame, frames, frames_from, property_below}
use Rattle.mini_kept.specs.KeepsFrames.{is_body_slot, IsShownAlike, NoPort, NoDeclaration, KeepsFunction, KeepsHolder}
use Rattle.mini_kept.specs.KeepsLoosely.{KeepsLoosely}
use Rattle.mini_kept.specs.KeepsNames.{Keeps, unplaced, is_rewritten_place, count_of}
use Rattle.mini_kept.specs.KeepsShapes.{AskedAlike}
use Rattle.mini_kept.specs.Lifted.{is_piece, KeepsRoot}
use Rattle.mini_kept.specs.Loosely.{symbol, Stays, Drops}
use Rattle.mini_kept.specs.Placed.{fits_place, is_statement_list}
use Rattle.mini_kept.specs.SameNames.{is_among}
use Rattle.mini_kept.specs.ShownFrames.{no_key, gone_from, FramesShown}
use Rattle.mini_kept.proofs.BodyLists.{kept_itself}
use Rattle.mini_kept.proofs.Expressions.{TakesExpressionIn, TakesExpression, refused_here}
use Rattle.mini_kept.proofs.FrameRows.{expression_slot}
use Rattle.mini_kept.proofs.InOrder.{in_order}
use Rattle.mini_kept.proofs.ShownFrames.{all_themselves, shown_themselves, one_shown, each_shown}
use Rattle.mini_kept.proofs.WithoutLists.{from_kept}
use Rattle.mini_rows.specs.Declarations.{binding}
use Rattle.mini_rows.specs.Names.{Nameable, AFunction, AClass, shape_by, inside_of, nameable, Row62, NameContracts, NamesAreLawful}
use Rattle.mini_rows.specs.Switches.{Switches, let_go}
use Rattle.mini_rows.specs.Unused.{resolved}
use Rattle.mini_rows.proofs.UnusedNames.{all_unmentioned}

-- ---- it does the same

created : (x : Name) (e : Nameable) (n : ℕ) (f : World) (q : Demand) (r : Request q) (s : State) → means f (nameable e n (binding x)) q r s ≡ means f (nameable e n absent) q r s
unfolding means step
created x (AFunction g ds ps b) n f (As w) r s = refl
created x (AFunction g ds ps b) n f Callee r s = refl
created x (AFunction g ds ps b) n f OfType r s = refl
created x (AFunction g ds ps b) n f Deleted r s = refl
created x (AFunction g ds ps b) n f AnEntry r s = refl
created x (AFunction g ds ps b) n f q r s = refl
created x (AClass c b) n f (As w) r s = refl
created x (AClass c b) n f Callee r s = refl
created x (AClass c b) n f OfType r s = refl
created x (AClass c b) n f Deleted r s = refl
created x (AClass c b) n f AnEntry r s = refl
created x (AClass c b) n f q r s = refl

same_at : (x : Name) (e : Nameable) (n : ℕ) (p : Position) → SameAt p (nameable e n (binding x)) (nameable e n absent)
same_at x e n p = equal_same p (nameable e n (binding x)) (nameable e n absent) (record { by = λ f q z r s. created x e n f q r s })

-- ---- where it stands

keep : (w b r : Bool) → (w && (b && r)) ≡ true → (w && (true && r)) ≡ true
keep true true r e = e
keep true false r e = absurd (true≢false (sym e))
keep false b r e = absurd (true≢false (sym e))

last_false : (a b f : Bool) → ((a && (b && false)) && f) ≡ true → ⊥
last_false true true f e = true≢false (sym e)
last_false true false f e = true≢false (sym e)
last_false false b f e = true≢false (sym e)

function_nowhere : (strict : Bool) (d : Depth) (g : Bool) (ds : List (List ℕ)) → statement_slots strict d (shape.Function false g ds) ≡ None
function_nowhere true in_module g ds = refl
function_nowhere true in_body g ds = refl
function_nowhere true nested g ds = refl
function_nowhere false in_module g ds = refl
function_nowhere false in_body g ds = refl
function_nowhere false nested g ds = refl

class_nowhere : (strict : Bool) (d : Depth) → statement_slots strict d (shape.Class false) ≡ None
class_nowhere true in_module = refl
class_nowhere true in_body = refl
class_nowhere true nested = refl
class_nowhere false in_module = refl
class_nowhere false in_body = refl
class_nowhere false nested = refl

abbrev Standing : Name → Nameable → ℕ → Bool → Class → Type 0
Standing x e n strict c = TakesExpressionIn c × (fits strict (one c) (nameable e n absent) ≡ true)

function_in : (x : Name) (g : Bool) (ds : List (List ℕ)) (ps b : Tree) (n : ℕ) (strict : Bool) (k : Class) → fits strict (one k) (nameable (AFunction g ds ps b) n (binding x)) ≡ true → Standing x (AFunction g ds ps b) n strict k
function_in x g ds ps b n strict an_expression e = (tt, keep (is_whole an_expression (shape.Function false g ds) [] n (binding x ▸ (ps ▸ (b ▸ none)))) (fits (is_strict_in strict (shape.Function false g ds)) (one_or_absent a_binding) (binding x)) (fill (is_strict_in strict (shape.Function false g ds)) (these (many_and_rest a_parameter a_pattern_rest ∷ one a_function_body ∷ [])) (ps ▸ (b ▸ none))) e)
function_in x g ds ps b n strict a_link e = (tt, keep (is_whole a_link (shape.Function false g ds) [] n (binding x ▸ (ps ▸ (b ▸ none)))) (fits (is_strict_in strict (shape.Function false g ds)) (one_or_absent a_binding) (binding x)) (fill (is_strict_in strict (shape.Function false g ds)) (these (many_and_rest a_parameter a_pattern_rest ∷ one a_function_body ∷ [])) (ps ▸ (b ▸ none))) e)
function_in x g ds ps b n strict an_argument e = (tt, keep (is_whole an_argument (shape.Function false g ds) [] n (binding x ▸ (ps ▸ (b ▸ none)))) (fits (is_strict_in strict (shape.Function false g ds)) (one_or_absent a_binding) (binding x)) (fill (is_strict_in strict (shape.Function false g ds)) (these (many_and_rest a_parameter a_pattern_rest ∷ one a_function_body ∷ [])) (ps ▸ (b ▸ none))) e)
function_in x g ds ps b n strict an_init e = (tt, keep (is_whole an_init (shape.Function false g ds) [] n (binding x ▸ (ps ▸ (b ▸ none)))) (fits (is_strict_in strict (shape.Function false g ds)) (one_or_absent a_binding) (binding x)) (fill (is_strict_in strict (shape.Function false g ds)) (these (many_and_rest a_parameter a_pattern_rest ∷ one a_function_body ∷ [])) (ps ▸ (b ▸ none))) e)
function_in x g ds ps b n strict an_arrow_body e = (tt, keep (is_whole an_arrow_body (shape.Function false g ds) [] n (binding x ▸ (ps ▸ (b ▸ none)))) (fits (is_strict_in strict (shape.Function false g ds)) (one_or_absent a_binding) (binding x)) (fill (is_strict_in strict (shape.Function false g ds)) (these (many_and_rest a_parameter a_pattern_rest ∷ one a_function_body ∷ [])) (ps ▸ (b ▸ none))) e)
function_in x g ds ps b n strict a_default_export e = (tt, keep (is_whole a_default_export (shape.Function false g ds) [] n (binding x ▸ (ps ▸ (b ▸ none)))) (fits (is_strict_in strict (shape.Function false g ds)) (one_or_absent a_binding) (binding x)) (fill (is_strict_in strict (shape.Function false g ds)) (these (many_and_rest a_parameter a_pattern_rest ∷ one a_function_body ∷ [])) (ps ▸ (b ▸ none))) e)
function_in x g ds ps b n strict (a_key true) e = (tt, keep (is_whole (a_key true) (shape.Function false g ds) [] n (binding x ▸ (ps ▸ (b ▸ none)))) (fits (is_strict_in strict (shape.Function false g ds)) (one_or_absent a_binding) (binding x)) (fill (is_strict_in strict (shape.Function false g ds)) (these (many_and_rest a_parameter a_pattern_rest ∷ one a_function_body ∷ [])) (ps ▸ (b ▸ none))) e)
function_in x g ds ps b n strict (a_key false) e = absurd (refused_here strict (one (a_key false)) (shape.Function false g ds) [] n (binding x ▸ (ps ▸ (b ▸ none))) refl e)
function_in x g ds ps b n strict (a_statement d) e = absurd (refused_here strict (one (a_statement d)) (shape.Function false g ds) [] n (binding x ▸ (ps ▸ (b ▸ none))) (ap filling_by (function_nowhere strict d g ds)) e)
function_in x g ds ps b n strict a_method e = absurd (last_false (has_its_number a_method (shape.Function false g ds) n) (has_plain_fields (shape.Function false g ds)) (fill (is_strict_in strict (shape.Function false g ds)) (filling strict (one a_method) (shape.Function false g ds)) (binding x ▸ (ps ▸ (b ▸ none)))) e)
function_in x g ds ps b n strict (a_private_or_key true) e = absurd (refused_here strict (one (a_private_or_key true)) (shape.Function false g ds) [] n (binding x ▸ (ps ▸ (b ▸ none))) refl e)
function_in x g ds ps b n strict (an_inner_key true) e = absurd (refused_here strict (one (an_inner_key true)) (shape.Function false g ds) [] n (binding x ▸ (ps ▸ (b ▸ none))) refl e)
function_in x g ds ps b n strict k e = absurd (refused_here strict (one k) (shape.Function false g ds) [] n (binding x ▸ (ps ▸ (b ▸ none))) refl e)

class_in : (x : Name) (c b : Tree) (n : ℕ) (strict : Bool) (k : Class) → fits strict (one k) (nameable (AClass c b) n (binding x)) ≡ true → Standing x (AClass c b) n strict k
class_in x c b n strict an_expression e = (tt, keep (is_whole an_expression (shape.Class false) [] n (binding x ▸ (c ▸ (b ▸ (absent ▸ none))))) (fits true (one_or_absent a_binding) (binding x)) (fill true (these (one_or_absent (an_inner an_expression) ∷ one a_class_body ∷ one_or_absent a_binding ∷ [])) (c ▸ (b ▸ (absent ▸ none)))) e)
class_in x c b n strict a_link e = (tt, keep (is_whole a_link (shape.Class false) [] n (binding x ▸ (c ▸ (b ▸ (absent ▸ none))))) (fits true (one_or_absent a_binding) (binding x)) (fill true (these (one_or_absent (an_inner an_expression) ∷ one a_class_body ∷ one_or_absent a_binding ∷ [])) (c ▸ (b ▸ (absent ▸ none)))) e)
class_in x c b n strict an_argument e = (tt, keep (is_whole an_argument (shape.Class false) [] n (binding x ▸ (c ▸ (b ▸ (absent ▸ none))))) (fits true (one_or_absent a_binding) (binding x)) (fill true (these (one_or_absent (an_inner an_expression) ∷ one a_class_body ∷ one_or_absent a_binding ∷ [])) (c ▸ (b ▸ (absent ▸ none)))) e)
class_in x c b n strict an_init e = (tt, keep (is_whole an_init (shape.Class false) [] n (binding x ▸ (c ▸ (b ▸ (absent ▸ none))))) (fits true (one_or_absent a_binding) (binding x)) (fill true (these (one_or_absent (an_inner an_expression) ∷ one a_class_body ∷ one_or_absent a_binding ∷ [])) (c ▸ (b ▸ (absent ▸ none)))) e)
class_in x c b n strict an_arrow_body e = (tt, keep (is_whole an_arrow_body (shape.Class false) [] n (binding x ▸ (c ▸ (b ▸ (absent ▸ none))))) (fits true (one_or_absent a_binding) (binding x)) (fill true (these (one_or_absent (an_inner an_expression) ∷ one a_class_body ∷ one_or_absent a_binding ∷ [])) (c ▸ (b ▸ (absent ▸ none)))) e)
class_in x c b n strict a_default_export e = (tt, keep (is_whole a_default_export (shape.Class false) [] n (binding x ▸ (c ▸ (b ▸ (absent ▸ none))))) (fits true (one_or_absent a_binding) (binding x)) (fill true (these (one_or_absent (an_inner an_expression) ∷ one a_class_body ∷ one_or_absent a_binding ∷ [])) (c ▸ (b ▸ (absent ▸ none)))) e)
class_in x c b n strict (a_key true) e = (tt, keep (is_whole (a_key true) (shape.Class false) [] n (binding x ▸ (c ▸ (b ▸ (absent ▸ none))))) (fits true (one_or_absent a_binding) (binding x)) (fill true (these (one_or_absent (an_inner an_expression) ∷ one a_class_body ∷ one_or_absent a_binding ∷ [])) (c ▸ (b ▸ (absent ▸ none)))) e)
class_in x c b n strict (a_key false) e = absurd (refused_here strict (one (a_key false)) (shape.Class false) [] n (binding x ▸ (c ▸ (b ▸ (absent ▸ none)))) refl e)
class_in x c b n strict (a_statement d) e = absurd (refused_here strict (one (a_statement d)) (shape.Class false) [] n (binding x ▸ (c ▸ (b ▸ (absent ▸ none)))) (ap filling_by (class_nowhere strict d)) e)
class_in x c b n strict (a_private_or_key true) e = absurd (refused_here strict (one (a_private_or_key true)) (shape.Class false) [] n (binding x ▸ (c ▸ (b ▸ (absent ▸ none)))) refl e)
class_in x c b n strict (an_inner_key true) e = absurd (refused_here strict (one (an_inner_key true)) (shape.Class false) [] n (binding x ▸ (c ▸ (b ▸ (absent ▸ none)))) refl e)
class_in x c b n strict k e = absurd (refused_here strict (one k) (shape.Class false) [] n (binding x ▸ (c ▸ (b ▸ (absent ▸ none)))) refl e)

in_class : (x : Name) (e : Nameable) (n : ℕ) (strict : Bool) (k : Class) → fits strict (one k) (nameable e n (binding x)) ≡ true → Standing x e n strict k
in_class x (AFunction g ds ps b) n strict k f = function_in x g ds ps b n strict k f
in_class x (AClass c b) n strict k f = class_in x c b n strict k f

present : (c : Class) (e : Nameable) (n : ℕ) (t : Tree) (strict : Bool) → fits strict (one_or_absent c) (nameable e n t) ≡ fits strict (one c) (nameable e n t)
present c (AFunction g ds ps b) n t strict = refl
present c (AClass d b) n t strict = refl

in_slot : (x : Name) (e : Nameable) (n : ℕ) (strict : Bool) (s : Slot) → fits strict s (nameable e n (binding x)) ≡ true → TakesExpression s × (fits strict s (nameable e n absent) ≡ true)
in_slot x e n strict (one c) f = in_class x e n strict c f
in_slot x e n strict (one_or_absent c) f = let (takes, g) = in_class x e n strict c (sym (present c e n (binding x) strict) ∙ f) in (takes, present c e n absent strict ∙ g)
in_slot x (AFunction g ds ps b) n strict s f = absurd (refused_here strict s (shape.Function false g ds) [] n (binding x ▸ (ps ▸ (b ▸ none))) refl f)
in_slot x (AClass c b) n strict s f = absurd (refused_here strict s (shape.Class false) [] n (binding x ▸ (c ▸ (b ▸ (absent ▸ none)))) refl f)

-- ---- names

abbrev bind : Name → Binding
bind y = record { name = y; hoists = false }

scoped_without : (x : Name) (e : Nameable) (n : ℕ) → AllUnmentioned (bind x) (inside_of e) → (v : Use) (env : Environment) → Scoped v env (nameable e n (binding x)) → Scoped v env (nameable e n absent)
unfolding Scoped scopes_by names_of with_names
scoped_without x (AFunction g ds ps b) n m v env s = (tt, ((tt, tt), all_dropped (opened v (shape.Function false g ds) (binding x ▸ (ps ▸ (b ▸ none)))) (use_of (shape.Function false g ds) v) 1 env [] (bind x) (ps ▸ (b ▸ none)) s.1.1 m))
scoped_without x (AClass c b) n m v env s = (tt, ((tt, tt), all_dropped (opened v (shape.Class false) (binding x ▸ (c ▸ (b ▸ (absent ▸ none))))) (use_of (shape.Class false) v) 1 env [] (bind x) (c ▸ (b ▸ (absent ▸ none))) s.1.1 m))

one_more : (x : Name) (e : Nameable) (n : ℕ) (v : Use) → declared_in v (nameable e n (binding x)) ≡ x.symbol ∷ declared_in v (nameable e n absent)
unfolding declared_in scopes_by names_of with_names
one_more x (AFunction g ds ps b) n v = refl
one_more x (AClass c b) n v = refl

module _ (x : Name) (e : Nameable) (n : ℕ) where
  abbrev before : Tree
  before = nameable e n (binding x)

  abbrev after : Tree
  after = nameable e n absent

  no_more : (v : Use) (y : Option SymbolId) → times y (declared_in v after) ≤ times y (declared_in v before)
  no_more v y = let h = ap (times y) (one_more x e n v) in omega (arith, h)

  one_less : (k : ℕ) → x.symbol ≡ symbol k → (v : Use) → times (symbol k) (declared_in v after) + 1 ≤ times (symbol k) (declared_in v before)
  one_less k q v =
      let h = ap (times (symbol k)) (one_more x e n v) in
      let own : is_same (symbol k) x.symbol ≡ true = ap (is_same (symbol k)) q ∙ eq-eqb k k refl in
      let f = ap (λ b. (if b then 1 else 0) + times (symbol k) (declared_in v after)) own in
      omega (arith, h, f)

names_same : (x : Name) (e : Nameable) (n : ℕ) (d : Declared) → names_of d (nameable e n absent) ≡ names_of d (nameable e n (binding x))
unfolding names_of
names_same x (AFunction g ds ps b) n declares.Bound = refl
names_same x (AFunction g ds ps b) n declares.Lexical = refl
names_same x (AFunction g ds ps b) n declares.Hoisted = refl
names_same x (AClass c b) n declares.Bound = refl
names_same x (AClass c b) n declares.Lexical = refl
names_same x (AClass c b) n declares.Hoisted = refl

body_same : (x : Name) (e : Nameable) (n : ℕ) → body_names (nameable e n absent) ≡ body_names (nameable e n (binding x))
unfolding body_names names_of
body_same x (AFunction g ds ps b) n = refl
body_same x (AClass c b) n = refl

inner_same : (x : Name) (e : Nameable) (n : ℕ) → has_inner (nameable e n absent) ≡ has_inner (nameable e n (binding x))
unfolding has_inner
inner_same x (AFunction g ds ps b) n = refl
inner_same x (AClass c b) n = refl

numbers_same : (x : Name) (e : Nameable) (n : ℕ) → numbers (nameable e n absent) ≡ numbers (nameable e n (binding x))
unfolding numbers
numbers_same x (AFunction g ds ps b) n = refl
numbers_same x (AClass c b) n = refl

declared_same : (x : Name) (e : Nameable) (n : ℕ) (b : Bool) (q : Path) → body_declarations b q (nameable e n absent) ≡ body_declarations b q (nameable e n (binding x))
unfolding body_declarations declarations
declared_same x (AFunction g ds ps c) n b q = refl
declared_same x (AClass c d) n b q = refl

once_same : (x : Name) (e : Nameable) (n : ℕ) (q : Path) → early_names q (nameable e n absent) ≡ early_names q (nameable e n (binding x))
unfolding early_names scope_declarations
once_same x (AFunction g ds ps b) n q = refl
once_same x (AClass c b) n q = refl

targets_same : (x : Name) (e : Nameable) (n : ℕ) (a : Targets) (q : Path) → early_jumps a q (nameable e n absent) ≡ early_jumps a q (nameable e n (binding x))
unfolding early_jumps targets_of
targets_same x (AFunction g ds ps b) n a q = refl
targets_same x (AClass c b) n a q = refl

loop_same : (x : Name) (e : Nameable) (n : ℕ) → is_loop (nameable e n absent) ≡ is_loop (nameable e n (binding x))
unfolding is_loop
loop_same x (AFunction g ds ps b) n = refl
loop_same x (AClass c b) n = refl

name_kept : (x : Name) (e : Nameable) (n : ℕ) → Kept (nameable e n (binding x)) (nameable e n absent)
name_kept x e n = record { names = names_same x e n; body = body_same x e n; inner = inner_same x e n; symbols = λ v y. no_more x e n v y }

name_keeps : (s : Seat) (x : Name) (e : Nameable) (n : ℕ) → AllUnmentioned (bind x) (inside_of e) → Keeps (Expr s) (nameable e n (binding x)) (nameable e n absent)
name_keeps s x e n m = record {
  kept = name_kept x e n;
  scoped = λ v env st a. scoped_without x e n m v env a;
  numbers = λ k. let h = ap (count_of k) (numbers_same x e n) in omega (arith, h);
  declared_as_body = λ b q. ap (λ ds. unplaced ds) (declared_same x e n b q);
  once = λ q f. once_same x e n q ∙ f;
  targets = λ a q f. targets_same x e n a q ∙ f;
  loop = loop_same x e n;
  root = λ q. absurd (cc q);
  block = λ q. absurd (cc q);
}

declares_less : (x : Name) (e : Nameable) (n : ℕ) → declared (nameable e n (binding x)) ≡ x ∷ declared (nameable e n absent)
declares_less x (AFunction g ds ps b) n = refl
declares_less x (AClass c b) n = refl

-- ---- what a write of another variable does

alone_left : (f : Fixed) → stricter Writable f ≡ f
alone_left f = refl

fixed_without : (x : Name) (k : ℕ) → x.symbol ≡ symbol k → (e : Nameable) (n : ℕ) (y : Variable) → alone (Symbol k) y ≡ false → fixed_by (nameable e n (binding x)) y ≡ fixed_by (nameable e n absent) y
fixed_without x k q e n y f = by e (subst (λ s. own s ≡ false) (sym q) (other f))
  where
    own : Option SymbolId → Bool
    own s = is_in y (variable_by x.spelling s ∷ [])

    other : variable_eq (Symbol k) y ≡ false → is_in y (Symbol k ∷ []) ≡ false
    other g = ap (λ b. choose b true false) g

    by : (e : Nameable) → own x.symbol ≡ false → fixed_by (nameable e n (binding x)) y ≡ fixed_by (nameable e n absent) y
    by (AFunction g ds ps b) h = ap (λ b. stricter (choose b KeepsOld Writable) (stricter (stricter (choose false Writable Writable) Writable) (fixed_by_any (ps ▸ (b' ▸ none)) y))) h
      where
        b' : Tree
        b' = b
    by (AClass c b) h = ap (λ g. stricter (choose g Constant Writable) (stricter (stricter (choose false Writable Writable) Writable) (fixed_by_any (c ▸ (b ▸ (absent ▸ none))) y))) h

-- ---- bodies and frames

bodies_same : (x : Name) (e : Nameable) (n : ℕ) (a : Around) → bodies a (nameable e n (binding x)) ≡ bodies a (nameable e n absent)
bodies_same x (AFunction g ds ps b) n a = refl
bodies_same x (AClass c b) n a = refl

others_framed : Nameable → List Frame
others_framed e = frames_from (property_below (shape_by e)) 1 (inside_of e)

module _ (K : Shape → Bool) (x : Name) (k : ℕ) (q : x.symbol ≡ symbol k) where
  abbrev M : Shape → Variable → Bool
  M = gone_from K (alone (Symbol k))

  gone : (h : Shape) → K h ≡ true → M h (variable_by x.spelling x.symbol) ≡ true
  gone h l = subst (λ s. M h (variable_by x.spelling s) ≡ true) (sym q) (λ i. l i && eq-eqb k k refl i)

  frames_without : (e : Nameable) → K (shape_by e) ≡ true → (n : ℕ) → FramesShown M no_key (frames None (nameable e n (binding x))) (frames None (nameable e n absent))
  frames_without (AFunction g ds ps b) l zero = shown_themselves M no_key (frames None (nameable (AFunction g ds ps b) 0 absent))
  frames_without (AClass c b) l zero = shown_themselves M no_key (frames None (nameable (AClass c b) 0 absent))
  frames_without (AFunction g ds ps b) l (suc n) =
      let others = frames_from (property_below (shape.Function false g ds)) 1 (ps ▸ (b ▸ none)) in
      each_shown M no_key (framed (binding x) ∷ []) others (framed absent ∷ []) others (one_shown M no_key (framed (binding x)) (framed absent) (record {
        number = refl;
        property = refl;
        outline = inr (record { shape = shape.Function false g ds; names = []; number = suc n; name = binding x; before = rest; after = rest; named = refl; earlier = refl; later = refl; gone = (gone (shape.Function false g ds) l, tt); others = all_themselves no_key rest });
        globals = refl;
      })) (shown_themselves M no_key others)
    where
      rest : Trees
      rest = shown_from (showing (shape.Function false g ds)) 1 (ps ▸ (b ▸ none))

      framed : Tree → Frame
      framed id = record { number = suc n; property = None; outline = node (shape.Function false g ds) [] (suc n) (id ▸ rest); globals = is_among [] }
  frames_without (AClass c b) l (suc n) =
      let others = frames_from (property_below (shape.Class false)) 1 (c ▸ (b ▸ (absent ▸ none))) in
      each_shown M no_key (framed (binding x) ∷ []) others (framed absent ∷ []) others (one_shown M no_key (framed (binding x)) (framed absent) (record {
        number = refl;
        property = refl;
        outline = inr (record { shape = shape.Class false; names = []; number = suc n; name = binding x; before = rest; after = rest; named = refl; earlier = refl; later = refl; gone = (gone (shape.Class false) l, tt); others = all_themselves no_key rest });
        globals = refl;
      })) (shown_themselves M no_key others)
    where
      rest : Trees
      rest = shown_from (showing (shape.Class false)) 1 (c ▸ (b ▸ (absent ▸ none)))

      framed : Tree → Frame
      framed id = record { number = suc n; property = None; outline = node (shape.Class false) [] (suc n) (id ▸ rest); globals = is_among [] }

-- ---- an instance

abbrev Instance : (Tree → Tree → Type 0) → Type 0
Instance P = (x : Name) (e : Nameable) (n : ℕ) → P (nameable e n (binding x)) (nameable e n absent)

along : (o : Switches) (P : Tree → Tree → Type 0) (n w : Tree) (r : Row62 o n w) → P (nameable r.what r.number (binding (resolved r.spelling r.symbol))) (nameable r.what r.number absent) → P n w
along o P n w r f = subst (λ t. P t w) (sym r.shape) (subst (P (nameable r.what r.number (binding (resolved r.spelling r.symbol)))) (sym r.written) f)

reads : Instance (λ t v. summary t ≡ summary v)
reads x (AFunction g ds ps b) n = refl
reads x (AClass c b) n = refl

kinds : Instance (λ t v. arrow_kind (shape_of t) ≡ arrow_kind (shape_of v))
kinds x e n = refl

asked : (s : Seat) → Instance (AskedAlike (Expr s))
asked s x (AFunction g ds ps b) n = record { absent = λ g. absurd (true≢false (sym g)); body = λ g. absurd (true≢false (sym g)); optional = λ g. absurd (true≢false (sym g)); number = λ g h. refl; spelled = λ r g. absurd (cc g); plain = refl }
asked s x (AClass c b) n = record { absent = λ g. absurd (true≢false (sym g)); body = λ g. absurd (true≢false (sym g)); optional = λ g. absurd (true≢false (sym g)); number = λ g h. refl; spelled = λ r g. absurd (cc g); plain = refl }

pieces : Instance (λ t v. is_piece (shape_of t) ≡ false)
pieces x (AFunction g ds ps b) n = refl
pieces x (AClass c b) n = refl

undeclared : Instance (λ t v. (is_declaration (shape_of t) ≡ false) × (is_declaration (shape_of v) ≡ false))
undeclared x (AFunction g ds ps b) n = (refl, refl)
undeclared x (AClass c b) n = (refl, refl)

dropped : (o : Switches) (s : Seat) (n w : Tree) (r : Row62 o n w) → Drops (let_go o) r.symbol (Expr s) n w
dropped o s n w r =
    let x = resolved r.spelling r.symbol in
    let e = r.what in
    let k = r.symbol in
    along o (Drops (let_go o) k (Expr s)) n w r (record {
      kept = name_kept x e r.number;
      less = one_less x e r.number k refl;
      same = λ f z q u. weaker f nothing (alone (Symbol k)) nothing nothing (no_within (alone (Symbol k))) (no_within nothing) q _ _ ((same_at x e r.number (Expr s)).by f nothing nothing q u);
      fixed = fixed_without x k refl e r.number;
      frames = λ strict c g f. frames_without (let_go o) x k refl e r.let_it_go r.number;
      bodies = λ strict c g f a z. subst (λ bs. BodiesWithout (alone (Symbol k)) (bodies a (nameable e r.number (binding x))) bs) (bodies_same x e r.number a) (from_kept (alone (Symbol k)) _ _ (kept_itself (bodies a (nameable e r.number (binding x)))));
    })

-- whichever place it is
at_expression : (o : Switches) (P : Position → Tree → Tree → Type 0) → ((s : Seat) (n w : Tree) → Row62 o n w → P (Expr s) n w) → (p : Position) (n w : Tree) → NameContracts o p n w → P p n w
at_expression o P f (Expr s) n w c = f s n w c.row
at_expression o P f p n w c = absurd c.row

instance : (o : Switches) (P : Tree → Tree → Type 0) → Instance P → (n w : Tree) → Row62 o n w → P n w
instance o P f n w r = along o P n w r (f (resolved r.spelling r.symbol) r.what r.number)

stands : (o : Switches) (n w : Tree) → Row62 o n w → (strict : Bool) (s : Slot) → fits strict s n ≡ true → TakesExpression s × (fits strict s w ≡ true)
stands o n w r strict s = along o (λ t v. fits strict s t ≡ true → TakesExpression s × (fits strict s v ≡ true)) n w r (in_slot (resolved r.spelling r.symbol) r.what r.number strict s)

pub names_lawful : NamesAreLawful
names_lawful o = record {
  shapes = record {
    fitting = at_expression o (λ p n w. (strict : Bool) (s : Slot) → fits_place p s ≡ true → fits strict s n ≡ true → fits strict s w ≡ true) (λ q n w r strict s z e. (stands o n w r strict s e).1);
    asked = at_expression o AskedAlike (λ q n w r. instance o (AskedAlike (Expr q)) (asked q) n w r);
  };
  places = record {
    names = record {
      places = at_expression o (λ p n w. (is_rewritten_place p ≡ true) ⊎ KeepsRoot p n w) (λ q n w r. inl refl);
      pieces = at_expression o (λ p n w. is_piece (shape_of n) ≡ false) (λ q n w r. instance o (λ t v. is_piece (shape_of t) ≡ false) pieces n w r);
      keeps = at_expression o (λ p n w. (strict : Bool) (s : Slot) → fits_place p s ≡ true → fits strict s n ≡ true → KeepsLoosely p n w) (λ q n w r strict s z e.
          along o (KeepsLoosely (Expr q)) n w r (in_order (Expr q) _ _ (name_keeps q (resolved r.spelling r.symbol) r.what r.number (all_unmentioned (resolved r.spelling r.symbol) r.symbol refl (inside_of r.what) r.unmentioned))));
    };
    slots = at_expression o (λ p n w. (strict : Bool) (s : Slot) → fits_place p s ≡ true → fits strict s n ≡ true → ((is_body_slot p s ≡ true) ⊎ IsShownAlike s n w) ⊎ KeepsHolder n w) (λ q n w r strict s z e. inl (inl (expression_slot (Expr q) s (stands o n w r strict s e).0)));
    ports = at_expression o (λ p n w. (strict : Bool) (d : Depth) → fits strict (one (a_statement d)) n ≡ true → (m : Bool) → NoPort m n w ⊎ KeepsFunction n w) (λ q n w r strict d e. absurd (stands o n w r strict (one (a_statement d)) e).0);
    listed = λ p n w e c. absurd (at_expression o (λ p n w. is_statement_list p ≡ true → ⊥) (λ q n w r e. cc e) p n w c e);
    exported = at_expression o (λ p n w. (strict : Bool) → fits strict (one a_default_export) n ≡ true → NoDeclaration n w ⊎ KeepsFunction n w) (λ q n w r strict e. inl (instance o NoDeclaration undeclared n w r));
  };
  reads = at_expression o (λ p n w. summary n ≡ summary w) (λ q n w r. instance o (λ t v. summary t ≡ summary v) reads n w r);
  kind = at_expression o (λ p n w. (strict : Bool) (s : Slot) → fits strict s n ≡ true → arrow_kind (shape_of n) ≡ arrow_kind (shape_of w)) (λ q n w r strict s e. instance o (λ t v. arrow_kind (shape_of t) ≡ arrow_kind (shape_of v)) kinds n w r);
  declared = at_expression o (λ p n w. (y : Name) → Contains (declared w) y → Contains (declared n) y) (λ q n w r.
      along o (λ t v. (y : Name) → Contains (declared v) y → Contains (declared t) y) n w r (λ y c. subst (λ ys. Contains ys y) (sym (declares_less (resolved r.spelling r.symbol) r.what r.number)) (Contains-append_right (resolved r.spelling r.symbol ∷ []) (declared (nameable r.what r.number absent)) y c)));
  instances = at_expression o (λ p n w. Stays p n w ⊎ ((k : ℕ) × Drops (let_go o) k p n w)) (λ q n w r. inr (r.symbol, dropped o q n w r));
}

-- What the rows of names that are read behind held names write of a block in the own code of a function, of an arrow function or of a program keeps the
-- program, where that is known of the body. That nothing else in the body mentions the name is known of the program alone: each name in it has the
-- symbol that the scopes around it give, and no symbol is declared twice.
use Rattle.std.specs.Prelude.{ℕ, ◌+◌, ◌≤◌, ◌≡◌, ◌||◌, refl, Bool, true, false, List, [], ◌∷◌, ◌++◌, Contains, None}
use Rattle.std.proofs.Common.{ap, sym, subst, arith, inl, inr, true≢false}
use Rattle.mini_model.specs.declared.name.Name.{Name}
use Rattle.mini_model.specs.declared.place.Position.{Position}
use Rattle.mini_model.specs.declared.place.Position.TheVariants.{Expr, Stmt, Method, StatementList, Elsewhere}
use Rattle.mini_model.specs.declared.seat.Seat.{Seat}
use Rattle.mini_model.specs.declared.shape.Shape.{Shape}
use Rattle.mini_model.specs.declared.shape.Shape.TheVariants as shape
use Rattle.mini_model.specs.Tree.{Tree, Trees, none, ◌▸◌, children, shape_of}
use Rattle.mini_model.specs.Position.{argument_seat}
use Rattle.mini_model.specs.Rewriting.{Step, here, inside, StepIn, first, later, Reaches, done, more}
use Rattle.mini_accept.specs.WellShaped.{a_program, Slot, one, fits, IsWellShaped}
use Rattle.mini_laws.specs.declared.names.Use.{Use}
use Rattle.mini_laws.specs.declared.names.Use.TheVariants.{Read}
use Rattle.mini_laws.specs.Edits.{Kept}
use Rattle.mini_laws.specs.Symbols.{declared as declared_in, declared_symbols, times, Distinct}
use Rattle.mini_laws.specs.Value.{Variable, Declared, VariableSet, nothing}
use Rattle.mini_laws.specs.State.{Environment}
use Rattle.mini_laws.specs.Naming.{summary, summary_of}
use Rattle.mini_laws.specs.Skeleton.{Off, hidden}
use Rattle.mini_laws.specs.Substitution.{alone}
use Rattle.mini_laws.specs.Fixity.{fixed_by, written_in}
use Rattle.mini_laws.specs.Body.{FunctionStatements, Program}
use Rattle.mini_laws.specs.Bodies.{Around, outermost, below, Body, bodies, bodies_in, body_of, arrow_kind}
use Rattle.mini_laws.specs.Congruence.{ReadAlike, Avoids, AllAvoid}
use Rattle.mini_laws.specs.Rows.{SameAt}
use Rattle.mini_laws.proofs.Dead.{alike_self}
use Rattle.mini_kept.specs.AlikeBodies.{RunsAs, BodiesKept}
use Rattle.mini_kept.specs.Declaring.{declared}
use Rattle.mini_kept.specs.Frames.{frames, frames_in}
use Rattle.mini_kept.specs.KeepsFrames.{KeepsFramesBut, function_over}
use Rattle.mini_kept.specs.Kept.{over}
use Rattle.mini_kept.specs.Lifted.{is_piece, ProgramKeeps}
use Rattle.mini_kept.specs.Loosely.{symbol, undeclared, ProgramIsKeptUnder}
use Rattle.mini_kept.specs.Placed.{fits_place}
use Rattle.mini_kept.specs.Rooted.{is_body, is_program, LawfulRooted}
use Rattle.mini_kept.specs.ShownFrames.{KeyGivenUnder, KeyGiven, gone_from, FramesShown}
use Rattle.mini_kept.specs.Without.{Assured, BodySets, none_steady, Permits, BodiesUnder, KeepsBodiesUnder}
use Rattle.mini_kept.proofs.BodySteps.{step_under, whole_stands}
use Rattle.mini_kept.proofs.Declared.{reaches_declared}
use Rattle.mini_kept.proofs.Fixed.{step_fixed}
use Rattle.mini_kept.proofs.FrameSteps.{step_frames_but}
use Rattle.mini_kept.proofs.Gone.{step_less, avoids}
use Rattle.mini_kept.proofs.Rooted.{step_on, step_of, bodies_rooted, programs_rooted}
use Rattle.mini_kept.proofs.ShownFrames.{kept_shown, all_frames_more, gone_more, given_seldom}
use Rattle.mini_kept.proofs.Whole.{any_reaches_keep}
use Rattle.mini_kept.proofs.WithoutLists as without
use Rattle.mini_rows.specs.OwnArrows.{arrow_over, OwnCode}
use Rattle.mini_rows.specs.OwnPrograms.{program_over, OwnProgram}
use Rattle.mini_rows.specs.PastBlocks.{PastBlocks, PastBlocksAreLawful, PastBlocksAreLawfulInPrograms}
use Rattle.mini_rows.specs.Steady.{nothing_begun, own_rows, OwnStep, own_first, OwnFunctionRow}
use Rattle.mini_rows.specs.Switches.{Switches}
use Rattle.mini_rows.proofs.OwnArrowLawful.{body_fits, created_same as arrow_created}
use Rattle.mini_rows.proofs.OwnLosses.{LosesThere, some_step, lost_step, lost_read, lost_kind, lost_bodies, lost_runs, lost_runs_over}
use Rattle.mini_rows.proofs.PastLost.{Loses, at_lost, loses_names, loses_shapes, loses_places, loses_read}
use Rattle.mini_rows.proofs.PastModuleLawful.{undeclared_there, still_declared}
use Rattle.mini_rows.proofs.SteadyLawful.{at_start, created_same, known_off, over_off, known_begins}

-- bodies that are there stand for themselves, whatever is gone
pub bodies_there : (W : VariableSet) (S : BodySets) (D : VariableSet) (bs cs : List Body) → BodiesKept bs cs → BodiesUnder W S D bs cs
bodies_there W S D bs cs h = without.more_under nothing W none_steady S D D (without.nothing_part W) (without.none_part S) (without.part_itself D) bs cs (without.from_kept D bs cs h)

pub permitted : (W D : VariableSet) (e : Environment) → Permits W D e → Permits nothing D e
permitted W D e z = record { unseen = z.unseen; writable = λ x h. absurd (true≢false (sym h)) }

-- ---- a program in which a block loses the name with a symbol

module _ (k : ℕ) (K : Shape → Bool) (W : VariableSet) (S : BodySets) (t u : Tree) (s : Step (Loses k) Elsewhere t u) (e : IsWellShaped t) (rooted : u ≡ over t (children u)) (bodied : Avoids (alone (Declared k)) u → BodiesUnder W S (alone (Declared k)) (bodies_in t) (bodies_in u)) where
  abbrev R : Position → Tree → Tree → Type 0
  R = Loses k

  abbrev D : VariableSet
  D = alone (Declared k)

  reached : Reaches R Elsewhere t u
  reached = more Elsewhere t u u s (done Elsewhere u)

  names : ProgramKeeps t u
  names = any_reaches_keep R (loses_names k) (loses_shapes k) t u reached

  -- its symbol was declared once, and is declared no more
  gone : Distinct (declared_symbols t) → times (symbol k) (declared_symbols u) ≡ 0
  gone d =
      let less = step_less R (symbol k) (at_lost k (λ p n w. Kept n w) (λ V q n w r. r.kept)) (at_lost k (λ p n w. (v : Use) → times (symbol k) (declared_in v w) + 1 ≤ times (symbol k) (declared_in v n)) (λ V q n w r. r.less)) s Read in
      let once : times (symbol k) (declared_symbols t) ≤ 1 = d (symbol k) in
      omega (arith, less, once)

  keeps_frames : KeepsFramesBut (gone_from K D) R
  keeps_frames = record {
    places = loses_places k;
    frames = at_lost k (λ p n w. (strict : Bool) (c : Slot) → fits_place p c ≡ true → fits strict c n ≡ true → (a : Around) → FramesShown (gone_from K D) (KeyGiven nothing (bodies a n)) (frames None n) (frames None w)) (λ V q n w r strict c z e a. kept_shown (gone_from K D) (KeyGiven nothing (bodies a n)) (frames None n) (frames None w) r.framed);
  }

  pub program_kept : ProgramIsKeptUnder K W S t u
  program_kept = record {
    names = names;
    bodies = λ v d. without.more_under W W S S D (undeclared u) (without.part_itself W) (without.each_itself S) (undeclared_there k u (gone d)) (bodies_in t) (bodies_in u) (bodied (avoids k Read [] u (names.scoped e v) refl (gone d)));
    frames = λ v d.
        all_frames_more (gone_from K D) (gone_from K (undeclared u)) (KeyGiven nothing (bodies_in t)) (KeyGivenUnder W S (undeclared u) (bodies_in t)) (gone_more K D (undeclared u) (undeclared_there k u (gone d))) (given_seldom W S (undeclared u) (bodies_in t)) (frames_in t) (frames_in u)
        (step_frames_but (gone_from K D) R keeps_frames t u s e);
    fixities = λ v d strict y h. ap (written_in strict y) (step_fixed D R (record { reads = loses_read k; fixed = at_lost k (λ p n w. (y : Variable) → D y ≡ false → fixed_by n y ≡ fixed_by w y) (λ V q n w r. r.fixed) }) s y (still_declared k u (gone d) y h));
    declared = reaches_declared R (at_lost k (λ p n w. (y : Name) → Contains (declared w) y → Contains (declared n) y) (λ V q n w r. r.declares)) reached;
    root = rooted;
  }

-- ---- where the whole mentions a name nowhere, so does what a step writes

module _ (E : VariableSet) (O : Position → Tree → Tree → Type 0) where
  abbrev pub Unnamed : Position → Tree → Tree → Type 0
  Unnamed p n w = O p n w × Avoids E w

  mutual
    pub unnamed_step : {p : Position} {t u : Tree} → Step O p t u → Avoids E u → Step Unnamed p t u
    unnamed_step (here p n w r) a = here p n w (r, a)
    unnamed_step (inside p h xs n ts us s) a = inside p h xs n ts us (unnamed_steps s a.1)

    unnamed_steps : {π : ℕ → Position} {ts us : Trees} → StepIn O π ts us → AllAvoid E us → StepIn Unnamed π ts us
    unnamed_steps (first π t u ts s) a = first π t u ts (unnamed_step s a.0)
    unnamed_steps (later π t ts us s) a = later π t ts us (unnamed_steps s a.1)

-- ---- functions and arrow functions

-- one whose body takes such a step, over what S says of the body with a number
data Owner (S : BodySets) (k : ℕ) (number : ℕ) : Position → Tree → Tree → Type 0 where
  a_function : (p : Position) (d g : Bool) (ds : List (List ℕ)) (name ps t u : Tree) → OwnStep (LosesThere t (S number) k) nothing_begun Elsewhere t u → Owner S k number p (function_over d g ds number name ps t) (function_over d g ds number name ps u)
  an_arrow : (q : Seat) (ds : List (List ℕ)) (ps t u : Tree) → OwnStep (LosesThere t (S number) k) nothing_begun (Expr argument_seat) t u → Owner S k number (Expr q) (arrow_over ds number ps t) (arrow_over ds number ps u)

module _ (S : BodySets) (k number : ℕ) where
  abbrev O : Position → Tree → Tree → Type 0
  O = Owner S k number

  abbrev V : Assured
  V = S number

  abbrev E : VariableSet
  E = alone (Declared k)

  -- a step at one is a step at the block
  flat_here : {p : Position} {t u : Tree} → O p t u → Step (Loses k) p t u
  flat_here (a_function p d g ds name ps t u s) = inside p (shape.Function d g ds) [] number (name ▸ (ps ▸ (t ▸ none))) (name ▸ (ps ▸ (u ▸ none))) (later _ name (ps ▸ (t ▸ none)) (ps ▸ (u ▸ none)) (later _ ps (t ▸ none) (u ▸ none) (first _ t u none (lost_step t V k s))))
  flat_here (an_arrow q ds ps t u s) = inside (Expr q) (shape.ArrowFunctionExpression ds) [] number (ps ▸ (t ▸ none)) (ps ▸ (u ▸ none)) (later _ ps (t ▸ none) (u ▸ none) (first _ t u none (lost_step t V k s)))

  mutual
    flat : {p : Position} {t u : Tree} → Step O p t u → Step (Loses k) p t u
    flat (here p n w r) = flat_here r
    flat (inside p h xs n ts us s) = inside p h xs n ts us (flat_in s)

    flat_in : {π : ℕ → Position} {ts us : Trees} → StepIn O π ts us → StepIn (Loses k) π ts us
    flat_in (first π t u ts s) = first π t u ts (flat s)
    flat_in (later π t ts us s) = later π t ts us (flat_in s)

  abbrev Quiet : Position → Tree → Tree → Type 0
  Quiet = Unnamed E O

  rooted_there : {p : Position} {t u : Tree} → Step O p t u → u ≡ over t (children u)
  rooted_there (here _ _ _ (a_function p d g ds name ps t u s)) = refl
  rooted_there (here _ _ _ (an_arrow q ds ps t u s)) = refl
  rooted_there (inside p h xs n ts us s) = refl

  -- it is made alike, and read alike
  made_alike : {p : Position} {n w : Tree} → O p n w → SameAt p n w
  made_alike (a_function p d g ds name ps t u s) = created_same d g ds number name ps t u p
  made_alike (an_arrow q ds ps t u s) = arrow_created ds number ps t u (Expr q)

  read_alike : {p : Position} {n w : Tree} → O p n w → summary n ≡ summary w
  read_alike (a_function p d g ds name ps t u s) = ap (λ i. summary_of (shape.Function d g ds) [] number (summary name ∷ (summary ps ∷ (i ∷ [])))) (lost_read t V k s)
  read_alike (an_arrow q ds ps t u s) = ap (λ i. summary_of (shape.ArrowFunctionExpression ds) [] number (summary ps ∷ (i ∷ []))) (lost_read t V k s)

  no_piece : {p : Position} {n w : Tree} → O p n w → is_piece (shape_of n) ≡ false
  no_piece (a_function p d g ds name ps t u s) = refl
  no_piece (an_arrow q ds ps t u s) = refl

  kind_alike : {p : Position} {n w : Tree} → O p n w → arrow_kind (shape_of n) ≡ arrow_kind (shape_of w)
  kind_alike (a_function p d g ds name ps t u s) = refl
  kind_alike (an_arrow q ds ps t u s) = refl

  -- ---- its bodies

  module _ (W : VariableSet) where
    inside_kept : (t u : Tree) (a : Around) → BodiesKept (bodies a t) (bodies a u) → BodiesUnder W S E (bodies a t ++ []) (bodies a u ++ [])
    inside_kept t u a h = without.each_under W S E (bodies a t) [] (bodies a u) [] (bodies_there W S E (bodies a t) (bodies a u) h) tt

    after : (first_bodies bs cs : List Body) → BodiesUnder W S E bs cs → BodiesUnder W S E (first_bodies ++ bs) (first_bodies ++ cs)
    after first_bodies bs cs h = without.each_under W S E first_bodies bs first_bodies cs (without.itself_under W S E first_bodies) h

    own_bodies : {p : Position} {n w : Tree} → O p n w → Avoids E w → (a : Around) → BodiesUnder W S E (bodies a n) (bodies a w)
    own_bodies (a_function p d g ds name ps t u s) v a =
        let inner = below a (shape.Function d g ds) (name ▸ (ps ▸ (t ▸ none))) in
        let own = λ (x : Tree). body_of a (shape.Function d g ds) number (function_over d g ds number name ps x) (name ▸ (ps ▸ (x ▸ none))) in
        without.each_under W S E (own t) _ (own u) _
        (inl (record { number = refl; kind = inl refl; strict = refl; asks_this = refl; same = λ e z y X g. lost_runs t V k e (permitted W E e z) y s (λ j. omega arith) (known_off t V) v.1.1.1.0 FunctionStatements tt X (known_begins t V X g) }), tt)
        (after (bodies (inner 0) name) _ _ (after (bodies (inner 1) ps) _ _ (inside_kept t u (inner 2) (lost_bodies t V k s (inner 2)))))
    own_bodies (an_arrow q ds ps t u s) v a =
        let inner = below a (shape.ArrowFunctionExpression ds) (ps ▸ (t ▸ none)) in
        let own = λ (x : Tree). body_of a (shape.ArrowFunctionExpression ds) number (arrow_over ds number ps x) (ps ▸ (x ▸ none)) in
        let kind = lost_kind t V k s in
        without.each_under W S E (own t) _ (own u) _
        (inl (record { number = refl; kind = inl kind; strict = refl; asks_this = refl; same = λ e z y X g. subst (λ l. RunsAs e (arrow_kind (shape_of t)) l X t u) kind (lost_runs t V k e (permitted W E e z) y s (λ j. omega arith) (known_off t V) v.1.1.0 (arrow_kind (shape_of t)) (body_fits (shape_of t)) X (known_begins t V X g)) }), tt)
        (after (bodies (inner 0) ps) _ _ (inside_kept t u (inner 1) (lost_bodies t V k s (inner 1))))

    keeps_bodies : KeepsBodiesUnder W S E Quiet
    keeps_bodies = record {
      means = λ e z. record { same = λ p n w r q f. (made_alike r.0).by e E nothing q f; reads = λ p n w r. subst (ReadAlike E e (summary n)) (read_alike r.0) (alike_self E e (summary n)) };
      reads = λ p n w r. read_alike r.0;
      pieces = λ p n w r. no_piece r.0;
      kind = λ p n w r strict c e. kind_alike r.0;
      bodies = λ p n w r strict c q e a z. own_bodies r.0 r.1 a;
    }

    owner_kept : (K : Shape → Bool) (t u : Tree) → Step O Elsewhere t u → IsWellShaped t → ProgramIsKeptUnder K W S t u
    owner_kept K t u s e = program_kept k K W S t u (flat s) e (rooted_there s) (λ v. step_under Quiet W S E keeps_bodies Elsewhere t u (unnamed_step E O s v) v false (one a_program) refl e outermost whole_stands)

-- ---- all of them

-- the number of a body, and the symbol that is lost
record Place : Type 0 where
  number : ℕ
  lost_symbol : ℕ

abbrev Placed : (S : BodySets) → Place → Position → Tree → Tree → Type 0
Placed S i = Owner S i.lost_symbol i.number

module _ (options : Switches) (S : BodySets) where
  abbrev Somewhere : Position → Tree → Tree → Type 0
  Somewhere p n w = (i : Place) × Placed S i p n w

  of_function : (p : Position) (n w : Tree) → OwnFunctionRow (PastBlocks options) S n w → Somewhere p n w
  of_function p n w r =
      let (k, s) = some_step options r.before (S r.number) r.step in
      subst (λ v. Somewhere p v w) (sym r.shape)
      (subst (Somewhere p (function_over r.is_declaration r.is_generator r.directives r.number r.name r.parameters r.before)) (sym r.written)
      (record { number = r.number; lost_symbol = k }, a_function p r.is_declaration r.is_generator r.directives r.name r.parameters r.before r.after s))

  somewhere : (p : Position) (n w : Tree) → OwnCode (PastBlocks options) S p n w → Somewhere p n w
  somewhere (Stmt q) n w (inl r) = of_function (Stmt q) n w r
  somewhere (Expr q) n w (inl r) = of_function (Expr q) n w r
  somewhere Method n w (inl r) = of_function Method n w r
  somewhere Elsewhere n w (inl r) = of_function Elsewhere n w r
  somewhere (Expr q) n w (inr r) =
      let (k, s) = some_step options r.before (S r.number) r.step in
      subst (λ v. Somewhere (Expr q) v w) (sym r.shape)
      (subst (Somewhere (Expr q) (arrow_over r.directives r.number r.parameters r.before)) (sym r.written)
      (record { number = r.number; lost_symbol = k }, an_arrow q r.directives r.parameters r.before r.after s))
  somewhere p n w (inl r) = absurd r
  somewhere p n w (inr r) = absurd r

  is_one : (p : Position) (n w : Tree) → OwnCode (PastBlocks options) S p n w → is_body (shape_of n) ≡ true
  is_one p n w r = let (i, o) = somewhere p n w r in by o
    where
      by : {k m : ℕ} {p : Position} {n w : Tree} → Owner S k m p n w → is_body (shape_of n) ≡ true
      by (a_function p d g ds name ps t u s) = refl
      by (an_arrow q ds ps t u s) = refl

  pub code_lawful : (K : Shape → Bool) (W : VariableSet) → LawfulRooted K W S (OwnCode (PastBlocks options) S)
  code_lawful K W = bodies_rooted (OwnCode (PastBlocks options) S) is_one K W S kept
    where
      kept : (t u : Tree) → Step (OwnCode (PastBlocks options) S) Elsewhere t u → IsWellShaped t → ProgramIsKeptUnder K W S t u
      kept t u s e = let (i, o) = step_of Place (Placed S) (step_on somewhere s) in
          owner_kept S i.lost_symbol i.number W K t u o e

  -- ---- the program itself

  module _ (K : Shape → Bool) (W : VariableSet) (m : Bool) (ds : List (List ℕ)) (number : ℕ) (t u : Tree) (r : OwnStep (own_rows (PastBlocks options) t (S number)) nothing_begun StatementList t u) where
    abbrev known : Assured
    known = S number

    abbrev lost_there : ℕ
    lost_there = (some_step options t known r).0

    abbrev own_step : OwnStep (LosesThere t known lost_there) nothing_begun StatementList t u
    own_step = (some_step options t known r).1

    abbrev gone_there : VariableSet
    gone_there = alone (Declared lost_there)

    abbrev f : Tree
    f = program_over m ds number t

    abbrev f' : Tree
    f' = program_over m ds number u

    program_off : Off (hidden f) (at_start t known).initial
    program_off = over_off f t (S number) (λ i h. ap (λ b. b || false) h)

    program_bodies : Avoids gone_there f' → BodiesUnder W S gone_there (bodies_in f) (bodies_in f')
    program_bodies v =
        let inner = below outermost (shape.Program m ds) (t ▸ none) 0 in
        let own = λ (x : Tree). body_of outermost (shape.Program m ds) number (program_over m ds number x) (x ▸ none) in
        without.each_under W S gone_there (own t) _ (own u) _
        (inl (record { number = refl; kind = inl refl; strict = refl; asks_this = refl; same = λ e z y X g. lost_runs_over t known lost_there e (permitted W gone_there e z) y (shape.Program m ds) number Elsewhere (own_first _ _ t u none own_step) (λ j. omega arith) program_off v.1 Program tt X (known_begins t (S number) X g) }), tt)
        (without.each_under W S gone_there (bodies inner t) [] (bodies inner u) [] (bodies_there W S gone_there (bodies inner t) (bodies inner u) (lost_bodies t known lost_there own_step inner)) tt)

    whole_kept : IsWellShaped f → ProgramIsKeptUnder K W S f f'
    whole_kept e = program_kept lost_there K W S f f' (inside Elsewhere (shape.Program m ds) [] number (t ▸ none) (u ▸ none) (first _ t u none (lost_step t known lost_there own_step))) e refl program_bodies

  of_program : (P : Tree → Tree → Type 0) → ((m : Bool) (ds : List (List ℕ)) (number : ℕ) (t u : Tree) → OwnStep (own_rows (PastBlocks options) t (S number)) nothing_begun StatementList t u → P (program_over m ds number t) (program_over m ds number u)) → (p : Position) (n w : Tree) → OwnProgram (PastBlocks options) S p n w → P n w
  of_program P h Elsewhere n w r = subst (λ v. P v w) (sym r.shape) (subst (P (program_over r.is_module r.directives r.number r.before)) (sym r.written) (h r.is_module r.directives r.number r.before r.after r.step))
  of_program P h p n w r = absurd r

  pub programs_lawful : (K : Shape → Bool) (W : VariableSet) → LawfulRooted K W S (OwnProgram (PastBlocks options) S)
  programs_lawful K W =
      programs_rooted (OwnProgram (PastBlocks options) S) (of_program (λ n w. is_program (shape_of n) ≡ true) (λ m ds number t u s. refl)) K W S
      (λ n w r. of_program (λ n w. IsWellShaped n → ProgramIsKeptUnder K W S n w) (λ m ds number t u s. whole_kept K W m ds number t u s) Elsewhere n w r)

pub past_blocks_are_lawful : PastBlocksAreLawful
past_blocks_are_lawful o K W S = code_lawful o S K W

pub past_blocks_are_lawful_in_programs : PastBlocksAreLawfulInPrograms
past_blocks_are_lawful_in_programs o K W S = programs_lawful o S K W

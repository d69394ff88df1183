-- What the rows of names that are read behind held names write of a block in the own code of a static block, or of an inner expression, keeps the
-- program, where that is known of its body: the node around evaluates none of its children, so that all but that body run as before.
use Rattle.std.specs.Prelude.{ℕ, suc, ◌≡◌, ◌||◌, refl, Bool, true, false, List, [], ◌∷◌, ◌++◌, not}
use Rattle.std.proofs.Common.{ap, ◌∙◌, sym, subst, arith, inl, inr}
use Rattle.mini_model.specs.declared.name.Name.{Name}
use Rattle.mini_model.specs.declared.place.Position.{Position}
use Rattle.mini_model.specs.declared.place.Position.TheVariants.{StatementList, Elsewhere}
use Rattle.mini_model.specs.declared.shape.Shape.{Shape}
use Rattle.mini_model.specs.declared.shape.Shape.TheVariants as shape
use Rattle.mini_model.specs.Tree.{Tree, Trees, node, none, ◌▸◌, children, count, shape_of}
use Rattle.mini_model.specs.Position.{child_position}
use Rattle.mini_model.specs.Rewriting.{Step, here, inside, StepIn, first, later}
use Rattle.mini_accept.specs.WellShaped.{a_program, one, IsWellShaped}
use Rattle.mini_laws.specs.Value.{Declared, VariableSet, choose, nothing, variables}
use Rattle.mini_laws.specs.Naming.{summary, summary_of, summaries, facts_all, nth_absent}
use Rattle.mini_laws.specs.Rows.{SameAt}
use Rattle.mini_laws.specs.Skeleton.{Off, hidden}
use Rattle.mini_laws.specs.Substitution.{alone}
use Rattle.mini_laws.specs.Body.{FunctionStatements, InnerValue, InnerTarget}
use Rattle.mini_laws.specs.Bodies.{Around, outermost, below, Body, bodies, bodies_from, body_of, arrow_kind}
use Rattle.mini_laws.specs.Congruence.{ReadAlike, Avoids}
use Rattle.mini_laws.proofs.Dead.{alike_self}
use Rattle.mini_laws.proofs.Rows.{equal_same}
use Rattle.mini_kept.specs.AlikeBodies.{BodiesKept}
use Rattle.mini_kept.specs.Kept.{over}
use Rattle.mini_kept.specs.Lifted.{is_piece}
use Rattle.mini_kept.specs.Loosely.{ProgramIsKeptUnder}
use Rattle.mini_kept.specs.Rooted.{is_body, LawfulRooted}
use Rattle.mini_kept.specs.Standing.{is_asked_whole, is_unseated}
use Rattle.mini_kept.specs.Without.{Assured, BodySets, BodiesUnder, KeepsBodiesUnder}
use Rattle.mini_kept.proofs.BodyPlaces.{assigned_below, Unseats, unseats_first, unseats_later, unseats_all}
use Rattle.mini_kept.proofs.BodySteps.{value_fits, target_fits, step_under, whole_stands}
use Rattle.mini_kept.proofs.Rooted.{step_on, step_of, bodies_rooted}
use Rattle.mini_kept.proofs.WithoutLists.{each_under, itself_under}
use Rattle.mini_rows.specs.OwnParts.{block_over, inner_over, OwnPart}
use Rattle.mini_rows.specs.PastBlocks.{PastBlocks, PastBlocksAreLawfulInParts}
use Rattle.mini_rows.specs.Steady.{nothing_begun, OwnStep, own_first, has_body}
use Rattle.mini_rows.specs.Switches.{Switches}
use Rattle.mini_rows.proofs.OwnLosses.{LosesThere, some_step, lost_step, lost_read, lost_bodies, lost_runs_over}
use Rattle.mini_rows.proofs.OwnPartLawful.{bodiless, inert_bodiless, inert_piece}
use Rattle.mini_rows.proofs.PartPlaces.{is_part, Bare, bare_here, bare_inside, BareIn, bare_first, bare_later, Innermost, innermost, step_innermost}
use Rattle.mini_rows.proofs.PartRuns.{inert_same}
use Rattle.mini_rows.proofs.PastLost.{Loses}
use Rattle.mini_rows.proofs.PastBlockLawful.{Unnamed, unnamed_step, bodies_there, permitted, program_kept}
use Rattle.mini_rows.proofs.SteadyLawful.{at_start, over_off, known_begins}

-- a part whose code takes such a step, over what S says of the body with its number
data Owner (S : BodySets) (k : ℕ) (number : ℕ) : Position → Tree → Tree → Type 0 where
  a_block : (p : Position) (t u : Tree) → OwnStep (LosesThere t (S number) k) nothing_begun StatementList t u → Owner S k number p (block_over number t) (block_over number u)
  an_inner : (p : Position) (t u : Tree) → OwnStep (LosesThere t (S number) k) nothing_begun p t u → Owner S k number p (inner_over number t) (inner_over number u)

module _ (S : BodySets) (k number : ℕ) where
  abbrev V : Assured
  V = S number

  abbrev E : VariableSet
  E = alone (Declared k)

  -- a step at one is a step at the block
  flat_here : {p : Position} {t u : Tree} → Owner S k number p t u → Step (Loses k) p t u
  flat_here (a_block p t u s) = inside p shape.StaticBlock [] number (t ▸ none) (u ▸ none) (first _ t u none (lost_step t V k s))
  flat_here (an_inner p t u s) = inside p shape.InnerExpression [] number (t ▸ none) (u ▸ none) (first _ t u none (lost_step t V k s))

  mutual
    flat : {p : Position} {t u : Tree} → Step (Owner S k number) p t u → Step (Loses k) p t u
    flat (here p n w r) = flat_here r
    flat (inside p h xs n ts us s) = inside p h xs n ts us (flat_in s)

    flat_in : {π : ℕ → Position} {ts us : Trees} → StepIn (Owner S k number) π ts us → StepIn (Loses k) π ts us
    flat_in (first π t u ts s) = first π t u ts (flat s)
    flat_in (later π t ts us s) = later π t ts us (flat_in s)

  -- of those in which nothing mentions the name any more
  abbrev O : Position → Tree → Tree → Type 0
  O = Unnamed E (Owner S k number)

  parts : {p : Position} {n w : Tree} → Owner S k number p n w → is_part (shape_of n) ≡ true
  parts (a_block p t u s) = refl
  parts (an_inner p t u s) = refl

  -- what a parent reads
  part_read : {p : Position} {n w : Tree} → Owner S k number p n w → summary n ≡ summary w
  part_read (a_block p t u s) = ap (λ i. summary_of shape.StaticBlock [] number (i ∷ [])) (lost_read t V k s)
  part_read (an_inner p t u s) = ap (λ i. summary_of shape.InnerExpression [] number (i ∷ [])) (lost_read t V k s)

  mutual
    bare_read : {p : Position} {t u : Tree} → Bare O p t u → summary t ≡ summary u
    bare_read (bare_here p n w r q) = part_read r.0
    bare_read (bare_inside p h xs n ts us b s) = ap (λ is. summary_of h (variables xs) n is) (bare_reads s)

    bare_reads : {π : ℕ → Position} {ts us : Trees} → BareIn O π ts us → summaries ts ≡ summaries us
    bare_reads (bare_first π t u ts s) = ap (λ i. i ∷ summaries ts) (bare_read s)
    bare_reads (bare_later π t ts us s) = ap (λ is. summary t ∷ is) (bare_reads s)

  around_same : (a : Around) (h : Shape) {π : ℕ → Position} {ts us : Trees} → BareIn O π ts us → below a h ts ≡ below a h us
  around_same a (shape.Class c) {ts = ts} s = (λ j i. record (below a (shape.Class c) ts i) { extends = not (nth_absent (facts_all (bare_reads s j)) 1) })
  around_same a h s = refl

  -- ---- the bodies in it

  module _ (W : VariableSet) where
    code_kept : (t u : Tree) (a : Around) → BodiesKept (bodies a t) (bodies a u) → BodiesUnder W S E (bodies a t ++ []) (bodies a u ++ [])
    code_kept t u a h = each_under W S E (bodies a t) [] (bodies a u) [] (bodies_there W S E (bodies a t) (bodies a u) h) tt

    part_bodies : {p : Position} {n w : Tree} → Owner S k number p n w → Avoids E w → (shape_of n ≡ shape.InnerExpression → is_asked_whole p ≡ true) → (a : Around) → (a.is_assigned ≡ true → is_unseated p ≡ true) → BodiesUnder W S E (bodies a n) (bodies a w)
    part_bodies (a_block p t u s) v q a z =
        let inner = below a shape.StaticBlock (t ▸ none) 0 in
        each_under W S E (body_of a shape.StaticBlock number (block_over number t) (t ▸ none)) (bodies inner t ++ []) (body_of a shape.StaticBlock number (block_over number u) (u ▸ none)) (bodies inner u ++ [])
        (inl (record { number = refl; kind = inl refl; strict = refl; asks_this = refl; same = λ e c y X g. lost_runs_over t V k e (permitted W E e c) y shape.StaticBlock number Elsewhere (own_first _ _ t u none s) (λ j. omega arith) (over_off (block_over number t) t V (λ i h. ap (λ b. b || false) h)) v.1 FunctionStatements tt X (known_begins t V X g) }), tt)
        (code_kept t u inner (lost_bodies t V k s inner))
    part_bodies (an_inner p t u s) v q a z =
        let inner = below a shape.InnerExpression (t ▸ none) 0 in
        each_under W S E (own_body t) (bodies inner t ++ []) (own_body u) (bodies inner u ++ [])
        (own_kept a.is_assigned refl)
        (code_kept t u inner (lost_bodies t V k s inner))
      where
        own_body : Tree → List Body
        own_body x = body_of a shape.InnerExpression number (inner_over number x) (x ▸ none)

        own_off : Off (hidden (inner_over number t)) (at_start t V).initial
        own_off = over_off (inner_over number t) t V (λ i h. ap (λ b. b || false) h)

        own_kept : (b : Bool) → a.is_assigned ≡ b → BodiesUnder W S E (record { number = number; kind = choose b InnerTarget InnerValue; root = inner_over number t; strict = a.strict; asks_this = a.asks_this } ∷ []) (record { number = number; kind = choose b InnerTarget InnerValue; root = inner_over number u; strict = a.strict; asks_this = a.asks_this } ∷ [])
        own_kept true f = (inl (record { number = refl; kind = inl refl; strict = refl; asks_this = refl; same = λ e c y X g. lost_runs_over t V k e (permitted W E e c) y shape.InnerExpression number p (own_first _ _ t u none s) (λ j. omega arith) own_off v.1 InnerTarget (target_fits p (q refl) (z f)) X (known_begins t V X g) }), tt)
        own_kept false f = (inl (record { number = refl; kind = inl refl; strict = refl; asks_this = refl; same = λ e c y X g. lost_runs_over t V k e (permitted W E e c) y shape.InnerExpression number p (own_first _ _ t u none s) (λ j. omega arith) own_off v.1 InnerValue (value_fits p (q refl)) X (known_begins t V X g) }), tt)

    inside_kept : (p : Position) (h : Shape) (xs : List Name) (n : ℕ) (ts us : Trees) → has_body h ≡ false → BareIn O (child_position h p (count ts)) ts us → (a : Around) → BodiesUnder W S E (bodies_from (below a h ts) 0 ts) (bodies_from (below a h ts) 0 us) → BodiesUnder W S E (bodies a (node h xs n ts)) (bodies a (node h xs n us))
    inside_kept p h xs n ts us b s a k =
        subst (λ bs. BodiesUnder W S E bs (bodies a (node h xs n us))) (sym (λ i. bodiless a h n (node h xs n ts) ts b i ++ bodies_from (below a h ts) 0 ts))
        (subst (BodiesUnder W S E (bodies_from (below a h ts) 0 ts)) (ap (λ α. bodies_from α 0 us) (around_same a h s) ∙ sym (λ i. bodiless a h n (node h xs n us) us b i ++ bodies_from (below a h us) 0 us)) k)

    unseated : (a : Around) (h : Shape) (p : Position) (ts : Trees) → (a.is_assigned ≡ true → is_unseated p ≡ true) → Unseats (child_position h p (count ts)) (below a h ts) 0
    unseated a h p ts z = unseats_all (child_position h p (count ts)) (below a h ts) (λ i. assigned_below a h p (count ts) i z)

    mutual
      bare_bodies : {p : Position} {t u : Tree} → Bare O p t u → (a : Around) → (a.is_assigned ≡ true → is_unseated p ≡ true) → BodiesUnder W S E (bodies a t) (bodies a u)
      bare_bodies (bare_here p n w r q) a z = part_bodies r.0 r.1 q a z
      bare_bodies (bare_inside p h xs n ts us b s) a z = inside_kept p h xs n ts us b s a (bare_all s (below a h ts) 0 (unseated a h p ts z))

      bare_all : {π : ℕ → Position} {ts us : Trees} → BareIn O π ts us → (α : ℕ → Around) (i : ℕ) → Unseats π α i → BodiesUnder W S E (bodies_from α i ts) (bodies_from α i us)
      bare_all (bare_first π t u ts s) α i z = each_under W S E (bodies (α i) t) (bodies_from α (suc i) ts) (bodies (α i) u) (bodies_from α (suc i) ts) (bare_bodies s (α i) (unseats_first π α i z)) (itself_under W S E (bodies_from α (suc i) ts))
      bare_all (bare_later π t ts us s) α i z = each_under W S E (bodies (α i) t) (bodies_from α (suc i) ts) (bodies (α i) t) (bodies_from α (suc i) us) (itself_under W S E (bodies (α i) t)) (bare_all s α (suc i) (unseats_later π α i z))

    -- ---- the node around means the same

    inner_same : {p : Position} {n w : Tree} → Innermost O p n w → SameAt p n w
    inner_same (innermost p h xs n _ _ i f (bare_first π t u ts s)) = equal_same p _ _ (record { by = λ e q z r x. inert_same e h xs n t u ts ts i f (bare_reads (bare_first π t u ts s)) q r x })
    inner_same (innermost p h xs n _ _ i f (bare_later π t ts us s)) = equal_same p _ _ (record { by = λ e q z r x. inert_same e h xs n t t ts us i f (bare_reads (bare_later π t ts us s)) q r x })

    inner_read : {p : Position} {n w : Tree} → Innermost O p n w → summary n ≡ summary w
    inner_read (innermost p h xs n ts us i f s) = ap (λ is. summary_of h (variables xs) n is) (bare_reads s)

    inner_pieces : {p : Position} {n w : Tree} → Innermost O p n w → is_piece (shape_of n) ≡ false
    inner_pieces (innermost p h xs n ts us i f s) = inert_piece h i

    inner_kind : {p : Position} {n w : Tree} → Innermost O p n w → arrow_kind (shape_of n) ≡ arrow_kind (shape_of w)
    inner_kind (innermost p h xs n ts us i f s) = refl

    inner_bodies : {p : Position} {n w : Tree} → Innermost O p n w → (a : Around) → (a.is_assigned ≡ true → is_unseated p ≡ true) → BodiesUnder W S E (bodies a n) (bodies a w)
    inner_bodies (innermost p h xs n ts us i f s) a z = inside_kept p h xs n ts us (inert_bodiless h i) s a (bare_all s (below a h ts) 0 (unseated a h p ts z))

    keeps_bodies : KeepsBodiesUnder W S E (Innermost O)
    keeps_bodies = record {
      means = λ e z. record { same = λ p n w r q f. (inner_same r).by e E nothing q f; reads = λ p n w r. subst (ReadAlike E e (summary n)) (inner_read r) (alike_self E e (summary n)) };
      reads = λ p n w r. inner_read r;
      pieces = λ p n w r. inner_pieces r;
      kind = λ p n w r strict c e. inner_kind r;
      bodies = λ p n w r strict c q e a z. inner_bodies r a z.assigned;
    }

    -- ---- the program

    root_kept : {p : Position} {t u : Tree} → Step (Owner S k number) p t u → u ≡ over t (children u)
    root_kept (here _ _ _ (a_block p t u s)) = refl
    root_kept (here _ _ _ (an_inner p t u s)) = refl
    root_kept (inside p h xs n ts us s) = refl

    owner_kept : (K : Shape → Bool) (t u : Tree) → Step (Owner S k number) Elsewhere t u → IsWellShaped t → ProgramIsKeptUnder K W S t u
    owner_kept K t u s e =
        program_kept k K W S t u (flat s) e (root_kept s)
        (λ v. step_under (Innermost O) W S E keeps_bodies Elsewhere t u (step_innermost O (λ p n w r. parts r.0) t u (unnamed_step E (Owner S k number) s v) e) v false (one a_program) refl e outermost whole_stands)

-- ---- all of them

-- the number of a body, and the symbol that is lost
record Place : Type 0 where
  number : ℕ
  lost_symbol : ℕ

abbrev Placed : (S : BodySets) → Place → Position → Tree → Tree → Type 0
Placed S i = Owner S i.lost_symbol i.number

module _ (options : Switches) (S : BodySets) where
  abbrev Somewhere : Position → Tree → Tree → Type 0
  Somewhere p n w = (i : Place) × Placed S i p n w

  somewhere : (p : Position) (n w : Tree) → OwnPart (PastBlocks options) S p n w → Somewhere p n w
  somewhere p n w (inl r) =
      let (k, s) = some_step options r.before (S r.number) r.step in
      subst (λ v. Somewhere p v w) (sym r.shape) (subst (Somewhere p (block_over r.number r.before)) (sym r.written) (record { number = r.number; lost_symbol = k }, a_block p r.before r.after s))
  somewhere p n w (inr r) =
      let (k, s) = some_step options r.before (S r.number) r.step in
      subst (λ v. Somewhere p v w) (sym r.shape) (subst (Somewhere p (inner_over r.number r.before)) (sym r.written) (record { number = r.number; lost_symbol = k }, an_inner p r.before r.after s))

  is_one : (p : Position) (n w : Tree) → OwnPart (PastBlocks options) S p n w → is_body (shape_of n) ≡ true
  is_one p n w r = let (i, o) = somewhere p n w r in by o
    where
      by : {k m : ℕ} {p : Position} {n w : Tree} → Owner S k m p n w → is_body (shape_of n) ≡ true
      by (a_block p t u s) = refl
      by (an_inner p t u s) = refl

  parts_lawful : (K : Shape → Bool) (W : VariableSet) → LawfulRooted K W S (OwnPart (PastBlocks options) S)
  parts_lawful K W = bodies_rooted (OwnPart (PastBlocks options) S) is_one K W S kept
    where
      kept : (t u : Tree) → Step (OwnPart (PastBlocks options) S) Elsewhere t u → IsWellShaped t → ProgramIsKeptUnder K W S t u
      kept t u s e = let (i, o) = step_of Place (Placed S) (step_on somewhere s) in
          owner_kept S i.lost_symbol i.number W K t u o e

pub past_blocks_are_lawful_in_parts : PastBlocksAreLawfulInParts
past_blocks_are_lawful_in_parts o K W S = parts_lawful o S K W

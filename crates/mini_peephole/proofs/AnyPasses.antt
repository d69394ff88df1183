-- Passes of a lawful relation give a faithful answer.
use Rattle.std.proofs.Common.{◌≡◌, ℕ, ◌⊎◌, Bool, zero, suc, ◌+◌, ◌<◌, ◌≤◌, max, true, false, List, [], ◌∷◌, refl, sym, ap, ◌∙◌, subst, arith, true≢false}
use Rattle.std.proofs.lemmas.Bool.{eqb-true, eq-eqb, and_parts, or_parts, not-true}
use Rattle.std.specs.Prelude.{Contains, None, not, ◌&&◌, nat_eq, length, slice_index_or}
use Rattle.std.specs.List.{list_any}
use Rattle.serde_json.specs.Data.{Data}
use Rattle.serde_json.specs.View.{view}
use Rattle.mini_model.specs.declared.place.Position.{Position}
use Rattle.mini_model.specs.declared.shape.Shape.{Shape}
use Rattle.mini_model.specs.Tree.{Tree}
use Rattle.mini_model.specs.Weight.{program_weight}
use Rattle.mini_laws.specs.Resolved.{resolved_program}
use Rattle.mini_laws.specs.Scoped.{Scoped}
use Rattle.mini_laws.specs.Symbols.{declared_symbols, times, Distinct}
use Rattle.mini_laws.specs.declared.names.Use.TheVariants.{Read}
use Rattle.mini_laws.proofs.Places.{resolved_distinct}
use Rattle.mini_laws.proofs.Whole.{scoped}
use Rattle.mini_scope.specs.Pointers.{early_fault}
use Rattle.mini_laws.specs.Value.{Variable, Declared, Global}
use Rattle.mini_laws.specs.State.{Writing}
use Rattle.mini_laws.specs.Body.{Run}
use Rattle.mini_laws.specs.Bodies.{Body, bodies_in, outermost}
use Rattle.mini_laws.specs.Congruence.{Avoids}
use Rattle.mini_laws.specs.Fixity.{fixed_in}
use Rattle.mini_laws.specs.Substitution.{alone}
use Rattle.mini_tree.specs.declared.options.CompressOptions.{CompressOptions}
use Rattle.mini_accept.specs.Accept.{Accepts}
use Rattle.mini_accept.specs.WellShaped.{IsWellShaped}
use Rattle.mini_kept.specs.Carried.{numbers, symbol_numbers, carried}
use Rattle.mini_kept.specs.Declaring.{declared}
use Rattle.mini_kept.specs.Frames.{frames_in}
use Rattle.mini_kept.specs.ShownFrames.{KeyGivenUnder, gone_from, FramesShown}
use Rattle.mini_laws.specs.Writable.{writable_by, writable_in}
use Rattle.mini_kept.specs.Loosely.{symbol, undeclared, ProgramIsKeptUnder}
use Rattle.mini_kept.specs.Rooted.{LawfulRooted}
use Rattle.mini_kept.specs.Without.{BodySets, nothing_assured, Within, Steadies, Begins, Unseen, AlikeUnder}
use Rattle.mini_kept.proofs.Gone.{avoids}
use Rattle.mini_kept.proofs.Rooted.{rooted_keeps}
use Rattle.mini_kept.proofs.ReadBack.{IsRead, IsReadBack, read_back}
use Rattle.mini_kept.proofs.Refixed.{avoids_all, roots_avoid, refixed}
use Rattle.mini_kept.proofs.SameEarly.{names_resolved}
use Rattle.mini_kept.proofs.SameShape.{shaped_resolved}
use Rattle.mini_kept.proofs.Texts.{text}
use Rattle.mini_kept.proofs.Undeclared.{unshared, native}
use Rattle.mini_kept.proofs.WithoutLists.{PartEach, nothing_within, none_part, each_itself, kept_stands}
use Rattle.mini_again.specs.Carrying.{HasNoRepeat}
use Rattle.mini_shrink.specs.Exact.{exactly_of}
use Rattle.mini_writer.specs.Written.{program_data}
use Rattle.mini_tree.specs.Passes.{PassesReach, MakesPasses}
use Rattle.mini_peephole.specs.Environments.{name_of, shared_by, foreign_to, is_declared, initialised_for, asks_as, steady_in, environment_with}
use Rattle.mini_laws.specs.Foreign.{is_foreign}
use Rattle.mini_laws.specs.Shared.{is_shared}
use Rattle.mini_shrink.specs.SameForeign.{DeclaresOnce}
use Rattle.mini_peephole.specs.AnyPasses.{Facts, no_facts, AreAmong, AreSo, KeepsKnown, NothingLeft, EachBegins, PassesFaithful, StepsFaithful, PlainFaithful, ToldFaithful}
use Rattle.mini_peephole.specs.Minified.{IsWritten}
use Rattle.mini_rows.specs.Switches.{let_go}
use Rattle.mini_peephole.specs.Faithful as faith
use Rattle.mini_peephole.specs.Faithful.{switches, symbols_of, BeginsWithProgram, AreNamed, IsSameBody, BodiesAreSame, IsFaithfulUnder, FaithfulUnder}
use Rattle.mini_peephole.specs.declared.minify.Minified.{Minified}
use Rattle.mini_peephole.proofs.Chains.{within_through, begins_more, declared_after, known_after, Any, any_lawful, any_reach, open_in}
use Rattle.mini_peephole.proofs.Known.{known_is_so}
use Rattle.mini_peephole.proofs.Repeats.{no_repeat}
use Rattle.mini_peephole.proofs.Written.{is_read, free_of, read_again}

-- ---- bodies

-- a program mentions no variable that it doesn't declare
avoided : (u : Tree) → Scoped Read [] u → Avoids (undeclared u) u
avoided u v = avoids_all (undeclared u) u by
  where
    by : (x : Variable) → undeclared u x ≡ true → Avoids (alone x) u
    by (Declared k) h = avoids k Read [] u v refl (eqb-true (times (symbol k) (declared_symbols u)) 0 h)
    by (Global s) h = absurd (true≢false (sym h))

-- a variable that no scope of a program declares is neither shared nor foreign to any of its bodies
unseen : (u : Tree) → Scoped Read [] u → (c : Body) → Unseen (undeclared u) (environment_with u (shared_by u c) (foreign_to u c) c)
unseen u v c = record { shared = shown; foreign = changed }
  where
    shown : (x : Variable) → undeclared u x ≡ true → shared_by u c x ≡ false
    shown (Declared k) h = unshared k u (avoids k Read [] u v refl (eqb-true (times (symbol k) (declared_symbols u)) 0 h)) c.number
    shown (Global s) h = absurd (true≢false (sym h))

    changed : (x : Variable) → undeclared u x ≡ true → foreign_to u c x ≡ false
    changed (Declared k) h = native k u (avoids k Read [] u v refl (eqb-true (times (symbol k) (declared_symbols u)) 0 h)) c.number
    changed (Global s) h = absurd (true≢false (sym h))

equal_itself : (n : ℕ) → nat_eq n n ≡ true
equal_itself n = eq-eqb n n refl

untold : (g h : Bool) → g && not h ≡ true → h ≡ false
untold g h e = not-true h (and_parts g (not h) e).1

-- of some bodies of which none asks as the one with a number
none_asks : (n : ℕ) (bs : List Body) → list_any (asks_as n) bs ≡ false → (c : Body) (i : ℕ) → i < length bs → slice_index_or bs i c ≡ c → asks_as n c ≡ false
none_asks n [] e c i below at = absurd (omega (arith, below))
none_asks n (b ∷ bs) e c zero below at = ap (asks_as n) (sym at) ∙ (or_parts (asks_as n b) (list_any (asks_as n) bs) e).0
none_asks n (b ∷ bs) e c (suc i) below at = none_asks n bs (or_parts (asks_as n b) (list_any (asks_as n) bs) e).1 c i (omega (arith, below)) at

-- what is known of a body of a program, and so by Shared and Foreign, is so where it runs
steadies : (u : Tree) (S : BodySets) → PartEach S (steady_in u) → (b c : Body) → Contains (bodies_in u) c → b.number ≡ c.number → b.asks_this ≡ c.asks_this → (fixed : Variable → Writing) → Steadies (S b.number) (record { shared = shared_by u c; foreign = foreign_to u c; fixed = fixed; asks_this = b.asks_this })
steadies u S so b c (i, below, at) e asks fixed =
    let known : Within (S b.number) (steady_in u c.number) = subst (λ n. Within (S b.number) (steady_in u n)) e (so b.number) in
    record {
      steady = λ x h. untold (is_declared x) (is_foreign u c.number (name_of x)) (known.steady x h);
      unshared = λ x h. untold (is_declared x) (is_shared u c.number (name_of x)) (known.unshared x h);
      has_this = λ h. asks ∙ asked (none_asks c.number (bodies_in u) (not-true (list_any (asks_as c.number) (bodies_in u)) (known.has_this h)) c i below at);
    }
  where
    asked : asks_as c.number c ≡ false → c.asks_this ≡ false
    asked h = sym (ap (λ g. g && c.asks_this) (equal_itself c.number)) ∙ h

-- and it starts where those are initialised
begun : (u : Tree) (S : BodySets) → PartEach S (steady_in u) → (b c : Body) → b.number ≡ c.number → Begins (S b.number) (initialised_for u c)
begun u S so b c e x h = (subst (λ n. Within (S b.number) (steady_in u n)) e (so b.number)).initial x h

module _ (K : Shape → Bool) (S : BodySets) where
  same_body : (t u : Tree) → ProgramIsKeptUnder K (writable_by t) S t u → PartEach S (steady_in u) → Scoped Read [] t → Distinct (declared_symbols t) → Scoped Read [] u → (b c : Body) → Contains (bodies_in u) c → AlikeUnder (writable_by t) S (undeclared u) b c → IsSameBody t u b c
  same_body t u kept so vt d v b c there a =
      let e = environment_with t (shared_by u c) (foreign_to u c) b in
      let f = environment_with u (shared_by u c) (foreign_to u c) c in
      let X = initialised_for u c in
      let seen = unseen u v c in
      let root = roots_avoid (undeclared u) outermost u (avoided u v) c there in
      let modes : record { shared = e.shared; foreign = e.foreign; fixed = f.fixed; asks_this = e.asks_this } ≡ f = (λ k. record { shared = e.shared; foreign = e.foreign; fixed = f.fixed; asks_this = a.asks_this k }) in
      record {
        number = a.number;
        kind = a.kind;
        same = record {
          by = λ vars this answers turns i.
              let again = refixed e f.fixed (undeclared u) (λ x h. (λ k. fixed_in (a.strict k) t x) ∙ kept.fixities vt d c.strict x h) c.kind c.root root vars this answers turns ∙ (λ k. Run (modes k) c.kind c.root vars this answers turns) in
              subst (λ r. (Run e b.kind b.root vars this answers turns ≡ None) ⊎ (Run e b.kind b.root vars this answers turns ≡ r)) again ((a.same e (record { unseen = record { shared = seen.shared; foreign = seen.foreign }; writable = λ x h. open_in b.strict t x h }) (steadies u S so b c there a.number a.asks_this (fixed_in b.strict t)) X (begun u S so b c a.number)).by vars this answers turns i);
        };
      }

  pub bodies_same : (t u : Tree) → ProgramIsKeptUnder K (writable_by t) S t u → PartEach S (steady_in u) → IsWellShaped t → Scoped Read [] t → Distinct (declared_symbols t) → BodiesAreSame t u
  bodies_same t u kept so e v d c there =
      let (b, stands, alike) = kept_stands (writable_by t) S (undeclared u) (bodies_in t) (bodies_in u) (kept.bodies v d) c there in
      (b, stands, same_body t u kept so v d (kept.names.scoped e v) b c there alike)

-- ---- the whole

-- t is read, its resolved form becomes v, of whose bodies S is known, and u is v read again
pub record Made (S : Facts) (G : Tree → Position → Tree → Tree → Type 0) (D : Tree → Position → Tree → Type 0) (o : CompressOptions) (m : Minified) (t v u : Tree) : Type 0 where
  pub passes : MakesPasses G D (resolved_program t) v o.passes m.passes m.settled
  pub kept : m.kept ≡ 0 ∷ numbers v
  pub symbols : m.symbols ≡ symbol_numbers (declared_symbols v)
  pub back : IsReadBack t v u
  pub shaped : IsWellShaped (resolved_program t)
  pub rewritten : ProgramIsKeptUnder (let_go (switches o)) (writable_by (resolved_program t)) (S v) (resolved_program t) v
  pub so : PartEach (S v) (steady_in v)

pub named : (m : Minified) (t v u : Tree) → IsReadBack t v u → m.kept ≡ 0 ∷ numbers v → m.symbols ≡ symbol_numbers (declared_symbols v) → AreNamed m.kept m.symbols t u
named m t v u r kept symbols = record {
  begins = subst BeginsWithProgram (sym kept) refl;
  each_node = ap length kept ∙ ap suc (sym r.each_number);
  kept_there = λ k c. r.numbers_there k (subst (λ ks. Contains ks k) kept c);
  kept_once = subst HasNoRepeat (sym kept) (no_repeat (0 ∷ numbers v) r.numbers_once);
  each_symbol = ap length symbols ∙ r.each_symbol;
  symbols_once = subst HasNoRepeat (sym symbols) (no_repeat (symbol_numbers (declared_symbols v)) r.symbols_once);
}

module _ (S : Facts) (G : Tree → Position → Tree → Tree → Type 0) (D : Tree → Position → Tree → Type 0) where
  -- the later program, in the earlier one's numbers and symbols, is what rewriting gave
  pub later_is : (o : CompressOptions) (m : Minified) (t v u : Tree) → Made S G D o m t v u → faith.later m u ≡ v
  later_is o m t v u made = (λ k. carried (made.kept k) (symbols_of (made.symbols k)) (resolved_program u)) ∙ made.back.later

  pub faithful_trees : (o : CompressOptions) (m : Minified) (t v u : Tree) → early_fault t ≡ None → Made S G D o m t v u → IsFaithfulUnder S (NothingLeft D) o m t u
  faithful_trees o m t v u free made =
      let kept = made.rewritten in
      let whole = later_is o m t v u made in
      let some = made.passes.some_pass in
      let less = made.passes.lighter in
      record {
        names = made.back.names (free_of t free).0;
        jumps = made.back.jumps (free_of t free).1;
        named = named m t v u made.back made.kept made.symbols;
        spelled = λ x c. kept.declared x (subst (λ w. Contains (declared w) x) whole c);
        frames = subst (λ w. FramesShown (gone_from (let_go (switches o)) (undeclared w)) (KeyGivenUnder (writable_by (resolved_program t)) (S w) (undeclared w) (bodies_in (resolved_program t))) (frames_in (resolved_program t)) (frames_in w)) (sym whole) (kept.frames (scoped Read [] 0 t) (resolved_distinct t));
        bodies = subst (BodiesAreSame (resolved_program t)) (sym whole) (bodies_same (let_go (switches o)) (S v) (resolved_program t) v kept made.so made.shaped (scoped Read [] 0 t) (resolved_distinct t));
        weight = subst (λ w. program_weight w ≤ program_weight (resolved_program t)) (sym whole) (omega (arith, some, less));
        some_pass = some;
        within = made.passes.within;
        settled = λ e. subst (NothingLeft D) (sym whole) (made.passes.ended e);
        unsettled = λ e. let (same, fell) = made.passes.stopped e in subst (λ w. program_weight w + max o.passes 1 ≤ program_weight (resolved_program t)) (sym whole) (omega (arith, same, fell));
      }

-- ---- what passes keep of a program that declares each name once

-- what each step leaves is so of the last program
module _ (S T : Facts) (G : Tree → Position → Tree → Tree → Type 0) (o : CompressOptions) (l : (q : Tree) → DeclaresOnce q → LawfulRooted (let_go (switches o)) (writable_in q) (S q) (G q)) (stay : (q : Tree) → KeepsKnown S (G q)) (among : AreAmong S T) {k : ℕ} {s v : Tree} (reached : PassesReach G k s v) (e : DeclaresOnce s) where
  pub passes_begin : EachBegins (λ q. PartEach (S q) (T v)) reached
  passes_begin =
      let K = let_go (switches o) in
      let last = among v (declared_after G K S l reached e) in
      begins_more (λ q. PartEach (S q) (S v)) (λ q. PartEach (S q) (T v)) (λ q f b. within_through (S q b) (S v b) (T v b) (f b) (last b)) reached (known_after G K S l stay reached e)

-- what is lawful by S, where V says of the last program all that S says as any pass begins
module _ (S : Facts) (V : BodySets) (G : Tree → Position → Tree → Tree → Type 0) (o : CompressOptions) (l : (q : Tree) → DeclaresOnce q → LawfulRooted (let_go (switches o)) (writable_in q) (S q) (G q)) {k : ℕ} {s v : Tree} (reached : PassesReach G k s v) (e : DeclaresOnce s) (begins : EachBegins (λ q. PartEach (S q) V) reached) where
  pub passes_keep : ProgramIsKeptUnder (let_go (switches o)) (writable_by s) V s v
  passes_keep = let K = let_go (switches o) in rooted_keeps (Any G K S l V s) K (writable_by s) V (any_lawful G K S l V s) s v (any_reach G K S l V s e reached begins refl) e.shaped

-- ---- the answer

-- a program that is accepted and has no early error
module _ (d : Data) (t : Tree) (read : Accepts d t) (free : early_fault t ≡ None) where
  pub start : IsRead t read.1
  start = is_read d read.0 read.1 t read.2

  pub resolved : DeclaresOnce (resolved_program t)
  resolved = record { shaped = shaped_resolved t start.shaped; scoped = scoped Read [] 0 t; distinct = resolved_distinct t; once = names_resolved [] t ∙ (free_of t free).0 }

-- what is lawful by S, where T says of the last program all that S says as any pass begins
module _ (S T : Facts) (G : Tree → Position → Tree → Tree → Type 0) (D : Tree → Position → Tree → Type 0) (o : CompressOptions) (l : (q : Tree) → DeclaresOnce q → LawfulRooted (let_go (switches o)) (writable_in q) (S q) (G q)) (so : AreSo T) (d : Data) (m : Minified) (t : Tree) (read : Accepts d t) (free : early_fault t ≡ None) (r : IsWritten G D (resolved_program t) o.passes m) (begins : EachBegins (λ q. PartEach (S q) (T r.output)) r.passes.reached) where
  abbrev first : DeclaresOnce (resolved_program t)
  first = resolved d t read free

  kept : ProgramIsKeptUnder (let_go (switches o)) (writable_by (resolved_program t)) (T r.output) (resolved_program t) r.output
  kept = passes_keep S (T r.output) G o l r.passes.reached first begins

  pub again : (u : Tree) × Accepts (program_data r.output) u × (text u ≡ text r.output)
  again = read_again r.output (kept.names.shaped first.shaped)

  pub answer_read : IsRead again.0 again.1.1
  answer_read = is_read (program_data r.output) again.1.0 again.1.1 again.0 again.1.2

  pub written : Accepts (view m.program) again.0
  written = subst (λ w. Accepts w again.0) (sym r.written) again.1

  pub made : Made T G D o m t r.output again.0
  made = record {
    passes = r.passes;
    kept = r.kept;
    symbols = r.symbols;
    back = read_back t r.output again.0 read.1 again.1.1 (start d t read free) answer_read kept.names kept.root again.2;
    shaped = first.shaped;
    rewritten = kept;
    so = so r.output (declared_after G (let_go (switches o)) S l r.passes.reached first);
  }

  pub whole_is : faith.later m again.0 ≡ r.output
  whole_is = later_is T G D o m t r.output again.0 made

  pub faithful_there : IsFaithfulUnder T (NothingLeft D) o m t again.0
  faithful_there = faithful_trees T G D o m t r.output again.0 free made

  pub faithful_under : FaithfulUnder T (NothingLeft D) d o m
  faithful_under = record { input = t; output = again.0; accepted = read; answered = written; faithful = faithful_there }

-- what each step leaves is so of the last program
module _ (S T : Facts) (G : Tree → Position → Tree → Tree → Type 0) (D : Tree → Position → Tree → Type 0) (o : CompressOptions) (l : (q : Tree) → DeclaresOnce q → LawfulRooted (let_go (switches o)) (writable_in q) (S q) (G q)) (stay : (q : Tree) → KeepsKnown S (G q)) (among : AreAmong S T) (d : Data) (m : Minified) (t : Tree) (read : Accepts d t) (free : early_fault t ≡ None) (r : IsWritten G D (resolved_program t) o.passes m) where
  pub begins : EachBegins (λ q. PartEach (S q) (T r.output)) r.passes.reached
  begins = passes_begin S T G o l stay among r.passes.reached (resolved d t read free)

-- ---- the laws

module _ (G : CompressOptions → Tree → Position → Tree → Tree → Type 0) (D : CompressOptions → Tree → Position → Tree → Type 0) where
  pub passes_faithful : PassesFaithful G D
  passes_faithful S T l so d o m t read free r known = faithful_under S T (G o) (D o) o (l o) so d m t read free r known

  pub steps_faithful : StepsFaithful G D
  steps_faithful S T l stay among so d o m t read free r = passes_faithful S T l so d o m t read free r (begins S T (G o) (D o) o (l o) (stay o) among d m t read free r)

  -- nothing is known of bodies, before a step and after
  pub plain_faithful : PlainFaithful G D
  plain_faithful l = steps_faithful no_facts no_facts l (λ o q t u s e b. nothing_within nothing_assured) (λ q e b. nothing_within nothing_assured) (λ q e. none_part (steady_in q))

  pub told_faithful : ToldFaithful G D
  told_faithful l stay = steps_faithful exactly_of steady_in l stay known_is_so (λ q e. each_itself (steady_in q))

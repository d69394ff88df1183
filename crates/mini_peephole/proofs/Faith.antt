-- Passes of rewrites give a faithful answer.
use Rattle.std.proofs.Common.{◌≡◌, ℕ, ◌+◌, ◌<◌, ◌≤◌, ◌^◌, max, Bool, true, false, refl, sym, ap, ◌∙◌, subst, inl, inr, arith}
use Rattle.std.specs.Prelude.{None}
use Rattle.serde_json.specs.Data.{Data}
use Rattle.serde_json.specs.View.{view}
use Rattle.mini_model.specs.declared.place.Position.{Position}
use Rattle.mini_model.specs.declared.place.Position.TheVariants.{Elsewhere}
use Rattle.mini_model.specs.Tree.{Tree, Trees, node}
use Rattle.mini_model.specs.Weight.{weight, program_weight, capped}
use Rattle.mini_model.specs.Rewriting.{Everywhere, EverywhereIn, Step, StepIn, here, inside, first, later, Reaches, done, more}
use Rattle.mini_laws.specs.Resolved.{resolved_program}
use Rattle.mini_laws.specs.Writable.{writable_in}
use Rattle.mini_scope.specs.Pointers.{early_fault}
use Rattle.mini_tree.specs.declared.options.CompressOptions.{CompressOptions}
use Rattle.mini_tree.specs.Rule.{Either}
use Rattle.mini_tree.specs.Passes.{PassesReach, no_pass, one_more}
use Rattle.mini_tree.specs.Wider.{reaches_of}
use Rattle.mini_accept.specs.Accept.{Accepts}
use Rattle.mini_accept.proofs.Depths.{one_tree}
use Rattle.mini_kept.specs.Rooted.{LawfulRooted}
use Rattle.mini_kept.specs.Without.{BodySets}
use Rattle.mini_kept.proofs.WithoutLists.{PartEach, each_itself}
use Rattle.mini_kept.proofs.InPreorder.{preorder_same}
use Rattle.mini_kept.proofs.ReadBack.{IsRead, IsReadBack}
use Rattle.mini_kept.proofs.Texts.{text, text_resolved}
use Rattle.mini_shrink.specs.Exact.{exactly_of}
use Rattle.mini_writer.specs.Written.{program_data}
use Rattle.mini_rows.specs.Forms.{IsWithinEdition}
use Rattle.mini_rows.specs.Switches.{let_go, Liberties}
use Rattle.mini_rows.specs.Redex.{Rewrites, IsSettled}
use Rattle.mini_editions.specs.Kept.{StaysWithin}
use Rattle.mini_editions.proofs.Bodies.{steady_rewrites_stay_within}
use Rattle.mini_editions.proofs.Rows.{rewrites_stay_within}
use Rattle.mini_editions.proofs.Steps.{steps_stay_within}
use Rattle.mini_steady.specs.Told.{told_in}
use Rattle.mini_shrink.specs.SameForeign.{DeclaresOnce}
use Rattle.mini_peephole.specs.AnyPasses.{AreSo, EachBegins, NothingLeft}
use Rattle.mini_peephole.specs.Environments.{steady_in}
use Rattle.mini_peephole.specs.Minified.{IsRewriting}
use Rattle.mini_peephole.specs.SteadyRows.{SteadyRewrites, IsSteadilySettled}
use Rattle.mini_peephole.specs.Rules.{AllGives, AllRests}
use Rattle.mini_peephole.specs.Faithful as faith
use Rattle.mini_peephole.specs.Faithful.{earlier, switches, IsFaithfulUnder, IsRewritten, IsFaithful, Faithful, PassesBounded}
use Rattle.mini_peephole.specs.declared.minify.Minified.{Minified}
use Rattle.mini_peephole.proofs.AnyPasses as any
use Rattle.mini_peephole.proofs.Chains.{declared_after}
use Rattle.mini_peephole.proofs.Everywhere.{everywhere_with}
use Rattle.mini_peephole.proofs.Heaviest.{resolved_lighter}
use Rattle.mini_peephole.proofs.Known.{known_is_so}
use Rattle.mini_peephole.proofs.Lightest.{program_heavy}
use Rattle.mini_peephole.proofs.Rules.{loose_contract, all_lawful, all_known, all_rest}
use Rattle.mini_unused.specs.Allowed.{allowed_in}

-- ---- a program in which nothing is left to rewrite stays

module _ (R : Position → Tree → Tree → Type 0) where
  abbrev pub ReadsNothing : Position → Tree → Type 0
  ReadsNothing p t = (w : Tree) → R p t w → ⊥

  mutual
    no_step : {p : Position} {t u : Tree} → Step R p t u → Everywhere ReadsNothing p t → ⊥
    no_step (here p (node h xs n ts) w c) f = f.0 w c
    no_step (inside p h xs n ts us st) f = no_step_in st f.1

    no_step_in : {π : ℕ → Position} {ts us : Trees} → StepIn R π ts us → EverywhereIn ReadsNothing π ts → ⊥
    no_step_in (first π t u ts st) f = no_step st f.0
    no_step_in (later π t ts us st) f = no_step_in st f.1

  stays : {p : Position} {t u : Tree} → Reaches R p t u → Everywhere ReadsNothing p t → u ≡ t
  stays (done p t) f = refl
  stays (more p t w u st r) f = absurd (no_step st f)

-- a node on which the rows rest that rest on what is known of bodies is read by none of them
pub read_by_none : (S : BodySets) (W : Liberties) (p : Position) (n : Tree) → IsSteadilySettled S W p n → ReadsNothing (SteadyRewrites S W) p n
read_by_none S W p n x w (inl (inl (inl (inl (inl c))))) = x.0.0.0.0.0 w c
read_by_none S W p n x w (inl (inl (inl (inl (inr c))))) = x.0.0.0.0.1 w c
read_by_none S W p n x w (inl (inl (inl (inr c)))) = x.0.0.0.1 w c
read_by_none S W p n x w (inl (inl (inr c))) = x.0.0.1 w c
read_by_none S W p n x w (inl (inr (inl (inl (inl c))))) = x.0.1.0.0.0 w c
read_by_none S W p n x w (inl (inr (inl (inl (inr c))))) = x.0.1.0.0.1 w c
read_by_none S W p n x w (inl (inr (inl (inr c)))) = x.0.1.0.1 w c
read_by_none S W p n x w (inl (inr (inr c))) = x.0.1.1 w c
read_by_none S W p n x w (inr (inl (inl (inl (inl c))))) = x.1.0.0.0.0 w c
read_by_none S W p n x w (inr (inl (inl (inl (inr c))))) = x.1.0.0.0.1 w c
read_by_none S W p n x w (inr (inl (inl (inr (inl c))))) = x.1.0.0.1.0 w c
read_by_none S W p n x w (inr (inl (inl (inr (inr c))))) = x.1.0.0.1.1 w c
read_by_none S W p n x w (inr (inl (inr (inl (inl (inl c)))))) = x.1.0.1.0.0.0 w c
read_by_none S W p n x w (inr (inl (inr (inl (inl (inr c)))))) = x.1.0.1.0.0.1 w c
read_by_none S W p n x w (inr (inl (inr (inl (inr c))))) = x.1.0.1.0.1 w c
read_by_none S W p n x w (inr (inl (inr (inr c)))) = x.1.0.1.1 w c
read_by_none S W p n x w (inr (inr (inl c))) = x.1.1.0 w c.row c.stands
read_by_none S W p n x w (inr (inr (inr c))) = x.1.1.1 w c.row c.stands

-- ---- the rules

module _ (o : CompressOptions) (t : Tree) (f : IsRewritten o t) where
  -- what reads something in it, were there anything
  abbrev AnyRow : Position → Tree → Tree → Type 0
  AnyRow = Either (Rewrites (switches o) (writable_in t)) (SteadyRewrites (told_in t) (allowed_in o t))

  neither : (p : Position) (n : Tree) → IsSettled (switches o) (writable_in t) p n → IsSteadilySettled (told_in t) (allowed_in o t) p n → ReadsNothing AnyRow p n
  neither p n g h w (inl c) = g (record { to = w; contracts = c })
  neither p n g h w (inr r) = read_by_none (told_in t) (allowed_in o t) p n h w r

  nowhere : Everywhere (ReadsNothing AnyRow) Elsewhere t
  nowhere = everywhere_with (IsSettled (switches o) (writable_in t)) (IsSteadilySettled (told_in t) (allowed_in o t)) (ReadsNothing AnyRow) neither Elsewhere t f.0 f.1

  made_by_row : (p : Position) (n w : Tree) → AllGives o t p n w → AnyRow p n w
  made_by_row p n w (inl r) = inl (loose_contract o t p n w r)
  made_by_row p n w (inr r) = inr r

  -- so passes over it leave it, one after another
  pub no_pass_moves : {k : ℕ} {s u : Tree} → PassesReach (AllGives o) k s u → s ≡ t → u ≡ t
  no_pass_moves (no_pass s) e = e
  no_pass_moves (one_more k s u w r others) e =
      let before = no_pass_moves r e in
      let over : Reaches (AllGives o t) Elsewhere t w = subst (λ x. Reaches (AllGives o x) Elsewhere x w) before others in
      stays AnyRow (reaches_of (AllGives o t) AnyRow made_by_row Elsewhere t w over) nowhere

-- where the rules have nothing to do, nothing is left to rewrite
nothing_left : (o : CompressOptions) (m : Minified) (t u : Tree) → weight Elsewhere (resolved_program t) < 2 ^ 32 → IsFaithfulUnder steady_in (NothingLeft (AllRests o)) o m t u → IsFaithfulUnder steady_in (IsRewritten o) o m t u
nothing_left o m t u light f = record {
  names = f.names;
  jumps = f.jumps;
  named = f.named;
  spelled = f.spelled;
  frames = f.frames;
  bodies = f.bodies;
  weight = f.weight;
  some_pass = f.some_pass;
  within = f.within;
  settled = λ e. all_rest o (faith.later m u) (let less = f.weight in omega (arith, less, light)) (f.settled e);
  unsettled = f.unsettled;
}

-- ---- no newer form

gives_stay : (o : CompressOptions) (q : Tree) → StaysWithin o.edition (AllGives o q)
gives_stay o q p n w (inl r) = rewrites_stay_within (switches o) (writable_in q) p n w (loose_contract o q p n w r)
gives_stay o q p n w (inr r) = steady_rewrites_stay_within (told_in q) (allowed_in o q) p n w r

-- so one pass after another
pub passes_stay : (o : CompressOptions) {k : ℕ} {s u : Tree} → PassesReach (AllGives o) k s u → IsWithinEdition o.edition s u
passes_stay o (no_pass s) f newer there = there
passes_stay o (one_more k s u w r others) f newer there = passes_stay o r f newer (steps_stay_within (AllGives o u) o.edition (gives_stay o u) Elsewhere u w others f newer there)

module _ (d : Data) (o : CompressOptions) (m : Minified) (t : Tree) (read : Accepts d t) (free : early_fault t ≡ None) (r : IsRewriting (resolved_program t) o m) where
  pub lawful : (q : Tree) → DeclaresOnce q → LawfulRooted (let_go (switches o)) (writable_in q) (exactly_of q) (AllGives o q)
  lawful = all_lawful o

  pub so : AreSo steady_in
  so q e = each_itself (steady_in q)

  pub begins : EachBegins (λ q. PartEach (exactly_of q) (steady_in r.output)) r.passes.reached
  begins = any.begins exactly_of steady_in (AllGives o) (AllRests o) o lawful (all_known o) known_is_so d m t read free r

  abbrev pub again : (u : Tree) × Accepts (program_data r.output) u × (text u ≡ text r.output)
  again = any.again exactly_of steady_in (AllGives o) (AllRests o) o lawful so d m t read free r begins

  start : IsRead t read.1
  start = any.start d t read free

  pub answer_read : IsRead again.0 again.1.1
  answer_read = any.answer_read exactly_of steady_in (AllGives o) (AllRests o) o lawful so d m t read free r begins

  pub written : Accepts (view m.program) again.0
  written = any.written exactly_of steady_in (AllGives o) (AllRests o) o lawful so d m t read free r begins

  pub whole_is : faith.later m again.0 ≡ r.output
  whole_is = any.whole_is exactly_of steady_in (AllGives o) (AllRests o) o lawful so d m t read free r begins

  pub back : IsReadBack t r.output again.0
  back = (any.made exactly_of steady_in (AllGives o) (AllRests o) o lawful so d m t read free r begins).back

  pub faithful_there : weight Elsewhere t < 2 ^ 32 → IsFaithful o m t again.0
  faithful_there light = record {
    kept = nothing_left o m t again.0 (let a = resolved_lighter t start.unresolved in omega (arith, a, light)) (any.faithful_there exactly_of steady_in (AllGives o) (AllRests o) o lawful so d m t read free r begins);
    forms = subst (IsWithinEdition o.edition (earlier t)) (sym whole_is) (passes_stay o r.passes.reached);
  }

  pub faithful : weight Elsewhere t < 2 ^ 32 → Faithful d o m
  faithful light = record { input = t; output = again.0; accepted = read; answered = written; faithful = faithful_there light }

  settles : (b : Bool) → (b ≡ false → ⊥) → b ≡ true
  settles true f = refl
  settles false f = absurd (f refl)

  -- the trees of both values are these
  input_weight : (v : Tree) → Accepts d v → program_weight (earlier v) ≡ program_weight (resolved_program t)
  input_weight v a = ap (λ w. weight Elsewhere (resolved_program w)) (one_tree d v t a read)

  bounded : (v w : Tree) → Accepts d v → Accepts (view m.program) w → program_weight (faith.later m w) + m.passes ≤ program_weight (earlier v) + 1
  bounded v w a b =
      let x = input_weight v a in
      let y = ap (weight Elsewhere) (ap (faith.later m) (one_tree (view m.program) w again.0 b written) ∙ whole_is) in
      let h = r.passes.lighter in
      omega (arith, x, y, h)

  enough : (v : Tree) → Accepts d v → program_weight (earlier v) ≤ max o.passes 1 → m.settled ≡ true
  enough v a h =
      settles m.settled (λ s.
      let all = (r.passes.stopped s).0 in
      let (w, (k, reach), near, fell) = r.passes.last s in
      -- the program at which the last pass began is no empty one, so that it weighs more than 1
      let heavy = program_heavy w (declared_after (AllGives o) (let_go (switches o)) exactly_of lawful reach (any.resolved d t read free)).shaped (omega (arith, fell)) in
      let x = input_weight v a in
      omega (arith, all, near, heavy, x, h))

  fixed : (v : Tree) → Accepts d v → IsRewritten o (earlier v) → Accepts (view m.program) v × (m.passes ≡ 1) × (m.settled ≡ true)
  fixed v a f =
      let one = one_tree d v t a read in
      let same : r.output ≡ resolved_program t = no_pass_moves o (resolved_program t) (subst (λ w. IsRewritten o (resolved_program w)) one f) r.passes.reached refl in
      let w = ap (weight Elsewhere) same in
      let some = r.passes.some_pass in
      let h = r.passes.lighter in
      let q = answer_read in
      let unchanged : again.0 ≡ t = preorder_same again.0 t again.1.1 read.1 q.preorder start.preorder q.unresolved start.unresolved q.shaped start.shaped (again.2 ∙ ap text same ∙ text_resolved t) in (
        subst (Accepts (view m.program)) (unchanged ∙ sym one) written,
        omega (arith, w, some, h),
        settles m.settled (λ s. let (all, fell) = r.passes.stopped s in omega (arith, w, some, fell)),
      )

  pub passes_bounded : PassesBounded d o m
  passes_bounded = record { settled = λ v w a b s. bounded v w a b; unsettled = λ s. (r.passes.stopped s).0; enough = enough; fixed = fixed }

  -- ---- what both weigh

  plain_number : (n k : ℕ) → n ≡ capped k → k < 2 ^ 32 → n ≡ k
  plain_number n k e h = omega (arith, e)

  pub weighs : weight Elsewhere t < 2 ^ 32 → (n : ℕ) → n ≡ capped (program_weight (resolved_program t)) → (v : Tree) → Accepts d v → n ≡ program_weight (earlier v)
  weighs light n e v a =
      let less = resolved_lighter t start.unresolved in
      plain_number n (program_weight (resolved_program t)) e (omega (arith, less, light)) ∙ sym (input_weight v a)

  pub weighs_after : weight Elsewhere t < 2 ^ 32 → (n : ℕ) → n ≡ capped (program_weight r.output) → (w : Tree) → Accepts (view m.program) w → n ≡ program_weight (faith.later m w)
  weighs_after light n e w b =
      let less = resolved_lighter t start.unresolved in
      let some = r.passes.some_pass in
      let fell = r.passes.lighter in
      let y = ap (weight Elsewhere) (ap (faith.later m) (one_tree (view m.program) w again.0 b written) ∙ whole_is) in
      plain_number n (program_weight r.output) e (omega (arith, some, fell, less, light)) ∙ sym y

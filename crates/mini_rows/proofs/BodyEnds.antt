-- A block has the same in it without a last statement that declares nothing and holds nothing.
use Rattle.std.specs.Prelude.{ℕ, suc, ◌≡◌, refl, ◌||◌, Bool, false, List, [], ◌∷◌, ◌++◌, Contains, None}
use Rattle.std.proofs.Common.{ap, ◌∙◌, sym, subst, arith}
use Rattle.mini_model.specs.Tree.{Tree, Trees, none, ◌▸◌, absent, listed, empty_statement}
use Rattle.mini_model.specs.Paths.{append}
use Rattle.mini_model.specs.declared.shape.Shape.TheVariants as shape
use Rattle.mini_laws.specs.declared.names.Use.{Use}
use Rattle.mini_laws.specs.declared.names.Use.TheVariants.{Read, Alone}
use Rattle.mini_laws.specs.declared.names.Binding.{Binding}
use Rattle.mini_laws.specs.declared.names.Declared.{Declared}
use Rattle.mini_laws.specs.declared.names.Declared.TheVariants as declared
use Rattle.mini_laws.specs.declared.names.Targets.{Targets}
use Rattle.mini_laws.specs.DeclaredNames.{names_of, all_names, body_names, has_inner, any_inner}
use Rattle.mini_laws.specs.Scopes.{use_of, lexical_scope, opened, scopes_by}
use Rattle.mini_laws.specs.Resolved.{Environment}
use Rattle.mini_laws.specs.Scoped.{Scoped, AllScoped}
use Rattle.mini_laws.specs.Symbols.{symbols_in, declared as declared_in, declared_from, times}
use Rattle.mini_laws.specs.Early.{Path, declarations, in_body, body_declarations, all_body_declarations, scope_declarations, clashing, early_names, all_early_names, targets_of, early_jumps, all_early_jumps}
use Rattle.mini_laws.specs.Value.{Variable}
use Rattle.mini_laws.specs.State.{Writable}
use Rattle.mini_laws.specs.Fixity.{stricter, fixed_by, fixed_by_any}
use Rattle.mini_laws.specs.Bodies.{Around, bodies, bodies_from}
use Rattle.mini_kept.specs.AlikeBodies.{BodiesKept}
use Rattle.mini_kept.specs.Carried.{numbers as numbers_of, all_numbers}
use Rattle.mini_kept.specs.Declaring.{declared as declared_names, declared_all}
use Rattle.mini_kept.specs.Frames.{frames, frames_from}
use Rattle.mini_kept.specs.KeepsNames.{count_of}
use Rattle.mini_model.specs.declared.kind.PropertyKind.{PropertyKind}
use Rattle.std.specs.Prelude.{Option}
use Rattle.mini_kept.proofs.Below.{empty_both, both_empty}
use Rattle.mini_kept.proofs.BodyLists.{kept_itself}
use Rattle.mini_kept.proofs.Fixed.{of_children}
use Rattle.mini_kept.proofs.FrameLists.{same_frames}
use Rattle.mini_rows.specs.Lists.{block}
use Rattle.mini_rows.specs.Branches.{bare_continue}
use Rattle.mini_rows.specs.Loops.{bare_break}
use Rattle.mini_rows.proofs.BranchInside.{quiet, Inside}

-- ---- what nothing is in

pub record Idle (t : Tree) : Type 0 where
  pub names : (d : Declared) → names_of d t ≡ []
  pub body : body_names t ≡ []
  pub as_body : (b : Bool) (p : Path) → body_declarations b p t ≡ []
  pub inner : has_inner t ≡ false
  pub symbols : (u : Use) → declared_in u t ≡ []
  pub numbers : numbers_of t ≡ []
  pub bodies : (a : Around) → bodies a t ≡ []
  pub frames : (k : Option PropertyKind) → frames k t ≡ []
  pub fixed : (z : Variable) → fixed_by t z ≡ Writable
  pub declared : declared_names t ≡ []

no_names : (d : Declared) → names_of d bare_continue ≡ []
unfolding names_of
no_names declared.Bound = refl
no_names declared.Lexical = refl
no_names declared.Hoisted = refl

pub continue_idle : Idle bare_continue
unfolding names_of body_names declarations body_declarations has_inner declared_in numbers_of scopes_by
continue_idle = record { names = no_names; body = refl; as_body = λ b p. refl; inner = refl; symbols = λ u. refl; numbers = refl; bodies = λ a. refl; frames = λ k. refl; fixed = λ z. refl; declared = refl }

-- and so is `break;`, and what is absent

no_broken_names : (d : Declared) → names_of d bare_break ≡ []
unfolding names_of
no_broken_names declared.Bound = refl
no_broken_names declared.Lexical = refl
no_broken_names declared.Hoisted = refl

pub break_idle : Idle bare_break
unfolding names_of body_names declarations body_declarations has_inner declared_in numbers_of scopes_by
break_idle = record { names = no_broken_names; body = refl; as_body = λ b p. refl; inner = refl; symbols = λ u. refl; numbers = refl; bodies = λ a. refl; frames = λ k. refl; fixed = λ z. refl; declared = refl }

no_absent_names : (d : Declared) → names_of d absent ≡ []
unfolding names_of
no_absent_names declared.Bound = refl
no_absent_names declared.Lexical = refl
no_absent_names declared.Hoisted = refl

pub absent_idle : Idle absent
unfolding names_of body_names declarations body_declarations has_inner declared_in numbers_of scopes_by
absent_idle = record { names = no_absent_names; body = refl; as_body = λ b p. refl; inner = refl; symbols = λ u. refl; numbers = refl; bodies = λ a. refl; frames = λ k. refl; fixed = λ z. refl; declared = refl }

-- ---- `;` in its place

nothing_named : (d : Declared) → names_of d empty_statement ≡ []
unfolding names_of
nothing_named declared.Bound = refl
nothing_named declared.Lexical = refl
nothing_named declared.Hoisted = refl

pub empty_idle : Idle empty_statement
unfolding names_of body_names declarations body_declarations has_inner declared_in numbers_of scopes_by
empty_idle = record { names = nothing_named; body = refl; as_body = λ b p. refl; inner = refl; symbols = λ u. refl; numbers = refl; bodies = λ a. refl; frames = λ k. refl; fixed = λ z. refl; declared = refl }

empty_scoped : (u : Use) (env : Environment) → Scoped u env empty_statement
unfolding Scoped
empty_scoped u env = (tt, tt)

empty_once : (q : Path) → early_names q empty_statement ≡ []
unfolding early_names scope_declarations
empty_once q = refl

empty_targets : (a : Targets) (q : Path) → early_jumps a q empty_statement ≡ []
unfolding early_jumps
empty_targets a q = refl

-- ---- one that holds nothing, whole or as the last of a block

module _ (j : Tree) (i : Idle j) where
  pub emptied : Inside j empty_statement
  emptied = record {
    kept = record { names = λ d. empty_idle.names d ∙ sym (i.names d); body = empty_idle.body ∙ sym i.body; inner = empty_idle.inner ∙ sym i.inner; symbols = λ u x. omega (arith, ap (times x) (empty_idle.symbols u), ap (times x) (i.symbols u)) };
    scoped = λ env r. empty_scoped Alone env;
    numbers = λ k. omega (arith, ap (count_of k) empty_idle.numbers, ap (count_of k) i.numbers);
    once = λ q e. empty_once q;
    targets = λ a q e. empty_targets a q;
    bodies = λ a. subst (λ bs. BodiesKept bs []) (sym (i.bodies (quiet a))) (kept_itself []);
    frames = same_frames (frames None j) [] (i.frames None);
    fixed = λ z. i.fixed z;
    declared = λ z k. subst (λ xs. Contains xs z) (sym i.declared) k;
  }

  abbrev ending : Trees → Trees
  ending ts = append ts (j ▸ none)

  -- names

  all_named : (d : Declared) (ts : Trees) → all_names d (ending ts) ≡ all_names d ts
  unfolding names_of
  all_named d none = ap (λ xs. xs ++ []) (i.names d)
  all_named d (t ▸ ts) = ap (λ xs. names_of d t ++ xs) (all_named d ts)

  list_lexical : (ts : Trees) → names_of declared.Lexical (listed (ending ts)) ≡ names_of declared.Lexical (listed ts)
  unfolding names_of
  list_lexical ts = all_named declared.Lexical ts

  block_named : (d : Declared) (ts : Trees) → names_of d (block ts) ≡ names_of d (block (ending ts))
  unfolding names_of
  block_named declared.Bound ts = refl
  block_named declared.Lexical ts = refl
  block_named declared.Hoisted ts = ap (λ xs. xs ++ []) (sym (all_named declared.Hoisted ts))

  block_body : (ts : Trees) → body_names (block ts) ≡ body_names (block (ending ts))
  unfolding body_names
  block_body ts = λ k. block_named declared.Lexical ts k ++ block_named declared.Hoisted ts k

  all_inner : (ts : Trees) → any_inner (ending ts) ≡ any_inner ts
  unfolding has_inner
  all_inner none = ap (λ b. b || false) i.inner
  all_inner (t ▸ ts) = ap (λ b. has_inner t || b) (all_inner ts)

  block_inner : (ts : Trees) → has_inner (block ts) ≡ has_inner (block (ending ts))
  unfolding has_inner
  block_inner ts = ap (λ b. b || false) (sym (all_inner ts))

  -- symbols

  all_declared : (scope : ℕ → List Binding) → ((n : ℕ) → scope n ≡ []) → (uses : ℕ → Use) (n : ℕ) (ts : Trees) → declared_from scope uses n (ending ts) ≡ declared_from scope uses n ts
  unfolding declared_in
  all_declared scope z uses n none = λ k. symbols_in (z n k) ++ (i.symbols (uses n) k ++ [])
  all_declared scope z uses n (t ▸ ts) = ap (λ ss. symbols_in (scope n) ++ (declared_in (uses n) t ++ ss)) (all_declared scope z uses (suc n) ts)

  list_declared : (ts : Trees) → declared_in Read (listed (ending ts)) ≡ declared_in Read (listed ts)
  unfolding declared_in scopes_by
  list_declared ts = all_declared (opened Read shape.Listed ts) (λ n. refl) (use_of shape.Listed Read) 0 ts

  block_declared : (u : Use) (ts : Trees) → declared_in u (block (ending ts)) ≡ declared_in u (block ts)
  unfolding declared_in scopes_by
  block_declared u ts = λ k. symbols_in (lexical_scope (list_lexical ts k)) ++ (list_declared ts k ++ [])

  all_scoped : (scope : ℕ → List Binding) (uses : ℕ → Use) (n : ℕ) (env : Environment) (ts : Trees) → AllScoped scope uses n env (ending ts) → AllScoped scope uses n env ts
  unfolding Scoped
  all_scoped scope uses n env none r = tt
  all_scoped scope uses n env (t ▸ ts) r = (r.0, all_scoped scope uses (suc n) (env ++ scope n) ts r.1)

  block_scoped : (env : Environment) (ts : Trees) → Scoped Alone env (block (ending ts)) → Scoped Alone env (block ts)
  unfolding Scoped scopes_by
  block_scoped env ts r = (tt, ((tt, subst (λ bs. AllScoped (opened Read shape.Listed ts) (use_of shape.Listed Read) 0 (env ++ bs) ts) (ap lexical_scope (list_lexical ts)) (all_scoped (opened Read shape.Listed ts) (use_of shape.Listed Read) 0 (env ++ lexical_scope (names_of declared.Lexical (listed (ending ts)))) ts r.1.0.1)), tt))

  -- numbers, bodies, frames, what a write does

  all_numbered : (ts : Trees) → all_numbers (ending ts) ≡ all_numbers ts
  unfolding numbers_of
  all_numbered none = ap (λ ns. ns ++ []) i.numbers
  all_numbered (t ▸ ts) = ap (λ ns. numbers_of t ++ ns) (all_numbered ts)

  block_numbers : (ts : Trees) → numbers_of (block (ending ts)) ≡ numbers_of (block ts)
  unfolding numbers_of
  block_numbers ts = ap (λ ns. ns ++ []) (all_numbered ts)

  all_bodies : (around : ℕ → Around) (n : ℕ) (ts : Trees) → bodies_from around n (ending ts) ≡ bodies_from around n ts
  all_bodies around n none = ap (λ bs. bs ++ []) (i.bodies (around n))
  all_bodies around n (t ▸ ts) = ap (λ bs. bodies (around n) t ++ bs) (all_bodies around (suc n) ts)

  block_bodies : (a : Around) (ts : Trees) → bodies (quiet a) (block (ending ts)) ≡ bodies (quiet a) (block ts)
  block_bodies a ts = ap (λ bs. bs ++ []) (all_bodies (λ n. quiet a) 0 ts)

  all_frames : (kind : ℕ → Option PropertyKind) (n : ℕ) (ts : Trees) → frames_from kind n (ending ts) ≡ frames_from kind n ts
  all_frames kind n none = ap (λ fs. fs ++ []) (i.frames (kind n))
  all_frames kind n (t ▸ ts) = ap (λ fs. frames (kind n) t ++ fs) (all_frames kind (suc n) ts)

  block_frames : (ts : Trees) → frames None (block (ending ts)) ≡ frames None (block ts)
  block_frames ts = ap (λ fs. fs ++ []) (all_frames (λ n. None) 0 ts)

  all_fixed : (z : Variable) (ts : Trees) → fixed_by_any (ending ts) z ≡ fixed_by_any ts z
  all_fixed z none = ap (λ f. stricter f Writable) (i.fixed z)
  all_fixed z (t ▸ ts) = ap (stricter (fixed_by t z)) (all_fixed z ts)

  block_fixed : (ts : Trees) (z : Variable) → fixed_by (block (ending ts)) z ≡ fixed_by (block ts) z
  block_fixed ts z =
      of_children shape.BlockStatement [] 0 (listed (ending ts) ▸ none) z refl
      ∙ ap (λ f. stricter f Writable) (of_children shape.Listed [] 0 (ending ts) z refl ∙ all_fixed z ts ∙ sym (of_children shape.Listed [] 0 ts z refl))
      ∙ sym (of_children shape.BlockStatement [] 0 (listed ts ▸ none) z refl)

  all_said : (ts : Trees) → declared_all (ending ts) ≡ declared_all ts
  all_said none = ap (λ xs. xs ++ []) i.declared
  all_said (t ▸ ts) = ap (λ xs. declared_names t ++ xs) (all_said ts)

  block_said : (ts : Trees) → declared_names (block (ending ts)) ≡ declared_names (block ts)
  block_said ts = ap (λ xs. xs ++ []) (all_said ts)

  -- early errors

  all_as_body : (b : Bool) (p : Path) (n : ℕ) (ts : Trees) → all_body_declarations b p n (ending ts) ≡ all_body_declarations b p n ts
  unfolding body_declarations
  all_as_body b p n none = ap (λ ds. ds ++ []) (i.as_body b (p ++ n ∷ []))
  all_as_body b p n (t ▸ ts) = ap (λ ds. body_declarations b (p ++ n ∷ []) t ++ ds) (all_as_body b p (suc n) ts)

  in_body_same : (q : Path) (ts : Trees) → in_body false q (listed (ending ts) ▸ none) 0 ≡ in_body false q (listed ts ▸ none) 0
  unfolding body_declarations
  in_body_same q ts = all_as_body false (q ++ 0 ∷ []) 0 ts

  all_once : (p : Path) (n : ℕ) (ts : Trees) → all_early_names p n (ending ts) ≡ [] → all_early_names p n ts ≡ []
  unfolding early_names
  all_once p n none e = refl
  all_once p n (t ▸ ts) e =
      let (own, rest) = empty_both (early_names (p ++ n ∷ []) t) (all_early_names p (suc n) (ending ts)) e in
      both_empty (early_names (p ++ n ∷ []) t) (all_early_names p (suc n) ts) own (all_once p (suc n) ts rest)

  block_once : (q : Path) (ts : Trees) → early_names q (block (ending ts)) ≡ [] → early_names q (block ts) ≡ []
  unfolding early_names scope_declarations
  block_once q ts e =
      let (own, below) = empty_both (clashing [] (in_body false q (listed (ending ts) ▸ none) 0)) (all_early_names (q ++ 0 ∷ []) 0 (ending ts) ++ []) e in
      let (list, end) = empty_both (all_early_names (q ++ 0 ∷ []) 0 (ending ts)) [] below in
      both_empty (clashing [] (in_body false q (listed ts ▸ none) 0)) (all_early_names (q ++ 0 ∷ []) 0 ts ++ []) (subst (λ ds. clashing [] ds ≡ []) (in_body_same q ts) own) (both_empty (all_early_names (q ++ 0 ∷ []) 0 ts) [] (all_once (q ++ 0 ∷ []) 0 ts list) refl)

  all_aimed : (targets : ℕ → Targets) (p : Path) (n : ℕ) (ts : Trees) → all_early_jumps targets p n (ending ts) ≡ [] → all_early_jumps targets p n ts ≡ []
  unfolding early_jumps
  all_aimed targets p n none e = refl
  all_aimed targets p n (t ▸ ts) e =
      let (own, rest) = empty_both (early_jumps (targets n) (p ++ n ∷ []) t) (all_early_jumps targets p (suc n) (ending ts)) e in
      both_empty (early_jumps (targets n) (p ++ n ∷ []) t) (all_early_jumps targets p (suc n) ts) own (all_aimed targets p (suc n) ts rest)

  block_aimed : (a : Targets) (q : Path) (ts : Trees) → early_jumps a q (block (ending ts)) ≡ [] → early_jumps a q (block ts) ≡ []
  unfolding early_jumps targets_of
  block_aimed a q ts e =
      let (list, end) = empty_both (all_early_jumps (λ n. a) (q ++ 0 ∷ []) 0 (ending ts)) [] e in
      both_empty (all_early_jumps (λ n. a) (q ++ 0 ∷ []) 0 ts) [] (all_aimed (λ n. a) (q ++ 0 ∷ []) 0 ts list) refl

  pub shortened : (ts : Trees) → Inside (block (append ts (j ▸ none))) (block ts)
  shortened ts = record {
    kept = record { names = λ d. block_named d ts; body = block_body ts; inner = block_inner ts; symbols = λ u x. omega (arith, ap (times x) (block_declared u ts)) };
    scoped = λ env r. block_scoped env ts r;
    numbers = λ k. omega (arith, ap (count_of k) (block_numbers ts));
    once = λ q e. block_once q ts e;
    targets = λ a q e. block_aimed a q ts e;
    bodies = λ a. subst (BodiesKept (bodies (quiet a) (block (ending ts)))) (block_bodies a ts) (kept_itself (bodies (quiet a) (block (ending ts))));
    frames = same_frames (frames None (block (ending ts))) (frames None (block ts)) (block_frames ts);
    fixed = block_fixed ts;
    declared = λ z k. subst (λ xs. Contains xs z) (sym (block_said ts)) k;
  }

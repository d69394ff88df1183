-- What is written for a `switch` of one case keeps what it has to keep of its parts.
use Rattle.std.specs.Prelude.{ℕ, suc, ◌≡◌, refl, ◌||◌, ◌&&◌, Bool, true, false, List, [], ◌∷◌, ◌++◌, Contains, Option, Some, None, if◌then◌else◌}
use Rattle.std.proofs.Common.{ap, ◌∙◌, sym, subst, arith, true≢false}
use Rattle.std.proofs.lemmas.Bool.{and_parts}
use Rattle.std.proofs.lemmas.List.{append-nil}
use Rattle.mini_model.specs.declared.name.Name.{Name}
use Rattle.mini_model.specs.declared.operator.BinaryOperator.TheVariants.{StrictEquality}
use Rattle.mini_model.specs.declared.shape.Shape.{Shape}
use Rattle.mini_model.specs.declared.shape.Shape.TheVariants as shape
use Rattle.mini_model.specs.Tree.{Tree, Trees, node, none, ◌▸◌, absent, listed, expression_statement, if_alone}
use Rattle.mini_model.specs.Paths.{append}
use Rattle.mini_laws.specs.declared.names.Binding.{Binding}
use Rattle.mini_laws.specs.declared.names.Use.{Use}
use Rattle.mini_laws.specs.declared.names.Use.TheVariants.{Read, Alone}
use Rattle.mini_laws.specs.declared.names.Declared.{Declared}
use Rattle.mini_laws.specs.declared.names.Declared.TheVariants as declared
use Rattle.mini_laws.specs.declared.names.Jump.{Jump}
use Rattle.mini_laws.specs.declared.names.Jump.TheVariants as jump
use Rattle.mini_laws.specs.declared.names.Turn.{Turn}
use Rattle.mini_laws.specs.declared.names.Turn.TheVariants as turn
use Rattle.mini_laws.specs.declared.names.Targets.{Targets}
use Rattle.mini_laws.specs.DeclaredNames.{names_of, all_names, body_names, has_inner, any_inner, lexical_names, with_names}
use Rattle.mini_laws.specs.Scopes.{use_of, scopes_by, at_or_empty, lexical_scope}
use Rattle.mini_laws.specs.Resolved.{Environment}
use Rattle.mini_laws.specs.Scoped.{Scoped, AllScoped}
use Rattle.mini_laws.specs.Symbols.{declared as declared_in, declared_from, symbols_in, times}
use Rattle.mini_laws.specs.Early.{Path, own_declarations, in_body, scope_declarations, clashing, early_names, all_early_names, jump_of, label_in, turn_of, is_bad, is_bad_jump, turned, targets_of, early_jumps, all_early_jumps}
use Rattle.mini_laws.proofs.Drops.{moved}
use Rattle.mini_laws.specs.Value.{Variable, choose}
use Rattle.mini_laws.specs.State.{Fixed, Writable, KeepsOld, Constant}
use Rattle.mini_laws.specs.Fixity.{stricter, fixed_by, fixed_by_any}
use Rattle.mini_laws.specs.Bodies.{Around, bodies, bodies_from}
use Rattle.mini_kept.specs.AlikeBodies.{BodiesKept}
use Rattle.mini_kept.specs.Carried.{numbers, all_numbers}
use Rattle.mini_kept.specs.Declaring.{declared as declared_names, declared_all}
use Rattle.mini_kept.specs.Frames.{frames, frames_from}
use Rattle.mini_kept.specs.KeepsNames.{count_of, unplaced}
use Rattle.mini_kept.proofs.Anywhere.{once_anywhere, targets_anywhere}
use Rattle.mini_kept.proofs.Below.{empty_both, both_empty}
use Rattle.mini_kept.proofs.BodyLists.{kept_itself}
use Rattle.mini_kept.proofs.Fixed.{of_children, of_if, of_statement, of_absent}
use Rattle.mini_kept.proofs.Quiet.{IsQuiet, no_names}
use Rattle.mini_kept.proofs.Unplaced.{as_body, all_as_body, body_is, body_same, free_same}
use Rattle.mini_rows.specs.Lists.{block, is_unscoped, are_unscoped}
use Rattle.mini_rows.specs.Spellings.{PlainForm, a_number, a_text, a_boolean, a_null, a_big_int, a_template, a_void, plain, binary}
use Rattle.mini_rows.specs.Cases.{switch_case, one_case, bare_break, ended, lets_out, is_bare, breaks_out, any_breaks_out}
use Rattle.mini_rows.proofs.BranchInside.{quiet, no_lexical, hoisted_free}
use Rattle.mini_rows.proofs.BranchAround.{Core, Said}
use Rattle.mini_rows.proofs.UnbrokenRuns.{or_first, or_second, and_then}

-- ---- a test that holds nothing: a value that is written out, or none

pub record Blank (t : Tree) : Type 0 where
  pub hoisted : names_of declared.Hoisted t ≡ []
  pub lexical : names_of declared.Lexical t ≡ []
  pub inner : has_inner t ≡ false
  pub symbols : declared_in Read t ≡ []
  pub scoped : (env : Environment) → Scoped Read env t
  pub numbers : numbers t ≡ []
  pub once : (p : Path) → early_names p t ≡ []
  pub targets : (a : Targets) (p : Path) → early_jumps a p t ≡ []
  pub bodies : (a : Around) → bodies (quiet a) t ≡ []
  pub frames : frames None t ≡ []
  pub fixed : (z : Variable) → fixed_by t z ≡ Writable
  pub declared : declared_names t ≡ []
  pub body : as_body false t ≡ []

writable : (b : Bool) → choose b Writable Writable ≡ Writable
writable true = refl
writable false = refl

pub blank_plain : (f : PlainForm) → Blank (plain f)
unfolding names_of has_inner declared_in scopes_by Scoped numbers early_names scope_declarations early_jumps targets_of
blank_plain (a_number n) = record { hoisted = refl; lexical = refl; inner = refl; symbols = refl; scoped = λ env. (tt, tt); numbers = refl; once = λ p. refl; targets = λ a p. refl; bodies = λ a. refl; frames = refl; fixed = λ z. refl; declared = refl; body = refl }
blank_plain (a_text s) = record { hoisted = refl; lexical = refl; inner = refl; symbols = refl; scoped = λ env. (tt, tt); numbers = refl; once = λ p. refl; targets = λ a p. refl; bodies = λ a. refl; frames = refl; fixed = λ z. refl; declared = refl; body = refl }
blank_plain (a_boolean b) = record { hoisted = refl; lexical = refl; inner = refl; symbols = refl; scoped = λ env. (tt, tt); numbers = refl; once = λ p. refl; targets = λ a p. refl; bodies = λ a. refl; frames = refl; fixed = λ z. refl; declared = refl; body = refl }
blank_plain a_null = record { hoisted = refl; lexical = refl; inner = refl; symbols = refl; scoped = λ env. (tt, tt); numbers = refl; once = λ p. refl; targets = λ a p. refl; bodies = λ a. refl; frames = refl; fixed = λ z. refl; declared = refl; body = refl }
blank_plain (a_big_int n) = record { hoisted = refl; lexical = refl; inner = refl; symbols = refl; scoped = λ env. (tt, tt); numbers = refl; once = λ p. refl; targets = λ a p. refl; bodies = λ a. refl; frames = refl; fixed = λ z. refl; declared = refl; body = refl }
blank_plain (a_template l raw s) = record { hoisted = refl; lexical = refl; inner = refl; symbols = refl; scoped = λ env. (tt, ((tt, ((tt, tt), tt)), ((tt, tt), tt))); numbers = refl; once = λ p. refl; targets = λ a p. refl; bodies = λ a. refl; frames = refl; fixed = λ z. refl; declared = refl; body = refl }
blank_plain a_void = record { hoisted = refl; lexical = refl; inner = refl; symbols = refl; scoped = λ env. (tt, ((tt, tt), tt)); numbers = refl; once = λ p. refl; targets = λ a p. refl; bodies = λ a. refl; frames = refl; fixed = λ z. refl; declared = refl; body = refl }

pub blank_absent : Blank absent
unfolding names_of has_inner declared_in scopes_by Scoped numbers early_names scope_declarations early_jumps targets_of
blank_absent = record { hoisted = refl; lexical = refl; inner = refl; symbols = refl; scoped = λ env. (tt, tt); numbers = refl; once = λ p. refl; targets = λ a p. refl; bodies = λ a. refl; frames = refl; fixed = λ z. refl; declared = refl; body = refl }

-- ---- jumps: where no `break` leaves, none needs the `switch`

not_bare : (j : Jump) (l : Option (List ℕ)) (a : Targets) → is_bare j l ≡ false → is_bad j l (record a { breaks = true }) ≡ is_bad j l a
not_bare jump.Break None a h = absurd (true≢false h)
not_bare jump.Break (Some s) a h = refl
not_bare jump.Continue None a h = refl
not_bare jump.Continue (Some s) a h = refl
not_bare jump.Label None a h = refl
not_bare jump.Label (Some s) a h = refl
not_bare jump.Return l a h = refl
not_bare jump.Yield l a h = refl
not_bare jump.Nothing l a h = refl

one_aimed_out : (k : Turn) (us : Trees) (a : Targets) (p : Path) (t : Tree) → (lets_out k ≡ true → (c : Targets) → early_jumps (record c { breaks = true }) p t ≡ [] → early_jumps c p t ≡ []) → early_jumps (turned k us (record a { breaks = true })) p t ≡ [] → early_jumps (turned k us a) p t ≡ []
one_aimed_out turn.Same us a p t f e = f refl a e
one_aimed_out turn.Labeled us a p t f e = f refl (turned turn.Labeled us a) e
one_aimed_out turn.InLoop us a p t f e = e
one_aimed_out turn.InSwitch us a p t f e = e
one_aimed_out (turn.InFunction y) us a p t f e = e
one_aimed_out turn.Outside us a p t f e = e

mutual
  unfolding early_jumps targets_of

  aimed_out : (a : Targets) (p : Path) (t : Tree) → breaks_out t ≡ false → early_jumps (record a { breaks = true }) p t ≡ [] → early_jumps a p t ≡ []
  aimed_out a p (node h xs n ts) b e =
      let (own, rest) = empty_both (if is_bad_jump h ts (record a { breaks = true }) then p ∷ [] else []) (all_early_jumps (targets_of h ts (record a { breaks = true })) p 0 ts) e in
      both_empty (if is_bad_jump h ts a then p ∷ [] else []) (all_early_jumps (targets_of h ts a) p 0 ts)
      (ap (λ c. if c then p ∷ [] else []) (sym (not_bare (jump_of h) (label_in ts) a (or_first (is_bare (jump_of h) (label_in ts)) (any_breaks_out h 0 ts) b))) ∙ own)
      (all_aimed_out h ts a p 0 ts (or_second (is_bare (jump_of h) (label_in ts)) (any_breaks_out h 0 ts) b) rest)

  all_aimed_out : (h : Shape) (us : Trees) (a : Targets) (p : Path) (i : ℕ) (ts : Trees) → any_breaks_out h i ts ≡ false → all_early_jumps (targets_of h us (record a { breaks = true })) p i ts ≡ [] → all_early_jumps (targets_of h us a) p i ts ≡ []
  all_aimed_out h us a p i none b e = refl
  all_aimed_out h us a p i (t ▸ ts) b e =
      let (own, rest) = empty_both (early_jumps (targets_of h us (record a { breaks = true }) i) (p ++ i ∷ []) t) (all_early_jumps (targets_of h us (record a { breaks = true })) p (suc i) ts) e in
      let stays = or_first (lets_out (turn_of h i) && breaks_out t) (any_breaks_out h (suc i) ts) b in
      both_empty (early_jumps (targets_of h us a i) (p ++ i ∷ []) t) (all_early_jumps (targets_of h us a) p (suc i) ts)
      (one_aimed_out (turn_of h i) us a (p ++ i ∷ []) t (λ k c. aimed_out c (p ++ i ∷ []) t (and_then (lets_out (turn_of h i)) (breaks_out t) stays k)) own)
      (all_aimed_out h us a p (suc i) ts (or_second (lets_out (turn_of h i) && breaks_out t) (any_breaks_out h (suc i) ts) b) rest)

-- ---- statements of a case, without a last `break;`

pub no_lexicals : (ss : Trees) → are_unscoped ss ≡ true → all_names declared.Lexical ss ≡ []
unfolding names_of
no_lexicals none h = refl
no_lexicals (t ▸ ss) h =
    let (first, rest) = and_parts (is_unscoped t) (are_unscoped ss) h in
    λ k. no_lexical t first k ++ no_lexicals ss rest k

module _ (ts ss : Trees) where
  -- what stays of them
  pub record Shorter : Type 0 where
    hoisted : all_names declared.Hoisted ss ≡ all_names declared.Hoisted ts
    lexical : all_names declared.Lexical ts ≡ all_names declared.Lexical ss
    inner : any_inner ss ≡ any_inner ts
    symbols : declared_from (λ j. []) (λ j. Read) 0 ss ≡ declared_from (λ j. []) (λ j. Read) 0 ts
    scoped : (env : Environment) → AllScoped (λ j. []) (λ j. Read) 0 env ts → AllScoped (λ j. []) (λ j. Read) 0 env ss
    numbers : all_numbers ss ≡ all_numbers ts
    once : (p : Path) → all_early_names p 0 ts ≡ [] → all_early_names p 0 ss ≡ []
    targets : (a : Targets) (p : Path) → all_early_jumps (λ j. record a { breaks = true }) p 0 ts ≡ [] → all_early_jumps (λ j. a) p 0 ss ≡ []
    bodies : (a : Around) → bodies_from (λ j. quiet a) 0 ss ≡ bodies_from (λ j. quiet a) 0 ts
    frames : frames_from (λ j. None) 0 ss ≡ frames_from (λ j. None) 0 ts
    fixed : (z : Variable) → fixed_by_any ss z ≡ fixed_by_any ts z
    declared : declared_all ss ≡ declared_all ts
    body : all_as_body false ss ≡ all_as_body false ts

abbrev longer : Trees → Trees
longer ss = append ss (bare_break ▸ none)

hoisted_longer : (ss : Trees) → all_names declared.Hoisted ss ≡ all_names declared.Hoisted (longer ss)
unfolding names_of
hoisted_longer none = refl
hoisted_longer (t ▸ ss) = ap (λ r. names_of declared.Hoisted t ++ r) (hoisted_longer ss)

lexical_longer : (ss : Trees) → all_names declared.Lexical (longer ss) ≡ all_names declared.Lexical ss
unfolding names_of
lexical_longer none = refl
lexical_longer (t ▸ ss) = ap (λ r. names_of declared.Lexical t ++ r) (lexical_longer ss)

inner_longer : (ss : Trees) → any_inner ss ≡ any_inner (longer ss)
unfolding has_inner
inner_longer none = refl
inner_longer (t ▸ ss) = ap (λ r. has_inner t || r) (inner_longer ss)

symbols_longer : (i : ℕ) (ss : Trees) → declared_from (λ j. []) (λ j. Read) i ss ≡ declared_from (λ j. []) (λ j. Read) i (longer ss)
unfolding declared_in scopes_by
symbols_longer i none = refl
symbols_longer i (t ▸ ss) = ap (λ r. declared_in Read t ++ r) (symbols_longer (suc i) ss)

scoped_longer : (i : ℕ) (env : Environment) (ss : Trees) → AllScoped (λ j. []) (λ j. Read) i env (longer ss) → AllScoped (λ j. []) (λ j. Read) i env ss
unfolding Scoped
scoped_longer i env none r = tt
scoped_longer i env (t ▸ ss) r = (r.0, scoped_longer (suc i) (env ++ []) ss r.1)

numbers_longer : (ss : Trees) → all_numbers ss ≡ all_numbers (longer ss)
unfolding numbers
numbers_longer none = refl
numbers_longer (t ▸ ss) = ap (λ r. numbers t ++ r) (numbers_longer ss)

once_longer : (p : Path) (i : ℕ) (ss : Trees) → all_early_names p i (longer ss) ≡ [] → all_early_names p i ss ≡ []
unfolding early_names
once_longer p i none e = refl
once_longer p i (t ▸ ss) e =
    let (own, rest) = empty_both (early_names (p ++ i ∷ []) t) (all_early_names p (suc i) (longer ss)) e in
    both_empty (early_names (p ++ i ∷ []) t) (all_early_names p (suc i) ss) own (once_longer p (suc i) ss rest)

targets_longer : (g : ℕ → Targets) (p : Path) (i : ℕ) (ss : Trees) → all_early_jumps g p i (longer ss) ≡ [] → all_early_jumps g p i ss ≡ []
unfolding early_jumps
targets_longer g p i none e = refl
targets_longer g p i (t ▸ ss) e =
    let (own, rest) = empty_both (early_jumps (g i) (p ++ i ∷ []) t) (all_early_jumps g p (suc i) (longer ss)) e in
    both_empty (early_jumps (g i) (p ++ i ∷ []) t) (all_early_jumps g p (suc i) ss) own (targets_longer g p (suc i) ss rest)

bodies_longer : (a : Around) (i : ℕ) (ss : Trees) → bodies_from (λ j. quiet a) i ss ≡ bodies_from (λ j. quiet a) i (longer ss)
bodies_longer a i none = refl
bodies_longer a i (t ▸ ss) = ap (λ r. bodies (quiet a) t ++ r) (bodies_longer a (suc i) ss)

frames_longer : (i : ℕ) (ss : Trees) → frames_from (λ j. None) i ss ≡ frames_from (λ j. None) i (longer ss)
frames_longer i none = refl
frames_longer i (t ▸ ss) = ap (λ r. frames None t ++ r) (frames_longer (suc i) ss)

fixed_longer : (z : Variable) (ss : Trees) → fixed_by_any ss z ≡ fixed_by_any (longer ss) z
fixed_longer z none = refl
fixed_longer z (t ▸ ss) = ap (λ r. stricter (fixed_by t z) r) (fixed_longer z ss)

declared_longer : (ss : Trees) → declared_all ss ≡ declared_all (longer ss)
declared_longer none = refl
declared_longer (t ▸ ss) = ap (λ r. declared_names t ++ r) (declared_longer ss)

body_longer : (ss : Trees) → all_as_body false ss ≡ all_as_body false (longer ss)
unfolding names_of
body_longer none = refl
body_longer (t ▸ ss) = ap (λ r. as_body false t ++ r) (body_longer ss)

targets_out : (a : Targets) (p : Path) (ss : Trees) → breaks_out (listed ss) ≡ false → all_early_jumps (λ j. record a { breaks = true }) p 0 ss ≡ [] → all_early_jumps (λ j. a) p 0 ss ≡ []
unfolding targets_of
targets_out a p ss b e = all_aimed_out shape.Listed ss a p 0 ss b e

shorter : (b : Bool) (ss : Trees) → breaks_out (listed ss) ≡ false → Shorter (ended b ss) ss
shorter false ss s = record { hoisted = refl; lexical = refl; inner = refl; symbols = refl; scoped = λ env r. r; numbers = refl; once = λ p e. e; targets = λ a p e. targets_out a p ss s e; bodies = λ a. refl; frames = refl; fixed = λ z. refl; declared = refl; body = refl }
shorter true ss s = record {
  hoisted = hoisted_longer ss;
  lexical = lexical_longer ss;
  inner = inner_longer ss;
  symbols = symbols_longer 0 ss;
  scoped = λ env r. scoped_longer 0 env ss r;
  numbers = numbers_longer ss;
  once = λ p e. once_longer p 0 ss e;
  targets = λ a p e. targets_out a p ss s (targets_longer (λ j. record a { breaks = true }) p 0 ss e);
  bodies = λ a. bodies_longer a 0 ss;
  frames = frames_longer 0 ss;
  fixed = λ z. fixed_longer z ss;
  declared = declared_longer ss;
  body = body_longer ss;
}

-- ---- what stands in a `switch` of one case, part by part

module _ {A : Type 0} where
  -- of the parts of a test that holds nothing
  alone : (ts : List A) → [] ≡ ts → (xs : List A) → (ts ++ (xs ++ [])) ++ [] ≡ xs
  alone ts e xs = ap (λ r. (r ++ (xs ++ [])) ++ []) (sym e) ∙ append-nil (xs ++ []) ∙ append-nil xs

  beside : (ds ts : List A) → [] ≡ ts → (xs : List A) → ds ++ (((ts ++ (xs ++ [])) ++ []) ++ []) ≡ ds ++ xs
  beside ds ts e xs = ap (λ r. ds ++ r) (append-nil ((ts ++ (xs ++ [])) ++ []) ∙ alone ts e xs)

  -- `if (a === 1) { .. }`, with the names of the block
  in_if_after : (ds ts : List A) → [] ≡ ts → (ls xs : List A) → (ds ++ (ts ++ [])) ++ ((ls ++ (xs ++ [])) ++ []) ≡ ds ++ (ls ++ xs)
  in_if_after ds ts e ls xs = ap (λ r. (ds ++ (r ++ [])) ++ ((ls ++ (xs ++ [])) ++ [])) (sym e) ∙ (λ k. append-nil ds k ++ (append-nil (ls ++ (xs ++ [])) ∙ ap (λ r. ls ++ r) (append-nil xs)) k)

  in_if : (ds ts : List A) → [] ≡ ts → (xs : List A) → (ds ++ (ts ++ [])) ++ ((xs ++ []) ++ []) ≡ ds ++ xs
  in_if ds ts e xs = ap (λ r. (ds ++ (r ++ [])) ++ ((xs ++ []) ++ [])) (sym e) ∙ (λ k. append-nil ds k ++ (append-nil (xs ++ []) ∙ append-nil xs) k)

  -- `{ a; .. }`
  in_block : (ds xs : List A) → ((ds ++ []) ++ xs) ++ [] ≡ ds ++ xs
  in_block ds xs = append-nil ((ds ++ []) ++ xs) ∙ ap (λ r. r ++ xs) (append-nil ds)

  -- `{ a; { .. } }`, with the names of the inner block
  in_nested : (ds xs : List A) → ((ds ++ []) ++ ((xs ++ []) ++ [])) ++ [] ≡ ds ++ xs
  in_nested ds xs = append-nil ((ds ++ []) ++ ((xs ++ []) ++ [])) ∙ (λ k. append-nil ds k ++ (append-nil (xs ++ []) ∙ append-nil xs) k)

  in_nested_after : (ds ls xs : List A) → ((ds ++ []) ++ ((ls ++ (xs ++ [])) ++ [])) ++ [] ≡ ds ++ (ls ++ xs)
  in_nested_after ds ls xs = append-nil ((ds ++ []) ++ ((ls ++ (xs ++ [])) ++ [])) ∙ (λ k. append-nil ds k ++ (append-nil (ls ++ (xs ++ [])) ∙ ap (λ r. ls ++ r) (append-nil xs)) k)

or_alone : (d t x : Bool) → t ≡ false → (d || (((t || (x || false)) || false) || false)) ≡ (d || x)
or_alone true t x e = refl
or_alone false t true e = ap (λ b. (((b || true) || false) || false)) e
or_alone false t false e = ap (λ b. (((b || false) || false) || false)) e

or_if : (d t x : Bool) → t ≡ false → ((d || (t || false)) || ((x || false) || false)) ≡ (d || x)
or_if true t x e = refl
or_if false t true e = ap (λ b. ((b || false) || true)) e
or_if false t false e = ap (λ b. ((b || false) || false)) e

or_block : (d x : Bool) → (((d || false) || x) || false) ≡ (d || x)
or_block true x = refl
or_block false true = refl
or_block false false = refl

own_unplaced : (xs : List Name) → unplaced (own_declarations false [] xs) ≡ own_declarations false [] xs
own_unplaced [] = refl
own_unplaced (x ∷ xs) = ap (λ r. record { spelling = x.spelling; is_lexical = false; at = [] } ∷ r) (own_unplaced xs)

or_nested : (d x : Bool) → (((d || false) || ((x || false) || false)) || false) ≡ (d || x)
or_nested true x = refl
or_nested false true = refl
or_nested false false = refl

strict_none : (f : Fixed) → stricter f Writable ≡ f
strict_none Writable = refl
strict_none KeepsOld = refl
strict_none Constant = refl

module _ (d t : Tree) (ts ss : Trees) (blank : Blank t) (k : Shorter ts ss) where
  abbrev cases : Tree
  cases = listed (switch_case t ts ▸ none)

  abbrev n : Tree
  n = one_case d t ts

  -- names

  abbrev hoists : List Name
  hoists = all_names declared.Hoisted ss

  n_hoisted : IsQuiet d → names_of declared.Hoisted n ≡ hoists
  unfolding names_of
  n_hoisted q =
      ap (λ r. r ++ (((names_of declared.Hoisted t ++ (all_names declared.Hoisted ts ++ [])) ++ []) ++ [])) (no_names declared.Hoisted d q)
      ∙ beside [] (names_of declared.Hoisted t) (sym blank.hoisted) (all_names declared.Hoisted ts) ∙ sym k.hoisted

  -- the scope of the `switch` is the block's
  abbrev scope : List Binding
  scope = lexical_scope (all_names declared.Lexical ss)

  cases_scope : lexical_scope (lexical_names cases) ≡ scope
  unfolding names_of with_names
  cases_scope = ap lexical_scope (ap (λ r. (r ++ (all_names declared.Lexical ts ++ [])) ++ []) blank.lexical ∙ append-nil (all_names declared.Lexical ts ++ []) ∙ append-nil (all_names declared.Lexical ts) ∙ k.lexical)

  list_symbols : declared_in Read (listed ss) ≡ declared_in Read (listed ts)
  unfolding declared_in scopes_by
  list_symbols = k.symbols

  n_symbols : (u : Use) → declared_in u n ≡ declared_in Read d ++ (symbols_in scope ++ declared_in Read (listed ss))
  unfolding declared_in scopes_by
  n_symbols u =
      ap (λ bs. declared_in Read d ++ (symbols_in bs ++ (((declared_in Read t ++ (declared_from (λ j. []) (λ j. Read) 0 ts ++ [])) ++ []) ++ []))) cases_scope
      ∙ ap (λ r. declared_in Read d ++ (symbols_in scope ++ r)) (beside [] (declared_in Read t) (sym blank.symbols) (declared_from (λ j. []) (λ j. Read) 0 ts) ∙ sym k.symbols)

  n_inner : has_inner n ≡ (has_inner d || any_inner ss)
  unfolding has_inner
  n_inner = or_alone (has_inner d) (has_inner t) (any_inner ts) blank.inner ∙ ap (λ b. has_inner d || b) (sym k.inner)

  n_scoped : (u : Use) (env : Environment) → Scoped u env n → Scoped Read env d × AllScoped (λ j. []) (λ j. Read) 0 (env ++ scope) ss
  unfolding Scoped scopes_by
  n_scoped u env r =
      let a = subst (λ bs. AllScoped (at_or_empty ([] ∷ (bs ∷ []))) (use_of shape.SwitchStatement u) 0 env (d ▸ (cases ▸ none))) cases_scope r.1 in
      let same : ((((env ++ []) ++ scope) ++ []) ++ []) ++ [] ≡ env ++ scope = append-nil ((((env ++ []) ++ scope) ++ []) ++ []) ∙ append-nil (((env ++ []) ++ scope) ++ []) ∙ append-nil ((env ++ []) ++ scope) ∙ ap (λ v. v ++ scope) (append-nil env) in
      (moved Read (env ++ []) env d (append-nil env) a.0, k.scoped (env ++ scope) (subst (λ v. AllScoped (λ j. []) (λ j. Read) 0 v ts) same a.1.0.1.0.1.1.0.1))

  -- early errors

  n_once : (p : Path) → early_names p n ≡ [] → (clashing [] (in_body false p (d ▸ (cases ▸ none)) 1) ≡ []) × ((early_names (p ++ 0 ∷ []) d ≡ []) × (all_early_names (((p ++ 1 ∷ []) ++ 0 ∷ []) ++ 1 ∷ []) 0 ss ≡ []))
  unfolding early_names scope_declarations
  n_once p e =
      let place : Path = ((p ++ 1 ∷ []) ++ 0 ∷ []) ++ 1 ∷ [] in
      let inside : List Path = early_names (((p ++ 1 ∷ []) ++ 0 ∷ []) ++ 0 ∷ []) t ++ (all_early_names place 0 ts ++ []) in
      let (own, rest) = empty_both (clashing [] (in_body false p (d ▸ (cases ▸ none)) 1)) (early_names (p ++ 0 ∷ []) d ++ ((inside ++ []) ++ [])) e in
      let (first, second) = empty_both (early_names (p ++ 0 ∷ []) d) ((inside ++ []) ++ []) rest in
      let (list, end) = empty_both (inside ++ []) [] second in
      let (one, last) = empty_both inside [] list in
      let (test, items) = empty_both (early_names (((p ++ 1 ∷ []) ++ 0 ∷ []) ++ 0 ∷ []) t) (all_early_names place 0 ts ++ []) one in
      let (all, none_more) = empty_both (all_early_names place 0 ts) [] items in
      (own, (first, k.once place all))

  n_targets : (a : Targets) (p : Path) → early_jumps a p n ≡ [] → (early_jumps a (p ++ 0 ∷ []) d ≡ []) × (all_early_jumps (λ j. a) (((p ++ 1 ∷ []) ++ 0 ∷ []) ++ 1 ∷ []) 0 ss ≡ [])
  unfolding early_jumps targets_of
  n_targets a p e =
      let place : Path = ((p ++ 1 ∷ []) ++ 0 ∷ []) ++ 1 ∷ [] in
      let inside : List Path = early_jumps (record a { breaks = true }) (((p ++ 1 ∷ []) ++ 0 ∷ []) ++ 0 ∷ []) t ++ (all_early_jumps (λ j. record a { breaks = true }) place 0 ts ++ []) in
      let (first, second) = empty_both (early_jumps a (p ++ 0 ∷ []) d) ((inside ++ []) ++ []) e in
      let (list, end) = empty_both (inside ++ []) [] second in
      let (one, last) = empty_both inside [] list in
      let (test, items) = empty_both (early_jumps (record a { breaks = true }) (((p ++ 1 ∷ []) ++ 0 ∷ []) ++ 0 ∷ []) t) (all_early_jumps (λ j. record a { breaks = true }) place 0 ts ++ []) one in
      let (all, none_more) = empty_both (all_early_jumps (λ j. record a { breaks = true }) place 0 ts) [] items in
      (first, k.targets a place all)

  -- numbers, bodies, frames, what a write does

  n_numbers : numbers n ≡ numbers d ++ all_numbers ss
  unfolding numbers
  n_numbers = beside (numbers d) (numbers t) (sym blank.numbers) (all_numbers ts) ∙ ap (λ r. numbers d ++ r) (sym k.numbers)

  n_bodies : (a : Around) → bodies a n ≡ bodies (quiet a) d ++ bodies_from (λ j. quiet a) 0 ss
  n_bodies a = beside (bodies (quiet a) d) (bodies (quiet a) t) (sym (blank.bodies a)) (bodies_from (λ j. quiet a) 0 ts) ∙ ap (λ r. bodies (quiet a) d ++ r) (sym (k.bodies a))

  n_frames : frames None n ≡ frames None d ++ frames_from (λ j. None) 0 ss
  n_frames = beside (frames None d) (frames None t) (sym blank.frames) (frames_from (λ j. None) 0 ts) ∙ ap (λ r. frames None d ++ r) (sym k.frames)

  n_declared : declared_names n ≡ declared_names d ++ declared_all ss
  n_declared = beside (declared_names d) (declared_names t) (sym blank.declared) (declared_all ts) ∙ ap (λ r. declared_names d ++ r) (sym k.declared)

  n_fixed : (z : Variable) → fixed_by n z ≡ stricter (fixed_by d z) (fixed_by_any ss z)
  n_fixed z =
      of_children shape.SwitchStatement [] 0 (d ▸ (cases ▸ none)) z refl
      ∙ ap (λ f. stricter (fixed_by d z) (stricter f Writable))
      (of_children shape.Listed [] 0 (switch_case t ts ▸ none) z refl
      ∙ ap (λ f. stricter f Writable) (of_children shape.SwitchCase [] 0 (t ▸ (listed ts ▸ none)) z refl ∙ (λ i. stricter (blank.fixed z i) (stricter (of_children shape.Listed [] 0 ts z refl i) Writable)) ∙ strict_none (fixed_by_any ts z))
      ∙ strict_none (fixed_by_any ts z))
      ∙ ap (stricter (fixed_by d z)) (strict_none (fixed_by_any ts z) ∙ sym (k.fixed z))

  cases_body : as_body false cases ≡ all_as_body false ss
  cases_body = alone (as_body false t) (sym blank.body) (all_as_body false ts) ∙ sym k.body

  -- ---- `if (a === 1) { .. }`

  abbrev w : Tree
  w = if_alone (binary StrictEquality d t) (block ss)

  w_names : IsQuiet d → (o : Declared) → names_of o w ≡ names_of o n
  unfolding names_of
  w_names q declared.Bound = refl
  w_names q declared.Lexical = refl
  w_names q declared.Hoisted = append-nil (hoists ++ []) ∙ append-nil hoists ∙ sym (n_hoisted q)

  w_body : IsQuiet d → body_names w ≡ body_names n
  unfolding body_names names_of
  w_body q = w_names q declared.Hoisted

  w_inner : has_inner w ≡ has_inner n
  unfolding has_inner
  w_inner = or_if (has_inner d) (has_inner t) (any_inner ss) blank.inner ∙ sym n_inner

  block_scope : lexical_scope (lexical_names (listed ss)) ≡ scope
  unfolding names_of with_names
  block_scope = refl

  w_symbols : (u : Use) → declared_in u w ≡ declared_in Read d ++ (symbols_in scope ++ declared_in Read (listed ss))
  unfolding declared_in scopes_by
  w_symbols u =
      ap (λ bs. (declared_in Read d ++ (declared_in Read t ++ [])) ++ ((symbols_in bs ++ (declared_from (λ j. []) (λ j. Read) 0 ss ++ [])) ++ [])) block_scope
      ∙ in_if_after (declared_in Read d) (declared_in Read t) (sym blank.symbols) (symbols_in scope) (declared_from (λ j. []) (λ j. Read) 0 ss)

  w_scoped : (u : Use) (env : Environment) → Scoped u env n → Scoped u env w
  unfolding Scoped scopes_by
  w_scoped u env r =
      let (first, second) = n_scoped u env r in
      let same : env ≡ (((env ++ []) ++ []) ++ []) ++ [] = sym (append-nil (((env ++ []) ++ []) ++ []) ∙ append-nil ((env ++ []) ++ []) ∙ append-nil (env ++ []) ∙ append-nil env) in (
        tt,
        (
          (tt, (moved Read env ((env ++ []) ++ []) d (sym (append-nil (env ++ []) ∙ append-nil env)) first, (blank.scoped (((env ++ []) ++ []) ++ []), tt))),
          (
            (tt, subst (λ bs. AllScoped (at_or_empty (bs ∷ [])) (use_of shape.BlockStatement Alone) 0 ((env ++ []) ++ []) (listed ss ▸ none)) (sym block_scope) ((tt, subst (λ v. AllScoped (λ j. []) (λ j. Read) 0 (v ++ scope) ss) (sym (append-nil (env ++ []) ∙ append-nil env)) second), tt)),
            ((tt, tt), tt),
          ),
        ),
      )

  w_once : (p : Path) → early_names p n ≡ [] → early_names p w ≡ []
  unfolding early_names scope_declarations
  w_once p e =
      let (own, (first, second)) = n_once p e in
      let at : Path = (p ++ 1 ∷ []) ++ 0 ∷ [] in
      both_empty (early_names ((p ++ 0 ∷ []) ++ 0 ∷ []) d ++ (early_names ((p ++ 0 ∷ []) ++ 1 ∷ []) t ++ [])) ((clashing [] (in_body false (p ++ 1 ∷ []) (listed ss ▸ none) 0) ++ (all_early_names at 0 ss ++ [])) ++ [])
      (both_empty (early_names ((p ++ 0 ∷ []) ++ 0 ∷ []) d) (early_names ((p ++ 0 ∷ []) ++ 1 ∷ []) t ++ []) (once_anywhere (p ++ 0 ∷ []) ((p ++ 0 ∷ []) ++ 0 ∷ []) d first) (both_empty (early_names ((p ++ 0 ∷ []) ++ 1 ∷ []) t) [] (blank.once ((p ++ 0 ∷ []) ++ 1 ∷ [])) refl))
      (both_empty (clashing [] (in_body false (p ++ 1 ∷ []) (listed ss ▸ none) 0) ++ (all_early_names at 0 ss ++ [])) []
      (both_empty (clashing [] (in_body false (p ++ 1 ∷ []) (listed ss ▸ none) 0)) (all_early_names at 0 ss ++ [])
      (free_same (in_body false p (d ▸ (cases ▸ none)) 1) (in_body false (p ++ 1 ∷ []) (listed ss ▸ none) 0) (body_same false at (p ++ 1 ∷ []) cases (listed ss) (sym cases_body)) own)
      (both_empty (all_early_names at 0 ss) [] (once_anywhere (((p ++ 1 ∷ []) ++ 0 ∷ []) ++ 1 ∷ []) at (listed ss) second) refl))
      refl)

  w_targets : (a : Targets) (p : Path) → early_jumps a p n ≡ [] → early_jumps a p w ≡ []
  unfolding early_jumps targets_of
  w_targets a p e =
      let (first, second) = n_targets a p e in
      let at : Path = (p ++ 1 ∷ []) ++ 0 ∷ [] in
      both_empty (early_jumps a ((p ++ 0 ∷ []) ++ 0 ∷ []) d ++ (early_jumps a ((p ++ 0 ∷ []) ++ 1 ∷ []) t ++ [])) ((all_early_jumps (λ j. a) at 0 ss ++ []) ++ [])
      (both_empty (early_jumps a ((p ++ 0 ∷ []) ++ 0 ∷ []) d) (early_jumps a ((p ++ 0 ∷ []) ++ 1 ∷ []) t ++ []) (targets_anywhere a (p ++ 0 ∷ []) ((p ++ 0 ∷ []) ++ 0 ∷ []) d first) (both_empty (early_jumps a ((p ++ 0 ∷ []) ++ 1 ∷ []) t) [] (blank.targets a ((p ++ 0 ∷ []) ++ 1 ∷ [])) refl))
      (both_empty (all_early_jumps (λ j. a) at 0 ss ++ []) [] (both_empty (all_early_jumps (λ j. a) at 0 ss) [] (targets_anywhere a (((p ++ 1 ∷ []) ++ 0 ∷ []) ++ 1 ∷ []) at (listed ss) second) refl) refl)

  w_numbers : numbers w ≡ numbers n
  unfolding numbers
  w_numbers = in_if (numbers d) (numbers t) (sym blank.numbers) (all_numbers ss) ∙ sym n_numbers

  w_bodies : (a : Around) → bodies a w ≡ bodies a n
  w_bodies a = in_if (bodies (quiet a) d) (bodies (quiet a) t) (sym (blank.bodies a)) (bodies_from (λ j. quiet a) 0 ss) ∙ sym (n_bodies a)

  w_frames : frames None w ≡ frames None n
  w_frames = in_if (frames None d) (frames None t) (sym blank.frames) (frames_from (λ j. None) 0 ss) ∙ sym n_frames

  w_declared : declared_names w ≡ declared_names n
  w_declared = in_if (declared_names d) (declared_names t) (sym blank.declared) (declared_all ss) ∙ sym n_declared

  w_fixed : (z : Variable) → fixed_by w z ≡ fixed_by n z
  w_fixed z =
      of_if (binary StrictEquality d t) (block ss) absent z
      ∙ (λ i. stricter (of_children (shape.BinaryExpression StrictEquality) [] 0 (d ▸ (t ▸ none)) z refl i) (stricter (of_children shape.BlockStatement [] 0 (listed ss ▸ none) z refl i) (stricter (of_absent z i) Writable)))
      ∙ (λ i. stricter (stricter (fixed_by d z) (stricter (blank.fixed z i) Writable)) (stricter (stricter (of_children shape.Listed [] 0 ss z refl i) Writable) Writable))
      ∙ (λ i. stricter (strict_none (fixed_by d z) i) ((strict_none (stricter (fixed_by_any ss z) Writable) ∙ strict_none (fixed_by_any ss z)) i))
      ∙ sym (n_fixed z)

  pub case_core : IsQuiet d → Core n w
  case_core q = record {
    kept = record { names = w_names q; body = w_body q; inner = w_inner; symbols = λ u x. omega (arith, ap (times x) (w_symbols u ∙ sym (n_symbols u))) };
    scoped = w_scoped;
    numbers = λ m. omega (arith, ap (count_of m) w_numbers);
    once = w_once;
    targets = w_targets;
    loop = refl;
    bodies = λ a. subst (BodiesKept (bodies a n)) (sym (w_bodies a)) (kept_itself (bodies a n));
    frames = λ f c. subst (λ fs. Contains fs f) w_frames c;
  }

  pub case_said : Said n w
  case_said = record { fixed = λ z. sym (w_fixed z); declared = λ z c. subst (λ xs. Contains xs z) w_declared c }

  -- ---- `{ a; { .. } }`

  abbrev y : Tree
  y = block (expression_statement d ▸ (block ss ▸ none))

  y_names : IsQuiet d → (o : Declared) → names_of o y ≡ names_of o n
  unfolding names_of
  y_names q declared.Bound = refl
  y_names q declared.Lexical = refl
  y_names q declared.Hoisted = append-nil ((hoists ++ []) ++ []) ∙ append-nil (hoists ++ []) ∙ append-nil hoists ∙ sym (n_hoisted q)

  y_body : IsQuiet d → body_names y ≡ body_names n
  unfolding body_names names_of
  y_body q = y_names q declared.Hoisted

  y_inner : has_inner y ≡ has_inner n
  unfolding has_inner
  y_inner = or_nested (has_inner d) (any_inner ss) ∙ sym n_inner

  y_scope : lexical_scope (lexical_names (listed (expression_statement d ▸ (block ss ▸ none)))) ≡ []
  unfolding names_of with_names
  y_scope = refl

  y_symbols : (u : Use) → declared_in u y ≡ declared_in Read d ++ (symbols_in scope ++ declared_in Read (listed ss))
  unfolding declared_in scopes_by
  y_symbols u =
      ap (λ bs. symbols_in bs ++ (((declared_in Read d ++ []) ++ ((symbols_in (lexical_scope (lexical_names (listed ss))) ++ (declared_from (λ j. []) (λ j. Read) 0 ss ++ [])) ++ [])) ++ [])) y_scope
      ∙ ap (λ bs. ((declared_in Read d ++ []) ++ ((symbols_in bs ++ (declared_from (λ j. []) (λ j. Read) 0 ss ++ [])) ++ [])) ++ []) block_scope
      ∙ in_nested_after (declared_in Read d) (symbols_in scope) (declared_from (λ j. []) (λ j. Read) 0 ss)

  y_scoped : (u : Use) (env : Environment) → Scoped u env n → Scoped u env y
  unfolding Scoped scopes_by
  y_scoped u env r =
      let (first, second) = n_scoped u env r in
      let same : ((env ++ []) ++ []) ++ [] ≡ env = append-nil ((env ++ []) ++ []) ∙ append-nil (env ++ []) ∙ append-nil env in (
        tt,
        subst (λ bs. AllScoped (at_or_empty (bs ∷ [])) (use_of shape.BlockStatement u) 0 env (listed (expression_statement d ▸ (block ss ▸ none)) ▸ none)) (sym y_scope)
            ((
              (
                tt,
                (
                  (tt, (moved Read env (((env ++ []) ++ []) ++ []) d (sym same) first, tt)),
                  (
                    (tt, subst (λ bs. AllScoped (at_or_empty (bs ∷ [])) (use_of shape.BlockStatement Read) 0 (((env ++ []) ++ []) ++ []) (listed ss ▸ none)) (sym block_scope) ((tt, subst (λ v. AllScoped (λ j. []) (λ j. Read) 0 (v ++ scope) ss) (sym same) second), tt)),
                    tt,
                  ),
                ),
              ),
              tt,
            )),
      )

  -- only names of `var`s are declared in the outer one
  y_declares : as_body false (listed (expression_statement d ▸ (block ss ▸ none))) ≡ own_declarations false [] hoists
  unfolding names_of
  y_declares = append-nil (own_declarations false [] (hoists ++ [])) ∙ ap (own_declarations false []) (append-nil hoists)

  y_free : (p : Path) → clashing [] (in_body false p (listed (expression_statement d ▸ (block ss ▸ none)) ▸ none) 0) ≡ []
  y_free p = free_same (own_declarations false [] hoists) (in_body false p (listed (expression_statement d ▸ (block ss ▸ none)) ▸ none) 0) (body_is false (p ++ 0 ∷ []) (listed (expression_statement d ▸ (block ss ▸ none))) ∙ y_declares ∙ sym (own_unplaced hoists)) (hoisted_free [] hoists)

  y_once : (p : Path) → early_names p n ≡ [] → early_names p y ≡ []
  unfolding early_names scope_declarations
  y_once p e =
      let (own, (first, second)) = n_once p e in
      let at : Path = p ++ 0 ∷ [] in
      let within : Path = (at ++ 1 ∷ []) ++ 0 ∷ [] in
      both_empty (clashing [] (in_body false p (listed (expression_statement d ▸ (block ss ▸ none)) ▸ none) 0)) (((early_names ((at ++ 0 ∷ []) ++ 0 ∷ []) d ++ []) ++ ((clashing [] (in_body false (at ++ 1 ∷ []) (listed ss ▸ none) 0) ++ (all_early_names within 0 ss ++ [])) ++ [])) ++ [])
      (y_free p)
      (both_empty ((early_names ((at ++ 0 ∷ []) ++ 0 ∷ []) d ++ []) ++ ((clashing [] (in_body false (at ++ 1 ∷ []) (listed ss ▸ none) 0) ++ (all_early_names within 0 ss ++ [])) ++ [])) []
      (both_empty (early_names ((at ++ 0 ∷ []) ++ 0 ∷ []) d ++ []) ((clashing [] (in_body false (at ++ 1 ∷ []) (listed ss ▸ none) 0) ++ (all_early_names within 0 ss ++ [])) ++ [])
      (both_empty (early_names ((at ++ 0 ∷ []) ++ 0 ∷ []) d) [] (once_anywhere (p ++ 0 ∷ []) ((at ++ 0 ∷ []) ++ 0 ∷ []) d first) refl)
      (both_empty (clashing [] (in_body false (at ++ 1 ∷ []) (listed ss ▸ none) 0) ++ (all_early_names within 0 ss ++ [])) []
      (both_empty (clashing [] (in_body false (at ++ 1 ∷ []) (listed ss ▸ none) 0)) (all_early_names within 0 ss ++ [])
      (free_same (in_body false p (d ▸ (cases ▸ none)) 1) (in_body false (at ++ 1 ∷ []) (listed ss ▸ none) 0) (body_same false within (p ++ 1 ∷ []) cases (listed ss) (sym cases_body)) own)
      (both_empty (all_early_names within 0 ss) [] (once_anywhere (((p ++ 1 ∷ []) ++ 0 ∷ []) ++ 1 ∷ []) within (listed ss) second) refl))
      refl))
      refl)

  y_targets : (a : Targets) (p : Path) → early_jumps a p n ≡ [] → early_jumps a p y ≡ []
  unfolding early_jumps targets_of
  y_targets a p e =
      let (first, second) = n_targets a p e in
      let at : Path = p ++ 0 ∷ [] in
      let within : Path = (at ++ 1 ∷ []) ++ 0 ∷ [] in
      both_empty ((early_jumps a ((at ++ 0 ∷ []) ++ 0 ∷ []) d ++ []) ++ ((all_early_jumps (λ j. a) within 0 ss ++ []) ++ [])) []
      (both_empty (early_jumps a ((at ++ 0 ∷ []) ++ 0 ∷ []) d ++ []) ((all_early_jumps (λ j. a) within 0 ss ++ []) ++ [])
      (both_empty (early_jumps a ((at ++ 0 ∷ []) ++ 0 ∷ []) d) [] (targets_anywhere a (p ++ 0 ∷ []) ((at ++ 0 ∷ []) ++ 0 ∷ []) d first) refl)
      (both_empty (all_early_jumps (λ j. a) within 0 ss ++ []) [] (both_empty (all_early_jumps (λ j. a) within 0 ss) [] (targets_anywhere a (((p ++ 1 ∷ []) ++ 0 ∷ []) ++ 1 ∷ []) within (listed ss) second) refl) refl))
      refl

  y_numbers : numbers y ≡ numbers n
  unfolding numbers
  y_numbers = in_nested (numbers d) (all_numbers ss) ∙ sym n_numbers

  y_bodies : (a : Around) → bodies a y ≡ bodies a n
  y_bodies a = in_nested (bodies (quiet a) d) (bodies_from (λ j. quiet a) 0 ss) ∙ sym (n_bodies a)

  y_frames : frames None y ≡ frames None n
  y_frames = in_nested (frames None d) (frames_from (λ j. None) 0 ss) ∙ sym n_frames

  y_declared : declared_names y ≡ declared_names n
  y_declared = in_nested (declared_names d) (declared_all ss) ∙ sym n_declared

  y_fixed : (z : Variable) → fixed_by y z ≡ fixed_by n z
  y_fixed z =
      of_children shape.BlockStatement [] 0 (listed (expression_statement d ▸ (block ss ▸ none)) ▸ none) z refl
      ∙ strict_none (fixed_by (listed (expression_statement d ▸ (block ss ▸ none))) z)
      ∙ of_children shape.Listed [] 0 (expression_statement d ▸ (block ss ▸ none)) z refl
      ∙ (λ i. stricter (of_statement d z i) (stricter (of_children shape.BlockStatement [] 0 (listed ss ▸ none) z refl i) Writable))
      ∙ (λ i. stricter (fixed_by d z) (stricter (stricter (of_children shape.Listed [] 0 ss z refl i) Writable) Writable))
      ∙ ap (stricter (fixed_by d z)) (strict_none (stricter (fixed_by_any ss z) Writable) ∙ strict_none (fixed_by_any ss z))
      ∙ sym (n_fixed z)

  pub scoped_core : IsQuiet d → Core n y
  scoped_core q = record {
    kept = record { names = y_names q; body = y_body q; inner = y_inner; symbols = λ u x. omega (arith, ap (times x) (y_symbols u ∙ sym (n_symbols u))) };
    scoped = y_scoped;
    numbers = λ m. omega (arith, ap (count_of m) y_numbers);
    once = y_once;
    targets = y_targets;
    loop = refl;
    bodies = λ a. subst (BodiesKept (bodies a n)) (sym (y_bodies a)) (kept_itself (bodies a n));
    frames = λ f c. subst (λ fs. Contains fs f) y_frames c;
  }

  pub scoped_said : Said n y
  scoped_said = record { fixed = λ z. sym (y_fixed z); declared = λ z c. subst (λ xs. Contains xs z) y_declared c }

  module _ (left : all_names declared.Lexical ss ≡ []) where
    -- ---- `{ a; .. }`

    abbrev v : Tree
    v = block (expression_statement d ▸ ss)

    v_names : IsQuiet d → (o : Declared) → names_of o v ≡ names_of o n
    unfolding names_of
    v_names q declared.Bound = refl
    v_names q declared.Lexical = refl
    v_names q declared.Hoisted = append-nil hoists ∙ sym (n_hoisted q)

    v_body : IsQuiet d → body_names v ≡ body_names n
    unfolding body_names names_of
    v_body q = v_names q declared.Hoisted

    v_inner : has_inner v ≡ has_inner n
    unfolding has_inner
    v_inner = or_block (has_inner d) (any_inner ss) ∙ sym n_inner

    v_scope : lexical_scope (lexical_names (listed (expression_statement d ▸ ss))) ≡ []
    unfolding names_of with_names
    v_scope = ap lexical_scope left

    shifted : (i j : ℕ) (us : Trees) → declared_from (λ m. []) (λ m. Read) i us ≡ declared_from (λ m. []) (λ m. Read) j us
    unfolding declared_in
    shifted i j none = refl
    shifted i j (u ▸ us) = ap (λ r. declared_in Read u ++ r) (shifted (suc i) (suc j) us)

    no_scope : scope ≡ []
    unfolding with_names
    no_scope = ap lexical_scope left

    n_declares : (u : Use) → declared_in u n ≡ declared_in Read d ++ declared_in Read (listed ss)
    n_declares u = n_symbols u ∙ ap (λ bs. declared_in Read d ++ (symbols_in bs ++ declared_in Read (listed ss))) no_scope

    v_symbols : (u : Use) → declared_in u v ≡ declared_in Read d ++ declared_in Read (listed ss)
    unfolding declared_in scopes_by
    v_symbols u =
        ap (λ bs. symbols_in bs ++ (((declared_in Read d ++ []) ++ declared_from (λ j. []) (λ j. Read) 1 ss) ++ [])) v_scope
        ∙ in_block (declared_in Read d) (declared_from (λ j. []) (λ j. Read) 1 ss) ∙ ap (λ r. declared_in Read d ++ r) (shifted 1 0 ss)

    scoped_shifted : (i j : ℕ) (env : Environment) (us : Trees) → AllScoped (λ m. []) (λ m. Read) i env us → AllScoped (λ m. []) (λ m. Read) j env us
    unfolding Scoped
    scoped_shifted i j env none r = tt
    scoped_shifted i j env (u ▸ us) r = (r.0, scoped_shifted (suc i) (suc j) (env ++ []) us r.1)

    v_scoped : (u : Use) (env : Environment) → Scoped u env n → Scoped u env v
    unfolding Scoped scopes_by
    v_scoped u env r =
        let (first, later) = n_scoped u env r in
        let second = subst (λ bs. AllScoped (λ j. []) (λ j. Read) 0 bs ss) (ap (λ bs. env ++ bs) no_scope ∙ append-nil env) later in
        let same : ((env ++ []) ++ []) ++ [] ≡ env = append-nil ((env ++ []) ++ []) ∙ append-nil (env ++ []) ∙ append-nil env in (
          tt,
          subst (λ bs. AllScoped (at_or_empty (bs ∷ [])) (use_of shape.BlockStatement u) 0 env (listed (expression_statement d ▸ ss) ▸ none)) (sym v_scope)
              ((tt, ((tt, (moved Read env (((env ++ []) ++ []) ++ []) d (sym same) first, tt)), scoped_shifted 0 1 ((env ++ []) ++ []) ss (subst (λ x. AllScoped (λ j. []) (λ j. Read) 0 x ss) (sym (append-nil (env ++ []) ∙ append-nil env)) second))), tt),
        )

    jumps_shifted : (a : Targets) (p : Path) (i j : ℕ) (us : Trees) → all_early_jumps (λ m. a) p i us ≡ [] → all_early_jumps (λ m. a) p j us ≡ []
    unfolding early_jumps
    jumps_shifted a p i j none e = refl
    jumps_shifted a p i j (u ▸ us) e =
        let (own, rest) = empty_both (early_jumps a (p ++ i ∷ []) u) (all_early_jumps (λ m. a) p (suc i) us) e in
        both_empty (early_jumps a (p ++ j ∷ []) u) (all_early_jumps (λ m. a) p (suc j) us) (targets_anywhere a (p ++ i ∷ []) (p ++ j ∷ []) u own) (jumps_shifted a p (suc i) (suc j) us rest)

    v_declares : as_body false (listed (expression_statement d ▸ ss)) ≡ all_as_body false ss
    unfolding names_of
    v_declares = refl

    names_shifted : (p q : Path) (i j : ℕ) (us : Trees) → all_early_names p i us ≡ [] → all_early_names q j us ≡ []
    unfolding early_names
    names_shifted p q i j none e = refl
    names_shifted p q i j (u ▸ us) e =
        let (own, rest) = empty_both (early_names (p ++ i ∷ []) u) (all_early_names p (suc i) us) e in
        both_empty (early_names (q ++ j ∷ []) u) (all_early_names q (suc j) us) (once_anywhere (p ++ i ∷ []) (q ++ j ∷ []) u own) (names_shifted p q (suc i) (suc j) us rest)

    v_once : (p : Path) → early_names p n ≡ [] → early_names p v ≡ []
    unfolding early_names scope_declarations
    v_once p e =
        let (own, (first, second)) = n_once p e in
        let at : Path = p ++ 0 ∷ [] in
        both_empty (clashing [] (in_body false p (listed (expression_statement d ▸ ss) ▸ none) 0)) (((early_names ((at ++ 0 ∷ []) ++ 0 ∷ []) d ++ []) ++ all_early_names at 1 ss) ++ [])
        (free_same (in_body false p (d ▸ (cases ▸ none)) 1) (in_body false p (listed (expression_statement d ▸ ss) ▸ none) 0) (body_same false at (p ++ 1 ∷ []) cases (listed (expression_statement d ▸ ss)) (v_declares ∙ sym cases_body)) own)
        (both_empty ((early_names ((at ++ 0 ∷ []) ++ 0 ∷ []) d ++ []) ++ all_early_names at 1 ss) []
        (both_empty (early_names ((at ++ 0 ∷ []) ++ 0 ∷ []) d ++ []) (all_early_names at 1 ss) (both_empty (early_names ((at ++ 0 ∷ []) ++ 0 ∷ []) d) [] (once_anywhere (p ++ 0 ∷ []) ((at ++ 0 ∷ []) ++ 0 ∷ []) d first) refl) (names_shifted (((p ++ 1 ∷ []) ++ 0 ∷ []) ++ 1 ∷ []) at 0 1 ss second))
        refl)

    v_targets : (a : Targets) (p : Path) → early_jumps a p n ≡ [] → early_jumps a p v ≡ []
    unfolding early_jumps targets_of
    v_targets a p e =
        let (first, second) = n_targets a p e in
        let at : Path = p ++ 0 ∷ [] in
        both_empty ((early_jumps a ((at ++ 0 ∷ []) ++ 0 ∷ []) d ++ []) ++ all_early_jumps (λ j. a) at 1 ss) []
        (both_empty (early_jumps a ((at ++ 0 ∷ []) ++ 0 ∷ []) d ++ []) (all_early_jumps (λ j. a) at 1 ss) (both_empty (early_jumps a ((at ++ 0 ∷ []) ++ 0 ∷ []) d) [] (targets_anywhere a (p ++ 0 ∷ []) ((at ++ 0 ∷ []) ++ 0 ∷ []) d first) refl) (jumps_shifted a at 0 1 ss (targets_anywhere a (((p ++ 1 ∷ []) ++ 0 ∷ []) ++ 1 ∷ []) at (listed ss) second)))
        refl

    v_numbers : numbers v ≡ numbers n
    unfolding numbers
    v_numbers = in_block (numbers d) (all_numbers ss) ∙ sym n_numbers

    bodies_shifted : (a : Around) (i j : ℕ) (us : Trees) → bodies_from (λ m. quiet a) i us ≡ bodies_from (λ m. quiet a) j us
    bodies_shifted a i j none = refl
    bodies_shifted a i j (u ▸ us) = ap (λ r. bodies (quiet a) u ++ r) (bodies_shifted a (suc i) (suc j) us)

    v_bodies : (a : Around) → bodies a v ≡ bodies a n
    v_bodies a = in_block (bodies (quiet a) d) (bodies_from (λ j. quiet a) 1 ss) ∙ ap (λ r. bodies (quiet a) d ++ r) (bodies_shifted a 1 0 ss) ∙ sym (n_bodies a)

    frames_shifted : (i j : ℕ) (us : Trees) → frames_from (λ m. None) i us ≡ frames_from (λ m. None) j us
    frames_shifted i j none = refl
    frames_shifted i j (u ▸ us) = ap (λ r. frames None u ++ r) (frames_shifted (suc i) (suc j) us)

    v_frames : frames None v ≡ frames None n
    v_frames = in_block (frames None d) (frames_from (λ j. None) 1 ss) ∙ ap (λ r. frames None d ++ r) (frames_shifted 1 0 ss) ∙ sym n_frames

    v_declared : declared_names v ≡ declared_names n
    v_declared = in_block (declared_names d) (declared_all ss) ∙ sym n_declared

    v_fixed : (z : Variable) → fixed_by v z ≡ fixed_by n z
    v_fixed z =
        of_children shape.BlockStatement [] 0 (listed (expression_statement d ▸ ss) ▸ none) z refl
        ∙ strict_none (fixed_by (listed (expression_statement d ▸ ss)) z)
        ∙ of_children shape.Listed [] 0 (expression_statement d ▸ ss) z refl
        ∙ ap (λ f. stricter f (fixed_by_any ss z)) (of_statement d z)
        ∙ sym (n_fixed z)

    pub default_core : IsQuiet d → Core n v
    default_core q = record {
      kept = record { names = v_names q; body = v_body q; inner = v_inner; symbols = λ u x. omega (arith, ap (times x) (v_symbols u ∙ sym (n_declares u))) };
      scoped = v_scoped;
      numbers = λ m. omega (arith, ap (count_of m) v_numbers);
      once = v_once;
      targets = v_targets;
      loop = refl;
      bodies = λ a. subst (BodiesKept (bodies a n)) (sym (v_bodies a)) (kept_itself (bodies a n));
      frames = λ f c. subst (λ fs. Contains fs f) v_frames c;
    }

    pub default_said : Said n v
    default_said = record { fixed = λ z. sym (v_fixed z); declared = λ z c. subst (λ xs. Contains xs z) v_declared c }

-- ---- the rows

module _ (d : Tree) (b : Bool) (ss : Trees) (s : breaks_out (listed ss) ≡ false) where
  pub case_is_kept : (f : PlainForm) → IsQuiet d → Core (one_case d (plain f) (ended b ss)) (if_alone (binary StrictEquality d (plain f)) (block ss))
  case_is_kept f q = case_core d (plain f) (ended b ss) ss (blank_plain f) (shorter b ss s) q

  pub case_says : (f : PlainForm) → Said (one_case d (plain f) (ended b ss)) (if_alone (binary StrictEquality d (plain f)) (block ss))
  case_says f = case_said d (plain f) (ended b ss) ss (blank_plain f) (shorter b ss s)

  pub case_bodies : (f : PlainForm) (a : Around) → bodies a (one_case d (plain f) (ended b ss)) ≡ bodies a (if_alone (binary StrictEquality d (plain f)) (block ss))
  case_bodies f a = sym (w_bodies d (plain f) (ended b ss) ss (blank_plain f) (shorter b ss s) a)

  pub case_frames : (f : PlainForm) → frames None (one_case d (plain f) (ended b ss)) ≡ frames None (if_alone (binary StrictEquality d (plain f)) (block ss))
  case_frames f = sym (w_frames d (plain f) (ended b ss) ss (blank_plain f) (shorter b ss s))

  pub default_is_kept : are_unscoped ss ≡ true → IsQuiet d → Core (one_case d absent (ended b ss)) (block (expression_statement d ▸ ss))
  default_is_kept u q = default_core d absent (ended b ss) ss blank_absent (shorter b ss s) (no_lexicals ss u) q

  pub default_says : are_unscoped ss ≡ true → Said (one_case d absent (ended b ss)) (block (expression_statement d ▸ ss))
  default_says u = default_said d absent (ended b ss) ss blank_absent (shorter b ss s) (no_lexicals ss u)

  pub scoped_is_kept : IsQuiet d → Core (one_case d absent (ended b ss)) (block (expression_statement d ▸ (block ss ▸ none)))
  scoped_is_kept q = scoped_core d absent (ended b ss) ss blank_absent (shorter b ss s) q

  pub scoped_says : Said (one_case d absent (ended b ss)) (block (expression_statement d ▸ (block ss ▸ none)))
  scoped_says = scoped_said d absent (ended b ss) ss blank_absent (shorter b ss s)

-- A body that begins by leaving the loop has what its test has, and what the rest of it has.
use Rattle.std.specs.Prelude.{ℕ, ◌+◌, ◌≤◌, ◌≡◌, refl, ◌||◌, Bool, true, false, List, [], ◌∷◌, ◌++◌, Contains, Option, None}
use Rattle.std.proofs.Common.{ap, ◌∙◌, sym, subst, arith, append_assoc}
use Rattle.std.proofs.lemmas.List.{append-nil}
use Rattle.std.proofs.lemmas.Bool.{and_parts}
use Rattle.mini_model.specs.declared.name.SymbolId.{SymbolId}
use Rattle.mini_model.specs.declared.shape.Shape.TheVariants as shape
use Rattle.mini_model.specs.Tree.{Tree, Trees, none, ◌▸◌, listed, absent, empty_statement, if_else}
use Rattle.mini_laws.specs.declared.names.Binding.{Binding}
use Rattle.mini_laws.specs.declared.names.Use.TheVariants.{Read, Alone}
use Rattle.mini_laws.specs.declared.names.Declared.TheVariants as declared
use Rattle.mini_laws.specs.declared.names.Targets.{Targets}
use Rattle.mini_laws.specs.DeclaredNames.{names_of, all_names, with_names, has_inner, any_inner}
use Rattle.mini_laws.specs.Scopes.{lexical_scope, scopes_by}
use Rattle.mini_laws.specs.Resolved.{Environment}
use Rattle.mini_laws.specs.Scoped.{Scoped, AllScoped}
use Rattle.mini_laws.specs.Symbols.{symbols_in, declared as declared_in, declared_from, times}
use Rattle.mini_laws.specs.Early.{Path, in_body, own_declarations, scope_declarations, clashing, early_names, all_early_names, targets_of, early_jumps, all_early_jumps}
use Rattle.mini_laws.specs.Value.{Variable}
use Rattle.mini_laws.specs.State.{Fixed, Writable, Constant, KeepsOld}
use Rattle.mini_laws.specs.Fixity.{stricter, fixed_by, fixed_by_any}
use Rattle.mini_laws.specs.Bodies.{Around, bodies, bodies_from}
use Rattle.mini_laws.proofs.Changes.{times_both}
use Rattle.mini_laws.proofs.Drops.{moved}
use Rattle.mini_kept.specs.AlikeBodies.{BodiesKept}
use Rattle.mini_kept.specs.Carried.{numbers as numbers_of, all_numbers}
use Rattle.mini_kept.specs.Declaring.{declared as declared_names, declared_all}
use Rattle.mini_kept.specs.Frames.{frames, frames_from, FramesKept}
use Rattle.mini_kept.specs.KeepsNames.{count_of}
use Rattle.mini_kept.proofs.Anywhere.{once_anywhere, targets_anywhere}
use Rattle.mini_kept.proofs.Below.{both_counts, empty_both, both_empty}
use Rattle.mini_kept.proofs.BodyLists.{kept_itself, kept_on, each_of as each_body}
use Rattle.mini_kept.proofs.Fixed.{of_children, of_if}
use Rattle.mini_kept.proofs.FrameLists.{same_frames, each_of as each_frame}
use Rattle.mini_kept.proofs.Quiet.{IsQuiet, no_names}
use Rattle.mini_kept.proofs.Unplaced.{all_as_body, body_same, free_same}
use Rattle.mini_rows.specs.Lists.{block, is_unscoped, are_unscoped}
use Rattle.mini_rows.specs.Loops.{bare_break, Leaving, alone, or_else, unless, leaves_by, runs_on, is_loose, Leading, whole, before, led, others_of}
use Rattle.mini_rows.proofs.BodyEnds.{Idle, break_idle, absent_idle, emptied}
use Rattle.mini_rows.proofs.BranchAround.{Among, first_among, later_among}
use Rattle.mini_rows.proofs.BranchInside.{quiet, Inside, no_lexical, same_scoped, as_hoisted}
use Rattle.mini_rows.proofs.StatementUses.{same_symbols}

-- ---- flags, and what a write does

pub or_nothing : (b : Bool) → (b || false) ≡ b
or_nothing true = refl
or_nothing false = refl

or_three : (a b c : Bool) → (((a || b) || c) || false) ≡ (a || ((b || c) || false))
or_three true b c = refl
or_three false b c = refl

pub alone_fixed : (f : Fixed) → stricter f Writable ≡ f
alone_fixed Writable = refl
alone_fixed KeepsOld = refl
alone_fixed Constant = refl

pub fixed_assoc : (f g h : Fixed) → stricter (stricter f g) h ≡ stricter f (stricter g h)
fixed_assoc Writable g h = refl
fixed_assoc KeepsOld Writable h = refl
fixed_assoc KeepsOld KeepsOld Writable = refl
fixed_assoc KeepsOld KeepsOld KeepsOld = refl
fixed_assoc KeepsOld KeepsOld Constant = refl
fixed_assoc KeepsOld Constant h = refl
fixed_assoc Constant g h = refl

-- ---- what b has is what x has and what c has

pub record Splits (b x c : Tree) : Type 0 where
  pub hoisted : names_of declared.Hoisted b ≡ names_of declared.Hoisted c
  pub inner : has_inner b ≡ (has_inner x || has_inner c)
  pub symbols : (v : Option SymbolId) → times v (declared_in Read x) + times v (declared_in Alone c) ≤ times v (declared_in Alone b)
  pub scoped : (env : Environment) → Scoped Alone env b → Scoped Read env x × Scoped Alone env c
  pub numbers : (k : ℕ) → count_of k (numbers_of x) + count_of k (numbers_of c) ≤ count_of k (numbers_of b)
  pub once : (q : Path) → early_names q b ≡ [] → (early_names q x ≡ []) × (early_names q c ≡ [])
  pub targets : (g : Targets) (q : Path) → early_jumps g q b ≡ [] → (early_jumps g q x ≡ []) × (early_jumps g q c ≡ [])
  pub bodies : (a : Around) → BodiesKept (bodies (quiet a) b) (bodies (quiet a) x ++ bodies (quiet a) c)
  pub frames : FramesKept (frames None b) (frames None x ++ frames None c)

-- and wherever it stands
pub record Said (b x c : Tree) : Type 0 where
  pub fixed : (z : Variable) → fixed_by b z ≡ stricter (fixed_by x z) (fixed_by c z)
  pub declared : Among (declared_names b) (declared_names x ++ declared_names c)

splits_then : (b x c d : Tree) → Splits b x c → Inside c d → Splits b x d
splits_then b x c d s i = record {
  hoisted = s.hoisted ∙ sym (i.kept.names declared.Hoisted);
  inner = s.inner ∙ ap (λ f. has_inner x || f) (sym i.kept.inner);
  symbols = λ v. omega (arith, s.symbols v, i.kept.symbols Alone v);
  scoped = λ env r. let (p, q) = s.scoped env r in (p, i.scoped env q);
  numbers = λ k. omega (arith, s.numbers k, i.numbers k);
  once = λ q e. let (p, r) = s.once q e in (p, i.once q r);
  targets = λ g q e. let (p, r) = s.targets g q e in (p, i.targets g q r);
  bodies = λ a. kept_on (bodies (quiet a) b) (bodies (quiet a) x ++ bodies (quiet a) c) (bodies (quiet a) x ++ bodies (quiet a) d) (s.bodies a) (each_body (bodies (quiet a) x) (bodies (quiet a) c) (bodies (quiet a) x) (bodies (quiet a) d) (kept_itself (bodies (quiet a) x)) (i.bodies a));
  frames = λ f m. s.frames f (each_frame (frames None x) (frames None c) (frames None x) (frames None d) (λ f m. m) i.frames f m);
}

said_then : (b x c d : Tree) → Said b x c → Inside c d → Said b x d
said_then b x c d s i = record { fixed = λ z. s.fixed z ∙ ap (stricter (fixed_by x z)) (i.fixed z); declared = λ z m. s.declared z (later_among (declared_names x) (declared_names c) (declared_names d) i.declared z m) }

-- ---- an `if`, one of whose branches holds nothing

module _ (x p s : Tree) (i : Idle p) where
  -- `if (x) break; else s`
  or_hoisted : IsQuiet x → names_of declared.Hoisted (if_else x p s) ≡ names_of declared.Hoisted s
  unfolding names_of
  or_hoisted q =
      ap (λ xs. xs ++ (names_of declared.Hoisted p ++ (names_of declared.Hoisted s ++ []))) (no_names declared.Hoisted x q)
      ∙ ap (λ xs. xs ++ (names_of declared.Hoisted s ++ [])) (i.names declared.Hoisted)
      ∙ append-nil (names_of declared.Hoisted s)

  or_inner : has_inner (if_else x p s) ≡ (has_inner x || has_inner s)
  unfolding has_inner
  or_inner = ap (λ b. has_inner x || (b || (has_inner s || false))) i.inner ∙ ap (λ b. has_inner x || b) (or_nothing (has_inner s))

  or_symbols : (v : Option SymbolId) → times v (declared_in Read x) + times v (declared_in Alone s) ≤ times v (declared_in Alone (if_else x p s))
  unfolding declared_in scopes_by
  or_symbols v =
      omega (
        arith,
        times_both v (declared_in Read x) (declared_in Alone p ++ (declared_in Alone s ++ [])),
        times_both v (declared_in Alone p) (declared_in Alone s ++ []),
        times_both v (declared_in Alone s) [],
      )

  or_scoped : (env : Environment) → Scoped Alone env (if_else x p s) → Scoped Read env x × Scoped Alone env s
  unfolding Scoped scopes_by
  or_scoped env r = (moved Read (env ++ []) env x (append-nil env) r.1.0, moved Alone (((env ++ []) ++ []) ++ []) env s (append-nil ((env ++ []) ++ []) ∙ append-nil (env ++ []) ∙ append-nil env) r.1.1.1.0)

  or_numbers : (k : ℕ) → count_of k (numbers_of x) + count_of k (numbers_of s) ≤ count_of k (numbers_of (if_else x p s))
  unfolding numbers_of
  or_numbers k = omega (arith, both_counts k (numbers_of x) (numbers_of p ++ (numbers_of s ++ [])), both_counts k (numbers_of p) (numbers_of s ++ []), both_counts k (numbers_of s) [])

  or_once : (q : Path) → early_names q (if_else x p s) ≡ [] → (early_names q x ≡ []) × (early_names q s ≡ [])
  unfolding early_names scope_declarations
  or_once q e =
      let (a, f) = empty_both (early_names (q ++ 0 ∷ []) x) (early_names (q ++ 1 ∷ []) p ++ (early_names (q ++ 2 ∷ []) s ++ [])) e in
      let (b, g) = empty_both (early_names (q ++ 1 ∷ []) p) (early_names (q ++ 2 ∷ []) s ++ []) f in
      let (c, h) = empty_both (early_names (q ++ 2 ∷ []) s) [] g in
      (once_anywhere (q ++ 0 ∷ []) q x a, once_anywhere (q ++ 2 ∷ []) q s c)

  or_targets : (g : Targets) (q : Path) → early_jumps g q (if_else x p s) ≡ [] → (early_jumps g q x ≡ []) × (early_jumps g q s ≡ [])
  unfolding early_jumps targets_of
  or_targets g q e =
      let (a, f) = empty_both (early_jumps g (q ++ 0 ∷ []) x) (early_jumps g (q ++ 1 ∷ []) p ++ (early_jumps g (q ++ 2 ∷ []) s ++ [])) e in
      let (b, h) = empty_both (early_jumps g (q ++ 1 ∷ []) p) (early_jumps g (q ++ 2 ∷ []) s ++ []) f in
      let (c, k) = empty_both (early_jumps g (q ++ 2 ∷ []) s) [] h in
      (targets_anywhere g (q ++ 0 ∷ []) q x a, targets_anywhere g (q ++ 2 ∷ []) q s c)

  or_bodies : (a : Around) → bodies (quiet a) (if_else x p s) ≡ bodies (quiet a) x ++ bodies (quiet a) s
  or_bodies a = ap (λ bs. bodies (quiet a) x ++ (bs ++ (bodies (quiet a) s ++ []))) (i.bodies (quiet a)) ∙ ap (λ bs. bodies (quiet a) x ++ bs) (append-nil (bodies (quiet a) s))

  or_frames : frames None (if_else x p s) ≡ frames None x ++ frames None s
  or_frames = ap (λ fs. frames None x ++ (fs ++ (frames None s ++ []))) (i.frames None) ∙ ap (λ fs. frames None x ++ fs) (append-nil (frames None s))

  or_declared : declared_names (if_else x p s) ≡ declared_names x ++ declared_names s
  or_declared = ap (λ xs. declared_names x ++ (xs ++ (declared_names s ++ []))) i.declared ∙ ap (λ xs. declared_names x ++ xs) (append-nil (declared_names s))

  or_fixed : (z : Variable) → fixed_by (if_else x p s) z ≡ stricter (fixed_by x z) (fixed_by s z)
  or_fixed z = of_if x p s z ∙ ap (λ f. stricter (fixed_by x z) (stricter f (stricter (fixed_by s z) Writable))) (i.fixed z) ∙ ap (stricter (fixed_by x z)) (alone_fixed (fixed_by s z))

  or_splits : IsQuiet x → Splits (if_else x p s) x s
  or_splits q = record {
    hoisted = or_hoisted q;
    inner = or_inner;
    symbols = or_symbols;
    scoped = or_scoped;
    numbers = or_numbers;
    once = or_once;
    targets = or_targets;
    bodies = λ a. subst (BodiesKept (bodies (quiet a) (if_else x p s))) (or_bodies a) (kept_itself (bodies (quiet a) (if_else x p s)));
    frames = same_frames (frames None (if_else x p s)) (frames None x ++ frames None s) or_frames;
  }

  or_said : Said (if_else x p s) x s
  or_said = record { fixed = or_fixed; declared = λ z m. subst (λ xs. Contains xs z) (sym or_declared) m }

  -- `if (x) s; else break;`
  un_hoisted : IsQuiet x → names_of declared.Hoisted (if_else x s p) ≡ names_of declared.Hoisted s
  unfolding names_of
  un_hoisted q =
      ap (λ xs. xs ++ (names_of declared.Hoisted s ++ (names_of declared.Hoisted p ++ []))) (no_names declared.Hoisted x q)
      ∙ ap (λ xs. names_of declared.Hoisted s ++ (xs ++ [])) (i.names declared.Hoisted)
      ∙ append-nil (names_of declared.Hoisted s)

  un_inner : has_inner (if_else x s p) ≡ (has_inner x || has_inner s)
  unfolding has_inner
  un_inner = ap (λ b. has_inner x || (has_inner s || (b || false))) i.inner ∙ ap (λ b. has_inner x || b) (or_nothing (has_inner s))

  un_symbols : (v : Option SymbolId) → times v (declared_in Read x) + times v (declared_in Alone s) ≤ times v (declared_in Alone (if_else x s p))
  unfolding declared_in scopes_by
  un_symbols v = omega (arith, times_both v (declared_in Read x) (declared_in Alone s ++ (declared_in Alone p ++ [])), times_both v (declared_in Alone s) (declared_in Alone p ++ []))

  un_scoped : (env : Environment) → Scoped Alone env (if_else x s p) → Scoped Read env x × Scoped Alone env s
  unfolding Scoped scopes_by
  un_scoped env r = (moved Read (env ++ []) env x (append-nil env) r.1.0, moved Alone ((env ++ []) ++ []) env s (append-nil (env ++ []) ∙ append-nil env) r.1.1.0)

  un_numbers : (k : ℕ) → count_of k (numbers_of x) + count_of k (numbers_of s) ≤ count_of k (numbers_of (if_else x s p))
  unfolding numbers_of
  un_numbers k = omega (arith, both_counts k (numbers_of x) (numbers_of s ++ (numbers_of p ++ [])), both_counts k (numbers_of s) (numbers_of p ++ []))

  un_once : (q : Path) → early_names q (if_else x s p) ≡ [] → (early_names q x ≡ []) × (early_names q s ≡ [])
  unfolding early_names scope_declarations
  un_once q e =
      let (a, f) = empty_both (early_names (q ++ 0 ∷ []) x) (early_names (q ++ 1 ∷ []) s ++ (early_names (q ++ 2 ∷ []) p ++ [])) e in
      let (b, g) = empty_both (early_names (q ++ 1 ∷ []) s) (early_names (q ++ 2 ∷ []) p ++ []) f in
      (once_anywhere (q ++ 0 ∷ []) q x a, once_anywhere (q ++ 1 ∷ []) q s b)

  un_targets : (g : Targets) (q : Path) → early_jumps g q (if_else x s p) ≡ [] → (early_jumps g q x ≡ []) × (early_jumps g q s ≡ [])
  unfolding early_jumps targets_of
  un_targets g q e =
      let (a, f) = empty_both (early_jumps g (q ++ 0 ∷ []) x) (early_jumps g (q ++ 1 ∷ []) s ++ (early_jumps g (q ++ 2 ∷ []) p ++ [])) e in
      let (b, h) = empty_both (early_jumps g (q ++ 1 ∷ []) s) (early_jumps g (q ++ 2 ∷ []) p ++ []) f in
      (targets_anywhere g (q ++ 0 ∷ []) q x a, targets_anywhere g (q ++ 1 ∷ []) q s b)

  un_bodies : (a : Around) → bodies (quiet a) (if_else x s p) ≡ bodies (quiet a) x ++ bodies (quiet a) s
  un_bodies a = ap (λ bs. bodies (quiet a) x ++ (bodies (quiet a) s ++ (bs ++ []))) (i.bodies (quiet a)) ∙ ap (λ bs. bodies (quiet a) x ++ bs) (append-nil (bodies (quiet a) s))

  un_frames : frames None (if_else x s p) ≡ frames None x ++ frames None s
  un_frames = ap (λ fs. frames None x ++ (frames None s ++ (fs ++ []))) (i.frames None) ∙ ap (λ fs. frames None x ++ fs) (append-nil (frames None s))

  un_declared : declared_names (if_else x s p) ≡ declared_names x ++ declared_names s
  un_declared = ap (λ xs. declared_names x ++ (declared_names s ++ (xs ++ []))) i.declared ∙ ap (λ xs. declared_names x ++ xs) (append-nil (declared_names s))

  un_fixed : (z : Variable) → fixed_by (if_else x s p) z ≡ stricter (fixed_by x z) (fixed_by s z)
  un_fixed z = of_if x s p z ∙ ap (λ f. stricter (fixed_by x z) (stricter (fixed_by s z) (stricter f Writable))) (i.fixed z) ∙ ap (stricter (fixed_by x z)) (alone_fixed (fixed_by s z))

  un_splits : IsQuiet x → Splits (if_else x s p) x s
  un_splits q = record {
    hoisted = un_hoisted q;
    inner = un_inner;
    symbols = un_symbols;
    scoped = un_scoped;
    numbers = un_numbers;
    once = un_once;
    targets = un_targets;
    bodies = λ a. subst (BodiesKept (bodies (quiet a) (if_else x s p))) (un_bodies a) (kept_itself (bodies (quiet a) (if_else x s p)));
    frames = same_frames (frames None (if_else x s p)) (frames None x ++ frames None s) un_frames;
  }

  un_said : Said (if_else x s p) x s
  un_said = record { fixed = un_fixed; declared = λ z m. subst (λ xs. Contains xs z) (sym un_declared) m }

leaves_split : (l : Leaving) (x : Tree) → IsQuiet x → Splits (leaves_by l x) x (runs_on l)
leaves_split alone x q = splits_then (if_else x bare_break absent) x absent empty_statement (or_splits x bare_break absent break_idle q) (emptied absent absent_idle)
leaves_split (or_else s) x q = or_splits x bare_break s break_idle q
leaves_split (unless s) x q = un_splits x bare_break s break_idle q

leaves_said : (l : Leaving) (x : Tree) → Said (leaves_by l x) x (runs_on l)
leaves_said alone x = said_then (if_else x bare_break absent) x absent empty_statement (or_said x bare_break absent break_idle) (emptied absent absent_idle)
leaves_said (or_else s) x = or_said x bare_break s break_idle
leaves_said (unless s) x = un_said x bare_break s break_idle

-- ---- a block that begins so

-- the scope of the other statements
abbrev pub scope_of : Trees → List Binding
scope_of ts = lexical_scope (all_names declared.Lexical ts)

all_lexical : (ts : Trees) → are_unscoped ts ≡ true → all_names declared.Lexical ts ≡ []
unfolding names_of
all_lexical none h = refl
all_lexical (t ▸ ts) h = let (one, others) = and_parts (is_unscoped t) (are_unscoped ts) h in (λ k. no_lexical t one k ++ all_lexical ts others k)

no_scope : (ts : Trees) → are_unscoped ts ≡ true → scope_of ts ≡ []
unfolding names_of with_names
no_scope ts h = ap lexical_scope (all_lexical ts h)

-- a test that has its names without that scope too
abbrev pub Free : Tree → Trees → Type 0
Free x ts = (env : Environment) → Scoped Read (env ++ scope_of ts) x → Scoped Read env x

abbrev pub FreeOf : Tree → Leading → Type 0
FreeOf x whole = Unit {0}
FreeOf x (before ts) = Free x ts

unscoped_free : (x : Tree) (ts : Trees) → are_unscoped ts ≡ true → Free x ts
unscoped_free x ts h env r = moved Read (env ++ scope_of ts) env x (ap (λ bs. env ++ bs) (no_scope ts h) ∙ append-nil env) r

pub free_of : (x : Tree) (d : Leading) → are_unscoped (others_of d) ≡ true → FreeOf x d
free_of x whole h = tt
free_of x (before ts) h = unscoped_free x ts h

module _ (t x s : Tree) (ts : Trees) where
  abbrev B : Tree → Tree
  B c = block (c ▸ ts)

  in_bodies : (a : Around) → BodiesKept (bodies (quiet a) t) (bodies (quiet a) x ++ bodies (quiet a) s) → BodiesKept (bodies (quiet a) (B t)) (bodies (quiet a) x ++ bodies (quiet a) (B s))
  in_bodies a h =
      let bt = bodies (quiet a) t in
      let bx = bodies (quiet a) x in
      let bs = bodies (quiet a) s in
      let rest = bodies_from (λ n. quiet a) 1 ts in
      subst (λ ks. BodiesKept ks (bx ++ ((bs ++ rest) ++ []))) (sym (append-nil (bt ++ rest)))
      (subst (BodiesKept (bt ++ rest)) (append_assoc bx bs rest ∙ ap (λ r. bx ++ r) (sym (append-nil (bs ++ rest)))) (each_body bt rest (bx ++ bs) rest h (kept_itself rest)))

  in_frames : FramesKept (frames None t) (frames None x ++ frames None s) → FramesKept (frames None (B t)) (frames None x ++ frames None (B s))
  in_frames h =
      let ft = frames None t in
      let fx = frames None x in
      let fs = frames None s in
      let rest = frames_from (λ n. None) 1 ts in
      subst (λ ks. FramesKept ks (fx ++ ((fs ++ rest) ++ []))) (sym (append-nil (ft ++ rest)))
      (subst (FramesKept (ft ++ rest)) (append_assoc fx fs rest ∙ ap (λ r. fx ++ r) (sym (append-nil (fs ++ rest)))) (each_frame ft rest (fx ++ fs) rest h (λ f m. m)))

  module _ (u : is_unscoped t ≡ true) (v : is_unscoped s ≡ true) (free : Free x ts) (i : Splits t x s) where
    in_hoisted : names_of declared.Hoisted (B t) ≡ names_of declared.Hoisted (B s)
    unfolding names_of
    in_hoisted = ap (λ xs. (xs ++ all_names declared.Hoisted ts) ++ []) i.hoisted

    in_inner : has_inner (B t) ≡ (has_inner x || has_inner (B s))
    unfolding has_inner
    in_inner = ap (λ b. (b || any_inner ts) || false) i.inner ∙ or_three (has_inner x) (has_inner s) (any_inner ts)

    abbrev later : List (Option SymbolId)
    later = declared_from (λ n. []) (λ n. Read) 1 ts

    scope_is : (c : Tree) → is_unscoped c ≡ true → lexical_scope (names_of declared.Lexical (listed (c ▸ ts))) ≡ scope_of ts
    unfolding names_of
    scope_is c h = ap (λ ns. lexical_scope (ns ++ all_names declared.Lexical ts)) (no_lexical c h)

    is_declared : (c : Tree) → is_unscoped c ≡ true → declared_in Alone (B c) ≡ symbols_in (scope_of ts) ++ ((declared_in Read c ++ later) ++ [])
    unfolding declared_in scopes_by
    is_declared c h = ap (λ bs. symbols_in bs ++ ((declared_in Read c ++ later) ++ [])) (scope_is c h)

    sum_declared : (c : Tree) → is_unscoped c ≡ true → (y : Option SymbolId) → times y (declared_in Alone (B c)) ≡ times y (symbols_in (scope_of ts)) + (times y (declared_in Alone c) + times y later)
    sum_declared c h y =
        omega (arith, ap (times y) (is_declared c h), times_both y (symbols_in (scope_of ts)) ((declared_in Read c ++ later) ++ []), times_both y (declared_in Read c ++ later) [], times_both y (declared_in Read c) later, ap (times y) (same_symbols c h Read Alone))

    in_symbols : (y : Option SymbolId) → times y (declared_in Read x) + times y (declared_in Alone (B s)) ≤ times y (declared_in Alone (B t))
    in_symbols y = omega (arith, sum_declared t u y, sum_declared s v y, i.symbols y)

    same_env : (c : Tree) → is_unscoped c ≡ true → (env : Environment) → (env ++ lexical_scope (names_of declared.Lexical (listed (c ▸ ts)))) ++ [] ≡ env ++ scope_of ts
    same_env c h env = append-nil (env ++ lexical_scope (names_of declared.Lexical (listed (c ▸ ts)))) ∙ ap (λ bs. env ++ bs) (scope_is c h)

    in_scoped : (env : Environment) → Scoped Alone env (B t) → Scoped Read env x × Scoped Alone env (B s)
    unfolding Scoped scopes_by
    in_scoped env r =
        let inner : Environment = env ++ scope_of ts in
        let first = subst (λ X. X) (sym (same_scoped t u inner)) (moved Read ((env ++ lexical_scope (names_of declared.Lexical (listed (t ▸ ts)))) ++ []) inner t (same_env t u env) r.1.0.1.0) in
        let (test, rest) = i.scoped inner first in (
          free env test,
          (
            tt,
            (
              (
                tt,
                (
                  moved Read inner ((env ++ lexical_scope (names_of declared.Lexical (listed (s ▸ ts)))) ++ []) s (sym (same_env s v env)) (subst (λ X. X) (same_scoped s v inner) rest),
                  subst (λ e. AllScoped (λ n. []) (λ n. Read) 1 e ts) (same_env t u env ∙ sym (same_env s v env)) r.1.0.1.1,
                ),
              ),
              tt,
            ),
          ),
        )

    in_numbers : (k : ℕ) → count_of k (numbers_of x) + count_of k (numbers_of (B s)) ≤ count_of k (numbers_of (B t))
    unfolding numbers_of
    in_numbers k =
        omega (
          arith,
          i.numbers k,
          both_counts k (numbers_of t ++ all_numbers ts) [],
          both_counts k (numbers_of t) (all_numbers ts),
          both_counts k (numbers_of s ++ all_numbers ts) [],
          both_counts k (numbers_of s) (all_numbers ts),
        )

    same_body : (q : Path) → clashing [] (in_body false q (listed (t ▸ ts) ▸ none) 0) ≡ [] → clashing [] (in_body false q (listed (s ▸ ts) ▸ none) 0) ≡ []
    same_body q e =
        free_same (in_body false q (listed (t ▸ ts) ▸ none) 0) (in_body false q (listed (s ▸ ts) ▸ none) 0)
        (body_same false (q ++ 0 ∷ []) (q ++ 0 ∷ []) (listed (t ▸ ts)) (listed (s ▸ ts)) (ap (λ ds. ds ++ all_as_body false ts) (as_hoisted s v ∙ ap (own_declarations false []) (sym i.hoisted) ∙ sym (as_hoisted t u)))) e

    in_once : (q : Path) → early_names q (B t) ≡ [] → (early_names q x ≡ []) × (early_names q (B s) ≡ [])
    unfolding early_names scope_declarations
    in_once q e =
        let p : Path = (q ++ 0 ∷ []) ++ 0 ∷ [] in
        let (own, f) = empty_both (clashing [] (in_body false q (listed (t ▸ ts) ▸ none) 0)) ((early_names p t ++ all_early_names (q ++ 0 ∷ []) 1 ts) ++ []) e in
        let (g, h) = empty_both (early_names p t ++ all_early_names (q ++ 0 ∷ []) 1 ts) [] f in
        let (k, l) = empty_both (early_names p t) (all_early_names (q ++ 0 ∷ []) 1 ts) g in
        let (a, b) = i.once p k in (
          once_anywhere p q x a,
          both_empty (clashing [] (in_body false q (listed (s ▸ ts) ▸ none) 0)) ((early_names p s ++ all_early_names (q ++ 0 ∷ []) 1 ts) ++ []) (same_body q own)
              (both_empty (early_names p s ++ all_early_names (q ++ 0 ∷ []) 1 ts) [] (both_empty (early_names p s) (all_early_names (q ++ 0 ∷ []) 1 ts) b l) refl),
        )

    in_targets : (g : Targets) (q : Path) → early_jumps g q (B t) ≡ [] → (early_jumps g q x ≡ []) × (early_jumps g q (B s) ≡ [])
    unfolding early_jumps targets_of
    in_targets g q e =
        let p : Path = (q ++ 0 ∷ []) ++ 0 ∷ [] in
        let (f, h) = empty_both (early_jumps g p t ++ all_early_jumps (λ n. g) (q ++ 0 ∷ []) 1 ts) [] e in
        let (k, l) = empty_both (early_jumps g p t) (all_early_jumps (λ n. g) (q ++ 0 ∷ []) 1 ts) f in
        let (a, b) = i.targets g p k in
        (targets_anywhere g p q x a, both_empty (early_jumps g p s ++ all_early_jumps (λ n. g) (q ++ 0 ∷ []) 1 ts) [] (both_empty (early_jumps g p s) (all_early_jumps (λ n. g) (q ++ 0 ∷ []) 1 ts) b l) refl)

    block_splits : Splits (B t) x (B s)
    block_splits = record { hoisted = in_hoisted; inner = in_inner; symbols = in_symbols; scoped = in_scoped; numbers = in_numbers; once = in_once; targets = in_targets; bodies = λ a. in_bodies a (i.bodies a); frames = in_frames i.frames }

  module _ (i : Said t x s) where
    list_fixed : (c : Tree) (z : Variable) → fixed_by (B c) z ≡ stricter (fixed_by c z) (fixed_by_any ts z)
    list_fixed c z = of_children shape.BlockStatement [] 0 (listed (c ▸ ts) ▸ none) z refl ∙ alone_fixed (fixed_by (listed (c ▸ ts)) z) ∙ of_children shape.Listed [] 0 (c ▸ ts) z refl

    in_fixed : (z : Variable) → fixed_by (B t) z ≡ stricter (fixed_by x z) (fixed_by (B s) z)
    in_fixed z = list_fixed t z ∙ ap (λ f. stricter f (fixed_by_any ts z)) (i.fixed z) ∙ fixed_assoc (fixed_by x z) (fixed_by s z) (fixed_by_any ts z) ∙ ap (stricter (fixed_by x z)) (sym (list_fixed s z))

    in_declared : Among (declared_names (B t)) (declared_names x ++ declared_names (B s))
    in_declared z m =
        let dt = declared_names t in
        let dx = declared_names x in
        let ds = declared_names s in
        let rest = declared_all ts in
        subst (λ xs. Contains xs z) (sym (append-nil (dt ++ rest)))
        (first_among dt (dx ++ ds) rest i.declared z (subst (λ xs. Contains xs z) (sym (append_assoc dx ds rest ∙ ap (λ r. dx ++ r) (sym (append-nil (ds ++ rest))))) m))

    block_said : Said (B t) x (B s)
    block_said = record { fixed = in_fixed; declared = in_declared }

leaves_unscoped : (l : Leaving) (x : Tree) → is_unscoped (leaves_by l x) ≡ true
leaves_unscoped alone x = refl
leaves_unscoped (or_else s) x = refl
leaves_unscoped (unless s) x = refl

pub body_splits : (d : Leading) (l : Leaving) (x : Tree) → FreeOf x d → is_loose l ≡ true → IsQuiet x → Splits (led d (leaves_by l x)) x (led d (runs_on l))
body_splits whole l x f h q = leaves_split l x q
body_splits (before ts) l x f h q = block_splits (leaves_by l x) x (runs_on l) ts (leaves_unscoped l x) h f (leaves_split l x q)

pub body_said : (d : Leading) (l : Leaving) (x : Tree) → Said (led d (leaves_by l x)) x (led d (runs_on l))
body_said whole l x = leaves_said l x
body_said (before ts) l x = block_said (leaves_by l x) x (runs_on l) ts (leaves_said l x)

-- ---- bodies and frames alone

leaves_bodies : (l : Leaving) (x : Tree) (a : Around) → BodiesKept (bodies (quiet a) (leaves_by l x)) (bodies (quiet a) x ++ bodies (quiet a) (runs_on l))
leaves_bodies alone x a = subst (BodiesKept (bodies (quiet a) (leaves_by alone x))) (or_bodies x bare_break absent break_idle a) (kept_itself (bodies (quiet a) (leaves_by alone x)))
leaves_bodies (or_else s) x a = subst (BodiesKept (bodies (quiet a) (leaves_by (or_else s) x))) (or_bodies x bare_break s break_idle a) (kept_itself (bodies (quiet a) (leaves_by (or_else s) x)))
leaves_bodies (unless s) x a = subst (BodiesKept (bodies (quiet a) (leaves_by (unless s) x))) (un_bodies x bare_break s break_idle a) (kept_itself (bodies (quiet a) (leaves_by (unless s) x)))

leaves_frames : (l : Leaving) (x : Tree) → FramesKept (frames None (leaves_by l x)) (frames None x ++ frames None (runs_on l))
leaves_frames alone x = same_frames (frames None (leaves_by alone x)) (frames None x ++ []) (or_frames x bare_break absent break_idle)
leaves_frames (or_else s) x = same_frames (frames None (leaves_by (or_else s) x)) (frames None x ++ frames None s) (or_frames x bare_break s break_idle)
leaves_frames (unless s) x = same_frames (frames None (leaves_by (unless s) x)) (frames None x ++ frames None s) (un_frames x bare_break s break_idle)

pub body_bodies : (d : Leading) (l : Leaving) (x : Tree) (a : Around) → BodiesKept (bodies (quiet a) (led d (leaves_by l x))) (bodies (quiet a) x ++ bodies (quiet a) (led d (runs_on l)))
body_bodies whole l x a = leaves_bodies l x a
body_bodies (before ts) l x a = in_bodies (leaves_by l x) x (runs_on l) ts a (leaves_bodies l x a)

pub body_frames : (d : Leading) (l : Leaving) (x : Tree) → FramesKept (frames None (led d (leaves_by l x))) (frames None x ++ frames None (led d (runs_on l)))
body_frames whole l x = leaves_frames l x
body_frames (before ts) l x = in_frames (leaves_by l x) x (runs_on l) ts (leaves_frames l x)

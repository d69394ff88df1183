-- What a node on the way to a `var` further inside a body keeps where that goes.
use Rattle.std.specs.Prelude.{ℕ, suc, ◌≤◌, ◌≡◌, refl, ◌||◌, ◌&&◌, not, Bool, true, false, List, [], ◌∷◌, ◌++◌, Option, Some, None, if◌then◌else◌}
use Rattle.std.proofs.Common.{ap, ◌∙◌, sym, subst, arith, append_assoc, true≢false}
use Rattle.mini_model.specs.declared.kind.PropertyKind.{PropertyKind}
use Rattle.mini_model.specs.declared.name.Name.{Name}
use Rattle.mini_model.specs.declared.name.SymbolId.{SymbolId}
use Rattle.mini_model.specs.declared.shape.Shape.TheVariants as shape
use Rattle.mini_model.specs.Tree.{Tree, Trees, none, ◌▸◌, shape_of, child_or_absent, is_absent}
use Rattle.mini_accept.specs.WellShaped.{Depth, nested, a_statement as statement_class, a_block, a_case as case_class, a_catch as catch_class, an_expression, an_init, a_label, a_loop_left, a_pattern, Slot, one, one_or_absent, many, these, each, is_whole, fits, fill}
use Rattle.mini_laws.specs.declared.names.Binding.{Binding}
use Rattle.mini_laws.specs.declared.names.Declared.TheVariants as declared
use Rattle.mini_laws.specs.declared.names.Targets.{Targets}
use Rattle.mini_laws.specs.declared.names.Use.{Use}
use Rattle.mini_laws.specs.Bodies.{Around, Body, below, bodies, bodies_from}
use Rattle.mini_laws.specs.DeclaredNames.{names_of, all_names, is_inner, has_inner, any_inner}
use Rattle.mini_laws.specs.Early.{Path, own_declarations, scope_declarations, clashing, early_names, all_early_names, targets_of, turned, turn_of, label_by, is_bad_jump, is_bad, jump_of, early_jumps, all_early_jumps, is_loop}
use Rattle.mini_laws.specs.declared.names.Turn.{Turn}
use Rattle.mini_laws.specs.declared.names.Turn.TheVariants as turn
use Rattle.mini_laws.specs.Fixity.{fixed_by, fixed_by_any}
use Rattle.mini_laws.specs.Path.{join}
use Rattle.mini_laws.specs.Resolved.{Environment}
use Rattle.mini_laws.specs.Scoped.{OwnScoped, Scoped, AllScoped, Unmentioned, AllUnmentioned}
use Rattle.mini_laws.specs.Scopes.{use_of, opened, at_or_empty}
use Rattle.mini_laws.specs.Symbols.{symbols_in, declared as declared_in, declared_from, times}
use Rattle.mini_laws.specs.Value.{Variable, variable_eq, variable_of}
use Rattle.mini_laws.proofs.Changes.{times_three}
use Rattle.mini_kept.specs.AlikeBodies.{BodiesKept}
use Rattle.mini_kept.specs.Carried.{numbers, all_numbers}
use Rattle.mini_kept.specs.Declaring.{declared as names_declared, declared_all}
use Rattle.mini_kept.specs.Frames.{Frame, frames, frames_from, outline, globals, property_below, FramesKept}
use Rattle.mini_kept.specs.KeepsNames.{count_of}
use Rattle.mini_kept.specs.SameNames.{NoMoreClash}
use Rattle.mini_kept.proofs.Anywhere.{once_anywhere, targets_anywhere}
use Rattle.mini_kept.proofs.Below.{both_counts, empty_both, both_empty}
use Rattle.mini_kept.proofs.BodyLists.{both_of as both_bodies}
use Rattle.mini_kept.proofs.Bools.{left, right, both}
use Rattle.mini_kept.proofs.Clashes.{still_free}
use Rattle.mini_kept.proofs.Expressions.{refused_here}
use Rattle.mini_kept.proofs.Fixed.{of_children}
use Rattle.mini_kept.proofs.FrameLists.{both_of as both_frames}
use Rattle.mini_kept.proofs.Unplaced.{as_body}
use Rattle.mini_rows.specs.declared.inside.Way.{Way}
use Rattle.mini_rows.specs.declared.inside.Way.TheVariants as way
use Rattle.mini_rows.specs.Unused.{resolved, any_names}
use Rattle.mini_rows.specs.Sketches.{AsWhole}
use Rattle.mini_rows.proofs.ArrangedBodies.{quiet, split_bodies, split_frames, Among, split_names, both_names, rank, FixedBy, fixed_below, below_fixed}
use Rattle.mini_rows.proofs.Arranging.{Below}
use Rattle.mini_rows.proofs.InsideStages.{Stage, Braces, Then, Else, While, Doing, For, ForIn, ForOf, Labeled, Tried, Caught, Finally, Switched, Items, Cases, Case, Handler, Heading, from, to, head, before, over, joined_all, hoists, lexical, scopes, behind, Fine, fine, writes, frameless, propertyless, bodyless, around, undeclaring, same_label, same_label_for, loops, hoisted_less, BlockLess, scope_less, body_less, block_less}
use Rattle.mini_rows.proofs.UnusedNames.{Other, other_both, all_unmentioned, all_other}

-- ---- where it stands

unnamed : (g : Stage) (u : Use) (env : Environment) (ts : Trees) → OwnScoped u env (head g) [] ts
unnamed Braces u env ts = tt
unnamed g u env ts = tt

-- what it fills: a statement may have to be a block, and may be missing
abbrev pub statement_slot : Bool → Bool → Depth → Slot
statement_slot false false o = one (statement_class o)
statement_slot false true o = one_or_absent (statement_class o)
statement_slot true false o = one a_block
statement_slot true true o = one_or_absent a_block

abbrev pub slot : Way → Bool → Bool → Depth → Slot
slot way.Statement b m o = statement_slot b m o
slot way.Held b m o = statement_slot b m o
slot way.Statements b m o = many (statement_class o)
slot way.Cases b m o = many case_class
slot way.Case b m o = one case_class
slot way.Catch b m o = one_or_absent catch_class
slot way.Head b m o = one_or_absent an_init

-- ---- what is kept

pub record Keeping (s : List ℕ) (k : ℕ) (w : Way) (t u : Tree) : Type 0 where
  pub label : label_by (shape_of u) ≡ label_by (shape_of t)
  -- what a `for` begins with may go
  pub missing : (w ≡ way.Head → ⊥) → is_absent u ≡ is_absent t
  pub lexical : names_of declared.Lexical u ≡ names_of declared.Lexical t
  pub first : List Name
  pub last : List Name
  pub hoisted : names_of declared.Hoisted t ≡ first ++ resolved s k ∷ last
  pub left : names_of declared.Hoisted u ≡ first ++ last
  pub others_first : Other (resolved s k) first
  pub others_last : Other (resolved s k) last
  pub loop : is_loop u ≡ is_loop t
  pub inner : has_inner u ≡ has_inner t
  pub scoped : (v : Use) (env : Environment) → Fine w v → Scoped v env t → Scoped v env u
  pub unmentioned : Unmentioned (record { name = resolved s k; hoists = false }) u
  pub symbols : (v : Use) (y : Option SymbolId) → Fine w v → times y (declared_in v u) ≤ times y (declared_in v t)
  pub numbered : (n : ℕ) → count_of n (numbers u) ≤ count_of n (numbers t)
  pub once : early_names [] t ≡ [] → early_names [] u ≡ []
  pub targets : (g : Targets) → early_jumps g [] t ≡ [] → early_jumps g [] u ≡ []
  pub framed : (all : List Frame) → FramesKept all (frames None t) → FramesKept all (frames None u)
  pub bodied : (all : List Body) (a : Around) → BodiesKept all (bodies (quiet a) t) → BodiesKept all (bodies (quiet a) u)
  pub fixed : (y : Variable) (j : ℕ) → rank (fixed_by t y) ≤ j → rank (fixed_by u y) ≤ j
  pub fixed_back : (y : Variable) (j : ℕ) → variable_eq (variable_of (resolved s k)) y ≡ false → rank (fixed_by u y) ≤ j → rank (fixed_by t y) ≤ j
  pub declares : (all : List Name) → Among all (names_declared t) → Among all (names_declared u)
  pub clash : (o : Bool) → NoMoreClash (as_body o u) (as_body o t)
  pub block : w ≡ way.Statement → BlockLess t u
  pub fits_there : (strict b m : Bool) (o : Depth) → fits strict (slot w b m o) t ≡ true → fits strict (slot w b m o) u ≡ true

-- ---- what some children keep, of which one does

-- what the child at the place fills
abbrev stands : List Slot → Trees → Option Slot
stands [] pre = None
stands (s ∷ ss) none = Some s
stands (s ∷ ss) (t ▸ pre) = stands ss pre

abbrev slot_in : Slot → Option Slot → Slot
slot_in s None = s
slot_in s (Some r) = r

module _ (c d : Tree) (post : Trees) where
  joined_inner : has_inner d ≡ has_inner c → (pre : Trees) → any_inner (join pre d post) ≡ any_inner (join pre c post)
  unfolding has_inner
  joined_inner e none = ap (λ b. b || any_inner post) e
  joined_inner e (t ▸ pre) = ap (λ b. has_inner t || b) (joined_inner e pre)

  joined_scoped : (scope : ℕ → List Binding) (uses : ℕ → Use) (i : ℕ) (env : Environment) (pre : Trees) → ((e : Environment) → Scoped (uses (behind i pre)) e c → Scoped (uses (behind i pre)) e d) → AllScoped scope uses i env (join pre c post) → AllScoped scope uses i env (join pre d post)
  unfolding Scoped
  joined_scoped scope uses i env none f a = (f (env ++ scope i) a.0, a.1)
  joined_scoped scope uses i env (t ▸ pre) f a = (a.0, joined_scoped scope uses (suc i) (env ++ scope i) pre f a.1)

  joined_unmentioned : (b : Binding) (pre : Trees) → AllUnmentioned b pre → AllUnmentioned b post → Unmentioned b d → AllUnmentioned b (join pre d post)
  unfolding Unmentioned
  joined_unmentioned b none p q r = (r, q)
  joined_unmentioned b (t ▸ pre) p q r = (p.0, joined_unmentioned b pre p.1 q r)

  joined_symbols : (y : Option SymbolId) (scope : ℕ → List Binding) (uses : ℕ → Use) (i : ℕ) (pre : Trees) → times y (declared_in (uses (behind i pre)) d) ≤ times y (declared_in (uses (behind i pre)) c) → times y (declared_from scope uses i (join pre d post)) ≤ times y (declared_from scope uses i (join pre c post))
  unfolding declared_in
  joined_symbols y scope uses i none e = omega (arith, e, times_three y (symbols_in (scope i)) (declared_in (uses i) d) (declared_from scope uses (suc i) post), times_three y (symbols_in (scope i)) (declared_in (uses i) c) (declared_from scope uses (suc i) post))
  joined_symbols y scope uses i (t ▸ pre) e =
      omega (
        arith,
        joined_symbols y scope uses (suc i) pre e,
        times_three y (symbols_in (scope i)) (declared_in (uses i) t) (declared_from scope uses (suc i) (join pre d post)),
        times_three y (symbols_in (scope i)) (declared_in (uses i) t) (declared_from scope uses (suc i) (join pre c post)),
      )

  joined_numbers : (n : ℕ) (pre : Trees) → count_of n (numbers d) ≤ count_of n (numbers c) → count_of n (all_numbers (join pre d post)) ≤ count_of n (all_numbers (join pre c post))
  unfolding numbers
  joined_numbers n none e = omega (arith, e, both_counts n (numbers d) (all_numbers post), both_counts n (numbers c) (all_numbers post))
  joined_numbers n (t ▸ pre) e = omega (arith, joined_numbers n pre e, both_counts n (numbers t) (all_numbers (join pre d post)), both_counts n (numbers t) (all_numbers (join pre c post)))

  joined_once : (p : Path) (i : ℕ) (pre : Trees) → (early_names [] c ≡ [] → early_names [] d ≡ []) → all_early_names p i (join pre c post) ≡ [] → all_early_names p i (join pre d post) ≡ []
  unfolding early_names
  joined_once p i none f e =
      let (x, y) = empty_both (early_names (p ++ i ∷ []) c) (all_early_names p (suc i) post) e in
      both_empty (early_names (p ++ i ∷ []) d) (all_early_names p (suc i) post) (once_anywhere [] (p ++ i ∷ []) d (f (once_anywhere (p ++ i ∷ []) [] c x))) y
  joined_once p i (t ▸ pre) f e =
      let (x, y) = empty_both (early_names (p ++ i ∷ []) t) (all_early_names p (suc i) (join pre c post)) e in
      both_empty (early_names (p ++ i ∷ []) t) (all_early_names p (suc i) (join pre d post)) x (joined_once p (suc i) pre f y)

  joined_jumps : (targets : ℕ → Targets) (p : Path) (i : ℕ) (pre : Trees) → ((g : Targets) → early_jumps g [] c ≡ [] → early_jumps g [] d ≡ []) → all_early_jumps targets p i (join pre c post) ≡ [] → all_early_jumps targets p i (join pre d post) ≡ []
  unfolding early_jumps
  joined_jumps targets p i none f e =
      let (x, y) = empty_both (early_jumps (targets i) (p ++ i ∷ []) c) (all_early_jumps targets p (suc i) post) e in
      both_empty (early_jumps (targets i) (p ++ i ∷ []) d) (all_early_jumps targets p (suc i) post) (targets_anywhere (targets i) [] (p ++ i ∷ []) d (f (targets i) (targets_anywhere (targets i) (p ++ i ∷ []) [] c x))) y
  joined_jumps targets p i (t ▸ pre) f e =
      let (x, y) = empty_both (early_jumps (targets i) (p ++ i ∷ []) t) (all_early_jumps targets p (suc i) (join pre c post)) e in
      both_empty (early_jumps (targets i) (p ++ i ∷ []) t) (all_early_jumps targets p (suc i) (join pre d post)) x (joined_jumps targets p (suc i) pre f y)

  joined_frames : (all : List Frame) (kind : ℕ → Option PropertyKind) → ((j : ℕ) → kind j ≡ None) → (i : ℕ) (pre : Trees) → (FramesKept all (frames None c) → FramesKept all (frames None d)) → FramesKept all (frames_from kind i (join pre c post)) → FramesKept all (frames_from kind i (join pre d post))
  joined_frames all kind z i none f k =
      let (x, y) = split_frames all (frames (kind i) c) (frames_from kind (suc i) post) k in
      both_frames all (frames (kind i) d) (frames_from kind (suc i) post) (subst (λ r. FramesKept all (frames r d)) (sym (z i)) (f (subst (λ r. FramesKept all (frames r c)) (z i) x))) y
  joined_frames all kind z i (t ▸ pre) f k =
      let (x, y) = split_frames all (frames (kind i) t) (frames_from kind (suc i) (join pre c post)) k in
      both_frames all (frames (kind i) t) (frames_from kind (suc i) (join pre d post)) x (joined_frames all kind z (suc i) pre f y)

  joined_bodies : (all : List Body) (a : Around) (aside : ℕ → Around) → ((j : ℕ) → aside j ≡ quiet a) → (i : ℕ) (pre : Trees) → (BodiesKept all (bodies (quiet a) c) → BodiesKept all (bodies (quiet a) d)) → BodiesKept all (bodies_from aside i (join pre c post)) → BodiesKept all (bodies_from aside i (join pre d post))
  joined_bodies all a aside z i none f k =
      let (x, y) = split_bodies all (bodies (aside i) c) (bodies_from aside (suc i) post) k in
      both_bodies all (bodies (aside i) d) (bodies_from aside (suc i) post) (subst (λ r. BodiesKept all (bodies r d)) (sym (z i)) (f (subst (λ r. BodiesKept all (bodies r c)) (z i) x))) y
  joined_bodies all a aside z i (t ▸ pre) f k =
      let (x, y) = split_bodies all (bodies (aside i) t) (bodies_from aside (suc i) (join pre c post)) k in
      both_bodies all (bodies (aside i) t) (bodies_from aside (suc i) (join pre d post)) x (joined_bodies all a aside z (suc i) pre f y)

  joined_declares : (all : List Name) (pre : Trees) → (Among all (names_declared c) → Among all (names_declared d)) → Among all (declared_all (join pre c post)) → Among all (declared_all (join pre d post))
  joined_declares all none f k = let (x, y) = split_names all (names_declared c) (declared_all post) k in both_names all (names_declared d) (declared_all post) (f x) y
  joined_declares all (t ▸ pre) f k = let (x, y) = split_names all (names_declared t) (declared_all (join pre c post)) k in both_names all (names_declared t) (declared_all (join pre d post)) x (joined_declares all pre f y)

  joined_fill : (strict : Bool) (ss : List Slot) (pre : Trees) (s : Slot) → stands ss pre ≡ Some s → (fits strict s c ≡ true → fits strict s d ≡ true) → fill strict (these ss) (join pre c post) ≡ true → fill strict (these ss) (join pre d post) ≡ true
  joined_fill strict [] none s q f e = absurd (true≢false (sym e))
  joined_fill strict [] (t ▸ pre) s q f e = absurd (true≢false (sym e))
  joined_fill strict (r ∷ ss) none s q f e =
      let same : r ≡ s = ap (slot_in s) q in
      both (fits strict r d) (fill strict (these ss) post) (subst (λ z. fits strict z d ≡ true) (sym same) (f (subst (λ z. fits strict z c ≡ true) same (left (fits strict r c) (fill strict (these ss) post) e)))) (right (fits strict r c) (fill strict (these ss) post) e)
  joined_fill strict (r ∷ ss) (t ▸ pre) s q f e =
      both (fits strict r t) (fill strict (these ss) (join pre d post)) (left (fits strict r t) (fill strict (these ss) (join pre c post)) e) (joined_fill strict ss pre s q f (right (fits strict r t) (fill strict (these ss) (join pre c post)) e))

  joined_each : (strict : Bool) (s : Slot) (pre : Trees) → (fits strict s c ≡ true → fits strict s d ≡ true) → fill strict (each s) (join pre c post) ≡ true → fill strict (each s) (join pre d post) ≡ true
  joined_each strict s none f e = both (fits strict s d) (fill strict (each s) post) (f (left (fits strict s c) (fill strict (each s) post) e)) (right (fits strict s c) (fill strict (each s) post) e)
  joined_each strict s (t ▸ pre) f e =
      both (fits strict s t) (fill strict (each s) (join pre d post)) (left (fits strict s t) (fill strict (each s) (join pre c post)) e) (joined_each strict s pre f (right (fits strict s t) (fill strict (each s) (join pre c post)) e))

  joined_fixed : (y : Variable) (j : ℕ) (pre : Trees) → (rank (fixed_by c y) ≤ j → rank (fixed_by d y) ≤ j) → rank (fixed_by_any (join pre c post) y) ≤ j → rank (fixed_by_any (join pre d post) y) ≤ j
  joined_fixed y j pre f e = below_fixed y j (λ i. AsWhole) 0 (join pre d post) (among 0 pre (fixed_below y j (λ i. AsWhole) 0 (join pre c post) e))
    where
      among : (i : ℕ) (pre : Trees) → Below (FixedBy y j) (λ i. AsWhole) i (join pre c post) → Below (FixedBy y j) (λ i. AsWhole) i (join pre d post)
      among i none b = (f b.0, b.1)
      among i (t ▸ pre) b = (b.0, among (suc i) pre b.1)

-- ---- what the node above them keeps

module _ (c d : Tree) (post : Trees) (s : List ℕ) (k : ℕ) (g : Stage) (kept : Keeping s k (to g) c d) where
  abbrev x : Name
  x = resolved s k

  abbrev ts : Trees
  ts = join (before g) c post

  abbrev us : Trees
  us = join (before g) d post

  abbrev hidden : Binding
  hidden = record { name = x; hoists = false }

  abbrev first_names : List Name
  first_names = all_names declared.Hoisted (before g) ++ kept.first

  abbrev last_names : List Name
  last_names = kept.last ++ all_names declared.Hoisted post

  hoisted_there : (t : Tree) (ys zs : List Name) → names_of declared.Hoisted t ≡ ys ++ zs → all_names declared.Hoisted (join (before g) t post) ≡ (all_names declared.Hoisted (before g) ++ ys) ++ (zs ++ all_names declared.Hoisted post)
  hoisted_there t ys zs e =
      let f = all_names declared.Hoisted (before g) in
      let l = all_names declared.Hoisted post in
      joined_all declared.Hoisted (before g) t post ∙ ap (λ vs. f ++ (vs ++ l)) e ∙ ap (λ vs. f ++ vs) (append_assoc ys zs l) ∙ sym (append_assoc f ys (zs ++ l))

  with_it : all_names declared.Hoisted ts ≡ first_names ++ x ∷ last_names
  with_it = hoisted_there c kept.first (x ∷ kept.last) kept.hoisted

  without_it : all_names declared.Hoisted us ≡ first_names ++ last_names
  without_it = hoisted_there d kept.first kept.last kept.left

  child_less : NoMoreClash (own_declarations false [] (names_of declared.Hoisted d)) (own_declarations false [] (names_of declared.Hoisted c))
  child_less =
      subst (NoMoreClash (own_declarations false [] (names_of declared.Hoisted d))) (ap (own_declarations false []) (sym kept.hoisted))
      (subst (λ es. NoMoreClash es (own_declarations false [] (kept.first ++ x ∷ kept.last))) (ap (own_declarations false []) (sym kept.left)) (hoisted_less x kept.first kept.last))

  all_less : NoMoreClash (own_declarations false [] (all_names declared.Hoisted us)) (own_declarations false [] (all_names declared.Hoisted ts))
  all_less =
      subst (NoMoreClash (own_declarations false [] (all_names declared.Hoisted us))) (ap (own_declarations false []) (sym with_it))
      (subst (λ es. NoMoreClash es (own_declarations false [] (first_names ++ x ∷ last_names))) (ap (own_declarations false []) (sym without_it)) (hoisted_less x first_names last_names))

  same_inner : has_inner (over g d post) ≡ has_inner (over g c post)
  unfolding has_inner
  same_inner = ap (λ b. is_inner (head g) || b) (joined_inner c d post kept.inner (before g))

  still_scoped : (v : Use) (env : Environment) → Fine (from g) v → Scoped v env (over g c post) → Scoped v env (over g d post)
  unfolding Scoped
  still_scoped v env f a =
      let uses = use_of (head g) v in
      (unnamed g v env us, joined_scoped c d post (opened v (head g) us) uses 0 env (before g) (λ e. kept.scoped (uses (behind 0 (before g))) e (fine g v f)) (subst (λ ss. AllScoped (at_or_empty ss) uses 0 env ts) (sym (scopes g v c d post kept.lexical)) a.1))

  fewer_symbols : (v : Use) (y : Option SymbolId) → Fine (from g) v → times y (declared_in v (over g d post)) ≤ times y (declared_in v (over g c post))
  unfolding declared_in
  fewer_symbols v y f =
      let uses = use_of (head g) v in
      let less = joined_symbols c d post y (opened v (head g) us) uses 0 (before g) (kept.symbols (uses (behind 0 (before g))) y (fine g v f)) in
      let same = ap (λ ss. times y (declared_from (at_or_empty ss) uses 0 ts)) (scopes g v c d post kept.lexical) in
      omega (arith, less, same)

  fewer_numbers : (n : ℕ) → count_of n (numbers (over g d post)) ≤ count_of n (numbers (over g c post))
  unfolding numbers
  fewer_numbers n = joined_numbers c d post n (before g) (kept.numbered n)

  once_there : early_names [] (over g c post) ≡ [] → early_names [] (over g d post) ≡ []
  unfolding early_names
  once_there e =
      let (a, b) = empty_both (clashing [] (scope_declarations (head g) [] ts)) (all_early_names [] 0 ts) e in
      both_empty (clashing [] (scope_declarations (head g) [] us)) (all_early_names [] 0 us)
      (still_free (scope_declarations (head g) [] ts) (scope_declarations (head g) [] us) (scope_less g c d post kept.lexical (kept.clash false) kept.block child_less) a)
      (joined_once c d post [] 0 (before g) kept.once b)

  turned_same : (r : Turn) (a : Targets) → turned r us a ≡ turned r ts a
  turned_same turn.Same a = refl
  turned_same turn.InLoop a = refl
  turned_same turn.InSwitch a = refl
  turned_same turn.Labeled a = ap (λ l. record a { labels = a.labels ++ l ∷ [] }) (same_label_for (before g) c d post kept.label kept.loop)
  turned_same (turn.InFunction y) a = refl
  turned_same turn.Outside a = refl

  same_bad : (a : Targets) → is_bad_jump (head g) us a ≡ is_bad_jump (head g) ts a
  same_bad a = ap (λ l. is_bad (jump_of (head g)) l a) (same_label (before g) c d post kept.label)

  abbrev bad : Bool → List Path
  bad b = if b then [] ∷ [] else []

  targets_there : (a : Targets) → early_jumps a [] (over g c post) ≡ [] → early_jumps a [] (over g d post) ≡ []
  unfolding early_jumps targets_of
  targets_there a e =
      let (x, y) = empty_both (bad (is_bad_jump (head g) ts a)) (all_early_jumps (targets_of (head g) ts a) [] 0 ts) e in
      both_empty (bad (is_bad_jump (head g) us a)) (all_early_jumps (targets_of (head g) us a) [] 0 us) (ap bad (same_bad a) ∙ x) (moved [] 0 us (joined_jumps c d post (targets_of (head g) ts a) [] 0 (before g) kept.targets y))
    where
      moved : (p : Path) (i : ℕ) (vs : Trees) → all_early_jumps (targets_of (head g) ts a) p i vs ≡ [] → all_early_jumps (targets_of (head g) us a) p i vs ≡ []
      moved p i none e = refl
      moved p i (v ▸ vs) e =
          let (y, z) = empty_both (early_jumps (targets_of (head g) ts a i) (p ++ i ∷ []) v) (all_early_jumps (targets_of (head g) ts a) p (suc i) vs) e in
          both_empty (early_jumps (targets_of (head g) us a i) (p ++ i ∷ []) v) (all_early_jumps (targets_of (head g) us a) p (suc i) vs) (ap (λ r. early_jumps r (p ++ i ∷ []) v) (turned_same (turn_of (head g) i) a) ∙ y) (moved p (suc i) vs z)

  frames_there : (all : List Frame) → FramesKept all (frames None (over g c post)) → FramesKept all (frames None (over g d post))
  frames_there all q =
      let rest = frames_from (property_below (head g)) 0 in
      subst (λ fs. FramesKept all (fs ++ rest us)) (sym (frameless g (outline (head g) [] 0 us) (globals (head g) us)))
      (joined_frames c d post all (property_below (head g)) (propertyless g) 0 (before g) (kept.framed all) (subst (λ fs. FramesKept all (fs ++ rest ts)) (frameless g (outline (head g) [] 0 ts) (globals (head g) ts)) q))

  bodies_there : (all : List Body) (a : Around) → BodiesKept all (bodies (quiet a) (over g c post)) → BodiesKept all (bodies (quiet a) (over g d post))
  bodies_there all a q =
      let rest = λ (vs : Trees). bodies_from (below (quiet a) (head g) vs) 0 vs in
      subst (λ bs. BodiesKept all (bs ++ rest us)) (sym (bodyless g (quiet a) (over g d post) us))
      (settled us (joined_bodies c d post all a (λ i. quiet a) (λ i. refl) 0 (before g) (kept.bodied all a) (unsettled ts (subst (λ bs. BodiesKept all (bs ++ rest ts)) (bodyless g (quiet a) (over g c post) ts) q))))
    where
      alike : (aside : ℕ → Around) → ((j : ℕ) → aside j ≡ quiet a) → (i : ℕ) (vs : Trees) → bodies_from aside i vs ≡ bodies_from (λ j. quiet a) i vs
      alike aside z i none = refl
      alike aside z i (v ▸ vs) = λ n. bodies (z i n) v ++ alike aside z (suc i) vs n

      settled : (vs : Trees) → BodiesKept all (bodies_from (λ j. quiet a) 0 vs) → BodiesKept all (bodies_from (below (quiet a) (head g) vs) 0 vs)
      settled vs = subst (BodiesKept all) (sym (alike (below (quiet a) (head g) vs) (around g a vs) 0 vs))

      unsettled : (vs : Trees) → BodiesKept all (bodies_from (below (quiet a) (head g) vs) 0 vs) → BodiesKept all (bodies_from (λ j. quiet a) 0 vs)
      unsettled vs = subst (BodiesKept all) (alike (below (quiet a) (head g) vs) (around g a vs) 0 vs)

  declares_there : (all : List Name) → Among all (names_declared (over g c post)) → Among all (names_declared (over g d post))
  declares_there all q =
      subst (λ xs. Among all (xs ++ declared_all us)) (sym (undeclaring g)) (joined_declares c d post all (before g) (kept.declares all) (subst (λ xs. Among all (xs ++ declared_all ts)) (undeclaring g) q))

  -- ---- where it may stand

  -- a statement is no more than one that may be missing
  named : (m : Bool) (b : Bool) (o : Depth) (strict : Bool) (post : Trees) (t : Tree) → fits strict (slot (from g) b m o) (over g t post) ≡ fits strict (slot (from g) b false o) (over g t post)
  named false b o strict post t = refl
  named true b o strict post t = by g b
    where
      by : (g : Stage) (b : Bool) → fits strict (slot (from g) b true o) (over g t post) ≡ fits strict (slot (from g) b false o) (over g t post)
      by Braces true = refl
      by Braces false = refl
      by g true = refl
      by g false = refl

  whole_fits : (strict w v : Bool) (ss : List Slot) (b m : Bool) (o : Depth) → (w ≡ true → v ≡ true) → stands ss (before g) ≡ Some (slot (to g) b m o) → (w && fill strict (these ss) ts) ≡ true → (v && fill strict (these ss) us) ≡ true
  whole_fits strict w v ss b m o f q e = both v (fill strict (these ss) us) (f (left w (fill strict (these ss) ts) e)) (joined_fill c d post strict ss (before g) (slot (to g) b m o) q (kept.fits_there strict b m o) (right w (fill strict (these ss) ts) e))

node_fixed : (g : Stage) (c d : Tree) (post : Trees) (y : Variable) (j : ℕ) → (rank (fixed_by c y) ≤ j → rank (fixed_by d y) ≤ j) → rank (fixed_by (over g c post) y) ≤ j → rank (fixed_by (over g d post) y) ≤ j
node_fixed g c d post y j f e =
    subst (λ z. rank z ≤ j) (sym (of_children (head g) [] 0 (join (before g) d post) y (writes g))) (joined_fixed c d post y j (before g) f (subst (λ z. rank z ≤ j) (of_children (head g) [] 0 (join (before g) c post) y (writes g)) e))

-- the child fills its slot as before, and so does the node
stage_fits : (s : List ℕ) (k : ℕ) (g : Stage) (c d : Tree) (post : Trees) → Keeping s k (to g) c d → (strict b : Bool) (o : Depth) → fits strict (slot (from g) b false o) (over g c post) ≡ true → fits strict (slot (from g) b false o) (over g d post) ≡ true
stage_fits s k Braces c d post kept strict false o e = whole_fits c d post s k Braces kept strict true true (many (statement_class nested) ∷ []) false false nested (λ z. refl) refl e
stage_fits s k Braces c d post kept strict true o e = whole_fits c d post s k Braces kept strict true true (many (statement_class nested) ∷ []) false false nested (λ z. refl) refl e
stage_fits s k (Items pre) c d post kept strict b o e = joined_each c d post strict (one (statement_class o)) pre (kept.fits_there strict false false o) e
stage_fits s k (Cases pre) c d post kept strict b o e = joined_each c d post strict (one case_class) pre (kept.fits_there strict false false o) e
stage_fits s k (Case a) c d post kept strict b o e = whole_fits c d post s k (Case a) kept strict true true (one_or_absent an_expression ∷ many (statement_class nested) ∷ []) false false nested (λ z. refl) refl e
stage_fits s k (Handler a) c d post kept strict b o e = whole_fits c d post s k (Handler a) kept strict true true (one_or_absent a_pattern ∷ one a_block ∷ []) true false nested (λ z. refl) refl e
stage_fits s k (Then a) c d post kept strict false o e = whole_fits c d post s k (Then a) kept strict true true (one an_expression ∷ one (statement_class nested) ∷ one_or_absent (statement_class nested) ∷ []) false false nested (λ z. refl) refl e
stage_fits s k (Else a u) c d post kept strict false o e = whole_fits c d post s k (Else a u) kept strict true true (one an_expression ∷ one (statement_class nested) ∷ one_or_absent (statement_class nested) ∷ []) false true nested (λ z. refl) refl e
stage_fits s k (While a) c d post kept strict false o e = whole_fits c d post s k (While a) kept strict true true (one an_expression ∷ one (statement_class nested) ∷ []) false false nested (λ z. refl) refl e
stage_fits s k Doing c d post kept strict false o e = whole_fits c d post s k Doing kept strict true true (one (statement_class nested) ∷ one an_expression ∷ []) false false nested (λ z. refl) refl e
stage_fits s k (For a u v) c d post kept strict false o e = whole_fits c d post s k (For a u v) kept strict true true (one_or_absent an_init ∷ one_or_absent an_expression ∷ one_or_absent an_expression ∷ one (statement_class nested) ∷ []) false false nested (λ z. refl) refl e
stage_fits s k (ForIn a u) c d post kept strict false o e = whole_fits c d post s k (ForIn a u) kept strict true true (one (a_loop_left true) ∷ one an_expression ∷ one (statement_class nested) ∷ []) false false nested (λ z. refl) refl e
stage_fits s k (ForOf a u) c d post kept strict false o e = whole_fits c d post s k (ForOf a u) kept strict true true (one (a_loop_left false) ∷ one an_expression ∷ one (statement_class nested) ∷ []) false false nested (λ z. refl) refl e
stage_fits s k (Labeled a) c d post kept strict false o e = whole_fits c d post s k (Labeled a) kept strict true true (one a_label ∷ one (statement_class nested) ∷ []) false false nested (λ z. refl) refl e
stage_fits s k Heading c d post kept strict false o e = whole_fits c d post s k Heading kept strict true true (one_or_absent an_init ∷ one_or_absent an_expression ∷ one_or_absent an_expression ∷ one (statement_class nested) ∷ []) false false nested (λ z. z) refl e
stage_fits s k (Switched a) c d post kept strict false o e = whole_fits c d post s k (Switched a) kept strict true true (one an_expression ∷ many case_class ∷ []) false false nested (λ z. refl) refl e
stage_fits s k Tried c d post kept strict false o e = whole_fits c d post s k Tried kept strict (is_whole (statement_class o) shape.TryStatement [] 0 (c ▸ post)) (is_whole (statement_class o) shape.TryStatement [] 0 (d ▸ post)) (one a_block ∷ one_or_absent catch_class ∷ one_or_absent a_block ∷ []) true false nested (λ z. z) refl e
stage_fits s k (Caught a) c d post kept strict false o e =
    whole_fits c d post s k (Caught a) kept strict (is_whole (statement_class o) shape.TryStatement [] 0 (a ▸ (c ▸ post))) (is_whole (statement_class o) shape.TryStatement [] 0 (a ▸ (d ▸ post))) (one a_block ∷ one_or_absent catch_class ∷ one_or_absent a_block ∷ []) false false nested
    (λ z. ap (λ b. not (b && is_absent (child_or_absent post 0))) (kept.missing (λ y. cc y)) ∙ z) refl e
stage_fits s k (Finally a u) c d post kept strict false o e =
    whole_fits c d post s k (Finally a u) kept strict (is_whole (statement_class o) shape.TryStatement [] 0 (a ▸ (u ▸ (c ▸ post)))) (is_whole (statement_class o) shape.TryStatement [] 0 (a ▸ (u ▸ (d ▸ post)))) (one a_block ∷ one_or_absent catch_class ∷ one_or_absent a_block ∷ []) true true nested
    (λ z. ap (λ b. not (is_absent u && b)) (kept.missing (λ y. cc y)) ∙ z) refl e
stage_fits s k g c d post kept strict true o e = absurd (refused_here strict (slot (from g) true false o) (head g) [] 0 (join (before g) c post) refl e)

-- ---- the whole

pub step : (s : List ℕ) (k : ℕ) (g : Stage) (c d : Tree) (post : Trees) → any_names (resolved s k) (before g) ≡ false → any_names (resolved s k) post ≡ false → Keeping s k (to g) c d → Keeping s k (from g) (over g c post) (over g d post)
unfolding Unmentioned
step s k g c d post earlier later kept = record {
  label = refl;
  missing = λ z. refl;
  lexical = lexical g c d post kept.lexical;
  first = first_names c d post s k g kept;
  last = last_names c d post s k g kept;
  hoisted = hoists g (join (before g) c post) ∙ with_it c d post s k g kept;
  left = hoists g (join (before g) d post) ∙ without_it c d post s k g kept;
  others_first = other_both (resolved s k) (all_names declared.Hoisted (before g)) kept.first (all_other (resolved s k) declared.Hoisted (before g) earlier) kept.others_first;
  others_last = other_both (resolved s k) kept.last (all_names declared.Hoisted post) kept.others_last (all_other (resolved s k) declared.Hoisted post later);
  loop = loops (head g) (before g) c d post kept.loop;
  inner = same_inner c d post s k g kept;
  scoped = still_scoped c d post s k g kept;
  unmentioned = (tt, joined_unmentioned c d post (record { name = resolved s k; hoists = false }) (before g) (all_unmentioned (resolved s k) k refl (before g) earlier) (all_unmentioned (resolved s k) k refl post later) kept.unmentioned);
  symbols = fewer_symbols c d post s k g kept;
  numbered = fewer_numbers c d post s k g kept;
  once = once_there c d post s k g kept;
  targets = targets_there c d post s k g kept;
  framed = frames_there c d post s k g kept;
  bodied = bodies_there c d post s k g kept;
  fixed = λ y j. node_fixed g c d post y j (kept.fixed y j);
  fixed_back = λ y j o. node_fixed g d c post y j (kept.fixed_back y j o);
  declares = declares_there c d post s k g kept;
  clash = λ o. body_less g o c d post (kept.clash o) (all_less c d post s k g kept);
  block = λ w. block_less g w c d post (kept.clash false);
  fits_there = λ strict b m o e. named c d post s k g kept m b o strict post d ∙ stage_fits s k g c d post kept strict b o (sym (named c d post s k g kept m b o strict post c) ∙ e);
}

-- a statement in no list keeps no less
pub keeps_held : (s : List ℕ) (k : ℕ) (t u : Tree) → Keeping s k way.Statement t u → Keeping s k way.Held t u
keeps_held s k t u kept = record {
  label = kept.label;
  missing = λ f. kept.missing (λ y. cc y);
  lexical = kept.lexical;
  first = kept.first;
  last = kept.last;
  hoisted = kept.hoisted;
  left = kept.left;
  others_first = kept.others_first;
  others_last = kept.others_last;
  loop = kept.loop;
  inner = kept.inner;
  scoped = λ v env f. kept.scoped v env tt;
  unmentioned = kept.unmentioned;
  symbols = λ v y f. kept.symbols v y tt;
  numbered = kept.numbered;
  once = kept.once;
  targets = kept.targets;
  framed = kept.framed;
  bodied = kept.bodied;
  fixed = kept.fixed;
  fixed_back = kept.fixed_back;
  declares = kept.declares;
  clash = kept.clash;
  block = λ w. absurd (cc w);
  fits_there = kept.fits_there;
}

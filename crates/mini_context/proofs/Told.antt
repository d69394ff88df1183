-- What the tables of a program say.
use Rattle.std.specs.Prelude.{ℕ, zero, suc, ◌≡◌, ◌<◌, refl, nat_eq, ◌&&◌, ◌||◌, Bool, true, false, cond, not, List, [], ◌∷◌, ◌++◌, length, map, replicate, slice_index, Result, Ok, Err, OnOk}
use Rattle.std.specs.List.{filter, list_any}
use Rattle.std.proofs.Common.{ap, ◌∙◌, arith, sym, subst}
use Rattle.std.proofs.lemmas.Bool.{false≢true}
use Rattle.mini_model.specs.declared.memory.OutOfMemory.{OutOfMemory}
use Rattle.mini_model.specs.declared.name.Name.{Name}
use Rattle.mini_model.specs.declared.shape.Shape.{Shape}
use Rattle.mini_model.specs.declared.shape.Shape.TheVariants as shape
use Rattle.mini_model.specs.Tree.{Tree, node, shape_of, children}
use Rattle.mini_laws.specs.declared.names.Use.TheVariants.{Read}
use Rattle.mini_laws.specs.Scopes.{opened}
use Rattle.mini_laws.specs.Mentions.{Mention, mentions, outermost, program_mentions, same_variable, is_elsewhere, is_among}
use Rattle.mini_context.specs.declared.mentions.Mentioned.{Mentioned}
use Rattle.mini_context.specs.declared.mentions.Mentioned.TheVariants as mentioned
use Rattle.mini_context.specs.Mentioned.{is_outside, mentioned_at, Joined}
use Rattle.mini_context.specs.Outside.{is_mentioned_outside}
use Rattle.mini_laws.specs.NameBodies.{Frame, Body, no_frame, bodies, fixed_names}
use Rattle.mini_laws.specs.Resolved.{Environment}
use Rattle.mini_laws.specs.Shared.{caught, pattern_writes, program_pattern_writes, program_var_writes, script_tops, var_writes, module_names, reached_by_arguments}
use Rattle.mini_laws.specs.Foreign.{imported_names, is_declared_in, lexical_variables, pattern_names, switched as switched_names}
use Rattle.mini_context.specs.declared.early.Moments.{Moments}
use Rattle.mini_context.specs.declared.params.Params.{Params}
use Rattle.mini_context.specs.Early.{Passed}
use Rattle.mini_context.specs.Enclosing.{is_around, Bounded, Enclosed}
use Rattle.mini_laws.specs.DeclaredNames.{bound_names}
use Rattle.mini_laws.specs.Foreign.{has_number, is_read_early, moments, params_around}
use Rattle.mini_context.specs.Lists.{holds, Housed}
use Rattle.mini_laws.specs.ScopeList.{Scope, names_in, scope_from, scope_list, scopes_of, seen_in}
use Rattle.mini_context.specs.declared.listing.ScopeTables.{ScopeTables}
use Rattle.mini_context.specs.Found.{FoundScopes}
use Rattle.mini_scope.specs.ScopeAt.{scope_at}
use Rattle.mini_scope.specs.declared.opening.OpenScopes.{OpenScopes}
use Rattle.mini_context.specs.declared.standing.Reading.{Reading}
use Rattle.mini_context.specs.declared.standing.Standing.{Standing}
use Rattle.mini_context.specs.Own.{is_script_shape}
use Rattle.mini_context.specs.Tables.{mark_at, named, Listed, Marked, Noted, Owned, Unlisted}
use Rattle.mini_context.specs.Visits.{visits, given, fixed_at, bodies_at, mentions_at, exchanged_at, reached_at, imported_at, patterns_at, lexical_at, switched_at, values_at, caught_at, writes_at, binds_at, enclosing_at, is_writing, is_binding, frame_in, first_reading, top}
use Rattle.mini_context.proofs.Surveys.{fixed_told, bodies_told, mentions_told, modules_told, reached_told, imported_told, patterns_told, lexical_told, switched_told, values_told, caught_told, enclosed_told, filtered}
use Rattle.mini_context.proofs.Marking.{marks_add}

blank : (n s : ℕ) → mark_at (replicate n false) s ≡ false
blank zero s = refl
blank (suc n) zero = refl
blank (suc n) (suc s) = blank n s

blank_length : (n : ℕ) → length {A = Bool} (replicate n false) ≡ n
blank_length zero = refl
blank_length (suc n) = ap suc (blank_length n)

-- in a table that was without a mark
pub from_blank : (n : ℕ) (xs : List Name) (old new : List Bool) → old ≡ replicate n false → Marked xs old new → (s : ℕ) → s < n → mark_at new s ≡ is_among (named s) xs
from_blank n xs old new e m s h =
    m.each s (omega (arith, h, ap length e, blank_length n)) ∙ ap (λ b. b || is_among (named s) xs) (ap (λ o. mark_at o s) e ∙ blank n s)

pub fixed_by : (n : ℕ) (a : Standing) (t : Tree) (old new : List Bool) → old ≡ replicate n false → Marked (given fixed_at (visits a t)) old new → (s : ℕ) → s < n → mark_at new s ≡ is_among (named s) (fixed_names t)
fixed_by n a t old new e m s h = from_blank n (given fixed_at (visits a t)) old new e m s h ∙ ap (is_among (named s)) (fixed_told a t)

pub body_by : (p : Frame → Bool) (a : Standing) (t : Tree) (old new : List Bool) → a ≡ top → old ≡ [] → Noted p (given bodies_at (visits a t)) old new → (b : ℕ) → mark_at new b ≡ list_any (λ r. nat_eq r.number b && p r.frame) (bodies no_frame t)
body_by p a t old new e f m b =
    let q : Body → Bool = λ r. nat_eq r.number b && p r.frame in
    m b ∙ ap (λ o. mark_at o b || list_any q (given bodies_at (visits a t))) f ∙ ap (list_any q) (bodies_told no_frame a (sym (ap (λ s. frame_in s.frame) e)) t)

no_owner : (n s : ℕ) → slice_index (replicate n 0) s ≡ 0
no_owner zero s = refl
no_owner (suc n) zero = refl
no_owner (suc n) (suc s) = no_owner n s

zeros_length : (n : ℕ) → length {A = ℕ} (replicate n 0) ≡ n
zeros_length zero = refl
zeros_length (suc n) = ap suc (zeros_length n)

pub owner_by : (n : ℕ) (ss : List Scope) (a b : List ℕ) (c : List Bool) → a ≡ replicate n 0 → c ≡ [] → Owned (length c) ss a b → (s : ℕ) → s < n → slice_index b s ≡ scope_from 0 0 ss s
owner_by n ss a b c e f o s h =
    o.each s (omega (arith, h, ap length e, zeros_length n))
    ∙ ap (λ r. scope_from (slice_index r s) (length c) ss s) e ∙ ap (λ v. scope_from v (length c) ss s) (no_owner n s) ∙ ap (λ r. scope_from 0 (length r) ss s) f

pub flags_by : (f : Scope → Bool) (ss : List Scope) (a b : List Bool) → a ≡ [] → b ≡ a ++ map f ss → b ≡ map f ss
flags_by f ss a b e g = g ∙ ap (λ r. r ++ map f ss) e

-- ---- a script's top names

other_tops : (t : Tree) → is_script_shape (shape_of t) ≡ false → script_tops t ≡ []
other_tops (node (shape.Program false ds) xs n ts) e = absurd (cc e)
other_tops (node h xs n ts) e = refl

script_is : (t : Tree) → is_script_shape (shape_of t) ≡ true → script_tops t ≡ names_in (opened Read (shape_of t) (children t) 0)
script_is (node (shape.Program false ds) xs n ts) e = refl
script_is (node h xs n ts) e = absurd (false≢true e)

pub no_tops : (n : ℕ) (t : Tree) (h : Shape) (v : Bool) (marks : List Bool) → h ≡ shape_of t → v ≡ is_script_shape h → v ≡ false → marks ≡ replicate n false → Marked (script_tops t) (replicate n false) marks
no_tops n t h v marks e f g m =
    subst (λ xs. Marked xs (replicate n false) marks) (sym (other_tops t (ap is_script_shape (sym e) ∙ sym f ∙ g)))
    (subst (λ o. Marked [] o marks) m (marks_add.nothing marks))

pub some_tops : (n : ℕ) (t : Tree) (h : Shape) (v : Bool) (o : OpenScopes) (old new : List Bool) → h ≡ shape_of t → v ≡ is_script_shape h → v ≡ true → scope_at o ≡ opened Read (shape_of t) (children t) → old ≡ replicate n false → Marked (names_in o.first.items) old new → Marked (script_tops t) (replicate n false) new
some_tops n t h v o old new e f g j m k =
    subst (λ xs. Marked xs (replicate n false) new) (ap (λ s. names_in (s 0)) j ∙ sym (script_is t (ap is_script_shape (sym e) ∙ sym f ∙ g)))
    (subst (λ p. Marked (names_in o.first.items) p new) m k)

-- ---- mentions

nowhere : (n s b : ℕ) → is_outside (mentioned_at (replicate n mentioned.Nowhere) s) b ≡ false
nowhere zero s b = refl
nowhere (suc n) zero b = refl
nowhere (suc n) (suc s) b = nowhere n s b

nowhere_length : (n : ℕ) → length (replicate n mentioned.Nowhere) ≡ n
nowhere_length zero = refl
nowhere_length (suc n) = ap suc (nowhere_length n)

pub mentions_by : (n : ℕ) (a : Standing) (t : Tree) (old new : List Mentioned) → a ≡ top → old ≡ replicate n mentioned.Nowhere → Joined (given mentions_at (visits a t)) old new → (s : ℕ) → s < n → (b : ℕ) → is_outside (mentioned_at new s) b ≡ is_mentioned_outside t b (named s)
mentions_by n a t old new e f j s h b =
    let p : Mention → Bool = λ m. same_variable (named s) m.name && is_elsewhere b m.around in
    j.each s (omega (arith, h, ap length f, nowhere_length n)) b
    ∙ ap (λ v. v || list_any p (given mentions_at (visits a t))) (ap (λ o. is_outside (mentioned_at o s) b) f ∙ nowhere n s b)
    ∙ ap (list_any p) (mentions_told a t ∙ ap (λ r. mentions r.usage r.around t) e)

-- ---- modules, and what an `arguments` reaches

pub exchanged_by_walk : (n : ℕ) (a : Standing) (t : Tree) (old new : List Bool) → a ≡ top → old ≡ replicate n false → Marked (given exchanged_at (visits a t)) old new → (s : ℕ) → s < n → mark_at new s ≡ is_among (named s) (module_names t)
exchanged_by_walk n a t old new e f m s h = from_blank n (given exchanged_at (visits a t)) old new f m s h ∙ ap (is_among (named s)) (modules_told a t (ap (λ r. r.exchanges) e))

pub reached_by_walk : (n : ℕ) (a : Standing) (t : Tree) (old new : List Bool) → a ≡ top → old ≡ replicate n false → Marked (given reached_at (visits a t)) old new → (s : ℕ) → s < n → mark_at new s ≡ is_among (named s) (reached_by_arguments false t)
reached_by_walk n a t old new e f m s h = from_blank n (given reached_at (visits a t)) old new f m s h ∙ ap (is_among (named s)) (reached_told a t ∙ ap (λ r. reached_by_arguments r.strict t) e)

pub patterns_by : (n : ℕ) (a : Standing) (t : Tree) (old new : List Bool) → old ≡ replicate n false → Marked (given patterns_at (visits a t)) old new → (s : ℕ) → s < n → mark_at new s ≡ is_among (named s) (pattern_names t)
patterns_by n a t old new f m s h = from_blank n (given patterns_at (visits a t)) old new f m s h ∙ ap (is_among (named s)) (patterns_told a t)

pub switched_by : (n : ℕ) (a : Standing) (t : Tree) (old new : List Bool) → old ≡ replicate n false → Marked (given switched_at (visits a t)) old new → (s : ℕ) → s < n → mark_at new s ≡ is_among (named s) (switched_names t)
switched_by n a t old new f m s h = from_blank n (given switched_at (visits a t)) old new f m s h ∙ ap (is_among (named s)) (switched_told a t)

pub caught_by : (n : ℕ) (a : Standing) (t : Tree) (old new : List Bool) → old ≡ replicate n false → Marked (given caught_at (visits a t)) old new → (s : ℕ) → s < n → mark_at new s ≡ is_among (named s) (caught t)
caught_by n a t old new f m s h = from_blank n (given caught_at (visits a t)) old new f m s h ∙ ap (is_among (named s)) (caught_told a t)

pub lexical_by : (n : ℕ) (a : Standing) (t : Tree) (old new : List Bool) → a ≡ top → old ≡ replicate n false → Marked (given lexical_at (visits a t)) old new → (s : ℕ) → s < n → mark_at new s ≡ is_among (named s) (lexical_variables false t)
lexical_by n a t old new e f m s h = from_blank n (given lexical_at (visits a t)) old new f m s h ∙ ap (is_among (named s)) (lexical_told a t ∙ ap (λ r. lexical_variables r.in_body t) e)

pub imported_by_walk : (n : ℕ) (a : Standing) (t : Tree) (old new : List Bool) → a ≡ top → old ≡ replicate n false → Marked (given imported_at (visits a t)) old new → (s : ℕ) → s < n → mark_at new s ≡ is_among (named s) (imported_names t)
imported_by_walk n a t old new e f m s h = from_blank n (given imported_at (visits a t)) old new f m s h ∙ ap (is_among (named s)) (imported_told a t (ap (λ r. r.imports) e))

-- ---- where symbols are written, and bound

pub joined_blank : (n : ℕ) (ms : List Mention) (old new : List Mentioned) → old ≡ replicate n mentioned.Nowhere → Joined ms old new → (s : ℕ) → s < n → (b : ℕ) → is_outside (mentioned_at new s) b ≡ list_any (λ m. same_variable (named s) m.name && is_elsewhere b m.around) ms
joined_blank n ms old new f j s h b =
    let p : Mention → Bool = λ m. same_variable (named s) m.name && is_elsewhere b m.around in
    j.each s (omega (arith, h, ap length f, nowhere_length n)) b
    ∙ ap (λ v. v || list_any p ms) (ap (λ o. is_outside (mentioned_at o s) b) f ∙ nowhere n s b)

some_mentions : (p : Mention → Bool) (a : Standing) (t : Tree) → a ≡ top → given (λ v. filter p (mentions_at v)) (visits a t) ≡ filter p (program_mentions t)
some_mentions p a t e = filtered p (visits a t) ∙ ap (filter p) (mentions_told a t ∙ ap (λ r. mentions r.usage r.around t) e)

pub written_by : (n : ℕ) (a : Standing) (t : Tree) (old new : List Mentioned) → a ≡ top → old ≡ replicate n mentioned.Nowhere → Joined (given writes_at (visits a t)) old new → (s : ℕ) → s < n → (b : ℕ) → is_outside (mentioned_at new s) b ≡ list_any (λ m. same_variable (named s) m.name && is_elsewhere b m.around) (filter is_writing (program_mentions t))
written_by n a t old new e f j s h b =
    joined_blank n (given writes_at (visits a t)) old new f j s h b ∙ ap (list_any (λ m. same_variable (named s) m.name && is_elsewhere b m.around)) (some_mentions is_writing a t e)

pub given_by : (n : ℕ) (a : Standing) (t : Tree) (old new : List Mentioned) → a ≡ top → old ≡ replicate n mentioned.Nowhere → Joined (given values_at (visits a t)) old new → (s : ℕ) → s < n → (b : ℕ) → is_outside (mentioned_at new s) b ≡ list_any (λ m. same_variable (named s) m.name && is_elsewhere b m.around) (program_var_writes t)
given_by n a t old new e f j s h b =
    joined_blank n (given values_at (visits a t)) old new f j s h b ∙ ap (list_any (λ m. same_variable (named s) m.name && is_elsewhere b m.around)) (values_told a t ∙ ap (λ r. var_writes r.usage r.around t) e)

unlisted : (n s b : ℕ) → holds (replicate n []) s b ≡ false
unlisted zero s b = refl
unlisted (suc n) zero b = refl
unlisted (suc n) (suc s) b = unlisted n s b

unlisted_length : (n : ℕ) → length {A = List ℕ} (replicate n []) ≡ n
unlisted_length zero = refl
unlisted_length (suc n) = ap suc (unlisted_length n)

and_right : (a c : Bool) → ((a && true) && c) ≡ (a && c)
and_right true c = refl
and_right false c = refl

and_none : (a c : Bool) → ((a && false) && c) ≡ false
and_none true c = refl
and_none false c = refl

taken : (v : Bool) (p : Mention → Bool) (m : Mention) (ms : List Mention) → list_any p (cond v (m ∷ ms) ms) ≡ (cond v (p m) false || list_any p ms)
taken true p m ms = refl
taken false p m ms = refl

bound_here : (s b : ℕ) (m : Mention) (v : Bool) → m.binds ≡ v → (same_variable (named s) m.name && m.binds && not (is_elsewhere b m.around)) ≡ cond v (same_variable (named s) m.name && not (is_elsewhere b m.around)) false
bound_here s b m true e = ap (λ w. same_variable (named s) m.name && w && not (is_elsewhere b m.around)) e ∙ and_right (same_variable (named s) m.name) (not (is_elsewhere b m.around))
bound_here s b m false e = ap (λ w. same_variable (named s) m.name && w && not (is_elsewhere b m.around)) e ∙ and_none (same_variable (named s) m.name) (not (is_elsewhere b m.around))

bound_by : (s b : ℕ) (ms : List Mention) → list_any (λ m. same_variable (named s) m.name && not (is_elsewhere b m.around)) (filter is_binding ms) ≡ list_any (λ m. same_variable (named s) m.name && m.binds && not (is_elsewhere b m.around)) ms
bound_by s b [] = refl
bound_by s b (m ∷ ms) =
    taken m.binds (λ r. same_variable (named s) r.name && not (is_elsewhere b r.around)) m (filter is_binding ms)
    ∙ ap (λ v. cond m.binds (same_variable (named s) m.name && not (is_elsewhere b m.around)) false || v) (bound_by s b ms)
    ∙ ap (λ v. v || list_any (λ r. same_variable (named s) r.name && r.binds && not (is_elsewhere b r.around)) ms) (sym (bound_here s b m m.binds refl))

pub homes_by : (n : ℕ) (a : Standing) (t : Tree) (old new : List (List ℕ)) → a ≡ top → old ≡ replicate n [] → Housed (given binds_at (visits a t)) old new → (s : ℕ) → s < n → (b : ℕ) → holds new s b ≡ is_declared_in t b (named s)
homes_by n a t old new e f j s h b =
    let p : Mention → Bool = λ m. same_variable (named s) m.name && not (is_elsewhere b m.around) in
    j.each s (omega (arith, h, ap length f, unlisted_length n)) b
    ∙ ap (λ v. v || list_any p (given binds_at (visits a t))) (ap (λ o. holds o s b) f ∙ unlisted n s b)
    ∙ ap (list_any p) (some_mentions is_binding a t e)
    ∙ bound_by s b (program_mentions t)

pub patterned_by : (a : Reading) (env : Environment) (t : Tree) (old new : List Bool) → a ≡ first_reading → env ≡ [] → Marked (pattern_writes a.usage env t) old new → Marked (program_pattern_writes t) old new
patterned_by a env t old new e f m = subst (λ r. Marked (pattern_writes Read r t) old new) f (subst (λ r. Marked (pattern_writes r.usage env t) old new) e m)

not_true : (b : Bool) → b ≡ true → b ≡ false → ⊥
not_true true e f = absurd (cc f)
not_true false e f = absurd (cc e)

-- ---- in the parameters of which functions bodies stand

nothing_around : (n s b : ℕ) → is_around (replicate n []) [] s b ≡ false
nothing_around zero s b = refl
nothing_around (suc n) zero b = refl
nothing_around (suc n) (suc s) b = nothing_around n s b

never_held : {C : Type 0} (ls : List (List ℕ)) (n : ℕ) → ls ≡ replicate n [] → (s j : ℕ) → holds ls s j ≡ true → C
never_held ls n e s j f = absurd (not_true (holds ls s j) f (ap (λ r. holds r s j) e ∙ unlisted n s j))

blank_bounded : (p : Params) (n : ℕ) → p.by_symbol.items ≡ replicate n [] → p.by_number.items ≡ [] → Bounded p
blank_bounded p n e f = record {
  symbols = λ s j g. never_held p.by_symbol.items n e s j g;
  numbers = λ s j g. never_held p.by_number.items 0 f s j g;
}

pub enclosed_by : (n : ℕ) (a : Standing) (t : Tree) (old new : Params) → old.by_symbol.items ≡ replicate n [] → old.by_number.items ≡ [] → Enclosed (given enclosing_at (visits a t)) old new → (s : ℕ) → s < n → (b : ℕ) → is_around new.by_symbol.items new.by_number.items s b ≡ is_among (named s) (params_around b t)
enclosed_by n a t old new e f g s h b =
    let p : Tree → Bool = λ u. is_among (named s) (bound_names u) && has_number b u in
    g.each (blank_bounded old n e f) s (omega (arith, h, ap length e, unlisted_length n)) b
    ∙ ap (λ v. v || list_any p (given enclosing_at (visits a t))) (ap (λ r. is_around r old.by_number.items s b) e ∙ ap (λ r. is_around (replicate n []) r s b) f ∙ nothing_around n s b)
    ∙ enclosed_told s b a t

-- ---- in the order of evaluation

pub early_by : (n : ℕ) (a : Reading) (t : Tree) (old new : Moments) → a ≡ first_reading → old.ended.items ≡ replicate n false → old.early.items ≡ replicate n [] → Passed (moments a.usage a.around t) old new → (s : ℕ) → s < n → (b : ℕ) → holds new.early.items s b ≡ is_read_early b (named s) (moments Read outermost t)
early_by n a t old new e f g p s h b =
    p.reads s (omega (arith, h, ap length f, blank_length n)) (omega (arith, h, ap length g, unlisted_length n)) b
    ∙ ap (λ v. v || (not (mark_at old.ended.items s) && is_read_early b (named s) (moments a.usage a.around t))) (ap (λ r. holds r s b) g ∙ unlisted n s b)
    ∙ ap (λ v. not v && is_read_early b (named s) (moments a.usage a.around t)) (ap (λ r. mark_at r s) f ∙ blank n s)
    ∙ ap (λ r. is_read_early b (named s) (moments r.usage r.around t)) e

-- what is found of the scopes, where the walk over them ended well
found_scopes : (n : ℕ) (a : Reading) (env : Environment) (t : Tree) (old new : ScopeTables) (before after : List Bool) → a ≡ first_reading → env ≡ [] → Unlisted n old → before ≡ replicate n false →
    Listed (scope_list a.usage a.strict t) old new → Marked (pattern_writes a.usage env t) before after → FoundScopes new after n t
found_scopes n a env t old new before after e f blank g l m =
    let ss = scopes_of t in
    let listed = subst (λ r. Listed (scope_list r.usage r.strict t) old new) e l in
    record {
      owners = owner_by n ss old.owners.items new.owners.items old.strict.items blank.owners blank.strict listed.owners;
      strict = flags_by (λ r. r.strict) ss old.strict.items new.strict.items blank.strict listed.stricts;
      evals = flags_by (λ r. r.evals) ss old.evals.items new.evals.items blank.evals listed.evals;
      seen = subst (λ o. Marked (seen_in ss) o new.seen.items) blank.seen listed.seen;
      patterns = subst (λ o. Marked (program_pattern_writes t) o after) g (patterned_by a env t before after e f m);
    }

pub scopes_found : (n : ℕ) (a : Reading) (env : Environment) (t : Tree) (old new : ScopeTables) (before after : List Bool) → a ≡ first_reading → env ≡ [] → Unlisted n old → before ≡ replicate n false →
    (r : Result Unit OutOfMemory) → OnOk r (Listed (scope_list a.usage a.strict t) old new) → OnOk r (Marked (pattern_writes a.usage env t) before after) → OnOk r (FoundScopes new after n t)
scopes_found n a env t old new before after e f blank g (Ok x) l m = found_scopes n a env t old new before after e f blank g l m
scopes_found n a env t old new before after e f blank g (Err x) l m = tt

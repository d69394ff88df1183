-- What a pattern that is declared keeps where a key in it loses its brackets: all but the brackets themselves, however deep it stands.
use Rattle.std.specs.Prelude.{ℕ, zero, suc, ◌<◌, ◌≤◌, ◌≡◌, ◌&&◌, ◌||◌, not, refl, Bool, true, false, List, [], ◌∷◌, ◌++◌, Contains, None, if◌then◌else◌}
use Rattle.std.proofs.Common.{ap, ◌∙◌, sym, subst, inl, arith, true≢false}
use Rattle.std.proofs.lemmas.Bool.{and_parts}
use Rattle.std.proofs.lemmas.List.Elements.{Contains-append_left, Contains-append_right}
use Rattle.mini_model.specs.declared.name.Name.{Name}
use Rattle.mini_model.specs.declared.place.Position.{Position}
use Rattle.mini_model.specs.declared.place.Position.TheVariants.{Unwritten, StatementList, BodyList, ArgumentList, SequenceList, TemplateList}
use Rattle.mini_model.specs.declared.shape.Shape.{Shape}
use Rattle.mini_model.specs.declared.shape.Shape.TheVariants as shape
use Rattle.mini_model.specs.Paths.{append}
use Rattle.mini_model.specs.Position.{item_position, child_position}
use Rattle.mini_model.specs.Tree.{Tree, Trees, node, none, ◌▸◌, shape_of, count, is_absent}
use Rattle.mini_model.specs.Weight.{outline, outlines, outline_by, own_weight, weight, weights}
use Rattle.mini_accept.specs.WellShaped.{Class, a_loop_left, a_method, Tagging, untagged, tagged, Slot, Filling, refused, these, each, each_or_last, pieces, filling, class_of, has_names, has_its_number, has_plain_fields, has_its_parts, is_whole, is_strict_in, is_quasi, is_quasi_by, are_quasis, is_last, fits, fill}
use Rattle.mini_laws.specs.declared.names.Binding.{Binding}
use Rattle.mini_laws.specs.declared.names.Declared.{Declared}
use Rattle.mini_laws.specs.declared.names.Declared.TheVariants as declaring
use Rattle.mini_laws.specs.declared.names.Targets.{Targets}
use Rattle.mini_laws.specs.declared.names.Use.{Use}
use Rattle.mini_laws.specs.DeclaredNames.{place_of, names_by, names_of, first_names, all_names, is_statement_list, body_names, all_body_names}
use Rattle.mini_laws.specs.Early.{Path, choose_by, own_declarations, declarations, first_declarations, all_declarations, holds_statements, is_function_shape, body_declarations, all_body_declarations, is_pattern_shape, scope_declarations, clashing, early_names, all_early_names, is_bad_jump, targets_of, early_jumps, all_early_jumps}
use Rattle.mini_laws.specs.Resolved.{Environment, gives_value, plain_name, other_name, written_name}
use Rattle.mini_laws.specs.Scopes.{use_of, opened}
use Rattle.mini_laws.specs.Scoped.{Scoped, AllScoped, AreNames, OwnScoped}
use Rattle.mini_laws.specs.Symbols.{declared as declared_in, declared_from, symbols_in}
use Rattle.mini_laws.specs.Value.{Variable, nothing}
use Rattle.mini_laws.specs.State.{State, Writable, Environment as Surroundings}
use Rattle.mini_laws.specs.Demand.{Demand, Request}
use Rattle.mini_laws.specs.Fixity.{fixity_by, stricter, fixed_by, fixed_by_any}
use Rattle.mini_laws.specs.Naming.{summary, summaries}
use Rattle.mini_laws.specs.Step.{meaning}
use Rattle.mini_laws.specs.Bodies.{Around, Body, below, body_of, bodies, bodies_from}
use Rattle.mini_kept.specs.AlikeBodies.{BodiesKept}
use Rattle.mini_kept.specs.Carried.{numbers, all_numbers, with_number}
use Rattle.mini_kept.specs.Declaring.{declared, declared_all, declared_by}
use Rattle.mini_kept.specs.Frames.{Whole, showing, in_full, part, parts, keyed, shown_from, outline as outline_of, globals, property_below, frame_of, frames, frames_from}
use Rattle.mini_kept.specs.KeepsNames.{count_of}
use Rattle.mini_kept.specs.Lifted.{is_piece}
use Rattle.mini_kept.specs.SameNames.{is_among}
use Rattle.mini_kept.specs.ShownFrames.{KeyGiven, Shows, AllShow, none_gone, FramesShown}
use Rattle.mini_kept.proofs.Below.{both_counts}
use Rattle.mini_kept.proofs.BodyLists.{kept_itself, each_of}
use Rattle.mini_kept.proofs.Bools.{left, right, both}
use Rattle.mini_kept.proofs.Fixed.{of_children}
use Rattle.mini_kept.proofs.ShownFrames.{shows_itself, all_themselves, shows_more, frames_more, over_shown, keyed_shown, shown_themselves, one_shown, each_shown, given_among}
use Rattle.mini_rows.specs.KeyHolders.{is_pattern_part}
use Rattle.mini_rows.proofs.SpellAlike.{SameTree, kids_same}

abbrev pub Given : Around → Tree → ℕ → List ℕ → Type 0
Given a t = KeyGiven nothing (bodies a t)

-- what stands there is written
abbrev pub is_written : Position → Bool
is_written Unwritten = false
is_written p = true

-- of an earlier part and a later one
pub record Alike (t u : Tree) : Type 0 where
  pub tree : SameTree t u
  pub names : (d : Declared) → names_of d u ≡ names_of d t
  pub body : body_names u ≡ body_names t
  pub patterned : is_pattern_shape (shape_of u) ≡ is_pattern_shape (shape_of t)
  pub plain : plain_name u ≡ plain_name t
  pub scoped : (v : Use) (env : Environment) → Scoped v env t → Scoped v env u
  pub symbols : (v : Use) → declared_in v u ≡ declared_in v t
  pub numbers : (k : ℕ) → count_of k (numbers u) ≤ count_of k (numbers t)
  pub declarations : (d : Declared) (l : Bool) (q : Path) → declarations d l q u ≡ declarations d l q t
  pub as_body : (b : Bool) (q : Path) → body_declarations b q u ≡ body_declarations b q t
  pub once : (q : Path) → early_names q u ≡ early_names q t
  pub targets : (a : Targets) (q : Path) → early_jumps a q u ≡ early_jumps a q t
  pub bodies : (a : Around) → BodiesKept (bodies a t) (bodies a u)
  pub part : (a : Around) → Shows (Given a t) (part t) (part u)
  pub frames : (a : Around) → FramesShown none_gone (Given a t) (frames None t) (frames None u)
  pub fixed : (x : Variable) → fixed_by t x ≡ fixed_by u x
  pub declared : declared u ≡ declared t
  pub outlined : outline u ≡ outline t
  pub lighter : (p : Position) → is_written p ≡ true → weight p u < weight p t
  pub piece : is_piece (shape_of t) ≡ false
  pub fitting : (strict : Bool) (s : Slot) → fits strict s t ≡ true → fits strict s u ≡ true

-- ---- a part of a list, or of other children

module _ (t u : Tree) (k : Alike t u) (after : Trees) where
  abbrev Before : Trees → Trees
  Before before = append before (t ▸ after)

  abbrev After : Trees → Trees
  After before = append before (u ▸ after)

  same_count : (b : Trees) → count (After b) ≡ count (Before b)
  same_count none = refl
  same_count (c ▸ b) = ap suc (same_count b)

  same_summaries : (b : Trees) → summaries (Before b) ≡ summaries (After b)
  same_summaries none = ap (λ x. x ∷ summaries after) k.tree.read
  same_summaries (c ▸ b) = ap (λ is. summary c ∷ is) (same_summaries b)

  same_meaning : (b : Trees) (e : Surroundings) (i : ℕ) (q : Demand) (r : Request q) (s : State) → meaning e (Before b) i q r s ≡ meaning e (After b) i q r s
  unfolding meaning
  same_meaning none e zero q r s = k.tree.by e q r s
  same_meaning none e (suc i) q r s = refl
  same_meaning (c ▸ b) e zero q r s = refl
  same_meaning (c ▸ b) e (suc i) q r s = same_meaning b e i q r s

  same_all_names : (d : Declared) (b : Trees) → all_names d (After b) ≡ all_names d (Before b)
  unfolding names_of
  same_all_names d none = ap (λ xs. xs ++ all_names d after) (k.names d)
  same_all_names d (c ▸ b) = ap (λ xs. names_of d c ++ xs) (same_all_names d b)

  same_first_names : (b : Trees) → first_names (After b) ≡ first_names (Before b)
  unfolding names_of
  same_first_names none = k.names declaring.Bound
  same_first_names (c ▸ b) = refl

  same_all_body_names : (b : Trees) → all_body_names (After b) ≡ all_body_names (Before b)
  unfolding body_names
  same_all_body_names none = ap (λ xs. xs ++ all_body_names after) k.body
  same_all_body_names (c ▸ b) = ap (λ xs. body_names c ++ xs) (same_all_body_names b)

  all_scoped : (sc : ℕ → List Binding) (vs : ℕ → Use) (i : ℕ) (env : Environment) (b : Trees) → AllScoped sc vs i env (Before b) → AllScoped sc vs i env (After b)
  unfolding Scoped
  all_scoped sc vs i env none a = (k.scoped (vs i) (env ++ sc i) a.0, a.1)
  all_scoped sc vs i env (c ▸ b) a = (a.0, all_scoped sc vs (suc i) (env ++ sc i) b a.1)

  same_declared_from : (sc : ℕ → List Binding) (vs : ℕ → Use) (i : ℕ) (b : Trees) → declared_from sc vs i (After b) ≡ declared_from sc vs i (Before b)
  unfolding declared_in
  same_declared_from sc vs i none = ap (λ xs. symbols_in (sc i) ++ (xs ++ declared_from sc vs (suc i) after)) (k.symbols (vs i))
  same_declared_from sc vs i (c ▸ b) = ap (λ xs. symbols_in (sc i) ++ (declared_in (vs i) c ++ xs)) (same_declared_from sc vs (suc i) b)

  fewer_numbers : (b : Trees) (j : ℕ) → count_of j (all_numbers (After b)) ≤ count_of j (all_numbers (Before b))
  unfolding numbers
  fewer_numbers none j = omega (arith, k.numbers j, both_counts j (numbers u) (all_numbers after), both_counts j (numbers t) (all_numbers after))
  fewer_numbers (c ▸ b) j = omega (arith, fewer_numbers b j, both_counts j (numbers c) (all_numbers (After b)), both_counts j (numbers c) (all_numbers (Before b)))

  same_first_declarations : (l : Bool) (q : Path) (b : Trees) → first_declarations l q (After b) ≡ first_declarations l q (Before b)
  unfolding declarations
  same_first_declarations l q none = k.declarations declaring.Bound l (q ++ 0 ∷ [])
  same_first_declarations l q (c ▸ b) = refl

  same_all_declarations : (d : Declared) (l : Bool) (q : Path) (i : ℕ) (b : Trees) → all_declarations d l q i (After b) ≡ all_declarations d l q i (Before b)
  unfolding declarations
  same_all_declarations d l q i none = ap (λ ds. ds ++ all_declarations d l q (suc i) after) (k.declarations d l (q ++ i ∷ []))
  same_all_declarations d l q i (c ▸ b) = ap (λ ds. declarations d l (q ++ i ∷ []) c ++ ds) (same_all_declarations d l q (suc i) b)

  same_all_as_body : (f : Bool) (q : Path) (i : ℕ) (b : Trees) → all_body_declarations f q i (After b) ≡ all_body_declarations f q i (Before b)
  unfolding body_declarations
  same_all_as_body f q i none = ap (λ ds. ds ++ all_body_declarations f q (suc i) after) (k.as_body f (q ++ i ∷ []))
  same_all_as_body f q i (c ▸ b) = ap (λ ds. body_declarations f (q ++ i ∷ []) c ++ ds) (same_all_as_body f q (suc i) b)

  same_all_once : (q : Path) (i : ℕ) (b : Trees) → all_early_names q i (After b) ≡ all_early_names q i (Before b)
  unfolding early_names
  same_all_once q i none = ap (λ ds. ds ++ all_early_names q (suc i) after) (k.once (q ++ i ∷ []))
  same_all_once q i (c ▸ b) = ap (λ ds. early_names (q ++ i ∷ []) c ++ ds) (same_all_once q (suc i) b)

  same_all_targets : (f : ℕ → Targets) (q : Path) (i : ℕ) (b : Trees) → all_early_jumps f q i (After b) ≡ all_early_jumps f q i (Before b)
  unfolding early_jumps
  same_all_targets f q i none = ap (λ ds. ds ++ all_early_jumps f q (suc i) after) (k.targets (f i) (q ++ i ∷ []))
  same_all_targets f q i (c ▸ b) = ap (λ ds. early_jumps (f i) (q ++ i ∷ []) c ++ ds) (same_all_targets f q (suc i) b)

  all_bodies : (α : ℕ → Around) (i : ℕ) (b : Trees) → BodiesKept (bodies_from α i (Before b)) (bodies_from α i (After b))
  all_bodies α i none = each_of (bodies (α i) t) (bodies_from α (suc i) after) (bodies (α i) u) (bodies_from α (suc i) after) (k.bodies (α i)) (kept_itself (bodies_from α (suc i) after))
  all_bodies α i (c ▸ b) = each_of (bodies (α i) c) (bodies_from α (suc i) (Before b)) (bodies (α i) c) (bodies_from α (suc i) (After b)) (kept_itself (bodies (α i) c)) (all_bodies α (suc i) b)

  -- the bodies of the part are among those of all
  abbrev place : ℕ → Trees → ℕ
  place i none = i
  place i (c ▸ b) = place (suc i) b

  among : (α : ℕ → Around) (i : ℕ) (b : Trees) (x : Body) → Contains (bodies (α (place i b)) t) x → Contains (bodies_from α i (Before b)) x
  among α i none x c = Contains-append_left (bodies (α i) t) (bodies_from α (suc i) after) x c
  among α i (d ▸ b) x c = Contains-append_right (bodies (α i) d) (bodies_from α (suc i) (Before b)) x (among α (suc i) b x c)

  module _ (G : ℕ → List ℕ → Type 0) (shows : Shows G (part t) (part u)) where
    all_parts : (b : Trees) → AllShow G (parts (Before b)) (parts (After b))
    all_parts none = (shows, all_themselves G (parts after))
    all_parts (c ▸ b) = (shows_itself G (part c), all_parts b)

    all_shown : (i : ℕ) (b : Trees) → AllShow G (shown_from (λ j. Whole) i (Before b)) (shown_from (λ j. Whole) i (After b))
    all_shown i none = (shows, all_themselves G (shown_from (λ j. Whole) (suc i) after))
    all_shown i (c ▸ b) = (shows_itself G (part c), all_shown (suc i) b)

  all_frames : (G : ℕ → List ℕ → Type 0) → FramesShown none_gone G (frames None t) (frames None u) → (i : ℕ) (b : Trees) → FramesShown none_gone G (frames_from (λ j. None) i (Before b)) (frames_from (λ j. None) i (After b))
  all_frames G f i none = each_shown none_gone G (frames None t) (frames_from (λ j. None) (suc i) after) (frames None u) (frames_from (λ j. None) (suc i) after) f (shown_themselves none_gone G (frames_from (λ j. None) (suc i) after))
  all_frames G f i (c ▸ b) = each_shown none_gone G (frames None c) (frames_from (λ j. None) (suc i) (Before b)) (frames None c) (frames_from (λ j. None) (suc i) (After b)) (shown_themselves none_gone G (frames None c)) (all_frames G f (suc i) b)

  all_fixed : (b : Trees) (x : Variable) → fixed_by_any (Before b) x ≡ fixed_by_any (After b) x
  all_fixed none x = ap (λ f. stricter f (fixed_by_any after x)) (k.fixed x)
  all_fixed (c ▸ b) x = ap (λ f. stricter (fixed_by c x) f) (all_fixed b x)

  all_declared : (b : Trees) → declared_all (After b) ≡ declared_all (Before b)
  all_declared none = ap (λ xs. xs ++ declared_all after) k.declared
  all_declared (c ▸ b) = ap (λ xs. declared c ++ xs) (all_declared b)

  same_outlines : (b : Trees) → outlines (After b) ≡ outlines (Before b)
  same_outlines none = ap (λ o. o ∷ outlines after) k.outlined
  same_outlines (c ▸ b) = ap (λ os. outline c ∷ os) (same_outlines b)

  all_lighter : (π : ℕ → Position) → ((i : ℕ) → is_written (π i) ≡ true) → (b : Trees) → weights π (After b) < weights π (Before b)
  all_lighter π w none = let falls = k.lighter (π zero) (w zero) in omega (arith, falls)
  all_lighter π w (c ▸ b) = let falls = all_lighter (λ i. π (suc i)) (λ i. w (suc i)) b in omega (arith, falls)

  no_quasi : (g : Tagging) (last : Bool) → is_quasi g last t ≡ true → ⊥
  no_quasi g last e = go t k.piece e
    where
      by : (g : Tagging) (h : Shape) → is_piece h ≡ false → is_quasi_by g last h ≡ false
      by untagged (shape.TemplateElement tail raw c) e = absurd (cc e)
      by tagged (shape.TemplateElement tail raw c) e = absurd (cc e)
      by untagged h e = refl
      by tagged h e = refl

      go : (t : Tree) → is_piece (shape_of t) ≡ false → is_quasi g last t ≡ true → ⊥
      go (node h [] n none) f e = true≢false (sym (left (is_quasi_by g last h) _ e) ∙ by g h f)
      go (node h [] n (c ▸ cs)) f e = true≢false (sym e)
      go (node h (x ∷ xs) n cs) f e = true≢false (sym e)

  no_quasis : (g : Tagging) (b : Trees) → are_quasis g (Before b) ≡ true → ⊥
  no_quasis g none e = by after e
    where
      by : (ts : Trees) → are_quasis g (t ▸ ts) ≡ true → ⊥
      by none e = no_quasi g true e
      by (c ▸ ts) e = no_quasi g false (left (is_quasi g false t) _ e)
  no_quasis g (c ▸ none) e = no_quasis g none (right (is_quasi g false c) _ e)
  no_quasis g (c ▸ (d ▸ b)) e = no_quasis g (d ▸ b) (right (is_quasi g false c) _ e)

  same_last : (b : Trees) → is_last (After b) ≡ is_last (Before b)
  same_last none = refl
  same_last (c ▸ b) = refl

  or_last : (a b l c d : Bool) → (a ≡ true → c ≡ true) → (b ≡ true → d ≡ true) → (a || (l && b)) ≡ true → (c || (l && d)) ≡ true
  or_last true b l true d f g e = refl
  or_last true b l false d f g e = absurd (cc (f refl))
  or_last false b l true d f g e = refl
  or_last false true true false d f g e = g refl
  or_last false false true false d f g e = absurd (cc e)
  or_last false b false false d f g e = e

  all_fit : (strict : Bool) (g : Filling) (b : Trees) → fill strict g (Before b) ≡ true → fill strict g (After b) ≡ true
  all_fit strict refused none e = absurd (true≢false (sym e))
  all_fit strict refused (c ▸ b) e = absurd (true≢false (sym e))
  all_fit strict (these []) none e = absurd (true≢false (sym e))
  all_fit strict (these []) (c ▸ b) e = absurd (true≢false (sym e))
  all_fit strict (these (s ∷ ss)) none e = let (x, y) = and_parts (fits strict s t) (fill strict (these ss) after) e in both (fits strict s u) (fill strict (these ss) after) (k.fitting strict s x) y
  all_fit strict (these (s ∷ ss)) (c ▸ b) e = let (x, y) = and_parts (fits strict s c) (fill strict (these ss) (Before b)) e in both (fits strict s c) (fill strict (these ss) (After b)) x (all_fit strict (these ss) b y)
  all_fit strict (each s) none e = let (x, y) = and_parts (fits strict s t) (fill strict (each s) after) e in both (fits strict s u) (fill strict (each s) after) (k.fitting strict s x) y
  all_fit strict (each s) (c ▸ b) e = let (x, y) = and_parts (fits strict s c) (fill strict (each s) (Before b)) e in both (fits strict s c) (fill strict (each s) (After b)) x (all_fit strict (each s) b y)
  all_fit strict (each_or_last s l) none e =
      let (x, y) = and_parts (fits strict s t || (is_last after && fits strict l t)) (fill strict (each_or_last s l) after) e in
      both (fits strict s u || (is_last after && fits strict l u)) (fill strict (each_or_last s l) after)
      (or_last (fits strict s t) (fits strict l t) (is_last after) (fits strict s u) (fits strict l u) (k.fitting strict s) (k.fitting strict l) x) y
  all_fit strict (each_or_last s l) (c ▸ b) e =
      let (x, y) = and_parts (fits strict s c || (is_last (Before b) && fits strict l c)) (fill strict (each_or_last s l) (Before b)) e in
      both (fits strict s c || (is_last (After b) && fits strict l c)) (fill strict (each_or_last s l) (After b))
      (subst (λ z. (fits strict s c || (z && fits strict l c)) ≡ true) (sym (same_last b)) x) (all_fit strict (each_or_last s l) b y)
  all_fit strict (pieces g) none e = absurd (no_quasis g none e)
  all_fit strict (pieces g) (c ▸ b) e = absurd (no_quasis g (c ▸ b) e)

-- ---- a node over such children

-- the shapes of a pattern's parts, and of what declares it
pub data Holds : Shape → Type 0 where
  a_list : Holds shape.Listed
  an_object : Holds shape.ObjectPattern
  an_array : Holds shape.ArrayPattern
  a_property : (c : Bool) → Holds (shape.BindingProperty false c)
  a_rest : Holds shape.RestElement
  a_default : Holds shape.AssignmentPattern
  a_declaration : Holds shape.VariableDeclarator
  a_handler : Holds shape.CatchClause

pub holds : (h : Shape) → is_pattern_part h ≡ true → Holds h
holds shape.Listed e = a_list
holds shape.ObjectPattern e = an_object
holds shape.ArrayPattern e = an_array
holds (shape.BindingProperty false c) e = a_property c
holds shape.RestElement e = a_rest
holds shape.AssignmentPattern e = a_default
holds h e = absurd (true≢false (sym e))

absent_outlined : (t : Tree) → (outline t).absent ≡ is_absent t
absent_outlined (node shape.Absent xs n ts) = refl
absent_outlined (node h xs n ts) = refl

no_plain : (h : Shape) → Holds h → (xs : List Name) (n : ℕ) (ts : Trees) → plain_name (node h xs n ts) ≡ []
no_plain _ a_list xs n ts = refl
no_plain _ an_object xs n ts = refl
no_plain _ an_array xs n ts = refl
no_plain _ (a_property c) xs n ts = refl
no_plain _ a_rest xs n ts = refl
no_plain _ a_default xs n ts = refl
no_plain _ a_declaration xs n ts = refl
no_plain _ a_handler xs n ts = refl

no_body : (h : Shape) → Holds h → (a : Around) (n : ℕ) (t : Tree) (ts : Trees) → body_of a h n t ts ≡ []
no_body _ a_list a n t ts = refl
no_body _ an_object a n t ts = refl
no_body _ an_array a n t ts = refl
no_body _ (a_property c) a n t ts = refl
no_body _ a_rest a n t ts = refl
no_body _ a_default a n t ts = refl
no_body _ a_declaration a n t ts = refl
no_body _ a_handler a n t ts = refl

same_below : (h : Shape) → Holds h → (a : Around) (ts us : Trees) → below a h us ≡ below a h ts
same_below _ a_list a ts us = refl
same_below _ an_object a ts us = refl
same_below _ an_array a ts us = refl
same_below _ (a_property c) a ts us = refl
same_below _ a_rest a ts us = refl
same_below _ a_default a ts us = refl
same_below _ a_declaration a ts us = refl
same_below _ a_handler a ts us = refl

no_property : (h : Shape) → Holds h → property_below h ≡ (λ i. None)
no_property _ a_list = refl
no_property _ an_object = refl
no_property _ an_array = refl
no_property _ (a_property c) = refl
no_property _ a_rest = refl
no_property _ a_default = refl
no_property _ a_declaration = refl
no_property _ a_handler = refl

shows_whole : (h : Shape) → Holds h → showing h ≡ (λ i. Whole)
shows_whole _ a_list = refl
shows_whole _ an_object = refl
shows_whole _ an_array = refl
shows_whole _ (a_property c) = refl
shows_whole _ a_rest = refl
shows_whole _ a_default = refl
shows_whole _ a_declaration = refl
shows_whole _ a_handler = refl

no_jump : (h : Shape) → Holds h → (ts : Trees) (a : Targets) → is_bad_jump h ts a ≡ false
no_jump _ a_list ts a = refl
no_jump _ an_object ts a = refl
no_jump _ an_array ts a = refl
no_jump _ (a_property c) ts a = refl
no_jump _ a_rest ts a = refl
no_jump _ a_default ts a = refl
no_jump _ a_declaration ts a = refl
no_jump _ a_handler ts a = refl

same_aims : (h : Shape) → Holds h → (ts us : Trees) (a : Targets) → targets_of h us a ≡ targets_of h ts a
unfolding targets_of
same_aims _ a_list ts us a = refl
same_aims _ an_object ts us a = refl
same_aims _ an_array ts us a = refl
same_aims _ (a_property c) ts us a = refl
same_aims _ a_rest ts us a = refl
same_aims _ a_default ts us a = refl
same_aims _ a_declaration ts us a = refl
same_aims _ a_handler ts us a = refl

writable : (h : Shape) → Holds h → fixity_by h ≡ Writable
writable _ a_list = refl
writable _ an_object = refl
writable _ an_array = refl
writable _ (a_property c) = refl
writable _ a_rest = refl
writable _ a_default = refl
writable _ a_declaration = refl
writable _ a_handler = refl

no_piece : (h : Shape) → Holds h → is_piece h ≡ false
no_piece _ a_list = refl
no_piece _ an_object = refl
no_piece _ an_array = refl
no_piece _ (a_property c) = refl
no_piece _ a_rest = refl
no_piece _ a_default = refl
no_piece _ a_declaration = refl
no_piece _ a_handler = refl

items_written : (p : Position) (m i : ℕ) → is_written (item_position p m i) ≡ true
items_written StatementList m i = refl
items_written BodyList m i = refl
items_written ArgumentList m i = refl
items_written (SequenceList s) m i = refl
items_written TemplateList m i = refl
items_written p m i = refl

-- its children are written
all_written : (h : Shape) → Holds h → (p : Position) (m i : ℕ) → is_written (child_position h p m i) ≡ true
all_written _ a_list p m i = items_written p m i
all_written _ an_object p m i = refl
all_written _ an_array p m i = refl
all_written _ (a_property true) p m zero = refl
all_written _ (a_property false) p m zero = refl
all_written _ (a_property c) p m (suc i) = refl
all_written _ a_rest p m i = refl
all_written _ a_default p m zero = refl
all_written _ a_default p m (suc i) = refl
all_written _ a_declaration p m zero = refl
all_written _ a_declaration p m (suc i) = refl
all_written _ a_handler p m i = refl

any_parts : (h : Shape) → Holds h → (c : Class) (ts : Trees) → has_its_parts c h ts ≡ true
any_parts _ a_list (a_loop_left b) ts = refl
any_parts _ an_object (a_loop_left b) ts = refl
any_parts _ an_array (a_loop_left b) ts = refl
any_parts _ (a_property k) (a_loop_left b) ts = refl
any_parts _ a_rest (a_loop_left b) ts = refl
any_parts _ a_default (a_loop_left b) ts = refl
any_parts _ a_declaration (a_loop_left b) ts = refl
any_parts _ a_handler (a_loop_left b) ts = refl
any_parts _ a_list a_method ts = refl
any_parts _ an_object a_method ts = refl
any_parts _ an_array a_method ts = refl
any_parts _ (a_property k) a_method ts = refl
any_parts _ a_rest a_method ts = refl
any_parts _ a_default a_method ts = refl
any_parts _ a_declaration a_method ts = refl
any_parts _ a_handler a_method ts = refl
any_parts _ a_list c ts = refl
any_parts _ an_object c ts = refl
any_parts _ an_array c ts = refl
any_parts _ (a_property k) c ts = refl
any_parts _ a_rest c ts = refl
any_parts _ a_default c ts = refl
any_parts _ a_declaration c ts = refl
any_parts _ a_handler c ts = refl

-- a frame of it: its outline shows all
numbered : (G : ℕ → List ℕ → Type 0) (h : Shape) (xs : List Name) (n : ℕ) (vs ws : Trees) → AllShow G vs ws → FramesShown none_gone G (record { number = suc n; property = None; outline = node h xs (suc n) vs; globals = is_among [] } ∷ []) (record { number = suc n; property = None; outline = node h xs (suc n) ws; globals = is_among [] } ∷ [])
numbered G h xs n vs ws a = one_shown none_gone G (record { number = suc n; property = None; outline = node h xs (suc n) vs; globals = is_among [] }) (record { number = suc n; property = None; outline = node h xs (suc n) ws; globals = is_among [] }) (record { number = refl; property = refl; outline = inl (over_shown G h xs (suc n) vs ws a); globals = refl })

abbrev Framed : (ℕ → List ℕ → Type 0) → Shape → List Name → ℕ → Trees → Trees → Type 0
Framed G h xs n ts us = FramesShown none_gone G (frame_of None h n (outline_of h xs n ts) (globals h ts)) (frame_of None h n (outline_of h xs n us) (globals h us))

framed : (h : Shape) → Holds h → (G : ℕ → List ℕ → Type 0) (xs : List Name) (n : ℕ) (ts us : Trees) → AllShow G (shown_from (λ i. Whole) 0 ts) (shown_from (λ i. Whole) 0 us) → Framed G h xs n ts us
framed _ a_list G xs zero ts us a = shown_themselves none_gone G []
framed _ a_list G xs (suc n) ts us a = numbered G shape.Listed xs n (shown_from (λ i. Whole) 0 ts) (shown_from (λ i. Whole) 0 us) a
framed _ an_object G xs zero ts us a = shown_themselves none_gone G []
framed _ an_object G xs (suc n) ts us a = numbered G shape.ObjectPattern xs n (shown_from (λ i. Whole) 0 ts) (shown_from (λ i. Whole) 0 us) a
framed _ an_array G xs zero ts us a = shown_themselves none_gone G []
framed _ an_array G xs (suc n) ts us a = numbered G shape.ArrayPattern xs n (shown_from (λ i. Whole) 0 ts) (shown_from (λ i. Whole) 0 us) a
framed _ (a_property c) G xs zero ts us a = shown_themselves none_gone G []
framed _ (a_property c) G xs (suc n) ts us a = numbered G (shape.BindingProperty false c) xs n (shown_from (λ i. Whole) 0 ts) (shown_from (λ i. Whole) 0 us) a
framed _ a_rest G xs zero ts us a = shown_themselves none_gone G []
framed _ a_rest G xs (suc n) ts us a = numbered G shape.RestElement xs n (shown_from (λ i. Whole) 0 ts) (shown_from (λ i. Whole) 0 us) a
framed _ a_default G xs zero ts us a = shown_themselves none_gone G []
framed _ a_default G xs (suc n) ts us a = numbered G shape.AssignmentPattern xs n (shown_from (λ i. Whole) 0 ts) (shown_from (λ i. Whole) 0 us) a
framed _ a_declaration G xs zero ts us a = shown_themselves none_gone G []
framed _ a_declaration G xs (suc n) ts us a = numbered G shape.VariableDeclarator xs n (shown_from (λ i. Whole) 0 ts) (shown_from (λ i. Whole) 0 us) a
framed _ a_handler G xs zero ts us a = shown_themselves none_gone G []
framed _ a_handler G xs (suc n) ts us a = numbered G shape.CatchClause xs n (shown_from (λ i. Whole) 0 ts) (shown_from (λ i. Whole) 0 us) a

with_fewer : (n k : ℕ) (xs ys : List ℕ) → count_of k ys ≤ count_of k xs → count_of k (with_number n ys) ≤ count_of k (with_number n xs)
with_fewer zero k xs ys e = e
with_fewer (suc n) k xs ys e = omega (arith, e)

module _ (h : Shape) (o : Holds h) (xs : List Name) (n : ℕ) (before after : Trees) (t u : Tree) (k : Alike t u) where
  abbrev ts : Trees
  ts = append before (t ▸ after)

  abbrev us : Trees
  us = append before (u ▸ after)

  abbrev earlier : Tree
  earlier = node h xs n ts

  abbrev later : Tree
  later = node h xs n us

  same_names : (d : Declared) → names_of d later ≡ names_of d earlier
  unfolding names_of
  same_names d = λ i. names_by (place_of d h) xs (same_first_names t u k after before i) (same_all_names t u k after declaring.Bound before i) (same_all_names t u k after d before i)

  same_body : body_names later ≡ body_names earlier
  unfolding body_names
  same_body = λ i. if is_statement_list h then same_all_body_names t u k after before i else (same_names declaring.Lexical i ++ same_names declaring.Hoisted i)

  same_declarations : (d : Declared) (l : Bool) (q : Path) → declarations d l q later ≡ declarations d l q earlier
  unfolding declarations
  same_declarations d l q = λ i. choose_by (place_of d h) (own_declarations l q xs) (same_first_declarations t u k after l q before i) (same_all_declarations t u k after declaring.Bound l q 0 before i) (same_all_declarations t u k after d l q 0 before i)

  same_as_body : (b : Bool) (q : Path) → body_declarations b q later ≡ body_declarations b q earlier
  unfolding body_declarations
  same_as_body b q = λ i. if holds_statements h then same_all_as_body t u k after b q 0 before i else (same_declarations declaring.Lexical (not (b && is_function_shape h)) q i ++ same_declarations declaring.Hoisted false q i)

  same_targets : (a : Targets) (q : Path) → early_jumps a q later ≡ early_jumps a q earlier
  unfolding early_jumps
  same_targets a q =
      ap (λ b. (if b then q ∷ [] else []) ++ all_early_jumps (targets_of h us a) q 0 us) (no_jump h o us a ∙ sym (no_jump h o ts a))
      ∙ ap (λ f. (if is_bad_jump h ts a then q ∷ [] else []) ++ all_early_jumps f q 0 us) (same_aims h o ts us a)
      ∙ ap (λ ds. (if is_bad_jump h ts a then q ∷ [] else []) ++ ds) (same_all_targets t u k after (targets_of h ts a) q 0 before)

  fewer : (j : ℕ) → count_of j (numbers later) ≤ count_of j (numbers earlier)
  unfolding numbers
  fewer j = with_fewer n j (all_numbers ts) (all_numbers us) (fewer_numbers t u k after before j)

  bodies_of : (a : Around) → BodiesKept (bodies a earlier) (bodies a later)
  bodies_of a =
      subst (λ bs. BodiesKept (bs ++ bodies_from (below a h ts) 0 ts) (bodies a later)) (sym (no_body h o a n earlier ts))
      (subst (λ bs. BodiesKept (bodies_from (below a h ts) 0 ts) (bs ++ bodies_from (below a h us) 0 us)) (sym (no_body h o a n later us))
      (subst (λ f. BodiesKept (bodies_from (below a h ts) 0 ts) (bodies_from f 0 us)) (sym (same_below h o a ts us)) (all_bodies t u k after (below a h ts) 0 before)))

  -- what the part gives, all give
  gives : (a : Around) (m : ℕ) (s : List ℕ) → Given (below a h ts (place t u k after 0 before)) t m s → Given a earlier m s
  gives a = given_among nothing (bodies (below a h ts (place t u k after 0 before)) t) (bodies a earlier) (λ b x. Contains-append_right (body_of a h n earlier ts) (bodies_from (below a h ts) 0 ts) b (among t u k after (below a h ts) 0 before b x))

  shows : (a : Around) → Shows (Given a earlier) (part t) (part u)
  shows a = let inner = below a h ts (place t u k after 0 before) in shows_more (Given inner t) (Given a earlier) (gives a) (part t) (part u) (k.part inner)

  part_of : (m : ℕ) (a : Around) → (G : ℕ → List ℕ → Type 0) → Shows G (part t) (part u) → Shows G (part (node h xs m ts)) (part (node h xs m us))
  part_of zero a G s = over_shown G (in_full h) xs 0 (keyed h (parts ts)) (keyed h (parts us)) (keyed_shown G h (parts ts) (parts us) (all_parts t u k after G s before))
  part_of (suc m) a G s = shows_itself G (node h xs (suc m) none)

  frames_of : (a : Around) → FramesShown none_gone (Given a earlier) (frames None earlier) (frames None later)
  frames_of a =
      let G = Given a earlier in
      let inner = below a h ts (place t u k after 0 before) in
      each_shown none_gone G (frame_of None h n (outline_of h xs n ts) (globals h ts)) (frames_from (property_below h) 0 ts) (frame_of None h n (outline_of h xs n us) (globals h us)) (frames_from (property_below h) 0 us)
      (framed h o G xs n ts us (all_shown t u k after G (shows a) 0 before))
      (subst (λ f. FramesShown none_gone G (frames_from f 0 ts) (frames_from f 0 us)) (sym (no_property h o)) (all_frames t u k after G (frames_more none_gone (Given inner t) G (gives a) (frames None t) (frames None u) (k.frames inner)) 0 before))

  fixed_of : (x : Variable) → fixed_by earlier x ≡ fixed_by later x
  fixed_of x = of_children h xs n ts x (writable h o) ∙ all_fixed t u k after before x ∙ sym (of_children h xs n us x (writable h o))

  lighter_of : (p : Position) → is_written p ≡ true → weight p later < weight p earlier
  lighter_of p e =
      let own = ap (own_weight p h xs) (same_outlines t u k after before) in
      let counted = ap (λ m. weights (child_position h p m) us) (same_count t u k after before) in
      let falls = all_lighter t u k after (child_position h p (count ts)) (all_written h o p (count ts)) before in
      omega (arith, own, counted, falls)

  fitting_of : (strict : Bool) (s : Slot) → fits strict s earlier ≡ true → fits strict s later ≡ true
  fitting_of strict s e =
      let (w, f) = and_parts (is_whole (class_of s) h xs n ts) (fill (is_strict_in strict h) (filling strict s h) ts) e in
      let c = class_of s in
      let same : is_whole c h xs n us ≡ is_whole c h xs n ts = ap (λ b. has_names h xs && (has_its_number c h n && (has_plain_fields h && b))) (any_parts h o c us ∙ sym (any_parts h o c ts)) in
      both (is_whole c h xs n us) (fill (is_strict_in strict h) (filling strict s h) us) (same ∙ w) (all_fit t u k after (is_strict_in strict h) (filling strict s h) before f)

  -- a declarator has the name that it had
  same_written : (v : Use) (env : Environment) (b : Trees) → written_name v env (append b (t ▸ after)) ≡ written_name v env (append b (u ▸ after))
  same_written v env none = by after
    where
      by : (a : Trees) → written_name v env (t ▸ a) ≡ written_name v env (u ▸ a)
      by none = refl
      by (i ▸ a) = ap (λ ns. if gives_value v (is_absent i) then other_name v env ns else []) (sym k.plain)
  same_written v env (c ▸ none) = ap (λ a. if gives_value v a then other_name v env (plain_name c) else []) (sym (absent_outlined t) ∙ ap (λ l. l.absent) (sym k.outlined) ∙ absent_outlined u)
  same_written v env (c ▸ (d ▸ b)) = refl

  own_of : (v : Use) (env : Environment) → OwnScoped v env h xs ts → OwnScoped v env h xs us
  own_of v env = by h o
    where
      by : (g : Shape) → Holds g → OwnScoped v env g xs ts → OwnScoped v env g xs us
      by _ a_declaration a = subst (AreNames xs) (same_written v env before) a
      by _ a_list a = a
      by _ an_object a = a
      by _ an_array a = a
      by _ (a_property c) a = a
      by _ a_rest a = a
      by _ a_default a = a
      by _ a_handler a = a

  scoped_of : ((v : Use) → opened v h us ≡ opened v h ts) → (v : Use) (env : Environment) → Scoped v env earlier → Scoped v env later
  unfolding Scoped
  scoped_of opens v env a = (own_of v env a.0, subst (λ f. AllScoped f (use_of h v) 0 env us) (sym (opens v)) (all_scoped t u k after (opened v h ts) (use_of h v) 0 env before a.1))

  symbols_of : ((v : Use) → opened v h us ≡ opened v h ts) → (v : Use) → declared_in v later ≡ declared_in v earlier
  unfolding declared_in
  symbols_of opens v = ap (λ f. declared_from f (use_of h v) 0 us) (opens v) ∙ same_declared_from t u k after (opened v h ts) (use_of h v) 0 before

  once_of : ((q : Path) → scope_declarations h q us ≡ scope_declarations h q ts) → (q : Path) → early_names q later ≡ early_names q earlier
  unfolding early_names
  once_of clash q = ap (λ ds. clashing [] ds ++ all_early_names q 0 us) (clash q) ∙ ap (λ ds. clashing [] (scope_declarations h q ts) ++ ds) (same_all_once t u k after q 0 before)

  -- where the scopes that it opens and the names that clash in it are the same
  pub alike_over : ((v : Use) → opened v h us ≡ opened v h ts) → ((q : Path) → scope_declarations h q us ≡ scope_declarations h q ts) → Alike earlier later
  alike_over opens clash = record {
    tree = kids_same h xs n ts us (same_summaries t u k after before) (same_meaning t u k after before);
    names = same_names;
    body = same_body;
    patterned = refl;
    plain = no_plain h o xs n us ∙ sym (no_plain h o xs n ts);
    scoped = scoped_of opens;
    symbols = symbols_of opens;
    numbers = fewer;
    declarations = same_declarations;
    as_body = same_as_body;
    once = once_of clash;
    targets = same_targets;
    bodies = bodies_of;
    part = λ a. part_of n a (Given a earlier) (shows a);
    frames = frames_of;
    fixed = fixed_of;
    declared = ap (λ ds. declared_by h xs ++ ds) (all_declared t u k after before);
    outlined = ap (outline_by h) (same_outlines t u k after before);
    lighter = lighter_of;
    piece = no_piece h o;
    fitting = fitting_of;
  }

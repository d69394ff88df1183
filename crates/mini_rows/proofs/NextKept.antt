-- A declaration of a name that the next declarator reads first, and what is written for it: what they have.
use Rattle.std.specs.Prelude.{ℕ, ◌≤◌, ◌≡◌, refl, Bool, true, false, not, ◌||◌, List, [], ◌∷◌, ◌++◌, None, ◌+◌, Option}
use Rattle.std.proofs.Common.{ap, ◌∙◌, sym, subst, subst₂, arith}
use Rattle.std.proofs.lemmas.List.{append-nil}
use Rattle.mini_model.specs.declared.kind.VariableDeclarationKind.{VariableDeclarationKind}
use Rattle.mini_model.specs.declared.name.Name.{Name}
use Rattle.mini_model.specs.declared.name.SymbolId.{SymbolId}
use Rattle.mini_model.specs.declared.shape.Shape.TheVariants as shape
use Rattle.mini_model.specs.Tree.{Tree, Trees, none, ◌▸◌, listed, identifier, is_absent}
use Rattle.mini_model.specs.Paths.{append}
use Rattle.mini_laws.specs.declared.names.Declared.TheVariants as declared
use Rattle.mini_laws.specs.declared.names.Targets.{Targets}
use Rattle.mini_laws.specs.declared.names.Use.{Use}
use Rattle.mini_laws.specs.declared.names.Use.TheVariants.{Read}
use Rattle.mini_laws.specs.DeclaredNames.{names_of, all_names, body_names, has_inner}
use Rattle.mini_laws.specs.Resolved.{Environment}
use Rattle.mini_laws.specs.Scopes.{use_of, scopes_by}
use Rattle.mini_laws.specs.Scoped.{Scoped, Unmentioned}
use Rattle.mini_laws.specs.Symbols.{declared as declared_in, times}
use Rattle.mini_laws.specs.Early.{own_declarations, scope_declarations, early_names, targets_of, early_jumps}
use Rattle.mini_laws.specs.Value.{Variable, choose, is_in, variable_eq, variable_of}
use Rattle.mini_laws.specs.Naming.{is_lexical}
use Rattle.mini_laws.specs.State.{Writable}
use Rattle.mini_laws.specs.Fixity.{fixity_by, stricter, fixed_by}
use Rattle.mini_laws.specs.Bodies.{Body, Around, bodies}
use Rattle.mini_kept.specs.AlikeBodies.{BodiesKept}
use Rattle.mini_kept.specs.Carried.{numbers}
use Rattle.mini_kept.specs.Declaring.{declared as names_declared}
use Rattle.mini_kept.specs.Frames.{Frame, frames, FramesKept}
use Rattle.mini_kept.specs.KeepsNames.{count_of}
use Rattle.mini_kept.specs.Loosely.{symbol}
use Rattle.mini_kept.specs.SameNames.{NoMoreClash}
use Rattle.mini_laws.proofs.Changes.{times_both}
use Rattle.mini_kept.proofs.Anywhere.{once_anywhere, targets_anywhere}
use Rattle.mini_kept.proofs.Below.{both_counts, empty_both, both_empty}
use Rattle.mini_kept.proofs.BodyLists.{both_of as both_bodies}
use Rattle.mini_kept.proofs.FrameLists.{both_of as both_frames}
use Rattle.mini_kept.proofs.Clashes.{no_more_same, no_more_both}
use Rattle.mini_kept.proofs.Fixed.{of_children}
use Rattle.mini_kept.proofs.Unplaced.{as_body}
use Rattle.mini_rows.specs.Lists.{declaration}
use Rattle.mini_rows.specs.Declarations.{binding, declarator}
use Rattle.mini_rows.specs.Sketches.{Asked, AsWholeItem, AsValue, AsWholeList, Leap}
use Rattle.mini_rows.specs.Unused.{names, any_names, declared_among, declared_left, is_first, put_first}
use Rattle.mini_rows.proofs.Arranging.{Any, Local, Summed}
use Rattle.mini_rows.proofs.ArrangedNames.{or_both, both_or, ScopedAs, scoped_local, symbol_times, symbols_summed, number_times, numbers_summed, InnerIf, inner_local, Once, once_local, HasTarget, Aimed, aimed_local}
use Rattle.mini_rows.proofs.ArrangedBodies.{split_bodies, split_frames, split_names, both_names, quiet, HasBodies, bodies_local, HasFrames, frames_local, Among, Declares, declares_local, FixedBy, fixed_local, rank}
use Rattle.mini_rows.proofs.DeclaredKept.{none_in, made, scoped_left, symbols_down, symbols_left, numbers_left, inner_left, inner_down, inner_up, inner_list, once_left, once_down, targets_left, targets_down, frames_left, bodies_left, declares_left, fixed_left, fixed_list, unmentioned_left, lexical_names, lexical_names_left, hoists_nothing, hoists_nothing_left, body_names_left, clash_less}
use Rattle.mini_rows.proofs.ListKeptDeclarations.{split_rank, both_rank, all_both, is_var, body_are, lets, own_fixed, own_both_fixed, fixed_down, fixed_up, either_up, either_down, declarations_are, used, scoped_down, numbers_are, declared_are, frames_are, bodies_are}
use Rattle.mini_rows.proofs.ListKeptStretch.{stretched, sum_stretched}
use Rattle.mini_rows.proofs.SingleUse.{Step, led, Well, Path, path, swapped, taken, swapped_sum, unnamed, found, swapped_back, both_there, plain_there}
use Rattle.mini_rows.proofs.UnusedKept.{LeavesThere, NamesThere, DeclaresThere, alone_stricter}
use Rattle.mini_rows.proofs.UnusedNames.{Other, all_other}
use Rattle.mini_terms.specs.Reading.{is_plain_part}
use Rattle.mini_rows.proofs.WrittenNames.{nameless_over}

or_nothing : (b : Bool) → (b || false) ≡ b
or_nothing true = refl
or_nothing false = refl

-- ---- a declarator has what it binds and what its initializer has

abbrev pub given : Tree → Tree → Tree
given id v = declarator id v

module _ (id v : Tree) where
  inner_given : has_inner (given id v) ≡ (has_inner id || (has_inner v || false))
  unfolding has_inner
  inner_given = refl

  fixed_given : (z : Variable) → fixed_by (given id v) z ≡ stricter (fixed_by id z) (stricter (fixed_by v z) Writable)
  fixed_given z = of_children shape.VariableDeclarator [] 0 (id ▸ (v ▸ none)) z refl

  declared_given : names_declared (given id v) ≡ names_declared id ++ (names_declared v ++ [])
  declared_given = refl

  frames_given : frames None (given id v) ≡ frames None id ++ (frames None v ++ [])
  frames_given = refl

  bodies_given : (r : Around) → bodies (quiet r) (given id v) ≡ bodies (quiet r) id ++ (bodies (quiet r) v ++ [])
  bodies_given r = refl

  numbers_given : numbers (given id v) ≡ numbers id ++ (numbers v ++ [])
  unfolding numbers
  numbers_given = refl

  symbols_given : (u : Use) → declared_in u (given id v) ≡ declared_in (use_of shape.VariableDeclarator u 0) id ++ (declared_in Read v ++ [])
  unfolding declared_in scopes_by
  symbols_given u = refl

  once_given : early_names [] (given id v) ≡ early_names (0 ∷ []) id ++ (early_names (1 ∷ []) v ++ [])
  unfolding early_names scope_declarations
  once_given = refl

  jumps_given : (g : Targets) → early_jumps g [] (given id v) ≡ early_jumps g (0 ∷ []) id ++ (early_jumps g (1 ∷ []) v ++ [])
  unfolding early_jumps targets_of
  jumps_given g = refl

  -- of its initializer

  pub inner_value : (b : Bool) → InnerIf b AsWholeItem (given id v) → InnerIf b AsValue v
  inner_value b q = sym (ap (λ c. c || b) (or_nothing (has_inner v))) ∙ (or_both b (has_inner id) (has_inner v || false) (sym (ap (λ c. c || b) inner_given) ∙ q)).1

  pub fixed_value : (z : Variable) (j : ℕ) → FixedBy z j AsWholeItem (given id v) → FixedBy z j AsValue v
  fixed_value z j q =
      let (own, rest) = split_rank j (fixed_by id z) (stricter (fixed_by v z) Writable) (subst (λ h. rank h ≤ j) (fixed_given z) q) in
      (split_rank j (fixed_by v z) Writable rest).0

  pub among_value : (all : List Name) → Among all (names_declared (given id v)) → Among all (names_declared v)
  among_value all q = (split_names all (names_declared v) [] (split_names all (names_declared id) (names_declared v ++ []) q).1).0

  pub frames_value : (all : List Frame) → HasFrames all AsWholeItem (given id v) → HasFrames all AsValue v
  frames_value all q = (split_frames all (frames None v) [] (split_frames all (frames None id) (frames None v ++ []) q).1).0

  pub bodies_value : (all : List Body) (r : Around) → HasBodies all r AsWholeItem (given id v) → HasBodies all r AsValue v
  bodies_value all r q = (split_bodies all (bodies (quiet r) v) [] (split_bodies all (bodies (quiet r) id) (bodies (quiet r) v ++ []) q).1).0

  pub scoped_value : (u : Use) (env : Environment) → Scoped u env (given id v) → Scoped Read env v
  unfolding Scoped scopes_by
  scoped_value u env a = subst (λ r. Scoped Read r v) (append-nil (env ++ []) ∙ append-nil env) a.1.1.0

  pub once_value : Once AsWholeItem (given id v) → Once AsValue v
  once_value q = once_anywhere (1 ∷ []) [] v (empty_both (early_names (1 ∷ []) v) [] (empty_both (early_names (0 ∷ []) id) (early_names (1 ∷ []) v ++ []) (sym once_given ∙ q)).1).0

  pub aimed_value : (g : Targets) → Aimed g AsWholeItem (given id v) → Aimed g AsValue v
  aimed_value g q = targets_anywhere g (1 ∷ []) [] v (empty_both (early_jumps g (1 ∷ []) v) [] (empty_both (early_jumps g (0 ∷ []) id) (early_jumps g (1 ∷ []) v ++ []) (sym (jumps_given g) ∙ q)).1).0

  -- with another initializer
  module _ (t : Tree) where
    pub inner_other : (b : Bool) → InnerIf b AsWholeItem (given id v) → InnerIf b AsValue t → InnerIf b AsWholeItem (declarator id t)
    unfolding has_inner
    inner_other b q p = both_or b (has_inner id) (has_inner t || false) (or_both b (has_inner id) (has_inner v || false) (sym (ap (λ c. c || b) inner_given) ∙ q)).0 (ap (λ c. c || b) (or_nothing (has_inner t)) ∙ p)

    pub fixed_other : (z : Variable) (j : ℕ) → FixedBy z j AsWholeItem (given id v) → FixedBy z j AsValue t → FixedBy z j AsWholeItem (declarator id t)
    fixed_other z j q p =
        let own = (split_rank j (fixed_by id z) (stricter (fixed_by v z) Writable) (subst (λ h. rank h ≤ j) (fixed_given z) q)).0 in
        subst (λ h. rank h ≤ j) (sym (of_children shape.VariableDeclarator [] 0 (id ▸ (t ▸ none)) z refl)) (both_rank j (fixed_by id z) (stricter (fixed_by t z) Writable) own (both_rank j (fixed_by t z) Writable p (omega arith)))

    pub among_other : (all : List Name) → Among all (names_declared (given id v)) → Among all (names_declared t) → Among all (names_declared (declarator id t))
    among_other all q p = both_names all (names_declared id) (names_declared t ++ []) (split_names all (names_declared id) (names_declared v ++ []) q).0 (subst (Among all) (sym (append-nil (names_declared t))) p)

    pub frames_other : (all : List Frame) → HasFrames all AsWholeItem (given id v) → HasFrames all AsValue t → HasFrames all AsWholeItem (declarator id t)
    frames_other all q p = both_frames all (frames None id) (frames None t ++ []) (split_frames all (frames None id) (frames None v ++ []) q).0 (subst (FramesKept all) (sym (append-nil (frames None t))) p)

    pub bodies_other : (all : List Body) (r : Around) → HasBodies all r AsWholeItem (given id v) → HasBodies all r AsValue t → HasBodies all r AsWholeItem (declarator id t)
    bodies_other all r q p = both_bodies all (bodies (quiet r) id) (bodies (quiet r) t ++ []) (split_bodies all (bodies (quiet r) id) (bodies (quiet r) v ++ []) q).0 (subst (BodiesKept all) (sym (append-nil (bodies (quiet r) t))) p)

    -- where both are there
    pub scoped_other : is_absent v ≡ is_absent t → (u : Use) (env : Environment) → Scoped u env (given id v) → Scoped Read env t → Scoped u env (declarator id t)
    unfolding Scoped scopes_by
    scoped_other same u env a b = (nameless_over u env id v t same a.0, (a.1.0, (subst (λ r. Scoped Read r t) (sym (append-nil (env ++ []) ∙ append-nil env)) b, tt)))

    pub once_other : Once AsWholeItem (given id v) → Once AsValue t → Once AsWholeItem (declarator id t)
    unfolding early_names scope_declarations
    once_other q p = both_empty (early_names (0 ∷ []) id) (early_names (1 ∷ []) t ++ []) (empty_both (early_names (0 ∷ []) id) (early_names (1 ∷ []) v ++ []) (sym once_given ∙ q)).0 (both_empty (early_names (1 ∷ []) t) [] (once_anywhere [] (1 ∷ []) t p) refl)

    pub aimed_other : (g : Targets) → Aimed g AsWholeItem (given id v) → Aimed g AsValue t → Aimed g AsWholeItem (declarator id t)
    unfolding early_jumps targets_of
    aimed_other g q p = both_empty (early_jumps g (0 ∷ []) id) (early_jumps g (1 ∷ []) t ++ []) (empty_both (early_jumps g (0 ∷ []) id) (early_jumps g (1 ∷ []) v ++ []) (sym (jumps_given g) ∙ q)).0 (both_empty (early_jumps g (1 ∷ []) t) [] (targets_anywhere g [] (1 ∷ []) t p) refl)

-- of a name, which has nothing itself
inner_alone : (x : Name) (v : Tree) (b : Bool) → InnerIf b AsValue v → InnerIf b AsWholeItem (given (binding x) v)
unfolding has_inner
inner_alone x v b q = ap (λ c. c || b) (or_nothing (has_inner v)) ∙ q

fixed_alone : (x : Name) (v : Tree) (z : Variable) (j : ℕ) → FixedBy z j AsValue v → FixedBy z j AsWholeItem (given (binding x) v)
fixed_alone x v z j q = subst (λ h. rank h ≤ j) (sym (fixed_given (binding x) v z ∙ alone_stricter (fixed_by v z))) q

-- how often a number or a symbol stands in it
pub number_sum : (k : ℕ) (id v : Tree) → number_times k AsWholeItem (given id v) ≡ count_of k (numbers id) + number_times k AsValue v
number_sum k id v = ap (count_of k) (numbers_given id v) ∙ both_counts k (numbers id) (numbers v ++ []) ∙ ap (λ ns. count_of k (numbers id) + count_of k ns) (append-nil (numbers v))

pub symbol_sum : (u : Use) (z : Option SymbolId) (id v : Tree) → symbol_times u z AsWholeItem (given id v) ≡ times z (declared_in (use_of shape.VariableDeclarator u 0) id) + symbol_times u z AsValue v
symbol_sum u z id v =
    let own = declared_in (use_of shape.VariableDeclarator u 0) id in
    ap (times z) (symbols_given id v u) ∙ times_both z own (declared_in Read v ++ []) ∙ ap (λ ns. times z own + times z ns) (append-nil (declared_in Read v))

-- ---- two neighbours, and one

module _ (K : VariableDeclarationKind) (x : Name) (k : ℕ) (e : x.symbol ≡ symbol k) (first : Trees) (init id : Tree) (last : Trees) (ss : List Step) (w : Well AsValue ss) (r : Name) (f : any_names x first ≡ false) (g : any_names x (given id (led ss init) ▸ last) ≡ false) where
  abbrev value : Tree
  value = found ss (identifier r)

  abbrev put : Tree
  put = led ss init

  abbrev two : Trees
  two = given (binding x) init ▸ (given id value ▸ none)

  abbrev one : Trees
  one = given id put ▸ none

  abbrev whole : Trees
  whole = append first (given (binding x) init ▸ (given id value ▸ last))

  abbrev left : Trees
  left = append first (given id put ▸ last)

  -- a property of the list is one of the list that is left
  shorter : (J : Leap → Type 0) (Q : Asked → Tree → Type 0) → Local J Q → ((d v : Tree) → Q AsWholeItem (given d v) → Q AsValue v) → (Q AsWholeItem (given id value) → Q AsValue put → Q AsWholeItem (given id put)) → Q AsWholeList (listed whole) → Q AsWholeList (listed left)
  shorter J Q l down up = stretched J Q l first last two one (λ a. (up a.1.0 (swapped J Q l AsValue ss w (identifier r) init (λ z. down (binding x) init a.0) (down id value a.1.0)), tt))

  longer : (J : Leap → Type 0) (Q : Asked → Tree → Type 0) → Local J Q → ((d v : Tree) → Q AsWholeItem (given d v) → Q AsValue v) → (Q AsValue init → Q AsWholeItem (given (binding x) init)) → (Q AsWholeItem (given id put) → Q AsValue value → Q AsWholeItem (given id value)) → Q AsValue (identifier r) → Q AsWholeList (listed left) → Q AsWholeList (listed whole)
  longer J Q l down alone up o = stretched J Q l first last one two (λ a. let q = down id put a.0 in (alone (taken J Q l AsValue ss w init q), (up a.0 (swapped_back J Q l AsValue ss w init (identifier r) (λ z. o) q), tt)))

  -- and what is counted
  fewer : (m : Asked → Tree → ℕ) → Summed m → (n : Tree → ℕ) → ((d v : Tree) → m AsWholeItem (given d v) ≡ n d + m AsValue v) → m AsWholeList (listed left) ≤ m AsWholeList (listed whole)
  fewer m l n h =
      sum_stretched m l first last two one (
      let both = swapped_sum m l AsValue ss w (identifier r) init in
      let a = h (binding x) init in
      let b = h id value in
      let c = h id put in
      omega (arith, both, a, b, c)
      )

  own_less : (z : Variable) (j : ℕ) → rank (own_fixed j K z whole) ≤ j → rank (own_fixed j K z left) ≤ j
  own_less z j p =
      let F = fixity_by (shape.VariableDeclaration K) in
      let (a, b) = either_down j F (is_in z (lets first)) (is_in z (lets (given (binding x) init ▸ (given id value ▸ last)))) (subst (λ h. rank h ≤ j) (own_both_fixed j K z first (given (binding x) init ▸ (given id value ▸ last))) p) in
      let (c, d) = either_down j F (variable_eq (variable_of x) z) (is_in z (lets (given id value ▸ last))) b in
      subst (λ h. rank h ≤ j) (sym (own_both_fixed j K z first (given id put ▸ last))) (either_up j F (is_in z (lets first)) (is_in z (lets (given id put ▸ last))) a d)

  own_more : (z : Variable) (j : ℕ) → variable_eq (variable_of x) z ≡ false → rank (own_fixed j K z left) ≤ j → rank (own_fixed j K z whole) ≤ j
  own_more z j o p =
      let F = fixity_by (shape.VariableDeclaration K) in
      let (a, b) = either_down j F (is_in z (lets first)) (is_in z (lets (given id put ▸ last))) (subst (λ h. rank h ≤ j) (own_both_fixed j K z first (given id put ▸ last)) p) in
      subst (λ h. rank h ≤ j) (sym (own_both_fixed j K z first (given (binding x) init ▸ (given id value ▸ last))))
      (either_up j F (is_in z (lets first)) (is_in z (lets (given (binding x) init ▸ (given id value ▸ last)))) a (subst (λ c. rank (choose (choose c true (is_in z (lets (given id value ▸ last)))) F Writable) ≤ j) (sym o) b))

  no_inner : (b : Bool) → InnerIf b AsValue (identifier r)
  unfolding has_inner
  no_inner b = refl

  abbrev earlier : Trees
  earlier = made K whole ▸ none

  abbrev later : Trees
  later = declared_left K left ▸ none

  -- where the initializer is there
  pub there_leaves : is_absent init ≡ false → LeavesThere x earlier later
  unfolding Unmentioned
  there_leaves some = record {
    inner = λ b a. (inner_left K b left (shorter Any (InnerIf b) (inner_local b) (λ d v q. inner_value d v b q) (λ q p. inner_other id value put b q p) (inner_down K b whole a.0)), tt);
    inner_back = λ b a. (inner_up K b whole (longer Any (InnerIf b) (inner_local b) (λ d v q. inner_value d v b q) (inner_alone x init b) (λ q p. inner_other id put value b q p) (no_inner b) (inner_list K b left a.0)), tt);
    scoped = λ env a. (scoped_left K env left (shorter Any (ScopedAs (used Read K) env) (scoped_local (used Read K) env) (λ d v q. scoped_value d v (used Read K) env q) (λ q p. scoped_other id value put (both_there ss init r some) (used Read K) env q p) (scoped_down K env (listed whole) a.0)), tt);
    unmentioned = (unmentioned_left K x k e left (none_in x first (given id put ▸ last) f g), tt);
    symbols = λ z. let parts = fewer (symbol_times (used Read K) z) (symbols_summed (used Read K) z) (λ d. times z (declared_in (use_of shape.VariableDeclarator (used Read K) 0) d)) (λ d v. symbol_sum (used Read K) z d v) in omega (arith, parts, symbols_down K z whole, symbols_left K z left);
    numbered = λ n. let parts = fewer (number_times n) (numbers_summed n) (λ d. count_of n (numbers d)) (λ d v. number_sum n d v) in omega (arith, parts, ap (count_of n) (numbers_are K (listed whole)), numbers_left K n left);
    once = λ a. (once_left K left (shorter Any Once once_local once_value (λ q p. once_other id value put q p) (once_down K whole a.0)), tt);
    targets = λ h a. (targets_left K h left (shorter (HasTarget h) (Aimed h) (aimed_local h) (λ d v q. aimed_value d v h q) (λ q p. aimed_other id value put h q p) (targets_down K h whole a.0)), tt);
    framed = λ all a. (frames_left K all left (shorter Any (HasFrames all) (frames_local all) (λ d v q. frames_value d v all q) (λ q p. frames_other id value put all q p) (subst (FramesKept all) (frames_are K (listed whole)) a.0)), tt);
    bodied = λ all s a. (bodies_left K all s left (shorter Any (HasBodies all s) (bodies_local all s) (λ d v q. bodies_value d v all s q) (λ q p. bodies_other id value put all s q p) (subst (BodiesKept all) (bodies_are K s (listed whole)) a.0)), tt);
    fixed = λ z j a. let (p, q) = fixed_down j K z whole a.0 in (fixed_left K z j left (own_less z j p) (shorter Any (FixedBy z j) (fixed_local z j) (λ d v q. fixed_value d v z j q) (λ q p. fixed_other id value put z j q p) q), tt);
    fixed_back = λ z j o a. let (p, q) = fixed_list K z j left a.0 in (fixed_up j K z whole (own_more z j o p) (longer Any (FixedBy z j) (fixed_local z j) (λ d v q. fixed_value d v z j q) (fixed_alone x init z j) (λ q p. fixed_other id put value z j q p) (omega arith) q), tt);
    declares = λ all a. (declares_left K all left (shorter Any (Declares all) (declares_local all) (λ d v q. among_value d v all q) (λ q p. among_other id value put all q p) (subst (Among all) (declared_are K (listed whole)) a.0)), tt);
  }

  -- ---- names

  -- what it binds
  bound : List Name
  bound = names_of declared.Bound (given id put)

  bound_whole : all_names declared.Bound whole ≡ all_names declared.Bound first ++ x ∷ (bound ++ all_names declared.Bound last)
  unfolding names_of bound
  bound_whole = all_both declared.Bound first (given (binding x) init ▸ (given id value ▸ last))

  bound_left : all_names declared.Bound left ≡ all_names declared.Bound first ++ (bound ++ all_names declared.Bound last)
  unfolding names_of bound
  bound_left = all_both declared.Bound first (given id put ▸ last)

  others : Other x (bound ++ all_names declared.Bound last)
  unfolding names_of bound
  others = all_other x declared.Bound (given id put ▸ last) g

  same_bound : all_names declared.Bound (append first (given (binding x) init ▸ (given id put ▸ last))) ≡ all_names declared.Bound whole
  unfolding names_of bound
  same_bound = all_both declared.Bound first (given (binding x) init ▸ (given id put ▸ last)) ∙ sym (all_both declared.Bound first (given (binding x) init ▸ (given id value ▸ last)))

  same_declares : (o : Bool) → as_body o (made K (append first (given (binding x) init ▸ (given id put ▸ last)))) ≡ as_body o (made K whole)
  same_declares o = declarations_are o K (append first (given (binding x) init ▸ (given id put ▸ last))) ∙ (λ i. own_declarations (not (is_var K)) [] (same_bound i)) ∙ sym (declarations_are o K whole)

  clash : (o : Bool) → NoMoreClash (as_body o (declared_left K left) ++ []) (as_body o (made K whole) ++ [])
  clash o = no_more_both (as_body o (made K whole)) (as_body o (declared_left K left)) [] [] (subst (NoMoreClash (as_body o (declared_left K left))) (same_declares o) (clash_less K o x first (given id put ▸ last) init)) (no_more_same [] [] refl)

  pub there_names : is_lexical K ≡ true → NamesThere x earlier later
  unfolding names_of bound
  there_names l = record {
    first = all_names declared.Bound first;
    last = bound ++ all_names declared.Bound last;
    names = append-nil (names_of declared.Lexical (made K whole)) ∙ lexical_names K l whole ∙ bound_whole;
    left = append-nil (names_of declared.Lexical (declared_left K left)) ∙ lexical_names_left K l left ∙ bound_left;
    others_first = all_other x declared.Bound first f;
    others_last = others;
    hoists = λ i. (hoists_nothing_left K l left ∙ sym (hoists_nothing K l whole)) i ++ [];
    clash = clash false;
  }

  pub there_declares : DeclaresThere x earlier later
  unfolding body_names names_of bound
  there_declares = record {
    first = all_names declared.Bound first;
    last = bound ++ all_names declared.Bound last;
    names = append-nil (body_names (made K whole)) ∙ body_are K whole ∙ bound_whole;
    left = append-nil (body_names (declared_left K left)) ∙ body_names_left K left ∙ bound_left;
    others_first = all_other x declared.Bound first f;
    others_last = others;
    clash = clash;
  }

-- ---- along a path

left_is : (K : VariableDeclarationKind) (first : Trees) (d : Tree) (last : Trees) → declared_left K (append first (d ▸ last)) ≡ declaration K (append first (d ▸ last))
left_is K none d last = refl
left_is K (t ▸ first) d last = refl

pub next_unnamed : (x : Name) (id value : Tree) → is_first x false value ≡ true → (init : Tree) → names x init ≡ false → names x id ≡ false → (last : Trees) → any_names x last ≡ false → any_names x (given id (put_first x init value) ▸ last) ≡ false
next_unnamed x id value once init f o last g =
    let p = path x false value once in
    (λ i. (o i || (names x (p.puts init i) || false)) || any_names x last) ∙ (λ i. (false || (unnamed x p.steps p.spared init f i || false)) || g i)

module _ (K : VariableDeclarationKind) (x : Name) (k : ℕ) (e : x.symbol ≡ symbol k) (first : Trees) (init id value : Tree) (last : Trees) (once : is_first x false value ≡ true) (f : any_names x first ≡ false) (i : names x init ≡ false) (o : names x id ≡ false) (g : any_names x last ≡ false) where
  abbrev with_it : Trees
  with_it = declared_among K x first init (declarator id value ▸ last) ▸ none

  abbrev without_it : Trees
  without_it = declaration K (append first (declarator id (put_first x init value) ▸ last)) ▸ none

  p : Path x AsValue value
  p = path x false value once

  unnamed_there : any_names x (given id (led p.steps init) ▸ last) ≡ false
  unnamed_there = ap (λ t. any_names x (given id t ▸ last)) (sym (p.puts init)) ∙ next_unnamed x id value once init i o last g

  along : (P : Trees → Trees → Type 0) → P (made K (append first (given (binding x) init ▸ (given id (found p.steps (identifier p.read)) ▸ last))) ▸ none) (declared_left K (append first (given id (led p.steps init) ▸ last)) ▸ none) → P with_it without_it
  along P h = subst₂ P (λ j. made K (append first (given (binding x) init ▸ (given id (sym p.is j) ▸ last))) ▸ none) ((λ j. declared_left K (append first (given id (sym (p.puts init) j) ▸ last)) ▸ none) ∙ ap (λ d. d ▸ none) (left_is K first (given id (put_first x init value)) last)) h

  pub next_leaves : is_plain_part init ≡ true → LeavesThere x with_it without_it
  next_leaves plain = along (LeavesThere x) (there_leaves K x k e first init id last p.steps p.well p.read f unnamed_there (plain_there init plain))

  pub next_names : is_lexical K ≡ true → NamesThere x with_it without_it
  next_names l = along (NamesThere x) (there_names K x k e first init id last p.steps p.well p.read f unnamed_there l)

  pub next_declares : DeclaresThere x with_it without_it
  next_declares = along (DeclaresThere x) (there_declares K x k e first init id last p.steps p.well p.read f unnamed_there)

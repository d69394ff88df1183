-- A declaration of a name that goes, with the statement after it where that reads the name first, and what is written for them: what
-- they have.
use Rattle.std.specs.Prelude.{ℕ, ◌+◌, ◌≤◌, ◌≡◌, refl, Bool, true, false, not, ◌||◌, List, [], ◌∷◌, ◌++◌, Contains, Option, None}
use Rattle.std.proofs.Common.{ap, ◌∙◌, sym, subst, subst₂, true≢false, arith, append_assoc}
use Rattle.std.proofs.lemmas.List.{append-nil}
use Rattle.std.proofs.lemmas.List.Elements.{Contains-append_right}
use Rattle.mini_model.specs.declared.kind.VariableDeclarationKind.{VariableDeclarationKind}
use Rattle.mini_model.specs.declared.kind.VariableDeclarationKind.TheVariants.{Var, Let, Const}
use Rattle.mini_model.specs.declared.name.Name.{Name}
use Rattle.mini_model.specs.declared.name.SymbolId.{SymbolId}
use Rattle.mini_model.specs.declared.shape.Shape.{Shape}
use Rattle.mini_model.specs.declared.shape.Shape.TheVariants as shape
use Rattle.mini_model.specs.Tree.{Tree, Trees, node, none, ◌▸◌, listed, empty_statement, expression_statement, identifier}
use Rattle.mini_model.specs.Paths.{append}
use Rattle.mini_laws.specs.declared.names.Declaration.{Declaration}
use Rattle.mini_laws.specs.declared.names.Declared.TheVariants as declared
use Rattle.mini_laws.specs.declared.names.Targets.{Targets}
use Rattle.mini_laws.specs.declared.names.Use.TheVariants.{Read}
use Rattle.mini_laws.specs.declared.names.Place.TheVariants as place
use Rattle.mini_laws.specs.DeclaredNames.{place_of, names_by, names_of, first_names, all_names, body_names, has_inner}
use Rattle.mini_laws.specs.Resolved.{Environment}
use Rattle.mini_laws.specs.Scopes.{scopes_by}
use Rattle.mini_laws.specs.Scoped.{Scoped, Unmentioned}
use Rattle.mini_laws.specs.Symbols.{symbols_in, declared as declared_in, times}
use Rattle.mini_laws.specs.Early.{own_declarations, scope_declarations, early_names, targets_of, early_jumps}
use Rattle.mini_laws.specs.Value.{Variable, choose, is_in, variable_eq, variable_of}
use Rattle.mini_laws.specs.Naming.{is_lexical}
use Rattle.mini_laws.specs.State.{Fixed, Writable}
use Rattle.mini_laws.specs.Fixity.{fixity_by, fixed_by}
use Rattle.mini_laws.specs.Bodies.{Around, Body, bodies}
use Rattle.mini_kept.specs.AlikeBodies.{BodiesKept}
use Rattle.mini_kept.specs.Carried.{numbers}
use Rattle.mini_kept.specs.Declaring.{declared as names_declared}
use Rattle.mini_kept.specs.Frames.{Frame, frames, FramesKept}
use Rattle.mini_kept.specs.KeepsNames.{count_of, unplaced}
use Rattle.mini_kept.specs.Loosely.{symbol}
use Rattle.mini_kept.specs.SameNames.{NoMoreClash}
use Rattle.mini_kept.proofs.Anywhere.{once_anywhere, targets_anywhere}
use Rattle.mini_kept.proofs.Clashes.{no_more_same, no_more_both}
use Rattle.mini_kept.proofs.Fixed.{of_children}
use Rattle.mini_kept.proofs.Unplaced.{as_body, own_both}
use Rattle.mini_terms.specs.Reading.{is_plain_part_by, first_of, is_plain_part, are_plain_parts}
use Rattle.mini_rows.specs.Declarations.{binding, declarator}
use Rattle.mini_rows.specs.Sketches.{OfExpression, shape_by, Asked, AsWholeItem, AsValue, AsWholeList, Leap}
use Rattle.mini_rows.specs.Arranged.{Vanishes}
use Rattle.mini_rows.specs.Unused.{names, any_names, declared_among, declared_one, declared_left, put_first, reads_first}
use Rattle.mini_rows.proofs.Arranging.{All, Any, Local}
use Rattle.mini_rows.proofs.ArrangedNames.{ScopedAs, scoped_local, symbol_times, symbols_summed, number_times, numbers_summed, InnerIf, inner_local, Once, once_local, HasTarget, Aimed, aimed_local}
use Rattle.mini_rows.proofs.ArrangedBodies.{quiet, HasBodies, bodies_local, HasFrames, frames_local, Among, Declares, declares_local, FixedBy, fixed_local, rank}
use Rattle.mini_rows.proofs.ListKeptDeclarations.{all_both, over, is_var, body_are, names_if, declares_as, lets, scope_if, read_opens, own_fixed, own_both_fixed, fixed_down, fixed_up, either_up, either_down, names_are, declarations_are, used, scoped_down, scoped_up, symbols_are, inner_is, numbers_are, declared_are, frames_are, bodies_are, once_is, jumps_are}
use Rattle.mini_rows.proofs.ListKeptStretch.{joined, parted, stretched, sum_joined, sum_stretched}
use Rattle.mini_rows.proofs.SingleUse.{Lead, Not, Plus, Minus, Tilde, Typing, Emptying, Beside, Deciding, Choosing, Passing, Called, Making, Waiting, Member, Keyed, Linking, Holding, Against, Given, Filling, Keying, Interpolating, Following, Branching, Failing, Storing, Targeted, Changing, Gathering, Fielding, Spreading, Bracketing, Doing, Giving, Raising, Testing, head_of, before, Step, led, is_end, Stands, Well, statement, swapped, taken, swapped_sum, unnamed, found, by_front, ends_short, swapped_back}
use Rattle.mini_rows.proofs.UnusedKept.{LeavesThere, NamesThere, DeclaresThere, alone_stricter}
use Rattle.mini_rows.proofs.UnusedNames.{Other, or_parts, all_unmentioned, declared_other, all_other, unmentioned}

two : {X : Type 0} (xs : List X) → (xs ++ []) ++ [] ≡ xs
two xs = append-nil (xs ++ []) ∙ append-nil xs

or_two : (a b : Bool) → (((a || false) || false) || b) ≡ (a || b)
or_two true b = refl
or_two false b = refl

pub none_after : (ts : Trees) → append ts none ≡ ts
none_after none = refl
none_after (t ▸ ts) = ap (λ us. t ▸ us) (none_after ts)

-- nothing stands in an empty list
none_there : {X : Type 0} (xs : List X) (y : X) → Contains [] y → Contains xs y
none_there xs y (i, below, at) = absurd (omega (arith, below))

-- none of two lists mentions it
pub none_in : (x : Name) (first last : Trees) → any_names x first ≡ false → any_names x last ≡ false → any_names x (append first last) ≡ false
none_in x none last f g = g
none_in x (t ▸ first) last f g = let (a, b) = or_parts (names x t) (any_names x first) f in ap (λ c. c || any_names x (append first last)) a ∙ none_in x first last b g

-- ---- what is left of a declaration over its list: `;` where no declarator is

module _ (K : VariableDeclarationKind) where
  abbrev pub made : Trees → Tree
  made ts = over K (listed ts)

  pub scoped_left : (env : Environment) (ts : Trees) → Scoped (used Read K) env (listed ts) → Scoped Read env (declared_left K ts)
  unfolding Scoped scopes_by
  scoped_left env none q = (tt, tt)
  scoped_left env (t ▸ ts) q = scoped_up K env (listed (t ▸ ts)) q

  pub symbols_down : (y : Option SymbolId) (ts : Trees) → times y (declared_in (used Read K) (listed ts)) ≤ times y (declared_in Read (made ts))
  symbols_down y ts = omega (arith, symbols_are Read K y (listed ts))

  pub symbols_left : (y : Option SymbolId) (ts : Trees) → times y (declared_in Read (declared_left K ts)) ≤ times y (declared_in (used Read K) (listed ts))
  unfolding declared_in scopes_by
  symbols_left y none = omega arith
  symbols_left y (t ▸ ts) = let same = symbols_are Read K y (listed (t ▸ ts)) in let no_scope = ap (λ b. times y (symbols_in (scope_if b (listed (t ▸ ts))))) (read_opens K) in omega (arith, same, no_scope)

  pub numbers_left : (n : ℕ) (ts : Trees) → count_of n (numbers (declared_left K ts)) ≤ count_of n (numbers (listed ts))
  unfolding numbers
  numbers_left n none = omega arith
  numbers_left n (t ▸ ts) = let same = ap (count_of n) (numbers_are K (listed (t ▸ ts))) in omega (arith, same)

  pub inner_down : (b : Bool) (ts : Trees) → InnerIf b AsWholeItem (made ts) → InnerIf b AsWholeList (listed ts)
  inner_down b ts q = sym (ap (λ c. c || b) (inner_is K (listed ts))) ∙ q

  pub inner_left : (b : Bool) (ts : Trees) → InnerIf b AsWholeList (listed ts) → InnerIf b AsWholeItem (declared_left K ts)
  unfolding has_inner
  inner_left b none q = refl
  inner_left b (t ▸ ts) q = ap (λ c. c || b) (inner_is K (listed (t ▸ ts))) ∙ q

  pub inner_list : (b : Bool) (ts : Trees) → InnerIf b AsWholeItem (declared_left K ts) → InnerIf b AsWholeList (listed ts)
  unfolding has_inner
  inner_list b none q = refl
  inner_list b (t ▸ ts) q = inner_down b (t ▸ ts) q

  pub inner_up : (b : Bool) (ts : Trees) → InnerIf b AsWholeList (listed ts) → InnerIf b AsWholeItem (made ts)
  inner_up b ts q = ap (λ c. c || b) (inner_is K (listed ts)) ∙ q

  pub once_down : (ts : Trees) → Once AsWholeItem (made ts) → Once AsWholeList (listed ts)
  once_down ts q = once_anywhere (0 ∷ []) [] (listed ts) (sym (once_is K (listed ts)) ∙ q)

  pub once_left : (ts : Trees) → Once AsWholeList (listed ts) → Once AsWholeItem (declared_left K ts)
  unfolding early_names scope_declarations
  once_left none q = refl
  once_left (t ▸ ts) q = once_is K (listed (t ▸ ts)) ∙ once_anywhere [] (0 ∷ []) (listed (t ▸ ts)) q

  pub targets_down : (g : Targets) (ts : Trees) → Aimed g AsWholeItem (made ts) → Aimed g AsWholeList (listed ts)
  targets_down g ts q = targets_anywhere g (0 ∷ []) [] (listed ts) (sym (jumps_are K g (listed ts)) ∙ q)

  pub targets_left : (g : Targets) (ts : Trees) → Aimed g AsWholeList (listed ts) → Aimed g AsWholeItem (declared_left K ts)
  unfolding early_jumps targets_of
  targets_left g none q = refl
  targets_left g (t ▸ ts) q = jumps_are K g (listed (t ▸ ts)) ∙ targets_anywhere g [] (0 ∷ []) (listed (t ▸ ts)) q

  pub frames_left : (all : List Frame) (ts : Trees) → HasFrames all AsWholeList (listed ts) → HasFrames all AsWholeItem (declared_left K ts)
  frames_left all none q = none_there all
  frames_left all (t ▸ ts) q = subst (FramesKept all) (sym (frames_are K (listed (t ▸ ts)))) q

  pub bodies_left : (all : List Body) (a : Around) (ts : Trees) → HasBodies all a AsWholeList (listed ts) → HasBodies all a AsWholeItem (declared_left K ts)
  bodies_left all a none q = tt
  bodies_left all a (t ▸ ts) q = subst (BodiesKept all) (sym (bodies_are K a (listed (t ▸ ts)))) q

  pub declares_left : (all : List Name) (ts : Trees) → Declares all AsWholeList (listed ts) → Declares all AsWholeItem (declared_left K ts)
  declares_left all none q = none_there all
  declares_left all (t ▸ ts) q = subst (Among all) (sym (declared_are K (listed (t ▸ ts)))) q

  pub fixed_left : (y : Variable) (j : ℕ) (ts : Trees) → rank (own_fixed j K y ts) ≤ j → FixedBy y j AsWholeList (listed ts) → FixedBy y j AsWholeItem (declared_left K ts)
  fixed_left y j none p q = omega arith
  fixed_left y j (t ▸ ts) p q = fixed_up j K y (t ▸ ts) p q

  pub fixed_list : (y : Variable) (j : ℕ) (ts : Trees) → FixedBy y j AsWholeItem (declared_left K ts) → (rank (own_fixed j K y ts) ≤ j) × FixedBy y j AsWholeList (listed ts)
  fixed_list y j none p = (omega arith, omega arith)
  fixed_list y j (t ▸ ts) p = fixed_down j K y (t ▸ ts) p

  pub unmentioned_left : (x : Name) (k : ℕ) → x.symbol ≡ symbol k → (ts : Trees) → any_names x ts ≡ false → Unmentioned (record { name = x; hoists = false }) (declared_left K ts)
  unfolding Unmentioned
  unmentioned_left x k e none f = (tt, tt)
  unmentioned_left x k e (t ▸ ts) f = (tt, ((tt, all_unmentioned x k e (t ▸ ts) f), tt))

  -- names: in a block, of a lexical declaration, and in a function's body

  pub lexical_names : is_lexical K ≡ true → (ts : Trees) → names_of declared.Lexical (made ts) ≡ all_names declared.Bound ts
  lexical_names l ts = names_are declared.Lexical K ts ∙ by K l (all_names declared.Bound ts)
    where
      by : (k : VariableDeclarationKind) → is_lexical k ≡ true → (xs : List Name) → names_if (declares_as declared.Lexical k) xs ≡ xs
      by Let e xs = refl
      by Const e xs = refl
      by Var e xs = absurd (true≢false (sym e))

  pub lexical_names_left : is_lexical K ≡ true → (ts : Trees) → names_of declared.Lexical (declared_left K ts) ≡ all_names declared.Bound ts
  unfolding names_of
  lexical_names_left l none = refl
  lexical_names_left l (t ▸ ts) = lexical_names l (t ▸ ts)

  pub hoists_nothing : is_lexical K ≡ true → (ts : Trees) → names_of declared.Hoisted (made ts) ≡ []
  hoists_nothing l ts = names_are declared.Hoisted K ts ∙ by K l (all_names declared.Bound ts)
    where
      by : (k : VariableDeclarationKind) → is_lexical k ≡ true → (xs : List Name) → names_if (declares_as declared.Hoisted k) xs ≡ []
      by Let e xs = refl
      by Const e xs = refl
      by Var e xs = absurd (true≢false (sym e))

  pub hoists_nothing_left : is_lexical K ≡ true → (ts : Trees) → names_of declared.Hoisted (declared_left K ts) ≡ []
  unfolding names_of
  hoists_nothing_left l none = refl
  hoists_nothing_left l (t ▸ ts) = hoists_nothing l (t ▸ ts)

  abbrev own : List Name → List Declaration
  own = own_declarations (not (is_var K)) []

  left_declares : (o : Bool) (ts : Trees) → as_body o (declared_left K ts) ≡ own (all_names declared.Bound ts)
  unfolding names_of
  left_declares true none = refl
  left_declares false none = refl
  left_declares o (t ▸ ts) = declarations_are o K (t ▸ ts)

  pub body_names_left : (ts : Trees) → body_names (declared_left K ts) ≡ all_names declared.Bound ts
  unfolding body_names names_of
  body_names_left none = refl
  body_names_left (t ▸ ts) = body_are K (t ▸ ts)

  -- one name less clashes no more
  pub clash_less : (o : Bool) (x : Name) (first last : Trees) (init : Tree) → NoMoreClash (as_body o (declared_left K (append first last))) (as_body o (made (append first (declarator (binding x) init ▸ last))))
  unfolding names_of
  clash_less o x first last init =
      let f = all_names declared.Bound first in
      let g = all_names declared.Bound last in
      let one_more = own (x ∷ []) in
      subst (NoMoreClash (as_body o (declared_left K (append first last)))) (sym (declarations_are o K (append first (declarator (binding x) init ▸ last)) ∙ ap own (all_both declared.Bound first (declarator (binding x) init ▸ last)) ∙ own_both (not (is_var K)) f (x ∷ g)))
      (subst (λ es. NoMoreClash es (own f ++ own (x ∷ g))) (sym (left_declares o (append first last) ∙ ap own (all_both declared.Bound first last) ∙ own_both (not (is_var K)) f g))
      (no_more_both (own f) (own f) (one_more ++ own g) (own g) (no_more_same (own f) (own f) refl)
      (no_more_both one_more [] (own g) (own g) (λ s. (omega arith, λ z. refl)) (no_more_same (own g) (own g) refl))))

-- ---- the declaration of a name: what is left of it, and the initializer

module _ (K : VariableDeclarationKind) (x : Name) (init : Tree) where
  abbrev this : Trees
  this = declarator (binding x) init ▸ none

  init_fixed : (y : Variable) → fixed_by (listed this) y ≡ fixed_by init y
  init_fixed y =
      of_children shape.Listed [] 0 this y refl
      ∙ alone_stricter (fixed_by (declarator (binding x) init) y)
      ∙ of_children shape.VariableDeclarator [] 0 (binding x ▸ (init ▸ none)) y refl
      ∙ alone_stricter (fixed_by init y)

  module _ (first : Trees) where
    abbrev these : Trees
    these = append first this

    abbrev d : Tree
    d = declared_among K x first init none

    abbrev left : Tree
    left = declared_left K first

    pub scoped_both : (env : Environment) → Scoped Read env d → Scoped Read env left × Scoped Read env init
    unfolding Scoped scopes_by
    scoped_both env s =
        let (a, b) = parted Any (ScopedAs (used Read K) env) (scoped_local (used Read K) env) first this (scoped_down K env (listed these) s) in
        (scoped_left K env first a, subst (λ r. Scoped Read r init) (append-nil _ ∙ append-nil _ ∙ append-nil _) b.1.0.1.1.0)

    pub symbols_both : (y : Option SymbolId) → times y (declared_in Read left) + times y (declared_in Read init) ≤ times y (declared_in Read d)
    unfolding declared_in scopes_by
    symbols_both y =
        let parts = sum_joined (symbol_times (used Read K) y) (symbols_summed (used Read K) y) first this in
        let own = ap (times y) (two (declared_in Read init)) in
        omega (arith, parts, own, symbols_down K y these, symbols_left K y first)

    pub numbers_both : (n : ℕ) → count_of n (numbers left) + count_of n (numbers init) ≤ count_of n (numbers d)
    unfolding numbers
    numbers_both n =
        let parts = sum_joined (number_times n) (numbers_summed n) first this in
        let own = ap (count_of n) (two (numbers init)) in
        omega (arith, parts, own, ap (count_of n) (numbers_are K (listed these)), numbers_left K n first)

    pub inner_both : (b : Bool) → InnerIf b AsWholeItem d → InnerIf b AsWholeItem left × InnerIf b AsValue init
    unfolding has_inner
    inner_both b q = let (r, t) = parted Any (InnerIf b) (inner_local b) first this (inner_down K b these q) in (inner_left K b first r, sym (or_two (has_inner init) b) ∙ t)

    pub once_both : Once AsWholeItem d → Once AsWholeItem left × Once AsValue init
    unfolding early_names scope_declarations
    once_both q = let (r, t) = parted Any Once once_local first this (once_down K these q) in (once_left K first r, once_anywhere (0 ∷ 1 ∷ []) [] init (sym (two (early_names (0 ∷ 1 ∷ []) init)) ∙ t))

    pub targets_both : (g : Targets) → Aimed g AsWholeItem d → Aimed g AsWholeItem left × Aimed g AsValue init
    unfolding early_jumps targets_of
    targets_both g q = let (r, t) = parted (HasTarget g) (Aimed g) (aimed_local g) first this (targets_down K g these q) in (targets_left K g first r, targets_anywhere g (0 ∷ 1 ∷ []) [] init (sym (two (early_jumps g (0 ∷ 1 ∷ []) init)) ∙ t))

    pub frames_both : (all : List Frame) → HasFrames all AsWholeItem d → HasFrames all AsWholeItem left × HasFrames all AsValue init
    frames_both all q = let (r, t) = parted Any (HasFrames all) (frames_local all) first this (subst (FramesKept all) (frames_are K (listed these)) q) in (frames_left K all first r, subst (FramesKept all) (two (frames None init)) t)

    pub bodies_both : (all : List Body) (a : Around) → HasBodies all a AsWholeItem d → HasBodies all a AsWholeItem left × HasBodies all a AsValue init
    bodies_both all a q = let (r, t) = parted Any (HasBodies all a) (bodies_local all a) first this (subst (BodiesKept all) (bodies_are K a (listed these)) q) in (bodies_left K all a first r, subst (BodiesKept all) (two (bodies (quiet a) init)) t)

    pub declares_both : (all : List Name) → Declares all AsWholeItem d → Declares all AsWholeItem left × Declares all AsValue init
    declares_both all q =
        let (r, t) = parted Any (Declares all) (declares_local all) first this (subst (Among all) (declared_are K (listed these)) q) in
        (declares_left K all first r, λ y c. t y (subst (λ ys. Contains (x ∷ ys) y) (sym (two (names_declared init))) (Contains-append_right (x ∷ []) (names_declared init) y c)))

    pub fixed_both : (y : Variable) (j : ℕ) → FixedBy y j AsWholeItem d → FixedBy y j AsWholeItem left × FixedBy y j AsValue init
    fixed_both y j q =
        let (own_there, list_there) = fixed_down j K y these q in
        let kept = either_down j (fixity_by (shape.VariableDeclaration K)) (is_in y (lets first)) (is_in y (lets this)) (subst (λ g. rank g ≤ j) (own_both_fixed j K y first this) own_there) in
        let (a, b) = parted Any (FixedBy y j) (fixed_local y j) first this list_there in
        (fixed_left K y j first kept.0 a, subst (λ g. rank g ≤ j) (init_fixed y) b)

    -- and back

    pub inner_back : (b : Bool) → InnerIf b AsWholeItem left → InnerIf b AsValue init → InnerIf b AsWholeItem d
    unfolding has_inner
    inner_back b p q = inner_up K b these (joined Any (InnerIf b) (inner_local b) first this (inner_list K b first p) (or_two (has_inner init) b ∙ q))

    pub fixed_back : (y : Variable) (j : ℕ) → variable_eq (variable_of x) y ≡ false → FixedBy y j AsWholeItem left → FixedBy y j AsValue init → FixedBy y j AsWholeItem d
    fixed_back y j o p q =
        let (own_there, list_there) = fixed_list K y j first p in
        let whole = joined Any (FixedBy y j) (fixed_local y j) first this list_there (subst (λ g. rank g ≤ j) (sym (init_fixed y)) q) in
        fixed_up j K y these (subst (λ g. rank g ≤ j) (sym (own_both_fixed j K y first this)) (either_up j (fixity_by (shape.VariableDeclaration K)) (is_in y (lets first)) (is_in y (lets this)) own_there other)) whole
      where
        other : rank (choose (is_in y (lets this)) (fixity_by (shape.VariableDeclaration K)) Writable) ≤ j
        other = subst (λ b. rank (choose (choose b true false) (fixity_by (shape.VariableDeclaration K)) Writable) ≤ j) (sym o) (omega arith)

-- ---- it leaves its initializer as a statement

module _ (K : VariableDeclarationKind) (x : Name) (k : ℕ) (e : x.symbol ≡ symbol k) (init : Tree) (f : names x init ≡ false) where
  abbrev value_moved : (J : Leap → Type 0) (Q : Asked → Tree → Type 0) → Local J Q → Type 0
  value_moved J Q l = (Q AsWholeItem (declared_one K x init) → Q AsWholeItem empty_statement × Q AsValue init) → All Q AsWholeItem (declared_one K x init ▸ none) → All Q AsWholeItem (expression_statement init ▸ none)

  of_value : (J : Leap → Type 0) (Q : Asked → Tree → Type 0) (l : Local J Q) → value_moved J Q l
  of_value J Q l h a = (l.up OfExpression AsWholeItem (init ▸ none) tt tt ((h a.0).1, tt), tt)

  to_value : (J : Leap → Type 0) (Q : Asked → Tree → Type 0) (l : Local J Q) → Q AsWholeItem empty_statement → (Q AsWholeItem empty_statement → Q AsValue init → Q AsWholeItem (declared_one K x init)) → All Q AsWholeItem (expression_statement init ▸ none) → All Q AsWholeItem (declared_one K x init ▸ none)
  to_value J Q l o h a = (h o (l.down OfExpression AsWholeItem (init ▸ none) tt a.0).1.0, tt)

  value_symbols : (y : Option SymbolId) → times y (declared_in Read (expression_statement init)) ≡ times y (declared_in Read init)
  unfolding declared_in scopes_by
  value_symbols y = ap (times y) (append-nil (declared_in Read init))

  value_numbers : (n : ℕ) → count_of n (numbers (expression_statement init)) ≡ count_of n (numbers init)
  unfolding numbers
  value_numbers n = ap (count_of n) (append-nil (numbers init))

  pub value_leaves : LeavesThere x (declared_one K x init ▸ none) (expression_statement init ▸ none)
  unfolding Unmentioned has_inner
  value_leaves = record {
    inner = λ b. of_value Any (InnerIf b) (inner_local b) (inner_both K x init none b);
    inner_back = λ b. to_value Any (InnerIf b) (inner_local b) refl (inner_back K x init none b);
    scoped = λ env. of_value Any (ScopedAs Read env) (scoped_local Read env) (scoped_both K x init none env);
    unmentioned = ((tt, (unmentioned x k e init f, tt)), tt);
    symbols = λ y. let parts = symbols_both K x init none y in let own = value_symbols y in omega (arith, parts, own);
    numbered = λ n. let parts = numbers_both K x init none n in let own = value_numbers n in omega (arith, parts, own);
    once = of_value Any Once once_local (once_both K x init none);
    targets = λ g. of_value (HasTarget g) (Aimed g) (aimed_local g) (targets_both K x init none g);
    framed = λ all. of_value Any (HasFrames all) (frames_local all) (frames_both K x init none all);
    bodied = λ all a. of_value Any (HasBodies all a) (bodies_local all a) (bodies_both K x init none all a);
    fixed = λ y j. of_value Any (FixedBy y j) (fixed_local y j) (fixed_both K x init none y j);
    fixed_back = λ y j o. to_value Any (FixedBy y j) (fixed_local y j) (omega arith) (fixed_back K x init none y j o);
    declares = λ all. of_value Any (Declares all) (declares_local all) (declares_both K x init none all);
  }

  pub value_names : is_lexical K ≡ true → NamesThere x (declared_one K x init ▸ none) (expression_statement init ▸ none)
  unfolding names_of
  value_names l = record {
    first = [];
    last = [];
    names = append-nil (names_of declared.Lexical (declared_one K x init)) ∙ lexical_names K l (declarator (binding x) init ▸ none);
    left = refl;
    others_first = tt;
    others_last = tt;
    hoists = sym (append-nil (names_of declared.Hoisted (declared_one K x init)) ∙ hoists_nothing K l (declarator (binding x) init ▸ none));
    clash = no_more_both (as_body false (declared_one K x init)) (as_body false empty_statement) [] [] (clash_less K false x none none init) (no_more_same [] [] refl);
  }

  pub value_declares : DeclaresThere x (declared_one K x init ▸ none) (expression_statement init ▸ none)
  unfolding body_names names_of
  value_declares = record {
    first = [];
    last = [];
    names = append-nil (body_names (declared_one K x init)) ∙ body_are K (declarator (binding x) init ▸ none);
    left = refl;
    others_first = tt;
    others_last = tt;
    clash = λ o. no_more_both (as_body o (declared_one K x init)) (as_body o empty_statement) [] [] (clash_less K o x none none init) (no_more_same [] [] refl);
  }

-- ---- or it goes with an initializer that nothing misses

module _ (K : VariableDeclarationKind) (x : Name) (k : ℕ) (e : x.symbol ≡ symbol k) (first : Trees) (init : Tree) (last : Trees) (v : Vanishes init) (f : any_names x first ≡ false) (g : any_names x last ≡ false) where
  abbrev gone : Trees
  gone = declarator (binding x) init ▸ none

  abbrev whole : Trees
  whole = append first (declarator (binding x) init ▸ last)

  abbrev others : Trees
  others = append first last

  abbrev with_it : Trees
  with_it = declared_among K x first init last ▸ none

  abbrev without_it : Trees
  without_it = declared_left K others ▸ none

  -- a property of its list is one of the list that is left
  shorter : (J : Leap → Type 0) (Q : Asked → Tree → Type 0) → Local J Q → Q AsWholeList (listed whole) → Q AsWholeList (listed others)
  shorter J Q l = stretched J Q l first last gone none (λ q. tt)

  longer : (J : Leap → Type 0) (Q : Asked → Tree → Type 0) → Local J Q → Q AsWholeItem (declarator (binding x) init) → Q AsWholeList (listed others) → Q AsWholeList (listed whole)
  longer J Q l o = stretched J Q l first last none gone (λ q. (o, tt))

  no_inner : (b : Bool) → InnerIf b AsWholeItem (declarator (binding x) init)
  unfolding has_inner
  no_inner b = ap (λ c. (c || false) || b) v.inner

  none_fixed : (y : Variable) → fixed_by (declarator (binding x) init) y ≡ Writable
  none_fixed y = of_children shape.VariableDeclarator [] 0 (binding x ▸ (init ▸ none)) y refl ∙ alone_stricter (fixed_by init y) ∙ v.fixed y

  -- what it says of the names that it declares
  abbrev says : Bool → Fixed
  says b = choose b (fixity_by (shape.VariableDeclaration K)) Writable

  own_less : (y : Variable) (j : ℕ) → rank (own_fixed j K y whole) ≤ j → rank (own_fixed j K y others) ≤ j
  own_less y j p =
      let (a, b) = either_down j (fixity_by (shape.VariableDeclaration K)) (is_in y (lets first)) (is_in y (lets (declarator (binding x) init ▸ last))) (subst (λ g. rank g ≤ j) (own_both_fixed j K y first (declarator (binding x) init ▸ last)) p) in
      let (c, d) = either_down j (fixity_by (shape.VariableDeclaration K)) (variable_eq (variable_of x) y) (is_in y (lets last)) b in
      subst (λ g. rank g ≤ j) (sym (own_both_fixed j K y first last)) (either_up j (fixity_by (shape.VariableDeclaration K)) (is_in y (lets first)) (is_in y (lets last)) a d)

  own_more : (y : Variable) (j : ℕ) → variable_eq (variable_of x) y ≡ false → rank (own_fixed j K y others) ≤ j → rank (own_fixed j K y whole) ≤ j
  own_more y j o p =
      let (a, b) = either_down j (fixity_by (shape.VariableDeclaration K)) (is_in y (lets first)) (is_in y (lets last)) (subst (λ g. rank g ≤ j) (own_both_fixed j K y first last) p) in
      subst (λ g. rank g ≤ j) (sym (own_both_fixed j K y first (declarator (binding x) init ▸ last)))
      (either_up j (fixity_by (shape.VariableDeclaration K)) (is_in y (lets first)) (is_in y (lets (declarator (binding x) init ▸ last))) a (subst (λ c. rank (says (choose c true (is_in y (lets last)))) ≤ j) (sym o) b))

  pub idle_leaves : LeavesThere x with_it without_it
  unfolding Unmentioned
  idle_leaves = record {
    inner = λ b a. (inner_left K b others (shorter Any (InnerIf b) (inner_local b) (inner_down K b whole a.0)), tt);
    inner_back = λ b a. (inner_up K b whole (longer Any (InnerIf b) (inner_local b) (no_inner b) (inner_list K b others a.0)), tt);
    scoped = λ env a. (scoped_left K env others (shorter Any (ScopedAs (used Read K) env) (scoped_local (used Read K) env) (scoped_down K env (listed whole) a.0)), tt);
    unmentioned = (unmentioned_left K x k e others (none_in x first last f g), tt);
    symbols = λ y. let parts = sum_stretched (symbol_times (used Read K) y) (symbols_summed (used Read K) y) first last gone none (omega arith) in omega (arith, parts, symbols_down K y whole, symbols_left K y others);
    numbered = λ n. let parts = sum_stretched (number_times n) (numbers_summed n) first last gone none (omega arith) in omega (arith, parts, ap (count_of n) (numbers_are K (listed whole)), numbers_left K n others);
    once = λ a. (once_left K others (shorter Any Once once_local (once_down K whole a.0)), tt);
    targets = λ h a. (targets_left K h others (shorter (HasTarget h) (Aimed h) (aimed_local h) (targets_down K h whole a.0)), tt);
    framed = λ all a. (frames_left K all others (shorter Any (HasFrames all) (frames_local all) (subst (FramesKept all) (frames_are K (listed whole)) a.0)), tt);
    bodied = λ all r a. (bodies_left K all r others (shorter Any (HasBodies all r) (bodies_local all r) (subst (BodiesKept all) (bodies_are K r (listed whole)) a.0)), tt);
    fixed = λ y j a. let (p, q) = fixed_down j K y whole a.0 in (fixed_left K y j others (own_less y j p) (shorter Any (FixedBy y j) (fixed_local y j) q), tt);
    fixed_back = λ y j o a. let (p, q) = fixed_list K y j others a.0 in (fixed_up j K y whole (own_more y j o p) (longer Any (FixedBy y j) (fixed_local y j) (subst (λ g. rank g ≤ j) (sym (none_fixed y)) (omega arith)) q), tt);
    declares = λ all a. (declares_left K all others (shorter Any (Declares all) (declares_local all) (subst (Among all) (declared_are K (listed whole)) a.0)), tt);
  }

  pub idle_names : is_lexical K ≡ true → NamesThere x with_it without_it
  unfolding names_of
  idle_names l = record {
    first = all_names declared.Bound first;
    last = all_names declared.Bound last;
    names = append-nil (names_of declared.Lexical (declared_among K x first init last)) ∙ lexical_names K l whole ∙ all_both declared.Bound first (declarator (binding x) init ▸ last);
    left = append-nil (names_of declared.Lexical (declared_left K others)) ∙ lexical_names_left K l others ∙ all_both declared.Bound first last;
    others_first = all_other x declared.Bound first f;
    others_last = all_other x declared.Bound last g;
    hoists = λ i. (hoists_nothing_left K l others ∙ sym (hoists_nothing K l whole)) i ++ [];
    clash = no_more_both (as_body false (declared_among K x first init last)) (as_body false (declared_left K others)) [] [] (clash_less K false x first last init) (no_more_same [] [] refl);
  }

  pub idle_declares : DeclaresThere x with_it without_it
  unfolding body_names names_of
  idle_declares = record {
    first = all_names declared.Bound first;
    last = all_names declared.Bound last;
    names = append-nil (body_names (declared_among K x first init last)) ∙ body_are K whole ∙ all_both declared.Bound first (declarator (binding x) init ▸ last);
    left = append-nil (body_names (declared_left K others)) ∙ body_names_left K others ∙ all_both declared.Bound first last;
    others_first = all_other x declared.Bound first f;
    others_last = all_other x declared.Bound last g;
    clash = λ o. no_more_both (as_body o (declared_among K x first init last)) (as_body o (declared_left K others)) [] [] (clash_less K o x first last init) (no_more_same [] [] refl);
  }

-- ---- the statement

-- what declares names of an expression: nothing
hoists_by : (h : Shape) (b : Bool) → is_plain_part_by h b ≡ true → place_of declared.Hoisted h ≡ place.Nowhere
hoists_by (shape.VariableDeclaration k) b e = absurd (true≢false (sym e))
hoists_by shape.Listed b e = absurd (true≢false (sym e))
hoists_by shape.BlockStatement b e = absurd (true≢false (sym e))
hoists_by shape.IfStatement b e = absurd (true≢false (sym e))
hoists_by shape.WhileStatement b e = absurd (true≢false (sym e))
hoists_by shape.DoWhileStatement b e = absurd (true≢false (sym e))
hoists_by shape.ForStatement b e = absurd (true≢false (sym e))
hoists_by shape.ForInStatement b e = absurd (true≢false (sym e))
hoists_by shape.ForOfStatement b e = absurd (true≢false (sym e))
hoists_by shape.LabeledStatement b e = absurd (true≢false (sym e))
hoists_by shape.SwitchStatement b e = absurd (true≢false (sym e))
hoists_by shape.SwitchCase b e = absurd (true≢false (sym e))
hoists_by shape.TryStatement b e = absurd (true≢false (sym e))
hoists_by shape.CatchClause b e = absurd (true≢false (sym e))
hoists_by shape.FunctionBody b e = absurd (true≢false (sym e))
hoists_by shape.ExportNamedDeclaration b e = absurd (true≢false (sym e))
hoists_by h b e = refl

plain_hoists : (t : Tree) → is_plain_part t ≡ true → names_of declared.Hoisted t ≡ []
unfolding names_of
plain_hoists (node h xs n ts) e = ap (λ p. names_by p xs (first_names ts) (all_names declared.Bound ts) (all_names declared.Hoisted ts)) (hoists_by h (first_of (are_plain_parts ts)) e)

value_hoists : (l : Lead) (b : Bool) → Stands AsValue l b → (u : Tree) (ts : Trees) → names_of declared.Hoisted (node (shape_by (head_of l)) [] 0 (append (before l) (u ▸ ts))) ≡ []
unfolding names_of
value_hoists Not b w u ts = refl
value_hoists Plus b w u ts = refl
value_hoists Minus b w u ts = refl
value_hoists Tilde b w u ts = refl
value_hoists Typing b w u ts = refl
value_hoists Emptying b w u ts = refl
value_hoists (Beside o) b w u ts = refl
value_hoists (Deciding o) b w u ts = refl
value_hoists Choosing b w u ts = refl
value_hoists Passing b w u ts = refl
value_hoists (Called o) b w u ts = refl
value_hoists Making b w u ts = refl
value_hoists (Waiting d) b w u ts = refl
value_hoists (Member o) b w u ts = refl
value_hoists (Keyed o) b w u ts = refl
value_hoists Linking b w u ts = refl
value_hoists Holding b w u ts = refl
value_hoists Gathering b w u ts = refl
value_hoists Spreading b w u ts = refl
value_hoists Bracketing b w u ts = refl
value_hoists (Against o a) b w u ts = refl
value_hoists (Given o a) b w u ts = refl
value_hoists (Filling a) b w u ts = refl
value_hoists (Keying o a) b w u ts = refl
value_hoists (Interpolating a) b w u ts = refl
value_hoists (Following o a) b w u ts = refl
value_hoists (Branching a) b w u ts = refl
value_hoists (Failing a d) b w u ts = refl
value_hoists (Storing o a) b w u ts = refl
value_hoists (Targeted o) b w u ts = refl
value_hoists (Changing o p) b w u ts = refl
value_hoists (Fielding g a) b w u ts = refl
value_hoists l b w u ts = absurd w

led_hoists : (ss : List Step) → Well AsValue ss → (t : Tree) → names_of declared.Hoisted t ≡ [] → names_of declared.Hoisted (led ss t) ≡ []
led_hoists [] w t e = e
led_hoists (s ∷ ss) w t e = value_hoists s.lead (is_end ss) w.0 (led ss t) s.rest

found_hoists : (ss : List Step) → Well AsValue ss → (t : Tree) → names_of declared.Hoisted t ≡ [] → names_of declared.Hoisted (found ss t) ≡ []
unfolding names_of
found_hoists [] w t e = e
found_hoists (s ∷ ss) w t e =
    by_front (λ l h. Stands AsValue l (is_end ss) → names_of declared.Hoisted (node (shape_by h) [] 0 (append (before l) (found ss t ▸ s.rest))) ≡ []) (λ l v. value_hoists l (is_end ss) v (found ss t) s.rest) (λ a o v. refl) (ends_short s ss) s.lead w.0

name_hoists : (y : Name) → names_of declared.Hoisted (identifier y) ≡ []
unfolding names_of
name_hoists y = refl

-- a statement and the one that is written for it declare no lexical name, and hoist the same
pub record Named (t u : Tree) : Type 0 where
  pub lexical : names_of declared.Lexical t ≡ []
  pub still_none : names_of declared.Lexical u ≡ []
  pub hoisted : names_of declared.Hoisted u ≡ names_of declared.Hoisted t
  pub declares : as_body false u ≡ as_body false t
  -- and so in a function's body
  pub names : body_names t ≡ names_of declared.Hoisted t
  pub left : body_names u ≡ names_of declared.Hoisted u
  pub declares_there : as_body true u ≡ as_body true t

stated : (l : Lead) → Stands AsWholeItem l true → (t u : Tree) (ts : Trees) → names_of declared.Hoisted t ≡ [] → names_of declared.Hoisted u ≡ [] → Named (node (shape_by (head_of l)) [] 0 (t ▸ ts)) (node (shape_by (head_of l)) [] 0 (u ▸ ts))
unfolding names_of body_names
stated Doing s t u ts e f = record { lexical = refl; still_none = refl; hoisted = refl; declares = refl; names = refl; left = refl; declares_there = refl }
stated Giving s t u ts e f = record { lexical = refl; still_none = refl; hoisted = refl; declares = refl; names = refl; left = refl; declares_there = refl }
stated Raising s t u ts e f = record { lexical = refl; still_none = refl; hoisted = refl; declares = refl; names = refl; left = refl; declares_there = refl }
stated Testing s t u ts e f =
    let same = ap (λ ys. ys ++ all_names declared.Hoisted ts) (f ∙ sym e) in
    let alike = ap (λ ys. own_declarations false [] ys) same in
    record { lexical = refl; still_none = refl; hoisted = same; declares = alike; names = refl; left = refl; declares_there = alike }
stated l s t u ts e f = absurd s

-- names, of two statements that declare no lexical one and hoist the same
module _ (K : VariableDeclarationKind) (x : Name) (first : Trees) (init : Tree) (f : any_names x first ≡ false) (head put : Tree) (g : names x put ≡ false) (n : Named head put) where
  abbrev this_one : Trees
  this_one = append first (declarator (binding x) init ▸ none)

  first_less : (o : Bool) → NoMoreClash (as_body o (declared_left K first)) (as_body o (declared_among K x first init none))
  first_less o = subst (λ ts. NoMoreClash (as_body o (declared_left K ts)) (as_body o (declared_among K x first init none))) (none_after first) (clash_less K o x first none init)

  pub named_names : is_lexical K ≡ true → NamesThere x (declared_among K x first init none ▸ (head ▸ none)) (declared_left K first ▸ (put ▸ none))
  unfolding names_of
  named_names l = record {
    first = all_names declared.Bound first;
    last = [];
    names = (λ i. (lexical_names K l this_one ∙ all_both declared.Bound first (declarator (binding x) init ▸ none)) i ++ (n.lexical i ++ [])) ∙ append-nil (all_names declared.Bound first ++ x ∷ []);
    left = λ i. lexical_names_left K l first i ++ (n.still_none i ++ []);
    others_first = all_other x declared.Bound first f;
    others_last = tt;
    hoists = λ i. (hoists_nothing_left K l first ∙ sym (hoists_nothing K l this_one)) i ++ (n.hoisted i ++ []);
    clash = no_more_both (as_body false (declared_among K x first init none)) (as_body false (declared_left K first)) (as_body false head ++ []) (as_body false put ++ []) (first_less false) (no_more_same (as_body false head ++ []) (as_body false put ++ []) (ap (λ ds. unplaced (ds ++ [])) n.declares));
  }

  same_there : (o : Bool) → as_body o put ≡ as_body o head
  same_there true = n.declares_there
  same_there false = n.declares

  pub named_declares : DeclaresThere x (declared_among K x first init none ▸ (head ▸ none)) (declared_left K first ▸ (put ▸ none))
  unfolding body_names names_of
  named_declares =
      let bound = all_names declared.Bound first in
      let hoists = names_of declared.Hoisted head in
      record {
        first = bound;
        last = hoists;
        names = (λ i. (body_are K this_one ∙ all_both declared.Bound first (declarator (binding x) init ▸ none)) i ++ (n.names i ++ [])) ∙ ap (λ ys. (bound ++ x ∷ []) ++ ys) (append-nil hoists) ∙ append_assoc bound (x ∷ []) hoists;
        left = (λ i. body_names_left K first i ++ ((n.left ∙ n.hoisted) i ++ [])) ∙ ap (λ ys. bound ++ ys) (append-nil hoists);
        others_first = all_other x declared.Bound first f;
        others_last = subst (Other x) n.hoisted (declared_other x declared.Hoisted put g);
        clash = λ o. no_more_both (as_body o (declared_among K x first init none)) (as_body o (declared_left K first)) (as_body o head ++ []) (as_body o put ++ []) (first_less o) (no_more_same (as_body o head ++ []) (as_body o put ++ []) (ap (λ ds. unplaced (ds ++ [])) (same_there o)));
      }

module _ (K : VariableDeclarationKind) (x : Name) (k : ℕ) (e : x.symbol ≡ symbol k) (first : Trees) (init : Tree) (f : any_names x first ≡ false) (ss : List Step) (w : Well AsWholeItem ss) (y : Name) (g : names x (led ss init) ≡ false) where
  abbrev head : Tree
  head = found ss (identifier y)

  abbrev put : Tree
  put = led ss init

  abbrev earlier : Trees
  earlier = declared_among K x first init none ▸ (head ▸ none)

  abbrev later : Trees
  later = declared_left K first ▸ (put ▸ none)

  moved : (J : Leap → Type 0) (Q : Asked → Tree → Type 0) → Local J Q → (Q AsWholeItem (declared_among K x first init none) → Q AsWholeItem (declared_left K first) × Q AsValue init) → All Q AsWholeItem earlier → All Q AsWholeItem later
  moved J Q l h a = let (p, q) = h a.0 in (p, (swapped J Q l AsWholeItem ss w (identifier y) init (λ z. q) a.1.0, tt))

  moved_back : (J : Leap → Type 0) (Q : Asked → Tree → Type 0) → Local J Q → Q AsValue (identifier y) → (Q AsWholeItem (declared_left K first) → Q AsValue init → Q AsWholeItem (declared_among K x first init none)) → All Q AsWholeItem later → All Q AsWholeItem earlier
  moved_back J Q l o h a = (h a.0 (taken J Q l AsWholeItem ss w init a.1.0), (swapped_back J Q l AsWholeItem ss w init (identifier y) (λ z. o) a.1.0, tt))

  there_leaves : LeavesThere x earlier later
  unfolding Unmentioned has_inner
  there_leaves = record {
    inner = λ b. moved Any (InnerIf b) (inner_local b) (inner_both K x init first b);
    inner_back = λ b. moved_back Any (InnerIf b) (inner_local b) refl (inner_back K x init first b);
    scoped = λ env. moved Any (ScopedAs Read env) (scoped_local Read env) (scoped_both K x init first env);
    unmentioned = (unmentioned_left K x k e first f, (unmentioned x k e put g, tt));
    symbols = λ z. let parts = symbols_both K x init first z in let same = swapped_sum (symbol_times Read z) (symbols_summed Read z) AsWholeItem ss w (identifier y) init in omega (arith, parts, same);
    numbered = λ z. let parts = numbers_both K x init first z in let same = swapped_sum (number_times z) (numbers_summed z) AsWholeItem ss w (identifier y) init in omega (arith, parts, same);
    once = moved Any Once once_local (once_both K x init first);
    targets = λ h. moved (HasTarget h) (Aimed h) (aimed_local h) (targets_both K x init first h);
    framed = λ all. moved Any (HasFrames all) (frames_local all) (frames_both K x init first all);
    bodied = λ all a. moved Any (HasBodies all a) (bodies_local all a) (bodies_both K x init first all a);
    fixed = λ z j. moved Any (FixedBy z j) (fixed_local z j) (fixed_both K x init first z j);
    fixed_back = λ z j o. moved_back Any (FixedBy z j) (fixed_local z j) (omega arith) (fixed_back K x init first z j o);
    declares = λ all. moved Any (Declares all) (declares_local all) (declares_both K x init first all);
  }

-- the two as paths
module _ (K : VariableDeclarationKind) (x : Name) (k : ℕ) (e : x.symbol ≡ symbol k) (first : Trees) (init head : Tree) (plain : is_plain_part init ≡ true) (r : reads_first x head ≡ true) (i : names x init ≡ false) (f : any_names x first ≡ false) (P : Trees → Trees → Type 0)
    (by : (ss : List Step) → Well AsWholeItem ss → (y : Name) → names x (led ss init) ≡ false → Named (found ss (identifier y)) (led ss init) → P (declared_among K x first init none ▸ (found ss (identifier y) ▸ none)) (declared_left K first ▸ (led ss init ▸ none))) where
  along : P (declared_among K x first init none ▸ (head ▸ none)) (declared_left K first ▸ (put_first x init head ▸ none))
  along =
      let t = statement x head r in
      let step : Step = record { lead = t.lead; rest = t.rest; is_short = false } in
      let steps : List Step = step ∷ t.path.steps in
      let one = λ (u : Tree). led (step ∷ []) u in
      let there : head ≡ found steps (identifier t.path.read) = t.is ∙ t.along t.inner ∙ ap one t.path.is in
      let put : put_first x init head ≡ led steps init = t.puts init ∙ t.along (put_first x init t.inner) ∙ ap one (t.path.puts init) in
      subst₂ (λ h w. P (declared_among K x first init none ▸ (h ▸ none)) (declared_left K first ▸ (w ▸ none))) (sym there) (sym put)
      (by steps (t.stands (is_end t.path.steps), subst (λ c. Well c t.path.steps) (sym (t.below AsWholeItem)) t.path.well) t.path.read (unnamed x steps ((ap (any_names x) t.front, t.free), t.path.spared) init i) (subst₂ Named (t.along (found t.path.steps (identifier t.path.read))) (t.along (led t.path.steps init)) (stated t.lead (t.stands true) (found t.path.steps (identifier t.path.read)) (led t.path.steps init) t.rest (found_hoists t.path.steps t.path.well (identifier t.path.read) (name_hoists t.path.read)) (led_hoists t.path.steps t.path.well init (plain_hoists init plain)))))

pub single_leaves : (K : VariableDeclarationKind) (x : Name) (k : ℕ) → x.symbol ≡ symbol k → (first : Trees) (init head : Tree) → is_plain_part init ≡ true → reads_first x head ≡ true → names x init ≡ false → any_names x first ≡ false → LeavesThere x (declared_among K x first init none ▸ (head ▸ none)) (declared_left K first ▸ (put_first x init head ▸ none))
single_leaves K x k e first init head plain r i f = along K x k e first init head plain r i f (LeavesThere x) (λ ss w y g n. there_leaves K x k e first init f ss w y g)

pub single_names : (K : VariableDeclarationKind) (x : Name) (k : ℕ) → x.symbol ≡ symbol k → (first : Trees) (init head : Tree) → is_plain_part init ≡ true → reads_first x head ≡ true → names x init ≡ false → any_names x first ≡ false → is_lexical K ≡ true → NamesThere x (declared_among K x first init none ▸ (head ▸ none)) (declared_left K first ▸ (put_first x init head ▸ none))
single_names K x k e first init head plain r i f l = along K x k e first init head plain r i f (NamesThere x) (λ ss w y g n. named_names K x first init f (found ss (identifier y)) (led ss init) g n l)

pub single_declares : (K : VariableDeclarationKind) (x : Name) (k : ℕ) → x.symbol ≡ symbol k → (first : Trees) (init head : Tree) → is_plain_part init ≡ true → reads_first x head ≡ true → names x init ≡ false → any_names x first ≡ false → DeclaresThere x (declared_among K x first init none ▸ (head ▸ none)) (declared_left K first ▸ (put_first x init head ▸ none))
single_declares K x k e first init head plain r i f = along K x k e first init head plain r i f (DeclaresThere x) (λ ss w y g n. named_declares K x first init f (found ss (identifier y)) (led ss init) g n)

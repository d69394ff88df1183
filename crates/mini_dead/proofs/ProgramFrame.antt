-- A program from which dead items go has the imports and exports that it had, and a script the
-- names that it gives the global object.
use Rattle.std.proofs.Common.{◌≡◌, ℕ, suc, Bool, true, false, List, [], ◌∷◌, ◌++◌, Option, Some, None, refl, sym, ap, ◌∙◌, subst, subst₂, true≢false, eq-eqb}
use Rattle.std.specs.Prelude.{not, ◌||◌, if◌then◌else◌}
use Rattle.mini_model.specs.declared.name.Name.{Name}
use Rattle.mini_model.specs.declared.name.SymbolId.{SymbolId}
use Rattle.mini_model.specs.declared.shape.Shape.TheVariants as shape
use Rattle.mini_model.specs.Tree.{Tree, node, none, ◌▸◌, children, shape_of}
use Rattle.mini_accept.specs.WellShaped.{Depth, in_module, in_body, a_statement, a_program, one, many, each, is_whole, is_strict_in, fits, fill, IsWellShaped}
use Rattle.mini_laws.specs.declared.names.Use.{Use}
use Rattle.mini_laws.specs.declared.names.Use.TheVariants.{Read}
use Rattle.mini_laws.specs.declared.names.Declared.TheVariants as declared
use Rattle.mini_laws.specs.DeclaredNames.{names_of, all_names, body_names, all_body_names}
use Rattle.mini_laws.specs.Mentions.{same_variable, is_among}
use Rattle.mini_laws.specs.Resolved.{Environment, or_else, is_for, own_symbol, symbol_of}
use Rattle.mini_laws.specs.Scopes.{scopes_by, body_scope}
use Rattle.mini_laws.specs.ScopeList.{by_symbol, names_in}
use Rattle.mini_laws.specs.Scoped.{Scoped}
use Rattle.mini_laws.specs.Shared.{script_tops, is_shared_always}
use Rattle.mini_laws.specs.Value.{Variable, Declared, Global, VariableSet, variable_by, variable_of, variables, variable_eq, is_in, choose}
use Rattle.mini_laws.specs.Congruence.{NoneIn, Avoids}
use Rattle.mini_kept.specs.Frames.{own, is_port, ports, globals}
use Rattle.mini_kept.specs.SameNames.{is_among as has_among}
use Rattle.mini_kept.proofs.Bools.{left, right}
use Rattle.mini_kept.proofs.Expressions.{refused_here}
use Rattle.mini_kept.proofs.FramePlaces.{port_outline}
use Rattle.mini_kept.proofs.Hoisting.{hoisted_scoped}
use Rattle.mini_dead.specs.Pruned.{Spot, Elsewhere, Statements, AStatement, Role, StatementList, role, spot_below, Declarator, declarator, Item, function_item, declaration_item, lone_item, item_tree, Pruned, prune, Prunings, end, stays, goes, declarator_goes, earlier, earlier_all, later, later_all}
use Rattle.mini_dead.specs.Dead.{has_it, has_name}
use Rattle.mini_dead.specs.Drops.{is_unseen, declarator_name, declarator_names, item_names, gone_names, all_gone_names, gone, DeclaratorIsDead, DeclaratorsAreDead, ItemIsDead, DropsDead, AllDropDead, Drops, nothing_goes, more_goes}
use Rattle.mini_dead.specs.Frames as law
use Rattle.mini_dead.specs.Frames.{root_frame}
use Rattle.mini_dead.proofs.Dropping.{Each, named, both_parts, each_name}
use Rattle.mini_dead.proofs.Frames.{own_same}
use Rattle.mini_dead.proofs.KeptNames.{drops_keep_names, only}
use Rattle.mini_dead.proofs.Lean.{same_variables}
use Rattle.mini_dead.proofs.Sparing.{spared_none, Tidy, AllTidy, tidy, names_spared}
use Rattle.mini_dead.proofs.SparedScopes.{AllFound, by_hoists, body_found}

-- ---- no other code sees a name that goes

module _ (t : Tree) (D : VariableSet) (rounds : ℕ → ℕ) where
  declarator_unseen : (c : Declarator) → DeclaratorIsDead t D rounds c → has_name (is_unseen t) (declarator_name c) ≡ true
  declarator_unseen (declarator n x m init) a = a.0.0

  declarators_unseen : (cs : List Declarator) → DeclaratorsAreDead t D rounds cs → Each (has_name (is_unseen t)) (declarator_names cs)
  declarators_unseen [] a = tt
  declarators_unseen (c ∷ cs) a = (declarator_unseen c a.0, declarators_unseen cs a.1)

  item_unseen : (i : Item) → ItemIsDead t D rounds i → Each (has_name (is_unseen t)) (item_names i)
  item_unseen (function_item g ds xs n x m ts) a = (a.0, tt)
  item_unseen (declaration_item k xs n ys m c cs) a = declarators_unseen (c ∷ cs) a
  item_unseen (lone_item xs n f) a = tt

  mutual
    names_unseen : (p : Spot) (x : Pruned) → DropsDead t D rounds p x → Each (has_name (is_unseen t)) (gone_names x)
    names_unseen p (prune h xs n ps) a = all_unseen (role h p) 0 ps a.1

    all_unseen : (r : Role) (i : ℕ) (ps : Prunings) → AllDropDead t D rounds r i ps → Each (has_name (is_unseen t)) (all_gone_names ps)
    all_unseen r i end a = tt
    all_unseen r i (stays x ps) a = both_parts (has_name (is_unseen t)) (gone_names x) (all_gone_names ps) (names_unseen (spot_below r i) x a.0) (all_unseen r (suc i) ps a.1)
    all_unseen r i (goes c ps) a = both_parts (has_name (is_unseen t)) (item_names c) (all_gone_names ps) (item_unseen c a.1) (all_unseen r (suc i) ps a.2)
    all_unseen r i (declarator_goes c ps) a = (declarator_unseen c a.1, all_unseen r (suc i) ps a.2)

neither : (a b : Bool) → (a || b) ≡ false → (a ≡ false) × (b ≡ false)
neither true b p = absurd (true≢false p)
neither false b p = (refl, p)

not_seen : (b : Bool) → not b ≡ true → b ≡ false
not_seen true e = absurd (true≢false (sym e))
not_seen false e = refl

-- a symbol that no other code sees is no top name of a script
no_top : (t : Tree) (s : ℕ) → is_unseen t s ≡ true → is_among (by_symbol s) (script_tops t) ≡ false
no_top t s e = first (is_among (by_symbol s) (script_tops t)) _ _ _ _ _ (not_seen (is_shared_always t (by_symbol s)) e)
  where
    first : (a b c d f g : Bool) → (((((a || b) || c) || d) || f) || g) ≡ false → a ≡ false
    first true b c d f g e = absurd (true≢false e)
    first false b c d f g e = refl

-- the symbol of a variable that some names have is one that is unseen
unseen_symbol : (t : Tree) (xs : List Name) → Each (has_name (is_unseen t)) xs → (z : Name) → is_in (variable_of z) (variables xs) ≡ true → (s : SymbolId) × (z.symbol ≡ Some s) × (is_unseen t s.0 ≡ true)
unseen_symbol t [] a z e = absurd (true≢false (sym e))
unseen_symbol t (x ∷ xs) a z e = by (unseen_symbol t xs a.1 z) (variable_eq (variable_of x) (variable_of z)) refl e
  where
    same : (o q : Option SymbolId) → has_it (is_unseen t) o ≡ true → variable_by x.spelling o ≡ variable_by z.spelling q → (s : SymbolId) × (q ≡ Some s) × (is_unseen t s.0 ≡ true)
    same None q f g = absurd (true≢false (sym f))
    same (Some s) None f g = absurd (cc g)
    same (Some s) (Some r) f g = (r, refl, subst (λ v. number_unseen v) g f)
      where
        number_unseen : Variable → Type 0
        number_unseen (Declared k) = is_unseen t k ≡ true
        number_unseen (Global s) = ⊥

    by : (is_in (variable_of z) (variables xs) ≡ true → (s : SymbolId) × (z.symbol ≡ Some s) × (is_unseen t s.0 ≡ true)) → (b : Bool) → variable_eq (variable_of x) (variable_of z) ≡ b → choose b true (is_in (variable_of z) (variables xs)) ≡ true → (s : SymbolId) × (z.symbol ≡ Some s) × (is_unseen t s.0 ≡ true)
    by rest true f g = same x.symbol z.symbol a.0 (same_variables (variable_of x) (variable_of z) f)
    by rest false f g = rest g

itself_among : (s : SymbolId) (z : Name) → z.symbol ≡ Some s → same_variable (by_symbol s.0) z ≡ true
itself_among s z e = ap (λ o. same_variable (by_symbol s.0) (record { spelling = z.spelling; symbol = o })) e ∙ eq-eqb s.0 s.0 refl

-- none of a script's top names goes
module _ (t : Tree) (D : VariableSet) (xs : List Name) (all : Each (has_name (is_unseen t)) xs) (is_gone : (x : Variable) → D x ≡ true → is_in x (variables xs) ≡ true) where
  none_top : (zs : List Name) → ((s : ℕ) → is_unseen t s ≡ true → is_among (by_symbol s) zs ≡ false) → NoneIn D (variables zs)
  none_top [] f = tt
  none_top (z ∷ zs) f = (by (D (variable_of z)) refl, none_top zs (λ s e. (neither (same_variable (by_symbol s) z) (is_among (by_symbol s) zs) (f s e)).1))
    where
      by : (b : Bool) → D (variable_of z) ≡ b → D (variable_of z) ≡ false
      by false e = e
      by true e =
          let (s, here, unseen) = unseen_symbol t xs all z (is_gone (variable_of z) e) in
          absurd (true≢false (sym (itself_among s z here) ∙ (neither (same_variable (by_symbol s.0) z) (is_among (by_symbol s.0) zs) (f s.0 unseen)).0))

-- ---- names that are found in scopes of which none goes

module _ (D : VariableSet) (known : (s : List ℕ) → D (Global s) ≡ false) where
  symbol_free : (u : Use) (s : List ℕ) (env : Environment) → NoneIn D (variables (names_in env)) → D (variable_by s (symbol_of u s env)) ≡ false
  symbol_free u s [] a = known s
  symbol_free u s (b ∷ env) a = by (symbol_of u s env) (symbol_free u s env a.1)
    where
      own : (c : Bool) (o : Option SymbolId) → D (variable_by b.name.spelling o) ≡ false → D (variable_by s (if c then o else None)) ≡ false
      own true (Some k) e = e
      own true None e = known s
      own false o e = known s

      by : (o : Option SymbolId) → D (variable_by s o) ≡ false → D (variable_by s (or_else o (own_symbol u s b))) ≡ false
      by (Some k) e = e
      by None e = own (is_for u s b) b.name.symbol a.0

  found_free : (h : Bool) (env : Environment) → NoneIn D (variables (names_in env)) → (xs : List Name) → AllFound h env xs → NoneIn D (variables xs)
  found_free h env a [] f = tt
  found_free h env a (x ∷ xs) f = (ap (λ o. D (variable_by x.spelling o)) f.0.symbol ∙ symbol_free f.0.use_made x.spelling env a, found_free h env a xs f.1)

-- ---- imports, exports and top functions

none_first : (D : VariableSet) (xs ys : List Name) → NoneIn D (variables (xs ++ ys)) → NoneIn D (variables xs)
none_first D [] ys a = tt
none_first D (x ∷ xs) ys a = (a.0, none_first D xs ys a.1)

none_last : (D : VariableSet) (xs ys : List Name) → NoneIn D (variables (xs ++ ys)) → NoneIn D (variables ys)
none_last D [] ys a = a
none_last D (x ∷ xs) ys a = none_last D xs ys a.1

module _ (t : Tree) (D : VariableSet) (rounds : ℕ → ℕ) (m : Bool) where
  Kept : Prunings → Type 0
  Kept ps = m ≡ false → NoneIn D (variables (all_body_names (earlier_all ps)))

  item_no_port : (c : Item) → Each (named D) (item_names c) → (m ≡ false → NoneIn D (variables (body_names (item_tree c)))) → is_port m (shape_of (item_tree c)) ≡ false
  unfolding body_names names_of
  item_no_port (function_item g ds xs n x k ts) a f = by m refl
    where
      by : (b : Bool) → m ≡ b → not m ≡ false
      by true e = ap not e
      by false e = absurd (true≢false (sym a.0 ∙ (f e).0))
  item_no_port (declaration_item k xs n ys q c cs) a f = refl
  item_no_port (lone_item xs n v) a f = refl

  port_same : (strict : Bool) (d : Depth) (x : Pruned) → DropsDead t D rounds AStatement x → fits strict (one (a_statement d)) (earlier x) ≡ true → is_port m (shape_of (earlier x)) ≡ true → own (earlier x) ≡ own (later x)
  port_same strict d (prune h xs n ps) a e f = own_same t D rounds strict (one (a_statement d)) h AStatement xs n ps (port_outline m h f) a e

  same_port : (x : Pruned) → is_port m (shape_of (later x)) ≡ is_port m (shape_of (earlier x))
  same_port (prune h xs n ps) = refl

  ports_same : (strict : Bool) (d : Depth) (i : ℕ) (ps : Prunings) → AllDropDead t D rounds StatementList i ps → AllTidy D StatementList i ps → Kept ps → fill strict (each (one (a_statement d))) (earlier_all ps) ≡ true → ports m (earlier_all ps) ≡ ports m (later_all ps)
  unfolding Kept body_names
  ports_same strict d i end a z k e = refl
  ports_same strict d i (stays x ps) a z k e =
      by (is_port m (shape_of (earlier x))) refl (ports_same strict d (suc i) ps a.1 z.1 (λ q. none_last D (body_names (earlier x)) (all_body_names (earlier_all ps)) (k q)) (right (fits strict (one (a_statement d)) (earlier x)) _ e))
    where
      by : (b : Bool) → is_port m (shape_of (earlier x)) ≡ b → ports m (earlier_all ps) ≡ ports m (later_all ps) → ports m (earlier x ▸ earlier_all ps) ≡ ports m (later x ▸ later_all ps)
      by true f r =
          ap (λ c. if c then own (earlier x) ▸ ports m (earlier_all ps) else ports m (earlier_all ps)) f
          ∙ ap (λ o. o ▸ ports m (earlier_all ps)) (port_same strict d x a.0 (left (fits strict (one (a_statement d)) (earlier x)) _ e) f) ∙ ap (λ os. own (later x) ▸ os) r
          ∙ sym (ap (λ c. if c then own (later x) ▸ ports m (later_all ps) else ports m (later_all ps)) (same_port x ∙ f))
      by false f r =
          ap (λ c. if c then own (earlier x) ▸ ports m (earlier_all ps) else ports m (earlier_all ps)) f ∙ r
          ∙ sym (ap (λ c. if c then own (later x) ▸ ports m (later_all ps) else ports m (later_all ps)) (same_port x ∙ f))
  ports_same strict d i (goes c ps) a z k e =
      ap (λ b. if b then own (item_tree c) ▸ ports m (earlier_all ps) else ports m (earlier_all ps)) (item_no_port c z.1 (λ q. none_first D (body_names (item_tree c)) (all_body_names (earlier_all ps)) (k q)))
      ∙ ports_same strict d (suc i) ps a.2 z.2 (λ q. none_last D (body_names (item_tree c)) (all_body_names (earlier_all ps)) (k q)) (right (fits strict (one (a_statement d)) (item_tree c)) _ e)
  ports_same strict d i (declarator_goes c ps) a z k e = absurd a.0

-- ---- the whole

module _ (p : Pruned) (rounds : ℕ → ℕ) (dead : DropsDead (earlier p) (gone p) rounds Elsewhere p) (unnamed : Avoids (gone p) (later p)) where
  known_names : (s : List ℕ) → gone p (Global s) ≡ false
  known_names = only p rounds dead unnamed

  tops_free : NoneIn (gone p) (variables (script_tops (earlier p)))
  tops_free = none_top (earlier p) (gone p) (gone_names p) (names_unseen (earlier p) (gone p) rounds Elsewhere p dead) (λ x e. e) (script_tops (earlier p)) (λ s e. no_top (earlier p) s e)

-- the list of statements of a program
list_ports : (t : Tree) (D : VariableSet) (rounds : ℕ → ℕ) (m : Bool) (d : Depth) (strict : Bool) (x : Pruned) → DropsDead t D rounds Statements x → Tidy D Statements x → (m ≡ false → NoneIn D (variables (body_names (earlier x)))) → fits strict (many (a_statement d)) (earlier x) ≡ true
    → ports m (children (earlier x)) ≡ ports m (children (later x))
unfolding Kept body_names
list_ports t D rounds m d strict (prune shape.Listed xs n ps) a z k e = ports_same t D rounds m strict d 0 ps a.1 z k (right (is_whole (a_statement d) shape.Listed xs n (earlier_all ps)) _ e)
list_ports t D rounds m d strict (prune h xs n ps) a z k e = absurd (refused_here strict (many (a_statement d)) h xs n (earlier_all ps) refl e)

module _ (ds : List (List ℕ)) (xs : List Name) (n : ℕ) (x : Pruned) (rounds : ℕ → ℕ) where
  abbrev root : Bool → Pruned
  root m = prune (shape.Program m ds) xs n (stays x end)

  module _ (m : Bool) (dead : DropsDead (earlier (root m)) (gone (root m)) rounds Elsewhere (root m)) (unnamed : Avoids (gone (root m)) (later (root m))) (scoped : Scoped Read [] (earlier (root m))) where
    abbrev D : VariableSet
    D = gone (root m)

    goes_tidily : Tidy D Elsewhere (root m)
    goes_tidily = tidy D (earlier (root m)) rounds Elsewhere (root m) dead (each_name (named D) (gone_names (root m)) (λ x q. q))

    abbrev around : Environment
    around = body_scope [] (body_names (earlier x))

    inside : Scoped Read around (earlier x)
    unfolding Scoped scopes_by
    inside = scoped.1.0

    around_free : m ≡ false → NoneIn D (variables (names_in around))
    unfolding scopes_by
    around_free e = subst (λ b. NoneIn D (variables (script_tops (node (shape.Program b ds) xs n (earlier x ▸ none)))) → NoneIn D (variables (names_in around))) (sym e) (λ f. f) (tops_free (root m) rounds dead unnamed)

    body_free : m ≡ false → NoneIn D (variables (body_names (earlier x)))
    body_free e = found_free D (known_names (root m) rounds dead unnamed) true around (around_free e) (body_names (earlier x)) (body_found Read refl around (earlier x) inside)

    hoisted_free : m ≡ false → NoneIn D (variables (names_of declared.Hoisted (earlier x)))
    hoisted_free e = found_free D (known_names (root m) rounds dead unnamed) true around (around_free e) (names_of declared.Hoisted (earlier x)) (by_hoists around (names_of declared.Hoisted (earlier x)) (hoisted_scoped Read around (earlier x) inside))

    globals_same : globals (shape.Program m ds) (earlier x ▸ none) ≡ globals (shape.Program m ds) (later x ▸ none)
    unfolding names_of
    globals_same = by m refl
      where
        by : (b : Bool) → m ≡ b → (if b then [] else all_names declared.Hoisted (earlier x ▸ none)) ≡ (if b then [] else all_names declared.Hoisted (later x ▸ none))
        by true e = refl
        by false e = ap (λ ys. ys ++ []) (sym (names_spared D declared.Hoisted Statements x goes_tidily.0 unnamed.1.0 ∙ spared_none D (names_of declared.Hoisted (earlier x)) (hoisted_free e)))

    root_same : (strict : Bool) (d : Depth) → fits strict (many (a_statement d)) (earlier x) ≡ true → root_frame (earlier (root m)) ≡ root_frame (later (root m))
    root_same strict d e =
        ap (λ os. record { number = n; property = None; outline = node (shape.Program m ds) [] n os; globals = has_among (globals (shape.Program m ds) (earlier x ▸ none)) } ∷ []) (list_ports (earlier (root m)) D rounds m d strict x dead.1.0 goes_tidily.0 body_free e)
        ∙ ap (λ gs. record { number = n; property = None; outline = node (shape.Program m ds) [] n (ports m (children (later x))); globals = has_among gs } ∷ []) globals_same

program_same : (p : Pruned) (rounds : ℕ → ℕ) → DropsDead (earlier p) (gone p) rounds Elsewhere p → Avoids (gone p) (later p) → IsWellShaped (earlier p) → Scoped Read [] (earlier p) → root_frame (earlier p) ≡ root_frame (later p)
program_same (prune (shape.Program m ds) xs n (stays x end)) rounds dead unnamed e s =
    root_same ds xs n x rounds m dead unnamed s (is_strict_in false (shape.Program m ds)) (if m then in_module else in_body) (left (fits (is_strict_in false (shape.Program m ds)) (many (a_statement (if m then in_module else in_body))) (earlier x)) true (right (is_whole a_program (shape.Program m ds) xs n (earlier x ▸ none)) _ e))
program_same (prune (shape.Program m ds) xs n end) rounds dead unnamed e s = absurd (true≢false (sym (right (is_whole a_program (shape.Program m ds) xs n none) false e)))
program_same (prune (shape.Program m ds) xs n (stays x (stays y ps))) rounds dead unnamed e s =
    absurd (true≢false (sym (right (fits (is_strict_in false (shape.Program m ds)) (many (a_statement (if m then in_module else in_body))) (earlier x)) false (right (is_whole a_program (shape.Program m ds) xs n (earlier x ▸ (earlier y ▸ earlier_all ps))) _ e))))
program_same (prune (shape.Program m ds) xs n (stays x (goes c ps))) rounds dead unnamed e s = absurd dead.1.1.0
program_same (prune (shape.Program m ds) xs n (stays x (declarator_goes c ps))) rounds dead unnamed e s = absurd dead.1.1.0
program_same (prune (shape.Program m ds) xs n (goes c ps)) rounds dead unnamed e s = absurd dead.1.0
program_same (prune (shape.Program m ds) xs n (declarator_goes c ps)) rounds dead unnamed e s = absurd dead.1.0
program_same (prune h xs n ps) rounds dead unnamed e s = absurd (refused_here false (one a_program) h xs n (earlier_all ps) refl e)

once_program : (t u : Tree) (n : ℕ) → Drops t u n → IsWellShaped t → Scoped Read [] t → root_frame t ≡ root_frame u
once_program t u n w e s =
    subst₂ (λ t u. root_frame t ≡ root_frame u) w.before w.after
    (program_same w.pruned w.rounds (subst (λ t. DropsDead t (gone w.pruned) w.rounds Elsewhere w.pruned) (sym w.before) w.dead) (subst (Avoids (gone w.pruned)) (sym w.after) w.unnamed) (subst IsWellShaped (sym w.before) e) (subst (Scoped Read []) (sym w.before) s))

pub drops_keep_program : law.DropsKeepProgram
drops_keep_program _ _ _ (nothing_goes t) e s = refl
drops_keep_program _ _ _ (more_goes t u v m n w r) e s =
    let first = (drops_keep_names t u m w).keeps in
    drops_keep_program t u m w e s ∙ once_program u v n r (first.shaped e) (first.scoped e s)

-- A handler without a name that nothing mentions keeps what else a program has to keep.
use Rattle.std.specs.Prelude.{ℕ, ◌+◌, ◌≤◌, ◌≡◌, ◌⊎◌, refl, ◌&&◌, Bool, true, false, List, [], ◌∷◌, ◌++◌, Contains, Option, Some, None, if◌then◌else◌}
use Rattle.std.proofs.Common.{ap, ◌∙◌, sym, subst, subst₂, inl, inr, true≢false, arith}
use Rattle.std.proofs.lemmas.Bool.{eq-eqb}
use Rattle.std.proofs.lemmas.List.Elements.{Contains-append_right}
use Rattle.mini_model.specs.declared.name.Name.{Name}
use Rattle.mini_model.specs.declared.name.SymbolId.{SymbolId}
use Rattle.mini_model.specs.declared.place.Position.{Position}
use Rattle.mini_model.specs.declared.place.Position.TheVariants.{Elsewhere}
use Rattle.mini_model.specs.declared.shape.Shape.{Shape}
use Rattle.mini_model.specs.declared.shape.Shape.TheVariants as shape
use Rattle.mini_model.specs.Tree.{Tree, none, ◌▸◌, absent, shape_of}
use Rattle.mini_accept.specs.WellShaped.{Depth, in_module, in_body, nested, Class, a_statement, a_block, a_catch, a_key, a_private_or_key, an_inner_key, a_default_export, a_pattern, Slot, one, one_or_absent, filling_by, statement_slots, fits}
use Rattle.mini_laws.specs.declared.names.Binding.{Binding}
use Rattle.mini_laws.specs.declared.names.Declaration.{Declaration}
use Rattle.mini_laws.specs.declared.names.Declared.{Declared}
use Rattle.mini_laws.specs.declared.names.Declared.TheVariants as declares
use Rattle.mini_laws.specs.declared.names.Targets.{Targets}
use Rattle.mini_laws.specs.declared.names.Use.{Use}
use Rattle.mini_laws.specs.DeclaredNames.{names_of, body_names, with_names, has_inner}
use Rattle.mini_laws.specs.Early.{Path, body_declarations, declarations, in_body as body_part, children_of_node, in_block, scope_declarations, clashing, early_names, targets_of, early_jumps, is_loop}
use Rattle.mini_laws.specs.Edits.{Kept}
use Rattle.mini_laws.specs.Resolved.{Environment}
use Rattle.mini_laws.specs.Scopes.{opened, use_of, scopes_by}
use Rattle.mini_laws.specs.Scoped.{Scoped, Unmentioned}
use Rattle.mini_laws.specs.Symbols.{declared as declared_in, times, is_same}
use Rattle.mini_laws.specs.Value.{Value, Variable, VariableSet, Holds, Uninitialised, choose, nothing}
use Rattle.mini_laws.specs.Value.{Declared as Symbol}
use Rattle.mini_laws.specs.State.{State, Completion, ok, stop, halt, out, either, FreshOf, with_vars}
use Rattle.mini_laws.specs.State.{Environment as World}
use Rattle.mini_laws.specs.Demand.{Demand, Stat, Binds, Catches, Request}
use Rattle.mini_laws.specs.Command.{set_var, hide_all, note, act, at_variable}
use Rattle.mini_laws.specs.Fixity.{fixed_by}
use Rattle.mini_laws.specs.Naming.{summary}
use Rattle.mini_laws.specs.Step.{step, means, meaning}
use Rattle.mini_laws.specs.Same.{Goes, Agree, Same}
use Rattle.mini_laws.specs.Substitution.{alone}
use Rattle.mini_laws.specs.Congruence.{Avoids}
use Rattle.mini_laws.specs.Bodies.{Around, bodies, arrow_kind}
use Rattle.mini_laws.proofs.Congruent.{insensitive}
use Rattle.mini_laws.proofs.Drops.{all_dropped}
use Rattle.mini_kept.specs.Carried.{numbers}
use Rattle.mini_kept.specs.Declaring.{declared}
use Rattle.mini_kept.specs.Frames.{is_declaration, is_port, frames}
use Rattle.mini_kept.specs.KeepsFrames.{is_in_body, is_body_slot, IsShownAlike, NoPort, NoDeclaration, KeepsFunction, KeepsHolder}
use Rattle.mini_kept.specs.KeepsLoosely.{KeepsLoosely}
use Rattle.mini_kept.specs.KeepsNames.{Keeps, unplaced, is_rewritten_place, count_of}
use Rattle.mini_kept.specs.KeepsShapes.{AskedAlike}
use Rattle.mini_kept.specs.Lifted.{is_piece, KeepsRoot}
use Rattle.mini_kept.specs.Loosely.{symbol, Stays, Drops}
use Rattle.mini_kept.specs.Placed.{fits_place, is_statement_list}
use Rattle.mini_kept.specs.SameNames.{NoMoreClash}
use Rattle.mini_kept.specs.ShownFrames.{no_key, gone_from}
use Rattle.mini_kept.specs.Without.{Unseen}
use Rattle.mini_kept.proofs.Below.{both_empty, empty_both}
use Rattle.mini_kept.proofs.BodyLists.{kept_itself}
use Rattle.mini_kept.proofs.Clashes.{still_free}
use Rattle.mini_kept.proofs.Expressions.{refused_here}
use Rattle.mini_kept.proofs.Fixed.{of_children}
use Rattle.mini_kept.proofs.InOrder.{in_order}
use Rattle.mini_kept.proofs.ShownFrames.{shown_themselves}
use Rattle.mini_kept.proofs.WithoutLists.{from_kept}
use Rattle.mini_rows.specs.Catches.{handler, Row63, CatchContracts, CatchesAreLawful}
use Rattle.mini_rows.specs.Declarations.{binding}
use Rattle.mini_rows.specs.Unused.{resolved}
use Rattle.mini_rows.proofs.UnusedNames.{unmentioned, avoided}

-- ---- it does the same, but for the name

module _ (e : World) (s : List ℕ) (k : ℕ) (z : Unseen (alone (Symbol k)) e) (body : Tree) (av : Avoids (alone (Symbol k)) body) where
  abbrev D : VariableSet
  D = alone (Symbol k)

  abbrev x : Name
  x = resolved s k

  abbrev hidden : List Variable → State → State
  hidden xs t = with_vars t (hide_all xs t.vars)

  abbrev held : Value → State → State
  held v t = with_vars t (set_var t.vars (Symbol k) (Holds v))

  -- what is left once the names of the scope are gone
  ended : List Variable → Completion (Unit {0}) → Completion (Unit {0})
  ended xs c = either c (λ u t. ok tt (hidden xs t)) (λ y t. stop y (hidden xs t))

  unshared : e.shared (Symbol k) ≡ false
  unshared = z.shared (Symbol k) (eq-eqb k k refl)

  binds : (v : Value) (t : State) → means e (binding x) (Binds true) v t ≡ ok tt (held v t)
  unfolding means meaning step either act at_variable
  binds v t = ap (λ b. let r = choose b (note e FreshOf None [] (Some (Symbol k)) t) t in ok tt (with_vars r (set_var r.vars (Symbol k) (Holds v)))) unshared

  with_name : (v : Value) (t : State) → means e (handler (binding x) body) Catches v t ≡ either (means e (binding x) (Binds true) v (hidden (Symbol k ∷ []) t)) (λ u r. ended (Symbol k ∷ []) (means e body (Stat None) [] r)) (λ y r. stop y (hidden (Symbol k ∷ []) r))
  unfolding means meaning step either act ended
  with_name v t = refl

  without : (v : Value) (t : State) → means e (handler absent body) Catches v t ≡ ended [] (means e body (Stat None) [] (hidden [] t))
  unfolding means meaning step either act ended
  without v t = refl

  bound : (c : Completion (Unit {0})) (v : Value) (t : State) → c ≡ ok tt (held v t) → either c (λ u r. ended (Symbol k ∷ []) (means e body (Stat None) [] r)) (λ y r. stop y (hidden (Symbol k ∷ []) r)) ≡ ended (Symbol k ∷ []) (means e body (Stat None) [] (held v t))
  unfolding either
  bound c v t q = ap (λ d. either d (λ u r. ended (Symbol k ∷ []) (means e body (Stat None) [] r)) (λ y r. stop y (hidden (Symbol k ∷ []) r))) q

  agrees : (t r : State) → Agree D t r → Agree D (hidden (Symbol k ∷ []) t) (hidden [] r)
  agrees t r a = record { vars = λ y d. ap (λ b. choose (choose b true false) Uninitialised (t.vars y)) d ∙ a.vars y d; self = a.self; answers = a.answers; turns = a.turns; events = a.events }

  begins : (v : Value) (t : State) → Agree D (held v (hidden (Symbol k ∷ []) t)) (hidden [] t)
  begins v t = record { vars = λ y d. ap (λ b. choose b (Holds v) (choose (choose b true false) Uninitialised (t.vars y))) d; self = refl; answers = refl; turns = refl; events = refl }

  abbrev Go : Completion (Unit {0}) → Completion (Unit {0}) → Type 0
  Go a b = Goes true (λ u. Agree D) (Agree D) (Agree D) a b

  anything : (c : Completion (Unit {0})) → Go out c
  unfolding Goes
  anything (ok u t) = tt
  anything (stop y t) = tt
  anything (halt y t) = tt
  anything out = tt

  goes : (a b : Completion (Unit {0})) → Go a b → Go (ended (Symbol k ∷ []) a) (ended [] b)
  unfolding Goes either ended
  goes (ok u t) (ok v r) g = (refl, agrees t r g.1)
  goes (stop y t) (stop w r) g = (g.0, agrees t r g.1)
  goes (halt y t) (halt w r) g = g
  goes out b g = anything (ended [] b)
  goes a b g = absurd g

  catches_same : (v : Value) (t : State) → Go (means e (handler (binding x) body) Catches v t) (means e (handler absent body) Catches v t)
  catches_same v t =
      subst₂ Go (sym (with_name v t ∙ bound _ v (hidden (Symbol k ∷ []) t) (binds v (hidden (Symbol k ∷ []) t)))) (sym (without v t))
      (goes _ _ (insensitive e D z.shared body av (Stat None) [] (held v (hidden (Symbol k ∷ []) t)) (hidden [] t) (begins v t)))

  nowhere : (q : Demand) (r : Request q) (t : State) → (q ≡ Catches → ⊥) → Goes true (λ u. Agree D) (Agree D) (Agree D) (means e (handler (binding x) body) q r t) (means e (handler absent body) q r t)
  unfolding means step Goes
  nowhere Catches r t f = absurd (f refl)
  nowhere q r t f = tt

  pub handler_same : (q : Demand) → Same e D nothing q (handler (binding x) body) (handler absent body)
  handler_same Catches = record { by = λ r t i. catches_same r t }
  handler_same q = record { by = λ r t i. nowhere q r t (λ g. cc g) }

-- ---- where it stands

keep : (b r : Bool) → (b && (r && true)) ≡ true → (true && (r && true)) ≡ true
keep true r e = e
keep false r e = absurd (true≢false (sym e))

handler_nowhere : (strict : Bool) (d : Depth) → statement_slots strict d shape.CatchClause ≡ None
handler_nowhere true in_module = refl
handler_nowhere true in_body = refl
handler_nowhere true nested = refl
handler_nowhere false in_module = refl
handler_nowhere false in_body = refl
handler_nowhere false nested = refl

abbrev Standing : Tree → Bool → Class → Type 0
Standing b strict c = (is_in_body c ≡ true) × (fits strict (one c) (handler absent b) ≡ true)

in_class : (x : Name) (b : Tree) (strict : Bool) (c : Class) → fits strict (one c) (handler (binding x) b) ≡ true → Standing b strict c
in_class x b strict a_catch e = (refl, keep (fits strict (one_or_absent a_pattern) (binding x)) (fits strict (one a_block) b) e)
in_class x b strict (a_statement d) e = absurd (refused_here strict (one (a_statement d)) shape.CatchClause [] 0 (binding x ▸ (b ▸ none)) (ap filling_by (handler_nowhere strict d)) e)
in_class x b strict (a_key true) e = absurd (refused_here strict (one (a_key true)) shape.CatchClause [] 0 (binding x ▸ (b ▸ none)) refl e)
in_class x b strict (a_key false) e = absurd (refused_here strict (one (a_key false)) shape.CatchClause [] 0 (binding x ▸ (b ▸ none)) refl e)
in_class x b strict (a_private_or_key true) e = absurd (refused_here strict (one (a_private_or_key true)) shape.CatchClause [] 0 (binding x ▸ (b ▸ none)) refl e)
in_class x b strict (an_inner_key true) e = absurd (refused_here strict (one (an_inner_key true)) shape.CatchClause [] 0 (binding x ▸ (b ▸ none)) refl e)
in_class x b strict c e = absurd (refused_here strict (one c) shape.CatchClause [] 0 (binding x ▸ (b ▸ none)) refl e)

in_slot : (x : Name) (b : Tree) (strict : Bool) (p : Position) (s : Slot) → fits strict s (handler (binding x) b) ≡ true → (is_body_slot p s ≡ true) × (fits strict s (handler absent b) ≡ true)
in_slot x b strict p (one c) e = in_class x b strict c e
in_slot x b strict p (one_or_absent c) e = in_class x b strict c e
in_slot x b strict p s e = absurd (refused_here strict s shape.CatchClause [] 0 (binding x ▸ (b ▸ none)) refl e)

-- ---- names

abbrev bind : Name → Binding
bind y = record { name = y; hoists = false }

module _ (x : Name) (b : Tree) where
  abbrev before : Tree
  before = handler (binding x) b

  abbrev after : Tree
  after = handler absent b

  scoped_without : Unmentioned (bind x) b → (v : Use) (env : Environment) → Scoped v env before → Scoped v env after
  unfolding Scoped scopes_by names_of with_names Unmentioned
  scoped_without m v env s = (tt, ((tt, tt), all_dropped (opened v shape.CatchClause (binding x ▸ (b ▸ none))) (use_of shape.CatchClause v) 1 env [] (bind x) (b ▸ none) s.1.1 (m, tt)))

  one_more : (v : Use) → declared_in v before ≡ x.symbol ∷ declared_in v after
  unfolding declared_in scopes_by names_of with_names
  one_more v = refl

  no_more : (v : Use) (y : Option SymbolId) → times y (declared_in v after) ≤ times y (declared_in v before)
  no_more v y = let h = ap (times y) (one_more v) in omega (arith, h)

  one_less : (k : ℕ) → x.symbol ≡ symbol k → (v : Use) → times (symbol k) (declared_in v after) + 1 ≤ times (symbol k) (declared_in v before)
  one_less k q v =
      let h = ap (times (symbol k)) (one_more v) in
      let own : is_same (symbol k) x.symbol ≡ true = ap (is_same (symbol k)) q ∙ eq-eqb k k refl in
      let f = ap (λ b. (if b then 1 else 0) + times (symbol k) (declared_in v after)) own in
      omega (arith, h, f)

  names_same : (d : Declared) → names_of d after ≡ names_of d before
  unfolding names_of
  names_same declares.Bound = refl
  names_same declares.Lexical = refl
  names_same declares.Hoisted = refl

  body_same : body_names after ≡ body_names before
  unfolding body_names names_of
  body_same = refl

  inner_same : has_inner after ≡ has_inner before
  unfolding has_inner
  inner_same = refl

  numbers_same : numbers after ≡ numbers before
  unfolding numbers
  numbers_same = refl

  declared_same : (a : Bool) (q : Path) → body_declarations a q after ≡ body_declarations a q before
  unfolding body_declarations declarations
  declared_same a q = refl

  first_same : (a : Bool) (q : Path) → body_part a q (children_of_node after) 0 ≡ body_part a q (children_of_node before) 0
  unfolding body_declarations declarations
  first_same a q = refl

  targets_same : (a : Targets) (q : Path) → early_jumps a q after ≡ early_jumps a q before
  unfolding early_jumps targets_of
  targets_same a q = refl

  loop_same : is_loop after ≡ is_loop before
  unfolding is_loop
  loop_same = refl

  abbrev caught : Path → Declaration
  caught q = record { spelling = x.spelling; is_lexical = false; at = q ++ 0 ∷ [] }

  fewer : (d : Declaration) (ds : List Declaration) → NoMoreClash ds (d ∷ ds)
  fewer d ds s = (omega arith, λ e. omega (arith, e))

  once_without : (q : Path) → early_names q before ≡ [] → early_names q after ≡ []
  unfolding early_names scope_declarations declarations
  once_without q e =
      let ds = in_block q (binding x ▸ (b ▸ none)) in
      let (c, o) = empty_both (clashing [] (caught q ∷ ds)) (early_names (q ++ 1 ∷ []) b ++ []) e in
      both_empty (clashing [] ds) (early_names (q ++ 1 ∷ []) b ++ []) (still_free (caught q ∷ ds) ds (fewer (caught q) ds) c) o

  handler_kept : Kept before after
  handler_kept = record { names = names_same; body = body_same; inner = inner_same; symbols = no_more }

  handler_keeps : Unmentioned (bind x) b → Keeps Elsewhere before after
  handler_keeps m = record {
    kept = handler_kept;
    scoped = λ v env st a. scoped_without m v env a;
    numbers = λ k. let h = ap (count_of k) numbers_same in omega (arith, h);
    declared_as_body = λ a q. ap unplaced (declared_same a q);
    once = once_without;
    targets = λ a q f. targets_same a q ∙ f;
    loop = loop_same;
    root = λ q. refl;
    block = λ e a q. ap unplaced (first_same a q);
  }

  declares_less : declared before ≡ x ∷ declared after
  declares_less = refl

  fixed_same : (y : Variable) → fixed_by before y ≡ fixed_by after y
  fixed_same y = of_children shape.CatchClause [] 0 (binding x ▸ (b ▸ none)) y refl ∙ sym (of_children shape.CatchClause [] 0 (absent ▸ (b ▸ none)) y refl)

  frames_same : frames None before ≡ frames None after
  frames_same = refl

  bodies_same : (a : Around) → bodies a before ≡ bodies a after
  bodies_same a = refl

-- ---- an instance

along : (P : Tree → Tree → Type 0) (n w : Tree) (r : Row63 n w) → P (handler (binding (resolved r.spelling r.symbol)) r.body) (handler absent r.body) → P n w
along P n w r f = subst (λ t. P t w) (sym r.shape) (subst (P (handler (binding (resolved r.spelling r.symbol)) r.body)) (sym r.written) f)

asked : (x : Name) (b : Tree) → AskedAlike Elsewhere (handler (binding x) b) (handler absent b)
asked x b = record { absent = λ g. absurd (true≢false (sym g)); body = λ g. absurd (true≢false (sym g)); optional = λ g. absurd (true≢false (sym g)); number = λ g h. refl; spelled = λ r g. absurd (cc g); plain = refl }

dropped : (K : Shape → Bool) (n w : Tree) (r : Row63 n w) → Drops K r.symbol Elsewhere n w
dropped K n w r =
    let x = resolved r.spelling r.symbol in
    let k = r.symbol in
    let b = r.body in
    along (Drops K k Elsewhere) n w r (record {
      kept = handler_kept x b;
      less = one_less x b k refl;
      same = λ e z q f. handler_same e r.spelling k z.unseen b (avoided x k refl b r.unmentioned) q;
      fixed = λ y f. fixed_same x b y;
      frames = λ strict c g f. shown_themselves (gone_from K (alone (Symbol k))) no_key (frames None (handler (binding x) b));
      bodies = λ strict c g f a z. from_kept (alone (Symbol k)) _ _ (kept_itself (bodies a (handler (binding x) b)));
    })

-- whichever place it is
at_handler : (P : Position → Tree → Tree → Type 0) → ((n w : Tree) → Row63 n w → P Elsewhere n w) → (p : Position) (n w : Tree) → CatchContracts p n w → P p n w
at_handler P f Elsewhere n w c = f n w c.row
at_handler P f p n w c = absurd c.row

stands : (n w : Tree) → Row63 n w → (strict : Bool) (s : Slot) → fits strict s n ≡ true → (is_body_slot Elsewhere s ≡ true) × (fits strict s w ≡ true)
stands n w r strict s = along (λ t v. fits strict s t ≡ true → (is_body_slot Elsewhere s ≡ true) × (fits strict s v ≡ true)) n w r (in_slot (resolved r.spelling r.symbol) r.body strict Elsewhere s)

root_kept : (x : Name) (b : Tree) → KeepsRoot Elsewhere (handler (binding x) b) (handler absent b)
root_kept x b = record { place = refl; shape = refl; names = refl; number = refl; counted = refl; second = refl }

pub catches_lawful : CatchesAreLawful
catches_lawful K = record {
  shapes = record {
    fitting = at_handler (λ p n w. (strict : Bool) (s : Slot) → fits_place p s ≡ true → fits strict s n ≡ true → fits strict s w ≡ true) (λ n w r strict s z e. (stands n w r strict s e).1);
    asked = at_handler AskedAlike (λ n w r. along (AskedAlike Elsewhere) n w r (asked (resolved r.spelling r.symbol) r.body));
  };
  places = record {
    names = record {
      places = at_handler (λ p n w. (is_rewritten_place p ≡ true) ⊎ KeepsRoot p n w) (λ n w r. inr (along (KeepsRoot Elsewhere) n w r (root_kept (resolved r.spelling r.symbol) r.body)));
      pieces = at_handler (λ p n w. is_piece (shape_of n) ≡ false) (λ n w r. ap (λ t. is_piece (shape_of t)) r.shape);
      keeps = at_handler (λ p n w. (strict : Bool) (s : Slot) → fits_place p s ≡ true → fits strict s n ≡ true → KeepsLoosely p n w) (λ n w r strict s z e.
          along (KeepsLoosely Elsewhere) n w r (in_order Elsewhere _ _ (handler_keeps (resolved r.spelling r.symbol) r.body (unmentioned (resolved r.spelling r.symbol) r.symbol refl r.body r.unmentioned))));
    };
    slots = at_handler (λ p n w. (strict : Bool) (s : Slot) → fits_place p s ≡ true → fits strict s n ≡ true → ((is_body_slot p s ≡ true) ⊎ IsShownAlike s n w) ⊎ KeepsHolder n w) (λ n w r strict s z e. inl (inl (stands n w r strict s e).0));
    ports = at_handler (λ p n w. (strict : Bool) (d : Depth) → fits strict (one (a_statement d)) n ≡ true → (m : Bool) → NoPort m n w ⊎ KeepsFunction n w) (λ n w r strict d e m. inl (ap (λ t. is_port m (shape_of t)) r.shape, ap (λ t. is_port m (shape_of t)) r.written));
    listed = λ p n w e c. absurd (at_handler (λ p n w. is_statement_list p ≡ true → ⊥) (λ n w r e. cc e) p n w c e);
    exported = at_handler (λ p n w. (strict : Bool) → fits strict (one a_default_export) n ≡ true → NoDeclaration n w ⊎ KeepsFunction n w) (λ n w r strict e. inl (ap (λ t. is_declaration (shape_of t)) r.shape, ap (λ t. is_declaration (shape_of t)) r.written));
  };
  reads = at_handler (λ p n w. summary n ≡ summary w) (λ n w r. ap summary r.shape ∙ sym (ap summary r.written));
  kind = at_handler (λ p n w. (strict : Bool) (s : Slot) → fits strict s n ≡ true → arrow_kind (shape_of n) ≡ arrow_kind (shape_of w)) (λ n w r strict s e. ap (λ t. arrow_kind (shape_of t)) r.shape ∙ sym (ap (λ t. arrow_kind (shape_of t)) r.written));
  declared = at_handler (λ p n w. (y : Name) → Contains (declared w) y → Contains (declared n) y) (λ n w r.
      along (λ t v. (y : Name) → Contains (declared v) y → Contains (declared t) y) n w r (λ y c. Contains-append_right (resolved r.spelling r.symbol ∷ []) (declared (handler absent r.body)) y c));
  instances = at_handler (λ p n w. Stays p n w ⊎ ((k : ℕ) × Drops K k p n w)) (λ n w r. inr (r.symbol, dropped K n w r));
}

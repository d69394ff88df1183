-- A pattern that is declared keeps all that a program has to keep where a key in it loses its brackets.
use Rattle.std.specs.Prelude.{ℕ, suc, ◌<◌, ◌≡◌, ◌⊎◌, refl, Bool, true, false, [], ◌∷◌, ◌++◌, Contains, None}
use Rattle.std.proofs.Common.{ap, ◌∙◌, sym, subst, inl, inr, arith, true≢false}
use Rattle.mini_model.specs.declared.place.Position.{Position}
use Rattle.mini_model.specs.declared.place.Position.TheVariants.{Expr, Stmt, Unwritten, Elsewhere}
use Rattle.mini_model.specs.declared.shape.Shape.{Shape}
use Rattle.mini_model.specs.declared.shape.Shape.TheVariants as shape
use Rattle.mini_model.specs.Paths.{append}
use Rattle.mini_model.specs.Tree.{Tree, Trees, node, none, ◌▸◌, shape_of}
use Rattle.mini_model.specs.Weight.{outline, weight}
use Rattle.mini_accept.specs.WellShaped.{Depth, in_module, in_body, nested, Class, a_statement, a_key, a_private_or_key, an_inner_key, a_pattern_property, a_pattern_element, a_declarator, a_catch, Slot, one, one_or_absent, statement_slots, refused, filling, filling_by, fits}
use Rattle.mini_laws.specs.declared.names.Declared.{Declared}
use Rattle.mini_laws.specs.declared.names.Declared.TheVariants as declaring
use Rattle.mini_laws.specs.declared.names.Targets.{Targets}
use Rattle.mini_laws.specs.declared.names.Use.{Use}
use Rattle.mini_laws.specs.DeclaredNames.{names_of, body_names}
use Rattle.mini_laws.specs.Early.{Path, declarations, body_declarations, in_body as body_within, children_of_node, in_block, is_pattern_shape, scope_declarations, early_names, targets_of, early_jumps, is_loop}
use Rattle.mini_laws.specs.Resolved.{Environment}
use Rattle.mini_laws.specs.Scopes.{scopes_by, at_or_empty, lexical_scope, opened}
use Rattle.mini_laws.specs.Scoped.{Scoped}
use Rattle.mini_laws.specs.Symbols.{declared as declared_in, times}
use Rattle.mini_laws.specs.Value.{Variable, nothing}
use Rattle.mini_laws.specs.Fixity.{fixed_by}
use Rattle.mini_laws.specs.Naming.{summary}
use Rattle.mini_laws.specs.Rows.{SameAt}
use Rattle.mini_laws.specs.Rewritten.{MeansSame}
use Rattle.mini_laws.specs.Step.{step, means, meaning}
use Rattle.mini_laws.specs.Body.{InnerValue}
use Rattle.mini_laws.specs.Bodies.{Around, Body, bodies, arrow_kind}
use Rattle.mini_laws.proofs.Rows.{equal_same}
use Rattle.mini_kept.specs.AlikeBodies.{BodiesKept}
use Rattle.mini_kept.specs.Carried.{numbers}
use Rattle.mini_kept.specs.Declaring.{declared}
use Rattle.mini_kept.specs.Frames.{unbracketed, part, is_declaration, is_port, frames}
use Rattle.mini_kept.specs.KeepsFrames.{is_in_body, is_body_slot}
use Rattle.mini_kept.specs.KeepsLoosely.{has_member, KeepsLoosely}
use Rattle.mini_kept.specs.KeepsNames.{count_of, unplaced}
use Rattle.mini_kept.specs.KeepsShapes.{AskedAlike}
use Rattle.mini_kept.specs.Lawful.{Lawful}
use Rattle.mini_kept.specs.Lifted.{is_piece, KeepsRoot}
use Rattle.mini_kept.specs.Placed.{fits_place, is_statement_list}
use Rattle.mini_kept.specs.SameNames.{is_among, first_symbol}
use Rattle.mini_kept.specs.ShownFrames.{KeyGiven, Shows, none_gone, FramesShown}
use Rattle.mini_kept.proofs.BodyLists.{kept_itself, second_of}
use Rattle.mini_kept.proofs.Clashes.{no_more_same}
use Rattle.mini_kept.proofs.Expressions.{refused_here}
use Rattle.mini_kept.proofs.FrameLists.{second_of as second_frames}
use Rattle.mini_kept.proofs.ShownFrames.{all_themselves, kept_shown}
use Rattle.mini_rows.specs.KeyHolders.{PlainKey, a_word, a_count, plain_key, bracketed, plain, is_pattern_part, Bares, bares_key, bares_within, declaring_shape, Row52Declared}
use Rattle.mini_rows.proofs.BareKeyMeaning.{property_of, gives_key}
use Rattle.mini_rows.proofs.BareKeyShapes.{as_expression, plain_fits, inner_key, changed}
use Rattle.mini_rows.proofs.DeclaredKeyParts.{Given, is_written, Alike, Holds, a_declaration, a_handler, holds, alike_over}
use Rattle.mini_rows.proofs.SpellAlike.{SameTree}

-- ---- the key

module _ (i : ℕ) (v : Tree) where
  abbrev before : PlainKey → Tree
  before k = bracketed i k v

  abbrev after : PlainKey → Tree
  after k = plain k v

  key_tree : (k : PlainKey) → SameTree (before k) (after k)
  unfolding means meaning step
  key_tree (a_word s) = record { by = λ e q r z. refl; read = refl }
  key_tree (a_count n) = record { by = λ e q r z. refl; read = refl }

  key_names : (d : Declared) (k : PlainKey) → names_of d (after k) ≡ names_of d (before k)
  unfolding names_of
  key_names declaring.Bound (a_word s) = refl
  key_names declaring.Bound (a_count n) = refl
  key_names declaring.Lexical k = refl
  key_names declaring.Hoisted k = refl

  key_body_names : (k : PlainKey) → body_names (after k) ≡ body_names (before k)
  unfolding names_of body_names
  key_body_names k = refl

  key_scoped : (k : PlainKey) (u : Use) (env : Environment) → Scoped u env (before k) → Scoped u env (after k)
  unfolding Scoped scopes_by
  key_scoped (a_word s) u env x = (tt, ((tt, tt), x.1.1))
  key_scoped (a_count n) u env x = (tt, ((tt, tt), x.1.1))

  key_symbols : (k : PlainKey) (u : Use) → declared_in u (after k) ≡ declared_in u (before k)
  unfolding declared_in scopes_by
  key_symbols (a_word s) u = refl
  key_symbols (a_count n) u = refl

  key_numbers : (k : PlainKey) → numbers (before k) ≡ suc i ∷ numbers (after k)
  unfolding numbers
  key_numbers (a_word s) = refl
  key_numbers (a_count n) = refl

  key_declarations : (d : Declared) (l : Bool) (q : Path) (k : PlainKey) → declarations d l q (after k) ≡ declarations d l q (before k)
  unfolding declarations
  key_declarations declaring.Bound l q (a_word s) = refl
  key_declarations declaring.Bound l q (a_count n) = refl
  key_declarations declaring.Lexical l q k = refl
  key_declarations declaring.Hoisted l q k = refl

  key_as_body : (b : Bool) (q : Path) (k : PlainKey) → body_declarations b q (after k) ≡ body_declarations b q (before k)
  unfolding declarations body_declarations
  key_as_body b q k = refl

  key_once : (q : Path) (k : PlainKey) → early_names q (after k) ≡ early_names q (before k)
  unfolding scope_declarations early_names
  key_once q (a_word s) = refl
  key_once q (a_count n) = refl

  key_targets : (a : Targets) (q : Path) (k : PlainKey) → early_jumps a q (after k) ≡ early_jumps a q (before k)
  unfolding targets_of early_jumps
  key_targets a q (a_word s) = refl
  key_targets a q (a_count n) = refl

  abbrev inner : PlainKey → Tree
  inner k = node shape.InnerExpression [] (suc i) (plain_key k ▸ none)

  abbrev key_body : Around → PlainKey → Body
  key_body a k = record { number = suc i; kind = InnerValue; root = inner k; strict = a.strict; asks_this = a.asks_this }

  bodies_before : (k : PlainKey) (a : Around) → bodies a (before k) ≡ key_body a k ∷ bodies a (after k)
  bodies_before (a_word s) a = refl
  bodies_before (a_count n) a = refl

  bodies_kept : (k : PlainKey) (a : Around) → BodiesKept (bodies a (before k)) (bodies a (after k))
  bodies_kept k a = subst (λ bs. BodiesKept bs (bodies a (after k))) (sym (bodies_before k a)) (second_of (key_body a k ∷ []) (bodies a (after k)) (bodies a (after k)) (kept_itself (bodies a (after k))))

  key_given : (k : PlainKey) (a : Around) → Given a (before k) (suc i) (property_of k)
  key_given k a = subst (λ bs. KeyGiven nothing bs (suc i) (property_of k)) (sym (bodies_before k a)) (record { body = key_body a k; there = (0, omega arith, refl); number = refl; kind = refl; gives = gives_key (suc i) k })

  shown : (k : PlainKey) (a : Around) → Shows (Given a (before k)) (part (before k)) (part (after k))
  shown (a_word s) a = (refl, refl, inr (refl, refl, record { number = suc i; key = s; bracketed = refl; plain = refl; given = key_given (a_word s) a }, all_themselves (Given a (before (a_word s))) (part v ▸ none)))
  shown (a_count n) a = (refl, refl, inr (refl, refl, record { number = suc i; key = property_of (a_count n); bracketed = refl; plain = refl; given = key_given (a_count n) a }, all_themselves (Given a (before (a_count n))) (part v ▸ none)))

  frames_before : (k : PlainKey) → frames None (before k) ≡ frames None (inner k) ++ frames None (after k)
  frames_before (a_word s) = refl
  frames_before (a_count n) = refl

  frames_kept : (k : PlainKey) (a : Around) → FramesShown none_gone (Given a (before k)) (frames None (before k)) (frames None (after k))
  frames_kept k a = subst (λ fs. FramesShown none_gone (Given a (before k)) fs (frames None (after k))) (sym (frames_before k)) (kept_shown none_gone (Given a (before k)) (frames None (inner k) ++ frames None (after k)) (frames None (after k)) (second_frames (frames None (inner k)) (frames None (after k)) (frames None (after k)) (λ f x. x)))

  key_fixed : (k : PlainKey) (x : Variable) → fixed_by (before k) x ≡ fixed_by (after k) x
  key_fixed (a_word s) x = refl
  key_fixed (a_count n) x = refl

  key_declared : (k : PlainKey) → declared (after k) ≡ declared (before k)
  key_declared (a_word s) = refl
  key_declared (a_count n) = refl

  key_lighter : (k : PlainKey) (p : Position) → is_written p ≡ true → weight p (after k) < weight p (before k)
  key_lighter k Unwritten e = absurd (true≢false (sym e))
  key_lighter (a_word s) (Expr q) e = omega arith
  key_lighter (a_word s) (Stmt q) e = omega arith
  key_lighter (a_word s) p e = omega arith
  key_lighter (a_count n) (Expr q) e = omega arith
  key_lighter (a_count n) (Stmt q) e = omega arith
  key_lighter (a_count n) p e = omega arith

-- where it stands

nowhere : (strict : Bool) (d : Depth) → statement_slots strict d (shape.BindingProperty false true) ≡ None
nowhere true in_module = refl
nowhere true in_body = refl
nowhere true nested = refl
nowhere false in_module = refl
nowhere false in_body = refl
nowhere false nested = refl

abbrev Refused : Bool → Class → Type 0
Refused strict c = filling strict (one c) (shape.BindingProperty false true) ≡ refused

key_refused : (strict b : Bool) → Refused strict (a_key b)
key_refused strict true = refl
key_refused strict false = refl

private_refused : (strict b : Bool) → Refused strict (a_private_or_key b)
private_refused strict true = refl
private_refused strict false = refl

inner_refused : (strict b : Bool) → Refused strict (an_inner_key b)
inner_refused strict true = refl
inner_refused strict false = refl

class_of_property : (strict : Bool) (c : Class) → (c ≡ a_pattern_property) ⊎ Refused strict c
class_of_property strict a_pattern_property = inl refl
class_of_property strict (a_statement d) = inr (ap filling_by (nowhere strict d))
class_of_property strict (a_key b) = inr (key_refused strict b)
class_of_property strict (a_private_or_key b) = inr (private_refused strict b)
class_of_property strict (an_inner_key b) = inr (inner_refused strict b)
class_of_property strict c = inr refl

abbrev FitsBare : Bool → Slot → ℕ → PlainKey → Tree → Type 0
FitsBare strict t i k v = fits strict t (bracketed i k v) ≡ true → fits strict t (plain k v) ≡ true

in_pattern : (strict : Bool) (i : ℕ) (k : PlainKey) (v : Tree) → FitsBare strict (one a_pattern_property) i k v
in_pattern strict i k v e = changed (fits strict (one (an_inner_key true)) (inner i v k)) (fits strict (one (an_inner_key false)) (plain_key k)) (fits strict (one a_pattern_element) v) (λ f. inner_key strict k (plain_fits strict k (as_expression strict (suc i) (plain_key k) f))) e

in_one : (strict : Bool) (c : Class) (i : ℕ) (k : PlainKey) (v : Tree) → FitsBare strict (one c) i k v
in_one strict c i k v e = by (class_of_property strict c)
  where
    by : (c ≡ a_pattern_property) ⊎ Refused strict c → fits strict (one c) (plain k v) ≡ true
    by (inl q) = subst (λ y. fits strict (one y) (plain k v) ≡ true) (sym q) (in_pattern strict i k v (subst (λ x. fits strict (one x) (bracketed i k v) ≡ true) q e))
    by (inr q) = absurd (refused_here strict (one c) (shape.BindingProperty false true) [] 0 (inner i v k ▸ v ▸ none) q e)

key_fits : (strict : Bool) (t : Slot) (i : ℕ) (k : PlainKey) (v : Tree) → FitsBare strict t i k v
key_fits strict (one c) i k v e = in_one strict c i k v e
key_fits strict (one_or_absent c) i k v e = in_one strict c i k v e
key_fits strict t i k v e = absurd (refused_here strict t (shape.BindingProperty false true) [] 0 (inner i v k ▸ v ▸ none) refl e)

key_alike : (i : ℕ) (k : PlainKey) (v : Tree) → Alike (bracketed i k v) (plain k v)
key_alike i k v = record {
  tree = key_tree i v k;
  names = λ d. key_names i v d k;
  body = key_body_names i v k;
  patterned = refl;
  plain = refl;
  scoped = key_scoped i v k;
  symbols = key_symbols i v k;
  numbers = λ j. omega (arith, ap (count_of j) (key_numbers i v k));
  declarations = λ d l q. key_declarations i v d l q k;
  as_body = λ b q. key_as_body i v b q k;
  once = λ q. key_once i v q k;
  targets = λ a q. key_targets i v a q k;
  bodies = bodies_kept i v k;
  part = shown i v k;
  frames = frames_kept i v k;
  fixed = key_fixed i v k;
  declared = key_declared i v k;
  outlined = refl;
  lighter = key_lighter i v k;
  piece = refl;
  fitting = λ strict s e. key_fits strict s i k v e;
}

-- ---- parts of patterns

part_opens : (h : Shape) → is_pattern_part h ≡ true → (ts us : Trees) (v : Use) → opened v h us ≡ opened v h ts
unfolding scopes_by
part_opens shape.Listed e ts us v = refl
part_opens shape.ObjectPattern e ts us v = refl
part_opens shape.ArrayPattern e ts us v = refl
part_opens (shape.BindingProperty false c) e ts us v = refl
part_opens shape.RestElement e ts us v = refl
part_opens shape.AssignmentPattern e ts us v = refl
part_opens h e ts us v = absurd (true≢false (sym e))

part_clashes : (h : Shape) → is_pattern_part h ≡ true → (ts us : Trees) (q : Path) → scope_declarations h q us ≡ scope_declarations h q ts
unfolding scope_declarations
part_clashes shape.Listed e ts us q = refl
part_clashes shape.ObjectPattern e ts us q = refl
part_clashes shape.ArrayPattern e ts us q = refl
part_clashes (shape.BindingProperty false c) e ts us q = refl
part_clashes shape.RestElement e ts us q = refl
part_clashes shape.AssignmentPattern e ts us q = refl
part_clashes h e ts us q = absurd (true≢false (sym e))

pub bared_alike : {t u : Tree} → Bares t u → Alike t u
bared_alike (bares_key n k v i) = key_alike n k v
bared_alike (bares_within h xs n before after t u e b) =
    alike_over h (holds h e) xs n before after t u (bared_alike b) (part_opens h e (append before (t ▸ after)) (append before (u ▸ after))) (part_clashes h e (append before (t ▸ after)) (append before (u ▸ after)))

-- ---- what declares

holds_pattern : (c : Bool) → Holds (declaring_shape c)
holds_pattern true = a_handler
holds_pattern false = a_declaration

module _ (t u rest : Tree) (k : Alike t u) where
  declaring_opens : (c : Bool) (v : Use) → opened v (declaring_shape c) (u ▸ rest ▸ none) ≡ opened v (declaring_shape c) (t ▸ rest ▸ none)
  unfolding scopes_by
  declaring_opens true v = ap (λ r i. at_or_empty (lexical_scope r ∷ []) i) (k.names declaring.Bound)
  declaring_opens false v = refl

  declaring_clashes : (c : Bool) (q : Path) → scope_declarations (declaring_shape c) q (u ▸ rest ▸ none) ≡ scope_declarations (declaring_shape c) q (t ▸ rest ▸ none)
  unfolding scope_declarations
  declaring_clashes true q = ap (λ ds. ds ++ in_block q (u ▸ rest ▸ none)) (ap (λ l. declarations declaring.Bound l (q ++ 0 ∷ []) u) k.patterned ∙ k.declarations declaring.Bound (is_pattern_shape (shape_of t)) (q ++ 0 ∷ []))
  declaring_clashes false q = refl

  declaring_alike : (c : Bool) → Alike (node (declaring_shape c) [] 0 (t ▸ rest ▸ none)) (node (declaring_shape c) [] 0 (u ▸ rest ▸ none))
  declaring_alike c = alike_over (declaring_shape c) (holds_pattern c) [] 0 none (rest ▸ none) t u k (declaring_opens c) (declaring_clashes c)

-- ---- the row

abbrev pub DeclaredRow : Position → Tree → Tree → Type 0
DeclaredRow Elsewhere n w = Row52Declared n w
DeclaredRow _ n w = ⊥

abbrev over : Bool → Tree → Tree → Tree
over c t rest = node (declaring_shape c) [] 0 (t ▸ rest ▸ none)

along : (n w : Tree) (r : Row52Declared n w) (P : Tree → Tree → Type 0) → P (over r.is_catch r.pattern r.rest) (over r.is_catch r.bared r.rest) → P n w
along n w r P x = subst (λ y. P y w) (sym r.shape) (subst (P (over r.is_catch r.pattern r.rest)) (sym r.written) x)

row_alike : (n w : Tree) → Row52Declared n w → Alike n w
row_alike n w r = along n w r Alike (declaring_alike r.pattern r.bared r.rest (bared_alike r.bares) r.is_catch)

-- at its place
there : (P : Position → Tree → Tree → Type 0) → ((n w : Tree) → Row52Declared n w → P Elsewhere n w) → (p : Position) (n w : Tree) → DeclaredRow p n w → P p n w
there P f Elsewhere n w r = f n w r
there P f p n w r = absurd r

-- what holds of all of them by their shapes
everywhere : (P : Tree → Tree → Type 0) → ((c : Bool) (t u rest : Tree) → P (over c t rest) (over c u rest)) → (n w : Tree) → Row52Declared n w → P n w
everywhere P f n w r = along n w r P (f r.is_catch r.pattern r.bared r.rest)

over_asked : (c : Bool) (t u rest : Tree) → AskedAlike Elsewhere (over c t rest) (over c u rest)
over_asked true t u rest = record { absent = λ e. absurd (true≢false (sym e)); body = λ e. absurd (true≢false (sym e)); optional = λ e. absurd (true≢false (sym e)); number = λ asks e. refl; spelled = λ s e. absurd (cc e); plain = refl }
over_asked false t u rest = record { absent = λ e. absurd (true≢false (sym e)); body = λ e. absurd (true≢false (sym e)); optional = λ e. absurd (true≢false (sym e)); number = λ asks e. refl; spelled = λ s e. absurd (cc e); plain = refl }

over_kind : (c : Bool) (t u rest : Tree) → arrow_kind (shape_of (over c t rest)) ≡ arrow_kind (shape_of (over c u rest))
over_kind c t u rest = refl

over_root : (c : Bool) (t u rest : Tree) → KeepsRoot Elsewhere (over c t rest) (over c u rest)
over_root c t u rest = record { place = refl; shape = refl; names = refl; number = refl; counted = refl; second = refl }

over_member : (c : Bool) (t u rest : Tree) → has_member (over c t rest) ≡ true
over_member true t u rest = refl
over_member false t u rest = refl

over_loop : (c : Bool) (t u rest : Tree) → is_loop (over c u rest) ≡ is_loop (over c t rest)
unfolding is_loop
over_loop true t u rest = refl
over_loop false t u rest = refl

over_plain : (c m : Bool) → (is_port m (declaring_shape c) ≡ false) × (is_declaration (declaring_shape c) ≡ false) × (is_piece (declaring_shape c) ≡ false)
over_plain true m = (refl, refl, refl)
over_plain false m = (refl, refl, refl)

over_block : (c b : Bool) (q : Path) (t u rest : Tree) → body_declarations b (q ++ 0 ∷ []) u ≡ body_declarations b (q ++ 0 ∷ []) t → body_within b q (children_of_node (over c u rest)) 0 ≡ body_within b q (children_of_node (over c t rest)) 0
over_block c b q t u rest e = e

row_keeps : (n w : Tree) → Row52Declared n w → KeepsLoosely Elsewhere n w
row_keeps n w r =
    let k = row_alike n w r in
    record {
      bound = k.names declaring.Bound;
      lexical = k.names declaring.Lexical;
      hoisted = λ x. ap (λ xs. is_among xs x) (k.names declaring.Hoisted);
      body = λ u env s a x. ap (first_symbol x) k.body;
      inner = inr (everywhere (λ y z. has_member y ≡ true) over_member n w r);
      scoped = λ u env s a. k.scoped u env a;
      symbols = λ u env s a x. omega (arith, ap (times x) (k.symbols u));
      numbers = k.numbers;
      declared_as_body = λ b q. no_more_same (body_declarations b q n) (body_declarations b q w) (ap unplaced (k.as_body b q));
      once = λ q e. k.once q ∙ e;
      targets = λ a q e. k.targets a q ∙ e;
      loop = everywhere (λ y z. is_loop z ≡ is_loop y) over_loop n w r;
      root = λ e. everywhere (λ y z. unbracketed (shape_of z) ≡ unbracketed (shape_of y)) (λ c t u rest. refl) n w r;
      block = λ e b q. no_more_same (body_within b q (children_of_node n) 0) (body_within b q (children_of_node w) 0) (ap unplaced (along n w r (λ y z. body_within b q (children_of_node z) 0 ≡ body_within b q (children_of_node y) 0) (over_block r.is_catch b q r.pattern r.bared r.rest ((bared_alike r.bares).as_body b (q ++ 0 ∷ [])))));
    }

-- where it stands

declarator_nowhere : (strict : Bool) (d : Depth) → statement_slots strict d shape.VariableDeclarator ≡ None
declarator_nowhere true in_module = refl
declarator_nowhere true in_body = refl
declarator_nowhere true nested = refl
declarator_nowhere false in_module = refl
declarator_nowhere false in_body = refl
declarator_nowhere false nested = refl

handler_nowhere : (strict : Bool) (d : Depth) → statement_slots strict d shape.CatchClause ≡ None
handler_nowhere true in_module = refl
handler_nowhere true in_body = refl
handler_nowhere true nested = refl
handler_nowhere false in_module = refl
handler_nowhere false in_body = refl
handler_nowhere false nested = refl

abbrev Taken : Bool → Bool → Class → Type 0
Taken strict c k = (is_in_body k ≡ true) ⊎ (filling strict (one k) (declaring_shape c) ≡ refused)

class_taken : (strict c : Bool) (k : Class) → Taken strict c k
class_taken strict c a_declarator = inl refl
class_taken strict c a_catch = inl refl
class_taken strict true (a_statement d) = inl refl
class_taken strict false (a_statement d) = inl refl
class_taken strict true (a_key true) = inl refl
class_taken strict false (a_key true) = inl refl
class_taken strict true (a_key false) = inr refl
class_taken strict false (a_key false) = inr refl
class_taken strict true (a_private_or_key true) = inr refl
class_taken strict false (a_private_or_key true) = inr refl
class_taken strict true (a_private_or_key false) = inr refl
class_taken strict false (a_private_or_key false) = inr refl
class_taken strict true (an_inner_key true) = inr refl
class_taken strict false (an_inner_key true) = inr refl
class_taken strict true (an_inner_key false) = inr refl
class_taken strict false (an_inner_key false) = inr refl
class_taken strict true k = inr refl
class_taken strict false k = inr refl

in_body_of : (strict c : Bool) (k : Class) (ts : Trees) → fits strict (one k) (node (declaring_shape c) [] 0 ts) ≡ true → is_in_body k ≡ true
in_body_of strict c k ts e = by (class_taken strict c k)
  where
    by : Taken strict c k → is_in_body k ≡ true
    by (inl x) = x
    by (inr x) = absurd (refused_here strict (one k) (declaring_shape c) [] 0 ts x e)

over_slot : (strict c : Bool) (s : Slot) (ts : Trees) → fits strict s (node (declaring_shape c) [] 0 ts) ≡ true → is_body_slot Elsewhere s ≡ true
over_slot strict c (one k) ts e = in_body_of strict c k ts e
over_slot strict true (one_or_absent k) ts e = in_body_of strict true k ts e
over_slot strict false (one_or_absent k) ts e = in_body_of strict false k ts e
over_slot strict true s ts e = absurd (refused_here strict s shape.CatchClause [] 0 ts refl e)
over_slot strict false s ts e = absurd (refused_here strict s shape.VariableDeclarator [] 0 ts refl e)

row_slot : (n w : Tree) → Row52Declared n w → (strict : Bool) (s : Slot) → fits strict s n ≡ true → is_body_slot Elsewhere s ≡ true
row_slot n w r strict s e = over_slot strict r.is_catch s (r.pattern ▸ r.rest ▸ none) (subst (λ y. fits strict s y ≡ true) r.shape e)

same : (p : Position) (n w : Tree) → DeclaredRow p n w → SameAt p n w
same = there SameAt (λ n w r. let h = (row_alike n w r).tree in equal_same Elsewhere n w (record { by = λ e q f s z. h.by e q s z }))

pub declared_key_same : MeansSame DeclaredRow
declared_key_same = record { same = same; reads = there (λ p n w. summary n ≡ summary w) (λ n w r. (row_alike n w r).tree.read) }

pub declared_key_lighter : (p : Position) (n w : Tree) → DeclaredRow p n w → weight p w < weight p n
declared_key_lighter = there (λ p n w. weight p w < weight p n) (λ n w r. (row_alike n w r).lighter Elsewhere refl)

pub declared_key_outline : (p : Position) (n w : Tree) → DeclaredRow p n w → outline n ≡ outline w
declared_key_outline = there (λ p n w. outline n ≡ outline w) (λ n w r. sym (row_alike n w r).outlined)

pub declared_key_lawful : Lawful DeclaredRow
declared_key_lawful = record {
  shapes = record {
    fitting = there (λ p n w. (strict : Bool) (s : Slot) → fits_place p s ≡ true → fits strict s n ≡ true → fits strict s w ≡ true) (λ n w r strict s k e. (row_alike n w r).fitting strict s e);
    asked = there AskedAlike (everywhere (AskedAlike Elsewhere) over_asked);
  };
  bodies = record {
    means = declared_key_same;
    pieces = there (λ p n w. is_piece (shape_of n) ≡ false) (everywhere (λ y z. is_piece (shape_of y) ≡ false) (λ c t u rest. (over_plain c true).2));
    kind = there (λ p n w. (strict : Bool) (s : Slot) → fits strict s n ≡ true → arrow_kind (shape_of n) ≡ arrow_kind (shape_of w)) (λ n w r strict s e. everywhere (λ y z. arrow_kind (shape_of y) ≡ arrow_kind (shape_of z)) over_kind n w r);
    bodies = λ p n w c strict s k e a st. there (λ p n w. (a : Around) → BodiesKept (bodies a n) (bodies a w)) (λ n w r. (row_alike n w r).bodies) p n w c a;
  };
  frames = record {
    names = record {
      places = λ p n w c. inr (there KeepsRoot (everywhere (KeepsRoot Elsewhere) over_root) p n w c);
      pieces = there (λ p n w. is_piece (shape_of n) ≡ false) (everywhere (λ y z. is_piece (shape_of y) ≡ false) (λ c t u rest. (over_plain c true).2));
      keeps = λ p n w c strict s k e. there KeepsLoosely row_keeps p n w c;
    };
    slots = λ p n w c strict s k e. inl (there (λ p n w. fits strict s n ≡ true → is_body_slot p s ≡ true) (λ n w r e. row_slot n w r strict s e) p n w c e);
    ports = λ p n w c strict d e m. there (λ p n w. (is_port m (shape_of n) ≡ false) × (is_port m (shape_of w) ≡ false)) (everywhere (λ y z. (is_port m (shape_of y) ≡ false) × (is_port m (shape_of z) ≡ false)) (λ c t u rest. ((over_plain c m).0, (over_plain c m).0))) p n w c;
    listed = λ p n w e c. absurd (there (λ p n w. is_statement_list p ≡ true → ⊥) (λ n w r e. cc e) p n w c e);
    exported = λ p n w c strict e. there (λ p n w. (is_declaration (shape_of n) ≡ false) × (is_declaration (shape_of w) ≡ false)) (everywhere (λ y z. (is_declaration (shape_of y) ≡ false) × (is_declaration (shape_of z) ≡ false)) (λ c t u rest. ((over_plain c true).1, (over_plain c true).1))) p n w c;
    frames = λ p n w c strict s k e a. there (λ p n w. FramesShown none_gone (Given a n) (frames None n) (frames None w)) (λ n w r. (row_alike n w r).frames a) p n w c;
  };
  fixed = there (λ p n w. (x : Variable) → fixed_by n x ≡ fixed_by w x) (λ n w r. (row_alike n w r).fixed);
  declared = λ p n w c x k. subst (λ xs. Contains xs x) (there (λ p n w. declared w ≡ declared n) (λ n w r. (row_alike n w r).declared) p n w c) k;
}

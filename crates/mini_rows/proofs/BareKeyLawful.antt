-- What loses the brackets of its key keeps all that a program has to keep: the frame around it shows the property that the key gave,
-- and the key's own number, body and frame are gone.
use Rattle.std.specs.Prelude.{ℕ, suc, ◌≡◌, ◌≤◌, refl, Bool, true, false, [], ◌∷◌, ◌++◌, Contains, None, pos}
use Rattle.std.proofs.Common.{ap, ◌∙◌, sym, subst, inr, arith}
use Rattle.mini_model.specs.declared.kind.MethodDefinitionKind.TheVariants.{Constructor}
use Rattle.mini_model.specs.declared.place.Position.{Position}
use Rattle.mini_model.specs.declared.place.Position.TheVariants.{Elsewhere}
use Rattle.mini_model.specs.declared.shape.Shape.TheVariants as shape
use Rattle.mini_model.specs.Tree.{Tree, Trees, node, none, ◌▸◌, is_absent, shape_of}
use Rattle.mini_accept.specs.WellShaped.{Slot, fits, is_function_body, spelling, has_optional, is_not_positive_number}
use Rattle.mini_laws.specs.declared.names.Declared.TheVariants as declaring
use Rattle.mini_laws.specs.declared.names.Targets.{Targets}
use Rattle.mini_laws.specs.declared.names.Use.{Use}
use Rattle.mini_laws.specs.DeclaredNames.{names_of, body_names}
use Rattle.mini_laws.specs.Early.{Path, declarations, body_declarations, in_body, children_of_node, scope_declarations, early_names, targets_of, early_jumps, is_loop}
use Rattle.mini_laws.specs.Resolved.{Environment}
use Rattle.mini_laws.specs.Scoped.{Scoped}
use Rattle.mini_laws.specs.Scopes.{scopes_by}
use Rattle.mini_laws.specs.Symbols.{declared as declared_in, times}
use Rattle.mini_laws.specs.Value.{Variable, nothing}
use Rattle.mini_laws.specs.State.{Writable}
use Rattle.mini_laws.specs.Fixity.{fixity_by, stricter, fixed_by}
use Rattle.mini_laws.specs.Body.{InnerValue}
use Rattle.mini_laws.specs.Bodies.{Around, Body, bodies, arrow_kind}
use Rattle.mini_kept.specs.AlikeBodies.{BodiesKept}
use Rattle.mini_kept.specs.Carried.{numbers, with_number}
use Rattle.mini_kept.specs.Declaring.{declared}
use Rattle.mini_kept.specs.Frames.{unbracketed, part, is_declaration, is_port, frames, FramesKept}
use Rattle.mini_kept.specs.SameNames.{is_among, first_symbol}
use Rattle.mini_kept.specs.ShownFrames.{KeyGiven, Shows}
use Rattle.mini_kept.specs.KeepsFrames.{IsShownAlike}
use Rattle.mini_kept.specs.KeepsLoosely.{has_member, KeepsLoosely}
use Rattle.mini_kept.specs.KeepsNames.{count_of, unplaced}
use Rattle.mini_kept.specs.KeepsShapes.{is_default, AskedAlike}
use Rattle.mini_kept.specs.Lawful.{Lawful}
use Rattle.mini_kept.specs.Lifted.{is_piece, KeepsRoot}
use Rattle.mini_kept.specs.Placed.{fits_place, is_statement_list}
use Rattle.mini_kept.proofs.Below.{both_counts}
use Rattle.mini_kept.proofs.BodyLists.{kept_itself, second_of}
use Rattle.mini_kept.proofs.Clashes.{no_more_same}
use Rattle.mini_kept.proofs.Fixed.{of_children}
use Rattle.mini_kept.proofs.FrameLists.{second_of as second_frames}
use Rattle.mini_kept.proofs.FrameSteps.{kept_are_shown}
use Rattle.mini_kept.proofs.ShownFrames.{all_themselves}
use Rattle.mini_rows.specs.KeyHolders.{Member, of_target, of_method, of_field, member_shape, in_brackets, without_brackets, PlainKey, a_word, a_count, plain_key, Row52Bare}
use Rattle.mini_rows.proofs.BareKeyMeaning.{BareRow, bare_same, property_of, gives_key}
use Rattle.mini_rows.proofs.BareKeyShapes.{stands}

abbrev inner : ℕ → PlainKey → Tree
inner i k = node shape.InnerExpression [] i (plain_key k ▸ none)

module _ (i : ℕ) (k : PlainKey) (v : Tree) where
  abbrev before : Member → Tree
  before m = in_brackets m i (plain_key k) v

  abbrev after : Member → Tree
  after m = without_brackets m (plain_key k) v

-- ---- names

same_symbols : (m : Member) (i : ℕ) (k : PlainKey) (v : Tree) (u : Use) → declared_in u (before i k v m) ≡ declared_in u (after i k v m)
unfolding declared_in scopes_by
same_symbols of_target i (a_word s) v u = refl
same_symbols of_target i (a_count n) v u = refl
same_symbols (of_method kind is_static) i (a_word s) v u = refl
same_symbols (of_method kind is_static) i (a_count n) v u = refl
same_symbols (of_field is_static) i (a_word s) v u = refl
same_symbols (of_field is_static) i (a_count n) v u = refl

same_scoped : (m : Member) (i : ℕ) (k : PlainKey) (v : Tree) (u : Use) (env : Environment) → Scoped u env (before i k v m) → Scoped u env (after i k v m)
unfolding Scoped scopes_by
same_scoped of_target i (a_word s) v u env x = (tt, ((tt, tt), x.1.1))
same_scoped of_target i (a_count n) v u env x = (tt, ((tt, tt), x.1.1))
same_scoped (of_method kind is_static) i (a_word s) v u env x = (tt, ((tt, tt), x.1.1))
same_scoped (of_method kind is_static) i (a_count n) v u env x = (tt, ((tt, tt), x.1.1))
same_scoped (of_field is_static) i (a_word s) v u env x = (tt, ((tt, tt), x.1.1))
same_scoped (of_field is_static) i (a_count n) v u env x = (tt, ((tt, tt), x.1.1))

numbers_before : (m : Member) (i : ℕ) (k : PlainKey) (v : Tree) → numbers (before i k v m) ≡ with_number i [] ++ numbers (after i k v m)
unfolding numbers
numbers_before of_target i (a_word s) v = refl
numbers_before of_target i (a_count n) v = refl
numbers_before (of_method kind is_static) i (a_word s) v = refl
numbers_before (of_method kind is_static) i (a_count n) v = refl
numbers_before (of_field is_static) i (a_word s) v = refl
numbers_before (of_field is_static) i (a_count n) v = refl

fewer : (m : Member) (i : ℕ) (k : PlainKey) (v : Tree) (x : ℕ) → count_of x (numbers (after i k v m)) ≤ count_of x (numbers (before i k v m))
fewer m i k v x = omega (arith, ap (count_of x) (numbers_before m i k v), both_counts x (with_number i []) (numbers (after i k v m)))

same_bound : (m : Member) (i : ℕ) (k : PlainKey) (v : Tree) → names_of declaring.Bound (after i k v m) ≡ names_of declaring.Bound (before i k v m)
unfolding names_of
same_bound of_target i k v = refl
same_bound (of_method kind is_static) i k v = refl
same_bound (of_field is_static) i k v = refl

same_lexical : (m : Member) (i : ℕ) (k : PlainKey) (v : Tree) → names_of declaring.Lexical (after i k v m) ≡ names_of declaring.Lexical (before i k v m)
unfolding names_of
same_lexical of_target i k v = refl
same_lexical (of_method kind is_static) i k v = refl
same_lexical (of_field is_static) i k v = refl

same_hoisted : (m : Member) (i : ℕ) (k : PlainKey) (v : Tree) → names_of declaring.Hoisted (after i k v m) ≡ names_of declaring.Hoisted (before i k v m)
unfolding names_of
same_hoisted of_target i k v = refl
same_hoisted (of_method kind is_static) i k v = refl
same_hoisted (of_field is_static) i k v = refl

same_body : (m : Member) (i : ℕ) (k : PlainKey) (v : Tree) → body_names (after i k v m) ≡ body_names (before i k v m)
unfolding names_of body_names
same_body of_target i k v = refl
same_body (of_method kind is_static) i k v = refl
same_body (of_field is_static) i k v = refl

same_declarations : (m : Member) (i : ℕ) (k : PlainKey) (v : Tree) (b : Bool) (q : Path) → body_declarations b q (after i k v m) ≡ body_declarations b q (before i k v m)
unfolding declarations body_declarations
same_declarations of_target i k v b q = refl
same_declarations (of_method kind is_static) i k v b q = refl
same_declarations (of_field is_static) i k v b q = refl

same_block : (m : Member) (i : ℕ) (k : PlainKey) (v : Tree) (b : Bool) (q : Path) → in_body b q (children_of_node (after i k v m)) 0 ≡ in_body b q (children_of_node (before i k v m)) 0
unfolding declarations body_declarations
same_block m i (a_word s) v b q = refl
same_block m i (a_count n) v b q = refl

same_once : (m : Member) (i : ℕ) (k : PlainKey) (v : Tree) (q : Path) → early_names q (after i k v m) ≡ early_names q (before i k v m)
unfolding scope_declarations early_names
same_once of_target i (a_word s) v q = refl
same_once of_target i (a_count n) v q = refl
same_once (of_method kind is_static) i (a_word s) v q = refl
same_once (of_method kind is_static) i (a_count n) v q = refl
same_once (of_field is_static) i (a_word s) v q = refl
same_once (of_field is_static) i (a_count n) v q = refl

same_targets : (m : Member) (i : ℕ) (k : PlainKey) (v : Tree) (a : Targets) (q : Path) → early_jumps a q (after i k v m) ≡ early_jumps a q (before i k v m)
unfolding targets_of early_jumps
same_targets of_target i (a_word s) v a q = refl
same_targets of_target i (a_count n) v a q = refl
same_targets (of_method kind is_static) i (a_word s) v a q = refl
same_targets (of_method kind is_static) i (a_count n) v a q = refl
same_targets (of_field is_static) i (a_word s) v a q = refl
same_targets (of_field is_static) i (a_count n) v a q = refl

same_loop : (m : Member) (i : ℕ) (k : PlainKey) (v : Tree) → is_loop (after i k v m) ≡ is_loop (before i k v m)
unfolding is_loop
same_loop of_target i k v = refl
same_loop (of_method kind is_static) i k v = refl
same_loop (of_field is_static) i k v = refl

names_kept : (m : Member) (i : ℕ) (k : PlainKey) (v : Tree) → KeepsLoosely Elsewhere (before i k v m) (after i k v m)
names_kept m i k v = record {
  bound = same_bound m i k v;
  lexical = same_lexical m i k v;
  hoisted = λ x. ap (λ xs. is_among xs x) (same_hoisted m i k v);
  body = λ u env s a r. ap (first_symbol r) (same_body m i k v);
  inner = inr (has_member_here m);
  scoped = λ u env s a. same_scoped m i k v u env a;
  symbols = λ u env s a x. omega (arith, ap (times x) (same_symbols m i k v u));
  numbers = fewer m i k v;
  declared_as_body = λ b q. no_more_same (body_declarations b q (before i k v m)) (body_declarations b q (after i k v m)) (ap unplaced (same_declarations m i k v b q));
  once = λ q e. same_once m i k v q ∙ e;
  targets = λ a q e. same_targets m i k v a q ∙ e;
  loop = same_loop m i k v;
  root = λ e. same_root m;
  block = λ e b q. no_more_same (in_body b q (children_of_node (before i k v m)) 0) (in_body b q (children_of_node (after i k v m)) 0) (ap unplaced (same_block m i k v b q));
}
  where
    has_member_here : (m : Member) → has_member (before i k v m) ≡ true
    has_member_here of_target = refl
    has_member_here (of_method kind is_static) = refl
    has_member_here (of_field is_static) = refl

    same_root : (m : Member) → unbracketed (member_shape false m) ≡ unbracketed (member_shape true m)
    same_root of_target = refl
    same_root (of_method kind is_static) = refl
    same_root (of_field is_static) = refl

root_kept : (m : Member) (i : ℕ) (k : PlainKey) (v : Tree) → KeepsRoot Elsewhere (before i k v m) (after i k v m)
root_kept m i k v = record { place = refl; shape = same_root m; names = refl; number = refl; counted = refl; second = refl }
  where
    same_root : (m : Member) → unbracketed (member_shape true m) ≡ unbracketed (member_shape false m)
    same_root of_target = refl
    same_root (of_method kind is_static) = refl
    same_root (of_field is_static) = refl

-- ---- bodies and frames

abbrev key_body : Around → ℕ → PlainKey → Body
key_body a i k = record { number = i; kind = InnerValue; root = inner i k; strict = a.strict; asks_this = a.asks_this }

bodies_before : (m : Member) (i : ℕ) (k : PlainKey) (v : Tree) (a : Around) → bodies a (before i k v m) ≡ key_body a i k ∷ bodies a (after i k v m)
bodies_before of_target i (a_word s) v a = refl
bodies_before of_target i (a_count n) v a = refl
bodies_before (of_method Constructor is_static) i (a_word s) v a = refl
bodies_before (of_method Constructor is_static) i (a_count n) v a = refl
bodies_before (of_method kind is_static) i (a_word s) v a = refl
bodies_before (of_method kind is_static) i (a_count n) v a = refl
bodies_before (of_field is_static) i (a_word s) v a = refl
bodies_before (of_field is_static) i (a_count n) v a = refl

bodies_kept : (m : Member) (i : ℕ) (k : PlainKey) (v : Tree) (a : Around) → BodiesKept (bodies a (before i k v m)) (bodies a (after i k v m))
bodies_kept m i k v a = subst (λ bs. BodiesKept bs (bodies a (after i k v m))) (sym (bodies_before m i k v a)) (second_of (key_body a i k ∷ []) (bodies a (after i k v m)) (bodies a (after i k v m)) (kept_itself (bodies a (after i k v m))))

key_given : (m : Member) (i : ℕ) (k : PlainKey) (v : Tree) (a : Around) → KeyGiven nothing (bodies a (before i k v m)) i (property_of k)
key_given m i k v a = subst (λ bs. KeyGiven nothing bs i (property_of k)) (sym (bodies_before m i k v a)) (record { body = key_body a i k; there = (0, omega arith, refl); number = refl; kind = refl; gives = gives_key i k })

frames_before : (m : Member) (i : ℕ) (k : PlainKey) (v : Tree) → frames None (before i k v m) ≡ frames None (inner i k) ++ frames None (after i k v m)
frames_before of_target i (a_word s) v = refl
frames_before of_target i (a_count n) v = refl
frames_before (of_method kind is_static) i (a_word s) v = refl
frames_before (of_method kind is_static) i (a_count n) v = refl
frames_before (of_field is_static) i (a_word s) v = refl
frames_before (of_field is_static) i (a_count n) v = refl

frames_kept : (m : Member) (i : ℕ) (k : PlainKey) (v : Tree) → FramesKept (frames None (before i k v m)) (frames None (after i k v m))
frames_kept m i k v = subst (λ fs. FramesKept fs (frames None (after i k v m))) (sym (frames_before m i k v)) (second_frames (frames None (inner i k)) (frames None (after i k v m)) (frames None (after i k v m)) (λ f x. x))

-- the property stands where the number of the key stood
shown : (m : Member) (i : ℕ) (k : PlainKey) (v : Tree) (a : Around) → Shows (KeyGiven nothing (bodies a (before (suc i) k v m))) (part (before (suc i) k v m)) (part (after (suc i) k v m))
shown of_target i (a_word s) v a = (refl, refl, inr (refl, refl, record { number = suc i; key = s; bracketed = refl; plain = refl; given = key_given of_target (suc i) (a_word s) v a }, all_themselves (KeyGiven nothing (bodies a (before (suc i) (a_word s) v of_target))) (part v ▸ none)))
shown of_target i (a_count n) v a = (refl, refl, inr (refl, refl, record { number = suc i; key = property_of (a_count n); bracketed = refl; plain = refl; given = key_given of_target (suc i) (a_count n) v a }, all_themselves (KeyGiven nothing (bodies a (before (suc i) (a_count n) v of_target))) (part v ▸ none)))
shown (of_method kind is_static) i (a_word s) v a =
    (refl, refl, inr (refl, refl, record { number = suc i; key = s; bracketed = refl; plain = refl; given = key_given (of_method kind is_static) (suc i) (a_word s) v a }, all_themselves (KeyGiven nothing (bodies a (before (suc i) (a_word s) v (of_method kind is_static)))) (part v ▸ none)))
shown (of_method kind is_static) i (a_count n) v a =
    (refl, refl, inr (refl, refl, record { number = suc i; key = property_of (a_count n); bracketed = refl; plain = refl; given = key_given (of_method kind is_static) (suc i) (a_count n) v a }, all_themselves (KeyGiven nothing (bodies a (before (suc i) (a_count n) v (of_method kind is_static)))) (part v ▸ none)))
shown (of_field is_static) i (a_word s) v a =
    (refl, refl, inr (refl, refl, record { number = suc i; key = s; bracketed = refl; plain = refl; given = key_given (of_field is_static) (suc i) (a_word s) v a }, all_themselves (KeyGiven nothing (bodies a (before (suc i) (a_word s) v (of_field is_static)))) (part v ▸ none)))
shown (of_field is_static) i (a_count n) v a =
    (refl, refl, inr (refl, refl, record { number = suc i; key = property_of (a_count n); bracketed = refl; plain = refl; given = key_given (of_field is_static) (suc i) (a_count n) v a }, all_themselves (KeyGiven nothing (bodies a (before (suc i) (a_count n) v (of_field is_static)))) (part v ▸ none)))

-- ---- what a write of each name does, and the names that are declared

writable : (c : Bool) (m : Member) → fixity_by (member_shape c m) ≡ Writable
writable c of_target = refl
writable c (of_method kind is_static) = refl
writable c (of_field is_static) = refl

key_fixed : (k : PlainKey) (x : Variable) → fixed_by (plain_key k) x ≡ Writable
key_fixed (a_word s) x = of_children (shape.StringLiteral s) [] 0 none x refl
key_fixed (a_count n) x = of_children (shape.NumericLiteral (pos n)) [] 0 none x refl

inner_fixed : (i : ℕ) (k : PlainKey) (x : Variable) → fixed_by (inner i k) x ≡ Writable
inner_fixed i k x = of_children shape.InnerExpression [] i (plain_key k ▸ none) x refl ∙ ap (λ f. stricter f Writable) (key_fixed k x)

fixed_over : (c : Bool) (m : Member) (t v : Tree) (x : Variable) → fixed_by t x ≡ Writable → fixed_by (node (member_shape c m) [] 0 (t ▸ v ▸ none)) x ≡ stricter (fixed_by v x) Writable
fixed_over c m t v x e = of_children (member_shape c m) [] 0 (t ▸ v ▸ none) x (writable c m) ∙ ap (λ f. stricter f (stricter (fixed_by v x) Writable)) e

fixed_kept : (m : Member) (i : ℕ) (k : PlainKey) (v : Tree) (x : Variable) → fixed_by (before i k v m) x ≡ fixed_by (after i k v m) x
fixed_kept m i k v x = fixed_over true m (inner i k) v x (inner_fixed i k x) ∙ sym (fixed_over false m (plain_key k) v x (key_fixed k x))

declared_kept : (m : Member) (i : ℕ) (k : PlainKey) (v : Tree) → declared (before i k v m) ≡ declared (after i k v m)
declared_kept of_target i (a_word s) v = refl
declared_kept of_target i (a_count n) v = refl
declared_kept (of_method kind is_static) i (a_word s) v = refl
declared_kept (of_method kind is_static) i (a_count n) v = refl
declared_kept (of_field is_static) i (a_word s) v = refl
declared_kept (of_field is_static) i (a_count n) v = refl

-- ---- of the row

along : (n w : Tree) (r : Row52Bare n w) (P : Tree → Tree → Type 0) → P (before r.number r.key r.value r.member) (after r.number r.key r.value r.member) → P n w
along n w r P x = subst (λ y. P y w) (sym r.shape) (subst (P (before r.number r.key r.value r.member)) (sym r.written) x)

shown_alike : (m : Member) (i j : ℕ) (k : PlainKey) (v : Tree) → i ≡ suc j → (a : Around) → Shows (KeyGiven nothing (bodies a (before i k v m))) (part (before i k v m)) (part (after i k v m))
shown_alike m i j k v e = subst (λ h. (a : Around) → Shows (KeyGiven nothing (bodies a (before h k v m))) (part (before h k v m)) (part (after h k v m))) (sym e) (shown m j k v)

row_stands : (n w : Tree) (r : Row52Bare n w) (strict : Bool) (t : Slot) → fits strict t n ≡ true → (fits strict t w ≡ true) × IsShownAlike t n w
row_stands n w r strict t e =
    let x = stands strict t r.member r.number r.key r.value r.loses (subst (λ y. fits strict t y ≡ true) r.shape e) in
    (subst (λ y. fits strict t y ≡ true) (sym r.written) x.written, (x.slot, along n w r (λ y z. (a : Around) → Shows (KeyGiven nothing (bodies a y)) (part y) (part z)) (shown_alike r.member r.number x.before r.key r.value x.number)))

plain_shape : (c : Bool) (m : Member) (ts : Trees) → (is_absent (node (member_shape c m) [] 0 ts) ≡ false) × (is_function_body (node (member_shape c m) [] 0 ts) ≡ false) × (has_optional (node (member_shape c m) [] 0 ts) ≡ false) × (is_not_positive_number (node (member_shape c m) [] 0 ts) ≡ true) × (spelling (node (member_shape c m) [] 0 ts) ≡ None) × (is_default (member_shape c m) ≡ false)
plain_shape c of_target ts = (refl, refl, refl, refl, refl, refl)
plain_shape c (of_method kind is_static) ts = (refl, refl, refl, refl, refl, refl)
plain_shape c (of_field is_static) ts = (refl, refl, refl, refl, refl, refl)

row_asked : (n w : Tree) → Row52Bare n w → AskedAlike Elsewhere n w
row_asked n w r =
    let a = plain_shape true r.member (inner r.number r.key ▸ r.value ▸ none) in
    let b = plain_shape false r.member (plain_key r.key ▸ r.value ▸ none) in
    record {
      absent = λ e. absurd (cc (sym e ∙ ap is_absent r.shape ∙ a.0));
      body = λ e. absurd (cc (sym e ∙ ap is_function_body r.shape ∙ a.1));
      optional = λ e. absurd (cc (sym e ∙ ap has_optional r.shape ∙ a.2));
      number = λ e f. ap is_not_positive_number r.written ∙ b.3;
      spelled = λ s e. absurd (cc (sym e ∙ ap spelling r.shape ∙ a.4));
      plain = ap (λ t. is_default (shape_of t)) r.shape ∙ a.5;
    }

plain_statement : (c q : Bool) (m : Member) → (is_port q (member_shape c m) ≡ false) × (is_declaration (member_shape c m) ≡ false) × (is_piece (member_shape c m) ≡ false)
plain_statement c q of_target = (refl, refl, refl)
plain_statement c q (of_method kind is_static) = (refl, refl, refl)
plain_statement c q (of_field is_static) = (refl, refl, refl)

same_kind : (m : Member) → arrow_kind (member_shape true m) ≡ arrow_kind (member_shape false m)
same_kind of_target = refl
same_kind (of_method kind is_static) = refl
same_kind (of_field is_static) = refl

-- at its place
there : (P : Position → Tree → Tree → Type 0) → ((n w : Tree) → Row52Bare n w → P Elsewhere n w) → (p : Position) (n w : Tree) → BareRow p n w → P p n w
there P f Elsewhere n w r = f n w r
there P f p n w r = absurd r

-- what holds of all such keys
everywhere : (P : Tree → Tree → Type 0) → ((m : Member) (i : ℕ) (k : PlainKey) (v : Tree) → P (before i k v m) (after i k v m)) → (n w : Tree) → Row52Bare n w → P n w
everywhere P f n w r = along n w r P (f r.member r.number r.key r.value)

pub bare_lawful : Lawful BareRow
bare_lawful = record {
  shapes = record {
    fitting = there (λ p n w. (strict : Bool) (s : Slot) → fits_place p s ≡ true → fits strict s n ≡ true → fits strict s w ≡ true) (λ n w r strict s k e. (row_stands n w r strict s e).0);
    asked = there AskedAlike row_asked;
  };
  bodies = record {
    means = bare_same;
    pieces = there (λ p n w. is_piece (shape_of n) ≡ false) (λ n w r. ap (λ t. is_piece (shape_of t)) r.shape ∙ (plain_statement true true r.member).2);
    kind = there (λ p n w. (strict : Bool) (s : Slot) → fits strict s n ≡ true → arrow_kind (shape_of n) ≡ arrow_kind (shape_of w)) (λ n w r strict s e. along n w r (λ y z. arrow_kind (shape_of y) ≡ arrow_kind (shape_of z)) (same_kind r.member));
    bodies = λ p n w c strict s k e a st. there (λ p n w. (a : Around) → BodiesKept (bodies a n) (bodies a w)) (everywhere (λ y z. (a : Around) → BodiesKept (bodies a y) (bodies a z)) bodies_kept) p n w c a;
  };
  frames = record {
    names = record {
      places = λ p n w c. inr (there KeepsRoot (everywhere (KeepsRoot Elsewhere) root_kept) p n w c);
      pieces = there (λ p n w. is_piece (shape_of n) ≡ false) (λ n w r. ap (λ t. is_piece (shape_of t)) r.shape ∙ (plain_statement true true r.member).2);
      keeps = λ p n w c strict s k e. there KeepsLoosely (everywhere (KeepsLoosely Elsewhere) names_kept) p n w c;
    };
    slots = λ p n w c strict s k e. inr (there (λ p n w. fits strict s n ≡ true → IsShownAlike s n w) (λ n w r e. (row_stands n w r strict s e).1) p n w c e);
    ports = λ p n w c strict d e m. there (λ p n w. (is_port m (shape_of n) ≡ false) × (is_port m (shape_of w) ≡ false)) (λ n w r. (ap (λ t. is_port m (shape_of t)) r.shape ∙ (plain_statement true m r.member).0, ap (λ t. is_port m (shape_of t)) r.written ∙ (plain_statement false m r.member).0)) p n w c;
    listed = λ p n w e c. absurd (there (λ p n w. is_statement_list p ≡ true → ⊥) (λ n w r e. cc e) p n w c e);
    exported = λ p n w c strict e. there (λ p n w. (is_declaration (shape_of n) ≡ false) × (is_declaration (shape_of w) ≡ false)) (λ n w r. (ap (λ t. is_declaration (shape_of t)) r.shape ∙ (plain_statement true true r.member).1, ap (λ t. is_declaration (shape_of t)) r.written ∙ (plain_statement false true r.member).1)) p n w c;
    frames = λ p n w c strict s k e. kept_are_shown n w (there (λ p n w. FramesKept (frames None n) (frames None w)) (everywhere (λ y z. FramesKept (frames None y) (frames None z)) frames_kept) p n w c);
  };
  fixed = there (λ p n w. (x : Variable) → fixed_by n x ≡ fixed_by w x) (everywhere (λ y z. (x : Variable) → fixed_by y x ≡ fixed_by z x) fixed_kept);
  declared = λ p n w c x k. subst (λ xs. Contains xs x) (sym (there (λ p n w. declared n ≡ declared w) (everywhere (λ y z. declared y ≡ declared z) declared_kept) p n w c)) k;
}

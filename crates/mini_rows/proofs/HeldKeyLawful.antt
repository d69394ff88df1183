-- What a row on the key of a pattern or a class writes keeps all that a program has to keep: a key has no names, numbers, bodies or
-- frames in it, and the frame around it shows the property that it names.
use Rattle.std.specs.Prelude.{ℕ, ◌≡◌, refl, Bool, true, false, List, [], Contains, None, pos}
use Rattle.std.specs.Fmt.{signed_decimal}
use Rattle.std.proofs.Common.{ap, ◌∙◌, sym, subst, inr, arith}
use Rattle.mini_model.specs.declared.place.Position.{Position}
use Rattle.mini_model.specs.declared.place.Position.TheVariants.{Elsewhere}
use Rattle.mini_model.specs.declared.shape.Shape.TheVariants as shape
use Rattle.mini_model.specs.Tree.{Tree, none, ◌▸◌, is_absent, shape_of}
use Rattle.mini_accept.specs.WellShaped.{Slot, fits, is_function_body, spelling, has_optional, is_not_positive_number}
use Rattle.mini_laws.specs.declared.names.Declared.{Declared}
use Rattle.mini_laws.specs.declared.names.Declared.TheVariants as declaring
use Rattle.mini_laws.specs.declared.names.Targets.{Targets}
use Rattle.mini_laws.specs.declared.names.Use.{Use}
use Rattle.mini_laws.specs.DeclaredNames.{names_of, body_names, has_inner}
use Rattle.mini_laws.specs.Early.{Path, declarations, body_declarations, in_body, children_of_node, scope_declarations, early_names, targets_of, early_jumps, is_loop}
use Rattle.mini_laws.specs.Resolved.{Environment}
use Rattle.mini_laws.specs.Scoped.{Scoped}
use Rattle.mini_laws.specs.Scopes.{scopes_by}
use Rattle.mini_laws.specs.Symbols.{declared as declared_in, times}
use Rattle.mini_laws.specs.Value.{Variable, nothing}
use Rattle.mini_laws.specs.State.{Writable}
use Rattle.mini_laws.specs.Fixity.{fixity_by, stricter, fixed_by}
use Rattle.mini_laws.specs.Bodies.{Around, bodies, arrow_kind}
use Rattle.mini_kept.specs.AlikeBodies.{BodiesKept}
use Rattle.mini_kept.specs.Carried.{numbers}
use Rattle.mini_kept.specs.Declaring.{declared}
use Rattle.mini_kept.specs.Frames.{part, is_declaration, is_port, frames, FramesKept}
use Rattle.mini_kept.specs.KeepsFrames.{IsShownAlike}
use Rattle.mini_kept.specs.ShownFrames.{KeyGiven}
use Rattle.mini_kept.proofs.FrameSteps.{kept_are_shown}
use Rattle.mini_kept.proofs.ShownFrames.{shows_same}
use Rattle.mini_kept.specs.KeepsLoosely.{KeepsLoosely}
use Rattle.mini_kept.specs.KeepsNames.{count_of, unplaced}
use Rattle.mini_kept.specs.KeepsShapes.{is_default, AskedAlike}
use Rattle.mini_kept.specs.Lawful.{Lawful}
use Rattle.mini_kept.specs.Lifted.{is_piece, KeepsRoot}
use Rattle.mini_kept.specs.Placed.{fits_place, is_statement_list}
use Rattle.mini_kept.proofs.BodyLists.{kept_itself}
use Rattle.mini_kept.proofs.Fixed.{of_children}
use Rattle.mini_kept.proofs.FrameLists.{same_frames}
use Rattle.mini_kept.proofs.InOrder.{in_order}
use Rattle.mini_rows.specs.Spellings.{numeral, text, key}
use Rattle.mini_rows.specs.KeyHolders.{Holder, a_binding, a_target, a_method, a_field, holder_shape, holding, Spelling, of_name, of_whole, quoted, unquoted, Row52Held}
use Rattle.mini_rows.proofs.HeldKeyMeaning.{HeldRow, held_same}
use Rattle.mini_rows.proofs.HeldKeyShapes.{stands}

-- ---- the keys that are read and written, each against one name

data Word : Type 0 where
  a_text : List ℕ → Word
  a_label : List ℕ → Word
  a_number : ℕ → Word

abbrev word : Word → Tree
word (a_text s) = text s
word (a_label s) = key s
word (a_number n) = numeral (pos n)

abbrev first_word : Spelling → Word
first_word (of_name s) = a_text s
first_word (of_whole n) = a_text (signed_decimal (pos n))

abbrev second_word : Spelling → Word
second_word (of_name s) = a_label s
second_word (of_whole n) = a_number n

quoted_is : (s : Spelling) → quoted s ≡ word (first_word s)
quoted_is (of_name s) = refl
quoted_is (of_whole n) = refl

unquoted_is : (s : Spelling) → unquoted s ≡ word (second_word s)
unquoted_is (of_name s) = refl
unquoted_is (of_whole n) = refl

module _ (v : Tree) where
  abbrev over : Word → Holder → Tree
  over i h = holding h (word i) v

  abbrev named : Holder → Tree
  named h = holding h (key []) v

  over_names : (i : Word) (d : Declared) (h : Holder) → names_of d (over i h) ≡ names_of d (named h)
  unfolding names_of
  over_names (a_text s) declaring.Bound a_binding = refl
  over_names (a_text s) declaring.Lexical a_binding = refl
  over_names (a_text s) declaring.Hoisted a_binding = refl
  over_names (a_label s) declaring.Bound a_binding = refl
  over_names (a_label s) declaring.Lexical a_binding = refl
  over_names (a_label s) declaring.Hoisted a_binding = refl
  over_names (a_number n) declaring.Bound a_binding = refl
  over_names (a_number n) declaring.Lexical a_binding = refl
  over_names (a_number n) declaring.Hoisted a_binding = refl
  over_names i d h = refl

  over_body : (i : Word) (h : Holder) → body_names (over i h) ≡ body_names (named h)
  unfolding names_of body_names
  over_body (a_text s) a_binding = refl
  over_body (a_label s) a_binding = refl
  over_body (a_number n) a_binding = refl
  over_body i h = refl

  over_inner : (i : Word) (h : Holder) → has_inner (over i h) ≡ has_inner (named h)
  unfolding has_inner
  over_inner (a_text s) a_binding = refl
  over_inner (a_label s) a_binding = refl
  over_inner (a_number n) a_binding = refl
  over_inner i h = refl

  over_symbols : (i : Word) (h : Holder) (u : Use) → declared_in u (over i h) ≡ declared_in u (named h)
  unfolding declared_in scopes_by
  over_symbols (a_text s) a_binding u = refl
  over_symbols (a_label s) a_binding u = refl
  over_symbols (a_number n) a_binding u = refl
  over_symbols i h u = refl

  over_scoped : (i j : Word) (h : Holder) (u : Use) (env : Environment) → Scoped u env (over i h) → Scoped u env (over j h)
  unfolding Scoped scopes_by
  over_scoped i (a_text s) a_binding u env x = (tt, ((tt, tt), x.1.1))
  over_scoped i (a_label s) a_binding u env x = (tt, ((tt, tt), x.1.1))
  over_scoped i (a_number n) a_binding u env x = (tt, ((tt, tt), x.1.1))
  over_scoped i j h u env x = (tt, ((tt, tt), x.1.1))

  over_numbers : (i : Word) (h : Holder) → numbers (over i h) ≡ numbers (named h)
  unfolding numbers
  over_numbers (a_text s) a_binding = refl
  over_numbers (a_label s) a_binding = refl
  over_numbers (a_number n) a_binding = refl
  over_numbers i h = refl

  over_declarations : (i : Word) (h : Holder) (b : Bool) (q : Path) → body_declarations b q (over i h) ≡ body_declarations b q (named h)
  unfolding declarations body_declarations
  over_declarations (a_text s) a_binding b q = refl
  over_declarations (a_label s) a_binding b q = refl
  over_declarations (a_number n) a_binding b q = refl
  over_declarations i h b q = refl

  over_block : (i : Word) (h : Holder) (b : Bool) (q : Path) → in_body b q (children_of_node (over i h)) 0 ≡ in_body b q (children_of_node (named h)) 0
  unfolding declarations body_declarations
  over_block (a_text s) h b q = refl
  over_block (a_label s) h b q = refl
  over_block (a_number n) h b q = refl

  over_once : (i : Word) (h : Holder) (q : Path) → early_names q (over i h) ≡ early_names q (named h)
  unfolding scope_declarations early_names
  over_once (a_text s) a_binding q = refl
  over_once (a_label s) a_binding q = refl
  over_once (a_number n) a_binding q = refl
  over_once i h q = refl

  over_targets : (i : Word) (h : Holder) (a : Targets) (q : Path) → early_jumps a q (over i h) ≡ early_jumps a q (named h)
  unfolding targets_of early_jumps
  over_targets (a_text s) a_binding a q = refl
  over_targets (a_label s) a_binding a q = refl
  over_targets (a_number n) a_binding a q = refl
  over_targets i h a q = refl

  over_bodies : (i : Word) (h : Holder) (a : Around) → bodies a (over i h) ≡ bodies a (named h)
  over_bodies (a_text s) a_binding a = refl
  over_bodies (a_label s) a_binding a = refl
  over_bodies (a_number n) a_binding a = refl
  over_bodies i h a = refl

  over_frames : (i : Word) (h : Holder) → frames None (over i h) ≡ frames None (named h)
  over_frames (a_text s) a_binding = refl
  over_frames (a_label s) a_binding = refl
  over_frames (a_number n) a_binding = refl
  over_frames i h = refl

  over_declared : (i : Word) (h : Holder) → declared (over i h) ≡ declared (named h)
  over_declared (a_text s) a_binding = refl
  over_declared (a_label s) a_binding = refl
  over_declared (a_number n) a_binding = refl
  over_declared i h = refl

writable : (h : Holder) → fixity_by (holder_shape h) ≡ Writable
writable a_binding = refl
writable a_target = refl
writable (a_method kind is_static) = refl
writable (a_field is_static) = refl

word_fixed : (i : Word) (x : Variable) → fixed_by (word i) x ≡ Writable
word_fixed (a_text s) x = of_children (shape.StringLiteral s) [] 0 none x refl
word_fixed (a_label s) x = of_children (shape.IdentifierName s) [] 0 none x refl
word_fixed (a_number n) x = of_children (shape.NumericLiteral (pos n)) [] 0 none x refl

over_fixed : (i : Word) (h : Holder) (v : Tree) (x : Variable) → fixed_by (holding h (word i) v) x ≡ stricter (fixed_by v x) Writable
over_fixed i h v x = of_children (holder_shape h) [] 0 (word i ▸ v ▸ none) x (writable h) ∙ ap (λ f. stricter f (stricter (fixed_by v x) Writable)) (word_fixed i x)

-- the property that both name
shown_same : (s : Spelling) (h : Holder) (v : Tree) → part (holding h (quoted s) v) ≡ part (holding h (unquoted s) v)
shown_same (of_name s) a_binding v = refl
shown_same (of_whole n) a_binding v = refl
shown_same s h v = refl

-- ---- of two keys

module _ (h : Holder) (i j : Word) (v : Tree) where
  abbrev n : Tree
  n = holding h (word i) v

  abbrev w : Tree
  w = holding h (word j) v

  both : {A : Type 0} (f : Tree → A) → f n ≡ f (holding h (key []) v) → f w ≡ f (holding h (key []) v) → f n ≡ f w
  both f x y = x ∙ sym y

  no_loop_here : is_loop w ≡ is_loop n
  unfolding is_loop
  no_loop_here = refl

  names_kept : KeepsLoosely Elsewhere n w
  names_kept = in_order Elsewhere n w (record {
    kept = record {
      names = λ d. over_names v j d h ∙ sym (over_names v i d h);
      body = over_body v j h ∙ sym (over_body v i h);
      inner = over_inner v j h ∙ sym (over_inner v i h);
      symbols = λ u y. omega (arith, ap (times y) (over_symbols v i h u ∙ sym (over_symbols v j h u)));
    };
    scoped = λ u env st x. over_scoped v i j h u env x;
    numbers = λ y. omega (arith, ap (count_of y) (over_numbers v i h ∙ sym (over_numbers v j h)));
    declared_as_body = λ b q. ap unplaced (over_declarations v j h b q ∙ sym (over_declarations v i h b q));
    once = λ q e. over_once v j h q ∙ sym (over_once v i h q) ∙ e;
    targets = λ g q e. over_targets v j h g q ∙ sym (over_targets v i h g q) ∙ e;
    loop = no_loop_here;
    root = λ e. refl;
    block = λ e b q. ap unplaced (over_block v j h b q ∙ sym (over_block v i h b q));
  })

  root_kept : KeepsRoot Elsewhere n w
  root_kept = record { place = refl; shape = refl; names = refl; number = refl; counted = refl; second = refl }

  bodies_kept : (a : Around) → BodiesKept (bodies a n) (bodies a w)
  bodies_kept a = subst (BodiesKept (bodies a n)) (over_bodies v i h a ∙ sym (over_bodies v j h a)) (kept_itself (bodies a n))

  frames_kept : FramesKept (frames None n) (frames None w)
  frames_kept = same_frames (frames None n) (frames None w) (over_frames v i h ∙ sym (over_frames v j h))

  fixed_kept : (x : Variable) → fixed_by n x ≡ fixed_by w x
  fixed_kept x = over_fixed i h v x ∙ sym (over_fixed j h v x)

  declared_kept : declared n ≡ declared w
  declared_kept = over_declared v i h ∙ sym (over_declared v j h)

-- ---- of the row

module _ (P : Tree → Tree → Type 0) (n w : Tree) (r : Row52Held n w) where
  -- from what it reads and writes
  along : P (holding r.holder (quoted r.spelling) r.value) (holding r.holder (unquoted r.spelling) r.value) → P n w
  along x = subst (λ y. P y w) (sym r.shape) (subst (P (holding r.holder (quoted r.spelling) r.value)) (sym r.written) x)

  by_words : P (holding r.holder (word (first_word r.spelling)) r.value) (holding r.holder (word (second_word r.spelling)) r.value) → P n w
  by_words x = along (subst (λ k. P (holding r.holder k r.value) (holding r.holder (unquoted r.spelling) r.value)) (sym (quoted_is r.spelling)) (subst (λ k. P (holding r.holder (word (first_word r.spelling)) r.value) (holding r.holder k r.value)) (sym (unquoted_is r.spelling)) x))

row_stands : (n w : Tree) (r : Row52Held n w) (strict : Bool) (t : Slot) → fits strict t n ≡ true → (fits strict t w ≡ true) × IsShownAlike t n w
row_stands n w r strict t e =
    let x = stands strict t r.holder r.spelling r.value r.is_spelling (subst (λ y. fits strict t y ≡ true) r.shape e) in
    (subst (λ y. fits strict t y ≡ true) (sym r.written) x.written, (x.slot, λ a. shows_same (KeyGiven nothing (bodies a n)) (part n) (part w) (along (λ y z. part y ≡ part z) n w r (shown_same r.spelling r.holder r.value))))

plain_shape : (h : Holder) (k v : Tree) → (is_absent (holding h k v) ≡ false) × (is_function_body (holding h k v) ≡ false) × (has_optional (holding h k v) ≡ false) × (is_not_positive_number (holding h k v) ≡ true) × (spelling (holding h k v) ≡ None) × (is_default (holder_shape h) ≡ false)
plain_shape a_binding k v = (refl, refl, refl, refl, refl, refl)
plain_shape a_target k v = (refl, refl, refl, refl, refl, refl)
plain_shape (a_method kind is_static) k v = (refl, refl, refl, refl, refl, refl)
plain_shape (a_field is_static) k v = (refl, refl, refl, refl, refl, refl)

row_asked : (n w : Tree) → Row52Held n w → AskedAlike Elsewhere n w
row_asked n w r =
    let a = plain_shape r.holder (quoted r.spelling) r.value in
    let b = plain_shape r.holder (unquoted r.spelling) r.value in
    record {
      absent = λ e. absurd (cc (sym e ∙ ap is_absent r.shape ∙ a.0));
      body = λ e. absurd (cc (sym e ∙ ap is_function_body r.shape ∙ a.1));
      optional = λ e. absurd (cc (sym e ∙ ap has_optional r.shape ∙ a.2));
      number = λ e f. ap is_not_positive_number r.written ∙ b.3;
      spelled = λ s e. absurd (cc (sym e ∙ ap spelling r.shape ∙ a.4));
      plain = ap (λ t. is_default (shape_of t)) r.shape ∙ a.5;
    }

plain_statement : (m : Bool) (h : Holder) → (is_port m (holder_shape h) ≡ false) × (is_declaration (holder_shape h) ≡ false) × (is_piece (holder_shape h) ≡ false)
plain_statement m a_binding = (refl, refl, refl)
plain_statement m a_target = (refl, refl, refl)
plain_statement m (a_method kind is_static) = (refl, refl, refl)
plain_statement m (a_field is_static) = (refl, refl, refl)

-- at its place

module _ (P : Position → Tree → Tree → Type 0) where
  there : ((n w : Tree) → Row52Held n w → P Elsewhere n w) → (p : Position) (n w : Tree) → HeldRow p n w → P p n w
  there f Elsewhere n w r = f n w r
  there f p n w r = absurd r

of_words : (n w : Tree) (r : Row52Held n w) (P : Tree → Tree → Type 0) → ((h : Holder) (i j : Word) (v : Tree) → P (holding h (word i) v) (holding h (word j) v)) → P n w
of_words n w r P f = by_words P n w r (f r.holder (first_word r.spelling) (second_word r.spelling) r.value)

pub held_lawful : Lawful HeldRow
held_lawful = record {
  shapes = record {
    fitting = there (λ p n w. (strict : Bool) (s : Slot) → fits_place p s ≡ true → fits strict s n ≡ true → fits strict s w ≡ true) (λ n w r strict s k e. (row_stands n w r strict s e).0);
    asked = there AskedAlike row_asked;
  };
  bodies = record {
    means = held_same;
    pieces = there (λ p n w. is_piece (shape_of n) ≡ false) (λ n w r. ap (λ t. is_piece (shape_of t)) r.shape ∙ (plain_statement true r.holder).2);
    kind = there (λ p n w. (strict : Bool) (s : Slot) → fits strict s n ≡ true → arrow_kind (shape_of n) ≡ arrow_kind (shape_of w)) (λ n w r strict s e. along (λ y z. arrow_kind (shape_of y) ≡ arrow_kind (shape_of z)) n w r refl);
    bodies = λ p n w c strict s k e a st. there (λ p n w. (a : Around) → BodiesKept (bodies a n) (bodies a w)) (λ n w r. of_words n w r (λ y z. (a : Around) → BodiesKept (bodies a y) (bodies a z)) bodies_kept) p n w c a;
  };
  frames = record {
    names = record {
      places = λ p n w c. inr (there KeepsRoot (λ n w r. of_words n w r (KeepsRoot Elsewhere) root_kept) p n w c);
      pieces = there (λ p n w. is_piece (shape_of n) ≡ false) (λ n w r. ap (λ t. is_piece (shape_of t)) r.shape ∙ (plain_statement true r.holder).2);
      keeps = λ p n w c strict s k e. there KeepsLoosely (λ n w r. of_words n w r (KeepsLoosely Elsewhere) names_kept) p n w c;
    };
    slots = λ p n w c strict s k e. inr (there (λ p n w. fits strict s n ≡ true → IsShownAlike s n w) (λ n w r e. (row_stands n w r strict s e).1) p n w c e);
    ports = λ p n w c strict d e m. there (λ p n w. (is_port m (shape_of n) ≡ false) × (is_port m (shape_of w) ≡ false)) (λ n w r. (ap (λ t. is_port m (shape_of t)) r.shape ∙ (plain_statement m r.holder).0, ap (λ t. is_port m (shape_of t)) r.written ∙ (plain_statement m r.holder).0)) p n w c;
    listed = λ p n w e c. absurd (there (λ p n w. is_statement_list p ≡ true → ⊥) (λ n w r e. cc e) p n w c e);
    exported = λ p n w c strict e. there (λ p n w. (is_declaration (shape_of n) ≡ false) × (is_declaration (shape_of w) ≡ false)) (λ n w r. (ap (λ t. is_declaration (shape_of t)) r.shape ∙ (plain_statement true r.holder).1, ap (λ t. is_declaration (shape_of t)) r.written ∙ (plain_statement true r.holder).1)) p n w c;
    frames = λ p n w c strict s k e. kept_are_shown n w (there (λ p n w. FramesKept (frames None n) (frames None w)) (λ n w r. of_words n w r (λ y z. FramesKept (frames None y) (frames None z)) frames_kept) p n w c);
  };
  fixed = there (λ p n w. (x : Variable) → fixed_by n x ≡ fixed_by w x) (λ n w r. of_words n w r (λ y z. (x : Variable) → fixed_by y x ≡ fixed_by z x) fixed_kept);
  declared = λ p n w c x k. subst (λ xs. Contains xs x) (sym (there (λ p n w. declared n ≡ declared w) (λ n w r. of_words n w r (λ y z. declared y ≡ declared z) declared_kept) p n w c)) k;
}

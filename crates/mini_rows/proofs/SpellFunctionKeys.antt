-- What a row on the key of a method, a getter or a setter writes keeps all that a program has to keep: a key has no names, numbers,
-- bodies or frames in it, and what is read of the property around is the same.
use Rattle.std.specs.Prelude.{ℕ, suc, ◌≡◌, refl, ◌||◌, Bool, true, false, List, [], ◌∷◌, ◌++◌, Contains, Option, None, pos}
use Rattle.std.specs.Fmt.{signed_decimal}
use Rattle.std.proofs.Common.{ap, ◌∙◌, sym, subst, arith}
use Rattle.mini_model.specs.declared.kind.PropertyKind.{PropertyKind}
use Rattle.mini_model.specs.declared.kind.PropertyKind.TheVariants.{Init, Get, Set}
use Rattle.mini_model.specs.declared.place.Position.TheVariants.{Expr}
use Rattle.mini_model.specs.declared.seat.Seat.{Seat}
use Rattle.mini_model.specs.declared.shape.Shape.TheVariants as shape
use Rattle.mini_model.specs.Paths.{append}
use Rattle.mini_model.specs.Tree.{Tree, Trees, none, ◌▸◌, listed}
use Rattle.mini_laws.specs.declared.names.Binding.{Binding}
use Rattle.mini_laws.specs.declared.names.Targets.{Targets}
use Rattle.mini_laws.specs.declared.names.Use.{Use}
use Rattle.mini_laws.specs.declared.names.Use.TheVariants.{Read}
use Rattle.mini_laws.specs.DeclaredNames.{has_inner, any_inner}
use Rattle.mini_laws.specs.Early.{Path, scope_declarations, early_names, all_early_names, targets_of, early_jumps, all_early_jumps}
use Rattle.mini_laws.specs.Resolved.{Environment}
use Rattle.mini_laws.specs.Scoped.{Scoped, AllScoped}
use Rattle.mini_laws.specs.Scopes.{scopes_by}
use Rattle.mini_laws.specs.Symbols.{declared as declared_in, declared_from, symbols_in, times}
use Rattle.mini_laws.specs.Value.{Variable, is_in, choose}
use Rattle.mini_laws.specs.State.{Writable}
use Rattle.mini_laws.specs.Naming.{summaries}
use Rattle.mini_laws.specs.Fixity.{declared_by as declares_by, stricter, fixed_by, fixed_by_any}
use Rattle.mini_laws.specs.Bodies.{Around, bodies, bodies_from}
use Rattle.mini_kept.specs.AlikeBodies.{BodiesKept}
use Rattle.mini_kept.specs.Carried.{numbers, all_numbers}
use Rattle.mini_kept.specs.Declaring.{declared, declared_all}
use Rattle.mini_kept.specs.Frames.{property_below, frames, frames_from, FramesKept}
use Rattle.mini_kept.specs.KeepsNames.{count_of, unplaced}
use Rattle.mini_kept.proofs.BodyLists.{kept_itself}
use Rattle.mini_kept.proofs.InOrder.{in_order}
use Rattle.mini_kept.proofs.Quiet.{no_names, no_body_names, no_body_declarations, no_loop}
use Rattle.mini_rows.specs.Arranged.{KeptAt}
use Rattle.mini_rows.specs.Spellings.{numeral, text, key}
use Rattle.mini_rows.specs.SpellKeys.{object_literal, KeyForm, a_name, a_whole, a_text_in_brackets, a_whole_in_brackets, is_bracketed_form, read_key, written_key, function_property, Row52Function, RowInObject}

-- ---- of two properties and of two literals that have them

-- the names that a tree has are scoped, under whatever is around
abbrev StayScoped : Tree → Tree → Type 0
StayScoped t u = (v : Use) (env : Environment) → Scoped v env t → Scoped v env u

record Alike (t u : Tree) : Type 0 where
  inner : has_inner t ≡ has_inner u
  scoped : StayScoped t u
  symbols : (v : Use) → declared_in v t ≡ declared_in v u
  numbers : numbers t ≡ numbers u
  once : (q : Path) → early_names q t ≡ early_names q u
  targets : (a : Targets) (q : Path) → early_jumps a q t ≡ early_jumps a q u
  bodies : (a : Around) → bodies a t ≡ bodies a u
  frames : (k : Option PropertyKind) → frames k t ≡ frames k u
  fixed : (x : Variable) → fixed_by t x ≡ fixed_by u x
  declared : declared t ≡ declared u

writable_anyway : (b : Bool) → choose b Writable Writable ≡ Writable
writable_anyway true = refl
writable_anyway false = refl

-- ---- among others

module _ (t u : Tree) (post : Trees) (h : Alike t u) where
  one_inner : (pre : Trees) → any_inner (append pre (t ▸ post)) ≡ any_inner (append pre (u ▸ post))
  unfolding has_inner
  one_inner none = ap (λ b. b || any_inner post) h.inner
  one_inner (c ▸ pre) = ap (λ b. has_inner c || b) (one_inner pre)

  one_scoped : (scope : ℕ → List Binding) (uses : ℕ → Use) (i : ℕ) (env : Environment) (pre : Trees) → AllScoped scope uses i env (append pre (t ▸ post)) → AllScoped scope uses i env (append pre (u ▸ post))
  unfolding Scoped
  one_scoped scope uses i env none x = (h.scoped (uses i) (env ++ scope i) x.0, x.1)
  one_scoped scope uses i env (c ▸ pre) x = (x.0, one_scoped scope uses (suc i) (env ++ scope i) pre x.1)

  one_symbols : (scope : ℕ → List Binding) (uses : ℕ → Use) (i : ℕ) (pre : Trees) → declared_from scope uses i (append pre (t ▸ post)) ≡ declared_from scope uses i (append pre (u ▸ post))
  unfolding declared_in
  one_symbols scope uses i none = ap (λ ss. symbols_in (scope i) ++ (ss ++ declared_from scope uses (suc i) post)) (h.symbols (uses i))
  one_symbols scope uses i (c ▸ pre) = ap (λ ss. symbols_in (scope i) ++ (declared_in (uses i) c ++ ss)) (one_symbols scope uses (suc i) pre)

  one_numbers : (pre : Trees) → all_numbers (append pre (t ▸ post)) ≡ all_numbers (append pre (u ▸ post))
  unfolding numbers
  one_numbers none = ap (λ ns. ns ++ all_numbers post) h.numbers
  one_numbers (c ▸ pre) = ap (λ ns. numbers c ++ ns) (one_numbers pre)

  one_once : (q : Path) (i : ℕ) (pre : Trees) → all_early_names q i (append pre (t ▸ post)) ≡ all_early_names q i (append pre (u ▸ post))
  unfolding early_names
  one_once q i none = ap (λ ps. ps ++ all_early_names q (suc i) post) (h.once (q ++ i ∷ []))
  one_once q i (c ▸ pre) = ap (λ ps. early_names (q ++ i ∷ []) c ++ ps) (one_once q (suc i) pre)

  one_targets : (targets : ℕ → Targets) (q : Path) (i : ℕ) (pre : Trees) → all_early_jumps targets q i (append pre (t ▸ post)) ≡ all_early_jumps targets q i (append pre (u ▸ post))
  unfolding early_jumps
  one_targets targets q i none = ap (λ ps. ps ++ all_early_jumps targets q (suc i) post) (h.targets (targets i) (q ++ i ∷ []))
  one_targets targets q i (c ▸ pre) = ap (λ ps. early_jumps (targets i) (q ++ i ∷ []) c ++ ps) (one_targets targets q (suc i) pre)

  one_bodies : (around : ℕ → Around) (i : ℕ) (pre : Trees) → bodies_from around i (append pre (t ▸ post)) ≡ bodies_from around i (append pre (u ▸ post))
  one_bodies around i none = ap (λ bs. bs ++ bodies_from around (suc i) post) (h.bodies (around i))
  one_bodies around i (c ▸ pre) = ap (λ bs. bodies (around i) c ++ bs) (one_bodies around (suc i) pre)

  one_frames : (kind : ℕ → Option PropertyKind) (i : ℕ) (pre : Trees) → frames_from kind i (append pre (t ▸ post)) ≡ frames_from kind i (append pre (u ▸ post))
  one_frames kind i none = ap (λ fs. fs ++ frames_from kind (suc i) post) (h.frames (kind i))
  one_frames kind i (c ▸ pre) = ap (λ fs. frames (kind i) c ++ fs) (one_frames kind (suc i) pre)

  one_fixed : (x : Variable) (pre : Trees) → fixed_by_any (append pre (t ▸ post)) x ≡ fixed_by_any (append pre (u ▸ post)) x
  one_fixed x none = ap (λ f. stricter f (fixed_by_any post x)) (h.fixed x)
  one_fixed x (c ▸ pre) = ap (stricter (fixed_by c x)) (one_fixed x pre)

  one_declared : (pre : Trees) → declared_all (append pre (t ▸ post)) ≡ declared_all (append pre (u ▸ post))
  one_declared none = ap (λ xs. xs ++ declared_all post) h.declared
  one_declared (c ▸ pre) = ap (λ xs. declared c ++ xs) (one_declared pre)

  -- ---- in a literal

  module _ (pre : Trees) where
    abbrev n : Tree
    n = object_literal (append pre (t ▸ post))

    abbrev w : Tree
    w = object_literal (append pre (u ▸ post))

    list_fixed : (ts : Trees) (x : Variable) → fixed_by (listed ts) x ≡ fixed_by_any ts x
    list_fixed ts x = ap (λ f. stricter f (fixed_by_any ts x)) (writable_anyway (is_in x (declares_by shape.Listed (summaries ts))))

    object_fixed : (ts : Trees) (x : Variable) → fixed_by (object_literal ts) x ≡ stricter (fixed_by_any ts x) Writable
    object_fixed ts x = ap (λ f. stricter f (stricter (fixed_by (listed ts) x) Writable)) (writable_anyway (is_in x (declares_by shape.ObjectExpression (summaries (listed ts ▸ none))))) ∙ ap (λ f. stricter f Writable) (list_fixed ts x)

    in_literal : Alike n w
    unfolding has_inner Scoped declared_in numbers scope_declarations early_names targets_of early_jumps scopes_by
    in_literal = record {
      inner = ap (λ b. b || false) (one_inner pre);
      scoped = λ v env x. (x.0, ((x.1.0.0, one_scoped _ _ 0 _ pre x.1.0.1), x.1.1));
      symbols = λ v. ap (λ ss. ss ++ []) (one_symbols _ _ 0 pre);
      numbers = ap (λ ns. ns ++ []) (one_numbers pre);
      once = λ q. ap (λ ps. ps ++ []) (one_once (q ++ 0 ∷ []) 0 pre);
      targets = λ a q. ap (λ ps. ps ++ []) (one_targets _ (q ++ 0 ∷ []) 0 pre);
      bodies = λ a. ap (λ bs. bs ++ []) (one_bodies _ 0 pre);
      frames = λ k. ap (λ fs. fs ++ []) (one_frames _ 0 pre);
      fixed = λ x. object_fixed (append pre (t ▸ post)) x ∙ ap (λ f. stricter f Writable) (one_fixed x pre) ∙ sym (object_fixed (append pre (u ▸ post)) x);
      declared = ap (λ xs. xs ++ []) (one_declared pre);
    }

    literal_kept : (q : Seat) → KeptAt (Expr q) n w
    literal_kept q =
        let a = in_literal in
        record {
          keeps = λ strict s o k. in_order (Expr q) n w (record {
            kept = record {
              names = λ d. no_names d w refl ∙ sym (no_names d n refl);
              body = no_body_names w refl ∙ sym (no_body_names n refl);
              inner = sym a.inner;
              symbols = λ v y. omega (arith, ap (times y) (a.symbols v));
            };
            scoped = λ v env st x. a.scoped v env x;
            numbers = λ y. omega (arith, ap (count_of y) a.numbers);
            declared_as_body = λ l p. ap unplaced (no_body_declarations l p w refl ∙ sym (no_body_declarations l p n refl));
            once = λ p e. sym (a.once p) ∙ e;
            targets = λ g p e. sym (a.targets g p) ∙ e;
            loop = no_loop w refl ∙ sym (no_loop n refl);
            root = λ e. absurd (cc e);
            block = λ e l p. absurd (cc e);
          });
          piece = refl;
          kind = λ strict s k. refl;
          bodies = λ strict s o k b st. subst (BodiesKept (bodies b n)) (a.bodies b) (kept_itself (bodies b n));
          ports = λ strict d k m. (refl, refl);
          listed = λ l. absurd (cc l);
          exported = λ strict k. (refl, refl);
          frames = λ strict s o k. subst (FramesKept (frames None n)) (a.frames None) (λ f c. c);
          fixed = a.fixed;
          declared = λ x c. subst (λ xs. Contains xs x) (sym a.declared) c;
        }

-- ---- one property

data Word : Type 0 where
  a_text : List ℕ → Word
  a_label : List ℕ → Word
  a_number : ℕ → Word

abbrev word : Word → Tree
word (a_text s) = text s
word (a_label s) = key s
word (a_number n) = numeral (pos n)

module _ (k : PropertyKind) (m : Bool) (v : Tree) where
  abbrev over : Bool → Word → Tree
  over c i = function_property k m c (word i) v

  abbrev kids : Word → Trees
  kids i = word i ▸ v ▸ none

  over_inner : (c : Bool) (i : Word) → has_inner (over c i) ≡ has_inner v || false
  unfolding has_inner
  over_inner c (a_text s) = refl
  over_inner c (a_label s) = refl
  over_inner c (a_number n) = refl

  over_scoped : (c d : Bool) (i j : Word) → StayScoped (over c i) (over d j)
  unfolding Scoped scopes_by
  over_scoped c d i (a_text s) u env x = (tt, ((tt, tt), x.1.1))
  over_scoped c d i (a_label s) u env x = (tt, ((tt, tt), x.1.1))
  over_scoped c d i (a_number n) u env x = (tt, ((tt, tt), x.1.1))

  over_symbols : (c : Bool) (i : Word) (u : Use) → declared_in u (over c i) ≡ declared_in Read v ++ []
  unfolding declared_in scopes_by
  over_symbols c (a_text s) u = refl
  over_symbols c (a_label s) u = refl
  over_symbols c (a_number n) u = refl

  over_numbers : (c : Bool) (i : Word) → numbers (over c i) ≡ numbers v ++ []
  unfolding numbers
  over_numbers c (a_text s) = refl
  over_numbers c (a_label s) = refl
  over_numbers c (a_number n) = refl

  over_once : (c : Bool) (i : Word) (q : Path) → early_names q (over c i) ≡ early_names (q ++ 1 ∷ []) v ++ []
  unfolding scope_declarations early_names
  over_once c (a_text s) q = refl
  over_once c (a_label s) q = refl
  over_once c (a_number n) q = refl

  over_targets : (c : Bool) (i : Word) (a : Targets) (q : Path) → early_jumps a q (over c i) ≡ early_jumps a (q ++ 1 ∷ []) v ++ []
  unfolding targets_of early_jumps
  over_targets c (a_text s) a q = refl
  over_targets c (a_label s) a q = refl
  over_targets c (a_number n) a q = refl

  over_bodies : (c d : Bool) (i j : Word) (a : Around) → bodies a (over c i) ≡ bodies a (over d j)
  over_bodies c d (a_text s) (a_text r) a = refl
  over_bodies c d (a_text s) (a_label r) a = refl
  over_bodies c d (a_text s) (a_number n) a = refl
  over_bodies c d (a_number n) (a_number o) a = refl
  over_bodies c d (a_label s) (a_text r) a = refl
  over_bodies c d (a_label s) (a_label r) a = refl
  over_bodies c d (a_label s) (a_number n) a = refl
  over_bodies c d (a_number n) (a_text r) a = refl
  over_bodies c d (a_number n) (a_label r) a = refl

  over_frames : (c : Bool) (i : Word) (q : Option PropertyKind) → frames q (over c i) ≡ frames (property_below (shape.ObjectProperty k m false c) 1) v ++ []
  over_frames c (a_text s) q = refl
  over_frames c (a_label s) q = refl
  over_frames c (a_number n) q = refl

  over_fixed : (c : Bool) (i : Word) (x : Variable) → fixed_by (over c i) x ≡ stricter (fixed_by v x) Writable
  over_fixed c i x = ap (λ f. stricter f (fixed_by_any (kids i) x)) (writable_anyway (is_in x (declares_by (shape.ObjectProperty k m false c) (summaries (kids i))))) ∙ ap (λ f. stricter f (stricter (fixed_by v x) Writable)) (word_fixed i)
    where
      word_fixed : (i : Word) → fixed_by (word i) x ≡ Writable
      word_fixed (a_text s) = ap (λ f. stricter f Writable) (writable_anyway (is_in x (declares_by (shape.StringLiteral s) (summaries none))))
      word_fixed (a_label s) = ap (λ f. stricter f Writable) (writable_anyway (is_in x (declares_by (shape.IdentifierName s) (summaries none))))
      word_fixed (a_number n) = ap (λ f. stricter f Writable) (writable_anyway (is_in x (declares_by (shape.NumericLiteral (pos n)) (summaries none))))

  over_declared : (c : Bool) (i : Word) → declared (over c i) ≡ declared v ++ []
  over_declared c (a_text s) = refl
  over_declared c (a_label s) = refl
  over_declared c (a_number n) = refl

same_kind : (k : PropertyKind) (m c d : Bool) → property_below (shape.ObjectProperty k m false c) 1 ≡ property_below (shape.ObjectProperty k m false d) 1
same_kind Init true c d = refl
same_kind Init false c d = refl
same_kind Get m c d = refl
same_kind Set m c d = refl

properties_alike : (k : PropertyKind) (m : Bool) (v : Tree) (c d : Bool) (i j : Word) → Alike (function_property k m c (word i) v) (function_property k m d (word j) v)
properties_alike k m v c d i j = record {
  inner = over_inner k m v c i ∙ sym (over_inner k m v d j);
  scoped = over_scoped k m v c d i j;
  symbols = λ u. over_symbols k m v c i u ∙ sym (over_symbols k m v d j u);
  numbers = over_numbers k m v c i ∙ sym (over_numbers k m v d j);
  once = λ q. over_once k m v c i q ∙ sym (over_once k m v d j q);
  targets = λ a q. over_targets k m v c i a q ∙ sym (over_targets k m v d j a q);
  bodies = over_bodies k m v c d i j;
  frames = λ q. over_frames k m v c i q ∙ ap (λ o. frames o v ++ []) (same_kind k m c d) ∙ sym (over_frames k m v d j q);
  fixed = λ x. over_fixed k m v c i x ∙ sym (over_fixed k m v d j x);
  declared = over_declared k m v c i ∙ sym (over_declared k m v d j);
}

forms_alike : (k : PropertyKind) (m : Bool) (v : Tree) (f : KeyForm) → Alike (function_property k m (is_bracketed_form f) (read_key f) v) (function_property k m false (written_key f) v)
forms_alike k m v (a_name s) = properties_alike k m v false false (a_text s) (a_label s)
forms_alike k m v (a_whole n) = properties_alike k m v false false (a_text (signed_decimal (pos n))) (a_number n)
forms_alike k m v (a_text_in_brackets s) = properties_alike k m v true false (a_text s) (a_text s)
forms_alike k m v (a_whole_in_brackets n) = properties_alike k m v true false (a_number n) (a_number n)

-- ---- the row

pub function_kept : (q : Seat) (n w : Tree) (r : RowInObject n w) → Row52Function r.from r.to → KeptAt (Expr q) n w
function_kept q n w r p =
    let t = function_property p.kind p.is_method (is_bracketed_form p.form) (read_key p.form) p.value in
    let u = function_property p.kind p.is_method false (written_key p.form) p.value in
    subst (λ x. KeptAt (Expr q) x w) (sym (r.shape ∙ ap (λ x. object_literal (append r.before (x ▸ r.after))) p.shape))
    (subst (KeptAt (Expr q) (object_literal (append r.before (t ▸ r.after)))) (sym (r.written ∙ ap (λ x. object_literal (append r.before (x ▸ r.after))) p.written))
    (literal_kept t u r.after (forms_alike p.kind p.is_method p.value p.form) r.before q))

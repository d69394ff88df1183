-- A statement keeps what it has to keep where a branch, or a body, is another that has the same in it.
use Rattle.std.specs.Prelude.{ℕ, ◌≤◌, ◌≡◌, ◌⊎◌, refl, ◌&&◌, not, Bool, true, false, List, [], ◌∷◌, ◌++◌, Contains, Option, None, if◌then◌else◌}
use Rattle.std.proofs.Common.{ap, ◌∙◌, sym, arith, inl, inr}
use Rattle.std.proofs.lemmas.List.Elements.{Contains-append_left, Contains-append_right, Contains-append_cases}
use Rattle.mini_model.specs.declared.name.Name.{Name}
use Rattle.mini_model.specs.declared.name.SymbolId.{SymbolId}
use Rattle.mini_model.specs.declared.place.Position.{Position}
use Rattle.mini_model.specs.declared.place.Position.TheVariants.{Stmt}
use Rattle.mini_model.specs.declared.seat.StmtSeat.{StmtSeat}
use Rattle.mini_model.specs.declared.shape.Shape.{Shape}
use Rattle.mini_model.specs.declared.shape.Shape.TheVariants as shape
use Rattle.mini_model.specs.Tree.{Tree, node, none, ◌▸◌, shape_of}
use Rattle.mini_accept.specs.WellShaped.{Slot, fits}
use Rattle.mini_laws.specs.declared.names.Use.{Use}
use Rattle.mini_laws.specs.declared.names.Declared.{Declared}
use Rattle.mini_laws.specs.declared.names.Declared.TheVariants as declared
use Rattle.mini_laws.specs.declared.names.Declaration.{Declaration}
use Rattle.mini_laws.specs.declared.names.Targets.{Targets}
use Rattle.mini_laws.specs.DeclaredNames.{names_of, body_names}
use Rattle.mini_laws.specs.Scopes.{scopes_by}
use Rattle.mini_laws.specs.Resolved.{Environment}
use Rattle.mini_laws.specs.Scoped.{Scoped}
use Rattle.mini_laws.specs.Symbols.{declared as declared_in, times}
use Rattle.mini_laws.specs.Edits.{Kept}
use Rattle.mini_laws.specs.Early.{Path, body_declarations, own_declarations, declarations, is_function_shape, holds_statements, scope_declarations, clashing, early_names, targets_of, early_jumps, is_loop_shape, is_labeled, is_loop, last_is_loop}
use Rattle.mini_laws.proofs.Changes.{as_it_is, below}
use Rattle.mini_laws.specs.Body.{ArrowExpression}
use Rattle.mini_laws.specs.Value.{Variable, choose, is_in}
use Rattle.mini_laws.specs.State.{Writable}
use Rattle.mini_laws.specs.Naming.{summary}
use Rattle.mini_laws.specs.Fixity.{stricter, fixed_by}
use Rattle.mini_laws.specs.Bodies.{Around, bodies, arrow_kind}
use Rattle.mini_kept.specs.AlikeBodies.{BodiesKept}
use Rattle.mini_kept.specs.Carried.{numbers}
use Rattle.mini_kept.specs.Declaring.{declared as declared_names}
use Rattle.mini_kept.specs.Frames.{is_declaration, is_port, Frame, frames, FramesKept}
use Rattle.mini_kept.specs.KeepsLoosely.{InnerKept}
use Rattle.mini_kept.specs.KeepsNames.{unplaced, count_of}
use Rattle.mini_kept.specs.SameNames.{is_among, first_symbol}
use Rattle.mini_kept.specs.Lifted.{is_piece}
use Rattle.mini_kept.proofs.Below.{both_counts, empty_both, both_empty}
use Rattle.mini_kept.proofs.BodyLists.{kept_itself, each_of as each_body}
use Rattle.mini_kept.proofs.FrameLists.{each_of as each_frame}
use Rattle.mini_kept.proofs.Clashes.{no_more_same}
use Rattle.mini_kept.proofs.Unplaced.{unplaced_both, declared_same, as_statement, as_body, all_as_body, body_same, free_same}
use Rattle.mini_rows.specs.Arranged.{SameFixed, KeptBy, KeptAt}
use Rattle.mini_rows.specs.Branches.{Surrounding, Consequent, Alternate, WhileBody, DoBody, ForBody, InBody, OfBody, around}
use Rattle.mini_rows.proofs.BranchInside.{quiet, Inside, no_choice}

-- ---- what the shapes of some statements say

pub record Plain (h : Shape) : Type 0 where
  pub piece : is_piece h ≡ false
  pub kind : arrow_kind h ≡ ArrowExpression
  pub port : (m : Bool) → is_port m h ≡ false
  pub declaration : is_declaration h ≡ false
  pub holds : holds_statements h ≡ false
  pub function : is_function_shape h ≡ false
  pub labeled : is_labeled h ≡ false

abbrev pub is_plain : Shape → Bool
is_plain shape.ExpressionStatement = true
is_plain shape.ReturnStatement = true
is_plain shape.IfStatement = true
is_plain shape.WhileStatement = true
is_plain shape.DoWhileStatement = true
is_plain shape.ForStatement = true
is_plain shape.ForInStatement = true
is_plain shape.ForOfStatement = true
is_plain shape.SwitchStatement = true
is_plain shape.BlockStatement = true
is_plain _ = false

plain_shape : (h : Shape) → is_plain h ≡ true → Plain h
plain_shape shape.ExpressionStatement e = record { piece = refl; kind = refl; port = λ m. refl; declaration = refl; holds = refl; function = refl; labeled = refl }
plain_shape shape.ReturnStatement e = record { piece = refl; kind = refl; port = λ m. refl; declaration = refl; holds = refl; function = refl; labeled = refl }
plain_shape shape.IfStatement e = record { piece = refl; kind = refl; port = λ m. refl; declaration = refl; holds = refl; function = refl; labeled = refl }
plain_shape shape.WhileStatement e = record { piece = refl; kind = refl; port = λ m. refl; declaration = refl; holds = refl; function = refl; labeled = refl }
plain_shape shape.DoWhileStatement e = record { piece = refl; kind = refl; port = λ m. refl; declaration = refl; holds = refl; function = refl; labeled = refl }
plain_shape shape.ForStatement e = record { piece = refl; kind = refl; port = λ m. refl; declaration = refl; holds = refl; function = refl; labeled = refl }
plain_shape shape.ForInStatement e = record { piece = refl; kind = refl; port = λ m. refl; declaration = refl; holds = refl; function = refl; labeled = refl }
plain_shape shape.ForOfStatement e = record { piece = refl; kind = refl; port = λ m. refl; declaration = refl; holds = refl; function = refl; labeled = refl }
plain_shape shape.SwitchStatement e = record { piece = refl; kind = refl; port = λ m. refl; declaration = refl; holds = refl; function = refl; labeled = refl }
plain_shape shape.BlockStatement e = record { piece = refl; kind = refl; port = λ m. refl; declaration = refl; holds = refl; function = refl; labeled = refl }
plain_shape h e = absurd (cc e)

-- ---- what else is kept of one statement for another

pub record Core (n w : Tree) : Type 0 where
  pub kept : Kept n w
  pub scoped : (v : Use) (env : Environment) → Scoped v env n → Scoped v env w
  pub numbers : (k : ℕ) → count_of k (numbers w) ≤ count_of k (numbers n)
  pub once : (q : Path) → early_names q n ≡ [] → early_names q w ≡ []
  pub targets : (a : Targets) (q : Path) → early_jumps a q n ≡ [] → early_jumps a q w ≡ []
  pub loop : is_loop_shape (shape_of w) ≡ is_loop_shape (shape_of n)
  pub bodies : (a : Around) → BodiesKept (bodies a n) (bodies a w)
  pub frames : FramesKept (frames None n) (frames None w)

-- each name of the later list is one of the earlier
abbrev pub Among : List Name → List Name → Type 0
Among xs ys = (z : Name) → Contains ys z → Contains xs z

-- and wherever it stands
pub record Said (n w : Tree) : Type 0 where
  pub fixed : (z : Variable) → fixed_by n z ≡ fixed_by w z
  pub declared : Among (declared_names n) (declared_names w)

pub as_its_names : (b : Bool) (t : Tree) → is_plain (shape_of t) ≡ true → as_body b t ≡ own_declarations (not (b && false)) [] (names_of declared.Lexical t) ++ own_declarations false [] (names_of declared.Hoisted t)
as_its_names b (node h xs n ts) e =
    ap (λ c. if c then all_as_body b ts else as_statement b (node h xs n ts)) (plain_shape h e).holds
    ∙ ap (λ c. own_declarations (not (b && c)) [] (names_of declared.Lexical (node h xs n ts)) ++ own_declarations false [] (names_of declared.Hoisted (node h xs n ts))) (plain_shape h e).function

loop_is : (t : Tree) → is_plain (shape_of t) ≡ true → is_loop t ≡ is_loop_shape (shape_of t)
unfolding is_loop
loop_is (node h xs n ts) e = ap (λ b. if b then last_is_loop ts else is_loop_shape h) (plain_shape h e).labeled

-- but for what is known of inner expressions
pub record LooseCore (n w : Tree) : Type 0 where
  pub names : (d : Declared) → names_of d w ≡ names_of d n
  pub body : body_names w ≡ body_names n
  pub inner : InnerKept n w
  pub symbols : (v : Use) (x : Option SymbolId) → times x (declared_in v w) ≤ times x (declared_in v n)
  pub scoped : (v : Use) (env : Environment) → Scoped v env n → Scoped v env w
  pub numbers : (k : ℕ) → count_of k (numbers w) ≤ count_of k (numbers n)
  pub once : (q : Path) → early_names q n ≡ [] → early_names q w ≡ []
  pub targets : (a : Targets) (q : Path) → early_jumps a q n ≡ [] → early_jumps a q w ≡ []
  pub loop : is_loop_shape (shape_of w) ≡ is_loop_shape (shape_of n)
  pub bodies : (a : Around) → BodiesKept (bodies a n) (bodies a w)
  pub frames : FramesKept (frames None n) (frames None w)

pub core_loosely : (n w : Tree) → Core n w → LooseCore n w
core_loosely n w c = record {
  names = c.kept.names;
  body = c.kept.body;
  inner = inl c.kept.inner;
  symbols = c.kept.symbols;
  scoped = c.scoped;
  numbers = c.numbers;
  once = c.once;
  targets = c.targets;
  loop = c.loop;
  bodies = c.bodies;
  frames = c.frames;
}

pub core_kept_by : (F : Position → Tree → Tree → Type 0) (q : StmtSeat) (n w : Tree) → is_plain (shape_of n) ≡ true → is_plain (shape_of w) ≡ true → ((strict : Bool) (s : Slot) → fits strict s n ≡ true → LooseCore n w) → F (Stmt q) n w → Among (declared_names n) (declared_names w) → KeptBy F (Stmt q) n w
core_kept_by F q n w e f core fixed said = record {
  keeps = λ strict s p fit. let c = core strict s fit in record {
    bound = c.names declared.Bound;
    lexical = c.names declared.Lexical;
    hoisted = λ x. ap (λ xs. is_among xs x) (c.names declared.Hoisted);
    body = λ v env st r s. ap (first_symbol s) c.body;
    inner = c.inner;
    scoped = λ v env st r. c.scoped v env r;
    symbols = λ v env st r. c.symbols v;
    numbers = c.numbers;
    declared_as_body = λ b q. no_more_same (body_declarations b q n) (body_declarations b q w)
        (body_same b q q n w (as_its_names b w f ∙ (λ i. own_declarations (not (b && false)) [] (c.names declared.Lexical i) ++ own_declarations false [] (c.names declared.Hoisted i)) ∙ sym (as_its_names b n e)));
    once = c.once;
    targets = c.targets;
    loop = loop_is w f ∙ c.loop ∙ sym (loop_is n e);
    root = λ p. absurd (cc p);
    block = λ p b q. absurd (cc p);
  };
  piece = (plain_shape (shape_of n) e).piece;
  kind = λ strict s fit. (plain_shape (shape_of n) e).kind ∙ sym (plain_shape (shape_of w) f).kind;
  bodies = λ strict s p fit a st. (core strict s fit).bodies a;
  ports = λ strict d fit m. ((plain_shape (shape_of n) e).port m, (plain_shape (shape_of w) f).port m);
  listed = λ p. absurd (cc p);
  exported = λ strict fit. ((plain_shape (shape_of n) e).declaration, (plain_shape (shape_of w) f).declaration);
  frames = λ strict s p fit. (core strict s fit).frames;
  fixed = fixed;
  declared = said;
}

pub core_kept : (q : StmtSeat) (n w : Tree) → is_plain (shape_of n) ≡ true → is_plain (shape_of w) ≡ true → ((strict : Bool) (s : Slot) → fits strict s n ≡ true → Core n w) → Said n w → KeptAt (Stmt q) n w
core_kept q n w e f core said = core_kept_by SameFixed q n w e f (λ strict s fit. core_loosely n w (core strict s fit)) said.fixed said.declared

-- ---- one list in place of another, first or later

module _ (k : ℕ) where
  pub first_count : (xs ys zs : List ℕ) → count_of k ys ≤ count_of k xs → count_of k (ys ++ zs) ≤ count_of k (xs ++ zs)
  first_count xs ys zs h = omega (arith, h, both_counts k xs zs, both_counts k ys zs)

  pub later_count : (zs xs ys : List ℕ) → count_of k ys ≤ count_of k xs → count_of k (zs ++ ys) ≤ count_of k (zs ++ xs)
  later_count zs xs ys h = omega (arith, h, both_counts k zs xs, both_counts k zs ys)

pub first_empty : (xs ys zs : List Path) → (xs ≡ [] → ys ≡ []) → xs ++ zs ≡ [] → ys ++ zs ≡ []
first_empty xs ys zs h e = let (x, z) = empty_both xs zs e in both_empty ys zs (h x) z

pub later_empty : (zs xs ys : List Path) → (xs ≡ [] → ys ≡ []) → zs ++ xs ≡ [] → zs ++ ys ≡ []
later_empty zs xs ys h e = let (z, x) = empty_both zs xs e in both_empty zs ys z (h x)

pub first_among : (xs ys zs : List Name) → Among xs ys → Among (xs ++ zs) (ys ++ zs)
first_among xs ys zs h z c = by (Contains-append_cases ys zs z c)
  where
    by : Contains ys z ⊎ Contains zs z → Contains (xs ++ zs) z
    by (inl d) = Contains-append_left xs zs z (h z d)
    by (inr d) = Contains-append_right xs zs z d

pub later_among : (zs xs ys : List Name) → Among xs ys → Among (zs ++ xs) (zs ++ ys)
later_among zs xs ys h z c = by (Contains-append_cases zs ys z c)
  where
    by : Contains zs z ⊎ Contains ys z → Contains (zs ++ xs) z
    by (inl d) = Contains-append_left zs xs z d
    by (inr d) = Contains-append_right zs xs z (h z d)

pub second_among : (zs xs : List Name) → Among (zs ++ xs) xs
second_among zs xs z c = Contains-append_right zs xs z c

-- ---- around a branch or a body

module _ (x y : Tree) (i : Inside x y) where
  around_kept : (k : Surrounding) → Kept (around k x) (around k y)
  around_kept (Consequent a u) = below shape.IfStatement [] 0 (a ▸ (x ▸ (u ▸ none))) (a ▸ (y ▸ (u ▸ none))) (as_it_is a, (i.kept, (as_it_is u, tt)))
  around_kept (Alternate a s) = below shape.IfStatement [] 0 (a ▸ (s ▸ (x ▸ none))) (a ▸ (s ▸ (y ▸ none))) (as_it_is a, (as_it_is s, (i.kept, tt)))
  around_kept (WhileBody a) = below shape.WhileStatement [] 0 (a ▸ (x ▸ none)) (a ▸ (y ▸ none)) (as_it_is a, (i.kept, tt))
  around_kept (DoBody a) = below shape.DoWhileStatement [] 0 (x ▸ (a ▸ none)) (y ▸ (a ▸ none)) (i.kept, (as_it_is a, tt))
  around_kept (ForBody a b c) = below shape.ForStatement [] 0 (a ▸ (b ▸ (c ▸ (x ▸ none)))) (a ▸ (b ▸ (c ▸ (y ▸ none)))) (as_it_is a, (as_it_is b, (as_it_is c, (i.kept, tt))))
  around_kept (InBody a b) = below shape.ForInStatement [] 0 (a ▸ (b ▸ (x ▸ none))) (a ▸ (b ▸ (y ▸ none))) (as_it_is a, (as_it_is b, (i.kept, tt)))
  around_kept (OfBody a b) = below shape.ForOfStatement [] 0 (a ▸ (b ▸ (x ▸ none))) (a ▸ (b ▸ (y ▸ none))) (as_it_is a, (as_it_is b, (i.kept, tt)))

  around_scoped : (k : Surrounding) (v : Use) (env : Environment) → Scoped v env (around k x) → Scoped v env (around k y)
  unfolding Scoped scopes_by
  around_scoped (Consequent a u) v env r = (tt, (r.1.0, (i.scoped _ r.1.1.0, r.1.1.1)))
  around_scoped (Alternate a s) v env r = (tt, (r.1.0, (r.1.1.0, (i.scoped _ r.1.1.1.0, tt))))
  around_scoped (WhileBody a) v env r = (tt, (r.1.0, (i.scoped _ r.1.1.0, tt)))
  around_scoped (DoBody a) v env r = (tt, (i.scoped _ r.1.0, r.1.1))
  around_scoped (ForBody a b c) v env r = (tt, (r.1.0, (r.1.1.0, (r.1.1.1.0, (i.scoped _ r.1.1.1.1.0, tt)))))
  around_scoped (InBody a b) v env r = (tt, (r.1.0, (r.1.1.0, (i.scoped _ r.1.1.1.0, tt))))
  around_scoped (OfBody a b) v env r = (tt, (r.1.0, (r.1.1.0, (i.scoped _ r.1.1.1.0, tt))))

  around_numbers : (k : Surrounding) (m : ℕ) → count_of m (numbers (around k y)) ≤ count_of m (numbers (around k x))
  unfolding numbers
  around_numbers (Consequent a u) m = later_count m (numbers a) _ _ (first_count m (numbers x) (numbers y) (numbers u ++ []) (i.numbers m))
  around_numbers (Alternate a s) m = later_count m (numbers a) _ _ (later_count m (numbers s) _ _ (first_count m (numbers x) (numbers y) [] (i.numbers m)))
  around_numbers (WhileBody a) m = later_count m (numbers a) _ _ (first_count m (numbers x) (numbers y) [] (i.numbers m))
  around_numbers (DoBody a) m = first_count m (numbers x) (numbers y) (numbers a ++ []) (i.numbers m)
  around_numbers (ForBody a b c) m = later_count m (numbers a) _ _ (later_count m (numbers b) _ _ (later_count m (numbers c) _ _ (first_count m (numbers x) (numbers y) [] (i.numbers m))))
  around_numbers (InBody a b) m = later_count m (numbers a) _ _ (later_count m (numbers b) _ _ (first_count m (numbers x) (numbers y) [] (i.numbers m)))
  around_numbers (OfBody a b) m = later_count m (numbers a) _ _ (later_count m (numbers b) _ _ (first_count m (numbers x) (numbers y) [] (i.numbers m)))

  -- the names of a loop's head, and the `var`s of its body
  head_free : (p : Path) (ds : List Declaration) → clashing [] (ds ++ declarations declared.Hoisted false p x) ≡ [] → clashing [] (ds ++ declarations declared.Hoisted false p y) ≡ []
  head_free p ds e = free_same (ds ++ declarations declared.Hoisted false p x) (ds ++ declarations declared.Hoisted false p y) (unplaced_both ds (declarations declared.Hoisted false p y) ∙ ap (λ r. unplaced ds ++ r) (declared_same declared.Hoisted false p p x y (i.kept.names declared.Hoisted)) ∙ sym (unplaced_both ds (declarations declared.Hoisted false p x))) e

  once_at : (p : Path) → early_names p x ++ [] ≡ [] → early_names p y ++ [] ≡ []
  once_at p e = first_empty (early_names p x) (early_names p y) [] (i.once p) e

  around_once : (k : Surrounding) (q : Path) → early_names q (around k x) ≡ [] → early_names q (around k y) ≡ []
  unfolding early_names scope_declarations
  around_once (Consequent a u) q e = later_empty (early_names (q ++ 0 ∷ []) a) _ _ (first_empty (early_names (q ++ 1 ∷ []) x) (early_names (q ++ 1 ∷ []) y) (early_names (q ++ 2 ∷ []) u ++ []) (i.once (q ++ 1 ∷ []))) e
  around_once (Alternate a s) q e = later_empty (early_names (q ++ 0 ∷ []) a) _ _ (later_empty (early_names (q ++ 1 ∷ []) s) _ _ (once_at (q ++ 2 ∷ []))) e
  around_once (WhileBody a) q e = later_empty (early_names (q ++ 0 ∷ []) a) _ _ (once_at (q ++ 1 ∷ [])) e
  around_once (DoBody a) q e = first_empty (early_names (q ++ 0 ∷ []) x) (early_names (q ++ 0 ∷ []) y) (early_names (q ++ 1 ∷ []) a ++ []) (i.once (q ++ 0 ∷ [])) e
  around_once (ForBody a b c) q e =
      let ds : List Declaration = declarations declared.Lexical true (q ++ 0 ∷ []) a in
      let (own, rest) = empty_both (clashing [] (ds ++ declarations declared.Hoisted false (q ++ 3 ∷ []) x)) (early_names (q ++ 0 ∷ []) a ++ (early_names (q ++ 1 ∷ []) b ++ (early_names (q ++ 2 ∷ []) c ++ (early_names (q ++ 3 ∷ []) x ++ [])))) e in
      both_empty (clashing [] (ds ++ declarations declared.Hoisted false (q ++ 3 ∷ []) y)) _ (head_free (q ++ 3 ∷ []) ds own) (later_empty (early_names (q ++ 0 ∷ []) a) _ _ (later_empty (early_names (q ++ 1 ∷ []) b) _ _ (later_empty (early_names (q ++ 2 ∷ []) c) _ _ (once_at (q ++ 3 ∷ [])))) rest)
  around_once (InBody a b) q e =
      let ds : List Declaration = declarations declared.Lexical true (q ++ 0 ∷ []) a in
      let (own, rest) = empty_both (clashing [] (ds ++ declarations declared.Hoisted false (q ++ 2 ∷ []) x)) (early_names (q ++ 0 ∷ []) a ++ (early_names (q ++ 1 ∷ []) b ++ (early_names (q ++ 2 ∷ []) x ++ []))) e in
      both_empty (clashing [] (ds ++ declarations declared.Hoisted false (q ++ 2 ∷ []) y)) _ (head_free (q ++ 2 ∷ []) ds own) (later_empty (early_names (q ++ 0 ∷ []) a) _ _ (later_empty (early_names (q ++ 1 ∷ []) b) _ _ (once_at (q ++ 2 ∷ []))) rest)
  around_once (OfBody a b) q e =
      let ds : List Declaration = declarations declared.Lexical true (q ++ 0 ∷ []) a in
      let (own, rest) = empty_both (clashing [] (ds ++ declarations declared.Hoisted false (q ++ 2 ∷ []) x)) (early_names (q ++ 0 ∷ []) a ++ (early_names (q ++ 1 ∷ []) b ++ (early_names (q ++ 2 ∷ []) x ++ []))) e in
      both_empty (clashing [] (ds ++ declarations declared.Hoisted false (q ++ 2 ∷ []) y)) _ (head_free (q ++ 2 ∷ []) ds own) (later_empty (early_names (q ++ 0 ∷ []) a) _ _ (later_empty (early_names (q ++ 1 ∷ []) b) _ _ (once_at (q ++ 2 ∷ []))) rest)

  abbrev looped : Targets → Targets
  looped a = record a { breaks = true; continues = true }

  aimed_at : (g : Targets) (p : Path) → early_jumps g p x ++ [] ≡ [] → early_jumps g p y ++ [] ≡ []
  aimed_at g p e = first_empty (early_jumps g p x) (early_jumps g p y) [] (i.targets g p) e

  around_targets : (k : Surrounding) (g : Targets) (q : Path) → early_jumps g q (around k x) ≡ [] → early_jumps g q (around k y) ≡ []
  unfolding early_jumps targets_of
  around_targets (Consequent a u) g q e = later_empty (early_jumps g (q ++ 0 ∷ []) a) _ _ (first_empty (early_jumps g (q ++ 1 ∷ []) x) (early_jumps g (q ++ 1 ∷ []) y) (early_jumps g (q ++ 2 ∷ []) u ++ []) (i.targets g (q ++ 1 ∷ []))) e
  around_targets (Alternate a s) g q e = later_empty (early_jumps g (q ++ 0 ∷ []) a) _ _ (later_empty (early_jumps g (q ++ 1 ∷ []) s) _ _ (aimed_at g (q ++ 2 ∷ []))) e
  around_targets (WhileBody a) g q e = later_empty (early_jumps g (q ++ 0 ∷ []) a) _ _ (aimed_at (looped g) (q ++ 1 ∷ [])) e
  around_targets (DoBody a) g q e = first_empty (early_jumps (looped g) (q ++ 0 ∷ []) x) (early_jumps (looped g) (q ++ 0 ∷ []) y) (early_jumps g (q ++ 1 ∷ []) a ++ []) (i.targets (looped g) (q ++ 0 ∷ [])) e
  around_targets (ForBody a b c) g q e = later_empty (early_jumps g (q ++ 0 ∷ []) a) _ _ (later_empty (early_jumps g (q ++ 1 ∷ []) b) _ _ (later_empty (early_jumps g (q ++ 2 ∷ []) c) _ _ (aimed_at (looped g) (q ++ 3 ∷ [])))) e
  around_targets (InBody a b) g q e = later_empty (early_jumps g (q ++ 0 ∷ []) a) _ _ (later_empty (early_jumps g (q ++ 1 ∷ []) b) _ _ (aimed_at (looped g) (q ++ 2 ∷ []))) e
  around_targets (OfBody a b) g q e = later_empty (early_jumps g (q ++ 0 ∷ []) a) _ _ (later_empty (early_jumps g (q ++ 1 ∷ []) b) _ _ (aimed_at (looped g) (q ++ 2 ∷ []))) e

  around_loop : (k : Surrounding) → is_loop_shape (shape_of (around k y)) ≡ is_loop_shape (shape_of (around k x))
  around_loop (Consequent a u) = refl
  around_loop (Alternate a s) = refl
  around_loop (WhileBody a) = refl
  around_loop (DoBody a) = refl
  around_loop (ForBody a b c) = refl
  around_loop (InBody a b) = refl
  around_loop (OfBody a b) = refl

  body_at : (a : Around) → BodiesKept (bodies (quiet a) x ++ []) (bodies (quiet a) y ++ [])
  body_at a = each_body (bodies (quiet a) x) [] (bodies (quiet a) y) [] (i.bodies a) tt

  around_bodies : (k : Surrounding) (a : Around) → BodiesKept (bodies a (around k x)) (bodies a (around k y))
  around_bodies (Consequent t u) a = each_body (bodies (quiet a) t) _ (bodies (quiet a) t) _ (kept_itself (bodies (quiet a) t)) (each_body (bodies (quiet a) x) (bodies (quiet a) u ++ []) (bodies (quiet a) y) (bodies (quiet a) u ++ []) (i.bodies a) (kept_itself (bodies (quiet a) u ++ [])))
  around_bodies (Alternate t s) a = each_body (bodies (quiet a) t) _ (bodies (quiet a) t) _ (kept_itself (bodies (quiet a) t)) (each_body (bodies (quiet a) s) _ (bodies (quiet a) s) _ (kept_itself (bodies (quiet a) s)) (body_at a))
  around_bodies (WhileBody t) a = each_body (bodies (quiet a) t) _ (bodies (quiet a) t) _ (kept_itself (bodies (quiet a) t)) (body_at a)
  around_bodies (DoBody t) a = each_body (bodies (quiet a) x) (bodies (quiet a) t ++ []) (bodies (quiet a) y) (bodies (quiet a) t ++ []) (i.bodies a) (kept_itself (bodies (quiet a) t ++ []))
  around_bodies (ForBody t s r) a = each_body (bodies (quiet a) t) _ (bodies (quiet a) t) _ (kept_itself (bodies (quiet a) t)) (each_body (bodies (quiet a) s) _ (bodies (quiet a) s) _ (kept_itself (bodies (quiet a) s)) (each_body (bodies (quiet a) r) _ (bodies (quiet a) r) _ (kept_itself (bodies (quiet a) r)) (body_at a)))
  around_bodies (InBody t s) a = each_body (bodies (quiet a) t) _ (bodies (quiet a) t) _ (kept_itself (bodies (quiet a) t)) (each_body (bodies (quiet a) s) _ (bodies (quiet a) s) _ (kept_itself (bodies (quiet a) s)) (body_at a))
  around_bodies (OfBody t s) a = each_body (bodies (quiet a) t) _ (bodies (quiet a) t) _ (kept_itself (bodies (quiet a) t)) (each_body (bodies (quiet a) s) _ (bodies (quiet a) s) _ (kept_itself (bodies (quiet a) s)) (body_at a))

  frame_at : FramesKept (frames None x ++ []) (frames None y ++ [])
  frame_at = each_frame (frames None x) [] (frames None y) [] i.frames (λ f c. c)

  after : (t : Tree) (fs gs : List Frame) → FramesKept fs gs → FramesKept (frames None t ++ fs) (frames None t ++ gs)
  after t fs gs k = each_frame (frames None t) fs (frames None t) gs (λ f c. c) k

  around_frames : (k : Surrounding) → FramesKept (frames None (around k x)) (frames None (around k y))
  around_frames (Consequent a u) = after a _ _ (each_frame (frames None x) (frames None u ++ []) (frames None y) (frames None u ++ []) i.frames (λ f c. c))
  around_frames (Alternate a s) = after a _ _ (after s _ _ frame_at)
  around_frames (WhileBody a) = after a _ _ frame_at
  around_frames (DoBody a) = each_frame (frames None x) (frames None a ++ []) (frames None y) (frames None a ++ []) i.frames (λ f c. c)
  around_frames (ForBody a b c) = after a _ _ (after b _ _ (after c _ _ frame_at))
  around_frames (InBody a b) = after a _ _ (after b _ _ frame_at)
  around_frames (OfBody a b) = after a _ _ (after b _ _ frame_at)

  pub around_core : (k : Surrounding) → Core (around k x) (around k y)
  around_core k = record { kept = around_kept k; scoped = around_scoped k; numbers = around_numbers k; once = around_once k; targets = around_targets k; loop = around_loop k; bodies = around_bodies k; frames = around_frames k }

module _ (x y : Tree) (i : Said x y) where
  around_fixed : (k : Surrounding) (z : Variable) → fixed_by (around k x) z ≡ fixed_by (around k y) z
  around_fixed (Consequent a u) z = ap (λ f. stricter (choose (is_in z (summary a).lets) Writable Writable) (stricter (fixed_by a z) (stricter f (stricter (fixed_by u z) Writable)))) (i.fixed z)
  around_fixed (Alternate a s) z = ap (λ f. stricter (choose (is_in z (summary a).lets) Writable Writable) (stricter (fixed_by a z) (stricter (fixed_by s z) (stricter f Writable)))) (i.fixed z)
  around_fixed (WhileBody a) z = ap (λ f. stricter (choose (is_in z (summary a).lets) Writable Writable) (stricter (fixed_by a z) (stricter f Writable))) (i.fixed z)
  around_fixed (DoBody a) z =
      ap (λ g. stricter g (stricter (fixed_by x z) (stricter (fixed_by a z) Writable))) (no_choice (is_in z (summary x).lets) ∙ sym (no_choice (is_in z (summary y).lets)))
      ∙ ap (λ f. stricter (choose (is_in z (summary y).lets) Writable Writable) (stricter f (stricter (fixed_by a z) Writable))) (i.fixed z)
  around_fixed (ForBody a b c) z = ap (λ f. stricter (choose (is_in z (summary a).lets) Writable Writable) (stricter (fixed_by a z) (stricter (fixed_by b z) (stricter (fixed_by c z) (stricter f Writable))))) (i.fixed z)
  around_fixed (InBody a b) z = ap (λ f. stricter (choose (is_in z (summary a).lets) Writable Writable) (stricter (fixed_by a z) (stricter (fixed_by b z) (stricter f Writable)))) (i.fixed z)
  around_fixed (OfBody a b) z = ap (λ f. stricter (choose (is_in z (summary a).lets) Writable Writable) (stricter (fixed_by a z) (stricter (fixed_by b z) (stricter f Writable)))) (i.fixed z)

  around_declared : (k : Surrounding) → Among (declared_names (around k x)) (declared_names (around k y))
  around_declared (Consequent a u) = later_among (declared_names a) _ _ (first_among (declared_names x) (declared_names y) (declared_names u ++ []) i.declared)
  around_declared (Alternate a s) = later_among (declared_names a) _ _ (later_among (declared_names s) _ _ (first_among (declared_names x) (declared_names y) [] i.declared))
  around_declared (WhileBody a) = later_among (declared_names a) _ _ (first_among (declared_names x) (declared_names y) [] i.declared)
  around_declared (DoBody a) = first_among (declared_names x) (declared_names y) (declared_names a ++ []) i.declared
  around_declared (ForBody a b c) = later_among (declared_names a) _ _ (later_among (declared_names b) _ _ (later_among (declared_names c) _ _ (first_among (declared_names x) (declared_names y) [] i.declared)))
  around_declared (InBody a b) = later_among (declared_names a) _ _ (later_among (declared_names b) _ _ (first_among (declared_names x) (declared_names y) [] i.declared))
  around_declared (OfBody a b) = later_among (declared_names a) _ _ (later_among (declared_names b) _ _ (first_among (declared_names x) (declared_names y) [] i.declared))

  pub around_says : (k : Surrounding) → Said (around k x) (around k y)
  around_says k = record { fixed = around_fixed k; declared = around_declared k }

pub around_said : (x y : Tree) → Inside x y → (k : Surrounding) → Said (around k x) (around k y)
around_said x y i k = around_says x y (record { fixed = i.fixed; declared = i.declared }) k

pub around_plain : (k : Surrounding) (x : Tree) → is_plain (shape_of (around k x)) ≡ true
around_plain (Consequent a u) x = refl
around_plain (Alternate a s) x = refl
around_plain (WhileBody a) x = refl
around_plain (DoBody a) x = refl
around_plain (ForBody a b c) x = refl
around_plain (InBody a b) x = refl
around_plain (OfBody a b) x = refl

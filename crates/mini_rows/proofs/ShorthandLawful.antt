-- What the row on a key that is the name assigned to writes (53) means the same, weighs less and keeps all that a program has to keep: the
-- frame around it shows a shorthand as what it is short for.
use Rattle.std.specs.Prelude.{◌≡◌, ◌<◌, ◌⊎◌, ◌&&◌, refl, Bool, true, false, [], Contains, None}
use Rattle.std.proofs.Common.{ap, ◌∙◌, sym, subst, inl, inr, arith}
use Rattle.std.proofs.lemmas.Bool.{false≢true}
use Rattle.mini_model.specs.declared.name.Name.{Name}
use Rattle.mini_model.specs.declared.place.Position.{Position}
use Rattle.mini_model.specs.declared.place.Position.TheVariants.{Elsewhere}
use Rattle.mini_model.specs.declared.shape.Shape.TheVariants as shape
use Rattle.mini_model.specs.Tree.{Tree, none, ◌▸◌, shape_of}
use Rattle.mini_model.specs.Weight.{outline, weight}
use Rattle.mini_accept.specs.WellShaped.{Class, a_target_property, a_target_element, an_inner_key, Slot, one, one_or_absent, fits}
use Rattle.mini_laws.specs.declared.names.Declared.{Declared}
use Rattle.mini_laws.specs.declared.names.Declared.TheVariants as declaring
use Rattle.mini_laws.specs.declared.names.Targets.{Targets}
use Rattle.mini_laws.specs.declared.names.Use.{Use}
use Rattle.mini_laws.specs.DeclaredNames.{names_of, body_names, has_inner}
use Rattle.mini_laws.specs.Early.{Path, declarations, body_declarations, in_body, children_of_node, scope_declarations, early_names, targets_of, early_jumps, is_loop}
use Rattle.mini_laws.specs.Resolved.{Environment}
use Rattle.mini_laws.specs.Scoped.{Scoped}
use Rattle.mini_laws.specs.Scopes.{scopes_by}
use Rattle.mini_laws.specs.Symbols.{declared as declared_in, times}
use Rattle.mini_laws.specs.Value.{Variable, nothing}
use Rattle.mini_laws.specs.State as run
use Rattle.mini_laws.specs.State.{State}
use Rattle.mini_laws.specs.Demand.{Demand, Request}
use Rattle.mini_laws.specs.Naming.{summary}
use Rattle.mini_laws.specs.Step.{step, means, meaning}
use Rattle.mini_laws.specs.Rows.{SameAt}
use Rattle.mini_laws.specs.Rewritten.{MeansSame}
use Rattle.mini_laws.specs.Fixity.{fixed_by}
use Rattle.mini_laws.specs.Bodies.{Around, bodies, arrow_kind}
use Rattle.mini_laws.proofs.Rows.{equal_same}
use Rattle.mini_kept.specs.AlikeBodies.{BodiesKept}
use Rattle.mini_kept.specs.Carried.{numbers}
use Rattle.mini_kept.specs.Declaring.{declared}
use Rattle.mini_kept.specs.Frames.{part, is_declaration, is_port, frames, FramesKept}
use Rattle.mini_kept.specs.KeepsFrames.{is_keyed_slot, IsShownAlike}
use Rattle.mini_kept.specs.ShownFrames.{KeyGiven}
use Rattle.mini_kept.proofs.Expressions.{refused_here}
use Rattle.mini_kept.proofs.FrameSteps.{kept_are_shown}
use Rattle.mini_kept.proofs.ShownFrames.{shows_same}
use Rattle.mini_kept.specs.KeepsLoosely.{KeepsLoosely}
use Rattle.mini_kept.specs.KeepsNames.{count_of, unplaced}
use Rattle.mini_kept.specs.KeepsShapes.{AskedAlike}
use Rattle.mini_kept.specs.Lawful.{Lawful}
use Rattle.mini_kept.specs.Lifted.{is_piece, KeepsRoot}
use Rattle.mini_kept.specs.Placed.{fits_place, is_statement_list}
use Rattle.mini_kept.proofs.BodyLists.{kept_itself}
use Rattle.mini_kept.proofs.Fixed.{of_children}
use Rattle.mini_kept.proofs.FrameLists.{same_frames}
use Rattle.mini_kept.proofs.InOrder.{in_order}
use Rattle.mini_rows.specs.Spellings.{key}
use Rattle.mini_rows.specs.KeyHolders.{a_target, Assigned, alone, with_default, assigned_to, doubled, shortened, Row53}
use Rattle.mini_rows.proofs.HeldKeyShapes.{Refused, class_of_holder, refused_absent}
use Rattle.mini_rows.proofs.SpellAlike.{SameTree}
use Rattle.mini_rows.proofs.SpellKeyShapes.{is_itself}
use Rattle.mini_rows.proofs.SpellMeaning.{same_by}
use Rattle.mini_rows.proofs.SpellWeights.{falls_by}

-- ---- a property in full and its shorthand

module _ (x : Name) (a : Assigned) where
  abbrev n : Tree
  n = doubled x a

  abbrev w : Tree
  w = shortened x a

  -- no parent asks anything of it: the pattern is the world's
  does : (e : run.Environment) (q : Demand) (r : Request q) (z : State) → means e n q r z ≡ means e w q r z
  unfolding means meaning step
  does e q r z = refl

  read_alike : summary n ≡ summary w
  read_alike = refl

  falls : weight Elsewhere w < weight Elsewhere n
  falls = omega arith

  same_outline : outline n ≡ outline w
  same_outline = refl

  same_names : (d : Declared) → names_of d w ≡ names_of d n
  unfolding names_of
  same_names declaring.Bound = refl
  same_names declaring.Lexical = refl
  same_names declaring.Hoisted = refl

  same_body : body_names w ≡ body_names n
  unfolding names_of body_names
  same_body = refl

  same_inner : has_inner w ≡ has_inner n
  unfolding has_inner
  same_inner = refl

  same_symbols : (u : Use) → declared_in u n ≡ declared_in u w
  unfolding declared_in scopes_by
  same_symbols u = refl

  still_scoped : (u : Use) (env : Environment) → Scoped u env n → Scoped u env w
  unfolding Scoped scopes_by
  still_scoped u env s = (tt, ((tt, tt), s.1.1))

  same_numbers : numbers n ≡ numbers w
  unfolding numbers
  same_numbers = refl

  same_declarations : (b : Bool) (q : Path) → body_declarations b q w ≡ body_declarations b q n
  unfolding declarations body_declarations
  same_declarations b q = refl

  same_block : (b : Bool) (q : Path) → in_body b q (children_of_node w) 0 ≡ in_body b q (children_of_node n) 0
  unfolding declarations body_declarations
  same_block b q = refl

  same_once : (q : Path) → early_names q w ≡ early_names q n
  unfolding scope_declarations early_names
  same_once q = refl

  same_targets : (g : Targets) (q : Path) → early_jumps g q w ≡ early_jumps g q n
  unfolding targets_of early_jumps
  same_targets g q = refl

  no_loop_here : is_loop w ≡ is_loop n
  unfolding is_loop
  no_loop_here = refl

  names_kept : KeepsLoosely Elsewhere n w
  names_kept = in_order Elsewhere n w (record {
    kept = record {
      names = same_names;
      body = same_body;
      inner = same_inner;
      symbols = λ u y. omega (arith, ap (times y) (same_symbols u));
    };
    scoped = λ u env st s. still_scoped u env s;
    numbers = λ y. omega (arith, ap (count_of y) same_numbers);
    declared_as_body = λ b q. ap unplaced (same_declarations b q);
    once = λ q e. same_once q ∙ e;
    targets = λ g q e. same_targets g q ∙ e;
    loop = no_loop_here;
    root = λ e. refl;
    block = λ e b q. ap unplaced (same_block b q);
  })

  root_kept : KeepsRoot Elsewhere n w
  root_kept = record { place = refl; shape = refl; names = refl; number = refl; counted = refl; second = refl }

  frames_kept : FramesKept (frames None n) (frames None w)
  frames_kept = same_frames (frames None n) (frames None w) refl

  fixed_kept : (y : Variable) → fixed_by n y ≡ fixed_by w y
  fixed_kept y = of_children (shape.AssignmentTargetPropertyProperty false) [] 0 (key x.spelling ▸ assigned_to x a ▸ none) y refl ∙ sym (of_children shape.AssignmentTargetPropertyIdentifier [] 0 (key x.spelling ▸ assigned_to x a ▸ none) y refl)

  declared_kept : declared n ≡ declared w
  declared_kept = refl

  -- both are shown in full
  shown_same : part n ≡ part w
  shown_same = refl

-- a name and its default stand in the same code
same_bodies : (x : Name) (v : Assigned) (a : Around) → bodies a (doubled x v) ≡ bodies a (shortened x v)
same_bodies x alone a = refl
same_bodies x (with_default d) a = refl

bodies_kept : (x : Name) (v : Assigned) (a : Around) → BodiesKept (bodies a (doubled x v)) (bodies a (shortened x v))
bodies_kept x v a = subst (BodiesKept (bodies a (doubled x v))) (same_bodies x v a) (kept_itself (bodies a (doubled x v)))

-- ---- where it stands

Filled : Bool → Slot → Name → Assigned → Type 0
Filled strict t x v = fits strict t (doubled x v) ≡ true

-- the slot is one of properties, and the shorthand may stand there
record Stands (strict : Bool) (t : Slot) (x : Name) (v : Assigned) : Type 0 where
  slot : is_keyed_slot t ≡ true
  written : fits strict t (shortened x v) ≡ true

in_class : (strict : Bool) (x : Name) (v : Assigned) → fits strict (one a_target_property) (doubled x v) ≡ true → fits strict (one a_target_property) (shortened x v) ≡ true
in_class strict x alone e = ap (λ b. b && (fits strict (one (an_inner_key false)) (key x.spelling) && (fits strict (one a_target_element) (assigned_to x alone) && true))) (is_itself x.spelling) ∙ e
in_class strict x (with_default d) e = ap (λ b. b && (fits strict (one (an_inner_key false)) (key x.spelling) && (fits strict (one a_target_element) (assigned_to x (with_default d)) && true))) (is_itself x.spelling) ∙ e

in_one : (strict : Bool) (c : Class) (x : Name) (v : Assigned) → Filled strict (one c) x v → Stands strict (one c) x v
unfolding Refused Filled
in_one strict c x v e = by (class_of_holder strict c a_target)
  where
    by : (c ≡ a_target_property) ⊎ Refused strict c a_target → Stands strict (one c) x v
    by (inl q) = record { slot = ap (λ y. is_keyed_slot (one y)) q; written = subst (λ y. fits strict (one y) (shortened x v) ≡ true) (sym q) (in_class strict x v (subst (λ y. fits strict (one y) (doubled x v) ≡ true) q e)) }
    by (inr q) = absurd (refused_here strict (one c) (shape.AssignmentTargetPropertyProperty false) [] 0 (key x.spelling ▸ assigned_to x v ▸ none) q e)

in_absent : (strict : Bool) (c : Class) (x : Name) (v : Assigned) → Filled strict (one_or_absent c) x v → Stands strict (one_or_absent c) x v
unfolding Refused Filled
in_absent strict c x v e = by (class_of_holder strict c a_target)
  where
    by : (c ≡ a_target_property) ⊎ Refused strict c a_target → Stands strict (one_or_absent c) x v
    by (inl q) = record { slot = ap (λ y. is_keyed_slot (one_or_absent y)) q; written = subst (λ y. fits strict (one_or_absent y) (shortened x v) ≡ true) (sym q) (in_class strict x v (subst (λ y. fits strict (one_or_absent y) (doubled x v) ≡ true) q e)) }
    by (inr q) = absurd (refused_here strict (one_or_absent c) (shape.AssignmentTargetPropertyProperty false) [] 0 (key x.spelling ▸ assigned_to x v ▸ none) (refused_absent strict c a_target q) e)

stands : (strict : Bool) (t : Slot) (x : Name) (v : Assigned) → Filled strict t x v → Stands strict t x v
unfolding Filled
stands strict (one c) x v e = in_one strict c x v e
stands strict (one_or_absent c) x v e = in_absent strict c x v e
stands strict t x v e = absurd (refused_here strict t (shape.AssignmentTargetPropertyProperty false) [] 0 (key x.spelling ▸ assigned_to x v ▸ none) refl e)

-- ---- of the row

-- the row alone
abbrev pub ShorthandRow : Position → Tree → Tree → Type 0
ShorthandRow Elsewhere n w = Row53 n w
ShorthandRow _ n w = ⊥

-- from what it reads and writes
along : (n w : Tree) (r : Row53 n w) (P : Tree → Tree → Type 0) → ((x : Name) (v : Assigned) → P (doubled x v) (shortened x v)) → P n w
along n w r P f = subst (λ y. P y w) (sym r.shape) (subst (P (doubled r.name r.value)) (sym r.written) (f r.name r.value))

module _ (P : Position → Tree → Tree → Type 0) where
  -- at its place
  there : ((n w : Tree) → Row53 n w → P Elsewhere n w) → (p : Position) (n w : Tree) → ShorthandRow p n w → P p n w
  there f Elsewhere n w r = f n w r
  there f p n w r = absurd r

  at_place : ((x : Name) (v : Assigned) → P Elsewhere (doubled x v) (shortened x v)) → (p : Position) (n w : Tree) → ShorthandRow p n w → P p n w
  at_place f = there (λ n w r. along n w r (P Elsewhere) f)

row_same : (n w : Tree) → Row53 n w → SameTree n w
row_same n w r = same_by n w _ _ r.shape r.written (record { by = does r.name r.value; read = read_alike r.name r.value })

shorthand_same : MeansSame ShorthandRow
shorthand_same = record {
  same = there SameAt (λ n w r. let h = row_same n w r in equal_same Elsewhere n w (record { by = λ e q f r z. h.by e q r z }));
  reads = there (λ p n w. summary n ≡ summary w) (λ n w r. (row_same n w r).read);
}

pub shorthand_lighter : (p : Position) (n w : Tree) → ShorthandRow p n w → weight p w < weight p n
shorthand_lighter = there (λ p n w. weight p w < weight p n) (λ n w r. falls_by Elsewhere n w _ _ r.shape r.written (falls r.name r.value))

pub shorthand_outline_kept : (p : Position) (n w : Tree) → ShorthandRow p n w → outline n ≡ outline w
shorthand_outline_kept = at_place (λ p n w. outline n ≡ outline w) same_outline

row_stands : (x : Name) (v : Assigned) (strict : Bool) (t : Slot) → fits strict t (doubled x v) ≡ true → (fits strict t (shortened x v) ≡ true) × IsShownAlike t (doubled x v) (shortened x v)
unfolding Filled
row_stands x v strict t e =
    let s = stands strict t x v e in
    (s.written, (s.slot, λ a. shows_same (KeyGiven nothing (bodies a (doubled x v))) (part (doubled x v)) (part (shortened x v)) (shown_same x v)))

row_asked : (x : Name) (v : Assigned) → AskedAlike Elsewhere (doubled x v) (shortened x v)
row_asked x v = record {
  absent = λ e. absurd (false≢true e);
  body = λ e. absurd (false≢true e);
  optional = λ e. absurd (false≢true e);
  number = λ e f. refl;
  spelled = λ s e. absurd (cc e);
  plain = refl;
}

pub shorthand_lawful : Lawful ShorthandRow
shorthand_lawful = record {
  shapes = record {
    fitting = at_place (λ p n w. (strict : Bool) (s : Slot) → fits_place p s ≡ true → fits strict s n ≡ true → fits strict s w ≡ true) (λ x v strict s k e. (row_stands x v strict s e).0);
    asked = at_place AskedAlike row_asked;
  };
  bodies = record {
    means = shorthand_same;
    pieces = at_place (λ p n w. is_piece (shape_of n) ≡ false) (λ x v. refl);
    kind = at_place (λ p n w. (strict : Bool) (s : Slot) → fits strict s n ≡ true → arrow_kind (shape_of n) ≡ arrow_kind (shape_of w)) (λ x v strict s e. refl);
    bodies = λ p n w c strict s k e a st. at_place (λ p n w. (a : Around) → BodiesKept (bodies a n) (bodies a w)) bodies_kept p n w c a;
  };
  frames = record {
    names = record {
      places = λ p n w c. inr (at_place KeepsRoot root_kept p n w c);
      pieces = at_place (λ p n w. is_piece (shape_of n) ≡ false) (λ x v. refl);
      keeps = λ p n w c strict s k e. at_place KeepsLoosely names_kept p n w c;
    };
    slots = λ p n w c strict s k e. inr (at_place (λ p n w. fits strict s n ≡ true → IsShownAlike s n w) (λ x v e. (row_stands x v strict s e).1) p n w c e);
    ports = λ p n w c strict d e m. at_place (λ p n w. (is_port m (shape_of n) ≡ false) × (is_port m (shape_of w) ≡ false)) (λ x v. (refl, refl)) p n w c;
    listed = λ p n w e c. absurd (there (λ p n w. is_statement_list p ≡ true → ⊥) (λ n w r e. cc e) p n w c e);
    exported = λ p n w c strict e. at_place (λ p n w. (is_declaration (shape_of n) ≡ false) × (is_declaration (shape_of w) ≡ false)) (λ x v. (refl, refl)) p n w c;
    frames = λ p n w c strict s k e. kept_are_shown n w (at_place (λ p n w. FramesKept (frames None n) (frames None w)) frames_kept p n w c);
  };
  fixed = at_place (λ p n w. (x : Variable) → fixed_by n x ≡ fixed_by w x) fixed_kept;
  declared = λ p n w c x k. subst (λ xs. Contains xs x) (sym (at_place (λ p n w. declared n ≡ declared w) declared_kept p n w c)) k;
}

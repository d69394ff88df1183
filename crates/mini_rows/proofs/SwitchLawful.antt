-- What the rows of names that nothing mentions write of a switch is loosely lawful.
use Rattle.std.specs.Prelude.{ℕ, ◌≡◌, ◌⊎◌, refl, ◌&&◌, ◌||◌, Bool, true, false, [], Contains, Option, None}
use Rattle.std.proofs.Common.{ap, ◌∙◌, sym, subst, inl, inr, true≢false}
use Rattle.std.proofs.lemmas.Bool.{and_parts}
use Rattle.mini_model.specs.declared.name.Name.{Name}
use Rattle.mini_model.specs.declared.place.Position.{Position}
use Rattle.mini_model.specs.declared.place.Position.TheVariants.{Stmt}
use Rattle.mini_model.specs.declared.seat.StmtSeat.{StmtSeat}
use Rattle.mini_model.specs.declared.shape.Shape.{Shape}
use Rattle.mini_model.specs.declared.shape.Shape.TheVariants as shape
use Rattle.mini_model.specs.Tree.{Tree, Trees, node, none, ◌▸◌, absent, listed, shape_of}
use Rattle.mini_model.specs.Paths.{append}
use Rattle.mini_accept.specs.WellShaped.{Depth, in_module, in_body, nested, Class, a_statement, a_case, a_key, a_private_or_key, an_inner_key, a_default_export, an_expression, Slot, one, one_or_absent, many, each, filling, filling_by, fits, fill}
use Rattle.mini_laws.specs.declared.names.Declared.TheVariants.{Lexical}
use Rattle.mini_laws.specs.Value.{Declared, VariableSet, nothing}
use Rattle.mini_laws.specs.State.{Environment}
use Rattle.mini_laws.specs.Demand.{Tail, Stat}
use Rattle.mini_laws.specs.Naming.{summary}
use Rattle.mini_laws.specs.Same.{Same}
use Rattle.mini_laws.specs.Substitution.{alone}
use Rattle.mini_laws.specs.Bodies.{arrow_kind}
use Rattle.mini_kept.specs.Declaring.{declared}
use Rattle.mini_kept.specs.Frames.{frames}
use Rattle.mini_kept.specs.KeepsFrames.{is_in_body, is_body_slot, IsShownAlike, NoPort, NoDeclaration, KeepsFunction, KeepsHolder}
use Rattle.mini_kept.specs.KeepsLoosely.{KeepsLoosely}
use Rattle.mini_kept.specs.KeepsNames.{is_rewritten_place}
use Rattle.mini_kept.specs.KeepsShapes.{AskedAlike}
use Rattle.mini_kept.specs.Lifted.{is_piece, KeepsRoot}
use Rattle.mini_kept.specs.Loosely.{Stays, Drops, LawfulLoosely}
use Rattle.mini_kept.specs.Placed.{fits_place, is_statement_list}
use Rattle.mini_kept.specs.ShownFrames.{no_key, gone_from}
use Rattle.mini_kept.specs.Without.{Unseen}
use Rattle.mini_kept.proofs.Bools.{left, both}
use Rattle.mini_kept.proofs.Expressions.{refused_here}
use Rattle.mini_kept.proofs.InOrder.{in_order}
use Rattle.mini_kept.proofs.ShownFrames.{kept_shown}
use Rattle.mini_kept.proofs.WithoutLists.{from_kept}
use Rattle.mini_rows.specs.Cases.{switch_case}
use Rattle.mini_rows.specs.Lists.{switch}
use Rattle.mini_rows.specs.Unused.{resolved, names, any_names, switch_around, SwitchRow}
use Rattle.mini_rows.specs.Switches.{Switches, without_vars}
use Rattle.mini_rows.proofs.ArrowBodyLawful.{list_fits}
use Rattle.mini_rows.proofs.ListShapes.{append_fits, both_fit, first_fits, more_fit}
use Rattle.mini_rows.proofs.SwitchKept.{case_leaves, case_names, switch_less, switch_kept, switch_keeps, switch_fixed, switch_frames, switch_bodies, switch_declares}
use Rattle.mini_rows.proofs.UnusedKept.{LeavesThere, NamesThere}
use Rattle.mini_rows.proofs.UnusedLawful.{Dropped, in_tails, gone}
use Rattle.mini_rows.proofs.UnusedMeaning.{switch_same}
use Rattle.mini_rows.proofs.UnusedNames.{or_parts, all_unmentioned, all_other, avoided, all_avoided}
use Rattle.mini_rows.proofs.UnusedStretches.{item_in, Stretch, row_stretch, row_names}

-- ---- what else stands in the switch doesn't mention it

parts_free : (x : Name) (ts us : Trees) → any_names x (append ts us) ≡ false → (any_names x ts ≡ false) × (any_names x us ≡ false)
parts_free x none us f = (refl, f)
parts_free x (t ▸ ts) us f =
    let (its, rest) = or_parts (names x t) (any_names x (append ts us)) f in
    let (a, b) = parts_free x ts us rest in
    (ap (λ c. c || any_names x ts) its ∙ a, b)

pub record Around (x : Name) (discriminant : Tree) (first : Trees) (test : Tree) (last : Trees) : Type 0 where
  pub asked : names x discriminant ≡ false
  pub earlier : any_names x first ≡ false
  pub tested : names x test ≡ false
  pub later : any_names x last ≡ false

pub around : (x : Name) (discriminant : Tree) (first : Trees) (test : Tree) (last : Trees) → names x (listed (switch_around discriminant first test last ▸ none)) ≡ false → Around x discriminant first test last
around x discriminant first test last f =
    let emptied = node shape.SwitchCase [] 0 (test ▸ (absent ▸ none)) in
    let (there, nil) = or_parts (names x (switch_around discriminant first test last)) false f in
    let (asked, cases) = or_parts (names x discriminant) (any_names x (append first (emptied ▸ last)) || false) there in
    let (all, nil_too) = or_parts (any_names x (append first (emptied ▸ last))) false cases in
    let (earlier, rest) = parts_free x first (emptied ▸ last) all in
    let (here, later) = or_parts (names x emptied) (any_names x last) rest in
    record { asked = asked; earlier = earlier; tested = (or_parts (names x test) (false || false) here).0; later = later }

-- ---- where it stands

module _ (discriminant : Tree) (first : Trees) (test : Tree) (last a b : Trees) (h : (strict : Bool) → fill strict (each (item_in nested)) a ≡ true → fill strict (each (item_in nested)) b ≡ true) where
  abbrev cases : Trees → Trees
  cases ts = append first (switch_case test ts ▸ last)

  abbrev over : Trees → Tree
  over ts = switch discriminant (listed (cases ts))

  case_fits : (strict : Bool) → fits strict (one a_case) (switch_case test a) ≡ true → fits strict (one a_case) (switch_case test b) ≡ true
  case_fits strict e =
      let (t, s) = and_parts (fits strict (one_or_absent an_expression) test) (fits strict (many (a_statement nested)) (listed a) && true) e in
      both (fits strict (one_or_absent an_expression) test) (fits strict (many (a_statement nested)) (listed b) && true) t (both (fill strict (each (item_in nested)) b) true (h strict (left (fill strict (each (item_in nested)) a) true s)) refl)

  cases_fit : (strict : Bool) → fill strict (each (one a_case)) (cases a) ≡ true → fill strict (each (one a_case)) (cases b) ≡ true
  cases_fit strict e =
      let (x, y) = both_fit strict (one a_case) first (switch_case test a ▸ last) e in
      let (z, v) = first_fits strict (one a_case) (switch_case test a) last y in
      append_fits strict (one a_case) first (switch_case test b ▸ last) x (more_fit strict (one a_case) (switch_case test b) last (case_fits strict z) v)

  abbrev Kept : Bool → Class → Type 0
  Kept strict c = fits strict (one c) (over a) ≡ true → (fits strict (one c) (over b) ≡ true) × (is_in_body c ≡ true)

  switch_fits : (strict : Bool) → (fits strict (one an_expression) discriminant && (fill strict (each (one a_case)) (cases a) && true)) ≡ true → (fits strict (one an_expression) discriminant && (fill strict (each (one a_case)) (cases b) && true)) ≡ true
  switch_fits strict e =
      let (t, s) = and_parts (fits strict (one an_expression) discriminant) (fill strict (each (one a_case)) (cases a) && true) e in
      both (fits strict (one an_expression) discriminant) (fill strict (each (one a_case)) (cases b) && true) t (both (fill strict (each (one a_case)) (cases b)) true (cases_fit strict (left (fill strict (each (one a_case)) (cases a)) true s)) refl)

  refused : (strict : Bool) (s : Slot) → filling strict s shape.SwitchStatement ≡ filling_by None → fits strict s (over a) ≡ true → ⊥
  refused strict s f e = refused_here strict s shape.SwitchStatement [] 0 (discriminant ▸ (listed (cases a) ▸ none)) f e

  in_class : (strict : Bool) (c : Class) → Kept strict c
  in_class true (a_statement in_module) e = (switch_fits true e, refl)
  in_class true (a_statement in_body) e = (switch_fits true e, refl)
  in_class true (a_statement nested) e = (switch_fits true e, refl)
  in_class false (a_statement in_module) e = (switch_fits false e, refl)
  in_class false (a_statement in_body) e = (switch_fits false e, refl)
  in_class false (a_statement nested) e = (switch_fits false e, refl)
  in_class strict (a_key true) e = absurd (refused strict (one (a_key true)) refl e)
  in_class strict (a_key false) e = absurd (refused strict (one (a_key false)) refl e)
  in_class strict (a_private_or_key true) e = absurd (refused strict (one (a_private_or_key true)) refl e)
  in_class strict (a_private_or_key false) e = absurd (refused strict (one (a_private_or_key false)) refl e)
  in_class strict (an_inner_key true) e = absurd (refused strict (one (an_inner_key true)) refl e)
  in_class strict (an_inner_key false) e = absurd (refused strict (one (an_inner_key false)) refl e)
  in_class strict c e = absurd (refused strict (one c) refl e)

  pub in_slot : (strict : Bool) (p : Position) (s : Slot) → fits strict s (over a) ≡ true → (fits strict s (over b) ≡ true) × (is_body_slot p s ≡ true)
  in_slot strict p (one c) e = in_class strict c e
  in_slot strict p (one_or_absent c) e = let (f, g) = in_class strict c e in (f, g)
  in_slot strict p s e = absurd (refused strict s refl e)

-- ---- a name that is dropped

module _ {options : Switches} (q : StmtSeat) (n w : Tree) (r : SwitchRow options n w) where
  abbrev front : Tree
  front = listed (switch_around r.discriminant r.first r.test r.last ▸ none)

  there : Stretch nothing front r.before r.after
  there = row_stretch (without_vars options) front r.before r.after refl r.row

  abbrev x : Name
  x = resolved there.spelling there.symbol

  abbrev k : ℕ
  k = there.symbol

  abbrev D : VariableSet
  D = alone (Declared k)

  unread : Around x r.discriminant r.first r.test r.last
  unread = around x r.discriminant r.first r.test r.last there.outside

  abbrev cases_of : Trees → Trees
  cases_of ts = append r.first (switch_case r.test ts ▸ r.last)

  abbrev first_list : Trees
  first_list = append there.before (append there.d there.after)

  abbrev second_list : Trees
  second_list = append there.before (append there.w there.after)

  abbrev this : Tree
  this = switch r.discriminant (listed (cases_of first_list))

  abbrev that : Tree
  that = switch r.discriminant (listed (cases_of second_list))

  leaves : LeavesThere x (switch_case r.test first_list ▸ none) (switch_case r.test second_list ▸ none)
  leaves = case_leaves x k refl r.test there.before there.after there.d there.w there.loses.leaves unread.tested there.earlier there.later

  names_there : NamesThere x (switch_case r.test first_list ▸ none) (switch_case r.test second_list ▸ none)
  unfolding there
  names_there =
      case_names x k refl r.test there.before there.after there.d there.w there.loses.leaves unread.tested there.earlier there.later (row_names options front r.before r.after refl r.row) (all_other x Lexical there.before there.earlier)
      (all_other x Lexical there.after there.later)

  same : (e : Environment) → Unseen D e → (t : Option Tail) → Same e D nothing (Stat t) this that
  same e u t =
      switch_same e there.spelling k u there.before there.after there.d there.w there.loses.read (all_avoided x k refl there.before there.earlier) there.loses.avoids (all_avoided x k refl there.after there.later)
      (there.loses.same e (record { unseen = u; writable = λ y f. absurd (true≢false (sym f)) })) r.discriminant (avoided x k refl r.discriminant unread.asked) r.first (all_avoided x k refl r.first unread.earlier) r.test (avoided x k refl r.test unread.tested) r.last (all_avoided x k refl r.last unread.later) t

  dropped : Dropped (Stmt q) k this that
  dropped =
      let o = all_other x Lexical r.first unread.earlier in
      let p = all_other x Lexical r.last unread.later in
      let m = gone (record { name = x; hoists = false }) r.first r.last (switch_case r.test second_list ▸ none) (all_unmentioned x k refl r.first unread.earlier) leaves.unmentioned (all_unmentioned x k refl r.last unread.later) in
      let d = switch_case r.test first_list ▸ none in
      let v = switch_case r.test second_list ▸ none in
      record {
        keeps = in_order (Stmt q) this that (switch_keeps x r.discriminant r.first r.last d v leaves names_there o p m q);
        drops = λ K. record {
          kept = switch_kept x r.discriminant r.first r.last d v leaves names_there o p;
          less = switch_less x r.discriminant r.first r.last d v leaves names_there o p k refl;
          same = λ e u. in_tails e q D this that (same e u.unseen);
          fixed = switch_fixed x r.discriminant r.first r.last d v leaves names_there o p;
          frames = λ strict c g f. kept_shown (gone_from K D) no_key (frames None this) (frames None that) (switch_frames x r.discriminant r.first r.last d v leaves names_there o p);
          bodies = λ strict c g f a z. from_kept D _ _ (switch_bodies x r.discriminant r.first r.last d v leaves names_there o p a);
        };
        declared_there = switch_declares x r.discriminant r.first r.last d v leaves names_there o p;
      }

  row_dropped : Dropped (Stmt q) k n w
  row_dropped =
      let over = λ (ts : Trees). switch r.discriminant (listed (cases_of ts)) in
      subst (λ t. Dropped (Stmt q) k t w) (sym (r.shape ∙ ap over there.read_is)) (subst (Dropped (Stmt q) k this) (sym (r.written ∙ ap over there.written_is)) dropped)

  in_place : (strict : Bool) (s : Slot) → fits strict s n ≡ true → (fits strict s w ≡ true) × (is_body_slot (Stmt q) s ≡ true)
  in_place strict s e =
      let (f, g) = in_slot r.discriminant r.first r.test r.last r.before r.after (list_fits front r.before r.after there nested) strict (Stmt q) s (sym (ap (fits strict s) r.shape) ∙ e) in
      (ap (fits strict s) r.written ∙ f, g)

-- ---- all

-- whatever is told by the shape
shaped : {o : Switches} (P : Tree → Tree → Type 0) → ((d cs es : Tree) → P (switch d cs) (switch d es)) → (n w : Tree) → SwitchRow o n w → P n w
shaped P f n w r =
    let cases = λ (ts : Trees). listed (append r.first (switch_case r.test ts ▸ r.last)) in
    subst (λ t. P t w) (sym r.shape) (subst (P (switch r.discriminant (cases r.before))) (sym r.written) (f r.discriminant (cases r.before) (cases r.after)))

-- of a statement
abbrev pub OfSwitch : Switches → Position → Tree → Tree → Type 0
OfSwitch o (Stmt q) n w = SwitchRow o n w
OfSwitch o p n w = ⊥

-- whichever place it is
at_statement : {o : Switches} (P : Position → Tree → Tree → Type 0) → ((q : StmtSeat) (n w : Tree) → SwitchRow o n w → P (Stmt q) n w) → (p : Position) (n w : Tree) → OfSwitch o p n w → P p n w
at_statement P f (Stmt q) n w c = f q n w c
at_statement P f p n w c = absurd c

pub switches_loose : (o : Switches) (K : Shape → Bool) → LawfulLoosely K (OfSwitch o)
switches_loose o K = record {
  shapes = record {
    fitting = at_statement (λ p n w. (strict : Bool) (s : Slot) → fits_place p s ≡ true → fits strict s n ≡ true → fits strict s w ≡ true) (λ q n w r strict s o e. (in_place q n w r strict s e).0);
    asked = at_statement AskedAlike (λ q. shaped (AskedAlike (Stmt q)) (λ d cs es. record { absent = λ g. absurd (true≢false (sym g)); body = λ g. absurd (true≢false (sym g)); optional = λ g. absurd (true≢false (sym g)); number = λ g h. refl; spelled = λ r g. absurd (cc g); plain = refl }));
  };
  places = record {
    names = record {
      places = at_statement (λ p n w. (is_rewritten_place p ≡ true) ⊎ KeepsRoot p n w) (λ q n w r. inl refl);
      pieces = at_statement (λ p n w. is_piece (shape_of n) ≡ false) (λ q. shaped (λ n w. is_piece (shape_of n) ≡ false) (λ d cs es. refl));
      keeps = at_statement (λ p n w. (strict : Bool) (s : Slot) → fits_place p s ≡ true → fits strict s n ≡ true → KeepsLoosely p n w) (λ q n w r strict s o e. (row_dropped q n w r).keeps);
    };
    slots = at_statement (λ p n w. (strict : Bool) (s : Slot) → fits_place p s ≡ true → fits strict s n ≡ true → ((is_body_slot p s ≡ true) ⊎ IsShownAlike s n w) ⊎ KeepsHolder n w) (λ q n w r strict s o e. inl (inl (in_place q n w r strict s e).1));
    ports = at_statement (λ p n w. (strict : Bool) (d : Depth) → fits strict (one (a_statement d)) n ≡ true → (m : Bool) → NoPort m n w ⊎ KeepsFunction n w) (λ q n w r strict d e m. inl (shaped (NoPort m) (λ d cs es. (refl, refl)) n w r));
    listed = λ p n w e c. absurd (at_statement (λ p n w. is_statement_list p ≡ true → ⊥) (λ q n w r e. cc e) p n w c e);
    exported = at_statement (λ p n w. (strict : Bool) → fits strict (one a_default_export) n ≡ true → NoDeclaration n w ⊎ KeepsFunction n w) (λ q n w r strict e. inl (shaped NoDeclaration (λ d cs es. (refl, refl)) n w r));
  };
  reads = at_statement (λ p n w. summary n ≡ summary w) (λ q. shaped (λ n w. summary n ≡ summary w) (λ d cs es. refl));
  kind = at_statement (λ p n w. (strict : Bool) (s : Slot) → fits strict s n ≡ true → arrow_kind (shape_of n) ≡ arrow_kind (shape_of w)) (λ q n w r strict s e. shaped (λ n w. arrow_kind (shape_of n) ≡ arrow_kind (shape_of w)) (λ d cs es. refl) n w r);
  declared = at_statement (λ p n w. (y : Name) → Contains (declared w) y → Contains (declared n) y) (λ q n w r. (row_dropped q n w r).declared_there);
  instances = at_statement (λ p n w. Stays p n w ⊎ ((k : ℕ) × Drops K k p n w)) (λ q n w r. inr ((there q n w r).symbol, (row_dropped q n w r).drops K));
}

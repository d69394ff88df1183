-- What the rows of names that nothing mentions write of the head of a `for` is loosely lawful.
use Rattle.std.specs.Prelude.{ℕ, ◌≡◌, ◌⊎◌, refl, ◌&&◌, Bool, true, false, List, [], Contains, Option, None, nat_le}
use Rattle.std.proofs.Common.{ap, ◌∙◌, sym, subst₂, inl, inr, true≢false, arith}
use Rattle.std.proofs.lemmas.Bool.{and_parts, le-leb}
use Rattle.mini_model.specs.declared.kind.VariableDeclarationKind.{VariableDeclarationKind}
use Rattle.mini_model.specs.declared.name.Name.{Name}
use Rattle.mini_model.specs.declared.place.Position.{Position}
use Rattle.mini_model.specs.declared.place.Position.TheVariants.{Stmt}
use Rattle.mini_model.specs.declared.seat.StmtSeat.{StmtSeat}
use Rattle.mini_model.specs.declared.shape.Shape.{Shape}
use Rattle.mini_model.specs.declared.shape.Shape.TheVariants as shape
use Rattle.mini_model.specs.Tree.{Tree, Trees, node, none, ◌▸◌, absent, shape_of, count, empty_statement}
use Rattle.mini_model.specs.Paths.{append}
use Rattle.mini_accept.specs.WellShaped.{Depth, in_module, in_body, nested, Class, a_statement, a_declarator, a_key, a_private_or_key, an_inner_key, a_default_export, an_init, an_expression, Slot, one, one_or_absent, each, filling, filling_by, fits, fill}
use Rattle.mini_laws.specs.Value.{Declared, VariableSet, nothing}
use Rattle.mini_laws.specs.State.{Environment}
use Rattle.mini_laws.specs.Demand.{Tail, Stat}
use Rattle.mini_laws.specs.Naming.{summary}
use Rattle.mini_laws.specs.DeclaredNames.{names_of, has_inner}
use Rattle.mini_laws.specs.Early.{early_names, scope_declarations, early_jumps, targets_of}
use Rattle.mini_laws.specs.Same.{Same}
use Rattle.mini_laws.specs.Scoped.{Scoped, Unmentioned}
use Rattle.mini_laws.specs.Scopes.{scopes_by}
use Rattle.mini_laws.specs.Step.{means}
use Rattle.mini_laws.specs.Symbols.{declared as declared_in}
use Rattle.mini_laws.specs.Substitution.{alone}
use Rattle.mini_laws.specs.Bodies.{arrow_kind}
use Rattle.mini_laws.proofs.Anywhere.{in_each_tail}
use Rattle.mini_laws.proofs.Congruent.{transitive}
use Rattle.mini_kept.specs.Carried.{numbers}
use Rattle.mini_kept.specs.Declaring.{declared}
use Rattle.mini_kept.specs.KeepsFrames.{is_in_body, is_body_slot, IsShownAlike, NoPort, NoDeclaration, KeepsFunction, KeepsHolder}
use Rattle.mini_kept.specs.KeepsLoosely.{KeepsLoosely}
use Rattle.mini_kept.specs.KeepsNames.{is_rewritten_place}
use Rattle.mini_kept.specs.KeepsShapes.{AskedAlike}
use Rattle.mini_kept.specs.Lifted.{is_piece, KeepsRoot}
use Rattle.mini_kept.specs.Loosely.{Stays, Drops, LawfulLoosely}
use Rattle.mini_kept.specs.Placed.{fits_place, is_statement_list}
use Rattle.mini_kept.specs.ShownFrames.{no_key, gone_from}
use Rattle.mini_kept.specs.Frames.{frames}
use Rattle.mini_kept.specs.Without.{Unseen}
use Rattle.mini_kept.proofs.Bools.{left, both}
use Rattle.mini_kept.proofs.Expressions.{refused_here}
use Rattle.mini_kept.proofs.InOrder.{in_order}
use Rattle.mini_kept.proofs.ShownFrames.{kept_shown}
use Rattle.mini_kept.proofs.WithoutLists.{from_kept}
use Rattle.mini_rows.proofs.Sunk.{value_passed}
use Rattle.mini_rows.specs.Declarations.{binding, declarator}
use Rattle.mini_rows.specs.Lists.{declaration, for_loop}
use Rattle.mini_rows.specs.Switches.{Switches}
use Rattle.mini_rows.specs.Unused.{resolved, declared_among, declared_left, head_left, names, any_names, is_first, put_first, ForRow, ForNextRow, ForHeadRow}
use Rattle.mini_rows.proofs.DeclaredKept.{idle_leaves, idle_names}
use Rattle.mini_rows.proofs.ForHeadKept.{for_less, for_kept, for_keeps, for_fixed, for_frames, for_bodies, for_declares}
use Rattle.mini_rows.proofs.ForHeadMeaning.{for_next_same}
use Rattle.mini_rows.proofs.ForHeads as heads
use Rattle.mini_rows.proofs.ListLoops.{for_none_is}
use Rattle.mini_rows.proofs.ListShapes.{init_declares, declaration_anywhere, append_fits, both_fit, first_fits}
use Rattle.mini_rows.proofs.NextKept.{next_leaves, next_names}
use Rattle.mini_rows.proofs.SingleFits.{MayStand}
use Rattle.mini_rows.proofs.UnusedKept.{LeavesThere, NamesThere}
use Rattle.mini_rows.proofs.UnusedLawful.{Dropped, in_tails, idle_vanishes, next_fits}
use Rattle.mini_rows.proofs.UnusedMeaning.{for_same, never_written, movable, lexical_alone}
use Rattle.mini_rows.proofs.UnusedNames.{or_parts, unmentioned, all_avoided}
use Rattle.mini_rows.proofs.Weaker.{weaker_goes}
use Rattle.mini_terms.specs.Reading.{is_plain_part}

-- ---- what is left of the declaration fits where it stood

-- what is so of nothing and of a declaration over others is so of what is left
left_by : (P : Trees → Tree → Type 0) (K : VariableDeclarationKind) → P none absent → ((t : Tree) (ts : Trees) → P (t ▸ ts) (declaration K (t ▸ ts))) → (ds : Trees) → P ds (head_left K ds)
left_by P K f g none = f
left_by P K f g (t ▸ ds) = g t ds

module _ (K : VariableDeclarationKind) (x : Name) (first : Trees) (init : Tree) (last : Trees) where
  abbrev before : Tree
  before = declared_among K x first init last

  abbrev after : Tree
  after = head_left K (append first last)

  pub head_fits : (strict : Bool) → fits strict (one_or_absent an_init) before ≡ true → fits strict (one_or_absent an_init) after ≡ true
  head_fits strict e =
      let ds = append first (declarator (binding x) init ▸ last) in
      let all = (and_parts (nat_le 1 (count ds)) (fill strict (each (one a_declarator)) ds && true) (sym (init_declares strict K ds) ∙ e)).1 in
      let (f, g) = both_fit strict (one a_declarator) first (declarator (binding x) init ▸ last) (left (fill strict (each (one a_declarator)) ds) true all) in
      let rest = append_fits strict (one a_declarator) first last f (first_fits strict (one a_declarator) (declarator (binding x) init) last g).1 in
      left_by (λ ds t. fill strict (each (one a_declarator)) ds ≡ true → fits strict (one_or_absent an_init) t ≡ true) K (λ h. refl) (λ t ts h. init_declares strict K (t ▸ ts) ∙ both (nat_le 1 (count (t ▸ ts))) (fill strict (each (one a_declarator)) (t ▸ ts) && true) (le-leb 1 (count (t ▸ ts)) (omega arith)) (both (fill strict (each (one a_declarator)) (t ▸ ts)) true h refl)) (append first last) rest

-- so what may begin a `for` in its place may stand there
module _ (d w test update body : Tree) (h : (strict : Bool) → fits strict (one_or_absent an_init) d ≡ true → fits strict (one_or_absent an_init) w ≡ true) where
  abbrev Rest : Bool → Bool
  Rest strict = fits strict (one_or_absent an_expression) test && (fits strict (one_or_absent an_expression) update && (fits strict (one (a_statement nested)) body && true))

  over : (strict : Bool) → (fits strict (one_or_absent an_init) d && Rest strict) ≡ true → (fits strict (one_or_absent an_init) w && Rest strict) ≡ true
  over strict e =
      let (f, r) = and_parts (fits strict (one_or_absent an_init) d) (Rest strict) e in
      both (fits strict (one_or_absent an_init) w) (Rest strict) (h strict f) r

  abbrev Kept : Bool → Class → Type 0
  Kept strict c = fits strict (one c) (for_loop d test update body) ≡ true → (fits strict (one c) (for_loop w test update body) ≡ true) × (is_in_body c ≡ true)

  refused : (strict : Bool) (s : Slot) → filling strict s shape.ForStatement ≡ filling_by None → fits strict s (for_loop d test update body) ≡ true → ⊥
  refused strict s f e = refused_here strict s shape.ForStatement [] 0 (d ▸ (test ▸ (update ▸ (body ▸ none)))) f e

  in_class : (strict : Bool) (c : Class) → Kept strict c
  in_class true (a_statement in_module) e = (over true e, refl)
  in_class true (a_statement in_body) e = (over true e, refl)
  in_class true (a_statement nested) e = (over true e, refl)
  in_class false (a_statement in_module) e = (over false e, refl)
  in_class false (a_statement in_body) e = (over false e, refl)
  in_class false (a_statement nested) e = (over false e, refl)
  in_class strict (a_key true) e = absurd (refused strict (one (a_key true)) refl e)
  in_class strict (a_key false) e = absurd (refused strict (one (a_key false)) refl e)
  in_class strict (a_private_or_key true) e = absurd (refused strict (one (a_private_or_key true)) refl e)
  in_class strict (a_private_or_key false) e = absurd (refused strict (one (a_private_or_key false)) refl e)
  in_class strict (an_inner_key true) e = absurd (refused strict (one (an_inner_key true)) refl e)
  in_class strict (an_inner_key false) e = absurd (refused strict (one (an_inner_key false)) refl e)
  in_class strict c e = absurd (refused strict (one c) refl e)

  pub in_slot : (strict : Bool) (p : Position) (s : Slot) → fits strict s (for_loop d test update body) ≡ true → (fits strict s (for_loop w test update body) ≡ true) × (is_body_slot p s ≡ true)
  in_slot strict p (one c) e = in_class strict c e
  in_slot strict p (one_or_absent c) e = let (f, g) = in_class strict c e in (f, g)
  in_slot strict p s e = absurd (refused strict s refl e)

-- ---- what is left of the declaration, and what is left of it as a statement

no_statement_leaves : (x : Name) (d : Trees) → LeavesThere x d (empty_statement ▸ none) → LeavesThere x d (absent ▸ none)
unfolding has_inner Scoped scopes_by Unmentioned declared_in numbers early_names scope_declarations early_jumps targets_of
no_statement_leaves x d l = record {
  inner = l.inner;
  inner_back = l.inner_back;
  scoped = l.scoped;
  unmentioned = l.unmentioned;
  symbols = l.symbols;
  numbered = l.numbered;
  once = l.once;
  targets = l.targets;
  framed = l.framed;
  bodied = l.bodied;
  fixed = l.fixed;
  fixed_back = l.fixed_back;
  declares = l.declares;
}

no_statement_names : (x : Name) (d : Trees) → NamesThere x d (empty_statement ▸ none) → NamesThere x d (absent ▸ none)
unfolding names_of
no_statement_names x d n = record { first = n.first; last = n.last; names = n.names; left = n.left; others_first = n.others_first; others_last = n.others_last; hoists = n.hoists; clash = n.clash }

pub left_leaves : (x : Name) (K : VariableDeclarationKind) (d : Tree) (ts : Trees) → LeavesThere x (d ▸ none) (declared_left K ts ▸ none) → LeavesThere x (d ▸ none) (head_left K ts ▸ none)
left_leaves x K d none l = no_statement_leaves x (d ▸ none) l
left_leaves x K d (t ▸ ts) l = l

pub left_names : (x : Name) (K : VariableDeclarationKind) (d : Tree) (ts : Trees) → NamesThere x (d ▸ none) (declared_left K ts ▸ none) → NamesThere x (d ▸ none) (head_left K ts ▸ none)
left_names x K d none n = no_statement_names x (d ▸ none) n
left_names x K d (t ▸ ts) n = n

-- a `for` with a declaration of no name means the same without it
pub left_same : (e : Environment) (D : VariableSet) (K : VariableDeclarationKind) (rest ds : Trees) (o : Option Tail) → Same e D nothing (Stat o) (node shape.ForStatement [] 0 (declaration K ds ▸ rest)) (node shape.ForStatement [] 0 (head_left K ds ▸ rest))
left_same e D K rest none o =
    let this = node shape.ForStatement [] 0 (declaration K none ▸ rest) in
    let that = node shape.ForStatement [] 0 (absent ▸ rest) in
    in_each_tail e D nothing this that (record { by = λ r s i. weaker_goes D (means e this (Stat None) r s) (means e that (Stat None) r s) (inr (for_none_is e K rest r s)) }) o
left_same e D K rest (d ▸ ds) o =
    let this = node shape.ForStatement [] 0 (declaration K (d ▸ ds) ▸ rest) in
    record { by = λ r s i. weaker_goes D (means e this (Stat o) r s) (means e this (Stat o) r s) (inr refl) }

-- where the next declarator reads a name
pub next_head_fits : (strict : Bool) (k : VariableDeclarationKind) (x : Name) (first : Trees) (init binds value : Tree) (last : Trees) → is_plain_part init ≡ true → is_first x false value ≡ true → MayStand x init value → fits strict (one_or_absent an_init) (declared_among k x first init (declarator binds value ▸ last)) ≡ true
    → fits strict (one_or_absent an_init) (declaration k (append first (declarator binds (put_first x init value) ▸ last))) ≡ true
next_head_fits strict k x first init binds value last m once p e =
    let these = append first (declarator (binding x) init ▸ (declarator binds value ▸ last)) in
    let those = append first (declarator binds (put_first x init value) ▸ last) in
    init_declares strict k those ∙ sym (declaration_anywhere strict nested k those) ∙ next_fits strict k x first init binds value last m once p (declaration_anywhere strict nested k these ∙ sym (init_declares strict k these) ∙ e)

-- ---- a name that is dropped

module _ (q : StmtSeat) (s : List ℕ) (k : ℕ) (d v test update body : Tree) (leaves : LeavesThere (resolved s k) (d ▸ none) (v ▸ none)) (names_there : NamesThere (resolved s k) (d ▸ none) (v ▸ none)) (unread : any_names (resolved s k) (test ▸ (update ▸ (body ▸ none))) ≡ false) where
  abbrev x : Name
  x = resolved s k

  abbrev D : VariableSet
  D = alone (Declared k)

  abbrev this : Tree
  this = for_loop d test update body

  abbrev that : Tree
  that = for_loop v test update body

  in_test : (names x test ≡ false) × (any_names x (update ▸ (body ▸ none)) ≡ false)
  in_test = or_parts (names x test) (any_names x (update ▸ (body ▸ none))) unread

  in_update : (names x update ≡ false) × (any_names x (body ▸ none) ≡ false)
  in_update = or_parts (names x update) (any_names x (body ▸ none)) in_test.1

  in_body_free : names x body ≡ false
  in_body_free = (or_parts (names x body) false in_update.1).0

  dropped : ((e : Environment) → Unseen D e → (t : Option Tail) → Same e D nothing (Stat t) this that) → Dropped (Stmt q) k this that
  dropped same =
      let a = unmentioned x k refl test in_test.0 in
      let b = unmentioned x k refl update in_update.0 in
      let c = unmentioned x k refl body in_body_free in
      record {
        keeps = in_order (Stmt q) this that (for_keeps x d v leaves names_there test update body a b c q);
        drops = λ K. record {
          kept = for_kept x d v leaves names_there test update body a b c;
          less = for_less x d v leaves names_there test update body k refl;
          same = λ e u. in_tails e q D this that (same e u.unseen);
          fixed = for_fixed x d v leaves names_there test update body;
          frames = λ strict s g f. kept_shown (gone_from K D) no_key (frames None this) (frames None that) (for_frames x d v leaves names_there test update body);
          bodies = λ strict s g f o z. from_kept D _ _ (for_bodies x d v leaves names_there test update body o);
        };
        declared_there = for_declares x d v leaves names_there test update body;
      }

-- what a row reads of a head, and what it leaves
record Head (q : StmtSeat) (n w : Tree) : Type 0 where
  before : Tree
  after : Tree
  test : Tree
  update : Tree
  body : Tree
  symbol : ℕ
  is : n ≡ for_loop before test update body
  now : w ≡ for_loop after test update body
  fitting : (strict : Bool) → fits strict (one_or_absent an_init) before ≡ true → fits strict (one_or_absent an_init) after ≡ true
  gone : Dropped (Stmt q) symbol (for_loop before test update body) (for_loop after test update body)

idle_head : (q : StmtSeat) (n w : Tree) → ForRow n w → Head q n w
idle_head q n w r =
    let x = resolved r.spelling r.symbol in
    let d = declared_among r.kind x r.first r.init r.last in
    let left = append r.first r.last in
    let rest : Trees = r.test ▸ (r.update ▸ (r.body ▸ none)) in
    let idle = idle_vanishes r.init r.idle in
    let first = all_avoided x r.symbol refl r.first r.declared_earlier in
    let last = all_avoided x r.symbol refl r.last r.declared_later in
    record {
      before = d;
      after = head_left r.kind left;
      test = r.test;
      update = r.update;
      body = r.body;
      symbol = r.symbol;
      is = r.shape;
      now = r.written;
      fitting = head_fits r.kind x r.first r.init r.last;
      gone = dropped q r.spelling r.symbol d (head_left r.kind left) r.test r.update r.body (left_leaves x r.kind d left (idle_leaves r.kind x r.symbol refl r.first r.init r.last idle r.declared_earlier r.declared_later))
          (left_names x r.kind d left (idle_names r.kind x r.symbol refl r.first r.init r.last idle r.declared_earlier r.declared_later r.lexical)) r.later
          (λ e u t.
          transitive e (alone (Declared r.symbol)) nothing (Stat t) (for_loop d r.test r.update r.body) (for_loop (declaration r.kind left) r.test r.update r.body) (for_loop (head_left r.kind left) r.test r.update r.body)
          (for_same e r.spelling r.symbol u r.kind (never_written r.kind e r.symbol r.lexical) r.first r.last r.init r.idle first last rest (all_avoided x r.symbol refl rest r.later) t)
          (left_same e (alone (Declared r.symbol)) r.kind rest left t));
    }

next_head : (o : Switches) (q : StmtSeat) (n w : Tree) → ForNextRow o n w → Head q n w
next_head o q n w r =
    let c = r.row in
    let x = heads.named o n w r in
    let d = heads.read o n w r in
    let v = heads.left o n w r in
    record {
      before = d;
      after = v;
      test = r.test;
      update = r.update;
      body = r.body;
      symbol = c.symbol;
      is = heads.is_read o n w r;
      now = heads.is_left o n w r;
      fitting = λ strict. next_head_fits strict c.kind x c.first c.init c.binds c.value c.last (movable o c.init c.moves) c.once (inr (value_passed (resolved c.spelling c.symbol) c.init c.value c.passed));
      gone = dropped q c.spelling c.symbol d v r.test r.update r.body (next_leaves c.kind x c.symbol refl c.first c.init c.binds c.value c.last c.once c.declared_earlier c.initial c.other c.declared_later (movable o c.init c.moves))
          (next_names c.kind x c.symbol refl c.first c.init c.binds c.value c.last c.once c.declared_earlier c.initial c.other c.declared_later (lexical_alone c.kind c.goes)) (heads.unread o n w r) (for_next_same o n w r);
    }

head : (o : Switches) (q : StmtSeat) (n w : Tree) → ForHeadRow o n w → Head q n w
head o q n w (inl r) = idle_head q n w r
head o q n w (inr r) = next_head o q n w r

-- whatever is told by the shape
shaped : (q : StmtSeat) (P : Tree → Tree → Type 0) → ((i j t u b : Tree) → P (for_loop i t u b) (for_loop j t u b)) → (n w : Tree) → Head q n w → P n w
shaped q P f n w h = subst₂ P (sym h.is) (sym h.now) (f h.before h.after h.test h.update h.body)

row_dropped : (q : StmtSeat) (n w : Tree) (h : Head q n w) → Dropped (Stmt q) h.symbol n w
row_dropped q n w h = subst₂ (Dropped (Stmt q) h.symbol) (sym h.is) (sym h.now) h.gone

in_place : (q : StmtSeat) (n w : Tree) → Head q n w → (strict : Bool) (s : Slot) → fits strict s n ≡ true → (fits strict s w ≡ true) × (is_body_slot (Stmt q) s ≡ true)
in_place q n w h strict s e =
    let (f, g) = in_slot h.before h.after h.test h.update h.body h.fitting strict (Stmt q) s (sym (ap (fits strict s) h.is) ∙ e) in
    (ap (fits strict s) h.now ∙ f, g)

-- ---- all

-- of a statement
abbrev pub OfFor : Switches → Position → Tree → Tree → Type 0
OfFor o (Stmt q) n w = ForHeadRow o n w
OfFor o p n w = ⊥

-- whichever place it is
at_statement : (o : Switches) (P : Position → Tree → Tree → Type 0) → ((q : StmtSeat) (n w : Tree) → Head q n w → P (Stmt q) n w) → (p : Position) (n w : Tree) → OfFor o p n w → P p n w
at_statement o P f (Stmt q) n w c = f q n w (head o q n w c)
at_statement o P f p n w c = absurd c

pub heads_loose : (o : Switches) (K : Shape → Bool) → LawfulLoosely K (OfFor o)
heads_loose o K = record {
  shapes = record {
    fitting = at_statement o (λ p n w. (strict : Bool) (s : Slot) → fits_place p s ≡ true → fits strict s n ≡ true → fits strict s w ≡ true) (λ q n w h strict s o e. (in_place q n w h strict s e).0);
    asked = at_statement o AskedAlike (λ q. shaped q (AskedAlike (Stmt q)) (λ i j t u b. record { absent = λ g. absurd (true≢false (sym g)); body = λ g. absurd (true≢false (sym g)); optional = λ g. absurd (true≢false (sym g)); number = λ g h. refl; spelled = λ r g. absurd (cc g); plain = refl }));
  };
  places = record {
    names = record {
      places = at_statement o (λ p n w. (is_rewritten_place p ≡ true) ⊎ KeepsRoot p n w) (λ q n w h. inl refl);
      pieces = at_statement o (λ p n w. is_piece (shape_of n) ≡ false) (λ q. shaped q (λ n w. is_piece (shape_of n) ≡ false) (λ i j t u b. refl));
      keeps = at_statement o (λ p n w. (strict : Bool) (s : Slot) → fits_place p s ≡ true → fits strict s n ≡ true → KeepsLoosely p n w) (λ q n w h strict s o e. (row_dropped q n w h).keeps);
    };
    slots = at_statement o (λ p n w. (strict : Bool) (s : Slot) → fits_place p s ≡ true → fits strict s n ≡ true → ((is_body_slot p s ≡ true) ⊎ IsShownAlike s n w) ⊎ KeepsHolder n w) (λ q n w h strict s o e. inl (inl (in_place q n w h strict s e).1));
    ports = at_statement o (λ p n w. (strict : Bool) (d : Depth) → fits strict (one (a_statement d)) n ≡ true → (m : Bool) → NoPort m n w ⊎ KeepsFunction n w) (λ q n w h strict d e m. inl (shaped q (NoPort m) (λ i j t u b. (refl, refl)) n w h));
    listed = λ p n w e c. absurd (at_statement o (λ p n w. is_statement_list p ≡ true → ⊥) (λ q n w h e. cc e) p n w c e);
    exported = at_statement o (λ p n w. (strict : Bool) → fits strict (one a_default_export) n ≡ true → NoDeclaration n w ⊎ KeepsFunction n w) (λ q n w h strict e. inl (shaped q NoDeclaration (λ i j t u b. (refl, refl)) n w h));
  };
  reads = at_statement o (λ p n w. summary n ≡ summary w) (λ q. shaped q (λ n w. summary n ≡ summary w) (λ i j t u b. refl));
  kind = at_statement o (λ p n w. (strict : Bool) (s : Slot) → fits strict s n ≡ true → arrow_kind (shape_of n) ≡ arrow_kind (shape_of w)) (λ q n w h strict s e. shaped q (λ n w. arrow_kind (shape_of n) ≡ arrow_kind (shape_of w)) (λ i j t u b. refl) n w h);
  declared = at_statement o (λ p n w. (y : Name) → Contains (declared w) y → Contains (declared n) y) (λ q n w h. (row_dropped q n w h).declared_there);
  instances = at_statement o (λ p n w. Stays p n w ⊎ ((k : ℕ) × Drops K k p n w)) (λ q n w h. inr (h.symbol, (row_dropped q n w h).drops K));
}

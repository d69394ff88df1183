-- What is written for a conditional that asks whether what a name is assigned is null or undefined, before it reads what the name holds: it
-- means the same where the name can be written, keeps all that a program has to keep, and is lighter.
use Rattle.std.proofs.Common.{◌≡◌, ◌+◌, ◌<◌, ◌≤◌, ℕ, suc, Bool, true, false, List, [], ◌∷◌, refl, sym, ap, subst, ◌∙◌, true≢false, arith}
use Rattle.std.specs.Prelude.{◌&&◌, ◌++◌, not}
use Rattle.std.proofs.lemmas.Bool.{and_parts}
use Rattle.std.proofs.lemmas.List.{append-nil}
use Rattle.mini_model.specs.declared.name.Name.{Name}
use Rattle.mini_model.specs.declared.operator.AssignmentOperator.TheVariants.{Assign}
use Rattle.mini_model.specs.declared.operator.BinaryOperator.TheVariants.{Equality, Inequality}
use Rattle.mini_model.specs.declared.place.Position.TheVariants.{Expr}
use Rattle.mini_model.specs.declared.seat.Seat.{Seat}
use Rattle.mini_model.specs.Tree.{Tree, none, ◌▸◌, identifier, null_literal}
use Rattle.mini_model.specs.Position.{branch_seat, callee_seat, object_seat}
use Rattle.mini_model.specs.Weight.{outline, weight}
use Rattle.mini_accept.specs.WellShaped.{a_link, a_chain, Slot, one, fits, has_optional, is_not_positive_number}
use Rattle.mini_laws.specs.Value.{Value, Undefined, Variable, VariableSet, Declared, Holds, choose, is_nullish, truth, nothing}
use Rattle.mini_laws.specs.State.{State, Stop, Halt, Short, Completion, ok, stop, halt, out, either, Environment, Writes}
use Rattle.mini_laws.specs.Demand.{Demand, Called, plain_call}
use Rattle.mini_laws.specs.Expressions.{is_eval}
use Rattle.mini_laws.specs.Fits.{Fits}
use Rattle.mini_laws.specs.Naming.{kind_of, summary}
use Rattle.mini_laws.specs.Same.{Same}
use Rattle.mini_kept.specs.KeepsFrames.{is_body_slot}
use Rattle.mini_kept.specs.KeepsShapes.{AskedAlike}
use Rattle.mini_kept.proofs.Bools.{both}
use Rattle.mini_kept.proofs.Expressions.{expression, TakesExpression, expression_taken, of_conditional}
use Rattle.mini_kept.proofs.FrameRows.{expression_slot}
use Rattle.mini_terms.specs.Exact.{by_value as behind_zero, kept_by_value}
use Rattle.mini_terms.specs.Reading.{is_item}
use Rattle.mini_terms.proofs.Dropping.{after_cong}
use Rattle.mini_terms.proofs.Frame.{gives_any}
use Rattle.mini_rows.specs.Arranged.{KeptAt}
use Rattle.mini_rows.specs.Chains.{is_calm, Link, a_member, a_computed, a_call, spine, is_calm_link, are_calm_links, chain}
use Rattle.mini_rows.specs.Choices.{assign}
use Rattle.mini_rows.specs.Sketches.{Binary, Null, Conditional, Sketch, part, under, end, ◌▹◌, Parts, filled, AsValue, AsTarget, Hole, Part, parts_of, has_each, staying, is_rearranged, stands_well, rearranges_expression}
use Rattle.mini_rows.specs.Spellings.{IsUndefined, binary}
use Rattle.mini_rows.specs.Unused.{resolved}
use Rattle.mini_rows.specs.Writes.{if_null, Row46AssignedChain}
use Rattle.mini_rows.proofs.ArrangedExpressions.{expressions_arranged_freely}
use Rattle.mini_rows.proofs.Arranging.{often_each}
use Rattle.mini_rows.proofs.ChainCalm.{Calm}
use Rattle.mini_rows.proofs.ChainHoles.{sketch_of, sketch, trees_of, lists_of, behind, themselves, Stand, filled_of, filled_sketch, holes, link_holes, sketch_holes, often_itself, skipped, often_more, apart_from, dropping, staying_each, staying_more, rearranged_as, stands_of, chained}
use Rattle.mini_rows.proofs.ChainLawful.{plain_name, link_fits, spine_ends, spine_optional, spine_moved}
use Rattle.mini_rows.proofs.ChainLinkMeaning.{base_called, plainly_called}
use Rattle.mini_rows.proofs.ChainGuards.{by_guard, kept_same, kept_read, kept_outline, kept_number, kept_fits, kept_light, behind_sketch, behind_rearranged}
use Rattle.mini_rows.proofs.ChainRuns.{called, next, value, linked_value, linked_called, chain_of, value_is, called_is, chain_value, chain_calm, chain_short, link_calm, value_calm, same_first, short_first, name_called, after_boolean, turned}
use Rattle.mini_rows.proofs.ChoiceLawful.{name_vanishes, undefined_vanishes, assigns_part}
use Rattle.mini_rows.proofs.ChoiceRuns.{assign_value, conditional_value, undefined_value}
use Rattle.mini_rows.proofs.ChoiceShapes.{of_two}
use Rattle.mini_rows.proofs.WriteMeaning.{equal_null, unequal_null, Wrote, wrote, by_writing, held_value, if_null_tells}

-- ---- links over what has this value, and is called so

module _ (e : Environment) where
  abbrev mutual
    over_value : Bool → Link → List Link → Completion Value → Completion Called → Completion Value
    over_value o l [] v f = linked_value e o l v f
    over_value o l (m ∷ ls) v f = linked_value e false l (over_value o m ls v f) (over_called o m ls v f)

    over_called : Bool → Link → List Link → Completion Value → Completion Called → Completion Called
    over_called o l [] v f = linked_called e o l v f
    over_called o l (m ∷ ls) v f = linked_called e false l (over_value o m ls v f) (over_called o m ls v f)

  spine_is : (o : Bool) (t : Tree) (s : State) (l : Link) (ls : List Link) → (value e (spine o t l ls) s ≡ over_value o l ls (value e t s) (called e t s)) × (called e (spine o t l ls) s ≡ over_called o l ls (value e t s) (called e t s))
  spine_is o t s l [] = (value_is e o l t s, called_is e o l t s)
  spine_is o t s l (m ∷ ls) =
      let r = spine_is o t s m ls in
      (value_is e false l (spine o t m ls) s ∙ (λ i. linked_value e false l (r.0 i) (r.1 i)), called_is e false l (spine o t m ls) s ∙ (λ i. linked_called e false l (r.0 i) (r.1 i)))

  -- where it has none, nothing goes on

  data End : Type 0 where
    stopped : Stop → State → End
    halted : Halt → State → End
    outside : End

  abbrev ending : {A : Type 0} → End → Completion A
  ending (stopped y z) = stop y z
  ending (halted y z) = halt y z
  ending outside = out

  goes_nowhere : {A B : Type 0} (x : End) (f : A → State → Completion B) → next (ending x) f ≡ ending x
  unfolding either
  goes_nowhere (stopped y z) f = refl
  goes_nowhere (halted y z) f = refl
  goes_nowhere outside f = refl

  link_ended : (x : End) (o : Bool) (l : Link) → (linked_value e o l (ending x) (ending x) ≡ ending x) × (linked_called e o l (ending x) (ending x) ≡ ending x)
  link_ended x o (a_member k) = (goes_nowhere x _, goes_nowhere x _)
  link_ended x o (a_computed k) = (goes_nowhere x _, goes_nowhere x _)
  link_ended x o (a_call ts) = let whole = goes_nowhere x _ in (whole, ap plainly_called whole ∙ goes_nowhere x _)

  over_ended : (x : End) (o : Bool) (l : Link) (ls : List Link) → (over_value o l ls (ending x) (ending x) ≡ ending x) × (over_called o l ls (ending x) (ending x) ≡ ending x)
  over_ended x o l [] = link_ended x o l
  over_ended x o l (m ∷ ls) =
      let r = over_ended x o m ls in
      let b = link_ended x false l in
      ((λ i. linked_value e false l (r.0 i) (r.1 i)) ∙ b.0, (λ i. linked_called e false l (r.0 i) (r.1 i)) ∙ b.1)

  -- so what stands before them may be evaluated first
  after_base : (o : Bool) (l : Link) (ls : List Link) (y : Completion Value) → over_value o l ls y (plainly_called y) ≡ next y (λ v z. over_value o l ls (ok v z) (ok (plain_call v) z))
  unfolding either
  after_base o l ls (ok v z) = refl
  after_base o l ls (stop y z) = (over_ended (stopped y z) o l ls).0
  after_base o l ls (halt y z) = (over_ended (halted y z) o l ls).0
  after_base o l ls out = (over_ended outside o l ls).0

  module _ (v : Value) (z : State) where
    abbrev here : Completion Value
    here = ok v z

    abbrev plainly : Completion Called
    plainly = ok (plain_call v) z

    -- null and undefined end the chain
    over_short : is_nullish v ≡ true → (l : Link) (ls : List Link) → (over_value true l ls here plainly ≡ stop Short z) × (over_called true l ls here plainly ≡ stop Short z)
    over_short p l [] = short_first e z v (plain_call v) p p l
    over_short p l (m ∷ ls) =
        let r = over_short p m ls in
        let b = link_ended (stopped Short z) false l in
        ((λ i. linked_value e false l (r.0 i) (r.1 i)) ∙ b.0, (λ i. linked_called e false l (r.0 i) (r.1 i)) ∙ b.1)

    -- nothing else does
    over_same : is_nullish v ≡ false → (l : Link) (ls : List Link) → (over_value true l ls here plainly ≡ over_value false l ls here plainly) × (over_called true l ls here plainly ≡ over_called false l ls here plainly)
    over_same p l [] = same_first e z v (plain_call v) p p refl l
    over_same p l (m ∷ ls) = let r = over_same p m ls in ((λ i. linked_value e false l (r.0 i) (r.1 i)), (λ i. linked_called e false l (r.0 i) (r.1 i)))

    over_calm : (l : Link) (ls : List Link) → are_calm_links l ls ≡ true → Calm (over_value false l ls here plainly) × Calm (over_called false l ls here plainly)
    over_calm l [] p = link_calm e l p here plainly tt tt
    over_calm l (m ∷ ls) p =
        let (first, rest) = and_parts (is_calm_link l) (are_calm_links m ls) p in
        let r = over_calm m ls rest in
        link_calm e l first (over_value false m ls here plainly) (over_called false m ls here plainly) r.0 r.1

  -- what a chain holds may begin outside of it
  chain_after : (t : Tree) (y : Completion Value) (f : Value → State → Completion Value) → Calm y → next y (λ v z. chain_of e t (f v z)) ≡ chain_of e t (next y f)
  unfolding either
  chain_after t (ok v z) f c = refl
  chain_after t (stop y z) f c = sym (chain_calm e t (stop y z) c)
  chain_after t (halt y z) f c = refl
  chain_after t out f c = refl

  -- ---- a conditional that asks of any expression whether it is null or undefined

  if_value : (equal : Bool) (t a b : Tree) (s : State) → value e (if_null equal t a b) s ≡ next (value e t s) (λ v z. choose (is_nullish v) (value e a z) (value e b z))
  if_value true t a b s =
      conditional_value e (binary Equality t null_literal) a b s
      ∙ ap (λ y. next y (λ v z. choose (truth v) (value e a z) (value e b z))) (equal_null e t s)
      ∙ after_boolean (value e t s) is_nullish (λ v z. choose (truth v) (value e a z) (value e b z))
  if_value false t a b s =
      conditional_value e (binary Inequality t null_literal) b a s
      ∙ ap (λ y. next y (λ v z. choose (truth v) (value e b z) (value e a z))) (unequal_null e t s)
      ∙ after_boolean (value e t s) (λ v. not (is_nullish v)) (λ v z. choose (truth v) (value e b z) (value e a z))
      ∙ after_cong (λ v. Unit {0}) (value e t s) _ _ (gives_any (value e t s)) (λ v p z. turned (is_nullish v) (value e a z) (value e b z))

-- ---- both do the same

module _ (e : Environment) (spelling : List ℕ) (k : ℕ) (free : e.fixed (Declared k) ≡ Writes) (indirect : is_eval (kind_of (resolved spelling k)) ≡ false) (equal : Bool) (a m : Tree) (l : Link) (ls : List Link) (u : IsUndefined m) (calm_value : is_calm a ≡ true) (p : are_calm_links l ls ≡ true) where
  abbrev x : Name
  x = resolved spelling k

  abbrev t : Tree
  t = assign x a

  abbrev read : Tree
  read = spine false (identifier x) l ls

  abbrev optional : Tree
  optional = spine true t l ls

  calm : (s : State) → Calm (value e t s)
  calm s = value_calm e t (both (is_calm a) true calm_value refl) s

  wrote_it : (s : State) → Wrote e spelling k free (value e t s)
  wrote_it s = subst (Wrote e spelling k free) (sym (assign_value e x a s)) (wrote e spelling k free (value e a s))

  module _ (v : Value) (z : State) (holds : z.vars (Declared k) ≡ Holds v) where
    abbrev whole : Completion Value
    whole = over_value e true l ls (ok v z) (ok (plain_call v) z)

    called_held : called e (identifier x) z ≡ ok (plain_call v) z
    unfolding either
    called_held =
        name_called e x z
        ∙ ap (λ y. next y (λ v z. ok (record { value = v; this_value = Undefined; direct = is_eval (kind_of x) }) z)) (held_value e spelling k free v z holds)
        ∙ (λ i. ok (record { value = v; this_value = Undefined; direct = indirect i }) z)

    read_value : value e read z ≡ over_value e false l ls (ok v z) (ok (plain_call v) z)
    read_value = (spine_is e false (identifier x) z l ls).0 ∙ (λ i. over_value e false l ls (held_value e spelling k free v z holds i) (called_held i))

    chosen : (b : Bool) → is_nullish v ≡ b → choose b (value e m z) (value e read z) ≡ chain_of e optional whole
    chosen true n = undefined_value e m u z ∙ sym (ap (chain_of e optional) (over_short e v z n l ls).0 ∙ chain_short e optional z)
    chosen false n =
        read_value
        ∙ sym (chain_calm e optional (over_value e false l ls (ok v z) (ok (plain_call v) z)) (over_calm e v z l ls p).0)
        ∙ sym (ap (chain_of e optional) (over_same e v z n l ls).0)

  chained_value : (s : State) → value e (if_null equal t m read) s ≡ value e (chain optional) s
  chained_value s =
      if_value e equal t m read s
      ∙ by_writing e spelling k free (value e t s) (wrote_it s) (λ v z. choose (is_nullish v) (value e m z) (value e read z)) (λ v z. chain_of e optional (over_value e true l ls (ok v z) (ok (plain_call v) z))) (λ v z h. chosen v z h (is_nullish v) refl)
      ∙ chain_after e optional (value e t s) (λ v z. over_value e true l ls (ok v z) (ok (plain_call v) z)) (calm s)
      ∙ sym (ap (chain_of e optional) (after_base e true l ls (value e t s)))
      ∙ sym (ap (chain_of e optional) ((spine_is e true t s l ls).0 ∙ ap (over_value e true l ls (value e t s)) (base_called e t refl s)))
      ∙ sym (chain_value e optional s)

if_item : (equal : Bool) (t a b : Tree) → is_item (if_null equal t a b) ≡ true
if_item true t a b = refl
if_item false t a b = refl

abbrev asks : (W : VariableSet) (s : Seat) (n w : Tree) → Row46AssignedChain W s n w → Tree
asks W s n w r = if_null r.equal (assign (resolved r.spelling r.symbol) r.a) r.missing (spine false (identifier (resolved r.spelling r.symbol)) r.last r.others)

abbrev held : (W : VariableSet) (s : Seat) (n w : Tree) → Row46AssignedChain W s n w → Tree
held W s n w r = spine true (assign (resolved r.spelling r.symbol) r.a) r.last r.others

pub chained_same : (W : VariableSet) (s : Seat) (n w : Tree) (r : Row46AssignedChain W s n w) (e : Environment) → ((y : Variable) → W y ≡ true → e.fixed y ≡ Writes) → (q : Demand) → Fits (Expr s) q → Same e nothing nothing q n w
chained_same W s n w r e z q f =
    let x : Name = resolved r.spelling r.symbol in
    subst (λ t. Same e nothing nothing q t w) (sym r.shape)
    (subst (Same e nothing nothing q (asks W s n w r)) (sym r.written)
    (kept_same e nothing nothing s (asks W s n w r) (held W s n w r) (if_item r.equal (assign x r.a) r.missing (spine false (identifier x) r.last r.others)) (if_null_tells r.equal (assign x r.a) r.missing (spine false (identifier x) r.last r.others))
    (chained_value e r.spelling r.symbol (z (Declared r.symbol) r.writable) (plain_name x refl r.indirect) r.equal r.a r.missing r.last r.others r.undefined r.calm_value r.calm) q f))

if_read : (equal : Bool) (t a b u : Tree) → summary (if_null equal t a b) ≡ summary (chain u)
if_read true t a b u = refl
if_read false t a b u = refl

pub chained_read : (W : VariableSet) (s : Seat) (n w : Tree) → Row46AssignedChain W s n w → summary n ≡ summary w
chained_read W s n w r = let x : Name = resolved r.spelling r.symbol in ap summary r.shape ∙ if_read r.equal (assign x r.a) r.missing (spine false (identifier x) r.last r.others) (held W s n w r) ∙ kept_read s.guard (held W s n w r) ∙ sym (ap summary r.written)

-- ---- where it stands

module _ (strict : Bool) where
  abbrev Stands : Tree → Type 0
  Stands t = fits strict expression t ≡ true

  spine_fits : (x t : Tree) (l : Link) (ls : List Link) → Stands t → Stands (spine false x l ls) → fits strict (one a_link) (spine true t l ls) ≡ true
  spine_fits x t l [] h f = link_fits strict true l x t f (λ g. expression_taken strict (one a_link) t tt h)
  spine_fits x t l (m ∷ ls) h f = link_fits strict false l (spine false x m ls) (spine true t m ls) f (spine_fits x t m ls h)

  chain_fits : (x t : Tree) (l : Link) (ls : List Link) → Stands t → Stands (spine false x l ls) → Stands (chain (spine true t l ls))
  chain_fits x t l ls h f = both (has_optional (spine true t l ls)) (fits strict (one a_chain) (spine true t l ls) && true) (spine_optional t l ls) (both (fits strict (one a_chain) (spine true t l ls)) true (spine_ends strict t l ls (spine_fits x t l ls h f)) refl)

  -- of the conditional, what is compared with null and the last branch
  of_asked : (s : Slot) (equal : Bool) (t a b : Tree) → fits strict s (if_null equal t a b) ≡ true → TakesExpression s × (Stands t × Stands b)
  of_asked s true t a b e = let (takes, (test, first, last)) = of_conditional strict s (binary Equality t null_literal) a b e in (takes, ((of_two strict t null_literal test).0, last))
  of_asked s false t a b e = let (takes, (test, first, last)) = of_conditional strict s (binary Inequality t null_literal) b a e in (takes, ((of_two strict t null_literal test).0, first))

module _ (W : VariableSet) (q : Seat) (n w : Tree) (r : Row46AssignedChain W q n w) where
  abbrev name : Name
  name = resolved r.spelling r.symbol

  abbrev target : Tree
  target = assign name r.a

  abbrev last_read : Tree
  last_read = spine false (identifier name) r.last r.others

  pub chained_fits : (strict : Bool) (s : Slot) → fits strict s n ≡ true → fits strict s w ≡ true
  chained_fits strict s e =
      let (takes, (first, last)) = of_asked strict s r.equal target r.missing last_read (subst (λ t. fits strict s t ≡ true) r.shape e) in
      subst (λ t. fits strict s t ≡ true) (sym r.written) (expression_taken strict s (kept_by_value q.guard (chain (held W q n w r))) takes (kept_fits strict q.guard (held W q n w r) (chain_fits strict (identifier name) target r.last r.others first last)))

  pub chained_slot : (strict : Bool) (s : Slot) → fits strict s n ≡ true → is_body_slot (Expr q) s ≡ true
  chained_slot strict s e = expression_slot (Expr q) s (of_asked strict s r.equal target r.missing last_read (subst (λ t. fits strict s t ≡ true) r.shape e)).0

  asked_by : (equal : Bool) (t a b u : Tree) → is_not_positive_number u ≡ true → AskedAlike (Expr q) (if_null equal t a b) u
  asked_by true t a b u h = record {
    absent = λ e. absurd (true≢false (sym e));
    body = λ e. absurd (true≢false (sym e));
    optional = λ e. absurd (true≢false (sym e));
    number = λ asks e. h;
    spelled = λ s e. absurd (cc e);
    plain = refl;
  }
  asked_by false t a b u h = record {
    absent = λ e. absurd (true≢false (sym e));
    body = λ e. absurd (true≢false (sym e));
    optional = λ e. absurd (true≢false (sym e));
    number = λ asks e. h;
    spelled = λ s e. absurd (cc e);
    plain = refl;
  }

  pub chained_asked : AskedAlike (Expr q) n w
  chained_asked = subst (λ t. AskedAlike (Expr q) t w) (sym r.shape) (subst (AskedAlike (Expr q) (asks W q n w r)) (sym r.written) (asked_by r.equal target r.missing last_read (kept_by_value q.guard (chain (held W q n w r))) (kept_number q.guard (held W q n w r))))

-- ---- the same parts: the name, what is assigned, what is missing, and those of the links

abbrev assigned : Sketch
assigned = assigns_part Assign (part 1)

abbrev gone : List ℕ
gone = 0 ∷ 2 ∷ []

abbrev asked_before : Sketch → Sketch
asked_before s = under Conditional (under (Binary Equality) (assigned ▹ under Null end ▹ end) ▹ part 2 ▹ s ▹ end)

abbrev asked_after : Sketch → Sketch
asked_after s = under Conditional (under (Binary Inequality) (assigned ▹ under Null end ▹ end) ▹ s ▹ part 2 ▹ end)

module _ (l : Link) (ls : List Link) where
  abbrev hs : List Hole
  hs = holes 3 l ls

  abbrev gs : List Hole
  gs = Part 0 AsTarget ∷ (Part 1 AsValue ∷ hs)

  abbrev plain : Sketch
  plain = sketch false 3 l ls

  abbrev over_assigned : Sketch
  over_assigned = sketch_of assigned true 3 l ls

  assigned_holes : (o : Bool) (i : ℕ) (l : Link) (ls : List Link) → parts_of AsValue (sketch_of assigned o i l ls) ≡ Part 0 AsTarget ∷ (Part 1 AsValue ∷ holes i l ls)
  assigned_holes o i l [] = link_holes o i l assigned (Part 0 AsTarget ∷ (Part 1 AsValue ∷ [])) refl
  assigned_holes o i l (m ∷ ls) = link_holes false i l (sketch_of assigned o (suc i) m ls) (Part 0 AsTarget ∷ (Part 1 AsValue ∷ holes (suc i) m ls)) (assigned_holes o (suc i) m ls)

  chained_holes : parts_of AsValue (chained over_assigned) ≡ gs
  chained_holes = ap (λ hs. hs ++ []) (assigned_holes true 3 l ls) ∙ append-nil gs

  abbrev before : List Hole
  before = Part 0 AsTarget ∷ (Part 1 AsValue ∷ (Part 2 AsValue ∷ (Part 0 AsValue ∷ hs)))

  abbrev after : List Hole
  after = Part 0 AsTarget ∷ (Part 1 AsValue ∷ (Part 0 AsValue ∷ (hs ++ (Part 2 AsValue ∷ []))))

  before_holes : parts_of AsValue (asked_before plain) ≡ before
  before_holes = ap (λ hs. Part 0 AsTarget ∷ (Part 1 AsValue ∷ (Part 2 AsValue ∷ (hs ++ [])))) (sketch_holes false 3 l ls) ∙ ap (λ hs. Part 0 AsTarget ∷ (Part 1 AsValue ∷ (Part 2 AsValue ∷ hs))) (append-nil (Part 0 AsValue ∷ hs))

  after_holes : parts_of AsValue (asked_after plain) ≡ after
  after_holes = ap (λ hs. Part 0 AsTarget ∷ (Part 1 AsValue ∷ (hs ++ (Part 2 AsValue ∷ [])))) (sketch_holes false 3 l ls)

  -- what stays is there
  each_stays : has_each gs (staying (dropping gone) hs) ≡ true
  each_stays = staying_each gone gs hs (often_each gs hs (skipped (Part 0 AsTarget) (Part 1 AsValue ∷ hs) hs (apart_from 0 3 AsTarget (omega arith) l ls) (skipped (Part 1 AsValue) hs hs (apart_from 1 3 AsValue (omega arith) l ls) (often_itself hs))))

  before_rearranged : is_rearranged (dropping gone) before gs ≡ true
  before_rearranged = rearranged_as gone before gs (skipped (Part 2 AsValue) (Part 0 AsValue ∷ hs) hs (apart_from 2 3 AsValue (omega arith) l ls) (skipped (Part 0 AsValue) hs hs (apart_from 0 3 AsValue (omega arith) l ls) (often_itself hs))) each_stays

  after_rearranged : is_rearranged (dropping gone) after gs ≡ true
  after_rearranged =
      rearranged_as gone after gs (skipped (Part 0 AsValue) (hs ++ (Part 2 AsValue ∷ [])) hs (apart_from 0 3 AsValue (omega arith) l ls) (often_more hs (Part 2 AsValue ∷ []) hs (often_itself hs)))
      (subst (λ ks. has_each gs (Part 1 AsValue ∷ ks) ≡ true) (sym (staying_more gone hs (Part 2 AsValue ∷ []) ∙ append-nil (staying (dropping gone) hs))) each_stays)

  chained_stands : stands_well (dropping gone) AsValue (chained over_assigned) ≡ true
  chained_stands = both (stands_well (dropping gone) AsValue over_assigned) true (stands_of (dropping gone) assigned refl true 3 l ls) refl

  plain_stands : stands_well (dropping gone) AsValue plain ≡ true
  plain_stands = stands_of (dropping gone) (part 0) refl false 3 l ls

  before_arranged : rearranges_expression (dropping gone) (asked_before plain) (chained over_assigned) ≡ true
  before_arranged =
      both (stands_well (dropping gone) AsValue (asked_before plain)) _ (both (stands_well (dropping gone) AsValue plain) true plain_stands refl)
      (both (stands_well (dropping gone) AsValue (chained over_assigned)) _ chained_stands
      ((λ j. is_rearranged (dropping gone) (before_holes j) (chained_holes j)) ∙ before_rearranged))

  after_arranged : rearranges_expression (dropping gone) (asked_after plain) (chained over_assigned) ≡ true
  after_arranged =
      both (stands_well (dropping gone) AsValue (asked_after plain)) _ (both (stands_well (dropping gone) AsValue plain) true plain_stands refl)
      (both (stands_well (dropping gone) AsValue (chained over_assigned)) _ chained_stands
      ((λ j. is_rearranged (dropping gone) (after_holes j) (chained_holes j)) ∙ after_rearranged))

module _ (W : VariableSet) (q : Seat) (n w : Tree) (r : Row46AssignedChain W q n w) where
  abbrev named : Tree
  named = identifier (resolved r.spelling r.symbol)

  abbrev ps : Parts
  ps = record { trees = named ▸ r.a ▸ r.missing ▸ trees_of r.last r.others; lists = none ∷ none ∷ none ∷ lists_of r.last r.others }

  stand : Stand ps.trees ps.lists 3 r.last r.others
  stand =
      behind named none (r.a ▸ r.missing ▸ trees_of r.last r.others) (none ∷ none ∷ lists_of r.last r.others) 2 r.last r.others
      (behind r.a none (r.missing ▸ trees_of r.last r.others) (none ∷ lists_of r.last r.others) 1 r.last r.others
      (behind r.missing none (trees_of r.last r.others) (lists_of r.last r.others) 0 r.last r.others (themselves r.last r.others)))

  abbrev holds : Tree
  holds = chain (held W q n w r)

  abbrev in_chain : Sketch
  in_chain = chained (over_assigned r.last r.others)

  filled_chain : holds ≡ filled ps in_chain
  filled_chain = sym (ap chain (filled_of ps assigned true (assign (resolved r.spelling r.symbol) r.a) refl 3 r.last r.others stand))

  -- the conditional, and a sketch of what is written for it
  kept_as : (s t : Sketch) (u : Tree) → rearranges_expression (dropping gone) s t ≡ true → n ≡ filled ps s → u ≡ filled ps t → KeptAt (Expr q) n u
  kept_as s t u h e f = expressions_arranged_freely (dropping gone) ps (tt, tt, (name_vanishes (resolved r.spelling r.symbol), (undefined_vanishes r.missing r.undefined, tt))) s t h q n u e f

  kept_from : (s : Sketch) → rearranges_expression (dropping gone) s in_chain ≡ true → n ≡ filled ps s → KeptAt (Expr q) n w
  kept_from s h e =
      subst (KeptAt (Expr q) n) (sym r.written)
      (by_guard (KeptAt (Expr q) n) q.guard (held W q n w r) (λ v. kept_as s in_chain holds h e filled_chain) (kept_as s (behind_sketch in_chain) (behind_zero holds) (behind_rearranged (dropping gone) s in_chain h) e (ap behind_zero filled_chain)))

  kept_by : (equal : Bool) → n ≡ if_null equal (assign (resolved r.spelling r.symbol) r.a) r.missing (spine false named r.last r.others) → KeptAt (Expr q) n w
  kept_by true e = kept_from (asked_before (plain r.last r.others)) (before_arranged r.last r.others) (e ∙ sym (ap (λ t. if_null true (assign (resolved r.spelling r.symbol) r.a) r.missing t) (filled_sketch ps false named refl 3 r.last r.others stand)))
  kept_by false e = kept_from (asked_after (plain r.last r.others)) (after_arranged r.last r.others) (e ∙ sym (ap (λ t. if_null false (assign (resolved r.spelling r.symbol) r.a) r.missing t) (filled_sketch ps false named refl 3 r.last r.others stand)))

  pub chained_kept : KeptAt (Expr q) n w
  chained_kept = kept_by r.equal r.shape

-- ---- lighter: the comparison goes, and the assignment stands in parentheses as before

module _ (x : Name) (a : Tree) where
  abbrev heavy : ℕ
  heavy = weight (Expr object_seat) (assign x a)

  spine_light : (q : Seat) (l : Link) (ls : List Link) → weight (Expr q) (spine true (assign x a) l ls) ≤ weight (Expr q) (spine false (identifier x) l ls) + heavy + 4
  spine_light q (a_member k) [] = omega arith
  spine_light q (a_computed k) [] = omega arith
  spine_light q (a_call ts) [] = omega arith
  spine_light q (a_member k) (m ∷ ls) = let below = spine_light object_seat m ls in omega (arith, below)
  spine_light q (a_computed k) (m ∷ ls) = let below = spine_light object_seat m ls in omega (arith, below)
  spine_light q (a_call ts) (m ∷ ls) = let below = spine_light callee_seat m ls in omega (arith, below)

  asked_heavy : (s : Seat) (equal : Bool) (m b : Tree) → weight (Expr (branch_seat s)) b + heavy + 14 ≤ weight (Expr s) (if_null equal (assign x a) m b)
  asked_heavy s true m b = omega arith
  asked_heavy s false m b = omega arith

  pub chained_falls : (s : Seat) (equal : Bool) (m : Tree) (l : Link) (ls : List Link) → weight (Expr s) (kept_by_value s.guard (chain (spine true (assign x a) l ls))) < weight (Expr s) (if_null equal (assign x a) m (spine false (identifier x) l ls))
  chained_falls s equal m l ls =
      let light = kept_light s (spine true (assign x a) l ls) (λ r. spine_moved r true (assign x a) l ls) in
      let more = spine_light (branch_seat s) l ls in
      let more_there = asked_heavy s equal m (spine false (identifier x) l ls) in
      omega (arith, light, more, more_there)

if_outline : (equal : Bool) (t a b u : Tree) → outline (if_null equal t a b) ≡ outline (chain u)
if_outline true t a b u = refl
if_outline false t a b u = refl

pub chained_outline : (W : VariableSet) (s : Seat) (n w : Tree) → Row46AssignedChain W s n w → outline n ≡ outline w
chained_outline W s n w r = let x : Name = resolved r.spelling r.symbol in ap outline r.shape ∙ if_outline r.equal (assign x r.a) r.missing (spine false (identifier x) r.last r.others) (held W s n w r) ∙ kept_outline s.guard (held W s n w r) ∙ sym (ap outline r.written)

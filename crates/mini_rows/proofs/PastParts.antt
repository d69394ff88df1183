-- Parts that give the same before an initializer and after it, from a state in which the names that are held are initialised.
use Rattle.std.specs.Prelude.{◌&&◌, ◌||◌, not, Bool, Option, if◌then◌else◌}
use Rattle.std.proofs.Common.{◌≡◌, ℕ, zero, suc, true, false, List, [], ◌∷◌, Some, None, refl, sym, ap, ◌∙◌, subst, true≢false}
use Rattle.std.proofs.lemmas.Bool.{and_parts}
use Rattle.mini_model.specs.declared.name.Name.{Name}
use Rattle.mini_model.specs.declared.name.SymbolId.{SymbolId}
use Rattle.mini_model.specs.declared.operator.AssignmentOperator.{AssignmentOperator}
use Rattle.mini_model.specs.declared.shape.Shape.{Shape}
use Rattle.mini_model.specs.declared.shape.Shape.TheVariants as shape
use Rattle.mini_model.specs.Tree.{Tree, Trees, node, none, ◌▸◌, count, identifier, shape_of}
use Rattle.mini_model.specs.Paths.{append}
use Rattle.mini_laws.specs.Value.{Value, Undefined, Declared, Slot, Holds, Missing, Uninitialised, choose, variable_eq}
use Rattle.mini_laws.specs.State.{Item, State, Completion, ok, stop, either, Environment, with_vars}
use Rattle.mini_laws.specs.Demand.{Val, Demand, As, Callee, Target, AnEntry, Items, Texts, Stat, AMember, Prepare, Fetch, Put, Called, Request, Reply, says}
use Rattle.mini_laws.specs.Asking.{demand, first_demand}
use Rattle.mini_laws.specs.Command.{set_var, ret, run, read_slot}
use Rattle.mini_laws.specs.Conversion.{key_value}
use Rattle.mini_laws.specs.Naming.{Facts, NameKind, kind_of, naming}
use Rattle.mini_laws.specs.Expressions.{get_identifier, is_eval}
use Rattle.mini_laws.specs.Same.{Filled, Initialised}
use Rattle.mini_laws.specs.Steady.{Spares, KeepsSlot}
use Rattle.mini_laws.specs.Step.{step, means, meaning}
use Rattle.mini_laws.specs.Substitution.{alone}
use Rattle.mini_laws.specs.Symbols.{is_same}
use Rattle.mini_laws.specs.Targets.{AssignDemand}
use Rattle.mini_laws.specs.Truth.{told}
use Rattle.mini_laws.proofs.Runs.{run_bind, either_eta, either_ok}
use Rattle.mini_laws.proofs.Sparing.{steady}
use Rattle.mini_laws.proofs.Truth.{coherent}
use Rattle.mini_kept.specs.Without.{Unseen}
use Rattle.mini_node.specs.Children.{part, is_bare}
use Rattle.mini_node.specs.Kinds.{is_identifier}
use Rattle.mini_terms.specs.Folds.{is_effect_free}
use Rattle.mini_terms.specs.Kind.{is_primitive, kind}
use Rattle.mini_terms.specs.Reading.{by_value, is_typed_by_value}
use Rattle.mini_terms.proofs.Reading.{read_by_value}
use Rattle.mini_rows.specs.Sketches.{Property, shape_by}
use Rattle.mini_rows.specs.Members.{this}
use Rattle.mini_rows.specs.Past.{binds, writes, leaves, Kept, is_held_symbol, is_held, is_this, keeps_value, passes_any, passes_any_word, passes_any_member, passes_any_target, passes_any_item, passes_any_at, is_certain, are_past_in, all_past}
use Rattle.mini_rows.specs.Chains.{is_calm}
use Rattle.mini_rows.specs.Unused.{is_like_one, is_childless, names, any_names, begins_with, is_constant, is_plain_assignment, is_word, is_member_shape, is_member, is_field_shape, is_field, is_number_shape, is_called_by_value, is_sure, is_placed, Gathered, OfValues, OfEntries, OfTexts, of_entries, gathered_below, suits, resolved}
use Rattle.mini_rows.proofs.ItemReads.{item_read}
use Rattle.mini_rows.proofs.KeptThis.{KeepsThis, this_kept}
use Rattle.mini_rows.proofs.MemberRuns.{this_value}
use Rattle.mini_rows.proofs.Passing.{Replies, Does, Replying, replied, constant_replies, word_replies, target_replies, member_replies, field_is}
use Rattle.mini_rows.proofs.PastSpared.{left_alone}
use Rattle.mini_rows.proofs.PastRuns.{Held, AllHeld, HeldBefore, HeldPath}
use Rattle.mini_rows.proofs.SingleMeaning.{AllReply, AllFine, Gathers, textual_part, texts_in, earlier, valued_before}
use Rattle.mini_rows.proofs.SingleUse.{Lead, Minus, Typing, Called as CalledLead, Against, Given, Filling, Keying, Linking, Following, Branching, Failing, Storing, Fielding, Listing, Spreading, Bracketing, head_of, before, place, surely, Step, is_end, suited, whole, allows, Indirect, Spared, found, found_head, by_front, ends_short}
use Rattle.mini_rows.proofs.UnusedNames.{or_parts}
use Rattle.mini_rows.proofs.WriteMeaning.{read_value}

-- what nothing writes, and no answer changes
pub record Still (H : Kept) (e : Environment) : Type 0 where
  pub by : (j : ℕ) → H.variables (Declared j) ≡ true → e.foreign (Declared j) ≡ false
  pub has_this : H.has_this ≡ true → e.asks_this ≡ false

holds : (o : Slot) → Filled o → (v : Value) × (o ≡ Holds v)
holds (Holds v) f = (v, refl)
holds Missing f = absurd f
holds Uninitialised f = absurd f

-- ---- a name

module _ (e : Environment) (spelling : List ℕ) (j : ℕ) where
  abbrev y : Tree
  y = identifier (resolved spelling j)

  given : (c : Value) (t : State) → t.vars (Declared j) ≡ Holds c → means e y (As Val) tt t ≡ ok c t
  unfolding read_slot
  given c t h = read_value e spelling j t ∙ ap (λ o. read_slot o t) h

  abbrev of_name : NameKind → Value → Called
  of_name k v = record { value = v; this_value = Undefined; direct = is_eval k }

  -- as a callee it is the same but for the object and whether the call is a direct eval
  called : (t : State) → means e y Callee tt t ≡ either (means e y (As Val) tt t) (λ v z. ok (of_name (kind_of (resolved spelling j)) v) z) (λ x z. stop x z)
  unfolding means step
  called t =
      let k = kind_of (resolved spelling j) in
      let names = naming shape.Identifier Callee (Declared j ∷ []) 0 [] in
      let K = λ (i : ℕ) (r : Request (Stat None)) (z : State). meaning e none i (Stat None) r z in
      run_bind e names {q = λ i. Stat None} (get_identifier k) (λ v. ret (of_name k v)) K t
      ∙ sym (ap (λ c. either c (λ v z. ok (of_name k v) z) (λ x z. stop x z)) (run_bind e names {q = λ i. Stat None} (get_identifier k) (λ v. ret v) K t ∙ either_eta (run {q = λ i. Stat None} e names K (get_identifier k) t)))

  name_replies : (c : Value) (q : Demand) → Replies q → (r : Request q) → (a : Reply q r) × ((t : State) → t.vars (Declared j) ≡ Holds c → means e y q r t ≡ ok a t)
  unfolding told by_value either
  name_replies c (As w) u r = (says w c, λ t h. coherent y w e t ∙ ap (told w) (given c t h))
  name_replies c Callee u r = (of_name (kind_of (resolved spelling j)) c, λ t h. called t ∙ ap (λ d. either d (λ v z. ok (of_name (kind_of (resolved spelling j)) v) z) (λ x z. stop x z)) (given c t h))
  name_replies c AnEntry u r = (Item c, λ t h. item_read y refl e t ∙ ap (by_value AnEntry tt) (given c t h))
  name_replies c q u r = absurd u

kept_this : {A : Type 0} (w : Value) (c : Completion A) (v : A) (t : State) → c ≡ ok v t → KeepsThis w c → t.self ≡ w
kept_this w c v t q k = subst (KeepsThis w) q k

kept : {A : Type 0} (y : ℕ) (o : Slot) (c : Completion A) (v : A) (t : State) → c ≡ ok v t → KeepsSlot (Declared y) o c → t.vars (Declared y) ≡ o
kept y o c v t q k = subst (KeepsSlot (Declared y) o) q k

module _ (e : Environment) (k : ℕ) (z : Unseen (alone (Declared k)) e) (init : Tree) (s : State) where
  abbrev after : Value → State → State
  after v t = with_vars t (set_var t.vars (Declared k) (Holds v))

  replying_held : (q : Demand) (m : Does q) (r : Request q) → Replying q m r → Held e k z init s q m r
  replying_held q m r h = (h.0, h.1 s, λ v t is. h.1 (after v t))

  name_held : (spelling : List ℕ) (j : ℕ) → e.foreign (Declared j) ≡ false → Spares (Declared j) (As Val) init → variable_eq (Declared k) (Declared j) ≡ false → Filled (s.vars (Declared j)) → (q : Demand) → Replies q → (r : Request q) → Held e k z init s q (means e (identifier (resolved spelling j)) q) r
  name_held spelling j still spares other filled q u r =
      let (c, has) = holds (s.vars (Declared j)) filled in
      let (a, f) = name_replies e spelling j c q u r in
      (a, f s has, λ v t is. f (after v t) (ap (λ b. choose b (Holds v) (t.vars (Declared j))) other ∙ kept j (s.vars (Declared j)) (means e init (As Val) tt s) v t is (steady e (Declared j) still init (As Val) spares tt s) ∙ has))

  -- `this`, which nothing writes
  this_held : e.asks_this ≡ false → (q : Demand) → Replies q → (r : Request q) → Held e k z init s q (means e this q) r
  this_held has q u r =
      let (a, f) = replied e q u s.self r in
      let there = λ (t : State). read_by_value this refl e q r t ∙ ap (by_value q r) (this_value e has t) in
      (a, there s ∙ f s, λ v t is. there (after v t) ∙ ap (λ w. by_value q r (ok w (after v t))) (kept_this s.self (means e init (As Val) tt s) v t is (this_kept e init (As Val) tt s)) ∙ f (after v t))

  -- a member that is assigned to, by its parts
  member_held : (t : Tree) → is_member t ≡ true → Held e k z init s (As Val) (means e (part t 0) (As Val)) tt → Held e k z init s (As Val) (means e (part t 1) (As Val)) tt → Held e k z init s Target (means e t Target) Prepare
  member_held t m f g =
      let (a, now, later) = f in
      let (b, now', later') = g in
      (AMember a (key_value b), member_replies e t m a b s now now', λ v y is. member_replies e t m a b (after v y) (later v y is) (later' v y is))

  -- a property, by its value
  field_held : (t : Tree) → is_field t ≡ true → Held e k z init s (As Val) (means e (part t 1) (As Val)) tt → Held e k z init s AnEntry (means e t AnEntry) tt
  field_held t c f =
      let (g, is) = field_is e t c in
      let (a, now, later) = f in
      let by = λ (y : State) (p : means e (part t 1) (As Val) tt y ≡ ok a y). is y ∙ ap (λ x. either x (λ w z. ok (g w) z) (λ y z. stop y z)) p ∙ either_ok a y (λ w z. ok (g w) z) (λ y z. stop y z) in
      (g a, by s now, λ v y q. by (after v y) (later v y q))

  -- ---- what passes

  module _ (H : Kept) (still : Still H e) (ready : Initialised H.variables s) (x : Name) (named : x.symbol ≡ Some (record { 0 = k })) where
    not_true : (b : Bool) → not b ≡ true → b ≡ false
    not_true true e = absurd (true≢false (sym e))
    not_true false e = refl

    symbol_held : (spelling : List ℕ) (o : Option SymbolId) → is_held_symbol H.variables init (record { spelling = spelling; symbol = o }) o ≡ true → is_same x.symbol o ≡ false → (q : Demand) → Replies q → (r : Request q) → Held e k z init s q (means e (identifier (record { spelling = spelling; symbol = o })) q) r
    unfolding Initialised
    symbol_held spelling (Some j) h g =
        let (a, b) = and_parts (H.variables (Declared j.0)) (leaves init (resolved spelling j.0) j.0) h in
        let (c, d) = and_parts (not (binds j.0 init)) (not (writes (resolved spelling j.0) init)) b in
        name_held spelling j.0 (still.by j.0 a) (left_alone (resolved spelling j.0) j.0 refl init (not_true (binds j.0 init) c) (not_true (writes (resolved spelling j.0) init) d) (As Val) tt) (sym (ap (λ o. is_same o (Some j)) named) ∙ g) (ready (Declared j.0) a)
    symbol_held spelling None h g = absurd (true≢false (sym h))

    last_part : (a b : Bool) → ((a || b) || false) ≡ false → b ≡ false
    last_part true b e = absurd (true≢false e)
    last_part false true e = absurd (true≢false e)
    last_part false false e = refl

    held_name : (t : Tree) → is_held H.variables init t ≡ true → names x t ≡ false → (q : Demand) → Replies q → (r : Request q) → Held e k z init s q (means e t q) r
    held_name (node shape.Identifier (y ∷ []) zero none) h f =
        symbol_held y.spelling y.symbol h (last_part _ (is_same x.symbol y.symbol) (or_parts (is_like_one x (y ∷ [])) false f).0)
    held_name t h f = absurd (true≢false (sym h))

    held_this : (t : Tree) → is_this t ≡ true → H.has_this ≡ true → (q : Demand) → Replies q → (r : Request q) → Held e k z init s q (means e t q) r
    held_this (node shape.ThisExpression [] zero none) i h = this_held (still.has_this h)
    held_this t i h = absurd (true≢false (sym i))

    held_there : (t : Tree) → keeps_value H init t ≡ true → names x t ≡ false → (q : Demand) → Replies q → (r : Request q) → Held e k z init s q (means e t q) r
    held_there t h f = by (is_held H.variables init t) refl h
      where
        by : (b : Bool) → is_held H.variables init t ≡ b → (b || (H.has_this && is_this t)) ≡ true → (q : Demand) → Replies q → (r : Request q) → Held e k z init s q (means e t q) r
        by true c h = held_name t c f
        by false c h = let (a, b) = and_parts H.has_this (is_this t) h in held_this t b a

    part_held : (t : Tree) → passes_any H init t ≡ true → names x t ≡ false → (q : Demand) → Replies q → (r : Request q) → Held e k z init s q (means e t q) r
    part_held t p f q u r = by (is_constant t) refl p
      where
        by : (b : Bool) → is_constant t ≡ b → (b || keeps_value H init t) ≡ true → Held e k z init s q (means e t q) r
        by true c p = replying_held q (means e t q) r (constant_replies e t c q u r)
        by false c p = held_there t p f q u r

    word_held : (t : Tree) → passes_any_word H init t ≡ true → names x t ≡ false → Held e k z init s (As Val) (means e t (As Val)) tt
    word_held t p f = by (is_word (shape_of t)) refl p
      where
        by : (b : Bool) → is_word (shape_of t) ≡ b → (b || passes_any H init t) ≡ true → Held e k z init s (As Val) (means e t (As Val)) tt
        by true c p = replying_held (As Val) (means e t (As Val)) tt (word_replies e t c)
        by false c p = part_held t p f (As Val) tt tt

    -- the parts of a node that has two
    two_free : (t : Tree) → is_bare t 2 ≡ true → names x t ≡ false → (names x (part t 0) ≡ false) × (names x (part t 1) ≡ false)
    two_free (node h [] zero (a ▸ (b ▸ none))) c f = let (g, i) = or_parts (names x a) (any_names x (b ▸ none)) f in (g, (or_parts (names x b) false i).0)
    two_free t c f = absurd (true≢false (sym c))

    target_held : (o : AssignmentOperator) (t : Tree) → passes_any_target H init o t ≡ true → names x t ≡ false → Held e k z init s Target (means e t Target) Prepare
    target_held o t p f =
        by (passes_any_member H init t) refl (and_parts (is_plain_assignment o) (passes_any_member H init t || (is_identifier t && is_effect_free t)) p).1
      where
        by : (b : Bool) → passes_any_member H init t ≡ b → (b || (is_identifier t && is_effect_free t)) ≡ true → Held e k z init s Target (means e t Target) Prepare
        by true m q =
            let (a, b) = and_parts (is_member t) (passes_any H init (part t 0) && passes_any_word H init (part t 1)) m in
            let (c, d) = and_parts (passes_any H init (part t 0)) (passes_any_word H init (part t 1)) b in
            let (g, h) = two_free t (and_parts (is_member_shape (shape_of t)) (is_bare t 2) a).1 f in
            member_held t a (part_held (part t 0) c g (As Val) tt tt) (word_held (part t 1) d h)
        by false m q = replying_held Target (means e t Target) Prepare (target_replies e t (and_parts (is_identifier t) (is_effect_free t) q).0)

    item_held : (t : Tree) → passes_any_item H OfEntries init t ≡ true → names x t ≡ false → Held e k z init s AnEntry (means e t AnEntry) tt
    item_held t p f = by (passes_any H init t) refl p
      where
        by : (b : Bool) → passes_any H init t ≡ b → (b || (is_field t && passes_any H init (part t 1))) ≡ true → Held e k z init s AnEntry (means e t AnEntry) tt
        by true c p = part_held t c f AnEntry tt tt
        by false c p =
            let (a, b) = and_parts (is_field t) (passes_any H init (part t 1)) p in
            let (c, d) = and_parts (is_bare t 2) (is_word (shape_of (part t 0))) (and_parts (is_field_shape (shape_of t)) (is_bare t 2 && is_word (shape_of (part t 0))) a).1 in
            field_held t a (part_held (part t 1) b (two_free t c f).1 (As Val) tt tt)

    -- ---- what stands before the read

    -- each part of such a node passes, and doesn't mention the name
    abbrev AllAny : Gathered → Shape → Trees → Type 0
    AllAny m h none = Unit {0}
    AllAny m h (t ▸ ts) = ((passes_any_at H m init h t ≡ true) × (names x t ≡ false)) × AllAny m h ts

    first_or : (b : Bool) → (b || false) ≡ true → b ≡ true
    first_or true e = refl
    first_or false e = e

    none_held : (ps : Trees) (σ : ℕ → Demand) → AllHeld e k z init s 0 ps σ
    none_held ps σ zero b r m = absurd b
    none_held ps σ (suc j) b r m = absurd b

    one_held : (t : Tree) → passes_any H init t ≡ true → names x t ≡ false → (σ : ℕ → Demand) → Replies (σ 0) → AllHeld e k z init s 1 (t ▸ none) σ
    unfolding meaning
    one_held t p f σ u zero b r m = part_held t p f (σ 0) u r
    one_held t p f σ u (suc zero) b r m = absurd b
    one_held t p f σ u (suc (suc j)) b r m = absurd b

    key_held : (t : Tree) → is_word (shape_of t) ≡ true → AllHeld e k z init s 1 (t ▸ none) (λ i. As Val)
    unfolding meaning
    key_held t p zero b r m = replying_held (As Val) (means e t (As Val)) tt (word_replies e t p)
    key_held t p (suc zero) b r m = absurd b
    key_held t p (suc (suc j)) b r m = absurd b

    assigned_held : (o : AssignmentOperator) (t : Tree) → passes_any_target H init o t ≡ true → names x t ≡ false → AllHeld e k z init s 1 (t ▸ none) AssignDemand
    unfolding meaning
    assigned_held o t p f zero b Prepare m = target_held o t p f
    assigned_held o t p f zero b (Fetch reference) m = absurd (true≢false (sym m))
    assigned_held o t p f zero b (Put reference v) m = absurd m
    assigned_held o t p f (suc zero) b r m = absurd b
    assigned_held o t p f (suc (suc j)) b r m = absurd b

    list_held : (ps : Trees) → AllAny OfValues shape.Listed ps → (σ : ℕ → Demand) → AllReply σ ps → AllHeld e k z init s (count ps) ps σ
    unfolding meaning
    list_held none p σ u zero b r m = absurd b
    list_held none p σ u (suc j) b r m = absurd b
    list_held (t ▸ ps) p σ u zero b r m = part_held t (first_or (passes_any H init t) p.0.0) p.0.1 (σ 0) u.0 r
    list_held (t ▸ ps) p σ u (suc j) b r m = list_held ps p.1 (λ i. σ (suc i)) u.1 j b r m

    items_held : (ps : Trees) → AllAny OfEntries shape.Listed ps → AllHeld e k z init s (count ps) ps (λ i. AnEntry)
    unfolding meaning
    items_held none p zero b r m = absurd b
    items_held none p (suc j) b r m = absurd b
    items_held (t ▸ ps) p zero b r m = item_held t p.0.0 p.0.1
    items_held (t ▸ ps) p (suc j) b r m = items_held ps p.1 j b r m

    -- what is asked for nothing
    unasked_held : (ps : Trees) (σ : ℕ → Demand) → (Replies (σ 0) → ⊥) → AllReply σ ps → AllHeld e k z init s (count ps) ps σ
    unasked_held none σ n u zero b r m = absurd b
    unasked_held none σ n u (suc j) b r m = absurd b
    unasked_held (t ▸ ps) σ n u j b r m = absurd (n u.0)

    -- what is converted to a text
    texts_held : (ps : Trees) → AllAny OfTexts shape.Listed ps → AllHeld e k z init s (count ps) ps (λ i. As Val)
    unfolding meaning
    texts_held none p zero b r m = absurd b
    texts_held none p (suc j) b r m = absurd b
    texts_held (t ▸ ps) p zero b r m = part_held t (and_parts (passes_any H init t) (is_primitive (kind t)) p.0.0).0 p.0.1 (As Val) tt r
    texts_held (t ▸ ps) p (suc j) b r m = texts_held ps p.1 j b r m

    texts_fine : (ps : Trees) → AllAny OfTexts shape.Listed ps → AllFine e true (count ps) ps (λ i. As Val)
    unfolding meaning
    texts_fine none p zero b r v y t g = absurd b
    texts_fine none p (suc j) b r v y t g = absurd b
    texts_fine (u ▸ ps) p zero b r v y t g = textual_part e u (and_parts (passes_any H init u) (is_primitive (kind u)) p.0.0).1 v y t g
    texts_fine (u ▸ ps) p (suc j) b r v y t g = texts_fine ps p.1 j b r v y t g

    before_fine : (m : Gathered) (l : Lead) → AllAny m (shape_by (head_of l)) (before l) → (fs : List Facts) (q : Demand) → Gathers m q → AllFine e (texts_in m l) (count (earlier l)) (before l) (demand (shape_by (head_of l)) fs q)
    before_fine OfTexts (Listing ts) p fs Texts n = texts_fine ts p
    before_fine OfTexts (Listing ts) p fs (As w) n = λ j b r a y t g. tt
    before_fine OfTexts (Listing ts) p fs q n = absurd n
    before_fine OfValues (Listing ts) p fs q n = λ j b r a y t g. tt
    before_fine OfEntries (Listing ts) p fs q n = λ j b r a y t g. tt
    before_fine m l p fs q n = λ j b r a y t g. tt

    parts_before : (m : Gathered) (l : Lead) → surely m false l ≡ true → AllAny m (shape_by (head_of l)) (before l) → (fs : List Facts) (q : Demand) → Gathers m q → AllReply (demand (shape_by (head_of l)) fs q) (valued_before l) → AllHeld e k z init s (count (earlier l)) (before l) (demand (shape_by (head_of l)) fs q)
    parts_before m (Against o t) e p fs q n u = one_held t p.0.0 p.0.1 (λ i. As Val) u.0
    parts_before m (Given o t) e p fs q n u = one_held t p.0.0 p.0.1 (first_demand Callee Items) u.0
    parts_before m (Filling t) e p fs q n u = one_held t p.0.0 p.0.1 (first_demand (As Val) Items) u.0
    parts_before m (Keying o t) e p fs q n u = one_held t p.0.0 p.0.1 (λ i. As Val) u.0
    parts_before m (Following o t) e p fs q n u = absurd (true≢false (sym e))
    parts_before m (Branching t) e p fs q n u = absurd (true≢false (sym e))
    parts_before m (Failing t d) e p fs q n u = absurd (true≢false (sym e))
    parts_before m (Storing o t) e p fs q n u = assigned_held o t p.0.0 p.0.1
    parts_before m (Fielding false t) e p fs q n u = key_held t p.0.0
    parts_before m (Fielding true t) e p fs q n u = absurd (true≢false (sym e))
    parts_before OfValues (Listing ts) e p fs q n u = list_held ts p (demand shape.Listed fs q) u
    parts_before OfEntries (Listing ts) e p fs Items n u = items_held ts p
    parts_before OfEntries (Listing ts) e p fs AnEntry n u = unasked_held ts (demand shape.Listed fs AnEntry) (λ r. r) u
    parts_before OfEntries (Listing ts) e p fs q n u = absurd n
    parts_before OfTexts (Listing ts) e p fs Texts n u = texts_held ts p
    parts_before OfTexts (Listing ts) e p fs (As w) n u = unasked_held ts (demand shape.Listed fs (As w)) (λ r. r) u
    parts_before OfTexts (Listing ts) e p fs q n u = absurd n
    parts_before m l e p fs q n u = none_held (before l) (demand (shape_by (head_of l)) fs q)

    before_held : (m : Gathered) (l : Lead) → surely m false l ≡ true → AllAny m (shape_by (head_of l)) (before l) → HeldBefore e k z init s m l
    before_held m l e p fs q n u = (parts_before m l e p fs q n u, before_fine m l p fs q n)

    -- ---- along a path

    -- those that stand before, and the one that mentions the name
    parts_held : (m : Gathered) (h : Shape) (i : ℕ) (ps : Trees) (t : Tree) (ts : Trees) → any_names x ps ≡ false → names x t ≡ true → all_past H x m init h i (append ps (t ▸ ts)) ≡ true → AllAny m h ps × (are_past_in H x (gathered_below m h (place i ps)) init t ≡ true)
    parts_held m h i none t ts f n p = (tt, sym (ap (λ c. if c then are_past_in H x (gathered_below m h i) init t else (passes_any_at H m init h t && all_past H x m init h (suc i) ts)) n) ∙ p)
    parts_held m h i (v ▸ ps) t ts f n p =
        let (one, others) = or_parts (names x v) (any_names x ps) f in
        let (a, b) = and_parts (passes_any_at H m init h v) (all_past H x m init h (suc i) (append ps (t ▸ ts))) (sym (ap (λ c. if c then are_past_in H x (gathered_below m h i) init v else (passes_any_at H m init h v && all_past H x m init h (suc i) (append ps (t ▸ ts)))) one) ∙ p) in
        let (c, d) = parts_held m h (suc i) ps t ts others n b in
        (((a, one), c), d)

    -- it is evaluated whatever stands before, or nothing does
    begun_there : (a : Tree) (rest : Trees) → any_names x (a ▸ rest) ≡ false → names x a ≡ true → ⊥
    begun_there a rest f e = true≢false (sym e ∙ (or_parts (names x a) (any_names x rest) f).0)

    sure_there : (b c : Bool) → (c ≡ true → ⊥) → (b || c) ≡ true → b ≡ true
    sure_there true c n e = refl
    sure_there false c n e = absurd (n e)

    both_sure : (b c : Bool) → b ≡ true → c ≡ true → (b && c) ≡ true
    both_sure b c e f = (λ k. e k && f k)

    sure_by : (m : Gathered) (l : Lead) → any_names x (before l) ≡ false → (u : Tree) (ts : Trees) → is_placed m false (shape_by (head_of l)) ≡ true → (is_sure false (shape_by (head_of l)) || begins_with x (append (before l) (u ▸ ts))) ≡ true → surely m false l ≡ true
    sure_by m (Following o a) f u ts g e = absurd (begun_there a none f e)
    sure_by m (Branching a) f u ts g e = absurd (begun_there a none f e)
    sure_by m (Failing a b) f u ts g e = absurd (begun_there a (b ▸ none) f e)
    sure_by m (Storing o a) f u ts g e = sure_there (is_plain_assignment o || false) (names x a) (begun_there a none f) e
    sure_by m (Given o a) f u ts g e = sure_there (not o || false) (names x a) (begun_there a none f) e
    sure_by m (Keying o a) f u ts g e = sure_there (not o || false) (names x a) (begun_there a none f) e
    sure_by m (Fielding c a) f u ts g e = both_sure (not c) (of_entries m || false) (sure_there (not c) (names x a) (begun_there a none f) e) g
    sure_by m Spreading f u ts g e = g
    sure_by m Bracketing f u ts g e = g
    sure_by m l f u ts g e = refl

    -- what may stand in the place of a name
    suit_there : (b c : Bool) → b ≡ true → ((not b || c) && true) ≡ true → c ≡ true
    suit_there b c n e = ap (λ d. not d || c) (sym n) ∙ (and_parts (not b || c) true e).0

    suited_end : (l : Lead) (y : Name) (ts : Trees) → names x (identifier y) ≡ true → suits x init (shape_by (head_of l)) (append (before l) (identifier y ▸ ts)) ≡ true → suited init l true ≡ true
    suited_end (CalledLead o) y ts n e = suit_there (names x (identifier y)) (is_called_by_value init) n e
    suited_end Typing y ts n e = suit_there (names x (identifier y)) (is_typed_by_value init) n e
    suited_end Minus y ts n e = suit_there (names x (identifier y)) (not (is_number_shape (shape_of init))) n e
    suited_end Linking y ts n e = (and_parts (not (names x (identifier y)) || true) (is_calm init) e).1
    suited_end l y ts n e = refl

    suited_free : (l : Lead) → whole init l ≡ true → suited init l false ≡ true
    suited_free (CalledLead o) w = refl
    suited_free Typing w = refl
    suited_free Minus w = refl
    suited_free Linking w = w
    suited_free l w = refl

    whole_by : (l : Lead) (t : Tree) (ts : Trees) → suits x init (shape_by (head_of l)) (append (before l) (t ▸ ts)) ≡ true → whole init l ≡ true
    whole_by Linking t ts e = (and_parts (not (is_childless t && names x t) || true) (is_calm init) e).1
    whole_by l t ts e = refl

    suited_by : (l : Lead) (ss : List Step) (y : Name) (ts : Trees) → names x (identifier y) ≡ true → suits x init (shape_by (head_of l)) (append (before l) (found ss (identifier y) ▸ ts)) ≡ true → suited init l (is_end ss) ≡ true
    suited_by l [] y ts n e = suited_end l y ts n e
    suited_by l (s ∷ ss) y ts n e = suited_free l (whole_by l (found (s ∷ ss) (identifier y)) ts e)

    first_true : (a b : Bool) → a ≡ true → (a || b) ≡ true
    first_true true b e = refl
    first_true false b e = absurd (true≢false (sym e))

    second_true : (a b : Bool) → b ≡ true → (a || b) ≡ true
    second_true true b e = refl
    second_true false b e = e

    any_there : (ps : Trees) (t : Tree) (ts : Trees) → names x t ≡ true → any_names x (append ps (t ▸ ts)) ≡ true
    any_there none t ts n = first_true (names x t) (any_names x ts) n
    any_there (p ▸ ps) t ts n = second_true (names x p) (any_names x (append ps (t ▸ ts))) (any_there ps t ts n)

    found_there : (ss : List Step) (u : Tree) → names x u ≡ true → names x (found ss u) ≡ true
    found_there [] u n = n
    found_there (l ∷ ss) u n = any_there (before l.lead) (found ss u) l.rest (found_there ss u n)

    -- a property is passed the same, shorthand and in full
    all_in_full : (m : Gathered) (i : ℕ) (ts : Trees) → all_past H x m init (shape_by (Property false false)) i ts ≡ all_past H x m init (shape_by (Property true false)) i ts
    all_in_full m i none = refl
    all_in_full m i (t ▸ ts) = ap (λ b. if names x t then are_past_in H x (gathered_below m (shape_by (Property false false)) i) init t else (passes_any_at H m init (shape_by (Property false false)) t && b)) (all_in_full m (suc i) ts)

    past_in_full : (m : Gathered) (ts : Trees) (b : Bool) (l : Lead) → is_certain x m init (shape_by (found_head b l)) ts && all_past H x m init (shape_by (found_head b l)) 0 ts ≡ true → is_certain x m init (shape_by (head_of l)) ts && all_past H x m init (shape_by (head_of l)) 0 ts ≡ true
    past_in_full m ts =
        by_front (λ l h. is_certain x m init (shape_by h) ts && all_past H x m init (shape_by h) 0 ts ≡ true → is_certain x m init (shape_by (head_of l)) ts && all_past H x m init (shape_by (head_of l)) 0 ts ≡ true)
        (λ l e. e) (λ a o e. ap (λ b. is_certain x m init (shape_by (Property false false)) ts && b) (all_in_full m 0 ts) ∙ e)

    pub path_held : (m : Gathered) (ss : List Step) (y : Name) → names x (identifier y) ≡ true → Indirect (identifier y) ss → Spared x ss → are_past_in H x m init (found ss (identifier y)) ≡ true → HeldPath e k z init s m y.spelling ss
    path_held m [] y n o f p = tt
    path_held m (l ∷ ss) y n o f p =
        let h = shape_by (head_of l.lead) in
        let u = found ss (identifier y) in
        let ts = append (before l.lead) (u ▸ l.rest) in
        let (certain, b) = and_parts (is_certain x m init h ts) (all_past H x m init h 0 ts) (past_in_full m ts (ends_short l ss) l.lead p) in
        let (suit, q) = and_parts (suits x init h ts) (is_placed m false h && (is_sure false h || begins_with x ts)) certain in
        let (placed, a) = and_parts (is_placed m false h) (is_sure false h || begins_with x ts) q in
        let (c, d) = parts_held m h 0 (before l.lead) u l.rest f.0.0 (found_there ss (identifier y) n) b in
        let sure = sure_by m l.lead f.0.0 u l.rest placed a in
        ((before_held m l.lead sure c, sure, allows y init l.lead ss (suited_by l.lead ss y l.rest n suit) o.0, whole_by l.lead u l.rest suit), path_held (gathered_below m h (place 0 (before l.lead))) ss y n o.1 f.1 d)

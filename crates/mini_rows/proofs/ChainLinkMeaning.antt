-- What the rows of optional chains write means the same.
use Rattle.std.proofs.Common.{◌≡◌, ℕ, Bool, true, false, List, [], ◌∷◌, refl, sym, ap, subst, ◌∙◌, inl, inr, true≢false}
use Rattle.std.specs.Prelude.{not, None}
use Rattle.std.proofs.lemmas.Bool.{and_parts}
use Rattle.mini_model.specs.declared.place.Position.TheVariants.{Expr}
use Rattle.mini_model.specs.declared.seat.Seat.{Seat}
use Rattle.mini_model.specs.declared.name.Name.{Name}
use Rattle.mini_model.specs.declared.shape.Shape.{Shape}
use Rattle.mini_model.specs.declared.shape.Shape.TheVariants as shape
use Rattle.mini_model.specs.Tree.{Tree, Trees, node, none, ◌▸◌}
use Rattle.mini_laws.specs.Value.{Value, Undefined, Boolean, Number, String, Object, VariableSet, variables, is_nullish}
use Rattle.mini_laws.specs.State.{AnObject, NodeOf, Create, State, Short, Completion, ok, stop, halt, out, ended, either, Environment}
use Rattle.mini_laws.specs.Demand.{Want, Val, Demand, As, Callee, OfType, Deleted, AnEntry, Stat, Binds, AMember, AValue, Called, plain_call}
use Rattle.mini_laws.specs.Command.{Naming, Command, Kids, emit_mine, run}
use Rattle.mini_laws.specs.Replies.{reply, valued}
use Rattle.mini_laws.specs.Conversion.{key_value}
use Rattle.mini_laws.specs.Expressions.{chain_end}
use Rattle.mini_laws.specs.Naming.{naming, summary, summaries}
use Rattle.mini_laws.specs.Same.{Same}
use Rattle.mini_laws.specs.Step.{step, means, meaning}
use Rattle.mini_laws.specs.Rows.{SameAt}
use Rattle.mini_laws.specs.Truth.{told}
use Rattle.mini_laws.proofs.Rows.{by_equality}
use Rattle.mini_laws.proofs.Runs.{either_eta, run_bind}
use Rattle.mini_laws.proofs.Truth.{coherent}
use Rattle.mini_terms.specs.Folds.{is_known}
use Rattle.mini_terms.specs.declared.kinds.Kind.{Kind}
use Rattle.mini_terms.specs.declared.kinds.Kind.TheVariants.{Undefined as IsUndefined, Null as IsNull, Boolean as IsBoolean, Number as IsNumber, String as IsString, Object as IsObject, Undetermined}
use Rattle.mini_terms.specs.Kind.{is_nullish_kind, kind, OfKind}
use Rattle.mini_terms.specs.Reading.{is_item, is_plain_part, by_value}
use Rattle.mini_terms.specs.Sound.{Gives}
use Rattle.mini_terms.proofs.Dropping.{weak}
use Rattle.mini_terms.proofs.Frame.{gives_map}
use Rattle.mini_terms.proofs.KindTable.{kind_sound}
use Rattle.mini_terms.proofs.Reading.{read_by_value, same_item}
use Rattle.mini_rows.specs.Chains.{is_calm, is_calm_link, Link, a_member, a_computed, a_call, linked, chain}
use Rattle.mini_rows.specs.ChainLinks.{is_there, is_lone_by, is_lone, Marked, marked, links_over, are_calm_over, has_mark, chain_if, Row64, Row11, ChainRow}
use Rattle.mini_rows.proofs.FoldMeaning.{plain_read}
use Rattle.mini_rows.proofs.ChainCalm.{Calm, calm_next}
use Rattle.mini_rows.proofs.ChainReferences.{deleted, linked_deleted, deleted_is, deleted_calm, ends_as, calmly, chain_called, chain_deleted, chain_typed, link_typed}
use Rattle.mini_rows.proofs.ChainRuns.{called, next, ends_if, value, linked_value, linked_called, chain_of, value_is, called_is, chain_value, chain_calm, link_calm, value_calm, same_first}

-- ---- a chain in a seat

-- the same as a value, as what is called, and under `delete`; and `typeof` asks it for its value
pub record AsChain (t w : Tree) : Type 0 where
  pub valued : (e : Environment) (z : State) → value e (chain t) z ≡ value e w z
  pub as_callee : (e : Environment) (z : State) → called e (chain t) z ≡ called e w z
  pub as_deleted : (e : Environment) (z : State) → deleted e (chain t) z ≡ deleted e w z
  pub typed : (e : Environment) (z : State) → means e w OfType tt z ≡ value e w z

-- so it is the same there
module _ (t w : Tree) (i : is_item w ≡ true) (h : AsChain t w) (e : Environment) (D X : VariableSet) where
  by_want : (u : Want) → Same e D X (As u) (chain t) w
  by_want u = by_equality e D X (As u) (chain t) w (λ v z. coherent (chain t) u e z ∙ ap (told u) (h.valued e z) ∙ sym (coherent w u e z))

  by_demand : (q : Demand) → Same e D X q (chain t) w
  unfolding means step
  by_demand (As u) = by_want u
  by_demand AnEntry = same_item e D X (chain t) w refl i (by_want Val)
  by_demand Callee = by_equality e D X Callee (chain t) w (λ v z. h.as_callee e z)
  by_demand OfType = by_equality e D X OfType (chain t) w (λ v z. chain_typed e t z ∙ h.valued e z ∙ sym (h.typed e z))
  by_demand Deleted = by_equality e D X Deleted (chain t) w (λ v z. h.as_deleted e z)
  by_demand q = record { by = λ r z j. weak D (means e w q r z) }

pub chain_in_seat : (s : Seat) (t w : Tree) → is_item w ≡ true → AsChain t w → SameAt (Expr s) (chain t) w
chain_in_seat s t w i h = record { by = λ e D X q f. by_demand t w i h e D X q }

-- ---- 64

-- a chain that ends in its midst is undefined, and so is what is called then

abbrev chain_called_of : Environment → Tree → Completion Called → Completion Called
chain_called_of e t x = either x (λ f z. ok f z) (λ y z. run {q = λ i. Callee} e (naming shape.ChainExpression Callee [] 0 (summaries (t ▸ none))) (λ i r z. meaning e (t ▸ none) i Callee r z) (chain_end Callee tt (ended y)) z)

called_chain : (e : Environment) (t : Tree) (s : State) → called e (chain t) s ≡ chain_called_of e t (called e t s)
unfolding means meaning step
called_chain e t s = refl

-- what goes on after a chain, and ends where that is undefined, goes on after what the chain holds
after_chain : {B : Type 0} (e : Environment) (t : Tree) (x : Completion Value) (f : Value → State → Completion B) → ((z : State) → f Undefined z ≡ stop Short z) → next (chain_of e t x) f ≡ next x f
unfolding either
after_chain e t (ok v z) f h = refl
after_chain e t (stop Short z) f h = h z
after_chain e t (stop y z) f h = refl
after_chain e t (halt y z) f h = refl
after_chain e t out f h = refl

after_called : (e : Environment) (t : Tree) (x : Completion Called) (f : Called → State → Completion Value) → ((z : State) → f (plain_call Undefined) z ≡ stop Short z) → next (chain_called_of e t x) f ≡ next x f
unfolding either
after_called e t (ok v z) f h = refl
after_called e t (stop Short z) f h = h z
after_called e t (stop y z) f h = refl
after_called e t (halt y z) f h = refl
after_called e t out f h = refl

abbrev pub plainly_called : Completion Value → Completion Called
plainly_called x = next x (λ v z. ok (plain_call v) z)

-- both do the same, as a value and as what is called
abbrev Alike : Environment → State → Tree → Tree → Type 0
Alike e s t u = (value e t s ≡ value e u s) × (called e t s ≡ called e u s)

link_joined : (e : Environment) (l : Link) (t : Tree) (v : Completion Value) (f : Completion Called) → (linked_value e true l (chain_of e t v) (chain_called_of e t f) ≡ linked_value e true l v f) × (linked_called e true l (chain_of e t v) (chain_called_of e t f) ≡ linked_called e true l v f)
link_joined e (a_member k) t v f = (after_chain e t v _ (λ z. refl), after_chain e t v _ (λ z. refl))
link_joined e (a_computed k) t v f = (after_chain e t v _ (λ z. refl), after_chain e t v _ (λ z. refl))
link_joined e (a_call ts) t v f = let whole = after_called e t f _ (λ z. refl) in (whole, ap plainly_called whole)

joined_alike : (e : Environment) (s : State) (l : Link) (t : Tree) → Alike e s (linked true l (chain t)) (linked true l t)
joined_alike e s l t =
    let same = link_joined e l t (value e t s) (called e t s) in
    (value_is e true l (chain t) s ∙ (λ i. linked_value e true l (chain_value e t s i) (called_chain e t s i)) ∙ same.0 ∙ sym (value_is e true l t s), called_is e true l (chain t) s ∙ (λ i. linked_called e true l (chain_value e t s i) (called_chain e t s i)) ∙ same.1 ∙ sym (called_is e true l t s))

-- so do links over them
over_alike : (e : Environment) (s : State) (ms : List Marked) (t u : Tree) → Alike e s t u → Alike e s (links_over ms t) (links_over ms u)
over_alike e s [] t u h = h
over_alike e s (marked o l ∷ ms) t u h =
    let r = over_alike e s ms t u h in
    (value_is e o l (links_over ms t) s ∙ (λ i. linked_value e o l (r.0 i) (r.1 i)) ∙ sym (value_is e o l (links_over ms u) s), called_is e o l (links_over ms t) s ∙ (λ i. linked_called e o l (r.0 i) (r.1 i)) ∙ sym (called_is e o l (links_over ms u) s))

chain_alike : (e : Environment) (t u : Tree) (x : Completion Value) → chain_of e t x ≡ chain_of e u x
unfolding either
chain_alike e t u (ok v z) = refl
chain_alike e t u (stop Short z) = refl
chain_alike e t u (stop y z) = refl
chain_alike e t u (halt y z) = refl
chain_alike e t u out = refl

chains_alike : (e : Environment) (s : State) (t u : Tree) → Alike e s t u → value e (chain t) s ≡ value e (chain u) s
chains_alike e s t u h = chain_value e t s ∙ ap (chain_of e t) h.0 ∙ chain_alike e t u (value e u s) ∙ sym (chain_value e u s)

-- what is called, and under `delete`

joined_deleted : (e : Environment) (s : State) (l : Link) (t : Tree) → deleted e (linked true l (chain t)) s ≡ deleted e (linked true l t) s
joined_deleted e s l t =
    deleted_is e true l (chain t) s
    ∙ (λ i. linked_deleted e true l (chain_value e t s i) (called_chain e t s i))
    ∙ by l (value e t s) (called e t s)
    ∙ sym (deleted_is e true l t s)
  where
    by : (l : Link) (v : Completion Value) (f : Completion Called) → linked_deleted e true l (chain_of e t v) (chain_called_of e t f) ≡ linked_deleted e true l v f
    by (a_member k) v f = after_chain e t v _ (λ z. refl)
    by (a_computed k) v f = after_chain e t v _ (λ z. refl)
    by (a_call ts) v f = ap (λ x. next x (λ v z. ok (AValue v) z)) (after_called e t f _ (λ z. refl))

over_deleted : (e : Environment) (s : State) (ms : List Marked) (t u : Tree) → Alike e s t u → deleted e t s ≡ deleted e u s → deleted e (links_over ms t) s ≡ deleted e (links_over ms u) s
over_deleted e s [] t u h d = d
over_deleted e s (marked o l ∷ ms) t u h d =
    let r = over_alike e s ms t u h in
    deleted_is e o l (links_over ms t) s ∙ (λ i. linked_deleted e o l (r.0 i) (r.1 i)) ∙ sym (deleted_is e o l (links_over ms u) s)

-- so a chain of one is that of the other
chain_as : (t u : Tree) → ((e : Environment) (s : State) → Alike e s t u) → ((e : Environment) (s : State) → deleted e t s ≡ deleted e u s) → AsChain t (chain u)
chain_as t u h d = record {
  valued = λ e z. chains_alike e z t u (h e z);
  as_callee = λ e z. chain_called e t z ∙ ap (ends_as (plain_call Undefined)) (h e z).1 ∙ sym (chain_called e u z);
  as_deleted = λ e z. chain_deleted e t z ∙ ap (ends_as (AValue Undefined)) (d e z) ∙ sym (chain_deleted e u z);
  typed = λ e z. chain_typed e u z;
}

joined_same : (s : Seat) (n w : Tree) → Row64 n w → SameAt (Expr s) n w
joined_same s n w r =
    let a : Tree = linked true r.link (chain r.inner) in
    let b : Tree = linked true r.link r.inner in
    subst (λ t. SameAt (Expr s) t w) (sym r.shape) (subst (SameAt (Expr s) (chain (links_over r.others a))) (sym r.written)
    (chain_in_seat s (links_over r.others a) (chain (links_over r.others b)) refl
    (chain_as (links_over r.others a) (links_over r.others b) (λ e z. over_alike e z r.others a b (joined_alike e z r.link r.inner)) (λ e z. over_deleted e z r.others a b (joined_alike e z r.link r.inner) (joined_deleted e z r.link r.inner)))))

-- ---- 11

present_by : (k : Kind) (v : Value) → is_known k ≡ true → not (is_nullish_kind k) ≡ true → OfKind k v → is_nullish v ≡ false
present_by IsBoolean (Boolean b) h g p = refl
present_by IsNumber (Number n) h g p = refl
present_by IsString (String t) h g p = refl
present_by IsObject (Object n f) h g p = refl
present_by IsUndefined v h g p = absurd (true≢false (sym g))
present_by IsNull v h g p = absurd (true≢false (sym g))
present_by Undetermined v h g p = absurd (true≢false (sym h))
present_by k v h g p = absurd p

abbrev Present : Value → Type 0
Present v = is_nullish v ≡ false

present : (e : Environment) (x : Tree) → is_there x ≡ true → (s : State) → Gives Present (value e x s)
present e x h s = let (known, there) = and_parts (is_known (kind x)) (not (is_nullish_kind (kind x))) h in gives_map (OfKind (kind x)) Present (λ v p. present_by (kind x) v known there p) (value e x s) (kind_sound x e s)

-- what is called is the value

lone_reads : (e : Environment) (names : Naming) (σ : ℕ → Demand) (c : Command σ Value) (K : Kids σ) (s : State) → run e names K (valued Callee tt c) s ≡ plainly_called (run e names K (valued (As Val) tt c) s)
lone_reads e names σ c K s = run_bind e names c (reply Callee tt) K s ∙ sym (ap plainly_called (run_bind e names c (reply (As Val) tt) K s ∙ either_eta (run e names K c s)))

lone_called : (e : Environment) (h : Shape) → is_lone_by h ≡ true → (xs : List Name) (n : ℕ) (ts : Trees) (s : State) → called e (node h xs n ts) s ≡ plainly_called (value e (node h xs n ts) s)
unfolding means step by_value either
lone_called e (shape.Function false g ds) p xs n ts s = lone_reads e (naming (shape.Function false g ds) (As Val) (variables xs) n (summaries ts)) (λ i. Stat None) (emit_mine Create []) (λ i r z. meaning e ts i (Stat None) r z) s
lone_called e (shape.Class false) p xs n ts s = lone_reads e (naming (shape.Class false) (As Val) (variables xs) n (summaries ts)) (λ i. Binds true) (emit_mine (NodeOf AnObject) []) (λ i r z. meaning e ts i (Binds true) r z) s
lone_called e (shape.BigIntLiteral m) p xs n ts s = refl
lone_called e h p xs n ts s = read_by_value (node h xs n ts) p e Callee tt s

pub base_called : (e : Environment) (x : Tree) → is_lone x ≡ true → (s : State) → called e x s ≡ plainly_called (value e x s)
base_called e (node h xs n ts) p s = lone_called e h p xs n ts s

closed_by : (e : Environment) (l : Link) (x : Completion Value) → Gives Present x → (linked_value e true l x (plainly_called x) ≡ linked_value e false l x (plainly_called x)) × (linked_called e true l x (plainly_called x) ≡ linked_called e false l x (plainly_called x))
unfolding either Gives
closed_by e l (ok v z) p = same_first e z v (plain_call v) p p refl l
closed_by e (a_member k) (stop y z) p = (refl, refl)
closed_by e (a_computed k) (stop y z) p = (refl, refl)
closed_by e (a_call ts) (stop y z) p = (refl, refl)
closed_by e (a_member k) (halt y z) p = (refl, refl)
closed_by e (a_computed k) (halt y z) p = (refl, refl)
closed_by e (a_call ts) (halt y z) p = (refl, refl)
closed_by e (a_member k) out p = (refl, refl)
closed_by e (a_computed k) out p = (refl, refl)
closed_by e (a_call ts) out p = (refl, refl)

-- neither ends a chain
abbrev CalmBoth : Environment → State → Tree → Type 0
CalmBoth e s t = Calm (value e t s) × Calm (called e t s)

link_calmly : (e : Environment) (s : State) (l : Link) (t : Tree) → is_calm_link l ≡ true → CalmBoth e s t → CalmBoth e s (linked false l t)
link_calmly e s l t p c = let b = link_calm e l p (value e t s) (called e t s) c.0 c.1 in (subst Calm (sym (value_is e false l t s)) b.0, subst Calm (sym (called_is e false l t s)) b.1)

over_calmly : (e : Environment) (s : State) (ms : List Marked) (t : Tree) → has_mark ms ≡ false → are_calm_over ms ≡ true → CalmBoth e s t → CalmBoth e s (links_over ms t)
over_calmly e s [] t h p c = c
over_calmly e s (marked true l ∷ ms) t h p c = absurd (true≢false h)
over_calmly e s (marked false l ∷ ms) t h p c = let (here, rest) = and_parts (is_calm_link l) (are_calm_over ms) p in link_calmly e s l (links_over ms t) here (over_calmly e s ms t h rest c)

module _ (e : Environment) (l : Link) (x : Tree) (reads : is_lone x ≡ true) (s : State) where
  closed_alike : is_there x ≡ true → Alike e s (linked true l x) (linked false l x)
  closed_alike there =
      let same = closed_by e l (value e x s) (present e x there s) in
      (value_is e true l x s ∙ ap (linked_value e true l (value e x s)) (base_called e x reads s) ∙ same.0 ∙ sym (value_is e false l x s ∙ ap (linked_value e false l (value e x s)) (base_called e x reads s)), called_is e true l x s ∙ ap (linked_called e true l (value e x s)) (base_called e x reads s) ∙ same.1 ∙ sym (called_is e false l x s ∙ ap (linked_called e false l (value e x s)) (base_called e x reads s)))

  base_calm : is_calm x ≡ true → CalmBoth e s x
  base_calm p = let c = value_calm e x p s in (c, subst Calm (sym (base_called e x reads s)) (calm_next (value e x s) (λ v z. ok (plain_call v) z) c (λ v z. tt)))

-- under `delete`

present_deleted : (e : Environment) (l : Link) (x : Completion Value) → Gives Present x → linked_deleted e true l x (plainly_called x) ≡ linked_deleted e false l x (plainly_called x)
unfolding either Gives
present_deleted e (a_member k) (ok v z) p = ap (λ b. ends_if b z (next (value e k z) (λ u y. ok (AMember v (key_value u)) y))) p
present_deleted e (a_computed k) (ok v z) p = ap (λ b. ends_if b z (next (value e k z) (λ u y. ok (AMember v (key_value u)) y))) p
present_deleted e (a_call ts) x p = ap (λ x. next x (λ v z. ok (AValue v) z)) (closed_by e (a_call ts) x p).0
present_deleted e (a_member k) x p = refl
present_deleted e (a_computed k) x p = refl

closed_deleted : (e : Environment) (l : Link) (x : Tree) → is_lone x ≡ true → is_there x ≡ true → (s : State) → deleted e (linked true l x) s ≡ deleted e (linked false l x) s
closed_deleted e l x reads there s =
    deleted_is e true l x s
    ∙ ap (linked_deleted e true l (value e x s)) (base_called e x reads s)
    ∙ present_deleted e l (value e x s) (present e x there s)
    ∙ sym (deleted_is e false l x s ∙ ap (linked_deleted e false l (value e x s)) (base_called e x reads s))

-- it ends no chain either
over_deleted_calmly : (e : Environment) (s : State) (ms : List Marked) (l : Link) (t : Tree) → has_mark ms ≡ false → are_calm_over ms ≡ true → is_calm_link l ≡ true → CalmBoth e s t → Calm (deleted e (links_over ms (linked false l t)) s)
over_deleted_calmly e s [] l t h p q c = subst Calm (sym (deleted_is e false l t s)) (deleted_calm e l q (value e t s) (called e t s) c.0 c.1)
over_deleted_calmly e s (marked true m ∷ ms) l t h p q c = absurd (true≢false h)
over_deleted_calmly e s (marked false m ∷ ms) l t h p q c =
    let (here, rest) = and_parts (is_calm_link m) (are_calm_over ms) p in
    let below : Tree = links_over ms (linked false l t) in
    let calm = over_calmly e s ms (linked false l t) h rest (link_calmly e s l t q c) in
    subst Calm (sym (deleted_is e false m below s)) (deleted_calm e m here (value e below s) (called e below s) calm.0 calm.1)

link_item : (o : Bool) (l : Link) (t : Tree) → is_item (linked o l t) ≡ true
link_item o (a_member k) t = refl
link_item o (a_computed k) t = refl
link_item o (a_call ts) t = refl

over_item : (b : Bool) (ms : List Marked) (o : Bool) (l : Link) (t : Tree) → is_item (chain_if b (links_over ms (linked o l t))) ≡ true
over_item true ms o l t = refl
over_item false [] o l t = link_item o l t
over_item false (marked p m ∷ ms) o l t = link_item p m (links_over ms (linked o l t))

link_plain : (l : Link) (t : Tree) → is_plain_part t ≡ true → is_plain_part (linked false l t) ≡ true
link_plain (a_member k) t e = e
link_plain (a_computed k) t e = e
link_plain (a_call ts) t e = e

over_plain : (ms : List Marked) (t : Tree) → has_mark ms ≡ false → is_plain_part t ≡ true → is_plain_part (links_over ms t) ≡ true
over_plain [] t h e = e
over_plain (marked true l ∷ ms) t h e = absurd (true≢false h)
over_plain (marked false l ∷ ms) t h e = link_plain l (links_over ms t) (over_plain ms t h e)

module _ (s : Seat) (n w : Tree) (r : Row11 s n w) where
  abbrev before : Tree
  before = links_over r.others (linked true r.link r.base)

  abbrev after : Tree
  after = links_over r.others (linked false r.link r.base)

  alike : (e : Environment) (z : State) → Alike e z before after
  alike e z = over_alike e z r.others (linked true r.link r.base) (linked false r.link r.base) (closed_alike e r.link r.base r.value z r.known)

  alike_deleted : (e : Environment) (z : State) → deleted e before z ≡ deleted e after z
  alike_deleted e z = over_deleted e z r.others (linked true r.link r.base) (linked false r.link r.base) (closed_alike e r.link r.base r.value z r.known) (closed_deleted e r.link r.base r.value r.known z)

  over_typed : (ms : List Marked) (e : Environment) (z : State) → means e (links_over ms (linked false r.link r.base)) OfType tt z ≡ value e (links_over ms (linked false r.link r.base)) z
  over_typed [] e z = link_typed e false r.link r.base z
  over_typed (marked o l ∷ ms) e z = link_typed e o l (links_over ms (linked false r.link r.base)) z

  calm_after : has_mark r.others ≡ false → (e : Environment) (z : State) → CalmBoth e z after
  calm_after h e z = over_calmly e z r.others (linked false r.link r.base) h r.calm_others (link_calmly e z r.link r.base r.calm (base_calm e r.link r.base r.value z r.calm_base))

  calm_deleted : has_mark r.others ≡ false → (e : Environment) (z : State) → Calm (deleted e after z)
  calm_deleted h e z = over_deleted_calmly e z r.others r.link r.base h r.calm_others r.calm (base_calm e r.link r.base r.value z r.calm_base)

  closed_as : (b : Bool) → has_mark r.others ≡ b → AsChain before (chain_if b after)
  closed_as true h = chain_as before after alike alike_deleted
  closed_as false h = record {
    valued = λ e z. chain_value e before z ∙ ap (chain_of e before) (alike e z).0 ∙ chain_calm e before (value e after z) (calm_after h e z).0;
    as_callee = λ e z. chain_called e before z ∙ ap (ends_as (plain_call Undefined)) (alike e z).1 ∙ calmly (plain_call Undefined) (called e after z) (calm_after h e z).1;
    as_deleted = λ e z. chain_deleted e before z ∙ ap (ends_as (AValue Undefined)) (alike_deleted e z) ∙ calmly (AValue Undefined) (deleted e after z) (calm_deleted h e z);
    typed = over_typed r.others;
  }

  closed_same : SameAt (Expr s) n w
  closed_same =
      subst (λ t. SameAt (Expr s) t w) (sym r.shape) (subst (SameAt (Expr s) (chain before)) (sym r.written)
      (chain_in_seat s before (chain_if (has_mark r.others) after) (over_item (has_mark r.others) r.others false r.link r.base) (closed_as (has_mark r.others) refl)))

  closed_read : (b : Bool) → has_mark r.others ≡ b → summary (chain before) ≡ summary (chain_if b after)
  closed_read true h = refl
  closed_read false h = sym (plain_read after (over_plain r.others (linked false r.link r.base) h (link_plain r.link r.base r.plain)))

-- ---- all

pub chains_same : (s : Seat) (n w : Tree) → ChainRow s n w → SameAt (Expr s) n w
chains_same s n w (inl r) = joined_same s n w r
chains_same s n w (inr r) = closed_same s n w r

pub chains_read : (s : Seat) (n w : Tree) → ChainRow s n w → summary n ≡ summary w
chains_read s n w (inl r) = ap summary r.shape ∙ sym (ap summary r.written)
chains_read s n w (inr r) = ap summary r.shape ∙ closed_read s n w r (has_mark r.others) refl ∙ sym (ap summary r.written)

-- Parts that may be evaluated before an expression rather than after it: of the same value whenever they are evaluated, or without an
-- effect, as the expression is.
use Rattle.std.proofs.Common.{◌≡◌, ℕ, zero, Bool, true, false, List, [], ◌∷◌, ◌⊎◌, inl, inr, refl, sym, ap, ◌∙◌, subst, true≢false}
use Rattle.std.specs.Prelude.{not, ◌&&◌, ◌||◌, None}
use Rattle.std.proofs.lemmas.Bool.{and_parts}
use Rattle.mini_model.specs.declared.kind.PropertyKind.TheVariants.{Init}
use Rattle.mini_model.specs.declared.name.Name.{Name}
use Rattle.mini_model.specs.declared.operator.UnaryOperator.TheVariants.{LogicalNot, Void}
use Rattle.mini_model.specs.declared.shape.Shape.{Shape}
use Rattle.mini_model.specs.declared.shape.Shape.TheVariants as shape
use Rattle.mini_model.specs.Tree.{Tree, Trees, node, none, ◌▸◌, shape_of}
use Rattle.mini_laws.specs.Value.{Value, Undefined, Null, Boolean, Number, String, Variable, VariableSet, truth, variables}
use Rattle.mini_laws.specs.State.{Entry, Item, State, Completion, ok, stop, halt, out, either, Environment}
use Rattle.mini_laws.specs.Demand.{Val, Demand, As, Callee, Target, AnEntry, Stat, Called, Reference, AName, AMember, Prepare, Fetch, Request, Reply, plain_call, says}
use Rattle.mini_laws.specs.Command.{ret, act, Kids, run}
use Rattle.mini_laws.specs.Naming.{NameKind, PlainName, EvalName, UndefinedName, NumberName, Summary, kinds, summaries, naming}
use Rattle.mini_laws.specs.Conversion.{key_value}
use Rattle.mini_laws.specs.Expressions.{property_entry, first_kind, get_identifier, is_eval}
use Rattle.mini_laws.specs.Step.{step, means, meaning}
use Rattle.mini_laws.specs.Same.{Goes, Agree}
use Rattle.mini_laws.specs.Truth.{told}
use Rattle.mini_laws.specs.Congruence.{Avoids, Apart}
use Rattle.mini_laws.proofs.Congruent.{insensitive}
use Rattle.mini_laws.proofs.Runs.{either_ok, run_bind, either_eta}
use Rattle.mini_node.specs.Children.{part}
use Rattle.mini_node.specs.Kinds.{is_identifier}
use Rattle.mini_terms.specs.Folds.{is_effect_free}
use Rattle.mini_terms.specs.Reading.{stands, is_item, by_value}
use Rattle.mini_terms.specs.Sound.{Quiet}
use Rattle.mini_terms.proofs.EffectsTable.{effect_free_sound}
use Rattle.mini_terms.proofs.Reading.{read_by_value}
use Rattle.mini_rows.specs.Unused.{is_written_value, is_value_operator, is_constant, is_word, is_member, is_field, passes}
use Rattle.mini_rows.proofs.ItemReads.{item_read}

-- an expression is asked for its value, as a callee, or as an item of a list
abbrev pub Replies : Demand → Type 0
Replies (As w) = Unit {0}
Replies Callee = Unit {0}
Replies AnEntry = Unit {0}
Replies q = ⊥

-- what a child does
abbrev pub Does : Demand → Type 0
Does q = (r : Request q) → State → Completion (Reply q r)

-- a request of what is evaluated before a read: of what is assigned to, the reference, and where nothing is lost its value
abbrev pub Mild : Bool → (q : Demand) → Request q → Type 0
Mild f (As w) r = Unit {0}
Mild f Callee r = Unit {0}
Mild f AnEntry r = Unit {0}
Mild f Target Prepare = Unit {0}
Mild f Target (Fetch reference) = f ≡ true
Mild f q r = ⊥

-- it replies the same in each state
abbrev pub Replying : (q : Demand) → Does q → Request q → Type 0
Replying q m r = (a : Reply q r) × ((s : State) → m r s ≡ ok a s)

-- it does nothing but reply, and replies the same whatever the dead variables hold
pub record Quietly (D : VariableSet) (q : Demand) (m : Does q) (r : Request q) : Type 0 where
  pub quiet : (s : State) → Quiet s (m r s)
  pub same : (s t : State) → Agree D s t → Goes true (λ a. Agree D) (Agree D) (Agree D) (m r s) (m r t)

-- ---- constants

module _ (e : Environment) where
  abbrev pub Gives : Tree → Type 0
  Gives t = (v : Value) × ((s : State) → means e t (As Val) tt s ≡ ok v s)

  not_there : (o : List Name) (n : ℕ) (t : Tree) → is_written_value (shape_of t) ≡ true → Gives (node (shape.UnaryExpression LogicalNot) o n (t ▸ none))
  unfolding means meaning step either
  not_there o n (node (shape.NumericLiteral m) xs k ts) c = (Boolean (not (truth (Number m))), λ s. refl)
  not_there o n (node (shape.StringLiteral m) xs k ts) c = (Boolean (not (truth (String m))), λ s. refl)
  not_there o n (node (shape.BooleanLiteral m) xs k ts) c = (Boolean (not m), λ s. refl)
  not_there o n (node shape.NullLiteral xs k ts) c = (Boolean true, λ s. refl)
  not_there o n (node h xs k ts) c = absurd (true≢false (sym c))

  void_there : (o : List Name) (n : ℕ) (t : Tree) → is_written_value (shape_of t) ≡ true → Gives (node (shape.UnaryExpression Void) o n (t ▸ none))
  unfolding means meaning step either
  void_there o n (node (shape.NumericLiteral m) xs k ts) c = (Undefined, λ s. refl)
  void_there o n (node (shape.StringLiteral m) xs k ts) c = (Undefined, λ s. refl)
  void_there o n (node (shape.BooleanLiteral m) xs k ts) c = (Undefined, λ s. refl)
  void_there o n (node shape.NullLiteral xs k ts) c = (Undefined, λ s. refl)
  void_there o n (node h xs k ts) c = absurd (true≢false (sym c))

  literal_there : (h : Shape) (xs : List Name) (n : ℕ) (ts : Trees) → is_written_value h ≡ true → Gives (node h xs n ts)
  unfolding means step
  literal_there (shape.NumericLiteral m) xs n ts c = (Number m, λ s. refl)
  literal_there (shape.StringLiteral m) xs n ts c = (String m, λ s. refl)
  literal_there (shape.BooleanLiteral m) xs n ts c = (Boolean m, λ s. refl)
  literal_there shape.NullLiteral xs n ts c = (Null, λ s. refl)
  literal_there h xs n ts c = absurd (true≢false (sym c))

  operator_there : (h : Shape) (xs : List Name) (n : ℕ) (t : Tree) → is_value_operator h ≡ true → is_written_value (shape_of t) ≡ true → Gives (node h xs n (t ▸ none))
  operator_there (shape.UnaryExpression LogicalNot) xs n t o c = not_there xs n t c
  operator_there (shape.UnaryExpression Void) xs n t o c = void_there xs n t c
  operator_there h xs n t o c = absurd (true≢false (sym o))

  literal_stands : (h : Shape) (xs : List Name) (n : ℕ) (ts : Trees) → is_written_value h ≡ true → stands (node h xs n ts) ≡ true
  literal_stands (shape.NumericLiteral m) xs n ts e = refl
  literal_stands (shape.StringLiteral m) xs n ts e = refl
  literal_stands (shape.BooleanLiteral m) xs n ts e = refl
  literal_stands shape.NullLiteral xs n ts e = refl
  literal_stands h xs n ts e = absurd (true≢false (sym e))

  operator_stands : (h : Shape) (xs : List Name) (n : ℕ) (ts : Trees) → is_value_operator h ≡ true → stands (node h xs n ts) ≡ true
  operator_stands (shape.UnaryExpression o) xs n ts e = refl
  operator_stands h xs n ts e = absurd (true≢false (sym e))

  -- which is read by its value
  abbrev pub Known : Tree → Type 0
  Known t = (stands t ≡ true) × Gives t

  pub value_there : (t : Tree) → is_constant t ≡ true → Known t
  value_there (node h xs n none) c = (literal_stands h xs n none c, literal_there h xs n none c)
  value_there (node h xs n (t ▸ (u ▸ ts))) c = (literal_stands h xs n (t ▸ (u ▸ ts)) c, literal_there h xs n (t ▸ (u ▸ ts)) c)
  value_there (node h xs n (t ▸ none)) c = by (is_written_value h) refl c
    where
      by : (b : Bool) → is_written_value h ≡ b → (b || (is_value_operator h && is_written_value (shape_of t))) ≡ true → Known (node h xs n (t ▸ none))
      by true w c = (literal_stands h xs n (t ▸ none) w, literal_there h xs n (t ▸ none) w)
      by false w c =
          let (o, v) = and_parts (is_value_operator h) (is_written_value (shape_of t)) c in
          (operator_stands h xs n (t ▸ none) o, operator_there h xs n t o v)

  pub replied : (q : Demand) → Replies q → (v : Value) (r : Request q) → (a : Reply q r) × ((s : State) → by_value q r (ok v s) ≡ ok a s)
  unfolding by_value told either
  replied (As w) u v r = (says w v, λ s. refl)
  replied Callee u v r = (plain_call v, λ s. refl)
  replied AnEntry u v r = (Item v, λ s. refl)
  replied q u v r = absurd u

  pub constant_replies : (t : Tree) → is_constant t ≡ true → (q : Demand) → Replies q → (r : Request q) → Replying q (means e t q) r
  constant_replies t c q u r =
      let (there, known) = value_there t c in
      let (v, f) = known in
      let (a, g) = replied q u v r in
      (a, λ s. read_by_value t there e q r s ∙ ap (by_value q r) (f s) ∙ g s)

  -- a key that is written out
  pub word_replies : (t : Tree) → is_word (shape_of t) ≡ true → Replying (As Val) (means e t (As Val)) tt
  unfolding means step
  word_replies (node (shape.IdentifierName m) xs n ts) c = (String m, λ s. refl)
  word_replies (node (shape.StringLiteral m) xs n ts) c = (String m, λ s. refl)
  word_replies (node (shape.NumericLiteral m) xs n ts) c = (Number m, λ s. refl)
  word_replies (node h xs n ts) c = absurd (true≢false (sym c))

  -- a property with such a key, as an entry: what its value does, and no more
  field_mapped : (b : Bool) (xs : List Name) (n : ℕ) (key v : Tree) → is_word (shape_of key) ≡ true → (g : Value → Entry) × ((s : State) → means e (node (shape.ObjectProperty Init false b false) xs n (key ▸ (v ▸ none))) AnEntry tt s ≡ either (means e v (As Val) tt s) (λ w z. ok (g w) z) (λ y z. stop y z))
  unfolding means meaning step either
  field_mapped b xs n (node (shape.IdentifierName m) ys k ts) v c = (λ w. property_entry Init (not (false || b || false)) (key_value (String m)) w, λ s. refl)
  field_mapped b xs n (node (shape.StringLiteral m) ys k ts) v c = (λ w. property_entry Init (not (false || b || false)) (key_value (String m)) w, λ s. refl)
  field_mapped b xs n (node (shape.NumericLiteral m) ys k ts) v c = (λ w. property_entry Init (not (false || b || false)) (key_value (Number m)) w, λ s. refl)
  field_mapped b xs n (node h ys k ts) v c = absurd (true≢false (sym c))

  abbrev pub Mapped : Tree → Type 0
  Mapped t = (g : Value → Entry) × ((s : State) → means e t AnEntry tt s ≡ either (means e (part t 1) (As Val) tt s) (λ w z. ok (g w) z) (λ y z. stop y z))

  pub field_is : (t : Tree) → is_field t ≡ true → Mapped t
  field_is (node (shape.ObjectProperty Init false b false) [] zero (key ▸ (v ▸ none))) c = field_mapped b [] 0 key v c
  field_is t c = absurd (true≢false (sym c))

  pub field_replies : (t : Tree) → is_field t ≡ true → Replying (As Val) (means e (part t 1) (As Val)) tt → Replying AnEntry (means e t AnEntry) tt
  field_replies t c r =
      let (g, is) = field_is t c in
      let (v, known) = r in
      (g v, λ s. is s ∙ ap (λ x. either x (λ w z. ok (g w) z) (λ y z. stop y z)) (known s) ∙ either_ok v s (λ w z. ok (g w) z) (λ y z. stop y z))

  -- a member that is assigned to, before it is: its object, its key, and no more
  abbrev Prepared : Tree → Tree → State → Completion Reference
  Prepared object key s = either (means e object (As Val) tt s) (λ v z. either (means e key (As Val) tt z) (λ u y. ok (AMember v (key_value u)) y) (λ y z. stop y z)) (λ y z. stop y z)

  member_prepares : (t : Tree) → is_member t ≡ true → (s : State) → means e t Target Prepare s ≡ Prepared (part t 0) (part t 1) s
  unfolding means meaning step either
  member_prepares (node (shape.StaticMemberExpression false) [] zero (object ▸ (key ▸ none))) c s = refl
  member_prepares (node (shape.ComputedMemberExpression false) [] zero (object ▸ (key ▸ none))) c s = refl
  member_prepares t c s = absurd (true≢false (sym c))

  pub member_replies : (t : Tree) → is_member t ≡ true → (v u : Value) (s : State) → means e (part t 0) (As Val) tt s ≡ ok v s → means e (part t 1) (As Val) tt s ≡ ok u s → means e t Target Prepare s ≡ ok (AMember v (key_value u)) s
  unfolding either
  member_replies t c v u s f g =
      member_prepares t c s ∙ ap (λ x. either x (λ v z. either (means e (part t 1) (As Val) tt z) (λ u y. ok (AMember v (key_value u)) y) (λ y z. stop y z)) (λ y z. stop y z)) f
      ∙ ap (λ x. either x (λ u y. ok (AMember v (key_value u)) y) (λ y z. stop y z)) g

  -- a name that is assigned to, before it is
  pub target_replies : (t : Tree) → is_identifier t ≡ true → Replying Target (means e t Target) Prepare
  unfolding means step
  target_replies (node shape.Identifier (y ∷ []) zero none) c = (AName, λ s. refl)
  target_replies t c = absurd (true≢false (sym c))

-- ---- without an effect

quiet_mapped : {A : Type 0} (f : Value → A) (s : State) (x : Completion Value) → Quiet s x → Quiet s (either x (λ v z. ok (f v) z) (λ y z. stop y z))
unfolding Quiet either
quiet_mapped f s (ok v t) h = h
quiet_mapped f s out h = tt
quiet_mapped f s (stop y t) h = absurd h
quiet_mapped f s (halt y t) h = absurd h

quiet_then : {A B : Type 0} (s : State) (x : Completion A) (f : A → State → Completion B) → Quiet s x → ((v : A) → Quiet s (f v s)) → Quiet s (either x f (λ y z. stop y z))
unfolding Quiet either
quiet_then s (ok v t) f h g = subst (λ z. Quiet s (f v z)) (sym h) (g v)
quiet_then s out f h g = tt
quiet_then s (stop y t) f h g = absurd h
quiet_then s (halt y t) f h g = absurd h

pub quiet_replying : (q : Demand) (m : Does q) (r : Request q) → Replying q m r → (s : State) → Quiet s (m r s)
unfolding Quiet
quiet_replying q m r a s = subst (Quiet s) (sym (a.1 s)) refl

quiet_called : (s : State) (x : Completion Value) → Quiet s x → Quiet s (by_value Callee tt x)
unfolding by_value
quiet_called s x h = quiet_mapped plain_call s x h

quiet_item : (s : State) (x : Completion Value) → Quiet s x → Quiet s (by_value AnEntry tt x)
unfolding by_value
quiet_item s x h = quiet_mapped Item s x h

module _ (e : Environment) where
  pub quiet_there : (t : Tree) → is_effect_free t ≡ true → (s : State) → Quiet s (means e t (As Val) tt s)
  quiet_there t f s = effect_free_sound t e true (λ h. absurd (true≢false h)) f Val s

  abbrev of_name : NameKind → Value → Called
  of_name k v = record { value = v; this_value = Undefined; direct = is_eval k }

  name_called : (xs : List Name) (n : ℕ) (ts : Trees) (s : State) → Quiet s (means e (node shape.Identifier xs n ts) (As Val) tt s) → Quiet s (means e (node shape.Identifier xs n ts) Callee tt s)
  unfolding means step
  name_called xs n ts s h =
      let names = naming shape.Identifier Callee (variables xs) n (summaries ts) in
      let k = first_kind (kinds xs) in
      let K = λ (i : ℕ) (r : Request (Stat None)) (z : State). meaning e ts i (Stat None) r z in
      subst (Quiet s) (sym (run_bind e names {q = λ i. Stat None} (get_identifier k) (λ v. ret (of_name k v)) K s))
      (quiet_mapped (of_name k) s (run {q = λ i. Stat None} e names K (get_identifier k) s)
      (subst (Quiet s) (run_bind e names {q = λ i. Stat None} (get_identifier k) (λ v. ret v) K s ∙ either_eta (run {q = λ i. Stat None} e names K (get_identifier k) s)) h))

  -- what is read of a name is the same, whatever else is asked of it
  name_alike : (xs : List Variable) (n : ℕ) (is : List Summary) (k : NameKind) (K : Kids (λ i. Stat None)) (s : State) → run {q = λ i. Stat None} e (naming shape.Identifier (As Val) xs n is) K (get_identifier k) s ≡ run {q = λ i. Stat None} e (naming shape.Identifier Target xs n is) K (get_identifier k) s
  unfolding act
  name_alike xs n is PlainName K s = refl
  name_alike xs n is EvalName K s = refl
  name_alike xs n is UndefinedName K s = refl
  name_alike xs n is NumberName K s = refl

  name_fetched : (xs : List Name) (n : ℕ) (ts : Trees) (reference : Reference) (s : State) → Quiet s (means e (node shape.Identifier xs n ts) (As Val) tt s) → Quiet s (means e (node shape.Identifier xs n ts) Target (Fetch reference) s)
  unfolding means step
  name_fetched xs n ts reference s h =
      let names = naming shape.Identifier (As Val) (variables xs) n (summaries ts) in
      let k = first_kind (kinds xs) in
      let K = λ (i : ℕ) (r : Request (Stat None)) (z : State). meaning e ts i (Stat None) r z in
      subst (Quiet s) (run_bind e names {q = λ i. Stat None} (get_identifier k) (λ v. ret v) K s ∙ either_eta (run {q = λ i. Stat None} e names K (get_identifier k) s) ∙ name_alike (variables xs) n (summaries ts) k K s) h

  fetched_quiet : (t : Tree) → is_identifier t ≡ true → is_effect_free t ≡ true → (reference : Reference) (s : State) → Quiet s (means e t Target (Fetch reference) s)
  fetched_quiet (node shape.Identifier (y ∷ []) zero none) i f reference s = name_fetched (y ∷ []) 0 none reference s (quiet_there (node shape.Identifier (y ∷ []) 0 none) f s)
  fetched_quiet t i f reference s = absurd (true≢false (sym i))

  called_quiet : (t : Tree) → is_effect_free t ≡ true → is_item t ≡ true → (s : State) → Quiet s (means e t Callee tt s)
  unfolding means step Quiet
  called_quiet (node shape.Identifier xs n ts) f i s = name_called xs n ts s (quiet_there (node shape.Identifier xs n ts) f s)
  called_quiet (node (shape.BigIntLiteral m) xs n ts) f i s = tt
  called_quiet (node (shape.StaticMemberExpression b) xs n ts) f i s = absurd (true≢false (sym f))
  called_quiet (node (shape.ComputedMemberExpression b) xs n ts) f i s = absurd (true≢false (sym f))
  called_quiet (node (shape.PrivateFieldExpression b) xs n ts) f i s = absurd (true≢false (sym f))
  called_quiet (node shape.SuperStaticMemberExpression xs n ts) f i s = absurd (true≢false (sym f))
  called_quiet (node shape.SuperComputedMemberExpression xs n ts) f i s = absurd (true≢false (sym f))
  called_quiet (node (shape.Function d g ds) xs n ts) f i s = absurd (true≢false (sym f))
  called_quiet (node (shape.Class d) xs n ts) f i s = absurd (true≢false (sym f))
  called_quiet (node shape.ChainExpression xs n ts) f i s = absurd (true≢false (sym f))
  called_quiet (node h xs n ts) f i s = subst (Quiet s) (sym (read_by_value (node h xs n ts) i e Callee tt s)) (quiet_called s (means e (node h xs n ts) (As Val) tt s) (quiet_there (node h xs n ts) f s))

  effect_free_quiet : (t : Tree) → is_effect_free t ≡ true → is_item t ≡ true → (q : Demand) → Replies q → (r : Request q) (s : State) → Quiet s (means e t q r s)
  effect_free_quiet t f i (As w) u r s = effect_free_sound t e true (λ h. absurd (true≢false h)) f w s
  effect_free_quiet t f i Callee u r s = called_quiet t f i s
  effect_free_quiet t f i AnEntry u r s = subst (Quiet s) (sym (item_read t i e s)) (quiet_item s (means e t (As Val) tt s) (quiet_there t f s))
  effect_free_quiet t f i q u r s = absurd u

  pub quietly : (D : VariableSet) → Apart e D → (t : Tree) → Avoids D t → is_effect_free t ≡ true → is_item t ≡ true → (q : Demand) → Replies q → (r : Request q) → Quietly D q (means e t q) r
  quietly D apart t a f i q u r = record { quiet = λ s. effect_free_quiet t f i q u r s; same = λ s z g. insensitive e D apart t a q r s z g }

  pub field_quietly : (D : VariableSet) → Apart e D → (t : Tree) → Avoids D t → is_field t ≡ true → ((s : State) → Quiet s (means e (part t 1) (As Val) tt s)) → Quietly D AnEntry (means e t AnEntry) tt
  field_quietly D apart t a c q =
      let (g, is) = field_is e t c in
      record { quiet = λ s. subst (Quiet s) (sym (is s)) (quiet_mapped g s (means e (part t 1) (As Val) tt s) (q s)); same = λ s z k. insensitive e D apart t a AnEntry tt s z k }

  quiet_member : (t : Tree) → is_member t ≡ true → ((s : State) → Quiet s (means e (part t 0) (As Val) tt s)) → ((s : State) → Quiet s (means e (part t 1) (As Val) tt s)) → (s : State) → Quiet s (means e t Target Prepare s)
  unfolding Quiet
  quiet_member t c f g s =
      subst (Quiet s) (sym (member_prepares e t c s))
      (quiet_then s (means e (part t 0) (As Val) tt s) _ (f s) (λ v. quiet_then s (means e (part t 1) (As Val) tt s) _ (g s) (λ u. refl)))

  pub member_quietly : (D : VariableSet) → Apart e D → (t : Tree) → Avoids D t → is_member t ≡ true → ((s : State) → Quiet s (means e (part t 0) (As Val) tt s)) → ((s : State) → Quiet s (means e (part t 1) (As Val) tt s)) → Quietly D Target (means e t Target) Prepare
  member_quietly D apart t a c f g = record { quiet = λ s. quiet_member t c f g s; same = λ s z k. insensitive e D apart t a Target Prepare s z k }

  pub fetched_quietly : (D : VariableSet) → Apart e D → (t : Tree) → Avoids D t → is_identifier t ≡ true → is_effect_free t ≡ true → (reference : Reference) → Quietly D Target (means e t Target) (Fetch reference)
  fetched_quietly D apart t a i f reference = record { quiet = λ s. fetched_quiet t i f reference s; same = λ s z g. insensitive e D apart t a Target (Fetch reference) s z g }

-- ---- what passes

pub passes_by : (r t : Tree) → is_constant r ≡ false → passes r t ≡ true → (is_constant t ≡ true) ⊎ ((is_effect_free r ≡ true) × (is_effect_free t ≡ true) × (is_item t ≡ true))
passes_by r t d e = by (is_constant t) refl (sym (ap (λ b. b || (is_constant t || (is_effect_free r && (is_effect_free t && is_item t)))) d) ∙ e)
  where
    by : (b : Bool) → is_constant t ≡ b → (b || (is_effect_free r && (is_effect_free t && is_item t))) ≡ true → (is_constant t ≡ true) ⊎ ((is_effect_free r ≡ true) × (is_effect_free t ≡ true) × (is_item t ≡ true))
    by true c e = inl c
    by false c e =
        let (f, g) = and_parts (is_effect_free r) (is_effect_free t && is_item t) e in
        let (h, i) = and_parts (is_effect_free t) (is_item t) g in
        inr (f, h, i)

-- What an operator makes of a member, and an assignment to it, is what the one assignment of that operator does (35), where the object does
-- nothing but give a value; and what a test chooses may be assigned to a member of a name (45).
use Rattle.std.proofs.Common.{◌≡◌, ℕ, Bool, true, false, Option, Some, None, List, [], ◌∷◌, refl, sym, ap, subst, ◌∙◌, true≢false}
use Rattle.std.specs.Prelude.{is_none}
use Rattle.mini_model.specs.declared.name.Name.{Name}
use Rattle.mini_model.specs.declared.operator.AssignmentOperator.{AssignmentOperator}
use Rattle.mini_model.specs.declared.operator.AssignmentOperator.TheVariants as assigning
use Rattle.mini_model.specs.declared.operator.BinaryOperator.{BinaryOperator}
use Rattle.mini_model.specs.declared.operator.BinaryOperator.TheVariants as binary_operator
use Rattle.mini_model.specs.declared.seat.Seat.{Seat}
use Rattle.mini_model.specs.declared.shape.Shape.TheVariants as shape
use Rattle.mini_model.specs.Tree.{Tree, none, ◌▸◌, identifier, conditional}
use Rattle.mini_laws.specs.Value.{Value, Number, String, choose, is_nullish}
use Rattle.mini_laws.specs.State.{GetOf, Entry, Item, State, Completion, ok, stop, either, Environment}
use Rattle.mini_laws.specs.Demand.{Val, Demand, As, Target, Reference, AMember, AFetched, Prepare, Fetch, Put}
use Rattle.mini_laws.specs.Command.{Naming, Command, bind, emit, act, Kids, run}
use Rattle.mini_laws.specs.Naming.{summaries, naming}
use Rattle.mini_laws.specs.Replies.{reply, raise, or_event, operate}
use Rattle.mini_laws.specs.Conversion.{key_value, known_member}
use Rattle.mini_laws.specs.Expressions.{operate_by}
use Rattle.mini_laws.specs.Targets.{AssignDemand, put_target, after_read}
use Rattle.mini_laws.specs.Step.{step, means, meaning}
use Rattle.mini_laws.proofs.Runs.{either_cong, either_eta, either_assoc, either_out, run_bind}
use Rattle.mini_rows.specs.Spellings.{binary, assignment}
use Rattle.mini_rows.specs.Choices.{Key, Named, Spelled, Numbered, member_on, member_of, computing, Row35Member, Row45Member, ChosenMemberRow}
use Rattle.mini_rows.proofs.ChainRuns.{next}
use Rattle.mini_rows.proofs.ChoiceFree.{goes_on_chosen, begins_alike, Told, told_there}
use Rattle.mini_rows.proofs.ChoiceRuns.{value, by_value, Reading, reading, by_told, operate_free, conditional_tells, conditional_value, assignment_tells, binary_names, binary_value, sides}
use Rattle.mini_rows.proofs.SpellAlike.{SameTree}
use Rattle.mini_rows.proofs.SpellMeaning.{same_by}

-- the property key
abbrev pub key_text : Key → Value
key_text (Named s) = String s
key_text (Spelled s) = String s
key_text (Numbered k) = key_value (Number k)

-- ---- a member is read alike whatever asks for it

module _ (e : Environment) (m n : Naming) (σ τ : ℕ → Demand) (K : Kids σ) (L : Kids τ) where
  fetched_by : (b : Bool) (known : Option Value) (es : List Entry) (z : State) → run {q = σ} e m K (bind (choose b raise (or_event known (emit GetOf es))) (reply (As Val) tt)) z ≡ run {q = τ} e n L (choose b raise (or_event known (emit GetOf es))) z
  unfolding act
  fetched_by true known es z = refl
  fetched_by false (Some v) es z = refl
  fetched_by false None es z = refl

-- of any object
module _ (e : Environment) (t : Tree) where
  abbrev pub at : Key → Value → Reference
  at k v = AMember v (key_text k)

  pub prepared : (k : Key) (s : State) → means e (member_on t k) Target Prepare s ≡ next (value e t s) (λ v z. ok (at k v) z)
  unfolding means meaning step either
  prepared (Named i) s = refl
  prepared (Spelled i) s = refl
  prepared (Numbered j) s = refl

  abbrev pub fetch : Key → Value → State → Completion Value
  fetch k v z = means e (member_on t k) Target (Fetch (at k v)) z

  abbrev pub put : Key → Value → Value → State → Completion Value
  put k v u z = next (means e (member_on t k) Target (Put (at k v) u) z) (λ o j. ok u j)

  pub member_value : (k : Key) (s : State) → value e (member_on t k) s ≡ next (value e t s) (λ v z. fetch k v z)
  unfolding means meaning step either
  member_value (Named i) s = either_cong (value e t s) _ _ _ _ (λ v z. fetched_by e _ _ (λ i. As Val) (λ i. As Val) _ _ (is_nullish v) (known_member v (String i)) (Item v ∷ Item (String i) ∷ []) z) (λ y z. refl)
  member_value (Spelled i) s = either_cong (value e t s) _ _ _ _ (λ v z. fetched_by e _ _ (λ i. As Val) (λ i. As Val) _ _ (is_nullish v) (known_member v (String i)) (Item v ∷ Item (String i) ∷ []) z) (λ y z. refl)
  member_value (Numbered j) s = either_cong (value e t s) _ _ _ _ (λ v z. fetched_by e _ _ (λ i. As Val) (λ i. As Val) _ _ (is_nullish v) (known_member v (key_value (Number j))) (Item v ∷ Item (key_value (Number j)) ∷ []) z) (λ y z. refl)

  -- its key is a text, so that it is converted no more
  pub put_again : (k : Key) (v u : Value) (z : State) → means e (member_on t k) Target (Put (AFetched v (key_text k)) u) z ≡ means e (member_on t k) Target (Put (at k v) u) z
  unfolding means step
  put_again (Named i) v u z = refl
  put_again (Spelled i) v u z = refl
  put_again (Numbered j) v u z = refl

  -- ---- assignments

  pub assigned_value : (k : Key) (b : Tree) (s : State) → value e (assignment assigning.Assign (member_on t k) b) s ≡ next (value e t s) (λ v z. next (value e b z) (λ u y. put k v u y))
  unfolding means meaning step either
  assigned_value k b s =
      ap (λ p. next p (λ r z. next (value e b z) (λ u y. next (means e (member_on t k) Target (Put r u) y) (λ o j. ok u j)))) (prepared k s)
      ∙ either_assoc (value e t s) (λ v z. ok (at k v) z) (λ y z. stop y z) _ _

  abbrev pub names : AssignmentOperator → Key → Tree → Naming
  names c k b = naming (shape.AssignmentExpression c) (As Val) [] 0 (summaries (member_on t k ▸ b ▸ none))

  abbrev pub kids : Key → Tree → Kids AssignDemand
  kids k b i r z = meaning e (member_on t k ▸ b ▸ none) i (AssignDemand i) r z

  -- what a computed value is put to
  puts_out : (c : AssignmentOperator) (k : Key) (b : Tree) (v : Value) (d : Command AssignDemand Value) (z : State) → run {q = AssignDemand} e (names c k b) (kids k b) (bind (bind d (put_target (AFetched v (key_text k)))) (reply (As Val) tt)) z ≡ next (run {q = AssignDemand} e (names c k b) (kids k b) d z) (λ u y. put k v u y)
  unfolding meaning
  puts_out c k b v d z =
      run_bind e (names c k b) (bind d (put_target (AFetched v (key_text k)))) (reply (As Val) tt) (kids k b) z
      ∙ either_eta (run {q = AssignDemand} e (names c k b) (kids k b) (bind d (put_target (AFetched v (key_text k)))) z)
      ∙ run_bind e (names c k b) d (put_target (AFetched v (key_text k))) (kids k b) z
      ∙ either_cong (run {q = AssignDemand} e (names c k b) (kids k b) d z) _ _ _ _ (λ u y. ap (λ p. next p (λ o j. ok u j)) (put_again k v u y)) (λ u y. refl)

  -- what the operator makes of the old value
  abbrev made : BinaryOperator → Key → Tree → Value → Value → State → Completion Value
  made o k b a u y = run {q = λ i. As Val} e (binary_names o (member_on t k) b) (sides e (member_on t k) b) (operate o a u) y

  abbrev Computes : BinaryOperator → Key → Tree → AssignmentOperator → Type 0
  Computes o k b c = (s : State) → value e (assignment c (member_on t k) b) s ≡ next (value e t s) (λ v z. next (fetch k v z) (λ a y. next (value e b y) (λ u j. next (made o k b a u j) (λ w l. put k v w l))))

  computed : (o : BinaryOperator) (c : AssignmentOperator) (k : Key) (b : Tree) (v : Value) (z : State) → next (fetch k v z) (λ a y. next (value e b y) (λ u j. run {q = AssignDemand} e (names c k b) (kids k b) (bind (bind (operate o a u) (put_target (AFetched v (key_text k)))) (reply (As Val) tt)) j)) ≡ next (fetch k v z) (λ a y. next (value e b y) (λ u j. next (made o k b a u j) (λ w l. put k v w l)))
  computed o c k b v z =
      either_cong (fetch k v z) _ _ _ _
      (λ a y. either_cong (value e b y) _ _ _ _
      (λ u j. puts_out c k b v (operate o a u) j ∙ ap (λ p. next p (λ w l. put k v w l)) (operate_free e (names c k b) (binary_names o (member_on t k) b) AssignDemand (λ i. As Val) (kids k b) (sides e (member_on t k) b) o a u j))
      (λ u j. refl))
      (λ a y. refl)

  -- the assignment of a kind
  abbrev OfKind : BinaryOperator → AssignmentOperator → Key → Tree → Type 0
  OfKind o c k b = (s : State) → value e (assignment c (member_on t k) b) s ≡ next (means e (member_on t k) Target Prepare s) (λ r z. next (means e (member_on t k) Target (Fetch r) z) (λ a y. next (value e b y) (λ u j. run {q = AssignDemand} e (names c k b) (kids k b) (bind (bind (operate o a u) (put_target (after_read r))) (reply (As Val) tt)) j)))

  by_kind : (o : BinaryOperator) (c : AssignmentOperator) (k : Key) (b : Tree) → OfKind o c k b → Computes o k b c
  unfolding either
  by_kind o c k b h s =
      h s
      ∙ ap (λ p. next p (λ r z. next (means e (member_on t k) Target (Fetch r) z) (λ a y. next (value e b y) (λ u j. run {q = AssignDemand} e (names c k b) (kids k b) (bind (bind (operate o a u) (put_target (after_read r))) (reply (As Val) tt)) j)))) (prepared k s)
      ∙ either_assoc (value e t s) (λ v z. ok (at k v) z) (λ y z. stop y z) _ _
      ∙ either_cong (value e t s) _ _ _ _ (λ v z. computed o c k b v z) (λ y z. refl)

  -- ---- both

  abbrev SameMember : BinaryOperator → Key → Tree → AssignmentOperator → Type 0
  SameMember o k b c = (s : State) → value e (assignment assigning.Assign (member_on t k) (binary o (member_on t k) b)) s ≡ value e (assignment c (member_on t k) b) s

  at_value : (o : BinaryOperator) (k : Key) (b : Tree) → ((a u : Value) → operate_by {σ = λ i. As Val} o a u ≡ operate o a u) → (s : State) (v : Value) → value e t s ≡ ok v s → next (value e (binary o (member_on t k) b) s) (λ u y. put k v u y) ≡ next (fetch k v s) (λ a y. next (value e b y) (λ u j. next (made o k b a u j) (λ w l. put k v w l)))
  unfolding either
  at_value o k b f s v q =
      ap (λ p. next p (λ u y. put k v u y)) (binary_value e o (member_on t k) b s ∙ ap (λ p. next p (λ a y. next (value e b y) (λ u j. run {q = λ i. As Val} e (binary_names o (member_on t k) b) (sides e (member_on t k) b) (operate_by o a u) j))) (member_value k s ∙ ap (λ p. next p (λ v z. fetch k v z)) q))
      ∙ either_assoc (fetch k v s) _ _ _ _
      ∙ either_cong (fetch k v s) _ _ _ _ (λ a y. either_assoc (value e b y) _ _ _ _ ∙ either_cong (value e b y) _ _ _ _ (λ u j. ap (λ d. next (run {q = λ i. As Val} e (binary_names o (member_on t k) b) (sides e (member_on t k) b) d j) (λ w l. put k v w l)) (f a u)) (λ u j. refl)) (λ a y. refl)

  both : (told : (s : State) → Reading (value e t s) s) (o : BinaryOperator) (c : AssignmentOperator) (k : Key) (b : Tree) → ((a u : Value) → operate_by {σ = λ i. As Val} o a u ≡ operate o a u) → OfKind o c k b → SameMember o k b c
  both told o c k b f h s =
      assigned_value k (binary o (member_on t k) b) s
      ∙ by_told (value e t s) s (told s) (λ v z. next (value e (binary o (member_on t k) b) z) (λ u y. put k v u y)) (λ v z. next (fetch k v z) (λ a y. next (value e b y) (λ u j. next (made o k b a u j) (λ w l. put k v w l)))) (λ v q. at_value o k b f s v q)
      ∙ sym (by_kind o c k b h s)

  pub member_value_same : (told : (s : State) → Reading (value e t s) s) (o : BinaryOperator) (c : AssignmentOperator) → computing o ≡ Some c → (k : Key) (b : Tree) → SameMember o k b c
  unfolding means meaning step either
  member_value_same told binary_operator.Addition c h k b = subst (SameMember binary_operator.Addition k b) {x = assigning.Addition} {y = c} (cc h) (both told binary_operator.Addition assigning.Addition k b (λ a u. refl) (λ s. refl))
  member_value_same told binary_operator.Subtraction c h k b = subst (SameMember binary_operator.Subtraction k b) {x = assigning.Subtraction} {y = c} (cc h) (both told binary_operator.Subtraction assigning.Subtraction k b (λ a u. refl) (λ s. refl))
  member_value_same told binary_operator.Multiplication c h k b = subst (SameMember binary_operator.Multiplication k b) {x = assigning.Multiplication} {y = c} (cc h) (both told binary_operator.Multiplication assigning.Multiplication k b (λ a u. refl) (λ s. refl))
  member_value_same told binary_operator.Division c h k b = subst (SameMember binary_operator.Division k b) {x = assigning.Division} {y = c} (cc h) (both told binary_operator.Division assigning.Division k b (λ a u. refl) (λ s. refl))
  member_value_same told binary_operator.Remainder c h k b = subst (SameMember binary_operator.Remainder k b) {x = assigning.Remainder} {y = c} (cc h) (both told binary_operator.Remainder assigning.Remainder k b (λ a u. refl) (λ s. refl))
  member_value_same told binary_operator.Exponential c h k b = subst (SameMember binary_operator.Exponential k b) {x = assigning.Exponential} {y = c} (cc h) (both told binary_operator.Exponential assigning.Exponential k b (λ a u. refl) (λ s. refl))
  member_value_same told binary_operator.ShiftLeft c h k b = subst (SameMember binary_operator.ShiftLeft k b) {x = assigning.ShiftLeft} {y = c} (cc h) (both told binary_operator.ShiftLeft assigning.ShiftLeft k b (λ a u. refl) (λ s. refl))
  member_value_same told binary_operator.ShiftRight c h k b = subst (SameMember binary_operator.ShiftRight k b) {x = assigning.ShiftRight} {y = c} (cc h) (both told binary_operator.ShiftRight assigning.ShiftRight k b (λ a u. refl) (λ s. refl))
  member_value_same told binary_operator.ShiftRightZeroFill c h k b = subst (SameMember binary_operator.ShiftRightZeroFill k b) {x = assigning.ShiftRightZeroFill} {y = c} (cc h) (both told binary_operator.ShiftRightZeroFill assigning.ShiftRightZeroFill k b (λ a u. refl) (λ s. refl))
  member_value_same told binary_operator.BitwiseAnd c h k b = subst (SameMember binary_operator.BitwiseAnd k b) {x = assigning.BitwiseAnd} {y = c} (cc h) (both told binary_operator.BitwiseAnd assigning.BitwiseAnd k b (λ a u. refl) (λ s. refl))
  member_value_same told binary_operator.BitwiseXor c h k b = subst (SameMember binary_operator.BitwiseXor k b) {x = assigning.BitwiseXor} {y = c} (cc h) (both told binary_operator.BitwiseXor assigning.BitwiseXor k b (λ a u. refl) (λ s. refl))
  member_value_same told binary_operator.BitwiseOr c h k b = subst (SameMember binary_operator.BitwiseOr k b) {x = assigning.BitwiseOr} {y = c} (cc h) (both told binary_operator.BitwiseOr assigning.BitwiseOr k b (λ a u. refl) (λ s. refl))
  member_value_same told o c h k b = absurd (cc h)

pub member_same : (n w : Tree) → Row35Member n w → SameTree n w
member_same n w r =
    same_by n w _ _ r.shape r.written
    (by_value _ _ (assignment_tells assigning.Assign (member_of r.name r.key) (binary r.operator (member_of r.name r.key) r.b)) (assignment_tells r.combined (member_of r.name r.key) r.b) refl
    (λ e s. member_value_same e (identifier r.name) (reading e r.name r.declared) r.operator r.combined r.computes r.key r.b s))

-- ---- what a test without an effect chooses

chosen_member : (e : Environment) (a : Tree) (x : Name) (k : Key) (b c : Tree) (s : State) → is_none x.symbol ≡ false → Told (value e a s) s → value e (conditional a (assignment assigning.Assign (member_of x k) b) (assignment assigning.Assign (member_of x k) c)) s ≡ value e (assignment assigning.Assign (member_of x k) (conditional a b c)) s
chosen_member e a x k b c s declared quiet =
    let m : Tree = member_of x k in
    let goes_on : Value → Completion Value → Completion Value = λ v y. next y (λ u z. put e (identifier x) k v u z) in
    let follows : Tree → Value → State → Completion Value = λ t v z. goes_on v (value e t z) in
    conditional_value e a (assignment assigning.Assign m b) (assignment assigning.Assign m c) s
    ∙ begins_alike s (value e (identifier x) s) (value e a s) (reading e x declared s) quiet (follows b) (follows c) (follows (conditional a b c))
    (λ v. ap (goes_on v) (conditional_value e a b c s) ∙ goes_on_chosen (goes_on v) (either_out _ _) (value e a s) s quiet (λ z. value e b z) (λ z. value e c z))
    (λ z. value e (assignment assigning.Assign m b) z) (λ z. value e (assignment assigning.Assign m c) z) (assigned_value e (identifier x) k b s) (assigned_value e (identifier x) k c s)
    ∙ sym (assigned_value e (identifier x) k (conditional a b c) s)

-- where `this` is asked of the world only if it has an effect
pub member_chosen_there : (e : Environment) (asked : Bool) → (asked ≡ false → e.asks_this ≡ false) → (q : Seat) (n w : Tree) (r : ChosenMemberRow asked q n w) (s : State) → value e (conditional r.a (assignment assigning.Assign (member_of r.name r.key) r.b) (assignment assigning.Assign (member_of r.name r.key) r.c)) s ≡ value e (assignment assigning.Assign (member_of r.name r.key) (conditional r.a r.b r.c)) s
member_chosen_there e asked f q n w r s = chosen_member e r.a r.name r.key r.b r.c s r.declared (told_there e asked f r.a r.effect_free s)

pub member_chosen_same : (s : Seat) (n w : Tree) → Row45Member s n w → SameTree n w
member_chosen_same s n w r =
    same_by n w _ _ r.shape r.written
    (by_value _ _ (conditional_tells r.a _ _) (assignment_tells assigning.Assign (member_of r.name r.key) (conditional r.a r.b r.c)) refl
    (λ e y. member_chosen_there e true (λ f. absurd (true≢false f)) s n w r y))

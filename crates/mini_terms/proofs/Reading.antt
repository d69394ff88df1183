-- Expressions that are read by their value alone.
use Rattle.std.specs.Prelude.{◌&&◌, ◌||◌, not, is_none}
use Rattle.mini_model.specs.declared.place.Position.TheVariants.{Expr}
use Rattle.mini_model.specs.declared.seat.Guard.{Guard}
use Rattle.mini_model.specs.declared.seat.Guard.TheVariants as guard
use Rattle.mini_model.specs.declared.seat.Seat.{Seat}
use Rattle.std.proofs.Common.{◌≡◌, ℕ, Bool, true, false, List, [], ◌∷◌, Option, Some, None, refl, sym, ap, ◌∙◌, subst, true≢false}
use Rattle.mini_model.specs.declared.name.Name.{Name}
use Rattle.mini_model.specs.declared.name.SymbolId.{SymbolId}
use Rattle.mini_model.specs.declared.shape.Shape.{Shape}
use Rattle.mini_model.specs.declared.shape.Shape.TheVariants as shape
use Rattle.mini_model.specs.Tree.{Tree, Trees, node}
use Rattle.mini_laws.specs.Value.{Value, Null, Boolean, Number, String, Declared, VariableSet, variables}
use Rattle.mini_laws.specs.State.{Anything, ABoolean, AnObject, NodeOf, Create, Item, Short, done, ended, State, Completion, ok, stop, halt, out, either, Environment}
use Rattle.mini_laws.specs.Demand.{Want, Val, Test, Demand, As, Callee, OfType, Target, AnEntry, Deleted, Items, Parts, Texts, Stat, Binds, AValue, Request, Reply, Says, says, plain_call}
use Rattle.mini_laws.specs.Command.{Naming, Command, ret, op, self, then, bind, emit_mine, Kids, act, at_variable, run}
use Rattle.mini_laws.specs.Naming.{NameKind, PlainName, EvalName, UndefinedName, NumberName, kind_declared, kinds, first_facts, texts_all, summaries, facts, naming}
use Rattle.mini_laws.specs.Asking.{pass, first_demand, logical_demand, operand_demand}
use Rattle.mini_laws.specs.Replies.{reply, valued, passed, passing}
use Rattle.mini_laws.specs.Expressions.{chain_value, chain_end, unary_step, binary_step, logical_step, conditional_step, sequence_step, call_step, new_step, array_step, object_step, template_step, yield_step, first_kind, get_identifier, type_identifier, member_step, got}
use Rattle.mini_laws.specs.Targets.{assignment_step, update_step, chained_carries}
use Rattle.mini_laws.specs.Step.{step, means, meaning}
use Rattle.mini_laws.specs.Same.{Goes, Agree, Same}
use Rattle.mini_laws.specs.Truth.{told}
use Rattle.mini_laws.proofs.Truth.{coherent}
use Rattle.mini_terms.proofs.Made.{and_left, and_right}
use Rattle.mini_laws.proofs.Runs.{either_eta, run_bind}
use Rattle.mini_laws.specs.Rows.{SameAt}
use Rattle.mini_laws.specs.Fits.{Fits}
use Rattle.mini_terms.specs.Reading.{stands_by, stands, is_item, is_item_by, by_value, is_unguarded, is_typed_by, SameWanted, ReadByValue, SameByValue, SameItem, TypedByValue, SameInSeat}

module _ (e : Environment) (names : Naming) where
  -- a value that is replied
  reply_reads : (σ : ℕ → Demand) (c : Command σ Value) (q : Demand) (r : Request q) (K : Kids σ) (s : State) → run e names K (valued q r c) s ≡ by_value q r (run e names K (valued (As Val) tt c) s)
  unfolding by_value told
  reply_reads σ c (As w) r K s = run_bind e names c (reply (As w) tt) K s ∙ sym (ap (λ x. either x (λ v z. ok (says w v) z) (λ x z. stop x z)) (run_bind e names c (reply (As Val) tt) K s ∙ either_eta (run e names K c s)))
  reply_reads σ c Callee r K s = run_bind e names c (reply Callee r) K s ∙ sym (ap (λ x. either x (λ v z. ok (plain_call v) z) (λ x z. stop x z)) (run_bind e names c (reply (As Val) tt) K s ∙ either_eta (run e names K c s)))
  reply_reads σ c OfType r K s = run_bind e names c (reply OfType r) K s ∙ sym (run_bind e names c (reply (As Val) tt) K s)
  reply_reads σ c Deleted r K s = run_bind e names c (reply Deleted r) K s ∙ sym (ap (λ x. either x (λ v z. ok (AValue v) z) (λ x z. stop x z)) (run_bind e names c (reply (As Val) tt) K s ∙ either_eta (run e names K c s)))
  reply_reads σ c AnEntry r K s = run_bind e names c (reply AnEntry r) K s ∙ sym (ap (λ x. either x (λ v z. ok (Item v) z) (λ x z. stop x z)) (run_bind e names c (reply (As Val) tt) K s ∙ either_eta (run e names K c s)))
  reply_reads σ c q r K s = refl

module _ (e : Environment) where
  abbrev All : Type 0
  All = (i : ℕ) (q : Demand) (r : Request q) → State → Completion (Reply q r)

  -- one that is handed on
  pass_reads : (names : Naming) (σ : Want → ℕ → Demand) (c : (w : Want) → Command (σ w) (Says w)) (K : All) (q : Demand) (r : Request q) (s : State) → ((w : Want) → run {q = σ w} e names (λ i. K i (σ w i)) (passing (As w) tt (c w)) s ≡ told w (run {q = σ Val} e names (λ i. K i (σ Val i)) (passing (As Val) tt (c Val)) s)) → run {q = σ (pass q)} e names (λ i. K i (σ (pass q) i)) (passing q r (c (pass q))) s ≡ by_value q r (run {q = σ Val} e names (λ i. K i (σ Val i)) (passing (As Val) tt (c Val)) s)
  unfolding by_value
  pass_reads names σ c K (As w) r s h = h w
  pass_reads names σ c K Callee r s h = run_bind e names (c Val) (passed Callee r) (λ i. K i (σ Val i)) s ∙ sym (ap (λ x. either x (λ v z. ok (plain_call v) z) (λ x z. stop x z)) (run_bind e names (c Val) (passed (As Val) tt) (λ i. K i (σ Val i)) s ∙ either_eta (run {q = σ Val} e names (λ i. K i (σ Val i)) (c Val) s)))
  pass_reads names σ c K OfType r s h = run_bind e names (c Val) (passed OfType r) (λ i. K i (σ Val i)) s ∙ sym (run_bind e names (c Val) (passed (As Val) tt) (λ i. K i (σ Val i)) s)
  pass_reads names σ c K Deleted r s h = run_bind e names (c Val) (passed Deleted r) (λ i. K i (σ Val i)) s ∙ sym (ap (λ x. either x (λ v z. ok (AValue v) z) (λ x z. stop x z)) (run_bind e names (c Val) (passed (As Val) tt) (λ i. K i (σ Val i)) s ∙ either_eta (run {q = σ Val} e names (λ i. K i (σ Val i)) (c Val) s)))
  pass_reads names σ c K AnEntry r s h = run_bind e names (c Val) (passed AnEntry r) (λ i. K i (σ Val i)) s ∙ sym (ap (λ x. either x (λ v z. ok (Item v) z) (λ x z. stop x z)) (run_bind e names (c Val) (passed (As Val) tt) (λ i. K i (σ Val i)) s ∙ either_eta (run {q = σ Val} e names (λ i. K i (σ Val i)) (c Val) s)))
  pass_reads names σ c K q r s h = refl

  abbrev named : Shape → List Name → ℕ → Trees → Naming
  named h xs n ts = naming h (As Val) (variables xs) n (summaries ts)

  abbrev of_kids : (σ : ℕ → Demand) → Trees → Kids σ
  of_kids σ ts i r z = meaning e ts i (σ i) r z

  node_reads : (h : Shape) → stands_by h ≡ true → (xs : List Name) (n : ℕ) (ts : Trees) (q : Demand) (r : Request q) (s : State) → means e (node h xs n ts) q r s ≡ by_value q r (means e (node h xs n ts) (As Val) tt s)
  unfolding means step
  node_reads (shape.NumericLiteral m) p xs n ts q r s = reply_reads e (named (shape.NumericLiteral m) xs n ts) (λ i. Stat None) (ret (Number m)) q r (of_kids (λ i. Stat None) ts) s
  node_reads (shape.StringLiteral t) p xs n ts q r s = reply_reads e (named (shape.StringLiteral t) xs n ts) (λ i. Stat None) (ret (String t)) q r (of_kids (λ i. Stat None) ts) s
  node_reads (shape.BooleanLiteral b) p xs n ts q r s = reply_reads e (named (shape.BooleanLiteral b) xs n ts) (λ i. Stat None) (ret (Boolean b)) q r (of_kids (λ i. Stat None) ts) s
  node_reads shape.NullLiteral p xs n ts q r s = reply_reads e (named shape.NullLiteral xs n ts) (λ i. Stat None) (ret Null) q r (of_kids (λ i. Stat None) ts) s
  node_reads (shape.RegExpLiteral t f) p xs n ts q r s = reply_reads e (named (shape.RegExpLiteral t f) xs n ts) (λ i. Stat None) (emit_mine (NodeOf AnObject) []) q r (of_kids (λ i. Stat None) ts) s
  node_reads shape.ThisExpression p xs n ts q r s = reply_reads e (named shape.ThisExpression xs n ts) (λ i. Stat None) (op self (then ret)) q r (of_kids (λ i. Stat None) ts) s
  node_reads shape.ArrayExpression p xs n ts q r s = reply_reads e (named shape.ArrayExpression xs n ts) (λ i. Items) array_step q r (of_kids (λ i. Items) ts) s
  node_reads shape.ObjectExpression p xs n ts q r s = reply_reads e (named shape.ObjectExpression xs n ts) (λ i. Items) object_step q r (of_kids (λ i. Items) ts) s
  node_reads (shape.UnaryExpression o) p xs n ts q r s = reply_reads e (named (shape.UnaryExpression o) xs n ts) (λ i. operand_demand o) (unary_step o) q r (of_kids (λ i. operand_demand o) ts) s
  node_reads (shape.UpdateExpression o b) p xs n ts q r s = reply_reads e (named (shape.UpdateExpression o b) xs n ts) (λ i. Target) (update_step o b) q r (of_kids (λ i. Target) ts) s
  node_reads (shape.BinaryExpression o) p xs n ts q r s = reply_reads e (named (shape.BinaryExpression o) xs n ts) (λ i. As Val) (binary_step o) q r (of_kids (λ i. As Val) ts) s
  node_reads shape.PrivateInExpression p xs n ts q r s = reply_reads e (named shape.PrivateInExpression xs n ts) (λ i. Stat None) (emit_mine (NodeOf ABoolean) []) q r (of_kids (λ i. Stat None) ts) s
  node_reads (shape.LogicalExpression o) p xs n ts q r s = pass_reads (named (shape.LogicalExpression o) xs n ts) (logical_demand o) (logical_step o) (meaning e ts) q r s (λ w. coherent (node (shape.LogicalExpression o) xs n ts) w e s)
  node_reads (shape.AssignmentExpression o) p xs n ts q r s = reply_reads e (named (shape.AssignmentExpression o) xs n ts) (first_demand Target (As Val)) (assignment_step o) q r (of_kids (first_demand Target (As Val)) ts) s
  node_reads shape.ConditionalExpression p xs n ts q r s = pass_reads (named shape.ConditionalExpression xs n ts) (λ w. first_demand (As Test) (As w)) conditional_step (meaning e ts) q r s (λ w. coherent (node shape.ConditionalExpression xs n ts) w e s)
  node_reads shape.SequenceExpression p xs n ts q r s = pass_reads (named shape.SequenceExpression xs n ts) (λ w i. Parts w) sequence_step (meaning e ts) q r s (λ w. coherent (node shape.SequenceExpression xs n ts) w e s)
  node_reads (shape.CallExpression b) p xs n ts q r s = reply_reads e (named (shape.CallExpression b) xs n ts) (first_demand Callee Items) (call_step b) q r (of_kids (first_demand Callee Items) ts) s
  node_reads shape.SuperCallExpression p xs n ts q r s = reply_reads e (named shape.SuperCallExpression xs n ts) (λ i. Stat None) (emit_mine (NodeOf Anything) []) q r (of_kids (λ i. Stat None) ts) s
  node_reads shape.NewExpression p xs n ts q r s = reply_reads e (named shape.NewExpression xs n ts) (first_demand (As Val) Items) new_step q r (of_kids (first_demand (As Val) Items) ts) s
  node_reads (shape.YieldExpression b) p xs n ts q r s = reply_reads e (named (shape.YieldExpression b) xs n ts) (λ i. As Val) (yield_step b) q r (of_kids (λ i. As Val) ts) s
  node_reads shape.TemplateLiteral p xs n ts q r s = reply_reads e (named shape.TemplateLiteral xs n ts) (λ i. Texts) (template_step (texts_all (facts ts))) q r (of_kids (λ i. Texts) ts) s
  node_reads shape.TaggedTemplateExpression p xs n ts q r s = reply_reads e (named shape.TaggedTemplateExpression xs n ts) (λ i. Stat None) (emit_mine (NodeOf Anything) []) q r (of_kids (λ i. Stat None) ts) s
  node_reads (shape.MetaProperty k) p xs n ts q r s = reply_reads e (named (shape.MetaProperty k) xs n ts) (λ i. Stat None) (emit_mine (NodeOf Anything) []) q r (of_kids (λ i. Stat None) ts) s
  node_reads shape.ImportExpression p xs n ts q r s = reply_reads e (named shape.ImportExpression xs n ts) (λ i. Stat None) (emit_mine (NodeOf Anything) []) q r (of_kids (λ i. Stat None) ts) s
  node_reads (shape.ArrowFunctionExpression ds) p xs n ts q r s = reply_reads e (named (shape.ArrowFunctionExpression ds) xs n ts) (λ i. Stat None) (emit_mine Create []) q r (of_kids (λ i. Stat None) ts) s
  node_reads h p xs n ts q r s = absurd (true≢false (sym p))

pub read_by_value : ReadByValue
read_by_value (node h xs n ts) p e q r s = node_reads e h p xs n ts q r s

or_false : (b : Bool) → b || false ≡ true → b ≡ true
or_false true h = refl
or_false false h = h

abbrev Near : {A : Type 0} → VariableSet → Completion A → Completion A → Type 0
Near D x y = Goes true (λ a. Agree D) (Agree D) (Agree D) x y

weak : {A : Type 0} (D : VariableSet) (y : Completion A) → Near D out y
unfolding Goes
weak D (ok v s) = tt
weak D (stop u s) = tt
weak D (halt u s) = tt
weak D out = tt

mapped : {A : Type 0} (D : VariableSet) (f : Value → A) (x y : Completion Value) → Near D x y → Near D (either x (λ v z. ok (f v) z) (λ u z. stop u z)) (either y (λ v z. ok (f v) z) (λ u z. stop u z))
unfolding Goes either
mapped D f (ok v s) (ok w t) g = (ap f g.0, g.1)
mapped D f (stop u s) (stop w t) g = g
mapped D f (halt u s) (halt w t) g = g
mapped D f out y g = weak D (either y (λ v z. ok (f v) z) (λ u z. stop u z))
mapped D f x y g = absurd g

near_by : (D : VariableSet) (q : Demand) (r : Request q) (x y : Completion Value) → Near D x y → Near D (by_value q r x) (by_value q r y)
unfolding by_value told
near_by D (As w) r x y g = mapped D (says w) x y g
near_by D Callee r x y g = mapped D plain_call x y g
near_by D OfType r x y g = g
near_by D Deleted r x y g = mapped D AValue x y g
near_by D AnEntry r x y g = mapped D Item x y g
near_by D q r x y g = weak D out

pub same_by_value : SameByValue
same_by_value e D X n w p q h d = record { by = λ r s i. subst (λ x. Near D x (means e w d r s)) (sym (read_by_value n p e d r s)) (subst (λ y. Near D (by_value d r (means e n (As Val) tt s)) y) (sym (read_by_value w q e d r s)) (near_by D d r (means e n (As Val) tt s) (means e w (As Val) tt s) (h.by tt s i))) }

-- items

-- a chain that ends in its midst is undefined
chain_goes : (e : Environment) (names : Naming) (K : Kids (λ i. As Val)) (x : Completion Value)
    → either x (λ v z. run {q = λ i. As Val} e names K (bind (chain_value (done v)) (reply AnEntry tt)) z) (λ y z. run {q = λ i. As Val} e names K (bind (chain_value (ended y)) (reply AnEntry tt)) z)
    ≡ by_value AnEntry tt (either x (λ v z. run {q = λ i. As Val} e names K (chain_end (As Val) tt (done v)) z) (λ y z. run {q = λ i. As Val} e names K (chain_end (As Val) tt (ended y)) z))
unfolding by_value either
chain_goes e names K (ok v s) = refl
chain_goes e names K (stop Short s) = refl
chain_goes e names K (stop y s) = refl
chain_goes e names K (halt y s) = refl
chain_goes e names K out = refl

module _ (e : Environment) where
  item_reads : (h : Shape) → is_item_by h ≡ true → (xs : List Name) (n : ℕ) (ts : Trees) (s : State) → means e (node h xs n ts) AnEntry tt s ≡ by_value AnEntry tt (means e (node h xs n ts) (As Val) tt s)
  unfolding means step by_value either
  item_reads shape.Identifier p xs n ts s = reply_reads e (named e shape.Identifier xs n ts) (λ i. Stat None) (get_identifier (first_kind (kinds xs))) AnEntry tt (of_kids e (λ i. Stat None) ts) s
  item_reads (shape.StaticMemberExpression b) p xs n ts s = reply_reads e (named e (shape.StaticMemberExpression b) xs n ts) (λ i. As Val) (bind (member_step b) got) AnEntry tt (of_kids e (λ i. As Val) ts) s
  item_reads (shape.ComputedMemberExpression b) p xs n ts s = reply_reads e (named e (shape.ComputedMemberExpression b) xs n ts) (λ i. As Val) (bind (member_step b) got) AnEntry tt (of_kids e (λ i. As Val) ts) s
  item_reads (shape.PrivateFieldExpression b) p xs n ts s = reply_reads e (named e (shape.PrivateFieldExpression b) xs n ts) (λ i. Stat None) (emit_mine (NodeOf (chained_carries b (first_facts (facts ts)).shortens)) []) AnEntry tt (of_kids e (λ i. Stat None) ts) s
  item_reads shape.SuperStaticMemberExpression p xs n ts s = reply_reads e (named e shape.SuperStaticMemberExpression xs n ts) (λ i. Stat None) (emit_mine (NodeOf Anything) []) AnEntry tt (of_kids e (λ i. Stat None) ts) s
  item_reads shape.SuperComputedMemberExpression p xs n ts s = reply_reads e (named e shape.SuperComputedMemberExpression xs n ts) (λ i. Stat None) (emit_mine (NodeOf Anything) []) AnEntry tt (of_kids e (λ i. Stat None) ts) s
  item_reads (shape.Function false g ds) p xs n ts s = reply_reads e (named e (shape.Function false g ds) xs n ts) (λ i. Stat None) (emit_mine Create []) AnEntry tt (of_kids e (λ i. Stat None) ts) s
  item_reads (shape.Class false) p xs n ts s = reply_reads e (named e (shape.Class false) xs n ts) (λ i. Binds true) (emit_mine (NodeOf AnObject) []) AnEntry tt (of_kids e (λ i. Binds true) ts) s
  item_reads (shape.BigIntLiteral m) p xs n ts s = refl
  item_reads shape.ChainExpression p xs n ts s = chain_goes e (named e shape.ChainExpression xs n ts) (of_kids e (λ i. As Val) ts) (meaning e ts 0 (As Val) tt s)
  item_reads h p xs n ts s = node_reads e h p xs n ts AnEntry tt s

item_read : (n : Tree) → is_item n ≡ true → (e : Environment) (s : State) → means e n AnEntry tt s ≡ by_value AnEntry tt (means e n (As Val) tt s)
item_read (node h xs n ts) p e s = item_reads e h p xs n ts s

pub same_item : SameItem
same_item e D X n w p q h = record { by = λ r s i. subst (λ x. Near D x (means e w AnEntry tt s)) (sym (item_read n p e s)) (subst (λ y. Near D (by_value AnEntry tt (means e n (As Val) tt s)) y) (sym (item_read w q e s)) (near_by D AnEntry tt (means e n (As Val) tt s) (means e w (As Val) tt s) (h.by tt s i))) }

-- under `typeof`

module _ (e : Environment) (i : SymbolId) (n : ℕ) (ts : Trees) (s : State) where
  abbrev of_type : NameKind → Completion Value
  of_type k = run {q = λ j. Stat None} e (naming shape.Identifier OfType (Declared i.0 ∷ []) n (summaries ts)) (λ j r z. meaning e ts j (Stat None) r z) (bind (type_identifier k) ret) s

  abbrev of_value : NameKind → Completion Value
  of_value k = run {q = λ j. Stat None} e (naming shape.Identifier (As Val) (Declared i.0 ∷ []) n (summaries ts)) (λ j r z. meaning e ts j (Stat None) r z) (valued (As Val) tt (get_identifier k)) s

  kind_typed : (k : NameKind) → of_type k ≡ of_value k
  unfolding act at_variable
  kind_typed PlainName = refl
  kind_typed EvalName = refl
  kind_typed UndefinedName = refl
  kind_typed NumberName = refl

  abbrev called : List ℕ → Tree
  called x = node shape.Identifier (record { spelling = x; symbol = Some i } ∷ []) n ts

  name_typed : (x : List ℕ) → means e (called x) OfType tt s ≡ means e (called x) (As Val) tt s
  unfolding means step
  name_typed x = kind_typed (kind_declared x)

-- a chain that ends in its midst is undefined there too
chain_typed : (e : Environment) (names : Naming) (K : Kids (λ i. As Val)) (x : Completion Value)
    → either x (λ v z. run {q = λ i. As Val} e names K (bind (chain_value (done v)) (reply OfType tt)) z) (λ y z. run {q = λ i. As Val} e names K (bind (chain_value (ended y)) (reply OfType tt)) z)
    ≡ either x (λ v z. run {q = λ i. As Val} e names K (chain_end (As Val) tt (done v)) z) (λ y z. run {q = λ i. As Val} e names K (chain_end (As Val) tt (ended y)) z)
unfolding either
chain_typed e names K (ok v s) = refl
chain_typed e names K (stop Short s) = refl
chain_typed e names K (stop y s) = refl
chain_typed e names K (halt y s) = refl
chain_typed e names K out = refl

declared_typed : (e : Environment) (x : Name) → not (is_none x.symbol) ≡ true → (n : ℕ) (ts : Trees) (s : State) → means e (node shape.Identifier (x ∷ []) n ts) OfType tt s ≡ means e (node shape.Identifier (x ∷ []) n ts) (As Val) tt s
declared_typed e x h n ts s = go x.symbol h
  where
    go : (o : Option SymbolId) → not (is_none o) ≡ true → means e (node shape.Identifier (record { spelling = x.spelling; symbol = o } ∷ []) n ts) OfType tt s ≡ means e (node shape.Identifier (record { spelling = x.spelling; symbol = o } ∷ []) n ts) (As Val) tt s
    go (Some i) h = name_typed e i n ts s x.spelling
    go None h = absurd (true≢false (sym h))

module _ (e : Environment) where
  type_reads : (h : Shape) (xs : List Name) → is_typed_by h xs ≡ true → (n : ℕ) (ts : Trees) (s : State) → means e (node h xs n ts) OfType tt s ≡ means e (node h xs n ts) (As Val) tt s
  unfolding means step by_value either
  type_reads shape.Identifier (x ∷ []) p n ts s = declared_typed e x p n ts s
  type_reads shape.Identifier [] p n ts s = absurd (true≢false (sym p))
  type_reads shape.Identifier (x ∷ y ∷ xs) p n ts s = absurd (true≢false (sym p))
  type_reads (shape.StaticMemberExpression b) xs p n ts s = reply_reads e (named e (shape.StaticMemberExpression b) xs n ts) (λ i. As Val) (bind (member_step b) got) OfType tt (of_kids e (λ i. As Val) ts) s
  type_reads (shape.ComputedMemberExpression b) xs p n ts s = reply_reads e (named e (shape.ComputedMemberExpression b) xs n ts) (λ i. As Val) (bind (member_step b) got) OfType tt (of_kids e (λ i. As Val) ts) s
  type_reads (shape.PrivateFieldExpression b) xs p n ts s = reply_reads e (named e (shape.PrivateFieldExpression b) xs n ts) (λ i. Stat None) (emit_mine (NodeOf (chained_carries b (first_facts (facts ts)).shortens)) []) OfType tt (of_kids e (λ i. Stat None) ts) s
  type_reads shape.SuperStaticMemberExpression xs p n ts s = reply_reads e (named e shape.SuperStaticMemberExpression xs n ts) (λ i. Stat None) (emit_mine (NodeOf Anything) []) OfType tt (of_kids e (λ i. Stat None) ts) s
  type_reads shape.SuperComputedMemberExpression xs p n ts s = reply_reads e (named e shape.SuperComputedMemberExpression xs n ts) (λ i. Stat None) (emit_mine (NodeOf Anything) []) OfType tt (of_kids e (λ i. Stat None) ts) s
  type_reads (shape.Function false g ds) xs p n ts s = reply_reads e (named e (shape.Function false g ds) xs n ts) (λ i. Stat None) (emit_mine Create []) OfType tt (of_kids e (λ i. Stat None) ts) s
  type_reads (shape.Class false) xs p n ts s = reply_reads e (named e (shape.Class false) xs n ts) (λ i. Binds true) (emit_mine (NodeOf AnObject) []) OfType tt (of_kids e (λ i. Binds true) ts) s
  type_reads (shape.BigIntLiteral m) xs p n ts s = refl
  type_reads shape.ChainExpression xs p n ts s = chain_typed e (named e shape.ChainExpression xs n ts) (of_kids e (λ i. As Val) ts) (meaning e ts 0 (As Val) tt s)
  type_reads h xs p n ts s = node_reads e h p xs n ts OfType tt s

pub typed_by_value : TypedByValue
typed_by_value (node h xs n ts) p e s = type_reads e h xs p n ts s

-- in a seat

stands_item : (n : Tree) → stands n ≡ true → is_item n ≡ true
stands_item (node shape.Identifier xs n ts) p = refl
stands_item (node (shape.StaticMemberExpression b) xs n ts) p = refl
stands_item (node (shape.ComputedMemberExpression b) xs n ts) p = refl
stands_item (node (shape.PrivateFieldExpression b) xs n ts) p = refl
stands_item (node shape.SuperStaticMemberExpression xs n ts) p = refl
stands_item (node shape.SuperComputedMemberExpression xs n ts) p = refl
stands_item (node (shape.Function false g ds) xs n ts) p = refl
stands_item (node (shape.Class false) xs n ts) p = refl
stands_item (node (shape.BigIntLiteral m) xs n ts) p = refl
stands_item (node shape.ChainExpression xs n ts) p = refl
stands_item (node h xs n ts) p = p

guarded : (g h : Guard) → is_unguarded g ≡ true → g ≡ h → is_unguarded h ≡ false → ⊥
guarded g h u e f = true≢false (sym u ∙ ap is_unguarded e ∙ f)

in_seat : (s : Seat) (n w : Tree) → stands n ≡ true → is_unguarded s.guard ≡ true → is_item w ≡ true → SameWanted n w → (e : Environment) (D X : VariableSet) (q : Demand) → Fits (Expr s) q → Same e D X q n w
unfolding by_value
in_seat s n w p g i h e D X (As u) f = h e D X u
in_seat s n w p g i h e D X AnEntry f = same_item e D X n w (stands_item n p) i (h e D X Val)
in_seat s n w p g i h e D X Callee f = absurd (guarded s.guard guard.Callee g f.2 refl)
in_seat s n w p g i h e D X OfType f = absurd (guarded s.guard guard.Typeof g f.2 refl)
in_seat s n w p g i h e D X Deleted f = absurd (guarded s.guard guard.Delete g f.2 refl)
in_seat s n w p g i h e D X q f = record { by = λ r z j. subst (λ x. Near D x (means e w q r z)) (sym (read_by_value n p e q r z)) (weak D (means e w q r z)) }

pub same_in_seat : SameInSeat
same_in_seat s n w p c h = go (stands w) refl c
  where
    go : (b : Bool) → stands w ≡ b → is_unguarded s.guard && is_item w || b ≡ true → SameAt (Expr s) n w
    go true k c = record { by = λ e D X q f. same_by_value e D X n w p k (h e D X Val) q }
    go false k c = let both = or_false (is_unguarded s.guard && is_item w) c in record { by = in_seat s n w p (and_left (is_unguarded s.guard) (is_item w) both) (and_right (is_unguarded s.guard) (is_item w) both) h }

-- What members and calls over a name do, and what an optional chain of them does.
use Rattle.std.proofs.Common.{◌≡◌, ℕ, Bool, true, false, List, [], ◌∷◌, refl, sym, ap, subst, ◌∙◌, inl, inr, true≢false}
use Rattle.std.specs.Prelude.{not, ◌&&◌, Option, Some, None, is_none}
use Rattle.std.proofs.lemmas.Bool.{and_parts}
use Rattle.mini_model.specs.declared.name.Name.{Name}
use Rattle.mini_model.specs.declared.operator.BinaryOperator.TheVariants as binary_operator
use Rattle.mini_model.specs.declared.shape.Shape.{Shape}
use Rattle.mini_model.specs.declared.shape.Shape.TheVariants as shape
use Rattle.mini_model.specs.Tree.{Tree, Trees, node, none, ◌▸◌, listed, shape_of, identifier, null_literal}
use Rattle.mini_laws.specs.Value.{Value, Undefined, Boolean, choose, truth, is_nullish, variables}
use Rattle.mini_laws.specs.Conversion.{key_value, known_member}
use Rattle.mini_laws.specs.State.{GetOf, CallOf, DirectEval, Entry, Item, State, Stop, Thrown, Returned, Broken, Continued, Short, Completion, ok, stop, halt, out, ended, either, Environment}
use Rattle.mini_laws.specs.Demand.{Val, Demand, As, Callee, Items, Stat, AMember, Called, plain_call}
use Rattle.mini_laws.specs.Command.{Naming, read, ret, fails, kid, then, bind, emit, Kids, act, run}
use Rattle.mini_laws.specs.Naming.{NameKind, UndefinedName, NumberName, naming, kind_of, summaries}
use Rattle.mini_laws.specs.Asking.{first_demand}
use Rattle.mini_laws.specs.Replies.{reply, raise, or_event, get_member}
use Rattle.mini_laws.specs.Expressions.{get_identifier, is_eval, call_event, called_member, got, chain_end}
use Rattle.mini_laws.specs.Step.{step, means, meaning}
use Rattle.mini_laws.proofs.Runs.{either_cong, either_eta}
use Rattle.mini_terms.specs.Reading.{by_value}
use Rattle.mini_terms.proofs.Dropping.{after_cong}
use Rattle.mini_terms.proofs.Frame.{gives_any}
use Rattle.mini_terms.proofs.Reading.{read_by_value}
use Rattle.mini_rows.specs.Spellings.{IsUndefined, binary}
use Rattle.mini_rows.specs.Chains.{is_calm, are_calm, is_word_shape, Link, a_member, a_computed, a_call, call, linked, spine, is_calm_link, are_calm_links, chain, if_nullish}
use Rattle.mini_rows.proofs.ChainCalm.{Calm, calm_next, run_calm, tidy_bind, get_tidy, called_tidy, call_tidy, tree_calm}
use Rattle.mini_rows.proofs.ChoiceRuns.{Reading, reading, conditional_value, equal_null, unequal_null, undefined_value}

abbrev pub value : Environment → Tree → State → Completion Value
value e t s = means e t (As Val) tt s

abbrev pub called : Environment → Tree → State → Completion Called
called e t s = means e t Callee tt s

abbrev pub items : Environment → Trees → State → Completion (List Entry)
items e ts s = means e (listed ts) Items tt s

-- goes on after a reply
abbrev pub next : {A B : Type 0} → Completion A → (A → State → Completion B) → Completion B
next x f = either x f (λ y z. stop y z)

-- ---- what a link does once its parts are known, whatever node it stands in

abbrev pub no_names : Naming
no_names = record { own = []; written = []; bound = []; number = 0; scope = []; functions = [] }

abbrev pub no_kids : Kids (λ i. As Val)
no_kids i r z = out

abbrev pub gets : Environment → Value → Value → State → Completion Value
gets e v u z = run {q = λ i. As Val} e no_names no_kids (bind (get_member v u) (reply (As Val) tt)) z

abbrev pub gets_called : Environment → Value → Value → State → Completion Called
gets_called e v u z = run {q = λ i. As Val} e no_names no_kids (called_member (AMember v u)) z

abbrev pub calls : Environment → Bool → Called → List Entry → State → Completion Value
calls e o f vs z = run {q = λ i. As Val} e no_names no_kids (bind (call_event o f vs) (reply (As Val) tt)) z

module _ (e : Environment) (names : Naming) (σ : ℕ → Demand) (K : Kids σ) where
  got_by : (b : Bool) (m : Option Value) (es : List Entry) (z : State) → run {q = σ} e names K (bind (choose b raise (or_event m (emit GetOf es))) (reply (As Val) tt)) z ≡ run {q = λ i. As Val} e no_names no_kids (bind (choose b raise (or_event m (emit GetOf es))) (reply (As Val) tt)) z
  unfolding act
  got_by true m es z = refl
  got_by false (Some v) es z = refl
  got_by false None es z = refl

  got_alike : (v u : Value) (z : State) → run {q = σ} e names K (bind (get_member v u) (reply (As Val) tt)) z ≡ gets e v u z
  got_alike v u z = got_by (is_nullish v) (known_member v u) (Item v ∷ Item u ∷ []) z

  called_by : (v : Value) (b : Bool) (m : Option Value) (es : List Entry) (z : State) → run {q = σ} {A = Called} e names K (bind (choose b raise (or_event m (emit GetOf es))) (λ u. ret (record { value = u; this_value = v; direct = false }))) z ≡ run {q = λ i. As Val} {A = Called} e no_names no_kids (bind (choose b raise (or_event m (emit GetOf es))) (λ u. ret (record { value = u; this_value = v; direct = false }))) z
  unfolding act
  called_by v true m es z = refl
  called_by v false (Some u) es z = refl
  called_by v false None es z = refl

  called_alike : (v u : Value) (z : State) → run {q = σ} e names K (called_member (AMember v u)) z ≡ gets_called e v u z
  called_alike v u z = called_by v (is_nullish v) (known_member v u) (Item v ∷ Item u ∷ []) z

  call_by : (b : Bool) (f : Called) (vs : List Entry) (z : State) → run {q = σ} e names K (bind (choose b (emit DirectEval (Item f.value ∷ vs)) (emit CallOf (Item f.value ∷ Item f.this_value ∷ vs))) (reply (As Val) tt)) z ≡ run {q = λ i. As Val} e no_names no_kids (bind (choose b (emit DirectEval (Item f.value ∷ vs)) (emit CallOf (Item f.value ∷ Item f.this_value ∷ vs))) (reply (As Val) tt)) z
  unfolding act
  call_by true f vs z = refl
  call_by false f vs z = refl

  call_alike : (o : Bool) (f : Called) (vs : List Entry) (z : State) → run {q = σ} e names K (bind (call_event o f vs) (reply (As Val) tt)) z ≡ calls e o f vs z
  call_alike o f vs z = call_by (f.direct && not o) f vs z

-- ---- a link, by what stands before it

-- where it is optional, null and undefined end the chain
abbrev pub ends_if : {A : Type 0} → Bool → State → Completion A → Completion A
ends_if b z x = choose b (stop Short z) x

abbrev pub linked_value : Environment → Bool → Link → Completion Value → Completion Called → Completion Value
linked_value e o (a_member k) v f = next v (λ v z. ends_if (o && is_nullish v) z (next (value e k z) (λ u y. gets e v (key_value u) y)))
linked_value e o (a_computed k) v f = next v (λ v z. ends_if (o && is_nullish v) z (next (value e k z) (λ u y. gets e v (key_value u) y)))
linked_value e o (a_call ts) v f = next f (λ f z. ends_if (o && is_nullish f.value) z (next (items e ts z) (λ vs y. calls e o f vs y)))

abbrev pub linked_called : Environment → Bool → Link → Completion Value → Completion Called → Completion Called
linked_called e o (a_member k) v f = next v (λ v z. ends_if (o && is_nullish v) z (next (value e k z) (λ u y. gets_called e v (key_value u) y)))
linked_called e o (a_computed k) v f = next v (λ v z. ends_if (o && is_nullish v) z (next (value e k z) (λ u y. gets_called e v (key_value u) y)))
linked_called e o (a_call ts) v f = next (linked_value e o (a_call ts) v f) (λ v z. ok (plain_call v) z)

module _ (e : Environment) (names : Naming) (K : Kids (λ i. As Val)) where
  member_ends : (b : Bool) (v : Value) (z : State) → run {q = λ i. As Val} e names K (bind (bind (choose b (fails Short) (kid 1 tt (then (λ u. ret (AMember v (key_value u)))))) got) (reply (As Val) tt)) z ≡ ends_if b z (next (K 1 tt z) (λ u y. gets e v (key_value u) y))
  member_ends true v z = refl
  member_ends false v z = either_cong (K 1 tt z) _ _ _ _ (λ u y. got_alike e names (λ i. As Val) K v (key_value u) y) (λ x y. refl)

  method_ends : (b : Bool) (v : Value) (z : State) → run {q = λ i. As Val} e names K (bind (choose b (fails Short) (kid 1 tt (then (λ u. ret (AMember v (key_value u)))))) called_member) z ≡ ends_if b z (next (K 1 tt z) (λ u y. gets_called e v (key_value u) y))
  method_ends true v z = refl
  method_ends false v z = either_cong (K 1 tt z) _ _ _ _ (λ u y. called_alike e names (λ i. As Val) K v (key_value u) y) (λ x y. refl)

call_ends : (e : Environment) (names : Naming) (K : Kids (first_demand Callee Items)) (o b : Bool) (f : Called) (z : State) → run {q = first_demand Callee Items} e names K (bind (choose b (fails Short) (kid 1 tt (then (call_event o f)))) (reply (As Val) tt)) z ≡ ends_if b z (next (K 1 tt z) (λ vs y. calls e o f vs y))
call_ends e names K o true f z = refl
call_ends e names K o false f z = either_cong (K 1 tt z) _ _ _ _ (λ vs y. call_alike e names (first_demand Callee Items) K o f vs y) (λ x y. refl)

module _ (e : Environment) where
  pub value_is : (o : Bool) (l : Link) (t : Tree) (s : State) → value e (linked o l t) s ≡ linked_value e o l (value e t s) (called e t s)
  unfolding means meaning step
  value_is o (a_member k) t s = either_cong (value e t s) _ _ _ _ (λ v z. member_ends e (naming (shape.StaticMemberExpression o) (As Val) [] 0 (summaries (t ▸ k ▸ none))) (λ i r z. meaning e (t ▸ k ▸ none) i (As Val) r z) (o && is_nullish v) v z) (λ x z. refl)
  value_is o (a_computed k) t s = either_cong (value e t s) _ _ _ _ (λ v z. member_ends e (naming (shape.ComputedMemberExpression o) (As Val) [] 0 (summaries (t ▸ k ▸ none))) (λ i r z. meaning e (t ▸ k ▸ none) i (As Val) r z) (o && is_nullish v) v z) (λ x z. refl)
  value_is o (a_call ts) t s = either_cong (called e t s) _ _ _ _ (λ f z. call_ends e (naming (shape.CallExpression o) (As Val) [] 0 (summaries (t ▸ listed ts ▸ none))) (λ i r z. meaning e (t ▸ listed ts ▸ none) i (first_demand Callee Items i) r z) o (o && is_nullish f.value) f z) (λ x z. refl)

  call_called : (o : Bool) (ts : Trees) (t : Tree) (s : State) → called e (call o t ts) s ≡ next (value e (call o t ts) s) (λ v z. ok (plain_call v) z)
  unfolding by_value
  call_called o ts t s = read_by_value (call o t ts) refl e Callee tt s

  pub called_is : (o : Bool) (l : Link) (t : Tree) (s : State) → called e (linked o l t) s ≡ linked_called e o l (value e t s) (called e t s)
  unfolding means meaning step
  called_is o (a_member k) t s = either_cong (value e t s) _ _ _ _ (λ v z. method_ends e (naming (shape.StaticMemberExpression o) Callee [] 0 (summaries (t ▸ k ▸ none))) (λ i r z. meaning e (t ▸ k ▸ none) i (As Val) r z) (o && is_nullish v) v z) (λ x z. refl)
  called_is o (a_computed k) t s = either_cong (value e t s) _ _ _ _ (λ v z. method_ends e (naming (shape.ComputedMemberExpression o) Callee [] 0 (summaries (t ▸ k ▸ none))) (λ i r z. meaning e (t ▸ k ▸ none) i (As Val) r z) (o && is_nullish v) v z) (λ x z. refl)
  called_is o (a_call ts) t s = call_called o ts t s ∙ ap (λ x. next x (λ v z. ok (plain_call v) z)) (value_is o (a_call ts) t s)

-- ---- the name

-- its value as a function that is called
abbrev pub named_call : Bool → Value → Called
named_call direct v = record { value = v; this_value = Undefined; direct = direct }

pub name_kind : (e : Environment) (m n : Naming) (σ τ : ℕ → Demand) (K : Kids σ) (L : Kids τ) (k : NameKind) → m.own ≡ n.own → (s : State) → run {q = σ} {A = Called} e m K (bind (get_identifier k) (λ v. ret (named_call (is_eval k) v))) s ≡ next (run {q = τ} e n L (bind (get_identifier k) (λ v. ret v)) s) (λ v z. ok (named_call (is_eval k) v) z)
unfolding act either
name_kind e m n σ τ K L UndefinedName h s = refl
name_kind e m n σ τ K L NumberName h s = refl
name_kind e m n σ τ K L k h s =
    ap (λ ys. next (act e (record m { own = ys }) (read 0) s) (λ v z. ok (named_call (is_eval k) v) z)) h
    ∙ sym (ap (λ x. next x (λ v z. ok (named_call (is_eval k) v) z)) (either_eta (act e n (read 0) s)))

pub name_called : (e : Environment) (x : Name) (s : State) → called e (identifier x) s ≡ next (value e (identifier x) s) (λ v z. ok (named_call (is_eval (kind_of x)) v) z)
unfolding means step
name_called e x s = name_kind e (naming shape.Identifier Callee (variables (x ∷ [])) 0 []) (naming shape.Identifier (As Val) (variables (x ∷ [])) 0 []) (λ i. Stat None) (λ i. Stat None) (λ i r z. meaning e none i (Stat None) r z) (λ i r z. meaning e none i (Stat None) r z) (kind_of x) refl s

-- ---- links that are not optional end no chain

module _ (e : Environment) where
  gets_calm : (v u : Value) (z : State) → Calm (gets e v u z)
  gets_calm v u z = run_calm e false no_names no_kids (λ f. absurd (true≢false (sym f))) (bind (get_member v u) (reply (As Val) tt)) (tidy_bind false (get_member v u) (reply (As Val) tt) (get_tidy (λ i. As Val) false v u) (λ v. tt)) z

  methods_calm : (v u : Value) (z : State) → Calm (gets_called e v u z)
  methods_calm v u z = run_calm e false no_names no_kids (λ f. absurd (true≢false (sym f))) (called_member (AMember v u)) (called_tidy (λ i. As Val) false (AMember v u)) z

  calls_calm : (o : Bool) (f : Called) (vs : List Entry) (z : State) → Calm (calls e o f vs z)
  calls_calm o f vs z = run_calm e false no_names no_kids (λ f. absurd (true≢false (sym f))) (bind (call_event o f vs) (reply (As Val) tt)) (tidy_bind false (call_event o f vs) (reply (As Val) tt) (call_tidy (λ i. As Val) false o f vs) (λ v. tt)) z

  word_by : (h : Shape) → is_word_shape h ≡ true → (xs : List Name) (n : ℕ) (ts : Trees) (s : State) → Calm (value e (node h xs n ts) s)
  unfolding means step
  word_by (shape.IdentifierName w) p xs n ts s = tt
  word_by h p xs n ts s = absurd (true≢false (sym p))

  pub word_calm : (t : Tree) → is_word_shape (shape_of t) ≡ true → (s : State) → Calm (value e t s)
  word_calm (node h xs n ts) p s = word_by h p xs n ts s

  pub value_calm : (t : Tree) → is_calm t ≡ true → (s : State) → Calm (value e t s)
  value_calm t p s = tree_calm e t p (As Val) tt tt s

  items_calm : (ts : Trees) → are_calm ts ≡ true → (s : State) → Calm (items e ts s)
  items_calm ts p s = tree_calm e (listed ts) p Items tt tt s

  pub link_calm : (l : Link) → is_calm_link l ≡ true → (v : Completion Value) (f : Completion Called) → Calm v → Calm f → Calm (linked_value e false l v f) × Calm (linked_called e false l v f)
  link_calm (a_member k) p v f c d = (calm_next v _ c (λ v z. calm_next (value e k z) _ (word_calm k p z) (λ u y. gets_calm v (key_value u) y)), calm_next v _ c (λ v z. calm_next (value e k z) _ (word_calm k p z) (λ u y. methods_calm v (key_value u) y)))
  link_calm (a_computed k) p v f c d = (calm_next v _ c (λ v z. calm_next (value e k z) _ (value_calm k p z) (λ u y. gets_calm v (key_value u) y)), calm_next v _ c (λ v z. calm_next (value e k z) _ (value_calm k p z) (λ u y. methods_calm v (key_value u) y)))
  link_calm (a_call ts) p v f c d =
      let whole = calm_next f _ d (λ g z. calm_next (items e ts z) _ (items_calm ts p z) (λ vs y. calls_calm false g vs y)) in
      (whole, calm_next (linked_value e false (a_call ts) v f) (λ v z. ok (plain_call v) z) whole (λ v z. tt))

  -- one over what is neither undefined nor null does the same whether or not it is optional
  pub same_first : (s : State) (v : Value) (f : Called) → is_nullish v ≡ false → is_nullish f.value ≡ false → f.direct ≡ false → (l : Link) → (linked_value e true l (ok v s) (ok f s) ≡ linked_value e false l (ok v s) (ok f s)) × (linked_called e true l (ok v s) (ok f s) ≡ linked_called e false l (ok v s) (ok f s))
  unfolding either
  same_first s v f p q d (a_member k) = (ap (λ b. ends_if b s (next (value e k s) (λ u y. gets e v (key_value u) y))) p, ap (λ b. ends_if b s (next (value e k s) (λ u y. gets_called e v (key_value u) y))) p)
  same_first s v f p q d (a_computed k) = (ap (λ b. ends_if b s (next (value e k s) (λ u y. gets e v (key_value u) y))) p, ap (λ b. ends_if b s (next (value e k s) (λ u y. gets_called e v (key_value u) y))) p)
  same_first s v f p q d (a_call ts) =
      let whole : linked_value e true (a_call ts) (ok v s) (ok f s) ≡ linked_value e false (a_call ts) (ok v s) (ok f s) =
      ap (λ b. ends_if b s (next (items e ts s) (λ vs y. calls e true f vs y))) q
      ∙ (λ i. next (items e ts s) (λ vs y. run {q = λ i. As Val} e no_names no_kids (bind (choose (d i && false) (emit DirectEval (Item f.value ∷ vs)) (emit CallOf (Item f.value ∷ Item f.this_value ∷ vs))) (reply (As Val) tt)) y))
      ∙ sym (λ i. next (items e ts s) (λ vs y. run {q = λ i. As Val} e no_names no_kids (bind (choose (d i && true) (emit DirectEval (Item f.value ∷ vs)) (emit CallOf (Item f.value ∷ Item f.this_value ∷ vs))) (reply (As Val) tt)) y)) in
      (whole, ap (λ x. next x (λ v z. ok (plain_call v) z)) whole)

  -- over null or undefined one that is optional ends the chain
  pub short_first : (s : State) (v : Value) (f : Called) → is_nullish v ≡ true → is_nullish f.value ≡ true → (l : Link) → (linked_value e true l (ok v s) (ok f s) ≡ stop Short s) × (linked_called e true l (ok v s) (ok f s) ≡ stop Short s)
  unfolding either
  short_first s v f p q (a_member k) = (ap (λ b. ends_if b s (next (value e k s) (λ u y. gets e v (key_value u) y))) p, ap (λ b. ends_if b s (next (value e k s) (λ u y. gets_called e v (key_value u) y))) p)
  short_first s v f p q (a_computed k) = (ap (λ b. ends_if b s (next (value e k s) (λ u y. gets e v (key_value u) y))) p, ap (λ b. ends_if b s (next (value e k s) (λ u y. gets_called e v (key_value u) y))) p)
  short_first s v f p q (a_call ts) = (ap (λ b. ends_if b s (next (items e ts s) (λ vs y. calls e true f vs y))) q, ap (λ b. next (ends_if b s (next (items e ts s) (λ vs y. calls e true f vs y))) (λ v z. ok (plain_call v) z)) q)

  -- ---- over the name

  module _ (x : Name) (s : State) where
    abbrev X : Tree
    X = identifier x

    abbrev over : Bool → Link → List Link → Tree
    over o l ls = spine o X l ls

    -- what a link is over, where it is over other links
    above : (o : Bool) (l : Link) (t : Tree) (v : Completion Value) (f : Completion Called) → value e t s ≡ v → called e t s ≡ f → (value e (linked o l t) s ≡ linked_value e o l v f) × (called e (linked o l t) s ≡ linked_called e o l v f)
    above o l t v f g h = (value_is e o l t s ∙ (λ i. linked_value e o l (g i) (h i)), called_is e o l t s ∙ (λ i. linked_called e o l (g i) (h i)))

    -- outside the model

    out_link : (o : Bool) (l : Link) → (linked_value e o l out out ≡ out) × (linked_called e o l out out ≡ out)
    unfolding either
    out_link o (a_member k) = (refl, refl)
    out_link o (a_computed k) = (refl, refl)
    out_link o (a_call ts) = (refl, refl)

    out_spine : (o : Bool) → value e X s ≡ out → called e X s ≡ out → (l : Link) (ls : List Link) → (value e (over o l ls) s ≡ out) × (called e (over o l ls) s ≡ out)
    out_spine o g h l [] = let a = above o l X out out g h in let b = out_link o l in (a.0 ∙ b.0, a.1 ∙ b.1)
    out_spine o g h l (m ∷ ls) = let r = out_spine o g h m ls in let a = above false l (over o m ls) out out r.0 r.1 in let b = out_link false l in (a.0 ∙ b.0, a.1 ∙ b.1)

    -- null or undefined

    short_link : (l : Link) → (linked_value e false l (stop Short s) (stop Short s) ≡ stop Short s) × (linked_called e false l (stop Short s) (stop Short s) ≡ stop Short s)
    unfolding either
    short_link (a_member k) = (refl, refl)
    short_link (a_computed k) = (refl, refl)
    short_link (a_call ts) = (refl, refl)

    short_spine : (v : Value) (f : Called) → is_nullish v ≡ true → is_nullish f.value ≡ true → value e X s ≡ ok v s → called e X s ≡ ok f s → (l : Link) (ls : List Link) → (value e (over true l ls) s ≡ stop Short s) × (called e (over true l ls) s ≡ stop Short s)
    short_spine v f p q g h l [] = let a = above true l X (ok v s) (ok f s) g h in let b = short_first s v f p q l in (a.0 ∙ b.0, a.1 ∙ b.1)
    short_spine v f p q g h l (m ∷ ls) = let r = short_spine v f p q g h m ls in let a = above false l (over true m ls) (stop Short s) (stop Short s) r.0 r.1 in let b = short_link l in (a.0 ∙ b.0, a.1 ∙ b.1)

    -- anything else

    same_spine : (v : Value) (f : Called) → is_nullish v ≡ false → is_nullish f.value ≡ false → f.direct ≡ false → value e X s ≡ ok v s → called e X s ≡ ok f s → (l : Link) (ls : List Link) → (value e (over true l ls) s ≡ value e (over false l ls) s) × (called e (over true l ls) s ≡ called e (over false l ls) s)
    same_spine v f p q d g h l [] =
        let a = above true l X (ok v s) (ok f s) g h in
        let b = above false l X (ok v s) (ok f s) g h in
        let c = same_first s v f p q d l in
        (a.0 ∙ c.0 ∙ sym b.0, a.1 ∙ c.1 ∙ sym b.1)
    same_spine v f p q d g h l (m ∷ ls) =
        let r = same_spine v f p q d g h m ls in
        let a = above false l (over true m ls) (value e (over false m ls) s) (called e (over false m ls) s) r.0 r.1 in
        let b = above false l (over false m ls) (value e (over false m ls) s) (called e (over false m ls) s) refl refl in
        (a.0 ∙ sym b.0, a.1 ∙ sym b.1)

    calm_spine : Calm (value e X s) → Calm (called e X s) → (l : Link) (ls : List Link) → are_calm_links l ls ≡ true → Calm (value e (over false l ls) s) × Calm (called e (over false l ls) s)
    calm_spine c d l [] p = let a = above false l X (value e X s) (called e X s) refl refl in let b = link_calm l p (value e X s) (called e X s) c d in (subst Calm (sym a.0) b.0, subst Calm (sym a.1) b.1)
    calm_spine c d l (m ∷ ls) p =
        let (here, rest) = and_parts (is_calm_link l) (are_calm_links m ls) p in
        let r = calm_spine c d m ls rest in
        let a = above false l (over false m ls) (value e (over false m ls) s) (called e (over false m ls) s) refl refl in
        let b = link_calm l here (value e (over false m ls) s) (called e (over false m ls) s) r.0 r.1 in
        (subst Calm (sym a.0) b.0, subst Calm (sym a.1) b.1)

-- ---- a chain

chain_ends : (e : Environment) (names : Naming) (K : Kids (λ i. As Val)) (y : Stop) (z : State) → Calm {A = Value} (stop y z) → run {q = λ i. As Val} e names K (chain_end (As Val) tt (ended y)) z ≡ stop y z
chain_ends e names K Short z c = absurd c
chain_ends e names K (Thrown v) z c = refl
chain_ends e names K (Returned v) z c = refl
chain_ends e names K (Broken l) z c = refl
chain_ends e names K (Continued l) z c = refl

abbrev pub chain_of : Environment → Tree → Completion Value → Completion Value
chain_of e t x = either x (λ v z. ok v z) (λ y z. run {q = λ i. As Val} e (naming shape.ChainExpression (As Val) [] 0 (summaries (t ▸ none))) (λ i r z. meaning e (t ▸ none) i (As Val) r z) (chain_end (As Val) tt (ended y)) z)

pub chain_value : (e : Environment) (t : Tree) (s : State) → value e (chain t) s ≡ chain_of e t (value e t s)
unfolding means meaning step
chain_value e t s = refl

pub chain_calm : (e : Environment) (t : Tree) (x : Completion Value) → Calm x → chain_of e t x ≡ x
unfolding either
chain_calm e t (ok v s) c = refl
chain_calm e t (stop y s) c = chain_ends e _ _ y s c
chain_calm e t (halt y s) c = refl
chain_calm e t out c = refl

pub chain_short : (e : Environment) (t : Tree) (s : State) → chain_of e t (stop Short s) ≡ ok Undefined s
unfolding either
chain_short e t s = refl

-- ---- the conditional

pub after_boolean : (x : Completion Value) (f : Value → Bool) (g : Value → State → Completion Value) → next (next x (λ v z. ok (Boolean (f v)) z)) g ≡ next x (λ v z. g (Boolean (f v)) z)
unfolding either
after_boolean (ok v s) f g = refl
after_boolean (stop y s) f g = refl
after_boolean (halt y s) f g = refl
after_boolean out f g = refl

pub turned : {A : Type 0} (b : Bool) (x y : A) → choose (not b) y x ≡ choose b x y
turned true x y = refl
turned false x y = refl

if_value : (e : Environment) (equal : Bool) (x : Name) (a b : Tree) (s : State) → value e (if_nullish equal x a b) s ≡ next (value e (identifier x) s) (λ v z. choose (is_nullish v) (value e a z) (value e b z))
if_value e true x a b s =
    conditional_value e (binary binary_operator.Equality (identifier x) null_literal) a b s
    ∙ ap (λ y. next y (λ v z. choose (truth v) (value e a z) (value e b z))) (equal_null e x s)
    ∙ after_boolean (value e (identifier x) s) is_nullish (λ v z. choose (truth v) (value e a z) (value e b z))
if_value e false x a b s =
    conditional_value e (binary binary_operator.Inequality (identifier x) null_literal) b a s
    ∙ ap (λ y. next y (λ v z. choose (truth v) (value e b z) (value e a z))) (unequal_null e x s)
    ∙ after_boolean (value e (identifier x) s) (λ v. not (is_nullish v)) (λ v z. choose (truth v) (value e b z) (value e a z))
    ∙ after_cong (λ v. Unit {0}) (value e (identifier x) s) _ _ (gives_any (value e (identifier x) s)) (λ v p z. turned (is_nullish v) (value e a z) (value e b z))

-- both do the same

module _ (equal : Bool) (x : Name) (m : Tree) (l : Link) (ls : List Link) (declared : is_none x.symbol ≡ false) (d : is_eval (kind_of x) ≡ false) (u : IsUndefined m) (p : are_calm_links l ls ≡ true) (e : Environment) (s : State) where
  abbrev named : Tree
  named = identifier x

  abbrev plain_spine : Tree
  plain_spine = spine false named l ls

  abbrev optional_spine : Tree
  optional_spine = spine true named l ls

  abbrev asked_of : Completion Value → Completion Value
  asked_of y = next y (λ v z. choose (is_nullish v) (value e m z) (value e plain_spine z))

  abbrev plainly : Value → Called
  plainly v = named_call (is_eval (kind_of x)) v

  called_out : value e named s ≡ out → called e named s ≡ out
  unfolding either
  called_out o = name_called e x s ∙ ap (λ y. next y (λ v z. ok (plainly v) z)) o

  called_ok : (v : Value) → value e named s ≡ ok v s → called e named s ≡ ok (plainly v) s
  unfolding either
  called_ok v k = name_called e x s ∙ ap (λ y. next y (λ v z. ok (plainly v) z)) k

  chosen_same : (v : Value) (b : Bool) → is_nullish v ≡ b → value e named s ≡ ok v s → choose b (value e m s) (value e plain_spine s) ≡ chain_of e optional_spine (value e optional_spine s)
  chosen_same v true n k =
      undefined_value e m u s
      ∙ sym (ap (chain_of e optional_spine) (short_spine e x s v (plainly v) n n k (called_ok v k) l ls).0 ∙ chain_short e optional_spine s)
  chosen_same v false n k =
      let calm = calm_spine e x s (subst Calm (sym k) tt) (subst Calm (sym (called_ok v k)) tt) l ls p in
      sym (ap (chain_of e optional_spine) (same_spine e x s v (plainly v) n n d k (called_ok v k) l ls).0 ∙ chain_calm e optional_spine (value e plain_spine s) calm.0)

  goes_same : Reading (value e named s) s → asked_of (value e named s) ≡ chain_of e optional_spine (value e optional_spine s)
  unfolding either
  goes_same (inl o) = ap asked_of o ∙ sym (ap (chain_of e optional_spine) (out_spine e x s true o (called_out o) l ls).0)
  goes_same (inr (v, k)) = ap asked_of k ∙ chosen_same v (is_nullish v) refl k

  pub chain_same : value e (if_nullish equal x m plain_spine) s ≡ value e (chain optional_spine) s
  chain_same = if_value e equal x m plain_spine s ∙ goes_same (reading e x declared s) ∙ sym (chain_value e optional_spine s)

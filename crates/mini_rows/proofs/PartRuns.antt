-- A node over a static block or an inner expression evaluates none of its children, but a class that is declared its name: it means the same
-- whatever the others are, where they are read alike.
use Rattle.std.specs.Prelude.{ℕ, ◌≡◌, refl, Bool, true, false, List, [], Option, Some, None}
use Rattle.std.proofs.Common.{ap, ◌∙◌, sym, true≢false}
use Rattle.mini_model.specs.declared.name.Name.{Name}
use Rattle.mini_model.specs.declared.shape.Shape.{Shape}
use Rattle.mini_model.specs.declared.shape.Shape.TheVariants as shape
use Rattle.mini_model.specs.Tree.{Tree, Trees, node, ◌▸◌}
use Rattle.mini_laws.specs.Value.{Undefined, Variable, variables}
use Rattle.mini_laws.specs.State.{NodeOf, AnObject, ended, either, State, Stop, Continued, Returned, Environment, Completion, ok}
use Rattle.mini_laws.specs.Demand.{Tail, LoopTail, FunctionTail, Demand, Binds, As, Callee, OfType, Deleted, Target, AnEntry, Stat, ClassValue, Prepare, Fetch, Put, Request, Reply}
use Rattle.mini_laws.specs.Command.{event, Mine, Naming, Kids, act, run}
use Rattle.mini_laws.specs.Replies.{merged}
use Rattle.mini_laws.specs.Naming.{NameKind, kinds, Summary, summaries, facts_all, naming}
use Rattle.mini_laws.specs.Asking.{demand}
use Rattle.mini_laws.specs.Step.{step, means, meaning}
use Rattle.mini_rows.proofs.PartPlaces.{is_inert, asks_first}

-- a node of this shape, read so, over some children
module _ (e : Environment) (xs : List Variable) (ks : List NameKind) (n : ℕ) (is : List Summary) where
  abbrev over : (h : Shape) (ts : Trees) (q : Demand) (r : Request q) → State → Completion (Reply q r)
  over h ts q r s = run e (naming h q xs n is) (λ i r' s'. meaning e ts i (demand h (facts_all is) q i) r' s') (step h ks (facts_all is) q r) s

  -- what a jump becomes in a tail asks no child
  merged_ends : (names : Naming) (K L : Kids (λ i. Binds true)) (m : Option Tail) (x : Stop) (s : State) → run {q = λ i. Binds true} e names K (merged m (ended x)) s ≡ run {q = λ i. Binds true} e names L (merged m (ended x)) s
  merged_ends names K L None x s = refl
  merged_ends names K L (Some LoopTail) (Continued None) s = refl
  merged_ends names K L (Some LoopTail) (Continued (Some l)) s = refl
  merged_ends names K L (Some LoopTail) x s = refl
  merged_ends names K L (Some FunctionTail) (Returned Undefined) s = refl
  merged_ends names K L (Some FunctionTail) (Returned v) s = refl
  merged_ends names K L (Some FunctionTail) x s = refl

  class_over : (d : Bool) (t : Tree) (ts us : Trees) (q : Demand) (r : Request q) (s : State) → over (shape.Class d) (t ▸ ts) q r s ≡ over (shape.Class d) (t ▸ us) q r s
  unfolding step meaning
  class_over true t ts us (Stat m) r s =
      let names : Naming = naming (shape.Class true) (Stat m) xs n is in
      let jump : (x : Stop) (z : State) → run {q = λ i. Binds true} e names (λ i v y. meaning e (t ▸ ts) i (Binds true) v y) (merged m (ended x)) z ≡ run {q = λ i. Binds true} e names (λ i v y. meaning e (t ▸ us) i (Binds true) v y) (merged m (ended x)) z =
      merged_ends names (λ i v y. meaning e (t ▸ ts) i (Binds true) v y) (λ i v y. meaning e (t ▸ us) i (Binds true) v y) m
      in
      λ i. either (act e names (event (NodeOf AnObject) Mine []) s) (λ v z. either (means e t (Binds true) v z) (λ u y. ok tt y) (λ x y. jump x y i)) (λ x z. jump x z i)
  class_over true t ts us ClassValue r s = refl
  class_over true t ts us q r s = refl
  class_over false t ts us (As w) r s = refl
  class_over false t ts us Callee r s = refl
  class_over false t ts us OfType r s = refl
  class_over false t ts us Deleted r s = refl
  class_over false t ts us AnEntry r s = refl
  class_over false t ts us q r s = refl

  plain_over : (h : Shape) → is_inert h ≡ true → asks_first h ≡ false → (ts us : Trees) (q : Demand) (r : Request q) (s : State) → over h ts q r s ≡ over h us q r s
  unfolding step
  plain_over (shape.Class d) i a ts us q r s = absurd (true≢false a)
  plain_over shape.ClassBody i a ts us q r s = refl
  plain_over (shape.MethodDefinition k computed is_static) i a ts us q r s = refl
  plain_over (shape.PropertyDefinition computed is_static) i a ts us q r s = refl
  plain_over shape.AssignmentPattern i a ts us q r s = refl
  plain_over (shape.BindingProperty shorthand computed) i a ts us q r s = refl
  plain_over shape.RestElement i a ts us q r s = refl
  plain_over (shape.AssignmentTargetPropertyProperty computed) i a ts us q r s = refl
  plain_over shape.PrivateInExpression i a ts us (As w) r s = refl
  plain_over shape.PrivateInExpression i a ts us Callee r s = refl
  plain_over shape.PrivateInExpression i a ts us OfType r s = refl
  plain_over shape.PrivateInExpression i a ts us Deleted r s = refl
  plain_over shape.PrivateInExpression i a ts us AnEntry r s = refl
  plain_over shape.PrivateInExpression i a ts us q r s = refl
  plain_over shape.SuperCallExpression i a ts us (As w) r s = refl
  plain_over shape.SuperCallExpression i a ts us Callee r s = refl
  plain_over shape.SuperCallExpression i a ts us OfType r s = refl
  plain_over shape.SuperCallExpression i a ts us Deleted r s = refl
  plain_over shape.SuperCallExpression i a ts us AnEntry r s = refl
  plain_over shape.SuperCallExpression i a ts us q r s = refl
  plain_over shape.TaggedTemplateExpression i a ts us (As w) r s = refl
  plain_over shape.TaggedTemplateExpression i a ts us Callee r s = refl
  plain_over shape.TaggedTemplateExpression i a ts us OfType r s = refl
  plain_over shape.TaggedTemplateExpression i a ts us Deleted r s = refl
  plain_over shape.TaggedTemplateExpression i a ts us AnEntry r s = refl
  plain_over shape.TaggedTemplateExpression i a ts us q r s = refl
  plain_over shape.ImportExpression i a ts us (As w) r s = refl
  plain_over shape.ImportExpression i a ts us Callee r s = refl
  plain_over shape.ImportExpression i a ts us OfType r s = refl
  plain_over shape.ImportExpression i a ts us Deleted r s = refl
  plain_over shape.ImportExpression i a ts us AnEntry r s = refl
  plain_over shape.ImportExpression i a ts us q r s = refl
  plain_over shape.SuperComputedMemberExpression i a ts us (As w) r s = refl
  plain_over shape.SuperComputedMemberExpression i a ts us Callee r s = refl
  plain_over shape.SuperComputedMemberExpression i a ts us OfType r s = refl
  plain_over shape.SuperComputedMemberExpression i a ts us Deleted r s = refl
  plain_over shape.SuperComputedMemberExpression i a ts us Target Prepare s = refl
  plain_over shape.SuperComputedMemberExpression i a ts us Target (Fetch reference) s = refl
  plain_over shape.SuperComputedMemberExpression i a ts us Target (Put reference v) s = refl
  plain_over shape.SuperComputedMemberExpression i a ts us AnEntry r s = refl
  plain_over shape.SuperComputedMemberExpression i a ts us q r s = refl
  plain_over (shape.PrivateFieldExpression optional) i a ts us (As w) r s = refl
  plain_over (shape.PrivateFieldExpression optional) i a ts us Callee r s = refl
  plain_over (shape.PrivateFieldExpression optional) i a ts us OfType r s = refl
  plain_over (shape.PrivateFieldExpression optional) i a ts us Deleted r s = refl
  plain_over (shape.PrivateFieldExpression optional) i a ts us Target Prepare s = refl
  plain_over (shape.PrivateFieldExpression optional) i a ts us Target (Fetch reference) s = refl
  plain_over (shape.PrivateFieldExpression optional) i a ts us Target (Put reference v) s = refl
  plain_over (shape.PrivateFieldExpression optional) i a ts us AnEntry r s = refl
  plain_over (shape.PrivateFieldExpression optional) i a ts us q r s = refl
  plain_over shape.ArrayAssignmentTarget i a ts us Target Prepare s = refl
  plain_over shape.ArrayAssignmentTarget i a ts us Target (Fetch reference) s = refl
  plain_over shape.ArrayAssignmentTarget i a ts us Target (Put reference v) s = refl
  plain_over shape.ArrayAssignmentTarget i a ts us q r s = refl
  plain_over h i a ts us q r s = absurd (true≢false (sym i))

  -- whichever it is, where there are children
  inert_over : (h : Shape) → is_inert h ≡ true → (t u : Tree) (ts us : Trees) → (asks_first h ≡ true → t ≡ u) → (q : Demand) (r : Request q) (s : State) → over h (t ▸ ts) q r s ≡ over h (u ▸ us) q r s
  inert_over (shape.Class d) i t u ts us f q r s = class_over d t ts us q r s ∙ ap (λ v. over (shape.Class d) (v ▸ us) q r s) (f refl)
  inert_over h i t u ts us f q r s = plain_over h i refl (t ▸ ts) (u ▸ us) q r s

pub inert_same : (e : Environment) (h : Shape) (xs : List Name) (n : ℕ) (t u : Tree) (ts us : Trees) → is_inert h ≡ true → (asks_first h ≡ true → t ≡ u) → summaries (t ▸ ts) ≡ summaries (u ▸ us) → (q : Demand) (r : Request q) (s : State) → means e (node h xs n (t ▸ ts)) q r s ≡ means e (node h xs n (u ▸ us)) q r s
unfolding means
inert_same e h xs n t u ts us i f k q r s =
    inert_over e (variables xs) (kinds xs) n (summaries (t ▸ ts)) h i t u ts us f q r s ∙ ap (λ is. over e (variables xs) (kinds xs) n is h (u ▸ us) q r s) k

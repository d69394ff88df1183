-- What the rows at the end of a list mean, where a jump there goes where the list does.
use Rattle.std.proofs.Common.{◌≡◌, Bool, true, false, [], Some, None, refl, sym, ap, ◌∙◌, subst, inl, inr}
use Rattle.std.specs.Prelude.{◌&&◌}
use Rattle.std.proofs.lemmas.Bool.{and_parts}
use Rattle.mini_model.specs.declared.place.Position.TheVariants.{BodyList}
use Rattle.mini_model.specs.Tree.{Tree, Trees, none, ◌▸◌, absent, listed, if_else, if_alone, negation}
use Rattle.mini_model.specs.Paths.{append}
use Rattle.mini_laws.specs.Value.{choose}
use Rattle.mini_laws.specs.State.{State, Completion, ok, stop, either, Environment}
use Rattle.mini_laws.specs.Demand.{Test, Tail, LoopTail, FunctionTail, Demand, As, Stat, LabelSet, Request}
use Rattle.mini_laws.specs.Fits.{Fits}
use Rattle.mini_laws.specs.Naming.{summary}
use Rattle.mini_laws.specs.Rows.{SameAt}
use Rattle.mini_laws.specs.Step.{step, means, meaning}
use Rattle.mini_laws.specs.Tails.{ends_in, jump}
use Rattle.mini_laws.proofs.Rows.{Equal, equal_same}
use Rattle.mini_laws.proofs.Runs.{either_cong, either_assoc, either_ok, either_stop}
use Rattle.mini_laws.proofs.Stretching.{exec}
use Rattle.mini_laws.proofs.Tailing.{tail_same}
use Rattle.mini_node.specs.Walks.{append_none}
use Rattle.mini_rows.specs.Switches.{Switches}
use Rattle.mini_rows.specs.Lists.{block, is_unscoped, are_unscoped, alternate_of, Row75, Row75Block, Row78, AtEnd, EndRow, bare_return}
use Rattle.mini_rows.proofs.BranchMeaning.{not_test, by_negated}
use Rattle.mini_rows.proofs.ListStatements.{if_is, absent_is, block_is, read_nothing}
use Rattle.mini_rows.proofs.ListStretches.{ReadSame, exec_none, exec_more, exec_one, exec_append, listed_is, read_in_list, read_alike}

-- what some statements do at the end of such a list
abbrev pub at_end : Tail → Completion (Unit {0}) → Completion (Unit {0})
at_end x c = either c (λ u z. ok tt z) (ends_in (Some x))

-- they do the same there, and are read alike
pub record SameEnd (x : Tail) (a b : Trees) : Type 0 where
  pub by : (e : Environment) (s : State) → at_end x (exec e a None s) ≡ at_end x (exec e b None s)
  pub read : ReadSame a b

pub ends_replaced : (x : Tail) (a a' b b' : Trees) → a ≡ a' → b ≡ b' → SameEnd x a' b' → SameEnd x a b
ends_replaced x a a' b b' u v h = subst (λ c. SameEnd x c b) (sym u) (subst (SameEnd x a') (sym v) h)

-- after others
end_is : (e : Environment) (x : Tail) (pre a : Trees) (r : LabelSet) (s : State) → means e (listed (append pre a)) (Stat (Some x)) r s ≡ either (exec e pre None s) (λ u z. at_end x (exec e a None z)) (ends_in (Some x))
end_is e x pre a r s =
    tail_same e (listed (append pre a)) (Some x) r s
    ∙ ap (at_end x) (listed_is e (append pre a) r s ∙ exec_append e pre a s)
    ∙ either_assoc (exec e pre None s) (λ u z. exec e a None z) (λ y z. stop y z) (λ u z. ok tt z) (ends_in (Some x))
    ∙ either_cong (exec e pre None s) _ _ _ _ (λ u z. refl) (λ y z. either_stop y z _ _)

pub end_does : (x : Tail) (pre a b : Trees) → SameEnd x a b → (e : Environment) (r : LabelSet) (s : State) → means e (listed (append pre a)) (Stat (Some x)) r s ≡ means e (listed (append pre b)) (Stat (Some x)) r s
end_does x pre a b same e r s =
    end_is e x pre a r s
    ∙ either_cong (exec e pre None s) _ _ _ _ (λ u z. same.by e z) (λ y z. refl)
    ∙ sym (end_is e x pre b r s)

-- ---- the jump

jump_does : (e : Environment) (x : Tail) (s : State) → at_end x (means e (jump x) (Stat None) [] s) ≡ ok tt s
unfolding means meaning step either
jump_does e LoopTail s = refl
jump_does e FunctionTail s = refl

jump_passes : (e : Environment) (x : Tail) (f : Unit {0} → State → Completion (Unit {0})) (s : State) → at_end x (either (means e (jump x) (Stat None) [] s) f (λ y z. stop y z)) ≡ ok tt s
unfolding means meaning step either
jump_passes e LoopTail f s = refl
jump_passes e FunctionTail f s = refl

jump_read : (x : Tail) → ReadSame (jump x ▸ none) none
jump_read LoopTail = record { lets = refl; functions = refl; facts = refl; texts = refl }
jump_read FunctionTail = record { lets = refl; functions = refl; facts = refl; texts = refl }

same_both : (a b : Trees) → ReadSame a none → ReadSame b none → ReadSame a b
same_both a b u v = record { lets = u.lets ∙ sym v.lets; functions = u.functions ∙ sym v.functions; facts = u.facts ∙ sym v.facts; texts = u.texts ∙ sym v.texts }

-- 78
pub row_78 : (x : Tail) (a b : Trees) → Row78 (jump x) a b → SameEnd x a b
row_78 x a b r = ends_replaced x a _ b _ r.shape r.written (record { by = λ e s. ap (at_end x) (exec_one e (jump x) s) ∙ jump_does e x s ∙ sym (either_ok tt s (λ u z. ok tt z) (ends_in (Some x))); read = jump_read x })

-- ---- 75

module _ (x : Tail) (e : Environment) (test : Tree) (rest : Trees) where
  -- the rest is run where the test fails
  abbrev after : Bool → State → Completion (Unit {0})
  after t z = choose t (ok tt z) (at_end x (exec e rest None z))

  guarded : (z : State) → (t : Bool) → at_end x (either (choose t (means e (jump x) (Stat None) [] z) (means e absent (Stat None) [] z)) (λ u y. exec e rest None y) (λ y w. stop y w)) ≡ after t z
  guarded z true = jump_passes e x (λ u y. exec e rest None y) z
  guarded z false = ap (at_end x) (ap (λ c. either c (λ u y. exec e rest None y) (λ y w. stop y w)) (absent_is e [] z) ∙ either_ok tt z _ _)

  guard_does : (s : State) → at_end x (exec e (if_alone test (jump x) ▸ rest) None s) ≡ either (means e test (As Test) tt s) after (ends_in (Some x))
  guard_does s =
      ap (at_end x) (exec_more e (if_alone test (jump x)) rest s
      ∙ ap (λ c. either c (λ u z. exec e rest None z) (λ y z. stop y z)) (if_is e test (jump x) absent [] s)
      ∙ either_assoc (means e test (As Test) tt s) _ _ _ _)
      ∙ either_assoc (means e test (As Test) tt s) _ _ _ _
      ∙ either_cong (means e test (As Test) tt s) _ after _ (ends_in (Some x)) (λ t z. guarded z t) (λ y z. ap (at_end x) (either_stop y z _ _) ∙ either_stop y z _ _)

  turned : are_unscoped rest ≡ true → (z : State) → (t : Bool) → at_end x (choose t (means e absent (Stat None) [] z) (means e (block rest) (Stat None) [] z)) ≡ after t z
  turned u z true = ap (at_end x) (absent_is e [] z) ∙ either_ok tt z _ _
  turned u z false = ap (at_end x) (block_is e rest (read_nothing rest u) [] z ∙ listed_is e rest [] z)

  turned_does : are_unscoped rest ≡ true → (s : State) → at_end x (exec e (if_alone (negation test) (block rest) ▸ none) None s) ≡ either (means e test (As Test) tt s) after (ends_in (Some x))
  turned_does u s =
      ap (at_end x) (exec_one e (if_alone (negation test) (block rest)) s
      ∙ if_is e (negation test) (block rest) absent [] s
      ∙ ap (λ c. either c (λ t z. choose t (means e (block rest) (Stat None) [] z) (means e absent (Stat None) [] z)) (λ y z. stop y z)) (not_test e test s)
      ∙ by_negated (means e test (As Test) tt s) (λ z. means e (block rest) (Stat None) [] z) (λ z. means e absent (Stat None) [] z))
      ∙ either_assoc (means e test (As Test) tt s) _ _ _ _
      ∙ either_cong (means e test (As Test) tt s) _ after _ (ends_in (Some x)) (λ t z. turned u z t) (λ y z. either_stop y z _ _)

pub row_75 : (x : Tail) (a b : Trees) → Row75 (jump x) a b → SameEnd x a b
row_75 x a b r = ends_replaced x a _ b _ r.shape r.written (record {
  by = λ e s. guard_does x e r.test r.rest s ∙ sym (turned_does x e r.test r.rest r.unscoped s);
  read = same_both (if_alone r.test (jump x) ▸ r.rest) (if_alone (negation r.test) (block r.rest) ▸ none) (read_nothing (if_alone r.test (jump x) ▸ r.rest) r.unscoped) (read_nothing (if_alone (negation r.test) (block r.rest) ▸ none) refl);
})

-- 75, of a block that ends with the jump

jump_unscoped : (x : Tail) → is_unscoped (jump x) ≡ true
jump_unscoped LoopTail = refl
jump_unscoped FunctionTail = refl

with_jump : (x : Tail) (body : Trees) → are_unscoped body ≡ true → are_unscoped (append body (jump x ▸ none)) ≡ true
with_jump x none h = ap (λ b. b && true) (jump_unscoped x)
with_jump x (t ▸ ts) h = ap (λ b. b && are_unscoped (append ts (jump x ▸ none))) (and_parts (is_unscoped t) (are_unscoped ts) h).0 ∙ with_jump x ts (and_parts (is_unscoped t) (are_unscoped ts) h).1

block_does : (e : Environment) (ts : Trees) → are_unscoped ts ≡ true → (z : State) → means e (block ts) (Stat None) [] z ≡ exec e ts None z
block_does e ts h z = block_is e ts (read_nothing ts h) [] z ∙ listed_is e ts [] z

alternate_does : (e : Environment) (ts : Trees) → are_unscoped ts ≡ true → (z : State) → means e (alternate_of ts) (Stat None) [] z ≡ exec e ts None z
alternate_does e none h z = absent_is e [] z ∙ sym (exec_none e z)
alternate_does e (t ▸ ts) h z = block_does e (t ▸ ts) h z

module _ (x : Tail) (e : Environment) (test : Tree) (body rest : Trees) (loose : are_unscoped body ≡ true) (unscoped : are_unscoped rest ≡ true) where
  -- the body is run where the test holds, the rest where it fails
  abbrev either_way : Bool → State → Completion (Unit {0})
  either_way t z = choose t (at_end x (exec e body None z)) (at_end x (exec e rest None z))

  abbrev then_rest : Completion (Unit {0}) → Completion (Unit {0})
  then_rest c = either c (λ u y. exec e rest None y) (λ y w. stop y w)

  body_ends : (z : State) → at_end x (then_rest (exec e (append body (jump x ▸ none)) None z)) ≡ at_end x (exec e body None z)
  body_ends z =
      ap (λ c. at_end x (then_rest c)) (exec_append e body (jump x ▸ none) z)
      ∙ ap (at_end x) (either_assoc (exec e body None z) (λ u y. exec e (jump x ▸ none) None y) (λ y w. stop y w) (λ u y. exec e rest None y) (λ y w. stop y w))
      ∙ either_assoc (exec e body None z) _ _ (λ u y. ok tt y) (ends_in (Some x))
      ∙ either_cong (exec e body None z) _ (λ u y. ok tt y) _ (ends_in (Some x))
      (λ u y. ap (λ c. at_end x (then_rest c)) (exec_one e (jump x) y) ∙ jump_passes e x (λ u w. exec e rest None w) y)
      (λ y w. ap (at_end x) (either_stop y w _ _) ∙ either_stop y w _ _)

  leaving : (z : State) → (t : Bool) → at_end x (then_rest (choose t (means e (block (append body (jump x ▸ none))) (Stat None) [] z) (means e absent (Stat None) [] z))) ≡ either_way t z
  leaving z true = ap (λ c. at_end x (then_rest c)) (block_does e (append body (jump x ▸ none)) (with_jump x body loose) z) ∙ body_ends z
  leaving z false = ap (λ c. at_end x (then_rest c)) (absent_is e [] z) ∙ ap (at_end x) (either_ok tt z _ _)

  leaving_does : (s : State) → at_end x (exec e (if_alone test (block (append body (jump x ▸ none))) ▸ rest) None s) ≡ either (means e test (As Test) tt s) either_way (ends_in (Some x))
  leaving_does s =
      ap (at_end x) (exec_more e (if_alone test (block (append body (jump x ▸ none)))) rest s
      ∙ ap then_rest (if_is e test (block (append body (jump x ▸ none))) absent [] s)
      ∙ either_assoc (means e test (As Test) tt s) _ _ _ _)
      ∙ either_assoc (means e test (As Test) tt s) _ _ _ _
      ∙ either_cong (means e test (As Test) tt s) _ either_way _ (ends_in (Some x)) (λ t z. leaving z t) (λ y z. ap (at_end x) (either_stop y z _ _) ∙ either_stop y z _ _)

  parted : (z : State) → (t : Bool) → at_end x (choose t (means e (block body) (Stat None) [] z) (means e (alternate_of rest) (Stat None) [] z)) ≡ either_way t z
  parted z true = ap (at_end x) (block_does e body loose z)
  parted z false = ap (at_end x) (alternate_does e rest unscoped z)

  parted_does : (s : State) → at_end x (exec e (if_else test (block body) (alternate_of rest) ▸ none) None s) ≡ either (means e test (As Test) tt s) either_way (ends_in (Some x))
  parted_does s =
      ap (at_end x) (exec_one e (if_else test (block body) (alternate_of rest)) s ∙ if_is e test (block body) (alternate_of rest) [] s)
      ∙ either_assoc (means e test (As Test) tt s) _ _ _ _
      ∙ either_cong (means e test (As Test) tt s) _ either_way _ (ends_in (Some x)) (λ t z. parted z t) (λ y z. either_stop y z _ _)

pub row_75_block : (x : Tail) (a b : Trees) → Row75Block (jump x) a b → SameEnd x a b
row_75_block x a b r = ends_replaced x a _ b _ r.shape r.written (record {
  by = λ e s. leaving_does x e r.test r.body r.rest r.loose r.unscoped s ∙ sym (parted_does x e r.test r.body r.rest r.loose r.unscoped s);
  read = same_both (if_alone r.test (block (append r.body (jump x ▸ none))) ▸ r.rest) (if_else r.test (block r.body) (alternate_of r.rest) ▸ none) (read_nothing (if_alone r.test (block (append r.body (jump x ▸ none))) ▸ r.rest) r.unscoped) (read_nothing (if_else r.test (block r.body) (alternate_of r.rest) ▸ none) refl);
})

-- ---- at the end of a function's body

pub end_same : (o : Switches) (x : Tail) (a b : Trees) → EndRow o (jump x) a b → SameEnd x a b
end_same o x a b (inl r) = row_78 x a b r
end_same o x a b (inr (s, inl r)) = row_75 x a b r
end_same o x a b (inr (s, inr r)) = row_75_block x a b r

body_end_equal : (o : Switches) (n w : Tree) → AtEnd (EndRow o bare_return) n w → Equal BodyList n w
body_end_equal o n w r = record { by = λ e d f z s. go e d f z s }
  where
    same : SameEnd FunctionTail r.read r.put
    same = end_same o FunctionTail r.read r.put r.row

    go : (e : Environment) (d : Demand) → Fits BodyList d → (z : Request d) (s : State) → means e n d z s ≡ means e w d z s
    go e (Stat (Some FunctionTail)) f z s = ap (λ t. means e t (Stat (Some FunctionTail)) z s) r.shape ∙ end_does FunctionTail r.before r.read r.put same e z s ∙ sym (ap (λ t. means e t (Stat (Some FunctionTail)) z s) r.written)
    go e d f z s = elim f [ ]

pub body_end_same : (o : Switches) (n w : Tree) → AtEnd (EndRow o bare_return) n w → SameAt BodyList n w
body_end_same o n w r = equal_same BodyList n w (body_end_equal o n w r)

pub ends_read : (pre a b : Trees) → ReadSame a b → summary (listed (append pre a)) ≡ summary (listed (append pre b))
ends_read pre a b r =
    ap (λ t. summary (listed (append pre t))) (sym (append_none a))
    ∙ read_alike (append pre (append a none)) (append pre (append b none)) (read_in_list pre a b none r)
    ∙ ap (λ t. summary (listed (append pre t))) (append_none b)

pub end_reads : (o : Switches) (x : Tail) (n w : Tree) → AtEnd (EndRow o (jump x)) n w → summary n ≡ summary w
end_reads o x n w r =
    ap summary r.shape
    ∙ ends_read r.before r.read r.put (end_same o x r.read r.put r.row).read
    ∙ sym (ap summary r.written)

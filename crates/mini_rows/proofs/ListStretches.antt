-- Some statements in the place of others in a list.
use Rattle.std.proofs.Common.{◌≡◌, ℕ, zero, suc, false, List, [], ◌∷◌, ◌++◌, length, Option, None, refl, sym, ap, ◌∙◌, subst}
use Rattle.mini_model.specs.Tree.{Tree, Trees, none, ◌▸◌, listed}
use Rattle.mini_model.specs.Paths.{append}
use Rattle.mini_laws.specs.Value.{Variable}
use Rattle.mini_laws.specs.State.{State, Completion, ok, stop, either, Environment}
use Rattle.mini_laws.specs.Demand.{Tail, Stat, LabelSet}
use Rattle.mini_laws.specs.Command.{Hoisted}
use Rattle.mini_laws.specs.Naming.{Summary, FunctionFact, summary, summaries, facts, facts_all, lets_all, functions_all, function_facts, texts_all}
use Rattle.mini_laws.specs.Asking.{last_tail}
use Rattle.mini_laws.specs.Step.{means}
use Rattle.mini_laws.specs.Tails.{ends_in}
use Rattle.mini_laws.proofs.Runs.{either_cong, either_assoc, either_eta, either_ok, either_stop, tail_stop}
use Rattle.mini_laws.proofs.Stretching.{exec, finish, listed_by, exec_cons}
use Rattle.mini_laws.proofs.Tailing.{tail_same}

-- ---- what statements in a row do where no tail is

last_none : (n : ℕ) → last_tail n None ≡ None
last_none zero = refl
last_none (suc n) = refl

finish_none : (x : Completion (Unit {0})) → finish None x ≡ x
unfolding tail_stop
finish_none x = either_eta x

pub exec_more : (e : Environment) (c : Tree) (ts : Trees) (s : State) → exec e (c ▸ ts) None s ≡ either (means e c (Stat None) [] s) (λ u z. exec e ts None z) (λ x z. stop x z)
exec_more e c ts s = exec_cons e c ts None s ∙ ap (λ w. either (means e c (Stat w) [] s) (λ u z. exec e ts None z) (λ x z. stop x z)) (last_none (length (facts ts)))

pub exec_none : (e : Environment) (s : State) → exec e none None s ≡ ok tt s
exec_none e s = refl

pub exec_one : (e : Environment) (c : Tree) (s : State) → exec e (c ▸ none) None s ≡ means e c (Stat None) [] s
exec_one e c s = exec_cons e c none None s ∙ either_eta (means e c (Stat None) [] s)

pub exec_two : (e : Environment) (c d : Tree) (s : State) → exec e (c ▸ (d ▸ none)) None s ≡ either (means e c (Stat None) [] s) (λ u z. means e d (Stat None) [] z) (λ x z. stop x z)
exec_two e c d s = exec_cons e c (d ▸ none) None s ∙ either_cong (means e c (Stat None) [] s) _ _ _ _ (λ u z. exec_one e d z) (λ x z. refl)

pub exec_append : (e : Environment) (a b : Trees) (s : State) → exec e (append a b) None s ≡ either (exec e a None s) (λ u z. exec e b None z) (λ x z. stop x z)
exec_append e none b s = sym (either_ok tt s (λ u z. exec e b None z) (λ x z. stop x z))
exec_append e (c ▸ a) b s =
    exec_more e c (append a b) s
    ∙ either_cong (means e c (Stat None) [] s) _ _ _ _ (λ u z. exec_append e a b z) (λ x z. sym (either_stop x z (λ u z. exec e b None z) (λ x z. stop x z)))
    ∙ sym (either_assoc (means e c (Stat None) [] s) (λ u z. exec e a None z) (λ x z. stop x z) (λ u z. exec e b None z) (λ x z. stop x z))
    ∙ ap (λ x. either x (λ u z. exec e b None z) (λ x z. stop x z)) (sym (exec_more e c a s))

pub listed_is : (e : Environment) (ts : Trees) (r : LabelSet) (s : State) → means e (listed ts) (Stat None) r s ≡ exec e ts None s
listed_is e ts r s = listed_by e [] 0 ts None r s ∙ finish_none (exec e ts None s)

-- ---- stretches that do the same and are read alike

-- what is read of a list of statements by what is around it
pub record ReadSame (a b : Trees) : Type 0 where
  pub lets : lets_all (summaries a) ≡ lets_all (summaries b)
  pub functions : functions_all (summaries a) ≡ functions_all (summaries b)
  pub facts : function_facts (facts_all (summaries a)) ≡ function_facts (facts_all (summaries b))
  pub texts : texts_all (facts_all (summaries a)) ≡ texts_all (facts_all (summaries b))

pub record SameStretch (a b : Trees) : Type 0 where
  pub by : (e : Environment) (s : State) → exec e a None s ≡ exec e b None s
  pub read : ReadSame a b

module _ {A : Type 0} where
  pub plus_assoc : (a b c : List A) → (a ++ b) ++ c ≡ a ++ (b ++ c)
  plus_assoc [] b c = refl
  plus_assoc (x ∷ a) b c = ap (λ l. x ∷ l) (plus_assoc a b c)

pub lets_append : (a b : Trees) → lets_all (summaries (append a b)) ≡ lets_all (summaries a) ++ lets_all (summaries b)
lets_append none b = refl
lets_append (c ▸ a) b = ap (λ l. (summary c).lets ++ l) (lets_append a b) ∙ sym (plus_assoc (summary c).lets _ _)

pub functions_append : (a b : Trees) → functions_all (summaries (append a b)) ≡ functions_all (summaries a) ++ functions_all (summaries b)
functions_append none b = refl
functions_append (c ▸ a) b = ap (λ l. (summary c).functions ++ l) (functions_append a b) ∙ sym (plus_assoc (summary c).functions _ _)

pub facts_append : (a b : Trees) → function_facts (facts_all (summaries (append a b))) ≡ function_facts (facts_all (summaries a)) ++ function_facts (facts_all (summaries b))
facts_append none b = refl
facts_append (c ▸ a) b = ap (λ l. (summary c).facts.functions ++ l) (facts_append a b) ∙ sym (plus_assoc (summary c).facts.functions _ _)

pub texts_append : (a b : Trees) → texts_all (facts_all (summaries (append a b))) ≡ texts_all (facts_all (summaries a)) ++ texts_all (facts_all (summaries b))
texts_append none b = refl
texts_append (c ▸ a) b = ap (λ l. (summary c).facts.texts ++ l) (texts_append a b) ∙ sym (plus_assoc (summary c).facts.texts _ _)

append_same : (pre a b post : Trees) → {A : Type 0} → (f : Trees → List A) → ((x y : Trees) → f (append x y) ≡ f x ++ f y) → f a ≡ f b → f (append pre (append a post)) ≡ f (append pre (append b post))
append_same pre a b post f h u = h pre (append a post) ∙ ap (λ l. f pre ++ l) (h a post ∙ ap (λ l. l ++ f post) u ∙ sym (h b post)) ∙ sym (h pre (append b post))

pub read_in_list : (pre a b post : Trees) → ReadSame a b → ReadSame (append pre (append a post)) (append pre (append b post))
read_in_list pre a b post r = record { lets = append_same pre a b post (λ x. lets_all (summaries x)) lets_append r.lets; functions = append_same pre a b post (λ x. functions_all (summaries x)) functions_append r.functions; facts = append_same pre a b post (λ x. function_facts (facts_all (summaries x))) facts_append r.facts; texts = append_same pre a b post (λ x. texts_all (facts_all (summaries x))) texts_append r.texts }

-- in any list
pub in_list_by : (e : Environment) (pre a b post : Trees) → ((s : State) → exec e a None s ≡ exec e b None s) → (s : State) → exec e (append pre (append a post)) None s ≡ exec e (append pre (append b post)) None s
in_list_by e pre a b post same s =
    exec_append e pre (append a post) s
    ∙ either_cong (exec e pre None s) _ _ _ _ (λ u z. exec_append e a post z ∙ ap (λ x. either x (λ u z. exec e post None z) (λ x z. stop x z)) (same z) ∙ sym (exec_append e b post z)) (λ x z. refl)
    ∙ sym (exec_append e pre (append b post) s)

pub in_list : (pre a b post : Trees) → SameStretch a b → SameStretch (append pre (append a post)) (append pre (append b post))
in_list pre a b post same = record { by = λ e. in_list_by e pre a b post (same.by e); read = read_in_list pre a b post same.read }

-- and so the lists do the same in every tail
pub list_does_by : (e : Environment) (a b : Trees) → ((s : State) → exec e a None s ≡ exec e b None s) → (t : Option Tail) (r : LabelSet) (s : State) → means e (listed a) (Stat t) r s ≡ means e (listed b) (Stat t) r s
list_does_by e a b same t r s =
    tail_same e (listed a) t r s
    ∙ ap (λ x. either x (λ u z. ok tt z) (ends_in t)) (listed_is e a r s ∙ same s ∙ sym (listed_is e b r s))
    ∙ sym (tail_same e (listed b) t r s)

pub list_does : (a b : Trees) → SameStretch a b → (e : Environment) (t : Option Tail) (r : LabelSet) (s : State) → means e (listed a) (Stat t) r s ≡ means e (listed b) (Stat t) r s
list_does a b same e = list_does_by e a b (same.by e)

abbrev list_summary : List Variable → List Hoisted → List FunctionFact → List (List ℕ) → Summary
list_summary ls hs fs ts = record { facts = record { absent = false; shortens = false; declared = None; functions = fs; texts = ts }; lets = ls; name = None; functions = hs }

same_summary : (l l' : List Variable) (h h' : List Hoisted) (f f' : List FunctionFact) (t t' : List (List ℕ)) → l ≡ l' → h ≡ h' → f ≡ f' → t ≡ t' → list_summary l h f t ≡ list_summary l' h' f' t'
same_summary l l' h h' f f' t t' u v w x = ap (λ y. list_summary y h f t) u ∙ ap (λ y. list_summary l' y f t) v ∙ ap (λ y. list_summary l' h' y t) w ∙ ap (λ y. list_summary l' h' f' y) x

pub read_alike : (a b : Trees) → ReadSame a b → summary (listed a) ≡ summary (listed b)
read_alike a b r = same_summary _ _ _ _ _ _ _ _ r.lets r.functions r.facts r.texts

pub list_reads : (a b : Trees) → SameStretch a b → summary (listed a) ≡ summary (listed b)
list_reads a b same = read_alike a b same.read

pub replaced : (a a' b b' : Trees) → a ≡ a' → b ≡ b' → SameStretch a' b' → SameStretch a b
replaced a a' b b' u v h = subst (λ x. SameStretch x b) (sym u) (subst (λ y. SameStretch a' y) (sym v) h)

-- A name that is read once behind names that are held: its initializer may stand there, in the statements of a body.
use Rattle.std.specs.Prelude.{◌||◌, not, nat_eq, Bool}
use Rattle.std.proofs.lemmas.Bool.{and_parts, eq-eqb}
use Rattle.std.proofs.Common.{◌≡◌, ℕ, true, false, List, [], ◌∷◌, None, Some, refl, sym, ap, ◌∙◌, subst, subst₂, true≢false}
use Rattle.mini_model.specs.declared.kind.VariableDeclarationKind.{VariableDeclarationKind}
use Rattle.mini_model.specs.declared.name.Name.{Name}
use Rattle.mini_model.specs.declared.shape.Shape.TheVariants as shape
use Rattle.mini_model.specs.Tree.{Tree, Trees, none, ◌▸◌, listed, identifier, program}
use Rattle.mini_model.specs.Paths.{append}
use Rattle.mini_model.specs.Weight.{same_text}
use Rattle.mini_laws.specs.Value.{Variable, Declared, Global, VariableSet, is_in}
use Rattle.mini_laws.specs.State.{State, stop, either, Writes, Environment}
use Rattle.mini_laws.specs.Demand.{FunctionTail, Stat}
use Rattle.mini_laws.specs.Naming.{summary, summaries, lets_all, is_lexical}
use Rattle.mini_laws.specs.Skeleton.{plus, minus, Within, Off, hidden, hidden_all}
use Rattle.mini_laws.specs.Path.{here, inside}
use Rattle.mini_laws.specs.Same.{Goes, Agree, Same, Initialised}
use Rattle.mini_laws.specs.Step.{means}
use Rattle.mini_laws.specs.Stretches as first
use Rattle.mini_laws.specs.Substitution.{alone}
use Rattle.mini_laws.specs.Congruence.{AllAvoid, Apart}
use Rattle.mini_laws.specs.Body.{FunctionStatements, Program}
use Rattle.mini_laws.proofs.Anywhere.{in_each_tail, stretch_anywhere}
use Rattle.mini_laws.proofs.Congruent.{body_same, congruent_same, reflexive, weaker}
use Rattle.mini_laws.proofs.Runs.{either_cong, either_assoc, either_stop}
use Rattle.mini_laws.proofs.Stretching.{exec}
use Rattle.mini_laws.proofs.Simulation.{within_refl}
use Rattle.mini_kept.specs.AlikeBodies.{RunsAs}
use Rattle.mini_kept.specs.Without.{Assured, Steadies, Begins, Unseen}
use Rattle.mini_rows.specs.Lists.{declaration}
use Rattle.mini_rows.specs.Past.{any_bind, is_let, begun, Kept, held, are_past_by_value}
use Rattle.mini_rows.specs.Sketches.{AsWholeItem, AsValue}
use Rattle.mini_rows.specs.Unused.{resolved, names, any_names, declared_one, declared_left, statements, static_block, OfValues, put_first, reads_first}
use Rattle.mini_rows.proofs.FoldMeaning.{plain_read}
use Rattle.mini_rows.proofs.FoundReads.{found_same, path_as, goes_as}
use Rattle.mini_rows.proofs.ItemReads.{plain_item}
use Rattle.mini_rows.proofs.ListStretches.{exec_one, exec_two, exec_more, exec_append, listed_is}
use Rattle.mini_rows.proofs.ListStatements.{declarations_join, empty_is}
use Rattle.mini_rows.proofs.PastParts.{Still, path_held}
use Rattle.mini_rows.proofs.PastRuns.{past_goes}
use Rattle.mini_rows.proofs.SingleUse.{Step, led, is_end, Well, Indirect, Spared, statement, or_true, found}
use Rattle.mini_rows.proofs.Unbound.{unhidden}
use Rattle.mini_rows.proofs.UnusedMeaning.{GoesWith, ReadThere, declared_then, list_read, all_join, same_append, same_symbol}
use Rattle.mini_terms.specs.Reading.{is_plain_part}

-- ---- a set of variables that no scope hides

-- of some statements, and of what is known
module _ (V : Assured) (ts : Trees) where
  -- no answer changes what is held behind some of them
  pub held_still : (before : Trees) (is_lexical : Bool) (first : Trees) (e : Environment) → Steadies V e → Still (held V ts before is_lexical first) e
  held_still before is_lexical first e s = record { by = λ j h. s.steady (Declared j) (and_parts (V.steady (Declared j)) (begun V ts (Declared j) || is_let j before is_lexical first) h).0; has_this = s.has_this }

  pub held_begins : (X : VariableSet) → Begins V X → Within (begun V ts) X
  unfolding Within
  held_begins X b (Declared j) h = b (Declared j) (and_parts (V.initial (Declared j)) (not (any_bind j ts)) h).0
  held_begins X b (Global s) h = absurd (true≢false (sym h))

  not_true : (b : Bool) → not b ≡ true → b ≡ false
  not_true true e = absurd (true≢false (sym e))
  not_true false e = refl

  -- those that other trees hide less
  pub held_off : (xs : List Variable) → ((j : ℕ) → any_bind j ts ≡ false → is_in (Declared j) xs ≡ false) → Off xs (begun V ts)
  unfolding Off
  held_off xs f (Declared j) h = f j (not_true (any_bind j ts) (and_parts (V.initial (Declared j)) (not (any_bind j ts)) h).1)
  held_off xs f (Global s) h = absurd (true≢false (sym h))

-- ---- the statements

-- what is read mentions the name
pub read_named : (spelling : List ℕ) (k : ℕ) (s : List ℕ) → names (resolved spelling k) (identifier (resolved s k)) ≡ true
read_named spelling k s = ap (λ b. b || false) (ap (λ b. b || false) (or_true (same_text spelling s) (nat_eq k k) (eq-eqb k k refl)))

module _ (e : Environment) (spelling : List ℕ) (k : ℕ) (z : Unseen (alone (Declared k)) e) (H : Kept) (still : Still H e) (init head : Tree) (moves : is_plain_part init ≡ true) where
  abbrev x : Name
  x = resolved spelling k

  pub statement_goes : reads_first x head ≡ true → are_past_by_value H x init head ≡ true → (s : State) → Initialised H.variables s → GoesWith e k init head (put_first x init head) s
  statement_goes once passed s ready =
      let t = statement x head once in
      let step : Step = record { lead = t.lead; rest = t.rest; is_short = false } in
      let steps : List Step = step ∷ t.path.steps in
      let reading = t.path.read in
      let read_as : identifier reading ≡ identifier (resolved reading.spelling k) = ap (λ y. identifier (record { spelling = reading.spelling; symbol = y })) (same_symbol k reading.symbol t.path.same) in
      let one = λ (u : Tree). led (step ∷ []) u in
      let there : head ≡ found steps (identifier (resolved reading.spelling k)) = t.is ∙ t.along t.inner ∙ ap one (path_as x k refl AsValue t.inner t.path) in
      let put : put_first x init head ≡ led steps init = t.puts init ∙ t.along (put_first x init t.inner) ∙ ap one (t.path.puts init) in
      let spared : Spared x steps = ((ap (any_names x) t.front, t.free), t.path.spared) in
      let past = path_held e k z init s H still ready x refl OfValues steps (resolved reading.spelling k) (read_named spelling k reading.spelling) (t.direct (found t.path.steps (identifier (resolved reading.spelling k))), subst (λ u. Indirect u t.path.steps) read_as t.path.direct) spared (sym (ap (are_past_by_value H x init) there) ∙ passed) in
      subst₂ (λ h w. GoesWith e k init h w s) (sym there) (sym put)
      (goes_as e k init (found steps (identifier (resolved reading.spelling k))) (led steps (identifier (resolved reading.spelling k))) (found_same steps (identifier (resolved reading.spelling k))) (led steps init) s
      (past_goes e k z init s x refl reading.spelling (sym (plain_read init moves)) (plain_item init moves) OfValues AsWholeItem steps (t.stands (is_end t.path.steps), subst (λ c. Well c t.path.steps) (sym (t.below AsWholeItem)) t.path.well) spared past (Stat None) tt tt [] tt))

-- ---- a declaration in two

pub append_twice : (a b c : Trees) → append (append a b) c ≡ append a (append b c)
append_twice none b c = refl
append_twice (t ▸ a) b c = ap (λ ts. t ▸ ts) (append_twice a b c)

module _ (e : Environment) (K : VariableDeclarationKind) (first rest : Trees) where
  abbrev left : Tree
  left = declared_left K first

  parts_run : (first : Trees) (s : State) → means e (declaration K (append first rest)) (Stat None) [] s ≡ either (means e (declared_left K first) (Stat None) [] s) (λ u t. means e (declaration K rest) (Stat None) [] t) (λ y t. stop y t)
  unfolding either
  parts_run none s = sym (ap (λ c. either c (λ u t. means e (declaration K rest) (Stat None) [] t) (λ y t. stop y t)) (empty_is e [] s))
  parts_run (t ▸ first) s = declarations_join e K (t ▸ first) rest s

  two_run : (us : Trees) (s : State) → exec e (declaration K (append first rest) ▸ us) None s ≡ exec e (left ▸ (declaration K rest ▸ us)) None s
  two_run us s =
      exec_more e (declaration K (append first rest)) us s
      ∙ ap (λ c. either c (λ u t. exec e us None t) (λ y t. stop y t)) (parts_run first s)
      ∙ either_assoc (means e left (Stat None) [] s) (λ u t. means e (declaration K rest) (Stat None) [] t) (λ y t. stop y t) (λ u t. exec e us None t) (λ y t. stop y t)
      ∙ either_cong (means e left (Stat None) [] s) _ _ _ _ (λ u t. sym (exec_more e (declaration K rest) us t)) (λ y t. either_stop y t (λ u t. exec e us None t) (λ y t. stop y t))
      ∙ sym (exec_more e left (declaration K rest ▸ us) s)

  behind_run : (before us : Trees) (s : State) → exec e (append before (declaration K (append first rest) ▸ us)) None s ≡ exec e (append (append before (left ▸ none)) (declaration K rest ▸ us)) None s
  behind_run before us s =
      exec_append e before (declaration K (append first rest) ▸ us) s
      ∙ either_cong (exec e before None s) _ _ _ _ (λ u t. two_run us t) (λ y t. refl)
      ∙ sym (exec_append e before (left ▸ (declaration K rest ▸ us)) s)
      ∙ ap (λ ts. exec e ts None s) (sym (append_twice before (left ▸ none) (declaration K rest ▸ us)))

  module _ (D X : VariableSet) where
    equal_run : (a b : Trees) → ((s : State) → exec e a None s ≡ exec e b None s) → Same e D X (Stat None) (listed a) (listed b)
    equal_run a b h = record {
      by = λ r s i. subst (Goes true (λ u. Agree D) (Agree D) (Agree D) (means e (listed a) (Stat None) r s)) (listed_is e a r s ∙ h s ∙ sym (listed_is e b r s)) ((reflexive e D X (Stat None) (listed a)).by r s i);
    }

    pub in_two : (before us : Trees) → Same e D X (Stat None) (listed (append before (declaration K (append first rest) ▸ us))) (listed (append (append before (left ▸ none)) (declaration K rest ▸ us)))
    in_two before us = equal_run (append before (declaration K (append first rest) ▸ us)) (append (append before (left ▸ none)) (declaration K rest ▸ us)) (behind_run before us)

    pub in_one : (before us : Trees) → Same e D X (Stat None) (listed (append (append before (left ▸ none)) (declaration K rest ▸ us))) (listed (append before (declaration K (append first rest) ▸ us)))
    in_one before us = equal_run (append (append before (left ▸ none)) (declaration K rest ▸ us)) (append before (declaration K (append first rest) ▸ us)) (λ s. sym (behind_run before us s))

-- ---- behind statements that hide none of them

module _ (e : Environment) (D : VariableSet) (apart : Apart e D) (X Y : VariableSet) where
  joined : (pre ts after : Trees) → first.append pre (first.append ts after) ≡ append pre (append ts after)
  joined pre ts after = same_append pre (first.append ts after) ∙ ap (append pre) (same_append ts after)

  pub behind_same : (pre a b after : Trees) → AllAvoid D after → Off (hidden_all pre) X → Within Y (minus (plus X (lets_all (summaries pre))) (hidden_all pre)) → Same e D Y (Stat None) (listed a) (listed b) → Same e D X (Stat None) (listed (append pre (append a after))) (listed (append pre (append b after)))
  behind_same pre a b after avoids off within same =
      subst₂ (λ n w. Same e D X (Stat None) (listed n) (listed w)) (joined pre a after) (joined pre b after) (stretch_anywhere e D apart pre a b after None X Y avoids off within same)

-- ---- the statement behind the declaration

module _ (e : Environment) (spelling : List ℕ) (k : ℕ) (z : Unseen (alone (Declared k)) e) (H : VariableSet) (init head put : Tree) (present : (summary init).facts.absent ≡ false) (K : VariableDeclarationKind) (permit : is_lexical K ≡ false → e.fixed (Declared k) ≡ Writes) (goes_with : (s : State) → Initialised H s → GoesWith e k init head put s) where
  abbrev one : Tree
  one = declared_one K (resolved spelling k) init

  pub pair_same : Same e (alone (Declared k)) H (Stat None) (listed (one ▸ (head ▸ none))) (listed (put ▸ none))
  pair_same = record {
    by = λ r s i. subst₂ (Goes true (λ u. Agree (alone (Declared k))) (Agree (alone (Declared k))) (Agree (alone (Declared k)))) (sym (listed_is e (one ▸ (head ▸ none)) r s ∙ exec_two e one head s)) (sym (listed_is e (put ▸ none) r s ∙ exec_one e put s))
        (declared_then e spelling k z K permit init present (λ t. means e head (Stat None) [] t) s (means e put (Stat None) [] s) (goes_with s i));
  }

-- ---- a body

-- statements that are read alike but for a name, where a body with them starts with some variables that no scope in it hides
module _ (e : Environment) (spelling : List ℕ) (k : ℕ) (z : Unseen (alone (Declared k)) e) (V : Assured) (before d w after : Trees) (r : ReadThere k d w) (avoids_before : AllAvoid (alone (Declared k)) before) (avoids_w : AllAvoid (alone (Declared k)) w) (avoids_after : AllAvoid (alone (Declared k)) after) where
  abbrev D : VariableSet
  D = alone (Declared k)

  abbrev ts : Trees
  ts = append before (append d after)

  abbrev us : Trees
  us = append before (append w after)

  unhidden_body : (j : ℕ) → any_bind j ts ≡ false → is_in (Declared j) (hidden (statements ts)) ≡ false
  unhidden_body j f = unhidden j (statements ts) (ap (λ b. b || false) f)

  pub body_runs : Same e D (begun V ts) (Stat None) (listed ts) (listed us) → (X : VariableSet) → Begins V X → RunsAs e FunctionStatements FunctionStatements X (statements ts) (statements us)
  body_runs same X begins =
      let H = begun V ts in
      let tail = in_each_tail e D H (listed ts) (listed us) same (Some FunctionTail) in
      let whole = congruent_same e D z.shared (inside shape.FunctionBody [] 0 none here none) (listed ts) (listed us) (tt, tt, tt, tt) (tt, all_join D before (append w after) avoids_before (all_join D w after avoids_w avoids_after)) (list_read e spelling k z before after d w r) H (Stat None) (held_off V ts (hidden (statements ts)) unhidden_body) tail in
      record { by = (body_same e D X z.shared FunctionStatements (statements ts) (statements us) (weaker e D D H X (within_refl D) (held_begins V ts X begins) (Stat None) (statements ts) (statements us) whole)).by }

  -- so does a module
  unhidden_module : (ds : List (List ℕ)) (j : ℕ) → any_bind j ts ≡ false → is_in (Declared j) (hidden (program true ds ts)) ≡ false
  unhidden_module ds j f = unhidden j (program true ds ts) (ap (λ b. b || false) f)

  pub program_runs : (ds : List (List ℕ)) → Same e D (begun V ts) (Stat None) (listed ts) (listed us) → (X : VariableSet) → Begins V X → RunsAs e Program Program X (program true ds ts) (program true ds us)
  program_runs ds same X begins =
      let H = begun V ts in
      let whole = congruent_same e D z.shared (inside (shape.Program true ds) [] 0 none here none) (listed ts) (listed us) (tt, tt, tt, tt) (tt, all_join D before (append w after) avoids_before (all_join D w after avoids_w avoids_after)) (list_read e spelling k z before after d w r) H (Stat None) (held_off V ts (hidden (program true ds ts)) (unhidden_module ds)) same in
      record { by = (body_same e D X z.shared Program (program true ds ts) (program true ds us) (weaker e D D H X (within_refl D) (held_begins V ts X begins) (Stat None) (program true ds ts) (program true ds us) whole)).by }

  -- and a static block
  unhidden_block : (n : ℕ) (j : ℕ) → any_bind j ts ≡ false → is_in (Declared j) (hidden (static_block n ts)) ≡ false
  unhidden_block n j f = unhidden j (static_block n ts) (ap (λ b. b || false) f)

  pub block_runs : (n : ℕ) → Same e D (begun V ts) (Stat None) (listed ts) (listed us) → (X : VariableSet) → Begins V X → RunsAs e FunctionStatements FunctionStatements X (static_block n ts) (static_block n us)
  block_runs n same X begins =
      let H = begun V ts in
      let whole = congruent_same e D z.shared (inside shape.StaticBlock [] n none here none) (listed ts) (listed us) (tt, tt, tt, tt) (tt, all_join D before (append w after) avoids_before (all_join D w after avoids_w avoids_after)) (list_read e spelling k z before after d w r) H (Stat None) (held_off V ts (hidden (static_block n ts)) (unhidden_block n)) same in
      record { by = (body_same e D X z.shared FunctionStatements (static_block n ts) (static_block n us) (weaker e D D H X (within_refl D) (held_begins V ts X begins) (Stat None) (static_block n ts) (static_block n us) whole)).by }

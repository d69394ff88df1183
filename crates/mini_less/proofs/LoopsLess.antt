-- A loop asks less where its parts hold nothing new, by each property of a kind, under the names
-- that its head declares.
use Rattle.std.specs.Prelude.{ℕ, zero, suc, ◌≡◌, ◌⊎◌, refl, Bool, true, false, ◌||◌, List, [], ◌∷◌, ◌++◌}
use Rattle.std.proofs.Common.{ap, ◌∙◌, sym, subst, inl, inr, true≢false}
use Rattle.std.proofs.lemmas.List.{append-nil}
use Rattle.mini_model.specs.declared.operator.AssignmentOperator.TheVariants.{Assign}
use Rattle.mini_model.specs.declared.place.Position.TheVariants.{Stmt}
use Rattle.mini_model.specs.declared.seat.StmtSeat.{StmtSeat}
use Rattle.mini_model.specs.declared.shape.Shape.{Shape}
use Rattle.mini_model.specs.declared.shape.Shape.TheVariants as shape
use Rattle.mini_model.specs.Tree.{Tree, Trees, node, none, ◌▸◌}
use Rattle.mini_accept.specs.WellShaped.{Slot, fits}
use Rattle.mini_laws.specs.declared.names.Binding.{Binding}
use Rattle.mini_laws.specs.declared.names.Declared.TheVariants as declared
use Rattle.mini_laws.specs.DeclaredNames.{names_of}
use Rattle.mini_laws.specs.Foreign.{has_number, any_has_number}
use Rattle.mini_laws.specs.Mentions.{is_among}
use Rattle.mini_laws.specs.Resolved.{Environment}
use Rattle.mini_laws.specs.ScopeList.{has_eval, any_has_eval, by_symbol}
use Rattle.mini_laws.specs.Scopes.{opened, lexical_scope}
use Rattle.mini_laws.specs.Shared.{is_of_function, names_arguments, any_names_arguments}
use Rattle.mini_laws.specs.Value.{Declared}
use Rattle.mini_shrink.specs.Pace.{Pace, Ends, Silent, Reads, followed, ends_after, all_followed, in_turn, AtMost, Setting, below, Question, pace, paces}
use Rattle.mini_shrink.specs.Questions.{Own, asks, any_of, finds, finds_each, early}
use Rattle.mini_shrink.specs.Shrinking.{AsksLess}
use Rattle.mini_shrink.proofs.Paces.{itself}
use Rattle.mini_rows.specs.Sketches.{If, Assignment, Asked, AsValue, AsTarget, AsWhole, AsBranch}
use Rattle.mini_rows.proofs.Arranging.{Below}
use Rattle.mini_less.specs.Families.{LessAt}
use Rattle.mini_less.specs.TellsLists.{TellsLists}
use Rattle.mini_less.specs.Less.{Frame, AFor, AWhile, ADo, AnIn, AnOf, frame_shape, headed, TellsPlainly}
use Rattle.mini_less.proofs.EachFact.{found_less}
use Rattle.mini_less.proofs.Finding.{Lacks, never, setting, setting_below, lacks_below, below_lacks}
use Rattle.mini_less.proofs.Flags.{spares_below, below_spares, numbers_below, below_numbers, unlike}
use Rattle.mini_less.proofs.Made.{ByParts, Spared, spared_below, below_spared, FactProperties, plain_properties}
use Rattle.mini_less.proofs.TellingLists.{by_lists}
use Rattle.mini_less.proofs.Plainly.{is_reads, is_ended, split, join, not_ended, less_by, Calmly, calm_below, below_calm, standing, standing_below, none_ended, head_scope, later_scopes}
use Rattle.mini_less.proofs.Shown.{shows_all}

-- how the parts of a loop stand
abbrev pub frame_asked : Frame → ℕ → Asked
frame_asked AFor zero = AsValue
frame_asked AFor (suc zero) = AsValue
frame_asked AFor (suc (suc zero)) = AsValue
frame_asked AFor (suc (suc (suc j))) = AsBranch
frame_asked AWhile zero = AsValue
frame_asked AWhile (suc j) = AsBranch
frame_asked ADo zero = AsBranch
frame_asked ADo (suc j) = AsValue
frame_asked AnIn zero = AsTarget
frame_asked AnIn (suc zero) = AsValue
frame_asked AnIn (suc (suc j)) = AsBranch
frame_asked AnOf zero = AsTarget
frame_asked AnOf (suc zero) = AsValue
frame_asked AnOf (suc (suc j)) = AsBranch

-- what is evaluated before the head
abbrev pub before_head : Frame → Trees → Trees
before_head AnIn (r ▸ ts) = r ▸ none
before_head AnOf (r ▸ ts) = r ▸ none
before_head f ts = none

-- all but the first child are asked where the first is
later_finds : (o : Own) (sc : ℕ → List Binding) → ((j : ℕ) → sc (suc j) ≡ []) → (cs : ℕ → Setting) (k : ℕ) (e : Environment) (ts : Trees) → finds_each o sc cs (suc k) e ts ≡ finds_each o (λ j. []) cs (suc k) e ts
unfolding finds
later_finds o sc z cs k e none = refl
later_finds o sc z cs k e (t ▸ ts) = λ j. finds o (cs (suc k)) (e ++ z k j) t ∷ (ap (λ r. finds_each o sc cs (suc (suc k)) (e ++ r) ts) (z k) ∙ later_finds o sc z cs (suc k) (e ++ []) ts) j

head_finds : (o : Own) (sc : ℕ → List Binding) → ((j : ℕ) → sc (suc j) ≡ []) → (cs : ℕ → Setting) (e : Environment) (i : Tree) (ts : Trees) → finds_each o sc cs 0 e (i ▸ ts) ≡ finds_each o (λ j. []) cs 0 (e ++ sc 0) (i ▸ ts)
unfolding finds
head_finds o sc z cs e i ts = λ j. finds o (cs 0) (sym (append-nil (e ++ sc 0)) j) i ∷ (later_finds o sc z cs 0 (e ++ sc 0) ts ∙ ap (λ r. finds_each o (λ j. []) cs 1 r ts) (sym (append-nil (e ++ sc 0)))) j

module _ (q : Question) where
  later_paces : (sc : ℕ → List Binding) → ((j : ℕ) → sc (suc j) ≡ []) → (cs : ℕ → Setting) (k : ℕ) (e : Environment) (ts : Trees) → paces q sc cs (suc k) e ts ≡ paces q (λ j. []) cs (suc k) e ts
  unfolding pace
  later_paces sc z cs k e none = refl
  later_paces sc z cs k e (t ▸ ts) = λ j. ends_after (q.ends (cs (suc k)) t) (pace q (cs (suc k)) (e ++ z k j) t) ∷ (ap (λ r. paces q sc cs (suc (suc k)) (e ++ r) ts) (z k) ∙ later_paces sc z cs (suc k) (e ++ []) ts) j

  pub head_paces : (sc : ℕ → List Binding) → ((j : ℕ) → sc (suc j) ≡ []) → (cs : ℕ → Setting) (e : Environment) (i : Tree) (ts : Trees) → paces q sc cs 0 e (i ▸ ts) ≡ paces q (λ j. []) cs 0 (e ++ sc 0) (i ▸ ts)
  unfolding pace
  head_paces sc z cs e i ts = λ j. ends_after (q.ends (cs 0) i) (pace q (cs 0) (sym (append-nil (e ++ sc 0)) j) i) ∷ (later_paces sc z cs 0 (e ++ sc 0) ts ∙ ap (λ r. paces q (λ j. []) cs 1 r ts) (sym (append-nil (e ++ sc 0)))) j

either_or : (x y z w : Bool) → (x ≡ true → z ≡ true) → (y ≡ true → w ≡ true) → (x || y) ≡ true → (z || w) ≡ true
either_or true y z w f g e = ap (λ b. b || w) (f refl)
either_or false y true w f g e = refl
either_or false y false w f g e = g e

-- nothing is seen after an end, or a read
cut : (p r : Pace) → followed (ends_after true p) r ≡ ends_after true p
cut Ends r = refl
cut Silent r = refl
cut Reads r = refl

-- around the parts
abbrev in_head : Environment → Frame → Tree → Environment
in_head env f i = env ++ lexical_scope (headed f i)

module _ (o : Own) (p : TellsPlainly o) (c : Setting) (env : Environment) where
  pub loop_setting : (f : Frame) (j : ℕ) → below false c (frame_shape f) 0 j ≡ setting o p c env (frame_asked f j)
  loop_setting AFor zero = setting_below o p c env If AsWhole 0
  loop_setting AFor (suc zero) = setting_below o p c env If AsWhole 0
  loop_setting AFor (suc (suc zero)) = setting_below o p c env If AsWhole 0
  loop_setting AFor (suc (suc (suc j))) = setting_below o p c env If AsWhole 1
  loop_setting AWhile zero = setting_below o p c env If AsWhole 0
  loop_setting AWhile (suc j) = setting_below o p c env If AsWhole 1
  loop_setting ADo zero = setting_below o p c env If AsWhole 1
  loop_setting ADo (suc j) = setting_below o p c env If AsWhole 0
  loop_setting AnIn zero = setting_below o p c env (Assignment Assign) AsWhole 0
  loop_setting AnIn (suc zero) = setting_below o p c env If AsWhole 0
  loop_setting AnIn (suc (suc j)) = setting_below o p c env If AsWhole 1
  loop_setting AnOf zero = setting_below o p c env (Assignment Assign) AsWhole 0
  loop_setting AnOf (suc zero) = setting_below o p c env If AsWhole 0
  loop_setting AnOf (suc (suc j)) = setting_below o p c env If AsWhole 1

swap : (p r x : Pace) → is_reads (followed (ends_after false r) (followed (ends_after false p) x)) ≡ false → is_reads (followed (ends_after false p) (followed (ends_after false r) x)) ≡ false
swap p r x e =
    let (a, b) = split r (followed (ends_after false p) x) e in
    let (d, g) = split p x b in
    join p (followed (ends_after false r) x) d (join r x a g)

module _ (m s : ℕ) (c : Setting) (env : Environment) where
  pub loop_standing : (f : Frame) (j : ℕ) → below false c (frame_shape f) 0 j ≡ standing m s c env (frame_asked f j)
  loop_standing AFor zero = standing_below m s c env If AsWhole false refl 0
  loop_standing AFor (suc zero) = standing_below m s c env If AsWhole false refl 0
  loop_standing AFor (suc (suc zero)) = standing_below m s c env If AsWhole false refl 0
  loop_standing AFor (suc (suc (suc j))) = standing_below m s c env If AsWhole false refl 1
  loop_standing AWhile zero = standing_below m s c env If AsWhole false refl 0
  loop_standing AWhile (suc j) = standing_below m s c env If AsWhole false refl 1
  loop_standing ADo zero = standing_below m s c env If AsWhole false refl 1
  loop_standing ADo (suc j) = standing_below m s c env If AsWhole false refl 0
  loop_standing AnIn zero = standing_below m s c env (Assignment Assign) AsWhole false refl 0
  loop_standing AnIn (suc zero) = standing_below m s c env If AsWhole false refl 0
  loop_standing AnIn (suc (suc j)) = standing_below m s c env If AsWhole false refl 1
  loop_standing AnOf zero = standing_below m s c env (Assignment Assign) AsWhole false refl 0
  loop_standing AnOf (suc zero) = standing_below m s c env If AsWhole false refl 0
  loop_standing AnOf (suc (suc j)) = standing_below m s c env If AsWhole false refl 1

  -- where nothing ends the order of the first two doesn't matter
  abbrev pub plainly_said : Frame → Tree → Trees → List Pace
  plainly_said f i ts = paces (early m s) (λ k. []) (below false c (frame_shape f) 0) 0 env (i ▸ ts)

  pub of_turn : (f : Frame) (i : Tree) (ts : Trees) → is_reads (in_turn (frame_shape f) (plainly_said f i ts)) ≡ false → is_reads (all_followed (plainly_said f i ts)) ≡ false
  unfolding pace
  of_turn AFor i ts a = a
  of_turn AWhile i ts a = a
  of_turn ADo i ts a = a
  of_turn AnIn i none a = a
  of_turn AnIn i (r ▸ ts) a = swap (pace (early m s) (below false c shape.ForInStatement 0 0) (env ++ []) i) (pace (early m s) (below false c shape.ForInStatement 0 1) ((env ++ []) ++ []) r) (all_followed (paces (early m s) (λ k. []) (below false c shape.ForInStatement 0) 2 ((env ++ []) ++ []) ts)) a
  of_turn AnOf i none a = a
  of_turn AnOf i (r ▸ ts) a = swap (pace (early m s) (below false c shape.ForOfStatement 0 0) (env ++ []) i) (pace (early m s) (below false c shape.ForOfStatement 0 1) ((env ++ []) ++ []) r) (all_followed (paces (early m s) (λ k. []) (below false c shape.ForOfStatement 0) 2 ((env ++ []) ++ []) ts)) a

  pub to_turn : (f : Frame) (i : Tree) (ts : Trees) → is_reads (all_followed (plainly_said f i ts)) ≡ false → is_reads (in_turn (frame_shape f) (plainly_said f i ts)) ≡ false
  unfolding pace
  to_turn AFor i ts a = a
  to_turn AWhile i ts a = a
  to_turn ADo i ts a = a
  to_turn AnIn i none a = a
  to_turn AnIn i (r ▸ ts) a = swap (pace (early m s) (below false c shape.ForInStatement 0 1) ((env ++ []) ++ []) r) (pace (early m s) (below false c shape.ForInStatement 0 0) (env ++ []) i) (all_followed (paces (early m s) (λ k. []) (below false c shape.ForInStatement 0) 2 ((env ++ []) ++ []) ts)) a
  to_turn AnOf i none a = a
  to_turn AnOf i (r ▸ ts) a = swap (pace (early m s) (below false c shape.ForOfStatement 0 1) ((env ++ []) ++ []) r) (pace (early m s) (below false c shape.ForOfStatement 0 0) (env ++ []) i) (all_followed (paces (early m s) (λ k. []) (below false c shape.ForOfStatement 0) 2 ((env ++ []) ++ []) ts)) a

  turn_ended : (f : Frame) (i : Tree) (ts : Trees) → is_ended (in_turn (frame_shape f) (plainly_said f i ts)) ≡ false
  unfolding pace
  turn_ended AFor i ts = none_ended m s c env (λ k. []) (below false c shape.ForStatement 0) (λ k. refl) 0 env (i ▸ ts)
  turn_ended AWhile i ts = none_ended m s c env (λ k. []) (below false c shape.WhileStatement 0) (λ k. refl) 0 env (i ▸ ts)
  turn_ended ADo i ts = none_ended m s c env (λ k. []) (below false c shape.DoWhileStatement 0) (λ k. refl) 0 env (i ▸ ts)
  turn_ended AnIn i none = none_ended m s c env (λ k. []) (below false c shape.ForInStatement 0) (λ k. refl) 0 env (i ▸ none)
  turn_ended AnIn i (r ▸ ts) = in_both shape.ForInStatement i r ts
    where
      in_both : (h : Shape) (i r : Tree) (ts : Trees) → is_ended (followed (ends_after false (pace (early m s) (below false c h 0 1) ((env ++ []) ++ []) r)) (followed (ends_after false (pace (early m s) (below false c h 0 0) (env ++ []) i)) (all_followed (paces (early m s) (λ k. []) (below false c h 0) 2 ((env ++ []) ++ []) ts)))) ≡ false
      in_both h i r ts = not_ended m s c env (pace (early m s) (below false c h 0 1) ((env ++ []) ++ []) r) (followed (ends_after false (pace (early m s) (below false c h 0 0) (env ++ []) i)) (all_followed (paces (early m s) (λ k. []) (below false c h 0) 2 ((env ++ []) ++ []) ts))) (not_ended m s c env (pace (early m s) (below false c h 0 0) (env ++ []) i) (all_followed (paces (early m s) (λ k. []) (below false c h 0) 2 ((env ++ []) ++ []) ts)) (none_ended m s c env (λ k. []) (below false c h 0) (λ k. refl) 2 ((env ++ []) ++ []) ts))
  turn_ended AnOf i none = none_ended m s c env (λ k. []) (below false c shape.ForOfStatement 0) (λ k. refl) 0 env (i ▸ none)
  turn_ended AnOf i (r ▸ ts) = in_both shape.ForOfStatement i r ts
    where
      in_both : (h : Shape) (i r : Tree) (ts : Trees) → is_ended (followed (ends_after false (pace (early m s) (below false c h 0 1) ((env ++ []) ++ []) r)) (followed (ends_after false (pace (early m s) (below false c h 0 0) (env ++ []) i)) (all_followed (paces (early m s) (λ k. []) (below false c h 0) 2 ((env ++ []) ++ []) ts)))) ≡ false
      in_both h i r ts = not_ended m s c env (pace (early m s) (below false c h 0 1) ((env ++ []) ++ []) r) (followed (ends_after false (pace (early m s) (below false c h 0 0) (env ++ []) i)) (all_followed (paces (early m s) (λ k. []) (below false c h 0) 2 ((env ++ []) ++ []) ts))) (not_ended m s c env (pace (early m s) (below false c h 0 0) (env ++ []) i) (all_followed (paces (early m s) (λ k. []) (below false c h 0) 2 ((env ++ []) ++ []) ts)) (none_ended m s c env (λ k. []) (below false c h 0) (λ k. refl) 2 ((env ++ []) ++ []) ts))

  -- nothing is seen behind the head that declares the name
  abbrev said_in : Frame → Tree → Trees → Pace
  said_in f i ts = in_turn (frame_shape f) (paces (early m s) (λ k. []) (below true c (frame_shape f) 0) 0 env (i ▸ ts))

  cut_off : (b : Bool) → b ≡ true → (p x y : Pace) → followed (ends_after b p) x ≡ followed (ends_after b p) y
  cut_off true e p x y = cut p x ∙ sym (cut p y)
  cut_off false e p x y = absurd (true≢false (sym e))

  abbrev head_pace : Shape → Tree → Pace
  head_pace h i = pace (early m s) (below true c h 0 0) (env ++ []) i

  abbrev second_pace : Shape → Tree → Pace
  second_pace h r = ends_after ((early m s).ends (below true c h 0 1) r) (pace (early m s) (below true c h 0 1) ((env ++ []) ++ []) r)

  abbrev declares_it : Tree → Bool
  declares_it i = is_among (by_symbol s) (names_of declared.Lexical i) || is_among (by_symbol s) (names_of declared.Bound i)

  declares_so : (i : Tree) → is_among (by_symbol s) (names_of declared.Lexical i) ≡ true → declares_it i ≡ true
  declares_so i z = ap (λ b. b || is_among (by_symbol s) (names_of declared.Bound i)) z

  head_says : (f : Frame) (i : Tree) (ts : Trees) → is_among (by_symbol s) (headed f i) ≡ true → said_in f i ts ≡ said_in f i (before_head f ts)
  unfolding pace
  head_says AFor i ts z = cut_off (declares_it i) (declares_so i z) (head_pace shape.ForStatement i) (all_followed (paces (early m s) (λ k. []) (below true c shape.ForStatement 0) 1 (env ++ []) ts)) Silent
  head_says AWhile i ts z = absurd (true≢false (sym z))
  head_says ADo i ts z = absurd (true≢false (sym z))
  head_says AnIn i none z = refl
  head_says AnIn i (r ▸ ts) z = ap (followed (second_pace shape.ForInStatement r)) (cut_off (declares_it i) (declares_so i z) (head_pace shape.ForInStatement i) (all_followed (paces (early m s) (λ k. []) (below true c shape.ForInStatement 0) 2 ((env ++ []) ++ []) ts)) Silent)
  head_says AnOf i none z = refl
  head_says AnOf i (r ▸ ts) z = ap (followed (second_pace shape.ForOfStatement r)) (cut_off (declares_it i) (declares_so i z) (head_pace shape.ForOfStatement i) (all_followed (paces (early m s) (λ k. []) (below true c shape.ForOfStatement 0) 2 ((env ++ []) ++ []) ts)) Silent)

  -- a loop declares nothing around it, and hands no order on
  pub told_by_head : (f : Frame) (i : Tree) (ts : Trees) → (early m s).orders c (frame_shape f) (i ▸ ts) ≡ is_among (by_symbol s) (headed f i)
  told_by_head AFor i ts = refl
  told_by_head AWhile i ts = refl
  told_by_head ADo i ts = refl
  told_by_head AnIn i ts = refl
  told_by_head AnOf i ts = refl

  pub silent_root : (f : Frame) (ts : Trees) → (early m s).before c env (frame_shape f) [] 0 ts ≡ Silent
  silent_root AFor ts = refl
  silent_root AWhile ts = refl
  silent_root ADo ts = refl
  silent_root AnIn ts = refl
  silent_root AnOf ts = refl

abbrev pub loop_node : Frame → Tree → Trees → Tree
loop_node f i ts = node (frame_shape f) [] 0 (i ▸ ts)

-- what holds of the parts of one holds of those of the other, by each property of a kind
abbrev pub LoopMadeBy : ((Asked → Tree → Type 0) → Type 1) → Frame → Tree → Trees → Tree → Trees → Type 1
LoopMadeBy Kind f i ts j us = (Q : Asked → Tree → Type 0) → Kind Q → Below Q (frame_asked f) 0 (i ▸ ts) → Below Q (frame_asked f) 0 (j ▸ us)

-- the head and what is evaluated before it stay, or it declares nothing
abbrev pub HeadStays : Frame → Tree → Trees → Tree → Trees → Type 0
HeadStays f i ts j us = ((j ≡ i) × (before_head f us ≡ before_head f ts)) ⊎ (headed f i ≡ [])

pub frame_evals : (f : Frame) (ts : Trees) → has_eval (node (frame_shape f) [] 0 ts) ≡ any_has_eval ts
unfolding has_eval
frame_evals AFor ts = refl
frame_evals AWhile ts = refl
frame_evals ADo ts = refl
frame_evals AnIn ts = refl
frame_evals AnOf ts = refl

pub frame_names : (f : Frame) (ts : Trees) → names_arguments (node (frame_shape f) [] 0 ts) ≡ any_names_arguments (is_of_function (frame_shape f)) 0 ts
unfolding names_arguments
frame_names AFor ts = refl
frame_names AWhile ts = refl
frame_names ADo ts = refl
frame_names AnIn ts = refl
frame_names AnOf ts = refl

pub frame_of_function : (f : Frame) (k : ℕ) → is_of_function (frame_shape f) k ≡ true
frame_of_function AFor k = refl
frame_of_function AWhile k = refl
frame_of_function ADo k = refl
frame_of_function AnIn k = refl
frame_of_function AnOf k = refl

module _ (Told : Question → Type 0) (Kind : (Asked → Tree → Type 0) → Type 1) (kinds : FactProperties Told Kind) (f : Frame) (i j : Tree) (ts us : Trees) (same : headed f j ≡ headed f i) (head : HeadStays f i ts j us) (made : LoopMadeBy Kind f i ts j us) where
  evals : any_has_eval (j ▸ us) ≡ true → any_has_eval (i ▸ ts) ≡ true
  evals = never (any_has_eval (i ▸ ts)) (any_has_eval (j ▸ us)) (λ a. below_spared (frame_asked f) 0 (j ▸ us) (made Spared kinds.spared (spared_below (frame_asked f) 0 (i ▸ ts) a)))

  module _ (c : Setting) (env : Environment) where
    around_both : env ++ opened c.used (frame_shape f) (j ▸ us) 0 ≡ in_head env f i
    around_both = ap (λ b. env ++ b) (head_scope c.used f j us ∙ ap lexical_scope same)

    around_first : env ++ opened c.used (frame_shape f) (i ▸ ts) 0 ≡ in_head env f i
    around_first = ap (λ b. env ++ b) (head_scope c.used f i ts)

    asked : (o : Own) (tells : TellsLists o) → Told (asks o) → AtMost (pace (asks o) c env (loop_node f j us)) (pace (asks o) c env (loop_node f i ts))
    unfolding finds
    asked o tells known =
        let h = frame_shape f in
        let cs = below false c h 0 in
        let e = in_head env f i in
        let n_is : any_of (finds_each o (opened c.used h (i ▸ ts)) cs 0 env (i ▸ ts)) ≡ any_of (finds_each o (λ k. []) cs 0 e (i ▸ ts)) =
        ap any_of (head_finds o (opened c.used h (i ▸ ts)) (later_scopes c.used f i ts) cs env i ts ∙ ap (λ b. finds_each o (λ k. []) cs 0 b (i ▸ ts)) around_first) in
        let w_is : any_of (finds_each o (opened c.used h (j ▸ us)) cs 0 env (j ▸ us)) ≡ any_of (finds_each o (λ k. []) cs 0 e (j ▸ us)) =
        ap any_of (head_finds o (opened c.used h (j ▸ us)) (later_scopes c.used f j us) cs env j us ∙ ap (λ b. finds_each o (λ k. []) cs 0 b (j ▸ us)) around_both) in
        found_less o c env (loop_node f i ts) (loop_node f j us)
        (either_or (o c env h [] 0 (j ▸ us)) (any_of (finds_each o (opened c.used h (j ▸ us)) cs 0 env (j ▸ us))) (o c env h [] 0 (i ▸ ts)) (any_of (finds_each o (opened c.used h (i ▸ ts)) cs 0 env (i ▸ ts)))
        (tells.plainly.looped c env f i j ts us same evals)
        (never (any_of (finds_each o (opened c.used h (i ▸ ts)) cs 0 env (i ▸ ts))) (any_of (finds_each o (opened c.used h (j ▸ us)) cs 0 env (j ▸ us))) (λ a.
        w_is ∙ below_lacks o tells.plainly c e (frame_asked f) (λ k. []) (λ k. refl) cs (loop_setting o tells.plainly c e f) 0 e refl (j ▸ us)
        (made (Lacks o tells.plainly c e) (kinds.lacks o tells known c e)
        (lacks_below o tells.plainly c e (frame_asked f) (λ k. []) (λ k. refl) cs (loop_setting o tells.plainly c e f) 0 e refl (i ▸ ts) (sym n_is ∙ a))))))

    module _ (m s : ℕ) (known : Told (early m s)) where
      abbrev told : Bool
      told = is_among (by_symbol s) (headed f i)

      -- what a loop says, told whether its head declares the name
      n_says : (b : Bool) → told ≡ b → pace (early m s) c env (loop_node f i ts) ≡ in_turn (frame_shape f) (paces (early m s) (λ k. []) (below b c (frame_shape f) 0) 0 (in_head env f i) (i ▸ ts))
      unfolding pace
      n_says b z =
          let q = early m s in
          let h = frame_shape f in
          ap (λ x. followed x (in_turn h (paces q (opened c.used h (i ▸ ts)) (below (q.orders c h (i ▸ ts)) c h 0) 0 env (i ▸ ts)))) (silent_root m s c env f (i ▸ ts))
          ∙ ap (λ x. in_turn h (paces q (opened c.used h (i ▸ ts)) (below x c h 0) 0 env (i ▸ ts))) (told_by_head m s c env f i ts ∙ z)
          ∙ ap (in_turn h) (head_paces q (opened c.used h (i ▸ ts)) (later_scopes c.used f i ts) (below b c h 0) env i ts ∙ ap (λ x. paces q (λ k. []) (below b c h 0) 0 x (i ▸ ts)) around_first)

      w_says : (b : Bool) → told ≡ b → pace (early m s) c env (loop_node f j us) ≡ in_turn (frame_shape f) (paces (early m s) (λ k. []) (below b c (frame_shape f) 0) 0 (in_head env f i) (j ▸ us))
      unfolding pace
      w_says b z =
          let q = early m s in
          let h = frame_shape f in
          ap (λ x. followed x (in_turn h (paces q (opened c.used h (j ▸ us)) (below (q.orders c h (j ▸ us)) c h 0) 0 env (j ▸ us)))) (silent_root m s c env f (j ▸ us))
          ∙ ap (λ x. in_turn h (paces q (opened c.used h (j ▸ us)) (below x c h 0) 0 env (j ▸ us))) (told_by_head m s c env f j us ∙ ap (is_among (by_symbol s)) same ∙ z)
          ∙ ap (in_turn h) (head_paces q (opened c.used h (j ▸ us)) (later_scopes c.used f j us) (below b c h 0) env j us ∙ ap (λ x. paces q (λ k. []) (below b c h 0) 0 x (j ▸ us)) around_both)

      in_order : AtMost (pace (early m s) c env (loop_node f j us)) (pace (early m s) c env (loop_node f i ts))
      in_order = by told refl head
        where
          by : (b : Bool) → told ≡ b → HeadStays f i ts j us → AtMost (pace (early m s) c env (loop_node f j us)) (pace (early m s) c env (loop_node f i ts))
          by false z h =
              let e = in_head env f i in
              let said : Tree → Trees → Pace = λ x xs. in_turn (frame_shape f) (paces (early m s) (λ k. []) (below false c (frame_shape f) 0) 0 e (x ▸ xs)) in
              subst (λ x. AtMost x (pace (early m s) c env (loop_node f i ts))) (sym (w_says false z)) (subst (AtMost (said j us)) (sym (n_says false z))
              (less_by (said j us) (said i ts) (λ a.
              to_turn m s c e f j us (below_calm m s c e (frame_asked f) (λ k. []) (λ k. refl) (below false c (frame_shape f) 0) (loop_standing m s c e f) 0 e refl (j ▸ us)
              (made (Calmly m s c e) (kinds.calm m s known c e)
              (calm_below m s c e (frame_asked f) (λ k. []) (λ k. refl) (below false c (frame_shape f) 0) (loop_standing m s c e f) 0 e refl (i ▸ ts) (of_turn m s c e f i ts a)))))
              (turn_ended m s c e f i ts)))
          by true z (inr g) = absurd (true≢false (sym z ∙ ap (is_among (by_symbol s)) g))
          by true z (inl (g, r)) =
              let e = in_head env f i in
              let n_is = n_says true z ∙ head_says m s c e f i ts z in
              let w_is : pace (early m s) c env (loop_node f j us) ≡ said_in m s c e f i (before_head f ts) =
              w_says true z ∙ ap (λ x. said_in m s c e f x us) g ∙ head_says m s c e f i us z ∙ ap (said_in m s c e f i) r in
              subst (λ x. AtMost x (pace (early m s) c env (loop_node f i ts))) (sym w_is) (subst (AtMost (said_in m s c e f i (before_head f ts))) (sym n_is) (itself _))

  arguments : names_arguments (loop_node f j us) ≡ true → names_arguments (loop_node f i ts) ≡ true
  arguments e = frame_names f (i ▸ ts) ∙ never (any_names_arguments (is_of_function (frame_shape f)) 0 (i ▸ ts)) (any_names_arguments (is_of_function (frame_shape f)) 0 (j ▸ us)) (λ a.
      below_spares (frame_asked f) (is_of_function (frame_shape f)) (frame_of_function f) 0 (j ▸ us) (made (λ d t. names_arguments t ≡ false) kinds.names (spares_below (frame_asked f) (is_of_function (frame_shape f)) (frame_of_function f) 0 (i ▸ ts) a)))
      (sym (frame_names f (j ▸ us)) ∙ e)

  numbers : (k : ℕ) → has_number k (loop_node f j us) ≡ true → has_number k (loop_node f i ts) ≡ true
  unfolding has_number
  numbers zero e = refl
  numbers (suc k) e = ap (λ b. b || any_has_number (suc k) (i ▸ ts)) (unlike k) ∙ never (any_has_number (suc k) (i ▸ ts)) (any_has_number (suc k) (j ▸ us)) (λ a.
      below_numbers k (frame_asked f) 0 (j ▸ us) (made (λ d t. has_number (suc k) t ≡ false) (kinds.numbers k) (numbers_below k (frame_asked f) 0 (i ▸ ts) a))) (sym (ap (λ b. b || any_has_number (suc k) (j ▸ us)) (unlike k)) ∙ e)

module _ (Told : Question → Type 0) (Kind : (Asked → Tree → Type 0) → Type 1) (kinds : FactProperties Told Kind) (q : StmtSeat) (n w : Tree) (f : Frame) (i j : Tree) (ts us : Trees) (a : n ≡ loop_node f i ts) (b : w ≡ loop_node f j us) (same : headed f j ≡ headed f i) (head : HeadStays f i ts j us) (made : (strict : Bool) (x : Slot) → fits strict x n ≡ true → LoopMadeBy Kind f i ts j us) where
  less_loop : (x : Question) (k : ℕ) → ((strict : Bool) (s : Slot) → fits strict s n ≡ true → (c : Setting) (env : Environment) → AtMost (pace x c env (loop_node f j us)) (pace x c env (loop_node f i ts))) → AsksLess x (Declared k) (Stmt q) n w
  less_loop x k g = record { by = λ strict s o fit c env st sc. inl (subst (λ t. AtMost (pace x c env t) (pace x c env n)) (sym b) (subst (λ t. AtMost (pace x c env (loop_node f j us)) (pace x c env t)) (sym a) (g strict s fit c env))) }

  pub loop_made_less : LessAt (Stmt q) n w
  loop_made_less = record {
    asks = shows_all _ _ _ (λ g c k. by_lists (λ x. Told x → AsksLess x (Declared k) (Stmt q) n w)
        (λ o tells z known. less_loop (asks o) k (λ strict s fit c env. asked Told Kind kinds f i j ts us same head (made strict s fit) c env o tells known))
        (λ m s known. less_loop (early m s) k (λ strict x fit c env. in_order Told Kind kinds f i j ts us same head (made strict x fit) c env m s known)) g c k (kinds.told g c k));
    fewer = λ strict s o fit. record {
      eval = λ e. ap has_eval a ∙ frame_evals f (i ▸ ts) ∙ evals Told Kind kinds f i j ts us same head (made strict s fit) (sym (frame_evals f (j ▸ us)) ∙ sym (ap has_eval b) ∙ e);
      flags = record {
        arguments = λ e. ap names_arguments a ∙ arguments Told Kind kinds f i j ts us same head (made strict s fit) (sym (ap names_arguments b) ∙ e);
        number = λ k e. ap (has_number k) a ∙ numbers Told Kind kinds f i j ts us same head (made strict s fit) k (sym (ap (has_number k) b) ∙ e);
      };
      callee = λ e c. absurd (cc e);
    };
  }

-- a loop of which what holds by parts passes on
pub loop_less : (q : StmtSeat) (n w : Tree) (f : Frame) (i j : Tree) (ts us : Trees) → n ≡ loop_node f i ts → w ≡ loop_node f j us → headed f j ≡ headed f i → HeadStays f i ts j us → ((strict : Bool) (x : Slot) → fits strict x n ≡ true → LoopMadeBy ByParts f i ts j us) → LessAt (Stmt q) n w
loop_less = loop_made_less (λ q. Unit {0}) ByParts plain_properties

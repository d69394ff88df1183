-- A body of a loop asks the same without the jump that ends it.
use Rattle.std.specs.Prelude.{ℕ, suc, ◌≡◌, refl, nat_eq, Bool, true, false, ◌||◌, ◌&&◌, List, [], ◌∷◌, ◌++◌, map}
use Rattle.std.specs.List.{list_any}
use Rattle.std.proofs.Common.{ap, ◌∙◌, sym, true≢false}
use Rattle.mini_model.specs.declared.name.Name.{Name}
use Rattle.mini_model.specs.declared.place.Position.TheVariants.{Stmt}
use Rattle.mini_model.specs.declared.seat.StmtSeat.{StmtSeat}
use Rattle.mini_model.specs.declared.shape.Shape.{Shape}
use Rattle.mini_model.specs.declared.shape.Shape.TheVariants as shape
use Rattle.mini_model.specs.Paths.{append}
use Rattle.mini_model.specs.Tree.{Tree, Trees, node, none, ◌▸◌, listed, absent, shape_of, children}
use Rattle.mini_laws.specs.declared.names.Binding.{Binding}
use Rattle.mini_laws.specs.declared.names.Declared.{Declared}
use Rattle.mini_laws.specs.declared.names.Declared.TheVariants as declared
use Rattle.mini_laws.specs.declared.names.Use.{Use}
use Rattle.mini_laws.specs.DeclaredNames.{names_of, all_names}
use Rattle.mini_laws.specs.Foreign.{is_write, has_number, any_has_number, own_lexical}
use Rattle.mini_laws.specs.Mentions.{own_mentions, is_among, is_elsewhere}
use Rattle.mini_laws.specs.Resolved.{Environment}
use Rattle.mini_laws.specs.ScopeList.{any_has_eval, by_symbol, has_eval, is_eval_call, is_eval_callee, names_in}
use Rattle.mini_laws.specs.Scopes.{opened, scopes_by, lexical_scope, at_or_empty}
use Rattle.mini_laws.specs.Shared.{names_arguments, any_names_arguments, is_of_function, write_at}
use Rattle.mini_shrink.specs.Facts.{Fact, Written, WrittenElsewhere, Given, GivenElsewhere, GivenByPattern, MentionedElsewhere, BoundElsewhere, IsLexical, IsSwitched, InPattern, UnderCatch, ByArguments, ByEval, AmongParameters, ReadEarly, question}
use Rattle.mini_shrink.specs.Pace.{Silent, followed, ends_after, all_followed, Setting, below, pace, paces, reads_if}
use Rattle.mini_shrink.specs.Questions.{seen_from}
use Rattle.mini_rows.specs.Branches.{Surrounding, Consequent, Alternate, WhileBody, DoBody, ForBody, InBody, OfBody, around, is_loop}
use Rattle.mini_rows.specs.Lists.{block}
use Rattle.mini_less.specs.Families.{LessAt}
use Rattle.mini_less.specs.Less.{Frame, AFor, AWhile, ADo, AnIn, AnOf, frame_shape}
use Rattle.mini_less.specs.BodyEnds.{BodyEndsLess}
use Rattle.mini_less.proofs.Calm.{bare_scopes}
use Rattle.mini_less.proofs.DeclaredKeysLess.{each_parts, given_alike}
use Rattle.mini_less.proofs.SameTold.{SameTold, node_says, over_told, same_evals, told_less}
use Rattle.mini_less.proofs.Plainly.{loop_gives, loop_pattern, loop_lexical, loop_switched, loop_pattern_at, loop_caught, loop_arguments, loop_params}

-- `continue;` and `break;`
pub data Jump : Type 0 where
  continues : Jump
  breaks : Jump

abbrev pub jump_shape : Jump → Shape
jump_shape continues = shape.ContinueStatement
jump_shape breaks = shape.BreakStatement

abbrev pub jump : Jump → Tree
jump d = node (jump_shape d) [] 0 (absent ▸ none)

nothing_there : (b : Bool) → (b && false) ≡ false
nothing_there true = refl
nothing_there false = refl

jump_lexical : (b : Bool) (d : Jump) → own_lexical b (jump_shape d) (absent ▸ none) ≡ []
jump_lexical true continues = refl
jump_lexical true breaks = refl
jump_lexical false continues = refl
jump_lexical false breaks = refl

jump_says : (g : Fact) (b s : ℕ) (d : Jump) (c : Setting) (env : Environment) → ends_after ((question g b s).ends c (jump d)) (pace (question g b s) c env (jump d)) ≡ Silent
unfolding pace scopes_by names_of has_eval
jump_says IsLexical b s continues c env = ap (λ xs. ends_after false (followed (reads_if (is_among (by_symbol s) xs)) Silent)) (jump_lexical c.is_body continues)
jump_says IsLexical b s breaks c env = ap (λ xs. ends_after false (followed (reads_if (is_among (by_symbol s) xs)) Silent)) (jump_lexical c.is_body breaks)
jump_says ReadEarly b s continues c env = ap (λ o. ends_after o Silent) (nothing_there c.ordered)
jump_says ReadEarly b s breaks c env = ap (λ o. ends_after o Silent) (nothing_there c.ordered)
jump_says Written b s continues c env = refl
jump_says Written b s breaks c env = refl
jump_says WrittenElsewhere b s continues c env = refl
jump_says WrittenElsewhere b s breaks c env = refl
jump_says Given b s continues c env = refl
jump_says Given b s breaks c env = refl
jump_says GivenElsewhere b s continues c env = refl
jump_says GivenElsewhere b s breaks c env = refl
jump_says GivenByPattern b s continues c env = refl
jump_says GivenByPattern b s breaks c env = refl
jump_says MentionedElsewhere b s continues c env = refl
jump_says MentionedElsewhere b s breaks c env = refl
jump_says BoundElsewhere b s continues c env = refl
jump_says BoundElsewhere b s breaks c env = refl
jump_says IsSwitched b s continues c env = refl
jump_says IsSwitched b s breaks c env = refl
jump_says InPattern b s continues c env = refl
jump_says InPattern b s breaks c env = refl
jump_says UnderCatch b s continues c env = refl
jump_says UnderCatch b s breaks c env = refl
jump_says ByArguments b s continues c env = refl
jump_says ByArguments b s breaks c env = refl
jump_says ByEval b s continues c env = refl
jump_says ByEval b s breaks c env = refl
jump_says AmongParameters b s continues c env = refl
jump_says AmongParameters b s breaks c env = refl

jump_names : (d : Jump) (e : Declared) → names_of e (jump d) ≡ []
unfolding names_of
jump_names continues declared.Bound = refl
jump_names continues declared.Lexical = refl
jump_names continues declared.Hoisted = refl
jump_names breaks declared.Bound = refl
jump_names breaks declared.Lexical = refl
jump_names breaks declared.Hoisted = refl

jump_eval : (d : Jump) → has_eval (jump d) ≡ false
unfolding has_eval
jump_eval continues = refl
jump_eval breaks = refl

jump_arguments : (d : Jump) → names_arguments (jump d) ≡ false
unfolding names_arguments
jump_arguments continues = refl
jump_arguments breaks = refl

-- ---- a list that it ends

module _ (d : Jump) where
  abbrev pub ended : Trees → Trees
  ended ts = append ts (jump d ▸ none)

  all_names_same : (e : Declared) (ts : Trees) → all_names e ts ≡ all_names e (ended ts)
  unfolding names_of
  all_names_same e none = sym (ap (λ xs. xs ++ []) (jump_names d e))
  all_names_same e (t ▸ ts) = ap (λ xs. names_of e t ++ xs) (all_names_same e ts)

  evals_same : (ts : Trees) → any_has_eval ts ≡ any_has_eval (ended ts)
  unfolding has_eval
  evals_same none = sym (ap (λ b. b || false) (jump_eval d))
  evals_same (t ▸ ts) = ap (λ b. has_eval t || b) (evals_same ts)

  arguments_same : (f : ℕ → Bool) (i : ℕ) (ts : Trees) → any_names_arguments f i ts ≡ any_names_arguments f i (ended ts)
  unfolding names_arguments
  arguments_same f i none = sym (ap (λ b. (f i && b) || false) (jump_arguments d) ∙ ap (λ b. b || false) (nothing_there (f i)))
  arguments_same f i (t ▸ ts) = ap (λ b. (f i && names_arguments t) || b) (arguments_same f (suc i) ts)

  or_more : (a b c : Bool) → (b ≡ true → c ≡ true) → (a || b) ≡ true → (a || c) ≡ true
  or_more true b c f e = refl
  or_more false b c f e = f e

  numbers_less : (b : ℕ) (ts : Trees) → any_has_number b ts ≡ true → any_has_number b (ended ts) ≡ true
  unfolding has_number
  numbers_less b none e = absurd (true≢false (sym e))
  numbers_less b (t ▸ ts) e = or_more (has_number b t) (any_has_number b ts) (any_has_number b (ended ts)) (numbers_less b ts) e

  items_say : (g : Fact) (b s : ℕ) (sc : ℕ → List Binding) (cs : ℕ → Setting) (i : ℕ) (env : Environment) (ts : Trees) → all_followed (paces (question g b s) sc cs i env ts) ≡ all_followed (paces (question g b s) sc cs i env (ended ts))
  unfolding pace
  items_say g b s sc cs i env none = sym (ap (λ p. followed p Silent) (jump_says g b s d (cs i) (env ++ sc i)))
  items_say g b s sc cs i env (t ▸ ts) = ap (followed (ends_after ((question g b s).ends (cs i) t) (pace (question g b s) (cs i) (env ++ sc i) t))) (items_say g b s sc cs (suc i) (env ++ sc i) ts)

  list_says : (g : Fact) (b s : ℕ) (c : Setting) (env : Environment) (ts : Trees) → pace (question g b s) c env (listed ts) ≡ pace (question g b s) c env (listed (ended ts))
  unfolding pace
  list_says g b s c env ts =
      let q = question g b s in
      let p = each_parts g b s in
      (λ j. followed (p.before c env shape.Listed refl [] 0 (ended ts) ts (all_names_same declared.Bound ts) j) (all_followed (paces q (λ i. (bare_scopes c.used shape.Listed refl ts i ∙ sym (bare_scopes c.used shape.Listed refl (ended ts) i)) j) (below (p.orders c shape.Listed refl (ended ts) ts j) c shape.Listed 0) 0 env ts)))
      ∙ ap (followed (q.before c env shape.Listed [] 0 (ended ts))) (items_say g b s (opened c.used shape.Listed (ended ts)) (below (q.orders c shape.Listed (ended ts)) c shape.Listed 0) 0 env ts)

  pub list_told : (ts : Trees) → SameTold (listed (ended ts)) (listed ts)
  unfolding has_eval names_arguments has_number
  list_told ts = record {
    said = λ g b s c env. list_says g b s c env ts;
    eval = evals_same ts;
    arguments = arguments_same (is_of_function shape.Listed) 0 ts;
    number = λ b e. or_more (nat_eq 0 b) (any_has_number b ts) (any_has_number b (ended ts)) (numbers_less b ts) e;
  }

  pub list_names : (e : Declared) (ts : Trees) → names_of e (listed ts) ≡ names_of e (listed (ended ts))
  unfolding names_of
  list_names declared.Bound ts = all_names_same declared.Bound ts
  list_names declared.Lexical ts = all_names_same declared.Lexical ts
  list_names declared.Hoisted ts = all_names_same declared.Hoisted ts

-- ---- a block of a list that tells the same

module _ (t u : Tree) (k : SameTold t u) (named : (e : Declared) → names_of e u ≡ names_of e t) where
  seen_child : (x : Name) (sc : ℕ → List Binding) (after : Trees) (i : ℕ) (before : Trees) → seen_from sc i (append before (u ▸ after)) x ≡ seen_from sc i (append before (t ▸ after)) x
  seen_child x sc after i none = ap (λ b. (b && is_among x (names_in (sc i))) || seen_from sc (suc i) after x) (same_evals t u k after none)
  seen_child x sc after i (b ▸ before) = λ j. (same_evals t u k after (b ▸ before) j && is_among x (names_in (sc i))) || seen_child x sc after (suc i) before j

  block_opens : (v : Use) (i : ℕ) → opened v shape.BlockStatement (u ▸ none) i ≡ opened v shape.BlockStatement (t ▸ none) i
  unfolding scopes_by
  block_opens v i = ap (λ xs. at_or_empty (lexical_scope xs ∷ []) i) (named declared.Lexical)

  block_lexical : (b : Bool) (t : Tree) → own_lexical b shape.BlockStatement (t ▸ none) ≡ []
  block_lexical true t = refl
  block_lexical false t = refl

  block_before : (g : Fact) (b s : ℕ) (c : Setting) (env : Environment) → (question g b s).before c env shape.BlockStatement [] 0 (u ▸ none) ≡ (question g b s).before c env shape.BlockStatement [] 0 (t ▸ none)
  block_before ByEval b s c env = ap reads_if ((λ j. seen_from (λ i. block_opens c.used i j) 0 (u ▸ none) (by_symbol s)) ∙ seen_child (by_symbol s) (opened c.used shape.BlockStatement (t ▸ none)) none 0 none)
  block_before IsLexical b s c env = given_alike s _ _ (block_lexical c.is_body t) (block_lexical c.is_body u)
  block_before Written b s c env = refl
  block_before WrittenElsewhere b s c env = refl
  block_before Given b s c env = refl
  block_before GivenElsewhere b s c env = refl
  block_before GivenByPattern b s c env = refl
  block_before MentionedElsewhere b s c env = refl
  block_before BoundElsewhere b s c env = refl
  block_before IsSwitched b s c env = refl
  block_before InPattern b s c env = refl
  block_before UnderCatch b s c env = refl
  block_before ByArguments b s c env = refl
  block_before AmongParameters b s c env = refl
  block_before ReadEarly b s c env = refl

  block_orders : (g : Fact) (b s : ℕ) (c : Setting) → (question g b s).orders c shape.BlockStatement (u ▸ none) ≡ (question g b s).orders c shape.BlockStatement (t ▸ none)
  block_orders ReadEarly b s c = ap (is_among (by_symbol s)) (named declared.Lexical)
  block_orders Written b s c = refl
  block_orders WrittenElsewhere b s c = refl
  block_orders Given b s c = refl
  block_orders GivenElsewhere b s c = refl
  block_orders GivenByPattern b s c = refl
  block_orders MentionedElsewhere b s c = refl
  block_orders BoundElsewhere b s c = refl
  block_orders IsLexical b s c = refl
  block_orders IsSwitched b s c = refl
  block_orders InPattern b s c = refl
  block_orders UnderCatch b s c = refl
  block_orders ByArguments b s c = refl
  block_orders ByEval b s c = refl
  block_orders AmongParameters b s c = refl

  pub block_told : SameTold (node shape.BlockStatement [] 0 (t ▸ none)) (node shape.BlockStatement [] 0 (u ▸ none))
  block_told = over_told t u k none shape.BlockStatement [] 0 none refl (λ g b s c env.
      node_says (question g b s) t u (k.said g b s) (λ c. (each_parts g b s).ends c t u (named declared.Lexical) (named declared.Bound)) none c env shape.BlockStatement [] 0 none (block_before g b s c env) (block_orders g b s c) (block_opens c.used))

  -- ---- a loop over a part that tells the same

  loop_before : (g : Fact) (b s : ℕ) (f : Frame) (before after : Trees) → ((v : Use) (i : ℕ) → opened v (frame_shape f) (append before (u ▸ after)) i ≡ opened v (frame_shape f) (append before (t ▸ after)) i) → (c : Setting) (env : Environment)
      → (question g b s).before c env (frame_shape f) [] 0 (append before (u ▸ after)) ≡ (question g b s).before c env (frame_shape f) [] 0 (append before (t ▸ after))
  loop_before Written b s f before after o c env = refl
  loop_before WrittenElsewhere b s f before after o c env = refl
  loop_before Given b s f before after o c env = ap (λ xs. reads_if (list_any (is_write (by_symbol s)) (own_mentions c.used c.around (frame_shape f) []) || list_any (is_write (by_symbol s)) (map (write_at c.around) xs))) (loop_gives c.used f (append before (u ▸ after)) ∙ sym (loop_gives c.used f (append before (t ▸ after))))
  loop_before GivenElsewhere b s f before after o c env = ap (λ xs. reads_if (list_any (λ m. is_write (by_symbol s) m && is_elsewhere b m.around) (own_mentions c.used c.around (frame_shape f) []) || list_any (λ m. is_write (by_symbol s) m && is_elsewhere b m.around) (map (write_at c.around) xs))) (loop_gives c.used f (append before (u ▸ after)) ∙ sym (loop_gives c.used f (append before (t ▸ after))))
  loop_before GivenByPattern b s f before after o c env = given_alike s _ _ (loop_pattern c.used env f (append before (t ▸ after))) (loop_pattern c.used env f (append before (u ▸ after)))
  loop_before MentionedElsewhere b s f before after o c env = refl
  loop_before BoundElsewhere b s f before after o c env = refl
  loop_before IsLexical b s f before after o c env = given_alike s _ _ (loop_lexical c.is_body f (append before (t ▸ after))) (loop_lexical c.is_body f (append before (u ▸ after)))
  loop_before IsSwitched b s f before after o c env = given_alike s _ _ (loop_switched c f (append before (t ▸ after))) (loop_switched c f (append before (u ▸ after)))
  loop_before InPattern b s f before after o c env = given_alike s _ _ (loop_pattern_at c f (append before (t ▸ after))) (loop_pattern_at c f (append before (u ▸ after)))
  loop_before UnderCatch b s f before after o c env = given_alike s _ _ (loop_caught c f (append before (t ▸ after))) (loop_caught c f (append before (u ▸ after)))
  loop_before ByArguments b s f before after o c env = given_alike s _ _ (loop_arguments c f (append before (t ▸ after))) (loop_arguments c f (append before (u ▸ after)))
  loop_before ByEval b s f before after o c env = ap reads_if ((λ j. seen_from (λ i. o c.used i j) 0 (append before (u ▸ after)) (by_symbol s)) ∙ seen_child (by_symbol s) (opened c.used (frame_shape f) (append before (t ▸ after))) after 0 before)
  loop_before AmongParameters b s f before after o c env = given_alike s _ _ (loop_params b c f (append before (t ▸ after))) (loop_params b c f (append before (u ▸ after)))
  loop_before ReadEarly b s f before after o c env = refl

  loop_calls : (f : Frame) (ts us : Trees) → is_eval_call (frame_shape f) us ≡ is_eval_call (frame_shape f) ts
  loop_calls AFor ts us = refl
  loop_calls AWhile ts us = refl
  loop_calls ADo ts us = refl
  loop_calls AnIn ts us = refl
  loop_calls AnOf ts us = refl

  loop_told : (f : Frame) (before after : Trees) → ((v : Use) (i : ℕ) → opened v (frame_shape f) (append before (u ▸ after)) i ≡ opened v (frame_shape f) (append before (t ▸ after)) i)
      → ((g : Fact) (b s : ℕ) (c : Setting) → (question g b s).orders c (frame_shape f) (append before (u ▸ after)) ≡ (question g b s).orders c (frame_shape f) (append before (t ▸ after))) → SameTold (node (frame_shape f) [] 0 (append before (t ▸ after))) (node (frame_shape f) [] 0 (append before (u ▸ after)))
  loop_told f before after o r = over_told t u k after (frame_shape f) [] 0 before (loop_calls f (append before (t ▸ after)) (append before (u ▸ after))) (λ g b s c env.
      node_says (question g b s) t u (k.said g b s) (λ c. (each_parts g b s).ends c t u (named declared.Lexical) (named declared.Bound)) after c env (frame_shape f) [] 0 before (loop_before g b s f before after o c env) (r g b s c) (o c.used))

  surrounding_orders : (m : Surrounding) → is_loop m ≡ true → (g : Fact) (b s : ℕ) (c : Setting) → (question g b s).orders c (shape_of (around m u)) (children (around m u)) ≡ (question g b s).orders c (shape_of (around m t)) (children (around m t))
  surrounding_orders m e g b s c = by m e g
    where
      by : (m : Surrounding) → is_loop m ≡ true → (g : Fact) → (question g b s).orders c (shape_of (around m u)) (children (around m u)) ≡ (question g b s).orders c (shape_of (around m t)) (children (around m t))
      by (Consequent a v) e g = absurd (cc e)
      by (Alternate a v) e g = absurd (cc e)
      by (WhileBody a) e ReadEarly = refl
      by (DoBody a) e ReadEarly = refl
      by (ForBody i a v) e ReadEarly = refl
      by (InBody a v) e ReadEarly = refl
      by (OfBody a v) e ReadEarly = refl
      by m e Written = refl
      by m e WrittenElsewhere = refl
      by m e Given = refl
      by m e GivenElsewhere = refl
      by m e GivenByPattern = refl
      by m e MentionedElsewhere = refl
      by m e BoundElsewhere = refl
      by m e IsLexical = refl
      by m e IsSwitched = refl
      by m e InPattern = refl
      by m e UnderCatch = refl
      by m e ByArguments = refl
      by m e ByEval = refl
      by m e AmongParameters = refl

  around_told : (m : Surrounding) → is_loop m ≡ true → SameTold (around m t) (around m u)
  unfolding scopes_by
  around_told (Consequent a v) e = absurd (cc e)
  around_told (Alternate a v) e = absurd (cc e)
  around_told (WhileBody a) e = loop_told AWhile (a ▸ none) none (λ v i. refl) (surrounding_orders (WhileBody a) e)
  around_told (DoBody a) e = loop_told ADo none (a ▸ none) (λ v i. refl) (surrounding_orders (DoBody a) e)
  around_told (ForBody i a v) e = loop_told AFor (i ▸ a ▸ v ▸ none) none (λ w j. refl) (surrounding_orders (ForBody i a v) e)
  around_told (InBody a v) e = loop_told AnIn (a ▸ v ▸ none) none (λ w j. refl) (surrounding_orders (InBody a v) e)
  around_told (OfBody a v) e = loop_told AnOf (a ▸ v ▸ none) none (λ w j. refl) (surrounding_orders (OfBody a v) e)

loop_callee : (m : Surrounding) → is_loop m ≡ true → (t : Tree) → is_eval_callee (around m t) ≡ false
loop_callee (Consequent a v) e t = refl
loop_callee (Alternate a v) e t = refl
loop_callee (WhileBody a) e t = refl
loop_callee (DoBody a) e t = refl
loop_callee (ForBody i a v) e t = refl
loop_callee (InBody a v) e t = refl
loop_callee (OfBody a v) e t = refl

block_names : (e : Declared) (t u : Tree) → names_of e u ≡ names_of e t → names_of e (node shape.BlockStatement [] 0 (u ▸ none)) ≡ names_of e (node shape.BlockStatement [] 0 (t ▸ none))
unfolding names_of
block_names declared.Bound t u e = refl
block_names declared.Lexical t u e = refl
block_names declared.Hoisted t u e = ap (λ xs. xs ++ []) e

ended_less : (d : Jump) (q : StmtSeat) (n w : Tree) (m : Surrounding) → is_loop m ≡ true → (ts : Trees) → n ≡ around m (block (append ts (jump d ▸ none))) → w ≡ around m (block ts) → LessAt (Stmt q) n w
ended_less d q n w m e ts a b =
    let old = listed (append ts (jump d ▸ none)) in
    let new = listed ts in
    let k = block_told old new (list_told d ts) (λ i. list_names d i ts) in
    told_less (Stmt q) n w (around m (block (append ts (jump d ▸ none)))) (around m (block ts)) a b (around_told (block (append ts (jump d ▸ none))) (block ts) k (λ i. block_names i old new (list_names d i ts)) m e) (loop_callee m e (block ts))

pub body_ends_less : BodyEndsLess
body_ends_less = record {
  row_78_block = λ q n w r. ended_less continues q n w r.place r.loop r.before r.shape r.written;
  row_78_once = λ q n w r. ended_less breaks q n w (DoBody r.test) refl r.before r.shape r.written;
}

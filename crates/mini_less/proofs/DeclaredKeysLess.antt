-- A pattern that is declared asks the same where one of its keys loses its brackets, however deep
-- it has that key; so does what declares it.
use Rattle.std.specs.Prelude.{ℕ, zero, suc, ◌≡◌, refl, Bool, true, false, ◌||◌, ◌&&◌, List, [], ◌∷◌, map, if◌then◌else◌}
use Rattle.std.specs.List.{list_any}
use Rattle.std.proofs.Common.{ap, ◌∙◌, inl, inr, sym}
use Rattle.mini_model.specs.declared.name.Name.{Name}
use Rattle.mini_model.specs.declared.place.Position.{Position}
use Rattle.mini_model.specs.declared.place.Position.TheVariants.{Elsewhere}
use Rattle.mini_model.specs.declared.shape.Shape.{Shape}
use Rattle.mini_model.specs.declared.shape.Shape.TheVariants as shape
use Rattle.mini_model.specs.Paths.{append}
use Rattle.mini_model.specs.Tree.{Tree, Trees, node, none, ◌▸◌, shape_of, is_absent}
use Rattle.mini_laws.specs.declared.names.Declared.TheVariants as declared
use Rattle.mini_laws.specs.declared.names.Use.{Use}
use Rattle.mini_laws.specs.declared.names.Use.TheVariants.{Read}
use Rattle.mini_laws.specs.DeclaredNames.{names_of, all_names}
use Rattle.mini_laws.specs.Foreign.{is_write, own_lexical, own_pattern_names}
use Rattle.mini_laws.specs.Mentions.{own_mentions, is_among, is_elsewhere}
use Rattle.mini_laws.specs.Resolved.{Environment, with_symbol}
use Rattle.mini_laws.specs.ScopeList.{by_symbol, is_eval_call, is_eval_callee, names_in}
use Rattle.mini_laws.specs.Scopes.{opened, scopes_by, lexical_scope, at_or_empty}
use Rattle.mini_laws.specs.Shared.{given_values, is_pattern, own_caught, own_pattern_writes, spelled_among, write_at}
use Rattle.mini_laws.specs.Resolved.{gives_value}
use Rattle.mini_laws.specs.Strict.{is_strict_in}
use Rattle.mini_shrink.specs.Facts.{Fact, Written, WrittenElsewhere, Given, GivenElsewhere, GivenByPattern, MentionedElsewhere, BoundElsewhere, IsLexical, IsSwitched, InPattern, UnderCatch, ByArguments, ByEval, AmongParameters, ReadEarly, question}
use Rattle.mini_shrink.specs.Pace.{Setting, Question, reads_if}
use Rattle.mini_shrink.specs.Questions.{hands_on, listed_names, seen_from}
use Rattle.mini_rows.specs.KeyHolders.{plain_key, is_pattern_part, Bares, bares_key, bares_within, declaring_shape, Row52Declared, HeldKeyRow, HeldKeyContracts}
use Rattle.mini_rows.proofs.DeclaredKeyLawful.{bared_alike}
use Rattle.mini_rows.proofs.DeclaredKeyParts.{Alike}
use Rattle.mini_less.specs.Families.{LessAt}
use Rattle.mini_less.specs.HeldKeys.{HeldKeysReadLess}
use Rattle.mini_less.proofs.Calm.{part_bare, bare_gives, bare_writes, bare_lexical, bare_switched, bare_caught, bare_arguments, bare_params, bare_scopes, part_listed, unseen, each_quiets}
use Rattle.mini_less.proofs.HeldKeysLess.{Holds, plain_quiet, inner_quiet, inner_number, same_said, same_eval, same_arguments, fewer_numbers, held_less, bare_less, short_less}
use Rattle.mini_less.proofs.LessRows.{reads_less_by}
use Rattle.mini_less.proofs.SameTold.{SameTold, node_says, over_told, same_evals, same_bound, told_less}

-- ---- a part of a pattern

pattern_names_alike : (h : Shape) (n : ℕ) (ts us : Trees) → all_names declared.Bound us ≡ all_names declared.Bound ts → own_pattern_names h n us ≡ own_pattern_names h n ts
pattern_names_alike shape.ObjectPattern n ts us e = e
pattern_names_alike shape.ArrayPattern n ts us e = e
pattern_names_alike shape.AssignmentPattern zero ts us e = refl
pattern_names_alike shape.AssignmentPattern (suc n) ts us e = e
pattern_names_alike h n ts us e = refl

pub record PartsAlike (q : Question) : Type 0 where
  pub before : (c : Setting) (env : Environment) (h : Shape) → is_pattern_part h ≡ true → (xs : List Name) (n : ℕ) (ts us : Trees) → all_names declared.Bound us ≡ all_names declared.Bound ts → q.before c env h xs n us ≡ q.before c env h xs n ts
  pub orders : (c : Setting) (h : Shape) → is_pattern_part h ≡ true → (ts us : Trees) → q.orders c h us ≡ q.orders c h ts
  pub ends : (c : Setting) (t u : Tree) → names_of declared.Lexical u ≡ names_of declared.Lexical t → names_of declared.Bound u ≡ names_of declared.Bound t → q.ends c u ≡ q.ends c t

pub given_alike : (s : ℕ) (xs ys : List Name) → xs ≡ [] → ys ≡ [] → reads_if (is_among (by_symbol s) ys) ≡ reads_if (is_among (by_symbol s) xs)
given_alike s xs ys e f = ap (λ zs. reads_if (is_among (by_symbol s) zs)) (f ∙ sym e)

pub each_parts : (g : Fact) (b s : ℕ) → PartsAlike (question g b s)
each_parts Written b s = record { before = λ c env h e xs n ts us x. refl; orders = λ c h e ts us. refl; ends = λ c t u x y. refl }
each_parts WrittenElsewhere b s = record { before = λ c env h e xs n ts us x. refl; orders = λ c h e ts us. refl; ends = λ c t u x y. refl }
each_parts Given b s = record { before = λ c env h e xs n ts us x. ap (λ ys. reads_if (list_any (is_write (by_symbol s)) (own_mentions c.used c.around h xs) || list_any (is_write (by_symbol s)) (map (write_at c.around) ys))) (bare_gives c.used h (part_bare h e) xs us ∙ sym (bare_gives c.used h (part_bare h e) xs ts)); orders = λ c h e ts us. refl; ends = λ c t u x y. refl }
each_parts GivenElsewhere b s = record { before = λ c env h e xs n ts us x. ap (λ ys. reads_if (list_any (λ m. is_write (by_symbol s) m && is_elsewhere b m.around) (own_mentions c.used c.around h xs) || list_any (λ m. is_write (by_symbol s) m && is_elsewhere b m.around) (map (write_at c.around) ys))) (bare_gives c.used h (part_bare h e) xs us ∙ sym (bare_gives c.used h (part_bare h e) xs ts)); orders = λ c h e ts us. refl; ends = λ c t u x y. refl }
each_parts GivenByPattern b s = record { before = λ c env h e xs n ts us x. given_alike s _ _ (bare_writes c.used env h (part_bare h e) ts) (bare_writes c.used env h (part_bare h e) us); orders = λ c h e ts us. refl; ends = λ c t u x y. refl }
each_parts MentionedElsewhere b s = record { before = λ c env h e xs n ts us x. refl; orders = λ c h e ts us. refl; ends = λ c t u x y. refl }
each_parts BoundElsewhere b s = record { before = λ c env h e xs n ts us x. refl; orders = λ c h e ts us. refl; ends = λ c t u x y. refl }
each_parts IsLexical b s = record { before = λ c env h e xs n ts us x. given_alike s _ _ (bare_lexical c.is_body h (part_bare h e) ts) (bare_lexical c.is_body h (part_bare h e) us); orders = λ c h e ts us. refl; ends = λ c t u x y. refl }
each_parts IsSwitched b s = record { before = λ c env h e xs n ts us x. given_alike s _ _ (bare_switched h (part_bare h e) ts) (bare_switched h (part_bare h e) us); orders = λ c h e ts us. refl; ends = λ c t u x y. refl }
each_parts InPattern b s = record { before = λ c env h e xs n ts us x. ap (λ ys. reads_if (is_among (by_symbol s) ys)) (pattern_names_alike h n ts us x); orders = λ c h e ts us. refl; ends = λ c t u x y. refl }
each_parts UnderCatch b s = record { before = λ c env h e xs n ts us x. given_alike s _ _ (bare_caught h (part_bare h e) ts) (bare_caught h (part_bare h e) us); orders = λ c h e ts us. refl; ends = λ c t u x y. refl }
each_parts ByArguments b s = record { before = λ c env h e xs n ts us x. given_alike s _ _ (bare_arguments (is_strict_in c.strict h) h (part_bare h e) ts) (bare_arguments (is_strict_in c.strict h) h (part_bare h e) us); orders = λ c h e ts us. refl; ends = λ c t u x y. refl }
each_parts ByEval b s = record { before = λ c env h e xs n ts us x. ap reads_if (unseen (by_symbol s) (opened c.used h us) (bare_scopes c.used h (part_bare h e) us) 0 us ∙ sym (unseen (by_symbol s) (opened c.used h ts) (bare_scopes c.used h (part_bare h e) ts) 0 ts)); orders = λ c h e ts us. refl; ends = λ c t u x y. refl }
each_parts AmongParameters b s = record { before = λ c env h e xs n ts us x. given_alike s _ _ (bare_params b h (part_bare h e) ts) (bare_params b h (part_bare h e) us); orders = λ c h e ts us. refl; ends = λ c t u x y. refl }
each_parts ReadEarly b s = record {
  before = λ c env h e xs n ts us x. refl;
  orders = λ c h e ts us. ap (λ ys. (hands_on h && c.ordered) || is_among (by_symbol s) ys) (part_listed c.used h e us ∙ sym (part_listed c.used h e ts));
  ends = λ c t u x y. λ j. c.ordered && (is_among (by_symbol s) (x j) || is_among (by_symbol s) (y j));
}

part_calls : (h : Shape) → is_pattern_part h ≡ true → (ts us : Trees) → is_eval_call h us ≡ is_eval_call h ts
part_calls (shape.CallExpression false) e ts us = absurd (cc e)
part_calls h e ts us = refl

bared_holds : Holds (shape.BindingProperty false true) (shape.BindingProperty false false)
bared_holds = record { read = refl; written = refl; value = λ c. refl; inside = refl }

bared_told : {t u : Tree} → Bares t u → SameTold t u
bared_told (bares_key n k v i) =
    let key = node shape.InnerExpression [] (suc n) (plain_key k ▸ none) in
    let y = inner_quiet (suc n) (plain_key k) (plain_quiet k) in
    let x = plain_quiet k in
    record {
      said = λ g b s c env. same_said (shape.BindingProperty false true) (shape.BindingProperty false false) bared_holds key (plain_key k) v y x (question g b s) (each_quiets g b s) c env;
      eval = same_eval (shape.BindingProperty false true) (shape.BindingProperty false false) bared_holds key (plain_key k) v y x;
      arguments = same_arguments (shape.BindingProperty false true) (shape.BindingProperty false false) bared_holds key (plain_key k) v y x;
      number = fewer_numbers (shape.BindingProperty false true) (shape.BindingProperty false false) bared_holds key (plain_key k) v y x (inner_number (suc n) (plain_key k));
    }
bared_told (bares_within h xs n before after t u e z) =
    let k = bared_told z in
    let a = bared_alike z in
    let ts = append before (t ▸ after) in
    let us = append before (u ▸ after) in
    over_told t u k after h xs n before (part_calls h e ts us) (λ g b s c env.
    let p = each_parts g b s in
    node_says (question g b s) t u (k.said g b s) (λ d. p.ends d t u (a.names declared.Lexical) (a.names declared.Bound)) after c env h xs n before
    (p.before c env h e xs n ts us (same_bound t u k after (a.names declared.Bound) before)) (p.orders c h e ts us) (λ i. bare_scopes c.used h (part_bare h e) us i ∙ sym (bare_scopes c.used h (part_bare h e) ts i)))

bared_pattern : {t u : Tree} → Bares t u → is_pattern (shape_of u) ≡ is_pattern (shape_of t)
bared_pattern (bares_key n k v i) = refl
bared_pattern (bares_within h xs n before after t u e z) = refl

-- ---- what declares it

module _ (t u rest : Tree) (a : Alike t u) (k : SameTold t u) (pattern : is_pattern (shape_of u) ≡ is_pattern (shape_of t)) where
  abbrev old : Trees
  old = t ▸ rest ▸ none

  abbrev new : Trees
  new = u ▸ rest ▸ none

  bound : names_of declared.Bound u ≡ names_of declared.Bound t
  bound = a.names declared.Bound

  declaring_opens : (c : Bool) (v : Use) (i : ℕ) → opened v (declaring_shape c) new i ≡ opened v (declaring_shape c) old i
  unfolding scopes_by
  declaring_opens true v i = ap (λ r. at_or_empty (lexical_scope r ∷ []) i) bound
  declaring_opens false v i = refl

  declaring_gives : (c : Bool) (v : Use) → given_values v (declaring_shape c) [] new ≡ given_values v (declaring_shape c) [] old
  declaring_gives true v = refl
  declaring_gives false v = ap (λ r. if gives_value v (is_absent rest) then r else []) bound

  declaring_writes : (c : Bool) (v : Use) (env : Environment) → own_pattern_writes v env (declaring_shape c) new ≡ own_pattern_writes v env (declaring_shape c) old
  declaring_writes true v env = refl
  declaring_writes false v env = λ j. if gives_value v (is_absent rest) then map (with_symbol Read env) (if pattern j then bound j else []) else []

  declaring_lexical : (c b : Bool) → own_lexical b (declaring_shape c) new ≡ own_lexical b (declaring_shape c) old
  unfolding names_of
  declaring_lexical true true = bound
  declaring_lexical true false = bound
  declaring_lexical false true = refl
  declaring_lexical false false = refl

  declaring_caught : (c : Bool) → own_caught (declaring_shape c) new ≡ own_caught (declaring_shape c) old
  declaring_caught true = ap (λ r. spelled_among r (all_names declared.Hoisted (rest ▸ none))) bound
  declaring_caught false = refl

  declaring_listed : (v : Use) (c : Bool) → listed_names v (declaring_shape c) new ≡ listed_names v (declaring_shape c) old
  declaring_listed v true = bound
  declaring_listed v false = refl

  declaring_seen : (c : Bool) (v : Use) (s : ℕ) → seen_from (opened v (declaring_shape c) new) 0 new (by_symbol s) ≡ seen_from (opened v (declaring_shape c) old) 0 old (by_symbol s)
  declaring_seen c v s = λ j. (same_evals t u k (rest ▸ none) none j && is_among (by_symbol s) (names_in (declaring_opens c v 0 j))) || seen_from (λ i. declaring_opens c v i j) 1 (rest ▸ none) (by_symbol s)

  abbrev Before : Fact → ℕ → ℕ → Bool → Type 0
  Before g b s c = (d : Setting) (env : Environment) → (question g b s).before d env (declaring_shape c) [] 0 new ≡ (question g b s).before d env (declaring_shape c) [] 0 old

  declaring_before : (g : Fact) (b s : ℕ) (c : Bool) → Before g b s c
  declaring_before Written b s c d env = refl
  declaring_before WrittenElsewhere b s c d env = refl
  declaring_before Given b s c d env = ap (λ xs. reads_if (list_any (is_write (by_symbol s)) (own_mentions d.used d.around (declaring_shape c) []) || list_any (is_write (by_symbol s)) (map (write_at d.around) xs))) (declaring_gives c d.used)
  declaring_before GivenElsewhere b s c d env = ap (λ xs. reads_if (list_any (λ m. is_write (by_symbol s) m && is_elsewhere b m.around) (own_mentions d.used d.around (declaring_shape c) []) || list_any (λ m. is_write (by_symbol s) m && is_elsewhere b m.around) (map (write_at d.around) xs))) (declaring_gives c d.used)
  declaring_before GivenByPattern b s c d env = ap (λ xs. reads_if (is_among (by_symbol s) xs)) (declaring_writes c d.used env)
  declaring_before MentionedElsewhere b s c d env = refl
  declaring_before BoundElsewhere b s c d env = refl
  declaring_before IsLexical b s c d env = ap (λ xs. reads_if (is_among (by_symbol s) xs)) (declaring_lexical c d.is_body)
  declaring_before IsSwitched b s true d env = refl
  declaring_before IsSwitched b s false d env = refl
  declaring_before InPattern b s true d env = refl
  declaring_before InPattern b s false d env = refl
  declaring_before UnderCatch b s c d env = ap (λ xs. reads_if (is_among (by_symbol s) xs)) (declaring_caught c)
  declaring_before ByArguments b s true d env = refl
  declaring_before ByArguments b s false d env = refl
  declaring_before ByEval b s c d env = ap reads_if (declaring_seen c d.used s)
  declaring_before AmongParameters b s true d env = refl
  declaring_before AmongParameters b s false d env = refl
  declaring_before ReadEarly b s c d env = refl

  declaring_orders : (g : Fact) (b s : ℕ) (c : Bool) (d : Setting) → (question g b s).orders d (declaring_shape c) new ≡ (question g b s).orders d (declaring_shape c) old
  declaring_orders ReadEarly b s c d = ap (λ xs. (hands_on (declaring_shape c) && d.ordered) || is_among (by_symbol s) xs) (declaring_listed d.used c)
  declaring_orders Written b s c d = refl
  declaring_orders WrittenElsewhere b s c d = refl
  declaring_orders Given b s c d = refl
  declaring_orders GivenElsewhere b s c d = refl
  declaring_orders GivenByPattern b s c d = refl
  declaring_orders MentionedElsewhere b s c d = refl
  declaring_orders BoundElsewhere b s c d = refl
  declaring_orders IsLexical b s c d = refl
  declaring_orders IsSwitched b s c d = refl
  declaring_orders InPattern b s c d = refl
  declaring_orders UnderCatch b s c d = refl
  declaring_orders ByArguments b s c d = refl
  declaring_orders ByEval b s c d = refl
  declaring_orders AmongParameters b s c d = refl

  declaring_calls : (c : Bool) → is_eval_call (declaring_shape c) new ≡ is_eval_call (declaring_shape c) old
  declaring_calls true = refl
  declaring_calls false = refl

  declaring_told : (c : Bool) → SameTold (node (declaring_shape c) [] 0 old) (node (declaring_shape c) [] 0 new)
  declaring_told c = over_told t u k (rest ▸ none) (declaring_shape c) [] 0 none (declaring_calls c) (λ g b s d env.
      node_says (question g b s) t u (k.said g b s) (λ d. (each_parts g b s).ends d t u (a.names declared.Lexical) bound) (rest ▸ none) d env (declaring_shape c) [] 0 none (declaring_before g b s c d env) (declaring_orders g b s c d) (declaring_opens c d.used))

  declaring_callee : (c : Bool) → is_eval_callee (node (declaring_shape c) [] 0 new) ≡ false
  declaring_callee true = refl
  declaring_callee false = refl

declared_less : (p : Position) (n w : Tree) → Row52Declared n w → LessAt p n w
declared_less p n w r =
    told_less p n w (node (declaring_shape r.is_catch) [] 0 (r.pattern ▸ r.rest ▸ none)) (node (declaring_shape r.is_catch) [] 0 (r.bared ▸ r.rest ▸ none)) r.shape r.written
    (declaring_told r.pattern r.bared r.rest (bared_alike r.bares) (bared_told r.bares) (bared_pattern r.bares) r.is_catch) (declaring_callee r.pattern r.bared r.rest (bared_alike r.bares) (bared_told r.bares) (bared_pattern r.bares) r.is_catch)

row_less : (p : Position) (n w : Tree) → HeldKeyRow p n w → LessAt p n w
row_less Elsewhere n w (inl r) = held_less Elsewhere n w r
row_less Elsewhere n w (inr (inl r)) = bare_less Elsewhere n w r
row_less Elsewhere n w (inr (inr (inl r))) = declared_less Elsewhere n w r
row_less Elsewhere n w (inr (inr (inr r))) = short_less Elsewhere n w r
row_less p n w r = absurd r

pub held_keys_read_less : HeldKeysReadLess
held_keys_read_less = reads_less_by HeldKeyContracts (λ p n w c. row_less p n w c.row)

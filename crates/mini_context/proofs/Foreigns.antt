-- What is foreign to a body, and what is told of it.
use Rattle.std.specs.Prelude.{ℕ, suc, ◌≡◌, ◌<◌, refl, ◌&&◌, ◌||◌, not, Bool, true, false, cond, List, [], ◌∷◌, map}
use Rattle.std.specs.List.{filter, list_any}
use Rattle.std.proofs.Common.{ap, ◌∙◌, sym}
use Rattle.std.proofs.lemmas.List.Folds.{list_any-append}
use Rattle.mini_model.specs.declared.name.Name.{Name}
use Rattle.mini_model.specs.Tree.{Tree, Trees, node, none, ◌▸◌}
use Rattle.mini_laws.specs.declared.names.Use.{Use}
use Rattle.mini_laws.specs.declared.names.Use.TheVariants.{Read}
use Rattle.mini_laws.specs.declared.names.Around.{Around}
use Rattle.mini_laws.specs.References.{writes}
use Rattle.mini_laws.specs.Scopes.{use_of}
use Rattle.mini_laws.specs.Mentions.{Mention, around_child, same_variable, is_among, is_elsewhere, outermost, program_mentions}
use Rattle.mini_laws.specs.ScopeList.{seen_by_eval}
use Rattle.mini_laws.specs.Shared.{given_values, is_shared, program_var_writes, reached_by_arguments, script_tops, var_writes, var_writes_from, write_at}
use Rattle.mini_laws.specs.Foreign.{all_writes, imported_names, is_declared_in, is_foreign, is_foreign_always, is_read_early, is_write, lexical_variables, may_be_uninitialised, moments, pattern_names, switched as switched_names}
use Rattle.mini_context.specs.Enclosing.{is_around}
use Rattle.mini_context.specs.Facts.{Facts, Looked, Told, foreign, foreign_always, is_assigned, is_changed, is_changed_outside, may_be_unset, shares}
use Rattle.mini_context.specs.Lists.{holds}
use Rattle.mini_context.specs.Mentioned.{is_outside, mentioned_at}
use Rattle.mini_context.specs.Steady.{is_steady, TellsBodies}
use Rattle.mini_context.specs.Tables.{mark_at, named}
use Rattle.mini_context.specs.Visits.{is_writing}
use Rattle.mini_context.proofs.Shares.{somewhere_told, tables_share}

-- ---- what a `var` writes is a write

and_true : (v : Bool) → (v && true) ≡ v
and_true true = refl
and_true false = refl

and_false : (v : Bool) → (v && false) ≡ false
and_false true = refl
and_false false = refl

map_any : (p q : Mention → Bool) (a : Around) → ((y : Name) → p (write_at a y) ≡ q (write_at a y)) → (xs : List Name) → list_any p (map (write_at a) xs) ≡ list_any q (map (write_at a) xs)
map_any p q a e [] = refl
map_any p q a e (x ∷ xs) = ap (λ v. v || list_any p (map (write_at a) xs)) (e x) ∙ ap (λ v. q (write_at a x) || v) (map_any p q a e xs)

mutual
  unfolding var_writes

  given_any : (p q : Mention → Bool) → ((a : Around) (y : Name) → p (write_at a y) ≡ q (write_at a y)) → (u : Use) (a : Around) (t : Tree) → list_any p (var_writes u a t) ≡ list_any q (var_writes u a t)
  given_any p q e u a (node h xs n ts) =
      let own = map (write_at a) (given_values u h xs ts) in
      let rest = var_writes_from (use_of h u) (around_child h a n) 0 ts in
      list_any-append p own rest ∙ ap (λ v. v || list_any p rest) (map_any p q a (e a) (given_values u h xs ts))
      ∙ ap (λ v. list_any q own || v) (all_given_any p q e (use_of h u) (around_child h a n) 0 ts) ∙ sym (list_any-append q own rest)

  all_given_any : (p q : Mention → Bool) → ((a : Around) (y : Name) → p (write_at a y) ≡ q (write_at a y)) → (uses : ℕ → Use) (arounds : ℕ → Around) (i : ℕ) (ts : Trees) → list_any p (var_writes_from uses arounds i ts) ≡ list_any q (var_writes_from uses arounds i ts)
  all_given_any p q e uses arounds i none = refl
  all_given_any p q e uses arounds i (t ▸ ts) =
      let one = var_writes (uses i) (arounds i) t in
      let rest = var_writes_from uses arounds (suc i) ts in
      list_any-append p one rest ∙ ap (λ v. v || list_any p rest) (given_any p q e (uses i) (arounds i) t)
      ∙ ap (λ v. list_any q one || v) (all_given_any p q e uses arounds (suc i) ts) ∙ sym (list_any-append q one rest)

-- ---- of the other mentions those that write

three : (a b c : Bool) → ((a && b) && c) ≡ (a && (b && c))
three true b c = refl
three false b c = refl

choice : (v : Bool) (p : Mention → Bool) (m : Mention) (ms : List Mention) → list_any p (cond v (m ∷ ms) ms) ≡ ((p m && v) || list_any p ms)
choice true p m ms = ap (λ w. w || list_any p ms) (sym (and_true (p m)))
choice false p m ms = ap (λ w. w || list_any p ms) (sym (and_false (p m)))

writing : (s : ℕ) (ms : List Mention) → list_any (λ m. same_variable (named s) m.name) (filter is_writing ms) ≡ list_any (is_write (named s)) ms
writing s [] = refl
writing s (m ∷ ms) =
    choice (is_writing m) (λ r. same_variable (named s) r.name) m (filter is_writing ms)
    ∙ ap (λ v. (same_variable (named s) m.name && is_writing m) || v) (writing s ms)
    ∙ ap (λ v. v || list_any (is_write (named s)) ms) (sym (three (same_variable (named s) m.name) (not m.binds) (writes m.used)))

swapped : (a e w : Bool) → ((a && e) && w) ≡ ((a && w) && e)
swapped true true w = sym (and_true w)
swapped true false w = sym (and_false w)
swapped false e w = refl

writing_outside : (s b : ℕ) (ms : List Mention) → list_any (λ m. same_variable (named s) m.name && is_elsewhere b m.around) (filter is_writing ms) ≡ list_any (λ m. is_write (named s) m && is_elsewhere b m.around) ms
writing_outside s b [] = refl
writing_outside s b (m ∷ ms) =
    choice (is_writing m) (λ r. same_variable (named s) r.name && is_elsewhere b r.around) m (filter is_writing ms)
    ∙ ap (λ v. ((same_variable (named s) m.name && is_elsewhere b m.around) && is_writing m) || v) (writing_outside s b ms)
    ∙ ap (λ v. v || list_any (λ r. is_write (named s) r && is_elsewhere b r.around) ms) (swapped (same_variable (named s) m.name) (is_elsewhere b m.around) (is_writing m) ∙ ap (λ v. v && is_elsewhere b m.around) (sym (three (same_variable (named s) m.name) (not m.binds) (writes m.used))))

-- ---- what the tables tell

value_writes : (s : ℕ) (a : Around) (y : Name) → same_variable (named s) y ≡ is_write (named s) (write_at a y)
value_writes s a y = sym (and_true (same_variable (named s) y && true) ∙ and_true (same_variable (named s) y))

pub assigned_told : (f : Facts) (n : ℕ) (t : Tree) → Looked f n t → (s : ℕ) → s < n → is_assigned f s ≡ list_any (is_write (named s)) (program_mentions t)
assigned_told f n t w s h = somewhere_told (λ m. same_variable (named s) m.name) (mentioned_at f.written s) (filter is_writing (program_mentions t)) (λ b. w.written_told s h b) ∙ writing s (program_mentions t)

pub changed_told : (f : Facts) (n : ℕ) (t : Tree) → Looked f n t → (s : ℕ) → s < n → is_changed f s ≡ list_any (is_write (named s)) (all_writes t)
changed_told f n t w s h =
    let p : Mention → Bool = λ m. same_variable (named s) m.name in
    ap (λ v. v || is_assigned f s) (somewhere_told p (mentioned_at f.given s) (program_var_writes t) (λ b. w.given_told s h b) ∙ given_any p (is_write (named s)) (value_writes s) Read outermost t)
    ∙ ap (λ v. list_any (is_write (named s)) (program_var_writes t) || v) (assigned_told f n t w s h)
    ∙ sym (list_any-append (is_write (named s)) (program_var_writes t) (program_mentions t))

pub changed_outside_told : (f : Facts) (n : ℕ) (t : Tree) → Looked f n t → (s b : ℕ) → s < n → is_changed_outside f s b ≡ list_any (λ m. is_write (named s) m && is_elsewhere b m.around) (all_writes t)
changed_outside_told f n t w s b h =
    let p : Mention → Bool = λ m. same_variable (named s) m.name && is_elsewhere b m.around in
    let q : Mention → Bool = λ m. is_write (named s) m && is_elsewhere b m.around in
    ap (λ v. v || is_outside (mentioned_at f.written s) b) (w.given_told s h b ∙ given_any p q (λ a y. ap (λ v. v && is_elsewhere b a) (value_writes s a y)) Read outermost t)
    ∙ ap (λ v. list_any q (program_var_writes t) || v) (w.written_told s h b ∙ writing_outside s b (program_mentions t))
    ∙ sym (list_any-append q (program_var_writes t) (program_mentions t))

pub unset_told : (f : Facts) (n : ℕ) (t : Tree) → Looked f n t → (s b : ℕ) → s < n → may_be_unset f s b ≡ may_be_uninitialised t b (named s)
unset_told f n t w s b h =
    ap (λ v. (v && (not (holds f.homes s b) || mark_at f.switched s || holds f.early s b)) || is_around f.functions f.enclosed s b) (w.lexical_told s h)
    ∙ ap (λ v. (is_among (named s) (lexical_variables false t) && (not v || mark_at f.switched s || holds f.early s b)) || is_around f.functions f.enclosed s b) (w.homes_told s h b)
    ∙ ap (λ v. (is_among (named s) (lexical_variables false t) && (not (is_declared_in t b (named s)) || v || holds f.early s b)) || is_around f.functions f.enclosed s b) (w.switched_told s h)
    ∙ ap (λ v. (is_among (named s) (lexical_variables false t) && (not (is_declared_in t b (named s)) || is_among (named s) (switched_names t) || v)) || is_around f.functions f.enclosed s b) (w.early_told s h b)
    ∙ ap (λ v. (is_among (named s) (lexical_variables false t) && (not (is_declared_in t b (named s)) || is_among (named s) (switched_names t) || is_read_early b (named s) (moments Read outermost t))) || v) (w.enclosed_told s h b)

pub always_told : (f : Facts) (n : ℕ) (t : Tree) → Looked f n t → (s : ℕ) → s < n → foreign_always f s ≡ is_foreign_always t (named s)
always_told f n t w s h =
    ap (λ v. v || mark_at f.now_top s || mark_at f.seen s || mark_at f.reached s || mark_at f.patterns s || mark_at f.pattern_writes s) (w.imported_told s h)
    ∙ ap (λ v. is_among (named s) (imported_names t) || v || mark_at f.seen s || mark_at f.reached s || mark_at f.patterns s || mark_at f.pattern_writes s) (w.tops_told s h)
    ∙ ap (λ v. is_among (named s) (imported_names t) || is_among (named s) (script_tops t) || v || mark_at f.reached s || mark_at f.patterns s || mark_at f.pattern_writes s) (w.seen_told s h)
    ∙ ap (λ v. is_among (named s) (imported_names t) || is_among (named s) (script_tops t) || is_among (named s) (seen_by_eval t) || v || mark_at f.patterns s || mark_at f.pattern_writes s) (w.reached_told s h)
    ∙ ap (λ v. is_among (named s) (imported_names t) || is_among (named s) (script_tops t) || is_among (named s) (seen_by_eval t) || is_among (named s) (reached_by_arguments false t) || v || mark_at f.pattern_writes s) (w.patterns_told s h)
    ∙ ap (λ v. is_among (named s) (imported_names t) || is_among (named s) (script_tops t) || is_among (named s) (seen_by_eval t) || is_among (named s) (reached_by_arguments false t) || is_among (named s) (pattern_names t) || v) (w.pattern_writes_told s h)

pub tables_foreign : (f : Facts) (n : ℕ) (t : Tree) → Looked f n t → (s b : ℕ) → s < n → foreign f s b ≡ is_foreign t b (named s)
tables_foreign f n t w s b h =
    ap (λ v. v || (shares f s b && is_changed_outside f s b) || (not (holds f.homes s b) && is_changed f s) || may_be_unset f s b) (always_told f n t w s h)
    ∙ ap (λ v. is_foreign_always t (named s) || (v && is_changed_outside f s b) || (not (holds f.homes s b) && is_changed f s) || may_be_unset f s b) (tables_share f n t w s b h)
    ∙ ap (λ v. is_foreign_always t (named s) || (is_shared t b (named s) && v) || (not (holds f.homes s b) && is_changed f s) || may_be_unset f s b) (changed_outside_told f n t w s b h)
    ∙ ap (λ v. is_foreign_always t (named s) || (is_shared t b (named s) && list_any (λ m. is_write (named s) m && is_elsewhere b m.around) (all_writes t)) || (not v && is_changed f s) || may_be_unset f s b) (w.homes_told s h b)
    ∙ ap (λ v. is_foreign_always t (named s) || (is_shared t b (named s) && list_any (λ m. is_write (named s) m && is_elsewhere b m.around) (all_writes t)) || (not (is_declared_in t b (named s)) && v) || may_be_unset f s b) (changed_told f n t w s h)
    ∙ ap (λ v. is_foreign_always t (named s) || (is_shared t b (named s) && list_any (λ m. is_write (named s) m && is_elsewhere b m.around) (all_writes t)) || (not (is_declared_in t b (named s)) && list_any (is_write (named s)) (all_writes t)) || v) (unset_told f n t w s b h)

-- ---- what they tell of bodies

pub steady_told : (f : Facts) (n : ℕ) (t : Tree) → Looked f n t → (s b : ℕ) → s < n → is_steady f s b ≡ (not (list_any (is_write (named s)) (program_mentions t)) && not (is_foreign t b (named s)))
steady_told f n t w s b h = ap (λ v. not v && not (foreign f s b)) (assigned_told f n t w s h) ∙ ap (λ v. not (list_any (is_write (named s)) (program_mentions t)) && not v) (tables_foreign f n t w s b h)

pub bodies_told : (f : Facts) (n : ℕ) (t : Tree) → Told f n t → TellsBodies f n t
bodies_told f n t w = record {
  steady = steady_told f n t w.looked;
  unshared = λ s b h. ap not (tables_share f n t w.looked s b h);
  initial = λ s b h. (λ i. steady_told f n t w.looked s b h i && not (w.looked.lexical_told s h i));
  has_this = λ b. ap not (w.asking_told b);
}

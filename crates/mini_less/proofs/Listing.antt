-- Neighbours in a list that are built anew of the parts of others ask less.
use Rattle.std.specs.Prelude.{ℕ, ◌≡◌, refl, Bool, true, false, ◌&&◌, ◌||◌, []}
use Rattle.std.proofs.Common.{ap, ◌∙◌, sym, subst, inl, true≢false}
use Rattle.std.proofs.lemmas.Bool.{and_parts}
use Rattle.mini_accept.specs.WellShaped.{Depth, a_statement, Slot, one, one_or_absent, many, each, fill, fits}
use Rattle.mini_model.specs.declared.place.Position.{Position}
use Rattle.mini_model.specs.declared.place.Position.TheVariants.{StatementList, BodyList}
use Rattle.mini_model.specs.Paths.{append}
use Rattle.mini_model.specs.Tree.{Tree, Trees, none, ◌▸◌, listed, shape_of}
use Rattle.mini_laws.specs.Resolved.{Environment}
use Rattle.mini_laws.specs.Value.{Variable, Declared}
use Rattle.mini_kept.specs.Placed.{is_statement_list, fits_place}
use Rattle.mini_kept.proofs.Placed.{statements_slot}
use Rattle.mini_shrink.specs.Pace.{Pace, followed, ends_after, AtMost, reads_if, Setting, Question, pace}
use Rattle.mini_shrink.specs.Questions.{Own, asks, finds, early}
use Rattle.mini_shrink.specs.Shrinking.{AsksLess}
use Rattle.mini_shrink.proofs.Finding.{pace_is}
use Rattle.mini_shrink.proofs.Paces.{both, through}
use Rattle.mini_rows.specs.Sketches.{AList, list, Items, Parts, items_filled, AsWholeItem, AsWholeList, parts_in, Free, is_rearranged, items_stand_well}
use Rattle.mini_rows.specs.Arranged.{AreLoose}
use Rattle.mini_less.specs.Less.{TellsPlainly}
use Rattle.mini_less.specs.Neighbours.{PassesLists, of_items, items_say, are_headed}
use Rattle.mini_less.specs.Rebuilt.{rebuilds_list, ListsAskLess}
use Rattle.mini_rows.proofs.Arranging.{All, Any, Each, to_parts_in, of_parts_in}
use Rattle.mini_rows.proofs.ArrangedMoves.{forth}
use Rattle.mini_rows.proofs.ArrangedPlain.{items_plain}
use Rattle.mini_rows.proofs.ArrangedValues.{Valued, sketch_valued}
use Rattle.mini_less.proofs.EachFact.{Unordered, unordered, by_fact}
use Rattle.mini_less.proofs.Finding.{Lacks, lacks_local, lacks_moves}
use Rattle.mini_less.proofs.Headed.{headed_calm, headed_ended}
use Rattle.mini_less.proofs.Neighbours.{neighbours_ask_less}
use Rattle.mini_less.proofs.Ordered.{ended_more, more_ordered}
use Rattle.mini_kept.specs.KeepsNames.{is_used, is_statement_use}
use Rattle.mini_laws.specs.declared.names.Use.{Use}
use Rattle.mini_laws.specs.DeclaredNames.{is_inner}
use Rattle.mini_less.proofs.Plainly.{read, is_reads, is_ended, split, join, less_by, Calmly, calm_local, calm_moves}

-- ---- a stretch fits

pub middle_fits : (strict : Bool) (s : Slot) (before a after : Trees) → fill strict (each s) (append before (append a after)) ≡ true → fill strict (each s) a ≡ true
middle_fits strict s (t ▸ before) a after e = middle_fits strict s before a after (and_parts (fits strict s t) (fill strict (each s) (append before (append a after))) e).1
middle_fits strict s none none after e = refl
middle_fits strict s none (t ▸ a) after e =
    let (x, y) = and_parts (fits strict s t) (fill strict (each s) (append a after)) e in
    λ j. x j && middle_fits strict s none a after y j

whole_list : (strict : Bool) (d : Depth) (ts : Trees) → fill strict (each (one (a_statement d))) ts ≡ true → fits strict (many (a_statement d)) (listed ts) ≡ true
whole_list strict d ts e = e

-- ---- yes or no

tells : (b : Bool) → is_reads (reads_if b) ≡ b
tells true = refl
tells false = refl

no_end : (b : Bool) (r : Pace) → is_ended r ≡ false → is_ended (followed (ends_after false (reads_if b)) r) ≡ false
no_end true r e = refl
no_end false r e = e

abbrev pub with_belongs : Setting → Setting
with_belongs c = record c { belongs = c.belongs && true }

module _ (o : Own) (p : TellsPlainly o) (z : Unordered o) (x : Bool) (c : Setting) (env : Environment) where
  abbrev pub say : Trees → Pace
  say = items_say (asks o) (of_items x c) env

  told : (t : Tree) → is_reads (pace (asks o) (of_items x c) env t) ≡ finds o (record c { belongs = c.belongs && true; ordered = false }) env t
  told t = ap is_reads (pace_is o (of_items x c) env t) ∙ tells (finds o (of_items x c) env t) ∙ unordered o z (of_items x c) false env t

  pub to_lacks : (ts : Trees) → is_reads (say ts) ≡ false → All (Lacks o p (with_belongs c) env) AsWholeItem ts
  to_lacks none a = tt
  to_lacks (t ▸ ts) a = let (u, v) = split (pace (asks o) (of_items x c) env t) (say ts) a in (sym (told t) ∙ u, to_lacks ts v)

  pub of_lacks : (ts : Trees) → All (Lacks o p (with_belongs c) env) AsWholeItem ts → is_reads (say ts) ≡ false
  of_lacks none a = refl
  of_lacks (t ▸ ts) a = join (pace (asks o) (of_items x c) env t) (say ts) (told t ∙ a.0) (of_lacks ts a.1)

  pub none_ended : (ts : Trees) → is_ended (say ts) ≡ false
  none_ended none = refl
  none_ended (t ▸ ts) = subst (λ r. is_ended (followed (ends_after false r) (say ts)) ≡ false) (sym (pace_is o (of_items x c) env t)) (no_end (finds o (of_items x c) env t) (say ts) (none_ended ts))

-- ---- the order of reads

module _ (b s : ℕ) (c : Setting) (env : Environment) where
  abbrev pub loosely : Trees → Pace
  loosely = items_say (early b s) (of_items false c) env

  pub loosely_more : (x : Bool) (ts : Trees) → AtMost (items_say (early b s) (of_items x c) env ts) (loosely ts)
  loosely_more x none = tt
  loosely_more x (t ▸ ts) =
      let p = pace (early b s) (of_items x c) env t in
      let r = pace (early b s) (of_items false c) env t in
      let e = (early b s).ends (of_items x c) t in
      both (ends_after e p) (ends_after false r) (items_say (early b s) (of_items x c) env ts) (loosely ts)
      (ended_more e false (λ a. absurd (true≢false (sym a))) p r (more_ordered b s x false (λ a. absurd (true≢false (sym a))) (of_items x c) env t)) (loosely_more x ts)

  pub of_calm : (ts : Trees) → All (Calmly b s (with_belongs c) env) AsWholeItem ts → is_reads (loosely ts) ≡ false
  of_calm none a = refl
  of_calm (t ▸ ts) a = join (pace (early b s) (of_items false c) env t) (loosely ts) a.0 (of_calm ts a.1)

module _ (f : Free) (ps : Parts) (u : AreLoose ps f) (is js : Items) (e : rebuilds_list f is js ≡ true) (y : are_headed is ≡ true) where
  sn : items_stand_well f AsWholeItem is ≡ true
  sn = (and_parts (items_stand_well f AsWholeItem is) (items_stand_well f AsWholeItem js && is_rearranged f (parts_in AsWholeItem is) (parts_in AsWholeItem js)) e).0

  others : (items_stand_well f AsWholeItem js ≡ true) × (is_rearranged f (parts_in AsWholeItem is) (parts_in AsWholeItem js) ≡ true)
  others = and_parts (items_stand_well f AsWholeItem js) (is_rearranged f (parts_in AsWholeItem is) (parts_in AsWholeItem js)) (and_parts (items_stand_well f AsWholeItem is) (items_stand_well f AsWholeItem js && is_rearranged f (parts_in AsWholeItem is) (parts_in AsWholeItem js)) e).1

  -- what stands for the items of a list
  abbrev Less : Question → Setting → Environment → Bool → Type 0
  Less q c env x = AtMost (items_say q (of_items x c) env (items_filled ps js)) (items_say q (of_items x c) env (items_filled ps is))

  module _ (valued : Each Any Valued ps (parts_in AsWholeItem is)) (c : Setting) (su : is_statement_use c.used ≡ true) (env : Environment) (x : Bool) where
    asked : (o : Own) → TellsPlainly o → Unordered o → Less (asks o) c env x
    asked o p z =
        let k = with_belongs c in
        less_by (say o p z x c env (items_filled ps js)) (say o p z x c env (items_filled ps is)) (λ a.
        of_lacks o p z x c env (items_filled ps js) (of_parts_in Any (Lacks o p k env) (lacks_local o p k env) ps AsWholeItem js (items_plain f ps u AsWholeItem js others.0)
        (forth f ps u (parts_in AsWholeItem is) (parts_in AsWholeItem js) others.1 Any (Lacks o p k env) (lacks_moves o p k env su) valued
        (to_parts_in Any (Lacks o p k env) (lacks_local o p k env) ps AsWholeItem is (items_plain f ps u AsWholeItem is sn) (to_lacks o p z x c env (items_filled ps is) a)))))
        (none_ended o p z x c env (items_filled ps is))

    in_order : (b s : ℕ) → Less (early b s) c env x
    in_order b s =
        let k = with_belongs c in
        let read = items_say (early b s) (of_items x c) env (items_filled ps is) in
        through (items_say (early b s) (of_items x c) env (items_filled ps js)) (loosely b s c env (items_filled ps js)) read (loosely_more b s c env x (items_filled ps js))
        (less_by (loosely b s c env (items_filled ps js)) read (λ a.
        of_calm b s c env (items_filled ps js) (of_parts_in Any (Calmly b s k env) (calm_local b s k env) ps AsWholeItem js (items_plain f ps u AsWholeItem js others.0)
        (forth f ps u (parts_in AsWholeItem is) (parts_in AsWholeItem js) others.1 Any (Calmly b s k env) (calm_moves b s k env su) valued
        (to_parts_in Any (Calmly b s k env) (calm_local b s k env) ps AsWholeItem is (items_plain f ps u AsWholeItem is sn) (headed_calm b s c env x ps is y a)))))
        (headed_ended b s c env x ps is y))

abbrev pub asks_pass : (o : Own) → TellsPlainly o → PassesLists (asks o)
asks_pass o p = record { silent = λ c env ts. ap reads_if (p.plain c env AList ts tt); orders = λ c. false; ordered = λ c ts. refl }

abbrev pub early_passes : (b s : ℕ) → PassesLists (early b s)
early_passes b s = record { silent = λ c env ts. refl; orders = λ c. (true && c.ordered) || false; ordered = λ c ts. refl }

pub as_statement : (p : Position) → is_statement_list p ≡ true → (v : Use) → is_used p v ≡ true → is_statement_use v ≡ true
as_statement StatementList e v k = ap is_statement_use (read v k)
as_statement BodyList e v k = ap is_statement_use (read v k)
as_statement p e v k = absurd (cc e)

pub list_slot : (p : Position) → is_statement_list p ≡ true → (s : Slot) → fits_place p s ≡ true → fits_place StatementList s ≡ true
list_slot StatementList e s k = k
list_slot BodyList e (one c) k = refl
list_slot BodyList e (one_or_absent c) k = refl
list_slot BodyList e (many (a_statement d)) k = refl
list_slot BodyList e s k = absurd (cc k)
list_slot p e s k = absurd (cc e)

module _ (f : Free) (ps : Parts) (u : AreLoose ps f) (is js : Items) (e : rebuilds_list f is js ≡ true) (y : are_headed is ≡ true) (p : Position) (l : is_statement_list p ≡ true) (before after a d : Trees) (i : a ≡ items_filled ps is) (j : d ≡ items_filled ps js) (n w : Tree) (m : n ≡ listed (append before (append a after))) (v : w ≡ listed (append before (append d after))) where
  abbrev put_in : Trees → Tree
  put_in ts = listed (append before (append ts after))

  valued_here : (strict : Bool) (s : Slot) → fits_place p s ≡ true → fits strict s n ≡ true → Each Any Valued ps (parts_in AsWholeItem is)
  valued_here strict s k g =
      let (depth, same, fit) = statements_slot strict s [] 0 (append before (append (items_filled ps is) after)) (list_slot p l s k) (subst (λ t. fits strict s t ≡ true) (m ∙ ap put_in i) g) in
      sketch_valued ps strict AsWholeList (many (a_statement depth)) (list is) refl (whole_list strict depth (items_filled ps is) (middle_fits strict (one (a_statement depth)) before (items_filled ps is) after fit))

  there : (q : Question) (k : PassesLists q) (x : Variable) → ((c : Setting) (env : Environment) (o : Bool) → is_statement_use c.used ≡ true → Each Any Valued ps (parts_in AsWholeItem is) → Less f ps u is js e y q c env o) → AsksLess q x p n w
  there q k x less = record {
    by = λ strict s r g c env st sc.
        inl (subst (λ t. AtMost (pace q c env t) (pace q c env n)) (sym (v ∙ ap put_in j)) (subst (λ t. AtMost (pace q c env (put_in (items_filled ps js))) (pace q c env t)) (sym (m ∙ ap put_in i))
        (neighbours_ask_less q k c env before after (items_filled ps is) (items_filled ps js) (less c env (k.orders c) (as_statement p l c.used (sym (ap (λ t. is_inner (shape_of t) || is_used p c.used) m) ∙ st)) (valued_here strict s r g)))));
  }

pub lists_ask_less : ListsAskLess
lists_ask_less f ps u is js e y p l before after a d i j n w m v g b k =
    by_fact (λ q. AsksLess q (Declared k) p n w)
    (λ o t z. there f ps u is js e y p l before after a d i j n w m v (asks o) (asks_pass o t) (Declared k) (λ c env x su r. asked f ps u is js e y r c su env x o t z))
    (λ b s. there f ps u is js e y p l before after a d i j n w m v (early b s) (early_passes b s) (Declared k) (λ c env x su r. in_order f ps u is js e y r c su env x b s)) g b k

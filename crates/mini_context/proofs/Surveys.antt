-- The walk that fills the tables, and what each table says then.
use Rattle.std.specs.Prelude.{ℕ, zero, suc, ◌≤◌, ◌<◌, ◌≡◌, refl, nat_eq, List, [], ◌∷◌, ◌++◌, map, Bool, true, false, ◌&&◌, ◌||◌, cond}
use Rattle.std.proofs.Common.{ap, ◌∙◌, sym, subst, arith, append_assoc}
use Rattle.mini_model.specs.Tree.{Tree, Trees, node, none, ◌▸◌, children, count, child_or_absent, first_or_absent, node_count, node_counts, shape_of}
use Rattle.mini_laws.specs.NameBodies.{Frame, frame_at, frame_of_body, own_body, own_fixed, bodies, bodies_from, fixed_names, all_fixed_names}
use Rattle.std.proofs.lemmas.List.{append-nil}
use Rattle.mini_model.specs.declared.name.Name.{Name}
use Rattle.mini_model.specs.declared.shape.Shape.{Shape}
use Rattle.mini_model.specs.declared.shape.Shape.TheVariants as shape
use Rattle.mini_laws.specs.declared.names.Declared.TheVariants as declared
use Rattle.mini_laws.specs.DeclaredNames.{names_of}
use Rattle.mini_laws.specs.Strict.{is_strict_in}
use Rattle.mini_laws.specs.Shared.{reached_params, reached_by_arguments, all_reached_by_arguments, given_values, write_at, var_writes, var_writes_from, own_caught, caught, all_caught, module_names, module_names_by, all_module_names}
use Rattle.mini_context.specs.declared.exchanges.Exchange.{Exchange}
use Rattle.mini_context.specs.declared.exchanges.Exchange.TheVariants as exchange
use Rattle.mini_laws.specs.declared.names.Use.{Use}
use Rattle.mini_laws.specs.declared.names.Around.{Around}
use Rattle.mini_laws.specs.Scopes.{use_of}
use Rattle.mini_laws.specs.Mentions.{own_mentions, mentions, mentions_from, around_child, numbering_of}
use Rattle.mini_laws.specs.Foreign.{imported_by, imported_names, all_imported_names, own_pattern_names, pattern_names, all_pattern_names, is_body_by, own_lexical, lexical_variables, all_lexical_variables, own_switched, switched as switched_names, all_switched}
use Rattle.std.specs.List.{filter}
use Rattle.mini_laws.specs.Mentions.{Mention}
use Rattle.std.specs.List.{list_any}
use Rattle.std.proofs.lemmas.List.Folds.{list_any-append}
use Rattle.mini_laws.specs.DeclaredNames.{bound_names}
use Rattle.mini_laws.specs.Foreign.{has_number, own_params_around, params_around, all_params_around}
use Rattle.mini_laws.specs.Mentions.{is_among, same_variable}
use Rattle.mini_context.specs.Enclosing.{own_params, Enclosed}
use Rattle.mini_context.specs.Tables.{mark_at, named}
use Rattle.mini_context.proofs.Enclosing.{enclosed_add, own_told}
use Rattle.mini_context.specs.Lists.{Housed}
use Rattle.mini_context.proofs.Housing.{houses_add}
use Rattle.mini_context.specs.Mentioned.{Joined}
use Rattle.mini_context.proofs.Joining.{joins_add}
use Rattle.mini_context.specs.declared.standing.Standing.{Standing}
use Rattle.mini_context.specs.declared.survey.Tables.{Tables}
use Rattle.mini_context.specs.Tables.{Marked, Noted}
use Rattle.mini_context.specs.Visits.{Visit, visits, visits_from, given, below, frame_in, fixed_at, bodies_at, mentions_at, exchanged_at, exchanged_by, exchange_of, is_exchange_shape, imported_here, imported_at, is_import_shape, patterns_at, lexical_at, switched_at, values_at, caught_at, writes_at, binds_at, enclosing_at, reached_at, Surveyed}
use Rattle.mini_context.proofs.Gathering.{Adds, Gathers}
use Rattle.mini_context.proofs.Marking.{marks_add, notes_add, or_false}
use Rattle.mini_laws.specs.declared.names.Numbering.{Numbering}
use Rattle.mini_laws.specs.declared.names.Numbering.TheVariants as numbering
use Rattle.mini_node.specs.Children.{number_of}

given_both : {A : Type 0} (f : Visit → List A) (xs ys : List Visit) → given f (xs ++ ys) ≡ given f xs ++ given f ys
given_both f [] ys = refl
given_both f (x ∷ xs) ys = ap (λ r. f x ++ r) (given_both f xs ys) ∙ sym (append_assoc (f x) (given f xs) (given f ys))

-- what is true of what two lists give one after another is true of what both give
of_both : {A : Type 0} (P : List A → Type 0) (f : Visit → List A) (xs ys : List Visit) → P (given f xs ++ given f ys) → P (given f (xs ++ ys))
of_both P f xs ys p = subst P (sym (given_both f xs ys)) p

pub surveys_add : Adds Surveyed
surveys_add = record {
  nothing = λ s. record {
    fixed = marks_add.nothing s.fixed.items;
    exchanged = marks_add.nothing s.exchanged.items;
    reached = marks_add.nothing s.reached.items;
    imported = marks_add.nothing s.imported.items;
    patterns = marks_add.nothing s.patterns.items;
    lexical = marks_add.nothing s.lexical.items;
    switched = marks_add.nothing s.switched.items;
    caught = marks_add.nothing s.caught.items;
    this_events = (notes_add (λ f. f.binds_this)).nothing s.this_events.items;
    arguments = (notes_add (λ f. f.has_arguments)).nothing s.arguments.items;
    mentions = joins_add.nothing s.mentioned.items;
    written = joins_add.nothing s.written.items;
    values = joins_add.nothing s.given.items;
    homes = houses_add.nothing s.homes.items;
    enclosing = enclosed_add.nothing s.enclosing;
  };
  both = λ xs ys a b c f g. record {
    fixed = of_both (λ ns. Marked ns a.fixed.items c.fixed.items) fixed_at xs ys (marks_add.both (given fixed_at xs) (given fixed_at ys) a.fixed.items b.fixed.items c.fixed.items f.fixed g.fixed);
    exchanged = of_both (λ ns. Marked ns a.exchanged.items c.exchanged.items) exchanged_at xs ys (marks_add.both (given exchanged_at xs) (given exchanged_at ys) a.exchanged.items b.exchanged.items c.exchanged.items f.exchanged g.exchanged);
    reached = of_both (λ ns. Marked ns a.reached.items c.reached.items) reached_at xs ys (marks_add.both (given reached_at xs) (given reached_at ys) a.reached.items b.reached.items c.reached.items f.reached g.reached);
    imported = of_both (λ ns. Marked ns a.imported.items c.imported.items) imported_at xs ys (marks_add.both (given imported_at xs) (given imported_at ys) a.imported.items b.imported.items c.imported.items f.imported g.imported);
    patterns = of_both (λ ns. Marked ns a.patterns.items c.patterns.items) patterns_at xs ys (marks_add.both (given patterns_at xs) (given patterns_at ys) a.patterns.items b.patterns.items c.patterns.items f.patterns g.patterns);
    lexical = of_both (λ ns. Marked ns a.lexical.items c.lexical.items) lexical_at xs ys (marks_add.both (given lexical_at xs) (given lexical_at ys) a.lexical.items b.lexical.items c.lexical.items f.lexical g.lexical);
    switched = of_both (λ ns. Marked ns a.switched.items c.switched.items) switched_at xs ys (marks_add.both (given switched_at xs) (given switched_at ys) a.switched.items b.switched.items c.switched.items f.switched g.switched);
    caught = of_both (λ ns. Marked ns a.caught.items c.caught.items) caught_at xs ys (marks_add.both (given caught_at xs) (given caught_at ys) a.caught.items b.caught.items c.caught.items f.caught g.caught);
    this_events = of_both (λ bs. Noted (λ f. f.binds_this) bs a.this_events.items c.this_events.items) bodies_at xs ys ((notes_add (λ f. f.binds_this)).both (given bodies_at xs) (given bodies_at ys) a.this_events.items b.this_events.items c.this_events.items f.this_events g.this_events);
    arguments = of_both (λ bs. Noted (λ f. f.has_arguments) bs a.arguments.items c.arguments.items) bodies_at xs ys ((notes_add (λ f. f.has_arguments)).both (given bodies_at xs) (given bodies_at ys) a.arguments.items b.arguments.items c.arguments.items f.arguments g.arguments);
    mentions = of_both (λ ms. Joined ms a.mentioned.items c.mentioned.items) mentions_at xs ys (joins_add.both (given mentions_at xs) (given mentions_at ys) a.mentioned.items b.mentioned.items c.mentioned.items f.mentions g.mentions);
    written = of_both (λ ms. Joined ms a.written.items c.written.items) writes_at xs ys (joins_add.both (given writes_at xs) (given writes_at ys) a.written.items b.written.items c.written.items f.written g.written);
    values = of_both (λ ms. Joined ms a.given.items c.given.items) values_at xs ys (joins_add.both (given values_at xs) (given values_at ys) a.given.items b.given.items c.given.items f.values g.values);
    enclosing = of_both (λ ps. Enclosed ps a.enclosing c.enclosing) enclosing_at xs ys (enclosed_add.both (given enclosing_at xs) (given enclosing_at ys) a.enclosing b.enclosing c.enclosing f.enclosing g.enclosing);
    homes = of_both (λ ms. Housed ms a.homes.items c.homes.items) binds_at xs ys (houses_add.both (given binds_at xs) (given binds_at ys) a.homes.items b.homes.items c.homes.items f.homes g.homes);
  };
}

pub visits_gather : (at : ℕ → Standing) → Gathers (λ i us. visits (at i) (first_or_absent us)) (λ i us. visits_from at i us)
unfolding visits
visits_gather at = record { at_none = λ i. refl; at_more = λ i t ts. refl }

visits_of : (a : Standing) (t : Tree) → record { standing = a; tree = t } ∷ visits_from (below a t) 0 (children t) ≡ visits a t
unfolding visits
visits_of a (node h xs n ts) = refl

-- a node, and then those below it
pub surveyed_both : (a : Standing) (t : Tree) (s r q : Tables) → Surveyed (record { standing = a; tree = t } ∷ []) s r → Surveyed (visits_from (below a t) 0 (children t)) r q → Surveyed (visits a t) s q
surveyed_both a t s r q f g = subst (λ vs. Surveyed vs s q) (visits_of a t) (surveys_add.both (record { standing = a; tree = t } ∷ []) (visits_from (below a t) 0 (children t)) s r q f g)

-- ---- what each of the definitions gives

mutual
  unfolding visits fixed_names

  pub fixed_told : (a : Standing) (t : Tree) → given fixed_at (visits a t) ≡ fixed_names t
  fixed_told a (node h xs n ts) = ap (λ r. own_fixed h ts ++ r) (all_fixed_told (below a (node h xs n ts)) 0 ts)

  all_fixed_told : (at : ℕ → Standing) (i : ℕ) (ts : Trees) → given fixed_at (visits_from at i ts) ≡ all_fixed_names ts
  all_fixed_told at i none = refl
  all_fixed_told at i (t ▸ ts) =
      given_both fixed_at (visits (at i) t) (visits_from at (suc i) ts)
      ∙ ap (λ r. r ++ given fixed_at (visits_from at (suc i) ts)) (fixed_told (at i) t)
      ∙ ap (λ r. fixed_names t ++ r) (all_fixed_told at (suc i) ts)

mutual
  unfolding visits bodies

  pub bodies_told : (f : Frame) (a : Standing) → f ≡ frame_in a.frame → (t : Tree) → given bodies_at (visits a t) ≡ bodies f t
  bodies_told f a e (node h xs n ts) =
      ap (λ g. own_body (numbering_of h n) n (frame_of_body h g) ++ given bodies_at (visits_from (below a (node h xs n ts)) 0 ts)) (sym e)
      ∙ ap (λ r. own_body (numbering_of h n) n (frame_of_body h f) ++ r) (all_bodies_told (frame_at h f ts) (below a (node h xs n ts)) (λ k. ap (λ g. frame_at h g ts k) e) 0 ts)

  all_bodies_told : (fs : ℕ → Frame) (at : ℕ → Standing) → ((k : ℕ) → fs k ≡ frame_in (at k).frame) → (i : ℕ) (ts : Trees) → given bodies_at (visits_from at i ts) ≡ bodies_from fs i ts
  all_bodies_told fs at e i none = refl
  all_bodies_told fs at e i (t ▸ ts) =
      given_both bodies_at (visits (at i) t) (visits_from at (suc i) ts)
      ∙ ap (λ r. r ++ given bodies_at (visits_from at (suc i) ts)) (bodies_told (fs i) (at i) (e i) t)
      ∙ ap (λ r. bodies (fs i) t ++ r) (all_bodies_told fs at e (suc i) ts)

within : (ts : Trees) (i : ℕ) → i < count ts → node_count (child_or_absent ts i) ≤ node_counts ts
within none i h = absurd (omega arith)
within (t ▸ ts) zero h = omega arith
within (t ▸ ts) (suc i) h = omega (arith, within ts i (omega arith))

-- a child is smaller than the node
pub child_falls : (t : Tree) (ts : Trees) (i : ℕ) (u : Tree) → ts ≡ children t → i < count ts → u ≡ child_or_absent ts i → node_count u < node_count t
child_falls (node h xs n us) ts i u e l f = omega (arith, ap node_count f, within ts i l, ap node_counts e)

mutual
  unfolding visits mentions

  pub mentions_told : (a : Standing) (t : Tree) → given mentions_at (visits a t) ≡ mentions a.usage a.around t
  mentions_told a (node h xs n ts) = ap (λ r. own_mentions a.usage a.around h xs ++ r) (all_mentions_told (use_of h a.usage) (around_child h a.around n) (below a (node h xs n ts)) (λ k. refl) (λ k. refl) 0 ts)

  all_mentions_told : (us : ℕ → Use) (rs : ℕ → Around) (at : ℕ → Standing) → ((k : ℕ) → (at k).usage ≡ us k) → ((k : ℕ) → (at k).around ≡ rs k) → (i : ℕ) (ts : Trees) → given mentions_at (visits_from at i ts) ≡ mentions_from us rs i ts
  all_mentions_told us rs at e f i none = refl
  all_mentions_told us rs at e f i (t ▸ ts) =
      given_both mentions_at (visits (at i) t) (visits_from at (suc i) ts)
      ∙ ap (λ r. r ++ given mentions_at (visits_from at (suc i) ts)) (mentions_told (at i) t ∙ ap (λ u. mentions u (at i).around t) (e i) ∙ ap (λ r. mentions (us i) r t) (f i))
      ∙ ap (λ r. mentions (us i) (rs i) t ++ r) (all_mentions_told us rs at e f (suc i) ts)

mutual
  unfolding visits reached_by_arguments

  pub reached_told : (a : Standing) (t : Tree) → given reached_at (visits a t) ≡ reached_by_arguments a.strict t
  reached_told a (node h xs n ts) = ap (λ r. reached_params (is_strict_in a.strict h) h ts ++ r) (all_reached_told (is_strict_in a.strict h) (below a (node h xs n ts)) (λ k. refl) 0 ts)

  all_reached_told : (b : Bool) (at : ℕ → Standing) → ((k : ℕ) → (at k).strict ≡ b) → (i : ℕ) (ts : Trees) → given reached_at (visits_from at i ts) ≡ all_reached_by_arguments b ts
  all_reached_told b at e i none = refl
  all_reached_told b at e i (t ▸ ts) =
      given_both reached_at (visits (at i) t) (visits_from at (suc i) ts)
      ∙ ap (λ r. r ++ given reached_at (visits_from at (suc i) ts)) (reached_told (at i) t ∙ ap (λ v. reached_by_arguments v t) (e i))
      ∙ ap (λ r. reached_by_arguments b t ++ r) (all_reached_told b at e (suc i) ts)

-- where nothing is exchanged no name is
nothing_by : (b : Bool) (e : Exchange) (own lexical hoisted : List Name) → b ≡ false → exchanged_by b e own lexical hoisted ≡ []
nothing_by true e own lexical hoisted q = absurd (cc q)
nothing_by false exchange.Lexical own lexical hoisted q = refl
nothing_by false exchange.Declared own lexical hoisted q = refl
nothing_by false exchange.Own own lexical hoisted q = refl
nothing_by false exchange.Nothing own lexical hoisted q = refl

and_false : (b c : Bool) → b ≡ false → (b && c) ≡ false
and_false true c e = absurd (cc e)
and_false false c e = refl

mutual
  unfolding visits

  unexchanged : (a : Standing) (t : Tree) → a.exchanges ≡ false → given exchanged_at (visits a t) ≡ []
  unexchanged a (node h xs n ts) e =
      ap (λ r. r ++ given exchanged_at (visits_from (below a (node h xs n ts)) 0 ts)) (nothing_by a.exchanges (exchange_of h) xs (names_of declared.Lexical (node h xs n ts)) (names_of declared.Hoisted (node h xs n ts)) e)
      ∙ all_unexchanged (below a (node h xs n ts)) (λ k. and_false a.exchanges (is_exchange_shape h) e) 0 ts

  all_unexchanged : (at : ℕ → Standing) → ((k : ℕ) → (at k).exchanges ≡ false) → (i : ℕ) (ts : Trees) → given exchanged_at (visits_from at i ts) ≡ []
  all_unexchanged at e i none = refl
  all_unexchanged at e i (t ▸ ts) =
      given_both exchanged_at (visits (at i) t) (visits_from at (suc i) ts)
      ∙ ap (λ r. r ++ given exchanged_at (visits_from at (suc i) ts)) (unexchanged (at i) t (e i))
      ∙ all_unexchanged at e (suc i) ts

-- of a node that may exchange names: its own, and those below it where its shape has them
exchanged_whole : (h : Shape) (xs lexical hoisted all rest : List Name) → (is_exchange_shape h ≡ true → rest ≡ all) → (is_exchange_shape h ≡ false → rest ≡ []) → exchanged_by true (exchange_of h) xs lexical hoisted ++ rest ≡ module_names_by h xs lexical hoisted all
exchanged_whole shape.Listed xs lexical hoisted all rest f g = f refl
exchanged_whole (shape.Program is_module ds) xs lexical hoisted all rest f g = f refl
exchanged_whole shape.ImportDeclaration xs lexical hoisted all rest f g = ap (λ r. lexical ++ r) (g refl) ∙ append-nil lexical
exchanged_whole shape.ExportNamedDeclaration xs lexical hoisted all rest f g = ap (λ r. (lexical ++ hoisted) ++ r) (f refl)
exchanged_whole shape.ExportDefaultDeclaration xs lexical hoisted all rest f g = ap (λ r. lexical ++ r) (g refl) ∙ append-nil lexical
exchanged_whole shape.ExportSpecifier xs lexical hoisted all rest f g = f refl
exchanged_whole shape.Identifier xs lexical hoisted all rest f g = ap (λ r. xs ++ r) (g refl) ∙ append-nil xs
exchanged_whole h xs lexical hoisted all rest f g = g refl

both_true : (b c : Bool) → b ≡ true → c ≡ true → (b && c) ≡ true
both_true b c e f = ap (λ v. v && c) e ∙ f

right_false : (b c : Bool) → c ≡ false → (b && c) ≡ false
right_false true c e = e
right_false false c e = refl

mutual
  unfolding visits module_names

  pub modules_told : (a : Standing) (t : Tree) → a.exchanges ≡ true → given exchanged_at (visits a t) ≡ module_names t
  modules_told a (node h xs n ts) e =
      let lexical = names_of declared.Lexical (node h xs n ts) in
      let hoisted = names_of declared.Hoisted (node h xs n ts) in
      let rest = given exchanged_at (visits_from (below a (node h xs n ts)) 0 ts) in
      ap (λ b. exchanged_by b (exchange_of h) xs lexical hoisted ++ rest) e
      ∙ exchanged_whole h xs lexical hoisted (all_module_names ts) rest
      (λ f. all_modules_told (below a (node h xs n ts)) (λ k. both_true a.exchanges (is_exchange_shape h) e f) 0 ts)
      (λ f. all_unexchanged (below a (node h xs n ts)) (λ k. right_false a.exchanges (is_exchange_shape h) f) 0 ts)

  all_modules_told : (at : ℕ → Standing) → ((k : ℕ) → (at k).exchanges ≡ true) → (i : ℕ) (ts : Trees) → given exchanged_at (visits_from at i ts) ≡ all_module_names ts
  all_modules_told at e i none = refl
  all_modules_told at e i (t ▸ ts) =
      given_both exchanged_at (visits (at i) t) (visits_from at (suc i) ts)
      ∙ ap (λ r. r ++ given exchanged_at (visits_from at (suc i) ts)) (modules_told (at i) t (e i))
      ∙ ap (λ r. module_names t ++ r) (all_modules_told at e (suc i) ts)

mutual
  unfolding visits pattern_names

  pub patterns_told : (a : Standing) (t : Tree) → given patterns_at (visits a t) ≡ pattern_names t
  patterns_told a (node h xs n ts) = ap (λ r. own_pattern_names h n ts ++ r) (all_patterns_told (below a (node h xs n ts)) 0 ts)

  all_patterns_told : (at : ℕ → Standing) (i : ℕ) (ts : Trees) → given patterns_at (visits_from at i ts) ≡ all_pattern_names ts
  all_patterns_told at i none = refl
  all_patterns_told at i (t ▸ ts) =
      given_both patterns_at (visits (at i) t) (visits_from at (suc i) ts)
      ∙ ap (λ r. r ++ given patterns_at (visits_from at (suc i) ts)) (patterns_told (at i) t)
      ∙ ap (λ r. pattern_names t ++ r) (all_patterns_told at (suc i) ts)

mutual
  unfolding visits switched_names

  pub switched_told : (a : Standing) (t : Tree) → given switched_at (visits a t) ≡ switched_names t
  switched_told a (node h xs n ts) = ap (λ r. own_switched h ts ++ r) (all_switched_told (below a (node h xs n ts)) 0 ts)

  all_switched_told : (at : ℕ → Standing) (i : ℕ) (ts : Trees) → given switched_at (visits_from at i ts) ≡ all_switched ts
  all_switched_told at i none = refl
  all_switched_told at i (t ▸ ts) =
      given_both switched_at (visits (at i) t) (visits_from at (suc i) ts)
      ∙ ap (λ r. r ++ given switched_at (visits_from at (suc i) ts)) (switched_told (at i) t)
      ∙ ap (λ r. switched_names t ++ r) (all_switched_told at (suc i) ts)

mutual
  unfolding visits var_writes

  pub values_told : (a : Standing) (t : Tree) → given values_at (visits a t) ≡ var_writes a.usage a.around t
  values_told a (node h xs n ts) = ap (λ r. map (write_at a.around) (given_values a.usage h xs ts) ++ r) (all_values_told (use_of h a.usage) (around_child h a.around n) (below a (node h xs n ts)) (λ k. refl) (λ k. refl) 0 ts)

  all_values_told : (uses : ℕ → Use) (arounds : ℕ → Around) (at : ℕ → Standing) → ((k : ℕ) → (at k).usage ≡ uses k) → ((k : ℕ) → (at k).around ≡ arounds k) → (i : ℕ) (ts : Trees) → given values_at (visits_from at i ts) ≡ var_writes_from uses arounds i ts
  all_values_told uses arounds at e f i none = refl
  all_values_told uses arounds at e f i (t ▸ ts) =
      given_both values_at (visits (at i) t) (visits_from at (suc i) ts)
      ∙ ap (λ r. r ++ given values_at (visits_from at (suc i) ts)) (values_told (at i) t ∙ ap (λ u. var_writes u (at i).around t) (e i) ∙ ap (λ r. var_writes (uses i) r t) (f i))
      ∙ ap (λ r. var_writes (uses i) (arounds i) t ++ r) (all_values_told uses arounds at e f (suc i) ts)

mutual
  unfolding visits caught

  pub caught_told : (a : Standing) (t : Tree) → given caught_at (visits a t) ≡ caught t
  caught_told a (node h xs n ts) = ap (λ r. own_caught h ts ++ r) (all_caught_told (below a (node h xs n ts)) 0 ts)

  all_caught_told : (at : ℕ → Standing) (i : ℕ) (ts : Trees) → given caught_at (visits_from at i ts) ≡ all_caught ts
  all_caught_told at i none = refl
  all_caught_told at i (t ▸ ts) =
      given_both caught_at (visits (at i) t) (visits_from at (suc i) ts)
      ∙ ap (λ r. r ++ given caught_at (visits_from at (suc i) ts)) (caught_told (at i) t)
      ∙ ap (λ r. caught t ++ r) (all_caught_told at (suc i) ts)

mutual
  unfolding visits lexical_variables

  pub lexical_told : (a : Standing) (t : Tree) → given lexical_at (visits a t) ≡ lexical_variables a.in_body t
  lexical_told a (node h xs n ts) = ap (λ r. own_lexical a.in_body h ts ++ r) (all_lexical_told (is_body_by h a.in_body) (below a (node h xs n ts)) (λ k. refl) 0 ts)

  all_lexical_told : (b : Bool) (at : ℕ → Standing) → ((k : ℕ) → (at k).in_body ≡ b) → (i : ℕ) (ts : Trees) → given lexical_at (visits_from at i ts) ≡ all_lexical_variables b ts
  all_lexical_told b at e i none = refl
  all_lexical_told b at e i (t ▸ ts) =
      given_both lexical_at (visits (at i) t) (visits_from at (suc i) ts)
      ∙ ap (λ r. r ++ given lexical_at (visits_from at (suc i) ts)) (lexical_told (at i) t ∙ ap (λ v. lexical_variables v t) (e i))
      ∙ ap (λ r. lexical_variables b t ++ r) (all_lexical_told b at e (suc i) ts)

-- ---- imports

no_import : (b : Bool) (h : Shape) (lexical : List Name) → b ≡ false → imported_here b h lexical ≡ []
no_import true h lexical q = absurd (cc q)
no_import false h lexical q = refl

mutual
  unfolding visits

  unimported : (a : Standing) (t : Tree) → a.imports ≡ false → given imported_at (visits a t) ≡ []
  unimported a (node h xs n ts) e =
      ap (λ r. r ++ given imported_at (visits_from (below a (node h xs n ts)) 0 ts)) (no_import a.imports h (names_of declared.Lexical (node h xs n ts)) e)
      ∙ all_unimported (below a (node h xs n ts)) (λ k. and_false a.imports (is_import_shape h) e) 0 ts

  all_unimported : (at : ℕ → Standing) → ((k : ℕ) → (at k).imports ≡ false) → (i : ℕ) (ts : Trees) → given imported_at (visits_from at i ts) ≡ []
  all_unimported at e i none = refl
  all_unimported at e i (t ▸ ts) =
      given_both imported_at (visits (at i) t) (visits_from at (suc i) ts)
      ∙ ap (λ r. r ++ given imported_at (visits_from at (suc i) ts)) (unimported (at i) t (e i))
      ∙ all_unimported at e (suc i) ts

imported_whole : (h : Shape) (lexical all rest : List Name) → (is_import_shape h ≡ true → rest ≡ all) → (is_import_shape h ≡ false → rest ≡ []) → imported_here true h lexical ++ rest ≡ imported_by h lexical all
imported_whole shape.Listed lexical all rest f g = f refl
imported_whole (shape.Program is_module ds) lexical all rest f g = f refl
imported_whole shape.ImportDeclaration lexical all rest f g = ap (λ r. lexical ++ r) (g refl) ∙ append-nil lexical
imported_whole h lexical all rest f g = g refl

mutual
  unfolding visits imported_names

  pub imported_told : (a : Standing) (t : Tree) → a.imports ≡ true → given imported_at (visits a t) ≡ imported_names t
  imported_told a (node h xs n ts) e =
      let lexical = names_of declared.Lexical (node h xs n ts) in
      let rest = given imported_at (visits_from (below a (node h xs n ts)) 0 ts) in
      ap (λ b. imported_here b h lexical ++ rest) e
      ∙ imported_whole h lexical (all_imported_names ts) rest
      (λ f. all_imported_told (below a (node h xs n ts)) (λ k. both_true a.imports (is_import_shape h) e f) 0 ts)
      (λ f. all_unimported (below a (node h xs n ts)) (λ k. right_false a.imports (is_import_shape h) f) 0 ts)

  all_imported_told : (at : ℕ → Standing) → ((k : ℕ) → (at k).imports ≡ true) → (i : ℕ) (ts : Trees) → given imported_at (visits_from at i ts) ≡ all_imported_names ts
  all_imported_told at e i none = refl
  all_imported_told at e i (t ▸ ts) =
      given_both imported_at (visits (at i) t) (visits_from at (suc i) ts)
      ∙ ap (λ r. r ++ given imported_at (visits_from at (suc i) ts)) (imported_told (at i) t (e i))
      ∙ ap (λ r. imported_names t ++ r) (all_imported_told at e (suc i) ts)

-- ---- parameters

abbrev encloses : ℕ → ℕ → Tree → Bool
encloses s b t = is_among (named s) (bound_names t) && has_number b t

mutual
  unfolding visits params_around

  pub enclosed_told : (s b : ℕ) (a : Standing) (t : Tree) → list_any (encloses s b) (given enclosing_at (visits a t)) ≡ is_among (named s) (params_around b t)
  enclosed_told s b a (node h xs n ts) =
      list_any-append (encloses s b) (own_params h ts) (given enclosing_at (visits_from (below a (node h xs n ts)) 0 ts))
      ∙ ap (λ v. v || list_any (encloses s b) (given enclosing_at (visits_from (below a (node h xs n ts)) 0 ts))) (own_told s b h ts)
      ∙ ap (λ v. is_among (named s) (own_params_around b h ts) || v) (all_enclosed_told s b (below a (node h xs n ts)) 0 ts)
      ∙ sym (list_any-append (same_variable (named s)) (own_params_around b h ts) (all_params_around b ts))

  all_enclosed_told : (s b : ℕ) (at : ℕ → Standing) (i : ℕ) (ts : Trees) → list_any (encloses s b) (given enclosing_at (visits_from at i ts)) ≡ is_among (named s) (all_params_around b ts)
  all_enclosed_told s b at i none = refl
  all_enclosed_told s b at i (t ▸ ts) =
      ap (list_any (encloses s b)) (given_both enclosing_at (visits (at i) t) (visits_from at (suc i) ts))
      ∙ list_any-append (encloses s b) (given enclosing_at (visits (at i) t)) (given enclosing_at (visits_from at (suc i) ts))
      ∙ ap (λ v. v || list_any (encloses s b) (given enclosing_at (visits_from at (suc i) ts))) (enclosed_told s b (at i) t)
      ∙ ap (λ v. is_among (named s) (params_around b t) || v) (all_enclosed_told s b at (suc i) ts)
      ∙ sym (list_any-append (same_variable (named s)) (params_around b t) (all_params_around b ts))

-- ---- some of the mentions

kept_by : {A : Type 0} (b : Bool) (x : A) (all xs ys : List A) → all ≡ xs ++ ys → cond b (x ∷ all) all ≡ cond b (x ∷ xs) xs ++ ys
kept_by true x all xs ys e = ap (λ r. x ∷ r) e
kept_by false x all xs ys e = e

filter_both : {A : Type 0} (p : A → Bool) (xs ys : List A) → filter p (xs ++ ys) ≡ filter p xs ++ filter p ys
filter_both p [] ys = refl
filter_both p (x ∷ xs) ys = kept_by (p x) x (filter p (xs ++ ys)) (filter p xs) (filter p ys) (filter_both p xs ys)

pub filtered : (p : Mention → Bool) (vs : List Visit) → given (λ v. filter p (mentions_at v)) vs ≡ filter p (given mentions_at vs)
filtered p [] = refl
filtered p (v ∷ vs) = ap (λ r. filter p (mentions_at v) ++ r) (filtered p vs) ∙ sym (filter_both p (mentions_at v) (given mentions_at vs))

-- ---- the body that a node is

no_body : (k : Numbering) (n : ℕ) (f : Frame) → (k ≡ numbering.Body → ⊥) → own_body k n f ≡ []
no_body numbering.Body n f e = absurd (e refl)
no_body k n f e = refl

numbered : (t : Tree) (h : Shape) (n : ℕ) (k : Numbering) → h ≡ shape_of t → n ≡ number_of t → k ≡ numbering_of h n → k ≡ numbering_of (shape_of t) (number_of t)
numbered t h n k e f g = g ∙ ap (λ q. numbering_of q n) e ∙ ap (numbering_of (shape_of t)) f

pub unbodied : (p : Frame → Bool) (a : Standing) (t : Tree) (h : Shape) (n : ℕ) (k : Numbering) (marks : List Bool) → h ≡ shape_of t → n ≡ number_of t → k ≡ numbering_of h n → (k ≡ numbering.Body → ⊥) → Noted p (bodies_at (record { standing = a; tree = t })) marks marks
unbodied p a t h n k marks e f g i =
    let frame = frame_of_body (shape_of t) (frame_in a.frame) in
    subst (λ bs. Noted p bs marks marks) (sym (ap (λ j. own_body j (number_of t) frame) (sym (numbered t h n k e f g)) ∙ no_body k (number_of t) frame i)) ((notes_add p).nothing marks)

pub bodied : (p : Frame → Bool) (a : Standing) (t : Tree) (h : Shape) (n : ℕ) (k : Numbering) (m : ℕ) (v : Bool) (old new : List Bool) → h ≡ shape_of t → n ≡ number_of t → k ≡ numbering_of h n → k ≡ numbering.Body → m ≡ number_of t → v ≡ p (frame_of_body (shape_of t) (frame_in a.frame)) →
    ((b : ℕ) → mark_at new b ≡ (mark_at old b || (nat_eq m b && v))) → Noted p (bodies_at (record { standing = a; tree = t })) old new
bodied p a t h n k m v old new e f g i j w r =
    let frame = frame_of_body (shape_of t) (frame_in a.frame) in
    subst (λ bs. Noted p bs old new) (sym (ap (λ q. own_body q (number_of t) frame) (sym (numbered t h n k e f g) ∙ i)))
    (λ b. r b ∙ ap (λ x. mark_at old b || x) (ap (λ q. nat_eq q b && v) j ∙ ap (λ x. nat_eq (number_of t) b && x) w ∙ sym (or_false (nat_eq (number_of t) b && p frame))))

-- The tables of a context tell what is known of bodies, of every symbol: of those for which they
-- have room by what they say, and of others nothing is said in the program.
use Rattle.std.specs.Prelude.{ℕ, zero, suc, ◌≡◌, ◌<◌, refl, nat_eq, nat_lt, Bool, true, false, not, ◌&&◌, ◌||◌, List, [], ◌∷◌, length}
use Rattle.std.specs.List.{list_any}
use Rattle.std.proofs.Common.{ap, ◌∙◌, sym}
use Rattle.std.proofs.Math.Dec.{eqb-suc-suc, eqb-zero-suc}
use Rattle.std.proofs.lemmas.Bool.{eqb-true, eq-eqb, false≢true, lt-ltb, ltb-true}
use Rattle.std.proofs.lemmas.List.Folds.{list_any-append}
use Rattle.mini_model.specs.Tree.{Tree, Trees, node, none, ◌▸◌}
use Rattle.mini_tree.specs.declared.options.CompressOptions.{CompressOptions}
use Rattle.mini_laws.specs.Congruence.{NoneIn, Avoids, AllAvoid}
use Rattle.mini_laws.specs.declared.names.Use.TheVariants.{Read}
use Rattle.mini_laws.specs.Foreign.{all_writes, is_declared_in, is_foreign_always, is_write, lexical_variables, params_around, switched, is_read_early, moments}
use Rattle.mini_laws.specs.Mentions.{Mention, is_among, is_elsewhere, outermost, program_mentions, same_variable}
use Rattle.mini_laws.specs.Shared.{is_shared, is_shared_always, program_var_writes}
use Rattle.mini_laws.specs.Substitution.{alone}
use Rattle.mini_laws.specs.Value.{Declared, Global, Variable, choose, is_in, variable_eq, variables}
use Rattle.mini_laws.specs.Writable.{mentions, any_mentions}
use Rattle.mini_kept.proofs.Undeclared.{unshared, native}
use Rattle.mini_context.specs.declared.context.TraverseCtx.{TraverseCtx}
use Rattle.mini_context.specs.Facts.{Facts, Told}
use Rattle.mini_context.specs.Known.{Knows}
use Rattle.mini_context.specs.Steady.{is_initial, is_past, is_steady, is_unshared, TellsBodies}
use Rattle.mini_context.specs.Tables.{named}
use Rattle.mini_context.proofs.Known.{told_length}
use Rattle.mini_context.proofs.Foreigns.{bodies_told}
use Rattle.mini_steady.specs.Told.{is_assigned, is_steady_in_body, of_symbols, told_by, told_in}

-- ---- a symbol that a program doesn't mention

or_parts_false : (a b : Bool) → (a || b) ≡ false → (a ≡ false) × (b ≡ false)
or_parts_false true b e = absurd (false≢true (sym e))
or_parts_false false b e = (refl, e)

module _ (k : ℕ) where
  other : (y : Variable) → variable_eq y (Declared k) ≡ false → variable_eq (Declared k) y ≡ false
  other (Global s) e = refl
  other (Declared m) e = by (nat_eq k m) refl
    where
      by : (b : Bool) → nat_eq k m ≡ b → nat_eq k m ≡ false
      by true q = absurd (false≢true (sym e ∙ eq-eqb m k (sym (eqb-true k m q))))
      by false q = q

  not_chosen : (c r : Bool) → choose c true r ≡ false → (c ≡ false) × (r ≡ false)
  not_chosen true r e = absurd (false≢true (sym e))
  not_chosen false r e = (refl, e)

  none_in : (ys : List Variable) → is_in (Declared k) ys ≡ false → NoneIn (alone (Declared k)) ys
  none_in [] e = tt
  none_in (y ∷ ys) e = let (here, rest) = not_chosen (variable_eq y (Declared k)) (is_in (Declared k) ys) e in (other y here, none_in ys rest)

  mutual
    avoided : (t : Tree) → mentions t (Declared k) ≡ false → Avoids (alone (Declared k)) t
    avoided (node h xs n ts) e = let (here, below) = or_parts_false (is_in (Declared k) (variables xs)) (any_mentions ts (Declared k)) e in (none_in (variables xs) here, all_avoided ts below)

    all_avoided : (ts : Trees) → any_mentions ts (Declared k) ≡ false → AllAvoid (alone (Declared k)) ts
    all_avoided none e = tt
    all_avoided (t ▸ ts) e = let (here, rest) = or_parts_false (mentions t (Declared k)) (any_mentions ts (Declared k)) e in (avoided t here, all_avoided ts rest)

  -- no body mentions what none shares
  next_by : (a p v : Bool) → v ≡ false → (p && (a || not v)) ≡ p
  next_by true true v e = refl
  next_by true false v e = refl
  next_by false true v e = ap not e
  next_by false false v e = refl

  apart : (n : ℕ) → nat_eq n (suc n) ≡ false
  apart zero = eqb-zero-suc zero
  apart (suc n) = eqb-suc-suc n (suc n) ∙ apart n

  nowhere : (ms : List Mention) → ((b : ℕ) → list_any (λ m. same_variable (named k) m.name && is_elsewhere b m.around) ms ≡ false) → (p r : Mention → Bool) → list_any (λ m. same_variable (named k) m.name && p m && r m) ms ≡ false
  nowhere [] f p r = refl
  nowhere (m ∷ ms) f p r =
      let beside = f (suc m.around.number) in
      let here = or_parts_false (same_variable (named k) m.name && is_elsewhere (suc m.around.number) m.around) (list_any (λ n. same_variable (named k) n.name && is_elsewhere (suc m.around.number) n.around) ms) beside in
      let other : same_variable (named k) m.name ≡ false = sym (next_by m.around.carried (same_variable (named k) m.name) (nat_eq m.around.number (suc m.around.number)) (apart m.around.number)) ∙ here.0 in
      ap (λ b. (b && p m && r m) || list_any (λ n. same_variable (named k) n.name && p n && r n) ms) other ∙ nowhere ms (λ b. (or_parts_false (same_variable (named k) m.name && is_elsewhere b m.around) (list_any (λ n. same_variable (named k) n.name && is_elsewhere b n.around) ms) (f b)).1) p r

  module _ (t : Tree) (e : mentions t (Declared k) ≡ false) where
    silent : Avoids (alone (Declared k)) t
    silent = avoided t e

    alone_here : (b : ℕ) → is_shared t b (named k) ≡ false
    alone_here = unshared k t silent

    undeclared : (b : ℕ) → is_declared_in t b (named k) ≡ false
    undeclared b = nowhere (program_mentions t) (λ c. (or_parts_false (is_shared_always t (named k)) (list_any (λ m. same_variable (named k) m.name && is_elsewhere c m.around) (program_mentions t)) (alone_here c)).1) (λ m. m.binds) (λ m. not (is_elsewhere b m.around))

    -- it is neither written, by a reference or a `var`, nor lexical
    taken : (always shared written lexical declared switched early around : Bool) → declared ≡ false → (always || shared || (not declared && written) || ((lexical && (not declared || switched || early)) || around)) ≡ false → (written ≡ false) × (lexical ≡ false)
    taken true h w l d sw ea ar f g = absurd (false≢true (sym g))
    taken false true w l d sw ea ar f g = absurd (false≢true (sym g))
    taken false false w l true sw ea ar f g = absurd (false≢true (sym f))
    taken false false true l false sw ea ar f g = absurd (false≢true (sym g))
    taken false false false true false sw ea ar f g = absurd (false≢true (sym g))
    taken false false false false false sw ea ar f g = (refl, refl)

    nothing_said : (list_any (is_write (named k)) (all_writes t) ≡ false) × (is_among (named k) (lexical_variables false t) ≡ false)
    nothing_said =
        taken (is_foreign_always t (named k)) (is_shared t 0 (named k) && list_any (λ m. is_write (named k) m && is_elsewhere 0 m.around) (all_writes t)) (list_any (is_write (named k)) (all_writes t)) (is_among (named k) (lexical_variables false t)) (is_declared_in t 0 (named k)) (is_among (named k) (switched t)) (is_read_early 0 (named k) (moments Read outermost t)) (is_among (named k) (params_around 0 t)) (undeclared 0) (native k t silent 0)

    unassigned : is_assigned t k ≡ false
    unassigned = (or_parts_false (list_any (is_write (named k)) (program_var_writes t)) (is_assigned t k) (sym (list_any-append (is_write (named k)) (program_var_writes t) (program_mentions t)) ∙ nothing_said.0)).1

    -- so no answer changes it, and no event shows it
    pub stays_there : (b : ℕ) → is_steady_in_body t b k ≡ true
    stays_there b = (λ i. not (unassigned i) && not (native k t silent b i))

    pub unshared_there : (b : ℕ) → not (is_shared t b (named k)) ≡ true
    unshared_there b = ap not (alone_here b)

    pub initial_there : (b : ℕ) → (is_steady_in_body t b k && not (is_among (named k) (lexical_variables false t))) ≡ true
    initial_there b = (λ i. stays_there b i && not (nothing_said.1 i))

-- ---- what is told of each symbol

-- of two lists of facts that agree where there is room and else say that nothing is known to the
-- contrary
by_room : (n s : ℕ) (here there : Bool) → (s < n → here ≡ there) → (nat_lt s n ≡ false → there ≡ true) → (not (nat_lt s n) || here) ≡ there
by_room n s here there f g = by (nat_lt s n) refl
  where
    by : (b : Bool) → nat_lt s n ≡ b → (not b || here) ≡ there
    by true e = f (ltb-true s n e)
    by false e = sym (g e)

unmentioned_by : (b : Bool) → (b ≡ true → ⊥) → b ≡ false
unmentioned_by true f = absurd (f refl)
unmentioned_by false f = refl

module _ (f : Facts) (q : Tree) (n : ℕ) (w : Told f n q) where
  room : length f.reads ≡ n
  room = told_length f n q w

  each : TellsBodies f n q
  each = bodies_told f n q w

  silent_past : (s : ℕ) → nat_lt s n ≡ false → mentions q (Declared s) ≡ false
  silent_past s h = unmentioned_by (mentions q (Declared s)) (λ e. false≢true (sym h ∙ lt-ltb s n (w.whole s e)))

  by_symbol : (p r : ℕ → Bool) → ((s : ℕ) → (not (nat_lt s n) || p s) ≡ r s) → of_symbols (λ s. is_past f s || p s) ≡ of_symbols r
  by_symbol p r h = (λ i x. both x i)
    where
      both : (x : Variable) → of_symbols (λ s. is_past f s || p s) x ≡ of_symbols r x
      both (Declared s) = ap (λ m. not (nat_lt s m) || p s) room ∙ h s
      both (Global s) = refl

  pub all_of : (b : ℕ) → told_by f b ≡ told_in q b
  all_of b =
      let steady = by_symbol (λ s. is_steady f s b) (is_steady_in_body q b) (λ s. by_room n s (is_steady f s b) (is_steady_in_body q b s) (each.steady s b) (λ h. stays_there s q (silent_past s h) b)) in
      let shown = by_symbol (λ s. is_unshared f s b) (λ s. not (is_shared q b (named s))) (λ s. by_room n s (is_unshared f s b) (not (is_shared q b (named s))) (each.unshared s b) (λ h. unshared_there s q (silent_past s h) b)) in
      let begun = by_symbol (λ s. is_initial f s b) (λ s. is_steady_in_body q b s && not (is_among (named s) (lexical_variables false q))) (λ s. by_room n s (is_initial f s b) (is_steady_in_body q b s && not (is_among (named s) (lexical_variables false q))) (each.initial s b) (λ h. initial_there s q (silent_past s h) b)) in
      (λ i. record { steady = steady i; unshared = shown i; initial = begun i; has_this = each.has_this b i })

pub tells_all : (f : Facts) (q : Tree) (n : ℕ) → Told f n q → told_by f ≡ told_in q
tells_all f q n w = (λ i b. all_of f q n w b i)

-- a context tells of the program that it knows
pub told_known : (c : TraverseCtx) (o : CompressOptions) (q : Tree) → Knows c o q → told_by c.scopes ≡ told_in q
told_known c o q k = tells_all c.scopes q (length k.told.reads) k.refreshed.told

pub ordered_known : (c : TraverseCtx) (o : CompressOptions) (q : Tree) → Knows c o q → c.options ≡ o
ordered_known c o q k = k.options

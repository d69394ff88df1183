-- Which symbols of a program are dead, as the context tells it.
use Rattle.std.proofs.Common.{◌≡◌, ◌≢◌, ℕ, zero, suc, ◌+◌, ◌<◌, ◌≤◌, Bool, true, false, List, [], ◌∷◌, ◌++◌, length, refl, sym, ap, ◌∙◌, subst, arith, true≢false, eqb-true}
use Rattle.std.proofs.lemmas.Bool.{eqb-false}
use Rattle.std.specs.Prelude.{not, nat_eq, ◌&&◌, ◌||◌, slice_index, replicate}
use Rattle.mini_model.specs.Tree.{Tree}
use Rattle.mini_laws.specs.References.{reads, writes, read_count, counts_of}
use Rattle.mini_laws.specs.Mentions.{is_among}
use Rattle.mini_laws.specs.Shared.{is_shared_always, script_tops, module_names, reached_by_arguments, caught}
use Rattle.mini_laws.specs.ScopeList.{by_symbol, seen_by_eval}
use Rattle.mini_tree.specs.declared.options.CompressOptions.{CompressOptions}
use Rattle.mini_context.specs.declared.context.TraverseCtx.{TraverseCtx}
use Rattle.mini_context.specs.Facts.{Facts, Told, shared_always}
use Rattle.mini_context.specs.Holders.{AllBelow}
use Rattle.mini_context.specs.Known.{Knows}
use Rattle.mini_context.specs.Laws.{CountsTell}
use Rattle.mini_context.specs.Tables.{mark_at, named}
use Rattle.mini_context.proofs.Known.{told_length}
use Rattle.mini_dead.specs.Pruned.{Elsewhere}
use Rattle.mini_dead.specs.Dead.{declares_otherwise, is_unreferenced, is_dead_symbol}
use Rattle.mini_dead.specs.Marked.{may_go}
use Rattle.mini_drop.specs.Symbols.{Adds, CountedAnew, DeadSymbols, ListsDead, Sound, Unseen, dead_by, unreferenced_by}

-- ---- a list of marks that grows

grown : (P : ℕ → Bool) (xs : List Bool) (b : Bool) → ((s : ℕ) → s < length xs → mark_at xs s ≡ P s) → b ≡ P (length xs) → (s : ℕ) → s < length xs + 1 → mark_at (xs ++ b ∷ []) s ≡ P s
grown P [] b f e zero h = e
grown P [] b f e (suc s) h = absurd (omega (arith, h))
grown P (x ∷ xs) b f e zero h = f 0 (omega arith)
grown P (x ∷ xs) b f e (suc s) h = grown (λ k. P (suc k)) xs b (λ k l. f (suc k) (omega (arith, l))) e s (omega (arith, h))

one_longer : (xs : List Bool) (b : Bool) → length (xs ++ b ∷ []) ≡ length xs + 1
one_longer [] b = refl
one_longer (x ∷ xs) b = omega (arith, one_longer xs b)

pub none_listed : (f : Facts) (declared : List Bool) → ListsDead f declared 0 []
none_listed f declared = record { symbols = refl; each = λ s h. absurd (omega (arith, h)) }

pub one_listed : (f : Facts) (declared : List Bool) (n : ℕ) (xs ys : List Bool) (b : Bool) → ys ≡ xs ++ b ∷ [] → b ≡ dead_by f n (mark_at declared n) → ListsDead f declared n xs → ListsDead f declared (n + 1) ys
one_listed f declared n xs ys b e g w = subst (ListsDead f declared (n + 1)) (sym e) (record {
  symbols = omega (arith, one_longer xs b, w.symbols);
  each = λ s h. grown (λ k. dead_by f k (mark_at declared k)) xs b (λ k l. w.each k (omega (arith, l, w.symbols))) (g ∙ ap (λ k. dead_by f k (mark_at declared k)) (sym w.symbols)) s (omega (arith, h, w.symbols));
})

marked_within : (xs : List Bool) (s : ℕ) → mark_at xs s ≡ true → s < length xs
marked_within [] s e = absurd (true≢false (sym e))
marked_within (x ∷ xs) zero e = omega arith
marked_within (x ∷ xs) (suc s) e = let h = marked_within xs s e in omega (arith, h)

-- ---- what the tables tell

always_shared : (f : Facts) (n : ℕ) (t : Tree) → Told f n t → (s : ℕ) → s < n → shared_always f s ≡ is_shared_always t (by_symbol s)
always_shared f n t w s h =
    ap (λ b. b || mark_at f.exchanged s || mark_at f.seen s || mark_at f.reached s || mark_at f.caught s || mark_at f.pattern_writes s) (w.looked.tops_told s h)
    ∙ ap (λ b. is_among (named s) (script_tops t) || b || mark_at f.seen s || mark_at f.reached s || mark_at f.caught s || mark_at f.pattern_writes s) (w.looked.exchanged_told s h)
    ∙ ap (λ b. is_among (named s) (script_tops t) || is_among (named s) (module_names t) || b || mark_at f.reached s || mark_at f.caught s || mark_at f.pattern_writes s) (w.looked.seen_told s h)
    ∙ ap (λ b. is_among (named s) (script_tops t) || is_among (named s) (module_names t) || is_among (named s) (seen_by_eval t) || b || mark_at f.caught s || mark_at f.pattern_writes s) (w.looked.reached_told s h)
    ∙ ap (λ b. is_among (named s) (script_tops t) || is_among (named s) (module_names t) || is_among (named s) (seen_by_eval t) || is_among (named s) (reached_by_arguments false t) || b || mark_at f.pattern_writes s) (w.looked.caught_told s h)
    ∙ ap (λ b. is_among (named s) (script_tops t) || is_among (named s) (module_names t) || is_among (named s) (seen_by_eval t) || is_among (named s) (reached_by_arguments false t) || is_among (named s) (caught t) || b) (w.looked.pattern_writes_told s h)

unreferenced : CountsTell → (f : Facts) (n : ℕ) (t : Tree) → Told f n t → (s : ℕ) → s < n → unreferenced_by f s ≡ is_unreferenced t s
unreferenced counts f n t w s h =
    ap (λ k. nat_eq k 0 && nat_eq (slice_index f.writes s) 0) (ap (λ ks. slice_index ks s) w.reads_told ∙ (counts n t s h).0)
    ∙ ap (λ k. nat_eq (read_count s t) 0 && nat_eq k 0) (ap (λ ks. slice_index ks s) w.writes_told ∙ (counts n t s h).1)

dead_told : CountsTell → (f : Facts) (n : ℕ) (t : Tree) → Told f n t → (s : ℕ) → s < n → (b : Bool) → b ≡ declares_otherwise s Elsewhere t → dead_by f s b ≡ is_dead_symbol t s
dead_told counts f n t w s h b e =
    ap (λ c. c && (not b && not (shared_always f s))) (unreferenced counts f n t w s h)
    ∙ ap (λ c. is_unreferenced t s && (not c && not (shared_always f s))) e
    ∙ ap (λ c. is_unreferenced t s && (not (declares_otherwise s Elsewhere t) && not c)) (always_shared f n t w s h)

none_marked : (n s : ℕ) → mark_at (replicate n false) s ≡ false
none_marked zero s = refl
none_marked (suc n) zero = refl
none_marked (suc n) (suc s) = none_marked n s

many : (n : ℕ) → length {A = Bool} (replicate n false) ≡ n
many zero = refl
many (suc n) = ap suc (many n)

pub all_listed : CountsTell → (c : TraverseCtx) (t : Tree) → ((o : CompressOptions) × Knows c o t) → (n : ℕ) (xs ys zs : List Bool) → n ≡ length c.scopes.reads → xs ≡ replicate n false → Adds (λ s. declares_otherwise s Elsewhere t) xs ys → ListsDead c.scopes ys n zs → DeadSymbols t zs
all_listed counts c t (o, k) n xs ys zs e f a w =
    let room : length k.told.reads ≡ n = sym (told_length c.scopes (length k.told.reads) t k.refreshed.told) ∙ sym e in
    let told : Told c.scopes n t = subst (λ m. Told c.scopes m t) room k.refreshed.told in
    let long : length xs ≡ n = ap length f ∙ many n in
    record {
      each = λ s h.
          let l : s < n = omega (arith, h, w.symbols) in
          w.each s l ∙ dead_told counts c.scopes n t told s l (mark_at ys s) (a.each s (omega (arith, l, long)) ∙ ap (λ us. mark_at us s || declares_otherwise s Elsewhere t) f ∙ ap (λ b. b || declares_otherwise s Elsewhere t) (none_marked n s));
      whole = subst (λ m. AllBelow m t) (sym w.symbols) told.whole;
    }

-- ---- a plan

pub none_unseen : (S : ℕ → Bool) (f : Facts) → true ≡ true → Unseen S f 0
none_unseen S f e s h = absurd (omega (arith, h))

pub one_unseen : (S : ℕ → Bool) (f : Facts) (n : ℕ) (a b : Bool) → b ≡ not (S n && shared_always f n) → (a ≡ true → Unseen S f n) → (a && b) ≡ true → Unseen S f (n + 1)
one_unseen S f n true b e u g s h p = by (nat_eq s n) refl
  where
    hidden : (c d : Bool) → b ≡ not (c && d) → c ≡ true → d ≡ false
    hidden true true q r = absurd (true≢false (sym g ∙ q))
    hidden true false q r = refl
    hidden false d q r = absurd (true≢false (sym r))

    by : (c : Bool) → nat_eq s n ≡ c → shared_always f s ≡ false
    by true q = let l : s ≡ n = eqb-true s n q in ap (shared_always f) l ∙ hidden (S n) (shared_always f n) e (ap S (sym l) ∙ p)
    by false q = let l : s ≢ n = eqb-false s n q in u refl s (omega (arith, h, l)) p
one_unseen S f n false b e u g s h p = absurd (true≢false (sym g))

pub plan_sound : (c : TraverseCtx) (t : Tree) → ((o : CompressOptions) × Knows c o t) → (n : ℕ) (set : List Bool) (rounds : List ℕ) → n ≡ length c.scopes.reads → length set ≤ n → Unseen (mark_at set) c.scopes n → may_go (mark_at set) (slice_index rounds) Elsewhere t ≡ true → Sound set rounds t
plan_sound c t (o, k) n set rounds e l u g =
    let room : length k.told.reads ≡ n = sym (told_length c.scopes (length k.told.reads) t k.refreshed.told) ∙ sym e in
    let told : Told c.scopes n t = subst (λ m. Told c.scopes m t) room k.refreshed.told in
    record {
      unseen = λ s p. let h : s < n = omega (arith, l, marked_within set s p) in sym (always_shared c.scopes n t told s h) ∙ u s h p;
      goes = g;
    }

pub plan_told : (c : TraverseCtx) (t : Tree) → ((o : CompressOptions) × Knows c o t) → (n : ℕ) (set : List Bool) (rounds : List ℕ) → n ≡ length c.scopes.reads → (a b d : Bool) → (a ≡ true → length set ≤ n) → (b ≡ true → Unseen (mark_at set) c.scopes n) → d ≡ may_go (mark_at set) (slice_index rounds) Elsewhere t → ((a && b) && d) ≡ true → Sound set rounds t
plan_told c t k n set rounds e true true true f g h p = plan_sound c t k n set rounds e (f refl) (g refl) (sym h)
plan_told c t k n set rounds e true true false f g h p = absurd (true≢false (sym p))
plan_told c t k n set rounds e true false d f g h p = absurd (true≢false (sym p))
plan_told c t k n set rounds e false b d f g h p = absurd (true≢false (sym p))

-- ---- counts

pub counted_anew : (c : TraverseCtx) (t : Tree) → ((o : CompressOptions) × Knows c o t) → CountedAnew c.scopes t
counted_anew c t (o, k) =
    let long = sym (told_length c.scopes (length k.told.reads) t k.refreshed.told) in
    record {
      reads = subst (λ n. c.scopes.reads ≡ counts_of reads n t) long k.refreshed.told.reads_told;
      writes = subst (λ n. c.scopes.writes ≡ counts_of writes n t) long k.refreshed.told.writes_told;
    }

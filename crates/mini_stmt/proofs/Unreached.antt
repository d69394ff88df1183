-- 77: what never runs after a jump.
use Rattle.std.proofs.Common.{◌≡◌, ℕ, zero, suc, ◌+◌, ◌<◌, ◌≤◌, Bool, true, false, List, [], ◌∷◌, refl, sym, ap, ◌∙◌, subst, inl, inr, true≢false, length, arith}
use Rattle.std.specs.Prelude.{not, ◌&&◌, ◌||◌, if◌then◌else◌, Some, None, Result, Ok, Err, IfOk}
use Rattle.std.proofs.lemmas.Bool.{and_parts, false≢true}
use Rattle.mini_model.specs.declared.kind.VariableDeclarationKind.TheVariants.{Var}
use Rattle.mini_model.specs.declared.memory.OutOfMemory.{OutOfMemory}
use Rattle.mini_model.specs.declared.name.Name.{Name}
use Rattle.mini_model.specs.Tree.{Tree, Trees, none, ◌▸◌, count, child_or_absent, absent}
use Rattle.mini_model.specs.Paths.{append}
use Rattle.mini_node.specs.Children.{first_children, rest_children, without}
use Rattle.mini_node.specs.Walks.{from_first, next_child, no_rest, append_none, append_one}
use Rattle.mini_rows.specs.Switches.{Switches}
use Rattle.mini_rows.specs.Lists.{declaration, binding, declarator, is_terminated, is_unscoped, encloses, bare_declarators, declared_bare, left_behind, is_lighter_left, Row77Unreached}
use Rattle.mini_stmt.specs.declared.rewrites.drop_unreached.Going.{Going}
use Rattle.mini_stmt.specs.declared.rewrites.drop_unreached.Going.TheVariants.{Statements}
use Rattle.mini_stmt.specs.MinimizeStatements.{Changes}
use Rattle.mini_stmt.specs.DropUnreached.{is_loose, may_go, remains, is_lighter, goes, left_of, all_left, some_go, after_jump, stays_behind, is_reached, PutLeft, Left, left_behind_all, LeftBehind, EndsAt, Dropped}
use Rattle.mini_stmt.proofs.Stepping.{neighbours_in, steps_on, changes_on}

-- ---- what is left of a statement

pub left_none : (xs : List Name) → count (bare_declarators xs) ≡ 0 → bare_declarators xs ≡ declared_bare xs
left_none [] h = refl
left_none (x ∷ xs) h = absurd (omega (arith, h))

pub left_some : (xs : List Name) → 0 < count (bare_declarators xs) → declaration Var (bare_declarators xs) ▸ none ≡ declared_bare xs
left_some [] h = absurd (omega (arith, h))
left_some (x ∷ xs) h = refl

pub lists_joined : (a b c : Trees) → append (append a b) c ≡ append a (append b c)
lists_joined none b c = refl
lists_joined (t ▸ a) b c = ap (λ r. t ▸ r) (lists_joined a b c)

stays_by : (g : Going) (before : Trees) (t : Tree) (after : Trees) → goes g t ≡ false → after ≡ append before (t ▸ none) → PutLeft g before t after false
stays_by g before t after e f = record { is = f ∙ ap (λ b. append before (if b then remains g t else (t ▸ none))) (sym e); said = sym e }

pub stays_put : (g : Going) (before : Trees) (t : Tree) (after : Trees) → may_go g t ≡ false → after ≡ append before (t ▸ none) → PutLeft g before t after false
stays_put g before t after e = stays_by g before t after (ap (λ b. b && is_lighter g t) e)

pub heavy_put : (g : Going) (before : Trees) (t : Tree) (after : Trees) → may_go g t ≡ true → is_lighter g t ≡ false → after ≡ append before (t ▸ none) → PutLeft g before t after false
heavy_put g before t after e f = stays_by g before t after (ap (λ b. b && is_lighter g t) e ∙ f)

pub gone_put : (g : Going) (before : Trees) (t : Tree) (after : Trees) → may_go g t ≡ true → is_lighter g t ≡ true → after ≡ append before (remains g t) → PutLeft g before t after true
gone_put g before t after e f k =
    let all : goes g t ≡ true = ap (λ b. b && is_lighter g t) e ∙ f in
    record { is = k ∙ ap (λ b. append before (if b then remains g t else (t ▸ none))) (sym all); said = sym all }

pub names_turn : (made after : Trees) (x : Name) (rest all : List Name) → append made (bare_declarators (x ∷ rest)) ≡ bare_declarators all → after ≡ append made (declarator (binding x) absent ▸ none) → append after (bare_declarators rest) ≡ bare_declarators all
names_turn made after x rest all e f = ap (λ r. append r (bare_declarators rest)) f ∙ append_one made (declarator (binding x) absent) (bare_declarators rest) ∙ e

pub names_end : (made : Trees) (rest all : List Name) → length rest ≡ 0 → append made (bare_declarators rest) ≡ bare_declarators all → made ≡ bare_declarators all
names_end made [] all e f = sym (append_none made) ∙ f
names_end made (x ∷ rest) all e f = absurd (omega (arith, e))

-- ---- of all statements

or_both : (a b c : Bool) → (a || b) || c ≡ a || (b || c)
or_both true b c = refl
or_both false b c = refl

twice : (b : Bool) → not (not b) ≡ b
twice true = refl
twice false = refl

or_nothing : (a : Bool) → a || false ≡ a
or_nothing true = refl
or_nothing false = refl

-- as the list goes on
pub left_turn : (g : Going) (before after : Trees) (t : Tree) (rest whole : Trees) (changed went : Bool) → append before (all_left g (t ▸ rest)) ≡ all_left g whole → (changed || some_go g (t ▸ rest)) ≡ some_go g whole → PutLeft g before t after went → (append after (all_left g rest) ≡ all_left g whole) × (((changed || went) || some_go g rest) ≡ some_go g whole)
left_turn g before after t rest whole changed went e f p = (
  ap (λ x. append x (all_left g rest)) p.is ∙ lists_joined before (left_of g t) (all_left g rest) ∙ e,
  or_both changed went (some_go g rest) ∙ ap (λ b. changed || (b || some_go g rest)) p.said ∙ f,
)

pub left_end : (g : Going) (before whole : Trees) (changed : Bool) → append before none ≡ all_left g whole → (changed || false) ≡ some_go g whole → Left g whole before changed
left_end g before whole changed e f = record { is = sym (append_none before) ∙ e; said = sym (or_nothing changed) ∙ f }

one_stays : (g : Going) (t : Tree) (ts : Trees) → goes g t ≡ false → all_left g ts ≡ ts → append (left_of g t) (all_left g ts) ≡ t ▸ ts
one_stays g t ts e f = ap (λ b. append (if b then remains g t else (t ▸ none)) (all_left g ts)) e ∙ ap (λ us. t ▸ us) f

neither : (a b : Bool) → a || b ≡ false → (a ≡ false) × (b ≡ false)
neither true b e = absurd (true≢false e)
neither false b e = (refl, e)

all_stay : (g : Going) (ts : Trees) → some_go g ts ≡ false → all_left g ts ≡ ts
all_stay g none e = refl
all_stay g (t ▸ ts) e = let (own, rest) = neither (goes g t) (some_go g ts) e in one_stays g t ts own (all_stay g ts rest)

-- ---- steps of the row

gone_row : (first : Tree) (between : Trees) (t : Tree) → is_terminated first ≡ true → goes Statements t ≡ true → Row77Unreached (first ▸ append between (t ▸ none)) (first ▸ append between (left_behind t))
gone_row first between t e f =
    let (may, lighter) = and_parts (is_loose t) (is_lighter_left t) f in
    let (unscoped, dropped) = and_parts (is_unscoped t) (encloses false t) may in
    record { first = first; between = between; gone = t; terminated = e; unscoped = unscoped; dropped = dropped; lighter = lighter; shape = refl; written = refl }

-- whatever a row of one statement behind a jump changes, what may go there changes
module _ (g : Going) (Step : Trees → Trees → Bool → Type 0) (same : (ts : Trees) → Step ts ts false) (joined : (t u v : Trees) (a b : Bool) → Step t u a → Step u v b → Step t v (a || b)) (before : Trees) (first : Tree) where
  abbrev pub behind : Trees → Trees
  behind ts = append before (first ▸ ts)

  abbrev pub Goes : Type 0
  Goes = (between : Trees) (t : Tree) (ts : Trees) → goes g t ≡ true → Step (behind (append between (t ▸ ts))) (behind (append (append between (remains g t)) ts)) true

  module _ (gone_step : Goes) where
    one_left : (between : Trees) (t : Tree) (ts : Trees) → ((more : Trees) → Step (behind (append more ts)) (behind (append more (all_left g ts))) (some_go g ts)) → (b : Bool) → goes g t ≡ b → Step (behind (append between (t ▸ ts))) (behind (append between (append (left_of g t) (all_left g ts)))) (goes g t || some_go g ts)
    one_left between t ts k true f =
        let left = ap (λ b. if b then remains g t else (t ▸ none)) f in
        subst (λ c. Step (behind (append between (t ▸ ts))) (behind (append between (append (left_of g t) (all_left g ts)))) (c || some_go g ts)) (sym f)
        (subst (λ x. Step (behind (append between (t ▸ ts))) (behind x) true) (lists_joined between (remains g t) (all_left g ts) ∙ ap (λ x. append between (append x (all_left g ts))) (sym left))
        (joined (behind (append between (t ▸ ts))) (behind (append (append between (remains g t)) ts)) (behind (append (append between (remains g t)) (all_left g ts))) true (some_go g ts) (gone_step between t ts f) (k (append between (remains g t)))))
    one_left between t ts k false f =
        let left = ap (λ b. if b then remains g t else (t ▸ none)) f in
        subst (λ c. Step (behind (append between (t ▸ ts))) (behind (append between (append (left_of g t) (all_left g ts)))) (c || some_go g ts)) (sym f)
        (subst (λ x. Step (behind (append between (t ▸ ts))) (behind x) (some_go g ts)) (append_one between t (all_left g ts) ∙ ap (λ x. append between (append x (all_left g ts))) (sym left))
        (subst (λ x. Step (behind x) (behind (append (append between (t ▸ none)) (all_left g ts))) (some_go g ts)) (append_one between t ts) (k (append between (t ▸ none)))))

    left_changes : (between ts : Trees) → Step (behind (append between ts)) (behind (append between (all_left g ts))) (some_go g ts)
    left_changes between none = same (behind (append between none))
    left_changes between (t ▸ ts) = one_left between t ts (λ more. left_changes more ts) (goes g t) refl

-- and so of a whole list
module _ (g : Going) (Step : Trees → Trees → Bool → Type 0) (same : (ts : Trees) → Step ts ts false) (joined : (t u v : Trees) (a b : Bool) → Step t u a → Step u v b → Step t v (a || b)) (gone_step : (before : Trees) (first : Tree) → is_terminated first ≡ true → Goes g Step same joined before first) where
  steps_from : (before ts : Trees) → Step (append before ts) (append before (left_behind_all g ts)) (some_go g (after_jump ts))
  steps_from before none = same (append before none)
  steps_from before (t ▸ ts) = by (is_terminated t) refl (subst (λ x. Step x (append (append before (t ▸ none)) (left_behind_all g ts)) (some_go g (after_jump ts))) (append_one before t ts) (steps_from (append before (t ▸ none)) ts))
    where
      by : (b : Bool) → is_terminated t ≡ b → Step (append before (t ▸ ts)) (append (append before (t ▸ none)) (left_behind_all g ts)) (some_go g (after_jump ts)) → Step (append before (t ▸ ts)) (append before (if is_terminated t then t ▸ all_left g ts else t ▸ left_behind_all g ts)) (some_go g (if is_terminated t then ts else after_jump ts))
      by true e k =
          subst (λ b. Step (append before (t ▸ ts)) (append before (if b then t ▸ all_left g ts else t ▸ left_behind_all g ts)) (some_go g (if b then ts else after_jump ts))) (sym e)
          (left_changes g Step same joined before t (gone_step before t e) none ts)
      by false e k =
          subst (λ b. Step (append before (t ▸ ts)) (append before (if b then t ▸ all_left g ts else t ▸ left_behind_all g ts)) (some_go g (if b then ts else after_jump ts))) (sym e)
          (subst (λ x. Step (append before (t ▸ ts)) x (some_go g (after_jump ts))) (append_one before t (left_behind_all g ts)) k)

  pub behind_steps : (ts us : Trees) (changed : Bool) → LeftBehind g ts us changed → Step ts us changed
  behind_steps ts us changed l =
      subst (λ x. Step ts x changed) (sym l.is) (subst (Step ts (left_behind_all g ts)) (sym (l.said ∙ twice (some_go g (after_jump ts)))) (steps_from none ts))

none_left : (g : Going) (ts : Trees) → some_go g (after_jump ts) ≡ false → left_behind_all g ts ≡ ts
none_left g none e = refl
none_left g (t ▸ ts) e = by (is_terminated t) refl (λ f. none_left g ts f)
  where
    by : (b : Bool) → is_terminated t ≡ b → (some_go g (after_jump ts) ≡ false → left_behind_all g ts ≡ ts) → (if is_terminated t then t ▸ all_left g ts else t ▸ left_behind_all g ts) ≡ t ▸ ts
    by true f k = ap (λ b. if b then t ▸ all_left g ts else t ▸ left_behind_all g ts) f ∙ ap (λ r. t ▸ r) (all_stay g ts (ap (λ b. some_go g (if b then ts else after_jump ts)) (sym f) ∙ e))
    by false f k = ap (λ b. if b then t ▸ all_left g ts else t ▸ left_behind_all g ts) f ∙ ap (λ r. t ▸ r) (k (ap (λ b. some_go g (if b then ts else after_jump ts)) (sym f) ∙ e))

-- where nothing goes, it stays
pub behind_same : (g : Going) (ts us : Trees) (changed : Bool) → LeftBehind g ts us changed → changed ≡ false → us ≡ ts
behind_same g ts us changed l c = l.is ∙ none_left g ts (sym (l.said ∙ twice (some_go g (after_jump ts))) ∙ c)

pub behind_stays : (g : Going) (ts us : Trees) (changed : Bool) → LeftBehind g ts us changed → changed ≡ false → stays_behind g us ≡ true
behind_stays g ts us changed l c = ap (stays_behind g) (behind_same g ts us changed l c) ∙ sym (twice (stays_behind g ts)) ∙ ap not (sym l.said ∙ c)

-- ---- what declares nothing in its list

unreached_step : (o : Switches) → o.sequences ≡ true → (before : Trees) (first : Tree) → is_terminated first ≡ true → Goes Statements (Changes o) (λ ts. refl) (changes_on o) before first
unreached_step o s before first e between t ts f =
    subst (λ x. Changes o (append before (first ▸ x)) (append before (first ▸ append (append between (left_behind t)) ts)) true) (append_one between t ts)
    (steps_on o (append before (first ▸ append (append between (t ▸ none)) ts)) (append before (first ▸ append (append between (left_behind t)) ts)) (neighbours_in o before (first ▸ append between (t ▸ none)) (first ▸ append between (left_behind t)) ts (inr (inl (s, inr (inr (inr (gone_row first between t e f))))))))

dropped : (t u : Trees) (changed : Bool) → LeftBehind Statements t u changed → Dropped t u changed
dropped t u changed l = record {
  changes = λ o s. behind_steps Statements (Changes o) (λ ts. refl) (changes_on o) (unreached_step o s) t u changed l;
  same = behind_same Statements t u changed l;
  reached = behind_stays Statements t u changed l;
}

pub drops : (t u : Trees) (r : Result Bool OutOfMemory) → IfOk r (LeftBehind Statements t u) → IfOk r (Dropped t u)
drops t u (Err e) l = l
drops t u (Ok b) l = dropped t u b l

-- ---- after the first jump

parted : (ts : Trees) (i : ℕ) → i < count ts → ts ≡ append (first_children i ts) (child_or_absent ts i ▸ rest_children (suc i) ts)
parted none i h = absurd (omega (arith, h))
parted (t ▸ none) zero h = refl
parted (t ▸ (u ▸ ts)) zero h = refl
parted (t ▸ ts) (suc i) h = ap (λ us. t ▸ us) (parted ts i (omega (arith, h)))

pub some_rest : (ts tail : Trees) (i : ℕ) → i < count ts → tail ≡ rest_children i ts → 0 < count tail
some_rest ts tail i h e = let is = ap count (e ∙ next_child ts i h) in omega (arith, is)

-- the list is parted there, and what is left of the rest comes after it
pub record Parted (ts : Trees) (i : ℕ) (front tail : Trees) (first : Tree) (rest left new : Trees) : Type 0 where
  pub front_is : front ≡ first_children i ts
  pub tail_is : tail ≡ rest_children i ts
  pub first_is : first ≡ child_or_absent tail 0
  pub rest_is : rest ≡ without tail 0
  pub new_is : new ≡ append (append front (first ▸ none)) left

-- what comes after one of them is shorter
shorter : (ts : Trees) (i : ℕ) → i < count ts → count (rest_children (suc i) ts) < count ts
shorter none i h = absurd (omega (arith, h))
shorter (t ▸ ts) zero h = let same = ap count (from_first ts) in omega (arith, same)
shorter (t ▸ ts) (suc i) h = let less = shorter ts i (omega (arith, h)) in omega (arith, less)

-- what comes before it stays
behind_at : (g : Going) (ts : Trees) (i : ℕ) → i < count ts → is_terminated (child_or_absent ts i) ≡ true → after_jump ts ≡ rest_children (suc i) ts → left_behind_all g ts ≡ append (first_children i ts) (child_or_absent ts i ▸ all_left g (rest_children (suc i) ts))
behind_at g none i h e f = absurd (omega (arith, h))
behind_at g (t ▸ ts) zero h e f = ap (λ b. if b then t ▸ all_left g ts else t ▸ left_behind_all g ts) e ∙ ap (λ r. t ▸ all_left g r) (sym (from_first ts))
behind_at g (t ▸ ts) (suc i) h e f = by (is_terminated t) refl (λ k. behind_at g ts i (omega (arith, h)) e k)
  where
    by : (b : Bool) → is_terminated t ≡ b → (after_jump ts ≡ rest_children (suc i) ts → left_behind_all g ts ≡ append (first_children i ts) (child_or_absent ts i ▸ all_left g (rest_children (suc i) ts))) → (if is_terminated t then t ▸ all_left g ts else t ▸ left_behind_all g ts) ≡ t ▸ append (first_children i ts) (child_or_absent ts i ▸ all_left g (rest_children (suc i) ts))
    by true k l =
        let less = shorter ts i (omega (arith, h)) in
        let whole : ts ≡ rest_children (suc i) ts = ap (λ b. if b then ts else after_jump ts) (sym k) ∙ f in
        absurd (omega (arith, less, ap count whole))
    by false k l = ap (λ b. if b then t ▸ all_left g ts else t ▸ left_behind_all g ts) k ∙ ap (λ r. t ▸ r) (l (ap (λ b. if b then ts else after_jump ts) (sym k) ∙ f))

module _ (g : Going) (ts : Trees) (i : ℕ) (front tail : Trees) (first : Tree) (rest left new : Trees) (changed : Bool) (e : EndsAt ts (Some i)) (p : Parted ts i front tail first rest left new) (l : Left g rest left changed) where
  abbrev here : Tree
  here = child_or_absent ts i

  abbrev later : Trees
  later = rest_children (suc i) ts

  whole_tail : tail ≡ here ▸ later
  whole_tail = p.tail_is ∙ next_child ts i e.0

  rest_same : rest ≡ later
  rest_same = p.rest_is ∙ ap (λ x. without x 0) whole_tail

  made : new ≡ append (first_children i ts) (here ▸ all_left g later)
  made =
      p.new_is ∙ append_one front first left
      ∙ (λ k. append (p.front_is k) ((p.first_is ∙ ap (λ x. child_or_absent x 0) whole_tail) k ▸ (l.is ∙ ap (all_left g) rest_same) k))

  pub after_dropped : LeftBehind g ts new changed
  after_dropped = record {
    is = made ∙ sym (behind_at g ts i e.0 e.1 e.2);
    said = l.said ∙ ap (some_go g) (rest_same ∙ sym e.2) ∙ sym (twice (some_go g (after_jump ts)));
  }

pub none_dropped : (g : Going) (ts : Trees) → EndsAt ts None → LeftBehind g ts ts false
none_dropped g ts e = let stays = ap (some_go g) e in record { is = sym (none_left g ts stays); said = sym (twice false) ∙ ap (λ b. not (not b)) (sym stays) }

-- where it is
pub jump_found : (ts : Trees) (i : ℕ) → i < count ts → is_terminated (child_or_absent ts i) ≡ true → after_jump (rest_children i ts) ≡ after_jump ts → EndsAt ts (Some i)
jump_found ts i h e inv = (h, e, sym inv ∙ ap after_jump (next_child ts i h) ∙ ap (λ b. if b then rest_children (suc i) ts else after_jump (rest_children (suc i) ts)) e)

pub jump_later : (ts : Trees) (i : ℕ) → i < count ts → is_terminated (child_or_absent ts i) ≡ false → after_jump (rest_children i ts) ≡ after_jump ts → after_jump (rest_children (i + 1) ts) ≡ after_jump ts
jump_later ts i h e inv =
    let next : i + 1 ≡ suc i = omega arith in
    ap (λ k. after_jump (rest_children k ts)) next ∙ sym (ap (λ b. if b then rest_children (suc i) ts else after_jump (rest_children (suc i) ts)) e) ∙ sym (ap after_jump (next_child ts i h)) ∙ inv

pub no_jump : (ts : Trees) (i : ℕ) → count ts ≤ i → after_jump (rest_children i ts) ≡ after_jump ts → EndsAt ts None
no_jump ts i h inv = sym inv ∙ ap after_jump (no_rest ts i h)

-- ---- the row reads what goes

some_in : (g : Going) (before : Trees) (t : Tree) (after : Trees) → goes g t ≡ true → some_go g (append before (t ▸ after)) ≡ true
some_in g none t after e = ap (λ b. b || some_go g after) e
some_in g (c ▸ before) t after e = ap (λ b. goes g c || b) (some_in g before t after e) ∙ always (goes g c)
  where
    always : (b : Bool) → b || true ≡ true
    always true = refl
    always false = refl

behind_one : (g : Going) (before : Trees) (first : Tree) (between : Trees) (t : Tree) (after : Trees) → goes g t ≡ true → some_go g (after_jump (append before (first ▸ append between (t ▸ after)))) ≡ true → (b : Bool) → some_go g (if b then append before (first ▸ append between (t ▸ after)) else after_jump (append before (first ▸ append between (t ▸ after)))) ≡ true
behind_one g before first between t after f k true = ap (some_go g) (sym (lists_joined before (first ▸ between) (t ▸ after))) ∙ some_in g (append before (first ▸ between)) t after f
behind_one g before first between t after f k false = k

some_behind : (g : Going) (before : Trees) (first : Tree) (between : Trees) (t : Tree) (after : Trees) → is_terminated first ≡ true → goes g t ≡ true → some_go g (after_jump (append before (first ▸ append between (t ▸ after)))) ≡ true
some_behind g none first between t after e f = ap (λ b. some_go g (if b then append between (t ▸ after) else after_jump (append between (t ▸ after)))) e ∙ some_in g between t after f
some_behind g (c ▸ before) first between t after e f = behind_one g before first between t after f (some_behind g before first between t after e f) (is_terminated c)

pub and_true : (a b : Bool) → a ≡ true → b ≡ true → a && b ≡ true
and_true true b e f = f
and_true false b e f = absurd (false≢true e)

pub row_goes : (g : Going) (ts before : Trees) (first : Tree) (between : Trees) (t : Tree) (read after : Trees) → is_terminated first ≡ true → goes g t ≡ true → read ≡ first ▸ append between (t ▸ none) → ts ≡ append before (append read after) → stays_behind g ts ≡ false
row_goes g ts before first between t read after ends gone f e =
    let is = e ∙ ap (λ x. append before (append x after)) f ∙ ap (λ x. append before (first ▸ x)) (append_one between t after) in
    ap (λ x. not (some_go g (after_jump x))) is ∙ ap not (some_behind g before first between t after ends gone)

pub unreached_goes : (ts before read put after : Trees) → Row77Unreached read put → ts ≡ append before (append read after) → is_reached ts ≡ false
unreached_goes ts before read put after r e =
    row_goes Statements ts before r.first r.between r.gone read after r.terminated (and_true (is_loose r.gone) (is_lighter_left r.gone) (and_true (is_unscoped r.gone) (encloses false r.gone) r.unscoped r.dropped) r.lighter) r.shape e

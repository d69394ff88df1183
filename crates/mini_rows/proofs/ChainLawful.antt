-- What is written for a conditional that asks whether a name is null or undefined means the same, and keeps all that a program has to keep.
use Rattle.std.proofs.Common.{◌≡◌, ◌+◌, ◌<◌, ◌≤◌, Bool, true, false, List, [], ◌∷◌, refl, sym, ap, subst, ◌∙◌, true≢false, arith}
use Rattle.std.specs.Prelude.{◌&&◌, is_none, codes, if◌then◌else◌}
use Rattle.std.proofs.lemmas.Bool.{and_parts}
use Rattle.mini_model.specs.declared.name.Name.{Name}
use Rattle.mini_model.specs.declared.operator.BinaryOperator.TheVariants as binary_operator
use Rattle.mini_model.specs.declared.place.Position.TheVariants.{Expr}
use Rattle.mini_model.specs.declared.seat.Seat.{Seat}
use Rattle.mini_model.specs.Tree.{Tree, none, ◌▸◌, listed, identifier, null_literal}
use Rattle.mini_model.specs.Position.{branch_seat, callee_seat, object_seat, chained_seat}
use Rattle.mini_model.specs.Weight.{same_text, weight}
use Rattle.mini_accept.specs.WellShaped.{a_link, a_chain, an_argument, a_label, Slot, one, many, fits, has_optional, is_not_positive_number}
use Rattle.mini_laws.specs.Expressions.{is_eval}
use Rattle.mini_laws.specs.Naming.{EvalName, PlainName, kind_of, kind_unresolved, kind_declared, summary}
use Rattle.mini_laws.specs.Rows.{SameAt}
use Rattle.mini_kept.specs.KeepsShapes.{AskedAlike}
use Rattle.mini_kept.specs.KeepsFrames.{is_body_slot}
use Rattle.mini_kept.proofs.Bools.{both}
use Rattle.mini_kept.proofs.Expressions.{expression, TakesExpression, expression_taken, of_conditional}
use Rattle.mini_kept.proofs.FrameRows.{expression_slot}
use Rattle.mini_terms.specs.Reading.{is_item}
use Rattle.mini_rows.specs.Arranged.{KeptAt, Vanishes}
use Rattle.mini_rows.specs.Sketches.{Parts, Sketch, filled, rearranges_expression}
use Rattle.mini_rows.specs.Spellings.{binary}
use Rattle.mini_rows.specs.Chains.{Link, a_member, a_computed, a_call, linked, spine, chain, if_nullish, Row46Chain}
use Rattle.mini_rows.proofs.ArrangedExpressions.{expressions_arranged_freely}
use Rattle.mini_rows.proofs.ChainHoles.{sketch, trees_of, lists_of, behind, themselves, Stand, filled_sketch, second_dropped, asked_before, asked_after, chained, before_rearranged, after_rearranged}
use Rattle.mini_terms.specs.Exact.{by_value as behind_zero, kept_by_value}
use Rattle.mini_rows.proofs.ChainGuards.{by_guard, kept_same, kept_read, kept_number, kept_fits, kept_light, behind_sketch, behind_rearranged}
use Rattle.mini_rows.proofs.ChainRuns.{chain_same}
use Rattle.mini_rows.proofs.ChoiceRuns.{Tells, conditional_tells}
use Rattle.mini_rows.proofs.SpellWeights.{falls_by}

-- ---- it means the same

-- a name that is declared and isn't `eval` is no direct call
pub plain_name : (x : Name) → is_none x.symbol ≡ false → same_text x.spelling (codes "eval") ≡ false → is_eval (kind_of x) ≡ false
plain_name x d h = ap (λ b. is_eval (if b then kind_unresolved x.spelling else kind_declared x.spelling)) d ∙ ap (λ b. is_eval (if b then EvalName else PlainName)) h

pub chain_row_same : (s : Seat) (n w : Tree) → Row46Chain s n w → SameAt (Expr s) n w
chain_row_same s n w r =
    let x : Tree = identifier r.name in
    let t : Tree = if_nullish r.equal r.name r.missing (spine false x r.last r.others) in
    subst (λ t. SameAt (Expr s) t w) (sym r.shape) (subst (SameAt (Expr s) t) (sym r.written)
    (record { by = λ e D X q f. kept_same e D X s t (spine true x r.last r.others) (item_there r.equal r.name r.missing (spine false x r.last r.others)) (if_tells r.equal r.name r.missing (spine false x r.last r.others)) (λ z. chain_same r.equal r.name r.missing r.last r.others r.declared (plain_name r.name r.declared r.indirect) r.undefined r.calm e z) q f }))
  where
    item_there : (equal : Bool) (x : Name) (a b : Tree) → is_item (if_nullish equal x a b) ≡ true
    item_there true x a b = refl
    item_there false x a b = refl

    if_tells : (equal : Bool) (x : Name) (a b : Tree) → Tells (if_nullish equal x a b)
    if_tells true x a b = conditional_tells (binary binary_operator.Equality (identifier x) null_literal) a b
    if_tells false x a b = conditional_tells (binary binary_operator.Inequality (identifier x) null_literal) b a

if_read : (equal : Bool) (x : Name) (a b u : Tree) → summary (if_nullish equal x a b) ≡ summary (chain u)
if_read true x a b u = refl
if_read false x a b u = refl

pub chain_row_read : (s : Seat) (n w : Tree) → Row46Chain s n w → summary n ≡ summary w
chain_row_read s n w r = ap summary r.shape ∙ if_read r.equal r.name r.missing (spine false (identifier r.name) r.last r.others) (spine true (identifier r.name) r.last r.others) ∙ kept_read s.guard (spine true (identifier r.name) r.last r.others) ∙ sym (ap summary r.written)

-- ---- where it stands

module _ (strict : Bool) where
  abbrev Fits : Tree → Type 0
  Fits t = fits strict expression t ≡ true

  abbrev pub Links : Tree → Type 0
  Links t = fits strict (one a_link) t ≡ true

  -- over another link, which may be optional
  pub link_fits : (o : Bool) (l : Link) (t u : Tree) → Fits (linked false l t) → (Fits t → Links u) → Links (linked o l u)
  link_fits o (a_member k) t u e f = let (here, rest) = and_parts (fits strict expression t) (fits strict (one a_label) k && true) e in both (fits strict (one a_link) u) (fits strict (one a_label) k && true) (f here) rest
  link_fits o (a_computed k) t u e f = let (here, rest) = and_parts (fits strict expression t) (fits strict expression k && true) e in both (fits strict (one a_link) u) (fits strict expression k && true) (f here) rest
  link_fits o (a_call ts) t u e f = let (here, rest) = and_parts (fits strict expression t) (fits strict (many an_argument) (listed ts) && true) e in both (fits strict (one a_link) u) (fits strict (many an_argument) (listed ts) && true) (f here) rest

  spine_fits : (x : Tree) (l : Link) (ls : List Link) → Fits (spine false x l ls) → Links (spine true x l ls)
  spine_fits x l [] e = link_fits true l x x e (λ f. expression_taken strict (one a_link) x tt f)
  spine_fits x l (m ∷ ls) e = link_fits false l (spine false x m ls) (spine true x m ls) e (spine_fits x m ls)

  ends_chain : (o : Bool) (l : Link) (t : Tree) → Links (linked o l t) → fits strict (one a_chain) (linked o l t) ≡ true
  ends_chain o (a_member k) t e = e
  ends_chain o (a_computed k) t e = e
  ends_chain o (a_call ts) t e = e

  pub spine_ends : (x : Tree) (l : Link) (ls : List Link) → Links (spine true x l ls) → fits strict (one a_chain) (spine true x l ls) ≡ true
  spine_ends x l [] e = ends_chain true l x e
  spine_ends x l (m ∷ ls) e = ends_chain false l (spine true x m ls) e

link_optional : (l : Link) (t : Tree) → has_optional (linked true l t) ≡ true
link_optional (a_member k) t = refl
link_optional (a_computed k) t = refl
link_optional (a_call ts) t = refl

pub spine_optional : (x : Tree) (l : Link) (ls : List Link) → has_optional (spine true x l ls) ≡ true
spine_optional x l [] = link_optional l x
spine_optional x (a_member k) (m ∷ ls) = spine_optional x m ls
spine_optional x (a_computed k) (m ∷ ls) = spine_optional x m ls
spine_optional x (a_call ts) (m ∷ ls) = spine_optional x m ls

chain_fits : (strict : Bool) (x : Tree) (l : Link) (ls : List Link) → fits strict expression (spine false x l ls) ≡ true → fits strict expression (chain (spine true x l ls)) ≡ true
chain_fits strict x l ls e = both (has_optional (spine true x l ls)) (fits strict (one a_chain) (spine true x l ls) && true) (spine_optional x l ls) (both (fits strict (one a_chain) (spine true x l ls)) true (spine_ends strict x l ls (spine_fits strict x l ls e)) refl)

-- of the conditional, its last branch
of_asked : (strict : Bool) (s : Slot) (equal : Bool) (x : Name) (a b : Tree) → fits strict s (if_nullish equal x a b) ≡ true → TakesExpression s × (fits strict expression b ≡ true)
of_asked strict s true x a b e = let (takes, (test, first, last)) = of_conditional strict s (binary binary_operator.Equality (identifier x) null_literal) a b e in (takes, last)
of_asked strict s false x a b e = let (takes, (test, first, last)) = of_conditional strict s (binary binary_operator.Inequality (identifier x) null_literal) b a e in (takes, first)

pub chain_row_fits : (q : Seat) (n w : Tree) → Row46Chain q n w → (strict : Bool) (s : Slot) → fits strict s n ≡ true → fits strict s w ≡ true
chain_row_fits q n w r strict s e =
    let x : Tree = identifier r.name in
    let (takes, last) = of_asked strict s r.equal r.name r.missing (spine false x r.last r.others) (subst (λ t. fits strict s t ≡ true) r.shape e) in
    subst (λ t. fits strict s t ≡ true) (sym r.written) (expression_taken strict s (kept_by_value q.guard (chain (spine true x r.last r.others))) takes (kept_fits strict q.guard (spine true x r.last r.others) (chain_fits strict x r.last r.others last)))

pub chain_row_slot : (q : Seat) (n w : Tree) → Row46Chain q n w → (strict : Bool) (s : Slot) → fits strict s n ≡ true → is_body_slot (Expr q) s ≡ true
chain_row_slot q n w r strict s e = expression_slot (Expr q) s (of_asked strict s r.equal r.name r.missing (spine false (identifier r.name) r.last r.others) (subst (λ t. fits strict s t ≡ true) r.shape e)).0

if_asked : (q : Seat) (equal : Bool) (x : Name) (a b u : Tree) → is_not_positive_number u ≡ true → AskedAlike (Expr q) (if_nullish equal x a b) u
if_asked q true x a b u h = record {
  absent = λ e. absurd (true≢false (sym e));
  body = λ e. absurd (true≢false (sym e));
  optional = λ e. absurd (true≢false (sym e));
  number = λ asks e. h;
  spelled = λ s e. absurd (cc e);
  plain = refl;
}
if_asked q false x a b u h = record {
  absent = λ e. absurd (true≢false (sym e));
  body = λ e. absurd (true≢false (sym e));
  optional = λ e. absurd (true≢false (sym e));
  number = λ asks e. h;
  spelled = λ s e. absurd (cc e);
  plain = refl;
}

pub chain_row_asked : (q : Seat) (n w : Tree) → Row46Chain q n w → AskedAlike (Expr q) n w
chain_row_asked q n w r = subst (λ t. AskedAlike (Expr q) t w) (sym r.shape) (subst (AskedAlike (Expr q) (if_nullish r.equal r.name r.missing (spine false (identifier r.name) r.last r.others))) (sym r.written) (if_asked q r.equal r.name r.missing (spine false (identifier r.name) r.last r.others) (kept_by_value q.guard (chain (spine true (identifier r.name) r.last r.others))) (kept_number q.guard (spine true (identifier r.name) r.last r.others))))

-- ---- the same parts

module _ (q : Seat) (n w : Tree) (r : Row46Chain q n w) (gone : Vanishes r.missing) where
  abbrev named : Tree
  named = identifier r.name

  abbrev ps : Parts
  ps = record { trees = named ▸ r.missing ▸ trees_of r.last r.others; lists = none ∷ none ∷ lists_of r.last r.others }

  stand : Stand ps.trees ps.lists 2 r.last r.others
  stand = behind named none (r.missing ▸ trees_of r.last r.others) (none ∷ lists_of r.last r.others) 1 r.last r.others (behind r.missing none (trees_of r.last r.others) (lists_of r.last r.others) 0 r.last r.others (themselves r.last r.others))

  abbrev holds : Tree
  holds = chain (spine true named r.last r.others)

  abbrev in_chain : Sketch
  in_chain = chained (sketch true 2 r.last r.others)

  filled_chain : holds ≡ filled ps in_chain
  filled_chain = sym (ap chain (filled_sketch ps true named refl 2 r.last r.others stand))

  -- the conditional, and a sketch of what is written for it
  kept_as : (s t : Sketch) (u : Tree) → rearranges_expression second_dropped s t ≡ true → n ≡ filled ps s → u ≡ filled ps t → KeptAt (Expr q) n u
  kept_as s t u h e f = expressions_arranged_freely second_dropped ps (tt, tt, (gone, tt)) s t h q n u e f

  kept_from : (s : Sketch) → rearranges_expression second_dropped s in_chain ≡ true → n ≡ filled ps s → KeptAt (Expr q) n w
  kept_from s h e =
      subst (KeptAt (Expr q) n) (sym r.written)
      (by_guard (KeptAt (Expr q) n) q.guard (spine true named r.last r.others) (λ v. kept_as s in_chain holds h e filled_chain) (kept_as s (behind_sketch in_chain) (behind_zero holds) (behind_rearranged second_dropped s in_chain h) e (ap behind_zero filled_chain)))

  kept_by : (equal : Bool) → n ≡ if_nullish equal r.name r.missing (spine false named r.last r.others) → KeptAt (Expr q) n w
  kept_by true e = kept_from (asked_before (sketch false 2 r.last r.others)) (before_rearranged r.last r.others) (e ∙ sym (ap (λ t. if_nullish true r.name r.missing t) (filled_sketch ps false named refl 2 r.last r.others stand)))
  kept_by false e = kept_from (asked_after (sketch false 2 r.last r.others)) (after_rearranged r.last r.others) (e ∙ sym (ap (λ t. if_nullish false r.name r.missing t) (filled_sketch ps false named refl 2 r.last r.others stand)))

  pub chain_row_kept : KeptAt (Expr q) n w
  chain_row_kept = kept_by r.equal r.shape

-- ---- lighter

spine_light : (q : Seat) (x : Tree) (l : Link) (ls : List Link) → weight (Expr q) (spine true x l ls) ≤ weight (Expr q) (spine false x l ls) + 4
spine_light q x (a_member k) [] = omega arith
spine_light q x (a_computed k) [] = omega arith
spine_light q x (a_call ts) [] = omega arith
spine_light q x (a_member k) (m ∷ ls) = let below = spine_light object_seat x m ls in omega (arith, below)
spine_light q x (a_computed k) (m ∷ ls) = let below = spine_light object_seat x m ls in omega (arith, below)
spine_light q x (a_call ts) (m ∷ ls) = let below = spine_light callee_seat x m ls in omega (arith, below)

-- in a chain as in a branch
link_moved : (s : Seat) (o : Bool) (l : Link) (t : Tree) → weight (Expr (chained_seat s)) (linked o l t) ≤ weight (Expr (branch_seat s)) (linked o l t)
link_moved s o (a_member k) t = omega arith
link_moved s o (a_computed k) t = omega arith
link_moved s o (a_call ts) t = omega arith

pub spine_moved : (s : Seat) (o : Bool) (x : Tree) (l : Link) (ls : List Link) → weight (Expr (chained_seat s)) (spine o x l ls) ≤ weight (Expr (branch_seat s)) (spine o x l ls)
spine_moved s o x l [] = link_moved s o l x
spine_moved s o x l (m ∷ ls) = link_moved s false l (spine o x m ls)

asked_heavy : (s : Seat) (equal : Bool) (x : Name) (a b : Tree) → weight (Expr (branch_seat s)) b + 14 ≤ weight (Expr s) (if_nullish equal x a b)
asked_heavy s true x a b = omega arith
asked_heavy s false x a b = omega arith

pub chain_row_falls : (s : Seat) (equal : Bool) (x : Name) (m : Tree) (l : Link) (ls : List Link) → weight (Expr s) (kept_by_value s.guard (chain (spine true (identifier x) l ls))) < weight (Expr s) (if_nullish equal x m (spine false (identifier x) l ls))
chain_row_falls s equal x m l ls =
    let light = kept_light s (spine true (identifier x) l ls) (λ r. spine_moved r true (identifier x) l ls) in
    let more = spine_light (branch_seat s) (identifier x) l ls in
    let heavy = asked_heavy s equal x m (spine false (identifier x) l ls) in
    omega (arith, light, more, heavy)

pub chain_row_lighter : (s : Seat) (n w : Tree) → Row46Chain s n w → weight (Expr s) w < weight (Expr s) n
chain_row_lighter s n w r = falls_by (Expr s) n w _ _ r.shape r.written (chain_row_falls s r.equal r.name r.missing r.last r.others)

-- What goes into the text of a template is what a row says, and where nothing does no row makes it lighter.
use Rattle.std.proofs.Common.{◌≡◌, ℕ, zero, suc, ◌<◌, ◌≤◌, ◌^◌, Bool, true, false, List, [], ◌∷◌, length, Option, Some, None, inl, inr, refl, sym, ap, subst, ◌∙◌, true≢false, ltb-true, arith}
use Rattle.std.specs.Prelude.{◌+◌, ◌-◌, ◌*◌, ◌&&◌, ◌||◌, nat_eq, nat_lt, is_some, unwrap_or, IfSome, if◌then◌else◌}
use Rattle.std.proofs.lemmas.Bool.{and_parts, le-leb, leb-true, lt-ltb, eqb-true, eq-eqb, false≢true}
use Rattle.mini_model.specs.declared.operator.BinaryOperator.{BinaryOperator}
use Rattle.mini_model.specs.declared.operator.BinaryOperator.TheVariants.{Addition}
use Rattle.mini_model.specs.declared.place.Position.{Position}
use Rattle.mini_model.specs.declared.place.Position.TheVariants.{Expr}
use Rattle.mini_model.specs.declared.seat.Seat.{Seat}
use Rattle.mini_model.specs.declared.shape.Shape.TheVariants as shape
use Rattle.mini_model.specs.Paths.{append}
use Rattle.mini_model.specs.Position.{whole_seat, binary_operand_seat}
use Rattle.mini_model.specs.Tree.{Tree, Trees, node, none, ◌▸◌, count, shape_of, children, child_or_absent, first_or_absent}
use Rattle.mini_model.specs.Weight.{weight, capped}
use Rattle.mini_node.specs.Children.{part, rest_children, with_inserted, without}
use Rattle.mini_node.specs.Kinds.{binary_operator}
use Rattle.mini_node.specs.Made.{binary_is}
use Rattle.mini_node.specs.Walks.{from_first, next_child, no_rest, append_one}
use Rattle.mini_laws.specs.Conversion.{makes, to_text}
use Rattle.mini_laws.specs.Value.{Value}
use Rattle.mini_terms.specs.Calculated.{operand_value}
use Rattle.mini_terms.specs.Const.{made, text_of}
use Rattle.mini_terms.specs.Folds.{is_effect_free}
use Rattle.mini_terms.specs.Kind.{is_primitive, kind as kind_of}
use Rattle.mini_terms.specs.Parts.{leaves_nothing}
use Rattle.mini_rows.specs.Spellings.{binary}
use Rattle.mini_rows.specs.Templates.{Piece, piece, pieces, template, pair, spelled, told as told_in, Row18, Row5Both, Row5After, Row5Before, Row5, Row6, TemplateRow, TemplateContracts}
use Rattle.mini_rows.proofs.TemplateRuns.{count_append}
use Rattle.mini_rows.proofs.TemplateWeights as weights
use Rattle.mini_tree.specs.Rule.{Applied, Moves}
use Rattle.mini_tree.proofs.Reaching.{moves_once}
use Rattle.mini_fold.specs.FoldOperands.{is_string_kind}
use Rattle.mini_fold.specs.FoldSequences.{last_of, but_last}
use Rattle.mini_fold.specs.FoldTemplates.{is_piece, piece_in, raw_in, are_pieces, is_template, texts_of, parts_of, is_whole, spare, growth, pays, hole, joined_at, is_sewn, sewn_by, sewn, sewn_at, any_sewn, sewn_texts, inlined, mark, plus_sign, paired, both_written, is_added, tail_by, tail_piece, with_tail, besides, head_seat, head_by, head_piece, with_head, made_by, sum_by, sum_written, may_join, is_settled, behind_written, rejoined, nested_written, added_by, added_written, Gives, Rests, PartsRest, first_written}
use Rattle.mini_fold.proofs.Operands.{string_kind}
use Rattle.mini_fold.proofs.Sequences.{last_append}

both_true : (b c : Bool) → b ≡ true → c ≡ true → b && c ≡ true
both_true true c e f = f
both_true false c e f = e

nothing : {A : Type 0} {a : A} {B : Type 0} → None ≡ Some a → B
nothing e = cc e

-- ---- what is told of a part

pub told_by : (t : Tree) (v : Value) (s : List ℕ) → Some v ≡ operand_value t → makes s ≡ to_text v → Some s ≡ told_in t
told_by t v s e f = ap made f ∙ ap text_of e

pub told_none : (t : Tree) → None ≡ operand_value t → None ≡ told_in t
told_none t e = ap text_of e

-- ---- pieces and templates

piece_is : (t : Tree) → is_piece t ≡ true → t ≡ piece (piece_in t)
piece_is (node (shape.TemplateElement is_tail raw (Some cooked)) [] zero none) e = refl
piece_is (node (shape.TemplateElement is_tail raw None) xs n ts) e = absurd (false≢true e)
piece_is t e = absurd (false≢true e)

abbrev list_of : Trees → List Piece
list_of none = []
list_of (t ▸ ts) = piece_in t ∷ list_of ts

pieces_are : (ts : Trees) → are_pieces ts ≡ true → ts ≡ pieces (list_of ts)
pieces_are none e = refl
pieces_are (t ▸ ts) e =
    let (first, rest) = and_parts (is_piece t) (are_pieces ts) e in
    λ i. piece_is t first i ▸ pieces_are ts rest i

list_count : (ts : Trees) → length (list_of ts) ≡ count ts
list_count none = refl
list_count (t ▸ ts) = ap suc (list_count ts)

template_is : (t : Tree) → is_template t ≡ true → t ≡ template (texts_of t) (parts_of t)
template_is (node shape.TemplateLiteral [] zero (node shape.Listed [] zero ps ▸ (node shape.Listed [] zero ts ▸ none))) e = refl
template_is (node shape.TemplateLiteral [] zero (node shape.Listed [] zero ps ▸ (u ▸ none))) e = absurd (false≢true e)
template_is (node shape.TemplateLiteral [] zero (u ▸ (v ▸ none))) e = absurd (false≢true e)
template_is t e = absurd (false≢true e)

same_truth : (b c : Bool) → (b ≡ true → c ≡ true) → (c ≡ true → b ≡ true) → b ≡ c
same_truth true c f g = sym (f refl)
same_truth false true f g = g refl
same_truth false false f g = refl

pub one_more : (a b : ℕ) → (nat_lt b a && nat_eq (a - b) 1) ≡ nat_eq a (b + 1)
one_more a b = same_truth (nat_lt b a && nat_eq (a - b) 1) (nat_eq a (b + 1)) there back
  where
    there : nat_lt b a && nat_eq (a - b) 1 ≡ true → nat_eq a (b + 1) ≡ true
    there e =
        let (less, one) = and_parts (nat_lt b a) (nat_eq (a - b) 1) e in
        let below = ltb-true b a less in
        let gap = eqb-true (a - b) 1 one in
        eq-eqb a (b + 1) (omega (arith, below, gap))

    back : nat_eq a (b + 1) ≡ true → nat_lt b a && nat_eq (a - b) 1 ≡ true
    back e =
        let same = eqb-true a (b + 1) e in
        both_true (nat_lt b a) (nat_eq (a - b) 1) (lt-ltb b a (omega (arith, same))) (eq-eqb (a - b) 1 (omega (arith, same)))

-- ---- a look for a part that goes

module _ (spared : ℕ) where
  no_parts : (ts : Trees) → any_sewn spared ts none ≡ false
  no_parts none = refl
  no_parts (t ▸ ts) = refl

  next_sewn : (texts parts : Trees) (i : ℕ) → count texts ≡ count parts + 1 → i < count parts → any_sewn spared (rest_children i texts) (rest_children i parts) ≡ (is_some (sewn_at spared texts parts i) || any_sewn spared (rest_children (i + 1) texts) (rest_children (i + 1) parts))
  next_sewn texts parts i h k =
      let here : i < count texts = omega (arith, h, k) in
      let next : suc i < count texts = omega (arith, h, k) in
      let more : suc i ≡ i + 1 = omega arith in
      (λ j. any_sewn spared (next_child texts i here j) (next_child parts i k j))
      ∙ ap (λ x. is_some (sewn spared (child_or_absent texts i) (child_or_absent parts i) (first_or_absent x)) || any_sewn spared (rest_children (suc i) texts) (rest_children (suc i) parts)) (next_child texts (suc i) next)
      ∙ ap (λ m. is_some (sewn spared (child_or_absent texts i) (child_or_absent parts i) (child_or_absent texts m)) || any_sewn spared (rest_children m texts) (rest_children m parts)) more

  pub stops : (texts parts : Trees) (i : ℕ) (m : Tree) → count texts ≡ count parts + 1 → i < count parts → Some m ≡ sewn_at spared texts parts i → any_sewn spared (rest_children i texts) (rest_children i parts) ≡ any_sewn spared texts parts → true ≡ any_sewn spared texts parts
  stops texts parts i m h k e inv = ap (λ o. is_some o || any_sewn spared (rest_children (i + 1) texts) (rest_children (i + 1) parts)) e ∙ sym (next_sewn texts parts i h k) ∙ inv

  pub goes_on : (texts parts : Trees) (i : ℕ) → count texts ≡ count parts + 1 → i < count parts → None ≡ sewn_at spared texts parts i → any_sewn spared (rest_children i texts) (rest_children i parts) ≡ any_sewn spared texts parts → any_sewn spared (rest_children (i + 1) texts) (rest_children (i + 1) parts) ≡ any_sewn spared texts parts
  goes_on texts parts i h k e inv = ap (λ o. is_some o || any_sewn spared (rest_children (i + 1) texts) (rest_children (i + 1) parts)) e ∙ sym (next_sewn texts parts i h k) ∙ inv

  pub ends : (texts parts : Trees) (i : ℕ) → count parts ≤ i → any_sewn spared (rest_children i texts) (rest_children i parts) ≡ any_sewn spared texts parts → false ≡ any_sewn spared texts parts
  ends texts parts i h inv = sym (no_parts (rest_children i texts)) ∙ ap (any_sewn spared (rest_children i texts)) (sym (no_rest parts i h)) ∙ inv

  pub begins : (texts parts : Trees) → any_sewn spared (rest_children 0 texts) (rest_children 0 parts) ≡ any_sewn spared texts parts
  begins texts parts = λ j. any_sewn spared (from_first texts j) (from_first parts j)

-- ---- a look at all pieces

pub piece_missing : (ts : Trees) (i : ℕ) → i < count ts → false ≡ is_piece (child_or_absent ts i) → are_pieces (rest_children i ts) ≡ are_pieces ts → false ≡ are_pieces ts
piece_missing ts i h e inv = ap (λ b. b && are_pieces (rest_children (suc i) ts)) e ∙ sym (ap are_pieces (next_child ts i h)) ∙ inv

pub piece_there : (ts : Trees) (i : ℕ) → i < count ts → true ≡ is_piece (child_or_absent ts i) → are_pieces (rest_children i ts) ≡ are_pieces ts → are_pieces (rest_children (i + 1) ts) ≡ are_pieces ts
piece_there ts i h e inv =
    let next : i + 1 ≡ suc i = omega arith in
    ap (λ k. are_pieces (rest_children k ts)) next ∙ ap (λ b. b && are_pieces (rest_children (suc i) ts)) e ∙ sym (ap are_pieces (next_child ts i h)) ∙ inv

pub all_there : (ts : Trees) (i : ℕ) → count ts ≤ i → are_pieces (rest_children i ts) ≡ are_pieces ts → true ≡ are_pieces ts
all_there ts i h inv = sym (ap are_pieces (no_rest ts i h)) ∙ inv

pub pieces_begin : (ts : Trees) → are_pieces (rest_children 0 ts) ≡ are_pieces ts
pieces_begin ts = ap are_pieces (from_first ts)

-- where one is taken out of more, another stands there
pub room_left : (ts : Trees) (i : ℕ) → i + 1 < count ts → i < count (without ts i)
room_left none i h = absurd (omega (arith, h))
room_left (t ▸ ts) zero h = omega (arith, h)
room_left (t ▸ ts) (suc i) h = let rest = room_left ts i (omega (arith, h)) in omega (arith, rest)

-- ---- a template round one of its parts

record Split (texts parts : Trees) (i : ℕ) : Type 0 where
  before : List Piece
  after : List Piece
  earlier : Trees
  later : Trees
  starts : length before ≡ count earlier
  stops : length after ≡ count later
  texts_are : texts ≡ append (pieces before) (piece (piece_in (child_or_absent texts i)) ▸ (piece (piece_in (child_or_absent texts (suc i))) ▸ pieces after))
  parts_are : parts ≡ append earlier (child_or_absent parts i ▸ later)
  put : (m : Tree) → sewn_texts i m texts ≡ append (pieces before) (m ▸ pieces after)
  left : without parts i ≡ append earlier later

split_more : (a t : Tree) (texts parts : Trees) (i : ℕ) → is_piece a ≡ true → Split texts parts i → Split (a ▸ texts) (t ▸ parts) (suc i)
split_more a t texts parts i first r = record {
  before = piece_in a ∷ r.before;
  after = r.after;
  earlier = t ▸ r.earlier;
  later = r.later;
  starts = let rest = r.starts in omega (arith, rest);
  stops = r.stops;
  texts_are = λ i. piece_is a first i ▸ r.texts_are i;
  parts_are = ap (λ us. t ▸ us) r.parts_are;
  put = λ m. λ i. piece_is a first i ▸ r.put m i;
  left = ap (λ us. t ▸ us) r.left;
}

split : (texts parts : Trees) (i : ℕ) → count texts ≡ count parts + 1 → are_pieces texts ≡ true → i < count parts → Split texts parts i
split none parts i h e k = absurd (omega (arith, h))
split (a ▸ texts) none i h e k = absurd (omega (arith, k))
split (a ▸ none) (t ▸ parts) i h e k = absurd (omega (arith, h))
split (a ▸ (b ▸ texts)) (t ▸ parts) zero h e k =
    let (first, rest) = and_parts (is_piece a) (are_pieces (b ▸ texts)) e in
    let (second, others) = and_parts (is_piece b) (are_pieces texts) rest in
    let counts = list_count texts in
    let same = pieces_are texts others in record {
      before = [];
      after = list_of texts;
      earlier = none;
      later = parts;
      starts = refl;
      stops = omega (arith, h, counts);
      texts_are = λ i. piece_is a first i ▸ (piece_is b second i ▸ same i);
      parts_are = refl;
      put = λ m. ap (λ us. m ▸ us) same;
      left = refl;
    }
split (a ▸ texts) (t ▸ parts) (suc i) h e k =
    let (first, rest) = and_parts (is_piece a) (are_pieces texts) e in
    split_more a t texts parts i first (split texts parts i (omega (arith, h)) rest (omega (arith, k)))

-- ---- weights

spare_is : (s : Seat) (k : ℕ) → spare s (suc k) ≡ weights.spare s k
spare_is s k = go (nat_eq (suc k) 1) (nat_eq k 0) s.eq_left refl refl
  where
    go : (b c left : Bool) → nat_eq (suc k) 1 ≡ b → nat_eq k 0 ≡ c → (if b then (if left then 2 else 1) else 0) ≡ (if c then 1 else 0) + (if (left && c) || false then 1 else 0)
    go true true true e f = refl
    go true true false e f = refl
    go true false left e f = let one = eqb-true (suc k) 1 e in absurd (true≢false (sym (eq-eqb k 0 (omega (arith, one))) ∙ f))
    go false true left e f = let none = eqb-true k 0 f in absurd (true≢false (sym (eq-eqb (suc k) 1 (omega (arith, none))) ∙ e))
    go false false true e f = refl
    go false false false e f = refl

spare_small : (s : Seat) (n : ℕ) → spare s n ≤ 2
spare_small s n = go (nat_eq n 1) s.eq_left
  where
    go : (b left : Bool) → (if b then (if left then 2 else 1) else 0) ≤ 2
    go true true = omega arith
    go true false = omega arith
    go false left = omega arith

paid : (besides grown w : ℕ) → pays besides grown (capped w) ≡ true → 2 * grown ≤ w + besides
paid besides grown w e =
    let least = leb-true grown (capped (capped w + besides) - grown) e in
    omega (arith, least)

pays_for : (besides grown w : ℕ) → w + besides < 2 ^ 64 → 2 * grown ≤ w + besides → pays besides grown (capped w) ≡ true
pays_for besides grown w fits e = le-leb grown (capped (capped w + besides) - grown) (omega (arith, fits, e))

-- ---- what a row says

module _ (s : Seat) (n w : Tree) (r : Row18 n w) where
  abbrev made_raw : List ℕ
  made_raw = (pair (pair r.first (spelled r.text)) r.second).raw

  abbrev grown : ℕ
  grown = growth (length made_raw) (length r.first.raw) (length r.second.raw)

  abbrev others : ℕ
  others = count (append r.earlier r.later)

  parts_counted : count (append r.earlier (r.part ▸ r.later)) ≡ suc others
  parts_counted = let one = count_append r.earlier (r.part ▸ r.later) in let other = count_append r.earlier r.later in omega (arith, one, other)

  falls : pays (hole (spare s (suc others))) grown (capped (weight (Expr whole_seat) r.part)) ≡ true → weight (Expr s) w < weight (Expr s) n
  falls e =
      let whole = weights.inlined_weighs s n w r in
      let same = spare_is s others in
      let less = paid (hole (spare s (suc others))) grown (weight (Expr whole_seat) r.part) e in
      let few = spare_small s (suc others) in
      omega (arith, whole, same, less, few)

  falls_at : (k : ℕ) → k ≡ suc others → pays (hole (spare s k)) grown (capped (weight (Expr whole_seat) r.part)) ≡ true → weight (Expr s) w < weight (Expr s) n
  falls_at k h e = falls (subst (λ j. pays (hole (spare s j)) grown (capped (weight (Expr whole_seat) r.part)) ≡ true) h e)

  pays_here : weight (Expr s) n < 2 ^ 64 → weight (Expr s) w < weight (Expr s) n → pays (hole (spare s (suc others))) grown (capped (weight (Expr whole_seat) r.part)) ≡ true
  pays_here small less =
      let whole = weights.inlined_weighs s n w r in
      let same = spare_is s others in
      let few = spare_small s (suc others) in
      let heavy = weights.inlined_heavy s n w r in
      pays_for (hole (spare s (suc others))) grown (weight (Expr whole_seat) r.part) (omega (arith, small, heavy)) (omega (arith, whole, same, less, few))

-- ---- what goes

sewn_with : (spared : ℕ) (a t b m : Tree) → Some m ≡ sewn spared a t b → (text : List ℕ) × ((told_in t ≡ Some text) × ((is_sewn spared a t (joined_at a text b).raw b ≡ true) × (m ≡ piece (joined_at a text b))))
sewn_with spared a t b m e = go (told_in t) refl e
  where
    by : (text : List ℕ) (c : Bool) → told_in t ≡ Some text → is_sewn spared a t (joined_at a text b).raw b ≡ c → Some m ≡ (if c then Some (piece (joined_at a text b)) else None) → (text : List ℕ) × ((told_in t ≡ Some text) × ((is_sewn spared a t (joined_at a text b).raw b ≡ true) × (m ≡ piece (joined_at a text b))))
    by text true k h e = let same : m ≡ piece (joined_at a text b) = cc e in (text, (k, (h, same)))
    by text false k h e = nothing (sym e)

    go : (o : Option (List ℕ)) → told_in t ≡ o → Some m ≡ sewn_by spared a t o b → (text : List ℕ) × ((told_in t ≡ Some text) × ((is_sewn spared a t (joined_at a text b).raw b ≡ true) × (m ≡ piece (joined_at a text b))))
    go (Some text) k e = by text (is_sewn spared a t (joined_at a text b).raw b) k refl e
    go None k e = nothing (sym e)

module _ (s : Seat) (t : Tree) (i : ℕ) (m : Tree) (is : is_whole t ≡ true) (k : i < count (parts_of t)) (e : Some m ≡ sewn_at (spare s (count (parts_of t))) (texts_of t) (parts_of t) i) where
  abbrev a : Tree
  a = child_or_absent (texts_of t) i

  abbrev b : Tree
  b = child_or_absent (texts_of t) (suc i)

  abbrev part_here : Tree
  part_here = child_or_absent (parts_of t) i

  inlined_contracts : TemplateContracts (Expr s) t (inlined i m t)
  inlined_contracts =
      let (kind, rest) = and_parts (is_template t) (nat_eq (count (texts_of t)) (count (parts_of t) + 1) && are_pieces (texts_of t)) is in
      let (counts, all) = and_parts (nat_eq (count (texts_of t)) (count (parts_of t) + 1)) (are_pieces (texts_of t)) rest in
      let next : i + 1 ≡ suc i = omega arith in
      let found : Some m ≡ sewn (spare s (count (parts_of t))) a part_here b = e ∙ ap (λ j. sewn (spare s (count (parts_of t))) a part_here (child_or_absent (texts_of t) j)) next in
      let (text, (known, (goes, same))) = sewn_with (spare s (count (parts_of t))) a part_here b m found in
      let (dropped, less) = and_parts (leaves_nothing part_here) (pays (hole (spare s (count (parts_of t)))) (growth (length (joined_at a text b).raw) (length (raw_in (shape_of a))) (length (raw_in (shape_of b)))) (capped (weight (Expr whole_seat) part_here))) goes in
      let r : Split (texts_of t) (parts_of t) i = split (texts_of t) (parts_of t) i (eqb-true (count (texts_of t)) (count (parts_of t) + 1) counts) all k in
      let row : Row18 t (inlined i m t) = record {
        before = r.before;
        first = piece_in a;
        second = piece_in b;
        after = r.after;
        earlier = r.earlier;
        part = part_here;
        later = r.later;
        text = text;
        starts = r.starts;
        ends = r.stops;
        known = known;
        dropped = dropped;
        shape = template_is t kind ∙ (λ j. template (r.texts_are j) (r.parts_are j));
        written = (λ j. template (r.put m j) (r.left j)) ∙ ap (λ x. template (append (pieces r.before) (x ▸ pieces r.after)) (append r.earlier r.later)) same;
      } in
      let many : count (parts_of t) ≡ suc (others s t (inlined i m t) row) = ap count r.parts_are ∙ parts_counted s t (inlined i m t) row in
      record { row = inl row; lighter = falls_at s t (inlined i m t) row (count (parts_of t)) many less }

  pub inlined_moves : Moves Gives (Expr s) t (inlined i m t)
  inlined_moves = moves_once Gives (Expr s) t (inlined i m t) inlined_contracts

-- ---- where no row makes it lighter

or_true : (b c : Bool) → c ≡ true → b || c ≡ true
or_true true c e = refl
or_true false c e = e

sewn_there : (spared : ℕ) (a t b : Tree) (text : List ℕ) → told_in t ≡ Some text → is_sewn spared a t (joined_at a text b).raw b ≡ true → is_some (sewn spared a t b) ≡ true
sewn_there spared a t b text k e = ap (λ o. is_some (sewn_by spared a t o b)) k ∙ ap (λ c. is_some (if c then Some (piece (joined_at a text b)) else None)) e

any_found : (spared : ℕ) (before : List Piece) (p q : Piece) (after : List Piece) (earlier : Trees) (t : Tree) (later : Trees) → length before ≡ count earlier → is_some (sewn spared (piece p) t (piece q)) ≡ true → any_sewn spared (append (pieces before) (piece p ▸ (piece q ▸ pieces after))) (append earlier (t ▸ later)) ≡ true
any_found spared [] p q after none t later h e = ap (λ b. b || any_sewn spared (piece q ▸ pieces after) later) e
any_found spared (b ∷ before) p q after (u ▸ earlier) t later h e = or_true _ (any_sewn spared (append (pieces before) (piece p ▸ (piece q ▸ pieces after))) (append earlier (t ▸ later))) (any_found spared before p q after earlier t later (omega (arith, h)) e)
any_found spared [] p q after (u ▸ earlier) t later h e = absurd (omega (arith, h))
any_found spared (b ∷ before) p q after none t later h e = absurd (omega (arith, h))

all_pieces : (ps : List Piece) → are_pieces (pieces ps) ≡ true
all_pieces [] = refl
all_pieces (p ∷ ps) = all_pieces ps

pub pieces_before : (ps : List Piece) (ts : Trees) → are_pieces ts ≡ true → are_pieces (append (pieces ps) ts) ≡ true
pieces_before [] ts e = e
pieces_before (p ∷ ps) ts e = pieces_before ps ts e

pieces_count : (ps : List Piece) → count (pieces ps) ≡ length ps
pieces_count [] = refl
pieces_count (p ∷ ps) = ap suc (pieces_count ps)

module _ (ps qs : List Piece) (ts : Trees) where
  whole_is : length ps + length qs ≡ count ts + 1 → is_whole (template (append (pieces ps) (pieces qs)) ts) ≡ true
  whole_is h =
      let many = count_append (pieces ps) (pieces qs) in
      let front = pieces_count ps in
      let back = pieces_count qs in
      both_true (nat_eq (count (append (pieces ps) (pieces qs))) (count ts + 1)) (are_pieces (append (pieces ps) (pieces qs))) (eq-eqb (count (append (pieces ps) (pieces qs))) (count ts + 1) (omega (arith, h, many, front, back))) (pieces_before ps (pieces qs) (all_pieces qs))

module _ (s : Seat) (t w : Tree) (r : Row18 t w) where
  abbrev texts : Trees
  texts = append (pieces r.before) (piece r.first ▸ (piece r.second ▸ pieces r.after))

  abbrev parts : Trees
  parts = append r.earlier (r.part ▸ r.later)

  row_whole : is_whole t ≡ true
  row_whole =
      let few = count_append r.earlier (r.part ▸ r.later) in
      let starts = r.starts in
      let ends = r.ends in
      ap is_whole r.shape ∙ whole_is r.before (r.first ∷ (r.second ∷ r.after)) parts (omega (arith, few, starts, ends))

  row_sewn : weight (Expr s) t < 2 ^ 64 → weight (Expr s) w < weight (Expr s) t → any_sewn (spare s (count (parts_of t))) (texts_of t) (parts_of t) ≡ true
  row_sewn small less =
      let pays = pays_here s t w r small less in
      ap (λ x. any_sewn (spare s (count (parts_of x))) (texts_of x) (parts_of x)) r.shape
      ∙ ap (λ k. any_sewn (spare s k) texts parts) (parts_counted s t w r)
      ∙ any_found (spare s (suc (others s t w r))) r.before r.first r.second r.after r.earlier r.part r.later r.starts
      (sewn_there (spare s (suc (others s t w r))) (piece r.first) r.part (piece r.second) r.text r.known (both_true (leaves_nothing r.part) _ r.dropped pays))

pub rests : (s : Seat) (t : Tree) → is_whole t ≡ true → false ≡ any_sewn (spare s (count (parts_of t))) (texts_of t) (parts_of t) → PartsRest (Expr s) t
rests s t is e small w r less = true≢false (sym (row_sewn s t w r small less) ∙ sym e)

pub no_whole : (s : Seat) (t : Tree) → is_whole t ≡ false → PartsRest (Expr s) t
no_whole s t e small w r less = true≢false (sym (row_whole s t w r) ∙ e)

-- elsewhere there is nothing to do
pub elsewhere : (p : Position) (t w : Tree) → ((s : Seat) → p ≡ Expr s → ⊥) → weight p t < 2 ^ 64 → TemplateContracts p t w → ⊥
elsewhere (Expr s) t w h small c = h s refl
elsewhere p t w h small c = absurd c.row

-- ---- where the code stands

pub whole_counts : (t : Tree) → is_whole t ≡ true → count (texts_of t) ≡ count (parts_of t) + 1
whole_counts t e =
    let (kind, rest) = and_parts (is_template t) (nat_eq (count (texts_of t)) (count (parts_of t) + 1) && are_pieces (texts_of t)) e in
    eqb-true (count (texts_of t)) (count (parts_of t) + 1) (and_parts (nat_eq (count (texts_of t)) (count (parts_of t) + 1)) (are_pieces (texts_of t)) rest).0

pub found_in : {A : Type 0} (P : A → Type 0) (o : Option A) (x : A) → o ≡ Some x → IfSome o P → P x
found_in P o x e h = subst (λ y. IfSome y P) e h

module _ (s : Seat) (t : Tree) (is : is_whole t ≡ true) (spared : ℕ) (us vs : Trees) (f : spared ≡ spare s (count (parts_of t))) (g : us ≡ texts_of t) (h : vs ≡ parts_of t) where
  same_look : (k : ℕ → Trees → Trees → Bool) → k spared us vs ≡ k (spare s (count (parts_of t))) (texts_of t) (parts_of t)
  same_look k = λ j. k (f j) (g j) (h j)

  pub moved : (i : ℕ) (m : Tree) → i < count vs → Some m ≡ sewn_at spared us vs i → Moves Gives (Expr s) t (inlined i m t)
  moved i m k e = inlined_moves s t i m is (subst (λ ws. i < count ws) h k) (e ∙ (λ j. sewn_at (f j) (g j) (h j) i))

  pub at_rest : {A : Type 0} (o : Option A) → o ≡ None → is_some o ≡ any_sewn spared us vs → PartsRest (Expr s) t
  at_rest o e k = rests s t is (sym (ap is_some e) ∙ k ∙ same_look any_sewn)

-- ---- 5: the ends of a template's text

pub has_text : (t : Tree) → is_whole t ≡ true → 0 < count (texts_of t)
has_text t e = let counts = whole_counts t e in omega (arith, counts)

whole_pieces : (t : Tree) → is_whole t ≡ true → are_pieces (texts_of t) ≡ true
whole_pieces t e =
    let (kind, rest) = and_parts (is_template t) (nat_eq (count (texts_of t)) (count (parts_of t) + 1) && are_pieces (texts_of t)) e in
    (and_parts (nat_eq (count (texts_of t)) (count (parts_of t) + 1)) (are_pieces (texts_of t)) rest).1

whole_template : (t : Tree) → is_whole t ≡ true → t ≡ template (texts_of t) (parts_of t)
whole_template t e = template_is t (and_parts (is_template t) (nat_eq (count (texts_of t)) (count (parts_of t) + 1) && are_pieces (texts_of t)) e).0

pub last_there : (ts : Trees) (i : ℕ) → i + 1 ≡ count ts → child_or_absent ts i ≡ last_of ts
last_there none i h = absurd (omega (arith, h))
last_there (t ▸ none) zero h = refl
last_there (t ▸ none) (suc i) h = absurd (omega (arith, h))
last_there (t ▸ (u ▸ us)) zero h = absurd (omega (arith, h))
last_there (t ▸ (u ▸ us)) (suc i) h = last_there (u ▸ us) i (omega (arith, h))

pub first_there : (ts : Trees) → 0 < count ts → child_or_absent ts 0 ≡ first_or_absent ts
first_there none h = absurd (omega (arith, h))
first_there (t ▸ ts) h = refl

pub inserted_first : (ts : Trees) (x : Tree) → with_inserted ts 0 x ≡ x ▸ ts
inserted_first none x = refl
inserted_first (t ▸ ts) x = refl

last_split : (ts : Trees) → are_pieces ts ≡ true → 0 < count ts → ts ≡ append (pieces (list_of (but_last ts))) (piece (piece_in (last_of ts)) ▸ none)
last_split none e h = absurd (omega (arith, h))
last_split (t ▸ none) e h = ap (λ x. x ▸ none) (piece_is t (and_parts (is_piece t) true e).0)
last_split (t ▸ (u ▸ us)) e h = let (first, rest) = and_parts (is_piece t) (are_pieces (u ▸ us)) e in λ i. piece_is t first i ▸ last_split (u ▸ us) rest (omega arith) i

but_last_is : (ts : Trees) → are_pieces ts ≡ true → but_last ts ≡ pieces (list_of (but_last ts))
but_last_is none e = refl
but_last_is (t ▸ none) e = refl
but_last_is (t ▸ (u ▸ us)) e = let (first, rest) = and_parts (is_piece t) (are_pieces (u ▸ us)) e in λ i. piece_is t first i ▸ but_last_is (u ▸ us) rest i

but_last_count : (ts : Trees) → 0 < count ts → length (list_of (but_last ts)) + 1 ≡ count ts
but_last_count none h = absurd (omega (arith, h))
but_last_count (t ▸ none) h = omega arith
but_last_count (t ▸ (u ▸ us)) h = let rest = but_last_count (u ▸ us) (omega arith) in omega (arith, rest)

first_split : (ts : Trees) → are_pieces ts ≡ true → 0 < count ts → ts ≡ piece (piece_in (first_or_absent ts)) ▸ pieces (list_of (without ts 0))
first_split none e h = absurd (omega (arith, h))
first_split (t ▸ ts) e h = let (first, rest) = and_parts (is_piece t) (are_pieces ts) e in λ i. piece_is t first i ▸ pieces_are ts rest i

rest_is : (ts : Trees) → are_pieces ts ≡ true → without ts 0 ≡ pieces (list_of (without ts 0))
rest_is none e = refl
rest_is (t ▸ ts) e = pieces_are ts (and_parts (is_piece t) (are_pieces ts) e).1

rest_count : (ts : Trees) → 0 < count ts → length (list_of (without ts 0)) + 1 ≡ count ts
rest_count none h = absurd (omega (arith, h))
rest_count (t ▸ ts) h = let same = list_count ts in omega (arith, same)

abbrev one_if : Bool → ℕ
one_if b = if b then 1 else 0

mark_is : (s : Seat) (n : ℕ) → mark s n ≡ weights.mark s.eq_left n
mark_is s n = go s.eq_left (nat_eq n 0)
  where
    go : (b c : Bool) → one_if (b && c) ≡ one_if ((b && c) || false)
    go true true = refl
    go true false = refl
    go false c = refl

mark_small : (s : Seat) (n : ℕ) → mark s n ≤ 1
mark_small s n = go (s.eq_left && nat_eq n 0)
  where
    go : (b : Bool) → (if b then 1 else 0) ≤ 1
    go true = omega arith
    go false = omega arith

-- ---- 5: what is gained

-- by a sum in a seat, or by the operands behind another one
abbrev Gained : Option Seat → Tree → Tree → Type 0
Gained (Some s) n w = weight (Expr s) w < weight (Expr s) n
Gained None n w = weight (Expr weights.right_seat) w < 2 + weight (Expr weights.right_seat) (part n 0) + weight (Expr weights.right_seat) (part n 1)

abbrev Fits : Option Seat → Tree → Type 0
Fits (Some s) n = weight (Expr s) n < 2 ^ 64
Fits None n = 2 + weight (Expr weights.right_seat) (part n 0) + weight (Expr weights.right_seat) (part n 1) < 2 ^ 64

both_gains_behind : (n w : Tree) → Row5Both n w → weight (Expr weights.right_seat) w < 2 + weight (Expr weights.right_seat) (part n 0) + weight (Expr weights.right_seat) (part n 1)
both_gains_behind n w r =
    let own = weights.both_gains n w r in
    let one : weight (Expr weights.right_seat) (part n 0) ≡ weight (Expr weights.right_seat) (template (append (pieces r.before) (piece r.last ▸ none)) r.earlier) = ap (λ x. weight (Expr weights.right_seat) (part x 0)) r.shape in
    let other : weight (Expr weights.right_seat) (part n 1) ≡ weight (Expr weights.right_seat) (template (piece r.first ▸ pieces r.after) r.later) = ap (λ x. weight (Expr weights.right_seat) (part x 1)) r.shape in
    omega (arith, own, one, other)

both_gains : (o : Option Seat) (n w : Tree) → Row5Both n w → Gained o n w
both_gains (Some s) n w r = weights.both_falls s n w r
both_gains None n w r = both_gains_behind n w r

module _ (n w : Tree) (r : Row5After n w) where
  abbrev tail_grown : ℕ
  tail_grown = growth (length (pair r.last (spelled r.text)).raw) (length r.last.raw) 0

  abbrev tail_weight : ℕ
  tail_weight = weight (Expr weights.right_seat) r.tail

  tail_head : weight (Expr weights.right_seat) (part n 0) ≡ weight (Expr weights.right_seat) (template (append (pieces r.before) (piece r.last ▸ none)) r.earlier)
  tail_head = ap (λ x. weight (Expr weights.right_seat) (part x 0)) r.shape

  tail_tail : weight (Expr weights.right_seat) (part n 1) ≡ weight (Expr weights.right_seat) r.tail
  tail_tail = ap (λ x. weight (Expr weights.right_seat) (part x 1)) r.shape

  tail_gains_in : (s : Seat) → pays (plus_sign s (count r.earlier)) tail_grown (capped tail_weight) ≡ true → weight (Expr s) w < weight (Expr s) n
  tail_gains_in s e =
      let whole = weights.after_weighs s n w r in
      let gain = paid (plus_sign s (count r.earlier)) tail_grown tail_weight e in
      let marks = mark_is s (count r.earlier) in
      let small = mark_small s (count r.earlier) in
      omega (arith, whole, gain, marks, small)

  tail_gains_behind : pays 1 tail_grown (capped tail_weight) ≡ true → weight (Expr weights.right_seat) w < 2 + weight (Expr weights.right_seat) (part n 0) + weight (Expr weights.right_seat) (part n 1)
  tail_gains_behind e =
      let own = weights.after_gains n w r in
      let gain = paid 1 tail_grown tail_weight e in
      let one = tail_head in
      let other = tail_tail in
      omega (arith, own, gain, one, other)

  tail_gains : (o : Option Seat) → pays (besides o (count r.earlier)) tail_grown (capped tail_weight) ≡ true → Gained o n w
  tail_gains (Some s) e = tail_gains_in s e
  tail_gains None e = tail_gains_behind e

  tail_pays_in : (s : Seat) → weight (Expr s) n < 2 ^ 64 → weight (Expr s) w < weight (Expr s) n → pays (plus_sign s (count r.earlier)) tail_grown (capped tail_weight) ≡ true
  tail_pays_in s small less =
      let whole = weights.after_weighs s n w r in
      let heavy = weights.after_heavy s n w r in
      let marks = mark_is s (count r.earlier) in
      let few = mark_small s (count r.earlier) in
      pays_for (plus_sign s (count r.earlier)) tail_grown tail_weight (omega (arith, small, heavy)) (omega (arith, whole, less, marks, few))

  tail_pays_behind : 2 + weight (Expr weights.right_seat) (part n 0) + weight (Expr weights.right_seat) (part n 1) < 2 ^ 64 → weight (Expr weights.right_seat) w < 2 + weight (Expr weights.right_seat) (part n 0) + weight (Expr weights.right_seat) (part n 1) → pays 1 tail_grown (capped tail_weight) ≡ true
  tail_pays_behind small less =
      let own = weights.after_gains n w r in
      let one = tail_head in
      let other = tail_tail in
      pays_for 1 tail_grown tail_weight (omega (arith, small, other)) (omega (arith, own, less, one, other))

  tail_pays : (o : Option Seat) → Fits o n → Gained o n w → pays (besides o (count r.earlier)) tail_grown (capped tail_weight) ≡ true
  tail_pays (Some s) small less = tail_pays_in s small less
  tail_pays None small less = tail_pays_behind small less

module _ (n w : Tree) (r : Row5Before n w) where
  abbrev head_grown : ℕ
  head_grown = growth (length (pair (spelled r.text) r.first).raw) (length r.first.raw) 0

  head_head : weight (Expr weights.right_seat) (part n 0) ≡ weight (Expr weights.right_seat) r.head
  head_head = ap (λ x. weight (Expr weights.right_seat) (part x 0)) r.shape

  head_tail : weight (Expr weights.right_seat) (part n 1) ≡ weight (Expr weights.right_seat) (template (piece r.first ▸ pieces r.after) r.later)
  head_tail = ap (λ x. weight (Expr weights.right_seat) (part x 1)) r.shape

  head_gains_in : (s : Seat) → pays (plus_sign s (count r.later)) head_grown (capped (weight (Expr weights.left_seat) r.head)) ≡ true → weight (Expr s) w < weight (Expr s) n
  head_gains_in s e =
      let whole = weights.before_weighs s n w r in
      let gain = paid (plus_sign s (count r.later)) head_grown (weight (Expr weights.left_seat) r.head) e in
      let marks = mark_is s (count r.later) in
      let small = mark_small s (count r.later) in
      omega (arith, whole, gain, marks, small)

  head_gains_behind : pays 1 head_grown (capped (weight (Expr weights.right_seat) r.head)) ≡ true → weight (Expr weights.right_seat) w < 2 + weight (Expr weights.right_seat) (part n 0) + weight (Expr weights.right_seat) (part n 1)
  head_gains_behind e =
      let own = weights.before_gains n w r in
      let gain = paid 1 head_grown (weight (Expr weights.right_seat) r.head) e in
      let one = head_head in
      let other = head_tail in
      omega (arith, own, gain, one, other)

  head_gains : (o : Option Seat) → pays (besides o (count r.later)) head_grown (capped (weight (Expr (head_seat o)) r.head)) ≡ true → Gained o n w
  head_gains (Some s) e = head_gains_in s e
  head_gains None e = head_gains_behind e

  head_pays_in : (s : Seat) → weight (Expr s) n < 2 ^ 64 → weight (Expr s) w < weight (Expr s) n → pays (plus_sign s (count r.later)) head_grown (capped (weight (Expr weights.left_seat) r.head)) ≡ true
  head_pays_in s small less =
      let whole = weights.before_weighs s n w r in
      let heavy = weights.before_heavy s n w r in
      let marks = mark_is s (count r.later) in
      let few = mark_small s (count r.later) in
      pays_for (plus_sign s (count r.later)) head_grown (weight (Expr weights.left_seat) r.head) (omega (arith, small, heavy)) (omega (arith, whole, less, marks, few))

  head_pays_behind : 2 + weight (Expr weights.right_seat) (part n 0) + weight (Expr weights.right_seat) (part n 1) < 2 ^ 64 → weight (Expr weights.right_seat) w < 2 + weight (Expr weights.right_seat) (part n 0) + weight (Expr weights.right_seat) (part n 1) → pays 1 head_grown (capped (weight (Expr weights.right_seat) r.head)) ≡ true
  head_pays_behind small less =
      let own = weights.before_gains n w r in
      let one = head_head in
      let other = head_tail in
      pays_for 1 head_grown (weight (Expr weights.right_seat) r.head) (omega (arith, small, one)) (omega (arith, own, less, one, other))

  head_pays : (o : Option Seat) → Fits o n → Gained o n w → pays (besides o (count r.later)) head_grown (capped (weight (Expr (head_seat o)) r.head)) ≡ true
  head_pays (Some s) small less = head_pays_in s small less
  head_pays None small less = head_pays_behind small less

-- ---- 5: what is written

abbrev Falls : Option Seat → Tree → Tree → Type 0
Falls o n w = Row5 n w × Gained o n w

both_fall : (o : Option Seat) (n a b : Tree) → n ≡ binary Addition a b → is_whole a ≡ true → is_whole b ≡ true → Falls o n (both_written a b)
both_fall o n a b e f g =
    let left = last_split (texts_of a) (whole_pieces a f) (has_text a f) in
    let right = first_split (texts_of b) (whole_pieces b g) (has_text b g) in
    let front = but_last_count (texts_of a) (has_text a f) in
    let back = rest_count (texts_of b) (has_text b g) in
    let one = whole_counts a f in
    let other = whole_counts b g in
    let before : List Piece = list_of (but_last (texts_of a)) in
    let after : List Piece = list_of (without (texts_of b) 0) in
    let row : Row5Both n (both_written a b) = record {
      before = before;
      last = piece_in (last_of (texts_of a));
      earlier = parts_of a;
      first = piece_in (first_or_absent (texts_of b));
      after = after;
      later = parts_of b;
      starts = omega (arith, front, one);
      ends = omega (arith, back, other);
      shape = e ∙ (λ i. binary Addition (whole_template a f i) (whole_template b g i)) ∙ (λ i. binary Addition (template (left i) (parts_of a)) (template (right i) (parts_of b)));
      written = ap (λ us. template us (append (parts_of a) (parts_of b))) ((λ i. append (append (but_last_is (texts_of a) (whole_pieces a f) i) (paired (last_of (texts_of a)) (first_or_absent (texts_of b)) ▸ none)) (rest_is (texts_of b) (whole_pieces b g) i)) ∙ append_one (pieces before) (paired (last_of (texts_of a)) (first_or_absent (texts_of b))) (pieces after));
    } in
    (inl row, both_gains o n (both_written a b) row)

-- a piece that is made of two where that is lighter
made_where : (c : Bool) (x m : Tree) → Some m ≡ (if c then Some x else None) → (c ≡ true) × (m ≡ x)
made_where true x m e = (refl, cc e)
made_where false x m e = nothing (sym e)

module _ (o : Option Seat) (n a t m : Tree) (e : n ≡ binary Addition a t) (f : is_whole a ≡ true) where
  tail_falls : (text : List ℕ) → told_in t ≡ Some text → Some m ≡ tail_by o (count (parts_of a)) (last_of (texts_of a)) t (Some text) → Falls o n (with_tail a m)
  tail_falls text known k =
      let end : Tree = last_of (texts_of a) in
      let (goes, same) = made_where (is_added o (binary_operand_seat Addition 1) (count (parts_of a)) t (pair (piece_in end) (spelled text)).raw end) (piece (pair (piece_in end) (spelled text))) m k in
      let (dropped, less) = and_parts (leaves_nothing t) (pays (besides o (count (parts_of a))) (growth (length (pair (piece_in end) (spelled text)).raw) (length (raw_in (shape_of end))) 0) (capped (weight (Expr (binary_operand_seat Addition 1)) t))) goes in
      let left = last_split (texts_of a) (whole_pieces a f) (has_text a f) in
      let front = but_last_count (texts_of a) (has_text a f) in
      let counts = whole_counts a f in
      let before : List Piece = list_of (but_last (texts_of a)) in
      let row : Row5After n (with_tail a m) = record {
        before = before;
        last = piece_in end;
        earlier = parts_of a;
        tail = t;
        text = text;
        starts = omega (arith, front, counts);
        known = known;
        dropped = dropped;
        shape = e ∙ (λ i. binary Addition (whole_template a f i) t) ∙ (λ i. binary Addition (template (left i) (parts_of a)) t);
        written = (λ i. template (append (but_last_is (texts_of a) (whole_pieces a f) i) (same i ▸ none)) (parts_of a));
      } in
      (inr (inl row), tail_gains n (with_tail a m) row o less)

  by_tail : (v : Option (List ℕ)) → told_in t ≡ v → Some m ≡ tail_by o (count (parts_of a)) (last_of (texts_of a)) t v → Falls o n (with_tail a m)
  by_tail (Some text) h k = tail_falls text h k
  by_tail None h k = nothing (sym k)

module _ (o : Option Seat) (n t b m : Tree) (e : n ≡ binary Addition t b) (f : is_whole b ≡ true) where
  head_falls : (text : List ℕ) → told_in t ≡ Some text → Some m ≡ head_by o (count (parts_of b)) t (first_or_absent (texts_of b)) (Some text) → Falls o n (with_head b m)
  head_falls text known k =
      let end : Tree = first_or_absent (texts_of b) in
      let (goes, same) = made_where (is_added o (head_seat o) (count (parts_of b)) t (pair (spelled text) (piece_in end)).raw end) (piece (pair (spelled text) (piece_in end))) m k in
      let (dropped, less) = and_parts (leaves_nothing t) (pays (besides o (count (parts_of b))) (growth (length (pair (spelled text) (piece_in end)).raw) (length (raw_in (shape_of end))) 0) (capped (weight (Expr (head_seat o)) t))) goes in
      let right = first_split (texts_of b) (whole_pieces b f) (has_text b f) in
      let back = rest_count (texts_of b) (has_text b f) in
      let counts = whole_counts b f in
      let row : Row5Before n (with_head b m) = record {
        head = t;
        text = text;
        first = piece_in end;
        after = list_of (without (texts_of b) 0);
        later = parts_of b;
        ends = omega (arith, back, counts);
        known = known;
        dropped = dropped;
        shape = e ∙ (λ i. binary Addition t (whole_template b f i)) ∙ (λ i. binary Addition t (template (right i) (parts_of b)));
        written = (λ i. template (same i ▸ rest_is (texts_of b) (whole_pieces b f) i) (parts_of b));
      } in
      (inr (inr row), head_gains n (with_head b m) row o less)

  by_head : (v : Option (List ℕ)) → told_in t ≡ v → Some m ≡ head_by o (count (parts_of b)) t (first_or_absent (texts_of b)) v → Falls o n (with_head b m)
  by_head (Some text) h k = head_falls text h k
  by_head None h k = nothing (sym k)

made_from : (f : Tree → Tree) (o : Option Tree) (w : Tree) → made_by f o ≡ Some w → (m : Tree) × ((Some m ≡ o) × (w ≡ f m))
made_from f (Some m) w e = (m, (refl, cc (sym e)))
made_from f None w e = nothing e

pub sum_falls : (o : Option Seat) (n a b w : Tree) → n ≡ binary Addition a b → sum_written o a b ≡ Some w → Falls o n w
sum_falls o n a b w e k = go (is_whole a) (is_whole b) refl refl k
  where
    go : (c d : Bool) → is_whole a ≡ c → is_whole b ≡ d → sum_by c d o a b ≡ Some w → Falls o n w
    go true true f g k = let same : both_written a b ≡ w = cc k in subst (Falls o n) same (both_fall o n a b e f g)
    go true false f g k =
        let (m, (found, same)) = made_from (with_tail a) (tail_piece o (count (parts_of a)) (last_of (texts_of a)) b) w k in
        subst (Falls o n) (sym same) (by_tail o n a b m e f (told_in b) refl found)
    go false true f g k =
        let (m, (found, same)) = made_from (with_head b) (head_piece o (count (parts_of b)) a (first_or_absent (texts_of b))) w k in
        subst (Falls o n) (sym same) (by_head o n a b m e g (told_in a) refl found)
    go false false f g k = nothing k

sum_contracts : (s : Seat) (n a b w : Tree) → n ≡ binary Addition a b → sum_written (Some s) a b ≡ Some w → TemplateContracts (Expr s) n w
sum_contracts s n a b w e k = let (row, less) = sum_falls (Some s) n a b w e k in record { row = inr (inl row); lighter = less }

-- ---- 6: what is written

nested_lighter : (s : Seat) (n w : Tree) (r : Row6 n w) → weight (Expr weights.right_seat) r.joined < 2 + weight (Expr weights.right_seat) r.inner + weight (Expr weights.right_seat) r.tail → weight (Expr s) w < weight (Expr s) n
nested_lighter s n w r gain = let whole = weights.nested_falls s n w r in omega (arith, whole, gain)

nested_contracts : (s : Seat) (n a t u w : Tree) → n ≡ binary Addition (binary Addition a t) u → nested_written a t u ≡ Some w → TemplateContracts (Expr s) n w
nested_contracts s n a t u w e k = by (is_settled a t u) refl k
  where
    by : (c : Bool) → is_settled a t u ≡ c → (if c then behind_written a t u else None) ≡ Some w → TemplateContracts (Expr s) n w
    by true h k =
        let (m, (found, same)) = made_from (binary Addition a) (sum_written None t u) w k in
        let (sum, gain) = sum_falls None (binary Addition t u) t u m refl (sym found) in
        let (joins, settled) = and_parts (may_join t u) (is_primitive (kind_of a) || is_some (told_in u)) h in
        let (one, plain) = and_parts (is_whole t || is_whole u) (is_string_kind (kind_of t) && is_effect_free u) joins in
        let (text, free) = and_parts (is_string_kind (kind_of t)) (is_effect_free u) plain in
        let row : Row6 n w = record {
          left = a;
          inner = t;
          tail = u;
          joined = m;
          known = string_kind (kind_of t) text;
          effect_free = free;
          settled = settled;
          sum = sum;
          shape = e;
          written = same;
        } in
        record { row = inr (inr row); lighter = nested_lighter s n w row gain }
    by false h k = nothing k

pub added_contracts : (s : Seat) (n a b w : Tree) → n ≡ binary Addition a b → added_written s a b ≡ Some w → TemplateContracts (Expr s) n w
added_contracts s n a b w e k = go (binary_operator a) refl k
  where
    go : (o : Option BinaryOperator) → binary_operator a ≡ o → added_by o s a b ≡ Some w → TemplateContracts (Expr s) n w
    go (Some Addition) h k = either (nested_written (part a 0) (part a 1) b) refl k
      where
        either : (o : Option Tree) → nested_written (part a 0) (part a 1) b ≡ o → first_written o (sum_written (Some s) a b) ≡ Some w → TemplateContracts (Expr s) n w
        either (Some m) f k = nested_contracts s n (part a 0) (part a 1) b w (e ∙ ap (λ x. binary Addition x b) (binary_is a Addition h)) (f ∙ k)
        either None f k = sum_contracts s n a b w e k
    go o h k = sum_contracts s n a b w e k

-- ---- 5: where nothing is written

some_made : (f : Tree → Tree) (c : Bool) (x : Tree) → c ≡ true → made_by f (if c then Some x else None) ≡ None → ⊥
some_made f true x e k = nothing (sym k)
some_made f false x e k = true≢false (sym e)

both_rest : (o : Option Seat) (n w : Tree) → Row5Both n w → sum_written o (part n 0) (part n 1) ≡ None → ⊥
both_rest o n w r k =
    let a : Tree = template (append (pieces r.before) (piece r.last ▸ none)) r.earlier in
    let b : Tree = template (piece r.first ▸ pieces r.after) r.later in
    let starts = r.starts in
    let ends = r.ends in
    let f : is_whole a ≡ true = whole_is r.before (r.last ∷ []) r.earlier (omega (arith, starts)) in
    let g : is_whole b ≡ true = whole_is [] (r.first ∷ r.after) r.later (omega (arith, ends)) in
    nothing (sym (sym (λ i. sum_by (f i) (g i) o a b) ∙ sym (ap (λ x. sum_written o (part x 0) (part x 1)) r.shape) ∙ k))

-- beside another template both are one, whatever the value of that one is
never_both : (o : Option Seat) (a b : Tree) → sum_by true true o a b ≡ None → ⊥
never_both o a b e = nothing (sym e)

after_rest : (o : Option Seat) (n w : Tree) → Row5After n w → Fits o n → Gained o n w → sum_written o (part n 0) (part n 1) ≡ None → ⊥
after_rest o n w r small less k =
    let starts = r.starts in
    let f : is_whole a ≡ true = whole_is r.before (r.last ∷ []) r.earlier (omega (arith, starts)) in
    go f (is_whole r.tail) refl
  where
    a : Tree
    a = template (append (pieces r.before) (piece r.last ▸ none)) r.earlier

    go : is_whole a ≡ true → (b : Bool) → is_whole r.tail ≡ b → ⊥
    go f true g = never_both o a r.tail (sym (λ i. sum_by (f i) (g i) o a r.tail) ∙ sym (ap (λ x. sum_written o (part x 0) (part x 1)) r.shape) ∙ k)
    go f false g =
        let joined : Piece = pair r.last (spelled r.text) in
        let gain = tail_pays n w r o small less in
        some_made (with_tail a) (is_added o (binary_operand_seat Addition 1) (count r.earlier) r.tail joined.raw (piece r.last)) (piece joined) (both_true (leaves_nothing r.tail) _ r.dropped gain)
        (ap (λ v. made_by (with_tail a) (tail_by o (count r.earlier) (piece r.last) r.tail v)) (sym r.known)
        ∙ ap (λ x. made_by (with_tail a) (tail_piece o (count r.earlier) x r.tail)) (sym (last_append (pieces r.before) (piece r.last)))
        ∙ sym (λ i. sum_by (f i) (g i) o a r.tail)
        ∙ sym (ap (λ x. sum_written o (part x 0) (part x 1)) r.shape) ∙ k)

before_rest : (o : Option Seat) (n w : Tree) → Row5Before n w → Fits o n → Gained o n w → sum_written o (part n 0) (part n 1) ≡ None → ⊥
before_rest o n w r small less k =
    let ends = r.ends in
    let g : is_whole b ≡ true = whole_is [] (r.first ∷ r.after) r.later (omega (arith, ends)) in
    go g (is_whole r.head) refl
  where
    b : Tree
    b = template (piece r.first ▸ pieces r.after) r.later

    go : is_whole b ≡ true → (c : Bool) → is_whole r.head ≡ c → ⊥
    go g true f = never_both o r.head b (sym (λ i. sum_by (f i) (g i) o r.head b) ∙ sym (ap (λ x. sum_written o (part x 0) (part x 1)) r.shape) ∙ k)
    go g false f =
        let joined : Piece = pair (spelled r.text) r.first in
        let gain = head_pays n w r o small less in
        some_made (with_head b) (is_added o (head_seat o) (count r.later) r.head joined.raw (piece r.first)) (piece joined) (both_true (leaves_nothing r.head) _ r.dropped gain)
        (ap (λ v. made_by (with_head b) (head_by o (count r.later) r.head (piece r.first) v)) (sym r.known)
        ∙ sym (λ i. sum_by (f i) (g i) o r.head b)
        ∙ sym (ap (λ x. sum_written o (part x 0) (part x 1)) r.shape) ∙ k)

pub sum_rest : (o : Option Seat) (n w : Tree) → Row5 n w → Fits o n → Gained o n w → sum_written o (part n 0) (part n 1) ≡ None → ⊥
sum_rest o n w (inl r) small less k = both_rest o n w r k
sum_rest o n w (inr (inl r)) small less k = after_rest o n w r small less k
sum_rest o n w (inr (inr r)) small less k = before_rest o n w r small less k

-- ---- 6: where nothing is written

-- where neither what stands behind the first operand is one nor all of it
none_first : (o p : Option Tree) → first_written o p ≡ None → o ≡ None
none_first None p e = refl
none_first (Some w) p e = nothing (sym e)

none_second : (o p : Option Tree) → first_written o p ≡ None → p ≡ None
none_second None p e = e
none_second (Some w) p e = nothing (sym e)

pub sum_unwritten : (o : Option BinaryOperator) (s : Seat) (a b : Tree) → added_by o s a b ≡ None → sum_written (Some s) a b ≡ None
sum_unwritten (Some Addition) s a b e = none_second (nested_written (part a 0) (part a 1) b) (sum_written (Some s) a b) e
sum_unwritten o s a b e = e

plainly : (o : Option BinaryOperator) (s : Seat) (a b : Tree) → (o ≡ Some Addition → ⊥) → sum_written (Some s) a b ≡ added_by o s a b
plainly (Some Addition) s a b h = absurd (h refl)
plainly o s a b h = refl

none_made : (f : Tree → Tree) (o : Option Tree) → made_by f o ≡ None → o ≡ None
none_made f None e = refl
none_made f (Some x) e = nothing (sym e)

none_settled : (c : Bool) (o : Option Tree) → c ≡ true → (if c then o else None) ≡ None → o ≡ None
none_settled true o h k = k
none_settled false o h k = absurd (true≢false (sym h))

or_first : (b c : Bool) → b ≡ true → b || c ≡ true
or_first true c e = refl
or_first false c e = absurd (true≢false (sym e))

-- one of the operands is a template
one_whole : (n w : Tree) → Row5 n w → is_whole (part n 0) || is_whole (part n 1) ≡ true
one_whole n w (inl r) =
    let starts = r.starts in
    or_first (is_whole (part n 0)) (is_whole (part n 1)) (ap (λ x. is_whole (part x 0)) r.shape ∙ whole_is r.before (r.last ∷ []) r.earlier (omega (arith, starts)))
one_whole n w (inr (inl r)) =
    let starts = r.starts in
    or_first (is_whole (part n 0)) (is_whole (part n 1)) (ap (λ x. is_whole (part x 0)) r.shape ∙ whole_is r.before (r.last ∷ []) r.earlier (omega (arith, starts)))
one_whole n w (inr (inr r)) =
    let ends = r.ends in
    or_true (is_whole (part n 0)) (is_whole (part n 1)) (ap (λ x. is_whole (part x 1)) r.shape ∙ whole_is [] (r.first ∷ r.after) r.later (omega (arith, ends)))

row_settled : (n w : Tree) (r : Row6 n w) → is_settled r.left r.inner r.tail ≡ true
row_settled n w r =
    let plain = both_true (is_string_kind (kind_of r.inner)) (is_effect_free r.tail) (ap is_string_kind r.known) r.effect_free in
    let joins = both_true (is_whole r.inner || is_whole r.tail) (is_string_kind (kind_of r.inner) && is_effect_free r.tail) (one_whole (binary Addition r.inner r.tail) r.joined r.sum) plain in
    both_true (may_join r.inner r.tail) (is_primitive (kind_of r.left) || is_some (told_in r.tail)) joins r.settled

pub nested_rest : (s : Seat) (n w : Tree) → Row6 n w → weight (Expr s) n < 2 ^ 64 → weight (Expr s) w < weight (Expr s) n → added_written s (part n 0) (part n 1) ≡ None → ⊥
nested_rest s n w r small less k =
    let whole = weights.nested_falls s n w r in
    let heavy = ap (weight (Expr s)) r.shape ∙ weights.nested_weighs s r.left r.inner r.tail in
    let fits : 2 + weight (Expr weights.right_seat) r.inner + weight (Expr weights.right_seat) r.tail < 2 ^ 64 = omega (arith, small, heavy) in
    let gained : weight (Expr weights.right_seat) r.joined < 2 + weight (Expr weights.right_seat) r.inner + weight (Expr weights.right_seat) r.tail = omega (arith, whole, less) in
    let still : nested_written r.left r.inner r.tail ≡ None = none_first (nested_written r.left r.inner r.tail) (sum_written (Some s) (binary Addition r.left r.inner) r.tail) (sym (ap (λ x. added_written s (part x 0) (part x 1)) r.shape) ∙ k) in
    let unmade = none_made (binary Addition r.left) (sum_written None r.inner r.tail) (none_settled (is_settled r.left r.inner r.tail) (behind_written r.left r.inner r.tail) (row_settled n w r) still) in
    sum_rest None (binary Addition r.inner r.tail) r.joined r.sum fits gained unmade

sum_rests : (s : Seat) (n : Tree) → binary_operator n ≡ Some Addition → added_written s (part n 0) (part n 1) ≡ None → Rests (Expr s) n
sum_rests s n h k small w c = go c.row
  where
    go : TemplateRow (Expr s) n w → ⊥
    go (inl r) = nothing (sym (ap binary_operator r.shape) ∙ h)
    go (inr (inl r)) = sum_rest (Some s) n w r small c.lighter (sum_unwritten (binary_operator (part n 0)) s (part n 0) (part n 1) k)
    go (inr (inr r)) = nested_rest s n w r small c.lighter k

pub sum_applied : (s : Seat) (t u : Tree) (b : Bool) → binary_operator t ≡ Some Addition → u ≡ unwrap_or (added_written s (part t 0) (part t 1)) t → b ≡ is_some (added_written s (part t 0) (part t 1)) → Applied Gives Rests (Expr s) t u b
sum_applied s t u b h e f = subst (λ v. Applied Gives Rests (Expr s) t v b) (sym e) (subst (Applied Gives Rests (Expr s) t (unwrap_or (added_written s (part t 0) (part t 1)) t)) (sym f) (go (added_written s (part t 0) (part t 1)) refl))
  where
    go : (o : Option Tree) → added_written s (part t 0) (part t 1) ≡ o → Applied Gives Rests (Expr s) t (unwrap_or o t) (is_some o)
    go None k = (refl, sum_rests s t h k)
    go (Some w) k = moves_once Gives (Expr s) t w (added_contracts s t (part t 0) (part t 1) w (binary_is t Addition h) k)

pub row5_sum : (n w : Tree) → Row5 n w → binary_operator n ≡ Some Addition
row5_sum n w (inl r) = ap binary_operator r.shape
row5_sum n w (inr (inl r)) = ap binary_operator r.shape
row5_sum n w (inr (inr r)) = ap binary_operator r.shape

others_rest : (s : Seat) (t : Tree) → (binary_operator t ≡ Some Addition → ⊥) → PartsRest (Expr s) t → Rests (Expr s) t
others_rest s t h k small w c = go c.row
  where
    go : TemplateRow (Expr s) t w → ⊥
    go (inl r) = k small w r c.lighter
    go (inr (inl r)) = h (row5_sum t w r)
    go (inr (inr r)) = h (ap binary_operator r.shape)

pub others_applied : (s : Seat) (t u : Tree) (b : Bool) → (binary_operator t ≡ Some Addition → ⊥) → Applied Gives PartsRest (Expr s) t u b → Applied Gives Rests (Expr s) t u b
others_applied s t u true h a = a
others_applied s t u false h a = (a.0, others_rest s t h a.1)

-- ---- 6: where the code stands

pub two_operands : (t : Tree) (o : BinaryOperator) → binary_operator t ≡ Some o → count (children t) ≡ 2
two_operands t o e = ap (λ x. count (children x)) (binary_is t o e)

nested_is : (n : Tree) → binary_operator n ≡ Some Addition → binary_operator (part n 0) ≡ Some Addition → n ≡ binary Addition (binary Addition (part (part n 0) 0) (part (part n 0) 1)) (part n 1)
nested_is n e f = binary_is n Addition e ∙ ap (λ x. binary Addition x (part n 1)) (binary_is (part n 0) Addition f)

rejoined_is : (n a t u s : Tree) (b : Bool) (o : Option Tree) → n ≡ binary Addition (binary Addition a t) u → s ≡ unwrap_or o (binary Addition t u) → b ≡ is_some o → rejoined b a s ≡ unwrap_or (made_by (binary Addition a) o) n
rejoined_is n a t u s true (Some m) e f g = ap (binary Addition a) f
rejoined_is n a t u s false None e f g = ap (λ x. rejoined false a x) f ∙ sym e
rejoined_is n a t u s true None e f g = absurd (true≢false g)
rejoined_is n a t u s false (Some m) e f g = absurd (true≢false (sym g))

pub behind_tree : (n s : Tree) (b : Bool) → binary_operator n ≡ Some Addition → binary_operator (part n 0) ≡ Some Addition → s ≡ unwrap_or (sum_written None (part (part n 0) 1) (part n 1)) (binary Addition (part (part n 0) 1) (part n 1)) → b ≡ is_some (sum_written None (part (part n 0) 1) (part n 1)) → rejoined b (part (part n 0) 0) s ≡ unwrap_or (behind_written (part (part n 0) 0) (part (part n 0) 1) (part n 1)) n
behind_tree n s b e f g h = rejoined_is n (part (part n 0) 0) (part (part n 0) 1) (part n 1) s b (sum_written None (part (part n 0) 1) (part n 1)) (nested_is n e f) g h

pub behind_said : (a t u : Tree) (b : Bool) → b ≡ is_some (sum_written None t u) → b ≡ is_some (behind_written a t u)
behind_said a t u b e = e ∙ same (sum_written None t u)
  where
    same : (o : Option Tree) → is_some o ≡ is_some (made_by (binary Addition a) o)
    same (Some m) = refl
    same None = refl

pub behind_tree_first : (n u : Tree) (o p : Option Tree) → u ≡ unwrap_or o n → true ≡ is_some o → u ≡ unwrap_or (first_written o p) n
behind_tree_first n u (Some w) p e f = e
behind_tree_first n u None p e f = absurd (true≢false f)

pub behind_said_first : (o p : Option Tree) → true ≡ is_some o → true ≡ is_some (first_written o p)
behind_said_first (Some w) p f = refl
behind_said_first None p f = absurd (true≢false f)

pub same_operands : (n m : Tree) (o : Option Tree) → m ≡ unwrap_or o n → false ≡ is_some o → count (children n) ≡ 2 → count (children m) ≡ 2
same_operands n m None e f h = ap (λ x. count (children x)) e ∙ h
same_operands n m (Some w) e f h = absurd (true≢false (sym f))

pub whole_tree : (s : Seat) (n m u : Tree) (o : Option Tree) → m ≡ unwrap_or o n → false ≡ is_some o → u ≡ unwrap_or (sum_written (Some s) (part m 0) (part m 1)) m → u ≡ unwrap_or (first_written o (sum_written (Some s) (part n 0) (part n 1))) n
whole_tree s n m u None e f g = g ∙ ap (λ x. unwrap_or (sum_written (Some s) (part x 0) (part x 1)) x) e
whole_tree s n m u (Some w) e f g = absurd (true≢false (sym f))

pub whole_said : (s : Seat) (n m : Tree) (c : Bool) (o : Option Tree) → m ≡ unwrap_or o n → false ≡ is_some o → c ≡ is_some (sum_written (Some s) (part m 0) (part m 1)) → c ≡ is_some (first_written o (sum_written (Some s) (part n 0) (part n 1)))
whole_said s n m c None e f g = g ∙ ap (λ x. is_some (sum_written (Some s) (part x 0) (part x 1))) e
whole_said s n m c (Some w) e f g = absurd (true≢false (sym f))

pub plain_tree : (s : Seat) (a b n w : Tree) → (binary_operator a ≡ Some Addition → ⊥) → w ≡ unwrap_or (sum_written (Some s) a b) n → w ≡ unwrap_or (added_written s a b) n
plain_tree s a b n w h e = e ∙ ap (λ o. unwrap_or o n) (plainly (binary_operator a) s a b h)

pub plain_said : (s : Seat) (a b : Tree) (c : Bool) → (binary_operator a ≡ Some Addition → ⊥) → c ≡ is_some (sum_written (Some s) a b) → c ≡ is_some (added_written s a b)
plain_said s a b c h e = e ∙ ap is_some (plainly (binary_operator a) s a b h)

-- What the rows of names that are read behind held names do to the statements of a body.
use Rattle.std.specs.Prelude.{ℕ, ◌≡◌, refl, ◌||◌, Bool, true, false, List, None}
use Rattle.std.proofs.Common.{ap, ◌∙◌, sym, subst, subst₂, inl, inr}
use Rattle.mini_model.specs.declared.kind.VariableDeclarationKind.{VariableDeclarationKind}
use Rattle.mini_model.specs.declared.name.Name.{Name}
use Rattle.mini_model.specs.Tree.{Tree, Trees, none, ◌▸◌, listed, program}
use Rattle.mini_model.specs.Paths.{append}
use Rattle.mini_accept.specs.WellShaped.{Depth, each, fill}
use Rattle.mini_laws.specs.Body.{FunctionStatements, Program}
use Rattle.mini_laws.specs.Congruence.{AllAvoid}
use Rattle.mini_laws.specs.Demand.{Stat}
use Rattle.mini_laws.specs.Naming.{is_lexical}
use Rattle.mini_laws.specs.Same.{Same}
use Rattle.mini_laws.specs.Skeleton.{Off, hidden_all}
use Rattle.mini_laws.specs.State.{Environment}
use Rattle.mini_laws.specs.Substitution.{alone}
use Rattle.mini_laws.specs.Value.{Declared, VariableSet}
use Rattle.mini_laws.proofs.Congruent.{transitive}
use Rattle.mini_kept.specs.AlikeBodies.{RunsAs}
use Rattle.mini_kept.specs.Frames.{ports}
use Rattle.mini_kept.specs.Without.{Assured, Steadies, Begins, Permits}
use Rattle.mini_rows.proofs.Sunk.{value_past}
use Rattle.mini_rows.specs.Lists.{declaration}
use Rattle.mini_rows.specs.Declarations.{binding, declarator}
use Rattle.mini_rows.specs.Past.{binds, any_bind, begun, held, Row71Past, Row71PastNext, PastRow, PastRunsAlike}
use Rattle.mini_rows.specs.Unused.{resolved, names, any_names, declared_among, declared_one, declared_left, put_first, evaluated, statements, static_block}
use Rattle.mini_rows.specs.Switches.{Liberties}
use Rattle.mini_rows.proofs.FoldMeaning.{plain_read}
use Rattle.mini_rows.proofs.HeadKept.{head_leaves, head_declares}
use Rattle.mini_rows.proofs.HeadMeaning.{head_read, head_unnamed}
use Rattle.mini_rows.proofs.ListShapes.{first_fits, more_fit}
use Rattle.mini_rows.proofs.NextKept.{next_leaves, next_declares}
use Rattle.mini_rows.proofs.NextMeaning.{next_read, next_avoids}
use Rattle.mini_rows.proofs.PastHeads.{head_goes}
use Rattle.mini_rows.proofs.PastLets.{held_there}
use Rattle.mini_rows.proofs.PastNext.{next_past}
use Rattle.mini_rows.proofs.PastMeaning.{held_still, held_off, append_twice, in_two, in_one, behind_same, pair_same, body_runs, program_runs, block_runs}
use Rattle.mini_rows.proofs.Unbound.{all_unhidden}
use Rattle.mini_rows.proofs.UnusedKept.{LeavesThere, DeclaresThere}
use Rattle.mini_rows.proofs.SingleFits.{no_number_there}
use Rattle.mini_rows.proofs.UnusedLawful.{single_fits, next_fits}
use Rattle.mini_rows.proofs.UnusedMeaning.{ReadThere, read_alone, single_read, first_avoids, may_write, movable}
use Rattle.mini_rows.proofs.UnusedNames.{or_parts, avoided, all_avoided}
use Rattle.mini_rows.proofs.UnusedStretches.{item_in, declaration_in, left_in, left_ported, one_fits, stands_there}

-- ---- of some statements that lose a name, behind what stands outside of them

pub record Behind (V : Assured) (W : VariableSet) (outside : Tree) (ts us : Trees) : Type 0 where
  pub spelling : List ℕ
  pub symbol : ℕ
  pub before : Trees
  pub after : Trees
  pub d : Trees
  pub w : Trees
  pub leaves : LeavesThere (resolved spelling symbol) d w
  pub declares : DeclaresThere (resolved spelling symbol) d w
  pub read : ReadThere symbol d w
  pub same : (e : Environment) → Permits W (alone (Declared symbol)) e → Steadies V e → Same e (alone (Declared symbol)) (begun V ts) (Stat None) (listed (append before (append d after))) (listed (append before (append w after)))
  pub avoids : AllAvoid (alone (Declared symbol)) w
  pub fits : (o : Depth) (strict : Bool) → fill strict (each (item_in o)) d ≡ true → fill strict (each (item_in o)) w ≡ true
  -- none of them is an import or an export
  pub ported : (rest : Trees) → ports true (append d rest) ≡ ports true (append w rest)
  pub outer : names (resolved spelling symbol) outside ≡ false
  pub earlier : any_names (resolved spelling symbol) before ≡ false
  pub later : any_names (resolved spelling symbol) after ≡ false
  pub read_is : ts ≡ append before (append d after)
  pub written_is : us ≡ append before (append w after)

bind_parts : (j : ℕ) (a b : Trees) → any_bind j (append a b) ≡ false → (any_bind j a ≡ false) × (any_bind j b ≡ false)
bind_parts j none b e = (refl, e)
bind_parts j (t ▸ a) b e =
    let (one, others) = or_parts (binds j t) (any_bind j (append a b)) e in
    let (f, g) = bind_parts j a b others in
    (ap (λ c. c || any_bind j a) one ∙ f, g)

both_unbound : (j : ℕ) (a b : Trees) → any_bind j a ≡ false → any_bind j b ≡ false → any_bind j (append a b) ≡ false
both_unbound j none b e f = f
both_unbound j (t ▸ a) b e f = let (one, others) = or_parts (binds j t) (any_bind j a) e in ap (λ c. c || any_bind j (append a b)) one ∙ both_unbound j a b others f

left_bound : (j : ℕ) (K : VariableDeclarationKind) (first rest hs : Trees) → any_bind j (declaration K (append first rest) ▸ hs) ≡ false → any_bind j (declared_left K first ▸ none) ≡ false
left_bound j K none rest hs e = refl
left_bound j K (t ▸ first) rest hs e =
    let (d, others) = or_parts (binds j (declaration K (append (t ▸ first) rest))) (any_bind j hs) e in
    let (list, end) = or_parts (any_bind j (append (t ▸ first) rest)) false d in
    ap (λ b. (b || false) || false) (bind_parts j (t ▸ first) rest list).0

-- neither the statements before hide one of them nor the declarators before
pub behind_off : (V : Assured) (before : Trees) (K : VariableDeclarationKind) (first rest after ts : Trees) → ts ≡ append before (declaration K (append first rest) ▸ after) → Off (hidden_all (append before (declared_left K first ▸ none))) (begun V ts)
behind_off V before K first rest after ts is =
    held_off V ts (hidden_all (append before (declared_left K first ▸ none)))
    (λ j f. let (a, b) = bind_parts j before (declaration K (append first rest) ▸ after) (sym (ap (any_bind j) is) ∙ f) in all_unhidden j (append before (declared_left K first ▸ none)) (both_unbound j before (declared_left K first ▸ none) a (left_bound j K first rest after b)))

unfoldable pub of_head : (V : Assured) (W : Liberties) (outside : Tree) (ts us : Trees) → Row71Past V W outside ts us → Behind V W.writable outside ts us
of_head V W outside ts us r =
    let k = r.symbol in
    let x : Name = resolved r.spelling k in
    let K = r.kind in
    let d = declared_among K x r.first r.init none in
    let left = declared_left K r.first in
    let put = put_first x r.init r.head in
    let one = declared_one K x r.init in
    let there = stands_there x r.head r.once r.init in
    let D = alone (Declared k) in
    let X = begun V ts in
    let H = held V ts r.before (is_lexical K) r.first in
    let pre = append r.before (left ▸ none) in
    record {
      spelling = r.spelling;
      symbol = k;
      before = r.before;
      after = r.after;
      d = d ▸ (r.head ▸ none);
      w = left ▸ (put ▸ none);
      leaves = head_leaves K x k refl r.first r.init r.head (movable W.switches r.init r.moves) r.once r.initial r.declared_earlier;
      declares = head_declares K x k refl r.first r.init r.head (movable W.switches r.init r.moves) r.once r.initial r.declared_earlier;
      read = single_read r.spelling k K r.first r.init r.head put (head_read x r.head r.once r.init);
      same = λ e u s.
          let off = behind_off V r.before K r.first (declarator (binding x) r.init ▸ none) (r.head ▸ r.after) ts r.shape in
          let moved = behind_same e D u.unseen.shared X H.variables pre (one ▸ (r.head ▸ none)) (put ▸ none) r.after (all_avoided x k refl r.after r.later) off (held_there V ts r.before K r.first off)
          (pair_same e r.spelling k u.unseen H.variables r.init r.head put (ap (λ i. i.facts.absent) (plain_read r.init (movable W.switches r.init r.moves))) K (may_write W.writable K e k r.goes u) (head_goes e r.spelling k u.unseen H (held_still V ts r.before (is_lexical K) r.first e s) r.init r.head (movable W.switches r.init r.moves) r.once (value_past H (resolved r.spelling k) r.init (evaluated r.head) r.passed))) in
          transitive e D X (Stat None) (listed (append r.before (d ▸ (r.head ▸ r.after)))) (listed (append pre (one ▸ (r.head ▸ r.after)))) (listed (append r.before (left ▸ (put ▸ r.after)))) (in_two e K r.first (declarator (binding x) r.init ▸ none) D X r.before (r.head ▸ r.after))
          (subst (λ us. Same e D X (Stat None) (listed (append pre (one ▸ (r.head ▸ r.after)))) (listed us)) (append_twice r.before (left ▸ none) (put ▸ r.after)) moved);
      avoids = (first_avoids (alone (Declared k)) K r.first (all_avoided x k refl r.first r.declared_earlier), (avoided x k refl put (head_unnamed x r.head r.once r.init r.initial), tt));
      fits = λ o strict h.
          let (f, g) = first_fits strict (item_in o) d (r.head ▸ none) h in
          let (i, rest) = first_fits strict (item_in o) r.head none g in
          let (v, w) = single_fits strict K x r.first r.init r.head (movable W.switches r.init r.moves) r.once (no_number_there x r.init (evaluated r.head) r.varies) (sym (declaration_in o strict K (append r.first (declarator (binding x) r.init ▸ none))) ∙ f) (sym (there.head_in o strict) ∙ i) in
          more_fit strict (item_in o) left (put ▸ none) (left_in o strict K r.first ∙ v) (more_fit strict (item_in o) put none (there.put_in o strict ∙ w) rest);
      ported = λ rest. there.head_ported rest ∙ sym (there.put_ported rest) ∙ left_ported K r.first (put ▸ rest);
      outer = r.outer;
      earlier = r.earlier;
      later = r.later;
      read_is = r.shape;
      written_is = r.written;
    }

unfoldable pub of_next : (V : Assured) (W : Liberties) (outside : Tree) (ts us : Trees) → Row71PastNext V W outside ts us → Behind V W.writable outside ts us
of_next V W outside ts us r =
    let k = r.symbol in
    let x : Name = resolved r.spelling k in
    let K = r.kind in
    let X = begun V ts in
    let H = held V ts r.before (is_lexical K) r.first in
    let D = alone (Declared k) in
    let these = declarator (binding x) r.init ▸ (declarator r.binds r.value ▸ r.last) in
    let those = declarator r.binds (put_first x r.init r.value) ▸ r.last in
    let d = declaration K (append r.first these) in
    let w = declaration K (append r.first those) in
    let left = declared_left K r.first in
    let pre = append r.before (left ▸ none) in
    record {
      spelling = r.spelling;
      symbol = k;
      before = r.before;
      after = r.after;
      d = d ▸ none;
      w = w ▸ none;
      leaves = next_leaves K x k refl r.first r.init r.binds r.value r.last r.once r.declared_earlier r.initial r.other r.declared_later (movable W.switches r.init r.moves);
      declares = next_declares K x k refl r.first r.init r.binds r.value r.last r.once r.declared_earlier r.initial r.other r.declared_later;
      read = read_alone k d w (next_read K r.spelling k r.first r.last r.init r.binds r.value (put_first x r.init r.value));
      same = λ e u s.
          let off = behind_off V r.before K r.first these r.after ts r.shape in
          let moved = behind_same e D u.unseen.shared X H.variables pre (declaration K these ▸ none) (declaration K those ▸ none) r.after (all_avoided x k refl r.after r.later) off (held_there V ts r.before K r.first off)
          (next_past e r.spelling k u.unseen H (held_still V ts r.before (is_lexical K) r.first e s) K r.init r.binds r.value r.last (movable W.switches r.init r.moves) r.once (value_past H (resolved r.spelling k) r.init r.value r.passed) (avoided x k refl r.binds r.other) (all_avoided x k refl r.last r.declared_later) (may_write W.writable K e k r.goes u)) in
          transitive e D X (Stat None) (listed (append r.before (d ▸ r.after))) (listed (append pre (declaration K these ▸ r.after))) (listed (append r.before (w ▸ r.after))) (in_two e K r.first these D X r.before r.after)
          (transitive e D X (Stat None) (listed (append pre (declaration K these ▸ r.after))) (listed (append pre (declaration K those ▸ r.after))) (listed (append r.before (w ▸ r.after))) moved (in_one e K r.first those D X r.before r.after));
      avoids = (next_avoids x k refl K r.first r.init r.binds r.value r.last r.once r.declared_earlier r.initial r.other r.declared_later, tt);
      fits = λ o strict. one_fits o strict d w (next_fits strict K x r.first r.init r.binds r.value r.last (movable W.switches r.init r.moves) r.once (no_number_there x r.init r.value r.varies)) (declaration_in o strict K (append r.first these)) (declaration_in o strict K (append r.first those));
      ported = λ rest. refl;
      outer = r.outer;
      earlier = r.earlier;
      later = r.later;
      read_is = r.shape;
      written_is = r.written;
    }

unfoldable pub behind : (V : Assured) (W : Liberties) (outside : Tree) (ts us : Trees) → PastRow V W outside ts us → Behind V W.writable outside ts us
behind V W outside ts us (inl r) = of_head V W outside ts us r
behind V W outside ts us (inr r) = of_next V W outside ts us r

-- ---- a body with them runs as before

pub statements_run : (V : Assured) (W : VariableSet) (outside : Tree) (ts us : Trees) (b : Behind V W outside ts us) → (e : Environment) → Permits W (alone (Declared b.symbol)) e → Steadies V e → (X : VariableSet) → Begins V X → RunsAs e FunctionStatements FunctionStatements X (statements (append b.before (append b.d b.after))) (statements (append b.before (append b.w b.after)))
statements_run V W outside ts us b e u s X begins =
    let x = resolved b.spelling b.symbol in
    let same = subst (λ l. Same e (alone (Declared b.symbol)) (begun V l) (Stat None) (listed (append b.before (append b.d b.after))) (listed (append b.before (append b.w b.after)))) b.read_is (b.same e u s) in
    body_runs e b.spelling b.symbol u.unseen V b.before b.d b.w b.after b.read (all_avoided x b.symbol refl b.before b.earlier) b.avoids (all_avoided x b.symbol refl b.after b.later) same X begins

-- and so does a module
pub module_runs : (V : Assured) (W : VariableSet) (outside : Tree) (ts us : Trees) (b : Behind V W outside ts us) (ds : List (List ℕ)) → (e : Environment) → Permits W (alone (Declared b.symbol)) e → Steadies V e → (X : VariableSet) → Begins V X → RunsAs e Program Program X (program true ds (append b.before (append b.d b.after))) (program true ds (append b.before (append b.w b.after)))
module_runs V W outside ts us b ds e u s X begins =
    let x = resolved b.spelling b.symbol in
    let same = subst (λ l. Same e (alone (Declared b.symbol)) (begun V l) (Stat None) (listed (append b.before (append b.d b.after))) (listed (append b.before (append b.w b.after)))) b.read_is (b.same e u s) in
    program_runs e b.spelling b.symbol u.unseen V b.before b.d b.w b.after b.read (all_avoided x b.symbol refl b.before b.earlier) b.avoids (all_avoided x b.symbol refl b.after b.later) ds same X begins

-- and a static block
pub static_runs : (V : Assured) (W : VariableSet) (outside : Tree) (ts us : Trees) (b : Behind V W outside ts us) (n : ℕ) → (e : Environment) → Permits W (alone (Declared b.symbol)) e → Steadies V e → (X : VariableSet) → Begins V X → RunsAs e FunctionStatements FunctionStatements X (static_block n (append b.before (append b.d b.after))) (static_block n (append b.before (append b.w b.after)))
static_runs V W outside ts us b n e u s X begins =
    let x = resolved b.spelling b.symbol in
    let same = subst (λ l. Same e (alone (Declared b.symbol)) (begun V l) (Stat None) (listed (append b.before (append b.d b.after))) (listed (append b.before (append b.w b.after)))) b.read_is (b.same e u s) in
    block_runs e b.spelling b.symbol u.unseen V b.before b.d b.w b.after b.read (all_avoided x b.symbol refl b.before b.earlier) b.avoids (all_avoided x b.symbol refl b.after b.later) n same X begins

pub runs_alike : PastRunsAlike
runs_alike V W outside ts us r =
    let b = behind V W outside ts us r in
    (b.symbol, λ e u s X g. subst₂ (λ a c. RunsAs e FunctionStatements FunctionStatements X (statements a) (statements c)) (sym b.read_is) (sym b.written_is) (statements_run V W.writable outside ts us b e u s X g))

-- A `let` asks less without the value `undefined`, wherever it stands: in a list, exported, and in
-- the head of a `for`.
use Rattle.std.specs.Prelude.{ℕ, ◌≡◌, refl, nat_eq, Bool, true, false, ◌||◌, ◌&&◌, [], ◌++◌, map, codes}
use Rattle.std.specs.List.{list_any}
use Rattle.std.proofs.Common.{ap, ◌∙◌, inl, inr, arith, sym, subst, true≢false}
use Rattle.std.proofs.lemmas.List.{append-nil}
use Rattle.mini_model.specs.declared.kind.VariableDeclarationKind.TheVariants.{Let}
use Rattle.mini_model.specs.declared.name.Name.{Name}
use Rattle.mini_model.specs.declared.place.Position.{Position}
use Rattle.mini_model.specs.declared.place.Position.TheVariants.{Stmt, StatementList, BodyList}
use Rattle.mini_model.specs.declared.shape.Shape.TheVariants as shape
use Rattle.mini_model.specs.Paths.{append}
use Rattle.mini_model.specs.Tree.{Tree, Trees, none, ◌▸◌, listed, absent, identifier, unresolved}
use Rattle.mini_laws.specs.declared.names.Declared.{Declared}
use Rattle.mini_laws.specs.declared.names.Declared.TheVariants as declared
use Rattle.mini_laws.specs.declared.names.Use.{Use}
use Rattle.mini_laws.specs.declared.names.Use.TheVariants.{Read}
use Rattle.mini_laws.specs.DeclaredNames.{names_of, body_names, has_inner}
use Rattle.mini_laws.specs.Edits.{Kept}
use Rattle.mini_laws.specs.Foreign.{is_write, has_number, own_lexical}
use Rattle.mini_laws.specs.Mentions.{is_among, is_elsewhere}
use Rattle.mini_laws.specs.Resolved.{Environment}
use Rattle.mini_laws.specs.ScopeList.{by_symbol, has_eval}
use Rattle.mini_laws.specs.Scopes.{opened, scopes_by}
use Rattle.mini_laws.specs.Shared.{given_values, names_arguments, own_pattern_writes, write_at}
use Rattle.mini_laws.specs.Symbols.{declared as declared_in}
use Rattle.mini_shrink.specs.Facts.{Fact, Written, WrittenElsewhere, Given, GivenElsewhere, GivenByPattern, MentionedElsewhere, BoundElsewhere, IsLexical, IsSwitched, InPattern, UnderCatch, ByArguments, ByEval, AmongParameters, ReadEarly, question}
use Rattle.mini_shrink.specs.Pace.{Pace, Ends, Silent, Reads, AtMost, followed, ends_after, Setting, below, Question, pace, reads_if}
use Rattle.mini_shrink.specs.Questions.{asks, early}
use Rattle.mini_shrink.proofs.Owns.{or_implied}
use Rattle.mini_shrink.proofs.Paces.{itself, both}
use Rattle.mini_rows.specs.Declarations.{binding, declarator, Row61, Item, Alone, Exported, held, Row61Item, DeclarationRow, DeclarationContracts}
use Rattle.mini_rows.specs.Lists.{declaration, for_loop, InList}
use Rattle.mini_rows.specs.Spellings.{void_zero, IsUndefined}
use Rattle.mini_less.specs.Declarations.{DeclarationsReadLess}
use Rattle.mini_less.specs.Families.{LessAt}
use Rattle.mini_less.proofs.ByQuestion.{by_question}
use Rattle.mini_less.proofs.Calm.{each_quiets, unseen}
use Rattle.mini_less.proofs.LessRows.{reads_less_by}
use Rattle.mini_less.proofs.LessTold.{Likewise, LessTold, Anyhow, over_less, less_told, told_along}

-- ---- a declarator

abbrev pub IsRead : Use → Type 0
IsRead v = v ≡ Read

-- what is absent says nothing
pub absent_silent : (g : Fact) (b s : ℕ) (c : Setting) (env : Environment) → pace (question g b s) c env absent ≡ Silent
unfolding pace
absent_silent g b s c env = ap (λ p. followed p Silent) ((each_quiets g b s).silent c env shape.Absent refl 0 none)

module _ (x : Name) where
  abbrev pub valued : Tree → Tree
  valued v = declarator (binding x) v

  abbrev pub parts : Tree → Trees
  parts v = binding x ▸ (v ▸ none)

  no_lexical : (b : Bool) (v : Tree) → own_lexical b shape.VariableDeclarator (parts v) ≡ []
  no_lexical true v = refl
  no_lexical false v = refl

  -- of a lexical name it tells nothing itself
  pub root_silent : (g : Fact) (b s : ℕ) (c : Setting) → c.used ≡ Read → (env : Environment) (v : Tree) → (question g b s).before c env shape.VariableDeclarator [] 0 (parts v) ≡ Silent
  unfolding scopes_by
  root_silent Given b s c r env v = ap (λ w. reads_if (list_any (is_write (by_symbol s)) (map (write_at c.around) (given_values w shape.VariableDeclarator [] (parts v))))) r
  root_silent GivenElsewhere b s c r env v = ap (λ w. reads_if (list_any (λ m. is_write (by_symbol s) m && is_elsewhere b m.around) (map (write_at c.around) (given_values w shape.VariableDeclarator [] (parts v))))) r
  root_silent GivenByPattern b s c r env v = ap (λ w. reads_if (is_among (by_symbol s) (own_pattern_writes w env shape.VariableDeclarator (parts v)))) r
  root_silent IsLexical b s c r env v = ap (λ xs. reads_if (is_among (by_symbol s) xs)) (no_lexical c.is_body v)
  root_silent ByEval b s c r env v = ap reads_if (unseen (by_symbol s) (opened c.used shape.VariableDeclarator (parts v)) (λ j. refl) 0 (parts v))
  root_silent Written b s c r env v = refl
  root_silent WrittenElsewhere b s c r env v = refl
  root_silent MentionedElsewhere b s c r env v = refl
  root_silent BoundElsewhere b s c r env v = refl
  root_silent IsSwitched b s c r env v = refl
  root_silent InPattern b s c r env v = refl
  root_silent UnderCatch b s c r env v = refl
  root_silent ByArguments b s c r env v = refl
  root_silent AmongParameters b s c r env v = refl
  root_silent ReadEarly b s c r env v = refl

  abbrev pub at : Setting → ℕ → Setting
  at c = below false c shape.VariableDeclarator 0

  abbrev pub Says : Question → Type 0
  Says q =
      (c : Setting) (env : Environment) (v : Tree) → q.before c env shape.VariableDeclarator [] 0 (parts v) ≡ Silent
      → pace q c env (valued v) ≡ followed (ends_after false (pace q (at c 0) env (binding x))) (followed (ends_after false (pace q (at c 1) env v)) Silent)

  pub valued_says : (g : Fact) (b s : ℕ) → Says (question g b s)
  unfolding pace scopes_by
  valued_says = by_question Says
      (λ o c env v e j. followed (e j) (followed (ends_after false (pace (asks o) (at c 0) (append-nil env j) (binding x))) (followed (ends_after false (pace (asks o) (at c 1) ((append-nil (env ++ []) ∙ append-nil env) j) v)) Silent)))
      (λ b s c env v e j. followed (e j) (followed (ends_after false (pace (early b s) (at c 0) (append-nil env j) (binding x))) (followed (ends_after false (pace (early b s) (at c 1) ((append-nil (env ++ []) ∙ append-nil env) j) v)) Silent)))

  silent_last : (p : Pace) → AtMost Silent (followed (ends_after false p) Silent)
  silent_last Ends = tt
  silent_last Silent = tt
  silent_last Reads = tt

  bare_less : (g : Fact) (b s : ℕ) (c : Setting) → IsRead c.used → (env : Environment) (v : Tree) → AtMost (pace (question g b s) c env (valued absent)) (pace (question g b s) c env (valued v))
  bare_less g b s c r env v =
      let q = question g b s in
      let name = ends_after false (pace q (at c 0) env (binding x)) in
      let value = followed (ends_after false (pace q (at c 1) env v)) Silent in
      subst (λ p. AtMost p (pace q c env (valued v))) (sym (valued_says g b s c env absent (root_silent g b s c r env absent) ∙ ap (λ p. followed name (followed (ends_after false p) Silent)) (absent_silent g b s (at c 1) env)))
      (subst (AtMost (followed name Silent)) (sym (valued_says g b s c env v (root_silent g b s c r env v))) (both name name Silent value (itself name) (silent_last (pace q (at c 1) env v))))

  -- ---- the value `undefined`

  module _ (v : Tree) (u : IsUndefined v) where
    -- whatever is so of both values
    for_each : (P : Tree → Type 0) → P (identifier (unresolved (codes "undefined"))) → P void_zero → P v
    for_each P y z = by u
      where
        by : IsUndefined v → P v
        by (inl h) = subst P (sym h) y
        by (inr h) = subst P (sym h) z

    names_same : (d : Declared) → names_of d (valued absent) ≡ names_of d (valued v)
    unfolding names_of
    names_same declared.Bound = refl
    names_same declared.Lexical = refl
    names_same declared.Hoisted = refl

    kept : Kept (valued v) (valued absent)
    unfolding body_names names_of has_inner declared_in scopes_by
    kept = record {
      names = names_same;
      body = refl;
      inner = for_each (λ t. has_inner (valued absent) ≡ has_inner (valued t)) refl refl;
      symbols = λ w y. omega arith;
    }

    numbers : (z i r : Bool) → (z || (i || ((z || false) || false))) ≡ true → (z || (i || r)) ≡ true
    numbers true i r e = refl
    numbers false true r e = refl
    numbers false false r e = absurd (true≢false (sym e))

    likewise : Likewise (valued v) (valued absent)
    unfolding has_eval names_arguments has_number
    likewise = record {
      kept = kept;
      absent = refl;
      pattern = refl;
      eval = λ e. absurd (true≢false (sym e));
      callee = λ e. absurd (true≢false (sym e));
      arguments = or_implied (names_arguments (binding x)) false (names_arguments (binding x)) (names_arguments v || false) (λ e. e) (λ e. absurd (true≢false (sym e)));
      number = λ b e. numbers (nat_eq 0 b) (has_number b (binding x)) (has_number b v || false) e;
    }

    undefined_told : LessTold IsRead (valued v) (valued absent)
    undefined_told = record { likewise = likewise; said = λ g b s c r env. bare_less g b s c r env v }

-- ---- the declaration

declared_told : (n w : Tree) → Row61 n w → LessTold Anyhow n w
declared_told n w r =
    let old = declarator (binding r.name) r.init in
    let new = declarator (binding r.name) absent in
    let list = over_less IsRead IsRead old new (undefined_told r.name r.init r.undefined) r.before r.after shape.Listed [] 0 (λ v e. e) in
    told_along Anyhow n w (declaration Let (append r.before (old ▸ r.after))) (declaration Let (append r.before (new ▸ r.after))) r.shape r.written
    (over_less IsRead Anyhow (listed (append r.before (old ▸ r.after))) (listed (append r.before (new ▸ r.after))) list none none (shape.VariableDeclaration Let) [] 0 (λ v e. refl))

held_told : (i : Item) (n w : Tree) → LessTold Anyhow n w → LessTold Anyhow (held i n) (held i w)
held_told Alone n w k = k
held_told (Exported specifiers source) n w k = over_less Anyhow Anyhow n w k none (specifiers ▸ (source ▸ none)) shape.ExportNamedDeclaration [] 0 (λ v e. tt)

told_anyhow : (p : Position) (n w : Tree) → LessTold Anyhow n w → LessAt p n w
told_anyhow p n w k = less_told Anyhow p n w (λ strict s o f. k) (λ v e. tt)

list_less : (p : Position) (n w : Tree) → InList Row61Item n w → LessAt p n w
list_less p n w r =
    let i = r.row in
    told_anyhow p n w (told_along Anyhow n w (listed (append r.before (held i.item i.declared ▸ r.after))) (listed (append r.before (held i.item i.bare ▸ r.after)))
    (r.shape ∙ ap (λ ts. listed (append r.before (append ts r.after))) i.shape) (r.written ∙ ap (λ ts. listed (append r.before (append ts r.after))) i.written)
    (over_less Anyhow Anyhow (held i.item i.declared) (held i.item i.bare) (held_told i.item i.declared i.bare (declared_told i.declared i.bare i.row)) r.before r.after shape.Listed [] 0 (λ v e. tt)))

row_less : (p : Position) (n w : Tree) → DeclarationRow p n w → LessAt p n w
row_less StatementList n w r = list_less StatementList n w r
row_less BodyList n w r = list_less BodyList n w r
row_less (Stmt q) n w r =
    told_anyhow (Stmt q) n w (told_along Anyhow n w (for_loop r.declared r.test r.update r.body) (for_loop r.bare r.test r.update r.body) r.shape r.written
    (over_less Anyhow Anyhow r.declared r.bare (declared_told r.declared r.bare r.row) none (r.test ▸ (r.update ▸ (r.body ▸ none))) shape.ForStatement [] 0 (λ v e. tt)))
row_less p n w r = absurd r

pub declarations_read_less : DeclarationsReadLess
declarations_read_less = reads_less_by DeclarationContracts (λ p n w c. row_less p n w c.row)

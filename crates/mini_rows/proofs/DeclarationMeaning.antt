-- What the rows of declarations write means the same.
use Rattle.std.proofs.Common.{◌≡◌, ℕ, zero, suc, true, false, [], ◌++◌, Option, Some, None, refl, sym, ap, ◌∙◌, inl, inr}
use Rattle.mini_model.specs.declared.kind.VariableDeclarationKind.TheVariants.{Let}
use Rattle.mini_model.specs.declared.place.Position.{Position}
use Rattle.mini_model.specs.declared.place.Position.TheVariants.{Stmt, StatementList, BodyList}
use Rattle.mini_model.specs.declared.shape.Shape.TheVariants as shape
use Rattle.mini_model.specs.Tree.{Tree, Trees, none, ◌▸◌, absent}
use Rattle.mini_model.specs.Paths.{append}
use Rattle.mini_laws.specs.Value.{Undefined}
use Rattle.mini_laws.specs.State.{State, stop, either, Environment}
use Rattle.mini_laws.specs.Demand.{Val, Demand, As, Stat, Declares, Binds, LabelSet, Request}
use Rattle.mini_laws.specs.Command.{ret, kid, then, run}
use Rattle.mini_laws.specs.Naming.{Declared, Variables, summary, summaries, lets_all, naming}
use Rattle.mini_laws.specs.Asking.{first_demand, for_demand}
use Rattle.mini_laws.specs.Declarations.{declares_by}
use Rattle.mini_laws.specs.Loops.{for_step}
use Rattle.mini_laws.specs.Fits.{Fits}
use Rattle.mini_laws.specs.Rows.{SameAt}
use Rattle.mini_laws.specs.Rewritten.{MeansSame}
use Rattle.mini_laws.specs.Step.{step, means, meaning}
use Rattle.mini_laws.proofs.Runs.{either_cong, either_eta, either_ok}
use Rattle.mini_laws.proofs.Rows.{Equal, equal_same}
use Rattle.mini_laws.proofs.Tailing.{finished, finish_none}
use Rattle.mini_rows.specs.Lists.{declaration, for_loop, InList}
use Rattle.mini_rows.specs.Spellings.{IsUndefined}
use Rattle.mini_rows.specs.Declarations.{binding, declarator, Row61, Item, Alone, Exported, held, Row61Item, Row61For, DeclarationRow, DeclarationContracts}
use Rattle.mini_rows.proofs.BodyLists.{body_same}
use Rattle.mini_rows.proofs.ListStretches.{SameStretch, lets_append, exec_one, in_list, list_does, list_reads, replaced}
use Rattle.mini_rows.proofs.ListStatements.{declare, declare_more, declare_append, declaration_is}
use Rattle.mini_rows.proofs.ListHeads.{for_names, for_kids}
use Rattle.mini_rows.proofs.BranchMeaning.{SameStatement, equal_statement, statement_same, undefined_is, replaced as statement_replaced}

-- ---- a declarator

present : (v : Tree) → IsUndefined v → (summary v).facts.absent ≡ false
present v (inl h) = ap (λ x. (summary x).facts.absent) h
present v (inr h) = ap (λ x. (summary x).facts.absent) h

initialised : (e : Environment) (id v : Tree) → (summary v).facts.absent ≡ false → (s : State) → means e (declarator id v) (Declares true) tt s ≡ either (means e v (As Val) tt s) (λ a z. means e id (Binds true) a z) (λ x z. stop x z)
unfolding means meaning step
initialised e id v h s =
    ap (λ b. run {q = first_demand (Binds true) (As Val)} e (naming shape.VariableDeclarator (Declares true) [] 0 (summaries (id ▸ (v ▸ none)))) (λ i r z. meaning e (id ▸ (v ▸ none)) i (first_demand (Binds true) (As Val) i) r z) (declares_by true b) s) h
    ∙ either_cong (means e v (As Val) tt s) _ _ _ _ (λ a z. either_eta (means e id (Binds true) a z)) (λ x z. refl)

bare : (e : Environment) (id : Tree) (s : State) → means e (declarator id absent) (Declares true) tt s ≡ means e id (Binds true) Undefined s
unfolding means meaning step
bare e id s = either_eta (means e id (Binds true) Undefined s)

declarator_same : (e : Environment) (id v : Tree) → IsUndefined v → (s : State) → means e (declarator id v) (Declares true) tt s ≡ means e (declarator id absent) (Declares true) tt s
declarator_same e id v u s =
    initialised e id v (present v u) s
    ∙ ap (λ x. either x (λ a z. means e id (Binds true) a z) (λ x z. stop x z)) (undefined_is e v u s)
    ∙ either_ok Undefined s _ _
    ∙ sym (bare e id s)

-- ---- a declaration

module _ (before : Trees) (id v : Tree) (after : Trees) (u : IsUndefined v) where
  abbrev pub first : Trees
  first = append before (declarator id v ▸ after)

  abbrev pub second : Trees
  second = append before (declarator id absent ▸ after)

  declare_same : (e : Environment) (s : State) → declare e first true s ≡ declare e second true s
  declare_same e s =
      declare_append e before (declarator id v ▸ after) true s
      ∙ either_cong (declare e before true s) _ _ _ _
      (λ w z. declare_more e (declarator id v) after true z ∙ ap (λ x. either x (λ w y. declare e after true y) (λ x y. stop x y)) (declarator_same e id v u z) ∙ sym (declare_more e (declarator id absent) after true z)) (λ x z. refl)
      ∙ sym (declare_append e before (declarator id absent ▸ after) true s)

  declaration_same : (e : Environment) (r : LabelSet) (s : State) → means e (declaration Let first) (Stat None) r s ≡ means e (declaration Let second) (Stat None) r s
  declaration_same e r s = declaration_is e Let first r s ∙ declare_same e s ∙ sym (declaration_is e Let second r s)

  lets_same : lets_all (summaries first) ≡ lets_all (summaries second)
  lets_same = lets_append before (declarator id v ▸ after) ∙ sym (lets_append before (declarator id absent ▸ after))

  read_same : summary (declaration Let first) ≡ summary (declaration Let second)
  read_same = ap (λ l. record { facts = record { absent = false; shortens = false; declared = Some (Variables Let); functions = []; texts = [] }; lets = l; name = None; functions = [] }) lets_same

-- a row reads one as the other
record Alike (n w : Tree) : Type 0 where
  by : (e : Environment) (r : LabelSet) (s : State) → means e n (Stat None) r s ≡ means e w (Stat None) r s
  read : summary n ≡ summary w

row_61 : (n w : Tree) → Row61 n w → Alike n w
row_61 n w r =
    let id = binding r.name in
    record {
      by = λ e l s. ap (λ t. means e t (Stat None) l s) r.shape ∙ declaration_same r.before id r.init r.after r.undefined e l s ∙ sym (ap (λ t. means e t (Stat None) l s) r.written);
      read = ap summary r.shape ∙ read_same r.before id r.init r.after r.undefined ∙ sym (ap summary r.written);
    }

-- ---- in a list

exported_is : (e : Environment) (specifiers source d : Tree) (s : State) → means e (held (Exported specifiers source) d) (Stat None) [] s ≡ means e d (Stat None) [] s
unfolding means meaning step
exported_is e specifiers source d s =
    finished e (naming shape.ExportNamedDeclaration (Stat None) [] 0 (summaries (d ▸ (specifiers ▸ (source ▸ none))))) (λ i. Stat None) (λ i r z. meaning e (d ▸ (specifiers ▸ (source ▸ none))) i (Stat None) r z) None (kid 0 [] (then ret)) s ∙ finish_none _ ∙ either_eta (means e d (Stat None) [] s)

held_same : (item : Item) (n w : Tree) → Alike n w → SameStretch (held item n ▸ none) (held item w ▸ none)
held_same Alone n w h = record {
  by = λ e s. exec_one e n s ∙ h.by e [] s ∙ sym (exec_one e w s);
  read = record { lets = ap (λ i. i.lets ++ []) h.read; functions = ap (λ i. i.functions ++ []) h.read; facts = ap (λ i. i.facts.functions ++ []) h.read; texts = ap (λ i. i.facts.texts ++ []) h.read };
}
held_same (Exported specifiers source) n w h = record {
  by = λ e s.
      exec_one e (held (Exported specifiers source) n) s ∙ exported_is e specifiers source n s ∙ h.by e [] s
      ∙ sym (exec_one e (held (Exported specifiers source) w) s ∙ exported_is e specifiers source w s);
  read = record { lets = ap (λ i. i.lets ++ []) h.read; functions = ap (λ i. i.functions ++ []) h.read; facts = ap (λ i. i.facts.functions ++ []) h.read; texts = refl };
}

item_same : (a b : Trees) → Row61Item a b → SameStretch a b
item_same a b r = replaced a _ b _ r.shape r.written (held_same r.item r.declared r.bare (row_61 r.declared r.bare r.row))

-- ---- in the head of a `for`

a_let : Option Declared
a_let = Some (Variables Let)

module _ (e : Environment) (test update body : Tree) (n w : Tree) (h : Alike n w) where
  kids_same : (i : ℕ) (r : Request (for_demand a_let i)) (z : State) → for_kids e test update body n a_let i r z ≡ for_kids e test update body w a_let i r z
  unfolding meaning a_let
  kids_same zero r z = h.by e r z
  kids_same (suc i) r z = refl

for_is_let : (e : Environment) (test update body : Tree) (ds : Trees) (r : LabelSet) (s : State) → means e (for_loop (declaration Let ds) test update body) (Stat None) r s ≡ run {q = for_demand a_let} e (for_names (lets_all (summaries ds))) (for_kids e test update body (declaration Let ds) a_let) (for_step a_let (summary test).facts.absent r) s
unfolding means meaning step a_let
for_is_let e test update body ds r s =
    finished e (for_names (lets_all (summaries ds))) (for_demand a_let) (for_kids e test update body (declaration Let ds) a_let) None (for_step a_let (summary test).facts.absent r) s ∙ finish_none _

for_same : (test update body : Tree) (n w : Tree) → Row61 n w → SameStatement (for_loop n test update body) (for_loop w test update body)
for_same test update body n w r =
    let id = binding r.name in
    let h = row_61 n w r in
    statement_replaced _ (for_loop (declaration Let (first r.before id r.init r.after r.undefined)) test update body) _ (for_loop (declaration Let (second r.before id r.init r.after r.undefined)) test update body) (ap (λ d. for_loop d test update body) r.shape) (ap (λ d. for_loop d test update body) r.written)
    (equal_statement _ _ (λ e l s.
    for_is_let e test update body (first r.before id r.init r.after r.undefined) l s
    ∙ ap (λ ls. run {q = for_demand a_let} e (for_names ls) (for_kids e test update body (declaration Let (first r.before id r.init r.after r.undefined)) a_let) (for_step a_let (summary test).facts.absent l) s) (lets_same r.before id r.init r.after r.undefined)
    ∙ ap (λ K. run {q = for_demand a_let} e (for_names (lets_all (summaries (second r.before id r.init r.after r.undefined)))) K (for_step a_let (summary test).facts.absent l) s)
    (λ t i q z. kids_same e test update body (declaration Let (first r.before id r.init r.after r.undefined)) (declaration Let (second r.before id r.init r.after r.undefined))
    (record { by = declaration_same r.before id r.init r.after r.undefined; read = read_same r.before id r.init r.after r.undefined }) i q z t)
    ∙ sym (for_is_let e test update body (second r.before id r.init r.after r.undefined) l s)) refl)

-- ---- whichever row it is

list_same : (n w : Tree) (r : InList Row61Item n w) → SameStretch (append r.before (append r.read r.after)) (append r.before (append r.put r.after))
list_same n w r = in_list r.before r.read r.put r.after (item_same r.read r.put r.row)

list_equal : (n w : Tree) → InList Row61Item n w → Equal StatementList n w
list_equal n w r = record { by = λ e d f z s. go e d f z s }
  where
    same : SameStretch (append r.before (append r.read r.after)) (append r.before (append r.put r.after))
    same = list_same n w r

    go : (e : Environment) (d : Demand) → Fits StatementList d → (z : Request d) (s : State) → means e n d z s ≡ means e w d z s
    go e (Stat t) f z s = ap (λ x. means e x (Stat t) z s) r.shape ∙ list_does _ _ same e t z s ∙ sym (ap (λ x. means e x (Stat t) z s) r.written)
    go e d f z s = elim f [ ]

for_row_same : (n w : Tree) → Row61For n w → SameStatement n w
for_row_same n w r = statement_replaced n _ w _ r.shape r.written (for_same r.test r.update r.body r.declared r.bare r.row)

row_same : (p : Position) (n w : Tree) → DeclarationRow p n w → SameAt p n w
row_same StatementList n w r = equal_same StatementList n w (list_equal n w r)
row_same BodyList n w r = body_same n w (equal_same StatementList n w (list_equal n w r))
row_same (Stmt q) n w r = statement_same n w (for_row_same n w r) q
row_same p n w r = absurd r

row_reads : (p : Position) (n w : Tree) → DeclarationRow p n w → summary n ≡ summary w
row_reads StatementList n w r = ap summary r.shape ∙ list_reads _ _ (list_same n w r) ∙ sym (ap summary r.written)
row_reads BodyList n w r = ap summary r.shape ∙ list_reads _ _ (list_same n w r) ∙ sym (ap summary r.written)
row_reads (Stmt q) n w r = (for_row_same n w r).read
row_reads p n w r = absurd r

pub declarations_same : MeansSame DeclarationContracts
declarations_same = record { same = λ p n w c. row_same p n w c.row; reads = λ p n w c. row_reads p n w c.row }

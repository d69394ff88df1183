-- Rows of names that can be written ask less.
use Rattle.std.specs.Prelude.{◌≡◌, refl, Bool, true, false, Option, Some, None}
use Rattle.std.proofs.Common.{inl, inr, sym, subst}
use Rattle.mini_model.specs.declared.name.Name.{Name}
use Rattle.mini_model.specs.declared.operator.AssignmentOperator.TheVariants.{Assign}
use Rattle.mini_model.specs.declared.operator.BinaryOperator.TheVariants.{Equality, Inequality}
use Rattle.mini_model.specs.declared.operator.LogicalOperator.{LogicalOperator}
use Rattle.mini_model.specs.declared.operator.LogicalOperator.TheVariants.{Coalesce}
use Rattle.mini_model.specs.declared.place.Position.{Position}
use Rattle.mini_model.specs.declared.place.Position.TheVariants.{Expr}
use Rattle.mini_model.specs.declared.seat.Seat.{Seat}
use Rattle.mini_model.specs.Tree.{Tree, none, ◌▸◌, identifier, logical, null_literal}
use Rattle.mini_laws.specs.Value.{VariableSet}
use Rattle.mini_rows.specs.Chains.{spine, chain}
use Rattle.mini_rows.specs.Choices.{assign, joining, strictly, loosely, deciding, ended}
use Rattle.mini_rows.specs.Sketches.{Logical, Conditional, Assignment, AsValue}
use Rattle.mini_rows.specs.Spellings.{binary}
use Rattle.mini_rows.specs.Unused.{resolved}
use Rattle.mini_rows.specs.Writes.{if_null, Row34, Row46Assigned, Row37Assigned, Row46AssignedChain, WriteRow, WriteContracts}
use Rattle.mini_terms.specs.Exact.{kept_by_value}
use Rattle.mini_less.specs.Families.{LessAt, WritesReadLess}
use Rattle.mini_less.proofs.ChainsLess.{IsBuilt, built_less, spine_made, a_chain, guarded_made, guarded_built}
use Rattle.mini_less.proofs.ConditionalsLess.{ended_parts, assigned_parts, retargeted}
use Rattle.mini_less.proofs.LessRows.{reads_less_by}
use Rattle.mini_less.proofs.Nodes.{binary_parts, a_binary, logical_parts, a_logical, conditional_parts, a_null, made_under}

ended_built : (o : LogicalOperator) (b : Option Tree) (t : Tree) → IsBuilt t → IsBuilt (ended o b t)
ended_built o None t e = e
ended_built o (Some b) t e = (refl, refl)

module _ (W : VariableSet) (q : Seat) (n w : Tree) where
  combined_less : Row34 W n w → LessAt (Expr q) n w
  combined_less r =
      let x : Name = resolved r.spelling r.symbol in
      made_under q n w (Assignment Assign) (identifier x ▸ logical r.operator (identifier x) r.b ▸ none) refl r.shape tt (Assignment (deciding r.operator)) (identifier x ▸ r.b ▸ none) refl r.written (λ strict y k Q l z.
      let (target, rest) = assigned_parts Q l Assign (identifier x) (logical r.operator (identifier x) r.b) (subst (Q AsValue) r.shape z) in
      let (name, value) = logical_parts Q l r.operator (identifier x) r.b rest in
      subst (Q AsValue) (sym r.written) (retargeted Q l (deciding r.operator) (identifier x) r.b target (l.updated x target name) value))

  assigned_less : Row46Assigned W n w → LessAt (Expr q) n w
  assigned_less r = by r.equal r.shape
    where
      by : (equal : Bool) → n ≡ if_null equal (assign (resolved r.spelling r.symbol) r.a) r.b (identifier (resolved r.spelling r.symbol)) → LessAt (Expr q) n w
      by true e =
          let x : Name = resolved r.spelling r.symbol in
          let t : Tree = assign x r.a in
          made_under q n w Conditional (binary Equality t null_literal ▸ r.b ▸ identifier x ▸ none) refl e tt (Logical Coalesce) (t ▸ r.b ▸ none) refl r.written (λ strict y k Q l z.
          let (a, (b, c)) = conditional_parts Q l (binary Equality t null_literal) r.b (identifier x) (subst (Q AsValue) e z) in
          subst (Q AsValue) (sym r.written) (a_logical Q l Coalesce t r.b (binary_parts Q l Equality t null_literal a).0 b))
      by false e =
          let x : Name = resolved r.spelling r.symbol in
          let t : Tree = assign x r.a in
          made_under q n w Conditional (binary Inequality t null_literal ▸ identifier x ▸ r.b ▸ none) refl e tt (Logical Coalesce) (t ▸ r.b ▸ none) refl r.written (λ strict y k Q l z.
          let (a, (b, c)) = conditional_parts Q l (binary Inequality t null_literal) (identifier x) r.b (subst (Q AsValue) e z) in
          subst (Q AsValue) (sym r.written) (a_logical Q l Coalesce t r.b (binary_parts Q l Inequality t null_literal a).0 c))

  nullish_less : Row37Assigned W n w → LessAt (Expr q) n w
  nullish_less r =
      let x : Name = resolved r.spelling r.symbol in
      let o : LogicalOperator = joining r.equal in
      let t : Tree = assign x r.a in
      let one : Tree = binary (strictly r.equal) t r.first in
      let two : Tree = binary (strictly r.equal) (identifier x) r.second in
      let put : Tree = binary (loosely r.equal) t null_literal in
      built_less q n w (Logical o) (ended o r.before one ▸ two ▸ none) refl r.shape tt (ended o r.before put) r.written (ended_built o r.before put (refl, refl)) (λ strict y k Q l z.
      let (first, f) = ended_parts Q l o r.before one (logical_parts Q l o (ended o r.before one) two (subst (Q AsValue) r.shape z)).0 in
      subst (Q AsValue) (sym r.written) (f put (a_binary Q l (loosely r.equal) t null_literal (binary_parts Q l (strictly r.equal) t r.first first).0 (a_null Q l))))

  chain_less : Row46AssignedChain W q n w → LessAt (Expr q) n w
  chain_less r = by r.equal r.shape
    where
      by : (equal : Bool) → n ≡ if_null equal (assign (resolved r.spelling r.symbol) r.a) r.missing (spine false (identifier (resolved r.spelling r.symbol)) r.last r.others) → LessAt (Expr q) n w
      by true e =
          let x : Name = resolved r.spelling r.symbol in
          let t : Tree = assign x r.a in
          let s : Tree = spine false (identifier x) r.last r.others in
          let c : Tree = chain (spine true t r.last r.others) in
          built_less q n w Conditional (binary Equality t null_literal ▸ r.missing ▸ s ▸ none) refl e tt (kept_by_value q.guard c) r.written (guarded_built q.guard c (refl, refl)) (λ strict y k Q l z.
          let (test, (missing, links)) = conditional_parts Q l (binary Equality t null_literal) r.missing s (subst (Q AsValue) e z) in
          let (name, f) = spine_made Q l (identifier x) r.last r.others links in
          subst (Q AsValue) (sym r.written) (guarded_made Q l q.guard c (a_chain Q l (spine true t r.last r.others) (f t (l.nameless t refl) (binary_parts Q l Equality t null_literal test).0))))
      by false e =
          let x : Name = resolved r.spelling r.symbol in
          let t : Tree = assign x r.a in
          let s : Tree = spine false (identifier x) r.last r.others in
          let c : Tree = chain (spine true t r.last r.others) in
          built_less q n w Conditional (binary Inequality t null_literal ▸ s ▸ r.missing ▸ none) refl e tt (kept_by_value q.guard c) r.written (guarded_built q.guard c (refl, refl)) (λ strict y k Q l z.
          let (test, (links, missing)) = conditional_parts Q l (binary Inequality t null_literal) s r.missing (subst (Q AsValue) e z) in
          let (name, f) = spine_made Q l (identifier x) r.last r.others links in
          subst (Q AsValue) (sym r.written) (guarded_made Q l q.guard c (a_chain Q l (spine true t r.last r.others) (f t (l.nameless t refl) (binary_parts Q l Inequality t null_literal test).0))))

row_less : (W : VariableSet) (p : Position) (n w : Tree) → WriteRow W p n w → LessAt p n w
row_less W (Expr q) n w (inl r) = combined_less W q n w r
row_less W (Expr q) n w (inr (inl r)) = assigned_less W q n w r
row_less W (Expr q) n w (inr (inr (inl r))) = nullish_less W q n w r
row_less W (Expr q) n w (inr (inr (inr r))) = chain_less W q n w r
row_less W p n w r = absurd r

pub writes_read_less : WritesReadLess
writes_read_less W = reads_less_by (WriteContracts W) (λ p n w c. row_less W p n w c.row)

-- What the top call answers.
use Rattle.std.specs.Prelude.{◌≡◌, ◌⊎◌, ℕ, ◌∷◌, Some, None, Ok, Err, IfSome}
use Rattle.serde_json.specs.Data.{Data}
use Rattle.serde_json.specs.View.{view}
use Rattle.mini_model.specs.declared.place.Position.{Position}
use Rattle.mini_model.specs.Tree.{Tree}
use Rattle.mini_tree.specs.declared.options.CompressOptions.{CompressOptions}
use Rattle.mini_accept.specs.Faults as estree
use Rattle.mini_accept.specs.Accept.{program_at, Accepts}
use Rattle.mini_laws.specs.Resolved.{resolved_program}
use Rattle.mini_laws.specs.Symbols.{declared_symbols}
use Rattle.mini_scope.specs.Pointers.{early_fault}
use Rattle.mini_writer.specs.Written.{program_data}
use Rattle.mini_model.specs.Faults.{Fault, fault_of}
use Rattle.mini_model.specs.declared.error.MinifyError.{MinifyError}
use Rattle.mini_estree.specs.Reads.{fault_told}
use Rattle.mini_tree.specs.Passes.{MakesPasses}
use Rattle.mini_kept.specs.Carried.{numbers, symbol_numbers}
use Rattle.mini_peephole.specs.Rules.{AllGives, AllRests}
use Rattle.mini_model.specs.Weight.{capped, program_weight}
use Rattle.mini_peephole.specs.declared.minify.Minified.{Minified}
use Rattle.mini_peephole.specs.declared.minify.Weighed.{Weighed}

-- passes of a rule, which over a program may make G of a tree and has nothing to do where D is,
-- lead from the tree to the one that was written; the answer has the numbers of its nodes, the
-- program's first, and those of the symbols that its scopes declare
pub record IsWritten (G : Tree → Position → Tree → Tree → Type 0) (D : Tree → Position → Tree → Type 0) (input : Tree) (bound : ℕ) (m : Minified) : Type 0 where
  pub output : Tree
  pub passes : MakesPasses G D input output bound m.passes m.settled
  pub written : view m.program ≡ program_data output
  pub kept : m.kept ≡ 0 ∷ numbers output
  pub symbols : m.symbols ≡ symbol_numbers (declared_symbols output)

-- those of all rules, as the options have them
abbrev pub IsRewriting : Tree → CompressOptions → Minified → Type 0
IsRewriting input o m = IsWritten (AllGives o) (AllRests o) input o.passes m

-- the tree has no early error, and is resolved and rewritten by a rule
pub record IsAnswerOf (G : CompressOptions → Tree → Position → Tree → Tree → Type 0) (D : CompressOptions → Tree → Position → Tree → Type 0) (input : Tree) (o : CompressOptions) (m : Minified) : Type 0 where
  pub free : early_fault input ≡ None
  pub rewriting : IsWritten (G o) (D o) (resolved_program input) o.passes m

abbrev pub IsAnswer : Tree → CompressOptions → Minified → Type 0
IsAnswer = IsAnswerOf AllGives AllRests

-- and both weigh this, up to the greatest number that is told
pub record IsWeighedAnswer (input : Tree) (o : CompressOptions) (w : Weighed) : Type 0 where
  pub answer : IsAnswer input o w.minified
  pub before : w.before ≡ capped (program_weight (resolved_program input))
  pub after : w.after ≡ capped (program_weight answer.rewriting.output)

-- the value is accepted with a tree for which this is the answer
pub record IsMinifiedBy (G : CompressOptions → Tree → Position → Tree → Tree → Type 0) (D : CompressOptions → Tree → Position → Tree → Type 0) (d : Data) (o : CompressOptions) (m : Minified) : Type 0 where
  pub input : Tree
  pub accepted : Accepts d input
  pub answer : IsAnswerOf G D input o m

abbrev pub IsMinified : Data → CompressOptions → Minified → Type 0
IsMinified = IsMinifiedBy AllGives AllRests

-- reading the value to the depth of the options ends with this fault
pub record IsUnread (d : Data) (o : CompressOptions) (f : Fault) : Type 0 where
  pub fault : estree.Fault
  pub read : program_at o.max_depth d ≡ Err fault
  pub told : f ≡ fault_told fault

-- the value is read as a program that has this early error
pub record HasEarlyError (d : Data) (o : CompressOptions) (f : Fault) : Type 0 where
  pub program : Tree
  pub numbers : ℕ
  pub read : program_at o.max_depth d ≡ Ok (program, numbers)
  pub early : early_fault program ≡ Some f

-- the value is no program that is read to the depth of the options, and this is its first defect;
-- or it is one with this early error, its first
abbrev pub HasDefect : Data → CompressOptions → Fault → Type 0
HasDefect d o f = IsUnread d o f ⊎ HasEarlyError d o f

-- an error tells a defect of the value and its place, unless it is want of memory
abbrev pub IsRefusal : Data → CompressOptions → MinifyError → Type 0
IsRefusal d o e = IfSome (fault_of e) (λ f. HasDefect d o f)

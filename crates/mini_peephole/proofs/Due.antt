-- What was delivered of a whole input is what is due of a run that read it; and a valid input is answered.
use Rattle.std.proofs.Common.{◌≡◌, ℕ, ◌≤◌, ◌++◌, List, [], length, sym, ap, subst, ◌∙◌, inl, inr, arith}
use Rattle.std.specs.Prelude.{◌⊎◌, Option, Some, None, Ok, IfSome}
use Rattle.serde_json.specs.Data.{Data}
use Rattle.mini_model.specs.Tree.{Tree}
use Rattle.mini_accept.specs.Accept.{program_at}
use Rattle.std.specs.Io.KnownBytes.{Consumes, IsAtEnd}
use Rattle.std.proofs.lemmas.List.{length-append, append-nil}
use Rattle.mini_tree.specs.declared.options.CompressOptions.{CompressOptions}
use Rattle.mini_accept.specs.Faults as estree
use Rattle.mini_accept.proofs.Results.{ok_same}
use Rattle.mini_model.specs.Faults.{Fault}
use Rattle.mini_scope.specs.Pointers.{early_fault}
use Rattle.mini_peephole.specs.Minified.{HasDefect}
use Rattle.mini_peephole.specs.Answer.{Change, Gave, HasFault, IsNotJson, Answering, HasAnswer, IsUntouched, IsDelivered, IsDeliveredOf, IsReadDue, IsDue, IsValidInput, IsValidScript, IsAnswered, to_read, to_generate}
use Rattle.mini_run.specs.Words.{NameOrders}
use Rattle.mini_run.specs.declared.choice.Orders.{Orders}
use Rattle.mini_peephole.specs.declared.running.Status.{Status}
use Rattle.mini_peephole.specs.declared.running.Status.TheVariants.{Done, BadWords, NotJson, Refused, ReadFault, WriteFault, TooLong, OutOfMemory}
use Rattle.mini_run.specs.Generated.{generated_data}
use Rattle.mini_run.proofs.Named.{orders_one, good_orders, few_ordered}

-- ---- what is ordered

pub ordered_to_read : (words : List (List ℕ)) (r : Orders) → NameOrders words r → r.generate ≡ None → NameOrders words (to_read r.options)
ordered_to_read words r name e = subst (NameOrders words) (ap (λ g. record { options = r.options; generate = g }) e) name

pub ordered_to_generate : (words : List (List ℕ)) (r : Orders) (n : ℕ) → NameOrders words r → r.generate ≡ Some n → NameOrders words (to_generate r.options n)
ordered_to_generate words r n name e = subst (NameOrders words) (ap (λ g. record { options = r.options; generate = g }) e) name

pub few_to_generate : (words : List (List ℕ)) (r : Orders) (n : ℕ) → NameOrders words r → r.generate ≡ Some n → n ≤ 2000
few_to_generate words r n name e = subst (λ g. IfSome g (λ n. n ≤ 2000)) e (few_ordered words r name)

-- ---- what is due

module _ (A : Answering) where
  pub read_due : (s : Status) (words : List (List ℕ)) (o : CompressOptions) (source sink notes : Change) (input : List ℕ) → NameOrders words (to_read o) → Gave source input → IsDelivered A s o input sink notes → IsReadDue A s words source sink notes
  read_due Done words o source sink notes input name gave d = (o, name, input, gave, d)
  read_due WriteFault words o source sink notes input name gave d = (o, name, input, gave, d)
  read_due NotJson words o source sink notes input name gave d = (o, name, input, gave, d)
  read_due Refused words o source sink notes input name gave d = (o, name, input, gave, d)
  read_due OutOfMemory words o source sink notes input name gave d = ((o, name), d.0, d.1)
  read_due BadWords words o source sink notes input name gave d = absurd d
  read_due ReadFault words o source sink notes input name gave d = absurd d
  read_due TooLong words o source sink notes input name gave d = absurd d

-- words that order to read are good
pub due_of : (s : Status) (words : List (List ℕ)) (o : CompressOptions) (source sink notes : Change) → NameOrders words (to_read o) → IsReadDue HasAnswer s words source sink notes → IsDue s words source sink notes
due_of Done words o source sink notes name d = inl d
due_of WriteFault words o source sink notes name d = inl d
due_of NotJson words o source sink notes name d = d
due_of Refused words o source sink notes name d = inl d
due_of OutOfMemory words o source sink notes name d = (good_orders words (to_read o) name, d.1, d.2)
due_of BadWords words o source sink notes name d = absurd (d.0 (o, name))
due_of ReadFault words o source sink notes name d = d
due_of TooLong words o source sink notes name d = d

pub due_of_script : (s : Status) (words : List (List ℕ)) (o : CompressOptions) (n : ℕ) (source sink notes : Change) → NameOrders words (to_generate o n) → IsUntouched source → IsDeliveredOf s o n sink notes → IsDue s words source sink notes
due_of_script Done words o n source sink notes name kept d = inr (o, n, name, kept, d)
due_of_script WriteFault words o n source sink notes name kept d = inr (o, n, name, kept, d)
due_of_script NotJson words o n source sink notes name kept d = absurd d
due_of_script Refused words o n source sink notes name kept d = inr (o, n, name, kept, d)
due_of_script OutOfMemory words o n source sink notes name kept d = (good_orders words (to_generate o n) name, d.0, d.1)
due_of_script BadWords words o n source sink notes name kept d = absurd d
due_of_script ReadFault words o n source sink notes name kept d = absurd d
due_of_script TooLong words o n source sink notes name kept d = absurd d

-- ---- what is accepted and has no early error has no defect

apart : (d : Data) (t : Tree) (n : ℕ) (o : CompressOptions) (f : Fault) → program_at o.max_depth d ≡ Ok (t, n) → early_fault t ≡ None → HasDefect d o f → ⊥
apart d t n o f accepted free (inl unread) = cc (sym accepted ∙ unread.read)
apart d t n o f accepted free (inr early) =
    let same : t ≡ early.program = ap (λ x. x.0) (ok_same {E = estree.Fault} _ _ (sym accepted ∙ early.read)) in
    cc (sym free ∙ ap early_fault same ∙ early.early)

-- ---- a valid input

all_given : (before after : Option (List ℕ)) (bytes input : List ℕ) → before ≡ Some bytes → Consumes before after input → IsAtEnd after → input ≡ bytes
all_given None after bytes input there gave end = absurd (cc there)
all_given (Some xs) None bytes input there gave end = absurd gave
all_given (Some xs) (Some ys) bytes input there gave end =
    let empty : ys ≡ [] = end in
    let whole : xs ≡ input ++ [] = rw empty at gave in
    sym (append-nil input) ∙ sym whole ∙ cc there

no_more : (before after : Option (List ℕ)) (bytes input : List ℕ) → before ≡ Some bytes → Consumes before after input → length input ≤ length bytes
no_more None after bytes input there gave = absurd (cc there)
no_more (Some xs) None bytes input there gave = absurd gave
no_more (Some xs) (Some ys) bytes input there gave =
    let same : xs ≡ bytes = cc there in
    omega (arith, ap length same, ap length gave, length-append input ys)

is_json : (words : List (List ℕ)) (source : Change) (input : List ℕ) → IsValidInput words source.before → Gave source input → IsNotJson input → ⊥
is_json words source input valid gave none =
    let same = all_given source.before source.after valid.input input valid.there gave.bytes gave.end in
    cc (sym valid.reads ∙ (rw same at none) valid.utf8)

-- words order one thing
same_read : (words : List (List ℕ)) (o o' : CompressOptions) → NameOrders words (to_read o) → NameOrders words (to_read o') → o ≡ o'
same_read words o o' name name' = ap (λ r. r.options) (orders_one words (to_read o) (to_read o') name name')

not_both : (words : List (List ℕ)) (o o' : CompressOptions) (n : ℕ) → NameOrders words (to_read o) → NameOrders words (to_generate o' n) → ⊥
not_both words o o' n name name' = cc (ap (λ r. r.generate) (orders_one words (to_read o) (to_generate o' n) name name'))

no_defect : (words : List (List ℕ)) (o : CompressOptions) (source : Change) (input : List ℕ) (valid : IsValidInput words source.before) → NameOrders words (to_read o) → Gave source input → (f : Fault) → HasFault o input f → ⊥
no_defect words o source input valid name gave f has =
    let same = all_given source.before source.after valid.input input valid.there gave.bytes gave.end in
    let value : valid.value ≡ has.value = cc (sym valid.reads ∙ rw same at has.reads) in
    let defect : HasDefect valid.value valid.options f = rw (value, same_read words valid.options o valid.name name) has.defect in
    apart valid.value valid.program valid.numbers valid.options f valid.accepted valid.free defect

module _ (A : Answering) where
  pub read_answered : (s : Status) (words : List (List ℕ)) (source sink notes : Change) → IsReadDue A s words source sink notes → IsValidInput words source.before → IsAnswered s source.faults_before source.faults_after sink.faults_before sink.faults_after
  read_answered Done words source sink notes due valid = tt
  read_answered OutOfMemory words source sink notes due valid = tt
  read_answered ReadFault words source sink notes due valid = due.1
  read_answered WriteFault words source sink notes (o, name, input, gave, d) valid = d.3
  read_answered BadWords words source sink notes due valid = due.0 (valid.options, valid.name)
  read_answered TooLong words source sink notes due valid =
      let (input, more) = due.1 in
      omega (arith, no_more source.before source.after valid.input input valid.there more.bytes, more.long, valid.short)
  read_answered NotJson words source sink notes (o, name, input, gave, d) valid = is_json words source input valid gave d.0
  read_answered Refused words source sink notes (o, name, input, gave, d) valid = no_defect words o source input valid name gave d.0 d.1

-- where the words order to read, the status says what it says of a run that reads
due_by_read : (s : Status) (words : List (List ℕ)) (o : CompressOptions) (source sink notes : Change) → NameOrders words (to_read o) → IsDue s words source sink notes → IsReadDue HasAnswer s words source sink notes
due_by_read Done words o source sink notes name (inl d) = d
due_by_read Done words o source sink notes name (inr (p, n, other, kept, d)) = absurd (not_both words o p n name other)
due_by_read WriteFault words o source sink notes name (inl d) = d
due_by_read WriteFault words o source sink notes name (inr (p, n, other, kept, d)) = absurd (not_both words o p n name other)
due_by_read NotJson words o source sink notes name d = d
due_by_read Refused words o source sink notes name (inl d) = d
due_by_read Refused words o source sink notes name (inr (p, n, other, kept, d)) = absurd (not_both words o p n name other)
due_by_read OutOfMemory words o source sink notes name d = ((o, name), d.1, d.2)
due_by_read BadWords words o source sink notes name d = absurd (d.0 (good_orders words (to_read o) name))
due_by_read ReadFault words o source sink notes name d = d
due_by_read TooLong words o source sink notes name d = d

-- ---- a script that is generated

same_script : (words : List (List ℕ)) (o o' : CompressOptions) (n n' : ℕ) → NameOrders words (to_generate o n) → NameOrders words (to_generate o' n') → (o ≡ o') × (n ≡ n')
same_script words o o' n n' name name' =
    let same = orders_one words (to_generate o n) (to_generate o' n') name name' in
    (ap (λ r. r.options) same, cc (ap (λ r. r.generate) same))

script_accepted : (words : List (List ℕ)) (o : CompressOptions) (n : ℕ) (valid : IsValidScript words) → NameOrders words (to_generate o n) → (f : Fault) → HasDefect (generated_data n) o f → ⊥
script_accepted words o n valid name f has =
    let (options, count) = same_script words valid.options o valid.statements n valid.name name in
    let defect : HasDefect (generated_data valid.statements) valid.options f = rw (options, count) has in
    apart (generated_data valid.statements) valid.program valid.numbers valid.options f valid.accepted valid.free defect

script_answered : (s : Status) (words : List (List ℕ)) (source sink notes : Change) → IsDue s words source sink notes → IsValidScript words → IsAnswered s source.faults_before source.faults_after sink.faults_before sink.faults_after
script_answered Done words source sink notes due valid = tt
script_answered OutOfMemory words source sink notes due valid = tt
script_answered ReadFault words source sink notes due valid = due.1
script_answered WriteFault words source sink notes (inl (o, name, input, gave, d)) valid = absurd (not_both words o valid.options valid.statements name valid.name)
script_answered WriteFault words source sink notes (inr (o, n, name, kept, d)) valid = d.5
script_answered BadWords words source sink notes due valid = due.0 (good_orders words (to_generate valid.options valid.statements) valid.name)
script_answered TooLong words source sink notes due valid = absurd (not_both words due.0.0 valid.options valid.statements due.0.1 valid.name)
script_answered NotJson words source sink notes (o, name, input, gave, d) valid = absurd (not_both words o valid.options valid.statements name valid.name)
script_answered Refused words source sink notes (inl (o, name, input, gave, d)) valid = absurd (not_both words o valid.options valid.statements name valid.name)
script_answered Refused words source sink notes (inr (o, n, name, kept, d)) valid = script_accepted words o n valid name d.0 d.1

pub answered_of : (s : Status) (words : List (List ℕ)) (source sink notes : Change) → IsDue s words source sink notes → IsValidInput words source.before ⊎ IsValidScript words → IsAnswered s source.faults_before source.faults_after sink.faults_before sink.faults_after
answered_of s words source sink notes due (inl valid) = read_answered HasAnswer s words source sink notes (due_by_read s words valid.options source sink notes valid.name due) valid
answered_of s words source sink notes due (inr valid) = script_answered s words source sink notes due valid

-- What an outcome is, and what of it was written or told, is what a status says.
use Rattle.std.proofs.Common.{◌≡◌, ℕ, List, subst}
use Rattle.std.specs.Prelude.{Option, Some, IfSome}
use Rattle.std.specs.Io.KnownBytes.{Appends}
use Rattle.mini_tree.specs.declared.options.CompressOptions.{CompressOptions}
use Rattle.mini_model.specs.Faults.{Fault, fault_of}
use Rattle.mini_run.specs.Causes.{GrewWithin}
use Rattle.mini_peephole.specs.Answer.{Change, IsTold, note_text, Answering, IsOutcome, IsOutcomeOf, IsFinished, IsDelivered, IsDeliveredOf}
use Rattle.mini_peephole.specs.declared.running.Outcome.{Outcome}
use Rattle.mini_peephole.specs.declared.running.Outcome.TheVariants.{Answer, Unread, Faulty, NoRoom}
use Rattle.mini_peephole.specs.declared.running.Status.{Status}
use Rattle.mini_peephole.specs.declared.running.Status.TheVariants.{Done, NotJson, Refused, WriteFault, OutOfMemory}

told_fault : (notes : Change) (o : Option Fault) (f : Fault) → o ≡ Some f → IfSome o (λ f. IsTold notes (note_text f)) → IsTold notes (note_text f)
told_fault notes o f is told = subst (λ o. IfSome o (λ f. IsTold notes (note_text f))) is told

pub delivered : (A : Answering) (o : CompressOptions) (input : List ℕ) (out : Outcome) (s : Status) (sink notes : Change) → IsOutcome A o input out → IsFinished out s sink notes → IsDelivered A s o input sink notes
delivered A o input NoRoom OutOfMemory sink notes q f = f
delivered A o input Unread NotJson sink notes q f = (q, f.0, f.1)
delivered A o input (Faulty e) Refused sink notes (fault, has, is) f = (fault, has, told_fault notes (fault_of e) fault is f.0, f.1)
delivered A o input (Faulty e) OutOfMemory sink notes q f = f
delivered A o input (Answer text) Done sink notes (m, has, is) f = (m, has, subst (Appends sink.before sink.after) is f.0, f.1)
delivered A o input (Answer text) WriteFault sink notes (m, has, is) f = (m, has, subst (GrewWithin sink.before sink.after) is f.0, f.1, f.2)
delivered A o input out s sink notes q f = absurd f

pub delivered_script : (o : CompressOptions) (n : ℕ) (out : Outcome) (s : Status) (sink notes : Change) → IsOutcomeOf o n out → IsFinished out s sink notes → IsDeliveredOf s o n sink notes
delivered_script o n NoRoom OutOfMemory sink notes q f = f
delivered_script o n Unread NotJson sink notes q f = absurd q
delivered_script o n (Faulty e) Refused sink notes (fault, has, is) f = (fault, has, told_fault notes (fault_of e) fault is f.0, f.1)
delivered_script o n (Faulty e) OutOfMemory sink notes q f = f
delivered_script o n (Answer text) Done sink notes (m, before, after, has, is) f = (m, before, after, has, subst (Appends sink.before sink.after) is f.0, f.1)
delivered_script o n (Answer text) WriteFault sink notes (m, before, after, has, is) f = (m, before, after, has, subst (GrewWithin sink.before sink.after) is f.0, f.1, f.2)
delivered_script o n out s sink notes q f = absurd f

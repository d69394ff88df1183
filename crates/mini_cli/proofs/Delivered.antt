-- What an outcome is, and what of it was written or told, is what a status says.
use Rattle.std.proofs.Common.{ℕ, List}
use Rattle.mini_cli.specs.Run.{Task, Change, Gave, IsOutcome, IsFinished, IsDelivered, IsReadDue, IsDue}
use Rattle.mini_cli.specs.declared.running.Outcome.{Outcome}
use Rattle.mini_cli.specs.declared.running.Outcome.TheVariants.{Answer, Unread, Faulty, NoRoom}
use Rattle.mini_cli.specs.declared.status.Status.{Status}
use Rattle.mini_cli.specs.declared.status.Status.TheVariants.{Done, BadWords, NotJson, Refused, ReadFault, WriteFault, TooLong, OutOfMemory}
use Rattle.std.specs.Prelude.{string_bytes}

pub delivered : (t : Task) (input : List ℕ) (out : Outcome) (s : Status) (sink notes : Change) → IsOutcome t input out → IsFinished out s sink notes → IsDelivered t s input sink notes
delivered t input NoRoom OutOfMemory sink notes q f = f
delivered t input Unread NotJson sink notes q f = (q, f.0, f.1)
delivered t input (Faulty line) Refused sink notes q f = (string_bytes line, q, f.0, f.1)
delivered t input (Answer text) Done sink notes q f = (string_bytes text, q, f.0, f.1)
delivered t input (Answer text) WriteFault sink notes q f = (string_bytes text, q, f.0, f.1, f.2)
delivered t input out s sink notes q f = absurd f

pub read_due : (t : Task) (s : Status) (source sink notes : Change) (input : List ℕ) → Gave source input → IsDelivered t s input sink notes → IsReadDue t s source sink notes
read_due t Done source sink notes input gave d = (input, gave, d)
read_due t WriteFault source sink notes input gave d = (input, gave, d)
read_due t NotJson source sink notes input gave d = (input, gave, d)
read_due t Refused source sink notes input gave d = (input, gave, d)
read_due t OutOfMemory source sink notes input gave d = d
read_due t BadWords source sink notes input gave d = absurd d
read_due t ReadFault source sink notes input gave d = absurd d
read_due t TooLong source sink notes input gave d = absurd d

-- where the words name options
module _ {O : Type 0} (names : List (List ℕ) → O → Type 0) (task : O → Task) where
  pub due_of : (s : Status) (words : List (List ℕ)) (o : O) (source sink notes : Change) → names words o → IsReadDue (task o) s source sink notes → IsDue names task s words source sink notes
  due_of Done words o source sink notes name d = (o, name, d)
  due_of WriteFault words o source sink notes name d = (o, name, d)
  due_of NotJson words o source sink notes name d = (o, name, d)
  due_of Refused words o source sink notes name d = (o, name, d)
  due_of OutOfMemory words o source sink notes name d = (o, name, d)
  due_of ReadFault words o source sink notes name d = (o, name, d)
  due_of TooLong words o source sink notes name d = (o, name, d)
  due_of BadWords words o source sink notes name d = absurd d

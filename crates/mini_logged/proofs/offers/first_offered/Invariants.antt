use Rattle.mini_checker.specs.Forms.{marked}
use Rattle.mini_logged.specs.Offers.{NoneBefore}
use Rattle.mini_logged.proofs.offers.first_offered.Given as goal

abbrev pub invariant-loop-number : goal.invariant-loop-number
invariant-loop-number l = NoneBefore (marked l.scopes.writable) l.place l.node l.number

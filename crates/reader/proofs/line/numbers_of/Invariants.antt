-- Of the fields so far the last two are the numbers a and b, and those from `at` on are left.
use Rattle.reader.proofs.Scans.{Got}
use Rattle.reader.proofs.line.numbers_of.Given as goal

abbrev pub invariant-loop : goal.invariant-loop
invariant-loop l = Got l.fields l.counter l.a l.b l.at

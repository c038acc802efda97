-- The guarantees 6, 8 and 9: a drain is a run that closes everything, a book's machine is that of a run, and every call has one
-- answer. Assumes nothing.
use mathlib.Core.Path.{◌≡◌}
use mathlib.Core.Bool.{true}
use mathlib.Core.List.{List}
use borrow.Author.Tests.{eqb-true, eqb-false, not-false}
use Rattle.std.proofs.Common.{rules}
use Rattle.protocol.specs.declared.Setup.{Setup}
use Rattle.unbroken.proofs.Laws.{only}
use Rattle.unbroken.proofs.Laws.Every.{length_table}
use Rattle.protocol.specs.declared.Step.{Step}
use Rattle.protocol.specs.Book.{setup_read}
use Rattle.protocol.specs.Run.{book_no, run_of}
use Rattle.protocol.specs.Drain.{all_up}
use Rattle.drains.specs.Drains.{Ends}
use Rattle.drains.proofs.Courses.{drain_ends}
use Rattle.guarantees.specs.Acknowledged.{Legal, after}
use Rattle.guarantees.specs.Guarantees.{TheDrain, Books, EveryCall, AnyCall}
use Rattle.guarantees.proofs.Heads.{pick_zero}
use Rattle.guarantees.proofs.Demand.{reached}
use Rattle.reads.proofs.Some.{ran_append}

pub ends : (u : Setup) → Legal u → (steps : List Step) → all_up (after u steps) ≡ true → Ends (after u steps)
ends u l steps up = drain_ends (after u steps) (record { unbroken = (reached u l steps).fine; up = up })

pub the_drain : TheDrain
the_drain = search (rules, ends, ran_append)

pub books : Books
unfolding run_of book_no setup_read
books = search (rules, pick_zero, not-false, eqb-true, length_table, eqb-false)

pub every_call : EveryCall
every_call = search (rules, only)

pub any_call : AnyCall
any_call A d = only d

-- What is told of an answer leads back to it, so that what is told alike is the same. Assumes nothing.
use Rattle.std.specs.Prelude.{Result, Ok, Err, ◌==◌, if◌then◌else◌}
use mathlib.Core.Path.{◌≡◌, refl, sym, ap, ◌∙◌}
use Rattle.activities.specs.Outcome.{Outcome, told}
use Rattle.activities.specs.declared.Receipt.{Receipt}
use Rattle.activities.specs.declared.Received.{Received}
use Rattle.activities.specs.declared.Store.{Store}
use Rattle.activities.specs.declared.refusal.StoreRefusal.{StoreRefusal}
use Rattle.activities.specs.declared.refusal.StoreRefusal.TheVariants.{UnknownSender, NoRoom}
use Rattle.completes.specs.Promises.{OneResult}

-- the answer of a number, an acknowledgement where it is no refusal's
abbrev back : Outcome → Received
back o =
    record {
      store = o.store;
      answer =
          if o.answer == 17 then Err UnknownSender else
          if o.answer == 18 then Err NoRoom else Ok (record { ack = o.ack; finished = o.finished });
    }

told_back : (s : Store) (a : Result Receipt StoreRefusal) → back (told s a) ≡ record { store = s; answer = a }
told_back s (Ok receipt) = refl
told_back s (Err UnknownSender) = refl
told_back s (Err NoRoom) = refl

pub one_result : OneResult
one_result s m r q e f = sym (told_back r.store r.answer) ∙ ap back (e ∙ sym f) ∙ told_back q.store q.answer

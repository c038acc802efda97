-- Step 1, send: from, to, own store, data, causes.
use Rattle.std.specs.Prelude.{ℕ, ◌+◌, Bool, true, ◌&&◌, ◌||◌, not, set, ltb, leb, eqb}
use Rattle.protocol.specs.Words.{pick, bit, table, all_below}
use Rattle.protocol.specs.Views.{unset_view, first_view}
use Rattle.protocol.specs.Slots.{number, home, list, queue, view}
use Rattle.protocol.specs.Writes.{with_queue, with_message, with_views, with_made}
use Rattle.protocol.specs.declared.State.{State}
use Rattle.protocol.specs.declared.View.{View}
use Rattle.protocol.specs.declared.Queue.{Queue}
use Rattle.protocol.specs.Rule.{refused, taken, outside}

-- each cause is an interaction that from has received
abbrev pub received : State → ℕ → ℕ → Bool
received m a j = ltb j m.made && not (eqb (view m (number j 1)).phase 0) && eqb (view m (number j 1)).actor a

abbrev pub cause_known : State → ℕ → ℕ → ℕ → Bool
cause_known m a causes j = not (bit causes j) || received m a j

unfoldable pub causes_known : State → ℕ → ℕ → Bool
causes_known m a causes = all_below 16 (cause_known m a causes)

-- Own is in from's list; each cause is an interaction that from has received.
unfoldable pub send_no : State → ℕ → ℕ → ℕ → ℕ → ℕ
send_no m from to own causes =
    refused 2 (outside from m.actors || outside to m.actors || outside own m.stores)
    (refused 3 (eqb from to)
    (refused 4 (leb 16 m.made)
    (refused 8 (not (bit (list m from) own))
    (refused 9 (not (causes_known m from causes)) taken))))

-- a view's number at the end of a queue
abbrev pub joined : Queue → ℕ → Queue
joined q v = record { len = q.len + 1; views = set q.views q.len v }

-- every cause link home of from
abbrev pub home_link : ℕ → ℕ → ℕ → ℕ
home_link causes home j = pick (bit causes j) home 0

-- the sender's record: phase 1, store own, viewlink home of to, every cause link home of from
abbrev pub sent_view : State → ℕ → ℕ → ℕ → ℕ → ℕ → View
sent_view m from to own word causes = first_view from own (home m to) word causes (table (home_link causes (home m from)) 16)

-- of the receiver's record just the actor is set
abbrev pub awaited_view : ℕ → View
awaited_view to = unset_view to

-- The application message, with own store and data, is in flight. The sender's record joins the queue.
unfoldable pub sent : State → ℕ → ℕ → ℕ → ℕ → ℕ → State
sent m from to own word causes =
    let views = set (set m.views (number m.made 0) (sent_view m from to own word causes)) (number m.made 1) (awaited_view to) in
    with_made
    (with_message
    (with_queue (with_views m views) from (joined (queue m from) (number m.made 0)))
    m.made (record { flying = true; own = own; word = word }))
    (m.made + 1)

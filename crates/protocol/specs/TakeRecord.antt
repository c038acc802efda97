-- Step 6, store takes record: store, key, role.
use Rattle.std.specs.Prelude.{ℕ, ◌+◌, ◌-◌, Bool, ◌||◌, not, get_or, eqb}
use Rattle.protocol.specs.Words.{pick}
use Rattle.protocol.specs.Slots.{number, links_place, is_up, shelf, record_copies, view, contents, is_held, no_links}
use Rattle.protocol.specs.Stores.{holding, relinked_at, owing_ack}
use Rattle.protocol.specs.Writes.{with_record_copies, with_contents_at, with_cause_links, with_shelf}
use Rattle.protocol.specs.declared.State.{State}
use Rattle.protocol.specs.declared.View.{View}
use Rattle.protocol.specs.declared.Contents.{Contents}
use Rattle.protocol.specs.declared.Links.{Links}
use Rattle.protocol.specs.declared.Store.{Store}
use Rattle.protocol.specs.Rule.{refused, taken, outside}

-- Store up, a copy in flight.
unfoldable pub take_record_no : State → ℕ → ℕ → ℕ → ℕ
take_record_no m p k r =
    refused 2 (outside p m.stores || outside k m.made || outside r 2)
    (refused 5 (not (is_up m p)) (refused 7 (eqb (record_copies m p (number k r)) 0) taken))

-- Contents are written only if the working state had none; cause links are a sender's.
abbrev pub written_contents : Bool → Contents → View → Contents
written_contents held c w = pick held c (record { asserter = w.actor; causes = w.causes; word = w.word })

abbrev pub written_links : ℕ → Bool → View → Links → Links
written_links r held w l = pick (held || not (eqb r 0)) l (record { to = w.links })

-- The viewlink only if none was there.
abbrev pub written_viewlink : ℕ → View → ℕ
written_viewlink l w = pick (eqb l 0) (w.viewlink + 1) l

-- Only the working state changes, and an ack is owed for that store, key and role (RULES.md, Checkpoints).
abbrev pub taken_in : Store → ℕ → View → Store
taken_in s v w = owing_ack (relinked_at (holding s v) v (written_viewlink (get_or s.viewlinks v 0) w)) v

-- The copy goes.
unfoldable pub record_taken : State → ℕ → ℕ → ℕ → State
record_taken m p k r =
    let v = number k r in
    with_shelf
    (with_cause_links
    (with_contents_at
    (with_record_copies m p v (record_copies m p v - 1))
    p v (written_contents (is_held m p v) (contents m p v) (view m v)))
    p k (written_links r (is_held m p v) (view m v) (get_or m.links (links_place p k) no_links)))
    p (taken_in (shelf m p) v (view m v))

-- What is true of an interaction at a store in every machine that a run reaches, as one record of small implications about
-- a view, its place there, and the other view; and that each change a step can make keeps it. Assumes nothing.
use mathlib.Core.Path.{◌≡◌, refl}
use Prim.Native.Nat.{ℕ, zero, suc, ◌+◌, ◌≤◌, ◌<◌}
use native.Mathlib.Omega.{arith}
use Rattle.std.proofs.Common.{rules}
use Rattle.protocol.specs.Words.{pick}
use lib.Dec.{eqb}

-- a view's record, its repair and its entry, as numbers (a flag is 0 or 1)
pub record Job : Type 0 where
  pub phase : ℕ
  pub store : ℕ
  pub viewlink : ℕ
  pub changed : ℕ
  pub flying : ℕ
  pub repair_to : ℕ
  pub repair_own : ℕ
  pub status : ℕ
  pub destination : ℕ
  pub own : ℕ

-- a view's place at a store: in its working state contents and a viewlink, in its checkpointed one the same, the notes, and the copies
pub record Cell : Type 0 where
  pub held : ℕ
  pub link : ℕ
  pub kept : ℕ
  pub saved : ℕ
  pub owes_ack : ℕ
  pub owes_uack : ℕ
  pub acks : ℕ
  pub updates : ℕ
  pub uacks : ℕ

-- `me` and `mc` are a view and its place at the store p, `ot` and `oc` those of the other view; `sent` is the own store in the message
pub record Good (me : Job) (mc : Cell) (ot : Job) (oc : Cell) (sent p : ℕ) : Type 0 where
  pub phase_in : me.phase < 6
  pub changed_in : me.changed ≤ 1
  pub status_in : me.status < 4
  -- the job: where it started, and what an ack means
  pub first : me.changed ≡ 0 → 1 ≤ me.phase → 1 ≤ ot.phase → me.store ≡ ot.viewlink
  pub first_sent : me.changed ≡ 0 → 1 ≤ me.phase → ot.phase ≡ 0 → me.store ≡ sent
  pub young : me.phase < 2 → me.changed ≡ 0
  pub ack_held : 0 < mc.acks → mc.kept ≡ 1
  pub ack_linked : 0 < mc.acks → 0 < mc.saved
  pub owed_held : 0 < mc.owes_ack → mc.held ≡ 1
  pub owed_linked : 0 < mc.owes_ack → 0 < mc.link
  pub still_held : mc.kept ≡ 1 → mc.held ≡ 1
  pub still_linked : 0 < mc.saved → 0 < mc.link
  pub kept_held : 4 ≤ me.phase → me.store ≡ p → mc.kept ≡ 1
  pub kept_linked : 4 ≤ me.phase → me.store ≡ p → 0 < mc.saved
  -- the repair and the entry
  pub repair_phase : 0 < me.flying → me.phase ≡ 5
  pub repair_changed : 0 < me.flying → me.changed ≡ 1
  pub repair_alone : 0 < me.flying → me.status ≡ 0
  pub repair_destination : 0 < me.flying → me.repair_to ≡ me.viewlink
  pub repair_store : 0 < me.flying → me.repair_own ≡ me.store
  pub entry_phase : 0 < me.status → me.phase ≡ 5
  pub entry_changed : 0 < me.status → me.changed ≡ 1
  pub entry_own : 0 < me.status → me.own ≡ me.store
  pub asked : me.phase ≡ 5 → me.changed ≡ 1 → me.flying ≡ 0 → 0 < me.status
  pub alone : 0 < me.status → ot.status ≡ 0 → me.destination ≡ me.viewlink
  pub paired : 0 < me.status → 0 < ot.status → me.destination ≡ ot.store
  -- the links
  pub link_first : ot.status ≡ 0 → 0 < mc.link → mc.link ≡ suc me.viewlink
  pub saved_first : ot.status ≡ 0 → 0 < mc.saved → mc.saved ≡ suc me.viewlink
  pub unlinked : me.phase ≡ 0 → ot.status ≡ 0 → mc.link ≡ 0
  pub unsaved : me.phase ≡ 0 → ot.status ≡ 0 → mc.saved ≡ 0
  pub update_entry : 0 < mc.updates → 0 < me.status
  pub uack_entry : 0 < mc.uacks → 0 < me.status
  pub owed_entry : 0 < mc.owes_uack → 0 < me.status
  pub wrote : 0 < mc.uacks → oc.saved ≡ suc me.store
  pub owed_wrote : 0 < mc.owes_uack → oc.link ≡ suc me.store
  pub finished : me.status ≡ 3 → me.destination ≡ p → oc.saved ≡ suc me.store
  pub still_written : 0 < me.status → oc.saved ≡ suc me.store → oc.link ≡ suc me.store

-- what a step makes of a job
abbrev pub phased_job : ℕ → Job → Job
phased_job n w = record { phase = n; store = w.store; viewlink = w.viewlink; changed = w.changed; flying = w.flying; repair_to = w.repair_to; repair_own = w.repair_own; status = w.status; destination = w.destination; own = w.own }

abbrev pub moved_job : ℕ → Job → Job
moved_job p w = record { phase = 2; store = p; viewlink = w.viewlink; changed = 1; flying = w.flying; repair_to = w.repair_to; repair_own = w.repair_own; status = w.status; destination = w.destination; own = w.own }

abbrev pub received_job : ℕ → ℕ → Job → Job
received_job home sent w = record { phase = 1; store = home; viewlink = sent; changed = 0; flying = w.flying; repair_to = w.repair_to; repair_own = w.repair_own; status = w.status; destination = w.destination; own = w.own }

abbrev pub asked_job : Job → Job
asked_job w = record { phase = 5; store = w.store; viewlink = w.viewlink; changed = w.changed; flying = 1; repair_to = w.viewlink; repair_own = w.store; status = w.status; destination = w.destination; own = w.own }

abbrev pub entered_job : ℕ → ℕ → Job → Job
entered_job d o w = record { phase = w.phase; store = w.store; viewlink = w.viewlink; changed = w.changed; flying = 0; repair_to = 0; repair_own = 0; status = 1; destination = d; own = o }

abbrev pub stated_job : ℕ → ℕ → Job → Job
stated_job s d w = record { phase = w.phase; store = w.store; viewlink = w.viewlink; changed = w.changed; flying = w.flying; repair_to = w.repair_to; repair_own = w.repair_own; status = s; destination = d; own = w.own }

-- what a step makes of a place
abbrev pub recorded_cell : ℕ → Cell → Cell
recorded_cell l c = record { held = 1; link = l; kept = c.kept; saved = c.saved; owes_ack = 1; owes_uack = c.owes_uack; acks = c.acks; updates = c.updates; uacks = c.uacks }

abbrev pub counted_cell : ℕ → ℕ → ℕ → Cell → Cell
counted_cell a u k c = record { held = c.held; link = c.link; kept = c.kept; saved = c.saved; owes_ack = c.owes_ack; owes_uack = c.owes_uack; acks = a; updates = u; uacks = k }

abbrev pub updated_cell : Cell → Cell
updated_cell c = record { held = c.held; link = c.link; kept = c.kept; saved = c.saved; owes_ack = c.owes_ack; owes_uack = 1; acks = c.acks; updates = c.updates; uacks = c.uacks }

abbrev pub linked_cell : ℕ → Cell → Cell
linked_cell l c = record { held = c.held; link = l; kept = c.kept; saved = c.saved; owes_ack = c.owes_ack; owes_uack = c.owes_uack; acks = c.acks; updates = c.updates; uacks = c.uacks }

abbrev pub saved_cell : ℕ → ℕ → Cell → Cell
saved_cell a k c = record { held = c.held; link = c.link; kept = c.held; saved = c.link; owes_ack = 0; owes_uack = 0; acks = a; updates = c.updates; uacks = k }

abbrev pub thrown_cell : Cell → Cell
thrown_cell c = record { held = c.kept; link = c.saved; kept = c.kept; saved = c.saved; owes_ack = 0; owes_uack = 0; acks = c.acks; updates = c.updates; uacks = c.uacks }

abbrev pub blank_cell : Cell
blank_cell = record { held = 0; link = 0; kept = 0; saved = 0; owes_ack = 0; owes_uack = 0; acks = 0; updates = 0; uacks = 0 }

pub none : {n : ℕ} → (0 < n → ⊥) → n ≡ 0
none {n = zero} h = refl
none {n = suc n} h = absurd (h (omega arith))

-- the viewlink in a store after a record: the one that was there, else the record's
abbrev pub filled_link : ℕ → ℕ → ℕ
filled_link l x = pick (eqb l 0) (x + 1) l

module _ {me ot : Job} {mc oc : Cell} {sent p : ℕ} (a : Good me mc ot oc sent p) (b : Good ot oc me mc sent p) where
  pub no_entry_holds : me.phase < 5 → me.status ≡ 0
  no_entry_holds h = none (λ n. omega (arith, a.entry_phase n))

  pub no_repair_holds : me.phase < 5 → me.flying ≡ 0
  no_repair_holds h = none (λ n. omega (arith, a.repair_phase n))

  pub no_uack : me.status ≡ 0 → mc.uacks ≡ 0
  no_uack h = none (λ n. omega (arith, a.uack_entry n))

  pub no_owed : me.status ≡ 0 → mc.owes_uack ≡ 0
  no_owed h = none (λ n. omega (arith, a.owed_entry n))

  -- before an entry, the working link of the other view is the checkpointed one where there is one
  pub same_link : me.status ≡ 0 → oc.saved ≡ suc me.store → oc.link ≡ suc me.store
  same_link h e =
      let s : 0 < oc.saved = omega arith in
      omega (arith, b.saved_first h s, b.link_first h (b.still_linked s))

  pub calm : 0 < me.status → me.flying ≡ 0
  calm h = none (λ n. omega (arith, a.repair_alone n))

  -- 2: the receipt
  module _ (h0 : me.phase ≡ 0) (home gone : ℕ) (hh : home ≡ ot.viewlink) (hs : 1 ≤ ot.phase) where
    pub received_me : Good (received_job home sent me) mc ot oc gone p
    received_me = search rules

    pub received_ot : Good ot oc (received_job home sent me) mc gone p
    received_ot = let e = no_entry_holds (omega arith) in search (arith, b.first_sent)

  -- 5: a timeout
  module _ (h3 : me.phase ≡ 3) (q : ℕ) where
    pub moved_me : Good (moved_job q me) mc ot oc sent p
    moved_me = let e = no_entry_holds (omega arith) in let r = no_repair_holds (omega arith) in let u = no_uack e in let n = no_owed e in search arith

    pub moved_ot : Good ot oc (moved_job q me) mc sent p
    moved_ot = let e = no_entry_holds (omega arith) in let y : 1 ≤ me.phase = omega arith in search (arith, b.first)

  -- 3, 4: the phase goes from 1 to 2 to 3
  pub phased_me : (n : ℕ) → 1 ≤ me.phase → me.phase < 4 → 2 ≤ n → n < 4 → Good (phased_job n me) mc ot oc sent p
  phased_me n h g i j =
      let e = no_entry_holds (omega arith) in let r = no_repair_holds (omega arith) in search (arith, a.first, a.first_sent)

  pub phased_ot : (n : ℕ) → 1 ≤ me.phase → 1 ≤ n → Good ot oc (phased_job n me) mc sent p
  phased_ot n h i = search (arith, b.first)

  -- 7: the ack is accepted
  pub acked_me : me.phase ≡ 3 → (me.store ≡ p → 0 < mc.acks) → Good (phased_job 4 me) mc ot oc sent p
  acked_me h g =
      let e = no_entry_holds (omega arith) in let r = no_repair_holds (omega arith) in let y : 1 ≤ me.phase = omega arith in
      search (arith, a.first, a.first_sent, a.ack_held, a.ack_linked)

  -- 8: the post-check
  pub settled_me : me.phase ≡ 4 → me.changed ≡ 0 → Good (phased_job 5 me) mc ot oc sent p
  settled_me h c =
      let e = no_entry_holds (omega arith) in let r = no_repair_holds (omega arith) in let y : 1 ≤ me.phase = omega arith in let z : 4 ≤ me.phase = omega arith in
      search (arith, a.first, a.first_sent, a.kept_held, a.kept_linked)

  pub asked_me : me.phase ≡ 4 → me.changed ≡ 1 → Good (asked_job me) mc ot oc sent p
  asked_me h c =
      let e = no_entry_holds (omega arith) in let u = no_uack e in let n = no_owed e in let z : 4 ≤ me.phase = omega arith in
      search (arith, a.kept_held, a.kept_linked)

  pub asked_ot : me.phase ≡ 4 → Good ot oc (asked_job me) mc sent p
  asked_ot h = let y : 1 ≤ me.phase = omega arith in search (arith, b.first)

  -- 9: the coordinator takes a repair
  module _ (h : 0 < me.flying) where
    module _ (lone : ot.status ≡ 0) where
      pub entered_me : Good (entered_job me.repair_to me.repair_own me) mc ot oc sent p
      entered_me = let r = a.repair_alone h in let u = no_uack r in let n = no_owed r in let k = same_link r in search (arith, a.repair_phase h, a.repair_changed h, a.repair_destination h, a.repair_store h)

      pub entered_ot : Good ot oc (entered_job me.repair_to me.repair_own me) mc sent p
      entered_ot = let r = a.repair_phase h in search (arith, b.first)

    module _ (both : 0 < ot.status) where
      pub turned_me : Good (entered_job ot.own me.repair_own me) mc (stated_job 1 me.repair_own ot) oc sent p
      turned_me = let r = a.repair_alone h in let u = no_uack r in let n = no_owed r in let k = same_link r in search (arith, a.repair_phase h, a.repair_changed h, a.repair_store h, b.entry_own both, a.first)

      pub turned_ot : Good (stated_job 1 me.repair_own ot) oc (entered_job ot.own me.repair_own me) mc sent p
      turned_ot =
          let q : ot.flying ≡ 0 = none (λ n. omega (arith, b.repair_alone n)) in
          search (arith, b.entry_phase both, b.entry_changed both, b.entry_own both, a.repair_store h, a.repair_phase h, b.first, b.still_written both)

  -- 10, 12, 13: an entry's status
  module _ (s : ℕ) (some : 0 < me.status) (some' : 0 < s) (few : s < 4) where
    pub stated_me : (s ≡ 3 → me.destination ≡ p → oc.saved ≡ suc me.store) → Good (stated_job s me.destination me) mc ot oc sent p
    stated_me f = let q = calm some in let k = a.still_written some in search (arith, a.alone, a.paired, a.entry_phase some, a.entry_changed some, a.entry_own some, a.first, a.first_sent)

    pub stated_ot : Good ot oc (stated_job s me.destination me) mc sent p
    stated_ot = search (arith, b.paired, b.first)

  -- copies that come and go: 7, 10, 12, 14
  pub counted_me : (x u k : ℕ) → (0 < x → 0 < mc.acks) → (0 < u → 0 < me.status) → (0 < k → 0 < mc.uacks) → Good me (counted_cell x u k mc) ot oc sent p
  counted_me x u k f g h = search (arith, a.ack_held, a.ack_linked, a.uack_entry, a.wrote, a.first, a.first_sent)

  pub counted_ot : (x u k : ℕ) → Good ot oc me (counted_cell x u k mc) sent p
  counted_ot x u k = search (arith, b.first)

  -- 6: a store takes a record
  module _ (h : 2 ≤ me.phase) where
    pub recorded_me : Good me (recorded_cell (filled_link mc.link me.viewlink) mc) ot oc sent p
    recorded_me = search rules

    pub recorded_ot : Good ot oc me (recorded_cell (filled_link mc.link me.viewlink) mc) sent p
    recorded_ot = search rules

  -- 11: a store takes an update
  module _ (some : 0 < me.status) where
    pub updated_me : Good me (updated_cell mc) ot (linked_cell (me.own + 1) oc) sent p
    updated_me = let e = a.entry_own some in let l : me.own + 1 ≡ suc me.store = omega arith in search (arith, a.first, a.first_sent)

    pub updated_ot : Good ot (linked_cell (me.own + 1) oc) me (updated_cell mc) sent p
    updated_ot = let e = a.entry_phase some in search (arith, b.first)

  -- 17: a checkpoint; x and k are the copies after it
  pub saved_me : (x y k l : ℕ) → (0 < x → mc.owes_ack ≡ 0 → 0 < mc.acks) → (0 < k → mc.owes_uack ≡ 0 → 0 < mc.uacks) → Good me (saved_cell x k mc) ot (saved_cell y l oc) sent p
  saved_me x y k l e f = search rules

  -- 15: a crash
  pub thrown_me : Good me (thrown_cell mc) ot (thrown_cell oc) sent p
  thrown_me = search (arith, a.first, a.first_sent)

-- 1: a new interaction; `w` is the sender's view and `x` the receiver's, which is not made yet
module _ (own link p : ℕ) where
  abbrev pub sent_job : Job
  sent_job = record { phase = 1; store = own; viewlink = link; changed = 0; flying = 0; repair_to = 0; repair_own = 0; status = 0; destination = 0; own = 0 }

  abbrev pub awaited_job : Job
  awaited_job = record { phase = 0; store = 0; viewlink = 0; changed = 0; flying = 0; repair_to = 0; repair_own = 0; status = 0; destination = 0; own = 0 }

  pub sent_me : Good sent_job blank_cell awaited_job blank_cell own p
  sent_me = search arith

  pub sent_ot : Good awaited_job blank_cell sent_job blank_cell own p
  sent_ot = search arith

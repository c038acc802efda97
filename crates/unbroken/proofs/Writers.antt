-- The laws of each writer of a machine, a store and a view. Assumes nothing.
use Prim.Native.Nat.{ℕ}
use mathlib.Core.Path.{refl}
use mathlib.Core.Bool.{Bool}
use mathlib.Core.List.{List}
use Rattle.protocol.specs.Views.{rewritten, phased, relinked}
use Rattle.protocol.specs.Writes.{with_made, with_queues, with_shelves, with_messages, with_views, with_repairs, with_entries, with_records, with_acks, with_updates, with_uacks, with_contents, with_links}
use Rattle.protocol.specs.Stores.{reworked, turned}
use Rattle.protocol.specs.declared.State.{State}
use Rattle.protocol.specs.declared.View.{View}
use Rattle.protocol.specs.declared.Store.{Store}
use Rattle.unbroken.specs.Writer.{Writer}

-- of a machine
pub made_writer : Writer (λ (m : State). m.made) with_made
made_writer = record { reads = λ m a. refl; same = λ m. refl; last = λ m a b. refl }

pub queues_writer : Writer (λ (m : State). m.queues) with_queues
queues_writer = record { reads = λ m a. refl; same = λ m. refl; last = λ m a b. refl }

pub shelves_writer : Writer (λ (m : State). m.shelves) with_shelves
shelves_writer = record { reads = λ m a. refl; same = λ m. refl; last = λ m a b. refl }

pub messages_writer : Writer (λ (m : State). m.messages) with_messages
messages_writer = record { reads = λ m a. refl; same = λ m. refl; last = λ m a b. refl }

pub views_writer : Writer (λ (m : State). m.views) with_views
views_writer = record { reads = λ m a. refl; same = λ m. refl; last = λ m a b. refl }

pub repairs_writer : Writer (λ (m : State). m.repairs) with_repairs
repairs_writer = record { reads = λ m a. refl; same = λ m. refl; last = λ m a b. refl }

pub entries_writer : Writer (λ (m : State). m.entries) with_entries
entries_writer = record { reads = λ m a. refl; same = λ m. refl; last = λ m a b. refl }

pub records_writer : Writer (λ (m : State). m.records) with_records
records_writer = record { reads = λ m a. refl; same = λ m. refl; last = λ m a b. refl }

pub acks_writer : Writer (λ (m : State). m.acks) with_acks
acks_writer = record { reads = λ m a. refl; same = λ m. refl; last = λ m a b. refl }

pub updates_writer : Writer (λ (m : State). m.updates) with_updates
updates_writer = record { reads = λ m a. refl; same = λ m. refl; last = λ m a b. refl }

pub uacks_writer : Writer (λ (m : State). m.uacks) with_uacks
uacks_writer = record { reads = λ m a. refl; same = λ m. refl; last = λ m a b. refl }

pub contents_writer : Writer (λ (m : State). m.contents) with_contents
contents_writer = record { reads = λ m a. refl; same = λ m. refl; last = λ m a b. refl }

pub links_writer : Writer (λ (m : State). m.links) with_links
links_writer = record { reads = λ m a. refl; same = λ m. refl; last = λ m a b. refl }

-- of a store: up or down, the working state and the notes, leaving the checkpointed state; up or down alone
pub working_writer : Writer {A = (Bool × ℕ) × ((ℕ × ℕ) × List ℕ)} (λ (s : Store). ((s.up, s.held), ((s.acksowed, s.uacksowed), s.viewlinks))) (λ s a. reworked a.0.0 a.0.1 a.1.0.0 a.1.0.1 a.1.1 s)
working_writer = record { reads = λ s a. refl; same = λ s. refl; last = λ s a b. refl }

pub up_writer : Writer (λ (s : Store). s.up) turned
up_writer = record { reads = λ s a. refl; same = λ s. refl; last = λ s a b. refl }

-- of a view: all that a rule writes in it, its phase, its cause links
pub view_writer : Writer {A = (ℕ × ℕ) × ((Bool × ℕ) × List ℕ)} (λ (w : View). ((w.phase, w.store), ((w.changed, w.tries), w.links))) (λ w a. rewritten a.0.0 a.0.1 a.1.0.0 a.1.0.1 a.1.1 w)
view_writer = record { reads = λ w a. refl; same = λ w. refl; last = λ w a b. refl }

pub phase_writer : Writer (λ (w : View). w.phase) (λ w n. phased n w)
phase_writer = record { reads = λ w a. refl; same = λ w. refl; last = λ w a b. refl }

pub links_of_view_writer : Writer (λ (w : View). w.links) (λ w to. relinked to w)
links_of_view_writer = record { reads = λ w a. refl; same = λ w. refl; last = λ w a b. refl }

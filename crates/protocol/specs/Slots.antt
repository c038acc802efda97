-- The slots of a machine and what stands in them: by actor, store, interaction, view and place.
use Rattle.std.specs.Prelude.{ℕ, ◌+◌, ◌*◌, Bool, false, List, [], get_or, take}
use Rattle.protocol.specs.declared.State.{State}
use Rattle.protocol.specs.declared.View.{View}
use Rattle.protocol.specs.declared.Queue.{Queue}
use Rattle.protocol.specs.declared.Contents.{Contents}
use Rattle.protocol.specs.declared.Links.{Links}
use Rattle.protocol.specs.declared.Message.{Message}
use Rattle.protocol.specs.declared.Repair.{Repair}
use Rattle.protocol.specs.declared.Entry.{Entry}
use Rattle.protocol.specs.declared.Store.{Store}
use Rattle.protocol.specs.Words.{bit}
use Rattle.protocol.specs.declared.Status.TheVariants.{Nothing}
pub use Rattle.protocol.specs.Numbers.{status_number}
pub use Rattle.protocol.specs.Views.{no_view}
pub use Rattle.protocol.specs.Stores.{no_store}

-- the number of a view: role 0 the sender's, role 1 the receiver's
abbrev pub number : ℕ → ℕ → ℕ
number key role = key * 2 + role

-- the place of a view at a store, and of a sender's cause links
abbrev pub place : ℕ → ℕ → ℕ
place store view = store * 32 + view

abbrev pub links_place : ℕ → ℕ → ℕ
links_place store key = store * 16 + key

-- what a read past the slots gives
abbrev pub no_queue : Queue
no_queue = record { len = 0; views = [] }

abbrev pub no_contents : Contents
no_contents = record { asserter = 0; causes = 0; word = 0 }

abbrev pub no_links : Links
no_links = record { to = [] }

abbrev pub no_message : Message
no_message = record { flying = false; own = 0; word = 0 }

abbrev pub no_repair : Repair
no_repair = record { flying = false; destination = 0; own = 0 }

abbrev pub no_entry : Entry
no_entry = record { status = Nothing; destination = 0; own = 0 }

-- by actor
abbrev pub home : State → ℕ → ℕ
home m a = get_or m.homes a 0

abbrev pub list : State → ℕ → ℕ
list m a = get_or m.lists a 0

abbrev pub queue : State → ℕ → Queue
queue m a = get_or m.queues a no_queue

-- the views' numbers in a queue, oldest first
abbrev pub standing : Queue → List ℕ
standing q = take q.len q.views

-- by store
abbrev pub shelf : State → ℕ → Store
shelf m p = get_or m.shelves p no_store

abbrev pub is_up : State → ℕ → Bool
is_up m p = (shelf m p).up

-- by interaction, and by view
abbrev pub message : State → ℕ → Message
message m k = get_or m.messages k no_message

abbrev pub view : State → ℕ → View
view m v = get_or m.views v no_view

abbrev pub repair : State → ℕ → Repair
repair m v = get_or m.repairs v no_repair

abbrev pub entry : State → ℕ → Entry
entry m v = get_or m.entries v no_entry

-- copies in flight, by store and view
abbrev pub record_copies : State → ℕ → ℕ → ℕ
record_copies m p v = get_or m.records (place p v) 0

abbrev pub ack_copies : State → ℕ → ℕ → ℕ
ack_copies m p v = get_or m.acks (place p v) 0

abbrev pub update_copies : State → ℕ → ℕ → ℕ
update_copies m p v = get_or m.updates (place p v) 0

abbrev pub uack_copies : State → ℕ → ℕ → ℕ
uack_copies m p v = get_or m.uacks (place p v) 0

-- what a store has of a view's record, in its working state, its checkpointed one or both: contents; a sender's cause links
abbrev pub contents : State → ℕ → ℕ → Contents
contents m p v = get_or m.contents (place p v) no_contents

abbrev pub cause_links : State → ℕ → ℕ → List ℕ
cause_links m p k = (get_or m.links (links_place p k) no_links).to

-- the working state: whether contents for a view are there; a viewlink, 0 for none and p + 1 for store p
abbrev pub is_held : State → ℕ → ℕ → Bool
is_held m p v = bit (shelf m p).held v

abbrev pub viewlink : State → ℕ → ℕ → ℕ
viewlink m p v = get_or (shelf m p).viewlinks v 0

-- the checkpointed state
abbrev pub is_kept : State → ℕ → ℕ → Bool
is_kept m p v = bit (shelf m p).kept v

abbrev pub kept_viewlink : State → ℕ → ℕ → ℕ
kept_viewlink m p v = get_or (shelf m p).keptlinks v 0

-- the notes: an ack, a uack is owed of a view
abbrev pub owes_ack : State → ℕ → ℕ → Bool
owes_ack m p v = bit (shelf m p).acksowed v

abbrev pub owes_uack : State → ℕ → ℕ → Bool
owes_uack m p v = bit (shelf m p).uacksowed v

-- what lasts in a store, whatever becomes of it: the checkpointed state. The walk, the listing and the guarantees read these
abbrev pub is_lasting : State → ℕ → ℕ → Bool
is_lasting m p v = is_kept m p v

abbrev pub lasting_contents : State → ℕ → ℕ → Contents
lasting_contents m p v = contents m p v

abbrev pub lasting_cause_links : State → ℕ → ℕ → List ℕ
lasting_cause_links m p k = cause_links m p k

abbrev pub lasting_viewlink : State → ℕ → ℕ → ℕ
lasting_viewlink m p v = kept_viewlink m p v

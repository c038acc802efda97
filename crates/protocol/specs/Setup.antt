-- The setup: which are illegal, the fresh machine of a legal one, and the empty machine.
use Rattle.std.specs.Prelude.{ℕ, ◌+◌, ◌/◌, ◌%◌, ◌^◌, Bool, ◌&&◌, ◌||◌, List, get_or, replicate, ltb, leb, eqb}
use Rattle.protocol.specs.Words.{pick, bit, all, table}
use Rattle.protocol.specs.Views.{blank_view}
use Rattle.protocol.specs.Stores.{fresh_store}
use Rattle.protocol.specs.Slots.{no_contents, no_message, no_repair, no_entry}
use Rattle.protocol.specs.declared.State.{State}
use Rattle.protocol.specs.declared.Setup.{Setup}
use Rattle.protocol.specs.Outcome.{Outcome}
use Rattle.protocol.specs.declared.Queue.{Queue}
use Rattle.protocol.specs.declared.Links.{Links}

-- how many stores a list has
abbrev pub stores_in : ℕ → ℕ
stores_in l = l % 2 + l / 2 % 2 + l / 4 % 2 + l / 8 % 2 + l / 16 % 2 + l / 32 % 2 + l / 64 % 2 + l / 128 % 2

-- a home and the bits of a list name stores, the home is in its list, and a list has two stores or more
unfoldable pub legal_actor : ℕ → ℕ → ℕ → Bool
legal_actor stores home list = ltb home stores && eqb (list / 2 ^ stores) 0 && bit list home && leb 2 (stores_in list)

-- the same of each actor; what stands behind the last is not looked at
unfoldable pub legal_actors : ℕ → ℕ → List ℕ → List ℕ → Bool
legal_actors stores actors homes lists = all (λ a home. leb actors a || legal_actor stores home (get_or lists a 0)) homes

-- a setup is illegal if stores or actors aren't 2 to 8, or an actor's home and list are
unfoldable pub legal : ℕ → ℕ → List ℕ → List ℕ → Bool
legal stores actors homes lists =
    leb 2 stores && leb stores 8 && leb 2 actors && leb actors 8 && legal_actors stores actors homes lists

-- a slot with nothing in it: zeros and nothings
abbrev pub blank_queue : Queue
blank_queue = record { len = 0; views = replicate 16 0 }

abbrev pub blank_links : Links
blank_links = record { to = replicate 16 0 }

-- what an actor's row says, blank behind the last actor
abbrev pub of_actors : ℕ → List ℕ → ℕ → ℕ
of_actors actors l a = pick (ltb a actors) (get_or l a 0) 0

-- nothing made, nothing in flight, nothing held, all stores up
unfoldable pub fresh_with : ℕ → ℕ → List ℕ → List ℕ → State
fresh_with stores actors homes lists =
    record {
      stores = stores;
      actors = actors;
      made = 0;
      homes = table (of_actors actors homes) 8;
      lists = table (of_actors actors lists) 8;
      queues = replicate 8 blank_queue;
      shelves = table (λ p. fresh_store (ltb p stores)) 8;
      messages = replicate 16 no_message;
      views = replicate 32 blank_view;
      repairs = replicate 32 no_repair;
      entries = replicate 32 no_entry;
      records = replicate 256 0;
      acks = replicate 256 0;
      updates = replicate 256 0;
      uacks = replicate 256 0;
      contents = replicate 256 no_contents;
      links = replicate 128 blank_links;
    }

-- no stores, actors or interactions
unfoldable pub empty_machine : State
unfolding fresh_with
empty_machine = fresh_with 0 0 (replicate 8 0) (replicate 8 0)

abbrev pub answered : ℕ → State → Outcome
answered n m = record { state = m; answer = n }

-- 11 with the empty machine for an illegal setup, or 0 with the fresh machine
unfoldable pub setup_of : Setup → Outcome
setup_of u =
    pick (legal u.stores u.actors u.homes u.lists)
    (answered 0 (fresh_with u.stores u.actors u.homes u.lists))
    (answered 11 empty_machine)

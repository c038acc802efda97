-- Every statement of the three demands, each from its theorem. Assumes nothing.
use Rattle.unbroken.proofs.Laws.Applies.{setup_refusals, refused_setup}
use Rattle.unbroken.proofs.Laws.Empty.{one_empty}
use Rattle.unbroken.proofs.Laws.Fresh.{fresh_unbroken, empty_unbroken, fresh_blank}
use Rattle.unbroken.proofs.Laws.Room.{bounds}
use Rattle.unbroken.proofs.Laws.Whole.{unbroken, whole}
use Rattle.keeps.proofs.Applies.{step_refusals}
use Rattle.keeps.proofs.Keeps.{refusal_gives_back, keeps, step_keeps}
use Rattle.keeps.proofs.Laws.{one_result_holds as one_step, broken_gives, refused_gives, taken_exactly, taken_gives, answer_zero, joint_same, made_counts, sends_new_key, send_writes_links, receive_writes_link, store_writes_links, refuser_out, constant_out, pretender_out, results_differ}
use Rattle.keeps.proofs.Numbers.{one_answer}
use Rattle.keeps.proofs.Onward.{step_onward, closed_says, closed_stays}
use Rattle.keeps.proofs.Lasting.{blank_backed, step_backed, step_lasts}
use Rattle.reads.proofs.Again.{reads_alike, writes_again, one_reading}
use Rattle.reads.proofs.Applies.{book_refusals, malformed_exactly}
use Rattle.reads.proofs.Both.{read_as_itself, formed_exactly}
use Rattle.reads.proofs.Example.{idle_shut_out, example_runs}
use Rattle.reads.proofs.Fold.{one_result_holds as one_run, refused_book, run_folds, answers_fold, behind_stay, taken_are_zeros}
use Rattle.reads.proofs.Range.{book_is_short}
use Rattle.drains.proofs.Applies.{drain_refusals, refused_drain}
use Rattle.drains.proofs.Courses.{takes, drain_ends, drains_once, count_few}
use Rattle.reaches.proofs.Applies.{walk_refusals, keys_looked_up}
use Rattle.reaches.proofs.Laws.{one_result_holds as one_walk, refused_empty, answered_reaches, keys_few, lookups_exactly}
use Rattle.marked.proofs.Marked.{marked_runs}
use Rattle.guarantees.proofs.Demand.{one_acknowledgement, kept_for_ever_holds, cause_links_holds, stays_closed_for_ever, view_links_holds}
use Rattle.guarantees.proofs.Drained.{every_call, the_drain, books}
use Rattle.guarantees.proofs.Lasting.{ack_in_flight, uack_in_flight, crash_loses_nothing, lasts_for_ever}
use Rattle.guarantees.proofs.Lookup.{lookup}
use Rattle.guarantees.proofs.Recovery.{recovery}
use Rattle.guarantees.proofs.Sent.{as_sent_holds}
use Rattle.guarantees.proofs.Walking.{the_walk, every_walk}
use Rattle.bites.proofs.Further.{bites_further}
use Rattle.bites.proofs.Checkpoints.{bites_checkpoints}
use Rattle.bites.proofs.Duplicates.{bites_duplicates}
use Rattle.bites.proofs.Witnesses.{witnesses, bound_met}
use Rattle.bites.proofs.Wrong.{bites}
use Rattle.demands.specs.Demands.{Demands}

pub demanded : Demands
demanded =
    record {
      every_call = every_call;
      one_answer = one_answer;
      one_step = one_step;
      one_run = one_run;
      one_walk = one_walk;
      setup_refusals = setup_refusals;
      step_refusals = step_refusals;
      book_refusals = book_refusals;
      drain_refusals = drain_refusals;
      walk_refusals = walk_refusals;
      broken_gives = broken_gives;
      unbroken = unbroken;
      whole = whole;
      refusal_gives_back = refusal_gives_back;
      refused_gives = refused_gives;
      refused_drain = refused_drain;
      refused_setup = refused_setup;
      refused_book = refused_book;
      refused_empty = refused_empty;
      taken_exactly = taken_exactly;
      taken_gives = taken_gives;
      answer_zero = answer_zero;
      joint_same = joint_same;
      made_counts = made_counts;
      sends_new_key = sends_new_key;
      send_writes_links = send_writes_links;
      receive_writes_link = receive_writes_link;
      store_writes_links = store_writes_links;
      reads_alike = reads_alike;
      writes_again = writes_again;
      one_reading = one_reading;
      read_as_itself = read_as_itself;
      formed_exactly = formed_exactly;
      malformed_exactly = malformed_exactly;
      book_is_short = book_is_short;
      run_folds = run_folds;
      answers_fold = answers_fold;
      behind_stay = behind_stay;
      taken_are_zeros = taken_are_zeros;
      refuser_out = refuser_out;
      constant_out = constant_out;
      pretender_out = pretender_out;
      results_differ = results_differ;
      idle_shut_out = idle_shut_out;
      example_runs = example_runs;
      marked_runs = marked_runs;
      one_acknowledgement = one_acknowledgement;
      kept_for_ever_holds = kept_for_ever_holds;
      ack_in_flight = ack_in_flight;
      uack_in_flight = uack_in_flight;
      crash_loses_nothing = crash_loses_nothing;
      lasts_for_ever = lasts_for_ever;
      as_sent_holds = as_sent_holds;
      cause_links_holds = cause_links_holds;
      stays_closed_for_ever = stays_closed_for_ever;
      view_links_holds = view_links_holds;
      lookup = lookup;
      the_drain = the_drain;
      recovery = recovery;
      the_walk = the_walk;
      every_walk = every_walk;
      books = books;
      witnesses = witnesses;
      bites = bites;
      bites_further = bites_further;
      bites_checkpoints = bites_checkpoints;
      bites_duplicates = bites_duplicates;
      bound_met = bound_met;
      fresh_unbroken = fresh_unbroken;
      empty_unbroken = empty_unbroken;
      one_empty = one_empty;
      fresh_blank = fresh_blank;
      bounds = bounds;
      keeps = keeps;
      step_keeps = step_keeps;
      step_onward = step_onward;
      closed_says = closed_says;
      closed_stays = closed_stays;
      blank_backed = blank_backed;
      step_backed = step_backed;
      step_lasts = step_lasts;
      takes = takes;
      drain_ends = drain_ends;
      drains_once = drains_once;
      count_few = count_few;
      answered_reaches = answered_reaches;
      keys_few = keys_few;
      keys_looked_up = keys_looked_up;
      lookups_exactly = lookups_exactly;
    }

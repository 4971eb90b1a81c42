-- When a planned fault meets something (own choice): its message has the run that it is planned for, and in that run
-- the word.
use Rattle.std.specs.Prelude.{ℕ, ◌==◌, Bool, nat_lt, List, [], length, Some}
use Rattle.std.specs.List.{filter}
use Rattle.mil_line.specs.declared.faults.Fault.{Fault}
use Rattle.mil_line.specs.declared.faults.Fault.TheVariants.{Mask, Drop, Add, Late, Mute, Early}
use Rattle.mil_line.specs.declared.faults.Fault.TheVariants.{Pause, Babble}
use Rattle.mil_bus.specs.declared.talks.Sent.{Sent}
use Rattle.mil_bus.specs.declared.talks.Talk.{Talk}
use Rattle.mil_bus.specs.Exchange.{BusState, controllers, most_runs, runs}

-- the run that a fault is planned for
abbrev pub planned_run : Fault → ℕ
planned_run (Mask run index half_bits) = run
planned_run (Drop run index) = run
planned_run (Add run index word) = run
planned_run (Late run ticks) = run
planned_run (Mute run) = run
planned_run (Early run ticks) = run
planned_run (Pause run index ticks) = run
planned_run (Babble run count word) = run

-- whether a fault is planned for a run before this one
abbrev pub is_before : ℕ → Fault → Bool
is_before run f = nat_lt (planned_run f) run

-- the words of a run
abbrev pub words_in_run : ℕ → List Sent → List Sent
words_in_run run sent = filter (λ (w : Sent). w.run == run) sent

-- whether a run of so many words has the place of a fault: its word, or any word where the fault is of the whole run
abbrev pub is_there : ℕ → Fault → Bool
is_there words (Mask run index half_bits) = nat_lt index words
is_there words (Drop run index) = nat_lt index words
is_there words (Add run index word) = nat_lt index words
is_there words (Late run ticks) = nat_lt 0 words
is_there words (Mute run) = nat_lt 0 words
is_there words (Early run ticks) = nat_lt 0 words
is_there words (Pause run index ticks) = nat_lt index words
is_there words (Babble run count word) = nat_lt 0 words

-- the words of the message of a talk that starts when the talk does, on this bus, under these faults
unfoldable pub sent_under : BusState → Talk → List Fault → List Sent
sent_under b t faults =
    (runs most_runs t.line faults 0 (Some (controllers t.line t.message t.start b.talks))
    (record { sent = []; stations = b.stations })).sent

-- A fault meets something where its run has its place, as the run's sender gives it: under the faults of earlier runs
-- alone, since these say whether and how the run comes about.
abbrev pub meets_something : BusState → Talk → List Fault → Fault → Bool
meets_something b t faults f = is_there
    (length (words_in_run (planned_run f) (sent_under b t (filter (is_before (planned_run f)) faults)))) f

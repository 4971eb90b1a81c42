-- What comes on the line of a message under other faults.
use Rattle.std.proofs.Common.{◌≡◌, ℕ, List, length, ◌∙◌, ap, refl}
use Rattle.std.specs.Prelude.{Bool}
use Rattle.std.specs.List.{filter}
use Rattle.mil_line.specs.declared.faults.Fault.{Fault}
use Rattle.mil_bus.specs.declared.talks.Sent.{Sent}
use Rattle.mil_bus.specs.declared.talks.Talk.{Talk}
use Rattle.mil_bus.specs.Exchange.{BusState, exchange_of, talk_of, talk_start}
use Rattle.bench_check.specs.Meeting.{planned_run, is_before, words_in_run, is_there, sent_under, meets_something}

-- the words of a talk whose message is that of another, and starts when that does
played_is : (b : BusState) (t again : Talk) (gap : ℕ) (faults : List Fault) → t.start ≡ talk_start b gap → again ≡ talk_of b t.line t.message gap faults → again.sent.items ≡ sent_under b t faults
unfolding talk_of exchange_of sent_under
played_is b t again gap faults start is = ap (λ (v : Talk). v.sent.items) is ∙ (rw start refl)

-- so that a run has as many words
pub words_are : (b copy : BusState) (t again : Talk) (gap : ℕ) (faults : List Fault) (run words : ℕ) → t.start ≡ talk_start b gap → copy ≡ b → again ≡ talk_of copy t.line t.message gap faults
    → words ≡ length (words_in_run run again.sent.items) → words ≡ length (words_in_run run (sent_under b t faults))
words_are b copy t again gap faults run words start same is count =
    let talk : again ≡ talk_of b t.line t.message gap faults = is ∙ (rw same refl) in
    count ∙ ap (λ (sent : List Sent). length (words_in_run run sent)) (played_is b t again gap faults start talk)

-- what is answered of a fault, once the words of its run are counted under the faults of earlier runs
pub meets_is : (b : BusState) (t : Talk) (faults before given : List Fault) (f : Fault) (run words : ℕ) (answer : Bool) → run ≡ planned_run f → before ≡ filter (is_before run) faults → given ≡ before
    → words ≡ length (words_in_run run (sent_under b t given)) → answer ≡ is_there words f → answer ≡ meets_something b t faults f
meets_is b t faults before given f run words answer of_run kept all count there =
    there ∙ ap (λ w. is_there w f) (count ∙ (rw (all, kept, of_run) refl))

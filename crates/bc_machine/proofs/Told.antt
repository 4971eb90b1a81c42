-- What a step tells.
use Rattle.std.proofs.Common.{◌≡◌, ◌≢◌, ℕ, zero, suc, ◌+◌, ◌-◌, ◌*◌, ◌<◌, ◌≤◌, ◌^◌, true, cond, eqb, ne_eqb, List, [], ◌∷◌, ◌++◌, length, Option, Some, None, sym, ap, ◌∙◌, subst, refl, ap₂, arith}
use Rattle.std.specs.Prelude.{slice_get}
use Rattle.std.proofs.lemmas.Bool.{eq-eqb}
use Rattle.mil_word.specs.declared.Line.{Line}
use Rattle.mil_message.specs.declared.messages.Message.{Message}
use Rattle.mil_message.specs.World.{Point, other_line, paced_to}
use Rattle.mil_line.specs.Plans.{faults_of}
use Rattle.mil_bus.specs.declared.outcomes.Outcome.{Outcome}
use Rattle.mil_bus.specs.Exchange.{clock_of, exchanged, talk_of, now_of, played, held_until}
use Rattle.mil_monitor.specs.Observed.{observed}
use Rattle.frame_code.specs.declared.Op.{Op}
use Rattle.frame_code.specs.declared.Op.TheVariants.{Halt, Send, Alt, SetGap, Loop, Again, Leave, Jump, Test, JumpFalse, Call, Return, Begin, Pace}
use Rattle.frame_code.specs.Table.{Registers, goes_on, act, sends, turns, counted, leaves, stuck, calls, comes_back, keeps_pace}
use Rattle.frame_code.specs.Routines.{routine_at}
use Rattle.frame_load.specs.Budget.{cost_of, one_sent}
use Rattle.controller_host.specs.Values.{InsertionValue}
use Rattle.bc_machine.specs.Hosting.{next_insertion, sent_form}
use Rattle.bc_machine.specs.MadeMessages.{own}
use Rattle.bc_machine.specs.Controller.{BusRun, ready, drained, with_own, own_talk, outcome_in, insertion_talk}
use Rattle.bc_machine.specs.Running.{MachineState, setting, world_in, frames_point, bus_run, most_inserted, turn_of, moved_by, with_inserted, waiting, stops_at, stepped_with, stepped, answered_with, answered, answer_of, latest_record, clock_in, ended_in}
use Rattle.bc_machine.specs.UnderWay.{IsQuiet, TellsStep}
use Rattle.bc_machine.specs.declared.Stepped.TheVariants.{Inserted}
use Rattle.bc_machine.proofs.Queued.{more_made}
use Rattle.bc_machine.proofs.Inserting.{drained_is}
use Rattle.bc_machine.proofs.Acts.{ready_talks, ready_start, ready_clock, talk_follows, talk_ends}

module _ (m : MachineState) (same : m.point.number ≡ length m.made) where
  -- a point of frames from which nothing more was sent
  quiet : (a : Registers) (q : Point BusRun Outcome) → q.state.made ≡ m.made → played q.state.bus ≡ played m.point.state → clock_in m ≤ now_of q.state.bus → q.last ≡ m.point.last
      → IsQuiet m (moved_by (goes_on (record { at = a; point = q })) m)
  quiet a q made state later last =
      let long : length q.state.made ≡ length m.made = ap length made in
      record {
        state = state;
        later = later;
        number = long ∙ sym same;
        last = last;
        latest = ap (λ b. cond b m.latest q.last) (eq-eqb (length q.state.made) (length m.made) long);
        taken = refl;
      }

  -- a row that leaves the bus
  stays : (a : Registers) (gap : ℕ) → IsQuiet m (moved_by (goes_on (record { at = a; point = record (frames_point m) { gap = gap } })) m)
  stays a gap = quiet a (record (frames_point m) { gap = gap }) refl refl (omega arith) refl

  -- a message of the script, where none waits in front of it
  abbrev pub sent_to : Line → Message → BusRun → MachineState
  sent_to line message v = moved_by (goes_on (record {
    at = record m.at { place = m.at.place + 1; line = line };
    point = record { state = with_own (setting m) line message m.point.gap v; number = (frames_point m).number + 1; gap = m.point.gap; last = Some (outcome_in (own_talk (setting m) line message m.point.gap v)) };
  })) m

  sent_told : (line : Line) (message : Message) → clock_in (sent_to line message (bus_run m)) < 2 ^ 48
      → TellsStep m (sent_to line message (bus_run m)) (latest_record (sent_to line message (bus_run m)).point.state.talks)
  unfolding exchanged
  sent_told line message small =
      let number = length m.made + 1 in
      let b = ready m.placed number m.point.state in
      let form = sent_form m.placed m.made message in
      let t = talk_of b line form m.point.gap (faults_of number m.plan) in
      let follows = talk_follows b line form m.point.gap (faults_of number m.plan) in
      let clock = ready_clock m.placed number m.point.state in
      let long = more_made m.made (own message) in
      let latest : cond (eqb (length (m.made ++ own message ∷ [])) (length m.made)) m.latest (Some (outcome_in t)) ≡ Some (outcome_in t) =
      ap (λ v. cond v m.latest (Some (outcome_in t))) (ne_eqb (length (m.made ++ own message ∷ [])) (length m.made) (λ e. omega (arith, e, long))) in
      record {
        message = record {
          talk = t;
          recorded = refl;
          talks = ap (λ ts. t ∷ ts) (ready_talks m.placed number m.point.state);
          number = omega (arith, long, same);
          latest = latest;
          small = omega (arith, small, talk_ends t);
          follows = omega (arith, follows, clock);
          ends = talk_ends t;
        };
        last = sym latest;
        taken = refl;
        paced = omega (arith, follows, clock);
      }

  pub drained_here : next_insertion m.placed (most_inserted m.code) m.made ≡ None → drained (setting m) m.point.gap (bus_run m) ≡ bus_run m
  drained_here none = drained_is m.plan m.placed (most_inserted m.code) 0 m.point.gap (bus_run m) none

  sends_told : (x : Option (Line × Message)) (on : Line → Line) → next_insertion m.placed (most_inserted m.code) m.made ≡ None → sends (world_in m) x on m.at (frames_point m) ≢ stuck
      → clock_in (moved_by (sends (world_in m) x on m.at (frames_point m)) m) < 2 ^ 48
      → TellsStep m (moved_by (sends (world_in m) x on m.at (frames_point m)) m) (latest_record (moved_by (sends (world_in m) x on m.at (frames_point m)) m).point.state.talks)
  sends_told None on none going small = absurd (going refl)
  sends_told (Some x) on none going small =
      let e = drained_here none in
      subst (λ v. TellsStep m (sent_to (on x.0) x.1 v) (latest_record (sent_to (on x.0) x.1 v).point.state.talks)) (sym e)
      (sent_told (on x.0) x.1 (subst (λ v. clock_in (sent_to (on x.0) x.1 v) < 2 ^ 48) e small))

  counted_told : (k : ℕ) (ns : List ℕ) (i : ℕ) → IsQuiet m (moved_by (counted (world_in m) k ns i m.at (frames_point m)) m)
  counted_told zero ns i = stays (record m.at { place = m.at.place + 1; counters = ns }) m.point.gap
  counted_told (suc k) ns i = stays (record m.at { place = i; counters = suc k ∷ ns }) m.point.gap

  turns_told : (cs : List ℕ) (i : ℕ) → turns (world_in m) cs i m.at (frames_point m) ≢ stuck → IsQuiet m (moved_by (turns (world_in m) cs i m.at (frames_point m)) m)
  turns_told [] i going = absurd (going refl)
  turns_told (n ∷ ns) i going = counted_told (n - 1) ns i

  leaves_told : (cs : List ℕ) (i : ℕ) → leaves (world_in m) cs i m.at (frames_point m) ≢ stuck → IsQuiet m (moved_by (leaves (world_in m) cs i m.at (frames_point m)) m)
  leaves_told [] i going = absurd (going refl)
  leaves_told (n ∷ ns) i going = stays (record m.at { place = i; counters = ns }) m.point.gap

  calls_told : (o : Option ℕ) → calls (world_in m) o m.at (frames_point m) ≢ stuck → IsQuiet m (moved_by (calls (world_in m) o m.at (frames_point m)) m)
  calls_told None going = absurd (going refl)
  calls_told (Some i) going = stays (record m.at { place = i; returns = (m.at.place + 1) ∷ m.at.returns }) m.point.gap

  backs_told : (is : List ℕ) → comes_back (world_in m) is m.at (frames_point m) ≢ stuck → IsQuiet m (moved_by (comes_back (world_in m) is m.at (frames_point m)) m)
  backs_told [] going = absurd (going refl)
  backs_told (i ∷ is) going = stays (record m.at { place = i; returns = is }) m.point.gap

  paces_told : (bs : List ℕ) (h : ℕ) → keeps_pace (world_in m) bs h m.at (frames_point m) ≢ stuck → IsQuiet m (moved_by (keeps_pace (world_in m) bs h m.at (frames_point m)) m)
  paces_told [] h going = absurd (going refl)
  paces_told (b ∷ bs) h going = quiet (record m.at { place = m.at.place + 1; frames = bs }) (paced_to (world_in m) (b + 1000 * h) (frames_point m)) refl refl (omega arith) refl

  -- what each row tells, where none waits in front of one that stops, and one that sends a message leaves now below 2^48
  pub told_by : (o : Option Op) → slice_get m.code.operations m.at.place ≡ o → act (world_in m) o m.code m.at (frames_point m) ≢ stuck
      → waiting m ≡ None → (stops_at o ≡ true → next_insertion m.placed (most_inserted m.code) m.made ≡ None)
      → (0 < cost_of one_sent o → clock_in (moved_by (act (world_in m) o m.code m.at (frames_point m)) m) < 2 ^ 48)
      → TellsStep m (moved_by (act (world_in m) o m.code m.at (frames_point m)) m) (answer_of o (moved_by (act (world_in m) o m.code m.at (frames_point m)) m).point.state.talks)
  told_by None e going waits none small = absurd (going refl)
  told_by (Some Halt) e going waits none small = record { ended = record { halts = ap (λ v. act (world_in m) v m.code m.at (frames_point m)) e; none = waits }; same = refl }
  told_by (Some (Send i)) e going waits none small = sends_told (slice_get m.code.messages i) (λ l. l) (none refl) going (small (omega arith))
  told_by (Some (Alt i)) e going waits none small = sends_told (slice_get m.code.messages i) (λ l. other_line m.at.line) (none refl) going (small (omega arith))
  told_by (Some (SetGap t)) e going waits none small = stays _ t
  told_by (Some (Loop n)) e going waits none small = stays _ m.point.gap
  told_by (Some (Again i)) e going waits none small = turns_told m.at.counters i going
  told_by (Some (Leave i)) e going waits none small = leaves_told m.at.counters i going
  told_by (Some (Jump i)) e going waits none small = stays _ m.point.gap
  told_by (Some (Test k)) e going waits none small = stays _ m.point.gap
  told_by (Some (JumpFalse i)) e going waits none small = stays _ m.point.gap
  told_by (Some (Call n)) e going waits none small = calls_told (routine_at m.code.operations n) going
  told_by (Some Return) e going waits none small = backs_told m.at.returns going
  told_by (Some Begin) e going waits none small = stays _ m.point.gap
  told_by (Some (Pace h)) e going waits none small = paces_told m.at.frames h going

  -- an inserted message, which leaves now below 2^48
  pub inserted_told : (x : InsertionValue) → clock_in (with_inserted m x) < 2 ^ 48
      → TellsStep m (with_inserted m x) (Inserted (observed (insertion_talk (setting m) m.point.gap x (bus_run m))))
  unfolding exchanged
  inserted_told x small =
      let number = length m.made + 1 in
      let b = ready m.placed number m.point.state in
      let held = held_until x.tick b in
      let t = talk_of held x.line x.message m.point.gap (faults_of number m.plan) in
      let follows = talk_follows held x.line x.message m.point.gap (faults_of number m.plan) in
      let talks = ready_talks m.placed number m.point.state in
      let start = ready_start m.placed number m.point.state in
      let ended : clock_of b.start b.talks ≡ ended_in m = ap₂ clock_of start talks in
      record {
        message = record {
          talk = t;
          recorded = refl;
          talks = ap (λ ts. t ∷ ts) (ready_talks m.placed number m.point.state);
          number = refl;
          latest = refl;
          small = omega (arith, small, talk_ends t);
          follows = omega (arith, follows, ended);
          ends = talk_ends t;
        };
        last = refl;
        at = refl;
        taken = refl;
        least_start = refl;
      }

  none_of : waiting m ≡ None → stops_at (slice_get m.code.operations m.at.place) ≡ true → next_insertion m.placed (most_inserted m.code) m.made ≡ None
  none_of none stops = ap (λ b. cond b (next_insertion m.placed (most_inserted m.code) m.made) None) (sym stops) ∙ none

  told_with : (o : Option InsertionValue) → waiting m ≡ o → turn_of m ≢ stuck → clock_in (stepped_with o m) < 2 ^ 48 → stepped m ≡ stepped_with o m → TellsStep m (stepped_with o m) (answered_with o m)
  told_with None e going small is =
      subst (λ (n : MachineState). TellsStep m (stepped_with None m) (answer_of (slice_get m.code.operations m.at.place) n.point.state.talks)) (sym is)
      (told_by (slice_get m.code.operations m.at.place) refl going e (none_of e) (λ sends. small))
  told_with (Some x) e going small is = inserted_told x small

  pub told : turn_of m ≢ stuck → clock_in (stepped m) < 2 ^ 48 → TellsStep m (stepped m) (answered m)
  unfolding stepped answered
  told going small = told_with (waiting m) refl going small refl

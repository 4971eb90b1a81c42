-- The talks of a controller's bus only grow, by one a message, of the script or inserted.
use Rattle.std.proofs.Common.{◌≡◌, ℕ, ◌+◌, false, List, [], ◌∷◌, ◌++◌, length, take, map, refl, sym, ap, ◌∙◌, append_assoc, arith}
use Rattle.std.specs.Prelude.{reverse, slice_get}
use Rattle.std.proofs.lemmas.List.{length-append, length-map, reverse-append, length-reverse, map-append, append-nil}
use Rattle.std.proofs.Math.Seq.{take-append_seam}
use Rattle.mil_word.specs.declared.Line.{Line}
use Rattle.mil_message.specs.declared.messages.Message.{Message}
use Rattle.mil_message.specs.World.{Point, sent}
use Rattle.mil_line.specs.Plans.{Planned}
use Rattle.mil_bus.specs.declared.talks.Talk.{Talk}
use Rattle.mil_bus.specs.declared.outcomes.Outcome.{Outcome}
use Rattle.mil_bus.specs.Exchange.{exchanged, paced}
use Rattle.mil_monitor.specs.Observed.{observed}
use Rattle.frame_code.specs.Table.{Code, Registers, Running, goes_on, run}
use Rattle.controller_host.specs.Values.{InsertionValue}
use Rattle.bc_machine.specs.declared.placed.Placed.{Placed}
use Rattle.bc_machine.specs.MadeMessages.{own, inserted}
use Rattle.bc_machine.specs.Controller.{Setting, BusRun, setting_of, world_of, own_talk, insertion_talk, with_own, with_insertion, inserting_many, drained}
use Rattle.bc_machine.specs.Running.{stops_at}
use Rattle.bc_machine.proofs.Acts.{ready_talks}
use Rattle.bc_machine.proofs.Queued.{more_made}
use Rattle.job_file.specs.Meaning.{records_in}
use Rattle.job_file.proofs.Drains.{many, drains, message, along, to_end}

-- more talks, as many as messages were made
abbrev pub Grows : BusRun → BusRun → Type 0
Grows r q = (more : List Talk) × (q.bus.talks ≡ more ++ r.bus.talks) × (length q.made ≡ length more + length r.made)

pub grows_same : (r : BusRun) → Grows r r
grows_same r = ([], refl, omega arith)

pub grows_paced : (tick : ℕ) (r : BusRun) → Grows r (record { bus = paced tick r.bus; made = r.made })
grows_paced tick r = ([], refl, omega arith)

pub grows_through : (a b c : BusRun) → Grows a b → Grows b c → Grows a c
grows_through a b c f g =
    (g.0 ++ f.0, g.1 ∙ ap (λ (ts : List Talk). g.0 ++ ts) f.1 ∙ sym (append_assoc g.0 f.0 a.bus.talks), omega (arith, f.2, g.2, length-append g.0 f.0))

module _ (plan : List Planned) (placed : List Placed) (most : ℕ) where
  abbrev s : Setting
  s = setting_of plan placed most

  pub grows_own : (line : Line) (m : Message) (gap : ℕ) (r : BusRun) → Grows r (with_own s line m gap r)
  unfolding exchanged
  grows_own line m gap r =
      let talk : Talk = own_talk s line m gap r in
      (talk ∷ [], ap (λ (ts : List Talk). talk ∷ ts) (ready_talks placed (length r.made + 1) r.bus), omega (arith, more_made r.made (own m)))

  pub grows_inserted : (gap : ℕ) (x : InsertionValue) (r : BusRun) → Grows r (with_insertion s gap x r)
  unfolding exchanged
  grows_inserted gap x r =
      let talk : Talk = insertion_talk s gap x r in
      (talk ∷ [], ap (λ (ts : List Talk). talk ∷ ts) (ready_talks placed (length r.made + 1) r.bus), omega (arith, more_made r.made inserted))

  pub grows_many : (n gap : ℕ) (r : BusRun) → Grows r (inserting_many s n gap r)
  grows_many n gap r = many s Grows grows_same grows_own grows_inserted grows_paced grows_through n gap r

  pub grows_drained : (gap : ℕ) (r : BusRun) → Grows r (drained s gap r)
  grows_drained gap r = drains s Grows grows_same grows_own grows_inserted grows_paced grows_through gap r

  pub grows_message : (line : Line) (m : Message) (p : Point BusRun Outcome) → Grows p.state (sent (world_of plan placed most) line m p).state
  grows_message line m p = message s Grows grows_same grows_own grows_inserted grows_paced grows_through line m p

  pub grows_along : (code : Code) (n : ℕ) (r : Registers) (p : Point BusRun Outcome) (x : Running BusRun Outcome) → run (world_of plan placed most) n code r p ≡ goes_on x → Grows p.state x.point.state
  grows_along code n r p x e = along s Grows grows_same grows_own grows_inserted grows_paced grows_through code n r p x e

  pub grows_to_end : (code : Code) (n : ℕ) (x y : Running BusRun Outcome) (count : ℕ) → run (world_of plan placed most) n code x.at x.point ≡ goes_on y
      → (stops_at (slice_get code.operations x.at.place) ≡ false → count ≡ 0) → Grows (inserting_many s count x.point.gap x.point.state) (drained s y.point.gap y.point.state)
  grows_to_end code n x y count e idle = to_end s Grows grows_same grows_own grows_inserted grows_paced grows_through code n x y count e idle

records_more : (more talks : List Talk) → map observed (reverse (more ++ talks)) ≡ map observed (reverse talks) ++ map observed (reverse more)
records_more more talks = ap (map observed) (reverse-append more talks) ∙ map-append observed (reverse talks) (reverse more)

length_records : (talks : List Talk) → length (map observed (reverse talks)) ≡ length talks
length_records talks = length-map (reverse talks) observed ∙ length-reverse talks

-- as many records as messages, from a bus without talks on
pub records_count : (r q : BusRun) → r.bus.talks ≡ [] → length r.made ≡ 0 → Grows r q → length q.made ≡ length (records_in q.bus)
records_count r q none zero_yet a =
    a.2 ∙ omega (arith, zero_yet) ∙ sym (ap length (a.1 ∙ ap (λ (ts : List Talk). a.0 ++ ts) none ∙ append-nil a.0)) ∙ sym (length_records q.bus.talks)

-- the records so far are the first of those later
pub records_first : (r q e : BusRun) → r.bus.talks ≡ [] → length r.made ≡ 0 → Grows r q → Grows q e → records_in q.bus ≡ take (length q.made) (records_in e.bus)
records_first r q e none zero_yet a b =
    let long : length q.made ≡ length (records_in q.bus) = records_count r q none zero_yet a in
    sym (ap (λ (ts : List Talk). take (length q.made) (map observed (reverse ts))) b.1 ∙ ap (take (length q.made)) (records_more b.0 q.bus.talks)
    ∙ ap (λ n. take n (records_in q.bus ++ map observed (reverse b.0))) long ∙ take-append_seam (records_in q.bus) (map observed (reverse b.0)))

-- The talks of a bus only grow with a frame, by one a message, whatever actions are placed; and no test sees these but by the last outcome.
use Rattle.std.proofs.Common.{◌≡◌, ℕ, zero, suc, ◌+◌, ◌*◌, ◌-◌, Bool, true, false, not, ◌&&◌, ◌||◌, cond, List, [], ◌∷◌, ◌++◌, length, refl, sym, ap, ◌∙◌, append_assoc, arith}
use Rattle.std.specs.Prelude.{Option, Some, None}
use Rattle.std.proofs.lemmas.List.{length-append}
use Rattle.mil_word.specs.declared.Line.{Line}
use Rattle.mil_message.specs.declared.outcome_test.OutcomeTest.TheVariants.{Failed}
use Rattle.mil_message.specs.declared.outcome_test.OutcomeTest.{OutcomeTest}
use Rattle.mil_message.specs.declared.messages.Message.{Message}
use Rattle.mil_message.specs.declared.forms.Form.{Form}
use Rattle.mil_message.specs.World.{World, Point, other_line, sent, asks, now_at, paced_to}
use Rattle.mil_line.specs.Plans.{Planned, faults_of}
use Rattle.mil_bus.specs.declared.outcomes.Outcome.{Outcome}
use Rattle.mil_bus.specs.declared.talks.Talk.{Talk}
use Rattle.mil_bus.specs.Exchange.{BusState, exchanged, talk_of, held_until}
use Rattle.frame_tree.specs.Tree.{Condition, asked, negated, both, either, Tree, send, retry, gap, repeat, choose, until, timed, nothing, chained, call, define}
use Rattle.frame_tree.specs.Meaning.{condition_meaning, times, attempts, turns_until, plain_meaning}
use Rattle.controller_host.specs.Values.{InsertionValue}
use Rattle.bc_machine.specs.declared.placed.Placed.{Placed}
use Rattle.bc_machine.specs.MadeMessages.{MadeMessage, own, inserted}
use Rattle.bc_machine.specs.Hosting.{next_insertion, inserted_in, sent_form}
use Rattle.bc_machine.specs.Controller.{Setting, BusRun, setting_of, world_of, ready, with_insertion, with_own, inserted_next, inserting, inserting_many, drained}
use Rattle.bc_machine.proofs.Acts.{ready_talks, exchanged_talks}
use Rattle.bc_machine.proofs.Queued.{more_made}

abbrev pub BusPoint : Type 0
BusPoint = Point BusRun Outcome

-- ---- tests

module _ (plan : List Planned) (ps qs : List Placed) (most : ℕ) where
  pub asks_alike : (k : OutcomeTest) (p : BusPoint) → asks (world_of plan qs most) k p ≡ asks (world_of plan ps most) k p
  asks_alike k p = by_case p.last
    where
      by_case : (last : Option Outcome) → asks (world_of plan qs most) k (record { state = p.state; number = p.number; gap = p.gap; last = last })
          ≡ asks (world_of plan ps most) k (record { state = p.state; number = p.number; gap = p.gap; last = last })
      by_case None = refl
      by_case (Some o) = refl

  pub tests_alike : (c : Condition) (p : BusPoint) → condition_meaning (world_of plan qs most) c p ≡ condition_meaning (world_of plan ps most) c p
  tests_alike (asked t) p = asks_alike t p
  tests_alike (negated c) p = ap not (tests_alike c p)
  tests_alike (both a b) p =
      ap (λ x. x && condition_meaning (world_of plan qs most) b p) (tests_alike a p) ∙ ap (λ x. condition_meaning (world_of plan ps most) a p && x) (tests_alike b p)
  tests_alike (either a b) p =
      ap (λ x. x || condition_meaning (world_of plan qs most) b p) (tests_alike a p) ∙ ap (λ x. condition_meaning (world_of plan ps most) a p || x) (tests_alike b p)

-- ---- talks

-- more talks, as many as messages were made
abbrev pub Grows : BusRun → BusRun → Type 0
Grows r u = (more : List Talk) × (u.bus.talks ≡ more ++ r.bus.talks) × (length u.made ≡ length more + length r.made)

pub grows_same : (r : BusRun) → Grows r r
grows_same r = ([], refl, omega arith)

pub grows_through : (r u v : BusRun) → Grows r u → Grows u v → Grows r v
grows_through r u v a b =
    (b.0 ++ a.0, b.1 ∙ ap (λ (ts : List Talk). b.0 ++ ts) a.1 ∙ sym (append_assoc b.0 a.0 r.bus.talks), omega (arith, a.2, b.2, length-append b.0 a.0))

-- one message more
grows_one : (r : BusRun) (b : BusState) (talk : Talk) (made : MadeMessage) → b.talks ≡ talk ∷ r.bus.talks → Grows r (record { bus = b; made = r.made ++ made ∷ [] })
grows_one r b talk made talks = (talk ∷ [], talks, omega (arith, more_made r.made made))

-- the talks behind a step that may be made grow where they do behind the step
either_grows : (r : BusRun) (p q : BusPoint) (b : Bool) → Grows r p.state → Grows r q.state → Grows r (cond b p q).state
either_grows r p q true left right = left
either_grows r p q false left right = right

module _ (plan : List Planned) (placed : List Placed) (most : ℕ) where
  abbrev w : World BusRun Outcome
  w = world_of plan placed most

  abbrev s : Setting
  s = setting_of plan placed most

  insertion_grows : (pause : ℕ) (x : InsertionValue) (r : BusRun) → Grows r (with_insertion s pause x r)
  insertion_grows pause x r =
      let n : ℕ = length r.made + 1 in
      let bus : BusState = held_until x.tick (ready placed n r.bus) in
      let talk : Talk = talk_of bus x.line x.message pause (faults_of n plan) in
      let behind : BusState = exchanged bus x.line x.message pause (faults_of n plan) in
      grows_one r (held_until r.bus.least_start behind) talk inserted
      (exchanged_talks bus behind x.line x.message pause (faults_of n plan) talk refl refl ∙ ap (λ (ts : List Talk). talk ∷ ts) (ready_talks placed n r.bus))

  next_grows : (pause : ℕ) (o : Option InsertionValue) (r : BusRun) → Grows r (inserted_next s pause o r)
  next_grows pause None r = grows_same r
  next_grows pause (Some x) r = insertion_grows pause x r

  pub inserting_grows : (pause : ℕ) (r : BusRun) → Grows r (inserting s pause r)
  inserting_grows pause r = next_grows pause (next_insertion placed most r.made) r

  pub many_grow : (n pause : ℕ) (r : BusRun) → Grows r (inserting_many s n pause r)
  many_grow zero pause r = grows_same r
  many_grow (suc n) pause r = grows_through r (inserting s pause r) (inserting_many s n pause (inserting s pause r)) (inserting_grows pause r) (many_grow n pause (inserting s pause r))

  pub drained_grows : (pause : ℕ) (r : BusRun) → Grows r (drained s pause r)
  unfolding drained
  drained_grows pause r = many_grow (most - inserted_in r.made) pause r

  pub own_grows : (line : Line) (form : Form) (pause : ℕ) (r : BusRun) → Grows r (with_own s line form pause r)
  own_grows line form pause r =
      let n : ℕ = length r.made + 1 in
      let bus : BusState = ready placed n r.bus in
      let message : Form = sent_form placed r.made form in
      let talk : Talk = talk_of bus line message pause (faults_of n plan) in
      let behind : BusState = exchanged bus line message pause (faults_of n plan) in
      grows_one r behind talk (own form)
      (exchanged_talks bus behind line message pause (faults_of n plan) talk refl refl ∙ ap (λ (ts : List Talk). talk ∷ ts) (ready_talks placed n r.bus))

  pub sent_grows : (line : Line) (m : Message) (p : BusPoint) → Grows p.state (sent w line m p).state
  sent_grows line m p =
      let d : BusRun = drained s p.gap p.state in
      grows_through p.state d (with_own s line m p.gap d) (drained_grows p.gap p.state) (own_grows line m p.gap d)

  pub paced_grows : (t : ℕ) (p : BusPoint) → Grows p.state (paced_to w t p).state
  paced_grows t p = ([], refl, omega arith)

  pub attempts_grow : (n : ℕ) (line : Line) (m : Message) (p : BusPoint) → Grows p.state (attempts w n line m p).state
  attempts_grow zero line m p = grows_same p.state
  attempts_grow (suc n) line m p =
      let next : BusPoint = sent w (other_line line) m p in
      either_grows p.state (attempts w n (other_line line) m next) p (asks w Failed p)
      (grows_through p.state next.state (attempts w n (other_line line) m next).state (sent_grows (other_line line) m p) (attempts_grow n (other_line line) m next)) (grows_same p.state)

  pub times_grow : (n : ℕ) (f : BusPoint → BusPoint) → ((p : BusPoint) → Grows p.state (f p).state) → (p : BusPoint) → Grows p.state (times n f p).state
  times_grow zero f grows p = grows_same p.state
  times_grow (suc n) f grows p = grows_through p.state (f p).state (times n f (f p)).state (grows p) (times_grow n f grows (f p))

  pub turns_grow : (n : ℕ) (c : Condition) (f : BusPoint → BusPoint) → ((p : BusPoint) → Grows p.state (f p).state) → (p : BusPoint) → Grows p.state (turns_until w n c f p).state
  turns_grow zero c f grows p = grows_same p.state
  turns_grow (suc n) c f grows p =
      either_grows p.state p (turns_until w n c f (f p)) (condition_meaning w c p) (grows_same p.state)
      (grows_through p.state (f p).state (turns_until w n c f (f p)).state (grows p) (turns_grow n c f grows (f p)))

  pub tree_grows : (t : Tree) (p : BusPoint) → Grows p.state (plain_meaning w t p).state
  tree_grows (send line m) p = sent_grows line m p
  tree_grows (retry n line m) p =
      grows_through p.state (sent w line m p).state (attempts w n line m (sent w line m p)).state (sent_grows line m p) (attempts_grow n line m (sent w line m p))
  tree_grows (gap t) p = grows_same p.state
  tree_grows (repeat n b) p = times_grow n (plain_meaning w b) (λ q. tree_grows b q) p
  tree_grows (choose c a b) p = either_grows p.state (plain_meaning w a p) (plain_meaning w b p) (condition_meaning w c p) (tree_grows a p) (tree_grows b p)
  tree_grows (until c n b) p = turns_grow n c (plain_meaning w b) (λ q. tree_grows b q) p
  tree_grows (timed h b) p =
      let tick : ℕ = now_at w p + 1000 * h in
      let body : BusPoint = plain_meaning w b p in
      grows_through p.state body.state (paced_to w tick body).state (tree_grows b p) (paced_grows tick body)
  tree_grows nothing p = grows_same p.state
  tree_grows (chained a b) p =
      grows_through p.state (plain_meaning w a p).state (plain_meaning w b (plain_meaning w a p)).state (tree_grows a p) (tree_grows b (plain_meaning w a p))
  tree_grows (call n) p = grows_same p.state
  tree_grows (define n b r) p = tree_grows r p

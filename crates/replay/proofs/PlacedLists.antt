-- Two lists of placed actions that are alike up to the last message give the same messages.
use Rattle.std.proofs.Common.{◌≡◌, ◌≢◌, ℕ, zero, suc, ◌+◌, ◌-◌, ◌*◌, ◌<◌, ◌≤◌, Bool, true, false, cond, eqb, List, [], ◌∷◌, ◌++◌, length, refl, sym, ap, ◌∙◌, ⊎_elim, arith}
use Rattle.std.proofs.lemmas.Bool.{eq-eqb, eqb-true, ne_eqb, cases_lt}
use Rattle.std.specs.Prelude.{Option, Some, None, reverse}
use Rattle.std.proofs.lemmas.List.{append-nil, length-map, length-reverse}
use Rattle.std.proofs.lemmas.List.Elements.{filter-append}
use Rattle.mil_word.specs.declared.Line.{Line}
use Rattle.mil_message.specs.declared.outcome_test.OutcomeTest.TheVariants.{Failed}
use Rattle.mil_message.specs.declared.messages.Message.{Message}
use Rattle.mil_message.specs.World.{World, Point, other_line, sent, asks, now_at, paced_to}
use Rattle.mil_line.specs.Plans.{Planned}
use Rattle.mil_bus.specs.declared.outcomes.Outcome.{Outcome}
use Rattle.mil_bus.specs.Exchange.{exchanged}
use Rattle.mil_monitor.specs.Observed.{observed}
use Rattle.frame_tree.specs.Tree.{Condition, Tree, send, retry, gap, repeat, choose, until, timed, nothing, chained, call, define}
use Rattle.frame_tree.specs.Meaning.{condition_meaning, times, attempts, turns_until, plain_meaning}
use Rattle.frame_tree.specs.Expansion.{expansion}
use Rattle.bc_machine.specs.declared.placed.Placed.{Placed}
use Rattle.controller_host.specs.Values.{InsertionValue}
use Rattle.bc_machine.specs.MadeMessages.{own, inserted}
use Rattle.bc_machine.specs.Hosting.{placed_up_to, next_insertion, inserted_in}
use Rattle.bc_machine.specs.Controller.{Setting, BusRun, setting_of, placed_at, world_of, with_own, with_insertion, inserted_next, inserting, inserting_many, drained}
use Rattle.bc_machine.specs.Running.{beginning, most_inserted}
use Rattle.bc_machine.proofs.Acts.{ready_talks}
use Rattle.bc_machine.proofs.Queued.{more_made}
use Rattle.bc_machine.proofs.Inserting.{long_drained}
use Rattle.frame_asm.specs.Shapes.{code_of_tree}
use Rattle.job_file.specs.Spelled.{ChannelJob}
use Rattle.job_file.specs.Meaning.{bus_of, records_in, records}
use Rattle.replay.proofs.FirstMet.{asks_is, meaning_is}
use Rattle.replay.proofs.AlikeWorlds.{drained_alike, sent_alike}

abbrev BusPoint : Type 0
BusPoint = Point BusRun Outcome

-- ---- the actions at a number

at_own : (n k : ℕ) (xs : List Placed) → n ≡ k → placed_at n (placed_at k xs) ≡ placed_at n xs
at_own n k [] same = refl
at_own n k (x ∷ xs) same = by_case (eqb x.number n) refl (eqb x.number k) refl (at_own n k xs same)
  where
    by_case : (a : Bool) → eqb x.number n ≡ a → (b : Bool) → eqb x.number k ≡ b → placed_at n (placed_at k xs) ≡ placed_at n xs
        → placed_at n (cond b (x ∷ placed_at k xs) (placed_at k xs)) ≡ cond a (x ∷ placed_at n xs) (placed_at n xs)
    by_case true e true h later = rw e (ap (λ (ps : List Placed). x ∷ ps) later)
    by_case true e false h later = absurd (let wrong : true ≡ false = sym (eq-eqb x.number k (eqb-true x.number n e ∙ same)) ∙ h in cc)
    by_case false e true h later = absurd (let wrong : true ≡ false = sym (eq-eqb x.number n (eqb-true x.number k h ∙ sym same)) ∙ e in cc)
    by_case false e false h later = later

at_other : (n k : ℕ) (xs : List Placed) → n ≢ k → placed_at n (placed_at k xs) ≡ []
at_other n k [] other = refl
at_other n k (x ∷ xs) other = by_case (eqb x.number k) refl (at_other n k xs other)
  where
    by_case : (b : Bool) → eqb x.number k ≡ b → placed_at n (placed_at k xs) ≡ [] → placed_at n (cond b (x ∷ placed_at k xs) (placed_at k xs)) ≡ []
    by_case true h later = rw (ne_eqb x.number n (λ e. other (sym e ∙ eqb-true x.number k h))) later
    by_case false h later = later

none_above : (n made : ℕ) (actions : List Placed) → made < n → placed_at n (placed_up_to made actions) ≡ []
unfolding placed_up_to
none_above n zero actions less = refl
none_above n (suc made) actions less =
    filter-append (λ (p : Placed). eqb p.number n) (placed_up_to made actions) (placed_at (suc made) actions)
    ∙ ap (λ (ps : List Placed). ps ++ placed_at n (placed_at (suc made) actions)) (none_above n made actions (omega (arith, less)))
    ∙ at_other n (suc made) actions (λ e. absurd (omega (arith, less, e)))

same_at : (n made : ℕ) (actions : List Placed) → 1 ≤ n → n ≤ made → placed_at n (placed_up_to made actions) ≡ placed_at n actions
unfolding placed_up_to
same_at n zero actions low high = absurd (omega (arith, low, high))
same_at n (suc made) actions low high =
    filter-append (λ (p : Placed). eqb p.number n) (placed_up_to made actions) (placed_at (suc made) actions)
    ∙ ⊎_elim
    (λ less.
    ap (λ (ps : List Placed). placed_at n (placed_up_to made actions) ++ ps) (at_other n (suc made) actions (λ e. absurd (omega (arith, less, e))))
    ∙ append-nil (placed_at n (placed_up_to made actions))
    ∙ same_at n made actions low (omega (arith, less)))
    (λ le.
    let here : n ≡ suc made = omega (arith, le, high) in
    ap (λ (ps : List Placed). ps ++ placed_at n (placed_at (suc made) actions)) (none_above n made actions (omega (arith, le)))
    ∙ at_own n (suc made) actions here)
    (cases_lt n (suc made))

-- ---- what every tree keeps

module _ (w : World BusRun Outcome) (R : BusPoint → BusPoint → Type 0) (same : (p : BusPoint) → R p p) (gaps : (p : BusPoint) (t : ℕ) → R p (record p { gap = t }))
    (message : (line : Line) (m : Message) (p : BusPoint) → R p (sent w line m p)) (paced : (t : ℕ) (p : BusPoint) → R p (paced_to w t p)) (through : (p q s : BusPoint) → R p q → R q s → R p s) where
  attempts_keep : (n : ℕ) (line : Line) (m : Message) (p : BusPoint) → R p (attempts w n line m p)
  attempts_keep zero line m p = same p
  attempts_keep (suc n) line m p = by_case (asks w Failed p) (attempts_keep n (other_line line) m (sent w (other_line line) m p))
    where
      by_case : (b : Bool) → R (sent w (other_line line) m p) (attempts w n (other_line line) m (sent w (other_line line) m p))
          → R p (cond b (attempts w n (other_line line) m (sent w (other_line line) m p)) p)
      by_case true later = through p (sent w (other_line line) m p) (attempts w n (other_line line) m (sent w (other_line line) m p)) (message (other_line line) m p) later
      by_case false later = same p

  times_keep : (n : ℕ) (f : BusPoint → BusPoint) → ((p : BusPoint) → R p (f p)) → (p : BusPoint) → R p (times n f p)
  times_keep zero f keeps p = same p
  times_keep (suc n) f keeps p = through p (f p) (times n f (f p)) (keeps p) (times_keep n f keeps (f p))

  turns_keep : (n : ℕ) (c : Condition) (f : BusPoint → BusPoint) → ((p : BusPoint) → R p (f p)) → (p : BusPoint) → R p (turns_until w n c f p)
  turns_keep zero c f keeps p = same p
  turns_keep (suc n) c f keeps p = by_case (condition_meaning w c p) (through p (f p) (turns_until w n c f (f p)) (keeps p) (turns_keep n c f keeps (f p)))
    where
      by_case : (b : Bool) → R p (turns_until w n c f (f p)) → R p (cond b p (turns_until w n c f (f p)))
      by_case true later = same p
      by_case false later = later

  tree_keeps : (t : Tree) (p : BusPoint) → R p (plain_meaning w t p)
  tree_keeps (send line m) p = message line m p
  tree_keeps (retry n line m) p = through p (sent w line m p) (attempts w n line m (sent w line m p)) (message line m p) (attempts_keep n line m (sent w line m p))
  tree_keeps (gap t) p = gaps p t
  tree_keeps (repeat n b) p = times_keep n (plain_meaning w b) (λ q. tree_keeps b q) p
  tree_keeps (choose c a b) p = by_case (condition_meaning w c p) (tree_keeps a p) (tree_keeps b p)
    where
      by_case : (x : Bool) → R p (plain_meaning w a p) → R p (plain_meaning w b p) → R p (cond x (plain_meaning w a p) (plain_meaning w b p))
      by_case true l r = l
      by_case false l r = r
  tree_keeps (until c n b) p = turns_keep n c (plain_meaning w b) (λ q. tree_keeps b q) p
  tree_keeps (timed h b) p =
      through p (plain_meaning w b p) (paced_to w (now_at w p + 1000 * h) (plain_meaning w b p)) (tree_keeps b p) (paced (now_at w p + 1000 * h) (plain_meaning w b p))
  tree_keeps nothing p = same p
  tree_keeps (call n) p = same p
  tree_keeps (define n b r) p = tree_keeps r p
  tree_keeps (chained a b) p = through p (plain_meaning w a p) (plain_meaning w b (plain_meaning w a p)) (tree_keeps a p) (tree_keeps b (plain_meaning w a p))

-- ---- as many talks as messages

abbrev Balanced : BusRun → BusRun → Type 0
Balanced r q = length q.bus.talks + length r.made ≡ length r.bus.talks + length q.made

module _ (plan : List Planned) (placed : List Placed) (most : ℕ) where
  abbrev s : Setting
  s = setting_of plan placed most

  balanced_own : (line : Line) (m : Message) (ticks : ℕ) (r : BusRun) → Balanced r (with_own s line m ticks r)
  unfolding exchanged
  balanced_own line m ticks r = let before = ap length (ready_talks placed (length r.made + 1) r.bus) in omega (arith, before, more_made r.made (own m))

  balanced_insertion : (ticks : ℕ) (x : InsertionValue) (r : BusRun) → Balanced r (with_insertion s ticks x r)
  unfolding exchanged
  balanced_insertion ticks x r = let before = ap length (ready_talks placed (length r.made + 1) r.bus) in omega (arith, before, more_made r.made inserted)

  balanced_one : (ticks : ℕ) (r : BusRun) → Balanced r (inserting s ticks r)
  balanced_one ticks r = by_next (next_insertion placed most r.made)
    where
      by_next : (o : Option InsertionValue) → Balanced r (inserted_next s ticks o r)
      by_next None = refl
      by_next (Some x) = balanced_insertion ticks x r

  balanced_many : (n ticks : ℕ) (r : BusRun) → Balanced r (inserting_many s n ticks r)
  balanced_many zero ticks r = refl
  balanced_many (suc n) ticks r = let first = balanced_one ticks r in let rest = balanced_many n ticks (inserting s ticks r) in omega (arith, first, rest)

  balanced_drained : (ticks : ℕ) (r : BusRun) → Balanced r (drained s ticks r)
  unfolding drained
  balanced_drained ticks r = balanced_many (most - inserted_in r.made) ticks r

  balanced_sent : (line : Line) (m : Message) (p : BusPoint) → Balanced p.state (sent (world_of plan placed most) line m p).state
  balanced_sent line m p =
      let first = balanced_drained p.gap p.state in
      let rest = balanced_own line m p.gap (drained s p.gap p.state) in
      omega (arith, first, rest)

  balanced_tree : (t : Tree) (p : BusPoint) → Balanced p.state (plain_meaning (world_of plan placed most) t p).state
  balanced_tree =
      tree_keeps (world_of plan placed most) (λ p q. Balanced p.state q.state) (λ p. refl) (λ p t. refl) balanced_sent (λ t p. refl) (λ p q r a b. omega (arith, a, b))

-- ---- the same in both worlds, as far as the lists are alike

module _ (plan : List Planned) (made : ℕ) (actions : List Placed) (most : ℕ) where
  abbrev w : World BusRun Outcome
  w = world_of plan actions most

  abbrev v : World BusRun Outcome
  v = world_of plan (placed_up_to made actions) most

  abbrev made_by : BusPoint → ℕ
  made_by p = length p.state.made

  abbrev Rises : BusPoint → BusPoint → Type 0
  Rises p q = made_by p ≤ made_by q

  sent_rises : (line : Line) (m : Message) (p : BusPoint) → made_by p ≤ made_by (sent w line m p)
  sent_rises line m p =
      let before = drained (setting_of plan actions most) p.gap p.state in
      let low = long_drained plan actions most p.gap p.state in
      omega (arith, low, more_made before.made (own m))

  tree_rises : (t : Tree) (p : BusPoint) → made_by p ≤ made_by (plain_meaning w t p)
  tree_rises = tree_keeps w Rises (λ p. omega arith) (λ p t. omega arith) sent_rises (λ t p. omega arith) (λ p q s a b. omega (arith, a, b))

  attempts_rise : (n : ℕ) (line : Line) (m : Message) (p : BusPoint) → made_by p ≤ made_by (attempts w n line m p)
  attempts_rise = attempts_keep w Rises (λ p. omega arith) (λ p t. omega arith) sent_rises (λ t p. omega arith) (λ p q s a b. omega (arith, a, b))

  times_rise : (n : ℕ) (f : BusPoint → BusPoint) → ((p : BusPoint) → made_by p ≤ made_by (f p)) → (p : BusPoint) → made_by p ≤ made_by (times n f p)
  times_rise = times_keep w Rises (λ p. omega arith) (λ p t. omega arith) sent_rises (λ t p. omega arith) (λ p q s a b. omega (arith, a, b))

  sent_agrees : (line : Line) (m : Message) (p : BusPoint) → made_by (sent w line m p) ≤ made → sent v line m p ≡ sent w line m p
  sent_agrees line m p le =
      sent_alike plan actions (placed_up_to made actions) most made (λ n low high. same_at n made actions low high) (λ n above. none_above n made actions above) line m p le

  attempts_agree : (n : ℕ) (line : Line) (m : Message) (p : BusPoint) → made_by (attempts w n line m p) ≤ made → attempts v n line m p ≡ attempts w n line m p
  attempts_agree zero line m p le = refl
  attempts_agree (suc n) line m p le =
      ap (λ x. cond x (attempts v n (other_line line) m (sent v (other_line line) m p)) p) (asks_is plan (placed_up_to made actions) most Failed p ∙ sym (asks_is plan actions most Failed p))
      ∙ by_case (asks w Failed p) le (λ h. attempts_agree n (other_line line) m (sent w (other_line line) m p) h)
    where
      by_case : (b : Bool) → made_by (cond b (attempts w n (other_line line) m (sent w (other_line line) m p)) p) ≤ made
          → (made_by (attempts w n (other_line line) m (sent w (other_line line) m p)) ≤ made → attempts v n (other_line line) m (sent w (other_line line) m p) ≡ attempts w n (other_line line) m (sent w (other_line line) m p))
          → cond b (attempts v n (other_line line) m (sent v (other_line line) m p)) p ≡ cond b (attempts w n (other_line line) m (sent w (other_line line) m p)) p
      by_case true h later =
          let rise : made_by (sent w (other_line line) m p) ≤ made_by (attempts w n (other_line line) m (sent w (other_line line) m p)) = attempts_rise n (other_line line) m (sent w (other_line line) m p) in
          ap (attempts v n (other_line line) m) (sent_agrees (other_line line) m p (omega (arith, rise, h))) ∙ later h
      by_case false h later = refl

  times_agree : (n : ℕ) (f g : BusPoint → BusPoint) → ((p : BusPoint) → made_by p ≤ made_by (f p)) → ((p : BusPoint) → made_by (f p) ≤ made → g p ≡ f p)
      → (p : BusPoint) → made_by (times n f p) ≤ made → times n g p ≡ times n f p
  times_agree zero f g rises agree p le = refl
  times_agree (suc n) f g rises agree p le =
      let rise : made_by (f p) ≤ made_by (times n f (f p)) = times_rise n f rises (f p) in
      ap (times n g) (agree p (omega (arith, rise, le))) ∙ times_agree n f g rises agree (f p) le

  turns_rise : (n : ℕ) (c : Condition) (f : BusPoint → BusPoint) → ((p : BusPoint) → made_by p ≤ made_by (f p)) → (p : BusPoint) → made_by p ≤ made_by (turns_until w n c f p)
  turns_rise = turns_keep w Rises (λ p. omega arith) (λ p t. omega arith) sent_rises (λ t p. omega arith) (λ p q s a b. omega (arith, a, b))

  turns_agree : (n : ℕ) (c : Condition) (f g : BusPoint → BusPoint) → ((p : BusPoint) → made_by p ≤ made_by (f p)) → ((p : BusPoint) → made_by (f p) ≤ made → g p ≡ f p)
      → (p : BusPoint) → made_by (turns_until w n c f p) ≤ made → turns_until v n c g p ≡ turns_until w n c f p
  turns_agree zero c f g rises agree p le = refl
  turns_agree (suc n) c f g rises agree p le =
      ap (λ x. cond x p (turns_until v n c g (g p))) (meaning_is plan (placed_up_to made actions) most c p ∙ sym (meaning_is plan actions most c p))
      ∙ by_case (condition_meaning w c p) le
      (λ h.
      let rise : made_by (f p) ≤ made_by (turns_until w n c f (f p)) = turns_rise n c f rises (f p) in
      ap (turns_until v n c g) (agree p (omega (arith, rise, h))) ∙ turns_agree n c f g rises agree (f p) h)
    where
      by_case : (x : Bool) → made_by (cond x p (turns_until w n c f (f p))) ≤ made → (made_by (turns_until w n c f (f p)) ≤ made → turns_until v n c g (g p) ≡ turns_until w n c f (f p))
          → cond x p (turns_until v n c g (g p)) ≡ cond x p (turns_until w n c f (f p))
      by_case true h later = refl
      by_case false h later = later h

  tree_agrees : (t : Tree) (p : BusPoint) → made_by (plain_meaning w t p) ≤ made → plain_meaning v t p ≡ plain_meaning w t p
  tree_agrees (send line m) p le = sent_agrees line m p le
  tree_agrees (retry n line m) p le =
      let rise : made_by (sent w line m p) ≤ made_by (attempts w n line m (sent w line m p)) = attempts_rise n line m (sent w line m p) in
      ap (attempts v n line m) (sent_agrees line m p (omega (arith, rise, le))) ∙ attempts_agree n line m (sent w line m p) le
  tree_agrees (gap t) p le = refl
  tree_agrees (repeat n b) p le = times_agree n (plain_meaning w b) (plain_meaning v b) (λ q. tree_rises b q) (λ q h. tree_agrees b q h) p le
  tree_agrees (choose c a b) p le =
      ap (λ x. cond x (plain_meaning v a p) (plain_meaning v b p)) (meaning_is plan (placed_up_to made actions) most c p ∙ sym (meaning_is plan actions most c p))
      ∙ by_case (condition_meaning w c p) le (λ h. tree_agrees a p h) (λ h. tree_agrees b p h)
    where
      by_case : (x : Bool) → made_by (cond x (plain_meaning w a p) (plain_meaning w b p)) ≤ made → (made_by (plain_meaning w a p) ≤ made → plain_meaning v a p ≡ plain_meaning w a p)
          → (made_by (plain_meaning w b p) ≤ made → plain_meaning v b p ≡ plain_meaning w b p) → cond x (plain_meaning v a p) (plain_meaning v b p) ≡ cond x (plain_meaning w a p) (plain_meaning w b p)
      by_case true h l r = l h
      by_case false h l r = r h
  tree_agrees (until c n b) p le = turns_agree n c (plain_meaning w b) (plain_meaning v b) (λ q. tree_rises b q) (λ q h. tree_agrees b q h) p le
  tree_agrees (timed h b) p le = ap (paced_to w (now_at w p + 1000 * h)) (tree_agrees b p le)
  tree_agrees nothing p le = refl
  tree_agrees (call n) p le = refl
  tree_agrees (define n b r) p le = tree_agrees r p le
  tree_agrees (chained a b) p le =
      let rise : made_by (plain_meaning w a p) ≤ made_by (plain_meaning w b (plain_meaning w a p)) = tree_rises b (plain_meaning w a p) in
      ap (plain_meaning v b) (tree_agrees a p (omega (arith, rise, le))) ∙ tree_agrees b (plain_meaning w a p) le

length_records : (r : BusRun) → length (records_in r.bus) ≡ length r.bus.talks
length_records r = length-map (reverse r.bus.talks) observed ∙ length-reverse r.bus.talks

pub suffices : (job : ChannelJob) (actions : List Placed) (made : ℕ) → length (records job actions) ≤ made → records job (placed_up_to made actions) ≡ records job actions
suffices job actions made le =
    let most = most_inserted (code_of_tree job.tree) in
    let s = setting_of job.plan actions most in
    let t = setting_of job.plan (placed_up_to made actions) most in
    let start = beginning (bus_of job) in
    let last : BusPoint = plain_meaning (world_of job.plan actions most) (expansion job.tree) start in
    let end : BusRun = drained s last.gap last.state in
    let script = balanced_tree job.plan actions most (expansion job.tree) start in
    let rest = balanced_drained job.plan actions most last.gap last.state in
    let many : length (records job actions) ≡ length (records_in end.bus) = refl in
    let count : length end.made ≤ made = omega (arith, script, rest, length_records end, many, le) in
    let long = long_drained job.plan actions most last.gap last.state in
    ap (λ (p : BusPoint). records_in (drained t p.gap p.state).bus) (tree_agrees job.plan made actions most (expansion job.tree) start (omega (arith, long, count)))
    ∙ ap (λ (r : BusRun). records_in r.bus)
    (drained_alike job.plan actions (placed_up_to made actions) most made (λ n low high. same_at n made actions low high) (λ n above. none_above n made actions above) last.gap last.state count)

-- Actions that are placed at messages to come change none of a job's messages so far.
use Rattle.std.proofs.Common.{◌≡◌, ℕ, zero, suc, ◌+◌, ◌*◌, ◌-◌, ◌<◌, ◌≤◌, ◌⊎◌, inl, inr, Bool, true, false, cond, eqb, ne_eqb, ltb, List, [], ◌∷◌, ◌++◌, length, map, take, drop, refl, sym, ap, ap₂, ◌∙◌, ⊎_elim, subst, arith}
use Rattle.std.specs.Prelude.{Option, Some, None, reverse}
use Rattle.std.specs.Option.{option_map}
use Rattle.std.proofs.lemmas.Bool.{cases_lt}
use Rattle.std.proofs.lemmas.List.{append-nil, length-map, length-reverse, map-append, reverse-append, take-take}
use Rattle.std.proofs.lemmas.List.Elements.{filter-append}
use Rattle.std.proofs.Math.Seq.{take-append_seam}
use Rattle.mil_word.specs.declared.Line.{Line}
use Rattle.mil_message.specs.declared.outcome_test.OutcomeTest.TheVariants.{Failed}
use Rattle.mil_message.specs.declared.messages.Message.{Message}
use Rattle.mil_message.specs.declared.forms.Form.{Form}
use Rattle.mil_message.specs.World.{World, other_line, sent, asks, now_at, paced_to}
use Rattle.mil_line.specs.Plans.{Planned, faults_of}
use Rattle.mil_bus.specs.declared.outcomes.Outcome.{Outcome}
use Rattle.mil_bus.specs.declared.talks.Talk.{Talk}
use Rattle.mil_bus.specs.Exchange.{BusState, exchanged, talk_of, held_until}
use Rattle.mil_monitor.specs.Observed.{observed}
use Rattle.frame_tree.specs.Tree.{Condition, Tree, send, retry, gap, repeat, choose, until, timed, nothing, chained, call, define}
use Rattle.frame_tree.specs.Expansion.{expansion}
use Rattle.frame_tree.specs.Meaning.{condition_meaning, times, attempts, turns_until, plain_meaning}
use Rattle.frame_asm.specs.Shapes.{code_of_tree}
use Rattle.controller_host.specs.Values.{InsertionValue}
use Rattle.controller_host.specs.Sources.{sourced}
use Rattle.bc_machine.specs.declared.placed.Placed.{Placed}
use Rattle.bc_machine.specs.declared.placed.HostAction.{HostAction}
use Rattle.bc_machine.specs.MadeMessages.{MadeMessage, own, inserted}
use Rattle.bc_machine.specs.Agendas.{inserts_among}
use Rattle.bc_machine.specs.Hosting.{placed_up_to, next_insertion, first_of, inserted_in, last_set, source_since, sent_form}
use Rattle.bc_machine.specs.Controller.{Setting, BusRun, setting_of, placed_at, world_of, ready, with_own, own_talk, outcome_in, inserted_next, inserting, inserting_many, drained}
use Rattle.bc_machine.specs.Running.{unplayed, beginning, most_inserted}
use Rattle.bc_machine.proofs.Acts.{ready_same}
use Rattle.job_file.specs.Jobs.{job_in}
use Rattle.job_file.specs.Spelled.{ChannelJob}
use Rattle.job_file.specs.Meaning.{bus_of, drained_at, end_of, records_in, records}
use Rattle.bench_settings.proofs.Ordered.{up_to_same}
use Rattle.bench_core.specs.Bench.{ChannelState, all_records, with_post}
use Rattle.bench_core.proofs.Growing.{BusPoint, asks_alike, tests_alike, Grows, grows_same, grows_through, inserting_grows, many_grow, drained_grows, own_grows, paced_grows, attempts_grow, times_grow, turns_grow, tree_grows}

-- the same actions are placed at the first k messages
abbrev pub AreSameUpTo : ℕ → List Placed → List Placed → Type 0
AreSameUpTo k ps qs = (n : ℕ) → 1 ≤ n → n ≤ k → placed_at n qs ≡ placed_at n ps

module _ (plan : List Planned) (ps qs : List Placed) (most k : ℕ) (same : AreSameUpTo k ps qs) where
  abbrev w : World BusRun Outcome
  w = world_of plan ps most

  abbrev v : World BusRun Outcome
  v = world_of plan qs most

  abbrev s : Setting
  s = setting_of plan ps most

  abbrev t : Setting
  t = setting_of plan qs most

  -- ---- one of the first k messages

  ready_alike : (n : ℕ) (b : BusState) → 1 ≤ n → n ≤ k → ready qs n b ≡ ready ps n b
  ready_alike n b low le = ready_same n qs ps b (same n low le)

  up_to_alike : (n : ℕ) → n ≤ k → placed_up_to n qs ≡ placed_up_to n ps
  up_to_alike n le = up_to_same n qs ps (λ j low high. same j low (omega (arith, high, le)))

  next_alike : (made : List MadeMessage) → length made < k → next_insertion qs most made ≡ next_insertion ps most made
  next_alike made le =
      ap (λ xs. cond (ltb (inserted_in made) most) (first_of (drop (inserted_in made) (inserts_among xs))) None) (up_to_alike (length made + 1) (omega (arith, le)))

  form_alike : (made : List MadeMessage) (form : Form) → length made < k → sent_form qs made form ≡ sent_form ps made form
  form_alike made form le =
      ap (λ xs. sourced (λ d place. option_map (source_since d place made) (last_set d place xs)) form) (up_to_alike (length made + 1) (omega (arith, le)))

  next_with : (pause : ℕ) (o : Option InsertionValue) (r : BusRun) → length r.made < k → inserted_next t pause o r ≡ inserted_next s pause o r
  next_with pause None r le = refl
  next_with pause (Some x) r le =
      let n : ℕ = length r.made + 1 in
      ap (λ (b : BusState). record { bus = held_until r.bus.least_start (exchanged (held_until x.tick b) x.line x.message pause (faults_of n plan)); made = r.made ++ inserted ∷ [] })
      (ready_alike n r.bus (omega arith) (omega (arith, le)))

  inserting_same : (pause : ℕ) (r : BusRun) → length r.made < k → inserting t pause r ≡ inserting s pause r
  inserting_same pause r le = ap (λ o. inserted_next t pause o r) (next_alike r.made le) ∙ next_with pause (next_insertion ps most r.made) r le

  -- a message of the script behind those that wait
  abbrev own_sent : Setting → Line → Message → BusPoint → BusRun → BusPoint
  own_sent x line m p r = record { state = with_own x line m p.gap r; number = p.number + 1; gap = p.gap; last = Some (outcome_in (own_talk x line m p.gap r)) }

  own_same : (line : Line) (m : Message) (p : BusPoint) (r : BusRun) → length r.made < k → own_sent t line m p r ≡ own_sent s line m p r
  own_same line m p r le =
      let n : ℕ = length r.made + 1 in
      ap₂ (λ (b : BusState) (f : Form). record {
        state = record { bus = exchanged b line f p.gap (faults_of n plan); made = r.made ++ own m ∷ [] };
        number = p.number + 1;
        gap = p.gap;
        last = Some (outcome_in (talk_of b line f p.gap (faults_of n plan)));
      }) (ready_alike n r.bus (omega arith) (omega (arith, le))) (form_alike r.made m le)

  -- ---- messages of both

  module _ (first : BusRun) where
    -- two runs come from one that lies behind k messages
    record HaveParted (r u : BusRun) : Type 0 where
      pub from : BusRun
      pub behind : k ≤ length from.made
      pub begun : Grows first from
      pub left : Grows from r
      pub right : Grows from u

    part_at : (from r u : BusRun) → k ≤ length from.made → Grows first from → Grows from r → Grows from u → HaveParted r u
    part_at from r u behind begun left right = record { from = from; behind = behind; begun = begun; left = left; right = right }

    go_on : (r u x y : BusRun) → HaveParted r u → Grows r x → Grows u y → HaveParted x y
    go_on r u x y is left right = part_at is.from x y is.behind is.begun (grows_through is.from r x is.left left) (grows_through is.from u y is.right right)

    -- they are one run, or have parted behind k messages
    abbrev RunsAlike : BusRun → BusRun → Type 0
    RunsAlike r u = ((u ≡ r) × Grows first r) ⊎ HaveParted r u

    inserting_alike : (pause : ℕ) (r : BusRun) → Grows first r → RunsAlike (inserting s pause r) (inserting t pause r)
    inserting_alike pause r begun = ⊎_elim
        (λ less. inl (inserting_same pause r less, grows_through first r (inserting s pause r) begun (inserting_grows plan ps most pause r)))
        (λ le. inr (part_at r (inserting s pause r) (inserting t pause r) le begun (inserting_grows plan ps most pause r) (inserting_grows plan qs most pause r)))
        (cases_lt (length r.made) k)

    many_behind : (n pause : ℕ) (r u : BusRun) → RunsAlike r u → (Grows first r → RunsAlike (inserting_many s n pause r) (inserting_many t n pause r))
        → RunsAlike (inserting_many s n pause r) (inserting_many t n pause u)
    many_behind n pause r u (inl one) more = subst (λ x. RunsAlike (inserting_many s n pause r) (inserting_many t n pause x)) (sym one.0) (more one.1)
    many_behind n pause r u (inr is) more = inr (go_on r u (inserting_many s n pause r) (inserting_many t n pause u) is (many_grow plan ps most n pause r) (many_grow plan qs most n pause u))

    many_alike : (n pause : ℕ) (r : BusRun) → Grows first r → RunsAlike (inserting_many s n pause r) (inserting_many t n pause r)
    many_alike zero pause r begun = inl (refl, begun)
    many_alike (suc n) pause r begun = many_behind n pause (inserting s pause r) (inserting t pause r) (inserting_alike pause r begun) (many_alike n pause (inserting s pause r))

    drained_alike : (pause : ℕ) (r : BusRun) → Grows first r → RunsAlike (drained s pause r) (drained t pause r)
    unfolding drained
    drained_alike pause r begun = many_alike (most - inserted_in r.made) pause r begun

    -- two points are one, or have parted behind k messages
    abbrev Alike : BusPoint → BusPoint → Type 0
    Alike p q = ((q ≡ p) × Grows first p.state) ⊎ HaveParted p.state q.state

    -- the same steps from points that are alike lead to such points, where they do from one point
    then_alike : (p q : BusPoint) (f g : BusPoint → BusPoint) → Alike p q → ((x : BusPoint) → Grows x.state (f x).state) → ((x : BusPoint) → Grows x.state (g x).state)
        → (Grows first p.state → Alike (f p) (g p)) → Alike (f p) (g q)
    then_alike p q f g (inl one) up up' more = subst (λ x. Alike (f p) (g x)) (sym one.0) (more one.1)
    then_alike p q f g (inr is) up up' more = inr (go_on p.state q.state (f p).state (g q).state is (up p) (up' q))

    own_alike : (line : Line) (m : Message) (p : BusPoint) (r : BusRun) → Grows first r → Alike (own_sent s line m p r) (own_sent t line m p r)
    own_alike line m p r begun =
        let left = own_grows plan ps most line m p.gap r in
        let right = own_grows plan qs most line m p.gap r in
        ⊎_elim
        (λ less. inl (own_same line m p r less, grows_through first r (with_own s line m p.gap r) begun left))
        (λ le. inr (part_at r (with_own s line m p.gap r) (with_own t line m p.gap r) le begun left right))
        (cases_lt (length r.made) k)

    sent_behind : (line : Line) (m : Message) (p : BusPoint) (r u : BusRun) → RunsAlike r u → Alike (own_sent s line m p r) (own_sent t line m p u)
    sent_behind line m p r u (inl one) = subst (λ x. Alike (own_sent s line m p r) (own_sent t line m p x)) (sym one.0) (own_alike line m p r one.1)
    sent_behind line m p r u (inr is) =
        inr (go_on r u (with_own s line m p.gap r) (with_own t line m p.gap u) is (own_grows plan ps most line m p.gap r) (own_grows plan qs most line m p.gap u))

    sent_alike : (line : Line) (m : Message) (p : BusPoint) → Grows first p.state → Alike (sent w line m p) (sent v line m p)
    sent_alike line m p begun = sent_behind line m p (drained s p.gap p.state) (drained t p.gap p.state) (drained_alike p.gap p.state begun)

    -- ---- frames

    attempts_alike : (n : ℕ) (line : Line) (m : Message) (p : BusPoint) → Grows first p.state → Alike (attempts w n line m p) (attempts v n line m p)
    attempts_alike zero line m p begun = inl (refl, begun)
    attempts_alike (suc n) line m p begun =
        let next : BusPoint = sent w (other_line line) m p in
        let next' : BusPoint = sent v (other_line line) m p in
        rw (asks_alike plan ps qs most Failed p)
        (by_case (asks w Failed p)
        (then_alike next next' (attempts w n (other_line line) m) (attempts v n (other_line line) m) (sent_alike (other_line line) m p begun)
        (attempts_grow plan ps most n (other_line line) m) (attempts_grow plan qs most n (other_line line) m) (attempts_alike n (other_line line) m next)))
      where
        by_case : {x y : BusPoint} (b : Bool) → Alike x y → Alike (cond b x p) (cond b y p)
        by_case true is = is
        by_case false is = inl (refl, begun)

    times_alike : (n : ℕ) (f g : BusPoint → BusPoint) → ((x : BusPoint) → Grows x.state (f x).state) → ((x : BusPoint) → Grows x.state (g x).state)
        → ((x : BusPoint) → Grows first x.state → Alike (f x) (g x)) → (p : BusPoint) → Grows first p.state → Alike (times n f p) (times n g p)
    times_alike zero f g up up' more p begun = inl (refl, begun)
    times_alike (suc n) f g up up' more p begun =
        then_alike (f p) (g p) (times n f) (times n g) (more p begun) (times_grow plan ps most n f up) (times_grow plan qs most n g up') (times_alike n f g up up' more (f p))

    turns_alike : (n : ℕ) (c : Condition) (f g : BusPoint → BusPoint) → ((x : BusPoint) → Grows x.state (f x).state) → ((x : BusPoint) → Grows x.state (g x).state)
        → ((x : BusPoint) → Grows first x.state → Alike (f x) (g x)) → (p : BusPoint) → Grows first p.state → Alike (turns_until w n c f p) (turns_until v n c g p)
    turns_alike zero c f g up up' more p begun = inl (refl, begun)
    turns_alike (suc n) c f g up up' more p begun =
        rw (tests_alike plan ps qs most c p)
        (by_case (condition_meaning w c p)
        (then_alike (f p) (g p) (turns_until w n c f) (turns_until v n c g) (more p begun) (turns_grow plan ps most n c f up) (turns_grow plan qs most n c g up')
        (turns_alike n c f g up up' more (f p))))
      where
        by_case : {x y : BusPoint} (b : Bool) → Alike x y → Alike (cond b p x) (cond b p y)
        by_case true is = inl (refl, begun)
        by_case false is = is

    choice_alike : {x x' y y' : BusPoint} (b : Bool) → Alike x x' → Alike y y' → Alike (cond b x y) (cond b x' y')
    choice_alike true is other = is
    choice_alike false is other = other

    tree_alike : (f : Tree) (p : BusPoint) → Grows first p.state → Alike (plain_meaning w f p) (plain_meaning v f p)
    tree_alike (send line m) p begun = sent_alike line m p begun
    tree_alike (retry n line m) p begun =
        then_alike (sent w line m p) (sent v line m p) (attempts w n line m) (attempts v n line m) (sent_alike line m p begun)
        (attempts_grow plan ps most n line m) (attempts_grow plan qs most n line m) (attempts_alike n line m (sent w line m p))
    tree_alike (gap g) p begun = inl (refl, begun)
    tree_alike (repeat n b) p begun = times_alike n (plain_meaning w b) (plain_meaning v b) (tree_grows plan ps most b) (tree_grows plan qs most b) (λ q up. tree_alike b q up) p begun
    tree_alike (choose c a b) p begun = rw (tests_alike plan ps qs most c p) (choice_alike (condition_meaning w c p) (tree_alike a p begun) (tree_alike b p begun))
    tree_alike (until c n b) p begun = turns_alike n c (plain_meaning w b) (plain_meaning v b) (tree_grows plan ps most b) (tree_grows plan qs most b) (λ q up. tree_alike b q up) p begun
    tree_alike (timed h b) p begun =
        let tick : ℕ = now_at w p + 1000 * h in
        then_alike (plain_meaning w b p) (plain_meaning v b p) (paced_to w tick) (paced_to v tick) (tree_alike b p begun) (paced_grows plan ps most tick) (paced_grows plan qs most tick)
        (λ up. inl (refl, grows_through first (plain_meaning w b p).state (paced_to w tick (plain_meaning w b p)).state up (paced_grows plan ps most tick (plain_meaning w b p))))
    tree_alike nothing p begun = inl (refl, begun)
    tree_alike (chained a b) p begun =
        then_alike (plain_meaning w a p) (plain_meaning v a p) (plain_meaning w b) (plain_meaning v b) (tree_alike a p begun) (tree_grows plan ps most b) (tree_grows plan qs most b)
        (λ up. tree_alike b (plain_meaning w a p) up)
    tree_alike (call n) p begun = inl (refl, begun)
    tree_alike (define n b r) p begun = tree_alike r p begun

    -- and then what still waits
    drained_points : (p : BusPoint) (r u : BusRun) → RunsAlike r u → Alike (record p { state = r }) (record p { state = u })
    drained_points p r u (inl one) = inl (ap (λ (x : BusRun). record p { state = x }) one.0, one.1)
    drained_points p r u (inr is) = inr is

    end_alike : (f : Tree) (p : BusPoint) → Grows first p.state → Alike (drained_at s (plain_meaning w f p)) (drained_at t (plain_meaning v f p))
    end_alike f p begun =
        then_alike (plain_meaning w f p) (plain_meaning v f p) (drained_at s) (drained_at t) (tree_alike f p begun)
        (λ x. drained_grows plan ps most x.gap x.state) (λ x. drained_grows plan qs most x.gap x.state)
        (λ up. let q : BusPoint = plain_meaning w f p in drained_points q (drained s q.gap q.state) (drained t q.gap q.state) (drained_alike q.gap q.state up))

-- ---- records

-- as many records as messages, from a bus without talks on
counted : (first r : BusRun) → first.bus.talks ≡ [] → first.made ≡ [] → Grows first r → length (records_in r.bus) ≡ length r.made
counted first r none unmade a =
    let talks : r.bus.talks ≡ a.0 = a.1 ∙ ap (λ (ts : List Talk). a.0 ++ ts) none ∙ append-nil a.0 in
    let zero_yet : length first.made ≡ 0 = ap length unmade in
    let many : length a.0 ≡ length r.made = omega (arith, a.2, zero_yet) in
    length-map (reverse r.bus.talks) observed ∙ length-reverse r.bus.talks ∙ ap length talks ∙ many

records_more : (more talks : List Talk) → map observed (reverse (more ++ talks)) ≡ map observed (reverse talks) ++ map observed (reverse more)
records_more more talks = ap (map observed) (reverse-append more talks) ∙ map-append observed (reverse talks) (reverse more)

-- the records of a later run have those of an earlier one in front
first_records : (k : ℕ) (first from r : BusRun) → first.bus.talks ≡ [] → first.made ≡ [] → k ≤ length from.made → Grows first from → Grows from r
    → take k (records_in r.bus) ≡ take k (records_in from.bus)
first_records k first from r none unmade behind begun up =
    let n : ℕ = length (records_in from.bus) in
    let long = counted first from none unmade begun in
    let whole : take n (records_in r.bus) ≡ records_in from.bus =
    ap (λ (ts : List Talk). take n (map observed (reverse ts))) up.1 ∙ ap (take n) (records_more up.0 from.bus.talks)
    ∙ take-append_seam (records_in from.bus) (map observed (reverse up.0)) in
    sym (take-take k n (records_in r.bus) (omega (arith, long, behind))) ∙ ap (take k) whole

pub records_same : (job : ChannelJob) (ps qs : List Placed) (k : ℕ) → AreSameUpTo k ps qs → take k (records job qs) ≡ take k (records job ps)
records_same job ps qs k same =
    let first : BusRun = unplayed (bus_of job) in
    ⊎_elim
    (λ one. ap (λ (p : BusPoint). take k (records_in p.state.bus)) one.0)
    (λ is. first_records k first is.from (end_of job qs).state refl refl is.behind is.begun is.right
    ∙ sym (first_records k first is.from (end_of job ps).state refl refl is.behind is.begun is.left))
    (end_alike job.plan ps qs (most_inserted (code_of_tree job.tree)) k same first (expansion job.tree) (beginning (bus_of job)) (grows_same first))

-- one action more, at a message to come
added_alike : (k : ℕ) (ps : List Placed) (one : Placed) → k < one.number → AreSameUpTo k ps (ps ++ one ∷ [])
added_alike k ps one later n low high =
    filter-append (λ (p : Placed). eqb p.number n) ps (one ∷ [])
    ∙ ap (λ (b : Bool). placed_at n ps ++ cond b (one ∷ []) []) (ne_eqb one.number n (λ same. omega (arith, same, later, high)))
    ∙ append-nil (placed_at n ps)

-- a post changes none of a channel's messages so far
pub records_posted : (l : ChannelState) (action : HostAction) → take l.made (all_records (with_post l action)) ≡ take l.made (all_records l)
records_posted l action =
    let one : Placed = record { number = l.made + 1; action = action } in
    records_same (job_in l.job) l.placed (l.placed ++ one ∷ []) l.made (added_alike l.made l.placed one (omega arith))

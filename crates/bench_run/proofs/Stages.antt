-- The stages of a channel's thread.
use Rattle.std.proofs.Common.{◌≡◌, ℕ, zero, suc, ◌+◌, ◌-◌, ◌≤◌, List, [], ◌∷◌, ◌++◌, length, map, take, refl, sym, ap, ◌∙◌, subst, arith}
use Rattle.std.specs.Prelude.{◌==◌, Some, slice_get}
use Rattle.std.specs.List.{AllByRecursion}
use Rattle.std.proofs.lemmas.List.{map-append, length-append, length-map, take_all}
use Rattle.ch11_f1.specs.declared.Record.{Record}
use Rattle.mil_trunk.specs.declared.trunk.Trunk.{Trunk}
use Rattle.mil_trunk.specs.declared.trunk.Ticket.{Ticket}
use Rattle.mil_trunk.specs.Tags.{bounds_outside}
use Rattle.mil_trunk.specs.Ends.{IsTicketOf, capacity_of, tags_of, bounds_of, sent}
use Rattle.mil_trunk.specs.Views.{with_tag}
use Rattle.mil_trunk.proofs.Tagging.{length-filter_le}
use Rattle.job_file.specs.Jobs.{JobState}
use Rattle.ch11_builder.specs.Recorded.{IsRecorded}
use Rattle.ch11_recording.specs.Items.{numbered}
use Rattle.bench_report.specs.Reports.{ChannelPart, Rises}
use Rattle.bench_settings.specs.Placing.{placed_up_to}
use Rattle.bench_settings.specs.Kept.{kept_records}
use Rattle.bench_settings.proofs.Lists.{NoneAbove, kept_more, kept_same}
use Rattle.bench_run.specs.declared.entry.Entry.{Entry}
use Rattle.bench_run.specs.declared.entry.Entry.TheVariants as entry
use Rattle.bench_run.specs.Entries.{index_of, entry_of}
use Rattle.bench_run.specs.Runs.{records_of, kept_below}
use Rattle.bench_run.specs.Threads.{RecordsOfferedSoFar, AllOffered}
use Rattle.bench_run.proofs.Offering.{take_more, all_more, none_above, rises_on, rises_more, rises_length, length-kept, full_more}

module _ (trunk : Trunk Entry) (own : ℕ) (limits : List ℕ) (index : ℕ) (job : JobState) where
  -- nothing was offered yet
  pub first_stage : (made : ℕ) (t : Ticket Entry) (refused : List ℕ) → made ≡ 0 → refused ≡ [] → IsTicketOf trunk t → tags_of t ≡ own → bounds_of t ≡ limits → sent t ≡ []
      → RecordsOfferedSoFar trunk own limits index job made t refused
  first_stage made t refused none unrefused ours tags bounds empty = subst (λ (z : ℕ × List ℕ). RecordsOfferedSoFar trunk own limits index job z.0 t z.1) (λ i. (sym none i, sym unrefused i)) (record {
    ours = ours;
    tags = tags;
    bounds = bounds;
    all_sent = empty;
    count = refl;
    rising = tt;
    full = tt;
    recorded = tt;
  })

  -- no more was sent than made
  pub few_sent : (made : ℕ) (t : Ticket Entry) (refused : List ℕ) → RecordsOfferedSoFar trunk own limits index job made t refused → length (sent t) ≤ made
  few_sent made t refused st = omega (arith, ap length st.all_sent, length-kept index refused (take made (records_of job)), st.count)

  pub few_of_tag : (made : ℕ) (t : Ticket Entry) (refused : List ℕ) → RecordsOfferedSoFar trunk own limits index job made t refused → length (with_tag index_of index (sent t)) ≤ made
  few_of_tag made t refused st = let fewer = length-filter_le (λ (e : Entry). index_of e == index) (sent t) in omega (arith, fewer, few_sent made t refused st)

  pub few_refused : (made : ℕ) (t : Ticket Entry) (refused : List ℕ) → RecordsOfferedSoFar trunk own limits index job made t refused → length refused ≤ made
  few_refused made t refused st = let h = rises_length 0 made refused (omega arith) st.rising in omega (arith, h)

  -- one record more, which the queue kept
  pub kept_stage : (made : ℕ) (t s : Ticket Entry) (refused : List ℕ) (r : Record) → RecordsOfferedSoFar trunk own limits index job made t refused
      → slice_get (records_of job) made ≡ Some r → IsRecorded (numbered 0 r)
      → IsTicketOf trunk s → tags_of s ≡ tags_of t → bounds_of s ≡ bounds_of t → sent s ≡ sent t ++ entry.Message index (made + 1) r ∷ []
      → RecordsOfferedSoFar trunk own limits index job (made + 1) s refused
  kept_stage made t s refused r st at fits ours tags bounds more =
      let rs : List Record = records_of job in
      let longer : take (made + 1) rs ≡ take made rs ++ r ∷ [] = take_more made rs r at in
      record {
        ours = ours;
        tags = tags ∙ st.tags;
        bounds = bounds ∙ st.bounds;
        all_sent = more ∙ ap (λ (l : List Entry). l ++ entry.Message index (made + 1) r ∷ []) st.all_sent
            ∙ sym (map-append (entry_of index) (kept_records refused (take made rs)) (numbered (made + 1) r ∷ []))
            ∙ ap (map (entry_of index)) (sym (kept_more refused made rs r (none_above 0 made refused st.rising) at));
        count = omega (arith, ap length longer, length-append (take made rs) (r ∷ []), st.count);
        rising = rises_on 0 made refused st.rising;
        full = st.full;
        recorded = rw longer (all_more (λ (m : Record). IsRecorded (numbered 0 m)) (take made rs) r st.recorded fits);
      }

  -- one record more, which came back
  pub refused_stage : (made : ℕ) (t s : Ticket Entry) (refused : List ℕ) (r : Record) → RecordsOfferedSoFar trunk own limits index job made t refused
      → slice_get (records_of job) made ≡ Some r → IsRecorded (numbered 0 r)
      → IsTicketOf trunk s → tags_of s ≡ tags_of t → bounds_of s ≡ bounds_of t → sent s ≡ sent t
      → capacity_of trunk ≤ length (sent t) + bounds_outside own limits
      → RecordsOfferedSoFar trunk own limits index job (made + 1) s (refused ++ (made + 1) ∷ [])
  refused_stage made t s refused r st at fits ours tags bounds same room =
      let rs : List Record = records_of job in
      let longer : take (made + 1) rs ≡ take made rs ++ r ∷ [] = take_more made rs r at in
      let low = none_above 0 made refused st.rising in
      let long : length (sent t) ≡ length (kept_records refused (take made rs)) = ap length st.all_sent ∙ length-map (kept_records refused (take made rs)) (entry_of index) in
      record {
        ours = ours;
        tags = tags ∙ st.tags;
        bounds = bounds ∙ st.bounds;
        all_sent = same ∙ st.all_sent ∙ ap (map (entry_of index)) (sym (kept_same refused made rs r low at));
        count = omega (arith, ap length longer, length-append (take made rs) (r ∷ []), st.count);
        rising = rises_more 0 made refused (omega arith) st.rising;
        full = full_more (capacity_of trunk) (bounds_outside own limits) refused rs made low st.full (omega (arith, room, long));
        recorded = rw longer (all_more (λ (m : Record). IsRecorded (numbered 0 m)) (take made rs) r st.recorded fits);
      }

-- all records were offered, and then the end mark was kept
pub last_stage : (trunk : Trunk Entry) (given : Ticket Entry) (index : ℕ) (job : JobState) (made : ℕ) (t s : Ticket Entry) (refused : List ℕ) (part : ChannelPart)
    → RecordsOfferedSoFar trunk (tags_of given) (bounds_of given) index job made t refused → made ≡ length (records_of job)
    → IsTicketOf trunk s → tags_of s ≡ tags_of t → bounds_of s ≡ bounds_of t → sent s ≡ sent t ++ entry.End index ∷ []
    → part.channel ≡ job.channel → part.made ≡ made → part.refused ≡ refused → part.placed ≡ placed_up_to made job.actions
    → job.channel ≤ 65535 → made ≤ 1000000
    → AllOffered trunk given index job s part
last_stage trunk given index job made t s refused part st whole ours tags bounds more channel_is made_is refused_is placed_is channel_high made_high =
    let rs : List Record = records_of job in
    let all : take made rs ≡ rs = take_all made rs (omega (arith, whole)) in
    record {
      ours = ours;
      tags = tags ∙ st.tags;
      bounds = bounds ∙ st.bounds;
      all_sent = more ∙ ap (λ (l : List Entry). l ++ entry.End index ∷ [])
          (st.all_sent ∙ ap (λ (l : List Record). map (entry_of index) (kept_records refused l)) all ∙ ap (λ (ns : List ℕ). map (entry_of index) (kept_records ns rs)) (sym refused_is));
      counted = record {
        channel = channel_is;
        channel_high = channel_high;
        made = made_is ∙ whole;
        made_high = omega (arith, made_is, made_high);
        placed = placed_is ∙ ap (λ n. placed_up_to n job.actions) (sym made_is);
        rising = subst (λ (z : ℕ × List ℕ). Rises 0 z.0 z.1) (λ i. (sym made_is i, sym refused_is i)) st.rising;
        full = subst (λ (ns : List ℕ). AllByRecursion (λ n. capacity_of trunk ≤ kept_below n ns job + bounds_outside (tags_of given) (bounds_of given)) ns) (sym refused_is) st.full;
        recorded = subst (λ (l : List Record). AllByRecursion (λ m. IsRecorded (numbered 0 m)) l) all st.recorded;
      };
    }

-- the same by the tags and bounds that the ticket has by now
module _ (trunk : Trunk Entry) (own : ℕ) (limits : List ℕ) (index : ℕ) (job : JobState) where
  pub by_ticket : (made number : ℕ) (t : Ticket Entry) (refused : List ℕ) → number ≡ made + 1 → RecordsOfferedSoFar trunk own limits index job made t refused
      → RecordsOfferedSoFar trunk (tags_of t) (bounds_of t) index job (number - 1) t refused
  by_ticket made number t refused is st =
      let before : made ≡ number - 1 = omega (arith, is) in
      subst (λ (z : ℕ × List ℕ × ℕ). RecordsOfferedSoFar trunk z.0 z.1 index job z.2 t refused) (λ i. (sym st.tags i, sym st.bounds i, before i)) st

  pub by_given : (made : ℕ) (t s : Ticket Entry) (refused : List ℕ) → tags_of t ≡ own → bounds_of t ≡ limits → RecordsOfferedSoFar trunk (tags_of t) (bounds_of t) index job made s refused
      → RecordsOfferedSoFar trunk own limits index job made s refused
  by_given made t s refused tags bounds st = subst (λ (z : ℕ × List ℕ). RecordsOfferedSoFar trunk z.0 z.1 index job made s refused) (λ i. (tags i, bounds i)) st

-- ---- two jobs whose records are the same so far

take_take : {X : Type 0} (k n : ℕ) (xs : List X) → k ≤ n → take k (take n xs) ≡ take k xs
take_take zero n xs low = refl
take_take (suc k) zero xs low = absurd (omega (arith, low))
take_take (suc k) (suc n) [] low = refl
take_take (suc k) (suc n) (x ∷ xs) low = ap (λ l. x ∷ l) (take_take k n xs (omega (arith, low)))

full_alike : (capacity others made : ℕ) (a b : JobState) (refused ns : List ℕ) → take made (records_of a) ≡ take made (records_of b) → NoneAbove made ns
    → AllByRecursion (λ n. capacity ≤ kept_below n refused a + others) ns → AllByRecursion (λ n. capacity ≤ kept_below n refused b + others) ns
full_alike capacity others made a b refused [] same low all = tt
full_alike capacity others made a b refused (n ∷ ns) same low all =
    let fewer : n - 1 ≤ made = omega (arith, low.0) in
    let is : take (n - 1) (records_of a) ≡ take (n - 1) (records_of b) =
    sym (take_take (n - 1) made (records_of a) fewer) ∙ ap (take (n - 1)) same ∙ take_take (n - 1) made (records_of b) fewer in
    (subst (λ (rs : List Record). capacity ≤ length (kept_records refused rs) + others) is all.0, full_alike capacity others made a b refused ns same low.1 all.1)

pub so_far_alike : (trunk : Trunk Entry) (own : ℕ) (limits : List ℕ) (index : ℕ) (a b : JobState) (made : ℕ) (t : Ticket Entry) (refused : List ℕ)
    → take made (records_of a) ≡ take made (records_of b) → RecordsOfferedSoFar trunk own limits index a made t refused → RecordsOfferedSoFar trunk own limits index b made t refused
so_far_alike trunk own limits index a b made t refused same st = record {
  ours = st.ours;
  tags = st.tags;
  bounds = st.bounds;
  all_sent = st.all_sent ∙ ap (λ (rs : List Record). map (entry_of index) (kept_records refused rs)) same;
  count = ap (λ (rs : List Record). length rs) (sym same) ∙ st.count;
  rising = st.rising;
  full = full_alike (capacity_of trunk) (bounds_outside own limits) made a b refused refused same (none_above 0 made refused st.rising) st.full;
  recorded = subst (λ (rs : List Record). AllByRecursion (λ m. IsRecorded (numbered 0 m)) rs) same st.recorded;
}

-- What stands in front of the queue may come into its channel's packets.
use Rattle.std.proofs.Common.{◌≡◌, ◌≢◌, ℕ, zero, suc, ◌<◌, Bool, true, false, cond, eq-eqb, List, [], ◌∷◌, ◌++◌, take, map, slice_get, slice_set, Some, refl, sym, ap, ◌∙◌, arith, subst}
use Rattle.std.specs.List.{AllByRecursion, filter}
use Rattle.std.proofs.lemmas.Bool.{eqb-true, false_from_ne_true}
use Rattle.ch11_f1.specs.declared.Record.{Record}
use Rattle.ch11_builder.specs.Packet.{Numbered, Channel}
use Rattle.ch11_builder.specs.Packet as packet
use Rattle.ch11_builder.specs.Held.{Held, fresh}
use Rattle.ch11_recording.specs.declared.item.Item.{Item}
use Rattle.ch11_recording.specs.declared.item.Item.TheVariants as item
use Rattle.ch11_recording.specs.Items.{channel_of, records_in, numbered, numbered_from}
use Rattle.ch11_recording.specs.Recording.{AreDistinct}
use Rattle.ch11_recording.specs.Laws.{IsItem, LatestIsLast}
use Rattle.ch11_recording.specs.WrittenFile.{Format, channel_in, concerns, met, held_in}
use Rattle.ch11_recording.proofs.Growth.{after_more}
use Rattle.ch11_recording.proofs.Kept.{not_mine, mine, items_channel}
use Rattle.bench_core.specs.Bench.{ChannelState, Bench, all_records}
use Rattle.bench_core.specs.Settled.{kept_of, IsSettled}
use Rattle.bench_settings.specs.Kept.{is_kept}
use Rattle.bench_core.specs.Writing.{MayCome}
use Rattle.bench_settings.proofs.Lists.{records_both}
use Rattle.bench_core.proofs.Steps.{numbers_in, stands_apart}

-- ---- numbers rise

abbrev Ascends : ℕ → List Numbered → Type 0
Ascends before [] = Unit {0}
Ascends before (n ∷ ns) = (before < n.number) × Ascends n.number ns

choose : (before : ℕ) (n : Numbered) (rest : List Numbered) (b : Bool) → before < n.number → Ascends n.number rest → Ascends before rest → Ascends before (cond b (n ∷ rest) rest)
choose before n rest true less behind without = (less, behind)
choose before n rest false less behind without = without

kept_ascend : (refused : List ℕ) (before number : ℕ) (rs : List Record) → before < number → Ascends before (filter (is_kept refused) (numbered_from number rs))
kept_ascend refused before number [] less = tt
kept_ascend refused before number (r ∷ rs) less =
    choose before (numbered number r) (filter (is_kept refused) (numbered_from (suc number) rs)) (is_kept refused (numbered number r)) less
    (kept_ascend refused number (suc number) rs (omega arith)) (kept_ascend refused before (suc number) rs (omega (arith, less)))

above_last : (before : ℕ) (xs : List Numbered) (n : Numbered) (ys : List Numbered) → Ascends before (xs ++ n ∷ ys) → packet.last_number before xs < n.number
above_last before [] n ys all = all.0
above_last before (x ∷ xs) n ys all = above_last x.number xs n ys all.1

-- ---- the front of the queue

own_front : (channel k : ℕ) (r : Record) (c : ℕ) (taken behind : List Item) → c ≡ channel
    → records_in channel (taken ++ item.Message c k r ∷ behind) ≡ records_in channel taken ++ numbered k r ∷ records_in channel behind
own_front channel k r c taken behind same =
    records_both channel taken (item.Message c k r ∷ behind)
    ∙ ap (λ (b : Bool). records_in channel taken ++ (cond b (numbered k r ∷ []) [] ++ records_in channel behind)) (eq-eqb c channel same)

pub may_come : LatestIsLast → (f : Format) (b : Bench) (l : ChannelState) (x : Item) (behind : List Item) → b.queue ≡ x ∷ behind → channel_of x ≡ l.channel → IsSettled b l → IsItem x
    → MayCome (held_in f l.channel b.taken) x
may_come latest f b l (item.Message c k r) behind at of settled good =
    let whole : records_in l.channel b.taken ++ numbered k r ∷ records_in l.channel behind ≡ kept_of l =
    sym (own_front l.channel k r c b.taken behind of) ∙ ap (λ (q : List Item). records_in l.channel (b.taken ++ q)) (sym at) ∙ settled in
    let rising : Ascends 0 (kept_of l) = kept_ascend l.refused 0 1 (take l.made (all_records l)) (omega arith) in
    let low : packet.last_number 0 (records_in l.channel b.taken) < k = above_last 0 (records_in l.channel b.taken) (numbered k r) (records_in l.channel behind) (subst (Ascends 0) (sym whole) rising) in
    (subst (λ (n : ℕ). n < k) (sym (latest f l.channel b.taken)) low, good.1.0.stamp)
may_come latest f b l (item.End c) behind at of settled good = tt

-- ---- what each channel holds with one item more

own : (f : Format) (channel : ℕ) (items : List Item) → (held_in f channel items).channel.channel ≡ channel
own f channel items = ap (λ (c : Channel). c.channel) (items_channel (fresh (channel_in f channel)) items)

held_more : (f : Format) (items : List Item) (x : Item) (channel : ℕ) → channel_of x ≡ channel → held_in f channel (items ++ x ∷ []) ≡ met (held_in f channel items) x
held_more f items x channel of =
    after_more (fresh (channel_in f channel)) items x
    ∙ mine (held_in f channel items) x (eq-eqb (channel_of x) (held_in f channel items).channel.channel (of ∙ sym (own f channel items)))

held_same : (f : Format) (items : List Item) (x : Item) (channel d : ℕ) → channel_of x ≡ channel → d ≢ channel → held_in f d (items ++ x ∷ []) ≡ held_in f d items
held_same f items x channel d of other =
    after_more (fresh (channel_in f d)) items x
    ∙ not_mine (held_in f d items) x (false_from_ne_true (concerns (held_in f d items) x)
    (λ e. other (sym (own f d items) ∙ sym (eqb-true (channel_of x) (held_in f d items).channel.channel e) ∙ of)))

abbrev pub holds : Format → List Item → List ChannelState → List Held
holds f items channels = map (λ (l : ChannelState). held_in f l.channel items) channels

held_others : (f : Format) (items : List Item) (x : Item) (channel : ℕ) (channels : List ChannelState) → channel_of x ≡ channel → AllByRecursion (λ other. other ≢ channel) (numbers_in channels)
    → holds f items channels ≡ holds f (items ++ x ∷ []) channels
held_others f items x channel [] of others = refl
held_others f items x channel (k ∷ channels) of others =
    ap (λ (h : Held). h ∷ holds f items channels) (sym (held_same f items x channel k.channel of others.0))
    ∙ ap (λ (hs : List Held). held_in f k.channel (items ++ x ∷ []) ∷ hs) (held_others f items x channel channels of others.1)

pub held_set : (f : Format) (items : List Item) (x : Item) (channels : List ChannelState) (i : ℕ) (l : ChannelState) → AreDistinct (numbers_in channels) → slice_get channels i ≡ Some l → channel_of x ≡ l.channel
    → slice_set (holds f items channels) i (met (held_in f l.channel items) x) ≡ holds f (items ++ x ∷ []) channels
held_set f items x [] i l distinct at of = absurd cc
held_set f items x (k ∷ channels) zero l distinct at of =
    let same : l ≡ k = cc in
    let here : channel_of x ≡ k.channel = of ∙ ap (λ (y : ChannelState). y.channel) same in
    ap (λ (y : ChannelState). met (held_in f y.channel items) x ∷ holds f items channels) same
    ∙ ap (λ (h : Held). h ∷ holds f items channels) (sym (held_more f items x k.channel here))
    ∙ ap (λ (hs : List Held). held_in f k.channel (items ++ x ∷ []) ∷ hs) (held_others f items x k.channel channels here distinct.0)
held_set f items x (k ∷ channels) (suc i) l distinct at of =
    let apart : l.channel ≢ k.channel = stands_apart k.channel i l channels distinct.0 at in
    ap (λ (h : Held). h ∷ slice_set (holds f items channels) i (met (held_in f l.channel items) x)) (sym (held_same f items x l.channel k.channel of (λ e. apart (sym e))))
    ∙ ap (λ (hs : List Held). held_in f k.channel (items ++ x ∷ []) ∷ hs) (held_set f items x channels i l distinct.1 at of)

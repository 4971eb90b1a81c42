-- What holds of a bench stays with each step.
use Rattle.std.proofs.Common.{◌≡◌, ◌≢◌, ℕ, zero, suc, ◌+◌, ◌<◌, ◌^◌, Bool, true, false, not, ◌||◌, cond, List, [], ◌∷◌, ◌++◌, map, take, slice_get, slice_set, Option, Some, None, refl, sym, ap, ◌∙◌, append_assoc, arith, subst}
use Rattle.std.specs.List.{AllByRecursion}
use Rattle.std.proofs.lemmas.List.{append-nil}
use Rattle.bc_machine.specs.declared.placed.HostAction.{HostAction}
use Rattle.ch11_f1.specs.declared.Record.{Record}
use Rattle.ch11_builder.specs.Packet.{Numbered}
use Rattle.ch11_builder.specs.Recorded.{IsRecorded}
use Rattle.ch11_recording.specs.declared.item.Item.{Item}
use Rattle.ch11_recording.specs.declared.item.Item.TheVariants as item
use Rattle.ch11_recording.specs.Items.{channel_of, records_in, numbered}
use Rattle.ch11_recording.specs.Recording.{AreDistinct}
use Rattle.ch11_recording.specs.Laws.{IsItem}
use Rattle.bench_core.specs.declared.step.Step.{Step}
use Rattle.bench_core.specs.declared.step.Step.TheVariants.{Offer, Take, Post}
use Rattle.bench_core.specs.Bench.{ChannelState, Bench, begun, all_records, has_room, with_message, with_end, message_of, next_offered, next_in, channel_offers, taken_from, with_post, channel_posts, stepped, after_steps}
use Rattle.bench_core.specs.Settled.{kept_of, IsFresh, HasRecorded}
use Rattle.bench_settings.specs.Kept.{kept_records}
use Rattle.bench_core.proofs.Foreseen.{records_posted}
use Rattle.bench_settings.proofs.Lists.{own_more, other_more, NoneAbove, none_above_more, none_above_next, kept_more, kept_same}

-- a channel, where these are its items so far
pub record IsChannel (items : List Item) (l : ChannelState) : Type 0 where
  pub channel : l.channel < 2 ^ 16
  pub low : NoneAbove l.made l.refused
  pub settled : records_in l.channel items ≡ kept_of l

abbrev pub numbers_in : List ChannelState → List ℕ
numbers_in channels = map (λ (l : ChannelState). l.channel) channels

pub record IsBench (b : Bench) : Type 0 where
  pub distinct : AreDistinct (numbers_in b.channels)
  pub channels : AllByRecursion (IsChannel (b.taken ++ b.queue)) b.channels
  pub items : AllByRecursion HasRecorded b.channels → AllByRecursion IsItem (b.taken ++ b.queue)

-- ---- one channel changes

pub others_of : (c d : ℕ) (channels : List ℕ) → c ≡ d → AllByRecursion (λ other. other ≢ c) channels → AllByRecursion (λ other. other ≢ d) channels
others_of c d channels same all = subst (λ (k : ℕ). AllByRecursion (λ other. other ≢ k) channels) same all

all_others : (P Q : ChannelState → Type 0) (l : ChannelState) (channels : List ChannelState) → AllByRecursion (λ other. other ≢ l.channel) (numbers_in channels)
    → ((k : ChannelState) → k.channel ≢ l.channel → P k → Q k) → AllByRecursion P channels → AllByRecursion Q channels
all_others P Q l [] others step all = tt
all_others P Q l (k ∷ channels) others step all = (step k others.0 all.0, all_others P Q l channels others.1 step all.1)

pub stands_apart : (c i : ℕ) (l : ChannelState) (channels : List ChannelState) → AllByRecursion (λ other. other ≢ c) (numbers_in channels) → slice_get channels i ≡ Some l → l.channel ≢ c
stands_apart c i l [] others at = absurd cc
stands_apart c zero l (k ∷ channels) others at = let same : k ≡ l = cc in subst (λ (x : ChannelState). x.channel ≢ c) same others.0
stands_apart c (suc i) l (k ∷ channels) others at = stands_apart c i l channels others.1 at

all_set : (P Q : ChannelState → Type 0) (channels : List ChannelState) (i : ℕ) (l new : ChannelState) → AreDistinct (numbers_in channels) → slice_get channels i ≡ Some l
    → ((k : ChannelState) → k.channel ≢ l.channel → P k → Q k) → AllByRecursion P channels → Q new → AllByRecursion Q (slice_set channels i new)
all_set P Q [] i l new distinct at step all q = absurd cc
all_set P Q (k ∷ channels) zero l new distinct at step all q =
    let same : k ≡ l = cc in
    (q, all_others P Q l channels (others_of k.channel l.channel (numbers_in channels) (ap (λ (x : ChannelState). x.channel) same) distinct.0) step all.1)
all_set P Q (k ∷ channels) (suc i) l new distinct at step all q =
    let apart : l.channel ≢ k.channel = stands_apart k.channel i l channels distinct.0 at in
    (step k (λ (e : k.channel ≡ l.channel). apart (sym e)) all.0, all_set P Q channels i l new distinct.1 at step all.1 q)

pub numbers_set : (channels : List ChannelState) (i : ℕ) (l new : ChannelState) → slice_get channels i ≡ Some l → new.channel ≡ l.channel → numbers_in (slice_set channels i new) ≡ numbers_in channels
numbers_set [] i l new at same = absurd cc
numbers_set (k ∷ channels) zero l new at same = let here : l ≡ k = cc in ap (λ (c : ℕ). c ∷ numbers_in channels) (same ∙ ap (λ (x : ChannelState). x.channel) here)
numbers_set (k ∷ channels) (suc i) l new at same = ap (λ (cs : List ℕ). k.channel ∷ cs) (numbers_set channels i l new at same)

pub one_of : (P : ChannelState → Type 0) (channels : List ChannelState) (i : ℕ) (l : ChannelState) → slice_get channels i ≡ Some l → AllByRecursion P channels → P l
one_of P [] i l at all = absurd cc
one_of P (k ∷ channels) zero l at all = let same : k ≡ l = cc in subst P same all.0
one_of P (k ∷ channels) (suc i) l at all = one_of P channels i l at all.1

-- what holds once one of them has changed, held before where it did of that one
all_before : (P : ChannelState → Type 0) (channels : List ChannelState) (i : ℕ) (l new : ChannelState) → slice_get channels i ≡ Some l → (P new → P l) → AllByRecursion P (slice_set channels i new) → AllByRecursion P channels
all_before P [] i l new at back all = tt
all_before P (k ∷ channels) zero l new at back all = let same : l ≡ k = cc in (subst P same (back all.0), all.1)
all_before P (k ∷ channels) (suc i) l new at back all = (all.0, all_before P channels i l new at back all.1)

the_new : (P : ChannelState → Type 0) (channels : List ChannelState) (i : ℕ) (l new : ChannelState) → slice_get channels i ≡ Some l → AllByRecursion P (slice_set channels i new) → P new
the_new P [] i l new at all = absurd cc
the_new P (k ∷ channels) zero l new at all = all.0
the_new P (k ∷ channels) (suc i) l new at all = the_new P channels i l new at all.1

abbrev AllRecorded : List Record → Type 0
AllRecorded rs = AllByRecursion (λ r. IsRecorded (numbered 0 r)) rs

-- the records before the last one, and that one
last_apart : (rs : List Record) (made : ℕ) (r : Record) → slice_get rs made ≡ Some r → AllRecorded (take (made + 1) rs) → AllRecorded (take made rs) × IsRecorded (numbered 0 r)
last_apart [] made r at all = absurd cc
last_apart (x ∷ rs) zero r at all = let same : x ≡ r = cc in (tt, subst (λ (y : Record). IsRecorded (numbered 0 y)) same all.0)
last_apart (x ∷ rs) (suc made) r at all =
    let longer : suc made + 1 ≡ suc (made + 1) = omega arith in
    let whole : AllRecorded (take (suc (made + 1)) (x ∷ rs)) = subst (λ (k : ℕ). AllRecorded (take k (x ∷ rs))) longer all in
    let later = last_apart rs made r at whole.1 in
    ((whole.0, later.0), later.1)

any_number : (k n : ℕ) (r : Record) → IsRecorded (numbered k r) → IsRecorded (numbered n r)
any_number k n r is = record { stamp = is.stamp; block = is.block; gaps = is.gaps; words = is.words }

all_more : (items : List Item) (x : Item) → AllByRecursion IsItem items → IsItem x → AllByRecursion IsItem (items ++ x ∷ [])
all_more [] x all last = (last, tt)
all_more (y ∷ items) x all last = (all.0, all_more items x all.1 last)

-- ---- a channel with one item more

-- another channel
channel_apart : (items : List Item) (x : Item) (k : ChannelState) → channel_of x ≢ k.channel → IsChannel items k → IsChannel (items ++ x ∷ []) k
channel_apart items x k apart is = record { channel = is.channel; low = is.low; settled = other_more k.channel items x apart ∙ is.settled }

channel_kept : (items : List Item) (l : ChannelState) (r : Record) → slice_get (all_records l) l.made ≡ Some r → IsChannel items l → IsChannel (items ++ message_of l r ∷ []) (with_message l true)
channel_kept items l r at is = record {
  channel = is.channel;
  low = none_above_more l.made l.refused is.low;
  settled = own_more l.channel items (message_of l r) refl ∙ ap (λ (ns : List Numbered). ns ++ numbered (l.made + 1) r ∷ []) is.settled ∙ sym (kept_more l.refused l.made (all_records l) r is.low at);
}

channel_refused : (items : List Item) (l : ChannelState) (r : Record) → slice_get (all_records l) l.made ≡ Some r → IsChannel items l → IsChannel items (with_message l false)
channel_refused items l r at is = record {
  channel = is.channel;
  low = none_above_next l.made l.refused is.low;
  settled = is.settled ∙ sym (kept_same l.refused l.made (all_records l) r is.low at);
}

channel_ended : (items : List Item) (l : ChannelState) → IsChannel items l → IsChannel (items ++ item.End l.channel ∷ []) (with_end l)
channel_ended items l is = record {
  channel = is.channel;
  low = is.low;
  settled = own_more l.channel items (item.End l.channel) refl ∙ append-nil (records_in l.channel items) ∙ is.settled;
}

-- ---- a bench with one step more

-- what is taken and what is queued, where one item comes behind
behind : (b : Bench) (x : Item) → (b.taken ++ b.queue) ++ x ∷ [] ≡ b.taken ++ (b.queue ++ x ∷ [])
behind b x = append_assoc b.taken b.queue (x ∷ [])

abbrev pub with_channel : Bench → ℕ → ChannelState → List Item → Bench
with_channel b i new queue = record { channels = slice_set b.channels i new; capacity = b.capacity; queue = queue; taken = b.taken }

-- a channel puts an item into the queue
channel_queues : (b : Bench) (i : ℕ) (l new : ChannelState) (x : Item) → slice_get b.channels i ≡ Some l → new.channel ≡ l.channel → channel_of x ≡ l.channel → (HasRecorded new → HasRecorded l × IsItem x)
    → (IsChannel (b.taken ++ b.queue) l → IsChannel ((b.taken ++ b.queue) ++ x ∷ []) new) → IsBench b → IsBench (with_channel b i new (b.queue ++ x ∷ []))
channel_queues b i l new x at same of good step is = record {
  distinct = subst AreDistinct (sym (numbers_set b.channels i l new at same)) is.distinct;
  channels =
      let xs : List Item = b.taken ++ b.queue in
      subst (λ (ys : List Item). AllByRecursion (IsChannel ys) (slice_set b.channels i new)) (behind b x)
      (all_set (IsChannel xs) (IsChannel (xs ++ x ∷ [])) b.channels i l new is.distinct at
      (λ k other channel. channel_apart xs x k (λ e. other (sym e ∙ of)) channel) is.channels (step (one_of (IsChannel xs) b.channels i l at is.channels)));
  items = λ recorded.
      subst (AllByRecursion IsItem) (behind b x)
      (all_more (b.taken ++ b.queue) x (is.items (all_before HasRecorded b.channels i l new at (λ h. (good h).0) recorded)) (good (the_new HasRecorded b.channels i l new at recorded)).1);
}

-- a channel's message is refused
channel_drops : (b : Bench) (i : ℕ) (l new : ChannelState) → slice_get b.channels i ≡ Some l → new.channel ≡ l.channel → (HasRecorded new → HasRecorded l)
    → (IsChannel (b.taken ++ b.queue) l → IsChannel (b.taken ++ b.queue) new) → IsBench b → IsBench (with_channel b i new b.queue)
channel_drops b i l new at same back step is = record {
  distinct = subst AreDistinct (sym (numbers_set b.channels i l new at same)) is.distinct;
  channels =
      let P : ChannelState → Type 0 = IsChannel (b.taken ++ b.queue) in
      all_set P P b.channels i l new is.distinct at (λ k other channel. channel) is.channels (step (one_of P b.channels i l at is.channels));
  items = λ recorded. is.items (all_before HasRecorded b.channels i l new at back recorded);
}

after_message : (b : Bench) (i : ℕ) (l : ChannelState) (r : Record) (room : Bool) → slice_get b.channels i ≡ Some l → slice_get (all_records l) l.made ≡ Some r → IsBench b
    → IsBench (with_channel b i (with_message l room) (cond room (b.queue ++ message_of l r ∷ []) b.queue))
after_message b i l r true at next is =
    let channel : IsChannel (b.taken ++ b.queue) l = one_of (IsChannel (b.taken ++ b.queue)) b.channels i l at is.channels in
    channel_queues b i l (with_message l true) (message_of l r) at refl refl
    (λ recorded. (let parts = last_apart (all_records l) l.made r next recorded in (parts.0, (channel.channel, (any_number 0 (l.made + 1) r parts.1, tt)))))
    (channel_kept (b.taken ++ b.queue) l r next) is
after_message b i l r false at next is = channel_drops b i l (with_message l false) at refl (λ recorded. (last_apart (all_records l) l.made r next recorded).0) (channel_refused (b.taken ++ b.queue) l r next) is

after_end : (b : Bench) (i : ℕ) (l : ChannelState) (stays : Bool) → slice_get b.channels i ≡ Some l → IsBench b
    → IsBench (cond stays b (with_channel b i (with_end l) (b.queue ++ item.End l.channel ∷ [])))
after_end b i l true at is = is
after_end b i l false at is =
    let channel : IsChannel (b.taken ++ b.queue) l = one_of (IsChannel (b.taken ++ b.queue)) b.channels i l at is.channels in
    channel_queues b i l (with_end l) (item.End l.channel) at refl refl (λ recorded. (recorded, (channel.channel, tt))) (channel_ended (b.taken ++ b.queue) l) is

-- a message that is offered is the next of the channel's job
next_record : (l : ChannelState) (r : Record) → next_in l ≡ Some r → slice_get (all_records l) l.made ≡ Some r
next_record l r next = go l.ended next
  where
    go : (ended : Bool) → cond ended None (slice_get (all_records l) l.made) ≡ Some r → slice_get (all_records l) l.made ≡ Some r
    go true next = absurd cc
    go false next = next

after_next : (b : Bench) (i : ℕ) (l : ChannelState) (next : Option Record) → slice_get b.channels i ≡ Some l → next_in l ≡ next → IsBench b → IsBench (next_offered i l next b)
after_next b i l (Some r) at next is = after_message b i l r (has_room b) at (next_record l r next) is
after_next b i l None at next is = after_end b i l (l.ended || not (has_room b)) at is

after_offer : (b : Bench) (i : ℕ) (channel : Option ChannelState) → slice_get b.channels i ≡ channel → IsBench b → IsBench (channel_offers i channel b)
after_offer b i None at is = is
after_offer b i (Some l) at is = after_next b i l (next_in l) at refl is

after_take : (b : Bench) (queue : List Item) → b.queue ≡ queue → IsBench b → IsBench (taken_from queue b)
after_take b [] at is = is
after_take b (x ∷ queue) at is =
    let same : b.taken ++ b.queue ≡ (b.taken ++ x ∷ []) ++ queue = ap (λ (q : List Item). b.taken ++ q) at ∙ sym (append_assoc b.taken (x ∷ []) queue) in
    record {
      distinct = is.distinct;
      channels = subst (λ (xs : List Item). AllByRecursion (IsChannel xs) b.channels) same is.channels;
      items = λ recorded. subst (AllByRecursion IsItem) same (is.items recorded);
    }

-- an action at a message to come changes none of those so far
channel_posted : (items : List Item) (l : ChannelState) (action : HostAction) → IsChannel items l → IsChannel items (with_post l action)
channel_posted items l action is = record {
  channel = is.channel;
  low = is.low;
  settled = is.settled ∙ ap (kept_records l.refused) (sym (records_posted l action));
}

recorded_posted : (l : ChannelState) (action : HostAction) → HasRecorded (with_post l action) → HasRecorded l
recorded_posted l action all = subst AllRecorded (records_posted l action) all

after_post : (b : Bench) (i : ℕ) (action : HostAction) (channel : Option ChannelState) → slice_get b.channels i ≡ channel → IsBench b → IsBench (channel_posts i channel action b)
after_post b i action None at is = is
after_post b i action (Some l) at is =
    channel_drops b i l (with_post l action) at refl (recorded_posted l action) (channel_posted (b.taken ++ b.queue) l action) is

after_step : (b : Bench) (s : Step) → IsBench b → IsBench (stepped s b)
unfolding stepped
after_step b (Offer i) is = after_offer b i (slice_get b.channels i) refl is
after_step b Take is = after_take b b.queue refl is
after_step b (Post i action) is = after_post b i action (slice_get b.channels i) refl is

pub after_all : (b : Bench) (steps : List Step) → IsBench b → IsBench (after_steps steps b)
after_all b [] is = is
after_all b (s ∷ ss) is = after_all (stepped s b) ss (after_step b s is)

-- ---- at the beginning

fresh_channel : (l : ChannelState) → IsFresh l → IsChannel [] l
fresh_channel l is = record {
  channel = is.channel;
  low = subst (NoneAbove l.made) (sym is.refused) tt;
  settled = rw is.made refl;
}

fresh_channels : (channels : List ChannelState) → AllByRecursion IsFresh channels → AllByRecursion (IsChannel []) channels
fresh_channels [] all = tt
fresh_channels (l ∷ channels) all = (fresh_channel l all.0, fresh_channels channels all.1)

pub at_first : (capacity : ℕ) (channels : List ChannelState) → AllByRecursion IsFresh channels → AreDistinct (numbers_in channels) → IsBench (begun capacity channels)
at_first capacity channels all distinct = record { distinct = distinct; channels = fresh_channels channels all; items = λ recorded. tt }

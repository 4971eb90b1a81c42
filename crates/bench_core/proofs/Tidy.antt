-- What else holds of a bench that steps led to: what is queued is of its channels, and items are no more than messages and end marks.
use Rattle.std.proofs.Common.{◌≡◌, ℕ, zero, suc, ◌+◌, ◌*◌, ◌≤◌, Bool, true, false, not, ◌||◌, cond, List, [], ◌∷◌, ◌++◌, length, slice_get, slice_set, Option, Some, None, refl, sym, ap, ◌∙◌, arith, subst}
use Rattle.std.specs.List.{AllByRecursion}
use Rattle.std.proofs.lemmas.List.{length-append}
use Rattle.bc_machine.specs.declared.placed.HostAction.{HostAction}
use Rattle.ch11_f1.specs.declared.Record.{Record}
use Rattle.ch11_builder.specs.Held.{Held, packet_of}
use Rattle.ch11_recording.specs.declared.item.Item.{Item}
use Rattle.ch11_recording.specs.declared.item.Item.TheVariants as item
use Rattle.ch11_recording.specs.Items.{channel_of}
use Rattle.ch11_recording.specs.WrittenFile.{Format, closes, held_in, closed_by, closed_packets_behind, closed_packets}
use Rattle.bench_core.specs.declared.step.Step.{Step}
use Rattle.bench_core.specs.declared.step.Step.TheVariants.{Offer, Take, Post}
use Rattle.bench_core.specs.Bench.{ChannelState, Bench, begun, has_room, with_message, with_end, message_of, next_offered, next_in, channel_offers, taken_from, with_post, channel_posts, stepped, after_steps}
use Rattle.bench_core.specs.Channels.{IsMade}
use Rattle.bench_core.proofs.Steps.{numbers_in, numbers_set, with_channel}

-- the channel stands in the list
abbrev pub Stands : ℕ → List ℕ → Type 0
Stands c channels = (i : ℕ) × (slice_get channels i ≡ Some c)

abbrev bit : Bool → ℕ
bit true = 1
bit false = 0

-- how many items a channel has offered
abbrev weight : ChannelState → ℕ
weight l = l.made + bit l.ended

abbrev pub total : List ChannelState → ℕ
total [] = 0
total (l ∷ channels) = weight l + total channels

abbrev AreKnown : List ChannelState → List Item → Type 0
AreKnown channels items = AllByRecursion (λ x. Stands (channel_of x) (numbers_in channels)) items

pub record IsTidy (b : Bench) : Type 0 where
  pub known : AreKnown b.channels b.queue
  pub count : length b.taken + length b.queue ≤ total b.channels

pub channel_at : (channels : List ChannelState) (i : ℕ) (l : ChannelState) → slice_get channels i ≡ Some l → slice_get (numbers_in channels) i ≡ Some l.channel
channel_at [] i l at = absurd cc
channel_at (k ∷ channels) zero l at = let same : k ≡ l = cc in ap (λ (x : ChannelState). Some x.channel) same
channel_at (k ∷ channels) (suc i) l at = channel_at channels i l at

total_set : (channels : List ChannelState) (i : ℕ) (l new : ChannelState) → slice_get channels i ≡ Some l → total (slice_set channels i new) + weight l ≡ total channels + weight new
total_set [] i l new at = absurd cc
total_set (k ∷ channels) zero l new at = let same : k ≡ l = cc in let weighs : weight k ≡ weight l = ap weight same in omega (arith, weighs)
total_set (k ∷ channels) (suc i) l new at = let rest = total_set channels i l new at in omega (arith, rest)

known_more : (channels : List ChannelState) (items : List Item) (x : Item) → AreKnown channels items → Stands (channel_of x) (numbers_in channels) → AreKnown channels (items ++ x ∷ [])
known_more channels [] x all last = (last, tt)
known_more channels (y ∷ items) x all last = (all.0, known_more channels items x all.1 last)

known_set : (channels : List ChannelState) (i : ℕ) (l new : ChannelState) (items : List Item) → slice_get channels i ≡ Some l → new.channel ≡ l.channel → AreKnown channels items → AreKnown (slice_set channels i new) items
known_set channels i l new items at same all = subst (λ (cs : List ℕ). AllByRecursion (λ x. Stands (channel_of x) cs) items) (sym (numbers_set channels i l new at same)) all

-- ---- one step more

tidy_queues : (b : Bench) (i : ℕ) (l new : ChannelState) (x : Item) → slice_get b.channels i ≡ Some l → new.channel ≡ l.channel → channel_of x ≡ l.channel → weight new ≡ weight l + 1
    → IsTidy b → IsTidy (with_channel b i new (b.queue ++ x ∷ []))
tidy_queues b i l new x at same of more is = record {
  known =
      known_set b.channels i l new (b.queue ++ x ∷ []) at same
      (known_more b.channels b.queue x is.known (i, channel_at b.channels i l at ∙ ap (λ (c : ℕ). Some c) (sym of)));
  count = let sum = total_set b.channels i l new at in omega (arith, sum, more, is.count, length-append b.queue (x ∷ []));
}

tidy_drops : (b : Bench) (i : ℕ) (l new : ChannelState) → slice_get b.channels i ≡ Some l → new.channel ≡ l.channel → weight new ≡ weight l + 1 → IsTidy b → IsTidy (with_channel b i new b.queue)
tidy_drops b i l new at same more is = record {
  known = known_set b.channels i l new b.queue at same is.known;
  count = let sum = total_set b.channels i l new at in omega (arith, sum, more, is.count);
}

tidy_message : (b : Bench) (i : ℕ) (l : ChannelState) (r : Record) (room : Bool) → slice_get b.channels i ≡ Some l → IsTidy b
    → IsTidy (with_channel b i (with_message l room) (cond room (b.queue ++ message_of l r ∷ []) b.queue))
tidy_message b i l r true at is = tidy_queues b i l (with_message l true) (message_of l r) at refl refl (omega arith) is
tidy_message b i l r false at is = tidy_drops b i l (with_message l false) at refl (omega arith) is

tidy_end : (b : Bench) (i : ℕ) (l : ChannelState) (ended room : Bool) → slice_get b.channels i ≡ Some l → l.ended ≡ ended → IsTidy b
    → IsTidy (cond (ended || not room) b (with_channel b i (with_end l) (b.queue ++ item.End l.channel ∷ [])))
tidy_end b i l true room at e is = is
tidy_end b i l false false at e is = is
tidy_end b i l false true at e is =
    let none : ◌≡◌ {A = ℕ} (bit l.ended) 0 = ap (λ (x : Bool). bit x) e in
    tidy_queues b i l (with_end l) (item.End l.channel) at refl refl (omega (arith, none)) is

tidy_next : (b : Bench) (i : ℕ) (l : ChannelState) (next : Option Record) → slice_get b.channels i ≡ Some l → IsTidy b → IsTidy (next_offered i l next b)
tidy_next b i l (Some r) at is = tidy_message b i l r (has_room b) at is
tidy_next b i l None at is = tidy_end b i l l.ended (has_room b) at refl is

tidy_offer : (b : Bench) (i : ℕ) (channel : Option ChannelState) → slice_get b.channels i ≡ channel → IsTidy b → IsTidy (channel_offers i channel b)
tidy_offer b i None at is = is
tidy_offer b i (Some l) at is = tidy_next b i l (next_in l) at is

tidy_take : (b : Bench) (queue : List Item) → b.queue ≡ queue → IsTidy b → IsTidy (taken_from queue b)
tidy_take b [] at is = is
tidy_take b (x ∷ queue) at is =
    let known : AreKnown b.channels (x ∷ queue) = subst (AreKnown b.channels) at is.known in
    record {
      known = known.1;
      count = omega (arith, is.count, ap (λ (xs : List Item). length xs) at, length-append b.taken (x ∷ []));
    }

tidy_post : (b : Bench) (i : ℕ) (action : HostAction) (channel : Option ChannelState) → slice_get b.channels i ≡ channel → IsTidy b → IsTidy (channel_posts i channel action b)
tidy_post b i action None at is = is
tidy_post b i action (Some l) at is =
    let new : ChannelState = with_post l action in
    record {
      known = known_set b.channels i l new b.queue at refl is.known;
      count = let sum = total_set b.channels i l new at in let same : weight new ≡ weight l = refl in omega (arith, sum, same, is.count);
    }

tidy_step : (b : Bench) (s : Step) → IsTidy b → IsTidy (stepped s b)
unfolding stepped
tidy_step b (Offer i) is = tidy_offer b i (slice_get b.channels i) refl is
tidy_step b Take is = tidy_take b b.queue refl is
tidy_step b (Post i action) is = tidy_post b i action (slice_get b.channels i) refl is

pub tidy_all : (b : Bench) (steps : List Step) → IsTidy b → IsTidy (after_steps steps b)
tidy_all b [] is = is
tidy_all b (s ∷ ss) is = tidy_all (stepped s b) ss (tidy_step b s is)

pub tidy_first : (capacity : ℕ) (channels : List ChannelState) → IsTidy (begun capacity channels)
tidy_first capacity channels = record { known = tt; count = omega arith }

-- ---- how many packets there are at most

one_at_most : (b : Bool) → bit b ≤ 1
one_at_most true = omega arith
one_at_most false = omega arith

total_few : (channels : List ChannelState) → AllByRecursion IsMade channels → total channels ≤ length channels * 1000001
total_few [] all = omega arith
total_few (l ∷ channels) all = let rest = total_few channels all.1 in omega (arith, rest, all.0.few, one_at_most l.ended)

closed_few : (h : Held) (x : Item) (b : Bool) → length (cond b (packet_of h ∷ []) []) ≤ 1
closed_few h x true = omega arith
closed_few h x false = omega arith

behind_few : (f : Format) (earlier items : List Item) → length (closed_packets_behind f earlier items) ≤ length items
behind_few f earlier [] = omega arith
behind_few f earlier (x ∷ items) =
    let h : Held = held_in f (channel_of x) earlier in
    let rest = behind_few f (earlier ++ x ∷ []) items in
    omega (arith, rest, closed_few h x (closes h x), length-append (closed_by h x) (closed_packets_behind f (earlier ++ x ∷ []) items))

packets_few : (f : Format) (items : List Item) → length (closed_packets f items) ≤ length items
unfolding closed_packets
packets_few f items = behind_few f [] items

pub packets_at_most : (f : Format) (b : Bench) → IsTidy b → AllByRecursion IsMade b.channels → length b.channels ≤ 32 → length (closed_packets f b.taken) ≤ 32000032
packets_at_most f b is made few =
    let most = total_few b.channels made in omega (arith, most, packets_few f b.taken, is.count, few)

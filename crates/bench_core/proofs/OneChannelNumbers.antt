-- Numbered records as items, one more at a time.
use Rattle.std.proofs.Common.{◌≡◌, ℕ, zero, suc, ◌+◌, ◌<◌, ◌^◌, List, [], ◌∷◌, ◌++◌, length, take, map, refl, sym, ap, ◌∙◌, eq-eqb, arith}
use Rattle.std.specs.Prelude.{Bool, true, false, cond, ◌==◌, Some, slice_get}
use Rattle.std.specs.List.{AllByRecursion}
use Rattle.std.proofs.lemmas.List.{map-append}
use Rattle.ch11_f1.specs.declared.Record.{Record}
use Rattle.ch11_builder.specs.Packet.{Numbered, messages_of}
use Rattle.ch11_builder.specs.Held.{Held, fresh, fits, pushed, closed, with_record}
use Rattle.ch11_builder.specs.Recorded.{IsRecorded}
use Rattle.ch11_recording.specs.declared.item.Item.{Item}
use Rattle.ch11_recording.specs.declared.item.Item.TheVariants as item
use Rattle.ch11_recording.specs.Items.{numbered, numbered_from, part_of, to_the_end}
use Rattle.ch11_recording.specs.Laws.{IsItem}
use Rattle.ch11_recording.specs.WrittenFile.{Format, channel_in, held_in}
use Rattle.ch11_recording.proofs.Growth.{after_more}
use Rattle.bench_core.specs.OneChannel.{message_of, items_of}

numbers_more : (k : ℕ) (rs : List Record) (q : Record) → numbered_from k (rs ++ q ∷ []) ≡ numbered_from k rs ++ numbered (k + length rs) q ∷ []
numbers_more k [] q = ap (λ i. numbered i q ∷ []) (sym (plus_none k))
  where
    plus_none : (i : ℕ) → i + 0 ≡ i
    plus_none i = omega arith
numbers_more k (r ∷ rs) q =
    ap (λ (ns : List Numbered). numbered k r ∷ ns) (numbers_more (suc k) rs q ∙ ap (λ i. numbered_from (suc k) rs ++ numbered i q ∷ []) (over k (length rs)))
  where
    over : (i j : ℕ) → suc i + j ≡ i + suc j
    over i j = omega arith

-- one more record is one more item
pub items_more : (channel n : ℕ) (rs : List Record) (q : Record) → length rs ≡ n → items_of channel (rs ++ q ∷ []) ≡ items_of channel rs ++ item.Message channel (n + 1) q ∷ []
items_more channel n rs q long =
    let i : 1 + length rs ≡ n + 1 = omega (arith, long) in
    ap (map (message_of channel)) (numbers_more 1 rs q) ∙ map-append (message_of channel) (numbered_from 1 rs) (numbered (1 + length rs) q ∷ [])
    ∙ ap (λ j. items_of channel rs ++ item.Message channel j q ∷ []) i

all_more : (ns : List Numbered) (n : Numbered) → AllByRecursion IsRecorded ns → IsRecorded n → AllByRecursion IsRecorded (ns ++ n ∷ [])
all_more [] n all is = (is, tt)
all_more (m ∷ ns) n all is = (all.0, all_more ns n all.1 is)

pub recorded_more : (n : ℕ) (rs : List Record) (q : Record) → length rs ≡ n → AllByRecursion IsRecorded (numbered_from 1 rs) → IsRecorded (numbered (n + 1) q)
    → AllByRecursion IsRecorded (numbered_from 1 (rs ++ q ∷ []))
recorded_more n rs q long all is =
    let i : n + 1 ≡ 1 + length rs = omega (arith, long) in
    rw (numbers_more 1 rs q, ← i) (all_more (numbered_from 1 rs) (numbered (n + 1) q) all is)

-- the first elements and the next
pub take_next : (xs : List Record) (n : ℕ) (q : Record) → slice_get xs n ≡ Some q → take (suc n) xs ≡ take n xs ++ q ∷ []
take_next [] n q e = absurd (cc)
take_next (x ∷ xs) zero q e = let is : x ≡ q = cc in ap (λ r. r ∷ []) is
take_next (x ∷ xs) (suc n) q e = ap (λ (rs : List Record). x ∷ rs) (take_next xs n q e)

-- a channel's items leave it the channel's
pushed_channel : (h : Held) (n : Numbered) → (pushed h n).channel ≡ h.channel
unfolding pushed
pushed_channel h n = go (fits h n)
  where
    go : (b : Bool) → (with_record (cond b h (closed h)) n).channel ≡ h.channel
    go true = refl
    go false = refl

-- one more record in what a channel holds
pub held_more : (f : Format) (channel : ℕ) (items : List Item) (number : ℕ) (q : Record) → (held_in f channel items).channel.channel ≡ channel
    → held_in f channel (items ++ item.Message channel number q ∷ []) ≡ pushed (held_in f channel items) (numbered number q)
held_more f channel items number q same =
    let yes : (channel == (held_in f channel items).channel.channel) ≡ true = eq-eqb channel (held_in f channel items).channel.channel (sym same) in
    after_more (fresh (channel_in f channel)) items (item.Message channel number q) ∙ rw yes refl

pub held_channel : (f : Format) (channel : ℕ) (items : List Item) (number : ℕ) (q : Record) → (held_in f channel items).channel.channel ≡ channel
    → (held_in f channel (items ++ item.Message channel number q ∷ [])).channel.channel ≡ channel
held_channel f channel items number q same =
    ap (λ (h : Held). h.channel.channel) (held_more f channel items number q same) ∙ ap (λ c. c.channel) (pushed_channel (held_in f channel items) (numbered number q)) ∙ same

-- records and then the end mark
pub ended : (channel : ℕ) (ns : List Numbered) → map (message_of channel) ns ++ item.End channel ∷ [] ≡ to_the_end channel ns
ended channel [] = refl
ended channel (n ∷ ns) = ap (λ (xs : List Item). message_of channel n ∷ xs) (ended channel ns)

pub own_part : (channel : ℕ) (ns : List Numbered) → part_of channel (to_the_end channel ns) ≡ to_the_end channel ns
own_part channel [] = rw (eq-eqb channel channel refl) refl
own_part channel (n ∷ ns) = rw (eq-eqb channel channel refl) (ap (λ (xs : List Item). message_of channel n ∷ xs) (own_part channel ns))

pub all_items : (channel : ℕ) (ns : List Numbered) → channel < 2 ^ 16 → AllByRecursion IsRecorded ns → AllByRecursion IsItem (to_the_end channel ns)
all_items channel [] low all = ((low, tt), tt)
all_items channel (n ∷ ns) low all = ((low, (all.0, tt)), all_items channel ns low all.1)

pub messages_again : (k : ℕ) (rs : List Record) → messages_of (numbered_from k rs) ≡ rs
messages_again k [] = refl
messages_again k (r ∷ rs) = ap (λ (qs : List Record). r ∷ qs) (messages_again (suc k) rs)
